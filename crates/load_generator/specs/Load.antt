-- The load generator: the requests that it makes, one after the other, by its numbers and by the
-- latest grant.
use Rattle.std.specs.Prelude.{◌≡◌, ℕ, ◌+◌, ◌*◌, ◌/◌, ◌%◌, ◌==◌, List, [], ◌∷◌, ◌++◌, codes, decimal, Option, Some, None, false, ⊤, if◌then◌else◌}
use Rattle.asp_messages.specs.declared.request.Request.{Request}
use Rattle.asp_messages.specs.declared.request.Ask.{Ask}
use Rattle.asp_messages.specs.declared.request.Ask.TheVariants.{Read, Acquire, Release, Write, Remove, Reset}
use Rattle.asp_messages.specs.declared.reply.Reply.{Reply}
use Rattle.asp_messages.specs.declared.reply.Reply.TheVariants.{Found}
use Rattle.asp_messages.specs.Fields.{most_cookie}
use Rattle.plain_desk.specs.Draws.{draw_of, draws}
use Rattle.session_machine.specs.declared.entry.Entry.{Entry}
use Rattle.session_machine.specs.declared.entry.Deed.TheVariants.{Asked}

-- ---- numbers

-- the number behind this one
abbrev pub number_after : ℕ → ℕ
number_after number = (number * 1103515245 + 12345) % 2147483648

-- the part of a number that a request is made by
abbrev pub part_of : ℕ → ℕ
part_of number = number / 65536

-- ---- requests

-- a grant: the key and the cookie of an acquire that was answered `Found`
pub record Granted : Type 0 where
  pub key : List ℕ
  pub cookie : ℕ

-- a key of a number
abbrev pub numbered_key : ℕ → List ℕ
numbered_key n = codes "/" ++ decimal n

-- a request for a key
abbrev pub asking : List ℕ → Ask → Request
asking key ask = record { key = key; ask = ask }

-- a write of the k-th request
abbrev pub writing : ℕ → Option ℕ → Ask
writing k cookie = Write (decimal k) 20 false cookie

-- the latest grant is released
abbrev pub release : List ℕ → Option Granted → Request
release drawn None = asking drawn (Release 0)
release drawn (Some grant) = asking grant.key (Release grant.cookie)

-- a write under the latest grant
abbrev pub named_write : ℕ → List ℕ → Option Granted → Request
named_write k drawn None = asking drawn (writing k None)
named_write k drawn (Some grant) = asking grant.key (writing k (Some grant.cookie))

-- the k-th request, by its kind, the drawn key and the latest grant
abbrev pub request_of : ℕ → ℕ → List ℕ → Option Granted → Request
request_of kind k drawn grant =
    if kind == 0 then asking drawn (Remove None)
    else (if kind == 2 then asking drawn Read
    else (if kind == 4 then release drawn grant
    else (if kind == 5 then named_write k drawn grant
    else (if kind == 6 then asking drawn Acquire
    else (if kind == 7 then asking drawn Reset
    else asking drawn (writing k None))))))

-- ---- the generator

-- A generator between two requests: its number, how many requests were made, and the latest grant.
pub record Generating : Type 0 where
  pub number : ℕ
  pub made : ℕ
  pub grant : Option Granted

-- no request was made
abbrev pub seeded : ℕ → Generating
seeded seed = record { number = seed; made = 0; grant = None }

-- the request that is made next
abbrev pub next_request : Generating → Request
next_request g =
    let part = part_of (number_after g.number) in
    request_of (part % 8) (g.made + 1) (numbered_key (part / 8)) g.grant

-- the moment of the request that is made next, in milliseconds
abbrev pub next_moment : Generating → ℕ
next_moment g = (g.made + 1) * 1000

-- the latest grant after a request was answered
abbrev pub grant_after : Option Granted → List ℕ → Ask → Reply → Option Granted
grant_after grant key Acquire (Found body minutes (Some cookie) first) =
    Some (record { key = key; cookie = cookie })
grant_after grant key ask reply = grant

-- the generator after its next request was answered
abbrev pub generator_after : Generating → Reply → Generating
generator_after g reply = record {
  number = number_after g.number;
  made = g.made + 1;
  grant = grant_after g.grant (next_request g).key (next_request g).ask reply;
}

-- ---- the entries

-- The entries are those of a generator's requests from here on, in order, where j cookies have been
-- drawn: caller 0, each at its moment, and each acquire draws the next cookie, from 1 on.
abbrev pub AreMade : Generating → ℕ → List Entry → Type 0
AreMade g j [] = ⊤
AreMade g j (e ∷ es) =
    (e.caller ≡ 0) × (e.moment ≡ next_moment g) × (e.deed ≡ Asked (next_request g))
    × (e.drawn ≡ draw_of 1 most_cookie j (next_request g).ask)
    × AreMade (generator_after g e.reply) (j + draws (next_request g).ask) es

-- the generator after these entries
abbrev pub generated : Generating → List Entry → Generating
generated g [] = g
generated g (e ∷ es) = generated (generator_after g e.reply) es
