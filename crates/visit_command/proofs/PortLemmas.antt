-- The ports in a word, part by part.
use Rattle.std.proofs.Common.{◌≡◌, ◌≢◌, ℕ, ◌+◌, ◌<◌, ◌≤◌, Bool, true, false, cond, List, [], ◌∷◌, ◌++◌, length, Option, Some, None, refl, sym, ap, ◌∙◌, arith, append_assoc, append-nil, length-append}
use Rattle.std.specs.Prelude.{◌==◌, nat_le}
use Rattle.std.proofs.lemmas.Bool.Decides.{nat_tests}
use Rattle.std.proofs.lemmas.List.Elements.{All-head, All-tail}
use Rattle.plain_words.specs.Words.{HasNo, SplitsAt}
use Rattle.visit_command.specs.ServerPorts.{with_byte, comma_parts, port_of, port_and, ports_in, ports_of}

no_comma : (byte : ℕ) → byte ≢ 44 → (byte == 44) ≡ false
no_comma byte other = grind (arith, nat_tests)

-- the last part
pub last_part : (text : List ℕ) → HasNo 44 text → comma_parts text ≡ text ∷ []
unfolding comma_parts
last_part [] none = refl
last_part (byte ∷ text) none =
    ap (λ b. cond b ([] ∷ comma_parts text) (with_byte byte (comma_parts text)))
    (no_comma byte (All-head (λ b. b ≢ 44) byte text none))
    ∙ ap (with_byte byte) (last_part text (All-tail (λ b. b ≢ 44) byte text none))

-- a part, and those behind its comma
first_part : (part behind : List ℕ) → HasNo 44 part
    → comma_parts (part ++ 44 ∷ behind) ≡ part ∷ comma_parts behind
unfolding comma_parts
first_part [] behind none = refl
first_part (byte ∷ part) behind none =
    ap (λ b. cond b ([] ∷ comma_parts (part ++ 44 ∷ behind))
    (with_byte byte (comma_parts (part ++ 44 ∷ behind))))
    (no_comma byte (All-head (λ b. b ≢ 44) byte part none))
    ∙ ap (with_byte byte) (first_part part behind (All-tail (λ b. b ≢ 44) byte part none))

pub cut_parts : (text part behind : List ℕ) → SplitsAt 44 text part behind
    → comma_parts text ≡ part ∷ comma_parts behind
cut_parts text part behind split =
    ap comma_parts split.joined ∙ first_part part behind split.first

with-some : (byte : ℕ) (parts : List (List ℕ)) → 0 < length (with_byte byte parts)
with-some byte [] = omega arith
with-some byte (part ∷ parts) = omega arith

one-some : (b : Bool) (byte : ℕ) (parts : List (List ℕ))
    → 0 < length (cond b ([] ∷ parts) (with_byte byte parts))
one-some true byte parts = omega arith
one-some false byte parts = with-some byte parts

-- there is a part
pub some_parts : (text : List ℕ) → 0 < length (comma_parts text)
unfolding comma_parts
some_parts [] = omega arith
some_parts (byte ∷ text) = one-some (byte == 44) byte (comma_parts text)

-- ports, and others behind them
abbrev pub ports_before : List ℕ → Option (List ℕ) → Option (List ℕ)
ports_before ports (Some others) = Some (ports ++ others)
ports_before ports None = None

before-none : (others : Option (List ℕ)) → others ≡ ports_before [] others
before-none (Some others) = refl
before-none None = refl

before-one : (ports : List ℕ) (port : ℕ) (others : Option (List ℕ))
    → ports_before ports (port_and (Some port) others) ≡ ports_before (ports ++ port ∷ []) others
before-one ports port (Some others) = ap Some (sym (append_assoc ports (port ∷ []) others))
before-one ports port None = refl

-- The word's ports so far, and the rest of it.
pub record PortsRead (word ports rest : List ℕ) : Type 0 where
  pub read : ports_in (comma_parts word) ≡ ports_before ports (ports_in (comma_parts rest))
  pub count : length (comma_parts word) ≡ length ports + length (comma_parts rest)

pub read_none : (word : List ℕ) → PortsRead word [] word
read_none word = record { read = before-none (ports_in (comma_parts word)); count = omega arith }

-- a part whose port is one more
pub read_more : (word ports rest part : List ℕ) (parts : List (List ℕ)) (port : ℕ)
    → PortsRead word ports rest → comma_parts rest ≡ part ∷ parts → port_of part ≡ Some port
    → (ports_in (comma_parts word) ≡ ports_before (ports ++ port ∷ []) (ports_in parts))
    × (length (comma_parts word) ≡ length (ports ++ port ∷ []) + length parts)
read_more word ports rest part parts port so cut is = (
  so.read ∙ ap (λ ps. ports_before ports (ports_in ps)) cut
      ∙ ap (λ p. ports_before ports (port_and p (ports_in parts))) is
      ∙ before-one ports port (ports_in parts),
  omega (arith, so.count, ap length cut, length-append ports (port ∷ [])),
)

pub read_next : (word ports rest part behind : List ℕ) (port : ℕ) → PortsRead word ports rest
    → SplitsAt 44 rest part behind → port_of part ≡ Some port
    → PortsRead word (ports ++ port ∷ []) behind
read_next word ports rest part behind port so split is =
    let more = read_more word ports rest part (comma_parts behind) port so
    (cut_parts rest part behind split) is in
    record { read = more.0; count = more.1 }

few : (n : ℕ) (ports : Option (List ℕ)) (found : Option (List ℕ)) → n ≤ 64 → ports ≡ found
    → cond (nat_le n 64) ports None ≡ found
few n ports found short is =
    let test : nat_le n 64 ≡ true = grind (arith, nat_tests) in
    ap (λ b. cond b ports None) test ∙ is

many : (n : ℕ) (ports : Option (List ℕ)) → 64 < n → cond (nat_le n 64) ports None ≡ None
many n ports long =
    let test : nat_le n 64 ≡ false = grind (arith, nat_tests) in
    ap (λ b. cond b ports None) test

either_none : (b : Bool) (ports : Option (List ℕ)) → ports ≡ None → cond b ports None ≡ None
either_none true ports none = none
either_none false ports none = refl

-- the last part's port is the last
pub read_last : (word ports rest : List ℕ) (port : ℕ) → PortsRead word ports rest → HasNo 44 rest
    → port_of rest ≡ Some port → length (ports ++ port ∷ []) ≤ 64
    → ports_of word ≡ Some (ports ++ port ∷ [])
read_last word ports rest port so none is short =
    let more = read_more word ports rest rest [] port so (last_part rest none) is in
    few (length (comma_parts word)) (ports_in (comma_parts word)) _ (omega (arith, more.1, short))
    (more.0 ∙ ap Some (append-nil (ports ++ port ∷ [])))

-- a part spells no port
pub read_wrong : (word ports rest part : List ℕ) (parts : List (List ℕ)) → PortsRead word ports rest
    → comma_parts rest ≡ part ∷ parts → port_of part ≡ None → ports_of word ≡ None
read_wrong word ports rest part parts so cut is =
    either_none (nat_le (length (comma_parts word)) 64) (ports_in (comma_parts word))
    (so.read ∙ ap (λ ps. ports_before ports (ports_in ps)) cut
    ∙ ap (λ p. ports_before ports (port_and p (ports_in parts))) is)

-- there are too many
pub read_full : (word ports rest : List ℕ) → PortsRead word ports rest → 64 ≤ length ports
    → ports_of word ≡ None
read_full word ports rest so full =
    many (length (comma_parts word)) (ports_in (comma_parts word))
    (omega (arith, so.count, full, some_parts rest))
