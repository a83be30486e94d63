-- Spellings of requests.
use Rattle.std.proofs.Common.{◌≡◌, ℕ, ◌<◌, ◌≤◌, Bool, true, false, cond, List, [], ◌++◌, length, Option, Some, None, refl, sym, ap, ◌∙◌, arith, subst, append_assoc, length-append}
use Rattle.std.specs.Prelude.{codes, ◌==◌}
use Rattle.std.specs.Str.{bytes_eq}
use Rattle.std.proofs.lemmas.Bool.Decides.{nat_tests}
use Rattle.httparse.specs.Grammar.{ReadsRequest}
use Rattle.httparse.proofs.GrammarLemmas.{request_unique, ReadsRequest-append, print_request-append}
use Rattle.percent_encoding.specs.Percent.{percent_decode}
use Rattle.asp_base.specs.Text.{is_same_name}
use Rattle.asp_messages.specs.declared.request.Message.{Message}
use Rattle.asp_messages.specs.declared.request.Message.TheVariants.{Fit, Unfit}
use Rattle.asp_messages.specs.declared.request.Request.{Request}
use Rattle.asp_messages.specs.declared.request.Ask.{Ask}
use Rattle.asp_messages.specs.declared.request.Ask.TheVariants.{Read, Acquire, Release, Write, Remove, Reset}
use Rattle.asp_messages.specs.Fields.{Field, Occurrence, absent, one, twice, once, body_length, most_body, most_minutes, most_cookie, number_needed, timeout_field, extra_flags_field, lock_cookie_field, named, request_fields}
use Rattle.asp_messages.specs.Ranges.{RequestFits, AskFits, KeyFits, CookieFits}
use Rattle.asp_messages.specs.RequestSpelling.{SpellsRequest, message_of, ask_of, get_ask, put_ask, delete_ask, release_ask, fit_of, is_key}
use Rattle.asp_messages.specs.Stream.{HasNoMessage}
use Rattle.asp_messages.proofs.FramingLemmas.{body_length-le, number_or-in, number_needed-le, split_alike}
use Rattle.asp_messages.proofs.StreamLemmas.{IsUnique}

-- ---- one reading

-- the head of a spelling, with what comes behind it
pub reads_more : (bytes : List ℕ) (m : Message) (s : SpellsRequest bytes m) (back : List ℕ)
    → ReadsRequest (bytes ++ back) s.head (s.body ++ back)
reads_more bytes m s back =
    let h = ReadsRequest-append s.framed.front s.head [] (s.body ++ back) s.framed.is_head.reads in
    (h.0, ap (λ t. t ++ back) s.framed.bytes_are ∙ append_assoc s.framed.front s.body back ∙ h.1)

-- a spelling is not empty
pub spelling_some : (bytes : List ℕ) (m : Message) → SpellsRequest bytes m → 0 < length bytes
spelling_some bytes m s =
    let whole = ap length (s.framed.is_head.reads.1 ∙ print_request-append s.head []) in
    let parts = simp length-append at whole in
    omega (
      arith,
      parts,
      ap length s.framed.bytes_are,
      length-append s.framed.front s.body,
      s.framed.is_head.reads.0.method.0,
    )

pub none_in_nothing : HasNoMessage SpellsRequest []
none_in_nothing front back m is spells =
    omega (arith, spelling_some front m spells, ap length is, length-append front back)

some_same : (a b : ℕ) → Some a ≡ Some b → a ≡ b
some_same a b e = cc

-- bytes begin with at most one request
pub SpellsRequest-unique : IsUnique SpellsRequest
SpellsRequest-unique bytes front back front' back' m m' is s is' s' =
    let reads = reads_more front m s back in
    let reads' = reads_more front' m' s' back' in
    let same = request_unique (front ++ back) s.head s'.head (s.body ++ back) (s'.body ++ back')
    reads (reads'.0, sym is ∙ is' ∙ reads'.1) in
    let len = some_same _ _ (sym s.framed.announced
    ∙ ap (λ h. body_length (request_fields h)) same.0 ∙ s'.framed.announced) in
    let parts = split_alike s.body back s'.body back' len same.1 in (
      s.message_is ∙ ap (λ h. message_of h.method h.target (request_fields h) s.body) same.0
          ∙ ap (λ b. message_of s'.head.method s'.head.target (request_fields s'.head) b) parts.0
          ∙ sym s'.message_is,
      parts.1,
    )

-- ---- what is spelled is in range

chosen : {A : Type 0} (b : Bool) (x y z : A) (P : Type 0) → (x ≡ z → P) → (y ≡ z → P)
    → cond b x y ≡ z → P
chosen true x y z P p q e = p e
chosen false x y z P p q e = q e

no_ask : (ask : Ask) → ◌≡◌ {A = Option Ask} None (Some ask) → AskFits ask
no_ask ask e = cc

one_ask : (a ask : Ask) → AskFits a → Some a ≡ Some ask → AskFits ask
one_ask a ask fits e = let same : a ≡ ask = cc in subst AskFits same fits

pub named-fits : (cookie : ℕ) → cookie ≤ most_cookie → CookieFits (named cookie)
named-fits cookie small = by_test (cookie == 0) refl
  where
    by_test : (b : Bool) → (cookie == 0) ≡ b → CookieFits (cond b None (Some cookie))
    by_test true test = tt
    by_test false test = let some : 0 < cookie = grind (arith, nat_tests) in (some, omega arith)

release_ask-fits : (cookie : Option ℕ) (ask : Ask) → ((c : ℕ) → cookie ≡ Some c → c ≤ most_cookie)
    → release_ask cookie ≡ Some ask → AskFits ask
release_ask-fits None ask small e = no_ask ask e
release_ask-fits (Some c) ask small e = let le = small c refl in
    one_ask (Release c) ask (omega arith) e

get_ask-fits : (exclusive : Occurrence) (cookie : Option ℕ) (ask : Ask)
    → ((c : ℕ) → cookie ≡ Some c → c ≤ most_cookie) → get_ask exclusive cookie ≡ Some ask
    → AskFits ask
get_ask-fits absent cookie ask small e = one_ask Read ask tt e
get_ask-fits (one word) cookie ask small e =
    chosen (is_same_name word (codes "acquire")) _ _ (Some ask) (AskFits ask)
    (one_ask Acquire ask tt)
    (chosen (is_same_name word (codes "release")) _ _ (Some ask) (AskFits ask)
    (release_ask-fits cookie ask small) (no_ask ask)) e
get_ask-fits twice cookie ask small e = no_ask ask e

put_ask-fits : (body : List ℕ) (minutes flag cookie : Option ℕ) (ask : Ask)
    → length body ≤ most_body
    → ((n : ℕ) → minutes ≡ Some n → (1 ≤ n) × (n ≤ most_minutes))
    → ((c : ℕ) → cookie ≡ Some c → c ≤ most_cookie)
    → put_ask body minutes flag cookie ≡ Some ask → AskFits ask
put_ask-fits body (Some minutes) (Some flag) (Some cookie) ask short timeout small e =
    let t = timeout minutes refl in
    one_ask (Write body minutes (flag == 1) (named cookie)) ask
    (short, (omega (arith, t.0), t.1), named-fits cookie (small cookie refl)) e
put_ask-fits body None flag cookie ask short timeout small e = no_ask ask e
put_ask-fits body (Some minutes) None cookie ask short timeout small e = no_ask ask e
put_ask-fits body (Some minutes) (Some flag) None ask short timeout small e = no_ask ask e

delete_ask-fits : (cookie : Option ℕ) (ask : Ask) → ((c : ℕ) → cookie ≡ Some c → c ≤ most_cookie)
    → delete_ask cookie ≡ Some ask → AskFits ask
delete_ask-fits None ask small e = no_ask ask e
delete_ask-fits (Some c) ask small e = one_ask (Remove (named c)) ask (named-fits c (small c refl))
    e

pub lock_cookie-le : (fields : List Field) (c : ℕ) → lock_cookie_field fields ≡ Some c
    → c ≤ most_cookie
lock_cookie-le fields c e = (number_or-in 0 0 most_cookie (once fields (codes "LockCookie")) c
    (omega arith) (omega arith) e).1

timeout-in : (fields : List Field) (n : ℕ) → timeout_field fields ≡ Some n
    → (1 ≤ n) × (n ≤ most_minutes)
timeout-in fields n e = number_or-in 20 1 most_minutes (once fields (codes "Timeout")) n
    (omega arith) (omega arith) e

ask_of-fits : (verb : List ℕ) (fields : List Field) (body : List ℕ) (ask : Ask)
    → length body ≤ most_body
    → ask_of verb fields body ≡ Some ask → AskFits ask
unfolding ask_of
ask_of-fits verb fields body ask short e =
    chosen (bytes_eq verb (codes "GET")) _ _ (Some ask) (AskFits ask)
    (get_ask-fits (once fields (codes "Exclusive"))
    (number_needed most_cookie (once fields (codes "LockCookie"))) ask
    (λ c is. number_needed-le most_cookie (once fields (codes "LockCookie")) c is))
    (chosen (bytes_eq verb (codes "PUT")) _ _ (Some ask) (AskFits ask)
    (put_ask-fits body (timeout_field fields) (extra_flags_field fields) (lock_cookie_field fields)
    ask short (timeout-in fields) (lock_cookie-le fields))
    (chosen (bytes_eq verb (codes "DELETE")) _ _ (Some ask) (AskFits ask)
    (delete_ask-fits (lock_cookie_field fields) ask (lock_cookie-le fields))
    (chosen (bytes_eq verb (codes "HEAD")) _ _ (Some ask) (AskFits ask) (one_ask Reset ask tt)
    (no_ask ask))))
    e

is_key-fits : (key : List ℕ) → is_key key ≡ true → KeyFits key
is_key-fits key h = grind (arith, nat_tests)

by_key : (b : Bool) (key : List ℕ) (a : Option Ask) (r : Request) → (b ≡ true → KeyFits key)
    → ((x : Ask) → a ≡ Some x → AskFits x)
    → cond b (fit_of key a) Unfit ≡ Fit r → RequestFits r
by_key true key (Some ask) r k f e =
    let same : record { key = key; ask = ask } ≡ r = cc in
    subst RequestFits same (record { key = k refl; ask = f ask refl })
by_key true key None r k f e = cc
by_key false key a r k f e = cc

-- a request that is spelled is in range
pub spelled_fits : (bytes : List ℕ) (r : Request) → SpellsRequest bytes (Fit r) → RequestFits r
unfolding message_of
spelled_fits bytes r s =
    let key = percent_decode s.head.target in
    by_key (is_key key) key _ r (is_key-fits key)
    (λ ask is. ask_of-fits _ _ s.body ask (body_length-le _ _ s.framed.announced) is)
    (sym s.message_is)
