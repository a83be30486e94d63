-- The canonical text of a request spells it.
use Rattle.std.proofs.Common.{◌≡◌, ℕ, ◌<◌, ◌≤◌, ◌^◌, Bool, true, false, All, List, [], ◌∷◌, ◌++◌, length, Option, Some, None, refl, sym, ap, ◌∙◌, subst, arith, append_assoc, append-nil}
use Rattle.std.specs.Prelude.{codes, decimal, ◌==◌}
use Rattle.std.specs.List.{list_all}
use Rattle.std.proofs.lemmas.Bool.Decides.{nat_tests}
use Rattle.httparse.specs.Grammar.{is_token_byte}
use Rattle.percent_encoding.specs.Percent.{percent_decode}
use Rattle.percent_encoding.proofs.PercentLemmas.{IsByte}
use Rattle.asp_base.specs.Numbers.{number_of}
use Rattle.asp_base.specs.Text.{is_same_name}
use Rattle.asp_messages.specs.declared.request.Message.TheVariants.{Fit}
use Rattle.asp_messages.specs.declared.request.Request.{Request}
use Rattle.asp_messages.specs.declared.request.Ask.{Ask}
use Rattle.asp_messages.specs.declared.request.Ask.TheVariants.{Read, Acquire, Release, Write, Remove, Reset}
use Rattle.asp_messages.specs.Fields.{Field, one, number_or, named, body_length, most_body, most_minutes, most_cookie}
use Rattle.asp_messages.specs.Ranges.{RequestFits, AskFits, KeyFits}
use Rattle.asp_messages.specs.ReplyText.{http_line}
use Rattle.asp_messages.specs.RequestSpelling.{SpellsRequest, message_of, ask_of, is_key, release_ask, put_ask, delete_ask}
use Rattle.asp_messages.specs.RequestText.{target_text, verb_text, start_lines, ask_fields, content_of, request_text}
use Rattle.asp_messages.proofs.DecimalLemmas.{number_or-decimal, number_needed-decimal, named-some}
use Rattle.asp_messages.proofs.SentFieldLemmas.{timeout_pair, timeout_sent, lock_pair, lock_sent, length_pair, length_sent, host_pair, host_sent, acquire_pair, acquire_sent, release_pair, release_sent, fresh_pair, fresh_sent, announced}
use Rattle.asp_messages.proofs.SentLemmas.{IsSent, AreSent, field_line, field_lines, request_lines, request_sent}
use Rattle.asp_messages.proofs.TargetLemmas.{target_text-decoded, target_text-short, target_text-uri, target_text-utf8}

-- ---- the lines one after another

behind_host : (s h x e : List ℕ) → s ++ h ++ x ++ e ≡ s ++ (h ++ x) ++ e
behind_host s h x e = simp append_assoc

one_behind : (a : List ℕ) → a ≡ a ++ []
one_behind a = sym (append-nil a)

two_behind : (a b : List ℕ) → a ++ b ≡ a ++ (b ++ [])
two_behind a b = simp append-nil

four_behind : (a b c d : List ℕ) → a ++ b ++ c ++ d ≡ a ++ (b ++ (c ++ (d ++ [])))
four_behind a b c d = simp (append_assoc, append-nil)

-- ---- requests

message_is : (key target verb body : List ℕ) (fields : List Field) (ask : Ask)
    → percent_decode target ≡ key → is_key key ≡ true → ask_of verb fields body ≡ Some ask
    → Fit (record { key = key; ask = ask }) ≡ message_of verb target fields body
unfolding message_of
message_is key target verb body fields ask decoded fits is = rw (decoded, fits, is) refl

is_key-true : (key : List ℕ) → KeyFits key → is_key key ≡ true
is_key-true key (some, short) = grind (arith, nat_tests)

module _ (key : List ℕ) (fits : KeyFits key) (bytes : All IsByte key) where
  -- the canonical text of a request, by its fields
  by_lines : (ask : Ask) (fields : List Field) → ask_fields ask ≡ field_lines fields
      → list_all is_token_byte (verb_text ask) ≡ true → 0 < length (verb_text ask)
      → length (verb_text ask) ≤ 40
      → AreSent fields → length fields ≤ 4 → body_length (host_pair ∷ fields)
      ≡ Some (length (content_of ask))
      → ask_of (verb_text ask) (host_pair ∷ fields) (content_of ask) ≡ Some ask
      → SpellsRequest (request_text (record { key = key; ask = ask }))
      (Fit (record { key = key; ask = ask }))
  unfolding request_text
  by_lines ask fields text token some brief are few announces is =
      let target = target_text key in
      let size = target_text-short key bytes in
      let start = http_line (verb_text ask ++ codes " " ++ target ++ codes " HTTP/1.1") in
      let same : start_lines (verb_text ask) target ++ ask_fields ask ++ http_line []
      ≡ request_lines (verb_text ask) target (host_pair ∷ fields) =
      ap (λ f. start_lines (verb_text ask) target ++ f ++ http_line []) text
      ∙ behind_host start (field_line host_pair) (field_lines fields) (http_line []) in
      subst (λ t. SpellsRequest (t ++ content_of ask) (Fit (record { key = key; ask = ask })))
      (sym same)
      (request_sent (verb_text ask) target (host_pair ∷ fields) (content_of ask) _ token some brief
      (omega (arith, size.0, fits.0)) (omega (arith, size.1, fits.1))
      (target_text-uri key) (target_text-utf8 key) (host_sent, are) (omega (arith, few)) announces
      (message_is key target (verb_text ask) (content_of ask) (host_pair ∷ fields) ask
      (target_text-decoded key bytes) (is_key-true key fits) is))

  abbrev Spelled : Ask → Type 0
  Spelled ask = SpellsRequest (request_text (record { key = key; ask = ask }))
      (Fit (record { key = key; ask = ask }))

  read_spelled : Spelled Read
  unfolding ask_of is_same_name is_token_byte
  read_spelled = by_lines Read [] refl refl (omega arith) (omega arith) tt (omega arith) refl refl

  reset_spelled : Spelled Reset
  unfolding ask_of is_same_name is_token_byte
  reset_spelled = by_lines Reset [] refl refl (omega arith) (omega arith) tt (omega arith) refl refl

  acquire_spelled : Spelled Acquire
  unfolding ask_of is_same_name is_token_byte
  acquire_spelled =
      by_lines Acquire (acquire_pair ∷ []) (one_behind (field_line acquire_pair)) refl (omega arith)
      (omega arith) (acquire_sent, tt) (omega arith) refl refl

  release_spelled : (cookie : ℕ) → cookie < 2 ^ 63 → Spelled (Release cookie)
  unfolding ask_of is_same_name is_token_byte
  release_spelled cookie range =
      by_lines (Release cookie) (release_pair ∷ lock_pair cookie ∷ [])
      (two_behind (field_line release_pair) (field_line (lock_pair cookie)))
      refl (omega arith) (omega arith) (release_sent, (lock_sent cookie (omega arith), tt))
      (omega arith) refl
      (ap release_ask (number_needed-decimal most_cookie cookie (omega arith) (omega arith)))

  cookie_is : (cookie : ℕ) → cookie < 2 ^ 63 →
      number_or 0 0 most_cookie (one (decimal cookie)) ≡ Some cookie
  cookie_is cookie range = number_or-decimal 0 0 most_cookie cookie (omega arith) (omega arith)
      (omega arith)

  remove_spelled : (cookie : Option ℕ) → AskFits (Remove cookie) → Spelled (Remove cookie)
  unfolding ask_of is_same_name is_token_byte
  remove_spelled None fit = by_lines (Remove None) [] refl refl (omega arith) (omega arith) tt
      (omega arith) refl refl
  remove_spelled (Some cookie) (is_named, range) =
      by_lines (Remove (Some cookie)) (lock_pair cookie ∷ [])
      (one_behind (field_line (lock_pair cookie)))
      refl (omega arith) (omega arith) (lock_sent cookie (omega arith), tt) (omega arith) refl
      (ap delete_ask (cookie_is cookie range)
      ∙ ap (λ c. Some (Remove c)) (named-some cookie is_named))

  module _ (body : List ℕ) (minutes : ℕ) (short : length body ≤ most_body) (some : 0 < minutes)
      (small : minutes ≤ most_minutes) where
    minutes_are : number_or 20 1 most_minutes (one (decimal minutes)) ≡ Some minutes
    minutes_are = number_or-decimal 20 1 most_minutes minutes (omega arith) some small

    put_is : (cookie flag : ℕ) (m f c : Option ℕ) → m ≡ Some minutes → f ≡ Some flag
        → c ≡ Some cookie
        → put_ask body m f c ≡ Some (Write body minutes (flag == 1) (named cookie))
    put_is cookie flag m f c p q r = rw (p, q, r) refl

    timeout_first : IsSent (timeout_pair minutes)
    timeout_first = timeout_sent minutes (omega arith)

    length_last : AreSent (length_pair (length body) ∷ [])
    length_last = (length_sent (length body) (omega arith), tt)

    write_free : (fresh : Bool) → Spelled (Write body minutes fresh None)
    unfolding ask_of is_same_name is_token_byte number_of
    write_free false =
        by_lines (Write body minutes false None)
        (timeout_pair minutes ∷ length_pair (length body) ∷ [])
        (four_behind (field_line (timeout_pair minutes)) [] []
        (field_line (length_pair (length body))))
        refl (omega arith) (omega arith) (timeout_first, length_last) (omega arith)
        (announced (length body) short)
        (put_is 0 0 _ _ _ minutes_are refl refl)
    write_free true =
        by_lines (Write body minutes true None)
        (timeout_pair minutes ∷ fresh_pair ∷ length_pair (length body) ∷ [])
        (four_behind (field_line (timeout_pair minutes)) (field_line fresh_pair) []
        (field_line (length_pair (length body))))
        refl (omega arith) (omega arith) (timeout_first, (fresh_sent, length_last)) (omega arith)
        (announced (length body) short)
        (put_is 0 1 _ _ _ minutes_are refl refl)

    write_held : (fresh : Bool) (cookie : ℕ) → 0 < cookie → cookie < 2 ^ 63
        → Spelled (Write body minutes fresh (Some cookie))
    unfolding ask_of is_same_name is_token_byte number_of
    write_held false cookie is_named range =
        by_lines (Write body minutes false (Some cookie))
        (timeout_pair minutes ∷ lock_pair cookie ∷ length_pair (length body) ∷ [])
        (four_behind (field_line (timeout_pair minutes)) [] (field_line (lock_pair cookie))
        (field_line (length_pair (length body))))
        refl (omega arith) (omega arith) (
          timeout_first,
          (lock_sent cookie (omega arith), length_last),
        ) (omega arith)
        (announced (length body) short)
        (put_is cookie 0 _ _ _ minutes_are refl (cookie_is cookie range)
        ∙ ap (λ c. Some (Write body minutes false c)) (named-some cookie is_named))
    write_held true cookie is_named range =
        by_lines (Write body minutes true (Some cookie))
        (timeout_pair minutes ∷ fresh_pair ∷ lock_pair cookie ∷ length_pair (length body) ∷ [])
        (four_behind (field_line (timeout_pair minutes)) (field_line fresh_pair)
        (field_line (lock_pair cookie)) (field_line (length_pair (length body))))
        refl (omega arith) (omega arith) (
          timeout_first,
          (fresh_sent, (lock_sent cookie (omega arith), length_last)),
        ) (omega arith)
        (announced (length body) short)
        (put_is cookie 1 _ _ _ minutes_are refl (cookie_is cookie range)
        ∙ ap (λ c. Some (Write body minutes true c)) (named-some cookie is_named))

  pub ask_spelled : (ask : Ask) → AskFits ask → Spelled ask
  ask_spelled Read fit = read_spelled
  ask_spelled Acquire fit = acquire_spelled
  ask_spelled (Release cookie) fit = release_spelled cookie fit
  ask_spelled (Write body minutes fresh None) (short, (some, small), fit) =
      write_free body minutes short some small fresh
  ask_spelled (Write body minutes fresh (Some cookie)) (short, (some, small), (is_named, range)) =
      write_held body minutes short some small fresh cookie is_named range
  ask_spelled (Remove cookie) fit = remove_spelled cookie fit
  ask_spelled Reset fit = reset_spelled

pub request_spelled : (r : Request) → RequestFits r → All IsByte r.key
    → SpellsRequest (request_text r) (Fit r)
request_spelled r fits bytes = ask_spelled r.key fits.key bytes r.ask fits.ask
