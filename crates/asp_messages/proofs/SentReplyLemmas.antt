-- The canonical text of a reply spells it.
use Rattle.std.proofs.Common.{◌≡◌, ℕ, ◌<◌, ◌≤◌, ◌^◌, Bool, true, false, List, [], ◌∷◌, ◌++◌, length, Option, Some, None, refl, sym, ap, ◌∙◌, subst, arith, append_assoc, append-nil}
use Rattle.std.specs.Prelude.{codes, decimal, ◌==◌}
use Rattle.std.specs.List.{list_all}
use Rattle.std.specs.Char.{is_ascii_digit}
use Rattle.std.specs.Str.Parse.{digits_value}
use Rattle.httparse.specs.Grammar.{is_value_byte}
use Rattle.asp_base.specs.Numbers.{number_of}
use Rattle.asp_base.specs.Text.{is_same_name}
use Rattle.asp_messages.specs.declared.reply.Reply.{Reply}
use Rattle.asp_messages.specs.declared.reply.Reply.TheVariants.{Found, Done, Locked, Missing, Bad, KeeperFault, NoMemory, CookiesOut, PlacesOut}
use Rattle.asp_messages.specs.Fields.{Field, one, at_least, number_or, number_needed, named, body_length, most_body, most_minutes, most_cookie}
use Rattle.asp_messages.specs.Ranges.{ReplyFits, SinceFits}
use Rattle.asp_messages.specs.ReplySpelling.{reply, SpellsReply, strange_unless, reply_from, found_reply, locked_reply, most_age, most_since}
use Rattle.asp_messages.specs.ReplyText.{http_line, ending, head_text, body_of, reply_text}
use Rattle.asp_messages.proofs.DecimalLemmas.{number_or-decimal, number_needed-decimal, minutes-decimal, named-some}
use Rattle.asp_messages.proofs.SentFieldLemmas.{timeout_pair, timeout_sent, lock_pair, lock_sent, age_pair, age_sent, date_pair, date_sent, length_pair, length_sent, first_pair, first_sent, announced}
use Rattle.asp_messages.proofs.SentLemmas.{IsSent, AreSent, field_line, reply_lines, reply_sent}

-- ---- the lines one after another

behind_four : (s a c f l e : List ℕ) → s ++ (a ++ c ++ f) ++ (l ++ e) ≡ s
    ++ (a ++ (c ++ (f ++ (l ++ [])))) ++ e
behind_four s a c f l e = simp (append_assoc, append-nil)

behind_one : (s l e : List ℕ) → s ++ [] ++ (l ++ e) ≡ s ++ (l ++ []) ++ e
behind_one s l e = simp (append_assoc, append-nil)

-- ---- replies

-- the canonical text of a reply, by its fields
by_lines : (r : Reply) (digits phrase : List ℕ) (fields : List Field)
    → head_text r ≡ reply_lines digits phrase fields
    → list_all is_ascii_digit digits ≡ true → length digits ≡ 3
    → list_all is_value_byte phrase ≡ true → length phrase ≤ 40
    → AreSent fields → length fields ≤ 5 → body_length fields ≡ Some (length (body_of r))
    → reply_from (digits_value 10 digits) fields (body_of r) ≡ Some r
    → SpellsReply (reply_text r) (reply r)
by_lines r digits phrase fields text all three pass short are few announced is =
    subst (λ t. SpellsReply (t ++ body_of r) (reply r)) (sym text)
    (reply_sent digits phrase fields (body_of r) (reply r) all three pass short are few announced
    (sym (ap (strange_unless (digits_value 10 digits)) is)))

-- a status that says all by itself
plain : (r : Reply) (digits phrase : List ℕ)
    → head_text r ≡ http_line (codes "HTTP/1.1 " ++ digits ++ codes " " ++ phrase) ++ [] ++ ending 0
    → list_all is_ascii_digit digits ≡ true → length digits ≡ 3
    → list_all is_value_byte phrase ≡ true → length phrase ≤ 40
    → body_of r ≡ [] → reply_from (digits_value 10 digits) (length_pair 0 ∷ []) [] ≡ Some r
    → SpellsReply (reply_text r) (reply r)
unfolding is_same_name number_of
plain r digits phrase text all three pass short no_body is =
    by_lines r digits phrase (length_pair 0 ∷ [])
    (text ∙ behind_one (http_line (codes "HTTP/1.1 " ++ digits ++ codes " " ++ phrase))
    (field_line (length_pair 0)) (http_line []))
    all three pass short (length_sent 0 (omega arith), tt) (omega arith)
    (rw no_body (announced 0 (omega arith))) (rw no_body is)

found_is : (body : List ℕ) (minutes cookie flag : ℕ) (m c f : Option ℕ) → m ≡ Some minutes
    → c ≡ Some cookie → f ≡ Some flag
    → found_reply body m c f ≡ Some (Found body minutes (named cookie) (flag == 1))
found_is body minutes cookie flag m c f p q r = rw (p, q, r) refl

ok_line : List ℕ
ok_line = http_line (codes "HTTP/1.1 200 OK")

-- 200 with content
module _ (body : List ℕ) (minutes : ℕ) (short : length body ≤ most_body) (some : 0 < minutes)
    (small : minutes ≤ most_minutes) where
  minutes_are : at_least 1 (number_needed most_minutes (one (decimal minutes))) ≡ Some minutes
  minutes_are = minutes-decimal most_minutes minutes (omega arith) some small

  timeout_first : IsSent (timeout_pair minutes)
  timeout_first = timeout_sent minutes (omega arith)

  length_last : AreSent (length_pair (length body) ∷ [])
  length_last = (length_sent (length body) (omega arith), tt)

  found_free : (first : Bool) → SpellsReply (reply_text (Found body minutes None first))
      (reply (Found body minutes None first))
  unfolding head_text reply_from is_same_name number_of ok_line
  found_free false =
      by_lines (Found body minutes None false) (codes "200") (codes "OK")
      (timeout_pair minutes ∷ length_pair (length body) ∷ [])
      (behind_four ok_line (field_line (timeout_pair minutes)) [] []
      (field_line (length_pair (length body))) (http_line []))
      refl refl refl (omega arith) (timeout_first, length_last) (omega arith)
      (announced (length body) short)
      (found_is body minutes 0 0 _ _ _ minutes_are refl refl)
  found_free true =
      by_lines (Found body minutes None true) (codes "200") (codes "OK")
      (timeout_pair minutes ∷ first_pair ∷ length_pair (length body) ∷ [])
      (behind_four ok_line (field_line (timeout_pair minutes)) [] (field_line first_pair)
      (field_line (length_pair (length body))) (http_line []))
      refl refl refl (omega arith) (timeout_first, (first_sent, length_last)) (omega arith)
      (announced (length body) short)
      (found_is body minutes 0 1 _ _ _ minutes_are refl refl)

  module _ (cookie : ℕ) (is_named : 0 < cookie) (range : cookie < 2 ^ 63) where
    cookie_is : number_or 0 0 most_cookie (one (decimal cookie)) ≡ Some cookie
    cookie_is = number_or-decimal 0 0 most_cookie cookie (omega arith) (omega arith) (omega arith)

    lock_next : IsSent (lock_pair cookie)
    lock_next = lock_sent cookie (omega arith)

    same : (first : Bool) → Some (Found body minutes (named cookie) first)
        ≡ Some (Found body minutes (Some cookie) first)
    same first = ap (λ c. Some (Found body minutes c first)) (named-some cookie is_named)

    found_held : (first : Bool) → SpellsReply (reply_text (Found body minutes (Some cookie) first))
        (reply (Found body minutes (Some cookie) first))
    unfolding head_text reply_from is_same_name number_of ok_line
    found_held false =
        by_lines (Found body minutes (Some cookie) false) (codes "200") (codes "OK")
        (timeout_pair minutes ∷ lock_pair cookie ∷ length_pair (length body) ∷ [])
        (behind_four ok_line (field_line (timeout_pair minutes)) (field_line (lock_pair cookie)) []
        (field_line (length_pair (length body))) (http_line []))
        refl refl refl (omega arith) (timeout_first, (lock_next, length_last)) (omega arith)
        (announced (length body) short)
        (found_is body minutes cookie 0 _ _ _ minutes_are cookie_is refl ∙ same false)
    found_held true =
        by_lines (Found body minutes (Some cookie) true) (codes "200") (codes "OK")
        (timeout_pair minutes ∷ lock_pair cookie ∷ first_pair ∷ length_pair (length body) ∷ [])
        (behind_four ok_line (field_line (timeout_pair minutes)) (field_line (lock_pair cookie))
        (field_line first_pair) (field_line (length_pair (length body))) (http_line []))
        refl refl refl (omega arith) (timeout_first, (lock_next, (first_sent, length_last)))
        (omega arith) (announced (length body) short)
        (found_is body minutes cookie 1 _ _ _ minutes_are cookie_is refl ∙ same true)

locked_is : (cookie age : ℕ) (since : Option ℕ) (c a s : Option ℕ) → c ≡ Some cookie
    → a ≡ Some age → s ≡ since → locked_reply c a s ≡ Some (Locked cookie age since)
locked_is cookie age since c a s p q r = rw (p, q, r) refl

locked_line : List ℕ
locked_line = http_line (codes "HTTP/1.1 423 Locked")

-- 423
module _ (cookie age : ℕ) (range : cookie < 2 ^ 63) (young : age ≤ most_age) where
  held_is : number_needed most_cookie (one (decimal cookie)) ≡ Some cookie
  held_is = number_needed-decimal most_cookie cookie (omega arith) (omega arith)

  age_is : number_needed most_age (one (decimal age)) ≡ Some age
  age_is = number_needed-decimal most_age age (omega arith) (omega arith)

  lock_first : IsSent (lock_pair cookie)
  lock_first = lock_sent cookie (omega arith)

  age_next : IsSent (age_pair age)
  age_next = age_sent age (omega arith)

  empty_last : AreSent (length_pair 0 ∷ [])
  empty_last = (length_sent 0 (omega arith), tt)

  locked : (since : Option ℕ) → SinceFits since
      → SpellsReply (reply_text (Locked cookie age since)) (reply (Locked cookie age since))
  unfolding head_text reply_from is_same_name number_of locked_line
  locked None early =
      by_lines (Locked cookie age None) (codes "423") (codes "Locked")
      (lock_pair cookie ∷ age_pair age ∷ length_pair 0 ∷ [])
      (behind_four locked_line (field_line (lock_pair cookie)) (field_line (age_pair age)) []
      (field_line (length_pair 0)) (http_line []))
      refl refl refl (omega arith) (lock_first, (age_next, empty_last)) (omega arith)
      (announced 0 (omega arith))
      (locked_is cookie age None _ _ _ held_is age_is refl)
  locked (Some since) early =
      by_lines (Locked cookie age (Some since)) (codes "423") (codes "Locked")
      (lock_pair cookie ∷ age_pair age ∷ date_pair since ∷ length_pair 0 ∷ [])
      (behind_four locked_line (field_line (lock_pair cookie)) (field_line (age_pair age))
      (field_line (date_pair since)) (field_line (length_pair 0)) (http_line []))
      refl refl refl (omega arith)
      (lock_first, (age_next, (date_sent since (omega arith), empty_last))) (omega arith)
      (announced 0 (omega arith))
      (locked_is cookie age (Some since) _ _ _ held_is age_is
      (number_needed-decimal most_since since (omega arith) early))

pub reply_spelled : (r : Reply) → ReplyFits r → SpellsReply (reply_text r) (reply r)
unfolding head_text reply_from is_same_name number_of
reply_spelled (Found body minutes None first) (short, (some, small), cookie) =
    found_free body minutes short some small first
reply_spelled (Found body minutes (Some c) first) (short, (some, small), (is_named, range)) =
    found_held body minutes short some small c is_named range first
reply_spelled Done fits = plain Done (codes "200") (codes "OK") refl refl refl refl (omega arith)
    refl refl
reply_spelled (Locked cookie age since) (range, young, early) =
    locked cookie age range young since early
reply_spelled Missing fits = plain Missing (codes "404") (codes "Not Found") refl refl refl refl
    (omega arith) refl refl
reply_spelled Bad fits = plain Bad (codes "400") (codes "Bad Request") refl refl refl refl
    (omega arith) refl refl
reply_spelled KeeperFault fits = plain KeeperFault (codes "500") (codes "Keeper Fault") refl refl
    refl refl (omega arith) refl refl
reply_spelled NoMemory fits = plain NoMemory (codes "503") (codes "No Memory") refl refl refl refl
    (omega arith) refl refl
reply_spelled CookiesOut fits = plain CookiesOut (codes "507") (codes "Cookies Out") refl refl refl
    refl (omega arith) refl refl
reply_spelled PlacesOut fits = plain PlacesOut (codes "508") (codes "Places Out") refl refl refl
    refl (omega arith) refl refl
