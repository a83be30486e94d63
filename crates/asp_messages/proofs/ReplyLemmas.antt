-- Spellings of replies.
use Rattle.std.proofs.Common.{◌≡◌, ℕ, ◌+◌, ◌<◌, ◌≤◌, Bool, true, false, cond, List, [], ◌∷◌, ◌++◌, length, Option, Some, None, subst, sym, refl, ap, ◌∙◌, arith, append_assoc, length-append}
use Rattle.std.specs.Prelude.{codes, ◌==◌}
use Rattle.httparse.specs.Grammar.{ReadsResponse, status_code}
use Rattle.httparse.proofs.GrammarLemmas.{response_unique, ReadsResponse-append, print_response-append}
use Rattle.asp_messages.specs.declared.reply.Reply.{Reply}
use Rattle.asp_messages.specs.declared.reply.Reply.TheVariants.{Found, Done, Locked, Missing, Bad, KeeperFault, NoMemory, CookiesOut, PlacesOut}
use Rattle.asp_messages.specs.Fields.{Field, Occurrence, absent, one, twice, once, at_least, body_length, most_body, most_cookie, most_minutes, number_needed, lock_cookie_field, named, response_fields}
use Rattle.asp_messages.specs.Head.{most_head, IsReplyHead}
use Rattle.asp_messages.specs.Ranges.{ReplyFits, SinceFits}
use Rattle.asp_messages.specs.ReplySpelling.{StreamAnswer, reply, SpellsReply, answer_spelled, reply_from, strange_unless, found_reply, done_reply, ok_reply, locked_reply, plain_reply, minutes_field, action_flags_field, holder_field, age_field, most_age, since_field, most_since}
use Rattle.asp_messages.specs.Stream.{HasNoMessage, IsWaiting}
use Rattle.asp_messages.proofs.FramingLemmas.{body_length-le, number_or-in, number_needed-le, split_alike, waiting-short}
use Rattle.asp_messages.proofs.RequestLemmas.{named-fits, lock_cookie-le}
use Rattle.asp_messages.proofs.StreamLemmas.{IsUnique}

-- the head of a spelling, with what comes behind it
pub reply_reads_more : (bytes : List ℕ) (a : StreamAnswer) (s : SpellsReply bytes a) (back : List ℕ)
    → ReadsResponse (bytes ++ back) s.head (s.body ++ back)
reply_reads_more bytes a s back =
    let h = ReadsResponse-append s.framed.front s.head [] (s.body ++ back) s.framed.is_head.reads in
    (h.0, ap (λ t. t ++ back) s.framed.bytes_are ∙ append_assoc s.framed.front s.body back ∙ h.1)

-- a spelling is not empty
pub reply_spelling_some : (bytes : List ℕ) (a : StreamAnswer) → SpellsReply bytes a
    → 0 < length bytes
reply_spelling_some bytes a s =
    let whole = ap length (s.framed.is_head.reads.1 ∙ print_response-append s.head []) in
    let parts = simp length-append at whole in
    omega (arith, parts, ap length s.framed.bytes_are, length-append s.framed.front s.body)

pub no_reply_in_nothing : HasNoMessage SpellsReply []
no_reply_in_nothing front back a is spells =
    omega (arith, reply_spelling_some front a spells, ap length is, length-append front back)

some_same : (a b : ℕ) → Some a ≡ Some b → a ≡ b
some_same a b e = cc

-- bytes begin with at most one reply
pub SpellsReply-unique : IsUnique SpellsReply
SpellsReply-unique bytes front back front' back' a a' is s is' s' =
    let reads = reply_reads_more front a s back in
    let reads' = reply_reads_more front' a' s' back' in
    let same = response_unique (front ++ back) s.head s'.head (s.body ++ back) (s'.body ++ back')
    reads (reads'.0, sym is ∙ is' ∙ reads'.1) in
    let len = some_same _ _ (sym s.framed.announced
    ∙ ap (λ h. body_length (response_fields h)) same.0 ∙ s'.framed.announced) in
    let parts = split_alike s.body back s'.body back' len same.1 in (
      s.answer_is ∙ ap (λ h. answer_spelled (status_code h) (response_fields h) s.body) same.0
          ∙ ap (λ b. answer_spelled (status_code s'.head) (response_fields s'.head) b) parts.0
          ∙ sym s'.answer_is,
      parts.1,
    )

-- what waits for more is short
pub waiting_reply-short : (bytes : List ℕ) → IsWaiting IsReplyHead response_fields bytes
    → length bytes < most_head + most_body
waiting_reply-short bytes waiting = waiting-short IsReplyHead response_fields bytes
    (λ front head h. h.short) waiting

-- ---- what is spelled is in range

chosen : {A : Type 0} (b : Bool) (x y z : A) (P : Type 0) → (x ≡ z → P) → (y ≡ z → P)
    → cond b x y ≡ z → P
chosen true x y z P p q e = p e
chosen false x y z P p q e = q e

no_reply : (r : Reply) → ◌≡◌ {A = Option Reply} None (Some r) → ReplyFits r
no_reply r e = cc

one_reply : (a r : Reply) → ReplyFits a → Some a ≡ Some r → ReplyFits r
one_reply a r fits e = let same : a ≡ r = cc in subst ReplyFits same fits

found_reply-fits : (body : List ℕ) (minutes cookie flag : Option ℕ) (r : Reply)
    → length body ≤ most_body
    → ((n : ℕ) → minutes ≡ Some n → (1 ≤ n) × (n ≤ most_minutes))
    → ((c : ℕ) → cookie ≡ Some c → c ≤ most_cookie)
    → found_reply body minutes cookie flag ≡ Some r → ReplyFits r
found_reply-fits body (Some minutes) (Some cookie) (Some flag) r short timeout small e =
    let t = timeout minutes refl in
    one_reply (Found body minutes (named cookie) (flag == 1)) r
    (short, (omega (arith, t.0), t.1), named-fits cookie (small cookie refl)) e
found_reply-fits body None cookie flag r short timeout small e = no_reply r e
found_reply-fits body (Some minutes) None flag r short timeout small e = no_reply r e
found_reply-fits body (Some minutes) (Some cookie) None r short timeout small e = no_reply r e

done_reply-fits : (body : List ℕ) (r : Reply) → done_reply body ≡ Some r → ReplyFits r
done_reply-fits [] r e = one_reply Done r tt e
done_reply-fits (byte ∷ bytes) r e = no_reply r e

ok_reply-fits : (timeout : Occurrence) (body : List ℕ) (found : Option Reply) (r : Reply)
    → (found ≡ Some r → ReplyFits r)
    → ok_reply timeout body found ≡ Some r → ReplyFits r
ok_reply-fits absent body found r fits e = done_reply-fits body r e
ok_reply-fits (one value) body found r fits e = fits e
ok_reply-fits twice body found r fits e = fits e

since-fits : (since : Option ℕ) → ((s : ℕ) → since ≡ Some s → s ≤ most_since) → SinceFits since
since-fits None early = tt
since-fits (Some since) early = early since refl

locked_reply-fits : (cookie age since : Option ℕ) (r : Reply)
    → ((c : ℕ) → cookie ≡ Some c → c ≤ most_cookie) → ((a : ℕ) → age ≡ Some a → a ≤ most_age)
    → ((s : ℕ) → since ≡ Some s → s ≤ most_since)
    → locked_reply cookie age since ≡ Some r → ReplyFits r
locked_reply-fits (Some cookie) (Some age) since r small young early e =
    let le = small cookie refl in
    one_reply (Locked cookie age since) r (omega arith, young age refl, since-fits since early) e
locked_reply-fits None age since r small young early e = no_reply r e
locked_reply-fits (Some cookie) None since r small young early e = no_reply r e

plain_reply-fits : (status : ℕ) (r : Reply) → plain_reply status ≡ Some r → ReplyFits r
plain_reply-fits status r e =
    chosen (status == 400) _ _ (Some r) (ReplyFits r) (one_reply Bad r tt)
    (chosen (status == 404) _ _ (Some r) (ReplyFits r) (one_reply Missing r tt)
    (chosen (status == 500) _ _ (Some r) (ReplyFits r) (one_reply KeeperFault r tt)
    (chosen (status == 503) _ _ (Some r) (ReplyFits r) (one_reply NoMemory r tt)
    (chosen (status == 507) _ _ (Some r) (ReplyFits r) (one_reply CookiesOut r tt)
    (chosen (status == 508) _ _ (Some r) (ReplyFits r) (one_reply PlacesOut r tt) (no_reply r))))))
    e

minutes-in : (timeout : Occurrence) (n : ℕ) →
    at_least 1 (number_needed most_minutes timeout) ≡ Some n
    → (1 ≤ n) × (n ≤ most_minutes)
minutes-in absent n e = cc
minutes-in (one value) n e = number_or-in 1 1 most_minutes (one value) n (omega arith) (omega arith)
    e
minutes-in twice n e = cc

reply_from-fits : (status : ℕ) (fields : List Field) (body : List ℕ) (r : Reply)
    → length body ≤ most_body → reply_from status fields body ≡ Some r → ReplyFits r
unfolding reply_from
reply_from-fits status fields body r short e =
    chosen (status == 200) _ _ (Some r) (ReplyFits r)
    (ok_reply-fits (once fields (codes "Timeout")) body
    (found_reply body (minutes_field fields) (lock_cookie_field fields)
    (action_flags_field fields)) r
    (found_reply-fits body (minutes_field fields) (lock_cookie_field fields)
    (action_flags_field fields) r short (minutes-in (once fields (codes "Timeout")))
    (lock_cookie-le fields)))
    (chosen (status == 423) _ _ (Some r) (ReplyFits r)
    (locked_reply-fits (holder_field fields) (age_field fields) (since_field fields) r
    (number_needed-le most_cookie (once fields (codes "LockCookie")))
    (number_needed-le most_age (once fields (codes "LockAge")))
    (number_needed-le most_since (once fields (codes "LockDate"))))
    (plain_reply-fits status r))
    e

by_answer : (status : ℕ) (o : Option Reply) (r : Reply) → ((x : Reply) → o ≡ Some x → ReplyFits x)
    → strange_unless status o ≡ reply r → ReplyFits r
by_answer status (Some x) r fits e = let same : x ≡ r = cc in subst ReplyFits same (fits x refl)
by_answer status None r fits e = cc

-- a reply that is spelled is in range
pub spelled_reply-fits : (bytes : List ℕ) (r : Reply) → SpellsReply bytes (reply r) → ReplyFits r
spelled_reply-fits bytes r s =
    by_answer (status_code s.head) (reply_from (status_code s.head) (response_fields s.head) s.body)
    r
    (λ x is. reply_from-fits (status_code s.head) (response_fields s.head) s.body x
    (body_length-le _ _ s.framed.announced) is) (sym s.answer_is)
