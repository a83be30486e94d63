use Rattle.std.proofs.Common.{◌≡◌, ℕ, [], map, Option, refl, sym, ap, ◌∙◌}
use Rattle.httparse.specs.Spans.{header_bytes}
use Rattle.message_framing.specs.Standings.{standing_of}
use Rattle.message_framing.specs.declared.head.FieldOccurrence.{FieldOccurrence}
use Rattle.message_framing.specs.declared.head.FieldOccurrence.TheVariants.{Absent, One, Twice}
use Rattle.asp_messages.specs.declared.reply.Reply.{Reply}
use Rattle.asp_messages.specs.Fields.{number_or, lock_cookie_field}
use Rattle.asp_messages.specs.ReplySpelling.{ok_reply, found_reply, minutes_field, action_flags_field}
use Rattle.reply_reader.proofs.reply_kind.ok_reply.Goals as goal

-- where `Timeout` stands, the content is the answer
present : (s : FieldOccurrence) (found : Option Reply) → (s ≡ Absent → ⊥)
    → ok_reply (standing_of s) [] found ≡ found
present Absent found stands = absurd (stands refl)
present (One value) found stands = refl
present Twice found stands = refl

same_found : (m m' c c' f f' : Option ℕ) → m ≡ m' → c ≡ c' → f ≡ f'
    → found_reply [] m c f ≡ found_reply [] m' c' f'
same_found m m' c c' f f' p q r = rw (p, q, r) refl

pub returns-in_default : goal.returns-in_default
returns-in_default c =
    let fields = map (header_bytes c.args.buf.now) c.args.headers.now in
    let found = found_reply [] (minutes_field fields) (lock_cookie_field fields)
    (action_flags_field fields) in
    let flag : c.number_or.result ≡ action_flags_field fields = c.number_or.ensures
    ∙ ap (number_or 0 0 1) c.find_field-flags.ensures in
    let same = same_found c.timeout.result (minutes_field fields) c.lock_cookie.result
    (lock_cookie_field fields) c.number_or.result (action_flags_field fields) c.timeout.ensures
    c.lock_cookie.ensures flag in
    let stands = present c.find_field.result found c.in_default.not-Absent in
    c.found_reply.ensures ∙ same ∙ sym stands
    ∙ ap (λ s. ok_reply s [] found) c.find_field.ensures
