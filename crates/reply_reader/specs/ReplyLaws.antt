-- The laws of replies as a kind of messages.
use Rattle.std.proofs.Common.{◌≡◌, ℕ, ◌+◌, ◌<◌, ◌≤◌, Bool, true, false, cond, List, [], ◌∷◌, ◌++◌, length, take, map, inl, inr, Option, Some, None, refl, sym, ap, ◌∙◌, subst, arith, append-nil, length-take}
use Rattle.std.proofs.lemmas.List.{length-map as map-length, drop_all}
use Rattle.std.specs.Prelude.{codes, ◌==◌}
use Rattle.std.specs.Char.{is_ascii_digit}
use Rattle.std.proofs.lemmas.Bool.Decides.{nat_tests}
use Rattle.httparse.specs.Ascii.{space}
use Rattle.httparse.specs.Grammar.{ResponseHead, print_response, print_version, print_blank, print_end, IsResponseHead as IsGrammarHead, is_value_byte, AllPass, print_reason, reason_phrase, status_code}
use Rattle.httparse.proofs.GrammarLemmas.{response_unique}
use Rattle.httparse.specs.declared.spans.HeaderSpan.{HeaderSpan}
use Rattle.httparse.specs.declared.spans.ResponseSpans.{ResponseSpans}
use Rattle.httparse.specs.Spans.{header_bytes}
use Rattle.asp_messages.specs.declared.reply.Reply.{Reply}
use Rattle.asp_messages.proofs.FramingLemmas.{body_length-le}
use Rattle.asp_messages.specs.Fields.{Field, Occurrence, absent, one, twice, once, response_fields, body_length, most_body, lock_cookie_field}
use Rattle.asp_messages.specs.Head.{IsReplyHead, most_head}
use Rattle.asp_messages.specs.ReplySpelling.{StreamAnswer, reply, strange, answer_spelled, reply_from, ok_reply, done_reply, found_reply, locked_reply, plain_reply, strange_unless, minutes_field, action_flags_field, holder_field, age_field, since_field, SpellsReply}
use Rattle.asp_messages.specs.Stream.{HasNoMessage, IsHopeless, IsWaiting}
use Rattle.message_framing.specs.declared.head.Phase.{Phase}
use Rattle.message_framing.specs.declared.head.Phase.TheVariants.{Blank, Line, Feed}
use Rattle.message_framing.specs.HeadEnd.{phase_after, EndsHead}
use Rattle.message_framing.specs.Framed.{Framed, TakesFramed}
use Rattle.message_framing.specs.ReaderState.{ReaderState, CountedReader, TakesMessage}
use Rattle.message_framing.proofs.EndLemmas.{none-seen}
use Rattle.message_framing.proofs.SectionLemmas.{then, in-line, in-line-one, end-line, blank-lines, section-ends}
use Rattle.reply_reader.specs.declared.reply_kind.ReplyMessage.{ReplyMessage}
use Rattle.reply_reader.specs.declared.reply_kind.ReplyMessage.TheVariants as messages
use Rattle.reply_reader.specs.ReplyNext.{TakesReplyCounted}
use Rattle.reply_reader.specs.Replies.{IsReplyAnnounced, IsReplyParsed, MeansReply, SpellsMessage, answer_told, filled_reply_message, filled_reply}

-- ---- where a head ends

-- the version begins the start line
version-line : (minor : ℕ) → phase_after Blank (print_version minor) ≡ Some Line
version-line minor = in-line-one (48 + minor) (omega arith)

-- the reason, where there is one
reason-line : (reason : Option (List ℕ)) → AllPass is_value_byte (reason_phrase reason)
    → phase_after Line (print_reason reason) ≡ Some Line
reason-line None all = refl
reason-line (Some phrase) all = in-line is_value_byte phrase refl all

-- a response head ends at its first empty line
pub reply-ends : (h : ResponseHead) → IsGrammarHead h → EndsHead (print_response h)
unfolding print_response
reply-ends h is =
    let before = print_blank h.blank ++ print_version h.minor ++ space ∷ h.digits
    ++ print_reason h.reason ++ print_end h.line_end in
    let blank = blank-lines h.blank in
    let version = then Blank Blank Line (print_blank h.blank) (print_version h.minor) blank
    (version-line h.minor) in
    let digits = then Blank Line Line (print_blank h.blank ++ print_version h.minor)
    (space ∷ h.digits) version (in-line is_ascii_digit h.digits refl is.digits.1) in
    let reason = then Blank Line Line (print_blank h.blank ++ print_version h.minor ++ space
    ∷ h.digits) (print_reason h.reason) digits (reason-line h.reason is.reason) in
    let start = then Blank Line Feed (print_blank h.blank ++ print_version h.minor ++ space
    ∷ h.digits ++ print_reason h.reason) (print_end h.line_end) reason (end-line h.line_end) in
    section-ends before h.fields h.last start is.fields

-- a head's text ends it
pub head-ends : (text : List ℕ) (h : ResponseHead) → IsReplyHead text h → EndsHead text
head-ends text h is = subst EndsHead (sym (is.reads.1 ∙ append-nil (print_response h)))
    (reply-ends h is.reads.0)

-- ---- the laws

pub ends : (text body : List ℕ) (m : ReplyMessage) → MeansReply text body m
    → EndsHead text × (length text ≤ most_head)
ends text body m means = (head-ends text means.head means.is_head, means.is_head.short)

pub fits : (text body : List ℕ) (len : ℕ) (m : ReplyMessage) → IsReplyAnnounced text len
    → MeansReply text body m → length body ≡ len
fits text body len m is means =
    let one_head : is.head ≡ means.head =
    (response_unique text is.head means.head _ [] is.is_head.reads means.is_head.reads).0 in
    let same : ◌≡◌ {A = Option ℕ} (Some (length body)) (Some len) =
    sym means.announced ∙ ap (λ h. body_length (response_fields h)) (sym one_head)
    ∙ is.announced in
    cc

pub short : (text : List ℕ) (len : ℕ) → IsReplyAnnounced text len → len ≤ most_body
short text len is = body_length-le _ _ is.announced

-- the text of the spans is a head
pub parsed-head : (text : List ℕ) (headers : List HeaderSpan) (spans : ResponseSpans) (len : ℕ)
    → (is : IsReplyParsed text headers spans len) → IsReplyHead text is.of.0
parsed-head text headers spans len is =
    let same = simp map-length at (ap length is.of.1.fields) in
    record {
      reads = (
        is.of.1.reads.0,
        is.of.1.reads.1
            ∙ ap (λ t. print_response is.of.0 ++ t)
            (drop_all spans.len text (omega (arith, is.whole))),
      );
      short = is.short;
      few = omega (arith, same, length-take spans.headers headers, is.room);
    }

-- what the head announces
pub parsed-announced : (text : List ℕ) (headers : List HeaderSpan) (spans : ResponseSpans)
    (len : ℕ) → IsReplyParsed text headers spans len → IsReplyAnnounced text len
parsed-announced text headers spans len is = record {
  head = is.of.0;
  is_head = parsed-head text headers spans len is;
  announced = ap body_length (sym is.of.1.fields) ∙ is.announced;
}

pub waits_for_head : (bytes : List ℕ) (phase : Phase) → phase_after Blank bytes ≡ Some phase
    → length bytes < most_head → IsWaiting IsReplyHead response_fields bytes
waits_for_head bytes phase so room = inl (
  (λ front back head is h. none-seen bytes front back phase
      so (head-ends front head h) is),
  room,
)

pub waits_for_body : (text back : List ℕ) (len : ℕ) → IsReplyAnnounced text len → length back < len
    → IsWaiting IsReplyHead response_fields (text ++ back)
waits_for_body text back len is few = inr (record {
  head = is.head;
  front = text;
  back = back;
  len = len;
  bytes_are = refl;
  is_head = is.is_head;
  announced = is.announced;
  short = few;
})

-- ---- messages

pub spells : (text body : List ℕ) (m : ReplyMessage) → MeansReply text body m
    → SpellsMessage (text ++ body) m
spells text body m means = record {
  head = means.head;
  body = body;
  framed = record {
    front = text;
    bytes_are = refl;
    is_head = means.is_head;
    announced = means.announced;
  };
  answer_is = means.answer_is;
}

pub spelled : (bytes : List ℕ) (m : ReplyMessage) → SpellsMessage bytes m
    → Framed MeansReply bytes m
spelled bytes m s = record {
  text = s.framed.front;
  body = s.body;
  bytes_are = s.framed.bytes_are;
  means = record {
    head = s.head;
    is_head = s.framed.is_head;
    announced = s.framed.announced;
    answer_is = s.answer_is;
  };
}

-- ---- each message is an answer

-- each answer is that of a message
answered : (answer : StreamAnswer) → (m : ReplyMessage) × (answer_told m ≡ answer)
answered (reply r) = (messages.Reply r, refl)
answered (strange status) = (messages.Strange status, refl)

pub none-none : (bytes : List ℕ) → HasNoMessage SpellsMessage bytes
    → HasNoMessage SpellsReply bytes
none-none bytes none front back answer is s =
    let m = answered answer in
    none front back m.0 is (subst (SpellsReply front) (sym m.1) s)

pub hopeless-hopeless : (bytes : List ℕ) → IsHopeless SpellsMessage bytes
    → IsHopeless SpellsReply bytes
hopeless-hopeless bytes none more = none-none (bytes ++ more) (none more)

-- a message that was taken is an answer that was taken
pub told : (old new : ReaderState) (m : ReplyMessage) → TakesMessage SpellsMessage old new m
    → TakesMessage SpellsReply old new (answer_told m)
told old new m took = record {
  front = took.front;
  spells = took.spells;
  held = took.held;
  whole = took.whole;
}

-- ---- the body is filled in

-- the answer with this body
filled_answer : StreamAnswer → List ℕ → StreamAnswer
filled_answer (reply r) body = answer_told (filled_reply r body)
filled_answer (strange status) body = strange status

filled_reply_message-told : (m : ReplyMessage) (body : List ℕ)
    → answer_told (filled_reply_message m body) ≡ filled_answer (answer_told m) body
unfolding filled_answer
filled_reply_message-told (messages.Reply r) body = refl
filled_reply_message-told (messages.Strange status) body = refl

locked-filled : (status : ℕ) (body : List ℕ) (cookie age since : Option ℕ)
    → filled_answer (strange_unless status (locked_reply cookie age since)) body
    ≡ strange_unless status (locked_reply cookie age since)
unfolding filled_answer
locked-filled status body (Some cookie) (Some age) since = refl
locked-filled status body (Some cookie) None since = refl
locked-filled status body None age since = refl

either-filled : (b : Bool) (status : ℕ) (body : List ℕ) (x y x' y' : Option Reply)
    → filled_answer (strange_unless status x) body ≡ strange_unless status x'
    → filled_answer (strange_unless status y) body ≡ strange_unless status y'
    → filled_answer (strange_unless status (cond b x y)) body ≡ strange_unless status (cond b x' y')
either-filled true status body x y x' y' e f = e
either-filled false status body x y x' y' e f = f

plain-filled : (status : ℕ) (body : List ℕ) →
    filled_answer (strange_unless status (plain_reply status)) body
    ≡ strange_unless status (plain_reply status)
unfolding filled_answer
plain-filled status body =
    either-filled (status == 400) status body _ _ _ _ refl
    (either-filled (status == 404) status body _ _ _ _ refl
    (either-filled (status == 500) status body _ _ _ _ refl
    (either-filled (status == 503) status body _ _ _ _ refl
    (either-filled (status == 507) status body _ _ _ _ refl
    (either-filled (status == 508) status body _ _ _ _ refl refl)))))

found-filled : (status : ℕ) (body : List ℕ) (minutes cookie flag : Option ℕ)
    → filled_answer (strange_unless status (found_reply [] minutes cookie flag)) body
    ≡ strange_unless status (found_reply body minutes cookie flag)
unfolding filled_answer
found-filled status body (Some m) (Some k) (Some f) = refl
found-filled status body (Some m) (Some k) None = refl
found-filled status body (Some m) None f = refl
found-filled status body None k f = refl

done-filled : (status : ℕ) (body : List ℕ) → status ≡ 200
    → filled_answer (strange_unless status (done_reply [])) body
    ≡ strange_unless status (done_reply body)
unfolding filled_answer
done-filled status [] is = refl
done-filled status (byte ∷ bytes) is = ap strange (sym is)

ok-filled : (status : ℕ) (body : List ℕ) (s : Occurrence) (minutes cookie flag : Option ℕ)
    → status ≡ 200
    → filled_answer (strange_unless status (ok_reply s [] (found_reply [] minutes cookie flag)))
    body ≡ strange_unless status (ok_reply s body (found_reply body minutes cookie flag))
ok-filled status body absent minutes cookie flag is = done-filled status body is
ok-filled status body (one value) minutes cookie flag is =
    found-filled status body minutes cookie flag
ok-filled status body twice minutes cookie flag is = found-filled status body minutes cookie flag

-- what 200 says with this body
abbrev ok_of : List Field → List ℕ → Option Reply
ok_of fields body = ok_reply (once fields (codes "Timeout")) body
    (found_reply body (minutes_field fields) (lock_cookie_field fields) (action_flags_field fields))

-- what another status says
abbrev other_of : ℕ → List Field → Option Reply
other_of status fields = cond (status == 423)
    (locked_reply (holder_field fields) (age_field fields) (since_field fields)) (plain_reply
    status)

by_status : (b : Bool) (status : ℕ) (fields : List Field) (body : List ℕ) → (status == 200) ≡ b
    → filled_answer (strange_unless status (cond b (ok_of fields []) (other_of status fields))) body
    ≡ strange_unless status (cond b (ok_of fields body) (other_of status fields))
by_status true status fields body e =
    let same : status ≡ 200 = grind (arith, nat_tests) in
    ok-filled status body (once fields (codes "Timeout")) (minutes_field fields)
    (lock_cookie_field fields) (action_flags_field fields) same
by_status false status fields body e =
    either-filled (status == 423) status body _ _ _ _
    (locked-filled status body (holder_field fields) (age_field fields) (since_field fields))
    (plain-filled status body)

answer-filled : (status : ℕ) (fields : List Field) (body : List ℕ)
    → filled_answer (answer_spelled status fields []) body ≡ answer_spelled status fields body
unfolding reply_from
answer-filled status fields body = by_status (status == 200) status fields body refl

-- the message of a head's parts, with its body still to come
pub begins : (text : List ℕ) (headers : List HeaderSpan) (spans : ResponseSpans) (len : ℕ)
    (m : ReplyMessage) → IsReplyParsed text headers spans len
    → answer_told m ≡ answer_spelled spans.code
    (map (header_bytes text) (take spans.headers headers)) []
    → (body : List ℕ) → length body ≡ len → MeansReply text body (filled_reply_message m body)
begins text headers spans len m is says body same_len =
    let head = is.of.0 in
    let at = is.of.1 in
    let fields = map (header_bytes text) (take spans.headers headers) in
    record {
      head = head;
      is_head = parsed-head text headers spans len is;
      announced = ap body_length (sym at.fields) ∙ is.announced ∙ ap Some (sym same_len);
      answer_is =
          filled_reply_message-told m body ∙ ap (λ a. filled_answer a body) says
          ∙ answer-filled spans.code fields body
          ∙ ap (λ status. answer_spelled status fields body) at.code
          ∙ ap (λ fs. answer_spelled (status_code head) fs body) at.fields;
    }

-- ---- what was taken

pub takes : (old new : CountedReader) (ticks : ℕ) (m : ReplyMessage)
    → TakesFramed MeansReply old new ticks m → TakesReplyCounted old new ticks (answer_told m)
unfolding spells
takes old new ticks m t = record {
  taken = record {
    front = t.text ++ t.body;
    spells = spells t.text t.body m t.means;
    held = t.held;
    whole = t.whole;
  };
  counted = t.counted;
  forgotten = t.forgotten;
}
