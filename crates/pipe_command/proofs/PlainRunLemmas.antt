-- What is asked and written, with one message more.
use Rattle.std.proofs.Common.{◌≡◌, ℕ, ◌+◌, List, [], ◌∷◌, ◌++◌, length, map, refl, sym, ap, ◌∙◌, arith, append_assoc, append-nil}
use Rattle.std.specs.List.{flat_map}
use Rattle.std.proofs.lemmas.Grind.{flat_map-append}
use Rattle.asp_base.specs.Moments.{step_moment}
use Rattle.asp_messages.specs.declared.request.Message.{Message}
use Rattle.asp_messages.specs.declared.request.Message.TheVariants.{Fit, Unfit}
use Rattle.asp_messages.specs.declared.request.Request.{Request}
use Rattle.asp_messages.specs.declared.reply.Reply.TheVariants as replies
use Rattle.cookie_source.specs.Counting.{Counter}
use Rattle.asp_messages.specs.ReplyText.{reply_text}
use Rattle.session_machine.specs.declared.entry.Entry.{Entry}
use Rattle.session_machine.specs.declared.entry.Deed.TheVariants.{Asked}
use Rattle.plain_desk.specs.Draws.{draws, draw_of, deed_draws, draws_in}
use Rattle.session_machine.specs.Profiles.{newest}
use Rattle.journal_text.specs.WritingText.{entry_line, head_line, journal_text}
use Rattle.stream_core.specs.Whole.{written}
use Rattle.pipe_command.specs.PlainRun.{Asking, asking_of, askings, replies_to}
use Rattle.pipe_command.specs.PipeProgress.{total_draws}

pub askings-push : (start step : ℕ) (cookies : Counter) (k j : ℕ) (ms : List Message) (m : Message)
    → askings start step cookies k j (ms ++ m ∷ []) ≡ askings start step cookies k j ms ++ askings start
    step cookies (k + length ms) (j + total_draws ms) (m ∷ [])
askings-push start step cookies k j [] m =
    let at : k ≡ k + 0 = omega arith in
    let jt : j ≡ j + 0 = omega arith in
    ap (λ n. askings start step cookies n j (m ∷ [])) at
    ∙ ap (λ n. askings start step cookies (k + 0) n (m ∷ [])) jt
askings-push start step cookies k j (Unfit ∷ ms) m =
    let at : k + 1 + length ms ≡ k + length (Unfit ∷ ms) = omega arith in
    askings-push start step cookies (k + 1) j ms m
    ∙ ap (λ n. askings start step cookies (k + 1) j ms ++ askings start step cookies n
    (j + total_draws ms) (m ∷ [])) at
askings-push start step cookies k j (Fit r ∷ ms) m =
    let at : k + 1 + length ms ≡ k + length (Fit r ∷ ms) = omega arith in
    let jt : j + draws r.ask + total_draws ms ≡ j + (draws r.ask + total_draws ms) = omega arith in
    let one : Asking = (0, step_moment start step k, Asked r, draw_of cookies.next cookies.last j r.ask) in
    let rest = askings start step cookies (k + 1) (j + draws r.ask) ms in
    ap (λ t. one ∷ t) (askings-push start step cookies (k + 1) (j + draws r.ask) ms m)
    ∙ ap (λ n.
    one ∷ (rest ++ askings start step cookies n (j + draws r.ask + total_draws ms) (m ∷ []))) at
    ∙ ap (λ n. one ∷ (rest ++ askings start step cookies (k + length (Fit r ∷ ms)) n (m ∷ []))) jt

pub total_draws-push : (ms : List Message) (m : Message)
    → total_draws (ms ++ m ∷ []) ≡ total_draws ms + total_draws (m ∷ [])
total_draws-push [] m = omega arith
total_draws-push (Unfit ∷ ms) m = total_draws-push ms m
total_draws-push (Fit r ∷ ms) m = let rest = total_draws-push ms m in omega arith

pub written-unfit : (start step : ℕ) (cookies : Counter) (k j : ℕ) (ms : List Message) (list : List Entry)
    → map asking_of list ≡ askings start step cookies k j ms
    → written (replies_to (ms ++ Unfit ∷ []) list)
    ≡ written (replies_to ms list) ++ reply_text replies.Bad
written-unfit start step cookies k j [] list is = append-nil (reply_text replies.Bad)
written-unfit start step cookies k j (Unfit ∷ ms) list is =
    ap (λ t. reply_text replies.Bad ++ t) (written-unfit start step cookies (k + 1) j ms list is)
    ∙ sym (append_assoc (reply_text replies.Bad) (written (replies_to ms list))
    (reply_text replies.Bad))
written-unfit start step cookies k j (Fit r ∷ ms) [] is = cc
written-unfit start step cookies k j (Fit r ∷ ms) (e ∷ es) is =
    let tail : map asking_of es ≡ askings start step cookies (k + 1) (j + draws r.ask) ms = cc in
    ap (λ t. reply_text e.reply ++ t) (written-unfit start step cookies (k + 1) (j + draws r.ask) ms
    es tail) ∙ sym (append_assoc (reply_text e.reply) (written (replies_to ms es))
    (reply_text replies.Bad))

pub written-fit : (start step : ℕ) (cookies : Counter) (k j : ℕ) (ms : List Message) (list : List Entry) (r : Request)
    (e : Entry) → map asking_of list ≡ askings start step cookies k j ms
    → written (replies_to (ms ++ Fit r ∷ []) (list ++ e ∷ []))
    ≡ written (replies_to ms list) ++ reply_text e.reply
written-fit start step cookies k j [] [] r e is = append-nil (reply_text e.reply)
written-fit start step cookies k j [] (f ∷ fs) r e is = cc
written-fit start step cookies k j (Unfit ∷ ms) list r e is =
    ap (λ t. reply_text replies.Bad ++ t) (written-fit start step cookies (k + 1) j ms list r e is)
    ∙ sym (append_assoc (reply_text replies.Bad) (written (replies_to ms list))
    (reply_text e.reply))
written-fit start step cookies k j (Fit q ∷ ms) [] r e is = cc
written-fit start step cookies k j (Fit q ∷ ms) (f ∷ fs) r e is =
    let tail : map asking_of fs ≡ askings start step cookies (k + 1) (j + draws q.ask) ms = cc in
    ap (λ t. reply_text f.reply ++ t) (written-fit start step cookies (k + 1) (j + draws q.ask) ms fs
    r e tail) ∙ sym (append_assoc (reply_text f.reply) (written (replies_to ms fs))
    (reply_text e.reply))

-- the cookies that the entries draw are those of the messages
pub draws_in-plain : (start step : ℕ) (cookies : Counter) (k j : ℕ) (ms : List Message) (list : List Entry)
    → map asking_of list ≡ askings start step cookies k j ms
    → draws_in list ≡ total_draws ms
draws_in-plain start step cookies k j [] [] is = refl
draws_in-plain start step cookies k j [] (e ∷ es) is = cc
draws_in-plain start step cookies k j (Unfit ∷ ms) list is =
    draws_in-plain start step cookies (k + 1) j ms list is
draws_in-plain start step cookies k j (Fit r ∷ ms) [] is = cc
draws_in-plain start step cookies k j (Fit r ∷ ms) (e ∷ es) is =
    let head : asking_of e ≡ (
      0,
      step_moment start step k,
      Asked r,
      draw_of cookies.next cookies.last j
          r.ask,
    ) = cc in
    let tail : map asking_of es ≡ askings start step cookies (k + 1) (j + draws r.ask) ms = cc in
    let one : deed_draws e.deed ≡ draws r.ask = ap (λ (a : Asking). deed_draws a.2) head in
    let rest = draws_in-plain start step cookies (k + 1) (j + draws r.ask) ms es tail in
    omega (arith, one, rest)

-- ---- what a run writes

pub journal_text-push : (place : ℕ) (list : List Entry) (e : Entry)
    → journal_text newest place (list ++ e ∷ [])
    ≡ journal_text newest place list ++ entry_line newest e
journal_text-push place list e =
    ap (λ t. head_line newest place ++ t) (flat_map-append (entry_line newest) list (e ∷ [])
    ∙ ap (λ t. flat_map (entry_line newest) list ++ t) (append-nil (entry_line newest e)))
    ∙ sym (append_assoc (head_line newest place) (flat_map (entry_line newest) list)
    (entry_line newest e))
