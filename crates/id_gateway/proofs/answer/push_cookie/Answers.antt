use Rattle.std.proofs.Common.{◌≡◌, List, ℕ, ◌++◌, Result, Ok, Err, sym, ap, ◌∙◌, append_assoc}
use Rattle.std.specs.Prelude.{OnOk, codes}
use Rattle.session_id.specs.Identifiers.{text_of}
use Rattle.id_gateway.specs.Answers.{set_cookie_line}
use Rattle.id_gateway.proofs.answer.push_cookie.Goals as goal

on_ok : {T E : Type 0} {P Q : Type 0} (r : Result T E) → OnOk r P → (P → Q) → OnOk r Q
on_ok (Ok x) holds more = more holds
on_ok (Err e) holds more = tt

joined : (out a t b : List ℕ) → ((out ++ a) ++ t) ++ b ≡ out ++ (a ++ (t ++ b))
joined out a t b = append_assoc (out ++ a) t b ∙ append_assoc out a (t ++ b)

pub returns-in_ok-push-in-Some-2 : goal.returns-in_ok-push-in-Some-2
returns-in_ok-push-in-Some-2 c =
    let out = c.args.out.now.items in
    let a = codes "Set-Cookie: ASP.NET_SessionId=" in
    let b = codes "; path=/; HttpOnly\r\n" in
    on_ok c.push-in-Some-2.result c.push-in-Some-2.ensures.ok (λ third.
    third
    ∙ ap (λ s. s ++ b) (c.in_ok-push-in-Some-2.ensures.ok
    ∙ ap (λ s. s ++ c.text.result) c.in_ok-push-in-Some.ensures.ok
    ∙ ap (λ t. (out ++ a) ++ t) c.text.ensures.value)
    ∙ joined out a (text_of c.in-Some.id) b
    ∙ ap (λ n. out ++ set_cookie_line n) (sym c.in-Some.is))
