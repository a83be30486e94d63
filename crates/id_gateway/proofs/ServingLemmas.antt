-- What becomes of requests, with one request more.
use Rattle.std.proofs.Common.{◌≡◌, ℕ, ◌+◌, List, [], ◌∷◌, ◌++◌, refl, sym, ap, ◌∙◌, arith, append_assoc, append-nil}
use Rattle.asp_base.specs.Moments.{Ticking, step_moment}
use Rattle.page_requests.specs.declared.identities.Mode.{Mode}
use Rattle.page_requests.specs.declared.request.PageRequest.{PageRequest}
use Rattle.page_requests.specs.Identities.{identity_of}
use Rattle.id_gateway.specs.declared.words.GateTerms.{GateTerms}
use Rattle.id_gateway.specs.Giving.{page_start}
use Rattle.id_gateway.specs.Serving.{Served, texts, text_given, events, visited_events, page_moment, draws_for, draws_needed}

pub texts-append : (a b : List Served) → texts (a ++ b) ≡ texts a ++ texts b
texts-append [] b = refl
texts-append (one ∷ a) b =
    ap (λ t. text_given one.answer ++ t) (texts-append a b)
    ∙ sym (append_assoc (text_given one.answer) (texts a) (texts b))

pub texts-push : (a : List Served) (one : Served)
    → texts (a ++ one ∷ []) ≡ texts a ++ text_given one.answer
texts-push a one = texts-append a (one ∷ [])
    ∙ ap (λ t. texts a ++ t) (append-nil (text_given one.answer))

pub events-push : (a : List Served) (one : Served)
    → events (a ++ one ∷ []) ≡ events a ++ visited_events one.visited
events-push [] one = append-nil (visited_events one.visited)
events-push (other ∷ a) one =
    ap (λ t. visited_events other.visited ++ t) (events-push a one)
    ∙ sym (append_assoc (visited_events other.visited) (events a) (visited_events one.visited))

pub draws_needed-push : (mode : Mode) (requests : List PageRequest) (request : PageRequest)
    → draws_needed mode (requests ++ request ∷ [])
    ≡ draws_needed mode requests + draws_for (identity_of mode request)
draws_needed-push mode [] request = omega arith
draws_needed-push mode (other ∷ requests) request =
    let rest = draws_needed-push mode requests request in omega (arith, rest)

pub same_moment : (gate : GateTerms) (clock : Ticking) (k : ℕ)
    → clock.next ≡ step_moment gate.start gate.step k → page_start clock ≡ page_moment gate k
same_moment gate clock k is = omega (arith, is)
