-- The values of a name, field by field.
use Rattle.httparse.specs.declared.spans.HeaderSpan.{HeaderSpan}
use Rattle.httparse.specs.Spans.{header_bytes, span_bytes}
use Rattle.std.proofs.lemmas.List.{take_more, map-append}
use Rattle.std.proofs.Common.{◌+◌, ◌<◌, length, take, get_or, map, ◌≡◌, ℕ, Bool, true, false, cond, List, [], ◌∷◌, ◌++◌, refl, ap, ◌∙◌}
use Rattle.asp_base.specs.Text.{is_same_name}
use Rattle.asp_messages.specs.Fields.{values, once}
use Rattle.asp_messages.specs.Fields as fields
use Rattle.message_framing.specs.Standings.{one_more_value}

values-append-step : (b : Bool) (v : List ℕ) (xs ys : List (List ℕ))
    → cond b (v ∷ (xs ++ ys)) (xs ++ ys) ≡ cond b (v ∷ xs) xs ++ ys
values-append-step true v xs ys = refl
values-append-step false v xs ys = refl

values-push : (fs : List (List ℕ × List ℕ)) (f : List ℕ × List ℕ) (name : List ℕ)
    → values (fs ++ f ∷ []) name ≡ values fs name ++ values (f ∷ []) name
values-push [] f name = refl
values-push (g ∷ gs) f name =
    ap (λ vs. cond (is_same_name g.0 name) (g.1 ∷ vs) vs) (values-push gs f name)
    ∙ values-append-step (is_same_name g.0 name) g.1 (values gs name) (values (f ∷ []) name)

standing-push : (vs : List (List ℕ)) (v : List ℕ)
    → fields.occurrence (vs ++ v ∷ []) ≡ one_more_value (fields.occurrence vs) v
standing-push [] v = refl
standing-push (w ∷ []) v = refl
standing-push (w ∷ x ∷ vs) v = refl

append-nil' : (vs : List (List ℕ)) → vs ++ [] ≡ vs
append-nil' [] = refl
append-nil' (v ∷ vs) = ap (λ t. v ∷ t) (append-nil' vs)

-- a field of the name
pub once-found : (fs : List (List ℕ × List ℕ)) (f : List ℕ × List ℕ) (name : List ℕ)
    → is_same_name f.0 name ≡ true
    → once (fs ++ f ∷ []) name ≡ one_more_value (once fs name) f.1
once-found fs f name same =
    ap fields.occurrence (values-push fs f name
    ∙ ap (λ b. values fs name ++ cond b (f.1 ∷ []) []) same)
    ∙ standing-push (values fs name) f.1

-- a field of another name
pub once-other : (fs : List (List ℕ × List ℕ)) (f : List ℕ × List ℕ) (name : List ℕ)
    → is_same_name f.0 name ≡ false
    → once (fs ++ f ∷ []) name ≡ once fs name
once-other fs f name other =
    ap fields.occurrence (values-push fs f name
    ∙ ap (λ b. values fs name ++ cond b (f.1 ∷ []) []) other ∙ append-nil' (values fs name))

next_field : (buf : List ℕ) (headers : List HeaderSpan) (i : ℕ) (d : HeaderSpan)
    → i < length headers
    → map (header_bytes buf) (take (i + 1) headers) ≡ map (header_bytes buf) (take i headers)
    ++ header_bytes buf (get_or headers i d) ∷ []
next_field buf headers i d below = ap (map (header_bytes buf)) (take_more headers i d below)
    ∙ map-append (header_bytes buf) (take i headers) (get_or headers i d ∷ [])

pub found-next : (buf name : List ℕ) (headers : List HeaderSpan) (i : ℕ) (d : HeaderSpan)
    → i < length headers
    → is_same_name (span_bytes buf (get_or headers i d).name) name ≡ true
    → once (map (header_bytes buf) (take (i + 1) headers)) name
    ≡ one_more_value (once (map (header_bytes buf) (take i headers)) name)
    (span_bytes buf (get_or headers i d).value)
found-next buf name headers i d below same =
    ap (λ fs. once fs name) (next_field buf headers i d below)
    ∙ once-found _ (header_bytes buf (get_or headers i d)) name same

pub other-next : (buf name : List ℕ) (headers : List HeaderSpan) (i : ℕ) (d : HeaderSpan)
    → i < length headers
    → is_same_name (span_bytes buf (get_or headers i d).name) name ≡ false
    → once (map (header_bytes buf) (take (i + 1) headers)) name
    ≡ once (map (header_bytes buf) (take i headers)) name
other-next buf name headers i d below other =
    ap (λ fs. once fs name) (next_field buf headers i d below)
    ∙ once-other _ (header_bytes buf (get_or headers i d)) name other
