-- Facts on the digits of a number, the lowest digit first.
use Rattle.std.proofs.Common.{◌≡◌, ℕ, zero, suc, ◌+◌, ◌-◌, ◌*◌, ◌/◌, ◌%◌, ◌^◌, ◌<◌, ◌≤◌, List, [], ◌∷◌, length, get_or, take, drop, map, All, refl, sym, ap, ◌∙◌, add-one, arith, Fits, w8}
use Rattle.std.specs.List.{range_with_len}
use Rattle.std.proofs.Math.Nat.{pow-suc, pow-zero, mod-lt, mod-one, one-le-pow, pow-le-pow_right, pow-succ', div-one, div-div-eq-div-mul}
use Rattle.std.proofs.Math.Arith.{mod-mul}
use Rattle.std.proofs.lemmas.Nat.{div-mul-add, mod-mul-add, mul-add-lt, same_from_place}
use Rattle.std.proofs.lemmas.List.Elements.{All-cons, All-drop, All-from_get_or, All-get_or, All-head, All-nil, All-tail}
use Rattle.std.proofs.lemmas.List.{length-drop}
use Rattle.std.proofs.Math.Seq.{drop-cons}
use Rattle.session_id.specs.Identifiers.{number}

-- digits below the base write a number below its power
pub number-lt : (b : ℕ) (ds : List ℕ) → All (λ d. d < b) ds → number b ds < b ^ length ds
number-lt b [] h = omega (arith, pow-zero b)
number-lt b (d ∷ ds) h =
    let head = All-head (λ n. n < b) d ds h in
    let rest = number-lt b ds (All-tail (λ n. n < b) d ds h) in
    let whole = mul-add-lt (number b ds) b d (b ^ length ds) rest head in
    rw pow-suc (grind (arith, whole))

-- two lists of as many digits below the base that write one number are equal
pub same_from_number : (b : ℕ) (xs ys : List ℕ) → All (λ d. d < b) xs → All (λ d. d < b) ys
    → length xs ≡ length ys → number b xs ≡ number b ys → xs ≡ ys
same_from_number b [] [] hx hy l e = refl
same_from_number b [] (y ∷ ys) hx hy l e = absurd (omega (arith, l))
same_from_number b (x ∷ xs) [] hx hy l e = absurd (omega (arith, l))
same_from_number b (x ∷ xs) (y ∷ ys) hx hy l e =
    let turned : number b xs * b + x ≡ number b ys * b + y = grind (arith, e) in
    let parts = same_from_place (number b xs) x (number b ys) y b
    (All-head (λ n. n < b) x xs hx) (All-head (λ n. n < b) y ys hy) turned in
    let rest = same_from_number b xs ys (All-tail (λ n. n < b) x xs hx)
    (All-tail (λ n. n < b) y ys hy) (omega (arith, l)) parts.0 in
    let first = parts.1 in
    cc (first, rest)

-- some digits of n from place a on write what is left of n there
pub number-digits_from : (b n : ℕ) → 0 < b → (a count : ℕ)
    → number b (map (λ k. n / b ^ k % b) (range_with_len a count)) ≡ n / b ^ a % b ^ count
number-digits_from b n some a zero = rw pow-zero (sym (mod-one (n / b ^ a)))
number-digits_from b n some a (suc count) =
    let rest = number-digits_from b n some (a + 1) count in
    let next : n / b ^ (a + 1) ≡ n / b ^ a / b =
    rw (add-one, pow-suc) (sym (div-div-eq-div-mul n (b ^ a) b)) in
    let split = mod-mul (n / b ^ a) (one-le-pow count b some) some in
    let tail = rw next at rest in
    rw (pow-suc, split, tail) (grind arith)

-- each digit is below the base
pub All-digits_from : (b n : ℕ) → 0 < b → (a count : ℕ)
    → All (λ d. d < b) (map (λ k. n / b ^ k % b) (range_with_len a count))
All-digits_from b n some a zero = All-nil (λ d. d < b)
All-digits_from b n some a (suc count) =
    All-cons (λ d. d < b) (n / b ^ a % b) _ (mod-lt (n / b ^ a) some)
    (All-digits_from b n some (a + 1) count)

-- reading one more digit of a list stays below the power of the whole list
pub number-step_lt : (b : ℕ) (ds : List ℕ) (i : ℕ) → All (λ d. d < b) ds → 0 < i → i ≤ length ds
    → get_or ds (i - 1) 0 + b * number b (drop i ds) < b ^ length ds
number-step_lt b ds i h some within =
    let back : suc (i - 1) ≡ i = omega arith in
    let cut : drop (i - 1) ds ≡ get_or ds (i - 1) 0 ∷ drop i ds =
    rw back at (drop-cons ds (i - 1) 0 (omega arith)) in
    let part : number b (drop (i - 1) ds) < b ^ length (drop (i - 1) ds) =
    number-lt b (drop (i - 1) ds) (All-drop (λ d. d < b) (i - 1) ds h) in
    let value : number b (drop (i - 1) ds) ≡ get_or ds (i - 1) 0 + b * number b (drop i ds) =
    rw cut refl in
    let first : get_or ds (i - 1) 0 < b = All-get_or (λ d. d < b) ds (i - 1) 0 (omega arith) h in
    let wide : b ^ length (drop (i - 1) ds) ≤ b ^ length ds =
    pow-le-pow_right (omega arith) (omega (arith, length-drop {A = ℕ})) in
    omega (arith, part, value, wide)

-- one more step of writing digits
pub digits_step : (n b i : ℕ) → n / b ^ i / b ≡ n / b ^ (i + 1)
digits_step n b i = rw (add-one, pow-suc) (div-div-eq-div-mul n (b ^ i) b)

-- a list that has f of each element of another
pub map-from_each : (f : ℕ → ℕ) (xs ys : List ℕ) → length ys ≡ length xs
    → ((k : ℕ) → k < length xs → get_or ys k 0 ≡ f (get_or xs k 0)) → ys ≡ map f xs
map-from_each f [] [] size each = refl
map-from_each f [] (y ∷ ys) size each = absurd (omega (arith, size))
map-from_each f (x ∷ xs) [] size each = absurd (omega (arith, size))
map-from_each f (x ∷ xs) (y ∷ ys) size each =
    let first : y ≡ f x = each 0 (omega arith) in
    let rest = map-from_each f xs ys (omega (arith, size)) (λ k lt. each (suc k) (omega arith)) in
    cc (first, rest)

-- a list of bytes, from what the type says of each
pub All-bytes : (xs : List ℕ) → ((i : ℕ) → Fits w8 (get_or xs i 0)) → All (λ byte. byte < 256) xs
All-bytes xs each = All-from_get_or (λ byte. byte < 256) xs 0
    (λ i lt. let fits = each i in omega (arith, fits))

-- the digits in a part of a list write what the number has at that part
pub number-part : (b : ℕ) (xs : List ℕ) (at count : ℕ) → All (λ d. d < b) xs → 0 < b
    → at + count ≤ length xs
    → number b (take count (drop at xs)) ≡ number b xs / b ^ at % b ^ count
number-part b xs zero zero h some within = rw pow-zero (sym (mod-one _))
number-part b [] zero (suc count) h some within = absurd (omega arith)
number-part b (x ∷ xs) zero (suc count) h some within =
    let head = All-head (λ n. n < b) x xs h in
    let rest = number-part b xs zero count (All-tail (λ n. n < b) x xs h) some
    (omega (arith, within)) in
    let whole = number b xs * b + x in
    let e : number b xs / b ^ 0 ≡ number b xs = rw pow-zero (div-one (number b xs)) in
    let tail : number b (take count xs) ≡ number b xs % b ^ count = rw e at rest in
    let turned : x + b * number b xs ≡ whole = grind arith in
    let high : whole / b ≡ number b xs = div-mul-add (number b xs) b x head in
    let low : whole % b ≡ x = mod-mul-add (number b xs) b x head in
    let split = mod-mul whole (one-le-pow count b some) some in
    rw (pow-zero, div-one, turned, pow-suc, split, high, low, tail) (grind arith)
number-part b [] (suc at) count h some within = absurd (omega arith)
number-part b (x ∷ xs) (suc at) count h some within =
    let head = All-head (λ n. n < b) x xs h in
    let rest = number-part b xs at count (All-tail (λ n. n < b) x xs h) some
    (omega (arith, within)) in
    let turned : x + b * number b xs ≡ number b xs * b + x = grind arith in
    let high : (x + b * number b xs) / b ≡ number b xs =
    rw turned (div-mul-add (number b xs) b x head) in
    let deep : (x + b * number b xs) / b ^ suc at ≡ number b xs / b ^ at =
    ap (λ p. (x + b * number b xs) / p) (pow-succ' b at)
    ∙ sym (div-div-eq-div-mul (x + b * number b xs) b (b ^ at)) ∙ ap (λ n. n / b ^ at) high in
    rest ∙ ap (λ n. n % b ^ count) (sym deep)

-- five bytes are eight digits in base 32
pub same_place : (k : ℕ) → k < 3 → 32 ^ (8 * k) ≡ 256 ^ (5 * k)
same_place zero lt = refl
same_place (suc zero) lt = refl
same_place (suc (suc zero)) lt = refl
same_place (suc (suc (suc k))) lt = absurd (omega arith)
