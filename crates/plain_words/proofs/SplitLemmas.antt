-- A text is cut at a byte, and at its spaces, in one way.
use Rattle.std.proofs.Common.{◌≡◌, ◌≢◌, ℕ, ◌<◌, ◌^◌, List, [], ◌∷◌, ◌++◌, refl, sym, ap, ◌∙◌, arith, subst}
use Rattle.std.specs.Prelude.{decimal}
use Rattle.std.proofs.lemmas.Fmt.{decimal_injective}
use Rattle.std.proofs.lemmas.List.Elements.{All-head, All-tail, All-weaker}
use Rattle.plain_words.specs.Words.{HasNo, IsWord, SplitsAt}
use Rattle.plain_words.proofs.NumberLemmas.{decimal_word}

heads : (a b : ℕ) (xs ys : List ℕ) → a ∷ xs ≡ b ∷ ys → (a ≡ b) × (xs ≡ ys)
heads a b xs ys e = (cc, cc)

pub split_one : (byte : ℕ) (word rest other behind : List ℕ) → HasNo byte word → HasNo byte other
    → word ++ byte ∷ rest ≡ other ++ byte ∷ behind → (word ≡ other) × (rest ≡ behind)
split_one byte [] rest [] behind hw ho e = (refl, (heads byte byte rest behind e).1)
split_one byte [] rest (o ∷ os) behind hw ho e =
    absurd (All-head (λ b. b ≢ byte) o os ho (sym (heads byte o rest (os ++ byte ∷ behind) e).0))
split_one byte (w ∷ ws) rest [] behind hw ho e =
    absurd (All-head (λ b. b ≢ byte) w ws hw (heads w byte (ws ++ byte ∷ rest) behind e).0)
split_one byte (w ∷ ws) rest (o ∷ os) behind hw ho e =
    let P = λ (b : ℕ). b ≢ byte in
    let parts = heads w o (ws ++ byte ∷ rest) (os ++ byte ∷ behind) e in
    let ih = split_one byte ws rest os behind (All-tail P w ws hw) (All-tail P o os ho) parts.1 in
    (ap (λ h. h ∷ ws) parts.0 ∙ ap (λ t. o ∷ t) ih.0, ih.1)

pub split_same : (byte : ℕ) (text word rest other behind : List ℕ) → SplitsAt byte text word rest
    → SplitsAt byte text other behind → (word ≡ other) × (rest ≡ behind)
split_same byte text word rest other behind a b =
    split_one byte word rest other behind a.first b.first (sym a.joined ∙ b.joined)

-- ---- behind a number

-- a word holds no space
pub no_space : (w : List ℕ) → IsWord w → HasNo 32 w
no_space w h = All-weaker (λ b. (32 < b) × (b ≢ 58)) (λ b. b ≢ 32) (λ b p e. omega (arith, p.0, e))
    w h

-- the byte of a cut stands in the text
pub no_cut : (byte : ℕ) (word rest : List ℕ) → HasNo byte (word ++ byte ∷ rest) → ⊥
no_cut byte [] rest h = All-head (λ b. b ≢ byte) byte rest h refl
no_cut byte (w ∷ ws) rest h = no_cut byte ws rest (All-tail (λ b. b ≢ byte) w (ws ++ byte ∷ rest) h)

pub not_cut : (byte : ℕ) (text word rest : List ℕ) → HasNo byte text → text ≡ word ++ byte ∷ rest
    → ⊥
not_cut byte text word rest h e = no_cut byte word rest (subst (HasNo byte) e h)

pub number_no_space : (n : ℕ) → n < 2 ^ 64 → HasNo 32 (decimal n)
number_no_space n small = no_space (decimal n) (decimal_word n small)

-- a cut behind a number
pub number_cut : (n m : ℕ) (rest behind : List ℕ) → n < 2 ^ 64 → m < 2 ^ 64
    → decimal n ++ 32 ∷ rest ≡ decimal m ++ 32 ∷ behind → (n ≡ m) × (rest ≡ behind)
number_cut n m rest behind ns ms e =
    let cut = split_one 32 (decimal n) rest (decimal m) behind (number_no_space n ns)
    (number_no_space m ms) e in
    (decimal_injective n m ns ms cut.0, cut.1)

-- a text that was cut at a space, and begins with a number
pub cut_is_number : (text word rest : List ℕ) (n : ℕ) (behind : List ℕ) → SplitsAt 32 text word rest
    → n < 2 ^ 64 → text ≡ decimal n ++ 32 ∷ behind → (word ≡ decimal n) × (rest ≡ behind)
cut_is_number text word rest n behind cut small e =
    split_one 32 word rest (decimal n) behind cut.first (number_no_space n small)
    (sym cut.joined ∙ e)
