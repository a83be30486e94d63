-- Texts cut at their spaces.
use Rattle.std.proofs.Common.{◌≡◌, ◌≢◌, ℕ, ◌<◌, ◌^◌, List, [], ◌∷◌, ◌++◌, true, IsTrue, refl, ap, subst, ◌∙◌, append_assoc, arith}
use Rattle.std.specs.Prelude.{codes, decimal, nat_lt}
use Rattle.std.specs.List.{list_all}
use Rattle.std.proofs.lemmas.Bool.Decides.{nat_tests}
use Rattle.std.proofs.lemmas.List.Elements.{All-head, All-tail, All-weaker}
use Rattle.std.proofs.lemmas.List.Sums.{AllPass-from_list_all}
use Rattle.std.proofs.lemmas.Fmt.{decimal_injective}
use Rattle.asp_messages.specs.PlainSpelling.{◌then◌, bytes_word}
use Rattle.plain_words.specs.Words.{AreBytes, HasNo, IsNumber, IsWord, SplitsAt}
use Rattle.plain_words.proofs.ByteStringLemmas.{string_word}
use Rattle.plain_words.proofs.NumberLemmas.{decimal_word}
use Rattle.plain_words.proofs.SplitLemmas.{split_same}
use Rattle.visit_core.specs.declared.visit_terms.Need.{Need}
use Rattle.visit_core.specs.declared.visit_terms.Need.TheVariants.{Exclusive, ReadOnly, Off}
use Rattle.page_script.specs.Lines.{need_word}
use Rattle.page_script.specs.Names.{IsLetter, IsName}
use Rattle.page_script.specs.LineParts.{IsNumberThen}

-- ---- words without spaces

word_no_space : (text : List ℕ) → IsWord text → HasNo 32 text
word_no_space text word = All-weaker (λ b. (32 < b) × (b ≢ 58)) (λ b. b ≢ 32)
    (λ b h e. omega (arith, h.0, e)) text word

pub decimal_no_space : (n : ℕ) → n < 2 ^ 64 → HasNo 32 (decimal n)
decimal_no_space n small = word_no_space (decimal n) (decimal_word n small)

pub bytes_no_space : (bytes : List ℕ) → AreBytes bytes → HasNo 32 (bytes_word bytes)
bytes_no_space bytes are = word_no_space (bytes_word bytes) (string_word bytes are)

pub name_no_space : (name : List ℕ) → IsName name → HasNo 32 name
name_no_space name is = All-weaker IsLetter (λ b. b ≢ 32) (λ b h e. omega (arith, h.0, e)) name
    is.lower

above_space : (b : ℕ) → nat_lt 32 b ≡ true → b ≢ 32
above_space b h e = grind (arith, nat_tests)

tested_no_space : (text : List ℕ) → list_all (nat_lt 32) text ≡ true → HasNo 32 text
tested_no_space text h = All-weaker (λ b. IsTrue (nat_lt 32 b)) (λ b. b ≢ 32) above_space text
    (AllPass-from_list_all (nat_lt 32) text h)

pub need_no_space : (need : Need) → HasNo 32 (need_word need)
need_no_space Exclusive = tested_no_space (codes "exclusive") refl
need_no_space ReadOnly = tested_no_space (codes "readonly") refl
need_no_space Off = tested_no_space (codes "off") refl

-- ---- cuts

found_nowhere : (byte : ℕ) (word rest : List ℕ) → HasNo byte (word ++ byte ∷ rest) → ⊥
found_nowhere byte [] rest none = All-head (λ b. b ≢ byte) byte rest none refl
found_nowhere byte (w ∷ ws) rest none = found_nowhere byte ws rest
    (All-tail (λ b. b ≢ byte) w (ws ++ byte ∷ rest) none)

-- a text with a byte is no text without it
pub no_cut : (byte : ℕ) (text word rest : List ℕ) → HasNo byte text → text ≡ word ++ byte ∷ rest → ⊥
no_cut byte text word rest none joined = found_nowhere byte word rest
    (subst (HasNo byte) joined none)

-- ---- words one behind another

pub two_words : (a b : List ℕ) → a then b ≡ a ++ 32 ∷ b
two_words a b = append_assoc a (32 ∷ []) b

pub three_words : (a b c : List ℕ) → a then b then c ≡ a ++ 32 ∷ (b ++ 32 ∷ c)
three_words a b c = two_words (a then b) c ∙ ap (λ t. t ++ 32 ∷ c) (two_words a b)
    ∙ append_assoc a (32 ∷ b) (32 ∷ c)

pub four_words : (a b c d : List ℕ) → a then b then c then d ≡ a ++ 32 ∷ (b ++ 32 ∷ (c ++ 32 ∷ d))
four_words a b c d =
    two_words (a then b then c) d ∙ ap (λ t. t ++ 32 ∷ d) (three_words a b c)
    ∙ append_assoc a (32 ∷ (b ++ 32 ∷ c)) (32 ∷ d)
    ∙ ap (λ t. a ++ 32 ∷ t) (append_assoc b (32 ∷ c) (32 ∷ d))

-- ---- numbers

pub number_splits : (text : List ℕ) (max n : ℕ) (rest : List ℕ) → max < 2 ^ 64
    → IsNumberThen text max n rest → SplitsAt 32 text (decimal n) rest
number_splits text max n rest bound is = record {
  joined = is.spelled;
  first =
      decimal_no_space n (omega (arith, is.small));
}

-- the word before the first space is no number
pub no_number_then : (text word behind : List ℕ) (max : ℕ) → max < 2 ^ 64
    → SplitsAt 32 text word behind → ((n : ℕ) → ¬ IsNumber word max n)
    → (n : ℕ) (rest : List ℕ) → IsNumberThen text max n rest → ⊥
no_number_then text word behind max bound split none n rest is =
    none n (
      (split_same 32 text word behind (decimal n) rest split
          (number_splits text max n rest bound is)).0,
      is.small,
    )

-- one text begins with one number
pub one_number_then : (text : List ℕ) (max m n : ℕ) (rest behind : List ℕ) → max < 2 ^ 64
    → IsNumberThen text max m rest → IsNumberThen text max n behind → (m ≡ n) × (rest ≡ behind)
one_number_then text max m n rest behind bound a b =
    let same = split_same 32 text (decimal m) rest (decimal n) behind
    (number_splits text max m rest bound a) (number_splits text max n behind bound b) in
    (decimal_injective m n (omega (arith, a.small)) (omega (arith, b.small)) same.0, same.1)
