-- The target that names a key.
use Rattle.std.proofs.Common.{◌≡◌, ℕ, ◌<◌, ◌≤◌, Bool, true, false, not, ◌||◌, cond, ⊎_elim, ◌*◌, IsTrue, IsUtf8, All, subst, length, List, [], ◌∷◌, ◌++◌, refl, sym, ap, ◌∙◌, arith, ltb}
use Rattle.std.proofs.lemmas.Bool.{agree_below, agree_below_at, cases_Bool}
use Rattle.std.proofs.lemmas.Bool.Decides.{nat_tests}
use Rattle.std.proofs.lemmas.Str.{IsUtf8-from_ascii}
use Rattle.httparse.specs.Grammar.{AllPass, is_uri_byte}
use Rattle.percent_encoding.specs.AsciiSet.{should_percent_encode}
use Rattle.percent_encoding.specs.Percent.{percent_encode, percent_encode_byte, encode_byte, percent_decode}
use Rattle.percent_encoding.proofs.AsciiSetLemmas.{ascii_from_kept}
use Rattle.percent_encoding.proofs.PercentLemmas.{IsByte, IsEscapeByte, All-percent_encode, IsAscii-percent_encode, length-percent_decode, round_trip}
use Rattle.asp_messages.specs.declared.request_text.TheConstants.{ESCAPED}
use Rattle.asp_messages.specs.RequestText.{is_plain_byte, target_byte, target_text}

escaped_table : agree_below (should_percent_encode ESCAPED) (λ b. not (is_plain_byte b)) 128 ≡ true
unfolding should_percent_encode
escaped_table = refl

past_ascii : (b : ℕ) → 128 ≤ b → should_percent_encode ESCAPED b ≡ not (is_plain_byte b)
unfolding should_percent_encode
past_ascii b high = grind (arith, nat_tests)

-- the set holds what does not stand as it is
pub escaped_is : (b : ℕ) → should_percent_encode ESCAPED b ≡ not (is_plain_byte b)
escaped_is b =
    ⊎_elim
    (λ h. agree_below_at (should_percent_encode ESCAPED) (λ k. not (is_plain_byte k)) 128 b
    escaped_table (grind (arith, nat_tests)))
    (λ h. past_ascii b (grind (arith, nat_tests)))
    (cases_Bool (ltb b 128))

swapped : (t : Bool) (x y : List ℕ) → cond (not t) x y ≡ cond t y x
swapped true x y = refl
swapped false x y = refl

encode_byte_is : (b : ℕ) → encode_byte ESCAPED b ≡ target_byte b
encode_byte_is b =
    ap (λ t. cond t (percent_encode_byte b) (b ∷ [])) (escaped_is b)
    ∙ swapped (is_plain_byte b) (percent_encode_byte b) (b ∷ [])

-- the percent-encoding by that set is the target
pub percent_encode_is : (key : List ℕ) → percent_encode ESCAPED key ≡ target_text key
unfolding percent_encode
percent_encode_is [] = refl
percent_encode_is (b ∷ bs) = ap (λ t. t ++ percent_encode ESCAPED bs) (encode_byte_is b)
    ∙ ap (λ t. target_byte b ++ t) (percent_encode_is bs)

-- ---- the target as the grammar has it

-- the target reads back
pub target_text-decoded : (key : List ℕ) → All IsByte key → percent_decode (target_text key) ≡ key
target_text-decoded key bytes = ap percent_decode (sym (percent_encode_is key))
    ∙ round_trip ESCAPED key refl bytes

pub target_text-short : (key : List ℕ) → All IsByte key
    → (length key ≤ length (target_text key)) × (length (target_text key) ≤ 3 * length key)
target_text-short key bytes =
    let lengths = length-percent_decode (target_text key) in
    let same = ap length (target_text-decoded key bytes) in
    (omega (arith, lengths.0, same), omega (arith, lengths.1, same))

kept_table : agree_below (λ b. should_percent_encode ESCAPED b || is_uri_byte b) (λ b. true) 128
    ≡ true
unfolding should_percent_encode
kept_table = refl

or_right : (a b : Bool) → (a || b) ≡ true → a ≡ false → b ≡ true
or_right true b h e = cc
or_right false b h e = h

kept_is_uri : (b : ℕ) → should_percent_encode ESCAPED b ≡ false → IsTrue (is_uri_byte b)
kept_is_uri b kept =
    let small : b < 128 = ascii_from_kept ESCAPED b kept in
    or_right (should_percent_encode ESCAPED b) (is_uri_byte b)
    (agree_below_at (λ k. should_percent_encode ESCAPED k || is_uri_byte k) (λ k. true) 128 b
    kept_table small) kept

escape_is_uri : (b : ℕ) → IsEscapeByte b → IsTrue (is_uri_byte b)
escape_is_uri b h = grind (arith, nat_tests)

pub target_text-uri : (key : List ℕ) → AllPass is_uri_byte (target_text key)
target_text-uri key =
    subst (AllPass is_uri_byte) (percent_encode_is key)
    (All-percent_encode (λ b. IsTrue (is_uri_byte b)) ESCAPED key kept_is_uri escape_is_uri)

pub target_text-utf8 : (key : List ℕ) → IsUtf8 (target_text key)
target_text-utf8 key =
    subst IsUtf8 (percent_encode_is key) (IsUtf8-from_ascii (percent_encode ESCAPED key)
    (IsAscii-percent_encode ESCAPED key))
