-- Lines by their first words.
use Rattle.std.proofs.Common.{◌≡◌, ◌≢◌, ℕ, ◌<◌, ◌≤◌, ◌^◌, List, [], ◌∷◌, ◌++◌, true, IsTrue, drop, get_or, refl, sym, ap, ◌∙◌, subst, arith}
use Rattle.std.specs.Prelude.{codes, decimal, nat_le, Option, Some, None, is_some, IfNone}
use Rattle.std.specs.List.{All, list_all}
use Rattle.std.proofs.lemmas.Bool.Decides.{nat_tests}
use Rattle.std.proofs.lemmas.List.Elements.{All-append, All-cons, All-nil, All-weaker}
use Rattle.std.proofs.lemmas.List.Sums.{AllPass-from_list_all}
use Rattle.asp_messages.specs.PlainSpelling.{◌then◌, bytes_word}
use Rattle.plain_words.specs.Words.{AreBytes, HasNo, IsWord, ReadsAs}
use Rattle.plain_words.proofs.ByteStringLemmas.{string_word}
use Rattle.plain_words.proofs.NumberLemmas.{decimal_word}
use Rattle.visit_core.specs.declared.act.Ending.{Ending}
use Rattle.visit_core.specs.declared.act.Ending.TheVariants.{Save, Keep, Abandon}
use Rattle.visit_core.specs.declared.visit_terms.Limits.{Limits}
use Rattle.visit_core.specs.declared.visit_terms.Need.{Need}
use Rattle.visit_core.specs.declared.visit_terms.Need.TheVariants.{Exclusive, ReadOnly, Off}
use Rattle.visit_core.specs.Terms.{EndingFits, LimitsFit}
use Rattle.page_script.specs.declared.line.Line.{Line}
use Rattle.page_script.specs.declared.line.Line.TheVariants as lines
use Rattle.page_script.specs.declared.line.PageLine.{PageLine}
use Rattle.page_script.specs.Lines.{IsScriptLine, LineFits, PageFits, EndingIsBytes, line_text, limits_words, page_words, step_words, need_word, ending_words}
use Rattle.page_script.specs.Names.{IsLetter, IsName}
use Rattle.page_script.specs.LineParts.{IsLimits, IsPage, IsStep}
use Rattle.page_script.proofs.LineLemmas.{one_limits, one_step}
use Rattle.page_script.proofs.PageLemmas.{one_page}

-- the words behind `step` are no step
no_step_line : (text words : List ℕ) → text ≡ codes "step " ++ words
    → ((step : ℕ × List ℕ) → ¬ IsStep words step) → (line : Line) → ¬ IsScriptLine text line
no_step_line text words front none (lines.Limits limits) is =
    let first = ap (λ t. get_or t 0 0) (is.spelled ∙ front) in
    omega (arith, first)
no_step_line text words front none (lines.Page page) is =
    let first = ap (λ t. get_or t 0 0) (is.spelled ∙ front) in
    omega (arith, first)
no_step_line text words front none (lines.Step moment name) is =
    none (moment, name) (record {
      spelled = ap (drop 5) (sym front ∙ sym is.spelled);
      fits =
          is.fits;
    })

-- where no step was read there is no line
pub no_step_read : (text words : List ℕ) (step : Option (ℕ × List ℕ)) (found : Option Line)
    → text ≡ codes "step " ++ words
    → ReadsAs (IsStep words) step → is_some found ≡ is_some step
    → IfNone found ((line : Line) → ¬ IsScriptLine text line)
no_step_read text words step (Some line) front read same = tt
no_step_read text words None None front read same = no_step_line text words front read
no_step_read text words (Some step) None front read same = cc

-- ---- one line

limits_of : (text : List ℕ) (limits : Limits) → IsScriptLine text (lines.Limits limits)
    → IsLimits (drop 7 text) limits
limits_of text limits is = record { spelled = ap (drop 7) (sym is.spelled); fits = is.fits }

page_in : (text : List ℕ) (page : PageLine) → IsScriptLine text (lines.Page page)
    → IsPage (drop 5 text) page
page_in text page is = record { spelled = ap (drop 5) (sym is.spelled); fits = is.fits }

step_of : (text : List ℕ) (moment : ℕ) (name : List ℕ) → IsScriptLine text (lines.Step moment name)
    → IsStep (drop 5 text) (moment, name)
step_of text moment name is = record { spelled = ap (drop 5) (sym is.spelled); fits = is.fits }

first_bytes : (text : List ℕ) (a b : Line) → IsScriptLine text a → IsScriptLine text b
    → get_or (line_text a) 0 0 ≡ get_or (line_text b) 0 0
first_bytes text a b is other = ap (λ t. get_or t 0 0) (is.spelled ∙ sym other.spelled)

-- a text spells at most one line
pub one_line_each : (text : List ℕ) (a b : Line) → IsScriptLine text a → IsScriptLine text b → a ≡ b
one_line_each text (lines.Limits a) (lines.Limits b) is other =
    ap lines.Limits (one_limits (drop 7 text) a b (limits_of text a is) (limits_of text b other))
one_line_each text (lines.Page a) (lines.Page b) is other =
    ap lines.Page (one_page (drop 5 text) a b (page_in text a is) (page_in text b other))
one_line_each text (lines.Step m a) (lines.Step n b) is other =
    let same = one_step (drop 5 text) (m, a) (n, b) (step_of text m a is)
    (step_of text n b other) in
    λ i. lines.Step (same.0 i) (same.1 i)
one_line_each text (lines.Limits a) (lines.Page b) is other = let first =
    first_bytes text (lines.Limits a) (lines.Page b) is other in absurd (omega (arith, first))
one_line_each text (lines.Limits a) (lines.Step n b) is other = let first =
    first_bytes text (lines.Limits a) (lines.Step n b) is other in absurd (omega (arith, first))
one_line_each text (lines.Page a) (lines.Limits b) is other = let first =
    first_bytes text (lines.Page a) (lines.Limits b) is other in absurd (omega (arith, first))
one_line_each text (lines.Page a) (lines.Step n b) is other = let first =
    first_bytes text (lines.Page a) (lines.Step n b) is other in absurd (omega (arith, first))
one_line_each text (lines.Step m a) (lines.Limits b) is other = let first =
    first_bytes text (lines.Step m a) (lines.Limits b) is other in absurd (omega (arith, first))
one_line_each text (lines.Step m a) (lines.Page b) is other = let first =
    first_bytes text (lines.Step m a) (lines.Page b) is other in absurd (omega (arith, first))

-- ---- no line feed

-- no byte is below the space
abbrev IsPrinted : List ℕ → Type 0
IsPrinted text = All (λ b. 32 ≤ b) text

then_printed : (a b : List ℕ) → IsPrinted a → IsPrinted b → IsPrinted (a then b)
then_printed a b pa pb =
    let space : IsPrinted (32 ∷ []) = All-cons (λ b. 32 ≤ b) 32 [] (omega arith)
    (All-nil (λ b. 32 ≤ b)) in
    All-append (λ b. 32 ≤ b) (a ++ 32 ∷ []) b (All-append (λ b. 32 ≤ b) a (32 ∷ []) pa space) pb

word_printed : (word : List ℕ) → IsWord word → IsPrinted word
word_printed word is = All-weaker (λ b. (32 < b) × (b ≢ 58)) (λ b. 32 ≤ b)
    (λ b h. omega (arith, h.0)) word is

number_printed : (n : ℕ) → n < 2 ^ 64 → IsPrinted (decimal n)
number_printed n small = word_printed (decimal n) (decimal_word n small)

string_printed : (bytes : List ℕ) → AreBytes bytes → IsPrinted (bytes_word bytes)
string_printed bytes are = word_printed (bytes_word bytes) (string_word bytes are)

name_printed : (name : List ℕ) → IsName name → IsPrinted name
name_printed name is = All-weaker IsLetter (λ b. 32 ≤ b) (λ b h. omega (arith, h.0)) name is.lower

printed_test : (b : ℕ) → nat_le 32 b ≡ true → 32 ≤ b
printed_test b h = grind (arith, nat_tests)

tested_printed : (text : List ℕ) → list_all (nat_le 32) text ≡ true → IsPrinted text
tested_printed text h = All-weaker (λ b. IsTrue (nat_le 32 b)) (λ b. 32 ≤ b) printed_test text
    (AllPass-from_list_all (nat_le 32) text h)

need_printed : (need : Need) → IsPrinted (need_word need)
need_printed Exclusive = tested_printed (codes "exclusive") refl
need_printed ReadOnly = tested_printed (codes "readonly") refl
need_printed Off = tested_printed (codes "off") refl

ending_printed : (ending : Ending) → EndingFits ending → EndingIsBytes ending
    → IsPrinted (ending_words ending)
ending_printed (Save body minutes) fits bytes =
    let small = fits.1.1 in
    then_printed (codes "save" then decimal minutes) (bytes_word body)
    (then_printed (codes "save") (decimal minutes) (tested_printed (codes "save") refl)
    (number_printed minutes (omega (arith, small))))
    (string_printed body bytes)
ending_printed Keep fits bytes = tested_printed (codes "keep") refl
ending_printed Abandon fits bytes = tested_printed (codes "abandon") refl

limits_printed : (l : Limits) → LimitsFit l → IsPrinted (limits_words l)
limits_printed l fits =
    let e = fits.execution.1 in
    let p = fits.poll.1 in
    let n = fits.polls_fit.1 in
    then_printed (decimal l.execution_secs then decimal l.poll_ms) (decimal l.polls)
    (then_printed (decimal l.execution_secs) (decimal l.poll_ms)
    (number_printed l.execution_secs (omega (arith, e)))
    (number_printed l.poll_ms (omega (arith, p))))
    (number_printed l.polls (omega (arith, n)))

page_printed : (page : PageLine) → PageFits page → IsPrinted (page_words page)
page_printed page fits =
    let name = name_printed page.name fits.name in
    let key = string_printed page.key fits.key_bytes in
    let need = need_printed page.need in
    then_printed (page.name then bytes_word page.key then need_word page.need)
    (ending_words page.ending)
    (then_printed (page.name then bytes_word page.key) (need_word page.need)
    (then_printed page.name (bytes_word page.key) name key) need)
    (ending_printed page.ending fits.ending fits.ending_bytes)

line_printed : (line : Line) → LineFits line → IsPrinted (line_text line)
line_printed (lines.Limits limits) fits = then_printed (codes "limits") (limits_words limits)
    (tested_printed (codes "limits") refl) (limits_printed limits fits)
line_printed (lines.Page page) fits = then_printed (codes "page") (page_words page)
    (tested_printed (codes "page") refl) (page_printed page fits)
line_printed (lines.Step moment name) fits =
    let small = fits.0 in
    then_printed (codes "step") (step_words moment name) (tested_printed (codes "step") refl)
    (then_printed (decimal moment) name (number_printed moment (omega (arith, small)))
    (name_printed name fits.1))

-- a line holds no line feed
pub line_feed_nowhere : (text : List ℕ) (line : Line) → IsScriptLine text line → HasNo 10 text
line_feed_nowhere text line is =
    subst (HasNo 10) is.spelled (All-weaker (λ b. 32 ≤ b) (λ b. b ≢ 10)
    (λ b h e. omega (arith, h, e)) (line_text line) (line_printed line is.fits))
