-- The parts of a line, as texts that spell values: the contracts of the functions behind
-- `read_line`.
use Rattle.std.specs.Prelude.{◌≡◌, ℕ, ◌≤◌, ◌^◌, List, ◌∷◌, ◌++◌, codes, decimal}
use Rattle.asp_messages.specs.PlainSpelling.{◌then◌, bytes_word}
use Rattle.asp_messages.specs.Ranges.{BodyFits, KeyFits, MinutesFit}
use Rattle.plain_words.specs.Words.{AreBytes, HasNo}
use Rattle.visit_core.specs.declared.act.Ending.{Ending}
use Rattle.visit_core.specs.declared.visit_terms.Limits.{Limits}
use Rattle.visit_core.specs.declared.visit_terms.Need.{Need}
use Rattle.visit_core.specs.Terms.{LimitsFit, EndingFits}
use Rattle.page_script.specs.declared.line.PageLine.{PageLine}
use Rattle.page_script.specs.Lines.{need_word, ending_words, limits_words, page_words, step_words, EndingIsBytes, PageFits}
use Rattle.page_script.specs.Names.{IsName}

-- a number that is at most max, and the rest behind a space
pub record IsNumberThen (text : List ℕ) (max n : ℕ) (rest : List ℕ) : Type 0 where
  pub spelled : text ≡ decimal n ++ 32 ∷ rest
  pub small : n ≤ max

-- a name, a need, and two texts of which the first has no space
pub record IsPageHead (text name key : List ℕ) (need : Need) (ending : List ℕ) : Type 0 where
  pub spelled : text ≡ name ++ 32 ∷ (key ++ 32 ∷ (need_word need ++ 32 ∷ ending))
  pub name_is : IsName name
  pub key_word : HasNo 32 key

-- a key
pub record IsKey (text key : List ℕ) : Type 0 where
  pub spelled : text ≡ bytes_word key
  pub fits : KeyFits key
  pub bytes : AreBytes key

-- minutes, and content, that a page saves
pub record IsSave (text : List ℕ) (saved : ℕ × List ℕ) : Type 0 where
  pub spelled : text ≡ codes "save" then decimal saved.0 then bytes_word saved.1
  pub minutes : MinutesFit saved.0
  pub body : BodyFits saved.1
  pub bytes : AreBytes saved.1

-- an ending
pub record IsEnding (text : List ℕ) (ending : Ending) : Type 0 where
  pub spelled : text ≡ ending_words ending
  pub fits : EndingFits ending
  pub bytes : EndingIsBytes ending

-- limits
pub record IsLimits (text : List ℕ) (limits : Limits) : Type 0 where
  pub spelled : text ≡ limits_words limits
  pub fits : LimitsFit limits

-- a page
pub record IsPage (text : List ℕ) (page : PageLine) : Type 0 where
  pub spelled : text ≡ page_words page
  pub fits : PageFits page

-- a moment and a name
pub record IsStep (text : List ℕ) (step : ℕ × List ℕ) : Type 0 where
  pub spelled : text ≡ step_words step.0 step.1
  pub fits : (step.0 ≤ 2 ^ 62) × IsName step.1
