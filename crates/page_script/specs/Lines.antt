-- The lines of a script: how each is spelled, and the ranges of its lengths and numbers.
use Rattle.std.specs.Prelude.{◌≡◌, ℕ, ◌≤◌, ◌^◌, List, length, codes, decimal, ⊤}
use Rattle.asp_messages.specs.PlainSpelling.{◌then◌, bytes_word}
use Rattle.asp_messages.specs.Ranges.{KeyFits}
use Rattle.plain_words.specs.Words.{AreBytes}
use Rattle.visit_core.specs.declared.act.Ending.{Ending}
use Rattle.visit_core.specs.declared.act.Ending.TheVariants.{Save, Keep, Abandon}
use Rattle.visit_core.specs.declared.visit_terms.Need.{Need}
use Rattle.visit_core.specs.declared.visit_terms.Limits.{Limits}
use Rattle.visit_core.specs.declared.visit_terms.Need.TheVariants.{Exclusive, ReadOnly, Off}
use Rattle.visit_core.specs.Terms.{LimitsFit, EndingFits}
use Rattle.page_script.specs.declared.line.Line.{Line}
use Rattle.page_script.specs.declared.line.Line.TheVariants as lines
use Rattle.page_script.specs.declared.line.PageLine.{PageLine}
use Rattle.page_script.specs.Names.{IsName}

-- ---- spelling

-- the word of a need
abbrev pub need_word : Need → List ℕ
need_word Exclusive = codes "exclusive"
need_word ReadOnly = codes "readonly"
need_word Off = codes "off"

-- the words of an ending
abbrev pub ending_words : Ending → List ℕ
ending_words (Save body minutes) = codes "save" then decimal minutes then bytes_word body
ending_words Keep = codes "keep"
ending_words Abandon = codes "abandon"

-- the words of a `limits` line behind its first one
abbrev pub limits_words : Limits → List ℕ
limits_words limits = decimal limits.execution_secs then decimal limits.poll_ms then
    decimal limits.polls

-- the words of a `page` line behind its first one
abbrev pub page_words : PageLine → List ℕ
page_words page = page.name then bytes_word page.key then need_word page.need then
    ending_words page.ending

-- the words of a `step` line behind its first one
abbrev pub step_words : ℕ → List ℕ → List ℕ
step_words moment name = decimal moment then name

-- the one spelling of a line, without its line feed: words with one space between two, numbers in
-- decimal without leading zeros, bytes as `x` and two lower-case hexadecimal digits each
abbrev pub line_text : Line → List ℕ
line_text (lines.Limits limits) = codes "limits" then limits_words limits
line_text (lines.Page page) = codes "page" then page_words page
line_text (lines.Step moment name) = codes "step" then step_words moment name

-- ---- ranges

-- what is saved is bytes
abbrev pub EndingIsBytes : Ending → Type 0
EndingIsBytes (Save body minutes) = AreBytes body
EndingIsBytes Keep = ⊤
EndingIsBytes Abandon = ⊤

-- a name, a key of 1 to 1,024 bytes, and an ending whose content and minutes are in their ranges
pub record PageFits (page : PageLine) : Type 0 where
  pub name : IsName page.name
  pub key : KeyFits page.key
  pub key_bytes : AreBytes page.key
  pub ending : EndingFits page.ending
  pub ending_bytes : EndingIsBytes page.ending

-- each length and number of the line is in its range; a moment is at most 2^62
abbrev pub LineFits : Line → Type 0
LineFits (lines.Limits limits) = LimitsFit limits
LineFits (lines.Page page) = PageFits page
LineFits (lines.Step moment name) = (moment ≤ 2 ^ 62) × IsName name

-- ---- lines

-- the most bytes of a line, without its line feed
abbrev pub most_script_line : ℕ
most_script_line = 65536

-- the text spells the line
pub record IsScriptLine (text : List ℕ) (line : Line) : Type 0 where
  pub fits : LineFits line
  pub spelled : line_text line ≡ text
  pub short : length text ≤ most_script_line
