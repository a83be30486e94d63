-- A mirror: a journal that is read in pieces, and the items behind its entries.
use Rattle.std.specs.Prelude.{◌≡◌, ℕ, ◌+◌, ◌-◌, ◌<◌, ◌≤◌, ◌^◌, List, [], ◌∷◌, ◌++◌, length, Option, Some, None, Bool, IsTrue, IsFalse, ⊤}
use Rattle.plain_words.specs.Words.{HasNo}
use Rattle.session_machine.specs.declared.entry.Entry.{Entry}
use Rattle.session_machine.specs.declared.item.Item.{Item}
use Rattle.session_machine.specs.History.{IsLegalIn, nothing}
use Rattle.journal_text.specs.declared.judging.judgement.Judgement.TheVariants.{Illegal}
use Rattle.journal_text.specs.declared.judging.judgement.Why.{Why}
use Rattle.journal_text.specs.JudgingChecker.{Checked, HasTaken, legal_front}
use Rattle.journal_text.specs.JudgingEntries.{Judges, item_before}
use Rattle.journal_text.specs.WritingText.{IsJournal}
use Rattle.journal_text.specs.ReadingText.{HasRead, JournalReading, Taken}
use Rattle.state_mirror.specs.declared.mirror.MirrorNext.{MirrorNext}
use Rattle.state_mirror.specs.declared.mirror.MirrorNext.TheVariants as nexts

-- A mirror: its reader, its checker, and whether it may be fed.
pub record Mirrored : Type 0 where
  pub reader : JournalReading
  pub checker : Checked
  pub may_feed : Bool

-- the entries that were taken of a text
abbrev pub entries_taken : Taken → List Entry
entries_taken None = []
entries_taken (Some t) = t.2

-- the checker's profile and first place are those of the first line, where that was taken
abbrev pub ChecksFrom : Taken → Checked → Type 0
ChecksFrom None checker = ⊤
ChecksFrom (Some t) checker = (checker.known.profile ≡ t.0) × (checker.first_place ≡ t.1)

-- The mirror was fed the text, and has read these entries of it.
pub record HasMirrored (text : List ℕ) (list : List Entry) (m : Mirrored) : Type 0 where
  pub taken : Taken
  pub read : HasRead text taken m.reader
  pub entries : entries_taken taken ≡ list
  pub begins : ChecksFrom taken m.checker
  pub checks : HasTaken m.checker list

-- the text is the journal of these entries, in the checker's profile and from its first place on
abbrev pub HasWholeText : List ℕ → List Entry → Mirrored → Type 0
HasWholeText text list m = IsJournal text m.checker.known.profile m.checker.first_place list

-- the item of a key behind the entries that were applied, those before the first that may not stand
abbrev pub item_applied : Mirrored → List Entry → List ℕ → Option Item
item_applied m list key = item_before m.checker.known.profile
    (legal_front m.checker.first_place m.checker.verdict list) key

-- The next entry of the text was applied at this place: with it the list is a legal history.
pub record AppliesNext (place : ℕ) (text : List ℕ) (list : List Entry) (m : Mirrored) : Type 0 where
  pub entry : Entry
  pub mirrored : HasMirrored text (list ++ entry ∷ []) m
  pub legal : IsLegalIn m.checker.known.profile nothing 0 (list ++ entry ∷ [])
  pub at : place ≡ m.checker.first_place + length list

-- The next entry was read, and the list with it is none: this is the first place that fails.
pub record ObjectsNext (place : ℕ) (why : Why) (text : List ℕ) (list : List Entry) (m : Mirrored) :
    Type 0 where
  pub entry : Entry
  pub mirrored : HasMirrored text (list ++ entry ∷ []) m
  pub judges : Judges m.checker.known.profile m.checker.first_place (list ++ entry ∷ [])
      (Illegal place why)

-- Inside a mirror: the checker has taken no more entries than the reader bytes, and where the first
-- line was not taken, none is whole.
pub record IsSound (reader : JournalReading) (checker : Checked) (next_place : ℕ) (may_feed : Bool) :
    Type 0 where
  pub waits : IsTrue may_feed → IsTrue reader.may_feed
  pub place : next_place ≡ checker.first_place + checker.taken
  pub first : checker.first_place < 2 ^ 63 - 1
  pub few : checker.taken ≤ reader.offset
  pub fits : reader.offset + length reader.held < 2 ^ 63 - 1
  pub head : reader.begun ≡ None → IsFalse reader.is_broken → HasNo 10 reader.held

-- ---- facts of what a mirror answered

-- a fact of the place of the entry that was applied
abbrev pub IfApplied : MirrorNext → (ℕ → Type 0) → Type 0
IfApplied (nexts.Applied place) Fact = Fact place
IfApplied next Fact = ⊤

-- a fact of the first place that fails, and why
abbrev pub IfIllegal : MirrorNext → (ℕ → Why → Type 0) → Type 0
IfIllegal (nexts.Illegal place why) Fact = Fact place why
IfIllegal next Fact = ⊤

-- a fact of the offset at which the text is no journal
abbrev pub IfNoJournal : MirrorNext → (ℕ → Type 0) → Type 0
IfNoJournal (nexts.NotAJournal offset) Fact = Fact offset
IfNoJournal next Fact = ⊤
