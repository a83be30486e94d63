-- A reader of journals, as its callers see it, and where a text stops being a journal.
use Rattle.std.specs.Prelude.{◌≡◌, ◌≢◌, ◌⊎◌, ℕ, ◌+◌, ◌<◌, List, [], ◌++◌, length, Option, Some, None, Bool, true, false, IsFalse, MatchBool, ⊤, if◌then◌else◌}
use Rattle.std.specs.List.{AllByRecursion}
use Rattle.asp_base.specs.Limits.{most_piece}
use Rattle.session_machine.specs.declared.entry.Entry.{Entry}
use Rattle.session_machine.specs.declared.item.Profile.{Profile}
use Rattle.plain_words.specs.Words.{HasNo, SplitsAt}
use Rattle.journal_text.specs.WritingText.{head_words, entry_words, ended_line, journal_text, PlaceFits, EntryFits, IsJournal, most_journal_line}

-- ---- lines

-- the words are a line of its place: the first line where nothing was taken, and then the line of
-- an entry in the profile of the first line
abbrev pub IsJournalLine : Option Profile → List ℕ → Type 0
IsJournalLine None words = (profile : Profile) × (place : ℕ) × PlaceFits place
    × (words ≡ head_words profile place)
IsJournalLine (Some profile) words =
    (e : Entry) × EntryFits profile e × (words ≡ entry_words profile e)

-- the first line of the bytes is none of its place
abbrev pub BeginsNoJournal : Option Profile → List ℕ → Type 0
BeginsNoJournal begun bytes = (words rest : List ℕ) × SplitsAt 10 bytes words rest
    × (¬ IsJournalLine begun words)

-- there is no line feed among more bytes than a line has
abbrev pub IsTooLong : List ℕ → Type 0
IsTooLong bytes = HasNo 10 bytes × (most_journal_line < length bytes)

-- no line of its place begins the bytes, whatever follows them
abbrev pub IsNoLine : Option Profile → List ℕ → Type 0
IsNoLine begun bytes = BeginsNoJournal begun bytes ⊎ IsTooLong bytes

-- ---- what was taken

-- what was taken of a text: nothing, or the profile and the place of its first line and the entries
-- behind it
abbrev pub Taken : Type 0
Taken = Option (Profile × ℕ × List Entry)

-- the profile of its first line, where that was taken
abbrev pub begun_by : Taken → Option Profile
begun_by None = None
begun_by (Some t) = Some t.0

-- its text
abbrev pub taken_text : Taken → List ℕ
taken_text None = []
taken_text (Some t) = journal_text t.0 t.1 t.2

-- it is what a journal may hold
abbrev pub TakenFits : Taken → Type 0
TakenFits None = ⊤
TakenFits (Some t) = PlaceFits t.1 × AllByRecursion (EntryFits t.0) t.2

-- the text is the journal of all that was taken
abbrev pub IsJournalOf : List ℕ → Taken → Type 0
IsJournalOf text None = ⊥
IsJournalOf text (Some t) = IsJournal text t.0 t.1 t.2

-- what is left of a text that ends is an unfinished line, or nothing where no first line was taken
abbrev pub IsCutOff : Option Profile → List ℕ → Type 0
IsCutOff begun rest = HasNo 10 rest × ((rest ≢ []) ⊎ (begun ≡ None))

-- The text stops being a journal at this offset: that of its first line that is none of its place,
-- or of a last line without its line feed.
pub record StopsAt (text : List ℕ) (offset : ℕ) : Type 0 where
  pub taken : Taken
  pub rest : List ℕ
  pub fits : TakenFits taken
  pub text_is : text ≡ taken_text taken ++ rest
  pub offset_is : offset ≡ length (taken_text taken)
  pub stops : IsNoLine (begun_by taken) rest ⊎ IsCutOff (begun_by taken) rest

-- ---- readers

-- A reader: the bytes that were fed and not taken, how many were taken before them, the profile of
-- the first line where it was taken, whether it is broken, and whether it may be fed.
pub record JournalReading : Type 0 where
  pub held : List ℕ
  pub offset : ℕ
  pub begun : Option Profile
  pub is_broken : Bool
  pub may_feed : Bool

-- the most bytes that a reader holds: a line and a piece
abbrev pub most_journal_held : ℕ
most_journal_held = most_journal_line + most_piece

-- a reader that was fed nothing
abbrev pub new_reader : JournalReading
new_reader = record { held = []; offset = 0; begun = None; is_broken = false; may_feed = true }

-- with one piece more; a broken reader keeps nothing
abbrev pub reading_fed : JournalReading → List ℕ → JournalReading
reading_fed old piece = record old {
  held = if old.is_broken then [] else old.held ++ piece;
  may_feed =
      false;
}

-- that waits for more bytes
abbrev pub reading_waiting : JournalReading → JournalReading
reading_waiting old = record old { may_feed = true }

-- that is broken for good, at the line that it held
abbrev pub reading_broken : JournalReading → JournalReading
reading_broken old = record old { held = []; is_broken = true; may_feed = true }

-- the bytes held begin with this line, and the reader is whole
abbrev pub BeginsWith : List ℕ → JournalReading → Type 0
BeginsWith words r = IsFalse r.is_broken × ((rest : List ℕ) × SplitsAt 10 r.held words rest)

-- The bytes held begin with the line of the entry, in the profile of the first line, which was
-- taken before.
pub record BeginsWithEntry (e : Entry) (r : JournalReading) : Type 0 where
  pub profile : Profile
  pub started : r.begun ≡ Some profile
  pub fits : EntryFits profile e
  pub begins : BeginsWith (entry_words profile e) r

-- The line was taken from the front of the bytes held, and the first line has this profile.
pub record TakesLine (profile : Profile) (words : List ℕ) (old new : JournalReading) : Type 0 where
  pub held : old.held ≡ ended_line words ++ new.held
  pub offset : new.offset ≡ old.offset + length (ended_line words)
  pub was_whole : IsFalse old.is_broken
  pub is_whole : IsFalse new.is_broken
  pub begun : new.begun ≡ Some profile

-- The line of the entry was taken so, in the profile of the first line, which was taken before.
pub record TakesEntry (e : Entry) (old new : JournalReading) : Type 0 where
  pub profile : Profile
  pub started : old.begun ≡ Some profile
  pub fits : EntryFits profile e
  pub takes : TakesLine profile (entry_words profile e) old new

-- the bytes held are those behind what was taken; a broken reader stands at a line that is none
abbrev pub HoldsRest : JournalReading → List ℕ → Type 0
HoldsRest r rest = MatchBool r.is_broken (IsNoLine r.begun rest) (rest ≡ r.held)

-- The reader was fed the text, and this is what was taken of it.
pub record HasRead (text : List ℕ) (taken : Taken) (r : JournalReading) : Type 0 where
  pub rest : List ℕ
  pub fits : TakenFits taken
  pub text_is : text ≡ taken_text taken ++ rest
  pub offset_is : r.offset ≡ length (taken_text taken)
  pub begun : r.begun ≡ begun_by taken
  pub holds : HoldsRest r rest
