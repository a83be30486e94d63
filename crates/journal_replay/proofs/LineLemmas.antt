-- What was replayed goes on line by line.
use Rattle.std.proofs.Common.{◌≡◌, ℕ, ◌+◌, ◌-◌, ◌<◌, ◌≤◌, ◌^◌, Bool, true, false, List, [], ◌∷◌, ◌++◌, length, Some, None, sym, ap, ◌∙◌, arith, append_assoc, append-nil, length-append, subst, inl}
use Rattle.std.specs.Prelude.{codes, MatchBool}
use Rattle.std.specs.List.{flat_map}
use Rattle.plain_words.specs.Words.{HasNo}
use Rattle.session_machine.specs.declared.entry.Entry.{Entry}
use Rattle.session_machine.specs.declared.item.Profile.{Profile}
use Rattle.journal_text.specs.declared.reading.journal_reader.JournalNext.TheVariants as nexts
use Rattle.journal_text.specs.JudgingChecker.{Checked, HasTaken}
use Rattle.journal_text.specs.WritingText.{entry_words, entry_line, head_line, most_journal_line}
use Rattle.journal_text.specs.ReadingAnswers.{taken_with}
use Rattle.journal_text.specs.ReadingText.{IsNoLine, Taken, begun_by, taken_text, StopsAt, JournalReading, reading_broken, HasRead}
use Rattle.journal_text.proofs.ReadingLemmas.{no_line_more}
use Rattle.journal_replay.specs.ReplayProgress.{Checks, HasReplayed, ReplayWaits}
use Rattle.journal_replay.specs.Replay.{AreJournalLines}

-- ---- what a reader holds

of_whole : (is_broken : Bool) (A B : Type 0) → is_broken ≡ false → MatchBool is_broken A B → B
of_whole true A B e h = cc
of_whole false A B e h = h

of_broken : (is_broken : Bool) (A B : Type 0) → is_broken ≡ true → MatchBool is_broken A B → A
of_broken true A B e h = h
of_broken false A B e h = cc

rest_held : (text : List ℕ) (taken : Taken) (r : JournalReading) (has : HasRead text taken r)
    → r.is_broken ≡ false → has.rest ≡ r.held
rest_held text taken r has whole =
    of_whole r.is_broken (IsNoLine r.begun has.rest) (has.rest ≡ r.held) whole has.holds

-- what is held behind the lines is the front of one more
pub lines_of : (bytes : List ℕ) (r : JournalReading) (checker : Checked)
    → HasReplayed bytes r checker
    → ReplayWaits r → AreJournalLines bytes
lines_of bytes r checker has waits =
    let held = rest_held bytes has.taken r has.read waits.whole in
    record {
      taken = has.taken;
      rest = has.read.rest;
      fits = has.read.fits;
      bytes_are = has.read.text_is;
      unfinished = subst (HasNo 10) (sym held) waits.unfinished;
      short = subst (λ t. length t ≤ most_journal_line) (sym held) waits.short;
    }

-- a broken reader stands where the text stops, whatever follows it
stops_whatever : (text more : List ℕ) (taken : Taken) (r : JournalReading) → HasRead text taken r
    → r.is_broken ≡ true → StopsAt (text ++ more) r.offset
stops_whatever text more taken r has wrong = record {
  taken = taken;
  rest = has.rest ++ more;
  fits = has.fits;
  text_is = ap (λ t. t ++ more) has.text_is ∙ append_assoc (taken_text taken) has.rest more;
  offset_is = has.offset_is;
  stops = inl (no_line_more (begun_by taken) has.rest more
      (subst (λ b. IsNoLine b has.rest) has.begun
      (of_broken r.is_broken (IsNoLine r.begun has.rest) (has.rest ≡ r.held) wrong
      has.holds)));
}

-- ---- the entries are no more than the bytes

entries_short : (profile : Profile) (list : List Entry)
    → length list ≤ length (flat_map (entry_line profile) list)
entries_short profile [] = omega arith
entries_short profile (e ∷ es) =
    let rest = entries_short profile es in
    let parts = length-append (entry_line profile e) (flat_map (entry_line profile) es) in
    let one = length-append (entry_words profile e) (codes "\n") in
    omega (arith, rest, parts, one)

taken_short : (text : List ℕ) (taken : Taken) (r : JournalReading) (checker : Checked)
    (profile : Profile) → HasRead text taken r → r.begun ≡ Some profile → Checks taken checker
    → checker.taken ≤ length text
taken_short text None r checker profile has begun checks = let none = has.begun in cc
taken_short text (Some t) r checker profile has begun checks =
    let all = ap length has.text_is in
    let parts = length-append (taken_text (Some t)) has.rest in
    let lines = length-append (head_line t.0 t.1) (flat_map (entry_line t.0) t.2) in
    let few = entries_short t.0 t.2 in
    let count = checks.2.taken in
    omega (arith, all, parts, lines, few, count)

pub few_taken : (text : List ℕ) (r : JournalReading) (checker : Checked) (profile : Profile)
    → HasReplayed text r checker → length text + 0 ≤ 2 ^ 40 → r.begun ≡ Some profile
    → checker.taken < 2 ^ 63 - 1
few_taken text r checker profile has short begun =
    let few = taken_short text has.taken r checker profile has.read begun has.checks in
    omega (arith, few, short)

-- ---- one line

-- the first line was taken
pub head_at : (text : List ℕ) (profile : Profile) (place : ℕ) (old new : JournalReading)
    (checker checker'
    : Checked)
    → old.begun ≡ None → HasReplayed text old checker
    → ((taken : Taken) → HasRead text taken old
    → HasRead text (taken_with (nexts.Head profile place) taken) new) → new.is_broken ≡ false
    → checker'.known.profile ≡ profile → checker'.first_place ≡ place → HasTaken checker' []
    → HasReplayed text new checker'
head_at text profile place old new checker checker' begun has reads whole in_profile first empty =
    at has.taken has.read
  where
    at : (taken : Taken) → HasRead text taken old → HasReplayed text new checker'
    at None read = record {
      taken = Some (profile, place, []);
      read = reads None read;
      checks =
          (in_profile, first, empty);
      whole = whole;
    }
    at (Some t) read = let some = read.begun in cc

-- the line of an entry was taken
pub entry_at : (text : List ℕ) (e : Entry) (old new : JournalReading) (checker checker' : Checked)
    (profile : Profile) → old.begun ≡ Some profile → HasReplayed text old checker
    → ((taken : Taken) → HasRead text taken old
    → HasRead text (taken_with (nexts.Entry e) taken) new) → new.is_broken ≡ false
    → checker'.known.profile ≡ checker.known.profile → checker'.first_place ≡ checker.first_place
    → ((list : List Entry) → HasTaken checker list → HasTaken checker' (list ++ e ∷ []))
    → HasReplayed text new checker'
entry_at text e old new checker checker' profile begun has reads whole in_profile first takes =
    at has.taken has.read has.checks
  where
    at : (taken : Taken) → HasRead text taken old → Checks taken checker
        → HasReplayed text new checker'
    at None read checks = let none = read.begun in cc
    at (Some t) read checks = record {
      taken = Some (t.0, t.1, t.2 ++ e ∷ []);
      read =
          reads (Some t) read;
      checks = (in_profile ∙ checks.0, first ∙ checks.1, takes t.2 checks.2);
      whole = whole;
    }

-- the next line is none
pub stops_none : (text : List ℕ) (old new : JournalReading) (checker : Checked) (offset : ℕ)
    → new ≡ reading_broken old → offset ≡ old.offset
    → ((taken : Taken) → HasRead text taken old → HasRead text taken new)
    → HasReplayed text old checker → (more : List ℕ) → StopsAt (text ++ more) offset
stops_none text old new checker offset is at reads has more =
    subst (StopsAt (text ++ more)) (ap (λ (r : JournalReading). r.offset) is ∙ sym at)
    (stops_whatever text more has.taken new (reads has.taken has.read)
    (ap (λ (r : JournalReading). r.is_broken) is))

-- nothing is owed still
pub none_last : (line : List ℕ) → line ≡ [] → line ++ [] ≡ []
none_last line empty = append-nil line ∙ empty

pub none_more : (owed line : List ℕ) → owed ≡ [] → line ≡ [] → owed ++ (line ++ []) ≡ []
none_more owed line none empty =
    subst (λ d. d ++ (line ++ []) ≡ []) (sym none) (none_last line empty)

-- what is given is the line
pub line_only : (line text : List ℕ) → line ≡ [] ++ text → line ++ [] ≡ text
line_only line text is = append-nil line ∙ is
