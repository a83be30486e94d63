-- A mirror goes on by each call.
use Rattle.std.proofs.Common.{◌≡◌, ℕ, ◌+◌, ◌<◌, arith, length-append, Bool, false, List, [], ◌∷◌, ◌++◌, length, Option, Some, None, Result, Ok, Err, OnOk, refl, sym, ap, ◌∙◌, subst}
use Rattle.std.specs.Prelude.{IfNone, IfSome}
use Rattle.session_machine.specs.declared.entry.Entry.{Entry}
use Rattle.session_machine.specs.declared.item.Item.{Item}
use Rattle.session_machine.specs.declared.item.Profile.{Profile}
use Rattle.session_machine.specs.History.{IsLegalIn, nothing}
use Rattle.journal_text.specs.declared.judging.judgement.Judgement.{Judgement}
use Rattle.journal_text.specs.declared.judging.judgement.Judgement.TheVariants.{Legal, Illegal}
use Rattle.journal_text.specs.declared.judging.judgement.Why.{Why}
use Rattle.journal_text.specs.declared.judging.objection.Objection.{Objection}
use Rattle.journal_text.specs.declared.reading.journal_reader.JournalNext.TheVariants as read
use Rattle.journal_text.specs.JudgingChecker.{Checked, HasTaken, item_among, legal_front}
use Rattle.journal_text.specs.JudgingEntries.{Judges, item_before}
use Rattle.journal_text.specs.JudgingObjections.{ObjectsTo}
use Rattle.journal_text.specs.ReadingAnswers.{taken_with}
use Rattle.journal_text.specs.ReadingText.{HasRead, IsJournalOf, JournalReading, StopsAt, Taken, TakesEntry, begun_by}
use Rattle.journal_text.specs.WritingText.{IsJournal, ended_line, entry_words}
use Rattle.state_mirror.specs.declared.mirror.MirrorNext.{MirrorNext}
use Rattle.state_mirror.specs.declared.mirror.MirrorNext.TheVariants as nexts
use Rattle.state_mirror.specs.Mirroring.{AppliesNext, ChecksFrom, HasMirrored, HasWholeText, IfApplied, IfIllegal, Mirrored, ObjectsNext, entries_taken, item_applied}

-- ---- an answer that is known

pub if_applied : (r : MirrorNext) (place : ℕ) (Fact : ℕ → Type 0) → r ≡ nexts.Applied place
    → Fact place → IfApplied r Fact
if_applied r place Fact is fact = subst (λ n. IfApplied n Fact) (sym is) fact

pub not_applied : (r : MirrorNext) (place : ℕ) (why : Why) (Fact : ℕ → Type 0)
    → r ≡ nexts.Illegal place why → IfApplied r Fact
not_applied r place why Fact is = subst (λ n. IfApplied n Fact) (sym is) tt

pub if_illegal : (r : MirrorNext) (place : ℕ) (why : Why) (Fact : ℕ → Why → Type 0)
    → r ≡ nexts.Illegal place why → Fact place why → IfIllegal r Fact
if_illegal r place why Fact is fact = subst (λ n. IfIllegal n Fact) (sym is) fact

pub not_illegal : (r : MirrorNext) (place : ℕ) (Fact : ℕ → Why → Type 0)
    → r ≡ nexts.Applied place → IfIllegal r Fact
not_illegal r place Fact is = subst (λ n. IfIllegal n Fact) (sym is) tt

-- ---- a line that was taken

pub passes_further : (e : Entry) (old new : JournalReading) → TakesEntry e old new
    → old.offset < new.offset
passes_further e old new takes =
    let words = entry_words takes.profile e in
    omega (arith, takes.takes.offset, length-append words (10 ∷ []))

pub passes_counted : (e : Entry) (old new : JournalReading) → TakesEntry e old new
    → new.offset + length new.held ≡ old.offset + length old.held
passes_counted e old new takes =
    let line = ended_line (entry_words takes.profile e) in
    let held = ap length takes.takes.held in
    omega (arith, takes.takes.offset, held, length-append line new.held)

pub passes_begun : (e : Entry) (old new : JournalReading) → TakesEntry e old new
    → new.begun ≡ old.begun
passes_begun e old new takes = takes.takes.begun ∙ sym takes.started

-- ---- what was taken, with one entry more

entries_more : (taken : Taken) (e : Entry) (list : List Entry) (profile : Profile)
    → begun_by taken ≡ Some profile → entries_taken taken ≡ list
    → entries_taken (taken_with (read.Entry e) taken) ≡ list ++ e ∷ []
entries_more None e list profile begun is = cc
entries_more (Some t) e list profile begun is = ap (λ l. l ++ e ∷ []) is

checks_more : (taken : Taken) (e : Entry) (old new : Checked)
    → new.known.profile ≡ old.known.profile → new.first_place ≡ old.first_place
    → ChecksFrom taken old → ChecksFrom (taken_with (read.Entry e) taken) new
checks_more None e old new profile first checks = tt
checks_more (Some t) e old new profile first checks = (profile ∙ checks.0, first ∙ checks.1)

-- nothing was taken where the reader has not begun
none_taken : (taken : Taken) → begun_by taken ≡ None → taken ≡ None
none_taken None begun = refl
none_taken (Some t) begun = cc

legal_of : (profile : Profile) (first : ℕ) (list : List Entry) (verdict : Judgement)
    → ObjectsTo verdict None → Judges profile first list verdict → IsLegalIn profile nothing 0 list
legal_of profile first list (Legal entries) told judges = judges.0
legal_of profile first list (Illegal place why) told judges = cc

illegal_of : (verdict : Judgement) (o : Objection) → ObjectsTo verdict (Some o)
    → verdict ≡ Illegal o.place o.why
illegal_of (Legal entries) o told = absurd (cc)
illegal_of (Illegal place why) o told =
    let is : o ≡ record { place = place; why = why } = cc in
    sym (ap (λ (x : Objection). Illegal x.place x.why) is)

whole_of : (taken : Taken) (checker : Checked) (text : List ℕ) (list : List Entry)
    → IsJournalOf text taken → ChecksFrom taken checker → entries_taken taken ≡ list
    → IsJournal text checker.known.profile checker.first_place list
whole_of None checker text list journal checks is = absurd journal
whole_of (Some t) checker text list journal checks is =
    subst (λ p. IsJournal text p checker.first_place list) (sym checks.0)
    (subst (λ n. IsJournal text t.0 n list) (sym checks.1)
    (subst (λ l. IsJournal text t.0 t.1 l) is journal))

-- a text that was appended, with a fact of it
pub with_fact : {T E : Type 0} (r : Result T E) (old new text : List ℕ) (P : List ℕ → Type 0)
    → OnOk r (new ≡ old ++ text) → P text
    → OnOk r ((t : List ℕ) × (new ≡ old ++ t) × P t)
with_fact (Ok x) old new text P is p = (text, is, p)
with_fact (Err x) old new text P is p = tt

-- ---- a mirror

abbrev pub mirror_of : JournalReading → Checked → Bool → Mirrored
mirror_of reader checker may_feed =
    record { reader = reader; checker = checker; may_feed = may_feed }

module _ (reader : JournalReading) (checker : Checked) (may_feed : Bool) (self : Mirrored)
    (self_is : mirror_of reader checker may_feed ≡ self)
  where
    -- the first line was taken with the piece
    pub first_mirrored : (fed next : JournalReading) (checked : Checked) (piece : List ℕ)
        (place : ℕ) → reader.begun ≡ None
        → ((text : List ℕ) (taken : Taken) → HasRead text taken reader
        → HasRead (text ++ piece) taken fed)
        → ((text : List ℕ) → HasRead text None fed
        → HasRead text (Some (checked.known.profile, place, [])) next)
        → checked.first_place ≡ place → HasTaken checked []
        → (text : List ℕ) (list : List Entry) → HasMirrored text list self
        → HasMirrored (text ++ piece) list (mirror_of next checked false)
    first_mirrored fed next checked piece place begun feeds heads first takes text list has =
        let has' = subst (HasMirrored text list) (sym self_is) has in
        let none = none_taken has'.taken (sym has'.read.begun ∙ begun) in
        record {
          taken = Some (checked.known.profile, place, []);
          read = heads (text ++ piece) (feeds text None
              (subst (λ t. HasRead text t reader) none has'.read));
          entries = sym (ap entries_taken none) ∙ has'.entries;
          begins = (refl, first);
          checks = subst (HasTaken checked)
              (sym (ap entries_taken none) ∙ has'.entries) takes;
        }

    module _ (next : JournalReading) (checked : Checked) (e : Entry) (profile : Profile)
        (begun : reader.begun ≡ Some profile)
        (reads : (text : List ℕ) (taken : Taken) → HasRead text taken reader
        → HasRead text (taken_with (read.Entry e) taken) next)
        (takes : (list : List Entry) → HasTaken checker list → HasTaken checked (list ++ e ∷ []))
        (same_profile : checked.known.profile ≡ checker.known.profile)
        (same_first : checked.first_place ≡ checker.first_place)
      where
        pub entry_mirrored : (text : List ℕ) (list : List Entry) → HasMirrored text list self
            → HasMirrored text (list ++ e ∷ []) (mirror_of next checked false)
        entry_mirrored text list has =
            let has' = subst (HasMirrored text list) (sym self_is) has in
            record {
              taken = taken_with (read.Entry e) has'.taken;
              read = reads text has'.taken has'.read;
              entries = entries_more has'.taken e list profile (sym has'.read.begun ∙ begun)
                  has'.entries;
              begins = checks_more has'.taken e checker checked same_profile same_first
                  has'.begins;
              checks = takes list has'.checks;
            }

        module _ (place : ℕ) (at : place ≡ checker.first_place + checker.taken) where
          -- the entry was applied
          pub applied_next : ObjectsTo checked.verdict None → (text : List ℕ) (list : List Entry)
              → HasMirrored text list self
              → AppliesNext place text list (mirror_of next checked false)
          applied_next tells text list has =
              let has' = subst (HasMirrored text list) (sym self_is) has in
              record {
                entry = e;
                mirrored = entry_mirrored text list has;
                legal = legal_of checked.known.profile checked.first_place (list ++ e ∷ [])
                    checked.verdict tells (takes list has'.checks).judges;
                at = at ∙ ap (λ n. checker.first_place + n) has'.checks.taken
                    ∙ ap (λ n. n + length list) (sym same_first);
              }

        -- the entry may not stand, or one before it
        pub objects_next : (o : Objection) → ObjectsTo checked.verdict (Some o) → (text : List ℕ)
            (list : List Entry) → HasMirrored text list self
            → ObjectsNext o.place o.why text list (mirror_of next checked false)
        objects_next o tells text list has =
            let has' = subst (HasMirrored text list) (sym self_is) has in
            record {
              entry = e;
              mirrored = entry_mirrored text list has;
              judges = subst (Judges checked.known.profile checked.first_place (list ++ e ∷ []))
                  (illegal_of checked.verdict o tells) (takes list has'.checks).judges;
            }

    -- the reader alone went on, and no entry was taken
    pub reader_mirrored : (next : JournalReading) (may : Bool)
        → ((text : List ℕ) (taken : Taken) → HasRead text taken reader → HasRead text taken next)
        → (text : List ℕ) (list : List Entry) → HasMirrored text list self
        → HasMirrored text list (mirror_of next checker may)
    reader_mirrored next may reads text list has =
        let has' = subst (HasMirrored text list) (sym self_is) has in
        record {
          taken = has'.taken;
          read = reads text has'.taken has'.read;
          entries = has'.entries;
          begins = has'.begins;
          checks = has'.checks;
        }

    -- the piece was fed, and the first line was not taken with it
    pub fed_mirrored : (fed next : JournalReading) (piece : List ℕ)
        → ((text : List ℕ) (taken : Taken) → HasRead text taken reader
        → HasRead (text ++ piece) taken fed)
        → ((text : List ℕ) (taken : Taken) → HasRead text taken fed → HasRead text taken next)
        → (text : List ℕ) (list : List Entry) → HasMirrored text list self
        → HasMirrored (text ++ piece) list (mirror_of next checker false)
    fed_mirrored fed next piece feeds reads text list has =
        let has' = subst (HasMirrored text list) (sym self_is) has in
        record {
          taken = has'.taken;
          read = reads (text ++ piece) has'.taken (feeds text has'.taken has'.read);
          entries = has'.entries;
          begins = has'.begins;
          checks = has'.checks;
        }

    -- where the reader stops, the text is no journal
    pub mirror_stops : (offset : ℕ)
        → ((text : List ℕ) (taken : Taken) → HasRead text taken reader → StopsAt text offset)
        → (text : List ℕ) (list : List Entry) → HasMirrored text list self → StopsAt text offset
    mirror_stops offset stops text list has =
        let has' = subst (HasMirrored text list) (sym self_is) has in
        stops text has'.taken has'.read

    pub stops_of : (r : Option ℕ)
        → IfSome r (λ o. (text : List ℕ) (taken : Taken) → HasRead text taken reader
        → StopsAt text o)
        → IfSome r (λ o. (text : List ℕ) (list : List Entry) → HasMirrored text list self
        → StopsAt text o)
    stops_of None stops = tt
    stops_of (Some o) stops = mirror_stops o stops

    pub journal_of : (r : Option ℕ)
        → IfNone r ((text : List ℕ) (taken : Taken) → HasRead text taken reader
        → IsJournalOf text taken)
        → IfNone r ((text : List ℕ) (list : List Entry) → HasMirrored text list self
        → HasWholeText text list self)
    journal_of (Some o) journal = tt
    journal_of None journal = λ text list has.
        let has' = subst (HasMirrored text list) (sym self_is) has in
        subst (HasWholeText text list) self_is
        (whole_of has'.taken checker text list (journal text has'.taken has'.read) has'.begins
        has'.entries)

    -- the items of the checker are those behind the entries that were applied
    pub items_of : (items : List (List ℕ × Item))
        → ((list : List Entry) → HasTaken checker list → (key : List ℕ)
        → item_among items key ≡ item_before checker.known.profile
        (legal_front checker.first_place checker.verdict list) key)
        → (text : List ℕ) (list : List Entry) → HasMirrored text list self → (key : List ℕ)
        → item_among items key ≡ item_applied self list key
    items_of items map text list has =
        let has' = subst (HasMirrored text list) (sym self_is) has in
        subst (λ m. (key : List ℕ) → item_among items key ≡ item_applied m list key) self_is
        (map list has'.checks)
