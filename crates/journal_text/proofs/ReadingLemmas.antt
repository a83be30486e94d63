-- What a reader has read of a text goes on by each call.
use Rattle.std.proofs.Common.{◌≡◌, ◌≢◌, ℕ, ◌+◌, ◌<◌, Bool, true, false, List, [], ◌∷◌, ◌++◌, length, take, drop, Option, Some, None, Result, Ok, Err, OnOk, refl, sym, ap, ◌∙◌, arith, append_assoc, append-nil, length-append, length-take, subst, inl, inr, ◌⊎◌}
use Rattle.std.specs.Prelude.{codes, MatchBool, MatchOption, if◌then◌else◌}
use Rattle.std.specs.List.{AllByRecursion}
use Rattle.std.proofs.lemmas.Bool.{cases_eq}
use Rattle.std.proofs.lemmas.List.{flat_map_more}
use Rattle.std.proofs.lemmas.List.Elements.{All-append, All-cons, All-head, All-nil, All-tail}
use Rattle.session_machine.specs.declared.entry.Entry.{Entry}
use Rattle.session_machine.specs.declared.item.Profile.{Profile}
use Rattle.plain_words.specs.Words.{HasNo, SplitsAt}
use Rattle.plain_words.proofs.SplitLemmas.{split_same}
use Rattle.journal_text.specs.declared.reading.journal_reader.JournalNext.{JournalNext}
use Rattle.journal_text.specs.declared.reading.journal_reader.JournalNext.TheVariants as nexts
use Rattle.journal_text.specs.WritingText.{head_words, entry_words, ended_line, head_line, entry_line, journal_text, PlaceFits, EntryFits}
use Rattle.journal_text.specs.ReadingAnswers.{taken_with, IfNotAJournal}
use Rattle.journal_text.specs.ReadingText.{IsTooLong, IsNoLine, Taken, taken_text, StopsAt, JournalReading, TakesLine, TakesEntry, BeginsWith, BeginsWithEntry, reading_fed, reading_broken, HasRead}
use Rattle.journal_text.specs.ReadingWords.{IsEntry}
use Rattle.journal_text.proofs.JournalLemmas.{line_then, line_short}

-- ---- more bytes

-- the first line feed of a text, where there is one
first_feed : (text : List ℕ) → HasNo 10 text ⊎ ((words rest : List ℕ) × SplitsAt 10 text words rest)
first_feed [] = inl (All-nil (λ b. b ≢ 10))
first_feed (b ∷ bs) = elim (cases_eq b 10) [
  | inl feed ↦ inr (
    [],
    bs,
    record {
      joined = ap (λ x. x ∷ bs) feed;
      first =
          All-nil (λ x. x ≢ 10);
    },
  )
  | inr other ↦ elim (first_feed bs) [
    | inl none ↦ inl (All-cons (λ x. x ≢ 10) b bs other none)
    | inr (words, rest, split) ↦
        inr (
          b ∷ words,
          rest,
          record {
            joined = ap (λ t. b ∷ t) split.joined;
            first =
                All-cons (λ x. x ≢ 10) b words other split.first;
          },
        )
  ]
]

split_more : (text more words rest : List ℕ) → SplitsAt 10 text words rest
    → SplitsAt 10 (text ++ more) words (rest ++ more)
split_more text more words rest s = record {
  joined = ap (λ t. t ++ more) s.joined
      ∙ append_assoc words (10 ∷ rest) more;
  first = s.first;
}

long_more : (begun : Option Profile) (text more : List ℕ) → IsTooLong text
    → IsNoLine begun (text ++ more)
long_more begun text more long = elim (first_feed more) [
  | inl none ↦
      let l = length-append text more in
      let h = long.1 in
      inr (All-append (λ b. b ≢ 10) text more long.0 none, omega (arith, l, h))
  | inr (words, rest, split) ↦
      let whole : SplitsAt 10 (text ++ more) (text ++ words) rest = record {
        joined = ap (λ t. text ++ t) split.joined ∙ sym (append_assoc text words (10 ∷ rest));
        first = All-append (λ b. b ≢ 10) text words long.0 split.first;
      } in
      inl (
        text ++ words,
        rest,
        whole,
        λ is.
            let short = line_short begun (text ++ words) is in
            let l = length-append text words in
            let h = long.1 in
            omega (arith, short, l, h),
      )
]

pub no_line_more : (begun : Option Profile) (text more : List ℕ) → IsNoLine begun text
    → IsNoLine begun (text ++ more)
no_line_more begun text more (inl (words, rest, split, wrong)) =
    inl (words, rest ++ more, split_more text more words rest split, wrong)
no_line_more begun text more (inr long) = long_more begun text more long

held_more : (is_broken : Bool) (begun : Option Profile) (rest held piece kept : List ℕ)
    → MatchBool is_broken (IsNoLine begun rest) (rest ≡ held)
    → (is_broken ≡ false → kept ≡ held ++ piece)
    → MatchBool is_broken (IsNoLine begun (rest ++ piece)) (rest ++ piece ≡ kept)
held_more true begun rest held piece kept holds is = no_line_more begun rest piece holds
held_more false begun rest held piece kept holds is = ap (λ t. t ++ piece) holds ∙ sym (is refl)

kept_whole : (is_broken : Bool) (held piece : List ℕ) → is_broken ≡ false
    → (if is_broken then [] else held ++ piece) ≡ held ++ piece
kept_whole true held piece e = cc
kept_whole false held piece e = refl

pub feed_goes_on : (text piece : List ℕ) (taken : Taken) (r : JournalReading) → HasRead text taken r
    → HasRead (text ++ piece) taken (reading_fed r piece)
feed_goes_on text piece taken r has = record {
  rest = has.rest ++ piece;
  fits = has.fits;
  text_is = ap (λ t. t ++ piece) has.text_is ∙ append_assoc (taken_text taken) has.rest piece;
  offset_is = has.offset_is;
  begun = has.begun;
  holds = held_more r.is_broken r.begun has.rest r.held piece
      (if r.is_broken then [] else r.held ++ piece) has.holds (kept_whole r.is_broken r.held piece);
}

pub on_ok_goes_on : {E : Type 0} (result : Result Unit E) (piece : List ℕ)
    (old new : JournalReading)
    → OnOk result (new ≡ reading_fed old piece)
    → OnOk result ((text : List ℕ) (taken : Taken) → HasRead text taken old
    → HasRead (text ++ piece) taken new)
on_ok_goes_on (Ok x) piece old new e = λ text taken has. subst (HasRead (text ++ piece) taken)
    (sym e) (feed_goes_on text piece taken old has)
on_ok_goes_on (Err x) piece old new e = tt

-- ---- a line that is taken

some_one : (a b : Profile) → Some a ≡ Some b → a ≡ b
some_one a b e = cc

abbrev pub whole_reader : List ℕ → ℕ → Option Profile → Bool → JournalReading
whole_reader held offset begun may_feed = record {
  held = held;
  offset = offset;
  begun = begun;
  is_broken = false;
  may_feed = may_feed;
}

fits_push : (profile : Profile) (list : List Entry) (e : Entry)
    → AllByRecursion (EntryFits profile) list → EntryFits profile e
    → AllByRecursion (EntryFits profile) (list ++ e ∷ [])
fits_push profile [] e h fits = (fits, tt)
fits_push profile (x ∷ xs) e h fits = (h.0, fits_push profile xs e h.1 fits)

module _ (lines : List ℕ) (offset len : ℕ) (may_feed : Bool) (below : len < length lines)
    (split : SplitsAt 10 lines (take len lines) (drop (len + 1) lines)) where
  line_is : (words : List ℕ) → take len lines ≡ words
      → (lines ≡ ended_line words ++ drop (len + 1) lines) × (length (ended_line words) ≡ len + 1)
  line_is words is =
      let l = length-take len lines in
      let w = ap length is in
      let a = length-append words (codes "\n") in (
        split.joined ∙ ap (λ t. t ++ 10 ∷ drop (len + 1) lines) is
            ∙ sym (line_then words (drop (len + 1) lines)),
        omega (arith, l, w, a),
      )

  pub entry_goes_on : (text : List ℕ) (taken : Taken) (profile : Profile) (e : Entry)
      → EntryFits profile e → take len lines ≡ entry_words profile e
      → HasRead text taken (whole_reader lines offset (Some profile) may_feed)
      → HasRead text (taken_with (nexts.Entry e) taken)
      (whole_reader (drop (len + 1) lines) (offset + (len + 1)) (Some profile) false)
  entry_goes_on text None profile e fits is has = let wrong = has.begun in cc
  entry_goes_on text (Some (started, place, list)) profile e fits is has =
      let same : profile ≡ started = some_one profile started has.begun in
      let fits' : EntryFits started e = subst (λ p. EntryFits p e) same fits in
      let l = line_is (entry_words started e) (is ∙ ap (λ p. entry_words p e) same) in
      let pushed = flat_map_more (entry_line started) (head_line started place) list e in
      let front = journal_text started place list in
      let len_front = length-append front (entry_line started e) in
      let whole = ap length pushed in
      let at = has.offset_is in
      let size = l.1 in
      record {
        rest = drop (len + 1) lines;
        fits = (has.fits.0, fits_push started list e has.fits.1 fits');
        text_is =
            has.text_is ∙ ap (λ t. front ++ t) (has.holds ∙ l.0)
            ∙ sym (append_assoc front (entry_line started e) (drop (len + 1) lines))
            ∙ ap (λ t. t ++ drop (len + 1) lines) pushed;
        offset_is = ap (λ n. n + (len + 1)) at ∙ ap (λ n. length front + n) (sym size)
            ∙ sym len_front ∙ whole;
        begun = has.begun;
        holds = refl;
      }

  pub head_goes_on : (text : List ℕ) (taken : Taken) (profile : Profile) (place : ℕ)
      → PlaceFits place → take len lines ≡ head_words profile place
      → HasRead text taken (whole_reader lines offset None may_feed)
      → HasRead text (taken_with (nexts.Head profile place) taken)
      (whole_reader (drop (len + 1) lines) (offset + (len + 1)) (Some profile) false)
  head_goes_on text (Some t) profile place fits is has = let wrong = has.begun in cc
  head_goes_on text None profile place fits is has =
      let l = line_is (head_words profile place) is in
      let at = has.offset_is in
      let size = l.1 in
      let nil = append-nil (head_line profile place) in
      record {
        rest = drop (len + 1) lines;
        fits = (fits, tt);
        text_is = has.text_is ∙ has.holds ∙ l.0 ∙ ap (λ t. t ++ drop (len + 1) lines) (sym nil);
        offset_is = let start : offset ≡ 0 = at in omega (arith, start, size, ap length nil);
        begun = refl;
        holds = refl;
      }

  -- the first line is no head
  pub head_wrong : ((head : Profile × ℕ)
      → ¬ (PlaceFits head.1 × (take len lines ≡ head_words head.0 head.1))) → IsNoLine None lines
  head_wrong none = inl (
    take len lines,
    drop (len + 1) lines,
    split,
    λ is. none (is.0, is.1) (is.2, is.3),
  )

  -- the first line is no entry
  pub entry_wrong : (profile : Profile)
      → ((e : Entry) → ¬ IsEntry profile (take len lines) e) → IsNoLine (Some profile) lines
  entry_wrong profile none = inl (
    take len lines,
    drop (len + 1) lines,
    split,
    λ is. none is.0
        (record { fits = is.1; words = is.2 }),
  )

-- ---- a reader that breaks

pub breaks : (held : List ℕ) (offset : ℕ) (begun : Option Profile) (may_feed : Bool)
    → IsNoLine begun held
    → (text : List ℕ) (taken : Taken)
    → HasRead text taken (whole_reader held offset begun may_feed)
    → HasRead text taken (reading_broken (whole_reader held offset begun may_feed))
breaks held offset begun may_feed wrong text taken has = record {
  rest = has.rest;
  fits = has.fits;
  text_is = has.text_is;
  offset_is = has.offset_is;
  begun = has.begun;
  holds = subst (IsNoLine begun) (sym has.holds) wrong;
}

pub stops_there : (held : List ℕ) (offset : ℕ) (begun : Option Profile) (may_feed : Bool)
    → IsNoLine begun held
    → (text : List ℕ) (taken : Taken)
    → HasRead text taken (whole_reader held offset begun may_feed) → StopsAt text offset
stops_there held offset begun may_feed wrong text taken has = record {
  taken = taken;
  rest = has.rest;
  fits = has.fits;
  text_is = has.text_is;
  offset_is = has.offset_is;
  stops = inl (subst (λ b. IsNoLine b has.rest) has.begun
      (subst (IsNoLine begun) (sym has.holds) wrong));
}

-- ---- the calls, by what they found

abbrev pub reader_with : List ℕ → ℕ → Option Profile → Bool → Bool → JournalReading
reader_with held offset begun is_broken may_feed =
    record {
      held = held;
      offset = offset;
      begun = begun;
      is_broken = is_broken;
      may_feed =
          may_feed;
    }

module _ (lines : List ℕ) (offset : ℕ) (begun : Option Profile) (is_broken may_feed : Bool) (self :
    JournalReading)
    (self_is : reader_with lines offset begun is_broken may_feed ≡ self)
    (whole : is_broken ≡ false)
  where
    abbrev state : Option Profile → Bool → JournalReading
    state b k = reader_with lines offset b k may_feed

    was : (b : Option Profile) → begun ≡ b → state b false ≡ self
    was b same = ap (λ x. state x false) (sym same) ∙ ap (λ x. state begun x) (sym whole)
        ∙ self_is

    module _ (after slice : List ℕ) (len : ℕ) (profile : Profile) (new : JournalReading)
        (same : after ≡ lines) (sliced : slice ≡ after)
        (line_at : (len < length lines) × SplitsAt 10 lines (take len lines) (drop (len + 1) lines))
        (new_is : new ≡ reader_with (drop (len + 1) after) (offset + (len + 1)) (Some profile)
        is_broken false)
      where
        is_now : whole_reader (drop (len + 1) lines) (offset + (len + 1)) (Some profile) false ≡ new
        is_now =
            ap (λ k. reader_with (drop (len + 1) lines) (offset + (len + 1)) (Some profile) k false)
            (sym whole)
            ∙ ap (λ l. reader_with (drop (len + 1) l) (offset + (len + 1)) (Some profile) is_broken
            false)
            (sym same) ∙ sym new_is

        words_are : take len lines ≡ take len slice
        words_are = ap (take len) (sym same ∙ sym sliced)

        pub entry_taken : begun ≡ Some profile → (e : Entry) → IsEntry profile (take len slice) e
            → (text : List ℕ) (taken : Taken) → HasRead text taken self
            → HasRead text (taken_with (nexts.Entry e) taken) new
        entry_taken started e is text taken has =
            subst (HasRead text (taken_with (nexts.Entry e) taken)) is_now
            (entry_goes_on lines offset len may_feed line_at.0 line_at.1 text taken profile e
            is.fits (words_are ∙ is.words)
            (subst (HasRead text taken) (sym (was (Some profile) started)) has))

        pub head_taken : begun ≡ None → (place : ℕ)
            → PlaceFits place × (take len slice ≡ head_words profile place)
            → (text : List ℕ) (taken : Taken) → HasRead text taken self
            → HasRead text (taken_with (nexts.Head profile place) taken) new
        head_taken started place is text taken has =
            subst (HasRead text (taken_with (nexts.Head profile place) taken)) is_now
            (head_goes_on lines offset len may_feed line_at.0 line_at.1 text taken profile place
            is.0 (words_are ∙ is.1) (subst (HasRead text taken) (sym (was None started)) has))

    -- what is no head
    pub no_head_there : (after slice : List ℕ) (len : ℕ) → after ≡ lines → slice ≡ after
        → (len < length lines) × SplitsAt 10 lines (take len lines) (drop (len + 1) lines)
        → begun ≡ None
        → ((head : Profile × ℕ)
        → ¬ (PlaceFits head.1 × (take len slice ≡ head_words head.0 head.1)))
        → IsNoLine begun lines
    no_head_there after slice len same sliced line_at started none =
        subst (λ b. IsNoLine b lines) (sym started)
        (head_wrong lines offset len may_feed line_at.0 line_at.1
        (λ head is. none head (is.0, ap (take len) (sliced ∙ same) ∙ is.1)))

    module _ (result : JournalNext) (wrong : IsNoLine begun lines)
        (answer : result ≡ nexts.NotAJournal offset) where
      pub broken_no_line : IfNotAJournal result
          (λ _. (self.is_broken ≡ true) ⊎ IsNoLine self.begun self.held)
      broken_no_line =
          subst (λ r. IfNotAJournal r (λ _. (self.is_broken ≡ true)
          ⊎ IsNoLine self.begun self.held)) (sym answer)
          (inr (subst (λ r. IsNoLine r.begun r.held) self_is wrong))

      pub broken_keeps : (new : JournalReading) → new ≡ reading_broken (state begun is_broken)
          → (text : List ℕ) (taken : Taken) → HasRead text taken self → HasRead text taken new
      broken_keeps new new_is text taken has =
          subst (HasRead text taken) (sym new_is)
          (breaks lines offset begun may_feed wrong text taken
          (subst (HasRead text taken) (sym (was begun refl)) has))

      pub broken_reads : (new : JournalReading) → new ≡ reading_broken (state begun is_broken)
          → (text : List ℕ) (taken : Taken) → HasRead text taken self
          → HasRead text (taken_with result taken) new
      broken_reads new new_is text taken has =
          let kept : taken_with result taken ≡ taken = ap (λ r. taken_with r taken) answer in
          subst (λ t. HasRead text t new) (sym kept) (broken_keeps new new_is text taken has)

      pub broken_stops : IfNotAJournal result
          (λ at. (text : List ℕ) (taken : Taken) → HasRead text taken self → StopsAt text at)
      broken_stops =
          subst (λ r. IfNotAJournal r (λ at. (text : List ℕ) (taken : Taken)
          → HasRead text taken self → StopsAt text at)) (sym answer)
          (λ text taken has. stops_there lines offset begun may_feed wrong text taken
          (subst (HasRead text taken) (sym (was begun refl)) has))

-- ---- a line that is looked at, and then taken

no_split : (words rest : List ℕ) → HasNo 10 (words ++ 10 ∷ rest) → ⊥
no_split [] rest all = All-head (λ (b : ℕ). b ≢ 10) 10 rest all refl
no_split (w ∷ ws) rest all =
    no_split ws rest (All-tail (λ (b : ℕ). b ≢ 10) w (ws ++ 10 ∷ rest) all)

pub none_found : (r : Option ℕ) (A : Type 0) (B : ℕ → Type 0) → ((n : ℕ) → r ≡ Some n → ⊥)
    → MatchOption r A B → A
none_found None A B apart h = h
none_found (Some n) A B apart h = absurd (apart n refl)

-- what is taken behind a first line is known by the reader
was_begun : (text : List ℕ) (taken : Taken) (r : JournalReading) → HasRead text taken r
    → r.is_broken ≡ false → (profile : Profile) → r.begun ≡ Some profile
    → HasRead text taken (whole_reader r.held r.offset (Some profile) r.may_feed)
was_begun text taken r has whole profile started = record {
  rest = has.rest;
  fits = has.fits;
  text_is = has.text_is;
  offset_is = has.offset_is;
  begun = sym started ∙ has.begun;
  holds = subst (λ b. MatchBool b (IsNoLine r.begun has.rest) (has.rest ≡ r.held)) whole has.holds;
}

module _ (lines : List ℕ) (offset : ℕ) (begun : Option Profile) (is_broken may_feed : Bool) (self :
    JournalReading)
    (self_is : reader_with lines offset begun is_broken may_feed ≡ self)
  where
    pub nothing_passes : HasNo 10 lines → (words : List ℕ) → BeginsWith words self → ⊥
    nothing_passes none words begins =
        let begins' = subst (BeginsWith words) (sym self_is) begins in
        no_split words begins'.1.0 (subst (HasNo 10) begins'.1.1.joined none)

    pub not_begun : ((profile : Profile) → begun ≡ Some profile → ⊥) → (e : Entry)
        → BeginsWithEntry e self → ⊥
    not_begun none e begins = none begins.profile
        (ap (λ (r : JournalReading). r.begun) self_is ∙ begins.started)

    module _ (after : List ℕ) (len : ℕ) (same : after ≡ lines)
        (line_at : (len < length lines) × SplitsAt 10 lines (take len lines) (drop (len + 1) lines))
      where
        pub passed_line : (profile : Profile) (new : JournalReading)
            → new ≡ reader_with (drop (len + 1) after) (offset + (len + 1)) (Some profile) is_broken
            false
            → (words : List ℕ) → BeginsWith words self → TakesLine profile words self new
        passed_line profile new new_is words begins =
            let begins' = subst (BeginsWith words) (sym self_is) begins in
            let one = split_same 10 lines (take len lines) (drop (len + 1) lines) words
            begins'.1.0 line_at.1 begins'.1.1 in
            let at = line_is lines offset len may_feed line_at.0 line_at.1 words one.0 in
            subst (λ s. TakesLine profile words s new) self_is (record {
              held = at.0 ∙ ap (λ l. ended_line words ++ drop (len + 1) l) (sym same)
                  ∙ ap (λ h. ended_line words ++ h)
                  (sym (ap (λ (r : JournalReading). r.held) new_is));
              offset = ap (λ (r : JournalReading). r.offset) new_is
                  ∙ ap (λ n. offset + n) (sym at.1);
              was_whole = begins'.0;
              is_whole = ap (λ (r : JournalReading). r.is_broken) new_is ∙ begins'.0;
              begun = ap (λ (r : JournalReading). r.begun) new_is;
            })

        pub passed : (profile : Profile) (new : JournalReading) → begun ≡ Some profile
            → new ≡ reader_with (drop (len + 1) after) (offset + (len + 1)) (Some profile) is_broken
            false
            → (e : Entry) → BeginsWithEntry e self → TakesEntry e self new
        passed profile new started new_is e begins =
            let same_profile : begins.profile ≡ profile = some_one begins.profile profile
            (sym begins.started ∙ ap (λ (r : JournalReading). r.begun) (sym self_is)
            ∙ started) in
            record {
              profile = begins.profile;
              started = begins.started;
              fits = begins.fits;
              takes = passed_line begins.profile new
                  (new_is ∙ ap (λ p. reader_with (drop (len + 1) after) (offset + (len + 1))
                  (Some p) is_broken false) (sym same_profile))
                  (entry_words begins.profile e) begins.begins;
            }

        pub passed_reads : (profile : Profile) (new : JournalReading) → begun ≡ Some profile
            → new ≡ reader_with (drop (len + 1) after) (offset + (len + 1)) (Some profile) is_broken
            false
            → (e : Entry) → BeginsWithEntry e self → (text : List ℕ) (taken : Taken)
            → HasRead text taken self → HasRead text (taken_with (nexts.Entry e) taken) new
        passed_reads profile new started new_is e begins text taken has =
            let begins' = subst (BeginsWithEntry e) (sym self_is) begins in
            let same_profile : begins'.profile ≡ profile =
            some_one begins'.profile profile (sym begins'.started ∙ started) in
            let one = split_same 10 lines (take len lines) (drop (len + 1) lines)
            (entry_words begins'.profile e)
            begins'.begins.1.0 line_at.1 begins'.begins.1.1 in
            let whole : is_broken ≡ false = begins'.begins.0 in
            let new_whole : whole_reader (drop (len + 1) lines) (offset + (len + 1))
            (Some begins'.profile) false ≡ new =
            ap (λ p. whole_reader (drop (len + 1) lines) (offset + (len + 1)) (Some p) false)
            same_profile
            ∙ ap (λ k. reader_with (drop (len + 1) lines) (offset + (len + 1)) (Some profile) k
            false) (sym whole)
            ∙ ap (λ l. reader_with (drop (len + 1) l) (offset + (len + 1)) (Some profile)
            is_broken false) (sym same) ∙ sym new_is in
            subst (HasRead text (taken_with (nexts.Entry e) taken)) new_whole
            (entry_goes_on lines offset len may_feed line_at.0 line_at.1 text taken begins'.profile
            e begins'.fits one.0
            (was_begun text taken (reader_with lines offset begun is_broken may_feed)
            (subst (HasRead text taken) (sym self_is) has) whole begins'.profile begins'.started))

        pub looked : (slice words : List ℕ) → slice ≡ after → is_broken ≡ false
            → take len slice ≡ words → BeginsWith words self
        looked slice words sliced whole is =
            let are = ap (take len) (sym same ∙ sym sliced) ∙ is in
            subst (BeginsWith words) self_is (
              whole,
              (
                drop (len + 1) lines,
                subst (λ w. SplitsAt 10 lines w (drop (len + 1) lines)) are line_at.1,
              ),
            )

        pub looked_same : reader_with after offset begun is_broken may_feed ≡ self
        looked_same = ap (λ l. reader_with l offset begun is_broken may_feed) same ∙ self_is

        pub looked_begun : begun ≡ None → self.begun ≡ None
        looked_begun none = ap (λ (r : JournalReading). r.begun) (sym self_is) ∙ none
