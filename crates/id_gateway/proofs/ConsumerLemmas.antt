-- A gatekeeper goes on from call to call.
use Rattle.std.proofs.Common.{◌≡◌, ℕ, ◌<◌, Bool, true, false, cond, List, [], ◌++◌, length, refl, sym, ap, ◌∙◌, arith, subst, inl, inr, append-nil, length-append}
use Rattle.std.specs.Prelude.{◌⊎◌, ◌≢◌, IsTrue, IsFalse}
use Rattle.asp_messages.specs.Stream.{HasNoMessage, IsHopeless}
use Rattle.plain_desk.specs.DeskStands.{desk_state as desk_state}
use Rattle.keeper.specs.declared.keeping.Keeper as keepers
use Rattle.message_framing.specs.ReaderState.{ReaderState, CountedReader, broken, fed, waiting, TakesMessage}
use Rattle.page_requests.specs.declared.request.PageRequest.{PageRequest}
use Rattle.page_requests.specs.Requests.{SpellsPage}
use Rattle.page_requests.proofs.RequestLemmas.{spelled_some}
use Rattle.id_gateway.specs.declared.gatekeeper.Gatekeeper.{Gatekeeper}
use Rattle.id_gateway.specs.declared.answer.Answer.{Answer}
use Rattle.id_gateway.specs.declared.random.Random as randoms
use Rattle.id_gateway.specs.declared.words.GateTerms.{GateTerms}
use Rattle.id_gateway.specs.Giving.{AnswersPage, CutsOff, GateKeeps, last_given, page_start}
use Rattle.id_gateway.specs.Keeping.{GateGave, HasAnsweredPages, CutsPage, IsPageRest, GateLacks, Lacking, GateProgress, ServesPage, GateStays, GateWaits, GateWent, random_of, state_with}
use Rattle.id_gateway.proofs.KeepingLemmas.{GateProgress-fed, GateProgress-served, lacks_answer, lacks_none, lacks_page}

-- what is no truth is false
pub not_true : (b : Bool) → (b ≡ true → ⊥) → b ≡ false
not_true true none = absurd (none refl)
not_true false none = refl

-- ---- what is held

pub rest_held : (reader : ReaderState) (rest : List ℕ) → IsFalse reader.is_broken → IsPageRest reader rest
    → rest ≡ reader.held
rest_held reader rest whole (inl (same, is)) = is
rest_held reader rest whole (inr (wrong, hopeless)) = cc

pub rest_hopeless : (reader : ReaderState) (rest : List ℕ) → IsPageRest reader rest
    → IsTrue reader.is_broken ⊎ IsHopeless SpellsPage reader.held → IsHopeless SpellsPage rest
rest_hopeless reader rest (inr (wrong, hopeless)) either = hopeless
rest_hopeless reader rest (inl (whole, is)) (inl wrong) = cc
rest_hopeless reader rest (inl (whole, is)) (inr hopeless) =
    subst (IsHopeless SpellsPage) (sym is) hopeless

pub hopeless_none : (rest : List ℕ) → IsHopeless SpellsPage rest → HasNoMessage SpellsPage rest
hopeless_none rest hopeless front back m is s = hopeless [] front back m (append-nil rest ∙ is) s

pub rest_waits : (reader : ReaderState) (rest : List ℕ) → IsPageRest reader rest
    → (IsFalse reader.is_broken → HasNoMessage SpellsPage reader.held)
    → HasNoMessage SpellsPage rest
rest_waits reader rest (inl (whole, is)) none =
    subst (HasNoMessage SpellsPage) (sym is) (none whole)
rest_waits reader rest (inr (wrong, hopeless)) none = hopeless_none rest hopeless

fed_held : (old new : ReaderState) (piece : List ℕ) → new ≡ fed old piece → IsFalse old.is_broken
    → new.held ≡ old.held ++ piece
fed_held old new piece is whole =
    ap (λ (h : ReaderState). h.held) is ∙ ap (λ b. cond b [] (old.held ++ piece)) whole

pub waiting_rest : (old new : ReaderState) (rest : List ℕ) → new ≡ waiting old → IsPageRest old rest
    → IsPageRest new rest
waiting_rest old new rest is rested = subst (λ (h : ReaderState). IsPageRest h rest) (sym is) rested

pub broken_rest : (new : ReaderState) (rest : List ℕ) → new ≡ broken → IsHopeless SpellsPage rest
    → IsPageRest new rest
broken_rest new rest is hopeless = inr (ap (λ (h : ReaderState). h.is_broken) is, hopeless)

pub fed_rest : (old new : ReaderState) (rest piece : List ℕ) → new ≡ fed old piece
    → IsFalse old.is_broken → IsPageRest old rest → IsPageRest new (rest ++ piece)
fed_rest old new rest piece is whole rested =
    inl (
      ap (λ (h : ReaderState). h.is_broken) is ∙ whole,
      ap (λ r. r ++ piece) (rest_held old rest whole rested)
          ∙ sym (fed_held old new piece is whole),
    )

-- a request that was taken makes fewer bytes
pub fewer_held : (old new : ReaderState) (m : PageRequest) → TakesMessage SpellsPage old new m
    → length new.held < length old.held
fewer_held old new m took =
    let some = spelled_some took.front m took.spells in
    let all = ap length took.held in
    let one = length-append took.front new.held in
    omega (arith, some, all, one)

-- ---- one call

module _ {K R : Type 0} (G : keepers.Ghosts K) (H : randoms.Ghosts R) (first : Gatekeeper K R)
  where
    -- the rest has another name
    pub same_rest : (now : Gatekeeper K R) (bytes rest rest' due : List ℕ) → rest ≡ rest'
        → HasAnsweredPages G H first now bytes rest due → HasAnsweredPages G H first now bytes rest' due
    same_rest now bytes rest rest' due is has =
        subst (λ r. HasAnsweredPages G H first now bytes r due) is has

    -- nothing changed but the reader, and what was given last
    pub of_same : (old new : Gatekeeper K R) (bytes rest due : List ℕ) → new.gate ≡ old.gate
        → new.desk ≡ old.desk → new.clock ≡ old.clock → new.random ≡ old.random
        → HasAnsweredPages G H first old bytes rest due → HasAnsweredPages G H first new bytes rest due
    of_same old new bytes rest due gate desk clock random has = record {
      stays = record {
        gate = gate ∙ has.stays.gate;
        floor = ap (λ d. G.floor d.keeper) desk ∙ has.stays.floor;
      };
      progress =
          subst (λ d. GateProgress G.can_count first.gate (random_of H first.random) bytes due
          (record {
            held = rest;
            desk = desk_state G d;
            clock = new.clock;
            random = random_of H new.random;
          })) (sym desk)
          (subst (λ c. GateProgress G.can_count first.gate (random_of H first.random) bytes due
          (record {
            held = rest;
            desk = desk_state G old.desk;
            clock = c;
            random = random_of H new.random;
          })) (sym clock)
          (subst (λ r. GateProgress G.can_count first.gate (random_of H first.random) bytes due
          (record {
            held = rest;
            desk = desk_state G old.desk;
            clock = old.clock;
            random = random_of H r;
          })) (sym random) has.progress));
    }

    -- a piece more
    pub has_fed : (now : Gatekeeper K R) (bytes rest due piece : List ℕ)
        → HasAnsweredPages G H first now bytes rest due
        → HasAnsweredPages G H first now (bytes ++ piece) (rest ++ piece) due
    has_fed now bytes rest due piece has = record {
      stays = has.stays;
      progress = GateProgress-fed G.can_count first.gate (random_of H first.random) bytes due piece
          (state_with G H now rest) has.progress;
    }

    -- nothing lacks
    pub lacks_all : (now : Gatekeeper K R) (bytes rest due : List ℕ)
        → HasAnsweredPages G H first now bytes rest due → GateLacks G H first now bytes due
    lacks_all now bytes rest due has = (
      rest,
      has.stays,
      lacks_none G.can_count first.gate (random_of H first.random) bytes due
          (state_with G H now rest) has.progress,
    )

    -- ---- a request was taken

    -- a request that was not answered, by these settings
    abbrev CutsAs : GateTerms → PageRequest → Gatekeeper K R → Gatekeeper K R → Type 0
    CutsAs g m mid new = CutsPage G.can_count g.mode (page_start mid.clock) m (desk_state G mid.desk)
        (desk_state G new.desk) (random_of H mid.random) (random_of H new.random)
        ⊎ ((answer : Answer) × ServesPage G.can_count g.mode (page_start mid.clock) m
        (desk_state G mid.desk) (desk_state G new.desk) (random_of H mid.random)
        (random_of H new.random) answer)

    module _ (old mid new : Gatekeeper K R) (bytes due : List ℕ) (m : PageRequest)
        (went : GateWent G H first old bytes due)
        (whole : IsTrue old.reader.bytes.is_broken → ⊥)
        (took : TakesMessage SpellsPage old.reader.bytes mid.reader.bytes m)
        (gate : mid.gate ≡ old.gate) (desk : mid.desk ≡ old.desk) (clock : mid.clock ≡ old.clock)
        (random : mid.random ≡ old.random) (keeps : GateKeeps G mid new)
      where
        parts_of : IsFalse old.reader.bytes.is_broken
            × (went.0 ≡ took.front ++ mid.reader.bytes.held)
        parts_of = of went.1
          where
            of : IsPageRest old.reader.bytes went.0 → IsFalse old.reader.bytes.is_broken
                × (went.0 ≡ took.front ++ mid.reader.bytes.held)
            of (inl (sound, is)) = (sound, is ∙ took.held)
            of (inr (wrong, hopeless)) = absurd (whole wrong)

        before : HasAnsweredPages G H first mid bytes
            (took.front ++ new.reader.bytes.held) due
        before = same_rest mid bytes went.0 (took.front ++ new.reader.bytes.held) due
            (parts_of.1 ∙ ap (λ (r : CountedReader). took.front ++ r.bytes.held)
            (sym keeps.reader))
            (of_same old mid bytes went.0 due gate desk clock random went.2)

        stays : GateStays G H first new
        stays = record {
          gate = keeps.gate ∙ before.stays.gate;
          floor = keeps.floor ∙ before.stays.floor;
        }

        sound : IsFalse new.reader.bytes.is_broken
        sound = ap (λ (r : CountedReader). r.bytes.is_broken) keeps.reader ∙ took.whole ∙ parts_of.0

        pub step_did : AnswersPage G H m mid new
            → GateWent G H first new bytes (due ++ last_given new) × GateGave G H first new bytes due (last_given new)
        step_did one =
            let serves = subst (λ (g : GateTerms). ServesPage G.can_count g.mode (page_start mid.clock) m
            (desk_state G mid.desk) (desk_state G new.desk) (random_of H mid.random)
            (random_of H new.random) one.answer) before.stays.gate one.serves in
            let now : HasAnsweredPages G H first new bytes new.reader.bytes.held (due ++ last_given new) =
            record {
              stays = stays;
              progress = subst (λ d. GateProgress G.can_count first.gate (random_of H first.random)
                  bytes (due ++ d) (state_with G H new new.reader.bytes.held)) (sym one.gives)
                  (GateProgress-served G.can_count first.gate (random_of H first.random) bytes due
                  took.front (state_with G H mid new.reader.bytes.held)
                  (state_with G H new new.reader.bytes.held) m before.progress took.spells one.answer
                  serves one.ticks);
            } in
            ((new.reader.bytes.held, inl (sound, refl), now), (new.reader.bytes.held, now))

        by_case : CutsAs first.gate m mid new → Lacking G.can_count first.gate
            (random_of H first.random) bytes new.reader.bytes.held due
            (desk_state G new.desk) (random_of H new.random)
        by_case (inl cut) =
            lacks_page G.can_count first.gate (random_of H first.random) bytes due
            took.front (state_with G H mid new.reader.bytes.held)
            (state_with G H new new.reader.bytes.held) m before.progress took.spells cut
        by_case (inr (answer, serves)) =
            lacks_answer G.can_count first.gate (random_of H first.random) bytes due
            took.front (state_with G H mid new.reader.bytes.held)
            (state_with G H new new.reader.bytes.held) m before.progress took.spells answer serves

        pub step_lacks : CutsOff G H m mid new → GateLacks G H first new bytes due
        step_lacks either = (
          new.reader.bytes.held,
          stays,
          by_case (subst (λ (g : GateTerms). CutsAs g m mid new) before.stays.gate either),
        )

    -- ---- the calls of the loop

    module _ (old new : Gatekeeper K R) (bytes due : List ℕ) (gate : new.gate ≡ old.gate)
        (desk : new.desk ≡ old.desk) (clock : new.clock ≡ old.clock)
        (random : new.random ≡ old.random) (went : GateWent G H first old bytes due)
      where
        has_now : HasAnsweredPages G H first new bytes went.0 due
        has_now = of_same old new bytes went.0 due gate desk clock random went.2

        pub feed_went : (piece : List ℕ) → GateWaits G H true old
            → new.reader.bytes ≡ fed old.reader.bytes piece
            → GateWent G H first new (bytes ++ piece) due
        feed_went piece waits is = (
          went.0 ++ piece,
          fed_rest old.reader.bytes new.reader.bytes went.0 piece is (waits.whole refl) went.1,
          has_fed new bytes went.0 due piece has_now,
        )

        pub feed_lacks : (piece : List ℕ) → GateLacks G H first new (bytes ++ piece) due
        feed_lacks piece =
            lacks_all new (bytes ++ piece) (went.0 ++ piece) due
            (has_fed new bytes went.0 due piece has_now)

        pub step_waits : new.reader.bytes ≡ waiting old.reader.bytes → GateWent G H first new bytes due
        step_waits is =
            (went.0, waiting_rest old.reader.bytes new.reader.bytes went.0 is went.1, has_now)

        pub step_lacks_all : GateLacks G H first new bytes due
        step_lacks_all = lacks_all new bytes went.0 due has_now

        module _ (hopeless : IsTrue old.reader.bytes.is_broken
            ⊎ IsHopeless SpellsPage old.reader.bytes.held)
          where
            pub step_broken : new.reader.bytes ≡ broken → GateWent G H first new bytes due
            step_broken is = (
              went.0,
              broken_rest new.reader.bytes went.0 is
                  (rest_hopeless old.reader.bytes went.0 went.1 hopeless),
              has_now,
            )

            pub step_breaks : (rest : List ℕ) × IsHopeless SpellsPage rest
                × HasAnsweredPages G H first new bytes rest due
            step_breaks = (went.0, rest_hopeless old.reader.bytes went.0 went.1 hopeless, has_now)

        pub finish_whole : GateWaits G H true old → old.reader.bytes.held ≡ []
            → HasAnsweredPages G H first new bytes [] due
        finish_whole waits none =
            same_rest new bytes went.0 [] due
            (rest_held old.reader.bytes went.0 (waits.whole refl) went.1 ∙ none) has_now

        pub finish_broken : GateWaits G H true old → (old.reader.bytes.held ≡ [] → ⊥)
            → (rest : List ℕ) × (rest ≢ []) × HasNoMessage SpellsPage rest
            × HasAnsweredPages G H first new bytes rest due
        finish_broken waits some =
            let is = rest_held old.reader.bytes went.0 (waits.whole refl) went.1 in (
              went.0,
              (λ none. some (sym is ∙ none)),
              rest_waits old.reader.bytes went.0 went.1 waits.none,
              has_now,
            )
