-- Runs of the world: how they go on, and what holds in each of their worlds.
use Rattle.std.proofs.Common.{◌≡◌, ◌≢◌, ℕ, ◌+◌, ◌<◌, Bool, true, false, cond, List, [], ◌∷◌, ◌++◌, length, Some, None, Option, refl, sym, ap, ◌∙◌, arith, subst, append_assoc, append-nil, length-append}
use Rattle.std.specs.Prelude.{map, filter, nat_le, nat_lt, reverse, ⊤}
use Rattle.std.specs.List.{AllByRecursion}
use Rattle.std.proofs.lemmas.List.{map-append, reverse-append}
use Rattle.std.proofs.lemmas.List.Elements.{filter-append}
use Rattle.asp_messages.specs.declared.request.Ask.{Ask}
use Rattle.asp_messages.specs.declared.request.Ask.TheVariants.{Read, Acquire, Release, Write, Remove, Reset}
use Rattle.asp_messages.specs.declared.reply.Reply.TheVariants.{Found, Done as done_reply, Locked, Missing}
use Rattle.plain_desk.specs.Openings.{Opening}
use Rattle.session_machine.specs.History.{IsLegal}
use Rattle.session_machine.specs.Profiles.{newest}
use Rattle.lock_laws.proofs.LegalLemmas.{IsLegal-front}
use Rattle.visit_core.specs.declared.act.Heard.{Heard}
use Rattle.visit_core.specs.declared.act.Heard.TheVariants.{Reply, Strange}
use Rattle.visit_core.specs.declared.outcome.Outcome.TheVariants.{GaveUp}
use Rattle.visit_core.specs.Acts.{Action, send, wait_until, run, over, IsToRun}
use Rattle.visit_core.specs.VisitRule.{Event, heard, ended, lost, act_of, act_after, after_answer, after_end, after_locked, refused, ending_ask, own_cookie, locked_answers, has_ended, EachFollows, IsLawful}
use Rattle.visit_core.specs.Terms.{VisitTerms, EndingFits}
use Rattle.page_script.specs.declared.line.Line.{Line}
use Rattle.page_script.specs.declared.line.Line.TheVariants as lines
use Rattle.page_script.specs.Lines.{LineFits}
use Rattle.page_script.specs.World.{Page, PageInWorld, WorldTurn, World, Added, history, entry_of_turn, event_of, Performs, page_in, with_events, new_page, WorldStep, Leads, IsWorldRun, turns_of, is_heard, world_from, IsLawfulWorld, PagesForceOldLocks}
use Rattle.page_script.proofs.StepLemmas.{turns_of-own, end-no_run, last-no_run, loss-no_run}
use Rattle.page_script.proofs.PlaceLemmas.{All-append, All-more, turns_of-none, turns_of-other}
use Rattle.page_script.proofs.WorldLemmas.{asked-own}
use Rattle.page_script.proofs.LawfulLemmas.{forces}

-- ---- a run goes on

pub Leads-push : (world world' world'' : World) (script : List Line) (line : Line)
    (out more : List ℕ) → Leads world script world' out → WorldStep world' line world'' more
    → Leads world (script ++ line ∷ []) world'' (out ++ more)
Leads-push world world' world'' [] line out more leads step = (
  world'',
  more,
  [],
  subst (λ w. WorldStep w line world'' more) leads.0 step,
  (refl, refl),
  ap (λ o. o ++ more) leads.1 ∙ sym (append-nil more),
)
Leads-push world world' world'' (first ∷ script) line out more leads step = (
  leads.0,
  leads.1,
  leads.2 ++ more,
  leads.3,
  Leads-push leads.0 world' world'' script line leads.2 more leads.4 step,
  ap (λ o. o ++ more) leads.5 ∙ append_assoc leads.1 leads.2 more,
)

-- ---- a page that is to run is to run at each moment

refused-no_run : (answer : Heard) (content : Option (List ℕ)) (first : Bool)
    → refused answer ≢ run content first
refused-no_run (Reply reply) content first = λ e. cc
refused-no_run (Strange status) content first = λ e. cc

branch-no_run : (terms : VisitTerms) (used_up old early : Bool) (u cookie age : ℕ)
    (content : Option (List ℕ)) (first : Bool) (action other more : Action)
    → action ≢ run content first → other ≢ run content first → more ≢ run content first
    → cond used_up (over (GaveUp cookie age)) (cond old action (cond early other more))
    ≢ run content first
branch-no_run terms true old early u cookie age content first action other more a b c = λ e. cc
branch-no_run terms false true early u cookie age content first action other more a b c = a
branch-no_run terms false false true u cookie age content first action other more a b c = b
branch-no_run terms false false false u cookie age content first action other more a b c = c

locked-no_run : (terms : VisitTerms) (count u cookie age t : ℕ) (content : Option (List ℕ))
    (first : Bool) → after_locked terms count u cookie age t ≢ run content first
locked-no_run terms count u cookie age t content first =
    branch-no_run terms (nat_le terms.limits.polls count) (nat_lt terms.limits.execution_secs age)
    (nat_lt t (u + terms.limits.poll_ms)) u cookie age content first _ _ _ (λ e. cc) (λ e. cc)
    (λ e. cc)

answer-runs : (terms : VisitTerms) (count w : ℕ) (ask : Ask) (answer : Heard) (t : ℕ)
    (content : Option (List ℕ)) (first : Bool)
    → after_answer terms count w ask answer t ≡ run content first
    → (u : ℕ) → IsToRun (after_answer terms count w ask answer u)
answer-runs terms count w Acquire (Reply (Found body minutes (Some cookie) mark)) t content first e
    u = tt
answer-runs terms count w Acquire (Reply (Found body minutes None mark)) t content first e u =
    absurd cc
answer-runs terms count w Acquire (Reply Missing) t content first e u = tt
answer-runs terms count w Acquire (Reply (Locked cookie age since)) t content first e u =
    absurd (locked-no_run terms count w cookie age t content first e)
answer-runs terms count w Acquire answer t content first e u = absurd cc
answer-runs terms count w Read (Reply (Found body minutes cookie mark)) t content first e u = tt
answer-runs terms count w Read (Reply Missing) t content first e u = tt
answer-runs terms count w Read (Reply (Locked cookie age since)) t content first e u =
    absurd (locked-no_run terms count w cookie age t content first e)
answer-runs terms count w Read answer t content first e u = absurd cc
answer-runs terms count w Reset (Reply done_reply) t content first e u = absurd cc
answer-runs terms count w Reset (Reply Missing) t content first e u = absurd cc
answer-runs terms count w Reset answer t content first e u = absurd cc
answer-runs terms count w (Release own) (Reply done_reply) t content first e u = absurd cc
answer-runs terms count w (Release own) (Reply Missing) t content first e u = absurd cc
answer-runs terms count w (Release own) (Reply (Locked cookie age since)) t content first e u =
    absurd cc
answer-runs terms count w (Release own) answer t content first e u = absurd cc
answer-runs terms count w (Write body minutes fresh own) answer t content first e u =
    absurd (refused-no_run answer content first e)
answer-runs terms count w (Remove own) answer t content first e u =
    absurd (refused-no_run answer content first e)

heard-runs : (b : Bool) (answer : Heard) (now : Action) (later : Action) (content : Option (List ℕ))
    (first : Bool) → (now ≡ run content first → IsToRun later)
    → cond b (after_end answer) now ≡ run content first → IsToRun (cond b (after_end answer) later)
heard-runs true answer now later content first goes e = absurd (end-no_run answer content first e)
heard-runs false answer now later content first goes e = goes e

runs-always : (terms : VisitTerms) (past : List Event) (t : ℕ) (content : Option (List ℕ))
    (first : Bool)
    → act_after terms past t ≡ run content first → (u : ℕ) → IsToRun (act_after terms past u)
runs-always terms [] t content first e u = absurd cc
runs-always terms (heard w request answer ∷ past) t content first e u =
    heard-runs (has_ended past) answer _ _ content first
    (λ is. answer-runs terms (locked_answers (heard w request answer ∷ past)) w request.ask
    answer t content first is u) e
runs-always terms (ended ending ∷ past) t content first e u =
    absurd (last-no_run terms (ending_ask terms.need (own_cookie past) ending) content first e)
runs-always terms (lost ∷ past) t content first e u =
    absurd (loss-no_run (act_after terms past t) content first e)

-- ---- sound worlds

-- The page with this number follows its rule, heard its own turns, and its ending is in range.
record IsSound (turns : List WorldTurn) (number : ℕ) (page : Page) : Type 0 where
  lawful : IsLawful page.terms page.past
  own : filter is_heard page.past ≡ map event_of (turns_of number turns)
  fits : EndingFits page.ending

abbrev AreSound : List WorldTurn → ℕ → List Page → Type 0
AreSound turns first [] = ⊤
AreSound turns first (page ∷ pages) = IsSound turns first page × AreSound turns (first + 1) pages

IsSound-other : (turns asked : List WorldTurn) (number m : ℕ) (page : Page) → m ≢ number
    → AllByRecursion (λ (turn : WorldTurn). turn.page ≡ m) asked → IsSound turns number page
    → IsSound (turns ++ asked) number page
IsSound-other turns asked number m page apart own sound =
    record {
      lawful = sound.lawful;
      own = sound.own
          ∙ ap (map event_of) (sym (turns_of-other number m turns asked apart own));
      fits =
          sound.fits;
    }

AreSound-other : (turns asked : List WorldTurn) (first m : ℕ) (pages : List Page) → m < first
    → AllByRecursion (λ (turn : WorldTurn). turn.page ≡ m) asked → AreSound turns first pages
    → AreSound (turns ++ asked) first pages
AreSound-other turns asked first m [] below own sound = tt
AreSound-other turns asked first m (page ∷ pages) below own sound = (
  IsSound-other turns asked first m page (λ e. absurd (omega arith)) own sound.0,
  AreSound-other turns asked (first + 1) m pages (omega arith) own sound.1,
)

sound-at : (turns : List WorldTurn) (first number : ℕ) (before : List Page) (page : Page)
    (behind : List Page) → AreSound turns first (before ++ page ∷ behind)
    → first + length before ≡ number
    → IsSound turns number page
sound-at turns first number [] page behind sound at = let here : first ≡ number = omega arith in
    subst (λ k. IsSound turns k page) here sound.0
sound-at turns first number (p ∷ before) page behind sound at =
    sound-at turns (first + 1) number before page behind sound.1 (omega arith)

sound-set : (turns asked : List WorldTurn) (first number : ℕ) (before : List Page)
    (page page' : Page)
    (behind : List Page) → AreSound turns first (before ++ page ∷ behind)
    → first + length before ≡ number
    → AllByRecursion (λ (turn : WorldTurn). turn.page ≡ number) asked
    → IsSound (turns ++ asked) number page'
    → AreSound (turns ++ asked) first (before ++ page' ∷ behind)
sound-set turns asked first number [] page page' behind sound at own new =
    let here : number ≡ first = omega arith in (
      subst (λ k. IsSound (turns ++ asked) k page') here new,
      AreSound-other turns asked (first + 1)
          number behind (omega arith) own sound.1,
    )
sound-set turns asked first number (p ∷ before) page page' behind sound at own new = (
  IsSound-other turns asked first number p (λ e. absurd (omega arith)) own sound.0,
  sound-set turns asked (first + 1) number before page page' behind sound.1 (omega arith) own new,
)

sound-push : (turns : List WorldTurn) (first number : ℕ) (pages : List Page) (page : Page)
    → AreSound turns first pages → first + length pages ≡ number → IsSound turns number page
    → AreSound turns first (pages ++ page ∷ [])
sound-push turns first number [] page sound at new = let here : number ≡ first = omega arith in
    (subst (λ k. IsSound turns k page) here new, tt)
sound-push turns first number (p ∷ pages) page sound at new =
    (sound.0, sound-push turns (first + 1) number pages page sound.1 (omega arith) new)

-- one event more in a lawful past
IsLawful-push : (terms : VisitTerms) (past : List Event) (event : Event)
    → EachFollows terms (event ∷ reverse past) → IsLawful terms (past ++ event ∷ [])
IsLawful-push terms past event follows = subst (EachFollows terms)
    (sym (reverse-append past (event ∷ []))) follows

-- a page that does nothing stays sound
unchanged-sound : (number : ℕ) (turns : List WorldTurn) (page : Page) (events : List Event)
    (asked : List WorldTurn) → events ≡ [] → asked ≡ [] → IsSound turns number page
    → IsSound (turns ++ asked) number (with_events page events)
unchanged-sound number turns page events asked no_event no_turn sound = record {
  lawful = subst (IsLawful page.terms) (sym (ap (λ es. page.past ++ es) no_event
      ∙ append-nil page.past)) sound.lawful;
  own =
      ap (filter is_heard) (ap (λ es. page.past ++ es) no_event ∙ append-nil page.past) ∙ sound.own
      ∙ ap (λ ts. map event_of (turns_of number ts))
      (sym (ap (λ ts. turns ++ ts) no_turn ∙ append-nil turns));
  fits = sound.fits;
}

-- a page that acts stays sound
acts-sound : (action : Action) (t : ℕ) (at : PageInWorld) (adds : Added)
    → act_of at.page.terms at.page.past t ≡ action → Performs action t at adds
    → IsSound at.turns at.number at.page
    → IsSound (at.turns ++ adds.asked) at.number (with_events at.page adds.events)
acts-sound (send request) t at adds acting acts sound =
    subst (λ ts. IsSound (at.turns ++ ts) at.number (with_events at.page adds.events)) (sym acts.3)
    (subst (λ es. IsSound (at.turns ++ acts.0 ∷ []) at.number (with_events at.page es))
    (sym acts.2)
    (record {
      lawful =
          IsLawful-push at.page.terms at.page.past (event_of acts.0) (
            (
              ap (act_of at.page.terms at.page.past) acts.1.moment ∙ acting
                  ∙ ap (λ r. send r) (sym acts.1.request),
              acts.1.fits,
            ),
            sound.lawful,
          );
      own =
          filter-append is_heard at.page.past (event_of acts.0 ∷ [])
          ∙ ap (λ es. es ++ event_of acts.0 ∷ []) sound.own
          ∙ sym (map-append event_of (turns_of at.number at.turns) (acts.0 ∷ []))
          ∙ ap (map event_of) (sym (turns_of-own at.number at.turns acts.0 acts.1.page));
      fits = sound.fits;
    }))
acts-sound (wait_until moment) t at adds acting acts sound =
    unchanged-sound at.number at.turns at.page adds.events adds.asked acts.0 acts.1 sound
acts-sound (run content first) t at adds acting acts sound =
    subst (λ ts. IsSound (at.turns ++ ts) at.number (with_events at.page adds.events)) (sym acts.1)
    (subst (λ es. IsSound (at.turns ++ []) at.number (with_events at.page es)) (sym acts.0)
    (subst (λ ts. IsSound ts at.number (with_events at.page (ended at.page.ending ∷ [])))
    (sym (append-nil at.turns)) (record {
      lawful = IsLawful-push at.page.terms at.page.past (ended at.page.ending) (
        (runs-always at.page.terms (reverse at.page.past) t content first acting, sound.fits),
        sound.lawful,
      );
      own = filter-append is_heard at.page.past (ended at.page.ending ∷ [])
          ∙ append-nil (filter is_heard at.page.past) ∙ sound.own;
      fits = sound.fits;
    })))
acts-sound (over outcome) t at adds acting acts sound =
    unchanged-sound at.number at.turns at.page adds.events adds.asked acts.0 acts.1 sound

-- The pages of the world are sound, and each turn is that of one of them.
record IsSoundWorld (world : World) : Type 0 where
  pages : AreSound world.turns 0 world.pages
  numbered : AllByRecursion (λ (turn : WorldTurn). turn.page < length world.pages) world.turns

step-sound : (world world' : World) (line : Line) (out : List ℕ) → LineFits line
    → WorldStep world line world' out → IsSoundWorld world → IsSoundWorld world'
step-sound world world' (lines.Limits limits) out fits step sound =
    subst IsSoundWorld (sym step.0) (record { pages = sound.pages; numbered = sound.numbered })
step-sound world world' (lines.Page line) out fits step sound =
    subst IsSoundWorld (sym step.1) (record {
      pages =
          sound-push world.turns 0 (length world.pages) world.pages (new_page world.limits line)
          sound.pages (omega arith)
          (record { lawful = tt; own = ap (map event_of) (sym none); fits = fits.ending });
      numbered =
          All-more (λ (turn : WorldTurn). turn.page < length world.pages)
          (λ (turn : WorldTurn). turn.page < length
          (world.pages ++ new_page world.limits line ∷ []))
          world.turns
          (λ turn below. omega (arith, length-append world.pages (new_page world.limits line ∷ [])))
          sound.numbered;
    })
  where
    none : turns_of (length world.pages) world.turns ≡ []
    none = turns_of-none (length world.pages) world.turns
        (All-more (λ (turn : WorldTurn). turn.page < length world.pages)
        (λ (turn : WorldTurn). turn.page ≢ length world.pages) world.turns
        (λ turn below is. absurd (omega arith)) sound.numbered)
step-sound world world' (lines.Step t name) out fits step sound =
    subst IsSoundWorld (sym step.after) (record {
      pages =
          sound-set world.turns step.asked 0 (length step.before) step.before step.page
          (with_events step.page step.events) step.behind there (omega arith) own
          (acts-sound (act_of step.page.terms step.page.past t) t
          (page_in world (length step.before) step.page) (record { events = step.events; asked = step.asked; words = step.words }) refl
          step.acts
          (sound-at world.turns 0 (length step.before) step.before step.page step.behind there
          (omega arith)));
      numbered =
          subst (λ k. AllByRecursion (λ (turn : WorldTurn). turn.page < k)
          (world.turns ++ step.asked))
          (sym long)
          (All-append (λ (turn : WorldTurn). turn.page < length world.pages) world.turns step.asked
          sound.numbered
          (All-more (λ (turn : WorldTurn). turn.page ≡ length step.before)
          (λ (turn : WorldTurn). turn.page < length world.pages) step.asked
          (λ turn e. omega (arith, below)) own));
    })
  where
    there : AreSound world.turns 0 (step.before ++ step.page ∷ step.behind)
    there = subst (AreSound world.turns 0) step.place sound.pages

    own : AllByRecursion (λ (turn : WorldTurn). turn.page ≡ length step.before) step.asked
    own = asked-own (act_of step.page.terms step.page.past t) t
        (page_in world (length step.before) step.page)
        (record { events = step.events; asked = step.asked; words = step.words }) step.acts

    counted : length world.pages ≡ length step.before + length (step.page ∷ step.behind)
    counted = ap length step.place ∙ length-append step.before (step.page ∷ step.behind)

    long : length (step.before ++ with_events step.page step.events ∷ step.behind)
        ≡ length world.pages
    long = length-append step.before (with_events step.page step.events ∷ step.behind) ∙ sym counted

    below : length step.before < length world.pages
    below = omega (arith, counted)

leads-sound : (world world' : World) (script : List Line) (out : List ℕ)
    → AllByRecursion LineFits script → Leads world script world' out → IsSoundWorld world
    → IsSoundWorld world'
leads-sound world world' [] out fits leads sound = subst IsSoundWorld (sym leads.0) sound
leads-sound world world' (line ∷ script) out fits leads sound =
    leads-sound leads.0 world' script leads.2 fits.1 leads.4
    (step-sound world leads.0 line leads.1 fits.0 leads.3 sound)

-- the pages of a run are lawful
pub run-lawful : (opening : Opening) (script : List Line) (world : World) (out : List ℕ)
    → AllByRecursion LineFits script → IsWorldRun opening script world out → IsLawfulWorld world
run-lawful opening script world out fits runs before page behind place =
    let sound = leads-sound _ world script out fits runs (record { pages = tt; numbered = tt }) in
    let one : IsSound world.turns (length before) page =
    sound-at world.turns 0 (length before) before page behind
    (subst (AreSound world.turns 0) place sound.pages) (omega arith) in
    record { lawful = one.lawful; own = one.own }

-- ---- the turns of a run

-- a step adds turns behind those that were
step-turns : (world world' : World) (line : Line) (out : List ℕ) → WorldStep world line world' out
    → (more : List WorldTurn) × (world'.turns ≡ world.turns ++ more)
step-turns world world' (lines.Limits limits) out step =
    ([], ap (λ (w : World). w.turns) step.0 ∙ sym (append-nil world.turns))
step-turns world world' (lines.Page page) out step =
    ([], ap (λ (w : World). w.turns) step.1 ∙ sym (append-nil world.turns))
step-turns world world' (lines.Step t name) out step =
    (step.asked, ap (λ (w : World). w.turns) step.after)

leads-turns : (world world' : World) (script : List Line) (out : List ℕ)
    → Leads world script world' out → (more : List WorldTurn) × (world'.turns ≡ world.turns ++ more)
leads-turns world world' [] out leads = (
  [],
  ap (λ (w : World). w.turns) leads.0
      ∙ sym (append-nil world.turns),
)
leads-turns world world' (line ∷ script) out leads =
    let one = step-turns world leads.0 line leads.1 leads.3 in
    let rest = leads-turns leads.0 world' script leads.2 leads.4 in (
      one.0 ++ rest.0,
      rest.1 ∙ ap (λ ts. ts ++ rest.0) one.1
          ∙ append_assoc world.turns one.0 rest.0,
    )

-- and begins as it did
step-opening : (world world' : World) (line : Line) (out : List ℕ) → WorldStep world line world' out
    → world'.opening ≡ world.opening
step-opening world world' (lines.Limits limits) out step = ap (λ (w : World). w.opening) step.0
step-opening world world' (lines.Page page) out step = ap (λ (w : World). w.opening) step.1
step-opening world world' (lines.Step t name) out step = ap (λ (w : World). w.opening) step.after

pub leads-opening : (world world' : World) (script : List Line) (out : List ℕ)
    → Leads world script world' out → world'.opening ≡ world.opening
leads-opening world world' [] out leads = ap (λ (w : World). w.opening) leads.0
leads-opening world world' (line ∷ script) out leads =
    leads-opening leads.0 world' script leads.2 leads.4
    ∙ step-opening world leads.0 line leads.1 leads.3

-- in each world of a run whose history is legal, a release by force is of a lock that is in force,
-- and old
pub run-forces : (opening : Opening) (script rest : List Line) (world last : World)
    (out more : List ℕ) → AllByRecursion LineFits script → IsWorldRun opening script world out
    → Leads world rest last more → IsLegal opening.items opening.count (history last.turns)
    → PagesForceOldLocks world
run-forces opening script rest world last out more fits runs leads legal =
    let grown = leads-turns world last rest more leads in
    let same = leads-opening (world_from opening) world script out runs in
    forces world
    (IsLegal-front newest world.opening.items world.opening.count (history world.turns)
    (history grown.0)
    (subst (λ (o : Opening). IsLegal o.items o.count (history world.turns ++ history grown.0))
    (sym same)
    (subst (IsLegal opening.items opening.count)
    (ap history grown.1 ∙ map-append entry_of_turn world.turns grown.0) legal)))
    (run-lawful opening script world out fits runs)
