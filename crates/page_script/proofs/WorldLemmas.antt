-- The world that a script stands for takes a line.
use Rattle.std.proofs.Common.{◌≡◌, ◌≢◌, ℕ, ◌+◌, ◌<◌, List, [], ◌∷◌, ◌++◌, length, get_or, set, inl, inr, refl, sym, ap, ◌∙◌, arith, subst, append-nil, length-append}
use Rattle.std.specs.Prelude.{◌⊎◌, ⊤}
use Rattle.std.specs.List.{AllByRecursion}
use Rattle.visit_core.specs.declared.visit_terms.Limits.{Limits}
use Rattle.visit_core.specs.Acts.{Action, send, wait_until, run, over}
use Rattle.visit_core.specs.VisitRule.{act_of}
use Rattle.keeper.specs.declared.keeping.Keeper.{Ghosts}
use Rattle.page_script.specs.declared.line.Line.TheVariants as lines
use Rattle.page_script.specs.declared.line.PageLine.{PageLine}
use Rattle.page_script.specs.declared.script.Script.{Script}
use Rattle.page_script.specs.declared.script_page.ScriptPage.{ScriptPage}
use Rattle.page_script.specs.PagePlaces.{IsUnused}
use Rattle.page_script.specs.World.{Page, PageInWorld, WorldTurn, World, Added, Performs, page_in, step_line, with_events, turns_of, new_page, most_pages}
use Rattle.plain_desk.specs.DeskStands.{desk_state}
use Rattle.page_script.specs.ScriptStands.{PageAtDesk, PageStands, PagesStand, StepsAtDesk, EachSteps, EachMayStep, Stays, ScriptStands, WorldTakes}
use Rattle.page_script.proofs.PlaceLemmas.{All-append, All-more, turns_of-none, PagesStand-length, IsFound, found, PagesStand-push, unused-no_name}

-- a step asks only in its own page's name
pub asked-own : (action : Action) (t : ℕ) (at : PageInWorld) (adds : Added)
    → Performs action t at adds
    → AllByRecursion (λ (turn : WorldTurn). turn.page ≡ at.number) adds.asked
asked-own (send request) t at adds acts =
    subst (AllByRecursion (λ (turn : WorldTurn). turn.page ≡ at.number)) (sym acts.3)
    (acts.1.page, tt)
asked-own (wait_until moment) t at adds acts =
    subst (AllByRecursion (λ (turn : WorldTurn). turn.page ≡ at.number)) (sym acts.1) tt
asked-own (run content first) t at adds acts =
    subst (AllByRecursion (λ (turn : WorldTurn). turn.page ≡ at.number)) (sym acts.1) tt
asked-own (over outcome) t at adds acts =
    subst (AllByRecursion (λ (turn : WorldTurn). turn.page ≡ at.number)) (sym acts.1) tt

module _ {K : Type 0} (G : Ghosts K) (script script' : Script K) (world : World)
    (stands : ScriptStands G script world)
  where
    -- a page that was named
    pub page-taken : (line : PageLine) (live : ScriptPage) → IsUnused script.pages.items line.name
        → length script.pages.items < most_pages
        → script'.pages.items ≡ script.pages.items ++ live ∷ []
        → ((number : ℕ) (turns : List WorldTurn) → turns_of number turns ≡ []
        → PageStands turns number live (new_page script.limits line))
        → script'.limits ≡ script.limits → desk_state G script'.desk
        ≡ desk_state G script.desk
        → WorldTakes G script' world (lines.Page line) (λ printed. printed ≡ [])
    page-taken line live unused room items new limits desk = record {
      world' = record world { pages = world.pages ++ page ∷ [] };
      printed = [];
      step = (
        (
          unused-no_name world.turns 0 script.pages.items world.pages line.name stands.pages
              unused,
          omega (arith, same),
        ),
        refl,
        refl,
      );
      stands = record {
        limits = limits ∙ stands.limits;
        pages =
            subst (λ lives. PagesStand world.turns 0 lives (world.pages ++ page ∷ [])) (sym items)
            (PagesStand-push world.turns 0 (length world.pages) script.pages.items world.pages live
            page stands.pages (omega (arith, same))
            (subst (λ (l : Limits). PageStands world.turns (length world.pages) live
            (new_page l line)) stands.limits (new (length world.pages) world.turns none)));
        numbered =
            All-more (λ (turn : WorldTurn). turn.page < length world.pages)
            (λ (turn : WorldTurn). turn.page < length (world.pages ++ page ∷ [])) world.turns
            (λ turn below. omega (arith, length-append world.pages (page ∷ []))) stands.numbered;
        desk = rw desk stands.desk;
      };
      prints = refl;
    }
      where
        page : Page
        page = new_page world.limits line

        same : length script.pages.items ≡ length world.pages
        same = PagesStand-length world.turns 0 script.pages.items world.pages stands.pages

        none : turns_of (length world.pages) world.turns ≡ []
        none = turns_of-none (length world.pages) world.turns
            (All-more (λ (turn : WorldTurn). turn.page < length world.pages)
            (λ (turn : WorldTurn). turn.page ≢ length world.pages) world.turns
            (λ turn below is. absurd (omega arith)) stands.numbered)

    -- limits for the pages to come
    pub limits-set : (limits : Limits) → script'.limits ≡ limits
        → script'.pages.items ≡ script.pages.items
        → desk_state G script'.desk ≡ desk_state G script.desk
        → WorldTakes G script' world (lines.Limits limits) (λ printed. printed ≡ [])
    limits-set limits is items desk = record {
      world' = record world { limits = limits };
      printed = [];
      step = (refl, refl);
      stands = record {
        limits = is;
        pages = subst (λ lives. PagesStand world.turns 0 lives world.pages) (sym items)
            stands.pages;
        numbered = stands.numbered;
        desk = rw desk stands.desk;
      };
      prints = refl;
    }

    -- a step of the page at a place
    module _ (t n : ℕ) (name : List ℕ) (live live' : ScriptPage)
        (inside : n < length script.pages.items) (is : live ≡ get_or script.pages.items n live)
        (named : live.name ≡ name) (items : script'.pages.items ≡ set script.pages.items n live')
        (limits : script'.limits ≡ script.limits)
      where
        -- the page of the script, with the desk of a script
        abbrev at_desk : ScriptPage → Script K → PageAtDesk
        at_desk page script = record { page = page; desk = desk_state G script.desk }

        at : 0 + n ≡ n
        at = omega arith

        there : IsFound world.turns 0 script.pages.items world.pages n n live
        there = found world.turns 0 script.pages.items world.pages n n live stands.pages inside is
            at

        step-taken : (P : List ℕ → Type 0) → StepsAtDesk G.can_count t
            (page_in world n there.page)
            (at_desk live' script') (λ words. P (step_line t live.name words))
            → WorldTakes G script' world (lines.Step t name) P
        step-taken P step = record {
          world' = record world { pages = after; turns = world.turns ++ step.asked };
          printed = step_line t name step.words;
          step = record {
            before = there.before;
            page = there.page;
            behind = there.behind;
            place = there.place;
            named = sym there.stands.name ∙ named;
            events = step.events;
            asked = step.asked;
            words = step.words;
            acts = subst (λ k. Performs (act_of there.page.terms there.page.past t) t
                (page_in world k there.page)
                (record { events = step.events; asked = step.asked; words = step.words }))
                (sym there.count) step.acts;
            after = refl;
            printed = refl;
          };
          stands = record {
            limits = limits ∙ stands.limits;
            pages =
                subst (λ lives. PagesStand (world.turns ++ step.asked) 0 lives after) (sym items)
                (there.goes_on live' (with_events there.page step.events) step.asked own
                step.page_stands);
            numbered =
                subst (λ k. AllByRecursion (λ (turn : WorldTurn). turn.page < k)
                (world.turns ++ step.asked)) (sym long)
                (All-append (λ (turn : WorldTurn). turn.page < length world.pages) world.turns
                step.asked
                stands.numbered
                (All-more (λ (turn : WorldTurn). turn.page ≡ n)
                (λ (turn : WorldTurn). turn.page < length world.pages) step.asked
                (λ turn e. omega (arith, below)) own));
            desk = step.desk_stands;
          };
          prints = subst (λ letters. P (step_line t letters step.words)) named step.prints;
        }
          where
            after : List Page
            after = there.before ++ with_events there.page step.events ∷ there.behind

            own : AllByRecursion (λ (turn : WorldTurn). turn.page ≡ n) step.asked
            own = asked-own (act_of there.page.terms there.page.past t) t
                (page_in world n there.page)
                (record { events = step.events; asked = step.asked; words = step.words }) step.acts

            long : length after ≡ length world.pages
            long = length-append there.before (with_events there.page step.events ∷ there.behind)
                ∙ sym (ap length there.place ∙ length-append there.before
                (there.page ∷ there.behind))

            below : n < length world.pages
            below = let same = PagesStand-length world.turns 0 script.pages.items world.pages
                stands.pages in omega arith

        pub each-taken : (P : List ℕ → Type 0)
            → EachSteps G.can_count t (at_desk live script) (at_desk live' script')
            (λ words. P (step_line t live.name words))
            → WorldTakes G script' world (lines.Step t name) P
        each-taken P each = step-taken P
            (each (page_in world n there.page) there.stands stands.desk)

        -- nothing has changed
        step-stayed : Stays G.can_count
            (page_in world n there.page)
            (at_desk live' script') → ScriptStands G script' world
        step-stayed stays = record {
          limits = limits ∙ stands.limits;
          pages =
              subst (λ lives. PagesStand world.turns 0 lives world.pages) (sym items)
              (subst (PagesStand world.turns 0 (set script.pages.items n live')) (sym there.place)
              (subst (λ ts. PagesStand ts 0 (set script.pages.items n live')
              (there.before ++ there.page ∷ there.behind)) (append-nil world.turns)
              (there.goes_on live' there.page [] tt
              (subst (λ ts. PageStands ts n live' there.page) (sym (append-nil world.turns))
              stays.page_stands))));
          numbered = stands.numbered;
          desk = stays.desk_stands;
        }

        pub may-taken : EachMayStep G.can_count t (at_desk live script) (at_desk live' script')
            → ScriptStands G script' world
            ⊎ WorldTakes G script' world (lines.Step t name) (λ printed. ⊤)
        may-taken each = elim (each (page_in world n there.page) there.stands stands.desk) [
          | inl stays ↦ inl (step-stayed stays)
          | inr step ↦ inr (step-taken (λ printed. ⊤) step)
        ]
