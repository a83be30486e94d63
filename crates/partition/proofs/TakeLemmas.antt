-- A run that a farm stands for takes a line.
use Rattle.std.proofs.Common.{◌≡◌, ◌≢◌, ℕ, ◌+◌, ◌<◌, Bool, true, false, cond, List, [], ◌∷◌, ◌++◌, length, set, Option, Some, None, refl, sym, ap, ◌∙◌, arith, subst, inl, inr, append-nil, length-append}
use Rattle.std.specs.Prelude.{◌==◌, ◌⊎◌}
use Rattle.std.specs.List.{AllByRecursion}
use Rattle.keeper.specs.declared.keeping.Keeper.{Ghosts}
use Rattle.placement.specs.Placement.{server_of_key}
use Rattle.visit_core.specs.VisitRule.{act_of}
use Rattle.visit_core.specs.declared.visit_terms.Limits.{Limits}
use Rattle.page_script.specs.declared.line.Line.{Line}
use Rattle.page_script.specs.declared.line.Line.TheVariants as lines
use Rattle.page_script.specs.declared.line.PageLine.{PageLine}
use Rattle.page_script.specs.declared.script.Script.{Script}
use Rattle.page_script.specs.World.{World, WorldTurn, WorldStep, PageSteps, world_from, page_in, with_events, HasName, most_pages}
use Rattle.page_script.specs.ScriptStands.{WorldTakes}
use Rattle.page_script.proofs.PlaceLemmas.{All-append, All-more}
use Rattle.partition.specs.declared.farm_script.FarmScript.{FarmScript}
use Rattle.partition.specs.Farm.{FarmLine, FarmRun, FarmStep, IsFarmRun, EndsLine, OwnKeys, ServerTakes, farm_text, empty_run, server_opening}
use Rattle.partition.specs.FarmStands.{FarmStands, FarmTakes, NamesStand, ScriptsStand, servers_of}
use Rattle.partition.specs.Limited.{limited}
use Rattle.partition.specs.Shares.{MayFollow, home_of, is_home}
use Rattle.partition.proofs.FarmLemmas.{IsFarmRun-push}
use Rattle.partition.proofs.HomeLemmas.{Alike, Alike-same, Alike-at, NamesStand-alike, NamesStand-page, page_run, own-at, home-silent, count-more, count-none}
use Rattle.partition.proofs.KeyLemmas.{acts-own, asked-key}
use Rattle.partition.proofs.ScriptLemmas.{put, put-same, put-other, same_or_other, same_number, other_number, ScriptsStand-set}

-- ---- the worlds of the servers

-- one server took the line, and it is for that server alone
one-takes : (worlds : ℕ → World) (here : ℕ) (line : Line) (world : World) (text : List ℕ)
    → WorldStep (worlds here) line world text → (server : ℕ) (test : Bool)
    → (here == server) ≡ test
    → ServerTakes test (worlds server) line (put worlds here world server)
    (cond test (text ++ []) [])
one-takes worlds here line world text step server true is =
    subst (λ (k : ℕ). WorldStep (worlds k) line (put worlds here world k) (text ++ []))
    (same_number here server is)
    (subst (λ (w : World). WorldStep (worlds here) line w (text ++ []))
    (sym (put-same worlds here world))
    (subst (WorldStep (worlds here) line world) (sym (append-nil text)) step))
one-takes worlds here line world text step server false is =
    (put-other worlds here server world (λ e. other_number here server is (sym e)), refl)

nothing-printed : (test : Bool) → cond test ([] ++ []) [] ≡ (let none : List ℕ = [] in none)
nothing-printed true = refl
nothing-printed false = refl

-- the requests of each server after a step of one
own-put : (n : ℕ) (worlds : ℕ → World) (here : ℕ) (world : World)
    → ((server : ℕ) → server < n → OwnKeys n server (worlds server).turns)
    → OwnKeys n here world.turns
    → (server : ℕ) → server < n → OwnKeys n server (put worlds here world server).turns
own-put n worlds here world own new server below = of (same_or_other server here)
  where
    of : (server ≡ here) ⊎ (server ≢ here) → OwnKeys n server (put worlds here world server).turns
    of (inl same) =
        subst (λ (k : ℕ). OwnKeys n k (put worlds here world k).turns) (sym same)
        (subst (λ (w : World). OwnKeys n here w.turns) (sym (put-same worlds here world)) new)
    of (inr apart) =
        subst (λ (w : World). OwnKeys n server w.turns)
        (sym (put-other worlds here server world apart)) (own server below)

-- the pages of each server after a step of one
alike-put : (worlds : ℕ → World) (here : ℕ) (world : World)
    → Alike (worlds here).pages world.pages → (server : ℕ)
    → Alike (worlds server).pages (put worlds here world server).pages
alike-put worlds here world alike server = of (same_or_other server here)
  where
    of : (server ≡ here) ⊎ (server ≢ here)
        → Alike (worlds server).pages (put worlds here world server).pages
    of (inl same) =
        subst (λ (k : ℕ). Alike (worlds k).pages (put worlds here world k).pages) (sym same)
        (subst (λ (w : World). Alike (worlds here).pages w.pages)
        (sym (put-same worlds here world)) alike)
    of (inr apart) =
        subst (λ (w : World). Alike (worlds server).pages w.pages)
        (sym (put-other worlds here server world apart)) (Alike-same (worlds server).pages)

-- ---- a step of one page

step-ends : (world : World) (t : ℕ) (name : List ℕ) (world' : World) (text : List ℕ)
    → PageSteps world t name world' text → EndsLine text
step-ends world t name world' text step = (_, step.printed)

step-alike : (world : World) (t : ℕ) (name : List ℕ) (world' : World) (text : List ℕ)
    → PageSteps world t name world' text → Alike world.pages world'.pages
step-alike world t name world' text step =
    subst (λ (w : World). Alike world.pages w.pages) (sym step.after)
    (subst (λ ps. Alike ps (step.before ++ with_events step.page step.events ∷ step.behind))
    (sym step.place)
    (Alike-at step.before step.page (with_events step.page step.events) step.behind refl refl))

step-own : (n server : ℕ) (world : World) (t : ℕ) (name : List ℕ) (world' : World) (text : List ℕ)
    → PageSteps world t name world' text
    → AllByRecursion (λ (page : _). server_of_key page.terms.key n ≡ server) world.pages
    → OwnKeys n server world.turns → OwnKeys n server world'.turns
step-own n server world t name world' text step pages own =
    subst (λ (w : World). OwnKeys n server w.turns) (sym step.after)
    (All-append (λ (turn : WorldTurn). server_of_key turn.request.key n ≡ server) world.turns
    step.asked own
    (All-more (λ (turn : WorldTurn). turn.request.key ≡ step.page.terms.key)
    (λ (turn : WorldTurn). server_of_key turn.request.key n ≡ server) step.asked
    (λ turn is. ap (λ (key : List ℕ). server_of_key key n) is ∙ home)
    (asked-key step.page.terms.key (act_of step.page.terms step.page.past t) t
    (page_in world (length step.before) step.page)
    (record { events = step.events; asked = step.asked; words = step.words })
    (acts-own step.page.terms step.page.past t) step.acts)))
  where
    home : server_of_key step.page.terms.key n ≡ server
    home = own-at n server step.before step.page step.behind
        (subst (AllByRecursion (λ (page : _). server_of_key page.terms.key n ≡ server)) step.place
        pages)

module _ {K : Type 0} (G : Ghosts K) where
  -- ---- the beginning

  pub farm-begins : (farm : FarmScript K)
      → ScriptsStand G farm.scripts.items (λ server. world_from server_opening) → farm.pages ≡ 0
      → FarmStands G farm empty_run
  farm-begins farm scripts pages = record {
    scripts = scripts;
    is_run = record {
      follow = tt;
      shares = λ server below. (refl, refl);
      order = refl;
      ends = tt;
      own = λ server below. tt;
    };
    names = record {
      homes = λ server below name. (λ named. absurd (nobody name named), λ is. absurd (nowhere server is));
      inside = λ name server is. absurd (nowhere server is);
      few = λ server below. omega arith;
      own = λ server below. tt;
    };
    pages = pages;
  }
    where
      nobody : (name : List ℕ) → HasName [] name → ⊥
      nobody name named = let long = ap length named.3 in
          omega (arith, long, length-append named.0 (named.1 ∷ named.2))

      nowhere : (server : ℕ) → None ≡ Some server → ⊥
      nowhere server is = cc

  module _ (farm farm' : FarmScript K) (same : servers_of farm' ≡ servers_of farm) (run : FarmRun)
      (stands : FarmStands G farm run) where
    abbrev n : ℕ
    n = servers_of farm'

    was_run : IsFarmRun n run
    was_run = subst (λ (k : ℕ). IsFarmRun k run) (sym same) stands.is_run

    names : NamesStand n run
    names = subst (λ (k : ℕ). NamesStand k run) (sym same) stands.names

    -- nothing happened
    pub farm-stays : ScriptsStand G farm'.scripts.items run.worlds → farm'.pages ≡ farm.pages
        → FarmStands G farm' run
    farm-stays scripts pages = record {
      scripts = scripts;
      is_run = was_run;
      names = names;
      pages = pages ∙ stands.pages;
    }

    -- ---- limits

    module _ (limits : Limits)
        (scripts : ScriptsStand G farm'.scripts.items
        (λ server. limited limits (run.worlds server)))
        (pages : farm'.pages ≡ farm.pages)
      where
        abbrev limited_run : FarmRun
        limited_run = record {
          script = run.script ++ lines.Limits limits ∷ [];
          worlds = λ server. limited limits (run.worlds server);
          printed = run.printed;
        }

        limits-step : FarmStep n run (lines.Limits limits) limited_run []
        limits-step = record {
          follows = tt;
          script = refl;
          behind = sym (append-nil run.printed);
          each = λ server below. (refl, refl);
        }

        pub limits-taken : FarmTakes G farm' run (lines.Limits limits) (λ printed. printed ≡ [])
        limits-taken = record {
          run' = limited_run;
          printed = [];
          step = limits-step;
          stands = record {
            scripts = scripts;
            is_run = IsFarmRun-push n run limited_run (lines.Limits limits) [] was_run limits-step refl
                tt was_run.own;
            names = NamesStand-alike n run limited_run (lines.Limits limits ∷ []) names refl
                (λ name. refl) refl (λ server below. Alike-same (run.worlds server).pages);
            pages = pages ∙ stands.pages ∙ sym (count-none run.script (lines.Limits limits ∷ []) refl);
          };
          prints = refl;
        }

    -- ---- a page

    -- the farm takes no page of this name where a server has it
    pub used-no_page : (page : PageLine) (server : ℕ) → server < n
        → HasName (run.worlds server).pages page.name
        → MayFollow (servers_of farm) run.script (lines.Page page) → ⊥
    used-no_page page server below named may =
        let e : Some server ≡ None = sym ((stands.names.homes server
        (subst (λ (k : ℕ). server < k) same below) page.name).0 named) ∙ may.0 in cc

    -- a name that no server has is free
    pub free-name : (name : List ℕ)
        → ((server : ℕ) → server < servers_of farm → HasName (run.worlds server).pages name → ⊥)
        → home_of (servers_of farm) run.script name ≡ None
    free-name name nobody = of (home_of (servers_of farm) run.script name) refl
      where
        of : (home : Option ℕ) → home_of (servers_of farm) run.script name ≡ home
            → home_of (servers_of farm) run.script name ≡ None
        of None is = is
        of (Some server) is =
            let inside = stands.names.inside name server is in
            absurd (nobody server inside ((stands.names.homes server inside name).1 is))

    module _ (page : PageLine) (script' : Script K)
        (free : home_of (servers_of farm) run.script page.name ≡ None)
        (room : farm.pages < most_pages)
        (inside : server_of_key page.key n < length farm.scripts.items)
        (takes : WorldTakes G script' (run.worlds (server_of_key page.key n)) (lines.Page page)
        (λ printed. printed ≡ []))
        (scripts : farm'.scripts.items ≡ set farm.scripts.items (server_of_key page.key n) script')
        (pages : farm'.pages ≡ farm.pages + 1)
      where
        abbrev home : ℕ
        home = server_of_key page.key n

        free' : home_of n run.script page.name ≡ None
        free' = subst (λ (k : ℕ). home_of k run.script page.name ≡ None) (sym same) free

        below : home < n
        below = omega (arith, inside, same)

        abbrev next : FarmRun
        next = page_run n run page takes.world'

        page-step : FarmStep n run (lines.Page page) next []
        page-step = record {
          follows = (free', omega (arith, room, stands.pages));
          script = refl;
          behind = sym (append-nil run.printed);
          each = λ server below'.
              subst (ServerTakes (home == server) (run.worlds server) (lines.Page page)
              (put run.worlds home takes.world' server)) (nothing-printed (home == server))
              (one-takes run.worlds home (lines.Page page) takes.world' []
              (subst (WorldStep (run.worlds home) (lines.Page page) takes.world') takes.prints
              takes.step) server (home == server) refl);
        }

        pub page-taken : FarmTakes G farm' run (lines.Page page) (λ printed. printed ≡ [])
        page-taken = record {
          run' = next;
          printed = [];
          step = page-step;
          stands = record {
            scripts = subst (λ (ss : List (Script K)). ScriptsStand G ss next.worlds) (sym scripts)
                (ScriptsStand-set G farm.scripts.items run.worlds home script' takes.world'
                stands.scripts inside takes.stands);
            is_run = IsFarmRun-push n run next (lines.Page page) [] was_run page-step refl tt
                (own-put n run.worlds home takes.world' was_run.own
                (subst (λ (w : World). OwnKeys n home w.turns) (sym takes.step.1)
                (was_run.own home below)));
            names = NamesStand-page n run page takes.world' names below free'
                (ap (λ (w : World). w.pages) takes.step.1);
            pages = let old = stands.pages in
                let count = count-more run.script (lines.Page page ∷ []) in omega (arith, pages);
          };
          prints = refl;
        }

    -- the same, with the server as it was computed
    pub page-taken-at : (page : PageLine) (script' : Script K) (here : ℕ)
        → home_of (servers_of farm) run.script page.name ≡ None → farm.pages < most_pages
        → here ≡ server_of_key page.key (servers_of farm) → here < length farm.scripts.items
        → WorldTakes G script' (run.worlds here) (lines.Page page) (λ printed. printed ≡ [])
        → farm'.scripts.items ≡ set farm.scripts.items here script' → farm'.pages ≡ farm.pages + 1
        → FarmTakes G farm' run (lines.Page page) (λ printed. printed ≡ [])
    page-taken-at page script' here free room is inside takes scripts pages =
        page-taken page script' free room
        (subst (λ (k : ℕ). k < length farm.scripts.items) (sym e) inside)
        (subst (λ (k : ℕ). WorldTakes G script' (run.worlds k) (lines.Page page)
        (λ printed. printed ≡ [])) (sym e) takes)
        (scripts ∙ ap (λ (k : ℕ). set farm.scripts.items k script') (sym e)) pages
      where
        e : server_of_key page.key (servers_of farm') ≡ here
        e = ap (λ (k : ℕ). server_of_key page.key k) same ∙ sym is

    -- a page whose name is free, and for which there is room, may follow on its server
    pub page-may : (page : PageLine) → home_of (servers_of farm) run.script page.name ≡ None
        → farm.pages < most_pages → (server : ℕ) → server < servers_of farm
        → (HasName (run.worlds server).pages page.name → ⊥)
        × (length (run.worlds server).pages < most_pages)
    page-may page free room server inside = (
      λ named. (let e : Some server ≡ None =
          sym ((stands.names.homes server inside page.name).0 named) ∙ free in cc),
      (let few = stands.names.few server inside in omega (arith, room, stands.pages)),
    )

    -- ---- a step

    -- the farm takes no step of a name that no server has
    pub unused-no_step : (moment : ℕ) (name : List ℕ)
        → ((server : ℕ) → server < servers_of farm → HasName (run.worlds server).pages name → ⊥)
        → MayFollow (servers_of farm) run.script (lines.Step moment name) → ⊥
    unused-no_step moment name nobody may = may (free-name name nobody)

    module _ (moment : ℕ) (name : List ℕ) (server : ℕ) (script' : Script K)
        (inside : server < length farm.scripts.items)
        (named : HasName (run.worlds server).pages name)
        (scripts : farm'.scripts.items ≡ set farm.scripts.items server script')
        (pages : farm'.pages ≡ farm.pages)
      where
        within : server < n
        within = omega (arith, inside, same)

        at-home : home_of n run.script name ≡ Some server
        at-home = (names.homes server within name).0 named

        module _ (Prints : List ℕ → Type 0)
            (takes : WorldTakes G script' (run.worlds server) (lines.Step moment name) Prints)
          where
            abbrev printed_line : FarmLine
            printed_line = record { server = server; text = takes.printed }

            abbrev stepped : FarmRun
            stepped = record {
              script = run.script ++ lines.Step moment name ∷ [];
              worlds = put run.worlds server takes.world';
              printed = run.printed ++ printed_line ∷ [];
            }

            home' : home_of n (run.script ++ lines.Step moment name ∷ []) name ≡ Some server
            home' = home-silent n run.script (lines.Step moment name ∷ []) name refl ∙ at-home

            some-step : FarmStep n run (lines.Step moment name) stepped (printed_line ∷ [])
            some-step = record {
              follows = λ none. (let e : Some server ≡ None = sym at-home ∙ none in cc);
              script = refl;
              behind = refl;
              each = λ other below'.
                  subst (λ (home : Option ℕ). ServerTakes (is_home n home other) (run.worlds other)
                  (lines.Step moment name) (put run.worlds server takes.world' other)
                  (cond (server == other) (takes.printed ++ []) [])) (sym home')
                  (one-takes run.worlds server (lines.Step moment name) takes.world' takes.printed
                  takes.step other (server == other) refl);
            }

            pub step-taken : (More : List ℕ → Type 0)
                → (Prints takes.printed → More (farm_text (printed_line ∷ [])))
                → FarmTakes G farm' run (lines.Step moment name) More
            step-taken More prints = record {
              run' = stepped;
              printed = printed_line ∷ [];
              step = some-step;
              stands = record {
                scripts =
                    subst (λ (ss : List (Script K)). ScriptsStand G ss stepped.worlds) (sym scripts)
                    (ScriptsStand-set G farm.scripts.items run.worlds server script' takes.world'
                    stands.scripts inside takes.stands);
                is_run = IsFarmRun-push n run stepped (lines.Step moment name) (printed_line ∷ []) was_run
                    some-step (ap (λ (home : Option ℕ). home ∷ []) (sym home'))
                    (step-ends (run.worlds server) moment name takes.world' takes.printed takes.step, tt)
                    (own-put n run.worlds server takes.world' was_run.own
                    (step-own n server (run.worlds server) moment name takes.world' takes.printed
                    takes.step (names.own server within) (was_run.own server within)));
                names = NamesStand-alike n run stepped (lines.Step moment name ∷ []) names refl
                    (λ other. refl) refl (λ other below'. alike-put run.worlds server takes.world'
                    (step-alike (run.worlds server) moment name takes.world' takes.printed
                    takes.step) other);
                pages = pages ∙ stands.pages
                    ∙ sym (count-none run.script (lines.Step moment name ∷ []) refl);
              };
              prints = prints takes.prints;
            }
