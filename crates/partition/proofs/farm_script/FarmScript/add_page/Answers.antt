use Rattle.std.proofs.Common.{ℕ, ◌<◌, length, refl, ap, ◌∙◌, arith}
use Rattle.std.proofs.lemmas.List.{length-set}
use Rattle.placement.specs.Placement.{server_of_key}
use Rattle.partition.proofs.ScriptLemmas.{ScriptsStand-stays, found-none, found-some, set-stays}
use Rattle.partition.proofs.TakeLemmas.{farm-stays, used-no_page, free-name, page-taken-at, page-may}
use Rattle.partition.proofs.farm_script.FarmScript.add_page.Goals as goal

pub returns-then-self-ge-MOST_PAGES-clause-not_a_line : goal.returns-then-self-ge-MOST_PAGES-clause-not_a_line
returns-then-self-ge-MOST_PAGES-clause-not_a_line g c end run stands may =
    absurd (omega (arith, c.if-self-ge-MOST_PAGES.true, stands.pages, may.1))

pub returns-then-is_some-clause-not_a_line : goal.returns-then-is_some-clause-not_a_line
returns-then-is_some-clause-not_a_line g c end run stands may =
    let farm = c.args.self.now in
    let found = found-some _ _ _ _ c.server_with.result c.is_some.result c.is_some.ensures
    c.if-is_some.true
    ((rw c.deref.ensures.value at c.server_with.ensures.found) run.worlds stands.scripts)
    (rw c.deref.ensures.value at c.server_with.ensures.inside) in
    used-no_page g.K.Keeper farm farm refl run stands c.args.page found.0 found.2 found.1 may

pub returns-then-eq-clause-done : goal.returns-then-eq-clause-done
returns-then-eq-clause-done g c done run stands =
    let farm = c.args.self.now in
    let here = c.server_of-server.result in
    let nobody = found-none _ _ c.server_with.result c.is_some.result c.is_some.ensures
    c.if-is_some.false
    ((rw c.deref.ensures.value at c.server_with.ensures.found) run.worlds stands.scripts) in
    let below : here < length farm.scripts.items =
    omega (arith, c.server_of-server.ensures.below, c.servers.ensures) in
    page-taken-at g.K.Keeper farm _ (length-set farm.scripts.items here c.add_page-end.new.self)
    run stands c.args.page c.add_page-end.new.self here
    (free-name g.K.Keeper farm farm refl run stands c.args.page.name nobody)
    c.if-self-ge-MOST_PAGES.false
    (c.server_of-server.ensures.server
    ∙ ap (λ key. server_of_key key c.servers.result) c.as_slice.ensures
    ∙ ap (λ (n : ℕ). server_of_key c.args.page.key n) c.servers.ensures)
    below
    (c.add_page-end.ensures.done done (run.worlds here)
    (stands.scripts here c.index_mut.result.now below c.index_mut.ensures.value)) refl refl

pub returns-else-eq-clause-not_a_line : goal.returns-else-eq-clause-not_a_line
returns-else-eq-clause-not_a_line g c end run stands may =
    let farm = c.args.self.now in
    let here = c.server_of-server.result in
    let below : here < length farm.scripts.items =
    omega (arith, c.server_of-server.ensures.below, c.servers.ensures) in
    c.add_page-end.ensures.not_a_line end (run.worlds here)
    (stands.scripts here c.index_mut.result.now below c.index_mut.ensures.value)
    (page-may g.K.Keeper farm farm refl run stands c.args.page may.0 c.if-self-ge-MOST_PAGES.false
    here below)

pub returns-else-eq-clause-unchanged : goal.returns-else-eq-clause-unchanged
returns-else-eq-clause-unchanged g c end = record {
  scripts = set-stays c.args.self.now.scripts.items c.server_of-server.result
      c.index_mut.result.now c.add_page-end.new.self (c.add_page-end.ensures.unchanged end)
      c.index_mut.ensures.value;
  pages = refl;
  is_over = refl;
}

pub returns-else-eq-clause-no_memory : goal.returns-else-eq-clause-no_memory
returns-else-eq-clause-no_memory g c end run stands =
    let farm = c.args.self.now in
    let here = c.server_of-server.result in
    let below : here < length farm.scripts.items =
    omega (arith, c.server_of-server.ensures.below, c.servers.ensures) in
    farm-stays g.K.Keeper farm _ (length-set farm.scripts.items here c.add_page-end.new.self)
    run stands
    (ScriptsStand-stays g.K.Keeper farm.scripts.items run.worlds here c.add_page-end.new.self
    stands.scripts below (c.add_page-end.ensures.no_memory end (run.worlds here)
    (stands.scripts here c.index_mut.result.now below c.index_mut.ensures.value))) refl
