use Rattle.std.proofs.Common.{◌≢◌, take, sym, subst}
use Rattle.std.specs.Str.{bytes_eq}
use Rattle.std.specs.List.{AllByRecursion}
use Rattle.std.proofs.lemmas.Bool.Decides.{not_from_Decides}
use Rattle.std.proofs.lemmas.List.{take_more}
use Rattle.std.proofs.lemmas.Slice.Eq.{bytes_eq-Decides}
use Rattle.session_machine.proofs.HistoryLemmas.{All-push}
use Rattle.page_script.specs.declared.script_page.ScriptPage.{ScriptPage}
use Rattle.page_script.proofs.script.place_of.Goals as goal

pub returns-then-eq : goal.returns-then-eq
returns-then-eq c = record {
  inside = c.loop-i-test.true;
  page = c.index-pages-i.result;
  there = c.index-pages-i.is;
  named = (bytes_eq-Decides c.index-pages-i.result.name c.args.name.now).0 (sym c.if-eq.ensures);
}

pub loop-i-preserved : goal.loop-i-preserved
loop-i-preserved c =
    let pages = c.args.pages.now in
    let name = c.args.name.now in
    let page = c.index-pages-i.result in
    let apart : page.name ≢ name = not_from_Decides (bytes_eq page.name name)
    (bytes_eq-Decides page.name name) (sym c.if-eq.ensures) in
    let P : ScriptPage → Type 0 = λ (other : ScriptPage). other.name ≢ name in
    subst (AllByRecursion P) (sym (take_more pages c.loop-i.i page c.loop-i-test.true))
    (All-push P (take c.loop-i.i pages) _ c.loop-i.invariant (subst P c.index-pages-i.is apart))
