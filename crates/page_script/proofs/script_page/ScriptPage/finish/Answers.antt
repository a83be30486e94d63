use Rattle.std.proofs.Common.{sym, refl}
use Rattle.page_script.proofs.StepLemmas.{kept_ending, finished}
use Rattle.page_script.proofs.script_page.ScriptPage.finish.Goals as goal

pub returns-in-Some : goal.returns-in-Some
returns-in-Some c number turns page content first t stands runs =
    finished c.args.self.now _ c.in-Some.ending turns number page content first t stands runs
    (sym c.in-Some.ensures.value) c.in-Some.ensures.after refl c.finish.ensures.terms
    c.finish.ensures.past

pub returns-in_default : goal.returns-in_default
returns-in_default c number turns page content first t stands runs =
    absurd (cc (
      kept_ending c.args.self.now turns number page content first t stands runs,
      c.in_default.ensures.value,
    ))
