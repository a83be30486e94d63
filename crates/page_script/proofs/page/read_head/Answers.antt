use Rattle.std.proofs.Common.{sym, subst}
use Rattle.page_script.specs.Lines.{need_word}
use Rattle.page_script.specs.Names.{IsName}
use Rattle.page_script.proofs.CutLemmas.{no_cut}
use Rattle.page_script.proofs.PageLemmas.{head_second, head_third}
use Rattle.plain_words.proofs.SplitLemmas.{split_same}
use Rattle.page_script.proofs.page.read_head.Goals as goal

pub returns-in_err-name : goal.returns-in_err-name
returns-in_err-name c = rw c.from_residual.ensures
    (λ name key ending need is. no_cut 32 c.args.text.now _ _ c.in_err-name.ensures is.spelled)

pub returns-in_err-key : goal.returns-in_err-key
returns-in_err-key c =
    rw c.from_residual-in_err-key.ensures
    (λ name key ending need is. no_cut 32 c.in_ok-name.rest.now _ _ c.in_err-key.ensures
    (head_second c.args.text.now c.in_ok-name.name.now c.in_ok-name.rest.now name key need ending
    c.in_ok-name.ensures is).1.joined)

pub returns-in_err-need : goal.returns-in_err-need
returns-in_err-need c =
    rw c.from_residual-in_err-need.ensures
    (λ name key ending need is. no_cut 32 c.in_ok-key.rest.now _ _ c.in_err-need.ensures
    (head_third c.args.text.now c.in_ok-name.name.now c.in_ok-name.rest.now c.in_ok-key.key.now
    c.in_ok-key.rest.now name key need ending
    c.in_ok-name.ensures c.in_ok-key.ensures is).2.joined)

pub returns-in_err-name-2 : goal.returns-in_err-name-2
returns-in_err-name-2 c =
    rw c.from_residual-in_err-name-2.ensures
    (λ name key ending need is. c.in_err-name-2.ensures
    (subst IsName (sym (head_second c.args.text.now c.in_ok-name.name.now c.in_ok-name.rest.now name
    key need ending c.in_ok-name.ensures is).0) is.name_is))

pub returns-in_err-need-2 : goal.returns-in_err-need-2
returns-in_err-need-2 c =
    rw c.from_residual-in_err-need-2.ensures
    (λ name key ending need is.
    let third = head_third c.args.text.now c.in_ok-name.name.now c.in_ok-name.rest.now
    c.in_ok-key.key.now c.in_ok-key.rest.now name key need ending
    c.in_ok-name.ensures c.in_ok-key.ensures is in
    c.in_err-need-2.ensures need
    (split_same 32 c.in_ok-key.rest.now c.in_ok-need.need.now c.in_ok-need.ending.now
    (need_word need) ending c.in_ok-need.ensures third.2).0)
