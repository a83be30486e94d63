use Rattle.std.proofs.Common.{refl}
use Rattle.page_script.proofs.StepLemmas.{on_ok, EachSteps-prints, quiet, ran, line-joined}
use Rattle.plain_desk.specs.DeskStands.{desk_state}
use Rattle.page_script.proofs.script_page.ScriptPage.step.Goals as goal

pub returns-in_ok-request-in-Send-clause-ok : goal.returns-in_ok-request-in-Send-clause-ok
returns-in_ok-request-in-Send-clause-ok g c =
    on_ok c.send.result
    (EachSteps-prints g.K.Keeper.can_count c.args.t c.args.self.now c.send.new.self
    (desk_state g.K.Keeper c.args.desk.now)
    (desk_state g.K.Keeper c.send.new.desk) _ _
    (λ words more. line-joined c.args.out.now.items c.push_start.new.out.items c.send.new.out.items
    _ words (rw c.as_slice.ensures.letters at c.in_ok-push_start.ensures.ok) more))
    c.send.ensures.ok

pub returns-in-WaitUntil-clause-ok : goal.returns-in-WaitUntil-clause-ok
returns-in-WaitUntil-clause-ok g c =
    on_ok c.push_wait.result
    (λ more. quiet g.K.Keeper.can_count c.args.t c.args.self.now
    (desk_state g.K.Keeper c.args.desk.now) _ _ _ c.in-WaitUntil.ensures.act
    (λ at. (refl, refl, refl))
    (line-joined c.args.out.now.items c.push_start.new.out.items c.push_wait.new.out.items _ _
    (rw c.as_slice.ensures.letters at c.in_ok-push_start.ensures.ok) more))
    c.push_wait.ensures.ok

pub returns-in_ok-push_run-in-Run-clause-ok : goal.returns-in_ok-push_run-in-Run-clause-ok
returns-in_ok-push_run-in-Run-clause-ok g c =
    ran g.K.Keeper.can_count c.args.t c.args.self.now c.finish.new.self
    (desk_state g.K.Keeper c.args.desk.now) _ _ _ c.in-Run.ensures.act
    c.finish.ensures
    (line-joined c.args.out.now.items c.push_start.new.out.items c.push_run.new.out.items _ _
    (rw c.as_slice.ensures.letters at c.in_ok-push_start.ensures.ok)
    c.in_ok-push_run-in-Run.ensures.ok)

pub returns-in-Over-clause-ok : goal.returns-in-Over-clause-ok
returns-in-Over-clause-ok g c =
    on_ok c.push_over.result
    (λ more. quiet g.K.Keeper.can_count c.args.t c.args.self.now
    (desk_state g.K.Keeper c.args.desk.now) _ _ _ c.in-Over.ensures.act
    (λ at. (refl, refl, refl))
    (line-joined c.args.out.now.items c.push_start.new.out.items c.push_over.new.out.items _ _
    (rw c.as_slice.ensures.letters at c.in_ok-push_start.ensures.ok) more))
    c.push_over.ensures.ok
