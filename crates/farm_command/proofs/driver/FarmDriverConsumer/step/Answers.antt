use Rattle.std.proofs.Common.{◌+◌, [], ◌++◌, append-nil, take, drop, refl, sym, ap, ◌∙◌, length, subst, inl}
use Rattle.script_runner.proofs.RunLemmas.{split_of}
use Rattle.farm_command.specs.FarmRunning.{HasFarmRun}
use Rattle.farm_command.proofs.RunLemmas.{HasFarmRun-last, farm_done, farm_lacks, farm_wrong}
use Rattle.farm_command.proofs.driver.FarmDriverConsumer.step.Goals as goal

pub returns-in-Done-clause-did : goal.returns-in-Done-clause-did
returns-in-Done-clause-did g c = λ is first taken due went.
    let held = c.first_line.new.self in
    let ran =
    subst (λ h. HasFarmRun g.K.Keeper c.args.self.now.scripts taken h due)
    (sym c.first_line.ensures.same) went.0 in
    let last =
    farm_done g.K.Keeper c.args.self.now.scripts c.line.new.self taken held
    (take c.in-Some.len c.as_slice.result.now) c.take_line.new.self due ran
    (split_of g.K.Keeper c.args.self.now.held held c.as_slice.result.now c.take_line.new.self
    c.in-Some.len c.first_line.ensures.same c.as_slice.ensures c.take_line.ensures
    c.in-Some.ensures.line.1)
    c.line.ensures.servers c.clear.new.self.items c.line.new.out.items c.clear.ensures.items
    (c.in-Done.ensures.done refl) in (
      (
        HasFarmRun-last g.K.Keeper c.line.new.self taken c.take_line.new.self due
            (c.line.new.out.items ++ []) last,
        c.line.ensures.servers ∙ went.1,
      ),
      (last, c.line.ensures.servers ∙ went.1),
    )

pub returns-in-NotALine-clause-over : goal.returns-in-NotALine-clause-over
returns-in-NotALine-clause-over g c = λ first taken due went.
    let held = c.first_line.new.self in
    let ran =
    subst (λ h. HasFarmRun g.K.Keeper c.args.self.now.scripts taken h due)
    (sym c.first_line.ensures.same) went.0 in
    let wrong =
    farm_wrong g.K.Keeper c.args.self.now.scripts c.line.new.self taken held
    (take c.in-Some.len c.as_slice.result.now) (drop (c.in-Some.len + 1) held) due ran
    (split_of g.K.Keeper c.args.self.now.held held c.as_slice.result.now
    (drop (c.in-Some.len + 1) held) c.in-Some.len c.first_line.ensures.same
    c.as_slice.ensures refl c.in-Some.ensures.line.1)
    (c.in-NotALine.ensures.unchanged refl) (c.in-NotALine.ensures.not_a_line refl) in (
      append-nil c.line.new.out.items ∙ c.in-NotALine.ensures.same (λ is. cc)
          ∙ c.clear.ensures.items,
      c.line.ensures.servers ∙ went.1,
      (wrong.0, inl wrong.1),
    )

pub returns-in-NoMemory-clause-no_memory : goal.returns-in-NoMemory-clause-no_memory
returns-in-NoMemory-clause-no_memory g c = λ is first taken due went.
    let held = c.first_line.new.self in
    let ran =
    subst (λ h. HasFarmRun g.K.Keeper c.args.self.now.scripts taken h due)
    (sym c.first_line.ensures.same) went.0 in (
      c.line.ensures.servers ∙ went.1,
      farm_lacks g.K.Keeper c.args.self.now.scripts c.line.new.self taken held
          (take c.in-Some.len c.as_slice.result.now) (drop (c.in-Some.len + 1) held) due ran
          (split_of g.K.Keeper c.args.self.now.held held c.as_slice.result.now
          (drop (c.in-Some.len + 1) held) c.in-Some.len c.first_line.ensures.same
          c.as_slice.ensures refl c.in-Some.ensures.line.1)
          c.line.ensures.servers (c.in-NoMemory.ensures.no_memory refl),
    )
