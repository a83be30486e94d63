use Rattle.std.proofs.Common.{◌+◌, [], ◌++◌, append-nil, take, drop, refl, sym, ◌∙◌, subst, inl}
use Rattle.page_script.specs.ScriptStands.{opening_of}
use Rattle.script_runner.specs.ScriptRunning.{HasRun}
use Rattle.script_runner.proofs.RunLemmas.{HasRun-last, split_of, line_done, line_wrong, line_lacks}
use Rattle.script_runner.proofs.driver.DriverConsumer.step.Goals as goal

pub returns-in-Done-clause-did : goal.returns-in-Done-clause-did
returns-in-Done-clause-did g c = λ is first taken due went.
    let held = c.first_line.new.self in
    let run =
    subst (λ h. HasRun g.K.Keeper (opening_of g.K.Keeper first.script) c.args.self.now.script taken h due)
    (sym c.first_line.ensures.same) went.0 in
    let last =
    line_done g.K.Keeper (opening_of g.K.Keeper first.script) c.args.self.now.script c.line.new.self taken held
    (take c.in-Some.len c.as_slice.result.now) c.take_line.new.self due run
    (split_of g.K.Keeper c.args.self.now.held held c.as_slice.result.now c.take_line.new.self
    c.in-Some.len c.first_line.ensures.same c.as_slice.ensures c.take_line.ensures
    c.in-Some.ensures.line.1)
    c.clear.new.self.items c.line.new.out.items c.clear.ensures.items
    (c.in-Done.ensures.done refl) in (
      (
        HasRun-last g.K.Keeper (opening_of g.K.Keeper first.script) c.line.new.self taken c.take_line.new.self due
            (c.line.new.out.items ++ []) last,
        (c.line.ensures.floor ∙ went.1.0, λ none. c.line.ensures.tells (went.1.1 none)),
      ),
      (last, (c.line.ensures.floor ∙ went.1.0, λ none. c.line.ensures.tells (went.1.1 none))),
    )

pub returns-in-NotALine-clause-over : goal.returns-in-NotALine-clause-over
returns-in-NotALine-clause-over g c = λ first taken due went.
    let held = c.first_line.new.self in
    let run =
    subst (λ h. HasRun g.K.Keeper (opening_of g.K.Keeper first.script) c.args.self.now.script taken h due)
    (sym c.first_line.ensures.same) went.0 in
    let wrong =
    line_wrong g.K.Keeper (opening_of g.K.Keeper first.script) c.args.self.now.script c.line.new.self taken held
    (take c.in-Some.len c.as_slice.result.now) (drop (c.in-Some.len + 1) held) due run
    (split_of g.K.Keeper c.args.self.now.held held c.as_slice.result.now
    (drop (c.in-Some.len + 1) held) c.in-Some.len c.first_line.ensures.same
    c.as_slice.ensures refl c.in-Some.ensures.line.1)
    (c.in-NotALine.ensures.unchanged refl) (c.in-NotALine.ensures.not_a_line refl) in (
      append-nil c.line.new.out.items ∙ c.in-NotALine.ensures.same (λ is. cc)
          ∙ c.clear.ensures.items,
      (c.line.ensures.floor ∙ went.1.0, λ none. c.line.ensures.tells (went.1.1 none)),
      (wrong.0, inl wrong.1),
    )

pub returns-in-NoMemory-clause-no_memory : goal.returns-in-NoMemory-clause-no_memory
returns-in-NoMemory-clause-no_memory g c = λ is first taken due went.
    let held = c.first_line.new.self in
    let run =
    subst (λ h. HasRun g.K.Keeper (opening_of g.K.Keeper first.script) c.args.self.now.script taken h due)
    (sym c.first_line.ensures.same) went.0 in (
      (c.line.ensures.floor ∙ went.1.0, λ none. c.line.ensures.tells (went.1.1 none)),
      line_lacks g.K.Keeper (opening_of g.K.Keeper first.script) c.args.self.now.script c.line.new.self taken held
          (take c.in-Some.len c.as_slice.result.now) (drop (c.in-Some.len + 1) held) due run
          (split_of g.K.Keeper c.args.self.now.held held c.as_slice.result.now
          (drop (c.in-Some.len + 1) held) c.in-Some.len c.first_line.ensures.same
          c.as_slice.ensures refl c.in-Some.ensures.line.1)
          (c.in-NoMemory.ensures.no_memory refl),
    )
