use Rattle.std.proofs.Common.{◌+◌, take, drop, sym, ap, ◌∙◌, drop-drop}
use Rattle.std.proofs.lemmas.List.{drop-take}
use Rattle.asp_base.proofs.held.Held.split.Goals as goal

pub returns-clause-body : goal.returns-clause-body
returns-clause-body c =
    let items = c.self.inside.bytes.items in
    let s = c.self.inside.start in
    let from = s + c.args.head in
    let body = c.args.body in
    c.adopt_behind.ensures ∙ c.compact.ensures.bytes
    ∙ ap (drop from) (c.truncate.ensures.items
    ∙ ap (λ v. take (from + body) v.items) c.replace-bytes.ensures.value)
    ∙ drop-take from body items
    ∙ ap (take body) (sym (drop-drop c.args.head s items) ∙ ap (drop c.args.head) c.self.view_is)
