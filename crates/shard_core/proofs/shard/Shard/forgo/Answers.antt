use Rattle.std.proofs.Common.{◌≡◌, ℕ, List, Option, Some, None, true, false, refl, sym, ◌∙◌, arith}
use Rattle.asp_messages.specs.declared.reply.Reply.TheVariants as replies
use Rattle.keeper.specs.declared.keeping.KeepError.TheVariants as errors
use Rattle.keeper.specs.Items.{StillTells}
use Rattle.session_machine.specs.declared.item.Item.{Item}
use Rattle.shard_core.proofs.ActLemmas.{out-goes_on, refused-goes_on}
use Rattle.shard_core.proofs.shard.Shard.forgo.Goals as goal

no : true ≡ false → ⊥
no p = cc

still : (told : Option (List ℕ → Option Item)) → StillTells told told
still None = tt
still (Some items) = refl

pub returns-then-is_out_of_cookies-clause-history : goal.returns-then-is_out_of_cookies-clause-history
returns-then-is_out_of_cookies-clause-history g c = λ caller opening count list few draws stands.
    let keeper = c.args.self.now in
    let faults = g.K.Keeper.count keeper in
    out-goes_on opening count list caller c.args.t c.args.drawn faults faults c.args.request.now
    replies.CookiesOut (g.K.Keeper.told keeper) few c.requires.moment c.requires.request
    c.requires.drawn draws stands refl
    (c.is_out_of_cookies.ensures.0 c.if-is_out_of_cookies.true) refl

pub returns-clause-history : goal.returns-clause-history
returns-clause-history g c = λ caller opening count list few draws stands.
    let keeper = c.args.self.now in
    let told = g.K.Keeper.told keeper in
    let faults = g.K.Keeper.count keeper in
    refused-goes_on opening count list caller c.args.t c.args.drawn faults faults
    c.args.request.now replies.NoMemory told few c.requires.moment
    c.requires.request c.requires.drawn draws stands errors.NoMemory told
    (λ out. no (sym (c.is_out_of_cookies.ensures.1 out) ∙ c.if-is_out_of_cookies.false))
    (still told) (omega arith) (λ e. cc) refl
