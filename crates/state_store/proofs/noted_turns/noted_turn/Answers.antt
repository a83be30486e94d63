use Rattle.std.proofs.Common.{◌≡◌, ℕ, ◌<◌, ◌^◌, ◌++◌, ◌∷◌, [], length, length-append, ap, ◌∙◌, refl, sym, subst, arith}
use Rattle.asp_base.specs.Causes.{Rose}
use Rattle.asp_messages.specs.declared.request.Request.{Request}
use Rattle.asp_messages.specs.Ranges.{RequestFits}
use Rattle.session_machine.specs.declared.entry.Entry.{Entry}
use Rattle.session_machine.specs.History.{count_after}
use Rattle.shard_core.specs.ShardStands.{asked_entry}
use Rattle.turnstile.specs.Turns.{turnstile_terms, front, caller_number, own_calls}
use Rattle.state_store.specs.Desks.{drawn_at}
use Rattle.state_store.specs.declared.notes.Placed.{Placed}
use Rattle.state_store.specs.NotedTurns.{IsAskedWith}
use Rattle.state_store.specs.ShardViews.{call_with, view_of}
use Rattle.state_store.specs.StoreDesks.{StoreDeskStands}
use Rattle.state_store.specs.StoreTurns.{IsHistory}
use Rattle.state_store.proofs.StoreDeskLemmas.{history-of, noted}
use Rattle.state_store.proofs.noted_turns.noted_turn.Goals as goal

pub leave-place-requires-clause-state : goal.leave-place-requires-clause-state
leave-place-requires-clause-state g c =
    let keep = g.K.Keeper in
    let terms = turnstile_terms c.args.turns.now in
    let few : c.caller-caller.result < 2 ^ 63 =
    subst (λ n. n < 2 ^ 63) (sym (c.caller-caller.ensures ∙ c.in-Ok.ensures.pass.number))
    c.requires.pass.few in
    let acted = c.act_on_shared-acted in
    let entry : Request → Entry = λ r. asked_entry c.caller-caller.result c.args.t r acted.result.drawn
    acted.result.reply acted.result.faults in
    noted (λ d list. StoreDeskStands keep.can_count terms list (keep.told d.shard) (keep.count d.shard)
    (drawn_at d)) (front c.enter.new.pass) _ c.state.result.now acted.new.self
    (entry c.share-shared.new.self) c.asked-note.result c.in-Ok.ensures.state c.state.ensures.value
    (acted.ensures.stands terms c.caller-caller.result (front c.enter.new.pass) few c.in-Ok.ensures.room)
    (c.asked-note.ensures ∙ ap entry c.of-about.ensures)

pub returns-clause-history : goal.returns-clause-history
returns-clause-history g c =
    let keep = g.K.Keeper in
    let terms = turnstile_terms c.args.turns.now in
    let few : c.caller-caller.result < 2 ^ 63 =
    subst (λ n. n < 2 ^ 63) (sym (c.caller-caller.ensures ∙ c.in-Ok.ensures.pass.number))
    c.requires.pass.few in
    let acted = c.act_on_shared-acted in
    let entry : Request → Entry = λ r. asked_entry c.caller-caller.result c.args.t r acted.result.drawn
    acted.result.reply acted.result.faults in
    let stand = noted (λ d list. StoreDeskStands keep.can_count terms list (keep.told d.shard)
    (keep.count d.shard) (drawn_at d))
    (front c.enter.new.pass) _ c.state.result.now acted.new.self
    (entry c.share-shared.new.self) c.asked-note.result c.in-Ok.ensures.state c.state.ensures.value
    (acted.ensures.stands terms c.caller-caller.result (front c.enter.new.pass) few c.in-Ok.ensures.room)
    (c.asked-note.ensures ∙ ap entry c.of-about.ensures) in
    subst (IsHistory keep.told keep.can_count terms) (sym c.leave-place.ensures.front)
    (history-of keep.told keep.can_count terms _ acted.new.self.shard _ _ stand)

pub returns-clause-asked : goal.returns-clause-asked
returns-clause-asked g c =
    let keep = g.K.Keeper in
    let acted = c.act_on_shared-acted in
    let others = c.in-Ok.ensures.front in
    let before = front c.args.pass.now in
    let left = c.leave-place.ensures in
    let of : ℕ → Request → Entry = λ n r. asked_entry n c.args.t r acted.result.drawn
    acted.result.reply acted.result.faults in
    let entry = of (caller_number c.args.pass.now) c.share-shared.new.self in
    let note : c.asked-note.result ≡ entry =
    c.asked-note.ensures ∙ ap (λ r. of c.caller-caller.result r) c.of-about.ensures
    ∙ ap (λ n. of n c.share-shared.new.self) (c.caller-caller.ensures ∙ c.in-Ok.ensures.pass.number) in
    let grown : front c.leave-place.new.pass ≡ before ++ others.others ++ entry ∷ [] =
    left.front ∙ ap (λ l. l ++ c.asked-note.result ∷ []) others.whole
    ∙ ap (λ e. before ++ others.others ++ e ∷ []) note in
    let placed : Placed = record {
      shard = c.args.shard;
      place = c.leave-place.result;
      entry = of c.caller-caller.result c.share-shared.new.self;
    } in
    subst (λ r. IsAskedWith (call_with c.args.turns.now c.args.pass.now c.args.t) c.args.shard r
    (view_of c.args.pass.now) (view_of c.leave-place.new.pass) placed) c.share-shared.ensures.same
    (record {
      shard_is = refl;
      entry_is = ap (λ n. of n c.share-shared.new.self) (c.caller-caller.ensures ∙ c.in-Ok.ensures.pass.number);
      asked = record {
        drawn = acted.result.drawn;
        faults = acted.result.faults;
        leaves = record {
          others = others.others;
          front = grown;
          by_others = others.by_others;
          own = left.own ∙ ap (λ l. l ++ c.asked-note.result ∷ []) c.in-Ok.ensures.own
              ∙ ap (λ e. own_calls c.args.pass.now ++ e ∷ []) note;
          is_last = let more = ap length left.front in
              omega (
                arith,
                left.place,
                more,
                length-append (front c.enter.new.pass) (c.asked-note.result ∷ []),
              );
          in_places = omega (arith, left.place, c.in-Ok.ensures.room);
        };
        formed = record {
          caller_fits = c.requires.pass.few;
          moment_fits = c.requires.moment;
          deed_fits = (
            subst RequestFits (sym c.share-shared.ensures.same) c.requires.request,
            acted.ensures.drawn,
            acted.ensures.fits,
            acted.ensures.place,
          );
        };
        cookies_out = acted.ensures.out;
        fault = λ is.
            subst (λ n. Rose n acted.result.faults)
            (ap (λ d. keep.count d.shard) c.state.ensures.value ∙ c.in-Ok.ensures.state.keeper.counted
            ∙ ap (count_after 0) others.whole)
            (acted.ensures.fault is);
      };
    })
