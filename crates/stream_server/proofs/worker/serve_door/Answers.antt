use Rattle.std.proofs.Common.{refl, ◌∙◌, [], subst}
use Rattle.std.specs.Prelude.{IfSome}
use Rattle.stream_server.specs.Callers.{caller_with}
use Rattle.stream_server.specs.Connections.{line_of}
use Rattle.stream_server.specs.Doors.{HandsOut}
use Rattle.stream_server.specs.Workers.{means_of, post_with}
use Rattle.stream_server.proofs.ServiceLemmas.{underway-none, underway-more}
use Rattle.stream_server.proofs.worker.serve_door.Goals as goal

pub loop-init : goal.loop-init
loop-init g c = record {
  can_next = tt;
  is_finite = tt;
  pass = c.requires.pass;
  caller = refl;
  count = refl;
  underway = ([], underway-none g.K.Keeper.told _);
}

pub loop-preserved : goal.loop-preserved
loop-preserved g c =
    let inv = c.loop.invariant in
    let stream = c.serve_stream_noted-end.ensures in
    let swept = c.sweep_noted.ensures in
    let told = g.D.Door.told in
    let store = c.args.store.now in
    let out : HandsOut (told c.loop.door) (told c.next-in-loop.new.self)
    (line_of g.D.Input.Source g.D.Output.Sink c.in-Ok-Some.conn.input c.in-Ok-Some.conn.output)
    = subst (λ o. IfSome o (λ k. HandsOut (told c.loop.door) (told c.next-in-loop.new.self)
    (line_of g.D.Input.Source g.D.Output.Sink k.input k.output)))
    c.in-Ok-Some.field-0-is c.in-Ok-Some.ensures.some in
    record {
      can_next = tt;
      is_finite = tt;
      pass = swept.pass;
      caller = swept.caller ∙ stream.caller ∙ inv.caller;
      count = c.done.ensures.count ∙ c.in-Ok-Some.ensures.count ∙ inv.count;
      underway = underway-more g.K.Keeper.told
          (post_with (means_of g.D.Door g.C.Clock)
          store c.args.door.now c.args.clock.now c.args.pass.now)
          (post_with (means_of g.D.Door g.C.Clock)
          store c.loop.door c.loop.clock c.loop.pass)
          (post_with (means_of g.D.Door g.C.Clock)
          store c.done.new.self c.now-t.new.self c.sweep_noted.new.pass)
          (told c.next-in-loop.new.self) _ _ c.serve_stream_noted-end.result
          (caller_with store c.serve_stream_noted-end.new.pass
          (g.C.Clock.told c.serve_stream_noted-end.new.clock))
          inv.underway out c.done.ensures.back stream.served
          (record {
            number = swept.caller;
            shards = refl;
            first_place = refl;
            moment = c.now-t.result;
            gave = c.now-t.ensures.gives;
            count = c.sweep_noted.result;
            sweeps = swept.sweeps;
          });
    }
