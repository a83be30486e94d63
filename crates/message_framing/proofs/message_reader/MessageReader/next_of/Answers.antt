use Rattle.message_framing.proofs.ReaderLemmas.{if-found}
use Rattle.message_framing.proofs.message_reader.MessageReader.next_of.Goals as goal

pub returns : goal.returns
returns g c = record {
  message = c.next_counted.ensures.message;
  forgotten = if-found c.next_counted.result _ _ c.next_counted.ensures.counted
      (λ m took. took.forgotten);
  more = c.next_counted.ensures.more;
  none_whole = c.next_counted.ensures.none_whole;
  waits = c.next_counted.ensures.waits;
  broken = c.next_counted.ensures.broken;
  hopeless = c.next_counted.ensures.hopeless;
  stays = c.next_counted.ensures.stays;
  no_memory = c.next_counted.ensures.no_memory;
  bound = c.next_counted.ensures.bound;
  looks = c.next_counted.ensures.looks;
}
