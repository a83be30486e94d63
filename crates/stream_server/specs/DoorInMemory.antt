-- What the connections of a door in memory tell.
use Rattle.std.specs.Prelude.{List, map, reverse, Option, Some}
use Rattle.asp_base.specs.InMemory.{SourceInMemory, SinkInMemory}
use Rattle.stream_server.specs.declared.door.Conn.{Conn}
use Rattle.stream_server.specs.declared.memory_door.GivenBack.{GivenBack}
use Rattle.stream_server.specs.Connections.{Wire}
use Rattle.stream_server.specs.Doors.{Doorway}

-- what a connection in memory tells
abbrev pub wire_in_memory : Conn SourceInMemory SinkInMemory → Wire
wire_in_memory c = record {
  source = Some (c.input.given, c.input.left);
  sink = Some c.output.taken;
  source_faults = c.input.faults;
  sink_faults = c.output.faults;
}

-- a door: the connections to come, the last first, and those that were given back
abbrev pub doorway : List (Conn SourceInMemory SinkInMemory) → List GivenBack → Option Doorway
doorway coming given = Some (record {
  to_come = map wire_in_memory (reverse coming);
  given_back = map (λ g. (wire_in_memory g.conn, g.end)) given;
})
