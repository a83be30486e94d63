-- The words of a command line: the table of commands.
use Rattle.std.specs.Prelude.{ℕ, List, [], ◌∷◌, codes, Option, Some, None, Bool, true, false, nat_lt, if◌then◌else◌}
use Rattle.std.specs.Str.{bytes_eq}
use Rattle.asp_base.specs.Limits.{most_input}
use Rattle.asp_base.specs.Moments.{last_moment}
use Rattle.asp_base.specs.Numbers.{number_of}
use Rattle.asp_messages.specs.Fields.{most_cookie}
use Rattle.session_id.specs.Hexadecimal.{hex_bytes}
use Rattle.pipe_command.specs.declared.command_words.Command.{Command}
use Rattle.pipe_command.specs.declared.command_words.Command.TheVariants as commands

-- a run with these three numbers, where each is one and the first cookie is not 0, that writes
-- replies or a journal
abbrev pub pipe_with : Bool → Option ℕ → Option ℕ → Option ℕ → Option Command
pipe_with journal (Some start) (Some step) (Some first) =
    if nat_lt 0 first
    then Some (commands.Pipe (record {
      start = start;
      step = step;
      first = first;
      journal = journal;
      most = most_input;
    }))
    else None
pipe_with journal start step first = None

-- a run of these numbers' words
abbrev pub run_of : Bool → List ℕ → List ℕ → List ℕ → Option Command
run_of journal start step first = pipe_with journal
    (number_of start last_moment) (number_of step last_moment) (number_of first most_cookie)

-- `pipe START STEP FIRST`, and `trace START STEP FIRST`
unfoldable pub pipe_of : List (List ℕ) → Option Command
pipe_of (name ∷ start ∷ step ∷ first ∷ []) =
    if bytes_eq name (codes "pipe") then run_of false start step first
    else (if bytes_eq name (codes "trace") then run_of true start step first
    else None)
pipe_of words = None

-- a load of so many requests from this seed, where both are numbers
abbrev pub load_with : Option ℕ → Option ℕ → Option Command
load_with (Some requests) (Some seed) =
    Some (commands.Load (record { requests = requests; seed = seed }))
load_with requests seed = None

-- `load N SEED`
unfoldable pub load_of : List (List ℕ) → Option Command
load_of (name ∷ requests ∷ seed ∷ []) =
    if bytes_eq name (codes "load")
    then load_with (number_of requests 1000000) (number_of seed 2147483647) else None
load_of words = None

-- the identifier of these bytes, where there are any
abbrev pub id_with : Option (List ℕ) → Option Command
id_with (Some bytes) = Some (commands.Id bytes)
id_with None = None

-- `id HEX`
unfoldable pub id_of : List (List ℕ) → Option Command
id_of (name ∷ digits ∷ []) =
    if bytes_eq name (codes "id") then id_with (hex_bytes 15 digits) else None
id_of words = None

-- a mirror at this moment, where it is one
abbrev pub mirror_with : Option ℕ → Option Command
mirror_with (Some moment) = Some (commands.Mirror moment)
mirror_with None = None

-- `mirror MOMENT`
unfoldable pub mirror_of : List (List ℕ) → Option Command
mirror_of (name ∷ moment ∷ []) =
    if bytes_eq name (codes "mirror") then mirror_with (number_of moment last_moment) else None
mirror_of words = None

-- `replay`, and `drive`
unfoldable pub single_of : List (List ℕ) → Option Command
single_of (name ∷ []) =
    if bytes_eq name (codes "replay") then Some commands.Replay
    else (if bytes_eq name (codes "drive") then Some commands.Drive
    else None)
single_of words = None

-- the first of two that there is
infixr 3 ◌or◌
abbrev pub ◌or◌ : Option Command → Option Command → Option Command
None or second = second
Some command or second = Some command

-- this command, where the word PATH is not empty
abbrev pub stored_at : List ℕ → Option Command → Option Command
stored_at [] command = None
stored_at (byte ∷ path) command = command

-- `drive PATH`, `pipe START STEP FIRST PATH` and `trace START STEP FIRST PATH`
unfoldable pub stored_of : List (List ℕ) → Option Command
stored_of (name ∷ path ∷ []) =
    if bytes_eq name (codes "drive") then stored_at path (Some commands.Drive) else None
stored_of (name ∷ start ∷ step ∷ first ∷ path ∷ []) =
    stored_at path (pipe_of (name ∷ start ∷ step ∷ first ∷ []))
stored_of words = None

-- what the words of a command line say
unfoldable pub command_of : List (List ℕ) → Option Command
command_of words =
    pipe_of words or load_of words or id_of words or mirror_of words or single_of words
    or stored_of words
