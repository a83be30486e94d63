-- A farm: a world on each server, and what is printed of them all.
use Rattle.std.specs.Prelude.{◌≡◌, ℕ, ◌<◌, List, [], ◌∷◌, ◌++◌, map, decimal, Option, Some, Bool, true, false, ◌==◌, if◌then◌else◌}
use Rattle.std.specs.List.{AllByRecursion}
use Rattle.placement.specs.Placement.{server_of_key}
use Rattle.page_script.specs.declared.line.Line.{Line}
use Rattle.asp_messages.specs.Fields.{most_cookie}
use Rattle.plain_desk.specs.Openings.{Opening, opening_with}
use Rattle.page_script.specs.World.{World, WorldTurn, WorldStep, IsWorldRun, world_from}
use Rattle.partition.specs.Shares.{EachFollows, MayFollow, homes_in, is_for, share}

-- What a step prints: the number of the server of its page, and the line that it prints there.
pub record FarmLine : Type 0 where
  pub server : ℕ
  pub text : List ℕ

-- what the farm prints: each line with its server's number and a space in front of it
abbrev pub farm_text : List FarmLine → List ℕ
farm_text [] = []
farm_text (line ∷ printed) = decimal line.server ++ 32 ∷ (line.text ++ farm_text printed)

-- what one server prints, without its number
abbrev pub text_of : ℕ → List FarmLine → List ℕ
text_of server [] = []
text_of server (line ∷ printed) =
    if line.server == server then line.text ++ text_of server printed else text_of server printed

-- the server that printed the line
abbrev pub server_of_line : FarmLine → Option ℕ
server_of_line line = Some line.server

-- the text ends with a line feed
abbrev pub EndsLine : List ℕ → Type 0
EndsLine text = (front : List ℕ) × (text ≡ front ++ 10 ∷ [])

-- A farm's script so far, the world of each server, and the lines that its steps printed.
pub record FarmRun : Type 0 where
  pub script : List Line
  pub worlds : ℕ → World
  pub printed : List FarmLine

-- how the history of each server begins: with no items, and with the cookies from 1 on
abbrev pub server_opening : Opening
server_opening = opening_with 1 most_cookie

-- a farm before the first line
abbrev pub empty_run : FarmRun
empty_run = record { script = []; worlds = λ server. world_from server_opening; printed = [] }

-- the requests of a server are for keys of its own
abbrev pub OwnKeys : ℕ → ℕ → List WorldTurn → Type 0
OwnKeys servers server turns =
    AllByRecursion (λ (turn : WorldTurn). server_of_key turn.request.key servers ≡ server) turns

-- A run of a farm of so many servers: each line may follow those before it; each server's share
-- leads to its world, and prints its lines; the lines are printed in the order of the steps; and no
-- two servers were asked for one key.
pub record IsFarmRun (servers : ℕ) (run : FarmRun) : Type 0 where
  pub follow : EachFollows servers [] run.script
  pub shares : (server : ℕ) → server < servers
      → IsWorldRun server_opening (share servers run.script server) (run.worlds server)
      (text_of server run.printed)
  pub order : map server_of_line run.printed ≡ homes_in servers run.script run.script
  pub ends : AllByRecursion (λ (line : FarmLine). EndsLine line.text) run.printed
  pub own : (server : ℕ) → server < servers
      → OwnKeys servers server (run.worlds server).turns

-- one server at a line: it takes the line where that is for it, and else it stays
abbrev pub ServerTakes : Bool → World → Line → World → List ℕ → Type 0
ServerTakes true world line world' text = WorldStep world line world' text
ServerTakes false world line world' text = (world' ≡ world) × (text ≡ [])

-- The farm takes the line, and this is printed for it.
pub record FarmStep (servers : ℕ) (run : FarmRun) (line : Line) (run' : FarmRun)
    (printed : List FarmLine) : Type 0 where
  pub follows : MayFollow servers run.script line
  pub script : run'.script ≡ run.script ++ line ∷ []
  pub behind : run'.printed ≡ run.printed ++ printed
  pub each : (server : ℕ) → server < servers
      → ServerTakes (is_for servers run'.script server line) (run.worlds server) line
      (run'.worlds server) (text_of server printed)
