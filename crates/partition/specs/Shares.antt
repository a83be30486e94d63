-- The script of a farm: whose each of its lines is, and which line may follow.
use Rattle.std.specs.Prelude.{◌≡◌, ◌≢◌, ℕ, ◌+◌, ◌<◌, List, [], ◌∷◌, ◌++◌, filter, Option, Some, None, Bool, true, false, ◌==◌, if◌then◌else◌, ⊤}
use Rattle.std.specs.Str.{bytes_eq}
use Rattle.placement.specs.Placement.{server_of_key}
use Rattle.page_script.specs.declared.line.Line.{Line}
use Rattle.page_script.specs.declared.line.Line.TheVariants as lines
use Rattle.page_script.specs.World.{most_pages}

-- how many pages a script has
abbrev pub page_count : List Line → ℕ
page_count [] = 0
page_count (lines.Limits limits ∷ script) = page_count script
page_count (lines.Page page ∷ script) = page_count script + 1
page_count (lines.Step moment name ∷ script) = page_count script

module _ (servers : ℕ) where
  -- the server of the page of this name, of so many servers, where the script has such a page
  abbrev pub home_of : List Line → List ℕ → Option ℕ
  home_of [] name = None
  home_of (lines.Limits limits ∷ script) name = home_of script name
  home_of (lines.Page page ∷ script) name =
      if bytes_eq page.name name then Some (server_of_key page.key servers)
      else home_of script name
  home_of (lines.Step moment name' ∷ script) name = home_of script name

  -- The line may follow the script: the name of a new page is not in use on any server, and there
  -- is room for it; a step is that of a page that is there.
  abbrev pub MayFollow : List Line → Line → Type 0
  MayFollow script (lines.Limits limits) = ⊤
  MayFollow script (lines.Page page) = (home_of script page.name ≡ None)
      × (page_count script < most_pages)
  MayFollow script (lines.Step moment name) = home_of script name ≢ None

  -- each of the lines may follow those before it, behind these
  abbrev pub EachFollows : List Line → List Line → Type 0
  EachFollows before [] = ⊤
  EachFollows before (line ∷ script) = MayFollow before line
      × EachFollows (before ++ line ∷ []) script

  -- the server is the one that is there
  abbrev pub is_home : Option ℕ → ℕ → Bool
  is_home (Some home) server = home == server
  is_home None server = false

  -- the line of the script is for this server: limits are for all, a page is for the server of its
  -- key, and a step for that of its page
  abbrev pub is_for : List Line → ℕ → Line → Bool
  is_for script server (lines.Limits limits) = true
  is_for script server (lines.Page page) = server_of_key page.key servers == server
  is_for script server (lines.Step moment name) = is_home (home_of script name) server

  -- the server's share of the script: the lines that are for it, in order
  abbrev pub share : List Line → ℕ → List Line
  share script server = filter (is_for script server) script

  -- the servers of these steps of the script, in order
  abbrev pub homes_in : List Line → List Line → List (Option ℕ)
  homes_in script [] = []
  homes_in script (lines.Limits limits ∷ some) = homes_in script some
  homes_in script (lines.Page page ∷ some) = homes_in script some
  homes_in script (lines.Step moment name ∷ some) = home_of script name ∷ homes_in script some
