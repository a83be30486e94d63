-- The words of `serve PORT WORKERS LIMIT`, and of `serve PORT WORKERS LIMIT FOLDER`.
use Rattle.std.specs.Prelude.{ℕ, ◌<◌, ◌≤◌, List, [], ◌∷◌, codes, Option, Some, None, ◌&&◌, nat_lt, if◌then◌else◌}
use Rattle.std.specs.Str.{bytes_eq}
use Rattle.asp_base.specs.Numbers.{number_of}
use Rattle.serve_command.specs.declared.words_of_serve.ServeWords.{ServeWords}

-- what three numbers say, where each is one and none is 0
abbrev pub serve_with : Option ℕ → Option ℕ → Option ℕ → Option ServeWords
serve_with (Some port) (Some workers) (Some limit) =
    if nat_lt 0 port && (nat_lt 0 workers && nat_lt 0 limit)
    then Some (record { port = port; workers = workers; limit = limit })
    else None
serve_with port workers limit = None

-- what the words say: a port up to 65,535, up to 64 workers, and up to 1,000,000 connections each
unfoldable pub serve_of : List (List ℕ) → Option ServeWords
serve_of (name ∷ port ∷ workers ∷ limit ∷ []) =
    if bytes_eq name (codes "serve")
    then serve_with (number_of port 65535) (number_of workers 64) (number_of limit 1000000)
    else None
serve_of words = None

-- what the words say that end with a folder, which is any word that is not empty
abbrev pub serve_with_folder : List (List ℕ) → Option ServeWords
serve_with_folder (name ∷ port ∷ workers ∷ limit ∷ (c ∷ cs) ∷ []) =
    serve_of (name ∷ port ∷ workers ∷ limit ∷ [])
serve_with_folder words = None

-- the number of workers that they say, where they say one
abbrev pub workers_in : Option ServeWords → Option ℕ
workers_in (Some said) = Some said.workers
workers_in None = None

-- Each number is in its range.
pub record ServeWordsFit (said : ServeWords) : Type 0 where
  pub port : (0 < said.port) × (said.port ≤ 65535)
  pub workers : (0 < said.workers) × (said.workers ≤ 64)
  pub limit : (0 < said.limit) × (said.limit ≤ 1000000)
