-- The word PATH of a command line.
use Rattle.std.specs.Prelude.{ℕ, List, [], ◌∷◌, Option, None, option_map}
use Rattle.pipe_command.specs.CommandWords.{stored_of}

-- the word PATH, where the words are those of a command that has one
unfoldable pub path_of : List (List ℕ) → Option (List ℕ)
path_of (name ∷ path ∷ []) = option_map (λ command. path) (stored_of (name ∷ path ∷ []))
path_of (name ∷ start ∷ step ∷ first ∷ path ∷ []) =
    option_map (λ command. path) (stored_of (name ∷ start ∷ step ∷ first ∷ path ∷ []))
path_of words = None
