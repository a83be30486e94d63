-- Which of several places has a session: by the hash of its key, or of the identifier in its key.
use Rattle.std.specs.Prelude.{ℕ, ◌+◌, ◌*◌, ◌%◌, List, [], ◌∷◌, ◌++◌, fold, ◌==◌, if◌then◌else◌}

-- the hash of a text: by its bytes, in order
abbrev pub hash_of : List ℕ → ℕ
hash_of text = fold (λ hash byte. (hash * 31 + byte) % 65536) 0 text

-- the identifier in a key, which begins anew behind each `/`: the bytes behind the last one, or the
-- whole key where there is none
abbrev pub identifier_of : List ℕ → List ℕ
identifier_of key = fold (λ part byte. if byte == 47 then [] else part ++ byte ∷ []) [] key

-- the server of a key, of so many servers
abbrev pub server_of_key : List ℕ → ℕ → ℕ
server_of_key key servers = hash_of (identifier_of key) % servers
