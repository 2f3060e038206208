-- How the code keeps a key schedule and the state: as words, whose highest byte is the first (this project's own).
use Rattle.std.specs.Prelude.{ℕ, List, map, slice_index}
use Rattle.std.specs.Int.{w32, to_be_bytes}
use Rattle.snp_model.specs.Aes.{state_of}

-- the bytes of each word
abbrev pub words_of : List ℕ → List (List ℕ)
words_of xs = map (to_be_bytes w32) xs

-- the state of which the four words are the columns
unfoldable pub state_of_columns : List ℕ → List ℕ
state_of_columns xs = state_of (λ r c. slice_index (to_be_bytes w32 (slice_index xs c)) r)
