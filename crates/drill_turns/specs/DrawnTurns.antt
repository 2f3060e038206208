-- Picks that a generator of numbers draws, by the two numbers of its state. This project's own.
use Rattle.std.specs.Prelude.{ℕ, List, [], ◌∷◌}
use Rattle.rand_pcg.specs.Lcg.{Lcg}
use Rattle.snp_model.specs.Generated.{draw}

-- the numbers of a generator
abbrev pub numbers_of : Lcg → List ℕ
numbers_of g = g.state ∷ g.increment ∷ []

-- the generator with these numbers
abbrev pub generator_with : List ℕ → Lcg
generator_with (state ∷ increment ∷ others) = record { state = state; increment = increment }
generator_with numbers = record { state = 0; increment = 0 }

-- what it draws below a count
abbrev pub drawn_place : List ℕ → ℕ → ℕ
drawn_place numbers count = (draw count (generator_with numbers)).0

-- and what it is then
abbrev pub drawn_later : List ℕ → ℕ → List ℕ
drawn_later numbers count = numbers_of (draw count (generator_with numbers)).1
