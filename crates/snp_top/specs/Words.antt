-- What the words of a command line ask for. This project's own.
use Rattle.std.specs.Prelude.{◌≡◌, ℕ, ◌==◌, ◌⊎◌, Bool, ◌&&◌, ◌||◌, true, false, List, [], ◌∷◌, length, Option, None, Some, if◌then◌else◌, option_map, slice_index_or, codes, bytes_eq}
use Rattle.snp_model.specs.CommandLine.{drill_number, gen_number, is_measure, is_replay}
use Rattle.snp_model.specs.Lines.{decimal_of}
use Rattle.snp_top.specs.declared.words.Asked.{Asked}
use Rattle.snp_top.specs.declared.words.Asked.TheVariants as asks
use Rattle.snp_top.specs.declared.words.Drawn.{Drawn}
use Rattle.snp_top.specs.declared.words.Drawn.TheVariants as draws

-- a form of a command: its name, how many words there are with it, and what such words ask for
pub record Form : Type 0 where
  pub name : List ℕ
  pub count : ℕ
  pub asks : List (List ℕ) → Option Asked

-- what the number that the second word spells determines: in base 10 without leading zeros, and below 2^64
abbrev pub numbered : Drawn → List (List ℕ) → Option Asked
numbered what words = option_map (λ number. asks.Drawn number what) (decimal_of (slice_index_or words 1 []))

-- every command, a row a form. No two have one name
unfoldable pub forms : List Form
forms =
    record { name = codes "replay"; count = 1; asks = λ words. Some asks.Replay }
    ∷ record { name = codes "run"; count = 1; asks = λ words. Some asks.Run }
    ∷ record { name = codes "measure"; count = 1; asks = λ words. Some asks.Measure }
    ∷ record { name = codes "gen"; count = 2; asks = numbered draws.Gen }
    ∷ record { name = codes "drill"; count = 2; asks = numbered draws.Drill }
    ∷ []

-- whether the first word is this name, and there are this many words
abbrev pub fits : List ℕ → ℕ → List (List ℕ) → Bool
fits name count words = (length words == count) && bytes_eq (slice_index_or words 0 []) name

-- what the words ask for, by the first of these forms that they fit
unfoldable pub first_of : List Form → List (List ℕ) → Option Asked
first_of [] words = None
first_of (form ∷ rest) words = if fits form.name form.count words then form.asks words else first_of rest words

-- the command that the words ask for, if they are those of one
abbrev pub command_of : List (List ℕ) → Option Asked
command_of words = first_of forms words

-- the same, where no command is taken that needs threads
abbrev pub without_threads : Option Asked → Option Asked
without_threads None = None
without_threads (Some asks.Replay) = Some asks.Replay
without_threads (Some asks.Run) = None
without_threads (Some asks.Measure) = Some asks.Measure
without_threads (Some (asks.Drawn number what)) = Some (asks.Drawn number what)

-- whether the command is `run`
abbrev pub asks_run : Option Asked → Bool
asks_run (Some asks.Run) = true
asks_run asked = false

-- whether it reads a scenario
abbrev pub asks_scenario : Option Asked → Bool
asks_scenario (Some asks.Replay) = true
asks_scenario (Some asks.Run) = true
asks_scenario asked = false

-- whether it reads a text
abbrev pub asks_text : Option Asked → Bool
asks_text (Some asks.Replay) = true
asks_text (Some asks.Run) = true
asks_text (Some asks.Measure) = true
asks_text asked = false

-- the words ask for what a number determines: its scenario or its drill
abbrev pub AsksFor : ℕ → List (List ℕ) → Type 0
AsksFor number words = (gen_number words ≡ Some number) ⊎ (drill_number words ≡ Some number)

-- whether the words are those of a command that reads a text, and needs no threads
abbrev pub takes_text : List (List ℕ) → Bool
takes_text words = is_replay words || is_measure words
