-- The lines that end a report. This project's own.
use Rattle.std.specs.Prelude.{ℕ, ◌+◌, ◌-◌, ◌==◌, Bool, false, ◌&&◌, ◌||◌, if◌then◌else◌, List, [], ◌∷◌, ◌++◌, length, take, slice_get, slice_set, Option, Some, None, Result, Ok, Err, codes, bytes_eq}
use Rattle.std.specs.List.{list_all}
use Rattle.snp_model.specs.declared.reading.Reason.{Reason}
use Rattle.snp_model.specs.Lines.{words_of, word, is_plain, is_row, is_hex_digit, decimal}
use Rattle.snp_model.specs.Report.{run_text}

-- the runs of events, with one more event of an actor
abbrev pub runs_after : List (ℕ × ℕ) → ℕ → Option (ℕ × ℕ) → List (ℕ × ℕ)
runs_after runs actor None = runs ++ (actor, 1) ∷ []
runs_after runs actor (Some last) = if last.0 == actor then slice_set runs (length runs - 1) (last.0, last.1 + 1) else runs ++ (actor, 1) ∷ []

unfoldable pub runs_with : List (ℕ × ℕ) → ℕ → List (ℕ × ℕ)
runs_with runs actor = runs_after runs actor (slice_get runs (length runs - 1))

-- the words of an order line
unfoldable pub runs_text : List (ℕ × ℕ) → List ℕ
runs_text [] = []
runs_text (run ∷ runs) = run_text run ++ runs_text runs

-- the first order line of some runs, which are not none
unfoldable pub order_line : List (ℕ × ℕ) → List ℕ
order_line runs = codes "order" ++ runs_text (take 16 runs)

-- the words of a guest line
abbrev pub is_number : ℕ → Result ℕ Reason → Bool
is_number guest (Ok n) = n == guest
is_number guest (Err reason) = false

abbrev pub is_state : List ℕ → Bool
is_state w = bytes_eq w (codes "absent") || bytes_eq w (codes "init") || bytes_eq w (codes "launching") || bytes_eq w (codes "running")

abbrev pub is_digest : List ℕ → Bool
is_digest w = bytes_eq w (codes "-") || ((length w == 96) && list_all is_hex_digit w)

unfoldable pub is_guest_row : ℕ → List (List ℕ) → Bool
is_guest_row guest ws = is_row ws (codes "guest") 4 && is_number guest (decimal (word ws 1)) && is_state (word ws 2) && is_digest (word ws 3)

-- whether a line has the form of the line of a guest, with any state and any digest
unfoldable pub is_guest_line : ℕ → List ℕ → Bool
is_guest_line guest line = is_plain line && is_guest_row guest (words_of line)
