-- Why a text is refused that ends too early. This project's own.
use Rattle.std.specs.Prelude.{ℕ, List, [], ◌∷◌}
use Rattle.snp_model.specs.declared.reading.Reason.{Reason}
use Rattle.snp_model.specs.declared.reading.Reason.TheVariants.{Cut, End}

-- a rest behind the last line feed: `cut` where there are bytes in it, else `end`
abbrev pub reason_of_rest : List ℕ → Reason
reason_of_rest [] = End
reason_of_rest (byte ∷ bytes) = Cut

-- by the parts of a text between its line feeds, of which the last counts
unfoldable pub reason_of : List (List ℕ) → Reason
reason_of [] = End
reason_of (part ∷ []) = reason_of_rest part
reason_of (part ∷ other ∷ parts) = reason_of (other ∷ parts)
