-- The words of a line as pieces of its text.
use Rattle.std.specs.Prelude.{ℕ, nat_le, Bool, not, ◌&&◌, List, map}
use Rattle.std.specs.Borrow.{Bor}

-- what each piece points to
abbrev pub texts : List (Bor (List ℕ)) → List (List ℕ)
texts pieces = map (λ piece. piece.now) pieces

-- whether a byte is no part of a word: a space, or one that may not stand in a line
abbrev pub ends_word : ℕ → Bool
ends_word byte = not (nat_le 0x21 byte && nat_le byte 0x7e)
