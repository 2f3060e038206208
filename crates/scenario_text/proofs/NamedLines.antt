-- Lines that begin with a name are neither empty nor comments.
use Rattle.std.proofs.Common.{◌≡◌, ℕ, Bool, true, false, List, [], ◌∷◌, length, arith}
use Rattle.std.specs.Prelude.{◌==◌}
use Rattle.std.proofs.lemmas.Bool.Decides.{nat_tests}
use Rattle.snp_model.specs.Reading.{is_passed_over}

-- whether a line has no first byte, or one that begins a comment; 35 is `#`
abbrev pub is_unnamed : List ℕ → Bool
is_unnamed [] = true
is_unnamed (byte ∷ bytes) = byte == 35

pub named : (line : List ℕ) → is_unnamed line ≡ false → is_passed_over line ≡ false
named [] is = absurd (cc)
named (byte ∷ bytes) is = let some : (length (byte ∷ bytes) == 0) ≡ false = grind (arith, nat_tests) in rw some is
