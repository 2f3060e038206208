-- Keys that are written are read again.
use Rattle.std.proofs.Common.{◌≡◌, ℕ, true, List, length, subst, refl, arith}
use Rattle.std.specs.Prelude.{Ok, map, ◌==◌}
use Rattle.std.specs.List.{range_with_len}
use Rattle.std.proofs.lemmas.Bool.Decides.{nat_tests}
use Rattle.snp_model.specs.EventText.{hex_bytes}
use Rattle.snp_model.specs.Metadata.{AreBytes}
use Rattle.snp_model.specs.ScenarioLines.{key_byte, key_of}
use Rattle.script_text.proofs.HexWords.{bytes_again, bytes_hex, length-hex_bytes}

-- a key of 32 bytes
pub key_again : (key : List ℕ) → length key ≡ 32 → AreBytes key → key_of (hex_bytes key) ≡ Ok key
unfolding key_of
key_again key whole are =
    let count = length-hex_bytes key in
    let long : (length (hex_bytes key) == 64) ≡ true = grind (arith, nat_tests, count, whole) in
    let said : map (key_byte (hex_bytes key)) (range_with_len 0 32) ≡ key = subst (λ (n : ℕ). map (key_byte (hex_bytes key)) (range_with_len 0 n) ≡ key) whole (bytes_again key are) in
    rw (long, bytes_hex key are, said) refl
