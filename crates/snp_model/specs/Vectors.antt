-- How test vectors are written: bytes, words and pages by a few numbers (this project's own).
use Rattle.std.specs.Prelude.{ℕ, ◌+◌, ◌*◌, ◌%◌, ◌^◌, List, map}
use Rattle.std.specs.Int.{bytes_high_first}
use Rattle.std.specs.List.{range_with_len}

-- so many bytes, as the hexadecimal number that begins with the first of them
abbrev pub bytes : ℕ → ℕ → List ℕ
bytes count number = bytes_high_first count number

-- the 512 words of a page, from a first word on, each greater than the last by a step, modulo 2^64
unfoldable pub rising_words : ℕ → ℕ → List ℕ
rising_words first step = map (λ index. (first + index * step) % 2 ^ 64) (range_with_len 0 512)
