-- What an access does with a word (APM volume 3: MOV, XCHG, CMPXCHG, and the project's own exclusive or).
use Rattle.std.specs.Prelude.{ℕ, ◌==◌, Bool, true, false, bit_xor, if◌then◌else◌}
use Rattle.snp_model.specs.declared.item.Op.{Op}
use Rattle.snp_model.specs.declared.item.Op.TheVariants.{Load, Store, Swap, Compare, Xor}
use Rattle.snp_model.specs.declared.event.Outcome.{Outcome}
use Rattle.snp_model.specs.declared.event.Outcome.TheVariants.{Loaded, Stored, Swapped, Compared}

-- whether it reads
abbrev pub reads : Op → Bool
reads Load = true
reads (Store value) = false
reads (Swap value) = true
reads (Compare expected next) = true
reads (Xor value) = true

-- whether it writes
abbrev pub writes : Op → Bool
writes Load = false
writes (Store value) = true
writes (Swap value) = true
writes (Compare expected next) = true
writes (Xor value) = true

-- how it ends where the RMP lets it pass
abbrev pub outcome_of : Op → ℕ → Outcome
outcome_of Load word = Loaded word
outcome_of (Store value) word = Stored
outcome_of (Swap value) word = Swapped word
outcome_of (Compare expected next) word = Compared word (word == expected)
outcome_of (Xor value) word = Swapped word

-- the word after it
abbrev pub word_after : Op → ℕ → ℕ
word_after Load word = word
word_after (Store value) word = value
word_after (Swap value) word = value
word_after (Compare expected next) word = if word == expected then next else word
word_after (Xor value) word = bit_xor word value
