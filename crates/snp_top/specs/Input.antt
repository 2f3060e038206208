-- Which bytes the reading of a text takes, and what refuses it. This project's own.
use Rattle.std.specs.Prelude.{◌≡◌, ℕ, ◌+◌, ◌≤◌, List, length, Option}
use Rattle.snp_model.specs.declared.reading.Quantity.TheVariants.{Bytes}
use Rattle.snp_model.specs.Limits.{most}
use Rattle.snp_model.specs.Outside.{Rose, Takes}
use Rattle.snp_top.specs.declared.fault.CommandFault.{CommandFault}
use Rattle.snp_top.specs.declared.fault.CommandFault.TheVariants.{Read, Limit, Memory}

-- of what was left a front was taken, of at most so many bytes
abbrev pub TakesAtMost : ℕ → Option (List ℕ) → Option (List ℕ) → Type 0
TakesAtMost count left now = (bytes : List ℕ) × (length bytes ≤ count) × Takes left now bytes

-- a front was taken, of exactly so many bytes
abbrev pub TakesExactly : ℕ → Option (List ℕ) → Option (List ℕ) → Type 0
TakesExactly count left now = (bytes : List ℕ) × (length bytes ≡ count) × Takes left now bytes

-- the source failed while there was room for more; or it gave one byte more than a text may have; want of memory is free
abbrev pub HasInputCause : Option (List ℕ) → Option (List ℕ) → ℕ → ℕ → CommandFault → Type 0
HasInputCause left now before after Read = TakesAtMost (most Bytes) left now × Rose before after
HasInputCause left now before after (Limit quantity count) = TakesExactly (most Bytes + 1) left now × (quantity ≡ Bytes) × (count ≡ most Bytes + 1)
HasInputCause left now before after Memory = Unit {0}
HasInputCause left now before after fault = ⊥
