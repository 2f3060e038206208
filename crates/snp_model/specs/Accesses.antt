-- One data access with its RMP check (APM volume 2, 15.36.10): what it answers, and what it leaves of a region's words.
use Rattle.std.specs.Prelude.{ℕ, ◌<◌, ◌^◌, List, if◌then◌else◌}
use Rattle.snp_model.specs.declared.entry.RmpEntry.{RmpEntry}
use Rattle.snp_model.specs.declared.access.Place.{Place}
use Rattle.snp_model.specs.declared.access.Verdict.{Verdict}
use Rattle.snp_model.specs.declared.access.Verdict.TheVariants.{Pass, Hidden, Fault}
use Rattle.snp_model.specs.declared.item.Op.{Op}
use Rattle.snp_model.specs.declared.event.Outcome.{Outcome}
use Rattle.snp_model.specs.declared.event.Outcome.TheVariants.{Opaque}
use Rattle.snp_model.specs.Operations.{writes, outcome_of, word_after}
use Rattle.snp_model.specs.RegionWords.{word_at, word_set}
use Rattle.snp_model.specs.Verdicts.{private_verdict, shared_verdict}

-- the numbers of a place are in range
pub record IsPlace (place : Place) : Type 0 where
  pub gpn_below : place.gpn < 2 ^ 36
  pub slot_below : place.slot < 512
  pub index_below : place.index < 512
  pub vmpl_below : place.vmpl < 4

-- the verdict on a guest's access, private or shared
abbrev pub guest_verdict : RmpEntry → Place → Op → Verdict
guest_verdict facts place op =
    if place.private then private_verdict facts place op else shared_verdict facts place op

-- the outcome of an access with this verdict to a word
abbrev pub answer_by : Verdict → Op → ℕ → Outcome
answer_by Pass op word = outcome_of op word
answer_by Hidden op word = Opaque
answer_by (Fault outcome) op word = outcome

-- the words of a region after an operation on one of them
abbrev pub words_after : Op → List (List ℕ) → ℕ → ℕ → List (List ℕ)
words_after op pages page index =
    if writes op then word_set pages page index (word_after op (word_at pages page index)) else pages

-- the words once an access with this verdict to one of them was made
abbrev pub memory_by : Verdict → Op → List (List ℕ) → ℕ → ℕ → List (List ℕ)
memory_by Pass op pages page index = words_after op pages page index
memory_by Hidden op pages page index = pages
memory_by (Fault outcome) op pages page index = pages
