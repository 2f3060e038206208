-- A word of a guest's table that a walk has read, and the check that lets it through. This project's own; the check is that of APM volume 2, 15.36.10.
use Rattle.std.specs.Prelude.{◌≡◌, ℕ}
use Rattle.snp_model.specs.declared.access.Verdict.TheVariants.{Pass}
use Rattle.snp_model.specs.declared.entry.PageSize.{PageSize}
use Rattle.snp_model.specs.declared.item.Op.TheVariants.{Load}
use Rattle.snp_model.specs.Moves.{table_place}
use Rattle.snp_model.specs.Opening.{asid_of}
use Rattle.snp_model.specs.State.{State, word_of}
use Rattle.snp_model.specs.Verdicts.{private_verdict}

-- a word of a table of a guest, at an index of the page of this number, in a frame: by the frame's entry in this very state, a private load of the guest at this VMPL passes there, under a nested leaf of some size, and this is the word that stands there
pub record IsChecked (m : State) (guest vmpl gpn index frame value : ℕ) : Type 0 where
  pub leaf : PageSize
  pub passes : private_verdict (m.contents.pages frame).facts (table_place (asid_of m.guests guest) vmpl gpn index frame leaf) Load ≡ Pass
  pub word : value ≡ word_of (m.contents.pages frame) index
