-- What a private access needs in order to pass (APM volume 2, 15.36.10): every row of its table at once.
use Rattle.std.specs.Prelude.{◌≡◌, true, false, not, ◌&&◌, slice_index}
use Rattle.snp_model.specs.declared.entry.RmpEntry.{RmpEntry}
use Rattle.snp_model.specs.declared.access.Place.{Place}
use Rattle.snp_model.specs.declared.item.Op.{Op}
use Rattle.snp_model.specs.Verdicts.{is_large, lacks}

-- the frame is the guest's own, validated at this guest page number, in no smaller a page than the nested leaf, and open to the VMPL
pub record IsAllowed (facts : RmpEntry) (place : Place) (op : Op) : Type 0 where
  pub is_assigned : facts.assigned ≡ true
  pub same_asid : facts.asid ≡ place.asid
  pub same_gpn : facts.gpn ≡ place.gpn
  pub is_mutable : facts.immutable ≡ false
  pub leaf_fits : (is_large place.leaf && not (is_large facts.size)) ≡ false
  pub is_validated : facts.validated ≡ true
  pub is_permitted : lacks (slice_index facts.perms place.vmpl) op ≡ false
