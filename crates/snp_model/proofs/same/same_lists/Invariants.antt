-- the elements so far are the same
use Rattle.std.proofs.Common.{◌≡◌, take}
use Rattle.snp_model.proofs.same.same_lists.Given as goal

abbrev pub invariant-elements : goal.invariant-elements
invariant-elements g l = take l.k l.these ≡ take l.k l.those
