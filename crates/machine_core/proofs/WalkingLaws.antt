-- What an access needs where its walks stand.
use Rattle.std.proofs.Common.{◌≡◌, ℕ, Bool, None, Some, List, [], refl, sym, subst}
use Rattle.snp_model.specs.declared.entry.PageSize.{PageSize}
use Rattle.snp_model.specs.declared.event.Outcome.TheVariants.{Pf}
use Rattle.snp_model.specs.declared.walk.GuestEnd.TheVariants as guest_ends
use Rattle.snp_model.specs.declared.walk.NestedEnd.{NestedEnd}
use Rattle.snp_model.specs.declared.walk.NestedEnd.TheVariants as ends
use Rattle.snp_model.specs.declared.walk.Need.{Need}
use Rattle.snp_model.specs.declared.walk.Need.TheVariants as needs
use Rattle.snp_model.specs.NestedWalk.{walk_from, nested_end}
use Rattle.snp_model.specs.declared.walk.Lookup.{Lookup}
use Rattle.snp_model.specs.Walking.{table_path, data_path, table_need, data_need, walk_need, fault_of}
use Rattle.nested_walk.specs.Entry.{IsRead}
use Rattle.machine_core.specs.Walks.{IsReading}

-- a final nested walk that has read no word has come to no fault
pub no_fault_yet : (frames npt : ℕ) (lookup : Lookup) (gpn : ℕ) (private : Bool) (size : PageSize) → None ≡ fault_of (walk_need frames npt lookup (guest_ends.Leaf gpn private size) [])
unfolding walk_need walk_from
no_fault_yet frames npt lookup gpn private size = refl

-- nor has that of a guest table
pub no_fault_read : (frames npt : ℕ) (lookup : Lookup) (gpn index : ℕ) → None ≡ fault_of (walk_need frames npt lookup (guest_ends.Read gpn index) [])
unfolding walk_need walk_from
no_fault_read frames npt lookup gpn index = refl

-- a guest walk's fault is the access's
pub fault_walked : (frames npt : ℕ) (lookup : Lookup) (code : ℕ) → Some (Pf code) ≡ fault_of (walk_need frames npt lookup (guest_ends.Fault code) [])
unfolding walk_need
fault_walked frames npt lookup code = refl

-- where a word of a nested table is needed, the nested walk under way stands at a read
table_reads : (gpn index : ℕ) (stands : NestedEnd) → IsReading (table_need gpn index stands) → IsRead stands
table_reads gpn index (ends.Read f i) r = tt
table_reads gpn index (ends.Leaf f s) r = absurd r
table_reads gpn index (ends.Fault c) r = absurd r

data_reads : (gpn : ℕ) (private : Bool) (stands : NestedEnd) → IsReading (data_need gpn private stands) → IsRead stands
data_reads gpn private (ends.Read f i) r = tt
data_reads gpn private (ends.Leaf f s) r = absurd r
data_reads gpn private (ends.Fault c) r = absurd r

pub reads_table : (frames npt : ℕ) (lookup : Lookup) (gpn index : ℕ) (words : List ℕ) → IsReading (walk_need frames npt lookup (guest_ends.Read gpn index) words) → IsRead (nested_end (table_path frames npt gpn) words)
unfolding walk_need
reads_table frames npt lookup gpn index words r = table_reads gpn index _ r

pub reads_data : (frames npt : ℕ) (lookup : Lookup) (gpn : ℕ) (private : Bool) (size : PageSize) (words : List ℕ) → IsReading (walk_need frames npt lookup (guest_ends.Leaf gpn private size) words) → IsRead (nested_end (data_path frames npt gpn private lookup) words)
unfolding walk_need
reads_data frames npt lookup gpn private size words r = data_reads gpn private _ r

pub is_reading : (frame index : ℕ) (need other : Need) → need ≡ needs.Nested frame index → need ≡ other → IsReading other
is_reading frame index need other is same = let P : Need → Type 0 = λ n. IsReading n in subst P same (subst P (sym is) tt)
