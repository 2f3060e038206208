-- Which outcomes can belong to an item, and what an event then does with its guest's memory. This project's own.
use Rattle.std.specs.Prelude.{ℕ, ◌==◌, Bool, true, false, not, if◌then◌else◌, Option, Some, None}
use Rattle.snp_model.specs.declared.entry.PageSize.{PageSize}
use Rattle.snp_model.specs.declared.event.Deed.{Deed}
use Rattle.snp_model.specs.declared.event.Deed.TheVariants as deeds
use Rattle.snp_model.specs.declared.event.Event.{Event}
use Rattle.snp_model.specs.declared.event.Outcome.{Outcome}
use Rattle.snp_model.specs.declared.event.Outcome.TheVariants.{Loaded, Opaque, Stored, Swapped, Compared, Gp, Pf, Npf, Vc, Offline, Status, Carry, StatusInUse, Firmware, FirmwareInUse, BadTag, Next, Skipped}
use Rattle.snp_model.specs.declared.item.Item.{Item}
use Rattle.snp_model.specs.declared.item.Item.TheVariants as items
use Rattle.snp_model.specs.declared.item.Op.{Op}
use Rattle.snp_model.specs.declared.item.Op.TheVariants.{Load, Store, Swap, Compare, Xor}
use Rattle.snp_model.specs.GuestMemory.{Use, Untouched, use_of}
use Rattle.snp_model.specs.Verdicts.{same_size}

-- the operation of an access
abbrev pub op_of : Item → Option Op
op_of (items.Access address op) = Some op
op_of (items.Pvalidate address size validate) = None
op_of (items.Rmpadjust address size target mask vmsa) = None
op_of (items.Rmpupdate update) = None
op_of (items.Psmash frame) = None
op_of (items.Firmware command) = None
op_of (items.Skip count test) = None

-- the size that a PVALIDATE asks
abbrev pub asked_by : Item → Option PageSize
asked_by (items.Access address op) = None
asked_by (items.Pvalidate address size validate) = Some size
asked_by (items.Rmpadjust address size target mask vmsa) = None
asked_by (items.Rmpupdate update) = None
asked_by (items.Psmash frame) = None
asked_by (items.Firmware command) = None
asked_by (items.Skip count test) = None

-- operations, by the outcome that they have where the RMP lets them pass: a load,
abbrev pub is_load : Option Op → Bool
is_load None = false
is_load (Some Load) = true
is_load (Some (Store value)) = false
is_load (Some (Swap value)) = false
is_load (Some (Compare expected next)) = false
is_load (Some (Xor value)) = false

-- a store,
abbrev pub is_store : Option Op → Bool
is_store None = false
is_store (Some Load) = false
is_store (Some (Store value)) = true
is_store (Some (Swap value)) = false
is_store (Some (Compare expected next)) = false
is_store (Some (Xor value)) = false

-- one that gives the old word and always writes,
abbrev pub is_exchange : Option Op → Bool
is_exchange None = false
is_exchange (Some Load) = false
is_exchange (Some (Store value)) = false
is_exchange (Some (Swap value)) = true
is_exchange (Some (Compare expected next)) = false
is_exchange (Some (Xor value)) = true

-- and a compare that finds this word, and writes exactly where it is the expected one
abbrev pub is_compare : ℕ → Bool → Option Op → Bool
is_compare found written None = false
is_compare found written (Some Load) = false
is_compare found written (Some (Store value)) = false
is_compare found written (Some (Swap value)) = false
is_compare found written (Some (Compare expected next)) = if found == expected then written else not written
is_compare found written (Some (Xor value)) = false

-- whether a deed is a commit of a page of the size that is asked
abbrev pub is_commit : Option PageSize → Deed → Bool
is_commit None deed = false
is_commit (Some asked) deeds.Begin = false
is_commit (Some asked) (deeds.Nested frame index value) = false
is_commit (Some asked) (deeds.Table gpn index frame value) = false
is_commit (Some asked) (deeds.Access gpn index frame private) = false
is_commit (Some asked) (deeds.Host frame index) = false
is_commit (Some asked) (deeds.Lock frame) = false
is_commit (Some asked) (deeds.LockContext guest) = false
is_commit (Some asked) deeds.Compute = false
is_commit (Some asked) (deeds.Commit frame gpn size) = same_size size asked
is_commit (Some asked) (deeds.CommitContext guest) = false
is_commit (Some asked) deeds.Control = false

-- whether an outcome can belong to an item, at a deed: a word to an access that gives one, a carry flag to a PVALIDATE that commits a page of the asked size; of the others this isn't asked
abbrev pub can_belong : Outcome → Deed → Item → Bool
can_belong (Loaded found) deed item = is_load (op_of item)
can_belong Opaque deed item = true
can_belong Stored deed item = is_store (op_of item)
can_belong (Swapped found) deed item = is_exchange (op_of item)
can_belong (Compared found written) deed item = is_compare found written (op_of item)
can_belong Gp deed item = true
can_belong (Pf code) deed item = true
can_belong (Npf code) deed item = true
can_belong (Vc code) deed item = true
can_belong Offline deed item = true
can_belong (Status status) deed item = true
can_belong (Carry carry) deed item = is_commit (asked_by item) deed
can_belong (StatusInUse holder) deed item = true
can_belong (Firmware status) deed item = true
can_belong (FirmwareInUse holder) deed item = true
can_belong (BadTag found kept) deed item = true
can_belong Next deed item = true
can_belong (Skipped count) deed item = true

-- an event without an outcome has none that can't belong to its item
abbrev pub may_belong : Option Outcome → Deed → Item → Bool
may_belong None deed item = true
may_belong (Some outcome) deed item = can_belong outcome deed item

-- what an event does with the memory of its guest: what its kind does, where its outcome can belong to its item, and else nothing
unfoldable pub use_by : Event → Item → Use
use_by event item = if may_belong event.outcome event.deed item then use_of event.deed item event.outcome else Untouched
