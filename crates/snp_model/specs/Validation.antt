-- PVALIDATE and RMPADJUST (APM volume 2, 15.36; volume 3). Statuses: 1 FAIL_INPUT, 2 FAIL_PERMISSION, 3 FAIL_INUSE (this project's own here), 6 FAIL_SIZEMISMATCH. Which test comes first and the exact conditions are this project's own.
-- Facts and holder are those of the frame that the walk came to. An actor that asks for a lock holds none there, so a holder found there is another actor.
use Rattle.std.specs.Prelude.{ℕ, ◌%◌, ◌==◌, nat_lt, nat_le, Bool, true, false, not, ◌&&◌, ◌||◌, bit_and, if◌then◌else◌, slice_index, slice_set, Option, Some, None}
use Rattle.std.specs.Option.{option_or}
use Rattle.snp_model.specs.declared.access.Place.{Place}
use Rattle.snp_model.specs.declared.entry.PageSize.{PageSize}
use Rattle.snp_model.specs.declared.entry.RmpEntry.{RmpEntry}
use Rattle.snp_model.specs.declared.event.Refusal.{Refusal}
use Rattle.snp_model.specs.declared.event.Refusal.TheVariants.{Status, Npf, Vc}
use Rattle.snp_model.specs.Faults.{code_of}
use Rattle.snp_model.specs.Locks.{over_lock}
use Rattle.snp_model.specs.RmpUpdate.{in_use_or}
use Rattle.snp_model.specs.State.{Page, Pages, PageLock}
use Rattle.snp_model.specs.Verdicts.{is_large}

-- the nested fault of either instruction, with SIZEM where the sizes don't fit: the final translation is a private read
abbrev pub validation_fault : Bool → Refusal
validation_fault sizes = Npf (code_of (record { present = true; write = false; rmp = true; table = false; private = true; size = sizes; vmpl = false }))

-- PVALIDATE

-- the refusal of the first row that applies, as the lock is asked for with this size
unfoldable pub validate_refusal : Place → PageSize → RmpEntry → Option ℕ → Option Refusal
validate_refusal at size facts holder =
    if is_large size && not (at.gpn % 512 == 0) then Some (Status 1)
    else in_use_or holder (
    if not facts.assigned || not (facts.asid == at.asid) || not (facts.gpn == at.gpn) || facts.immutable then Some (validation_fault false)
    else if not (is_large size) && (is_large facts.size || is_large at.leaf) then Some (validation_fault true)
    else if is_large size && not (is_large facts.size) then Some (Status 6)
    else None)

-- the carry flag: Validated is as asked already
abbrev pub carry : Bool → RmpEntry → Bool
carry validate facts = if validate then facts.validated else not facts.validated

-- the facts of a frame of the page after the commit, by those of the walk's frame: nothing changes where the carry flag is 1
unfoldable pub validated_facts : Bool → RmpEntry → RmpEntry → RmpEntry
validated_facts validate own facts =
    if carry validate own then facts
    else record facts { validated = validate }

-- a frame after the commit
abbrev pub validated_page : Bool → RmpEntry → Page → Page
validated_page validate own page = record page { facts = validated_facts validate own page.facts }

-- memory after the commit: the whole page changes
unfoldable pub pages_validated : Bool → RmpEntry → PageLock → Pages → Pages
pages_validated validate own lock pages = over_lock lock (validated_page validate own) pages

-- RMPADJUST

-- the status of what is tested before the walk: no such VMPL or permissions; the target is not greater than the actor's VMPL
unfoldable pub adjust_input : ℕ → ℕ → ℕ → Option ℕ
adjust_input vmpl target mask =
    if nat_lt 3 target || nat_lt 15 mask then Some 1
    else if nat_le target vmpl then Some 2
    else None

-- whether a mask has a permission that others lack
abbrev pub exceeds : ℕ → ℕ → Bool
exceeds mask permissions = not (bit_and mask permissions == mask)

-- the rows that follow those of PVALIDATE: the page is not validated; the mask has what the actor's own permissions lack; VMSA outside VMPL0
unfoldable pub adjust_further : Place → ℕ → Bool → RmpEntry → Option Refusal
adjust_further at mask vmsa facts =
    if not facts.validated then Some (Vc 0x404)
    else if exceeds mask (slice_index facts.perms at.vmpl) then Some (Status 2)
    else if vmsa && not (at.vmpl == 0) then Some (Status 2)
    else None

-- the refusal of the first row that applies, as the lock is asked for with this size
unfoldable pub adjust_refusal : Place → PageSize → ℕ → Bool → RmpEntry → Option ℕ → Option Refusal
adjust_refusal at size mask vmsa facts holder = option_or (validate_refusal at size facts holder) (adjust_further at mask vmsa facts)

-- the facts of a frame of the page after the commit: the target's permissions are the mask, and VMPL0 sets VMSA
unfoldable pub adjusted_facts : ℕ → ℕ → ℕ → Bool → RmpEntry → RmpEntry
adjusted_facts vmpl target mask vmsa facts =
    record facts { perms = slice_set facts.perms target mask; vmsa = if vmpl == 0 then vmsa else facts.vmsa }

-- a frame after the commit
abbrev pub adjusted_page : ℕ → ℕ → ℕ → Bool → Page → Page
adjusted_page vmpl target mask vmsa page = record page { facts = adjusted_facts vmpl target mask vmsa page.facts }

-- memory after the commit: the whole page changes
unfoldable pub pages_adjusted : ℕ → ℕ → ℕ → Bool → PageLock → Pages → Pages
pages_adjusted vmpl target mask vmsa lock pages = over_lock lock (adjusted_page vmpl target mask vmsa) pages
