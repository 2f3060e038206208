-- What the RMP says to an access (APM volume 2, 15.36.10): one case for each row of the tables in docs/MODEL.md, the first that applies.
use Rattle.std.specs.Prelude.{ℕ, ◌/◌, ◌%◌, ◌==◌, Bool, true, false, not, ◌&&◌, ◌||◌, if◌then◌else◌, slice_index}
use Rattle.snp_model.specs.declared.entry.RmpEntry.{RmpEntry}
use Rattle.snp_model.specs.declared.entry.PageSize.{PageSize}
use Rattle.snp_model.specs.declared.entry.PageSize.TheVariants.{Small, Large}
use Rattle.snp_model.specs.declared.access.Place.{Place}
use Rattle.snp_model.specs.declared.access.Verdict.{Verdict}
use Rattle.snp_model.specs.declared.access.Verdict.TheVariants.{Pass, Hidden, Fault}
use Rattle.snp_model.specs.declared.item.Op.{Op}
use Rattle.snp_model.specs.declared.event.Outcome.TheVariants.{Pf, Npf, Vc}
use Rattle.snp_model.specs.Faults.{code_of}
use Rattle.snp_model.specs.Operations.{reads, writes}

-- whether a page is of 2 MB
abbrev pub is_large : PageSize → Bool
is_large Small = false
is_large Large = true

-- whether two sizes are the same
abbrev pub same_size : PageSize → PageSize → Bool
same_size Small size = not (is_large size)
same_size Large size = is_large size

-- whether permissions lack what an operation needs: bit 0 to read, bit 1 to write
abbrev pub lacks : ℕ → Op → Bool
lacks permissions op =
    (reads op && (permissions % 2 == 0)) || (writes op && (permissions / 2 % 2 == 0))

-- a private access is refused by the RMP, by the VMPL's permissions or before
abbrev pub private_refusal : Place → Op → Bool → Verdict
private_refusal place op by_permissions =
    Fault (Npf (code_of (record { present = true; write = writes op; rmp = true; table = place.table; private = true; size = false; vmpl = by_permissions })))

-- a private access of a guest to a frame with these facts
unfoldable pub private_verdict : RmpEntry → Place → Op → Verdict
private_verdict facts place op =
    if not facts.assigned || not (facts.asid == place.asid) then private_refusal place op false
    else if not (facts.gpn == place.gpn) then private_refusal place op false
    else if facts.immutable then private_refusal place op false
    else if is_large place.leaf && not (is_large facts.size) then private_refusal place op false
    else if not facts.validated then Fault (Vc 0x404)
    else if lacks (slice_index facts.perms place.vmpl) op then private_refusal place op true
    else Pass

-- a shared access of a guest to such a frame
unfoldable pub shared_verdict : RmpEntry → Place → Op → Verdict
shared_verdict facts place op =
    if facts.assigned && writes op then Fault (Npf (code_of (record { present = true; write = true; rmp = true; table = place.table; private = false; size = false; vmpl = false })))
    else if facts.assigned then Hidden
    else Pass

-- an access of the hypervisor to such a frame
unfoldable pub host_verdict : RmpEntry → Op → Verdict
host_verdict facts op =
    if facts.assigned && writes op then Fault (Pf 0x80000003)
    else if facts.assigned then Hidden
    else Pass
