-- The table of page states, a row a state: what the fields of an entry are in it (after the SEV-SNP firmware ABI 56860, 5.2; an immutable entry of kind Plain without an ASID, which no run makes, counts as Firmware, and that is this project's own).
use Rattle.std.specs.Prelude.{◌≡◌, ◌≢◌, Bool, true, false}
use Rattle.snp_model.specs.declared.entry.Kind.TheVariants as kinds
use Rattle.snp_model.specs.declared.entry.RmpEntry.{RmpEntry}
use Rattle.snp_model.specs.declared.firmware.PageState.{PageState}
use Rattle.snp_model.specs.declared.firmware.PageState.TheVariants.{Hypervisor, PreGuest, PreSwap, GuestInvalid, GuestValid, Reclaim, Firmware, Context, Metadata}

-- a page that a guest owns, with these two fields
pub record IsGuestRow (facts : RmpEntry) (validated immutable : Bool) : Type 0 where
  pub is_assigned : facts.assigned ≡ true
  pub has_owner : facts.asid ≢ 0
  pub is_validated : facts.validated ≡ validated
  pub is_immutable : facts.immutable ≡ immutable

-- an assigned page that no guest owns, with this field
pub record IsOwnRow (facts : RmpEntry) (immutable : Bool) : Type 0 where
  pub is_assigned : facts.assigned ≡ true
  pub no_owner : facts.asid ≡ 0
  pub is_immutable : facts.immutable ≡ immutable

-- the fields of an entry are those of a state's row
abbrev pub IsInState : RmpEntry → PageState → Type 0
IsInState facts Hypervisor = facts.assigned ≡ false
IsInState facts PreGuest = IsGuestRow facts false true
IsInState facts PreSwap = IsGuestRow facts true true
IsInState facts GuestInvalid = IsGuestRow facts false false
IsInState facts GuestValid = IsGuestRow facts true false
IsInState facts Reclaim = IsOwnRow facts false
IsInState facts Firmware = IsOwnRow facts true × (facts.kind ≢ kinds.Context) × (facts.kind ≢ kinds.Metadata)
IsInState facts Context = IsOwnRow facts true × (facts.kind ≡ kinds.Context)
IsInState facts Metadata = IsOwnRow facts true × (facts.kind ≡ kinds.Metadata)
