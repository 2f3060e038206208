-- What the facts of a page are in a state that a command asks for.
use Rattle.std.proofs.Common.{◌≡◌, ◌≢◌, Bool, true, false, not, cond, eqb, ◌||◌, refl}
use Rattle.std.proofs.lemmas.Bool.{eqb-true, eqb-false}
use Rattle.snp_model.specs.declared.entry.Kind.{Kind}
use Rattle.snp_model.specs.declared.entry.Kind.TheVariants as kinds
use Rattle.snp_model.specs.declared.entry.RmpEntry.{RmpEntry}
use Rattle.snp_model.specs.declared.firmware.PageState.{PageState}
use Rattle.snp_model.specs.declared.firmware.PageState.TheVariants as states
use Rattle.snp_model.specs.PageStates.{firmware_state, state_of, is_hypervisor, is_pre_guest, is_pre_swap, is_firmware, is_metadata}

-- the state by what the table asks: whether the page is assigned, without a guest, immutable and validated, and its kind
abbrev state_by : (assigned none immutable validated : Bool) → Kind → PageState
state_by assigned none immutable validated kind =
    cond (not assigned) states.Hypervisor
    (cond none (cond immutable (firmware_state kind) states.Reclaim)
    (cond immutable (cond validated states.PreSwap states.PreGuest) (cond validated states.GuestValid states.GuestInvalid)))

by_facts : (facts : RmpEntry) → state_of facts ≡ state_by facts.assigned (eqb facts.asid 0) facts.immutable facts.validated facts.kind
unfolding state_of
by_facts facts = refl

-- Hypervisor
hypervisor_by : (assigned none immutable validated : Bool) (kind : Kind) → is_hypervisor (state_by assigned none immutable validated kind) ≡ true
    → assigned ≡ false
hypervisor_by false none immutable validated kind is = refl
hypervisor_by true true true validated kinds.Plain is = absurd (cc)
hypervisor_by true true true validated kinds.Firmware is = absurd (cc)
hypervisor_by true true true validated kinds.Context is = absurd (cc)
hypervisor_by true true true validated kinds.Metadata is = absurd (cc)
hypervisor_by true true false validated kind is = absurd (cc)
hypervisor_by true false true true kind is = absurd (cc)
hypervisor_by true false true false kind is = absurd (cc)
hypervisor_by true false false true kind is = absurd (cc)
hypervisor_by true false false false kind is = absurd (cc)

pub hypervisor_facts : (facts : RmpEntry) → is_hypervisor (state_of facts) ≡ true → facts.assigned ≡ false
unfolding state_of
hypervisor_facts facts is = hypervisor_by facts.assigned (eqb facts.asid 0) facts.immutable facts.validated facts.kind is

-- Metadata
metadata_by : (assigned none immutable validated : Bool) (kind : Kind) → is_metadata (state_by assigned none immutable validated kind) ≡ true
    → (assigned ≡ true) × (none ≡ true) × (immutable ≡ true) × (kind ≡ kinds.Metadata)
metadata_by false none immutable validated kind is = absurd (cc)
metadata_by true true true validated kinds.Plain is = absurd (cc)
metadata_by true true true validated kinds.Firmware is = absurd (cc)
metadata_by true true true validated kinds.Context is = absurd (cc)
metadata_by true true true validated kinds.Metadata is = (refl, refl, refl, refl)
metadata_by true true false validated kind is = absurd (cc)
metadata_by true false true true kind is = absurd (cc)
metadata_by true false true false kind is = absurd (cc)
metadata_by true false false true kind is = absurd (cc)
metadata_by true false false false kind is = absurd (cc)

-- a page of the firmware
pub record IsOfFirmware (facts : RmpEntry) : Type 0 where
  pub assigned : facts.assigned ≡ true
  pub no_guest : facts.asid ≡ 0
  pub immutable : facts.immutable ≡ true

-- one of metadata
pub record IsOfMetadata (facts : RmpEntry) : Type 0 where
  pub firmwares : IsOfFirmware facts
  pub kind_is : facts.kind ≡ kinds.Metadata

pub metadata_facts : (facts : RmpEntry) → is_metadata (state_of facts) ≡ true → IsOfMetadata facts
unfolding state_of
metadata_facts facts is =
    let by = metadata_by facts.assigned (eqb facts.asid 0) facts.immutable facts.validated facts.kind is in
    record { firmwares = record { assigned = by.0; no_guest = eqb-true facts.asid 0 by.1; immutable = by.2 }; kind_is = by.3 }

-- Firmware
firmware_by : (assigned none immutable validated : Bool) (kind : Kind) → is_firmware (state_by assigned none immutable validated kind) ≡ true
    → (assigned ≡ true) × (none ≡ true) × (immutable ≡ true)
firmware_by false none immutable validated kind is = absurd (cc)
firmware_by true true true validated kinds.Plain is = (refl, refl, refl)
firmware_by true true true validated kinds.Firmware is = (refl, refl, refl)
firmware_by true true true validated kinds.Context is = absurd (cc)
firmware_by true true true validated kinds.Metadata is = absurd (cc)
firmware_by true true false validated kind is = absurd (cc)
firmware_by true false true true kind is = absurd (cc)
firmware_by true false true false kind is = absurd (cc)
firmware_by true false false true kind is = absurd (cc)
firmware_by true false false false kind is = absurd (cc)

pub firmware_facts : (facts : RmpEntry) → is_firmware (state_of facts) ≡ true → IsOfFirmware facts
unfolding state_of
firmware_facts facts is =
    let by = firmware_by facts.assigned (eqb facts.asid 0) facts.immutable facts.validated facts.kind is in
    record { assigned = by.0; no_guest = eqb-true facts.asid 0 by.1; immutable = by.2 }

-- Pre-Guest and Pre-Swap
pre_by : (assigned none immutable validated : Bool) (kind : Kind) → (is_pre_swap (state_by assigned none immutable validated kind) || is_pre_guest (state_by assigned none immutable validated kind)) ≡ true
    → (assigned ≡ true) × (none ≡ false) × (immutable ≡ true)
pre_by false none immutable validated kind is = absurd (cc)
pre_by true true true validated kinds.Plain is = absurd (cc)
pre_by true true true validated kinds.Firmware is = absurd (cc)
pre_by true true true validated kinds.Context is = absurd (cc)
pre_by true true true validated kinds.Metadata is = absurd (cc)
pre_by true true false validated kind is = absurd (cc)
pre_by true false true true kind is = (refl, refl, refl)
pre_by true false true false kind is = (refl, refl, refl)
pre_by true false false true kind is = absurd (cc)
pre_by true false false false kind is = absurd (cc)

-- a page of a guest that the firmware keeps from it
pub record IsKeptFrom (facts : RmpEntry) : Type 0 where
  pub assigned : facts.assigned ≡ true
  pub of_guest : facts.asid ≢ 0
  pub immutable : facts.immutable ≡ true

pub pre_facts : (facts : RmpEntry) → (is_pre_swap (state_of facts) || is_pre_guest (state_of facts)) ≡ true → IsKeptFrom facts
unfolding state_of
pre_facts facts is =
    let by = pre_by facts.assigned (eqb facts.asid 0) facts.immutable facts.validated facts.kind is in
    record { assigned = by.0; of_guest = eqb-false facts.asid 0 by.1; immutable = by.2 }

-- Pre-Guest alone
pre_guest_by : (assigned none immutable validated : Bool) (kind : Kind) → is_pre_guest (state_by assigned none immutable validated kind) ≡ true
    → (assigned ≡ true) × (none ≡ false) × (immutable ≡ true) × (validated ≡ false)
pre_guest_by false none immutable validated kind is = absurd (cc)
pre_guest_by true true true validated kinds.Plain is = absurd (cc)
pre_guest_by true true true validated kinds.Firmware is = absurd (cc)
pre_guest_by true true true validated kinds.Context is = absurd (cc)
pre_guest_by true true true validated kinds.Metadata is = absurd (cc)
pre_guest_by true true false validated kind is = absurd (cc)
pre_guest_by true false true true kind is = absurd (cc)
pre_guest_by true false true false kind is = (refl, refl, refl, refl)
pre_guest_by true false false true kind is = absurd (cc)
pre_guest_by true false false false kind is = absurd (cc)

-- such a page that isn't validated
pub record IsUnused (facts : RmpEntry) : Type 0 where
  pub kept_from : IsKeptFrom facts
  pub unvalidated : facts.validated ≡ false

pub pre_guest_facts : (facts : RmpEntry) → is_pre_guest (state_of facts) ≡ true → IsUnused facts
unfolding state_of
pre_guest_facts facts is =
    let by = pre_guest_by facts.assigned (eqb facts.asid 0) facts.immutable facts.validated facts.kind is in
    record { kept_from = record { assigned = by.0; of_guest = eqb-false facts.asid 0 by.1; immutable = by.2 }; unvalidated = by.3 }

-- Pre-Swap alone
pre_swap_by : (assigned none immutable validated : Bool) (kind : Kind) → is_pre_swap (state_by assigned none immutable validated kind) ≡ true
    → (assigned ≡ true) × (none ≡ false) × (immutable ≡ true)
pre_swap_by false none immutable validated kind is = absurd (cc)
pre_swap_by true true true validated kinds.Plain is = absurd (cc)
pre_swap_by true true true validated kinds.Firmware is = absurd (cc)
pre_swap_by true true true validated kinds.Context is = absurd (cc)
pre_swap_by true true true validated kinds.Metadata is = absurd (cc)
pre_swap_by true true false validated kind is = absurd (cc)
pre_swap_by true false true true kind is = (refl, refl, refl)
pre_swap_by true false true false kind is = absurd (cc)
pre_swap_by true false false true kind is = absurd (cc)
pre_swap_by true false false false kind is = absurd (cc)

pub pre_swap_facts : (facts : RmpEntry) → is_pre_swap (state_of facts) ≡ true → IsKeptFrom facts
unfolding state_of
pre_swap_facts facts is =
    let by = pre_swap_by facts.assigned (eqb facts.asid 0) facts.immutable facts.validated facts.kind is in
    record { assigned = by.0; of_guest = eqb-false facts.asid 0 by.1; immutable = by.2 }
