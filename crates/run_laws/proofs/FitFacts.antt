-- Each change of a frame's facts keeps them together, where its tests passed.
use Rattle.std.proofs.Common.{◌≡◌, ◌≢◌, ℕ, zero, suc, ◌%◌, ◌^◌, ◌<◌, Bool, true, false, not, cond, eqb, List, [], ◌∷◌, set, refl, sym, ap, ◌∙◌, arith}
use Rattle.std.specs.List.{AllByRecursion}
use Rattle.std.proofs.lemmas.Bool.{cond_both, eqb-true, true≢false}
use Rattle.std.proofs.lemmas.List.{length-set}
use Rattle.snp_model.specs.declared.entry.Kind.{Kind}
use Rattle.snp_model.specs.declared.entry.Kind.TheVariants as kinds
use Rattle.snp_model.specs.declared.entry.RmpEntry.{RmpEntry}
use Rattle.snp_model.specs.declared.firmware.MetaEntry.{MetaEntry}
use Rattle.snp_model.specs.declared.item.Update.{Update}
use Rattle.snp_model.specs.Bounds.{IsUpdate, IsLaunchedWith}
use Rattle.snp_model.specs.Facts.{free_entry}
use Rattle.snp_model.specs.FirmwareCommits.{context_facts, launched_facts, metadata_facts, taken_facts, reclaim_facts, restored_facts, metadata_out_facts, given_back_facts}
use Rattle.snp_model.specs.Metadata.{AreBytes, IsMetaEntry}
use Rattle.snp_model.specs.RmpUpdate.{makes_immutable, immutable_kind, assigned_facts, updated_facts, smashed_facts}
use Rattle.snp_model.specs.Validation.{carry, validated_facts, adjusted_facts}
use Rattle.snp_model.specs.Verdicts.{is_large}
use Rattle.snp_model.proofs.PageBytesLaws.{are_zeros}
use Rattle.run_laws.specs.Shapes.{IsFirmwares, AreFactsOf}
use Rattle.run_laws.proofs.StateFacts.{IsOfFirmware, IsKeptFrom}
use Rattle.run_laws.proofs.UpdateLaws.{IsUpdatable}

-- four permissions
byte_first : (p : ℕ) (perms : List ℕ) → p < 2 ^ 8 → AreBytes perms → AreBytes (p ∷ perms)
byte_first p perms small are zero = small
byte_first p perms small are (suc i) = are i

no_bytes : AreBytes []
no_bytes i = omega arith

first_of_four : (p : ℕ) → p < 2 ^ 8 → AreBytes (p ∷ 0 ∷ 0 ∷ 0 ∷ [])
first_of_four p small = byte_first p (0 ∷ 0 ∷ 0 ∷ []) small (are_zeros 3)

perms_below : (perms : List ℕ) → AllByRecursion (λ p. p < 16) perms → AreBytes perms
perms_below [] all = no_bytes
perms_below (p ∷ perms) all = byte_first p perms (let low = all.0 in omega arith) (perms_below perms all.1)

perms_set : (perms : List ℕ) (at mask : ℕ) → mask < 2 ^ 8 → AreBytes perms → AreBytes (set perms at mask)
perms_set [] at mask small are = are
perms_set (p ∷ perms) zero mask small are = byte_first mask perms small (λ i. are (suc i))
perms_set (p ∷ perms) (suc at) mask small are = byte_first p (set perms at mask) (are 0) (perms_set perms at mask small (λ i. are (suc i)))

-- a frame that a guest has is of kind Plain
guest_plain : (facts : RmpEntry) → AreFactsOf facts → facts.asid ≢ 0 → facts.kind ≢ kinds.Plain → ⊥
guest_plain facts are some used_by = some (are.used used_by).no_guest

-- RMPUPDATE: a page that becomes free
free_fit : AreFactsOf free_entry
unfolding free_entry
free_fit = record {
  owned = λ none. refl;
  used = λ used_by. absurd (used_by refl);
  free = λ none. record { no_guest = refl; size_is = refl };
  ranges = record { gpn = omega arith; asid = omega arith; perms_count = refl; perms = are_zeros 4 };
}

-- one that becomes assigned
not_plain : (asid : ℕ) → immutable_kind asid kinds.Plain ≢ kinds.Plain → asid ≡ 0
not_plain asid = cond_both (eqb asid 0) kinds.Firmware kinds.Plain (λ (k : Kind). k ≢ kinds.Plain → asid ≡ 0) (λ none _. eqb-true asid 0 none) (λ _ used_by. absurd (used_by refl))

assigned_used : (update : Update) (place : ℕ) → (assigned_facts update place).kind ≢ kinds.Plain → IsFirmwares (assigned_facts update place)
unfolding assigned_facts
assigned_used update place used_by = record { assigned = refl; immutable = immutable_is update.immutable used_by; no_guest = owner_is update.immutable used_by }
  where
    immutable_is : (b : Bool) → cond b (immutable_kind update.asid kinds.Plain) kinds.Plain ≢ kinds.Plain → b ≡ true
    immutable_is true ne = refl
    immutable_is false ne = absurd (ne refl)

    owner_is : (b : Bool) → cond b (immutable_kind update.asid kinds.Plain) kinds.Plain ≢ kinds.Plain → update.asid ≡ 0
    owner_is true ne = not_plain update.asid ne
    owner_is false ne = absurd (ne refl)

first_small : (b : Bool) → cond b 0 15 < 2 ^ 8
first_small true = omega arith
first_small false = omega arith

assigned_fit : (update : Update) (place : ℕ) → IsUpdate update → place < 512 → AreFactsOf (assigned_facts update place)
unfolding assigned_facts
assigned_fit update place fits near =
    let asid = fits.0 in
    let gpn = fits.1 in
    record {
      owned = λ none. refl;
      used = assigned_used update place;
      free = λ none. absurd (true≢false none);
      ranges = record { gpn = omega arith; asid = omega arith; perms_count = refl; perms = first_of_four (cond (eqb update.asid 0) 0 15) (first_small (eqb update.asid 0)) };
    }

-- one that becomes immutable
frozen_used : (asid : ℕ) (facts : RmpEntry) → AreFactsOf facts → facts.immutable ≡ false → facts.asid ≡ asid → immutable_kind asid facts.kind ≢ kinds.Plain → facts.asid ≡ 0
frozen_used asid facts are mutable owner =
    cond_both (eqb asid 0) kinds.Firmware facts.kind (λ (k : Kind). k ≢ kinds.Plain → facts.asid ≡ 0)
    (λ none _. owner ∙ eqb-true asid 0 none) (λ _ used_by. absurd (true≢false (sym (are.used used_by).immutable ∙ mutable)))

frozen_fit : (asid : ℕ) (facts : RmpEntry) → AreFactsOf facts → facts.immutable ≡ false → facts.assigned ≡ true → facts.asid ≡ asid
    → AreFactsOf (record facts { immutable = true; kind = immutable_kind asid facts.kind })
frozen_fit asid facts are mutable assigned owner = record {
  owned = are.owned;
  used = λ used_by. record { assigned = assigned; immutable = refl; no_guest = frozen_used asid facts are mutable owner used_by };
  free = λ none. record { no_guest = (are.free none).no_guest; size_is = (are.free none).size_is };
  ranges = record { gpn = are.ranges.gpn; asid = are.ranges.asid; perms_count = are.ranges.perms_count; perms = are.ranges.perms };
}

pub updated_fit : (update : Update) (first : RmpEntry) (place : ℕ) (facts : RmpEntry) → IsUpdate update → place < 512 → IsUpdatable update first facts → AreFactsOf facts → AreFactsOf (updated_facts update first place facts)
unfolding updated_facts
updated_fit update first place facts fits near may are =
    cond_both (makes_immutable update first) _ _ AreFactsOf (λ makes. frozen_fit update.asid facts are may.mutable (may.assigned makes) (may.owner makes))
    (λ _. cond_both (not update.assigned) free_entry (assigned_facts update place) AreFactsOf (λ _. free_fit) (λ _. assigned_fit update place fits near))

-- PSMASH
pub smashed_fit : (facts : RmpEntry) → AreFactsOf facts → AreFactsOf (smashed_facts facts)
smashed_fit facts are = record {
  owned = are.owned;
  used = λ used_by. let firm = are.used used_by in record { assigned = firm.assigned; immutable = firm.immutable; no_guest = firm.no_guest };
  free = λ none. record { no_guest = (are.free none).no_guest; size_is = refl };
  ranges = record { gpn = are.ranges.gpn; asid = are.ranges.asid; perms_count = are.ranges.perms_count; perms = are.ranges.perms };
}

-- PVALIDATE
pub validated_fit : (validate : Bool) (own facts : RmpEntry) → facts.asid ≢ 0 → AreFactsOf facts → AreFactsOf (validated_facts validate own facts)
unfolding validated_facts
validated_fit validate own facts some are =
    cond_both (carry validate own) facts (record facts { validated = validate }) AreFactsOf (λ _. are)
    (λ _. record {
      owned = λ none. absurd (some none);
      used = λ used_by. absurd (guest_plain facts are some used_by);
      free = λ none. record { no_guest = (are.free none).no_guest; size_is = (are.free none).size_is };
      ranges = record { gpn = are.ranges.gpn; asid = are.ranges.asid; perms_count = are.ranges.perms_count; perms = are.ranges.perms };
    })

-- RMPADJUST
pub adjusted_fit : (vmpl target mask : ℕ) (vmsa : Bool) (facts : RmpEntry) → mask < 2 ^ 8 → AreFactsOf facts → AreFactsOf (adjusted_facts vmpl target mask vmsa facts)
unfolding adjusted_facts
adjusted_fit vmpl target mask vmsa facts small are = record {
  owned = are.owned;
  used = λ used_by. let firm = are.used used_by in record { assigned = firm.assigned; immutable = firm.immutable; no_guest = firm.no_guest };
  free = λ none. record { no_guest = (are.free none).no_guest; size_is = (are.free none).size_is };
  ranges = record {
    gpn = are.ranges.gpn;
    asid = are.ranges.asid;
    perms_count = length-set facts.perms target mask ∙ are.ranges.perms_count;
    perms = perms_set facts.perms target mask small are.ranges.perms;
  };
}

-- a page of the firmware gets a kind
kind_fit : (kind : Kind) (facts : RmpEntry) → IsOfFirmware facts → AreFactsOf facts → AreFactsOf (record facts { kind = kind })
kind_fit kind facts is are = record {
  owned = are.owned;
  used = λ used_by. record { assigned = is.assigned; immutable = is.immutable; no_guest = is.no_guest };
  free = λ none. absurd (true≢false (sym is.assigned ∙ none));
  ranges = record { gpn = are.ranges.gpn; asid = are.ranges.asid; perms_count = are.ranges.perms_count; perms = are.ranges.perms };
}

pub context_fit : (facts : RmpEntry) → IsOfFirmware facts → AreFactsOf facts → AreFactsOf (context_facts facts)
unfolding context_facts
context_fit facts is are = kind_fit kinds.Context facts is are

pub metadata_fit : (facts : RmpEntry) → IsOfFirmware facts → AreFactsOf facts → AreFactsOf (metadata_facts facts)
unfolding metadata_facts
metadata_fit facts is are = kind_fit kinds.Metadata facts is are

pub metadata_out_fit : (facts : RmpEntry) → IsOfFirmware facts → AreFactsOf facts → AreFactsOf (metadata_out_facts facts)
unfolding metadata_out_facts
metadata_out_fit facts is are = kind_fit kinds.Firmware facts is are

-- a page of a guest is launched
pub launched_fit : (perms : List ℕ) (facts : RmpEntry) → IsLaunchedWith perms → IsKeptFrom facts → AreFactsOf facts → AreFactsOf (launched_facts perms facts)
unfolding launched_facts
launched_fit perms facts fits is are = record {
  owned = λ none. absurd (is.of_guest none);
  used = λ used_by. absurd (guest_plain facts are is.of_guest used_by);
  free = λ none. absurd (true≢false (sym is.assigned ∙ none));
  ranges = record {
    gpn = are.ranges.gpn;
    asid = are.ranges.asid;
    perms_count = ap suc fits.three;
    perms = byte_first 15 perms (omega arith) (perms_below perms fits.below);
  };
}

-- it is moved away
pub taken_fit : (facts : RmpEntry) → AreFactsOf facts → AreFactsOf (taken_facts facts)
unfolding taken_facts
taken_fit facts are = record {
  owned = λ none. refl;
  used = λ used_by. let firm = are.used used_by in record { assigned = firm.assigned; immutable = firm.immutable; no_guest = firm.no_guest };
  free = λ none. record { no_guest = (are.free none).no_guest; size_is = (are.free none).size_is };
  ranges = record { gpn = are.ranges.gpn; asid = are.ranges.asid; perms_count = refl; perms = first_of_four 15 (omega arith) };
}

-- it is brought back
pub restored_fit : (entry : MetaEntry) (facts : RmpEntry) → IsMetaEntry entry → IsKeptFrom facts → AreFactsOf facts → AreFactsOf (restored_facts entry facts)
unfolding restored_facts
restored_fit entry facts fits is are = record {
  owned = λ none. absurd (is.of_guest none);
  used = λ used_by. absurd (guest_plain facts are is.of_guest used_by);
  free = λ none. absurd (true≢false (sym is.assigned ∙ none));
  ranges = record { gpn = fits.gpn; asid = are.ranges.asid; perms_count = fits.perms_count; perms = fits.perms };
}

-- a page is taken back
place_small : (b : Bool) (gpn : ℕ) → gpn < 2 ^ 64 → cond b (gpn % 512) 0 < 2 ^ 64
place_small true gpn small = omega arith
place_small false gpn small = omega arith

pub reclaim_fit : (facts : RmpEntry) → AreFactsOf facts → AreFactsOf (reclaim_facts facts)
unfolding reclaim_facts
reclaim_fit facts are = record {
  owned = λ none. refl;
  used = λ used_by. absurd (used_by refl);
  free = λ none. record { no_guest = refl; size_is = (are.free none).size_is };
  ranges = record { gpn = place_small (is_large facts.size) facts.gpn are.ranges.gpn; asid = omega arith; perms_count = refl; perms = are_zeros 4 };
}

pub given_back_fit : (facts : RmpEntry) → facts.asid ≢ 0 → AreFactsOf facts → AreFactsOf (given_back_facts facts)
unfolding given_back_facts
given_back_fit facts some are = record {
  owned = are.owned;
  used = λ used_by. absurd (guest_plain facts are some used_by);
  free = λ none. record { no_guest = (are.free none).no_guest; size_is = (are.free none).size_is };
  ranges = record { gpn = are.ranges.gpn; asid = are.ranges.asid; perms_count = are.ranges.perms_count; perms = are.ranges.perms };
}
