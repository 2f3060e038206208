-- The facts of a page, by its state.
use Rattle.std.proofs.Common.{◌≡◌, ◌≢◌, Bool, true, false, not, eqb, refl, sym, ◌∙◌}
use Rattle.std.proofs.lemmas.Bool.{cond_both, eqb-true, eqb-false, true≢false}
use Rattle.snp_model.specs.declared.entry.Kind.{Kind}
use Rattle.snp_model.specs.declared.entry.Kind.TheVariants as kinds
use Rattle.snp_model.specs.declared.entry.RmpEntry.{RmpEntry}
use Rattle.snp_model.specs.declared.firmware.PageState.{PageState}
use Rattle.snp_model.specs.declared.firmware.PageState.TheVariants as states
use Rattle.snp_model.specs.PageStates.{firmware_state, state_of, is_pre_guest, is_pre_swap, is_firmware}
use Rattle.run_laws.specs.Shapes.{IsFirmwares}
use Rattle.run_laws.proofs.TestedLaws.{not_false}

-- an assigned and immutable page of a guest, validated or not
pub record IsPrepared (facts : RmpEntry) (validated : Bool) : Type 0 where
  pub assigned : facts.assigned ≡ true
  pub some : facts.asid ≢ 0
  pub immutable : facts.immutable ≡ true
  pub validated_is : facts.validated ≡ validated

-- what holds in each state, by the facts that it tells, holds in a page's state
pub by_state : (facts : RmpEntry) (P : PageState → Type 0) → (IsFirmwares facts → P (firmware_state facts.kind)) → (IsPrepared facts true → P states.PreSwap) → (IsPrepared facts false → P states.PreGuest)
    → P states.Hypervisor → P states.Reclaim → P states.GuestValid → P states.GuestInvalid → P (state_of facts)
unfolding state_of
by_state facts P firmwares pre_swap pre_guest hypervisor reclaim valid invalid =
    cond_both (not facts.assigned) _ _ P (λ _. hypervisor)
    (λ is. let assigned = not_false facts.assigned is in
    cond_both (eqb facts.asid 0) _ _ P
    (λ none. cond_both facts.immutable _ _ P (λ immutable. firmwares (record { assigned = assigned; immutable = immutable; no_guest = eqb-true facts.asid 0 none })) (λ _. reclaim))
    (λ some. cond_both facts.immutable _ _ P
    (λ immutable. cond_both facts.validated _ _ P
    (λ validated. pre_swap (record { assigned = assigned; some = eqb-false facts.asid 0 some; immutable = immutable; validated_is = validated }))
    (λ validated. pre_guest (record { assigned = assigned; some = eqb-false facts.asid 0 some; immutable = immutable; validated_is = validated })))
    (λ _. cond_both facts.validated _ _ P (λ _. valid) (λ _. invalid))))

not_prepared : (kind : Kind) → (is_pre_guest (firmware_state kind) ≡ false) × (is_pre_swap (firmware_state kind) ≡ false)
not_prepared kinds.Plain = (refl, refl)
not_prepared kinds.Firmware = (refl, refl)
not_prepared kinds.Context = (refl, refl)
not_prepared kinds.Metadata = (refl, refl)

-- a Firmware page
pub firmware_facts : (facts : RmpEntry) → is_firmware (state_of facts) ≡ true → IsFirmwares facts
firmware_facts facts is =
    by_state facts (λ state. is_firmware state ≡ true → IsFirmwares facts) (λ has _. has) (λ _ e. absurd (true≢false (sym e))) (λ _ e. absurd (true≢false (sym e)))
    (λ e. absurd (true≢false (sym e))) (λ e. absurd (true≢false (sym e))) (λ e. absurd (true≢false (sym e))) (λ e. absurd (true≢false (sym e))) is

-- a Pre-Guest page
pub pre_guest_facts : (facts : RmpEntry) → is_pre_guest (state_of facts) ≡ true → IsPrepared facts false
pre_guest_facts facts is =
    by_state facts (λ state. is_pre_guest state ≡ true → IsPrepared facts false) (λ _ e. absurd (true≢false (sym e ∙ (not_prepared facts.kind).0))) (λ _ e. absurd (true≢false (sym e))) (λ has _. has)
    (λ e. absurd (true≢false (sym e))) (λ e. absurd (true≢false (sym e))) (λ e. absurd (true≢false (sym e))) (λ e. absurd (true≢false (sym e))) is

-- a Pre-Swap page
pub pre_swap_facts : (facts : RmpEntry) → is_pre_swap (state_of facts) ≡ true → IsPrepared facts true
pre_swap_facts facts is =
    by_state facts (λ state. is_pre_swap state ≡ true → IsPrepared facts true) (λ _ e. absurd (true≢false (sym e ∙ (not_prepared facts.kind).1))) (λ has _. has) (λ _ e. absurd (true≢false (sym e)))
    (λ e. absurd (true≢false (sym e))) (λ e. absurd (true≢false (sym e))) (λ e. absurd (true≢false (sym e))) (λ e. absurd (true≢false (sym e))) is
