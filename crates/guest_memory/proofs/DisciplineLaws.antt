-- A disciplined guest asks for the validation of no page that it holds, whatever the carry flag says.
use Rattle.std.proofs.Common.{◌≡◌, ℕ, Bool, true, cond, Option, Some, None, refl, ap, subst}
use Rattle.std.specs.FinMap.{get}
use Rattle.std.proofs.lemmas.Bool.{eq-eqb}
use Rattle.snp_model.specs.declared.entry.PageSize.{PageSize}
use Rattle.snp_model.specs.declared.event.Deed.{Deed}
use Rattle.snp_model.specs.declared.event.Deed.TheVariants as deeds
use Rattle.snp_model.specs.declared.event.Outcome.{Outcome}
use Rattle.snp_model.specs.declared.event.Outcome.TheVariants as outcomes
use Rattle.snp_model.specs.declared.item.Item.{Item}
use Rattle.snp_model.specs.declared.item.Item.TheVariants as items
use Rattle.snp_model.specs.declared.scenario.Paging.{Paging}
use Rattle.snp_model.specs.declared.scenario.Role.{Role}
use Rattle.snp_model.specs.declared.scenario.Role.TheVariants.{Cpu}
use Rattle.snp_model.specs.Facts.{frames_in}
use Rattle.snp_model.specs.GuestMemory.{Memory}
use Rattle.snp_model.specs.Locks.{in_range}
use Rattle.snp_model.specs.Premises.{GpnRange, AreLacking, IsDisciplinedStep, accepted_range, validated_range}
use Rattle.snp_model.specs.State.{State, part_of}
use Rattle.snp_model.specs.Step.{event_of, line_at}

-- the commit of a validation accepts the page that it names
commit_accepts : (guest vmpl npt frame gpn address : ℕ) (paging : Paging) (size asked : PageSize) (carry : Bool) → accepted_range guest (Cpu guest vmpl npt paging) (deeds.Commit frame gpn size) (items.Pvalidate address asked true) (Some (outcomes.Carry carry)) ≡ Some (record { base = gpn; count = frames_in size })
unfolding accepted_range validated_range
commit_accepts guest vmpl npt frame gpn address paging size asked carry =
    ap (λ (b : Bool). cond b (Some (record { base = gpn; count = frames_in size })) None) (eq-eqb guest guest refl)

pub asks_for_lacking : (guest vmpl npt frame gpn address : ℕ) (paging : Paging) (size asked : PageSize) (carry : Bool) (m : State) (actor : ℕ) (memory : Memory)
    → (part_of m actor).role ≡ Cpu guest vmpl npt paging
    → (line_at (part_of m actor).script (part_of m actor).item).item ≡ items.Pvalidate address asked true
    → (event_of m actor).deed ≡ deeds.Commit frame gpn size
    → (event_of m actor).outcome ≡ Some (outcomes.Carry carry)
    → IsDisciplinedStep guest m actor memory
    → (page : ℕ) → in_range gpn (frames_in size) page ≡ true → get memory page ≡ None
unfolding IsDisciplinedStep
asks_for_lacking guest vmpl npt frame gpn address paging size asked carry m actor memory of_guest asks commits carried disciplined =
    let item = (line_at (part_of m actor).script (part_of m actor).item).item in
    let of_role = subst (λ (r : Role). AreLacking memory (accepted_range guest r (event_of m actor).deed item (event_of m actor).outcome)) of_guest disciplined in
    let of_deed = subst (λ (d : Deed). AreLacking memory (accepted_range guest (Cpu guest vmpl npt paging) d item (event_of m actor).outcome)) commits of_role in
    let of_item = subst (λ (i : Item). AreLacking memory (accepted_range guest (Cpu guest vmpl npt paging) (deeds.Commit frame gpn size) i (event_of m actor).outcome)) asks of_deed in
    let of_outcome = subst (λ (o : Option Outcome). AreLacking memory (accepted_range guest (Cpu guest vmpl npt paging) (deeds.Commit frame gpn size) (items.Pvalidate address asked true) o)) carried of_item in
    subst (λ (r : Option GpnRange). AreLacking memory r) (commit_accepts guest vmpl npt frame gpn address paging size asked carry) of_outcome
