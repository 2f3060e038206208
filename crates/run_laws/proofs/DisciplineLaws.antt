-- A disciplined guest lacks the pages that its next event makes held.
use Rattle.std.proofs.Common.{◌≡◌, ℕ, Bool, true, false, not, ◌&&◌, ◌||◌, cond, eqb, Option, Some, None}
use Rattle.std.proofs.lemmas.Bool.{cond_both}
use Rattle.snp_model.specs.declared.command.Command.TheVariants as commands
use Rattle.snp_model.specs.declared.entry.PageSize.{PageSize}
use Rattle.snp_model.specs.declared.event.Deed.{Deed}
use Rattle.snp_model.specs.declared.event.Deed.TheVariants as deeds
use Rattle.snp_model.specs.declared.event.Outcome.{Outcome}
use Rattle.snp_model.specs.declared.event.Outcome.TheVariants as outcomes
use Rattle.snp_model.specs.declared.item.Item.{Item}
use Rattle.snp_model.specs.declared.item.Item.TheVariants as items
use Rattle.snp_model.specs.declared.item.Op.{Op}
use Rattle.snp_model.specs.declared.item.Op.TheVariants.{Load, Store, Swap, Compare, Xor}
use Rattle.snp_model.specs.declared.scenario.Role.{Role}
use Rattle.snp_model.specs.declared.scenario.Role.TheVariants.{Cpu, Host, Firmware}
use Rattle.snp_model.specs.Facts.{frames_in}
use Rattle.snp_model.specs.GuestMemory.{Memory, Untouched, Accepts, Rescinds, Launches, use_of_word, use_of_validation, use_of, firmware_use, use_for, next_use}
use Rattle.snp_model.specs.Premises.{validated_range, launched_range, accepted_range, AreLacking, IsDisciplinedStep}
use Rattle.snp_model.specs.State.{Contents, State, part_of}
use Rattle.snp_model.specs.Step.{event_of, after, line_at}
use Rattle.snp_model.specs.Verdicts.{same_size}
use Rattle.run_laws.proofs.AcceptLaws.{LacksRange}
use Rattle.run_laws.proofs.ValidateUseLaws.{LacksAccepted}

-- an access makes no page held
word_lacks : (memory : Memory) (outcome : Outcome) (op : Op) (gpn index : ℕ) → LacksAccepted memory (use_of_word outcome op gpn index)
unfolding use_of_word
word_lacks memory (outcomes.Loaded found) Load gpn index = tt
word_lacks memory outcomes.Stored (Store value) gpn index = tt
word_lacks memory (outcomes.Swapped found) (Swap value) gpn index = tt
word_lacks memory (outcomes.Swapped found) (Xor value) gpn index = tt
word_lacks memory (outcomes.Compared found written) (Compare expected next) gpn index = tt
word_lacks memory outcome op gpn index = tt

-- a PVALIDATE makes those held that its commit names
validation_lacks : (memory : Memory) (gpn : ℕ) (size asked : PageSize) (validate carried : Bool) → (validate ≡ true → LacksRange memory gpn (frames_in size)) → LacksAccepted memory (use_of_validation gpn size asked validate carried)
unfolding use_of_validation
validation_lacks memory gpn size asked validate carried lacks =
    cond_both (carried || not (same_size size asked)) _ _ (LacksAccepted memory) (λ _. tt)
    (λ _. cond_both validate (Accepts gpn (frames_in size)) (Rescinds gpn (frames_in size)) (LacksAccepted memory) lacks (λ _. tt))

processor_lacks : (memory : Memory) (deed : Deed) (item : Item) (outcome : Option Outcome) → AreLacking memory (validated_range deed item outcome) → LacksAccepted memory (use_of deed item outcome)
unfolding validated_range use_of
processor_lacks memory (deeds.Table gpn index frame (Some value)) item outcome lacks = tt
processor_lacks memory (deeds.Access gpn index frame true) (items.Access address op) (Some outcome) lacks = word_lacks memory outcome op gpn index
processor_lacks memory (deeds.Commit frame gpn size) (items.Pvalidate address asked true) (Some (outcomes.Carry carried)) lacks = validation_lacks memory gpn size asked true carried (λ _. lacks)
processor_lacks memory (deeds.Commit frame gpn size) (items.Pvalidate address asked false) (Some (outcomes.Carry carried)) lacks = validation_lacks memory gpn size asked false carried (λ e. absurd cc)
processor_lacks memory deed item outcome lacks = tt

-- a launch makes the page held that its commit names
firmware_lacks : (guest : ℕ) (left : Contents) (memory : Memory) (deed : Deed) (item : Item) (outcome : Option Outcome) → AreLacking memory (launched_range guest deed item outcome) → LacksAccepted memory (firmware_use guest left deed item outcome)
unfolding launched_range firmware_use
firmware_lacks guest left memory (deeds.Commit frame gpn size) (items.Firmware (commands.LaunchUpdate owner page page_type imi perms)) (Some (outcomes.Firmware status)) lacks =
    elim (eqb owner guest && eqb status 0) as (λ (b : Bool). AreLacking memory (cond b (Some (record { base = gpn; count = 1 })) None) → LacksAccepted memory (cond b (Launches gpn (left.pages frame).words) Untouched))
    [ true ↦ λ range. range | false ↦ λ none. tt ] lacks
firmware_lacks guest left memory deed item outcome lacks = tt

pub range_lacks : (guest : ℕ) (left : Contents) (memory : Memory) (role : Role) (deed : Deed) (item : Item) (outcome : Option Outcome) → AreLacking memory (accepted_range guest role deed item outcome)
    → LacksAccepted memory (use_for guest left role deed item outcome)
unfolding accepted_range use_for
range_lacks guest left memory (Cpu owner vmpl npt paging) deed item outcome lacks =
    elim (eqb owner guest) as (λ (b : Bool). AreLacking memory (cond b (validated_range deed item outcome) None) → LacksAccepted memory (cond b (use_of deed item outcome) Untouched))
    [ true ↦ λ range. processor_lacks memory deed item outcome range | false ↦ λ none. tt ] lacks
range_lacks guest left memory Host deed item outcome lacks = tt
range_lacks guest left memory Firmware deed item outcome lacks = firmware_lacks guest left memory deed item outcome lacks

-- so of the next event of an actor
pub next_lacks : (guest : ℕ) (m : State) (actor : ℕ) (memory : Memory) → IsDisciplinedStep guest m actor memory → LacksAccepted memory (next_use guest m actor)
unfolding IsDisciplinedStep next_use
next_lacks guest m actor memory disciplined =
    let part = part_of m actor in
    let event = event_of m actor in
    range_lacks guest (after m actor).contents memory part.role event.deed (line_at part.script part.item).item event.outcome disciplined
