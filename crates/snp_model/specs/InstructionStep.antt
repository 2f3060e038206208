-- The events of RMPUPDATE, PSMASH, PVALIDATE and RMPADJUST: each instruction takes one lock, with its tests, and then commits (APM volume 2, 15.36; volume 3). The division into events, and what a guest processor's instruction is refused with as it begins, are this project's own.
use Rattle.std.specs.Prelude.{ℕ, ◌+◌, ◌*◌, ◌%◌, ◌==◌, Bool, true, false, not, if◌then◌else◌, List, [], ◌∷◌, Option, Some, None}
use Rattle.std.specs.Option.{option_map}
use Rattle.snp_model.specs.declared.access.Place.{Place}
use Rattle.snp_model.specs.declared.entry.PageSize.{PageSize}
use Rattle.snp_model.specs.declared.entry.PageSize.TheVariants.{Large}
use Rattle.snp_model.specs.declared.entry.RmpEntry.{RmpEntry}
use Rattle.snp_model.specs.declared.event.Deed.TheVariants as deeds
use Rattle.snp_model.specs.declared.event.Outcome.{Outcome}
use Rattle.snp_model.specs.declared.event.Outcome.TheVariants as outcomes
use Rattle.snp_model.specs.declared.event.Refusal.{Refusal}
use Rattle.snp_model.specs.declared.event.Refusal.TheVariants as refusals
use Rattle.snp_model.specs.declared.item.Update.{Update}
use Rattle.snp_model.specs.declared.scenario.GuestSpec.{GuestSpec}
use Rattle.snp_model.specs.declared.walk.Lookup.{Lookup}
use Rattle.snp_model.specs.Facts.{frames_in}
use Rattle.snp_model.specs.Locks.{page_lock}
use Rattle.snp_model.specs.Moves.{Move, memory_move, lock_move, Arrival, walked_move}
use Rattle.snp_model.specs.Opening.{asid_of}
use Rattle.snp_model.specs.RmpUpdate.{update_refusal, update_lock, pages_updated, smash_refusal, pages_smashed}
use Rattle.snp_model.specs.State.{Contents, PageLock, ActorPart, View}
use Rattle.snp_model.specs.Validation.{validate_refusal, carry, pages_validated, adjust_input, adjust_refusal, pages_adjusted}
use Rattle.snp_model.specs.Walking.{Processor}

-- how the refusal of a lock ends the attempt
abbrev pub refused_outcome : Refusal → Outcome
refused_outcome (refusals.Status status) = outcomes.Status status
refused_outcome (refusals.InUse holder) = outcomes.StatusInUse holder
refused_outcome (refusals.Npf code) = outcomes.Npf code
refused_outcome (refusals.Vc code) = outcomes.Vc code

-- the facts of a frame
abbrev pub facts_of : Contents → ℕ → RmpEntry
facts_of contents frame = (contents.pages frame).facts

-- an instruction takes a lock, or ends with its refusal
abbrev pub instruction_lock : View → ActorPart → PageLock → Option Refusal → Move
instruction_lock view part lock refusal = lock_move view.contents part lock (option_map refused_outcome refusal)

-- RMPUPDATE: the lock of its range, then the commit, which names its operands
unfoldable pub update_move : ℕ → View → ActorPart → Update → List PageLock → Move
update_move frames view part update [] =
    instruction_lock view part (update_lock update)
    (update_refusal frames update (λ place. facts_of view.contents (update.frame + place)) (λ place. view.holder (update.frame + place)))
update_move frames view part update (lock ∷ others) =
    memory_move view.contents part (deeds.Commit update.frame update.gpn update.size) (Some (outcomes.Status 0)) (pages_updated update lock view.contents.pages)

-- PSMASH: the lock of the frame's page, then the commit, which names the frame with its guest page number
unfoldable pub smash_move : ℕ → View → ActorPart → ℕ → List PageLock → Move
smash_move frames view part frame [] =
    let facts = facts_of view.contents frame in
    instruction_lock view part (page_lock facts.size frame) (smash_refusal frames frame facts (view.holder frame))
smash_move frames view part frame (lock ∷ others) =
    memory_move view.contents part (deeds.Commit frame (facts_of view.contents frame).gpn Large) (Some (outcomes.Status 0)) (pages_smashed lock view.contents.pages)

-- what PVALIDATE and RMPADJUST look up: a read, whose leaf's C bit is passed over
abbrev pub page_lookup : ℕ → Lookup
page_lookup address = record { address = address; write = false; c_bit = false }

-- whether an address is that of a page of this size: a multiple of 4 KB, or of 2 MB
abbrev pub is_page_address : PageSize → ℕ → Bool
is_page_address size address = address % (4096 * frames_in size) == 0

-- what PVALIDATE is refused with as it begins: VMPL0 alone has it
unfoldable pub validate_begin : Processor → ℕ → PageSize → Option Outcome
validate_begin cpu address size =
    if not (cpu.vmpl == 0) then Some outcomes.Gp
    else if not (is_page_address size address) then Some (outcomes.Status 1)
    else None

-- what RMPADJUST is refused with as it begins
unfoldable pub adjust_begin : Processor → ℕ → PageSize → ℕ → ℕ → Option Outcome
adjust_begin cpu address size target mask =
    if not (is_page_address size address) then Some (outcomes.Status 1)
    else option_map outcomes.Status (adjust_input cpu.vmpl target mask)

-- where an instruction of a guest processor has come to: a page, of which no one word matters
abbrev pub page_place : ℕ → ℕ → ℕ → ℕ → PageSize → Place
page_place asid vmpl gpn frame leaf =
    record { asid = asid; gpn = gpn; slot = frame % 512; index = 0; leaf = leaf; vmpl = vmpl; private = true; table = false }

-- PVALIDATE that has come to its page: the page's lock, then the commit
unfoldable pub validate_move : List GuestSpec → View → ActorPart → Processor → PageSize → Bool → List PageLock → Arrival
validate_move guests view part cpu size validate [] gpn private frame leaf =
    let facts = facts_of view.contents frame in
    instruction_lock view part (page_lock facts.size frame)
    (validate_refusal (page_place (asid_of guests cpu.guest) cpu.vmpl gpn frame leaf) size facts (view.holder frame))
validate_move guests view part cpu size validate (lock ∷ others) gpn private frame leaf =
    memory_move view.contents part (deeds.Commit frame gpn size) (Some (outcomes.Carry (carry validate (facts_of view.contents frame)))) (pages_validated validate (facts_of view.contents frame) lock view.contents.pages)

-- PVALIDATE
abbrev pub cpu_validate : ℕ → List GuestSpec → View → ActorPart → Processor → ℕ → PageSize → Bool → Move
cpu_validate frames guests view part cpu address size validate =
    walked_move frames guests view.contents part cpu (page_lookup address) (validate_begin cpu address size)
    (validate_move guests view part cpu size validate part.standing.locks) part.deeds

-- RMPADJUST that has come to its page: the page's lock, then the commit
unfoldable pub adjust_move : List GuestSpec → View → ActorPart → Processor → PageSize → ℕ → ℕ → Bool → List PageLock → Arrival
adjust_move guests view part cpu size target mask vmsa [] gpn private frame leaf =
    let facts = facts_of view.contents frame in
    instruction_lock view part (page_lock facts.size frame)
    (adjust_refusal (page_place (asid_of guests cpu.guest) cpu.vmpl gpn frame leaf) size mask vmsa facts (view.holder frame))
adjust_move guests view part cpu size target mask vmsa (lock ∷ others) gpn private frame leaf =
    memory_move view.contents part (deeds.Commit frame gpn size) (Some (outcomes.Status 0)) (pages_adjusted cpu.vmpl target mask vmsa lock view.contents.pages)

-- RMPADJUST
abbrev pub cpu_adjust : ℕ → List GuestSpec → View → ActorPart → Processor → ℕ → PageSize → ℕ → ℕ → Bool → Move
cpu_adjust frames guests view part cpu address size target mask vmsa =
    walked_move frames guests view.contents part cpu (page_lookup address) (adjust_begin cpu address size target mask)
    (adjust_move guests view part cpu size target mask vmsa part.standing.locks) part.deeds
