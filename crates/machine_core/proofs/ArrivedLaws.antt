-- Where the walks of PVALIDATE and RMPADJUST have come, and the moves of their locks and commits there.
use Rattle.std.proofs.Common.{◌≡◌, ℕ, Bool, not, List, [], ◌∷◌, length, Option, None, Some, refl, ap, ◌∙◌, arith}
use Rattle.std.specs.Option.{option_map}
use Rattle.snp_model.specs.declared.entry.PageSize.{PageSize}
use Rattle.snp_model.specs.declared.event.Deed.{Deed}
use Rattle.snp_model.specs.declared.event.Deed.TheVariants as deeds
use Rattle.snp_model.specs.declared.event.Outcome.{Outcome}
use Rattle.snp_model.specs.declared.event.Outcome.TheVariants as outcomes
use Rattle.snp_model.specs.declared.scenario.GuestSpec.{GuestSpec}
use Rattle.snp_model.specs.declared.walk.GuestEnd.{GuestEnd}
use Rattle.snp_model.specs.declared.walk.GuestEnd.TheVariants as guest_ends
use Rattle.snp_model.specs.declared.walk.Lookup.{Lookup}
use Rattle.snp_model.specs.InstructionStep.{adjust_begin, adjust_move, is_page_address, page_place, validate_move}
use Rattle.snp_model.specs.Locks.{page_lock}
use Rattle.snp_model.specs.NestedWalk.{walk_from}
use Rattle.snp_model.specs.Opening.{asid_of}
use Rattle.snp_model.specs.State.{ActorPart, PageLock, Standing, nothing_taken}
use Rattle.snp_model.specs.Validation.{adjust_input, adjust_refusal, carry, pages_adjusted, pages_validated, validate_refusal}
use Rattle.snp_model.specs.Walking.{Processor, guest_words, nested_words_after, guest_stands, need_after, walk_need}
use Rattle.run_laws.specs.OpenAttempts.{IsLockingAttempt}
use Rattle.run_laws.proofs.TestedLaws.{let_through}
use Rattle.machine_core.specs.declared.shown.Shown.{Shown}
use Rattle.machine_core.specs.Actors.{IsBegun}
use Rattle.machine_core.specs.Bays.{Stock, pages_of, view_on}
use Rattle.machine_core.specs.Moves.{lock_shown, move_by, standing_by}
use Rattle.machine_core.specs.Ranges.{IsLockOfPage, page_refused}
use Rattle.machine_core.specs.Walks.{arrived_at}
use Rattle.machine_core.proofs.HeldLaws.{committed}
use Rattle.machine_core.proofs.PageLaws.{lock_moves}

-- an item that has not begun has come to no page
nowhere_yet : (frames npt : ℕ) (lookup : Lookup) (stands : GuestEnd) → None ≡ arrived_at (walk_need frames npt lookup stands [])
unfolding walk_need walk_from
nowhere_yet frames npt lookup (guest_ends.Read gpn index) = refl
nowhere_yet frames npt lookup (guest_ends.Leaf gpn private size) = refl
nowhere_yet frames npt lookup (guest_ends.Fault code) = refl

pub not_arrived : (frames : ℕ) (cpu : Processor) (lookup : Lookup) (made : List Deed) → length made ≡ 0 → None ≡ arrived_at (need_after frames cpu lookup made)
unfolding nested_words_after
not_arrived frames cpu lookup [] none = nowhere_yet frames cpu.npt lookup (guest_stands cpu.paging lookup (guest_words []))
not_arrived frames cpu lookup (deed ∷ others) none = cc

-- PVALIDATE

-- the move of its lock
pub validate_locks : (guests : List GuestSpec) (part : ActorPart) (cpu : Processor) (size : PageSize) (validate : Bool) (gpn : ℕ) (private : Bool) (frame : ℕ) (leaf : PageSize) (old new : Stock) (shown : Shown) → part.standing ≡ nothing_taken
    → shown ≡ lock_shown (page_lock (pages_of old.bays frame).facts.size frame) (page_refused (validate_refusal (page_place (asid_of guests cpu.guest) cpu.vmpl gpn frame leaf) size) frame old) → pages_of new.bays ≡ pages_of old.bays → new.contexts ≡ old.contexts
    → validate_move guests (view_on old guests) part cpu size validate part.standing.locks gpn private frame leaf ≡ move_by shown (view_on new guests) (standing_by shown part.standing)
unfolding validate_move
validate_locks guests part cpu size validate gpn private frame leaf old new shown none shown_is same contexts =
    ap (λ (s : Standing). validate_move guests (view_on old guests) part cpu size validate s.locks gpn private frame leaf) none
    ∙ lock_moves guests part old new (page_lock (pages_of old.bays frame).facts.size frame) (page_refused (validate_refusal (page_place (asid_of guests cpu.guest) cpu.vmpl gpn frame leaf) size) frame old) shown shown_is same contexts

-- and of its commit
pub validate_commits : (guests : List GuestSpec) (part : ActorPart) (cpu : Processor) (size : PageSize) (validate : Bool) (gpn : ℕ) (private : Bool) (frame : ℕ) (leaf : PageSize) (lock : PageLock) (old new : Stock) (shown : Shown) → part.standing.locks ≡ lock ∷ []
    → IsLockOfPage old frame lock → shown ≡ record { deed = deeds.Commit frame gpn size; outcome = Some (outcomes.Carry (carry validate (pages_of old.bays frame).facts)); lock = None }
    → (let own = (pages_of old.bays frame).facts in pages_of new.bays ≡ pages_validated validate own (page_lock own.size frame) (pages_of old.bays))
    → new.contexts ≡ old.contexts
    → validate_move guests (view_on old guests) part cpu size validate part.standing.locks gpn private frame leaf ≡ move_by shown (view_on new guests) (standing_by shown part.standing)
unfolding validate_move
validate_commits guests part cpu size validate gpn private frame leaf lock old new shown are lock_is shown_is pages_are contexts =
    let own = (pages_of old.bays frame).facts in
    ap (λ (ls : List PageLock). validate_move guests (view_on old guests) part cpu size validate ls gpn private frame leaf) (are ∙ ap (λ (l : PageLock). l ∷ []) lock_is)
    ∙ committed old part (deeds.Commit frame gpn size) (outcomes.Carry (carry validate own)) (pages_validated validate own (page_lock own.size frame) (pages_of old.bays)) guests new shown shown_is pages_are contexts

-- RMPADJUST

-- the move of its lock
pub adjust_locks : (guests : List GuestSpec) (part : ActorPart) (cpu : Processor) (size : PageSize) (target mask : ℕ) (vmsa : Bool) (gpn : ℕ) (private : Bool) (frame : ℕ) (leaf : PageSize) (old new : Stock) (shown : Shown) → part.standing ≡ nothing_taken
    → shown ≡ lock_shown (page_lock (pages_of old.bays frame).facts.size frame) (page_refused (adjust_refusal (page_place (asid_of guests cpu.guest) cpu.vmpl gpn frame leaf) size mask vmsa) frame old) → pages_of new.bays ≡ pages_of old.bays → new.contexts ≡ old.contexts
    → adjust_move guests (view_on old guests) part cpu size target mask vmsa part.standing.locks gpn private frame leaf ≡ move_by shown (view_on new guests) (standing_by shown part.standing)
unfolding adjust_move
adjust_locks guests part cpu size target mask vmsa gpn private frame leaf old new shown none shown_is same contexts =
    ap (λ (s : Standing). adjust_move guests (view_on old guests) part cpu size target mask vmsa s.locks gpn private frame leaf) none
    ∙ lock_moves guests part old new (page_lock (pages_of old.bays frame).facts.size frame) (page_refused (adjust_refusal (page_place (asid_of guests cpu.guest) cpu.vmpl gpn frame leaf) size mask vmsa) frame old) shown shown_is same contexts

-- and of its commit
pub adjust_commits : (guests : List GuestSpec) (part : ActorPart) (cpu : Processor) (size : PageSize) (target mask : ℕ) (vmsa : Bool) (gpn : ℕ) (private : Bool) (frame : ℕ) (leaf : PageSize) (lock : PageLock) (old new : Stock) (shown : Shown) → part.standing.locks ≡ lock ∷ []
    → IsLockOfPage old frame lock → shown ≡ record { deed = deeds.Commit frame gpn size; outcome = Some (outcomes.Status 0); lock = None }
    → (let own = (pages_of old.bays frame).facts in pages_of new.bays ≡ pages_adjusted cpu.vmpl target mask vmsa (page_lock own.size frame) (pages_of old.bays))
    → new.contexts ≡ old.contexts
    → adjust_move guests (view_on old guests) part cpu size target mask vmsa part.standing.locks gpn private frame leaf ≡ move_by shown (view_on new guests) (standing_by shown part.standing)
unfolding adjust_move
adjust_commits guests part cpu size target mask vmsa gpn private frame leaf lock old new shown are lock_is shown_is pages_are contexts =
    let own = (pages_of old.bays frame).facts in
    ap (λ (ls : List PageLock). adjust_move guests (view_on old guests) part cpu size target mask vmsa ls gpn private frame leaf) (are ∙ ap (λ (l : PageLock). l ∷ []) lock_is)
    ∙ committed old part (deeds.Commit frame gpn size) (outcomes.Status 0) (pages_adjusted cpu.vmpl target mask vmsa (page_lock own.size frame) (pages_of old.bays)) guests new shown shown_is pages_are contexts

no_status : (status : Option ℕ) → option_map outcomes.Status status ≡ None → status ≡ None
no_status None none = refl
no_status (Some status) none = absurd cc

-- one that is not refused as it begins has a target and a mask that are let through
pub adjust_admitted : (cpu : Processor) (address : ℕ) (size : PageSize) (target mask : ℕ) → adjust_begin cpu address size target mask ≡ None → adjust_input cpu.vmpl target mask ≡ None
unfolding adjust_begin
adjust_admitted cpu address size target mask none =
    no_status (adjust_input cpu.vmpl target mask) (let_through (not (is_page_address size address)) (outcomes.Status 1) (option_map outcomes.Status (adjust_input cpu.vmpl target mask)) none).after_it

-- and an attempt that has begun was not refused
pub attempt_admitted : (frames : ℕ) (cpu : Processor) (lookup : Lookup) (refusal : Option Outcome) (locks : List PageLock) (made : List Deed) → IsLockingAttempt frames cpu lookup refusal locks made → IsBegun made → refusal ≡ None
attempt_admitted frames cpu lookup refusal locks [] attempt begun = absurd (begun refl)
attempt_admitted frames cpu lookup refusal locks (deed ∷ others) attempt begun = attempt.admitted (omega arith)
