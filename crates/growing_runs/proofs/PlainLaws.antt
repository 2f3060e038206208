-- An item that is no skip passes over none, so a finished actor without skips stands at the end of its script.
use Rattle.std.proofs.Common.{◌≡◌, ℕ, Bool, true, false, not, ◌&&◌, ◌||◌, cond, eqb, List, [], ◌∷◌, Option, Some, None, option_map, Result, Ok, Err, refl}
use Rattle.std.specs.Prelude.{slice_index}
use Rattle.snp_model.specs.declared.access.Place.{Place}
use Rattle.snp_model.specs.declared.access.Verdict.{Verdict}
use Rattle.snp_model.specs.declared.access.Verdict.TheVariants.{Pass, Hidden, Fault}
use Rattle.snp_model.specs.declared.command.Command.{Command}
use Rattle.snp_model.specs.declared.entry.PageSize.{PageSize}
use Rattle.snp_model.specs.declared.entry.RmpEntry.{RmpEntry}
use Rattle.snp_model.specs.declared.event.Deed.{Deed}
use Rattle.snp_model.specs.declared.event.Deed.TheVariants as deeds
use Rattle.snp_model.specs.declared.event.FwRefusal.{FwRefusal}
use Rattle.snp_model.specs.declared.event.FwRefusal.TheVariants as fw
use Rattle.snp_model.specs.declared.event.Outcome.{Outcome}
use Rattle.snp_model.specs.declared.event.Outcome.TheVariants as outcomes
use Rattle.snp_model.specs.declared.event.Refusal.{Refusal}
use Rattle.snp_model.specs.declared.event.Refusal.TheVariants as refusals
use Rattle.snp_model.specs.declared.item.Item.{Item}
use Rattle.snp_model.specs.declared.item.Item.TheVariants as items
use Rattle.snp_model.specs.declared.item.Op.{Op}
use Rattle.snp_model.specs.declared.item.Op.TheVariants.{Load, Store, Swap, Compare, Xor}
use Rattle.snp_model.specs.declared.item.Update.{Update}
use Rattle.snp_model.specs.declared.scenario.GuestSpec.{GuestSpec}
use Rattle.snp_model.specs.declared.scenario.Role.{Role}
use Rattle.snp_model.specs.declared.scenario.Role.TheVariants.{Cpu, Host, Firmware}
use Rattle.snp_model.specs.declared.walk.GuestEnd.{GuestEnd}
use Rattle.snp_model.specs.declared.walk.GuestEnd.TheVariants as guest_ends
use Rattle.snp_model.specs.declared.walk.Lookup.{Lookup}
use Rattle.snp_model.specs.declared.walk.Need.{Need}
use Rattle.snp_model.specs.declared.walk.Need.TheVariants as needs
use Rattle.snp_model.specs.declared.walk.NestedEnd.{NestedEnd}
use Rattle.snp_model.specs.declared.walk.NestedEnd.TheVariants as ends
use Rattle.snp_model.specs.Accesses.{guest_verdict}
use Rattle.snp_model.specs.FirmwareStep.{Phase, TakeContext, TakePage, Computing, Committing, phase_move, take_context, context_taken, take_page, computed_move, commit_move, refused}
use Rattle.snp_model.specs.Faults.{code_of}
use Rattle.snp_model.specs.GuestWalk.{is_canonical}
use Rattle.snp_model.specs.InstructionStep.{is_page_address, adjust_begin, validate_begin, refused_outcome, update_move, smash_move, validate_move, adjust_move}
use Rattle.snp_model.specs.Moves.{Arrival, Move, begin_move, is_running, quiet_move, lock_move, need_move, table_move, walked_move}
use Rattle.snp_model.specs.Operations.{outcome_of, writes}
use Rattle.snp_model.specs.State.{ActorPart, Computed, Context, Contents, PageLock, View}
use Rattle.snp_model.specs.Step.{access_move, host_access, item_move, passed_over}
use Rattle.snp_model.specs.Validation.{adjust_input}
use Rattle.snp_model.specs.Verdicts.{is_large, lacks, private_refusal, private_verdict, shared_verdict, host_verdict}
use Rattle.snp_model.specs.Walking.{Processor, data_need, fault_of, table_need, walk_need}
use Rattle.growing_runs.specs.Plain.{IsPlain, PassesNone}

-- a verdict's outcome does
VerdictPasses : Verdict → Type 0
VerdictPasses Pass = Unit {0}
VerdictPasses Hidden = Unit {0}
VerdictPasses (Fault outcome) = passed_over outcome ≡ 0

choose : {A : Type 0} (P : A → Type 0) (test : Bool) (x y : A) → P x → P y → P (cond test x y)
choose P true x y one other = one
choose P false x y one other = other

word_passes : (op : Op) (word : ℕ) → passed_over (outcome_of op word) ≡ 0
word_passes Load word = refl
word_passes (Store value) word = refl
word_passes (Swap value) word = refl
word_passes (Compare expected next) word = refl
word_passes (Xor value) word = refl

access_passes : (contents : Contents) (part : ActorPart) (deed : Deed) (verdict : Verdict) (op : Op) (frame index : ℕ) → VerdictPasses verdict → PassesNone (access_move contents part deed verdict op frame index).outcome
unfolding access_move VerdictPasses
access_passes contents part deed Pass op frame index fine = word_passes op _
access_passes contents part deed Hidden op frame index fine = refl
access_passes contents part deed (Fault outcome) op frame index fine = fine

refused_passes : (contents : Contents) (part : ActorPart) (lock : PageLock) (refusal : Option Refusal) → PassesNone (lock_move contents part lock (option_map refused_outcome refusal)).outcome
unfolding lock_move
refused_passes contents part lock None = tt
refused_passes contents part lock (Some (refusals.Status status)) = refl
refused_passes contents part lock (Some (refusals.InUse holder)) = refl
refused_passes contents part lock (Some (refusals.Npf code)) = refl
refused_passes contents part lock (Some (refusals.Vc code)) = refl

-- a command of the firmware
fw_lock_passes : (contents : Contents) (part : ActorPart) (lock : PageLock) (refusal : Option FwRefusal) → PassesNone (lock_move contents part lock (option_map refused refusal)).outcome
unfolding lock_move
fw_lock_passes contents part lock None = tt
fw_lock_passes contents part lock (Some (fw.Status status)) = refl
fw_lock_passes contents part lock (Some (fw.InUse holder)) = refl
fw_lock_passes contents part lock (Some (fw.BadTag found kept)) = refl

context_passes : (contents : Contents) (part : ActorPart) (guest : ℕ) (refusal : Option FwRefusal) → PassesNone (context_taken contents part guest refusal).outcome
unfolding context_taken
context_passes contents part guest None = tt
context_passes contents part guest (Some (fw.Status status)) = refl
context_passes contents part guest (Some (fw.InUse holder)) = refl
context_passes contents part guest (Some (fw.BadTag found kept)) = refl

computed_passes : (contents : Contents) (part : ActorPart) (made : Result Computed FwRefusal) → PassesNone (computed_move contents part made).outcome
unfolding computed_move
computed_passes contents part (Ok made) = tt
computed_passes contents part (Err (fw.Status status)) = refl
computed_passes contents part (Err (fw.InUse holder)) = refl
computed_passes contents part (Err (fw.BadTag found kept)) = refl

phase_passes : (frames : ℕ) (guests : List GuestSpec) (view : View) (part : ActorPart) (command : Command) (phase : Phase) → PassesNone (phase_move frames guests view part command phase).outcome
unfolding phase_move take_context take_page commit_move
phase_passes frames guests view part command (TakeContext guest) = context_passes view.contents part guest _
phase_passes frames guests view part command (TakePage page) = fw_lock_passes view.contents part _ _
phase_passes frames guests view part command (Computing sealing) = computed_passes view.contents part _
phase_passes frames guests view part command Committing = refl

-- verdicts
pass_fine : VerdictPasses Pass
unfolding VerdictPasses
pass_fine = tt

hidden_fine : VerdictPasses Hidden
unfolding VerdictPasses
hidden_fine = tt

fault_fine : (outcome : Outcome) → passed_over outcome ≡ 0 → VerdictPasses (Fault outcome)
unfolding VerdictPasses
fault_fine outcome fine = fine

private_passes : (facts : RmpEntry) (place : Place) (op : Op) → VerdictPasses (private_verdict facts place op)
unfolding private_verdict
private_passes facts place op =
    choose VerdictPasses (not facts.assigned || not (eqb facts.asid place.asid)) (private_refusal place op false) _ (fault_fine _ refl)
    (choose VerdictPasses (not (eqb facts.gpn place.gpn)) (private_refusal place op false) _ (fault_fine _ refl)
    (choose VerdictPasses facts.immutable (private_refusal place op false) _ (fault_fine _ refl)
    (choose VerdictPasses (is_large place.leaf && not (is_large facts.size)) (private_refusal place op false) _ (fault_fine _ refl)
    (choose VerdictPasses (not facts.validated) (Fault (outcomes.Vc 0x404)) _ (fault_fine (outcomes.Vc 0x404) refl)
    (choose VerdictPasses (lacks (slice_index facts.perms place.vmpl) op) (private_refusal place op true) Pass (fault_fine _ refl) pass_fine)))))

shared_passes : (facts : RmpEntry) (place : Place) (op : Op) → VerdictPasses (shared_verdict facts place op)
unfolding shared_verdict
shared_passes facts place op =
    choose VerdictPasses (facts.assigned && writes op) (Fault (outcomes.Npf (code_of (record { present = true; write = true; rmp = true; table = place.table; private = false; size = false; vmpl = false })))) _ (fault_fine _ refl)
    (choose VerdictPasses facts.assigned Hidden Pass hidden_fine pass_fine)

host_passes : (facts : RmpEntry) (op : Op) → VerdictPasses (host_verdict facts op)
unfolding host_verdict
host_passes facts op = choose VerdictPasses (facts.assigned && writes op) (Fault (outcomes.Pf 0x80000003)) _ (fault_fine _ refl) (choose VerdictPasses facts.assigned Hidden Pass hidden_fine pass_fine)

guest_passes : (facts : RmpEntry) (place : Place) (op : Op) → VerdictPasses (guest_verdict facts place op)
guest_passes facts place op = choose VerdictPasses place.private (private_verdict facts place op) (shared_verdict facts place op) (private_passes facts place op) (shared_passes facts place op)

-- walks
fault_passes : (end : NestedEnd) (gpn : ℕ) (private : Bool) → PassesNone (fault_of (data_need gpn private end))
fault_passes (ends.Read frame index) gpn private = tt
fault_passes (ends.Leaf frame size) gpn private = tt
fault_passes (ends.Fault code) gpn private = refl

table_fault_passes : (end : NestedEnd) (gpn index : ℕ) → PassesNone (fault_of (table_need gpn index end))
table_fault_passes (ends.Read frame place) gpn index = tt
table_fault_passes (ends.Leaf frame size) gpn index = tt
table_fault_passes (ends.Fault code) gpn index = refl

need_passes : (frames npt : ℕ) (lookup : Lookup) (end : GuestEnd) (words : List ℕ) → PassesNone (fault_of (walk_need frames npt lookup end words))
unfolding walk_need
need_passes frames npt lookup (guest_ends.Read gpn index) words = table_fault_passes _ gpn index
need_passes frames npt lookup (guest_ends.Leaf gpn private size) words = fault_passes _ gpn private
need_passes frames npt lookup (guest_ends.Fault code) words = refl

-- moves
MovePasses : Move → Type 0
MovePasses move = PassesNone move.outcome

move_fine : (move : Move) → PassesNone move.outcome → MovePasses move
unfolding MovePasses
move_fine move fine = fine

table_passes : (frames : ℕ) (contents : Contents) (part : ActorPart) (cpu : Processor) (lookup : Lookup) (verdict : Verdict) (gpn index frame : ℕ) → VerdictPasses verdict → PassesNone (table_move frames contents part cpu lookup verdict gpn index frame).outcome
unfolding table_move VerdictPasses
table_passes frames contents part cpu lookup Pass gpn index frame fine = need_passes frames cpu.npt lookup _ _
table_passes frames contents part cpu lookup Hidden gpn index frame fine = refl
table_passes frames contents part cpu lookup (Fault outcome) gpn index frame fine = fine

need_move_passes : (frames : ℕ) (guests : List GuestSpec) (contents : Contents) (part : ActorPart) (cpu : Processor) (lookup : Lookup) (arrives : Arrival) (need : Need)
    → ((gpn : ℕ) (private : Bool) (frame : ℕ) (size : PageSize) → PassesNone (arrives gpn private frame size).outcome) → PassesNone (need_move frames guests contents part cpu lookup arrives need).outcome
unfolding need_move
need_move_passes frames guests contents part cpu lookup arrives (needs.Nested frame index) fine = need_passes frames cpu.npt lookup _ _
need_move_passes frames guests contents part cpu lookup arrives (needs.Table gpn index frame size) fine = table_passes frames contents part cpu lookup _ gpn index frame (private_passes _ _ Load)
need_move_passes frames guests contents part cpu lookup arrives (needs.Data gpn private frame size) fine = fine gpn private frame size
need_move_passes frames guests contents part cpu lookup arrives (needs.Fault outcome) fine = refl

begin_passes : (contents : Contents) (part : ActorPart) (context : Context) (levels address : ℕ) (refusal : Option Outcome) → PassesNone refusal → MovePasses (begin_move contents part context levels address refusal)
unfolding begin_move
begin_passes contents part context levels address refusal fine =
    choose MovePasses (not (is_running context.state)) (quiet_move contents part deeds.Begin (Some outcomes.Offline)) _ (move_fine _ refl)
    (choose MovePasses (not (is_canonical levels address)) (quiet_move contents part deeds.Begin (Some outcomes.Gp)) (quiet_move contents part deeds.Begin refusal) (move_fine _ refl) (move_fine _ fine))

opened : (move : Move) → MovePasses move → PassesNone move.outcome
unfolding MovePasses
opened move fine = fine

walked_passes : (frames : ℕ) (guests : List GuestSpec) (contents : Contents) (part : ActorPart) (cpu : Processor) (lookup : Lookup) (refusal : Option Outcome) (arrives : Arrival) (made : List Deed) → PassesNone refusal
    → ((gpn : ℕ) (private : Bool) (frame : ℕ) (size : PageSize) → PassesNone (arrives gpn private frame size).outcome) → PassesNone (walked_move frames guests contents part cpu lookup refusal arrives made).outcome
unfolding walked_move
walked_passes frames guests contents part cpu lookup refusal arrives [] fine arrived = opened _ (begin_passes contents part _ _ lookup.address refusal fine)
walked_passes frames guests contents part cpu lookup refusal arrives (deed ∷ others) fine arrived = need_move_passes frames guests contents part cpu lookup arrives _ arrived

OutcomePasses : Option Outcome → Type 0
OutcomePasses outcome = PassesNone outcome

outcome_fine : (outcome : Option Outcome) → PassesNone outcome → OutcomePasses outcome
unfolding OutcomePasses
outcome_fine outcome fine = fine

outcome_opened : (outcome : Option Outcome) → OutcomePasses outcome → PassesNone outcome
unfolding OutcomePasses
outcome_opened outcome fine = fine

validate_passes : (cpu : Processor) (address : ℕ) (size : PageSize) → OutcomePasses (validate_begin cpu address size)
unfolding validate_begin
validate_passes cpu address size = choose OutcomePasses (not (eqb cpu.vmpl 0)) (Some outcomes.Gp) _ (outcome_fine _ refl)
    (choose OutcomePasses (not (is_page_address size address)) (Some (outcomes.Status 1)) None (outcome_fine _ refl) (outcome_fine _ tt))

status_passes : (status : Option ℕ) → PassesNone (option_map outcomes.Status status)
status_passes None = tt
status_passes (Some status) = refl

adjust_passes : (cpu : Processor) (address : ℕ) (size : PageSize) (target mask : ℕ) → OutcomePasses (adjust_begin cpu address size target mask)
unfolding adjust_begin
adjust_passes cpu address size target mask = choose OutcomePasses (not (is_page_address size address)) (Some (outcomes.Status 1)) (option_map outcomes.Status (adjust_input cpu.vmpl target mask)) (outcome_fine _ refl) (outcome_fine _ (status_passes _))

validated_passes : (guests : List GuestSpec) (view : View) (part : ActorPart) (cpu : Processor) (size : PageSize) (validate : Bool) (locks : List PageLock) (gpn : ℕ) (private : Bool) (frame : ℕ) (leaf : PageSize)
    → PassesNone (validate_move guests view part cpu size validate locks gpn private frame leaf).outcome
unfolding validate_move
validated_passes guests view part cpu size validate [] gpn private frame leaf = refused_passes view.contents part _ _
validated_passes guests view part cpu size validate (lock ∷ others) gpn private frame leaf = refl

adjusted_passes : (guests : List GuestSpec) (view : View) (part : ActorPart) (cpu : Processor) (size : PageSize) (target mask : ℕ) (vmsa : Bool) (locks : List PageLock) (gpn : ℕ) (private : Bool) (frame : ℕ) (leaf : PageSize)
    → PassesNone (adjust_move guests view part cpu size target mask vmsa locks gpn private frame leaf).outcome
unfolding adjust_move
adjusted_passes guests view part cpu size target mask vmsa [] gpn private frame leaf = refused_passes view.contents part _ _
adjusted_passes guests view part cpu size target mask vmsa (lock ∷ others) gpn private frame leaf = refl

updated_passes : (frames : ℕ) (view : View) (part : ActorPart) (update : Update) (locks : List PageLock) → PassesNone (update_move frames view part update locks).outcome
unfolding update_move
updated_passes frames view part update [] = refused_passes view.contents part _ _
updated_passes frames view part update (lock ∷ others) = refl

smashed_passes : (frames : ℕ) (view : View) (part : ActorPart) (frame : ℕ) (locks : List PageLock) → PassesNone (smash_move frames view part frame locks).outcome
unfolding smash_move
smashed_passes frames view part frame [] = refused_passes view.contents part _ _
smashed_passes frames view part frame (lock ∷ others) = refl

-- so each item but a skip
pub plain_passes : (frames : ℕ) (guests : List GuestSpec) (view : View) (part : ActorPart) (role : Role) (item : Item) → IsPlain item → PassesNone (item_move frames guests view part role item).outcome
unfolding item_move host_access
plain_passes frames guests view part (Cpu guest vmpl npt paging) (items.Access address op) plain =
    walked_passes frames guests view.contents part _ _ None _ part.deeds tt (λ gpn private frame size. access_passes view.contents part _ _ op frame _ (guest_passes _ _ op))
plain_passes frames guests view part (Cpu guest vmpl npt paging) (items.Pvalidate address size validate) plain =
    let cpu : Processor = record { guest = guest; vmpl = vmpl; npt = npt; paging = paging } in
    walked_passes frames guests view.contents part cpu _ (validate_begin cpu address size) _ part.deeds (outcome_opened _ (validate_passes cpu address size)) (validated_passes guests view part cpu size validate part.standing.locks)
plain_passes frames guests view part (Cpu guest vmpl npt paging) (items.Rmpadjust address size target mask vmsa) plain =
    let cpu : Processor = record { guest = guest; vmpl = vmpl; npt = npt; paging = paging } in
    walked_passes frames guests view.contents part cpu _ (adjust_begin cpu address size target mask) _ part.deeds (outcome_opened _ (adjust_passes cpu address size target mask)) (adjusted_passes guests view part cpu size target mask vmsa part.standing.locks)
plain_passes frames guests view part (Cpu guest vmpl npt paging) (items.Rmpupdate update) plain = refl
plain_passes frames guests view part (Cpu guest vmpl npt paging) (items.Psmash frame) plain = refl
plain_passes frames guests view part (Cpu guest vmpl npt paging) (items.Firmware command) plain = refl
plain_passes frames guests view part role (items.Skip count test) plain = absurd plain
plain_passes frames guests view part Host (items.Access address op) plain = access_passes view.contents part _ _ op _ _ (host_passes _ op)
plain_passes frames guests view part Host (items.Pvalidate address size validate) plain = refl
plain_passes frames guests view part Host (items.Rmpadjust address size target mask vmsa) plain = refl
plain_passes frames guests view part Host (items.Rmpupdate update) plain = updated_passes frames view part update part.standing.locks
plain_passes frames guests view part Host (items.Psmash frame) plain = smashed_passes frames view part frame part.standing.locks
plain_passes frames guests view part Host (items.Firmware command) plain = refl
plain_passes frames guests view part Firmware (items.Access address op) plain = refl
plain_passes frames guests view part Firmware (items.Pvalidate address size validate) plain = refl
plain_passes frames guests view part Firmware (items.Rmpadjust address size target mask vmsa) plain = refl
plain_passes frames guests view part Firmware (items.Rmpupdate update) plain = refl
plain_passes frames guests view part Firmware (items.Psmash frame) plain = refl
plain_passes frames guests view part Firmware (items.Firmware command) plain = phase_passes frames guests view part command _
