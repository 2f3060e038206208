-- What an event of any item may leave: the contents as they were, a word written, or what the commit of an instruction of the RMP or of a command makes of them; and of what its compute makes.
use Rattle.std.proofs.Common.{◌≡◌, ℕ, ◌/◌, ◌^◌, ◌<◌, ◌≤◌, Bool, true, false, not, List, [], ◌∷◌, length, Option, Some, None, unwrap_or, Result, Ok, Err, refl, sym, ap, ◌∙◌}
use Rattle.std.proofs.lemmas.Bool.{cond_both, true≢false}
use Rattle.snp_model.specs.declared.access.Verdict.{Verdict}
use Rattle.snp_model.specs.declared.access.Verdict.TheVariants.{Pass, Hidden, Fault}
use Rattle.snp_model.specs.declared.command.Command.{Command}
use Rattle.snp_model.specs.declared.entry.PageSize.{PageSize}
use Rattle.snp_model.specs.declared.entry.RmpEntry.{RmpEntry}
use Rattle.snp_model.specs.declared.event.Deed.{Deed}
use Rattle.snp_model.specs.declared.event.Deed.TheVariants as deeds
use Rattle.snp_model.specs.declared.event.FwRefusal.{FwRefusal}
use Rattle.snp_model.specs.declared.event.Outcome.{Outcome}
use Rattle.snp_model.specs.declared.event.Outcome.TheVariants as outcomes
use Rattle.snp_model.specs.declared.item.Item.{Item}
use Rattle.snp_model.specs.declared.item.Item.TheVariants as items
use Rattle.snp_model.specs.declared.item.Op.{Op}
use Rattle.snp_model.specs.declared.item.Update.{Update}
use Rattle.snp_model.specs.declared.scenario.GuestSpec.{GuestSpec}
use Rattle.snp_model.specs.declared.scenario.Role.{Role}
use Rattle.snp_model.specs.declared.scenario.Role.TheVariants.{Cpu, Host, Firmware}
use Rattle.snp_model.specs.declared.walk.Lookup.{Lookup}
use Rattle.snp_model.specs.declared.walk.Need.{Need}
use Rattle.snp_model.specs.declared.walk.Need.TheVariants as needs
use Rattle.snp_model.specs.Bounds.{IsRole, IsUpdate}
use Rattle.snp_model.specs.FirmwareStep.{nothing_made, context_taken, computed_move, commit_move}
use Rattle.snp_model.specs.GuestWalk.{levels_of, is_canonical}
use Rattle.snp_model.specs.InstructionStep.{facts_of, update_move, smash_move, page_place, page_lookup, validate_begin, adjust_begin, validate_move, adjust_move}
use Rattle.snp_model.specs.Locks.{page_lock}
use Rattle.snp_model.specs.Moves.{Move, Arrival, is_running, quiet_move, begin_move, table_move, need_move, walked_move, lock_move}
use Rattle.snp_model.specs.Opening.{asid_of}
use Rattle.snp_model.specs.RmpUpdate.{pages_updated, pages_smashed}
use Rattle.snp_model.specs.Sealing.{Sealing, compute_of}
use Rattle.snp_model.specs.State.{PageLock, Context, Contents, Computed, ActorPart, View, word_of}
use Rattle.snp_model.specs.Step.{pages_after, access_move, data_place, data_move, host_access, item_move}
use Rattle.snp_model.specs.Validation.{pages_validated, pages_adjusted}
use Rattle.snp_model.specs.Walking.{Processor, lookup_of, index_of, need_after}
use Rattle.run_laws.specs.HeldLocks.{IsUpdateLock, IsSmashLock, IsWalkedLock, IsOneLock, validate_test, adjust_test, AreCommandLocks, AreItemLocks}
use Rattle.run_laws.specs.Operands.{AreWordsOf, AreCommandOperands, AreOperands}
use Rattle.run_laws.proofs.CommandStages.{IsCommitting, by_stage}
use Rattle.run_laws.proofs.SealingCommits.{contents_after}
use Rattle.run_laws.proofs.TestedPages.{validate_passes}
use Rattle.run_laws.proofs.UseLaws.{pass_mutable, shared_holds_none, host_holds_none}

-- a frame that an access may write to
abbrev pub IsLoose : RmpEntry → Type 0
IsLoose facts = facts.assigned ≡ true → facts.immutable ≡ true → ⊥

-- a lock of a page that has this ASID
pub record IsPageOf (contents : Contents) (asid : ℕ) (lock : PageLock) : Type 0 where
  pub covers : lock ≡ page_lock (facts_of contents lock.frame).size lock.frame
  pub asid_is : (facts_of contents lock.frame).asid ≡ asid

-- what holds of contents, and of what a compute makes, whatever an event of an item does
pub record HoldsAfter (P : Contents → Type 0) (Q : Computed → Type 0) (frames : ℕ) (guests : List GuestSpec) (contents : Contents) (part : ActorPart) (item : Item) : Type 0 where
  pub still : P contents
  pub written : (op : Op) (frame index : ℕ) → AreWordsOf op → IsLoose (facts_of contents frame)
      → P (record contents { pages = pages_after op frame index (word_of (contents.pages frame) index) contents.pages })
  pub updated : (update : Update) (lock : PageLock) → IsUpdate update → IsUpdateLock frames contents update lock → P (record contents { pages = pages_updated update lock contents.pages })
  pub smashed : (frame : ℕ) (lock : PageLock) → IsSmashLock frames contents frame lock → P (record contents { pages = pages_smashed lock contents.pages })
  pub validated : (owner : ℕ) (validate : Bool) (own : RmpEntry) (lock : PageLock) → 0 < owner → owner ≤ length guests → IsPageOf contents (asid_of guests owner) lock
      → P (record contents { pages = pages_validated validate own lock contents.pages })
  pub adjusted : (vmpl target mask : ℕ) (vmsa : Bool) (lock : PageLock) → mask < 2 ^ 8 → lock ≡ page_lock (facts_of contents lock.frame).size lock.frame
      → P (record contents { pages = pages_adjusted vmpl target mask vmsa lock contents.pages })
  pub committed : (command : Command) → item ≡ items.Firmware command → AreCommandOperands command → IsCommitting frames guests contents command part.standing
      → P (contents_after command part.standing.locks (unwrap_or part.standing.computed nothing_made) contents)
  pub had : (made : Computed) → part.standing.computed ≡ Some made → Q made
  pub computed : (sealing : Sealing) (made : Computed) → compute_of contents sealing ≡ Ok made → Q made

-- so after an event
pub record Leaves (P : Contents → Type 0) (Q : Computed → Type 0) (move : Move) : Type 0 where
  pub holds : P move.contents
  pub made : (made : Computed) → move.standing.computed ≡ Some made → Q made

quiet_leaves : (P : Contents → Type 0) (Q : Computed → Type 0) (frames : ℕ) (guests : List GuestSpec) (contents : Contents) (part : ActorPart) (item : Item) (deed : Deed) (outcome : Option Outcome)
    → HoldsAfter P Q frames guests contents part item → Leaves P Q (quiet_move contents part deed outcome)
quiet_leaves P Q frames guests contents part item deed outcome after = record { holds = after.still; made = after.had }

lock_leaves : (P : Contents → Type 0) (Q : Computed → Type 0) (frames : ℕ) (guests : List GuestSpec) (contents : Contents) (part : ActorPart) (item : Item) (lock : PageLock) (refusal : Option Outcome)
    → HoldsAfter P Q frames guests contents part item → Leaves P Q (lock_move contents part lock refusal)
unfolding lock_move
lock_leaves P Q frames guests contents part item lock None after = record { holds = after.still; made = after.had }
lock_leaves P Q frames guests contents part item lock (Some outcome) after = record { holds = after.still; made = after.had }

access_leaves : (P : Contents → Type 0) (Q : Computed → Type 0) (frames : ℕ) (guests : List GuestSpec) (contents : Contents) (part : ActorPart) (item : Item) (deed : Deed) (verdict : Verdict) (op : Op) (frame index : ℕ)
    → HoldsAfter P Q frames guests contents part item → AreWordsOf op → (verdict ≡ Pass → IsLoose (facts_of contents frame)) → Leaves P Q (access_move contents part deed verdict op frame index)
unfolding access_move
access_leaves P Q frames guests contents part item deed Pass op frame index after fits loose = record { holds = after.written op frame index fits (loose refl); made = after.had }
access_leaves P Q frames guests contents part item deed Hidden op frame index after fits loose = record { holds = after.still; made = after.had }
access_leaves P Q frames guests contents part item deed (Fault outcome) op frame index after fits loose = record { holds = after.still; made = after.had }

-- an item of a guest's processor that walks
begin_leaves : (P : Contents → Type 0) (Q : Computed → Type 0) (frames : ℕ) (guests : List GuestSpec) (contents : Contents) (part : ActorPart) (item : Item) (context : Context) (levels address : ℕ) (refusal : Option Outcome)
    → HoldsAfter P Q frames guests contents part item → Leaves P Q (begin_move contents part context levels address refusal)
unfolding begin_move
begin_leaves P Q frames guests contents part item context levels address refusal after =
    let quiet = λ (outcome : Option Outcome). quiet_leaves P Q frames guests contents part item deeds.Begin outcome after in
    cond_both (not (is_running context.state)) _ _ (Leaves P Q) (λ _. quiet (Some outcomes.Offline))
    (λ _. cond_both (not (is_canonical levels address)) _ _ (Leaves P Q) (λ _. quiet (Some outcomes.Gp)) (λ _. quiet refusal))

table_leaves : (P : Contents → Type 0) (Q : Computed → Type 0) (frames : ℕ) (guests : List GuestSpec) (contents : Contents) (part : ActorPart) (item : Item) (cpu : Processor) (lookup : Lookup) (verdict : Verdict) (gpn index frame : ℕ)
    → HoldsAfter P Q frames guests contents part item → Leaves P Q (table_move frames contents part cpu lookup verdict gpn index frame)
unfolding table_move
table_leaves P Q frames guests contents part item cpu lookup Pass gpn index frame after = record { holds = after.still; made = after.had }
table_leaves P Q frames guests contents part item cpu lookup Hidden gpn index frame after = record { holds = after.still; made = after.had }
table_leaves P Q frames guests contents part item cpu lookup (Fault outcome) gpn index frame after = record { holds = after.still; made = after.had }

abbrev ArrivesAt : (Contents → Type 0) → (Computed → Type 0) → Arrival → Type 0
ArrivesAt P Q arrives = (gpn : ℕ) (private : Bool) (frame : ℕ) (leaf : PageSize) → Leaves P Q (arrives gpn private frame leaf)

need_leaves : (P : Contents → Type 0) (Q : Computed → Type 0) (frames : ℕ) (guests : List GuestSpec) (contents : Contents) (part : ActorPart) (item : Item) (cpu : Processor) (lookup : Lookup) (arrives : Arrival) (need : Need)
    → HoldsAfter P Q frames guests contents part item → ArrivesAt P Q arrives → Leaves P Q (need_move frames guests contents part cpu lookup arrives need)
unfolding need_move
need_leaves P Q frames guests contents part item cpu lookup arrives (needs.Nested frame index) after at = record { holds = after.still; made = after.had }
need_leaves P Q frames guests contents part item cpu lookup arrives (needs.Table gpn index frame size) after at = table_leaves P Q frames guests contents part item cpu lookup _ gpn index frame after
need_leaves P Q frames guests contents part item cpu lookup arrives (needs.Data gpn private frame size) after at = at gpn private frame size
need_leaves P Q frames guests contents part item cpu lookup arrives (needs.Fault outcome) after at = record { holds = after.still; made = after.had }

walked_leaves : (P : Contents → Type 0) (Q : Computed → Type 0) (frames : ℕ) (guests : List GuestSpec) (contents : Contents) (part : ActorPart) (item : Item) (cpu : Processor) (lookup : Lookup) (refusal : Option Outcome) (arrives : Arrival) (made : List Deed)
    → HoldsAfter P Q frames guests contents part item → ArrivesAt P Q arrives → Leaves P Q (walked_move frames guests contents part cpu lookup refusal arrives made)
unfolding walked_move
walked_leaves P Q frames guests contents part item cpu lookup refusal arrives [] after at =
    begin_leaves P Q frames guests contents part item (contents.contexts cpu.guest) (levels_of cpu.paging) lookup.address refusal after
walked_leaves P Q frames guests contents part item cpu lookup refusal arrives (deed ∷ others) after at =
    need_leaves P Q frames guests contents part item cpu lookup arrives (need_after frames cpu lookup (deed ∷ others)) after at

-- accesses, private, shared and a hypervisor's
data_leaves : (P : Contents → Type 0) (Q : Computed → Type 0) (frames : ℕ) (guests : List GuestSpec) (contents : Contents) (part : ActorPart) (item : Item) (cpu : Processor) (address : ℕ) (op : Op)
    → HoldsAfter P Q frames guests contents part item → AreWordsOf op → ArrivesAt P Q (data_move guests contents part cpu address op)
data_leaves P Q frames guests contents part item cpu address op after fits gpn true frame size =
    let place = data_place (asid_of guests cpu.guest) cpu.vmpl address gpn true frame size in
    access_leaves P Q frames guests contents part item _ _ op frame (index_of address) after fits
    (λ passed assigned immutable. true≢false (sym immutable ∙ pass_mutable (facts_of contents frame) place op passed))
data_leaves P Q frames guests contents part item cpu address op after fits gpn false frame size =
    let place = data_place (asid_of guests cpu.guest) cpu.vmpl address gpn false frame size in
    access_leaves P Q frames guests contents part item _ _ op frame (index_of address) after fits
    (λ passed assigned immutable. true≢false (sym assigned ∙ shared_holds_none (facts_of contents frame) place op passed))

host_leaves : (P : Contents → Type 0) (Q : Computed → Type 0) (frames : ℕ) (guests : List GuestSpec) (contents : Contents) (part : ActorPart) (item : Item) (address : ℕ) (op : Op)
    → HoldsAfter P Q frames guests contents part item → AreWordsOf op → Leaves P Q (host_access contents part address op)
unfolding host_access
host_leaves P Q frames guests contents part item address op after fits =
    access_leaves P Q frames guests contents part item _ _ op (address / 4096) (index_of address) after fits
    (λ passed assigned immutable. true≢false (sym assigned ∙ host_holds_none (facts_of contents (address / 4096)) op passed))

-- instructions of the RMP: a lock, and then the commit
update_leaves : (P : Contents → Type 0) (Q : Computed → Type 0) (frames : ℕ) (guests : List GuestSpec) (view : View) (part : ActorPart) (item : Item) (update : Update) (locks : List PageLock)
    → HoldsAfter P Q frames guests view.contents part item → IsUpdate update → IsOneLock (IsUpdateLock frames view.contents update) locks → Leaves P Q (update_move frames view part update locks)
unfolding update_move
update_leaves P Q frames guests view part item update [] after fits tested = lock_leaves P Q frames guests view.contents part item _ _ after
update_leaves P Q frames guests view part item update (lock ∷ others) after fits tested = record { holds = after.updated update lock fits tested.0; made = after.had }

smash_leaves : (P : Contents → Type 0) (Q : Computed → Type 0) (frames : ℕ) (guests : List GuestSpec) (view : View) (part : ActorPart) (item : Item) (frame : ℕ) (locks : List PageLock)
    → HoldsAfter P Q frames guests view.contents part item → IsOneLock (IsSmashLock frames view.contents frame) locks → Leaves P Q (smash_move frames view part frame locks)
unfolding smash_move
smash_leaves P Q frames guests view part item frame [] after tested = lock_leaves P Q frames guests view.contents part item _ _ after
smash_leaves P Q frames guests view part item frame (lock ∷ others) after tested = record { holds = after.smashed frame lock tested.0; made = after.had }

validate_leaves : (P : Contents → Type 0) (Q : Computed → Type 0) (frames : ℕ) (guests : List GuestSpec) (view : View) (part : ActorPart) (item : Item) (cpu : Processor) (address : ℕ) (size : PageSize) (validate : Bool) (locks : List PageLock)
    → HoldsAfter P Q frames guests view.contents part item → 0 < cpu.guest → cpu.guest ≤ length guests → IsOneLock (IsWalkedLock frames guests view.contents cpu address (validate_test size) part.deeds) locks
    → ArrivesAt P Q (validate_move guests view part cpu size validate locks)
unfolding validate_move
validate_leaves P Q frames guests view part item cpu address size validate [] after some most tested gpn private frame leaf = lock_leaves P Q frames guests view.contents part item _ _ after
validate_leaves P Q frames guests view part item cpu address size validate (lock ∷ others) after some most tested gpn private frame leaf =
    let has = tested.0 in
    let place = page_place (asid_of guests cpu.guest) cpu.vmpl has.gpn lock.frame has.leaf in
    let page = validate_passes place size (facts_of view.contents lock.frame) has.passes in
    record { holds = after.validated cpu.guest validate (facts_of view.contents frame) lock some most (record { covers = has.covers; asid_is = page.asid_is }); made = after.had }

adjust_leaves : (P : Contents → Type 0) (Q : Computed → Type 0) (frames : ℕ) (guests : List GuestSpec) (view : View) (part : ActorPart) (item : Item) (cpu : Processor) (address : ℕ) (size : PageSize) (target mask : ℕ) (vmsa : Bool) (locks : List PageLock)
    → HoldsAfter P Q frames guests view.contents part item → mask < 2 ^ 8 → IsOneLock (IsWalkedLock frames guests view.contents cpu address (adjust_test size mask vmsa) part.deeds) locks
    → ArrivesAt P Q (adjust_move guests view part cpu size target mask vmsa locks)
unfolding adjust_move
adjust_leaves P Q frames guests view part item cpu address size target mask vmsa [] after fits tested gpn private frame leaf = lock_leaves P Q frames guests view.contents part item _ _ after
adjust_leaves P Q frames guests view part item cpu address size target mask vmsa (lock ∷ others) after fits tested gpn private frame leaf =
    record { holds = after.adjusted cpu.vmpl target mask vmsa lock fits tested.0.covers; made = after.had }

-- commands
taken_leaves : (P : Contents → Type 0) (Q : Computed → Type 0) (frames : ℕ) (guests : List GuestSpec) (contents : Contents) (part : ActorPart) (item : Item) (guest : ℕ) (refusal : Option FwRefusal)
    → HoldsAfter P Q frames guests contents part item → Leaves P Q (context_taken contents part guest refusal)
unfolding context_taken
taken_leaves P Q frames guests contents part item guest None after = record { holds = after.still; made = after.had }
taken_leaves P Q frames guests contents part item guest (Some refusal) after = record { holds = after.still; made = after.had }

some_same : (x y : Computed) → Some x ≡ Some y → x ≡ y
some_same x y e = cc

computed_leaves : (P : Contents → Type 0) (Q : Computed → Type 0) (frames : ℕ) (guests : List GuestSpec) (contents : Contents) (part : ActorPart) (item : Item) (result : Result Computed FwRefusal)
    → HoldsAfter P Q frames guests contents part item → ((made : Computed) → result ≡ Ok made → Q made) → Leaves P Q (computed_move contents part result)
unfolding computed_move
computed_leaves P Q frames guests contents part item (Ok one) after makes = record { holds = after.still; made = λ made is. makes made (ap (λ (c : Computed). Ok c) (some_same one made is)) }
computed_leaves P Q frames guests contents part item (Err refusal) after makes = record { holds = after.still; made = after.had }

commit_leaves : (P : Contents → Type 0) (Q : Computed → Type 0) (frames : ℕ) (guests : List GuestSpec) (contents : Contents) (part : ActorPart) (command : Command)
    → HoldsAfter P Q frames guests contents part (items.Firmware command) → AreCommandOperands command → IsCommitting frames guests contents command part.standing → Leaves P Q (commit_move contents part command)
unfolding commit_move
commit_leaves P Q frames guests contents part command after fits stage = record { holds = after.committed command refl fits stage; made = after.had }

command_leaves : (P : Contents → Type 0) (Q : Computed → Type 0) (frames : ℕ) (guests : List GuestSpec) (view : View) (part : ActorPart) (command : Command)
    → HoldsAfter P Q frames guests view.contents part (items.Firmware command) → AreCommandOperands command → AreCommandLocks frames guests view.contents command part.standing
    → Leaves P Q (item_move frames guests view part Firmware (items.Firmware command))
unfolding item_move
command_leaves P Q frames guests view part command after fits tested =
    by_stage (Leaves P Q) frames guests view part command
    (record {
      takes = λ guest refusal. taken_leaves P Q frames guests view.contents part (items.Firmware command) guest refusal after;
      locks = λ lock refusal. lock_leaves P Q frames guests view.contents part (items.Firmware command) lock refusal after;
      computes = λ sealing is ready. computed_leaves P Q frames guests view.contents part (items.Firmware command) (compute_of view.contents sealing) after (after.computed sealing);
      commits = λ stage. commit_leaves P Q frames guests view.contents part command after fits stage;
    })
    tested

-- so each item's event
pub by_change : (P : Contents → Type 0) (Q : Computed → Type 0) (frames : ℕ) (guests : List GuestSpec) (view : View) (part : ActorPart) (role : Role) (item : Item)
    → HoldsAfter P Q frames guests view.contents part item → IsRole frames (length guests) role → AreOperands item → AreItemLocks frames guests view.contents role item part.deeds part.standing
    → Leaves P Q (item_move frames guests view part role item)
unfolding item_move AreItemLocks
by_change P Q frames guests view part (Cpu owner vmpl npt paging) (items.Access address op) after is fits tested =
    let cpu : Processor = record { guest = owner; vmpl = vmpl; npt = npt; paging = paging } in
    walked_leaves P Q frames guests view.contents part (items.Access address op) cpu (lookup_of address op) None _ part.deeds after (data_leaves P Q frames guests view.contents part (items.Access address op) cpu address op after fits)
by_change P Q frames guests view part (Cpu owner vmpl npt paging) (items.Pvalidate address size validate) after is fits tested =
    let cpu : Processor = record { guest = owner; vmpl = vmpl; npt = npt; paging = paging } in
    let item = items.Pvalidate address size validate in
    walked_leaves P Q frames guests view.contents part item cpu (page_lookup address) (validate_begin cpu address size) _ part.deeds after
    (validate_leaves P Q frames guests view part item cpu address size validate part.standing.locks after is.guest_some is.guest_most tested.lock)
by_change P Q frames guests view part (Cpu owner vmpl npt paging) (items.Rmpadjust address size target mask vmsa) after is fits tested =
    let cpu : Processor = record { guest = owner; vmpl = vmpl; npt = npt; paging = paging } in
    let item = items.Rmpadjust address size target mask vmsa in
    walked_leaves P Q frames guests view.contents part item cpu (page_lookup address) (adjust_begin cpu address size target mask) _ part.deeds after
    (adjust_leaves P Q frames guests view part item cpu address size target mask vmsa part.standing.locks after fits tested.lock)
by_change P Q frames guests view part Host (items.Access address op) after is fits tested = host_leaves P Q frames guests view.contents part (items.Access address op) address op after fits
by_change P Q frames guests view part Host (items.Rmpupdate update) after is fits tested =
    update_leaves P Q frames guests view part (items.Rmpupdate update) update part.standing.locks after fits tested.lock
by_change P Q frames guests view part Host (items.Psmash frame) after is fits tested = smash_leaves P Q frames guests view part (items.Psmash frame) frame part.standing.locks after tested.lock
by_change P Q frames guests view part Firmware (items.Firmware command) after is fits tested = command_leaves P Q frames guests view part command after fits tested
by_change P Q frames guests view part role item after is fits tested = record { holds = after.still; made = after.had }
