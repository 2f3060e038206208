-- What an event of each item is: one that changes nothing, a lock, an access, a commit of an instruction, or an event of a command. So what holds of these holds of every event.
use Rattle.std.proofs.Common.{◌≡◌, ℕ, ◌/◌, Bool, true, false, not, List, [], ◌∷◌, Option, Some, None, Result, refl}
use Rattle.std.proofs.lemmas.Bool.{cond_both}
use Rattle.snp_model.specs.declared.access.Verdict.{Verdict}
use Rattle.snp_model.specs.declared.access.Verdict.TheVariants.{Pass, Hidden, Fault}
use Rattle.snp_model.specs.declared.command.Command.{Command}
use Rattle.snp_model.specs.declared.entry.PageSize.{PageSize}
use Rattle.snp_model.specs.declared.event.Deed.{Deed}
use Rattle.snp_model.specs.declared.event.Deed.TheVariants as deeds
use Rattle.snp_model.specs.declared.event.FwRefusal.{FwRefusal}
use Rattle.snp_model.specs.declared.event.Outcome.{Outcome}
use Rattle.snp_model.specs.declared.event.Outcome.TheVariants as outcomes
use Rattle.snp_model.specs.declared.item.Item.{Item}
use Rattle.snp_model.specs.declared.item.Item.TheVariants as items
use Rattle.snp_model.specs.declared.item.Op.{Op}
use Rattle.snp_model.specs.declared.item.Update.{Update}
use Rattle.snp_model.specs.declared.scenario.GuestSpec.{GuestSpec}
use Rattle.snp_model.specs.declared.scenario.Role.{Role}
use Rattle.snp_model.specs.declared.scenario.Role.TheVariants.{Cpu, Host, Firmware}
use Rattle.snp_model.specs.declared.walk.Lookup.{Lookup}
use Rattle.snp_model.specs.declared.walk.Need.{Need}
use Rattle.snp_model.specs.declared.walk.Need.TheVariants as needs
use Rattle.snp_model.specs.FirmwareStep.{Phase, TakeContext, TakePage, Computing, Committing, phase_of, phase_move, take_context, context_taken, take_page, computed_move, commit_move}
use Rattle.snp_model.specs.GuestWalk.{levels_of, is_canonical}
use Rattle.snp_model.specs.InstructionStep.{update_move, smash_move, page_lookup, validate_begin, adjust_begin, validate_move, adjust_move}
use Rattle.snp_model.specs.Moves.{Move, Arrival, is_running, memory_move, quiet_move, begin_move, table_move, need_move, walked_move, lock_move}
use Rattle.snp_model.specs.Operations.{outcome_of}
use Rattle.snp_model.specs.Sealing.{compute_of}
use Rattle.snp_model.specs.State.{PageLock, Pages, Context, Contents, Computed, ActorPart, View, word_of}
use Rattle.snp_model.specs.Step.{access_move, data_move, host_access, item_move}
use Rattle.snp_model.specs.Walking.{Processor, lookup_of, index_of, need_after}

-- this holds of what the events of accesses, instructions and skips may be
pub record OfPlain (P : Move → Type 0) (contents : Contents) (part : ActorPart) : Type 0 where
  pub quiet : (deed : Deed) (outcome : Option Outcome) → P (quiet_move contents part deed outcome)
  pub locks : (lock : PageLock) → P (lock_move contents part lock None)
  pub accesses : (deed : Deed) (op : Op) (word : ℕ) (pages : Pages) → P (memory_move contents part deed (Some (outcome_of op word)) pages)
  pub succeeds : (deed : Deed) (pages : Pages) → P (memory_move contents part deed (Some (outcomes.Status 0)) pages)
  pub carries : (deed : Deed) (carry : Bool) (pages : Pages) → P (memory_move contents part deed (Some (outcomes.Carry carry)) pages)

-- this holds of what the events of a command may be
pub record OfCommand (P : Move → Type 0) (contents : Contents) (part : ActorPart) (command : Command) : Type 0 where
  pub takes : (guest : ℕ) (refusal : Option FwRefusal) → P (context_taken contents part guest refusal)
  pub locks : (lock : PageLock) (refusal : Option Outcome) → P (lock_move contents part lock refusal)
  pub computes : (result : Result Computed FwRefusal) → P (computed_move contents part result)
  pub commits : P (commit_move contents part command)
  pub misplaced : P (quiet_move contents part deeds.Control (Some outcomes.Next))  -- an actor of another role has it

lock_of : (P : Move → Type 0) (contents : Contents) (part : ActorPart) (lock : PageLock) (refusal : Option Outcome) → OfPlain P contents part → P (lock_move contents part lock refusal)
unfolding lock_move
lock_of P contents part lock None of = of.locks lock
lock_of P contents part lock (Some outcome) of = of.quiet (deeds.Lock lock.frame) (Some outcome)

access_of : (P : Move → Type 0) (contents : Contents) (part : ActorPart) (deed : Deed) (verdict : Verdict) (op : Op) (frame index : ℕ) → OfPlain P contents part → P (access_move contents part deed verdict op frame index)
unfolding access_move
access_of P contents part deed Pass op frame index of = of.accesses deed op (word_of (contents.pages frame) index) _
access_of P contents part deed Hidden op frame index of = of.quiet deed (Some outcomes.Opaque)
access_of P contents part deed (Fault outcome) op frame index of = of.quiet deed (Some outcome)

-- an item of a guest's processor that walks
begin_of : (P : Move → Type 0) (contents : Contents) (part : ActorPart) (context : Context) (levels address : ℕ) (refusal : Option Outcome) → OfPlain P contents part → P (begin_move contents part context levels address refusal)
unfolding begin_move
begin_of P contents part context levels address refusal of =
    cond_both (not (is_running context.state)) _ _ P (λ _. of.quiet deeds.Begin (Some outcomes.Offline))
    (λ _. cond_both (not (is_canonical levels address)) _ _ P (λ _. of.quiet deeds.Begin (Some outcomes.Gp)) (λ _. of.quiet deeds.Begin refusal))

table_of : (P : Move → Type 0) (frames : ℕ) (contents : Contents) (part : ActorPart) (cpu : Processor) (lookup : Lookup) (verdict : Verdict) (gpn index frame : ℕ) → OfPlain P contents part
    → P (table_move frames contents part cpu lookup verdict gpn index frame)
unfolding table_move
table_of P frames contents part cpu lookup Pass gpn index frame of = of.quiet _ _
table_of P frames contents part cpu lookup Hidden gpn index frame of = of.quiet _ _
table_of P frames contents part cpu lookup (Fault outcome) gpn index frame of = of.quiet _ _

abbrev Arrives : (Move → Type 0) → Arrival → Type 0
Arrives P arrives = (gpn : ℕ) (private : Bool) (frame : ℕ) (leaf : PageSize) → P (arrives gpn private frame leaf)

need_of : (P : Move → Type 0) (frames : ℕ) (guests : List GuestSpec) (contents : Contents) (part : ActorPart) (cpu : Processor) (lookup : Lookup) (arrives : Arrival) (need : Need) → OfPlain P contents part → Arrives P arrives
    → P (need_move frames guests contents part cpu lookup arrives need)
unfolding need_move
need_of P frames guests contents part cpu lookup arrives (needs.Nested frame index) of at = of.quiet _ _
need_of P frames guests contents part cpu lookup arrives (needs.Table gpn index frame size) of at = table_of P frames contents part cpu lookup _ gpn index frame of
need_of P frames guests contents part cpu lookup arrives (needs.Data gpn private frame size) of at = at gpn private frame size
need_of P frames guests contents part cpu lookup arrives (needs.Fault outcome) of at = of.quiet _ _

walked_of : (P : Move → Type 0) (frames : ℕ) (guests : List GuestSpec) (contents : Contents) (part : ActorPart) (cpu : Processor) (lookup : Lookup) (refusal : Option Outcome) (arrives : Arrival) (made : List Deed)
    → OfPlain P contents part → Arrives P arrives → P (walked_move frames guests contents part cpu lookup refusal arrives made)
unfolding walked_move
walked_of P frames guests contents part cpu lookup refusal arrives [] of at = begin_of P contents part (contents.contexts cpu.guest) (levels_of cpu.paging) lookup.address refusal of
walked_of P frames guests contents part cpu lookup refusal arrives (deed ∷ others) of at = need_of P frames guests contents part cpu lookup arrives (need_after frames cpu lookup (deed ∷ others)) of at

data_of : (P : Move → Type 0) (guests : List GuestSpec) (contents : Contents) (part : ActorPart) (cpu : Processor) (address : ℕ) (op : Op) → OfPlain P contents part → Arrives P (data_move guests contents part cpu address op)
data_of P guests contents part cpu address op of gpn private frame size = access_of P contents part _ _ op frame (index_of address) of

host_of : (P : Move → Type 0) (contents : Contents) (part : ActorPart) (address : ℕ) (op : Op) → OfPlain P contents part → P (host_access contents part address op)
unfolding host_access
host_of P contents part address op of = access_of P contents part _ _ op (address / 4096) (index_of address) of

-- instructions of the RMP: a lock, and then the commit
update_of : (P : Move → Type 0) (frames : ℕ) (view : View) (part : ActorPart) (update : Update) (locks : List PageLock) → OfPlain P view.contents part → P (update_move frames view part update locks)
unfolding update_move
update_of P frames view part update [] of = lock_of P view.contents part _ _ of
update_of P frames view part update (lock ∷ others) of = of.succeeds _ _

smash_of : (P : Move → Type 0) (frames : ℕ) (view : View) (part : ActorPart) (frame : ℕ) (locks : List PageLock) → OfPlain P view.contents part → P (smash_move frames view part frame locks)
unfolding smash_move
smash_of P frames view part frame [] of = lock_of P view.contents part _ _ of
smash_of P frames view part frame (lock ∷ others) of = of.succeeds _ _

validate_of : (P : Move → Type 0) (guests : List GuestSpec) (view : View) (part : ActorPart) (cpu : Processor) (size : PageSize) (validate : Bool) (locks : List PageLock) → OfPlain P view.contents part
    → Arrives P (validate_move guests view part cpu size validate locks)
unfolding validate_move
validate_of P guests view part cpu size validate [] of gpn private frame leaf = lock_of P view.contents part _ _ of
validate_of P guests view part cpu size validate (lock ∷ others) of gpn private frame leaf = of.carries _ _ _

adjust_of : (P : Move → Type 0) (guests : List GuestSpec) (view : View) (part : ActorPart) (cpu : Processor) (size : PageSize) (target mask : ℕ) (vmsa : Bool) (locks : List PageLock) → OfPlain P view.contents part
    → Arrives P (adjust_move guests view part cpu size target mask vmsa locks)
unfolding adjust_move
adjust_of P guests view part cpu size target mask vmsa [] of gpn private frame leaf = lock_of P view.contents part _ _ of
adjust_of P guests view part cpu size target mask vmsa (lock ∷ others) of gpn private frame leaf = of.succeeds _ _

phase_of_command : (P : Move → Type 0) (frames : ℕ) (guests : List GuestSpec) (view : View) (part : ActorPart) (command : Command) (phase : Phase) → OfCommand P view.contents part command
    → P (phase_move frames guests view part command phase)
unfolding phase_move take_context take_page
phase_of_command P frames guests view part command (TakeContext guest) of = of.takes guest _
phase_of_command P frames guests view part command (TakePage page) of = of.locks _ _
phase_of_command P frames guests view part command (Computing sealing) of = of.computes (compute_of view.contents sealing)
phase_of_command P frames guests view part command Committing of = of.commits

-- whether an item is a command of the firmware
abbrev pub is_command : Item → Bool
is_command (items.Firmware command) = true
is_command item = false

-- what holds of both holds of the event of every item
pub every_event : (P : Move → Type 0) (frames : ℕ) (guests : List GuestSpec) (view : View) (part : ActorPart) (role : Role) (item : Item) → (is_command item ≡ false → OfPlain P view.contents part)
    → ((command : Command) → item ≡ items.Firmware command → OfCommand P view.contents part command) → P (item_move frames guests view part role item)
unfolding item_move
every_event P frames guests view part (Cpu owner vmpl npt paging) (items.Access address op) of commands =
    let cpu : Processor = record { guest = owner; vmpl = vmpl; npt = npt; paging = paging } in
    walked_of P frames guests view.contents part cpu (lookup_of address op) None _ part.deeds (of refl) (data_of P guests view.contents part cpu address op (of refl))
every_event P frames guests view part (Cpu owner vmpl npt paging) (items.Pvalidate address size validate) of commands =
    let cpu : Processor = record { guest = owner; vmpl = vmpl; npt = npt; paging = paging } in
    walked_of P frames guests view.contents part cpu (page_lookup address) (validate_begin cpu address size) _ part.deeds (of refl) (validate_of P guests view part cpu size validate part.standing.locks (of refl))
every_event P frames guests view part (Cpu owner vmpl npt paging) (items.Rmpadjust address size target mask vmsa) of commands =
    let cpu : Processor = record { guest = owner; vmpl = vmpl; npt = npt; paging = paging } in
    walked_of P frames guests view.contents part cpu (page_lookup address) (adjust_begin cpu address size target mask) _ part.deeds (of refl)
    (adjust_of P guests view part cpu size target mask vmsa part.standing.locks (of refl))
every_event P frames guests view part Host (items.Access address op) of commands = host_of P view.contents part address op (of refl)
every_event P frames guests view part Host (items.Rmpupdate update) of commands = update_of P frames view part update part.standing.locks (of refl)
every_event P frames guests view part Host (items.Psmash frame) of commands = smash_of P frames view part frame part.standing.locks (of refl)
every_event P frames guests view part Firmware (items.Firmware command) of commands = phase_of_command P frames guests view part command (phase_of command part.standing) (commands command refl)
every_event P frames guests view part role (items.Firmware command) of commands = (commands command refl).misplaced
every_event P frames guests view part role (items.Access address op) of commands = (of refl).quiet _ _
every_event P frames guests view part role (items.Pvalidate address size validate) of commands = (of refl).quiet _ _
every_event P frames guests view part role (items.Rmpadjust address size target mask vmsa) of commands = (of refl).quiet _ _
every_event P frames guests view part role (items.Rmpupdate update) of commands = (of refl).quiet _ _
every_event P frames guests view part role (items.Psmash frame) of commands = (of refl).quiet _ _
every_event P frames guests view part (Cpu owner vmpl npt paging) (items.Skip count test) of commands = (of refl).quiet _ _
every_event P frames guests view part Host (items.Skip count test) of commands = (of refl).quiet _ _
every_event P frames guests view part Firmware (items.Skip count test) of commands = (of refl).quiet _ _
