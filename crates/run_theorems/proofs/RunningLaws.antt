-- A guest that runs goes on running, so no page is launched for it.
use Rattle.std.proofs.Common.{◌≡◌, ◌≢◌, ℕ, ◌-◌, Bool, true, false, nat_lt, slice_get, cond, not, ◌&&◌, List, [], ◌∷◌, Option, Some, None, Result, Ok, Err, refl, sym, ap, ◌∙◌, subst, inl, inr}
use Rattle.std.proofs.lemmas.Bool.{cases_eq, cond_both, eq-eqb, ne_eqb, true≢false}
use Rattle.snp_model.specs.declared.access.Verdict.{Verdict}
use Rattle.snp_model.specs.declared.access.Verdict.TheVariants.{Pass, Hidden, Fault}
use Rattle.snp_model.specs.declared.command.Command.{Command}
use Rattle.snp_model.specs.declared.command.Command.TheVariants as commands
use Rattle.snp_model.specs.declared.entry.PageSize.{PageSize}
use Rattle.snp_model.specs.declared.event.Deed.{Deed}
use Rattle.snp_model.specs.declared.event.Deed.TheVariants as deeds
use Rattle.snp_model.specs.declared.event.FwRefusal.{FwRefusal}
use Rattle.snp_model.specs.declared.event.FwRefusal.TheVariants as refusals
use Rattle.snp_model.specs.declared.event.Outcome.{Outcome}
use Rattle.snp_model.specs.declared.firmware.GuestState.{GuestState}
use Rattle.snp_model.specs.declared.firmware.GuestState.TheVariants.{Absent, Running}
use Rattle.snp_model.specs.declared.item.Item.{Item}
use Rattle.snp_model.specs.declared.item.Item.TheVariants as items
use Rattle.snp_model.specs.declared.item.Op.{Op}
use Rattle.snp_model.specs.declared.item.Update.{Update}
use Rattle.snp_model.specs.declared.scenario.GuestSpec.{GuestSpec}
use Rattle.snp_model.specs.declared.scenario.Role.{Role}
use Rattle.snp_model.specs.declared.scenario.Role.TheVariants.{Cpu, Host, Firmware}
use Rattle.snp_model.specs.declared.scenario.Scenario.{Scenario}
use Rattle.snp_model.specs.declared.walk.Lookup.{Lookup}
use Rattle.snp_model.specs.declared.walk.Need.{Need}
use Rattle.snp_model.specs.declared.walk.Need.TheVariants as needs
use Rattle.snp_model.specs.Firmware.{guest_of, has_equal_frames, invalid_param, invalid_guest_state}
use Rattle.snp_model.specs.FirmwareCommits.{at_guest, context_after, launched_into}
use Rattle.snp_model.specs.FirmwareLocks.{guest_refusal, context_refusal, takes_context, is_absent, is_init, is_launching}
use Rattle.snp_model.specs.FirmwareStep.{context_committed, contexts_after, context_taken, computed_move, commit_move, firmware_move}
use Rattle.snp_model.specs.GuestWalk.{is_canonical}
use Rattle.run_laws.specs.HeldLocks.{AreCommandLocks, AreItemLocks}
use Rattle.snp_model.specs.InstructionStep.{validate_move, adjust_move, update_move, smash_move}
use Rattle.snp_model.specs.Locks.{view_of}
use Rattle.snp_model.specs.Moves.{Move, Arrival, is_running, begin_move, table_move, need_move, walked_move, lock_move}
use Rattle.snp_model.specs.Opening.{opening, opening_context}
use Rattle.snp_model.specs.Run.{IsDefined, IsDefinedFrom, state_after, state_from}
use Rattle.snp_model.specs.ScenarioLines.{is_opened, opened_of}
use Rattle.snp_model.specs.Sound.{IsSound}
use Rattle.snp_model.specs.State.{Context, Contexts, Contents, Computed, ActorPart, PageLock, Pages, State, View, part_of}
use Rattle.snp_model.specs.Step.{access_move, host_access, item_move, event_of, after, line_at}
use Rattle.snp_model.specs.Walking.{Processor, need_after}
use Rattle.run_laws.proofs.CommandStages.{IsCommitting, by_stage}
use Rattle.run_laws.proofs.InOrder.{IsInOrder}
use Rattle.run_laws.proofs.LockLaws.{others_none}
use Rattle.run_laws.proofs.SealedRuns.{run_order}
use Rattle.run_laws.proofs.ShapedSteps.{order_after}
use Rattle.run_laws.proofs.OpeningOrder.{opening_order}
use Rattle.run_laws.proofs.TestedLaws.{let_through, not_false}

-- contexts stay in the events of processors
abbrev Keeps : Contents → Move → Type 0
Keeps contents move = move.contents.contexts ≡ contents.contexts

table_keeps : (frames : ℕ) (contents : Contents) (part : ActorPart) (cpu : Processor) (lookup : Lookup) (verdict : Verdict) (gpn index frame : ℕ) → Keeps contents (table_move frames contents part cpu lookup verdict gpn index frame)
unfolding table_move
table_keeps frames contents part cpu lookup Pass gpn index frame = refl
table_keeps frames contents part cpu lookup Hidden gpn index frame = refl
table_keeps frames contents part cpu lookup (Fault outcome) gpn index frame = refl

begin_keeps : (contents : Contents) (part : ActorPart) (context : Context) (levels address : ℕ) (refusal : Option Outcome) → Keeps contents (begin_move contents part context levels address refusal)
unfolding begin_move
begin_keeps contents part context levels address refusal =
    cond_both (not (is_running context.state)) _ _ (Keeps contents) (λ _. refl)
    (λ _. cond_both (not (is_canonical levels address)) _ _ (Keeps contents) (λ _. refl) (λ _. refl))

need_keeps : (frames : ℕ) (guests : List GuestSpec) (contents : Contents) (part : ActorPart) (cpu : Processor) (lookup : Lookup) (arrives : Arrival) (need : Need)
    → ((gpn : ℕ) (private : Bool) (frame : ℕ) (size : PageSize) → Keeps contents (arrives gpn private frame size)) → Keeps contents (need_move frames guests contents part cpu lookup arrives need)
unfolding need_move
need_keeps frames guests contents part cpu lookup arrives (needs.Nested frame index) arrival = refl
need_keeps frames guests contents part cpu lookup arrives (needs.Table gpn index frame size) arrival = table_keeps frames contents part cpu lookup _ gpn index frame
need_keeps frames guests contents part cpu lookup arrives (needs.Data gpn private frame size) arrival = arrival gpn private frame size
need_keeps frames guests contents part cpu lookup arrives (needs.Fault outcome) arrival = refl

walked_keeps : (frames : ℕ) (guests : List GuestSpec) (contents : Contents) (part : ActorPart) (cpu : Processor) (lookup : Lookup) (refusal : Option Outcome) (arrives : Arrival) (made : List Deed)
    → ((gpn : ℕ) (private : Bool) (frame : ℕ) (size : PageSize) → Keeps contents (arrives gpn private frame size)) → Keeps contents (walked_move frames guests contents part cpu lookup refusal arrives made)
unfolding walked_move
walked_keeps frames guests contents part cpu lookup refusal arrives [] arrival = begin_keeps contents part _ _ _ refusal
walked_keeps frames guests contents part cpu lookup refusal arrives (deed ∷ others) arrival = need_keeps frames guests contents part cpu lookup arrives (need_after frames cpu lookup (deed ∷ others)) arrival

access_keeps : (contents : Contents) (part : ActorPart) (deed : Deed) (verdict : Verdict) (op : Op) (frame index : ℕ) → Keeps contents (access_move contents part deed verdict op frame index)
unfolding access_move
access_keeps contents part deed Pass op frame index = refl
access_keeps contents part deed Hidden op frame index = refl
access_keeps contents part deed (Fault outcome) op frame index = refl

lock_keeps : (contents : Contents) (part : ActorPart) (lock : PageLock) (refusal : Option Outcome) → Keeps contents (lock_move contents part lock refusal)
unfolding lock_move
lock_keeps contents part lock None = refl
lock_keeps contents part lock (Some outcome) = refl

validate_keeps : (guests : List GuestSpec) (view : View) (part : ActorPart) (cpu : Processor) (size : PageSize) (validate : Bool) (locks : List PageLock) (gpn : ℕ) (private : Bool) (frame : ℕ) (leaf : PageSize)
    → Keeps view.contents (validate_move guests view part cpu size validate locks gpn private frame leaf)
unfolding validate_move
validate_keeps guests view part cpu size validate [] gpn private frame leaf = lock_keeps view.contents part _ _
validate_keeps guests view part cpu size validate (lock ∷ others) gpn private frame leaf = refl

adjust_keeps : (guests : List GuestSpec) (view : View) (part : ActorPart) (cpu : Processor) (size : PageSize) (target mask : ℕ) (vmsa : Bool) (locks : List PageLock) (gpn : ℕ) (private : Bool) (frame : ℕ) (leaf : PageSize)
    → Keeps view.contents (adjust_move guests view part cpu size target mask vmsa locks gpn private frame leaf)
unfolding adjust_move
adjust_keeps guests view part cpu size target mask vmsa [] gpn private frame leaf = lock_keeps view.contents part _ _
adjust_keeps guests view part cpu size target mask vmsa (lock ∷ others) gpn private frame leaf = refl

update_keeps : (frames : ℕ) (view : View) (part : ActorPart) (update : Update) (locks : List PageLock) → Keeps view.contents (update_move frames view part update locks)
unfolding update_move
update_keeps frames view part update [] = lock_keeps view.contents part _ _
update_keeps frames view part update (lock ∷ others) = refl

smash_keeps : (frames : ℕ) (view : View) (part : ActorPart) (frame : ℕ) (locks : List PageLock) → Keeps view.contents (smash_move frames view part frame locks)
unfolding smash_move
smash_keeps frames view part frame [] = lock_keeps view.contents part _ _
smash_keeps frames view part frame (lock ∷ others) = refl

host_keeps : (contents : Contents) (part : ActorPart) (address : ℕ) (op : Op) → Keeps contents (host_access contents part address op)
unfolding host_access
host_keeps contents part address op = access_keeps contents part _ _ op _ _

-- a command of the firmware takes no context that it may not
no_running : (is : GuestState → Bool) (state : GuestState) → is state ≡ true → is Running ≡ false → state ≡ Running → ⊥
no_running is state takes not_so running = true≢false (sym takes ∙ ap is running ∙ not_so)

may_left : (a b : Bool) → (a && b) ≡ true → a ≡ true
may_left true b e = refl
may_left false b e = e

goes_on : (command : Command) (gpn : ℕ) (words : List ℕ) (context : Context) → takes_context command context.state context.bound ≡ true → context.state ≡ Running → (context_after command gpn words context).state ≡ Running
unfolding takes_context context_after launched_into
goes_on (commands.GctxCreate guest frame) gpn words context takes run = absurd (no_running is_absent context.state takes refl run)
goes_on (commands.Activate guest asid) gpn words context takes run = run
goes_on (commands.LaunchStart guest) gpn words context takes run = absurd (no_running is_init context.state takes refl run)
goes_on (commands.LaunchUpdate guest frame page_type imi perms) gpn words context takes run = run
goes_on (commands.LaunchFinish guest) gpn words context takes run = refl
goes_on (commands.MdInit frame) gpn words context takes run = run
goes_on (commands.PageMove guest source target) gpn words context takes run = run
goes_on (commands.SwapOut guest source target metadata entry) gpn words context takes run = run
goes_on (commands.SwapIn guest source target metadata entry) gpn words context takes run = run
goes_on (commands.Reclaim frame) gpn words context takes run = run
goes_on (commands.MdOut guest source target metadata entry) gpn words context takes run = run
goes_on (commands.MdIn guest source target metadata entry) gpn words context takes run = run
goes_on (commands.MdRootOut guest source target) gpn words context takes run = run
goes_on (commands.MdRootIn guest source target) gpn words context takes run = run

taken : (guests : List GuestSpec) (command : Command) (context : Context) → context_refusal guests command context None ≡ None → takes_context command context.state context.bound ≡ true
unfolding context_refusal
taken guests command context none =
    let apart = let_through (has_equal_frames command) (refusals.Status invalid_param) _ none in
    not_false _ (let_through (not (takes_context command context.state context.bound)) (refusals.Status invalid_guest_state) _ apart.after_it).fails

committed : (frames : ℕ) (guests : List GuestSpec) (view : View) (part : ActorPart) (command : Command) (owner : ℕ) → IsCommitting frames guests view.contents command part.standing → guest_of command ≡ Some owner
    → takes_context command (view.contents.contexts owner).state (view.contents.contexts owner).bound ≡ true
committed frames guests view part command owner commits is =
    let of = commits.ready.tested.context owner (commits.ready.held owner is) in
    taken guests command (view.contents.contexts owner) (others_none (guest_refusal guests owner) _ of.passes)

context_goes_on : (command : Command) (made : Computed) (pages : Pages) (context : Context) → takes_context command context.state context.bound ≡ true → context.state ≡ Running → (context_committed command made pages context).state ≡ Running
unfolding context_committed
context_goes_on command made pages context is run = goes_on command _ _ context is run

contexts_go_on : (owner : Option ℕ) (command : Command) (made : Computed) (pages : Pages) (contexts : Contexts) (g : ℕ)
    → ((guest : ℕ) → owner ≡ Some guest → takes_context command (contexts guest).state (contexts guest).bound ≡ true) → (contexts g).state ≡ Running
    → (contexts_after owner command made pages contexts g).state ≡ Running
unfolding contexts_after at_guest
contexts_go_on None command made pages contexts g takes run = run
contexts_go_on (Some owner) command made pages contexts g takes run =
    elim (cases_eq owner g) [
      | inl same ↦
          subst (λ (b : Bool). (cond b (context_committed command made pages (contexts owner)) (contexts g)).state ≡ Running) (sym (eq-eqb owner g same))
          (context_goes_on command made pages (contexts owner) (takes owner refl) (ap (λ (k : ℕ). (contexts k).state) same ∙ run))
      | inr differs ↦ subst (λ (b : Bool). (cond b (context_committed command made pages (contexts owner)) (contexts g)).state ≡ Running) (sym (ne_eqb owner g differs)) run
    ]

-- a guest runs on
abbrev RunsOn : ℕ → Contents → Move → Type 0
RunsOn g contents move = (contents.contexts g).state ≡ Running → (move.contents.contexts g).state ≡ Running

kept : (g : ℕ) (contents : Contents) (contexts : Contexts) → contexts ≡ contents.contexts → (contents.contexts g).state ≡ Running → (contexts g).state ≡ Running
kept g contents contexts keeps run = ap (λ (cs : Contexts). (cs g).state) keeps ∙ run

takes_on : (g : ℕ) (contents : Contents) (part : ActorPart) (guest : ℕ) (refusal : Option FwRefusal) → RunsOn g contents (context_taken contents part guest refusal)
unfolding context_taken
takes_on g contents part guest None run = run
takes_on g contents part guest (Some refusal) run = run

computes_on : (g : ℕ) (contents : Contents) (part : ActorPart) (r : Result Computed FwRefusal) → RunsOn g contents (computed_move contents part r)
unfolding computed_move
computes_on g contents part (Ok made) run = run
computes_on g contents part (Err refusal) run = run

commits_on : (frames : ℕ) (guests : List GuestSpec) (g : ℕ) (view : View) (part : ActorPart) (command : Command) → IsCommitting frames guests view.contents command part.standing → RunsOn g view.contents (commit_move view.contents part command)
unfolding commit_move
commits_on frames guests g view part command commits run =
    contexts_go_on (guest_of command) command _ _ view.contents.contexts g (λ owner is. committed frames guests view part command owner commits is) run

firmware_on : (frames : ℕ) (guests : List GuestSpec) (g : ℕ) (view : View) (part : ActorPart) (command : Command) → AreCommandLocks frames guests view.contents command part.standing → RunsOn g view.contents (firmware_move frames guests view part command)
firmware_on frames guests g view part command tested =
    by_stage (RunsOn g view.contents) frames guests view part command
    (record {
      takes = λ guest refusal. takes_on g view.contents part guest refusal;
      locks = λ lock refusal. kept g view.contents _ (lock_keeps view.contents part lock refusal);
      computes = λ sealing is ready. computes_on g view.contents part _;
      commits = λ commits. commits_on frames guests g view part command commits;
    }) tested

item_on : (frames : ℕ) (guests : List GuestSpec) (g : ℕ) (view : View) (part : ActorPart) (role : Role) (item : Item) → AreItemLocks frames guests view.contents role item part.deeds part.standing → RunsOn g view.contents (item_move frames guests view part role item)
unfolding item_move AreItemLocks
item_on frames guests g view part (Cpu guest vmpl npt paging) (items.Access address op) tested =
    kept g view.contents _ (walked_keeps frames guests view.contents part _ _ None _ part.deeds (λ gpn private frame size. access_keeps view.contents part _ _ op frame _))
item_on frames guests g view part (Cpu guest vmpl npt paging) (items.Pvalidate address size validate) tested =
    kept g view.contents _ (walked_keeps frames guests view.contents part _ _ _ _ part.deeds (λ gpn private frame leaf. validate_keeps guests view part _ size validate part.standing.locks gpn private frame leaf))
item_on frames guests g view part (Cpu guest vmpl npt paging) (items.Rmpadjust address size target mask vmsa) tested =
    kept g view.contents _ (walked_keeps frames guests view.contents part _ _ _ _ part.deeds (λ gpn private frame leaf. adjust_keeps guests view part _ size target mask vmsa part.standing.locks gpn private frame leaf))
item_on frames guests g view part (Cpu guest vmpl npt paging) (items.Rmpupdate update) tested = λ run. run
item_on frames guests g view part (Cpu guest vmpl npt paging) (items.Psmash frame) tested = λ run. run
item_on frames guests g view part (Cpu guest vmpl npt paging) (items.Firmware command) tested = λ run. run
item_on frames guests g view part (Cpu guest vmpl npt paging) (items.Skip count test) tested = λ run. run
item_on frames guests g view part Host (items.Access address op) tested = kept g view.contents _ (host_keeps view.contents part address op)
item_on frames guests g view part Host (items.Pvalidate address size validate) tested = λ run. run
item_on frames guests g view part Host (items.Rmpadjust address size target mask vmsa) tested = λ run. run
item_on frames guests g view part Host (items.Rmpupdate update) tested = kept g view.contents _ (update_keeps frames view part update part.standing.locks)
item_on frames guests g view part Host (items.Psmash frame) tested = kept g view.contents _ (smash_keeps frames view part frame part.standing.locks)
item_on frames guests g view part Host (items.Firmware command) tested = λ run. run
item_on frames guests g view part Host (items.Skip count test) tested = λ run. run
item_on frames guests g view part Firmware (items.Access address op) tested = λ run. run
item_on frames guests g view part Firmware (items.Pvalidate address size validate) tested = λ run. run
item_on frames guests g view part Firmware (items.Rmpadjust address size target mask vmsa) tested = λ run. run
item_on frames guests g view part Firmware (items.Rmpupdate update) tested = λ run. run
item_on frames guests g view part Firmware (items.Psmash frame) tested = λ run. run
item_on frames guests g view part Firmware (items.Firmware command) tested = firmware_on frames guests g view part command tested
item_on frames guests g view part Firmware (items.Skip count test) tested = λ run. run

step_on : (m : State) (actor g : ℕ) → IsInOrder m → (m.contents.contexts g).state ≡ Running → ((after m actor).contents.contexts g).state ≡ Running
unfolding after
step_on m actor g order run = item_on m.frames m.guests g (view_of m) (part_of m actor) (part_of m actor).role _ (order.locks.tested (actor - 1)) run

state_on : (m : State) (s : List ℕ) (g : ℕ) → IsInOrder m → IsDefinedFrom m s → (m.contents.contexts g).state ≡ Running → ((state_from m s).contents.contexts g).state ≡ Running
unfolding state_from IsDefinedFrom
state_on m [] g order defined run = run
state_on m (actor ∷ actors) g order defined run = state_on (after m actor) actors g (order_after m actor defined.0 order) defined.1 (step_on m actor g order run)

pub run_running : (c : Scenario) (s : List ℕ) (g : ℕ) → IsSound c → IsDefined c s → ((opening c).contents.contexts g).state ≡ Running → ((state_after c s).contents.contexts g).state ≡ Running
run_running c s g sound defined run = state_on (opening c) s g (opening_order c sound) defined run

-- no page is launched for a guest that runs: the lock of its context is refused
abbrev NoCommit : Contents → ℕ → Move → Type 0
NoCommit contents guest move = (contents.contexts guest).state ≡ Running → (frame gpn : ℕ) (size : PageSize) → move.deed ≢ deeds.Commit frame gpn size

takes_none : (contents : Contents) (part : ActorPart) (owner guest : ℕ) (refusal : Option FwRefusal) → NoCommit contents guest (context_taken contents part owner refusal)
unfolding context_taken
takes_none contents part owner guest None run frame gpn size is = cc
takes_none contents part owner guest (Some refusal) run frame gpn size is = cc

locks_none : (contents : Contents) (part : ActorPart) (guest : ℕ) (lock : PageLock) (refusal : Option Outcome) → NoCommit contents guest (lock_move contents part lock refusal)
unfolding lock_move
locks_none contents part guest lock None run frame gpn size is = cc
locks_none contents part guest lock (Some outcome) run frame gpn size is = cc

computes_none : (contents : Contents) (part : ActorPart) (guest : ℕ) (r : Result Computed FwRefusal) → NoCommit contents guest (computed_move contents part r)
unfolding computed_move
computes_none contents part guest (Ok made) run frame gpn size is = cc
computes_none contents part guest (Err refusal) run frame gpn size is = cc

launch_takes : (guest f page_type : ℕ) (imi : Bool) (perms : List ℕ) (state : GuestState) (bound : Bool) → takes_context (commands.LaunchUpdate guest f page_type imi perms) state bound ≡ true → state ≡ Running → ⊥
unfolding takes_context
launch_takes guest f page_type imi perms state bound takes run = no_running is_launching state (may_left _ bound takes) refl run

launches_none : (frames : ℕ) (guests : List GuestSpec) (view : View) (part : ActorPart) (guest f page_type : ℕ) (imi : Bool) (perms : List ℕ) → AreCommandLocks frames guests view.contents (commands.LaunchUpdate guest f page_type imi perms) part.standing
    → NoCommit view.contents guest (firmware_move frames guests view part (commands.LaunchUpdate guest f page_type imi perms))
unfolding guest_of
launches_none frames guests view part guest f page_type imi perms tested =
    let command = commands.LaunchUpdate guest f page_type imi perms in
    by_stage (NoCommit view.contents guest) frames guests view part command
    (record {
      takes = λ owner refusal. takes_none view.contents part owner guest refusal;
      locks = λ lock refusal. locks_none view.contents part guest lock refusal;
      computes = λ sealing is ready. computes_none view.contents part guest _;
      commits = λ commits run frame gpn size is.
          launch_takes guest f page_type imi perms (view.contents.contexts guest).state (view.contents.contexts guest).bound (committed frames guests view part command guest commits refl) run;
    }) tested

launched : (c : Scenario) (s : List ℕ) (actor guest f page_type frame gpn : ℕ) (imi : Bool) (perms : List ℕ) (size : PageSize)
    → AreItemLocks (state_after c s).frames (state_after c s).guests (state_after c s).contents Firmware (items.Firmware (commands.LaunchUpdate guest f page_type imi perms)) (part_of (state_after c s) actor).deeds (part_of (state_after c s) actor).standing
    → ((state_after c s).contents.contexts guest).state ≡ Running
    → (item_move (state_after c s).frames (state_after c s).guests (view_of (state_after c s)) (part_of (state_after c s) actor) Firmware (items.Firmware (commands.LaunchUpdate guest f page_type imi perms))).deed ≢ deeds.Commit frame gpn size
unfolding item_move AreItemLocks
launched c s actor guest f page_type frame gpn imi perms size tested run =
    let m = state_after c s in
    launches_none m.frames m.guests (view_of m) (part_of m actor) guest f page_type imi perms tested run frame gpn size

pub no_launch : (c : Scenario) (s : List ℕ) (actor guest f page_type frame gpn : ℕ) (imi : Bool) (perms : List ℕ) (size : PageSize) → IsSound c → IsDefined c s → ((opening c).contents.contexts guest).state ≡ Running
    → (part_of (state_after c s) actor).role ≡ Firmware → (line_at (part_of (state_after c s) actor).script (part_of (state_after c s) actor).item).item ≡ items.Firmware (commands.LaunchUpdate guest f page_type imi perms)
    → (event_of (state_after c s) actor).deed ≢ deeds.Commit frame gpn size
unfolding event_of
no_launch c s actor guest f page_type frame gpn imi perms size sound defined opens is launch =
    let m = state_after c s in
    let part = part_of m actor in
    let item = (line_at part.script part.item).item in
    let order = run_order c s sound defined in
    let tested = subst (λ (i : Item). AreItemLocks m.frames m.guests m.contents Firmware i part.deeds part.standing) launch (subst (λ (r : Role). AreItemLocks m.frames m.guests m.contents r item part.deeds part.standing) is (order.locks.tested (actor - 1))) in
    subst (λ (r : Role). (item_move m.frames m.guests (view_of m) part r item).deed ≢ deeds.Commit frame gpn size) (sym is)
    (subst (λ (i : Item). (item_move m.frames m.guests (view_of m) part Firmware i).deed ≢ deeds.Commit frame gpn size) (sym launch)
    (launched c s actor guest f page_type frame gpn imi perms size tested (run_running c s guest sound defined opens)))

-- a guest that the scenario opens runs at the opening
opened_state : (spec : Option GuestSpec) → opened_of spec ≡ true → (opening_context spec).state ≡ Running
unfolding opening_context
opened_state None is = absurd (true≢false (sym is))
opened_state (Some spec) is = ap (λ (b : Bool). cond b Running Absent) is

may_right : (a b : Bool) → (a && b) ≡ true → b ≡ true
may_right true b e = e
may_right false b e = absurd (true≢false (sym e))

pub opened_runs : (c : Scenario) (g : ℕ) → is_opened c.guests g ≡ true → ((opening c).contents.contexts g).state ≡ Running
unfolding is_opened opening
opened_runs c g is = opened_state (slice_get c.guests (g - 1)) (may_right (nat_lt 0 g) _ is)
