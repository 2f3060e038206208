-- An access of a guest's processor is at a frame of memory and at a guest page number, and no other event is one.
use Rattle.std.proofs.Common.{◌≡◌, ℕ, ◌-◌, ◌%◌, ◌^◌, ◌<◌, Bool, true, false, nat_lt, not, ◌&&◌, ◌||◌, eqb, List, [], ◌∷◌, length, Option, Some, None, Result, Ok, Err, refl, sym, ap, ◌∙◌, subst, arith}
use Rattle.std.proofs.lemmas.Bool.{cond_both}
use Rattle.std.proofs.lemmas.Bool.Decides.{nat_tests}
use Rattle.snp_model.specs.declared.access.Verdict.{Verdict}
use Rattle.snp_model.specs.declared.access.Verdict.TheVariants.{Pass, Hidden, Fault}
use Rattle.snp_model.specs.declared.command.Command.{Command}
use Rattle.snp_model.specs.declared.command.Command.TheVariants as commands
use Rattle.snp_model.specs.declared.entry.PageSize.{PageSize}
use Rattle.snp_model.specs.declared.event.Deed.{Deed}
use Rattle.snp_model.specs.declared.event.Event.{Event}
use Rattle.snp_model.specs.declared.event.FwRefusal.{FwRefusal}
use Rattle.snp_model.specs.declared.event.Outcome.{Outcome}
use Rattle.snp_model.specs.declared.item.Item.{Item}
use Rattle.snp_model.specs.declared.item.Item.TheVariants as items
use Rattle.snp_model.specs.declared.item.Op.{Op}
use Rattle.snp_model.specs.declared.item.Update.{Update}
use Rattle.snp_model.specs.declared.scenario.GuestSpec.{GuestSpec}
use Rattle.snp_model.specs.declared.scenario.Paging.{Paging}
use Rattle.snp_model.specs.declared.scenario.Paging.TheVariants.{Flat, Four, Five}
use Rattle.snp_model.specs.declared.scenario.Role.{Role}
use Rattle.snp_model.specs.declared.scenario.Role.TheVariants.{Cpu, Host, Firmware}
use Rattle.snp_model.specs.declared.scenario.Scenario.{Scenario}
use Rattle.snp_model.specs.declared.walk.GuestEnd.{GuestEnd}
use Rattle.snp_model.specs.declared.walk.GuestEnd.TheVariants as guest_ends
use Rattle.snp_model.specs.declared.walk.GuestPath.{GuestPath}
use Rattle.snp_model.specs.declared.walk.Lookup.{Lookup}
use Rattle.snp_model.specs.declared.walk.Need.{Need}
use Rattle.snp_model.specs.declared.walk.Need.TheVariants as needs
use Rattle.snp_model.specs.declared.walk.NestedEnd.{NestedEnd}
use Rattle.snp_model.specs.declared.walk.NestedEnd.TheVariants as ends
use Rattle.snp_model.specs.declared.walk.NestedPath.{NestedPath}
use Rattle.snp_model.specs.Bounds.{IsPaging, IsGuestInside, IsRole}
use Rattle.snp_model.specs.FirmwareStep.{Phase, TakeContext, TakePage, Computing, Committing, phase_move, take_context, context_taken, take_page, computed_move, commit_deed, commit_move, firmware_move}
use Rattle.snp_model.specs.GuestWalk.{is_canonical, guest_index, gpn_below, after_guest_word, guest_walk_from, guest_end}
use Rattle.snp_model.specs.InstructionStep.{page_lookup, validate_move, adjust_move, update_move, smash_move}
use Rattle.snp_model.specs.Journal.{actors_of}
use Rattle.snp_model.specs.Journals.{IsRun, state_at}
use Rattle.snp_model.specs.Locks.{view_of}
use Rattle.snp_model.specs.Moves.{Move, Arrival, is_running, begin_move, table_move, need_move, walked_move, lock_move}
use Rattle.snp_model.specs.NestedWalk.{is_large_leaf, has_bit, frame_below, after_word, walk_from, nested_end, nested_index}
use Rattle.snp_model.specs.ScenarioLines.{frames_of}
use Rattle.snp_model.specs.Sealing.{Sealing}
use Rattle.snp_model.specs.Sound.{IsSound}
use Rattle.snp_model.specs.State.{Computed, Context, Contents, ActorPart, State, View, PageLock, idle_part, part_of, IsUnfinished}
use Rattle.snp_model.specs.Step.{access_move, data_move, host_access, item_move, event_of, line_at}
use Rattle.snp_model.specs.Walking.{Processor, guest_stands, guest_path, counting, flat_gpn, index_of, lookup_of, table_path, data_path, table_need, data_need, walk_need, need_after}
use Rattle.run_laws.specs.Ready.{AreReady}
use Rattle.run_laws.proofs.ReadyLaws.{run_ready}
use Rattle.run_laws.proofs.RunLaws.{unfinished_at}
use Rattle.growing_runs.specs.Drives.{IsDeedInside}

-- guest walks lead to guest page numbers
gpn_in : (path : GuestPath) (level word : ℕ) → gpn_below path level word < 2 ^ 36
gpn_in path level word = grind (arith, nat_tests)

index_in : (path : GuestPath) (level : ℕ) → guest_index path.address level < 512
index_in path level = grind (arith)

word_in : (path : GuestPath) (level word : ℕ) → IsGuestInside (after_guest_word path level word)
unfolding after_guest_word
word_in path level word =
    cond_both (not (has_bit word 0x1)) _ _ IsGuestInside (λ _. tt)
    (λ _. cond_both (path.write && not (has_bit word 0x2)) _ _ IsGuestInside (λ _. tt)
    (λ _. cond_both (is_large_leaf level word) _ _ IsGuestInside (λ _. gpn_in path level word)
    (λ _. cond_both (eqb level 1) _ _ IsGuestInside (λ _. gpn_in path level word) (λ _. (gpn_in path level word, index_in path (level - 1))))))

guest_in : (path : GuestPath) (level : ℕ) (stands : GuestEnd) (words : List ℕ) → IsGuestInside stands → IsGuestInside (guest_walk_from path level stands words)
unfolding guest_walk_from
guest_in path level (guest_ends.Read gpn index) [] inside = inside
guest_in path level (guest_ends.Read gpn index) (word ∷ words) inside = guest_in path (level - 1) (after_guest_word path level word) words (word_in path level word)
guest_in path level (guest_ends.Leaf gpn private size) words inside = inside
guest_in path level (guest_ends.Fault code) words inside = inside

counting_in : (c_bit : Bool) (stands : GuestEnd) → IsGuestInside stands → IsGuestInside (counting c_bit stands)
counting_in c_bit (guest_ends.Read gpn index) inside = inside
counting_in c_bit (guest_ends.Leaf gpn private size) inside = inside
counting_in c_bit (guest_ends.Fault code) inside = inside

flat_in : (address : ℕ) → flat_gpn address < 2 ^ 36
flat_in address = grind (arith)

stands_in : (paging : Paging) (lookup : Lookup) (words : List ℕ) → IsPaging paging → IsGuestInside (guest_stands paging lookup words)
unfolding guest_stands
stands_in Flat lookup words root = flat_in lookup.address
stands_in (Four r) lookup words root =
    let path = guest_path (Four r) r lookup in
    counting_in lookup.c_bit (guest_end path words) (guest_in path path.levels (guest_ends.Read r (guest_index path.address path.levels)) words (root, index_in path path.levels))
stands_in (Five r) lookup words root =
    let path = guest_path (Five r) r lookup in
    counting_in lookup.c_bit (guest_end path words) (guest_in path path.levels (guest_ends.Read r (guest_index path.address path.levels)) words (root, index_in path path.levels))

-- nested walks lead to frames of memory
abbrev LeafIn : ℕ → NestedEnd → Type 0
LeafIn frames (ends.Read frame index) = Unit {0}
LeafIn frames (ends.Leaf frame size) = frame < frames
LeafIn frames (ends.Fault code) = Unit {0}

tested_below : (absent : Bool) (frame frames : ℕ) → (absent || not (nat_lt frame frames)) ≡ false → frame < frames
tested_below true frame frames is = cc
tested_below false frame frames is = grind (arith, nat_tests)

nested_word_in : (path : NestedPath) (level word : ℕ) → LeafIn path.frames (after_word path level word)
unfolding after_word
nested_word_in path level word =
    let P = LeafIn path.frames in
    cond_both (not (has_bit word 0x1) || not (nat_lt (frame_below path level word) path.frames)) _ _ P (λ _. tt)
    (λ is.
    let below = tested_below (not (has_bit word 0x1)) (frame_below path level word) path.frames is in
    cond_both (not (has_bit word 0x4)) _ _ P (λ _. tt)
    (λ _. cond_both ((path.write || path.table) && not (has_bit word 0x2)) _ _ P (λ _. tt)
    (λ _. cond_both (is_large_leaf level word) _ _ P (λ _. below)
    (λ _. cond_both (eqb level 1) _ _ P (λ _. below) (λ _. tt)))))

nested_in : (path : NestedPath) (level : ℕ) (stands : NestedEnd) (words : List ℕ) → LeafIn path.frames stands → LeafIn path.frames (walk_from path level stands words)
unfolding walk_from
nested_in path level (ends.Read frame index) [] inside = inside
nested_in path level (ends.Read frame index) (word ∷ words) inside = nested_in path (level - 1) (after_word path level word) words (nested_word_in path level word)
nested_in path level (ends.Leaf frame size) words inside = inside
nested_in path level (ends.Fault code) words inside = inside

nested_end_in : (path : NestedPath) (words : List ℕ) → LeafIn path.frames (nested_end path words)
nested_end_in path words = nested_in path 4 (ends.Read path.root (nested_index path.gpn 4)) words tt

-- so what an item needs
abbrev DataIn : ℕ → Need → Type 0
DataIn frames (needs.Nested frame index) = Unit {0}
DataIn frames (needs.Table gpn index frame size) = Unit {0}
DataIn frames (needs.Data gpn private frame size) = (gpn < 2 ^ 36) × (frame < frames)
DataIn frames (needs.Fault outcome) = Unit {0}

table_need_in : (frames gpn index : ℕ) (stands : NestedEnd) → DataIn frames (table_need gpn index stands)
table_need_in frames gpn index (ends.Read frame place) = tt
table_need_in frames gpn index (ends.Leaf frame size) = tt
table_need_in frames gpn index (ends.Fault code) = tt

data_need_in : (frames gpn : ℕ) (private : Bool) (stands : NestedEnd) → gpn < 2 ^ 36 → LeafIn frames stands → DataIn frames (data_need gpn private stands)
data_need_in frames gpn private (ends.Read frame place) g inside = tt
data_need_in frames gpn private (ends.Leaf frame size) g inside = (g, inside)
data_need_in frames gpn private (ends.Fault code) g inside = tt

need_in : (frames npt : ℕ) (lookup : Lookup) (stands : GuestEnd) (words : List ℕ) → IsGuestInside stands → DataIn frames (walk_need frames npt lookup stands words)
unfolding walk_need
need_in frames npt lookup (guest_ends.Read gpn index) words inside = table_need_in frames gpn index (nested_end (table_path frames npt gpn) words)
need_in frames npt lookup (guest_ends.Leaf gpn private size) words inside = data_need_in frames gpn private _ inside (nested_end_in (data_path frames npt gpn private lookup) words)
need_in frames npt lookup (guest_ends.Fault code) words inside = tt

-- moves
abbrev IsMoveInside : ℕ → Move → Type 0
IsMoveInside frames move = IsDeedInside frames move.deed

table_inside : (frames : ℕ) (contents : Contents) (part : ActorPart) (cpu : Processor) (lookup : Lookup) (verdict : Verdict) (gpn index frame : ℕ) → IsMoveInside frames (table_move frames contents part cpu lookup verdict gpn index frame)
unfolding table_move
table_inside frames contents part cpu lookup Pass gpn index frame = tt
table_inside frames contents part cpu lookup Hidden gpn index frame = tt
table_inside frames contents part cpu lookup (Fault outcome) gpn index frame = tt

begin_inside : (frames : ℕ) (contents : Contents) (part : ActorPart) (context : Context) (levels address : ℕ) (refusal : Option Outcome) → IsMoveInside frames (begin_move contents part context levels address refusal)
unfolding begin_move
begin_inside frames contents part context levels address refusal =
    let P = IsMoveInside frames in
    cond_both (not (is_running context.state)) _ _ P (λ _. tt) (λ _. cond_both (not (is_canonical levels address)) _ _ P (λ _. tt) (λ _. tt))

abbrev ArrivesInside : ℕ → Arrival → Type 0
ArrivesInside frames arrives = (gpn : ℕ) (private : Bool) (frame : ℕ) (size : PageSize) → gpn < 2 ^ 36 → frame < frames → IsMoveInside frames (arrives gpn private frame size)

need_inside : (frames : ℕ) (guests : List GuestSpec) (contents : Contents) (part : ActorPart) (cpu : Processor) (lookup : Lookup) (arrives : Arrival) (need : Need)
    → DataIn frames need → ArrivesInside frames arrives → IsMoveInside frames (need_move frames guests contents part cpu lookup arrives need)
unfolding need_move
need_inside frames guests contents part cpu lookup arrives (needs.Nested frame index) inside arrival = tt
need_inside frames guests contents part cpu lookup arrives (needs.Table gpn index frame size) inside arrival = table_inside frames contents part cpu lookup _ gpn index frame
need_inside frames guests contents part cpu lookup arrives (needs.Data gpn private frame size) inside arrival = arrival gpn private frame size inside.0 inside.1
need_inside frames guests contents part cpu lookup arrives (needs.Fault outcome) inside arrival = tt

walked_inside : (frames : ℕ) (guests : List GuestSpec) (contents : Contents) (part : ActorPart) (cpu : Processor) (lookup : Lookup) (refusal : Option Outcome) (arrives : Arrival) (made : List Deed)
    → IsPaging cpu.paging → ArrivesInside frames arrives → IsMoveInside frames (walked_move frames guests contents part cpu lookup refusal arrives made)
unfolding walked_move
walked_inside frames guests contents part cpu lookup refusal arrives [] paging arrival = begin_inside frames contents part _ _ _ refusal
walked_inside frames guests contents part cpu lookup refusal arrives (deed ∷ others) paging arrival =
    need_inside frames guests contents part cpu lookup arrives (need_after frames cpu lookup (deed ∷ others)) (need_in frames cpu.npt lookup _ _ (stands_in cpu.paging lookup _ paging)) arrival

access_inside : (frames : ℕ) (contents : Contents) (part : ActorPart) (deed : Deed) (verdict : Verdict) (op : Op) (frame index : ℕ) → IsDeedInside frames deed → IsMoveInside frames (access_move contents part deed verdict op frame index)
unfolding access_move
access_inside frames contents part deed Pass op frame index inside = inside
access_inside frames contents part deed Hidden op frame index inside = inside
access_inside frames contents part deed (Fault outcome) op frame index inside = inside

lock_inside : (frames : ℕ) (contents : Contents) (part : ActorPart) (lock : PageLock) (refusal : Option Outcome) → IsMoveInside frames (lock_move contents part lock refusal)
unfolding lock_move
lock_inside frames contents part lock None = tt
lock_inside frames contents part lock (Some outcome) = tt

validate_inside : (frames : ℕ) (guests : List GuestSpec) (view : View) (part : ActorPart) (cpu : Processor) (size : PageSize) (validate : Bool) (locks : List PageLock)
    → ArrivesInside frames (validate_move guests view part cpu size validate locks)
unfolding validate_move
validate_inside frames guests view part cpu size validate [] gpn private frame leaf g f = lock_inside frames view.contents part _ _
validate_inside frames guests view part cpu size validate (lock ∷ others) gpn private frame leaf g f = tt

adjust_inside : (frames : ℕ) (guests : List GuestSpec) (view : View) (part : ActorPart) (cpu : Processor) (size : PageSize) (target mask : ℕ) (vmsa : Bool) (locks : List PageLock)
    → ArrivesInside frames (adjust_move guests view part cpu size target mask vmsa locks)
unfolding adjust_move
adjust_inside frames guests view part cpu size target mask vmsa [] gpn private frame leaf g f = lock_inside frames view.contents part _ _
adjust_inside frames guests view part cpu size target mask vmsa (lock ∷ others) gpn private frame leaf g f = tt

update_inside : (frames : ℕ) (view : View) (part : ActorPart) (update : Update) (locks : List PageLock) → IsMoveInside frames (update_move frames view part update locks)
unfolding update_move
update_inside frames view part update [] = lock_inside frames view.contents part _ _
update_inside frames view part update (lock ∷ others) = tt

smash_inside : (frames : ℕ) (view : View) (part : ActorPart) (frame : ℕ) (locks : List PageLock) → IsMoveInside frames (smash_move frames view part frame locks)
unfolding smash_move
smash_inside frames view part frame [] = lock_inside frames view.contents part _ _
smash_inside frames view part frame (lock ∷ others) = tt

-- commands of the firmware
context_inside : (frames : ℕ) (contents : Contents) (part : ActorPart) (guest : ℕ) (refusal : Option FwRefusal) → IsMoveInside frames (context_taken contents part guest refusal)
unfolding context_taken
context_inside frames contents part guest None = tt
context_inside frames contents part guest (Some refusal) = tt

compute_inside : (frames : ℕ) (contents : Contents) (part : ActorPart) (result : Result Computed FwRefusal) → IsMoveInside frames (computed_move contents part result)
unfolding computed_move
compute_inside frames contents part (Ok made) = tt
compute_inside frames contents part (Err refusal) = tt

commit_inside : (frames : ℕ) (contents : Contents) (part : ActorPart) (command : Command) → IsMoveInside frames (commit_move contents part command)
unfolding commit_move commit_deed
commit_inside frames contents part (commands.GctxCreate guest frame) = tt
commit_inside frames contents part (commands.Activate guest asid) = tt
commit_inside frames contents part (commands.LaunchStart guest) = tt
commit_inside frames contents part (commands.LaunchUpdate guest frame page_type imi perms) = tt
commit_inside frames contents part (commands.LaunchFinish guest) = tt
commit_inside frames contents part (commands.MdInit frame) = tt
commit_inside frames contents part (commands.PageMove guest source target) = tt
commit_inside frames contents part (commands.SwapOut guest source target metadata entry) = tt
commit_inside frames contents part (commands.SwapIn guest source target metadata entry) = tt
commit_inside frames contents part (commands.Reclaim frame) = tt
commit_inside frames contents part (commands.MdOut guest source target metadata entry) = tt
commit_inside frames contents part (commands.MdIn guest source target metadata entry) = tt
commit_inside frames contents part (commands.MdRootOut guest source target) = tt
commit_inside frames contents part (commands.MdRootIn guest source target) = tt

phase_inside : (frames : ℕ) (guests : List GuestSpec) (view : View) (part : ActorPart) (command : Command) (phase : Phase) → IsMoveInside frames (phase_move frames guests view part command phase)
unfolding phase_move take_context take_page
phase_inside frames guests view part command (TakeContext guest) = context_inside frames view.contents part guest _
phase_inside frames guests view part command (TakePage page) = lock_inside frames view.contents part _ _
phase_inside frames guests view part command (Computing sealing) = compute_inside frames view.contents part _
phase_inside frames guests view part command Committing = commit_inside frames view.contents part command

-- every item of every role
abbrev IsRoleInside : Role → Type 0
IsRoleInside (Cpu guest vmpl npt paging) = IsPaging paging
IsRoleInside Host = Unit {0}
IsRoleInside Firmware = Unit {0}

role_inside : (frames guests : ℕ) (role : Role) → IsRole frames guests role → IsRoleInside role
role_inside frames guests (Cpu guest vmpl npt paging) is = is.root_below
role_inside frames guests Host is = tt
role_inside frames guests Firmware is = tt

item_inside : (frames : ℕ) (guests : List GuestSpec) (view : View) (part : ActorPart) (role : Role) (item : Item) → IsRoleInside role → IsMoveInside frames (item_move frames guests view part role item)
unfolding item_move host_access
item_inside frames guests view part (Cpu guest vmpl npt paging) (items.Access address op) root =
    let cpu : Processor = record { guest = guest; vmpl = vmpl; npt = npt; paging = paging } in
    walked_inside frames guests view.contents part cpu (lookup_of address op) None (data_move guests view.contents part cpu address op) part.deeds root
    (λ gpn private frame size g f. access_inside frames view.contents part _ _ op frame _ (g, f))
item_inside frames guests view part (Cpu guest vmpl npt paging) (items.Pvalidate address size validate) root =
    let cpu : Processor = record { guest = guest; vmpl = vmpl; npt = npt; paging = paging } in
    walked_inside frames guests view.contents part cpu (page_lookup address) _ _ part.deeds root (validate_inside frames guests view part cpu size validate part.standing.locks)
item_inside frames guests view part (Cpu guest vmpl npt paging) (items.Rmpadjust address size target mask vmsa) root =
    let cpu : Processor = record { guest = guest; vmpl = vmpl; npt = npt; paging = paging } in
    walked_inside frames guests view.contents part cpu (page_lookup address) _ _ part.deeds root (adjust_inside frames guests view part cpu size target mask vmsa part.standing.locks)
item_inside frames guests view part (Cpu guest vmpl npt paging) (items.Rmpupdate update) root = tt
item_inside frames guests view part (Cpu guest vmpl npt paging) (items.Psmash frame) root = tt
item_inside frames guests view part (Cpu guest vmpl npt paging) (items.Firmware command) root = tt
item_inside frames guests view part (Cpu guest vmpl npt paging) (items.Skip count test) root = tt
item_inside frames guests view part Host (items.Access address op) root = access_inside frames view.contents part _ _ op _ _ tt
item_inside frames guests view part Host (items.Pvalidate address size validate) root = tt
item_inside frames guests view part Host (items.Rmpadjust address size target mask vmsa) root = tt
item_inside frames guests view part Host (items.Rmpupdate update) root = update_inside frames view part update part.standing.locks
item_inside frames guests view part Host (items.Psmash frame) root = smash_inside frames view part frame part.standing.locks
item_inside frames guests view part Host (items.Firmware command) root = tt
item_inside frames guests view part Host (items.Skip count test) root = tt
item_inside frames guests view part Firmware (items.Access address op) root = tt
item_inside frames guests view part Firmware (items.Pvalidate address size validate) root = tt
item_inside frames guests view part Firmware (items.Rmpadjust address size target mask vmsa) root = tt
item_inside frames guests view part Firmware (items.Rmpupdate update) root = tt
item_inside frames guests view part Firmware (items.Psmash frame) root = tt
item_inside frames guests view part Firmware (items.Firmware command) root = phase_inside frames guests view part command _
item_inside frames guests view part Firmware (items.Skip count test) root = tt

-- so the next event of an unfinished actor that is ready
pub event_inside : (m : State) (actor : ℕ) → AreReady m → IsUnfinished m actor → IsDeedInside m.frames (event_of m actor).deed
unfolding event_of
event_inside m actor ready unfinished =
    let part = part_of m actor in
    let here = ready (actor - 1) idle_part (unfinished_at m actor unfinished).within in
    item_inside m.frames m.guests (view_of m) part part.role (line_at part.script part.item).item (role_inside m.frames (length m.guests) part.role here.role)
