-- The numbers of the deeds of guest processors are in range.
use Rattle.std.proofs.Common.{◌≡◌, ℕ, ◌-◌, ◌%◌, ◌^◌, ◌<◌, Bool, nat_lt, not, ◌&&◌, ◌||◌, eqb, List, [], ◌∷◌, length, Option, Some, None, refl, sym, ap, ◌∙◌, subst, arith}
use Rattle.std.proofs.lemmas.Bool.{cond_both}
use Rattle.std.proofs.lemmas.Bool.Decides.{nat_tests}
use Rattle.snp_model.specs.declared.access.Verdict.{Verdict}
use Rattle.snp_model.specs.declared.access.Verdict.TheVariants.{Pass, Hidden, Fault}
use Rattle.snp_model.specs.declared.entry.PageSize.{PageSize}
use Rattle.snp_model.specs.declared.entry.PageSize.TheVariants.{Large}
use Rattle.snp_model.specs.declared.event.Deed.{Deed}
use Rattle.snp_model.specs.declared.event.Outcome.{Outcome}
use Rattle.snp_model.specs.declared.item.Item.{Item}
use Rattle.snp_model.specs.declared.item.Item.TheVariants as items
use Rattle.snp_model.specs.declared.item.Op.{Op}
use Rattle.snp_model.specs.declared.scenario.GuestSpec.{GuestSpec}
use Rattle.snp_model.specs.declared.scenario.Paging.{Paging}
use Rattle.snp_model.specs.declared.scenario.Paging.TheVariants.{Flat, Four, Five}
use Rattle.snp_model.specs.declared.scenario.Role.{Role}
use Rattle.snp_model.specs.declared.scenario.Role.TheVariants.{Cpu}
use Rattle.snp_model.specs.declared.walk.GuestEnd.{GuestEnd}
use Rattle.snp_model.specs.declared.walk.GuestEnd.TheVariants as guest_ends
use Rattle.snp_model.specs.declared.walk.GuestPath.{GuestPath}
use Rattle.snp_model.specs.declared.walk.Lookup.{Lookup}
use Rattle.snp_model.specs.declared.walk.Need.{Need}
use Rattle.snp_model.specs.declared.walk.Need.TheVariants as needs
use Rattle.snp_model.specs.declared.walk.NestedEnd.{NestedEnd}
use Rattle.snp_model.specs.declared.walk.NestedEnd.TheVariants as ends
use Rattle.snp_model.specs.declared.walk.NestedPath.{NestedPath}
use Rattle.snp_model.specs.Bounds.{IsPaging, IsGuestInside}
use Rattle.snp_model.specs.GuestWalk.{is_canonical, guest_index, gpn_below, after_guest_word, guest_walk_from, guest_end}
use Rattle.run_laws.specs.HeldLocks.{AreItemLocks, AreTested, IsOneLock, IsWalkedLock, PageTest, validate_test, adjust_test}
use Rattle.snp_model.specs.InstructionStep.{page_lookup, validate_move, adjust_move}
use Rattle.snp_model.specs.Locks.{view_of}
use Rattle.snp_model.specs.Moves.{Move, Arrival, is_running, begin_move, table_move, need_move, walked_move, lock_move}
use Rattle.snp_model.specs.NestedWalk.{is_large_leaf, has_bit, frame_below, after_word, walk_from, nested_end, nested_index}
use Rattle.snp_model.specs.State.{Context, Contents, ActorPart, State, View, PageLock, part_of}
use Rattle.snp_model.specs.Step.{access_move, item_move, event_of, line_at}
use Rattle.snp_model.specs.Walking.{Processor, guest_stands, guest_path, counting, flat_gpn, index_of, lookup_of, table_path, data_path, table_need, data_need, walk_need, need_after}
use Rattle.run_laws.proofs.TestedPages.{ValidatePasses, validate_passes, adjust_passes}
use Rattle.snp_model.specs.declared.scenario.Scenario.{Scenario}
use Rattle.snp_model.specs.Bounds.{IsRole}
use Rattle.snp_model.specs.Run.{IsDefined, state_after}
use Rattle.snp_model.specs.Sound.{IsSound}
use Rattle.run_laws.proofs.InOrder.{IsInOrder}
use Rattle.run_laws.proofs.SealedRuns.{run_order}
use Rattle.run_theorems.specs.Ranges.{IsRanged}

-- guest walks
gpn_in : (path : GuestPath) (level word : ℕ) → gpn_below path level word < 2 ^ 36
gpn_in path level word = grind (arith, nat_tests)

index_in : (path : GuestPath) (level : ℕ) → guest_index path.address level < 512
index_in path level = grind (arith)

word_in : (path : GuestPath) (level word : ℕ) → IsGuestInside (after_guest_word path level word)
unfolding after_guest_word
word_in path level word =
    cond_both (not (has_bit word 0x1)) _ _ IsGuestInside (λ _. tt)
    (λ _. cond_both (path.write && not (has_bit word 0x2)) _ _ IsGuestInside (λ _. tt)
    (λ _. cond_both (is_large_leaf level word) _ _ IsGuestInside (λ _. gpn_in path level word)
    (λ _. cond_both (eqb level 1) _ _ IsGuestInside (λ _. gpn_in path level word) (λ _. (gpn_in path level word, index_in path (level - 1))))))

guest_in : (path : GuestPath) (level : ℕ) (stands : GuestEnd) (words : List ℕ) → IsGuestInside stands → IsGuestInside (guest_walk_from path level stands words)
unfolding guest_walk_from
guest_in path level (guest_ends.Read gpn index) [] inside = inside
guest_in path level (guest_ends.Read gpn index) (word ∷ words) inside = guest_in path (level - 1) (after_guest_word path level word) words (word_in path level word)
guest_in path level (guest_ends.Leaf gpn private size) words inside = inside
guest_in path level (guest_ends.Fault code) words inside = inside

counting_in : (c_bit : Bool) (stands : GuestEnd) → IsGuestInside stands → IsGuestInside (counting c_bit stands)
counting_in c_bit (guest_ends.Read gpn index) inside = inside
counting_in c_bit (guest_ends.Leaf gpn private size) inside = inside
counting_in c_bit (guest_ends.Fault code) inside = inside

flat_in : (address : ℕ) → flat_gpn address < 2 ^ 36
flat_in address = grind (arith)

stands_in : (paging : Paging) (lookup : Lookup) (words : List ℕ) → IsPaging paging → IsGuestInside (guest_stands paging lookup words)
unfolding guest_stands
stands_in Flat lookup words root = flat_in lookup.address
stands_in (Four r) lookup words root =
    let path = guest_path (Four r) r lookup in
    counting_in lookup.c_bit (guest_end path words) (guest_in path path.levels (guest_ends.Read r (guest_index path.address path.levels)) words (root, index_in path path.levels))
stands_in (Five r) lookup words root =
    let path = guest_path (Five r) r lookup in
    counting_in lookup.c_bit (guest_end path words) (guest_in path path.levels (guest_ends.Read r (guest_index path.address path.levels)) words (root, index_in path path.levels))

-- nested walks
abbrev NestedIn : NestedEnd → Type 0
NestedIn (ends.Read frame index) = index < 512
NestedIn (ends.Leaf frame size) = Unit {0}
NestedIn (ends.Fault code) = Unit {0}

nested_index_in : (gpn level : ℕ) → nested_index gpn level < 512
nested_index_in gpn level = grind (arith)

nested_word_in : (path : NestedPath) (level word : ℕ) → NestedIn (after_word path level word)
unfolding after_word
nested_word_in path level word =
    cond_both (not (has_bit word 0x1) || not (nat_lt (frame_below path level word) path.frames)) _ _ NestedIn (λ _. tt)
    (λ _. cond_both (not (has_bit word 0x4)) _ _ NestedIn (λ _. tt)
    (λ _. cond_both ((path.write || path.table) && not (has_bit word 0x2)) _ _ NestedIn (λ _. tt)
    (λ _. cond_both (is_large_leaf level word) _ _ NestedIn (λ _. tt)
    (λ _. cond_both (eqb level 1) _ _ NestedIn (λ _. tt) (λ _. nested_index_in path.gpn (level - 1))))))

nested_in : (path : NestedPath) (level : ℕ) (stands : NestedEnd) (words : List ℕ) → NestedIn stands → NestedIn (walk_from path level stands words)
unfolding walk_from
nested_in path level (ends.Read frame index) [] inside = inside
nested_in path level (ends.Read frame index) (word ∷ words) inside = nested_in path (level - 1) (after_word path level word) words (nested_word_in path level word)
nested_in path level (ends.Leaf frame size) words inside = inside
nested_in path level (ends.Fault code) words inside = inside

nested_end_in : (path : NestedPath) (words : List ℕ) → NestedIn (nested_end path words)
nested_end_in path words = nested_in path 4 (ends.Read path.root (nested_index path.gpn 4)) words (nested_index_in path.gpn 4)

-- what is needed
abbrev NeedIn : Need → Type 0
NeedIn (needs.Nested frame index) = index < 512
NeedIn (needs.Table gpn index frame size) = (gpn < 2 ^ 36) × (index < 512)
NeedIn (needs.Data gpn private frame size) = gpn < 2 ^ 36
NeedIn (needs.Fault outcome) = Unit {0}

table_need_in : (gpn index : ℕ) (stands : NestedEnd) → gpn < 2 ^ 36 → index < 512 → NestedIn stands → NeedIn (table_need gpn index stands)
table_need_in gpn index (ends.Read frame place) g i inside = inside
table_need_in gpn index (ends.Leaf frame size) g i inside = (g, i)
table_need_in gpn index (ends.Fault code) g i inside = tt

data_need_in : (gpn : ℕ) (private : Bool) (stands : NestedEnd) → gpn < 2 ^ 36 → NestedIn stands → NeedIn (data_need gpn private stands)
data_need_in gpn private (ends.Read frame place) g inside = inside
data_need_in gpn private (ends.Leaf frame size) g inside = g
data_need_in gpn private (ends.Fault code) g inside = tt

need_in : (frames npt : ℕ) (lookup : Lookup) (stands : GuestEnd) (words : List ℕ) → IsGuestInside stands → NeedIn (walk_need frames npt lookup stands words)
unfolding walk_need
need_in frames npt lookup (guest_ends.Read gpn index) words inside = table_need_in gpn index _ inside.0 inside.1 (nested_end_in (table_path frames npt gpn) words)
need_in frames npt lookup (guest_ends.Leaf gpn private size) words inside = data_need_in gpn private _ inside (nested_end_in (data_path frames npt gpn private lookup) words)
need_in frames npt lookup (guest_ends.Fault code) words inside = tt

-- moves
table_ranged : (frames : ℕ) (contents : Contents) (part : ActorPart) (cpu : Processor) (lookup : Lookup) (verdict : Verdict) (gpn index frame : ℕ) → gpn < 2 ^ 36 → index < 512
    → IsRanged (table_move frames contents part cpu lookup verdict gpn index frame).deed
unfolding table_move
table_ranged frames contents part cpu lookup Pass gpn index frame g i = (g, i)
table_ranged frames contents part cpu lookup Hidden gpn index frame g i = (g, i)
table_ranged frames contents part cpu lookup (Fault outcome) gpn index frame g i = (g, i)

begin_ranged : (contents : Contents) (part : ActorPart) (context : Context) (levels address : ℕ) (refusal : Option Outcome) → IsRanged (begin_move contents part context levels address refusal).deed
unfolding begin_move
begin_ranged contents part context levels address refusal =
    let P = λ (move : Move). IsRanged move.deed in
    cond_both (not (is_running context.state)) _ _ P (λ _. tt)
    (λ _. cond_both (not (is_canonical levels address)) _ _ P (λ _. tt) (λ _. tt))

-- an item arrives at what its walks have led to
abbrev ArrivesAt : Arrival → Need → Type 0
ArrivesAt arrives need = (gpn : ℕ) (private : Bool) (frame : ℕ) (size : PageSize) → need ≡ needs.Data gpn private frame size → gpn < 2 ^ 36 → IsRanged (arrives gpn private frame size).deed

need_ranged : (frames : ℕ) (guests : List GuestSpec) (contents : Contents) (part : ActorPart) (cpu : Processor) (lookup : Lookup) (arrives : Arrival) (need : Need)
    → NeedIn need → ArrivesAt arrives need → IsRanged (need_move frames guests contents part cpu lookup arrives need).deed
unfolding need_move
need_ranged frames guests contents part cpu lookup arrives (needs.Nested frame index) inside arrival = inside
need_ranged frames guests contents part cpu lookup arrives (needs.Table gpn index frame size) inside arrival = table_ranged frames contents part cpu lookup _ gpn index frame inside.0 inside.1
need_ranged frames guests contents part cpu lookup arrives (needs.Data gpn private frame size) inside arrival = arrival gpn private frame size refl inside
need_ranged frames guests contents part cpu lookup arrives (needs.Fault outcome) inside arrival = tt

walked_ranged : (frames : ℕ) (guests : List GuestSpec) (contents : Contents) (part : ActorPart) (cpu : Processor) (lookup : Lookup) (refusal : Option Outcome) (arrives : Arrival) (made : List Deed)
    → IsPaging cpu.paging → ArrivesAt arrives (need_after frames cpu lookup made) → IsRanged (walked_move frames guests contents part cpu lookup refusal arrives made).deed
unfolding walked_move
walked_ranged frames guests contents part cpu lookup refusal arrives [] paging arrival = begin_ranged contents part _ _ _ refusal
walked_ranged frames guests contents part cpu lookup refusal arrives (deed ∷ others) paging arrival =
    need_ranged frames guests contents part cpu lookup arrives (need_after frames cpu lookup (deed ∷ others)) (need_in frames cpu.npt lookup _ _ (stands_in cpu.paging lookup _ paging)) arrival

-- an access
access_ranged : (contents : Contents) (part : ActorPart) (deed : Deed) (verdict : Verdict) (op : Op) (frame index : ℕ) → IsRanged deed → IsRanged (access_move contents part deed verdict op frame index).deed
unfolding access_move
access_ranged contents part deed Pass op frame index ranged = ranged
access_ranged contents part deed Hidden op frame index ranged = ranged
access_ranged contents part deed (Fault outcome) op frame index ranged = ranged

index_of_in : (address : ℕ) → index_of address < 512
index_of_in address = grind (arith)

-- an instruction: what its lock has tested is so of the page that it commits
lock_ranged : (contents : Contents) (part : ActorPart) (lock : PageLock) (refusal : Option Outcome) → IsRanged (lock_move contents part lock refusal).deed
unfolding lock_move
lock_ranged contents part lock None = tt
lock_ranged contents part lock (Some outcome) = tt

abbrev gpn_at : Need → ℕ
gpn_at (needs.Data gpn private frame size) = gpn
gpn_at need = 0

tested_aligned : (frames : ℕ) (guests : List GuestSpec) (contents : Contents) (cpu : Processor) (address : ℕ) (test : PageTest) (size leaf : PageSize) (made : List Deed) (lock : PageLock) (gpn frame : ℕ) (private : Bool)
    → ((place : _) (facts : _) → test place facts ≡ None → ValidatePasses place size facts)
    → IsWalkedLock frames guests contents cpu address test made lock → need_after frames cpu (page_lookup address) made ≡ needs.Data gpn private frame leaf → size ≡ Large → gpn % 512 ≡ 0
tested_aligned frames guests contents cpu address test size leaf made lock gpn frame private passes walked arrived large =
    let same : walked.gpn ≡ gpn = ap gpn_at (sym walked.arrived ∙ arrived) in
    ap (λ (q : ℕ). q % 512) (sym same) ∙ (passes _ _ walked.passes).aligned large

validate_ranged : (frames : ℕ) (guests : List GuestSpec) (view : View) (part : ActorPart) (cpu : Processor) (address : ℕ) (size : PageSize) (validate : Bool) (locks : List PageLock)
    → IsOneLock (IsWalkedLock frames guests view.contents cpu address (validate_test size) part.deeds) locks
    → ArrivesAt (validate_move guests view part cpu size validate locks) (need_after frames cpu (page_lookup address) part.deeds)
unfolding validate_move
validate_ranged frames guests view part cpu address size validate [] one gpn private frame leaf arrived g = lock_ranged view.contents part _ _
validate_ranged frames guests view part cpu address size validate (lock ∷ others) one gpn private frame leaf arrived g =
    (g, tested_aligned frames guests view.contents cpu address (validate_test size) size leaf part.deeds lock gpn frame private (λ place facts none. validate_passes place size facts none) one.0 arrived)

adjust_ranged : (frames : ℕ) (guests : List GuestSpec) (view : View) (part : ActorPart) (cpu : Processor) (address : ℕ) (size : PageSize) (target mask : ℕ) (vmsa : Bool) (locks : List PageLock)
    → IsOneLock (IsWalkedLock frames guests view.contents cpu address (adjust_test size mask vmsa) part.deeds) locks
    → ArrivesAt (adjust_move guests view part cpu size target mask vmsa locks) (need_after frames cpu (page_lookup address) part.deeds)
unfolding adjust_move
adjust_ranged frames guests view part cpu address size target mask vmsa [] one gpn private frame leaf arrived g = lock_ranged view.contents part _ _
adjust_ranged frames guests view part cpu address size target mask vmsa (lock ∷ others) one gpn private frame leaf arrived g =
    (g, tested_aligned frames guests view.contents cpu address (adjust_test size mask vmsa) size leaf part.deeds lock gpn frame private (λ place facts none. adjust_passes place size mask vmsa facts none) one.0 arrived)

-- every item of a guest's processor
item_ranged : (frames : ℕ) (guests : List GuestSpec) (view : View) (part : ActorPart) (guest vmpl npt : ℕ) (paging : Paging) (item : Item) → IsPaging paging
    → AreItemLocks frames guests view.contents (Cpu guest vmpl npt paging) item part.deeds part.standing
    → IsRanged (item_move frames guests view part (Cpu guest vmpl npt paging) item).deed
unfolding item_move AreItemLocks
item_ranged frames guests view part guest vmpl npt paging (items.Access address op) root tested =
    let cpu : Processor = record { guest = guest; vmpl = vmpl; npt = npt; paging = paging } in
    walked_ranged frames guests view.contents part cpu (lookup_of address op) None _ part.deeds root
    (λ gpn private frame size arrived g. access_ranged view.contents part _ _ op frame _ (g, index_of_in address))
item_ranged frames guests view part guest vmpl npt paging (items.Pvalidate address size validate) root tested =
    let cpu : Processor = record { guest = guest; vmpl = vmpl; npt = npt; paging = paging } in
    walked_ranged frames guests view.contents part cpu (page_lookup address) _ _ part.deeds root
    (validate_ranged frames guests view part cpu address size validate part.standing.locks tested.lock)
item_ranged frames guests view part guest vmpl npt paging (items.Rmpadjust address size target mask vmsa) root tested =
    let cpu : Processor = record { guest = guest; vmpl = vmpl; npt = npt; paging = paging } in
    walked_ranged frames guests view.contents part cpu (page_lookup address) _ _ part.deeds root
    (adjust_ranged frames guests view part cpu address size target mask vmsa part.standing.locks tested.lock)
item_ranged frames guests view part guest vmpl npt paging (items.Rmpupdate update) root tested = tt
item_ranged frames guests view part guest vmpl npt paging (items.Psmash frame) root tested = tt
item_ranged frames guests view part guest vmpl npt paging (items.Firmware command) root tested = tt
item_ranged frames guests view part guest vmpl npt paging (items.Skip count test) root tested = tt

-- so the next event of such a processor, where its locks are tested
event_of_tested : (m : State) (actor guest vmpl npt : ℕ) (paging : Paging) → IsPaging paging → (part_of m actor).role ≡ Cpu guest vmpl npt paging → AreTested m (part_of m actor) → IsRanged (event_of m actor).deed
unfolding event_of
event_of_tested m actor guest vmpl npt paging root is tested =
    let part = part_of m actor in
    let item = (line_at part.script part.item).item in
    subst (λ (role : Role). IsRanged (item_move m.frames m.guests (view_of m) part role item).deed) (sym is)
    (item_ranged m.frames m.guests (view_of m) part guest vmpl npt paging item root
    (subst (λ (role : Role). AreItemLocks m.frames m.guests m.contents role item part.deeds part.standing) is tested))

-- in every state that is in order
pub event_ranged : (m : State) (actor guest vmpl npt : ℕ) (paging : Paging) → IsInOrder m → (part_of m actor).role ≡ Cpu guest vmpl npt paging → IsRanged (event_of m actor).deed
event_ranged m actor guest vmpl npt paging order is =
    event_of_tested m actor guest vmpl npt paging (subst (IsRole m.frames (length m.guests)) is (order.roles actor)).root_below is (order.locks.tested (actor - 1))

-- and so in every run of a sound scenario
pub run_ranged : (c : Scenario) (s : List ℕ) (actor guest vmpl npt : ℕ) (paging : Paging) → IsSound c → IsDefined c s → (part_of (state_after c s) actor).role ≡ Cpu guest vmpl npt paging → IsRanged (event_of (state_after c s) actor).deed
run_ranged c s actor guest vmpl npt paging sound defined is = event_ranged (state_after c s) actor guest vmpl npt paging (run_order c s sound defined) is
