-- Which regions an event needs.
use Rattle.std.proofs.Common.{◌≡◌, ◌⊎◌, inl, inr, ⊎_elim, ℕ, ◌+◌, ◌-◌, ◌*◌, ◌/◌, ◌%◌, ◌<◌, ◌≤◌, Bool, true, false, ◌||◌, eqb, List, [], ◌∷◌, ◌++◌, length, None, refl, sym, ap, ◌∙◌, subst, arith, IsSome}
use Rattle.std.specs.List.{list_any, range_with_len}
use Rattle.std.proofs.lemmas.Bool.{true≢false}
use Rattle.std.proofs.lemmas.Bool.Decides.{nat_tests}
use Rattle.std.proofs.lemmas.List.Folds.{list_any-append}
use Rattle.snp_model.specs.declared.entry.PageSize.{PageSize}
use Rattle.snp_model.specs.declared.entry.PageSize.TheVariants.{Small, Large}
use Rattle.snp_model.specs.declared.event.Deed.{Deed}
use Rattle.snp_model.specs.declared.item.Item.{Item}
use Rattle.snp_model.specs.declared.item.Item.TheVariants as items
use Rattle.snp_model.specs.declared.item.Update.{Update}
use Rattle.snp_model.specs.declared.scenario.GuestSpec.{GuestSpec}
use Rattle.snp_model.specs.declared.scenario.Role.{Role}
use Rattle.snp_model.specs.declared.scenario.Role.TheVariants.{Cpu, Host, Firmware}
use Rattle.snp_model.specs.declared.walk.GuestEnd.{GuestEnd}
use Rattle.snp_model.specs.declared.walk.GuestEnd.TheVariants as guest_ends
use Rattle.snp_model.specs.declared.walk.Lookup.{Lookup}
use Rattle.snp_model.specs.declared.walk.Need.{Need}
use Rattle.snp_model.specs.declared.walk.Need.TheVariants as needs
use Rattle.snp_model.specs.declared.walk.NestedPath.{NestedPath}
use Rattle.snp_model.specs.declared.walk.NestedEnd.{NestedEnd}
use Rattle.snp_model.specs.declared.walk.NestedEnd.TheVariants as ends
use Rattle.snp_model.specs.Bounds.{IsItemOf, IsRole}
use Rattle.snp_model.specs.Facts.{frames_in}
use Rattle.snp_model.specs.InstructionStep.{facts_of, page_lookup}
use Rattle.snp_model.specs.HeldContexts.{HeldContext}
use Rattle.snp_model.specs.Locks.{page_lock, range_lock}
use Rattle.snp_model.specs.NestedWalk.{after_word, first_read, walk_from}
use Rattle.snp_model.specs.RmpUpdate.{is_bad_smash, is_bad_update}
use Rattle.snp_model.specs.State.{ActorPart, Contents, PageLock, Standing}
use Rattle.snp_model.specs.Step.{line_at}
use Rattle.snp_model.specs.Touches.{Touched, context_touched, frame_touched, instruction_touches, item_touches, lock_regions, locks_regions, need_touches, nothing_touched, region_of, touches_frame, walk_touches, with_locks}
use Rattle.snp_model.specs.Walking.{Processor, lookup_of, table_path, data_path, table_need, data_need, walk_need, need_after}
use Rattle.run_laws.specs.HeldLocks.{AreInstructionLocks, AreItemLocks, IsOneLock, IsSmashLock, IsUpdateLock, IsWalkedLock, PageTest, adjust_test, validate_test}
use Rattle.run_laws.specs.KeptLocks.{IsTestedAt}
use Rattle.run_laws.specs.Ready.{IsReady}
use Rattle.run_laws.proofs.ReadyLaws.{ready_line}
use Rattle.run_laws.proofs.TestedLaws.{smash_passes, update_passes}
use Rattle.machine_core.specs.declared.bay.Bay.{Bay}
use Rattle.machine_core.specs.Bays.{HasAll, HasFrame, HasTouched, Stock, own_stock}
use Rattle.machine_core.specs.OwnLaws.{within_guest, within_some}
use Rattle.machine_core.proofs.DeclaredLaws.{item_declared}
use Rattle.machine_core.proofs.FirmwareTouchLaws.{firmware_among}
use Rattle.machine_core.proofs.PageLaws.{base_region}
use Rattle.machine_core.proofs.SmashLaws.{is_large_size, page_base, smash_below, smash_first}
use Rattle.machine_core.proofs.UpdateLaws.{update_below, update_fits}

-- a frame that is touched has its region
pub frame_has : (frame : ℕ) (stock : Stock) → HasTouched (frame_touched frame) stock → HasFrame stock frame
frame_has frame stock has = has.bays frame (grind (arith, nat_tests))

-- so has the guest whose context is touched
pub context_has : (guest : ℕ) (stock : Stock) → HasTouched (context_touched guest) stock → IsSome (stock.contexts guest)
context_has guest stock has = has.contexts guest refl

-- before an item has begun, it touches the context of its guest
pub begin_has : (frames : ℕ) (cpu : Processor) (lookup : Lookup) (made : List Deed) (stock : Stock) → length made ≡ 0 → HasTouched (walk_touches frames cpu lookup made) stock → IsSome (stock.contexts cpu.guest)
unfolding walk_touches
begin_has frames cpu lookup [] stock none has = has.contexts cpu.guest refl
begin_has frames cpu lookup (deed ∷ deeds) stock none has = cc

-- so has the frame of a word that an item needs
pub nested_has : (frame index : ℕ) (need : Need) (stock : Stock) → need ≡ needs.Nested frame index → HasTouched (need_touches need) stock → HasFrame stock frame
unfolding need_touches
nested_has frame index need stock is has = frame_has frame stock (subst (λ (n : Need). HasTouched (need_touches n) stock) is has)

pub table_has : (gpn index frame : ℕ) (size : PageSize) (need : Need) (stock : Stock) → need ≡ needs.Table gpn index frame size → HasTouched (need_touches need) stock → HasFrame stock frame
unfolding need_touches
table_has gpn index frame size need stock is has = frame_has frame stock (subst (λ (n : Need). HasTouched (need_touches n) stock) is has)

pub data_has : (gpn : ℕ) (private : Bool) (frame : ℕ) (size : PageSize) (need : Need) (stock : Stock) → need ≡ needs.Data gpn private frame size → HasTouched (need_touches need) stock → HasFrame stock frame
unfolding need_touches
data_has gpn private frame size need stock is has = frame_has frame stock (subst (λ (n : Need). HasTouched (need_touches n) stock) is has)

-- once an item has begun, it touches what it needs
pub need_has : (frames : ℕ) (cpu : Processor) (lookup : Lookup) (made : List Deed) (stock : Stock) → (length made ≡ 0 → ⊥)
    → HasTouched (walk_touches frames cpu lookup made) stock → HasTouched (need_touches (need_after frames cpu lookup made)) stock
unfolding walk_touches
need_has frames cpu lookup [] stock begun has = absurd (begun refl)
need_has frames cpu lookup (deed ∷ deeds) stock begun has = has

-- the regions of what is touched are among so many
abbrev AreAmong : ℕ → Touched → Type 0
AreAmong regions touched = (frame : ℕ) → touches_frame touched frame ≡ true → region_of frame < regions

frame_among : (regions touched : ℕ) → touched < 512 * regions → AreAmong regions (frame_touched touched)
frame_among regions touched below frame touches =
    let region : touched / 512 ≡ frame / 512 = grind (arith, nat_tests) in
    omega arith

none_among : (regions : ℕ) (touched : Touched) → touched.regions ≡ [] → AreAmong regions touched
none_among regions touched none frame touches = cc

-- a nested walk stays in memory
abbrev IsBelow : ℕ → NestedEnd → Type 0
IsBelow frames (ends.Read frame index) = frame < frames
IsBelow frames (ends.Leaf frame size) = frame < frames
IsBelow frames (ends.Fault code) = Unit {0}

read_inside : (path : NestedPath) (level word frame index : ℕ) → after_word path level word ≡ ends.Read frame index → frame < path.frames
unfolding after_word
read_inside path level word frame index e = grind (arith, nat_tests)

leaf_inside : (path : NestedPath) (level word frame : ℕ) (size : PageSize) → after_word path level word ≡ ends.Leaf frame size → frame < path.frames
unfolding after_word
leaf_inside path level word frame size e = grind (arith, nat_tests)

stands_below : (path : NestedPath) (level word : ℕ) (stands : NestedEnd) → after_word path level word ≡ stands → IsBelow path.frames stands
stands_below path level word (ends.Read frame index) e = read_inside path level word frame index e
stands_below path level word (ends.Leaf frame size) e = leaf_inside path level word frame size e
stands_below path level word (ends.Fault code) e = tt

walk_below : (path : NestedPath) (level : ℕ) (stands : NestedEnd) (words : List ℕ) → IsBelow path.frames stands → IsBelow path.frames (walk_from path level stands words)
unfolding walk_from
walk_below path level (ends.Read frame index) [] below = below
walk_below path level (ends.Read frame index) (word ∷ words) below = walk_below path (level - 1) (after_word path level word) words (stands_below path level word (after_word path level word) refl)
walk_below path level (ends.Leaf frame size) words below = below
walk_below path level (ends.Fault code) words below = below

-- so does what an item needs
table_among : (regions gpn index : ℕ) (stands : NestedEnd) → IsBelow (512 * regions) stands → AreAmong regions (need_touches (table_need gpn index stands))
unfolding need_touches
table_among regions gpn index (ends.Read frame place) below = frame_among regions frame below
table_among regions gpn index (ends.Leaf frame size) below = frame_among regions frame below
table_among regions gpn index (ends.Fault code) below = none_among regions nothing_touched refl

data_among : (regions gpn : ℕ) (private : Bool) (stands : NestedEnd) → IsBelow (512 * regions) stands → AreAmong regions (need_touches (data_need gpn private stands))
unfolding need_touches
data_among regions gpn private (ends.Read frame place) below = frame_among regions frame below
data_among regions gpn private (ends.Leaf frame size) below = frame_among regions frame below
data_among regions gpn private (ends.Fault code) below = none_among regions nothing_touched refl

need_among : (regions npt : ℕ) (lookup : Lookup) (stands : GuestEnd) (words : List ℕ) → npt < 512 * regions → AreAmong regions (need_touches (walk_need (512 * regions) npt lookup stands words))
unfolding walk_need need_touches
need_among regions npt lookup (guest_ends.Read gpn index) words below =
    table_among regions gpn index _ (walk_below (table_path (512 * regions) npt gpn) 4 (first_read (table_path (512 * regions) npt gpn)) words below)
need_among regions npt lookup (guest_ends.Leaf gpn private size) words below =
    data_among regions gpn private _ (walk_below (data_path (512 * regions) npt gpn private lookup) 4 (first_read (data_path (512 * regions) npt gpn private lookup)) words below)
need_among regions npt lookup (guest_ends.Fault code) words below = none_among regions nothing_touched refl

-- so does an instruction, whose lock, where it has one, covers frames of the region of the frame that it names
record IsOfFrame (regions frame : ℕ) (lock : PageLock) : Type 0 where
  below : frame < 512 * regions
  one : lock_regions lock ≡ region_of frame ∷ []

instruction_among : (regions : ℕ) (refused : Bool) (frame : ℕ) (locks : List PageLock) → (refused ≡ false → frame < 512 * regions) → IsOneLock (IsOfFrame regions frame) locks → AreAmong regions (instruction_touches refused frame locks)
unfolding instruction_touches locks_regions
instruction_among regions true frame [] below one = none_among regions nothing_touched refl
instruction_among regions false frame [] below one = frame_among regions frame (below refl)
instruction_among regions refused frame (lock ∷ others) below one = λ f touches.
    let listed : lock_regions lock ++ locks_regions others ≡ region_of frame ∷ [] = (λ i. one.0.one i ++ locks_regions (one.1 i)) in
    let found : touches_frame (record { regions = region_of frame ∷ region_of frame ∷ []; context = None }) f ≡ true =
    subst (λ (regions : List ℕ). list_any (λ region. eqb region (region_of f)) (region_of frame ∷ regions) ≡ true) listed touches in
    let region : frame / 512 ≡ f / 512 = grind (arith, nat_tests) in
    let low = one.0.below in
    omega arith

one_region : (first count : ℕ) → count ≡ 1 → range_with_len first count ≡ first ∷ []
one_region first count one = ap (range_with_len first) one

range_region : (size : PageSize) (frame : ℕ) → frame % 512 + frames_in size ≤ 512 → lock_regions (range_lock size frame) ≡ region_of frame ∷ []
range_region Small frame fits = one_region (region_of frame) _ (omega arith)
range_region Large frame fits = one_region (region_of frame) _ (omega arith)

page_region : (frame : ℕ) → frame % 512 ≡ 0 → lock_regions (page_lock Large frame) ≡ region_of frame ∷ []
page_region frame first = ap (λ (base : ℕ). lock_regions (record { frame = frame; base = base; count = 512 })) (page_base frame first) ∙ range_region Large frame (omega (arith, first))

update_locked : (regions : ℕ) (contents : Contents) (update : Update) (locks : List PageLock) → IsOneLock (IsUpdateLock (512 * regions) contents update) locks → IsOneLock (IsOfFrame regions update.frame) locks
update_locked regions contents update [] one = tt
update_locked regions contents update (lock ∷ others) one =
    let fine = (update_passes (512 * regions) update (λ place. facts_of contents (update.frame + place)) (λ place. None) one.0.passes).fine in
    (record { below = update_below (512 * regions) update fine; one = ap lock_regions one.0.covers ∙ range_region update.size update.frame (update_fits (512 * regions) update fine) }, one.1)

smash_locked : (regions : ℕ) (contents : Contents) (frame : ℕ) (locks : List PageLock) → IsOneLock (IsSmashLock (512 * regions) contents frame) locks → IsOneLock (IsOfFrame regions frame) locks
smash_locked regions contents frame [] one = tt
smash_locked regions contents frame (lock ∷ others) one =
    let passes = smash_passes (512 * regions) frame (facts_of contents frame) None one.0.passes in (
      record {
        below = smash_below (512 * regions) frame passes.fine;
        one = ap lock_regions (one.0.covers ∙ ap (λ (size : PageSize). page_lock size frame) (is_large_size (facts_of contents frame).size passes.large)) ∙ page_region frame (smash_first (512 * regions) frame passes.fine);
      },
      one.1,
    )

walk_among : (regions : ℕ) (cpu : Processor) (lookup : Lookup) (made : List Deed) → cpu.npt < 512 * regions → AreAmong regions (walk_touches (512 * regions) cpu lookup made)
unfolding walk_touches
walk_among regions cpu lookup [] below = none_among regions (context_touched cpu.guest) refl
walk_among regions cpu lookup (deed ∷ deeds) below = need_among regions cpu.npt lookup _ _ below

-- so is a page that an item of such a processor has locked, to which its walks have come: its lock covers frames of the region of the frame
page_lock_region : (size : PageSize) (frame : ℕ) → lock_regions (page_lock size frame) ≡ region_of frame ∷ []
page_lock_region Small frame = one_region (region_of frame) _ (omega arith)
page_lock_region Large frame = one_region (region_of (frame / 512 * 512)) _ (omega arith) ∙ ap (λ (region : ℕ). region ∷ []) (base_region Large frame)

arrived_below : (regions : ℕ) (cpu : Processor) (lookup : Lookup) (made : List Deed) (gpn : ℕ) (private : Bool) (frame : ℕ) (leaf : PageSize) → cpu.npt < 512 * regions
    → need_after (512 * regions) cpu lookup made ≡ needs.Data gpn private frame leaf → frame < 512 * regions
unfolding need_touches
arrived_below regions cpu lookup made gpn private frame leaf below arrived =
    let among : AreAmong regions (need_touches (need_after (512 * regions) cpu lookup made)) = need_among regions cpu.npt lookup _ _ below in
    let region : frame / 512 < regions = subst (λ (need : Need). AreAmong regions (need_touches need)) arrived among frame (grind (arith, nat_tests)) in
    omega arith

walked_locked : (regions : ℕ) (guests : List GuestSpec) (contents : Contents) (cpu : Processor) (address : ℕ) (test : PageTest) (made : List Deed) (locks : List PageLock) → cpu.npt < 512 * regions
    → IsOneLock (IsWalkedLock (512 * regions) guests contents cpu address test made) locks → IsOneLock (λ lock. IsOfFrame regions lock.frame lock) locks
walked_locked regions guests contents cpu address test made [] below one = tt
walked_locked regions guests contents cpu address test made (lock ∷ others) below one =
    let walked = one.0 in (
      record {
        below = arrived_below regions cpu (page_lookup address) made walked.gpn walked.private lock.frame walked.leaf below walked.arrived;
        one = ap lock_regions walked.covers ∙ page_lock_region (facts_of contents lock.frame).size lock.frame;
      },
      one.1,
    )

locks_among : (regions : ℕ) (locks : List PageLock) → IsOneLock (λ lock. IsOfFrame regions lock.frame lock) locks → (f : ℕ) → list_any (λ region. eqb region (region_of f)) (locks_regions locks) ≡ true → region_of f < regions
unfolding locks_regions
locks_among regions [] one f found = absurd (true≢false (sym found))
locks_among regions (lock ∷ others) one f found =
    let listed : lock_regions lock ++ locks_regions others ≡ region_of lock.frame ∷ [] = (λ i. one.0.one i ++ locks_regions (one.1 i)) in
    let touched : touches_frame (frame_touched lock.frame) f ≡ true = subst (λ (regions : List ℕ). list_any (λ region. eqb region (region_of f)) regions ≡ true) listed found in
    frame_among regions lock.frame one.0.below f touched

either_true : (a b : Bool) → (a || b) ≡ true → (a ≡ true) ⊎ (b ≡ true)
either_true true b is = inl refl
either_true false b is = inr is

also_among : (regions : ℕ) (locks : List PageLock) (touched : Touched) → AreAmong regions touched → IsOneLock (λ lock. IsOfFrame regions lock.frame lock) locks → AreAmong regions (with_locks locks touched)
also_among regions locks touched among one frame touches =
    let is_it = λ (region : ℕ). eqb region (region_of frame) in
    ⊎_elim (among frame) (locks_among regions locks one frame)
    (either_true (list_any is_it touched.regions) (list_any is_it (locks_regions locks)) (sym (list_any-append is_it touched.regions (locks_regions locks)) ∙ touches))

locking_among : (regions : ℕ) (guests : List GuestSpec) (contents : Contents) (cpu : Processor) (address : ℕ) (test : PageTest) (made : List Deed) (standing : Standing) → cpu.npt < 512 * regions
    → AreInstructionLocks (IsWalkedLock (512 * regions) guests contents cpu address test made) standing → AreAmong regions (with_locks standing.locks (walk_touches (512 * regions) cpu (page_lookup address) made))
locking_among regions guests contents cpu address test made standing below tested =
    also_among regions standing.locks (walk_touches (512 * regions) cpu (page_lookup address) made) (walk_among regions cpu (page_lookup address) made below)
    (walked_locked regions guests contents cpu address test made standing.locks below tested.lock)

address_among : (regions address : ℕ) → address < 4096 * (512 * regions) → address / 4096 < 512 * regions
address_among regions address below = omega arith

-- what an item touches is among them: of instructions, by what the open attempt has locked
item_among : (regions : ℕ) (guests : List GuestSpec) (contents : Contents) (part : ActorPart) (role : Role) (item : Item) → IsRole (512 * regions) (length guests) role → IsItemOf (512 * regions) role item
    → AreItemLocks (512 * regions) guests contents role item part.deeds part.standing → AreAmong regions (item_touches (512 * regions) guests part role item)
unfolding item_touches AreItemLocks
item_among regions guests contents part (Cpu guest vmpl npt paging) (items.Access address op) is_role is_item tested =
    walk_among regions (record { guest = guest; vmpl = vmpl; npt = npt; paging = paging }) (lookup_of address op) part.deeds is_role.npt_below
item_among regions guests contents part (Cpu guest vmpl npt paging) (items.Pvalidate address size validate) is_role is_item tested =
    locking_among regions guests contents (record { guest = guest; vmpl = vmpl; npt = npt; paging = paging }) address (validate_test size) part.deeds part.standing is_role.npt_below tested
item_among regions guests contents part (Cpu guest vmpl npt paging) (items.Rmpadjust address size target mask vmsa) is_role is_item tested =
    locking_among regions guests contents (record { guest = guest; vmpl = vmpl; npt = npt; paging = paging }) address (adjust_test size mask vmsa) part.deeds part.standing is_role.npt_below tested
item_among regions guests contents part (Cpu guest vmpl npt paging) (items.Rmpupdate update) is_role is_item tested = none_among regions nothing_touched refl
item_among regions guests contents part (Cpu guest vmpl npt paging) (items.Psmash frame) is_role is_item tested = none_among regions nothing_touched refl
item_among regions guests contents part (Cpu guest vmpl npt paging) (items.Firmware command) is_role is_item tested = none_among regions nothing_touched refl
item_among regions guests contents part (Cpu guest vmpl npt paging) (items.Skip count test) is_role is_item tested = none_among regions nothing_touched refl
item_among regions guests contents part Host (items.Access address op) is_role is_item tested = frame_among regions (address / 4096) (address_among regions address is_item.0)
item_among regions guests contents part Host (items.Pvalidate address size validate) is_role is_item tested = none_among regions nothing_touched refl
item_among regions guests contents part Host (items.Rmpadjust address size target mask vmsa) is_role is_item tested = none_among regions nothing_touched refl
item_among regions guests contents part Host (items.Rmpupdate update) is_role is_item tested =
    instruction_among regions (is_bad_update (512 * regions) update) update.frame part.standing.locks (update_below (512 * regions) update) (update_locked regions contents update part.standing.locks tested.lock)
item_among regions guests contents part Host (items.Psmash frame) is_role is_item tested =
    instruction_among regions (is_bad_smash (512 * regions) frame) frame part.standing.locks (smash_below (512 * regions) frame) (smash_locked regions contents frame part.standing.locks tested.lock)
item_among regions guests contents part Host (items.Firmware command) is_role is_item tested = none_among regions nothing_touched refl
item_among regions guests contents part Host (items.Skip count test) is_role is_item tested = none_among regions nothing_touched refl
item_among regions guests contents part Firmware (items.Access address op) is_role is_item tested = none_among regions nothing_touched refl
item_among regions guests contents part Firmware (items.Pvalidate address size validate) is_role is_item tested = none_among regions nothing_touched refl
item_among regions guests contents part Firmware (items.Rmpadjust address size target mask vmsa) is_role is_item tested = none_among regions nothing_touched refl
item_among regions guests contents part Firmware (items.Rmpupdate update) is_role is_item tested = none_among regions nothing_touched refl
item_among regions guests contents part Firmware (items.Psmash frame) is_role is_item tested = none_among regions nothing_touched refl
item_among regions guests contents part Firmware (items.Firmware command) is_role is_item tested = firmware_among regions guests contents command part.standing tested
item_among regions guests contents part Firmware (items.Skip count test) is_role is_item tested = none_among regions nothing_touched refl

-- all that a ready actor's next event touches is there, where all regions and all declared guests are
pub own_has : (bays : List Bay) (contexts : List HeldContext) (guests : List GuestSpec) (contents : Contents) (part : ActorPart) → length contexts ≡ length guests → IsReady (512 * length bays) guests part → part.item < length part.script
    → IsTestedAt (512 * length bays) guests contents part → HasAll (512 * length bays) guests part (own_stock bays contexts)
own_has bays contexts guests contents part all ready unfinished tested =
    let line = ready_line (512 * length bays) guests part ready unfinished in
    let item = (line_at part.script part.item).item in
    record {
      bays = λ frame touches. within_some bays (region_of frame) (item_among (length bays) guests contents part part.role item ready.role line.item tested frame touches);
      contexts = λ guest touches.
          let declared = item_declared (512 * length bays) guests contents part part.role item ready.role line.item tested guest touches in
          let some = declared.some in
          let most = declared.most in
          within_guest contexts guest some (omega arith);
    }
