-- What an event of a command touches is there: its frames are in memory, and its guest is a declared one.
use Rattle.std.proofs.Common.{◌≡◌, ℕ, suc, ◌*◌, ◌/◌, ◌<◌, Bool, true, false, ◌||◌, cond, eqb, nat_lt, List, [], ◌∷◌, ◌++◌, length, Option, Some, None, is_some, slice_get, refl, sym, ap, ◌∙◌, subst, ◌⊎◌, inl, inr, ⊎_elim, arith}
use Rattle.std.proofs.lemmas.Bool.{true≢false}
use Rattle.std.proofs.lemmas.Bool.Decides.{nat_tests}
use Rattle.std.proofs.lemmas.List.Folds.{list_any-append}
use Rattle.std.specs.List.{list_any, range_with_len}
use Rattle.snp_model.specs.declared.command.Command.{Command}
use Rattle.snp_model.specs.declared.entry.PageSize.{PageSize}
use Rattle.snp_model.specs.declared.entry.PageSize.TheVariants.{Small, Large}
use Rattle.snp_model.specs.declared.event.FwRefusal.{FwRefusal}
use Rattle.snp_model.specs.declared.event.FwRefusal.TheVariants as refusals
use Rattle.snp_model.specs.declared.scenario.GuestSpec.{GuestSpec}
use Rattle.snp_model.specs.Firmware.{CommandPage, guest_of, invalid_address, invalid_param, pages_of}
use Rattle.snp_model.specs.FirmwareLocks.{context_refusal, frame_refusal, guest_refusal}
use Rattle.snp_model.specs.FirmwareStep.{command_asid, context_phase, lock_refusal, pages_phase, phase_of}
use Rattle.snp_model.specs.Locks.{page_lock}
use Rattle.snp_model.specs.Sealing.{Sealing, sealing_of}
use Rattle.snp_model.specs.State.{Computed, Contents, PageLock, Standing}
use Rattle.snp_model.specs.Touches.{Touched, command_touches, context_touched, lock_regions, locks_regions, nothing_touched, page_touches, pages_regions, phase_touches, region_of, touches_frame}
use Rattle.run_laws.specs.HeldLocks.{AreCommandLocks}
use Rattle.run_laws.proofs.CommandTests.{IsDeclared, has_lock, same_some}
use Rattle.run_laws.proofs.LockLaws.{first_none}
use Rattle.run_laws.proofs.TestedLaws.{let_through}
use Rattle.machine_core.proofs.PageLaws.{base_region}

-- the guest whose context is touched, if one's is, is declared
abbrev pub TouchesDeclared : List GuestSpec → Touched → Type 0
TouchesDeclared guests touched = (guest : ℕ) → touched.context ≡ Some guest → IsDeclared guests guest

-- the regions of what is touched are among so many
abbrev pub TouchesAmong : ℕ → Touched → Type 0
TouchesAmong regions touched = (frame : ℕ) → touches_frame touched frame ≡ true → region_of frame < regions

-- The guest

declared_guest : (guests : List GuestSpec) (guest : ℕ) → guest_refusal guests guest ≡ None → IsDeclared guests guest
unfolding guest_refusal
declared_guest guests guest none =
    let fails = (let_through (eqb guest 0 || nat_lt (length guests) guest) (refusals.Status invalid_param) None none).fails in
    record { some = grind (arith, nat_tests); most = grind (arith, nat_tests) }

lock_declared : (frames : ℕ) (guests : List GuestSpec) (contents : Contents) (command : Command) (standing : Standing) (guest : ℕ) → AreCommandLocks frames guests contents command standing → standing.context_lock ≡ Some guest → IsDeclared guests guest
lock_declared frames guests contents command standing guest tested locked =
    declared_guest guests guest (first_none (guest_refusal guests guest) (context_refusal guests command (contents.contexts guest) None) (tested.context guest locked).passes)

take_declared : (guests : List GuestSpec) (guest : ℕ) (refusal : Option FwRefusal) → guest_refusal guests guest ≡ refusal → TouchesDeclared guests (cond (is_some refusal) nothing_touched (context_touched guest))
take_declared guests guest None none g is = subst (IsDeclared guests) (same_some guest g is) (declared_guest guests guest none)
take_declared guests guest (Some refusal) some g is = cc

pages_declared : (frames : ℕ) (guests : List GuestSpec) (contents : Contents) (command : Command) (standing : Standing) (page : Option CommandPage) (sealing : Option Sealing) (computed : Option Computed) → AreCommandLocks frames guests contents command standing
    → ((guest : ℕ) → guest_of command ≡ Some guest → standing.context_lock ≡ Some guest) → TouchesDeclared guests (phase_touches frames guests standing command (pages_phase page sealing computed))
unfolding pages_phase phase_touches guest_of command_touches page_touches
pages_declared frames guests contents command standing (Some page) sealing computed tested held g is = lock_declared frames guests contents command standing g tested is
pages_declared frames guests contents command standing None (Some sealing) None tested held g is = lock_declared frames guests contents command standing g tested (held g is)
pages_declared frames guests contents command standing None (Some sealing) (Some made) tested held g is = lock_declared frames guests contents command standing g tested (held g is)
pages_declared frames guests contents command standing None None None tested held g is = lock_declared frames guests contents command standing g tested (held g is)
pages_declared frames guests contents command standing None None (Some made) tested held g is = lock_declared frames guests contents command standing g tested (held g is)

-- so by what an attempt needs next
by_owner : (frames : ℕ) (guests : List GuestSpec) (contents : Contents) (command : Command) (standing : Standing) (owner locked : Option ℕ) (page : Option CommandPage) (sealing : Option Sealing) (computed : Option Computed)
    → AreCommandLocks frames guests contents command standing → guest_of command ≡ owner → standing.context_lock ≡ locked
    → TouchesDeclared guests (phase_touches frames guests standing command (context_phase owner locked (pages_phase page sealing computed)))
unfolding context_phase phase_touches
by_owner frames guests contents command standing (Some guest) None page sealing computed tested owner_is locked_is = take_declared guests guest (guest_refusal guests guest) refl
by_owner frames guests contents command standing (Some guest) (Some locked) page sealing computed tested owner_is locked_is =
    pages_declared frames guests contents command standing page sealing computed tested (λ g is. locked_is ∙ sym (tested.context locked locked_is).guest_is ∙ is)
by_owner frames guests contents command standing None locked page sealing computed tested owner_is locked_is =
    pages_declared frames guests contents command standing page sealing computed tested (λ g is. absurd (let e = sym owner_is ∙ is in cc))

pub firmware_declared : (frames : ℕ) (guests : List GuestSpec) (contents : Contents) (command : Command) (standing : Standing) → AreCommandLocks frames guests contents command standing
    → TouchesDeclared guests (phase_touches frames guests standing command (phase_of command standing))
firmware_declared frames guests contents command standing tested =
    by_owner frames guests contents command standing (guest_of command) standing.context_lock (slice_get (pages_of command) (length standing.locks)) (sealing_of command) standing.computed tested refl refl

-- The frames

one_region : (first count : ℕ) → count ≡ 1 → range_with_len first count ≡ first ∷ []
one_region first count one = ap (range_with_len first) one

page_lock_region : (size : PageSize) (frame : ℕ) → lock_regions (page_lock size frame) ≡ region_of frame ∷ []
page_lock_region Small frame = one_region (region_of frame) _ (omega arith)
page_lock_region Large frame = one_region (region_of (frame / 512 * 512)) _ (omega arith) ∙ ap (λ (region : ℕ). region ∷ []) (base_region Large frame)

-- the frame of a lock is in memory
frame_in_memory : (frames asid : ℕ) (command : Command) (page : CommandPage) (contents : Contents) → lock_refusal frames asid command page (contents.pages page.frame) None ≡ None → page.frame < frames
unfolding lock_refusal frame_refusal
frame_in_memory frames asid command page contents none =
    let fails = (let_through _ (refusals.Status invalid_address) None (first_none (frame_refusal frames page.frame) _ none)).fails in
    grind (arith, nat_tests)

-- whether a region is that of a frame
abbrev is_of : ℕ → ℕ → Bool
is_of frame region = eqb region (region_of frame)

-- the locks of an attempt lie in regions of memory
abbrev AreLocksIn : ℕ → List PageLock → Type 0
AreLocksIn regions locks = (number : ℕ) (lock : PageLock) → slice_get locks number ≡ Some lock → (region : ℕ) × (lock_regions lock ≡ region ∷ []) × (region < regions)

either_true : (a b : Bool) → (a || b) ≡ true → (a ≡ true) ⊎ (b ≡ true)
either_true true b is = inl refl
either_true false b is = inr is

either_among : (regions frame : ℕ) (one others : List ℕ) → (list_any (is_of frame) one ≡ true → region_of frame < regions) → (list_any (is_of frame) others ≡ true → region_of frame < regions)
    → list_any (is_of frame) (one ++ others) ≡ true → region_of frame < regions
either_among regions frame one others first second touches =
    ⊎_elim first second (either_true (list_any (is_of frame) one) (list_any (is_of frame) others) (sym (list_any-append (is_of frame) one others) ∙ touches))

one_among : (regions frame region : ℕ) → region < regions → list_any (is_of frame) (region ∷ []) ≡ true → region_of frame < regions
one_among regions frame region below touches = let same : region ≡ region_of frame = grind (arith, nat_tests) in omega arith

locks_among : (regions : ℕ) (locks : List PageLock) (frame : ℕ) → AreLocksIn regions locks → list_any (is_of frame) (locks_regions locks) ≡ true → region_of frame < regions
unfolding locks_regions
locks_among regions [] frame each touches = absurd (true≢false (sym touches))
locks_among regions (lock ∷ locks) frame each touches =
    let own = each 0 lock refl in
    either_among regions frame (lock_regions lock) (locks_regions locks)
    (λ is. one_among regions frame own.0 own.2 (subst (λ (rs : List ℕ). list_any (is_of frame) rs ≡ true) own.1 is))
    (locks_among regions locks frame (λ number l is. each (suc number) l is)) touches

pages_among : (regions : ℕ) (pages : List CommandPage) (frame : ℕ) → ((number : ℕ) (page : CommandPage) → slice_get pages number ≡ Some page → page.frame < 512 * regions) → list_any (is_of frame) (pages_regions pages) ≡ true → region_of frame < regions
unfolding pages_regions
pages_among regions [] frame each touches = absurd (true≢false (sym touches))
pages_among regions (page ∷ pages) frame each touches =
    let below = each 0 page refl in
    either_among regions frame (region_of page.frame ∷ []) (pages_regions pages) (one_among regions frame (region_of page.frame) (omega arith))
    (pages_among regions pages frame (λ number p is. each (suc number) p is)) touches

-- those of a command
command_locks_in : (regions : ℕ) (guests : List GuestSpec) (contents : Contents) (command : Command) (standing : Standing) → AreCommandLocks (512 * regions) guests contents command standing → AreLocksIn regions standing.locks
command_locks_in regions guests contents command standing tested number lock is =
    let of = tested.pages number lock is in
    let below = frame_in_memory (512 * regions) (command_asid guests command) command of.page contents of.passes in
    (region_of of.page.frame, ap lock_regions of.covers ∙ page_lock_region (contents.pages of.page.frame).facts.size of.page.frame, omega arith)

inside_among : (regions frame named : ℕ) (inside : Bool) → nat_lt named (512 * regions) ≡ inside → list_any (is_of frame) (cond inside (region_of named ∷ []) []) ≡ true → region_of frame < regions
inside_among regions frame named true is touches = one_among regions frame (region_of named) (let below : named < 512 * regions = grind (arith, nat_tests) in omega arith) touches
inside_among regions frame named false is touches = absurd (true≢false (sym touches))

take_among : (regions : ℕ) (guests : List GuestSpec) (guest : ℕ) (refused : Bool) → TouchesAmong regions (cond refused nothing_touched (context_touched guest))
take_among regions guests guest true frame touches = absurd (true≢false (sym touches))
take_among regions guests guest false frame touches = absurd (true≢false (sym touches))

-- all that a commit touches
commit_among : (regions : ℕ) (guests : List GuestSpec) (contents : Contents) (command : Command) (standing : Standing) → AreCommandLocks (512 * regions) guests contents command standing → slice_get (pages_of command) (length standing.locks) ≡ None
    → TouchesAmong regions (command_touches standing command)
unfolding command_touches locks_regions pages_of pages_regions
commit_among regions guests contents command standing tested all frame touches =
    either_among regions frame (pages_regions (pages_of command)) (locks_regions standing.locks)
    (pages_among regions (pages_of command) frame (λ number page is.
    frame_in_memory (512 * regions) (command_asid guests command) command page contents (has_lock (512 * regions) guests contents command standing number page tested all is).passes))
    (locks_among regions standing.locks frame (command_locks_in regions guests contents command standing tested)) touches

pages_touch_among : (regions : ℕ) (guests : List GuestSpec) (contents : Contents) (command : Command) (standing : Standing) (page : Option CommandPage) (sealing : Option Sealing) (computed : Option Computed)
    → AreCommandLocks (512 * regions) guests contents command standing → slice_get (pages_of command) (length standing.locks) ≡ page → TouchesAmong regions (phase_touches (512 * regions) guests standing command (pages_phase page sealing computed))
unfolding pages_phase phase_touches page_touches
pages_touch_among regions guests contents command standing (Some page) sealing computed tested is = λ frame touches.
    either_among regions frame (cond (nat_lt page.frame (512 * regions)) (region_of page.frame ∷ []) []) (locks_regions standing.locks)
    (inside_among regions frame page.frame (nat_lt page.frame (512 * regions)) refl) (locks_among regions standing.locks frame (command_locks_in regions guests contents command standing tested)) touches
pages_touch_among regions guests contents command standing None (Some sealing) None tested is = commit_among regions guests contents command standing tested is
pages_touch_among regions guests contents command standing None (Some sealing) (Some made) tested is = commit_among regions guests contents command standing tested is
pages_touch_among regions guests contents command standing None None None tested is = commit_among regions guests contents command standing tested is
pages_touch_among regions guests contents command standing None None (Some made) tested is = commit_among regions guests contents command standing tested is

owner_among : (regions : ℕ) (guests : List GuestSpec) (contents : Contents) (command : Command) (standing : Standing) (owner locked : Option ℕ) → AreCommandLocks (512 * regions) guests contents command standing
    → TouchesAmong regions (phase_touches (512 * regions) guests standing command (context_phase owner locked (pages_phase (slice_get (pages_of command) (length standing.locks)) (sealing_of command) standing.computed)))
unfolding context_phase phase_touches
owner_among regions guests contents command standing (Some guest) None tested = take_among regions guests guest (is_some (guest_refusal guests guest))
owner_among regions guests contents command standing (Some guest) (Some locked) tested = pages_touch_among regions guests contents command standing _ _ _ tested refl
owner_among regions guests contents command standing None locked tested = pages_touch_among regions guests contents command standing _ _ _ tested refl

pub firmware_among : (regions : ℕ) (guests : List GuestSpec) (contents : Contents) (command : Command) (standing : Standing) → AreCommandLocks (512 * regions) guests contents command standing
    → TouchesAmong regions (phase_touches (512 * regions) guests standing command (phase_of command standing))
firmware_among regions guests contents command standing tested = owner_among regions guests contents command standing (guest_of command) standing.context_lock tested
