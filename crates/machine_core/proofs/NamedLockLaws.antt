-- The event that locks the next page of a command: what the open attempt has locked so far, and what the event shows and leaves.
use Rattle.std.proofs.Common.{◌≡◌, ◌≢◌, ◌⊎◌, inl, inr, ⊎_elim, ℕ, zero, suc, ◌/◌, ◌<◌, ◌≤◌, Bool, true, false, ◌||◌, cond, eqb, nat_lt, List, [], ◌∷◌, length, map, Option, Some, None, slice_get, refl, sym, ap, ◌∙◌, subst, arith}
use Rattle.std.proofs.Math.Bool.{or-true}
use Rattle.std.proofs.lemmas.Bool.{eq-eqb, true≢false}
use Rattle.std.proofs.lemmas.Bool.Decides.{nat_tests}
use Rattle.std.proofs.lemmas.List.Folds.{list_any-append}
use Rattle.std.proofs.lemmas.Option.{slice_get_within}
use Rattle.std.specs.List.{list_any}
use Rattle.std.specs.Option.{option_map}
use Rattle.snp_model.specs.declared.command.Command.{Command}
use Rattle.snp_model.specs.declared.command.Command.TheVariants as commands
use Rattle.snp_model.specs.declared.entry.PageSize.{PageSize}
use Rattle.snp_model.specs.declared.entry.PageSize.TheVariants.{Small}
use Rattle.snp_model.specs.declared.event.Deed.TheVariants as deeds
use Rattle.snp_model.specs.declared.event.FwRefusal.{FwRefusal}
use Rattle.snp_model.specs.declared.event.FwRefusal.TheVariants as refusals
use Rattle.snp_model.specs.declared.firmware.Part.TheVariants.{Target, Metadata}
use Rattle.snp_model.specs.declared.scenario.GuestSpec.{GuestSpec}
use Rattle.snp_model.specs.Facts.{frames_in, page_base}
use Rattle.snp_model.specs.Firmware.{CommandPage, any_equal, guest_of, has_equal_frames, invalid_param, one_page, pages_of as command_pages, three_pages, two_pages}
use Rattle.snp_model.specs.FirmwareLocks.{context_refusal, guest_refusal, takes_large}
use Rattle.snp_model.specs.FirmwareStep.{command_asid, refused, take_page}
use Rattle.snp_model.specs.Locks.{covers, page_lock}
use Rattle.snp_model.specs.Moves.{Move, lock_move}
use Rattle.snp_model.specs.State.{ActorPart, Contents, PageLock, Standing}
use Rattle.snp_model.specs.Touches.{command_touches, lock_regions, locks_regions, page_touches, pages_regions, region_of}
use Rattle.run_laws.specs.HeldLocks.{AreCommandLocks}
use Rattle.run_laws.specs.KeptLocks.{OwnsLocks}
use Rattle.run_laws.proofs.CommandTests.{lock_page, page_tests, same_some}
use Rattle.run_laws.proofs.LockLaws.{others_none}
use Rattle.run_laws.proofs.RangeLaws.{also_touched, lock_region}
use Rattle.run_laws.proofs.TestedLaws.{let_through}
use Rattle.machine_core.specs.declared.command.NamedPage.{NamedPage}
use Rattle.machine_core.specs.declared.shown.Shown.{Shown}
use Rattle.machine_core.specs.declared.taken_lock.Taken.TheVariants.{OfPage}
use Rattle.machine_core.specs.declared.taken_lock.TakenLock.{TakenLock}
use Rattle.machine_core.specs.Actors.{page_lock_of}
use Rattle.machine_core.specs.Bays.{HasFrame, HasTouched, Stock, contents_of, contexts_of, holders_of, pages_of, view_on}
use Rattle.machine_core.specs.Commits.{MayCommit}
use Rattle.machine_core.specs.Commands.{AreInOneRegion, command_page, frames_touched, named_refused}
use Rattle.machine_core.specs.Moves.{move_by, standing_by}
use Rattle.machine_core.proofs.PageLaws.{base_fits, base_region, own_frame}
use Rattle.machine_core.proofs.RangeLaws.{covered_region}

-- What it has locked so far

-- a command has three pages at most
few_pages : (command : Command) → length (command_pages command) ≤ 3
unfolding command_pages
few_pages (commands.GctxCreate guest frame) = omega arith
few_pages (commands.Activate guest own) = omega arith
few_pages (commands.LaunchStart guest) = omega arith
few_pages (commands.LaunchUpdate guest frame page_type imi perms) = omega arith
few_pages (commands.LaunchFinish guest) = omega arith
few_pages (commands.MdInit frame) = omega arith
few_pages (commands.PageMove guest source target) = omega arith
few_pages (commands.SwapOut guest source target metadata entry) = omega arith
few_pages (commands.SwapIn guest source target metadata entry) = omega arith
few_pages (commands.Reclaim frame) = omega arith
few_pages (commands.MdOut guest source target metadata entry) = omega arith
few_pages (commands.MdIn guest source target metadata entry) = omega arith
few_pages (commands.MdRootOut guest source target) = omega arith
few_pages (commands.MdRootIn guest source target) = omega arith

-- so there is room for one more lock
pub lock_room : (command : Command) (locks : List PageLock) (page : CommandPage) → slice_get (command_pages command) (length locks) ≡ Some page → length locks < 3
lock_room command locks page next =
    let few = few_pages command in
    let within = slice_get_within (command_pages command) (length locks) page next in
    omega (arith, few, within)

-- a lock of a page covers frames of the region of the frame that it names, and that frame
lock_within : (size : PageSize) (named : ℕ) (lock : PageLock) → lock ≡ page_lock size named → (frame : ℕ) → covers frame lock ≡ true → frame / 512 ≡ lock.frame / 512
lock_within size named lock is =
    subst (λ (l : PageLock). (frame : ℕ) → covers frame l ≡ true → frame / 512 ≡ l.frame / 512) (sym is)
    (λ frame inside. covered_region (page_base size named) (frames_in size) frame (base_fits size named) inside ∙ base_region size named)

lock_own : (size : PageSize) (named : ℕ) (lock : PageLock) → lock ≡ page_lock size named → covers lock.frame lock ≡ true
lock_own size named lock is = subst (λ (l : PageLock). covers l.frame l ≡ true) (sym is) (own_frame size named)

each_within : (locks : List PageLock) → ((number : ℕ) (lock : PageLock) → slice_get locks number ≡ Some lock → (frame : ℕ) → covers frame lock ≡ true → frame / 512 ≡ lock.frame / 512) → AreInOneRegion locks
each_within [] each = tt
each_within (lock ∷ locks) each = (each 0 lock refl, each_within locks (λ number l is. each (suc number) l is))

-- so each lock of a command lies in one region
pub locks_within : (frames : ℕ) (guests : List GuestSpec) (contents : Contents) (command : Command) (standing : Standing) → AreCommandLocks frames guests contents command standing → AreInOneRegion standing.locks
locks_within frames guests contents command standing tested =
    each_within standing.locks (λ number lock is. let of = tested.pages number lock is in lock_within (contents.pages of.page.frame).facts.size of.page.frame lock of.covers)

-- and the region of the frame that it names is one of its own
locks_listed : (locks : List PageLock) (frame : ℕ) → ((number : ℕ) (lock : PageLock) → slice_get locks number ≡ Some lock → covers lock.frame lock ≡ true)
    → list_any (λ region. eqb region (region_of frame)) (map (λ (l : PageLock). region_of l.frame) locks) ≡ true → list_any (λ region. eqb region (region_of frame)) (locks_regions locks) ≡ true
unfolding locks_regions
locks_listed [] frame each touches = touches
locks_listed (lock ∷ locks) frame each touches =
    let test = λ (region : ℕ). eqb region (region_of frame) in
    list_any-append test (lock_regions lock) (locks_regions locks)
    ∙ by_first (eqb (region_of lock.frame) (region_of frame)) refl (locks_listed locks frame (λ number l at. each (suc number) l at)) touches
  where
    by_first : (own : Bool) → eqb (region_of lock.frame) (region_of frame) ≡ own
        → (list_any (λ region. eqb region (region_of frame)) (map (λ (l : PageLock). region_of l.frame) locks) ≡ true → list_any (λ region. eqb region (region_of frame)) (locks_regions locks) ≡ true)
        → (own || list_any (λ region. eqb region (region_of frame)) (map (λ (l : PageLock). region_of l.frame) locks)) ≡ true
        → (list_any (λ region. eqb region (region_of frame)) (lock_regions lock) || list_any (λ region. eqb region (region_of frame)) (locks_regions locks)) ≡ true
    by_first true own others is =
        let same : region_of lock.frame ≡ region_of frame = grind (arith, nat_tests) in
        ap (λ (b : Bool). b || list_any (λ region. eqb region (region_of frame)) (locks_regions locks))
        (subst (λ (r : ℕ). list_any (λ region. eqb region r) (lock_regions lock) ≡ true) same (lock_region lock lock.frame (each 0 lock refl)))
    by_first false own others is =
        ap (λ (b : Bool). list_any (λ region. eqb region (region_of frame)) (lock_regions lock) || b) (others is) ∙ or-true (list_any (λ region. eqb region (region_of frame)) (lock_regions lock))

-- what a refusal releases is there
pub release_has : (frames : ℕ) (guests : List GuestSpec) (contents : Contents) (command : Command) (standing : Standing) (page : CommandPage) (stock : Stock) → AreCommandLocks frames guests contents command standing
    → HasTouched (page_touches frames standing page) stock → HasTouched (frames_touched standing) stock
unfolding page_touches
release_has frames guests contents command standing page stock tested has =
    let named = cond (nat_lt page.frame frames) (region_of page.frame ∷ []) [] in
    record {
      bays = λ frame touches. has.bays frame (
          list_any-append (λ region. eqb region (region_of frame)) named (locks_regions standing.locks)
          ∙ ap (λ (b : Bool). list_any (λ region. eqb region (region_of frame)) named || b)
          (locks_listed standing.locks frame (λ number lock is. let of = tested.pages number lock is in lock_own (contents.pages of.page.frame).facts.size of.page.frame lock of.covers) touches)
          ∙ or-true (list_any (λ region. eqb region (region_of frame)) named)
          );
      contexts = λ guest is. has.contexts guest is;
    }

-- so is what a refused compute releases
pub may_release : (frames : ℕ) (guests : List GuestSpec) (actor : ℕ) (command : Command) (part : ActorPart) (stock : Stock) → MayCommit frames guests actor command part stock → HasTouched (frames_touched part.standing) stock
unfolding command_touches
may_release frames guests actor command part stock may =
    let named = pages_regions (command_pages command) in
    let locks = part.standing.locks in
    record {
      bays = λ frame touches. may.has.bays frame (
          list_any-append (λ region. eqb region (region_of frame)) named (locks_regions locks)
          ∙ ap (λ (b : Bool). list_any (λ region. eqb region (region_of frame)) named || b)
          (locks_listed locks frame (λ number lock is. let of = may.tested.pages number lock is in lock_own (pages_of stock.bays of.page.frame).facts.size of.page.frame lock of.covers) touches)
          ∙ or-true (list_any (λ region. eqb region (region_of frame)) named)
          );
      contexts = λ guest is. may.has.contexts guest (may.tested.context guest is).guest_is;
    }

-- the region of the page is there, where its frame is in memory
pub named_has : (frames : ℕ) (standing : Standing) (page : CommandPage) (stock : Stock) → HasTouched (page_touches frames standing page) stock → page.frame < frames → HasFrame stock page.frame
unfolding page_touches
named_has frames standing page stock has below =
    let inside : nat_lt page.frame frames ≡ true = grind (arith, nat_tests) in
    has.bays page.frame (
    also_touched standing.locks (record { regions = cond (nat_lt page.frame frames) (region_of page.frame ∷ []) []; context = standing.context_lock }) page.frame (
    ap (λ (b : Bool). list_any (λ region. eqb region (region_of page.frame)) (cond b (region_of page.frame ∷ []) [])) inside ∙ grind (arith, nat_tests)
    )
    )

-- The next page isn't held

-- of a command with one page none is locked yet
none_before : (frame : ℕ) (locks : List PageLock) (page : CommandPage) → slice_get (one_page frame) (length locks) ≡ Some page → list_any (covers page.frame) locks ≡ false
none_before frame [] page next = refl
none_before frame (lock ∷ locks) page next = absurd cc

-- the frames of one with more differ
frames_apart : (frames : ℕ) (guests : List GuestSpec) (contents : Contents) (command : Command) (standing : Standing) (guest : ℕ) → AreCommandLocks frames guests contents command standing → standing.context_lock ≡ Some guest → has_equal_frames command ≡ false
unfolding context_refusal
frames_apart frames guests contents command standing guest tested held =
    (let_through (has_equal_frames command) (refusals.Status invalid_param) _ (others_none (guest_refusal guests guest) (context_refusal guests command (contents.contexts guest) None) (tested.context guest held).passes)).fails

abbrev Apart : List CommandPage → Type 0
Apart [] = Unit {0}
Apart (page ∷ pages) = ((number : ℕ) (other : CommandPage) → slice_get pages number ≡ Some other → page.frame ≢ other.frame) × Apart pages

alone : (page : CommandPage) (number : ℕ) (other : CommandPage) → slice_get (page ∷ []) number ≡ Some other → page.frame ≡ other.frame
alone page zero other is = ap (λ (p : CommandPage). p.frame) (same_some page other is)
alone page (suc number) other is = absurd cc

one_of_two : (first second : CommandPage) (number : ℕ) (other : CommandPage) → slice_get (first ∷ second ∷ []) number ≡ Some other → (first.frame ≡ other.frame) ⊎ (second.frame ≡ other.frame)
one_of_two first second zero other is = inl (ap (λ (p : CommandPage). p.frame) (same_some first other is))
one_of_two first second (suc number) other is = inr (alone second number other is)

none_apart : (page : CommandPage) (number : ℕ) (other : CommandPage) → slice_get [] number ≡ Some other → page.frame ≢ other.frame
none_apart page number other is = absurd cc

two_apart : (source target : ℕ) → eqb source target ≡ false → Apart (two_pages source target)
two_apart source target off = (first, (none_apart (record { part = Target; frame = target }), tt))
  where
    first : (number : ℕ) (other : CommandPage) → slice_get (record { part = Target; frame = target } ∷ []) number ≡ Some other → source ≢ other.frame
    first number other is same = let e = alone (record { part = Target; frame = target }) number other is in true≢false (sym (eq-eqb source target (same ∙ sym e)) ∙ off)

three_apart : (source target metadata : ℕ) → any_equal source target metadata ≡ false → Apart (three_pages source target metadata)
three_apart source target metadata off = (first, (second, (none_apart (record { part = Metadata; frame = metadata }), tt)))
  where
    source_target : source ≢ target
    source_target = grind (arith, nat_tests)

    source_metadata : source ≢ metadata
    source_metadata = grind (arith, nat_tests)

    target_metadata : target ≢ metadata
    target_metadata = grind (arith, nat_tests)

    first : (number : ℕ) (other : CommandPage) → slice_get (record { part = Target; frame = target } ∷ record { part = Metadata; frame = metadata } ∷ []) number ≡ Some other → source ≢ other.frame
    first number other is same =
        ⊎_elim
        (λ (e : target ≡ other.frame). source_target (same ∙ sym e))
        (λ (e : metadata ≡ other.frame). source_metadata (same ∙ sym e))
        (one_of_two (record { part = Target; frame = target }) (record { part = Metadata; frame = metadata }) number other is)

    second : (number : ℕ) (other : CommandPage) → slice_get (record { part = Metadata; frame = metadata } ∷ []) number ≡ Some other → target ≢ other.frame
    second number other is same = target_metadata (same ∙ sym (alone (record { part = Metadata; frame = metadata }) number other is))

-- and a lock of a command that takes no page of 2 MB is of its frame alone
record IsSmallLock (pages : List CommandPage) (number : ℕ) (lock : PageLock) : Type 0 where
  page : CommandPage
  page_is : slice_get pages number ≡ Some page
  lock_is : lock ≡ page_lock Small page.frame

locked_small : (frames : ℕ) (guests : List GuestSpec) (contents : Contents) (command : Command) (standing : Standing) → AreCommandLocks frames guests contents command standing → takes_large command ≡ false
    → (number : ℕ) (lock : PageLock) → slice_get standing.locks number ≡ Some lock → IsSmallLock (command_pages command) number lock
locked_small frames guests contents command standing tested takes number lock is =
    let of = tested.pages number lock is in
    let asid = command_asid guests command in
    let small = (page_tests command of.page.part (contents.pages of.page.frame).facts asid (lock_page frames asid command of.page contents of.passes)).small takes in
    record { page = of.page; page_is = of.page_is; lock_is = of.covers ∙ ap (λ (size : PageSize). page_lock size of.page.frame) small }

small_free : (frame other : ℕ) (lock : PageLock) → lock ≡ page_lock Small frame → frame ≢ other → covers other lock ≡ false
small_free frame other lock is apart = ap (λ (l : PageLock). covers other l) is ∙ grind (arith, nat_tests)

free_before : (pages : List CommandPage) (locks : List PageLock) (page : CommandPage) → Apart pages → ((number : ℕ) (lock : PageLock) → slice_get locks number ≡ Some lock → IsSmallLock pages number lock)
    → slice_get pages (length locks) ≡ Some page → list_any (covers page.frame) locks ≡ false
free_before pages [] page apart each next = refl
free_before [] (lock ∷ locks) page apart each next = absurd cc
free_before (own ∷ pages) (lock ∷ locks) page apart each next =
    let first = each 0 lock refl in
    let same : own ≡ first.page = same_some own first.page first.page_is in
    let lock_is = first.lock_is ∙ ap (λ (p : CommandPage). page_lock Small p.frame) (sym same) in
    let rest = free_before pages locks page apart.1 (λ number l at. let later = each (suc number) l at in record { page = later.page; page_is = later.page_is; lock_is = later.lock_is }) next in
    ap (λ (b : Bool). b || list_any (covers page.frame) locks) (small_free own.frame page.frame lock lock_is (apart.0 (length locks) page next)) ∙ rest

-- so by the command
next_free : (frames : ℕ) (guests : List GuestSpec) (contents : Contents) (command : Command) (standing : Standing) (page : CommandPage) → slice_get (command_pages command) (length standing.locks) ≡ Some page
    → ((guest : ℕ) → guest_of command ≡ Some guest → standing.context_lock ≡ Some guest) → AreCommandLocks frames guests contents command standing → list_any (covers page.frame) standing.locks ≡ false
unfolding command_pages guest_of has_equal_frames
next_free frames guests contents (commands.GctxCreate guest frame) standing page next held tested = none_before frame standing.locks page next
next_free frames guests contents (commands.Activate guest own) standing page next held tested = absurd cc
next_free frames guests contents (commands.LaunchStart guest) standing page next held tested = absurd cc
next_free frames guests contents (commands.LaunchUpdate guest frame page_type imi perms) standing page next held tested = none_before frame standing.locks page next
next_free frames guests contents (commands.LaunchFinish guest) standing page next held tested = absurd cc
next_free frames guests contents (commands.MdInit frame) standing page next held tested = none_before frame standing.locks page next
next_free frames guests contents (commands.PageMove guest source target) standing page next held tested =
    let command = commands.PageMove guest source target in
    free_before (two_pages source target) standing.locks page (two_apart source target (frames_apart frames guests contents command standing guest tested (held guest refl))) (locked_small frames guests contents command standing tested refl) next
next_free frames guests contents (commands.SwapOut guest source target metadata entry) standing page next held tested =
    let command = commands.SwapOut guest source target metadata entry in
    free_before (three_pages source target metadata) standing.locks page (three_apart source target metadata (frames_apart frames guests contents command standing guest tested (held guest refl))) (locked_small frames guests contents command standing tested refl) next
next_free frames guests contents (commands.SwapIn guest source target metadata entry) standing page next held tested =
    let command = commands.SwapIn guest source target metadata entry in
    free_before (three_pages source target metadata) standing.locks page (three_apart source target metadata (frames_apart frames guests contents command standing guest tested (held guest refl))) (locked_small frames guests contents command standing tested refl) next
next_free frames guests contents (commands.Reclaim frame) standing page next held tested = none_before frame standing.locks page next
next_free frames guests contents (commands.MdOut guest source target metadata entry) standing page next held tested =
    let command = commands.MdOut guest source target metadata entry in
    free_before (three_pages source target metadata) standing.locks page (three_apart source target metadata (frames_apart frames guests contents command standing guest tested (held guest refl))) (locked_small frames guests contents command standing tested refl) next
next_free frames guests contents (commands.MdIn guest source target metadata entry) standing page next held tested =
    let command = commands.MdIn guest source target metadata entry in
    free_before (three_pages source target metadata) standing.locks page (three_apart source target metadata (frames_apart frames guests contents command standing guest tested (held guest refl))) (locked_small frames guests contents command standing tested refl) next
next_free frames guests contents (commands.MdRootOut guest source target) standing page next held tested =
    let command = commands.MdRootOut guest source target in
    free_before (two_pages source target) standing.locks page (two_apart source target (frames_apart frames guests contents command standing guest tested (held guest refl))) (locked_small frames guests contents command standing tested refl) next
next_free frames guests contents (commands.MdRootIn guest source target) standing page next held tested =
    let command = commands.MdRootIn guest source target in
    free_before (two_pages source target) standing.locks page (two_apart source target (frames_apart frames guests contents command standing guest tested (held guest refl))) (locked_small frames guests contents command standing tested refl) next

pub next_unheld : (frames : ℕ) (guests : List GuestSpec) (actor : ℕ) (command : Command) (part : ActorPart) (page : CommandPage) (stock : Stock)
    → slice_get (command_pages command) (length part.standing.locks) ≡ Some page → ((guest : ℕ) → guest_of command ≡ Some guest → part.standing.context_lock ≡ Some guest)
    → AreCommandLocks frames guests (contents_of stock guests) command part.standing → OwnsLocks actor part (holders_of stock.bays) → holders_of stock.bays page.frame ≢ Some actor
next_unheld frames guests actor command part page stock next held tested owns own =
    true≢false (sym (owns.only page.frame own) ∙ next_free frames guests (contents_of stock guests) command part.standing page next held tested)

-- What it shows

pub quiet_contents : (guests : List GuestSpec) (part : ActorPart) (old new : Stock) (same shown : Shown) → shown ≡ same → pages_of new.bays ≡ pages_of old.bays → contexts_of new.contexts guests ≡ contexts_of old.contexts guests
    → move_by same (view_on old guests) (standing_by same part.standing) ≡ move_by shown (view_on new guests) (standing_by shown part.standing)
quiet_contents guests part old new same shown is pages contexts =
    ap (λ (s : Shown). move_by s (view_on old guests) (standing_by s part.standing)) (sym is)
    ∙ (λ i. let m : Move = record { deed = shown.deed; outcome = shown.outcome; contents = record { pages = sym pages i; contexts = sym contexts i }; standing = standing_by shown part.standing } in m)

-- where it takes the lock
pub taken_shows : (frames : ℕ) (guests : List GuestSpec) (part : ActorPart) (command : Command) (named : NamedPage) (old new : Stock) (taken : TakenLock) (shown : Shown) → None ≡ named_refused frames (command_asid guests command) command named old
    → page_lock_of taken ≡ page_lock (pages_of old.bays named.frame).facts.size named.frame → shown ≡ record { deed = deeds.Lock taken.frame; outcome = None; lock = Some (OfPage taken) }
    → pages_of new.bays ≡ pages_of old.bays → new.contexts ≡ old.contexts
    → take_page frames guests (view_on old guests) part command (command_page named) ≡ move_by shown (view_on new guests) (standing_by shown part.standing)
unfolding take_page lock_move
taken_shows frames guests part command named old new taken shown passed lock_is shown_is pages contexts =
    let lock = page_lock (pages_of old.bays named.frame).facts.size named.frame in
    ap (λ (r : Option FwRefusal). lock_move (contents_of old guests) part lock (option_map refused r)) (sym passed)
    ∙ ap (λ (l : PageLock). lock_move (contents_of old guests) part l None) (sym lock_is)
    ∙ quiet_contents guests part old new (record { deed = deeds.Lock taken.frame; outcome = None; lock = Some (OfPage taken) }) shown shown_is pages (λ i. contexts_of (contexts i) guests)

-- and where it is refused
pub refusal_shows : (frames : ℕ) (guests : List GuestSpec) (part : ActorPart) (command : Command) (named : NamedPage) (old new : Stock) (refusal : FwRefusal) (shown : Shown) → Some refusal ≡ named_refused frames (command_asid guests command) command named old
    → shown ≡ record { deed = deeds.Lock named.frame; outcome = Some (refused refusal); lock = None } → pages_of new.bays ≡ pages_of old.bays → contexts_of new.contexts guests ≡ contexts_of old.contexts guests
    → take_page frames guests (view_on old guests) part command (command_page named) ≡ move_by shown (view_on new guests) (standing_by shown part.standing)
unfolding take_page lock_move
refusal_shows frames guests part command named old new refusal shown refuses shown_is pages contexts =
    let lock = page_lock (pages_of old.bays named.frame).facts.size named.frame in
    ap (λ (r : Option FwRefusal). lock_move (contents_of old guests) part lock (option_map refused r)) (sym refuses)
    ∙ quiet_contents guests part old new (record { deed = deeds.Lock named.frame; outcome = Some (refused refusal); lock = None }) shown shown_is pages contexts
