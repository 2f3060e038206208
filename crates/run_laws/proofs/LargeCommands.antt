-- Pages of 2 MB stay whole at the commit of each command that seals nothing: only page_reclaim acts on one, and then on all of it.
use Rattle.std.proofs.Common.{◌≡◌, ℕ, ◌+◌, ◌/◌, ◌*◌, ◌%◌, true, false, eqb, List, Some, None, refl, sym, ap, ◌∙◌, subst, arith}
use Rattle.std.proofs.lemmas.Bool.{cond-true, cond-false, eqb-true}
use Rattle.std.proofs.lemmas.Option.{get_or_from_slice_get}
use Rattle.snp_model.specs.declared.command.Command.{Command}
use Rattle.snp_model.specs.declared.command.Command.TheVariants as commands
use Rattle.snp_model.specs.declared.entry.PageSize.{PageSize}
use Rattle.snp_model.specs.declared.entry.PageSize.TheVariants.{Small, Large}
use Rattle.snp_model.specs.declared.entry.RmpEntry.{RmpEntry}
use Rattle.snp_model.specs.declared.firmware.PageState.{PageState}
use Rattle.snp_model.specs.declared.firmware.PageState.TheVariants as states
use Rattle.snp_model.specs.declared.firmware.Part.TheVariants.{Source, Target}
use Rattle.snp_model.specs.declared.scenario.GuestSpec.{GuestSpec}
use Rattle.snp_model.specs.Facts.{page_base}
use Rattle.snp_model.specs.Firmware.{pages_of}
use Rattle.snp_model.specs.FirmwareCommits.{at_frame, context_facts, context_page, launched_facts, launched_page, metadata_facts, metadata_page, taken_facts, taken, placed, gpn_from_zero, reclaim_facts, given_back_facts, reclaimed_as, reclaimed_page}
use Rattle.snp_model.specs.FirmwareStep.{first_lock, pages_moved, pages_after}
use Rattle.snp_model.specs.Locks.{over_lock, covers, page_lock}
use Rattle.snp_model.specs.PageStates.{state_of}
use Rattle.snp_model.specs.Sealing.{sealing_of}
use Rattle.snp_model.specs.State.{Page, Pages, PageLock, Contents, Computed, ActorPart}
use Rattle.run_laws.specs.KeptLocks.{AreOfOneRegion}
use Rattle.run_laws.specs.Shapes.{AreOfOnePage}
use Rattle.run_laws.proofs.CommandTests.{IsReady, has_lock, page_at}
use Rattle.run_laws.proofs.FirmwareLocked.{reclaimed_as_size}
use Rattle.run_laws.proofs.LargePages.{AreLargeWhole, sizes_whole, base_region, one_page_same, small_changes_whole, IsUniform, CoversWhole, uniform_whole, beside_page}
use Rattle.run_laws.proofs.LockLaws.{small_covered, page_region, region_page, page_whole}
use Rattle.run_laws.proofs.LockedItems.{by_range}
use Rattle.run_laws.proofs.PageUseLaws.{at_each}

-- a page of 4 KB that stays so
pub at_large : (frame : ℕ) (page : Page) (pages : Pages) → (pages frame).facts.size ≡ Small → page.facts.size ≡ Small → AreLargeWhole pages → AreLargeWhole (at_frame frame page pages)
unfolding at_frame
at_large frame page pages was is whole =
    small_changes_whole pages (at_frame frame page pages) (λ f. eqb frame f)
    (record {
      same = λ f other. ap (λ (p : Page). p.facts) (cond-false (eqb frame f) page (pages f) other);
      was_small = λ f same. ap (λ (k : ℕ). (pages k).facts.size) (sym (eqb-true frame f same)) ∙ was;
      is_small = λ f same. ap (λ (p : Page). p.facts.size) (cond-true (eqb frame f) page (pages f) same) ∙ is;
    }) whole

-- page_move
moved_large : (source target : ℕ) (pages : Pages) → (pages source).facts.size ≡ Small → (pages target).facts.size ≡ Small → AreLargeWhole pages → AreLargeWhole (pages_moved source target pages)
unfolding pages_moved taken_facts
moved_large source target pages from to whole =
    let page = pages source in
    at_large target (placed page.facts page.words) (at_frame source (taken page) pages)
    (at_each (λ f new. (pages f).facts.size ≡ Small → new.facts.size ≡ Small) source (taken page) pages (λ small. small) (λ f _ small. small) target to)
    from (at_large source (taken page) pages from from whole)

-- page_reclaim of a page of 4 KB

reclaimed_size : (page : Page) → (reclaimed_page page).facts.size ≡ page.facts.size
unfolding reclaimed_page
reclaimed_size page = reclaimed_as_size (state_of page.facts) page

inside_facts : (lock : PageLock) (pages : Pages) (f : ℕ) → covers f lock ≡ true → over_lock lock reclaimed_page pages f ≡ reclaimed_page (pages f)
inside_facts lock pages f inside = cond-true (covers f lock) (reclaimed_page (pages f)) (pages f) inside

beside_facts : (lock : PageLock) (pages : Pages) (f : ℕ) → covers f lock ≡ false → over_lock lock reclaimed_page pages f ≡ pages f
beside_facts lock pages f beside = cond-false (covers f lock) (reclaimed_page (pages f)) (pages f) beside

small_reclaimed : (frame : ℕ) (pages : Pages) → (pages frame).facts.size ≡ Small → AreLargeWhole pages → AreLargeWhole (over_lock (page_lock Small frame) reclaimed_page pages)
small_reclaimed frame pages small whole =
    let lock = page_lock Small frame in
    let was = λ (f : ℕ) (inside : covers f lock ≡ true). ap (λ (k : ℕ). (pages k).facts.size) (small_covered frame f inside) ∙ small in
    small_changes_whole pages (over_lock lock reclaimed_page pages) (λ f. covers f lock)
    (record {
      same = λ f beside. ap (λ (p : Page). p.facts) (beside_facts lock pages f beside);
      was_small = was;
      is_small = λ f inside. ap (λ (p : Page). p.facts.size) (inside_facts lock pages f inside) ∙ reclaimed_size (pages f) ∙ was f inside;
    }) whole

-- of a page of 2 MB: what the facts of each of its frames become, by the state that all have
abbrev facts_as : PageState → RmpEntry → RmpEntry
facts_as states.Firmware facts = reclaim_facts facts
facts_as states.Metadata facts = reclaim_facts facts
facts_as states.PreGuest facts = given_back_facts facts
facts_as states.PreSwap facts = given_back_facts facts
facts_as state facts = facts

reclaimed_facts : (state : PageState) (page : Page) → (reclaimed_as state page).facts ≡ facts_as state page.facts
reclaimed_facts states.Hypervisor page = refl
reclaimed_facts states.PreGuest page = refl
reclaimed_facts states.PreSwap page = refl
reclaimed_facts states.GuestInvalid page = refl
reclaimed_facts states.GuestValid page = refl
reclaimed_facts states.Reclaim page = refl
reclaimed_facts states.Firmware page = refl
reclaimed_facts states.Context page = refl
reclaimed_facts states.Metadata page = refl

state_any_gpn : (facts : RmpEntry) (gpn : ℕ) → state_of (record facts { gpn = gpn }) ≡ state_of facts
unfolding state_of
state_any_gpn facts gpn = refl

one_state : (pages : Pages) (f g : ℕ) → AreOfOnePage pages f g → state_of (pages g).facts ≡ state_of (pages f).facts
one_state pages f g page = ap state_of page.alike ∙ state_any_gpn (pages f).facts (pages g).facts.gpn

-- the frames of the page, and those beside it
record ReclaimsAs (frame : ℕ) (state : PageState) (pages new : Pages) : Type 0 where
  inside : (f : ℕ) → covers f (page_lock Large frame) ≡ true → (new f).facts ≡ facts_as state (pages f).facts
  beside : (f : ℕ) → covers f (page_lock Large frame) ≡ false → (new f).facts ≡ (pages f).facts

reclaims_as : (frame : ℕ) (pages : Pages) → (pages frame).facts.size ≡ Large → AreLargeWhole pages → ReclaimsAs frame (state_of (pages frame).facts) pages (over_lock (page_lock Large frame) reclaimed_page pages)
unfolding reclaimed_page
reclaims_as frame pages large whole =
    let lock = page_lock Large frame in
    record {
      inside = λ f is.
          ap (λ (p : Page). p.facts) (inside_facts lock pages f is) ∙ reclaimed_facts (state_of (pages f).facts) (pages f)
          ∙ ap (λ (state : PageState). facts_as state (pages f).facts) (one_state pages frame f (whole.together frame f large (page_region frame f is)));
      beside = λ f is. ap (λ (p : Page). p.facts) (beside_facts lock pages f is);
    }

-- where they only become mutable, or stay
given_back_uniform : IsUniform given_back_facts
unfolding given_back_facts
given_back_uniform = record { gpn = λ x. refl; size = λ x. refl; alike = λ x q. refl }

same_uniform : IsUniform (λ (facts : RmpEntry). facts)
same_uniform = record { gpn = λ x. refl; size = λ x. refl; alike = λ x q. refl }

-- where they become nobody's: guest page numbers begin at 0
released_alike : (x y : RmpEntry) → y ≡ record x { gpn = y.gpn } → reclaim_facts y ≡ record (reclaim_facts x) { gpn = (reclaim_facts y).gpn }
unfolding reclaim_facts
released_alike x y is = ap reclaim_facts is ∙ ap (λ (z : RmpEntry). record (reclaim_facts x) { gpn = gpn_from_zero z }) (sym is)

large_gpn : (facts : RmpEntry) (size : PageSize) → facts.size ≡ size → size ≡ Large → (reclaim_facts facts).gpn ≡ facts.gpn % 512
unfolding reclaim_facts
large_gpn facts Small is large = absurd cc
large_gpn facts Large is large = rw is refl

released_size : (facts : RmpEntry) → (reclaim_facts facts).size ≡ facts.size
unfolding reclaim_facts
released_size facts = refl

follow_places : (f g b gpn_f gpn_g gpn_b : ℕ) → b ≡ f / 512 * 512 → f / 512 ≡ g / 512 → gpn_b % 512 ≡ 0 → gpn_b + f ≡ gpn_f + b → gpn_g + f ≡ gpn_f + g → gpn_g % 512 + f ≡ gpn_f % 512 + g
follow_places f g b gpn_f gpn_g gpn_b base same aligned first other = omega arith

released_whole : (frame : ℕ) (pages new : Pages) → AreLargeWhole pages → ((f : ℕ) → covers f (page_lock Large frame) ≡ true → (new f).facts ≡ reclaim_facts (pages f).facts)
    → ((f : ℕ) → covers f (page_lock Large frame) ≡ false → (new f).facts ≡ (pages f).facts) → AreLargeWhole new
released_whole frame pages new whole inside beside =
    let lock = page_lock Large frame in
    let size = λ (f : ℕ). by_range (covers f lock) ((new f).facts.size ≡ (pages f).facts.size)
    (λ is. ap (λ (x : RmpEntry). x.size) (inside f is) ∙ released_size (pages f).facts) (λ is. ap (λ (x : RmpEntry). x.size) (beside f is)) in
    let was = λ (f : ℕ) (large : (new f).facts.size ≡ Large). sym (size f) ∙ large in
    let region = λ (f g : ℕ) (is : covers f lock ≡ true) (same : AreOfOneRegion f g). region_page frame g (page_region frame f is ∙ same) in
    let gpn = λ (f : ℕ) (is : covers f lock ≡ true) (large : (pages f).facts.size ≡ Large).
    ap (λ (x : RmpEntry). x.gpn) (inside f is) ∙ large_gpn (pages f).facts (pages f).facts.size refl large in
    record {
      together = λ f g large same.
          by_range (covers f lock) (AreOfOnePage new f g)
          (λ is.
          let there = region f g is same in
          let before = was f large in
          let page = whole.together f g before same in
          let base = whole.together f (page_base Large f) before (base_region f) in
          let at_f = gpn f is before in
          let at_g = gpn g there ((sizes_whole pages whole).large f g before same) in
          record {
            follow = ap (λ (q : ℕ). q + f) at_g
                ∙ follow_places f g (page_base Large f) (pages f).facts.gpn (pages g).facts.gpn (pages (page_base Large f)).facts.gpn refl same (whole.aligned f before) base.follow page.follow
                ∙ ap (λ (q : ℕ). q + g) (sym at_f);
            alike = inside g there ∙ released_alike (pages f).facts (pages g).facts page.alike
                ∙ ap (λ (x : RmpEntry). record x { gpn = (reclaim_facts (pages g).facts).gpn }) (sym (inside f is))
                ∙ ap (λ (q : ℕ). record (new f).facts { gpn = q }) (ap (λ (x : RmpEntry). x.gpn) (sym (inside g there)));
          })
          (λ is. one_page_same pages new f g (beside f is) (beside g (beside_page frame f g is same)) (whole.together f g (was f large) same));
      aligned = λ f large.
          let b = page_base Large f in
          let before = was f large in
          by_range (covers f lock) ((new b).facts.gpn % 512 ≡ 0)
          (λ is. ap (λ (q : ℕ). q % 512) (gpn b (region f b is (base_region f)) ((sizes_whole pages whole).large f b before (base_region f)) ∙ whole.aligned f before))
          (λ is. ap (λ (x : RmpEntry). x.gpn % 512) (beside b (beside_page frame f b is (base_region f))) ∙ whole.aligned f before);
    }

by_reclaimed : (frame : ℕ) (state : PageState) (pages new : Pages) → CoversWhole pages (page_lock Large frame) → ReclaimsAs frame state pages new → AreLargeWhole pages → AreLargeWhole new
by_reclaimed frame states.Hypervisor pages new covering becomes whole = uniform_whole pages new (page_lock Large frame) (λ x. x) same_uniform covering (record { inside = becomes.inside; beside = becomes.beside }) whole
by_reclaimed frame states.PreGuest pages new covering becomes whole = uniform_whole pages new (page_lock Large frame) given_back_facts given_back_uniform covering (record { inside = becomes.inside; beside = becomes.beside }) whole
by_reclaimed frame states.PreSwap pages new covering becomes whole = uniform_whole pages new (page_lock Large frame) given_back_facts given_back_uniform covering (record { inside = becomes.inside; beside = becomes.beside }) whole
by_reclaimed frame states.GuestInvalid pages new covering becomes whole = uniform_whole pages new (page_lock Large frame) (λ x. x) same_uniform covering (record { inside = becomes.inside; beside = becomes.beside }) whole
by_reclaimed frame states.GuestValid pages new covering becomes whole = uniform_whole pages new (page_lock Large frame) (λ x. x) same_uniform covering (record { inside = becomes.inside; beside = becomes.beside }) whole
by_reclaimed frame states.Reclaim pages new covering becomes whole = uniform_whole pages new (page_lock Large frame) (λ x. x) same_uniform covering (record { inside = becomes.inside; beside = becomes.beside }) whole
by_reclaimed frame states.Firmware pages new covering becomes whole = released_whole frame pages new whole becomes.inside becomes.beside
by_reclaimed frame states.Context pages new covering becomes whole = uniform_whole pages new (page_lock Large frame) (λ x. x) same_uniform covering (record { inside = becomes.inside; beside = becomes.beside }) whole
by_reclaimed frame states.Metadata pages new covering becomes whole = released_whole frame pages new whole becomes.inside becomes.beside

reclaimed_large : (frame : ℕ) (size : PageSize) (pages : Pages) → (pages frame).facts.size ≡ size → AreLargeWhole pages → AreLargeWhole (over_lock (page_lock size frame) reclaimed_page pages)
reclaimed_large frame Small pages is whole = small_reclaimed frame pages is whole
reclaimed_large frame Large pages is whole = by_reclaimed frame (state_of (pages frame).facts) pages _ (page_whole pages frame Large is) (reclaims_as frame pages is whole) whole

-- the lock that page_reclaim acts on
reclaim_lock : (frames : ℕ) (guests : List GuestSpec) (contents : Contents) (part : ActorPart) (frame : ℕ) → IsReady frames guests contents (commands.Reclaim frame) part.standing
    → first_lock part.standing.locks frame ≡ page_lock (contents.pages frame).facts.size frame
unfolding pages_of
reclaim_lock frames guests contents part frame ready =
    let has = has_lock frames guests contents (commands.Reclaim frame) part.standing 0 (record { part = Target; frame = frame }) ready.tested ready.all refl in
    get_or_from_slice_get part.standing.locks 0 has.lock (page_lock Small frame) has.lock_is ∙ has.covers_page

some_none : {X : Type 0} (x : X) → Some x ≡ None → ⊥
some_none x e = cc

-- the commit of each command
pub commit_large : (frames : ℕ) (guests : List GuestSpec) (contents : Contents) (part : ActorPart) (command : Command) (made : Computed) → sealing_of command ≡ None → IsReady frames guests contents command part.standing → AreLargeWhole contents.pages
    → AreLargeWhole (pages_after command part.standing.locks made contents.pages)
unfolding sealing_of pages_of pages_after context_facts launched_facts metadata_facts
commit_large frames guests contents part (commands.GctxCreate owner frame) made plain ready whole =
    let small = (page_at frames guests contents (commands.GctxCreate owner frame) part.standing 0 (record { part = Target; frame = frame }) ready refl).small refl in
    at_large frame (context_page (contents.pages frame)) contents.pages small small whole
commit_large frames guests contents part (commands.Activate owner asid) made plain ready whole = whole
commit_large frames guests contents part (commands.LaunchStart owner) made plain ready whole = whole
commit_large frames guests contents part (commands.LaunchUpdate owner frame page_type imi perms) made plain ready whole =
    let small = (page_at frames guests contents (commands.LaunchUpdate owner frame page_type imi perms) part.standing 0 (record { part = Target; frame = frame }) ready refl).small refl in
    at_large frame (launched_page page_type perms (contents.pages frame)) contents.pages small small whole
commit_large frames guests contents part (commands.LaunchFinish owner) made plain ready whole = whole
commit_large frames guests contents part (commands.MdInit frame) made plain ready whole =
    let small = (page_at frames guests contents (commands.MdInit frame) part.standing 0 (record { part = Target; frame = frame }) ready refl).small refl in
    at_large frame (metadata_page (contents.pages frame)) contents.pages small small whole
commit_large frames guests contents part (commands.PageMove owner source target) made plain ready whole =
    let command = commands.PageMove owner source target in
    moved_large source target contents.pages ((page_at frames guests contents command part.standing 0 (record { part = Source; frame = source }) ready refl).small refl)
    ((page_at frames guests contents command part.standing 1 (record { part = Target; frame = target }) ready refl).small refl) whole
commit_large frames guests contents part (commands.SwapOut owner source target metadata entry) made plain ready whole = absurd (some_none _ plain)
commit_large frames guests contents part (commands.SwapIn owner source target metadata entry) made plain ready whole = absurd (some_none _ plain)
commit_large frames guests contents part (commands.Reclaim frame) made plain ready whole =
    subst (λ (lock : PageLock). AreLargeWhole (over_lock lock reclaimed_page contents.pages)) (sym (reclaim_lock frames guests contents part frame ready))
    (reclaimed_large frame (contents.pages frame).facts.size contents.pages refl whole)
commit_large frames guests contents part (commands.MdOut owner source target metadata entry) made plain ready whole = absurd (some_none _ plain)
commit_large frames guests contents part (commands.MdIn owner source target metadata entry) made plain ready whole = absurd (some_none _ plain)
commit_large frames guests contents part (commands.MdRootOut owner source target) made plain ready whole = absurd (some_none _ plain)
commit_large frames guests contents part (commands.MdRootIn owner source target) made plain ready whole = absurd (some_none _ plain)
