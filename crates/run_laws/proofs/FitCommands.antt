-- The commit of each command keeps frames and pages of 2 MB in order.
use Rattle.std.proofs.Common.{◌≡◌, ◌⊎◌, inl, inr, ⊎_elim, ℕ, ◌%◌, ◌<◌, eqb, IfSome, List, Option, Some, None, unwrap_or, refl, sym, ap, ◌∙◌, arith}
use Rattle.std.proofs.lemmas.Bool.{cond_both}
use Rattle.snp_model.specs.declared.command.Command.{Command}
use Rattle.snp_model.specs.declared.command.Command.TheVariants as commands
use Rattle.snp_model.specs.declared.entry.PageSize.TheVariants.{Small, Large}
use Rattle.snp_model.specs.declared.entry.RmpEntry.{RmpEntry}
use Rattle.snp_model.specs.declared.firmware.MetaEntry.{MetaEntry}
use Rattle.snp_model.specs.declared.firmware.PageState.{PageState}
use Rattle.snp_model.specs.declared.firmware.PageState.TheVariants as states
use Rattle.snp_model.specs.declared.firmware.Part.TheVariants.{Source, Target}
use Rattle.snp_model.specs.declared.scenario.GuestSpec.{GuestSpec}
use Rattle.snp_model.specs.Facts.{page_base}
use Rattle.snp_model.specs.Firmware.{guest_of, pages_of, entry_of}
use Rattle.snp_model.specs.FirmwareCommits.{context_page, launched_words, launched_page, metadata_page, reclaim_facts, taken, placed, reclaimed_as, reclaimed_page, restored_facts, metadata_facts, metadata_out_facts, at_frame}
use Rattle.snp_model.specs.FirmwareStep.{command_asid, nothing_made, first_lock, pages_moved, pages_after}
use Rattle.snp_model.specs.Locks.{over_lock}
use Rattle.snp_model.specs.Metadata.{IsMetaEntry}
use Rattle.snp_model.specs.Opening.{asid_of}
use Rattle.snp_model.specs.PageStates.{state_of, allowed, is_pre_guest, is_pre_swap}
use Rattle.snp_model.specs.Sealing.{What, GuestPage, MetadataPage, Slot, OfEntry, OfRoot, Sealing, sealing_of, given_up, brought_back, no_entry, pages_out, pages_in}
use Rattle.snp_model.specs.State.{Page, Pages, PageLock, Contents, Computed, Standing, ActorPart, zero_words}
use Rattle.snp_model.proofs.PageBytesLaws.{are_zeros}
use Rattle.run_laws.specs.KeptLocks.{AreOfOneRegion}
use Rattle.run_laws.specs.Operands.{AreCommandOperands}
use Rattle.run_laws.specs.Uniqueness.{IsFull}
use Rattle.run_laws.proofs.CommandStages.{HasMade, all_locked}
use Rattle.run_laws.proofs.CommandTests.{IsReady, page_at}
use Rattle.run_laws.proofs.EntryWords.{entry_set_full}
use Rattle.run_laws.proofs.FitFacts.{context_fit, metadata_fit, metadata_out_fit, launched_fit, taken_fit, restored_fit, reclaim_fit, given_back_fit}
use Rattle.run_laws.proofs.FitPages.{IsFitPage, AreFitPages, zeros_full}
use Rattle.run_laws.proofs.InOrder.{IsFitMade}
use Rattle.run_laws.proofs.KeptCommits.{Passing}
use Rattle.run_laws.proofs.LargeCommands.{commit_large}
use Rattle.run_laws.proofs.LargePages.{AreLargeWhole, sizes_whole, base_region, one_page_same}
use Rattle.run_laws.proofs.LockLaws.{small_not_large}
use Rattle.run_laws.proofs.SealingPages.{IfEntry, at_each, table_page, out_each, in_each}
use Rattle.run_laws.proofs.SealingTests.{IsSealable, IsOpenable, IsTable, OutTests, InTests, SealingTests, locked_page, sealing_tests}
use Rattle.run_laws.proofs.StateFacts.{firmware_facts, pre_guest_facts, pre_swap_facts}
use Rattle.run_laws.proofs.UpdateLaws.{over_frames}

-- a command that seals or opens a page commits one that fits
abbrev pub FitIfSealed : Option Sealing → Computed → Type 0
FitIfSealed None made = Unit {0}
FitIfSealed (Some sealing) made = IsFitMade made

pub fit_if_sealed : (sealing : Option Sealing) (computed : Option Computed) → HasMade sealing computed → ((made : Computed) → computed ≡ Some made → IsFitMade made) → FitIfSealed sealing (unwrap_or computed nothing_made)
fit_if_sealed None computed has had = tt
fit_if_sealed (Some sealing) None has had = absurd has
fit_if_sealed (Some sealing) (Some made) has had = had made refl

-- frames after a page was sealed
given_fit : (asid : ℕ) (what : What) (page : Page) → IsSealable asid what page → IsFitPage page → IsFitPage (given_up what page)
given_fit asid GuestPage page is fit = record { facts = reclaim_fit page.facts fit.facts; words = zeros_full }
given_fit asid MetadataPage page is fit = record { facts = metadata_out_fit page.facts is.0.firmwares fit.facts; words = zeros_full }

table_fit : (slot : Slot) (entry : Option MetaEntry) (pages : Pages) → IfEntry slot (IsTable pages) → IfSome entry IsMetaEntry → AreFitPages pages
    → IfEntry slot (λ metadata number. IsFitPage (table_page number entry (pages metadata)))
table_fit (OfEntry metadata number) entry pages table fits fit =
    record { facts = (fit metadata).facts; words = entry_set_full (pages metadata).words number entry (fit metadata).words table.below fits }
table_fit OfRoot entry pages table fits fit = tt

out_fit : (asid : ℕ) (what : What) (source target : ℕ) (slot : Slot) (made : Computed) (pages : Pages) → OutTests asid pages what source target slot → IsFitMade made → AreFitPages pages
    → AreFitPages (pages_out what source target slot made pages)
out_fit asid what source target slot made pages tests is fit =
    out_each (λ (f : ℕ) (page : Page). IsFitPage page) what source target slot made pages tests.apart (given_fit asid what (pages source) tests.sealable (fit source))
    (record { facts = (fit target).facts; words = is.full }) (table_fit slot made.entry pages tests.table is.entry fit) (λ f other. fit f)

-- and after one was opened
entry_or_none : (entry : Option MetaEntry) → IfSome entry IsMetaEntry → IsMetaEntry (unwrap_or entry no_entry)
entry_or_none None fits = record {
  kind = omega arith;
  asid = omega arith;
  gpn = omega arith;
  perms_count = refl;
  perms = are_zeros 4;
  iv = omega arith;
  tag_count = refl;
  tag = are_zeros 16;
}
entry_or_none (Some entry) fits = fits

brought_fit : (asid : ℕ) (what : What) (entry : MetaEntry) (words : List ℕ) (page : Page) → IsOpenable asid what page.facts → IsMetaEntry entry → IsFull words → IsFitPage page
    → IsFitPage (brought_back what entry words page)
brought_fit asid GuestPage entry words page is fits full fit = record { facts = restored_fit entry page.facts fits is.0.kept_from fit.facts; words = full }
brought_fit asid MetadataPage entry words page is fits full fit = record { facts = metadata_fit page.facts is fit.facts; words = full }

in_fit : (asid : ℕ) (what : What) (source target : ℕ) (slot : Slot) (made : Computed) (pages : Pages) → InTests asid pages what source target slot → IsFitMade made → AreFitPages pages
    → AreFitPages (pages_in what target slot made pages)
in_fit asid what source target slot made pages tests is fit =
    in_each (λ (f : ℕ) (page : Page). IsFitPage page) what source target slot made pages tests.apart
    (brought_fit asid what (unwrap_or made.entry no_entry) made.words (pages target) tests.openable (entry_or_none made.entry is.entry) is.full (fit target))
    (table_fit slot None pages tests.table tt fit) (λ f off. fit f)

-- after page_move and page_reclaim
moved_fit : (source target : ℕ) (pages : Pages) → AreFitPages pages → AreFitPages (pages_moved source target pages)
unfolding pages_moved
moved_fit source target pages fit =
    let put : Page = placed (pages source).facts (pages source).words in
    at_each (λ (f : ℕ) (page : Page). IsFitPage page) target put (at_frame source (taken (pages source)) pages) (record { facts = (fit source).facts; words = (fit source).words })
    (λ f _. at_each (λ (k : ℕ) (page : Page). IsFitPage page) source (taken (pages source)) pages (record { facts = taken_fit (pages source).facts (fit source).facts; words = zeros_full }) (λ k _. fit k) f)

given_back_page : (state : PageState) (page : Page) → state_of page.facts ≡ state → IsFitPage page → IsFitPage (reclaimed_as state page)
given_back_page states.Hypervisor page is fit = fit
given_back_page states.PreGuest page is fit =
    record { facts = given_back_fit page.facts (pre_guest_facts page.facts (ap is_pre_guest is)).kept_from.of_guest fit.facts; words = fit.words }
given_back_page states.PreSwap page is fit = record { facts = given_back_fit page.facts (pre_swap_facts page.facts (ap is_pre_swap is)).of_guest fit.facts; words = fit.words }
given_back_page states.GuestInvalid page is fit = fit
given_back_page states.GuestValid page is fit = fit
given_back_page states.Reclaim page is fit = fit
given_back_page states.Firmware page is fit = record { facts = reclaim_fit page.facts fit.facts; words = zeros_full }
given_back_page states.Context page is fit = fit
given_back_page states.Metadata page is fit = record { facts = reclaim_fit page.facts fit.facts; words = zeros_full }

reclaimed_fit : (lock : PageLock) (pages : Pages) → AreFitPages pages → AreFitPages (over_lock lock reclaimed_page pages)
unfolding reclaimed_page
reclaimed_fit lock pages fit =
    over_frames (λ (new old : Page). IsFitPage new) lock.base lock.count (λ (place : ℕ). reclaimed_page) pages fit (λ f inside. given_back_page (state_of (pages f).facts) (pages f) refl (fit f))

launched_full : (page_type : ℕ) (words : List ℕ) → IsFull words → IsFull (launched_words page_type words)
unfolding launched_words
launched_full page_type words full = cond_both (eqb page_type 3) zero_words words IsFull (λ _. zeros_full) (λ _. full)

-- one page changes
one_fit : (frame : ℕ) (page : Page) (pages : Pages) → IsFitPage page → AreFitPages pages → AreFitPages (at_frame frame page pages)
one_fit frame page pages is fit = at_each (λ (f : ℕ) (new : Page). IsFitPage new) frame page pages is (λ f _. fit f)

-- what the locks of an attempt that has taken all have tested: of its pages, and of what it seals or opens
ready_passes : (frames : ℕ) (guests : List GuestSpec) (contents : Contents) (command : Command) (standing : Standing) → IsReady frames guests contents command standing → Passing (command_asid guests command) contents command
ready_passes frames guests contents command standing ready = locked_page frames guests contents command standing ready.tested (all_locked frames guests contents command standing ready)

ready_tests : (frames : ℕ) (guests : List GuestSpec) (contents : Contents) (command : Command) (standing : Standing) (guest : ℕ) → IsReady frames guests contents command standing → guest_of command ≡ Some guest
    → IfSome (entry_of command) (λ (n : ℕ). n < 64) → SealingTests (command_asid guests command) contents.pages (sealing_of command)
ready_tests frames guests contents command standing guest ready is below =
    sealing_tests frames guests contents command standing guest ready.tested (ready.held guest is) (all_locked frames guests contents command standing ready) below

-- frames after the commit of each command
pub commit_fit : (frames : ℕ) (guests : List GuestSpec) (contents : Contents) (command : Command) (standing : Standing) (made : Computed) → AreCommandOperands command → IsReady frames guests contents command standing
    → FitIfSealed (sealing_of command) made → AreFitPages contents.pages → AreFitPages (pages_after command standing.locks made contents.pages)
unfolding sealing_of guest_of pages_of entry_of pages_after allowed
commit_fit frames guests contents (commands.GctxCreate guest frame) standing made operands ready is fit =
    let firm = firmware_facts (contents.pages frame).facts (ready_passes frames guests contents (commands.GctxCreate guest frame) standing ready 0 (record { part = Target; frame = frame }) refl).allows in
    one_fit frame (context_page (contents.pages frame)) contents.pages (record { facts = context_fit (contents.pages frame).facts firm (fit frame).facts; words = (fit frame).words }) fit
commit_fit frames guests contents (commands.Activate guest asid) standing made operands ready is fit = fit
commit_fit frames guests contents (commands.LaunchStart guest) standing made operands ready is fit = fit
commit_fit frames guests contents (commands.LaunchUpdate guest frame page_type imi perms) standing made operands ready is fit =
    let pre = pre_guest_facts (contents.pages frame).facts (ready_passes frames guests contents (commands.LaunchUpdate guest frame page_type imi perms) standing ready 0 (record { part = Target; frame = frame }) refl).allows in
    one_fit frame (launched_page page_type perms (contents.pages frame)) contents.pages
    (record { facts = launched_fit perms (contents.pages frame).facts operands pre.kept_from (fit frame).facts; words = launched_full page_type (contents.pages frame).words (fit frame).words }) fit
commit_fit frames guests contents (commands.LaunchFinish guest) standing made operands ready is fit = fit
commit_fit frames guests contents (commands.MdInit frame) standing made operands ready is fit =
    let firm = firmware_facts (contents.pages frame).facts (ready_passes frames guests contents (commands.MdInit frame) standing ready 0 (record { part = Target; frame = frame }) refl).allows in
    one_fit frame (metadata_page (contents.pages frame)) contents.pages (record { facts = metadata_fit (contents.pages frame).facts firm (fit frame).facts; words = zeros_full }) fit
commit_fit frames guests contents (commands.PageMove guest source target) standing made operands ready is fit = moved_fit source target contents.pages fit
commit_fit frames guests contents (commands.SwapOut guest source target metadata entry) standing made operands ready is fit =
    out_fit (asid_of guests guest) GuestPage source target (OfEntry metadata entry) made contents.pages (ready_tests frames guests contents (commands.SwapOut guest source target metadata entry) standing guest ready refl operands) is fit
commit_fit frames guests contents (commands.SwapIn guest source target metadata entry) standing made operands ready is fit =
    in_fit (asid_of guests guest) GuestPage source target (OfEntry metadata entry) made contents.pages (ready_tests frames guests contents (commands.SwapIn guest source target metadata entry) standing guest ready refl operands) is fit
commit_fit frames guests contents (commands.Reclaim frame) standing made operands ready is fit = reclaimed_fit (first_lock standing.locks frame) contents.pages fit
commit_fit frames guests contents (commands.MdOut guest source target metadata entry) standing made operands ready is fit =
    out_fit (asid_of guests guest) MetadataPage source target (OfEntry metadata entry) made contents.pages (ready_tests frames guests contents (commands.MdOut guest source target metadata entry) standing guest ready refl operands) is fit
commit_fit frames guests contents (commands.MdIn guest source target metadata entry) standing made operands ready is fit =
    in_fit (asid_of guests guest) MetadataPage source target (OfEntry metadata entry) made contents.pages (ready_tests frames guests contents (commands.MdIn guest source target metadata entry) standing guest ready refl operands) is fit
commit_fit frames guests contents (commands.MdRootOut guest source target) standing made operands ready is fit =
    out_fit (asid_of guests guest) MetadataPage source target OfRoot made contents.pages (ready_tests frames guests contents (commands.MdRootOut guest source target) standing guest ready refl tt) is fit
commit_fit frames guests contents (commands.MdRootIn guest source target) standing made operands ready is fit =
    in_fit (asid_of guests guest) MetadataPage source target OfRoot made contents.pages (ready_tests frames guests contents (commands.MdRootIn guest source target) standing guest ready refl tt) is fit

-- pages of 2 MB: each frame keeps its facts, or is a page of 4 KB and stays one
abbrev StaysOrSmall : Page → Page → Type 0
StaysOrSmall old new = (new.facts ≡ old.facts) ⊎ ((old.facts.size ≡ Small) × (new.facts.size ≡ Small))

same_new : (old new : Page) → StaysOrSmall old new → new.facts.size ≡ Large → new.facts ≡ old.facts
same_new old new each large = ⊎_elim (λ (same : new.facts ≡ old.facts). same) (λ (small : (old.facts.size ≡ Small) × (new.facts.size ≡ Small)). absurd (small_not_large new.facts.size small.1 large)) each

same_old : (old new : Page) → StaysOrSmall old new → old.facts.size ≡ Large → new.facts ≡ old.facts
same_old old new each large = ⊎_elim (λ (same : new.facts ≡ old.facts). same) (λ (small : (old.facts.size ≡ Small) × (new.facts.size ≡ Small)). absurd (small_not_large old.facts.size small.0 large)) each

stays_large : (old new : Pages) → ((f : ℕ) → StaysOrSmall (old f) (new f)) → AreLargeWhole old → AreLargeWhole new
stays_large old new each whole =
    let here = λ (f : ℕ) (large : (new f).facts.size ≡ Large). same_new (old f) (new f) (each f) large in
    let was = λ (f : ℕ) (large : (new f).facts.size ≡ Large). sym (ap (λ (x : RmpEntry). x.size) (here f large)) ∙ large in
    let there = λ (f g : ℕ) (large : (new f).facts.size ≡ Large) (same : AreOfOneRegion f g). same_old (old g) (new g) (each g) ((sizes_whole old whole).large f g (was f large) same) in
    record {
      together = λ f g large same. one_page_same old new f g (here f large) (there f g large same) (whole.together f g (was f large) same);
      aligned = λ f large. ap (λ (x : RmpEntry). x.gpn % 512) (there f (page_base Large f) large (base_region f)) ∙ whole.aligned f (was f large);
    }

abbrev SizedAs : Pages → ℕ → Page → Type 0
SizedAs pages f page = StaysOrSmall (pages f) page

given_sized : (what : What) (pages : Pages) (source : ℕ) → (pages source).facts.size ≡ Small → SizedAs pages source (given_up what (pages source))
unfolding reclaim_facts metadata_out_facts
given_sized GuestPage pages source small = inr (small, small)
given_sized MetadataPage pages source small = inr (small, small)

brought_sized : (what : What) (entry : MetaEntry) (words : List ℕ) (pages : Pages) (target : ℕ) → (pages target).facts.size ≡ Small → SizedAs pages target (brought_back what entry words (pages target))
unfolding restored_facts metadata_facts
brought_sized GuestPage entry words pages target small = inr (small, small)
brought_sized MetadataPage entry words pages target small = inr (small, small)

table_sized : (slot : Slot) (entry : Option MetaEntry) (pages : Pages) → IfEntry slot (λ metadata number. SizedAs pages metadata (table_page number entry (pages metadata)))
table_sized (OfEntry metadata number) entry pages = inl refl
table_sized OfRoot entry pages = tt

out_large : (asid : ℕ) (what : What) (source target : ℕ) (slot : Slot) (made : Computed) (pages : Pages) → OutTests asid pages what source target slot → (pages source).facts.size ≡ Small → AreLargeWhole pages
    → AreLargeWhole (pages_out what source target slot made pages)
out_large asid what source target slot made pages tests small whole =
    stays_large pages (pages_out what source target slot made pages)
    (out_each (SizedAs pages) what source target slot made pages tests.apart (given_sized what pages source small) (inl refl) (table_sized slot made.entry pages) (λ f other. inl refl)) whole

in_large : (asid : ℕ) (what : What) (source target : ℕ) (slot : Slot) (made : Computed) (pages : Pages) → InTests asid pages what source target slot → (pages target).facts.size ≡ Small → AreLargeWhole pages
    → AreLargeWhole (pages_in what target slot made pages)
in_large asid what source target slot made pages tests small whole =
    stays_large pages (pages_in what target slot made pages)
    (in_each (SizedAs pages) what source target slot made pages tests.apart (brought_sized what (unwrap_or made.entry no_entry) made.words pages target small) (table_sized slot None pages) (λ f off. inl refl)) whole

pub commit_sizes : (frames : ℕ) (guests : List GuestSpec) (contents : Contents) (part : ActorPart) (command : Command) (made : Computed) → AreCommandOperands command → IsReady frames guests contents command part.standing
    → AreLargeWhole contents.pages → AreLargeWhole (pages_after command part.standing.locks made contents.pages)
unfolding sealing_of guest_of pages_of entry_of pages_after
commit_sizes frames guests contents part (commands.GctxCreate guest frame) made operands ready whole = commit_large frames guests contents part (commands.GctxCreate guest frame) made refl ready whole
commit_sizes frames guests contents part (commands.Activate guest asid) made operands ready whole = commit_large frames guests contents part (commands.Activate guest asid) made refl ready whole
commit_sizes frames guests contents part (commands.LaunchStart guest) made operands ready whole = commit_large frames guests contents part (commands.LaunchStart guest) made refl ready whole
commit_sizes frames guests contents part (commands.LaunchUpdate guest frame page_type imi perms) made operands ready whole = commit_large frames guests contents part (commands.LaunchUpdate guest frame page_type imi perms) made refl ready whole
commit_sizes frames guests contents part (commands.LaunchFinish guest) made operands ready whole = commit_large frames guests contents part (commands.LaunchFinish guest) made refl ready whole
commit_sizes frames guests contents part (commands.MdInit frame) made operands ready whole = commit_large frames guests contents part (commands.MdInit frame) made refl ready whole
commit_sizes frames guests contents part (commands.PageMove guest source target) made operands ready whole = commit_large frames guests contents part (commands.PageMove guest source target) made refl ready whole
commit_sizes frames guests contents part (commands.SwapOut guest source target metadata entry) made operands ready whole =
    out_large (asid_of guests guest) GuestPage source target (OfEntry metadata entry) made contents.pages (ready_tests frames guests contents (commands.SwapOut guest source target metadata entry) part.standing guest ready refl operands)
    ((page_at frames guests contents (commands.SwapOut guest source target metadata entry) part.standing 0 (record { part = Source; frame = source }) ready refl).small refl) whole
commit_sizes frames guests contents part (commands.SwapIn guest source target metadata entry) made operands ready whole =
    in_large (asid_of guests guest) GuestPage source target (OfEntry metadata entry) made contents.pages (ready_tests frames guests contents (commands.SwapIn guest source target metadata entry) part.standing guest ready refl operands)
    ((page_at frames guests contents (commands.SwapIn guest source target metadata entry) part.standing 1 (record { part = Target; frame = target }) ready refl).small refl) whole
commit_sizes frames guests contents part (commands.Reclaim frame) made operands ready whole = commit_large frames guests contents part (commands.Reclaim frame) made refl ready whole
commit_sizes frames guests contents part (commands.MdOut guest source target metadata entry) made operands ready whole =
    out_large (asid_of guests guest) MetadataPage source target (OfEntry metadata entry) made contents.pages (ready_tests frames guests contents (commands.MdOut guest source target metadata entry) part.standing guest ready refl operands)
    ((page_at frames guests contents (commands.MdOut guest source target metadata entry) part.standing 0 (record { part = Source; frame = source }) ready refl).small refl) whole
commit_sizes frames guests contents part (commands.MdIn guest source target metadata entry) made operands ready whole =
    in_large (asid_of guests guest) MetadataPage source target (OfEntry metadata entry) made contents.pages (ready_tests frames guests contents (commands.MdIn guest source target metadata entry) part.standing guest ready refl operands)
    ((page_at frames guests contents (commands.MdIn guest source target metadata entry) part.standing 1 (record { part = Target; frame = target }) ready refl).small refl) whole
commit_sizes frames guests contents part (commands.MdRootOut guest source target) made operands ready whole =
    out_large (asid_of guests guest) MetadataPage source target OfRoot made contents.pages (ready_tests frames guests contents (commands.MdRootOut guest source target) part.standing guest ready refl tt)
    ((page_at frames guests contents (commands.MdRootOut guest source target) part.standing 0 (record { part = Source; frame = source }) ready refl).small refl) whole
commit_sizes frames guests contents part (commands.MdRootIn guest source target) made operands ready whole =
    in_large (asid_of guests guest) MetadataPage source target OfRoot made contents.pages (ready_tests frames guests contents (commands.MdRootIn guest source target) part.standing guest ready refl tt)
    ((page_at frames guests contents (commands.MdRootIn guest source target) part.standing 1 (record { part = Target; frame = target }) ready refl).small refl) whole
