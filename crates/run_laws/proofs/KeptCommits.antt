-- The commit of a command that seals and opens nothing keeps what ties counters and seals together: it makes no entry, and changes no counter, key or root.
use Rattle.std.proofs.Common.{◌≡◌, ◌≢◌, ℕ, eqb, List, Option, Some, None, slice_get, refl, sym, ◌∙◌, subst}
use Rattle.std.proofs.lemmas.Bool.{cond_both, eqb-true}
use Rattle.snp_model.specs.declared.command.Command.{Command}
use Rattle.snp_model.specs.declared.command.Command.TheVariants as commands
use Rattle.snp_model.specs.declared.entry.Kind.TheVariants as kinds
use Rattle.snp_model.specs.declared.entry.RmpEntry.{RmpEntry}
use Rattle.snp_model.specs.declared.firmware.PageState.{PageState}
use Rattle.snp_model.specs.declared.firmware.PageState.TheVariants as states
use Rattle.snp_model.specs.declared.firmware.Part.TheVariants.{Source, Target}
use Rattle.snp_model.specs.Firmware.{CommandPage, guest_of, pages_of}
use Rattle.snp_model.specs.FirmwareCommits.{at_frame, at_guest, context_facts, launched_facts, taken_facts, taken, placed, reclaim_facts, given_back_facts, reclaimed_as, reclaimed_page, context_after, launched_into, root_after}
use Rattle.snp_model.specs.FirmwareStep.{first_lock, pages_moved, pages_after, context_committed, contexts_after}
use Rattle.snp_model.specs.Live.{Archive, vault_of}
use Rattle.snp_model.specs.Locks.{over_lock, in_range}
use Rattle.snp_model.specs.PageStates.{state_of, allowed}
use Rattle.snp_model.specs.Sealing.{sealing_of}
use Rattle.snp_model.specs.State.{Page, Pages, Context, Contexts, Contents, Computed, PageLock}
use Rattle.run_laws.specs.Uniqueness.{Seals}
use Rattle.run_laws.proofs.KeptSeals.{KeepsEntries, plain_keeps, same_keeps, zero_keeps, SealsAlike, alike_itself, seals_kept}
use Rattle.run_laws.proofs.SealingCommits.{contents_after}
use Rattle.run_laws.proofs.SealingPages.{at_each}
use Rattle.run_laws.proofs.SealOutCommit.{IsFitMemory, metadata_nobodys}
use Rattle.run_laws.proofs.StateFacts.{pre_guest_facts, pre_swap_facts}
use Rattle.run_laws.proofs.SealingTests.{PagePasses}

abbrev AllKeep : ℕ → Pages → Pages → Type 0
AllKeep asid new old = (f : ℕ) → KeepsEntries asid (new f) (old f)

-- one frame gets another page
pub frame_keeps : (asid frame : ℕ) (page : Page) (pages : Pages) → KeepsEntries asid page (pages frame) → AllKeep asid (at_frame frame page pages) pages
frame_keeps asid frame page pages here = at_each (λ f new. KeepsEntries asid new (pages f)) frame page pages here (λ f other number entry is. is)

-- a page of a guest is no metadata page
guest_page_plain : (pages : Pages) (frame : ℕ) → IsFitMemory pages → (pages frame).facts.asid ≢ 0 → (pages frame).facts.kind ≢ kinds.Metadata
guest_page_plain pages frame fits some is = some (metadata_nobodys (pages frame).facts (fits.facts frame) is)

-- a page that is taken back
released_plain : (facts : RmpEntry) → (reclaim_facts facts).kind ≢ kinds.Metadata
unfolding reclaim_facts
released_plain facts is = cc

reclaim_keeps : (asid : ℕ) (state : PageState) (page : Page) → KeepsEntries asid (reclaimed_as state page) page
unfolding given_back_facts
reclaim_keeps asid states.Hypervisor page = λ number entry is. is
reclaim_keeps asid states.PreGuest page = same_keeps asid (reclaimed_as states.PreGuest page) page (λ is. (is, refl))
reclaim_keeps asid states.PreSwap page = same_keeps asid (reclaimed_as states.PreSwap page) page (λ is. (is, refl))
reclaim_keeps asid states.GuestInvalid page = λ number entry is. is
reclaim_keeps asid states.GuestValid page = λ number entry is. is
reclaim_keeps asid states.Reclaim page = λ number entry is. is
reclaim_keeps asid states.Firmware page = plain_keeps asid (reclaimed_as states.Firmware page) page (released_plain page.facts)
reclaim_keeps asid states.Context page = λ number entry is. is
reclaim_keeps asid states.Metadata page = plain_keeps asid (reclaimed_as states.Metadata page) page (released_plain page.facts)

reclaimed_keeps : (asid : ℕ) (page : Page) → KeepsEntries asid (reclaimed_page page) page
unfolding reclaimed_page
reclaimed_keeps asid page = reclaim_keeps asid (state_of page.facts) page

range_keeps : (asid : ℕ) (lock : PageLock) (pages : Pages) → AllKeep asid (over_lock lock reclaimed_page pages) pages
range_keeps asid lock pages f = cond_both (in_range lock.base lock.count f) _ _ (λ (page : Page). KeepsEntries asid page (pages f)) (λ _. reclaimed_keeps asid (pages f)) (λ _ number entry is. is)

context_plain : (facts : RmpEntry) → (context_facts facts).kind ≢ kinds.Metadata
unfolding context_facts
context_plain facts is = cc

launched_kind : (perms : List ℕ) (facts : RmpEntry) → (launched_facts perms facts).kind ≡ facts.kind
unfolding launched_facts
launched_kind perms facts = refl

taken_kind : (facts : RmpEntry) → (taken_facts facts).kind ≡ facts.kind
unfolding taken_facts
taken_kind facts = refl

-- what a command that seals and opens nothing has tested of its pages
abbrev pub Passing : ℕ → Contents → Command → Type 0
Passing asid contents command = (number : ℕ) (page : CommandPage) → slice_get (pages_of command) number ≡ Some page → PagePasses command page asid (contents.pages page.frame)

move_keeps : (asid source target : ℕ) (pages : Pages) → (pages source).facts.kind ≢ kinds.Metadata → AllKeep asid (pages_moved source target pages) pages
unfolding pages_moved
move_keeps asid source target pages plain =
    let emptied : Page = taken (pages source) in
    let put : Page = placed (pages source).facts (pages source).words in
    at_each (λ f new. KeepsEntries asid new (pages f)) target put (at_frame source emptied pages) (plain_keeps asid put (pages target) plain)
    (λ f other. frame_keeps asid source emptied pages (zero_keeps asid emptied (pages source) refl) f)

pub pages_keep : (asid owner : ℕ) (contents : Contents) (command : Command) (locks : List PageLock) (made : Computed) → IsFitMemory contents.pages → Passing owner contents command → sealing_of command ≡ None
    → AllKeep asid (pages_after command locks made contents.pages) contents.pages
unfolding pages_after pages_of allowed sealing_of
pages_keep asid owner contents (commands.GctxCreate guest frame) locks made fits passes none =
    frame_keeps asid frame _ contents.pages (plain_keeps asid _ (contents.pages frame) (context_plain (contents.pages frame).facts))
pages_keep asid owner contents (commands.Activate guest own) locks made fits passes none = λ f number entry is. is
pages_keep asid owner contents (commands.LaunchStart guest) locks made fits passes none = λ f number entry is. is
pages_keep asid owner contents (commands.LaunchUpdate guest frame page_type imi perms) locks made fits passes none =
    let pre = pre_guest_facts (contents.pages frame).facts (passes 0 (record { part = Target; frame = frame }) refl).allows in
    frame_keeps asid frame _ contents.pages
    (plain_keeps asid _ (contents.pages frame) (λ is. guest_page_plain contents.pages frame fits pre.kept_from.of_guest (sym (launched_kind perms (contents.pages frame).facts) ∙ is)))
pages_keep asid owner contents (commands.LaunchFinish guest) locks made fits passes none = λ f number entry is. is
pages_keep asid owner contents (commands.MdInit frame) locks made fits passes none = frame_keeps asid frame _ contents.pages (zero_keeps asid _ (contents.pages frame) refl)
pages_keep asid owner contents (commands.PageMove guest source target) locks made fits passes none =
    let pre = pre_swap_facts (contents.pages source).facts (passes 0 (record { part = Source; frame = source }) refl).allows in
    move_keeps asid source target contents.pages (guest_page_plain contents.pages source fits pre.of_guest)
pages_keep asid owner contents (commands.SwapOut guest source target metadata entry) locks made fits passes none = absurd (cc)
pages_keep asid owner contents (commands.SwapIn guest source target metadata entry) locks made fits passes none = absurd (cc)
pages_keep asid owner contents (commands.Reclaim frame) locks made fits passes none = range_keeps asid (first_lock locks frame) contents.pages
pages_keep asid owner contents (commands.MdOut guest source target metadata entry) locks made fits passes none = absurd (cc)
pages_keep asid owner contents (commands.MdIn guest source target metadata entry) locks made fits passes none = absurd (cc)
pages_keep asid owner contents (commands.MdRootOut guest source target) locks made fits passes none = absurd (cc)
pages_keep asid owner contents (commands.MdRootIn guest source target) locks made fits passes none = absurd (cc)

-- contexts keep their counters, keys and roots
committed_alike : (command : Command) (made : Computed) (pages : Pages) (context : Context) → sealing_of command ≡ None → SealsAlike (context_committed command made pages context) context
unfolding context_committed context_after root_after launched_into sealing_of
committed_alike (commands.GctxCreate guest frame) made pages context none = record { counter = refl; key = refl; root = refl }
committed_alike (commands.Activate guest own) made pages context none = record { counter = refl; key = refl; root = refl }
committed_alike (commands.LaunchStart guest) made pages context none = record { counter = refl; key = refl; root = refl }
committed_alike (commands.LaunchUpdate guest frame page_type imi perms) made pages context none = record { counter = refl; key = refl; root = refl }
committed_alike (commands.LaunchFinish guest) made pages context none = record { counter = refl; key = refl; root = refl }
committed_alike (commands.MdInit frame) made pages context none = record { counter = refl; key = refl; root = refl }
committed_alike (commands.PageMove guest source target) made pages context none = record { counter = refl; key = refl; root = refl }
committed_alike (commands.SwapOut guest source target metadata entry) made pages context none = absurd (cc)
committed_alike (commands.SwapIn guest source target metadata entry) made pages context none = absurd (cc)
committed_alike (commands.Reclaim frame) made pages context none = record { counter = refl; key = refl; root = refl }
committed_alike (commands.MdOut guest source target metadata entry) made pages context none = absurd (cc)
committed_alike (commands.MdIn guest source target metadata entry) made pages context none = absurd (cc)
committed_alike (commands.MdRootOut guest source target) made pages context none = absurd (cc)
committed_alike (commands.MdRootIn guest source target) made pages context none = absurd (cc)

contexts_alike : (owner : Option ℕ) (command : Command) (made : Computed) (pages : Pages) (contexts : Contexts) → sealing_of command ≡ None → (g : ℕ) → SealsAlike (contexts_after owner command made pages contexts g) (contexts g)
unfolding contexts_after at_guest
contexts_alike None command made pages contexts none g = alike_itself (contexts g)
contexts_alike (Some owner) command made pages contexts none g =
    cond_both (eqb owner g) _ _ (λ (context : Context). SealsAlike context (contexts g))
    (λ is. subst (λ (h : ℕ). SealsAlike (context_committed command made pages (contexts owner)) (contexts h)) (eqb-true owner g is) (committed_alike command made pages (contexts owner) none)) (λ _. alike_itself (contexts g))

-- so the commit of each command that seals and opens nothing
pub other_commit : (asid owner g : ℕ) (contents : Contents) (archive : Archive) (command : Command) (locks : List PageLock) (made : Computed) → IsFitMemory contents.pages → Passing owner contents command
    → sealing_of command ≡ None → Seals asid (vault_of g contents archive) → Seals asid (vault_of g (contents_after command locks made contents) archive)
other_commit asid owner g contents archive command locks made fits passes none seals =
    seals_kept asid (vault_of g contents archive) (vault_of g (contents_after command locks made contents) archive)
    (pages_keep asid owner contents command locks made fits passes none)
    (contexts_alike (guest_of command) command made (pages_after command locks made contents.pages) contents.contexts none g) (λ k. refl) seals
