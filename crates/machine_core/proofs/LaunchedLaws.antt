-- The commit of SNP_GCTX_CREATE and of SNP_LAUNCH_UPDATE: its page, in the bay that is lent and in memory.
use Rattle.std.proofs.Common.{◌≡◌, ℕ, ◌/◌, ◌%◌, List, Some, refl, sym, ap, ◌∙◌}
use Rattle.fw_launch.specs.Commits.{pages_committed}
use Rattle.snp_model.specs.declared.command.Command.{Command}
use Rattle.snp_model.specs.declared.command.Command.TheVariants as commands
use Rattle.snp_model.specs.declared.entry.RmpEntry.{RmpEntry}
use Rattle.snp_model.specs.declared.scenario.GuestSpec.{GuestSpec}
use Rattle.snp_model.specs.FirmwareCommits.{at_guest, context_after, context_facts, context_page, launched_facts, launched_page}
use Rattle.snp_model.specs.State.{Page, Pages}
use Rattle.machine_core.specs.declared.bay.Bay.{Bay}
use Rattle.machine_core.specs.Bays.{Bays, Stock, contexts_of, page_in, pages_of}
use Rattle.machine_core.proofs.BaysLaws.{put_at}
use Rattle.machine_core.proofs.PageCommitLaws.{frame_changed, frame_own, own_words}
use Rattle.machine_core.proofs.RangeLaws.{IsPut, pages_stay}

-- the page of a command changes in its region as in memory
pub committed_there : (command : Command) (stock new_stock : Stock) (frame : ℕ) (old new : Bay) → IsPut stock new_stock (frame / 512) old new
    → page_in (Some new) ≡ pages_committed command (frame % 512) (page_in (Some old)) → pages_of new_stock.bays ≡ pages_committed command frame (pages_of stock.bays)
unfolding pages_committed
committed_there (commands.GctxCreate guest own) stock new_stock frame old new is changed = frame_changed stock new_stock frame old new (λ (page : Page). context_page page) is changed
committed_there (commands.Activate guest asid) stock new_stock frame old new is changed = pages_stay stock new_stock (frame / 512) old new is changed
committed_there (commands.LaunchStart guest) stock new_stock frame old new is changed = pages_stay stock new_stock (frame / 512) old new is changed
committed_there (commands.LaunchUpdate guest own page_type imi perms) stock new_stock frame old new is changed = frame_changed stock new_stock frame old new (λ (page : Page). launched_page page_type perms page) is changed
committed_there (commands.LaunchFinish guest) stock new_stock frame old new is changed = pages_stay stock new_stock (frame / 512) old new is changed
committed_there (commands.MdInit own) stock new_stock frame old new is changed = pages_stay stock new_stock (frame / 512) old new is changed
committed_there (commands.PageMove guest source target) stock new_stock frame old new is changed = pages_stay stock new_stock (frame / 512) old new is changed
committed_there (commands.SwapOut guest source target metadata entry) stock new_stock frame old new is changed = pages_stay stock new_stock (frame / 512) old new is changed
committed_there (commands.SwapIn guest source target metadata entry) stock new_stock frame old new is changed = pages_stay stock new_stock (frame / 512) old new is changed
committed_there (commands.Reclaim own) stock new_stock frame old new is changed = pages_stay stock new_stock (frame / 512) old new is changed
committed_there (commands.MdOut guest source target metadata entry) stock new_stock frame old new is changed = pages_stay stock new_stock (frame / 512) old new is changed
committed_there (commands.MdIn guest source target metadata entry) stock new_stock frame old new is changed = pages_stay stock new_stock (frame / 512) old new is changed
committed_there (commands.MdRootOut guest source target) stock new_stock frame old new is changed = pages_stay stock new_stock (frame / 512) old new is changed
committed_there (commands.MdRootIn guest source target) stock new_stock frame old new is changed = pages_stay stock new_stock (frame / 512) old new is changed

-- it keeps its guest page number
pub gpn_stays : (command : Command) (frame : ℕ) (pages : Pages) → (pages_committed command frame pages frame).facts.gpn ≡ (pages frame).facts.gpn
unfolding pages_committed context_facts launched_facts
gpn_stays (commands.GctxCreate guest own) frame pages = ap (λ (page : Page). page.facts.gpn) (frame_own frame (context_page (pages frame)) pages)
gpn_stays (commands.Activate guest asid) frame pages = refl
gpn_stays (commands.LaunchStart guest) frame pages = refl
gpn_stays (commands.LaunchUpdate guest own page_type imi perms) frame pages = ap (λ (page : Page). page.facts.gpn) (frame_own frame (launched_page page_type perms (pages frame)) pages)
gpn_stays (commands.LaunchFinish guest) frame pages = refl
gpn_stays (commands.MdInit own) frame pages = refl
gpn_stays (commands.PageMove guest source target) frame pages = refl
gpn_stays (commands.SwapOut guest source target metadata entry) frame pages = refl
gpn_stays (commands.SwapIn guest source target metadata entry) frame pages = refl
gpn_stays (commands.Reclaim own) frame pages = refl
gpn_stays (commands.MdOut guest source target metadata entry) frame pages = refl
gpn_stays (commands.MdIn guest source target metadata entry) frame pages = refl
gpn_stays (commands.MdRootOut guest source target) frame pages = refl
gpn_stays (commands.MdRootIn guest source target) frame pages = refl

-- the words that the page has in the bay that was put are those of memory
pub words_there : (stock new_stock : Stock) (frame : ℕ) (old new : Bay) (words : List ℕ) → IsPut stock new_stock (frame / 512) old new → words ≡ (page_in (Some new) (frame % 512)).words → words ≡ (pages_of new_stock.bays frame).words
words_there stock new_stock frame old new words is there =
    own_words new_stock.bays new frame words (ap (λ (s : Stock). s.bays (frame / 512)) is.stock_is ∙ put_at stock.bays (frame / 512) new (frame / 512) refl) there

-- contexts take in the page as it is after its commit
pub launched_after : (command : Command) (guest frame : ℕ) (old mid new : Stock) (entry : RmpEntry) (words : List ℕ) (guests : List GuestSpec) → entry ≡ (pages_of old.bays frame).facts → words ≡ (pages_of mid.bays frame).words
    → pages_of mid.bays ≡ pages_committed command frame (pages_of old.bays) → mid.contexts ≡ old.contexts → new.bays ≡ mid.bays
    → contexts_of new.contexts guests ≡ at_guest guest (context_after command entry.gpn words (contexts_of mid.contexts guests guest)) (contexts_of mid.contexts guests)
    → (let page = pages_of new.bays frame in contexts_of new.contexts guests ≡ at_guest guest (context_after command page.facts.gpn page.words (contexts_of old.contexts guests guest)) (contexts_of old.contexts guests))
launched_after command guest frame old mid new entry words guests entry_is words_are pages_are same bays_are contexts_are =
    let gpn : entry.gpn ≡ (pages_of new.bays frame).facts.gpn =
    ap (λ (e : RmpEntry). e.gpn) entry_is ∙ sym (gpn_stays command frame (pages_of old.bays)) ∙ (λ i. (sym pages_are i frame).facts.gpn) ∙ ap (λ (bays : Bays). (pages_of bays frame).facts.gpn) (sym bays_are) in
    let there : words ≡ (pages_of new.bays frame).words = words_are ∙ ap (λ (bays : Bays). (pages_of bays frame).words) (sym bays_are) in
    contexts_are ∙ (λ i. at_guest guest (context_after command (gpn i) (there i) (contexts_of (same i) guests guest)) (contexts_of (same i) guests))
