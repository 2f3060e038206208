-- The model's commits of the commands that seal or open a page, by what they seal or open.
use Rattle.std.proofs.Common.{◌≡◌, ℕ, List, IsSome, is_some, Option, None, Some, refl, ap, ◌∙◌}
use Rattle.std.proofs.lemmas.Bool.{false≢true}
use Rattle.snp_model.specs.declared.command.Command.{Command}
use Rattle.snp_model.specs.declared.command.Command.TheVariants as commands
use Rattle.snp_model.specs.declared.event.Deed.{Deed}
use Rattle.snp_model.specs.declared.event.Deed.TheVariants.{Control}
use Rattle.snp_model.specs.FirmwareCommits.{context_after, launched_into}
use Rattle.snp_model.specs.FirmwareStep.{commit_deed, pages_after, small_shown}
use Rattle.snp_model.specs.Sealing.{What, Slot, Sealing, SealOut, SealIn, pages_in, pages_out, sealing_of}
use Rattle.snp_model.specs.State.{Computed, Context, PageLock, Pages}
use Rattle.machine_core.specs.Seals.{gpn_shown}

-- Pages

-- memory after the commit, by what is sealed or opened
abbrev pages_by : Option Sealing → Computed → Pages → Pages
pages_by None made pages = pages
pages_by (Some (SealOut what guest source target slot)) made pages = pages_out what source target slot made pages
pages_by (Some (SealIn what guest source target slot)) made pages = pages_in what target slot made pages

pages_sealed : (command : Command) (locks : List PageLock) (made : Computed) (pages : Pages) → IsSome (sealing_of command) → pages_after command locks made pages ≡ pages_by (sealing_of command) made pages
unfolding pages_after sealing_of
pages_sealed (commands.GctxCreate guest frame) locks made pages some = absurd (false≢true some)
pages_sealed (commands.Activate guest asid) locks made pages some = absurd (false≢true some)
pages_sealed (commands.LaunchStart guest) locks made pages some = absurd (false≢true some)
pages_sealed (commands.LaunchUpdate guest frame page_type imi perms) locks made pages some = absurd (false≢true some)
pages_sealed (commands.LaunchFinish guest) locks made pages some = absurd (false≢true some)
pages_sealed (commands.MdInit frame) locks made pages some = absurd (false≢true some)
pages_sealed (commands.PageMove guest source target) locks made pages some = absurd (false≢true some)
pages_sealed (commands.SwapOut guest source target metadata entry) locks made pages some = refl
pages_sealed (commands.SwapIn guest source target metadata entry) locks made pages some = refl
pages_sealed (commands.Reclaim frame) locks made pages some = absurd (false≢true some)
pages_sealed (commands.MdOut guest source target metadata entry) locks made pages some = refl
pages_sealed (commands.MdIn guest source target metadata entry) locks made pages some = refl
pages_sealed (commands.MdRootOut guest source target) locks made pages some = refl
pages_sealed (commands.MdRootIn guest source target) locks made pages some = refl

pub out_pages : (command : Command) (what : What) (guest source target : ℕ) (slot : Slot) (locks : List PageLock) (made : Computed) (pages : Pages) → sealing_of command ≡ Some (SealOut what guest source target slot)
    → pages_after command locks made pages ≡ pages_out what source target slot made pages
out_pages command what guest source target slot locks made pages is = pages_sealed command locks made pages (ap is_some is) ∙ ap (λ (o : Option Sealing). pages_by o made pages) is

pub in_pages : (command : Command) (what : What) (guest source target : ℕ) (slot : Slot) (locks : List PageLock) (made : Computed) (pages : Pages) → sealing_of command ≡ Some (SealIn what guest source target slot)
    → pages_after command locks made pages ≡ pages_in what target slot made pages
in_pages command what guest source target slot locks made pages is = pages_sealed command locks made pages (ap is_some is) ∙ ap (λ (o : Option Sealing). pages_by o made pages) is

-- What is shown

abbrev shown_by : Option Sealing → Pages → Pages → Deed
shown_by None before left = Control
shown_by (Some (SealOut what guest source target slot)) before left = small_shown source (gpn_shown what (before source))
shown_by (Some (SealIn what guest source target slot)) before left = small_shown target (gpn_shown what (left target))

shown_sealed : (command : Command) (before left : Pages) → IsSome (sealing_of command) → commit_deed command before left ≡ shown_by (sealing_of command) before left
unfolding commit_deed sealing_of
shown_sealed (commands.GctxCreate guest frame) before left some = absurd (false≢true some)
shown_sealed (commands.Activate guest asid) before left some = absurd (false≢true some)
shown_sealed (commands.LaunchStart guest) before left some = absurd (false≢true some)
shown_sealed (commands.LaunchUpdate guest frame page_type imi perms) before left some = absurd (false≢true some)
shown_sealed (commands.LaunchFinish guest) before left some = absurd (false≢true some)
shown_sealed (commands.MdInit frame) before left some = absurd (false≢true some)
shown_sealed (commands.PageMove guest source target) before left some = absurd (false≢true some)
shown_sealed (commands.SwapOut guest source target metadata entry) before left some = refl
shown_sealed (commands.SwapIn guest source target metadata entry) before left some = refl
shown_sealed (commands.Reclaim frame) before left some = absurd (false≢true some)
shown_sealed (commands.MdOut guest source target metadata entry) before left some = refl
shown_sealed (commands.MdIn guest source target metadata entry) before left some = refl
shown_sealed (commands.MdRootOut guest source target) before left some = refl
shown_sealed (commands.MdRootIn guest source target) before left some = refl

pub out_shown : (command : Command) (what : What) (guest source target : ℕ) (slot : Slot) (before left : Pages) → sealing_of command ≡ Some (SealOut what guest source target slot)
    → commit_deed command before left ≡ small_shown source (gpn_shown what (before source))
out_shown command what guest source target slot before left is = shown_sealed command before left (ap is_some is) ∙ ap (λ (o : Option Sealing). shown_by o before left) is

pub in_shown : (command : Command) (what : What) (guest source target : ℕ) (slot : Slot) (before left : Pages) → sealing_of command ≡ Some (SealIn what guest source target slot)
    → commit_deed command before left ≡ small_shown target (gpn_shown what (left target))
in_shown command what guest source target slot before left is = shown_sealed command before left (ap is_some is) ∙ ap (λ (o : Option Sealing). shown_by o before left) is

-- The context

-- it depends on no page
pub after_no_page : (command : Command) (gpn gpn' : ℕ) (words words' : List ℕ) (context : Context) → IsSome (sealing_of command) → context_after command gpn words context ≡ context_after command gpn' words' context
unfolding context_after sealing_of
after_no_page (commands.GctxCreate guest frame) gpn gpn' words words' context some = refl
after_no_page (commands.Activate guest asid) gpn gpn' words words' context some = refl
after_no_page (commands.LaunchStart guest) gpn gpn' words words' context some = refl
after_no_page (commands.LaunchUpdate guest frame page_type imi perms) gpn gpn' words words' context some = absurd (false≢true some)
after_no_page (commands.LaunchFinish guest) gpn gpn' words words' context some = refl
after_no_page (commands.MdInit frame) gpn gpn' words words' context some = refl
after_no_page (commands.PageMove guest source target) gpn gpn' words words' context some = refl
after_no_page (commands.SwapOut guest source target metadata entry) gpn gpn' words words' context some = refl
after_no_page (commands.SwapIn guest source target metadata entry) gpn gpn' words words' context some = refl
after_no_page (commands.Reclaim frame) gpn gpn' words words' context some = refl
after_no_page (commands.MdOut guest source target metadata entry) gpn gpn' words words' context some = refl
after_no_page (commands.MdIn guest source target metadata entry) gpn gpn' words words' context some = refl
after_no_page (commands.MdRootOut guest source target) gpn gpn' words words' context some = refl
after_no_page (commands.MdRootIn guest source target) gpn gpn' words words' context some = refl

-- and leaves the root
pub after_same_root : (command : Command) (gpn : ℕ) (words : List ℕ) (context : Context) → (context_after command gpn words context).root ≡ context.root
unfolding context_after launched_into
after_same_root (commands.GctxCreate guest frame) gpn words context = refl
after_same_root (commands.Activate guest asid) gpn words context = refl
after_same_root (commands.LaunchStart guest) gpn words context = refl
after_same_root (commands.LaunchUpdate guest frame page_type imi perms) gpn words context = refl
after_same_root (commands.LaunchFinish guest) gpn words context = refl
after_same_root (commands.MdInit frame) gpn words context = refl
after_same_root (commands.PageMove guest source target) gpn words context = refl
after_same_root (commands.SwapOut guest source target metadata entry) gpn words context = refl
after_same_root (commands.SwapIn guest source target metadata entry) gpn words context = refl
after_same_root (commands.Reclaim frame) gpn words context = refl
after_same_root (commands.MdOut guest source target metadata entry) gpn words context = refl
after_same_root (commands.MdIn guest source target metadata entry) gpn words context = refl
after_same_root (commands.MdRootOut guest source target) gpn words context = refl
after_same_root (commands.MdRootIn guest source target) gpn words context = refl
