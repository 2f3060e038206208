-- The commits of the firmware's commands over one page and one context: which pages are made here, and what the commit of a context asks (after the SEV-SNP firmware ABI 56860, chapter 8).
use Rattle.std.specs.Prelude.{◌≡◌, ℕ, List, Option, Some, None}
use Rattle.snp_model.specs.declared.command.Command.{Command}
use Rattle.snp_model.specs.declared.command.Command.TheVariants as commands
use Rattle.snp_model.specs.declared.event.FwRefusal.{FwRefusal}
use Rattle.snp_model.specs.declared.event.FwRefusal.TheVariants.{Status}
use Rattle.snp_model.specs.declared.scenario.GuestSpec.{GuestSpec}
use Rattle.snp_model.specs.FirmwareCommits.{at_frame, context_page, launched_page}
use Rattle.snp_model.specs.FirmwareLocks.{context_refusal}
use Rattle.snp_model.specs.State.{Context, Pages}

-- the refusal with a status, where there is one
abbrev pub refusal_of : Option ℕ → Option FwRefusal
refusal_of None = None
refusal_of (Some status) = Some (Status status)

-- pages after the commit of a command that makes a context's page or launches a page; those of other commands are made by other crates
unfoldable pub pages_committed : Command → ℕ → Pages → Pages
pages_committed (commands.GctxCreate guest frame) slot pages = at_frame slot (context_page (pages slot)) pages
pages_committed (commands.Activate guest asid) slot pages = pages
pages_committed (commands.LaunchStart guest) slot pages = pages
pages_committed (commands.LaunchUpdate guest frame page_type imi perms) slot pages = at_frame slot (launched_page page_type perms (pages slot)) pages
pages_committed (commands.LaunchFinish guest) slot pages = pages
pages_committed (commands.MdInit frame) slot pages = pages
pages_committed (commands.PageMove guest source target) slot pages = pages
pages_committed (commands.SwapOut guest source target metadata entry) slot pages = pages
pages_committed (commands.SwapIn guest source target metadata entry) slot pages = pages
pages_committed (commands.Reclaim frame) slot pages = pages
pages_committed (commands.MdOut guest source target metadata entry) slot pages = pages
pages_committed (commands.MdIn guest source target metadata entry) slot pages = pages
pages_committed (commands.MdRootOut guest source target) slot pages = pages
pages_committed (commands.MdRootIn guest source target) slot pages = pages

-- what the lock of a context has tested for a command still holds, with these guests or others
abbrev pub HasPassed : Command → Context → Type 0
HasPassed command context = (guests : List GuestSpec) × (context_refusal guests command context None ≡ None)
