-- The context of a command's guest after the commit of a command that seals or opens a page.
use Rattle.std.proofs.Common.{◌≡◌, ℕ, List, IsSome, Some, sym, ap, ◌∙◌}
use Rattle.snp_model.specs.declared.command.Command.{Command}
use Rattle.snp_model.specs.declared.firmware.MetaEntry.{MetaEntry}
use Rattle.snp_model.specs.declared.scenario.GuestSpec.{GuestSpec}
use Rattle.snp_model.specs.FirmwareCommits.{at_guest, context_after, root_after, with_root}
use Rattle.snp_model.specs.FirmwareStep.{context_committed, contexts_after, first_frame}
use Rattle.snp_model.specs.HeldContexts.{HeldContext, with_context}
use Rattle.snp_model.specs.Sealing.{sealing_of}
use Rattle.snp_model.specs.State.{Context, Pages}
use Rattle.machine_core.specs.Bays.{Stock, contexts_of}
use Rattle.machine_core.specs.Seals.{made_by}
use Rattle.machine_core.proofs.ContextsLaws.{context_there}
use Rattle.machine_core.proofs.SealsLaws.{after_no_page, after_same_root}

-- the counter goes first, and then the root is changed
context_sealed : (command : Command) (context after last : Context) (entry : MetaEntry) (words : List ℕ) (pages : Pages) → IsSome (sealing_of command) → after ≡ context_after command 0 words context
    → last ≡ with_root (root_after command (Some entry) after.root) after → last ≡ context_committed command (made_by entry words) pages context
unfolding context_committed
context_sealed command context after last entry words pages some counted rooted =
    let launched = pages (first_frame command) in
    rooted
    ∙ (λ i. with_root (root_after command (Some entry) (counted i).root) (counted i))
    ∙ (λ i. with_root (root_after command (Some entry) (after_same_root command 0 words context i)) (after_no_page command 0 launched.facts.gpn words launched.words context some i))

pub contexts_sealed : (guests : List GuestSpec) (guest : ℕ) (command : Command) (stock : Stock) (old mid last : HeldContext) (entry : MetaEntry) (words : List ℕ) (pages : Pages) → IsSome (sealing_of command) → stock.contexts guest ≡ Some old
    → mid.context ≡ context_after command 0 words old.context → last ≡ with_context (with_root (root_after command (Some entry) mid.context.root) mid.context) mid
    → at_guest guest last.context (contexts_of stock.contexts guests) ≡ contexts_after (Some guest) command (made_by entry words) pages (contexts_of stock.contexts guests)
unfolding contexts_after
contexts_sealed guests guest command stock old mid last entry words pages some there counted rooted =
    let before = contexts_of stock.contexts guests in
    ap (λ (context : Context). at_guest guest context before)
    (context_sealed command old.context mid.context last.context entry words pages some counted (ap (λ (h : HeldContext). h.context) rooted)
    ∙ ap (context_committed command (made_by entry words) pages) (sym (context_there stock guests guest old there)))
