-- The commit of each command keeps each guest's context and root in order: a counter that seals had one left.
use Rattle.std.proofs.Common.{◌≡◌, ◌≢◌, ⊎_elim, ℕ, ◌+◌, ◌^◌, ◌<◌, ◌≤◌, not, eqb, IfSome, List, Option, Some, None, subst, arith, refl}
use Rattle.std.specs.Option.{option_or}
use Rattle.std.proofs.lemmas.Bool.{cond_both, cases_lt, eqb-true, eqb-false}
use Rattle.snp_model.specs.declared.command.Command.{Command}
use Rattle.snp_model.specs.declared.command.Command.TheVariants as commands
use Rattle.snp_model.specs.declared.event.FwRefusal.TheVariants as refusals
use Rattle.snp_model.specs.declared.firmware.MetaEntry.{MetaEntry}
use Rattle.snp_model.specs.declared.scenario.GuestSpec.{GuestSpec}
use Rattle.snp_model.specs.Firmware.{guest_of, has_equal_frames, aead_oflow, invalid_param, invalid_guest_state}
use Rattle.snp_model.specs.FirmwareCommits.{at_guest, context_after, launched_into, root_after}
use Rattle.snp_model.specs.FirmwareLocks.{guest_refusal, takes_context, last_counter, counter_refusal, root_out_refusal, context_extra, context_refusal}
use Rattle.snp_model.specs.FirmwareStep.{context_committed, contexts_after}
use Rattle.snp_model.specs.Metadata.{IsMetaEntry}
use Rattle.snp_model.specs.Sealing.{sealing_of}
use Rattle.snp_model.specs.State.{Pages, Context, Contexts, Contents, Computed, Standing}
use Rattle.run_laws.specs.Shapes.{IsContextFor}
use Rattle.run_laws.proofs.CommandTests.{IsReady}
use Rattle.run_laws.proofs.FitCommands.{FitIfSealed}
use Rattle.run_laws.proofs.LockLaws.{others_none}
use Rattle.run_laws.proofs.TestedLaws.{let_through}

-- a context of a command that seals has a counter left
abbrev HasCounter : Command → Context → Type 0
HasCounter (commands.GctxCreate guest frame) context = Unit {0}
HasCounter (commands.Activate guest asid) context = Unit {0}
HasCounter (commands.LaunchStart guest) context = Unit {0}
HasCounter (commands.LaunchUpdate guest frame page_type imi perms) context = Unit {0}
HasCounter (commands.LaunchFinish guest) context = Unit {0}
HasCounter (commands.MdInit frame) context = Unit {0}
HasCounter (commands.PageMove guest source target) context = Unit {0}
HasCounter (commands.SwapOut guest source target metadata entry) context = context.iv + 1 < 2 ^ 64
HasCounter (commands.SwapIn guest source target metadata entry) context = Unit {0}
HasCounter (commands.Reclaim frame) context = Unit {0}
HasCounter (commands.MdOut guest source target metadata entry) context = context.iv + 1 < 2 ^ 64
HasCounter (commands.MdIn guest source target metadata entry) context = Unit {0}
HasCounter (commands.MdRootOut guest source target) context = context.iv + 1 < 2 ^ 64
HasCounter (commands.MdRootIn guest source target) context = Unit {0}

one_left : (n : ℕ) → n ≢ last_counter → n < 2 ^ 64 → n + 1 < 2 ^ 64
one_left n other low = ⊎_elim (λ (small : n + 1 < 2 ^ 64). small) (λ (high : 2 ^ 64 ≤ n + 1). absurd (other (omega arith))) (cases_lt (n + 1) (2 ^ 64))

counter_left : (context : Context) → counter_refusal context ≡ None → context.iv < 2 ^ 64 → context.iv + 1 < 2 ^ 64
unfolding counter_refusal
counter_left context none low =
    one_left context.iv (eqb-false context.iv last_counter (let_through (eqb context.iv last_counter) (refusals.Status aead_oflow) None none).fails) low

root_left : (context : Context) → root_out_refusal context ≡ None → context.iv < 2 ^ 64 → context.iv + 1 < 2 ^ 64
unfolding root_out_refusal
root_left context none low =
    one_left context.iv (eqb-false context.iv last_counter (let_through (eqb context.iv last_counter) (refusals.Status aead_oflow) _ none).fails) low

extra_left : (guests : List GuestSpec) (command : Command) (context : Context) → context_extra guests command context ≡ None → context.iv < 2 ^ 64 → HasCounter command context
unfolding context_extra
extra_left guests (commands.GctxCreate guest frame) context none low = tt
extra_left guests (commands.Activate guest asid) context none low = tt
extra_left guests (commands.LaunchStart guest) context none low = tt
extra_left guests (commands.LaunchUpdate guest frame page_type imi perms) context none low = tt
extra_left guests (commands.LaunchFinish guest) context none low = tt
extra_left guests (commands.MdInit frame) context none low = tt
extra_left guests (commands.PageMove guest source target) context none low = tt
extra_left guests (commands.SwapOut guest source target metadata entry) context none low = counter_left context none low
extra_left guests (commands.SwapIn guest source target metadata entry) context none low = tt
extra_left guests (commands.Reclaim frame) context none low = tt
extra_left guests (commands.MdOut guest source target metadata entry) context none low = counter_left context none low
extra_left guests (commands.MdIn guest source target metadata entry) context none low = tt
extra_left guests (commands.MdRootOut guest source target) context none low = root_left context none low
extra_left guests (commands.MdRootIn guest source target) context none low = tt

has_counter : (guests : List GuestSpec) (contents : Contents) (command : Command) (guest : ℕ) → option_or (guest_refusal guests guest) (context_refusal guests command (contents.contexts guest) None) ≡ None
    → (contents.contexts guest).iv < 2 ^ 64 → HasCounter command (contents.contexts guest)
unfolding context_refusal
has_counter guests contents command guest none low =
    let context = contents.contexts guest in
    let frames = let_through (has_equal_frames command) (refusals.Status invalid_param) _ (others_none (guest_refusal guests guest) (context_refusal guests command context None) none) in
    let state = let_through (not (takes_context command context.state context.bound)) (refusals.Status invalid_guest_state) (context_extra guests command context) frames.after_it in
    extra_left guests command context state.after_it low

-- so contexts after the commit
committed_fit : (guests : List GuestSpec) (g : ℕ) (command : Command) (made : Computed) (pages : Pages) (context : Context) → HasCounter command context → IsContextFor guests g context
    → IsContextFor guests g (context_committed command made pages context)
unfolding context_committed context_after root_after launched_into
committed_fit guests g (commands.GctxCreate guest frame) made pages context counts is = record { asid_is = is.asid_is; counter = is.counter; key = is.key }
committed_fit guests g (commands.Activate guest asid) made pages context counts is = record { asid_is = is.asid_is; counter = is.counter; key = is.key }
committed_fit guests g (commands.LaunchStart guest) made pages context counts is = record { asid_is = is.asid_is; counter = is.counter; key = is.key }
committed_fit guests g (commands.LaunchUpdate guest frame page_type imi perms) made pages context counts is = record { asid_is = is.asid_is; counter = is.counter; key = is.key }
committed_fit guests g (commands.LaunchFinish guest) made pages context counts is = record { asid_is = is.asid_is; counter = is.counter; key = is.key }
committed_fit guests g (commands.MdInit frame) made pages context counts is = record { asid_is = is.asid_is; counter = is.counter; key = is.key }
committed_fit guests g (commands.PageMove guest source target) made pages context counts is = record { asid_is = is.asid_is; counter = is.counter; key = is.key }
committed_fit guests g (commands.SwapOut guest source target metadata entry) made pages context counts is = record { asid_is = is.asid_is; counter = counts; key = is.key }
committed_fit guests g (commands.SwapIn guest source target metadata entry) made pages context counts is = record { asid_is = is.asid_is; counter = is.counter; key = is.key }
committed_fit guests g (commands.Reclaim frame) made pages context counts is = record { asid_is = is.asid_is; counter = is.counter; key = is.key }
committed_fit guests g (commands.MdOut guest source target metadata entry) made pages context counts is = record { asid_is = is.asid_is; counter = counts; key = is.key }
committed_fit guests g (commands.MdIn guest source target metadata entry) made pages context counts is = record { asid_is = is.asid_is; counter = is.counter; key = is.key }
committed_fit guests g (commands.MdRootOut guest source target) made pages context counts is = record { asid_is = is.asid_is; counter = counts; key = is.key }
committed_fit guests g (commands.MdRootIn guest source target) made pages context counts is = record { asid_is = is.asid_is; counter = is.counter; key = is.key }

contexts_fit_by : (guests : List GuestSpec) (owner : Option ℕ) (command : Command) (made : Computed) (pages : Pages) (contexts : Contexts) → ((guest : ℕ) → owner ≡ Some guest → HasCounter command (contexts guest))
    → ((g : ℕ) → IsContextFor guests g (contexts g)) → (g : ℕ) → IsContextFor guests g (contexts_after owner command made pages contexts g)
unfolding contexts_after at_guest
contexts_fit_by guests None command made pages contexts counts fit g = fit g
contexts_fit_by guests (Some owner) command made pages contexts counts fit g =
    cond_both (eqb owner g) _ _ (λ (context : Context). IsContextFor guests g context)
    (λ is. subst (λ (h : ℕ). IsContextFor guests h (context_committed command made pages (contexts owner))) (eqb-true owner g is)
    (committed_fit guests owner command made pages (contexts owner) (counts owner refl) (fit owner)))
    (λ _. fit g)

pub contexts_fit : (frames : ℕ) (guests : List GuestSpec) (contents : Contents) (command : Command) (standing : Standing) (made : Computed) (pages : Pages) → IsReady frames guests contents command standing
    → ((g : ℕ) → IsContextFor guests g (contents.contexts g)) → (g : ℕ) → IsContextFor guests g (contexts_after (guest_of command) command made pages contents.contexts g)
contexts_fit frames guests contents command standing made pages ready fit =
    contexts_fit_by guests (guest_of command) command made pages contents.contexts
    (λ guest is. has_counter guests contents command guest (ready.tested.context guest (ready.held guest is)).passes (fit guest).counter) fit

-- and roots
abbrev pub AreFitRoots : Contexts → Type 0
AreFitRoots contexts = (guest : ℕ) (entry : MetaEntry) → (contexts guest).root ≡ Some entry → IsMetaEntry entry

made_root : (found : Option MetaEntry) (entry : MetaEntry) → IfSome found IsMetaEntry → found ≡ Some entry → IsMetaEntry entry
made_root found entry fits is = subst (λ (one : Option MetaEntry). IfSome one IsMetaEntry) is fits

none_some : (entry : MetaEntry) → None ≡ Some entry → ⊥
none_some entry e = cc

committed_root : (command : Command) (made : Computed) (pages : Pages) (context : Context) → FitIfSealed (sealing_of command) made → ((entry : MetaEntry) → context.root ≡ Some entry → IsMetaEntry entry)
    → (entry : MetaEntry) → (context_committed command made pages context).root ≡ Some entry → IsMetaEntry entry
unfolding sealing_of context_committed root_after
committed_root (commands.GctxCreate guest frame) made pages context fits root x is = root x is
committed_root (commands.Activate guest asid) made pages context fits root x is = root x is
committed_root (commands.LaunchStart guest) made pages context fits root x is = root x is
committed_root (commands.LaunchUpdate guest frame page_type imi perms) made pages context fits root x is = root x is
committed_root (commands.LaunchFinish guest) made pages context fits root x is = root x is
committed_root (commands.MdInit frame) made pages context fits root x is = root x is
committed_root (commands.PageMove guest source target) made pages context fits root x is = root x is
committed_root (commands.SwapOut guest source target metadata entry) made pages context fits root x is = root x is
committed_root (commands.SwapIn guest source target metadata entry) made pages context fits root x is = root x is
committed_root (commands.Reclaim frame) made pages context fits root x is = root x is
committed_root (commands.MdOut guest source target metadata entry) made pages context fits root x is = root x is
committed_root (commands.MdIn guest source target metadata entry) made pages context fits root x is = root x is
committed_root (commands.MdRootOut guest source target) made pages context fits root x is = made_root made.entry x fits.entry is
committed_root (commands.MdRootIn guest source target) made pages context fits root x is = absurd (none_some x is)

roots_by : (owner : Option ℕ) (command : Command) (made : Computed) (pages : Pages) (contexts : Contexts) → FitIfSealed (sealing_of command) made → AreFitRoots contexts
    → AreFitRoots (contexts_after owner command made pages contexts)
unfolding contexts_after at_guest
roots_by None command made pages contexts fits roots g = roots g
roots_by (Some owner) command made pages contexts fits roots g =
    cond_both (eqb owner g) _ _ (λ (context : Context). (entry : MetaEntry) → context.root ≡ Some entry → IsMetaEntry entry)
    (λ _. committed_root command made pages (contexts owner) fits (roots owner)) (λ _. roots g)

pub roots_fit : (command : Command) (made : Computed) (pages : Pages) (contexts : Contexts) → FitIfSealed (sealing_of command) made → AreFitRoots contexts
    → AreFitRoots (contexts_after (guest_of command) command made pages contexts)
roots_fit command made pages contexts fits roots = roots_by (guest_of command) command made pages contexts fits roots
