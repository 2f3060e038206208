-- The commit of each of the six commands that seal or open a page, by what its locks have tested and its compute has made: what ties each guest's pages to their holders is kept, with what is then archived.
use Rattle.std.proofs.Common.{◌≡◌, ◌≢◌, ℕ, ◌<◌, ◌≤◌, ◌||◌, true, eqb, nat_lt, IfSome, List, length, Option, Some, None, sym, ap, subst, arith}
use Rattle.std.proofs.lemmas.Bool.Decides.{nat_tests}
use Rattle.snp_model.specs.declared.command.Command.{Command}
use Rattle.snp_model.specs.declared.command.Command.TheVariants as commands
use Rattle.snp_model.specs.declared.event.FwRefusal.TheVariants as refusals
use Rattle.snp_model.specs.declared.firmware.MetaEntry.{MetaEntry}
use Rattle.snp_model.specs.declared.scenario.GuestSpec.{GuestSpec}
use Rattle.snp_model.specs.Firmware.{guest_of, entry_of, invalid_param}
use Rattle.snp_model.specs.FirmwareCommits.{context_after, root_after}
use Rattle.snp_model.specs.FirmwareLocks.{guest_refusal, context_refusal}
use Rattle.snp_model.specs.FirmwareStep.{context_committed, contexts_after, pages_after}
use Rattle.snp_model.specs.GuestMemory.{Memory}
use Rattle.snp_model.specs.Live.{Archive, vault_of}
use Rattle.snp_model.specs.Opening.{asid_of}
use Rattle.snp_model.specs.Past.{Past, past_sealed, past_made, past_committed}
use Rattle.snp_model.specs.Sealing.{What, GuestPage, MetadataPage, Slot, OfEntry, OfRoot, sealing_of, opens_as}
use Rattle.snp_model.specs.State.{PageLock, Contents, Computed, Standing}
use Rattle.run_laws.specs.HeldLocks.{AreCommandLocks}
use Rattle.run_laws.specs.MadePages.{IsSealNow, IsOpenedNow, IsMade}
use Rattle.run_laws.specs.Uniqueness.{IsFull}
use Rattle.run_laws.proofs.FreshLaws.{IsFitContext}
use Rattle.run_laws.proofs.LockLaws.{first_none}
use Rattle.run_laws.proofs.SealingTests.{OutTests, InTests, sealing_tests}
use Rattle.run_laws.proofs.SealInCommit.{contents_in, opened_page, in_ties}
use Rattle.run_laws.proofs.SealOutCommit.{IsFitMemory, Ties, contents_out, out_ties}
use Rattle.run_laws.proofs.TestedLaws.{let_through}

-- what holds before a commit: a guest has an ASID of its own, memory and contexts are in order, and its pages are tied to their holders
pub record BeforeCommit (guests : List GuestSpec) (g : ℕ) (contents : Contents) (archive : Archive) (memory : Memory) : Type 0 where
  pub some : asid_of guests g ≢ 0
  pub differ : (h : ℕ) → 0 < h → h ≤ length guests → g ≢ h → asid_of guests g ≢ asid_of guests h
  pub memory_fits : IsFitMemory contents.pages
  pub contexts_fit : (h : ℕ) → IsFitContext (contents.contexts h)
  pub asids_are : (h : ℕ) → (contents.contexts h).asid ≡ asid_of guests h
  pub ties : Ties (asid_of guests g) (vault_of g contents archive) memory

-- the guest of a command that has locked its context is declared
record IsDeclared (guests : List GuestSpec) (guest : ℕ) : Type 0 where
  some : 0 < guest
  most : guest ≤ length guests

declared : (guests : List GuestSpec) (guest : ℕ) → guest_refusal guests guest ≡ None → IsDeclared guests guest
unfolding guest_refusal
declared guests guest none =
    let fails = (let_through (eqb guest 0 || nat_lt (length guests) guest) (refusals.Status invalid_param) None none).fails in
    record { some = grind (arith, nat_tests); most = grind (arith, nat_tests) }

owner_declared : (frames : ℕ) (guests : List GuestSpec) (contents : Contents) (command : Command) (standing : Standing) (owner : ℕ) → AreCommandLocks frames guests contents command standing
    → standing.context_lock ≡ Some owner → IsDeclared guests owner
owner_declared frames guests contents command standing owner tested locked =
    declared guests owner (first_none (guest_refusal guests owner) (context_refusal guests command (contents.contexts owner) None) (tested.context owner locked).passes)

-- a page that was sealed
out_done : (guests : List GuestSpec) (g owner : ℕ) (contents : Contents) (past : Past) (memory : Memory) (actor : ℕ) (what : What) (source target : ℕ) (slot : Slot) (made : Computed)
    → BeforeCommit guests g contents (past.archive g) memory → IsDeclared guests owner → OutTests (asid_of guests owner) contents.pages what source target slot
    → IsSealNow contents (past.sealing actor) what owner source made
    → Ties (asid_of guests g) (vault_of g (contents_out what owner source target slot made contents) ((past_made actor owner (Some made) past).archive g)) memory
unfolding past_made past_sealed
out_done guests g owner contents past memory actor what source target slot made before owner_is tests is =
    subst (λ (m : Computed). Ties (asid_of guests g) (vault_of g (contents_out what owner source target slot m contents) ((past_made actor owner (Some m) past).archive g)) memory) (sym is.seals)
    (out_ties (asid_of guests) g owner contents past.archive memory what source target slot (past.sealing actor) before.some (before.differ owner owner_is.some owner_is.most)
    (record { tests = tests; memory = before.memory_fits; context = before.contexts_fit owner; asid_is = before.asids_are owner }) is.taken_are before.ties)

-- a page that was opened
in_done : (guests : List GuestSpec) (g owner : ℕ) (contents : Contents) (archive : Archive) (memory : Memory) (what : What) (source target : ℕ) (slot : Slot) (made : Computed)
    → BeforeCommit guests g contents archive memory → IsDeclared guests owner → InTests (asid_of guests owner) contents.pages what source target slot → IsFull made.words
    → IsOpenedNow g contents archive what owner slot made
    → Ties (asid_of guests g) (vault_of g (contents_in what owner target slot made contents) archive) memory
in_done guests g owner contents archive memory what source target slot made before owner_is tests full is =
    let same : made ≡ opened_page made.words is.entry = ap (λ (entry : Option MetaEntry). record { words = made.words; entry = entry }) is.entry_is in
    subst (λ (m : Computed). Ties (asid_of guests g) (vault_of g (contents_in what owner target slot m contents) archive) memory) (sym same)
    (in_ties (asid_of guests) g owner contents archive memory what source target slot made.words is.entry before.some (before.differ owner owner_is.some owner_is.most)
    (record {
      tests = tests;
      memory = before.memory_fits;
      full = full;
      in_use = is.in_use;
      passes = subst (λ (asid : ℕ). opens_as what asid made.words ≡ true) (before.asids_are owner) is.passes;
      words_are = is.words_are;
    })
    before.ties)

-- memory and contexts after a commit
abbrev pub contents_after : Command → List PageLock → Computed → Contents → Contents
contents_after command locks made contents =
    let pages = pages_after command locks made contents.pages in
    record { pages = pages; contexts = contexts_after (guest_of command) command made pages contents.contexts }

-- so each command whose compute has made a page
pub sealing_commit : (frames : ℕ) (guests : List GuestSpec) (g : ℕ) (contents : Contents) (past : Past) (memory : Memory) (actor : ℕ) (command : Command) (standing : Standing) (made : Computed)
    → BeforeCommit guests g contents (past.archive g) memory → AreCommandLocks frames guests contents command standing → IfSome (entry_of command) (λ (n : ℕ). n < 64)
    → IsMade g contents (past.archive g) (past.sealing actor) command standing made
    → Ties (asid_of guests g) (vault_of g (contents_after command standing.locks made contents) ((past_committed actor (Some made) (sealing_of command) past).archive g)) memory
unfolding sealing_of guest_of pages_after contexts_after context_committed context_after root_after past_committed
sealing_commit frames guests g contents past memory actor (commands.GctxCreate guest frame) standing made before tested below is = absurd is.as_made
sealing_commit frames guests g contents past memory actor (commands.Activate guest asid) standing made before tested below is = absurd is.as_made
sealing_commit frames guests g contents past memory actor (commands.LaunchStart guest) standing made before tested below is = absurd is.as_made
sealing_commit frames guests g contents past memory actor (commands.LaunchUpdate guest frame page_type imi perms) standing made before tested below is = absurd is.as_made
sealing_commit frames guests g contents past memory actor (commands.LaunchFinish guest) standing made before tested below is = absurd is.as_made
sealing_commit frames guests g contents past memory actor (commands.MdInit frame) standing made before tested below is = absurd is.as_made
sealing_commit frames guests g contents past memory actor (commands.PageMove guest source target) standing made before tested below is = absurd is.as_made
sealing_commit frames guests g contents past memory actor (commands.SwapOut guest source target metadata entry) standing made before tested below is =
    let command = commands.SwapOut guest source target metadata entry in
    out_done guests g guest contents past memory actor GuestPage source target (OfEntry metadata entry) made before (owner_declared frames guests contents command standing guest tested is.context)
    (sealing_tests frames guests contents command standing guest tested is.context is.pages below) is.as_made
sealing_commit frames guests g contents past memory actor (commands.SwapIn guest source target metadata entry) standing made before tested below is =
    let command = commands.SwapIn guest source target metadata entry in
    in_done guests g guest contents (past.archive g) memory GuestPage source target (OfEntry metadata entry) made before (owner_declared frames guests contents command standing guest tested is.context)
    (sealing_tests frames guests contents command standing guest tested is.context is.pages below) is.full is.as_made
sealing_commit frames guests g contents past memory actor (commands.Reclaim frame) standing made before tested below is = absurd is.as_made
sealing_commit frames guests g contents past memory actor (commands.MdOut guest source target metadata entry) standing made before tested below is =
    let command = commands.MdOut guest source target metadata entry in
    out_done guests g guest contents past memory actor MetadataPage source target (OfEntry metadata entry) made before (owner_declared frames guests contents command standing guest tested is.context)
    (sealing_tests frames guests contents command standing guest tested is.context is.pages below) is.as_made
sealing_commit frames guests g contents past memory actor (commands.MdIn guest source target metadata entry) standing made before tested below is =
    let command = commands.MdIn guest source target metadata entry in
    in_done guests g guest contents (past.archive g) memory MetadataPage source target (OfEntry metadata entry) made before (owner_declared frames guests contents command standing guest tested is.context)
    (sealing_tests frames guests contents command standing guest tested is.context is.pages below) is.full is.as_made
sealing_commit frames guests g contents past memory actor (commands.MdRootOut guest source target) standing made before tested below is =
    let command = commands.MdRootOut guest source target in
    out_done guests g guest contents past memory actor MetadataPage source target OfRoot made before (owner_declared frames guests contents command standing guest tested is.context)
    (sealing_tests frames guests contents command standing guest tested is.context is.pages below) is.as_made
sealing_commit frames guests g contents past memory actor (commands.MdRootIn guest source target) standing made before tested below is =
    let command = commands.MdRootIn guest source target in
    in_done guests g guest contents (past.archive g) memory MetadataPage source target OfRoot made before (owner_declared frames guests contents command standing guest tested is.context)
    (sealing_tests frames guests contents command standing guest tested is.context is.pages below) is.full is.as_made
