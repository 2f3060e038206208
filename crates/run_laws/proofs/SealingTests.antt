-- What the locks of a command that seals or opens a page have tested, by what it seals or opens.
use Rattle.std.proofs.Common.{◌≡◌, ℕ, ◌<◌, Bool, true, false, not, ◌&&◌, cond, eqb, IfSome, List, length, get_or, Option, Some, None, slice_get, refl, sym, ◌∙◌, subst, arith}
use Rattle.std.proofs.lemmas.Bool.{eqb-true, eqb-false}
use Rattle.std.proofs.lemmas.Option.{slice_get_within, slice_get-get_or}
use Rattle.std.proofs.lemmas.Bool.Decides.{nat_tests}
use Rattle.std.specs.Option.{option_or}
use Rattle.snp_model.specs.declared.command.Command.{Command}
use Rattle.snp_model.specs.declared.command.Command.TheVariants as commands
use Rattle.snp_model.specs.declared.entry.PageSize.TheVariants.{Small}
use Rattle.snp_model.specs.declared.entry.RmpEntry.{RmpEntry}
use Rattle.snp_model.specs.declared.event.FwRefusal.TheVariants as refusals
use Rattle.snp_model.specs.declared.firmware.MetaEntry.{MetaEntry}
use Rattle.snp_model.specs.declared.firmware.Part.{Part}
use Rattle.snp_model.specs.declared.firmware.Part.TheVariants.{Source, Target, Metadata}
use Rattle.snp_model.specs.declared.scenario.GuestSpec.{GuestSpec}
use Rattle.snp_model.specs.Firmware.{CommandPage, pages_of, has_equal_frames, any_equal, entry_of, invalid_param, invalid_page_size, invalid_page_state, invalid_page_owner, invalid_mdata_entry}
use Rattle.snp_model.specs.FirmwareLocks.{frame_refusal, guest_refusal, context_refusal, takes_large, page_refusal, in_entry_refusal, entry_refusal, owned_refusal, source_refusal, page_extra}
use Rattle.snp_model.specs.FirmwareStep.{command_asid, lock_refusal}
use Rattle.snp_model.specs.Locks.{page_lock}
use Rattle.snp_model.specs.Metadata.{entry_at, owned}
use Rattle.snp_model.specs.PageStates.{state_of, allowed, has_owner}
use Rattle.snp_model.specs.Sealing.{What, GuestPage, MetadataPage, Slot, OfEntry, OfRoot, Sealing, SealOut, SealIn, sealing_of}
use Rattle.snp_model.specs.State.{Page, Pages, Contents, Standing}
use Rattle.snp_model.specs.Verdicts.{is_large}
use Rattle.run_laws.specs.HeldLocks.{AreCommandLocks}
use Rattle.run_laws.proofs.LockLaws.{first_none, others_none}
use Rattle.run_laws.proofs.SealingPages.{IfEntry, Apart}
use Rattle.run_laws.proofs.StateFacts.{IsOfFirmware, IsOfMetadata, IsKeptFrom, IsUnused, hypervisor_facts, metadata_facts, firmware_facts, pre_facts, pre_guest_facts}
use Rattle.run_laws.proofs.TestedLaws.{let_through, not_false}

-- the page that is sealed: the guest's, which is kept from it, or a metadata page of which each entry in use is the guest's
abbrev pub IsSealable : ℕ → What → Page → Type 0
IsSealable asid GuestPage page = IsKeptFrom page.facts × (page.facts.asid ≡ asid)
IsSealable asid MetadataPage page = IsOfMetadata page.facts × (owned page.words asid ≡ true)

-- the page to which one is opened: an unused one of the guest's, or one of the firmware
abbrev pub IsOpenable : ℕ → What → RmpEntry → Type 0
IsOpenable asid GuestPage facts = IsUnused facts × (facts.asid ≡ asid)
IsOpenable asid MetadataPage facts = IsOfFirmware facts

-- a guest's page is never kept by the root
abbrev pub IsSlotOf : What → Slot → Type 0
IsSlotOf GuestPage (OfEntry metadata number) = Unit {0}
IsSlotOf GuestPage OfRoot = ⊥
IsSlotOf MetadataPage slot = Unit {0}

-- the page of the entry, and its number
pub record IsTable (pages : Pages) (metadata number : ℕ) : Type 0 where
  pub metadatas : IsOfMetadata (pages metadata).facts
  pub below : number < 64

-- the kind of an entry
abbrev pub kind_of : What → ℕ
kind_of GuestPage = 1
kind_of MetadataPage = 2

-- the entry that is taken
abbrev pub IsTaken : ℕ → ℕ → Option MetaEntry → Type 0
IsTaken kind asid None = ⊥
IsTaken kind asid (Some entry) = (entry.kind ≡ kind) × (entry.asid ≡ asid)

-- what was tested of the pages of a page that is sealed, for the guest with this ASID
pub record OutTests (asid : ℕ) (pages : Pages) (what : What) (source target : ℕ) (slot : Slot) : Type 0 where
  pub apart : Apart source target slot
  pub slot_fits : IsSlotOf what slot
  pub sealable : IsSealable asid what (pages source)
  pub target_free : (pages target).facts.assigned ≡ false
  pub table : IfEntry slot (IsTable pages)

-- so of one that is opened
pub record InTests (asid : ℕ) (pages : Pages) (what : What) (source target : ℕ) (slot : Slot) : Type 0 where
  pub apart : Apart source target slot
  pub slot_fits : IsSlotOf what slot
  pub openable : IsOpenable asid what (pages target).facts
  pub table : IfEntry slot (IsTable pages)
  pub taken : IfEntry slot (λ metadata number. IsTaken (kind_of what) asid (entry_at (pages metadata).words number))

abbrev pub SealingTests : ℕ → Pages → Option Sealing → Type 0
SealingTests asid pages None = Unit {0}
SealingTests asid pages (Some (SealOut what guest source target slot)) = OutTests asid pages what source target slot
SealingTests asid pages (Some (SealIn what guest source target slot)) = InTests asid pages what source target slot

-- the test of a page that refuses nothing
pub record PagePasses (command : Command) (page : CommandPage) (asid : ℕ) (found : Page) : Type 0 where
  pub allows : allowed command page.part (state_of found.facts) ≡ true
  pub owner : has_owner command page.part ≡ true → found.facts.asid ≡ asid
  pub extra : page_extra command page.part asid found.words ≡ None

owner_is : (asks : Bool) (a b : ℕ) → (asks && not (eqb a b)) ≡ false → asks ≡ true → a ≡ b
owner_is asks a b fails is = grind (arith, nat_tests)

facts_pass : (command : Command) (part : Part) (facts : RmpEntry) (asid : ℕ) → page_refusal command part facts None asid ≡ None
    → (allowed command part (state_of facts) ≡ true) × (has_owner command part ≡ true → facts.asid ≡ asid)
unfolding page_refusal
facts_pass command part facts asid none =
    let size = let_through (is_large facts.size && not (takes_large command)) (refusals.Status invalid_page_size) _ none in
    let state = let_through (not (allowed command part (state_of facts))) (refusals.Status invalid_page_state) _ size.after_it in
    let owner = let_through (has_owner command part && not (eqb facts.asid asid)) (refusals.Status invalid_page_owner) _ state.after_it in
    (not_false (allowed command part (state_of facts)) state.fails, owner_is (has_owner command part) facts.asid asid owner.fails)

pub page_passes : (frames asid : ℕ) (command : Command) (page : CommandPage) (found : Page) → lock_refusal frames asid command page found None ≡ None → PagePasses command page asid found
unfolding lock_refusal
page_passes frames asid command page found none =
    let facts = page_refusal command page.part found.facts None asid in
    let extra = page_extra command page.part asid found.words in
    let later = others_none (frame_refusal frames page.frame) (option_or facts extra) none in
    let both = facts_pass command page.part found.facts asid (first_none facts extra later) in
    record { allows = both.0; owner = both.1; extra = others_none facts extra later }

-- a page of a command that has locked all its pages
same_some : {X : Type 0} (x y : X) → Some x ≡ Some y → x ≡ y
same_some x y e = cc

pub locked_page : (frames : ℕ) (guests : List GuestSpec) (contents : Contents) (command : Command) (standing : Standing) → AreCommandLocks frames guests contents command standing
    → length standing.locks ≡ length (pages_of command) → (number : ℕ) (page : CommandPage) → slice_get (pages_of command) number ≡ Some page
    → PagePasses command page (command_asid guests command) (contents.pages page.frame)
locked_page frames guests contents command standing tested all number page is =
    let within : number < length (pages_of command) = slice_get_within (pages_of command) number page is in
    let no_lock = page_lock Small 0 in
    let found = slice_get-get_or standing.locks number no_lock (omega arith) in
    let of = tested.pages number (get_or standing.locks number no_lock) found in
    let same : of.page ≡ page = same_some of.page page (sym of.page_is ∙ is) in
    page_passes frames (command_asid guests command) command page (contents.pages page.frame)
    (subst (λ (p : CommandPage). lock_refusal frames (command_asid guests command) command p (contents.pages p.frame) None ≡ None) same of.passes)

-- the frames of a command are apart
pub frames_apart : (guests : List GuestSpec) (contents : Contents) (command : Command) (guest : ℕ)
    → option_or (guest_refusal guests guest) (context_refusal guests command (contents.contexts guest) None) ≡ None → has_equal_frames command ≡ false
unfolding context_refusal
frames_apart guests contents command guest none =
    (let_through (has_equal_frames command) (refusals.Status invalid_param) _ (others_none (guest_refusal guests guest) (context_refusal guests command (contents.contexts guest) None) none)).fails

pub apart_three : (source target metadata number : ℕ) → any_equal source target metadata ≡ false → Apart source target (OfEntry metadata number)
apart_three source target metadata number off =
    record { target_off = grind (arith, nat_tests); table_off = (grind (arith, nat_tests), grind (arith, nat_tests)) }

pub apart_two : (source target : ℕ) → eqb source target ≡ false → Apart source target OfRoot
apart_two source target off = record { target_off = λ same. eqb-false source target off (sym same); table_off = tt }

-- an entry that is taken
taken_entry : (kind asid : ℕ) (entry : Option MetaEntry) → in_entry_refusal kind asid entry ≡ None → IsTaken kind asid entry
unfolding in_entry_refusal
taken_entry kind asid None none = absurd (cc)
taken_entry kind asid (Some entry) none =
    let kinds_fit = let_through (not (eqb entry.kind kind)) (refusals.Status invalid_mdata_entry) _ none in
    let asids_fit = let_through (not (eqb entry.asid asid)) (refusals.Status invalid_page_owner) _ kinds_fit.after_it in
    (eqb-true entry.kind kind (not_false (eqb entry.kind kind) kinds_fit.fails), eqb-true entry.asid asid (not_false (eqb entry.asid asid) asids_fit.fails))

owned_source : (asid : ℕ) (words : List ℕ) → owned_refusal asid words ≡ None → owned words asid ≡ true
unfolding owned_refusal
owned_source asid words none = owned_by (owned words asid) none
  where
    owned_by : (b : Bool) → cond b None (Some (refusals.Status invalid_page_owner)) ≡ None → b ≡ true
    owned_by true none = refl
    owned_by false none = absurd (cc)

-- what was tested of all pages of a command, by their parts
abbrev Passing : ℕ → Contents → Command → Type 0
Passing asid contents command = (number : ℕ) (page : CommandPage) → slice_get (pages_of command) number ≡ Some page → PagePasses command page asid (contents.pages page.frame)

by_command : (asid : ℕ) (contents : Contents) (command : Command) → Passing asid contents command → has_equal_frames command ≡ false → IfSome (entry_of command) (λ (n : ℕ). n < 64)
    → SealingTests asid contents.pages (sealing_of command)
unfolding sealing_of pages_of has_equal_frames entry_of allowed has_owner page_extra source_refusal entry_refusal
by_command asid contents (commands.GctxCreate guest frame) passes off below = tt
by_command asid contents (commands.Activate guest own) passes off below = tt
by_command asid contents (commands.LaunchStart guest) passes off below = tt
by_command asid contents (commands.LaunchUpdate guest frame page_type imi perms) passes off below = tt
by_command asid contents (commands.LaunchFinish guest) passes off below = tt
by_command asid contents (commands.MdInit frame) passes off below = tt
by_command asid contents (commands.PageMove guest source target) passes off below = tt
by_command asid contents (commands.SwapOut guest source target metadata entry) passes off below =
    let first = passes 0 (record { part = Source; frame = source }) refl in
    record {
      apart = apart_three source target metadata entry off;
      slot_fits = tt;
      sealable = (pre_facts (contents.pages source).facts first.allows, first.owner refl);
      target_free = hypervisor_facts (contents.pages target).facts (passes 1 (record { part = Target; frame = target }) refl).allows;
      table = record { metadatas = metadata_facts (contents.pages metadata).facts (passes 2 (record { part = Metadata; frame = metadata }) refl).allows; below = below };
    }
by_command asid contents (commands.SwapIn guest source target metadata entry) passes off below =
    let second = passes 1 (record { part = Target; frame = target }) refl in
    let third = passes 2 (record { part = Metadata; frame = metadata }) refl in
    record {
      apart = apart_three source target metadata entry off;
      slot_fits = tt;
      openable = (pre_guest_facts (contents.pages target).facts second.allows, second.owner refl);
      table = record { metadatas = metadata_facts (contents.pages metadata).facts third.allows; below = below };
      taken = taken_entry 1 asid (entry_at (contents.pages metadata).words entry) third.extra;
    }
by_command asid contents (commands.Reclaim frame) passes off below = tt
by_command asid contents (commands.MdOut guest source target metadata entry) passes off below =
    let first = passes 0 (record { part = Source; frame = source }) refl in
    record {
      apart = apart_three source target metadata entry off;
      slot_fits = tt;
      sealable = (metadata_facts (contents.pages source).facts first.allows, owned_source asid (contents.pages source).words first.extra);
      target_free = hypervisor_facts (contents.pages target).facts (passes 1 (record { part = Target; frame = target }) refl).allows;
      table = record { metadatas = metadata_facts (contents.pages metadata).facts (passes 2 (record { part = Metadata; frame = metadata }) refl).allows; below = below };
    }
by_command asid contents (commands.MdIn guest source target metadata entry) passes off below =
    let second = passes 1 (record { part = Target; frame = target }) refl in
    let third = passes 2 (record { part = Metadata; frame = metadata }) refl in
    record {
      apart = apart_three source target metadata entry off;
      slot_fits = tt;
      openable = firmware_facts (contents.pages target).facts second.allows;
      table = record { metadatas = metadata_facts (contents.pages metadata).facts third.allows; below = below };
      taken = taken_entry 2 asid (entry_at (contents.pages metadata).words entry) third.extra;
    }
by_command asid contents (commands.MdRootOut guest source target) passes off below =
    let first = passes 0 (record { part = Source; frame = source }) refl in
    record {
      apart = apart_two source target off;
      slot_fits = tt;
      sealable = (metadata_facts (contents.pages source).facts first.allows, owned_source asid (contents.pages source).words first.extra);
      target_free = hypervisor_facts (contents.pages target).facts (passes 1 (record { part = Target; frame = target }) refl).allows;
      table = tt;
    }
by_command asid contents (commands.MdRootIn guest source target) passes off below =
    record {
      apart = apart_two source target off;
      slot_fits = tt;
      openable = firmware_facts (contents.pages target).facts (passes 1 (record { part = Target; frame = target }) refl).allows;
      table = tt;
      taken = tt;
    }

-- what was tested of a command that has locked its context and all its pages
pub sealing_tests : (frames : ℕ) (guests : List GuestSpec) (contents : Contents) (command : Command) (standing : Standing) (guest : ℕ) → AreCommandLocks frames guests contents command standing
    → standing.context_lock ≡ Some guest → length standing.locks ≡ length (pages_of command) → IfSome (entry_of command) (λ (n : ℕ). n < 64)
    → SealingTests (command_asid guests command) contents.pages (sealing_of command)
sealing_tests frames guests contents command standing guest tested context all below =
    by_command (command_asid guests command) contents command (locked_page frames guests contents command standing tested all)
    (frames_apart guests contents command guest (tested.context guest context).passes) below
