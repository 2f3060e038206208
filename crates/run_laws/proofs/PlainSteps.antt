-- An event of an item that seals and opens nothing keeps what ties counters and seals together, and leaves the past.
use Rattle.std.proofs.Common.{◌≡◌, ◌≢◌, ℕ, ◌-◌, Bool, List, length, Option, None, unwrap_or, refl, sym, ap, ◌∙◌}
use Rattle.std.proofs.lemmas.Bool.{cond_both}
use Rattle.snp_model.specs.declared.entry.Kind.TheVariants as kinds
use Rattle.snp_model.specs.declared.entry.RmpEntry.{RmpEntry}
use Rattle.snp_model.specs.declared.event.Deed.{Deed}
use Rattle.snp_model.specs.declared.event.Deed.TheVariants as deeds
use Rattle.snp_model.specs.declared.item.Item.{Item}
use Rattle.snp_model.specs.declared.item.Item.TheVariants as items
use Rattle.snp_model.specs.declared.item.Op.{Op}
use Rattle.snp_model.specs.declared.item.Op.TheVariants.{Load, Store, Swap, Compare, Xor}
use Rattle.snp_model.specs.declared.item.Update.{Update}
use Rattle.snp_model.specs.declared.scenario.GuestSpec.{GuestSpec}
use Rattle.snp_model.specs.declared.scenario.Role.{Role}
use Rattle.snp_model.specs.declared.scenario.Role.TheVariants.{Cpu, Host, Firmware}
use Rattle.snp_model.specs.Bounds.{IsRole}
use Rattle.snp_model.specs.FirmwareStep.{nothing_made, command_asid}
use Rattle.snp_model.specs.Live.{Archive, vault_of}
use Rattle.snp_model.specs.Past.{Past, past_computed, past_committed, sealing_in, past_with}
use Rattle.snp_model.specs.RmpUpdate.{updated_page, pages_updated, smashed_page, pages_smashed}
use Rattle.snp_model.specs.Sealing.{Sealing}
use Rattle.snp_model.specs.State.{Page, PageLock, Contents, Computed, ActorPart, View, with_word}
use Rattle.snp_model.specs.Step.{pages_after, item_move}
use Rattle.snp_model.specs.Validation.{carry, validated_facts, validated_page, pages_validated, adjusted_facts, adjusted_page, pages_adjusted}
use Rattle.run_laws.specs.HeldLocks.{IsUpdateLock, AreItemLocks}
use Rattle.run_laws.specs.Operands.{AreOperands}
use Rattle.run_laws.specs.Shapes.{AreFactsOf}
use Rattle.run_laws.specs.Uniqueness.{Seals}
use Rattle.run_laws.proofs.ChangeLaws.{IsLoose, HoldsAfter, by_change}
use Rattle.run_laws.proofs.CommandStages.{all_locked}
use Rattle.run_laws.proofs.CoreLaws.{KindFits}
use Rattle.run_laws.proofs.DisciplinedItems.{IsNoSealing}
use Rattle.run_laws.proofs.KeptCommits.{other_commit}
use Rattle.run_laws.proofs.KeptSeals.{KeepsEntries, plain_keeps, same_keeps, seals_with_memory, write_keeps}
use Rattle.run_laws.proofs.LargePages.{AreLargeWhole}
use Rattle.run_laws.proofs.SealOutCommit.{IsFitMemory}
use Rattle.run_laws.proofs.SealingTests.{locked_page}
use Rattle.run_laws.proofs.TestedRanges.{are_updatable}
use Rattle.run_laws.proofs.UpdateLaws.{over_frames, is_updated}

-- frames of the firmware
pub kinds_fit : (facts : RmpEntry) → AreFactsOf facts → KindFits facts
kinds_fit facts are = record { assigned = λ used_by. (are.used used_by).assigned; immutable = λ used_by. (are.used used_by).immutable; no_guest = λ used_by. (are.used used_by).no_guest }

metadata_plain : kinds.Metadata ≡ kinds.Plain → ⊥
metadata_plain e = cc

loose_plain : (facts : RmpEntry) → AreFactsOf facts → IsLoose facts → facts.kind ≢ kinds.Metadata
loose_plain facts are loose is = let firm = are.used (λ plain. metadata_plain (sym is ∙ plain)) in loose firm.assigned firm.immutable

-- what an access writes makes no entry
access_seals : (asid g : ℕ) (archive : Archive) (contents : Contents) (op : Op) (frame index word : ℕ) → (contents.pages frame).facts.kind ≢ kinds.Metadata → Seals asid (vault_of g contents archive)
    → Seals asid (vault_of g (record contents { pages = pages_after op frame index word contents.pages }) archive)
access_seals asid g archive contents Load frame index word plain seals = seals
access_seals asid g archive contents (Store value) frame index word plain seals =
    seals_with_memory asid g archive contents (with_word frame index value contents.pages) (write_keeps asid frame index value contents.pages plain) seals
access_seals asid g archive contents (Swap value) frame index word plain seals =
    seals_with_memory asid g archive contents (with_word frame index value contents.pages) (write_keeps asid frame index value contents.pages plain) seals
access_seals asid g archive contents (Compare expected next) frame index word plain seals =
    seals_with_memory asid g archive contents _ (write_keeps asid frame index _ contents.pages plain) seals
access_seals asid g archive contents (Xor value) frame index word plain seals =
    seals_with_memory asid g archive contents _ (write_keeps asid frame index _ contents.pages plain) seals

-- nor does the commit of an instruction of the RMP
itself_keeps : (asid : ℕ) (page : Page) → KeepsEntries asid page page
itself_keeps asid page number entry is = is

update_seals : (asid g frames : ℕ) (archive : Archive) (contents : Contents) (update : Update) (lock : PageLock) → IsFitMemory contents.pages → AreLargeWhole contents.pages → IsUpdateLock frames contents update lock
    → Seals asid (vault_of g contents archive) → Seals asid (vault_of g (record contents { pages = pages_updated update lock contents.pages }) archive)
unfolding pages_updated
update_seals asid g frames archive contents update lock fits whole tested seals =
    let pages = contents.pages in
    let first = (pages lock.base).facts in
    let may = are_updatable frames contents update lock tested whole in
    seals_with_memory asid g archive contents (pages_updated update lock pages)
    (over_frames (KeepsEntries asid) lock.base lock.count (updated_page update first) pages (λ f. itself_keeps asid (pages f))
    (λ f inside. plain_keeps asid (updated_page update first (f - lock.base) (pages f)) (pages f)
    (is_updated asid update first (f - lock.base) (pages f) (kinds_fit (pages f).facts (fits.facts f)) (may f inside)).metadata))
    seals

smash_seals : (asid g : ℕ) (archive : Archive) (contents : Contents) (lock : PageLock) → Seals asid (vault_of g contents archive)
    → Seals asid (vault_of g (record contents { pages = pages_smashed lock contents.pages }) archive)
unfolding pages_smashed
smash_seals asid g archive contents lock seals =
    let pages = contents.pages in
    seals_with_memory asid g archive contents (pages_smashed lock pages)
    (over_frames (KeepsEntries asid) lock.base lock.count (λ (place : ℕ). smashed_page) pages (λ f. itself_keeps asid (pages f))
    (λ f inside. same_keeps asid (smashed_page (pages f)) (pages f) (λ is. (is, refl))))
    seals

validated_kind : (validate : Bool) (own facts : RmpEntry) → (validated_facts validate own facts).kind ≡ facts.kind
unfolding validated_facts
validated_kind validate own facts = cond_both (carry validate own) facts (record facts { validated = validate }) (λ (new : RmpEntry). new.kind ≡ facts.kind) (λ _. refl) (λ _. refl)

validate_seals : (asid g : ℕ) (archive : Archive) (contents : Contents) (validate : Bool) (own : RmpEntry) (lock : PageLock) → Seals asid (vault_of g contents archive)
    → Seals asid (vault_of g (record contents { pages = pages_validated validate own lock contents.pages }) archive)
unfolding pages_validated
validate_seals asid g archive contents validate own lock seals =
    let pages = contents.pages in
    seals_with_memory asid g archive contents (pages_validated validate own lock pages)
    (over_frames (KeepsEntries asid) lock.base lock.count (λ (place : ℕ). validated_page validate own) pages (λ f. itself_keeps asid (pages f))
    (λ f inside. same_keeps asid (validated_page validate own (pages f)) (pages f) (λ is. (sym (validated_kind validate own (pages f).facts) ∙ is, refl))))
    seals

adjusted_kind : (vmpl target mask : ℕ) (vmsa : Bool) (facts : RmpEntry) → (adjusted_facts vmpl target mask vmsa facts).kind ≡ facts.kind
unfolding adjusted_facts
adjusted_kind vmpl target mask vmsa facts = refl

adjust_seals : (asid g : ℕ) (archive : Archive) (contents : Contents) (vmpl target mask : ℕ) (vmsa : Bool) (lock : PageLock) → Seals asid (vault_of g contents archive)
    → Seals asid (vault_of g (record contents { pages = pages_adjusted vmpl target mask vmsa lock contents.pages }) archive)
unfolding pages_adjusted
adjust_seals asid g archive contents vmpl target mask vmsa lock seals =
    let pages = contents.pages in
    seals_with_memory asid g archive contents (pages_adjusted vmpl target mask vmsa lock pages)
    (over_frames (KeepsEntries asid) lock.base lock.count (λ (place : ℕ). adjusted_page vmpl target mask vmsa) pages (λ f. itself_keeps asid (pages f))
    (λ f inside. same_keeps asid (adjusted_page vmpl target mask vmsa (pages f)) (pages f) (λ is. (sym (adjusted_kind vmpl target mask vmsa (pages f).facts) ∙ is, refl))))
    seals

-- of what is made nothing is asked
abbrev Anything : Computed → Type 0
Anything made = Unit {0}

abbrev SealsIn : ℕ → ℕ → Archive → Contents → Type 0
SealsIn asid g archive contents = Seals asid (vault_of g contents archive)

seals_after : (asid g frames : ℕ) (guests : List GuestSpec) (archive : Archive) (contents : Contents) (part : ActorPart) (item : Item) → IsFitMemory contents.pages → AreLargeWhole contents.pages → sealing_in item ≡ None
    → Seals asid (vault_of g contents archive) → HoldsAfter (SealsIn asid g archive) Anything frames guests contents part item
seals_after asid g frames guests archive contents part item fits whole none seals = record {
  still = seals;
  written = λ op frame index small loose. access_seals asid g archive contents op frame index _ (loose_plain (contents.pages frame).facts (fits.facts frame) loose) seals;
  updated = λ update lock small tested. update_seals asid g frames archive contents update lock fits whole tested seals;
  smashed = λ frame lock tested. smash_seals asid g archive contents lock seals;
  validated = λ owner validate own lock some most is. validate_seals asid g archive contents validate own lock seals;
  adjusted = λ vmpl target mask vmsa lock small covers. adjust_seals asid g archive contents vmpl target mask vmsa lock seals;
  committed = λ command is operands stage.
      other_commit asid (command_asid guests command) g contents archive command part.standing.locks (unwrap_or part.standing.computed nothing_made) fits
      (locked_page frames guests contents command part.standing stage.ready.tested (all_locked frames guests contents command part.standing stage.ready))
      (sym (ap sealing_in is) ∙ none) seals;
  had = λ made is. tt;
  computed = λ sealing made is. tt;
}

-- so of an item that seals and opens nothing, or is of another role's
abbrev PlainSeals : ℕ → ℕ → ℕ → List GuestSpec → Archive → View → ActorPart → Role → Item → Type 0
PlainSeals asid g frames guests archive view part role item =
    IsFitMemory view.contents.pages → AreLargeWhole view.contents.pages → IsRole frames (length guests) role → AreOperands item → AreItemLocks frames guests view.contents role item part.deeds part.standing
    → Seals asid (vault_of g view.contents archive) → Seals asid (vault_of g (item_move frames guests view part role item).contents archive)

by_item_seals : (asid g frames : ℕ) (guests : List GuestSpec) (archive : Archive) (view : View) (part : ActorPart) (role : Role) (item : Item) → sealing_in item ≡ None → PlainSeals asid g frames guests archive view part role item
by_item_seals asid g frames guests archive view part role item none fits whole is operands tested seals =
    (by_change (SealsIn asid g archive) Anything frames guests view part role item (seals_after asid g frames guests archive view.contents part item fits whole none seals) is operands tested).holds

pub plain_seals : (asid g frames : ℕ) (guests : List GuestSpec) (archive : Archive) (view : View) (part : ActorPart) (role : Role) (item : Item) → IsNoSealing role item → PlainSeals asid g frames guests archive view part role item
unfolding item_move
plain_seals asid g frames guests archive view part (Cpu owner vmpl npt paging) (items.Firmware command) known fits whole is operands tested seals = seals
plain_seals asid g frames guests archive view part Host (items.Firmware command) known fits whole is operands tested seals = seals
plain_seals asid g frames guests archive view part Firmware (items.Firmware command) known fits whole is operands tested seals =
    by_item_seals asid g frames guests archive view part Firmware (items.Firmware command) known fits whole is operands tested seals
plain_seals asid g frames guests archive view part role item known fits whole is operands tested seals = by_item_seals asid g frames guests archive view part role item refl fits whole is operands tested seals

-- and the past is left
plain_past : (actor : ℕ) (before : Contents) (made : Option Computed) (deed : Deed) (item : Item) (past : Past) → sealing_in item ≡ None → past_with actor before made deed item past ≡ past
unfolding past_with past_computed past_committed
plain_past actor before made deeds.Begin item past none = refl
plain_past actor before made (deeds.Nested frame index value) item past none = refl
plain_past actor before made (deeds.Table gpn index frame value) item past none = refl
plain_past actor before made (deeds.Access gpn index frame private) item past none = refl
plain_past actor before made (deeds.Host frame index) item past none = refl
plain_past actor before made (deeds.Lock frame) item past none = refl
plain_past actor before made (deeds.LockContext guest) item past none = refl
plain_past actor before made deeds.Compute item past none = ap (λ (sealing : Option Sealing). past_computed actor before sealing past) none
plain_past actor before made (deeds.Commit frame gpn size) item past none = ap (λ (sealing : Option Sealing). past_committed actor made sealing past) none
plain_past actor before made (deeds.CommitContext guest) item past none = refl
plain_past actor before made deeds.Control item past none = refl

pub plain_item_past : (frames : ℕ) (guests : List GuestSpec) (actor : ℕ) (view : View) (part : ActorPart) (role : Role) (item : Item) (past : Past) → IsNoSealing role item
    → past_with actor view.contents part.standing.computed (item_move frames guests view part role item).deed item past ≡ past
unfolding item_move past_with
plain_item_past frames guests actor view part (Cpu owner vmpl npt paging) (items.Firmware command) past known = refl
plain_item_past frames guests actor view part Host (items.Firmware command) past known = refl
plain_item_past frames guests actor view part Firmware (items.Firmware command) past known =
    plain_past actor view.contents part.standing.computed (item_move frames guests view part Firmware (items.Firmware command)).deed (items.Firmware command) past known
plain_item_past frames guests actor view part role item past known = plain_past actor view.contents part.standing.computed (item_move frames guests view part role item).deed item past refl
