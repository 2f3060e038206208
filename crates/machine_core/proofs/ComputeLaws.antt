-- The compute of a page that is sealed or opened, over what parts can lend.
use Rattle.std.proofs.Common.{◌≡◌, ℕ, ◌/◌, ◌%◌, true, false, List, Option, Some, Result, Ok, Err, sym, ap, ◌∙◌}
use Rattle.std.proofs.lemmas.Bool.{cond-true, cond-false}
use Rattle.snp_model.specs.declared.entry.RmpEntry.{RmpEntry}
use Rattle.snp_model.specs.declared.event.FwRefusal.{FwRefusal}
use Rattle.snp_model.specs.declared.event.FwRefusal.TheVariants.{Status}
use Rattle.snp_model.specs.declared.firmware.MetaEntry.{MetaEntry}
use Rattle.snp_model.specs.declared.scenario.GuestSpec.{GuestSpec}
use Rattle.snp_model.specs.Firmware.{invalid_page_owner}
use Rattle.snp_model.specs.HeldContexts.{HeldContext}
use Rattle.snp_model.specs.Metadata.{entry_at, opened}
use Rattle.snp_model.specs.RegionWords.{page_at}
use Rattle.snp_model.specs.Sealing.{What, compute_of, made_of, opened_as, opened_with, opens_as, sealed_as, slot_entry}
use Rattle.snp_model.specs.State.{Computed, Context, Page}
use Rattle.machine_core.specs.declared.bay.Bay.{Bay}
use Rattle.machine_core.specs.declared.sealing.Sealing as sealings
use Rattle.machine_core.specs.declared.sealing.Slot as slots
use Rattle.machine_core.specs.declared.sealing.Slot.TheVariants.{OfEntry, OfRoot}
use Rattle.machine_core.specs.declared.sealing.Way.{Way}
use Rattle.machine_core.specs.declared.sealing.Way.TheVariants.{Out, In}
use Rattle.machine_core.specs.declared.sealing.What as whats
use Rattle.machine_core.specs.Bays.{Bays, Stock, contents_of, pages_of}
use Rattle.machine_core.specs.Seals.{made_by, sealed_by, sealing_by, slot_by, what_by}
use Rattle.machine_core.proofs.BaysLaws.{page_there}
use Rattle.machine_core.proofs.ContextsLaws.{context_there}

-- a page that is sealed
pub out_computes : (guests : List GuestSpec) (sealing : sealings.Sealing) (stock : Stock) (held : HeldContext) (entry : RmpEntry) (words : List ℕ) (made : Computed)
    → sealing.way ≡ Out → stock.contexts sealing.guest ≡ Some held → entry ≡ (pages_of stock.bays sealing.source).facts → words ≡ (pages_of stock.bays sealing.source).words
    → made ≡ made_of (sealed_as (what_by sealing.what) held.context (record { facts = entry; words = words })) → compute_of (contents_of stock guests) (sealing_by sealing) ≡ Ok made
unfolding compute_of
out_computes guests sealing stock held entry words made way there entry_is words_are is =
    let what = what_by sealing.what in
    sym (ap Ok (is ∙ (λ i. made_of (sealed_as what (sym (context_there stock guests sealing.guest held there) i) (record { facts = entry_is i; words = words_are i }))))
    ∙ ap (λ (w : Way). compute_of (contents_of stock guests) (sealed_by w what sealing.guest sealing.source sealing.target (slot_by sealing.slot))) (sym way))

-- a page that is opened
pub in_computes : (guests : List GuestSpec) (sealing : sealings.Sealing) (stock : Stock) (held : HeldContext) (words : List ℕ) (kept : Option MetaEntry) (computed : Result Computed FwRefusal)
    → sealing.way ≡ In → stock.contexts sealing.guest ≡ Some held → words ≡ (pages_of stock.bays sealing.source).words → kept ≡ slot_entry (pages_of stock.bays) held.context (slot_by sealing.slot)
    → computed ≡ opened_as (what_by sealing.what) held.context kept words → computed ≡ compute_of (contents_of stock guests) (sealing_by sealing)
unfolding compute_of
in_computes guests sealing stock held words kept computed way there words_are kept_is is =
    let what = what_by sealing.what in
    let slot = slot_by sealing.slot in
    let context = sym (context_there stock guests sealing.guest held there) in
    is
    ∙ (λ i. opened_as what held.context (kept_is i) (words_are i))
    ∙ (λ i. opened_as what (context i) (slot_entry (pages_of stock.bays) (context i) slot) (pages_of stock.bays sealing.source).words)
    ∙ ap (λ (w : Way). compute_of (contents_of stock guests) (sealed_by w what sealing.guest sealing.source sealing.target slot)) (sym way)

-- what was sealed
pub sealed_made : (what kind : whats.What) (context : Context) (entry : RmpEntry) (words new : List ℕ) (made : MetaEntry) → what ≡ kind → made ≡ (sealed_as (what_by kind) context (record { facts = entry; words = words })).entry
    → new ≡ (sealed_as (what_by kind) context (record { facts = entry; words = words })).words → made_by made new ≡ made_of (sealed_as (what_by what) context (record { facts = entry; words = words }))
sealed_made what kind context entry words new made is entry_is words_are =
    (λ i. made_by (entry_is i) (words_are i)) ∙ ap (λ (w : whats.What). made_of (sealed_as (what_by w) context (record { facts = entry; words = words }))) (sym is)

-- what was opened is taken, or refused
pub opened_taken : (what : What) (context : Context) (kept : Option MetaEntry) (entry : MetaEntry) (words new : List ℕ) → kept ≡ Some entry → opened context entry words ≡ Ok new → opens_as what context.asid new ≡ true
    → opened_as what context kept words ≡ Ok (made_by entry new)
unfolding opened_as opened_with
opened_taken what context kept entry words new is opens taken =
    ap (λ (k : Option MetaEntry). opened_as what context k words) is ∙ ap (opened_with what context.asid entry) opens ∙ cond-true _ _ _ taken

pub opened_foreign : (what : What) (context : Context) (kept : Option MetaEntry) (entry : MetaEntry) (words new : List ℕ) → kept ≡ Some entry → opened context entry words ≡ Ok new → opens_as what context.asid new ≡ false
    → opened_as what context kept words ≡ Err (Status invalid_page_owner)
unfolding opened_as opened_with
opened_foreign what context kept entry words new is opens foreign =
    ap (λ (k : Option MetaEntry). opened_as what context k words) is ∙ ap (opened_with what context.asid entry) opens ∙ cond-false _ _ _ foreign

pub opened_refused : (what : What) (context : Context) (kept : Option MetaEntry) (entry : MetaEntry) (words : List ℕ) (refusal : FwRefusal) → kept ≡ Some entry → opened context entry words ≡ Err refusal
    → opened_as what context kept words ≡ Err refusal
unfolding opened_as opened_with
opened_refused what context kept entry words refusal is opens =
    ap (λ (k : Option MetaEntry). opened_as what context k words) is ∙ ap (opened_with what context.asid entry) opens

-- the entry of a metadata page, in its bay
pub entry_there : (bays : Bays) (bay : Bay) (context : Context) (slot : slots.Slot) (metadata number : ℕ) (entry : Option MetaEntry) → slot ≡ OfEntry metadata number → bays (metadata / 512) ≡ Some bay
    → entry ≡ entry_at (page_at bay.memory (metadata % 512)) number → entry ≡ slot_entry (pages_of bays) context (slot_by slot)
entry_there bays bay context slot metadata number entry is there entry_is =
    entry_is
    ∙ ap (λ (page : Page). entry_at page.words number) (sym (page_there bays metadata bay there))
    ∙ ap (λ (s : slots.Slot). slot_entry (pages_of bays) context (slot_by s)) (sym is)

-- the root
pub root_there : (bays : Bays) (context : Context) (slot : slots.Slot) (entry : Option MetaEntry) → slot ≡ OfRoot → entry ≡ context.root → entry ≡ slot_entry (pages_of bays) context (slot_by slot)
root_there bays context slot entry is root = root ∙ ap (λ (s : slots.Slot). slot_entry (pages_of bays) context (slot_by s)) (sym is)
