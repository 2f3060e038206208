-- The commits of the pages of the commands that seal or open one: in the bays that are lent and in memory, and the release of their locks.
use Rattle.std.proofs.Common.{◌≡◌, ◌≢◌, ℕ, ◌/◌, ◌<◌, true, is_some, List, [], length, IsSome, Option, None, Some, refl, sym, ap, ◌∙◌, subst, inl, inr, arith}
use Rattle.std.proofs.lemmas.Bool.{cases_eq, cond-true, cond-false, eq-eqb, ne_eqb}
use Rattle.std.proofs.lemmas.Bool.Decides.{nat_tests}
use Rattle.std.proofs.lemmas.List.{get_or-set_same, get_or-set_other}
use Rattle.std.specs.List.{list_any}
use Rattle.snp_model.specs.declared.entry.PageSize.TheVariants.{Small}
use Rattle.snp_model.specs.declared.firmware.MetaEntry.{MetaEntry}
use Rattle.snp_model.specs.Entries.{facts_at}
use Rattle.snp_model.specs.FirmwareCommits.{at_frame, restored, restored_facts, with_words}
use Rattle.snp_model.specs.Locks.{covers, page_lock}
use Rattle.snp_model.specs.RegionWords.{page_at, page_set}
use Rattle.snp_model.specs.Sealing.{What, GuestPage, MetadataPage, Slot, OfEntry, OfRoot, brought_back, entry_set, given_up, pages_in, pages_out, with_slot_entry}
use Rattle.snp_model.specs.State.{Page, PageLock, Pages}
use Rattle.run_laws.specs.KeptLocks.{relocked}
use Rattle.machine_core.specs.declared.bay.Bay.{Bay}
use Rattle.machine_core.specs.declared.sealing.Slot as slots
use Rattle.machine_core.specs.declared.sealing.Slot.TheVariants as slot_variants
use Rattle.machine_core.specs.declared.sealing.What as whats
use Rattle.machine_core.specs.Bays.{Stock, holders_of, page_in}
use Rattle.machine_core.specs.CommandPages.{HoldsLocks, StillHas, released_in}
use Rattle.machine_core.specs.Commands.{AreInOneRegion, let_go_in}
use Rattle.machine_core.specs.Seals.{HasEntry, HasSlot, gpn_shown, made_by, sealing_locks, slot_by, what_by}
use Rattle.machine_core.proofs.PageCommitLaws.{frame_own}
use Rattle.machine_core.proofs.ReleaseLaws.{all_let_go}

-- One page

-- words that are written in a bay
abbrev with_memory : Bay → List (List ℕ) → Bay
with_memory bay memory = record { memory = memory; rmp = bay.rmp }

word_each : (bay : Bay) (memory : List (List ℕ)) (slot : ℕ) (words : List ℕ) → slot < length bay.memory → memory ≡ page_set bay.memory slot words → (s : ℕ)
    → page_in (Some (with_memory bay memory)) s ≡ at_frame slot (with_words words (page_in (Some bay) slot)) (page_in (Some bay)) s
unfolding at_frame
word_each bay memory slot words inside is s = elim (cases_eq slot s) [
  | inl same ↦
      (λ i. record {
        facts = facts_at bay.rmp (sym same i);
        words = (ap (page_at memory) (sym same) ∙ (λ j. page_at (is j) slot) ∙ get_or-set_same bay.memory slot words [] inside) i;
      })
      ∙ sym (cond-true _ _ _ (eq-eqb slot s same))
  | inr apart ↦
      (λ i. record {
        facts = facts_at bay.rmp s;
        words = ((λ j. page_at (is j) s) ∙ get_or-set_other bay.memory slot s words [] (λ e. apart (sym e))) i;
      })
      ∙ sym (cond-false _ _ _ (ne_eqb slot s apart))
]

pub words_in : (bay : Bay) (memory : List (List ℕ)) (slot : ℕ) (words : List ℕ) → slot < length bay.memory → memory ≡ page_set bay.memory slot words
    → page_in (Some (with_memory bay memory)) ≡ at_frame slot (with_words words (page_in (Some bay) slot)) (page_in (Some bay))
words_in bay memory slot words inside is = λ i s. word_each bay memory slot words inside is s i

-- a page that is restored has the guest page number of its entry
pub restored_gpn : (frame : ℕ) (entry : MetaEntry) (words : List ℕ) (pages after : Pages) → after ≡ at_frame frame (restored entry words (pages frame)) pages → entry.gpn ≡ (after frame).facts.gpn
unfolding restored_facts
restored_gpn frame entry words pages after is = sym (ap (λ (page : Page). page.facts.gpn) ((λ i. is i frame) ∙ frame_own frame (restored entry words (pages frame)) pages))

-- what is shown of it is told by what is sealed
pub kind_gpn : (what kind : whats.What) (gpn : ℕ) (page : Page) → what ≡ kind → gpn ≡ gpn_shown (what_by kind) page → gpn ≡ gpn_shown (what_by what) page
kind_gpn what kind gpn page is gpn_is = gpn_is ∙ ap (λ (w : whats.What). gpn_shown (what_by w) page) (sym is)

-- another frame's page stays
frame_off : (frame : ℕ) (page : Page) (pages : Pages) (f : ℕ) → f ≢ frame → at_frame frame page pages f ≡ pages f
unfolding at_frame
frame_off frame page pages f apart = cond-false _ _ _ (ne_eqb frame f (λ e. apart (sym e)))

-- The pages of a command

-- a page is sealed
pub seals_pages : (what : What) (source target : ℕ) (slot : Slot) (entry : MetaEntry) (words : List ℕ) (pages first second third : Pages) → source ≢ target
    → first ≡ at_frame source (given_up what (pages source)) pages → second ≡ at_frame target (with_words words (first target)) first → third ≡ with_slot_entry slot (Some entry) second
    → third ≡ pages_out what source target slot (made_by entry words) pages
unfolding pages_out
seals_pages what source target slot entry words pages first second third apart given written set =
    let there : first target ≡ pages target = (λ i. given i target) ∙ frame_off source (given_up what (pages source)) pages target (λ e. apart (sym e)) in
    set ∙ ap (with_slot_entry slot (Some entry)) (written ∙ (λ i. at_frame target (with_words words (there i)) (given i)))

-- a page is opened
pub opens_pages : (what : What) (target : ℕ) (slot : Slot) (entry : MetaEntry) (words : List ℕ) (pages first second : Pages)
    → first ≡ at_frame target (brought_back what entry words (pages target)) pages → second ≡ with_slot_entry slot None first → second ≡ pages_in what target slot (made_by entry words) pages
unfolding pages_in
opens_pages what target slot entry words pages first second brought cleared = cleared ∙ ap (with_slot_entry slot None) brought

-- the entry changes the words of its page alone
entry_facts : (metadata : ℕ) (words : List ℕ) (pages : Pages) (f : ℕ) → (at_frame metadata (with_words words (pages metadata)) pages f).facts ≡ (pages f).facts
unfolding at_frame
entry_facts metadata words pages f = elim (cases_eq metadata f) [
  | inl same ↦ ap (λ (page : Page). page.facts) (cond-true _ _ _ (eq-eqb metadata f same)) ∙ ap (λ (g : ℕ). (pages g).facts) same
  | inr apart ↦ ap (λ (page : Page). page.facts) (cond-false _ _ _ (ne_eqb metadata f apart))
]

slot_facts : (slot : Slot) (entry : Option MetaEntry) (pages : Pages) (f : ℕ) → (with_slot_entry slot entry pages f).facts ≡ (pages f).facts
unfolding with_slot_entry
slot_facts (OfEntry metadata number) entry pages f = entry_facts metadata (entry_set (pages metadata).words number entry) pages f
slot_facts OfRoot entry pages f = refl

same_gpn : (what : What) (one other : Page) → one.facts ≡ other.facts → gpn_shown what one ≡ gpn_shown what other
same_gpn GuestPage one other same = λ i. (same i).gpn
same_gpn MetadataPage one other same = refl

-- so it leaves what is shown of a page
pub gpn_left : (what : What) (slot : Slot) (entry : Option MetaEntry) (frame gpn : ℕ) (first second last : Pages) → gpn ≡ gpn_shown what (first frame) → second ≡ with_slot_entry slot entry first → last ≡ second → gpn ≡ gpn_shown what (last frame)
gpn_left what slot entry frame gpn first second last is set same =
    is ∙ sym (same_gpn what (last frame) (first frame) ((λ i. ((same ∙ set) i frame).facts) ∙ slot_facts slot entry first frame))

-- Locks

slot_still : (slot : Slot) (old new : Stock) → StillHas old new → HasSlot slot old → HasSlot slot new
slot_still (OfEntry metadata number) old new still has = record { has = still metadata has.has; below = has.below; number_below = has.number_below }
slot_still OfRoot old new still has = tt

pub still_slot : (slot : slots.Slot) (old new : Stock) → StillHas old new → HasSlot (slot_by slot) old → HasSlot (slot_by slot) new
still_slot slot old new still has = slot_still (slot_by slot) old new still has

-- an entry that is kept in a metadata page
pub entry_has : (slot : slots.Slot) (metadata number : ℕ) (stock : Stock) → slot ≡ slot_variants.OfEntry metadata number → HasSlot (slot_by slot) stock → HasEntry metadata number stock
entry_has slot metadata number stock is has = subst (λ (s : slots.Slot). HasSlot (slot_by s) stock) is has

-- an actor holds the locks that it held
pub still_holds : (actor : ℕ) (locks : List PageLock) (old new : Stock) → holders_of new.bays ≡ holders_of old.bays → HoldsLocks actor locks old → HoldsLocks actor locks new
still_holds actor locks old new same holds = record {
  has = λ frame covered. (λ i. same i frame) ∙ holds.has frame covered;
  only = λ frame held. holds.only frame ((λ i. sym same i frame) ∙ held);
}

covers_source : (source target : ℕ) (slot : Slot) → list_any (covers source) (sealing_locks source target slot) ≡ true
covers_source source target (OfEntry metadata number) = grind (arith, nat_tests)
covers_source source target OfRoot = grind (arith, nat_tests)

covers_target : (source target : ℕ) (slot : Slot) → list_any (covers target) (sealing_locks source target slot) ≡ true
covers_target source target (OfEntry metadata number) = grind (arith, nat_tests)
covers_target source target OfRoot = grind (arith, nat_tests)

-- its source and its target are locked
pub source_locked : (actor source target : ℕ) (slot : Slot) (stock : Stock) → HoldsLocks actor (sealing_locks source target slot) stock → IsSome (holders_of stock.bays source)
source_locked actor source target slot stock holds = ap is_some (holds.has source (covers_source source target slot))

pub target_locked : (actor source target : ℕ) (slot : Slot) (stock : Stock) → HoldsLocks actor (sealing_locks source target slot) stock → IsSome (holders_of stock.bays target)
target_locked actor source target slot stock holds = ap is_some (holds.has target (covers_target source target slot))

own_region : (own frame : ℕ) → covers frame (page_lock Small own) ≡ true → frame / 512 ≡ own / 512
own_region own frame covered = let same : frame ≡ own = grind (arith, nat_tests) in ap (λ (n : ℕ). n / 512) same

in_regions : (source target : ℕ) (slot : Slot) → AreInOneRegion (sealing_locks source target slot)
in_regions source target (OfEntry metadata number) = (own_region source, (own_region target, (own_region metadata, tt)))
in_regions source target OfRoot = (own_region source, (own_region target, tt))

-- all are released, with an entry in a metadata page
pub three_released : (actor source target metadata number : ℕ) (slot : slots.Slot) (stock : Stock) → slot ≡ slot_variants.OfEntry metadata number → HoldsLocks actor (sealing_locks source target (slot_by slot)) stock
    → released_in (metadata / 512) actor (released_in (target / 512) actor (released_in (source / 512) actor (holders_of stock.bays))) ≡ relocked actor [] (holders_of stock.bays)
unfolding let_go_in
three_released actor source target metadata number slot stock is holds =
    all_let_go actor (sealing_locks source target (OfEntry metadata number)) (holders_of stock.bays) (in_regions source target (OfEntry metadata number))
    (λ f held. subst (λ (s : slots.Slot). list_any (covers f) (sealing_locks source target (slot_by s)) ≡ true) is (holds.only f held))

-- and with the root
pub both_released : (actor source target : ℕ) (slot : slots.Slot) (stock : Stock) → slot ≡ slot_variants.OfRoot → HoldsLocks actor (sealing_locks source target (slot_by slot)) stock
    → released_in (target / 512) actor (released_in (source / 512) actor (holders_of stock.bays)) ≡ relocked actor [] (holders_of stock.bays)
unfolding let_go_in
both_released actor source target slot stock is holds =
    all_let_go actor (sealing_locks source target OfRoot) (holders_of stock.bays) (in_regions source target OfRoot)
    (λ f held. subst (λ (s : slots.Slot). list_any (covers f) (sealing_locks source target (slot_by s)) ≡ true) is (holds.only f held))
