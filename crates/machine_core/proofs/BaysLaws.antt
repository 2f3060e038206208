-- What a written bay leaves of the flat memory.
use Rattle.std.proofs.Common.{◌≡◌, ◌≢◌, ℕ, ◌+◌, ◌-◌, ◌/◌, ◌%◌, ◌<◌, ◌≤◌, Bool, true, false, cond, List, [], length, get_or, set, Option, None, Some, refl, sym, ap, ◌∙◌, subst, ⊎_elim, arith}
use Rattle.std.proofs.lemmas.Bool.{cases_eq, cases_lt}
use Rattle.std.proofs.lemmas.Bool.Decides.{nat_tests}
use Rattle.std.proofs.lemmas.List.{get_or-set_same, get_or-set_other, set_past, get_or_past}
use Rattle.snp_model.specs.declared.access.Place.{Place}
use Rattle.snp_model.specs.declared.access.Verdict.{Verdict}
use Rattle.snp_model.specs.declared.access.Verdict.TheVariants.{Pass, Hidden, Fault}
use Rattle.snp_model.specs.declared.entry.RmpEntry.{RmpEntry}
use Rattle.snp_model.specs.declared.entry.PageSize.{PageSize}
use Rattle.snp_model.specs.declared.entry.PageSize.TheVariants.{Small, Large}
use Rattle.snp_model.specs.declared.event.Deed.{Deed}
use Rattle.snp_model.specs.declared.event.Outcome.{Outcome}
use Rattle.snp_model.specs.declared.event.Outcome.TheVariants as outcomes
use Rattle.snp_model.specs.declared.item.Op.{Op}
use Rattle.snp_model.specs.declared.item.Op.TheVariants.{Load}
use Rattle.snp_model.specs.declared.scenario.GuestSpec.{GuestSpec}
use Rattle.snp_model.specs.Accesses.{answer_by, memory_by}
use Rattle.snp_model.specs.Entries.{HasOneHolder, IsRegionEntry, facts_at, facts_within, holder_at, with_entry}
use Rattle.snp_model.specs.Facts.{frames_in}
use Rattle.snp_model.specs.Locks.{in_range, over}
use Rattle.snp_model.specs.Operations.{writes, outcome_of, word_after}
use Rattle.snp_model.specs.Opening.{with_word_spec}
use Rattle.snp_model.specs.RegionWords.{page_at, word_at, word_set}
use Rattle.snp_model.specs.State.{Page, ActorPart, with_word, word_of}
use Rattle.snp_model.specs.Moves.{memory_move, quiet_move, table_word}
use Rattle.snp_model.specs.Step.{access_move}
use Rattle.snp_model.specs.Verdicts.{private_verdict}
use Rattle.run_laws.proofs.LockLaws.{not_true}
use Rattle.run_laws.proofs.RangeLaws.{over_beside}
use Rattle.run_laws.proofs.LockLaws.{not_true}
use Rattle.run_laws.proofs.RangeLaws.{over_beside}
use Rattle.machine_core.specs.declared.bay.Bay.{Bay}
use Rattle.machine_core.specs.Bays.{Bays, IsWholeRegion, Stock, contents_of, context_holders_of, facts_of, holder_in, holders_of, locks_of, page_in, pages_of, put, stock_with, view_on, words_of}
use Rattle.machine_core.specs.Moves.{move_by, table_load}

pub put_at : (bays : Bays) (region : ℕ) (bay : Bay) (r : ℕ) → r ≡ region → put region bay bays r ≡ Some bay
put_at bays region bay r same = grind (arith, nat_tests)

pub put_off : (bays : Bays) (region : ℕ) (bay : Bay) (r : ℕ) → r ≢ region → put region bay bays r ≡ bays r
put_off bays region bay r other = grind (arith, nat_tests)

-- the bay that is there, put again
put_there : (bays : Bays) (region : ℕ) (bay : Bay) → bays region ≡ Some bay → (r : ℕ) → put region bay bays r ≡ bays r
put_there bays region bay there r =
    ⊎_elim
    (λ (same : r ≡ region). put_at bays region bay r same ∙ sym there ∙ ap bays (sym same))
    (λ (other : r ≢ region). put_off bays region bay r other)
    (cases_eq r region)

put_same : (bays : Bays) (region : ℕ) (bay : Bay) → bays region ≡ Some bay → put region bay bays ≡ bays
put_same bays region bay there = λ i r. put_there bays region bay there r i

-- the page of a frame whose bay is there
pub page_there : (bays : Bays) (frame : ℕ) (bay : Bay) → bays (frame / 512) ≡ Some bay → pages_of bays frame ≡ page_in (Some bay) (frame % 512)
unfolding pages_of
page_there bays frame bay there = ap (λ (o : Option Bay). page_in o (frame % 512)) there

-- the page of a frame of a written bay
page_put : (bays : Bays) (frame : ℕ) (bay : Bay) → pages_of (put (frame / 512) bay bays) frame ≡ page_in (Some bay) (frame % 512)
unfolding pages_of
page_put bays frame bay = ap (λ (o : Option Bay). page_in o (frame % 512)) (put_at bays (frame / 512) bay (frame / 512) refl)

-- a bay that is written without its locks leaves all locks
holder_each : (bays : Bays) (region : ℕ) (old new : Bay) → bays region ≡ Some old → new.rmp.holders ≡ old.rmp.holders → (f : ℕ) → holders_of (put region new bays) f ≡ holders_of bays f
unfolding holders_of
holder_each bays region old new there same f =
    ⊎_elim
    (λ (here : f / 512 ≡ region).
    ap (λ (o : Option Bay). holder_in o (f % 512)) (put_at bays region new (f / 512) here)
    ∙ ap (λ (holders : List (Option ℕ)). get_or holders (f % 512) None) same
    ∙ ap (λ (o : Option Bay). holder_in o (f % 512)) (sym there ∙ ap bays (sym here)))
    (λ (apart : f / 512 ≢ region). ap (λ (o : Option Bay). holder_in o (f % 512)) (put_off bays region new (f / 512) apart))
    (cases_eq (f / 512) region)

pub locks_stay : (stock new_stock : Stock) (region : ℕ) (old new : Bay) → stock.bays region ≡ Some old → new.rmp.holders ≡ old.rmp.holders → new_stock ≡ stock_with region new stock → locks_of new_stock ≡ locks_of stock
locks_stay stock new_stock region old new there same is =
    ap locks_of is ∙ (λ i. record { holder = λ f. holder_each stock.bays region old new there same f i; context_holder = context_holders_of stock.contexts })

-- a bay in which the page of one frame alone may have changed
abbrev OtherSlotsStay : Bay → Bay → ℕ → Type 0
OtherSlotsStay old new slot = (s : ℕ) → s ≢ slot → page_in (Some new) s ≡ page_in (Some old) s

off_slot : (frame f : ℕ) → f ≢ frame → f / 512 ≡ frame / 512 → f % 512 ≢ frame % 512
off_slot frame f other same slot = other (omega arith)

page_off : (bays : Bays) (frame : ℕ) (old new : Bay) → bays (frame / 512) ≡ Some old → OtherSlotsStay old new (frame % 512) → (f : ℕ) → f ≢ frame → pages_of (put (frame / 512) new bays) f ≡ pages_of bays f
unfolding pages_of
page_off bays frame old new there stay f other =
    ⊎_elim
    (λ (same : f / 512 ≡ frame / 512).
    ap (λ (o : Option Bay). page_in o (f % 512)) (put_at bays (frame / 512) new (f / 512) same)
    ∙ stay (f % 512) (off_slot frame f other same)
    ∙ ap (λ (o : Option Bay). page_in o (f % 512)) (sym there ∙ ap bays (sym same)))
    (λ (apart : f / 512 ≢ frame / 512). ap (λ (o : Option Bay). page_in o (f % 512)) (put_off bays (frame / 512) new (f / 512) apart))
    (cases_eq (f / 512) (frame / 512))

-- a word that is set is there, also past the end, where there is none
word_set_there : (pages : List (List ℕ)) (slot index value : ℕ) → page_at (word_set pages slot index value) slot ≡ set (page_at pages slot) index value
word_set_there pages slot index value =
    ⊎_elim
    (λ (within : slot < length pages). get_or-set_same pages slot (set (page_at pages slot) index value) [] within)
    (λ (past : length pages ≤ slot).
    let none : page_at pages slot ≡ [] = get_or_past pages slot [] past in
    ap (λ (ps : List (List ℕ)). page_at ps slot) (set_past pages slot (set (page_at pages slot) index value) past) ∙ none ∙ ap (λ (ws : List ℕ). set ws index value) (sym none))
    (cases_lt slot (length pages))

abbrev with_memory : Bay → List (List ℕ) → Bay
with_memory bay memory = record { memory = memory; rmp = bay.rmp }

memory_stays : (bay : Bay) (slot index value : ℕ) → OtherSlotsStay bay (with_memory bay (word_set bay.memory slot index value)) slot
memory_stays bay slot index value s other =
    λ i. record { facts = facts_at bay.rmp s; words = get_or-set_other bay.memory slot s (set (page_at bay.memory slot) index value) [] other i }

with_word_at : (bays : Bays) (frame index value f : ℕ) → f ≡ frame → with_word frame index value (pages_of bays) f ≡ record { facts = (pages_of bays f).facts; words = set (pages_of bays f).words index value }
with_word_at bays frame index value f same = grind (arith, nat_tests)

with_word_off : (bays : Bays) (frame index value f : ℕ) → f ≢ frame → with_word frame index value (pages_of bays) f ≡ pages_of bays f
with_word_off bays frame index value f other = grind (arith, nat_tests)

words_at : (bays : Bays) (frame index value : ℕ) (bay : Bay) → bays (frame / 512) ≡ Some bay → pages_of (put (frame / 512) (with_memory bay (word_set bay.memory (frame % 512) index value)) bays) frame ≡ with_word frame index value (pages_of bays) frame
words_at bays frame index value bay there =
    page_put bays frame (with_memory bay (word_set bay.memory (frame % 512) index value))
    ∙ (λ i. record { facts = facts_at bay.rmp (frame % 512); words = word_set_there bay.memory (frame % 512) index value i })
    ∙ ap (λ (p : Page). let page : Page = record { facts = p.facts; words = set p.words index value } in page) (sym (page_there bays frame bay there))
    ∙ sym (with_word_at bays frame index value frame refl)

words_each : (bays : Bays) (frame index value : ℕ) (bay : Bay) → bays (frame / 512) ≡ Some bay → (f : ℕ) → pages_of (put (frame / 512) (with_memory bay (word_set bay.memory (frame % 512) index value)) bays) f ≡ with_word frame index value (pages_of bays) f
words_each bays frame index value bay there f =
    ⊎_elim
    (λ (same : f ≡ frame). subst (λ (n : ℕ). pages_of (put (frame / 512) (with_memory bay (word_set bay.memory (frame % 512) index value)) bays) n ≡ with_word frame index value (pages_of bays) n) (sym same) (words_at bays frame index value bay there))
    (λ (other : f ≢ frame). page_off bays frame bay (with_memory bay (word_set bay.memory (frame % 512) index value)) there (memory_stays bay (frame % 512) index value) f other ∙ sym (with_word_off bays frame index value f other))
    (cases_eq f frame)

-- a written word
pub words_view : (bays : Bays) (frame index value : ℕ) (bay : Bay) → bays (frame / 512) ≡ Some bay → pages_of (put (frame / 512) (with_memory bay (word_set bay.memory (frame % 512) index value)) bays) ≡ with_word frame index value (pages_of bays)
words_view bays frame index value bay there = λ i f. words_each bays frame index value bay there f i

-- the same, by words and entries
word_spec_each : (bays : Bays) (frame index value f : ℕ) → (with_word frame index value (pages_of bays) f).words ≡ with_word_spec (record { frame = frame; index = index; value = value }) (words_of bays) f
unfolding words_of
word_spec_each bays frame index value f = grind (arith, nat_tests)

word_facts_each : (bays : Bays) (frame index value f : ℕ) → (with_word frame index value (pages_of bays) f).facts ≡ facts_of bays f
unfolding facts_of
word_facts_each bays frame index value f = grind (arith, nat_tests)

-- a bay with another memory was put
pub record IsStored (stock new_stock : Stock) (frame index value : ℕ) (bay : Bay) (memory : List (List ℕ)) : Type 0 where
  pub there : stock.bays (frame / 512) ≡ Some bay
  pub memory_is : memory ≡ word_set bay.memory (frame % 512) index value
  pub stock_is : new_stock ≡ stock_with (frame / 512) (with_memory bay memory) stock

stored_pages : (stock new_stock : Stock) (frame index value : ℕ) (bay : Bay) (memory : List (List ℕ)) → IsStored stock new_stock frame index value bay memory → pages_of new_stock.bays ≡ with_word frame index value (pages_of stock.bays)
stored_pages stock new_stock frame index value bay memory stored =
    ap (λ (s : Stock). pages_of s.bays) stored.stock_is
    ∙ ap (λ (m : List (List ℕ)). pages_of (put (frame / 512) (with_memory bay m) stock.bays)) stored.memory_is
    ∙ words_view stock.bays frame index value bay stored.there

pub stored_words : (stock new_stock : Stock) (frame index value : ℕ) (bay : Bay) (memory : List (List ℕ)) → IsStored stock new_stock frame index value bay memory → words_of new_stock.bays ≡ with_word_spec (record { frame = frame; index = index; value = value }) (words_of stock.bays)
unfolding words_of
stored_words stock new_stock frame index value bay memory stored =
    (λ i f. (stored_pages stock new_stock frame index value bay memory stored i f).words) ∙ (λ i f. word_spec_each stock.bays frame index value f i)

pub stored_facts : (stock new_stock : Stock) (frame index value : ℕ) (bay : Bay) (memory : List (List ℕ)) → IsStored stock new_stock frame index value bay memory → facts_of new_stock.bays ≡ facts_of stock.bays
unfolding facts_of
stored_facts stock new_stock frame index value bay memory stored =
    (λ i f. (stored_pages stock new_stock frame index value bay memory stored i f).facts) ∙ (λ i f. word_facts_each stock.bays frame index value f i)

pub stored_locks : (stock new_stock : Stock) (frame index value : ℕ) (bay : Bay) (memory : List (List ℕ)) → IsStored stock new_stock frame index value bay memory → locks_of new_stock ≡ locks_of stock
stored_locks stock new_stock frame index value bay memory stored = locks_stay stock new_stock (frame / 512) bay (with_memory bay memory) stored.there refl stored.stock_is

-- the facts of a frame are its entry's
pub facts_there : (bays : Bays) (frame : ℕ) (bay : Bay) → bays (frame / 512) ≡ Some bay → facts_of bays frame ≡ facts_at bay.rmp (frame % 512)
unfolding facts_of
facts_there bays frame bay there = ap (λ (p : Page). p.facts) (page_there bays frame bay there)

-- the page of a frame of a region whose bay is there, or was written, and of a frame beside the region
page_of_there : (bays : Bays) (region : ℕ) (bay : Bay) (f : ℕ) → bays region ≡ Some bay → f / 512 ≡ region → pages_of bays f ≡ page_in (Some bay) (f % 512)
unfolding pages_of
page_of_there bays region bay f there here = ap (λ (o : Option Bay). page_in o (f % 512)) (ap bays here ∙ there)

page_of_put : (bays : Bays) (region : ℕ) (bay : Bay) (f : ℕ) → f / 512 ≡ region → pages_of (put region bay bays) f ≡ page_in (Some bay) (f % 512)
unfolding pages_of
page_of_put bays region bay f here = ap (λ (o : Option Bay). page_in o (f % 512)) (put_at bays region bay (f / 512) here)

page_beside : (bays : Bays) (region : ℕ) (bay : Bay) (f : ℕ) → f / 512 ≢ region → pages_of (put region bay bays) f ≡ pages_of bays f
unfolding pages_of
page_beside bays region bay f apart = ap (λ (o : Option Bay). page_in o (f % 512)) (put_off bays region bay (f / 512) apart)

-- the holder of a frame of a region whose bay is there
holder_there : (bays : Bays) (region : ℕ) (bay : Bay) (f : ℕ) → bays region ≡ Some bay → f / 512 ≡ region → holders_of bays f ≡ holder_at bay.rmp (f % 512)
unfolding holders_of
holder_there bays region bay f there here = ap (λ (o : Option Bay). holder_in o (f % 512)) (ap bays here ∙ there)

-- where the frames of a region have one holder, so do the slots of its bay
one_holder_there : (stock : Stock) (frame : ℕ) (bay : Bay) → stock.bays (frame / 512) ≡ Some bay → frame % 512 ≡ 0
    → ((f : ℕ) → f / 512 ≡ frame / 512 → holders_of stock.bays f ≡ holders_of stock.bays frame) → HasOneHolder bay.rmp
one_holder_there stock frame bay there first one slot below =
    let here : (frame + slot) / 512 ≡ frame / 512 = omega arith in
    let at : (frame + slot) % 512 ≡ slot = omega arith in
    ap (holder_at bay.rmp) (sym at)
    ∙ sym (holder_there stock.bays (frame / 512) bay (frame + slot) there here)
    ∙ one (frame + slot) here
    ∙ holder_there stock.bays (frame / 512) bay frame there refl
    ∙ ap (holder_at bay.rmp) first

-- so the entry of a page of 2 MB may be written there
pub region_entry : (stock : Stock) (frame : ℕ) (bay : Bay) (entry : RmpEntry) → stock.bays (frame / 512) ≡ Some bay → IsWholeRegion stock frame entry → IsRegionEntry bay.rmp (frame % 512) entry
region_entry stock frame bay entry there whole = record {
  assigned = whole.assigned;
  first = whole.first;
  aligned = whole.aligned;
  one_holder = one_holder_there stock frame bay there whole.first whole.one_holder;
}

-- a range of slots that is changed is one of frames
pub same_range : (frame count f : ℕ) → f / 512 ≡ frame / 512 → in_range (frame % 512) count (f % 512) ≡ in_range frame count f
same_range frame count f here = grind (arith, nat_tests)

over_slots : {X : Type 0} (kept kept' : ℕ → X) (frame count f : ℕ) (change : ℕ → X → X) → f / 512 ≡ frame / 512 → kept (f % 512) ≡ kept' f
    → over (frame % 512) count change kept (f % 512) ≡ over frame count change kept' f
over_slots kept kept' frame count f change here same =
    let tests = same_range frame count f here in
    let place : f % 512 - frame % 512 ≡ f - frame = omega arith in
    λ i. cond (tests i) (change (place i) (same i)) (same i)

-- a page that begins at a frame has no frame of another region
page_within : (size : PageSize) (frame : ℕ) → (size ≡ Large → frame % 512 ≡ 0) → frame % 512 + frames_in size ≤ 512
page_within Small frame first = omega arith
page_within Large frame first = omega (arith, first refl)

pub range_beside : (frame count f : ℕ) → frame % 512 + count ≤ 512 → f / 512 ≢ frame / 512 → in_range frame count f ≡ false
range_beside frame count f within apart =
    not_true (in_range frame count f) (λ inside.
    let low : frame ≤ f = grind (arith, nat_tests) in
    let high : f < frame + count = grind (arith, nat_tests) in
    apart (omega arith))

-- a bay with another entry of a page, which begins at a frame, was put
pub record IsWritten (stock new_stock : Stock) (frame : ℕ) (entry : RmpEntry) (bay new : Bay) : Type 0 where
  pub there : stock.bays (frame / 512) ≡ Some bay
  pub first : entry.size ≡ Large → frame % 512 ≡ 0
  pub memory_is : new.memory ≡ bay.memory
  pub facts_are : facts_at new.rmp ≡ with_entry (frame % 512) entry (facts_at bay.rmp)
  pub locks_are : new.rmp.holders ≡ bay.rmp.holders
  pub stock_is : new_stock ≡ stock_with (frame / 512) new stock

written_fact : (stock new_stock : Stock) (frame : ℕ) (entry : RmpEntry) (bay new : Bay) → IsWritten stock new_stock frame entry bay new → (f : ℕ) → facts_of new_stock.bays f ≡ with_entry frame entry (facts_of stock.bays) f
unfolding facts_of
written_fact stock new_stock frame entry bay new written f =
    let before = λ (n : ℕ). (pages_of stock.bays n).facts in
    let count = frames_in entry.size in
    ap (λ (s : Stock). (pages_of s.bays f).facts) written.stock_is
    ∙ ⊎_elim
    (λ (here : f / 512 ≡ frame / 512).
    ap (λ (p : Page). p.facts) (page_of_put stock.bays (frame / 512) new f here)
    ∙ (λ i. written.facts_are i (f % 512))
    ∙ over_slots (facts_at bay.rmp) before frame count f (λ place old. facts_within entry place) here (ap (λ (p : Page). p.facts) (sym (page_of_there stock.bays (frame / 512) bay f written.there here))))
    (λ (apart : f / 512 ≢ frame / 512).
    ap (λ (p : Page). p.facts) (page_beside stock.bays (frame / 512) new f apart)
    ∙ over_beside frame count (λ place old. facts_within entry place) before f (range_beside frame count f (page_within entry.size frame written.first) apart))
    (cases_eq (f / 512) (frame / 512))

written_word : (stock new_stock : Stock) (frame : ℕ) (entry : RmpEntry) (bay new : Bay) → IsWritten stock new_stock frame entry bay new → (f : ℕ) → words_of new_stock.bays f ≡ words_of stock.bays f
unfolding words_of
written_word stock new_stock frame entry bay new written f =
    ap (λ (s : Stock). (pages_of s.bays f).words) written.stock_is
    ∙ ⊎_elim
    (λ (here : f / 512 ≡ frame / 512).
    ap (λ (p : Page). p.words) (page_of_put stock.bays (frame / 512) new f here)
    ∙ ap (λ (memory : List (List ℕ)). page_at memory (f % 512)) written.memory_is
    ∙ ap (λ (p : Page). p.words) (sym (page_of_there stock.bays (frame / 512) bay f written.there here)))
    (λ (apart : f / 512 ≢ frame / 512). ap (λ (p : Page). p.words) (page_beside stock.bays (frame / 512) new f apart))
    (cases_eq (f / 512) (frame / 512))

pub written_facts : (stock new_stock : Stock) (frame : ℕ) (entry : RmpEntry) (bay new : Bay) → IsWritten stock new_stock frame entry bay new → facts_of new_stock.bays ≡ with_entry frame entry (facts_of stock.bays)
written_facts stock new_stock frame entry bay new written = λ i f. written_fact stock new_stock frame entry bay new written f i

pub written_words : (stock new_stock : Stock) (frame : ℕ) (entry : RmpEntry) (bay new : Bay) → IsWritten stock new_stock frame entry bay new → words_of new_stock.bays ≡ words_of stock.bays
written_words stock new_stock frame entry bay new written = λ i f. written_word stock new_stock frame entry bay new written f i

pub written_locks : (stock new_stock : Stock) (frame : ℕ) (entry : RmpEntry) (bay new : Bay) → IsWritten stock new_stock frame entry bay new → locks_of new_stock ≡ locks_of stock
written_locks stock new_stock frame entry bay new written = locks_stay stock new_stock (frame / 512) bay new written.there written.locks_are written.stock_is

-- a word of a guest table
pub table_load_there : (bays : Bays) (frame : ℕ) (at : Place) (bay : Bay) → bays (frame / 512) ≡ Some bay
    → let page = page_in (Some bay) (frame % 512) in
    table_load (private_verdict page.facts at Load) (word_of page at.index) ≡ table_load (private_verdict (pages_of bays frame).facts at Load) (word_of (pages_of bays frame) at.index)
table_load_there bays frame at bay there = ap (λ (p : Page). table_load (private_verdict p.facts at Load) (word_of p at.index)) (sym (page_there bays frame bay there))

-- what the nested walker sees of a frame whose bay is there
pub table_word_there : (bays : Bays) (frame index : ℕ) (bay : Bay) → bays (frame / 512) ≡ Some bay → table_word (page_in (Some bay) (frame % 512)) index ≡ table_word (pages_of bays frame) index
table_word_there bays frame index bay there = ap (λ (p : Page). table_word p index) (sym (page_there bays frame bay there))

-- memory after an operation whose access passes
after_view : (writing : Bool) (bays : Bays) (frame index value : ℕ) (bay : Bay) → bays (frame / 512) ≡ Some bay
    → cond writing (with_word frame index value (pages_of bays)) (pages_of bays) ≡ pages_of (put (frame / 512) (with_memory bay (cond writing (word_set bay.memory (frame % 512) index value) bay.memory)) bays)
after_view true bays frame index value bay there = sym (words_view bays frame index value bay there)
after_view false bays frame index value bay there = ap pages_of (sym (put_same bays (frame / 512) bay there))

-- the move of an access with a verdict, over the bay of its frame
access_view : (stock : Stock) (guests : List GuestSpec) (part : ActorPart) (deed : Deed) (frame index : ℕ) (bay : Bay) (op : Op) (verdict : Verdict) → stock.bays (frame / 512) ≡ Some bay
    → access_move (contents_of stock guests) part deed verdict op frame index
    ≡ move_by (record { deed = deed; outcome = Some (answer_by verdict op (word_at bay.memory (frame % 512) index)); lock = None }) (view_on (stock_with (frame / 512) (with_memory bay (memory_by verdict op bay.memory (frame % 512) index)) stock) guests) part.standing
unfolding access_move
access_view stock guests part deed frame index bay op Pass there =
    let word_is : word_of (pages_of stock.bays frame) index ≡ word_at bay.memory (frame % 512) index = ap (λ (p : Page). word_of p index) (page_there stock.bays frame bay there) in
    let pages = λ (word : ℕ). cond (writes op) (with_word frame index (word_after op word) (pages_of stock.bays)) (pages_of stock.bays) in
    ap (λ (word : ℕ). memory_move (contents_of stock guests) part deed (Some (outcome_of op word)) (pages word)) word_is
    ∙ ap (memory_move (contents_of stock guests) part deed (Some (outcome_of op (word_at bay.memory (frame % 512) index)))) (after_view (writes op) stock.bays frame index (word_after op (word_at bay.memory (frame % 512) index)) bay there)
access_view stock guests part deed frame index bay op Hidden there =
    ap (λ (bs : Bays). quiet_move (contents_of (record stock { bays = bs }) guests) part deed (Some outcomes.Opaque)) (sym (put_same stock.bays (frame / 512) bay there))
access_view stock guests part deed frame index bay op (Fault outcome) there =
    ap (λ (bs : Bays). quiet_move (contents_of (record stock { bays = bs }) guests) part deed (Some outcome)) (sym (put_same stock.bays (frame / 512) bay there))

-- a checked access to a word of the bay of a frame was made, and the bay was put back
pub record IsAccessed (stock new_stock : Stock) (frame slot index : ℕ) (bay : Bay) (memory : List (List ℕ)) (op : Op) (verdict : RmpEntry → Verdict) (outcome : Outcome) : Type 0 where
  pub there : stock.bays (frame / 512) ≡ Some bay
  pub slot_is : slot ≡ frame % 512
  pub outcome_is : outcome ≡ answer_by (verdict (facts_at bay.rmp slot)) op (word_at bay.memory slot index)
  pub memory_is : memory ≡ memory_by (verdict (facts_at bay.rmp slot)) op bay.memory slot index
  pub stock_is : new_stock ≡ stock_with (frame / 512) (with_memory bay memory) stock

pub accessed : (stock new_stock : Stock) (frame slot index : ℕ) (bay : Bay) (memory : List (List ℕ)) (op : Op) (verdict : RmpEntry → Verdict) (outcome : Outcome) → IsAccessed stock new_stock frame slot index bay memory op verdict outcome
    → (guests : List GuestSpec) (part : ActorPart) (deed : Deed)
    → access_move (contents_of stock guests) part deed (verdict (pages_of stock.bays frame).facts) op frame index ≡ move_by (record { deed = deed; outcome = Some outcome; lock = None }) (view_on new_stock guests) part.standing
accessed stock new_stock frame slot index bay memory op verdict outcome made guests part deed =
    let outcome_at = λ (s : ℕ). answer_by (verdict (facts_at bay.rmp s)) op (word_at bay.memory s index) in
    let memory_at = λ (s : ℕ). memory_by (verdict (facts_at bay.rmp s)) op bay.memory s index in
    let leaves = λ (o : Outcome) (m : List (List ℕ)). move_by (record { deed = deed; outcome = Some o; lock = None }) (view_on (stock_with (frame / 512) (with_memory bay m) stock) guests) part.standing in
    ap (λ (p : Page). access_move (contents_of stock guests) part deed (verdict p.facts) op frame index) (page_there stock.bays frame bay made.there)
    ∙ access_view stock guests part deed frame index bay op (verdict (facts_at bay.rmp (frame % 512))) made.there
    ∙ ap (λ (s : ℕ). leaves (outcome_at s) (memory_at s)) (sym made.slot_is)
    ∙ ap (λ (o : Outcome). leaves o (memory_at slot)) (sym made.outcome_is)
    ∙ ap (leaves outcome) (sym made.memory_is)
    ∙ ap (λ (s : Stock). move_by (record { deed = deed; outcome = Some outcome; lock = None }) (view_on s guests) part.standing) (sym made.stock_is)

pub accessed_locks : (stock new_stock : Stock) (frame slot index : ℕ) (bay : Bay) (memory : List (List ℕ)) (op : Op) (verdict : RmpEntry → Verdict) (outcome : Outcome) → IsAccessed stock new_stock frame slot index bay memory op verdict outcome → locks_of new_stock ≡ locks_of stock
accessed_locks stock new_stock frame slot index bay memory op verdict outcome made = locks_stay stock new_stock (frame / 512) bay (with_memory bay memory) made.there refl made.stock_is
