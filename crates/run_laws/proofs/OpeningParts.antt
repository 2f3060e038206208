-- At the opening of a valid scenario nothing is locked and nothing is in hand, and each frame has its shape.
use Rattle.std.proofs.Common.{◌≡◌, ℕ, zero, suc, ◌-◌, ◌^◌, ◌<◌, true, false, Bool, eqb, replicate, List, [], ◌∷◌, length, map, get_or, set, slice_get, Some, refl, sym, ap, ◌∙◌, subst, arith}
use Rattle.std.specs.List.{AllByRecursion}
use Rattle.std.proofs.lemmas.Bool.{cond_both, true≢false}
use Rattle.std.proofs.lemmas.Bool.Decides.{nat_tests}
use Rattle.snp_model.specs.declared.entry.Kind.TheVariants as kinds
use Rattle.snp_model.specs.declared.entry.PageSize.{PageSize}
use Rattle.snp_model.specs.declared.entry.PageSize.TheVariants.{Small, Large}
use Rattle.snp_model.specs.declared.entry.RmpEntry.{RmpEntry}
use Rattle.snp_model.specs.declared.event.Deed.{Deed}
use Rattle.snp_model.specs.declared.item.Item.{Item}
use Rattle.snp_model.specs.declared.item.Item.TheVariants as items
use Rattle.snp_model.specs.declared.scenario.Actor.{Actor}
use Rattle.snp_model.specs.declared.scenario.GuestSpec.{GuestSpec}
use Rattle.snp_model.specs.declared.scenario.PageSpec.{PageSpec}
use Rattle.snp_model.specs.declared.scenario.Role.{Role}
use Rattle.snp_model.specs.declared.scenario.Role.TheVariants.{Cpu, Host, Firmware}
use Rattle.snp_model.specs.declared.scenario.Scenario.{Scenario}
use Rattle.snp_model.specs.declared.scenario.WordSpec.{WordSpec}
use Rattle.snp_model.specs.Facts.{free_entry, frames_in}
use Rattle.snp_model.specs.Locks.{in_range, locks_frame, locks_context}
use Rattle.snp_model.specs.Metadata.{AreBytes}
use Rattle.snp_model.specs.Opening.{page_facts, with_page, facts_from, with_word_spec, words_from, opening_context, opening_part, opening}
use Rattle.snp_model.specs.Past.{Past}
use Rattle.snp_model.specs.ScenarioLines.{frames_of}
use Rattle.snp_model.specs.Sound.{IsGuest, IsPage, IsWord, IsSound}
use Rattle.snp_model.specs.State.{Contents, Computed, ActorPart, State, Standing, nothing_taken, idle_part, part_of, zero_words}
use Rattle.snp_model.specs.Step.{line_at}
use Rattle.run_laws.specs.HeldLocks.{AreItemLocks, AreTested, HasThroughout, AreLocked}
use Rattle.run_laws.specs.MadePages.{AreMade}
use Rattle.run_laws.specs.Shapes.{IsNobodys, AreInRange, AreFactsOf, AreShaped, HasAsid}
use Rattle.run_laws.proofs.OpeningLaws.{page_or_before, opening_whole, opening_asid}
use Rattle.run_laws.proofs.LargePages.{whole_page}
use Rattle.run_laws.proofs.OpeningPages.{opening_large}

-- an actor has taken nothing
parts_idle : (actors : List Actor) (k : ℕ) → (get_or (map opening_part actors) k idle_part).standing ≡ nothing_taken
unfolding idle_part
parts_idle [] k = refl
parts_idle (actor ∷ actors) zero = refl
parts_idle (actor ∷ actors) (suc k) = parts_idle actors k

pub part_idle : (c : Scenario) (actor : ℕ) → (part_of (opening c) actor).standing ≡ nothing_taken
unfolding opening
part_idle c actor = parts_idle c.actors (actor - 1)

frame_unlocked : (frame : ℕ) (part : ActorPart) → part.standing ≡ nothing_taken → locks_frame frame part ≡ true → ⊥
frame_unlocked frame part idle locked = true≢false (sym locked ∙ ap (λ (standing : Standing). locks_frame frame (record idle_part { standing = standing })) idle)

context_unlocked : (guest : ℕ) (part : ActorPart) → part.standing ≡ nothing_taken → locks_context guest part ≡ true → ⊥
context_unlocked guest part idle locked = true≢false (sym locked ∙ ap (λ (standing : Standing). locks_context guest (record idle_part { standing = standing })) idle)

nothing_locked : (frames : ℕ) (guests : List GuestSpec) (contents : Contents) (role : Role) (item : Item) (made : List Deed) → AreItemLocks frames guests contents role item made nothing_taken
unfolding AreItemLocks
nothing_locked frames guests contents (Cpu guest vmpl npt paging) (items.Access address op) made = refl
nothing_locked frames guests contents (Cpu guest vmpl npt paging) (items.Pvalidate address size validate) made = record { lock = tt; context = refl; computed = refl }
nothing_locked frames guests contents (Cpu guest vmpl npt paging) (items.Rmpadjust address size target mask vmsa) made = record { lock = tt; context = refl; computed = refl }
nothing_locked frames guests contents (Cpu guest vmpl npt paging) (items.Rmpupdate update) made = refl
nothing_locked frames guests contents (Cpu guest vmpl npt paging) (items.Psmash frame) made = refl
nothing_locked frames guests contents (Cpu guest vmpl npt paging) (items.Firmware command) made = refl
nothing_locked frames guests contents (Cpu guest vmpl npt paging) (items.Skip count test) made = refl
nothing_locked frames guests contents Host (items.Access address op) made = refl
nothing_locked frames guests contents Host (items.Pvalidate address size validate) made = refl
nothing_locked frames guests contents Host (items.Rmpadjust address size target mask vmsa) made = refl
nothing_locked frames guests contents Host (items.Rmpupdate update) made = record { lock = tt; context = refl; computed = refl }
nothing_locked frames guests contents Host (items.Psmash frame) made = record { lock = tt; context = refl; computed = refl }
nothing_locked frames guests contents Host (items.Firmware command) made = refl
nothing_locked frames guests contents Host (items.Skip count test) made = refl
nothing_locked frames guests contents Firmware (items.Access address op) made = refl
nothing_locked frames guests contents Firmware (items.Pvalidate address size validate) made = refl
nothing_locked frames guests contents Firmware (items.Rmpadjust address size target mask vmsa) made = refl
nothing_locked frames guests contents Firmware (items.Rmpupdate update) made = refl
nothing_locked frames guests contents Firmware (items.Psmash frame) made = refl
nothing_locked frames guests contents Firmware (items.Firmware command) made = record { pages = λ number lock is. absurd (cc); context = λ guest is. absurd (cc) }
nothing_locked frames guests contents Firmware (items.Skip count test) made = refl

idle_tested : (m : State) (part : ActorPart) → part.standing ≡ nothing_taken → AreTested m part
idle_tested m part idle =
    subst (AreItemLocks m.frames m.guests m.contents part.role (line_at part.script part.item).item part.deeds) (sym idle)
    (nothing_locked m.frames m.guests m.contents part.role (line_at part.script part.item).item part.deeds)

-- who has a lock throughout has it first
first_locked : (locks : ActorPart → Bool) (actor : ℕ) (m : State) (schedule : List ℕ) → HasThroughout locks actor m schedule → locks (part_of m actor) ≡ true
unfolding HasThroughout
first_locked locks actor m [] has = has
first_locked locks actor m (next ∷ others) has = has.0

pub opening_locked : (c : Scenario) → AreLocked (opening c)
opening_locked c = record {
  exclusive = record {
    frames = λ frame one other a b locked also. absurd (frame_unlocked frame (part_of (opening c) one) (part_idle c one) locked);
    contexts = λ guest one other a b locked also. absurd (context_unlocked guest (part_of (opening c) one) (part_idle c one) locked);
  };
  tested = λ actor. idle_tested (opening c) (part_of (opening c) actor) (part_idle c actor);
  stays = record {
    pages = λ actor frame schedule is has. absurd (frame_unlocked frame (part_of (opening c) actor) (part_idle c actor) (first_locked (locks_frame frame) actor (opening c) schedule has));
    contexts = λ actor guest schedule is has. absurd (context_unlocked guest (part_of (opening c) actor) (part_idle c actor) (first_locked (locks_context guest) actor (opening c) schedule has));
  };
}

-- nothing is in hand
none_some : (standing : Standing) (made : Computed) → standing ≡ nothing_taken → standing.computed ≡ Some made → ⊥
none_some standing made idle is = let none = ap (λ (s : Standing). s.computed) idle in cc

pub opening_made : (guest : ℕ) (c : Scenario) (past : Past) → AreMade guest (opening c) past
opening_made guest c past actor made some is = absurd (none_some (part_of (opening c) actor).standing made (part_idle c actor) is)

-- each frame's facts go together, and are of kind Plain
pub record IsPlainFrame (facts : RmpEntry) : Type 0 where
  pub owned : facts.asid ≡ 0 → facts.validated ≡ false
  pub plain : facts.kind ≡ kinds.Plain
  pub free : facts.assigned ≡ false → IsNobodys facts
  pub ranges : AreInRange facts

-- numbers that are each below 16 are bytes
below_byte : (numbers : List ℕ) (index : ℕ) → AllByRecursion (λ (n : ℕ). n < 16) numbers → get_or numbers index 0 < 2 ^ 8
below_byte [] index small = omega arith
below_byte (n ∷ ns) zero small = let one = small.0 in omega arith
below_byte (n ∷ ns) (suc index) small = below_byte ns index small.1

free_plain : IsPlainFrame free_entry
unfolding free_entry
free_plain = record { owned = λ _. refl; plain = refl; free = λ _. record { no_guest = refl; size_is = refl }; ranges = record { gpn = omega arith; asid = omega arith; perms_count = refl; perms = λ index. below_byte (0 ∷ 0 ∷ 0 ∷ 0 ∷ []) index (omega arith, (omega arith, (omega arith, (omega arith, tt)))) } }

asid_below : (guests : List GuestSpec) (k : ℕ) → AllByRecursion IsGuest guests → get_or (map (λ (spec : GuestSpec). spec.asid) guests) k 0 < 2 ^ 16
asid_below [] k are = omega arith
asid_below (spec ∷ specs) zero are = let low = are.0.asid_below in omega arith
asid_below (spec ∷ specs) (suc k) are = asid_below specs k are.1

asid_some : (guests : List GuestSpec) (k : ℕ) → AllByRecursion IsGuest guests → k < length guests → 0 < get_or (map (λ (spec : GuestSpec). spec.asid) guests) k 0
asid_some [] k are inside = absurd (let h = inside in omega arith)
asid_some (spec ∷ specs) zero are inside = are.0.asid_some
asid_some (spec ∷ specs) (suc k) are inside = asid_some specs k are.1 (let h = inside in omega arith)

page_plain : (frames : ℕ) (guests : List GuestSpec) (page : PageSpec) (place : ℕ) → place < 2 ^ 32 → AllByRecursion IsGuest guests → IsPage frames (length guests) page → IsPlainFrame (page_facts guests page place)
unfolding page_facts
page_plain frames guests page place low are is =
    let some = asid_some guests (page.guest - 1) are (let low = is.guest_some in let high = is.guest_most in omega arith) in
    record {
      owned = λ none. absurd (let h = none in omega arith);
      plain = refl;
      free = λ unassigned. absurd (cc);
      ranges = record {
        gpn = let high = is.gpn in omega arith;
        asid = asid_below guests (page.guest - 1) are;
        perms_count = ap suc is.perms_three;
        perms = λ index. below_byte (15 ∷ page.perms) index (omega arith, is.perms);
      };
    }

near : (base : ℕ) (size : PageSize) (frame : ℕ) → in_range base (frames_in size) frame ≡ true → frame - base < 2 ^ 32
near base Small frame inside = grind (arith, nat_tests, inside)
near base Large frame inside = grind (arith, nat_tests, inside)

facts_plain : (frames : ℕ) (guests : List GuestSpec) (pages : List PageSpec) (facts : ℕ → RmpEntry) → AllByRecursion IsGuest guests → AllByRecursion (IsPage frames (length guests)) pages
    → ((f : ℕ) → IsPlainFrame (facts f)) → (f : ℕ) → IsPlainFrame (facts_from guests facts pages f)
unfolding facts_from
facts_plain frames guests [] facts are lines plain f = plain f
facts_plain frames guests (page ∷ pages) facts are lines plain f =
    facts_plain frames guests pages (with_page guests page facts) are lines.1
    (λ g. page_or_before guests page facts g IsPlainFrame (λ inside. page_plain frames guests page (g - page.frame) (near page.frame page.size g inside) are lines.0) (plain g)) f

plain_facts : (facts : RmpEntry) → IsPlainFrame facts → AreFactsOf facts
plain_facts facts plain = record {
  owned = plain.owned;
  used = λ other. absurd (other plain.plain);
  free = plain.free;
  ranges = plain.ranges;
}

-- and its words are full
zero_at : (n index : ℕ) → get_or {A = ℕ} (replicate n 0) index 0 ≡ 0
zero_at zero index = refl
zero_at (suc n) zero = refl
zero_at (suc n) (suc index) = zero_at n index

zeros_fit : (index : ℕ) → get_or zero_words index 0 < 2 ^ 64
unfolding zero_words
zeros_fit index = let none = zero_at 512 index in omega arith

pub set_fit : (words : List ℕ) (at value index : ℕ) → value < 2 ^ 64 → ((k : ℕ) → get_or words k 0 < 2 ^ 64) → get_or (set words at value) index 0 < 2 ^ 64
set_fit [] at value index small fit = fit index
set_fit (word ∷ words) zero value zero small fit = small
set_fit (word ∷ words) zero value (suc index) small fit = fit (suc index)
set_fit (word ∷ words) (suc at) value zero small fit = fit zero
set_fit (word ∷ words) (suc at) value (suc index) small fit = set_fit words at value index small (λ k. fit (suc k))

words_fit : (frames : ℕ) (lines : List WordSpec) (words : ℕ → List ℕ) → AllByRecursion (IsWord frames) lines → ((f index : ℕ) → get_or (words f) index 0 < 2 ^ 64)
    → (f index : ℕ) → get_or (words_from words lines f) index 0 < 2 ^ 64
unfolding words_from
words_fit frames [] words are fit f index = fit f index
words_fit frames (word ∷ others) words are fit f index =
    words_fit frames others (with_word_spec word words) are.1
    (λ g k. cond_both (eqb word.frame g) _ _ (λ (ws : List ℕ). get_or ws k 0 < 2 ^ 64) (λ _. set_fit (words g) word.index word.value k are.0.value (fit g)) (λ _. fit g k)) f index

guests_have : (guests : List GuestSpec) → AllByRecursion IsGuest guests → AllByRecursion HasAsid guests
guests_have [] are = tt
guests_have (guest ∷ guests) are = (record { some = are.0.asid_some; fits = let low = are.0.asid_below in omega arith }, guests_have guests are.1)

opening_counter : (guests : List GuestSpec) (k : ℕ) → AllByRecursion IsGuest guests → (opening_context (slice_get guests k)).iv < 2 ^ 64
unfolding opening_context
opening_counter [] k are = omega arith
opening_counter (guest ∷ guests) zero are = are.0.iv
opening_counter (guest ∷ guests) (suc k) are = opening_counter guests k are.1

opening_key : (guests : List GuestSpec) (k : ℕ) → AllByRecursion IsGuest guests → AreBytes (opening_context (slice_get guests k)).key
unfolding opening_context
opening_key [] k are = λ i. omega arith
opening_key (guest ∷ guests) zero are = are.0.key
opening_key (guest ∷ guests) (suc k) are = opening_key guests k are.1

pub opening_shaped : (c : Scenario) → IsSound c → AreShaped (opening c)
unfolding opening
opening_shaped c sound =
    let plain : ((f : ℕ) → IsPlainFrame (facts_from c.guests (λ _. free_entry) c.pages f)) =
    facts_plain (frames_of c) c.guests c.pages (λ _. free_entry) sound.guests sound.pages (λ f. free_plain) in
    record {
      facts = λ frame. plain_facts (facts_from c.guests (λ _. free_entry) c.pages frame) (plain frame);
      whole = whole_page (opening c).contents.pages (opening_large (frames_of c) (length c.guests) c.guests c.pages (words_from (λ _. zero_words) c.words) sound.pages sound.frames_differ);
      words = λ frame. record { whole = opening_whole c.words frame; fits = λ index. words_fit (frames_of c) c.words (λ _. zero_words) sound.words (λ _ k. zeros_fit k) frame index };
      have_asids = guests_have c.guests sound.guests;
      asids_differ = sound.asids_differ;
      contexts = λ guest. record { asid_is = opening_asid c.guests guest; counter = opening_counter c.guests (guest - 1) sound.guests; key = opening_key c.guests (guest - 1) sound.guests };
    }
