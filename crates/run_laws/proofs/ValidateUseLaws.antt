-- What PVALIDATE and RMPADJUST of any guest's processor do to the pages of a guest, and to what the guest's memory holds: a commit of the guest's own that validates pages makes them held with unknown words, one that rescinds them takes them away, and all else leaves them.
use Rattle.std.proofs.Common.{◌≡◌, ◌⊎◌, ℕ, ◌+◌, ◌-◌, ◌<◌, ◌≤◌, Bool, true, false, not, cond, eqb, List, [], ◌∷◌, length, Some, refl, sym, ap, ◌∙◌, subst, inl, inr, arith}
use Rattle.std.proofs.lemmas.Bool.{cond_both, eqb-true, eqb-false, true≢false, cond-true, cond-false}
use Rattle.std.proofs.lemmas.Bool.Decides.{nat_tests}
use Rattle.std.proofs.lemmas.List.{length_push}
use Rattle.std.proofs.lemmas.Option.{none-some}
use Rattle.snp_model.specs.declared.entry.PageSize.{PageSize}
use Rattle.snp_model.specs.declared.entry.PageSize.TheVariants.{Small, Large}
use Rattle.snp_model.specs.declared.entry.RmpEntry.{RmpEntry}
use Rattle.snp_model.specs.declared.event.Deed.{Deed}
use Rattle.snp_model.specs.declared.event.Deed.TheVariants as deeds
use Rattle.snp_model.specs.declared.event.Outcome.TheVariants as outcomes
use Rattle.snp_model.specs.declared.item.Item.{Item}
use Rattle.snp_model.specs.declared.item.Item.TheVariants as items
use Rattle.snp_model.specs.declared.scenario.GuestSpec.{GuestSpec}
use Rattle.snp_model.specs.Facts.{frames_in}
use Rattle.snp_model.specs.GuestMemory.{Memory, Use, Untouched, Reads, Writes, Exchanges, Compares, Accepts, Rescinds, Launches, use_of_validation, use_of, firmware_use, use_for, used, unknown_places}
use Rattle.snp_model.specs.Holders.{IsHeldAs}
use Rattle.snp_model.specs.InstructionStep.{facts_of, page_lookup, page_place, validate_begin, adjust_begin, validate_move, adjust_move, cpu_validate, cpu_adjust}
use Rattle.snp_model.specs.Live.{Archive, vault_of}
use Rattle.snp_model.specs.Locks.{in_range, over, covers}
use Rattle.snp_model.specs.Moves.{Move, walked_move}
use Rattle.snp_model.specs.Opening.{asid_of}
use Rattle.snp_model.specs.State.{Page, Pages, PageLock, Contents, ActorPart, View}
use Rattle.snp_model.specs.Validation.{carry, validated_facts, validated_page, pages_validated, adjusted_facts, adjusted_page, pages_adjusted}
use Rattle.snp_model.specs.Walking.{Processor}
use Rattle.run_laws.specs.HeldLocks.{validate_test, IsWalkedLock, IsOneLock}
use Rattle.run_laws.specs.OpenAttempts.{IsLockingWalk}
use Rattle.run_laws.proofs.AcceptLaws.{LacksRange, unknown_at, FramesGain, frames_gain, FramesLose, frames_lose}
use Rattle.run_laws.proofs.CoreLaws.{KindFits, AreFit}
use Rattle.run_laws.proofs.ItemUseLaws.{lock_fine}
use Rattle.run_laws.proofs.LargePages.{AreLargeWhole}
use Rattle.run_laws.proofs.LockedItems.{by_range}
use Rattle.run_laws.proofs.LockedWalks.{role_of}
use Rattle.run_laws.proofs.OpenAttemptsLaws.{arrived_move}
use Rattle.run_laws.proofs.TestedPages.{IsTestedPage, validate_passes, lock_tested}
use Rattle.run_laws.proofs.TestedLaws.{not_false}
use Rattle.run_laws.proofs.UpdateLaws.{KeepsMetadata, Lessens, lessens_itself, lessens_fine, over_frames}
use Rattle.run_laws.proofs.UseLaws.{AreWhole, Owns, Before, Fine, MoveFine, untouched_for, ArrivesFine, walked_fine}

-- what is asked of a use: no page that it makes held is held before it
abbrev pub LacksAccepted : Memory → Use → Type 0
LacksAccepted memory Untouched = Unit {0}
LacksAccepted memory (Reads gpn index found) = Unit {0}
LacksAccepted memory (Writes gpn index value) = Unit {0}
LacksAccepted memory (Exchanges gpn index found value) = Unit {0}
LacksAccepted memory (Compares gpn index found written expected next) = Unit {0}
LacksAccepted memory (Accepts gpn count) = LacksRange memory gpn count
LacksAccepted memory (Rescinds gpn count) = Unit {0}
LacksAccepted memory (Launches gpn words) = LacksRange memory gpn 1

-- an event with this use leads from a state to another as it should, where the memory lacks the pages that it makes held
abbrev pub FineWhereLacking : ℕ → ℕ → Archive → Memory → Contents → Contents → Use → Type 0
FineWhereLacking guest asid archive memory old new does = LacksAccepted memory does → Fine guest asid archive memory old new does

-- so a move of an item of a guest's processor
abbrev pub MoveFineWhereLacking : ℕ → ℕ → Archive → Memory → Contents → Processor → Item → Move → Type 0
MoveFineWhereLacking guest asid archive memory old cpu item move =
    LacksAccepted memory (use_for guest move.contents (role_of cpu) move.deed item move.outcome) → MoveFine guest asid archive memory old (role_of cpu) item move

-- the frames of a page after the commit of a PVALIDATE

beside_is : (validate : Bool) (own : RmpEntry) (lock : PageLock) (pages : Pages) (f : ℕ) → covers f lock ≡ false → pages_validated validate own lock pages f ≡ pages f
unfolding pages_validated
beside_is validate own lock pages f beside = cond-false (covers f lock) _ _ beside

inside_is : (validate : Bool) (own : RmpEntry) (lock : PageLock) (pages : Pages) (f : ℕ) → covers f lock ≡ true → pages_validated validate own lock pages f ≡ validated_page validate own (pages f)
unfolding pages_validated
inside_is validate own lock pages f inside = cond-true (covers f lock) _ _ inside

changed_facts : (validate : Bool) (own facts : RmpEntry) → carry validate own ≡ false → validated_facts validate own facts ≡ record facts { validated = validate }
unfolding validated_facts
changed_facts validate own facts changes = cond-false (carry validate own) _ _ changes

same_facts : (validate : Bool) (own facts : RmpEntry) → carry validate own ≡ true → validated_facts validate own facts ≡ facts
unfolding validated_facts
same_facts validate own facts carried = cond-true (carry validate own) _ _ carried

-- where the carry flag is 1 nothing changes
unchanged_is : (validate : Bool) (own : RmpEntry) (lock : PageLock) (pages : Pages) (f : ℕ) → carry validate own ≡ true → pages_validated validate own lock pages f ≡ pages f
unchanged_is validate own lock pages f carried =
    by_range (covers f lock) (pages_validated validate own lock pages f ≡ pages f)
    (λ inside. inside_is validate own lock pages f inside ∙ ap (λ (facts : RmpEntry). record (pages f) { facts = facts }) (same_facts validate own (pages f).facts carried))
    (λ beside. beside_is validate own lock pages f beside)

beside_lessens : (asid : ℕ) (validate : Bool) (own : RmpEntry) (lock : PageLock) (pages : Pages) (f : ℕ) → covers f lock ≡ false → Lessens asid (pages_validated validate own lock pages f) (pages f)
beside_lessens asid validate own lock pages f beside = subst (λ (page : Page). Lessens asid page (pages f)) (sym (beside_is validate own lock pages f beside)) (lessens_itself asid (pages f))

-- what a frame keeps whatever the carry flag is: all but Validated
record KeepsOwner (new old : RmpEntry) : Type 0 where
  assigned : new.assigned ≡ old.assigned
  immutable : new.immutable ≡ old.immutable
  gpn : new.gpn ≡ old.gpn
  asid : new.asid ≡ old.asid
  kind : new.kind ≡ old.kind

owner_kept : (validate : Bool) (own facts : RmpEntry) → KeepsOwner (validated_facts validate own facts) facts
unfolding validated_facts
owner_kept validate own facts =
    cond_both (carry validate own) _ _ (λ (new : RmpEntry). KeepsOwner new facts)
    (λ _. record { assigned = refl; immutable = refl; gpn = refl; asid = refl; kind = refl }) (λ _. record { assigned = refl; immutable = refl; gpn = refl; asid = refl; kind = refl })

owner_at : (validate : Bool) (own : RmpEntry) (lock : PageLock) (pages : Pages) (f : ℕ) → KeepsOwner (pages_validated validate own lock pages f).facts (pages f).facts
unfolding pages_validated
owner_at validate own lock pages f =
    cond_both (covers f lock) _ _ (λ (new : Page). KeepsOwner new.facts (pages f).facts)
    (λ _. owner_kept validate own (pages f).facts) (λ _. record { assigned = refl; immutable = refl; gpn = refl; asid = refl; kind = refl })

words_at : (validate : Bool) (own : RmpEntry) (lock : PageLock) (pages : Pages) (f : ℕ) → (pages_validated validate own lock pages f).words ≡ (pages f).words
unfolding pages_validated
words_at validate own lock pages f = cond_both (covers f lock) _ _ (λ (new : Page). new.words ≡ (pages f).words) (λ _. refl) (λ _. refl)

metadata_at : (validate : Bool) (own : RmpEntry) (lock : PageLock) (pages : Pages) (f : ℕ) → KeepsMetadata (pages_validated validate own lock pages f) (pages f)
metadata_at validate own lock pages f is = (sym (owner_at validate own lock pages f).kind ∙ is, words_at validate own lock pages f)

validated_whole : (validate : Bool) (own : RmpEntry) (lock : PageLock) (pages : Pages) → AreWhole pages → AreWhole (pages_validated validate own lock pages)
validated_whole validate own lock pages whole f = ap (λ (words : List ℕ). length words) (words_at validate own lock pages f) ∙ whole f

validated_fits : (validate : Bool) (own : RmpEntry) (lock : PageLock) (pages : Pages) → AreFit pages → AreFit (pages_validated validate own lock pages)
validated_fits validate own lock pages fits f =
    let keeps = owner_at validate own lock pages f in
    record {
      assigned = λ used_by. keeps.assigned ∙ (fits f).assigned (λ plain. used_by (keeps.kind ∙ plain));
      immutable = λ used_by. keeps.immutable ∙ (fits f).immutable (λ plain. used_by (keeps.kind ∙ plain));
      no_guest = λ used_by. keeps.asid ∙ (fits f).no_guest (λ plain. used_by (keeps.kind ∙ plain));
    }

-- a page whose frames and guest page numbers go together: the frame of a page number, and the page number of a frame

frame_place : (base gpn count f q : ℕ) → in_range base count f ≡ true → q + base ≡ gpn + f → f ≡ base + (q - gpn)
frame_place base gpn count f q inside follow =
    let low : base ≤ f = grind (arith, nat_tests) in
    omega arith

gpn_inside : (base gpn count f q : ℕ) → in_range base count f ≡ true → q + base ≡ gpn + f → in_range gpn count q ≡ true
gpn_inside base gpn count f q inside follow =
    let low : base ≤ f = grind (arith, nat_tests) in
    let high : f < base + count = grind (arith, nat_tests) in
    let low' : gpn ≤ q = omega arith in
    let high' : q < gpn + count = omega arith in
    grind (arith, nat_tests)

place_inside : (base gpn count q : ℕ) → in_range gpn count q ≡ true → in_range base count (base + (q - gpn)) ≡ true
place_inside base gpn count q inside =
    let low : gpn ≤ q = grind (arith, nat_tests) in
    let high : q < gpn + count = grind (arith, nat_tests) in
    let low' : base ≤ base + (q - gpn) = omega arith in
    let high' : base + (q - gpn) < base + count = omega arith in
    grind (arith, nat_tests)

place_gpn : (base gpn count q p : ℕ) → in_range gpn count q ≡ true → p + base ≡ gpn + (base + (q - gpn)) → p ≡ q
place_gpn base gpn count q p inside follow =
    let low : gpn ≤ q = grind (arith, nat_tests) in
    omega arith

-- the frame of a page number, which the lock covers
abbrev place_of : ℕ → PageLock → ℕ → ℕ
place_of gpn lock q = lock.base + (q - gpn)

place_covered : (pages : Pages) (asid gpn : ℕ) (size : PageSize) (lock : PageLock) (q : ℕ) → IsTestedPage pages asid gpn size lock → in_range gpn (frames_in size) q ≡ true → covers (place_of gpn lock q) lock ≡ true
place_covered pages asid gpn size lock q tested inside =
    place_inside lock.base gpn lock.count q (subst (λ (n : ℕ). in_range gpn n q ≡ true) (sym tested.count_is) inside)

-- a commit that validates the guest's own page: its frames hold it, and what held before still holds
own_gains : (asid gpn : ℕ) (size : PageSize) (validate : Bool) (own : RmpEntry) (lock : PageLock) (pages : Pages) → IsTestedPage pages asid gpn size lock
    → FramesGain asid pages (pages_validated validate own lock pages) gpn (frames_in size) unknown_places (place_of gpn lock)
own_gains asid gpn size validate own lock pages tested =
    let new = pages_validated validate own lock pages in
    record {
      metadata = metadata_at validate own lock pages;
      from = λ q f h.
          by_range (covers f lock) ((IsHeldAs (pages f).facts asid q × ((new f).words ≡ (pages f).words)) ⊎ ((in_range gpn (frames_in size) q ≡ true) × (f ≡ place_of gpn lock q)))
          (λ inside.
          let named : (pages f).facts.gpn ≡ q = sym (owner_at validate own lock pages f).gpn ∙ h.gpn_is in
          let follow : q + lock.base ≡ gpn + f = ap (λ (p : ℕ). p + lock.base) (sym named) ∙ tested.follow f inside in
          inr (subst (λ (n : ℕ). in_range gpn n q ≡ true) tested.count_is (gpn_inside lock.base gpn lock.count f q inside follow), frame_place lock.base gpn lock.count f q inside follow))
          (λ beside. inl (subst (λ (page : Page). IsHeldAs page.facts asid q) (beside_is validate own lock pages f beside) h, words_at validate own lock pages f));
      agree = λ q index word inside h k. absurd (none-some word (sym (unknown_at index) ∙ k));
    }

-- a commit that rescinds it: its frames held it, and hold it no more
rescinded_none : (asid : ℕ) (own : RmpEntry) (lock : PageLock) (pages : Pages) (f q : ℕ) → own.validated ≡ true → covers f lock ≡ true → IsHeldAs (pages_validated false own lock pages f).facts asid q → ⊥
rescinded_none asid own lock pages f q valid inside h =
    let changes : carry false own ≡ false = ap not valid in
    let is = ap (λ (page : Page). page.facts.validated) (inside_is false own lock pages f inside) ∙ ap (λ (facts : RmpEntry). facts.validated) (changed_facts false own (pages f).facts changes) in
    true≢false (sym h.validated ∙ is)

own_loses : (asid gpn : ℕ) (size : PageSize) (lock : PageLock) (pages : Pages) → IsTestedPage pages asid gpn size lock → (pages lock.frame).facts.validated ≡ true
    → FramesLose asid pages (pages_validated false (pages lock.frame).facts lock pages) gpn (frames_in size) (place_of gpn lock)
own_loses asid gpn size lock pages tested valid =
    let own = (pages lock.frame).facts in
    record {
      less = λ f.
          by_range (covers f lock) (Lessens asid (pages_validated false own lock pages f) (pages f))
          (λ inside. record { held = λ q h. absurd (rescinded_none asid own lock pages f q valid inside h); metadata = metadata_at false own lock pages f })
          (λ beside. beside_lessens asid false own lock pages f beside);
      held = λ q inside.
          let there = place_covered pages asid gpn size lock q tested inside in
          let alike = tested.alike (place_of gpn lock q) there in
          record {
            assigned = alike.assigned;
            validated = alike.validated ∙ valid;
            asid_is = alike.asid_is;
            gpn_is = place_gpn lock.base gpn (frames_in size) q _ inside (tested.follow (place_of gpn lock q) there);
          };
      lost = λ q inside h. rescinded_none asid own lock pages (place_of gpn lock q) q valid (place_covered pages asid gpn size lock q tested inside) h;
    }

-- a commit of another guest's makes no holder of this guest's pages, and takes none
other_lessens : (asid other gpn : ℕ) (size : PageSize) (validate : Bool) (own : RmpEntry) (lock : PageLock) (pages : Pages) → (other ≡ asid → ⊥) → IsTestedPage pages other gpn size lock
    → (f : ℕ) → Lessens asid (pages_validated validate own lock pages f) (pages f)
other_lessens asid other gpn size validate own lock pages apart tested f =
    by_range (covers f lock) (Lessens asid (pages_validated validate own lock pages f) (pages f))
    (λ inside. record { held = λ q h. absurd (apart (sym (tested.alike f inside).asid_is ∙ sym (owner_at validate own lock pages f).asid ∙ h.asid_is)); metadata = metadata_at validate own lock pages f })
    (λ beside. beside_lessens asid validate own lock pages f beside)

-- the use of a commit, by whose it is, the carry flag and what was asked
abbrev use_by : Bool → Bool → Bool → ℕ → ℕ → Use
use_by same carried validate gpn count = cond same (cond carried Untouched (cond validate (Accepts gpn count) (Rescinds gpn count))) Untouched

validation_use : (gpn : ℕ) (size : PageSize) (validate carried : Bool) → use_of_validation gpn size size validate carried ≡ use_by true carried validate gpn (frames_in size)
unfolding use_of_validation
validation_use gpn Small validate true = refl
validation_use gpn Small validate false = refl
validation_use gpn Large validate true = refl
validation_use gpn Large validate false = refl

commit_use : (guest : ℕ) (left : Contents) (cpu : Processor) (address frame gpn : ℕ) (size : PageSize) (validate carried : Bool)
    → use_for guest left (role_of cpu) (deeds.Commit frame gpn size) (items.Pvalidate address size validate) (Some (outcomes.Carry carried)) ≡ use_by (eqb cpu.guest guest) carried validate gpn (frames_in size)
unfolding use_for use_of
commit_use guest left cpu address frame gpn size validate carried = ap (λ (does : Use). cond (eqb cpu.guest guest) does Untouched) (validation_use gpn size validate carried)

-- the commit of a PVALIDATE of the guest's own, where it changes anything
own_fine : (guest asid : ℕ) (archive : Archive) (memory : Memory) (old : Contents) (gpn : ℕ) (size : PageSize) (validate : Bool) (lock : PageLock) → Before guest asid archive memory old
    → IsTestedPage old.pages asid gpn size lock → carry validate (old.pages lock.frame).facts ≡ false
    → FineWhereLacking guest asid archive memory old (record old { pages = pages_validated validate (old.pages lock.frame).facts lock old.pages }) (use_by true false validate gpn (frames_in size))
unfolding used
own_fine guest asid archive memory old gpn size true lock before tested changes lacks =
    let own = (old.pages lock.frame).facts in
    record {
      legal = tt;
      core = frames_gain asid (vault_of guest old archive) memory (pages_validated true own lock old.pages) gpn (frames_in size) unknown_places (place_of gpn lock) (own_gains asid gpn size true own lock old.pages tested) lacks before.core;
      whole = validated_whole true own lock old.pages before.whole;
      fits = validated_fits true own lock old.pages before.fits;
    }
own_fine guest asid archive memory old gpn size false lock before tested changes lacks =
    let own = (old.pages lock.frame).facts in
    record {
      legal = tt;
      core = frames_lose asid (vault_of guest old archive) memory (pages_validated false own lock old.pages) gpn (frames_in size) (place_of gpn lock) (own_loses asid gpn size lock old.pages tested (not_false own.validated changes)) before.core;
      whole = validated_whole false own lock old.pages before.whole;
      fits = validated_fits false own lock old.pages before.fits;
    }

-- so each commit of a PVALIDATE
validate_commit : (guest asid : ℕ) (archive : Archive) (guests : List GuestSpec) (memory : Memory) (old : Contents) (owner gpn : ℕ) (size : PageSize) (validate : Bool) (lock : PageLock)
    → Before guest asid archive memory old → Owns guest asid guests owner → IsTestedPage old.pages (asid_of guests owner) gpn size lock
    → let own = (old.pages lock.frame).facts in
    FineWhereLacking guest asid archive memory old (record old { pages = pages_validated validate own lock old.pages }) (use_by (eqb owner guest) (carry validate own) validate gpn (frames_in size))
validate_commit guest asid archive guests memory old owner gpn size validate lock before owns tested =
    let own = (old.pages lock.frame).facts in
    let new = pages_validated validate own lock old.pages in
    let P = FineWhereLacking guest asid archive memory old (record old { pages = new }) in
    let whole = validated_whole validate own lock old.pages before.whole in
    let fits = validated_fits validate own lock old.pages before.fits in
    cond_both (eqb owner guest) (use_by true (carry validate own) validate gpn (frames_in size)) Untouched P
    (λ same. cond_both (carry validate own) Untouched (use_by true false validate gpn (frames_in size)) P
    (λ carried _. lessens_fine guest asid archive memory old new before (λ f. subst (λ (page : Page). Lessens asid page (old.pages f)) (sym (unchanged_is validate own lock old.pages f carried)) (lessens_itself asid (old.pages f))) whole fits)
    (λ changes. own_fine guest asid archive memory old gpn size validate lock before (subst (λ (a : ℕ). IsTestedPage old.pages a gpn size lock) (owns.own (eqb-true owner guest same)) tested) changes))
    (λ different _. lessens_fine guest asid archive memory old new before (other_lessens asid (asid_of guests owner) gpn size validate own lock old.pages (owns.other (eqb-false owner guest different)) tested) whole fits)

-- an item that has a lock has begun
pub locked_long : (frames : ℕ) (cpu : Processor) (address : ℕ) (lock : PageLock) (others : List PageLock) (made : List Deed) → IsLockingWalk frames cpu (page_lookup address) (lock ∷ others) made → 0 < length made
locked_long frames cpu address lock others made walking = let has = walking.0 in rw (has.then_locked, length_push has.walked (deeds.Lock lock.frame)) (omega arith)

-- PVALIDATE, whatever it has locked
validate_from : (guest asid : ℕ) (archive : Archive) (guests : List GuestSpec) (memory : Memory) (frames : ℕ) (view : View) (part : ActorPart) (cpu : Processor) (address : ℕ) (size : PageSize) (validate : Bool) (locks : List PageLock)
    → Before guest asid archive memory view.contents → Owns guest asid guests cpu.guest → AreLargeWhole view.contents.pages
    → IsOneLock (IsWalkedLock frames guests view.contents cpu address (validate_test size) part.deeds) locks → IsLockingWalk frames cpu (page_lookup address) locks part.deeds
    → MoveFineWhereLacking guest asid archive memory view.contents cpu (items.Pvalidate address size validate)
    (walked_move frames guests view.contents part cpu (page_lookup address) (validate_begin cpu address size) (validate_move guests view part cpu size validate locks) part.deeds)
unfolding validate_move
validate_from guest asid archive guests memory frames view part cpu address size validate [] before owns whole tested walking =
    let item = items.Pvalidate address size validate in
    λ lacks. walked_fine guest asid archive guests memory frames view.contents part cpu item (page_lookup address) (validate_begin cpu address size) (validate_move guests view part cpu size validate []) part.deeds before owns
    (λ gpn private frame leaf. lock_fine guest asid archive memory view.contents part (role_of cpu) item _ _ before)
validate_from guest asid archive guests memory frames view part cpu address size validate (lock ∷ others) before owns whole tested walking =
    let item = items.Pvalidate address size validate in
    let old = view.contents in
    let has = tested.0 in
    let arrives = validate_move guests view part cpu size validate (lock ∷ others) in
    let own = facts_of old lock.frame in
    let place = page_place (asid_of guests cpu.guest) cpu.vmpl has.gpn lock.frame has.leaf in
    let page = lock_tested old.pages place size lock has.covers whole (validate_passes place size own has.passes) in
    let left : Contents = record old { pages = pages_validated validate own lock old.pages } in
    let is = commit_use guest left cpu address lock.frame has.gpn size validate (carry validate own) in
    subst (MoveFineWhereLacking guest asid archive memory old cpu item)
    (sym (arrived_move frames guests old part cpu (page_lookup address) (validate_begin cpu address size) arrives part.deeds has.gpn has.private lock.frame has.leaf (locked_long frames cpu address lock others part.deeds walking) has.arrived))
    (λ lacks. record {
      fine = subst (FineWhereLacking guest asid archive memory old left) (sym is) (validate_commit guest asid archive guests memory old cpu.guest has.gpn size validate lock before owns page) lacks;
    })

-- each event of PVALIDATE
pub validate_fine : (guest asid : ℕ) (archive : Archive) (guests : List GuestSpec) (memory : Memory) (frames : ℕ) (view : View) (part : ActorPart) (cpu : Processor) (address : ℕ) (size : PageSize) (validate : Bool)
    → Before guest asid archive memory view.contents → Owns guest asid guests cpu.guest → AreLargeWhole view.contents.pages
    → IsOneLock (IsWalkedLock frames guests view.contents cpu address (validate_test size) part.deeds) part.standing.locks → IsLockingWalk frames cpu (page_lookup address) part.standing.locks part.deeds
    → MoveFineWhereLacking guest asid archive memory view.contents cpu (items.Pvalidate address size validate) (cpu_validate frames guests view part cpu address size validate)
validate_fine guest asid archive guests memory frames view part cpu address size validate before owns whole tested walking =
    validate_from guest asid archive guests memory frames view part cpu address size validate part.standing.locks before owns whole tested walking

-- the commit of an RMPADJUST changes permissions and VMSA alone, which no holder looks at
adjusted_lessens : (asid vmpl target mask : ℕ) (vmsa : Bool) (page : Page) → Lessens asid (adjusted_page vmpl target mask vmsa page) page
unfolding adjusted_facts
adjusted_lessens asid vmpl target mask vmsa page = record {
  held = λ gpn h. (record { assigned = h.assigned; validated = h.validated; asid_is = h.asid_is; gpn_is = h.gpn_is }, refl);
  metadata = λ is. (is, refl);
}

adjusted_fits : (vmpl target mask : ℕ) (vmsa : Bool) (page : Page) → KindFits page.facts → KindFits (adjusted_page vmpl target mask vmsa page).facts
unfolding adjusted_facts
adjusted_fits vmpl target mask vmsa page fits = record { assigned = fits.assigned; immutable = fits.immutable; no_guest = fits.no_guest }

adjust_commit : (guest asid : ℕ) (archive : Archive) (memory : Memory) (old : Contents) (vmpl target mask : ℕ) (vmsa : Bool) (lock : PageLock) → Before guest asid archive memory old
    → Fine guest asid archive memory old (record old { pages = pages_adjusted vmpl target mask vmsa lock old.pages }) Untouched
unfolding pages_adjusted
adjust_commit guest asid archive memory old vmpl target mask vmsa lock before =
    let pages = old.pages in
    let change = λ (place : ℕ). adjusted_page vmpl target mask vmsa in
    lessens_fine guest asid archive memory old (over lock.base lock.count change pages) before
    (over_frames (Lessens asid) lock.base lock.count change pages (λ f. lessens_itself asid (pages f)) (λ f inside. adjusted_lessens asid vmpl target mask vmsa (pages f)))
    (over_frames (λ (new page : Page). length new.words ≡ 512) lock.base lock.count change pages before.whole (λ f inside. before.whole f))
    (over_frames (λ (new page : Page). KindFits new.facts) lock.base lock.count change pages before.fits (λ f inside. adjusted_fits vmpl target mask vmsa (pages f) (before.fits f)))

-- RMPADJUST, where its walk has led, whatever it has locked
adjust_arrives : (guest asid : ℕ) (archive : Archive) (guests : List GuestSpec) (memory : Memory) (view : View) (part : ActorPart) (cpu : Processor) (address : ℕ) (size : PageSize) (target mask : ℕ) (vmsa : Bool) (locks : List PageLock)
    → Before guest asid archive memory view.contents
    → ArrivesFine guest asid archive memory view.contents cpu (items.Rmpadjust address size target mask vmsa) (adjust_move guests view part cpu size target mask vmsa locks)
unfolding adjust_move use_of firmware_use
adjust_arrives guest asid archive guests memory view part cpu address size target mask vmsa [] before gpn private frame leaf =
    lock_fine guest asid archive memory view.contents part (role_of cpu) (items.Rmpadjust address size target mask vmsa) _ _ before
adjust_arrives guest asid archive guests memory view part cpu address size target mask vmsa (lock ∷ others) before gpn private frame leaf =
    let old = view.contents in
    let left : Contents = record old { pages = pages_adjusted cpu.vmpl target mask vmsa lock old.pages } in
    let idle = untouched_for guest left (role_of cpu) (deeds.Commit frame gpn size) (items.Rmpadjust address size target mask vmsa) (Some (outcomes.Status 0)) (record { processors = refl; firmware = λ _ _. refl }) in
    record { fine = subst (Fine guest asid archive memory old left) (sym idle) (adjust_commit guest asid archive memory old cpu.vmpl target mask vmsa lock before) }

-- each event of RMPADJUST
pub adjust_fine : (guest asid : ℕ) (archive : Archive) (guests : List GuestSpec) (memory : Memory) (frames : ℕ) (view : View) (part : ActorPart) (cpu : Processor) (address : ℕ) (size : PageSize) (target mask : ℕ) (vmsa : Bool)
    → Before guest asid archive memory view.contents → Owns guest asid guests cpu.guest
    → MoveFine guest asid archive memory view.contents (role_of cpu) (items.Rmpadjust address size target mask vmsa) (cpu_adjust frames guests view part cpu address size target mask vmsa)
adjust_fine guest asid archive guests memory frames view part cpu address size target mask vmsa before owns =
    walked_fine guest asid archive guests memory frames view.contents part cpu (items.Rmpadjust address size target mask vmsa) (page_lookup address) (adjust_begin cpu address size target mask)
    (adjust_move guests view part cpu size target mask vmsa part.standing.locks) part.deeds before owns
    (adjust_arrives guest asid archive guests memory view part cpu address size target mask vmsa part.standing.locks before)
