-- What an open attempt has locked, by the item of its actor, and what an event that takes no lock leaves of the locks.
use Rattle.std.proofs.Common.{◌≡◌, ◌≢◌, ℕ, suc, ◌/◌, nat_lt, Bool, true, false, ◌||◌, List, [], ◌∷◌, length, Option, None, Some, IsSome, Result, Ok, Err, refl, sym, ap, ◌∙◌, arith}
use Rattle.std.proofs.lemmas.Bool.{true≢false}
use Rattle.std.proofs.lemmas.Bool.Decides.{nat_tests}
use Rattle.std.specs.List.{list_any}
use Rattle.snp_model.specs.declared.event.Deed.{Deed}
use Rattle.snp_model.specs.declared.event.Deed.TheVariants as deeds
use Rattle.snp_model.specs.declared.event.Outcome.{Outcome}
use Rattle.snp_model.specs.declared.event.Refusal.{Refusal}
use Rattle.snp_model.specs.declared.scenario.GuestSpec.{GuestSpec}
use Rattle.snp_model.specs.Entries.{refusal_answer, released}
use Rattle.snp_model.specs.Locks.{covers, locks_frame}
use Rattle.snp_model.specs.InstructionStep.{instruction_lock}
use Rattle.snp_model.specs.Moves.{Move, lock_move, memory_move}
use Rattle.snp_model.specs.State.{ActorPart, PageLock, Pages, Standing, View, nothing_taken}
use Rattle.snp_model.specs.Touches.{frame_touched, instruction_touches}
use Rattle.run_laws.specs.HeldLocks.{AreInstructionLocks, IsOneLock}
use Rattle.run_laws.specs.KeptLocks.{OwnsContext, OwnsLocks, is_locked, recontexted, relocked}
use Rattle.run_laws.proofs.RangeLaws.{also_touched}
use Rattle.rmp_update.specs.Regions.{region_answer}
use Rattle.machine_core.specs.declared.made_page.MadePage.{MadePage}
use Rattle.machine_core.specs.declared.shown.Shown.{Shown}
use Rattle.machine_core.specs.declared.taken_lock.Taken.{Taken}
use Rattle.machine_core.specs.declared.taken_lock.Taken.TheVariants.{Made, OfContext, OfPage}
use Rattle.machine_core.specs.declared.taken_lock.TakenLock.{TakenLock}
use Rattle.machine_core.specs.Bays.{HasFrame, HasTouched, Stock, contents_of, context_holders_of, contexts_of, holders_of, locks_of, pages_of, view_on}
use Rattle.machine_core.specs.Moves.{MakesNoPage, TakesPageAlone, context_by, context_left, lock_shown, locks_by, locks_left, move_by, standing_by, standing_with, takes_page, with_made, with_taken}
use Rattle.machine_core.specs.Ranges.{HoldsLock, HoldsNone}
use Rattle.machine_core.proofs.RangeLaws.{relocked_none}

-- an actor that has locked nothing holds no lock
pub holds_none : (actor : ℕ) (part : ActorPart) (stock : Stock) → OwnsLocks actor part (holders_of stock.bays) → part.standing ≡ nothing_taken → HoldsNone actor stock
holds_none actor part stock owns none frame held = true≢false (sym (owns.only frame held) ∙ ap (λ (s : Standing). locks_frame frame (record part { standing = s })) none)

none_left : (outcome : Option Outcome) (lock : Option Taken) (standing : Standing) → lock ≡ None → standing ≡ nothing_taken → locks_left outcome (with_taken lock standing).locks ≡ []
none_left None lock standing no_lock none = λ i. (with_taken (no_lock i) (none i)).locks
none_left (Some outcome) lock standing no_lock none = refl

-- and an event that takes none leaves all locks
pub none_relocked : (actor : ℕ) (part : ActorPart) (shown : Shown) (old new : Stock) → OwnsLocks actor part (holders_of old.bays) → part.standing ≡ nothing_taken → shown.lock ≡ None → locks_of new ≡ locks_of old
    → holders_of new.bays ≡ relocked actor (locks_by shown part.standing) (holders_of old.bays)
none_relocked actor part shown old new owns none no_lock same =
    (λ i. (same i).holder)
    ∙ sym (relocked_none actor (holders_of old.bays) (holds_none actor part old owns none))
    ∙ ap (λ (locks : List PageLock). relocked actor locks (holders_of old.bays)) (sym (none_left shown.outcome shown.lock part.standing no_lock none))

no_context_left : (outcome : Option Outcome) (lock : Option Taken) (standing : Standing) → TakesPageAlone lock → standing.context_lock ≡ None → context_left outcome (with_taken lock standing).context_lock ≡ None
no_context_left None None standing takes none = none
no_context_left None (Some (OfPage taken)) standing takes none = none
no_context_left None (Some (OfContext guest)) standing takes none = absurd takes
no_context_left None (Some Made) standing takes none = absurd takes
no_context_left (Some outcome) lock standing takes none = refl

let_go_none : (actor guest : ℕ) (held : Option ℕ) → held ≢ Some actor → released actor held ≡ held
let_go_none actor guest None other = refl
let_go_none actor guest (Some holder) other = let apart : holder ≢ actor = λ same. other (ap (λ (n : ℕ). Some n) same) in grind (arith, nat_tests)

-- an actor that has locked no context, by an event that locks none
unlocked_recontexted : (actor : ℕ) (part : ActorPart) (shown : Shown) (old new : Stock) → OwnsContext actor part (context_holders_of old.contexts) → part.standing.context_lock ≡ None → TakesPageAlone shown.lock → new.contexts ≡ old.contexts
    → context_holders_of new.contexts ≡ recontexted actor (context_by shown part.standing) (context_holders_of old.contexts)
unlocked_recontexted actor part shown old new owns none takes same =
    let holds_none = λ (guest : ℕ). λ (held : context_holders_of old.contexts guest ≡ Some actor). true≢false (sym (owns.only guest held) ∙ ap (is_locked guest) none) in
    ap context_holders_of same
    ∙ (λ i guest. sym (let_go_none actor guest (context_holders_of old.contexts guest) (holds_none guest)) i)
    ∙ ap (λ (lock : Option ℕ). recontexted actor lock (context_holders_of old.contexts)) (sym (no_context_left shown.outcome shown.lock part.standing takes none))

pub takes_none : (lock : Option Taken) → lock ≡ None → TakesPageAlone lock
takes_none None none = tt
takes_none (Some taken) none = absurd cc

-- an event that takes the lock of a page, or nothing, makes no page
pub page_alone_made : (lock : Option Taken) → TakesPageAlone lock → MakesNoPage lock
page_alone_made None takes = tt
page_alone_made (Some (OfPage taken)) takes = tt
page_alone_made (Some (OfContext guest)) takes = absurd takes
page_alone_made (Some Made) takes = absurd takes

pub none_made : (lock : Option Taken) → lock ≡ None → MakesNoPage lock
none_made lock none = page_alone_made lock (takes_none lock none)

taken_alike : (page : MadePage) (lock : Option Taken) (standing : Standing) → MakesNoPage lock → with_taken lock standing ≡ with_made page lock standing
taken_alike page None standing makes = refl
taken_alike page (Some (OfPage taken)) standing makes = refl
taken_alike page (Some (OfContext guest)) standing makes = refl
taken_alike page (Some Made) standing makes = absurd makes

-- so what stands at the place for one doesn't matter
pub moves_alike : (page : MadePage) (shown : Shown) (after : View) (standing : Standing) → MakesNoPage shown.lock → move_by shown after (standing_by shown standing) ≡ move_by shown after (standing_with page shown standing)
moves_alike page shown after standing makes = ap (move_by shown after) (taken_alike page shown.lock standing makes)

-- and its lock, if it takes one, is that of a page
pub page_taken_some : (lock : Option Taken) → takes_page lock ≡ true → IsSome lock
page_taken_some None takes = absurd (true≢false (sym takes))
page_taken_some (Some taken) takes = refl

-- so of an attempt that has taken nothing, by an event that takes nothing
pub none_recontexted : (actor : ℕ) (part : ActorPart) (shown : Shown) (old new : Stock) → OwnsContext actor part (context_holders_of old.contexts) → part.standing ≡ nothing_taken → shown.lock ≡ None → new.contexts ≡ old.contexts
    → context_holders_of new.contexts ≡ recontexted actor (context_by shown part.standing) (context_holders_of old.contexts)
none_recontexted actor part shown old new owns none no_lock same =
    unlocked_recontexted actor part shown old new owns (ap (λ (s : Standing). s.context_lock) none) (takes_none shown.lock no_lock) same

-- and of an instruction
pub instruction_recontexted : (actor : ℕ) (part : ActorPart) (shown : Shown) (old new : Stock) (Holds : PageLock → Type 0) → OwnsContext actor part (context_holders_of old.contexts) → AreInstructionLocks Holds part.standing → TakesPageAlone shown.lock
    → new.contexts ≡ old.contexts → context_holders_of new.contexts ≡ recontexted actor (context_by shown part.standing) (context_holders_of old.contexts)
instruction_recontexted actor part shown old new Holds owns locks takes same = unlocked_recontexted actor part shown old new owns locks.context takes same

-- an instruction has locked one page, where it has locked any
pub record HasOne (Holds : PageLock → Type 0) (locks : List PageLock) : Type 0 where
  pub lock : PageLock
  pub are : locks ≡ lock ∷ []
  pub holds : Holds lock

pub has_one : (Holds : PageLock → Type 0) (locks : List PageLock) → nat_lt 0 (length locks) ≡ true → IsOneLock Holds locks → HasOne Holds locks
has_one Holds [] some one = absurd (true≢false (sym some))
has_one Holds (lock ∷ others) some one = record { lock = lock; are = ap (λ (ls : List PageLock). lock ∷ ls) one.1; holds = one.0 }

some_lock : (others : List PageLock) → nat_lt 0 (suc (length others)) ≡ true
some_lock others = grind (arith, nat_tests)

no_locks : (locks : List PageLock) → nat_lt 0 (length locks) ≡ false → locks ≡ []
no_locks [] none = refl
no_locks (lock ∷ others) none = absurd (true≢false (sym (some_lock others) ∙ none))

pub has_none : (Holds : PageLock → Type 0) (standing : Standing) → nat_lt 0 (length standing.locks) ≡ false → AreInstructionLocks Holds standing → standing ≡ nothing_taken
has_none Holds standing none locks = λ i. record { locks = no_locks standing.locks none i; context_lock = locks.context i; computed = locks.computed i }

or_false : (b : Bool) → (b || false) ≡ b
or_false true = refl
or_false false = refl

-- its actor holds that page alone
pub holds_lock : (actor : ℕ) (part : ActorPart) (lock : PageLock) (stock : Stock) → OwnsLocks actor part (holders_of stock.bays) → part.standing.locks ≡ lock ∷ [] → HoldsLock actor lock stock
holds_lock actor part lock stock owns are =
    let covered = λ (frame : ℕ). ap (λ (ls : List PageLock). list_any (covers frame) ls) are ∙ or_false (covers frame lock) in
    record {
      has = λ frame covers_it. owns.has frame (covered frame ∙ covers_it);
      only = λ frame held. sym (covered frame) ∙ owns.only frame held;
    }

-- the frame of an instruction that isn't refused at once is there, and that of one that has locked
pub lock_has : (refused : Bool) (frame : ℕ) (locks : List PageLock) (stock : Stock) → HasTouched (instruction_touches refused frame locks) stock → nat_lt 0 (length locks) ≡ false → refused ≡ false → HasFrame stock frame
unfolding instruction_touches
lock_has true frame locks stock has none fine = absurd (true≢false fine)
lock_has false frame [] stock has none fine = has.bays frame (grind (arith, nat_tests))
lock_has false frame (lock ∷ others) stock has none fine = absurd (true≢false (sym (some_lock others) ∙ none))

pub commit_has : (refused : Bool) (frame : ℕ) (locks : List PageLock) (stock : Stock) → HasTouched (instruction_touches refused frame locks) stock → nat_lt 0 (length locks) ≡ true → HasFrame stock frame
unfolding instruction_touches
commit_has refused frame [] stock has some = absurd (true≢false (sym some))
commit_has refused frame (lock ∷ others) stock has some = has.bays frame (also_touched (lock ∷ others) (frame_touched frame) frame (grind (arith, nat_tests)))

-- the region that an instruction names, or its refusal
pub record IsFound (bad : Bool) (frame region : ℕ) : Type 0 where
  pub fine : bad ≡ false
  pub region_is : region ≡ frame / 512

pub region_found : (bad : Bool) (frame region : ℕ) (answer : Result ℕ ℕ) → answer ≡ Ok region → answer ≡ region_answer bad frame → IsFound bad frame region
region_found true frame region answer is found = absurd (let e = sym is ∙ found in cc)
region_found false frame region answer is found = let e = sym is ∙ found in record { fine = refl; region_is = cc }

pub record IsBad (bad : Bool) (status : ℕ) : Type 0 where
  pub bad_is : bad ≡ true
  pub status_is : status ≡ 1

pub region_refused : (bad : Bool) (frame status : ℕ) (answer : Result ℕ ℕ) → answer ≡ Err status → answer ≡ region_answer bad frame → IsBad bad status
region_refused true frame status answer is found = let e = sym is ∙ found in record { bad_is = refl; status_is = cc }
region_refused false frame status answer is found = absurd (let e = sym is ∙ found in cc)

-- the answer to a lock that is asked for
pub answer_refused : (refusal : Option Refusal) (why : Refusal) (answer : Result (Unit {0}) Refusal) → answer ≡ Err why → answer ≡ refusal_answer refusal → refusal ≡ Some why
answer_refused None why answer is found = absurd (let e = sym is ∙ found in cc)
answer_refused (Some refusal) why answer is found = let e = sym is ∙ found in cc

pub answer_passed : (refusal : Option Refusal) (unit : Unit {0}) (answer : Result (Unit {0}) Refusal) → answer ≡ Ok unit → answer ≡ refusal_answer refusal → refusal ≡ None
answer_passed None unit answer is found = refl
answer_passed (Some refusal) unit answer is found = absurd (let e = sym is ∙ found in cc)

-- what is shown of it
pub shown_refused : (lock : PageLock) (why : Refusal) (refusal : Option Refusal) (shown : Shown) → shown ≡ lock_shown lock (Some why) → refusal ≡ Some why → shown ≡ lock_shown lock refusal
shown_refused lock why refusal shown is refused = is ∙ ap (lock_shown lock) (sym refused)

pub shown_locked : (lock : PageLock) (taken : TakenLock) (refusal : Option Refusal) (shown : Shown) → shown ≡ record { deed = deeds.Lock taken.frame; outcome = None; lock = Some (OfPage taken) }
    → taken ≡ record { frame = lock.frame; base = lock.base; count = lock.count } → refusal ≡ None → shown ≡ lock_shown lock refusal
shown_locked lock taken refusal shown is taken_is passed =
    is ∙ ap (λ (t : TakenLock). let s : Shown = record { deed = deeds.Lock t.frame; outcome = None; lock = Some (OfPage t) } in s) taken_is ∙ ap (lock_shown lock) (sym passed)

-- the move of a lock that is asked for
pub lock_shows : (view : View) (part : ActorPart) (lock : PageLock) (refusal : Option Refusal) → instruction_lock view part lock refusal ≡ move_by (lock_shown lock refusal) view (standing_by (lock_shown lock refusal) part.standing)
unfolding lock_move
lock_shows view part lock None = refl
lock_shows view part lock (Some refusal) = refl

-- what is shown of an event that leaves memory
pub quiet_shows : (guests : List GuestSpec) (part : ActorPart) (old new : Stock) (same shown : Shown) → shown ≡ same → pages_of new.bays ≡ pages_of old.bays → new.contexts ≡ old.contexts
    → move_by same (view_on old guests) (standing_by same part.standing) ≡ move_by shown (view_on new guests) (standing_by shown part.standing)
quiet_shows guests part old new same shown is pages contexts =
    ap (λ (s : Shown). move_by s (view_on old guests) (standing_by s part.standing)) (sym is)
    ∙ (λ i. let m : Move = record { deed = shown.deed; outcome = shown.outcome; contents = record { pages = sym pages i; contexts = contexts_of (sym contexts i) guests }; standing = standing_by shown part.standing } in m)

-- and of a commit
pub committed : (old : Stock) (part : ActorPart) (deed : Deed) (outcome : Outcome) (pages : Pages) (guests : List GuestSpec) (new : Stock) (shown : Shown)
    → shown ≡ record { deed = deed; outcome = Some outcome; lock = None } → pages_of new.bays ≡ pages → new.contexts ≡ old.contexts
    → memory_move (contents_of old guests) part deed (Some outcome) pages ≡ move_by shown (view_on new guests) (standing_by shown part.standing)
committed old part deed outcome pages guests new shown is pages_are contexts =
    (λ i. let m : Move = record { deed = deed; outcome = Some outcome; contents = record { pages = sym pages_are i; contexts = contexts_of (sym contexts i) guests }; standing = part.standing } in m)
    ∙ ap (λ (s : Shown). move_by s (view_on new guests) (standing_by s part.standing)) (sym is)
