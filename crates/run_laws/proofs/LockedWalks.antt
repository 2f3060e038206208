-- What the events of a guest processor's items do to locks: their beginning, their walks, and what they do at their page.
use Rattle.std.proofs.Common.{◌≡◌, ℕ, ◌<◌, Bool, true, false, not, List, [], ◌∷◌, ◌++◌, length, Option, Some, None, refl, sym, ap, ◌∙◌, subst, arith}
use Rattle.std.proofs.lemmas.Bool.{cond_both, true≢false}
use Rattle.std.specs.Option.{option_map}
use Rattle.snp_model.specs.declared.access.Verdict.{Verdict}
use Rattle.snp_model.specs.declared.access.Verdict.TheVariants.{Pass, Hidden, Fault}
use Rattle.snp_model.specs.declared.entry.PageSize.{PageSize}
use Rattle.snp_model.specs.declared.entry.RmpEntry.{RmpEntry}
use Rattle.snp_model.specs.declared.event.Deed.{Deed}
use Rattle.snp_model.specs.declared.event.Deed.TheVariants as deeds
use Rattle.snp_model.specs.declared.event.Outcome.{Outcome}
use Rattle.snp_model.specs.declared.event.Outcome.TheVariants as outcomes
use Rattle.snp_model.specs.declared.event.Refusal.{Refusal}
use Rattle.snp_model.specs.declared.item.Item.{Item}
use Rattle.snp_model.specs.declared.item.Item.TheVariants as items
use Rattle.snp_model.specs.declared.item.Op.{Op}
use Rattle.snp_model.specs.declared.scenario.Role.{Role}
use Rattle.snp_model.specs.declared.scenario.Role.TheVariants.{Cpu}
use Rattle.snp_model.specs.declared.walk.Lookup.{Lookup}
use Rattle.snp_model.specs.declared.walk.Need.{Need}
use Rattle.snp_model.specs.declared.walk.Need.TheVariants as needs
use Rattle.snp_model.specs.GuestWalk.{levels_of, is_canonical}
use Rattle.snp_model.specs.InstructionStep.{refused_outcome, facts_of, instruction_lock, page_lookup, page_place, validate_begin, adjust_begin, validate_move, adjust_move, cpu_validate, cpu_adjust}
use Rattle.snp_model.specs.Locks.{covers, page_lock, view_of}
use Rattle.snp_model.specs.Moves.{Arrival, is_running, begin_move, table_move, need_move, walked_move}
use Rattle.snp_model.specs.Opening.{asid_of}
use Rattle.snp_model.specs.State.{Page, Pages, PageLock, Context, ActorPart, State}
use Rattle.snp_model.specs.Step.{data_move, data_place}
use Rattle.snp_model.specs.Validation.{validate_refusal, adjust_refusal, carry, validated_facts, validated_page, pages_validated, adjusted_facts, adjusted_page, pages_adjusted}
use Rattle.snp_model.specs.Walking.{Processor, lookup_of, index_of, need_after}
use Rattle.std.proofs.lemmas.List.{length_push}
use Rattle.run_laws.specs.HeldLocks.{PageTest, validate_test, adjust_test, IsWalkedLock, IsOneLock, AreInstructionLocks, AreItemLocks}
use Rattle.run_laws.specs.OpenAttempts.{IsLockingWalk, IsAttempt}
use Rattle.run_laws.proofs.HeldLocksLaws.{validate_freed, adjust_freed}
use Rattle.run_laws.proofs.LockLaws.{page_free}
use Rattle.run_laws.proofs.LockedItems.{no_outcome, first_lock, over_firm, beside_lock}
use Rattle.run_laws.proofs.LockedMoves.{IsFirm, Stands, MoveLocks, quiet_locks, ended_locks, access_locks, lock_locks, memory_locks, same_whole}
use Rattle.run_laws.proofs.OpenAttemptsLaws.{locked_need, arrived_move}
use Rattle.run_laws.proofs.TestedLaws.{validate_unheld, adjust_unheld}
use Rattle.run_laws.proofs.UseLaws.{pass_mutable, shared_holds_none}

-- a guest processor as a role
abbrev pub role_of : Processor → Role
role_of cpu = Cpu cpu.guest cpu.vmpl cpu.npt cpu.paging

-- what was tested stays so whatever the item does that changes nothing
abbrev pub StaysTested : State → ActorPart → Role → Item → Type 0
StaysTested m part role item = (deed : Deed) → AreItemLocks m.frames m.guests m.contents role item (part.deeds ++ deed ∷ []) part.standing

begin_locks : (m : State) (part : ActorPart) (role : Role) (item : Item) (context : Context) (levels address : ℕ) (refusal : Option Outcome) → Stands m part role item → StaysTested m part role item
    → MoveLocks m part role item (begin_move m.contents part context levels address refusal)
unfolding begin_move
begin_locks m part role item context levels address refusal stands later =
    let quiet = λ (outcome : Option Outcome). quiet_locks m part role item deeds.Begin outcome stands (λ _. later deeds.Begin) in
    cond_both (not (is_running context.state)) _ _ (MoveLocks m part role item) (λ _. quiet (Some outcomes.Offline))
    (λ _. cond_both (not (is_canonical levels address)) _ _ (MoveLocks m part role item) (λ _. quiet (Some outcomes.Gp)) (λ _. quiet refusal))

table_locks : (m : State) (part : ActorPart) (role : Role) (item : Item) (cpu : Processor) (lookup : Lookup) (verdict : Verdict) (gpn index frame : ℕ) → Stands m part role item → StaysTested m part role item
    → MoveLocks m part role item (table_move m.frames m.contents part cpu lookup verdict gpn index frame)
unfolding table_move
table_locks m part role item cpu lookup Pass gpn index frame stands later = quiet_locks m part role item _ _ stands (λ _. later _)
table_locks m part role item cpu lookup Hidden gpn index frame stands later = ended_locks m part role item (deeds.Table gpn index frame None) outcomes.Opaque stands
table_locks m part role item cpu lookup (Fault outcome) gpn index frame stands later = ended_locks m part role item (deeds.Table gpn index frame None) outcome stands

-- what an item does at the page that its walks have led to
abbrev pub ArrivesLocks : State → ActorPart → Role → Item → Processor → Lookup → Arrival → Type 0
ArrivesLocks m part role item cpu lookup arrives =
    (gpn : ℕ) (private : Bool) (frame : ℕ) (leaf : PageSize) → need_after m.frames cpu lookup part.deeds ≡ needs.Data gpn private frame leaf → MoveLocks m part role item (arrives gpn private frame leaf)

need_locks : (m : State) (part : ActorPart) (role : Role) (item : Item) (cpu : Processor) (lookup : Lookup) (arrives : Arrival) (need : Need) → need_after m.frames cpu lookup part.deeds ≡ need
    → Stands m part role item → StaysTested m part role item → ArrivesLocks m part role item cpu lookup arrives
    → MoveLocks m part role item (need_move m.frames m.guests m.contents part cpu lookup arrives need)
unfolding need_move
need_locks m part role item cpu lookup arrives (needs.Nested frame index) is stands later at = quiet_locks m part role item _ _ stands (λ _. later _)
need_locks m part role item cpu lookup arrives (needs.Table gpn index frame size) is stands later at = table_locks m part role item cpu lookup _ gpn index frame stands later
need_locks m part role item cpu lookup arrives (needs.Data gpn private frame size) is stands later at = at gpn private frame size is
need_locks m part role item cpu lookup arrives (needs.Fault outcome) is stands later at = ended_locks m part role item deeds.Control outcomes.Next stands

walked_from : (m : State) (part : ActorPart) (role : Role) (item : Item) (cpu : Processor) (lookup : Lookup) (refusal : Option Outcome) (arrives : Arrival) (made : List Deed) → part.deeds ≡ made
    → Stands m part role item → StaysTested m part role item → ArrivesLocks m part role item cpu lookup arrives
    → MoveLocks m part role item (walked_move m.frames m.guests m.contents part cpu lookup refusal arrives made)
unfolding walked_move
walked_from m part role item cpu lookup refusal arrives [] is stands later at =
    begin_locks m part role item (m.contents.contexts cpu.guest) (levels_of cpu.paging) lookup.address refusal stands later
walked_from m part role item cpu lookup refusal arrives (deed ∷ others) is stands later at =
    need_locks m part role item cpu lookup arrives (need_after m.frames cpu lookup (deed ∷ others)) (ap (need_after m.frames cpu lookup) is) stands later at

pub walked_locks : (m : State) (part : ActorPart) (role : Role) (item : Item) (cpu : Processor) (lookup : Lookup) (refusal : Option Outcome) (arrives : Arrival)
    → Stands m part role item → StaysTested m part role item → ArrivesLocks m part role item cpu lookup arrives
    → MoveLocks m part role item (walked_move m.frames m.guests m.contents part cpu lookup refusal arrives part.deeds)
walked_locks m part role item cpu lookup refusal arrives stands later at = walked_from m part role item cpu lookup refusal arrives part.deeds refl stands later at

-- an access, private or shared
pub data_locks : (m : State) (part : ActorPart) (cpu : Processor) (address : ℕ) (op : Op) → Stands m part (role_of cpu) (items.Access address op)
    → ArrivesLocks m part (role_of cpu) (items.Access address op) cpu (lookup_of address op) (data_move m.guests m.contents part cpu address op)
data_locks m part cpu address op stands gpn true frame size need =
    let facts = (m.contents.pages frame).facts in
    let place = data_place (asid_of m.guests cpu.guest) cpu.vmpl address gpn true frame size in
    access_locks m part (role_of cpu) (items.Access address op) _ _ op frame (index_of address) stands
    (λ passed assigned immutable. true≢false (sym immutable ∙ pass_mutable facts place op passed))
data_locks m part cpu address op stands gpn false frame size need =
    let facts = (m.contents.pages frame).facts in
    let place = data_place (asid_of m.guests cpu.guest) cpu.vmpl address gpn false frame size in
    access_locks m part (role_of cpu) (items.Access address op) _ _ op frame (index_of address) stands
    (λ passed assigned immutable. true≢false (sym assigned ∙ shared_holds_none facts place op passed))

tested_before : (m : State) (part : ActorPart) (cpu : Processor) (address : ℕ) (op : Op) (deed : Deed) → AreItemLocks m.frames m.guests m.contents (role_of cpu) (items.Access address op) part.deeds part.standing
    → AreItemLocks m.frames m.guests m.contents (role_of cpu) (items.Access address op) (part.deeds ++ deed ∷ []) part.standing
unfolding AreItemLocks
tested_before m part cpu address op deed tested = tested

access_stays_tested : (m : State) (part : ActorPart) (cpu : Processor) (address : ℕ) (op : Op) → Stands m part (role_of cpu) (items.Access address op) → StaysTested m part (role_of cpu) (items.Access address op)
access_stays_tested m part cpu address op stands deed = tested_before m part cpu address op deed stands.tested

pub cpu_access_locks : (m : State) (part : ActorPart) (cpu : Processor) (address : ℕ) (op : Op) → Stands m part (role_of cpu) (items.Access address op)
    → MoveLocks m part (role_of cpu) (items.Access address op) (walked_move m.frames m.guests m.contents part cpu (lookup_of address op) None (data_move m.guests m.contents part cpu address op) part.deeds)
cpu_access_locks m part cpu address op stands =
    walked_locks m part (role_of cpu) (items.Access address op) cpu (lookup_of address op) None (data_move m.guests m.contents part cpu address op) stands (access_stays_tested m part cpu address op stands)
    (data_locks m part cpu address op stands)

-- PVALIDATE and RMPADJUST: what has no lock yet walks on, or takes it

-- where nothing is locked, nothing was tested
none_tested : (Holds Holds' : PageLock → Type 0) (part : ActorPart) → part.standing.locks ≡ [] → AreInstructionLocks Holds part.standing → AreInstructionLocks Holds' part.standing
none_tested Holds Holds' part none before = record { lock = subst (IsOneLock Holds') (sym none) tt; context = before.context; computed = before.computed }

-- the page's lock, which is tested as this instruction tests it
page_locks : (m : State) (part : ActorPart) (item : Item) (cpu : Processor) (address : ℕ) (test : PageTest) (refusal : Option Refusal) (gpn : ℕ) (private : Bool) (frame : ℕ) (leaf : PageSize)
    → Stands m part (role_of cpu) item → part.standing.locks ≡ [] → need_after m.frames cpu (page_lookup address) part.deeds ≡ needs.Data gpn private frame leaf
    → (refusal ≡ None → (view_of m).holder frame ≡ None) → (refusal ≡ None → test (page_place (asid_of m.guests cpu.guest) cpu.vmpl gpn frame leaf) (facts_of m.contents frame) ≡ None)
    → AreInstructionLocks (IsWalkedLock m.frames m.guests m.contents cpu address test part.deeds) part.standing
    → (AreInstructionLocks (IsWalkedLock m.frames m.guests m.contents cpu address test (part.deeds ++ deeds.Lock frame ∷ [])) (record part.standing { locks = part.standing.locks ++ page_lock (facts_of m.contents frame).size frame ∷ [] })
    → AreItemLocks m.frames m.guests m.contents (role_of cpu) item (part.deeds ++ deeds.Lock frame ∷ []) (record part.standing { locks = part.standing.locks ++ page_lock (facts_of m.contents frame).size frame ∷ [] }))
    → MoveLocks m part (role_of cpu) item (instruction_lock (view_of m) part (page_lock (facts_of m.contents frame).size frame) refusal)
page_locks m part item cpu address test refusal gpn private frame leaf stands none need unheld passes tested is_item =
    let lock = page_lock (facts_of m.contents frame).size frame in
    let Holds = IsWalkedLock m.frames m.guests m.contents cpu address test in
    let made = part.deeds ++ deeds.Lock frame ∷ [] in
    lock_locks m part (role_of cpu) item lock (option_map refused_outcome refusal) stands
    (λ open_is. page_free m.contents.pages m.actors frame stands.whole stands.exclusive (unheld (no_outcome refusal open_is)))
    (λ open_is. is_item (first_lock (Holds made) part lock none (none_tested (Holds part.deeds) (Holds made) part none tested)
    (record {
      gpn = gpn;
      private = private;
      leaf = leaf;
      arrived = locked_need m.frames cpu (page_lookup address) part.deeds frame ∙ need;
      covers = refl;
      passes = passes (no_outcome refusal open_is);
    })))

-- the lock that an instruction has, and where its walks have led
record HasCome (m : State) (part : ActorPart) (cpu : Processor) (address : ℕ) (test : PageTest) (lock : PageLock) : Type 0 where
  long : 0 < length part.deeds
  holds : IsWalkedLock m.frames m.guests m.contents cpu address test part.deeds lock

has_come : (m : State) (part : ActorPart) (cpu : Processor) (address : ℕ) (test : PageTest) (lock : PageLock) (others : List PageLock) → part.standing.locks ≡ lock ∷ others
    → AreInstructionLocks (IsWalkedLock m.frames m.guests m.contents cpu address test part.deeds) part.standing → IsLockingWalk m.frames cpu (page_lookup address) part.standing.locks part.deeds
    → HasCome m part cpu address test lock
has_come m part cpu address test lock others is tested walking =
    let walk = subst (λ (ls : List PageLock). IsLockingWalk m.frames cpu (page_lookup address) ls part.deeds) is walking in
    let has = walk.0 in
    record {
      long = rw (has.then_locked, length_push has.walked (deeds.Lock lock.frame)) (omega arith);
      holds = (subst (IsOneLock (IsWalkedLock m.frames m.guests m.contents cpu address test part.deeds)) is tested.lock).0;
    }

-- the commit of an instruction on its page
validated_firm : (validate : Bool) (own : RmpEntry) (lock : PageLock) (pages : Pages) (f : ℕ) → covers f lock ≡ false → IsFirm (pages_validated validate own lock pages f) (pages f)
unfolding pages_validated
validated_firm validate own lock pages f beside = over_firm lock (λ place. validated_page validate own) pages f beside

validated_size : (validate : Bool) (own : RmpEntry) (lock : PageLock) (pages : Pages) (f : ℕ) → (pages_validated validate own lock pages f).facts.size ≡ (pages f).facts.size
unfolding pages_validated validated_facts
validated_size validate own lock pages f =
    cond_both (covers f lock) _ _ (λ (page : Page). page.facts.size ≡ (pages f).facts.size)
    (λ _. cond_both (carry validate own) _ _ (λ (facts : RmpEntry). facts.size ≡ (pages f).facts.size) (λ _. refl) (λ _. refl)) (λ _. refl)

adjusted_firm : (vmpl target mask : ℕ) (vmsa : Bool) (lock : PageLock) (pages : Pages) (f : ℕ) → covers f lock ≡ false → IsFirm (pages_adjusted vmpl target mask vmsa lock pages f) (pages f)
unfolding pages_adjusted
adjusted_firm vmpl target mask vmsa lock pages f beside = over_firm lock (λ place. adjusted_page vmpl target mask vmsa) pages f beside

adjusted_size : (vmpl target mask : ℕ) (vmsa : Bool) (lock : PageLock) (pages : Pages) (f : ℕ) → (pages_adjusted vmpl target mask vmsa lock pages f).facts.size ≡ (pages f).facts.size
unfolding pages_adjusted adjusted_facts
adjusted_size vmpl target mask vmsa lock pages f =
    cond_both (covers f lock) _ _ (λ (page : Page). page.facts.size ≡ (pages f).facts.size) (λ _. refl) (λ _. refl)

-- PVALIDATE
validate_from : (m : State) (part : ActorPart) (cpu : Processor) (address : ℕ) (size : PageSize) (validate : Bool) (locks : List PageLock) → part.standing.locks ≡ locks
    → Stands m part (role_of cpu) (items.Pvalidate address size validate)
    → MoveLocks m part (role_of cpu) (items.Pvalidate address size validate)
    (walked_move m.frames m.guests m.contents part cpu (page_lookup address) (validate_begin cpu address size) (validate_move m.guests (view_of m) part cpu size validate locks) part.deeds)
unfolding AreItemLocks IsAttempt validate_move
validate_from m part cpu address size validate [] none stands =
    let item = items.Pvalidate address size validate in
    let test = validate_test size in
    let Holds = IsWalkedLock m.frames m.guests m.contents cpu address test in
    walked_locks m part (role_of cpu) item cpu (page_lookup address) (validate_begin cpu address size) (validate_move m.guests (view_of m) part cpu size validate []) stands
    (λ deed. none_tested (Holds part.deeds) (Holds (part.deeds ++ deed ∷ [])) part none stands.tested)
    (λ gpn private frame leaf need.
    let facts = facts_of m.contents frame in
    let place = page_place (asid_of m.guests cpu.guest) cpu.vmpl gpn frame leaf in
    let holder = (view_of m).holder frame in
    page_locks m part item cpu address test (validate_refusal place size facts holder) gpn private frame leaf stands none need
    (validate_unheld place size facts holder) (validate_freed place size facts holder) stands.tested (λ tested. tested))
validate_from m part cpu address size validate (lock ∷ others) some stands =
    let item = items.Pvalidate address size validate in
    let come = has_come m part cpu address (validate_test size) lock others some stands.tested stands.walking.walk in
    let arrives = validate_move m.guests (view_of m) part cpu size validate (lock ∷ others) in
    let own = facts_of m.contents lock.frame in
    let pages = m.contents.pages in
    subst (MoveLocks m part (role_of cpu) item)
    (sym (arrived_move m.frames m.guests m.contents part cpu (page_lookup address) (validate_begin cpu address size) arrives part.deeds come.holds.gpn come.holds.private lock.frame come.holds.leaf come.long come.holds.arrived))
    (memory_locks m part (role_of cpu) item _ _ (pages_validated validate own lock pages)
    (λ f free. validated_firm validate own lock pages f (beside_lock part lock others f some free))
    (same_whole pages (pages_validated validate own lock pages) (validated_size validate own lock pages) stands.whole))

pub validate_locks : (m : State) (part : ActorPart) (cpu : Processor) (address : ℕ) (size : PageSize) (validate : Bool) → Stands m part (role_of cpu) (items.Pvalidate address size validate)
    → MoveLocks m part (role_of cpu) (items.Pvalidate address size validate) (cpu_validate m.frames m.guests (view_of m) part cpu address size validate)
validate_locks m part cpu address size validate stands = validate_from m part cpu address size validate part.standing.locks refl stands

-- RMPADJUST
adjust_from : (m : State) (part : ActorPart) (cpu : Processor) (address : ℕ) (size : PageSize) (target mask : ℕ) (vmsa : Bool) (locks : List PageLock) → part.standing.locks ≡ locks
    → Stands m part (role_of cpu) (items.Rmpadjust address size target mask vmsa)
    → MoveLocks m part (role_of cpu) (items.Rmpadjust address size target mask vmsa)
    (walked_move m.frames m.guests m.contents part cpu (page_lookup address) (adjust_begin cpu address size target mask) (adjust_move m.guests (view_of m) part cpu size target mask vmsa locks) part.deeds)
unfolding AreItemLocks IsAttempt adjust_move
adjust_from m part cpu address size target mask vmsa [] none stands =
    let item = items.Rmpadjust address size target mask vmsa in
    let test = adjust_test size mask vmsa in
    let Holds = IsWalkedLock m.frames m.guests m.contents cpu address test in
    walked_locks m part (role_of cpu) item cpu (page_lookup address) (adjust_begin cpu address size target mask) (adjust_move m.guests (view_of m) part cpu size target mask vmsa []) stands
    (λ deed. none_tested (Holds part.deeds) (Holds (part.deeds ++ deed ∷ [])) part none stands.tested)
    (λ gpn private frame leaf need.
    let facts = facts_of m.contents frame in
    let place = page_place (asid_of m.guests cpu.guest) cpu.vmpl gpn frame leaf in
    let holder = (view_of m).holder frame in
    page_locks m part item cpu address test (adjust_refusal place size mask vmsa facts holder) gpn private frame leaf stands none need
    (adjust_unheld place size mask vmsa facts holder) (adjust_freed place size mask vmsa facts holder) stands.tested (λ tested. tested))
adjust_from m part cpu address size target mask vmsa (lock ∷ others) some stands =
    let item = items.Rmpadjust address size target mask vmsa in
    let come = has_come m part cpu address (adjust_test size mask vmsa) lock others some stands.tested stands.walking.walk in
    let arrives = adjust_move m.guests (view_of m) part cpu size target mask vmsa (lock ∷ others) in
    let pages = m.contents.pages in
    let new = pages_adjusted cpu.vmpl target mask vmsa lock pages in
    subst (MoveLocks m part (role_of cpu) item)
    (sym (arrived_move m.frames m.guests m.contents part cpu (page_lookup address) (adjust_begin cpu address size target mask) arrives part.deeds come.holds.gpn come.holds.private lock.frame come.holds.leaf come.long come.holds.arrived))
    (memory_locks m part (role_of cpu) item _ _ new
    (λ f free. adjusted_firm cpu.vmpl target mask vmsa lock pages f (beside_lock part lock others f some free))
    (same_whole pages new (adjusted_size cpu.vmpl target mask vmsa lock pages) stands.whole))

pub adjust_locks : (m : State) (part : ActorPart) (cpu : Processor) (address : ℕ) (size : PageSize) (target mask : ℕ) (vmsa : Bool) → Stands m part (role_of cpu) (items.Rmpadjust address size target mask vmsa)
    → MoveLocks m part (role_of cpu) (items.Rmpadjust address size target mask vmsa) (cpu_adjust m.frames m.guests (view_of m) part cpu address size target mask vmsa)
adjust_locks m part cpu address size target mask vmsa stands = adjust_from m part cpu address size target mask vmsa part.standing.locks refl stands
