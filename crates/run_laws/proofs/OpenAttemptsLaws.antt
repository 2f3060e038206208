-- In every run, the reads of an open attempt are those that its walks call for.
use Rattle.std.proofs.Common.{◌≡◌, ℕ, ◌-◌, ◌/◌, Bool, true, false, not, List, [], ◌∷◌, ◌++◌, length, Option, Some, None, get_or, refl, sym, ap, ◌∙◌, ◌<◌, subst, arith}
use Rattle.std.proofs.lemmas.Bool.{cond_both}
use Rattle.std.proofs.lemmas.Bool.Decides.{nat_tests}
use Rattle.std.proofs.lemmas.List.{append-nil, append_assoc, length_push}
use Rattle.std.proofs.lemmas.List.Elements.{All-set, All-map}
use Rattle.snp_model.specs.declared.access.Verdict.{Verdict}
use Rattle.snp_model.specs.declared.access.Verdict.TheVariants.{Pass, Hidden, Fault}
use Rattle.snp_model.specs.declared.entry.PageSize.{PageSize}
use Rattle.snp_model.specs.declared.event.Deed.{Deed}
use Rattle.snp_model.specs.declared.event.Deed.TheVariants as deeds
use Rattle.snp_model.specs.declared.event.Outcome.{Outcome}
use Rattle.snp_model.specs.declared.item.Item.{Item}
use Rattle.snp_model.specs.declared.item.Item.TheVariants as items
use Rattle.snp_model.specs.declared.item.Op.{Op}
use Rattle.snp_model.specs.declared.scenario.Actor.{Actor}
use Rattle.snp_model.specs.declared.scenario.GuestSpec.{GuestSpec}
use Rattle.snp_model.specs.declared.scenario.Role.{Role}
use Rattle.snp_model.specs.declared.scenario.Role.TheVariants.{Cpu, Host, Firmware}
use Rattle.snp_model.specs.declared.scenario.Scenario.{Scenario}
use Rattle.snp_model.specs.declared.walk.Lookup.{Lookup}
use Rattle.snp_model.specs.declared.walk.Need.{Need}
use Rattle.snp_model.specs.declared.walk.Need.TheVariants as needs
use Rattle.snp_model.specs.GuestWalk.{levels_of, is_canonical}
use Rattle.snp_model.specs.Locks.{view_of}
use Rattle.snp_model.specs.Opening.{opening, opening_part}
use Rattle.snp_model.specs.Run.{state_from, state_after, IsDefinedFrom, IsDefined}
use Rattle.snp_model.specs.InstructionStep.{page_lookup, validate_begin, validate_move, adjust_begin, adjust_move, update_move, smash_move}
use Rattle.snp_model.specs.declared.item.Update.{Update}
use Rattle.snp_model.specs.State.{PageLock, Standing, ActorPart, Context, Contents, State, View, part_of, idle_part, IsUnfinished, word_of, nothing_taken}
use Rattle.snp_model.specs.Moves.{Move, lock_move, Arrival, is_running, begin_move, table_word, table_move, need_move, walked_move}
use Rattle.snp_model.specs.Step.{step_of, after, part_after, item_move, line_at, access_move, data_move, host_access, event_of}
use Rattle.snp_model.specs.Walking.{Processor, lookup_of, guest_words, nested_words_after, need_after}
use Rattle.run_laws.specs.OpenAttempts.{CallsFor, AreCalledFor, IsWalk, IsLockingWalk, IsLockingAttempt, IsLocking, IsAttempt, IsWalking, AreWalking, ReadsMemory}
use Rattle.run_laws.proofs.CommandLaws.{command_stays, command_begins, command_reads}
use Rattle.run_laws.proofs.ShapeLaws.{guest_words_append, nested_words_append}
use Rattle.run_laws.proofs.RunLaws.{unfinished_at}

-- one read more, that is called for
called_more : (frames : ℕ) (cpu : Processor) (lookup : Lookup) (made others : List Deed) (deed : Deed)
    → AreCalledFor frames cpu lookup made others → CallsFor frames cpu lookup (made ++ others) deed → AreCalledFor frames cpu lookup made (others ++ deed ∷ [])
unfolding AreCalledFor
called_more frames cpu lookup made [] deed called calls = (subst (λ (ds : List Deed). CallsFor frames cpu lookup ds deed) (append-nil made) calls, tt)
called_more frames cpu lookup made (first ∷ others) deed called calls = (
  called.0,
  called_more frames cpu lookup (made ++ first ∷ []) others deed called.1 (subst (λ (ds : List Deed). CallsFor frames cpu lookup ds deed) (sym (append_assoc made (first ∷ []) others)) calls),
)

walk_more : (frames : ℕ) (cpu : Processor) (lookup : Lookup) (first : Deed) (others : List Deed) (deed : Deed)
    → IsWalk frames cpu lookup (first ∷ others) → CallsFor frames cpu lookup (first ∷ others) deed → IsWalk frames cpu lookup (first ∷ (others ++ deed ∷ []))
unfolding IsWalk
walk_more frames cpu lookup deeds.Begin others deed is calls = (is.0, called_more frames cpu lookup (deeds.Begin ∷ []) others deed is.1 calls)
walk_more frames cpu lookup first others deed is calls = absurd is

-- an item that has begun has a canonical address
pub walk_canonical : (frames : ℕ) (cpu : Processor) (lookup : Lookup) (made : List Deed) → (length made ≡ 0 → ⊥) → IsWalk frames cpu lookup made → is_canonical (levels_of cpu.paging) lookup.address ≡ true
unfolding IsWalk
walk_canonical frames cpu lookup [] begun is = absurd (begun refl)
walk_canonical frames cpu lookup (deeds.Begin ∷ others) begun is = is.0
walk_canonical frames cpu lookup (first ∷ others) begun is = absurd is

-- after a move that leaves the attempt open it is as it is to be, by its locks and deeds
record Stays (is_ok : List PageLock → List Deed → Type 0) (part : ActorPart) (move : Move) : Type 0 where
  open_is : move.outcome ≡ None → is_ok move.standing.locks (part.deeds ++ move.deed ∷ [])

-- a walk is as it is to be, with the locks that the part has
abbrev WalksOk : ℕ → Processor → Lookup → ActorPart → (List PageLock → List Deed → Type 0) → Type 0
WalksOk frames cpu lookup part is_ok = (made : List Deed) → IsWalk frames cpu lookup made → is_ok part.standing.locks made

has_begun : (frames : ℕ) (cpu : Processor) (lookup : Lookup) → not (is_canonical (levels_of cpu.paging) lookup.address) ≡ false → IsWalk frames cpu lookup (deeds.Begin ∷ [])
unfolding IsWalk AreCalledFor
has_begun frames cpu lookup right = (grind (arith, nat_tests, right), tt)

begin_stays : (is_ok : List PageLock → List Deed → Type 0) (frames : ℕ) (contents : Contents) (part : ActorPart) (cpu : Processor) (lookup : Lookup) (context : Context) (refusal : Option Outcome)
    → WalksOk frames cpu lookup part is_ok → part.deeds ≡ []
    → Stays is_ok part (begin_move contents part context (levels_of cpu.paging) lookup.address refusal)
unfolding begin_move
begin_stays is_ok frames contents part cpu lookup context refusal walks none =
    let P = Stays is_ok part in
    cond_both (not (is_running context.state)) _ _ P (λ _. record { open_is = λ e. cc })
    (λ _. cond_both (not (is_canonical (levels_of cpu.paging) lookup.address)) _ _ P (λ _. record { open_is = λ e. cc })
    (λ right. record { open_is = λ _. subst (λ (ds : List Deed). is_ok part.standing.locks (ds ++ deeds.Begin ∷ [])) (sym none) (walks (deeds.Begin ∷ []) (has_begun frames cpu lookup right)) }))

-- so after a word of a walk that is called for
read_stays : (is_ok : List PageLock → List Deed → Type 0) (frames : ℕ) (part : ActorPart) (cpu : Processor) (lookup : Lookup) (deed : Deed) (first : Deed) (others : List Deed)
    → WalksOk frames cpu lookup part is_ok → part.deeds ≡ first ∷ others → IsWalk frames cpu lookup (first ∷ others) → CallsFor frames cpu lookup (first ∷ others) deed
    → is_ok part.standing.locks (part.deeds ++ deed ∷ [])
read_stays is_ok frames part cpu lookup deed first others walks made is calls =
    subst (λ (ds : List Deed). is_ok part.standing.locks (ds ++ deed ∷ [])) (sym made) (walks _ (walk_more frames cpu lookup first others deed is calls))

table_stays : (is_ok : List PageLock → List Deed → Type 0) (frames : ℕ) (contents : Contents) (part : ActorPart) (cpu : Processor) (lookup : Lookup) (verdict : Verdict) (gpn index frame : ℕ) (size : PageSize) (first : Deed) (others : List Deed)
    → WalksOk frames cpu lookup part is_ok → part.deeds ≡ first ∷ others → IsWalk frames cpu lookup (first ∷ others) → need_after frames cpu lookup (first ∷ others) ≡ needs.Table gpn index frame size
    → Stays is_ok part (table_move frames contents part cpu lookup verdict gpn index frame)
unfolding table_move
table_stays is_ok frames contents part cpu lookup Pass gpn index frame size first others walks made is need =
    record { open_is = λ _. read_stays is_ok frames part cpu lookup (deeds.Table gpn index frame (Some (word_of (contents.pages frame) index))) first others walks made is (size, need) }
table_stays is_ok frames contents part cpu lookup Hidden gpn index frame size first others walks made is need = record { open_is = λ e. cc }
table_stays is_ok frames contents part cpu lookup (Fault outcome) gpn index frame size first others walks made is need = record { open_is = λ e. cc }

-- what an item that has made these deeds does at its page leaves its attempt as it is to be
abbrev ArrivesOk : (List PageLock → List Deed → Type 0) → ℕ → ActorPart → Processor → Lookup → Arrival → List Deed → Type 0
ArrivesOk is_ok frames part cpu lookup arrives made =
    (gpn : ℕ) (private : Bool) (frame : ℕ) (size : PageSize) → need_after frames cpu lookup made ≡ needs.Data gpn private frame size → Stays is_ok part (arrives gpn private frame size)

need_stays : (is_ok : List PageLock → List Deed → Type 0) (frames : ℕ) (guests : List GuestSpec) (contents : Contents) (part : ActorPart) (cpu : Processor) (lookup : Lookup) (arrives : Arrival) (need : Need) (first : Deed) (others : List Deed)
    → WalksOk frames cpu lookup part is_ok → ArrivesOk is_ok frames part cpu lookup arrives (first ∷ others)
    → part.deeds ≡ first ∷ others → IsWalk frames cpu lookup (first ∷ others) → need_after frames cpu lookup (first ∷ others) ≡ need
    → Stays is_ok part (need_move frames guests contents part cpu lookup arrives need)
unfolding need_move
need_stays is_ok frames guests contents part cpu lookup arrives (needs.Nested frame index) first others walks arrived made is need =
    record { open_is = λ _. read_stays is_ok frames part cpu lookup (deeds.Nested frame index (table_word (contents.pages frame) index)) first others walks made is need }
need_stays is_ok frames guests contents part cpu lookup arrives (needs.Table gpn index frame size) first others walks arrived made is need =
    table_stays is_ok frames contents part cpu lookup _ gpn index frame size first others walks made is need
need_stays is_ok frames guests contents part cpu lookup arrives (needs.Data gpn private frame size) first others walks arrived made is need = arrived gpn private frame size need
need_stays is_ok frames guests contents part cpu lookup arrives (needs.Fault outcome) first others walks arrived made is need = record { open_is = λ e. cc }

walked_stays : (is_ok : List PageLock → List Deed → Type 0) (frames : ℕ) (guests : List GuestSpec) (contents : Contents) (part : ActorPart) (cpu : Processor) (lookup : Lookup) (refusal : Option Outcome) (arrives : Arrival) (made : List Deed)
    → WalksOk frames cpu lookup part is_ok → ArrivesOk is_ok frames part cpu lookup arrives made
    → part.deeds ≡ made → IsWalk frames cpu lookup made → Stays is_ok part (walked_move frames guests contents part cpu lookup refusal arrives made)
unfolding walked_move
walked_stays is_ok frames guests contents part cpu lookup refusal arrives [] walks arrived made is = begin_stays is_ok frames contents part cpu lookup (contents.contexts cpu.guest) refusal walks made
walked_stays is_ok frames guests contents part cpu lookup refusal arrives (first ∷ others) walks arrived made is = need_stays is_ok frames guests contents part cpu lookup arrives _ first others walks arrived made is refl

-- an access ends at its page
access_stays : (is_ok : List PageLock → List Deed → Type 0) (contents : Contents) (part : ActorPart) (deed : Deed) (verdict : Verdict) (op : Op) (frame index : ℕ)
    → Stays is_ok part (access_move contents part deed verdict op frame index)
unfolding access_move
access_stays is_ok contents part deed Pass op frame index = record { open_is = λ e. cc }
access_stays is_ok contents part deed Hidden op frame index = record { open_is = λ e. cc }
access_stays is_ok contents part deed (Fault outcome) op frame index = record { open_is = λ e. cc }

-- a lock that is the first one
locks_first : (frames : ℕ) (contents : Contents) (part : ActorPart) (cpu : Processor) (lookup : Lookup) (lock : PageLock) (refusal : Option Outcome) (gpn : ℕ) (private : Bool) (leaf : PageSize)
    → part.standing.locks ≡ [] → IsWalk frames cpu lookup part.deeds → need_after frames cpu lookup part.deeds ≡ needs.Data gpn private lock.frame leaf
    → Stays (IsLockingWalk frames cpu lookup) part (lock_move contents part lock refusal)
unfolding lock_move
locks_first frames contents part cpu lookup lock None gpn private leaf none walk arrived = record {
  open_is = λ _. subst (λ (ls : List PageLock). IsLockingWalk frames cpu lookup (ls ++ lock ∷ []) (part.deeds ++ deeds.Lock lock.frame ∷ [])) (sym none)
      (record { walked = part.deeds; gpn = gpn; private = private; leaf = leaf; walk = walk; arrived = arrived; then_locked = refl }, refl);
}
locks_first frames contents part cpu lookup lock (Some outcome) gpn private leaf none walk arrived = record { open_is = λ e. cc }

-- a lock changes nothing of what the walks need
pub locked_need : (frames : ℕ) (cpu : Processor) (lookup : Lookup) (made : List Deed) (frame : ℕ) → need_after frames cpu lookup (made ++ deeds.Lock frame ∷ []) ≡ need_after frames cpu lookup made
unfolding guest_words nested_words_after
locked_need frames cpu lookup made frame =
    rw (guest_words_append made (deeds.Lock frame ∷ []), nested_words_append [] made (deeds.Lock frame ∷ []), append-nil (guest_words made)) refl

-- an item that locks its page: without a lock it walks on or takes one, and with one it commits
abbrev LocksAt : ActorPart → Arrival → Type 0
LocksAt part arrives =
    (gpn : ℕ) (private : Bool) (frame : ℕ) (size : PageSize) → (lock : PageLock) × (refusal : Option Outcome) × (contents : Contents) × (lock.frame ≡ frame) × (arrives gpn private frame size ≡ lock_move contents part lock refusal)

abbrev CommitsAt : Arrival → Type 0
CommitsAt arrives = (gpn : ℕ) (private : Bool) (frame : ℕ) (size : PageSize) → (outcome : Outcome) × ((arrives gpn private frame size).outcome ≡ Some outcome)

-- walks that have led to a page have only what is done there left
pub arrived_move : (frames : ℕ) (guests : List GuestSpec) (contents : Contents) (part : ActorPart) (cpu : Processor) (lookup : Lookup) (refusal : Option Outcome) (arrives : Arrival) (made : List Deed) (gpn : ℕ) (private : Bool) (frame : ℕ) (leaf : PageSize)
    → 0 < length made → need_after frames cpu lookup made ≡ needs.Data gpn private frame leaf → walked_move frames guests contents part cpu lookup refusal arrives made ≡ arrives gpn private frame leaf
unfolding walked_move need_move
arrived_move frames guests contents part cpu lookup refusal arrives [] gpn private frame leaf some need = absurd (omega arith)
arrived_move frames guests contents part cpu lookup refusal arrives (first ∷ others) gpn private frame leaf some need = ap (need_move frames guests contents part cpu lookup arrives) need

locking_stays : (frames : ℕ) (guests : List GuestSpec) (contents : Contents) (part : ActorPart) (cpu : Processor) (lookup : Lookup) (refusal : Option Outcome) (arrives : List PageLock → Arrival) (locks : List PageLock)
    → LocksAt part (arrives []) → ((lock : PageLock) (others : List PageLock) → CommitsAt (arrives (lock ∷ others))) → part.standing.locks ≡ locks → IsLockingWalk frames cpu lookup locks part.deeds
    → Stays (IsLockingWalk frames cpu lookup) part (walked_move frames guests contents part cpu lookup refusal (arrives locks) part.deeds)
locking_stays frames guests contents part cpu lookup refusal arrives [] locks_at commits_at none is =
    let is_ok = IsLockingWalk frames cpu lookup in
    walked_stays is_ok frames guests contents part cpu lookup refusal (arrives []) part.deeds
    (λ made walk. subst (λ (ls : List PageLock). is_ok ls made) (sym none) walk)
    (λ gpn private frame size need.
    let at = locks_at gpn private frame size in
    subst (Stays is_ok part) (sym at.4)
    (locks_first frames at.2 part cpu lookup at.0 at.1 gpn private size none is (need ∙ ap (λ (f : ℕ). needs.Data gpn private f size) (sym at.3))))
    refl is
locking_stays frames guests contents part cpu lookup refusal arrives (lock ∷ others) locks_at commits_at some is =
    let has = is.0 in
    let long : 0 < length part.deeds = rw (has.then_locked, length_push has.walked (deeds.Lock lock.frame)) (omega arith) in
    let need = ap (need_after frames cpu lookup) has.then_locked ∙ locked_need frames cpu lookup has.walked lock.frame ∙ has.arrived in
    let move = arrived_move frames guests contents part cpu lookup refusal (arrives (lock ∷ others)) part.deeds has.gpn has.private lock.frame has.leaf long need in
    let ends = commits_at lock others has.gpn has.private lock.frame has.leaf in
    record { open_is = λ e. let outcome = ap (λ (m : Move). m.outcome) move ∙ ends.1 in cc }

-- an event after which an item has begun, and goes on, is one of an item that is refused with nothing as it begins
record Admits (refusal : Option Outcome) (move : Move) : Type 0 where
  admitted : move.outcome ≡ None → refusal ≡ None

begin_admits : (contents : Contents) (part : ActorPart) (context : Context) (levels address : ℕ) (refusal : Option Outcome) → Admits refusal (begin_move contents part context levels address refusal)
unfolding begin_move
begin_admits contents part context levels address refusal =
    let P = Admits refusal in
    cond_both (not (is_running context.state)) _ _ P (λ _. record { admitted = λ e. cc })
    (λ _. cond_both (not (is_canonical levels address)) _ _ P (λ _. record { admitted = λ e. cc }) (λ _. record { admitted = λ e. e }))

walked_admits : (frames : ℕ) (guests : List GuestSpec) (contents : Contents) (part : ActorPart) (cpu : Processor) (lookup : Lookup) (refusal : Option Outcome) (arrives : Arrival) (made : List Deed)
    → (0 < length made → refusal ≡ None) → Admits refusal (walked_move frames guests contents part cpu lookup refusal arrives made)
unfolding walked_move
walked_admits frames guests contents part cpu lookup refusal arrives [] before = begin_admits contents part (contents.contexts cpu.guest) (levels_of cpu.paging) lookup.address refusal
walked_admits frames guests contents part cpu lookup refusal arrives (first ∷ others) before = record { admitted = λ _. before (omega arith) }

-- so its attempt stays as it is to be
attempt_stays : (frames : ℕ) (guests : List GuestSpec) (contents : Contents) (part : ActorPart) (cpu : Processor) (lookup : Lookup) (refusal : Option Outcome) (arrives : List PageLock → Arrival)
    → LocksAt part (arrives []) → ((lock : PageLock) (others : List PageLock) → CommitsAt (arrives (lock ∷ others))) → IsLockingAttempt frames cpu lookup refusal part.standing.locks part.deeds
    → Stays (IsLockingAttempt frames cpu lookup refusal) part (walked_move frames guests contents part cpu lookup refusal (arrives part.standing.locks) part.deeds)
attempt_stays frames guests contents part cpu lookup refusal arrives locks_at commits_at is =
    let stays = locking_stays frames guests contents part cpu lookup refusal arrives part.standing.locks locks_at commits_at refl is.walk in
    let admits = walked_admits frames guests contents part cpu lookup refusal (arrives part.standing.locks) part.deeds is.admitted in
    record { open_is = λ goes_on. record { walk = stays.open_is goes_on; admitted = λ _. admits.admitted goes_on } }

validate_locks : (guests : List GuestSpec) (view : View) (part : ActorPart) (cpu : Processor) (size : PageSize) (validate : Bool) → LocksAt part (validate_move guests view part cpu size validate [])
unfolding validate_move
validate_locks guests view part cpu size validate gpn private frame leaf = (_, _, _, refl, refl)

validate_commits : (guests : List GuestSpec) (view : View) (part : ActorPart) (cpu : Processor) (size : PageSize) (validate : Bool) (lock : PageLock) (others : List PageLock) → CommitsAt (validate_move guests view part cpu size validate (lock ∷ others))
unfolding validate_move
validate_commits guests view part cpu size validate lock others gpn private frame leaf = (_, refl)

adjust_locks : (guests : List GuestSpec) (view : View) (part : ActorPart) (cpu : Processor) (size : PageSize) (target mask : ℕ) (vmsa : Bool) → LocksAt part (adjust_move guests view part cpu size target mask vmsa [])
unfolding adjust_move
adjust_locks guests view part cpu size target mask vmsa gpn private frame leaf = (_, _, _, refl, refl)

adjust_commits : (guests : List GuestSpec) (view : View) (part : ActorPart) (cpu : Processor) (size : PageSize) (target mask : ℕ) (vmsa : Bool) (lock : PageLock) (others : List PageLock) → CommitsAt (adjust_move guests view part cpu size target mask vmsa (lock ∷ others))
unfolding adjust_move
adjust_commits guests view part cpu size target mask vmsa lock others gpn private frame leaf = (_, refl)

-- an item that takes its lock at once
lock_stays : (contents : Contents) (part : ActorPart) (lock : PageLock) (refusal : Option Outcome) → part.standing.locks ≡ [] → part.deeds ≡ [] → Stays IsLocking part (lock_move contents part lock refusal)
unfolding lock_move
lock_stays contents part lock None none begun = record {
  open_is = λ _.
      subst (λ (ls : List PageLock). IsLocking (ls ++ lock ∷ []) (part.deeds ++ deeds.Lock lock.frame ∷ [])) (sym none)
      (ap (λ (ds : List Deed). ds ++ deeds.Lock lock.frame ∷ []) begun, refl);
}
lock_stays contents part lock (Some outcome) none begun = record { open_is = λ e. cc }

update_stays : (frames : ℕ) (view : View) (part : ActorPart) (update : Update) (locks : List PageLock) → part.standing.locks ≡ locks → IsLocking locks part.deeds → Stays IsLocking part (update_move frames view part update locks)
unfolding update_move
update_stays frames view part update [] none is = lock_stays view.contents part _ _ none is
update_stays frames view part update (lock ∷ others) some is = record { open_is = λ e. cc }

smash_stays : (frames : ℕ) (view : View) (part : ActorPart) (frame : ℕ) (locks : List PageLock) → part.standing.locks ≡ locks → IsLocking locks part.deeds → Stays IsLocking part (smash_move frames view part frame locks)
unfolding smash_move
smash_stays frames view part frame [] none is = lock_stays view.contents part _ _ none is
smash_stays frames view part frame (lock ∷ others) some is = record { open_is = λ e. cc }

-- so where it is told by all that the attempt has
record StaysAs (is_ok : Standing → List Deed → Type 0) (part : ActorPart) (move : Move) : Type 0 where
  open_is : move.outcome ≡ None → is_ok move.standing (part.deeds ++ move.deed ∷ [])

by_locks : (is_ok : List PageLock → List Deed → Type 0) (part : ActorPart) (move : Move) → Stays is_ok part move → StaysAs (λ standing. is_ok standing.locks) part move
by_locks is_ok part move stays = record { open_is = stays.open_is }

-- so of each item
move_stays : (frames : ℕ) (guests : List GuestSpec) (view : View) (part : ActorPart) (role : Role) (item : Item) → IsAttempt frames role item part.standing part.deeds
    → StaysAs (IsAttempt frames role item) part (item_move frames guests view part role item)
unfolding item_move host_access IsAttempt
move_stays frames guests view part (Cpu guest vmpl npt paging) (items.Access address op) is =
    let cpu : Processor = record { guest = guest; vmpl = vmpl; npt = npt; paging = paging } in
    let lookup = lookup_of address op in
    by_locks (λ locks. IsWalk frames cpu lookup) part _
    (walked_stays (λ locks. IsWalk frames cpu lookup) frames guests view.contents part cpu lookup None _ part.deeds (λ made walk. walk)
    (λ gpn private frame size need. access_stays (λ locks. IsWalk frames cpu lookup) view.contents part _ _ op frame _) refl is)
move_stays frames guests view part (Cpu guest vmpl npt paging) (items.Pvalidate address size validate) is =
    let cpu : Processor = record { guest = guest; vmpl = vmpl; npt = npt; paging = paging } in
    by_locks (IsLockingAttempt frames cpu (page_lookup address) (validate_begin cpu address size)) part _
    (attempt_stays frames guests view.contents part cpu (page_lookup address) (validate_begin cpu address size) (validate_move guests view part cpu size validate)
    (validate_locks guests view part cpu size validate) (validate_commits guests view part cpu size validate) is)
move_stays frames guests view part (Cpu guest vmpl npt paging) (items.Rmpadjust address size target mask vmsa) is =
    let cpu : Processor = record { guest = guest; vmpl = vmpl; npt = npt; paging = paging } in
    by_locks (IsLockingAttempt frames cpu (page_lookup address) (adjust_begin cpu address size target mask)) part _
    (attempt_stays frames guests view.contents part cpu (page_lookup address) (adjust_begin cpu address size target mask) (adjust_move guests view part cpu size target mask vmsa)
    (adjust_locks guests view part cpu size target mask vmsa) (adjust_commits guests view part cpu size target mask vmsa) is)
move_stays frames guests view part (Cpu guest vmpl npt paging) (items.Rmpupdate update) is = record { open_is = λ e. cc }
move_stays frames guests view part (Cpu guest vmpl npt paging) (items.Psmash frame) is = record { open_is = λ e. cc }
move_stays frames guests view part (Cpu guest vmpl npt paging) (items.Firmware command) is = record { open_is = λ e. cc }
move_stays frames guests view part (Cpu guest vmpl npt paging) (items.Skip count test) is = record { open_is = λ e. cc }
move_stays frames guests view part Host (items.Access address op) is = by_locks (λ locks made. made ≡ []) part _ (access_stays (λ locks made. made ≡ []) view.contents part _ _ op _ _)
move_stays frames guests view part Host (items.Pvalidate address size validate) is = record { open_is = λ e. cc }
move_stays frames guests view part Host (items.Rmpadjust address size target mask vmsa) is = record { open_is = λ e. cc }
move_stays frames guests view part Host (items.Rmpupdate update) is = by_locks IsLocking part _ (update_stays frames view part update part.standing.locks refl is)
move_stays frames guests view part Host (items.Psmash frame) is = by_locks IsLocking part _ (smash_stays frames view part frame part.standing.locks refl is)
move_stays frames guests view part Host (items.Firmware command) is = record { open_is = λ e. cc }
move_stays frames guests view part Host (items.Skip count test) is = record { open_is = λ e. cc }
move_stays frames guests view part Firmware (items.Access address op) is = record { open_is = λ e. cc }
move_stays frames guests view part Firmware (items.Pvalidate address size validate) is = record { open_is = λ e. cc }
move_stays frames guests view part Firmware (items.Rmpadjust address size target mask vmsa) is = record { open_is = λ e. cc }
move_stays frames guests view part Firmware (items.Rmpupdate update) is = record { open_is = λ e. cc }
move_stays frames guests view part Firmware (items.Psmash frame) is = record { open_is = λ e. cc }
move_stays frames guests view part Firmware (items.Firmware command) is = record { open_is = command_stays frames guests view part command is }
move_stays frames guests view part Firmware (items.Skip count test) is = record { open_is = λ e. cc }

-- an attempt that has not begun
no_deeds : (frames : ℕ) (role : Role) (item : Item) → IsAttempt frames role item nothing_taken []
unfolding IsAttempt IsWalk
no_deeds frames (Cpu guest vmpl npt paging) (items.Access address op) = tt
no_deeds frames (Cpu guest vmpl npt paging) (items.Pvalidate address size validate) = record { walk = tt; admitted = λ begun. absurd (omega arith) }
no_deeds frames (Cpu guest vmpl npt paging) (items.Rmpadjust address size target mask vmsa) = record { walk = tt; admitted = λ begun. absurd (omega arith) }
no_deeds frames (Cpu guest vmpl npt paging) (items.Rmpupdate update) = refl
no_deeds frames (Cpu guest vmpl npt paging) (items.Psmash frame) = refl
no_deeds frames (Cpu guest vmpl npt paging) (items.Firmware command) = refl
no_deeds frames (Cpu guest vmpl npt paging) (items.Skip count test) = refl
no_deeds frames Host (items.Access address op) = refl
no_deeds frames Host (items.Pvalidate address size validate) = refl
no_deeds frames Host (items.Rmpadjust address size target mask vmsa) = refl
no_deeds frames Host (items.Rmpupdate update) = refl
no_deeds frames Host (items.Psmash frame) = refl
no_deeds frames Host (items.Firmware command) = refl
no_deeds frames Host (items.Skip count test) = refl
no_deeds frames Firmware (items.Access address op) = refl
no_deeds frames Firmware (items.Pvalidate address size validate) = refl
no_deeds frames Firmware (items.Rmpadjust address size target mask vmsa) = refl
no_deeds frames Firmware (items.Rmpupdate update) = refl
no_deeds frames Firmware (items.Psmash frame) = refl
no_deeds frames Firmware (items.Firmware command) = command_begins frames command
no_deeds frames Firmware (items.Skip count test) = refl

part_stays : (frames : ℕ) (part : ActorPart) (move : Move) (outcome : Option Outcome)
    → (outcome ≡ None → IsAttempt frames part.role (line_at part.script part.item).item move.standing (part.deeds ++ move.deed ∷ [])) → IsWalking frames (part_after part move outcome)
unfolding part_after
part_stays frames part move None open_is = open_is refl
part_stays frames part move (Some outcome) open_is = no_deeds frames part.role _

-- a step keeps this for its actor
pub step_walking : (frames : ℕ) (guests : List GuestSpec) (part : ActorPart) (view : View) → IsWalking frames part → IsWalking frames (step_of frames guests part view).part
step_walking frames guests part view is =
    let item = (line_at part.script part.item).item in
    let move = item_move frames guests view part part.role item in
    part_stays frames part move move.outcome (move_stays frames guests view part part.role item is).open_is

-- and so for all of them
pub after_walking : (m : State) (actor : ℕ) → AreWalking m → IsUnfinished m actor → AreWalking (after m actor)
unfolding after
after_walking m actor walking unfinished =
    let u = unfinished_at m actor unfinished in
    All-set (IsWalking m.frames) m.actors (actor - 1) _ (step_walking m.frames m.guests (part_of m actor) (view_of m) (walking (actor - 1) idle_part u.within)) walking

state_walking : (m : State) (s : List ℕ) → AreWalking m → IsDefinedFrom m s → AreWalking (state_from m s)
unfolding state_from IsDefinedFrom
state_walking m [] walking d = walking
state_walking m (a ∷ s) walking d = state_walking (after m a) s (after_walking m a walking d.0) d.1

pub opening_part_walking : (frames : ℕ) (actor : Actor) → IsWalking frames (opening_part actor)
opening_part_walking frames actor = no_deeds frames actor.role _

pub opening_walking : (c : Scenario) → AreWalking (opening c)
unfolding opening
opening_walking c = All-map (IsWalking _) opening_part c.actors (λ k d within. opening_part_walking _ (get_or c.actors k d))

-- in every run
pub run_walking : (c : Scenario) (s : List ℕ) → IsDefined c s → AreWalking (state_after c s)
run_walking c s d = state_walking (opening c) s (opening_walking c) d

-- what an event reads of a table is the memory's word at that event
record MoveReads (contents : Contents) (move : Move) : Type 0 where
  is : ReadsMemory contents move.deed

begin_reads : (contents : Contents) (part : ActorPart) (context : Context) (levels address : ℕ) (refusal : Option Outcome) → MoveReads contents (begin_move contents part context levels address refusal)
unfolding begin_move
begin_reads contents part context levels address refusal =
    let P = MoveReads contents in
    cond_both (not (is_running context.state)) _ _ P (λ _. record { is = tt }) (λ _. cond_both (not (is_canonical levels address)) _ _ P (λ _. record { is = tt }) (λ _. record { is = tt }))

table_reads : (frames : ℕ) (contents : Contents) (part : ActorPart) (cpu : Processor) (lookup : Lookup) (verdict : Verdict) (gpn index frame : ℕ)
    → MoveReads contents (table_move frames contents part cpu lookup verdict gpn index frame)
unfolding table_move
table_reads frames contents part cpu lookup Pass gpn index frame = record { is = refl }
table_reads frames contents part cpu lookup Hidden gpn index frame = record { is = tt }
table_reads frames contents part cpu lookup (Fault outcome) gpn index frame = record { is = tt }

access_reads : (contents : Contents) (part : ActorPart) (gpn index frame : ℕ) (private : Bool) (verdict : Verdict) (op : Op) → MoveReads contents (access_move contents part (deeds.Access gpn index frame private) verdict op frame index)
unfolding access_move
access_reads contents part gpn index frame private Pass op = record { is = tt }
access_reads contents part gpn index frame private Hidden op = record { is = tt }
access_reads contents part gpn index frame private (Fault outcome) op = record { is = tt }

host_reads : (contents : Contents) (part : ActorPart) (frame index : ℕ) (verdict : Verdict) (op : Op) → MoveReads contents (access_move contents part (deeds.Host frame index) verdict op frame index)
unfolding access_move
host_reads contents part frame index Pass op = record { is = tt }
host_reads contents part frame index Hidden op = record { is = tt }
host_reads contents part frame index (Fault outcome) op = record { is = tt }

-- so what an item does at its page
abbrev ArrivesReading : Contents → Arrival → Type 0
ArrivesReading contents arrives = (gpn : ℕ) (private : Bool) (frame : ℕ) (size : PageSize) → MoveReads contents (arrives gpn private frame size)

data_reads : (guests : List GuestSpec) (contents : Contents) (part : ActorPart) (cpu : Processor) (address : ℕ) (op : Op) → ArrivesReading contents (data_move guests contents part cpu address op)
data_reads guests contents part cpu address op gpn private frame size = access_reads contents part gpn _ frame private _ op

need_reads : (frames : ℕ) (guests : List GuestSpec) (contents : Contents) (part : ActorPart) (cpu : Processor) (lookup : Lookup) (arrives : Arrival) (need : Need)
    → ArrivesReading contents arrives → MoveReads contents (need_move frames guests contents part cpu lookup arrives need)
unfolding need_move
need_reads frames guests contents part cpu lookup arrives (needs.Nested frame index) reads = record { is = refl }
need_reads frames guests contents part cpu lookup arrives (needs.Table gpn index frame size) reads = table_reads frames contents part cpu lookup _ gpn index frame
need_reads frames guests contents part cpu lookup arrives (needs.Data gpn private frame size) reads = reads gpn private frame size
need_reads frames guests contents part cpu lookup arrives (needs.Fault outcome) reads = record { is = tt }

walked_reads : (frames : ℕ) (guests : List GuestSpec) (contents : Contents) (part : ActorPart) (cpu : Processor) (lookup : Lookup) (refusal : Option Outcome) (arrives : Arrival) (made : List Deed)
    → ArrivesReading contents arrives → MoveReads contents (walked_move frames guests contents part cpu lookup refusal arrives made)
unfolding walked_move
walked_reads frames guests contents part cpu lookup refusal arrives [] reads = begin_reads contents part (contents.contexts cpu.guest) _ _ refusal
walked_reads frames guests contents part cpu lookup refusal arrives (first ∷ others) reads = need_reads frames guests contents part cpu lookup arrives _ reads

-- an event that takes a lock reads nothing of a table, and neither does a commit
lock_reads : (contents : Contents) (part : ActorPart) (lock : PageLock) (refusal : Option Outcome) → MoveReads contents (lock_move contents part lock refusal)
unfolding lock_move
lock_reads contents part lock None = record { is = tt }
lock_reads contents part lock (Some outcome) = record { is = tt }

validate_reads : (guests : List GuestSpec) (view : View) (part : ActorPart) (cpu : Processor) (size : PageSize) (validate : Bool) (locks : List PageLock)
    → ArrivesReading view.contents (validate_move guests view part cpu size validate locks)
unfolding validate_move
validate_reads guests view part cpu size validate [] gpn private frame leaf = lock_reads view.contents part _ _
validate_reads guests view part cpu size validate (lock ∷ others) gpn private frame leaf = record { is = tt }

adjust_reads : (guests : List GuestSpec) (view : View) (part : ActorPart) (cpu : Processor) (size : PageSize) (target mask : ℕ) (vmsa : Bool) (locks : List PageLock)
    → ArrivesReading view.contents (adjust_move guests view part cpu size target mask vmsa locks)
unfolding adjust_move
adjust_reads guests view part cpu size target mask vmsa [] gpn private frame leaf = lock_reads view.contents part _ _
adjust_reads guests view part cpu size target mask vmsa (lock ∷ others) gpn private frame leaf = record { is = tt }

update_reads : (frames : ℕ) (view : View) (part : ActorPart) (update : Update) (locks : List PageLock) → MoveReads view.contents (update_move frames view part update locks)
unfolding update_move
update_reads frames view part update [] = lock_reads view.contents part _ _
update_reads frames view part update (lock ∷ others) = record { is = tt }

smash_reads : (frames : ℕ) (view : View) (part : ActorPart) (frame : ℕ) (locks : List PageLock) → MoveReads view.contents (smash_move frames view part frame locks)
unfolding smash_move
smash_reads frames view part frame [] = lock_reads view.contents part _ _
smash_reads frames view part frame (lock ∷ others) = record { is = tt }

move_reads : (frames : ℕ) (guests : List GuestSpec) (view : View) (part : ActorPart) (role : Role) (item : Item) → MoveReads view.contents (item_move frames guests view part role item)
unfolding item_move host_access
move_reads frames guests view part (Cpu guest vmpl npt paging) (items.Access address op) =
    let cpu : Processor = record { guest = guest; vmpl = vmpl; npt = npt; paging = paging } in
    walked_reads frames guests view.contents part cpu (lookup_of address op) None _ part.deeds (data_reads guests view.contents part cpu address op)
move_reads frames guests view part (Cpu guest vmpl npt paging) (items.Pvalidate address size validate) =
    let cpu : Processor = record { guest = guest; vmpl = vmpl; npt = npt; paging = paging } in
    walked_reads frames guests view.contents part cpu (page_lookup address) _ _ part.deeds (validate_reads guests view part cpu size validate part.standing.locks)
move_reads frames guests view part (Cpu guest vmpl npt paging) (items.Rmpadjust address size target mask vmsa) =
    let cpu : Processor = record { guest = guest; vmpl = vmpl; npt = npt; paging = paging } in
    walked_reads frames guests view.contents part cpu (page_lookup address) _ _ part.deeds (adjust_reads guests view part cpu size target mask vmsa part.standing.locks)
move_reads frames guests view part (Cpu guest vmpl npt paging) (items.Rmpupdate update) = record { is = tt }
move_reads frames guests view part (Cpu guest vmpl npt paging) (items.Psmash frame) = record { is = tt }
move_reads frames guests view part (Cpu guest vmpl npt paging) (items.Firmware command) = record { is = tt }
move_reads frames guests view part (Cpu guest vmpl npt paging) (items.Skip count test) = record { is = tt }
move_reads frames guests view part Host (items.Access address op) = host_reads view.contents part (address / 4096) _ _ op
move_reads frames guests view part Host (items.Pvalidate address size validate) = record { is = tt }
move_reads frames guests view part Host (items.Rmpadjust address size target mask vmsa) = record { is = tt }
move_reads frames guests view part Host (items.Rmpupdate update) = update_reads frames view part update part.standing.locks
move_reads frames guests view part Host (items.Psmash frame) = smash_reads frames view part frame part.standing.locks
move_reads frames guests view part Host (items.Firmware command) = record { is = tt }
move_reads frames guests view part Host (items.Skip count test) = record { is = tt }
move_reads frames guests view part Firmware (items.Access address op) = record { is = tt }
move_reads frames guests view part Firmware (items.Pvalidate address size validate) = record { is = tt }
move_reads frames guests view part Firmware (items.Rmpadjust address size target mask vmsa) = record { is = tt }
move_reads frames guests view part Firmware (items.Rmpupdate update) = record { is = tt }
move_reads frames guests view part Firmware (items.Psmash frame) = record { is = tt }
move_reads frames guests view part Firmware (items.Firmware command) = record { is = command_reads frames guests view part command }
move_reads frames guests view part Firmware (items.Skip count test) = record { is = tt }

pub event_reads : (m : State) (actor : ℕ) → ReadsMemory m.contents (event_of m actor).deed
unfolding event_of
event_reads m actor =
    let part = part_of m actor in
    (move_reads m.frames m.guests (view_of m) part part.role (line_at part.script part.item).item).is
