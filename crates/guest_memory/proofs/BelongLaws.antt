-- The outcome of an event that a processor of a guest makes can belong to its item.
use Rattle.std.proofs.Common.{◌≡◌, ℕ, Bool, true, false, cond, eqb, List, [], ◌∷◌, Option, Some, None, option_map, if◌then◌else◌, not, ◌&&◌, ◌||◌, slice_index, refl, sym, ap, ◌∙◌, subst}
use Rattle.std.proofs.lemmas.Bool.{cond_both, eq-eqb}
use Rattle.snp_model.specs.declared.access.Place.{Place}
use Rattle.snp_model.specs.declared.access.Verdict.{Verdict}
use Rattle.snp_model.specs.declared.access.Verdict.TheVariants.{Pass, Hidden, Fault}
use Rattle.snp_model.specs.declared.entry.PageSize.{PageSize}
use Rattle.snp_model.specs.declared.entry.PageSize.TheVariants.{Small, Large}
use Rattle.snp_model.specs.declared.entry.RmpEntry.{RmpEntry}
use Rattle.snp_model.specs.declared.event.Deed.{Deed}
use Rattle.snp_model.specs.declared.event.Deed.TheVariants as deeds
use Rattle.snp_model.specs.declared.event.Outcome.{Outcome}
use Rattle.snp_model.specs.declared.event.Outcome.TheVariants as outcomes
use Rattle.snp_model.specs.declared.event.Refusal.{Refusal}
use Rattle.snp_model.specs.declared.event.Refusal.TheVariants as refusals
use Rattle.snp_model.specs.declared.item.Item.{Item}
use Rattle.snp_model.specs.declared.item.Item.TheVariants as items
use Rattle.snp_model.specs.declared.item.Op.{Op}
use Rattle.snp_model.specs.declared.item.Op.TheVariants.{Load, Store, Swap, Compare, Xor}
use Rattle.snp_model.specs.declared.item.SkipTest.{SkipTest}
use Rattle.snp_model.specs.declared.scenario.GuestSpec.{GuestSpec}
use Rattle.snp_model.specs.declared.scenario.Paging.{Paging}
use Rattle.snp_model.specs.declared.scenario.Role.{Role}
use Rattle.snp_model.specs.declared.scenario.Role.TheVariants.{Cpu}
use Rattle.snp_model.specs.declared.walk.GuestEnd.{GuestEnd}
use Rattle.snp_model.specs.declared.walk.GuestEnd.TheVariants as guest_ends
use Rattle.snp_model.specs.declared.walk.Lookup.{Lookup}
use Rattle.snp_model.specs.declared.walk.Need.{Need}
use Rattle.snp_model.specs.declared.walk.Need.TheVariants as needs
use Rattle.snp_model.specs.declared.walk.NestedEnd.{NestedEnd}
use Rattle.snp_model.specs.declared.walk.NestedEnd.TheVariants as ends
use Rattle.snp_model.specs.Accesses.{guest_verdict}
use Rattle.snp_model.specs.GuestMemory.{Untouched, use_of, use_for, next_use}
use Rattle.snp_model.specs.GuestWalk.{is_canonical}
use Rattle.snp_model.specs.InstructionStep.{refused_outcome, validate_begin, adjust_begin, is_page_address, validate_move, adjust_move}
use Rattle.snp_model.specs.Locks.{view_of}
use Rattle.snp_model.specs.Moves.{Move, Arrival, is_running, begin_move, table_move, need_move, walked_move, lock_move}
use Rattle.snp_model.specs.NestedWalk.{nested_end}
use Rattle.snp_model.specs.Operations.{writes, outcome_of}
use Rattle.snp_model.specs.Skips.{skip_outcome, test_holds}
use Rattle.snp_model.specs.State.{Context, Contents, ActorPart, State, View, PageLock, part_of, word_of}
use Rattle.snp_model.specs.Step.{access_move, item_move, event_of, after, line_at}
use Rattle.snp_model.specs.Validation.{adjust_input}
use Rattle.snp_model.specs.Verdicts.{is_large, same_size, lacks, private_verdict, shared_verdict}
use Rattle.snp_model.specs.Walking.{Processor, table_path, data_path, table_need, data_need, walk_need, need_after, fault_of}
use Rattle.guest_memory.specs.Uses.{can_belong, may_belong, use_by}

-- an outcome that can belong to every item
abbrev IsFree : Option Outcome → Type 0
IsFree outcome = (deed : Deed) (item : Item) → may_belong outcome deed item ≡ true

-- the outcome of a move can belong to an item
abbrev Belongs : Move → Item → Type 0
Belongs move item = may_belong move.outcome move.deed item ≡ true

-- a verdict faults with such outcomes alone
abbrev FaultsFree : Verdict → Type 0
FaultsFree Pass = Unit {0}
FaultsFree Hidden = Unit {0}
FaultsFree (Fault outcome) = IsFree (Some outcome)

private_free : (facts : RmpEntry) (place : Place) (op : Op) → FaultsFree (private_verdict facts place op)
unfolding private_verdict
private_free facts place op =
    cond_both (not facts.assigned || not (eqb facts.asid place.asid)) _ _ FaultsFree (λ _ deed item. refl)
    (λ _. cond_both (not (eqb facts.gpn place.gpn)) _ _ FaultsFree (λ _ deed item. refl)
    (λ _. cond_both facts.immutable _ _ FaultsFree (λ _ deed item. refl)
    (λ _. cond_both (is_large place.leaf && not (is_large facts.size)) _ _ FaultsFree (λ _ deed item. refl)
    (λ _. cond_both (not facts.validated) _ _ FaultsFree (λ _ deed item. refl)
    (λ _. cond_both (lacks (slice_index facts.perms place.vmpl) op) _ _ FaultsFree (λ _ deed item. refl) (λ _. tt))))))

shared_free : (facts : RmpEntry) (place : Place) (op : Op) → FaultsFree (shared_verdict facts place op)
unfolding shared_verdict
shared_free facts place op =
    cond_both (facts.assigned && writes op) _ _ FaultsFree (λ _ deed item. refl)
    (λ _. cond_both facts.assigned _ _ FaultsFree (λ _. tt) (λ _. tt))

guest_free : (facts : RmpEntry) (place : Place) (op : Op) → FaultsFree (guest_verdict facts place op)
guest_free facts place op = cond_both place.private _ _ FaultsFree (λ _. private_free facts place op) (λ _. shared_free facts place op)

-- an access
says_so : (same : Bool) → (if same then same else not same) ≡ true
says_so true = refl
says_so false = refl

passed : (op : Op) (word address : ℕ) (deed : Deed) → can_belong (outcome_of op word) deed (items.Access address op) ≡ true
passed Load word address deed = refl
passed (Store value) word address deed = refl
passed (Swap value) word address deed = refl
passed (Compare expected next) word address deed = says_so (eqb word expected)
passed (Xor value) word address deed = refl

access_belongs : (contents : Contents) (part : ActorPart) (deed : Deed) (verdict : Verdict) (op : Op) (frame index address : ℕ) → FaultsFree verdict
    → Belongs (access_move contents part deed verdict op frame index) (items.Access address op)
unfolding access_move
access_belongs contents part deed Pass op frame index address free = passed op (word_of (contents.pages frame) index) address deed
access_belongs contents part deed Hidden op frame index address free = refl
access_belongs contents part deed (Fault outcome) op frame index address free = free deed (items.Access address op)

-- walks
table_free : (gpn index : ℕ) (stands : NestedEnd) → IsFree (fault_of (table_need gpn index stands))
table_free gpn index (ends.Read frame place) deed item = refl
table_free gpn index (ends.Leaf frame size) deed item = refl
table_free gpn index (ends.Fault code) deed item = refl

data_free : (gpn : ℕ) (private : Bool) (stands : NestedEnd) → IsFree (fault_of (data_need gpn private stands))
data_free gpn private (ends.Read frame place) deed item = refl
data_free gpn private (ends.Leaf frame size) deed item = refl
data_free gpn private (ends.Fault code) deed item = refl

walk_free : (frames npt : ℕ) (lookup : Lookup) (stands : GuestEnd) (words : List ℕ) → IsFree (fault_of (walk_need frames npt lookup stands words))
unfolding walk_need
walk_free frames npt lookup (guest_ends.Read gpn index) words = table_free gpn index (nested_end (table_path frames npt gpn) words)
walk_free frames npt lookup (guest_ends.Leaf gpn private size) words = data_free gpn private (nested_end (data_path frames npt gpn private lookup) words)
walk_free frames npt lookup (guest_ends.Fault code) words = λ deed item. refl

table_belongs : (frames : ℕ) (contents : Contents) (part : ActorPart) (cpu : Processor) (lookup : Lookup) (verdict : Verdict) (gpn index frame : ℕ) (item : Item) → FaultsFree verdict
    → Belongs (table_move frames contents part cpu lookup verdict gpn index frame) item
unfolding table_move
table_belongs frames contents part cpu lookup Pass gpn index frame item free = walk_free frames cpu.npt lookup _ _ _ item
table_belongs frames contents part cpu lookup Hidden gpn index frame item free = refl
table_belongs frames contents part cpu lookup (Fault outcome) gpn index frame item free = free _ item

begin_belongs : (contents : Contents) (part : ActorPart) (context : Context) (levels address : ℕ) (refusal : Option Outcome) (item : Item) → IsFree refusal
    → Belongs (begin_move contents part context levels address refusal) item
unfolding begin_move
begin_belongs contents part context levels address refusal item free =
    let P = λ (move : Move). Belongs move item in
    cond_both (not (is_running context.state)) _ _ P (λ _. refl)
    (λ _. cond_both (not (is_canonical levels address)) _ _ P (λ _. refl) (λ _. free deeds.Begin item))

abbrev ArrivalBelongs : Arrival → Item → Type 0
ArrivalBelongs arrives item = (gpn : ℕ) (private : Bool) (frame : ℕ) (size : PageSize) → Belongs (arrives gpn private frame size) item

need_belongs : (frames : ℕ) (guests : List GuestSpec) (contents : Contents) (part : ActorPart) (cpu : Processor) (lookup : Lookup) (arrives : Arrival) (need : Need) (item : Item)
    → ArrivalBelongs arrives item → Belongs (need_move frames guests contents part cpu lookup arrives need) item
unfolding need_move
need_belongs frames guests contents part cpu lookup arrives (needs.Nested frame index) item arrival = walk_free frames cpu.npt lookup _ _ _ item
need_belongs frames guests contents part cpu lookup arrives (needs.Table gpn index frame size) item arrival =
    table_belongs frames contents part cpu lookup _ gpn index frame item (private_free (contents.pages frame).facts _ Load)
need_belongs frames guests contents part cpu lookup arrives (needs.Data gpn private frame size) item arrival = arrival gpn private frame size
need_belongs frames guests contents part cpu lookup arrives (needs.Fault outcome) item arrival = refl

walked_belongs : (frames : ℕ) (guests : List GuestSpec) (contents : Contents) (part : ActorPart) (cpu : Processor) (lookup : Lookup) (refusal : Option Outcome) (arrives : Arrival) (made : List Deed) (item : Item)
    → IsFree refusal → ArrivalBelongs arrives item → Belongs (walked_move frames guests contents part cpu lookup refusal arrives made) item
unfolding walked_move
walked_belongs frames guests contents part cpu lookup refusal arrives [] item free arrival = begin_belongs contents part _ _ _ refusal item free
walked_belongs frames guests contents part cpu lookup refusal arrives (deed ∷ others) item free arrival =
    need_belongs frames guests contents part cpu lookup arrives (need_after frames cpu lookup (deed ∷ others)) item arrival

-- the two instructions
refused_free : (refusal : Option Refusal) → IsFree (option_map refused_outcome refusal)
refused_free None deed item = refl
refused_free (Some (refusals.Status status)) deed item = refl
refused_free (Some (refusals.InUse holder)) deed item = refl
refused_free (Some (refusals.Npf code)) deed item = refl
refused_free (Some (refusals.Vc code)) deed item = refl

lock_belongs : (contents : Contents) (part : ActorPart) (lock : PageLock) (refusal : Option Outcome) (item : Item) → IsFree refusal → Belongs (lock_move contents part lock refusal) item
unfolding lock_move
lock_belongs contents part lock None item free = refl
lock_belongs contents part lock (Some outcome) item free = free (deeds.Lock lock.frame) item

as_asked : (size : PageSize) → same_size size size ≡ true
as_asked Small = refl
as_asked Large = refl

validate_belongs : (guests : List GuestSpec) (view : View) (part : ActorPart) (cpu : Processor) (address : ℕ) (size : PageSize) (validate : Bool) (locks : List PageLock)
    → ArrivalBelongs (validate_move guests view part cpu size validate locks) (items.Pvalidate address size validate)
unfolding validate_move
validate_belongs guests view part cpu address size validate [] gpn private frame leaf = lock_belongs view.contents part _ _ _ (refused_free _)
validate_belongs guests view part cpu address size validate (lock ∷ others) gpn private frame leaf = as_asked size

adjust_belongs : (guests : List GuestSpec) (view : View) (part : ActorPart) (cpu : Processor) (size : PageSize) (target mask : ℕ) (vmsa : Bool) (locks : List PageLock) (item : Item)
    → ArrivalBelongs (adjust_move guests view part cpu size target mask vmsa locks) item
unfolding adjust_move
adjust_belongs guests view part cpu size target mask vmsa [] item gpn private frame leaf = lock_belongs view.contents part _ _ _ (refused_free _)
adjust_belongs guests view part cpu size target mask vmsa (lock ∷ others) item gpn private frame leaf = refl

validate_begin_free : (cpu : Processor) (address : ℕ) (size : PageSize) → IsFree (validate_begin cpu address size)
unfolding validate_begin
validate_begin_free cpu address size =
    cond_both (not (eqb cpu.vmpl 0)) _ _ IsFree (λ _ deed item. refl)
    (λ _. cond_both (not (is_page_address size address)) _ _ IsFree (λ _ deed item. refl) (λ _ deed item. refl))

status_free : (status : Option ℕ) → IsFree (option_map outcomes.Status status)
status_free None deed item = refl
status_free (Some status) deed item = refl

adjust_begin_free : (cpu : Processor) (address : ℕ) (size : PageSize) (target mask : ℕ) → IsFree (adjust_begin cpu address size target mask)
unfolding adjust_begin
adjust_begin_free cpu address size target mask =
    cond_both (not (is_page_address size address)) _ _ IsFree (λ _ deed item. refl) (λ _. status_free (adjust_input cpu.vmpl target mask))

-- skips
skip_free : (count : ℕ) (test : SkipTest) (last : Option Outcome) → IsFree (Some (skip_outcome count test last))
unfolding skip_outcome
skip_free count test None deed item = refl
skip_free count test (Some last) deed item = cond_both (test_holds test last) _ _ (λ (outcome : Outcome). can_belong outcome deed item ≡ true) (λ _. refl) (λ _. refl)

-- every item of a guest's processor
item_belongs : (frames : ℕ) (guests : List GuestSpec) (view : View) (part : ActorPart) (guest vmpl npt : ℕ) (paging : Paging) (item : Item)
    → Belongs (item_move frames guests view part (Cpu guest vmpl npt paging) item) item
unfolding item_move
item_belongs frames guests view part guest vmpl npt paging (items.Access address op) =
    let cpu : Processor = record { guest = guest; vmpl = vmpl; npt = npt; paging = paging } in
    walked_belongs frames guests view.contents part cpu _ None _ part.deeds (items.Access address op) (λ deed item. refl)
    (λ gpn private frame size. access_belongs view.contents part _ _ op frame _ address (guest_free (view.contents.pages frame).facts _ op))
item_belongs frames guests view part guest vmpl npt paging (items.Pvalidate address size validate) =
    let cpu : Processor = record { guest = guest; vmpl = vmpl; npt = npt; paging = paging } in
    walked_belongs frames guests view.contents part cpu _ _ _ part.deeds (items.Pvalidate address size validate) (validate_begin_free cpu address size)
    (validate_belongs guests view part cpu address size validate part.standing.locks)
item_belongs frames guests view part guest vmpl npt paging (items.Rmpadjust address size target mask vmsa) =
    let cpu : Processor = record { guest = guest; vmpl = vmpl; npt = npt; paging = paging } in
    walked_belongs frames guests view.contents part cpu _ _ _ part.deeds (items.Rmpadjust address size target mask vmsa) (adjust_begin_free cpu address size target mask)
    (adjust_belongs guests view part cpu size target mask vmsa part.standing.locks (items.Rmpadjust address size target mask vmsa))
item_belongs frames guests view part guest vmpl npt paging (items.Rmpupdate update) = refl
item_belongs frames guests view part guest vmpl npt paging (items.Psmash frame) = refl
item_belongs frames guests view part guest vmpl npt paging (items.Firmware command) = refl
item_belongs frames guests view part guest vmpl npt paging (items.Skip count test) = skip_free count test part.last deeds.Control (items.Skip count test)

-- so the next event of such a processor does with its guest's memory what the step's definitions say
own_use : (guest vmpl npt : ℕ) (paging : Paging) (m : State) (actor : ℕ) (role : Role) → role ≡ Cpu guest vmpl npt paging
    → use_for guest (after m actor).contents role (event_of m actor).deed (line_at (part_of m actor).script (part_of m actor).item).item (event_of m actor).outcome
    ≡ use_of (event_of m actor).deed (line_at (part_of m actor).script (part_of m actor).item).item (event_of m actor).outcome
unfolding use_for
own_use guest vmpl npt paging m actor role is =
    let deed = (event_of m actor).deed in
    let item = (line_at (part_of m actor).script (part_of m actor).item).item in
    let outcome = (event_of m actor).outcome in
    ap (λ (r : Role). use_for guest (after m actor).contents r deed item outcome) is
    ∙ ap (λ (b : Bool). cond b (use_of deed item outcome) Untouched) (eq-eqb guest guest refl)

pub own_belongs : (guest vmpl npt : ℕ) (paging : Paging) (m : State) (actor : ℕ) → (part_of m actor).role ≡ Cpu guest vmpl npt paging
    → may_belong (event_of m actor).outcome (event_of m actor).deed (line_at (part_of m actor).script (part_of m actor).item).item ≡ true
unfolding event_of
own_belongs guest vmpl npt paging m actor is =
    let part = part_of m actor in
    let item = (line_at part.script part.item).item in
    subst (λ (role : Role). Belongs (item_move m.frames m.guests (view_of m) part role item) item) (sym is)
    (item_belongs m.frames m.guests (view_of m) part guest vmpl npt paging item)

pub next_use_by : (guest vmpl npt : ℕ) (paging : Paging) (m : State) (actor : ℕ) → (part_of m actor).role ≡ Cpu guest vmpl npt paging
    → next_use guest m actor ≡ use_by (event_of m actor) (line_at (part_of m actor).script (part_of m actor).item).item
unfolding next_use use_by
next_use_by guest vmpl npt paging m actor is =
    let event = event_of m actor in
    let item = (line_at (part_of m actor).script (part_of m actor).item).item in
    own_use guest vmpl npt paging m actor (part_of m actor).role is
    ∙ sym (ap (λ (b : Bool). cond b (use_of event.deed item event.outcome) Untouched) (own_belongs guest vmpl npt paging m actor is))
