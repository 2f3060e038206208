-- A word of a guest's table is read with its check: each event of a guest's processor, by what it does.
use Rattle.std.proofs.Common.{◌≡◌, ℕ, Bool, not, List, [], ◌∷◌, Option, Some, None, refl, sym, ap, ◌∙◌, subst}
use Rattle.std.proofs.lemmas.Bool.{cond_both}
use Rattle.snp_model.specs.declared.access.Verdict.{Verdict}
use Rattle.snp_model.specs.declared.access.Verdict.TheVariants.{Pass, Hidden, Fault}
use Rattle.snp_model.specs.declared.entry.PageSize.{PageSize}
use Rattle.snp_model.specs.declared.event.Deed.{Deed}
use Rattle.snp_model.specs.declared.event.Deed.TheVariants as deeds
use Rattle.snp_model.specs.declared.event.Outcome.{Outcome}
use Rattle.snp_model.specs.declared.item.Item.{Item}
use Rattle.snp_model.specs.declared.item.Item.TheVariants as items
use Rattle.snp_model.specs.declared.item.Op.{Op}
use Rattle.snp_model.specs.declared.item.Op.TheVariants.{Load}
use Rattle.snp_model.specs.declared.scenario.GuestSpec.{GuestSpec}
use Rattle.snp_model.specs.declared.scenario.Paging.{Paging}
use Rattle.snp_model.specs.declared.scenario.Role.{Role}
use Rattle.snp_model.specs.declared.scenario.Role.TheVariants.{Cpu}
use Rattle.snp_model.specs.declared.walk.Lookup.{Lookup}
use Rattle.snp_model.specs.declared.walk.Need.{Need}
use Rattle.snp_model.specs.declared.walk.Need.TheVariants as needs
use Rattle.snp_model.specs.GuestWalk.{levels_of, is_canonical}
use Rattle.snp_model.specs.InstructionStep.{page_lookup, validate_begin, adjust_begin, validate_move, adjust_move}
use Rattle.snp_model.specs.Locks.{view_of}
use Rattle.snp_model.specs.Moves.{Move, Arrival, is_running, begin_move, table_move, table_place, need_move, walked_move, lock_move}
use Rattle.snp_model.specs.Opening.{asid_of}
use Rattle.snp_model.specs.State.{PageLock, Context, Contents, ActorPart, State, View, part_of, word_of}
use Rattle.snp_model.specs.Step.{access_move, data_move, item_move, event_of, line_at}
use Rattle.snp_model.specs.Verdicts.{private_verdict}
use Rattle.snp_model.specs.Walking.{Processor, lookup_of, index_of, need_after}
use Rattle.run_theorems.specs.CheckedReads.{IsChecked}

-- a word of a guest's table that a deed shows
record TableWord : Type 0 where
  gpn : ℕ
  index : ℕ
  frame : ℕ
  value : ℕ

abbrev word_shown : Deed → Option TableWord
word_shown (deeds.Table gpn index frame (Some value)) = Some (record { gpn = gpn; index = index; frame = frame; value = value })
word_shown deed = None

-- it passed its check
record Passed (guests : List GuestSpec) (contents : Contents) (cpu : Processor) (word : TableWord) : Type 0 where
  leaf : PageSize
  passes : private_verdict (contents.pages word.frame).facts (table_place (asid_of guests cpu.guest) cpu.vmpl word.gpn word.index word.frame leaf) Load ≡ Pass
  is : word.value ≡ word_of (contents.pages word.frame) word.index

-- so of a move
abbrev Shows : List GuestSpec → Contents → Processor → Move → Type 0
Shows guests contents cpu move = (word : TableWord) → word_shown move.deed ≡ Some word → Passed guests contents cpu word

none_shown : (guests : List GuestSpec) (contents : Contents) (cpu : Processor) (word : TableWord) → None ≡ Some word → Passed guests contents cpu word
none_shown guests contents cpu word is = absurd (apart is)
  where
    apart : None ≡ Some word → ⊥
    apart e = cc

lock_shows : (guests : List GuestSpec) (contents : Contents) (part : ActorPart) (cpu : Processor) (lock : PageLock) (refusal : Option Outcome) → Shows guests contents cpu (lock_move contents part lock refusal)
unfolding lock_move
lock_shows guests contents part cpu lock None = none_shown guests contents cpu
lock_shows guests contents part cpu lock (Some outcome) = none_shown guests contents cpu

begin_shows : (guests : List GuestSpec) (contents : Contents) (part : ActorPart) (cpu : Processor) (context : Context) (levels address : ℕ) (refusal : Option Outcome) → Shows guests contents cpu (begin_move contents part context levels address refusal)
unfolding begin_move
begin_shows guests contents part cpu context levels address refusal =
    cond_both (not (is_running context.state)) _ _ (Shows guests contents cpu) (λ _. none_shown guests contents cpu)
    (λ _. cond_both (not (is_canonical levels address)) _ _ (Shows guests contents cpu) (λ _. none_shown guests contents cpu) (λ _. none_shown guests contents cpu))

-- the read of a table with its verdict
table_shows : (frames : ℕ) (guests : List GuestSpec) (contents : Contents) (part : ActorPart) (cpu : Processor) (lookup : Lookup) (verdict : Verdict) (gpn index frame : ℕ) (leaf : PageSize)
    → private_verdict (contents.pages frame).facts (table_place (asid_of guests cpu.guest) cpu.vmpl gpn index frame leaf) Load ≡ verdict
    → Shows guests contents cpu (table_move frames contents part cpu lookup verdict gpn index frame)
unfolding table_move
table_shows frames guests contents part cpu lookup Pass gpn index frame leaf is = λ word shown.
    subst (Passed guests contents cpu) (one (record { gpn = gpn; index = index; frame = frame; value = word_of (contents.pages frame) index }) word shown) (record { leaf = leaf; passes = is; is = refl })
  where
    one : (a b : TableWord) → Some a ≡ Some b → a ≡ b
    one a b e = cc
table_shows frames guests contents part cpu lookup Hidden gpn index frame leaf is = none_shown guests contents cpu
table_shows frames guests contents part cpu lookup (Fault outcome) gpn index frame leaf is = none_shown guests contents cpu

abbrev ArrivesShowing : List GuestSpec → Contents → Processor → Arrival → Type 0
ArrivesShowing guests contents cpu arrives = (gpn : ℕ) (private : Bool) (frame : ℕ) (leaf : PageSize) → Shows guests contents cpu (arrives gpn private frame leaf)

need_shows : (frames : ℕ) (guests : List GuestSpec) (contents : Contents) (part : ActorPart) (cpu : Processor) (lookup : Lookup) (arrives : Arrival) (need : Need) → ArrivesShowing guests contents cpu arrives
    → Shows guests contents cpu (need_move frames guests contents part cpu lookup arrives need)
unfolding need_move
need_shows frames guests contents part cpu lookup arrives (needs.Nested frame index) at = none_shown guests contents cpu
need_shows frames guests contents part cpu lookup arrives (needs.Table gpn index frame size) at = table_shows frames guests contents part cpu lookup _ gpn index frame size refl
need_shows frames guests contents part cpu lookup arrives (needs.Data gpn private frame size) at = at gpn private frame size
need_shows frames guests contents part cpu lookup arrives (needs.Fault outcome) at = none_shown guests contents cpu

walked_shows : (frames : ℕ) (guests : List GuestSpec) (contents : Contents) (part : ActorPart) (cpu : Processor) (lookup : Lookup) (refusal : Option Outcome) (arrives : Arrival) (made : List Deed) → ArrivesShowing guests contents cpu arrives
    → Shows guests contents cpu (walked_move frames guests contents part cpu lookup refusal arrives made)
unfolding walked_move
walked_shows frames guests contents part cpu lookup refusal arrives [] at = begin_shows guests contents part cpu (contents.contexts cpu.guest) (levels_of cpu.paging) lookup.address refusal
walked_shows frames guests contents part cpu lookup refusal arrives (deed ∷ others) at = need_shows frames guests contents part cpu lookup arrives (need_after frames cpu lookup (deed ∷ others)) at

-- what an item does at its page shows no word of a table
access_shows : (guests : List GuestSpec) (contents : Contents) (part : ActorPart) (cpu : Processor) (gpn index : ℕ) (private : Bool) (verdict : Verdict) (op : Op) (frame : ℕ)
    → Shows guests contents cpu (access_move contents part (deeds.Access gpn index frame private) verdict op frame index)
unfolding access_move
access_shows guests contents part cpu gpn index private Pass op frame = none_shown guests contents cpu
access_shows guests contents part cpu gpn index private Hidden op frame = none_shown guests contents cpu
access_shows guests contents part cpu gpn index private (Fault outcome) op frame = none_shown guests contents cpu

data_shows : (guests : List GuestSpec) (contents : Contents) (part : ActorPart) (cpu : Processor) (address : ℕ) (op : Op) → ArrivesShowing guests contents cpu (data_move guests contents part cpu address op)
data_shows guests contents part cpu address op gpn private frame size = access_shows guests contents part cpu gpn (index_of address) private _ op frame

validate_shows : (guests : List GuestSpec) (view : View) (part : ActorPart) (cpu : Processor) (size : PageSize) (validate : Bool) (locks : List PageLock) → ArrivesShowing guests view.contents cpu (validate_move guests view part cpu size validate locks)
unfolding validate_move
validate_shows guests view part cpu size validate [] gpn private frame leaf = lock_shows guests view.contents part cpu _ _
validate_shows guests view part cpu size validate (lock ∷ others) gpn private frame leaf = none_shown guests view.contents cpu

adjust_shows : (guests : List GuestSpec) (view : View) (part : ActorPart) (cpu : Processor) (size : PageSize) (target mask : ℕ) (vmsa : Bool) (locks : List PageLock)
    → ArrivesShowing guests view.contents cpu (adjust_move guests view part cpu size target mask vmsa locks)
unfolding adjust_move
adjust_shows guests view part cpu size target mask vmsa [] gpn private frame leaf = lock_shows guests view.contents part cpu _ _
adjust_shows guests view part cpu size target mask vmsa (lock ∷ others) gpn private frame leaf = none_shown guests view.contents cpu

item_shows : (frames : ℕ) (guests : List GuestSpec) (view : View) (part : ActorPart) (guest vmpl npt : ℕ) (paging : Paging) (item : Item)
    → Shows guests view.contents (record { guest = guest; vmpl = vmpl; npt = npt; paging = paging }) (item_move frames guests view part (Cpu guest vmpl npt paging) item)
unfolding item_move
item_shows frames guests view part guest vmpl npt paging (items.Access address op) =
    let cpu : Processor = record { guest = guest; vmpl = vmpl; npt = npt; paging = paging } in
    walked_shows frames guests view.contents part cpu (lookup_of address op) None _ part.deeds (data_shows guests view.contents part cpu address op)
item_shows frames guests view part guest vmpl npt paging (items.Pvalidate address size validate) =
    let cpu : Processor = record { guest = guest; vmpl = vmpl; npt = npt; paging = paging } in
    walked_shows frames guests view.contents part cpu (page_lookup address) (validate_begin cpu address size) _ part.deeds (validate_shows guests view part cpu size validate part.standing.locks)
item_shows frames guests view part guest vmpl npt paging (items.Rmpadjust address size target mask vmsa) =
    let cpu : Processor = record { guest = guest; vmpl = vmpl; npt = npt; paging = paging } in
    walked_shows frames guests view.contents part cpu (page_lookup address) (adjust_begin cpu address size target mask) _ part.deeds (adjust_shows guests view part cpu size target mask vmsa part.standing.locks)
item_shows frames guests view part guest vmpl npt paging item = none_shown guests view.contents _

-- so each event of a guest's processor
pub table_checked : (m : State) (actor guest vmpl npt gpn index frame value : ℕ) (paging : Paging) → (part_of m actor).role ≡ Cpu guest vmpl npt paging → (event_of m actor).deed ≡ deeds.Table gpn index frame (Some value)
    → IsChecked m guest vmpl gpn index frame value
unfolding event_of
table_checked m actor guest vmpl npt gpn index frame value paging role_is deed_is =
    let part = part_of m actor in
    let item = (line_at part.script part.item).item in
    let word : TableWord = record { gpn = gpn; index = index; frame = frame; value = value } in
    let shown = ap (λ (r : Role). word_shown (item_move m.frames m.guests (view_of m) part r item).deed) (sym role_is) ∙ ap word_shown deed_is in
    let passed = item_shows m.frames m.guests (view_of m) part guest vmpl npt paging item word shown in
    record { leaf = passed.leaf; passes = passed.passes; word = passed.is }
