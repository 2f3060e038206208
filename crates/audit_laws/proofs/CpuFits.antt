-- The numbers in the events of guest processors that their ranges leave open, frames, words and codes, fit their types.
use Rattle.std.proofs.Common.{◌≡◌, ℕ, ◌+◌, ◌-◌, ◌%◌, ◌^◌, ◌<◌, ◌≤◌, Bool, true, false, nat_lt, not, ◌&&◌, ◌||◌, eqb, IfSome, List, [], ◌∷◌, Option, Some, None, refl, arith}
use Rattle.std.specs.Option.{option_map, option_or}
use Rattle.std.proofs.lemmas.Bool.{cond_both, true≢false}
use Rattle.std.proofs.lemmas.Bool.Decides.{nat_tests}
use Rattle.snp_model.specs.declared.access.Place.{Place}
use Rattle.snp_model.specs.declared.access.Verdict.{Verdict}
use Rattle.snp_model.specs.declared.access.Verdict.TheVariants.{Pass, Hidden, Fault}
use Rattle.snp_model.specs.declared.entry.PageSize.{PageSize}
use Rattle.snp_model.specs.declared.entry.RmpEntry.{RmpEntry}
use Rattle.snp_model.specs.declared.event.Deed.{Deed}
use Rattle.snp_model.specs.declared.event.Deed.TheVariants as deeds
use Rattle.snp_model.specs.declared.event.Outcome.{Outcome}
use Rattle.snp_model.specs.declared.event.Outcome.TheVariants as outcomes
use Rattle.snp_model.specs.declared.event.Refusal.{Refusal}
use Rattle.snp_model.specs.declared.fault.NestedFault.{NestedFault}
use Rattle.snp_model.specs.declared.item.Op.{Op}
use Rattle.snp_model.specs.declared.item.Op.TheVariants.{Load, Store, Swap, Compare, Xor}
use Rattle.snp_model.specs.declared.scenario.GuestSpec.{GuestSpec}
use Rattle.snp_model.specs.declared.scenario.Paging.{Paging}
use Rattle.snp_model.specs.declared.scenario.Paging.TheVariants.{Flat, Four, Five}
use Rattle.snp_model.specs.declared.walk.GuestEnd.{GuestEnd}
use Rattle.snp_model.specs.declared.walk.GuestEnd.TheVariants as guest_ends
use Rattle.snp_model.specs.declared.walk.GuestPath.{GuestPath}
use Rattle.snp_model.specs.declared.walk.Lookup.{Lookup}
use Rattle.snp_model.specs.declared.walk.Need.{Need}
use Rattle.snp_model.specs.declared.walk.Need.TheVariants as needs
use Rattle.snp_model.specs.declared.walk.NestedEnd.{NestedEnd}
use Rattle.snp_model.specs.declared.walk.NestedEnd.TheVariants as ends
use Rattle.snp_model.specs.declared.walk.NestedPath.{NestedPath}
use Rattle.snp_model.specs.Accesses.{guest_verdict}
use Rattle.snp_model.specs.Faults.{bit, code_of}
use Rattle.snp_model.specs.GuestWalk.{is_canonical, guest_index, after_guest_word, guest_walk_from, guest_end}
use Rattle.snp_model.specs.InstructionStep.{facts_of, refused_outcome, instruction_lock, is_page_address, validate_begin, adjust_begin, validate_move, adjust_move}
use Rattle.snp_model.specs.Locks.{page_lock}
use Rattle.snp_model.specs.Moves.{Move, Arrival, is_running, begin_move, table_word, table_move, need_move, walked_move, lock_move}
use Rattle.snp_model.specs.NestedWalk.{is_large_leaf, has_bit, frame_below, after_word, walk_from, nested_end, nested_index}
use Rattle.snp_model.specs.Operations.{outcome_of, writes}
use Rattle.snp_model.specs.RmpUpdate.{in_use_or}
use Rattle.snp_model.specs.State.{Page, Context, Contents, ActorPart, PageLock, View, word_of}
use Rattle.snp_model.specs.Step.{access_move}
use Rattle.snp_model.specs.Validation.{validate_refusal, adjust_input, exceeds, adjust_further, adjust_refusal}
use Rattle.snp_model.specs.Verdicts.{is_large, lacks, private_verdict, shared_verdict, host_verdict}
use Rattle.snp_model.specs.Walking.{Processor, guest_stands, guest_path, counting, table_path, data_path, table_need, data_need, walk_need, need_after, fault_of}
use Rattle.run_laws.specs.Uniqueness.{IsFull}
use Rattle.run_theorems.specs.Ranges.{IsRanged}
use Rattle.report_text.specs.EventNumbers.{IsDeed, IsOutcome}

-- what an event may look at: a memory of at most 16 regions with full words, and holders that are actors
pub record LooksAt (frames : ℕ) (view : View) : Type 0 where
  pub small : frames ≤ 8192
  pub words : (frame : ℕ) → IsFull (view.contents.pages frame).words
  pub gpns : (frame : ℕ) → (view.contents.pages frame).facts.gpn < 2 ^ 64
  pub holders : (frame holder : ℕ) → view.holder frame ≡ Some holder → holder < 2 ^ 32
  pub context_holders : (guest holder : ℕ) → view.context_holder guest ≡ Some holder → holder < 2 ^ 32

-- frames and words of a deed
abbrev pub FrameFits : Deed → Type 0
FrameFits deeds.Begin = Unit {0}
FrameFits (deeds.Nested frame index value) = (frame < 2 ^ 32) × (value < 2 ^ 64)
FrameFits (deeds.Table gpn index frame value) = (frame < 2 ^ 32) × IfSome value (λ v. v < 2 ^ 64)
FrameFits (deeds.Access gpn index frame private) = frame < 2 ^ 32
FrameFits (deeds.Host frame index) = frame < 2 ^ 32
FrameFits (deeds.Lock frame) = frame < 2 ^ 64
FrameFits (deeds.LockContext guest) = guest < 2 ^ 8
FrameFits deeds.Compute = Unit {0}
FrameFits (deeds.Commit frame gpn size) = frame < 2 ^ 32
FrameFits (deeds.CommitContext guest) = guest < 2 ^ 8
FrameFits deeds.Control = Unit {0}

pub deed_fits : (deed : Deed) → IsRanged deed → FrameFits deed → IsDeed deed
deed_fits deeds.Begin ranged fits = tt
deed_fits (deeds.Nested frame index value) ranged fits = (fits.0, omega (arith, ranged), fits.1)
deed_fits (deeds.Table gpn index frame value) ranged fits = let g = ranged.0 in let i = ranged.1 in (omega (arith, g), omega (arith, i), fits.0, fits.1)
deed_fits (deeds.Access gpn index frame private) ranged fits = let g = ranged.0 in let i = ranged.1 in (omega (arith, g), omega (arith, i), fits)
deed_fits (deeds.Host frame index) ranged fits = (fits, omega (arith, ranged))
deed_fits (deeds.Lock frame) ranged fits = fits
deed_fits (deeds.LockContext guest) ranged fits = fits
deed_fits deeds.Compute ranged fits = tt
deed_fits (deeds.Commit frame gpn size) ranged fits = let g = ranged.0 in (fits, omega (arith, g))
deed_fits (deeds.CommitContext guest) ranged fits = fits
deed_fits deeds.Control ranged fits = tt

abbrev pub EndingFits : Option Outcome → Type 0
EndingFits outcome = IfSome outcome IsOutcome

pub record MoveFits (move : Move) : Type 0 where
  pub deed : FrameFits move.deed
  pub outcome : EndingFits move.outcome

-- codes of faults
bit_most : (set : Bool) (value : ℕ) → bit set value ≤ value
bit_most true value = omega arith
bit_most false value = omega arith

pub code_fits : (fault : NestedFault) → code_of fault < 2 ^ 64
unfolding code_of
code_fits fault =
    let present = bit_most fault.present 0x1 in
    let write = bit_most (fault.write || fault.table) 0x2 in
    let rmp = bit_most fault.rmp 0x8000_0000 in
    let last = bit_most (not fault.table) 0x1_0000_0000 in
    let table = bit_most fault.table 0x2_0000_0000 in
    let private = bit_most fault.private 0x4_0000_0000 in
    let size = bit_most fault.size 0x8_0000_0000 in
    let vmpl = bit_most fault.vmpl 0x10_0000_0000 in
    omega (arith, present, write, rmp, last, table, private, size, vmpl)

-- nested walks
abbrev NestedFits : ℕ → NestedEnd → Type 0
NestedFits frames (ends.Read frame index) = frame < frames
NestedFits frames (ends.Leaf frame size) = frame < frames
NestedFits frames (ends.Fault code) = code < 2 ^ 64

below : (absent : Bool) (frame frames : ℕ) → (absent || not (nat_lt frame frames)) ≡ false → frame < frames
below true frame frames is = absurd (true≢false is)
below false frame frames is = grind (arith, nat_tests, is)

nested_word_fits : (path : NestedPath) (level word : ℕ) → NestedFits path.frames (after_word path level word)
unfolding after_word
nested_word_fits path level word =
    let P = NestedFits path.frames in
    cond_both (not (has_bit word 0x1) || not (nat_lt (frame_below path level word) path.frames)) _ _ P (λ _. code_fits _)
    (λ inside.
    let small = below (not (has_bit word 0x1)) (frame_below path level word) path.frames inside in
    cond_both (not (has_bit word 0x4)) _ _ P (λ _. code_fits _)
    (λ _. cond_both ((path.write || path.table) && not (has_bit word 0x2)) _ _ P (λ _. code_fits _)
    (λ _. cond_both (is_large_leaf level word) _ _ P (λ _. small)
    (λ _. cond_both (eqb level 1) _ _ P (λ _. small) (λ _. small)))))

nested_fits : (path : NestedPath) (level : ℕ) (stands : NestedEnd) (words : List ℕ) → NestedFits path.frames stands → NestedFits path.frames (walk_from path level stands words)
unfolding walk_from
nested_fits path level (ends.Read frame index) [] fits = fits
nested_fits path level (ends.Read frame index) (word ∷ words) fits = nested_fits path (level - 1) (after_word path level word) words (nested_word_fits path level word)
nested_fits path level (ends.Leaf frame size) words fits = fits
nested_fits path level (ends.Fault code) words fits = fits

nested_end_fits : (path : NestedPath) (words : List ℕ) → path.root < path.frames → NestedFits path.frames (nested_end path words)
nested_end_fits path words root = nested_fits path 4 (ends.Read path.root (nested_index path.gpn 4)) words root

-- guest walks
abbrev GuestFits : GuestEnd → Type 0
GuestFits (guest_ends.Read gpn index) = Unit {0}
GuestFits (guest_ends.Leaf gpn private size) = Unit {0}
GuestFits (guest_ends.Fault code) = code < 2 ^ 64

guest_code : (present write : Bool) → bit present 0x1 + bit write 0x2 < 2 ^ 64
guest_code present write = let p = bit_most present 0x1 in let w = bit_most write 0x2 in omega (arith, p, w)

guest_word_fits : (path : GuestPath) (level word : ℕ) → GuestFits (after_guest_word path level word)
unfolding after_guest_word
guest_word_fits path level word =
    cond_both (not (has_bit word 0x1)) _ _ GuestFits (λ _. guest_code false path.write)
    (λ _. cond_both (path.write && not (has_bit word 0x2)) _ _ GuestFits (λ _. guest_code true path.write)
    (λ _. cond_both (is_large_leaf level word) _ _ GuestFits (λ _. tt) (λ _. cond_both (eqb level 1) _ _ GuestFits (λ _. tt) (λ _. tt))))

guest_fits : (path : GuestPath) (level : ℕ) (stands : GuestEnd) (words : List ℕ) → GuestFits stands → GuestFits (guest_walk_from path level stands words)
unfolding guest_walk_from
guest_fits path level (guest_ends.Read gpn index) [] fits = fits
guest_fits path level (guest_ends.Read gpn index) (word ∷ words) fits = guest_fits path (level - 1) (after_guest_word path level word) words (guest_word_fits path level word)
guest_fits path level (guest_ends.Leaf gpn private size) words fits = fits
guest_fits path level (guest_ends.Fault code) words fits = fits

counting_fits : (c_bit : Bool) (stands : GuestEnd) → GuestFits stands → GuestFits (counting c_bit stands)
counting_fits c_bit (guest_ends.Read gpn index) fits = fits
counting_fits c_bit (guest_ends.Leaf gpn private size) fits = fits
counting_fits c_bit (guest_ends.Fault code) fits = fits

stands_fits : (paging : Paging) (lookup : Lookup) (words : List ℕ) → GuestFits (guest_stands paging lookup words)
unfolding guest_stands
stands_fits Flat lookup words = tt
stands_fits (Four r) lookup words =
    let path = guest_path (Four r) r lookup in
    counting_fits lookup.c_bit (guest_end path words) (guest_fits path path.levels (guest_ends.Read r (guest_index path.address path.levels)) words tt)
stands_fits (Five r) lookup words =
    let path = guest_path (Five r) r lookup in
    counting_fits lookup.c_bit (guest_end path words) (guest_fits path path.levels (guest_ends.Read r (guest_index path.address path.levels)) words tt)

-- what is needed
abbrev NeedFits : ℕ → Need → Type 0
NeedFits frames (needs.Nested frame index) = frame < frames
NeedFits frames (needs.Table gpn index frame size) = frame < frames
NeedFits frames (needs.Data gpn private frame size) = frame < frames
NeedFits frames (needs.Fault outcome) = IsOutcome outcome

table_need_fits : (frames gpn index : ℕ) (stands : NestedEnd) → NestedFits frames stands → NeedFits frames (table_need gpn index stands)
table_need_fits frames gpn index (ends.Read frame place) fits = fits
table_need_fits frames gpn index (ends.Leaf frame size) fits = fits
table_need_fits frames gpn index (ends.Fault code) fits = fits

data_need_fits : (frames gpn : ℕ) (private : Bool) (stands : NestedEnd) → NestedFits frames stands → NeedFits frames (data_need gpn private stands)
data_need_fits frames gpn private (ends.Read frame place) fits = fits
data_need_fits frames gpn private (ends.Leaf frame size) fits = fits
data_need_fits frames gpn private (ends.Fault code) fits = fits

walk_fits : (frames npt : ℕ) (lookup : Lookup) (stands : GuestEnd) (words : List ℕ) → npt < frames → GuestFits stands → NeedFits frames (walk_need frames npt lookup stands words)
unfolding walk_need
walk_fits frames npt lookup (guest_ends.Read gpn index) words root fits = table_need_fits frames gpn index _ (nested_end_fits (table_path frames npt gpn) words root)
walk_fits frames npt lookup (guest_ends.Leaf gpn private size) words root fits = data_need_fits frames gpn private _ (nested_end_fits (data_path frames npt gpn private lookup) words root)
walk_fits frames npt lookup (guest_ends.Fault code) words root fits = fits

need_fits : (frames : ℕ) (cpu : Processor) (lookup : Lookup) (made : List Deed) → cpu.npt < frames → NeedFits frames (need_after frames cpu lookup made)
need_fits frames cpu lookup made root = walk_fits frames cpu.npt lookup _ _ root (stands_fits cpu.paging lookup _)

fault_fits : (frames : ℕ) (need : Need) → NeedFits frames need → EndingFits (fault_of need)
fault_fits frames (needs.Nested frame index) fits = tt
fault_fits frames (needs.Table gpn index frame size) fits = tt
fault_fits frames (needs.Data gpn private frame size) fits = tt
fault_fits frames (needs.Fault outcome) fits = fits

-- verdicts
abbrev pub VerdictFits : Verdict → Type 0
VerdictFits Pass = Unit {0}
VerdictFits Hidden = Unit {0}
VerdictFits (Fault outcome) = IsOutcome outcome

private_fits : (facts : RmpEntry) (place : Place) (op : Op) → VerdictFits (private_verdict facts place op)
unfolding private_verdict
private_fits facts place op =
    cond_both (not facts.assigned || not (eqb facts.asid place.asid)) _ _ VerdictFits (λ _. code_fits _)
    (λ _. cond_both (not (eqb facts.gpn place.gpn)) _ _ VerdictFits (λ _. code_fits _)
    (λ _. cond_both facts.immutable _ _ VerdictFits (λ _. code_fits _)
    (λ _. cond_both (is_large place.leaf && not (is_large facts.size)) _ _ VerdictFits (λ _. code_fits _)
    (λ _. cond_both (not facts.validated) _ _ VerdictFits (λ _. omega arith)
    (λ _. cond_both (lacks _ op) _ _ VerdictFits (λ _. code_fits _) (λ _. tt))))))

shared_fits : (facts : RmpEntry) (place : Place) (op : Op) → VerdictFits (shared_verdict facts place op)
unfolding shared_verdict
shared_fits facts place op =
    cond_both (facts.assigned && writes op) _ _ VerdictFits (λ _. code_fits _) (λ _. cond_both facts.assigned _ _ VerdictFits (λ _. tt) (λ _. tt))

pub host_fits : (facts : RmpEntry) (op : Op) → VerdictFits (host_verdict facts op)
unfolding host_verdict
host_fits facts op = cond_both (facts.assigned && writes op) _ _ VerdictFits (λ _. omega arith) (λ _. cond_both facts.assigned _ _ VerdictFits (λ _. tt) (λ _. tt))

pub guest_verdict_fits : (facts : RmpEntry) (place : Place) (op : Op) → VerdictFits (guest_verdict facts place op)
guest_verdict_fits facts place op = cond_both place.private _ _ VerdictFits (λ _. private_fits facts place op) (λ _. shared_fits facts place op)

-- accesses
pub word_outcome : (op : Op) (word : ℕ) → word < 2 ^ 64 → IsOutcome (outcome_of op word)
word_outcome Load word small = small
word_outcome (Store value) word small = tt
word_outcome (Swap value) word small = small
word_outcome (Compare expected next) word small = small
word_outcome (Xor value) word small = small

pub access_fits : (contents : Contents) (part : ActorPart) (deed : Deed) (verdict : Verdict) (op : Op) (frame index : ℕ) → FrameFits deed → IsFull (contents.pages frame).words → VerdictFits verdict
    → MoveFits (access_move contents part deed verdict op frame index)
unfolding access_move
access_fits contents part deed Pass op frame index fits full verdict = record { deed = fits; outcome = word_outcome op _ (full.fits index) }
access_fits contents part deed Hidden op frame index fits full verdict = record { deed = fits; outcome = tt }
access_fits contents part deed (Fault outcome) op frame index fits full verdict = record { deed = fits; outcome = verdict }

-- walks
table_word_fits : (page : Page) (index : ℕ) → IsFull page.words → table_word page index < 2 ^ 64
table_word_fits page index full = cond_both page.facts.assigned 0 (word_of page index) (λ (n : ℕ). n < 2 ^ 64) (λ _. omega arith) (λ _. full.fits index)

table_fits : (frames : ℕ) (contents : Contents) (part : ActorPart) (cpu : Processor) (lookup : Lookup) (verdict : Verdict) (gpn index frame : ℕ) → cpu.npt < frames → frames ≤ 8192 → frame < frames
    → IsFull (contents.pages frame).words → VerdictFits verdict → MoveFits (table_move frames contents part cpu lookup verdict gpn index frame)
unfolding table_move
table_fits frames contents part cpu lookup Pass gpn index frame root small inside full verdict =
    record { deed = (omega (arith, small, inside), full.fits index); outcome = fault_fits frames _ (need_fits frames cpu lookup _ root) }
table_fits frames contents part cpu lookup Hidden gpn index frame root small inside full verdict = record { deed = (omega (arith, small, inside), tt); outcome = tt }
table_fits frames contents part cpu lookup (Fault outcome) gpn index frame root small inside full verdict = record { deed = (omega (arith, small, inside), tt); outcome = verdict }

begin_fits : (contents : Contents) (part : ActorPart) (context : Context) (levels address : ℕ) (refusal : Option Outcome) → EndingFits refusal → MoveFits (begin_move contents part context levels address refusal)
unfolding begin_move
begin_fits contents part context levels address refusal fits =
    cond_both (not (is_running context.state)) _ _ MoveFits (λ _. record { deed = tt; outcome = tt })
    (λ _. cond_both (not (is_canonical levels address)) _ _ MoveFits (λ _. record { deed = tt; outcome = tt }) (λ _. record { deed = tt; outcome = fits }))

-- what an item does once its walks have led to a page in memory
abbrev pub ArrivalFits : ℕ → Arrival → Type 0
ArrivalFits frames arrives = (gpn : ℕ) (private : Bool) (frame : ℕ) (size : PageSize) → frame < frames → MoveFits (arrives gpn private frame size)

need_move_fits : (frames : ℕ) (guests : List GuestSpec) (view : View) (part : ActorPart) (cpu : Processor) (lookup : Lookup) (arrives : Arrival) (need : Need)
    → LooksAt frames view → cpu.npt < frames → NeedFits frames need → ArrivalFits frames arrives → MoveFits (need_move frames guests view.contents part cpu lookup arrives need)
unfolding need_move
need_move_fits frames guests view part cpu lookup arrives (needs.Nested frame index) looks root fits arrival =
    let small = looks.small in
    record { deed = (omega (arith, small, fits), table_word_fits (view.contents.pages frame) index (looks.words frame)); outcome = fault_fits frames _ (need_fits frames cpu lookup _ root) }
need_move_fits frames guests view part cpu lookup arrives (needs.Table gpn index frame size) looks root fits arrival =
    table_fits frames view.contents part cpu lookup _ gpn index frame root looks.small fits (looks.words frame) (private_fits (view.contents.pages frame).facts _ Load)
need_move_fits frames guests view part cpu lookup arrives (needs.Data gpn private frame size) looks root fits arrival = arrival gpn private frame size fits
need_move_fits frames guests view part cpu lookup arrives (needs.Fault outcome) looks root fits arrival = record { deed = tt; outcome = tt }

pub walked_fits : (frames : ℕ) (guests : List GuestSpec) (view : View) (part : ActorPart) (cpu : Processor) (lookup : Lookup) (refusal : Option Outcome) (arrives : Arrival) (made : List Deed)
    → LooksAt frames view → cpu.npt < frames → EndingFits refusal → ArrivalFits frames arrives → MoveFits (walked_move frames guests view.contents part cpu lookup refusal arrives made)
unfolding walked_move
walked_fits frames guests view part cpu lookup refusal arrives [] looks root fits arrival = begin_fits view.contents part _ _ _ refusal fits
walked_fits frames guests view part cpu lookup refusal arrives (deed ∷ others) looks root fits arrival =
    need_move_fits frames guests view part cpu lookup arrives (need_after frames cpu lookup (deed ∷ others)) looks root (need_fits frames cpu lookup (deed ∷ others) root) arrival

-- locks of instructions
abbrev pub RefusalFits : Option Refusal → Type 0
RefusalFits refusal = EndingFits (option_map refused_outcome refusal)

pub held_fits : (holder : Option ℕ) (later : Option Refusal) → ((h : ℕ) → holder ≡ Some h → h < 2 ^ 32) → RefusalFits later → RefusalFits (in_use_or holder later)
held_fits None later small fits = fits
held_fits (Some h) later small fits = small h refl

pub lock_fits : (view : View) (part : ActorPart) (lock : PageLock) (refusal : Option Refusal) → lock.frame < 2 ^ 64 → RefusalFits refusal → MoveFits (instruction_lock view part lock refusal)
unfolding lock_move
lock_fits view part lock None small fits = record { deed = small; outcome = tt }
lock_fits view part lock (Some refusal) small fits = record { deed = small; outcome = fits }

validate_refusal_fits : (at : Place) (size : PageSize) (facts : RmpEntry) (holder : Option ℕ) → ((h : ℕ) → holder ≡ Some h → h < 2 ^ 32) → RefusalFits (validate_refusal at size facts holder)
unfolding validate_refusal
validate_refusal_fits at size facts holder small =
    cond_both (is_large size && not (eqb (at.gpn % 512) 0)) _ _ RefusalFits (λ _. omega arith)
    (λ _. held_fits holder _ small
    (cond_both (not facts.assigned || not (eqb facts.asid at.asid) || not (eqb facts.gpn at.gpn) || facts.immutable) _ _ RefusalFits (λ _. code_fits _)
    (λ _. cond_both (not (is_large size) && (is_large facts.size || is_large at.leaf)) _ _ RefusalFits (λ _. code_fits _)
    (λ _. cond_both (is_large size && not (is_large facts.size)) _ _ RefusalFits (λ _. omega arith) (λ _. tt)))))

further_fits : (at : Place) (mask : ℕ) (vmsa : Bool) (facts : RmpEntry) → RefusalFits (adjust_further at mask vmsa facts)
unfolding adjust_further
further_fits at mask vmsa facts =
    cond_both (not facts.validated) _ _ RefusalFits (λ _. omega arith)
    (λ _. cond_both (exceeds mask _) _ _ RefusalFits (λ _. omega arith)
    (λ _. cond_both (vmsa && not (eqb at.vmpl 0)) _ _ RefusalFits (λ _. omega arith) (λ _. tt)))

either_fits : (one other : Option Refusal) → RefusalFits one → RefusalFits other → RefusalFits (option_or one other)
either_fits None other first second = second
either_fits (Some refusal) other first second = first

adjust_refusal_fits : (at : Place) (size : PageSize) (mask : ℕ) (vmsa : Bool) (facts : RmpEntry) (holder : Option ℕ) → ((h : ℕ) → holder ≡ Some h → h < 2 ^ 32) → RefusalFits (adjust_refusal at size mask vmsa facts holder)
unfolding adjust_refusal
adjust_refusal_fits at size mask vmsa facts holder small = either_fits (validate_refusal at size facts holder) _ (validate_refusal_fits at size facts holder small) (further_fits at mask vmsa facts)

-- PVALIDATE and RMPADJUST
pub validate_begin_fits : (cpu : Processor) (address : ℕ) (size : PageSize) → EndingFits (validate_begin cpu address size)
unfolding validate_begin
validate_begin_fits cpu address size =
    cond_both (not (eqb cpu.vmpl 0)) _ _ EndingFits (λ _. tt) (λ _. cond_both (not (is_page_address size address)) _ _ EndingFits (λ _. omega arith) (λ _. tt))

adjust_input_fits : (vmpl target mask : ℕ) → EndingFits (option_map outcomes.Status (adjust_input vmpl target mask))
unfolding adjust_input
adjust_input_fits vmpl target mask =
    let P = λ (status : Option ℕ). EndingFits (option_map outcomes.Status status) in
    cond_both (nat_lt 3 target || nat_lt 15 mask) _ _ P (λ _. omega arith) (λ _. cond_both _ (Some 2) None P (λ _. omega arith) (λ _. tt))

pub adjust_begin_fits : (cpu : Processor) (address : ℕ) (size : PageSize) (target mask : ℕ) → EndingFits (adjust_begin cpu address size target mask)
unfolding adjust_begin
adjust_begin_fits cpu address size target mask =
    cond_both (not (is_page_address size address)) _ _ EndingFits (λ _. omega arith) (λ _. adjust_input_fits cpu.vmpl target mask)

pub validate_fits : (frames : ℕ) (guests : List GuestSpec) (view : View) (part : ActorPart) (cpu : Processor) (size : PageSize) (validate : Bool) (locks : List PageLock) → LooksAt frames view
    → ArrivalFits frames (validate_move guests view part cpu size validate locks)
unfolding validate_move
validate_fits frames guests view part cpu size validate [] looks gpn private frame leaf inside =
    let small = looks.small in
    lock_fits view part (page_lock (facts_of view.contents frame).size frame) _ (omega (arith, small, inside)) (validate_refusal_fits _ size (facts_of view.contents frame) (view.holder frame) (looks.holders frame))
validate_fits frames guests view part cpu size validate (lock ∷ others) looks gpn private frame leaf inside = let small = looks.small in record { deed = omega (arith, small, inside); outcome = tt }

pub adjust_fits : (frames : ℕ) (guests : List GuestSpec) (view : View) (part : ActorPart) (cpu : Processor) (size : PageSize) (target mask : ℕ) (vmsa : Bool) (locks : List PageLock) → LooksAt frames view
    → ArrivalFits frames (adjust_move guests view part cpu size target mask vmsa locks)
unfolding adjust_move
adjust_fits frames guests view part cpu size target mask vmsa [] looks gpn private frame leaf inside =
    let small = looks.small in
    lock_fits view part (page_lock (facts_of view.contents frame).size frame) _ (omega (arith, small, inside)) (adjust_refusal_fits _ size mask vmsa (facts_of view.contents frame) (view.holder frame) (looks.holders frame))
adjust_fits frames guests view part cpu size target mask vmsa (lock ∷ others) looks gpn private frame leaf inside = let small = looks.small in record { deed = omega (arith, small, inside); outcome = omega arith }
