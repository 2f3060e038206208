-- What several kinds of items share of this: an event depends on nothing but what it touches, and changes nothing else.
use Rattle.std.proofs.Common.{◌≡◌, ◌≢◌, ℕ, Bool, true, false, not, cond, List, [], ◌∷◌, ◌++◌, Option, Some, None, refl, sym, ap, ◌∙◌, subst, arith}
use Rattle.std.proofs.lemmas.Bool.{cond_both, true≢false}
use Rattle.std.proofs.lemmas.Bool.Decides.{nat_tests}
use Rattle.snp_model.specs.declared.access.Verdict.{Verdict}
use Rattle.snp_model.specs.declared.access.Verdict.TheVariants.{Pass, Hidden, Fault}
use Rattle.snp_model.specs.declared.event.Deed.{Deed}
use Rattle.snp_model.specs.declared.event.Deed.TheVariants as deeds
use Rattle.snp_model.specs.declared.event.Outcome.{Outcome}
use Rattle.snp_model.specs.declared.event.Outcome.TheVariants as outcomes
use Rattle.snp_model.specs.declared.item.Op.TheVariants.{Load}
use Rattle.snp_model.specs.declared.scenario.GuestSpec.{GuestSpec}
use Rattle.snp_model.specs.declared.entry.RmpEntry.{RmpEntry}
use Rattle.snp_model.specs.declared.entry.PageSize.{PageSize}
use Rattle.snp_model.specs.declared.walk.Lookup.{Lookup}
use Rattle.snp_model.specs.declared.walk.Need.{Need}
use Rattle.snp_model.specs.declared.walk.Need.TheVariants as needs
use Rattle.snp_model.specs.GuestWalk.{levels_of, is_canonical}
use Rattle.snp_model.specs.Walking.{Processor, need_after, fault_of}
use Rattle.snp_model.specs.Opening.{asid_of}
use Rattle.snp_model.specs.Verdicts.{private_verdict}
use Rattle.snp_model.specs.State.{Page, Pages, PageLock, Context, Contents, ActorPart, word_of}
use Rattle.snp_model.specs.Moves.{Move, Arrival, lock_move, memory_move, quiet_move, misplaced_move, faulted_move, table_word, is_running, begin_move, walk_move, table_move, need_move, walked_move, table_place}
use Rattle.snp_model.specs.Touches.{Touched, frame_touched, need_touches, walk_touches, touches_frame, AgreeOn, AgreeBeside}

-- two moves are the same, and leave what is touched the same
pub record MovesAlike (touched : Touched) (one other : Move) : Type 0 where
  pub deed : one.deed ≡ other.deed
  pub outcome : one.outcome ≡ other.outcome
  pub contents : AgreeOn touched one.contents other.contents
  pub standing : one.standing ≡ other.standing

-- a frame is in its own region
pub own_frame : (frame : ℕ) → touches_frame (frame_touched frame) frame ≡ true
own_frame frame = grind (arith, nat_tests)

-- a frame that isn't touched is another than one that is
pub other_frame : (touched : Touched) (frame f : ℕ) → touches_frame touched frame ≡ true → touches_frame touched f ≡ false → frame ≢ f
other_frame touched frame f is_touched apart same = true≢false (sym is_touched ∙ ap (touches_frame touched) same ∙ apart)

-- an event that changes nothing
pub quiet_alike : (touched : Touched) (one other : Contents) (part : ActorPart) (deed : Deed) (outcome : Option Outcome)
    → AgreeOn touched one other → MovesAlike touched (quiet_move one part deed outcome) (quiet_move other part deed outcome)
quiet_alike touched one other part deed outcome same = record { deed = refl; outcome = refl; contents = same; standing = refl }

pub misplaced_alike : (touched : Touched) (one other : Contents) (part : ActorPart) → AgreeOn touched one other → MovesAlike touched (misplaced_move one part) (misplaced_move other part)
misplaced_alike touched one other part same = quiet_alike touched one other part _ _ same

pub faulted_alike : (touched : Touched) (one other : Contents) (part : ActorPart) → AgreeOn touched one other → MovesAlike touched (faulted_move one part) (faulted_move other part)
faulted_alike touched one other part same = quiet_alike touched one other part _ _ same

-- moves that the same test chooses
pub chosen_alike : (touched : Touched) (test : Bool) (one other one_else other_else : Move) → MovesAlike touched one other → MovesAlike touched one_else other_else
    → MovesAlike touched (cond test one one_else) (cond test other other_else)
chosen_alike touched true one other one_else other_else same same_else = same
chosen_alike touched false one other one_else other_else same same_else = same_else

-- the beginning of a guest processor's item
begin_alike : (touched : Touched) (one other : Contents) (part : ActorPart) (context : Context) (levels address : ℕ) (refusal : Option Outcome)
    → AgreeOn touched one other → MovesAlike touched (begin_move one part context levels address refusal) (begin_move other part context levels address refusal)
unfolding begin_move
begin_alike touched one other part context levels address refusal same =
    let quiet = λ (outcome : Option Outcome). quiet_alike touched one other part deeds.Begin outcome same in
    chosen_alike touched (not (is_running context.state)) _ _ _ _ (quiet (Some outcomes.Offline))
    (chosen_alike touched (not (is_canonical levels address)) _ _ _ _ (quiet (Some outcomes.Gp)) (quiet refusal))

begins_alike : (touched : Touched) (one other : Contents) (part : ActorPart) (guest levels address : ℕ) (refusal : Option Outcome) → touched.context ≡ Some guest
    → AgreeOn touched one other
    → MovesAlike touched (begin_move one part (one.contexts guest) levels address refusal) (begin_move other part (other.contexts guest) levels address refusal)
begins_alike touched one other part guest levels address refusal context same =
    subst (λ (context : Context). MovesAlike touched (begin_move one part (one.contexts guest) levels address refusal) (begin_move other part context levels address refusal))
    (same.contexts guest context) (begin_alike touched one other part (one.contexts guest) levels address refusal same)

-- a word of a walk
walk_alike : (touched : Touched) (frames : ℕ) (one other : Contents) (part : ActorPart) (cpu : Processor) (lookup : Lookup) (deed deed' : Deed) → deed ≡ deed'
    → AgreeOn touched one other → MovesAlike touched (walk_move frames one part cpu lookup deed) (walk_move frames other part cpu lookup deed')
walk_alike touched frames one other part cpu lookup deed deed' is same = record {
  deed = is;
  outcome = ap (λ (d : Deed). fault_of (need_after frames cpu lookup (part.deeds ++ d ∷ []))) is;
  contents = same;
  standing = refl;
}

-- a word of a guest table, whatever the verdict
table_alike : (touched : Touched) (frames : ℕ) (one other : Contents) (part : ActorPart) (cpu : Processor) (lookup : Lookup) (verdict : Verdict) (gpn index frame : ℕ) → touches_frame touched frame ≡ true
    → AgreeOn touched one other → MovesAlike touched (table_move frames one part cpu lookup verdict gpn index frame) (table_move frames other part cpu lookup verdict gpn index frame)
unfolding table_move
table_alike touched frames one other part cpu lookup Pass gpn index frame is_touched same =
    walk_alike touched frames one other part cpu lookup _ _ (ap (λ (page : Page). deeds.Table gpn index frame (Some (word_of page index))) (same.pages frame is_touched)) same
table_alike touched frames one other part cpu lookup Hidden gpn index frame is_touched same = quiet_alike touched one other part _ _ same
table_alike touched frames one other part cpu lookup (Fault outcome) gpn index frame is_touched same = quiet_alike touched one other part _ _ same

table_checked_alike : (touched : Touched) (frames : ℕ) (one other : Contents) (part : ActorPart) (cpu : Processor) (lookup : Lookup) (check : RmpEntry → Verdict) (gpn index frame : ℕ) → touches_frame touched frame ≡ true
    → AgreeOn touched one other
    → MovesAlike touched (table_move frames one part cpu lookup (check (one.pages frame).facts) gpn index frame) (table_move frames other part cpu lookup (check (other.pages frame).facts) gpn index frame)
table_checked_alike touched frames one other part cpu lookup check gpn index frame is_touched same =
    subst (λ (page : Page). MovesAlike touched (table_move frames one part cpu lookup (check (one.pages frame).facts) gpn index frame) (table_move frames other part cpu lookup (check page.facts) gpn index frame))
    (same.pages frame is_touched) (table_alike touched frames one other part cpu lookup _ gpn index frame is_touched same)

-- what touches more
pub record Includes (touched less : Touched) : Type 0 where
  pub frames : (frame : ℕ) → touches_frame less frame ≡ true → touches_frame touched frame ≡ true
  pub context : (guest : ℕ) → less.context ≡ Some guest → touched.context ≡ Some guest

pub includes_itself : (touched : Touched) → Includes touched touched
includes_itself touched = record { frames = λ frame is_touched. is_touched; context = λ guest is. is }

-- what an item does at the frame that its walks have led to
abbrev pub ArrivesAlike : Touched → Arrival → Arrival → Type 0
ArrivesAlike touched arrives arrives' =
    (gpn : ℕ) (private : Bool) (frame : ℕ) (size : PageSize) → touches_frame touched frame ≡ true → MovesAlike touched (arrives gpn private frame size) (arrives' gpn private frame size)

-- an item of a guest processor that walks, by what it needs
need_alike : (touched : Touched) (frames : ℕ) (guests : List GuestSpec) (one other : Contents) (part : ActorPart) (cpu : Processor) (lookup : Lookup) (arrives arrives' : Arrival) (need : Need)
    → Includes touched (need_touches need) → ArrivesAlike touched arrives arrives' → AgreeOn touched one other
    → MovesAlike touched (need_move frames guests one part cpu lookup arrives need) (need_move frames guests other part cpu lookup arrives' need)
unfolding need_touches need_move
need_alike touched frames guests one other part cpu lookup arrives arrives' (needs.Nested frame index) includes alike same =
    walk_alike touched frames one other part cpu lookup _ _ (ap (λ (page : Page). deeds.Nested frame index (table_word page index)) (same.pages frame (includes.frames frame (own_frame frame)))) same
need_alike touched frames guests one other part cpu lookup arrives arrives' (needs.Table gpn index frame size) includes alike same =
    let place = table_place (asid_of guests cpu.guest) cpu.vmpl gpn index frame size in
    table_checked_alike touched frames one other part cpu lookup (λ (facts : RmpEntry). private_verdict facts place Load) gpn index frame (includes.frames frame (own_frame frame)) same
need_alike touched frames guests one other part cpu lookup arrives arrives' (needs.Data gpn private frame size) includes alike same = alike gpn private frame size (includes.frames frame (own_frame frame))
need_alike touched frames guests one other part cpu lookup arrives arrives' (needs.Fault outcome) includes alike same = faulted_alike touched one other part same

pub walked_alike : (touched : Touched) (frames : ℕ) (guests : List GuestSpec) (one other : Contents) (part : ActorPart) (cpu : Processor) (lookup : Lookup) (refusal : Option Outcome) (arrives arrives' : Arrival) (made : List Deed)
    → Includes touched (walk_touches frames cpu lookup made) → ArrivesAlike touched arrives arrives' → AgreeOn touched one other
    → MovesAlike touched (walked_move frames guests one part cpu lookup refusal arrives made) (walked_move frames guests other part cpu lookup refusal arrives' made)
unfolding walk_touches walked_move
walked_alike touched frames guests one other part cpu lookup refusal arrives arrives' [] includes alike same =
    begins_alike touched one other part cpu.guest (levels_of cpu.paging) lookup.address refusal (includes.context cpu.guest refl) same
walked_alike touched frames guests one other part cpu lookup refusal arrives arrives' (deed ∷ others) includes alike same =
    need_alike touched frames guests one other part cpu lookup arrives arrives' (need_after frames cpu lookup (deed ∷ others)) includes alike same

-- an event that takes a lock, or is refused
pub lock_alike : (touched : Touched) (one other : Contents) (part : ActorPart) (lock : PageLock) (refusal : Option Outcome)
    → AgreeOn touched one other → MovesAlike touched (lock_move one part lock refusal) (lock_move other part lock refusal)
unfolding lock_move
lock_alike touched one other part lock None same = record { deed = refl; outcome = refl; contents = same; standing = refl }
lock_alike touched one other part lock (Some outcome) same = quiet_alike touched one other part _ _ same

-- an event that changes memory, in what is touched in the same way
pub memory_alike : (touched : Touched) (one other : Contents) (part : ActorPart) (deed : Deed) (outcome : Option Outcome) (pages pages' : Pages)
    → ((f : ℕ) → touches_frame touched f ≡ true → pages f ≡ pages' f) → AgreeOn touched one other
    → MovesAlike touched (memory_move one part deed outcome pages) (memory_move other part deed outcome pages')
memory_alike touched one other part deed outcome pages pages' alike same = record { deed = refl; outcome = refl; contents = record { pages = alike; contexts = same.contexts }; standing = refl }

-- a move leaves all else as it was
pub record MovesAlone (touched : Touched) (old : Contents) (move : Move) : Type 0 where
  pub contents : AgreeBeside touched old move.contents

-- an event that changes nothing
pub quiet_alone : (touched : Touched) (old : Contents) (part : ActorPart) (deed : Deed) (outcome : Option Outcome) → MovesAlone touched old (quiet_move old part deed outcome)
quiet_alone touched old part deed outcome = record { contents = record { pages = λ f apart. refl; contexts = λ guest apart. refl } }

-- the beginning of a guest processor's item
begin_alone : (touched : Touched) (old : Contents) (part : ActorPart) (context : Context) (levels address : ℕ) (refusal : Option Outcome) → MovesAlone touched old (begin_move old part context levels address refusal)
unfolding begin_move
begin_alone touched old part context levels address refusal =
    let quiet = λ (outcome : Option Outcome). quiet_alone touched old part deeds.Begin outcome in
    cond_both (not (is_running context.state)) _ _ (MovesAlone touched old) (λ _. quiet (Some outcomes.Offline))
    (λ _. cond_both (not (is_canonical levels address)) _ _ (MovesAlone touched old) (λ _. quiet (Some outcomes.Gp)) (λ _. quiet refusal))

-- a word of a guest table, whatever the verdict
table_alone : (touched : Touched) (frames : ℕ) (old : Contents) (part : ActorPart) (cpu : Processor) (lookup : Lookup) (verdict : Verdict) (gpn index frame : ℕ)
    → MovesAlone touched old (table_move frames old part cpu lookup verdict gpn index frame)
unfolding table_move
table_alone touched frames old part cpu lookup Pass gpn index frame = quiet_alone touched old part _ _
table_alone touched frames old part cpu lookup Hidden gpn index frame = quiet_alone touched old part _ _
table_alone touched frames old part cpu lookup (Fault outcome) gpn index frame = quiet_alone touched old part _ _

-- what an item does at the frame that its walks have led to
abbrev pub ArrivesAlone : Touched → Contents → Arrival → Type 0
ArrivesAlone touched old arrives = (gpn : ℕ) (private : Bool) (frame : ℕ) (size : PageSize) → touches_frame touched frame ≡ true → MovesAlone touched old (arrives gpn private frame size)

-- an item of a guest processor that walks, by what it needs
need_alone : (touched : Touched) (frames : ℕ) (guests : List GuestSpec) (old : Contents) (part : ActorPart) (cpu : Processor) (lookup : Lookup) (arrives : Arrival) (need : Need)
    → Includes touched (need_touches need) → ArrivesAlone touched old arrives → MovesAlone touched old (need_move frames guests old part cpu lookup arrives need)
unfolding need_touches need_move
need_alone touched frames guests old part cpu lookup arrives (needs.Nested frame index) includes alone = quiet_alone touched old part _ _
need_alone touched frames guests old part cpu lookup arrives (needs.Table gpn index frame size) includes alone = table_alone touched frames old part cpu lookup _ gpn index frame
need_alone touched frames guests old part cpu lookup arrives (needs.Data gpn private frame size) includes alone = alone gpn private frame size (includes.frames frame (own_frame frame))
need_alone touched frames guests old part cpu lookup arrives (needs.Fault outcome) includes alone = quiet_alone touched old part _ _

pub walked_alone : (touched : Touched) (frames : ℕ) (guests : List GuestSpec) (old : Contents) (part : ActorPart) (cpu : Processor) (lookup : Lookup) (refusal : Option Outcome) (arrives : Arrival) (made : List Deed)
    → Includes touched (walk_touches frames cpu lookup made) → ArrivesAlone touched old arrives → MovesAlone touched old (walked_move frames guests old part cpu lookup refusal arrives made)
unfolding walk_touches walked_move
walked_alone touched frames guests old part cpu lookup refusal arrives [] includes alone = begin_alone touched old part (old.contexts cpu.guest) (levels_of cpu.paging) lookup.address refusal
walked_alone touched frames guests old part cpu lookup refusal arrives (deed ∷ others) includes alone =
    need_alone touched frames guests old part cpu lookup arrives (need_after frames cpu lookup (deed ∷ others)) includes alone

-- an event that takes a lock, or is refused
pub lock_alone : (touched : Touched) (old : Contents) (part : ActorPart) (lock : PageLock) (refusal : Option Outcome) → MovesAlone touched old (lock_move old part lock refusal)
unfolding lock_move
lock_alone touched old part lock None = record { contents = record { pages = λ f apart. refl; contexts = λ guest apart. refl } }
lock_alone touched old part lock (Some outcome) = quiet_alone touched old part _ _

-- an event that changes memory in what is touched alone
pub memory_alone : (touched : Touched) (old : Contents) (part : ActorPart) (deed : Deed) (outcome : Option Outcome) (pages : Pages)
    → ((f : ℕ) → touches_frame touched f ≡ false → old.pages f ≡ pages f) → MovesAlone touched old (memory_move old part deed outcome pages)
memory_alone touched old part deed outcome pages alone = record { contents = record { pages = alone; contexts = λ guest apart. refl } }
