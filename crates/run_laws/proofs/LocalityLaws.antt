-- An event depends on nothing but what it touches, and changes nothing else.
use Rattle.std.proofs.Common.{◌≡◌, ◌≢◌, ℕ, ◌/◌, true, eqb, List, Option, Some, None, refl, ap, ◌∙◌, subst}
use Rattle.std.proofs.lemmas.Bool.{cond_both, eqb-true}
use Rattle.snp_model.specs.declared.access.Verdict.{Verdict}
use Rattle.snp_model.specs.declared.access.Verdict.TheVariants.{Pass, Hidden, Fault}
use Rattle.snp_model.specs.declared.event.Deed.{Deed}
use Rattle.snp_model.specs.declared.event.Deed.TheVariants as deeds
use Rattle.snp_model.specs.declared.event.Outcome.{Outcome}
use Rattle.snp_model.specs.declared.item.Item.{Item}
use Rattle.snp_model.specs.declared.item.Item.TheVariants as items
use Rattle.snp_model.specs.declared.item.Op.{Op}
use Rattle.snp_model.specs.declared.item.Op.TheVariants.{Load, Store, Swap, Compare, Xor}
use Rattle.snp_model.specs.declared.item.SkipTest.{SkipTest}
use Rattle.snp_model.specs.declared.scenario.GuestSpec.{GuestSpec}
use Rattle.snp_model.specs.declared.scenario.Role.{Role}
use Rattle.snp_model.specs.declared.scenario.Role.TheVariants.{Cpu, Host, Firmware}
use Rattle.snp_model.specs.declared.entry.RmpEntry.{RmpEntry}
use Rattle.snp_model.specs.Accesses.{guest_verdict}
use Rattle.snp_model.specs.Walking.{Processor, lookup_of, index_of}
use Rattle.snp_model.specs.Opening.{asid_of}
use Rattle.snp_model.specs.Operations.{outcome_of, word_after}
use Rattle.snp_model.specs.Verdicts.{host_verdict}
use Rattle.snp_model.specs.State.{Page, Pages, Contents, ActorPart, View, with_word, word_of}
use Rattle.snp_model.specs.Moves.{Move}
use Rattle.snp_model.specs.Step.{pages_after, access_move, data_move, data_place, host_access, skip_move, item_move, line_at, part_after, step_of}
use Rattle.snp_model.specs.Touches.{Touched, nothing_touched, frame_touched, walk_touches, item_touches, touches, touches_frame, AgreeOn, AgreeBeside, SeeAlike, StepsAlike}
use Rattle.run_laws.proofs.FirmwareLocality.{firmware_alike, firmware_alone}
use Rattle.run_laws.proofs.InstructionLocality.{update_alike, smash_alike, validate_alike, adjust_alike, update_alone, smash_alone, validate_alone, adjust_alone}
use Rattle.run_laws.proofs.MoveLocality.{MovesAlike, includes_itself, own_frame, other_frame, quiet_alike, misplaced_alike, ArrivesAlike, walked_alike, MovesAlone, quiet_alone, ArrivesAlone, walked_alone}

-- a page after a written word depends on that page before it alone
word_alike : (frame index value : ℕ) (one other : Pages) (f : ℕ) → one f ≡ other f → with_word frame index value one f ≡ with_word frame index value other f
word_alike frame index value one other f same = ap (λ (page : Page). with_word frame index value (λ _. page) f) same

pages_alike : (op : Op) (frame index word : ℕ) (one other : Pages) (f : ℕ) → one f ≡ other f → pages_after op frame index word one f ≡ pages_after op frame index word other f
pages_alike Load frame index word one other f same = same
pages_alike (Store value) frame index word one other f same = word_alike frame index value one other f same
pages_alike (Swap value) frame index word one other f same = word_alike frame index value one other f same
pages_alike (Compare expected next) frame index word one other f same = word_alike frame index (word_after (Compare expected next) word) one other f same
pages_alike (Xor value) frame index word one other f same = word_alike frame index (word_after (Xor value) word) one other f same

-- a written word leaves the pages of other frames
word_beside : (frame index value : ℕ) (pages : Pages) (f : ℕ) → frame ≢ f → pages f ≡ with_word frame index value pages f
word_beside frame index value pages f apart =
    cond_both (eqb frame f) _ _ (λ (page : Page). pages f ≡ page) (λ e. absurd (apart (eqb-true frame f e))) (λ _. refl)

pages_beside : (op : Op) (frame index word : ℕ) (pages : Pages) (f : ℕ) → frame ≢ f → pages f ≡ pages_after op frame index word pages f
pages_beside Load frame index word pages f apart = refl
pages_beside (Store value) frame index word pages f apart = word_beside frame index value pages f apart
pages_beside (Swap value) frame index word pages f apart = word_beside frame index value pages f apart
pages_beside (Compare expected next) frame index word pages f apart = word_beside frame index (word_after (Compare expected next) word) pages f apart
pages_beside (Xor value) frame index word pages f apart = word_beside frame index (word_after (Xor value) word) pages f apart

skip_alike : (touched : Touched) (one other : Contents) (part : ActorPart) (count : ℕ) (test : SkipTest)
    → AgreeOn touched one other → MovesAlike touched (skip_move one part count test) (skip_move other part count test)
skip_alike touched one other part count test same = quiet_alike touched one other part _ _ same

-- an access, whatever its verdict
access_alike : (touched : Touched) (one other : Contents) (part : ActorPart) (deed : Deed) (verdict : Verdict) (op : Op) (frame index : ℕ) → touches_frame touched frame ≡ true
    → AgreeOn touched one other → MovesAlike touched (access_move one part deed verdict op frame index) (access_move other part deed verdict op frame index)
unfolding access_move
access_alike touched one other part deed Pass op frame index is_touched same =
    let page = same.pages frame is_touched in
    record {
      deed = refl;
      outcome = ap (λ (p : Page). Some (outcome_of op (word_of p index))) page;
      contents = record {
        pages = λ f here.
            pages_alike op frame index (word_of (one.pages frame) index) one.pages other.pages f (same.pages f here)
            ∙ ap (λ (p : Page). pages_after op frame index (word_of p index) other.pages f) page;
        contexts = same.contexts;
      };
      standing = refl;
    }
access_alike touched one other part deed Hidden op frame index is_touched same = quiet_alike touched one other part deed _ same
access_alike touched one other part deed (Fault outcome) op frame index is_touched same = quiet_alike touched one other part deed _ same

-- an access with its check, which looks at the frame's facts
checked_alike : (touched : Touched) (one other : Contents) (part : ActorPart) (deed : Deed) (check : RmpEntry → Verdict) (op : Op) (frame index : ℕ) → touches_frame touched frame ≡ true
    → AgreeOn touched one other
    → MovesAlike touched (access_move one part deed (check (one.pages frame).facts) op frame index) (access_move other part deed (check (other.pages frame).facts) op frame index)
checked_alike touched one other part deed check op frame index is_touched same =
    subst (λ (page : Page). MovesAlike touched (access_move one part deed (check (one.pages frame).facts) op frame index) (access_move other part deed (check page.facts) op frame index))
    (same.pages frame is_touched) (access_alike touched one other part deed _ op frame index is_touched same)

-- a hypervisor's access
host_alike : (one other : Contents) (part : ActorPart) (address : ℕ) (op : Op)
    → AgreeOn (frame_touched (address / 4096)) one other → MovesAlike (frame_touched (address / 4096)) (host_access one part address op) (host_access other part address op)
unfolding host_access
host_alike one other part address op same =
    let frame = address / 4096 in
    checked_alike (frame_touched frame) one other part (deeds.Host frame (index_of address)) (λ (facts : RmpEntry). host_verdict facts op) op frame (index_of address) (own_frame frame) same

-- an access at the frame that its walks have led to
data_alike : (touched : Touched) (guests : List GuestSpec) (one other : Contents) (part : ActorPart) (cpu : Processor) (address : ℕ) (op : Op)
    → AgreeOn touched one other → ArrivesAlike touched (data_move guests one part cpu address op) (data_move guests other part cpu address op)
data_alike touched guests one other part cpu address op same gpn private frame size is_touched =
    let place = data_place (asid_of guests cpu.guest) cpu.vmpl address gpn private frame size in
    checked_alike touched one other part (deeds.Access gpn (index_of address) frame private) (λ (facts : RmpEntry). guest_verdict facts place op) op frame (index_of address) is_touched same

-- so each item's move
item_alike : (frames : ℕ) (guests : List GuestSpec) (part : ActorPart) (role : Role) (item : Item) (one other : View) → SeeAlike (item_touches frames guests part role item) one other
    → MovesAlike (item_touches frames guests part role item) (item_move frames guests one part role item) (item_move frames guests other part role item)
unfolding item_touches item_move
item_alike frames guests part (Cpu guest vmpl npt paging) (items.Access address op) one other same =
    let cpu : Processor = record { guest = guest; vmpl = vmpl; npt = npt; paging = paging } in
    let lookup = lookup_of address op in
    let touched = walk_touches frames cpu lookup part.deeds in
    walked_alike touched frames guests one.contents other.contents part cpu lookup None _ _ part.deeds (includes_itself touched) (data_alike touched guests one.contents other.contents part cpu address op same.contents) same.contents
item_alike frames guests part (Cpu guest vmpl npt paging) (items.Pvalidate address size validate) one other same =
    validate_alike frames guests one other part (record { guest = guest; vmpl = vmpl; npt = npt; paging = paging }) address size validate same
item_alike frames guests part (Cpu guest vmpl npt paging) (items.Rmpadjust address size target mask vmsa) one other same =
    adjust_alike frames guests one other part (record { guest = guest; vmpl = vmpl; npt = npt; paging = paging }) address size target mask vmsa same
item_alike frames guests part (Cpu guest vmpl npt paging) (items.Rmpupdate update) one other same = misplaced_alike nothing_touched one.contents other.contents part same.contents
item_alike frames guests part (Cpu guest vmpl npt paging) (items.Psmash frame) one other same = misplaced_alike nothing_touched one.contents other.contents part same.contents
item_alike frames guests part (Cpu guest vmpl npt paging) (items.Firmware command) one other same = misplaced_alike nothing_touched one.contents other.contents part same.contents
item_alike frames guests part (Cpu guest vmpl npt paging) (items.Skip count test) one other same = skip_alike nothing_touched one.contents other.contents part count test same.contents
item_alike frames guests part Host (items.Access address op) one other same = host_alike one.contents other.contents part address op same.contents
item_alike frames guests part Host (items.Pvalidate address size validate) one other same = misplaced_alike nothing_touched one.contents other.contents part same.contents
item_alike frames guests part Host (items.Rmpadjust address size target mask vmsa) one other same = misplaced_alike nothing_touched one.contents other.contents part same.contents
item_alike frames guests part Host (items.Rmpupdate update) one other same = update_alike frames one other part update part.standing.locks same
item_alike frames guests part Host (items.Psmash frame) one other same = smash_alike frames one other part frame part.standing.locks same
item_alike frames guests part Host (items.Firmware command) one other same = misplaced_alike nothing_touched one.contents other.contents part same.contents
item_alike frames guests part Host (items.Skip count test) one other same = skip_alike nothing_touched one.contents other.contents part count test same.contents
item_alike frames guests part Firmware (items.Access address op) one other same = misplaced_alike nothing_touched one.contents other.contents part same.contents
item_alike frames guests part Firmware (items.Pvalidate address size validate) one other same = misplaced_alike nothing_touched one.contents other.contents part same.contents
item_alike frames guests part Firmware (items.Rmpadjust address size target mask vmsa) one other same = misplaced_alike nothing_touched one.contents other.contents part same.contents
item_alike frames guests part Firmware (items.Rmpupdate update) one other same = misplaced_alike nothing_touched one.contents other.contents part same.contents
item_alike frames guests part Firmware (items.Psmash frame) one other same = misplaced_alike nothing_touched one.contents other.contents part same.contents
item_alike frames guests part Firmware (items.Firmware command) one other same = firmware_alike frames guests one other part command same
item_alike frames guests part Firmware (items.Skip count test) one other same = skip_alike nothing_touched one.contents other.contents part count test same.contents

-- like moves leave like parts
part_alike : (touched : Touched) (part : ActorPart) (one other : Move) (outcome : Option Outcome) → MovesAlike touched one other → part_after part one outcome ≡ part_after part other outcome
unfolding part_after
part_alike touched part one other None same = let deed = same.deed in let standing = same.standing in cc
part_alike touched part one other (Some outcome) same = refl

-- an event depends on nothing but what it touches
pub step_local : (frames : ℕ) (guests : List GuestSpec) (part : ActorPart) (one other : View) → SeeAlike (touches frames guests part) one other
    → StepsAlike (touches frames guests part) (step_of frames guests part one) (step_of frames guests part other)
step_local frames guests part one other same =
    let item = (line_at part.script part.item).item in
    let touched = touches frames guests part in
    let first = item_move frames guests one part part.role item in
    let second = item_move frames guests other part part.role item in
    let alike : MovesAlike touched first second = item_alike frames guests part part.role item one other same in
    record {
      event = let deed = alike.deed in let outcome = alike.outcome in cc;
      part = part_alike touched part first second first.outcome alike ∙ ap (part_after part second) alike.outcome;
      contents = alike.contents;
    }

-- an access, whatever its verdict
access_alone : (touched : Touched) (old : Contents) (part : ActorPart) (deed : Deed) (verdict : Verdict) (op : Op) (frame index : ℕ) → touches_frame touched frame ≡ true
    → MovesAlone touched old (access_move old part deed verdict op frame index)
unfolding access_move
access_alone touched old part deed Pass op frame index is_touched = record {
  contents = record {
    pages = λ f apart. pages_beside op frame index (word_of (old.pages frame) index) old.pages f (other_frame touched frame f is_touched apart);
    contexts = λ guest apart. refl;
  };
}
access_alone touched old part deed Hidden op frame index is_touched = quiet_alone touched old part deed _
access_alone touched old part deed (Fault outcome) op frame index is_touched = quiet_alone touched old part deed _

-- a hypervisor's access
host_alone : (old : Contents) (part : ActorPart) (address : ℕ) (op : Op) → MovesAlone (frame_touched (address / 4096)) old (host_access old part address op)
unfolding host_access
host_alone old part address op =
    let frame = address / 4096 in
    access_alone (frame_touched frame) old part (deeds.Host frame (index_of address)) (host_verdict (old.pages frame).facts op) op frame (index_of address) (own_frame frame)

-- an access at the frame that its walks have led to
data_alone : (touched : Touched) (guests : List GuestSpec) (old : Contents) (part : ActorPart) (cpu : Processor) (address : ℕ) (op : Op) → ArrivesAlone touched old (data_move guests old part cpu address op)
data_alone touched guests old part cpu address op gpn private frame size is_touched =
    let place = data_place (asid_of guests cpu.guest) cpu.vmpl address gpn private frame size in
    access_alone touched old part (deeds.Access gpn (index_of address) frame private) (guest_verdict (old.pages frame).facts place op) op frame (index_of address) is_touched

-- so each item's move
item_alone : (frames : ℕ) (guests : List GuestSpec) (part : ActorPart) (role : Role) (item : Item) (view : View)
    → MovesAlone (item_touches frames guests part role item) view.contents (item_move frames guests view part role item)
unfolding item_touches item_move
item_alone frames guests part (Cpu guest vmpl npt paging) (items.Access address op) view =
    let cpu : Processor = record { guest = guest; vmpl = vmpl; npt = npt; paging = paging } in
    let lookup = lookup_of address op in
    let touched = walk_touches frames cpu lookup part.deeds in
    walked_alone touched frames guests view.contents part cpu lookup None _ part.deeds (includes_itself touched) (data_alone touched guests view.contents part cpu address op)
item_alone frames guests part (Cpu guest vmpl npt paging) (items.Pvalidate address size validate) view =
    validate_alone frames guests view part (record { guest = guest; vmpl = vmpl; npt = npt; paging = paging }) address size validate
item_alone frames guests part (Cpu guest vmpl npt paging) (items.Rmpadjust address size target mask vmsa) view =
    adjust_alone frames guests view part (record { guest = guest; vmpl = vmpl; npt = npt; paging = paging }) address size target mask vmsa
item_alone frames guests part (Cpu guest vmpl npt paging) (items.Rmpupdate update) view = quiet_alone nothing_touched view.contents part _ _
item_alone frames guests part (Cpu guest vmpl npt paging) (items.Psmash frame) view = quiet_alone nothing_touched view.contents part _ _
item_alone frames guests part (Cpu guest vmpl npt paging) (items.Firmware command) view = quiet_alone nothing_touched view.contents part _ _
item_alone frames guests part (Cpu guest vmpl npt paging) (items.Skip count test) view = quiet_alone nothing_touched view.contents part _ _
item_alone frames guests part Host (items.Access address op) view = host_alone view.contents part address op
item_alone frames guests part Host (items.Pvalidate address size validate) view = quiet_alone nothing_touched view.contents part _ _
item_alone frames guests part Host (items.Rmpadjust address size target mask vmsa) view = quiet_alone nothing_touched view.contents part _ _
item_alone frames guests part Host (items.Rmpupdate update) view = update_alone frames view part update part.standing.locks
item_alone frames guests part Host (items.Psmash frame) view = smash_alone frames view part frame part.standing.locks
item_alone frames guests part Host (items.Firmware command) view = quiet_alone nothing_touched view.contents part _ _
item_alone frames guests part Host (items.Skip count test) view = quiet_alone nothing_touched view.contents part _ _
item_alone frames guests part Firmware (items.Access address op) view = quiet_alone nothing_touched view.contents part _ _
item_alone frames guests part Firmware (items.Pvalidate address size validate) view = quiet_alone nothing_touched view.contents part _ _
item_alone frames guests part Firmware (items.Rmpadjust address size target mask vmsa) view = quiet_alone nothing_touched view.contents part _ _
item_alone frames guests part Firmware (items.Rmpupdate update) view = quiet_alone nothing_touched view.contents part _ _
item_alone frames guests part Firmware (items.Psmash frame) view = quiet_alone nothing_touched view.contents part _ _
item_alone frames guests part Firmware (items.Firmware command) view = firmware_alone frames guests view part command
item_alone frames guests part Firmware (items.Skip count test) view = quiet_alone nothing_touched view.contents part _ _

-- and it changes nothing else
pub step_alone : (frames : ℕ) (guests : List GuestSpec) (part : ActorPart) (view : View) → AgreeBeside (touches frames guests part) view.contents (step_of frames guests part view).contents
step_alone frames guests part view = (item_alone frames guests part part.role (line_at part.script part.item).item view).contents
