-- What an access needs after one more word, and what the read of a guest table makes.
use Rattle.std.proofs.Common.{◌≡◌, ℕ, List, [], ◌∷◌, ◌++◌, length, Option, None, Some, refl, sym, ap, ◌∙◌}
use Rattle.std.specs.Option.{option_map}
use Rattle.std.specs.Prelude.{Result, Ok}
use Rattle.snp_model.specs.declared.access.Place.{Place}
use Rattle.snp_model.specs.declared.access.Verdict.{Verdict}
use Rattle.snp_model.specs.declared.access.Verdict.TheVariants.{Pass, Hidden, Fault}
use Rattle.snp_model.specs.declared.event.Deed.{Deed}
use Rattle.snp_model.specs.declared.event.Deed.TheVariants as deeds
use Rattle.snp_model.specs.declared.event.Outcome.{Outcome}
use Rattle.snp_model.specs.declared.event.Outcome.TheVariants.{Npf, Pf}
use Rattle.snp_model.specs.declared.entry.PageSize.{PageSize}
use Rattle.snp_model.specs.declared.walk.GuestEnd.{GuestEnd}
use Rattle.snp_model.specs.declared.walk.Lookup.{Lookup}
use Rattle.snp_model.specs.declared.item.Op.TheVariants.{Load}
use Rattle.snp_model.specs.declared.scenario.GuestSpec.{GuestSpec}
use Rattle.snp_model.specs.declared.walk.Need.{Need}
use Rattle.snp_model.specs.declared.walk.Need.TheVariants as needs
use Rattle.snp_model.specs.GuestWalk.{levels_of}
use Rattle.snp_model.specs.Opening.{asid_of}
use Rattle.snp_model.specs.Verdicts.{private_verdict}
use Rattle.snp_model.specs.Moves.{Arrival, begin_move, table_move, table_place, need_move, walked_move}
use Rattle.snp_model.specs.State.{ActorPart, View, word_of}
use Rattle.snp_model.specs.Walking.{Processor, guest_words, nested_words, guest_stands, walk_need, need_after, fault_of}
use Rattle.run_laws.proofs.ShapeLaws.{guest_words_same, guest_words_more, nested_words_more, nested_words_anew}
use Rattle.machine_core.specs.declared.shown.Shown.{Shown}
use Rattle.machine_core.specs.Moves.{move_by, table_load, table_shown}

-- one word more of a nested table
pub nested_read_more : (frames : ℕ) (cpu : Processor) (lookup : Lookup) (made : List Deed) (frame index value : ℕ)
    → need_after frames cpu lookup (made ++ deeds.Nested frame index value ∷ []) ≡ walk_need frames cpu.npt lookup (guest_stands cpu.paging lookup (guest_words made)) (nested_words made ++ value ∷ [])
nested_read_more frames cpu lookup made frame index value =
    λ i. walk_need frames cpu.npt lookup (guest_stands cpu.paging lookup (guest_words_same made frame index value i)) (nested_words_more made frame index value i)

-- and one of a guest table
pub table_read_more : (frames : ℕ) (cpu : Processor) (lookup : Lookup) (made : List Deed) (gpn index frame value : ℕ)
    → need_after frames cpu lookup (made ++ deeds.Table gpn index frame (Some value) ∷ []) ≡ walk_need frames cpu.npt lookup (guest_stands cpu.paging lookup (guest_words made ++ value ∷ [])) []
table_read_more frames cpu lookup made gpn index frame value =
    λ i. walk_need frames cpu.npt lookup (guest_stands cpu.paging lookup (guest_words_more made gpn index frame value i)) (nested_words_anew made gpn index frame (Some value) i)

-- what the read of a nested table shows, by the code of the fault that its word leads to
pub nested_shown : (frames : ℕ) (cpu : Processor) (lookup : Lookup) (made : List Deed) (frame index value word : ℕ) (stands : GuestEnd) (words : List ℕ) (given code : Option ℕ) (shown : Shown) → word ≡ value → stands ≡ guest_stands cpu.paging lookup (guest_words made) → words ≡ nested_words made
    → given ≡ code → option_map Npf given ≡ fault_of (walk_need frames cpu.npt lookup stands (words ++ word ∷ []))
    → shown ≡ record { deed = deeds.Nested frame index word; outcome = option_map Npf code; lock = None }
    → shown ≡ record { deed = deeds.Nested frame index value; outcome = fault_of (need_after frames cpu lookup (made ++ deeds.Nested frame index value ∷ [])); lock = None }
nested_shown frames cpu lookup made frame index value word stands words given code shown word_is stands_is words_are given_is fault is =
    let outcome : option_map Npf code ≡ fault_of (need_after frames cpu lookup (made ++ deeds.Nested frame index value ∷ [])) =
    sym (ap (option_map Npf) given_is) ∙ fault ∙ (λ i. fault_of (walk_need frames cpu.npt lookup (stands_is i) (words_are i ++ word_is i ∷ []))) ∙ ap fault_of (sym (nested_read_more frames cpu lookup made frame index value)) in
    is ∙ (λ i. record { deed = deeds.Nested frame index (word_is i); outcome = outcome i; lock = None })

-- what the read of a guest table shows that has given a word, by the code of the fault that it leads to
pub table_read_shown : (frames : ℕ) (cpu : Processor) (lookup : Lookup) (made : List Deed) (gpn index frame word : ℕ) (words : List ℕ) (load : Result ℕ Outcome) (given code : Option ℕ) (shown : Shown) → words ≡ guest_words made → Ok word ≡ load
    → given ≡ code → option_map Pf given ≡ fault_of (walk_need frames cpu.npt lookup (guest_stands cpu.paging lookup (words ++ word ∷ [])) [])
    → shown ≡ record { deed = deeds.Table gpn index frame (Some word); outcome = option_map Pf code; lock = None }
    → shown ≡ table_shown load gpn index frame (λ value. fault_of (need_after frames cpu lookup (made ++ deeds.Table gpn index frame (Some value) ∷ [])))
table_read_shown frames cpu lookup made gpn index frame word words load given code shown words_are load_is given_is fault is =
    let faults : ℕ → Option Outcome = λ value. fault_of (need_after frames cpu lookup (made ++ deeds.Table gpn index frame (Some value) ∷ [])) in
    let outcome : option_map Pf code ≡ faults word =
    sym (ap (option_map Pf) given_is) ∙ fault ∙ (λ i. fault_of (walk_need frames cpu.npt lookup (guest_stands cpu.paging lookup (words_are i ++ word ∷ [])) [])) ∙ ap fault_of (sym (table_read_more frames cpu lookup made gpn index frame word)) in
    is ∙ (λ i. record { deed = deeds.Table gpn index frame (Some word); outcome = outcome i; lock = None }) ∙ ap (λ (l : Result ℕ Outcome). table_shown l gpn index frame faults) load_is

-- the move of a read of a guest table, by what its check says
pub table_moves : (frames : ℕ) (view : View) (part : ActorPart) (cpu : Processor) (lookup : Lookup) (verdict : Verdict) (gpn index frame : ℕ)
    → table_move frames view.contents part cpu lookup verdict gpn index frame
    ≡ move_by (table_shown (table_load verdict (word_of (view.contents.pages frame) index)) gpn index frame (λ value. fault_of (need_after frames cpu lookup (part.deeds ++ deeds.Table gpn index frame (Some value) ∷ [])))) view part.standing
unfolding table_move
table_moves frames view part cpu lookup Pass gpn index frame = refl
table_moves frames view part cpu lookup Hidden gpn index frame = refl
table_moves frames view part cpu lookup (Fault outcome) gpn index frame = refl

-- an item that has not begun
pub walk_begins : (frames : ℕ) (guests : List GuestSpec) (view : View) (part : ActorPart) (cpu : Processor) (lookup : Lookup) (refusal : Option Outcome) (arrives : Arrival) (made : List Deed) → length made ≡ 0
    → walked_move frames guests view.contents part cpu lookup refusal arrives made ≡ begin_move view.contents part (view.contents.contexts cpu.guest) (levels_of cpu.paging) lookup.address refusal
unfolding walked_move
walk_begins frames guests view part cpu lookup refusal arrives [] none = refl
walk_begins frames guests view part cpu lookup refusal arrives (deed ∷ others) none = cc

-- an item that has begun, by what it needs
pub walk_begun : (frames : ℕ) (guests : List GuestSpec) (view : View) (part : ActorPart) (cpu : Processor) (lookup : Lookup) (refusal : Option Outcome) (arrives : Arrival) (made : List Deed) (need : Need) → (length made ≡ 0 → ⊥)
    → need ≡ need_after frames cpu lookup made
    → walked_move frames guests view.contents part cpu lookup refusal arrives made ≡ need_move frames guests view.contents part cpu lookup arrives need
unfolding walked_move
walk_begun frames guests view part cpu lookup refusal arrives [] need begun is = absurd (begun refl)
walk_begun frames guests view part cpu lookup refusal arrives (deed ∷ others) need begun is = ap (need_move frames guests view.contents part cpu lookup arrives) (sym is)

-- its read of a guest table
pub table_shows : (frames : ℕ) (guests : List GuestSpec) (view : View) (part : ActorPart) (cpu : Processor) (lookup : Lookup) (arrives : Arrival) (gpn index frame : ℕ) (size : PageSize) (place : Place) (shown : Shown)
    → place ≡ table_place (asid_of guests cpu.guest) cpu.vmpl gpn index frame size
    → shown ≡ table_shown (table_load (private_verdict (view.contents.pages frame).facts place Load) (word_of (view.contents.pages frame) place.index)) place.gpn place.index frame (λ value. fault_of (need_after frames cpu lookup (part.deeds ++ deeds.Table place.gpn place.index frame (Some value) ∷ [])))
    → need_move frames guests view.contents part cpu lookup arrives (needs.Table gpn index frame size) ≡ move_by shown view part.standing
unfolding need_move
table_shows frames guests view part cpu lookup arrives gpn index frame size place shown place_is shown_is =
    let at = table_place (asid_of guests cpu.guest) cpu.vmpl gpn index frame size in
    table_moves frames view part cpu lookup (private_verdict (view.contents.pages frame).facts at Load) gpn index frame
    ∙ ap (λ (s : Shown). move_by s view part.standing)
    (sym (shown_is ∙ ap (λ (p : Place). table_shown (table_load (private_verdict (view.contents.pages frame).facts p Load) (word_of (view.contents.pages frame) p.index)) p.gpn p.index frame (λ value. fault_of (need_after frames cpu lookup (part.deeds ++ deeds.Table p.gpn p.index frame (Some value) ∷ [])))) place_is))
