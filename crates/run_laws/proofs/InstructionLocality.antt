-- The events of RMPUPDATE, PSMASH, PVALIDATE and RMPADJUST depend on nothing but what they touch, and change nothing else.
use Rattle.std.proofs.Common.{◌≡◌, ℕ, ◌+◌, ◌%◌, ◌<◌, Bool, true, false, not, ◌&&◌, cond, eqb, List, [], ◌∷◌, Option, Some, refl, ap, ◌∙◌, subst, arith}
use Rattle.std.proofs.lemmas.Bool.Decides.{nat_tests}
use Rattle.std.specs.Option.{option_map}
use Rattle.snp_model.specs.declared.entry.PageSize.{PageSize}
use Rattle.snp_model.specs.declared.entry.PageSize.TheVariants.{Small, Large}
use Rattle.snp_model.specs.declared.entry.RmpEntry.{RmpEntry}
use Rattle.snp_model.specs.declared.event.Deed.{Deed}
use Rattle.snp_model.specs.declared.event.Deed.TheVariants as deeds
use Rattle.snp_model.specs.declared.event.Outcome.{Outcome}
use Rattle.snp_model.specs.declared.event.Outcome.TheVariants as outcomes
use Rattle.snp_model.specs.declared.event.Refusal.{Refusal}
use Rattle.snp_model.specs.declared.event.Refusal.TheVariants.{Status}
use Rattle.snp_model.specs.declared.item.Update.{Update}
use Rattle.snp_model.specs.declared.scenario.GuestSpec.{GuestSpec}
use Rattle.snp_model.specs.Facts.{frames_in, some_frame}
use Rattle.snp_model.specs.InstructionStep.{refused_outcome, facts_of, instruction_lock, update_move, smash_move, page_place, validate_begin, adjust_begin, page_lookup, validate_move, adjust_move, cpu_validate, cpu_adjust}
use Rattle.snp_model.specs.Locks.{over, over_lock, page_lock}
use Rattle.snp_model.specs.Moves.{memory_move, lock_move}
use Rattle.snp_model.specs.Opening.{asid_of}
use Rattle.snp_model.specs.RmpUpdate.{is_bad_update, overlaps, update_range_refusal, update_refusal, update_lock, updated_page, pages_updated, is_bad_smash, smash_page_refusal, smash_refusal, smashed_page, pages_smashed}
use Rattle.snp_model.specs.State.{Page, Pages, PageLock, Contents, ActorPart, View}
use Rattle.snp_model.specs.Touches.{Touched, nothing_touched, frame_touched, walk_touches, with_locks, instruction_touches, touches_frame, AgreeOn, SeeAlike}
use Rattle.snp_model.specs.Validation.{validate_refusal, carry, validated_page, pages_validated, adjust_refusal, adjusted_page, pages_adjusted}
use Rattle.snp_model.specs.Verdicts.{is_large}
use Rattle.snp_model.specs.Walking.{Processor}
use Rattle.run_laws.proofs.MoveLocality.{MovesAlike, MovesAlone, quiet_alike, own_frame, Includes, ArrivesAlike, ArrivesAlone, lock_alike, memory_alike, lock_alone, memory_alone, walked_alike, walked_alone}
use Rattle.run_laws.proofs.RangeLaws.{over_same, over_beside, range_first, some_frame_same, range_holder_same, covered_touched, also_touched, beside_covered}

-- what is looked at of a frame that is touched is the same
facts_same : (touched : Touched) (one other : Contents) (frame : ℕ) → AgreeOn touched one other → touches_frame touched frame ≡ true → facts_of one frame ≡ facts_of other frame
facts_same touched one other frame same is_touched = ap (λ (page : Page). page.facts) (same.pages frame is_touched)

-- a lock whose frame and refusal are the same
instruction_lock_alike : (touched : Touched) (one other : View) (part : ActorPart) (lock lock' : PageLock) (refusal refusal' : Option Refusal)
    → lock ≡ lock' → refusal ≡ refusal' → AgreeOn touched one.contents other.contents
    → MovesAlike touched (instruction_lock one part lock refusal) (instruction_lock other part lock' refusal')
instruction_lock_alike touched one other part lock lock' refusal refusal' lock_is refusal_is same =
    subst (λ (l : PageLock). MovesAlike touched (instruction_lock one part lock refusal) (instruction_lock other part l refusal')) lock_is
    (subst (λ (r : Option Refusal). MovesAlike touched (instruction_lock one part lock refusal) (instruction_lock other part lock r)) refusal_is
    (lock_alike touched one.contents other.contents part lock (option_map refused_outcome refusal) same))

-- a commit with the same deed and outcome
commit_alike : (touched : Touched) (one other : Contents) (part : ActorPart) (deed deed' : Deed) (outcome outcome' : Outcome) (pages pages' : Pages)
    → deed ≡ deed' → outcome ≡ outcome' → ((f : ℕ) → touches_frame touched f ≡ true → pages f ≡ pages' f) → AgreeOn touched one other
    → MovesAlike touched (memory_move one part deed (Some outcome) pages) (memory_move other part deed' (Some outcome') pages')
commit_alike touched one other part deed deed' outcome outcome' pages pages' deed_is outcome_is alike same =
    subst (λ (d : Deed). MovesAlike touched (memory_move one part deed (Some outcome) pages) (memory_move other part d (Some outcome') pages')) deed_is
    (subst (λ (o : Outcome). MovesAlike touched (memory_move one part deed (Some outcome) pages) (memory_move other part deed (Some o) pages')) outcome_is
    (memory_alike touched one other part deed (Some outcome) pages pages' alike same))

-- RMPUPDATE

-- the sizes of a range of 4 KB or of 2 MB go together alike
overlaps_same : (size : PageSize) (facts facts' : ℕ → RmpEntry) → ((place : ℕ) → place < frames_in size → facts place ≡ facts' place) → overlaps size facts ≡ overlaps size facts'
unfolding overlaps
overlaps_same Small facts facts' same = ap (λ (entry : RmpEntry). is_large entry.size) (same 0 (omega arith))
overlaps_same Large facts facts' same =
    let first = ap (λ (entry : RmpEntry). not (is_large entry.size)) (same 0 (omega arith)) in
    let others = some_frame_same (λ place. (facts place).assigned) (λ place. (facts' place).assigned) 0 512 (λ place inside. ap (λ (entry : RmpEntry). entry.assigned) (same place (grind (arith, nat_tests)))) in
    ap (λ (b : Bool). b && some_frame (λ place. (facts place).assigned) 0 512) first ∙ ap (λ (b : Bool). not (is_large (facts' 0).size) && b) others

pub update_range_same : (update : Update) (facts facts' : ℕ → RmpEntry) (holder holder' : ℕ → Option ℕ)
    → ((place : ℕ) → place < frames_in update.size → facts place ≡ facts' place) → ((place : ℕ) → place < frames_in update.size → holder place ≡ holder' place)
    → update_range_refusal update facts holder ≡ update_range_refusal update facts' holder'
unfolding update_range_refusal
update_range_same update facts facts' holder holder' facts_are holders_are =
    let count = frames_in update.size in
    let held = range_holder_same holder holder' 0 count (λ place inside. holders_are place (grind (arith, nat_tests))) in
    let overlap = overlaps_same update.size facts facts' facts_are in
    let immutable = some_frame_same (λ place. (facts place).immutable) (λ place. (facts' place).immutable) 0 count (λ place inside. ap (λ (entry : RmpEntry). entry.immutable) (facts_are place (grind (arith, nat_tests)))) in
    rw (held, overlap, immutable) refl

-- a frame of a range that begins at a multiple of its size is in the region of the first one
place_touched : (size : PageSize) (frame place : ℕ) → (is_large size && not (eqb (frame % 512) 0)) ≡ false → place < frames_in size → touches_frame (frame_touched frame) (frame + place) ≡ true
place_touched Small frame place aligned inside = grind (arith, nat_tests)
place_touched Large frame place aligned inside = grind (arith, nat_tests)

update_aligned : (frames : ℕ) (update : Update) → is_bad_update frames update ≡ false → (is_large update.size && not (eqb (update.frame % 512) 0)) ≡ false
unfolding is_bad_update
update_aligned frames update fine = grind (arith, nat_tests)

-- the same where a test that fails chooses
chosen_same : {A : Type 0} (test : Bool) (x y y' : A) → (test ≡ false → y ≡ y') → cond test x y ≡ cond test x y'
chosen_same true x y y' same = refl
chosen_same false x y y' same = same refl

update_refusal_same : (frames : ℕ) (one other : View) (update : Update)
    → SeeAlike (instruction_touches (is_bad_update frames update) update.frame []) one other
    → update_refusal frames update (λ place. facts_of one.contents (update.frame + place)) (λ place. one.holder (update.frame + place))
    ≡ update_refusal frames update (λ place. facts_of other.contents (update.frame + place)) (λ place. other.holder (update.frame + place))
unfolding update_refusal instruction_touches
update_refusal_same frames one other update same =
    chosen_same (is_bad_update frames update) _ _ _ (λ fine.
    let see : SeeAlike (frame_touched update.frame) one other = subst (λ (bad : Bool). SeeAlike (cond bad nothing_touched (frame_touched update.frame)) one other) fine same in
    let inside = λ (place : ℕ) (here : place < frames_in update.size). place_touched update.size update.frame place (update_aligned frames update fine) here in
    update_range_same update _ _ _ _
    (λ place here. facts_same (frame_touched update.frame) one.contents other.contents (update.frame + place) see.contents (inside place here))
    (λ place here. see.holders (update.frame + place) (inside place here)))

updated_same : (touched : Touched) (lock : PageLock) (locks : List PageLock) (update : Update) (one other : Contents) (f : ℕ)
    → AgreeOn (with_locks (lock ∷ locks) touched) one other → touches_frame (with_locks (lock ∷ locks) touched) f ≡ true
    → pages_updated update lock one.pages f ≡ pages_updated update lock other.pages f
unfolding pages_updated
updated_same touched lock locks update one other f same is_touched =
    over_same lock.base lock.count _ _ one.pages other.pages f
    (λ inside place page.
    let first = facts_same (with_locks (lock ∷ locks) touched) one other lock.base same (covered_touched lock locks touched lock.base (range_first lock.base lock.count f inside)) in
    ap (λ (facts : RmpEntry). updated_page update facts place page) first)
    (same.pages f is_touched)

pub update_alike : (frames : ℕ) (one other : View) (part : ActorPart) (update : Update) (locks : List PageLock)
    → SeeAlike (instruction_touches (is_bad_update frames update) update.frame locks) one other
    → MovesAlike (instruction_touches (is_bad_update frames update) update.frame locks) (update_move frames one part update locks) (update_move frames other part update locks)
unfolding update_move instruction_touches
update_alike frames one other part update [] same =
    instruction_lock_alike (instruction_touches (is_bad_update frames update) update.frame []) one other part (update_lock update) (update_lock update) _ _ refl (update_refusal_same frames one other update same) same.contents
update_alike frames one other part update (lock ∷ locks) same =
    commit_alike (with_locks (lock ∷ locks) (frame_touched update.frame)) one.contents other.contents part _ _ _ _ _ _ refl refl
    (λ f is_touched. updated_same (frame_touched update.frame) lock locks update one.contents other.contents f same.contents is_touched) same.contents

-- PSMASH

-- its lock is asked for: what is refused first looks at no entry
smash_lock_alike : (bad : Bool) (one other : View) (part : ActorPart) (frame : ℕ) → SeeAlike (cond bad nothing_touched (frame_touched frame)) one other
    → MovesAlike (cond bad nothing_touched (frame_touched frame))
    (instruction_lock one part (page_lock (facts_of one.contents frame).size frame) (cond bad (Some (Status 1)) (smash_page_refusal (facts_of one.contents frame) (one.holder frame))))
    (instruction_lock other part (page_lock (facts_of other.contents frame).size frame) (cond bad (Some (Status 1)) (smash_page_refusal (facts_of other.contents frame) (other.holder frame))))
unfolding lock_move
smash_lock_alike true one other part frame same = quiet_alike nothing_touched one.contents other.contents part _ _ same.contents
smash_lock_alike false one other part frame same =
    let facts = facts_same (frame_touched frame) one.contents other.contents frame same.contents (own_frame frame) in
    let holder = same.holders frame (own_frame frame) in
    instruction_lock_alike (frame_touched frame) one other part _ _ _ _ (ap (λ (entry : RmpEntry). page_lock entry.size frame) facts)
    (ap (λ (entry : RmpEntry). smash_page_refusal entry (one.holder frame)) facts ∙ ap (smash_page_refusal (facts_of other.contents frame)) holder) same.contents

-- a change of each covered frame's page
changed_same : (touched : Touched) (lock : PageLock) (change : Page → Page) (one other : Contents) (f : ℕ)
    → AgreeOn touched one other → touches_frame touched f ≡ true → over_lock lock change one.pages f ≡ over_lock lock change other.pages f
changed_same touched lock change one other f same is_touched = over_same lock.base lock.count (λ place. change) (λ place. change) one.pages other.pages f (λ inside place page. refl) (same.pages f is_touched)

pub smash_alike : (frames : ℕ) (one other : View) (part : ActorPart) (frame : ℕ) (locks : List PageLock)
    → SeeAlike (instruction_touches (is_bad_smash frames frame) frame locks) one other
    → MovesAlike (instruction_touches (is_bad_smash frames frame) frame locks) (smash_move frames one part frame locks) (smash_move frames other part frame locks)
unfolding smash_move instruction_touches pages_smashed smash_refusal
smash_alike frames one other part frame [] same = smash_lock_alike (is_bad_smash frames frame) one other part frame same
smash_alike frames one other part frame (lock ∷ locks) same =
    let touched = with_locks (lock ∷ locks) (frame_touched frame) in
    let here : touches_frame touched frame ≡ true = also_touched (lock ∷ locks) (frame_touched frame) frame (own_frame frame) in
    let facts = facts_same touched one.contents other.contents frame same.contents here in
    commit_alike touched one.contents other.contents part _ _ _ _ _ _ (ap (λ (entry : RmpEntry). deeds.Commit frame entry.gpn Large) facts) refl
    (λ f is_touched. changed_same touched lock smashed_page one.contents other.contents f same.contents is_touched) same.contents

-- PVALIDATE

validate_arrives : (touched : Touched) (guests : List GuestSpec) (one other : View) (part : ActorPart) (cpu : Processor) (size : PageSize) (validate : Bool) (locks : List PageLock)
    → SeeAlike touched one other → ArrivesAlike touched (validate_move guests one part cpu size validate locks) (validate_move guests other part cpu size validate locks)
unfolding validate_move pages_validated
validate_arrives touched guests one other part cpu size validate [] same gpn private frame leaf here =
    let facts = facts_same touched one.contents other.contents frame same.contents here in
    let holder = same.holders frame here in
    let place = page_place (asid_of guests cpu.guest) cpu.vmpl gpn frame leaf in
    instruction_lock_alike touched one other part _ _ _ _ (ap (λ (entry : RmpEntry). page_lock entry.size frame) facts)
    (ap (λ (entry : RmpEntry). validate_refusal place size entry (one.holder frame)) facts ∙ ap (validate_refusal place size (facts_of other.contents frame)) holder) same.contents
validate_arrives touched guests one other part cpu size validate (lock ∷ locks) same gpn private frame leaf here =
    let facts = facts_same touched one.contents other.contents frame same.contents here in
    commit_alike touched one.contents other.contents part _ _ _ _ _ _ refl (ap (λ (entry : RmpEntry). outcomes.Carry (carry validate entry)) facts)
    (λ f is_touched.
    changed_same touched lock (validated_page validate (facts_of one.contents frame)) one.contents other.contents f same.contents is_touched
    ∙ ap (λ (entry : RmpEntry). pages_validated validate entry lock other.contents.pages f) facts) same.contents

-- RMPADJUST

adjust_arrives : (touched : Touched) (guests : List GuestSpec) (one other : View) (part : ActorPart) (cpu : Processor) (size : PageSize) (target mask : ℕ) (vmsa : Bool) (locks : List PageLock)
    → SeeAlike touched one other → ArrivesAlike touched (adjust_move guests one part cpu size target mask vmsa locks) (adjust_move guests other part cpu size target mask vmsa locks)
unfolding adjust_move pages_adjusted
adjust_arrives touched guests one other part cpu size target mask vmsa [] same gpn private frame leaf here =
    let facts = facts_same touched one.contents other.contents frame same.contents here in
    let holder = same.holders frame here in
    let place = page_place (asid_of guests cpu.guest) cpu.vmpl gpn frame leaf in
    instruction_lock_alike touched one other part _ _ _ _ (ap (λ (entry : RmpEntry). page_lock entry.size frame) facts)
    (ap (λ (entry : RmpEntry). adjust_refusal place size mask vmsa entry (one.holder frame)) facts ∙ ap (adjust_refusal place size mask vmsa (facts_of other.contents frame)) holder) same.contents
adjust_arrives touched guests one other part cpu size target mask vmsa (lock ∷ locks) same gpn private frame leaf here =
    commit_alike touched one.contents other.contents part _ _ _ _ _ _ refl refl
    (λ f is_touched. changed_same touched lock (adjusted_page cpu.vmpl target mask vmsa) one.contents other.contents f same.contents is_touched) same.contents

-- the walks touch what they would without locks to release
includes_walk : (locks : List PageLock) (touched : Touched) → Includes (with_locks locks touched) touched
includes_walk locks touched = record { frames = λ frame is_touched. also_touched locks touched frame is_touched; context = λ guest is. is }

pub validate_alike : (frames : ℕ) (guests : List GuestSpec) (one other : View) (part : ActorPart) (cpu : Processor) (address : ℕ) (size : PageSize) (validate : Bool)
    → SeeAlike (with_locks part.standing.locks (walk_touches frames cpu (page_lookup address) part.deeds)) one other
    → MovesAlike (with_locks part.standing.locks (walk_touches frames cpu (page_lookup address) part.deeds)) (cpu_validate frames guests one part cpu address size validate) (cpu_validate frames guests other part cpu address size validate)
validate_alike frames guests one other part cpu address size validate same =
    let locks = part.standing.locks in
    let walk = walk_touches frames cpu (page_lookup address) part.deeds in
    walked_alike (with_locks locks walk) frames guests one.contents other.contents part cpu (page_lookup address) (validate_begin cpu address size) _ _ part.deeds (includes_walk locks walk)
    (validate_arrives (with_locks locks walk) guests one other part cpu size validate locks same) same.contents

pub adjust_alike : (frames : ℕ) (guests : List GuestSpec) (one other : View) (part : ActorPart) (cpu : Processor) (address : ℕ) (size : PageSize) (target mask : ℕ) (vmsa : Bool)
    → SeeAlike (with_locks part.standing.locks (walk_touches frames cpu (page_lookup address) part.deeds)) one other
    → MovesAlike (with_locks part.standing.locks (walk_touches frames cpu (page_lookup address) part.deeds)) (cpu_adjust frames guests one part cpu address size target mask vmsa) (cpu_adjust frames guests other part cpu address size target mask vmsa)
adjust_alike frames guests one other part cpu address size target mask vmsa same =
    let locks = part.standing.locks in
    let walk = walk_touches frames cpu (page_lookup address) part.deeds in
    walked_alike (with_locks locks walk) frames guests one.contents other.contents part cpu (page_lookup address) (adjust_begin cpu address size target mask) _ _ part.deeds (includes_walk locks walk)
    (adjust_arrives (with_locks locks walk) guests one other part cpu size target mask vmsa locks same) same.contents

-- a commit changes nothing beside what its locks cover
covered_alone : (locks : List PageLock) (lock : PageLock) (touched : Touched) (old : Contents) (part : ActorPart) (deed : Deed) (outcome : Option Outcome) (change : ℕ → Page → Page)
    → MovesAlone (with_locks (lock ∷ locks) touched) old (memory_move old part deed outcome (over lock.base lock.count change old.pages))
covered_alone locks lock touched old part deed outcome change =
    memory_alone (with_locks (lock ∷ locks) touched) old part deed outcome _ (λ f apart. over_beside lock.base lock.count change old.pages f (beside_covered lock locks touched f apart))

pub update_alone : (frames : ℕ) (view : View) (part : ActorPart) (update : Update) (locks : List PageLock)
    → MovesAlone (instruction_touches (is_bad_update frames update) update.frame locks) view.contents (update_move frames view part update locks)
unfolding update_move instruction_touches pages_updated
update_alone frames view part update [] = lock_alone (instruction_touches (is_bad_update frames update) update.frame []) view.contents part (update_lock update) _
update_alone frames view part update (lock ∷ locks) = covered_alone locks lock (frame_touched update.frame) view.contents part _ _ (updated_page update (view.contents.pages lock.base).facts)

pub smash_alone : (frames : ℕ) (view : View) (part : ActorPart) (frame : ℕ) (locks : List PageLock)
    → MovesAlone (instruction_touches (is_bad_smash frames frame) frame locks) view.contents (smash_move frames view part frame locks)
unfolding smash_move instruction_touches pages_smashed
smash_alone frames view part frame [] = lock_alone (instruction_touches (is_bad_smash frames frame) frame []) view.contents part _ _
smash_alone frames view part frame (lock ∷ locks) = covered_alone locks lock (frame_touched frame) view.contents part _ _ (λ place. smashed_page)

validate_arrives_alone : (walk : Touched) (guests : List GuestSpec) (view : View) (part : ActorPart) (cpu : Processor) (size : PageSize) (validate : Bool) (locks : List PageLock)
    → ArrivesAlone (with_locks locks walk) view.contents (validate_move guests view part cpu size validate locks)
unfolding validate_move pages_validated
validate_arrives_alone walk guests view part cpu size validate [] gpn private frame leaf here = lock_alone (with_locks [] walk) view.contents part _ _
validate_arrives_alone walk guests view part cpu size validate (lock ∷ locks) gpn private frame leaf here = covered_alone locks lock walk view.contents part _ _ (λ place. validated_page validate (facts_of view.contents frame))

adjust_arrives_alone : (walk : Touched) (guests : List GuestSpec) (view : View) (part : ActorPart) (cpu : Processor) (size : PageSize) (target mask : ℕ) (vmsa : Bool) (locks : List PageLock)
    → ArrivesAlone (with_locks locks walk) view.contents (adjust_move guests view part cpu size target mask vmsa locks)
unfolding adjust_move pages_adjusted
adjust_arrives_alone walk guests view part cpu size target mask vmsa [] gpn private frame leaf here = lock_alone (with_locks [] walk) view.contents part _ _
adjust_arrives_alone walk guests view part cpu size target mask vmsa (lock ∷ locks) gpn private frame leaf here = covered_alone locks lock walk view.contents part _ _ (λ place. adjusted_page cpu.vmpl target mask vmsa)

pub validate_alone : (frames : ℕ) (guests : List GuestSpec) (view : View) (part : ActorPart) (cpu : Processor) (address : ℕ) (size : PageSize) (validate : Bool)
    → MovesAlone (with_locks part.standing.locks (walk_touches frames cpu (page_lookup address) part.deeds)) view.contents (cpu_validate frames guests view part cpu address size validate)
validate_alone frames guests view part cpu address size validate =
    let locks = part.standing.locks in
    let walk = walk_touches frames cpu (page_lookup address) part.deeds in
    walked_alone (with_locks locks walk) frames guests view.contents part cpu (page_lookup address) (validate_begin cpu address size) _ part.deeds (includes_walk locks walk)
    (validate_arrives_alone walk guests view part cpu size validate locks)

pub adjust_alone : (frames : ℕ) (guests : List GuestSpec) (view : View) (part : ActorPart) (cpu : Processor) (address : ℕ) (size : PageSize) (target mask : ℕ) (vmsa : Bool)
    → MovesAlone (with_locks part.standing.locks (walk_touches frames cpu (page_lookup address) part.deeds)) view.contents (cpu_adjust frames guests view part cpu address size target mask vmsa)
adjust_alone frames guests view part cpu address size target mask vmsa =
    let locks = part.standing.locks in
    let walk = walk_touches frames cpu (page_lookup address) part.deeds in
    walked_alone (with_locks locks walk) frames guests view.contents part cpu (page_lookup address) (adjust_begin cpu address size target mask) _ part.deeds (includes_walk locks walk)
    (adjust_arrives_alone walk guests view part cpu size target mask vmsa locks)
