-- What holds at the end of each run of a sound scenario: that locks and shapes are in order; and where a declared guest is disciplined and no ciphertext meets the tag of another, that each of its pages has one holder at most, on which each private access is that passes.
use Rattle.std.proofs.Common.{◌≡◌, ℕ, List, [], ◌∷◌, refl, sym, ◌∙◌, subst}
use Rattle.snp_model.specs.declared.entry.Kind.TheVariants as kinds
use Rattle.snp_model.specs.declared.entry.RmpEntry.{RmpEntry}
use Rattle.snp_model.specs.declared.scenario.GuestSpec.{GuestSpec}
use Rattle.snp_model.specs.declared.scenario.Scenario.{Scenario}
use Rattle.snp_model.specs.GuestMemory.{memory_after}
use Rattle.snp_model.specs.Holders.{InFrame}
use Rattle.snp_model.specs.Live.{vault_of}
use Rattle.snp_model.specs.Opening.{asid_of, opening}
use Rattle.snp_model.specs.Past.{past_of}
use Rattle.snp_model.specs.Run.{state_from, state_after, IsDefined}
use Rattle.snp_model.specs.Sound.{IsSound}
use Rattle.snp_model.specs.State.{State}
use Rattle.snp_model.specs.Step.{after}
use Rattle.run_laws.specs.HeldLocks.{AreLocked}
use Rattle.run_laws.specs.Invariant.{IsUniqueFor, IsUnique}
use Rattle.run_laws.specs.Shapes.{AreFactsOf, AreShaped}
use Rattle.run_laws.specs.UniqueRuns.{HasAllLive, HasOnePlace, IsOneHolder, MeetsPremises, Passes, vault_after}
use Rattle.run_laws.proofs.CompleteLaws.{all_listed}
use Rattle.run_laws.proofs.InOrder.{IsInOrder}
use Rattle.run_laws.proofs.ListedLaws.{lives}
use Rattle.run_laws.proofs.LockedRuns.{IsMetadataFirm, are_locked}
use Rattle.run_laws.proofs.PassingLaws.{passed_held}
use Rattle.run_laws.proofs.RunLaws.{after_guests}
use Rattle.run_laws.proofs.SealedRuns.{Holding, disciplined_lacks, run_order, run_holding}
use Rattle.run_laws.proofs.SingleLaws.{lists_single}

-- a metadata page is assigned and immutable
metadata_plain : kinds.Metadata ≡ kinds.Plain → ⊥
metadata_plain e = cc

metadata_firm : (facts : RmpEntry) → AreFactsOf facts → IsMetadataFirm facts
metadata_firm facts are = record { firm = λ is. let used = are.used (λ plain. metadata_plain (sym is ∙ plain)) in (used.assigned, used.immutable) }

-- so the locks of a state in order have one holder each, and keep what they lock as it was
pub order_locked : (m : State) → IsInOrder m → AreLocked m
order_locked m order = are_locked m order.locks order.walking (λ frame. metadata_firm (m.contents.pages frame).facts (order.shapes.facts frame))

pub run_locked : (c : Scenario) (s : List ℕ) → IsSound c → IsDefined c s → AreLocked (state_after c s)
run_locked c s sound defined = order_locked (state_after c s) (run_order c s sound defined)

pub run_shaped : (c : Scenario) (s : List ℕ) → IsSound c → IsDefined c s → AreShaped (state_after c s)
run_shaped c s sound defined = (run_order c s sound defined).shapes

-- the declared guests stay
guests_from : (m : State) (s : List ℕ) → (state_from m s).guests ≡ m.guests
unfolding state_from
guests_from m [] = refl
guests_from m (a ∷ s) = guests_from (after m a) s ∙ after_guests m a

guests_after : (c : Scenario) (s : List ℕ) → (state_after c s).guests ≡ c.guests
unfolding opening
guests_after c s = guests_from (opening c) s

-- all seven parts
holding_after : (c : Scenario) (s : List ℕ) (guest : ℕ) → MeetsPremises c s guest → Holding guest (state_after c s) (past_of c s) (memory_after c s guest)
holding_after c s guest meets = run_holding c s guest meets.sound meets.defined meets.some meets.most (disciplined_lacks c s guest meets.disciplined) meets.no_chance

pub run_is_unique : (c : Scenario) (s : List ℕ) (guest : ℕ) → MeetsPremises c s guest → IsUnique guest (state_after c s) (past_of c s) (memory_after c s guest)
run_is_unique c s guest meets =
    let m = state_after c s in
    let holding = holding_after c s guest meets in
    record {
      single = lists_single (asid_of m.guests guest) (vault_of guest m.contents ((past_of c s).archive guest)) (memory_after c s guest) m.frames holding.ties.core holding.ties.seals;
      held = holding.ties.core.held;
      known_words = holding.ties.core.agree;
      seals = holding.ties.seals;
      locks = order_locked m holding.order;
      made = holding.made;
      shapes = holding.order.shapes;
    }

-- by the guest's ASID in the scenario
pub run_unique : (c : Scenario) (s : List ℕ) (guest : ℕ) → MeetsPremises c s guest
    → IsUniqueFor guest (state_after c s) (past_of c s) (memory_after c s guest) (asid_of c.guests guest) (vault_after c s guest)
run_unique c s guest meets =
    subst (λ (guests : List GuestSpec). IsUniqueFor guest (state_after c s) (past_of c s) (memory_after c s guest) (asid_of guests guest) (vault_after c s guest)) (guests_after c s)
    (run_is_unique c s guest meets)

-- the list of live entries has them all
pub run_listed : (c : Scenario) (s : List ℕ) (guest : ℕ) → MeetsPremises c s guest → HasAllLive (asid_of c.guests guest) (vault_after c s guest) (state_after c s).frames
run_listed c s guest meets =
    let m = state_after c s in
    let holding = holding_after c s guest meets in
    subst (λ (guests : List GuestSpec). HasAllLive (asid_of guests guest) (vault_after c s guest) m.frames) (guests_after c s)
    (record {
      lives = lives (asid_of m.guests guest) (vault_after c s guest) m.frames holding.ties.seals;
      listed = all_listed (asid_of m.guests guest) (vault_after c s guest) m.frames holding.ties.seals holding.order.shapes.words;
    })

-- two holders of one page are one
pub run_one_place : (c : Scenario) (s : List ℕ) (guest : ℕ) → MeetsPremises c s guest → HasOnePlace (asid_of c.guests guest) (vault_after c s guest)
run_one_place c s guest meets =
    subst (λ (guests : List GuestSpec). HasOnePlace (asid_of guests guest) (vault_after c s guest)) (guests_after c s) (holding_after c s guest meets).ties.core.unique

-- a private access that passes is on the one holder of its page
pub run_passes : (c : Scenario) (s : List ℕ) (guest actor gpn frame : ℕ) → MeetsPremises c s guest → Passes guest (state_after c s) actor gpn frame
    → IsOneHolder (asid_of c.guests guest) (vault_after c s guest) gpn (InFrame frame)
run_passes c s guest actor gpn frame meets passes =
    let m = state_after c s in
    let core = (holding_after c s guest meets).ties.core in
    let h = passed_held guest m actor gpn frame passes.0 passes.1 in
    subst (λ (guests : List GuestSpec). IsOneHolder (asid_of guests guest) (vault_after c s guest) gpn (InFrame frame)) (guests_after c s)
    (record {
      words = (m.contents.pages frame).words;
      holds = (h, refl);
      only = λ other kept is. core.unique gpn other (InFrame frame) kept (m.contents.pages frame).words is (h, refl);
    })
