-- Every run of a sound scenario keeps its states in order; and where a declared guest lacks what each event makes held, as one that is disciplined does, and no ciphertext meets the tag of another, what ties the guest's pages to their holders holds in each state, and its private accesses are one legal history.
use Rattle.std.proofs.Common.{ℕ, ◌<◌, ◌≤◌, List, [], ◌∷◌, length, sym, subst}
use Rattle.snp_model.specs.declared.scenario.GuestSpec.{GuestSpec}
use Rattle.snp_model.specs.declared.scenario.Scenario.{Scenario}
use Rattle.snp_model.specs.GuestMemory.{Memory, next_use, used, opening_memory, memory_from, memory_after, IsLegalFrom, IsLegal}
use Rattle.snp_model.specs.Opening.{opening}
use Rattle.snp_model.specs.Past.{Past, empty_past, past_after, past_from, past_of}
use Rattle.snp_model.specs.Premises.{IsDisciplinedFrom, IsDisciplined, NoChanceStep, NoChanceFrom, NoChanceTag}
use Rattle.snp_model.specs.Run.{state_from, state_after, IsDefinedFrom, IsDefined}
use Rattle.snp_model.specs.Sound.{IsSound}
use Rattle.snp_model.specs.State.{State, IsUnfinished}
use Rattle.snp_model.specs.Step.{after}
use Rattle.run_laws.specs.MadePages.{AreMade}
use Rattle.run_laws.proofs.DisciplineLaws.{next_lacks}
use Rattle.run_laws.proofs.InOrder.{IsInOrder}
use Rattle.run_laws.proofs.MadeSteps.{each_made}
use Rattle.run_laws.proofs.OpeningInvariant.{opening_ties}
use Rattle.run_laws.proofs.OpeningOrder.{opening_order}
use Rattle.run_laws.proofs.OpeningParts.{opening_made}
use Rattle.run_laws.proofs.RunLaws.{after_guests}
use Rattle.run_laws.proofs.SealedSteps.{TiesAt, each_order, next_done}
use Rattle.run_laws.proofs.ValidateUseLaws.{LacksAccepted}

-- a run from a state in order
order_from : (m : State) (s : List ℕ) → IsDefinedFrom m s → IsInOrder m → IsInOrder (state_from m s)
unfolding state_from IsDefinedFrom
order_from m [] defined order = order
order_from m (a ∷ s) defined order = order_from (after m a) s defined.1 (each_order m a defined.0 order)

pub run_order : (c : Scenario) (s : List ℕ) → IsSound c → IsDefined c s → IsInOrder (state_after c s)
run_order c s sound defined = order_from (opening c) s defined (opening_order c sound)

-- what a state keeps for a declared guest
pub record Holding (g : ℕ) (m : State) (past : Past) (memory : Memory) : Type 0 where
  pub most : g ≤ length m.guests
  pub order : IsInOrder m
  pub made : AreMade g m past
  pub ties : TiesAt g m past memory

-- what is asked of it: no event makes a page held that the guest holds already; so each PVALIDATE of the guest's that answers carry flag 0 names pages that it lacks, as each launch for it does, and where the flag is 1 nothing is asked
unfoldable pub IsLackingFrom : ℕ → State → Memory → List ℕ → Type 0
IsLackingFrom guest m memory [] = Unit {0}
IsLackingFrom guest m memory (actor ∷ actors) = LacksAccepted memory (next_use guest m actor) × IsLackingFrom guest (after m actor) (used (next_use guest m actor) memory) actors

abbrev pub IsLacking : Scenario → List ℕ → ℕ → Type 0
IsLacking scenario schedule guest = IsLackingFrom guest (opening scenario) (opening_memory scenario guest) schedule

-- a disciplined guest's run is such
disciplined_from : (g : ℕ) (m : State) (memory : Memory) (s : List ℕ) → IsDisciplinedFrom g m memory s → IsLackingFrom g m memory s
unfolding IsDisciplinedFrom IsLackingFrom
disciplined_from g m memory [] disciplined = tt
disciplined_from g m memory (a ∷ s) disciplined = (next_lacks g m a memory disciplined.0, disciplined_from g (after m a) (used (next_use g m a) memory) s disciplined.1)

pub disciplined_lacks : (c : Scenario) (s : List ℕ) (g : ℕ) → IsDisciplined c s g → IsLacking c s g
disciplined_lacks c s g disciplined = disciplined_from g (opening c) (opening_memory c g) s disciplined

-- one event keeps it
holding_step : (g : ℕ) (m : State) (past : Past) (memory : Memory) (a : ℕ) → 0 < g → IsUnfinished m a → LacksAccepted memory (next_use g m a) → NoChanceStep g m a past → Holding g m past memory
    → Holding g (after m a) (past_after m a past) (used (next_use g m a) memory)
holding_step g m past memory a some unfinished lacks chance holding = record {
  most = subst (λ (guests : List GuestSpec). g ≤ length guests) (sym (after_guests m a)) holding.most;
  order = each_order m a unfinished holding.order;
  made = each_made g m a past memory some holding.most unfinished holding.order chance holding.ties holding.made;
  ties = (next_done g m a past memory some holding.most unfinished holding.order holding.made lacks holding.ties).0;
}

-- and a schedule
holding_from : (g : ℕ) (m : State) (past : Past) (memory : Memory) (s : List ℕ) → 0 < g → IsDefinedFrom m s → IsLackingFrom g m memory s → NoChanceFrom g m past s → Holding g m past memory
    → Holding g (state_from m s) (past_from m past s) (memory_from g m memory s)
unfolding state_from past_from memory_from IsDefinedFrom IsLackingFrom NoChanceFrom
holding_from g m past memory [] some defined lacks chance holding = holding
holding_from g m past memory (a ∷ s) some defined lacks chance holding =
    holding_from g (after m a) (past_after m a past) (used (next_use g m a) memory) s some defined.1 lacks.1 chance.1
    (holding_step g m past memory a some defined.0 lacks.0 chance.0 holding)

legal_from : (g : ℕ) (m : State) (past : Past) (memory : Memory) (s : List ℕ) → 0 < g → IsDefinedFrom m s → IsLackingFrom g m memory s → NoChanceFrom g m past s → Holding g m past memory → IsLegalFrom g m memory s
unfolding IsLegalFrom IsDefinedFrom IsLackingFrom NoChanceFrom
legal_from g m past memory [] some defined lacks chance holding = tt
legal_from g m past memory (a ∷ s) some defined lacks chance holding = (
  (next_done g m a past memory some holding.most defined.0 holding.order holding.made lacks.0 holding.ties).1,
  legal_from g (after m a) (past_after m a past) (used (next_use g m a) memory) s some defined.1 lacks.1 chance.1
      (holding_step g m past memory a some defined.0 lacks.0 chance.0 holding),
)

-- from the opening
opening_most : (c : Scenario) (g : ℕ) → g ≤ length c.guests → g ≤ length (opening c).guests
unfolding opening
opening_most c g most = most

opening_holding : (c : Scenario) (g : ℕ) → IsSound c → 0 < g → g ≤ length c.guests → Holding g (opening c) empty_past (opening_memory c g)
opening_holding c g sound some most = record {
  most = opening_most c g most;
  order = opening_order c sound;
  made = opening_made g c empty_past;
  ties = opening_ties c g empty_past sound some most;
}

pub run_holding : (c : Scenario) (s : List ℕ) (g : ℕ) → IsSound c → IsDefined c s → 0 < g → g ≤ length c.guests → IsLacking c s g → NoChanceTag c s g
    → Holding g (state_after c s) (past_of c s) (memory_after c s g)
run_holding c s g sound defined some most lacks chance =
    holding_from g (opening c) empty_past (opening_memory c g) s some defined lacks chance (opening_holding c g sound some most)

pub lacking_guest_legal : (c : Scenario) (s : List ℕ) (g : ℕ) → IsSound c → IsDefined c s → 0 < g → g ≤ length c.guests → IsLacking c s g → NoChanceTag c s g → IsLegal c s g
lacking_guest_legal c s g sound defined some most lacks chance =
    legal_from g (opening c) empty_past (opening_memory c g) s some defined lacks chance (opening_holding c g sound some most)
