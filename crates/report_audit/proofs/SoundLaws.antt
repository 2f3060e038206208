-- Where an audit says yes, the events of the text are legal.
use Rattle.std.proofs.Common.{◌≡◌, ◌≢◌, ℕ, zero, suc, ◌+◌, ◌-◌, ◌<◌, Bool, true, false, cond, eqb, ◌&&◌, List, [], ◌∷◌, set, slice_get, Option, Some, None, Result, Ok, Err, refl, sym, ap, ◌∙◌, subst, inl, inr, arith}
use Rattle.std.proofs.lemmas.Bool.{cases_eq, eq-eqb, ne_eqb, true≢false}
use Rattle.std.proofs.lemmas.Option.{get_or_from_slice_get}
use Rattle.snp_model.specs.declared.event.Event.{Event}
use Rattle.snp_model.specs.declared.item.Item.{Item}
use Rattle.snp_model.specs.declared.item.Line.{Line}
use Rattle.snp_model.specs.declared.scenario.Actor.{Actor}
use Rattle.snp_model.specs.declared.scenario.GuestSpec.{GuestSpec}
use Rattle.snp_model.specs.declared.scenario.Role.{Role}
use Rattle.snp_model.specs.declared.scenario.Role.TheVariants.{Cpu, Host, Firmware}
use Rattle.snp_model.specs.declared.scenario.Scenario.{Scenario}
use Rattle.snp_model.specs.GuestMemory.{Memory, Use, Untouched, IsLegalUse, use_of, used}
use Rattle.snp_model.specs.Lines.{◌>>=◌, ◌>>◌}
use Rattle.snp_model.specs.ScenarioLines.{is_opened}
use Rattle.snp_model.specs.Step.{idle_line}
use Rattle.guest_memory.specs.Uses.{may_belong, use_by}
use Rattle.report_audit.specs.Audit.{Complaint, Ledger, actor_at, or_refused, demand, memory_by, memories_set, memories_by, heard_memories, hear_of, hear_event}
use Rattle.report_audit.specs.declared.fault.AuditReason.TheVariants as reasons
use Rattle.report_audit.specs.Ending.{runs_with}
use Rattle.report_audit.specs.Kinds.{is_in_range, is_kind}
use Rattle.report_audit.specs.Legality.{is_legal_use}
use Rattle.report_audit.specs.Told.{IsHeard, use_by_role, use_by_actor, said_use}
use Rattle.report_audit.proofs.MemoryLaws.{test_legal}

get_set_same : {X : Type 0} (xs : List X) (k : ℕ) (x y : X) → slice_get xs k ≡ Some y → slice_get (set xs k x) k ≡ Some x
get_set_same [] k x y at = cc
get_set_same (z ∷ xs) zero x y at = refl
get_set_same (z ∷ xs) (suc k) x y at = get_set_same xs k x y at

get_set_other : {X : Type 0} (xs : List X) (i j : ℕ) (x : X) → j ≢ i → slice_get (set xs i x) j ≡ slice_get xs j
get_set_other [] i j x apart = refl
get_set_other (z ∷ xs) zero zero x apart = absurd (apart refl)
get_set_other (z ∷ xs) zero (suc j) x apart = refl
get_set_other (z ∷ xs) (suc i) zero x apart = refl
get_set_other (z ∷ xs) (suc i) (suc j) x apart = get_set_other xs i j x (λ same. apart (ap suc same))

-- a memory that is left
record IsMade (memory : Memory) (act : Use) (new : Memory) : Type 0 where
  legal : IsLegalUse memory act
  changed : new ≡ used act memory

made_by : (memory new : Memory) (act : Use) (complaint : Complaint) (b : Bool) → is_legal_use memory act ≡ b → cond b (Ok (used act memory)) (Err complaint) ≡ Ok new → IsMade memory act new
made_by memory new act complaint true is e = record { legal = test_legal memory act is; changed = cc }
made_by memory new act complaint false is e = cc

made : (memory new : Memory) (act : Use) → memory_by memory act ≡ Ok new → IsMade memory act new
unfolding memory_by
made memory new act e = made_by memory new act _ (is_legal_use memory act) refl e

-- the memories after a use of that of a guest
record IsUsed (guest : ℕ) (act : Use) (memory : Memory) (new : List Memory) : Type 0 where
  legal : IsLegalUse memory act
  changed : slice_get new (guest - 1) ≡ Some (used act memory)

used_set : (old new : List Memory) (guest : ℕ) (act : Use) (memory : Memory) (r : Result Memory Complaint) → memory_by memory act ≡ r → slice_get old (guest - 1) ≡ Some memory
    → (r >>= (λ next. Ok (set old (guest - 1) next))) ≡ Ok new → IsUsed guest act memory new
used_set old new guest act memory (Ok next) is at e =
    let m = made memory next act is in
    let same : new ≡ set old (guest - 1) next = cc in
    record {
      legal = m.legal;
      changed = ap (λ (ms : List Memory). slice_get ms (guest - 1)) same ∙ get_set_same old (guest - 1) next memory at ∙ ap Some m.changed;
    }
used_set old new guest act memory (Err complaint) is at e = cc

used_own : (old new : List Memory) (guest : ℕ) (act : Use) (memory : Memory) → slice_get old (guest - 1) ≡ Some memory → memories_by old guest act ≡ Ok new → IsUsed guest act memory new
unfolding memories_by
used_own old new guest act memory at e =
    used_set old new guest act memory (memory_by memory act) refl at (subst (λ (o : Option Memory). memories_set old guest act o ≡ Ok new) at e)

-- those of other guests stay
stays_set : (old new : List Memory) (owner j : ℕ) (act : Use) (found : Option Memory) → j ≢ owner - 1 → memories_set old owner act found ≡ Ok new → slice_get new j ≡ slice_get old j
stays_set old new owner j act None apart e = let same : new ≡ old = cc in ap (λ (ms : List Memory). slice_get ms j) same
stays_set old new owner j act (Some memory) apart e = stays_made (memory_by memory act) e
  where
    stays_made : (r : Result Memory Complaint) → (r >>= (λ next. Ok (set old (owner - 1) next))) ≡ Ok new → slice_get new j ≡ slice_get old j
    stays_made (Ok next) e = let same : new ≡ set old (owner - 1) next = cc in ap (λ (ms : List Memory). slice_get ms j) same ∙ get_set_other old (owner - 1) j next apart
    stays_made (Err complaint) e = cc

stays : (old new : List Memory) (owner j : ℕ) (act : Use) → j ≢ owner - 1 → memories_by old owner act ≡ Ok new → slice_get new j ≡ slice_get old j
unfolding memories_by
stays old new owner j act apart e = stays_set old new owner j act _ apart e

some_guest : (guests : List GuestSpec) (guest : ℕ) → is_opened guests guest ≡ true → 0 < guest
unfolding is_opened
some_guest guests zero is = absurd (true≢false (sym is))
some_guest guests (suc guest) is = omega arith

-- nothing is done
same_used : (memory : Memory) → used Untouched memory ≡ memory
unfolding used
same_used memory = refl

idle : (old new : List Memory) (guest : ℕ) (memory : Memory) → slice_get new (guest - 1) ≡ slice_get old (guest - 1) → slice_get old (guest - 1) ≡ Some memory → IsUsed guest Untouched memory new
idle old new guest memory same at = record { legal = tt; changed = same ∙ at ∙ ap Some (sym (same_used memory)) }

-- an event of a processor of any guest
others_stay : (guests : List GuestSpec) (old new : List Memory) (guest owner : ℕ) (act : Use) (b : Bool) → (owner ≡ guest → ⊥) → is_opened guests owner ≡ b → is_opened guests guest ≡ true
    → cond b (memories_by old owner act) (Ok old) ≡ Ok new → slice_get new (guest - 1) ≡ slice_get old (guest - 1)
others_stay guests old new guest owner act true differs is opened e =
    let one = some_guest guests owner is in
    let other = some_guest guests guest opened in
    stays old new owner (guest - 1) act (λ same. differs (omega (arith, same, one, other))) e
others_stay guests old new guest owner act false differs is opened e = let same : new ≡ old = cc in ap (λ (ms : List Memory). slice_get ms (guest - 1)) same

cpu_heard : (guests : List GuestSpec) (old new : List Memory) (guest owner : ℕ) (act : Use) (memory : Memory) (b : Bool)
    → is_opened guests owner ≡ b → is_opened guests guest ≡ true → slice_get old (guest - 1) ≡ Some memory
    → cond b (memories_by old owner act) (Ok old) ≡ Ok new → IsUsed guest (cond (eqb owner guest) act Untouched) memory new
cpu_heard guests old new guest owner act memory b is opened at e =
    elim (cases_eq owner guest) [
      | inl same ↦
          let true_is : b ≡ true = sym is ∙ ap (is_opened guests) same ∙ opened in
          let own : memories_by old guest act ≡ Ok new = ap (λ (g : ℕ). memories_by old g act) (sym same) ∙ subst (λ (x : Bool). cond x (memories_by old owner act) (Ok old) ≡ Ok new) true_is e in
          subst (λ (x : Bool). IsUsed guest (cond x act Untouched) memory new) (sym (eq-eqb owner guest same)) (used_own old new guest act memory at own)
      | inr differs ↦
          subst (λ (x : Bool). IsUsed guest (cond x act Untouched) memory new) (sym (ne_eqb owner guest differs))
          (idle old new guest memory (others_stay guests old new guest owner act b differs is opened e) at)
    ]

may_left : (a b : Bool) → (a && b) ≡ true → a ≡ true
may_left true b is = refl
may_left false b is = is

belonging_use : (event : Event) (item : Item) → may_belong event.outcome event.deed item ≡ true → use_by event item ≡ use_of event.deed item event.outcome
unfolding use_by
belonging_use event item is = ap (λ (b : Bool). cond b (use_of event.deed item event.outcome) Untouched) is

role_heard : (guests : List GuestSpec) (old new : List Memory) (guest : ℕ) (role : Role) (event : Event) (item : Item) (memory : Memory) → is_kind guests role item event ≡ true
    → is_opened guests guest ≡ true → slice_get old (guest - 1) ≡ Some memory → heard_memories guests old role (use_by event item) ≡ Ok new
    → IsUsed guest (use_by_role guest role event item) memory new
unfolding heard_memories is_kind
role_heard guests old new guest (Cpu owner vmpl npt paging) event item memory kind opened at e =
    let act = belonging_use event item (may_left _ (is_in_range event.deed) kind) in
    cpu_heard guests old new guest owner (use_of event.deed item event.outcome) memory (is_opened guests owner) refl opened at
    (subst (λ (a : Use). cond (is_opened guests owner) (memories_by old owner a) (Ok old) ≡ Ok new) act e)
role_heard guests old new guest Host event item memory kind opened at e =
    let same : new ≡ old = cc in idle old new guest memory (ap (λ (ms : List Memory). slice_get ms (guest - 1)) same) at
role_heard guests old new guest Firmware event item memory kind opened at e =
    let same : new ≡ old = cc in idle old new guest memory (ap (λ (ms : List Memory). slice_get ms (guest - 1)) same) at

said : (c : Scenario) (guest number : ℕ) (actor : Actor) (event : Event) (line : Line) → slice_get c.actors (number - 1) ≡ Some actor → slice_get actor.script event.item ≡ Some line
    → use_by_role guest actor.role event line.item ≡ said_use c guest (number, event)
unfolding said_use
said c guest number actor event line at has =
    ap (λ (l : Line). use_by_role guest actor.role event l.item) (sym (get_or_from_slice_get actor.script event.item line idle_line has))
    ∙ ap (use_by_actor guest event) (sym at)

pairs : (guest : ℕ) (act other : Use) (memory : Memory) (new : List Memory) → act ≡ other → IsUsed guest act memory new → IsLegalUse memory other × (slice_get new (guest - 1) ≡ Some (used other memory))
pairs guest act other memory new same is =
    subst (λ (a : Use). IsLegalUse memory a × (slice_get new (guest - 1) ≡ Some (used a memory))) same (is.legal, is.changed)

memories_heard : (c : Scenario) (ledger next : Ledger) (number : ℕ) (actor : Actor) (event : Event) (line : Line) (r : Result (List Memory) Complaint)
    → slice_get c.actors (number - 1) ≡ Some actor → slice_get actor.script event.item ≡ Some line → is_kind c.guests actor.role line.item event ≡ true
    → heard_memories c.guests ledger.memories actor.role (use_by event line.item) ≡ r
    → (r >>= (λ memories. Ok (record { count = ledger.count + 1; runs = runs_with ledger.runs number; memories = memories }))) ≡ Ok next
    → IsHeard c ledger next number event
memories_heard c ledger next number actor event line (Ok memories) at has kind is e =
    let same : next ≡ record { count = ledger.count + 1; runs = runs_with ledger.runs number; memories = memories } = cc in
    record {
      counted = ap (λ (l : Ledger). l.count) same;
      run = ap (λ (l : Ledger). l.runs) same;
      uses = λ guest memory opened there.
          pairs guest _ _ memory next.memories (said c guest number actor event line at has)
          (subst (λ (ms : List Memory). IsUsed guest (use_by_role guest actor.role event line.item) memory ms) (ap (λ (l : Ledger). l.memories) (sym same))
          (role_heard c.guests ledger.memories memories guest actor.role event line.item memory kind opened there is));
    }
memories_heard c ledger next number actor event line (Err complaint) at has kind is e = cc

kind_heard : (c : Scenario) (ledger next : Ledger) (number : ℕ) (actor : Actor) (event : Event) (line : Line) (b : Bool)
    → slice_get c.actors (number - 1) ≡ Some actor → slice_get actor.script event.item ≡ Some line → is_kind c.guests actor.role line.item event ≡ b
    → (demand b reasons.Kind >> (heard_memories c.guests ledger.memories actor.role (use_by event line.item) >>= (λ memories. Ok (record { count = ledger.count + 1; runs = runs_with ledger.runs number; memories = memories })))) ≡ Ok next
    → IsHeard c ledger next number event
kind_heard c ledger next number actor event line true at has is e = memories_heard c ledger next number actor event line _ at has is refl e
kind_heard c ledger next number actor event line false at has is e = cc

of_heard : (c : Scenario) (ledger next : Ledger) (number : ℕ) (actor : Actor) (event : Event) (line : Line)
    → slice_get c.actors (number - 1) ≡ Some actor → slice_get actor.script event.item ≡ Some line → hear_of c ledger number actor event line ≡ Ok next → IsHeard c ledger next number event
unfolding hear_of
of_heard c ledger next number actor event line at has e = kind_heard c ledger next number actor event line _ at has refl e

line_heard : (c : Scenario) (ledger next : Ledger) (number : ℕ) (actor : Actor) (event : Event) (found : Option Line)
    → slice_get c.actors (number - 1) ≡ Some actor → slice_get actor.script event.item ≡ found → (or_refused found reasons.Item >>= (λ line. hear_of c ledger number actor event line)) ≡ Ok next
    → IsHeard c ledger next number event
line_heard c ledger next number actor event None at has e = cc
line_heard c ledger next number actor event (Some line) at has e = of_heard c ledger next number actor event line at has e

actor_there : (actors : List Actor) (number : ℕ) (actor : Actor) → actor_at actors number ≡ Some actor → slice_get actors (number - 1) ≡ Some actor
actor_there actors zero actor is = cc
actor_there actors (suc number) actor is =
    subst (λ (b : Bool). cond b None (slice_get actors (suc number - 1)) ≡ Some actor) (ne_eqb (suc number) 0 (λ e. omega (arith, e))) is

actor_heard : (c : Scenario) (ledger next : Ledger) (number : ℕ) (event : Event) (found : Option Actor) → actor_at c.actors number ≡ found
    → (or_refused found reasons.Actor >>= (λ actor. or_refused (slice_get actor.script event.item) reasons.Item >>= (λ line. hear_of c ledger number actor event line))) ≡ Ok next
    → IsHeard c ledger next number event
actor_heard c ledger next number event None is e = cc
actor_heard c ledger next number event (Some actor) is e = line_heard c ledger next number actor event _ (actor_there c.actors number actor is) refl e

pub event_heard : (c : Scenario) (ledger next : Ledger) (number : ℕ) (event : Event) → hear_event c ledger number event ≡ Ok next → IsHeard c ledger next number event
unfolding hear_event
event_heard c ledger next number event e = actor_heard c ledger next number event _ refl e
