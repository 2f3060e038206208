-- A private access that passes its check is on a frame that holds its page.
use Rattle.std.proofs.Common.{◌≡◌, ℕ, Bool, true, false, not, ◌&&◌, ◌||◌, eqb, slice_index, List, [], ◌∷◌, Option, Some, None, refl, sym, subst}
use Rattle.std.proofs.lemmas.Bool.{cond_both}
use Rattle.snp_model.specs.declared.access.Place.{Place}
use Rattle.snp_model.specs.declared.access.Verdict.{Verdict}
use Rattle.snp_model.specs.declared.access.Verdict.TheVariants.{Pass, Hidden, Fault}
use Rattle.snp_model.specs.declared.entry.PageSize.{PageSize}
use Rattle.snp_model.specs.declared.entry.RmpEntry.{RmpEntry}
use Rattle.snp_model.specs.declared.event.Deed.{Deed}
use Rattle.snp_model.specs.declared.event.Deed.TheVariants as deeds
use Rattle.snp_model.specs.declared.event.Outcome.{Outcome}
use Rattle.snp_model.specs.declared.event.Outcome.TheVariants as outcomes
use Rattle.snp_model.specs.declared.item.Item.{Item}
use Rattle.snp_model.specs.declared.item.Item.TheVariants as items
use Rattle.snp_model.specs.declared.item.Op.{Op}
use Rattle.snp_model.specs.declared.item.Op.TheVariants.{Load}
use Rattle.snp_model.specs.declared.scenario.GuestSpec.{GuestSpec}
use Rattle.snp_model.specs.declared.scenario.Role.{Role}
use Rattle.snp_model.specs.declared.scenario.Role.TheVariants.{Cpu, Host, Firmware}
use Rattle.snp_model.specs.declared.walk.Lookup.{Lookup}
use Rattle.snp_model.specs.declared.walk.Need.{Need}
use Rattle.snp_model.specs.declared.walk.Need.TheVariants as needs
use Rattle.snp_model.specs.GuestWalk.{is_canonical}
use Rattle.snp_model.specs.Holders.{IsHeldAs}
use Rattle.snp_model.specs.InstructionStep.{page_lookup, validate_move, adjust_move}
use Rattle.snp_model.specs.Locks.{view_of}
use Rattle.snp_model.specs.Moves.{Move, Arrival, is_running, lock_move, begin_move, table_move, table_place, need_move, walked_move}
use Rattle.snp_model.specs.Opening.{asid_of}
use Rattle.snp_model.specs.State.{PageLock, ActorPart, Context, Contents, State, View, part_of}
use Rattle.snp_model.specs.Step.{access_move, data_move, data_place, item_move, line_at, event_of}
use Rattle.snp_model.specs.Verdicts.{private_verdict, private_refusal, is_large, lacks}
use Rattle.snp_model.specs.Walking.{Processor, lookup_of}
use Rattle.run_laws.specs.UniqueRuns.{IsPassed, IsPassedAccess, IsProcessorOf}
use Rattle.run_laws.proofs.UseLaws.{pass_holds}

-- what refuses an access gives no outcome of one that passed
record IsRefusal (verdict : Verdict) : Type 0 where
  no : (outcome : Outcome) → verdict ≡ Fault outcome → IsPassed outcome → ⊥

fault_of : (a b : Outcome) → Fault a ≡ Fault b → a ≡ b
fault_of a b e = cc

refusal_unpassed : (place : Place) (op : Op) (by_permissions : Bool) → IsRefusal (private_refusal place op by_permissions)
refusal_unpassed place op by_permissions = record { no = λ outcome e passed. subst IsPassed (sym (fault_of _ outcome e)) passed }

unvalidated_unpassed : IsRefusal (Fault (outcomes.Vc 0x404))
unvalidated_unpassed = record { no = λ outcome e passed. subst IsPassed (sym (fault_of _ outcome e)) passed }

pass_unfaulted : IsRefusal Pass
pass_unfaulted = record { no = λ outcome e. absurd cc }

private_unpassed : (facts : RmpEntry) (place : Place) (op : Op) → IsRefusal (private_verdict facts place op)
unfolding private_verdict
private_unpassed facts place op =
    let refused = λ (by_permissions : Bool). refusal_unpassed place op by_permissions in
    cond_both (not facts.assigned || not (eqb facts.asid place.asid)) _ _ IsRefusal (λ _. refused false)
    (λ _. cond_both (not (eqb facts.gpn place.gpn)) _ _ IsRefusal (λ _. refused false)
    (λ _. cond_both facts.immutable _ _ IsRefusal (λ _. refused false)
    (λ _. cond_both (is_large place.leaf && not (is_large facts.size)) _ _ IsRefusal (λ _. refused false)
    (λ _. cond_both (not facts.validated) _ _ IsRefusal (λ _. unvalidated_unpassed)
    (λ _. cond_both (lacks (slice_index facts.perms place.vmpl) op) _ _ IsRefusal (λ _. refused true) (λ _. pass_unfaulted))))))

-- where a move of a processor with this ASID passes, the frame holds the page
record IsHeldWherePassed (asid : ℕ) (old : Contents) (move : Move) : Type 0 where
  held : (gpn frame : ℕ) → IsPassedAccess move.deed move.outcome gpn frame → IsHeldAs (old.pages frame).facts asid gpn

held_at : (asid : ℕ) (old : Contents) (page place gpn frame : ℕ) → IsHeldAs (old.pages place).facts asid page → page ≡ gpn → place ≡ frame → IsHeldAs (old.pages frame).facts asid gpn
held_at asid old page place gpn frame h same_page same_place =
    subst (λ (f : ℕ). IsHeldAs (old.pages f).facts asid gpn) same_place (subst (IsHeldAs (old.pages place).facts asid) same_page h)

-- a data access
private_held : (asid : ℕ) (old : Contents) (part : ActorPart) (op : Op) (gpn frame index : ℕ) (place : Place) (verdict : Verdict) → place.asid ≡ asid → place.gpn ≡ gpn
    → private_verdict (old.pages frame).facts place op ≡ verdict → IsHeldWherePassed asid old (access_move old part (deeds.Access gpn index frame true) verdict op frame index)
unfolding access_move
private_held asid old part op gpn frame index place Pass asid_is gpn_is is =
    let h = pass_holds (old.pages frame).facts place op is in
    record {
      held = λ p f passed. held_at asid old gpn frame p f
          (subst (IsHeldAs (old.pages frame).facts asid) gpn_is (subst (λ (a : ℕ). IsHeldAs (old.pages frame).facts a place.gpn) asid_is h)) passed.0 passed.1;
    }
private_held asid old part op gpn frame index place Hidden asid_is gpn_is is = record { held = λ p f passed. absurd passed.2 }
private_held asid old part op gpn frame index place (Fault outcome) asid_is gpn_is is =
    record { held = λ p f passed. absurd ((private_unpassed (old.pages frame).facts place op).no outcome is passed.2) }

shared_held : (asid : ℕ) (old : Contents) (part : ActorPart) (op : Op) (gpn frame index : ℕ) (verdict : Verdict)
    → IsHeldWherePassed asid old (access_move old part (deeds.Access gpn index frame false) verdict op frame index)
unfolding access_move
shared_held asid old part op gpn frame index Pass = record { held = λ p f passed. absurd passed }
shared_held asid old part op gpn frame index Hidden = record { held = λ p f passed. absurd passed }
shared_held asid old part op gpn frame index (Fault outcome) = record { held = λ p f passed. absurd passed }

abbrev ArrivesHeld : ℕ → Contents → Arrival → Type 0
ArrivesHeld asid old arrives = (gpn : ℕ) (private : Bool) (frame : ℕ) (size : PageSize) → IsHeldWherePassed asid old (arrives gpn private frame size)

data_held : (guests : List GuestSpec) (old : Contents) (part : ActorPart) (cpu : Processor) (address : ℕ) (op : Op) → ArrivesHeld (asid_of guests cpu.guest) old (data_move guests old part cpu address op)
data_held guests old part cpu address op gpn true frame size =
    private_held (asid_of guests cpu.guest) old part op gpn frame _ (data_place (asid_of guests cpu.guest) cpu.vmpl address gpn true frame size) _ refl refl refl
data_held guests old part cpu address op gpn false frame size = shared_held (asid_of guests cpu.guest) old part op gpn frame _ _

-- a word of a guest table
table_held : (frames asid : ℕ) (old : Contents) (part : ActorPart) (cpu : Processor) (lookup : Lookup) (gpn index frame : ℕ) (place : Place) (verdict : Verdict) → place.asid ≡ asid → place.gpn ≡ gpn
    → private_verdict (old.pages frame).facts place Load ≡ verdict → IsHeldWherePassed asid old (table_move frames old part cpu lookup verdict gpn index frame)
unfolding table_move
table_held frames asid old part cpu lookup gpn index frame place Pass asid_is gpn_is is =
    let h = pass_holds (old.pages frame).facts place Load is in
    record {
      held = λ p f passed. held_at asid old gpn frame p f
          (subst (IsHeldAs (old.pages frame).facts asid) gpn_is (subst (λ (a : ℕ). IsHeldAs (old.pages frame).facts a place.gpn) asid_is h)) passed.0 passed.1;
    }
table_held frames asid old part cpu lookup gpn index frame place Hidden asid_is gpn_is is = record { held = λ p f passed. absurd passed }
table_held frames asid old part cpu lookup gpn index frame place (Fault outcome) asid_is gpn_is is = record { held = λ p f passed. absurd passed }

-- an item that walks
begin_held : (asid : ℕ) (old : Contents) (part : ActorPart) (context : Context) (levels address : ℕ) (refusal : Option Outcome) → IsHeldWherePassed asid old (begin_move old part context levels address refusal)
unfolding begin_move
begin_held asid old part context levels address refusal =
    let P = IsHeldWherePassed asid old in
    cond_both (not (is_running context.state)) _ _ P (λ _. record { held = λ p f passed. absurd passed })
    (λ _. cond_both (not (is_canonical levels address)) _ _ P (λ _. record { held = λ p f passed. absurd passed }) (λ _. record { held = λ p f passed. absurd passed }))

need_held : (frames : ℕ) (guests : List GuestSpec) (old : Contents) (part : ActorPart) (cpu : Processor) (lookup : Lookup) (arrives : Arrival) (need : Need) → ArrivesHeld (asid_of guests cpu.guest) old arrives
    → IsHeldWherePassed (asid_of guests cpu.guest) old (need_move frames guests old part cpu lookup arrives need)
unfolding need_move
need_held frames guests old part cpu lookup arrives (needs.Nested frame index) held = record { held = λ p f passed. absurd passed }
need_held frames guests old part cpu lookup arrives (needs.Table gpn index frame size) held =
    table_held frames (asid_of guests cpu.guest) old part cpu lookup gpn index frame (table_place (asid_of guests cpu.guest) cpu.vmpl gpn index frame size) _ refl refl refl
need_held frames guests old part cpu lookup arrives (needs.Data gpn private frame size) held = held gpn private frame size
need_held frames guests old part cpu lookup arrives (needs.Fault outcome) held = record { held = λ p f passed. absurd passed }

walked_held : (frames : ℕ) (guests : List GuestSpec) (old : Contents) (part : ActorPart) (cpu : Processor) (lookup : Lookup) (refusal : Option Outcome) (arrives : Arrival) (made : List Deed)
    → ArrivesHeld (asid_of guests cpu.guest) old arrives → IsHeldWherePassed (asid_of guests cpu.guest) old (walked_move frames guests old part cpu lookup refusal arrives made)
unfolding walked_move
walked_held frames guests old part cpu lookup refusal arrives [] held = begin_held (asid_of guests cpu.guest) old part (old.contexts cpu.guest) _ _ refusal
walked_held frames guests old part cpu lookup refusal arrives (first ∷ others) held = need_held frames guests old part cpu lookup arrives _ held

lock_held : (asid : ℕ) (old : Contents) (part : ActorPart) (lock : PageLock) (refusal : Option Outcome) → IsHeldWherePassed asid old (lock_move old part lock refusal)
unfolding lock_move
lock_held asid old part lock None = record { held = λ p f passed. absurd passed }
lock_held asid old part lock (Some outcome) = record { held = λ p f passed. absurd passed }

validate_held : (guests : List GuestSpec) (view : View) (part : ActorPart) (cpu : Processor) (size : PageSize) (validate : Bool) (locks : List PageLock)
    → ArrivesHeld (asid_of guests cpu.guest) view.contents (validate_move guests view part cpu size validate locks)
unfolding validate_move
validate_held guests view part cpu size validate [] gpn private frame leaf = lock_held (asid_of guests cpu.guest) view.contents part _ _
validate_held guests view part cpu size validate (lock ∷ others) gpn private frame leaf = record { held = λ p f passed. absurd passed }

adjust_held : (guests : List GuestSpec) (view : View) (part : ActorPart) (cpu : Processor) (size : PageSize) (target mask : ℕ) (vmsa : Bool) (locks : List PageLock)
    → ArrivesHeld (asid_of guests cpu.guest) view.contents (adjust_move guests view part cpu size target mask vmsa locks)
unfolding adjust_move
adjust_held guests view part cpu size target mask vmsa [] gpn private frame leaf = lock_held (asid_of guests cpu.guest) view.contents part _ _
adjust_held guests view part cpu size target mask vmsa (lock ∷ others) gpn private frame leaf = record { held = λ p f passed. absurd passed }

-- so each item of a processor
cpu_held : (frames : ℕ) (guests : List GuestSpec) (view : View) (part : ActorPart) (cpu : Processor) (item : Item)
    → IsHeldWherePassed (asid_of guests cpu.guest) view.contents (item_move frames guests view part (Cpu cpu.guest cpu.vmpl cpu.npt cpu.paging) item)
unfolding item_move
cpu_held frames guests view part cpu (items.Access address op) = walked_held frames guests view.contents part cpu (lookup_of address op) None _ part.deeds (data_held guests view.contents part cpu address op)
cpu_held frames guests view part cpu (items.Pvalidate address size validate) =
    walked_held frames guests view.contents part cpu (page_lookup address) _ _ part.deeds (validate_held guests view part cpu size validate part.standing.locks)
cpu_held frames guests view part cpu (items.Rmpadjust address size target mask vmsa) =
    walked_held frames guests view.contents part cpu (page_lookup address) _ _ part.deeds (adjust_held guests view part cpu size target mask vmsa part.standing.locks)
cpu_held frames guests view part cpu (items.Rmpupdate update) = record { held = λ p f passed. absurd passed }
cpu_held frames guests view part cpu (items.Psmash frame) = record { held = λ p f passed. absurd passed }
cpu_held frames guests view part cpu (items.Firmware command) = record { held = λ p f passed. absurd passed }
cpu_held frames guests view part cpu (items.Skip count test) = record { held = λ p f passed. absurd passed }

role_held : (frames : ℕ) (guests : List GuestSpec) (view : View) (part : ActorPart) (guest : ℕ) (role : Role) (item : Item) → IsProcessorOf guest role
    → IsHeldWherePassed (asid_of guests guest) view.contents (item_move frames guests view part role item)
role_held frames guests view part guest (Cpu owner vmpl npt paging) item is =
    subst (λ (g : ℕ). IsHeldWherePassed (asid_of guests g) view.contents (item_move frames guests view part (Cpu owner vmpl npt paging) item)) is
    (cpu_held frames guests view part (record { guest = owner; vmpl = vmpl; npt = npt; paging = paging }) item)
role_held frames guests view part guest Host item is = absurd is
role_held frames guests view part guest Firmware item is = absurd is

pub passed_held : (guest : ℕ) (m : State) (actor gpn frame : ℕ) → IsProcessorOf guest (part_of m actor).role → IsPassedAccess (event_of m actor).deed (event_of m actor).outcome gpn frame
    → IsHeldAs (m.contents.pages frame).facts (asid_of m.guests guest) gpn
unfolding event_of
passed_held guest m actor gpn frame is passed =
    let part = part_of m actor in
    (role_held m.frames m.guests (view_of m) part guest part.role (line_at part.script part.item).item is).held gpn frame passed
