-- What a written context leaves of the guests' contexts and of their locks.
use Rattle.std.proofs.Common.{◌≡◌, ◌≢◌, ℕ, Bool, true, false, ◌||◌, cond, eqb, nat_lt, Option, None, Some, List, length, Result, Ok, Err, refl, sym, ap, ◌∙◌, ⊎_elim, arith}
use Rattle.std.proofs.lemmas.Bool.{cases_eq}
use Rattle.std.proofs.lemmas.Bool.Decides.{nat_tests}
use Rattle.std.specs.Option.{option_or}
use Rattle.snp_model.specs.declared.command.Command.{Command}
use Rattle.snp_model.specs.declared.event.FwRefusal.{FwRefusal}
use Rattle.snp_model.specs.declared.event.FwRefusal.TheVariants.{Status}
use Rattle.snp_model.specs.declared.scenario.GuestSpec.{GuestSpec}
use Rattle.snp_model.specs.Entries.{released}
use Rattle.snp_model.specs.Firmware.{invalid_param}
use Rattle.snp_model.specs.FirmwareCommits.{at_guest}
use Rattle.snp_model.specs.FirmwareLocks.{context_refusal, firmware_answer, guest_refusal}
use Rattle.snp_model.specs.HeldContexts.{HeldContext}
use Rattle.snp_model.specs.State.{Context}
use Rattle.run_laws.specs.KeptLocks.{recontexted}
use Rattle.machine_core.specs.Bays.{GuestContexts, Stock, context_holder_in, context_holders_of, contexts_of, put_context, stock_with_context}
use Rattle.machine_core.specs.Commands.{HoldsContext, HoldsNoContext, context_refused, context_shown}
use Rattle.machine_core.proofs.RangeLaws.{released_other}

-- a context was put where another was
pub record IsPutContext (stock new_stock : Stock) (guest : ℕ) (old new : HeldContext) : Type 0 where
  pub there : stock.contexts guest ≡ Some old
  pub stock_is : new_stock ≡ stock_with_context guest new stock

put_own : (contexts : GuestContexts) (guest : ℕ) (held : HeldContext) (g : ℕ) → g ≡ guest → put_context guest held contexts g ≡ Some held
put_own contexts guest held g same = grind (arith, nat_tests)

put_other : (contexts : GuestContexts) (guest : ℕ) (held : HeldContext) (g : ℕ) → g ≢ guest → put_context guest held contexts g ≡ contexts g
put_other contexts guest held g other = grind (arith, nat_tests)

-- the context and the holder of a guest whose context is there
pub context_there : (stock : Stock) (guests : List GuestSpec) (guest : ℕ) (held : HeldContext) → stock.contexts guest ≡ Some held → contexts_of stock.contexts guests guest ≡ held.context
unfolding contexts_of
context_there stock guests guest held there = rw there refl

pub holder_there : (stock : Stock) (guest : ℕ) (held : HeldContext) → stock.contexts guest ≡ Some held → context_holders_of stock.contexts guest ≡ held.holder
unfolding context_holders_of
holder_there stock guest held there = rw there refl

-- contexts after it
at_own : (guest : ℕ) (context : Context) (contexts : ℕ → Context) (g : ℕ) → g ≡ guest → at_guest guest context contexts g ≡ context
unfolding at_guest
at_own guest context contexts g same = grind (arith, nat_tests)

at_another : (guest : ℕ) (context : Context) (contexts : ℕ → Context) (g : ℕ) → g ≢ guest → at_guest guest context contexts g ≡ contexts g
unfolding at_guest
at_another guest context contexts g other = grind (arith, nat_tests)

put_each : (stock new_stock : Stock) (guest : ℕ) (old new : HeldContext) (guests : List GuestSpec) → IsPutContext stock new_stock guest old new → (g : ℕ)
    → contexts_of new_stock.contexts guests g ≡ at_guest guest new.context (contexts_of stock.contexts guests) g
unfolding contexts_of
put_each stock new_stock guest old new guests is g =
    ap (λ (s : Stock). contexts_of s.contexts guests g) is.stock_is
    ∙ ⊎_elim
    (λ (same : g ≡ guest). (rw (put_own stock.contexts guest new g same) refl) ∙ sym (at_own guest new.context (contexts_of stock.contexts guests) g same))
    (λ (other : g ≢ guest). (rw (put_other stock.contexts guest new g other) refl) ∙ sym (at_another guest new.context (contexts_of stock.contexts guests) g other))
    (cases_eq g guest)

pub contexts_put : (stock new_stock : Stock) (guest : ℕ) (old new : HeldContext) (guests : List GuestSpec) → IsPutContext stock new_stock guest old new
    → contexts_of new_stock.contexts guests ≡ at_guest guest new.context (contexts_of stock.contexts guests)
contexts_put stock new_stock guest old new guests is = λ i g. put_each stock new_stock guest old new guests is g i

-- a context that stays as it was
stays_at : (guest : ℕ) (contexts : ℕ → Context) (g : ℕ) → at_guest guest (contexts guest) contexts g ≡ contexts g
stays_at guest contexts g =
    ⊎_elim
    (λ (same : g ≡ guest). at_own guest (contexts guest) contexts g same ∙ ap contexts (sym same))
    (λ (other : g ≢ guest). at_another guest (contexts guest) contexts g other)
    (cases_eq g guest)

pub contexts_same : (stock new_stock : Stock) (guest : ℕ) (old new : HeldContext) (guests : List GuestSpec) → IsPutContext stock new_stock guest old new → new.context ≡ old.context
    → contexts_of new_stock.contexts guests ≡ contexts_of stock.contexts guests
contexts_same stock new_stock guest old new guests is same =
    contexts_put stock new_stock guest old new guests is
    ∙ ap (λ (c : Context). at_guest guest c (contexts_of stock.contexts guests)) (same ∙ sym (context_there stock guests guest old is.there))
    ∙ (λ i g. stays_at guest (contexts_of stock.contexts guests) g i)

-- the holders after it
holder_each : (stock new_stock : Stock) (guest : ℕ) (old new : HeldContext) → IsPutContext stock new_stock guest old new → (g : ℕ) → (own : Bool) → eqb guest g ≡ own
    → context_holders_of new_stock.contexts g ≡ cond own new.holder (context_holders_of stock.contexts g)
unfolding context_holders_of
holder_each stock new_stock guest old new is g true same =
    ap (λ (s : Stock). context_holder_in (s.contexts g)) is.stock_is ∙ (rw same refl)
holder_each stock new_stock guest old new is g false other =
    ap (λ (s : Stock). context_holder_in (s.contexts g)) is.stock_is ∙ (rw other refl)

-- an actor without a lock takes one
locked_each : (actor guest g : ℕ) (own : Bool) (holder : ℕ → Option ℕ) → holder g ≢ Some actor → eqb guest g ≡ own → cond own (Some actor) (holder g) ≡ recontexted actor (Some guest) holder g
locked_each actor guest g true holder other is = rw is refl
locked_each actor guest g false holder other is = rw is (sym (released_other actor (holder g) other))

pub context_locked : (stock new_stock : Stock) (actor guest : ℕ) (old new : HeldContext) → IsPutContext stock new_stock guest old new → new.holder ≡ Some actor → HoldsNoContext actor stock
    → context_holders_of new_stock.contexts ≡ recontexted actor (Some guest) (context_holders_of stock.contexts)
context_locked stock new_stock actor guest old new is holder none =
    λ i g. (holder_each stock new_stock guest old new is g (eqb guest g) refl
    ∙ ap (λ (h : Option ℕ). cond (eqb guest g) h (context_holders_of stock.contexts g)) holder
    ∙ locked_each actor guest g (eqb guest g) (context_holders_of stock.contexts) (none g) refl) i

-- or takes none
pub context_unlocked : (stock : Stock) (actor : ℕ) → HoldsNoContext actor stock → context_holders_of stock.contexts ≡ recontexted actor None (context_holders_of stock.contexts)
context_unlocked stock actor none = λ i g. sym (released_other actor (context_holders_of stock.contexts g) (none g)) i

-- the holders where the lock of the one that is put stays
pub context_holders_same : (stock new_stock : Stock) (guest : ℕ) (old new : HeldContext) → IsPutContext stock new_stock guest old new → new.holder ≡ old.holder → context_holders_of new_stock.contexts ≡ context_holders_of stock.contexts
context_holders_same stock new_stock guest old new is same =
    λ i g. (holder_each stock new_stock guest old new is g (eqb guest g) refl ∙ stays g (eqb guest g) refl) i
  where
    stays : (g : ℕ) (own : Bool) → eqb guest g ≡ own → cond own new.holder (context_holders_of stock.contexts g) ≡ context_holders_of stock.contexts g
    stays g true own = same ∙ sym (holder_there stock guest old is.there) ∙ ap (context_holders_of stock.contexts) (grind (arith, nat_tests))
    stays g false own = refl

-- an actor that has locked this one alone releases it
pub context_released : (stock new_stock : Stock) (actor guest : ℕ) (old new : HeldContext) → IsPutContext stock new_stock guest old new → new.holder ≡ released actor old.holder → HoldsContext actor guest stock
    → context_holders_of new_stock.contexts ≡ recontexted actor None (context_holders_of stock.contexts)
context_released stock new_stock actor guest old new is left holds =
    λ i g. (holder_each stock new_stock guest old new is g (eqb guest g) refl ∙ lets_go g (eqb guest g) refl) i
  where
    lets_go : (g : ℕ) (own : Bool) → eqb guest g ≡ own → cond own new.holder (context_holders_of stock.contexts g) ≡ released actor (context_holders_of stock.contexts g)
    lets_go g true own = left ∙ ap (released actor) (sym (holder_there stock guest old is.there) ∙ ap (context_holders_of stock.contexts) (grind (arith, nat_tests)))
    lets_go g false own = sym (released_other actor (context_holders_of stock.contexts g) (λ held. let same = holds.only g held in grind (arith, nat_tests)))

-- What an event shows that asks for the lock of a context

refused_first : (first second : Option FwRefusal) (refusal : FwRefusal) → first ≡ Some refusal → option_or first second ≡ Some refusal
refused_first first second refusal is = ap (λ (f : Option FwRefusal). option_or f second) is

-- of a guest that isn't declared
undeclared : (guests : List GuestSpec) (guest : ℕ) (bad : Bool) → (guest_refusal guests guest ≡ None → ⊥) → (eqb guest 0 || nat_lt (length guests) guest) ≡ bad → guest_refusal guests guest ≡ Some (Status invalid_param)
unfolding guest_refusal
undeclared guests guest true refused is = rw is refl
undeclared guests guest false refused is = absurd (refused (rw is refl))

pub shown_undeclared : (guests : List GuestSpec) (command : Command) (guest : ℕ) (stock : Stock) → (guest_refusal guests guest ≡ None → ⊥)
    → context_shown guest (Some (Status invalid_param)) ≡ context_shown guest (context_refused guests command guest stock)
shown_undeclared guests command guest stock refused =
    ap (context_shown guest) (sym (refused_first (guest_refusal guests guest) _ (Status invalid_param) (undeclared guests guest (eqb guest 0 || nat_lt (length guests) guest) refused refl)))

-- what is tested of the context is what its own part says
refusal_there : (guests : List GuestSpec) (command : Command) (guest : ℕ) (stock : Stock) (held : HeldContext) → stock.contexts guest ≡ Some held → guest_refusal guests guest ≡ None
    → context_refused guests command guest stock ≡ context_refusal guests command held.context held.holder
refusal_there guests command guest stock held there declared =
    (λ i. option_or (declared i) (context_refusal guests command (context_there stock guests guest held there i) (holder_there stock guest held there i)))

pub answer_none : (refusal : Option FwRefusal) (answer : Result (Unit {0}) FwRefusal) (unit : Unit {0}) → answer ≡ Ok unit → answer ≡ firmware_answer refusal → refusal ≡ None
answer_none None answer unit is found = refl
answer_none (Some refusal) answer unit is found = absurd (let e = sym is ∙ found in cc)

pub answer_some : (refusal : Option FwRefusal) (answer : Result (Unit {0}) FwRefusal) (why : FwRefusal) → answer ≡ Err why → answer ≡ firmware_answer refusal → refusal ≡ Some why
answer_some None answer why is found = absurd (let e = sym is ∙ found in cc)
answer_some (Some refusal) answer why is found = let e = sym is ∙ found in cc

pub shown_passed : (guests : List GuestSpec) (command : Command) (guest : ℕ) (stock : Stock) (held : HeldContext) (answer : Result (Unit {0}) FwRefusal) → {unit : Unit {0}} → stock.contexts guest ≡ Some held → guest_refusal guests guest ≡ None → answer ≡ Ok unit
    → answer ≡ firmware_answer (context_refusal guests command held.context held.holder) → context_shown guest None ≡ context_shown guest (context_refused guests command guest stock)
shown_passed guests command guest stock held answer {unit} there declared is found =
    ap (context_shown guest) (sym (refusal_there guests command guest stock held there declared ∙ answer_none (context_refusal guests command held.context held.holder) answer unit is found))

pub shown_refused : (guests : List GuestSpec) (command : Command) (guest : ℕ) (stock : Stock) (held : HeldContext) (answer : Result (Unit {0}) FwRefusal) (why : FwRefusal) → stock.contexts guest ≡ Some held → guest_refusal guests guest ≡ None → answer ≡ Err why
    → answer ≡ firmware_answer (context_refusal guests command held.context held.holder) → context_shown guest (Some why) ≡ context_shown guest (context_refused guests command guest stock)
shown_refused guests command guest stock held answer why there declared is found =
    ap (context_shown guest) (sym (refusal_there guests command guest stock held there declared ∙ answer_some (context_refusal guests command held.context held.holder) answer why is found))
