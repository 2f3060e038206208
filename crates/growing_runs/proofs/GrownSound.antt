-- A scenario whose script goes on keeps its bounds and its spelling.
use Rattle.std.proofs.Common.{◌≡◌, ℕ, zero, suc, ◌+◌, ◌-◌, ◌<◌, ◌≤◌, ◌^◌, List, [], ◌∷◌, ◌++◌, length, get_or, set, refl, sym, ap, ◌∙◌, subst, arith}
use Rattle.std.specs.List.{AllByRecursion}
use Rattle.std.proofs.lemmas.List.{length-set}
use Rattle.snp_model.specs.declared.item.Item.{Item}
use Rattle.snp_model.specs.declared.item.Item.TheVariants as items
use Rattle.snp_model.specs.declared.item.Line.{Line}
use Rattle.snp_model.specs.declared.scenario.Actor.{Actor}
use Rattle.snp_model.specs.declared.scenario.Scenario.{Scenario}
use Rattle.snp_model.specs.Attempts.{attempts_of}
use Rattle.snp_model.specs.Bounds.{IsItemOf, IsLineOf}
use Rattle.snp_model.specs.Reading.{order_of}
use Rattle.snp_model.specs.ScenarioLines.{frames_of}
use Rattle.snp_model.specs.Sound.{IsActor, IsSound}
use Rattle.snp_model.specs.Spelled.{IsSpelled, IsSpelledActor, IsSpelledLine, IsTriedBy, IsWide}
use Rattle.growing_runs.specs.Drives.{MayTake}
use Rattle.growing_runs.specs.Extending.{actor_of, appended, idle_actor, lengthened, once, with_script}
use Rattle.growing_runs.proofs.AppendLaws.{each_append}
use Rattle.growing_runs.proofs.GrownRuns.{attempts_more}

-- each element keeps a fact, where one is replaced by another that has it
each_at : {X : Type 0} (P : X → Type 0) (xs : List X) (k : ℕ) (d : X) → AllByRecursion P xs → k < length xs → P (get_or xs k d)
each_at P [] k d all within = absurd (omega arith)
each_at P (x ∷ xs) zero d all within = all.0
each_at P (x ∷ xs) (suc k) d all within = each_at P xs k d all.1 (omega arith)

each_set : {X : Type 0} (P : X → Type 0) (xs : List X) (k : ℕ) (y : X) → AllByRecursion P xs → P y → AllByRecursion P (set xs k y)
each_set P [] k y all new = tt
each_set P (x ∷ xs) zero y all new = (new, all.1)
each_set P (x ∷ xs) (suc k) y all new = (all.0, each_set P xs k y all.1 new)

-- an item that is attempted once may be attempted so often
tried_once : (item : Item) → IsTriedBy 0 item
tried_once (items.Access address op) = refl
tried_once (items.Pvalidate address size validate) = tt
tried_once (items.Rmpadjust address size target mask vmsa) = tt
tried_once (items.Rmpupdate update) = tt
tried_once (items.Psmash frame) = tt
tried_once (items.Firmware command) = tt
tried_once (items.Skip count test) = refl

pub sound_with : (c : Scenario) (actor : ℕ) (item : Item) → IsSound c → MayTake c actor item → attempts_of c < 8192 → IsSound (appended actor item c)
unfolding with_script order_of
sound_with c actor item sound may room =
    let line : IsLineOf (frames_of c) (actor_of c actor).role (once item) = record { item = may.fits; retries = omega arith } in
    let some = may.some in
    let there = may.there in
    let within : actor - 1 < length c.actors = omega arith in
    let old : IsActor (frames_of c) (length c.guests) (actor_of c actor) = each_at (IsActor (frames_of c) (length c.guests)) c.actors (actor - 1) idle_actor sound.actors within in
    let new : IsActor (frames_of c) (length c.guests) (lengthened (once item ∷ []) (actor_of c actor)) = record {
      role = old.role;
      script = each_append (IsLineOf (frames_of c) (actor_of c actor).role) (actor_of c actor).script (once item ∷ []) old.script (line, tt);
    } in
    let more = attempts_more c actor item some there in
    record {
      version_some = sound.version_some;
      version_most = sound.version_most;
      regions_some = sound.regions_some;
      regions_most = sound.regions_most;
      guests_most = sound.guests_most;
      guests = sound.guests;
      asids_differ = sound.asids_differ;
      pages = sound.pages;
      frames_differ = sound.frames_differ;
      gpns_differ = sound.gpns_differ;
      words = sound.words;
      actors_most = subst (λ (n : ℕ). n ≤ 32) (sym (length-set c.actors (actor - 1) (lengthened (once item ∷ []) (actor_of c actor)))) sound.actors_most;
      actors = each_set (IsActor (frames_of c) (length c.guests)) c.actors (actor - 1) (lengthened (once item ∷ []) (actor_of c actor)) sound.actors new;
      attempts_most = subst (λ (n : ℕ). n ≤ 8192) (sym more) (omega (arith, room));
      order = sound.order;
      order_most = sound.order_most;
    }

pub spelled_with : (c : Scenario) (actor : ℕ) (item : Item) → IsSpelled c → 0 < actor → actor ≤ length c.actors → IsWide item → IsSpelled (appended actor item c)
unfolding with_script
spelled_with c actor item spelled some there wide =
    let within : actor - 1 < length c.actors = omega arith in
    let old : IsSpelledActor c.version (actor_of c actor) = each_at (IsSpelledActor c.version) c.actors (actor - 1) idle_actor spelled.actors within in
    record {
      keys = spelled.keys;
      opened = spelled.opened;
      actors = each_set (IsSpelledActor c.version) c.actors (actor - 1) (lengthened (once item ∷ []) (actor_of c actor)) spelled.actors
          (old.0, each_append IsSpelledLine (actor_of c actor).script (once item ∷ []) old.1 ((tried_once item, wide), tt));
    }
