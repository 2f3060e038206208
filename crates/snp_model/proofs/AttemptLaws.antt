-- How the sums of attempts and of turns grow.
use Rattle.std.proofs.Common.{◌≡◌, ◌+◌, ◌-◌, ◌<◌, ◌≤◌, List, [], ◌∷◌, ◌++◌, length, take, slice_get, replicate, Some, refl, sym, ap, ◌∙◌, arith, length-append}
use Rattle.std.proofs.lemmas.List.{take_more, take_all, length-replicate}
use Rattle.std.proofs.lemmas.Option.{get_or_from_slice_get, slice_get_within}
use Rattle.snp_model.specs.declared.item.Line.{Line}
use Rattle.snp_model.specs.declared.scenario.Actor.{Actor}
use Rattle.snp_model.specs.declared.scenario.Role.{Role}
use Rattle.snp_model.specs.declared.scenario.Turn.{Turn}
use Rattle.snp_model.specs.ScenarioLines.{idle, with_line}
use Rattle.snp_model.specs.Reading.{turns_count, turns_spell}
use Rattle.snp_model.specs.Attempts.{script_attempts, actors_attempts}

script_attempts-push : (lines : List Line) (line : Line) → script_attempts (lines ++ line ∷ []) ≡ script_attempts lines + (1 + line.retries)
unfolding script_attempts
script_attempts-push [] line = omega arith
script_attempts-push (other ∷ lines) line = omega (arith, script_attempts-push lines line)

actors_attempts-append : (actors more : List Actor) → actors_attempts (actors ++ more) ≡ actors_attempts actors + actors_attempts more
unfolding actors_attempts
actors_attempts-append [] more = omega arith
actors_attempts-append (actor ∷ actors) more = omega (arith, actors_attempts-append actors more)

-- an actor without items adds none
pub attempts_idle : (actors : List Actor) (role : Role) → actors_attempts (actors ++ idle role ∷ []) ≡ actors_attempts actors
unfolding actors_attempts script_attempts
attempts_idle actors role = omega (arith, actors_attempts-append actors (idle role ∷ []))

-- a list ends with its last element
pub last_behind : {A : Type 0} (xs : List A) (last : A) → slice_get xs (length xs - 1) ≡ Some last → xs ≡ take (length xs - 1) xs ++ last ∷ []
last_behind xs last h =
    let some : length xs - 1 < length xs = slice_get_within xs (length xs - 1) last h in
    let all : length xs ≤ length xs - 1 + 1 = omega arith in
    sym (take_all (length xs - 1 + 1) xs all) ∙ take_more xs (length xs - 1) last some ∙ ap (λ (x : _). take (length xs - 1) xs ++ x ∷ []) (get_or_from_slice_get xs (length xs - 1) last last h)

-- an item of the last actor adds itself and its retries
pub attempts_line : (actors : List Actor) (line : Line) (last : Actor) → slice_get actors (length actors - 1) ≡ Some last → actors_attempts (with_line actors line last) ≡ actors_attempts actors + (1 + line.retries)
unfolding actors_attempts
attempts_line actors line last h =
    let before : List Actor = take (length actors - 1) actors in
    omega (arith, ap actors_attempts (last_behind actors last h), actors_attempts-append before (last ∷ []), actors_attempts-append before (record last { script = last.script ++ line ∷ [] } ∷ []), script_attempts-push last.script line)

-- turns behind turns
pub turns_append : (turns more : List Turn) → turns_count (turns ++ more) ≡ turns_count turns + turns_count more
unfolding turns_count
turns_append [] more = omega arith
turns_append (turn ∷ turns) more = omega (arith, turns_append turns more)

-- the actors that turns spell are as many as the turns count
pub length-turns_spell : (turns : List Turn) → length (turns_spell turns) ≡ turns_count turns
unfolding turns_count turns_spell
length-turns_spell [] = refl
length-turns_spell (turn ∷ turns) = omega (arith, length-append (replicate turn.count turn.actor) (turns_spell turns), length-replicate turn.count turn.actor, length-turns_spell turns)
