-- What an actor, and an item of the last actor, change.
use Rattle.std.proofs.Common.{◌≡◌, ◌+◌, ◌-◌, ◌<◌, List, [], ◌∷◌, ◌++◌, length, take, slice_get, Option, Some, None, MatchOption, Result, Ok, Err, OnOk, OnErr, refl, ap, subst, ◌∙◌, arith, length-append, length-take}
use Rattle.std.proofs.lemmas.Option.{slice_get_within}
use Rattle.snp_model.specs.declared.item.Line.{Line}
use Rattle.snp_model.specs.declared.scenario.Actor.{Actor}
use Rattle.snp_model.specs.declared.scenario.Role.{Role}
use Rattle.snp_model.specs.ScenarioLines.{idle, with_line}
use Rattle.snp_model.specs.Attempts.{actors_attempts}
use Rattle.snp_model.proofs.AttemptLaws.{attempts_idle, attempts_line}

-- an actor without items changes no attempts, whether it was added or not
pub idle_pushed : {E : Type 0} (result : Result (Unit {0}) E) (actors new : List Actor) (actor : Actor) (role : Role) → OnOk result (new ≡ actors ++ actor ∷ []) → OnErr result (new ≡ actors) → actor ≡ idle role → actors_attempts new ≡ actors_attempts actors
idle_pushed (Ok done) actors new actor role pushed same is =
    ap actors_attempts (pushed ∙ ap (λ (a : Actor). actors ++ a ∷ []) is) ∙ attempts_idle actors role
idle_pushed (Err fault) actors new actor role pushed same is = ap actors_attempts same

-- the actors are as many, and have the attempts of the line more
abbrev pub Grown : List Actor → List Actor → Line → Type 0
Grown actors new line = (actors_attempts new ≡ actors_attempts actors + (1 + line.retries)) × (length new ≡ length actors)

by_last : (actors new : List Actor) (line : Line) (role : Role) (o : Option Actor) → slice_get actors (length actors - 1) ≡ o → MatchOption o (Some role ≡ None) (λ last. Some role ≡ Some last.role) → MatchOption o (Unit {0}) (λ last. new ≡ with_line actors line last) → Grown actors new line
by_last actors new line role None e h g = absurd (cc)
by_last actors new line role (Some last) e h g =
    let some : length actors - 1 < length actors = slice_get_within actors (length actors - 1) last e in
    let more : List Actor = record last { script = last.script ++ line ∷ [] } ∷ [] in
    (ap actors_attempts g ∙ attempts_line actors line last e, omega (arith, ap length g, length-append (take (length actors - 1) actors) more, length-take (length actors - 1) actors))

pub line_grows : (slice actors new : List Actor) (line : Line) (role : Role) → slice ≡ actors → MatchOption (slice_get slice (length slice - 1)) (Some role ≡ None) (λ last. Some role ≡ Some last.role) → MatchOption (slice_get actors (length actors - 1)) (Unit {0}) (λ last. new ≡ with_line actors line last) → Grown actors new line
line_grows slice actors new line role same h g =
    let P : List Actor → Type 0 = λ xs. MatchOption (slice_get xs (length xs - 1)) (Some role ≡ None) (λ last. Some role ≡ Some last.role) in
    by_last actors new line role (slice_get actors (length actors - 1)) refl (subst P same h) g

-- no actors have no attempts
pub no_attempts : (actors : List Actor) → actors ≡ [] → 0 ≡ actors_attempts actors
unfolding actors_attempts
no_attempts actors none = rw none refl
