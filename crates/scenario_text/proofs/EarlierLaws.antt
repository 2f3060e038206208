-- Of a list in which each two elements differ, an element differs from each one before it.
use Rattle.std.proofs.Common.{◌≡◌, Bool, false, List, [], ◌∷◌, ◌++◌, refl}
use Rattle.std.specs.List.{AllByRecursion, list_any}
use Rattle.snp_model.specs.Sound.{Pairwise}

each_behind : {X : Type 0} (P : X → Type 0) (xs ys : List X) → AllByRecursion P (xs ++ ys) → AllByRecursion P ys
each_behind P [] ys all = all
each_behind P (x ∷ xs) ys all = each_behind P xs ys all.1

pub each_earlier : {X : Type 0} (R : X → X → Type 0) (xs : List X) (y : X) (ys : List X) → Pairwise R (xs ++ y ∷ ys) → AllByRecursion (λ x. R x y) xs
each_earlier R [] y ys pairs = tt
each_earlier R (x ∷ xs) y ys pairs = ((each_behind (R x) xs (y ∷ ys) pairs.0).0, each_earlier R xs y ys pairs.1)

-- no element passes a test, since each has what makes it fail
pub none_passes : {X : Type 0} (test : X → Bool) (P : X → Type 0) (xs : List X) → ((x : X) → P x → test x ≡ false) → AllByRecursion P xs → list_any test xs ≡ false
none_passes test P [] fails all = refl
none_passes test P (x ∷ xs) fails all = rw (fails x all.0) (none_passes test P xs fails all.1)
