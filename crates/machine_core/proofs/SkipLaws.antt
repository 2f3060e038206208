-- Which outcomes give no value.
use Rattle.std.proofs.Common.{◌≡◌, ℕ, Bool, false, refl}
use Rattle.snp_model.specs.declared.event.Outcome.{Outcome}
use Rattle.snp_model.specs.declared.event.Outcome.TheVariants.{Loaded, Swapped, Compared}
use Rattle.snp_model.specs.Skips.{gives}

pub gives_none : (value : ℕ) (outcome : Outcome) → ((word : ℕ) → outcome ≡ Loaded word → ⊥) → ((word : ℕ) → outcome ≡ Swapped word → ⊥) → ((found : ℕ) (written : Bool) → outcome ≡ Compared found written → ⊥)
    → gives value outcome ≡ false
unfolding gives
gives_none value (Loaded word) loaded swapped compared = absurd (loaded word refl)
gives_none value (Swapped word) loaded swapped compared = absurd (swapped word refl)
gives_none value (Compared found written) loaded swapped compared = absurd (compared found written refl)
gives_none value outcome loaded swapped compared = refl
