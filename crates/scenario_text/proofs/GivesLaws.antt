-- What holds of each value that the steps of a line can give, step by step.
use Rattle.std.proofs.Common.{◌≡◌, Bool, true, false, cond, Result, Ok, Err, refl, ap, subst}
use Rattle.snp_model.specs.declared.reading.Reason.{Reason}
use Rattle.snp_model.specs.Lines.{◌>>=◌, ◌>>◌}
use Rattle.snp_model.specs.Reading.{by_rule}

-- each value that a result can have has a property
abbrev pub Gives : {A E : Type 0} → (A → Type 0) → Result A E → Type 0
Gives P r = (x : _) → r ≡ Ok x → P x

pub done : {A E : Type 0} (P : A → Type 0) (x : A) → P x → Gives {A = A} {E = E} P (Ok x)
done P x is y h = let same : x ≡ y = cc in subst P same is

-- a refused line gives nothing
pub none : {A E : Type 0} (P : A → Type 0) (e : E) → Gives {A = A} {E = E} P (Err e)
none P e y h = absurd (cc)

-- a step whose value the next one takes, and one whose value isn't wanted
pub step : {A B E : Type 0} (P : B → Type 0) (r : Result A E) (f : A → Result B E) → ((x : A) → r ≡ Ok x → Gives P (f x)) → Gives P (r >>= f)
step P (Ok x) f is y h = is x refl y h
step P (Err e) f is y h = absurd (cc)

pub next : {A B E : Type 0} (P : B → Type 0) (r : Result A E) (s : Result B E) → ((x : A) → r ≡ Ok x → Gives P s) → Gives P (r >> s)
next P (Ok x) s is y h = is x refl y h
next P (Err e) s is y h = absurd (cc)

-- one of two by a test
pub choose : {A E : Type 0} (P : A → Type 0) (b : Bool) (r s : Result A E) → (b ≡ true → Gives P r) → Gives P s → Gives P (cond b r s)
choose P true r s first second = first refl
choose P false r s first second = second

-- a rule's value, where a fault may also be a limit
pub ruled : {A : Type 0} (P : A → Type 0) (r : Result A Reason) → Gives P r → Gives P (by_rule r)
ruled P (Ok x) is y h = let same : x ≡ y = cc in is y (ap (λ (z : _). Ok z) same)
ruled P (Err e) is y h = absurd (cc)
