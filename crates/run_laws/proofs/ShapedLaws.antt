-- What a state whose shapes are in order gives to the commits: memory and contexts fit, and guests have ASIDs of their own.
use Rattle.std.proofs.Common.{◌≢◌, ℕ, zero, suc, ◌-◌, ◌^◌, ◌<◌, ◌≤◌, List, [], ◌∷◌, length, get_or, map, refl, sym, ap, subst, arith}
use Rattle.std.specs.List.{AllByRecursion}
use Rattle.snp_model.specs.declared.scenario.GuestSpec.{GuestSpec}
use Rattle.snp_model.specs.GuestMemory.{Memory}
use Rattle.snp_model.specs.Live.{Archive, vault_of}
use Rattle.snp_model.specs.Opening.{asid_of}
use Rattle.snp_model.specs.Sound.{Pairwise, AsidsDiffer}
use Rattle.snp_model.specs.State.{State}
use Rattle.run_laws.specs.Shapes.{HasAsid, AreShaped}
use Rattle.run_laws.proofs.SealOutCommit.{Ties}
use Rattle.run_laws.proofs.SealingCommits.{BeforeCommit}

-- the ASID of a guest of a list, by its place
asid_at : List GuestSpec → ℕ → ℕ
asid_at guests k = get_or (map (λ (spec : GuestSpec). spec.asid) guests) k 0

below_all : (guests : List GuestSpec) (k : ℕ) → AllByRecursion HasAsid guests → asid_at guests k < 2 ^ 16
unfolding asid_at
below_all [] k all = omega arith
below_all (spec ∷ guests) zero all = all.0.fits
below_all (spec ∷ guests) (suc k) all = below_all guests k all.1

some_at : (guests : List GuestSpec) (k : ℕ) → AllByRecursion HasAsid guests → k < length guests → 0 < asid_at guests k
unfolding asid_at
some_at [] k all within = absurd (omega arith)
some_at (spec ∷ guests) zero all within = all.0.some
some_at (spec ∷ guests) (suc k) all within = some_at guests k all.1 (omega arith)

differ_first : (first : GuestSpec) (guests : List GuestSpec) (k : ℕ) → k < length guests → AllByRecursion (AsidsDiffer first) guests → first.asid ≢ asid_at guests k
unfolding asid_at
differ_first first [] k within all = absurd (omega arith)
differ_first first (spec ∷ guests) zero within all = all.0
differ_first first (spec ∷ guests) (suc k) within all = differ_first first guests k (omega arith) all.1

differ_at : (guests : List GuestSpec) (j k : ℕ) → j < length guests → k < length guests → j ≢ k → Pairwise AsidsDiffer guests → asid_at guests j ≢ asid_at guests k
unfolding asid_at
differ_at [] j k inj ink apart all = absurd (omega arith)
differ_at (spec ∷ guests) zero zero inj ink apart all = absurd (apart refl)
differ_at (spec ∷ guests) zero (suc k) inj ink apart all = differ_first spec guests k (omega arith) all.0
differ_at (spec ∷ guests) (suc j) zero inj ink apart all = λ e. differ_first spec guests j (omega arith) all.0 (sym e)
differ_at (spec ∷ guests) (suc j) (suc k) inj ink apart all = differ_at guests j k (omega arith) (omega arith) (λ e. apart (ap suc e)) all.1

-- two declared guests have two ASIDs, neither of which is 0, and each fits in an entry
pub asid_differs : (guests : List GuestSpec) (g h : ℕ) → Pairwise AsidsDiffer guests → 0 < g → g ≤ length guests → 0 < h → h ≤ length guests → g ≢ h → asid_of guests g ≢ asid_of guests h
unfolding asid_at
asid_differs guests g h all some_g most_g some_h most_h apart = differ_at guests (g - 1) (h - 1) (omega arith) (omega arith) (λ e. apart (omega arith)) all

zero_less : (n : ℕ) → 0 < n → n ≢ 0
zero_less n some is = omega arith

pub asid_not_zero : (guests : List GuestSpec) (g : ℕ) → AllByRecursion HasAsid guests → 0 < g → g ≤ length guests → asid_of guests g ≢ 0
unfolding asid_at
asid_not_zero guests g all some most = zero_less (asid_of guests g) (some_at guests (g - 1) all (omega arith))

pub asid_fits : (guests : List GuestSpec) (g : ℕ) → AllByRecursion HasAsid guests → asid_of guests g < 2 ^ 16
unfolding asid_at
asid_fits guests g all = below_all guests (g - 1) all

-- so a commit may go by it
pub shaped_commit : (m : State) (g : ℕ) (archive : Archive) (memory : Memory) → AreShaped m → 0 < g → g ≤ length m.guests → Ties (asid_of m.guests g) (vault_of g m.contents archive) memory
    → BeforeCommit m.guests g m.contents archive memory
shaped_commit m g archive memory shaped some most ties = record {
  some = asid_not_zero m.guests g shaped.have_asids some most;
  differ = λ h some_h most_h apart. asid_differs m.guests g h shaped.asids_differ some most some_h most_h apart;
  memory_fits = record { facts = shaped.facts; words = shaped.words };
  contexts_fit = λ h. record {
    asid = subst (λ (n : ℕ). n < 2 ^ 16) (sym (shaped.contexts h).asid_is) (asid_fits m.guests h shaped.have_asids);
    counter = (shaped.contexts h).counter;
    key = (shaped.contexts h).key;
  };
  asids_are = λ h. (shaped.contexts h).asid_is;
  ties = ties;
}
