-- What a flush leaves of what was told before it: all, since it adds nothing to what a writer has taken.
use Rattle.std.proofs.Common.{◌≡◌, ◌≢◌, eqb, ℕ, ◌≤◌, ◌⊎◌, true, false, List, [], Option, sym, subst, arith, inl, inr}
use Rattle.std.proofs.lemmas.Bool.Decides.{eqb_tells}
use Rattle.snp_model.specs.Outside.{Adds, AddsPrefix, Rose}
use Rattle.snp_top.specs.declared.words.Asked.{Asked}
use Rattle.snp_top.specs.Batch.{Outside}
use Rattle.snp_top.specs.Exits.{Exits}
use Rattle.snp_top.proofs.KeptLaws.{adds_kept, line_kept, outputs_as, prefix_kept, rose_behind, rose_kept, whole_cut}

-- the status of a command whose output couldn't be handed on is 6 for 0, and else its own
pub record IsUnflushed (status result : ℕ) : Type 0 where
  pub done : status ≡ 0 → result ≡ 6
  pub other : status ≢ 0 → result ≡ status

-- the writer has handed on what it held back
pub exits_flushed : (asked : Option Asked) (k : ℕ) (before : Outside) (left : Option (List ℕ)) (reads : ℕ) (mid now : Option (List ℕ)) (between after : ℕ)
    → Exits asked k before (record { left = left; read_faults = reads; written = mid; write_faults = between }) → Adds mid now [] → between ≤ after
    → Exits asked k before (record { left = left; read_faults = reads; written = now; write_faults = after })
exits_flushed asked k before left reads mid now between after exits flushed later = record {
  done = λ zero. outputs_as asked before.left left (Adds before.written mid) (Adds before.written now) (λ bytes adds. adds_kept before.written mid now bytes adds flushed) (exits.done zero);
  cut = λ six.
      let cut = exits.cut six in
      (outputs_as asked before.left left (AddsPrefix before.written mid) (AddsPrefix before.written now) (λ bytes adds. prefix_kept before.written mid now bytes adds flushed) cut.0, rose_kept before.write_faults between after cut.1 later);
  failed = λ some whole.
      let fails = exits.failed some whole in
      record { fault = fails.fault; status_is = fails.status_is; cause = fails.cause; line = line_kept before.written mid now before.write_faults between after _ fails.line flushed later };
  taken = exits.taken;
  later = (exits.later.0, omega (arith, exits.later.1, later));
}

-- or it failed
pub exits_unflushed : (asked : Option Asked) (k result : ℕ) (before : Outside) (left : Option (List ℕ)) (reads : ℕ) (mid now : Option (List ℕ)) (between after : ℕ)
    → Exits asked k before (record { left = left; read_faults = reads; written = mid; write_faults = between }) → Adds mid now [] → Rose between after → IsUnflushed k result
    → Exits asked result before (record { left = left; read_faults = reads; written = now; write_faults = after })
exits_unflushed asked k result before left reads mid now between after exits flushed rose is = go (eqb_tells k 0)
  where
    go : ((eqb k 0 ≡ true) × (k ≡ 0)) ⊎ ((eqb k 0 ≡ false) × (k ≢ 0)) → Exits asked result before (record { left = left; read_faults = reads; written = now; write_faults = after })
    go (inl zero) =
        let six = is.done zero.1 in
        record {
          done = λ e. absurd (omega (arith, six, e));
          cut = λ e. (outputs_as asked before.left left (Adds before.written mid) (AddsPrefix before.written now) (λ bytes adds. whole_cut before.written now bytes (adds_kept before.written mid now bytes adds flushed)) (exits.done zero.1), rose_behind before.write_faults between after exits.later.1 rose);
          failed = λ some whole. absurd (whole six);
          taken = exits.taken;
          later = (exits.later.0, omega (arith, exits.later.1, rose.0));
        }
    go (inr some) =
        subst (λ (n : ℕ). Exits asked n before (record { left = left; read_faults = reads; written = now; write_faults = after })) (sym (is.other some.1))
        (exits_flushed asked k before left reads mid now between after exits flushed rose.0)

-- a status 6 is that of the command, or of its output
pub cut_status : (status result : ℕ) → IsUnflushed status result → result ≡ 6 → (status ≡ 0) ⊎ (status ≡ 6)
cut_status status result is meant = go (eqb_tells status 0)
  where
    go : ((eqb status 0 ≡ true) × (status ≡ 0)) ⊎ ((eqb status 0 ≡ false) × (status ≢ 0)) → (status ≡ 0) ⊎ (status ≡ 6)
    go (inl zero) = inl zero.1
    go (inr some) = let same = is.other some.1 in inr (omega (arith, same, meant))

-- no status is then 0
pub never_done : (status result : ℕ) → IsUnflushed status result → result ≡ 0 → ⊥
never_done status result is meant = go (eqb_tells status 0)
  where
    go : ((eqb status 0 ≡ true) × (status ≡ 0)) ⊎ ((eqb status 0 ≡ false) × (status ≢ 0)) → ⊥
    go (inl zero) = let six = is.done zero.1 in omega (arith, six, meant)
    go (inr some) = let same = is.other some.1 in some.1 (omega (arith, same, meant))
