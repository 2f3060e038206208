-- The guest lines of a run's report have digests of 48 bytes.
use Rattle.std.proofs.Common.{◌≡◌, ℕ, zero, suc, ◌+◌, ◌^◌, ◌<◌, List, [], ◌∷◌, length, replicate, fold, refl, sym, ap, ◌∙◌, subst, arith}
use Rattle.std.specs.Int.{w64, byte_at, bytes_high_first, to_be_bytes}
use Rattle.std.specs.Prelude.{slice_index}
use Rattle.sha2.specs.Sha512.{digest_bytes, sha384}
use Rattle.sha2.proofs.Facts512.{length-sha384}
use Rattle.snp_model.specs.declared.scenario.GuestSpec.{GuestSpec}
use Rattle.snp_model.specs.declared.scenario.Scenario.{Scenario}
use Rattle.snp_model.specs.Ending.{lines_from, lines_of}
use Rattle.snp_model.specs.Measurement.{LaunchedPage, digest_after, measure, page_info}
use Rattle.snp_model.specs.Metadata.{AreBytes}
use Rattle.snp_model.specs.Opening.{opening}
use Rattle.snp_model.specs.Run.{state_after, state_from}
use Rattle.snp_model.specs.State.{Contexts, State}
use Rattle.snp_model.specs.Step.{after}
use Rattle.snp_model.proofs.PageBytesLaws.{are_both, are_until, are_zeros}
use Rattle.run_laws.proofs.RunLaws.{after_guests}
use Rattle.run_theorems.specs.Launches.{launched_in}
use Rattle.run_theorems.proofs.LaunchLaws.{digest_is}
use Rattle.report_audit.specs.Again.{AreGuestsFrom}

abbrev IsDigest : List ℕ → Type 0
IsDigest digest = (length digest ≡ 48) × AreBytes digest

-- the bytes of a number, the highest first
cons_bytes : (b : ℕ) (bytes : List ℕ) → b < 2 ^ 8 → AreBytes bytes → AreBytes (b ∷ bytes)
cons_bytes b bytes small are zero = small
cons_bytes b bytes small are (suc i) = are i

byte_small : (k n : ℕ) → byte_at k n < 2 ^ 8
byte_small zero n = grind (arith)
byte_small (suc k) n = grind (arith)

high_bytes : (k n : ℕ) → AreBytes (bytes_high_first k n)
high_bytes zero n = λ i. omega arith
high_bytes (suc k) n = cons_bytes (byte_at k n) (bytes_high_first k n) (byte_small k n) (high_bytes k n)

hash_bytes : (h : List ℕ) (n : ℕ) → AreBytes (digest_bytes h n)
unfolding digest_bytes
hash_bytes h zero = λ i. omega arith
hash_bytes h (suc n) = are_both (digest_bytes h n) (to_be_bytes w64 (slice_index h n)) (hash_bytes h n) (high_bytes 8 (slice_index h n))

sha_bytes : (message : List ℕ) → AreBytes (sha384 message)
unfolding sha384
sha_bytes message = are_until 48 _ (hash_bytes _ 8)

-- the measure of any pages
fold_is : (digest : List ℕ) (pages : List LaunchedPage) → IsDigest digest → IsDigest (fold digest_after digest pages)
fold_is digest [] is = is
fold_is digest (page ∷ pages) is = fold_is (digest_after digest page) pages (length-sha384 (page_info digest page), sha_bytes (page_info digest page))

measure_is : (pages : List LaunchedPage) → IsDigest (measure pages)
measure_is pages = fold_is (replicate 48 0) pages (refl, are_zeros 48)

pub run_digest : (c : Scenario) (s : List ℕ) (guest : ℕ) → IsDigest ((state_after c s).contents.contexts guest).digest
run_digest c s guest = subst IsDigest (sym (digest_is c s guest)) (measure_is (launched_in c s guest))

-- so the lines of guests
lines_are : (contexts : Contexts) (first : ℕ) (guests : List GuestSpec) → ((guest : ℕ) → IsDigest (contexts guest).digest) → AreGuestsFrom first (lines_from contexts first guests)
unfolding lines_from
lines_are contexts first [] are = tt
lines_are contexts first (guest ∷ guests) are = (refl, (are first).0, (are first).1, lines_are contexts (first + 1) guests are)

lines_count : (contexts : Contexts) (first : ℕ) (guests : List GuestSpec) → length (lines_from contexts first guests) ≡ length guests
unfolding lines_from
lines_count contexts first [] = refl
lines_count contexts first (guest ∷ guests) = ap suc (lines_count contexts (first + 1) guests)

state_guests : (m : State) (s : List ℕ) → (state_from m s).guests ≡ m.guests
unfolding state_from
state_guests m [] = refl
state_guests m (a ∷ s) = state_guests (after m a) s ∙ after_guests m a

opening_guests : (c : Scenario) → (opening c).guests ≡ c.guests
unfolding opening
opening_guests c = refl

pub run_guest_lines : (c : Scenario) (s : List ℕ) → AreGuestsFrom 1 (lines_of (state_after c s))
run_guest_lines c s = lines_are (state_after c s).contents.contexts 1 (state_after c s).guests (run_digest c s)

pub run_guest_count : (c : Scenario) (s : List ℕ) → length (lines_of (state_after c s)) ≡ length c.guests
run_guest_count c s =
    lines_count (state_after c s).contents.contexts 1 (state_after c s).guests ∙ ap (λ (guests : List GuestSpec). length guests) (state_guests (opening c) s ∙ opening_guests c)
