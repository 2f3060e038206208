-- The entries in use of a full page have fields in their ranges, and a full page whose entry was set or cleared is full.
use Rattle.std.proofs.Common.{◌≡◌, ℕ, zero, suc, ◌+◌, ◌*◌, ◌/◌, ◌^◌, ◌<◌, ◌≤◌, eqb, IfSome, List, [], ◌∷◌, ◌++◌, length, take, drop, replicate, Option, Some, None, refl, sym, ap, ◌∙◌, subst, ⊎_elim, arith, length-drop}
use Rattle.std.specs.Prelude.{slice_index, not, ◌==◌}
use Rattle.std.specs.Int.{w16, w64, from_le_bytes}
use Rattle.std.proofs.lemmas.Bool.{cond_both, cases_lt}
use Rattle.std.proofs.lemmas.List.{length-take-le, get_or-drop}
use Rattle.snp_model.specs.declared.firmware.MetaEntry.{MetaEntry}
use Rattle.snp_model.specs.Measurement.{page_bytes}
use Rattle.snp_model.specs.Metadata.{AreBytes, IsMetaEntry, words_of_bytes, entry_bytes, entry_from, slot, with_slot, entry_at, with_entry, cleared}
use Rattle.snp_model.specs.Sealing.{entry_set}
use Rattle.snp_model.proofs.MetadataLaws.{length-slot, length-with_slot, length-entry_bytes, bytes-entry_bytes}
use Rattle.snp_model.proofs.PageBytesLaws.{AreWords, are_from, are_until, length-page_bytes, length-words_of_bytes}
use Rattle.run_laws.specs.Uniqueness.{IsFull}
use Rattle.run_laws.proofs.SealLaws.{are_page, eight_bytes_fit, words_fit}
use Rattle.run_laws.proofs.TableLaws.{entry_past}

-- words stay words one after another, before others, behind others, and where they are zero
words_both : (xs ys : List ℕ) → AreWords xs → AreWords ys → AreWords (xs ++ ys)
words_both [] ys x y i = y i
words_both (a ∷ xs) ys x y zero = x 0
words_both (a ∷ xs) ys x y (suc i) = words_both xs ys (λ k. x (suc k)) y i

words_until : (n : ℕ) (words : List ℕ) → AreWords words → AreWords (take n words)
words_until zero words are i = omega arith
words_until (suc n) [] are i = omega arith
words_until (suc n) (w ∷ words) are zero = are 0
words_until (suc n) (w ∷ words) are (suc i) = words_until n words (λ k. are (suc k)) i

words_behind : (n : ℕ) (words : List ℕ) → AreWords words → AreWords (drop n words)
words_behind n words are i = rw (get_or-drop n words i 0) (are (n + i))

pub zeros_are_words : (n : ℕ) → AreWords (replicate n 0)
zeros_are_words zero i = omega arith
zeros_are_words (suc n) zero = omega arith
zeros_are_words (suc n) (suc i) = zeros_are_words n i

made_words : (bytes : List ℕ) → AreBytes bytes → AreWords (words_of_bytes bytes)
unfolding words_of_bytes
made_words bytes are = words_fit (length bytes / 8) bytes are

-- eight words in place of those of an entry
eight_end : (number long : ℕ) → number < 64 → long ≡ 512 → 8 * number + 8 ≤ long
eight_end number long below is = omega arith

slot_full : (words new : List ℕ) (number : ℕ) → IsFull words → number < 64 → length new ≡ 8 → AreWords new → IsFull (with_slot words number new)
unfolding with_slot
slot_full words new number full below eight are = record {
  whole = length-with_slot words number new (eight_end number (length words) below full.whole) eight ∙ full.whole;
  fits = words_both (take (8 * number) words) (new ++ drop (8 * number + 8) words) (words_until (8 * number) words full.fits)
      (words_both new (drop (8 * number + 8) words) are (words_behind (8 * number + 8) words full.fits));
}

pub entry_set_full : (words : List ℕ) (number : ℕ) (entry : Option MetaEntry) → IsFull words → number < 64 → IfSome entry IsMetaEntry → IsFull (entry_set words number entry)
unfolding with_entry cleared
entry_set_full words number None full below fits = slot_full words (replicate 8 0) number full below refl (zeros_are_words 8)
entry_set_full words number (Some entry) full below fits =
    let bytes = entry_bytes entry in
    slot_full words (words_of_bytes bytes) number full below (length-words_of_bytes 8 bytes (length-entry_bytes entry fits.perms_count fits.tag_count)) (made_words bytes (bytes-entry_bytes entry fits))

-- the entry that 64 bytes make
abbrev fields_of : List ℕ → MetaEntry
fields_of bytes = record {
  kind = slice_index bytes 1;
  vmsa = not (slice_index bytes 2 == 0);
  validated = not (slice_index bytes 3 == 0);
  asid = from_le_bytes w16 (take 2 (drop 4 bytes));
  gpn = from_le_bytes w64 (take 8 (drop 8 bytes));
  perms = take 4 (drop 16 bytes);
  iv = from_le_bytes w64 (take 8 (drop 24 bytes));
  tag = take 16 (drop 32 bytes);
}

two_bytes_fit : (bytes : List ℕ) → AreBytes bytes → from_le_bytes w16 bytes < 2 ^ 16
two_bytes_fit bytes are = omega (arith, are 0, are 1)

piece : (n k : ℕ) (bytes : List ℕ) → AreBytes bytes → AreBytes (take k (drop n bytes))
piece n k bytes are = are_until k (drop n bytes) (are_from n bytes are)

piece_long : (n k : ℕ) (bytes : List ℕ) → n + k ≤ length bytes → length (take k (drop n bytes)) ≡ k
piece_long n k bytes within = length-take-le k (drop n bytes) (omega (arith, length-drop n bytes))

fields_fit : (bytes : List ℕ) → length bytes ≡ 64 → AreBytes bytes → IsMetaEntry (fields_of bytes)
fields_fit bytes long are = record {
  kind = are 1;
  asid = two_bytes_fit (take 2 (drop 4 bytes)) (piece 4 2 bytes are);
  gpn = eight_bytes_fit (take 8 (drop 8 bytes)) (piece 8 8 bytes are);
  perms_count = piece_long 16 4 bytes (omega arith);
  perms = piece 16 4 bytes are;
  iv = eight_bytes_fit (take 8 (drop 24 bytes)) (piece 24 8 bytes are);
  tag_count = piece_long 32 16 bytes (omega arith);
  tag = piece 32 16 bytes are;
}

some_same : (x y : MetaEntry) → Some x ≡ Some y → x ≡ y
some_same x y e = cc

none_some : (entry : MetaEntry) → None ≡ Some entry → ⊥
none_some entry e = cc

bytes_fit : (bytes : List ℕ) (entry : MetaEntry) → length bytes ≡ 64 → AreBytes bytes → entry_from bytes ≡ Some entry → IsMetaEntry entry
unfolding entry_from
bytes_fit bytes entry long are is =
    cond_both (eqb (slice_index bytes 0) 1) (Some (fields_of bytes)) None (λ (found : Option MetaEntry). found ≡ Some entry → IsMetaEntry entry)
    (λ _ found. subst IsMetaEntry (some_same (fields_of bytes) entry found) (fields_fit bytes long are))
    (λ _ found. absurd (none_some entry found)) is

-- each entry in use of a page of 512 words
pub entry_fits : (words : List ℕ) (number : ℕ) (entry : MetaEntry) → length words ≡ 512 → entry_at words number ≡ Some entry → IsMetaEntry entry
unfolding entry_at
entry_fits words number entry long is =
    ⊎_elim
    (λ (low : number < 64).
    let eight = slot words number in
    let count : length (page_bytes eight) ≡ 64 = length-page_bytes eight ∙ ap (λ (n : ℕ). 8 * n) (length-slot words number (eight_end number (length words) low long)) in
    bytes_fit (page_bytes eight) entry count (are_page eight) is)
    (λ (past : 64 ≤ number). absurd (none_some entry (sym (entry_past words number long past) ∙ is)))
    (cases_lt number 64)
