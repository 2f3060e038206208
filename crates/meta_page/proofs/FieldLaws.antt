-- The fields of an entry, read from its eight words.
use Rattle.std.proofs.Common.{◌≡◌, ℕ, ◌/◌, ◌%◌, ◌^◌, ◌<◌, ◌==◌, Bool, not, List, [], ◌∷◌, ◌++◌, length, get_or, take, drop, Some, sym, ap, ◌∙◌, arith}
use Rattle.std.specs.Int.{w16, w64, to_le_bytes, from_le_bytes}
use Rattle.std.proofs.lemmas.Bool.{cond-true, eq-eqb}
use Rattle.std.proofs.lemmas.List.{append-nil}
use Rattle.std.proofs.lemmas.Nat.{from_le_bytes-to_le_bytes_8}
use borrow.Rule.Slice.PartMut.{put_mid}
use Rattle.snp_model.specs.Measurement.{page_bytes}
use Rattle.snp_model.specs.Metadata.{entry_bytes, entry_from, first_words, flag_byte, words_of_bytes}
use Rattle.snp_model.proofs.PageBytesLaws.{AreWords}

-- two words, written over the halves of sixteen zero bytes
pub two_words : (low high : ℕ) (front back : List ℕ) → front ≡ to_le_bytes w64 low → back ≡ to_le_bytes w64 high
    → put_mid 8 8 (front ++ 0 ∷ 0 ∷ 0 ∷ 0 ∷ 0 ∷ 0 ∷ 0 ∷ 0 ∷ []) back ≡ page_bytes (low ∷ high ∷ [])
unfolding page_bytes
two_words low high front back is_front is_back =
    ap (λ (f : List ℕ). put_mid 8 8 (f ++ 0 ∷ 0 ∷ 0 ∷ 0 ∷ 0 ∷ 0 ∷ 0 ∷ 0 ∷ []) back) is_front
    ∙ ap (λ (b : List ℕ). to_le_bytes w64 low ++ b) (append-nil back ∙ is_back ∙ sym (append-nil (to_le_bytes w64 high)))

-- an entry in use
pub in_use : (words first third tag : List ℕ) (asid : ℕ) → length words ≡ 8 → AreWords words
    → first ≡ to_le_bytes w64 (get_or words 0 0) → third ≡ to_le_bytes w64 (get_or words 2 0)
    → asid ≡ from_le_bytes w16 (get_or first 4 0 ∷ get_or first 5 0 ∷ []) → tag ≡ page_bytes (get_or words 4 0 ∷ get_or words 5 0 ∷ [])
    → get_or first 0 0 ≡ 1
    → Some (record {
      kind = get_or first 1 0;
      vmsa = not (get_or first 2 0 == 0);
      validated = not (get_or first 3 0 == 0);
      asid = asid;
      gpn = get_or words 1 0;
      perms = get_or third 0 0 ∷ get_or third 1 0 ∷ get_or third 2 0 ∷ get_or third 3 0 ∷ [];
      iv = get_or words 3 0;
      tag = tag;
    }) ≡ entry_from (page_bytes words)
unfolding entry_from page_bytes
in_use (a ∷ b ∷ c ∷ d ∷ e ∷ f ∷ g ∷ h ∷ []) first third tag asid long are is_first is_third is_asid is_tag first_is =
    (λ i. Some (record {
      kind = get_or (is_first i) 1 0;
      vmsa = not (get_or (is_first i) 2 0 == 0);
      validated = not (get_or (is_first i) 3 0 == 0);
      asid = (is_asid ∙ ap (λ (l : List ℕ). from_le_bytes w16 (get_or l 4 0 ∷ get_or l 5 0 ∷ [])) is_first) i;
      gpn = sym (from_le_bytes-to_le_bytes_8 b (are 1)) i;
      perms = get_or (is_third i) 0 0 ∷ get_or (is_third i) 1 0 ∷ get_or (is_third i) 2 0 ∷ get_or (is_third i) 3 0 ∷ [];
      iv = sym (from_le_bytes-to_le_bytes_8 d (are 3)) i;
      tag = is_tag i;
    }))
    ∙ sym (cond-true _ _ _ (eq-eqb (a % 256) 1 (sym (ap (λ (l : List ℕ). get_or l 0 0) is_first) ∙ first_is)))
in_use words first third tag asid long are is_first is_third is_asid is_tag first_is = absurd (omega arith)

-- the words of an entry
pub words_are : (kind asid gpn iv vmsa_byte validated_byte first third low high : ℕ) (vmsa validated : Bool) (perms tag asid_bytes : List ℕ)
    → length perms ≡ 4 → length tag ≡ 16 → gpn < 2 ^ 64 → iv < 2 ^ 64
    → asid_bytes ≡ to_le_bytes w16 asid → vmsa_byte ≡ flag_byte vmsa → validated_byte ≡ flag_byte validated
    → first ≡ from_le_bytes w64 (1 ∷ kind ∷ vmsa_byte ∷ validated_byte ∷ get_or asid_bytes 0 0 ∷ get_or asid_bytes 1 0 ∷ 0 ∷ 0 ∷ [])
    → third ≡ from_le_bytes w64 (get_or perms 0 0 ∷ get_or perms 1 0 ∷ get_or perms 2 0 ∷ get_or perms 3 0 ∷ 0 ∷ 0 ∷ 0 ∷ 0 ∷ [])
    → low ≡ from_le_bytes w64 (take 8 tag) → high ≡ from_le_bytes w64 (take 8 (drop 8 tag))
    → first ∷ gpn ∷ third ∷ iv ∷ low ∷ high ∷ 0 ∷ 0 ∷ []
    ≡ words_of_bytes (entry_bytes (record { kind = kind; vmsa = vmsa; validated = validated; asid = asid; gpn = gpn; perms = perms; iv = iv; tag = tag }))
unfolding entry_bytes words_of_bytes first_words
words_are kind asid gpn iv vmsa_byte validated_byte first third low high vmsa validated (a ∷ b ∷ c ∷ d ∷ []) (e ∷ f ∷ g ∷ h ∷ i ∷ j ∷ k ∷ l ∷ m ∷ n ∷ o ∷ p ∷ q ∷ r ∷ s ∷ t ∷ []) asid_bytes four sixteen low_gpn low_iv is_asid is_vmsa is_validated is_first is_third is_low is_high =
    let flags : from_le_bytes w64 (1 ∷ kind ∷ vmsa_byte ∷ validated_byte ∷ get_or asid_bytes 0 0 ∷ get_or asid_bytes 1 0 ∷ 0 ∷ 0 ∷ [])
    ≡ from_le_bytes w64 (1 ∷ kind ∷ flag_byte vmsa ∷ flag_byte validated ∷ asid % 256 ∷ asid / 256 ^ 1 % 256 ∷ 0 ∷ 0 ∷ []) = λ z.
    from_le_bytes w64 (1 ∷ kind ∷ is_vmsa z ∷ is_validated z ∷ get_or (is_asid z) 0 0 ∷ get_or (is_asid z) 1 0 ∷ 0 ∷ 0 ∷ []) in λ z.
    (is_first ∙ flags) z ∷ sym (from_le_bytes-to_le_bytes_8 gpn low_gpn) z ∷ is_third z ∷ sym (from_le_bytes-to_le_bytes_8 iv low_iv) z ∷ is_low z ∷ is_high z ∷ 0 ∷ 0 ∷ []
words_are _ _ _ _ _ _ _ _ _ _ _ _ perms tag _ four sixteen _ _ _ _ _ _ _ _ _ = absurd (omega arith)
