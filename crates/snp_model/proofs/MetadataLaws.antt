-- What is written to an entry of a metadata page stands there, and the other entries stay.
use Rattle.std.proofs.Common.{◌≡◌, ◌≢◌, ℕ, zero, suc, ◌+◌, ◌*◌, ◌%◌, ◌^◌, ◌<◌, ◌≤◌, ◌==◌, Bool, true, false, not, ◌&&◌, ◌||◌, cond, IfSome, List, [], ◌∷◌, ◌++◌, length, get_or, take, drop, replicate, Option, Some, None, refl, sym, ap, ◌∙◌, inl, inr, arith, length-append, length-drop, drop-drop, drop-cons}
use Rattle.std.specs.Int.{w16, w64, to_le_bytes, from_le_bytes}
use Rattle.std.proofs.lemmas.List.{drop-take, length-take, get_or-take, get_or-drop}
use Rattle.std.proofs.lemmas.Grind.{same_number_lists}
use Rattle.std.proofs.lemmas.Nat.{from_le_bytes-to_le_bytes_2, from_le_bytes-to_le_bytes_8}
use Rattle.std.proofs.lemmas.Slice.{take-put_mid_below, take-put_mid, drop-put_mid}
use Rattle.std.specs.List.{list_all, range_with_len}
use Rattle.std.proofs.lemmas.Bool.{cases_eq, cases_lt, eq-eqb, eqb-true}
use Rattle.std.proofs.Math.Bool.{and-false}
use borrow.Rule.Slice.PartMut.{put_mid}
use Rattle.std.proofs.Math.Seq.{drop-append_seam, take-append_seam}
use Rattle.snp_model.specs.declared.firmware.MetaEntry.{MetaEntry}
use Rattle.snp_model.specs.Measurement.{page_bytes}
use Rattle.snp_model.specs.Metadata.{AreBytes, IsMetaEntry, cleared, entry_at, entry_bytes, entry_from, flag_byte, is_owned, owned, slot, with_entry, with_slot, words_of_bytes}
use Rattle.snp_model.proofs.PageBytesLaws.{are_both, are_short, are_word, are_zeros, length-words_of_bytes, page_bytes-words_of_bytes}

-- ---- the eight words of an entry

pub length-slot : (words : List ℕ) (number : ℕ) → 8 * number + 8 ≤ length words → length (slot words number) ≡ 8
unfolding slot
length-slot words number room = simp (length-take, length-drop) (omega arith)

-- they are made one by one
pub slot_of : (words new : List ℕ) (number : ℕ) → 8 * number + 8 ≤ length words → length new ≡ 8 → ((k : ℕ) → k < 8 → get_or new k 0 ≡ get_or words (8 * number + k) 0) → new ≡ slot words number
unfolding slot
slot_of words new number room long same =
    same_number_lists new (slot words number) (long ∙ sym (length-slot words number room))
    (λ k h. same k (omega arith) ∙ sym (get_or-take 8 (drop (8 * number) words) k 0 (omega arith) ∙ get_or-drop (8 * number) words k 0))

-- the first of them
pub slot_first : (words : List ℕ) (number : ℕ) → 8 * number < length words → slot words number ≡ get_or words (8 * number) 0 ∷ take 7 (drop (suc (8 * number)) words)
unfolding slot
slot_first words number room = ap (take 8) (drop-cons words (8 * number) 0 room)

-- as std writes it
as_put_mid : (words : List ℕ) (number : ℕ) (new : List ℕ) → with_slot words number new ≡ put_mid (8 * number) 8 words new
unfolding with_slot
as_put_mid words number new = ap (λ (rest : List ℕ). take (8 * number) words ++ (new ++ rest)) (sym (drop-drop 8 (8 * number) words ∙ ap (λ (n : ℕ). drop n words) (omega arith)))

-- those that were written
pub slot-with_slot : (words : List ℕ) (number : ℕ) (new : List ℕ) → 8 * number + 8 ≤ length words → length new ≡ 8 → slot (with_slot words number new) number ≡ new
unfolding slot
slot-with_slot words number new room long =
    let front : length (take (8 * number) words) ≡ 8 * number = length-take (8 * number) words ∙ omega arith in
    ap (λ (page : List ℕ). take 8 (drop (8 * number) page)) (as_put_mid words number new)
    ∙ sym (drop-take (8 * number) 8 _)
    ∙ ap (drop (8 * number)) (take-put_mid (8 * number) 8 words new (8 * number + 8) (omega arith) (omega arith))
    ∙ ap (λ (n : ℕ). drop n (take (8 * number) words ++ new)) (sym front)
    ∙ drop-append_seam (take (8 * number) words) new

-- those of another entry
pub slot-with_slot_other : (words : List ℕ) (number other : ℕ) (new : List ℕ) → 8 * number + 8 ≤ length words → length new ≡ 8 → other ≢ number → slot (with_slot words number new) other ≡ slot words other
unfolding slot
slot-with_slot_other words number other new room long apart =
    ap (λ (page : List ℕ). take 8 (drop (8 * other) page)) (as_put_mid words number new)
    ∙ elim (cases_lt other number) [
      | inl below ↦
          sym (drop-take (8 * other) 8 _)
          ∙ ap (drop (8 * other)) (take-put_mid_below (8 * number) 8 words new (8 * other + 8) (omega (arith, below)) (omega arith))
          ∙ drop-take (8 * other) 8 words
      | inr past ↦ ap (take 8) (drop-put_mid (8 * number) 8 words new (8 * other) (omega (arith, past, apart)) (omega arith) long)
    ]

pub length-with_slot : (words : List ℕ) (number : ℕ) (new : List ℕ) → 8 * number + 8 ≤ length words → length new ≡ 8 → length (with_slot words number new) ≡ length words
unfolding with_slot
length-with_slot words number new room long = simp (length-append, length-take, length-drop) (omega arith)

-- ---- the fields of an entry

flag-flag_byte : (flag : Bool) → not (flag_byte flag == 0) ≡ flag
flag-flag_byte true = refl
flag-flag_byte false = refl

fields-bytes : (kind asid gpn iv : ℕ) (vmsa validated : Bool) (perms tag : List ℕ) → asid < 2 ^ 16 → gpn < 2 ^ 64 → iv < 2 ^ 64 → length perms ≡ 4 → length tag ≡ 16
    → let entry : MetaEntry = record { kind = kind; vmsa = vmsa; validated = validated; asid = asid; gpn = gpn; perms = perms; iv = iv; tag = tag } in entry_from (entry_bytes entry) ≡ Some entry
unfolding entry_from entry_bytes
fields-bytes kind asid gpn iv vmsa validated (a ∷ b ∷ c ∷ d ∷ []) tag low_asid low_gpn low_iv four sixteen = λ i.
    Some (record {
      kind = kind;
      vmsa = flag-flag_byte vmsa i;
      validated = flag-flag_byte validated i;
      asid = from_le_bytes-to_le_bytes_2 asid low_asid i;
      gpn = from_le_bytes-to_le_bytes_8 gpn low_gpn i;
      perms = a ∷ b ∷ c ∷ d ∷ [];
      iv = from_le_bytes-to_le_bytes_8 iv low_iv i;
      tag = front i;
    })
  where
    front : take 16 (tag ++ replicate 16 0) ≡ tag
    front = ap (λ (n : ℕ). take n (tag ++ replicate 16 0)) (sym sixteen) ∙ take-append_seam tag (replicate 16 0)
fields-bytes kind asid gpn iv vmsa validated perms tag low_asid low_gpn low_iv four sixteen = absurd (omega arith)

-- an entry that was written is read
pub entry_from-entry_bytes : (entry : MetaEntry) → IsMetaEntry entry → entry_from (entry_bytes entry) ≡ Some entry
entry_from-entry_bytes entry is =
    fields-bytes entry.kind entry.asid entry.gpn entry.iv entry.vmsa entry.validated entry.perms entry.tag is.asid is.gpn is.iv is.perms_count is.tag_count

-- what is written of an entry is 64 bytes
pub length-entry_bytes : (entry : MetaEntry) → length entry.perms ≡ 4 → length entry.tag ≡ 16 → length (entry_bytes entry) ≡ 64
unfolding entry_bytes
length-entry_bytes entry four sixteen = simp (length-append, four, sixteen)

small-flag_byte : (flag : Bool) → flag_byte flag < 256
small-flag_byte true = omega arith
small-flag_byte false = omega arith

first_bytes : (kind : ℕ) (vmsa validated : Bool) → kind < 256 → AreBytes (1 ∷ kind ∷ flag_byte vmsa ∷ flag_byte validated ∷ [])
first_bytes kind vmsa validated small zero = omega arith
first_bytes kind vmsa validated small (suc zero) = small
first_bytes kind vmsa validated small (suc (suc zero)) = small-flag_byte vmsa
first_bytes kind vmsa validated small (suc (suc (suc zero))) = small-flag_byte validated
first_bytes kind vmsa validated small (suc (suc (suc (suc i)))) = omega arith

pub bytes-entry_bytes : (entry : MetaEntry) → IsMetaEntry entry → AreBytes (entry_bytes entry)
unfolding entry_bytes
bytes-entry_bytes entry is =
    let first : List ℕ = 1 ∷ entry.kind ∷ flag_byte entry.vmsa ∷ flag_byte entry.validated ∷ [] in
    let to_asid = first ++ to_le_bytes w16 entry.asid ++ replicate 2 0 in
    let to_perms = to_asid ++ to_le_bytes w64 entry.gpn ++ entry.perms in
    let to_iv = to_perms ++ replicate 4 0 ++ to_le_bytes w64 entry.iv in
    are_both (to_iv ++ entry.tag) (replicate 16 0)
    (are_both to_iv entry.tag
    (are_both (to_perms ++ replicate 4 0) (to_le_bytes w64 entry.iv)
    (are_both to_perms (replicate 4 0)
    (are_both (to_asid ++ to_le_bytes w64 entry.gpn) entry.perms
    (are_both to_asid (to_le_bytes w64 entry.gpn)
    (are_both (first ++ to_le_bytes w16 entry.asid) (replicate 2 0)
    (are_both first (to_le_bytes w16 entry.asid) (first_bytes entry.kind entry.vmsa entry.validated is.kind) (are_short entry.asid))
    (are_zeros 2))
    (are_word entry.gpn))
    is.perms)
    (are_zeros 4))
    (are_word entry.iv))
    is.tag)
    (are_zeros 16)

-- ---- the entries of a page

-- the entry that was written is in use
pub entry_at-with_entry : (words : List ℕ) (number : ℕ) (entry : MetaEntry) → IsMetaEntry entry → length words ≡ 512 → number < 64 → entry_at (with_entry words number entry) number ≡ Some entry
unfolding entry_at with_entry
entry_at-with_entry words number entry is long below =
    let count : length (entry_bytes entry) ≡ 64 = length-entry_bytes entry is.perms_count is.tag_count in
    ap (λ (words : List ℕ). entry_from (page_bytes words)) (slot-with_slot words number (words_of_bytes (entry_bytes entry)) (omega arith) (length-words_of_bytes 8 (entry_bytes entry) count))
    ∙ ap entry_from (page_bytes-words_of_bytes 8 (entry_bytes entry) count (bytes-entry_bytes entry is))
    ∙ entry_from-entry_bytes entry is

-- the entry that was cleared isn't
pub entry_at-cleared : (words : List ℕ) (number : ℕ) → length words ≡ 512 → number < 64 → entry_at (cleared words number) number ≡ None
unfolding entry_at cleared entry_from page_bytes
entry_at-cleared words number long below =
    ap (λ (words : List ℕ). entry_from (page_bytes words)) (slot-with_slot words number (replicate 8 0) (omega arith) refl)

-- and the words of every other entry stay
pub slot-with_entry_other : (words : List ℕ) (number other : ℕ) (entry : MetaEntry) → length entry.perms ≡ 4 → length entry.tag ≡ 16 → length words ≡ 512 → number < 64 → other ≢ number → slot (with_entry words number entry) other ≡ slot words other
unfolding with_entry
slot-with_entry_other words number other entry four sixteen long below apart =
    slot-with_slot_other words number other (words_of_bytes (entry_bytes entry)) (omega arith) (length-words_of_bytes 8 (entry_bytes entry) (length-entry_bytes entry four sixteen)) apart

pub slot-cleared_other : (words : List ℕ) (number other : ℕ) → length words ≡ 512 → number < 64 → other ≢ number → slot (cleared words number) other ≡ slot words other
unfolding cleared
slot-cleared_other words number other long below apart = slot-with_slot_other words number other (replicate 8 0) (omega arith) refl apart

-- ---- whose entries they are

-- each of some numbers passes a test, or one of them doesn't
list_all-range : (test : ℕ → Bool) (a n : ℕ) → ((k : ℕ) → a ≤ k → k < a + n → test k ≡ true) → list_all test (range_with_len a n) ≡ true
list_all-range test a zero each = refl
list_all-range test a (suc n) each =
    ap (λ (b : Bool). b && list_all test (range_with_len (a + 1) n)) (each a (omega arith) (omega arith))
    ∙ list_all-range test (a + 1) n (λ k low high. each k (omega arith) (omega arith))

list_all-not : (test : ℕ → Bool) (a n k : ℕ) → a ≤ k → k < a + n → test k ≡ false → list_all test (range_with_len a n) ≡ false
list_all-not test a zero k low high fails = absurd (omega arith)
list_all-not test a (suc n) k low high fails = elim (cases_eq a k) [
  | inl here ↦ ap (λ (b : Bool). b && list_all test (range_with_len (a + 1) n)) (ap test here ∙ fails)
  | inr past ↦ ap (λ (b : Bool). test a && b) (list_all-not test (a + 1) n k (omega (arith, past)) (omega arith) fails) ∙ and-false (test a)
]

-- the entries in use of a page have an ASID where each of them has it, and don't where one has another
pub owned_all : (words : List ℕ) (asid : ℕ) → ((number : ℕ) → number < 64 → is_owned asid (entry_at words number) ≡ true) → owned words asid ≡ true
unfolding owned
owned_all words asid each = list_all-range (λ number. is_owned asid (entry_at words number)) 0 64 (λ number low high. each number (omega arith))

pub owned_not : (words : List ℕ) (asid number : ℕ) → number < 64 → is_owned asid (entry_at words number) ≡ false → owned words asid ≡ false
unfolding owned
owned_not words asid number below other = list_all-not (λ number. is_owned asid (entry_at words number)) 0 64 number (omega arith) (omega arith) other

-- an entry has an ASID, if it is in use
pub owned_entry : (asid : ℕ) (entry : Option MetaEntry) → is_owned asid entry ≡ true → IfSome entry (λ x. x.asid ≡ asid)
owned_entry asid None is = tt
owned_entry asid (Some entry) is = eqb-true entry.asid asid is

pub entry_owned : (asid : ℕ) (entry : Option MetaEntry) → IfSome entry (λ x. x.asid ≡ asid) → is_owned asid entry ≡ true
entry_owned asid None is = refl
entry_owned asid (Some entry) is = eq-eqb entry.asid asid is

-- an entry in use is tested, and no other
by_use : (asid : ℕ) (in_use : Bool) (entry : MetaEntry) → (not in_use || (entry.asid == asid)) ≡ is_owned asid (cond in_use (Some entry) None)
by_use asid true entry = refl
by_use asid false entry = refl

-- the first word of an entry tells
pub owned_by_first : (asid first own : ℕ) (rest bytes : List ℕ) → bytes ≡ to_le_bytes w64 first → own ≡ from_le_bytes w16 (get_or bytes 4 0 ∷ get_or bytes 5 0 ∷ [])
    → (not (get_or bytes 0 0 == 1) || (own == asid)) ≡ is_owned asid (entry_from (page_bytes (first ∷ rest)))
unfolding entry_from page_bytes
owned_by_first asid first own rest bytes is is_own =
    (λ z. not (get_or (is z) 0 0 == 1) || ((is_own ∙ ap (λ (bytes : List ℕ). from_le_bytes w16 (get_or bytes 4 0 ∷ get_or bytes 5 0 ∷ [])) is) z == asid))
    ∙ by_use asid (first % 256 == 1) _

pub owned_at : (words : List ℕ) (asid number : ℕ) (answer : Bool) → length words ≡ 512 → number < 64
    → ((rest : List ℕ) → answer ≡ is_owned asid (entry_from (page_bytes (get_or words (8 * number) 0 ∷ rest)))) → answer ≡ is_owned asid (entry_at words number)
unfolding entry_at
owned_at words asid number answer long below each =
    each (take 7 (drop (suc (8 * number)) words))
    ∙ ap (λ (eight : List ℕ). is_owned asid (entry_from (page_bytes eight))) (sym (slot_first words number (omega arith)))
