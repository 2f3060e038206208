-- The words of an entry are written one by one.
use Rattle.std.proofs.Common.{◌≡◌, ◌≢◌, ℕ, suc, ◌+◌, ◌-◌, ◌*◌, ◌<◌, ◌≤◌, List, [], ◌∷◌, ◌++◌, length, get_or, set, take, drop, Some, None, sym, ap, ◌∙◌, arith, append_assoc}
use Rattle.std.proofs.lemmas.List.{length-take, set-append_right, take_all, take_more, set-get_or, take-append-drop, get_or-set_same, set-set}
use Rattle.std.proofs.Math.Seq.{drop-cons}
use Rattle.snp_model.specs.declared.firmware.MetaEntry.{MetaEntry}
use Rattle.snp_model.specs.Metadata.{IsMetaEntry, cleared, entry_at, slot, with_entry, with_slot}
use Rattle.snp_model.specs.RegionWords.{IsRegion, page_at, page_set, word_set}
use Rattle.snp_model.proofs.MetadataLaws.{entry_at-cleared, entry_at-with_entry, slot-cleared_other, slot-with_entry_other}

-- a page of which the first words of an entry are written
abbrev pub partly : List ℕ → ℕ → List ℕ → ℕ → List ℕ
partly words number new i = take (8 * number) words ++ (take i new ++ drop (8 * number + i) words)

-- none is written
pub partly_none : (words : List ℕ) (number : ℕ) (new : List ℕ) → partly words number new 0 ≡ words
partly_none words number new = ap (λ (n : ℕ). take (8 * number) words ++ drop n words) (omega arith) ∙ take-append-drop (8 * number) words

-- all are written
pub partly_all : (words : List ℕ) (number : ℕ) (new : List ℕ) → length new ≡ 8 → partly words number new 8 ≡ with_slot words number new
unfolding with_slot
partly_all words number new long = ap (λ (front : List ℕ). take (8 * number) words ++ (front ++ drop (8 * number + 8) words)) (take_all 8 new (omega arith))

-- one more is written
pub partly_more : (words : List ℕ) (number : ℕ) (new : List ℕ) (i : ℕ) → 8 * number + 8 ≤ length words → length new ≡ 8 → i < 8
    → set (partly words number new i) (8 * number + i) (get_or new i 0) ≡ partly words number new (i + 1)
partly_more words number new i room long below =
    let front : length (take (8 * number) words) ≡ 8 * number = length-take (8 * number) words ∙ omega arith in
    let done : length (take i new) ≡ i = length-take i new ∙ omega arith in
    let e : 8 * number + i - 8 * number ≡ i = omega arith in
    let z : i - i ≡ 0 = omega arith in
    let past : suc (8 * number + i) ≡ 8 * number + (i + 1) = omega arith in
    let rest : drop (8 * number + i) words ≡ get_or words (8 * number + i) 0 ∷ drop (suc (8 * number + i)) words = drop-cons words (8 * number + i) 0 (omega arith) in
    set-append_right (take (8 * number) words) (take i new ++ drop (8 * number + i) words) (8 * number) (8 * number + i) (get_or new i 0) front (omega arith)
    ∙ ap (λ (k : ℕ). take (8 * number) words ++ set (take i new ++ drop (8 * number + i) words) k (get_or new i 0)) e
    ∙ ap (λ (back : List ℕ). take (8 * number) words ++ back)
    (set-append_right (take i new) (drop (8 * number + i) words) i i (get_or new i 0) done (omega arith)
    ∙ ap (λ (k : ℕ). take i new ++ set (drop (8 * number + i) words) k (get_or new i 0)) z
    ∙ ap (λ (back : List ℕ). take i new ++ set back 0 (get_or new i 0)) rest
    ∙ sym (append_assoc (take i new) (get_or new i 0 ∷ []) (drop (suc (8 * number + i)) words))
    ∙ ap (λ (front : List ℕ). front ++ drop (suc (8 * number + i)) words) (sym (take_more new i 0 (omega arith)))
    ∙ ap (λ (k : ℕ). take (i + 1) new ++ drop k words) past)

-- the same in a region
pub region_none : (pages : List (List ℕ)) (page number : ℕ) (new : List ℕ) → pages ≡ page_set pages page (partly (page_at pages page) number new 0)
region_none pages page number new = sym (ap (page_set pages page) (partly_none (page_at pages page) number new) ∙ set-get_or pages page [])

pub region_more : (pages : List (List ℕ)) (page number : ℕ) (new : List ℕ) (i value : ℕ) → page < length pages → 8 * number + 8 ≤ length (page_at pages page) → length new ≡ 8 → i < 8 → value ≡ get_or new i 0
    → word_set (page_set pages page (partly (page_at pages page) number new i)) page (8 * number + i) value ≡ page_set pages page (partly (page_at pages page) number new (i + 1))
region_more pages page number new i value inside room long below is =
    let words = page_at pages page in
    ap (λ (p : List ℕ). set (set pages page (partly words number new i)) page (set p (8 * number + i) value)) (get_or-set_same pages page (partly words number new i) [] inside)
    ∙ ap (λ (v : ℕ). set (set pages page (partly words number new i)) page (set (partly words number new i) (8 * number + i) v)) is
    ∙ ap (λ (p : List ℕ). set (set pages page (partly words number new i)) page p) (partly_more words number new i room long below)
    ∙ set-set pages page _ _

pub region_all : (pages : List (List ℕ)) (page number : ℕ) (new : List ℕ) → length new ≡ 8 → page_set pages page (partly (page_at pages page) number new 8) ≡ page_set pages page (with_slot (page_at pages page) number new)
region_all pages page number new long = ap (page_set pages page) (partly_all (page_at pages page) number new long)

-- ---- a page of which an entry is set, or cleared

set_there : (old new : List (List ℕ)) (page : ℕ) (words : List ℕ) → IsRegion old → page < 512 → new ≡ page_set old page words → page_at new page ≡ words
set_there old new page words is inside changed =
    ap (λ (pages : List (List ℕ)). page_at pages page) changed ∙ get_or-set_same old page words [] (omega (arith, is.pages_count))

pub entry_set : (old new : List (List ℕ)) (page number : ℕ) (entry : MetaEntry) → IsRegion old → page < 512 → number < 64 → IsMetaEntry entry → new ≡ page_set old page (with_entry (page_at old page) number entry)
    → entry_at (page_at new page) number ≡ Some entry
entry_set old new page number entry is inside below fits changed =
    ap (λ (words : List ℕ). entry_at words number) (set_there old new page _ is inside changed) ∙ entry_at-with_entry (page_at old page) number entry fits (is.words_count page inside) below

pub others_set : (old new : List (List ℕ)) (page number other : ℕ) (entry : MetaEntry) → IsRegion old → page < 512 → number < 64 → IsMetaEntry entry → other ≢ number → new ≡ page_set old page (with_entry (page_at old page) number entry)
    → slot (page_at new page) other ≡ slot (page_at old page) other
others_set old new page number other entry is inside below fits apart changed =
    ap (λ (words : List ℕ). slot words other) (set_there old new page _ is inside changed) ∙ slot-with_entry_other (page_at old page) number other entry fits.perms_count fits.tag_count (is.words_count page inside) below apart

pub entry_cleared : (old new : List (List ℕ)) (page number : ℕ) → IsRegion old → page < 512 → number < 64 → new ≡ page_set old page (cleared (page_at old page) number)
    → entry_at (page_at new page) number ≡ None
entry_cleared old new page number is inside below changed =
    ap (λ (words : List ℕ). entry_at words number) (set_there old new page _ is inside changed) ∙ entry_at-cleared (page_at old page) number (is.words_count page inside) below

pub others_cleared : (old new : List (List ℕ)) (page number other : ℕ) → IsRegion old → page < 512 → number < 64 → other ≢ number → new ≡ page_set old page (cleared (page_at old page) number)
    → slot (page_at new page) other ≡ slot (page_at old page) other
others_cleared old new page number other is inside below apart changed =
    ap (λ (words : List ℕ). slot words other) (set_there old new page _ is inside changed) ∙ slot-cleared_other (page_at old page) number other (is.words_count page inside) below apart
