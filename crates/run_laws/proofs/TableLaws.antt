-- The entries of a metadata page after one of them was set, and whose they are.
use Rattle.std.proofs.Common.{◌≡◌, ◌≢◌, ℕ, ◌*◌, ◌<◌, ◌≤◌, Bool, true, false, List, length, take, Option, Some, None, refl, sym, ap, ◌∙◌, ⊎_elim, arith}
use Rattle.std.proofs.lemmas.Bool.{cases_lt, eqb-true, true≢false}
use Rattle.std.proofs.lemmas.List.{drop_all}
use Rattle.snp_model.specs.declared.firmware.MetaEntry.{MetaEntry}
use Rattle.snp_model.specs.Measurement.{page_bytes}
use Rattle.snp_model.specs.Metadata.{IsMetaEntry, entry_from, slot, entry_at, with_entry, cleared, is_owned, owned}
use Rattle.snp_model.proofs.MetadataLaws.{slot-with_entry_other, slot-cleared_other, owned_not}

-- past the page's 64 entries there is none
pub entry_past : (words : List ℕ) (number : ℕ) → length words ≡ 512 → 64 ≤ number → entry_at words number ≡ None
unfolding entry_at slot page_bytes entry_from
entry_past words number long past = ap (λ (rest : List ℕ). entry_from (page_bytes (take 8 rest))) (drop_all (8 * number) words (omega arith))

-- another entry than the one that was set stays
pub entry_at-with_other : (words : List ℕ) (number other : ℕ) (entry : MetaEntry) → IsMetaEntry entry → length words ≡ 512 → number < 64 → other ≢ number
    → entry_at (with_entry words number entry) other ≡ entry_at words other
unfolding entry_at
entry_at-with_other words number other entry is long below apart =
    ap (λ (eight : List ℕ). entry_from (page_bytes eight)) (slot-with_entry_other words number other entry is.perms_count is.tag_count long below apart)

pub entry_at-cleared_other : (words : List ℕ) (number other : ℕ) → length words ≡ 512 → number < 64 → other ≢ number → entry_at (cleared words number) other ≡ entry_at words other
unfolding entry_at
entry_at-cleared_other words number other long below apart = ap (λ (eight : List ℕ). entry_from (page_bytes eight)) (slot-cleared_other words number other long below apart)

-- an entry in use of a page that is owned
not_owned : (b : Bool) → (b ≡ false → ⊥) → b ≡ true
not_owned true h = refl
not_owned false h = absurd (h refl)

in_use_owned : (asid : ℕ) (entry : Option MetaEntry) (x : MetaEntry) → is_owned asid entry ≡ true → entry ≡ Some x → x.asid ≡ asid
in_use_owned asid None x owns is = absurd (cc)
in_use_owned asid (Some y) x owns is =
    let same : y ≡ x = cc in
    ap (λ (z : MetaEntry). z.asid) (sym same) ∙ eqb-true y.asid asid owns

pub owned_use : (asid : ℕ) (words : List ℕ) (number : ℕ) (x : MetaEntry) → length words ≡ 512 → owned words asid ≡ true → entry_at words number ≡ Some x → x.asid ≡ asid
owned_use asid words number x long all is =
    ⊎_elim
    (λ (low : number < 64). in_use_owned asid (entry_at words number) x (not_owned (is_owned asid (entry_at words number)) (λ other. true≢false (sym all ∙ owned_not words asid number low other))) is)
    (λ (past : 64 ≤ number).
    let none : None ≡ Some x = sym (entry_past words number long past) ∙ is in
    absurd (cc))
    (cases_lt number 64)
