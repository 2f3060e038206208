-- What a compute makes is as it has to be until the commit: at once, what is sealed is the seal of what the source has, and what is opened is what was archived.
use Rattle.std.proofs.Common.{◌≡◌, ℕ, true, List, Option, Some, None, Result, Ok, Err, refl, sym, ap, ◌∙◌, subst}
use Rattle.std.specs.Prelude.{bytes_eq}
use Rattle.snp_model.specs.declared.event.FwRefusal.{FwRefusal}
use Rattle.snp_model.specs.declared.firmware.MetaEntry.{MetaEntry}
use Rattle.snp_model.specs.Live.{Archived, Vault}
use Rattle.snp_model.specs.Metadata.{AreBytes, found_tag, opened_words, opened}
use Rattle.snp_model.specs.Premises.{IsCipherOf, IsOpenedWith}
use Rattle.snp_model.specs.Sealing.{What, Slot, SealOut, SealIn, slot_entry, opens_as, opened_with, opened_as, compute_of}
use Rattle.snp_model.specs.State.{Context, Contents, Computed}
use Rattle.snp_model.proofs.SoundLaws.{guard_ok}
use Rattle.run_laws.specs.MadePages.{IsSealNow, AreWordsOf, IsOpenedNow}
use Rattle.run_laws.specs.Uniqueness.{HasArchive}
use Rattle.run_laws.proofs.SealLaws.{opened_sealed}

-- a page that was sealed
pub compute_sealed : (contents : Contents) (what : What) (owner source target : ℕ) (slot : Slot) (made : Computed)
    → compute_of contents (SealOut what owner source target slot) ≡ Ok made → IsSealNow contents (contents.pages source).words what owner source made
unfolding compute_of
compute_sealed contents what owner source target slot made is = record { seals = cc; taken_are = refl }

-- what was opened with an entry
pub record IsOpening (what : What) (context : Context) (found : Option MetaEntry) (words : List ℕ) (made : Computed) : Type 0 where
  pub entry : MetaEntry
  pub in_use : found ≡ Some entry
  pub entry_is : made.entry ≡ Some entry
  pub passes : opens_as what context.asid made.words ≡ true
  pub words_are : made.words ≡ opened_words context.key entry words

taken_words : (what : What) (asid : ℕ) (entry : MetaEntry) (answer : Result (List ℕ) FwRefusal) (made : Computed) → opened_with what asid entry answer ≡ Ok made
    → (words : List ℕ) × (answer ≡ Ok words) × (opens_as what asid words ≡ true) × (made ≡ record { words = words; entry = Some entry })
unfolding opened_with
taken_words what asid entry (Ok words) made is =
    let step = guard_ok (opens_as what asid words) _ made _ is in
    (words, refl, step.0, sym step.1)
taken_words what asid entry (Err refusal) made is = absurd (cc)

opened_is : (context : Context) (entry : MetaEntry) (words found : List ℕ) → opened context entry words ≡ Ok found → found ≡ opened_words context.key entry words
unfolding opened
opened_is context entry words found is = sym (guard_ok (bytes_eq (found_tag context.key entry words) entry.tag) (opened_words context.key entry words) found _ is).1

pub compute_opening : (what : What) (context : Context) (found : Option MetaEntry) (words : List ℕ) (made : Computed) → opened_as what context found words ≡ Ok made → IsOpening what context found words made
unfolding opened_as
compute_opening what context None words made is = absurd (cc)
compute_opening what context (Some entry) words made is =
    let taken = taken_words what context.asid entry (opened context entry words) made is in
    let same : made.words ≡ taken.0 = ap (λ (m : Computed). m.words) taken.3 in
    record {
      entry = entry;
      in_use = refl;
      entry_is = ap (λ (m : Computed). m.entry) taken.3;
      passes = ap (opens_as what context.asid) same ∙ taken.2;
      words_are = same ∙ opened_is context entry words taken.0 taken.1;
    }

-- where the words that are opened are those of the entry's ciphertext, what comes out was archived
archived_again : (vault : Vault) (entry : MetaEntry) (words made : List ℕ) → AreBytes vault.context.key → HasArchive vault entry → IsCipherOf (vault.archive entry.iv) words
    → made ≡ opened_words vault.context.key entry words → AreWordsOf (vault.archive entry.iv) made
archived_again vault entry words made keys has cipher is =
    let key = vault.context.key in
    let same : words ≡ has.archived.cipher = subst (λ (kept : Option Archived). IsCipherOf kept words) has.kept cipher in
    let back : made ≡ has.archived.words =
    is ∙ ap (opened_words key entry) (same ∙ has.seals.cipher) ∙ opened_sealed key entry has.archived.words keys has.seals.full.fits in
    subst (λ (kept : Option Archived). AreWordsOf kept made) (sym has.kept) back

-- a page that was opened, for a guest whose vault this is, where no ciphertext meets the tag of another
pub compute_opened : (guest : ℕ) (contents : Contents) (vault : Vault) (what : What) (owner source target : ℕ) (slot : Slot) (made : Computed)
    → (guest ≡ owner → vault.context ≡ contents.contexts owner) → AreBytes vault.context.key
    → (guest ≡ owner → (entry : MetaEntry) → slot_entry contents.pages (contents.contexts owner) slot ≡ Some entry → HasArchive vault entry)
    → (guest ≡ owner → IsOpenedWith vault.archive (slot_entry contents.pages (contents.contexts owner) slot) (contents.pages source).words)
    → compute_of contents (SealIn what owner source target slot) ≡ Ok made → IsOpenedNow guest contents vault.archive what owner slot made
unfolding compute_of
compute_opened guest contents vault what owner source target slot made own keys archives chance is =
    let found = slot_entry contents.pages (contents.contexts owner) slot in
    let words = (contents.pages source).words in
    let one = compute_opening what (contents.contexts owner) found words made is in
    record {
      entry = one.entry;
      entry_is = one.entry_is;
      in_use = one.in_use;
      passes = one.passes;
      words_are = λ same.
          let cipher : IsCipherOf (vault.archive one.entry.iv) words = subst (λ (entry : Option MetaEntry). IsOpenedWith vault.archive entry words) one.in_use (chance same) in
          let key = ap (λ (context : Context). opened_words context.key one.entry words) (sym (own same)) in
          archived_again vault one.entry words made.words keys (archives same one.entry one.in_use) cipher (one.words_are ∙ key);
    }
