-- An event that makes no entry of a metadata page, and changes no counter, key or root, keeps what ties counters and seals together.
use Rattle.std.proofs.Common.{◌≡◌, ◌≢◌, ℕ, zero, suc, ◌*◌, eqb, List, take, drop, replicate, Some, None, refl, sym, ap, ◌∙◌}
use Rattle.std.proofs.lemmas.Bool.{cond_both, eqb-true}
use Rattle.snp_model.specs.declared.entry.Kind.TheVariants as kinds
use Rattle.snp_model.specs.declared.firmware.MetaEntry.{MetaEntry}
use Rattle.snp_model.specs.Live.{Archive, Vault, vault_of}
use Rattle.snp_model.specs.Measurement.{page_bytes}
use Rattle.snp_model.specs.Metadata.{entry_at, entry_from, slot}
use Rattle.snp_model.specs.State.{Page, Pages, Context, Contents, zero_words, with_word}
use Rattle.run_laws.specs.Uniqueness.{IsEntryOf, Seals}
use Rattle.run_laws.proofs.SpotLaws.{fewer_seals}

-- each entry in use of a page was there before
abbrev pub KeepsEntries : ℕ → Page → Page → Type 0
KeepsEntries asid new old = (number : ℕ) (entry : MetaEntry) → IsEntryOf asid new number entry → IsEntryOf asid old number entry

-- a page that is no metadata page
pub plain_keeps : (asid : ℕ) (new old : Page) → new.facts.kind ≢ kinds.Metadata → KeepsEntries asid new old
plain_keeps asid new old plain number entry is = absurd (plain is.metadata)

-- one of the same words that was a metadata page, if it is one
pub same_keeps : (asid : ℕ) (new old : Page) → (new.facts.kind ≡ kinds.Metadata → (old.facts.kind ≡ kinds.Metadata) × (new.words ≡ old.words)) → KeepsEntries asid new old
same_keeps asid new old same number entry is =
    let was = same is.metadata in
    record { metadata = was.0; is = ap (λ (words : List ℕ). entry_at words number) (sym was.1) ∙ is.is; asid_is = is.asid_is }

-- zero words have no entry in use
zeros_from : (n k : ℕ) → (m : ℕ) × (drop {A = ℕ} k (replicate n 0) ≡ replicate m 0)
zeros_from n zero = (n, refl)
zeros_from zero (suc k) = (0, refl)
zeros_from (suc n) (suc k) = zeros_from n k

eight_zeros : (n : ℕ) → entry_from (page_bytes (take 8 (replicate n 0))) ≡ None
unfolding entry_from page_bytes
eight_zeros zero = refl
eight_zeros (suc n) = refl

pub zero_entry : (number : ℕ) → entry_at zero_words number ≡ None
unfolding entry_at slot zero_words
zero_entry number =
    let rest = zeros_from 512 (8 * number) in
    ap (λ (words : List ℕ). entry_from (page_bytes (take 8 words))) rest.1 ∙ eight_zeros rest.0

none_some : (entry : MetaEntry) → None ≡ Some entry → ⊥
none_some entry e = cc

pub zero_keeps : (asid : ℕ) (new old : Page) → new.words ≡ zero_words → KeepsEntries asid new old
zero_keeps asid new old zeros number entry is =
    absurd (none_some entry (sym (zero_entry number) ∙ ap (λ (words : List ℕ). entry_at words number) (sym zeros) ∙ is.is))

-- a context with the same counter, key and root
pub record SealsAlike (new old : Context) : Type 0 where
  pub counter : new.iv ≡ old.iv
  pub key : new.key ≡ old.key
  pub root : new.root ≡ old.root

pub alike_itself : (context : Context) → SealsAlike context context
alike_itself context = record { counter = refl; key = refl; root = refl }

pub seals_kept : (asid : ℕ) (old new : Vault) → ((f : ℕ) → KeepsEntries asid (new.pages f) (old.pages f)) → SealsAlike new.context old.context → ((k : ℕ) → new.archive k ≡ old.archive k)
    → Seals asid old → Seals asid new
seals_kept asid old new pages context archive seals =
    fewer_seals asid old new seals (record { counter_after = context.counter; key = context.key; pages = pages; root = λ x is. sym context.root ∙ is; archive = archive })

-- so memory alone
pub seals_with_memory : (asid guest : ℕ) (archive : Archive) (contents : Contents) (new : Pages) → ((f : ℕ) → KeepsEntries asid (new f) (contents.pages f))
    → Seals asid (vault_of guest contents archive) → Seals asid (vault_of guest (record contents { pages = new }) archive)
seals_with_memory asid guest archive contents new pages seals =
    seals_kept asid (vault_of guest contents archive) (vault_of guest (record contents { pages = new }) archive) pages (alike_itself (contents.contexts guest)) (λ k. refl) seals

-- a word is written to a frame that is no metadata page
pub write_keeps : (asid frame index value : ℕ) (pages : Pages) → (pages frame).facts.kind ≢ kinds.Metadata → (f : ℕ) → KeepsEntries asid (with_word frame index value pages f) (pages f)
write_keeps asid frame index value pages plain f =
    cond_both (eqb frame f) _ _ (λ (page : Page). KeepsEntries asid page (pages f))
    (λ same. plain_keeps asid _ (pages f) (λ is. plain (ap (λ (k : ℕ). (pages k).facts.kind) (eqb-true frame f same) ∙ is))) (λ _ number entry is. is)
