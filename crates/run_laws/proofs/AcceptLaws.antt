-- How the one holder of each page is kept where the pages of a range become held, and where they are taken away: the general lemmas, whatever the event is.
use Rattle.std.proofs.Common.{◌≡◌, ◌⊎◌, ℕ, zero, suc, true, false, List, replicate, get_or, Option, Some, None, refl, sym, ap, ◌∙◌, subst, ⊎_elim, inl, inr}
use Rattle.std.specs.FinMap.{get}
use Rattle.std.proofs.lemmas.Bool.{true≢false, cond-true, cond-false}
use Rattle.std.proofs.lemmas.Option.{none-some}
use Rattle.snp_model.specs.GuestMemory.{Places, Memory, IsHeld, known, unknown_places, with_pages, without_pages}
use Rattle.snp_model.specs.Holders.{Holder, InFrame, Sealed, IsHeldAs, Holds, Core}
use Rattle.snp_model.specs.Live.{Vault, Spot}
use Rattle.snp_model.specs.Locks.{in_range}
use Rattle.snp_model.specs.State.{Pages}
use Rattle.run_laws.proofs.LockedItems.{by_range}
use Rattle.run_laws.proofs.MemoryLaws.{place_in, get_with_pages, get_without_pages}
use Rattle.run_laws.proofs.UpdateLaws.{KeepsMetadata, Lessens, with_memory, live_before, held_before}

-- what a memory holds and knows after the pages of a range are set

pub with_pages_holds : (base count : ℕ) (places : Places) (memory : Memory) (q : ℕ) → in_range base count q ≡ true → IsHeld (with_pages base count places memory) q
with_pages_holds base count places memory q inside none =
    none-some _ (sym none ∙ get_with_pages base count places memory q ∙ cond-true (in_range base count q) _ _ inside)

pub with_pages_keeps : (base count : ℕ) (places : Places) (memory : Memory) (q : ℕ) → in_range base count q ≡ false → get (with_pages base count places memory) q ≡ get memory q
with_pages_keeps base count places memory q outside = get_with_pages base count places memory q ∙ cond-false (in_range base count q) _ _ outside

pub with_pages_known : (base count : ℕ) (places : Places) (memory : Memory) (q index : ℕ) → in_range base count q ≡ true → known (with_pages base count places memory) q index ≡ get_or places index None
with_pages_known base count places memory q index inside =
    ap (λ (page : Option Places). place_in page index) (get_with_pages base count places memory q ∙ cond-true (in_range base count q) _ _ inside)

pub with_pages_known_before : (base count : ℕ) (places : Places) (memory : Memory) (q index : ℕ) → in_range base count q ≡ false → known (with_pages base count places memory) q index ≡ known memory q index
with_pages_known_before base count places memory q index outside =
    ap (λ (page : Option Places). place_in page index) (with_pages_keeps base count places memory q outside)

-- and after they are removed
pub without_pages_keeps : (base count : ℕ) (memory : Memory) (q : ℕ) → in_range base count q ≡ false → get (without_pages base count memory) q ≡ get memory q
without_pages_keeps base count memory q outside = get_without_pages base count memory q ∙ cond-false (in_range base count q) _ _ outside

pub without_pages_lacks : (base count : ℕ) (memory : Memory) (q : ℕ) → in_range base count q ≡ true → get (without_pages base count memory) q ≡ None
without_pages_lacks base count memory q inside = get_without_pages base count memory q ∙ cond-true (in_range base count q) _ _ inside

pub without_pages_known : (base count : ℕ) (memory : Memory) (q index : ℕ) → in_range base count q ≡ false → known (without_pages base count memory) q index ≡ known memory q index
without_pages_known base count memory q index outside = ap (λ (page : Option Places). place_in page index) (without_pages_keeps base count memory q outside)

-- of a page whose words are unknown no place is known
no_place : (count index : ℕ) → get_or {A = Option ℕ} (replicate count None) index None ≡ None
no_place zero index = refl
no_place (suc count) zero = refl
no_place (suc count) (suc index) = no_place count index

pub unknown_at : (index : ℕ) → get_or unknown_places index None ≡ None
unfolding unknown_places
unknown_at index = no_place 512 index

-- the general lemmas

-- what holds a page held it before, with the same words, or it holds a page of a range, of which there is one place for each, with words that the places know
pub record Gains (asid : ℕ) (old new : Vault) (base count : ℕ) (places : Places) (place : ℕ → Holder) : Type 0 where
  pub from : (gpn : ℕ) (x : Holder) (u : List ℕ) → Holds asid new gpn x u → Holds asid old gpn x u ⊎ ((in_range base count gpn ≡ true) × (x ≡ place gpn))
  pub agree : (gpn : ℕ) (u : List ℕ) (index word : ℕ) → in_range base count gpn ≡ true → Holds asid new gpn (place gpn) u → get_or places index None ≡ Some word → get_or u index 0 ≡ word

-- the memory lacks the pages of a range
abbrev pub LacksRange : Memory → ℕ → ℕ → Type 0
LacksRange memory base count = (gpn : ℕ) → in_range base count gpn ≡ true → get memory gpn ≡ None

-- what holds a page of the range is new
gained : (asid : ℕ) (old new : Vault) (memory : Memory) (base count : ℕ) (places : Places) (place : ℕ → Holder) → Gains asid old new base count places place → LacksRange memory base count → Core asid old memory
    → (gpn : ℕ) (x : Holder) (u : List ℕ) → in_range base count gpn ≡ true → Holds asid new gpn x u → x ≡ place gpn
gained asid old new memory base count places place gains lacks core gpn x u inside h =
    ⊎_elim
    (λ (before : Holds asid old gpn x u). absurd (core.held gpn x u before (lacks gpn inside)))
    (λ (is : (in_range base count gpn ≡ true) × (x ≡ place gpn)). is.1)
    (gains.from gpn x u h)

-- and what holds any other page isn't
kept : (asid : ℕ) (old new : Vault) (base count : ℕ) (places : Places) (place : ℕ → Holder) → Gains asid old new base count places place
    → (gpn : ℕ) (x : Holder) (u : List ℕ) → in_range base count gpn ≡ false → Holds asid new gpn x u → Holds asid old gpn x u
kept asid old new base count places place gains gpn x u outside h =
    ⊎_elim
    (λ (before : Holds asid old gpn x u). before)
    (λ (is : (in_range base count gpn ≡ true) × (x ≡ place gpn)). absurd (true≢false (sym is.0 ∙ outside)))
    (gains.from gpn x u h)

pub core_gains : (asid : ℕ) (old new : Vault) (memory : Memory) (base count : ℕ) (places : Places) (place : ℕ → Holder) → Gains asid old new base count places place → LacksRange memory base count
    → Core asid old memory → Core asid new (with_pages base count places memory)
core_gains asid old new memory base count places place gains lacks core =
    let new_at = gained asid old new memory base count places place gains lacks core in
    let old_at = kept asid old new base count places place gains in
    record {
      unique = λ gpn x y u w hx hy.
          by_range (in_range base count gpn) (x ≡ y)
          (λ inside. new_at gpn x u inside hx ∙ sym (new_at gpn y w inside hy))
          (λ outside. core.unique gpn x y u w (old_at gpn x u outside hx) (old_at gpn y w outside hy));
      held = λ gpn x u hx.
          by_range (in_range base count gpn) (IsHeld (with_pages base count places memory) gpn)
          (λ inside. with_pages_holds base count places memory gpn inside)
          (λ outside none. core.held gpn x u (old_at gpn x u outside hx) (sym (with_pages_keeps base count places memory gpn outside) ∙ none));
      agree = λ gpn x u index word hx k.
          by_range (in_range base count gpn) (get_or u index 0 ≡ word)
          (λ inside.
          let here = subst (λ (y : Holder). Holds asid new gpn y u) (new_at gpn x u inside hx) hx in
          gains.agree gpn u index word inside here (sym (with_pages_known base count places memory gpn index inside) ∙ k))
          (λ outside. core.agree gpn x u index word (old_at gpn x u outside hx) (sym (with_pages_known_before base count places memory gpn index outside) ∙ k));
    }

-- what holds a page held it before, with the same words, and no page of a range is held any more
pub record Loses (asid : ℕ) (old new : Vault) (base count : ℕ) : Type 0 where
  pub from : (gpn : ℕ) (x : Holder) (u : List ℕ) → Holds asid new gpn x u → (in_range base count gpn ≡ false) × Holds asid old gpn x u

pub core_rescinds : (asid : ℕ) (old new : Vault) (memory : Memory) (base count : ℕ) → Loses asid old new base count → Core asid old memory → Core asid new (without_pages base count memory)
core_rescinds asid old new memory base count loses core = record {
  unique = λ gpn x y u w hx hy. core.unique gpn x y u w (loses.from gpn x u hx).1 (loses.from gpn y w hy).1;
  held = λ gpn x u hx none.
      let before = loses.from gpn x u hx in
      core.held gpn x u before.1 (sym (without_pages_keeps base count memory gpn before.0) ∙ none);
  agree = λ gpn x u index word hx k.
      let before = loses.from gpn x u hx in
      core.agree gpn x u index word before.1 (sym (without_pages_known base count memory gpn index before.0) ∙ k);
}

-- changes of memory, frame by frame

sealed_before : (asid : ℕ) (vault : Vault) (new : Pages) → ((f : ℕ) → KeepsMetadata (new f) (vault.pages f))
    → (gpn : ℕ) (s : Spot) (u : List ℕ) → Holds asid (with_memory new vault) gpn (Sealed s) u → Holds asid vault gpn (Sealed s) u
sealed_before asid vault new keeps gpn s u h = (h.0, live_before asid vault new keeps s h.0 h.1, h.2, h.3)

-- a frame that holds a page held it before, with its words, or it holds a page of a range, with words that the places know
pub record FramesGain (asid : ℕ) (old new : Pages) (base count : ℕ) (places : Places) (place : ℕ → ℕ) : Type 0 where
  pub metadata : (f : ℕ) → KeepsMetadata (new f) (old f)
  pub from : (gpn f : ℕ) → IsHeldAs (new f).facts asid gpn → (IsHeldAs (old f).facts asid gpn × ((new f).words ≡ (old f).words)) ⊎ ((in_range base count gpn ≡ true) × (f ≡ place gpn))
  pub agree : (gpn index word : ℕ) → in_range base count gpn ≡ true → IsHeldAs (new (place gpn)).facts asid gpn → get_or places index None ≡ Some word → get_or (new (place gpn)).words index 0 ≡ word

gained_from : (asid : ℕ) (vault : Vault) (new : Pages) (base count : ℕ) (places : Places) (place : ℕ → ℕ) → FramesGain asid vault.pages new base count places place
    → (gpn : ℕ) (x : Holder) (u : List ℕ) → Holds asid (with_memory new vault) gpn x u → Holds asid vault gpn x u ⊎ ((in_range base count gpn ≡ true) × (x ≡ InFrame (place gpn)))
gained_from asid vault new base count places place gain gpn (InFrame f) u h =
    ⊎_elim
    (λ (before : IsHeldAs (vault.pages f).facts asid gpn × ((new f).words ≡ (vault.pages f).words)). inl (before.0, h.1 ∙ before.1))
    (λ (is : (in_range base count gpn ≡ true) × (f ≡ place gpn)). inr (is.0, ap (λ (k : ℕ). InFrame k) is.1))
    (gain.from gpn f h.0)
gained_from asid vault new base count places place gain gpn (Sealed s) u h = inl (sealed_before asid vault new gain.metadata gpn s u h)

pub frames_gain : (asid : ℕ) (vault : Vault) (memory : Memory) (new : Pages) (base count : ℕ) (places : Places) (place : ℕ → ℕ) → FramesGain asid vault.pages new base count places place → LacksRange memory base count
    → Core asid vault memory → Core asid (with_memory new vault) (with_pages base count places memory)
frames_gain asid vault memory new base count places place gain lacks core =
    core_gains asid vault (with_memory new vault) memory base count places (λ gpn. InFrame (place gpn))
    (record {
      from = gained_from asid vault new base count places place gain;
      agree = λ gpn u index word inside h k. ap (λ (words : List ℕ). get_or words index 0) h.1 ∙ gain.agree gpn index word inside h.0 k;
    }) lacks core

-- a frame that holds a page held it before, with its words, and the frames that held the pages of a range hold them no more
pub record FramesLose (asid : ℕ) (old new : Pages) (base count : ℕ) (place : ℕ → ℕ) : Type 0 where
  pub less : (f : ℕ) → Lessens asid (new f) (old f)
  pub held : (gpn : ℕ) → in_range base count gpn ≡ true → IsHeldAs (old (place gpn)).facts asid gpn
  pub lost : (gpn : ℕ) → in_range base count gpn ≡ true → IsHeldAs (new (place gpn)).facts asid gpn → ⊥

-- so no page of the range is held: its one holder was the frame that has lost it
lost_from : (asid : ℕ) (vault : Vault) (memory : Memory) (new : Pages) (base count : ℕ) (place : ℕ → ℕ) → FramesLose asid vault.pages new base count place → Core asid vault memory
    → (gpn : ℕ) (x : Holder) (u : List ℕ) → Holds asid (with_memory new vault) gpn x u → in_range base count gpn ≡ true → ⊥
lost_from asid vault memory new base count place lose core gpn x u h inside =
    let before = held_before asid vault new lose.less gpn x u h in
    let own = (vault.pages (place gpn)).words in
    let one : x ≡ InFrame (place gpn) = core.unique gpn x (InFrame (place gpn)) u own before (lose.held gpn inside, refl) in
    let here : Holds asid (with_memory new vault) gpn (InFrame (place gpn)) u = subst (λ (y : Holder). Holds asid (with_memory new vault) gpn y u) one h in
    lose.lost gpn inside here.0

pub frames_lose : (asid : ℕ) (vault : Vault) (memory : Memory) (new : Pages) (base count : ℕ) (place : ℕ → ℕ) → FramesLose asid vault.pages new base count place
    → Core asid vault memory → Core asid (with_memory new vault) (without_pages base count memory)
frames_lose asid vault memory new base count place lose core =
    core_rescinds asid vault (with_memory new vault) memory base count
    (record {
      from = λ gpn x u h. (
        by_range (in_range base count gpn) (in_range base count gpn ≡ false) (λ inside. absurd (lost_from asid vault memory new base count place lose core gpn x u h inside)) (λ outside. outside),
        held_before asid vault new lose.less gpn x u h,
      );
    }) core
