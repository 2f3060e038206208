-- How the one holder of each page is kept: the general lemmas, whatever the event is.
use Rattle.std.proofs.Common.{◌≡◌, ◌≢◌, ℕ, ◌<◌, true, eqb, List, length, get_or, set, Some, refl, sym, ap, ◌∙◌, subst, ⊎_elim}
use Rattle.std.proofs.lemmas.Bool.{cond_both, cases_eq, eqb-true, eqb-false}
use Rattle.std.proofs.lemmas.List.{get_or-set_same, get_or-set_other, length-set}
use Rattle.snp_model.specs.declared.entry.Kind.TheVariants as kinds
use Rattle.snp_model.specs.declared.entry.RmpEntry.{RmpEntry}
use Rattle.snp_model.specs.declared.firmware.MetaEntry.{MetaEntry}
use Rattle.snp_model.specs.State.{Page, Pages, with_word, word_of}
use Rattle.snp_model.specs.GuestMemory.{Memory, IsHeld, known, with_known, MayRead}
use Rattle.snp_model.specs.Live.{Vault, Spot, InEntry, InRoot, Under, IsOwn, IsLive}
use Rattle.snp_model.specs.Holders.{Holder, InFrame, Sealed, IsHeldAs, Holds, Core}
use Rattle.run_laws.proofs.MemoryLaws.{IsSamePlace, with_known_held, with_known_known}

-- a written word changes no facts
pub with_word_facts : (frame index value : ℕ) (pages : Pages) (f : ℕ) → (with_word frame index value pages f).facts ≡ (pages f).facts
with_word_facts frame index value pages f = cond_both (eqb frame f) _ _ (λ (page : Page). page.facts ≡ (pages f).facts) (λ _. refl) (λ _. refl)

-- and no other frame's words
pub with_word_other : (frame index value : ℕ) (pages : Pages) (f : ℕ) → f ≢ frame → (with_word frame index value pages f).words ≡ (pages f).words
with_word_other frame index value pages f other =
    cond_both (eqb frame f) _ _ (λ (page : Page). page.words ≡ (pages f).words) (λ e. absurd (other (sym (eqb-true frame f e)))) (λ _. refl)

with_word_words : (frame index value : ℕ) (pages : Pages) (f : ℕ) → f ≡ frame → (with_word frame index value pages f).words ≡ set (pages f).words index value
with_word_words frame index value pages f same =
    cond_both (eqb frame f) _ _ (λ (page : Page). page.words ≡ set (pages f).words index value) (λ _. refl) (λ e. absurd (eqb-false frame f e (sym same)))

pub with_word_length : (frame index value : ℕ) (pages : Pages) (f : ℕ) → length (with_word frame index value pages f).words ≡ length (pages f).words
with_word_length frame index value pages f =
    cond_both (eqb frame f) _ _ (λ (page : Page). length page.words ≡ length (pages f).words) (λ _. length-set (pages f).words index value) (λ _. refl)

-- a frame that the firmware uses is assigned, immutable and no guest's
pub record KindFits (facts : RmpEntry) : Type 0 where
  pub assigned : facts.kind ≢ kinds.Plain → facts.assigned ≡ true
  pub immutable : facts.kind ≢ kinds.Plain → facts.immutable ≡ true
  pub no_guest : facts.kind ≢ kinds.Plain → facts.asid ≡ 0

abbrev pub AreFit : Pages → Type 0
AreFit pages = (f : ℕ) → KindFits (pages f).facts

-- what is left of the holders of each page comes from a holder before, with its words
pub record Moves (asid : ℕ) (old new : Vault) (forth : Holder → Holder) : Type 0 where
  pub back : (gpn : ℕ) (x : Holder) (u : List ℕ) → Holds asid new gpn x u → (y : Holder) × (x ≡ forth y) × Holds asid old gpn y u

pub core_moves : (asid : ℕ) (old new : Vault) (memory : Memory) (forth : Holder → Holder) → Moves asid old new forth → Core asid old memory → Core asid new memory
core_moves asid old new memory forth moves core = record {
  unique = λ gpn x y u w hx hy.
      let bx = moves.back gpn x u hx in
      let by = moves.back gpn y w hy in
      bx.1 ∙ ap forth (core.unique gpn bx.0 by.0 u w bx.2 by.2) ∙ sym by.1;
  held = λ gpn x u hx. let bx = moves.back gpn x u hx in core.held gpn bx.0 u bx.2;
  agree = λ gpn x u index word hx k. let bx = moves.back gpn x u hx in core.agree gpn bx.0 u index word bx.2 k;
}

-- a change that makes no new holder, and leaves the words of those that are left
pub core_shrinks : (asid : ℕ) (old new : Vault) (memory : Memory) → ((gpn : ℕ) (x : Holder) (u : List ℕ) → Holds asid new gpn x u → Holds asid old gpn x u)
    → Core asid old memory → Core asid new memory
core_shrinks asid old new memory before core = core_moves asid old new memory (λ x. x) (record { back = λ gpn x u h. (x, refl, before gpn x u h) }) core

-- where no entry is live, what frames hold is all that is held
pub record FrameCore (pages : Pages) (asid : ℕ) (memory : Memory) : Type 0 where
  pub unique : (gpn f g : ℕ) → IsHeldAs (pages f).facts asid gpn → IsHeldAs (pages g).facts asid gpn → f ≡ g
  pub held : (gpn f : ℕ) → IsHeldAs (pages f).facts asid gpn → IsHeld memory gpn
  pub agree : (gpn f index word : ℕ) → IsHeldAs (pages f).facts asid gpn → known memory gpn index ≡ Some word → get_or (pages f).words index 0 ≡ word

abbrev pub IsDead : ℕ → Vault → Type 0
IsDead asid vault = (s : Spot) (entry : MetaEntry) → IsLive asid vault s entry → ⊥

unique_frames : (asid : ℕ) (vault : Vault) (memory : Memory) → IsDead asid vault → FrameCore vault.pages asid memory
    → (gpn : ℕ) (x y : Holder) (u w : List ℕ) → Holds asid vault gpn x u → Holds asid vault gpn y w → x ≡ y
unique_frames asid vault memory dead core gpn (InFrame f) (InFrame g) u w hx hy = ap (λ (n : ℕ). InFrame n) (core.unique gpn f g hx.0 hy.0)
unique_frames asid vault memory dead core gpn (InFrame f) (Sealed s) u w hx hy = absurd (dead s hy.0 hy.1)
unique_frames asid vault memory dead core gpn (Sealed s) y u w hx hy = absurd (dead s hx.0 hx.1)

held_frames : (asid : ℕ) (vault : Vault) (memory : Memory) → IsDead asid vault → FrameCore vault.pages asid memory
    → (gpn : ℕ) (x : Holder) (u : List ℕ) → Holds asid vault gpn x u → IsHeld memory gpn
held_frames asid vault memory dead core gpn (InFrame f) u h = core.held gpn f h.0
held_frames asid vault memory dead core gpn (Sealed s) u h = absurd (dead s h.0 h.1)

agree_frames : (asid : ℕ) (vault : Vault) (memory : Memory) → IsDead asid vault → FrameCore vault.pages asid memory
    → (gpn : ℕ) (x : Holder) (u : List ℕ) (index word : ℕ) → Holds asid vault gpn x u → known memory gpn index ≡ Some word → get_or u index 0 ≡ word
agree_frames asid vault memory dead core gpn (InFrame f) u index word h k = ap (λ (words : List ℕ). get_or words index 0) h.1 ∙ core.agree gpn f index word h.0 k
agree_frames asid vault memory dead core gpn (Sealed s) u index word h k = absurd (dead s h.0 h.1)

pub frames_core : (asid : ℕ) (vault : Vault) (memory : Memory) → IsDead asid vault → FrameCore vault.pages asid memory → Core asid vault memory
frames_core asid vault memory dead core =
    record { unique = unique_frames asid vault memory dead core; held = held_frames asid vault memory dead core; agree = agree_frames asid vault memory dead core }

-- a word is written to a frame of memory
abbrev pub written : ℕ → ℕ → ℕ → Vault → Vault
written frame index value vault = record vault { pages = with_word frame index value vault.pages }

-- which is no metadata page, so the same entries are live
abbrev pub IsNoMetadata : Vault → ℕ → Type 0
IsNoMetadata vault frame = (vault.pages frame).facts.kind ≢ kinds.Metadata

live_before : (frame index value asid : ℕ) (vault : Vault) → IsNoMetadata vault frame → (s : Spot) (entry : MetaEntry) → IsLive asid (written frame index value vault) s entry → IsLive asid vault s entry
live_before frame index value asid vault none (InEntry f number) entry live =
    let metadata : (vault.pages f).facts.kind ≡ kinds.Metadata = ap (λ (facts : RmpEntry). facts.kind) (sym (with_word_facts frame index value vault.pages f)) ∙ live.metadata in
    let other : f ≢ frame = λ same. none (ap (λ (k : ℕ). (vault.pages k).facts.kind) (sym same) ∙ metadata) in
    record { metadata = metadata; own = subst (λ (words : List ℕ). IsOwn asid vault.context.iv words number entry) (with_word_other frame index value vault.pages f other) live.own }
live_before frame index value asid vault none InRoot entry live = live
live_before frame index value asid vault none (Under s number) entry live = (live.0, live_before frame index value asid vault none s live.0 live.1, live.2)

-- and the same frames and entries are holders
held_before : (frame index value asid : ℕ) (vault : Vault) → IsNoMetadata vault frame → (gpn : ℕ) (x : Holder) (u : List ℕ) → Holds asid (written frame index value vault) gpn x u
    → (w : List ℕ) × Holds asid vault gpn x w
held_before frame index value asid vault none gpn (InFrame f) u h =
    ((vault.pages f).words, (subst (λ (facts : RmpEntry). IsHeldAs facts asid gpn) (with_word_facts frame index value vault.pages f) h.0, refl))
held_before frame index value asid vault none gpn (Sealed s) u h = (u, (h.0, live_before frame index value asid vault none s h.0 h.1, h.2, h.3))

-- a word written to a frame that holds nothing of the guest
same_elsewhere : (frame index value asid : ℕ) (vault : Vault) → IsNoMetadata vault frame → ((gpn : ℕ) → IsHeldAs (vault.pages frame).facts asid gpn → ⊥)
    → (gpn : ℕ) (x : Holder) (u : List ℕ) → Holds asid (written frame index value vault) gpn x u → Holds asid vault gpn x u
same_elsewhere frame index value asid vault none nothing gpn (InFrame f) u h =
    let old : IsHeldAs (vault.pages f).facts asid gpn = (held_before frame index value asid vault none gpn (InFrame f) u h).1.0 in
    let other : f ≢ frame = λ same. nothing gpn (subst (λ (k : ℕ). IsHeldAs (vault.pages k).facts asid gpn) same old) in
    (old, h.1 ∙ with_word_other frame index value vault.pages f other)
same_elsewhere frame index value asid vault none nothing gpn (Sealed s) u h = (h.0, live_before frame index value asid vault none s h.0 h.1, h.2, h.3)

pub core_writes_elsewhere : (frame index value asid : ℕ) (vault : Vault) (memory : Memory) → IsNoMetadata vault frame → ((gpn : ℕ) → IsHeldAs (vault.pages frame).facts asid gpn → ⊥)
    → Core asid vault memory → Core asid (written frame index value vault) memory
core_writes_elsewhere frame index value asid vault memory none nothing core =
    core_shrinks asid vault (written frame index value vault) memory (same_elsewhere frame index value asid vault none nothing) core

-- a frame as a holder
frame_holds : (asid : ℕ) (vault : Vault) (gpn frame : ℕ) → IsHeldAs (vault.pages frame).facts asid gpn → Holds asid vault gpn (InFrame frame) (vault.pages frame).words
frame_holds asid vault gpn frame h = (h, refl)

pub frame_held : (asid : ℕ) (vault : Vault) (memory : Memory) (gpn frame : ℕ) → Core asid vault memory → IsHeldAs (vault.pages frame).facts asid gpn → IsHeld memory gpn
frame_held asid vault memory gpn frame core h = core.held gpn (InFrame frame) (vault.pages frame).words (h, refl)

-- what a holder's word lets a guest read
pub core_may_read : (asid : ℕ) (vault : Vault) (memory : Memory) (gpn frame index : ℕ)
    → Core asid vault memory → IsHeldAs (vault.pages frame).facts asid gpn → MayRead memory gpn index (word_of (vault.pages frame) index)
core_may_read asid vault memory gpn frame index core h = record {
  held = frame_held asid vault memory gpn frame core h;
  agrees = λ word k. sym (core.agree gpn (InFrame frame) (vault.pages frame).words index word (h, refl) k);
}

-- a frame that holds a page holds no other
one_page : (facts : RmpEntry) (asid p q : ℕ) → IsHeldAs facts asid p → IsHeldAs facts asid q → q ≡ p
one_page facts asid p q hp hq = sym hq.gpn_is ∙ hp.gpn_is

in_frame : (f g : ℕ) → InFrame f ≡ InFrame g → f ≡ g
in_frame f g e = cc

no_frame : (s : Spot) (f : ℕ) → Sealed s ≡ InFrame f → ⊥
no_frame s f e = cc

-- a word of a holder becomes known
agree_read : (asid : ℕ) (vault : Vault) (memory : Memory) (gpn frame index value : ℕ)
    → Core asid vault memory → IsHeldAs (vault.pages frame).facts asid gpn → word_of (vault.pages frame) index ≡ value
    → (q : ℕ) (x : Holder) (u : List ℕ) (place word : ℕ) → Holds asid vault q x u → known (with_known gpn index value memory) q place ≡ Some word
    → get_or u place 0 ≡ word
agree_read asid vault memory gpn frame index value core h is q x u place word hx k =
    ⊎_elim
    (λ (now : IsSamePlace gpn index q place × (word ≡ value)).
    let here : Holds asid vault gpn x u = subst (λ (p : ℕ). Holds asid vault p x u) now.0.page hx in
    let one : x ≡ InFrame frame = core.unique gpn x (InFrame frame) u (vault.pages frame).words here (h, refl) in
    let there : Holds asid vault gpn (InFrame frame) u = subst (λ (y : Holder). Holds asid vault gpn y u) one here in
    ap (λ (words : List ℕ). get_or words place 0) there.1 ∙ ap (λ (i : ℕ). word_of (vault.pages frame) i) now.0.place ∙ is ∙ sym now.1)
    (λ (before : (IsSamePlace gpn index q place → ⊥) × (known memory q place ≡ Some word)). core.agree q x u place word hx before.1)
    (with_known_known gpn index value memory q place word k)

pub core_reads : (asid : ℕ) (vault : Vault) (memory : Memory) (gpn frame index value : ℕ)
    → Core asid vault memory → IsHeldAs (vault.pages frame).facts asid gpn → word_of (vault.pages frame) index ≡ value
    → Core asid vault (with_known gpn index value memory)
core_reads asid vault memory gpn frame index value core h is = record {
  unique = core.unique;
  held = λ q x u hx. with_known_held gpn index value memory q (core.held q x u hx);
  agree = agree_read asid vault memory gpn frame index value core h is;
}

-- a word of a holder is written
word_written : (frame index value : ℕ) (pages : Pages) → index < length (pages frame).words → word_of (with_word frame index value pages frame) index ≡ value
word_written frame index value pages within =
    ap (λ (words : List ℕ). get_or words index 0) (with_word_words frame index value pages frame refl) ∙ get_or-set_same (pages frame).words index value 0 within

word_kept : (frame index value : ℕ) (pages : Pages) (f place : ℕ) → (f ≡ frame → place ≢ index) → word_of (with_word frame index value pages f) place ≡ word_of (pages f) place
word_kept frame index value pages f place apart =
    ⊎_elim
    (λ (same : f ≡ frame).
    ap (λ (words : List ℕ). get_or words place 0) (with_word_words frame index value pages f same) ∙ get_or-set_other (pages f).words index place value 0 (apart same))
    (λ (other : f ≡ frame → ⊥). ap (λ (words : List ℕ). get_or words place 0) (with_word_other frame index value pages f other))
    (cases_eq f frame)

agree_write : (asid : ℕ) (vault : Vault) (memory : Memory) (gpn frame index value : ℕ) → IsNoMetadata vault frame
    → Core asid vault memory → IsHeldAs (vault.pages frame).facts asid gpn → index < length (vault.pages frame).words
    → (q : ℕ) (x : Holder) (u : List ℕ) (place word : ℕ) → Holds asid (written frame index value vault) q x u → known (with_known gpn index value memory) q place ≡ Some word
    → get_or u place 0 ≡ word
agree_write asid vault memory gpn frame index value none core h within q (InFrame f) u place word hx k =
    let old : IsHeldAs (vault.pages f).facts asid q = (held_before frame index value asid vault none q (InFrame f) u hx).1.0 in
    let own = (vault.pages f).words in
    ap (λ (words : List ℕ). get_or words place 0) hx.1
    ∙ ⊎_elim
    (λ (now : IsSamePlace gpn index q place × (word ≡ value)).
    let here : IsHeldAs (vault.pages f).facts asid gpn = subst (λ (p : ℕ). IsHeldAs (vault.pages f).facts asid p) now.0.page old in
    let one : f ≡ frame = in_frame f frame (core.unique gpn (InFrame f) (InFrame frame) own (vault.pages frame).words (here, refl) (h, refl)) in
    ap (λ (g : ℕ). word_of (with_word frame index value vault.pages g) place) one ∙ ap (λ (i : ℕ). word_of (with_word frame index value vault.pages frame) i) now.0.place
    ∙ word_written frame index value vault.pages within ∙ sym now.1)
    (λ (before : (IsSamePlace gpn index q place → ⊥) × (known memory q place ≡ Some word)).
    let apart : f ≡ frame → place ≢ index =
    λ same at. before.0 (record { page = one_page (vault.pages frame).facts asid gpn q h (subst (λ (g : ℕ). IsHeldAs (vault.pages g).facts asid q) same old); place = at }) in
    word_kept frame index value vault.pages f place apart ∙ core.agree q (InFrame f) own place word (old, refl) before.1)
    (with_known_known gpn index value memory q place word k)
agree_write asid vault memory gpn frame index value none core h within q (Sealed s) u place word hx k =
    let old : Holds asid vault q (Sealed s) u = (hx.0, live_before frame index value asid vault none s hx.0 hx.1, hx.2, hx.3) in
    ⊎_elim
    (λ (now : IsSamePlace gpn index q place × (word ≡ value)).
    let here : Holds asid vault gpn (Sealed s) u = subst (λ (p : ℕ). Holds asid vault p (Sealed s) u) now.0.page old in
    absurd (no_frame s frame (core.unique gpn (Sealed s) (InFrame frame) u (vault.pages frame).words here (h, refl))))
    (λ (before : (IsSamePlace gpn index q place → ⊥) × (known memory q place ≡ Some word)). core.agree q (Sealed s) u place word old before.1)
    (with_known_known gpn index value memory q place word k)

pub core_writes : (asid : ℕ) (vault : Vault) (memory : Memory) (gpn frame index value : ℕ) → IsNoMetadata vault frame
    → Core asid vault memory → IsHeldAs (vault.pages frame).facts asid gpn → index < length (vault.pages frame).words
    → Core asid (written frame index value vault) (with_known gpn index value memory)
core_writes asid vault memory gpn frame index value none core h within =
    let before = held_before frame index value asid vault none in
    record {
      unique = λ q x y u w hx hy.
          let bx = before q x u hx in
          let by = before q y w hy in
          core.unique q x y bx.0 by.0 bx.1 by.1;
      held = λ q x u hx. let bx = before q x u hx in with_known_held gpn index value memory q (core.held q x bx.0 bx.1);
      agree = agree_write asid vault memory gpn frame index value none core h within;
    }
