-- The words of a frame at the opening, and the pages that hold them.
use Rattle.std.proofs.Common.{◌≡◌, ◌≢◌, ℕ, zero, suc, ◌+◌, ◌<◌, ◌≤◌, ◌^◌, cond, eqb, List, [], ◌∷◌, set, map, length, Some, if◌then◌else◌, refl, sym, ap, ◌∙◌, arith}
use Rattle.std.specs.List.{AllByRecursion}
use Rattle.std.specs.FinMap.{insert}
use Rattle.std.proofs.lemmas.Bool.Decides.{nat_tests}
use Rattle.snp_model.specs.declared.scenario.PageSpec.{PageSpec}
use Rattle.snp_model.specs.declared.scenario.Scenario.{Scenario}
use Rattle.snp_model.specs.declared.scenario.WordSpec.{WordSpec}
use Rattle.snp_model.specs.GuestMemory.{Places, Memory, Launches, used, with_frames, with_pages}
use Rattle.snp_model.specs.Opening.{with_word_spec, words_from}
use Rattle.snp_model.specs.State.{zero_words}
use Rattle.snp_model.specs.Sound.{IsPage, IsSound, IsWord}
use Rattle.snp_model.specs.ScenarioLines.{frames_of}
use Rattle.guest_memory.specs.Pages.{IsPlaced}
use Rattle.guest_memory.proofs.PagesLaws.{same_memory, get_inserted}

-- the words of one frame, with further words set in their order
unfoldable pub content_from : List ℕ → List WordSpec → ℕ → List ℕ
content_from content [] frame = content
content_from content (word ∷ words) frame = content_from (if eqb word.frame frame then set content word.index word.value else content) words frame

-- are those that memory then has there
pub words_content : (words : ℕ → List ℕ) (specs : List WordSpec) (frame : ℕ) → words_from words specs frame ≡ content_from (words frame) specs frame
unfolding words_from content_from
words_content words [] frame = refl
words_content words (word ∷ specs) frame = words_content (with_word_spec word words) specs frame

pub content_words : (specs : List WordSpec) (frame : ℕ) → content_from zero_words specs frame ≡ words_from (λ _. zero_words) specs frame
content_words specs frame = sym (words_content (λ _. zero_words) specs frame)

-- pages are inserted in any order
swapped : {A : Type 0} (q a b : ℕ) (x y kept : A) → a ≢ b → cond (eqb q b) y (cond (eqb q a) x kept) ≡ cond (eqb q a) x (cond (eqb q b) y kept)
swapped q a b x y kept apart = grind (arith, nat_tests, apart)

inserts_swap : (memory : Memory) (a b : ℕ) (x y : Places) → a ≢ b → insert (insert memory a x) b y ≡ insert (insert memory b y) a x
inserts_swap memory a b x y apart =
    same_memory _ _ (λ q.
    get_inserted (insert memory a x) b y q
    ∙ ap (cond (eqb q b) (Some y)) (get_inserted memory a x q)
    ∙ swapped q a b (Some x) (Some y) _ apart
    ∙ ap (cond (eqb q a) (Some x)) (sym (get_inserted memory b y q))
    ∙ sym (get_inserted (insert memory b y) a x q))

-- one page more at the end of a range
abbrev all_of : List ℕ → Places
all_of words = map Some words

pub with_frames_more : (words : ℕ → List ℕ) (frame gpn count : ℕ) (memory : Memory)
    → insert (with_frames words frame gpn count memory) (gpn + count) (map Some (words (frame + count))) ≡ with_frames words frame gpn (suc count) memory
unfolding with_frames
with_frames_more words frame gpn zero memory =
    ap (λ (k : ℕ). insert memory k (all_of (words (frame + 0)))) (omega arith)
    ∙ ap (λ (k : ℕ). insert memory gpn (all_of (words k))) (omega arith)
with_frames_more words frame gpn (suc count) memory =
    let rest = with_frames words (frame + 1) (gpn + 1) count memory in
    inserts_swap rest gpn (gpn + suc count) (all_of (words frame)) (all_of (words (frame + suc count))) (λ same. omega arith)
    ∙ ap (λ (m : Memory). insert m gpn (all_of (words frame)))
    (ap (λ (k : ℕ). insert rest k (all_of (words (frame + suc count)))) (omega arith)
    ∙ ap (λ (k : ℕ). insert rest (gpn + 1 + count) (all_of (words k))) (omega arith)
    ∙ with_frames_more words (frame + 1) (gpn + 1) count memory)

-- what a scenario's page lines and word lines are
pub are_placed : (frames guests : ℕ) (pages : List PageSpec) → frames ≤ 8192 → AllByRecursion (IsPage frames guests) pages → AllByRecursion IsPlaced pages
are_placed frames guests [] most all = tt
are_placed frames guests (page ∷ pages) most all = (record { gpn = all.0.gpn; frame = below all.0.frame }, are_placed frames guests pages most all.1)
  where
    below : page.frame < frames → page.frame < 2 ^ 31
    below inside = omega arith

pub are_within : (frames : ℕ) (words : List WordSpec) → AllByRecursion (IsWord frames) words → AllByRecursion (λ word. word.index < 512) words
are_within frames [] all = tt
are_within frames (word ∷ words) all = (all.0.index, are_within frames words all.1)

pub all_placed : (c : Scenario) → IsSound c → AllByRecursion IsPlaced c.pages
all_placed c sound = let regions = sound.regions_most in are_placed (frames_of c) (length c.guests) c.pages (omega arith) sound.pages

-- a frame more is launched
launched : (gpn : ℕ) (content : List ℕ) (memory : Memory) → used (Launches gpn content) memory ≡ insert memory gpn (all_of content)
unfolding used with_pages
launched gpn content memory = refl

pub opened_more : (words : ℕ → List ℕ) (frame gpn count at : ℕ) (content : List ℕ) (before memory new : Memory) → at ≡ gpn + count → content ≡ words (frame + count)
    → memory ≡ with_frames words frame gpn count before → new ≡ used (Launches at content) memory → new ≡ with_frames words frame gpn (count + 1) before
opened_more words frame gpn count at content before memory new at_is content_is memory_is new_is =
    new_is
    ∙ launched at content memory
    ∙ ap (λ (k : ℕ). insert memory k (all_of content)) at_is
    ∙ ap (λ (ws : List ℕ). insert memory (gpn + count) (all_of ws)) content_is
    ∙ ap (λ (m : Memory). insert m (gpn + count) (all_of (words (frame + count)))) memory_is
    ∙ with_frames_more words frame gpn count before
    ∙ ap (λ (n : ℕ). with_frames words frame gpn n before) (omega arith)
