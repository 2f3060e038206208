-- The opening of a scenario: pages from the page lines, words from the word lines, contexts from the guest lines (this project's own).
use Rattle.std.specs.Prelude.{ℕ, ◌+◌, ◌-◌, ◌*◌, ◌==◌, true, false, if◌then◌else◌, List, [], ◌∷◌, map, replicate, slice_get, slice_set, slice_index_or, Option, Some, None}
use Rattle.snp_model.specs.declared.entry.RmpEntry.{RmpEntry}
use Rattle.snp_model.specs.declared.entry.Kind.TheVariants.{Plain}
use Rattle.snp_model.specs.declared.firmware.GuestState.TheVariants.{Absent, Running}
use Rattle.snp_model.specs.declared.scenario.Actor.{Actor}
use Rattle.snp_model.specs.declared.scenario.GuestSpec.{GuestSpec}
use Rattle.snp_model.specs.declared.scenario.PageSpec.{PageSpec}
use Rattle.snp_model.specs.declared.scenario.WordSpec.{WordSpec}
use Rattle.snp_model.specs.declared.scenario.Scenario.{Scenario}
use Rattle.snp_model.specs.Facts.{free_entry, frames_in}
use Rattle.snp_model.specs.State.{Context, Contexts, ActorPart, State, nothing_taken, zero_words}
use Rattle.snp_model.specs.Locks.{in_range}

-- the ASID of a guest, by number from 1
abbrev pub asid_of : List GuestSpec → ℕ → ℕ
asid_of guests guest = slice_index_or (map (λ spec. spec.asid) guests) (guest - 1) 0

-- the facts of a page's frame, at a place in the page
unfoldable pub page_facts : List GuestSpec → PageSpec → ℕ → RmpEntry
page_facts guests page place =
    record { assigned = true; size = page.size; immutable = false; gpn = page.gpn + place; asid = asid_of guests page.guest; vmsa = false; validated = page.valid; perms = 15 ∷ page.perms; kind = Plain }

-- facts by frame, with one more page
abbrev pub with_page : List GuestSpec → PageSpec → (ℕ → RmpEntry) → ℕ → RmpEntry
with_page guests page facts f =
    if in_range page.frame (frames_in page.size) f then page_facts guests page (f - page.frame) else facts f

-- facts by frame, with further pages
unfoldable pub facts_from : List GuestSpec → (ℕ → RmpEntry) → List PageSpec → ℕ → RmpEntry
facts_from guests facts [] = facts
facts_from guests facts (page ∷ pages) = facts_from guests (with_page guests page facts) pages

-- words by frame, with one word set
abbrev pub with_word_spec : WordSpec → (ℕ → List ℕ) → ℕ → List ℕ
with_word_spec word words f = if word.frame == f then slice_set (words f) word.index word.value else words f

-- words by frame, with further words set in their order
unfoldable pub words_from : (ℕ → List ℕ) → List WordSpec → ℕ → List ℕ
words_from words [] = words
words_from words (word ∷ others) = words_from (with_word_spec word words) others

-- a guest's context at the opening: an opened guest runs, another has no context yet
unfoldable pub opening_context : Option GuestSpec → Context
opening_context None = record { state = Absent; bound = false; asid = 0; iv = 0; key = []; digest = replicate 48 0; pages = 0; root = None }
opening_context (Some spec) =
    record { state = if spec.opened then Running else Absent; bound = spec.opened; asid = spec.asid; iv = spec.iv; key = spec.key; digest = replicate 48 0; pages = 0; root = None }

-- contexts at the opening, by guest from 1
abbrev pub opening_contexts : List GuestSpec → Contexts
opening_contexts guests guest = opening_context (slice_get guests (guest - 1))

-- an actor before its first item
abbrev pub opening_part : Actor → ActorPart
opening_part actor =
    record { role = actor.role; script = actor.script; item = 0; attempt = 0; deeds = []; standing = nothing_taken; last = None }

-- every frame is free with zero words, but for the pages and words that the scenario names
unfoldable pub opening : Scenario → State
opening scenario =
    record {
      frames = 512 * scenario.regions;
      guests = scenario.guests;
      contents = record {
        pages = λ f. record { facts = facts_from scenario.guests (λ _. free_entry) scenario.pages f; words = words_from (λ _. zero_words) scenario.words f };
        contexts = opening_contexts scenario.guests;
      };
      actors = map opening_part scenario.actors;
    }
