use Rattle.std.proofs.Common.{◌≡◌, ℕ, List, length, map, ap, ◌∙◌}
use Rattle.std.proofs.lemmas.List.{length-map}
use Rattle.snp_model.specs.declared.entry.RmpEntry.{RmpEntry}
use Rattle.snp_model.specs.Facts.{free_entry}
use Rattle.snp_model.specs.Opening.{facts_from, words_from, opening_part}
use Rattle.snp_model.specs.HeldContexts.{opening_held}
use Rattle.snp_model.specs.State.{zero_words}
use Rattle.snp_model.proofs.SoundLaws.{valid_is_sound}
use Rattle.run_laws.proofs.OpeningParts.{opening_shaped}
use Rattle.machine_core.specs.Bays.{facts_of, own_bays, own_contexts, words_of}
use Rattle.machine_core.proofs.OpeningLaws.{IsBuilt, opened, built_machine, short_scripts}
use Rattle.machine_core.proofs.machine.Machine.build.Goals as goal

pub set_pages-requires-clause-pages : goal.set_pages-requires-clause-pages
set_pages-requires-clause-pages c =
    let sound = valid_is_sound c.args.scenario.now c.requires in
    rw (c.in_ok-parts.ensures.regions, c.as_slice-guests.ensures, c.as_slice.ensures) sound.pages

pub set_pages-requires-clause-apart : goal.set_pages-requires-clause-apart
set_pages-requires-clause-apart c = rw c.as_slice.ensures (valid_is_sound c.args.scenario.now c.requires).frames_differ

pub set_pages-requires-clause-unlocked : goal.set_pages-requires-clause-unlocked
set_pages-requires-clause-unlocked c = c.in_ok-parts.ensures.locks

pub set_pages-requires-clause-small : goal.set_pages-requires-clause-small
unfolding free_entry
set_pages-requires-clause-small c = λ f. ap (λ (facts : ℕ → RmpEntry). (facts f).size) c.in_ok-parts.ensures.facts

pub set_words-requires : goal.set_words-requires
set_words-requires c =
    let sound = valid_is_sound c.args.scenario.now c.requires in
    let regions = c.set_pages.ensures.regions ∙ c.in_ok-parts.ensures.regions in
    rw (regions, c.as_slice-2.ensures) sound.words

pub make_actors-requires : goal.make_actors-requires
make_actors-requires c = rw c.as_slice-3.ensures (short_scripts c.args.scenario.now (valid_is_sound c.args.scenario.now c.requires))

pub invariant_of-result : goal.invariant_of-result
invariant_of-result c =
    let scenario = c.args.scenario.now in
    let sound = valid_is_sound scenario c.requires in
    let free : facts_of (own_bays c.in_ok-parts.parts.bays.items) ≡ (λ (f : ℕ). free_entry) = c.in_ok-parts.ensures.facts in
    let zero : words_of (own_bays c.in_ok-parts.parts.bays.items) ≡ (λ (f : ℕ). zero_words) = c.in_ok-parts.ensures.words in
    let guests : c.as_slice-guests.result.now ≡ scenario.guests = c.as_slice-guests.ensures in
    let pages : c.as_slice.result.now ≡ scenario.pages = c.as_slice.ensures in
    let words : c.as_slice-2.result.now ≡ scenario.words = c.as_slice-2.ensures in
    let actors : c.as_slice-3.result.now ≡ scenario.actors = c.as_slice-3.ensures in
    let kept : c.in_ok-guests.guests ≡ c.as_slice-guests.result.now = c.in_ok-guests.ensures in
    let parts : c.in_ok-actors.actors.items ≡ map opening_part c.as_slice-3.result.now = c.in_ok-actors.ensures in
    let built : IsBuilt scenario c.set_words.new.parts.bays.items c.set_words.new.parts.contexts.items c.in_ok-guests.guests c.in_ok-actors.actors.items = record {
      regions = c.set_words.ensures.regions ∙ c.set_pages.ensures.regions ∙ c.in_ok-parts.ensures.regions;
      facts = c.set_words.ensures.facts ∙ c.set_pages.ensures.facts ∙ (λ i. facts_from (guests i) (free i) (pages i));
      words = c.set_words.ensures.words ∙ (λ i. words_from (c.set_pages.ensures.words i) (words i)) ∙ ap (λ (w : ℕ → List ℕ). words_from w scenario.words) zero;
      locks = c.set_words.ensures.locks ∙ c.set_pages.ensures.locks ∙ c.in_ok-parts.ensures.locks;
      contexts_are = c.set_words.ensures.contexts ∙ c.set_pages.ensures.contexts ∙ ap own_contexts (c.in_ok-parts.ensures.contexts ∙ ap (map opening_held) guests);
      contexts_all = c.set_words.ensures.guests ∙ c.set_pages.ensures.guests ∙ ap length (c.in_ok-parts.ensures.contexts ∙ ap (map opening_held) guests) ∙ length-map scenario.guests opening_held;
      guests_are = kept ∙ guests;
      actors_are = parts ∙ ap (map opening_part) actors;
    } in
    built_machine scenario c.set_words.new.parts.bays.items c.set_words.new.parts.contexts.items c.in_ok-guests.guests c.in_ok-actors.actors.items sound (opening_shaped scenario sound) built

pub returns : goal.returns
returns c =
    let scenario = c.args.scenario.now in
    let free : facts_of (own_bays c.in_ok-parts.parts.bays.items) ≡ (λ (f : ℕ). free_entry) = c.in_ok-parts.ensures.facts in
    let zero : words_of (own_bays c.in_ok-parts.parts.bays.items) ≡ (λ (f : ℕ). zero_words) = c.in_ok-parts.ensures.words in
    let guests : c.as_slice-guests.result.now ≡ scenario.guests = c.as_slice-guests.ensures in
    let pages : c.as_slice.result.now ≡ scenario.pages = c.as_slice.ensures in
    let words : c.as_slice-2.result.now ≡ scenario.words = c.as_slice-2.ensures in
    let actors : c.as_slice-3.result.now ≡ scenario.actors = c.as_slice-3.ensures in
    let kept : c.in_ok-guests.guests ≡ c.as_slice-guests.result.now = c.in_ok-guests.ensures in
    let parts : c.in_ok-actors.actors.items ≡ map opening_part c.as_slice-3.result.now = c.in_ok-actors.ensures in
    let built : IsBuilt scenario c.set_words.new.parts.bays.items c.set_words.new.parts.contexts.items c.in_ok-guests.guests c.in_ok-actors.actors.items = record {
      regions = c.set_words.ensures.regions ∙ c.set_pages.ensures.regions ∙ c.in_ok-parts.ensures.regions;
      facts = c.set_words.ensures.facts ∙ c.set_pages.ensures.facts ∙ (λ i. facts_from (guests i) (free i) (pages i));
      words = c.set_words.ensures.words ∙ (λ i. words_from (c.set_pages.ensures.words i) (words i)) ∙ ap (λ (w : ℕ → List ℕ). words_from w scenario.words) zero;
      locks = c.set_words.ensures.locks ∙ c.set_pages.ensures.locks ∙ c.in_ok-parts.ensures.locks;
      contexts_are = c.set_words.ensures.contexts ∙ c.set_pages.ensures.contexts ∙ ap own_contexts (c.in_ok-parts.ensures.contexts ∙ ap (map opening_held) guests);
      contexts_all = c.set_words.ensures.guests ∙ c.set_pages.ensures.guests ∙ ap length (c.in_ok-parts.ensures.contexts ∙ ap (map opening_held) guests) ∙ length-map scenario.guests opening_held;
      guests_are = kept ∙ guests;
      actors_are = parts ∙ ap (map opening_part) actors;
    } in
    opened scenario c.set_words.new.parts.bays.items c.set_words.new.parts.contexts.items c.in_ok-guests.guests c.in_ok-actors.actors.items built
