use Rattle.std.proofs.Common.{ℕ, ◌+◌, ◌*◌, get_or, drop, length, ap, ◌∙◌, sym, subst}
use Rattle.std.specs.List.{AllByRecursion}
use Rattle.std.proofs.lemmas.List.{drop_more}
use Rattle.snp_model.specs.Opening.{facts_from}
use Rattle.snp_model.specs.Sound.{FramesDiffer, IsPage, Pairwise}
use Rattle.machine_core.specs.Bays.{facts_of, own_bays}
use Rattle.machine_core.proofs.BuildingLaws.{IsSmallPage, no_page, page_region, set_next, stay_small}
use Rattle.machine_core.proofs.building.set_pages.Goals as goal

pub set_entry-requires-clause-large : goal.set_entry-requires-clause-large
set_entry-requires-clause-large c =
    let here = drop_more c.args.pages.now c.pages.page-index no_page c.pages-test.true in
    let all = subst (AllByRecursion (IsPage (512 * length c.pages.parts.bays.items) (length c.args.guests.now))) here c.pages.invariant.rest in
    page_region _ _ _ _ _ _ (c.pages.invariant.locks ∙ c.requires.unlocked) all.0 c.page_entry.ensures.assigned c.page_entry.ensures.size c.page_entry.ensures.gpn

pub pages-preserved : goal.pages-preserved
pages-preserved c =
    let page = get_or c.args.pages.now c.pages.page-index no_page in
    let others = drop (c.pages.page-index + 1) c.args.pages.now in
    let facts = facts_of (own_bays c.pages.parts.bays.items) in
    let here = drop_more c.args.pages.now c.pages.page-index no_page c.pages-test.true in
    let small = subst (AllByRecursion (IsSmallPage facts)) here c.pages.invariant.small in
    let apart = subst (Pairwise FramesDiffer) here c.pages.invariant.apart in
    let all = subst (AllByRecursion (IsPage (512 * length c.pages.parts.bays.items) (length c.args.guests.now))) here c.pages.invariant.rest in
    record {
      facts = set_next c.args.guests.now facts _ page c.page_entry.result others c.page_entry.ensures.size c.page_entry.ensures.facts c.set_entry.ensures.facts ∙ ap (facts_from c.args.guests.now facts) (sym here) ∙ c.pages.invariant.facts;
      words = c.set_entry.ensures.words ∙ c.pages.invariant.words;
      locks = c.set_entry.ensures.locks ∙ c.pages.invariant.locks;
      regions = c.set_entry.ensures.kept.bays ∙ c.pages.invariant.regions;
      contexts = c.set_entry.ensures.contexts ∙ c.pages.invariant.contexts;
      guests = c.set_entry.ensures.kept.contexts ∙ c.pages.invariant.guests;
      small = stay_small facts _ page c.page_entry.result others c.page_entry.ensures.size c.set_entry.ensures.facts apart.0 small.1;
      apart = apart.1;
      rest = subst (λ (regions : ℕ). AllByRecursion (IsPage (512 * regions) (length c.args.guests.now)) others) (sym c.set_entry.ensures.kept.bays) all.1;
    }
