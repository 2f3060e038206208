-- At the opening of a sound scenario each page of a declared guest has at most one holder, with the words of the guest's memory, whatever archive is taken: nothing is sealed.
use Rattle.std.proofs.Common.{ℕ, ◌<◌, ◌≤◌, List, [], ◌∷◌, length}
use Rattle.std.specs.List.{AllByRecursion}
use Rattle.snp_model.specs.declared.scenario.PageSpec.{PageSpec}
use Rattle.snp_model.specs.declared.scenario.Scenario.{Scenario}
use Rattle.snp_model.specs.GuestMemory.{opening_memory}
use Rattle.snp_model.specs.Holders.{Core}
use Rattle.snp_model.specs.Live.{Archive, vault_of}
use Rattle.snp_model.specs.Opening.{asid_of, words_from, opening}
use Rattle.snp_model.specs.Sound.{Pairwise, IsSound, IsPage, GpnsDiffer}
use Rattle.snp_model.specs.State.{zero_words}
use Rattle.run_laws.proofs.CoreLaws.{frames_core}
use Rattle.run_laws.proofs.OpeningLaws.{IsApartFrom, RangesApart, opening_core, opening_dead}
use Rattle.run_laws.proofs.ShapedLaws.{asid_differs}

-- two guests have two ASIDs, so the opening keeps their pages apart
pages_apart : (c : Scenario) (guest : ℕ) → IsSound c → 0 < guest → guest ≤ length c.guests → (frames : ℕ) (pages : List PageSpec) → AllByRecursion (IsPage frames (length c.guests)) pages
    → AllByRecursion (IsApartFrom c.guests guest) pages
pages_apart c guest sound some most frames [] all = tt
pages_apart c guest sound some most frames (page ∷ pages) all = (
  record { other = λ different. asid_differs c.guests page.guest guest sound.asids_differ all.0.guest_some all.0.guest_most some most different },
  pages_apart c guest sound some most frames pages all.1,
)

ranges_from : (page : PageSpec) (others : List PageSpec) → AllByRecursion (GpnsDiffer page) others → AllByRecursion (RangesApart page) others
ranges_from page [] differ = tt
ranges_from page (other ∷ others) differ = (record { apart = λ q same. differ.0 same q }, ranges_from page others differ.1)

ranges_apart : (pages : List PageSpec) → Pairwise GpnsDiffer pages → Pairwise RangesApart pages
ranges_apart [] differ = tt
ranges_apart (page ∷ pages) differ = (ranges_from page pages differ.0, ranges_apart pages differ.1)

pub opening_holders : (c : Scenario) (guest : ℕ) (archive : Archive) → IsSound c → 0 < guest → guest ≤ length c.guests
    → Core (asid_of c.guests guest) (vault_of guest (opening c).contents archive) (opening_memory c guest)
unfolding opening opening_memory
opening_holders c guest archive sound some most =
    let words = words_from (λ _. zero_words) c.words in
    frames_core (asid_of c.guests guest) (vault_of guest (opening c).contents archive) _ (opening_dead c.guests guest c.pages words (asid_of c.guests guest) archive)
    (opening_core c.guests guest c.pages words (pages_apart c guest sound some most _ c.pages sound.pages) (ranges_apart c.pages sound.gpns_differ))
