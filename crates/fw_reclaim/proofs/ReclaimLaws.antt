-- Pages that are taken back as a whole.
use Rattle.std.proofs.Common.{◌≡◌, ◌≢◌, ℕ, ◌+◌, ◌-◌, ◌*◌, ◌/◌, ◌%◌, ◌<◌, ◌≤◌, ◌==◌, Bool, true, false, not, if◌then◌else◌, List, [], length, replicate, refl, sym, ap, ◌∙◌, inl, inr, ◌⊎◌, arith}
use Rattle.std.proofs.lemmas.Bool.{cases_eq, cases_lt, cond-true, cond-false, eq-eqb, ne_eqb}
use Rattle.std.proofs.lemmas.List.{get_or-set_same, get_or-set_other, get_or_past}
use Rattle.snp_model.specs.declared.entry.Kind.{Kind}
use Rattle.snp_model.specs.declared.entry.Kind.TheVariants as kinds
use Rattle.snp_model.specs.declared.entry.PageSize.{PageSize}
use Rattle.snp_model.specs.declared.entry.PageSize.TheVariants.{Small, Large}
use Rattle.snp_model.specs.declared.entry.RmpEntry.{RmpEntry}
use Rattle.snp_model.specs.declared.firmware.PageState.{PageState}
use Rattle.snp_model.specs.declared.firmware.PageState.TheVariants as states
use Rattle.snp_model.specs.Entries.{Entries, IsTable, facts_at, facts_within, region_pages}
use Rattle.snp_model.specs.Facts.{frames_in, page_base}
use Rattle.snp_model.specs.FirmwareCommits.{given_back_facts, gpn_from_zero, reclaim_facts, reclaimed_as, reclaimed_page, released}
use Rattle.snp_model.specs.Locks.{over_lock, page_lock}
use Rattle.snp_model.specs.PageStates.{firmware_state, state_of}
use Rattle.snp_model.specs.RegionWords.{page_at, page_set}
use Rattle.snp_model.specs.State.{Page, zero_words}
use Rattle.snp_model.specs.Verdicts.{is_large}
use Rattle.snp_model.proofs.EntriesLaws.{IsOfPage, over_alike, over_is}
use Rattle.snp_model.proofs.RegionPagesLaws.{InPage, entry_over, frame_within}

-- ---- words

-- one page more has zero words
pub zeros_more : (memory : List (List ℕ)) (i : ℕ) → i < length memory → ((k : ℕ) → k < i → page_at memory k ≡ zero_words) → (k : ℕ) → k < i + 1 → page_at (page_set memory i (replicate 512 0)) k ≡ zero_words
unfolding zero_words
zeros_more memory i inside before k below = elim (cases_eq k i) [
  | inl here ↦ ap (page_at (page_set memory i (replicate 512 0))) here ∙ get_or-set_same memory i (replicate 512 0) [] inside
  | inr past ↦ get_or-set_other memory i k (replicate 512 0) [] past ∙ before k (omega (arith, past))
]

-- the page of 4 KB has
pub emptied_small : (memory new : List (List ℕ)) (slot : ℕ) → slot < length memory → new ≡ page_set memory slot (replicate 512 0)
    → page_at new ≡ over_lock (page_lock Small slot) (λ words. zero_words) (page_at memory)
unfolding zero_words
emptied_small memory new slot inside is =
    over_is (page_at new) (page_at memory) slot 1 (λ place words. replicate 512 0)
    (λ k low high.
    let here : k ≡ slot = omega arith in
    (λ i. page_at (is i) k) ∙ ap (page_at (page_set memory slot (replicate 512 0))) here ∙ get_or-set_same memory slot (replicate 512 0) [] inside)
    (λ k out. (λ i. page_at (is i) k) ∙ get_or-set_other memory slot k (replicate 512 0) [] (λ e. out (omega arith) (omega arith)))

past_region : (slot k : ℕ) → slot < 512 → (slot / 512 * 512 ≤ k → k < slot / 512 * 512 + 512 → ⊥) → 512 ≤ k
past_region slot k below out = elim (cases_lt k 512) [
  | inl inside ↦ absurd (out (omega arith) (omega arith))
  | inr past ↦ past
]

-- the page of 2 MB has, which is the whole region
pub emptied_large : (memory new : List (List ℕ)) (slot : ℕ) → slot < 512 → length memory ≡ 512 → length new ≡ 512 → ((k : ℕ) → k < 512 → page_at new k ≡ zero_words)
    → page_at new ≡ over_lock (page_lock Large slot) (λ words. zero_words) (page_at memory)
emptied_large memory new slot below long long' each =
    over_is (page_at new) (page_at memory) (slot / 512 * 512) 512 (λ place words. zero_words)
    (λ k low high. each k (omega arith))
    (λ k out.
    let past : 512 ≤ k = past_region slot k below out in
    get_or_past new k [] (omega arith) ∙ sym (get_or_past memory k [] (omega arith)))

-- by the size that is asked
pub by_size : (memory new : List (List ℕ)) (slot : ℕ) (known size : PageSize) → size ≡ known → page_at new ≡ over_lock (page_lock known slot) (λ words. zero_words) (page_at memory)
    → page_at new ≡ over_lock (page_lock size slot) (λ words. zero_words) (page_at memory)
by_size memory new slot known size is emptied = emptied ∙ ap (λ (s : PageSize). over_lock (page_lock s slot) (λ words. zero_words) (page_at memory)) (sym is)

-- ---- facts

-- a page of a guest is given back as a whole
pub given_back_of_page : IsOfPage given_back_facts
unfolding given_back_facts
given_back_of_page = record { same_size = λ entry. refl; follows = λ entry place. refl }

-- a frame of a page that becomes Reclaim
reclaimed_gpn : (head : RmpEntry) (size : PageSize) (p : ℕ) → head.size ≡ size → p < frames_in size → (size ≡ Large → head.gpn % 512 ≡ 0) → 0 + p ≡ gpn_from_zero (facts_within head p)
reclaimed_gpn head Small p is below aligned = let none : 0 + p ≡ 0 = omega arith in none ∙ sym (cond-false _ _ _ (ap is_large is))
reclaimed_gpn head Large p is below aligned =
    let first : head.gpn % 512 ≡ 0 = aligned refl in
    let place : 0 + p ≡ (head.gpn + p) % 512 = omega arith in
    place ∙ sym (cond-true _ _ _ (ap is_large is))

reclaimed_within : (head : RmpEntry) (size : PageSize) (p : ℕ) → head.size ≡ size → p < frames_in size → (size ≡ Large → head.gpn % 512 ≡ 0)
    → facts_within (record head { validated = false; immutable = false; gpn = 0; asid = 0; vmsa = false; perms = replicate 4 0; kind = kinds.Plain }) p ≡ reclaim_facts (facts_within head p)
unfolding reclaim_facts
reclaimed_within head size p is below aligned = λ i.
    record head { validated = false; immutable = false; gpn = reclaimed_gpn head size p is below aligned i; asid = 0; vmsa = false; perms = replicate 4 0; kind = kinds.Plain }

pub reclaimed_frame : (rmp : Entries) (slot k : ℕ) (head : RmpEntry) → IsTable rmp → slot < 512 → InPage rmp slot k → head ≡ facts_at rmp (page_base (facts_at rmp slot).size slot) → head.size ≡ (facts_at rmp slot).size
    → (head.size ≡ Large → head.gpn % 512 ≡ 0)
    → facts_within (record head { validated = false; immutable = false; gpn = 0; asid = 0; vmsa = false; perms = replicate 4 0; kind = kinds.Plain }) (k - page_base (facts_at rmp slot).size slot) ≡ reclaim_facts (facts_at rmp k)
reclaimed_frame rmp slot k head table below in_page is size aligned =
    reclaimed_within head (facts_at rmp slot).size (k - page_base (facts_at rmp slot).size slot) size (omega (arith, in_page.low, in_page.high)) (λ large. aligned (size ∙ large))
    ∙ ap reclaim_facts (ap (λ (e : RmpEntry). facts_within e (k - page_base (facts_at rmp slot).size slot)) is ∙ sym (frame_within rmp slot k table below in_page))

-- the entry of a page of 2 MB is aligned
pub head_aligned : (rmp : Entries) (slot : ℕ) (head : RmpEntry) → IsTable rmp → slot < 512 → head ≡ facts_at rmp (page_base (facts_at rmp slot).size slot) → head.size ≡ (facts_at rmp slot).size
    → head.size ≡ Large → head.gpn % 512 ≡ 0
head_aligned rmp slot head table below is size large =
    let page = table.one_page slot below (sym size ∙ large) in
    let first : slot / 512 * 512 ≡ 0 = omega arith in
    let base : page_base (facts_at rmp slot).size slot ≡ 0 = ap (λ (s : PageSize). page_base s slot) (sym size ∙ large) ∙ first in
    ap (λ (entry : RmpEntry). entry.gpn % 512) (is ∙ ap (facts_at rmp) base) ∙ page.aligned

-- ---- states

-- the state, by what it is told by
state_as : (facts : RmpEntry) (assigned own immutable : Bool) → facts.assigned ≡ assigned → (facts.asid == 0) ≡ own → facts.immutable ≡ immutable
    → state_of facts ≡ (if not assigned then states.Hypervisor else if own then (if immutable then firmware_state facts.kind else states.Reclaim) else if immutable then (if facts.validated then states.PreSwap else states.PreGuest) else (if facts.validated then states.GuestValid else states.GuestInvalid))
unfolding state_of
state_as facts assigned own immutable a o i = λ z.
    if not (a z) then states.Hypervisor else if o z then (if i z then firmware_state facts.kind else states.Reclaim) else if i z then (if facts.validated then states.PreSwap else states.PreGuest) else (if facts.validated then states.GuestValid else states.GuestInvalid)

-- a page that isn't immutable stays
mutable_stays : (page : Page) (own validated : Bool) → reclaimed_as (if own then states.Reclaim else (if validated then states.GuestValid else states.GuestInvalid)) page ≡ page
mutable_stays page true validated = refl
mutable_stays page false true = refl
mutable_stays page false false = refl

stays : (page : Page) → (page.facts.assigned ≡ false) ⊎ ((page.facts.assigned ≡ true) × (page.facts.immutable ≡ false)) → reclaimed_page page ≡ page
unfolding reclaimed_page
stays page (inl free) = ap (λ (state : PageState). reclaimed_as state page) (state_as page.facts false (page.facts.asid == 0) page.facts.immutable free refl refl)
stays page (inr mutable) =
    ap (λ (state : PageState). reclaimed_as state page) (state_as page.facts true (page.facts.asid == 0) false mutable.0 refl mutable.1)
    ∙ mutable_stays page (page.facts.asid == 0) page.facts.validated

-- one of a guest is given back
given_back_by : (page : Page) (validated : Bool) → reclaimed_as (if validated then states.PreSwap else states.PreGuest) page ≡ record page { facts = given_back_facts page.facts }
given_back_by page true = refl
given_back_by page false = refl

given_back : (page : Page) → page.facts.assigned ≡ true → page.facts.asid ≢ 0 → page.facts.immutable ≡ true → reclaimed_page page ≡ record page { facts = given_back_facts page.facts }
unfolding reclaimed_page
given_back page assigned owned immutable =
    ap (λ (state : PageState). reclaimed_as state page) (state_as page.facts true false true assigned (ne_eqb page.facts.asid 0 owned) immutable)
    ∙ given_back_by page page.facts.validated

-- one of the firmware is released, but for a context
released_by : (page : Page) (kind : Kind) → kind ≢ kinds.Context → reclaimed_as (firmware_state kind) page ≡ released page
released_by page kinds.Plain other = refl
released_by page kinds.Firmware other = refl
released_by page kinds.Context other = absurd (other refl)
released_by page kinds.Metadata other = refl

is_released : (page : Page) → page.facts.assigned ≡ true → page.facts.asid ≡ 0 → page.facts.immutable ≡ true → page.facts.kind ≢ kinds.Context → reclaimed_page page ≡ released page
unfolding reclaimed_page
is_released page assigned owned immutable other =
    ap (λ (state : PageState). reclaimed_as state page) (state_as page.facts true true true assigned (eq-eqb page.facts.asid 0 owned) immutable)
    ∙ released_by page page.facts.kind other

context_by : (page : Page) (kind : Kind) → kind ≡ kinds.Context → reclaimed_as (firmware_state kind) page ≡ page
context_by page kind is = ap (λ (k : Kind). reclaimed_as (firmware_state k) page) is

context_stays : (page : Page) → page.facts.assigned ≡ true → page.facts.asid ≡ 0 → page.facts.immutable ≡ true → page.facts.kind ≡ kinds.Context → reclaimed_page page ≡ page
unfolding reclaimed_page
context_stays page assigned owned immutable is =
    ap (λ (state : PageState). reclaimed_as state page) (state_as page.facts true true true assigned (eq-eqb page.facts.asid 0 owned) immutable)
    ∙ context_by page page.facts.kind is

-- ---- all frames of a page

-- the entry of the page in which a frame stands
pub record IsHeadOf (rmp : Entries) (slot : ℕ) (head : RmpEntry) : Type 0 where
  pub table : IsTable rmp
  pub below : slot < 512
  pub is : head ≡ facts_at rmp (page_base (facts_at rmp slot).size slot)

-- a field that isn't the page number is that of the page's entry
same_field : {X : Type 0} (field : RmpEntry → X) → ((entry : RmpEntry) (place : ℕ) → field (facts_within entry place) ≡ field entry) → (rmp : Entries) (slot k : ℕ) (head : RmpEntry) → IsHeadOf rmp slot head → InPage rmp slot k
    → field (facts_at rmp k) ≡ field head
same_field field alike rmp slot k head of in_page =
    ap field (frame_within rmp slot k of.table of.below in_page) ∙ alike _ _ ∙ ap field (sym of.is)

-- they all stay
all_stay : (memory : List (List ℕ)) (rmp : Entries) (slot : ℕ) → ((k : ℕ) → InPage rmp slot k → reclaimed_page (region_pages memory rmp k) ≡ region_pages memory rmp k)
    → region_pages memory rmp ≡ over_lock (page_lock (facts_at rmp slot).size slot) reclaimed_page (region_pages memory rmp)
all_stay memory rmp slot each =
    let lock = page_lock (facts_at rmp slot).size slot in
    over_is (region_pages memory rmp) (region_pages memory rmp) lock.base lock.count (λ place. reclaimed_page) (λ k low high. sym (each k (record { low = low; high = high }))) (λ k out. refl)

-- they are all changed as another change does it
all_alike : (memory : List (List ℕ)) (rmp : Entries) (slot : ℕ) (change : Page → Page) → ((k : ℕ) → InPage rmp slot k → reclaimed_page (region_pages memory rmp k) ≡ change (region_pages memory rmp k))
    → over_lock (page_lock (facts_at rmp slot).size slot) change (region_pages memory rmp) ≡ over_lock (page_lock (facts_at rmp slot).size slot) reclaimed_page (region_pages memory rmp)
all_alike memory rmp slot change each =
    let lock = page_lock (facts_at rmp slot).size slot in
    over_alike lock.base lock.count (λ place. change) (λ place. reclaimed_page) (region_pages memory rmp) (λ k low high. sym (each k (record { low = low; high = high })))

-- a page that isn't assigned, or isn't immutable
pub frames_stay : (memory : List (List ℕ)) (rmp : Entries) (slot : ℕ) (head : RmpEntry) → IsHeadOf rmp slot head → (head.assigned ≡ false) ⊎ ((head.assigned ≡ true) × (head.immutable ≡ false))
    → region_pages memory rmp ≡ over_lock (page_lock (facts_at rmp slot).size slot) reclaimed_page (region_pages memory rmp)
frames_stay memory rmp slot head of (inl free) = all_stay memory rmp slot (λ k in_page.
    stays (region_pages memory rmp k) (inl (same_field (λ entry. entry.assigned) (λ entry place. refl) rmp slot k head of in_page ∙ free)))
frames_stay memory rmp slot head of (inr mutable) = all_stay memory rmp slot (λ k in_page.
    stays (region_pages memory rmp k) (inr (
      same_field (λ entry. entry.assigned) (λ entry place. refl) rmp slot k head of in_page ∙ mutable.0,
      same_field (λ entry. entry.immutable) (λ entry place. refl) rmp slot k head of in_page ∙ mutable.1,
    )))

-- an immutable page of a guest
pub frames_given_back : (memory : List (List ℕ)) (rmp rmp' : Entries) (slot : ℕ) (head : RmpEntry) → IsHeadOf rmp slot head → head.assigned ≡ true → head.immutable ≡ true → head.asid ≢ 0
    → facts_at rmp' ≡ over_lock (page_lock (facts_at rmp slot).size slot) given_back_facts (facts_at rmp)
    → region_pages memory rmp' ≡ over_lock (page_lock (facts_at rmp slot).size slot) reclaimed_page (region_pages memory rmp)
frames_given_back memory rmp rmp' slot head of assigned immutable owned changed =
    let change = λ (page : Page). record page { facts = given_back_facts page.facts } in
    entry_over memory rmp rmp' slot given_back_facts change changed (λ k in_page. refl)
    ∙ all_alike memory rmp slot change (λ k in_page.
    given_back (region_pages memory rmp k)
    (same_field (λ entry. entry.assigned) (λ entry place. refl) rmp slot k head of in_page ∙ assigned)
    (λ none. owned (sym (same_field (λ entry. entry.asid) (λ entry place. refl) rmp slot k head of in_page) ∙ none))
    (same_field (λ entry. entry.immutable) (λ entry place. refl) rmp slot k head of in_page ∙ immutable))

-- an immutable page that no guest owns, but for a context
pub frames_released : (memory : List (List ℕ)) (rmp : Entries) (slot : ℕ) (head : RmpEntry) → IsHeadOf rmp slot head → head.assigned ≡ true → head.immutable ≡ true → head.asid ≡ 0 → head.kind ≢ kinds.Context
    → over_lock (page_lock (facts_at rmp slot).size slot) released (region_pages memory rmp) ≡ over_lock (page_lock (facts_at rmp slot).size slot) reclaimed_page (region_pages memory rmp)
frames_released memory rmp slot head of assigned immutable owned other = all_alike memory rmp slot released (λ k in_page.
    is_released (region_pages memory rmp k)
    (same_field (λ entry. entry.assigned) (λ entry place. refl) rmp slot k head of in_page ∙ assigned)
    (same_field (λ entry. entry.asid) (λ entry place. refl) rmp slot k head of in_page ∙ owned)
    (same_field (λ entry. entry.immutable) (λ entry place. refl) rmp slot k head of in_page ∙ immutable)
    (λ context. other (sym (same_field (λ entry. entry.kind) (λ entry place. refl) rmp slot k head of in_page) ∙ context)))

-- and a context
pub contexts_stay : (memory : List (List ℕ)) (rmp : Entries) (slot : ℕ) (head : RmpEntry) → IsHeadOf rmp slot head → head.assigned ≡ true → head.immutable ≡ true → head.asid ≡ 0 → head.kind ≡ kinds.Context
    → region_pages memory rmp ≡ over_lock (page_lock (facts_at rmp slot).size slot) reclaimed_page (region_pages memory rmp)
contexts_stay memory rmp slot head of assigned immutable owned context = all_stay memory rmp slot (λ k in_page.
    context_stays (region_pages memory rmp k)
    (same_field (λ entry. entry.assigned) (λ entry place. refl) rmp slot k head of in_page ∙ assigned)
    (same_field (λ entry. entry.asid) (λ entry place. refl) rmp slot k head of in_page ∙ owned)
    (same_field (λ entry. entry.immutable) (λ entry place. refl) rmp slot k head of in_page ∙ immutable)
    (same_field (λ entry. entry.kind) (λ entry place. refl) rmp slot k head of in_page ∙ context))
