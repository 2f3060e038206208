-- What the commits of page_move, page_reclaim and md_init ask, of an attempt that has taken all that its command locks; and what they make of contexts.
use Rattle.std.proofs.Common.{◌≡◌, ◌≢◌, ℕ, suc, ◌<◌, ◌≤◌, ◌^◌, nat_le, false, List, [], ◌∷◌, length, None, Some, slice_get, refl, sym, ap, ◌∙◌, subst, ⊎_elim, arith}
use Rattle.std.proofs.lemmas.Bool.{cases_eq, cond-true, cond-false, eq-eqb, ne_eqb}
use Rattle.std.proofs.lemmas.Bool.Decides.{nat_tests}
use Rattle.std.specs.Option.{option_or}
use Rattle.snp_model.specs.declared.command.Command.{Command}
use Rattle.snp_model.specs.declared.command.Command.TheVariants as commands
use Rattle.snp_model.specs.declared.entry.PageSize.{PageSize}
use Rattle.snp_model.specs.declared.entry.PageSize.TheVariants.{Small}
use Rattle.snp_model.specs.declared.event.FwRefusal.TheVariants as refusals
use Rattle.snp_model.specs.declared.firmware.Part.TheVariants.{Source, Target}
use Rattle.snp_model.specs.declared.scenario.GuestSpec.{GuestSpec}
use Rattle.snp_model.specs.Firmware.{CommandPage, guest_of, invalid_address, pages_of as command_pages}
use Rattle.snp_model.specs.FirmwareCommits.{at_guest, context_after, root_after}
use Rattle.snp_model.specs.FirmwareLocks.{frame_refusal, page_refusal, page_extra, takes_large}
use Rattle.snp_model.specs.FirmwareStep.{command_asid, context_committed, contexts_after, first_lock, lock_refusal}
use Rattle.snp_model.specs.Locks.{page_lock}
use Rattle.snp_model.specs.State.{ActorPart, Computed, Contents, Context, Contexts, Page, PageLock, Pages, Standing}
use Rattle.run_laws.specs.KeptLocks.{OwnsLocks}
use Rattle.run_laws.proofs.CommandTests.{IsReady, has_lock, page_at, same_some}
use Rattle.run_laws.proofs.LockLaws.{first_none}
use Rattle.run_laws.proofs.TestedLaws.{let_through}
use Rattle.machine_core.specs.Bays.{Stock, contents_of, holders_of, pages_of}
use Rattle.machine_core.specs.CommandPages.{HoldsLocks, IsTestedFrame}
use Rattle.machine_core.specs.Ranges.{HoldsLock}
use Rattle.machine_core.proofs.HeldLaws.{holds_lock}

-- the frame of a page that is locked is in memory
pub frame_inside : (frames asid : ℕ) (command : Command) (page : CommandPage) (found : Page) → lock_refusal frames asid command page found None ≡ None → page.frame < frames
unfolding lock_refusal frame_refusal
frame_inside frames asid command page found none =
    let first = first_none (frame_refusal frames page.frame) (option_or (page_refusal command page.part found.facts None asid) (page_extra command page.part asid found.words)) none in
    let fails = (let_through (nat_le frames page.frame) (refusals.Status invalid_address) None first).fails in
    grind (arith, nat_tests)

-- the pages of an attempt's locks are those of its command, so it has no more of them
no_more : {X : Type 0} (locks : List PageLock) (pages : List X) → ((number : ℕ) (lock : PageLock) → slice_get locks number ≡ Some lock → slice_get pages number ≡ None → ⊥) → length locks ≤ length pages
no_more [] pages each = omega arith
no_more (lock ∷ locks) [] each = absurd (each 0 lock refl refl)
no_more (lock ∷ locks) (page ∷ pages) each = let rest = no_more locks pages (λ number l. each (suc number) l) in omega arith

pub few_locks : (frames : ℕ) (guests : List GuestSpec) (contents : Contents) (command : Command) (standing : Standing) → IsReady frames guests contents command standing → length standing.locks ≤ length (command_pages command)
few_locks frames guests contents command standing ready =
    no_more standing.locks (command_pages command) (λ number lock is none. let e = sym (ready.tested.pages number lock is).page_is ∙ none in cc)

pub one_lock : (locks : List PageLock) (lock : PageLock) → length locks ≤ 1 → slice_get locks 0 ≡ Some lock → locks ≡ lock ∷ []
one_lock [] lock few first = absurd cc
one_lock (found ∷ []) lock few first = ap (λ (l : PageLock). l ∷ []) (same_some found lock first)
one_lock (found ∷ next ∷ others) lock few first = absurd (omega (arith, few))

pub two_locks : (locks : List PageLock) (one other : PageLock) → length locks ≤ 2 → slice_get locks 0 ≡ Some one → slice_get locks 1 ≡ Some other → locks ≡ one ∷ other ∷ []
two_locks [] one other few first second = absurd cc
two_locks (found ∷ []) one other few first second = absurd cc
two_locks (found ∷ next ∷ []) one other few first second = λ i. same_some found one first i ∷ same_some next other second i ∷ []
two_locks (found ∷ next ∷ third ∷ others) one other few first second = absurd (omega (arith, few))

-- a page of 4 KB of a command that takes no larger one
pub record IsReadyPage (frames : ℕ) (contents : Contents) (locks : List PageLock) (number frame : ℕ) : Type 0 where
  pub inside : frame < frames
  pub small : (contents.pages frame).facts.size ≡ Small
  pub lock_is : slice_get locks number ≡ Some (page_lock Small frame)

pub small_page : (frames : ℕ) (guests : List GuestSpec) (contents : Contents) (command : Command) (standing : Standing) (number : ℕ) (page : CommandPage) → IsReady frames guests contents command standing
    → slice_get (command_pages command) number ≡ Some page → takes_large command ≡ false → IsReadyPage frames contents standing.locks number page.frame
small_page frames guests contents command standing number page ready is takes =
    let has = has_lock frames guests contents command standing number page ready.tested ready.all is in
    let small = (page_at frames guests contents command standing number page ready is).small takes in
    record {
      inside = frame_inside frames (command_asid guests command) command page (contents.pages page.frame) has.passes;
      small = small;
      lock_is = has.lock_is ∙ ap (λ (lock : PageLock). Some lock) (has.covers_page ∙ ap (λ (size : PageSize). page_lock size page.frame) small);
    }

-- the locks of the actor are those of its attempt
pub holds_locks : (actor : ℕ) (part : ActorPart) (stock : Stock) (locks : List PageLock) → OwnsLocks actor part (holders_of stock.bays) → part.standing.locks ≡ locks → HoldsLocks actor locks stock
holds_locks actor part stock locks owns are = subst (λ (ls : List PageLock). HoldsLocks actor ls stock) are (record { has = owns.has; only = owns.only })

-- what page_move asks
pub record MayMove (actor source target : ℕ) (stock : Stock) : Type 0 where
  pub source_tested : IsTestedFrame source stock
  pub target_tested : IsTestedFrame target stock
  pub holds : HoldsLocks actor (page_lock Small source ∷ page_lock Small target ∷ []) stock

pub move_ready : (frames : ℕ) (guests : List GuestSpec) (actor guest source target : ℕ) (part : ActorPart) (stock : Stock) → frames < 2 ^ 32 → OwnsLocks actor part (holders_of stock.bays)
    → IsReady frames guests (contents_of stock guests) (commands.PageMove guest source target) part.standing → MayMove actor source target stock
unfolding command_pages
move_ready frames guests actor guest source target part stock small owns ready =
    let command = commands.PageMove guest source target in
    let contents = contents_of stock guests in
    let from = small_page frames guests contents command part.standing 0 (record { part = Source; frame = source }) ready refl refl in
    let to = small_page frames guests contents command part.standing 1 (record { part = Target; frame = target }) ready refl refl in
    let from_inside = from.inside in
    let to_inside = to.inside in
    record {
      source_tested = record { below = omega (arith, small, from_inside); small = from.small };
      target_tested = record { below = omega (arith, small, to_inside); small = to.small };
      holds = holds_locks actor part stock _ owns (two_locks part.standing.locks (page_lock Small source) (page_lock Small target) (few_locks frames guests contents command part.standing ready) from.lock_is to.lock_is);
    }

-- what md_init asks
pub record MayMakeMetadata (actor frame : ℕ) (stock : Stock) : Type 0 where
  pub tested : IsTestedFrame frame stock
  pub holds : HoldsLock actor (page_lock Small frame) stock

pub metadata_ready : (frames : ℕ) (guests : List GuestSpec) (actor frame : ℕ) (part : ActorPart) (stock : Stock) → frames < 2 ^ 32 → OwnsLocks actor part (holders_of stock.bays)
    → IsReady frames guests (contents_of stock guests) (commands.MdInit frame) part.standing → MayMakeMetadata actor frame stock
unfolding command_pages
metadata_ready frames guests actor frame part stock small owns ready =
    let command = commands.MdInit frame in
    let contents = contents_of stock guests in
    let page = small_page frames guests contents command part.standing 0 (record { part = Target; frame = frame }) ready refl refl in
    let inside = page.inside in
    record {
      tested = record { below = omega (arith, small, inside); small = page.small };
      holds = holds_lock actor part (page_lock Small frame) stock owns (one_lock part.standing.locks (page_lock Small frame) (few_locks frames guests contents command part.standing ready) page.lock_is);
    }

-- what page_reclaim asks; its one lock is that of the frame's page
pub record MayReclaim (actor frame : ℕ) (locks : List PageLock) (stock : Stock) : Type 0 where
  pub below : frame < 2 ^ 32
  pub holds : HoldsLock actor (page_lock (pages_of stock.bays frame).facts.size frame) stock
  pub lock_is : first_lock locks frame ≡ page_lock (pages_of stock.bays frame).facts.size frame

pub reclaim_ready : (frames : ℕ) (guests : List GuestSpec) (actor frame : ℕ) (part : ActorPart) (stock : Stock) → frames < 2 ^ 32 → OwnsLocks actor part (holders_of stock.bays)
    → IsReady frames guests (contents_of stock guests) (commands.Reclaim frame) part.standing → MayReclaim actor frame part.standing.locks stock
unfolding command_pages
reclaim_ready frames guests actor frame part stock small owns ready =
    let command = commands.Reclaim frame in
    let contents = contents_of stock guests in
    let lock = page_lock (pages_of stock.bays frame).facts.size frame in
    let page : CommandPage = record { part = Target; frame = frame } in
    let has = has_lock frames guests contents command part.standing 0 page ready.tested ready.all refl in
    let inside = frame_inside frames (command_asid guests command) command page (pages_of stock.bays frame) has.passes in
    let are = one_lock part.standing.locks lock (few_locks frames guests contents command part.standing ready) (has.lock_is ∙ ap (λ (l : PageLock). Some l) has.covers_page) in
    record {
      below = omega (arith, small, inside);
      holds = holds_lock actor part lock stock owns are;
      lock_is = ap (λ (locks : List PageLock). first_lock locks frame) are;
    }

-- page_move leaves the context of its guest
same_context : (guest : ℕ) (context : Context) (contexts : Contexts) → context ≡ contexts guest → (g : ℕ) → at_guest guest context contexts g ≡ contexts g
unfolding at_guest
same_context guest context contexts is g =
    ⊎_elim
    (λ (here : guest ≡ g). cond-true _ _ _ (eq-eqb guest g here) ∙ is ∙ ap contexts here)
    (λ (apart : guest ≢ g). cond-false _ _ _ (ne_eqb guest g apart))
    (cases_eq guest g)

pub move_leaves_contexts : (guest source target : ℕ) (made : Computed) (pages : Pages) (contexts : Contexts)
    → contexts_after (guest_of (commands.PageMove guest source target)) (commands.PageMove guest source target) made pages contexts ≡ contexts
unfolding contexts_after context_committed context_after root_after guest_of
move_leaves_contexts guest source target made pages contexts = λ i g. same_context guest (contexts guest) contexts refl g i
