-- What the compute and the commit of a command that seals or opens a page ask, of an attempt that has taken all that its command locks.
use Rattle.std.proofs.Common.{◌≡◌, ◌≢◌, ℕ, ◌<◌, ◌≤◌, ◌^◌, eqb, false, List, [], ◌∷◌, IsSome, length, Some, slice_get, refl, ap, ◌∙◌, subst, arith}
use Rattle.std.proofs.lemmas.Bool.Decides.{nat_tests}
use Rattle.fw_launch.specs.Commits.{HasPassed}
use Rattle.snp_model.specs.declared.command.Command.{Command}
use Rattle.snp_model.specs.declared.command.Command.TheVariants as commands
use Rattle.snp_model.specs.declared.entry.PageSize.TheVariants.{Small}
use Rattle.snp_model.specs.declared.firmware.Part.TheVariants.{Source, Target, Metadata}
use Rattle.snp_model.specs.declared.scenario.GuestSpec.{GuestSpec}
use Rattle.snp_model.specs.Firmware.{CommandPage, any_equal, entry_of, guest_of, has_equal_frames, pages_of as command_pages, three_pages, two_pages}
use Rattle.snp_model.specs.FirmwareLocks.{takes_large}
use Rattle.snp_model.specs.Locks.{page_lock}
use Rattle.snp_model.specs.Sealing.{What, GuestPage, MetadataPage, Slot, OfEntry, OfRoot, Sealing, SealOut, SealIn, sealing_of}
use Rattle.snp_model.specs.State.{ActorPart, PageLock}
use Rattle.run_laws.proofs.CommandTests.{context_at, same_some}
use Rattle.machine_core.specs.declared.sealing.Sealing as sealings
use Rattle.machine_core.specs.declared.sealing.Way as ways
use Rattle.machine_core.specs.declared.sealing.Way.TheVariants as way_variants
use Rattle.machine_core.specs.Bays.{HasFrame, Stock, contents_of, contexts_of}
use Rattle.machine_core.specs.CommandPages.{HoldsLocks, IsTestedFrame}
use Rattle.machine_core.specs.Commands.{HoldsContext}
use Rattle.machine_core.specs.Commits.{IsBoundedCommand, MayCommit}
use Rattle.machine_core.specs.Seals.{HasSlot, MaySwap, sealed_by, sealing_by, sealing_locks, slot_by, what_by}
use Rattle.machine_core.proofs.CommitLaws.{ready}
use Rattle.machine_core.proofs.GuestCommitLaws.{has_passed, holds_context}
use Rattle.machine_core.proofs.PhaseLaws.{frame_has, guest_has}
use Rattle.machine_core.proofs.ReadyLaws.{few_locks, holds_locks, small_page, two_locks}

-- of the pages of a command: they are there and small, the actor has locked them alone, and they aren't one
pub record HasPages (actor source target : ℕ) (slot : Slot) (stock : Stock) : Type 0 where
  pub source_has : HasFrame stock source
  pub target_has : HasFrame stock target
  pub slot_has : HasSlot slot stock
  pub source_tested : IsTestedFrame source stock
  pub target_tested : IsTestedFrame target stock
  pub holds : HoldsLocks actor (sealing_locks source target slot) stock
  pub apart : source ≢ target

-- and of its guest
pub record HasGuest (actor guest : ℕ) (command : Command) (stock : Stock) : Type 0 where
  pub named : guest_of command ≡ Some guest
  pub has : IsSome (stock.contexts guest)
  pub holds : HoldsContext actor guest stock
  pub tested : (guests : List GuestSpec) × HasPassed command (contexts_of stock.contexts guests guest)

pub record IsReadySwap (actor guest source target : ℕ) (slot : Slot) (command : Command) (stock : Stock) : Type 0 where
  pub pages : HasPages actor source target slot stock
  pub owner : HasGuest actor guest command stock

-- One page beside the other two

three_locks : (locks : List PageLock) (one other third : PageLock) → length locks ≤ 3 → slice_get locks 0 ≡ Some one → slice_get locks 1 ≡ Some other → slice_get locks 2 ≡ Some third → locks ≡ one ∷ other ∷ third ∷ []
three_locks [] one other third few first second last = absurd cc
three_locks (found ∷ []) one other third few first second last = absurd cc
three_locks (found ∷ next ∷ []) one other third few first second last = absurd cc
three_locks (found ∷ next ∷ more ∷ []) one other third few first second last = λ i. same_some found one first i ∷ same_some next other second i ∷ same_some more third last i ∷ []
three_locks (found ∷ next ∷ more ∷ fourth ∷ others) one other third few first second last = absurd (omega (arith, few))

-- by the frames of the command
three_ready : (frames : ℕ) (guests : List GuestSpec) (actor source target metadata number : ℕ) (command : Command) (part : ActorPart) (stock : Stock) → frames < 2 ^ 32 → MayCommit frames guests actor command part stock
    → command_pages command ≡ three_pages source target metadata → takes_large command ≡ false → any_equal source target metadata ≡ false → number < 64 → HasPages actor source target (OfEntry metadata number) stock
three_ready frames guests actor source target metadata number command part stock few may pages takes apart below =
    let contents = contents_of stock guests in
    let is_ready = ready frames guests actor command part stock may in
    let at = λ (place : ℕ). λ (page : CommandPage). λ (is : slice_get (three_pages source target metadata) place ≡ Some page). ap (λ (ps : List CommandPage). slice_get ps place) pages ∙ is in
    let first : CommandPage = record { part = Source; frame = source } in
    let second : CommandPage = record { part = Target; frame = target } in
    let third : CommandPage = record { part = Metadata; frame = metadata } in
    let from = small_page frames guests contents command part.standing 0 first is_ready (at 0 first refl) takes in
    let to = small_page frames guests contents command part.standing 1 second is_ready (at 1 second refl) takes in
    let table = small_page frames guests contents command part.standing 2 third is_ready (at 2 third refl) takes in
    let from_inside = from.inside in
    let to_inside = to.inside in
    let table_inside = table.inside in
    let most = few_locks frames guests contents command part.standing is_ready in
    let count = ap (λ (ps : List CommandPage). length ps) pages in
    let locks = three_locks part.standing.locks (page_lock Small source) (page_lock Small target) (page_lock Small metadata) (omega (arith, most, count)) from.lock_is to.lock_is table.lock_is in
    record {
      source_has = frame_has part.standing command 0 first stock may.has (at 0 first refl);
      target_has = frame_has part.standing command 1 second stock may.has (at 1 second refl);
      slot_has = record { has = frame_has part.standing command 2 third stock may.has (at 2 third refl); below = omega (arith, few, table_inside); number_below = below };
      source_tested = record { below = omega (arith, few, from_inside); small = from.small };
      target_tested = record { below = omega (arith, few, to_inside); small = to.small };
      holds = holds_locks actor part stock _ may.owns locks;
      apart = grind (arith, nat_tests);
    }

two_ready : (frames : ℕ) (guests : List GuestSpec) (actor source target : ℕ) (command : Command) (part : ActorPart) (stock : Stock) → frames < 2 ^ 32 → MayCommit frames guests actor command part stock
    → command_pages command ≡ two_pages source target → takes_large command ≡ false → eqb source target ≡ false → HasPages actor source target OfRoot stock
two_ready frames guests actor source target command part stock few may pages takes apart =
    let contents = contents_of stock guests in
    let is_ready = ready frames guests actor command part stock may in
    let at = λ (place : ℕ). λ (page : CommandPage). λ (is : slice_get (two_pages source target) place ≡ Some page). ap (λ (ps : List CommandPage). slice_get ps place) pages ∙ is in
    let first : CommandPage = record { part = Source; frame = source } in
    let second : CommandPage = record { part = Target; frame = target } in
    let from = small_page frames guests contents command part.standing 0 first is_ready (at 0 first refl) takes in
    let to = small_page frames guests contents command part.standing 1 second is_ready (at 1 second refl) takes in
    let from_inside = from.inside in
    let to_inside = to.inside in
    let most = few_locks frames guests contents command part.standing is_ready in
    let count = ap (λ (ps : List CommandPage). length ps) pages in
    let locks = two_locks part.standing.locks (page_lock Small source) (page_lock Small target) (omega (arith, most, count)) from.lock_is to.lock_is in
    record {
      source_has = frame_has part.standing command 0 first stock may.has (at 0 first refl);
      target_has = frame_has part.standing command 1 second stock may.has (at 1 second refl);
      slot_has = tt;
      source_tested = record { below = omega (arith, few, from_inside); small = from.small };
      target_tested = record { below = omega (arith, few, to_inside); small = to.small };
      holds = holds_locks actor part stock _ may.owns locks;
      apart = grind (arith, nat_tests);
    }

-- by its guest
guest_ready : (frames : ℕ) (guests : List GuestSpec) (actor guest : ℕ) (command : Command) (part : ActorPart) (stock : Stock) → MayCommit frames guests actor command part stock → guest_of command ≡ Some guest → HasGuest actor guest command stock
guest_ready frames guests actor guest command part stock may named =
    let locked = may.held guest named in
    record {
      named = named;
      has = guest_has part.standing command guest stock may.has named;
      holds = holds_context actor guest part stock may.owns_context locked;
      tested = (guests, has_passed frames guests guest command part stock (ready frames guests actor command part stock may) locked);
    }

-- no two of its frames are equal
apart_by : (frames : ℕ) (guests : List GuestSpec) (actor guest : ℕ) (command : Command) (part : ActorPart) (stock : Stock) → MayCommit frames guests actor command part stock → guest_of command ≡ Some guest → has_equal_frames command ≡ false
apart_by frames guests actor guest command part stock may named = (context_at frames guests (contents_of stock guests) command part.standing guest (ready frames guests actor command part stock may) named).apart

-- So by what it seals or opens

abbrev IsReadyFor : ℕ → Command → Stock → Sealing → Type 0
IsReadyFor actor command stock (SealOut what guest source target slot) = IsReadySwap actor guest source target slot command stock
IsReadyFor actor command stock (SealIn what guest source target slot) = IsReadySwap actor guest source target slot command stock

by_command : (frames : ℕ) (guests : List GuestSpec) (actor : ℕ) (command : Command) (part : ActorPart) (stock : Stock) (sealing : Sealing) → frames < 2 ^ 32 → IsBoundedCommand command → MayCommit frames guests actor command part stock
    → sealing_of command ≡ Some sealing → IsReadyFor actor command stock sealing
unfolding sealing_of command_pages guest_of entry_of has_equal_frames
by_command frames guests actor (commands.GctxCreate guest frame) part stock sealing few is may seals = absurd cc
by_command frames guests actor (commands.Activate guest asid) part stock sealing few is may seals = absurd cc
by_command frames guests actor (commands.LaunchStart guest) part stock sealing few is may seals = absurd cc
by_command frames guests actor (commands.LaunchUpdate guest frame page_type imi perms) part stock sealing few is may seals = absurd cc
by_command frames guests actor (commands.LaunchFinish guest) part stock sealing few is may seals = absurd cc
by_command frames guests actor (commands.MdInit frame) part stock sealing few is may seals = absurd cc
by_command frames guests actor (commands.PageMove guest source target) part stock sealing few is may seals = absurd cc
by_command frames guests actor (commands.Reclaim frame) part stock sealing few is may seals = absurd cc
by_command frames guests actor (commands.SwapOut guest source target metadata entry) part stock sealing few is may seals =
    let command = commands.SwapOut guest source target metadata entry in
    let found : IsReadySwap actor guest source target (OfEntry metadata entry) command stock = record {
      pages = three_ready frames guests actor source target metadata entry command part stock few may refl refl (apart_by frames guests actor guest command part stock may refl) is.entry;
      owner = guest_ready frames guests actor guest command part stock may refl;
    } in
    subst (IsReadyFor actor command stock) (same_some (SealOut GuestPage guest source target (OfEntry metadata entry)) sealing seals) found
by_command frames guests actor (commands.SwapIn guest source target metadata entry) part stock sealing few is may seals =
    let command = commands.SwapIn guest source target metadata entry in
    let found : IsReadySwap actor guest source target (OfEntry metadata entry) command stock = record {
      pages = three_ready frames guests actor source target metadata entry command part stock few may refl refl (apart_by frames guests actor guest command part stock may refl) is.entry;
      owner = guest_ready frames guests actor guest command part stock may refl;
    } in
    subst (IsReadyFor actor command stock) (same_some (SealIn GuestPage guest source target (OfEntry metadata entry)) sealing seals) found
by_command frames guests actor (commands.MdOut guest source target metadata entry) part stock sealing few is may seals =
    let command = commands.MdOut guest source target metadata entry in
    let found : IsReadySwap actor guest source target (OfEntry metadata entry) command stock = record {
      pages = three_ready frames guests actor source target metadata entry command part stock few may refl refl (apart_by frames guests actor guest command part stock may refl) is.entry;
      owner = guest_ready frames guests actor guest command part stock may refl;
    } in
    subst (IsReadyFor actor command stock) (same_some (SealOut MetadataPage guest source target (OfEntry metadata entry)) sealing seals) found
by_command frames guests actor (commands.MdIn guest source target metadata entry) part stock sealing few is may seals =
    let command = commands.MdIn guest source target metadata entry in
    let found : IsReadySwap actor guest source target (OfEntry metadata entry) command stock = record {
      pages = three_ready frames guests actor source target metadata entry command part stock few may refl refl (apart_by frames guests actor guest command part stock may refl) is.entry;
      owner = guest_ready frames guests actor guest command part stock may refl;
    } in
    subst (IsReadyFor actor command stock) (same_some (SealIn MetadataPage guest source target (OfEntry metadata entry)) sealing seals) found
by_command frames guests actor (commands.MdRootOut guest source target) part stock sealing few is may seals =
    let command = commands.MdRootOut guest source target in
    let found : IsReadySwap actor guest source target OfRoot command stock = record {
      pages = two_ready frames guests actor source target command part stock few may refl refl (apart_by frames guests actor guest command part stock may refl);
      owner = guest_ready frames guests actor guest command part stock may refl;
    } in
    subst (IsReadyFor actor command stock) (same_some (SealOut MetadataPage guest source target OfRoot) sealing seals) found
by_command frames guests actor (commands.MdRootIn guest source target) part stock sealing few is may seals =
    let command = commands.MdRootIn guest source target in
    let found : IsReadySwap actor guest source target OfRoot command stock = record {
      pages = two_ready frames guests actor source target command part stock few may refl refl (apart_by frames guests actor guest command part stock may refl);
      owner = guest_ready frames guests actor guest command part stock may refl;
    } in
    subst (IsReadyFor actor command stock) (same_some (SealIn MetadataPage guest source target OfRoot) sealing seals) found

by_way : (actor : ℕ) (command : Command) (stock : Stock) (way : ways.Way) (what : What) (guest source target : ℕ) (slot : Slot) → IsReadyFor actor command stock (sealed_by way what guest source target slot) → IsReadySwap actor guest source target slot command stock
by_way actor command stock way_variants.Out what guest source target slot is = is
by_way actor command stock way_variants.In what guest source target slot is = is

pub swap_ready : (frames : ℕ) (guests : List GuestSpec) (actor : ℕ) (command : Command) (part : ActorPart) (stock : Stock) (sealing : sealings.Sealing) → frames < 2 ^ 32 → IsBoundedCommand command → MayCommit frames guests actor command part stock
    → sealing_of command ≡ Some (sealing_by sealing) → IsReadySwap actor sealing.guest sealing.source sealing.target (slot_by sealing.slot) command stock
swap_ready frames guests actor command part stock sealing few is may seals =
    by_way actor command stock sealing.way (what_by sealing.what) sealing.guest sealing.source sealing.target (slot_by sealing.slot)
    (by_command frames guests actor command part stock (sealing_by sealing) few is may seals)

pub may_swap : (actor : ℕ) (command : Command) (stock : Stock) (sealing : sealings.Sealing) → IsReadySwap actor sealing.guest sealing.source sealing.target (slot_by sealing.slot) command stock → MaySwap actor sealing stock
may_swap actor command stock sealing is = record {
  source_has = is.pages.source_has;
  target_has = is.pages.target_has;
  slot_has = is.pages.slot_has;
  source_tested = is.pages.source_tested;
  target_tested = is.pages.target_tested;
  holds = is.pages.holds;
}
