-- A journal whose actors and outcomes are kept apart from its events.
use Rattle.std.specs.Prelude.{◌≡◌, ℕ, zero, suc, ◌+◌, ◌-◌, ◌^◌, ◌≤◌, Bool, true, nat_le, List, [], ◌∷◌, length, slice_get, Option, Some, None}
use Rattle.std.specs.List.{list_all}
use Rattle.snp_model.specs.declared.event.Deed.{Deed}
use Rattle.snp_model.specs.declared.event.Deed.TheVariants as deeds
use Rattle.snp_model.specs.declared.event.Event.{Event}
use Rattle.snp_model.specs.declared.event.Outcome.{Outcome}
use Rattle.run_journal.specs.declared.short.Mark.{Mark}
use Rattle.run_journal.specs.declared.short.Short.{Short}
use Rattle.run_journal.specs.declared.short.ShortDeed.{ShortDeed}
use Rattle.run_journal.specs.declared.short.ShortDeed.TheVariants as shorts

-- the deed of a short form
abbrev pub whole_deed : ShortDeed → Deed
whole_deed shorts.Begin = deeds.Begin
whole_deed (shorts.Nested index frame value) = deeds.Nested frame index value
whole_deed (shorts.Table index frame gpn value) = deeds.Table gpn index frame (Some value)
whole_deed (shorts.RefusedTable index frame gpn) = deeds.Table gpn index frame None
whole_deed (shorts.Access private index frame gpn) = deeds.Access gpn index frame private
whole_deed (shorts.Host index frame) = deeds.Host frame index
whole_deed (shorts.Lock frame) = deeds.Lock frame
whole_deed (shorts.LockContext guest) = deeds.LockContext guest
whole_deed shorts.Compute = deeds.Compute
whole_deed (shorts.Commit size frame gpn) = deeds.Commit frame gpn size
whole_deed (shorts.CommitContext guest) = deeds.CommitContext guest
whole_deed shorts.Control = deeds.Control

-- the outcome before a place, or none for place 0
abbrev pub outcome_at : List Outcome → ℕ → Option Outcome
outcome_at outcomes zero = None
outcome_at outcomes (suc place) = slice_get outcomes place

-- an event of a short form and an outcome
abbrev pub whole_event : Short → Option Outcome → Event
whole_event short outcome = record { item = short.item; attempt = short.attempt; deed = whole_deed short.deed; outcome = outcome }

-- an event and its actor
abbrev pub entry_of : List Outcome → Mark → Short → ℕ × Event
entry_of outcomes mark short = (mark.actor, whole_event short (outcome_at outcomes mark.end))

abbrev pub entries_of : List Outcome → List Mark → List Short → List (ℕ × Event)
entries_of outcomes [] shorts = []
entries_of outcomes (mark ∷ marks) [] = []
entries_of outcomes (mark ∷ marks) (short ∷ shorts) = entry_of outcomes mark short ∷ entries_of outcomes marks shorts

-- the places are within so many outcomes
abbrev pub are_within : ℕ → List Mark → Bool
are_within count marks = list_all (λ mark. nat_le mark.end count) marks

-- every event has an actor, there is room for all, and the places are within the outcomes
pub record AreShorts (marks : List Mark) (mark_room : ℕ) (shorts : List Short) (room : ℕ) (outcomes : List Outcome) (outcome_room : ℕ) : Type 0 where
  pub whose : length marks ≡ length shorts
  pub few : length shorts ≤ room
  pub fewer : length outcomes ≤ length shorts
  pub mark_rooms : room ≤ mark_room
  pub rooms : room ≤ outcome_room
  pub small : room ≤ 2 ^ 32 - 1
  pub within : are_within (length outcomes) marks ≡ true

-- an outcome is kept before a place, and the earlier places stay as they are
pub record Keeps (before now : List Outcome) (outcome : Option Outcome) (end : ℕ) : Type 0 where
  pub grows : length before ≤ length now
  pub little : length now ≤ length before + 1
  pub inside : end ≤ length now
  pub value : outcome_at now end ≡ outcome
  pub stays : (place : ℕ) → place ≤ length before → outcome_at now place ≡ outcome_at before place
