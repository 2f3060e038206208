-- The words that an actor keeps are those of its deeds.
use Rattle.std.proofs.Common.{◌≡◌, ℕ, ◌+◌, ◌<◌, ◌≤◌, ◌^◌, Bool, true, false, List, [], ◌∷◌, ◌++◌, length, map, Option, Some, None, IsSome, is_some, refl, sym, ap, ◌∙◌, arith}
use Rattle.std.proofs.lemmas.List.{append-nil, length_push, length-map, map-append}
use Rattle.snp_model.specs.declared.event.Deed.{Deed}
use Rattle.snp_model.specs.declared.event.Deed.TheVariants as deeds
use Rattle.snp_model.specs.declared.item.Line.{Line}
use Rattle.snp_model.specs.declared.scenario.Role.{Role}
use Rattle.snp_model.specs.declared.walk.GuestEnd.{GuestEnd}
use Rattle.snp_model.specs.declared.event.Outcome.{Outcome}
use Rattle.snp_model.specs.declared.event.Outcome.TheVariants as outcomes
use Rattle.snp_model.specs.Step.{line_at, passed_over}
use Rattle.snp_model.specs.Walking.{guest_words, nested_words_after, nested_words}
use Rattle.snp_model.specs.Bounds.{IsGuestInside}
use Rattle.snp_model.specs.State.{Standing}
use Rattle.run_laws.proofs.ShapeLaws.{guest_words_append, nested_words_append}
use Rattle.machine_core.specs.declared.made_page.MadePage.{MadePage}
use Rattle.machine_core.specs.declared.taken_lock.Taken.{Taken}
use Rattle.machine_core.specs.declared.taken_lock.Taken.TheVariants.{Made, OfContext, OfPage}
use Rattle.machine_core.specs.declared.taken_lock.TakenLock.{TakenLock}
use Rattle.machine_core.specs.Actors.{computed_of, made_in, page_lock_of, guest_words_with, nested_words_with, is_nested_read, IsActorState, IsBegun}
use Rattle.machine_core.specs.Moves.{with_made, with_taken}
use Rattle.machine_core.specs.Walks.{stands_of}

guest_words_one : (words : List ℕ) (deed : Deed) → words ++ guest_words (deed ∷ []) ≡ guest_words_with deed words
unfolding guest_words
guest_words_one words (deeds.Table g i f (Some v)) = refl
guest_words_one words (deeds.Table g i f None) = append-nil words
guest_words_one words deed = append-nil words

guest_words_push : (made : List Deed) (deed : Deed) → guest_words (made ++ deed ∷ []) ≡ guest_words_with deed (guest_words made)
guest_words_push made deed = guest_words_append made (deed ∷ []) ∙ guest_words_one (guest_words made) deed

nested_words_one : (words : List ℕ) (deed : Deed) → nested_words_after words (deed ∷ []) ≡ nested_words_with deed words
unfolding nested_words_after
nested_words_one words (deeds.Nested f i v) = refl
nested_words_one words (deeds.Table g i f v) = refl
nested_words_one words deed = refl

nested_words_push : (made : List Deed) (deed : Deed) → nested_words (made ++ deed ∷ []) ≡ nested_words_with deed (nested_words made)
nested_words_push made deed = nested_words_append [] made (deed ∷ []) ∙ nested_words_one (nested_words made) deed

guest_few : (deed : Deed) (words : List ℕ) → length (guest_words_with deed words) ≤ length words + 1
guest_few (deeds.Table g i f (Some v)) words = let e = length_push words v in omega arith
guest_few (deeds.Table g i f None) words = omega arith
guest_few deed words = omega arith

nested_few : (deed : Deed) (words : List ℕ) → length (nested_words_with deed words) ≤ length words + 1
nested_few (deeds.Nested f i v) words = let e = length_push words v in omega arith
nested_few (deeds.Table g i f v) words = omega arith
nested_few deed words = omega arith

-- one more deed
pub actor_keeps : (role : Role) (script : List Line) (item : ℕ) (made : List Deed) (deed : Deed) (guest nested new_guest new_nested : List ℕ) (stands new_stands : GuestEnd) → IsActorState role script item made guest nested stands
    → new_guest ≡ guest_words_with deed guest → new_nested ≡ nested_words_with deed nested → new_stands ≡ stands_of role (line_at script item).item new_guest → IsGuestInside new_stands
    → IsActorState role script item (made ++ deed ∷ []) new_guest new_nested new_stands
actor_keeps role script item made deed guest nested new_guest new_nested stands new_stands is guest_is nested_is stands_is inside =
    let pushed = length_push made deed in
    let few = is.guest_few in
    let nested_are_few = is.nested_few in
    let guest_more = guest_few deed guest in
    let nested_more = nested_few deed nested in
    let guest_length = ap length guest_is in
    let nested_length = ap length nested_is in
    record {
      short = is.short;
      guest_are = guest_is ∙ ap (guest_words_with deed) is.guest_are ∙ sym (guest_words_push made deed);
      nested_are = nested_is ∙ ap (nested_words_with deed) is.nested_are ∙ sym (nested_words_push made deed);
      guest_few = omega arith;
      nested_few = omega arith;
      stands_are = λ begun. stands_is;
      inside = inside;
    }

-- no deed
pub actor_anew : (role : Role) (script : List Line) (item : ℕ) (made : List Deed) (guest nested : List ℕ) (stands : GuestEnd) → length script < 2 ^ 32 → IsGuestInside stands → made ≡ [] → guest ≡ [] → nested ≡ []
    → IsActorState role script item made guest nested stands
unfolding guest_words nested_words_after
actor_anew role script item made guest nested stands short inside none no_guest no_nested =
    let no_words : length guest ≡ 0 = ap length no_guest in
    let no_nested_words : length nested ≡ 0 = ap length no_nested in
    record {
      short = short;
      guest_are = no_guest ∙ sym (ap guest_words none);
      nested_are = no_nested ∙ sym (ap nested_words none);
      guest_few = omega arith;
      nested_few = omega arith;
      stands_are = λ begun. absurd (begun (ap length none));
      inside = inside;
    }

-- a word of a nested table leaves the words of guest tables
words_stay : (deed : Deed) (words : List ℕ) → is_nested_read deed ≡ true → guest_words_with deed words ≡ words
words_stay (deeds.Nested f i v) words is = refl
words_stay (deeds.Table g i f v) words is = cc
words_stay deeds.Begin words is = cc
words_stay (deeds.Access g i f p) words is = cc
words_stay (deeds.Host f i) words is = cc
words_stay (deeds.Lock f) words is = cc
words_stay (deeds.LockContext g) words is = cc
words_stay deeds.Compute words is = cc
words_stay (deeds.Commit f g s) words is = cc
words_stay (deeds.CommitContext g) words is = cc
words_stay deeds.Control words is = cc

-- and so the guest walk where it stands
pub stands_stay : (role : Role) (script : List Line) (item : ℕ) (made : List Deed) (deed : Deed) (guest nested new_guest : List ℕ) (stands : GuestEnd) → IsActorState role script item made guest nested stands
    → IsBegun made → is_nested_read deed ≡ true → new_guest ≡ guest_words_with deed guest → stands ≡ stands_of role (line_at script item).item new_guest
stands_stay role script item made deed guest nested new_guest stands is begun nested_is guest_is =
    is.stands_are begun ∙ ap (stands_of role (line_at script item).item) (sym (guest_is ∙ words_stay deed guest nested_is))

-- the locks that an actor keeps are as many as contracts see
pub as_many_locks : (taken : List TakenLock) → length (map page_lock_of taken) ≡ length taken
as_many_locks taken = length-map taken page_lock_of

-- one more of them
pub locks_push : (taken : List TakenLock) (lock : TakenLock) → map page_lock_of (taken ++ lock ∷ []) ≡ map page_lock_of taken ++ page_lock_of lock ∷ []
locks_push taken lock = map-append page_lock_of taken (lock ∷ [])

-- what it has made stands at the place for it
pub made_some : (has_made : Bool) (page : MadePage) → is_some (made_in has_made page) ≡ has_made
made_some true page = refl
made_some false page = refl

pub made_there : (has_made : Bool) (page : MadePage) → IsSome (made_in has_made page) → made_in has_made page ≡ Some (computed_of page)
made_there true page some = refl
made_there false page some = cc

-- a page that was made changes no lock
pub made_locks : (page : MadePage) (lock : Option Taken) (standing : Standing) → (with_made page lock standing).locks ≡ (with_taken lock standing).locks
made_locks page None standing = refl
made_locks page (Some (OfPage taken)) standing = refl
made_locks page (Some (OfContext guest)) standing = refl
made_locks page (Some Made) standing = refl

pub made_context : (page : MadePage) (lock : Option Taken) (standing : Standing) → (with_made page lock standing).context_lock ≡ (with_taken lock standing).context_lock
made_context page None standing = refl
made_context page (Some (OfPage taken)) standing = refl
made_context page (Some (OfContext guest)) standing = refl
made_context page (Some Made) standing = refl

-- an outcome but that of a skip passes over no item
pub passes_none : (outcome : Outcome) → ((count : ℕ) → outcome ≡ outcomes.Skipped count → ⊥) → passed_over outcome ≡ 0
passes_none (outcomes.Skipped count) other = absurd (other count refl)
passes_none outcome other = refl
