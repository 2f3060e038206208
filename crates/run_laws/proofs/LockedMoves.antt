-- What each event does to locks, and to the frames that others have locked.
use Rattle.std.proofs.Common.{◌≡◌, ◌⊎◌, ℕ, Bool, true, false, ◌||◌, List, [], ◌∷◌, ◌++◌, Option, Some, None, refl, sym, ap, ◌∙◌, subst, ⊎_elim, inl, inr}
use Rattle.std.proofs.lemmas.Bool.{true≢false}
use Rattle.std.proofs.lemmas.List.Folds.{list_any-append}
use Rattle.std.specs.List.{list_any}
use Rattle.snp_model.specs.declared.access.Verdict.{Verdict}
use Rattle.snp_model.specs.declared.access.Verdict.TheVariants.{Pass, Hidden, Fault}
use Rattle.snp_model.specs.declared.entry.PageSize.TheVariants.{Large}
use Rattle.snp_model.specs.declared.entry.RmpEntry.{RmpEntry}
use Rattle.snp_model.specs.declared.event.Deed.{Deed}
use Rattle.snp_model.specs.declared.event.Deed.TheVariants as deeds
use Rattle.snp_model.specs.declared.event.Outcome.{Outcome}
use Rattle.snp_model.specs.declared.event.Outcome.TheVariants as outcomes
use Rattle.snp_model.specs.declared.item.Item.{Item}
use Rattle.snp_model.specs.declared.item.Op.{Op}
use Rattle.snp_model.specs.declared.item.Op.TheVariants.{Load, Store, Swap, Compare, Xor}
use Rattle.snp_model.specs.declared.scenario.Role.{Role}
use Rattle.snp_model.specs.Locks.{covers, locks_frame, locks_context}
use Rattle.snp_model.specs.Moves.{Move, memory_move, quiet_move, lock_move}
use Rattle.snp_model.specs.State.{Page, Pages, PageLock, ActorPart, State, with_word, word_of}
use Rattle.snp_model.specs.Operations.{outcome_of}
use Rattle.snp_model.specs.Step.{access_move, pages_after}
use Rattle.run_laws.specs.KeptLocks.{actor_at, AreOfOneRegion, AreWholePages, HaveOneHolder}
use Rattle.run_laws.specs.HeldLocks.{AreItemLocks}
use Rattle.run_laws.specs.OpenAttempts.{IsAttempt}
use Rattle.run_laws.proofs.CoreLaws.{with_word_facts, with_word_other}
use Rattle.run_laws.proofs.LockLaws.{IsUnlocked, IsFree}

-- a frame that others have locked is firm: its facts stay, and so do its words where it is assigned and immutable
pub record IsFirm (new old : Page) : Type 0 where
  pub facts : new.facts ≡ old.facts
  pub words : old.facts.assigned ≡ true → old.facts.immutable ≡ true → new.words ≡ old.words

-- an actor's part after an event that leaves its attempt open
abbrev pub opened : ActorPart → Move → ActorPart
opened part move = record part { deeds = part.deeds ++ move.deed ∷ []; standing = move.standing }

-- what an actor has locked covers pages of 2 MB as a whole
abbrev pub LocksWhole : Pages → ActorPart → Type 0
LocksWhole pages part = (f g : ℕ) → locks_frame f part ≡ true → (pages f).facts.size ≡ Large → AreOfOneRegion f g → locks_frame g part ≡ true

-- what holds of locks before an event of an actor with this part
pub record Stands (m : State) (part : ActorPart) (role : Role) (item : Item) : Type 0 where
  pub whole : AreWholePages m.contents.pages
  pub exclusive : HaveOneHolder m.contents.pages m.actors
  pub locks_whole : LocksWhole m.contents.pages part
  pub tested : AreItemLocks m.frames m.guests m.contents role item part.deeds part.standing
  pub walking : IsAttempt m.frames role item part.standing part.deeds

-- what an attempt has that goes on
pub record GoesOn (m : State) (part : ActorPart) (role : Role) (item : Item) (move : Move) : Type 0 where
  pub still : move.contents ≡ m.contents
  pub frames : (f : ℕ) → locks_frame f (opened part move) ≡ true → (locks_frame f part ≡ true) ⊎ IsUnlocked m.actors f
  pub contexts : (g : ℕ) → locks_context g (opened part move) ≡ true → (locks_context g part ≡ true) ⊎ ((k : ℕ) → locks_context g (actor_at m.actors k) ≡ false)
  pub locks_whole : LocksWhole move.contents.pages (opened part move)
  pub tested : AreItemLocks m.frames m.guests move.contents role item (part.deeds ++ move.deed ∷ []) move.standing

-- what an event does: no frame and no context but the actor's own changes
pub record MoveLocks (m : State) (part : ActorPart) (role : Role) (item : Item) (move : Move) : Type 0 where
  pub own : (f : ℕ) → locks_frame f part ≡ false → IsFirm (move.contents.pages f) (m.contents.pages f)
  pub own_contexts : (g : ℕ) → locks_context g part ≡ false → move.contents.contexts g ≡ m.contents.contexts g
  pub whole : AreWholePages move.contents.pages
  pub goes_on : move.outcome ≡ None → GoesOn m part role item move

pub firm_itself : (page : Page) → IsFirm page page
firm_itself page = record { facts = refl; words = λ _ _. refl }

-- an event that changes nothing
pub quiet_locks : (m : State) (part : ActorPart) (role : Role) (item : Item) (deed : Deed) (outcome : Option Outcome) → Stands m part role item
    → (outcome ≡ None → AreItemLocks m.frames m.guests m.contents role item (part.deeds ++ deed ∷ []) part.standing)
    → MoveLocks m part role item (quiet_move m.contents part deed outcome)
quiet_locks m part role item deed outcome stands later = record {
  own = λ f _. firm_itself (m.contents.pages f);
  own_contexts = λ g _. refl;
  whole = stands.whole;
  goes_on = λ open_is. record { still = refl; frames = λ f locked. inl locked; contexts = λ g locked. inl locked; locks_whole = stands.locks_whole; tested = later open_is };
}

some_none : (outcome : Outcome) → Some outcome ≡ None → ⊥
some_none outcome e = cc

-- and ends the attempt
pub ended_locks : (m : State) (part : ActorPart) (role : Role) (item : Item) (deed : Deed) (outcome : Outcome) → Stands m part role item
    → MoveLocks m part role item (quiet_move m.contents part deed (Some outcome))
ended_locks m part role item deed outcome stands = quiet_locks m part role item deed (Some outcome) stands (λ e. absurd (some_none outcome e))

-- an event that changes memory and ends the attempt
pub memory_locks : (m : State) (part : ActorPart) (role : Role) (item : Item) (deed : Deed) (outcome : Outcome) (pages : Pages)
    → ((f : ℕ) → locks_frame f part ≡ false → IsFirm (pages f) (m.contents.pages f)) → AreWholePages pages
    → MoveLocks m part role item (memory_move m.contents part deed (Some outcome) pages)
memory_locks m part role item deed outcome pages own whole = record {
  own = own;
  own_contexts = λ g _. refl;
  whole = whole;
  goes_on = λ e. absurd (some_none outcome e);
}

-- a word is written to a frame that isn't both assigned and immutable
written_firm : (frame index value : ℕ) (pages : Pages) (f : ℕ) → ((pages frame).facts.assigned ≡ true → (pages frame).facts.immutable ≡ true → ⊥) → IsFirm (with_word frame index value pages f) (pages f)
written_firm frame index value pages f loose = record {
  facts = with_word_facts frame index value pages f;
  words = λ assigned immutable. with_word_other frame index value pages f (λ same.
      loose (subst (λ (k : ℕ). (pages k).facts.assigned ≡ true) same assigned) (subst (λ (k : ℕ). (pages k).facts.immutable ≡ true) same immutable));
}

pages_firm : (op : Op) (frame index word : ℕ) (pages : Pages) (f : ℕ) → ((pages frame).facts.assigned ≡ true → (pages frame).facts.immutable ≡ true → ⊥) → IsFirm (pages_after op frame index word pages f) (pages f)
pages_firm Load frame index word pages f loose = firm_itself (pages f)
pages_firm (Store value) frame index word pages f loose = written_firm frame index value pages f loose
pages_firm (Swap value) frame index word pages f loose = written_firm frame index value pages f loose
pages_firm (Compare expected next) frame index word pages f loose = written_firm frame index _ pages f loose
pages_firm (Xor value) frame index word pages f loose = written_firm frame index _ pages f loose

-- where no facts change, pages of 2 MB stay whole
pub same_whole : (old new : Pages) → ((f : ℕ) → (new f).facts.size ≡ (old f).facts.size) → AreWholePages old → AreWholePages new
same_whole old new same whole = record { large = λ f g large region. same g ∙ whole.large f g (sym (same f) ∙ large) region }

pub access_locks : (m : State) (part : ActorPart) (role : Role) (item : Item) (deed : Deed) (verdict : Verdict) (op : Op) (frame index : ℕ) → Stands m part role item
    → (verdict ≡ Pass → (m.contents.pages frame).facts.assigned ≡ true → (m.contents.pages frame).facts.immutable ≡ true → ⊥)
    → MoveLocks m part role item (access_move m.contents part deed verdict op frame index)
unfolding access_move
access_locks m part role item deed Pass op frame index stands loose =
    let pages = m.contents.pages in
    let word = word_of (pages frame) index in
    let firm = λ (f : ℕ). pages_firm op frame index word pages f (loose refl) in
    memory_locks m part role item deed (outcome_of op word) (pages_after op frame index word pages) (λ f _. firm f)
    (same_whole pages (pages_after op frame index word pages) (λ f. ap (λ (facts : RmpEntry). facts.size) (firm f).facts) stands.whole)
access_locks m part role item deed Hidden op frame index stands loose = ended_locks m part role item deed outcomes.Opaque stands
access_locks m part role item deed (Fault outcome) op frame index stands loose = ended_locks m part role item deed outcome stands

-- an event that takes a page's lock, or ends with a refusal
covered_or : (a b : Bool) → (a || b) ≡ true → (a ≡ true) ⊎ (b ≡ true)
covered_or true b is = inl refl
covered_or false b is = inr is

or_first : (a b : Bool) → a ≡ true → (a || b) ≡ true
or_first true b is = refl
or_first false b is = absurd (true≢false (sym is))

or_second : (a b : Bool) → b ≡ true → (a || b) ≡ true
or_second true b is = refl
or_second false b is = is

alone_covers : (f : ℕ) (lock : PageLock) → list_any (covers f) (lock ∷ []) ≡ covers f lock
alone_covers f lock = elim (covers f lock) as (λ (b : Bool). (b || false) ≡ b) [ true ↦ refl | false ↦ refl ]

one_more_locked : (f : ℕ) (locks : List PageLock) (lock : PageLock) → list_any (covers f) (locks ++ lock ∷ []) ≡ (list_any (covers f) locks || covers f lock)
one_more_locked f locks lock = list_any-append (covers f) locks (lock ∷ []) ∙ ap (λ (b : Bool). list_any (covers f) locks || b) (alone_covers f lock)

pub lock_locks : (m : State) (part : ActorPart) (role : Role) (item : Item) (lock : PageLock) (refusal : Option Outcome) → Stands m part role item
    → (refusal ≡ None → IsFree m.contents.pages m.actors lock)
    → (refusal ≡ None → AreItemLocks m.frames m.guests m.contents role item (part.deeds ++ deeds.Lock lock.frame ∷ []) (record part.standing { locks = part.standing.locks ++ lock ∷ [] }))
    → MoveLocks m part role item (lock_move m.contents part lock refusal)
unfolding lock_move
lock_locks m part role item lock (Some outcome) stands free tested = ended_locks m part role item (deeds.Lock lock.frame) outcome stands
lock_locks m part role item lock None stands free tested =
    let locks = part.standing.locks in
    let is_free = free refl in
    record {
      own = λ f _. firm_itself (m.contents.pages f);
      own_contexts = λ g _. refl;
      whole = stands.whole;
      goes_on = λ _. record {
        still = refl;
        frames = λ f locked. ⊎_elim (λ (before : list_any (covers f) locks ≡ true). inl before) (λ (new : covers f lock ≡ true). inr (is_free.free f new))
            (covered_or (list_any (covers f) locks) (covers f lock) (sym (one_more_locked f locks lock) ∙ locked));
        contexts = λ g locked. inl locked;
        locks_whole = λ f g locked large same. one_more_locked g locks lock ∙ ⊎_elim
            (λ (before : list_any (covers f) locks ≡ true). or_first (list_any (covers g) locks) (covers g lock) (stands.locks_whole f g before large same))
            (λ (new : covers f lock ≡ true). or_second (list_any (covers g) locks) (covers g lock) (is_free.whole f g new large same))
            (covered_or (list_any (covers f) locks) (covers f lock) (sym (one_more_locked f locks lock) ∙ locked));
        tested = tested refl;
      };
    }
