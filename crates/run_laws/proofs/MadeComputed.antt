-- A compute of a command that seals or opens a page makes what its commit is to find: where no ciphertext meets the tag of another, what is opened for a guest is what was archived.
use Rattle.std.proofs.Common.{◌≡◌, ℕ, Bool, true, false, cond, eqb, List, length, Option, Some, None, Result, Ok, Err, refl, sym, ap, ◌∙◌, subst}
use Rattle.std.specs.Prelude.{bytes_eq}
use Rattle.std.proofs.lemmas.Bool.{cond_both, eqb-false}
use Rattle.snp_model.specs.declared.command.Command.{Command}
use Rattle.snp_model.specs.declared.command.Command.TheVariants as commands
use Rattle.snp_model.specs.declared.event.FwRefusal.{FwRefusal}
use Rattle.snp_model.specs.declared.firmware.MetaEntry.{MetaEntry}
use Rattle.snp_model.specs.declared.scenario.GuestSpec.{GuestSpec}
use Rattle.snp_model.specs.Firmware.{guest_of, pages_of}
use Rattle.snp_model.specs.FirmwareStep.{command_asid}
use Rattle.snp_model.specs.GuestMemory.{Memory}
use Rattle.snp_model.specs.Live.{Archive, vault_of}
use Rattle.snp_model.specs.Metadata.{AreBytes, found_tag, opened_words, opened}
use Rattle.snp_model.specs.Opening.{asid_of}
use Rattle.snp_model.specs.Past.{Past, with_sealing, past_computed}
use Rattle.snp_model.specs.Premises.{IsOwnCipher}
use Rattle.snp_model.specs.Sealing.{What, Slot, Sealing, SealOut, SealIn, sealing_of, slot_entry, sealed_as, made_of, opens_as, opened_with, opened_as, compute_of}
use Rattle.snp_model.specs.State.{Context, Contents, Computed, Standing}
use Rattle.run_laws.specs.MadePages.{IsSealNow, IsMadeOf, IsMade}
use Rattle.run_laws.specs.Uniqueness.{IsFull}
use Rattle.run_laws.proofs.FreshLaws.{cipher_full}
use Rattle.run_laws.proofs.MadeLaws.{compute_sealed, compute_opened}
use Rattle.run_laws.proofs.SealInCommit.{taken_live}
use Rattle.run_laws.proofs.SealingCommits.{BeforeCommit}
use Rattle.run_laws.proofs.SealingPages.{spot_of}
use Rattle.run_laws.proofs.SealingTests.{InTests, SealingTests}
use Rattle.run_laws.proofs.SealLaws.{opened_full}

-- what is opened is full
answer_is : {X R : Type 0} (b : Bool) (good made : X) (refusal : R) → cond b (Ok good) (Err refusal) ≡ Ok made → good ≡ made
answer_is true good made refusal is = cc
answer_is false good made refusal is = absurd (cc)

with_full : (what : What) (asid : ℕ) (entry : MetaEntry) (answer : Result (List ℕ) FwRefusal) (made : Computed) → ((words : List ℕ) → answer ≡ Ok words → IsFull words)
    → opened_with what asid entry answer ≡ Ok made → IsFull made.words
unfolding opened_with
with_full what asid entry (Ok words) made full is = subst (λ (m : Computed). IsFull m.words) (answer_is (opens_as what asid words) _ made _ is) (full words refl)
with_full what asid entry (Err refusal) made full is = absurd (cc)

words_full : (context : Context) (entry : MetaEntry) (words found : List ℕ) → AreBytes context.key → IsFull words → opened context entry words ≡ Ok found → IsFull found
unfolding opened
words_full context entry words found keys full is =
    subst IsFull (answer_is (bytes_eq (found_tag context.key entry words) entry.tag) (opened_words context.key entry words) found _ is) (opened_full context.key entry words keys full)

pub opening_full : (what : What) (context : Context) (found : Option MetaEntry) (words : List ℕ) (made : Computed) → AreBytes context.key → IsFull words → opened_as what context found words ≡ Ok made → IsFull made.words
unfolding opened_as
opening_full what context None words made keys full is = absurd (cc)
opening_full what context (Some entry) words made keys full is =
    with_full what context.asid entry (opened context entry words) made (λ found was. words_full context entry words found keys full was) is

-- what an actor has taken at its compute
taken_here : (actor : ℕ) (words : List ℕ) (sealing : ℕ → List ℕ) → with_sealing actor words sealing actor ≡ words
unfolding with_sealing
taken_here actor words sealing = cond_both (eqb actor actor) _ _ (λ (found : List ℕ). found ≡ words) (λ _. refl) (λ other. absurd (eqb-false actor actor other refl))

-- a compute of this sealing makes this
abbrev pub Makes : Contents → Option Sealing → Computed → Type 0
Makes contents None made = ⊥
Makes contents (Some sealing) made = compute_of contents sealing ≡ Ok made

-- the guest that owns what is sealed has this ASID
abbrev pub OwnerHas : List GuestSpec → ℕ → Option Sealing → Type 0
OwnerHas guests asid None = Unit {0}
OwnerHas guests asid (Some (SealOut what owner source target slot)) = asid ≡ asid_of guests owner
OwnerHas guests asid (Some (SealIn what owner source target slot)) = asid ≡ asid_of guests owner

record IsMadeFull (g : ℕ) (contents : Contents) (archive : Archive) (taken : List ℕ) (sealing : Option Sealing) (made : Computed) : Type 0 where
  as_made : IsMadeOf g contents archive taken sealing made
  full : IsFull made.words

pub out_computed : (contents : Contents) (what : What) (owner source target : ℕ) (slot : Slot) (made : Computed) → compute_of contents (SealOut what owner source target slot) ≡ Ok made
    → made_of (sealed_as what (contents.contexts owner) (contents.pages source)) ≡ made
unfolding compute_of
out_computed contents what owner source target slot made is = cc

pub in_computed : (contents : Contents) (what : What) (owner source target : ℕ) (slot : Slot) (made : Computed) → compute_of contents (SealIn what owner source target slot) ≡ Ok made
    → opened_as what (contents.contexts owner) (slot_entry contents.pages (contents.contexts owner) slot) (contents.pages source).words ≡ Ok made
unfolding compute_of
in_computed contents what owner source target slot made is = is

computed_of : (guests : List GuestSpec) (g : ℕ) (contents : Contents) (past : Past) (memory : Memory) (actor asid : ℕ) (sealing : Option Sealing) (made : Computed)
    → BeforeCommit guests g contents (past.archive g) memory → SealingTests asid contents.pages sealing → OwnerHas guests asid sealing → Makes contents sealing made → IsOwnCipher g contents past sealing
    → let later = past_computed actor contents sealing past in
    IsMadeFull g contents (later.archive g) (later.sealing actor) sealing made
unfolding past_computed IsOwnCipher
computed_of guests g contents past memory actor asid None made before tests owns makes chance = absurd makes
computed_of guests g contents past memory actor asid (Some (SealOut what owner source target slot)) made before tests owns makes chance = record {
  as_made = subst (λ (taken : List ℕ). IsSealNow contents taken what owner source made) (sym (taken_here actor (contents.pages source).words past.sealing))
      (compute_sealed contents what owner source target slot made makes);
  full = subst (λ (m : Computed). IsFull m.words) (out_computed contents what owner source target slot made makes)
      (cipher_full what (contents.contexts owner) (contents.pages source) (before.contexts_fit owner) (before.memory_fits.words source));
}
computed_of guests g contents past memory actor asid (Some (SealIn what owner source target slot)) made before tests owns makes chance =
    let vault = vault_of g contents (past.archive g) in
    record {
      as_made = compute_opened g contents vault what owner source target slot made (λ same. ap (λ (h : ℕ). contents.contexts h) same) (before.contexts_fit g).key
          (λ same entry in_use.
          let at_own : slot_entry contents.pages (contents.contexts g) slot ≡ Some entry = ap (λ (h : ℕ). slot_entry contents.pages (contents.contexts h) slot) same ∙ in_use in
          let own_tests : InTests (asid_of guests g) contents.pages what source target slot =
          subst (λ (n : ℕ). InTests n contents.pages what source target slot) (owns ∙ ap (λ (h : ℕ). asid_of guests h) (sym same)) tests in
          before.ties.seals.sealed (spot_of slot) entry (taken_live (asid_of guests g) g contents (past.archive g) what source target slot entry before.ties.seals own_tests at_own).0)
          chance makes;
      full = opening_full what (contents.contexts owner) (slot_entry contents.pages (contents.contexts owner) slot) (contents.pages source).words made (before.contexts_fit owner).key
          (before.memory_fits.words source) (in_computed contents what owner source target slot made makes);
    }

-- so the compute of a command that has locked its context and all its pages
pub made_computed : (guests : List GuestSpec) (g : ℕ) (contents : Contents) (past : Past) (memory : Memory) (actor : ℕ) (command : Command) (standing : Standing) (made : Computed)
    → BeforeCommit guests g contents (past.archive g) memory → SealingTests (command_asid guests command) contents.pages (sealing_of command) → OwnerHas guests (command_asid guests command) (sealing_of command)
    → standing.context_lock ≡ guest_of command → length standing.locks ≡ length (pages_of command) → Makes contents (sealing_of command) made → IsOwnCipher g contents past (sealing_of command)
    → let later = past_computed actor contents (sealing_of command) past in
    IsMade g contents (later.archive g) (later.sealing actor) command (record standing { computed = Some made }) made
made_computed guests g contents past memory actor command standing made before tests owns context all makes chance =
    let is = computed_of guests g contents past memory actor (command_asid guests command) (sealing_of command) made before tests owns makes chance in
    record { context = context; pages = all; full = is.full; as_made = is.as_made }

-- the ASID of a command's guest is that of the owner of what it seals
pub owner_has : (guests : List GuestSpec) (command : Command) → OwnerHas guests (command_asid guests command) (sealing_of command)
unfolding sealing_of guest_of
owner_has guests (commands.GctxCreate guest frame) = tt
owner_has guests (commands.Activate guest asid) = tt
owner_has guests (commands.LaunchStart guest) = tt
owner_has guests (commands.LaunchUpdate guest frame page_type imi perms) = tt
owner_has guests (commands.LaunchFinish guest) = tt
owner_has guests (commands.MdInit frame) = tt
owner_has guests (commands.PageMove guest source target) = tt
owner_has guests (commands.SwapOut guest source target metadata entry) = refl
owner_has guests (commands.SwapIn guest source target metadata entry) = refl
owner_has guests (commands.Reclaim frame) = tt
owner_has guests (commands.MdOut guest source target metadata entry) = refl
owner_has guests (commands.MdIn guest source target metadata entry) = refl
owner_has guests (commands.MdRootOut guest source target) = refl
owner_has guests (commands.MdRootIn guest source target) = refl
