-- What the lock of a context has tested for a command.
use Rattle.std.proofs.Common.{◌≡◌, ◌≢◌, ℕ, Bool, true, false, not, cond, ◌||◌, eqb, List, Option, Some, None, ◌⊎◌, refl, sym, ap, ◌∙◌, inl, inr}
use Rattle.std.proofs.lemmas.Bool.{cases_eq, eqb-false, ne_eqb, or_from, cond-false}
use Rattle.snp_model.specs.declared.command.Command.{Command}
use Rattle.snp_model.specs.declared.command.Command.TheVariants as commands
use Rattle.snp_model.specs.declared.event.FwRefusal.{FwRefusal}
use Rattle.snp_model.specs.declared.event.FwRefusal.TheVariants.{Status}
use Rattle.snp_model.specs.declared.scenario.GuestSpec.{GuestSpec}
use Rattle.snp_model.specs.Firmware.{aead_oflow, has_equal_frames, invalid_guest_state, invalid_param}
use Rattle.snp_model.specs.FirmwareLocks.{context_extra, context_refusal, counter_refusal, last_counter, root_out_refusal, takes_context, type_refusal}
use Rattle.snp_model.specs.Measurement.{IsLaunchType}
use Rattle.snp_model.specs.State.{Context}
use Rattle.fw_launch.specs.Commits.{HasPassed}

some≢none : {X : Type 0} (x : X) → Some x ≡ None → ⊥
some≢none x e = cc

-- a test that has passed, and what it tested
test_is_false : {X : Type 0} (test : Bool) (x : X) (later : Option X) → cond test (Some x) later ≡ None → test ≡ false
test_is_false true x later none = absurd (some≢none x none)
test_is_false false x later none = refl

later_passed : {X : Type 0} (test : Bool) (x : X) (later : Option X) → cond test (Some x) later ≡ None → later ≡ None
later_passed true x later none = absurd (some≢none x none)
later_passed false x later none = none

-- the last test of a lock that was taken
extra_passed : (guests : List GuestSpec) (command : Command) (context : Context) → context_refusal guests command context None ≡ None → context_extra guests command context ≡ None
unfolding context_refusal
extra_passed guests command context none =
    later_passed (not (takes_context command context.state context.bound)) (Status invalid_guest_state) (context_extra guests command context)
    (later_passed (has_equal_frames command) (Status invalid_param) _ none)

-- as the test of a known command
known_passed : (command known : Command) (context : Context) → command ≡ known → (tested : HasPassed command context) → context_extra tested.0 known context ≡ None
known_passed command known context is tested =
    ap (λ (k : Command). context_extra tested.0 k context) (sym is) ∙ extra_passed tested.0 command context tested.1

-- a page type that is let through
launch_type : (page_type : ℕ) → type_refusal page_type ≡ None → IsLaunchType page_type
unfolding type_refusal
launch_type page_type none = elim (cases_eq page_type 1) [
  | inl normal ↦ inl normal
  | inr other ↦ inr (elim (cases_eq page_type 3) [
    | inl zero ↦ inl zero
    | inr other' ↦ elim (cases_eq page_type 4) [
      | inl unmeasured ↦ inr unmeasured
      | inr other'' ↦ absurd (some≢none (Status invalid_param) (
          sym (cond-false (eqb page_type 1 || eqb page_type 3 || eqb page_type 4) None (Some (Status invalid_param))
          (or_from _ _ (or_from _ _ (ne_eqb page_type 1 other) (ne_eqb page_type 3 other')) (ne_eqb page_type 4 other'')))
          ∙ none))
    ]
  ])
]

pub type_passed : (command : Command) (context : Context) (guest frame page_type : ℕ) (imi : Bool) (perms : List ℕ) → command ≡ commands.LaunchUpdate guest frame page_type imi perms → HasPassed command context
    → IsLaunchType page_type
unfolding context_extra
type_passed command context guest frame page_type imi perms is tested =
    launch_type page_type (known_passed command (commands.LaunchUpdate guest frame page_type imi perms) context is tested)

-- a counter is left, by the first test
counter_left : (context : Context) (later : Option FwRefusal) → cond (eqb context.iv last_counter) (Some (Status aead_oflow)) later ≡ None → context.iv ≢ last_counter
counter_left context later none = eqb-false context.iv last_counter (test_is_false _ _ later none)

swap_out_passed : (command : Command) (context : Context) (guest source target metadata entry : ℕ) → command ≡ commands.SwapOut guest source target metadata entry → HasPassed command context → context.iv ≢ last_counter
unfolding context_extra counter_refusal
swap_out_passed command context guest source target metadata entry is tested =
    counter_left context None (known_passed command (commands.SwapOut guest source target metadata entry) context is tested)

md_out_passed : (command : Command) (context : Context) (guest source target metadata entry : ℕ) → command ≡ commands.MdOut guest source target metadata entry → HasPassed command context → context.iv ≢ last_counter
unfolding context_extra counter_refusal
md_out_passed command context guest source target metadata entry is tested =
    counter_left context None (known_passed command (commands.MdOut guest source target metadata entry) context is tested)

root_out_passed : (command : Command) (context : Context) (guest source target : ℕ) → command ≡ commands.MdRootOut guest source target → HasPassed command context → context.iv ≢ last_counter
unfolding context_extra root_out_refusal
root_out_passed command context guest source target is tested =
    counter_left context _ (known_passed command (commands.MdRootOut guest source target) context is tested)

-- a command that seals
abbrev pub Seals : Command → Type 0
Seals command =
    ((guest : ℕ) × (source : ℕ) × (target : ℕ) × (metadata : ℕ) × (entry : ℕ) × (command ≡ commands.SwapOut guest source target metadata entry))
    ⊎ (((guest : ℕ) × (source : ℕ) × (target : ℕ) × (metadata : ℕ) × (entry : ℕ) × (command ≡ commands.MdOut guest source target metadata entry))
    ⊎ ((guest : ℕ) × (source : ℕ) × (target : ℕ) × (command ≡ commands.MdRootOut guest source target)))

pub counter_passed : (command : Command) (context : Context) → Seals command → HasPassed command context → context.iv ≢ last_counter
counter_passed command context (inl (guest, source, target, metadata, entry, is)) tested = swap_out_passed command context guest source target metadata entry is tested
counter_passed command context (inr (inl (guest, source, target, metadata, entry, is))) tested = md_out_passed command context guest source target metadata entry is tested
counter_passed command context (inr (inr (guest, source, target, is))) tested = root_out_passed command context guest source target is tested

-- a context that every test lets through
pub is_passed : (guests : List GuestSpec) (command : Command) (context : Context) → has_equal_frames command ≡ false → takes_context command context.state context.bound ≡ true → context_extra guests command context ≡ None
    → HasPassed command context
unfolding context_refusal
is_passed guests command context apart taken last = (
  guests,
  cond-false _ (Some (Status invalid_param)) _ apart
      ∙ cond-false _ (Some (Status invalid_guest_state)) _ (ap not taken)
      ∙ last,
)
