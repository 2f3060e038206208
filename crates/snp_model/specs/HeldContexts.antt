-- A guest's context with the actor that holds its lock (this project's own).
use Rattle.std.specs.Prelude.{ℕ, Option, Some, None}
use Rattle.snp_model.specs.declared.scenario.GuestSpec.{GuestSpec}
use Rattle.snp_model.specs.Entries.{released}
use Rattle.snp_model.specs.Opening.{opening_context}
use Rattle.snp_model.specs.State.{Context}

-- a context, and the actor that holds its lock
pub record HeldContext : Type 0 where
  pub context : Context
  pub holder : Option ℕ

-- a guest's context at the opening, which nobody has locked
abbrev pub opening_held : GuestSpec → HeldContext
opening_held spec = record { context = opening_context (Some spec); holder = None }

-- an actor locks a context
abbrev pub held_by : ℕ → HeldContext → HeldContext
held_by actor held = record held { holder = Some actor }

-- an actor's lock is released; another's stays
abbrev pub let_go : ℕ → HeldContext → HeldContext
let_go actor held = record held { holder = released actor held.holder }

-- another context; the lock stays
abbrev pub with_context : Context → HeldContext → HeldContext
with_context context held = record held { context = context }
