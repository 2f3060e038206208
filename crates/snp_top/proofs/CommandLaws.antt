-- What each command comes to, before its error line.
use Rattle.std.proofs.Common.{ℕ, List, [], Option, None, Some, true, Result, Ok, Err, refl, arith}
use Rattle.snp_model.specs.declared.scenario.Scenario.{Scenario}
use Rattle.snp_model.specs.Outside.{Adds, AddsPrefix, Takes}
use Rattle.snp_model.specs.Reading.{Reads}
use Rattle.snp_top.specs.declared.fault.CommandFault.{CommandFault}
use Rattle.snp_top.specs.declared.fault.CommandFault.TheVariants as faults
use Rattle.snp_top.specs.declared.words.Asked.TheVariants as asks
use Rattle.snp_top.specs.declared.words.Drawn.{Drawn}
use Rattle.snp_top.specs.Batch.{Outside}
use Rattle.snp_top.specs.Drills.{DrawsOut, SaysDrawn}
use Rattle.snp_top.specs.Exits.{ComesTo}
use Rattle.snp_top.specs.Input.{TakesAtMost}
use Rattle.snp_top.specs.Replays.{ReadsText, SaysOne}
use Rattle.snp_top.specs.Runs.{IsReported, RunsOut}

with_scenario : (left now : Option (List ℕ)) (c : Scenario) (P : Scenario → Type 0) → ReadsText left now (λ text. Reads text c) → P c → ReadsText left now (SaysOne P)
with_scenario None now c P reads holds = tt
with_scenario (Some text) now c P reads holds = (reads.0, (c, reads.1, holds))

-- what `run` came to, with the text that was read
pub comes_run : (outcome : Result (Unit {0}) CommandFault) (c : Scenario) (before now : Outside) → ReadsText before.left now.left (λ text. Reads text c)
    → RunsOut c before.written now.written before.write_faults now.write_faults outcome → ComesTo (Some asks.Run) outcome before now
comes_run (Ok done) c before now reads out = with_scenario before.left now.left c (λ c. IsReported true c (Adds before.written now.written)) reads out
comes_run (Err faults.Write) c before now reads out = (with_scenario before.left now.left c (λ c. IsReported true c (AddsPrefix before.written now.written)) reads out.0, out.1)
comes_run (Err faults.Memory) c before now reads out = ((tt, tt), out)
comes_run (Err faults.Words) c before now reads out = absurd out
comes_run (Err (faults.Scenario line reason)) c before now reads out = absurd out
comes_run (Err (faults.Limit quantity count)) c before now reads out = absurd out
comes_run (Err faults.Read) c before now reads out = absurd out
comes_run (Err (faults.Schedule turn)) c before now reads out = absurd out

-- what a command of a number came to
pub comes_drawn : (outcome : Result (Unit {0}) CommandFault) (number : ℕ) (what : Drawn) (before now : Outside)
    → DrawsOut (SaysDrawn what number) before.written now.written before.write_faults now.write_faults outcome → ComesTo (Some (asks.Drawn number what)) outcome before now
comes_drawn (Ok done) number what before now out = out
comes_drawn (Err faults.Write) number what before now out = out
comes_drawn (Err faults.Memory) number what before now out = (refl, out)
comes_drawn (Err faults.Words) number what before now out = absurd out
comes_drawn (Err (faults.Scenario line reason)) number what before now out = absurd out
comes_drawn (Err (faults.Limit quantity count)) number what before now out = absurd out
comes_drawn (Err faults.Read) number what before now out = absurd out
comes_drawn (Err (faults.Schedule turn)) number what before now out = absurd out

-- nothing was taken of a source that isn't touched
pub takes_none : (most : ℕ) (left : Option (List ℕ)) → TakesAtMost most left left
takes_none most left = ([], omega arith, go left)
  where
    go : (left : Option (List ℕ)) → Takes left left []
    go None = tt
    go (Some text) = (text, refl, refl)
