use Rattle.machine_core.proofs.bay.Bay.free.Goals as goal

pub returns : goal.returns
returns c = λ i. record { memory = c.in_ok-zeroed.ensures i; rmp = record { facts = c.in_ok-free.ensures.facts i; holders = c.in_ok-free.ensures.unlocked i } }
