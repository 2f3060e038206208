-- How much a scenario text may make of each quantity (this project's own).
use Rattle.std.specs.Prelude.{ℕ}
use Rattle.snp_model.specs.declared.reading.Quantity.{Quantity}
use Rattle.snp_model.specs.declared.reading.Quantity.TheVariants.{Bytes, Regions, Guests, Actors, Attempts, Order}

-- the most of each
abbrev pub most : Quantity → ℕ
most Bytes = 4194304
most Regions = 16
most Guests = 8
most Actors = 32
most Attempts = 8192
most Order = 262144
