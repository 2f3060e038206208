-- The strategy that is shipped: it moves the page that was last accessed, remaps it, and writes into its table. This project's own.
use Rattle.std.specs.Prelude.{ℕ, ◌+◌, ◌*◌, ◌%◌, ◌==◌, true, false, if◌then◌else◌}
use Rattle.snp_model.specs.declared.command.Command.TheVariants.{PageMove, Reclaim}
use Rattle.snp_model.specs.declared.entry.PageSize.TheVariants.{Small}
use Rattle.snp_model.specs.declared.item.Item.{Item}
use Rattle.snp_model.specs.declared.item.Item.TheVariants.{Access, Firmware, Rmpupdate}
use Rattle.snp_model.specs.declared.item.Op.TheVariants.{Store}
use Rattle.growing_runs.specs.declared.sight.Sight.{Sight}

-- RMPUPDATE gives a page of 4 KB to the guest with ASID 1, at the guest page number of the last access
abbrev pub given : ℕ → ℕ → Item
given frame gpn = Rmpupdate (record { frame = frame; size = Small; assigned = true; asid = 1; gpn = gpn; immutable = false })

-- RMPUPDATE takes it back
abbrev pub taken_back : ℕ → Item
taken_back frame = Rmpupdate (record { frame = frame; size = Small; assigned = false; asid = 0; gpn = 0; immutable = false })

-- a table's entry for the page is set to frame 112: the table stands in frame 19, and 7 is present, writable and user
abbrev pub remapped : ℕ → Item
remapped gpn = Access (4096 * 19 + 8 * (gpn % 512)) (Store 458759)

-- what the processor of the hypervisor does, by the number of its answers so far
unfoldable pub host_item : Sight → Item
host_item sight =
    if sight.round % 4 == 0 then given sight.frame sight.gpn
    else if sight.round % 4 == 1 then given 112 sight.gpn
    else if sight.round % 4 == 2 then remapped sight.gpn
    else taken_back sight.frame

-- what the firmware does
unfoldable pub firmware_item : Sight → Item
firmware_item sight = if sight.round % 2 == 0 then Firmware (PageMove 1 sight.frame 112) else Firmware (Reclaim 112)

-- the answer
abbrev pub shipped_item : Sight → Item
shipped_item sight = if sight.firmware then firmware_item sight else host_item sight
