-- What is written of a line that the formats allow for its role is read again as that line.
use Rattle.std.proofs.Common.{◌≡◌, ℕ, ◌<◌, sym, subst}
use Rattle.std.specs.Prelude.{Ok}
use Rattle.snp_model.specs.declared.item.Item.{Item}
use Rattle.snp_model.specs.declared.item.Item.TheVariants.{Access, Psmash, Pvalidate, Rmpadjust, Rmpupdate, Skip}
use Rattle.snp_model.specs.declared.item.Item.TheVariants as items
use Rattle.snp_model.specs.declared.item.Line.{Line}
use Rattle.snp_model.specs.declared.scenario.Role.{Role}
use Rattle.snp_model.specs.declared.scenario.Role.TheVariants.{Cpu, Host, Firmware}
use Rattle.snp_model.specs.Bounds.{IsFirmwareItem, IsLineOf}
use Rattle.snp_model.specs.ItemLines.{item_line}
use Rattle.snp_model.specs.Spelling.{item_text}
use Rattle.snp_model.specs.Spelled.{IsTriedBy, IsWide}
use Rattle.script_text.proofs.AgainLaws.{Again}
use Rattle.script_text.proofs.ItemAgain.{cpu_again, host_again, firmware_skip, made}
use Rattle.script_text.proofs.CommandAgain.{command_again}

-- the items of a firmware actor
firmware_again : (frames : ℕ) (item : Item) (n : ℕ) → IsFirmwareItem item → n < 256 → IsTriedBy n item → IsWide item → Again Firmware frames (made item n)
firmware_again frames (Access address op) n is few tried wide = absurd is
firmware_again frames (Pvalidate address size validate) n is few tried wide = absurd is
firmware_again frames (Rmpadjust address size target mask vmsa) n is few tried wide = absurd is
firmware_again frames (Rmpupdate update) n is few tried wide = absurd is
firmware_again frames (Psmash frame) n is few tried wide = absurd is
firmware_again frames (items.Firmware command) n is few tried wide = command_again frames command n is few wide
firmware_again frames (Skip count test) n is few tried wide =
    subst (λ (k : ℕ). Again Firmware frames (made (Skip count test) k)) (sym tried) (firmware_skip frames count test is wide)

pub written_again : (frames : ℕ) (role : Role) (line : Line) → IsLineOf frames role line → IsTriedBy line.retries line.item → IsWide line.item → item_line role frames (item_text line) ≡ Ok line
written_again frames (Cpu guest vmpl npt paging) line is tried wide = cpu_again guest vmpl npt paging frames line.item line.retries is.item is.retries tried wide
written_again frames Host line is tried wide = host_again frames line.item line.retries is.item is.retries tried wide
written_again frames Firmware line is tried wide = firmware_again frames line.item line.retries is.item is.retries tried wide
