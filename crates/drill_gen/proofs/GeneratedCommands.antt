-- Numbers drawn are below their counts. What the commands are that the firmware's items have: one of five, with a guest that a text
-- may name and an entry of a metadata page.
use Rattle.std.proofs.Common.{ℕ, ◌+◌, ◌*◌, ◌<◌, ◌≤◌, arith}
use Rattle.std.proofs.lemmas.Bool.{cond_both}
use Rattle.std.proofs.lemmas.Nat.{mod_below}
use Rattle.std.specs.Prelude.{◌==◌}
use Rattle.rand_pcg.specs.Lcg.{Lcg}
use Rattle.rand_pcg.specs.Pcg.{pcg32}
use Rattle.snp_model.specs.declared.command.Command.{Command}
use Rattle.snp_model.specs.declared.command.Command.TheVariants.{MdInit, PageMove, SwapOut, SwapIn, Reclaim}
use Rattle.snp_model.specs.declared.item.Item.{Item}
use Rattle.snp_model.specs.declared.item.Item.TheVariants as items
use Rattle.snp_model.specs.Bounds.{IsGuestNumber}
use Rattle.snp_model.specs.Generated.{draw, command_of, firmware_item}

-- a number drawn is below its count
pub draw_below : (count : ℕ) (g : Lcg) → 0 < count → (draw count g).0 < count
unfolding draw
draw_below count g some = mod_below (pcg32 g).0 count some

-- what holds of all commands that may be drawn
pub record OfDrawn (P : Command → Type 0) : Type 0 where
  pub md_init : (frame : ℕ) → P (MdInit frame)
  pub page_move : (guest source target : ℕ) → IsGuestNumber guest → P (PageMove guest source target)
  pub swap_out : (guest source target metadata entry : ℕ) → IsGuestNumber guest → entry < 64 → P (SwapOut guest source target metadata entry)
  pub swap_in : (guest source target metadata entry : ℕ) → IsGuestNumber guest → entry < 64 → P (SwapIn guest source target metadata entry)
  pub reclaim : (frame : ℕ) → P (Reclaim frame)

command_is : (P : Command → Type 0) → OfDrawn P → (kind guest frame other sealed metadata entry : ℕ) → IsGuestNumber guest → entry < 64
    → P (command_of kind guest frame other sealed metadata entry)
unfolding command_of
command_is P all kind guest frame other sealed metadata entry number below =
    cond_both (kind == 0) _ _ P (λ _. all.md_init metadata)
    (λ _. cond_both (kind == 1) _ _ P (λ _. all.page_move guest frame other number)
    (λ _. cond_both (kind == 2) _ _ P (λ _. all.swap_out guest frame sealed metadata entry number below)
    (λ _. cond_both (kind == 3) _ _ P (λ _. all.swap_in guest sealed frame metadata entry number below)
    (λ _. all.reclaim frame))))

-- what holds of all commands that may be drawn holds of each that is
pub firmware_item_is : (P : Item → Type 0) → OfDrawn (λ command. P (items.Firmware command)) → (g : Lcg) → P (firmware_item g).0
unfolding firmware_item
firmware_item_is P all g =
    let kind = draw 5 g in
    let guest = draw 2 kind.1 in
    let frame = draw 16 guest.1 in
    let other = draw 16 frame.1 in
    let sealed = draw 16 other.1 in
    let metadata = draw 4 sealed.1 in
    let entry = draw 64 metadata.1 in
    let base = 64 * (1 + guest.0) in
    let guest_is = draw_below 2 kind.1 (omega arith) in
    let some : 0 < 1 + guest.0 = omega arith in
    let few : 1 + guest.0 ≤ 8 = omega arith in
    command_is (λ command. P (items.Firmware command)) all kind.0 (1 + guest.0) (base + frame.0) (base + other.0) (300 + sealed.0) (400 + metadata.0) entry.0 (some, few) (draw_below 64 metadata.1 (omega arith))
