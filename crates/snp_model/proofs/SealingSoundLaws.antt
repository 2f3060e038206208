-- What the line of a command that seals or opens a page can say: its guest and its entry keep their bounds.
use Rattle.std.proofs.Common.{◌≡◌, ℕ, ◌<◌, List, Ok, subst}
use Rattle.snp_model.specs.declared.command.Command.{Command}
use Rattle.snp_model.specs.declared.command.Command.TheVariants.{SwapOut, SwapIn, MdOut, MdIn, MdRootOut, MdRootIn}
use Rattle.snp_model.specs.Bounds.{IsGuestNumber}
use Rattle.snp_model.specs.ItemLines.{guest_word, frames_words, place_words, swap_out_operands, swap_in_operands, metadata_out_operands, metadata_in_operands, root_out_operands, root_in_operands}
use Rattle.snp_model.specs.Lines.{◌>>=◌, below, number, word}
use Rattle.snp_model.proofs.LineLaws.{below_ok, bind_ok, ranged_ok}

-- the guest is one that may or may not be declared
frames_ok : (ws : List (List ℕ)) (pages : ℕ × ℕ × ℕ) → frames_words ws ≡ Ok pages → IsGuestNumber pages.0
unfolding frames_words guest_word
frames_ok ws pages h =
    let guest = bind_ok (guest_word (word ws 1)) (λ (g : ℕ). number (word ws 2) >>= (λ (s : ℕ). number (word ws 3) >>= (λ (t : ℕ). Ok (let p : ℕ × ℕ × ℕ = (g, s, t) in p)))) pages h in
    let source = bind_ok (number (word ws 2)) (λ (s : ℕ). number (word ws 3) >>= (λ (t : ℕ). Ok (let p : ℕ × ℕ × ℕ = (guest.0, s, t) in p))) pages guest.2 in
    let target = bind_ok (number (word ws 3)) (λ (t : ℕ). Ok (let p : ℕ × ℕ × ℕ = (guest.0, source.0, t) in p)) pages source.2 in
    let same : guest.0 ≡ pages.0 = let e = target.2 in cc in
    subst IsGuestNumber same (ranged_ok 1 8 (word ws 1) guest.0 guest.1)

-- the entry is one of a metadata page
place_ok : (ws : List (List ℕ)) (place : ℕ × ℕ) → place_words ws ≡ Ok place → place.1 < 64
unfolding place_words
place_ok ws place h =
    let metadata = bind_ok (number (word ws 4)) (λ (m : ℕ). below 64 (word ws 5) >>= (λ (e : ℕ). Ok (let p : ℕ × ℕ = (m, e) in p))) place h in
    let entry = bind_ok (below 64 (word ws 5)) (λ (e : ℕ). Ok (let p : ℕ × ℕ = (metadata.0, e) in p)) place metadata.2 in
    let same : entry.0 ≡ place.1 = let e = entry.2 in cc in
    subst (λ (n : ℕ). n < 64) same (below_ok 64 (word ws 5) entry.0 entry.1)

-- a command of two frames and an entry, and one of two frames alone: what holds of all with such a guest and entry holds of it
entry_command_ok : (make : ℕ → ℕ → ℕ → ℕ → ℕ → Command) (P : Command → Type 0) (ws : List (List ℕ)) (command : Command)
    → ((guest source target metadata entry : ℕ) → IsGuestNumber guest → entry < 64 → P (make guest source target metadata entry))
    → (frames_words ws >>= (λ (p : ℕ × ℕ × ℕ). place_words ws >>= (λ (q : ℕ × ℕ). Ok (make p.0 p.1 p.2 q.0 q.1)))) ≡ Ok command → P command
entry_command_ok make P ws command all h =
    let pages = bind_ok (frames_words ws) (λ (p : ℕ × ℕ × ℕ). place_words ws >>= (λ (q : ℕ × ℕ). Ok (make p.0 p.1 p.2 q.0 q.1))) command h in
    let place = bind_ok (place_words ws) (λ (q : ℕ × ℕ). Ok (make pages.0.0 pages.0.1 pages.0.2 q.0 q.1)) command pages.2 in
    let same : make pages.0.0 pages.0.1 pages.0.2 place.0.0 place.0.1 ≡ command = let e = place.2 in cc in
    subst P same (all pages.0.0 pages.0.1 pages.0.2 place.0.0 place.0.1 (frames_ok ws pages.0 pages.1) (place_ok ws place.0 place.1))

frames_command_ok : (make : ℕ → ℕ → ℕ → Command) (P : Command → Type 0) (ws : List (List ℕ)) (command : Command)
    → ((guest source target : ℕ) → IsGuestNumber guest → P (make guest source target))
    → (frames_words ws >>= (λ (p : ℕ × ℕ × ℕ). Ok (make p.0 p.1 p.2))) ≡ Ok command → P command
frames_command_ok make P ws command all h =
    let pages = bind_ok (frames_words ws) (λ (p : ℕ × ℕ × ℕ). Ok (make p.0 p.1 p.2)) command h in
    let same : make pages.0.0 pages.0.1 pages.0.2 ≡ command = let e = pages.2 in cc in
    subst P same (all pages.0.0 pages.0.1 pages.0.2 (frames_ok ws pages.0 pages.1))

pub swap_out_ok : (P : Command → Type 0) (ws : List (List ℕ)) (command : Command)
    → ((guest source target metadata entry : ℕ) → IsGuestNumber guest → entry < 64 → P (SwapOut guest source target metadata entry))
    → swap_out_operands ws ≡ Ok command → P command
unfolding swap_out_operands
swap_out_ok P ws command all h = entry_command_ok SwapOut P ws command all h

pub swap_in_ok : (P : Command → Type 0) (ws : List (List ℕ)) (command : Command)
    → ((guest source target metadata entry : ℕ) → IsGuestNumber guest → entry < 64 → P (SwapIn guest source target metadata entry))
    → swap_in_operands ws ≡ Ok command → P command
unfolding swap_in_operands
swap_in_ok P ws command all h = entry_command_ok SwapIn P ws command all h

pub metadata_out_ok : (P : Command → Type 0) (ws : List (List ℕ)) (command : Command)
    → ((guest source target metadata entry : ℕ) → IsGuestNumber guest → entry < 64 → P (MdOut guest source target metadata entry))
    → metadata_out_operands ws ≡ Ok command → P command
unfolding metadata_out_operands
metadata_out_ok P ws command all h = entry_command_ok MdOut P ws command all h

pub metadata_in_ok : (P : Command → Type 0) (ws : List (List ℕ)) (command : Command)
    → ((guest source target metadata entry : ℕ) → IsGuestNumber guest → entry < 64 → P (MdIn guest source target metadata entry))
    → metadata_in_operands ws ≡ Ok command → P command
unfolding metadata_in_operands
metadata_in_ok P ws command all h = entry_command_ok MdIn P ws command all h

pub root_out_ok : (P : Command → Type 0) (ws : List (List ℕ)) (command : Command)
    → ((guest source target : ℕ) → IsGuestNumber guest → P (MdRootOut guest source target)) → root_out_operands ws ≡ Ok command → P command
unfolding root_out_operands
root_out_ok P ws command all h = frames_command_ok MdRootOut P ws command all h

pub root_in_ok : (P : Command → Type 0) (ws : List (List ℕ)) (command : Command)
    → ((guest source target : ℕ) → IsGuestNumber guest → P (MdRootIn guest source target)) → root_in_operands ws ≡ Ok command → P command
unfolding root_in_operands
root_in_ok P ws command all h = frames_command_ok MdRootIn P ws command all h
