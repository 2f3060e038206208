-- Texts that are written one after another.
use Rattle.std.proofs.Common.{◌≡◌, ℕ, List, ◌++◌, ap, sym, ◌∙◌, append_assoc}

pub chain2 : (front d1 d2 whole t1 t2 : List ℕ) → t1 ≡ front ++ d1 → t2 ≡ t1 ++ d2 → whole ≡ d1 ++ d2 → t2 ≡ front ++ whole
chain2 front d1 d2 whole t1 t2 e1 e2 w =
    e2 ∙ ap (λ (t : List ℕ). t ++ d2) e1 ∙ append_assoc front d1 d2 ∙ ap (λ (t : List ℕ). front ++ t) (sym w)

pub chain3 : (front d1 d2 d3 whole t1 t2 t3 : List ℕ) → t1 ≡ front ++ d1 → t2 ≡ t1 ++ d2 → t3 ≡ t2 ++ d3 → whole ≡ d1 ++ (d2 ++ d3) → t3 ≡ front ++ whole
chain3 front d1 d2 d3 whole t1 t2 t3 e1 e2 e3 w =
    chain2 front d1 (d2 ++ d3) whole t1 t3 e1 (e3 ∙ ap (λ (t : List ℕ). t ++ d3) e2 ∙ append_assoc t1 d2 d3) w
