use Rattle.std.proofs.Common.{◌++◌, List, ℕ, take, sym, ap, ◌∙◌, arith, append-nil}
use Rattle.script_text.proofs.HexDigits.{bytes_more, hex_bytes_none}
use Rattle.script_text.proofs.base16.put_bytes.Goals as goal

pub loop-byte-init : goal.loop-byte-init
loop-byte-init c =
    let front = take c.args.at c.args.out.now in
    record { place = omega arith; text = sym (append-nil front) ∙ ap (λ (t : List ℕ). front ++ t) (sym hex_bytes_none) }

pub loop-byte-preserved : goal.loop-byte-preserved
loop-byte-preserved c = record {
  place = omega arith;
  text = c.put_pair-end.ensures.text ∙ bytes_more _ _ c.args.bytes.now c.loop-byte.byte-index c.loop-byte-test.true c.loop-byte.invariant.text;
}
