use Rattle.std.proofs.Common.{◌≡◌, drop, ◌<◌, ◌^◌}
use Rattle.std.specs.List.{list_all}
use Rattle.snp_model.specs.Lines.{value_after}
use Rattle.script_text.specs.Digits.{digit_test}
use Rattle.script_text.proofs.number.value_of.Given as goal

abbrev pub invariant-loop-digit : goal.invariant-loop-digit
invariant-loop-digit l = record {
  fits : l.value < 2 ^ 64;
  value : value_after l.base l.value (drop l.digit-index l.digits) ≡ value_after l.base 0 l.digits;
  digits : list_all (digit_test l.base) (drop l.digit-index l.digits) ≡ list_all (digit_test l.base) l.digits;
}
