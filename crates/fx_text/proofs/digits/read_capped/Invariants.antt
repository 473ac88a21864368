use Rattle.std.proofs.Common.{◌≡◌, ◌-◌, ◌^◌, ◌<◌, min, drop}
use Rattle.std.specs.List.{list_all}
use Rattle.std.specs.Char.{is_ascii_digit}
use Rattle.std.specs.Str.Parse.{digits_value, digits_value_after}
use Rattle.fx_text.proofs.digits.read_capped.Given as goal

abbrev pub invariant-loop-digit : goal.invariant-loop-digit
invariant-loop-digit l = record {
  read : min (digits_value_after 10 l.value (drop l.digit-index l.digits)) (2 ^ 128 - 1) ≡ min (digits_value 10 l.digits) (2 ^ 128 - 1);
  digits : list_all is_ascii_digit (drop l.digit-index l.digits) ≡ list_all is_ascii_digit l.digits;
  fits : l.value < 2 ^ 128;
}
