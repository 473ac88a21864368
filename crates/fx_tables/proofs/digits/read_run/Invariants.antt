use Rattle.std.proofs.Common.{◌≡◌, ◌^◌, ◌<◌, ◌≤◌, true, take}
use Rattle.std.specs.List.{list_all}
use Rattle.std.specs.Char.{is_ascii_digit}
use Rattle.std.specs.Str.Parse.{digits_value}
use Rattle.fx_tables.proofs.digits.read_run.Given as goal

abbrev pub invariant-loop-length : goal.invariant-loop-length
invariant-loop-length l = record {
  number : l.value ≡ digits_value 10 (take l.length l.text);
  digits : list_all is_ascii_digit (take l.length l.text) ≡ true;
  small : l.value < 10 ^ l.length;
  few : l.length ≤ 18;
}
