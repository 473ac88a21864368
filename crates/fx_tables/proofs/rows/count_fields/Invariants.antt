use Rattle.std.proofs.Common.{◌≡◌, ◌+◌, ◌≤◌, length}
use Rattle.fx_tables.specs.Fields.{fields_of}
use Rattle.fx_tables.proofs.rows.count_fields.Given as goal

abbrev pub invariant-fields : goal.invariant-fields
invariant-fields l = record {
  counted : l.count + length (fields_of l.rest) ≡ length (fields_of l.line);
  fits : l.count + length l.rest ≤ length l.line;
}

abbrev pub decreases-fields : goal.decreases-fields
decreases-fields l = length l.rest
