-- The columns of a kind's row that are choices or marks, as the code tells them.
use Rattle.dg_model.specs.declared.kind.Kind.{Kind}
use Rattle.dg_model.specs.declared.row.Role.{Role}
use Rattle.dg_model.specs.declared.row.Row.{Row}
use Rattle.dg_model.specs.Library.{row_of}

-- what no parameter of the kind is in
abbrev pub fixed_row : Kind → Row
fixed_row kind = record {
  role = Role.Plain;
  stands = (row_of kind).place.stands;
  own = (row_of kind).types.own;
  inherits = (row_of kind).timing.inherits;
  reads = (row_of kind).timing.reads;
  asks = (row_of kind).timing.asks;
  delay = 0;
  pipelines = (row_of kind).hardware.pipelines;
  multiplies = (row_of kind).hardware.multiplies;
}
