use Rattle.std.proofs.Common.{◌<◌, ◌≤◌, ◌+◌, ◌*◌, pos, Bool, if◌then◌else◌, nat_lt, ap, sym, subst, ◌∙◌, arith}
use Rattle.std.specs.Int.{w128}
use Rattle.std.proofs.lemmas.Bool.{le-ltb, lt-ltb}
use Rattle.std.proofs.lemmas.Int.{to_z-of_z}
use Rattle.std.proofs.lemmas.Option.{get_or_from_slice_get}
use Rattle.vl_ast.specs.Value.{bits_of}
use Rattle.vl_replay.specs.Sampled.{numbers_of}
use Rattle.vl_replay.specs.inner.Drivers.{IsWithin, driver_bits}
use Rattle.vl_replay.proofs.drivers.driven_bits.Goals as goal

pub returns-in-Reset : goal.returns-in-Reset
returns-in-Reset c = ap (driver_bits (numbers_of c.args.stimulus.now) c.args.stimulus.now.lines c.args.sample) (sym c.in-Reset.is)

pub returns-in-Enable : goal.returns-in-Enable
returns-in-Enable c = ap (driver_bits (numbers_of c.args.stimulus.now) c.args.stimulus.now.lines c.args.sample) (sym c.in-Enable.is)

pub hit_at-sample-requires : goal.hit_at-sample-requires
hit_at-sample-requires c = (subst (IsWithin c.args.stimulus.now.columns) c.in-Column.is c.requires).1

pub get-requires-clause-column_is_there : goal.get-requires-clause-column_is_there
get-requires-clause-column_is_there c = (subst (IsWithin c.args.stimulus.now.columns) c.in-Column.is c.requires).0

pub get-requires-clause-row_is_there : goal.get-requires-clause-row_is_there
get-requires-clause-row_is_there c = omega (arith, c.count.ensures, c.if-sample-count.true)

pub bits_of-requires : goal.bits_of-requires
bits_of-requires c = (subst (IsWithin c.args.stimulus.now.columns) c.in-Column.is c.requires).2

pub returns-then-sample-count : goal.returns-then-sample-count
returns-then-sample-count c =
    let table = c.args.stimulus.now in
    let hit = c.hit_at-sample.result in
    let column = c.in-Column in
    let below : hit < table.lines = omega (arith, c.count.ensures, c.if-sample-count.true) in
    c.bits_of.ensures ∙ ap (bits_of column.width)
    (to_z-of_z w128 c.get.result (record { sfits = c.get.type_inv })
    ∙ sym (get_or_from_slice_get table.cells (hit * table.columns + column.place) c.get.result
    (pos 0) c.get.ensures))
    ∙ ap (λ (t : Bool). if t then bits_of column.width (numbers_of table column.place hit) else 0) (sym (lt-ltb hit table.lines below))
    ∙ ap (λ t. if nat_lt t table.lines then bits_of column.width (numbers_of table column.place t) else 0) c.hit_at-sample.ensures
    ∙ ap (driver_bits (numbers_of table) table.lines c.args.sample) (sym column.is)

pub returns-else-sample-count : goal.returns-else-sample-count
returns-else-sample-count c =
    let table = c.args.stimulus.now in
    let hit = c.hit_at-sample.result in
    let column = c.in-Column in
    let past : table.lines ≤ hit = omega (arith, c.count.ensures, c.if-sample-count.false) in
    ap (λ (t : Bool). if t then bits_of column.width (numbers_of table column.place hit) else 0) (sym (le-ltb hit table.lines past))
    ∙ ap (λ t. if nat_lt t table.lines then bits_of column.width (numbers_of table column.place t) else 0) c.hit_at-sample.ensures
    ∙ ap (driver_bits (numbers_of table) table.lines c.args.sample) (sym column.is)
