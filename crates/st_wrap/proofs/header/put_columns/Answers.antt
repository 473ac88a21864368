use Rattle.std.proofs.Common.{[], ◌∷◌, ℕ, List, if◌then◌else◌, ap, map}
use Rattle.std.proofs.lemmas.List.{take_all}
use Rattle.vl_ast.specs.Header.{input_port, output_port}
use Rattle.vl_ast.proofs.Listings.{lists-as, none-put, one-mapped}
use Rattle.st_wrap.specs.declared.columns.Column.{Column}
use Rattle.st_wrap.specs.Header.{row_port}
use Rattle.st_wrap.specs.inner.Columns.{port_of}
use Rattle.st_wrap.proofs.header.put_columns.Goals as goal

pub loop-column-init : goal.loop-column-init
loop-column-init c = none-put c.args.out.now

pub loop-column-preserved : goal.loop-column-preserved
loop-column-preserved c =
    let x : Column = c.column-item.result in
    one-mapped c.args.columns.now c.loop-column.column-index x c.loop-column-test.true c.column-item.is (port_of c.args.input) c.loop-column.invariant
    (lists-as (ap (λ (name : List ℕ). (if c.args.input then input_port
    (row_port name x.width x.signed) else output_port (row_port name x.width x.signed)) ∷ []) c.bytes.ensures)
    c.put_data_port.ensures)

pub returns : goal.returns
returns c = lists-as (ap (map (port_of c.args.input)) (take_all c.loop-column.column-index c.args.columns.now c.loop-column-test.false)) c.loop-column.invariant
