use Rattle.std.proofs.Common.{ap, flat_map}
use Rattle.std.proofs.lemmas.List.{take_all}
use Rattle.vl_ast.proofs.Listings.{lists-as, none-put, one-more}
use Rattle.st_wrap.specs.inner.Columns.{items_for}
use Rattle.st_wrap.proofs.registers.put_parts.Goals as goal

pub loop-column-init : goal.loop-column-init
loop-column-init c = none-put c.args.out.now

pub loop-column-preserved : goal.loop-column-preserved
loop-column-preserved c =
    one-more c.args.columns.now c.loop-column.column-index c.column-item.result c.loop-column-test.true c.column-item.is (items_for c.args.part) c.loop-column.invariant c.put_part.ensures

pub returns : goal.returns
returns c = lists-as (ap (flat_map (items_for c.args.part)) (take_all c.loop-column.column-index c.args.columns.now c.loop-column-test.false)) c.loop-column.invariant
