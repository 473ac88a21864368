use Rattle.std.proofs.Common.{◌≡◌, ◌≤◌, length, arith}
use Rattle.std.proofs.lemmas.Bool.Decides.{nat_tests}
use Rattle.vl_write.proofs.Puts.{both, no-attrs, none-put, puts-as, some-attrs}
use Rattle.vl_write.proofs.attributes.put_attrs.Goals as goal

pub returns-then-is_empty : goal.returns-then-is_empty
returns-then-is_empty c =
    let none : length c.args.attrs.now ≡ 0 = grind (arith, nat_tests, c.if-is_empty.ensures) in
    puts-as (no-attrs c.args.indent.now c.args.attrs.now none) (none-put c.args.out.now)

pub returns : goal.returns
returns c =
    let some : 1 ≤ length c.args.attrs.now = grind (arith, nat_tests, c.if-is_empty.ensures) in
    puts-as (some-attrs c.args.indent.now c.args.attrs.now some) (both c.put.ensures (both c.put-2.ensures (both c.put_list.ensures c.put-3.ensures)))
