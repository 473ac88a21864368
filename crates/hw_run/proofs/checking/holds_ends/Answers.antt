use Rattle.std.specs.Int.{w128}
use Rattle.std.proofs.lemmas.Int.{to_z-of_z}
use Rattle.hw_run.proofs.checking.holds_ends.Goals as goal

pub returns-then-holds_product : goal.returns-then-holds_product
returns-then-holds_product c =
    let left = to_z-of_z w128 c.args.left c.ranges.left in
    let lowest = to_z-of_z w128 c.lowest.result (record { sfits = c.lowest.type_inv }) in
    let highest = to_z-of_z w128 c.highest.result (record { sfits = c.highest.type_inv }) in
    let first = rw (left, lowest, c.lowest.ensures) at c.holds_product.ensures in
    let second = rw (left, highest, c.highest.ensures) at c.holds_product-then-holds_product.ensures in
    (λ yes. (first.0 c.if-holds_product.true, second.0 yes), λ both. second.1 both.1)
