use Rattle.std.proofs.Common.{◌≡◌, length, slice_get, Some, refl}
use Rattle.std.specs.Int.{w128}
use Rattle.std.proofs.lemmas.Bool.{both_ways, iff_false}
use Rattle.std.proofs.lemmas.Int.{to_z-of_z}
use Rattle.std.proofs.lemmas.Option.{slice_get_read}
use Rattle.hw_run.proofs.Products.{products-hold, lowest-products, highest-products}
use Rattle.hw_run.proofs.checking.holds_products.Goals as goal

pub returns-then-holds_ends : goal.returns-then-holds_ends
returns-then-holds_ends c =
    let low = to_z-of_z w128 c.lowest.result (record { sfits = c.lowest.type_inv }) in
    let high = to_z-of_z w128 c.highest.result (record { sfits = c.highest.type_inv }) in
    let left : slice_get c.args.nets.now c.args.left ≡ Some c.index-nets-left.result =
    slice_get_read c.args.nets.now (length c.args.nets.now) c.args.left c.index-nets-left.result refl
    c.requires.left c.index-nets-left.is in
    let right : slice_get c.args.nets.now c.args.right ≡ Some c.index-nets-right.result =
    slice_get_read c.args.nets.now (length c.args.nets.now) c.args.right c.index-nets-right.result refl
    c.requires.right c.index-nets-right.is in
    let first = (rw (low, c.lowest.ensures) at c.holds_ends.ensures).0 c.if-holds_ends.true in
    let second = rw (high, c.highest.ensures) at c.holds_ends-then-holds_ends.ensures in (
      λ yes. products-hold c.args.nets.now c.args.left c.args.right c.args.width c.args.signed c.index-nets-left.result c.index-nets-right.result left right
          first.0 first.1 (second.0 yes).0 (second.0 yes).1,
      λ is. second.1 (highest-products c.args.nets.now c.args.left c.args.right c.args.width c.args.signed c.index-nets-left.result c.index-nets-right.result left right is),
    )

pub returns-else-holds_ends : goal.returns-else-holds_ends
returns-else-holds_ends c =
    let low = to_z-of_z w128 c.lowest.result (record { sfits = c.lowest.type_inv }) in
    let left : slice_get c.args.nets.now c.args.left ≡ Some c.index-nets-left.result =
    slice_get_read c.args.nets.now (length c.args.nets.now) c.args.left c.index-nets-left.result refl
    c.requires.left c.index-nets-left.is in
    let right : slice_get c.args.nets.now c.args.right ≡ Some c.index-nets-right.result =
    slice_get_read c.args.nets.now (length c.args.nets.now) c.args.right c.index-nets-right.result refl
    c.requires.right c.index-nets-right.is in
    let first = rw (low, c.lowest.ensures) at c.holds_ends.ensures in (
      λ yes. absurd (both_ways c.holds_ends.result c.if-holds_ends.false yes),
      λ is. absurd (iff_false first c.if-holds_ends.false
          (lowest-products c.args.nets.now c.args.left c.args.right c.args.width c.args.signed
          c.index-nets-left.result c.index-nets-right.result left right is)),
    )
