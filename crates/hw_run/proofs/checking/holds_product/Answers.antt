use Rattle.std.specs.Int.{w128}
use Rattle.std.proofs.Common.{◌≡◌, ◌*ℤ◌}
use Rattle.std.proofs.lemmas.Bool.{false≢true}
use Rattle.std.proofs.lemmas.Int.{to_z-of_z}
use Rattle.math_num.proofs.Words.{word-fits}
use Rattle.hw_run.proofs.checking.holds_product.Goals as goal

pub returns-in-None : goal.returns-in-None
returns-in-None c =
    let left = to_z-of_z w128 c.args.left c.ranges.left in
    let right = to_z-of_z w128 c.args.right c.ranges.right in
    (λ yes. absurd (false≢true yes), λ is. absurd ((rw (left, right) at c.in-None.ensures) (word-fits c.args.width c.args.signed _ c.requires is)))

pub returns-in-Some : goal.returns-in-Some
returns-in-Some c =
    let left = to_z-of_z w128 c.args.left c.ranges.left in
    let right = to_z-of_z w128 c.args.right c.ranges.right in
    let fits = rw (left, right) at c.in-Some.ensures.0 in
    let is : c.in-Some.product ≡ c.args.left *ℤ c.args.right = rw (left, right) at c.in-Some.ensures.1 in
    let whole = to_z-of_z w128 (c.args.left *ℤ c.args.right) fits in
    rw (is, whole) at c.fits.ensures
