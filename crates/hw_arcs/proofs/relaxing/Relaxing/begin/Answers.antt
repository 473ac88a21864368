use Rattle.std.proofs.Common.{◌≡◌, ℕ, List, Option, None, true, replicate, rules, refl}
use Rattle.hw_arcs.proofs.relaxing.Relaxing.begin.Goals as goal

pub returns : goal.returns
returns c =
    let lat : c.in_ok-vec.field-0.items ≡ replicate c.args.count 0 = c.in_ok-vec.ensures.items_if_clones_equal (search rules) in
    let tight : ◌≡◌ {A = List (Option ℕ)} c.in_ok-vec-2.field-0.items (replicate c.args.count None) = c.in_ok-vec-2.ensures.items_if_clones_equal (search rules) in
    let pending : c.in_ok-vec-3.field-0.items ≡ replicate c.args.count true = c.in_ok-vec-3.ensures.items_if_clones_equal (search rules) in
    rw (lat, tight, pending, c.new.ensures) refl
