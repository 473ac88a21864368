use Rattle.std.proofs.Common.{◌∙◌, ap, sym, pos, Some, get_or, FitsSigned, rules}
use Rattle.std.specs.Int.{w128}
use Rattle.std.proofs.lemmas.Int.{to_z-of_z}
use Rattle.dg_sim.proofs.Rings.{value_there, value_none}
use Rattle.dg_sim.proofs.ring.Ring.get.Goals as goal

pub returns-then-age-self : goal.returns-then-age-self
returns-then-age-self c =
    let fits : FitsSigned w128 (get_or c.args.values.now c.place.result (pos 0)) = search rules in
    rw (to_z-of_z w128 (get_or c.args.values.now c.place.result (pos 0)) fits) (
    ap (λ k. Some (get_or c.args.values.now k (pos 0))) c.place.ensures.is ∙ sym (value_there c.args.values.now c.args.self.head c.args.self.filled c.args.age c.if-age-self.true)
    )

pub returns-else-age-self : goal.returns-else-age-self
returns-else-age-self c = value_none c.args.values.now c.args.self.head c.args.self.filled c.args.age c.if-age-self.false
