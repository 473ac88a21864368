use Rattle.std.proofs.Common.{◌≡◌, ℕ, ℤ, List, length, ap, ap₂, sym, ◌∙◌}
use Rattle.std.specs.Int.{w128}
use Rattle.std.specs.Vec.{with_items}
use Rattle.std.proofs.lemmas.Int.{to_z-of_z}
use Rattle.std.proofs.lemmas.List.{with_items_is}
use Rattle.dg_sim.proofs.past.Past.push.Goals as goal
use Rattle.dg_sim.proofs.past.Past.push.Goals.{After-push-self-inside}

-- as many values as before, those that the ring has
size : (c : After-push-self-inside) → length c.push-self-inside.new.values ≡ length c.self.inside.values.items
size c = c.push-self-inside.ensures.same ∙ ap length c.as_mut_slice.ensures.value

values_are : (c : After-push-self-inside) → (with_items c.self.inside.values c.push-self-inside.new.values).items ≡ c.push-self-inside.new.values
values_are c = with_items_is c.self.inside.values c.push-self-inside.new.values (size c ∙ sym c.self.inside.values.ok.0)

pub push-self-inside-requires : goal.push-self-inside-requires
push-self-inside-requires c = record { head = rw c.as_mut_slice.ensures.value c.self.invariant.0; filled = rw c.as_mut_slice.ensures.value c.self.invariant.1 }

pub invariant_of-self : goal.invariant_of-self
invariant_of-self c = rw (values_are (goal.at.invariant_of-self c).After-push-self-inside) (c.push-self-inside.ensures.head, c.push-self-inside.ensures.filled)

pub returns : goal.returns
returns c =
    let point = (goal.at.returns c).After-push-self-inside in
    let kept = rw (c.as_mut_slice.ensures.value, to_z-of_z w128 c.args.v c.ranges.v) at c.push-self-inside.ensures.kept in
    rw (values_are point, ← c.self.view_is) (ap₂ (λ (room : ℕ) (values : List ℤ). record { room = room; values = values }) (size point) kept)
