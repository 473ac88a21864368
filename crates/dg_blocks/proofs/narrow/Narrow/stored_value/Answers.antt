use Rattle.std.proofs.Common.{◌≡◌, Bool, true, false, sym, ◌∙◌, subst}
use Rattle.std.specs.Int.{w64}
use Rattle.std.proofs.lemmas.Int.{to_z-of_z}
use Rattle.fx_type.specs.Conversion.{Settles}
use Rattle.dg_blocks.proofs.narrow.Narrow.stored_value.Goals as goal

pub returns-then-self : goal.returns-then-self
returns-then-self c to saturate ends =
    let saturates : true ≡ saturate = sym c.if-self.true ∙ ends.saturate_is in
    let n = to_z-of_z w64 c.nearest.result (record { sfits = c.nearest.type_inv }) in
    rw n (subst (λ (s : Bool). Settles to s c.args.r c.nearest.result) saturates (rw (to_z-of_z w64 c.args.r c.ranges.r) at (c.nearest.ensures to saturate ends)))

pub returns-else-self : goal.returns-else-self
returns-else-self c to saturate ends =
    let wraps : false ≡ saturate = sym c.if-self.false ∙ ends.saturate_is in
    let n = to_z-of_z w64 c.wrapped.result (record { sfits = c.wrapped.type_inv }) in
    rw n (subst (λ (s : Bool). Settles to s c.args.r c.wrapped.result) wraps (rw (to_z-of_z w64 c.args.r c.ranges.r) at (c.wrapped.ensures to saturate ends)))
