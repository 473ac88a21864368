use Rattle.std.proofs.Common.{◌≡◌, ◌+◌, ◌+ℤ◌, ℕ, ℤ, IfSome, to_z, of_z, ap₂, sym, subst, ◌∙◌}
use Rattle.std.specs.Int.{w16}
use Rattle.std.proofs.lemmas.Int.{to_z-of_z}
use Rattle.fx_type.specs.FxType.{frac_of}
use Rattle.fx_type.proofs.Ranges.{frac_bounds}
use Rattle.dg_model.specs.Operation.{operation_of}
use Rattle.dg_blocks.specs.declared.narrow.Narrow.{Narrow}
use Rattle.dg_blocks.specs.Narrow.{IsNarrow, HasRoom}
use Rattle.dg_blocks.specs.Prepared.{IsReady, product_bits}
use Rattle.dg_blocks.proofs.TypeLists.{both_of}
use Rattle.dg_blocks.proofs.preparing.product_narrow.Goals as goal
use Rattle.dg_blocks.proofs.preparing.product_narrow.Goals.{After-product_frac-frac}

-- the frac of the product is that of the full type
full_frac : (c : After-product_frac-frac) → to_z w16 (of_z w16 c.product_frac-frac.result) ≡ frac_of c.requires.full.0
full_frac c = to_z-of_z w16 c.product_frac-frac.result (record { sfits = c.product_frac-frac.type_inv }) ∙ c.product_frac-frac.ensures ∙ sym c.requires.full.1.frac

pub new-requires-clause-low : goal.new-requires-clause-low
new-requires-clause-low c = rw (full_frac (goal.at.new-requires-clause-low c).After-product_frac-frac) (frac_bounds c.requires.full.0 c.requires.full.1.valid).0

pub new-requires-clause-high : goal.new-requires-clause-high
new-requires-clause-high c = rw (full_frac (goal.at.new-requires-clause-high c).After-product_frac-frac) (frac_bounds c.requires.full.0 c.requires.full.1.valid).1

pub returns : goal.returns
returns c =
    let call = c.args.call.now in
    let f = full_frac (goal.at.returns c).After-product_frac-frac ∙ c.requires.full.1.frac in
    let bits = ap₂ (λ (m n : ℕ). m + n + 1) c.magnitude.ensures.is c.magnitude-2.ensures.is in
    both_of (λ (narrow : Narrow). IsNarrow narrow (frac_of c.args.a +ℤ frac_of c.args.b) call.result call.rounding call.saturate) (λ (narrow : Narrow). HasRoom narrow (product_bits c.args.a c.args.b))
    (λ (narrow : Narrow). IsReady (operation_of call) narrow (product_bits c.args.a c.args.b) (frac_of c.args.a +ℤ frac_of c.args.b)) c.new.result (λ narrow p q. (p, q))
    (subst (λ (z : ℤ). IfSome c.new.result (λ narrow. IsNarrow narrow z call.result call.rounding call.saturate)) f c.new.ensures.is)
    (subst (λ (n : ℕ). IfSome c.new.result (λ narrow. HasRoom narrow n)) bits c.new.ensures.room)
