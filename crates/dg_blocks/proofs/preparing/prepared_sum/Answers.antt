use Rattle.std.proofs.Common.{◌≡◌, ◌∙◌, ◌≤ℤ◌, ℕ, to_z, of_z, refl, sym, subst, arith, pos, negsuc, length}
use Rattle.std.specs.Int.{w16}
use Rattle.std.proofs.lemmas.Int.{to_z-of_z}
use Rattle.fx_type.specs.FxType.{frac_of}
use Rattle.fx_type.proofs.Ranges.{frac_bounds}
use Rattle.dg_model.specs.declared.op.Op.{Op}
use Rattle.dg_model.specs.Operation.{HasArity, HasSigns, HasFullType}
use Rattle.dg_blocks.specs.Narrow.{HasRoom}
use Rattle.dg_blocks.proofs.preparing.prepared_sum.Goals as goal
use Rattle.dg_blocks.proofs.preparing.prepared_sum.Goals.{After-frac-frac}

-- the frac at hand is that of the full type
full_frac : (c : After-frac-frac) → to_z w16 (of_z w16 c.frac-frac.result) ≡ frac_of c.sum_type-full.result
full_frac c = to_z-of_z w16 c.frac-frac.result (record { sfits = c.frac-frac.type_inv }) ∙ c.frac-frac.ensures

full_bounds : (c : After-frac-frac) → (negsuc 63 ≤ℤ to_z w16 (of_z w16 c.frac-frac.result)) × (to_z w16 (of_z w16 c.frac-frac.result) ≤ℤ pos 128)
full_bounds c = rw (full_frac c) (frac_bounds c.sum_type-full.result c.sum_type-full.ensures.valid)

pub sum_type-full-requires : goal.sum_type-full-requires
sum_type-full-requires c =
    let call = c.args.call.now in
    let arity = subst (λ (op : Op). HasArity op (length call.types.now)) c.requires.is_sum c.requires.can.arity in record {
      signs = subst (λ (op : Op). HasSigns op call.signs.now (length call.types.now)) c.requires.is_sum c.requires.can.signs;
      some = arity.0;
      few = arity.1;
      types = c.requires.can.types;
      full = subst (λ (op : Op). HasFullType op call.signs.now call.types.now) c.requires.is_sum c.requires.can.full_type;
    }

pub are_short-requires : goal.are_short-requires
are_short-requires c =
    let bounds = full_bounds (goal.at.are_short-requires c).After-frac-frac in
    record { low = bounds.0; high = bounds.1; types = c.requires.can.types }

pub new-requires : goal.new-requires
new-requires c =
    let bounds = full_bounds (goal.at.new-requires c).After-frac-frac in
    record { bits = omega (arith, c.magnitude-bits.ensures.small); low = bounds.0; high = bounds.1; to = c.requires.can.result }

pub returns-in-Some : goal.returns-in-Some
returns-in-Some c =
    let f = full_frac (goal.at.returns-in-Some c).After-frac-frac in (
      c.sum_type-full.result,
      c.requires.is_sum,
      c.sum_type-full.ensures,
      sym f,
      c.if-not-are_short.ensures refl,
      (c.in-Some.ensures.is, subst (λ (n : ℕ). HasRoom c.in-Some.narrow n) c.magnitude-bits.ensures.is c.in-Some.ensures.room),
    )
