-- A flat block is such as its nested block's text can be.
use Rattle.std.proofs.Common.{◌≡◌, ℕ, Bool, List, Option, refl, subst}
use Rattle.std.specs.Prelude.{MatchBool, IsFalse, ⊤}
use Rattle.fx_type.specs.declared.rounding.Rounding.TheVariants.{Floor}
use Rattle.dg_model.specs.declared.diagram.Block.{Block}
use Rattle.dg_model.specs.declared.kind.Kind.{Kind}
use Rattle.dg_model.specs.declared.kind.Kind.TheVariants.{Inport, Outport, Constant, Ground, Sum, Gain, Product, Switch, Relational, Logic, Convert, Delay, Mux, Demux, RateTransition, Pass}
use Rattle.dg_model.specs.declared.kind.Kind.TheVariants.{EnableTest, EnOut, Terminator}
use Rattle.dg_model.specs.KindRow.{Row}
use Rattle.dg_model.specs.Library.{row_of}
use Rattle.dg_model.specs.Readable.{IsReadable}
use Rattle.dg_flat.specs.Flat.{resetting}
use Rattle.dg_flat.specs.Flat.{placed_as, control_as}

-- whether a Delay begins anew is no matter of its row
pub row_kept : (resets : Bool) (kind : Kind) → row_of kind ≡ row_of (resetting resets kind)
row_kept resets (Inport number width) = refl
row_kept resets (Outport number) = refl
row_kept resets (Constant value) = refl
row_kept resets Ground = refl
row_kept resets (Sum negative accum) = refl
row_kept resets (Gain value param) = refl
row_kept resets Product = refl
row_kept resets (Switch criterion threshold) = refl
row_kept resets (Relational operator) = refl
row_kept resets (Logic operator) = refl
row_kept resets (Convert stored) = refl
row_kept resets (Delay delay initial own) = refl
row_kept resets (Mux sizes) = refl
row_kept resets (Demux sizes) = refl
row_kept resets (RateTransition period initial) = refl
row_kept resets (Pass width) = refl
row_kept resets EnableTest = refl
row_kept resets (EnOut own initial) = refl
row_kept resets Terminator = refl

pub placed_readable : (path : List ℕ) (resets : Bool) (enable : Option ℕ) (block : Block) → IsReadable block → IsReadable (placed_as path resets enable block)
placed_readable path resets enable block is =
    let same = row_kept resets block.kind in
    record {
      ports = subst (λ (row : Row). row.ports.inputs block.inputs × row.ports.outputs block.outputs) same is.ports;
      parameters = subst (λ (row : Row). row.parameters) same is.parameters;
      types = is.types;
      result = subst (λ (row : Row). row.types.may_be block.result) same is.result;
      rounding = subst (λ (row : Row). MatchBool row.types.rounds ⊤ ((block.rounding ≡ Floor) × IsFalse block.saturate)) same is.rounding;
      period = subst (λ (row : Row). row.timing.may_be block.period) same is.period;
    }

pub control_readable : (path : List ℕ) → IsReadable (control_as path)
control_readable path = record { ports = (refl, refl); parameters = tt; types = tt; result = refl; rounding = (refl, refl); period = refl }
