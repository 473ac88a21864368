-- When a block is such as its text in a model can be, by the row of its kind (Simulink reference,
-- each block's page; the limits are own).
use Rattle.std.specs.Prelude.{◌≡◌, ℕ, Bool, IsFalse, MatchBool, ⊤}
use Rattle.fx_type.specs.declared.rounding.Rounding.{Rounding}
use Rattle.fx_type.specs.declared.rounding.Rounding.TheVariants.{Floor}
use Rattle.dg_model.specs.declared.diagram.Block.{Block}
use Rattle.dg_model.specs.declared.kind.Kind.{Kind}
use Rattle.dg_model.specs.KindRow.{IsSpec}
use Rattle.dg_model.specs.Library.{row_of}

-- how many input and output ports a kind has
abbrev pub HasPorts : Kind → ℕ → ℕ → Type 0
HasPorts kind inputs outputs =
    (row_of kind).ports.inputs inputs × (row_of kind).ports.outputs outputs

-- a kind that doesn't round has no rounding and no saturation
abbrev pub HasRounding : Kind → Rounding → Bool → Type 0
HasRounding kind rounding saturate =
    MatchBool (row_of kind).types.rounds ⊤ ((rounding ≡ Floor) × IsFalse saturate)

-- a block is such as its text in a model can be
pub record IsReadable (block : Block) : Type 0 where
  pub ports : HasPorts block.kind block.inputs block.outputs
  pub parameters : (row_of block.kind).parameters
  pub types : IsSpec block.result
  pub result : (row_of block.kind).types.may_be block.result
  pub rounding : HasRounding block.kind block.rounding block.saturate
  pub period : (row_of block.kind).timing.may_be block.period
