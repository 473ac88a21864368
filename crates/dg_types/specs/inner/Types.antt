-- What the rounds of types found of a diagram (own).
use Rattle.std.specs.Prelude.{◌≡◌, map}
use Rattle.dg_model.specs.declared.diagram.Diagram.{Diagram}
use Rattle.dg_model.specs.Attributes.{or_logical}
use Rattle.dg_model.specs.Checked.{params_of}
use Rattle.dg_model.specs.TypeRounds.{types_of}
use Rattle.dg_model.specs.TypeRule.{KeepsTypes}
use Rattle.dg_types.specs.declared.typed.BlockTypes.{BlockTypes}
use Rattle.dg_types.specs.declared.typed.Typed.{Typed}
use Rattle.dg_types.specs.inner.Build.{all_forms}
use Rattle.dg_types.specs.inner.TypeScan.{IsTyped}

-- these are the blocks that they see, and the types after them
abbrev pub AreTyped : Typed → Type 0
AreTyped typed =
    IsTyped typed.diagram.now typed.round.now.blocks.now
    (all_forms typed.round.now.links.blocks.now) typed.round.now.links.sources typed.types.now

-- these are the types of a diagram that keeps the rule, and those of its coefficients
pub record AreFound (diagram : Diagram) (types : BlockTypes) : Type 0 where
  pub results : types.results ≡ map or_logical (types_of diagram)
  pub params : types.params ≡ params_of diagram
  pub kept : KeepsTypes diagram
