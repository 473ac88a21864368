-- Types of small diagrams, worked by hand.
use Rattle.std.proofs.Common.{◌≡◌, ℕ, [], ◌∷◌, None, Some, pos, true, false, refl}
use Rattle.fx_type.specs.declared.kind.FxType.{FxType}
use Rattle.fx_type.specs.declared.kind.FxType.TheVariants.{Num, Logical as Boolean}
use Rattle.fx_type.specs.declared.spec.TypeSpec.{TypeSpec}
use Rattle.fx_type.specs.declared.spec.TypeSpec.TheVariants.{Fixed, Internal, Auto}
use Rattle.dg_model.specs.declared.diagram.Diagram.{Diagram}
use Rattle.dg_model.specs.declared.diagram.Block.{Block}
use Rattle.dg_model.specs.declared.kind.Kind.{Kind}
use Rattle.dg_model.specs.declared.kind.Kind.TheVariants.{Inport, Delay, Product, Pass, Relational}
use Rattle.dg_model.specs.declared.kind.Relation.TheVariants.{Lt}
use Rattle.dg_model.specs.TypeRounds.{types_of, types_after}
use Rattle.dg_model.proofs.WidthRounds.{block_of, edge_of}

abbrev int8 : FxType
int8 = Num true 8 (pos 0)

abbrev int16 : FxType
int16 = Num true 16 (pos 0)

abbrev typed : Kind → TypeSpec → ℕ → ℕ → Block
typed kind result inputs outputs = record (block_of kind inputs outputs) { result = result }

-- a product in front of its inputs; its result goes through an inner port that declares another type
abbrev chain : Diagram
chain = record {
  blocks = typed (Delay 1 [] false) Auto 1 1 ∷ typed (Pass 0) (Fixed int8) 1 1 ∷ typed Product Internal 2 1 ∷ typed (Inport 1 0) (Fixed int8) 0 1 ∷ typed (Relational Lt) Auto 2 1 ∷ [];
  edges = edge_of 1 1 0 1 ∷ edge_of 2 1 1 1 ∷ edge_of 3 1 2 1 ∷ edge_of 3 1 2 2 ∷ edge_of 2 1 4 1 ∷ edge_of 0 1 4 2 ∷ [];
}

chain_types : types_of chain ≡ Some int8 ∷ Some int8 ∷ Some int16 ∷ Some int8 ∷ Some Boolean ∷ []
chain_types = refl

-- before the first round the explicit types are known, and no others
chain_first : types_after chain 0 ≡ None ∷ Some int8 ∷ None ∷ Some int8 ∷ None ∷ []
chain_first = refl

-- a Delay that feeds itself never has a type
abbrev lonely : Diagram
lonely = record { blocks = typed (Delay 1 [] false) Auto 1 1 ∷ []; edges = edge_of 0 1 0 1 ∷ [] }

lonely_types : types_of lonely ≡ None ∷ []
lonely_types = refl
