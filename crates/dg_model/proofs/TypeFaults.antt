-- Diagrams that break each part of the rule of types, worked by hand.
use Rattle.std.proofs.Common.{◌≡◌, ℕ, zero, suc, ◌<◌, List, [], ◌∷◌, codes, Some, None, Option, pos, true, false, inl, inr, refl, sym, subst, ap, arith}
use Rattle.std.specs.Prelude.{slice_get, All, IsSome}
use Rattle.std.proofs.lemmas.Bool.{false≢true}
use Rattle.fx_type.specs.declared.kind.FxType.{FxType}
use Rattle.fx_type.specs.declared.kind.FxType.TheVariants.{Num, Logical as Boolean}
use Rattle.fx_type.specs.declared.spec.TypeSpec.{TypeSpec}
use Rattle.fx_type.specs.declared.spec.TypeSpec.TheVariants.{Fixed, Auto}
use Rattle.fx_type.specs.FxType.{width_of}
use Rattle.dg_model.specs.declared.diagram.Diagram.{Diagram}
use Rattle.dg_model.specs.declared.diagram.Block.{Block}
use Rattle.dg_model.specs.declared.fault.Shown.TheVariants.{Word}
use Rattle.dg_model.specs.declared.kind.Kind.{Kind}
use Rattle.dg_model.specs.declared.kind.Kind.TheVariants.{Inport, Outport, Product, Relational, Delay, Mux}
use Rattle.dg_model.specs.declared.kind.Relation.TheVariants.{Lt}
use Rattle.dg_model.specs.declared.rule.Rule.{Rule}
use Rattle.dg_model.specs.Faults.{AllKeep, IsFirstBroken, path_of, fault_of}
use Rattle.dg_model.specs.TypeRounds.{input_types, types_of}
use Rattle.dg_model.specs.TypeRule.{IsNotWide, HasTypes, HasAgreeing, BreaksType}
use Rattle.dg_model.proofs.WidthRounds.{block_of, edge_of}
use Rattle.dg_model.proofs.Examples.{int8}
use Rattle.math_list.proofs.ByRecursion.{all_of, each_of}

abbrev width_if : Option FxType → ℕ
width_if None = 0
width_if (Some type) = width_of type

abbrev int16 : FxType
int16 = Num true 16 (pos 0)

abbrev named : List ℕ → Kind → TypeSpec → ℕ → ℕ → Block
named path kind result inputs outputs = record (block_of kind inputs outputs) { path = path; result = result }

abbrev input_of : ℕ → FxType → Block
input_of number type = named [] (Inport number 0) (Fixed type) 0 1

-- ---- a full type that is too wide

-- a product of 65 and 64 bits: the full type has 129, though its own type is written out
abbrev wide : Diagram
wide = record {
  blocks = input_of 1 (Num true 65 (pos 0)) ∷ input_of 2 (Num true 64 (pos 0)) ∷ named (codes "m/p") Product (Fixed int8) 2 1 ∷ named (codes "m/d") (Delay 1 [] false) Auto 1 1 ∷ [];
  edges = edge_of 0 1 2 1 ∷ edge_of 1 1 2 2 ∷ edge_of 3 1 3 1 ∷ [];
}

-- it is told before the Delay that never has a type
wide_breaks : BreaksType wide (fault_of Rule.Type (codes "m/p") (Word (codes "wide")))
wide_breaks = inl (record {
  place = 2;
  block = named (codes "m/p") Product (Fixed int8) 2 1;
  first = record { there = refl; broken = λ keeps. false≢true (keeps refl inputs); before = before };
  fault_is = refl;
}) where
  inputs : All IsSome (input_types wide (types_of wide) 2)
  inputs = all_of IsSome (input_types wide (types_of wide) 2) (refl, (refl, tt))

  before : (other : ℕ) (b : Block) → other < 2 → slice_get wide.blocks other ≡ Some b → IsNotWide wide (types_of wide) other b
  before zero b below is = let same : b ≡ input_of 1 (Num true 65 (pos 0)) = cc is in
      subst (λ b. IsNotWide wide (types_of wide) 0 b) (sym same) (λ names known. absurd (false≢true names))
  before (suc zero) b below is = let same : b ≡ input_of 2 (Num true 64 (pos 0)) = cc is in
      subst (λ b. IsNotWide wide (types_of wide) 1 b) (sym same) (λ names known. absurd (false≢true names))
  before (suc (suc other)) b below is = absurd (omega (arith, below))

-- ---- a type that isn't known

-- a comparison with a Delay that feeds itself: its own type is known, and that of an input isn't
abbrev missing : Diagram
missing = record {
  blocks = input_of 1 int8 ∷ named (codes "m/r") (Relational Lt) Auto 2 1 ∷ named (codes "m/d") (Delay 1 [] false) Auto 1 1 ∷ [];
  edges = edge_of 0 1 1 1 ∷ edge_of 2 1 1 2 ∷ edge_of 2 1 2 1 ∷ [];
}

missing_types : types_of missing ≡ Some int8 ∷ Some Boolean ∷ None ∷ []
missing_types = refl

missing_input : All IsSome (input_types missing (types_of missing) 1) → ⊥
missing_input known = false≢true (known 1 None (omega arith))

missing_breaks : BreaksType missing (fault_of Rule.Type (codes "m/r") (Word (codes "missing")))
missing_breaks = inr (inl (record {
  narrow = each_of (IsNotWide missing (types_of missing)) missing.blocks
      (λ names known. absurd (false≢true names), (λ names known. absurd (missing_input known), (λ names known. absurd (false≢true names), tt)));
  unknown = record {
    place = 1;
    block = named (codes "m/r") (Relational Lt) Auto 2 1;
    first = record { there = refl; broken = λ keeps. missing_input keeps.inputs; before = before };
    fault_is = refl;
  };
})) where
  before : (other : ℕ) (b : Block) → other < 1 → slice_get missing.blocks other ≡ Some b → HasTypes missing (types_of missing) other b
  before zero b below is = let same : b ≡ input_of 1 int8 = cc is in
      subst (λ b. HasTypes missing (types_of missing) 0 b) (sym same) (record { outputs = λ some. refl; inputs = all_of IsSome [] tt })
  before (suc other) b below is = absurd (omega (arith, below))

-- ---- types that don't agree

-- an Outport with a type that it writes out, of a driver of 16 bits, before a Mux of 8 and 16 bits
abbrev differing : FxType → Diagram
differing type = record {
  blocks = input_of 1 int8 ∷ input_of 2 int16 ∷ named (codes "m/y") (Outport 1) (Fixed type) 1 0 ∷ named (codes "m/m") (Mux []) Auto 2 1 ∷ named (codes "m/z") (Outport 2) Auto 1 0 ∷ [];
  edges = edge_of 1 1 2 1 ∷ edge_of 0 1 3 1 ∷ edge_of 1 1 3 2 ∷ edge_of 3 1 4 1 ∷ [];
}

differing_narrow : (type : FxType) → AllKeep (differing type) (IsNotWide (differing type) (types_of (differing type)))
differing_narrow type = each_of (IsNotWide (differing type) (types_of (differing type))) (differing type).blocks (
  λ names known. absurd (false≢true names),
  (
    λ names known. absurd (false≢true names),
    (
      λ names known. absurd (false≢true names),
      (λ names known. absurd (false≢true names), (λ names known. absurd (false≢true names), tt)),
    ),
  ),
)

differing_known : (type : FxType) → AllKeep (differing type) (HasTypes (differing type) (types_of (differing type)))
differing_known type = each_of (HasTypes (differing type) (types_of (differing type))) (differing type).blocks (
  record { outputs = λ some. refl; inputs = all_of IsSome [] tt },
  (
    record { outputs = λ some. refl; inputs = all_of IsSome [] tt },
    (
      record { outputs = λ some. refl; inputs = all_of IsSome (Some int16 ∷ []) (refl, tt) },
      (
        record { outputs = λ some. refl; inputs = all_of IsSome (Some int8 ∷ Some int16 ∷ []) (refl, (refl, tt)) },
        (record { outputs = λ some. refl; inputs = all_of IsSome (Some int8 ∷ []) (refl, tt) }, tt),
      ),
    ),
  ),
)

sixteen_is_not_eight : ◌≡◌ {A = Option FxType} (Some int16) (Some int8) → ⊥
sixteen_is_not_eight same = let widths : ◌≡◌ {A = ℕ} 16 8 = ap width_if same in absurd (omega (arith, widths))

differing_inputs : (type : FxType) (other : ℕ) (b : Block) → other < 2 → slice_get (differing type).blocks other ≡ Some b → HasAgreeing (differing type) (types_of (differing type)) other b
differing_inputs type zero b below is = let same : b ≡ input_of 1 int8 = cc is in
    subst (λ b. HasAgreeing (differing type) (types_of (differing type)) 0 b) (sym same) (record { written = tt; inside = tt })
differing_inputs type (suc zero) b below is = let same : b ≡ input_of 2 int16 = cc is in
    subst (λ b. HasAgreeing (differing type) (types_of (differing type)) 1 b) (sym same) (record { written = tt; inside = tt })
differing_inputs type (suc (suc other)) b below is = absurd (omega (arith, below))

-- the first block whose types differ is told
differs_at : (type : FxType) (place : ℕ) (block : Block) → IsFirstBroken (differing type) (HasAgreeing (differing type) (types_of (differing type))) place block →
    BreaksType (differing type) (fault_of Rule.Type (path_of (differing type) place) (Word (codes "differs")))
differs_at type place block first = inr
    (inr (record {
      narrow = differing_narrow type;
      known = differing_known type;
      differ =
          record { place = place; block = block; first = first; fault_is = refl };
    }))

outport_breaks : BreaksType (differing int8) (fault_of Rule.Type (codes "m/y") (Word (codes "differs")))
outport_breaks = differs_at int8 2 (named (codes "m/y") (Outport 1) (Fixed int8) 1 0)
    (record { there = refl; broken = λ keeps. sixteen_is_not_eight (keeps.written 0 (Some int8) (omega arith)); before = differing_inputs int8 })

-- where the Outport's type is its driver's, the Mux is the first
mux_breaks : BreaksType (differing int16) (fault_of Rule.Type (codes "m/m") (Word (codes "differs")))
mux_breaks = differs_at int16 3 (named (codes "m/m") (Mux []) Auto 2 1)
    (record { there = refl; broken = λ keeps. sixteen_is_not_eight (keeps.inside 0 (Some int8) (omega arith)); before = before }) where
      agrees : HasAgreeing (differing int16) (types_of (differing int16)) 2 (named (codes "m/y") (Outport 1) (Fixed int16) 1 0)
      agrees = record { written = all_of (λ input. input ≡ Some int16) (Some int16 ∷ []) (refl, tt); inside = tt }

      before : (other : ℕ) (b : Block) → other < 3 → slice_get (differing int16).blocks other ≡ Some b → HasAgreeing (differing int16) (types_of (differing int16)) other b
      before zero b below is = differing_inputs int16 0 b (omega arith) is
      before (suc zero) b below is = differing_inputs int16 1 b (omega arith) is
      before (suc (suc zero)) b below is = let same : b ≡ named (codes "m/y") (Outport 1) (Fixed int16) 1 0 = cc is in
          subst (λ b. HasAgreeing (differing int16) (types_of (differing int16)) 2 b) (sym same) agrees
      before (suc (suc (suc other))) b below is = absurd (omega (arith, below))
