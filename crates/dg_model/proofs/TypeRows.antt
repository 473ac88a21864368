-- Which types outputs may have, and which full types and unions equations name, by kind and specification.
use Rattle.std.proofs.Common.{◌≡◌, [], ◌∷◌, pos, false, true, refl}
use lib.Signed.{le_z_yes}
use Rattle.std.proofs.Math.Dec.{lit<, lit≤}
use Rattle.fx_type.specs.declared.kind.FxType.{FxType}
use Rattle.fx_type.specs.declared.kind.FxType.TheVariants.{Num, Logical as Boolean}
use Rattle.fx_type.specs.declared.spec.TypeSpec.{TypeSpec}
use Rattle.fx_type.specs.declared.spec.TypeSpec.TheVariants.{Fixed, Internal, SameFirst, Auto}
use Rattle.dg_model.specs.declared.kind.Criterion.TheVariants.{AtLeast}
use Rattle.dg_model.specs.declared.kind.Relation.TheVariants.{Lt}
use Rattle.dg_model.specs.declared.kind.Gate.TheVariants.{And}
use Rattle.dg_model.specs.declared.kind.Kind.{Kind}
use Rattle.dg_model.specs.declared.kind.Kind.TheVariants.{Inport, Outport, Constant, Ground, Sum, Gain, Product, Switch, Relational, Logic, Convert, Delay, Mux, Demux, RateTransition, Pass}
use Rattle.dg_model.specs.declared.kind.Kind.TheVariants.{EnableTest, EnOut, Terminator}
use Rattle.fx_type.specs.FullType.{IsUnion}
use Rattle.dg_model.specs.Types.{IsResultType, NamesType}
use Rattle.dg_model.proofs.Examples.{int8, decimal_of}
use Rattle.dg_model.proofs.SumTypes.{two_bytes_full, byte_less_byte_full}

abbrev int16 : FxType
int16 = Num true 16 (pos 0)

abbrev halves : FxType
halves = Num true 8 (pos 1)

-- the types of three inputs and of coefficients, no two the same
abbrev IsOf : Kind → TypeSpec → FxType → Type 0
IsOf kind spec result = IsResultType kind spec (int8 ∷ halves ∷ int16 ∷ []) (Num true 4 (pos 3)) result

-- ---- a type that is written out, at inner ports and root Outports too

written : IsOf (Inport 1 0) (Fixed int16) int16 × IsOf (Outport 1) (Fixed int16) int16
    × IsOf (Constant []) (Fixed int16) int16 × IsOf (Sum [] Internal) (Fixed int16) int16
    × IsOf (Gain [] Internal) (Fixed int16) int16
    × IsOf Product (Fixed int16) int16 × IsOf (Switch AtLeast []) (Fixed int16) int16
    × IsOf (Convert true) (Fixed int16) int16 × IsOf (Pass 0) (Fixed int16) int16
    × IsOf (EnOut true []) (Fixed int16) int16
written = (refl, refl, refl, refl, refl, refl, refl, refl, refl, refl)

not_its_input : ¬ IsOf (Pass 0) (Fixed int16) int8
not_its_input is = let e : ◌≡◌ {A = FxType} int8 int16 = is in cc

-- ---- the type of input 1

first : IsOf (Sum [] Internal) SameFirst int8 × IsOf (Gain [] Internal) SameFirst int8 × IsOf Product SameFirst int8
    × IsOf (Switch AtLeast []) SameFirst int8 × IsOf (Outport 1) Auto int8 × IsOf (Delay 1 [] false) Auto int8
    × IsOf (Mux []) Auto int8 × IsOf (Demux []) Auto int8 × IsOf (RateTransition (decimal_of 1 (lit< tt)) []) Auto int8 × IsOf (Pass 0) Auto int8 × IsOf (EnOut false []) Auto int8
first = (refl, refl, refl, refl, refl, refl, refl, refl, refl, refl, refl)

not_the_second : ¬ IsOf (Switch AtLeast []) SameFirst halves
not_the_second is = let e : ◌≡◌ {A = FxType} halves int8 = is in cc

-- ---- a type that is always the same, and none

always : IsOf Ground Auto (Num false 1 (pos 0)) × IsOf (Relational Lt) Auto Boolean × IsOf (Logic And) Auto Boolean × IsOf EnableTest Auto Boolean
always = (refl, refl, refl, refl)

never : (type : FxType) → (¬ IsOf (Inport 1 0) Auto type) × (¬ IsOf (Constant []) Auto type)
    × (¬ IsOf Terminator Auto type) × (¬ IsOf (Sum [] Internal) Auto type)
    × (¬ IsOf (Delay 1 [] false) Internal type)
never type = (λ is. absurd is, λ is. absurd is, λ is. absurd is, λ is. absurd is, λ is. absurd is)

-- ---- the internal rule: of a sum with its signs, of an input and coefficients, of two inputs, and of a switch's inputs 1 and 3

sums : IsResultType (Sum (false ∷ false ∷ []) Internal) Internal (int8 ∷ int8 ∷ []) int16 (Num true 9 (pos 0))
    × IsResultType (Sum (false ∷ true ∷ []) Internal) Internal (int8 ∷ int8 ∷ []) int16 (Num true 9 (pos 0))
sums = (two_bytes_full, byte_less_byte_full)

products : IsOf (Gain [] Internal) Internal (Num true 12 (pos 3)) × IsOf Product Internal (Num true 16 (pos 1))
products = (
  record { valid = ((lit≤ tt, lit≤ tt), le_z_yes tt, le_z_yes tt); number = tt; width = refl; frac = refl; sign = refl },
  record { valid = ((lit≤ tt, lit≤ tt), le_z_yes tt, le_z_yes tt); number = tt; width = refl; frac = refl; sign = refl },
)

-- ---- what equations name: a sum, a product and a gain whatever their result, a relation its union, a switch only by the internal rule

named : NamesType (Sum (false ∷ false ∷ []) Internal) SameFirst (int8 ∷ int8 ∷ []) int16 (Num true 9 (pos 0)) × NamesType Product (Fixed int8) (int8 ∷ halves ∷ []) int16 (Num true 16 (pos 1))
named = (two_bytes_full, record { valid = ((lit≤ tt, lit≤ tt), le_z_yes tt, le_z_yes tt); number = tt; width = refl; frac = refl; sign = refl })

not_named : (type : FxType) → (¬ NamesType (Switch AtLeast []) SameFirst (int8 ∷ int8 ∷ int8 ∷ []) int8 type) × (¬ NamesType (Convert false) (Fixed int8) (int8 ∷ []) int8 type)
not_named type = (λ is. absurd is, λ is. absurd is)

byte_union : IsUnion int8 int8 int8
byte_union = record { same = λ e. refl; different = λ other. absurd (other refl) }

unions : IsResultType (Switch AtLeast []) Internal (int8 ∷ halves ∷ int8 ∷ []) int16 int8
    × NamesType (Switch AtLeast []) Internal (int8 ∷ halves ∷ int8 ∷ []) int16 int8
    × NamesType (Relational Lt) Auto (int8 ∷ int8 ∷ []) int16 int8
unions = (byte_union, byte_union, byte_union)

not_the_control : ¬ IsResultType (Switch AtLeast []) Internal (int8 ∷ halves ∷ int8 ∷ []) int16 halves
not_the_control is = let e : ◌≡◌ {A = FxType} halves int8 = is.same refl in cc
