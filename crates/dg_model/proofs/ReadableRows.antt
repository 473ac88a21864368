-- What each kind of block may carry, and what no text of a model gives it.
use Rattle.std.proofs.Common.{◌≡◌, ◌≤◌, Bool, ℕ, List, [], ◌∷◌, length, None, pos, false, true, refl, inl, inr, arith}
use Rattle.std.specs.Prelude.{replicate}
use Rattle.std.proofs.Math.Dec.{lit<, lit≤}
use Rattle.std.proofs.lemmas.List.{length-replicate}
use Rattle.fx_type.specs.declared.kind.FxType.TheVariants.{Num, Logical as Boolean}
use Rattle.fx_type.specs.declared.spec.TypeSpec.{TypeSpec}
use Rattle.fx_type.specs.declared.spec.TypeSpec.TheVariants.{Fixed, Internal, SameFirst, Auto}
use Rattle.fx_type.specs.declared.rounding.Rounding.{Rounding}
use Rattle.fx_type.specs.declared.rounding.Rounding.TheVariants.{Floor, Nearest}
use Rattle.fx_type.specs.declared.decimal.Decimal.{Decimal}
use Rattle.dg_model.specs.declared.diagram.PeriodSpec.{PeriodSpec}
use Rattle.dg_model.specs.declared.diagram.PeriodSpec.TheVariants.{Inherit, Constant as NeverChanges, Every}
use Rattle.dg_model.specs.declared.kind.Criterion.TheVariants.{AtLeast}
use Rattle.dg_model.specs.declared.kind.Relation.TheVariants.{Lt}
use Rattle.dg_model.specs.declared.kind.Gate.TheVariants.{And, Not}
use Rattle.dg_model.specs.declared.kind.Kind.{Kind}
use Rattle.dg_model.specs.declared.kind.Kind.TheVariants.{Inport, Outport, Constant, Ground, Sum, Gain, Product, Switch, Relational, Logic, Convert, Delay, Mux, Demux, RateTransition, Pass}
use Rattle.dg_model.specs.declared.kind.Kind.TheVariants.{EnableTest, EnOut, Terminator}
use Rattle.dg_model.specs.Library.{row_of}
use Rattle.dg_model.specs.Readable.{HasPorts, HasRounding, IsReadable}
use Rattle.dg_model.proofs.Examples.{int8, block_of, decimal_of, fraction_of}
use Rattle.math_list.proofs.ByRecursion.{all_of}

abbrev one : List Decimal
one = decimal_of 1 (lit< tt) ∷ []

-- ---- ports

ports : HasPorts (Inport 1 0) 0 1 × HasPorts (Outport 1) 1 0 × HasPorts (Constant one) 0 1 × HasPorts Ground 0 1
    × HasPorts (Sum (false ∷ true ∷ false ∷ []) Internal) 3 1 × HasPorts (Gain one Internal) 1 1
    × HasPorts Product 2 1
    × HasPorts (Switch AtLeast one) 3 1 × HasPorts (Relational Lt) 2 1 × HasPorts (Logic Not) 1 1
    × HasPorts (Convert false) 1 1 × HasPorts (Delay 1 one false) 1 1 × HasPorts (Mux (2 ∷ 3 ∷ [])) 2 1
    × HasPorts (Demux (2 ∷ 3 ∷ [])) 1 2
    × HasPorts (RateTransition (decimal_of 1 (lit< tt)) one) 1 1 × HasPorts (Pass 0) 1 1 × HasPorts EnableTest 1 1 × HasPorts (EnOut false one) 1 1 × HasPorts Terminator 1 0
ports = (
  (refl, refl),
  (refl, refl),
  (refl, refl),
  (refl, refl),
  (refl, refl),
  (refl, refl),
  (refl, refl),
  (refl, refl),
  (refl, refl),
  (refl, refl),
  (refl, refl),
  (refl, refl),
  (refl, refl),
  (refl, refl),
  (refl, refl),
  (refl, refl),
  (refl, refl),
  (refl, refl),
  (refl, refl),
)

-- a gate of 2 to 32, and a Mux of 1 to 1024 where it fixes no size
several : HasPorts (Logic And) 2 1 × HasPorts (Logic And) 32 1 × HasPorts (Mux []) 1 1 × HasPorts (Mux []) 1024 1
several = (((lit≤ tt, lit≤ tt), refl), ((lit≤ tt, lit≤ tt), refl), ((lit≤ tt, lit≤ tt), refl), ((lit≤ tt, lit≤ tt), refl))

not_so_many : (¬ HasPorts (Logic And) 1 1) × (¬ HasPorts (Logic And) 33 1) × (¬ HasPorts (Logic Not) 2 1) × (¬ HasPorts (Mux []) 0 1) × (¬ HasPorts (Mux []) 1025 1) × (¬ HasPorts (Mux (2 ∷ [])) 2 1)
not_so_many = (
  λ has. absurd (omega (arith, has.0.0)),
  λ has. absurd (omega (arith, has.0.1)),
  λ has. absurd (omega (arith, has.0)),
  λ has. absurd (omega (arith, has.0.0)),
  λ has. absurd (omega (arith, has.0.1)),
  λ has. absurd (omega (arith, has.0)),
)

-- ---- lists, numbers, sizes and decimals

abbrev Carries : Kind → Type 0
Carries kind = (row_of kind).parameters

abbrev long : List Decimal
long = replicate 1025 (decimal_of 1 (lit< tt))

long_is : length long ≡ 1025
long_is = length-replicate 1025 (decimal_of 1 (lit< tt))

in_range : Carries (Inport 20000 1024) × Carries (Outport 20000) × Carries (Sum (false ∷ false ∷ []) Internal)
    × Carries (Delay 1024 one false) × Carries (Pass 1024) × Carries Product × Carries Terminator
in_range = (((lit≤ tt, lit≤ tt), (lit≤ tt, lit≤ tt)), (lit≤ tt, lit≤ tt), ((lit≤ tt, lit≤ tt), tt, tt), ((lit≤ tt, lit≤ tt), (lit≤ tt, lit≤ tt)), (lit≤ tt, lit≤ tt), tt, tt)

numbers_out_of_range : (¬ Carries (Inport 0 0)) × (¬ Carries (Inport 20001 0)) × (¬ Carries (Inport 1 1025)) × (¬ Carries (Outport 0)) × (¬ Carries (Outport 20001)) × (¬ Carries (Pass 1025))
    × (¬ Carries (Delay 0 one false)) × (¬ Carries (Delay 1025 one false)) × (¬ Carries (Sum (false ∷ []) Internal)) × (¬ Carries (Sum (replicate 33 false) Internal))
numbers_out_of_range = (
  λ has. absurd (omega (arith, has.0.0)),
  λ has. absurd (omega (arith, has.0.1)),
  λ has. absurd (omega (arith, has.1.1)),
  λ has. absurd (omega (arith, has.0)),
  λ has. absurd (omega (arith, has.1)),
  λ has. absurd (omega (arith, has.1)),
  λ has. absurd (omega (arith, has.0.0)),
  λ has. absurd (omega (arith, has.0.1)),
  λ has. absurd (omega (arith, has.0)),
  λ has. absurd (omega (arith, has.1, length-replicate 33 false)),
)

empty_lists : (¬ Carries (Constant [])) × (¬ Carries (Gain [] Internal)) × (¬ Carries (Switch AtLeast []))
    × (¬ Carries (Delay 1 [] false)) × (¬ Carries (RateTransition (decimal_of 1 (lit< tt)) []))
    × (¬ Carries (EnOut false []))
empty_lists = (
  λ has. absurd (omega (arith, has.0)),
  λ has. absurd (omega (arith, has.0.0)),
  λ has. absurd (omega (arith, has.0)),
  λ has. absurd (omega (arith, has.1.0)),
  λ has. absurd (omega (arith, has.1.0)),
  λ has. absurd (omega (arith, has.0)),
)

long_lists : (¬ Carries (Constant long)) × (¬ Carries (Gain long Internal)) × (¬ Carries (Switch AtLeast long)) × (¬ Carries (Delay 1 long false)) × (¬ Carries (EnOut false long))
long_lists = (
  λ has. absurd (omega (arith, has.1, long_is)),
  λ has. absurd (omega (arith, has.0.1, long_is)),
  λ has. absurd (omega (arith, has.1, long_is)),
  λ has. absurd (omega (arith, has.1.1, long_is)),
  λ has. absurd (omega (arith, has.1, long_is)),
)

-- sizes of 1 to 1024; a Demux has some, and may leave them open
sizes : Carries (Mux []) × Carries (Mux (1024 ∷ [])) × Carries (Demux (1 ∷ 1024 ∷ [])) × Carries (Demux (0 ∷ 0 ∷ []))
sizes = (
  ((lit≤ tt, lit≤ tt), all_of (λ (size : ℕ). (1 ≤ size) × (size ≤ 1024)) [] tt),
  ((lit≤ tt, lit≤ tt), all_of (λ (size : ℕ). (1 ≤ size) × (size ≤ 1024)) (1024 ∷ []) ((lit≤ tt, lit≤ tt), tt)),
  ((lit≤ tt, lit≤ tt), inl (all_of (λ (size : ℕ). (1 ≤ size) × (size ≤ 1024)) (1 ∷ 1024 ∷ []) ((lit≤ tt, lit≤ tt), ((lit≤ tt, lit≤ tt), tt)))),
  ((lit≤ tt, lit≤ tt), inr (all_of (λ (size : ℕ). size ≡ 0) (0 ∷ 0 ∷ []) (refl, (refl, tt)))),
)

sizes_out_of_range : (¬ Carries (Mux (0 ∷ []))) × (¬ Carries (Mux (1025 ∷ []))) × (¬ Carries (Demux []))
sizes_out_of_range = (λ has. absurd (omega (arith, (has.1 0 0 (lit< tt)).0)), λ has. absurd (omega (arith, (has.1 0 1025 (lit< tt)).1)), λ has. absurd (omega (arith, has.0.0)))

half_open : ¬ Carries (Demux (0 ∷ 1 ∷ []))
half_open has = elim (has.1) [ inl all ↦ absurd (omega (arith, (all 0 0 (lit< tt)).0)) | inr all ↦ absurd (omega (arith, all 1 1 (lit< tt))) ]

-- a period above 0
periods_out_of_range : (¬ Carries (RateTransition (decimal_of 0 (lit< tt)) one)) × (¬ Carries (RateTransition (fraction_of true 1 (lit< tt) (pos 0) tt tt) one))
periods_out_of_range = (λ has. absurd (omega (arith, has.0.above)), λ has. let e : ◌≡◌ {A = Bool} true false = has.0.sign in cc)

-- ---- specifications of types

abbrev MayHave : Kind → TypeSpec → Type 0
MayHave kind spec = (row_of kind).types.may_be spec

fixed_or_none : MayHave (Inport 1 0) (Fixed int8) × MayHave (Inport 1 0) Auto × MayHave (Outport 1) (Fixed int8)
    × MayHave (Constant one) (Fixed int8) × MayHave (Pass 0) (Fixed int8) × MayHave (EnOut false one) (Fixed int8)
    × MayHave (Pass 0) Auto
fixed_or_none = (tt, tt, tt, tt, tt, tt, tt)

choices : MayHave (Sum [] Internal) (Fixed int8) × MayHave (Gain one Internal) Internal × MayHave Product SameFirst
    × MayHave (Switch AtLeast one) Internal × MayHave (Convert false) (Fixed int8)
    × MayHave (Delay 1 one false) Auto
choices = (tt, tt, tt, tt, tt, refl)

no_such_type : (¬ MayHave (Inport 1 0) Internal) × (¬ MayHave (Pass 0) SameFirst)
    × (¬ MayHave (Sum [] Internal) Auto) × (¬ MayHave Product Auto) × (¬ MayHave (Convert false) Internal)
    × (¬ MayHave (Convert false) Auto)
no_such_type = (λ has. absurd has, λ has. absurd has, λ has. absurd has, λ has. absurd has, λ has. absurd has, λ has. absurd has)

no_type : (¬ MayHave (Delay 1 one false) (Fixed int8)) × (¬ MayHave (Relational Lt) (Fixed Boolean)) × (¬ MayHave Ground Internal)
no_type = (
  λ has. let e : ◌≡◌ {A = TypeSpec} (Fixed int8) Auto = has in
      cc,
  λ has. let e : ◌≡◌ {A = TypeSpec} (Fixed Boolean) Auto =
      has in cc,
  λ has. let e : ◌≡◌ {A = TypeSpec} Internal Auto = has in cc,
)

-- the type of coefficients is chosen, and valid; so is a block's
coefficients : (¬ Carries (Gain one Auto)) × (¬ Carries (Gain one (Fixed (Num true 1 (pos 0)))))
coefficients = (λ has. absurd (has.1), λ has. absurd (omega (arith, has.2.0.0)))

not_a_type : ¬ IsReadable (record (block_of (Inport 1 0) 0 1 None) { result = Fixed (Num false 128 (pos 0)) })
not_a_type is = absurd (omega (arith, is.types.0.1))

-- ---- rounding and periods

roundings : HasRounding (Sum [] Internal) Nearest true × HasRounding (Gain one Internal) Nearest true
    × HasRounding Product Nearest true × HasRounding (Switch AtLeast one) Nearest true
    × HasRounding (Convert true) Nearest true × HasRounding Ground Floor false
roundings = (tt, tt, tt, tt, tt, (refl, refl))

no_rounding : (¬ HasRounding (Delay 1 one false) Nearest false) × (¬ HasRounding (Outport 1) Floor true)
no_rounding = (λ has. let e : ◌≡◌ {A = Rounding} Nearest Floor = has.0 in cc, λ has. let e : ◌≡◌ {A = Bool} true false = has.1 in cc)

abbrev two : Decimal
two = decimal_of 2 (lit< tt)

abbrev MayRun : Kind → PeriodSpec → Type 0
MayRun kind period = (row_of kind).timing.may_be period

may_run : MayRun (Inport 1 0) (Every two) × MayRun (Outport 1) Inherit × MayRun (Constant one) NeverChanges
    × MayRun (Constant one) (Every two) × MayRun (Gain one Internal) (Every two)
    × MayRun (RateTransition two one) (Every two) × MayRun (Mux []) Inherit
may_run = (record { sign = refl; above = lit< tt }, tt, tt, record { sign = refl; above = lit< tt }, record { sign = refl; above = lit< tt }, refl, refl)

may_not_run : (¬ MayRun (Constant one) Inherit) × (¬ MayRun (Gain one Internal) NeverChanges) × (¬ MayRun (Delay 1 one false) (Every (decimal_of 0 (lit< tt))))
may_not_run = (λ has. absurd has, λ has. absurd has, λ has. absurd (omega (arith, has.above)))

inherit_alone : (¬ MayRun (Mux []) (Every two)) × (¬ MayRun (Demux []) (Every two)) × (¬ MayRun EnableTest (Every two)) × (¬ MayRun Terminator (Every two)) × (¬ MayRun Ground NeverChanges)
inherit_alone = (
  λ has. let e : ◌≡◌ {A = PeriodSpec} (Every two) Inherit = has in cc,
  λ has. let e : ◌≡◌ {A = PeriodSpec} (Every two) Inherit = has in cc,
  λ has. let e : ◌≡◌ {A = PeriodSpec} (Every two) Inherit = has in cc,
  λ has. let e : ◌≡◌ {A = PeriodSpec} (Every two) Inherit = has in cc,
  λ has. let e : ◌≡◌ {A = PeriodSpec} NeverChanges Inherit = has in cc,
)

as_declared : ¬ MayRun (RateTransition two one) Inherit
as_declared has = let e : ◌≡◌ {A = PeriodSpec} Inherit (Every two) = has in cc
