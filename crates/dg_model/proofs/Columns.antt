-- The columns of the rows of kinds, each over all kinds in one order.
use Rattle.std.proofs.Common.{◌≡◌, true, false, List, [], ◌∷◌, map, length, pos, refl}
use Rattle.std.proofs.Math.Dec.{lit<}
use Rattle.fx_type.specs.declared.kind.FxType.TheVariants.{Num, Logical as Boolean}
use Rattle.fx_type.specs.declared.spec.TypeSpec.TheVariants.{Fixed, Internal, SameFirst, Auto}
use Rattle.dg_model.specs.declared.kind.Criterion.TheVariants.{AtLeast}
use Rattle.dg_model.specs.declared.kind.Relation.TheVariants.{Lt}
use Rattle.dg_model.specs.declared.kind.Gate.TheVariants.{And}
use Rattle.dg_model.specs.declared.kind.Kind.{Kind}
use Rattle.dg_model.specs.declared.kind.Kind.TheVariants.{Inport, Outport, Constant, Ground, Sum, Gain, Product, Switch, Relational, Logic, Convert, Delay, Mux, Demux, RateTransition, Pass}
use Rattle.dg_model.specs.declared.kind.Kind.TheVariants.{EnableTest, EnOut, Terminator}
use Rattle.dg_model.specs.declared.row.Role.{Role}
use Rattle.dg_model.specs.declared.row.Standing.{Standing}
use Rattle.dg_model.specs.declared.row.OwnType.{OwnType}
use Rattle.dg_model.specs.declared.row.Inherited.{Inherited}
use Rattle.dg_model.specs.declared.row.Reading.{Reading}
use Rattle.dg_model.specs.declared.row.Asking.{Asking}
use Rattle.dg_model.specs.KindRow.{Shape}
use Rattle.dg_model.specs.Library.{row_of}
use Rattle.dg_model.specs.Types.{names_full_type, needed_inputs}
use Rattle.dg_model.proofs.Examples.{int8, decimal_of}

abbrev kinds : List Kind
kinds = Inport 1 5 ∷ Outport 2 ∷ Constant (decimal_of 1 (lit< tt) ∷ decimal_of 2 (lit< tt) ∷ []) ∷ Ground
    ∷ Sum (false ∷ true ∷ false ∷ []) Internal ∷ Gain (decimal_of 3 (lit< tt) ∷ []) Internal ∷ Product
    ∷ Switch AtLeast (decimal_of 4 (lit< tt) ∷ [])
    ∷ Relational Lt ∷ Logic And ∷ Convert false ∷ Delay 7 (decimal_of 5 (lit< tt) ∷ []) true ∷ Mux (2 ∷ [])
    ∷ Demux (3 ∷ []) ∷ RateTransition (decimal_of 6 (lit< tt)) (decimal_of 7 (lit< tt) ∷ []) ∷ Pass 4
    ∷ EnableTest ∷ EnOut true (decimal_of 8 (lit< tt) ∷ []) ∷ Terminator ∷ []

role : map (λ kind. (row_of kind).place.role) kinds ≡ Role.RootInput 1 ∷ Role.RootOutput 2 ∷ Role.Plain ∷ Role.Plain ∷ Role.Plain ∷ Role.Plain ∷ Role.Plain ∷ Role.Plain
    ∷ Role.Plain ∷ Role.Plain ∷ Role.Plain ∷ Role.Plain ∷ Role.Plain ∷ Role.Plain ∷ Role.Plain ∷ Role.InnerPort 4 ∷ Role.Control ∷ Role.EnabledOutput ∷ Role.Plain ∷ []
role = refl

stands : map (λ kind. (row_of kind).place.stands) kinds
    ≡ Standing.Anywhere ∷ Standing.Anywhere ∷ Standing.Anywhere ∷ Standing.Anywhere ∷ Standing.Anywhere
    ∷ Standing.Anywhere ∷ Standing.Anywhere ∷ Standing.Anywhere
    ∷ Standing.Anywhere ∷ Standing.Anywhere ∷ Standing.Anywhere ∷ Standing.Anywhere ∷ Standing.Anywhere
    ∷ Standing.Anywhere ∷ Standing.Outside ∷ Standing.Anywhere ∷ Standing.Outside ∷ Standing.Inside
    ∷ Standing.Anywhere ∷ []
stands = refl

shape : map (λ kind. (row_of kind).signal.shape) kinds
    ≡ Shape.Elementwise ∷ Shape.Elementwise ∷ Shape.Elementwise ∷ Shape.Elementwise ∷ Shape.Elementwise
    ∷ Shape.Elementwise ∷ Shape.Elementwise ∷ Shape.Elementwise
    ∷ Shape.Elementwise ∷ Shape.Elementwise ∷ Shape.Elementwise ∷ Shape.Elementwise ∷ Shape.Joined (2 ∷ [])
    ∷ Shape.Parted (3 ∷ []) ∷ Shape.Elementwise ∷ Shape.Elementwise ∷ Shape.Single ∷ Shape.Elementwise
    ∷ Shape.Elementwise ∷ []
shape = refl

-- how many list parameters a kind has, and the width that it declares
lists : map (λ kind. length (row_of kind).signal.lists) kinds ≡ 0 ∷ 0 ∷ 1 ∷ 0 ∷ 0 ∷ 1 ∷ 0 ∷ 1 ∷ 0 ∷ 0 ∷ 0 ∷ 1 ∷ 0 ∷ 0 ∷ 1 ∷ 0 ∷ 0 ∷ 1 ∷ 0 ∷ []
lists = refl

width : map (λ kind. (row_of kind).signal.width) kinds ≡ 5 ∷ 0 ∷ 2 ∷ 0 ∷ 0 ∷ 0 ∷ 0 ∷ 0 ∷ 0 ∷ 0 ∷ 0 ∷ 0 ∷ 0 ∷ 0 ∷ 0 ∷ 4 ∷ 0 ∷ 0 ∷ 0 ∷ []
width = refl

own : map (λ kind. (row_of kind).types.own) kinds
    ≡ OwnType.Untyped ∷ OwnType.OfInput ∷ OwnType.Untyped ∷ OwnType.Always (Num false 1 (pos 0)) ∷ OwnType.Untyped
    ∷ OwnType.Untyped ∷ OwnType.Untyped ∷ OwnType.Untyped
    ∷ OwnType.Always Boolean ∷ OwnType.Always Boolean ∷ OwnType.Untyped ∷ OwnType.OfInput ∷ OwnType.OfInput
    ∷ OwnType.OfInput ∷ OwnType.OfInput ∷ OwnType.OfInput ∷ OwnType.Always Boolean ∷ OwnType.OfInput
    ∷ OwnType.Untyped ∷ []
own = refl

rounds : map (λ kind. (row_of kind).types.rounds) kinds
    ≡ false ∷ false ∷ false ∷ false ∷ true ∷ true ∷ true ∷ true ∷ false ∷ false ∷ true ∷ false ∷ false ∷ false
    ∷ false ∷ false ∷ false ∷ false ∷ false ∷ []
rounds = refl

inherits : map (λ kind. (row_of kind).timing.inherits) kinds
    ≡ Inherited.Base ∷ Inherited.Moving ∷ Inherited.Unchanging ∷ Inherited.Unchanging ∷ Inherited.OfSources
    ∷ Inherited.OfSources ∷ Inherited.OfSources ∷ Inherited.OfSources
    ∷ Inherited.OfSources ∷ Inherited.OfSources ∷ Inherited.OfSources ∷ Inherited.Moving ∷ Inherited.OfSources
    ∷ Inherited.OfSources ∷ Inherited.OfSources ∷ Inherited.OfSources ∷ Inherited.OfSources ∷ Inherited.Moving
    ∷ Inherited.OfSources ∷ []
inherits = refl

reads : map (λ kind. (row_of kind).timing.reads) kinds ≡ Reading.Now ∷ Reading.Now ∷ Reading.Now ∷ Reading.Now ∷ Reading.Now ∷ Reading.Now ∷ Reading.Now ∷ Reading.Now
    ∷ Reading.Now ∷ Reading.Now ∷ Reading.Now ∷ Reading.Before ∷ Reading.Now ∷ Reading.Now ∷ Reading.BeforeIfSlower ∷ Reading.Now ∷ Reading.Now ∷ Reading.Now ∷ Reading.Now ∷ []
reads = refl

asks : map (λ kind. (row_of kind).timing.asks) kinds ≡ Asking.Never ∷ Asking.Never ∷ Asking.Never ∷ Asking.Never ∷ Asking.Never ∷ Asking.Never ∷ Asking.Never ∷ Asking.Never
    ∷ Asking.Never ∷ Asking.Never ∷ Asking.Never ∷ Asking.Before ∷ Asking.Never ∷ Asking.Never ∷ Asking.Never ∷ Asking.Never ∷ Asking.Never ∷ Asking.Now ∷ Asking.Never ∷ []
asks = refl

delay : map (λ kind. (row_of kind).timing.delay) kinds ≡ 0 ∷ 0 ∷ 0 ∷ 0 ∷ 0 ∷ 0 ∷ 0 ∷ 0 ∷ 0 ∷ 0 ∷ 0 ∷ 7 ∷ 0 ∷ 0 ∷ 0 ∷ 0 ∷ 0 ∷ 0 ∷ 0 ∷ []
delay = refl

pipelines : map (λ kind. (row_of kind).hardware.pipelines) kinds
    ≡ false ∷ false ∷ false ∷ false ∷ true ∷ true ∷ true ∷ true ∷ true ∷ true ∷ true ∷ false ∷ false ∷ false ∷ false
    ∷ false ∷ false ∷ false ∷ false ∷ []
pipelines = refl

multiplies : map (λ kind. (row_of kind).hardware.multiplies) kinds
    ≡ false ∷ false ∷ false ∷ false ∷ false ∷ true ∷ true ∷ false ∷ false ∷ false ∷ false ∷ false ∷ false ∷ false
    ∷ false ∷ false ∷ false ∷ false ∷ false ∷ []
multiplies = refl

-- which kinds name a full type or union where the internal rule takes it, and where it doesn't
names_internal : map (λ kind. names_full_type kind Internal) kinds
    ≡ false ∷ false ∷ false ∷ false ∷ true ∷ true ∷ true ∷ true ∷ true ∷ false ∷ false ∷ false ∷ false ∷ false
    ∷ false ∷ false ∷ false ∷ false ∷ false ∷ []
names_internal = refl

names_same : map (λ kind. names_full_type kind SameFirst) kinds
    ≡ false ∷ false ∷ false ∷ false ∷ true ∷ true ∷ true ∷ false ∷ true ∷ false ∷ false ∷ false ∷ false ∷ false
    ∷ false ∷ false ∷ false ∷ false ∷ false ∷ []
names_same = refl

-- which inputs a type needs
needs_internal : map (λ kind. needed_inputs kind Internal) kinds
    ≡ [] ∷ [] ∷ [] ∷ [] ∷ (1 ∷ 2 ∷ 3 ∷ []) ∷ (1 ∷ []) ∷ (1 ∷ 2 ∷ []) ∷ (1 ∷ 3 ∷ []) ∷ (1 ∷ 2 ∷ []) ∷ [] ∷ [] ∷ []
    ∷ [] ∷ [] ∷ [] ∷ [] ∷ [] ∷ [] ∷ [] ∷ []
needs_internal = refl

needs_nothing_specified : map (λ kind. needed_inputs kind Auto) kinds
    ≡ [] ∷ (1 ∷ []) ∷ [] ∷ [] ∷ [] ∷ [] ∷ [] ∷ [] ∷ [] ∷ [] ∷ [] ∷ (1 ∷ []) ∷ (1 ∷ []) ∷ (1 ∷ []) ∷ (1 ∷ [])
    ∷ (1 ∷ []) ∷ [] ∷ (1 ∷ []) ∷ [] ∷ []
needs_nothing_specified = refl

needs_none_or_first : (needed_inputs (Pass 0) (Fixed int8) ≡ []) × (needed_inputs (Switch AtLeast []) SameFirst ≡ 1 ∷ [])
needs_none_or_first = (refl, refl)
