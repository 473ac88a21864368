-- How the widths, lists and types of a block and of its inputs fit (own).
use Rattle.std.specs.Prelude.{◌≡◌, ℕ, ◌≤◌, length, map, sum, All, ⊤}
use Rattle.fx_type.specs.declared.kind.FxType.TheVariants.{Logical}
use Rattle.math_list.specs.Numbers.{numbers_from}
use Rattle.dg_model.specs.declared.diagram.Diagram.{Diagram}
use Rattle.dg_model.specs.declared.kind.Kind.{Kind}
use Rattle.dg_model.specs.declared.kind.Kind.TheVariants.{Inport, Outport, Constant, Ground, Sum, Gain, Product, Switch, Relational, Logic, Convert, Delay, Mux, Demux, RateTransition, Pass, EnableTest, EnOut, Terminator}
use Rattle.dg_model.specs.KindRow.{Shape}
use Rattle.dg_model.specs.Library.{row_of}
use Rattle.dg_model.specs.Dimension.{IsRepeated}
use Rattle.dg_model.specs.Signals.{Attributes}
use Rattle.dg_model.specs.Solves.{shown_ports, shown_width}
use Rattle.dg_model.specs.Wires.{width_into, widths_into, type_into}

-- the widths of a block that works element by element: each of its inputs is as wide as what it
-- shows, or repeated
abbrev pub AreRepeated : Diagram → Attributes → ℕ → Kind → ℕ → ℕ → Type 0
AreRepeated diagram attributes block kind inputs outputs =
    (input output : ℕ) → 1 ≤ input → input ≤ inputs → 1 ≤ output → output ≤ shown_ports kind outputs
    → IsRepeated (shown_width diagram attributes kind block output)
    (width_into diagram attributes block input)

-- the widths of a block and of its inputs fit, by its shape
abbrev pub FitShape : Shape → Diagram → Attributes → ℕ → Kind → ℕ → ℕ → Type 0
FitShape Shape.Elementwise diagram attributes block kind inputs outputs =
    AreRepeated diagram attributes block kind inputs outputs
FitShape (Shape.Joined sizes) diagram attributes block kind inputs outputs =
    attributes.width_at block 1 ≡ sum (widths_into diagram attributes block inputs)
FitShape (Shape.Parted sizes) diagram attributes block kind inputs outputs =
    width_into diagram attributes block 1
    ≡ sum (map (attributes.width_at block) (numbers_from 1 outputs))
FitShape Shape.Single diagram attributes block kind inputs outputs = attributes.width_at block 1 ≡ 1

-- the same of a kind
abbrev pub HasWidths : Diagram → Attributes → ℕ → Kind → ℕ → ℕ → Type 0
HasWidths diagram attributes block kind inputs outputs =
    FitShape (row_of kind).signal.shape diagram attributes block kind inputs outputs

-- the lists of a kind have one entry, or one for each element
abbrev pub HasLists : Kind → ℕ → Type 0
HasLists kind width = All (λ list. IsRepeated width (length list)) (row_of kind).signal.lists

-- a block that computes nothing has the type of its inputs
abbrev pub KeepsType : Diagram → Attributes → ℕ → Kind → ℕ → ℕ → Type 0
KeepsType diagram attributes block (Inport number width) inputs outputs = ⊤
KeepsType diagram attributes block (Outport number) inputs outputs = ⊤
KeepsType diagram attributes block (Constant value) inputs outputs = ⊤
KeepsType diagram attributes block Ground inputs outputs = ⊤
KeepsType diagram attributes block (Sum negative accum) inputs outputs = ⊤
KeepsType diagram attributes block (Gain value param) inputs outputs = ⊤
KeepsType diagram attributes block Product inputs outputs = ⊤
KeepsType diagram attributes block (Switch criterion threshold) inputs outputs = ⊤
KeepsType diagram attributes block (Relational operator) inputs outputs = ⊤
KeepsType diagram attributes block (Logic operator) inputs outputs = ⊤
KeepsType diagram attributes block (Convert stored) inputs outputs = ⊤
KeepsType diagram attributes block (Delay delay initial reset) inputs outputs =
    type_into diagram attributes block 1 ≡ attributes.type_at block 1
KeepsType diagram attributes block (Mux sizes) inputs outputs =
    (port : ℕ) → 1 ≤ port → port ≤ inputs
    → type_into diagram attributes block port ≡ attributes.type_at block 1
KeepsType diagram attributes block (Demux sizes) inputs outputs =
    (port : ℕ) → 1 ≤ port → port ≤ outputs
    → type_into diagram attributes block 1 ≡ attributes.type_at block port
KeepsType diagram attributes block (RateTransition period initial) inputs outputs =
    type_into diagram attributes block 1 ≡ attributes.type_at block 1
KeepsType diagram attributes block (Pass width) inputs outputs = ⊤
KeepsType diagram attributes block EnableTest inputs outputs = attributes.type_at block 1 ≡ Logical
KeepsType diagram attributes block (EnOut reset initial) inputs outputs =
    type_into diagram attributes block 1 ≡ attributes.type_at block 1
KeepsType diagram attributes block Terminator inputs outputs = ⊤
