-- The lists of a block have an entry for each of its elements.
use Rattle.std.proofs.Common.{◌≡◌, ℕ, ◌<◌, ◌≤◌, ◌⊎◌, inl, inr, Bool, true, false, List, [], ◌∷◌, length, All, Option, None, Some, ap, sym, ◌∙◌, subst, arith, refl}
use Rattle.std.specs.Prelude.{not, slice_get, slice_index_or, ◌==◌, if◌then◌else◌, MatchOption}
use Rattle.std.proofs.lemmas.Option.{slice_get_within, slice_get-get_or}
use Rattle.fx_type.specs.declared.decimal.Decimal.{Decimal}
use Rattle.fx_type.specs.declared.kind.FxType.{FxType}
use Rattle.fx_type.specs.declared.kind.FxType.TheVariants.{Logical}
use Rattle.dg_model.specs.declared.diagram.Diagram.{Diagram}
use Rattle.dg_model.specs.declared.diagram.Block.{Block}
use Rattle.dg_model.specs.declared.diagram.Edge.{Edge}
use Rattle.dg_model.specs.declared.kind.Criterion.{Criterion}
use Rattle.dg_model.specs.declared.kind.Kind.{Kind}
use Rattle.dg_model.specs.declared.kind.Kind.TheVariants.{Inport, Outport, Constant, Ground, Sum, Gain, Product, Switch, Relational, Logic, Convert, Delay, Mux, Demux, RateTransition, Pass}
use Rattle.dg_model.specs.declared.kind.Kind.TheVariants.{EnableTest, EnOut, Terminator}
use Rattle.dg_model.specs.Attributes.{attributes_of}
use Rattle.dg_model.specs.Checked.{IsChecked}
use Rattle.dg_model.specs.Library.{row_of}
use Rattle.dg_model.specs.Readable.{HasPorts, IsReadable}
use Rattle.dg_model.specs.Solves.{IsShown, shown_ports, shown_width}
use Rattle.dg_model.specs.Wired.{Joins, MayStand}
use Rattle.dg_model.specs.Wires.{repeated, type_into, types_into}
use Rattle.dg_tables.specs.Fit.{HasLists}
use Rattle.hw_net.specs.Circuit.{Circuit}
use Rattle.math_list.proofs.Places.{held}
use Rattle.hw_lower.specs.Lowered.{AreArgs}
use Rattle.hw_sched.specs.Chained.{first_list}
use Rattle.hw_build.specs.declared.site.Site.{Site}
use Rattle.hw_build.specs.inner.Entries.{shows_alone, works}
use Rattle.hw_build.specs.inner.Sites.{CanKeep, HasOperands, PassesOut}

none_is : {A : Type 0} (x : A) (xs : List A) → [] ≡ x ∷ xs → ⊥
none_is x xs e = cc

pub readable : (diagram : Diagram) (block : ℕ) (b : Block) → IsChecked diagram → slice_get diagram.blocks block ≡ Some b → IsReadable b
readable diagram block b checked at = held IsReadable diagram.blocks block b checked.wired.blocks at

first_port : (diagram : Diagram) (block port outputs element : ℕ) → outputs ≡ 1 → 1 ≤ port → port ≤ outputs
    → element < (attributes_of diagram).width_at block port → element < (attributes_of diagram).width_at block 1
first_port diagram block port outputs element one from to below =
    let e : port ≡ 1 = omega (arith, one, from, to) in
    subst (λ (p : ℕ). element < (attributes_of diagram).width_at block p) e below

-- a kind with a list has one output, and shows as many elements as it has itself
own_width : (diagram : Diagram) (block port inputs outputs element : ℕ) (list : List Decimal) (kind : Kind)
    → (row_of kind).signal.lists ≡ list ∷ [] → HasPorts kind inputs outputs → 1 ≤ port
    → port ≤ shown_ports kind outputs
    → element < shown_width diagram (attributes_of diagram) kind block port → element < (attributes_of diagram).width_at block 1
own_width diagram block port inputs outputs element list (Inport number width) is ports from to below = absurd (none_is list [] is)
own_width diagram block port inputs outputs element list (Outport number) is ports from to below = absurd (none_is list [] is)
own_width diagram block port inputs outputs element list (Constant value) is ports from to below = first_port diagram block port outputs element ports.1 from to below
own_width diagram block port inputs outputs element list Ground is ports from to below = absurd (none_is list [] is)
own_width diagram block port inputs outputs element list (Sum negative accum) is ports from to below = absurd (none_is list [] is)
own_width diagram block port inputs outputs element list (Gain value param) is ports from to below = first_port diagram block port outputs element ports.1 from to below
own_width diagram block port inputs outputs element list Product is ports from to below = absurd (none_is list [] is)
own_width diagram block port inputs outputs element list (Switch criterion threshold) is ports from to below = first_port diagram block port outputs element ports.1 from to below
own_width diagram block port inputs outputs element list (Relational operator) is ports from to below = absurd (none_is list [] is)
own_width diagram block port inputs outputs element list (Logic operator) is ports from to below = absurd (none_is list [] is)
own_width diagram block port inputs outputs element list (Convert stored) is ports from to below = absurd (none_is list [] is)
own_width diagram block port inputs outputs element list (Delay delay initial reset) is ports from to below = first_port diagram block port outputs element ports.1 from to below
own_width diagram block port inputs outputs element list (Mux sizes) is ports from to below = absurd (none_is list [] is)
own_width diagram block port inputs outputs element list (Demux sizes) is ports from to below = absurd (none_is list [] is)
own_width diagram block port inputs outputs element list (RateTransition period initial) is ports from to below = first_port diagram block port outputs element ports.1 from to below
own_width diagram block port inputs outputs element list (Pass width) is ports from to below = absurd (none_is list [] is)
own_width diagram block port inputs outputs element list EnableTest is ports from to below = absurd (none_is list [] is)
own_width diagram block port inputs outputs element list (EnOut reset initial) is ports from to below = first_port diagram block port outputs element ports.1 from to below
own_width diagram block port inputs outputs element list Terminator is ports from to below = absurd (none_is list [] is)

-- so each has its entry
pub entry_there : (diagram : Diagram) (block : ℕ) (b : Block) (port element place : ℕ) (list : List Decimal)
    → IsChecked diagram → IsShown diagram (attributes_of diagram) block b port element
    → HasLists b.kind ((attributes_of diagram).width_at block 1)
    → (row_of b.kind).signal.lists ≡ list ∷ [] → place ≡ repeated (length list) element → place < length list
entry_there diagram block b port element place list checked shown lists is at =
    let ports = (readable diagram block b checked shown.block_is).ports in
    let below = own_width diagram block port b.inputs b.outputs element list b.kind is ports shown.port_from shown.port_to shown.element_below in
    elim (held (λ (l : List Decimal). (length l ≡ 1) ⊎ (length l ≡ (attributes_of diagram).width_at block 1))
    (row_of b.kind).signal.lists 0 list lists (ap (λ (l : List (List Decimal)). slice_get l 0) is)) [
      | inl one ↦ omega (arith, at, one, scalar one)
      | inr same ↦ omega (arith, at, same, below, wide (length list) element)
    ]
  where
    scalar : length list ≡ 1 → repeated (length list) element ≡ 0
    scalar one = ap (λ (n : ℕ). repeated n element) one

    at_most : (single : Bool) (e : ℕ) → (if single then 0 else e) ≤ e
    at_most true e = omega arith
    at_most false e = omega arith

    wide : (n e : ℕ) → repeated n e ≤ e
    wide n e = at_most (n == 1) e

-- a Delay keeps something
pub some_delay : (diagram : Diagram) (block : ℕ) (b : Block) (delay : ℕ) (initial : List Decimal) (reset : Bool)
    → IsChecked diagram → slice_get diagram.blocks block ≡ Some b → b.kind ≡ Delay delay initial reset → 1 ≤ delay
some_delay diagram block b delay initial reset checked at is = (subst (λ (k : Kind). (row_of k).parameters) is (readable diagram block b checked at).parameters).0.0

-- an output port of an enabled subsystem stands in one
pub passes_out : (net : Circuit) (site : Site) (reset : Bool) (list : List Decimal) → CanKeep net site
    → site.one.now.kind ≡ EnOut reset list → HasOperands net site site.one.now.kind → PassesOut net site reset list
passes_out net site reset list can is has = record {
  kind = is;
  enable = subst (λ (k : Kind). MayStand (row_of k).place.stands site.one.now.enable) is
      (held (λ (one : Block). MayStand (row_of one.kind).place.stands one.enable)
      site.design.checked.now.diagram.blocks site.place.block site.one.now
      can.designed.scheduled.checked.wired.enables can.shown.block_is);
  operands = subst (HasOperands net site) is has;
}

-- a line comes from a block that is there
pub source_there : (diagram : Diagram) (number : ℕ) (edge : Edge) → IsChecked diagram → slice_get diagram.edges number ≡ Some edge → edge.from < length diagram.blocks
source_there diagram number edge checked at = go (slice_get diagram.blocks edge.from) refl (held (Joins diagram.blocks) diagram.edges number edge checked.wired.edges at).source
  where
    go : (o : Option Block) → slice_get diagram.blocks edge.from ≡ o → MatchOption o ⊥ (λ b. (1 ≤ edge.from_port) × (edge.from_port ≤ b.outputs)) → edge.from < length diagram.blocks
    go None e is = absurd is
    go (Some b) e is = slice_get_within diagram.blocks edge.from b e

-- ---- the types of inputs

pub first_type : (diagram : Diagram) (block : ℕ) (b : Block) (types : List FxType) (default : FxType)
    → IsChecked diagram → slice_get diagram.blocks block ≡ Some b → b.kind ≡ EnableTest
    → types ≡ types_into diagram (attributes_of diagram) block b.inputs
    → slice_index_or types 0 default ≡ type_into diagram (attributes_of diagram) block 1
first_type diagram block b types default checked at is same =
    let one : b.inputs ≡ 1 = (subst (λ (k : Kind). HasPorts k b.inputs b.outputs) is (readable diagram block b checked at).ports).0 in
    ap (λ (list : List FxType). slice_index_or list 0 default) (same ∙ ap (types_into diagram (attributes_of diagram) block) one)

pub second_type : (diagram : Diagram) (block : ℕ) (b : Block) (criterion : Criterion) (threshold : List Decimal)
    (types : List FxType) (default : FxType) → IsChecked diagram → slice_get diagram.blocks block ≡ Some b
    → b.kind ≡ Switch criterion threshold
    → types ≡ types_into diagram (attributes_of diagram) block b.inputs → slice_index_or types 1 default ≡ type_into diagram (attributes_of diagram) block 2
second_type diagram block b criterion threshold types default checked at is same =
    let three : b.inputs ≡ 3 = (subst (λ (k : Kind). HasPorts k b.inputs b.outputs) is (readable diagram block b checked at).ports).0 in
    ap (λ (list : List FxType). slice_index_or list 1 default) (same ∙ ap (types_into diagram (attributes_of diagram) block) three)

-- how many types there are
pub three_types : (diagram : Diagram) (block : ℕ) (b : Block) (criterion : Criterion) (threshold : List Decimal)
    (types : List FxType) → IsChecked diagram → slice_get diagram.blocks block ≡ Some b
    → b.kind ≡ Switch criterion threshold
    → types ≡ types_into diagram (attributes_of diagram) block b.inputs → length types ≡ 3
three_types diagram block b criterion threshold types checked at is same =
    let three : b.inputs ≡ 3 = (subst (λ (k : Kind). HasPorts k b.inputs b.outputs) is (readable diagram block b checked at).ports).0 in
    ap (λ (list : List FxType). length list) (same ∙ ap (types_into diagram (attributes_of diagram) block) three)

pub one_type : (diagram : Diagram) (block : ℕ) (b : Block) (types : List FxType) → IsChecked diagram → slice_get diagram.blocks block ≡ Some b → b.kind ≡ EnableTest
    → types ≡ types_into diagram (attributes_of diagram) block b.inputs → length types ≡ 1
one_type diagram block b types checked at is same =
    let one : b.inputs ≡ 1 = (subst (λ (k : Kind). HasPorts k b.inputs b.outputs) is (readable diagram block b checked at).ports).0 in
    ap (λ (list : List FxType). length list) (same ∙ ap (types_into diagram (attributes_of diagram) block) one)

-- what is read as the list of a kind is the list of the kind that it is
pub list_is : (kind same : Kind) (list : List Decimal) → list ≡ first_list (row_of kind).signal.lists → kind ≡ same → first_list (row_of same).signal.lists ≡ list
list_is kind same list read is = sym (read ∙ ap (λ (k : Kind). first_list (row_of k).signal.lists) is)

-- a Terminator shows nothing
shows_none : (diagram : Diagram) (block : ℕ) (b : Block) (port element : ℕ) → IsChecked diagram → IsShown diagram (attributes_of diagram) block b port element → b.kind ≡ Terminator → ⊥
shows_none diagram block b port element checked shown is =
    let none : b.outputs ≡ 0 = (subst (λ (k : Kind). HasPorts k b.inputs b.outputs) is (readable diagram block b checked shown.block_is).ports).1 in
    let last : port ≤ b.outputs = subst (λ (k : Kind). port ≤ shown_ports k b.outputs) is shown.port_to in
    let from = shown.port_from in
    omega (arith, none, last, from)

-- so what carries out no operation shows its elements otherwise
pub alone : (diagram : Diagram) (block : ℕ) (b : Block) (port element : ℕ) → IsChecked diagram
    → IsShown diagram (attributes_of diagram) block b port element → works b.kind ≡ false
    → shows_alone b.kind ≡ true
alone diagram block b port element checked shown other = by b.kind refl other
  where
    by : (kind : Kind) → b.kind ≡ kind → works kind ≡ false → shows_alone kind ≡ true
    by Terminator is none = absurd (shows_none diagram block b port element checked shown is)
    by kind is none = ap not none

-- nets of the words of types are there
pub args_there : (net : Circuit) (types : List FxType) (operands : List ℕ) → AreArgs net types operands → All (λ operand. operand < length net.nets) operands
args_there net types operands are k d within =
    let count = are.count in
    let word = are.words k (slice_index_or operands k d) (slice_index_or types k Logical) (slice_get-get_or operands k d within) (slice_get-get_or types k Logical (omega (arith, within, count))) in
    slice_get_within net.nets (slice_index_or operands k d) word.net word.is
