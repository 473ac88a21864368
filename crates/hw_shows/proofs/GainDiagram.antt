-- The diagram of a Gain before a Delay in an enabled subsystem: an input and a control, the test of the control, a
-- Gain of 1, a Delay of one sample with held states, and an output. It keeps the rules.
use Rattle.std.proofs.Common.{false, true, List, [], ◌∷◌, Some, All, refl}
use Rattle.std.proofs.Math.Dec.{lit<, lit≤}
use Rattle.fx_type.specs.declared.kind.FxType.TheVariants.{Logical}
use Rattle.fx_type.specs.declared.spec.TypeSpec.TheVariants.{Fixed}
use Rattle.fx_type.specs.declared.decimal.Decimal.{Decimal}
use Rattle.dg_model.specs.declared.diagram.Diagram.{Diagram}
use Rattle.dg_model.specs.declared.diagram.Block.{Block}
use Rattle.dg_model.specs.declared.kind.Kind.TheVariants.{Gain, Delay, EnableTest}
use Rattle.dg_model.specs.Readable.{IsReadable}
use Rattle.dg_tables.specs.Laws.{IsOrdered}
use Rattle.math_list.proofs.ByRecursion.{all_of}
use Rattle.hw_shows.proofs.Small.{int8, int8_valid, decimal_of, block_of, input_of, output, edge_of, input_readable, output_readable, widths_of_six, order_of_six}
use Rattle.hw_shows.proofs.RuleFacts.{one_number, two_numbers}
use Rattle.hw_shows.proofs.RuleTests.{Columns, IsTried, ordered_by}

-- the coefficient and the initial value
abbrev pub one : List Decimal
one = decimal_of 1 (lit< tt) ∷ []

abbrev pub nine : List Decimal
nine = decimal_of 9 (lit< tt) ∷ []

abbrev pub test : Block
test = block_of EnableTest 1 1

abbrev pub gain : Block
gain = record (block_of (Gain one (Fixed int8)) 1 1) { result = Fixed int8; saturate = true }

abbrev pub delay : Block
delay = record (block_of (Delay 1 nine false) 1 1) { enable = Some 2 }

abbrev pub blocks : List Block
blocks = input_of 1 1 (lit< tt) ∷ input_of 2 1 (lit< tt) ∷ test ∷ gain ∷ delay ∷ output ∷ []

abbrev pub diagram : Diagram
diagram = record { blocks = blocks; edges = edge_of 1 2 1 ∷ edge_of 0 3 1 ∷ edge_of 3 4 1 ∷ edge_of 4 5 1 ∷ [] }

abbrev pub columns : Columns
columns = record { widths = widths_of_six; types = Some int8 ∷ Some int8 ∷ Some Logical ∷ Some int8 ∷ Some int8 ∷ Some int8 ∷ []; periods = Some 1 ∷ Some 1 ∷ Some 1 ∷ Some 1 ∷ Some 1 ∷ Some 1 ∷ [] }

-- ---- it keeps the rules
test_readable : IsReadable test
test_readable = record { ports = (refl, refl); parameters = tt; types = tt; result = refl; rounding = (refl, refl); period = refl }

gain_readable : IsReadable gain
gain_readable = record { ports = (refl, refl); parameters = ((lit≤ tt, lit≤ tt), tt, int8_valid); types = int8_valid; result = tt; rounding = tt; period = tt }

delay_readable : IsReadable delay
delay_readable = record { ports = (refl, refl); parameters = ((lit≤ tt, lit≤ tt), (lit≤ tt, lit≤ tt)); types = tt; result = refl; rounding = (refl, refl); period = tt }

readable : All IsReadable blocks
readable =
    all_of IsReadable blocks (
      input_readable 1 1 (lit< tt) (lit≤ tt) (lit≤ tt) (lit< tt),
      (
        input_readable 2 1 (lit< tt) (lit≤ tt) (lit≤ tt) (lit< tt),
        (test_readable, (gain_readable, (delay_readable, (output_readable, tt)))),
      ),
    )

pub tried : IsTried diagram columns
tried = record { widths = refl; types = refl; periods = refl; few = refl; edges = refl; ordered = refl; blocks = refl }

pub ordered : IsOrdered diagram order_of_six
ordered = ordered_by diagram columns tried readable two_numbers one_number refl
