-- The diagram of the shared product: two inputs of period 2, their product, a transition to period 4 and an output; beside them an input of the base period, which nothing reads. It keeps the rules.
use Rattle.std.proofs.Common.{true, List, [], ◌∷◌, Some, All, refl}
use Rattle.std.proofs.Math.Dec.{lit<, lit≤}
use Rattle.fx_type.specs.declared.spec.TypeSpec.TheVariants.{Fixed}
use Rattle.fx_type.specs.declared.decimal.Decimal.{Decimal}
use Rattle.dg_model.specs.declared.diagram.Diagram.{Diagram}
use Rattle.dg_model.specs.declared.diagram.Block.{Block}
use Rattle.dg_model.specs.declared.diagram.PeriodSpec.TheVariants.{Every}
use Rattle.dg_model.specs.declared.kind.Kind.TheVariants.{Product, RateTransition}
use Rattle.dg_model.specs.Readable.{IsReadable}
use Rattle.dg_tables.specs.Laws.{IsOrdered}
use Rattle.math_list.proofs.ByRecursion.{all_of}
use Rattle.hw_shows.proofs.Small.{int8, int8_valid, decimal_of, block_of, input_of, output, edge_of, input_readable, output_readable, widths_of_six, order_of_six}
use Rattle.hw_shows.proofs.RuleFacts.{one_number, three_numbers}
use Rattle.hw_shows.proofs.RuleTests.{Columns, IsTried, ordered_by}

abbrev pub initial : List Decimal
initial = decimal_of 0 (lit< tt) ∷ []

abbrev pub multiplied : Block
multiplied = record (block_of Product 2 1) { result = Fixed int8; saturate = true }

abbrev pub transition : Block
transition = record (block_of (RateTransition (decimal_of 4 (lit< tt)) initial) 1 1) { period = Every (decimal_of 4 (lit< tt)) }

abbrev pub blocks : List Block
blocks = input_of 1 2 (lit< tt) ∷ input_of 2 2 (lit< tt) ∷ multiplied ∷ transition ∷ output ∷ input_of 3 1 (lit< tt) ∷ []

abbrev pub diagram : Diagram
diagram = record { blocks = blocks; edges = edge_of 0 2 1 ∷ edge_of 1 2 2 ∷ edge_of 2 3 1 ∷ edge_of 3 4 1 ∷ [] }

abbrev pub columns : Columns
columns = record { widths = widths_of_six; types = Some int8 ∷ Some int8 ∷ Some int8 ∷ Some int8 ∷ Some int8 ∷ Some int8 ∷ []; periods = Some 2 ∷ Some 2 ∷ Some 2 ∷ Some 4 ∷ Some 4 ∷ Some 1 ∷ [] }

-- ---- it keeps the rules
product_readable : IsReadable multiplied
product_readable = record { ports = (refl, refl); parameters = tt; types = int8_valid; result = tt; rounding = tt; period = tt }

transition_readable : IsReadable transition
transition_readable = record { ports = (refl, refl); parameters = (record { sign = refl; above = lit< tt }, (lit≤ tt, lit≤ tt)); types = tt; result = refl; rounding = (refl, refl); period = refl }

inputs_readable : IsReadable (input_of 1 2 (lit< tt)) × IsReadable (input_of 2 2 (lit< tt)) × IsReadable (input_of 3 1 (lit< tt))
inputs_readable = (input_readable 1 2 (lit< tt) (lit≤ tt) (lit≤ tt) (lit< tt), input_readable 2 2 (lit< tt) (lit≤ tt) (lit≤ tt) (lit< tt), input_readable 3 1 (lit< tt) (lit≤ tt) (lit≤ tt) (lit< tt))

readable : All IsReadable blocks
readable = all_of IsReadable blocks (inputs_readable.0, (inputs_readable.1, (product_readable, (transition_readable, (output_readable, (inputs_readable.2, tt))))))

pub tried : IsTried diagram columns
tried = record { widths = refl; types = refl; periods = refl; few = refl; edges = refl; ordered = refl; blocks = refl }

pub ordered : IsOrdered diagram order_of_six
ordered = ordered_by diagram columns tried readable three_numbers one_number refl
