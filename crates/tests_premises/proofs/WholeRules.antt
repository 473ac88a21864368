-- The diagram of the whole model keeps the rules.
use Rattle.std.proofs.Common.{◌≡◌, ℕ, ◌<◌, [], ◌∷◌, Some, codes, refl, sym, subst}
use Rattle.std.proofs.Math.Dec.{lit≤}
use lib.Signed.{le_z_yes}
use Rattle.fx_type.specs.declared.spec.TypeSpec.TheVariants.{Fixed}
use Rattle.dg_model.specs.declared.diagram.Block.{Block}
use Rattle.dg_model.specs.Attributes.{attributes_of}
use Rattle.dg_model.specs.Checked.{IsChecked}
use Rattle.dg_model.specs.KindRow.{IsSpec}
use Rattle.dg_model.specs.Readable.{IsReadable}
use Rattle.dg_model.specs.Signals.{Attributes}
use Rattle.dg_model.specs.Solves.{IsShown}
use Rattle.math_list.proofs.ByRecursion.{all_of}
use Rattle.hw_shows.proofs.Small.{int8_valid, no_loop}
use Rattle.hw_shows.proofs.RuleFacts.{one_number}
use Rattle.hw_shows.proofs.RuleTests.{Columns, IsTried, attributes_in, attributes_tried, checked_by}
use Rattle.tests_premises.specs.Whole.{diagram, input, gain, output, int8, int16}

-- ---- its widths, types and periods
abbrev columns : Columns
columns = record { widths = (2 ∷ []) ∷ (2 ∷ []) ∷ (2 ∷ []) ∷ []; types = Some int8 ∷ Some int16 ∷ Some int16 ∷ []; periods = Some 1 ∷ Some 1 ∷ Some 1 ∷ [] }

tried : IsTried diagram columns
tried = record { widths = refl; types = refl; periods = refl; few = refl; edges = refl; ordered = refl; blocks = refl }

abbrev pub attributes : Attributes
attributes = attributes_in diagram columns

pub attributes_known : attributes_of diagram ≡ attributes
attributes_known = attributes_tried diagram columns tried

-- ---- its blocks can be read
abbrev pub in_block : Block
in_block = input (codes "u")

abbrev pub gain_block : Block
gain_block = gain (codes "G")

abbrev pub out_block : Block
out_block = output (codes "y")

int16_valid : IsSpec (Fixed int16)
int16_valid = ((lit≤ tt, lit≤ tt), le_z_yes tt, le_z_yes tt)

in_readable : IsReadable in_block
in_readable = record { ports = (refl, refl); parameters = ((lit≤ tt, lit≤ tt), (lit≤ tt, lit≤ tt)); types = int8_valid; result = tt; rounding = (refl, refl); period = tt }

gain_readable : IsReadable gain_block
gain_readable = record { ports = (refl, refl); parameters = ((lit≤ tt, lit≤ tt), tt, int8_valid); types = int16_valid; result = tt; rounding = tt; period = tt }

out_readable : IsReadable out_block
out_readable = record { ports = (refl, refl); parameters = (lit≤ tt, lit≤ tt); types = tt; result = tt; rounding = (refl, refl); period = tt }

-- ---- all rules
pub checked : IsChecked diagram
checked = checked_by diagram columns tried (all_of IsReadable diagram.blocks (in_readable, (gain_readable, (out_readable, tt)))) one_number one_number (no_loop diagram (attributes_of diagram) refl)

-- ---- its Gain shows two elements in each base sample
pub gain_shown : (element : ℕ) → element < 2 → IsShown diagram (attributes_of diagram) 1 gain_block 1 element
gain_shown element below =
    subst (λ (a : Attributes). IsShown diagram a 1 gain_block 1 element) (sym attributes_known)
    (record { block_is = refl; port_from = lit≤ tt; port_to = lit≤ tt; element_below = below })

pub gain_period : (attributes_of diagram).period_at 1 ≡ Some 1
gain_period = subst (λ (a : Attributes). a.period_at 1 ≡ Some 1) (sym attributes_known) refl
