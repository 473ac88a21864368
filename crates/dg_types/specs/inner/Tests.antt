-- The tests by which the code tells whether a block keeps the rule of dimensions (own).
use Rattle.std.specs.Prelude.{ℕ, ◌==◌, ◌&&◌, ◌||◌, nat_le, Bool, true, List, length, slice_index_or, sum, bytes_eq}
use Rattle.std.specs.List.{list_all}
use Rattle.fx_type.specs.declared.decimal.Decimal.{Decimal}
use Rattle.dg_model.specs.declared.diagram.Block.{Block}
use Rattle.dg_model.specs.declared.kind.Kind.{Kind}
use Rattle.dg_model.specs.KindRow.{Shape}
use Rattle.dg_model.specs.Library.{row_of}
use Rattle.dg_model.specs.Limits.{widest_signal}
use Rattle.dg_model.specs.Widths.{are_open}
use Rattle.dg_types.specs.inner.WidthShapes.{shape_of, declared_width}

-- a width or a length of 1 is repeated
abbrev pub is_repeated : ℕ → ℕ → Bool
is_repeated own width = (width == 1) || (width == own)

abbrev pub are_repeated : ℕ → List ℕ → Bool
are_repeated own widths = list_all (is_repeated own) widths

-- the inputs have these sizes, where there are sizes
abbrev pub has_sizes : List ℕ → List ℕ → Bool
has_sizes sizes inputs = (length sizes == 0) || bytes_eq inputs sizes

-- the outputs have these sizes, where one is fixed, and are together as wide as the input
abbrev pub is_divided : List ℕ → List ℕ → List ℕ → Bool
is_divided sizes outputs inputs =
    (are_open sizes || bytes_eq outputs sizes) && (slice_index_or inputs 0 0 == sum outputs)

-- the inputs of a block agree with the widths at its outputs
abbrev pub agrees : Shape → List ℕ → List ℕ → Bool
agrees Shape.Elementwise outputs inputs = are_repeated (slice_index_or outputs 0 0) inputs
agrees (Shape.Joined sizes) outputs inputs = has_sizes sizes inputs
agrees (Shape.Parted sizes) outputs inputs = is_divided sizes outputs inputs
agrees Shape.Single outputs inputs = true

-- each list has one entry, or one for each element
abbrev pub lists_fit : ℕ → List (List Decimal) → Bool
lists_fit own lists = list_all (λ list. is_repeated own (length list)) lists

-- the width is the declared one, where one is declared
abbrev pub is_declared : ℕ → ℕ → Bool
is_declared declared own = (declared == 0) || (own == declared)

-- no signal is too wide
abbrev pub are_small : List ℕ → Bool
are_small widths = list_all (λ width. nat_le width widest_signal) widths

-- the outputs, if there are any, are not too wide
abbrev pub is_within : ℕ → List ℕ → Bool
is_within count outputs = (count == 0) || are_small outputs

-- the parameters of a block agree with its own width, and its inputs with its outputs
abbrev pub fits : Kind → List ℕ → List ℕ → Bool
fits kind outputs inputs =
    agrees (shape_of kind) outputs inputs
    && (lists_fit (slice_index_or outputs 0 0) (row_of kind).signal.lists
    && is_declared (declared_width kind) (slice_index_or outputs 0 0))

-- a block of these widths, after one more round and at its inputs, keeps the rule
abbrev pub keeps : Block → List ℕ → List ℕ → List ℕ → Bool
keeps block outputs again inputs =
    bytes_eq again outputs && (is_within block.outputs outputs && fits block.kind outputs inputs)
