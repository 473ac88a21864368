-- Parts of small diagrams whose tables are written out by hand, to check the definitions against.
use Rattle.std.proofs.Common.{◌≡◌, sym, ◌∙◌, subst, ℕ, ◌<◌, ◌^◌, Bool, true, false, List, [], Option, None, ℤ, pos, negsuc, ◌+ℤ◌, ◌*ℤ◌, get_or, refl, arith}
use lib.Signed.{le_z, lt_z, le_z_yes, lt_z_yes}
use Rattle.std.proofs.Math.Dec.{T}
use Rattle.fx_type.specs.Conversion.{Converts, Stores, RoundsDown, Settles}
use Rattle.std.proofs.lemmas.Int.{ints}
use Rattle.fx_type.specs.declared.kind.FxType.{FxType}
use Rattle.fx_type.specs.declared.kind.FxType.TheVariants.{Num}
use Rattle.fx_type.specs.declared.spec.TypeSpec.TheVariants.{Auto}
use Rattle.fx_type.specs.declared.rounding.Rounding.TheVariants.{Floor}
use Rattle.fx_type.specs.declared.decimal.Decimal.{Decimal}
use Rattle.dg_model.specs.declared.diagram.Block.{Block}
use Rattle.dg_model.specs.declared.diagram.Edge.{Edge}
use Rattle.dg_model.specs.declared.diagram.PeriodSpec.TheVariants.{Inherit}
use Rattle.dg_model.specs.declared.kind.Kind.{Kind}
use Rattle.dg_model.specs.declared.diagram.Diagram.{Diagram}
use Rattle.dg_model.specs.declared.op.Op.{Op}
use Rattle.dg_model.specs.Signals.{Table, Stimulus, Attributes}
use Rattle.dg_model.specs.Equation.{IsOpOf, ElementEquation, signs_of}
use Rattle.dg_model.specs.Operation.{OpGives}
use Rattle.dg_model.specs.Wires.{type_into, types_into, values_into}
use Rattle.fx_type.specs.FxType.{IsType, lowest_of, highest_of}
use Rattle.fx_type.specs.StoredOf.{stored_of}
use Rattle.fx_type.proofs.Decimals.{stored_one}

abbrev pub int8 : FxType
int8 = Num true 8 (pos 0)

-- a block of a kind, with as many input and output ports, in the enabled subsystem of a control
abbrev pub block_of : Kind → ℕ → ℕ → Option ℕ → Block
block_of kind inputs outputs enable = record { path = []; kind = kind; inputs = inputs; outputs = outputs; result = Auto; rounding = Floor; saturate = false; period = Inherit; enable = enable }

-- an edge between two blocks
abbrev pub edge_of : ℕ → ℕ → ℕ → ℕ → Edge
edge_of from from_port to to_port = record { from = from; from_port = from_port; to = to; to_port = to_port }

-- a whole number as a parameter
abbrev pub decimal_of : (n : ℕ) → n < 10 ^ 18 → Decimal
decimal_of n small = record { negative = false; digits = n; exponent = pos 0; eighteen_digits = small; least_exponent = le_z_yes tt; greatest_exponent = le_z_yes tt }

-- the table with one row of entries a block, the same at each port and element
abbrev pub table_of : List (List ℤ) → Table
table_of rows block port element t = get_or (get_or rows block []) t (pos 0)

-- every signal has one element, of the type of its block
abbrev pub scalars : List FxType → List (Option ℕ) → Attributes
scalars types periods = record { width_at = λ block port. 1; type_at = λ block port. get_or types block int8; param_at = λ block. int8; period_at = λ block. get_or periods block None }

-- a small whole number is stored as it is
pub stores_small : (n : ℕ) (small : n < 10 ^ 18) → n < 128 → Stores (decimal_of n small) int8 (pos n)
stores_small n small below = record {
  rounded = pos n;
  rounds = record { above = omega (arith, ints); at_most = omega (arith, ints) };
  settles = record { inside = λ h. refl; below = λ h. absurd (omega (arith, ints)); above = λ h. absurd (omega (arith, ints)) };
}

-- a quotient is rounded down to the number at it or before it
pub down : {n r : ℤ} {d : ℕ} → T (le_z (r *ℤ pos d) n) → T (lt_z n (r *ℤ pos d +ℤ pos d)) → RoundsDown n d r
down at_most above = record { at_most = le_z_yes at_most; next_above = lt_z_yes above }

-- a number in range, so many turns from a rounded one, is what that wraps to
pub wrapped : {v r : ℤ} (signed : Bool) (width : ℕ) (turns : ℤ) → T (le_z (lowest_of (Num signed width (pos 0))) r)
    → T (le_z r (highest_of (Num signed width (pos 0)))) → r ≡ v +ℤ turns *ℤ pos (2 ^ width) →
    Settles (Num signed width (pos 0)) false v r
wrapped signed width turns low high equal = record { in_word = record { low = le_z_yes low; high = le_z_yes high }; congruent = record { turns = turns; equal = equal } }

-- an int8 converted to int8 stays as it is
pub kept : (v : ℤ) → T (le_z (negsuc 127) v) → T (le_z v (pos 127)) → Converts v int8 int8 Floor false v
kept v low high = record {
  rounded = v;
  rounds = record { at_most = omega (arith, ints); next_above = omega (arith, ints) };
  settles = record { in_word = record { low = le_z_yes low; high = le_z_yes high }; congruent = record { turns = pos 0; equal = omega (arith, ints) } };
}

-- the table with a list of elements at each block and base sample, the same at each port
abbrev pub table_of_vectors : List (List (List ℤ)) → Table
table_of_vectors rows block port element t = get_or (get_or (get_or rows block []) t []) element (pos 0)

-- a decimal of these digits and places behind the point, with its sign
abbrev pub fraction_of : (negative : Bool) (n : ℕ) → n < 10 ^ 18 → (exponent : ℤ) → T (le_z (negsuc 35) exponent) → T (le_z exponent (pos 18)) → Decimal
fraction_of negative n small exponent least greatest =
    record {
      negative = negative;
      digits = n;
      exponent =
          exponent;
      eighteen_digits = small;
      least_exponent = le_z_yes least;
      greatest_exponent = le_z_yes greatest;
    }

-- what a block's operation gives, where only one operation may be its own
pub carried_out : (diagram : Diagram) (attributes : Attributes) (stimulus : Stimulus) (table : Table) (b : Block) (block element t : ℕ) (v : ℤ) (known : Op) →
    ((op : Op) → IsOpOf b.kind element (attributes.param_at block) (type_into diagram attributes block 2) op → op ≡ known) → ElementEquation diagram attributes stimulus table b block element t v →
    OpGives (record { op = known; signs = signs_of b.kind; types = types_into diagram attributes block b.inputs; result = attributes.type_at block 1; rounding = b.rounding; saturate = b.saturate })
    (values_into diagram attributes table block b.inputs element t) v
carried_out diagram attributes stimulus table b block element t v known only given =
    subst (λ (op : Op). OpGives (record {
      op = op;
      signs = signs_of b.kind;
      types =
          types_into diagram attributes block b.inputs;
      result = attributes.type_at block 1;
      rounding =
          b.rounding;
      saturate = b.saturate;
    }) (values_into diagram attributes table block b.inputs element t) v)
    (only (given.0) (given.1)) (given.2)

-- a decimal is stored as one number
pub stored_as : (decimal : Decimal) (type : FxType) (r known : ℤ) → IsType type → stored_of decimal type ≡ known → Stores decimal type r → r ≡ known
stored_as decimal type r known valid is stores = sym ((stored_one decimal type r valid).0 stores) ∙ is
