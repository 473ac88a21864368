-- Modules and a plan that are one item wrong, of which none is owed (own).
use Rattle.std.specs.Prelude.{◌≡◌, ◌≢◌, ℕ, List, [], ◌∷◌, true, false, length, Contains, codes}
use Rattle.fx_type.specs.declared.decimal.Decimal.{Decimal}
use Rattle.fx_type.specs.declared.spec.TypeSpec.TheVariants.{Fixed}
use Rattle.dg_model.specs.declared.diagram.Block.{Block}
use Rattle.dg_model.specs.declared.diagram.Diagram.{Diagram}
use Rattle.dg_model.specs.declared.kind.Kind.TheVariants.{Inport, Gain}
use Rattle.dg_model.specs.declared.resolved.Resolved.{Resolved}
use Rattle.cmd_check.specs.Paths.{IsTightPath}
use Rattle.hw_build.specs.Multiplied.{multiplication_name}
use Rattle.hw_build.specs.Pipelined.{stage_name}
use Rattle.hw_module.specs.Design.{IsModuleOf}
use Rattle.hw_names.specs.Names.{IsNumbered}
use Rattle.hw_sched.specs.Slots.{Timing}
use Rattle.vl_ast.specs.declared.expressions.Expr.TheVariants.{Name}
use Rattle.vl_ast.specs.declared.modules.Module.{Module}
use Rattle.vl_ast.specs.declared.modules.ModItem.TheVariants.{Assign}
use Rattle.vl_ast.specs.Items.{IsWire, registers}
use Rattle.tests_premises.specs.Owed.{plain, plain_timing, twice, twice_timing}
use Rattle.tests_premises.specs.Whole.{arcs, block_of, diagram, edge_of, five, int8, int16, output, resolved, three, timing}

-- ---- three elements by one multiplier in two clocks: the third stands in the clock of the first of
-- the next base sample
abbrev pub three_coefficients : List Decimal
three_coefficients = three ∷ five ∷ three ∷ []

-- an input of three elements
abbrev pub crowded_input : Block
crowded_input = record (block_of (codes "u") (Inport 1 3) 0 1) { result = Fixed int8 }

-- their products with the coefficients
abbrev pub crowded_gain : Block
crowded_gain =
    record (block_of (codes "G") (Gain three_coefficients (Fixed int8)) 1 1) {
      result = Fixed int16;
    }

-- both, and an output
abbrev pub crowded_diagram : Diagram
crowded_diagram = record {
  blocks = crowded_input ∷ crowded_gain ∷ output (codes "y") ∷ [];
  edges = edge_of 0 1 ∷ edge_of 1 2 ∷ [];
}

-- two clocks and one multiplier
abbrev pub crowded : Resolved
crowded = record { cycles = 2; multipliers = 1; stages = 0 ∷ 0 ∷ 0 ∷ [] }

-- the times by this plan, were there room
abbrev pub crowded_timing : Timing
crowded_timing =
    record { lat = 0 ∷ 0 ∷ 1 ∷ []; fed = false ∷ true ∷ true ∷ []; depths = 0 ∷ 1 ∷ 1 ∷ [] }

-- ---- no module is owed of the crowded plan, none with a seventh register, none in which another
-- name than the second register is assigned the first, and none that lacks the wire of a product; a
-- path that begins at a late block tells no latency, and no number is given to a name where a lesser
-- one is free
pub record AreNotOwed : Type 0 where
  pub overfull : (m : Module) → ¬ IsModuleOf m crowded_diagram crowded crowded_timing
  pub seventh : (m : Module) → length (registers m) ≡ 7 → ¬ IsModuleOf m diagram resolved timing
  pub read_between : (m : Module) (reader : List ℕ)
      → Contains m.items (Assign reader (Name (stage_name 1 0 1))) → reader ≢ stage_name 1 0 2
      → ¬ IsModuleOf m diagram twice twice_timing
  pub unnamed : (m : Module) → ¬ IsWire m (multiplication_name 1 1)
      → ¬ IsModuleOf m diagram plain plain_timing
  pub late : ¬ IsTightPath arcs timing.lat 2 (2 ∷ [])
  pub greater : ¬ IsNumbered (codes "a" ∷ []) (codes "a") (codes "a_3")
