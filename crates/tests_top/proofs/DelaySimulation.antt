-- A simulation of the model of one delay with initial value 3, worked out by hand: of 5, -1, 127 it writes 3, 5, -1, with status 0.
use Rattle.std.proofs.Common.{◌≡◌, ◌<◌, ℕ, ℤ, zero, suc, pos, negsuc, List, [], ◌∷◌, length, map, get_or, codes, refl, ap, sym, subst, arith}
use Rattle.std.specs.Fmt.{digits}
use Rattle.std.proofs.Math.Dec.{lit<}
use Rattle.std.proofs.Math.Nat.{mod-one}
use Rattle.std.proofs.lemmas.Int.{ints}
use Rattle.std.proofs.lemmas.Option.{same_Some}
use Rattle.fx_tables.specs.declared.table.Column.{Column}
use Rattle.fx_tables.specs.Response.{response}
use Rattle.fx_tables.specs.Stimulus.{IsRows}
use Rattle.dg_model.specs.declared.diagram.Block.{Block}
use Rattle.dg_model.specs.declared.op.Op.TheVariants.{Pass}
use Rattle.dg_model.specs.Equation.{Equation}
use Rattle.dg_model.specs.Hits.{Hits, last_hit}
use Rattle.dg_model.specs.RootElements.{root_inputs, root_outputs, stimulus_of_columns}
use Rattle.dg_model.specs.Signals.{Attributes, Stimulus, Table}
use Rattle.dg_model.specs.Solves.{Solves, IsShown}
use Rattle.dg_response.specs.Response.{column_of, input_columns, output_columns, number_in, IsResponse}
use Rattle.mdl_build.specs.Settings.{zero_decimal}
use Rattle.fx_type.specs.Conversion.{Stores}
use Rattle.cmd_model.specs.Model.{IsDiagramOf, IsModelOf}
use Rattle.fx_top.specs.Command.{Simulate}
use Rattle.fx_top.specs.Caused.{Ends}
use Rattle.cmd_simulate.specs.Simulating.{output_periods}
use Rattle.fx_top.specs.Simulated.{IsSimulationOf}
use Rattle.tests_top.proofs.DelayDiagram.{attributes, attributes-are, wired, checked}
use Rattle.tests_premises.specs.Whole.{int8}
use Rattle.tests_top.proofs.DelayModel.{diagram, enables, inport, is-flat, is-nested, model_text, nested, stands, tree, wiring}
use Rattle.tests_top.proofs.Outcomes.{done, took}
use Rattle.tests_top.proofs.DelayReplay.{both, fetched, numbers, response_text, stimulus_text}

-- ---- the text is the model of the diagram

is-diagram : IsDiagramOf tree diagram
is-diagram = record { nested = nested; built = is-nested; wiring = wiring; enables = enables; flat = is-flat; wired = wired }

is-model : IsModelOf model_text diagram
is-model = record { tree = tree; stands = stands; flat = is-diagram; checked = checked }

-- ---- its columns, and the rows of the stimulus

abbrev column : Column
column = record { low = negsuc 127; high = pos 127; period = 1 }

inputs-are : input_columns diagram ≡ column ∷ []
inputs-are = ap (λ (a : Attributes). map column_of (root_inputs diagram a)) attributes-are

outputs-are : output_columns diagram ≡ column ∷ []
outputs-are = ap (λ (a : Attributes). map column_of (root_outputs diagram a)) attributes-are

rows-are : IsRows (input_columns diagram) (length (output_columns diagram)) stimulus_text numbers
rows-are =
    subst (λ (inputs : List Column). IsRows inputs (length (output_columns diagram)) stimulus_text numbers) (sym inputs-are)
    (subst (λ (outputs : List Column). IsRows (column ∷ []) (length outputs) stimulus_text numbers) (sym outputs-are)
    (record { no_fault = refl; line_count = refl; column_count = refl; numbers = refl }))

-- ---- the table that solves it

-- the entries of each block
abbrev entries : List (List ℤ)
entries = (pos 5 ∷ negsuc 0 ∷ pos 127 ∷ []) ∷ (pos 3 ∷ pos 5 ∷ negsuc 0 ∷ []) ∷ (pos 3 ∷ pos 5 ∷ negsuc 0 ∷ []) ∷ []

abbrev table : Table
table place port element t = get_or (get_or entries place []) t (pos 0)

abbrev stimulus : Stimulus
stimulus = stimulus_of_columns (root_inputs diagram attributes) (number_in numbers)

input-hits : (port element t : ℕ) → element < 1 → t < 3 → Equation diagram attributes stimulus table 0 port element t (table 0 port element t)
input-hits port zero zero only below = refl
input-hits port zero (suc zero) only below = refl
input-hits port zero (suc (suc zero)) only below = refl
input-hits port zero (suc (suc (suc t))) only below = absurd (omega arith)
input-hits port (suc element) t only below = absurd (omega arith)

stores-three : Stores (record zero_decimal { digits = 3; eighteen_digits = lit< tt }) int8 (pos 3)
stores-three = record {
  rounded = pos 3;
  rounds = record { above = omega (arith, ints); at_most = omega (arith, ints) };
  settles = record { inside = λ within. refl; below = λ less. absurd (omega (arith, ints)); above = λ more. absurd (omega (arith, ints)) };
}

delay-hits : (port element t : ℕ) → t < 3 → Equation diagram attributes stimulus table 1 port element t (table 1 port element t)
delay-hits port element zero below = stores-three
delay-hits port element (suc zero) below = refl
delay-hits port element (suc (suc zero)) below = refl
delay-hits port element (suc (suc (suc t))) below = absurd (omega arith)

-- the input has one element
in-shown : (port element : ℕ) → IsShown diagram attributes 0 (inport (codes "u")) port element → element < 1
in-shown zero element shown = absurd (omega (arith, shown.port_from))
in-shown (suc zero) element shown = shown.element_below
in-shown (suc (suc port)) element shown = absurd (omega (arith, shown.port_to))

at_hits : (place : ℕ) (block : Block) (port element t : ℕ) → IsShown diagram attributes place block port element → t < 3 → Hits (attributes.period_at place) t
    → Equation diagram attributes stimulus table place port element t (table place port element t)
at_hits zero block port element t shown below hit =
    let is : inport (codes "u") ≡ block = same_Some (inport (codes "u")) block shown.block_is in
    input-hits port element t (in-shown port element (subst (λ (b : Block). IsShown diagram attributes 0 b port element) (sym is) shown)) below
at_hits (suc zero) block port element t shown below hit = delay-hits port element t below
at_hits (suc (suc zero)) block port element t shown below hit = (Pass, refl, refl)
at_hits (suc (suc (suc place))) block port element t shown below hit = let past = shown.block_is in cc

between_hits : (place : ℕ) (block : Block) (port element t : ℕ) → IsShown diagram attributes place block port element → t < 3 → ¬ Hits (attributes.period_at place) t
    → table place port element t ≡ table place port element (last_hit (attributes.period_at place) t)
between_hits zero block port element t shown below miss = absurd (miss (mod-one t))
between_hits (suc zero) block port element t shown below miss = absurd (miss (mod-one t))
between_hits (suc (suc zero)) block port element t shown below miss = absurd (miss (mod-one t))
between_hits (suc (suc (suc place))) block port element t shown below miss = let past = shown.block_is in cc

solves : Solves diagram attributes stimulus 3 table
solves = record { at_hits = at_hits; between_hits = between_hits }

-- ---- and shows 3, 5, -1

abbrev lines : ℕ → List ℤ
lines t = table 2 1 0 t ∷ []

is-response : IsResponse diagram numbers lines
is-response = record {
  table = table;
  solves = subst (λ (a : Attributes). Solves diagram a (stimulus_of_columns (root_inputs diagram a) (number_in numbers)) 3 table) (sym attributes-are) solves;
  lines_are = λ t below. ap (λ (a : Attributes). map (λ element. table element.block 1 element.element t) (root_outputs diagram a)) (sym attributes-are);
}

text-is : response_text ≡ response (output_periods diagram) lines 3
unfolding digits
text-is = ap (λ (columns : List Column). response (map (λ column. column.period) columns) lines 3) (sym outputs-are)

is-simulation : IsSimulationOf model_text stimulus_text response_text
is-simulation = record { diagram = diagram; accepted = is-model; rows = numbers; rows_are = rows-are; lines = lines; shown = is-response; text_is = text-is }

-- ---- a call over a shelf that holds both texts ends with status 0

simulated-delay : Ends (codes "simulate" ∷ codes "m" ∷ codes "s" ∷ []) (both (codes "m") model_text) (took response_text) (took []) 0
simulated-delay =
    done IsSimulationOf (codes "simulate" ∷ codes "m" ∷ codes "s" ∷ []) (both (codes "m") model_text)
    (Simulate (codes "m") (codes "s")) (codes "m") (codes "s") model_text stimulus_text response_text refl refl
    (fetched model_text (omega arith)) (fetched stimulus_text (omega arith)) (λ output. output) is-simulation
