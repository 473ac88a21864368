-- Each module of the whole model's design shows the numbers of the table in a run, by what is owed of it.
use Rattle.std.proofs.Common.{◌≡◌, ℕ, ◌+◌, ◌*◌, ◌<◌, ℤ, pos, List, [], ◌∷◌, Some, map, slice_get, codes, refl, sym, ap, subst, ◌∙◌, arith}
use Rattle.std.proofs.Math.Dec.{lit≤}
use Rattle.dg_model.specs.Attributes.{attributes_of}
use Rattle.dg_model.specs.Equation.{StoresEntry}
use Rattle.dg_model.specs.Hits.{Hits}
use Rattle.dg_model.specs.Signals.{Attributes}
use Rattle.dg_model.specs.Wires.{value_into}
use Rattle.dg_model.proofs.Examples.{stored_as}
use Rattle.hw_build.specs.Pipelined.{stage_name}
use Rattle.hw_build.specs.Serving.{clock_of}
use Rattle.hw_module.specs.Carries.{IsDrivenRun, OutputShows}
use Rattle.hw_module.specs.Design.{IsModuleOf}
use Rattle.hw_module.specs.Interface.{NamedElement, input_data, input_elements, output_data, output_elements}
use Rattle.hw_module.specs.Serves.{IsServed, Multiplies}
use Rattle.hw_sched.specs.Slots.{Operation, operation, slot_of, unit_of}
use Rattle.hw_sched.specs.Laws.{IsOperation}
use Rattle.vl_ast.specs.declared.modules.Module.{Module}
use Rattle.vl_ast.specs.declared.modules.Port.{Port}
use Rattle.vl_ast.specs.Conditions.{BreaksNone}
use Rattle.vl_ast.specs.Header.{HasHeader, input_port, output_port}
use Rattle.vl_ast.specs.Room.{HasRoom, HasRows, StartFits}
use Rattle.vl_ast.specs.Runs.{Row, Rows}
use Rattle.vl_ast.specs.Value.{bits_of}
use Rattle.vl_ast.specs.Windows.{IsClock, row_at}
use Rattle.vl_ast.proofs.FullCounts.{enabled-count, place-clock}
use Rattle.dg_model.specs.RootElements.{root_element}
use Rattle.tests_premises.specs.Running.{RunsWhole, input_ports, output_ports, window}
use Rattle.hw_shows.proofs.Small.{int8_valid}
use Rattle.tests_premises.specs.Shown.{MultipliesNumbers, ShowsWhole, WholeModulesShow, gain_block}
use Rattle.tests_premises.specs.Whole.{coefficients, diagram, firsts, five, int8, resolved, seconds, shown, stimulus, table, three, timing, whole_names}
use Rattle.tests_premises.proofs.WholeRules.{attributes_known, gain_period, gain_shown}
use Rattle.tests_premises.proofs.WholeNames.{names_are}
use Rattle.tests_premises.proofs.WholePlan.{shared}
use Rattle.tests_premises.proofs.WholeRuns.{whole_modules_run}
use Rattle.tests_premises.proofs.WholeTable.{in_range, solves}

-- ---- the ports
inputs_are : map (λ (e : NamedElement). input_port (input_data e)) (input_elements whole_names diagram) ≡ input_ports
inputs_are = refl

outputs_are : map (λ (e : NamedElement). output_port (output_data diagram resolved timing e)) (output_elements whole_names diagram) ≡ output_ports
outputs_are = refl

-- an output
abbrev pub out_element : List ℕ → ℕ → NamedElement
out_element name element = record { name = name; root = root_element (attributes_of diagram) 1 2 element }

out_elements_are : output_elements whole_names diagram ≡ out_element (codes "y_0") 0 ∷ out_element (codes "y_1") 1 ∷ []
out_elements_are = refl

-- ---- the Gain
left_first : (t : ℕ) → value_into diagram (attributes_of diagram) table 1 1 0 t ≡ firsts t
left_first t = subst (λ (a : Attributes). value_into diagram a table 1 1 0 t ≡ firsts t) (sym attributes_known) refl

left_second : (t : ℕ) → value_into diagram (attributes_of diagram) table 1 1 1 t ≡ seconds t
left_second t = subst (λ (a : Attributes). value_into diagram a table 1 1 1 t ≡ seconds t) (sym attributes_known) refl

right_first : (v : ℤ) → StoresEntry coefficients 0 ((attributes_of diagram).param_at 1) v → v ≡ pos 3
right_first v stores = stored_as three int8 v (pos 3) int8_valid refl (subst (λ (a : Attributes). StoresEntry coefficients 0 (a.param_at 1) v) attributes_known stores)

right_second : (v : ℤ) → StoresEntry coefficients 1 ((attributes_of diagram).param_at 1) v → v ≡ pos 5
right_second v stores = stored_as five int8 v (pos 5) int8_valid refl (subst (λ (a : Attributes). StoresEntry coefficients 1 (a.param_at 1) v) attributes_known stores)

numbers_of : (m : Module) (row : Row) (left right first second : ℤ) → Multiplies m row 0 left right → left ≡ first → right ≡ second → MultipliesNumbers m row first second
numbers_of m row left right first second product is other = record {
  multiplication = product.multiplication;
  at = product.at;
  left_is = product.left_is ∙ ap (bits_of product.multiplication.width) is;
  right_is = product.right_is ∙ ap (bits_of product.multiplication.width) other;
}

first_numbers : (m : Module) (row : Row) (t : ℕ) → IsServed m diagram table row 0 (operation 1 0) gain_block t → MultipliesNumbers m row (firsts t) (pos 3)
first_numbers m row t served = numbers_of m row served.left served.right (firsts t) (pos 3) served.multiplied (served.operands.first ∙ left_first t) (right_first served.right served.operands.second)

second_numbers : (m : Module) (row : Row) (t : ℕ) → IsServed m diagram table row 0 (operation 1 1) gain_block t → MultipliesNumbers m row (seconds t) (pos 5)
second_numbers m row t served = numbers_of m row served.left served.right (seconds t) (pos 5) served.multiplied
    (served.operands.first ∙ left_second t) (right_second served.right served.operands.second)

gain_hits : (t : ℕ) → Hits ((attributes_of diagram).period_at 1) t
gain_hits t = subst (λ (a : Attributes). Hits (a.period_at 1) t) (sym attributes_known) (omega arith)

is_operation : (number element : ℕ) → slice_get (operation 1 0 ∷ operation 1 1 ∷ []) number
    ≡ Some (operation 1 element) → IsOperation diagram (attributes_of diagram) resolved number (operation 1 element)
is_operation number element at = subst (λ (operations : List Operation). slice_get operations number ≡ Some (operation 1 element)) (sym shared.both) at

-- ---- its ports are those of the design
names_known : (m : Module) (owed : IsModuleOf m diagram resolved timing) → owed.carries.names ≡ whole_names
names_known m owed = names_are owed.carries.names owed.carries.are_names

pub header_of : (m : Module) → IsModuleOf m diagram resolved timing → HasHeader m 3 input_ports output_ports
header_of m owed =
    subst (λ (ports : List Port). HasHeader m 3 input_ports ports) outputs_are
    (subst (λ (ports : List Port). HasHeader m 3 ports (map (λ e. output_port (output_data diagram resolved timing e)) (output_elements whole_names diagram))) inputs_are
    (subst (λ (names : List (List ℕ)). HasHeader m 3
    (map (λ e. input_port (input_data e)) (input_elements names diagram))
    (map (λ e. output_port (output_data diagram resolved timing e)) (output_elements names diagram)))
    (names_known m owed) owed.carries.header))

module _ (some : (m : Module) (count : ℕ) (start : Row) (inputs : Rows) → BreaksNone m → HasRoom m count start inputs → HasRows m count start inputs)
    (m : Module) (start : Row) (owed : IsModuleOf m diagram resolved timing) (fits : StartFits m start) where
  run : RunsWhole m start
  run = whole_modules_run some m start (header_of m owed) owed.carries.sound fits

  abbrev driven : IsDrivenRun m diagram 3 window stimulus table run.rows
  driven = record { start = start; inputs = run.inputs; in_range = in_range; solves = solves; driven = run.driven; runs = run.runs }

  clock : (place : ℕ) → place < 12 → IsClock m window run.inputs place place
  clock place below = place-clock m window run.inputs (enabled-count m window run.inputs run.enabled) place (omega (arith, below))

  -- ---- the outputs
  output_shows : (name : List ℕ) (element place : ℕ) → slice_get (output_elements whole_names diagram) place ≡ Some (out_element name element)
      → OutputShows m diagram resolved timing 3 window run.inputs table run.rows (out_element name element)
  output_shows name element place at =
      owed.carries.bits 3 window stimulus table run.rows driven place (out_element name element)
      (subst (λ (names : List (List ℕ)). slice_get (output_elements names diagram) place ≡ Some (out_element name element)) (sym (names_known m owed)) at)

  output_is : (name : List ℕ) (element place : ℕ) → slice_get (output_elements whole_names diagram) place ≡ Some (out_element name element) → (t : ℕ) → t < 3
      → run.rows (row_at window (t * 3 + 5)) name ≡ bits_of 16 (shown element t)
  output_is name element place at t below =
      let late = shared.latency in
      output_shows name element place at t below (omega arith) (t * 3 + 5) (t * 3 + 5) (omega (arith, late)) (omega arith) (clock (t * 3 + 5) (omega (arith, below)))

  -- ---- the multiplier
  served_is : (number element slot : ℕ) → IsOperation diagram (attributes_of diagram) resolved number
      (operation 1 element) → slot_of diagram (attributes_of diagram) resolved timing number (operation 1 element)
      ≡ slot → slot < 3
      → unit_of diagram (attributes_of diagram) resolved timing number (operation 1 element) ≡ 0 → (t : ℕ) → t < 3
      → IsServed m diagram table (run.rows (row_at window (t * 3 + slot))) 0 (operation 1 element) gain_block t
  served_is number element slot is slot_is small unit t below =
      let in_clock : clock_of diagram resolved timing number (operation 1 element) t ≡ t * 3 + slot = omega (arith, slot_is) in
      subst (λ (u : ℕ). IsServed m diagram table (run.rows (row_at window (t * 3 + slot))) u (operation 1 element) gain_block t) unit
      (owed.serves.served 3 window stimulus table run.rows driven number (operation 1 element) gain_block t (t * 3 + slot) is refl below (gain_hits t)
      (subst (λ (c : ℕ). IsClock m window run.inputs c (t * 3 + slot)) (sym in_clock) (clock (t * 3 + slot) (omega (arith, below, small)))))

  -- ---- the registers
  register_is : (element : ℕ) → element < 2 → (t : ℕ) → t < 3 → run.rows (row_at window (t * 3 + 3)) (stage_name 1 element 1) ≡ bits_of 16 (shown element t)
  register_is element inside t below =
      owed.pipelined.shows 3 window stimulus table run.rows driven 1 element 1 1 gain_block (gain_shown element inside) gain_period (lit≤ tt) (lit≤ tt) t below (omega arith)
      (t * 3 + 3) (t * 3 + 3) (omega arith) (omega arith) (clock (t * 3 + 3) (omega (arith, below)))

  first_served : (t : ℕ) → t < 3 → IsServed m diagram table (run.rows (row_at window (t * 3 + 0))) 0 (operation 1 0) gain_block t
  first_served = served_is 0 0 0 (is_operation 0 0 refl) shared.first_slot (omega arith) shared.first_unit

  second_served : (t : ℕ) → t < 3 → IsServed m diagram table (run.rows (row_at window (t * 3 + 1))) 0 (operation 1 1) gain_block t
  second_served = served_is 1 1 1 (is_operation 1 1 refl) shared.second_slot (omega arith) shared.second_unit

  shows_whole : ShowsWhole m start
  shows_whole = record {
    run = run;
    first_output = output_is (codes "y_0") 0 0 refl;
    second_output = output_is (codes "y_1") 1 1 refl;
    first_served = first_served;
    second_served = second_served;
    first_multiplied = λ t below. first_numbers m (run.rows (row_at window (t * 3 + 0))) t (first_served t below);
    second_multiplied = λ t below. second_numbers m (run.rows (row_at window (t * 3 + 1))) t (second_served t below);
    one = owed.owed ∙ shared.multiplications;
    registers = λ element below. owed.pipelined.there 1 element 1 gain_block (gain_shown element below) gain_period (lit≤ tt);
    first_register = register_is 0 (omega arith);
    second_register = register_is 1 (omega arith);
  }

pub whole_modules_show : ((m : Module) (count : ℕ) (start : Row) (inputs : Rows) → BreaksNone m → HasRoom m count start inputs → HasRows m count start inputs) → WholeModulesShow
whole_modules_show some m start owed fits = shows_whole some m start owed fits
