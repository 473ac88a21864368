-- The multiplier of a shared operation has in its slot what the table says of its operands.
use Rattle.std.proofs.Common.{◌≡◌, ℕ, ◌+◌, ◌*◌, ◌/◌, ◌%◌, ◌<◌, ◌≤◌, ◌⊎◌, inl, inr, eqb, Bool, true, false, ℤ, List, [], ◌∷◌, length, Option, Some, None, ap, sym, ◌∙◌, subst, refl, arith}
use Rattle.std.specs.Prelude.{slice_get, slice_index_or, get_or, ◌==◌}
use Rattle.std.specs.List.{position, position_or_len}
use Rattle.std.proofs.lemmas.Bool.{false≢true, and_from, and_parts, cases_Bool, cases_lt, eqb-true, eq-eqb}
use Rattle.std.proofs.lemmas.Option.{none-some, slice_get_within, get_or_from_slice_get}
use Rattle.std.proofs.lemmas.Grind.{common_steps}
use Rattle.std.proofs.lemmas.List.Sums.{fails_before_first}
use Rattle.std.proofs.lemmas.Nat.{div-add-mod'}
use Rattle.fx_type.specs.declared.decimal.Decimal.{Decimal}
use Rattle.fx_type.specs.declared.spec.TypeSpec.{TypeSpec}
use Rattle.dg_model.specs.declared.diagram.Diagram.{Diagram}
use Rattle.dg_model.specs.declared.diagram.Block.{Block}
use Rattle.dg_model.specs.declared.kind.Kind.{Kind}
use Rattle.dg_model.specs.declared.kind.Kind.TheVariants.{Gain, Product}
use Rattle.dg_model.specs.declared.resolved.Resolved.{Resolved}
use Rattle.dg_model.specs.Attributes.{attributes_of}
use Rattle.dg_model.specs.Hits.{is_slow_to_fast}
use Rattle.dg_model.specs.Instant.{is_now}
use Rattle.dg_model.specs.KindRow.{FullRule, Shape}
use Rattle.dg_model.specs.Laws.{WidthsAreOfEdges}
use Rattle.dg_model.specs.Library.{row_of}
use Rattle.dg_model.specs.Readable.{HasPorts, IsReadable}
use Rattle.dg_model.specs.Signals.{Stimulus, Table}
use Rattle.dg_model.specs.Solves.{shown_ports}
use Rattle.dg_model.specs.Wires.{width_into, value_into, repeated, period_into}
use Rattle.hw_arcs.specs.Latencies.{latency_at}
use Rattle.hw_latency.specs.Shared.{multiplies, multiplies_if, shares}
use Rattle.hw_net.specs.Circuit.{Circuit}
use Rattle.hw_net.specs.Closed.{frame_start}
use Rattle.hw_net.specs.NetRows.{Inputs, Rows}
use Rattle.hw_sched.specs.Slots.{Timing as Times, Operation, shared_operations, slot_of}
use Rattle.hw_sched.specs.Laws.{IsOperation}
use Rattle.hw_shows.specs.Shows.{IsSeen}
use Rattle.hw_shows.specs.Series.{span_at}
use Rattle.hw_shows.specs.Laws.{IsDesign, OperandsAreServed}
use Rattle.hw_build.specs.Places.{Places, IsRunOf, waves_of}
use Rattle.hw_build.specs.Serving.{IsSecond, clock_of, IsServedIn}
use Rattle.hw_build.specs.Times.{is_element, number_at, slot_by, timing_by}
use Rattle.hw_build.specs.inner.Units.{IsSecondOf, HasFactors, IsUnitFor}
use Rattle.hw_build.proofs.Assembly.{repeated_one, repeated_more}
use Rattle.hw_build.proofs.Growth.{goes_same}
use Rattle.hw_build.proofs.Operations.{of_shared, stands_once}
use Rattle.hw_build.proofs.ScheduleTimes.{slot_found}
use Rattle.math_list.proofs.Places.{held}
use Rattle.hw_build.proofs.Widths.{repeated_into}

-- ---- the kinds that multiply

multiplies_now : (kind : Kind) (slower : Bool) → (row_of kind).hardware.multiplies ≡ true → is_now (row_of kind).timing.reads slower ≡ true
multiplies_now (Gain value param) slower e = refl
multiplies_now Product slower e = refl
multiplies_now _ slower e = absurd (false≢true e)

pub multiplies_shape : (kind : Kind) → (row_of kind).hardware.multiplies ≡ true → (row_of kind).signal.shape ≡ Shape.Elementwise
multiplies_shape (Gain value param) e = refl
multiplies_shape Product e = refl
multiplies_shape _ e = absurd (false≢true e)

pub multiplies_input : (kind : Kind) (inputs outputs : ℕ) → HasPorts kind inputs outputs → (row_of kind).hardware.multiplies ≡ true → 1 ≤ inputs
multiplies_input (Gain value param) inputs outputs has e = let one = has.0 in omega (arith, one)
multiplies_input Product inputs outputs has e = let two = has.0 in omega (arith, two)
multiplies_input _ inputs outputs has e = absurd (false≢true e)

pub multiplies_shown : (kind : Kind) (inputs outputs : ℕ) → HasPorts kind inputs outputs → (row_of kind).hardware.multiplies ≡ true → 1 ≤ shown_ports kind outputs
multiplies_shown (Gain value param) inputs outputs has e = let one = has.1 in omega (arith, one)
multiplies_shown Product inputs outputs has e = let one = has.1 in omega (arith, one)
multiplies_shown _ inputs outputs has e = absurd (false≢true e)

abbrev pub is_product : FullRule → Bool
is_product FullRule.NoFull = false
is_product (FullRule.FullSum negative accum) = false
is_product (FullRule.FullScaled value param) = false
is_product FullRule.FullProduct = true
is_product FullRule.UnionOfTwo = false
is_product FullRule.UnionOfEnds = false

pub product_inputs : (kind : Kind) (inputs outputs : ℕ) → HasPorts kind inputs outputs → is_product (row_of kind).types.full ≡ true → 2 ≤ inputs
product_inputs Product inputs outputs has e = let two = has.0 in omega (arith, two)
product_inputs _ inputs outputs has e = absurd (false≢true e)

-- one with a list is scaled by it
pub scaled_by : (kind : Kind) (list : List Decimal) → (row_of kind).hardware.multiplies ≡ true
    → (row_of kind).signal.lists ≡ list ∷ []
    → (param : TypeSpec) × ((row_of kind).types.full ≡ FullRule.FullScaled list param)
scaled_by (Gain value param) list e has = (param, ap (λ (own : List Decimal). FullRule.FullScaled own param) (ap (λ (lists : List (List Decimal)). slice_index_or lists 0 []) has))
scaled_by Product list e has = let none = ap (λ (lists : List (List Decimal)). length lists) has in absurd (omega (arith, none))
scaled_by _ list e has = absurd (false≢true e)

-- and one without has the product of its inputs
pub product_by : (kind : Kind) → (row_of kind).hardware.multiplies ≡ true → (row_of kind).signal.lists ≡ [] → (row_of kind).types.full ≡ FullRule.FullProduct
product_by (Gain value param) e none = let some = ap (λ (lists : List (List Decimal)). length lists) none in absurd (omega (arith, some))
product_by Product e none = refl
product_by _ e none = absurd (false≢true e)

-- ---- elements

pub reads_there : (width own element : ℕ) → (width ≡ 1) ⊎ (width ≡ own) → element < own → repeated width element < width
reads_there width own element (inl one) below = let e = repeated_one width element one in omega (arith, e, one)
reads_there width own element (inr same) below = elim (cases_Bool (width == 1)) [
  | inl holds ↦ let one = eqb-true width 1 holds in let e = repeated_one width element one in omega (arith, e, one)
  | inr fails ↦ let e = repeated_more width element fails in omega (arith, e, same, below)
]

-- what stands in a list is found
position_found : {A : Type 0} (p : A → Bool) (xs : List A) (k : ℕ) (x : A) → slice_get xs k ≡ Some x → p x ≡ true → position p xs ≡ None → ⊥
position_found p xs k x at passes none =
    let e : p (get_or xs k x) ≡ true = ap p (get_or_from_slice_get xs k x x at) ∙ passes in
    let inside = slice_get_within xs k x at in
    elim (cases_lt (position_or_len p xs) (length xs)) [
      | inl less ↦ let some : position p xs ≡ Some (position_or_len p xs) = grind (arith, common_steps) in absurd (none-some (position_or_len p xs) (sym none ∙ some))
      | inr past ↦ false≢true (sym (fails_before_first p xs k x (omega (arith, past, inside))) ∙ e)
    ]

-- the slot that is told of an operation is its own
pub slot_is_told : (diagram : Diagram) (plan : Resolved) (times : Times) (number : ℕ) (o : Operation) → IsOperation diagram (attributes_of diagram) plan number o
    → (timing_by diagram plan times).slot o.block o.element ≡ Some (slot_of diagram (attributes_of diagram) plan times number o)
slot_is_told diagram plan times number o at = go (number_at diagram plan o.block o.element) refl
  where
    go : (found : Option ℕ) → number_at diagram plan o.block o.element ≡ found → slot_by diagram plan times o.block o.element found ≡ Some (slot_of diagram (attributes_of diagram) plan times number o)
    go None e = absurd (position_found (is_element o.block o.element)
        (shared_operations diagram (attributes_of diagram) plan) number o at
        (and_from (eqb o.block o.block) (eqb o.element o.element) (eq-eqb o.block o.block refl)
        (eq-eqb o.element o.element refl)) e)
    go (Some other) e =
        let found = slot_found diagram plan times o.block o.element (slot_of diagram (attributes_of diagram) plan times other o) (Some other) e refl in
        ap Some (sym found.slot_is ∙ ap (λ (n : ℕ). slot_of diagram (attributes_of diagram) plan times n o) (stands_once diagram (attributes_of diagram) plan found.number number o found.is at))

module _ (operands : OperandsAreServed) (widths : WidthsAreOfEdges) where
  module _ (diagram : Diagram) (order : List ℕ) (plan : Resolved) (times : Times) (places : Places)
      (netlist : Circuit) (number : ℕ) (o : Operation) (b : Block)
      (at : IsOperation diagram (attributes_of diagram) plan number o)
      (there : slice_get diagram.blocks o.block ≡ Some b)
      (fits : (period : ℕ) → (attributes_of diagram).period_at o.block ≡ Some period → slot_of diagram (attributes_of diagram) plan times number o < period * plan.cycles)
    where
      is_multiplying : (row_of b.kind).hardware.multiplies ≡ true
      is_multiplying =
          let shared = (of_shared diagram (attributes_of diagram) plan number o at).shared in
          ap multiplies_if (sym there) ∙ (and_parts (multiplies diagram o.block) (shares plan ((attributes_of diagram).period_at o.block)) shared).0

      -- what a port is offered in the slot of a hit
      operand_at : (stimulus : Stimulus) (n clocks : ℕ) (table : Table) (rows : Rows) → IsDesign diagram order stimulus (timing_by diagram plan times) clocks n table (waves_of places rows)
          → (t period input : ℕ) → (attributes_of diagram).period_at o.block ≡ Some period → t % period ≡ 0 → t < n → clock_of diagram plan times number o t < clocks → 1 ≤ input → input ≤ b.inputs
          → rows (places.offered o.block input o.element) (clock_of diagram plan times number o t) ≡ value_into diagram (attributes_of diagram) table o.block input o.element t
      operand_at stimulus n clocks table rows design t period input is hit less early from to =
          let ports : HasPorts b.kind b.inputs b.outputs = (held IsReadable diagram.blocks o.block b design.ordered.checked.wired.blocks there).ports in
          let own = (of_shared diagram (attributes_of diagram) plan number o at).element in
          let agree = repeated_into widths diagram design.ordered.checked o.block b input there (multiplies_shape b.kind is_multiplying) from to in
          let below = reads_there (width_into diagram (attributes_of diagram) o.block input) ((attributes_of diagram).width_at o.block 1) o.element agree own in
          let now = multiplies_now b.kind (is_slow_to_fast (period_into diagram (attributes_of diagram) o.block 1) ((attributes_of diagram).period_at o.block)) is_multiplying in
          let shown = multiplies_shown b.kind b.inputs b.outputs ports is_multiplying in
          let fit = fits period is in
          let whole : (t + latency_at times.lat o.block + period) * plan.cycles ≡ (t + latency_at times.lat o.block) * plan.cycles + period * plan.cycles = omega arith in
          (operands diagram order stimulus (timing_by diagram plan times) clocks n table
          (waves_of places rows) design o.block b input o.element
          (slot_of diagram (attributes_of diagram) plan times number o) there shown now
          (slot_is_told diagram plan times number o at) from to below).at t (clock_of diagram plan times number o t) less early
          (subst (λ (p : Option ℕ). IsSeen plan.cycles p (latency_at times.lat o.block)
          (slot_of diagram (attributes_of diagram) plan times number o) t
          (clock_of diagram plan times number o t)) (sym is)
          (record { is_hit = hit; from = omega arith; until = omega (arith, whole, fit) }))

      -- the clock by the number of its frame
      clock_is : (t period : ℕ) → t % period ≡ 0
          → frame_start (span_at (timing_by diagram plan times) period o.block) (t / period)
          + slot_of diagram (attributes_of diagram) plan times number o ≡ clock_of diagram plan times number o t
      clock_is t period hit =
          let a : t ≡ t / period * period = omega (arith, div-add-mod' t period, hit) in
          let x : t * plan.cycles ≡ t / period * (period * plan.cycles) = ap (λ (n : ℕ). n * plan.cycles) a ∙ omega arith in
          omega (arith, x)

      second_is : (stimulus : Stimulus) (n clocks : ℕ) (table : Table) (rows : Rows) → IsDesign diagram order stimulus (timing_by diagram plan times) clocks n table (waves_of places rows)
          → (t period : ℕ) → (attributes_of diagram).period_at o.block ≡ Some period → t % period ≡ 0 → t < n → clock_of diagram plan times number o t < clocks
          → (rule : FullRule) → (is_product rule ≡ true → 2 ≤ b.inputs) → (v : ℤ)
          → IsSecondOf diagram places rows o.block o.element (clock_of diagram plan times number o t) rule v
          → IsSecond diagram table o.block o.element t rule v
      second_is stimulus n clocks table rows design t period is hit less early FullRule.NoFull two v of = of
      second_is stimulus n clocks table rows design t period is hit less early (FullRule.FullSum negative accum) two v of = of
      second_is stimulus n clocks table rows design t period is hit less early (FullRule.FullScaled value param) two v of = of
      second_is stimulus n clocks table rows design t period is hit less early FullRule.FullProduct two v of =
          of ∙ operand_at stimulus n clocks table rows design t period 2 is hit less early (omega arith) (two refl)
      second_is stimulus n clocks table rows design t period is hit less early FullRule.UnionOfTwo two v of = of
      second_is stimulus n clocks table rows design t period is hit less early FullRule.UnionOfEnds two v of = of

      -- an operation is served
      pub served_in : (hubs : ℕ) → ((stimulus : Stimulus) (n clocks : ℕ) (inputs : Inputs) (rows : Rows)
          (table : Table) → IsRunOf diagram netlist stimulus n clocks inputs rows table
          → IsDesign diagram order stimulus (timing_by diagram plan times) clocks n table
          (waves_of places rows))
          → IsUnitFor diagram plan times places hubs hubs netlist number o b → IsServedIn diagram plan times netlist number o b
      served_in hubs designs unit = record {
        factors = unit.factors;
        at = unit.at;
        serves = λ stimulus n clocks inputs rows table run t period is hit less early.
            let design = designs stimulus n clocks inputs rows table run in
            let ports : HasPorts b.kind b.inputs b.outputs = (held IsReadable diagram.blocks o.block b design.ordered.checked.wired.blocks there).ports in
            let same = clock_is t period hit in
            let held_at = (unit.has period is).holds netlist (goes_same hubs hubs netlist) clocks inputs rows run.rows_are (t / period) (omega (arith, same, early)) in
            let factors : HasFactors diagram places rows o b
            (clock_of diagram plan times number o t) unit.factors.left unit.factors.right =
            subst (λ (c : ℕ). HasFactors diagram places rows o b c unit.factors.left unit.factors.right)
            same held_at in
            record {
              first = factors.first ∙ operand_at stimulus n clocks table rows design t period 1 is hit less early (omega arith) (multiplies_input b.kind b.inputs b.outputs ports is_multiplying);
              second = second_is stimulus n clocks table rows design t period is hit less early
                  (row_of b.kind).types.full (product_inputs b.kind b.inputs b.outputs ports)
                  (rows unit.factors.right (clock_of diagram plan times number o t)) factors.second;
            };
      }
