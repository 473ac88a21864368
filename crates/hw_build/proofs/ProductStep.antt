-- The step of shared multipliers, in all.
use Rattle.std.proofs.Common.{◌≡◌, ℕ, ◌+◌, ◌*◌, ◌<◌, ◌≤◌, inl, inr, true, List, [], length, Contains, Some, ap, sym, ◌∙◌, subst, refl, arith}
use Rattle.std.specs.Prelude.{slice_get, slice_index_or, get_or}
use Rattle.std.proofs.lemmas.Option.{slice_get_within, slice_get-get_or}
use Rattle.fx_round.specs.Laws.{StoringGivesOne}
use Rattle.dg_model.specs.declared.diagram.Diagram.{Diagram}
use Rattle.dg_model.specs.declared.diagram.Block.{Block}
use Rattle.dg_model.specs.declared.resolved.Resolved.{Resolved}
use Rattle.dg_model.specs.Attributes.{attributes_of}
use Rattle.dg_model.specs.KindRow.{FullRule}
use Rattle.dg_model.specs.Laws.{WidthsAreOfEdges}
use Rattle.dg_model.specs.Library.{row_of}
use Rattle.dg_model.specs.Readable.{HasPorts, IsReadable}
use Rattle.dg_model.specs.RootElements.{root_inputs}
use Rattle.dg_tables.specs.Laws.{IsOrdered, OperationsPrepare, TypesAreValid}
use Rattle.hw_arcs.specs.Latencies.{latency_at}
use Rattle.hw_latency.specs.Shared.{is_shared}
use Rattle.hw_latency.specs.Weight.{samples}
use Rattle.hw_net.specs.declared.netlist.Frame.{Frame}
use Rattle.hw_net.specs.declared.netlist.NetPort.{NetPort}
use Rattle.hw_net.specs.Circuit.{Circuit}
use Rattle.hw_net.specs.Frames.{IsCounterAt}
use Rattle.hw_net.proofs.Growth.{longer, extends-trans}
use Rattle.hw_sched.specs.Laws.{IsOperation, OperationsHavePeriods, UnitsAreThere, UnitsAreUsed}
use Rattle.hw_sched.specs.Ready.{units_in_all}
use Rattle.hw_sched.specs.Slots.{Timing as Times, Operation, operation, shared_operations, slot_of}
use Rattle.hw_shows.specs.Series.{span_at}
use Rattle.hw_share.specs.declared.operation.Operation.{Operation as Asked}
use Rattle.hw_share.specs.Operations.{operands_of, unit_count}
use Rattle.hw_share.specs.Shared.{AreShared, IsServed}
use Rattle.hw_build.specs.declared.products.Products.{Products}
use Rattle.hw_build.specs.Places.{Places}
use Rattle.hw_build.specs.Serving.{multipliers}
use Rattle.hw_build.specs.Times.{timing_by}
use Rattle.hw_build.specs.inner.Factors.{OffersWords, IsSecond, GathersMore, AreFirsts, constant_net}
use Rattle.hw_build.specs.inner.Growth.{InLater}
use Rattle.hw_build.specs.inner.Levels.{level_behind}
use Rattle.hw_build.specs.inner.MultiplierStep.{ArePlacedBy, ArePlacesBelow, HasNoUnits, IsSharedFrame, IsSharedWay, AddsProducts}
use Rattle.hw_build.specs.inner.ResultNets.{first_operation, product_net, AreProducts, IsSecondNet}
use Rattle.hw_build.specs.inner.UnderWay.{IsUnderWay}
use Rattle.hw_build.specs.inner.Units.{IsUnitFor}
use Rattle.hw_build.proofs.Constants.{same_registers}
use Rattle.hw_build.proofs.Factors.{shared_multiplies}
use Rattle.hw_build.proofs.Multipliers.{is_product, multiplies_input, product_inputs}
use Rattle.hw_build.proofs.Levels.{level_stays, register_level}
use Rattle.hw_build.proofs.MultiplierPlaces.{AreUnitsFrom, multiplier_at, counted_units}
use Rattle.hw_build.proofs.MultiplierStep.{no_units_mid, same_others, none_behind, counter_frame, quiet_low, operand_of}
use Rattle.hw_build.proofs.OperationNumbers.{operation_there}
use Rattle.hw_build.proofs.PortOffers.{offered_word, offered_low}
use Rattle.hw_build.proofs.Operations.{of_shared}
use Rattle.hw_build.proofs.ResultNets.{no_asked, are_products, result_there, operations_count, asked_at, gathered_at, served_at, small_mid, second_at, asked_for, has_product}
use Rattle.hw_build.proofs.UnitCalls.{IsAskedFor, units_from, in_left, in_right, one_above, units_are_all}
use Rattle.hw_build.proofs.UnderWay.{by_call}
use Rattle.hw_build.proofs.Units.{HasAll, product_has, gain_has}
use Rattle.math_list.proofs.Places.{held, get_some}

no_member : (read : ℕ) → Contains [] read → ⊥
no_member read names = let below = names.1 in omega (arith, below)

module _ (storing : StoringGivesOne) (prepare : OperationsPrepare) (valid : TypesAreValid) (periods : OperationsHavePeriods) (there : UnitsAreThere) (used : UnitsAreUsed) (widths : WidthsAreOfEdges)
    (diagram : Diagram) (order : List ℕ) (ordered : IsOrdered diagram order) (plan : Resolved) (times : Times)
    (offered : ℕ → ℕ → ℕ → ℕ) (before mid after : Circuit) (words : OffersWords diagram plan offered before)
    (operations : List Asked) (products : Products)
    (gathered : GathersMore diagram plan times offered before mid [] operations 0
    (first_operation diagram plan (length diagram.blocks)))
    (firsts : AreFirsts diagram plan products.firsts.items (length diagram.blocks))
    (shared : AreShared mid after operations products.results) (cycles : before.cycles ≡ plan.cycles)
  where
    mid_cycles : mid.cycles ≡ plan.cycles
    mid_cycles = gathered.adds.appends.extends.cycles ∙ cycles

    count : length operations ≡ length (shared_operations diagram (attributes_of diagram) plan)
    count = operations_count storing prepare valid periods diagram order ordered plan times offered before mid after words operations products gathered shared mid_cycles

    all_products : AreProducts diagram plan products
    all_products = are_products diagram plan products firsts (shared.count ∙ count)

    -- an operation of a place
    numbered_at : (k : ℕ) (one : Asked) → slice_get operations k ≡ Some one
        → IsOperation diagram (attributes_of diagram) plan k
        (slice_index_or (shared_operations diagram (attributes_of diagram) plan) k (operation 0 0))
    numbered_at k one at = let inside = slice_get_within operations k one at in
        slice_get-get_or (shared_operations diagram (attributes_of diagram) plan) k (operation 0 0)
        (omega (arith, inside, count))

    abbrev o_at : ℕ → Operation
    o_at k = slice_index_or (shared_operations diagram (attributes_of diagram) plan) k (operation 0 0)

    frame_is : (k : ℕ) (frame : Frame) → length before.nets ≤ k → IsCounterAt after.nets k frame → IsSharedFrame diagram plan times frame
    frame_is k frame past counter =
        let of = counter_frame before mid after operations products.results gathered.adds shared k frame past counter in
        let one : Asked = of.0 in
        let place : ℕ = of.1.0 in
        let at : slice_get operations place ≡ Some one = slice_get-get_or operations place one of.1.1 ∙ ap Some of.1.2 in
        let is = numbered_at place one at in
        let g = gathered.each place (o_at place) one (omega arith) is at in
        let moves = periods diagram (attributes_of diagram) plan place (o_at place) is in
        let same : ◌≡◌ {A = Frame} frame (record { period = samples ((attributes_of diagram).period_at (o_at place).block); latency = latency_at times.lat (o_at place).block }) = of.2 ∙ g.frame in
        record {
          block = (o_at place).block;
          there = (of_shared diagram (attributes_of diagram) plan place (o_at place) is).there;
          moves = moves.1 ∙ ap Some (sym (ap (λ (f : Frame). f.period) same ∙ ap samples moves.1));
          latency_is = ap (λ (f : Frame). f.latency) same;
        }

    units_are : HasNoUnits before → AreUnitsFrom after.nets shared.first (unit_count operations)
    units_are none = units_from mid after (operands_of operations) shared.first
        (unit_count operations) shared.appends
        (no_units_mid before mid after operations products.results gathered.adds shared none) shared.units

    units_in_list : HasNoUnits before → length (multipliers after) ≡ units_in_all diagram (attributes_of diagram) plan times
    units_in_list none =
        counted_units after.nets shared.first (unit_count operations) (units_are none)
        (λ k net behind at. let new = shared.units.new in none_behind before mid after operations products.results gathered.adds shared k net (omega (arith, new, behind)) behind at)
        ∙ units_are_all there used diagram plan times operations (record { size = count; units = λ number o one is at. (gathered.each number o one (omega arith) is at).unit })

    module _ (places : Places) (place_of : ℕ → ℕ) (closed hubs : ℕ) (level : ℕ → ℕ) (blocks : ℕ)
        (placed : ArePlacedBy offered products places) (below_all : ArePlacesBelow diagram place_of)
        (few : length before.inputs ≤ length (root_inputs diagram (attributes_of diagram)))
        (way : IsUnderWay diagram (timing_by diagram plan times) places place_of closed hubs before level blocks)
      where
        abbrev own : ℕ
        own = 3 * length diagram.blocks + 1

        abbrev early : ℕ → ℕ
        early = level_behind before mid level 1

        small : hubs ≤ length before.nets
        small = way.hubs_are.there

        way_mid : IsUnderWay diagram (timing_by diagram plan times) places place_of closed hubs mid early blocks
        way_mid =
            by_call diagram (timing_by diagram plan times) places place_of hubs closed blocks 1 before mid level [] way gathered.adds.appends
            (subst (λ (ports : List NetPort). length ports ≤ length (root_inputs diagram (attributes_of diagram))) (sym gathered.adds.appends.extends.inputs) few) (omega arith)
            (λ read names. absurd (no_member read names))

        -- what an operation reads is there, on a level below that of multipliers
        port_low : (k : ℕ) (one : Asked) (b : Block) (port number : ℕ) → slice_get operations k ≡ Some one
            → slice_get diagram.blocks (o_at k).block ≡ Some b → 1 ≤ port → port ≤ b.inputs
            → number ≡ offered (o_at k).block port (o_at k).element
            → (number < length mid.nets) × (early number ≤ own)
        port_low k one b port number at block from to is =
            let of = of_shared diagram (attributes_of diagram) plan k (o_at k) (numbered_at k one at) in
            let same : number ≡ places.offered (o_at k).block port (o_at k).element = is ∙ sym (placed.offered_is (o_at k).block port (o_at k).element) in
            let word = offered_word widths diagram ordered.checked plan (o_at k).block b port
            (o_at k).element block of.shared from to of.element places place_of hubs before level
            way.facts.spread way.operands in
            let low = offered_low widths diagram ordered.checked plan (o_at k).block b port
            (o_at k).element block of.shared from to of.element places place_of hubs before level
            way.facts.spread way.operands below_all in
            let inside = slice_get_within before.nets (places.offered (o_at k).block port (o_at k).element) word.net word.is in
            let stays = level_stays before mid level 1 (places.offered (o_at k).block port (o_at k).element) inside in
            let more = longer before mid gathered.adds.appends.extends in
            let equal : early number ≡ early (places.offered (o_at k).block port (o_at k).element) = ap early same in
            (omega (arith, same, inside, more), omega (arith, equal, stays, low))

        ports_at : (k : ℕ) (b : Block) → slice_get diagram.blocks (o_at k).block ≡ Some b → HasPorts b.kind b.inputs b.outputs
        ports_at k b block = (held IsReadable diagram.blocks (o_at k).block b ordered.checked.wired.blocks block).ports

        left_low : (k : ℕ) (one : Asked) → slice_get operations k ≡ Some one → (one.left < length mid.nets) × (early one.left ≤ own)
        left_low k one at =
            let is = numbered_at k one at in
            let of = of_shared diagram (attributes_of diagram) plan k (o_at k) is in
            let b = get_some diagram.blocks (o_at k).block of.there in
            port_low k one b.0 1 one.left at b.1 (omega arith)
            (multiplies_input b.0.kind b.0.inputs b.0.outputs (ports_at k b.0 b.1)
            (shared_multiplies diagram plan (o_at k).block b.0 b.1 of.shared))
            (gathered.each k (o_at k) one (omega arith) is at).left

        second_low : (k : ℕ) (one : Asked) (b : Block) → slice_get operations k ≡ Some one
            → slice_get diagram.blocks (o_at k).block ≡ Some b → (rule : FullRule)
            → (is_product rule ≡ true → 2 ≤ b.inputs)
            → IsSecond diagram offered before mid (o_at k).block (o_at k).element rule one.right
            → (one.right < length mid.nets) × (early one.right ≤ own)
        second_low k one b at block FullRule.NoFull two second = absurd second
        second_low k one b at block (FullRule.FullSum negative accum) two second = absurd second
        second_low k one b at block (FullRule.FullScaled value spec) two second =
            let quiet = quiet_low before mid level 1 one.right (constant_net ((attributes_of diagram).param_at (o_at k).block) second.value) second.is second.new refl in
            (slice_get_within mid.nets one.right (constant_net ((attributes_of diagram).param_at (o_at k).block) second.value) second.is, omega (arith, quiet))
        second_low k one b at block FullRule.FullProduct two second = port_low k one b 2 one.right at block (omega arith) (two refl) second
        second_low k one b at block FullRule.UnionOfTwo two second = absurd second
        second_low k one b at block FullRule.UnionOfEnds two second = absurd second

        right_low : (k : ℕ) (one : Asked) → slice_get operations k ≡ Some one → (one.right < length mid.nets) × (early one.right ≤ own)
        right_low k one at =
            let is = numbered_at k one at in
            let of = of_shared diagram (attributes_of diagram) plan k (o_at k) is in
            let b = get_some diagram.blocks (o_at k).block of.there in
            second_low k one b.0 at b.1 (row_of b.0.kind).types.full
            (product_inputs b.0.kind b.0.inputs b.0.outputs (ports_at k b.0 b.1))
            ((gathered.each k (o_at k) one (omega arith) is at).right b.0 b.1)

        IsLow : ℕ → Type 0
        IsLow read = (read < length mid.nets) × (early read ≤ own)

        named_low : (read : ℕ) → Contains (operands_of operations) read → (read < length mid.nets) × (early read ≤ own)
        named_low read names =
            let at : slice_get (operands_of operations) names.0 ≡ Some read = slice_get-get_or (operands_of operations) names.0 read names.1 ∙ ap Some names.2 in
            let of = operand_of operations names.0 read at in
            elim of.3 [
              | inl left ↦ let low = left_low of.0 of.1 of.2 in let e : early read ≡ early of.1.left = ap early left in let a = low.0 in let b = low.1 in (omega (arith, left, a), omega (arith, e, b))
              | inr right ↦ let low = right_low of.0 of.1 of.2 in let e : early read ≡ early of.1.right =
                  ap early right in let a = low.0 in let b = low.1 in (omega (arith, right, a), omega (arith, e, b))
            ]

        abbrev late : ℕ → ℕ
        late = level_behind mid after early own

        way_after : IsUnderWay diagram (timing_by diagram plan times) places place_of closed hubs after late blocks
        way_after =
            by_call diagram (timing_by diagram plan times) places place_of hubs closed blocks own mid after early (operands_of operations) way_mid shared.appends
            (subst (λ (ports : List NetPort). length ports ≤ length (root_inputs diagram (attributes_of diagram)))
            (sym (shared.appends.extends.inputs ∙ gathered.adds.appends.extends.inputs)) few)
            (omega arith) named_low

        late_same : (k : ℕ) → k < length before.nets → late k ≡ level k
        late_same k inside = let more = longer before mid gathered.adds.appends.extends in level_stays mid after early own k (omega (arith, inside, more)) ∙ level_stays before mid level 1 k inside

        product_low : (block : ℕ) (b : Block) (element : ℕ) → slice_get diagram.blocks block ≡ Some b
            → is_shared diagram (attributes_of diagram) plan block ≡ true
            → element < (attributes_of diagram).width_at block 1 → late (places.product block element) ≡ 0
        product_low block b element at is below =
            let inside = slice_get_within diagram.blocks block b at in
            let number = operation_there diagram plan block element inside is below in
            let result = result_there diagram plan products firsts block element (shared.count ∙ count) inside is below in
            let served = served_at storing prepare valid periods diagram order ordered plan times offered before mid
            after words operations products gathered shared mid_cycles
            (first_operation diagram plan block + element) (operation block element)
            (product_net products block element) number result in
            ap late (placed.product_is block element) ∙ register_level mid after early own (product_net products block element) served.holds

        -- the multiplier of an operation
        module _ (none : HasNoUnits before) (number : ℕ) (o : Operation) (b : Block)
            (is : IsOperation diagram (attributes_of diagram) plan number o)
            (at : slice_get diagram.blocks o.block ≡ Some b) where
          abbrev one : Asked
          one = slice_index_or operations number no_asked

          abbrev result : ℕ
          result = get_or products.results number 0

          one_at : slice_get operations number ≡ Some one
          one_at = asked_at storing prepare valid periods diagram order ordered plan times offered before mid after words operations products gathered shared mid_cycles number o is

          served : IsServed mid after one (shared.first + one.unit) result
          served =
              let inside = slice_get_within operations number one one_at in
              let size = shared.count in
              shared.served number one result one_at (slice_get-get_or products.results number 0 (omega (arith, inside, size)))

          asked : (period : ℕ) → (attributes_of diagram).period_at o.block ≡ Some period → IsAskedFor diagram plan times places number o one period
          asked period moves = asked_for storing prepare valid periods diagram order ordered plan times offered
              before mid after words operations products gathered shared mid_cycles places closed hubs small placed
              number o period is moves

          early_enough : hubs ≤ length mid.nets
          early_enough = small_mid storing prepare valid periods diagram order ordered plan times offered before mid
              after words operations products gathered shared mid_cycles places closed hubs small placed

          has_by : (period : ℕ) (moves : (attributes_of diagram).period_at o.block ≡ Some period) (rule : FullRule)
              → (row_of b.kind).types.full ≡ rule
              → IsSecondNet diagram plan times places closed hubs after o.block o.element rule one.right
              → InLater closed hubs after (HasAll diagram places closed hubs after o b
              (span_at (timing_by diagram plan times) period o.block)
              (slot_of diagram (attributes_of diagram) plan times number o) served.left served.right
              (in_left diagram plan times places closed hubs mid after early_enough mid_cycles
              (operands_of operations) shared.appends number o b one period (shared.first + one.unit) result
              (asked period moves) served one.right refl))
          has_by period moves FullRule.NoFull e second = absurd second
          has_by period moves (FullRule.FullSum negative accum) e second = absurd second
          has_by period moves (FullRule.FullScaled value spec) e second =
              gain_has diagram places closed hubs after o b (span_at (timing_by diagram plan times) period o.block)
              (slot_of diagram (attributes_of diagram) plan times number o) served.left served.right
              (in_left diagram plan times places closed hubs mid after early_enough mid_cycles
              (operands_of operations) shared.appends number o b one period (shared.first + one.unit) result
              (asked period moves) served one.right refl)
              value spec second.value one.right e second.stored second.same
              (in_right diagram plan times places closed hubs mid after early_enough mid_cycles
              (operands_of operations) shared.appends number o b one period (shared.first + one.unit) result
              (asked period moves) served one.right refl)
          has_by period moves FullRule.FullProduct e second =
              product_has diagram places closed hubs after o b
              (span_at (timing_by diagram plan times) period o.block)
              (slot_of diagram (attributes_of diagram) plan times number o) served.left served.right
              (in_left diagram plan times places closed hubs mid after early_enough mid_cycles
              (operands_of operations) shared.appends number o b one period (shared.first + one.unit) result
              (asked period moves) served one.right refl)
              e (in_right diagram plan times places closed hubs mid after early_enough mid_cycles
              (operands_of operations) shared.appends number o b one period (shared.first + one.unit) result
              (asked period moves) served (places.offered o.block 2 o.element) second)
          has_by period moves FullRule.UnionOfTwo e second = absurd second
          has_by period moves FullRule.UnionOfEnds e second = absurd second

          unit_for : IsUnitFor diagram plan times places closed hubs after number o b
          unit_for =
              let g = gathered_at storing prepare valid periods diagram order ordered plan times offered before mid after words operations products gathered shared mid_cycles number o is in
              record {
                factors = record { left = served.left; right = served.right };
                at = ap (slice_get (multipliers after)) (sym g.unit)
                    ∙ multiplier_at after.nets shared.first
                    (unit_count operations) one.unit served.left served.right served.multiplies.net
                    (units_are none) (one_above operations number one one_at) served.multiplies.is
                    served.multiplies.multiplies;
                has = λ period moves. has_by period moves (row_of b.kind).types.full refl
                    (second_at storing prepare valid periods diagram order ordered plan times offered before mid
                    after words operations products gathered shared mid_cycles places closed hubs small placed
                    number o b is at);
              }

        shared_way : IsSharedWay diagram plan times places place_of closed hubs before after level blocks
        shared_way = record {
          next = late;
          way = way_after;
          same = late_same;
          low = product_low;
          products = record {
            each = λ block b element at is below. has_product storing prepare valid periods
                diagram order ordered plan times offered before mid after words operations products gathered shared
                mid_cycles places closed hubs small placed firsts block b element at is below;
          };
          units = λ none. record { each = λ number o b is at. unit_for none number o b is at };
        }

    adds_products : AddsProducts diagram plan times offered before after products
    adds_products = record {
      extends = extends-trans before mid after gathered.adds.appends.extends shared.appends.extends;
      way = λ places place_of closed hubs level blocks placed below_all few way. shared_way places place_of closed hubs level blocks placed below_all few way;
      shared = units_in_list;
      own = same_others before mid after operations products.results gathered.adds shared;
      registers = let total = shared.registers in let same = same_registers before mid gathered.adds in omega (arith, total, same, count);
      counters = frame_is;
    }

    pub products_put : AreProducts diagram plan products × AddsProducts diagram plan times offered before after products
    products_put = (all_products, adds_products)
