-- Shared operations that were gathered and asked for have their products and their multipliers.
use Rattle.std.proofs.Common.{◌≡◌, ℕ, ◌+◌, ◌<◌, ◌≤◌, ◌||◌, inr, true, List, [], length, Option, Some, None, ap, sym, ◌∙◌, subst, refl, arith}
use Rattle.std.specs.Prelude.{Bool, slice_get, slice_index_or, get_or}
use Rattle.std.proofs.lemmas.Option.{slice_get_within, slice_get-get_or, get_or_from_slice_get}
use Rattle.math_num.specs.Word.{InWord}
use Rattle.fx_round.specs.Laws.{StoringGivesOne}
use Rattle.fx_type.specs.declared.decimal.Decimal.{Decimal}
use Rattle.fx_type.specs.declared.spec.TypeSpec.{TypeSpec}
use Rattle.fx_type.specs.FxType.{is_signed, width_of}
use Rattle.dg_model.specs.declared.diagram.Diagram.{Diagram}
use Rattle.dg_model.specs.declared.diagram.Block.{Block}
use Rattle.dg_model.specs.declared.kind.Kind.{Kind}
use Rattle.dg_model.specs.declared.kind.Kind.TheVariants.{Gain, Product}
use Rattle.dg_model.specs.declared.op.Op.TheVariants.{Gain as OpGain}
use Rattle.dg_model.specs.declared.resolved.Resolved.{Resolved}
use Rattle.dg_model.specs.Attributes.{attributes_of}
use Rattle.dg_model.specs.Equation.{IsOpOf}
use Rattle.dg_model.specs.Library.{row_of}
use Rattle.dg_model.specs.Wires.{type_into}
use Rattle.dg_tables.specs.Laws.{IsOrdered, OperationsPrepare, TypesAreValid}
use Rattle.hw_arcs.specs.Latencies.{latency_at}
use Rattle.hw_latency.specs.Shared.{is_shared}
use Rattle.hw_latency.specs.Weight.{samples}
use Rattle.hw_net.specs.declared.netlist.Net.{Net}
use Rattle.hw_net.specs.Circuit.{Circuit}
use Rattle.hw_net.proofs.Growth.{longer, still-there}
use Rattle.hw_sched.specs.Laws.{IsOperation, OperationsHavePeriods}
use Rattle.hw_sched.specs.Slots.{Timing as Times, Operation, operation, shared_operations, slot_of}
use Rattle.hw_share.specs.declared.operation.Operation.{Operation as Asked}
use Rattle.hw_share.specs.Operations.{operands_of}
use Rattle.hw_share.specs.Shared.{AreShared, IsServed}
use Rattle.hw_shows.specs.Series.{span_at, IsProductAt}
use Rattle.hw_build.specs.declared.products.Products.{Products}
use Rattle.hw_build.specs.Places.{Places}
use Rattle.hw_build.specs.Times.{timing_by}
use Rattle.hw_build.specs.inner.Factors.{OffersWords, IsSecond, IsCoefficient, IsGathered, GathersMore, AreFirsts, if_shared, constant_net}
use Rattle.hw_build.specs.inner.Growth.{InLater}
use Rattle.hw_build.specs.inner.MultiplierStep.{ArePlacedBy}
use Rattle.hw_build.specs.inner.ResultNets.{first_operation, product_by, product_at, product_net, number_or_zero, AreProducts, IsSecondNet, HasProduct}
use Rattle.hw_build.proofs.Factors.{left_word, right_word, shared_multiplies}
use Rattle.hw_build.proofs.FullTypes.{full_is_there}
use Rattle.hw_build.proofs.Nets.{constant}
use Rattle.hw_build.proofs.OperationNumbers.{operation_there, operations_in_all}
use Rattle.hw_build.proofs.Multipliers.{slot_is_told}
use Rattle.hw_build.proofs.UnitCalls.{IsAskedFor, product_kept}
use Rattle.fx_type.proofs.Ranges.{type-word, range-word}

abbrev pub no_asked : Asked
no_asked = record { frame = record { period = 0; latency = 0 }; slot = 0; unit = 0; left = 0; right = 0 }

-- ---- which elements have products

module _ (diagram : Diagram) (plan : Resolved) (products : Products) (firsts : AreFirsts diagram plan products.firsts.items (length diagram.blocks)) where
  first_is : (block : ℕ) → block < length diagram.blocks
      → slice_index_or products.firsts.items block None
      ≡ if_shared (is_shared diagram (attributes_of diagram) plan block) (first_operation diagram plan block)
  first_is block inside = get_or_from_slice_get products.firsts.items block
      (if_shared (is_shared diagram (attributes_of diagram) plan block) (first_operation diagram plan block)) None
      (firsts.each block inside)

  product_is : (block element : ℕ) → block < length diagram.blocks
      → is_shared diagram (attributes_of diagram) plan block ≡ true
      → product_at products block element
      ≡ slice_get products.results (first_operation diagram plan block + element)
  product_is block element inside shared =
      ap (product_by products.results element) (first_is block inside ∙ ap (λ (b : Bool). if_shared b (first_operation diagram plan block)) shared)

  net_is : (block element number : ℕ) → product_at products block element ≡ Some number → product_net products block element ≡ number
  net_is block element number e = ap number_or_zero e

  -- the result of an operation is the net of its product
  pub result_there : (block element : ℕ) → length products.results
      ≡ length (shared_operations diagram (attributes_of diagram) plan) → block < length diagram.blocks
      → is_shared diagram (attributes_of diagram) plan block ≡ true
      → element < (attributes_of diagram).width_at block 1
      → slice_get products.results (first_operation diagram plan block + element) ≡ Some (product_net products block element)
  result_there block element count inside shared below =
      let place : ℕ = first_operation diagram plan block + element in
      let early = slice_get_within (shared_operations diagram (attributes_of diagram) plan) place (operation block element) (operation_there diagram plan block element inside shared below) in
      let there : slice_get products.results place ≡ Some (get_or products.results place 0) = slice_get-get_or products.results place 0 (omega (arith, early, count)) in
      let net : product_net products block element ≡ get_or products.results place 0 = net_is block element (get_or products.results place 0) (product_is block element inside shared ∙ there) in
      there ∙ ap Some (sym net)

  pub are_products : length products.results ≡ length (shared_operations diagram (attributes_of diagram) plan) → AreProducts diagram plan products
  are_products count = record {
    size = firsts.size;
    shared = λ block element inside is below. product_is block element inside is ∙ result_there block element count inside is below;
    other = λ block element inside is. ap (product_by products.results element) (first_is block inside ∙ ap (λ (b : Bool). if_shared b (first_operation diagram plan block)) is);
  }

-- ---- coefficients

-- a coefficient is in the range of its type
coefficient_fits : OperationsPrepare → (diagram : Diagram) (order : List ℕ) → IsOrdered diagram order
    → (block : ℕ) (b : Block) (element : ℕ) → slice_get diagram.blocks block ≡ Some b
    → (a c : Circuit) (number : ℕ) (value : List Decimal) (spec : TypeSpec) → b.kind ≡ Gain value spec
    → (is : IsCoefficient a c value element ((attributes_of diagram).param_at block) number)
    → InWord (width_of ((attributes_of diagram).param_at block))
    (is_signed ((attributes_of diagram).param_at block)) is.value
coefficient_fits prepare diagram order ordered block b element at a c number value spec kind is =
    let can = prepare diagram order block b element (OpGain is.value ((attributes_of diagram).param_at block)) ordered at
    (subst (λ (k : Kind). IsOpOf k element ((attributes_of diagram).param_at block)
    (type_into diagram (attributes_of diagram) block 2)
    (OpGain is.value ((attributes_of diagram).param_at block))) (sym kind) (is.value, is.stored, refl)) in
    range-word ((attributes_of diagram).param_at block) is.value can.parameters.1

module _ (storing : StoringGivesOne) (prepare : OperationsPrepare) (valid : TypesAreValid)
    (periods : OperationsHavePeriods) (diagram : Diagram) (order : List ℕ) (ordered : IsOrdered diagram order)
    (plan : Resolved) (times : Times) (offered : ℕ → ℕ → ℕ → ℕ) (before mid after : Circuit)
    (words : OffersWords diagram plan offered before)
    (operations : List Asked) (products : Products)
    (gathered : GathersMore diagram plan times offered before mid [] operations 0
    (first_operation diagram plan (length diagram.blocks)))
    (shared : AreShared mid after operations products.results) (cycles : mid.cycles ≡ plan.cycles)
  where
    -- as many as there are
    pub operations_count : length operations ≡ length (shared_operations diagram (attributes_of diagram) plan)
    operations_count = let e = gathered.size in let all = operations_in_all diagram plan in omega (arith, e, all)

    pub results_count : length products.results ≡ length (shared_operations diagram (attributes_of diagram) plan)
    results_count = shared.count ∙ operations_count

    -- the operation of a number, as it was asked for
    pub asked_at : (number : ℕ) (o : Operation) → IsOperation diagram (attributes_of diagram) plan number o → slice_get operations number ≡ Some (slice_index_or operations number no_asked)
    asked_at number o is =
        let inside = slice_get_within (shared_operations diagram (attributes_of diagram) plan) number o is in
        let count = operations_count in
        slice_get-get_or operations number no_asked (omega (arith, inside, count))

    pub gathered_at : (number : ℕ) (o : Operation) → IsOperation diagram (attributes_of diagram) plan number o
        → IsGathered diagram plan times offered before mid number o (slice_index_or operations number no_asked)
    gathered_at number o is = gathered.each number o (slice_index_or operations number no_asked) (omega arith) is (asked_at number o is)

    pub served_at : (number : ℕ) (o : Operation) (result : ℕ) → IsOperation diagram (attributes_of diagram) plan number o → slice_get products.results number ≡ Some result
        → IsServed mid after (slice_index_or operations number no_asked) (shared.first + (slice_index_or operations number no_asked).unit) result
    served_at number o result is there = shared.served number (slice_index_or operations number no_asked) result (asked_at number o is) there

    module _ (places : Places) (closed hubs : ℕ) (small : hubs ≤ length before.nets) (placed : ArePlacedBy offered products places) where
      pub small_mid : hubs ≤ length mid.nets
      small_mid = let more = longer before mid gathered.adds.appends.extends in omega (arith, small, more)

      -- the net of a second operand
      second_by : (block element number : ℕ) (b : Block) → slice_get diagram.blocks block ≡ Some b → (kind : Kind)
          → b.kind ≡ kind → IsSecond diagram offered before mid block element (row_of kind).types.full number
          → IsSecondNet diagram plan times places closed hubs after block element (row_of kind).types.full number
      second_by block element number b at (Gain value spec) kind second =
          let net : Net = constant_net ((attributes_of diagram).param_at block) second.value in
          let new = second.new in
          record {
            value = second.value;
            stored = second.stored;
            same = constant closed hubs after number second.value net
                (record { at = still-there mid after number net shared.appends.extends second.is; settled = inr (omega (arith, new, small)) }) refl
                (type-word ((attributes_of diagram).param_at block) (valid diagram order block b ordered at).1)
                (coefficient_fits prepare diagram order ordered block b element at before mid number value spec kind second);
          }
      second_by block element number b at Product kind second = second ∙ sym (placed.offered_is block 2 element)
      second_by block element number b at _ kind second = absurd second

      pub second_at : (number : ℕ) (o : Operation) (b : Block) → IsOperation diagram (attributes_of diagram) plan number o → slice_get diagram.blocks o.block ≡ Some b
          → IsSecondNet diagram plan times places closed hubs after o.block o.element (row_of b.kind).types.full (slice_index_or operations number no_asked).right
      second_at number o b is at = second_by o.block o.element (slice_index_or operations number no_asked).right b at b.kind refl ((gathered_at number o is).right b at)

      pub asked_for : (number : ℕ) (o : Operation) (period : ℕ) → IsOperation diagram (attributes_of diagram) plan number o → (attributes_of diagram).period_at o.block ≡ Some period
          → IsAskedFor diagram plan times places number o (slice_index_or operations number no_asked) period
      asked_for number o period is moves =
          let g = gathered_at number o is in
          record {
            frame = g.frame ∙ ap (λ (p : Option ℕ). record { period = samples p; latency = latency_at times.lat o.block }) moves;
            slot = g.slot;
            unit = g.unit;
            left = g.left ∙ sym (placed.offered_is o.block 1 o.element);
          }

      -- the product of an element
      pub has_product : AreFirsts diagram plan products.firsts.items (length diagram.blocks)
          → (block : ℕ) (b : Block) (element : ℕ) → slice_get diagram.blocks block ≡ Some b
          → is_shared diagram (attributes_of diagram) plan block ≡ true
          → element < (attributes_of diagram).width_at block 1
          → HasProduct diagram plan times places closed hubs after block b element
      has_product firsts block b element at is below =
          let inside = slice_get_within diagram.blocks block b at in
          let number : ℕ = first_operation diagram plan block + element in
          let o : Operation = operation block element in
          let one : Asked = slice_index_or operations number no_asked in
          let there = operation_there diagram plan block element inside is below in
          let result = result_there diagram plan products firsts block element results_count inside is below in
          let served = served_at number o (product_net products block element) there result in
          let g = gathered_at number o there in
          let second = g.right b at in
          let full = full_is_there storing prepare valid diagram order ordered block b at (shared_multiplies diagram plan block b at is) in
          let left = left_word diagram ordered.checked plan offered before mid words gathered.adds.appends.extends block b element one.right at is below in
          let right = right_word diagram ordered.checked plan offered before mid words gathered.adds.appends.extends block b element one.right at is below second in
          let word = served.word left.net right.net (ap (slice_get mid.nets) g.left ∙ left.is) right.is in
          let same : product_net products block element ≡ places.product block element = sym (placed.product_is block element) in
          record {
            slot = slot_of diagram (attributes_of diagram) plan times number o;
            told = slot_is_told diagram plan times number o there;
            right = one.right;
            second = second_at number o b there at;
            product = λ period moves.
                subst (λ (n : ℕ). InLater closed hubs after
                (λ clocks rows. IsProductAt clocks (span_at (timing_by diagram plan times) period block)
                (slot_of diagram (attributes_of diagram) plan times number o)
                (rows (places.offered block 1 element)) (rows one.right) (rows n))) same
                (product_kept diagram plan times places closed hubs mid after small_mid cycles
                (operands_of operations) shared.appends number o b one period (shared.first + one.unit)
                (product_net products block element)
                (asked_for number o period there moves) served one.right refl);
            full = full.0;
            is_full = full.1;
            word = record {
              net = word.net;
              is = ap (slice_get after.nets) (placed.product_is block element) ∙ word.is;
              wide = word.wide ∙ ap (λ (w : ℕ). w + right.net.width) left.wide ∙ ap (λ (w : ℕ). width_of (type_into diagram (attributes_of diagram) block 1) + w) right.wide ∙ sym full.1.width;
              sign = word.sign ∙ ap (λ (s : Bool). s || right.net.signed) left.sign
                  ∙ ap (λ (s : Bool). is_signed (type_into diagram (attributes_of diagram) block 1) || s) right.sign
                  ∙ sym full.1.sign;
            };
          }
