-- What is counted and named goes on with one more element.
use Rattle.std.proofs.Common.{◌≡◌, ℕ, suc, ◌+◌, ◌-◌, ◌<◌, ◌≤◌, ◌++◌, inl, inr, false, List, [], ◌∷◌, length, Contains, slice_index_or, Option, Some, None, ap, sym, ◌∙◌, subst, refl, append-nil}
use Rattle.std.proofs.Common.{length-append, IsTrue, arith}
use Rattle.std.specs.Prelude.{slice_get, nat_lt, not, ◌&&◌, ◌^◌, Bool, if◌then◌else◌}
use Rattle.std.specs.List.{flat_map}
use Rattle.std.proofs.lemmas.List.Elements.{Contains-push}
use Rattle.std.proofs.lemmas.Bool.{cond-false, false≢true, cases_lt, le-ltb, cases_Bool}
use Rattle.std.proofs.lemmas.Option.{slice_get_within}
use Rattle.math_num.specs.Word.{IsWord}
use Rattle.fx_type.specs.FxType.{is_signed, width_of}
use Rattle.dg_model.specs.declared.diagram.Diagram.{Diagram}
use Rattle.dg_model.specs.declared.diagram.Block.{Block}
use Rattle.dg_model.specs.declared.kind.Kind.{Kind}
use Rattle.dg_model.specs.declared.kind.Kind.TheVariants.{Sum, Gain, Product, Switch, Relational, Logic, Convert}
use Rattle.dg_model.specs.Library.{row_of}
use Rattle.dg_model.specs.Readable.{HasPorts}
use Rattle.dg_model.specs.PlanOf.{stages_at}
use Rattle.dg_model.specs.Attributes.{attributes_of}
use Rattle.dg_model.specs.Laws.{InputsAreListed}
use Rattle.dg_model.specs.RootElements.{root_inputs}
use Rattle.dg_model.specs.Solves.{IsShown, shown_ports}
use Rattle.dg_tables.specs.Laws.{IsOrdered, TypesAreValid}
use Rattle.hw_net.specs.declared.netlist.Net.{Net}
use Rattle.hw_net.specs.declared.netlist.NetKind.{NetKind}
use Rattle.hw_net.specs.declared.netlist.NetLabel.{NetLabel}
use Rattle.hw_net.specs.Circuit.{Circuit}
use Rattle.hw_net.specs.Frames.{register_count}
use Rattle.hw_net.specs.Growing.{IsConnected, IsResize}
use Rattle.hw_net.proofs.Growth.{longer, still-there}
use Rattle.hw_latency.specs.Shared.{multiplies, multiplies_if, is_shared}
use Rattle.hw_sched.specs.Laws.{PeriodsAreAbove}
use Rattle.hw_sched.proofs.Periods.{readable_at}
use Rattle.hw_build.specs.Multiplied.{multiplication_name, IsMultiplied}
use Rattle.hw_build.specs.Serving.{others, own_factors, unit_factors}
use Rattle.hw_build.specs.declared.blocks.Setting.{Setting}
use Rattle.hw_build.specs.declared.entry.Entry.{Entry}
use Rattle.hw_build.specs.declared.pipelines.Piped.{Piped}
use Rattle.hw_build.specs.inner.DesignTimes.{timing_for}
use Rattle.hw_build.specs.inner.HubPlaces.{before, own_hubs, hub_at, owner_of, is_input_role}
use Rattle.hw_build.specs.inner.ElementLoop.{IsSet, IsBegun, IsEntered}
use Rattle.hw_build.specs.inner.PipelineNets.{stage_labels, IsPipedBy}
use Rattle.hw_build.specs.inner.Spots.{Spots, with_spot, AreEven}
use Rattle.hw_build.specs.inner.Tally.{ReadThere, IsPipelineAt, AreLabelled, AreTallied, product_labels, hub_registers, hub_products, products_by, registers_by}
use Rattle.hw_build.proofs.Apart.{one_hub}
use Rattle.hw_build.proofs.HubsOnly.{owner_is, place_other}
use Rattle.hw_build.proofs.LoopEnd.{multiplying_shows}
use Rattle.hw_build.proofs.ElementLabels.{labelled_next, labelled_wider}
use Rattle.hw_build.proofs.Stages.{with_labels}
use Rattle.hw_build.proofs.HubSteps.{front_read}
use Rattle.hw_build.proofs.Tally.{at_last, piped_over}
use Rattle.hw_build.proofs.PipelineTurns.{contains_front, pipeline_by_call, pipeline_by_names, there_by_call}

-- a block behind which registers may stand shows one port
pub pipelining_shows : (kind : Kind) (inputs outputs : ℕ) → IsTrue (row_of kind).hardware.pipelines → HasPorts kind inputs outputs → shown_ports kind outputs ≡ 1
pipelining_shows (Sum negative accum) inputs outputs is ports = ports.1
pipelining_shows (Gain value param) inputs outputs is ports = ports.1
pipelining_shows Product inputs outputs is ports = ports.1
pipelining_shows (Switch criterion threshold) inputs outputs is ports = ports.1
pipelining_shows (Relational operator) inputs outputs is ports = ports.1
pipelining_shows (Logic operator) inputs outputs is ports = ports.1
pipelining_shows (Convert stored) inputs outputs is ports = ports.1
pipelining_shows _ inputs outputs is ports = absurd (false≢true is)

module _ (setting : Setting) (listed : InputsAreListed) (valid : TypesAreValid) (above : PeriodsAreAbove)
    (ordered : IsOrdered setting.design.checked.now.diagram setting.design.checked.now.order)
    (set : IsSet setting) where
  abbrev drawn : Diagram
  drawn = setting.design.checked.now.diagram

  module _ (block : ℕ) (b : Block) (port element : ℕ) (shown : IsShown drawn (attributes_of drawn) block b port element) (other : is_input_role (row_of b.kind).place.role ≡ false) where
    abbrev hub : ℕ
    hub = hub_at setting.firsts.now block port element

    low : length (root_inputs drawn (attributes_of drawn)) ≤ hub
    low = let place = (place_other drawn set.stood.earlier set.stood.later setting.firsts.now set.stood.has block b port element shown other).0 in omega (arith, place)

    owner : owner_of drawn hub ≡ block
    owner =
        let place = place_other drawn set.stood.earlier set.stood.later setting.firsts.now set.stood.has block b port element shown other in
        let from = place.0 in
        let to = place.1 in
        owner_is (own_hubs drawn) (length drawn.blocks) block
        (hub_at setting.firsts.now block port element - length (root_inputs drawn (attributes_of drawn)))
        (slice_get_within drawn.blocks block b shown.block_is) (omega (arith, from))
        (omega (arith, from, to))

    -- what the net counts for
    registers_here : hub_registers drawn setting.design.plan.now hub ≡ registers_by drawn setting.design.plan.now block (Some b)
    registers_here =
        cond-false {A = ℕ} (nat_lt hub (length (root_inputs drawn (attributes_of drawn)))) 0
        (registers_by drawn setting.design.plan.now (owner_of drawn hub)
        (slice_get drawn.blocks (owner_of drawn hub)))
        (le-ltb hub (length (root_inputs drawn (attributes_of drawn))) low)
        ∙ ap (λ (x : ℕ). registers_by drawn setting.design.plan.now x (slice_get drawn.blocks x)) owner
        ∙ ap (registers_by drawn setting.design.plan.now block) shown.block_is

    products_here : hub_products drawn setting.design.plan.now hub ≡ products_by drawn setting.design.plan.now block
    products_here =
        cond-false {A = ℕ} (nat_lt hub (length (root_inputs drawn (attributes_of drawn)))) 0
        (products_by drawn setting.design.plan.now (owner_of drawn hub))
        (le-ltb hub (length (root_inputs drawn (attributes_of drawn))) low)
        ∙ ap (products_by drawn setting.design.plan.now) owner

    -- registers stand behind blocks of one port alone
    one_piped : 0 < stages_at setting.design.plan.now block → 1 < port → ⊥
    one_piped any many =
        let may = set.designed.scheduled.planned.allowed.each block b shown.block_is any in
        let one = pipelining_shows b.kind b.inputs b.outputs may.kind (readable_at drawn ordered.checked.wired block b shown.block_is).ports in
        let to = shown.port_to in
        omega (arith, one, to, many)

    -- and such multiply
    one_multiplied : (multiply : Option ℕ) → ((k : ℕ) → multiply ≡ Some k → products_by drawn setting.design.plan.now block ≡ 1) → 1 < port → multiply ≡ None
    one_multiplied None owns many = refl
    one_multiplied (Some k) owns many = elim (cases_Bool (multiplies drawn block)) [
      | inl is ↦
          (let one = multiplying_shows b.kind b.inputs b.outputs (sym (ap multiplies_if shown.block_is) ∙ is) (readable_at drawn ordered.checked.wired block b shown.block_is).ports in
          let to = shown.port_to in
          absurd (omega (arith, one, to, many)))
      | inr is ↦
          (let zero_one : products_by drawn setting.design.plan.now block ≡ 0 = ap (λ (t : Bool). if t && not (is_shared drawn (attributes_of drawn) setting.design.plan.now block) then 1 else 0) is in
          let own = owns k refl in
          absurd (omega (arith, zero_one, own)))
    ]

    most_stages : stages_at setting.design.plan.now block ≤ 64
    most_stages = let planned = set.designed.scheduled.planned in let size = planned.size in let inside =
        slice_get_within drawn.blocks block b shown.block_is in planned.stages block 0 (omega (arith, size, inside))

    pub tallied_next : (now middle piped_net after start : Circuit) (spots : Spots) (entry : Entry) (piped : Piped)
        → AreEven spots → hub ≡ length spots.entries → IsBegun setting start
        → AreTallied drawn setting.design.plan.now
        (timing_for setting.design) setting.firsts.now start now spots
        → IsEntered setting now middle block b port element entry
        → IsWord (width_of ((attributes_of drawn).type_at block 1))
        (is_signed ((attributes_of drawn).type_at block 1)) → length spots.entries < length start.nets
        → IsPipedBy drawn (timing_for setting.design) middle piped_net block element entry.net piped
        → IsResize piped_net.nets (length spots.entries)
        → IsConnected piped_net after (length spots.entries) piped.end → (final : Circuit)
        → final ≡ with_labels after (product_labels block element entry.multiply) → block < 2 ^ 64
        → element < 2 ^ 64
        → AreTallied drawn setting.design.plan.now (timing_for setting.design) setting.firsts.now start final (with_spot spots entry.net entry.state piped.begin)
    tallied_next now middle piped_net after start spots entry piped even here begun tally entered typed inside put waits connected final names small_block small_element =
        let grown = longer now middle entered.appends.extends in
        let since = tally.more in
        let there = slice_get_within middle.nets entry.net entered.word.net entered.word.is in
        let over =
        piped_over drawn (timing_for setting.design) (length start.nets) middle piped_net after
        (length spots.entries) block element entry.net piped typed there
        (there_by_call now middle entered.named entered.appends tally.there) inside
        (omega (arith, grown, since)) waits connected
        (λ p is. above drawn block p ordered.checked is) put
        in
        let more = over.more in
        let count : length (spots.entries ++ entry.net ∷ []) ≡ suc (length spots.entries) = let sum = length-append spots.entries (entry.net ∷ []) in omega (arith, sum) in
        let stages = even.stages in
        let registers = over.registers in
        let few = entered.few in
        let counted = tally.registers in
        let here_registers : hub_registers drawn setting.design.plan.now (length spots.entries)
        ≡ registers_by drawn setting.design.plan.now block (Some b) =
        ap (hub_registers drawn setting.design.plan.now) (sym here) ∙ registers_here in
        let here_products : hub_products drawn setting.design.plan.now (length spots.entries)
        ≡ products_by drawn setting.design.plan.now block =
        ap (hub_products drawn setting.design.plan.now) (sym here) ∙ products_here in
        let own = tally.own in
        let entered_own = entered.own in
        let over_own = over.others_are in
        let registers_next : register_count after.nets
        ≤ register_count start.nets + before (hub_registers drawn setting.design.plan.now)
        (suc (length spots.entries)) = omega (arith, registers, few, counted, here_registers) in
        let own_next : length (others after)
        ≡ length (others start) + before (hub_products drawn setting.design.plan.now)
        (suc (length spots.entries)) = omega (arith, over_own, entered_own, own, here_products) in
        let nets : final.nets ≡ after.nets = ap (λ (c : Circuit). c.nets) names in
        let labels : final.labels ≡ after.labels ++ product_labels block element entry.multiply = ap (λ (c : Circuit). c.labels) names in
        let all_labels : final.labels ≡ (now.labels ++ stage_labels piped.begin block element over.stage_count) ++ product_labels block element entry.multiply =
        labels ∙ ap (λ (all : List NetLabel). all ++ product_labels block element entry.multiply)
        (over.labels_are ∙ ap (λ (all : List NetLabel). all
        ++ stage_labels piped.begin block element over.stage_count) entered.appends.extends.labels)
        in
        let size_final : length final.nets ≡ length after.nets = ap length nets in
        let registers_final : register_count final.nets ≡ register_count after.nets = ap register_count nets in
        record {
          more = omega (arith, since, grown, more, size_final);
          there = subst ReadThere (sym nets) over.there;
          pipelines = λ also q outer member period shows early is_period any.
              pipeline_by_names drawn (timing_for setting.design) (length start.nets) also member period
              (slice_index_or (spots.stages ++ piped.begin ∷ [])
              (hub_at setting.firsts.now also outer member) 0) after final
              (product_labels block element entry.multiply) nets labels
              (elim (cases_lt (hub_at setting.firsts.now also outer member)
              (length spots.entries)) [
                | inl less ↦
                    let w : ℕ = slice_index_or spots.stages (hub_at setting.firsts.now also outer member) 0 in
                    let stood = tally.pipelines also q outer member period shows less is_period any in
                    let past = stood.past in
                    let size = stood.size in
                    let at_middle =
                    pipeline_by_call drawn (timing_for setting.design) (length start.nets) also member period
                    (slice_index_or spots.stages (hub_at setting.firsts.now also outer member) 0) now middle
                    entered.named entered.appends
                    (λ read contained. let h = entered.below start begun since read contained in inl (omega (arith, h, past))) stood
                    in
                    let kept =
                    over.kept also member period (slice_index_or spots.stages (hub_at setting.firsts.now also outer member) 0) (omega (arith, size, grown))
                    (elim entered.stands [ inl names ↦ (let h = entered.below start begun since entry.net names in inl (omega (arith, h, past))) | inr new ↦ inr (omega (arith, new, size)) ]) at_middle
                    in
                    subst (λ (x : ℕ). IsPipelineAt drawn (timing_for setting.design)
                    (length start.nets) after also member period x)
                    (sym (front_read spots.stages piped.begin (hub_at setting.firsts.now also outer member)
                    (omega (arith, less, stages)))) kept
                | inr past ↦
                    let same : hub_at setting.firsts.now also outer member ≡ hub = omega (arith, past, early, count, here) in
                    let triple = one_hub drawn setting.design.checked.now.order set.stood.earlier set.stood.later
                    setting.firsts.now set.stood.has listed valid ordered block b port element also q outer
                    member shown shows other same in
                    let own_period = ap (attributes_of drawn).period_at triple.0 ∙ is_period in
                    let stages_same : (timing_for setting.design).stages block ≡ (timing_for setting.design).stages also = ap (timing_for setting.design).stages triple.0 in
                    let own_line = over.own period own_period (omega (arith, any, stages_same)) in
                    subst (λ (x : ℕ). IsPipelineAt drawn (timing_for setting.design)
                    (length start.nets) after also member period x)
                    (sym (at_last spots.stages piped.begin (hub_at setting.firsts.now also outer member)
                    (omega (arith, same, here, stages))))
                    (subst (λ (x : ℕ). IsPipelineAt drawn (timing_for setting.design)
                    (length start.nets) after x member period piped.begin) triple.0
                    (subst (λ (x : ℕ). IsPipelineAt drawn (timing_for setting.design)
                    (length start.nets) after block x period piped.begin) triple.2 own_line))
              ]);
          registers = subst (λ (n : ℕ). register_count final.nets
              ≤ register_count start.nets + before (hub_registers drawn setting.design.plan.now) n) (sym count)
              (omega (arith, registers_next, registers_final));
          own = subst (λ (n : ℕ). length (others final)
              ≡ length (others start) + before (hub_products drawn setting.design.plan.now) n) (sym count)
              (ap (λ (all : List Net). length (flat_map (λ (n : Net). own_factors n.kind) all)) nets
              ∙ own_next);
          shared = ap (flat_map (λ (n : Net). unit_factors n.kind)) nets ∙ over.units_are ∙ entered.shared ∙ tally.shared;
          labelled = subst (λ (n : ℕ). AreLabelled setting.firsts.now final.labels (length final.nets) n) (sym count) (elim (cases_lt 1 port) [
            | inl many ↦
                (let none : over.stage_count ≡ 0 = elim (cases_lt 0 over.stage_count) [
                  | inl some ↦ (let few_stages = over.stage_few in let stages_any : 0 < stages_at setting.design.plan.now block = omega (arith, some, few_stages) in absurd (one_piped stages_any many))
                  | inr no_stage ↦ omega (arith, no_stage)
                ] in
                let nothing : entry.multiply ≡ None = one_multiplied entry.multiply (λ k e. (entered.new_product k e).2) many in
                let same : final.labels ≡ now.labels =
                all_labels ∙ ap (λ (n : ℕ). (now.labels ++ stage_labels piped.begin block element n)
                ++ product_labels block element entry.multiply) none
                ∙ ap (λ (m : Option ℕ). (now.labels ++ []) ++ product_labels block element m) nothing
                ∙ append-nil (now.labels ++ []) ∙ append-nil now.labels
                in
                subst (λ (all : List NetLabel). AreLabelled setting.firsts.now all (length final.nets) (suc (length spots.entries))) (sym same)
                (labelled_wider setting.firsts.now now.labels (length now.nets) (length final.nets) (length spots.entries) (omega (arith, grown, more, size_final)) tally.labelled))
            | inr few_ports ↦
                (let from = shown.port_from in
                let first : 1 ≡ port = omega (arith, few_ports, from) in
                let own_hub : hub_at setting.firsts.now block 1 element ≡ length spots.entries = ap (λ (p : ℕ). hub_at setting.firsts.now block p element) first ∙ here in
                let few_stages = over.stage_few in
                let most : stages_at setting.design.plan.now block ≤ 64 = most_stages in
                subst (λ (all : List NetLabel). AreLabelled setting.firsts.now all (length final.nets) (suc (length spots.entries))) (sym all_labels)
                (labelled_next setting.firsts.now (length spots.entries)
                (length now.nets) block element piped.begin own_hub small_block small_element over.stage_count
                (length final.nets) now.labels entry.multiply tally.labelled
                (λ any_stage. let h = (over.stage_new any_stage).0 in omega (arith, h, grown))
                (omega (arith, few_stages, most)) (omega (arith, grown, more, size_final))
                (λ any_stage. let h = (over.stage_new any_stage).1 in omega (arith, h, size_final))
                (λ k e.
                let is = entered.new_product k e in
                let low_k = is.0 in
                let high_k = is.1 in
                (low_k, omega (arith, high_k, more, size_final), λ any_stage. let h = (over.stage_new any_stage).0 in omega (arith, h, high_k)))))
          ]);
          multiplied = λ also q member shows early owns. elim (cases_lt (hub_at setting.firsts.now also 1 member) (length spots.entries)) [
            | inl less ↦
                let was = tally.multiplied also q member shows less owns in
                let at = over.products_kept was.number was.net
                (still-there now middle was.number was.net entered.appends.extends was.is)
                (ap (λ (kind : NetKind). length (own_factors kind)) was.multiplies) in
                let named = over.labels_kept (record { net = was.number; name = multiplication_name also member })
                (subst (λ (all : List NetLabel). Contains all
                (record { net = was.number; name = multiplication_name also member }))
                (sym entered.appends.extends.labels) was.named) in
                record {
                  number = was.number;
                  net = was.net;
                  args = was.args;
                  is = ap (λ (all : List Net). slice_get all was.number) nets ∙ at;
                  multiplies = was.multiplies;
                  named = subst (λ (all : List NetLabel). Contains all (record { net = was.number; name = multiplication_name also member })) (sym labels)
                      (contains_front after.labels (product_labels block element entry.multiply) (record { net = was.number; name = multiplication_name also member }) named);
                }
            | inr past ↦
                let same : hub_at setting.firsts.now also 1 member ≡ hub = omega (arith, past, early, count, here) in
                let triple = one_hub drawn setting.design.checked.now.order set.stood.earlier set.stood.later
                setting.firsts.now set.stood.has listed valid ordered block b port element also q 1 member shown
                shows other same in
                let product = entered.product (ap (products_by drawn setting.design.plan.now) triple.0 ∙ owns) in
                let at = over.products_kept product.number product.net product.is (ap (λ (kind : NetKind). length (own_factors kind)) product.kind) in
                let one : NetLabel = record { net = product.number; name = multiplication_name block element } in
                let told : product_labels block element entry.multiply
                ≡ record { net = product.number; name = multiplication_name block element } ∷ [] =
                ap (product_labels block element) product.told in
                let named : Contains (after.labels
                ++ record { net = product.number; name = multiplication_name block element } ∷ [])
                (record { net = product.number; name = multiplication_name block element }) =
                Contains-push after.labels
                (record { net = product.number; name = multiplication_name block element }) in
                subst (λ (x : ℕ). IsMultiplied final (multiplication_name x member)) triple.0 (subst (λ (x : ℕ). IsMultiplied final (multiplication_name block x)) triple.2
                (record {
                  number = product.number;
                  net = product.net;
                  args = product.args;
                  is = ap (λ (all : List Net). slice_get all product.number) nets ∙ at;
                  multiplies = product.kind;
                  named = subst (λ (all : List NetLabel). Contains all
                      (record { net = product.number; name = multiplication_name block element }))
                      (sym (labels ∙ ap (λ (more : List NetLabel). after.labels ++ more) told)) named;
                }))
          ];
        }
