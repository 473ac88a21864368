-- With all elements in place, pipelines and multiplications are what a netlist owes.
use Rattle.std.proofs.Common.{◌≡◌, ℕ, suc, ◌+◌, ◌-◌, ◌*◌, ◌<◌, Bool, true, List, [], ◌∷◌, length, Contains, slice_index_or, Some, pos, ap, sym, ◌∙◌, subst, refl, arith}
use Rattle.std.specs.Prelude.{slice_get, not, ◌&&◌, if◌then◌else◌}
use Rattle.std.proofs.lemmas.Bool.{false≢true}
use Rattle.fx_type.specs.declared.kind.FxType.{FxType}
use Rattle.dg_model.specs.declared.diagram.Diagram.{Diagram}
use Rattle.dg_model.specs.declared.diagram.Block.{Block}
use Rattle.dg_model.specs.declared.kind.Kind.{Kind}
use Rattle.dg_model.specs.declared.kind.Kind.TheVariants.{Gain, Product}
use Rattle.dg_model.specs.Library.{row_of}
use Rattle.dg_model.specs.Readable.{HasPorts}
use Rattle.dg_model.specs.Attributes.{attributes_of}
use Rattle.dg_model.specs.PlanOf.{stages_at}
use Rattle.dg_model.specs.Signals.{Attributes}
use Rattle.dg_model.specs.Solves.{IsShown, shown_ports, shown_width}
use Rattle.dg_tables.specs.Laws.{IsOrdered}
use Rattle.hw_latency.specs.Shared.{multiplies_if, is_shared}
use Rattle.hw_net.specs.declared.netlist.Net.{Net}
use Rattle.hw_net.specs.declared.netlist.NetLabel.{NetLabel}
use Rattle.hw_net.specs.declared.netlist.NetOp.TheVariants.{Resize}
use Rattle.hw_net.specs.declared.netlist.NetPort.{NetPort}
use Rattle.hw_net.specs.Circuit.{Circuit}
use Rattle.hw_sched.proofs.Periods.{readable_at}
use Rattle.hw_build.specs.Multiplied.{multiplication_name, AreMultiplied}
use Rattle.hw_build.specs.Pipelined.{stage_name, ArePipelined}
use Rattle.hw_build.specs.Places.{Places}
use Rattle.hw_build.specs.declared.blocks.Setting.{Setting}
use Rattle.hw_build.specs.inner.DesignTimes.{timing_for}
use Rattle.hw_build.specs.inner.HubPlaces.{hub_at, hubs_in_all}
use Rattle.hw_build.specs.inner.ElementLoop.{places_of, IsSet, HasElements}
use Rattle.hw_build.specs.inner.PipelineNets.{own_frame, wire_of, stage_net}
use Rattle.hw_build.specs.inner.ResultNets.{product_net}
use Rattle.hw_build.specs.inner.Tally.{IsPipelineAt, products_by}
use Rattle.hw_build.specs.inner.Unread.{AreReadInTurn}
use Rattle.hw_build.specs.inner.Spots.{Spots}
use Rattle.hw_build.proofs.Unread.{alone}
use Rattle.math_list.proofs.Tests.{some_there}
use Rattle.math_list.proofs.Places.{get_some}

-- a block that multiplies shows one port, as wide as it is
pub multiplying_shows : (kind : Kind) (inputs outputs : ℕ) → (row_of kind).hardware.multiplies ≡ true → HasPorts kind inputs outputs → shown_ports kind outputs ≡ 1
multiplying_shows (Gain value param) inputs outputs is ports = ports.1
multiplying_shows Product inputs outputs is ports = ports.1
multiplying_shows _ inputs outputs is ports = absurd (false≢true is)

pub multiplying_width : (diagram : Diagram) (a : Attributes) (kind : Kind) (block port : ℕ) → (row_of kind).hardware.multiplies ≡ true → shown_width diagram a kind block port ≡ a.width_at block port
multiplying_width diagram a (Gain value param) block port is = refl
multiplying_width diagram a Product block port is = refl
multiplying_width diagram a _ block port is = absurd (false≢true is)

module _ (setting : Setting) (set : IsSet setting) (now : Circuit) (spots : Spots) (has : HasElements setting now spots) where
  abbrev drawn : Diagram
  drawn = setting.design.checked.now.diagram

  abbrev named : Places
  named = places_of drawn setting.firsts.now setting.operands.now (product_net setting.products.now) spots

  -- a netlist with these nets and at least these names
  module _ (later : Circuit) (nets : later.nets ≡ now.nets) (labels : (label : NetLabel) → Contains now.labels label → Contains later.labels label) where
    -- an element with its pipeline
    module _ (block : ℕ) (b : Block) (element : ℕ) (shown : IsShown drawn (attributes_of drawn) block b 1 element) (any : 0 < stages_at setting.design.plan.now block) where
      abbrev begin : ℕ
      begin = slice_index_or spots.stages (hub_at setting.firsts.now block 1 element) 0

      period : (p : ℕ) × ((attributes_of drawn).period_at block ≡ Some p)
      period = some_there ((attributes_of drawn).period_at block) (set.designed.scheduled.planned.allowed.each block b shown.block_is any).period

      line : IsPipelineAt drawn (timing_for setting.design) (length has.start.nets) now block element period.0 begin
      line =
          let below = has.way.hubs_are.below block b 1 element shown in
          let size = has.size in
          has.tally.pipelines block b 1 element period.0 shown (omega (arith, below, size)) period.1 any

    pub pipelines_stand : ((port : NetPort) → Contains later.outputs port → port.net < hubs_in_all drawn) → ArePipelined drawn setting.design.plan.now later named
    pipelines_stand outputs = record {
      registers = λ block b element stage shown below.
          let any : 0 < stages_at setting.design.plan.now block = omega (arith, below) in
          let is = line block b element shown any in
          let type : FxType = (attributes_of drawn).type_at block 1 in
          let past = is.past in
          let turn = subst (λ (all : List Net). AreReadInTurn all (begin block b element shown any) (begin block b element shown any + stages_at setting.design.plan.now block)) (sym nets) is.turn in
          record {
            net = stage_net type (own_frame (timing_for setting.design) (period block b element shown any).0 block)
                ((period block b element shown any).0 * setting.design.plan.now.cycles - 1)
                (begin block b element shown any + stage);
            frame = own_frame (timing_for setting.design) (period block b element shown any).0 block;
            slot = (period block b element shown any).0 * setting.design.plan.now.cycles - 1;
            first = pos 0;
            is = ap (λ (all : List Net). slice_get all (begin block b element shown any + suc stage)) nets ∙ is.stage stage below;
            takes = refl;
            named = labels (record { net = begin block b element shown any + suc stage; name = stage_name block element (suc stage) }) (is.named stage below);
            alone = λ k read other at contained same.
                let e = alone later.nets (begin block b element shown any)
                (begin block b element shown any + stages_at setting.design.plan.now block)
                (begin block b element shown any + stage) turn (omega arith)
                (omega (arith, below)) k read other at contained same in
                omega (arith, e);
            inner = λ port contained e.
                let low = outputs port contained in
                let small = (has.begun.each named has.fits).way.hubs_are.there in
                absurd (omega (arith, low, small, past, e));
          };
      wires = λ block b element shown any.
          let is = line block b element shown any in
          record {
            net = wire_of ((attributes_of drawn).type_at block 1) is.entry;
            op = Resize;
            args = is.entry ∷ [];
            is = ap (λ (all : List Net). slice_get all (begin block b element shown any + 0)) nets ∙ ap (slice_get now.nets) (add_none (begin block b element shown any)) ∙ is.wire;
            combines = refl;
          };
      words = λ block b element stage shown below.
          let any : 0 < stages_at setting.design.plan.now block = omega (arith, below) in
          let is = line block b element shown any in
          record {
            net = stage_net ((attributes_of drawn).type_at block 1)
                (own_frame (timing_for setting.design) (period block b element shown any).0 block)
                ((period block b element shown any).0 * setting.design.plan.now.cycles - 1)
                (begin block b element shown any + stage);
            is = ap (λ (all : List Net). slice_get all (begin block b element shown any + suc stage)) nets ∙ is.stage stage below;
            wide = refl;
            sign = refl;
          };
    }
      where
        add_none : (n : ℕ) → n + 0 ≡ n
        add_none n = omega arith

    pub multiplications_stand : (ordered : IsOrdered drawn setting.design.checked.now.order) → AreMultiplied drawn setting.design.plan.now later
    multiplications_stand ordered = record {
      each = λ block element inside is_multiplying unshared below.
          let some = get_some drawn.blocks block inside in
          let b : Block = some.0 in
          let kind : (row_of b.kind).hardware.multiplies ≡ true = sym (ap multiplies_if some.1) ∙ is_multiplying in
          let ports = multiplying_shows b.kind b.inputs b.outputs kind (readable_at drawn ordered.checked.wired block b some.1).ports in
          let wide = multiplying_width drawn (attributes_of drawn) b.kind block 1 kind in
          let shown : IsShown drawn (attributes_of drawn) block b 1 element =
          record {
            block_is = some.1;
            port_from =
                omega arith;
            port_to = omega (arith, ports);
            element_below = omega (arith, below, wide);
          } in
          let at = has.way.hubs_are.below block b 1 element shown in
          let size = has.size in
          let owns : products_by drawn setting.design.plan.now block ≡ 1 =
          ap (λ (t : Bool). if t && not (is_shared drawn (attributes_of drawn) setting.design.plan.now block) then 1 else 0) is_multiplying ∙ ap (λ (t : Bool). if true && not t then 1 else 0) unshared
          in
          let was = has.tally.multiplied block b element shown (omega (arith, at, size)) owns in
          record {
            number = was.number;
            net = was.net;
            args = was.args;
            is = ap (λ (all : List Net). slice_get all was.number) nets ∙ was.is;
            multiplies = was.multiplies;
            named = labels (record { net = was.number; name = multiplication_name block element }) was.named;
          };
    }
