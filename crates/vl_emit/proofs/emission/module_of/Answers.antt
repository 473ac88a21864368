use Rattle.std.proofs.Common.{◌<◌, List, [], ◌∷◌, ◌++◌, ◌∙◌, Contains, ap, codes, length, map, subst, sym}
use Rattle.std.proofs.lemmas.Result.{IfOk-weaker}
use Rattle.hw_net.specs.declared.netlist.Net.{Net}
use Rattle.hw_net.specs.declared.netlist.NetLabel.{NetLabel}
use Rattle.vl_ast.specs.Gated.{gated_item, shows_enable}
use Rattle.vl_ast.specs.Header.{module_with}
use Rattle.vl_emit.specs.Header.{ports_of}
use Rattle.vl_emit.specs.inner.NetItems.{items_of}
use Rattle.vl_emit.specs.inner.Ready.{IsIndex}
use Rattle.vl_emit.proofs.Sounds.{netlist-ready}
use Rattle.vl_emit.proofs.emission.module_of.Goals as goal

pub ports_of-ports-requires : goal.ports_of-ports-requires
ports_of-ports-requires c = netlist-ready c.args.netlist.now c.requires.runs c.requires.counters

pub label_places-requires : goal.label_places-requires
label_places-requires c =
    λ label d. subst (λ (l : List Net). label.net < length l) (sym c.nets.ensures)
    (c.requires.labels label (subst (λ (l : List NetLabel). Contains l label) c.labels.ensures d))

pub items_of-items-requires : goal.items_of-items-requires
items_of-items-requires c =
    let a = subst (λ (l : List NetLabel). IsIndex l (length c.nets.result.now) c.in_ok-labels.labels.items) c.labels.ensures c.in_ok-labels.ensures in
    let b = subst (λ (l : List Net). IsIndex c.args.netlist.now.labels (length l) c.in_ok-labels.labels.items) c.nets.ensures a in
    record {
      labels = subst (IsIndex c.args.netlist.now.labels (length c.args.netlist.now.nets)) (sym c.as_slice.ensures.value) b;
      ready = netlist-ready c.args.netlist.now c.requires.runs c.requires.counters;
    }

pub returns-clause-is : goal.returns-clause-is
returns-clause-is c =
    let n = c.args.netlist.now in
    IfOk-weaker c.whole_module.result _ _
    (λ m is. is ∙ ap (λ k. module_with (codes "fx_model") k (ports_of n)
    (map gated_item (items_of n ++ shows_enable ∷ []))) (c.from-cycles.ensures ∙ c.cycles.ensures))
    (c.whole_module.ensures _ _ c.ports_of-ports.ensures c.items_of-items.ensures)
