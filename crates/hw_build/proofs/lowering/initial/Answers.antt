use Rattle.std.proofs.Common.{sym, subst}
use Rattle.std.specs.Int.{w128}
use Rattle.std.proofs.lemmas.Int.{to_z-of_z}
use Rattle.std.proofs.lemmas.Option.{slice_get_within}
use Rattle.fx_type.specs.FxType.{IsType}
use Rattle.hw_build.proofs.lowering.initial.Goals as goal

pub result-kind-requires : goal.result-kind-requires
result-kind-requires c = slice_get_within c.args.site.design.checked.now.diagram.blocks c.args.site.place.block c.args.site.one.now c.requires.shown.block_is

pub parameter_value-first-requires-clause-kind : goal.parameter_value-first-requires-clause-kind
parameter_value-first-requires-clause-kind c =
    let types = c.operations_prepare.ensures.types c.args.site.design.checked.now.diagram
    c.args.site.design.checked.now.order c.args.site.place.block c.args.site.one.now
    (record { checked = c.keeps_rules.ensures.checked; ordered = c.keeps_rules.ensures.ordered })
    c.requires.shown.block_is in
    subst IsType (sym (c.result-kind.ensures 1)) types.0

pub returns : goal.returns
returns c =
    let types = c.operations_prepare.ensures.types c.args.site.design.checked.now.diagram
    c.args.site.design.checked.now.order c.args.site.place.block c.args.site.one.now
    (record { checked = c.keeps_rules.ensures.checked; ordered = c.keeps_rules.ensures.ordered })
    c.requires.shown.block_is in
    let e = to_z-of_z w128 c.parameter_value-first.result (record { sfits = c.parameter_value-first.type_inv }) in
    record {
      kind = c.result-kind.result;
      kind_is = c.result-kind.ensures;
      is_type = subst IsType (sym (c.result-kind.ensures 1)) types.0;
      word_is = c.word_of.ensures;
      range = rw e c.parameter_value-first.ensures.range;
      entry = rw e c.parameter_value-first.ensures.entry;
      one = rw e c.parameter_value-first.ensures.one;
    }
