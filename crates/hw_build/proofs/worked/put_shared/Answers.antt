use Rattle.std.proofs.Common.{◌∷◌, [], ℕ, refl, sym, subst, ap}
use Rattle.std.proofs.lemmas.List.Elements.{All-cons, All-nil}
use Rattle.std.proofs.lemmas.Option.{slice_get_within}
use Rattle.fx_type.specs.FxType.{IsType}
use Rattle.dg_model.specs.Attributes.{attributes_of}
use Rattle.hw_lower.specs.Lowered.{IsLowered}
use Rattle.hw_build.specs.declared.entry.Entry.{Entry}
use Rattle.hw_build.specs.inner.DesignTimes.{timing_for}
use Rattle.hw_build.specs.inner.OperationNets.{conversion_of}
use Rattle.hw_build.proofs.ProductEntries.{one_arg, shared_entry}
use Rattle.hw_build.proofs.worked.put_shared.Goals as goal

pub lower-requires-clause-args : goal.lower-requires-clause-args
lower-requires-clause-args c = one_arg c.args.net.now c.args.full c.args.product c.requires.word

pub lower-requires-clause-can : goal.lower-requires-clause-can
lower-requires-clause-can c =
    let types = c.operations_prepare.ensures.types c.args.design.checked.now.diagram c.args.design.checked.now.order
    c.args.place.block c.args.one.now (record {
      checked = c.keeps_rules.ensures.checked;
      ordered =
          c.keeps_rules.ensures.ordered;
    }) c.requires.block in
    record {
      arity = refl;
      signs = tt;
      types = All-cons IsType c.args.full [] c.requires.full.valid (All-nil IsType);
      parameters = tt;
      result = rw (c.result-own.ensures 1) types.0;
      result_type = tt;
      full_type = tt;
    }

pub returns : goal.returns
returns c =
    shared_entry c.args.design.checked.now.diagram
    (timing_for c.args.design) c.args.net.now c.lower.new.net c.args.place.block c.args.one.now
    c.args.place.port c.args.place.element c.args.product c.plain.result c.args.full c.result-own.result
    c.keeps_rules.ensures.checked c.requires.block
    c.requires.full c.requires.word c.result-own.ensures (rw (← (c.result-own.ensures 1)) c.in_ok-number.ensures.lowers)
    (subst (λ (n : ℕ). IsLowered c.args.net.now c.lower.new.net
    (conversion_of (attributes_of c.args.design.checked.now.diagram) c.args.place.block c.args.one.now
    c.args.full) (c.args.product ∷ []) n) (sym (ap (λ (e : Entry). e.net) c.plain.ensures))
    (rw (← (c.result-own.ensures 1)) c.in_ok-number.ensures.lowered))
    (ap (λ (e : Entry). e.multiply) c.plain.ensures)

pub result-own-requires : goal.result-own-requires
result-own-requires c = slice_get_within c.args.design.checked.now.diagram.blocks c.args.place.block c.args.one.now c.requires.block
