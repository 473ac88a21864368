use Rattle.std.proofs.Common.{◌≡◌, ℕ, ◌-◌, min, List, ap, sym, ◌∙◌, subst}
use Rattle.std.specs.Int.{w128}
use Rattle.std.proofs.lemmas.Int.{to_z-of_z}
use Rattle.fx_type.specs.declared.decimal.Decimal.{Decimal}
use Rattle.fx_type.specs.declared.kind.FxType.{FxType}
use Rattle.fx_type.specs.FxType.{IsType}
use Rattle.dg_model.specs.Attributes.{attributes_of}
use Rattle.dg_model.specs.Library.{row_of}
use Rattle.dg_model.specs.Wires.{entry_of}
use Rattle.hw_sched.specs.Chained.{first_list, stored_in}
use Rattle.hw_build.specs.inner.Operands.{or_zero, first_of_block}
use Rattle.std.proofs.lemmas.Option.{slice_get_within}
use Rattle.hw_build.proofs.firsts.first_entry.Goals as goal

pub stored_entry-requires : goal.stored_entry-requires
stored_entry-requires c =
    subst IsType (sym (c.result.ensures 1))
    (c.operations_prepare.ensures.types c.args.checked.now.diagram c.args.checked.now.order c.args.block
    c.args.one.now (record {
      checked = c.keeps_rules.ensures.checked;
      ordered =
          c.keeps_rules.ensures.ordered;
    }) c.requires).0

pub returns : goal.returns
returns c =
    let last : c.min.result ≡ min c.args.element ((attributes_of c.args.checked.now.diagram).width_at c.args.block 1 - 1) =
    c.min.ensures ∙ ap (min c.args.element) c.saturating_sub-last.ensures ∙ ap (λ (w : ℕ). min c.args.element (w - 1)) c.own_width.ensures
    in
    to_z-of_z w128 c.stored_entry.result (record { sfits = c.stored_entry.type_inv }) ∙ c.stored_entry.ensures
    ∙ ap (λ (t : FxType). or_zero (stored_in t (entry_of c.list_of.result.now c.min.result))) (c.result.ensures 1)
    ∙ ap (λ (list : List Decimal). or_zero (stored_in ((attributes_of c.args.checked.now.diagram).type_at c.args.block 1) (entry_of list c.min.result))) c.list_of.ensures
    ∙ ap (λ (n : ℕ). or_zero (stored_in ((attributes_of c.args.checked.now.diagram).type_at c.args.block 1) (entry_of (first_list (row_of c.args.one.now.kind).signal.lists) n))) last
    ∙ ap (first_of_block c.args.checked.now.diagram c.args.block c.args.element) (sym c.requires)

pub own_width-requires : goal.own_width-requires
own_width-requires c = record { there = slice_get_within c.args.checked.now.diagram.blocks c.args.block c.args.one.now c.requires }

pub result-requires : goal.result-requires
result-requires c = slice_get_within c.args.checked.now.diagram.blocks c.args.block c.args.one.now c.requires
