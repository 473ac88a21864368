use Rattle.std.proofs.Common.{◌≡◌, Some, sym, ap, subst, ◌∙◌, arith}
use Rattle.std.specs.Prelude.{is_some, List, slice_get}
use Rattle.dg_model.specs.declared.diagram.Diagram.{Diagram}
use Rattle.std.proofs.lemmas.Option.{get_or_from_slice_get}
use Rattle.dg_model.specs.declared.diagram.Block.{Block}
use Rattle.dg_model.specs.Attributes.{attributes_of}
use Rattle.dg_model.specs.Library.{row_of}
use Rattle.dg_rules.proofs.LineStates.{may_decides}
use Rattle.dg_rules.proofs.resolving.may_be_pipelined.Goals as goal

pub overflow_cast-place : goal.overflow_cast-place
overflow_cast-place c = record { fits = omega (arith, c.requires, c.keeps_rules.ensures.checked.wired.size) }

pub returns : goal.returns
returns c = λ block at.
    let diagram = c.args.checked.now.diagram in
    let blocks : c.as_slice.result.now ≡ diagram.blocks = c.as_slice.ensures ∙ ap (λ (d : Diagram). d.blocks) c.diagram.ensures in
    let there : slice_get c.as_slice.result.now c.args.place ≡ Some block = subst (λ (bs : List Block). slice_get bs c.args.place ≡ Some block) (sym blocks) at in
    let same : c.index-as_slice-place.result ≡ block = c.index-as_slice-place.is ∙ get_or_from_slice_get c.as_slice.result.now c.args.place block _ there in
    may_decides (attributes_of diagram) c.args.place block c.may_stand_behind.result c.is_some.result
    (c.may_stand_behind.ensures ∙ ap (λ (b : Block). (row_of b.kind).hardware.pipelines) same)
    (c.is_some.ensures ∙ ap is_some c.period.ensures)
