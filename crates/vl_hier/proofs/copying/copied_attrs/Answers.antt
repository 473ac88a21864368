use Rattle.std.proofs.Common.{◌∙◌, take}
use Rattle.std.proofs.lemmas.List.{map-id, take_all}
use Rattle.vl_ast.specs.declared.modules.Attr.{Attr}
use Rattle.vl_ast.proofs.Listings.{holds-as, one-held}
use Rattle.vl_hier.proofs.copying.copied_attrs.Goals as goal

pub loop-attr-init : goal.loop-attr-init
loop-attr-init c = c.begin-out.ensures

pub loop-attr-preserved : goal.loop-attr-preserved
loop-attr-preserved c =
    one-held c.args.attrs.now c.loop-attr.attr-index c.attr-item.result c.loop-attr-test.true c.attr-item.is (λ (x : Attr). x) c.loop-attr.invariant (c.put.ensures _ c.copied_attr.ensures)

pub returns : goal.returns
returns c =
    let i = c.loop-attr.attr-index in
    let all = c.args.attrs.now in
    c.finish.ensures all (holds-as (map-id (take i all) ∙ take_all i all c.loop-attr-test.false) c.loop-attr.invariant)
