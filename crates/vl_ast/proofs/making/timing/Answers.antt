use Rattle.std.proofs.Common.{◌≡◌, ◌∷◌, [], Bool, if◌then◌else◌, IfOk, codes, subst, sym}
use Rattle.vl_ast.specs.declared.modules.Attr.{Attr}
use Rattle.vl_ast.specs.Header.{attribute_of}
use Rattle.vl_ast.proofs.Listings.{both, has-more}
use Rattle.vl_ast.proofs.making.timing.Goals as goal

pub returns-then-input : goal.returns-then-input
returns-then-input c =
    let period : Attr = attribute_of (codes "fx_period") c.args.period in
    subst (λ (b : Bool). IfOk c.finish.result (λ attrs. attrs ≡ period ∷ (if b then [] else attribute_of (codes "fx_latency") c.args.latency ∷ []))) (sym c.if-input.true)
    (c.finish.ensures (period ∷ []) (has-more c.begin-out.ensures (c.put.ensures _ c.attribute.ensures)))

pub returns : goal.returns
returns c =
    let period : Attr = attribute_of (codes "fx_period") c.args.period in
    let latency : Attr = attribute_of (codes "fx_latency") c.args.latency in
    subst (λ (b : Bool). IfOk c.finish-2.result (λ attrs. attrs ≡ period ∷ (if b then [] else latency ∷ []))) (sym c.if-input.false)
    (c.finish-2.ensures (period ∷ latency ∷ []) (has-more c.begin-out.ensures (both (c.put.ensures _ c.attribute.ensures) (c.put-2.ensures _ c.attribute-2.ensures))))
