use Rattle.std.proofs.Common.{◌∙◌, ℕ, List, ap}
use Rattle.vl_ast.specs.declared.modules.Attr.{Attr}
use Rattle.vl_ast.specs.declared.modules.Port.{Port}
use Rattle.vl_hier.proofs.copying.copied_port.Goals as goal

pub returns : goal.returns
returns c =
    let port = c.args.port.now in
    let made : List ℕ × List Attr → Port = λ pair. record { attrs = pair.1; input = port.input; signed = port.signed; width = port.width; name = pair.0 } in
    ap made (c.in_ok-name.ensures _ _ c.copy-own.ensures c.copied_attrs.ensures ∙ (λ i. (c.bytes.ensures i, c.as_slice.ensures i)))
