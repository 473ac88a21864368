use Rattle.std.proofs.Common.{ℕ, List, ap}
use Rattle.vl_ast.specs.declared.modules.Attr.{Attr}
use Rattle.vl_ast.specs.declared.modules.Port.{Port}
use Rattle.vl_ast.proofs.making.port.Goals as goal

pub returns : goal.returns
returns c text all name attrs =
    let made : List ℕ × List Attr → Port = λ pair. record { attrs = pair.1; input = c.args.input; signed = c.args.word.1; width = c.args.word.0; name = pair.0 } in
    ap made (c.in_ok-name.ensures text all name attrs)
