use Rattle.std.proofs.Common.{◌∙◌, ℕ, List, ap}
use Rattle.st_wrap.specs.declared.columns.Column.{Column}
use Rattle.st_wrap.proofs.columns.column_for.Goals as goal

pub returns : goal.returns
returns c =
    let made : List ℕ × List ℕ → Column = λ pair. record { inner = pair.0; name = pair.1; signed = c.args.port.now.signed; width = c.args.port.now.width; late = c.args.late } in
    ap made (c.in_ok-inner.ensures _ _ c.copy-inner.ensures c.copy.ensures ∙ (λ i. (c.bytes.ensures i, c.bytes-2.ensures i)))
