use Rattle.std.proofs.Common.{◌≡◌, ℕ, ◌+◌, ◌-◌, ◌*◌, ◌∙◌, ◌++◌, List, Vec, Global, take, drop, ap, arith, subst}
use Rattle.std.specs.Prelude.{IfOk, Result}
use Rattle.std.specs.List.{flat_map}
use Rattle.std.proofs.lemmas.Result.{IfOk-weaker}
use Rattle.fx_io.specs.declared.fault.OutOfMemory.{OutOfMemory}
use Rattle.vl_ast.specs.Spelling.{item_text}
use Rattle.vl_write.specs.inner.Pieces.{piece_text}
use Rattle.vl_write.proofs.PieceLines.{piece_is}
use Rattle.vl_write.proofs.pieces.with_piece.Goals as goal

pub returns : goal.returns
returns g c before is =
    let items = c.args.items.now in
    let piece = c.args.piece in
    let begun : c.in-Ok.lines.items ≡ before = subst (λ (r : Result (Vec ℕ Global) OutOfMemory). IfOk r (λ lines. lines.items ≡ before)) c.in-Ok.is is in
    let count : piece * 32 + c.min.result - piece * 32 ≡ c.min.result = omega arith in
    IfOk-weaker c.with_lines.result _ _
    (λ lines put. put
    ∙ ap (λ (n : ℕ). c.in-Ok.lines.items ++ flat_map item_text (take n (drop (piece * 32) items))) (count ∙ c.min.ensures)
    ∙ (λ i. begun i ++ flat_map item_text (piece_is items piece i)))
    c.with_lines.ensures
