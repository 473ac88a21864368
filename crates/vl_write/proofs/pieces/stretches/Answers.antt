use Rattle.std.proofs.Common.{◌*◌, ◌<◌, ◌∙◌, length, arith}
use Rattle.rayon.specs.Numbers.{nat_range}
use Rattle.rayon.proofs.ToStd.{nat_range-All}
use Rattle.vl_write.proofs.PieceLines.{lines_found}
use Rattle.vl_write.proofs.pieces.stretches.Goals as goal

pub collect-requires-clause-ready : goal.collect-requires-clause-ready
collect-requires-clause-ready g c =
    let ends = c.into_par_iter.ensures in
    let short = c.pieces_of.ensures.short in
    let inside = nat_range-All (λ i. i * 32 < length c.args.items.now) 0 c.pieces_of.result
    (λ i low high. omega (arith, high, short)) in
    rw (c.fold.ensures.base, c.fold.ensures.op, ends.0, ends.1) (λ a b. (tt, (λ k d lt before. inside k d lt), λ lines. tt))

pub returns : goal.returns
returns g c =
    let ends = c.into_par_iter.ensures in
    let chain = rw (c.fold.ensures.base, c.fold.ensures.op) at c.in_ok-collect.ensures.1 in
    lines_found c.args.items.now c.pieces_of.result chain.0 c.in_ok-collect.ensures.0 c.in_ok-collect.field-0
    (omega arith) (chain.1 ∙ (λ i. nat_range (ends.0 i) (ends.1 i))) chain.2 c.in_ok-collect.ensures.2
