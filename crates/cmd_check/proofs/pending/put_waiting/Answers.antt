use Rattle.std.proofs.Common.{[], Some, refl, append-nil, subst, List, ℕ}
use Rattle.fx_io.specs.Sink.{TookProperPrefix}
use Rattle.cmd_check.proofs.PieceBytes.{part_put}
use Rattle.cmd_check.proofs.pending.put_waiting.Goals as goal

pub returns-in-Err-clause-adds : goal.returns-in-Err-clause-adds
returns-in-Err-clause-adds g c =
    let part = subst (λ (xs : List ℕ). TookProperPrefix (g.K.Sink.taken c.args.out.now) (g.K.Sink.taken c.put_all.new.sink) xs) c.as_slice.ensures.value c.in-Err.ensures.cut in
    part_put c.args.out.now c.put_all.new.sink c.args.pending.now
    (record { bytes = c.args.pending.now.bytes; fault = Some c.in-Err.fault }) c.in-Err.fault []
    c.args.pending.now.bytes.items c.requires refl
    (append-nil c.args.pending.now.bytes.items) part c.in-Err.ensures.cause
