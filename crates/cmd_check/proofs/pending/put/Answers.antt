use Rattle.std.proofs.Common.{ℕ, subst}
use Rattle.arrayvec.specs.ArrayVec.{ArrayVec}
use Rattle.cmd_check.specs.Handed.{Adds}
use Rattle.cmd_check.proofs.PieceBytes.{none_of, passed_over, waits_more}
use Rattle.cmd_check.proofs.pending.put.Goals as goal

pub returns-in-Some : goal.returns-in-Some
returns-in-Some g c = passed_over c.args.out.now c.args.pending.now c.in-Some._fault c.args.bytes.now c.in-Some.is

pub put_behind-requires : goal.put_behind-requires
put_behind-requires g c = none_of c.args.pending.now.fault c.in_default.not-Some

pub returns-in-Err : goal.returns-in-Err
returns-in-Err g c =
    let waiting = c.args.pending.now in
    subst (λ (bytes : ArrayVec ℕ). Adds g.K.Sink.taken g.K.Sink.faults c.args.out.now
    (record { bytes = bytes; fault = waiting.fault }) c.put_behind.new.out c.put_behind.new.pending
    c.args.bytes.now) c.in-Err.ensures.err c.put_behind.ensures

pub returns-in_default-try_extend_from_slice : goal.returns-in_default-try_extend_from_slice
returns-in_default-try_extend_from_slice g c =
    let waiting = c.args.pending.now in
    let calm = none_of waiting.fault c.in_default.not-Some in
    waits_more c.args.out.now waiting (record { bytes = c.try_extend_from_slice.new.self; fault = waiting.fault }) c.args.bytes.now calm calm c.in_default-try_extend_from_slice.ensures.ok
