use Rattle.std.proofs.Common.{refl, sym, subst}
use Rattle.fx_top.specs.declared.answer.Answer.{Answer}
use Rattle.fx_top.specs.Call.{files_in, stream_in}
use Rattle.fx_top.specs.Flattened.{HasFlatCause, HasFlatWritten}
use Rattle.fx_top.proofs.Flat.{flat-caused, flat-written, unfetched-caused, unfetched-written}
use Rattle.fx_top.proofs.flatten.flatten.Goals as goal

pub returns-in-Err-clause-cause : goal.returns-in-Err-clause-cause
returns-in-Err-clause-cause g c =
    unfetched-caused (files_in g.S.Shelf.held g.S.Shelf.steady g.S.Shelf.faults g.S.Shelf.overlong c.args.shelf.now
    c.fetch_file.new.shelf)
    (stream_in g.K.Sink.taken g.K.Sink.faults c.args.out.now c.args.out.now) c.args.file.now
    c.in-Err.answer c.in-Err.ensures.refused

pub returns-in-Err-clause-written : goal.returns-in-Err-clause-written
returns-in-Err-clause-written g c =
    unfetched-written (files_in g.S.Shelf.held g.S.Shelf.steady g.S.Shelf.faults g.S.Shelf.overlong c.args.shelf.now
    c.fetch_file.new.shelf)
    (stream_in g.K.Sink.taken g.K.Sink.faults c.args.out.now c.args.out.now) c.args.file.now
    c.in-Err.answer refl c.in-Err.ensures.refused

pub returns-clause-cause : goal.returns-clause-cause
returns-clause-cause g c =
    let files = files_in g.S.Shelf.held g.S.Shelf.steady g.S.Shelf.faults g.S.Shelf.overlong c.args.shelf.now c.fetch_file.new.shelf in
    let out = stream_in g.K.Sink.taken g.K.Sink.faults c.args.out.now c.put_flat-done.new.out in
    subst (λ (answer : Answer). HasFlatCause files c.args.file.now answer) (sym c.answer_to.ensures)
    (flat-caused files out c.args.file.now c.args.file refl c.in-Ok.verilog c.in-Ok.ensures.found c.put_flat-done.result (rw c.bytes.ensures at c.put_flat-done.ensures))

pub returns-clause-written : goal.returns-clause-written
returns-clause-written g c =
    let files = files_in g.S.Shelf.held g.S.Shelf.steady g.S.Shelf.faults g.S.Shelf.overlong c.args.shelf.now c.fetch_file.new.shelf in
    let out = stream_in g.K.Sink.taken g.K.Sink.faults c.args.out.now c.put_flat-done.new.out in
    subst (λ (answer : Answer). HasFlatWritten files c.args.file.now out answer) (sym c.answer_to.ensures)
    (flat-written files out c.args.file.now c.args.file refl c.in-Ok.verilog c.in-Ok.ensures.found c.put_flat-done.result (rw c.bytes.ensures at c.put_flat-done.ensures))
