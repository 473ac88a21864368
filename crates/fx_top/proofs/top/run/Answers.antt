use Rattle.std.proofs.Common.{map, string_bytes}
use Rattle.fx_top.specs.Call.{files_in, stream_in}
use Rattle.fx_top.specs.Answer.{status_of}
use Rattle.fx_top.proofs.Flattening.{flat_due-clause, flat_complete-clause}
use Rattle.fx_top.proofs.PlainCalls.{plain_complete-clause}
use Rattle.fx_top.proofs.Status.{due-clause, complete-clause}
use Rattle.fx_top.proofs.Samples.{sample_due-clause, sample_complete-clause}
use Rattle.fx_top.proofs.top.run.Goals as goal

pub returns-clause-ends : goal.returns-clause-ends
returns-clause-ends g c = record {
  answer = c.carry_out-answer.result;
  status_is = c.status-status.ensures;
  said = c.report.ensures;
  carried_out = c.carry_out-answer.ensures;
}

pub returns-clause-due : goal.returns-clause-due
returns-clause-due g c = rw c.status-status.ensures (due-clause
    (files_in g.S.Shelf.held g.S.Shelf.steady g.S.Shelf.faults g.S.Shelf.overlong c.args.shelf.now c.carry_out-answer.new.shelf)
    (stream_in g.K.Sink.taken g.K.Sink.faults c.args.out.now c.carry_out-answer.new.out)
    c.unique.ensures c.unique-2.ensures (map string_bytes c.args.words.now) c.carry_out-answer.result c.carry_out-answer.ensures)

pub returns-clause-complete : goal.returns-clause-complete
returns-clause-complete g c = rw c.status-status.ensures (complete-clause
    (files_in g.S.Shelf.held g.S.Shelf.steady g.S.Shelf.faults g.S.Shelf.overlong c.args.shelf.now c.carry_out-answer.new.shelf)
    (stream_in g.K.Sink.taken g.K.Sink.faults c.args.out.now c.carry_out-answer.new.out)
    c.unique.ensures c.unique-2.ensures (map string_bytes c.args.words.now) c.carry_out-answer.result c.carry_out-answer.ensures)

pub returns-clause-plain_complete : goal.returns-clause-plain_complete
returns-clause-plain_complete g c = rw c.status-status.ensures (plain_complete-clause c.plain_plans_make_designs.ensures.empty
    (files_in g.S.Shelf.held g.S.Shelf.steady g.S.Shelf.faults g.S.Shelf.overlong c.args.shelf.now c.carry_out-answer.new.shelf)
    (stream_in g.K.Sink.taken g.K.Sink.faults c.args.out.now c.carry_out-answer.new.out) (map string_bytes c.args.words.now) (status_of c.carry_out-answer.result)
    (complete-clause
    (files_in g.S.Shelf.held g.S.Shelf.steady g.S.Shelf.faults g.S.Shelf.overlong c.args.shelf.now c.carry_out-answer.new.shelf)
    (stream_in g.K.Sink.taken g.K.Sink.faults c.args.out.now c.carry_out-answer.new.out)
    c.unique.ensures c.unique-2.ensures (map string_bytes c.args.words.now) c.carry_out-answer.result c.carry_out-answer.ensures))

pub returns-clause-sample_due : goal.returns-clause-sample_due
returns-clause-sample_due g c = rw c.status-status.ensures (sample_due-clause
    (files_in g.S.Shelf.held g.S.Shelf.steady g.S.Shelf.faults g.S.Shelf.overlong c.args.shelf.now c.carry_out-answer.new.shelf)
    (stream_in g.K.Sink.taken g.K.Sink.faults c.args.out.now c.carry_out-answer.new.out)
    (map string_bytes c.args.words.now) c.carry_out-answer.result c.carry_out-answer.ensures)

pub returns-clause-sample_complete : goal.returns-clause-sample_complete
returns-clause-sample_complete g c = rw c.status-status.ensures (sample_complete-clause
    (files_in g.S.Shelf.held g.S.Shelf.steady g.S.Shelf.faults g.S.Shelf.overlong c.args.shelf.now c.carry_out-answer.new.shelf)
    (stream_in g.K.Sink.taken g.K.Sink.faults c.args.out.now c.carry_out-answer.new.out)
    (map string_bytes c.args.words.now) c.carry_out-answer.result c.carry_out-answer.ensures)

pub returns-clause-flat_due : goal.returns-clause-flat_due
returns-clause-flat_due g c = rw c.status-status.ensures (flat_due-clause
    (files_in g.S.Shelf.held g.S.Shelf.steady g.S.Shelf.faults g.S.Shelf.overlong c.args.shelf.now c.carry_out-answer.new.shelf)
    (stream_in g.K.Sink.taken g.K.Sink.faults c.args.out.now c.carry_out-answer.new.out)
    c.unique_design.ensures (map string_bytes c.args.words.now) c.carry_out-answer.result c.carry_out-answer.ensures)

pub returns-clause-flat_complete : goal.returns-clause-flat_complete
returns-clause-flat_complete g c = rw c.status-status.ensures (flat_complete-clause
    (files_in g.S.Shelf.held g.S.Shelf.steady g.S.Shelf.faults g.S.Shelf.overlong c.args.shelf.now c.carry_out-answer.new.shelf)
    (stream_in g.K.Sink.taken g.K.Sink.faults c.args.out.now c.carry_out-answer.new.out)
    c.unique_design.ensures (map string_bytes c.args.words.now) c.carry_out-answer.result c.carry_out-answer.ensures)
