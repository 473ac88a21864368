use Rattle.std.proofs.Common.{List, ap, map, string_bytes, subst}
use Rattle.std.specs.Prelude.{IfOk, String, is_err}
use Rattle.std.specs.Global.{Global}
use Rattle.std.specs.Process.{exit_status}
use Rattle.fx_top.specs.Call.{files_in}
use Rattle.fx_prog.proofs.ProgramEnd.{called, has-words, wanted}
use Rattle.fx_prog.specs.Program.{IsDone}
use Rattle.fx_prog.proofs.call.Goals as goal
use Rattle.fx_prog.proofs.call.Goals.{in-Ok, in-Err}

pub returns : goal.returns
returns g c = elim c.match-words.branch [
  | in-Ok w ↦ called g.E.Sink.taken g.E.Sink.faults c.args.err.now c.match-words.err c.status_of.new.err c.args.args c.status_of.result (exit_status c.from.result)
      (λ shelf. files_in g.S.Shelf.held g.S.Shelf.steady g.S.Shelf.faults g.S.Shelf.overlong c.args.shelf.now shelf)
      (map string_bytes w.in-Ok.words.items) c.match-words.answer w.answer-answer.result w.answer-answer.new.err c.match-words.shelf w.answer-answer.new.shelf
      w.answer-is w.err-is w.shelf-is
      (has-words _ c.args.args w.in-Ok.words.items w.in-Ok.ensures.found w.in-Ok.ensures.wanting w.in-Ok.ensures.odd)
      (subst (λ (words : List (String Global)). IfOk w.answer-answer.result
      (λ done. IsDone g.E.Sink.taken g.E.Sink.faults c.args.err.now w.answer-answer.new.err
      (map string_bytes words) (files_in g.S.Shelf.held g.S.Shelf.steady g.S.Shelf.faults g.S.Shelf.overlong
      c.args.shelf.now w.answer-answer.new.shelf) done)) w.as_slice.ensures.value
      w.answer-answer.ensures.done)
      w.answer-answer.ensures.wanting
      c.status_of.ensures.answered c.status_of.ensures.silent c.status_of.ensures.wanting c.status_of.ensures.said c.from.ensures
  | in-Err w ↦ wanted g.E.Sink.taken g.E.Sink.faults c.args.err.now c.match-words.err c.status_of.new.err c.args.args c.status_of.result (exit_status c.from.result)
      (files_in g.S.Shelf.held g.S.Shelf.steady g.S.Shelf.faults g.S.Shelf.overlong c.args.shelf.now c.match-words.shelf)
      w.err-is (c.status_of.ensures.wanting (ap is_err w.answer-is)) (c.status_of.ensures.said (ap is_err w.answer-is)) c.from.ensures
]
