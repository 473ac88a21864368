use Rattle.std.proofs.Common.{refl, ap, sym, subst, ◌∷◌, ◌∙◌}
use Rattle.fx_top.specs.declared.answer.Answer.{Answer}
use Rattle.fx_top.specs.Call.{files_in, stream_in}
use Rattle.fx_top.specs.Caused.{HasCause, HasWritten}
use Rattle.fx_top.specs.Command.{PlanWord, plan_files}
use Rattle.fx_top.specs.Output.{IsPlanText}
use Rattle.fx_top.specs.inner.Tasks.{command_of, word_of}
use Rattle.fx_top.proofs.Tasks.{files-are, task-caused, task-written}
use Rattle.fx_top.proofs.FetchFaults.{pair-unfetched, pair-unwritten}
use Rattle.fx_top.proofs.task.over_files.Goals as goal

pub returns-in-Err-clause-cause : goal.returns-in-Err-clause-cause
returns-in-Err-clause-cause g c =
    pair-unfetched (files_in g.S.Shelf.held g.S.Shelf.steady g.S.Shelf.faults g.S.Shelf.overlong c.args.shelf.now
    c.fetch_both.new.shelf) (command_of c.args.task c.args.first.now c.args.second.now) c.args.first.now
    (word_of c.table.result)
    (files-are c.args.task c.args.first.now c.args.second.now ∙ ap (λ (word : PlanWord). c.args.first.now ∷ plan_files word) (sym c.table.ensures)) c.in-Err.answer c.in-Err.ensures.refused

pub returns-in-Err-clause-written : goal.returns-in-Err-clause-written
returns-in-Err-clause-written g c =
    pair-unwritten (files_in g.S.Shelf.held g.S.Shelf.steady g.S.Shelf.faults g.S.Shelf.overlong c.args.shelf.now
    c.fetch_both.new.shelf) (stream_in g.K.Sink.taken g.K.Sink.faults c.args.out.now c.args.out.now)
    (command_of c.args.task c.args.first.now c.args.second.now) c.args.first.now (word_of c.table.result) c.in-Err.answer refl c.in-Err.ensures.refused

pub returns-clause-cause : goal.returns-clause-cause
returns-clause-cause g c =
    let files = files_in g.S.Shelf.held g.S.Shelf.steady g.S.Shelf.faults g.S.Shelf.overlong c.args.shelf.now c.fetch_both.new.shelf in
    let out = stream_in g.K.Sink.taken g.K.Sink.faults c.args.out.now c.put_output-done.new.out in
    let says = subst (λ (word : PlanWord). IsPlanText files.held word c.in-Ok.texts.second) c.table.ensures c.in-Ok.ensures.says in
    subst (λ (answer : Answer). HasCause files (command_of c.args.task c.args.first.now c.args.second.now) answer) (sym c.answer_of.ensures)
    (task-caused files out c.args.task c.args.first c.args.second c.in-Ok.texts.first c.in-Ok.texts.second
    c.in-Ok.ensures.found says c.put_output-done.result
    (rw (c.bytes.ensures, c.bytes-2.ensures) at c.put_output-done.ensures))

pub returns-clause-written : goal.returns-clause-written
returns-clause-written g c =
    let files = files_in g.S.Shelf.held g.S.Shelf.steady g.S.Shelf.faults g.S.Shelf.overlong c.args.shelf.now c.fetch_both.new.shelf in
    let out = stream_in g.K.Sink.taken g.K.Sink.faults c.args.out.now c.put_output-done.new.out in
    let says = subst (λ (word : PlanWord). IsPlanText files.held word c.in-Ok.texts.second) c.table.ensures c.in-Ok.ensures.says in
    subst (λ (answer : Answer). HasWritten files out (command_of c.args.task c.args.first.now c.args.second.now) answer) (sym c.answer_of.ensures)
    (task-written files out c.args.task c.args.first c.args.second c.in-Ok.texts.first c.in-Ok.texts.second
    c.in-Ok.ensures.found says c.put_output-done.result
    (rw (c.bytes.ensures, c.bytes-2.ensures) at c.put_output-done.ensures))
