use Rattle.std.proofs.Common.{◌≡◌, Option, Some, refl, ap, sym, subst, ◌∙◌}
use Rattle.std.specs.Option.{option_map}
use Rattle.fx_top.specs.declared.answer.Answer.{Answer}
use Rattle.fx_top.specs.declared.answer.Answer.TheVariants.{Usage}
use Rattle.fx_top.specs.declared.command.Command.{Command as CommandOf}
use Rattle.fx_top.specs.Call.{Files, Stream, files_in, stream_in}
use Rattle.fx_top.specs.Caused.{IsCarriedOut}
use Rattle.fx_top.specs.Command.{Asked}
use Rattle.fx_top.specs.inner.FileCommands.{named}
use Rattle.fx_top.proofs.top.carry_out.Goals as goal

-- what is right for the command that was read of the words is right for what they ask for
as_asked : (files : Files) (out : Stream) (found command : Option CommandOf) (asked : Option Asked)
    (answer : Answer) → found ≡ command → option_map named found ≡ asked
    → IsCarriedOut files out (option_map named command) answer → IsCarriedOut files out asked answer
as_asked files out found command asked answer is names done = subst (λ (a : Option Asked). IsCarriedOut files out a answer) (ap (option_map named) (sym is) ∙ names) done

pub returns-in-None : goal.returns-in-None
returns-in-None g c =
    as_asked (files_in g.S.Shelf.held g.S.Shelf.steady g.S.Shelf.faults g.S.Shelf.overlong c.args.shelf.now c.args.shelf.now) (stream_in g.K.Sink.taken g.K.Sink.faults c.args.out.now c.args.out.now)
    c.of_words.result _ _ Usage c.in-None.is c.of_words.ensures.is (refl, refl)

pub returns-in-Some-OverFiles : goal.returns-in-Some-OverFiles
returns-in-Some-OverFiles g c =
    as_asked (files_in g.S.Shelf.held g.S.Shelf.steady g.S.Shelf.faults g.S.Shelf.overlong c.args.shelf.now
    c.over_files.new.shelf) (stream_in g.K.Sink.taken g.K.Sink.faults c.args.out.now c.over_files.new.out)
    c.of_words.result _ _ c.over_files.result (c.in-Some-OverFiles.is ∙ ap Some c.in-Some-OverFiles.field-0-is) c.of_words.ensures.is (c.over_files.ensures.cause, c.over_files.ensures.written)

pub returns-in-Some-Sample : goal.returns-in-Some-Sample
returns-in-Some-Sample g c =
    as_asked (files_in g.S.Shelf.held g.S.Shelf.steady g.S.Shelf.faults g.S.Shelf.overlong c.args.shelf.now
    c.args.shelf.now) (stream_in g.K.Sink.taken g.K.Sink.faults c.args.out.now c.replayed_sample.new.out)
    c.of_words.result _ _ c.replayed_sample.result
    (c.in-Some-Sample.is ∙ ap Some c.in-Some-Sample.field-0-is) c.of_words.ensures.is
    (c.replayed_sample.ensures.cause, c.replayed_sample.ensures.written)

pub returns-in-Some-Flatten : goal.returns-in-Some-Flatten
returns-in-Some-Flatten g c =
    as_asked (files_in g.S.Shelf.held g.S.Shelf.steady g.S.Shelf.faults g.S.Shelf.overlong c.args.shelf.now
    c.flatten.new.shelf) (stream_in g.K.Sink.taken g.K.Sink.faults c.args.out.now c.flatten.new.out)
    c.of_words.result _ _ c.flatten.result (c.in-Some-Flatten.is ∙ ap Some c.in-Some-Flatten.field-0-is) c.of_words.ensures.is (c.flatten.ensures.cause, c.flatten.ensures.written)
