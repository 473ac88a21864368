use Rattle.std.proofs.Common.{◌≡◌, ◌++◌, ◌∷◌, [], sym, ◌∙◌, arith}
use Rattle.std.proofs.lemmas.Result.{on_ok_weaker}
use Rattle.hw_lines.proofs.ChainLines.{known-end, new-end}
use Rattle.hw_lines.proofs.lines.end_at.Goals as goal

pub reader_of-reader-requires : goal.reader_of-reader-requires
reader_of-reader-requires c = omega (arith, c.requires.early, c.requires.use_is.near)

pub returns-in-Some : goal.returns-in-Some
returns-in-Some c =
    let known = rw c.reader_of-reader.ensures at (sym c.find.ensures ∙ c.in-Some.is) in
    on_ok_weaker c.push.result
    (λ (put : c.push.new.self ≡ c.args.answers.now ++ c.in-Some.number ∷ []). known-end c.args.net.now c.args.source
    c.args.taps.now c.args.ends.now c.args.answers.now c.push.new.self c.args.one c.in-Some.number known put)
    c.push.ensures.appended

pub end_of-requires : goal.end_of-requires
end_of-requires c = c.requires

pub returns : goal.returns
returns c =
    let none = rw c.reader_of-reader.ensures at (sym c.find.ensures ∙ c.in_default.is) in
    on_ok_weaker c.push-2.result
    (λ (put : c.push-2.new.self ≡ c.args.answers.now ++ c.in_ok-number.number ∷ []). record {
      number = c.in_ok-number.number;
      end = new-end c.args.net.now c.end_of.new.net c.args.source c.args.taps.now _ c.args.one c.in_ok-number.number none c.in_ok-number.ensures.end c.in_ok-number.ensures.ends;
      put = rw c.reader_of-reader.ensures at c.in_ok-put.ensures.found;
      answers_are = put;
    })
    c.push-2.ensures.appended
