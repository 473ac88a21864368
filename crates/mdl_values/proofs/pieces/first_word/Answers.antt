use Rattle.std.proofs.Common.{◌∙◌, ◌∷◌, ◌<◌, take, ap, sym, arith}
use Rattle.std.specs.List.{prefix_len}
use Rattle.mdl_values.specs.Pieces.{words_of, is_solid}
use Rattle.mdl_values.proofs.WordLemmas.{words_unblanked, no_word, front_goes_on, front_word}
use Rattle.mdl_values.proofs.pieces.first_word.Goals as goal

pub returns-then-end-eq0-clause-words : goal.returns-then-end-eq0-clause-words
returns-then-end-eq0-clause-words c =
    let none = sym (ap (prefix_len is_solid) c.trim_start-solid.ensures.value) ∙ sym c.run_length-end.ensures.value ∙ c.if-end-eq0.true in
    sym (words_unblanked c.args.text.now) ∙ ap words_of (no_word c.args.text.now none)

pub returns-else-end-eq0-clause-words : goal.returns-else-end-eq0-clause-words
returns-else-end-eq0-clause-words c =
    let some : 0 < prefix_len is_solid c.trim_start-solid.result.now = omega (arith, c.run_length-end.ensures.value) in
    sym (words_unblanked c.args.text.now)
    ∙ sym (ap words_of c.trim_start-solid.ensures.value)
    ∙ front_word c.trim_start-solid.result.now c.run_length-end.result c.run_length-end.ensures.value (front_goes_on c.trim_start-solid.result.now some)
    ∙ ap (λ back. take c.run_length-end.result c.trim_start-solid.result.now ∷ words_of back) (sym c.split_at.ensures.back)
    ∙ ap (λ front. front ∷ words_of c.split_at.result.1.now) (sym c.split_at.ensures.front)
