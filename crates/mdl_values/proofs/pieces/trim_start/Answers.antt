use Rattle.std.proofs.Common.{◌∙◌, drop, ap}
use Rattle.std.proofs.lemmas.List.{take_rest}
use Rattle.mdl_values.proofs.WordLemmas.{unblanked_is}
use Rattle.mdl_values.proofs.pieces.trim_start.Goals as goal

pub returns-clause-value : goal.returns-clause-value
returns-clause-value c =
    take_rest c.args.text.now c.run_length.result
    ∙ ap (λ n. drop n c.args.text.now) c.run_length.ensures.value
    ∙ unblanked_is c.args.text.now
