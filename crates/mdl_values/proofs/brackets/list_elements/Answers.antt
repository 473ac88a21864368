use Rattle.std.proofs.Common.{◌∙◌, sym}
use Rattle.mdl_values.proofs.BracketLemmas.{list_alone}
use Rattle.mdl_values.proofs.brackets.list_elements.Goals as goal

pub returns-then-not-opens : goal.returns-then-not-opens
returns-then-not-opens c =
    list_alone c.args.text.now c.trim_start-text.result.now c.alone.result c.trim_start-text.ensures.value (sym c.opens.ensures ∙ c.if-not-opens.true) c.alone.ensures
