use Rattle.std.proofs.Common.{sym, ◌∙◌, true≢false}
use Rattle.mdl_values.proofs.PeriodLemmas.{not_above}
use Rattle.mdl_values.proofs.periods.above_zero.Goals as goal

pub returns-else-is_above : goal.returns-else-is_above
returns-else-is_above c = not_above c.args.text.now c.in-Some.value c.in-Some.ensures (λ is. true≢false (sym (c.is_above.ensures.1 is) ∙ c.if-is_above.false))

pub returns-in-None : goal.returns-in-None
returns-in-None c = λ period above. c.in-None.ensures period above.read
