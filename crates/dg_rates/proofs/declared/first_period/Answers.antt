use Rattle.std.proofs.Common.{Some, sym, ap, ◌∙◌}
use Rattle.dg_model.specs.Periods.{units_of}
use Rattle.dg_rates.specs.inner.Above.{first_in}
use Rattle.dg_rates.proofs.OneUnit.{some_zeros}
use Rattle.dg_rates.proofs.BasePeriods.{times_are}
use Rattle.dg_rates.proofs.declared.first_period.Goals as goal

pub returns-in-Some-clause-known : goal.returns-in-Some-clause-known
returns-in-Some-clause-known c =
    let base = units_of c.args.base in
    let times = times_are (units_of c.in-Every.period) base c.in-Some.times (some_zeros c.args.base.digits _ c.requires.base) c.in-Some.ensures.some in
    ap (λ n. Some (Some n)) (sym times) ∙ sym (ap (first_in base c.args.block.now.kind) c.in-Every.is)
