use Rattle.std.proofs.Common.{◌^◌, ℤ}
use Rattle.fx_type.specs.declared.kind.FxType.TheVariants.{Num}
use Rattle.fx_type.specs.Conversion.{StoresQuotient}
use Rattle.hw_lower.proofs.StepChains.{made-then}
use Rattle.hw_lower.proofs.Conversions.{stores-whole}
use Rattle.hw_lower.proofs.settling.settle_quotient.Goals as goal

pub returns : goal.returns
returns c =
    made-then (λ numbers. (frac : ℤ) → StoresQuotient (numbers c.args.from.place) (2 ^ c.args.by)
    (Num c.args.word.signed c.args.word.width frac) c.args.mode c.args.saturate (numbers c.settle.result.place))
    c.round-whole.ensures c.settle.ensures
    (λ numbers has later p q frac. stores-whole (numbers c.args.from.place) (numbers c.round-whole.result.place)
    (2 ^ c.args.by) c.args.word.signed c.args.word.width frac c.args.mode c.args.saturate
    (numbers c.settle.result.place) p (q frac))
