use Rattle.std.proofs.Common.{◌≡◌, ◌+◌, ◌-◌, ◌/◌, ◌^◌, ap, ◌∙◌, arith, sym, ℕ}
use Rattle.math_num.proofs.Words.{mask-suc}
use Rattle.fx_round.proofs.split.mask.Goals as goal

pub returns : goal.returns
returns c =
    let e : 128 - c.args.by + c.args.by ≡ 128 = omega (arith, c.requires.near) in
    ap (λ (n : ℕ). (2 ^ n - 1) / 2 ^ (128 - c.args.by) + 1) (sym e) ∙ mask-suc (128 - c.args.by) c.args.by
