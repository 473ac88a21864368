-- The 128 set bits, shifted down, are those of the width.
use Rattle.std.proofs.Common.{◌≡◌, ◌+◌, ◌-◌, ◌/◌, ◌^◌, ap, ◌∙◌, arith, sym, ℕ}
use Rattle.math_num.proofs.Words.{mask-suc}
use Rattle.fx_num.proofs.word.mask.Goals as goal

pub returns : goal.returns
returns c =
    let e : 128 - c.args.width + c.args.width ≡ 128 = omega arith in
    ap (λ (n : ℕ). (2 ^ n - 1) / 2 ^ (128 - c.args.width) + 1) (sym e) ∙ mask-suc (128 - c.args.width) c.args.width
