use Rattle.std.proofs.Common.{◌≡◌, ℕ, length, map, take, ap, subst, ◌∙◌, arith, le_refl}
use Rattle.std.proofs.lemmas.List.{take_all}
use Rattle.dg_sim.specs.Program.{value_at}
use Rattle.dg_sim.proofs.giving.gather.Goals as goal

pub returns : goal.returns
returns c =
    let args = c.args.args.now in
    let all : c.loop-i.i ≡ length args = omega (arith, c.loop-i-test.false, c.loop-i.auto.i-end) in
    subst (λ (n : ℕ). take n c.loop-i.inputs ≡ map (value_at c.args.row.now) (take n args)) all c.loop-i.invariant
    ∙ ap (map (value_at c.args.row.now)) (take_all (length args) args (le_refl (length args)))
