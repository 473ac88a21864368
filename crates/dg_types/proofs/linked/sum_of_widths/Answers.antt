use Rattle.std.proofs.Common.{◌≡◌, ℕ, ◌+◌, List, [], drop, min, sum, zero-add, ap, subst, arith}
use Rattle.std.proofs.lemmas.List.{drop_all}
use Rattle.dg_types.specs.declared.linked.Source.{Source}
use Rattle.dg_types.specs.inner.Widths.{source_widths}
use Rattle.dg_types.proofs.linked.sum_of_widths.Goals as goal

pub bounds-values-source : goal.bounds-values-source
bounds-values-source c = c.requires.there c.loop-source.source-index _ c.loop-source-test.true

pub width_through-width-requires-clause-small : goal.width_through-width-requires-clause-small
width_through-width-requires-clause-small c = c.requires.small _ _ (c.requires.there c.loop-source.source-index _ c.loop-source-test.true)

pub width_through-width-requires-clause-some : goal.width_through-width-requires-clause-some
width_through-width-requires-clause-some c = c.requires.some c.loop-source.source-index _ c.loop-source-test.true

pub loop-source-init : goal.loop-source-init
loop-source-init c = record { left = ap (λ (n : ℕ). min 1025 n) (zero-add (sum (source_widths c.args.values.now c.args.sources.now))); small = omega arith }

pub returns : goal.returns
returns c =
    let values = c.args.values.now in
    let sources = c.args.sources.now in
    let whole = min 1025 (sum (source_widths values sources)) in
    let none : drop c.loop-source.source-index sources ≡ [] = drop_all c.loop-source.source-index sources c.loop-source-test.false in
    let left : min 1025 (c.loop-source.together + 0) ≡ whole =
    subst (λ (rest : List Source). min 1025 (c.loop-source.together + sum (source_widths values rest)) ≡ whole) none c.loop-source.invariant.left in
    omega (arith, left, c.loop-source.invariant.small)
