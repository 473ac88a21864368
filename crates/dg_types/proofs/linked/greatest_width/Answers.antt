use Rattle.std.proofs.Common.{◌≡◌, List, [], drop, max, refl, subst, arith}
use Rattle.std.proofs.lemmas.List.{drop_all}
use Rattle.math_list.specs.Numbers.{greatest}
use Rattle.dg_types.specs.declared.linked.Source.{Source}
use Rattle.dg_types.specs.inner.Widths.{source_widths}
use Rattle.dg_types.proofs.linked.greatest_width.Goals as goal

pub bounds-values-source : goal.bounds-values-source
bounds-values-source c = c.requires.there c.loop-source.source-index _ c.loop-source-test.true

pub width_through-requires-clause-small : goal.width_through-requires-clause-small
width_through-requires-clause-small c = c.requires.small _ _ (c.requires.there c.loop-source.source-index _ c.loop-source-test.true)

pub width_through-requires-clause-some : goal.width_through-requires-clause-some
width_through-requires-clause-some c = c.requires.some c.loop-source.source-index _ c.loop-source-test.true

pub loop-source-init : goal.loop-source-init
loop-source-init c = refl

pub returns : goal.returns
returns c =
    let values = c.args.values.now in
    let sources = c.args.sources.now in
    let whole = max c.args.least (greatest (source_widths values sources)) in
    let none : drop c.loop-source.source-index sources ≡ [] = drop_all c.loop-source.source-index sources c.loop-source-test.false in
    let left : max c.loop-source.most 0 ≡ whole = subst (λ (rest : List Source). max c.loop-source.most (greatest (source_widths values rest)) ≡ whole) none c.loop-source.invariant in
    omega (arith, left)
