use Rattle.std.proofs.Common.{FitsSigned, arith, rules}
use Rattle.std.specs.Int.{w128}
use Rattle.std.proofs.lemmas.Int.{ints}
use Rattle.fx_round.specs.declared.split.Part.TheVariants.{BelowHalf, Half, AboveHalf}
use Rattle.fx_round.specs.inner.Parts.{IsPart}
use Rattle.fx_round.proofs.Sizes.{mirror_split, mirror_whole}
use Rattle.fx_round.proofs.stored.negation.Goals as goal

pub returns-in-BelowHalf-clause-split : goal.returns-in-BelowHalf-clause-split
returns-in-BelowHalf-clause-split c n d s =
    let f : FitsSigned w128 c.args.split.floor = search rules in
    let p : IsPart d s.rest BelowHalf = rw c.in-BelowHalf.is at s.is_part in
    mirror_split n c.args.split.floor _ d c.args.split.part AboveHalf (omega (arith, ints, f, c.requires)) s p.0 (omega (arith, p.0, p.1))

pub returns-in-AboveHalf-clause-split : goal.returns-in-AboveHalf-clause-split
returns-in-AboveHalf-clause-split c n d s =
    let f : FitsSigned w128 c.args.split.floor = search rules in
    let p : IsPart d s.rest AboveHalf = rw c.in-AboveHalf.is at s.is_part in
    mirror_split n c.args.split.floor _ d c.args.split.part BelowHalf (omega (arith, ints, f, c.requires)) s (omega (arith, p, s.below)) (omega (arith, s.below), omega (arith, p, s.below))

pub returns-in-Half-clause-split : goal.returns-in-Half-clause-split
returns-in-Half-clause-split c n d s =
    let f : FitsSigned w128 c.args.split.floor = search rules in
    let p : IsPart d s.rest Half = rw c.in-Half.is at s.is_part in
    mirror_split n c.args.split.floor _ d c.args.split.part Half (omega (arith, ints, f, c.requires)) s (omega (arith, p, s.below)) (omega (arith, p, s.below))

pub returns-in-Whole-clause-split : goal.returns-in-Whole-clause-split
returns-in-Whole-clause-split c n d s =
    let f : FitsSigned w128 c.args.split.floor = search rules in
    mirror_whole n c.args.split.floor _ d (omega (arith, ints, f, c.requires)) (rw c.in-Whole.is at s)
