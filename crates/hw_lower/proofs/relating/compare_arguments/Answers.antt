use Rattle.std.proofs.Common.{◌≡◌, sym, subst, arith}
use Rattle.fx_type.specs.declared.kind.FxType.{FxType}
use Rattle.fx_type.specs.FxType.{InRange}
use Rattle.fx_type.specs.FullType.{IsUnion}
use Rattle.dg_model.specs.Operation.{compares_values, stored_truth, type_of, value_of}
use Rattle.hw_lower.specs.inner.Spread.{OfArguments, argument_of}
use Rattle.hw_lower.proofs.PlanSteps.{at-later}
use Rattle.hw_lower.proofs.StepChains.{made-both, made-then}
use Rattle.hw_lower.proofs.Unions.{IsHolder, union-holds, holder-left, holder-right, compared-is}
use Rattle.dg_model.proofs.SumTerms.{found-ok}
use Rattle.hw_lower.proofs.relating.compare_arguments.Goals as goal
use Rattle.hw_lower.proofs.relating.compare_arguments.Goals.{After-unwrap-both}

holder : (c : After-unwrap-both) → IsHolder (type_of c.args.types.now 0) (type_of c.args.types.now 1) c.unwrap-both.result
holder c = union-holds (type_of c.args.types.now 0) (type_of c.args.types.now 1) c.unwrap-both.result
    (c.requires.types 0 _ (omega (arith, c.requires.two))) (rw c.unwrap-both.ensures at c.union.ensures.ok)

pub unwrap-both-requires : goal.unwrap-both-requires
unwrap-both-requires c = found-ok (IsUnion (type_of c.args.types.now 0) (type_of c.args.types.now 1)) c.union.result c.union.ensures.too_wide c.requires.union

pub widen-left-requires : goal.widen-left-requires
widen-left-requires c =
    let is = holder (goal.at.widen-left-requires c).After-unwrap-both in
    let at = c.requires.arguments.each 0 (omega (arith, c.requires.two)) in
    rw c.side_of-one.ensures (record {
      at = at;
      kind = c.requires.types 0 _ (omega (arith, c.requires.two));
      valid =
          is.valid;
      above = holder-left (type_of c.args.types.now 0)
          (type_of c.args.types.now 1) c.unwrap-both.result is;
      holds = is.left;
    })

pub widen-right-requires : goal.widen-right-requires
widen-right-requires c =
    let is = holder (goal.at.widen-right-requires c).After-unwrap-both in
    let at = at-later _ _ (argument_of c.args.types.now 1) c.widen-left.ensures.grows (c.requires.arguments.each 1 (omega (arith, c.requires.two))) in
    rw c.side_of-other.ensures (record {
      at = at;
      kind =
          c.requires.types 1 _ (omega (arith, c.requires.two));
      valid = is.valid;
      above =
          holder-right (type_of c.args.types.now 0) (type_of c.args.types.now 1) c.unwrap-both.result is;
      holds =
          is.right;
    })

pub compare-requires-clause-one : goal.compare-requires-clause-one
compare-requires-clause-one c = at-later _ _ c.widen-left.result c.widen-right.ensures.grows c.widen-left.ensures.at

pub returns : goal.returns
returns c =
    let a : FxType = type_of c.args.types.now 0 in
    let b : FxType = type_of c.args.types.now 1 in
    made-then (λ numbers. OfArguments c.args.types.now numbers
    (λ values. numbers c.compare.result.place
    ≡ stored_truth (compares_values c.args.operator (type_of c.args.types.now 0)
    (type_of c.args.types.now 1) (value_of values 0) (value_of values 1))))
    (made-both (rw c.side_of-one.ensures at c.widen-left.ensures)
    (rw c.side_of-other.ensures at c.widen-right.ensures)) c.compare.ensures
    (λ numbers has later p q values are.
    let x : numbers 0 ≡ value_of values 0 = are.each 0 (omega (arith, c.requires.two)) in
    let y : numbers 1 ≡ value_of values 1 = are.each 1 (omega (arith, c.requires.two)) in
    let first : InRange a (numbers 0) = subst (InRange a) (sym x) (are.in_range.in_range 0 (omega (arith, c.requires.two))) in
    let second : InRange b (numbers 1) = subst (InRange b) (sym y) (are.in_range.in_range 1 (omega (arith, c.requires.two))) in
    compared-is c.args.operator a b c.unwrap-both.result (numbers 0) (numbers 1) (value_of values 0)
    (value_of values 1) (numbers c.widen-left.result.place) (numbers c.widen-right.result.place)
    (numbers c.compare.result.place)
    (holder (goal.at.returns c).After-unwrap-both) (p.0 first) (p.1 second) x y q)
