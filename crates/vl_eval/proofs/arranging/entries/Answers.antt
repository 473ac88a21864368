use Rattle.std.proofs.Common.{◌≡◌, ◌<◌, ◌+◌, ◌*◌, ◌^◌, ◌++◌, ◌∷◌, [], length, take, sym, ap, subst, ◌∙◌, arith}
use Rattle.std.proofs.lemmas.List.{get_or_default, length-take-le, take_all, take_more}
use Rattle.vl_eval.specs.declared.ops.Op.TheVariants.{Constant}
use Rattle.vl_eval.specs.inner.Order.{AreEntered, AreLow, IsAbove, each_of}
use Rattle.vl_eval.proofs.SortOrder.{entered-more, entered-none, reads-levelled}
use Rattle.vl_eval.proofs.arranging.entries.Goals as goal

pub level_of-level-requires-clause-within : goal.level_of-level-requires-clause-within
level_of-level-requires-clause-within c =
    let ops = c.args.ops.now in
    let k = c.loop-number.number in
    let below : k < length ops = omega (arith, c.loop-number-test.true, c.len-number-end.ensures) in
    let op = c.get-op.result in
    reads-levelled c.args.base ops c.as_slice.result.now k op c.requires.ordered below
    (ap length c.as_slice.ensures.value ∙ c.loop-number.invariant.levels_long
    ∙ length-take-le k ops (omega (arith, below)))
    (c.get-op.ensures ∙ get_or_default ops k (Constant 0) op below)

pub level_of-level-requires-clause-low : goal.level_of-level-requires-clause-low
level_of-level-requires-clause-low c = subst (λ xs. AreLow xs) (sym c.as_slice.ensures.value) c.loop-number.invariant.low

pub entry_of-requires-clause-level : goal.entry_of-requires-clause-level
entry_of-requires-clause-level c =
    let ops = c.args.ops.now in
    let k = c.loop-number.number in
    let below : k < length ops = omega (arith, c.loop-number-test.true, c.len-number-end.ensures) in
    let long = length-take-le k ops (omega (arith, below)) in
    let levels = ap length c.as_slice.ensures.value ∙ c.loop-number.invariant.levels_long ∙ long in
    omega (arith, c.level_of-level.ensures.low, levels, below, c.requires.few)

pub entry_of-requires-clause-number : goal.entry_of-requires-clause-number
entry_of-requires-clause-number c = omega (arith, c.loop-number-test.true, c.len-number-end.ensures, c.requires.few)

pub loop-number-init : goal.loop-number-init
loop-number-init c =
    subst (λ ls. AreEntered c.args.base [] ls c.new-entries.result.items) (sym c.new-levels.ensures.items)
    (subst (λ es. AreEntered c.args.base [] [] es) (sym c.new-entries.ensures.items) (entered-none c.args.base))

pub loop-number-preserved : goal.loop-number-preserved
loop-number-preserved c =
    let base = c.args.base in
    let ops = c.args.ops.now in
    let k = c.loop-number.number in
    let below : k < length ops = omega (arith, c.loop-number-test.true, c.len-number-end.ensures) in
    let op = c.get-op.result in
    let more : take (k + 1) ops ≡ take k ops ++ op ∷ [] = take_more ops k (Constant 0) below ∙ ap (λ o. take k ops ++ o ∷ []) (sym c.get-op.ensures) in
    let level = c.level_of-level.result in
    let long : length (take k ops) ≡ k = length-take-le k ops (omega (arith, below)) in
    let small = c.level_of-level.ensures.low in
    let levels = ap length c.as_slice.ensures.value in
    let above = subst (λ xs. each_of (IsAbove base xs level) op) c.as_slice.ensures.value c.level_of-level.ensures.above in
    subst (λ os. AreEntered base os c.push.new.self.items c.push-in-loop-number.new.self.items) (sym more)
    (subst (λ ls. AreEntered base (take k ops ++ op ∷ []) ls c.push-in-loop-number.new.self.items) (sym c.in_ok-push.ensures.items)
    (subst (λ es. AreEntered base (take k ops ++ op ∷ []) (c.loop-number.levels.items ++ level ∷ []) es) (sym c.in_ok-push-2.ensures.items)
    (entered-more base (take k ops) op c.loop-number.levels.items c.loop-number.entries.items level c.kind_of.result c.entry_of.result c.kind_of.ensures
    (c.entry_of.ensures ∙ ap (λ n. (level * 32 + c.kind_of.result) * 2 ^ 29 + n) (sym long)) (omega (arith, small, levels)) above c.loop-number.invariant)))

pub returns : goal.returns
returns c = record {
  levels = c.loop-number.levels.items;
  are = subst (λ os. AreEntered c.args.base os c.loop-number.levels.items c.loop-number.entries.items)
      (take_all c.loop-number.number c.args.ops.now
      (omega (arith, c.loop-number-test.false, c.len-number-end.ensures))) c.loop-number.invariant;
}
