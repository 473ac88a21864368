use Rattle.std.proofs.Common.{◌≡◌, ◌<◌, ◌+◌, ◌%◌, ℕ, [], ◌∷◌, length, slice_index, slice_index_or, ap, ◌∙◌, arith}
use Rattle.std.proofs.lemmas.List.{length-append}
use Rattle.std.proofs.lemmas.Nat.{mod_below}
use Rattle.vl_check.specs.Scope.{names_in}
use Rattle.vl_check.proofs.CycleNames.{turned-more}
use Rattle.vl_check.proofs.ordering.turned_names.Goals as goal

pub nonzero_rem-at : goal.nonzero_rem-at
nonzero_rem-at c = let at = c.requires.at in omega (arith, at)

pub overflow_add-at : goal.overflow_add-at
overflow_add-at c =
    let at = c.requires.at in
    let here : c.loop-i.i < length c.args.cycle.now = c.loop-i-test.true in
    omega arith

pub bounds-cycle-at : goal.bounds-cycle-at
bounds-cycle-at c = let at = c.requires.at in mod_below (c.args.at + c.loop-i.i) (length c.args.cycle.now) (omega (arith, at))

pub offset_bounds-cycle-at : goal.offset_bounds-cycle-at
offset_bounds-cycle-at c =
    let at = c.requires.at in
    let below = mod_below (c.args.at + c.loop-i.i) (length c.args.cycle.now) (omega (arith, at)) in
    omega arith

pub name-name-requires : goal.name-name-requires
name-name-requires c =
    let at = c.requires.at in
    c.requires.within ((c.args.at + c.loop-i.i) % length c.args.cycle.now) (mod_below (c.args.at + c.loop-i.i) (length c.args.cycle.now) (omega (arith, at)))

pub loop-i-init : goal.loop-i-init
loop-i-init c = record {
  long = ap length c.new-names.ensures;
  each = λ k d below. absurd (omega (arith, below));
}

pub loop-i-preserved : goal.loop-i-preserved
loop-i-preserved c =
    let cycle = c.args.cycle.now in
    let names = names_in c.args.scope.now in
    let old = c.loop-i.invariant in
    let grown = c.in_ok-push.ensures.appended in
    let count = length-append c.loop-i.names (c.in_ok-copy.field-0 ∷ []) in
    record {
      long = ap length grown ∙ count ∙ ap (λ (n : ℕ). n + 1) old.long;
      each = turned-more c.loop-i.names c.push.new.self c.in_ok-copy.field-0 (λ k. slice_index_or names (slice_index cycle ((c.args.at + k) % length cycle)) []) c.loop-i.i grown
          (c.in_ok-copy.ensures ∙ c.name-name.ensures) old.long old.each;
    }

pub loop-i-smaller : goal.loop-i-smaller
loop-i-smaller c = let here : c.loop-i.i < length c.args.cycle.now = c.loop-i-test.true in omega (arith, here)

pub returns : goal.returns
returns c =
    let past = c.loop-i-test.false in
    let within = c.loop-i.auto.i-end in
    let all : c.loop-i.i ≡ length c.args.cycle.now = omega (arith, past, within) in
    record {
      long = c.loop-i.invariant.long ∙ all;
      each = λ k d below. c.loop-i.invariant.each k d (omega (arith, all, below));
    }
