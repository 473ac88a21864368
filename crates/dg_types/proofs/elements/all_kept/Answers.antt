use Rattle.std.proofs.Common.{◌≡◌, ℕ, ◌+◌, ◌-◌, ◌^◌, ◌<◌, ◌≤◌, List, [], length, min, drop, zero-add, refl, ap, ◌∙◌, arith}
use Rattle.std.proofs.lemmas.List.{at_drop_all}
use Rattle.dg_model.specs.declared.diagram.Block.{Block}
use Rattle.dg_types.specs.inner.Elements.{outputs_from, delays_from}
use Rattle.dg_types.proofs.elements.all_kept.Goals as goal

-- at the end of the blocks what was added up is the whole
at_end : (from : ℕ → List Block → ℕ) (total place : ℕ) (blocks : List Block) → from place [] ≡ 0 → length blocks ≤ place → total < 2 ^ 64
    → min (2 ^ 64 - 1) (total + from place (drop place blocks)) ≡ min (2 ^ 64 - 1) (from 0 blocks) → total ≡ min (2 ^ 64 - 1) (from 0 blocks)
at_end from total place blocks none end fits left =
    let rest : from place (drop place blocks) ≡ 0 = at_drop_all (from place) blocks place end ∙ none in
    omega (arith, rest, fits, left)

pub loop-place-init : goal.loop-place-init
loop-place-init c =
    let widths = c.args.widths.now in
    let blocks = c.args.blocks.now in
    record {
      outputs = ap (λ (n : ℕ). min (2 ^ 64 - 1) n) (zero-add (outputs_from widths 0 blocks));
      fit = omega arith;
      delayed = ap (λ (n : ℕ). min (2 ^ 64 - 1) n) (zero-add (delays_from widths 0 blocks));
      kept_fit = omega arith;
    }

pub returns-clause-outputs : goal.returns-clause-outputs
returns-clause-outputs c =
    at_end (outputs_from c.args.widths.now) c.loop-place.outputs c.loop-place.place c.args.blocks.now refl c.loop-place-test.false c.loop-place.invariant.fit c.loop-place.invariant.outputs

pub returns-clause-delayed : goal.returns-clause-delayed
returns-clause-delayed c =
    at_end (delays_from c.args.widths.now) c.loop-place.kept c.loop-place.place c.args.blocks.now refl c.loop-place-test.false c.loop-place.invariant.kept_fit c.loop-place.invariant.delayed
