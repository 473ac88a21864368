use Rattle.std.proofs.Common.{◌≡◌, ℕ, Bool, true, false, not, sym, ap, ◌∙◌, arith}
use Rattle.std.specs.Bool.{beq}
use Rattle.std.specs.List.{prefix_len}
use Rattle.std.proofs.lemmas.Bool.{not-false, not-true}
use Rattle.std.proofs.lemmas.List.{at_drop_all}
use Rattle.mdl_text.proofs.Scans.{prefix_here}
use Rattle.mdl_values.specs.Pieces.{is_solid}
use Rattle.mdl_values.specs.inner.Runs.{is_of}
use Rattle.mdl_values.proofs.pieces.run_length.Goals as goal

-- a byte is of a sort where it is as solid as that
of_sort : (solid own other : Bool) (byte : ℕ) → own ≡ is_solid byte → not (beq own solid) ≡ other → is_of solid byte ≡ not other
of_sort true true other byte is test = sym is ∙ ap not test
of_sort true false other byte is test = sym is ∙ ap not test
of_sort false true other byte is test = not-true _ (sym is) ∙ ap not test
of_sort false false other byte is test = not-false _ (sym is) ∙ ap not test

pub loop-i-preserved : goal.loop-i-preserved
loop-i-preserved c = omega (
  arith,
  c.loop-i.invariant,
  prefix_here (is_of c.args.solid) c.args.text.now c.loop-i.i true c.loop-i-test.true
      (of_sort c.args.solid c.is_solid.result false _ c.is_solid.ensures c.if-is_solid-solid.false),
)

pub returns-then-is_solid-solid-clause-value : goal.returns-then-is_solid-solid-clause-value
returns-then-is_solid-solid-clause-value c =
    omega (
      arith,
      c.loop-i.invariant,
      prefix_here
          (is_of c.args.solid) c.args.text.now c.loop-i.i false c.loop-i-test.true
          (of_sort c.args.solid c.is_solid.result true _ c.is_solid.ensures c.if-is_solid-solid.true),
    )

pub returns-clause-value : goal.returns-clause-value
returns-clause-value c = omega (arith, c.loop-i.invariant, at_drop_all (prefix_len (is_of c.args.solid)) c.args.text.now c.loop-i.i c.loop-i-test.false, c.loop-i-test.false, c.loop-i.auto.i-end)
