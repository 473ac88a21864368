use Rattle.std.proofs.Common.{true, false, not, ap, arith}
use Rattle.std.specs.List.{prefix_len}
use Rattle.std.proofs.lemmas.List.{at_drop_all}
use Rattle.std.proofs.lemmas.Bool.{eq-eqb, ne_eqb}
use Rattle.mdl_values.specs.Pieces.{is_other}
use Rattle.mdl_text.proofs.Scans.{prefix_here}
use Rattle.mdl_values.proofs.pieces.piece_length.Goals as goal

pub loop-i-preserved : goal.loop-i-preserved
loop-i-preserved c = omega (
  arith,
  c.loop-i.invariant,
  prefix_here (is_other c.args.separator) c.args.text.now c.loop-i.i true c.loop-i-test.true
      (ap not (ne_eqb _ c.args.separator c.if-byte-separator.false)),
)

pub returns-then-byte-separator-clause-value : goal.returns-then-byte-separator-clause-value
returns-then-byte-separator-clause-value c =
    omega (
      arith,
      c.loop-i.invariant,
      prefix_here
          (is_other c.args.separator) c.args.text.now c.loop-i.i false c.loop-i-test.true
          (ap not (eq-eqb _ c.args.separator c.if-byte-separator.true)),
    )

pub returns-clause-value : goal.returns-clause-value
returns-clause-value c = omega (
  arith,
  c.loop-i.invariant,
  at_drop_all (prefix_len (is_other c.args.separator)) c.args.text.now c.loop-i.i c.loop-i-test.false,
  c.loop-i-test.false,
  c.loop-i.auto.i-end,
)
