use Rattle.std.proofs.Common.{◌≡◌, ◌*◌, ◌^◌, ◌<◌}
use Rattle.fx_round.specs.inner.Parts.{mixed_count}
use Rattle.fx_round.proofs.stored.power_product.Given as goal

abbrev pub invariant-loop-done : goal.invariant-loop-done
invariant-loop-done l = record {
  count : mixed_count l.mixed l.unit ≡ mixed_count l.fn.number l.unit * 2 ^ l._done;
  whole : l.mixed.whole < 2 ^ 127;
  rest : l.mixed.rest < l.unit;
}
