use Rattle.std.proofs.Common.{arith, refl}
use Rattle.vl_eval.specs.inner.Order.{moved_capture}
use Rattle.vl_eval.proofs.SortOrder.{map-same}
use Rattle.vl_eval.proofs.arranging.arrange.Goals as goal

pub returns-then-len-gt-MOST : goal.returns-then-len-gt-MOST
returns-then-len-gt-MOST c = record {
  move = λ k. k;
  fixed = λ k low. refl;
  within = λ k high low. (high, low);
  few = omega arith;
  ordered = c.requires;
  settled = λ values s. s;
  slots_are = map-same (λ k. k) c.args.built.slots.items (λ k. refl);
  captures_are = map-same (moved_capture (λ k. k)) c.args.built.captures.items (λ k. refl);
}
