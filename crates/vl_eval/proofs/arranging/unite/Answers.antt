use Rattle.std.proofs.Common.{map, ◌∙◌}
use Rattle.std.proofs.lemmas.List.{with_items_is}
use Rattle.vl_eval.specs.inner.Order.{moved, moved_capture}
use Rattle.vl_eval.proofs.Merges.{merged-settled, merged-within}
use Rattle.vl_eval.proofs.SortOrder.{moved-fixed}
use Rattle.vl_eval.proofs.arranging.unite.Goals as goal

pub returns : goal.returns
returns c =
    let base = c.args.base in
    let built = c.args.built.now in
    let united = c.in_ok-united.united in
    let all = c.in_ok-united.ensures in
    let places = united.places.items in
    record {
      move = moved base places;
      fixed = moved-fixed base places;
      within = merged-within base built.ops united.ops places all;
      few = all.few;
      ordered = all.ordered;
      settled = merged-settled base built.ops united.ops places all;
      slots_are = with_items_is built.slots c.move_slots.new.slots (c.move_slots.auto.slots ∙ c.as_mut_slice.ensures.len)
          ∙ c.move_slots.ensures ∙ (λ i. map (moved base (c.as_slice.ensures.value i)) (c.as_mut_slice.ensures.value i));
      captures_are = with_items_is built.captures c.move_captures.new.captures (c.move_captures.auto.captures ∙ c.as_mut_slice-2.ensures.len)
          ∙ c.move_captures.ensures ∙ (λ i. map (moved_capture (moved base (c.as_slice-2.ensures.value i))) (c.as_mut_slice-2.ensures.value i));
    }
