use Rattle.std.proofs.Common.{◌≡◌, ◌<◌, ◌≤◌, ◌+◌, ℕ, length, map, slice_index, sym, ap, subst, ◌∙◌, arith}
use Rattle.std.specs.List.Sorted.{IsNonDecreasing}
use Rattle.std.proofs.lemmas.List.{with_items_is}
use Rattle.std.proofs.lemmas.List.Sorted.{IsNonDecreasingBy-from_sort}
use Rattle.vl_eval.specs.inner.Order.{ArePlaces, moved, moved_capture, number_of, op_at}
use Rattle.vl_eval.specs.inner.Ops.{IsOrdered, IsSettled}
use Rattle.vl_eval.proofs.SortOrder.{arranged-long, arranged-ordered, arranged-settled, moved-fixed, moved-within, numbers-low, sorted-long}
use Rattle.vl_eval.proofs.arranging.rearrange.Goals as goal
use Rattle.vl_eval.proofs.arranging.rearrange.Goals.{After-sort_unstable}

rises : (c : After-sort_unstable) → IsNonDecreasing c.sort_unstable.new.self.items
rises c = IsNonDecreasingBy-from_sort (λ x. x) c.sort_unstable.new.self.items c.sort_unstable.ensures.sorted

pub places_of-requires-clause-numbers : goal.places_of-requires-clause-numbers
places_of-requires-clause-numbers c =
    let ops = c.args.built.now.ops in
    let few = c.requires.few in
    let all = c.in_ok-entries.ensures in
    let sorted = c.sort_unstable.new.self.items in
    let same = c.sort_unstable.ensures.permutation in
    let rising = rises (goal.at.places_of-requires-clause-numbers c).After-sort_unstable in
    let long = sorted-long c.args.base ops c.in_ok-entries.entries.items sorted sorted few c.requires.ordered all same rising in
    subst (λ xs. (i : ℕ) → i < length xs → number_of (slice_index xs i) < length xs) (sym c.as_slice.ensures.value)
    (λ i low. subst (λ n. number_of (slice_index sorted i) < n) (sym long) (numbers-low c.args.base ops c.in_ok-entries.entries.items sorted sorted few c.requires.ordered all same rising i low))

pub in_order-requires : goal.in_order-requires
in_order-requires c =
    let ops = c.args.built.now.ops in
    let sorted = c.sort_unstable.new.self.items in
    let rising = rises (goal.at.in_order-requires c).After-sort_unstable in
    subst (λ xs. (i : ℕ) → i < length xs → number_of (slice_index xs i) < length ops) (sym c.as_slice-2.ensures.value)
    (numbers-low c.args.base ops c.in_ok-entries.entries.items sorted sorted c.requires.few c.requires.ordered c.in_ok-entries.ensures c.sort_unstable.ensures.permutation rising)

pub returns : goal.returns
returns c =
    let base = c.args.base in
    let ops = c.args.built.now.ops in
    let few = c.requires.few in
    let entries = c.in_ok-entries.entries.items in
    let all = c.in_ok-entries.ensures in
    let sorted = c.sort_unstable.new.self.items in
    let same = c.sort_unstable.ensures.permutation in
    let rising = rises (goal.at.returns c).After-sort_unstable in
    let places = c.in_ok-places.places.items in
    let there = subst (λ xs. ArePlaces base xs (length xs) places) c.as_slice.ensures.value c.in_ok-places.ensures in
    let is : c.in_ok-ops.ops ≡ map (op_at base places ops) sorted =
    c.in_ok-ops.ensures ∙ (λ i. map (op_at base (c.as_slice-3.ensures.value i) ops) (c.as_slice-2.ensures.value i)) in
    record {
      move = moved base places;
      fixed = moved-fixed base places;
      within = subst (λ os. (k : ℕ) → base ≤ k → k < base + length ops → (base ≤ moved base places k) × (moved base places k < base + length os)) (sym is)
          (moved-within base ops entries sorted places few c.requires.ordered all same rising there);
      few = (let long = ap length is ∙ arranged-long base ops entries sorted places few c.requires.ordered all same rising there in omega (arith, long));
      ordered = subst (λ os. IsOrdered base os) (sym is) (arranged-ordered base ops entries sorted places few c.requires.ordered all same rising there);
      settled = λ values s. arranged-settled base ops entries sorted places few c.requires.ordered all same rising there values (subst (λ os. IsSettled base os values) is s);
      slots_are = with_items_is c.args.built.now.slots c.move_slots.new.slots (c.move_slots.auto.slots ∙ c.as_mut_slice.ensures.len)
          ∙ c.move_slots.ensures ∙ (λ i. map (moved base (c.as_slice-4.ensures.value i)) (c.as_mut_slice.ensures.value i));
      captures_are = with_items_is c.args.built.now.captures c.move_captures.new.captures (c.move_captures.auto.captures ∙ c.as_mut_slice-2.ensures.len)
          ∙ c.move_captures.ensures ∙ (λ i. map (moved_capture (moved base (c.as_slice-5.ensures.value i))) (c.as_mut_slice-2.ensures.value i));
    }
