-- The frames of blocks are counted, and a netlist has few registers by those of its steps.
use Rattle.std.proofs.Common.{◌≡◌, ℕ, zero, suc, ◌+◌, ◌<◌, ◌≤◌, inl, inr, true, List, [], ◌∷◌, ◌++◌, length, map, Option, Some, ap, sym, ◌∙◌, subst, arith}
use Rattle.std.specs.Prelude.{slice_get, not, ◌==◌}
use Rattle.std.specs.List.{flat_map}
use Rattle.std.proofs.lemmas.Bool.{and_parts, eqb-true, cases_Bool, cases_lt}
use Rattle.std.proofs.lemmas.List.{length-map}
use Rattle.std.proofs.lemmas.Option.{none-some, same_Some}
use Rattle.math_list.specs.Numbers.{numbers_from}
use Rattle.dg_model.specs.declared.diagram.Diagram.{Diagram}
use Rattle.dg_model.specs.declared.resolved.Resolved.{Resolved}
use Rattle.dg_model.specs.Attributes.{attributes_of}
use Rattle.hw_net.specs.declared.netlist.Frame.{Frame}
use Rattle.hw_net.specs.declared.netlist.Net.{Net}
use Rattle.hw_net.specs.declared.netlist.NetKind.TheVariants.{Comb}
use Rattle.hw_net.specs.declared.netlist.NetOp.TheVariants.{Resize}
use Rattle.hw_net.specs.Circuit.{Circuit}
use Rattle.hw_net.specs.Frames.{counted_frame, CountersDiffer, register_count}
use Rattle.hw_sched.specs.Chained.{FramePair, chained, distinct, is_same_frame, frames_of, frames_in_all, registers_of_lines, uses_in_all}
use Rattle.hw_sched.specs.Slots.{Timing as Times, shared_operations}
use Rattle.hw_sched.specs.Storage.{registers_in_all}
use Rattle.hw_build.specs.Built.{counter_count}
use Rattle.hw_build.specs.inner.FrameCounts.{pair_of, IsFramed, IsBlockFrame, HasMoreRegisters}
use Rattle.hw_build.specs.inner.Growth.{GoesOn}
use Rattle.hw_build.proofs.CounterFrames.{Stands, few_counters, filter_stands}
use Rattle.math_list.proofs.Places.{get_left, there_map}

-- ---- lists of different elements

pair_same : (one other : FramePair) → is_same_frame one other ≡ true → one ≡ other
pair_same one other same =
    let parts = and_parts (one.period == other.period) (one.latency == other.latency) same in
    ap (λ (n : ℕ). record { period = n; latency = one.latency }) (eqb-true one.period other.period parts.0)
    ∙ ap (λ (n : ℕ). record { period = other.period; latency = n }) (eqb-true one.latency other.latency parts.1)

-- each of them stands among those that differ
pub stands_distinct : (xs : List FramePair) (k : ℕ) (x : FramePair) → slice_get xs k ≡ Some x → Stands (distinct is_same_frame xs) x
stands_distinct [] k x at = absurd (none-some x at)
stands_distinct (y ∷ xs) zero x at = record { place = 0; at = at }
stands_distinct (y ∷ xs) (suc k) x at =
    let later = stands_distinct xs k x at in
    elim (cases_Bool (is_same_frame y x)) [
      | inl same ↦ record { place = 0; at = ap (λ (z : FramePair). Some z) (pair_same y x same) }
      | inr differs ↦
          let rest = filter_stands (λ (z : FramePair). not (is_same_frame y z)) (distinct is_same_frame xs) later.place x later.at (ap not differs) in
          record { place = suc rest.place; at = rest.at }
    ]

back : {A : Type 0} (xs ys : List A) (x : A) → Stands ys x → Stands (xs ++ ys) x
back [] ys x stands = stands
back (y ∷ xs) ys x stands = let rest = back xs ys x stands in record { place = suc rest.place; at = rest.at }

flat_stands : (f : ℕ → List FramePair) (from n k : ℕ) (x : FramePair) → from ≤ k → k < from + n → Stands (f k) x → Stands (flat_map f (numbers_from from n)) x
flat_stands f from zero k x low high stands = absurd (omega (arith, low, high))
flat_stands f from (suc n) k x low high stands = elim (cases_lt from k) [
  | inl less ↦ back (f from) (flat_map f (numbers_from (suc from) n)) x (flat_stands f (suc from) n k x (omega (arith, less)) (omega (arith, high)) stands)
  | inr past ↦
      let same : k ≡ from = omega (arith, low, past) in
      let here : Stands (f from) x = subst (λ (j : ℕ). Stands (f j) x) same stands in
      record { place = here.place; at = get_left (f from) (flat_map f (numbers_from (suc from) n)) here.place x here.at }
]

-- ---- frames

abbrev frame_of_pair : FramePair → Frame
frame_of_pair pair = record { period = pair.period; latency = pair.latency }

module _ (diagram : Diagram) (plan : Resolved) (times : Times) where
  pub frame_stands : (block : ℕ) (frame : Frame) → IsBlockFrame diagram plan times block frame → IsFramed diagram plan times frame
  frame_stands block frame is =
      let all = flat_stands (λ place. frames_of plan times place ((attributes_of diagram).period_at place)) 0
      (length diagram.blocks) block (pair_of frame) (omega arith)
      (let low = is.there in omega (arith, low)) own in
      let stands = stands_distinct (flat_map
      (λ place. frames_of plan times place ((attributes_of diagram).period_at place))
      (numbers_from 0 (length diagram.blocks))) all.place (pair_of frame) all.at in
      record { place = stands.place; at = stands.at }
    where
      own : Stands (frames_of plan times block ((attributes_of diagram).period_at block)) (pair_of frame)
      own = subst (λ (o : Option ℕ). Stands (frames_of plan times block o) (pair_of frame)) (sym is.period_is) (elim is.latency_is [
        | inl before ↦ record { place = 0; at = ap (λ (n : ℕ). Some (record { period = frame.period; latency = n })) (sym before) }
        | inr behind ↦ record { place = 1; at = ap (λ (n : ℕ). Some (record { period = frame.period; latency = n })) (sym behind) }
      ])

  -- ---- registers

  -- by the nets that a step puts in
  pub more_goes : (closed hubs : ℕ) (a b : Circuit) (registers : ℕ) → GoesOn closed hubs a b → register_count b.nets ≤ register_count a.nets + registers
      → ((k : ℕ) (net : Net) (frame : Frame) → length a.nets ≤ k → slice_get b.nets k ≡ Some net
      → counted_frame net.kind ≡ Some frame → IsFramed diagram plan times frame)
      → HasMoreRegisters diagram plan times a b registers
  more_goes closed hubs a b registers goes few parts = record {
    few = few;
    counters = λ k frame low at. parts k at.net frame low at.is at.counts;
    kept = λ k frame low at. elim (goes.nets k low) [
      | inl same ↦ record { net = at.net; is = sym same ∙ at.is; counts = at.counts }
      | inr changed ↦
          let is = changed.2 in
          let kind : at.net.kind ≡ Comb Resize is.new_args = ap (λ (n : Net). n.kind) (same_Some at.net is.is (sym at.is ∙ is.later_there)) ∙ is.new_kind in
          absurd (none-some frame (ap counted_frame (sym kind) ∙ at.counts))
    ];
  }

  -- a step behind another
  pub registers_then : (a b c : Circuit) (one other : ℕ) → length a.nets ≤ length b.nets
      → HasMoreRegisters diagram plan times a b one → HasMoreRegisters diagram plan times b c other
      → HasMoreRegisters diagram plan times a c (one + other)
  registers_then a b c one other grown first second = record {
    few = let x = first.few in let y = second.few in omega (arith, x, y);
    counters = λ k frame low at. elim (cases_lt k (length b.nets)) [
      | inl less ↦ first.counters k frame low (second.kept k frame less at)
      | inr past ↦ second.counters k frame (omega (arith, past)) at
    ];
    kept = λ k frame low at. first.kept k frame low (second.kept k frame (omega (arith, low, grown)) at);
  }

  -- from an empty netlist, by those of all steps
  pub few_registers : (start now : Circuit) → start.nets ≡ [] → CountersDiffer now.nets
      → HasMoreRegisters diagram plan times start now
      (registers_of_lines (uses_in_all diagram (attributes_of diagram) plan times)
      + (registers_in_all diagram (attributes_of diagram) plan
      + length (shared_operations diagram (attributes_of diagram) plan)))
      → register_count now.nets + counter_count now.nets ≤ chained diagram (attributes_of diagram) plan times
  few_registers start now none differ more =
      let frames : List Frame = map frame_of_pair (frames_in_all diagram (attributes_of diagram) plan times) in
      let counters = few_counters now.nets frames (λ k frame at.
      let framed = more.counters k frame (let e : length start.nets ≡ 0 = ap (λ (nets : List Net). length nets) none in omega (arith, e)) at in
      record { place = framed.place; at = there_map frame_of_pair (frames_in_all diagram (attributes_of diagram) plan times) framed.place (pair_of frame) framed.at }) differ in
      let size = length-map (frames_in_all diagram (attributes_of diagram) plan times) frame_of_pair in
      let begun : register_count start.nets ≡ 0 = ap register_count none in
      let few = more.few in
      omega (arith, counters, size, begun, few)
