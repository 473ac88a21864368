-- The uses of all edges are of elements that are shown, by blocks of a period.
use Rattle.std.proofs.Common.{◌≡◌, ℕ, zero, suc, ◌+◌, ◌≤◌, ◌==◌, Bool, true, false, cond, List, [], ◌∷◌, map, Option, None, Some, ap, sym, ◌∙◌, subst, refl, arith}
use Rattle.std.specs.Prelude.{◌<◌, length, max, ◌&&◌, not, nat_lt, slice_get}
use Rattle.std.proofs.lemmas.Bool.{false≢true}
use Rattle.std.proofs.lemmas.Option.{none-some, same_Some, slice_get_within}
use Rattle.math_list.specs.Numbers.{numbers_from}
use Rattle.dg_model.specs.declared.diagram.Diagram.{Diagram}
use Rattle.dg_model.specs.declared.diagram.Block.{Block}
use Rattle.dg_model.specs.declared.diagram.Edge.{Edge}
use Rattle.dg_model.specs.declared.nested.Target.TheVariants.{Enable}
use Rattle.dg_model.specs.declared.resolved.Resolved.{Resolved}
use Rattle.dg_model.specs.Attributes.{attributes_of}
use Rattle.dg_model.specs.Instant.{is_now}
use Rattle.dg_model.specs.LatencyEdges.{LatencyEdge, signal_edge, asks_ever, enable_edge, enable_edges_from, latency_edges}
use Rattle.dg_model.specs.Library.{row_of}
use Rattle.dg_model.specs.Solves.{shown_ports, IsShown}
use Rattle.dg_model.specs.Wires.{repeated}
use Rattle.hw_latency.specs.Control.{control_ever}
use Rattle.hw_latency.specs.Weight.{is_free, is_registered, samples}
use Rattle.hw_lines.specs.declared.source.Use.{Use as Asked}
use Rattle.hw_sched.specs.Chained.{Use, initial_at, use_of, uses_by, uses_into, uses_from, uses_in_all}
use Rattle.hw_sched.specs.Slots.{Timing as Times}
use Rattle.hw_shows.specs.Timing.{latency_after}
use Rattle.hw_shows.specs.Timed.{Feeds}
use Rattle.hw_build.specs.inner.Operands.{first_at}
use Rattle.hw_build.specs.inner.EndAsks.{IsLawful, control_edge}
use Rattle.hw_build.proofs.ControlWants.{control_feeds, control_moves, control_frame}
use Rattle.hw_build.proofs.FewLines.{Every, every_none, every_append, every_map, every_flat, numbers_below}
use Rattle.hw_build.proofs.LineEnds.{asked, late_facts, late_serves, plain_frame}
use Rattle.hw_build.proofs.EndAsks.{timing, use_is}
use Rattle.hw_build.proofs.LineSearch.{line_into_is}
use Rattle.hw_build.proofs.FirstValues.{first_is_initial}
use Rattle.hw_build.proofs.Sources.{source_is, source_element, control_is, output_element}

some_shown : (n : ℕ) → (n == 0) ≡ false → 1 ≤ n
some_shown zero e = absurd (false≢true (sym e))
some_shown (suc n) e = omega arith

module _ {diagram : Diagram} {order : List ℕ} {plan : Resolved} {times : Times} {firsts : List (List ℕ)} (l : IsLawful diagram order plan times firsts) where
  abbrev period_of : ℕ → Option ℕ
  period_of block = (attributes_of diagram).period_at block

  abbrev uses_at : LatencyEdge → Option ℕ → List Use
  uses_at edge p = uses_from diagram (attributes_of diagram) plan times edge p

  -- a use without registers is seen in a frame of its block
  pub record IsSeenBy (one : Use) : Type 0 where
    pub block : ℕ
    pub own : ℕ
    pub inside : block < length diagram.blocks
    pub period : period_of block ≡ Some own
    pub wide : max one.source one.period ≡ own
    pub late : latency_after (timing l) one.source one.from + one.shift ≡ (timing l).latency block

  pub record IsLineUse (one : Use) : Type 0 where
    pub source : Block
    pub shown : IsShown diagram (attributes_of diagram) one.from source one.port one.element
    pub moves : period_of one.from ≡ Some one.source
    pub seen : one.first ≡ None → IsSeenBy one

  -- ---- by lines

  late_uses : (number : ℕ) (line : Edge) (b : Block) (p : ℕ) → slice_get diagram.edges number ≡ Some line
      → slice_get diagram.blocks line.to ≡ Some b → 1 ≤ shown_ports b.kind b.outputs → period_of line.from ≡ Some p
      → is_registered b (samples (period_of line.to)) p ≡ true
      → Every IsLineUse (uses_by diagram (attributes_of diagram) plan times (signal_edge line) p b true)
  late_uses number line b p line_at at shows moves late =
      let width : ℕ = (attributes_of diagram).width_at line.from line.from_port in
      let own : ℕ = (attributes_of diagram).width_at line.to 1 in
      let end = asked l number line b line_at at shows p moves in
      let period_is : period_of line.to ≡ Some end.own = end.period in
      let flag : is_registered b end.own p ≡ true = ap (λ (n : ℕ). is_registered b n p) (sym (ap samples period_is)) ∙ late in
      let source = source_is diagram number line l.scheduled.checked.wired line_at in
      every_map IsLineUse (λ element. use_of diagram (attributes_of diagram) plan times (signal_edge line) p
      (repeated width element) (initial_at (attributes_of diagram) line.to b element)) (numbers_from 0 own)
      (record {
        at = λ k element element_at.
            let low = (numbers_below 0 own).at k element element_at in
            record {
              source = source.source;
              shown =
                  source_element diagram line (repeated width element) l.scheduled.checked.wired source
                  (late_serves l number line b line_at at shows p moves end.own element period_is flag
                  (omega (arith, low)));
              moves = moves;
              seen =
                  λ none. absurd (none-some (first_at diagram line.to element)
                  (sym none ∙ first_is_initial diagram line.to b element at (omega (arith, low))
                  (late_facts l number line b line_at at shows p moves end.own period_is flag).2));
            };
      })

  plain_uses : (number : ℕ) (line : Edge) (b : Block) (p : ℕ) → slice_get diagram.edges number ≡ Some line
      → slice_get diagram.blocks line.to ≡ Some b → 1 ≤ shown_ports b.kind b.outputs → period_of line.from ≡ Some p
      → is_registered b (samples (period_of line.to)) p ≡ false
      → Every IsLineUse (uses_by diagram (attributes_of diagram) plan times (signal_edge line) p b false)
  plain_uses number line b p line_at at shows moves plain =
      let width : ℕ = (attributes_of diagram).width_at line.from line.from_port in
      let end = asked l number line b line_at at shows p moves in
      let period_is : period_of line.to ≡ Some end.own = end.period in
      let flag : is_registered b end.own p ≡ false = ap (λ (n : ℕ). is_registered b n p) (sym (ap samples period_is)) ∙ plain in
      let frame = plain_frame l number line b line_at at shows p end.own moves period_is flag in
      let asks = use_is l (signal_edge line) p end.own moves period_is in
      let source = source_is diagram number line l.scheduled.checked.wired line_at in
      every_map IsLineUse (λ element. use_of diagram (attributes_of diagram) plan times (signal_edge line) p element None) (numbers_from 0 width) (record {
        at = λ k element element_at.
            let low = (numbers_below 0 width).at k element element_at in
            record {
              source = source.source;
              shown =
                  source_element diagram line element l.scheduled.checked.wired source (omega (arith, low));
              moves =
                  moves;
              seen = λ none. record {
                block = line.to;
                own = end.own;
                inside =
                    slice_get_within diagram.blocks line.to b at;
                period = period_is;
                wide =
                    ap (λ (u : Asked). max p u.period) asks ∙ frame.0;
                late =
                    ap (λ (u : Asked). latency_after (timing l) p line.from + u.shift) asks ∙ frame.1;
              };
            };
      })

  line_uses : (number : ℕ) (line : Edge) → slice_get diagram.edges number ≡ Some line → Every IsLineUse (uses_at (signal_edge line) (period_of line.from))
  line_uses number line line_at = by_period (period_of line.from) refl
    where
      by_flag : (b : Block) (p : ℕ) (registered : Bool) → slice_get diagram.blocks line.to ≡ Some b
          → 1 ≤ shown_ports b.kind b.outputs → period_of line.from ≡ Some p
          → is_registered b (samples (period_of line.to)) p ≡ registered
          → Every IsLineUse (uses_by diagram (attributes_of diagram) plan times (signal_edge line) p b registered)
      by_flag b p true at shows moves late = late_uses number line b p line_at at shows moves late
      by_flag b p false at shows moves plain = plain_uses number line b p line_at at shows moves plain

      by_shown : (b : Block) (p : ℕ) (none : Bool) → slice_get diagram.blocks line.to ≡ Some b → period_of line.from ≡ Some p → (shown_ports b.kind b.outputs == 0) ≡ none
          → Every IsLineUse (cond none [] (uses_by diagram (attributes_of diagram) plan times (signal_edge line) p b (is_registered b (samples (period_of line.to)) p)))
      by_shown b p true at moves e = every_none IsLineUse
      by_shown b p false at moves e = by_flag b p (is_registered b (samples (period_of line.to)) p) at (some_shown (shown_ports b.kind b.outputs) e) moves refl

      by_period : (p : Option ℕ) → period_of line.from ≡ p → Every IsLineUse (uses_at (signal_edge line) p)
      by_period None e = every_none IsLineUse
      by_period (Some p) e =
          let into = line_into_is diagram number line l.scheduled.checked.wired line_at in
          subst (λ (o : Option Block). Every IsLineUse
          (uses_into diagram (attributes_of diagram) plan times (signal_edge line) p o)) (sym into.is)
          (by_shown into.block p (shown_ports into.block.kind into.block.outputs == 0) into.is e refl)

  -- ---- by controls

  control_uses : (block control : ℕ) (b : Block) → slice_get diagram.blocks block ≡ Some b
      → Feeds diagram block b Enable control
      → Every IsLineUse (uses_at (control_edge control block) (period_of control))
  control_uses block control b at feeds = by_period (period_of control) refl
    where
      elements : (p : ℕ) → period_of control ≡ Some p → Every IsLineUse (uses_by diagram (attributes_of diagram) plan times (control_edge control block) p b false)
      elements p moves =
          let of = control_is diagram block b control l.scheduled.checked at feeds.0 in
          let outputs = of.outputs in
          let period_is = control_moves l block control b at feeds p moves in
          let frame = control_frame l block control b at feeds p moves period_is.0 period_is.1 in
          let asks = use_is l (control_edge control block) p period_is.0 moves period_is.1 in
          every_map IsLineUse (λ element. use_of diagram (attributes_of diagram) plan times
          (control_edge control block) p element None)
          (numbers_from 0 ((attributes_of diagram).width_at control 1)) (record {
            at = λ k element element_at.
                let low = (numbers_below 0 ((attributes_of diagram).width_at control 1)).at k element element_at in
                record {
                  source = of.source;
                  shown =
                      output_element diagram control of.source 1 element l.scheduled.checked.wired of.is (omega arith)
                      (omega (arith, outputs)) (omega (arith, low));
                  moves = moves;
                  seen =
                      λ none. record {
                        block = block;
                        own = period_is.0;
                        inside =
                            slice_get_within diagram.blocks block b at;
                        period = period_is.1;
                        wide =
                            ap (λ (u : Asked). max p u.period) asks ∙ frame.0;
                        late =
                            ap (λ (u : Asked). latency_after (timing l) p control + u.shift) asks
                            ∙ frame.1;
                      };
                };
          })

      by_shown : (p : ℕ) (none : Bool) → period_of control ≡ Some p
          → Every IsLineUse (cond none [] (uses_by diagram (attributes_of diagram) plan times
          (control_edge control block) p b (is_registered b (samples (period_of block)) p)))
      by_shown p true moves = every_none IsLineUse
      by_shown p false moves =
          let plain : is_registered b (samples (period_of block)) p ≡ false =
          ap (λ (o : Option ℕ). is_free o
          && not (is_now (row_of b.kind).timing.reads (nat_lt (samples (period_of block)) p))) feeds.0 in
          subst (λ (flag : Bool). Every IsLineUse (uses_by diagram (attributes_of diagram) plan times (control_edge control block) p b flag)) (sym plain) (elements p moves)

      by_period : (p : Option ℕ) → period_of control ≡ p → Every IsLineUse (uses_at (control_edge control block) p)
      by_period None e = every_none IsLineUse
      by_period (Some p) e = subst (λ (o : Option Block). Every IsLineUse
          (uses_into diagram (attributes_of diagram) plan times (control_edge control block) p o)) (sym at)
          (by_shown p (shown_ports b.kind b.outputs == 0) e)

  every_control : (P : LatencyEdge → Type 0) (from : ℕ) (blocks : List Block)
      → ((k : ℕ) (b : Block) (control : ℕ) → slice_get blocks k ≡ Some b → control_ever b ≡ Some control
      → P (control_edge control (from + k))) → Every P (enable_edges_from from blocks)
  every_control P from [] each = every_none P
  every_control P from (b ∷ blocks) each =
      let here : from + 0 ≡ from = omega arith in
      every_append P (enable_edge from (asks_ever (row_of b.kind).timing.asks) b.enable) (enable_edges_from (suc from) blocks)
      (go (asks_ever (row_of b.kind).timing.asks) b.enable (λ control e. subst (λ (n : ℕ). P (control_edge control n)) here (each 0 b control refl e)))
      (every_control P (suc from) blocks (λ k x control at e. let there : from + suc k ≡ suc from + k =
      omega arith in subst (λ (n : ℕ). P (control_edge control n)) there (each (suc k) x control at e)))
    where
      go : (asks : Bool) (enable : Option ℕ) → ((control : ℕ) → cond asks enable None ≡ Some control → P (control_edge control from)) → Every P (enable_edge from asks enable)
      go true None own = every_none P
      go false None own = every_none P
      go false (Some control) own = every_none P
      go true (Some control) own = record { at = λ k x at. one k x at }
        where
          one : (k : ℕ) (x : LatencyEdge) → slice_get (control_edge control from ∷ []) k ≡ Some x → P x
          one zero x at = subst P (same_Some (control_edge control from) x at) (own control refl)
          one (suc k) x at = absurd (none-some x at)

  -- ---- all

  pub every_use : Every IsLineUse (uses_in_all diagram (attributes_of diagram) plan times)
  every_use = every_flat IsLineUse (λ edge. uses_at edge (period_of edge.from)) (latency_edges diagram)
      (every_append (λ edge. Every IsLineUse (uses_at edge (period_of edge.from))) (map signal_edge diagram.edges) (enable_edges_from 0 diagram.blocks)
      (every_map (λ edge. Every IsLineUse (uses_at edge (period_of edge.from))) signal_edge diagram.edges (record { at = λ number line at. line_uses number line at }))
      (every_control (λ edge. Every IsLineUse (uses_at edge (period_of edge.from))) 0 diagram.blocks (λ block b control at e.
      let here : block ≡ 0 + block = omega arith in
      subst (λ (n : ℕ). Every IsLineUse (uses_at (control_edge control n) (period_of control))) here (control_uses block control b at (control_feeds diagram block b control e)))))
