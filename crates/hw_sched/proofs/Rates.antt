-- The periods at the two ends of an edge.
use Rattle.std.proofs.Common.{◌≡◌, ℕ, ◌+◌, ◌%◌, ◌<◌, ◌≤◌, Bool, true, false, eqb, refl, sym, ap, subst, ◌∙◌, inl, inr, arith}
use Rattle.std.specs.Prelude.{slice_get, Option, Some, None, not, ◌&&◌, ◌==◌, ◌⊎◌, nat_lt}
use Rattle.std.specs.Option.{option_to_list}
use Rattle.std.proofs.Math.Nat.{mod_self, mod-eq_of_lt}
use Rattle.std.proofs.lemmas.Bool.{false≢true, true≢false, and_parts, and_from, or_cases, eqb-true, eq-eqb, not-true, not-false, ltb-true, lt-ltb, cases_lt, cases_order}
use Rattle.std.proofs.lemmas.Option.{none-some, same_Some}
use Rattle.dg_model.specs.declared.diagram.Diagram.{Diagram}
use Rattle.dg_model.specs.declared.diagram.Block.{Block}
use Rattle.dg_model.specs.declared.diagram.Edge.{Edge}
use Rattle.dg_model.specs.declared.kind.Kind.{Kind}
use Rattle.dg_model.specs.declared.kind.Kind.TheVariants.{Delay, RateTransition, EnOut}
use Rattle.dg_model.specs.Attributes.{attributes_of}
use Rattle.dg_model.specs.Checked.{IsChecked}
use Rattle.dg_model.specs.Hits.{is_slow_to_fast}
use Rattle.dg_model.specs.Instant.{is_now}
use Rattle.dg_model.specs.declared.row.Reading.{Reading}
use Rattle.dg_model.specs.LatencyEdges.{LatencyEdge, signal_edge, asks_ever}
use Rattle.dg_model.specs.Library.{row_of}
use Rattle.dg_model.specs.Readable.{HasPorts}
use Rattle.dg_model.specs.Periods.{Period, drivers_of, periods_of, period_at, control_of}
use Rattle.dg_model.specs.Rate.{joins_periods, suits, asked_of}
use Rattle.dg_model.specs.Wired.{MayStand}
use Rattle.dg_model.specs.Wires.{driver_of, at_source, edges_into, period_into}
use Rattle.hw_latency.specs.Weight.{is_free}
use Rattle.hw_sched.specs.Laws.{JoinsPeriods, EdgesJoinPeriods, is_moving}
use Rattle.math_list.proofs.Places.{held, there_map}
use Rattle.hw_sched.proofs.Lists.{Stands, stands_left, stands_right, stands_filtered}
use Rattle.hw_sched.proofs.Edges.{control_edge, edge_cases, not_found, ends_at, drives}
use Rattle.hw_sched.proofs.Periods.{readable_at, periods_are_above, moving_have_periods}

-- ---- what the rows of kinds have in common

single_input : (kind : Kind) (inputs outputs : ℕ) → joins_periods (row_of kind).timing.reads ≡ true → HasPorts kind inputs outputs → inputs ≡ 1
single_input (RateTransition period initial) inputs outputs joins ports = ports.0
single_input _ inputs outputs joins ports = absurd (false≢true joins)

pub never_asks : (kind : Kind) → joins_periods (row_of kind).timing.reads ≡ true → asks_ever (row_of kind).timing.asks ≡ true → ⊥
never_asks (RateTransition period initial) joins asks = false≢true asks
never_asks _ joins asks = false≢true joins

stands_free : (kind : Kind) (enable : Option ℕ) → joins_periods (row_of kind).timing.reads ≡ true → MayStand (row_of kind).place.stands enable → is_free enable ≡ true
stands_free (RateTransition period initial) enable joins stands = ap is_free stands
stands_free _ enable joins stands = absurd (false≢true joins)

asked_moves : (kind : Kind) → asks_ever (row_of kind).timing.asks ≡ true → is_moving (row_of kind).timing.inherits ≡ true
asked_moves (Delay delay initial reset) asks = refl
asked_moves (EnOut reset initial) asks = refl
asked_moves _ asks = absurd (false≢true asks)

-- ---- periods that suit

-- a block's period is that of its source, or one divides the other
pub record IsSuited (joins : Bool) (own : Period) (source : ℕ) : Type 0 where
  pub period : ℕ
  pub is : own ≡ Some period
  pub same : joins ≡ false → period ≡ source
  pub divides : (period % source ≡ 0) ⊎ (source % period ≡ 0)

suited : (joins : Bool) (own : Period) (source : ℕ) → suits joins own (Some source) ≡ true → IsSuited joins own source
suited joins None source e = absurd (false≢true e)
suited true (Some own) source e = record {
  period = own;
  is = refl;
  same = λ fails. absurd (true≢false fails);
  divides = elim (or_cases (eqb (own % source) 0) (eqb (source % own) 0) e) [ inl left ↦ inl (eqb-true (own % source) 0 left) | inr right ↦ inr (eqb-true (source % own) 0 right) ];
}
suited false (Some own) source e =
    let same : own ≡ source = eqb-true own source e in
    record { period = own; is = refl; same = λ _. same; divides = inl (ap (λ (n : ℕ). n % source) same ∙ mod_self source) }

module _ (own source : ℕ) (some : 0 < own) (there : 0 < source) (divides : (own % source ≡ 0) ⊎ (source % own ≡ 0)) where
  below_divides : own < source → source % own ≡ 0
  below_divides less = elim divides [ inl rest ↦ let e : own % source ≡ own = mod-eq_of_lt less in absurd (omega (arith, rest, e, some)) | inr right ↦ right ]

  above_divides : source ≤ own → own % source ≡ 0
  above_divides past = elim divides [
    | inl left ↦ left
    | inr rest ↦ elim (cases_order source own) [
      | inl same ↦ ap (λ (n : ℕ). n % source) (sym same) ∙ mod_self source
      | inr apart ↦ elim apart [
        | inl less ↦ let e : source % own ≡ source = mod-eq_of_lt less in absurd (omega (arith, rest, e, there))
        | inr more ↦ absurd (omega (arith, past, more))
      ]
    ]
  ]

  plain_divides : (reads : Reading) (free : Bool) → (joins_periods reads ≡ true → free ≡ true)
      → (joins_periods reads ≡ false → own ≡ source) → (free && not (is_now reads (nat_lt own source))) ≡ false
      → own % source ≡ 0
  plain_divides Reading.Now free outside same plain = ap (λ (n : ℕ). n % source) (same refl) ∙ mod_self source
  plain_divides Reading.Before free outside same plain = ap (λ (n : ℕ). n % source) (same refl) ∙ mod_self source
  plain_divides Reading.BeforeIfSlower free outside same plain = elim (cases_lt own source) [
    | inl less ↦
        let holds = and_from free (not (not (nat_lt own source))) (outside refl) (ap (λ (b : Bool). not (not b)) (lt-ltb own source less)) in
        absurd (true≢false (sym holds ∙ plain))
    | inr past ↦ above_divides past
  ]

  late_divides : (reads : Reading) (free : Bool) → (joins_periods reads ≡ false → own ≡ source) → (free && not (is_now reads (nat_lt own source))) ≡ true → source % own ≡ 0
  late_divides Reading.Now free same late = ap (λ (n : ℕ). source % n) (same refl) ∙ mod_self source
  late_divides Reading.Before free same late = ap (λ (n : ℕ). source % n) (same refl) ∙ mod_self source
  late_divides Reading.BeforeIfSlower free same late =
      below_divides (ltb-true own source (not-false (nat_lt own source)
      (not-true (not (nat_lt own source)) (and_parts free (not (not (nat_lt own source))) late).1)))

same_now : (reads : Reading) (slower other : Bool) → (joins_periods reads ≡ true → slower ≡ other) → is_now reads slower ≡ is_now reads other
same_now Reading.Now slower other same = refl
same_now Reading.Before slower other same = refl
same_now Reading.BeforeIfSlower slower other same = ap not (same refl)

module _ (diagram : Diagram) (checked : IsChecked diagram) where
  abbrev period : ℕ → Period
  period place = period_at (periods_of diagram) place

  asked_suits : (place : ℕ) (b : Block) (source : ℕ) → slice_get diagram.blocks place ≡ Some b
      → Stands (asked_of diagram (period place) place b) source
      → suits (joins_periods (row_of b.kind).timing.reads) (period place) (period source) ≡ true
  asked_suits place b source at stands =
      not-false (suits (joins_periods (row_of b.kind).timing.reads) (period place) (period source))
      (not_found (λ s. not (suits (joins_periods (row_of b.kind).timing.reads) (period place) (period s)))
      (asked_of diagram (period place) place b) stands.place source
      (checked.rates.periods place b at) stands.at)

  -- the source of a line is asked for
  asked_line : (own : Period) (place : ℕ) (line : Edge) (b : Block) → slice_get diagram.edges place ≡ Some line → Stands (asked_of diagram own line.to b) line.from
  asked_line own place line b at = go own
    where
      into : Stands (edges_into diagram line.to) line
      into = stands_filtered (λ (edge : Edge). edge.to == line.to) diagram.edges place line at (eq-eqb line.to line.to refl)

      go : (own : Period) → Stands (asked_of diagram own line.to b) line.from
      go None = record { place = into.place; at = there_map (λ (edge : Edge). edge.from) (edges_into diagram line.to) into.place line into.at }
      go (Some own) = stands_left (drivers_of diagram line.to) (control_of b) into.place line.from (there_map (λ (edge : Edge). edge.from) (edges_into diagram line.to) into.place line into.at)

  -- so is the control, of a block that has a period
  asked_control : (o : Period) (own place control : ℕ) (b : Block) → o ≡ Some own → b.enable ≡ Some control → Stands (asked_of diagram o place b) control
  asked_control None own place control b e is = absurd (none-some own e)
  asked_control (Some other) own place control b e is =
      stands_right (drivers_of diagram place) (control_of b) control (record { place = 0; at = ap (λ (o : Option ℕ). slice_get (option_to_list o) 0) is })

  -- what is said of an edge
  abbrev Joined : LatencyEdge → Block → ℕ → Type 0
  Joined edge b source = slice_get diagram.blocks edge.to ≡ Some b → period edge.from ≡ Some source → (own : ℕ) × JoinsPeriods diagram edge b source own

  joined_by : (edge : LatencyEdge) (b : Block) (source : ℕ) → slice_get diagram.blocks edge.to ≡ Some b
      → period edge.from ≡ Some source
      → suits (joins_periods (row_of b.kind).timing.reads) (period edge.to) (period edge.from) ≡ true
      → (joins_periods (row_of b.kind).timing.reads ≡ true → period_into diagram (attributes_of diagram) edge.to 1 ≡ Some source) → (own : ℕ) × JoinsPeriods diagram edge b source own
  joined_by edge b source at is suits_is into =
      let s = suited (joins_periods (row_of b.kind).timing.reads) (period edge.to) source (ap (suits (joins_periods (row_of b.kind).timing.reads) (period edge.to)) (sym is) ∙ suits_is) in
      let some = periods_are_above diagram edge.to s.period checked s.is in
      let there = periods_are_above diagram edge.from source checked is in (
        s.period,
        record {
          period = s.is;
          same = s.same;
          plain = λ plain. plain_divides s.period source some there s.divides (row_of b.kind).timing.reads (is_free b.enable)
              (λ joins. stands_free b.kind b.enable joins (held (λ (x : Block). MayStand (row_of x.kind).place.stands x.enable) diagram.blocks edge.to b checked.wired.enables at)) s.same plain;
          late = λ late. late_divides s.period source some there s.divides (row_of b.kind).timing.reads (is_free b.enable) s.same late;
          now = same_now (row_of b.kind).timing.reads (is_slow_to_fast (period_into diagram (attributes_of diagram) edge.to 1) (period edge.to)) (nat_lt s.period source)
              (λ joins. ap (λ (o : Option ℕ). is_slow_to_fast o (period edge.to)) (into joins) ∙ ap (is_slow_to_fast (Some source)) s.is);
        },
      )

  line_joins : (place : ℕ) (line : Edge) (b : Block) (source : ℕ) → slice_get diagram.edges place ≡ Some line → Joined (signal_edge line) b source
  line_joins place line b source here at is =
      joined_by (signal_edge line) b source at is (asked_suits line.to b line.from at (asked_line (period line.to) place line b here))
      (λ joins.
      let ports = single_input b.kind b.inputs b.outputs joins (readable_at diagram checked.wired line.to b at).ports in
      let ends = ends_at diagram checked.wired place line b here at in
      let low = ends.0 in
      let high = ends.1 in
      let one : line.to_port ≡ 1 = omega (arith, ports, low, high) in
      ap (λ (o : Option Edge). at_source o None (λ from from_port. period from))
      (subst (λ (port : ℕ). driver_of diagram line.to port ≡ Some line) one
      (drives diagram checked.wired place line b here at)) ∙ is)

  control_joins : (place control : ℕ) (x b : Block) (source : ℕ) → slice_get diagram.blocks place ≡ Some x
      → x.enable ≡ Some control → asks_ever (row_of x.kind).timing.asks ≡ true
      → Joined (control_edge control place) b source
  control_joins place control x b source here enable asks at is =
      let same : x ≡ b = same_Some x b (sym here ∙ at) in
      let asked : asks_ever (row_of b.kind).timing.asks ≡ true = ap (λ (y : Block). asks_ever (row_of y.kind).timing.asks) (sym same) ∙ asks in
      let own = moving_have_periods diagram place b checked at (asked_moves b.kind asked) in
      joined_by (control_edge control place) b source at is
      (asked_suits place b control at (asked_control (period place) own.0 place control b own.1 (ap (λ (y : Block). y.enable) (sym same) ∙ enable)))
      (λ joins. absurd (never_asks b.kind joins asked))

pub edges_join_periods : EdgesJoinPeriods
edges_join_periods diagram number edge b source checked number_is at is = elim (edge_cases diagram number edge number_is) [
  | inl line ↦ subst (λ (e : LatencyEdge). Joined diagram checked e b source) (sym line.is) (line_joins diagram checked line.place line.line b source line.at) at is
  | inr control ↦
      let place : 0 + control.place ≡ control.place = omega arith in
      subst (λ (e : LatencyEdge). Joined diagram checked e b source) (sym (control.is ∙ ap (control_edge control.control) place))
      (control_joins diagram checked control.place control.control control.block b source control.at control.enable control.asks) at is
]
