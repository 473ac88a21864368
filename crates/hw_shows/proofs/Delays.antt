-- Blocks that show what their inputs were offered before: Delays, transitions from slow to fast, and output ports of enabled subsystems.
use Rattle.std.proofs.Common.{◌≡◌, ℕ, zero, suc, ◌+◌, ◌-◌, ◌*◌, ◌/◌, ◌%◌, ◌<◌, ◌≤◌, inl, inr, ℤ, Bool, true, false, true≢false, List, [], Option, Some, None, slice_get, ap, sym, ◌∙◌, subst, refl}
use Rattle.std.proofs.Common.{arith, mul-le-mul_right}
use Rattle.std.proofs.Math.Nat.{mul-mod_left}
use Rattle.std.proofs.lemmas.Nat.{div-add-mod', mod_below}
use Rattle.std.proofs.lemmas.Bool.{cases_lt}
use Rattle.std.proofs.lemmas.Option.{same_Some, MatchOption-at_some}
use Rattle.fx_type.specs.declared.decimal.Decimal.{Decimal}
use Rattle.dg_model.specs.declared.diagram.Diagram.{Diagram}
use Rattle.dg_model.specs.declared.diagram.Block.{Block}
use Rattle.dg_model.specs.declared.diagram.Edge.{Edge}
use Rattle.dg_model.specs.declared.kind.Kind.{Kind}
use Rattle.dg_model.specs.declared.kind.Kind.TheVariants.{EnableTest}
use Rattle.dg_model.specs.declared.nested.Target.TheVariants.{Port}
use Rattle.dg_model.specs.declared.row.Role.{Role}
use Rattle.dg_model.specs.Library.{row_of}
use Rattle.dg_model.specs.Signals.{Attributes, Stimulus, Table}
use Rattle.dg_model.specs.Hits.{Hits, hits_before, counted_hits}
use Rattle.dg_model.specs.LatencyEdges.{asks_ever}
use Rattle.dg_tables.specs.State.{Move}
use Rattle.dg_model.specs.Wires.{driver_of, at_source, period_into, value_into}
use Rattle.dg_model.specs.Wired.{NamesControl}
use Rattle.dg_model.specs.Operation.{stored_truth}
use Rattle.dg_model.specs.Equation.{StoresEntry, IsInputAt, KindEquation}
use Rattle.dg_model.specs.Solves.{IsShown, shown_ports}
use Rattle.math_list.proofs.Places.{held}
use Rattle.dg_tables.proofs.Sources.{IsRead, is_control}
use Rattle.hw_net.specs.Registers.{Span}
use Rattle.hw_lines.specs.Line.{IsRegistered}
use Rattle.hw_shows.specs.Shows.{IsSeenAt, IsSeen, Shows}
use Rattle.hw_shows.specs.Timing.{Timing, latency_after, latency_behind, ready_after, IsLateEdge, IsEdgeInTime}
use Rattle.hw_shows.specs.Timed.{lag_into}
use Rattle.hw_shows.specs.Series.{span_at, IsSeries, IsEnabledSeries, IsLineInto, IsOffered}
use Rattle.hw_shows.specs.Waves.{Waves}
use Rattle.hw_lines.proofs.Hits.{hit-number}
use Rattle.hw_shows.proofs.Hits.{multiple_of, hits_after, hits_next, hit_at, no_hit_at, moved_hits, counted_next}
use Rattle.hw_shows.proofs.Edges.{line_of, registered_shows, registered_begins}
use Rattle.hw_shows.proofs.Chains.{frame_end, AreMoved, states_hold}
use Rattle.hw_shows.proofs.States.{IsTruth, series_moves, enabled_moves, move_at}
use Rattle.hw_shows.proofs.Offers.{after_less, late_ready, next_multiple}
use Rattle.hw_shows.proofs.Inputs.{Setting, BlockShows, in_time, place, source_value, source, line, offered_at_end, control_source, enabled_at_end, control_hits, still_entry}

stored_is_truth : (truth : Bool) (v : ℤ) → v ≡ stored_truth truth → IsTruth v
stored_is_truth true v e = IsTruth.IsOn e
stored_is_truth false v e = IsTruth.IsOff e

control_is_truth : (diagram : Diagram) (attributes : Attributes) (stimulus : Stimulus) (table : Table) (kind : Kind)
    (b : Block) (block port element t : ℕ) (v : ℤ) → is_control (row_of kind).place.role ≡ true
    → KindEquation diagram attributes stimulus table kind b block port element t v → IsTruth v
control_is_truth diagram attributes stimulus table EnableTest b block port element t v is h = stored_is_truth _ v h
control_is_truth diagram attributes stimulus table _ b block port element t v is h = absurd (true≢false (sym is))

pub some_period : (p cycles r : ℕ) → r < p * cycles → 0 < p
some_period zero cycles r h = absurd (omega arith)
some_period (suc p) cycles r h = omega arith

module _ {diagram : Diagram} {attributes : Attributes} {rank : ℕ → ℕ} {stimulus : Stimulus} {timing : Timing}
    {clocks n : ℕ} {table : Table} {waves : Waves}
    (s : Setting diagram attributes rank stimulus timing clocks n table waves)
    (block : ℕ) (b : Block) (block_is : slice_get diagram.blocks block ≡ Some b)
    (showing : 1 ≤ shown_ports b.kind b.outputs) (k : ℕ) (within : suc k ≤ clocks)
    (all : (other : ℕ) → BlockShows s k other)
    (element : ℕ) (edge : Edge) (driven : driver_of diagram block 1 ≡ Some edge) (reads : IsRead diagram attributes block 1 element) (single : 1 ≤ b.inputs)
  where
    abbrev pub IsDue : ℕ → ℕ → Type 0
    IsDue t c = IsSeen timing.cycles (attributes.period_at block) (timing.latency block) (timing.ready block) t c

    abbrev pub input : ℕ → ℤ
    input t = value_into diagram attributes table block 1 element t

    pub period_is : period_into diagram attributes block 1 ≡ attributes.period_at edge.from
    period_is = ap (λ (o : Option Edge). at_source o None (λ from from_port. attributes.period_at from)) driven

    -- ---- an input with registers
    module _ (p q lag : ℕ) (source_is : attributes.period_at edge.from ≡ Some p) (own : attributes.period_at block ≡ Some q) (lag_is : lag_into diagram attributes block b (Port 1) p ≡ Some lag) where
      abbrev at : ℕ
      at = place s block b block_is showing 1 element edge driven reads (omega arith) single

      origin : (c : Block) × IsShown diagram attributes edge.from c edge.from_port at
      origin = source s block b block_is showing 1 element edge driven reads (omega arith) single

      shown : Shows k n timing.cycles (Some p) (latency_after timing p edge.from) (ready_after timing edge.from) (table edge.from edge.from_port at) (waves.after edge.from edge.from_port at)
      shown = subst (λ (o : Option ℕ). Shows k n timing.cycles o (latency_behind timing o edge.from)
          (ready_after timing edge.from) (table edge.from edge.from_port at)
          (waves.after edge.from edge.from_port at)) source_is
          (all edge.from origin.0 edge.from_port at origin.1).after

      offer : IsOffered clocks timing edge.from (Some p) block (Some q)
          (lag_into diagram attributes block b (Port 1)) (waves.first block element)
          (waves.after edge.from edge.from_port at) (waves.offered block 1 element)
      offer =
          subst (λ (o : Option ℕ). IsOffered clocks timing edge.from o block (Some q)
          (lag_into diagram attributes block b (Port 1)) (waves.first block element)
          (waves.after edge.from edge.from_port at) (waves.offered block 1 element)) source_is
          (subst (λ (o : Option ℕ). IsOffered clocks timing edge.from (attributes.period_at edge.from) block o
          (lag_into diagram attributes block b (Port 1)) (waves.first block element)
          (waves.after edge.from edge.from_port at) (waves.offered block 1 element)) own
          (line s block b block_is showing 1 element edge driven reads (omega arith) single))

      registered : IsRegistered clocks (line_of timing.cycles p (latency_after timing p edge.from) p
          (timing.latency block + lag)) (waves.first block element) (waves.after edge.from edge.from_port at)
          (waves.offered block 1 element)
      registered = subst (λ (o : Option ℕ). IsLineInto clocks timing edge.from p block q o
          (waves.first block element) (waves.after edge.from edge.from_port at) (waves.offered block 1 element))
          lag_is offer

      pub late_edge : IsLateEdge timing edge.from p block q lag
      late_edge =
          let i = in_time s block b block_is showing (Port 1) edge.from p (edge, omega arith, single, driven, refl) source_is in
          let same : i.own ≡ q = same_Some i.own q (sym i.period ∙ own) in
          subst (λ (q : ℕ). IsLateEdge timing edge.from p block q lag) same (subst (λ (o : Option ℕ). IsEdgeInTime timing edge.from p block i.own o) lag_is i.edge)

      ready : ready_after timing edge.from < p * timing.cycles
      ready = let early = s.timed.ready edge.from p source_is in let less = after_less timing edge.from in omega arith

      later : latency_after timing p edge.from * timing.cycles + ready_after timing edge.from < (timing.latency block + lag) * timing.cycles
      later = late_ready timing edge.from p block q lag late_edge (s.timed.ready edge.from p source_is)

      pub late_shows : (t c : ℕ) → t < n → c < suc k → t % p ≡ 0
          → (t + (timing.latency block + lag)) * timing.cycles ≤ c
          → c < (t + (timing.latency block + lag) + p) * timing.cycles
          → waves.offered block 1 element c ≡ input t
      late_shows t c below early hit from until =
          registered_shows clocks k n timing.cycles p (latency_after timing p edge.from)
          (timing.latency block + lag) (ready_after timing edge.from) (waves.first block element)
          (table edge.from edge.from_port at)
          (waves.after edge.from edge.from_port at) (waves.offered block 1 element) within ready shown registered later t c below early hit from until
          ∙ sym (source_value s block b block_is showing 1 element edge driven reads (omega arith) single t)

      pub late_begins : (c : ℕ) → c < suc k → c < (timing.latency block + lag) * timing.cycles → waves.offered block 1 element c ≡ waves.first block element
      late_begins c early before =
          registered_begins clocks k n timing.cycles p (latency_after timing p edge.from)
          (timing.latency block + lag) (ready_after timing edge.from) (waves.first block element)
          (table edge.from edge.from_port at)
          (waves.after edge.from edge.from_port at) (waves.offered block 1 element) within ready shown registered later c early before

      some : 0 < p
      some = some_period p timing.cycles (ready_after timing edge.from) ready

      -- what a parameter gives, or the input at a hit
      module _ (initial : List Decimal) (stored : StoresEntry initial element (attributes.type_at block 1)
          (waves.first block element)) (t c : ℕ) (below : t < n) (early : c < suc k) (due : IsDue t c) where
        seen : IsSeenAt timing.cycles q (timing.latency block) (timing.ready block) t c
        seen = subst (λ (o : Option ℕ). IsSeen timing.cycles o (timing.latency block) (timing.ready block) t c) own due

        begun : (hit : Option ℕ) (v : ℤ) → hit ≡ None → v ≡ waves.first block element → IsInputAt diagram attributes stimulus table block initial element hit v
        begun hit v none is = subst (λ (o : Option ℕ). IsInputAt diagram attributes stimulus table block initial
            element o v) (sym none)
            (subst (λ (x : ℤ). StoresEntry initial element (attributes.type_at block 1) x) (sym is) stored)

        passed : (hit : Option ℕ) (h : ℕ) (v : ℤ) → hit ≡ Some h → v ≡ input h → IsInputAt diagram attributes stimulus table block initial element hit v
        passed hit h v some is = subst (λ (o : Option ℕ). IsInputAt diagram attributes stimulus table block initial element o v) (sym some) is

        -- a Delay
        pub delayed : (delay : ℕ) → 1 ≤ delay → q ≡ p → lag ≡ delay * p
            → IsInputAt diagram attributes stimulus table block initial element
            (slice_get (hits_before (Some q) t) (delay - 1)) (waves.offered block 1 element c)
        delayed delay one same lag_long =
            let i : ℕ = t / p in
            let hit : t % p ≡ 0 = subst (λ (m : ℕ). t % m ≡ 0) same seen.is_hit in
            let e : t ≡ i * p = hit-number t p hit in
            let from : (t + timing.latency block) * timing.cycles + timing.ready block ≤ c = seen.from in
            let until : c < (t + timing.latency block + p) * timing.cycles = subst (λ (m : ℕ). c < (t + timing.latency block + m) * timing.cycles) same seen.until in
            let hits : slice_get (hits_before (Some q) t) (delay - 1)
            ≡ slice_get (hits_before (Some p) (i * p)) (delay - 1) =
            ap (λ (m : ℕ). slice_get (hits_before (Some m) t) (delay - 1)) same
            ∙ ap (λ (x : ℕ). slice_get (hits_before (Some p) x) (delay - 1)) e in
            elim (cases_lt (delay - 1) i) [
              | inl enough ↦
                  let m : ℕ = i - 1 - (delay - 1) in
                  let whole : (m + delay) * p ≡ i * p = ap (λ (x : ℕ). x * p) (omega arith) in
                  let back : m * p + lag ≡ t = omega arith in
                  let start : (m * p + (timing.latency block + lag)) * timing.cycles ≡ (t + timing.latency block) * timing.cycles = ap (λ (x : ℕ). x * timing.cycles) (omega arith) in
                  let end : (m * p + (timing.latency block + lag) + p) * timing.cycles ≡ (t + timing.latency block + p) * timing.cycles = ap (λ (x : ℕ). x * timing.cycles) (omega arith) in
                  passed (slice_get (hits_before (Some q) t) (delay - 1)) (m * p) (waves.offered block 1 element c) (hits ∙ hit_at p i (delay - 1) some enough)
                  (late_shows (m * p) c (omega arith) early (mul-mod_left m p) (omega arith) (omega arith))
              | inr few ↦
                  let more : suc i * p ≤ delay * p = mul-le-mul_right p (omega arith) in
                  let end : (t + timing.latency block + p) * timing.cycles ≤ (timing.latency block + lag) * timing.cycles = mul-le-mul_right timing.cycles (omega arith) in
                  begun (slice_get (hits_before (Some q) t) (delay - 1)) (waves.offered block 1 element c) (hits ∙ no_hit_at p i (delay - 1) some few) (late_begins c early (omega arith))
            ]

        -- a transition from slow to fast
        pub slowed : lag ≡ p → IsInputAt diagram attributes stimulus table block initial element (slice_get (hits_before (Some p) (suc t)) 1) (waves.offered block 1 element c)
        slowed lag_one = go (t / p) refl
          where
            i : ℕ
            i = t / p

            split : t / p * p + t % p ≡ t
            split = div-add-mod' t p

            rest : t % p < p
            rest = mod_below t p some

            -- the next slow hit is no sooner than the next fast one
            next : t + q ≤ t / p * p + p
            next =
                let e : t / p * p + p ≡ suc (t / p) * p = omega arith in
                subst (λ (m : ℕ). t + q ≤ m) (sym e)
                (next_multiple q t (suc (t / p) * p) seen.is_hit
                (multiple_of (suc (t / p) * p) q p (mul-mod_left (suc (t / p)) p) late_edge.divides)
                (omega (arith, split, rest)))

            hits : slice_get (hits_before (Some p) (suc t)) 1 ≡ slice_get (hits_before (Some p) (t / p * p)) 0
            hits = ap (λ (list : List ℕ). slice_get list 1) (hits_after p (t / p * p) t (mul-mod_left (t / p) p) (omega (arith, split)) (omega (arith, split, rest)))

            from : (t + timing.latency block) * timing.cycles + timing.ready block ≤ c
            from = seen.from

            until : c < (t + timing.latency block + q) * timing.cycles
            until = seen.until

            go : (i : ℕ) → t / p ≡ i → IsInputAt diagram attributes stimulus table block initial element (slice_get (hits_before (Some p) (suc t)) 1) (waves.offered block 1 element c)
            go zero e =
                let none : t / p * p ≡ 0 * p = ap (λ (x : ℕ). x * p) e in
                let end : (t + timing.latency block + q) * timing.cycles ≤ (timing.latency block + lag) * timing.cycles = mul-le-mul_right timing.cycles (omega (arith, next, none, lag_one)) in
                begun (slice_get (hits_before (Some p) (suc t)) 1) (waves.offered block 1 element c)
                (hits ∙ ap (λ (x : ℕ). slice_get (hits_before (Some p) x) 0) none
                ∙ no_hit_at p 0 0 some (omega arith)) (late_begins c early (omega (arith, until, end)))
            go (suc j) e =
                let many : t / p * p ≡ suc j * p = ap (λ (x : ℕ). x * p) e in
                let back : suc j - 1 - 0 ≡ j = omega arith in
                let start : (j * p + (timing.latency block + lag)) * timing.cycles
                ≤ (t + timing.latency block) * timing.cycles =
                mul-le-mul_right timing.cycles (omega (arith, many, split, lag_one)) in
                let end : (t + timing.latency block + q) * timing.cycles
                ≤ (j * p + (timing.latency block + lag) + p) * timing.cycles =
                mul-le-mul_right timing.cycles (omega (arith, many, next, lag_one)) in
                passed (slice_get (hits_before (Some p) (suc t)) 1) (j * p) (waves.offered block 1 element c)
                (hits ∙ ap (λ (x : ℕ). slice_get (hits_before (Some p) x) 0) many ∙ hit_at p (suc j) 0 some (omega arith) ∙ ap (λ (x : ℕ). Some (x * p)) back)
                (late_shows (j * p) c (omega (arith, many, split, below)) early (mul-mod_left j p) (omega (arith, from, start)) (omega (arith, until, end)))

    -- ---- states
    module _ (q : ℕ) (own : attributes.period_at block ≡ Some q) where
      pub some_own : 0 < q
      some_own = some_period q timing.cycles (timing.ready block) (s.timed.ready block q own)

      abbrev pub span : Span
      span = span_at timing q block

      long : 0 < span.length
      long = let ready : timing.ready block < q * timing.cycles = s.timed.ready block q own in omega arith

      -- the last clock of a frame, by the number of the frame and by its hit
      end_is : (i : ℕ) → frame_end span i ≡ (i * q + timing.latency block + q) * timing.cycles - 1
      end_is i = omega arith

      -- what registers take, where it isn't a line with registers of its own
      module _ (lag : (p : ℕ) → attributes.period_at edge.from ≡ Some p → lag_into diagram attributes block b (Port 1) p ≡ None) where
        taken : (i : ℕ) → suc i * q < n → frame_end span i < k → waves.offered block 1 element (frame_end span i) ≡ input (i * q)
        taken i below early =
            let e = end_is i in
            ap (λ (c : ℕ). waves.offered block 1 element c) e
            ∙ offered_at_end s block b block_is showing 1 element edge driven reads (omega arith) single k q
            (omega arith) (all edge.from) lag own some_own (i * q) (omega arith) (mul-mod_left i q)
            (omega arith)

        -- in a frame that a hit begins
        seen_frame : (t c : ℕ) → IsDue t c → IsSeenAt timing.cycles q (timing.latency block) (timing.ready block) t c
        seen_frame t c due = subst (λ (o : Option ℕ). IsSeen timing.cycles o (timing.latency block) (timing.ready block) t c) own due

        module _ (initial : List Decimal) (stored : StoresEntry initial element (attributes.type_at block 1)
            (waves.first block element)) (t c : ℕ) (below : t < n) (early : c < suc k) (due : IsDue t c) where
          -- what registers that move as hits are counted have at hit t
          at_hit : (count : ℕ) (move : ℕ → Move) (hits : ℕ → List ℕ) → AreMoved k n span q count (waves.first block element) input move (waves.state block element) → hits 0 ≡ []
              → ((i : ℕ) → hits (suc i) ≡ moved_hits (move i) (i * q) (hits i)) → (j : ℕ) → j < count
              → IsInputAt diagram attributes stimulus table block initial element (slice_get (hits (t / q)) j)
              (waves.state block element (suc j) c)
          at_hit count move hits moved none next j less =
              let seen : IsSeenAt timing.cycles q (timing.latency block) (timing.ready block) t c = seen_frame t c due in
              let e : t ≡ t / q * q = hit-number t q seen.is_hit in
              let from : (t + timing.latency block) * timing.cycles + timing.ready block ≤ c = seen.from in
              let until : c < (t + timing.latency block + q) * timing.cycles = seen.until in
              let start : t * timing.cycles ≡ t / q * (q * timing.cycles) = ap (λ (x : ℕ). x * timing.cycles) e ∙ omega arith in
              states_hold k n span q count (waves.first block element) input move (waves.state block element)
              (λ v. StoresEntry initial element (attributes.type_at block 1) v) hits long stored moved none next
              (t / q) j c less (omega arith) early (λ pos. omega arith) (omega arith)

          -- a Delay whose source never changes
          pub still_delayed : (delay : ℕ) → 1 ≤ delay → IsSeries clocks span delay (waves.first block element) (waves.offered block 1 element) (waves.state block element)
              → IsInputAt diagram attributes stimulus table block initial element (slice_get (hits_before (Some q) t) (delay - 1)) (waves.state block element delay c)
          still_delayed delay one series =
              let seen : IsSeenAt timing.cycles q (timing.latency block) (timing.ready block) t c = seen_frame t c due in
              let e : t / q * q ≡ t = sym (hit-number t q seen.is_hit) in
              let last : suc (delay - 1) ≡ delay = omega arith in
              let none : 0 * q ≡ 0 = omega arith in
              let zero_hits : hits_before (Some q) (0 * q) ≡ [] = ap (λ (x : ℕ). hits_before (Some q) x) none in
              subst (λ (x : ℕ). IsInputAt diagram attributes stimulus table block initial element (slice_get (hits_before (Some q) x) (delay - 1)) (waves.state block element delay c)) e
              (subst (λ (m : ℕ). IsInputAt diagram attributes stimulus table block initial element (slice_get (hits_before (Some q) (t / q * q)) (delay - 1)) (waves.state block element m c)) last
              (at_hit delay (λ i. Move.Count) (λ i. hits_before (Some q) (i * q))
              (series_moves clocks k n span q delay (waves.first block element) input (waves.offered block 1 element) (waves.state block element) within long s.registers series taken)
              zero_hits (λ i. hits_next q i some_own) (delay - 1) (omega arith)))

          -- registers that are enabled
          module _ (control : ℕ) (is : b.enable ≡ Some control) (asks : asks_ever (row_of b.kind).timing.asks ≡ true) where
            enabling : (i : ℕ) → suc i * q < n → frame_end span i < k → waves.enable block (frame_end span i) ≡ table control 1 0 (i * q)
            enabling i less soon =
                let e = end_is i in
                ap (λ (c : ℕ). waves.enable block c) e
                ∙ enabled_at_end s block b block_is showing control is asks k q (omega arith) (all control) own some_own (i * q) (omega arith) (mul-mod_left i q) (omega arith)

            pub truth : (h : ℕ) → h < n → h % q ≡ 0 → IsTruth (table control 1 0 h)
            truth h less hit = go (attributes.period_at control) refl
              where
                origin : (x : Block) × IsShown diagram attributes control x 1 0
                origin = control_source s block b block_is showing control is asks

                role : is_control (row_of origin.0.kind).place.role ≡ true
                role =
                    ap is_control (MatchOption-at_some ⊥ (λ (x : Block). (row_of x.kind).place.role ≡ Role.Control) origin.0 origin.1.block_is
                    (subst (λ (o : Option ℕ). NamesControl diagram.blocks o) is (held (λ (x : Block). NamesControl diagram.blocks x.enable) diagram.blocks block b s.checked.wired.controls block_is)))

                at_hits : (m : ℕ) → m < n → Hits (attributes.period_at control) m → IsTruth (table control 1 0 m)
                at_hits m soon hits =
                    control_is_truth diagram attributes stimulus table origin.0.kind origin.0 control 1 0 m (table control 1 0 m) role
                    (MatchOption-at_some ⊥ (λ (x : Block). KindEquation diagram attributes stimulus table x.kind x
                    control 1 0 m (table control 1 0 m)) origin.0 origin.1.block_is
                    (s.solves.at_hits control origin.0 1 0 m origin.1 soon hits))

                go : (o : Option ℕ) → attributes.period_at control ≡ o → IsTruth (table control 1 0 h)
                go None e = subst IsTruth (sym (still_entry s control origin.0 1 0 origin.1 e h less)) (at_hits 0 (omega arith) (subst (λ (o : Option ℕ). Hits o 0) (sym e) refl))
                go (Some p) e = at_hits h less (subst (λ (o : Option ℕ). Hits o h) (sym e) (multiple_of h p q hit (control_hits s block b block_is showing control is asks q h own p e hit)))

            pub enabled_delayed : (delay : ℕ) (reset : Bool)
                → IsEnabledSeries clocks span delay reset (waves.first block element) (waves.enable block)
                (waves.offered block 1 element) (waves.state block element)
                → (j : ℕ) → j < delay → IsInputAt diagram attributes stimulus table block initial element
                (slice_get (counted_hits table (Some control) reset (Some q) t) j)
                (waves.state block element (suc j) c)
            enabled_delayed delay reset series j less =
                let seen : IsSeenAt timing.cycles q (timing.latency block) (timing.ready block) t c = seen_frame t c due in
                let e : t / q * q ≡ t = sym (hit-number t q seen.is_hit) in
                let none : 0 * q ≡ 0 = omega arith in
                let zero_hits : counted_hits table (Some control) reset (Some q) (0 * q) ≡ [] = ap (λ (x : ℕ). counted_hits table (Some control) reset (Some q) x) none ∙ empty reset in
                subst (λ (x : ℕ). IsInputAt diagram attributes stimulus table block initial element
                (slice_get (counted_hits table (Some control) reset (Some q) x) j)
                (waves.state block element (suc j) c)) e
                (at_hit delay (move_at clocks k n span q delay reset (waves.first block element) input
                (table control 1 0) (waves.enable block) (waves.offered block 1 element)
                (waves.state block element) within long s.enabled series taken enabling truths)
                (λ i. counted_hits table (Some control) reset (Some q) (i * q))
                (enabled_moves clocks k n span q delay reset (waves.first block element) input (table control 1 0)
                (waves.enable block) (waves.offered block 1 element)
                (waves.state block element) within long s.enabled series taken enabling truths)
                zero_hits (λ i. counted_next table control q reset i some_own) j less)
              where
                empty : (b : Bool) → counted_hits table (Some control) b (Some q) 0 ≡ []
                empty true = refl
                empty false = refl

                truths : (i : ℕ) → suc i * q < n → IsTruth (table control 1 0 (i * q))
                truths i l = truth (i * q) (omega arith) (mul-mod_left i q)
