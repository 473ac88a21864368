-- What a small diagram owes at each port of its blocks.
use Rattle.std.proofs.Common.{◌≡◌, ℕ, zero, suc, ◌≤◌, Option, Some, None, ap, sym, ◌∙◌, subst, refl, arith}
use Rattle.std.proofs.Math.Nat.{mod_self}
use Rattle.std.proofs.lemmas.Option.{none-some, same_Some}
use Rattle.dg_model.specs.declared.diagram.Diagram.{Diagram}
use Rattle.dg_model.specs.declared.diagram.Block.{Block}
use Rattle.dg_model.specs.declared.diagram.Edge.{Edge}
use Rattle.dg_model.specs.declared.nested.Target.{Target}
use Rattle.dg_model.specs.declared.nested.Target.TheVariants.{Port, Enable}
use Rattle.dg_model.specs.Signals.{Attributes}
use Rattle.dg_model.specs.Wires.{driver_of, repeated}
use Rattle.hw_shows.specs.Timing.{Timing, IsEdgeInTime, latency_after}
use Rattle.hw_shows.specs.Timed.{Feeds, IsInTime, lag_into}
use Rattle.hw_shows.specs.Waves.{Waves, IsOfferedAt}

-- ---- times
module _ (diagram : Diagram) (attributes : Attributes) (timing : Timing) where
  abbrev pub InTime : ℕ → Block → Target → Type 0
  InTime block b target = (from source : ℕ) → Feeds diagram block b target from → attributes.period_at from ≡ Some source → IsInTime diagram attributes timing block b target from source

  -- the edge into a port is one
  pub port_in_time : (block : ℕ) (b : Block) (port : ℕ) (edge : Edge) (period : ℕ) → driver_of diagram block port ≡ Some edge → attributes.period_at edge.from ≡ Some period
      → IsInTime diagram attributes timing block b (Port port) edge.from period → InTime block b (Port port)
  port_in_time block b port edge period driver is time from source feeds at =
      let same : edge.from ≡ from = ap (λ (x : Edge). x.from) (same_Some edge feeds.0 (sym driver ∙ feeds.3)) ∙ feeds.4 in
      let source_is : period ≡ source = same_Some period source (sym is ∙ ap (λ (x : ℕ). attributes.period_at x) same ∙ at) in
      subst (λ (x : ℕ). IsInTime diagram attributes timing block b (Port port) from x) source_is (subst (λ (x : ℕ). IsInTime diagram attributes timing block b (Port port) x period) same time)

  -- an edge without registers in one period is in time, where its source is early enough
  pub plain_in_time : (block : ℕ) (b : Block) (port : ℕ) (edge : Edge) (period : ℕ)
      → driver_of diagram block port ≡ Some edge → attributes.period_at edge.from ≡ Some period
      → attributes.period_at block ≡ Some period
      → lag_into diagram attributes block b (Port port) period ≡ None → latency_after timing period edge.from ≤ timing.latency block → timing.ready edge.from ≤ timing.ready block
      → ((element slot : ℕ) → timing.slot block element ≡ Some slot → timing.ready edge.from ≤ slot) → InTime block b (Port port)
  plain_in_time block b port edge period driver from_is own_is plain late ready slot =
      port_in_time block b port edge period driver from_is (record {
        own = period;
        period = own_is;
        same = λ joins. refl;
        edge = subst (λ (lag : Option ℕ). IsEdgeInTime timing edge.from period block period lag) (sym plain) (record { divides = mod_self period; behind = late });
        ready = λ takes. ready;
        slot = slot;
      })

  pub no_ports_in_time : (block : ℕ) (b : Block) → b.inputs ≡ 0 → (port : ℕ) → InTime block b (Port port)
  no_ports_in_time block b none port from source feeds at = absurd (omega (arith, none, feeds.1, feeds.2))

  pub one_port_in_time : (block : ℕ) (b : Block) → b.inputs ≡ 1 → InTime block b (Port 1) → (port : ℕ) → InTime block b (Port port)
  one_port_in_time block b one first zero from source feeds at = absurd (omega (arith, feeds.1))
  one_port_in_time block b one first (suc zero) from source feeds at = first from source feeds at
  one_port_in_time block b one first (suc (suc port)) from source feeds at = absurd (omega (arith, one, feeds.2))

  -- outside enabled subsystems
  pub outside : (block : ℕ) (b : Block) → b.enable ≡ None → ((port : ℕ) → InTime block b (Port port)) → (target : Target) → InTime block b target
  outside block b free ports (Port port) from source feeds at = ports port from source feeds at
  outside block b free ports Enable from source feeds at = absurd (none-some from (sym free ∙ feeds.0))

  pub no_ends_in_time : (block : ℕ) (b : Block) → b.inputs ≡ 0 → b.enable ≡ None → (target : Target) → InTime block b target
  no_ends_in_time block b none free = outside block b free (no_ports_in_time block b none)

-- ---- waves
module _ (diagram : Diagram) (attributes : Attributes) (timing : Timing) (clocks : ℕ) (waves : Waves) where
  -- what a port is offered of the edge into it
  abbrev pub IsOfferedBy : ℕ → Block → ℕ → ℕ → Edge → Type 0
  IsOfferedBy block b port element edge =
      IsOfferedAt diagram attributes timing clocks waves block b (Port port) edge.from (waves.first block element)
      (waves.after edge.from edge.from_port (repeated (attributes.width_at edge.from edge.from_port) element)) (waves.offered block port element)

  abbrev pub IsOfferedTo : ℕ → Block → ℕ → Type 0
  IsOfferedTo block b port = (element : ℕ) (edge : Edge) → driver_of diagram block port ≡ Some edge → IsOfferedBy block b port element edge

  pub port_offered : (block : ℕ) (b : Block) (port : ℕ) (edge : Edge) → driver_of diagram block port ≡ Some edge → ((element : ℕ) → IsOfferedBy block b port element edge) → IsOfferedTo block b port
  port_offered block b port edge driver offered element other is = subst (λ (x : Edge). IsOfferedBy block b port element x) (same_Some edge other (sym driver ∙ is)) (offered element)

  abbrev pub AreOfferedTo : ℕ → Block → Type 0
  AreOfferedTo block b = (port : ℕ) → 1 ≤ port → port ≤ b.inputs → IsOfferedTo block b port

  pub no_ports_offered : (block : ℕ) (b : Block) → b.inputs ≡ 0 → AreOfferedTo block b
  no_ports_offered block b none port from to = absurd (omega (arith, none, from, to))

  pub one_port_offered : (block : ℕ) (b : Block) → b.inputs ≡ 1 → IsOfferedTo block b 1 → AreOfferedTo block b
  one_port_offered block b one first zero from to = absurd (omega (arith, from))
  one_port_offered block b one first (suc zero) from to = first
  one_port_offered block b one first (suc (suc port)) from to = absurd (omega (arith, one, to))
