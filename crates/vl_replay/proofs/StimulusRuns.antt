-- The inputs of a replay are driven by its stimulus, and 0 where nothing drives them.
use Rattle.std.proofs.Common.{◌≡◌, ◌<◌, ◌≤◌, ◌+◌, ◌*◌, ◌/◌, ◌%◌, ℕ, zero, suc, Bool, true, false, not, ◌||◌, ◌==◌, nat_lt, if◌then◌else◌, List, [], ◌∷◌, length, map, slice_get, slice_index, Contains}
use Rattle.std.proofs.Common.{bytes_eq, codes, Some, unwrap_or, refl, ap, ◌∙◌, arith}
use Rattle.std.proofs.lemmas.Bool.{cond-true, cond-false, and_parts, eq-eqb, not-true, lt-ltb, le-ltb}
use Rattle.std.proofs.lemmas.List.{length-map}
use Rattle.vl_ast.specs.declared.modules.Port.{Port}
use Rattle.vl_ast.specs.declared.modules.Module.{Module}
use Rattle.vl_ast.specs.Attributes.{cycles_of, period_of, clocks_of, step_of}
use Rattle.vl_ast.specs.Conditions.{BreaksNone}
use Rattle.vl_ast.specs.Control.{is_stallable}
use Rattle.vl_ast.specs.Driven.{stimulus_ports}
use Rattle.vl_ast.specs.Windows.{PortNumbers}
use Rattle.vl_ast.specs.Value.{bits_of}
use Rattle.vl_ast.proofs.Alone.{reset-port}
use Rattle.vl_ast.proofs.SomeInputs.{last-hit}
use Rattle.vl_ast.proofs.StallFree.{bit-port}
use Rattle.vl_ast.proofs.FullCounts.{AllCount, shows-clocks}
use Rattle.vl_ast.proofs.PortLists.{ApartAt, filter-in, filtered-apart, ports-apart, slice-in}
use Rattle.vl_eval.specs.Given.{driven_ports, given}
use Rattle.vl_eval.proofs.EdgeBits.{filter-has, given-at, given-none}
use Rattle.vl_replay.specs.declared.drivers.Driver.{Driver}
use Rattle.vl_replay.specs.declared.drivers.Driver.TheVariants.{Column}
use Rattle.vl_replay.specs.Sampled.{AreReplayed, hit_at, window_of}
use Rattle.vl_replay.specs.inner.Drivers.{driver_bits, drivers_from, inputs_of}
use Rattle.vl_replay.proofs.Bits.{drivers-long, enabled, is_driven, released, reset-one, reset-others, stimulus-driver}
use Rattle.math_list.proofs.Places.{there_within, there_map}

indexed : (xs : List ℕ) (k x : ℕ) → slice_get xs k ≡ Some x → slice_index xs k ≡ x
indexed [] k x e = absurd (cc e)
indexed (y ∷ xs) zero x e = cc e
indexed (y ∷ xs) (suc k) x e = indexed xs k x e

-- every row from clock 0 on counts
pub all-count : (m : Module) (count : ℕ) (inputs : ℕ → List ℕ → ℕ) → (is_stallable m ≡ true → (k : ℕ) → 1 < k → k < count → inputs k (codes "clk_enable") ≡ 1) → AllCount m (window_of count) inputs
all-count m count inputs on j below = by (is_stallable m) refl where
  by : (s : Bool) → is_stallable m ≡ s → (not s || inputs (1 + 1 + j) (codes "clk_enable") == 1) ≡ true
  by false e = refl
  by true e = eq-eqb (inputs (1 + 1 + j) (codes "clk_enable")) 1 (on e (1 + 1 + j) (omega arith) below)

module _ (m : Module) (sound : BreaksNone m) (numbers : PortNumbers) (samples : ℕ) where
  abbrev drivers : List Driver
  drivers = drivers_from (is_stallable m) 0 (driven_ports m)

  abbrev inputs : ℕ → List ℕ → ℕ
  inputs = inputs_of m numbers samples

  apart : ApartAt (driven_ports m)
  apart = filtered-apart is_driven m.ports (ports-apart m sound.acyclic.driven sound.acyclic.once)

  -- what a stimulus port shows at a clock
  shown : (place clock : ℕ) (port : Port) → slice_get (stimulus_ports m) place ≡ Some port
      → inputs (suc (suc clock)) port.name ≡ driver_bits numbers samples (clock / clocks_of m) (Column place (step_of port) port.width)
  shown place clock port there =
      let d = stimulus-driver (is_stallable m) m.ports 0 place port there in
      let of = driver_bits numbers samples (clock / clocks_of m) in
      let long : d.at < length (map of drivers) =
      (let a = there_within (driven_ports m) d.at port d.port_is in let b =
      drivers-long (is_stallable m) 0 (driven_ports m) in let c =
      length-map drivers of in omega (arith, a, b, c)) in
      let start : 0 + place ≡ place = omega arith in
      given-at (driven_ports m) apart (map of drivers) d.at port d.port_is long
      ∙ indexed (map of drivers) d.at (of (Column (0 + place) (step_of port) port.width)) (there_map of drivers d.at (Column (0 + place) (step_of port) port.width) d.driver_is)
      ∙ ap (λ p. of (Column p (step_of port) port.width)) start

  steps : (port : Port) (period : ℕ) → period_of port ≡ Some period → step_of port ≡ period
  steps port period e = ap (λ o. unwrap_or o 1) e

  clocks : (cycles : ℕ) → cycles_of m ≡ Some cycles → clocks_of m ≡ cycles
  clocks cycles e = ap (λ o. unwrap_or o 1) e

  column : (place clock period cycles : ℕ) (port : Port) → slice_get (stimulus_ports m) place ≡ Some port → period_of port ≡ Some period → cycles_of m ≡ Some cycles
      → inputs (suc (suc clock)) port.name ≡ driver_bits numbers samples (clock / cycles) (Column place period port.width)
  column place clock period cycles port there ep ec =
      shown place clock port there
      ∙ ap (λ f. driver_bits numbers samples (clock / f) (Column place (step_of port) port.width)) (clocks cycles ec)
      ∙ ap (λ p. driver_bits numbers samples (clock / cycles) (Column place p port.width)) (steps port period ep)

  reset-driven : (port : Port) → Contains m.ports port → port.name ≡ codes "reset" → port.input ≡ true → Contains (driven_ports m) port
  reset-driven port c named input = filter-has is_driven m.ports port c (rw (input, named) refl)

  enable-driven : (port : Port) → Contains m.ports port → port.name ≡ codes "clk_enable" → port.input ≡ true → Contains (driven_ports m) port
  enable-driven port c named input = filter-has is_driven m.ports port c (rw (input, named) refl)

  pub replayed : (count : ℕ) → 1 < count → AreReplayed m numbers samples count (inputs_of m numbers samples)
  replayed count some = record {
    driven = record {
      reset = record {
        within = some;
        reset = let p = reset-port m sound.clocked in reset-one (is_stallable m) 0 (driven_ports m) p.0 (reset-driven p.0 p.1 p.2 p.3) p.2;
        released = after;
      };
      shows = λ cycles ec place port there period ep t below hit.
          shows-clocks m (window_of count) inputs (all-count m count inputs turned-on) inputs port.name port.width (numbers place t) (t * cycles) ((t + period) * cycles)
          (λ clock from until among.
          ap (λ k. inputs k port.name) (clock-row clock)
          ∙ column place clock period cycles port there ep ec
          ∙ driven-at place period cycles t clock port.width below hit from until);
    };
    enabled = turned-on;
    first = λ port c input. refl;
    reset = λ port c input other. reset-others (is_stallable m) 0 (driven_ports m) port.name other;
    clock = unclocked;
    idle = λ cycles ec place port there period ep clock among past.
        ap (λ k. inputs k port.name) (clock-row clock)
        ∙ column place clock period cycles port there ep ec
        ∙ cond-false (nat_lt (hit_at period (clock / cycles)) samples) _ 0 (le-ltb (hit_at period (clock / cycles)) samples past);
  }
    where
      clock-row : (clock : ℕ) → 1 + 1 + clock ≡ suc (suc clock)
      clock-row clock = omega arith

      turned-on : is_stallable m ≡ true → (k : ℕ) → 1 < k → k < count → inputs k (codes "clk_enable") ≡ 1
      turned-on stalls zero low high = absurd (omega (arith, low))
      turned-on stalls (suc zero) low high = absurd (omega (arith, low))
      turned-on stalls (suc (suc clock)) low high =
          let p = bit-port (codes "clk_enable") m.ports stalls in
          ap (λ s. given (driven_ports m) (map (driver_bits numbers samples (clock / clocks_of m)) (drivers_from s 0 (driven_ports m))) (codes "clk_enable")) stalls
          ∙ enabled numbers samples (clock / clocks_of m) 0 (driven_ports m) p.0 (enable-driven p.0 p.1 p.2 p.3) p.2

      unclocked : (k : ℕ) → k < count → inputs k (codes "clk") ≡ 0
      unclocked zero low = refl
      unclocked (suc zero) low = reset-others (is_stallable m) 0 (driven_ports m) (codes "clk") refl
      unclocked (suc (suc clock)) low = given-none (driven_ports m) (map (driver_bits numbers samples (clock / clocks_of m)) drivers) (codes "clk")
          (λ k port e. not-true (bytes_eq port.name (codes "clk"))
          (and_parts port.input (not (bytes_eq port.name (codes "clk")))
          (filter-in is_driven m.ports port (slice-in (driven_ports m) k port e)).1).1)

      after : (k : ℕ) → 1 < k → k < count → inputs k (codes "reset") ≡ 0
      after zero low high = absurd (omega (arith, low))
      after (suc zero) low high = absurd (omega (arith, low))
      after (suc (suc clock)) low high = released numbers samples (clock / clocks_of m) (is_stallable m) 0 (driven_ports m)

      driven-at : (place period cycles t clock width : ℕ) → t < samples → t % period ≡ 0 → t * cycles ≤ clock → clock < (t + period) * cycles
          → driver_bits numbers samples (clock / cycles) (Column place period width) ≡ bits_of width (numbers place t)
      driven-at place period cycles t clock width below hit from until =
          let is = last-hit cycles period t clock hit from until in
          ap (λ h. if nat_lt h samples then bits_of width (numbers place h) else 0) is
          ∙ cond-true (nat_lt t samples) (bits_of width (numbers place t)) 0 (lt-ltb t samples below)
