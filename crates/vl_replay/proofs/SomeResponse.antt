-- Of a module that breaks no condition some table is sampled.
use Rattle.std.proofs.Common.{◌≡◌, ◌<◌, ◌≤◌, ◌+◌, ◌*◌, ◌/◌, ◌^◌, ⊎_elim, ℕ, zero, suc, true, false, not, List, length, map, Contains, bytes_eq, codes, Some, unwrap_or, ℤ, refl, sym, ap, subst, ◌∙◌}
use Rattle.std.proofs.Common.{arith}
use Rattle.std.proofs.lemmas.Bool.{cases_Bool, not-true, and_parts}
use Rattle.std.proofs.lemmas.List.{length-map}
use Rattle.std.proofs.lemmas.Nat.{pow_pos}
use Rattle.std.proofs.Math.Nat.{mul-le-mul_right}
use Rattle.std.proofs.lemmas.Slice.Eq.{bytes_eq-Decides}
use Rattle.vl_ast.specs.declared.modules.Port.{Port}
use Rattle.vl_ast.specs.declared.modules.Module.{Module}
use Rattle.vl_ast.specs.Attributes.{clocks_of, lateness_of, step_of}
use Rattle.vl_ast.specs.Conditions.{BreaksNone, is_width}
use Rattle.vl_ast.specs.Control.{is_stallable}
use Rattle.vl_ast.specs.Driven.{output_ports, port_number}
use Rattle.vl_ast.specs.Room.{HasRoom, HasRows}
use Rattle.vl_ast.specs.Runs.{Rows}
use Rattle.vl_ast.specs.Windows.{PortNumbers, Sample, row_at}
use Rattle.vl_ast.proofs.PortLists.{ApartAt, filter-in, filtered-apart, ports-apart, slice-in}
use Rattle.vl_ast.proofs.Ranges.{late-few}
use Rattle.vl_eval.specs.Given.{driven_ports, given}
use Rattle.vl_eval.specs.Machine.{AreFit}
use Rattle.vl_eval.proofs.EdgeBits.{filter-has, given-at, given-none}
use Rattle.vl_eval.proofs.Sounds.{port-narrow}
use Rattle.vl_replay.specs.declared.drivers.Driver.{Driver}
use Rattle.vl_replay.specs.Sampled.{HasTable, hit_at, window_of}
use Rattle.vl_replay.specs.inner.Drivers.{driver_bits, driver_of, drivers_from, inputs_of, reset_bits}
use Rattle.vl_replay.proofs.Bits.{driver-fits, fit-from, is_driven, reset-fits}
use Rattle.math_list.proofs.Places.{there_within, there_map}
use Rattle.vl_replay.proofs.OneResponse.{place-of}
use Rattle.vl_replay.proofs.Rows.{zeros}
use Rattle.vl_replay.proofs.StimulusRuns.{replayed}
use Rattle.vl_replay.proofs.Times.{hit-below}

module _ (some : (m : Module) (count : ℕ) (start : List ℕ → ℕ) (inputs : ℕ → List ℕ → ℕ) → BreaksNone m → HasRoom m count start inputs → HasRows m count start inputs)
    (m : Module) (sound : BreaksNone m) (numbers : PortNumbers) (samples : ℕ) where
  abbrev inputs : Rows
  inputs = inputs_of m numbers samples

  abbrev f : ℕ
  f = clocks_of m

  apart-ports : ApartAt (driven_ports m)
  apart-ports = filtered-apart is_driven m.ports (ports-apart m sound.acyclic.driven sound.acyclic.once)

  fit : (bits : List ℕ) → AreFit (driven_ports m) bits → (port : Port) → Contains m.ports port → port.input ≡ true → given (driven_ports m) bits port.name < 2 ^ port.width
  fit bits are port c input = ⊎_elim clocked other (cases_Bool (bytes_eq port.name (codes "clk"))) where
    clocked : bytes_eq port.name (codes "clk") ≡ true → given (driven_ports m) bits port.name < 2 ^ port.width
    clocked e =
        let name = (bytes_eq-Decides port.name (codes "clk")).0 e in
        let zero-is : given (driven_ports m) bits port.name ≡ 0 = ap (given (driven_ports m) bits) name ∙ given-none (driven_ports m) bits (codes "clk")
        (λ k p there. not-true (bytes_eq p.name (codes "clk")) (and_parts p.input (not (bytes_eq p.name (codes "clk"))) (filter-in is_driven m.ports p (slice-in (driven_ports m) k p there)).1).1) in
        subst (λ n. n < 2 ^ port.width) (sym zero-is) (pow_pos port.width)

    other : bytes_eq port.name (codes "clk") ≡ false → given (driven_ports m) bits port.name < 2 ^ port.width
    other e =
        let found = place-of (driven_ports m) port (filter-has is_driven m.ports port c (rw (input, e) refl)) in
        let low : found.0 < length bits = (let h = there_within (driven_ports m) found.0 port found.1 in let l = are.count in omega (arith, h, l)) in
        subst (λ n. n < 2 ^ port.width) (sym (given-at (driven_ports m) apart-ports bits found.0 port found.1 low)) (are.narrow found.0 port found.1)

  drivers-fit : (of : Driver → ℕ) → ((place : ℕ) (port : Port) → is_width port.width ≡ true → of (driver_of (is_stallable m) place port) < 2 ^ port.width)
      → AreFit (driven_ports m) (map of (drivers_from (is_stallable m) 0 (driven_ports m)))
  drivers-fit of each = fit-from of (is_stallable m) each 0 (driven_ports m) (λ port c. port-narrow m sound.narrow port (filter-in is_driven m.ports port c).0)

  room : (k : ℕ) (port : Port) → Contains m.ports port → port.input ≡ true → inputs k port.name < 2 ^ port.width
  room zero port c input = pow_pos port.width
  room (suc zero) port c input = fit _ (drivers-fit reset_bits (reset-fits (is_stallable m))) port c input
  room (suc (suc clock)) port c input = fit _ (drivers-fit (driver_bits numbers samples (clock / f)) (driver-fits numbers samples (clock / f) (is_stallable m))) port c input

  abbrev count : ℕ
  count = 2 + (samples * f + 16777217)

  run : HasRows m count zeros inputs
  run = some m count zeros inputs sound (record { started = λ signed width name there. pow_pos width; driven = λ k below port c input. room k port c input })

  number : Sample → Port → ℤ
  number t port = port_number port (run.0 (2 + (hit_at (step_of port) t * f + lateness_of port)) port.name)

  pub some-table : HasTable m numbers samples
  unfolding number
  some-table = record {
    table = λ t. map (number t) (output_ports m);
    sampled = record {
      count = count;
      inputs = inputs;
      rows = run.0;
      driven = replayed m sound numbers samples count (omega arith);
      runs = run.1;
      long = λ t below. length-map (output_ports m) (number t);
      shows = λ cycles ec place port there period latency ep el t below.
          let c : clocks_of m ≡ cycles = ap (λ o. unwrap_or o 1) ec in
          let p : step_of port ≡ period = ap (λ o. unwrap_or o 1) ep in
          let l : lateness_of port ≡ latency = ap (λ o. unwrap_or o 0) el in
          let place-is : hit_at (step_of port) t * f + lateness_of port ≡ hit_at period t * cycles + latency =
          ap (λ g. hit_at g t * f + lateness_of port) p ∙ ap (λ g. hit_at period t * g + lateness_of port) c ∙ ap (λ g. hit_at period t * cycles + g) l in
          let h = hit-below (step_of port) t in
          let le : hit_at (step_of port) t * f ≤ samples * f = mul-le-mul_right f (omega (arith, h, below)) in
          let few = late-few port in
          let row : row_at (window_of count) (hit_at period t * cycles + latency) ≡ 2 + (hit_at (step_of port) t * f + lateness_of port) = omega (arith, place-is) in (
            omega (arith, le, few, place-is),
            there_map (number t) (output_ports m) place port there ∙ ap Some (ap (λ k. port_number port (run.0 k port.name)) (sym row)),
          );
    };
  }
