-- What a score has, and the bits that it gives.
use Rattle.std.proofs.Common.{◌≡◌, ◌<◌, ◌≤◌, ◌+◌, ◌^◌, if◌then◌else◌, inl, inr, ℕ, zero, suc, Bool, true, false, List, [], ◌∷◌, length, map, filter, slice_get, Contains, bytes_eq, codes, Some, refl}
use Rattle.std.proofs.Common.{sym, ap, subst, ◌∙◌, arith}
use Rattle.std.proofs.lemmas.Bool.{cond-true, cond-false}
use Rattle.std.proofs.lemmas.List.{length-map}
use Rattle.std.proofs.Math.Nat.{div-le_self}
use Rattle.vl_ast.specs.declared.modules.Port.{Port}
use Rattle.vl_ast.specs.declared.modules.Module.{Module}
use Rattle.vl_ast.specs.Conditions.{is_width}
use Rattle.vl_ast.specs.Control.{is_number_input, is_stallable}
use Rattle.vl_ast.specs.Driven.{output_ports}
use Rattle.math_list.proofs.Elements.{head-in, tail-in}
use Rattle.vl_eval.specs.Given.{driven_ports}
use Rattle.vl_eval.specs.Machine.{AreFit}
use Rattle.vl_eval.proofs.Sounds.{port-narrow}
use Rattle.vl_replay.specs.declared.drivers.Driver.{Driver}
use Rattle.vl_replay.specs.declared.drivers.Driver.TheVariants.{Reset, Enable, Column}
use Rattle.vl_replay.specs.declared.playing.Score.{Score}
use Rattle.vl_replay.specs.declared.samplers.Sampler.{Sampler}
use Rattle.vl_replay.specs.inner.Drivers.{AreBits, AreWithin, IsWithin, driver_of, drivers_from, is_own, own_driver, place_after}
use Rattle.vl_replay.specs.inner.Samplers.{sampler_of}
use Rattle.vl_replay.specs.inner.Play.{AreNear, IsScoreOf}
use Rattle.vl_replay.proofs.Bits.{bits-are, fit-from, is_driven, is_reset, not-stimulus, stimulus-of}
use Rattle.vl_ast.proofs.Ranges.{late-few, step-some}
use Rattle.vl_ast.specs.Attributes.{clocks_of, lateness_of, most_latency, step_of}
use Rattle.vl_ast.proofs.PortLists.{filter-in}

abbrev Narrow : List Port → Type 0
Narrow ports = (port : Port) → Contains ports port → is_width port.width ≡ true

-- of a list of mapped elements each is that of one of them
pub mapped-back : {A B : Type 0} (f : A → B) (P : B → Type 0) (xs : List A) → ((x : A) → P (f x)) → (k : ℕ) (y : B) → slice_get (map f xs) k ≡ Some y → P y
mapped-back f P [] each k y e = absurd (cc e)
mapped-back f P (x ∷ xs) each zero y e = subst P (cc e) (each x)
mapped-back f P (x ∷ xs) each (suc k) y e = mapped-back f P xs each k y e

-- the drivers' columns stand among those of the stimulus
within-from : (stalls : Bool) (ports : List Port) → Narrow ports → (offset all : ℕ)
    → offset + length (filter (is_number_input stalls) ports) ≤ all → (k : ℕ) (driver : Driver)
    → slice_get (drivers_from stalls offset (filter is_driven ports)) k ≡ Some driver → IsWithin all driver
within-from stalls [] narrow offset all fits k driver e = absurd (cc e)
within-from stalls (first ∷ ports) narrow offset all fits k driver e =
    by (λ offset fits k. within-from stalls ports
    (λ port c. narrow port (tail-in first port ports c)) offset all fits k driver) first.input
    (bytes_eq first.name (codes "clk")) (is_own stalls first) refl refl refl where
      skipped : ((offset : ℕ) → offset + length (filter (is_number_input stalls) ports) ≤ all → (k : ℕ)
          → slice_get (drivers_from stalls offset (filter is_driven ports)) k ≡ Some driver → IsWithin all driver)
          → is_number_input stalls first ≡ false → is_driven first ≡ false → IsWithin all driver
      skipped rest s d =
          let shorter : length (filter (is_number_input stalls) (first ∷ ports))
          ≡ length (filter (is_number_input stalls) ports) =
          ap length (cond-false (is_number_input stalls first) (first ∷ filter (is_number_input stalls) ports)
          (filter (is_number_input stalls) ports) s) in
          let whole : filter is_driven (first ∷ ports) ≡ filter is_driven ports = cond-false (is_driven first) (first ∷ filter is_driven ports) (filter is_driven ports) d in
          rest offset (omega (arith, fits, shorter)) k (subst (λ xs. slice_get (drivers_from stalls offset xs) k ≡ Some driver) whole e)

      own-within : (t : Bool) → IsWithin all (if t then Reset else Enable)
      own-within true = tt
      own-within false = tt

      passed : ((offset : ℕ) → offset + length (filter (is_number_input stalls) ports) ≤ all → (k : ℕ)
          → slice_get (drivers_from stalls offset (filter is_driven ports)) k ≡ Some driver → IsWithin all driver)
          → is_number_input stalls first ≡ false → is_driven first ≡ true → is_own stalls first ≡ true → (k : ℕ)
          → slice_get (driver_of stalls offset first
          ∷ drivers_from stalls (place_after stalls offset first) (filter is_driven ports)) k ≡ Some driver
          → IsWithin all driver
      passed rest s d r zero f = subst (λ (x : Driver). IsWithin all x) (cc f)
          (subst (λ (x : Driver). IsWithin all x)
          (sym (cond-true (is_own stalls first) (own_driver first) (Column offset (step_of first) first.width) r))
          (own-within (is_reset first)))
      passed rest s d r (suc k) f =
          let shorter : length (filter (is_number_input stalls) (first ∷ ports))
          ≡ length (filter (is_number_input stalls) ports) =
          ap length (cond-false (is_number_input stalls first) (first ∷ filter (is_number_input stalls) ports)
          (filter (is_number_input stalls) ports) s) in
          let next : place_after stalls offset first ≡ offset = cond-true (is_own stalls first) offset (offset + 1) r in
          rest offset (omega (arith, fits, shorter)) k (subst (λ o. slice_get (drivers_from stalls o (filter is_driven ports)) k ≡ Some driver) next f)

      taken : ((offset : ℕ) → offset + length (filter (is_number_input stalls) ports) ≤ all → (k : ℕ)
          → slice_get (drivers_from stalls offset (filter is_driven ports)) k ≡ Some driver → IsWithin all driver)
          → is_number_input stalls first ≡ true → is_driven first ≡ true → is_own stalls first ≡ false → (k : ℕ)
          → slice_get (driver_of stalls offset first
          ∷ drivers_from stalls (place_after stalls offset first) (filter is_driven ports)) k ≡ Some driver
          → IsWithin all driver
      taken rest s d r zero f =
          let longer : length (filter (is_number_input stalls) (first ∷ ports))
          ≡ suc (length (filter (is_number_input stalls) ports)) =
          ap length (cond-true (is_number_input stalls first) (first ∷ filter (is_number_input stalls) ports)
          (filter (is_number_input stalls) ports) s) in
          let some = (step-some first).0 in
          subst (λ (x : Driver). IsWithin all x) (cc f)
          (subst (λ (x : Driver). IsWithin all x)
          (sym (cond-false (is_own stalls first) (own_driver first)
          (Column offset (step_of first) first.width) r))
          (omega (arith, fits, longer), omega (arith, some), narrow first (head-in first ports)))
      taken rest s d r (suc k) f =
          let longer : length (filter (is_number_input stalls) (first ∷ ports))
          ≡ suc (length (filter (is_number_input stalls) ports)) =
          ap length (cond-true (is_number_input stalls first) (first ∷ filter (is_number_input stalls) ports)
          (filter (is_number_input stalls) ports) s) in
          let next : place_after stalls offset first ≡ offset + 1 = cond-false (is_own stalls first) offset (offset + 1) r in
          rest (offset + 1) (omega (arith, fits, longer)) k (subst (λ o. slice_get (drivers_from stalls o (filter is_driven ports)) k ≡ Some driver) next f)

      headed : is_driven first ≡ true → slice_get (driver_of stalls offset first ∷ drivers_from stalls (place_after stalls offset first) (filter is_driven ports)) k ≡ Some driver
      headed d = subst (λ xs. slice_get (drivers_from stalls offset xs) k ≡ Some driver) (cond-true (is_driven first) (first ∷ filter is_driven ports) (filter is_driven ports) d) e

      by : ((offset : ℕ) → offset + length (filter (is_number_input stalls) ports) ≤ all → (k : ℕ)
          → slice_get (drivers_from stalls offset (filter is_driven ports)) k ≡ Some driver → IsWithin all driver)
          → (input clk own : Bool) → first.input ≡ input → bytes_eq first.name (codes "clk") ≡ clk → is_own stalls first ≡ own → IsWithin all driver
      by rest false clk own i c r = skipped rest (rw i refl) (rw i refl)
      by rest true true own i c r = skipped rest (not-stimulus stalls first (inl c)) (rw (i, c) refl)
      by rest true false true i c r = let d : is_driven first ≡ true = rw (i, c) refl in passed rest (not-stimulus stalls first (inr r)) d r k (headed d)
      by rest true false false i c r = let d : is_driven first ≡ true = rw (i, c) refl in taken rest (stimulus-of stalls first i c r) d r k (headed d)

module _ (m : Module) (score : Score) (is : IsScoreOf m score) where
  driven-narrow : Narrow (driven_ports m)
  driven-narrow port c = port-narrow m is.sound.narrow port (filter-in is_driven m.ports port c).0

  pub within-columns : AreWithin score.stimulus.columns score.drivers.items
  within-columns = record {
    at = λ k driver e. within-from (is_stallable m) m.ports (port-narrow m is.sound.narrow) 0 score.stimulus.columns
        (let c = is.columns in omega (arith, c)) k driver (ap (λ xs. slice_get xs k) (sym is.drivers) ∙ e);
  }

  -- bits that are each driver's fit where each driver's does
  pub bits-of-score : (of : Driver → ℕ) (bits : List ℕ) → AreBits of score.drivers.items (length score.drivers.items) bits → bits ≡ map of (drivers_from (is_stallable m) 0 (driven_ports m))
  bits-of-score of bits are = bits-are of score.drivers.items bits are.long are.at ∙ ap (map of) is.drivers

  pub fit-score : (of : Driver → ℕ) → ((place : ℕ) (port : Port) → is_width port.width ≡ true → of (driver_of (is_stallable m) place port) < 2 ^ port.width)
      → (bits : List ℕ) → AreBits of score.drivers.items (length score.drivers.items) bits → AreFit (driven_ports m) bits
  fit-score of each bits are = subst (λ xs. AreFit (driven_ports m) xs) (sym (bits-of-score of bits are)) (fit-from of (is_stallable m) each 0 (driven_ports m) driven-narrow)

  pub samplers-many : length score.samplers.items ≡ length (output_ports m)
  samplers-many = ap length is.samplers ∙ length-map (output_ports m) (sampler_of (clocks_of m))

  pub samplers-step : (place : ℕ) (sampler : Sampler) → slice_get score.samplers.items place ≡ Some sampler → 0 < sampler.period
  samplers-step place sampler e = mapped-back (sampler_of (clocks_of m)) (λ (s : Sampler). 0 < s.period)
      (output_ports m) (λ port. let s = (step-some port).0 in omega (arith, s)) place sampler
      (ap (λ xs. slice_get xs place) (sym is.samplers) ∙ e)

-- samplers of outputs are near, whatever the clocks of a sample
pub samplers-near : (cycles : ℕ) (ports : List Port) (samplers : List Sampler) → samplers ≡ map (sampler_of cycles) ports → AreNear samplers
samplers-near cycles ports samplers is = record {
  delay = λ place sampler e. mapped-back (sampler_of cycles) (λ (s : Sampler). s.delay ≤ most_latency) ports
      (λ port. let l = late-few port in let d = div-le_self (lateness_of port) cycles in omega (arith, l, d)) place sampler (ap (λ xs. slice_get xs place) (sym is) ∙ e);
}
