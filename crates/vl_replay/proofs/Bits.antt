-- The bits that drivers give the input ports.
use Rattle.std.proofs.Common.{◌≡◌, ◌<◌, ◌≤◌, ◌+◌, ◌^◌, inl, inr, ◌⊎◌, ⊎_elim, ℕ, zero, suc, Bool, true, false, not, ◌&&◌, ◌||◌, nat_le, nat_lt, if◌then◌else◌, List, [], ◌∷◌, length, map, filter, set}
use Rattle.std.proofs.Common.{slice_get, slice_index, slice_index_or, Contains, bytes_eq, codes, Some, refl, sym, ap, subst, ◌∙◌, arith}
use Rattle.std.proofs.lemmas.Bool.{cases_lt, cond-true, cond-false, and_parts, leb-true, or_right}
use Rattle.std.proofs.lemmas.List.{get_or-set_other, get_or-set_same, length-set}
use Rattle.std.proofs.lemmas.Option.{get_or_from_slice_get}
use Rattle.std.proofs.lemmas.Nat.{pow_pos}
use Rattle.std.proofs.Math.Pow.{pow_mono}
use Rattle.std.proofs.lemmas.Slice.Eq.{bytes_eq-Decides}
use Rattle.vl_ast.specs.declared.modules.Port.{Port}
use Rattle.vl_ast.specs.Conditions.{is_width}
use Rattle.vl_ast.specs.Control.{is_number_input}
use Rattle.vl_ast.specs.Windows.{PortNumbers}
use Rattle.vl_ast.specs.Value.{bits_of}
use Rattle.math_list.proofs.Elements.{cons-cases, head-in, none-in, tail-in}
use Rattle.vl_ast.specs.Attributes.{step_of}
use Rattle.vl_eval.specs.Given.{given}
use Rattle.vl_eval.specs.Machine.{AreFit}
use Rattle.vl_replay.specs.declared.drivers.Driver.{Driver}
use Rattle.vl_replay.specs.declared.drivers.Driver.TheVariants.{Reset, Enable, Column}
use Rattle.vl_replay.specs.Sampled.{hit_at}
use Rattle.vl_replay.specs.inner.Drivers.{AreBits, driver_bits, driver_of, drivers_from, is_own, own_driver, place_after, reset_bits}
use Rattle.vl_ast.proofs.SomeInputs.{bits-fit}

abbrev pub is_reset : Port → Bool
is_reset port = bytes_eq port.name (codes "reset")

pub drivers-long : (stalls : Bool) (place : ℕ) (ports : List Port) → length (drivers_from stalls place ports) ≡ length ports
drivers-long stalls place [] = refl
drivers-long stalls place (port ∷ ports) = ap suc (drivers-long stalls (place_after stalls place port) ports)

-- bits that are each driver's are the list of them
pub bits-are : (of : Driver → ℕ) (drivers : List Driver) (bits : List ℕ) → length bits ≡ length drivers
    → ((k : ℕ) (driver : Driver) → slice_get drivers k ≡ Some driver → k < length drivers
    → slice_index bits k ≡ of driver) → bits ≡ map of drivers
bits-are of [] [] long at = refl
bits-are of [] (b ∷ bits) long at = absurd (omega (arith, long))
bits-are of (d ∷ drivers) [] long at = absurd (omega (arith, long))
bits-are of (d ∷ drivers) (b ∷ bits) long at =
    let head : b ≡ of d = at 0 d refl (omega arith) in
    let tail = bits-are of drivers bits (omega (arith, long)) (λ k driver e low. at (suc k) driver e (omega (arith, low))) in
    ap (λ x. x ∷ bits) head ∙ ap (λ xs. of d ∷ xs) tail

-- the bits of one more driver
pub bits-more : (of : Driver → ℕ) (drivers : List Driver) (k : ℕ) (bits : List ℕ) (x : ℕ) → k < length drivers
    → AreBits of drivers k bits → x ≡ of (slice_index_or drivers k Reset)
    → AreBits of drivers (k + 1) (set bits k x)
bits-more of drivers k bits x here are is =
    let long = are.long in
    record {
      long = length-set bits k x ∙ long;
      at = λ j driver e below. ⊎_elim
          (λ (less : j < k). get_or-set_other bits k j x 0 (λ same. omega (arith, same, less)) ∙ are.at j driver e less)
          (λ (most : k ≤ j).
          let same : j ≡ k = omega (arith, most, below) in
          ap (λ n. slice_index (set bits k x) n) same ∙ get_or-set_same bits k x 0 (omega (arith, here, long)) ∙ is
          ∙ ap of (ap (λ n. slice_index_or drivers n Reset) (sym same)
          ∙ get_or_from_slice_get drivers j driver Reset e))
          (cases_lt j k);
    }

-- a name that isn't `reset` has no bit in the row with it
pub reset-others : (stalls : Bool) (place : ℕ) (ports : List Port) (name : List ℕ) → bytes_eq name (codes "reset") ≡ false → given ports (map reset_bits (drivers_from stalls place ports)) name ≡ 0
reset-others stalls place [] name other = refl
reset-others stalls place (port ∷ ports) name other = by (reset-others stalls (place_after stalls place port) ports name other) (bytes_eq port.name name) refl where
  named : bytes_eq port.name name ≡ true → (t : Bool) → is_reset port ≡ t → reset_bits (if t then Reset else Enable) ≡ 0
  named same true e = let n : port.name ≡ name = (bytes_eq-Decides port.name name).0 same in absurd (cc (sym e ∙ ap (λ x. bytes_eq x (codes "reset")) n ∙ other))
  named same false e = refl

  own : bytes_eq port.name name ≡ true → (t : Bool) → reset_bits (if t then own_driver port else Column place (step_of port) port.width) ≡ 0
  own same true = named same (is_reset port) refl
  own same false = refl

  by : given ports (map reset_bits (drivers_from stalls (place_after stalls place port) ports)) name ≡ 0 → (t : Bool) → bytes_eq port.name name ≡ t
      → (if t then reset_bits (driver_of stalls place port) else given ports (map reset_bits (drivers_from stalls (place_after stalls place port) ports)) name) ≡ 0
  by rest true e = own e (is_own stalls port)
  by rest false e = rest

own-reset : (stalls : Bool) (port : Port) → is_reset port ≡ true → is_own stalls port ≡ true
own-reset stalls port e = or_right (stalls && bytes_eq port.name (codes "clk_enable")) (is_reset port) e

-- the driver of `reset`
reset-driver : (stalls : Bool) (place : ℕ) (port : Port) → is_reset port ≡ true → driver_of stalls place port ≡ Reset
reset-driver stalls place port e =
    cond-true (is_own stalls port) (own_driver port) (Column place (step_of port) port.width) (own-reset stalls port e) ∙ cond-true (is_reset port) Reset Enable e

-- `reset` has 1 in it, where it is a port
pub reset-one : (stalls : Bool) (place : ℕ) (ports : List Port) (port : Port) → Contains ports port
    → port.name ≡ codes "reset" → given ports (map reset_bits (drivers_from stalls place ports)) (codes "reset") ≡ 1
reset-one stalls place [] port c named = absurd (none-in port c)
reset-one stalls place (first ∷ ports) port c named = by (λ c. reset-one stalls (place_after stalls place first) ports port c named) (is_reset first) refl where
  later : is_reset first ≡ false → (first ≡ port) ⊎ Contains ports port → Contains ports port
  later e (inl same) = absurd (cc (sym e ∙ ap (λ (p : Port). is_reset p) same ∙ (bytes_eq-Decides port.name (codes "reset")).1 named))
  later e (inr there) = there

  by : (Contains ports port → given ports (map reset_bits (drivers_from stalls (place_after stalls place first) ports)) (codes "reset") ≡ 1) → (t : Bool) → is_reset first ≡ t
      → (if t then reset_bits (driver_of stalls place first) else given ports (map reset_bits (drivers_from stalls (place_after stalls place first) ports)) (codes "reset")) ≡ 1
  by rest true e = ap reset_bits (reset-driver stalls place first e)
  by rest false e = rest (later e (cons-cases first port ports c))

-- and 0 after it
pub released : (numbers : PortNumbers) (samples sample : ℕ) (stalls : Bool) (place : ℕ) (ports : List Port)
    → given ports (map (driver_bits numbers samples sample) (drivers_from stalls place ports)) (codes "reset") ≡ 0
released numbers samples sample stalls place [] = refl
released numbers samples sample stalls place (first ∷ ports) = by (released numbers samples sample stalls (place_after stalls place first) ports) (is_reset first) refl where
  by : given ports (map (driver_bits numbers samples sample) (drivers_from stalls (place_after stalls place first) ports)) (codes "reset") ≡ 0 → (t : Bool) → is_reset first ≡ t
      → (if t then driver_bits numbers samples sample (driver_of stalls place first) else given ports
      (map (driver_bits numbers samples sample) (drivers_from stalls (place_after stalls place first) ports))
      (codes "reset")) ≡ 0
  by rest true e = ap (driver_bits numbers samples sample) (reset-driver stalls place first e)
  by rest false e = rest

-- `clk_enable` of a module that stalls has 1 then
pub enabled : (numbers : PortNumbers) (samples sample place : ℕ) (ports : List Port) (port : Port) → Contains ports port → port.name ≡ codes "clk_enable"
    → given ports (map (driver_bits numbers samples sample) (drivers_from true place ports)) (codes "clk_enable") ≡ 1
enabled numbers samples sample place [] port c named = absurd (none-in port c)
enabled numbers samples sample place (first ∷ ports) port c named =
    by (λ c. enabled numbers samples sample (place_after true place first) ports port c named)
    (bytes_eq first.name (codes "clk_enable")) refl where
      later : bytes_eq first.name (codes "clk_enable") ≡ false → (first ≡ port) ⊎ Contains ports port → Contains ports port
      later e (inl same) = absurd (cc (sym e ∙ ap (λ (p : Port). bytes_eq p.name (codes "clk_enable")) same ∙ (bytes_eq-Decides port.name (codes "clk_enable")).1 named))
      later e (inr there) = there

      enabling : bytes_eq first.name (codes "clk_enable") ≡ true → driver_of true place first ≡ Enable
      enabling e =
          let n : first.name ≡ codes "clk_enable" = (bytes_eq-Decides first.name (codes "clk_enable")).0 e in
          ap (λ x. if x || is_reset first then own_driver first else Column place (step_of first) first.width) e ∙ ap (λ x. if bytes_eq x (codes "reset") then Reset else Enable) n

      by : (Contains ports port → given ports
          (map (driver_bits numbers samples sample) (drivers_from true (place_after true place first) ports))
          (codes "clk_enable") ≡ 1) → (t : Bool) → bytes_eq first.name (codes "clk_enable") ≡ t
          → (if t then driver_bits numbers samples sample (driver_of true place first) else given ports
          (map (driver_bits numbers samples sample) (drivers_from true (place_after true place first) ports))
          (codes "clk_enable")) ≡ 1
      by rest true e = ap (driver_bits numbers samples sample) (enabling e)
      by rest false e = rest (later e (cons-cases first port ports c))

abbrev Narrow : List Port → Type 0
Narrow ports = (port : Port) → Contains ports port → is_width port.width ≡ true

one-fits : (width : ℕ) → is_width width ≡ true → 1 < 2 ^ width
one-fits width w = let low = leb-true 1 width (and_parts (nat_le 1 width) (nat_le width 128) w).0 in let p = pow_mono low in omega (arith, p)

-- bits of drivers fit their ports where those of each driver do
pub fit-from : (of : Driver → ℕ) (stalls : Bool) → ((place : ℕ) (port : Port) → is_width port.width ≡ true → of (driver_of stalls place port) < 2 ^ port.width)
    → (place : ℕ) (ports : List Port) → Narrow ports → AreFit ports (map of (drivers_from stalls place ports))
fit-from of stalls each place [] narrow = record { count = refl; narrow = λ k port e. absurd (cc e) }
fit-from of stalls each place (first ∷ ports) narrow =
    let rest = fit-from of stalls each (place_after stalls place first) ports (λ port c. narrow port (tail-in first port ports c)) in
    record { count = ap suc rest.count; narrow = at rest }
  where
    at : AreFit ports (map of (drivers_from stalls (place_after stalls place first) ports)) → (k : ℕ) (port : Port)
        → slice_get (first ∷ ports) k ≡ Some port
        → slice_index (of (driver_of stalls place first)
        ∷ map of (drivers_from stalls (place_after stalls place first) ports)) k < 2 ^ port.width
    at rest zero port e = let same : first ≡ port = cc e in subst (λ (p : Port). of (driver_of stalls place first) < 2 ^ p.width) same (each place first (narrow first (head-in first ports)))
    at rest (suc k) port e = rest.narrow k port e

pub reset-fits : (stalls : Bool) (place : ℕ) (port : Port) → is_width port.width ≡ true → reset_bits (driver_of stalls place port) < 2 ^ port.width
reset-fits stalls place port w = by (is_own stalls port) where
  own : (t : Bool) → reset_bits (if t then Reset else Enable) < 2 ^ port.width
  own true = one-fits port.width w
  own false = let p = one-fits port.width w in omega (arith, p)

  by : (t : Bool) → reset_bits (if t then own_driver port else Column place (step_of port) port.width) < 2 ^ port.width
  by true = own (is_reset port)
  by false = let p = one-fits port.width w in omega (arith, p)

pub driver-fits : (numbers : PortNumbers) (samples sample : ℕ) (stalls : Bool) (place : ℕ) (port : Port)
    → is_width port.width ≡ true → driver_bits numbers samples sample (driver_of stalls place port) < 2 ^ port.width
driver-fits numbers samples sample stalls place port w = by (is_own stalls port) where
  shown : (t : Bool) → (if t then bits_of port.width (numbers place (hit_at (step_of port) sample)) else 0) < 2 ^ port.width
  shown true = bits-fit port.width (numbers place (hit_at (step_of port) sample))
  shown false = pow_pos port.width

  own : (t : Bool) → driver_bits numbers samples sample (if t then Reset else Enable) < 2 ^ port.width
  own true = pow_pos port.width
  own false = one-fits port.width w

  by : (t : Bool) → driver_bits numbers samples sample (if t then own_driver port else Column place (step_of port) port.width) < 2 ^ port.width
  by true = own (is_reset port)
  by false = shown (nat_lt (hit_at (step_of port) sample) samples)

abbrev pub is_driven : Port → Bool
is_driven port = port.input && not (bytes_eq port.name (codes "clk"))

-- a port carries numbers inwards where it is neither `clk` nor driven by its name
pub not-stimulus : (stalls : Bool) (port : Port) → (bytes_eq port.name (codes "clk") ≡ true) ⊎ (is_own stalls port ≡ true) → is_number_input stalls port ≡ false
not-stimulus stalls port h = by (stalls && bytes_eq port.name (codes "clk_enable")) (bytes_eq port.name (codes "clk")) (bytes_eq port.name (codes "reset")) h where
  none : (b : Bool) → (b && false) ≡ false
  none true = refl
  none false = refl

  by : (e c r : Bool) → (c ≡ true) ⊎ ((e || r) ≡ true) → (port.input && not (e || (c || r))) ≡ false
  by true c r h = none port.input
  by false true r h = none port.input
  by false false true h = none port.input
  by false false false (inl h) = absurd (cc h)
  by false false false (inr h) = absurd (cc h)

pub stimulus-of : (stalls : Bool) (port : Port) → port.input ≡ true → bytes_eq port.name (codes "clk") ≡ false → is_own stalls port ≡ false → is_number_input stalls port ≡ true
stimulus-of stalls port i c r = (λ j. i j && not (own j)) where
  by : (e c r : Bool) → c ≡ false → (e || r) ≡ false → (e || (c || r)) ≡ false
  by true c r h k = k
  by false true r h k = absurd (cc h)
  by false false r h k = k

  own : ((stalls && bytes_eq port.name (codes "clk_enable")) || (bytes_eq port.name (codes "clk") || bytes_eq port.name (codes "reset"))) ≡ false
  own = by (stalls && bytes_eq port.name (codes "clk_enable")) (bytes_eq port.name (codes "clk")) (bytes_eq port.name (codes "reset")) c r

-- a stimulus port's driver is its column, at its place among the driven ports
pub record HasDriver (stalls : Bool) (ports : List Port) (offset place : ℕ) (port : Port) : Type 0 where
  pub at : ℕ
  pub port_is : slice_get (filter is_driven ports) at ≡ Some port
  pub driver_is : slice_get (drivers_from stalls offset (filter is_driven ports)) at ≡ Some (Column (offset + place) (step_of port) port.width)

pub stimulus-driver : (stalls : Bool) (ports : List Port) (offset place : ℕ) (port : Port)
    → slice_get (filter (is_number_input stalls) ports) place ≡ Some port → HasDriver stalls ports offset place port
stimulus-driver stalls [] offset place port e = absurd (cc e)
stimulus-driver stalls (first ∷ ports) offset place port e =
    by (λ offset place. stimulus-driver stalls ports offset place port) first.input
    (bytes_eq first.name (codes "clk")) (is_own stalls first) refl refl refl where
      skipped : (rest : (offset place : ℕ) → slice_get (filter (is_number_input stalls) ports) place ≡ Some port → HasDriver stalls ports offset place port)
          → is_number_input stalls first ≡ false → is_driven first ≡ false → HasDriver stalls (first ∷ ports) offset place port
      skipped rest s d =
          let there : slice_get (filter (is_number_input stalls) ports) place ≡ Some port =
          subst (λ xs. slice_get xs place ≡ Some port)
          (cond-false (is_number_input stalls first) (first ∷ filter (is_number_input stalls) ports)
          (filter (is_number_input stalls) ports) s) e in
          let whole : filter is_driven (first ∷ ports) ≡ filter is_driven ports = cond-false (is_driven first) (first ∷ filter is_driven ports) (filter is_driven ports) d in
          let h = rest offset place there in
          record {
            at = h.at;
            port_is = subst (λ xs. slice_get xs h.at ≡ Some port) (sym whole) h.port_is;
            driver_is = subst (λ xs. slice_get (drivers_from stalls offset xs) h.at ≡ Some (Column (offset + place) (step_of port) port.width)) (sym whole) h.driver_is;
          }

      passed : (rest : (offset place : ℕ) → slice_get (filter (is_number_input stalls) ports) place ≡ Some port → HasDriver stalls ports offset place port)
          → is_number_input stalls first ≡ false → is_driven first ≡ true → is_own stalls first ≡ true → HasDriver stalls (first ∷ ports) offset place port
      passed rest s d r =
          let there : slice_get (filter (is_number_input stalls) ports) place ≡ Some port =
          subst (λ xs. slice_get xs place ≡ Some port)
          (cond-false (is_number_input stalls first) (first ∷ filter (is_number_input stalls) ports)
          (filter (is_number_input stalls) ports) s) e in
          let whole : filter is_driven (first ∷ ports) ≡ first ∷ filter is_driven ports = cond-true (is_driven first) (first ∷ filter is_driven ports) (filter is_driven ports) d in
          let next : place_after stalls offset first ≡ offset = cond-true (is_own stalls first) offset (offset + 1) r in
          let h = rest offset place there in
          record {
            at = suc h.at;
            port_is = subst (λ xs. slice_get xs (suc h.at) ≡ Some port) (sym whole) h.port_is;
            driver_is = subst (λ xs. slice_get (drivers_from stalls offset xs) (suc h.at) ≡ Some (Column (offset + place) (step_of port) port.width)) (sym whole)
                (subst (λ o. slice_get (drivers_from stalls o (filter is_driven ports)) h.at ≡ Some (Column (offset + place) (step_of port) port.width)) (sym next) h.driver_is);
          }

      own : (rest : (offset place : ℕ) → slice_get (filter (is_number_input stalls) ports) place ≡ Some port → HasDriver stalls ports offset place port)
          → is_own stalls first ≡ false → (place : ℕ) → slice_get (first ∷ filter (is_number_input stalls) ports) place ≡ Some port
          → (at : ℕ) × (slice_get (first ∷ filter is_driven ports) at ≡ Some port)
          × (slice_get (drivers_from stalls offset (first ∷ filter is_driven ports)) at
          ≡ Some (Column (offset + place) (step_of port) port.width))
      own rest r zero there =
          let same : first ≡ port = cc there in
          let start : offset + 0 ≡ offset = omega arith in (
            0,
            there,
            ap Some (cond-false (is_own stalls first) (own_driver first)
                (Column offset (step_of first) first.width) r ∙ ap (λ (p : Port). Column offset (step_of p) p.width) same
                ∙ ap (λ o. Column o (step_of port) port.width) (sym start)),
          )
      own rest r (suc k) there =
          let next : place_after stalls offset first ≡ offset + 1 = cond-false (is_own stalls first) offset (offset + 1) r in
          let h = rest (offset + 1) k there in
          let sum : offset + 1 + k ≡ offset + suc k = omega arith in (
            suc h.at,
            h.port_is,
            subst (λ o. slice_get (drivers_from stalls o (filter is_driven ports)) h.at ≡ Some (Column (offset + suc k) (step_of port) port.width)) (sym next)
                (subst (λ o. slice_get (drivers_from stalls (offset + 1) (filter is_driven ports)) h.at ≡ Some (Column o (step_of port) port.width)) sum h.driver_is),
          )

      taken : (rest : (offset place : ℕ) → slice_get (filter (is_number_input stalls) ports) place ≡ Some port → HasDriver stalls ports offset place port)
          → is_number_input stalls first ≡ true → is_driven first ≡ true → is_own stalls first ≡ false → HasDriver stalls (first ∷ ports) offset place port
      taken rest s d r =
          let there : slice_get (first ∷ filter (is_number_input stalls) ports) place ≡ Some port =
          subst (λ xs. slice_get xs place ≡ Some port)
          (cond-true (is_number_input stalls first) (first ∷ filter (is_number_input stalls) ports)
          (filter (is_number_input stalls) ports) s) e in
          let whole : filter is_driven (first ∷ ports) ≡ first ∷ filter is_driven ports = cond-true (is_driven first) (first ∷ filter is_driven ports) (filter is_driven ports) d in
          let h = own rest r place there in
          record {
            at = h.0;
            port_is = subst (λ xs. slice_get xs h.0 ≡ Some port) (sym whole) h.1;
            driver_is = subst (λ xs. slice_get (drivers_from stalls offset xs) h.0 ≡ Some (Column (offset + place) (step_of port) port.width)) (sym whole) h.2;
          }

      by : (rest : (offset place : ℕ) → slice_get (filter (is_number_input stalls) ports) place ≡ Some port → HasDriver stalls ports offset place port)
          → (input clk own : Bool) → first.input ≡ input → bytes_eq first.name (codes "clk") ≡ clk → is_own stalls first ≡ own → HasDriver stalls (first ∷ ports) offset place port
      by rest false clk own i c r = skipped rest (rw i refl) (rw i refl)
      by rest true true own i c r = skipped rest (not-stimulus stalls first (inl c)) (rw (i, c) refl)
      by rest true false true i c r = passed rest (not-stimulus stalls first (inr r)) (rw (i, c) refl) r
      by rest true false false i c r = taken rest (stimulus-of stalls first i c r) (rw (i, c) refl) r
