-- For every stimulus and every count of rows there are inputs that it drives.
use Rattle.std.proofs.Common.{◌≡◌, ◌<◌, ◌≤◌, ◌+◌, ◌-◌, ◌*◌, ◌/◌, ◌%◌, ◌^◌, ⊎_elim, ℕ, zero, suc, Bool, true, false, not, ◌&&◌, ◌||◌, ◌==◌, if◌then◌else◌, nat_le, List, [], ◌∷◌, filter, slice_get}
use Rattle.std.proofs.Common.{Contains, bytes_eq, codes, Option, Some, None, ℤ, pos, negsuc, refl, sym, ap, subst, ◌∙◌, arith}
use Rattle.std.proofs.lemmas.Bool.{cond-true, cond-false, eq-eqb, cases_Bool, or_parts, and_parts, not-true, le-leb, lt-leb}
use Rattle.std.proofs.lemmas.Nat.{mod_below, pow_pos, mod-mul-add, div-add-mod'}
use Rattle.std.proofs.Math.Nat.{mod-eq_of_lt, div-lt_iff_lt-mul, le-div_iff_mul-le}
use Rattle.std.proofs.lemmas.Slice.Eq.{bytes_eq-Decides}
use Rattle.vl_ast.specs.declared.modules.Port.{Port}
use Rattle.vl_ast.specs.declared.modules.Module.{Module}
use Rattle.vl_ast.specs.Context.{Net}
use Rattle.vl_ast.specs.Nets.{port_declared, nets_of}
use Rattle.vl_ast.specs.Attributes.{cycles_of, period_of}
use Rattle.vl_ast.specs.Conditions.{undriven, doubly, no_reset, IsLoop}
use Rattle.vl_ast.specs.Control.{is_clock_or_reset, is_control_input, is_number_input, is_stallable}
use Rattle.vl_ast.specs.Driven.{stimulus_ports}
use Rattle.vl_ast.specs.Windows.{PortNumbers, Window}
use Rattle.vl_ast.specs.Value.{bits_of}
use Rattle.vl_ast.specs.Room.{CanBeDriven}
use Rattle.vl_ast.proofs.Agree.{ByLayer}
use Rattle.vl_ast.proofs.Facts.{in-port}
use Rattle.vl_ast.proofs.PortLists.{Apart, apart-tail, filter-in, ports-apart, slice-in}
use Rattle.vl_ast.proofs.OneRun.{net-is}
use Rattle.vl_ast.proofs.Alone.{reset-port}
use Rattle.vl_ast.proofs.StallFree.{bit-port}
use Rattle.vl_ast.proofs.FullCounts.{AllCount, shows-clocks}

pub bits-fit : (width : ℕ) (number : ℤ) → bits_of width number < 2 ^ width
bits-fit width (pos n) = mod_below n (2 ^ width) (pow_pos width)
bits-fit width (negsuc n) = let p = pow_pos width in omega (arith, p)

-- within the samples of a hit that is the last
pub last-hit : (cycles period t clock : ℕ) → t % period ≡ 0 → t * cycles ≤ clock → clock < (t + period) * cycles → clock / cycles - clock / cycles % period ≡ t
last-hit zero period t clock at from below = absurd (omega arith)
last-hit (suc f) period t clock at from below =
    let low : t ≤ clock / suc f = (le-div_iff_mul-le {k = suc f} {x = t} {y = clock} (omega arith)).1 from in
    let high : clock / suc f < t + period = (div-lt_iff_lt-mul {k = suc f} {x = clock} {y = t + period} (omega arith)).1 below in
    let whole : t / period * period ≡ t = let e = div-add-mod' t period in omega (arith, e, at) in
    let rest : clock / suc f ≡ t / period * period + (clock / suc f - t) = omega (arith, low, whole) in
    let r = clock / suc f - t in
    let less : r < period = omega (arith, low, high) in
    let m : clock / suc f % period ≡ r = ap (λ n. n % period) rest ∙ mod-mul-add (t / period) period r less in
    omega (arith, m, low)

-- the hit of a period whose samples have this clock
hit : ℕ → ℕ → ℕ → ℕ
hit cycles period clock = clock / cycles - clock / cycles % period

hit-is : (cycles period t clock : ℕ) → t % period ≡ 0 → t * cycles ≤ clock → clock < (t + period) * cycles → hit cycles period clock ≡ t
unfolding hit
hit-is cycles period t clock at from below = last-hit cycles period t clock at from below

abbrev timed : Port → (ℕ → ℤ) → ℕ → Option ℕ → Option ℕ → ℕ
timed port numbers clock None period = 0
timed port numbers clock (Some cycles) None = 0
timed port numbers clock (Some cycles) (Some period) = bits_of port.width (numbers (hit cycles period clock))

-- what the first port of a name shows
shown : Option ℕ → (ℕ → ℕ → ℤ) → List Port → ℕ → ℕ → List ℕ → ℕ
shown cycles stimulus [] place clock name = 0
shown cycles stimulus (port ∷ ports) place clock name =
    if bytes_eq port.name name then timed port (stimulus place) clock cycles (period_of port) else shown cycles stimulus ports (suc place) clock name

-- the port at a place of those that pass a test shows its own number
shown-at : (cycles : Option ℕ) (stimulus : ℕ → ℕ → ℤ) (test : Port → Bool) (ports : List Port) → Apart ports → (offset place clock : ℕ) (port : Port)
    → slice_get (filter test ports) place ≡ Some port → shown cycles stimulus (filter test ports) offset clock port.name ≡ timed port (stimulus (offset + place)) clock cycles (period_of port)
unfolding shown
shown-at cycles stimulus test [] apart offset place clock port e = absurd (cc e)
shown-at cycles stimulus test (first ∷ ports) apart offset place clock port e =
    by (λ offset place. shown-at cycles stimulus test ports (apart-tail first ports apart) offset place clock port)
    (test first) refl place e where
      with-first : (rest : (offset place : ℕ) → slice_get (filter test ports) place ≡ Some port
          → shown cycles stimulus (filter test ports) offset clock port.name
          ≡ timed port (stimulus (offset + place)) clock cycles (period_of port))
          → (place : ℕ) → slice_get (first ∷ filter test ports) place ≡ Some port
          → shown cycles stimulus (first ∷ filter test ports) offset clock port.name ≡ timed port (stimulus (offset + place)) clock cycles (period_of port)
      with-first rest zero e =
          let same : first ≡ port = cc e in
          let own : bytes_eq first.name port.name ≡ true = (bytes_eq-Decides first.name port.name).1 (ap (λ (p : Port). p.name) same) in
          let zero-off : offset ≡ offset + 0 = omega arith in
          cond-true (bytes_eq first.name port.name) _ _ own
          ∙ ap (λ (p : Port). timed p (stimulus offset) clock cycles (period_of p)) same
          ∙ ap (λ o. timed port (stimulus o) clock cycles (period_of port)) zero-off
      with-first rest (suc k) e =
          let there : Contains ports port = (filter-in test ports port (slice-in (filter test ports) k port e)).0 in
          let other : bytes_eq first.name port.name ≡ false =
          ⊎_elim (λ t. absurd (apart.at [] first ports refl port there
          ((bytes_eq-Decides first.name port.name).0 t))) (λ f. f)
          (cases_Bool (bytes_eq first.name port.name)) in
          let moved : suc offset + k ≡ offset + suc k = omega arith in
          cond-false (bytes_eq first.name port.name) _ _ other ∙ rest (suc offset) k e ∙ ap (λ o. timed port (stimulus o) clock cycles (period_of port)) moved

      by : (rest : (offset place : ℕ) → slice_get (filter test ports) place ≡ Some port
          → shown cycles stimulus (filter test ports) offset clock port.name
          ≡ timed port (stimulus (offset + place)) clock cycles (period_of port))
          → (t : Bool) → test first ≡ t → (place : ℕ) → slice_get (filter test (first ∷ ports)) place ≡ Some port
          → shown cycles stimulus (filter test (first ∷ ports)) offset clock port.name ≡ timed port (stimulus (offset + place)) clock cycles (period_of port)
      by rest true s place e =
          let is : filter test (first ∷ ports) ≡ first ∷ filter test ports = cond-true (test first) (first ∷ filter test ports) (filter test ports) s in
          subst (λ xs. shown cycles stimulus xs offset clock port.name ≡ timed port (stimulus (offset + place)) clock cycles (period_of port)) (sym is)
          (with-first rest place (subst (λ xs. slice_get xs place ≡ Some port) is e))
      by rest false s place e =
          let is : filter test (first ∷ ports) ≡ filter test ports = cond-false (test first) (first ∷ filter test ports) (filter test ports) s in
          subst (λ xs. shown cycles stimulus xs offset clock port.name ≡ timed port (stimulus (offset + place)) clock cycles (period_of port)) (sym is)
          (rest offset place (subst (λ xs. slice_get xs place ≡ Some port) is e))

module _ (by_layer : ByLayer) (m : Module) (driven : undriven m ≡ None) (once : doubly m ≡ None) (none : (first : List ℕ) (others : List (List ℕ)) → ¬ IsLoop m first others)
    (clocked : no_reset m ≡ None) where
  module _ (stimulus : PortNumbers) (samples : ℕ) (window : Window) (within : window.last_reset < window.rows) where
    abbrev last : ℕ
    last = window.last_reset

    abbrev wanted : ℕ → List ℕ → ℕ
    wanted k name =
        if bytes_eq name (codes "reset") then (if nat_le k last then 1 else 0)
        else (if is_stallable m && bytes_eq name (codes "clk_enable") then 1
        else shown (cycles_of m) stimulus (stimulus_ports m) 0 (k - (last + 1)) name)

    stimulated : ℕ → List ℕ → ℕ
    stimulated k name = wanted k name % 2 ^ (nets_of m name).width

    reset-width : (nets_of m (codes "reset")).width ≡ 1
    reset-width =
        let p = reset-port m clocked in
        ap (λ (n : List ℕ). (nets_of m n).width) (sym p.2) ∙ ap (λ (net : Net). net.width) (net-is by_layer m driven once none (port_declared p.0) (in-port m driven once p.0 p.1)) ∙ p.4

    at-reset : (k n : ℕ) → n < 2 → (if nat_le k last then 1 else 0) ≡ n → stimulated k (codes "reset") ≡ n
    unfolding stimulated
    at-reset k n below e =
        ap (λ w. (if nat_le k last then 1 else 0) % 2 ^ w) reset-width ∙ ap (λ v. v % 2) e ∙ mod-eq_of_lt below

    stimulus-port : (place : ℕ) (port : Port) → slice_get (stimulus_ports m) place ≡ Some port
        → Contains m.ports port × (bytes_eq port.name (codes "reset") ≡ false) × ((is_stallable m && bytes_eq port.name (codes "clk_enable")) ≡ false)
    stimulus-port place port e =
        let kept = filter-in (is_number_input (is_stallable m)) m.ports port (slice-in (stimulus_ports m) place port e) in
        let other = and_parts port.input (not (is_control_input (is_stallable m) port)) kept.1 in
        let both = or_parts (is_stallable m && bytes_eq port.name (codes "clk_enable")) (is_clock_or_reset port) (not-true (is_control_input (is_stallable m) port) other.1) in
        let neither = or_parts (bytes_eq port.name (codes "clk")) (bytes_eq port.name (codes "reset")) both.1 in
        (kept.0, neither.1, both.0)

    -- every row counts
    enabled : (k : ℕ) → is_stallable m ≡ true → stimulated k (codes "clk_enable") ≡ 1
    unfolding stimulated
    enabled k stalls =
        let p = bit-port (codes "clk_enable") m.ports stalls in
        let width : (nets_of m (codes "clk_enable")).width ≡ 1 =
        ap (λ (n : List ℕ). (nets_of m n).width) (sym p.2) ∙ ap (λ (net : Net). net.width) (net-is by_layer m driven once none (port_declared p.0) (in-port m driven once p.0 p.1)) ∙ p.4 in
        ap (λ s. (if s && true then 1 else shown (cycles_of m) stimulus (stimulus_ports m) 0 (k - (last + 1)) (codes "clk_enable")) % 2 ^ (nets_of m (codes "clk_enable")).width) stalls
        ∙ ap (λ w. 1 % 2 ^ w) width

    all : AllCount m window stimulated
    all j below = by (is_stallable m) refl where
      by : (s : Bool) → is_stallable m ≡ s → (not s || stimulated (last + 1 + j) (codes "clk_enable") == 1) ≡ true
      by false e = refl
      by true e = eq-eqb (stimulated (last + 1 + j) (codes "clk_enable")) 1 (enabled (last + 1 + j) e)

    pub can-be-driven : CanBeDriven m stimulus samples window
    unfolding stimulated
    can-be-driven = record {
      inputs = stimulated;
      driven = record {
        reset = record {
          within = within;
          reset = at-reset last 1 (omega arith) (cond-true (nat_le last last) 1 0 (le-leb last last (omega arith)));
          released = λ k after below. at-reset k 0 (omega arith) (cond-false (nat_le k last) 1 0 (lt-leb k last after));
        };
        shows = λ cycles ec place port es period ep t sample at.
            shows-clocks m window stimulated all stimulated port.name port.width (stimulus place t) (t * cycles) ((t + period) * cycles)
            (λ clock from under below.
            let known = stimulus-port place port es in
            let net = net-is by_layer m driven once none (port_declared port) (in-port m driven once port known.0) in
            let since : last + 1 + clock - (last + 1) ≡ clock = omega arith in
            let first : wanted (last + 1 + clock) port.name ≡ shown (cycles_of m) stimulus (stimulus_ports m) 0 clock port.name =
            cond-false (bytes_eq port.name (codes "reset")) (if nat_le (last + 1 + clock) last then 1 else 0) _ known.1
            ∙ cond-false (is_stallable m && bytes_eq port.name (codes "clk_enable")) 1 _ known.2
            ∙ ap (λ c. shown (cycles_of m) stimulus (stimulus_ports m) 0 c port.name) since in
            let found = shown-at (cycles_of m) stimulus (is_number_input (is_stallable m)) m.ports (ports-apart m driven once) 0 place clock port es in
            let begin : 0 + place ≡ place = omega arith in
            let gives : timed port (stimulus (0 + place)) clock (cycles_of m) (period_of port) ≡ bits_of port.width (stimulus place t) =
            ap (λ o. timed port (stimulus o) clock (cycles_of m) (period_of port)) begin
            ∙ ap (λ c. timed port (stimulus place) clock c (period_of port)) ec
            ∙ ap (λ p. timed port (stimulus place) clock (Some cycles) p) ep
            ∙ ap (λ h. bits_of port.width (stimulus place h)) (hit-is cycles period t clock at from under) in
            let width : (nets_of m port.name).width ≡ port.width = ap (λ (net : Net). net.width) net in
            ap (λ v. v % 2 ^ (nets_of m port.name).width) (first ∙ found ∙ gives)
            ∙ ap (λ w. bits_of port.width (stimulus place t) % 2 ^ w) width
            ∙ mod-eq_of_lt (bits-fit port.width (stimulus place t)));
      };
      room = λ k below port h input.
          let net = net-is by_layer m driven once none (port_declared port) (in-port m driven once port h) in
          subst (λ (net : Net). stimulated k port.name < 2 ^ net.width) net (mod_below (wanted k port.name) (2 ^ (nets_of m port.name).width) (pow_pos (nets_of m port.name).width));
    }
