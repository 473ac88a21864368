-- What is captured, then put in and then swept is the row after an edge.
use Rattle.std.proofs.Common.{◌≡◌, ◌<◌, ◌^◌, ◌==◌, inl, inr, ◌⊎◌, ⊎_elim, ℕ, Bool, true, false, not, ◌&&◌, if◌then◌else◌, List, length, take, slice_get, slice_index, codes, bytes_eq, Contains}
use Rattle.std.proofs.Common.{Option, None, Some, refl, sym, ap, subst, ◌∙◌, arith}
use Rattle.std.proofs.lemmas.Bool.{cases_Bool, false≢true}
use Rattle.std.specs.List.{position}
use Rattle.std.proofs.lemmas.Nat.{mod_below, pow_pos}
use Rattle.std.proofs.lemmas.Option.{slice_get-get_or}
use Rattle.std.proofs.lemmas.List.{get_or-take, length-map}
use Rattle.std.proofs.lemmas.Slice.Eq.{bytes_eq-Decides}
use Rattle.vl_ast.specs.declared.expressions.Sized.{Sized}
use Rattle.vl_ast.specs.declared.expressions.Expr.{Expr}
use Rattle.vl_ast.specs.declared.modules.Port.{Port}
use Rattle.vl_ast.specs.declared.modules.ModItem.TheVariants.{Always}
use Rattle.vl_ast.specs.declared.modules.Module.{Module}
use Rattle.vl_ast.specs.Conditions.{BreaksNone}
use Rattle.vl_ast.specs.Context.{Net}
use Rattle.vl_ast.specs.Nets.{Declared, declarations, nets_of, port_declared}
use Rattle.vl_ast.specs.Runs.{takes_value}
use Rattle.vl_ast.specs.Steps.{IsEdge, IsFirstRow}
use Rattle.vl_ast.specs.Value.{assigned, assigned_number}
use Rattle.vl_ast.proofs.Agree.{ByLayer}
use Rattle.vl_ast.proofs.Facts.{in-port, mention-listed, one-always}
use Rattle.vl_ast.proofs.Alone.{stored}
use Rattle.vl_ast.proofs.PortLists.{filtered-apart, ports-apart}
use Rattle.vl_check.specs.declared.scope.Scope.{Scope}
use Rattle.vl_check.specs.Scope.{IsScopeOf, nets_in}
use Rattle.vl_eval.specs.Given.{driven_ports, given}
use Rattle.vl_eval.specs.Machine.{AreFit}
use Rattle.vl_eval.specs.declared.ops.Op.{Op}
use Rattle.vl_eval.specs.declared.plan.Capture.{Capture}
use Rattle.vl_eval.specs.declared.plan.Plan.{Plan}
use Rattle.vl_eval.specs.inner.Assigns.{next_in, takes_in}
use Rattle.vl_eval.specs.inner.Edges.{IsFree, IsPut, IsTaken}
use Rattle.vl_eval.specs.inner.PlanOperations.{FixedFit, IsFixed, IsPlan, slot_of_port}
use Rattle.vl_check.specs.Names.{names_of}
use Rattle.vl_eval.specs.inner.Site.{slot_at, slot_in}
use Rattle.vl_eval.proofs.ScopeNumbers.{number-is}
use Rattle.vl_eval.proofs.EdgeBits.{filter-has, given-at, given-none}
use Rattle.vl_eval.proofs.StablePlaces.{IsInput, IsListed, IsSettledIn, IsStored, Origin, driven-in, fits-known, fixed-slot, input-fixed, input-known, nets-same, no-register, one-slot, origin}
use Rattle.vl_eval.proofs.StablePlaces.{place-at, register-fixed, register-known, row-is, settled-all, width-is}

either-fits : (t u : Bool) (a b c n : ℕ) → a < n → b < n → c < n → (if t then a else (if u then b else c)) < n
either-fits true u a b c n ka kb kc = ka
either-fits false true a b c n ka kb kc = kb
either-fits false false a b c n ka kb kc = kc

named-apart : (one other name : List ℕ) → bytes_eq one name ≡ false → bytes_eq other name ≡ true → bytes_eq one other ≡ false
named-apart one other name f t = ap (λ n. bytes_eq one n) ((bytes_eq-Decides other name).0 t) ∙ f

takes-same : (m : Module) (row : List ℕ → ℕ) (condition : Option Expr) → takes_in (nets_of m) row condition ≡ takes_value m row condition
takes-same m row None = refl
takes-same m row (Some e) = refl

module _ (by_layer : ByLayer) (m : Module) (b : BreaksNone m) (scope : Scope) (s : IsScopeOf m scope) (plan : Plan) (p : IsPlan m scope plan) where
  abbrev nets : List ℕ → Net
  nets = nets_in scope

  abbrev slots : List ℕ
  slots = plan.arranged.slots.items

  abbrev ops : List Op
  ops = plan.arranged.ops

  abbrev row : List ℕ → List ℕ → ℕ
  row values name = slice_index values (slot_in scope slots name)

  -- what no capture or put touches
  module _ (v0 v1 v2 : List ℕ) (bits : List ℕ) (taken : IsTaken plan.arranged.captures.items v0 v1) (put : IsPut plan.inputs.items bits v1 v2) where
    register-taken : IsSettledIn plan v0 → FixedFit m scope (row v0) → (name : List ℕ) (first : Sized) (condition : Option Expr) (value : Expr) → Contains m.items (Always name first condition value)
        → row v1 name ≡ next_in nets (row v0) name first condition value
    register-taken st f name first condition value h = by (taken.each (slot_in scope slots name)) where
      by : (IsFree plan.arranged.captures.items (slot_in scope slots name) × (row v1 name ≡ row v0 name))
          ⊎ ((c : Capture) × Contains plan.arranged.captures.items c × (c.to ≡ slot_in scope slots name)
          × (row v1 name ≡ slice_index v0 c.from))
          → row v1 name ≡ next_in nets (row v0) name first condition value
      by (inl (free, same)) = let r = p.captured.each name first condition value h in absurd (free r.0 r.1 r.2.to)
      by (inr (c, inside, to, same)) =
          let r = p.captured.only c inside in
          let named : r.0 ≡ name = one-slot by_layer m b scope s plan p r.0 name
          (register-known by_layer m b scope s plan p r.0 r.1 r.2 r.3 r.4)
          (register-known by_layer m b scope s plan p name first condition value h)
          (register-fixed by_layer m b scope s plan p r.0 r.1 r.2 r.3 r.4)
          (register-fixed by_layer m b scope s plan p name first condition value h)
          (sym r.5.to ∙ to) in
          let one = one-always m b.acyclic.driven b.acyclic.once name r.1 first r.2 condition r.3 value (subst (λ n. Contains m.items (Always n r.1 r.2 r.3)) named r.4) h in
          same ∙ r.5.is (λ k. slice_index v0 k) (settled-all by_layer m b scope s plan p v0 st) f ∙ (λ i. next_in nets (row v0) (named i) (one i).first (one i).condition (one i).value)

    register-put : (name : List ℕ) (first : Sized) (condition : Option Expr) (value : Expr) → Contains m.items (Always name first condition value) → row v2 name ≡ row v1 name
    register-put name first condition value h = put.others (slot_in scope slots name) (λ k low same.
        let a = place-at by_layer m b scope s plan p k low in
        let d = driven-in by_layer m b scope s plan p k a.0 a.1 in
        absurd (no-register by_layer m b scope s plan p a.0 d.0 d.1 name first condition value h
        (one-slot by_layer m b scope s plan p name a.0.name
        (register-known by_layer m b scope s plan p name first condition value h)
        (input-known by_layer m b scope s plan p a.0 d.0)
        (register-fixed by_layer m b scope s plan p name first condition value h)
        (input-fixed by_layer m b scope s plan p a.0 d.0 d.1) (sym same ∙ a.2))))

    input-taken : (port : Port) → Contains m.ports port → port.input ≡ true → row v1 port.name ≡ row v0 port.name
    input-taken port h i = by (taken.each (slot_in scope slots port.name)) where
      by : (IsFree plan.arranged.captures.items (slot_in scope slots port.name) × (row v1 port.name ≡ row v0 port.name))
          ⊎ ((c : Capture) × Contains plan.arranged.captures.items c × (c.to ≡ slot_in scope slots port.name) × (row v1 port.name ≡ slice_index v0 c.from))
          → row v1 port.name ≡ row v0 port.name
      by (inl (free, same)) = same
      by (inr (c, inside, to, same)) =
          let r = p.captured.only c inside in
          absurd (no-register by_layer m b scope s plan p port h i r.0 r.1 r.2 r.3 r.4
          (one-slot by_layer m b scope s plan p r.0 port.name
          (register-known by_layer m b scope s plan p r.0 r.1 r.2 r.3 r.4)
          (input-known by_layer m b scope s plan p port h)
          (register-fixed by_layer m b scope s plan p r.0 r.1 r.2 r.3 r.4)
          (input-fixed by_layer m b scope s plan p port h i) (sym r.5.to ∙ to)))

    clk-put : (port : Port) → Contains m.ports port → port.input ≡ true → bytes_eq port.name (codes "clk") ≡ true → row v2 port.name ≡ row v0 port.name
    clk-put port h i clk =
        put.others (slot_in scope slots port.name) (λ k low same.
        let a = place-at by_layer m b scope s plan p k low in
        let d = driven-in by_layer m b scope s plan p k a.0 a.1 in
        let named : port.name ≡ a.0.name = one-slot by_layer m b scope s plan p port.name a.0.name
        (input-known by_layer m b scope s plan p port h) (input-known by_layer m b scope s plan p a.0 d.0)
        (input-fixed by_layer m b scope s plan p port h i)
        (input-fixed by_layer m b scope s plan p a.0 d.0 d.1) (sym same ∙ a.2) in
        absurd (false≢true (sym d.2 ∙ subst (λ n. bytes_eq n (codes "clk") ≡ true) named clk)))
        ∙ input-taken port h i

    module _ (fit : AreFit (driven_ports m) bits) where
      driven-put : (port : Port) → Contains m.ports port → port.input ≡ true → bytes_eq port.name (codes "clk") ≡ false
          → (row v2 port.name ≡ given (driven_ports m) bits port.name) × (row v2 port.name < 2 ^ port.width)
      driven-put port h i other =
          let passes : (port.input && not (bytes_eq port.name (codes "clk"))) ≡ true = ap (λ t. t && not (bytes_eq port.name (codes "clk"))) i ∙ ap not other in
          let c = filter-has (λ (x : Port). x.input && not (bytes_eq x.name (codes "clk"))) m.ports port h passes in
          let k = c.0 in
          let e : slice_get (driven_ports m) k ≡ Some port = slice_get-get_or (driven_ports m) k port c.1 ∙ ap Some c.2 in
          let long : length plan.inputs.items ≡ length (driven_ports m) = ap length p.inputs ∙ length-map (driven_ports m) (slot_of_port scope slots) in
          let low : k < length plan.inputs.items = (let below = c.1 in omega (arith, long, below)) in
          let a = place-at by_layer m b scope s plan p k low in
          let port-is : a.0 ≡ port = one (sym a.1 ∙ e) in
          let place : slot_in scope slots port.name ≡ slice_index plan.inputs.items k = sym (a.2 ∙ ap (λ (x : Port). slot_in scope slots x.name) port-is) in
          let shown : row v2 port.name ≡ slice_index bits k = ap (λ n. slice_index v2 n) place ∙ put.each k low in
          let within : k < length bits = (let below = c.1 in let n = fit.count in omega (arith, n, below)) in
          let apart = filtered-apart (λ (x : Port). x.input && not (bytes_eq x.name (codes "clk"))) m.ports (ports-apart m b.acyclic.driven b.acyclic.once) in
          (shown ∙ sym (given-at (driven_ports m) apart bits k port e within), subst (λ n. n < 2 ^ port.width) (sym shown) (fit.narrow k port e))
        where
          one : {x y : Port} → Some x ≡ Some y → x ≡ y
          one z = cc z

      module _ (v3 : List ℕ) (st0 : IsSettledIn plan v0) (f0 : FixedFit m scope (row v0))
          (still : (port : Port) → Contains m.ports port → port.input ≡ true → bytes_eq port.name (codes "clk") ≡ true → row v0 port.name ≡ 0)
          (kept : take plan.base v3 ≡ take plan.base v2) (st3 : IsSettledIn plan v3) where
        -- a name that no item assigns keeps its value in the sweep
        fixed-kept : (name : List ℕ) → IsListed m name → IsFixed m name → row v3 name ≡ row v2 name
        fixed-kept name known fixed =
            let a = fixed-slot by_layer m b scope s plan p name known fixed in
            let low : slot_in scope slots name < plan.base = (let number = a.2 in let below = a.3 in let base = p.base in omega (arith, number, below, base)) in
            sym (get_or-take plan.base v3 (slot_in scope slots name) 0 low) ∙ ap (λ xs. slice_index xs (slot_in scope slots name)) kept ∙ get_or-take plan.base v2 (slot_in scope slots name) 0 low

        stepped : (name : List ℕ) (first : Sized) (condition : Option Expr) (value : Expr)
            → Contains m.items (Always name first condition value)
            → row v3 name ≡ next_in nets (row v0) name first condition value
        stepped name first condition value h =
            fixed-kept name (register-known by_layer m b scope s plan p name first condition value h) (register-fixed by_layer m b scope s plan p name first condition value h)
            ∙ register-put name first condition value h ∙ register-taken st0 f0 name first condition value h

        pub edge-still : (port : Port) → Contains m.ports port → port.input ≡ true → bytes_eq port.name (codes "clk") ≡ true → row v3 port.name ≡ 0
        edge-still port h i clk = fixed-kept port.name (input-known by_layer m b scope s plan p port h) (input-fixed by_layer m b scope s plan p port h i) ∙ clk-put port h i clk ∙ still port h i clk

        input-shown : (port : Port) → Contains m.ports port → port.input ≡ true → (row v3 port.name ≡ given (driven_ports m) bits port.name) × (row v3 port.name < 2 ^ port.width)
        input-shown port h i = ⊎_elim
            (λ clk.
            let zero' = edge-still port h i clk in (
              zero' ∙ sym (given-none (driven_ports m) bits port.name
                  (λ k other e. not-clk other (driven-in by_layer m b scope s plan p k other e).2 clk)),
              subst (λ n. n < 2 ^ port.width) (sym zero') (pow_pos port.width),
            ))
            (λ other.
            let d = driven-put port h i other in
            let same = fixed-kept port.name (input-known by_layer m b scope s plan p port h) (input-fixed by_layer m b scope s plan p port h i) in
            (same ∙ d.0, subst (λ n. n < 2 ^ port.width) (sym same) d.1))
            (cases_Bool (bytes_eq port.name (codes "clk")))
          where
            not-clk : (other : Port) → bytes_eq other.name (codes "clk") ≡ false → bytes_eq port.name (codes "clk") ≡ true → bytes_eq other.name port.name ≡ false
            not-clk other f t = named-apart other.name port.name (codes "clk") f t

        pub edge-fits : FixedFit m scope (row v3)
        edge-fits = record { at = λ d listed fixed. by d listed (origin by_layer m b scope s plan p d listed fixed) } where
          by : (d : Declared) → Contains (declarations m) d → Origin by_layer m b scope s plan p d → row v3 d.name < 2 ^ (nets d.name).width
          by d listed (IsInput port h i same) =
              let w = width-is by_layer m b scope s plan p (port_declared port)
              (mention-listed m b.acyclic.driven b.acyclic.once (port_declared port)
              (in-port m b.acyclic.driven b.acyclic.once port h)) in
              subst (λ n. row v3 n < 2 ^ (nets n).width) same (subst (λ n. row v3 port.name < 2 ^ n) (sym w) (input-shown port h i).1)
          by d listed (IsStored first condition value h) =
              let w = (nets d.name).width in
              subst (λ n. n < 2 ^ w) (sym (stepped d.name first condition value h))
              (either-fits (row v0 (codes "reset") == 1) (takes_in nets (row v0) condition) _ _ (row v0 d.name)
              (2 ^ w) (mod_below _ (2 ^ w) (pow_pos w)) (mod_below _ (2 ^ w) (pow_pos w))
              (fits-known by_layer m b scope s plan p v0 st0 f0 d.name (d, listed, refl)))

        pub edge-is : IsEdge m (row v0) (given (driven_ports m) bits) (row v3)
        edge-is = record {
          row_is = row-is by_layer m b scope s plan p v3 (given (driven_ports m) bits) st3 edge-fits (λ port h i. (input-shown port h i).0);
          steps = λ name first condition value h.
              stepped name first condition value h
              ∙ ap (λ (f : List ℕ → Net). next_in f (row v0) name first condition value) (nets-same by_layer m b scope s plan p)
              ∙ ap (λ t. if row v0 (codes "reset") == 1 then assigned_number (nets_of m name).width first else
              (if t then assigned (nets_of m) (row v0) (nets_of m name).width value else row v0 name))
              (takes-same m (row v0) condition);
        }

  -- a row of zeros, once it is swept, is a first row
  module _ (v0 v3 : List ℕ) (zeros : (k : ℕ) → slice_index v0 k ≡ 0) (kept : take plan.base v3 ≡ take plan.base v0) (st3 : IsSettledIn plan v3) where
    fixed-zero : (name : List ℕ) → IsListed m name → IsFixed m name → row v3 name ≡ 0
    fixed-zero name known fixed =
        let a = fixed-slot by_layer m b scope s plan p name known fixed in
        let low : slot_in scope slots name < plan.base = (let number = a.2 in let below = a.3 in let base = p.base in omega (arith, number, below, base)) in
        sym (get_or-take plan.base v3 (slot_in scope slots name) 0 low)
        ∙ ap (λ xs. slice_index xs (slot_in scope slots name)) kept
        ∙ get_or-take plan.base v0 (slot_in scope slots name) 0 low ∙ zeros (slot_in scope slots name)

    pub first-fits : FixedFit m scope (row v3)
    first-fits = record { at = λ d listed fixed. subst (λ n. n < 2 ^ (nets d.name).width) (sym (fixed-zero d.name (d, listed, refl) fixed)) (pow_pos (nets d.name).width) }

    pub first-still : (port : Port) → Contains m.ports port → port.input ≡ true → row v3 port.name ≡ 0
    first-still port h i = fixed-zero port.name (input-known by_layer m b scope s plan p port h) (input-fixed by_layer m b scope s plan p port h i)

    pub first-is : IsFirstRow m (λ name. 0) (λ name. 0) (row v3)
    first-is = record {
      row_is = row-is by_layer m b scope s plan p v3 (λ name. 0) st3 first-fits first-still;
      starts = λ signed width name h.
          let a = stored by_layer m b.acyclic.driven b.acyclic.once b.acyclic.acyclic b.clocked signed width name h in
          fixed-zero name (register-known by_layer m b scope s plan p name a.first a.condition a.value a.item) (register-fixed by_layer m b scope s plan p name a.first a.condition a.value a.item);
    }

  -- the row of a machine
  abbrev named : List ℕ → List ℕ → ℕ
  named values name = slice_index values (slot_at slots (position (bytes_eq name) (names_of m)))

  pub named-row : (values : List ℕ) → row values ≡ named values
  named-row values = λ i name. slice_index values (slot_at slots (sym (number-is m scope s.names name) i))

  abbrev FitsNamed : List ℕ → Type 0
  FitsNamed values = (d : Declared) → Contains (declarations m) d → named values d.name < 2 ^ d.net.width

  abbrev StillNamed : List ℕ → Type 0
  StillNamed values = (port : Port) → Contains m.ports port → port.input ≡ true → bytes_eq port.name (codes "clk") ≡ true → named values port.name ≡ 0

  fit-from : (values : List ℕ) → FitsNamed values → FixedFit m scope (row values)
  fit-from values fits = record {
    at = λ d listed fixed. subst (λ n. row values d.name < 2 ^ n)
        (sym (width-is by_layer m b scope s plan p d listed))
        (subst (λ (r : List ℕ → ℕ). r d.name < 2 ^ d.net.width) (sym (named-row values)) (fits d listed));
  }

  to-named : (values : List ℕ) → ((d : Declared) → Contains (declarations m) d → row values d.name < 2 ^ d.net.width) → FitsNamed values
  to-named values fits d listed = subst (λ (r : List ℕ → ℕ). r d.name < 2 ^ d.net.width) (named-row values) (fits d listed)

  module _ (v0 v1 v2 bits : List ℕ) (taken : IsTaken plan.arranged.captures.items v0 v1) (put : IsPut plan.inputs.items bits v1 v2) (fit : AreFit (driven_ports m) bits)
      (v3 : List ℕ) (st0 : IsSettledIn plan v0) (fits0 : FitsNamed v0) (still0 : StillNamed v0) (kept : take plan.base v3 ≡ take plan.base v2) (st3 : IsSettledIn plan v3) where
    still-row : (port : Port) → Contains m.ports port → port.input ≡ true → bytes_eq port.name (codes "clk") ≡ true → row v0 port.name ≡ 0
    still-row port h i clk = (λ k. named-row v0 k port.name) ∙ still0 port h i clk

    edge-row : IsEdge m (row v0) (given (driven_ports m) bits) (row v3)
    edge-row = edge-is v0 v1 v2 bits taken put fit v3 st0 (fit-from v0 fits0) still-row kept st3

    pub edge-named : IsEdge m (named v0) (given (driven_ports m) bits) (named v3)
    edge-named = subst (λ (r : List ℕ → ℕ). IsEdge m (named v0) (given (driven_ports m) bits) r) (named-row v3)
        (subst (λ (r : List ℕ → ℕ). IsEdge m r (given (driven_ports m) bits) (row v3)) (named-row v0) edge-row)

    pub edge-fits-named : FitsNamed v3
    edge-fits-named = to-named v3 edge-row.row_is.fits

    pub edge-still-named : StillNamed v3
    edge-still-named port h i clk = sym (λ k. named-row v3 k port.name) ∙ edge-still v0 v1 v2 bits taken put fit v3 st0 (fit-from v0 fits0) still-row kept st3 port h i clk

  module _ (v0 v3 : List ℕ) (zeros : (k : ℕ) → slice_index v0 k ≡ 0) (kept : take plan.base v3 ≡ take plan.base v0) (st3 : IsSettledIn plan v3) where
    pub first-named : IsFirstRow m (λ name. 0) (λ name. 0) (named v3)
    first-named = subst (λ (r : List ℕ → ℕ). IsFirstRow m (λ name. 0) (λ name. 0) r) (named-row v3) (first-is v0 v3 zeros kept st3)

    pub first-fits-named : FitsNamed v3
    first-fits-named = to-named v3 (first-is v0 v3 zeros kept st3).row_is.fits

    pub first-still-named : StillNamed v3
    first-still-named port h i clk = sym (λ k. named-row v3 k port.name) ∙ first-still v0 v3 zeros kept st3 port h i
