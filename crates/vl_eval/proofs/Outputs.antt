-- What a machine hands out of an output's place is what the row shows of its port.
use Rattle.std.proofs.Common.{◌≡◌, ◌<◌, ◌≤◌, ◌+◌, ◌^◌, ℕ, Bool, true, false, ◌||◌, List, length, slice_get, slice_index, slice_index_or, bytes_eq, Contains, Some, refl, sym, ap, subst, ◌∙◌, arith}
use Rattle.std.proofs.lemmas.Bool.{eq-eqb}
use Rattle.std.specs.List.{position}
use Rattle.std.proofs.lemmas.Option.{slice_get_within, slice_get-get_or}
use Rattle.std.proofs.lemmas.List.{get_or-map, get_or_default}
use Rattle.vl_ast.specs.declared.modules.Port.{Port}
use Rattle.vl_ast.specs.declared.modules.Module.{Module}
use Rattle.vl_ast.specs.Conditions.{BreaksNone}
use Rattle.vl_ast.specs.Control.{is_number_output, is_stallable}
use Rattle.vl_ast.specs.Driven.{output_ports, port_number}
use Rattle.vl_ast.specs.Nets.{Declared, declarations, port_declared}
use Rattle.vl_ast.specs.Value.{number_of}
use Rattle.vl_ast.proofs.Agree.{ByLayer}
use Rattle.vl_ast.proofs.Facts.{in-port, mention-listed}
use Rattle.vl_ast.proofs.PortLists.{filter-in, slice-in}
use Rattle.vl_check.proofs.ScopeNames.{at-number}
use Rattle.vl_check.specs.declared.scope.Scope.{Scope}
use Rattle.vl_check.specs.Scope.{IsScopeOf, names_in, nets_in}
use Rattle.vl_eval.specs.declared.ops.Op.{Op}
use Rattle.vl_eval.specs.declared.plan.Plan.{Plan}
use Rattle.vl_eval.specs.inner.PlanOperations.{IsPlan, output_of}
use Rattle.vl_check.specs.Names.{names_of}
use Rattle.vl_eval.specs.declared.plan.Output.{Output}
use Rattle.vl_eval.specs.inner.Site.{slot_at, slot_in}
use Rattle.vl_eval.proofs.Builds.{grows-length}
use Rattle.vl_eval.proofs.Captures.{number-of}
use Rattle.vl_eval.proofs.StablePlaces.{IsListed, any-port, few, input-known, width-is}
use Rattle.vl_eval.proofs.Edges.{named-row}

module _ (by_layer : ByLayer) (m : Module) (b : BreaksNone m) (scope : Scope) (s : IsScopeOf m scope) (plan : Plan) (p : IsPlan m scope plan) where
  abbrev slots : List ℕ
  slots = plan.arranged.slots.items

  abbrev ops : List Op
  ops = plan.arranged.ops

  abbrev named : List ℕ → List ℕ → ℕ
  named values name = slice_index values (slot_at slots (position (bytes_eq name) (names_of m)))

  abbrev FitsNamed : List ℕ → Type 0
  FitsNamed values = (d : Declared) → Contains (declarations m) d → named values d.name < 2 ^ d.net.width

  -- an output at its place
  record Out (place : ℕ) : Type 0 where
    port : Port
    found : slice_get (output_ports m) place ≡ Some port
    inside : Contains m.ports port
    is : (d : Output) → slice_index_or plan.outputs.items place d ≡ output_of scope slots port

  out-at : (place : ℕ) → place < length (output_ports m) → Out place
  out-at place below =
      let port = slice_index_or (output_ports m) place any-port in
      let found : slice_get (output_ports m) place ≡ Some port = slice_get-get_or (output_ports m) place any-port below in
      record {
        port = port;
        found = found;
        inside = (filter-in (is_number_output (is_stallable m)) m.ports port (slice-in (output_ports m) place port found)).0;
        is = λ d. ap (λ xs. slice_index_or xs place d) p.outputs ∙ get_or-map (output_of scope slots) (output_ports m) place any-port d below;
      }

  slot-within : (name : List ℕ) → IsListed m name → slot_in scope slots name < plan.base + length ops
  slot-within name known =
      let k = number-of by_layer m scope s b.acyclic.driven b.acyclic.once (few by_layer m b scope s plan p) slots p.wires p.wired name known in
      let low = slice_get_within (names_in scope) k.0 name (at-number scope.names.items k.0 name k.1) in
      let b = p.wired.below k.0 low in
      let e : slot_in scope slots name ≡ slice_index slots k.0 = ap (slot_at slots) k.1 in
      let g = grows-length (length (names_in scope)) p.wires ops p.captured.grows in
      let base = p.base in
      omega (arith, b, e, g, base)

  module _ (place : ℕ) (below : place < length (output_ports m)) (o : Output) (shown : o ≡ slice_index_or plan.outputs.items place o) where
    abbrev here : Port
    here = (out-at place below).port

    output-is : o ≡ output_of scope slots here
    output-is = shown ∙ (out-at place below).is o

    port-known : IsListed m here.name
    port-known = input-known by_layer m b scope s plan p here (out-at place below).inside

    pub slot-below : o.slot < plan.base + length ops
    slot-below = let e = ap (λ (x : Output). x.slot) output-is in let w = slot-within here.name port-known in omega (arith, e, w)

    width-here : (nets_in scope here.name).width ≡ here.width
    width-here = width-is by_layer m b scope s plan p (port_declared here)
        (mention-listed m b.acyclic.driven b.acyclic.once (port_declared here)
        (in-port m b.acyclic.driven b.acyclic.once here (out-at place below).inside))

    pub output-few : o.width ≤ 128
    output-few = let e = ap (λ (x : Output). x.width) output-is in let w = width-here in let f = few by_layer m b scope s plan p here.name in omega (arith, e, w, f)

    pub output-signed : o.width ≡ 128 → o.signed ≡ true
    output-signed wide =
        let w : here.width ≡ 128 = sym (ap (λ (x : Output). x.width) output-is) ∙ wide in
        ap (λ (x : Output). x.signed) output-is ∙ ap (λ t. here.signed || t) (eq-eqb here.width 128 w) ∙ or-true here.signed
      where
        or-true : (t : Bool) → (t || true) ≡ true
        or-true true = refl
        or-true false = refl

    module _ (values : List ℕ) (room : length values ≡ plan.base + length ops) (bits : ℕ) (read : bits ≡ slice_index_or values o.slot bits) where
      bits-are : bits ≡ named values here.name
      bits-are =
          let low = slot-below in
          read ∙ get_or_default values o.slot bits 0 (omega (arith, low, room))
          ∙ ap (λ (x : Output). slice_index values x.slot) output-is
          ∙ (λ k. named-row by_layer m b scope s plan p values k here.name)

      pub output-fits : FitsNamed values → bits < 2 ^ o.width
      output-fits fits =
          let f = fits (port_declared here) (mention-listed m b.acyclic.driven b.acyclic.once (port_declared here) (in-port m b.acyclic.driven b.acyclic.once here (out-at place below).inside)) in
          subst (λ n. bits < 2 ^ n) (sym (ap (λ (x : Output). x.width) output-is)) (subst (λ n. n < 2 ^ here.width) (sym bits-are) f)

      pub output-shows : (port : Port) → slice_get (output_ports m) place ≡ Some port
          → number_of (record { width = o.width; signed = o.signed; bits = bits })
          ≡ port_number port (named values port.name)
      output-shows port e =
          let same : here ≡ port = one (sym (out-at place below).found ∙ e) in
          (λ i. number_of (record { width = (output-is i).width; signed = (output-is i).signed; bits = bits-are i })) ∙ ap (λ (x : Port). port_number x (named values x.name)) same
        where
          one : {x y : Port} → Some x ≡ Some y → x ≡ y
          one z = cc z
