-- The ports of a diagram's module that carry numbers, and what they declare.
use Rattle.std.proofs.Common.{◌≡◌, ℕ, zero, suc, ◌+◌, ◌==◌, nat_le, Bool, true, false, not, ◌&&◌, ◌||◌, if◌then◌else◌, List, [], ◌∷◌, ◌++◌, map, filter, find, length, drop, Contains, bytes_eq, codes}
use Rattle.std.proofs.Common.{Option, Some, None, refl, sym, ap, subst, ◌∙◌, arith, length-append, length-drop}
use Rattle.std.specs.Prelude.{slice_get, is_none, option_map, unwrap_or}
use Rattle.std.specs.List.{list_any}
use Rattle.std.proofs.lemmas.List.{append-nil, length-map}
use Rattle.std.proofs.lemmas.List.Elements.{Contains-append_left, Contains-append_right, filter-append}
use Rattle.dg_model.specs.declared.diagram.Diagram.{Diagram}
use Rattle.dg_model.specs.declared.resolved.Resolved.{Resolved}
use Rattle.dg_model.specs.Attributes.{attributes_of}
use Rattle.dg_model.specs.RootElements.{RootElement, root_inputs, root_outputs}
use Rattle.dg_model.specs.Signals.{Attributes}
use Rattle.dg_model.specs.Wires.{width_into}
use Rattle.std.proofs.lemmas.Bool.{or_parts}
use Rattle.math_list.proofs.Tests.{unequal}
use Rattle.math_list.proofs.Places.{map_there, get_some, there_within}
use Rattle.cmd_generate.proofs.Places.{element, first-part, given-free, keep-all, keep-none, kept, named-at, named-in, named-size, none-found, not-mapped, or-true, to-named}
use Rattle.hw_module.specs.Carries.{Carries}
use Rattle.hw_module.specs.Interface.{NamedElement, input_data, input_elements, output_data, output_elements, step_of}
use Rattle.hw_names.specs.Names.{own_names, wanted_names, wanted_of}
use Rattle.hw_names.proofs.NameSets.{given_size}
use Rattle.hw_sched.specs.Ready.{declared_latency}
use Rattle.hw_sched.specs.Slots.{Timing}
use Rattle.vl_ast.specs.declared.modules.Attr.{Attr}
use Rattle.vl_ast.specs.declared.modules.Module.{Module}
use Rattle.vl_ast.specs.declared.modules.Port.{Port}
use Rattle.vl_ast.specs.Attributes.{attribute, clocks_of, cycles_of, latency_of, period_of}
use Rattle.vl_ast.specs.Conditions.{lacks_attribute}
use Rattle.vl_ast.specs.Control.{is_bit_input, is_control_input, is_control_output, is_number_input, is_number_output, is_stallable}
use Rattle.vl_ast.specs.Driven.{output_ports, stimulus_ports}
use Rattle.vl_ast.specs.Header.{bit_input, bit_output, input_port, output_port}
use Rattle.math_list.proofs.Elements.{map-in, none-in, tail-in}

module _ {core : Module} {diagram : Diagram} {plan : Resolved} {timing : Timing} (c : Carries core diagram plan timing) where
  abbrev A : Attributes
  A = attributes_of diagram

  abbrev ins : List NamedElement
  ins = input_elements c.names diagram

  abbrev outs : List NamedElement
  outs = output_elements c.names diagram

  abbrev in_port : NamedElement → Port
  in_port e = input_port (input_data e)

  abbrev out_port : NamedElement → Port
  out_port e = output_port (output_data diagram plan timing e)

  pub stalls : is_stallable core ≡ true
  stalls = ap (list_any (is_bit_input (codes "clk_enable"))) c.header.ports

  not-own : (n own : List ℕ) → Contains own_names own → Contains c.names n → bytes_eq n own ≡ false
  not-own n own o h = unequal n own (λ e. given-free own_names (wanted_names diagram) c.names c.are_names.given n h (subst (λ x. Contains own_names x) (sym e) o))

  own-clk : Contains own_names (codes "clk")
  own-clk = (0, omega arith, refl)

  own-reset : Contains own_names (codes "reset")
  own-reset = (1, omega arith, refl)

  own-enable : Contains own_names (codes "clk_enable")
  own-enable = (2, omega arith, refl)

  own-out : Contains own_names (codes "ce_out")
  own-out = (3, omega arith, refl)

  pub in-name : (e : NamedElement) → Contains ins e → Contains c.names e.name × Contains (root_inputs diagram A) e.root
  in-name e h = named-in c.names (root_inputs diagram A) e h

  dropped : (count : ℕ) (names : List (List ℕ)) (n : List ℕ) → Contains (drop count names) n → Contains names n
  dropped zero names n h = h
  dropped (suc count) [] n h = absurd (none-in n h)
  dropped (suc count) (x ∷ names) n h = tail-in x n names (dropped count names n h)

  pub out-name : (e : NamedElement) → Contains outs e → Contains c.names e.name × Contains (root_outputs diagram A) e.root
  out-name e h =
      let r = named-in (drop (length (root_inputs diagram A)) c.names) (root_outputs diagram A) e h in
      (dropped (length (root_inputs diagram A)) c.names e.name r.0, r.1)

  in-number : (e : NamedElement) → Contains ins e → is_number_input true (in_port e) ≡ true
  in-number e h =
      let n = (in-name e h).0 in
      let a = not-own e.name (codes "clk_enable") own-enable n in
      let b = not-own e.name (codes "clk") own-clk n in
      let d = not-own e.name (codes "reset") own-reset n in
      (λ i. not (a i || (b i || d i)))

  off-output : (e : NamedElement) → Contains outs e → is_control_output true (out_port e) ≡ false
  off-output e h =
      let a = not-own e.name (codes "ce_out") own-out (out-name e h).0 in
      ap (λ (b : Bool). ((true && b) && not (out_port e).signed) && (out_port e).width == 1) a

  out-number : (e : NamedElement) → Contains outs e → is_number_output true (out_port e) ≡ true
  out-number e h = ap (λ b. not (b || false)) (off-output e h)

  abbrev front : List Port
  front = bit_input (codes "clk") ∷ bit_input (codes "reset") ∷ bit_input (codes "clk_enable") ∷ []

  stimulus-are : stimulus_ports core ≡ map in_port ins
  stimulus-are =
      (λ i. filter (is_number_input (stalls i)) (c.header.ports i))
      ∙ filter-append (is_number_input true) (map in_port ins) (bit_output (codes "ce_out") ∷ map out_port outs)
      ∙ (let a = keep-all (is_number_input true) in_port ins in-number in
      let b = keep-none (is_number_input true) out_port outs (λ e h. refl) in
      (λ i. a i ++ b i))
      ∙ append-nil (map in_port ins)

  pub outputs-are : output_ports core ≡ map out_port outs
  outputs-are =
      (λ i. filter (is_number_output (stalls i)) (c.header.ports i))
      ∙ filter-append (is_number_output true) (map in_port ins) (bit_output (codes "ce_out") ∷ map out_port outs)
      ∙ (let a = keep-none (is_number_output true) in_port ins (λ e h. or-true _) in
      let b = keep-all (is_number_output true) out_port outs out-number in
      (λ i. a i ++ b i))

  -- ---- its numbers

  attributed : (is_none (cycles_of core) ≡ false) × (option_map (λ (port : Port). port.name) (find (lacks_attribute (is_stallable core)) core.ports) ≡ None)
  attributed = first-part (is_none (cycles_of core)) core.name (option_map (λ (port : Port). port.name) (find (lacks_attribute (is_stallable core)) core.ports)) c.sound.attributed

  pub cycles-told : cycles_of core ≡ Some plan.cycles
  cycles-told =
      let e : cycles_of core ≡ (if nat_le 1 plan.cycles
      && nat_le plan.cycles 1024 then Some plan.cycles else None) =
      ap (λ (attrs : List Attr). attribute attrs (codes "fx_cycles") 1 1024) c.header.attrs in
      e ∙ kept plan.cycles (nat_le 1 plan.cycles && nat_le plan.cycles 1024) (sym (ap is_none e) ∙ attributed.0)

  pub cycles-are : clocks_of core ≡ plan.cycles
  cycles-are = ap (λ (o : Option ℕ). unwrap_or o 1) cycles-told

  lacks-none : (port : Port) → Contains core.ports port → lacks_attribute true port ≡ false
  lacks-none port h = ap (λ s. lacks_attribute s port) (sym stalls)
      ∙ none-found (lacks_attribute (is_stallable core)) core.ports
      (not-mapped (find (lacks_attribute (is_stallable core)) core.ports) attributed.1) port h

  in-there : (e : NamedElement) → Contains ins e → Contains core.ports (in_port e)
  in-there e h = subst (λ ports. Contains ports (in_port e)) (sym c.header.ports)
      (Contains-append_right front (map in_port ins ++ bit_output (codes "ce_out") ∷ map out_port outs) (in_port e)
      (Contains-append_left (map in_port ins) (bit_output (codes "ce_out") ∷ map out_port outs) (in_port e) (map-in in_port ins e h)))

  out-there : (e : NamedElement) → Contains outs e → Contains core.ports (out_port e)
  out-there e h = subst (λ ports. Contains ports (out_port e)) (sym c.header.ports)
      (Contains-append_right front (map in_port ins ++ bit_output (codes "ce_out") ∷ map out_port outs) (out_port e)
      (Contains-append_right (map in_port ins) (bit_output (codes "ce_out") ∷ map out_port outs) (out_port e)
      (tail-in (bit_output (codes "ce_out")) (out_port e) (map out_port outs) (map-in out_port outs e h))))

  abbrev declared : NamedElement → ℕ
  declared e = declared_latency diagram A plan timing e.root.block

  -- the numbers that an output declares
  pub output-numbers : (e : NamedElement) → Contains outs e → (period_of (out_port e) ≡ Some (step_of e.root)) × (latency_of (out_port e) ≡ Some (declared e))
  output-numbers e h =
      let lacks : (not (is_control_output true (out_port e)) && (is_none (period_of (out_port e)) || is_none (latency_of (out_port e)))) ≡ false = lacks-none (out_port e) (out-there e h) in
      let both = or_parts (is_none (period_of (out_port e))) (is_none (latency_of (out_port e)))
      (sym (ap (λ b. not b && (is_none (period_of (out_port e)) || is_none (latency_of (out_port e)))) (off-output e h)) ∙ lacks) in (
        kept (step_of e.root) (nat_le 1 (step_of e.root) && nat_le (step_of e.root) 4096) both.0,
        kept (declared e) (nat_le 0 (declared e) && nat_le (declared e) 16777216) both.1,
      )

  -- and the period of an input
  pub input-period : (e : NamedElement) → Contains ins e → period_of (in_port e) ≡ Some (step_of e.root)
  input-period e h =
      let lacks : (not (is_control_input true (in_port e)) && is_none (period_of (in_port e))) ≡ false = lacks-none (in_port e) (in-there e h) in
      let number : not (is_control_input true (in_port e)) ≡ true = in-number e h in
      kept (step_of e.root) (nat_le 1 (step_of e.root) && nat_le (step_of e.root) 4096) (sym (ap (λ b. b && is_none (period_of (in_port e))) number) ∙ lacks)

  -- ---- their elements by place

  pub wanted-size : length (wanted_names diagram) ≡ length (root_inputs diagram A) + length (root_outputs diagram A)
  wanted-size =
      let wi : RootElement → List ℕ = wanted_of diagram (λ block. A.width_at block 1) in
      let wo : RootElement → List ℕ = wanted_of diagram (λ block. width_into diagram A block 1) in
      length-append (map wi (root_inputs diagram A)) (map wo (root_outputs diagram A))
      ∙ (let a = length-map (root_inputs diagram A) wi in let b = length-map (root_outputs diagram A) wo in (λ i. a i + b i))

  core-many : length c.names ≡ length (wanted_names diagram)
  core-many = given_size own_names (wanted_names diagram) c.names c.are_names.given

  pub inputs-many : length (stimulus_ports core) ≡ length (root_inputs diagram A)
  inputs-many =
      ap (λ (ports : List Port). length ports) stimulus-are ∙ length-map ins in_port
      ∙ named-size c.names (root_inputs diagram A) (let size = wanted-size in let many = core-many in omega (arith, size, many))

  -- how many names the outputs have
  names-rest : length (drop (length (root_inputs diagram A)) c.names) ≡ length (root_outputs diagram A)
  names-rest = let size = wanted-size in let many = core-many in let rest = length-drop (length (root_inputs diagram A)) c.names in omega (arith, size, many, rest)

  pub outputs-many : length (output_ports core) ≡ length (root_outputs diagram A)
  outputs-many =
      ap (λ (ports : List Port). length ports) outputs-are ∙ length-map outs out_port
      ∙ named-size (drop (length (root_inputs diagram A)) c.names) (root_outputs diagram A) (let rest = names-rest in omega (arith, rest))

  -- the output of a root element
  pub output-of : (index : ℕ) (root : RootElement) → slice_get (root_outputs diagram A) index ≡ Some root → (e : NamedElement) × (slice_get outs index ≡ Some e) × (e.root ≡ root)
  output-of index root at =
      let low = there_within (root_outputs diagram A) index root at in
      let rest = names-rest in
      let n = get_some (drop (length (root_inputs diagram A)) c.names) index (omega (arith, low, rest)) in
      (element n.0 root, to-named (drop (length (root_inputs diagram A)) c.names) (root_outputs diagram A) index n.0 root n.1 at, refl)

  -- the root element of an input
  pub input-at : (index : ℕ) (port : Port) → slice_get (stimulus_ports core) index ≡ Some port
      → (e : NamedElement) × (slice_get ins index ≡ Some e) × (in_port e ≡ port)
      × (slice_get (root_inputs diagram A) index ≡ Some e.root)
  input-at index port at =
      let e = map_there in_port ins index port (sym (ap (λ (ports : List Port). slice_get ports index) stimulus-are) ∙ at) in
      (e.0, e.1, e.2, (named-at c.names (root_inputs diagram A) index e.0 e.1).1)
