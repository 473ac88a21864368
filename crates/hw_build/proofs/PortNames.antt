-- The names of all ports are such as emission asks for. Crates above may cite `want_is`.
use Rattle.std.proofs.Common.{◌≡◌, ◌≢◌, ℕ, zero, suc, ◌^◌, ◌<◌, false, List, [], ◌∷◌, ◌++◌, length, map, take, Contains, Some, ap, sym, ◌∙◌, subst, refl, arith}
use Rattle.std.specs.Prelude.{slice_get, slice_index_or}
use Rattle.std.proofs.lemmas.List.{length-map, map-append, take_all}
use Rattle.std.proofs.lemmas.Option.{same_Some, slice_get_within, slice_get-get_or}
use Rattle.std.specs.List.{AllPairs}
use Rattle.dg_model.specs.declared.diagram.Diagram.{Diagram}
use Rattle.dg_model.specs.Faults.{path_of}
use Rattle.dg_model.specs.RootElements.{RootElement}
use Rattle.hw_net.specs.declared.netlist.NetPort.{NetPort}
use Rattle.hw_net.specs.Emittable.{IsPortName}
use Rattle.hw_names.specs.declared.names.Names.{Names}
use Rattle.hw_names.specs.Names.{own_names, undoubled, element_name, Given, wanted_of}
use Rattle.hw_build.specs.inner.PortSteps.{ArePortsFor}
use Rattle.hw_names.specs.Taken.{AreTaken, taken_by}
use Rattle.hw_build.proofs.NameForms.{IsWanted, names_are, names_differ, plain_element}
use Rattle.math_list.proofs.Places.{map_there, there_map}

abbrev pub name_of : NetPort → List ℕ
name_of port = port.name

-- names that are given one after another to two lists
pub given_both : (list wanted names more others : List (List ℕ)) → Given list wanted names → Given (taken_by list names) more others → Given list (wanted ++ more) (names ++ others)
given_both list [] [] more others given next = next
given_both list [] (name ∷ names) more others given next = absurd given
given_both list (want ∷ wanted) [] more others given next = absurd given
given_both list (want ∷ wanted) (name ∷ names) more others given next = (given.0, given_both (name ∷ list) wanted names more others given.1 next)

-- to all elements of both
pub named_both : (diagram : Diagram) (ins outs : List RootElement) (in_width out_width : ℕ → ℕ)
    (in_number out_number : ℕ → RootElement → ℕ) (in_latency out_latency : ℕ → ℕ) (old names new : Names)
    (inputs outputs : List NetPort) → AreTaken old own_names
    → ArePortsFor diagram ins in_width in_number in_latency old names inputs (length ins) → ArePortsFor diagram outs out_width out_number out_latency names new outputs (length outs)
    → Given own_names (map (wanted_of diagram in_width) ins ++ map (wanted_of diagram out_width) outs) (map name_of (inputs ++ outputs))
named_both diagram ins outs in_width out_width in_number out_number in_latency out_latency old names new inputs outputs are one other =
    let first = one.given own_names are in
    let second = other.given (taken_by own_names (map name_of inputs)) first.1 in
    let in_all : take (length ins) (map (wanted_of diagram in_width) ins) ≡ map (wanted_of diagram in_width) ins =
    take_all (length ins) (map (wanted_of diagram in_width) ins)
    (let e = length-map ins (wanted_of diagram in_width) in omega (arith, e)) in
    let out_all : take (length outs) (map (wanted_of diagram out_width) outs)
    ≡ map (wanted_of diagram out_width) outs =
    take_all (length outs) (map (wanted_of diagram out_width) outs)
    (let e = length-map outs (wanted_of diagram out_width) in omega (arith, e)) in
    subst (Given own_names (map (wanted_of diagram in_width) ins ++ map (wanted_of diagram out_width) outs)) (sym (map-append name_of inputs outputs))
    (given_both own_names (map (wanted_of diagram in_width) ins) (map name_of inputs) (map (wanted_of diagram out_width) outs) (map name_of outputs)
    (subst (λ (ws : List (List ℕ)). Given own_names ws (map name_of inputs)) in_all first.0)
    (subst (λ (ws : List (List ℕ)). Given (taken_by own_names (map name_of inputs)) ws (map name_of outputs)) out_all second.0))

-- what an element wants is a name
pub want_is : (diagram : Diagram) (width_of : ℕ → ℕ) (e : RootElement) → e.element < 2 ^ 64 → IsWanted (wanted_of diagram width_of e)
want_is diagram width_of e small = (
  element_name (undoubled false (path_of diagram e.block))
      (width_of e.block) e.element,
  plain_element (undoubled false (path_of diagram e.block)) (width_of e.block) e.element small,
  refl,
)

-- names by place
name_at : (ports : List NetPort) (k : ℕ) (d : List ℕ) (port : NetPort) → slice_get ports k ≡ Some port → slice_index_or (map name_of ports) k d ≡ port.name
name_at ports k d port at =
    let there = there_map name_of ports k port at in
    same_Some (slice_index_or (map name_of ports) k d) port.name (sym (slice_get-get_or (map name_of ports) k d (slice_get_within (map name_of ports) k port.name there)) ∙ there)

-- the elements of a list of wants
wanted_at : (wanted : List (List ℕ)) → ((k : ℕ) (want : List ℕ) → slice_get wanted k ≡ Some want → IsWanted want) → (j : ℕ) (d : List ℕ) → j < length wanted → IsWanted (slice_index_or wanted j d)
wanted_at wanted each j d low = each j _ (slice_get-get_or wanted j d low)

pub port_names : (wanted : List (List ℕ)) (ports : List NetPort)
    → ((k : ℕ) (want : List ℕ) → slice_get wanted k ≡ Some want → IsWanted want)
    → Given own_names wanted (map name_of ports) → (port : NetPort) → Contains ports port → IsPortName port.name
port_names wanted ports each given port has =
    let at : slice_get ports has.0 ≡ Some port = slice_get-get_or ports has.0 port has.1 ∙ ap (λ (p : NetPort). Some p) has.2 in
    let size = length-map ports name_of in
    let low = has.1 in
    subst IsPortName (name_at ports has.0 [] port at) (names_are own_names wanted (map name_of ports) (λ own c. c) (wanted_at wanted each) given has.0 [] (omega (arith, size, low)))

pub port_names_differ : (wanted : List (List ℕ)) (ports : List NetPort) → Given own_names wanted (map name_of ports) → AllPairs (λ (one other : NetPort). one.name ≢ other.name) ports
port_names_differ wanted ports given = λ i j d less low.
    let size = length-map ports name_of in
    let one : slice_index_or (map name_of ports) i [] ≡ (slice_index_or ports i d).name = name_at ports i [] (slice_index_or ports i d) (slice_get-get_or ports i d (omega (arith, less, low))) in
    let other : slice_index_or (map name_of ports) j [] ≡ (slice_index_or ports j d).name = name_at ports j [] (slice_index_or ports j d) (slice_get-get_or ports j d low) in
    λ same. names_differ own_names wanted (map name_of ports) given i j [] less (omega (arith, size, low)) (one ∙ same ∙ sym other)

-- of two lists of elements
pub wants_are : (diagram : Diagram) (ins outs : List RootElement) (in_width out_width : ℕ → ℕ)
    → ((k : ℕ) (e : RootElement) → slice_get ins k ≡ Some e → e.element < 2 ^ 64)
    → ((k : ℕ) (e : RootElement) → slice_get outs k ≡ Some e → e.element < 2 ^ 64)
    → (k : ℕ) (want : List ℕ) → slice_get (map (wanted_of diagram in_width) ins ++ map (wanted_of diagram out_width) outs) k ≡ Some want → IsWanted want
wants_are diagram [] outs in_width out_width small_in small_out k want at =
    let found = map_there (wanted_of diagram out_width) outs k want at in
    subst IsWanted found.2 (want_is diagram out_width found.0 (small_out k found.0 found.1))
wants_are diagram (e ∷ ins) outs in_width out_width small_in small_out zero want at = subst IsWanted (same_Some (wanted_of diagram in_width e) want at) (want_is diagram in_width e (small_in 0 e refl))
wants_are diagram (e ∷ ins) outs in_width out_width small_in small_out (suc k) want at = wants_are diagram ins outs in_width out_width (λ j f f_at. small_in (suc j) f f_at) small_out k want at
