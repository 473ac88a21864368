-- Ports are put in one by one.
use Rattle.std.proofs.Common.{◌≡◌, ℕ, zero, suc, ◌+◌, ◌<◌, inl, inr, List, [], ◌∷◌, ◌++◌, length, map, take, All, Option, Some, ap, sym, ◌∙◌, subst, refl, arith, add-one, length-append}
use Rattle.std.specs.Prelude.{slice_get, slice_index_or, get_or}
use Rattle.std.proofs.lemmas.Option.{none-some, same_Some, slice_get_within, slice_get-get_or}
use Rattle.dg_model.specs.declared.diagram.Diagram.{Diagram}
use Rattle.dg_model.specs.declared.resolved.Resolved.{Resolved}
use Rattle.dg_model.specs.Attributes.{attributes_of}
use Rattle.dg_model.specs.declared.row.Role.{Role}
use Rattle.dg_model.specs.RootElements.{RootElement, root_inputs, root_outputs}
use Rattle.dg_model.specs.Wired.{root_output}
use Rattle.dg_model.specs.Wires.{width_into}
use Rattle.hw_latency.specs.Weight.{samples as samples_of}
use Rattle.hw_net.specs.declared.netlist.NetPort.{NetPort}
use Rattle.hw_net.specs.Circuit.{Circuit}
use Rattle.math_list.proofs.Places.{split-last, there_map, map_there}
use Rattle.hw_sched.specs.Ready.{declared_latency}
use Rattle.hw_sched.specs.Slots.{Timing as Times}
use Rattle.hw_names.specs.declared.names.Names.{Names}
use Rattle.hw_names.specs.Names.{Given, IsGiven, wanted_of}
use Rattle.hw_names.specs.Taken.{AreTaken, taken_by}
use Rattle.hw_names.specs.Columns.{AreColumnsFrom}
use Rattle.hw_build.specs.inner.HubPlaces.{hub_at}
use Rattle.hw_build.specs.inner.PortSteps.{IsPortOf, IsPortFor, ArePortsFor, AddsInputPorts, AddsOutputPorts}
use Rattle.dg_model.specs.Checked.{IsChecked}
use Rattle.dg_model.specs.Laws.{InputsAreListed, OutputsAreListed, AreRootElements}
use Rattle.dg_tables.specs.Listing.{AreBlocksOf}
use Rattle.hw_names.proofs.Places.{place_is}
use Rattle.hw_names.proofs.NameSets.{given_more, taken_more}

pub take_more : {A : Type 0} (xs : List A) (k : ℕ) (x : A) → slice_get xs k ≡ Some x → take (suc k) xs ≡ take k xs ++ x ∷ []
take_more [] k x at = absurd (none-some x at)
take_more (y ∷ xs) zero x at = ap (λ z. z ∷ []) (same_Some y x at)
take_more (y ∷ xs) (suc k) x at = ap (λ zs. y ∷ zs) (take_more xs k x at)

pub map_more : {A B : Type 0} (f : A → B) (xs : List A) (x : A) → map f (xs ++ x ∷ []) ≡ map f xs ++ f x ∷ []
map_more f [] x = refl
map_more f (y ∷ xs) x = ap (λ zs. f y ∷ zs) (map_more f xs x)

-- no port is put in yet
pub ports_none : (diagram : Diagram) (elements : List RootElement) (width_of : ℕ → ℕ) (number_of : ℕ → RootElement → ℕ) (latency_of : ℕ → ℕ) (names : Names) (ports : List NetPort) → ports ≡ []
    → ArePortsFor diagram elements width_of number_of latency_of names names ports 0
ports_none diagram elements width_of number_of latency_of names ports none =
    subst (λ (xs : List NetPort). ArePortsFor diagram elements width_of number_of latency_of names names xs 0)
    (sym none) (record {
      size = refl;
      each = λ k e port at there. absurd (none-some port there);
      given = λ list taken. (tt, taken);
    })

module _ (diagram : Diagram) (elements : List RootElement) (width_of : ℕ → ℕ) (number_of : ℕ → RootElement → ℕ) (latency_of : ℕ → ℕ) where
  pub ports_more : (old names new : Names) (ports : List NetPort) (k element : ℕ) (e : RootElement) (port : NetPort)
      → ArePortsFor diagram elements width_of number_of latency_of old names ports k → slice_get elements k ≡ Some e
      → element ≡ e.element → e.period ≡ (attributes_of diagram).period_at e.block
      → IsPortOf diagram names new e.block (width_of e.block) element (number_of k e) (latency_of e.block) port
      → ArePortsFor diagram elements width_of number_of latency_of old new (ports ++ port ∷ []) (k + 1)
  ports_more old names new ports k element e port is e_at element_is period_is of = record {
    size = length-append ports (port ∷ []) ∙ omega (arith, is.size);
    each = λ j f other f_at other_at.
        elim (split-last ports port other j other_at) [
          | inl front ↦ is.each j f other f_at front.1
          | inr last ↦
              let size = is.size in
              let place = last.0 in
              let same : j ≡ k = omega (arith, size, place) in
              let f_is : e ≡ f = same_Some e f (sym e_at ∙ ap (slice_get elements) (sym same) ∙ f_at) in
              subst (λ (p : NetPort). IsPortFor f (number_of j f) (latency_of f.block) p) last.1 (subst (λ (x : RootElement). IsPortFor x (number_of j x) (latency_of x.block) port) f_is (record {
                small = of.small;
                net = of.net ∙ ap (λ (n : ℕ). number_of n e) (sym same);
                period = of.period ∙ ap samples_of (sym period_is);
                latency_is = of.latency_is;
              }))
        ];
    given = λ list are.
        let so_far = is.given list are in
        let next = of.named (taken_by list (map (λ (p : NetPort). p.name) ports)) so_far.1 in
        let named : map (λ (p : NetPort). p.name) (ports ++ port ∷ []) ≡ map (λ (p : NetPort). p.name) ports ++ port.name ∷ [] = map_more (λ (p : NetPort). p.name) ports port in
        let wanted : take (k + 1) (map (wanted_of diagram width_of) elements) ≡ take k (map (wanted_of diagram width_of) elements) ++ wanted_of diagram width_of e ∷ [] =
        ap (λ (n : ℕ). take n (map (wanted_of diagram width_of) elements)) (add-one k)
        ∙ take_more (map (wanted_of diagram width_of) elements) k (wanted_of diagram width_of e)
        (there_map (wanted_of diagram width_of) elements k e e_at)
        in
        let given : IsGiven (taken_by list (map (λ (p : NetPort). p.name) ports)) (wanted_of diagram width_of e) port.name =
        subst (λ (n : ℕ). IsGiven (taken_by list (map (λ (p : NetPort). p.name) ports)) (wanted_of diagram width_of (record e { element = n })) port.name) element_is next.0
        in (
          subst (λ (ns : List (List ℕ)). Given list (take (k + 1) (map (wanted_of diagram width_of) elements)) ns) (sym named)
              (subst (λ (ws : List (List ℕ)). Given list ws (map (λ (p : NetPort). p.name) ports ++ port.name ∷ [])) (sym wanted)
              (given_more list (take k (map (wanted_of diagram width_of) elements)) (map (λ (p : NetPort). p.name) ports) (wanted_of diagram width_of e) port.name so_far.0 given)),
          subst (λ (ns : List (List ℕ)). AreTaken new (taken_by list ns)) (sym named) (subst (AreTaken new) (sym (taken_more list (map (λ (p : NetPort). p.name) ports) port.name)) next.1),
        );
  }

-- an input port more
pub input_ports_more : (diagram : Diagram) (old names new : Names) (earlier now later : Circuit) (k element : ℕ)
    (e : RootElement) (port : NetPort) → AddsInputPorts diagram old names earlier now k
    → slice_get (root_inputs diagram (attributes_of diagram)) k ≡ Some e → element ≡ e.element
    → e.period ≡ (attributes_of diagram).period_at e.block
    → IsPortOf diagram names new e.block ((attributes_of diagram).width_at e.block 1) element k 0 port
    → later ≡ record now { inputs = now.inputs ++ port ∷ [] }
    → AddsInputPorts diagram old new earlier later (k + 1)
input_ports_more diagram old names new earlier now later k element e port is e_at element_is period_is of grown =
    let inputs : later.inputs ≡ now.inputs ++ port ∷ [] = ap (λ (c : Circuit). c.inputs) grown in
    record {
      grown = grown ∙ ap (λ (c : Circuit). record c { inputs = now.inputs ++ port ∷ [] }) is.grown ∙ ap (λ (ports : List NetPort). record earlier { inputs = ports }) (sym inputs);
      ports = subst (λ (ports : List NetPort). ArePortsFor diagram (root_inputs diagram (attributes_of diagram))
          (λ block. (attributes_of diagram).width_at block 1) (λ k e. k) (λ block. 0) old new ports (k + 1))
          (sym inputs)
          (ports_more diagram (root_inputs diagram (attributes_of diagram))
          (λ block. (attributes_of diagram).width_at block 1) (λ k e. k)
          (λ block. 0) old names new now.inputs k element e port is.ports e_at element_is period_is of);
    }

-- an output port more
pub output_ports_more : (diagram : Diagram) (plan : Resolved) (times : Times) (firsts : List (List ℕ))
    (old names new : Names) (earlier now later : Circuit) (k element : ℕ) (e : RootElement) (port : NetPort)
    → AddsOutputPorts diagram plan times firsts old names earlier now k
    → slice_get (root_outputs diagram (attributes_of diagram)) k ≡ Some e → element ≡ e.element → e.period ≡ (attributes_of diagram).period_at e.block
    → IsPortOf diagram names new e.block (width_into diagram (attributes_of diagram) e.block 1) element
    (hub_at firsts e.block 1 e.element) (declared_latency diagram (attributes_of diagram) plan times e.block)
    port → later ≡ record now { outputs = now.outputs ++ port ∷ [] }
    → AddsOutputPorts diagram plan times firsts old new earlier later (k + 1)
output_ports_more diagram plan times firsts old names new earlier now later k element e port is e_at element_is period_is of grown =
    let outputs : later.outputs ≡ now.outputs ++ port ∷ [] = ap (λ (c : Circuit). c.outputs) grown in
    record {
      grown = grown ∙ ap (λ (c : Circuit). record c { outputs = now.outputs ++ port ∷ [] }) is.grown ∙ ap (λ (ports : List NetPort). record earlier { outputs = ports }) (sym outputs);
      ports = subst (λ (ports : List NetPort). ArePortsFor diagram (root_outputs diagram (attributes_of diagram))
          (λ block. width_into diagram (attributes_of diagram) block 1) (λ k e. hub_at firsts e.block 1 e.element)
          (declared_latency diagram (attributes_of diagram) plan times) old new ports (k + 1)) (sym outputs)
          (ports_more diagram (root_outputs diagram (attributes_of diagram))
          (λ block. width_into diagram (attributes_of diagram) block 1)
          (λ k e. hub_at firsts e.block 1 e.element)
          (declared_latency diagram (attributes_of diagram) plan times) old names new now.outputs k
          element e port is.ports e_at element_is period_is of);
    }

-- the root element of a column, by the blocks of all
pub record AtColumn (diagram : Diagram) (elements : List RootElement) (blocks : List ℕ) (k : ℕ) : Type 0 where
  pub e : RootElement
  pub at : slice_get elements k ≡ Some e
  pub block_is : e.block ≡ slice_index_or blocks k 0
  pub there : e.block < length diagram.blocks
  pub period_is : e.period ≡ (attributes_of diagram).period_at e.block

element_at : (number_of : Role → Option ℕ) (width_of : ℕ → ℕ) (diagram : Diagram) (elements : List RootElement)
    (blocks : List ℕ) (k : ℕ) → AreRootElements number_of width_of diagram (attributes_of diagram) elements
    → AreBlocksOf elements blocks → k < length blocks → AtColumn diagram elements blocks k
element_at number_of width_of diagram elements blocks k all are below =
    let found = map_there (λ (x : RootElement). x.block) elements k (slice_index_or blocks k 0) (sym (ap (λ (xs : List ℕ). slice_get xs k) are) ∙ slice_get-get_or blocks k 0 below) in
    let of = all.elements_of k found.0 found.1 in
    record { e = found.0; at = found.1; block_is = found.2; there = slice_get_within diagram.blocks found.0.block of.0 of.1; period_is = ap (λ (x : RootElement). x.period) of.4 }

pub column_of : (diagram : Diagram) (inputs : List ℕ) (k : ℕ) → IsChecked diagram → InputsAreListed
    → AreBlocksOf (root_inputs diagram (attributes_of diagram)) inputs → k < length inputs
    → AtColumn diagram (root_inputs diagram (attributes_of diagram)) inputs k
column_of diagram inputs k checked listed are below = element_at _ _ diagram (root_inputs diagram (attributes_of diagram)) inputs k (listed diagram (attributes_of diagram) checked.wired) are below

pub output_of : (diagram : Diagram) (outputs : List ℕ) (k : ℕ) → IsChecked diagram → OutputsAreListed
    → AreBlocksOf (root_outputs diagram (attributes_of diagram)) outputs → k < length outputs
    → AtColumn diagram (root_outputs diagram (attributes_of diagram)) outputs k
output_of diagram outputs k checked listed are below = element_at _ _ diagram (root_outputs diagram (attributes_of diagram)) outputs k (listed diagram (attributes_of diagram) checked.wired) are below

-- their blocks are there
pub outputs_there : (diagram : Diagram) (outputs : List ℕ) → IsChecked diagram → OutputsAreListed
    → AreBlocksOf (root_outputs diagram (attributes_of diagram)) outputs
    → All (λ block. block < length diagram.blocks) outputs
outputs_there diagram outputs checked listed are = λ k d within.
    let column = output_of diagram outputs k checked listed are within in
    let same : slice_index_or outputs k 0 ≡ get_or outputs k d = same_Some _ _ (sym (slice_get-get_or outputs k 0 within) ∙ slice_get-get_or outputs k d within) in
    subst (λ (block : ℕ). block < length diagram.blocks) (column.block_is ∙ same) column.there

-- and their first columns tell where their elements are
pub output_column : (diagram : Diagram) (outputs columns : List ℕ) (k : ℕ) (e : RootElement) → IsChecked diagram
    → OutputsAreListed → AreBlocksOf (root_outputs diagram (attributes_of diagram)) outputs
    → AreColumnsFrom outputs columns 0 → slice_get (root_outputs diagram (attributes_of diagram)) k ≡ Some e
    → slice_index_or columns e.block 0 + e.element ≡ k
output_column diagram outputs columns k e checked listed are columns_are at =
    place_is root_output (λ block. width_into diagram (attributes_of diagram) block 1) diagram
    (listed diagram (attributes_of diagram) checked.wired) outputs columns k e are columns_are at
