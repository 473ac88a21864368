-- A named output stands at the place of its root element.
use Rattle.std.proofs.Common.{◌≡◌, ℕ, zero, suc, List, [], ◌∷◌, Some, slice_get, length, drop, ap}
use Rattle.std.proofs.lemmas.Option.{none-some, same_Some}
use Rattle.dg_model.specs.declared.diagram.Diagram.{Diagram}
use Rattle.dg_model.specs.Attributes.{attributes_of}
use Rattle.dg_model.specs.RootElements.{RootElement, root_inputs, root_outputs}
use Rattle.hw_module.specs.Interface.{NamedElement, named, output_elements}

named_there : (names : List (List ℕ)) (roots : List RootElement) (k : ℕ) (e : NamedElement)
    → slice_get (named names roots) k ≡ Some e → slice_get roots k ≡ Some e.root
named_there [] roots k e at = absurd (none-some e at)
named_there (name ∷ names) [] k e at = absurd (none-some e at)
named_there (name ∷ names) (root ∷ roots) zero e at =
    ap (λ (x : NamedElement). Some x.root) (same_Some (record { name = name; root = root }) e at)
named_there (name ∷ names) (root ∷ roots) (suc k) e at = named_there names roots k e at

pub root_there : (names : List (List ℕ)) (diagram : Diagram) (k : ℕ) (e : NamedElement)
    → slice_get (output_elements names diagram) k ≡ Some e
    → slice_get (root_outputs diagram (attributes_of diagram)) k ≡ Some e.root
root_there names diagram k e at =
    named_there (drop (length (root_inputs diagram (attributes_of diagram))) names)
    (root_outputs diagram (attributes_of diagram)) k e at
