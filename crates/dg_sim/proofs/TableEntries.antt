-- What a table shows of a block.
use Rattle.std.proofs.Common.{◌≡◌, ℕ, ◌<◌, Some, slice_get, refl, sym, subst, arith}
use Rattle.std.proofs.lemmas.Option.{none-some}
use Rattle.dg_model.specs.declared.diagram.Diagram.{Diagram}
use Rattle.dg_model.specs.declared.kind.Kind.{Kind}
use Rattle.dg_model.specs.Signals.{Attributes}
use Rattle.dg_model.specs.declared.row.Role.{Role}
use Rattle.dg_model.specs.Library.{row_of}
use Rattle.dg_model.specs.Wired.{root_output}
use Rattle.dg_model.specs.Laws.{AreRootElements}
use Rattle.dg_model.specs.RootElements.{RootElement, root_outputs}
use Rattle.dg_model.specs.Wires.{width_into}
use Rattle.dg_tables.specs.declared.roots.Root.{Root}
use Rattle.dg_tables.specs.Entries.{IsEntry, place_at}
use Rattle.dg_tables.specs.Roots.{root_at, roots_of}
use Rattle.math_list.proofs.Places.{map_there}
use Rattle.dg_model.specs.Solves.{shown_ports, shown_width, ports_of_role, width_of_role}

-- a root output port shows what its input offers, at port 1
pub shown_some : (diagram : Diagram) (attributes : Attributes) (kind : Kind) (outputs block port number : ℕ) → root_output (row_of kind).place.role ≡ Some number
    → (shown_ports kind outputs ≡ 1) × (shown_width diagram attributes kind block port ≡ width_into diagram attributes block 1)
shown_some diagram attributes kind outputs block port number = go (row_of kind).place.role
  where
    go : (role : Role) → root_output role ≡ Some number → (ports_of_role role outputs ≡ 1) × (width_of_role diagram attributes role block port ≡ width_into diagram attributes block 1)
    go (Role.RootInput own) e = absurd (none-some number e)
    go (Role.RootOutput own) e = (refl, refl)
    go (Role.InnerPort width) e = absurd (none-some number e)
    go Role.EnabledOutput e = absurd (none-some number e)
    go Role.Control e = absurd (none-some number e)
    go Role.Plain e = absurd (none-some number e)

-- so each element of the root outputs is an entry
pub output_entry : (diagram : Diagram) (attributes : Attributes) → AreRootElements root_output (λ block. width_into diagram attributes block 1) diagram attributes (root_outputs diagram attributes)
    → (i : ℕ) (root : Root) → slice_get (roots_of (root_outputs diagram attributes)) i ≡ Some root → IsEntry diagram attributes (place_at root.block 1 root.element)
output_entry diagram attributes are i root at =
    let f : RootElement → Root = λ e. root_at e.number e.block e.element in
    let m = map_there f (root_outputs diagram attributes) i root at in
    let e = m.0 in
    let is = are.elements_of i e m.1 in
    let shown = shown_some diagram attributes is.0.kind is.0.outputs e.block 1 e.number is.2 in
    subst (λ (root : Root). IsEntry diagram attributes (place_at root.block 1 root.element)) m.2 (
      is.0,
      record {
        block_is = is.1;
        port_from = omega arith;
        port_to = omega (arith, shown.0);
        element_below = subst (λ (n : ℕ). e.element < n) (sym shown.1) is.3;
      },
    )
