-- What a table shows of the root outputs, and that there is one response.
use Rattle.std.proofs.Common.{◌≡◌, ◌<◌, ◌≤◌, ℕ, ℤ, List, Some, slice_get, refl, sym, subst, ◌∙◌, arith}
use Rattle.std.proofs.lemmas.Option.{none-some}
use Rattle.fx_tables.specs.declared.table.Rows.{Rows}
use Rattle.dg_model.specs.declared.diagram.Diagram.{Diagram}
use Rattle.dg_model.specs.declared.diagram.Block.{Block}
use Rattle.dg_model.specs.Attributes.{attributes_of}
use Rattle.dg_model.specs.declared.row.Role.{Role}
use Rattle.dg_model.specs.Library.{row_of}
use Rattle.dg_model.specs.Laws.{OutputsAreListed}
use Rattle.dg_model.specs.RootElements.{RootElement, root_outputs}
use Rattle.dg_model.specs.Signals.{Attributes}
use Rattle.dg_model.specs.Solves.{IsShown, ports_of_role, width_of_role}
use Rattle.dg_model.specs.Wired.{IsWired, root_output}
use Rattle.dg_model.specs.Wires.{width_into}
use Rattle.dg_tables.specs.Laws.{IsOrdered, TablesAreOne}
use Rattle.dg_response.specs.Response.{IsResponse, shown, stimulus_of}
use Rattle.math_list.proofs.Indices.{same-map}

output-role : (diagram : Diagram) (attributes : Attributes) (outputs block port number : ℕ) (role : Role) → root_output role ≡ Some number
    → (ports_of_role role outputs ≡ 1) × (width_of_role diagram attributes role block port ≡ width_into diagram attributes block 1)
output-role diagram attributes outputs block port number (Role.RootOutput own) e = (refl, refl)
output-role diagram attributes outputs block port number _ e = absurd (none-some number e)

-- a root output is shown
pub is-shown : OutputsAreListed → (diagram : Diagram) → IsWired diagram → (place : ℕ) (e : RootElement) → slice_get (root_outputs diagram (attributes_of diagram)) place ≡ Some e
    → (b : Block) × IsShown diagram (attributes_of diagram) e.block b 1 e.element
is-shown listed diagram wired place e there =
    let of = (listed diagram (attributes_of diagram) wired).elements_of place e there in
    let role = output-role diagram (attributes_of diagram) of.0.outputs e.block 1 e.number (row_of of.0.kind).place.role of.2 in (
      of.0,
      record {
        block_is = of.1;
        port_from = omega arith;
        port_to = subst (λ n. 1 ≤ n) (sym role.0) (omega arith);
        element_below = subst (λ n. e.element < n) (sym role.1) of.3;
      },
    )

module _ (listed : OutputsAreListed) (one : TablesAreOne) (diagram : Diagram) (order : List ℕ) (ordered : IsOrdered diagram order) where
  pub one-line : (rows : Rows) (lines other : ℕ → List ℤ) → IsResponse diagram rows lines → IsResponse diagram rows other → (t : ℕ) → t < rows.lines → lines t ≡ other t
  one-line rows lines other first second t below =
      let agree = one diagram order (stimulus_of diagram rows) rows.lines first.table second.table ordered first.solves second.solves in
      let same : shown diagram first.table t ≡ shown diagram second.table t =
      same-map (λ (e : RootElement). first.table e.block 1 e.element t) (λ (e : RootElement). second.table e.block 1 e.element t) (root_outputs diagram (attributes_of diagram))
      (λ place e there. (let entry = is-shown listed diagram ordered.checked.wired place e there in agree e.block t below entry.0 1 e.element entry.1)) in
      first.lines_are t below ∙ same ∙ sym (second.lines_are t below)
