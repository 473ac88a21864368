-- What is renumbered by the marks can be run and emitted, and stands in the place of the whole.
use Rattle.std.proofs.Common.{◌≡◌, ℕ, ◌<◌, List, length, All, Bool, ap, sym, ◌∙◌, subst, arith}
use Rattle.std.proofs.lemmas.Option.{slice_get_within}
use Rattle.hw_net.specs.declared.netlist.Net.{Net}
use Rattle.hw_net.specs.declared.netlist.NetLabel.{NetLabel}
use Rattle.hw_net.specs.declared.netlist.NetPort.{NetPort}
use Rattle.hw_net.specs.Circuit.{Circuit}
use Rattle.hw_net.specs.Emittable.{IsEmittable}
use Rattle.hw_net.specs.Netlist.{IsNetlist, reads}
use Rattle.hw_net.specs.NetRows.{RowsAreOne, RowsAreThere}
use Rattle.hw_refine.specs.Drops.{DropsRefine}
use Rattle.hw_refine.specs.Refines.{Refines}
use Rattle.math_list.proofs.Elements.{stands, all-at, all-from}
use Rattle.hw_renumber.specs.Renumbered.{CanMove, place_in, renumbered}
use Rattle.hw_renumber.specs.Sound.{CanStay, RenumberedEmits, RenumberedRuns}
use Rattle.hw_trim.specs.inner.MarkPlaces.{ArePlaces, kept_of}
use Rattle.hw_trim.specs.inner.Marks.{IsNeeded}
use Rattle.hw_trim.proofs.MarkCounts.{kept-is}
use Rattle.hw_trim.proofs.WholeTrim.{can, drops}

module _ (old : Circuit) (runs : IsNetlist old) (emits : IsEmittable old) (marks : List Bool)
    (needed : IsNeeded old marks) (kept list : List ℕ) (kept-are : kept ≡ kept_of marks (length marks))
    (are : ArePlaces marks list (length marks)) where
  long : length list ≡ length old.nets
  long = are.size ∙ needed.size

  kept-is-all : kept ≡ kept_of marks (length old.nets)
  kept-is-all = kept-are ∙ ap (kept_of marks) needed.size

  below : (k : ℕ) → k < length old.nets → k < length list
  below k h = omega (arith, h, long)

  pub moves : CanMove old kept list
  moves = record {
    there = subst (All (λ (k : ℕ). k < length old.nets)) (sym kept-is-all)
        (all-from (λ (k : ℕ). k < length old.nets) (kept_of marks (length old.nets))
        (λ i k is. (kept-is marks (length old.nets) i k is).0));
    nets = all-from (λ (net : Net). All (λ (r : ℕ). r < length list) (reads net.kind)) old.nets (λ k net is. all-from (λ (r : ℕ). r < length list) (reads net.kind) (λ i r at.
        below r (all-at (λ (r : ℕ). r < length old.nets) (reads net.kind) (all-at (λ (n : Net). All (λ (r : ℕ). r < length old.nets) (reads n.kind)) old.nets runs.there k net is) i r at)));
    inputs = all-from (λ (port : NetPort). port.net < length list) old.inputs
        (λ k port is. below port.net
        (let shown = runs.inputs k port is in slice_get_within old.nets port.net shown.net shown.is));
    outputs = all-from (λ (port : NetPort). port.net < length list) old.outputs (λ k port is. below port.net (all-at (λ (p : NetPort). p.net < length old.nets) old.outputs runs.outputs k port is));
    labels = all-from (λ (label : NetLabel). label.net < length list) old.labels (λ k label is. below label.net (emits.labels.there label (stands old.labels k label is)));
  }

  abbrev place : ℕ → ℕ
  place = place_in list

  counted : (k : ℕ) → k < length old.nets → place k ≡ length (kept_of marks k)
  counted k h = (let size = needed.size in are.each k (omega (arith, h, size)))

  stay : CanStay old place (kept_of marks (length old.nets))
  stay = can old runs emits marks needed place counted

  -- what is renumbered so
  is : (made : Circuit) → made ≡ renumbered old place kept → made ≡ renumbered old place (kept_of marks (length old.nets))
  is made e = e ∙ ap (renumbered old place) kept-is-all

  pub made-runs : RenumberedRuns → (made : Circuit) → made ≡ renumbered old place kept → IsNetlist made
  made-runs law made e = subst IsNetlist (sym (is made e)) (law old place (kept_of marks (length old.nets)) stay runs)

  pub made-emits : RenumberedEmits → (made : Circuit) → made ≡ renumbered old place kept → IsEmittable made
  made-emits law made e = subst IsEmittable (sym (is made e)) (law old place (kept_of marks (length old.nets)) stay emits)

  pub made-refines : RenumberedRuns → DropsRefine → RowsAreThere → RowsAreOne → (made : Circuit) → made ≡ renumbered old place kept → Refines old made
  made-refines law drop there one made e =
      subst (Refines old) (sym (is made e))
      (drop old (renumbered old place (kept_of marks (length old.nets))) place _ there one runs
      (law old place (kept_of marks (length old.nets)) stay runs)
      (drops old runs emits marks needed place counted))
