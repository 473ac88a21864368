use Rattle.std.proofs.Common.{◌≡◌, ◌∙◌, List, length, slice_get, ap, sym, subst₂}
use Rattle.dg_model.specs.Attributes.{attributes_of}
use Rattle.dg_tables.specs.declared.entries.Place.{Place}
use Rattle.dg_tables.specs.declared.roots.Root.{Root}
use Rattle.dg_sim.specs.inner.ProgramSteps.{AreShown}
use Rattle.dg_sim.proofs.Cells.{finished}
use Rattle.dg_sim.proofs.TableEntries.{output_entry}
use Rattle.dg_sim.proofs.building.put_all.Goals as goal

pub returns : goal.returns
returns c =
    let diagram = c.args.checked.now.diagram in
    let places : c.as_slice-2.result.now ≡ c.fill.new.program.places = c.as_slice-2.ensures in
    let roots : c.as_slice-3.result.now ≡ c.in_ok-outputs.outputs = c.as_slice-3.ensures in
    finished diagram (attributes_of diagram) c.fill.new.program c.in_ok-shown.shown c.in_ok-outputs.outputs c.in_ok-fill.ensures.filled c.in_ok-outputs.ensures
    (subst₂ (λ (places : List Place) (roots : List Root). AreShown places roots c.in_ok-shown.shown (length roots)) places roots c.in_ok-shown.ensures)

pub shown_of-requires-clause-entries : goal.shown_of-requires-clause-entries
shown_of-requires-clause-entries c =
    let diagram = c.args.checked.now.diagram in
    λ i root at. output_entry diagram (attributes_of diagram) (c.root_elements_are_listed.ensures.outputs diagram (attributes_of diagram) c.keeps_rules.ensures.checked.wired) i root
    (ap (λ (xs : List Root). slice_get xs i) (sym (c.as_slice-3.ensures ∙ c.in_ok-outputs.ensures)) ∙ at)
