use Rattle.std.proofs.Common.{◌≡◌, ◌+◌, ℕ, length, Some, slice_get, ap, sym, ◌∙◌, arith}
use Rattle.std.specs.Vec.{with_items}
use Rattle.std.proofs.lemmas.List.{with_items_is}
use Rattle.dg_sim.specs.declared.program.Memory.{Memory}
use Rattle.dg_sim.specs.Ring.{PastValues}
use Rattle.dg_sim.specs.Sim.{IsSimOf}
use Rattle.dg_sim.proofs.Moves.{after}
use Rattle.dg_sim.proofs.NextSample.{still_sim, is_stepped}
use Rattle.dg_sim.proofs.sim.Sim.step.Goals as goal
use Rattle.dg_sim.proofs.sim.Sim.step.Goals.{After-keep}

-- the row and what is kept have as many values as before, and are what the passes made of them
row_size : (c : After-keep) → length c.sweep.new.row ≡ length c.self.inside.row.items
row_size c = c.sweep.auto.row ∙ ap length c.as_mut_slice.ensures.value

pasts_size : (c : After-keep) → length c.keep.new.pasts ≡ length c.self.inside.pasts.items
pasts_size c = c.keep.ensures.size ∙ ap length c.as_mut_slice-2.ensures.value

row_is : (c : After-keep) → (with_items c.self.inside.row c.sweep.new.row).items ≡ c.sweep.new.row
row_is c = with_items_is c.self.inside.row c.sweep.new.row (row_size c ∙ sym c.self.inside.row.ok.0)

pasts_are : (c : After-keep) → (with_items c.self.inside.pasts c.keep.new.pasts).items ≡ c.keep.new.pasts
pasts_are c = with_items_is c.self.inside.pasts c.keep.new.pasts (pasts_size c ∙ sym c.self.inside.pasts.ok.0)

-- it was a simulator, and each memory has what is kept after the sample
was_sim : (c : After-keep) → IsSimOf c.args.checked.now
    (record {
      program = c.self.inside.program;
      samples = c.self.inside.samples;
      row =
          c.self.inside.row.items;
      pasts = c.self.inside.pasts.items;
      prepared = c.self.inside.prepared.items;
    })
was_sim c = rw (sym c.self.view_is) at c.requires.sim

each_is : (c : After-keep) → (m : ℕ) (memory : Memory) (past : PastValues) → slice_get c.self.inside.program.memories m ≡ Some memory → slice_get c.self.inside.pasts.items m ≡ Some past
    → slice_get c.keep.new.pasts m ≡ Some (after memory c.self.inside.samples c.sweep.new.row past)
each_is c = rw (c.as_slice-3.ensures.value, c.as_mut_slice-2.ensures.value, row_is c) at c.keep.ensures.each

pub returns-clause-sim : goal.returns-clause-sim
returns-clause-sim c =
    let self = c.self.inside in
    let kept = (goal.at.returns-clause-sim c).After-keep in
    rw (row_is kept, pasts_are kept) (still_sim c.args.checked.now self.program self.samples self.row.items
    c.sweep.new.row self.pasts.items c.keep.new.pasts self.prepared.items (was_sim kept) (row_size kept)
    (pasts_size kept) (each_is kept) (self.samples + 1))

pub returns-clause-stepped : goal.returns-clause-stepped
returns-clause-stepped c =
    let self = c.self.inside in
    let kept = (goal.at.returns-clause-stepped c).After-keep in
    let agrees = rw (c.as_slice.ensures.value, c.as_slice-2.ensures.value, c.as_mut_slice.ensures.value) at c.sweep.ensures in
    let out_is = rw (c.as_slice-4.ensures.value, c.as_slice-5.ensures, row_is kept) at c.show.ensures in
    rw (row_is kept, pasts_are kept, sym c.self.view_is)
    (is_stepped c.args.checked.now self.program self.samples self.row.items c.sweep.new.row self.pasts.items
    c.keep.new.pasts self.prepared.items (was_sim kept) (row_size kept) (pasts_size kept) (each_is kept)
    c.args.numbers.now c.show.new.out c.kept_moves.ensures.moves agrees out_is (self.samples + 1) (omega arith))
