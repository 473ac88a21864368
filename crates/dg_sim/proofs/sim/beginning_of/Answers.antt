use Rattle.std.proofs.Common.{◌∙◌, List, length, slice_get, ap, sym, subst}
use Rattle.std.proofs.lemmas.Option.{slice_get-get_or}
use Rattle.dg_sim.specs.declared.program.Memory.{Memory}
use Rattle.dg_sim.specs.inner.ProgramSteps.{AreRooms}
use Rattle.dg_sim.proofs.sim.beginning_of.Goals as goal

pub pasts_of-requires : goal.pasts_of-requires
pasts_of-requires c = λ k d below. (c.requires.memories k _ (ap (λ (xs : List Memory). slice_get xs k) (sym c.as_slice.ensures) ∙ slice_get-get_or c.as_slice.result.now k d below)).1.some

pub returns-clause-row : goal.returns-clause-row
returns-clause-row c = sym c.in_ok-row.row.ok.0 ∙ c.in_ok-row.ensures.len ∙ ap length c.as_slice-count.ensures

pub returns-clause-rooms : goal.returns-clause-rooms
returns-clause-rooms c = subst (λ (xs : List Memory). AreRooms xs c.in_ok-pasts.pasts.items (length xs)) c.as_slice.ensures c.in_ok-pasts.ensures
