use Rattle.std.proofs.Common.{◌∙◌, Option, ℕ, ℤ, pos, ap, sym}
use Rattle.std.specs.Ordering.{int_eq}
use Rattle.std.proofs.lemmas.Option.{slice_get_within}
use Rattle.dg_model.specs.Equation.{is_enabled}
use Rattle.dg_tables.specs.Entries.{place_at}
use Rattle.dg_sim.proofs.memories.control_of.Goals as goal

pub returns-in-Some : goal.returns-in-Some
returns-in-Some c =
    let places = c.args.program.now.places in
    let within = slice_get_within places c.control_cell.result (place_at c.in-Some.enable 1 0) c.control_cell.ensures in
    λ table t look agrees.
    ap (λ (z : ℤ). int_eq z (pos 1)) (agrees c.control_cell.result (place_at c.in-Some.enable 1 0) within c.control_cell.ensures)
    ∙ ap (λ (enable : Option ℕ). is_enabled table enable t) (sym c.in-Some.is)
