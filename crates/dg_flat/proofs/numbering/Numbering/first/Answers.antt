use Rattle.std.proofs.Common.{get_or, ap, subst, ◌∙◌, ℕ}
use Rattle.dg_flat.specs.inner.Slots.{slot_of}
use Rattle.dg_flat.specs.inner.Tables.{HasCell, cell_at}
use Rattle.dg_flat.proofs.Numbers.{found_at, not_found}
use Rattle.dg_flat.proofs.numbering.Numbering.first.Goals as goal

pub returns-in-Some : goal.returns-in-Some
returns-in-Some c = λ blocks side is.
    let lengths = c.args.self.now.rows.lengths.items in
    let cell = c.in-Some.ensures in
    let place = cell.1 ∙ ap (λ (k : ℕ). cell_at lengths k c.args.number) c.slot.ensures in
    found_at blocks side c.args.self.now (slot_of c.args.system) c.args.number c.index.result.now is
    (subst (λ (k : ℕ). HasCell lengths k c.args.number) c.slot.ensures cell.0)
    (c.index.ensures ∙ ap (λ (k : ℕ). get_or c.args.self.now.ports.items k c.index.result.now) place)

pub returns-in-None : goal.returns-in-None
returns-in-None c = λ blocks side is.
    let lengths = c.args.self.now.rows.lengths.items in
    not_found blocks side c.args.self.now (slot_of c.args.system) c.args.number is c.requires.there
    (subst (λ (k : ℕ). HasCell lengths k c.args.number → ⊥) c.slot.ensures c.in-None.ensures)
