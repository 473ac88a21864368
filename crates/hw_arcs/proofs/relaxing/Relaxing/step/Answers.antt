use Rattle.std.proofs.Common.{◌≡◌, ◌<◌, [], List, ℕ, length, refl, sym, subst, ◌∙◌, arith}
use Rattle.std.proofs.lemmas.List.{get_or_read}
use Rattle.hw_arcs.specs.inner.Parts.{IsPopped, IsTakenFrom, awaited}
use Rattle.hw_arcs.specs.inner.State.{State, AreSettled, popped, seen}
use Rattle.fx_io.specs.Rows.{row_at}
use Rattle.hw_arcs.proofs.Steps.{pop_there, pop_state, pop_settled, nothing_left}
use Rattle.hw_arcs.proofs.relaxing.Relaxing.step.Goals as goal
use Rattle.hw_arcs.proofs.relaxing.Relaxing.step.Goals.{In-Some}

pub returns-in_default-clause-end : goal.returns-in_default-clause-end
returns-in_default-clause-end c =
    let left = subst (IsPopped (awaited c.args.self.now.queue) (awaited c.pop.new.self)) c.in_default.is c.in_ok-block.ensures in
    nothing_left c.args.arcs.now (length c.args.self.now.lat.items) (seen c.args.self.now) c.requires.state left.0 c.requires.settled

-- the block at hand was taken, and is there
took : (c : In-Some) → IsTakenFrom (awaited c.args.self.now.queue) c.in-Some.block (awaited c.pop.new.self)
took c = subst (IsPopped (awaited c.args.self.now.queue) (awaited c.pop.new.self)) c.in-Some.is c.in_ok-block.ensures

there : (c : In-Some) → c.in-Some.block < length c.args.self.now.lat.items
there c = pop_there c.args.arcs.now (length c.args.self.now.lat.items) c.in-Some.block (awaited c.pop.new.self) (seen c.args.self.now) c.requires.state (took c)

pub settle-requires-clause-state : goal.settle-requires-clause-state
settle-requires-clause-state c =
    pop_state c.args.arcs.now (length c.args.self.now.lat.items) c.in-Some.block (awaited c.pop.new.self) (seen c.args.self.now)
    (popped (seen c.args.self.now) c.in-Some.block (awaited c.pop.new.self)) c.requires.state (took (goal.at.settle-requires-clause-state c).In-Some) refl

pub settle-requires-clause-settled : goal.settle-requires-clause-settled
settle-requires-clause-settled c =
    let here = there (goal.at.settle-requires-clause-settled c).In-Some in
    let size = c.requires.rows.size in
    let after : State = popped (seen c.args.self.now) c.in-Some.block (awaited c.pop.new.self) in
    let row : c.as_slice-row.result.now ≡ row_at c.args.rows.now c.in-Some.block =
    c.as_slice-row.ensures ∙ get_or_read c.args.rows.now c.in-Some.block c.index-rows-block.result
    (omega (arith, here, size)) c.index-rows-block.is [] in
    subst (λ (row : List ℕ). AreSettled c.args.arcs.now after row) (sym row)
    (pop_settled c.args.arcs.now (length c.args.self.now.lat.items) c.in-Some.block (awaited c.pop.new.self) c.args.rows.now (seen c.args.self.now) after c.requires.state
    (took (goal.at.settle-requires-clause-settled c).In-Some) c.requires.rows refl c.requires.settled)
