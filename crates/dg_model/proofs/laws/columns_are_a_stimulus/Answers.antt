use Rattle.std.proofs.Common.{ℕ, ap}
use Rattle.dg_model.specs.Wired.{root_input}
use Rattle.dg_model.specs.RootElements.{RootElement, root_element}
use Rattle.dg_model.proofs.Roots.{found_at, found_there, is_element}
use Rattle.dg_model.proofs.laws.columns_are_a_stimulus.Goals as goal

pub returns-clause-made : goal.returns-clause-made
returns-clause-made c diagram attributes column n wired columns = record {
  in_range = λ block b number element t at is inside below hit.
      columns _ (root_element attributes number block element) t
      (found_at root_input (λ block. attributes.width_at block 1) diagram attributes wired.inports block b
      number element at is inside) below hit;
}

pub returns-clause-kept : goal.returns-clause-kept
returns-clause-kept c diagram attributes column place e t wired at =
    ap (λ (place : ℕ). column place t) (found_there root_input (λ block. attributes.width_at block 1) diagram attributes wired.inports place e at)

pub returns-clause-given : goal.returns-clause-given
returns-clause-given c diagram attributes stimulus n given place e t at below hit =
    let of = is_element root_input (λ block. attributes.width_at block 1) diagram attributes place e at in
    let type_is = ap (λ (o : RootElement). o.type) (of.4) in
    let period_is = ap (λ (o : RootElement). o.period) (of.4) in
    rw (at, type_is) (given.in_range e.block (of.0) e.number e.element t (of.1) (of.2) (of.3) below (rw period_is at hit))
