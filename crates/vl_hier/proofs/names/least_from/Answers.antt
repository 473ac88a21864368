use Rattle.std.proofs.Common.{ℕ, List, Option, sym, subst}
use Rattle.std.specs.Prelude.{option_map}
use Rattle.std.specs.Borrow.{Bor}
use Rattle.vl_hier.specs.inner.Names.{IsLeastFrom}
use Rattle.vl_hier.proofs.LeastName.{least-from}
use Rattle.vl_hier.proofs.names.least_from.Goals as goal

pub returns : goal.returns
returns c =
    subst (λ (o : Option (Bor (List ℕ))). IsLeastFrom c.args.in_order.now c.args.text.now (option_map (λ (name : Bor (List ℕ)). name.now) o)) (sym c.copied.ensures)
    (least-from c.args.in_order.now c.args.text c.range.result c.next.result c.next.new.self (c.range.ensures.in_range tt) c.next.ensures.steps)
