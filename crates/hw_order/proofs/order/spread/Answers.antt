use Rattle.std.proofs.Common.{◌≡◌, ◌<◌, ℕ, List, [], length, Contains, slice_index, slice_index_or, arith, subst, ap, ◌∙◌, sym}
use Rattle.std.proofs.lemmas.List.Elements.{All-contains}
use Rattle.hw_order.specs.inner.NetOrder.{Serves, IsReader}
use Rattle.hw_order.proofs.NetOrder.{closed-next, order-within, read-at}
use Rattle.hw_order.proofs.order.spread.Goals as goal

pub loop-done-preserved : goal.loop-done-preserved
loop-done-preserved c =
    let ens = c.in_ok-visit_all.ensures in
    let inv = c.loop-done.invariant in
    let order : List ℕ = c.loop-done.order.items in
    let done : ℕ = c.loop-done.done in
    let early : done < length order = omega (arith, c.loop-done-test.true, c.len.ensures) in
    let place : ℕ = slice_index order done in
    let known : place < length c.args.nets.now = inv.growing.there done early in
    let at : c.index.result.now ≡ place = read-at order done c.index.result.now 0 early c.index.ensures in
    let known-at : c.index.result.now < length c.args.readers.now = omega (arith, at, known, c.requires.size) in
    let one = read-at c.args.readers.now c.index.result.now c.index-readers-index.result [] known-at c.index-readers-index.is in
    let list-is : c.as_slice-list.result.now ≡ slice_index_or c.args.readers.now place [] = c.as_slice-list.ensures ∙ one ∙ ap (λ (k : ℕ). slice_index_or c.args.readers.now k []) at in
    let served = λ (k : ℕ) (is : IsReader c.args.readers.now place k). All-contains
    (Serves c.args.nets.now c.loop-done.ranks c.visit_all.new.ranks) c.as_slice-list.result.now k ens.placed
    (subst (λ (xs : List ℕ). Contains xs k) (sym list-is) is.among) in
    record {
      growing = ens.visited.growing;
      closed = closed-next c.args.nets.now order c.visit_all.new.order.items c.loop-done.ranks c.visit_all.new.ranks
          inv.growing ens.visited.growing ens.visited.longer ens.visited.kept c.args.readers.now done early
          c.requires.linked inv.closed served;
      within = omega (arith, ens.visited.longer.size, early);
    }

pub loop-done-smaller : goal.loop-done-smaller
loop-done-smaller c =
    let order : List ℕ = c.loop-done.order.items in
    let within = order-within c.args.nets.now order c.loop-done.ranks c.loop-done.invariant.growing in
    let early : c.loop-done.done < length order = omega (arith, c.loop-done-test.true, c.len.ensures) in
    omega (arith, within, early)
