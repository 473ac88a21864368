use Rattle.std.proofs.Common.{ℕ, ◌+◌, ◌≡◌, slice_index, length, sym, subst, arith}
use Rattle.hw_fold.specs.inner.Roots.{IsFolding, fold_of}
use Rattle.hw_fold.proofs.Standings.{begun, not-yet, pinned-first}
use Rattle.hw_fold.proofs.folding.settle_all.Goals as goal

pub loop-k-init : goal.loop-k-init
loop-k-init c = record {
  folding = λ ordered. begun c.args.nets.now c.args.own.now c.args.alone.now c.args.roots.now c.args.done.now c.requires.begun ordered.rank;
  pinned = pinned-first c.args.nets.now c.args.own.now c.args.alone.now c.args.roots.now c.args.done.now c.requires.begun;
}

pub settle-requires : goal.settle-requires
settle-requires c =
    let i : ℕ = c.loop-k.k-index in
    let order = c.requires.order in
    let folding = c.loop-k.invariant.folding order in
    let within = order.there i c.loop-k-test.true in
    record {
      ready = record {
        sizes = folding.sizes;
        own_size = c.loop-k.invariant.pinned.size;
        inside = within;
        absent = not-yet c.args.nets.now c.args.order.now order i c.loop-k-test.true (fold_of c.args.nets.now c.args.alone.now c.loop-k.roots c.loop-k.done) within folding;
      };
    }

pub loop-k-preserved : goal.loop-k-preserved
loop-k-preserved c =
    let i : ℕ = c.loop-k.k-index in
    let ens = c.in_ok-settle.ensures in
    record {
      folding = λ ordered.
          let e : ordered.rank (slice_index c.args.order.now i) ≡ i = ordered.at i c.loop-k-test.true in
          subst (λ (n : ℕ). IsFolding ordered.rank (n + 1) (fold_of c.args.nets.now c.args.alone.now c.settle.new.roots c.settle.new.done)) e
          (ens.folding ordered.rank (subst (λ (n : ℕ). IsFolding ordered.rank n (fold_of c.args.nets.now c.args.alone.now c.loop-k.roots c.loop-k.done)) (sym e) (c.loop-k.invariant.folding ordered)));
      pinned = ens.pinned c.loop-k.invariant.pinned;
    }

pub returns : goal.returns
returns c =
    let done : c.loop-k.k-index ≡ length c.args.order.now = omega arith in
    record {
      folding = λ ordered. subst (λ (n : ℕ). IsFolding ordered.rank n (fold_of c.args.nets.now c.args.alone.now c.loop-k.roots c.loop-k.done)) done (c.loop-k.invariant.folding ordered);
      pinned = c.loop-k.invariant.pinned;
    }
