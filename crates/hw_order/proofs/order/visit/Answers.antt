use Rattle.std.proofs.Common.{rules, ◌≡◌, ℕ, List, All, Some, set, length, subst, sym, ◌++◌, ◌∷◌, [], arith}
use Rattle.hw_net.specs.declared.netlist.Net.{Net}
use Rattle.hw_net.specs.Netlist.{reads_now}
use Rattle.hw_order.specs.inner.NetOrder.{IsPlaced, IsGrowing, Keeps}
use Rattle.hw_order.proofs.NetOrder.{kept, grown, one-net, net-one}
use Rattle.hw_order.proofs.order.visit.Goals as goal

pub returns-then-not-is_ready-clause-placed : goal.returns-then-not-is_ready-clause-placed
returns-then-not-is_ready-clause-placed c = record {
  placed = λ net there reads. absurd (c.is_ready.ensures.no c.if-not-is_ready.true
      (one-net c.args.nets.now c.args.k c.index-nets-k.result net
      (λ (one : Net). All (IsPlaced c.args.ranks.now) (reads_now one.kind))
      (omega arith) c.index-nets-k.is there reads));
}

pub returns-clause-visited : goal.returns-clause-visited
returns-clause-visited c =
    let e : length c.args.order.now.items ≡ c.in-Ok.rank = omega (arith, c.in-Ok.ensures, c.len.ensures) in
    let g = grown c.args.nets.now c.args.order.now.items c.args.ranks.now c.args.k (omega arith) c.requires.growing (c.is_placed.ensures.no c.if-is_placed.false)
    (λ net there. net-one c.args.nets.now c.args.k c.index-nets-k.result net
    (λ (one : Net). All (IsPlaced c.args.ranks.now) (reads_now one.kind)) (omega arith) c.index-nets-k.is there
    (c.is_ready.ensures.yes c.if-not-is_ready.false)) in
    let k = kept c.args.nets.now c.args.order.now.items c.args.ranks.now c.args.k (omega arith) c.requires.growing (c.is_placed.ensures.no c.if-is_placed.false) in
    record {
      growing =
          subst (λ (xs : List ℕ). IsGrowing c.args.nets.now xs (set c.args.ranks.now c.args.k (Some c.in-Ok.rank))) (sym c.in_ok-push.ensures.items)
          (subst (λ (rank : ℕ). IsGrowing c.args.nets.now (c.args.order.now.items ++ c.args.k ∷ []) (set c.args.ranks.now c.args.k (Some rank))) e g);
      longer = search rules;
      kept = subst (λ (rank : ℕ). Keeps c.args.ranks.now (set c.args.ranks.now c.args.k (Some rank))) e k;
    }
