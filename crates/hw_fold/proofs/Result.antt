-- What stands for nets, from the marks of the nets that keep their place; and what is read by it.
use Rattle.std.proofs.Common.{◌≡◌, ℕ, zero, suc, ◌<◌, Bool, false, List, length, All, replicate, refl, ap, sym, ◌∙◌, subst, arith}
use Rattle.std.proofs.lemmas.Option.{slice_get_within}
use Rattle.hw_net.specs.declared.netlist.Net.{Net}
use Rattle.hw_net.specs.declared.netlist.NetLabel.{NetLabel}
use Rattle.hw_net.specs.declared.netlist.NetPort.{NetPort}
use Rattle.hw_net.specs.Circuit.{Circuit}
use Rattle.hw_net.specs.Emittable.{IsEmittable}
use Rattle.hw_net.specs.Netlist.{IsNetlist, reads}
use Rattle.hw_net.specs.Products.{places}
use Rattle.hw_order.specs.Order.{IsOrder}
use Rattle.hw_refine.specs.Refines.{Refines}
use Rattle.hw_refine.specs.Represents.{RepresentsRefine}
use Rattle.math_list.proofs.Elements.{stands, all-from, all-in}
use Rattle.hw_renumber.specs.Renumbered.{CanMove, place_in, renumbered}
use Rattle.hw_renumber.specs.Sound.{RenumberedEmits, RenumberedRuns}
use Rattle.hw_fold.specs.inner.Fold.{AreSettled, CanFold, IsFolded}
use Rattle.hw_fold.specs.inner.Pins.{IsPinned, KeepsMarks, is_marked}
use Rattle.hw_fold.specs.inner.Roots.{fold_of}
use Rattle.hw_fold.proofs.WholeFold.{can, represents}
use Rattle.hw_fold.proofs.Numbers.{places-below, places-long}

pub labels-below : (netlist : Circuit) → IsEmittable netlist → All (λ (label : NetLabel). label.net < length netlist.nets) netlist.labels
labels-below netlist emits = all-from (λ (label : NetLabel). label.net < length netlist.nets) netlist.labels (λ k label is. emits.labels.there label (stands netlist.labels k label is))

-- what is pinned changes no size
pub can-still : (nets : List Net) (own alone own' alone' : List Bool) (roots : List ℕ) (done : List Bool)
    → KeepsMarks own own' → KeepsMarks alone alone' → CanFold nets own alone roots done
    → CanFold nets own' alone' roots done
can-still nets own alone own' alone' roots done one two can = record {
  sizes = record { there = can.sizes.there; alone = two.size ∙ can.sizes.alone; roots = can.sizes.roots; done = can.sizes.done };
  own_size = one.size ∙ can.own_size;
  numbers = can.numbers;
  none = can.none;
}

pub folded-of : (netlist : Circuit) (order : List ℕ) (ordered : IsOrder netlist.nets order) (own alone : List Bool) (roots : List ℕ) (done : List Bool)
    → AreSettled netlist.nets order own (fold_of netlist.nets alone roots done) → All (λ (label : NetLabel). IsPinned netlist.nets own alone label.net) netlist.labels → IsFolded netlist roots
folded-of netlist order ordered own alone roots done settled pinned = record {
  rank = ordered.rank;
  count = length order;
  own = own;
  alone = alone;
  done = done;
  ranked = ordered.ranked;
  folding = settled.folding ordered;
  pinned = settled.pinned;
  labels = λ label c. all-in (λ (label : NetLabel). IsPinned netlist.nets own alone label.net) netlist.labels pinned label c;
}

-- nothing is done at first
none-marked : (n k : ℕ) → is_marked (replicate n false) k ≡ false
none-marked zero k = refl
none-marked (suc n) zero = refl
none-marked (suc n) (suc k) = none-marked n k

long-replicate : (n : ℕ) → length (replicate n false) ≡ n
long-replicate zero = refl
long-replicate (suc n) = ap suc (long-replicate n)

pub can-first : (netlist : Circuit) → IsNetlist netlist → (n : ℕ) → n ≡ length netlist.nets → CanFold netlist.nets (replicate n false) (replicate n false) (places n) (replicate n false)
can-first netlist runs n same = record {
  sizes = record { there = runs.there; alone = long-replicate n ∙ same; roots = places-long n ∙ same; done = long-replicate n ∙ same };
  own_size = long-replicate n ∙ same;
  numbers = ap places same;
  none = none-marked n;
}

module _ (old : Circuit) (runs : IsNetlist old) (emits : IsEmittable old) (roots : List ℕ) (folded : IsFolded old roots) where
  abbrev new : Circuit
  new = renumbered old (place_in roots) (places (length old.nets))

  below : (k : ℕ) → k < length old.nets → k < length roots
  below k inside = (let long = folded.folding.sizes.roots in omega (arith, inside, long))

  pub moves : CanMove old (places (length old.nets)) roots
  moves = record {
    there = all-from (λ (k : ℕ). k < length old.nets) (places (length old.nets)) (λ i k is. places-below (length old.nets) k (stands (places (length old.nets)) i k is));
    nets = all-from (λ (net : Net). All (λ (read : ℕ). read < length roots) (reads net.kind)) old.nets (λ k net is.
        all-from (λ (read : ℕ). read < length roots) (reads net.kind) (λ i read at.
        below read (all-in (λ (r : ℕ). r < length old.nets) (reads net.kind)
        (all-in (λ (n : Net). All (λ (r : ℕ). r < length old.nets) (reads n.kind)) old.nets runs.there net
        (stands old.nets k net is)) read (stands (reads net.kind) i read at))));
    inputs = all-from (λ (port : NetPort). port.net < length roots) old.inputs
        (λ k port is. below port.net
        (let shown = runs.inputs k port is in slice_get_within old.nets port.net shown.net shown.is));
    outputs = all-from (λ (port : NetPort). port.net < length roots) old.outputs
        (λ k port is. below port.net (all-in
        (λ (p : NetPort). p.net < length old.nets) old.outputs runs.outputs port
        (stands old.outputs k port is)));
    labels = all-from (λ (label : NetLabel). label.net < length roots) old.labels (λ k label is. below label.net (emits.labels.there label (stands old.labels k label is)));
  }

  pub made-runs : RenumberedRuns → (made : Circuit) → made ≡ new → IsNetlist made
  made-runs law made is = subst IsNetlist (sym is) (law old (place_in roots) (places (length old.nets)) (can old runs emits roots folded) runs)

  pub made-emits : RenumberedEmits → (made : Circuit) → made ≡ new → IsEmittable made
  made-emits law made is = subst IsEmittable (sym is) (law old (place_in roots) (places (length old.nets)) (can old runs emits roots folded) emits)

  pub made-refines : RepresentsRefine → (made : Circuit) → made ≡ new → Refines old made
  made-refines law made is = subst (Refines old) (sym is) (law old new (place_in roots) (represents old runs emits roots folded))
