-- What stands for each net, when all are done.
use Rattle.std.specs.Prelude.{◌≡◌, ℕ, ◌<◌, Bool, false, List, length, Contains}
use Rattle.hw_net.specs.declared.netlist.Net.{Net}
use Rattle.hw_net.specs.declared.netlist.NetLabel.{NetLabel}
use Rattle.hw_net.specs.Circuit.{Circuit}
use Rattle.hw_net.specs.Netlist.{IsRanked}
use Rattle.hw_net.specs.Products.{places}
use Rattle.hw_order.specs.Order.{IsOrder}
use Rattle.hw_fold.specs.inner.Pins.{IsPinned, is_marked}
use Rattle.hw_fold.specs.inner.Roots.{ArePinned, Fold, fold_of, HasSizes, IsFolding}

-- a net that is there is to be looked at, and isn't done
pub record IsOpen (nets : List Net) (own alone : List Bool) (roots : List ℕ) (done : List Bool)
    (k : ℕ) : Type 0 where
  pub sizes : HasSizes (fold_of nets alone roots done)
  pub own_size : length own ≡ length nets
  pub inside : k < length nets
  pub absent : is_marked done k ≡ false

-- nothing is done, and each net stands for itself
pub record CanFold (nets : List Net) (own alone : List Bool) (roots : List ℕ)
    (done : List Bool) : Type 0 where
  pub sizes : HasSizes (fold_of nets alone roots done)
  pub own_size : length own ≡ length nets
  pub numbers : roots ≡ places (length nets)
  pub none : (k : ℕ) → is_marked done k ≡ false

-- all nets of the order are done
pub record AreSettled (nets : List Net) (order : List ℕ) (own : List Bool) (fold : Fold) : Type 0 where
  pub folding : (ordered : IsOrder nets order) → IsFolding ordered.rank (length order) fold
  pub pinned : ArePinned own fold

-- roots for all nets of a netlist: those with labels, and what their registers take, are their own
pub record IsFolded (netlist : Circuit) (roots : List ℕ) : Type 0 where
  pub rank : ℕ → ℕ
  pub count : ℕ
  pub own : List Bool
  pub alone : List Bool
  pub done : List Bool
  pub ranked : IsRanked netlist.nets rank
  pub folding : IsFolding rank count (fold_of netlist.nets alone roots done)
  pub pinned : ArePinned own (fold_of netlist.nets alone roots done)
  pub labels : (label : NetLabel) → Contains netlist.labels label
      → IsPinned netlist.nets own alone label.net
