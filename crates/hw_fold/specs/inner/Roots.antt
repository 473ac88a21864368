-- Which net stands for each.
use Rattle.std.specs.Prelude.{◌≡◌, ℕ, ℤ, ◌<◌, ◌≤◌, ◌⊎◌, Bool, true, false, List, length, All}
use Rattle.math_num.specs.Word.{InWord, IsWord, IsWrapped}
use Rattle.hw_net.specs.declared.netlist.Net.{Net}
use Rattle.hw_net.specs.declared.netlist.NetKind.TheVariants.{Comb}
use Rattle.hw_net.specs.declared.netlist.NetOp.{NetOp}
use Rattle.hw_net.specs.declared.netlist.NetOp.TheVariants.{Const}
use Rattle.hw_net.specs.Netlist.{reads}
use Rattle.hw_net.specs.NetRows.{operands_at}
use Rattle.hw_net.specs.Operation.{arity, given_by}
use Rattle.hw_net.specs.Products.{net_at}
use Rattle.hw_refine.specs.Redirects.{redirected}
use Rattle.hw_renumber.specs.Renumbered.{place_in}
use Rattle.hw_fold.specs.inner.Pins.{is_marked}

-- the nets, which of them stand for no other, what stands for each, and which are done
pub record Fold : Type 0 where
  pub nets : List Net
  pub alone : List Bool
  pub roots : List ℕ
  pub done : List Bool

abbrev pub fold_of : List Net → List Bool → List ℕ → List Bool → Fold
fold_of nets alone roots done =
    record { nets = nets; alone = alone; roots = roots; done = done }

pub record HasSizes (fold : Fold) : Type 0 where
  pub there : All (λ net. All (λ read. read < length fold.nets) (reads net.kind)) fold.nets
  pub alone : length fold.alone ≡ length fold.nets
  pub roots : length fold.roots ≡ length fold.nets
  pub done : length fold.done ≡ length fold.nets

-- the other net is done, stands for itself, may stand for more, and has the word of the net
pub record IsRoot (fold : Fold) (k other : ℕ) : Type 0 where
  pub inside : other < length fold.nets
  pub settled : is_marked fold.done other ≡ true
  pub own : place_in fold.roots other ≡ other
  pub free : is_marked fold.alone other ≡ false
  pub wide : (net_at fold.nets other).width ≡ (net_at fold.nets k).width
  pub sign : (net_at fold.nets other).signed ≡ (net_at fold.nets k).signed

-- numbers that the nets can show: those of their words, and of a constant that constant
pub record CanShow (nets : List Net) (shown : ℕ → ℤ) : Type 0 where
  pub words : (j : ℕ) → j < length nets → IsWord (net_at nets j).width (net_at nets j).signed
  pub in_word : (j : ℕ) → j < length nets
      → InWord (net_at nets j).width (net_at nets j).signed (shown j)
  pub constants : (j : ℕ) (value : ℤ) (args : List ℕ) → j < length nets
      → (net_at nets j).kind ≡ Comb (Const value) args
      → IsWrapped value (net_at nets j).width (net_at nets j).signed (shown j)

-- whatever the nets show, the operation gives what the other shows, on what stands for what it
-- reads
pub record IsPassed (nets : List Net) (root : ℕ → ℕ) (k other : ℕ) : Type 0 where
  pub op : NetOp
  pub args : List ℕ
  pub is : (net_at nets k).kind ≡ Comb op args
  pub reads : 0 < arity op
  pub gives : (inputs shown : ℕ → ℤ) → CanShow nets shown
      → IsWrapped (given_by op inputs (operands_at (λ j. shown (root j)) args))
      (net_at nets k).width (net_at nets k).signed (shown other)

-- on what stands for what they read, both do the same; or the net passes on what the other shows
abbrev pub DoesSame : List Net → (ℕ → ℕ) → ℕ → ℕ → Type 0
DoesSame nets root k other =
    (redirected root (net_at nets other).kind ≡ redirected root (net_at nets k).kind)
    ⊎ IsPassed nets root k other

pub record IsFound (fold : Fold) (k other : ℕ) : Type 0 where
  pub root : IsRoot fold k other
  pub same : DoesSame fold.nets (place_in fold.roots) k other

-- the other net stands for a net that isn't pinned
pub record IsLent (own : List Bool) (fold : Fold) (k other : ℕ) : Type 0 where
  pub found : IsFound fold k other
  pub own_free : is_marked own k ≡ false
  pub free : is_marked fold.alone k ≡ false

-- a net stands for itself, or another for it
abbrev pub StandsFor : List Bool → Fold → ℕ → ℕ → Type 0
StandsFor own fold k other = (other ≡ k) ⊎ IsLent own fold k other

-- a net stands for itself, and for no other
pub record IsAlone (roots : List ℕ) (count k : ℕ) : Type 0 where
  pub own : place_in roots k ≡ k
  pub only : (j : ℕ) → j < count → place_in roots j ≡ k → j ≡ k

-- nets that are marked stand for themselves
pub record ArePinned (own : List Bool) (fold : Fold) : Type 0 where
  pub size : length own ≡ length fold.nets
  pub each : (k : ℕ) → k < length fold.nets → is_marked own k ≡ true → place_in fold.roots k ≡ k

-- what stands for a net has its word and does the same, and stands nowhere behind it; so it is after
-- the first nets of an order
pub record IsFolding (rank : ℕ → ℕ) (count : ℕ) (fold : Fold) : Type 0 where
  pub sizes : HasSizes fold
  pub inside : (k : ℕ) → k < length fold.nets → place_in fold.roots k < length fold.nets
  pub settled : (k : ℕ) → k < length fold.nets
      → place_in fold.roots (place_in fold.roots k) ≡ place_in fold.roots k
  pub wide : (k : ℕ) → k < length fold.nets
      → (net_at fold.nets (place_in fold.roots k)).width ≡ (net_at fold.nets k).width
  pub sign : (k : ℕ) → k < length fold.nets
      → (net_at fold.nets (place_in fold.roots k)).signed ≡ (net_at fold.nets k).signed
  pub same : (k : ℕ) → k < length fold.nets
      → DoesSame fold.nets (place_in fold.roots) k (place_in fold.roots k)
  pub low : (k : ℕ) → k < length fold.nets → rank (place_in fold.roots k) ≤ rank k
  pub early : (k : ℕ) → k < length fold.nets → is_marked fold.done k ≡ true → rank k < count
  pub undone : (k : ℕ) → k < length fold.nets → is_marked fold.done k ≡ false
      → IsAlone fold.roots (length fold.nets) k
  pub alone : (k : ℕ) → k < length fold.nets → is_marked fold.alone k ≡ true
      → IsAlone fold.roots (length fold.nets) k
