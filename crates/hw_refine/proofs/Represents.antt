-- A netlist in which each net of another has one that shows the same stands in its place.
use Rattle.std.proofs.Common.{◌≡◌, ◌⊎◌, inl, inr, ℕ, zero, suc, ◌<◌, Bool, List, [], ◌∷◌, map, Some, slice_get, refl, ap, sym, subst}
use Rattle.math_num.specs.Word.{InWord, IsWrapped}
use Rattle.hw_net.specs.declared.netlist.Net.{Net}
use Rattle.hw_net.specs.declared.netlist.NetPort.{NetPort}
use Rattle.hw_net.specs.declared.netlist.NetKind.{NetKind}
use Rattle.hw_net.specs.declared.netlist.NetKind.TheVariants.{Comb, Reg, EnReg, Acc, Bridge, Unit, Counter}
use Rattle.hw_net.specs.Circuit.{Circuit}
use Rattle.hw_net.specs.NetRows.{Inputs, Rows, NetRows, NetShows, number_at, operands_at}
use Rattle.hw_net.specs.Operation.{Operands, given_by}
use Rattle.hw_net.specs.Products.{Product, products_of}
use Rattle.hw_net.specs.Registers.{Wave}
use Rattle.hw_refine.specs.Redirects.{redirected}
use Rattle.hw_refine.specs.Refines.{Agree, Reflects, Refines}
use Rattle.hw_refine.specs.Represents.{HoldsAtRoots, Represents, RepresentsRefine}
use Rattle.math_list.proofs.Zips.{zip-length, zip-weaker}

module _ (root : ℕ → ℕ) (rows : Rows) where
  -- what the roots show
  abbrev Of-roots : Rows
  Of-roots k c = rows (root k) c

  number-of : (c : ℕ) (args : List ℕ) (i : ℕ) → number_at (λ net. rows net c) (slice_get (map root args) i) ≡ number_at (λ net. rows (root net) c) (slice_get args i)
  number-of c [] i = refl
  number-of c (x ∷ args) zero = refl
  number-of c (x ∷ args) (suc i) = number-of c args i

  operands-of : (c : ℕ) (args : List ℕ) → operands_at (λ net. rows net c) (map root args) ≡ operands_at (λ net. rows (root net) c) args
  operands-of c args = (let a = number-of c args 0 in let b = number-of c args 1 in let d = number-of c args 2 in λ i. record { first = a i; second = b i; third = d i })

  shows-of : (cycles n : ℕ) (inputs : Inputs) (w : ℕ) (s : Bool) (kind : NetKind) (wave : Wave)
      → NetShows cycles n inputs rows w s (redirected root kind) wave
      → NetShows cycles n inputs (λ k. rows (root k)) w s kind wave
  shows-of cycles n inputs w s (Comb op args) wave h = λ c below. subst (λ (o : Operands). IsWrapped (given_by op (λ number. inputs number c) o) w s (wave c)) (operands-of c args) (h c below)
  shows-of cycles n inputs w s (Reg frame slot first from) wave h = h
  shows-of cycles n inputs w s (EnReg frame enable reset first from) wave h = h
  shows-of cycles n inputs w s (Acc frame enable from) wave h = h
  shows-of cycles n inputs w s (Bridge frame live from) wave h = h
  shows-of cycles n inputs w s (Unit left right) wave h = h
  shows-of cycles n inputs w s (Counter frame) wave h = h

module _ {old new : Circuit} {root : ℕ → ℕ} (r : Represents old new root) where
  module _ (n : ℕ) (inputs : Inputs) (rows : Rows) (are : NetRows new n inputs rows) where
    abbrev before : Rows
    before = λ k. rows (root k)

    word-of : (k : ℕ) (was : Net) → slice_get old.nets k ≡ Some was → (c : ℕ) → c < n → InWord was.width was.signed (rows (root k) c)
    word-of k was at c below =
        let x = r.nets k was at in
        let h = are.in_word (root k) x.is x.there c below in
        subst (λ (s : Bool). InWord was.width s (rows (root k) c)) x.sign (subst (λ (w : ℕ). InWord w x.is.signed (rows (root k) c)) x.wide h)

    done : (k : ℕ) (was : Net) (at : slice_get old.nets k ≡ Some was)
        → (r.nets k was at).is.kind ≡ redirected root was.kind
        → NetShows old.cycles n inputs before was.width was.signed was.kind (before k)
    done k was at e =
        let x = r.nets k was at in
        let h = are.shows (root k) x.is x.there in
        let a = subst (λ (cycles : ℕ). NetShows cycles n inputs rows x.is.width x.is.signed x.is.kind (rows (root k))) r.cycles h in
        let b = subst (λ (w : ℕ). NetShows old.cycles n inputs rows w x.is.signed x.is.kind (rows (root k))) x.wide a in
        let d = subst (λ (s : Bool). NetShows old.cycles n inputs rows was.width s x.is.kind (rows (root k))) x.sign b in
        shows-of root rows old.cycles n inputs was.width was.signed was.kind (rows (root k))
        (subst (λ (kind : NetKind). NetShows old.cycles n inputs rows was.width was.signed kind (rows (root k)))
        e d)

    shows-at : (k : ℕ) (was : Net) (at : slice_get old.nets k ≡ Some was)
        → ((r.nets k was at).is.kind ≡ redirected root was.kind) ⊎ HoldsAtRoots new root k was
        → NetShows old.cycles n inputs before was.width was.signed was.kind (before k)
    shows-at k was at (inl e) = done k was at e
    shows-at k was at (inr holds) =
        subst (λ (cycles : ℕ). NetShows cycles n inputs before was.width was.signed was.kind (before k)) r.cycles (holds n inputs rows are)

    reflects : Reflects old new root n inputs rows
    reflects = record {
      before = before;
      are = record { shows = λ k was at. shows-at k was at (r.nets k was at).kind; in_word = λ k was at c below. word-of k was at c below };
      outputs = zip-weaker (λ (was is : NetPort). root was.net ≡ is.net)
          (λ (was is : NetPort). Agree n before rows was.net is.net)
          (λ was is e c below. ap (λ (j : ℕ). rows j c) e) old.outputs new.outputs r.outputs_kept;
      factors = zip-weaker (λ (was is : Product). (root was.left ≡ is.left) × (root was.right ≡ is.right))
          (λ (was is : Product). Agree n before rows was.left is.left × Agree n before rows was.right is.right)
          (λ was is e. (λ c below. ap (λ (j : ℕ). rows j c) e.0, λ c below. ap (λ (j : ℕ). rows j c) e.1)) (products_of old) (products_of new) r.factors_kept;
      labels = λ label there c below. refl;
    }

  pub refines : Refines old new
  refines = record {
    cycles = r.cycles;
    inputs = r.inputs;
    outputs = r.outputs;
    products = sym (zip-length (λ (was is : Product). (root was.left ≡ is.left) × (root was.right ≡ is.right)) (products_of old) (products_of new) r.factors_kept);
    few = r.few;
    place = root;
    labels = r.labels;
    rows = reflects;
  }

pub represents : RepresentsRefine
represents old new root r = refines r
