-- Netlists stand in their own place, and passes one after another are a pass.
use Rattle.std.proofs.Common.{◌≡◌, ℕ, List, [], ◌∷◌, Contains, refl, ◌∙◌, arith, ℤ}
use Rattle.std.specs.List.{AllZip}
use Rattle.hw_net.specs.declared.netlist.Frame.{Frame}
use Rattle.hw_net.specs.declared.netlist.NetLabel.{NetLabel}
use Rattle.hw_net.specs.declared.netlist.NetPort.{NetPort}
use Rattle.hw_net.specs.declared.netlist.NetKind.TheVariants.{Reg}
use Rattle.hw_net.specs.Circuit.{Circuit}
use Rattle.hw_net.specs.NetRows.{Inputs, Rows, NetRows}
use Rattle.hw_net.specs.Products.{Product, net_at, products_of}
use Rattle.hw_refine.specs.Refines.{Agree, KeepsLabel, KeepsRegister, Reflects, Refines}
use Rattle.hw_refine.specs.Laws.{RefinesItself, RefinementsCompose}

module _ {X : Type 0} where
  zip-same : (R : X → X → Type 0) → ((x : X) → R x x) → (xs : List X) → AllZip R xs xs
  zip-same R own [] = tt
  zip-same R own (x ∷ xs) = (own x, zip-same R own xs)

  zip-over : (R S T : X → X → Type 0) → ((x y z : X) → R x y → S y z → T x z) → (xs ys zs : List X) → AllZip R xs ys → AllZip S ys zs → AllZip T xs zs
  zip-over R S T over [] [] [] r s = tt
  zip-over R S T over [] [] (z ∷ zs) r s = absurd s
  zip-over R S T over [] (y ∷ ys) zs r s = absurd r
  zip-over R S T over (x ∷ xs) [] zs r s = absurd r
  zip-over R S T over (x ∷ xs) (y ∷ ys) [] r s = absurd s
  zip-over R S T over (x ∷ xs) (y ∷ ys) (z ∷ zs) r s = (over x y z r.0 s.0, zip-over R S T over xs ys zs r.1 s.1)

agree-own : (n : ℕ) (rows : Rows) (k : ℕ) → Agree n rows rows k k
agree-own n rows k c below = refl

pub itself : RefinesItself
itself netlist = record {
  cycles = refl;
  inputs = refl;
  outputs = refl;
  products = refl;
  few = omega arith;
  place = λ k. k;
  labels = λ label there. record {
    there = there;
    wide = refl;
    sign = refl;
    multiplies = λ is. is;
    takes = λ frame slot first from is. record { frame = frame; slot = slot; first = first; kind = is; wire = λ w. w; alone = λ a. a };
  };
  rows = λ n inputs rows are. record {
    before = rows;
    are = are;
    outputs = zip-same (λ (was is : NetPort). Agree n rows rows was.net is.net) (λ port. agree-own n rows port.net) netlist.outputs;
    factors = zip-same (λ (was is : Product). Agree n rows rows was.left is.left
        × Agree n rows rows was.right is.right) (λ p. (agree-own n rows p.left, agree-own n rows p.right))
        (products_of netlist);
    labels = λ label there. agree-own n rows label.net;
  };
}

module _ {old middle new : Circuit} (one : Refines old middle) (two : Refines middle new) where
  abbrev both : ℕ → ℕ
  both k = two.place (one.place k)

  register : (number from : ℕ) → KeepsRegister old middle one.place number from
      → ((frame : Frame) (slot : ℕ) (first : ℤ) (f : ℕ) → (net_at middle.nets (one.place number)).kind ≡ Reg frame slot first f → KeepsRegister middle new two.place (one.place number) f)
      → KeepsRegister old new both number from
  register number from a later =
      let b = later a.frame a.slot a.first (one.place from) a.kind in
      record { frame = b.frame; slot = b.slot; first = b.first; kind = b.kind; wire = λ w. b.wire (a.wire w); alone = λ r. b.alone (a.alone r) }

  label-kept : (label : NetLabel) → Contains old.labels label → KeepsLabel old new both label
  label-kept label there =
      let a = one.labels label there in
      let b = two.labels (record { net = one.place label.net; name = label.name }) a.there in
      record {
        there = b.there;
        wide = b.wide ∙ a.wide;
        sign = b.sign ∙ a.sign;
        multiplies = λ m. b.multiplies (a.multiplies m);
        takes = λ frame slot first from is. register label.net from (a.takes frame slot first from is) b.takes;
      }

  agree-over : (n : ℕ) (before between rows : Rows) (i j k : ℕ) → Agree n before between i j → Agree n between rows j k → Agree n before rows i k
  agree-over n before between rows i j k p q c below = p c below ∙ q c below

  reflected : (n : ℕ) (inputs : Inputs) (rows : Rows) → NetRows new n inputs rows → Reflects old new both n inputs rows
  reflected n inputs rows are =
      let b = two.rows n inputs rows are in
      let a = one.rows n inputs b.before b.are in
      record {
        before = a.before;
        are = a.are;
        outputs = zip-over (λ (was is : NetPort). Agree n a.before b.before was.net is.net)
            (λ (was is : NetPort). Agree n b.before rows was.net is.net)
            (λ (was is : NetPort). Agree n a.before rows was.net is.net)
            (λ x y z p q. agree-over n a.before b.before rows x.net y.net z.net p q) old.outputs middle.outputs new.outputs a.outputs b.outputs;
        factors = zip-over (λ (was is : Product). Agree n a.before b.before was.left is.left × Agree n a.before b.before was.right is.right)
            (λ (was is : Product). Agree n b.before rows was.left is.left × Agree n b.before rows was.right is.right)
            (λ (was is : Product). Agree n a.before rows was.left is.left × Agree n a.before rows was.right is.right)
            (λ x y z p q. (agree-over n a.before b.before rows x.left y.left z.left p.0 q.0, agree-over n a.before b.before rows x.right y.right z.right p.1 q.1))
            (products_of old) (products_of middle) (products_of new) a.factors b.factors;
        labels = λ label there.
            agree-over n a.before b.before rows label.net (one.place label.net) (both label.net)
            (a.labels label there) (b.labels (record { net = one.place label.net; name = label.name })
            (one.labels label there).there);
      }

  pub over : Refines old new
  over = record {
    cycles = two.cycles ∙ one.cycles;
    inputs = two.inputs ∙ one.inputs;
    outputs = two.outputs ∙ one.outputs;
    products = two.products ∙ one.products;
    few = (let a = one.few in let b = two.few in omega (arith, a, b));
    place = both;
    labels = label-kept;
    rows = reflected;
  }

pub compose : RefinementsCompose
compose old middle new one two = over one two
