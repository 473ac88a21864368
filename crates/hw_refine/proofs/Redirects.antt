-- A netlist whose nets read others that show the same stands in the place of what it was made from.
use Rattle.std.proofs.Common.{◌≡◌, ◌⊎◌, inl, inr, ℕ, zero, suc, ◌+◌, ◌-◌, ◌%◌, ◌<◌, Bool, List, [], ◌∷◌, ◌++◌, map, flat_map, length, Contains, slice_get, get_or, refl, ap, sym, ◌∙◌, subst, arith, ℤ}
use Rattle.std.proofs.Common.{◌+ℤ◌, ◌*ℤ◌}
use Rattle.std.specs.List.{AllZip}
use Rattle.std.specs.Prelude.{⊤}
use Rattle.std.proofs.Math.Nat.{mod-le}
use Rattle.math_num.specs.Word.{InWord, IsWrapped}
use Rattle.hw_net.specs.declared.netlist.Frame.{Frame}
use Rattle.hw_net.specs.declared.netlist.Net.{Net}
use Rattle.hw_net.specs.declared.netlist.NetLabel.{NetLabel}
use Rattle.hw_net.specs.declared.netlist.NetPort.{NetPort}
use Rattle.hw_net.specs.declared.netlist.NetOp.{NetOp}
use Rattle.hw_net.specs.declared.netlist.NetOp.TheVariants.{Input, Const, Resize, ShiftUp, ShiftDown, Add, Subtract, Negate, Multiply, And, Or, Xor, Not, Less, Equal, Choose, Slice}
use Rattle.hw_net.specs.declared.netlist.NetKind.{NetKind}
use Rattle.hw_net.specs.declared.netlist.NetKind.TheVariants.{Comb, Reg, EnReg, Acc, Bridge, Unit, Counter}
use Rattle.hw_net.specs.Circuit.{Circuit}
use Rattle.hw_net.specs.Netlist.{reads}
use Rattle.hw_net.specs.NetRows.{Inputs, Rows, NetRows, NetShows, number_at, operands_at, span_of}
use Rattle.hw_net.specs.Operation.{Operands, given_by}
use Rattle.hw_net.specs.Products.{Product, comb_product, net_at, op_product, places, products_of, unit_product}
use Rattle.hw_net.specs.Registers.{IsAcc, IsBridge, IsEnReg, IsReg, Span, Wave}
use Rattle.hw_refine.specs.Refines.{Agree, IsReadBy, KeepsLabel, KeepsRegister, Refines, face, held, held_count}
use Rattle.hw_refine.specs.Redirects.{IsRedirected, IsReported, RedirectsRefine, Redirects, redirected}
use Rattle.hw_refine.proofs.Lists.{combs-in, products-are, units-in}
use Rattle.math_list.proofs.Elements.{found, stands}
use Rattle.math_list.proofs.Places.{map_there, map-same}
use Rattle.math_list.proofs.Zips.{zip-append, zip-back, zip-flat, zip-get, zip-length, zip-weaker}

-- ---- products, by any relation of what they read

module _ (root : ℕ → ℕ) (Q : ℕ → ℕ → Type 0) (own : (k : ℕ) → Q k k) (moved : (k : ℕ) → Q k (root k)) where
  abbrev Pairs : Product → Product → Type 0
  Pairs was is = Q was.left is.left × Q was.right is.right

  unit-own : (w v : ℕ) (kind : NetKind) → AllZip Pairs (unit_product w kind) (unit_product v kind)
  unit-own w v (Comb op args) = tt
  unit-own w v (Reg frame slot first from) = tt
  unit-own w v (EnReg frame enable reset first from) = tt
  unit-own w v (Acc frame enable from) = tt
  unit-own w v (Bridge frame live from) = tt
  unit-own w v (Unit left right) = ((own left, own right), tt)
  unit-own w v (Counter frame) = tt

  unit-moved : (w v : ℕ) (kind : NetKind) → AllZip Pairs (unit_product w kind) (unit_product v (redirected root kind))
  unit-moved w v (Comb op args) = tt
  unit-moved w v (Reg frame slot first from) = tt
  unit-moved w v (EnReg frame enable reset first from) = tt
  unit-moved w v (Acc frame enable from) = tt
  unit-moved w v (Bridge frame live from) = tt
  unit-moved w v (Unit left right) = ((moved left, moved right), tt)
  unit-moved w v (Counter frame) = tt

  op-own : (w v : ℕ) (args : List ℕ) (op : NetOp) → AllZip Pairs (op_product w args op) (op_product v args op)
  op-own w v args (Input number) = tt
  op-own w v args (Const value) = tt
  op-own w v args Resize = tt
  op-own w v args (ShiftUp places) = tt
  op-own w v args (ShiftDown places) = tt
  op-own w v args Add = tt
  op-own w v args Subtract = tt
  op-own w v args Negate = tt
  op-own w v args Multiply = ((own (get_or args 0 0), own (get_or args 1 0)), tt)
  op-own w v args And = tt
  op-own w v args Or = tt
  op-own w v args Xor = tt
  op-own w v args Not = tt
  op-own w v args Less = tt
  op-own w v args Equal = tt
  op-own w v args Choose = tt
  op-own w v args (Slice high low) = tt

  factors-moved : (args : List ℕ) → Q (get_or args 0 0) (get_or (map root args) 0 0) × Q (get_or args 1 0) (get_or (map root args) 1 0)
  factors-moved [] = (own 0, own 0)
  factors-moved (x ∷ []) = (moved x, own 0)
  factors-moved (x ∷ y ∷ rest) = (moved x, moved y)

  op-moved : (w v : ℕ) (args : List ℕ) (op : NetOp) → AllZip Pairs (op_product w args op) (op_product v (map root args) op)
  op-moved w v args (Input number) = tt
  op-moved w v args (Const value) = tt
  op-moved w v args Resize = tt
  op-moved w v args (ShiftUp places) = tt
  op-moved w v args (ShiftDown places) = tt
  op-moved w v args Add = tt
  op-moved w v args Subtract = tt
  op-moved w v args Negate = tt
  op-moved w v args Multiply = (factors-moved args, tt)
  op-moved w v args And = tt
  op-moved w v args Or = tt
  op-moved w v args Xor = tt
  op-moved w v args Not = tt
  op-moved w v args Less = tt
  op-moved w v args Equal = tt
  op-moved w v args Choose = tt
  op-moved w v args (Slice high low) = tt

  comb-own : (w v : ℕ) (kind : NetKind) → AllZip Pairs (comb_product w kind) (comb_product v kind)
  comb-own w v (Comb op args) = op-own w v args op
  comb-own w v (Reg frame slot first from) = tt
  comb-own w v (EnReg frame enable reset first from) = tt
  comb-own w v (Acc frame enable from) = tt
  comb-own w v (Bridge frame live from) = tt
  comb-own w v (Unit left right) = tt
  comb-own w v (Counter frame) = tt

  comb-moved : (w v : ℕ) (kind : NetKind) → AllZip Pairs (comb_product w kind) (comb_product v (redirected root kind))
  comb-moved w v (Comb op args) = op-moved w v args op
  comb-moved w v (Reg frame slot first from) = tt
  comb-moved w v (EnReg frame enable reset first from) = tt
  comb-moved w v (Acc frame enable from) = tt
  comb-moved w v (Bridge frame live from) = tt
  comb-moved w v (Unit left right) = tt
  comb-moved w v (Counter frame) = tt

  unit-pairs : (was is : Net) → IsRedirected root was is → AllZip Pairs (units-in was) (units-in is)
  unit-pairs was is r = elim r.kind [
    | inl e ↦ subst (λ (k : NetKind). AllZip Pairs (units-in was) (unit_product is.width k)) (sym e) (unit-own was.width is.width was.kind)
    | inr e ↦ subst (λ (k : NetKind). AllZip Pairs (units-in was) (unit_product is.width k)) (sym e) (unit-moved was.width is.width was.kind)
  ]

  comb-pairs : (was is : Net) → IsRedirected root was is → AllZip Pairs (combs-in was) (combs-in is)
  comb-pairs was is r = elim r.kind [
    | inl e ↦ subst (λ (k : NetKind). AllZip Pairs (combs-in was) (comb_product is.width k)) (sym e) (comb-own was.width is.width was.kind)
    | inr e ↦ subst (λ (k : NetKind). AllZip Pairs (combs-in was) (comb_product is.width k)) (sym e) (comb-moved was.width is.width was.kind)
  ]

  product-pairs : (old new : Circuit) → AllZip (IsRedirected root) old.nets new.nets → AllZip Pairs (products_of old) (products_of new)
  product-pairs old new nets =
      let a = zip-flat (IsRedirected root) Pairs units-in units-in unit-pairs old.nets new.nets nets in
      let b = zip-flat (IsRedirected root) Pairs combs-in combs-in comb-pairs old.nets new.nets nets in
      let c = zip-append Pairs (flat_map units-in old.nets) (flat_map units-in new.nets) (flat_map combs-in old.nets) (flat_map combs-in new.nets) a b in
      subst (λ (l : List Product). AllZip Pairs l (products_of new)) (sym (products-are old))
      (subst (λ (l : List Product). AllZip Pairs (flat_map units-in old.nets ++ flat_map combs-in old.nets) l) (sym (products-are new)) c)

-- ---- what is not moved

module _ (root : ℕ → ℕ) where
  held-same : (kind : NetKind) → held (redirected root kind) ≡ held kind
  held-same (Comb op args) = refl
  held-same (Reg frame slot first from) = refl
  held-same (EnReg frame enable reset first from) = refl
  held-same (Acc frame enable from) = refl
  held-same (Bridge frame live from) = refl
  held-same (Unit left right) = refl
  held-same (Counter frame) = refl

  held-all : (old new : List Net) → AllZip (IsRedirected root) old new → held_count new ≡ held_count old
  held-all [] [] h = refl
  held-all [] (y ∷ ys) h = absurd h
  held-all (x ∷ xs) [] h = absurd h
  held-all (x ∷ xs) (y ∷ ys) h =
      let own : held y.kind ≡ held x.kind = elim h.0.kind [ inl e ↦ ap held e | inr e ↦ ap held e ∙ held-same x.kind ] in
      let rest = held-all xs ys h.1 in
      λ i. own i + rest i

  at-same : (old new : List Net) → AllZip (IsRedirected root) old new → (k : ℕ) → IsRedirected root (net_at old k) (net_at new k)
  at-same [] [] h k = record { wide = refl; sign = refl; kind = inl refl }
  at-same [] (y ∷ ys) h k = absurd h
  at-same (x ∷ xs) [] h k = absurd h
  at-same (x ∷ xs) (y ∷ ys) h zero = h.0
  at-same (x ∷ xs) (y ∷ ys) h (suc k) = at-same xs ys h.1 k

  comb-still : (was is : NetKind) → (is ≡ was) ⊎ (is ≡ redirected root was) → (op : NetOp) (args : List ℕ) → was ≡ Comb op args → (more : List ℕ) × (is ≡ Comb op more)
  comb-still was is (inl e) op args c = (args, e ∙ c)
  comb-still was is (inr e) op args c = (map root args, e ∙ ap (redirected root) c)

  reads-moved : (kind : NetKind) → reads (redirected root kind) ≡ map root (reads kind)
  reads-moved (Comb op args) = refl
  reads-moved (Reg frame slot first from) = refl
  reads-moved (EnReg frame enable reset first from) = refl
  reads-moved (Acc frame enable from) = refl
  reads-moved (Bridge frame live from) = refl
  reads-moved (Unit left right) = refl
  reads-moved (Counter frame) = refl

-- ---- rows

module _ (root : ℕ → ℕ) (n : ℕ) (rows : Rows) (same : (k : ℕ) → Agree n rows rows k (root k)) where
  number-same : (c : ℕ) → c < n → (args : List ℕ) (i : ℕ) → number_at (λ net. rows net c) (slice_get (map root args) i) ≡ number_at (λ net. rows net c) (slice_get args i)
  number-same c below [] i = refl
  number-same c below (x ∷ args) zero = sym (same x c below)
  number-same c below (x ∷ args) (suc i) = number-same c below args i

  operands-same : (c : ℕ) → c < n → (args : List ℕ) → operands_at (λ net. rows net c) (map root args) ≡ operands_at (λ net. rows net c) args
  operands-same c below args = (let a = number-same c below args 0 in let b = number-same c below args 1 in let d =
      number-same c below args 2 in λ i. record { first = a i; second = b i; third = d i })

  reg-back : (span : Span) (slot : ℕ) (first : ℤ) (from : ℕ) (wave : Wave) → IsReg n span slot first (rows (root from)) wave → IsReg n span slot first (rows from) wave
  reg-back span slot first from wave h = record {
    begins = h.begins;
    takes = λ c below t. h.takes c below t ∙ sym (same from c (omega (arith, below)));
    keeps = h.keeps;
  }

  enreg-back : (span : Span) (reset : Bool) (first : ℤ) (enable from : ℕ) (wave : Wave)
      → IsEnReg n span reset first (rows (root enable)) (rows (root from)) wave
      → IsEnReg n span reset first (rows enable) (rows from) wave
  enreg-back span reset first enable from wave h = record {
    begins = h.begins;
    takes = λ c below t on. h.takes c below t (λ e. on (same enable c (omega (arith, below)) ∙ e)) ∙ sym (same from c (omega (arith, below)));
    resets = λ c below t off r. h.resets c below t (sym (same enable c (omega (arith, below))) ∙ off) r;
    stays = λ c below t off r. h.stays c below t (sym (same enable c (omega (arith, below))) ∙ off) r;
    keeps = h.keeps;
  }

  acc-back : (span : Span) (w : ℕ) (s : Bool) (enable from : ℕ) (wave : Wave)
      → IsAcc n span w s (rows (root enable)) (rows (root from)) wave
      → IsAcc n span w s (rows enable) (rows from) wave
  acc-back span w s enable from wave h = record {
    begins = h.begins;
    clears = h.clears;
    adds = λ c below t on. subst (λ (v : ℤ). IsWrapped (wave c +ℤ v) w s (wave (c + 1))) (sym (same from c (omega (arith, below))))
        (h.adds c below t (λ e. on (same enable c (omega (arith, below)) ∙ e)));
    keeps = λ c below t off. h.keeps c below t (sym (same enable c (omega (arith, below))) ∙ off);
  }

  bridge-back : (span : Span) (live from : ℕ) (wave : Wave) → IsBridge n span live (rows (root from)) wave → IsBridge n span live (rows from) wave
  bridge-back span live from wave h = record {
    before = λ c below early. h.before c below early ∙ sym (same from c below);
    passes = λ c below late within. h.passes c below late within ∙ sym (same from c below);
    holds = λ c below late past.
        let r = mod-le (c - span.start) span.length in
        h.holds c below late past ∙ sym (same from (c - (c - span.start) % span.length + live - 1) (omega (arith, below, late, past, r)));
  }

  shows-back : (cycles : ℕ) (inputs : Inputs) (w : ℕ) (s : Bool) (kind : NetKind) (wave : Wave)
      → NetShows cycles n inputs rows w s (redirected root kind) wave → NetShows cycles n inputs rows w s kind wave
  shows-back cycles inputs w s (Comb op args) wave h = λ c below. subst (λ (o : Operands). IsWrapped (given_by op (λ number. inputs number c) o) w s (wave c)) (operands-same c below args) (h c below)
  shows-back cycles inputs w s (Reg frame slot first from) wave h = reg-back (span_of cycles frame) slot first from wave h
  shows-back cycles inputs w s (EnReg frame enable reset first from) wave h = enreg-back (span_of cycles frame) reset first enable from wave h
  shows-back cycles inputs w s (Acc frame enable from) wave h = acc-back (span_of cycles frame) w s enable from wave h
  shows-back cycles inputs w s (Bridge frame live from) wave h = bridge-back (span_of cycles frame) _ from wave h
  shows-back cycles inputs w s (Unit left right) wave h = λ c below. h c below ∙ (let a = same left c below in let b = same right c below in λ i. sym a i *ℤ sym b i)
  shows-back cycles inputs w s (Counter frame) wave h = h

-- ---- all of it

module _ {old new : Circuit} {root : ℕ → ℕ} (r : Redirects old new root) where
  at : (k : ℕ) → IsRedirected root (net_at old.nets k) (net_at new.nets k)
  at k = at-same root old.nets new.nets r.nets k

  rows-back : (n : ℕ) (inputs : Inputs) (rows : Rows) → NetRows new n inputs rows → NetRows old n inputs rows
  rows-back n inputs rows are = record {
    shows = λ k net is.
        let x = zip-get (IsRedirected root) old.nets new.nets r.nets k net is in
        let h = are.shows k x.0 x.1 in
        let a = subst (λ (cycles : ℕ). NetShows cycles n inputs rows x.0.width x.0.signed x.0.kind (rows k)) r.cycles h in
        let b = subst (λ (w : ℕ). NetShows old.cycles n inputs rows w x.0.signed x.0.kind (rows k)) x.2.wide a in
        let c = subst (λ (s : Bool). NetShows old.cycles n inputs rows net.width s x.0.kind (rows k)) x.2.sign b in
        elim x.2.kind [
          | inl e ↦ subst (λ (kind : NetKind). NetShows old.cycles n inputs rows net.width net.signed kind (rows k)) e c
          | inr e ↦ shows-back root n rows (λ j. (r.roots j).same n inputs rows are) old.cycles inputs net.width net.signed net.kind (rows k)
              (subst (λ (kind : NetKind). NetShows old.cycles n inputs rows net.width net.signed kind (rows k)) e c)
        ];
    in_word = λ k net is c below.
        let x = zip-get (IsRedirected root) old.nets new.nets r.nets k net is in
        let h = are.in_word k x.0 x.1 c below in
        subst (λ (s : Bool). InWord net.width s (rows k c)) x.2.sign (subst (λ (w : ℕ). InWord w x.0.signed (rows k c)) x.2.wide h);
  }

  face-in : (port : NetPort) → face new port ≡ face old port
  face-in port = (let w = (at port.net).wide in let s = (at port.net).sign in λ i. record { name = port.name; width = w i; signed = s i; period = port.period; latency = port.latency })

  face-out : (was is : NetPort) → IsReported root was is → face new is ≡ face old was
  face-out was is p =
      let q = r.roots was.net in
      let w : (net_at new.nets is.net).width ≡ (net_at old.nets was.net).width = ap (λ (k : ℕ). (net_at new.nets k).width) p.net ∙ q.wide ∙ (at was.net).wide in
      let s : (net_at new.nets is.net).signed ≡ (net_at old.nets was.net).signed = ap (λ (k : ℕ). (net_at new.nets k).signed) p.net ∙ q.sign ∙ (at was.net).sign in
      let a = p.name in
      let b = p.period in
      let c = p.latency in
      λ i. record { name = a i; width = w i; signed = s i; period = b i; latency = c i }

  faces-out : (xs ys : List NetPort) → AllZip (IsReported root) xs ys → map (face new) ys ≡ map (face old) xs
  faces-out [] [] h = refl
  faces-out [] (y ∷ ys) h = absurd h
  faces-out (x ∷ xs) [] h = absurd h
  faces-out (x ∷ xs) (y ∷ ys) h = (let a = face-out x y h.0 in let b = faces-out xs ys h.1 in λ i. a i ∷ b i)

  module _ (label : NetLabel) (there : Contains old.labels label) where
    module _ (frame : Frame) (slot : ℕ) (first : ℤ) (from : ℕ) (is : (net_at old.nets label.net).kind ≡ Reg frame slot first from) where
      alone-still : IsReadBy old from label.net → IsReadBy new from label.net
      alone-still b = record {
        alone = λ k below c.
            let long = zip-length (IsRedirected root) old.nets new.nets r.nets in
            let within : k < length old.nets = omega (arith, below, long) in
            elim (at k).kind [
              | inl e ↦ b.alone k within (subst (λ (kind : NetKind). Contains (reads kind) from) e c)
              | inr e ↦ (let d = subst (λ (l : List ℕ). Contains l from) (ap reads e ∙ reads-moved root (net_at old.nets k).kind) c in
                  let m = map_there root (reads (net_at old.nets k).kind) d.0 from (found (map root (reads (net_at old.nets k).kind)) from d) in
                  let own = r.apart label frame slot first from there is m.0 m.2 in
                  b.alone k within (subst (Contains (reads (net_at old.nets k).kind)) own (stands (reads (net_at old.nets k).kind) d.0 m.0 m.1)))
            ];
        unshown = λ port c e.
            let x = zip-back (IsReported root) old.outputs new.outputs r.outputs c.0 port (found new.outputs port c) in
            let own = r.apart label frame slot first from there is x.0.net (sym x.2.net ∙ e) in
            b.unshown x.0 (stands old.outputs c.0 x.0 x.1) own;
      }

      register-still : KeepsRegister old new (λ k. k) label.net from
      register-still = record {
        frame = frame;
        slot = slot;
        first = first;
        kind = r.stays label frame slot first from there is;
        wire = λ w. (let x = comb-still root (net_at old.nets from).kind (net_at new.nets from).kind (at from).kind w.op w.args w.is in record { op = w.op; args = x.0; is = x.1 });
        alone = alone-still;
      }

    label-still : KeepsLabel old new (λ k. k) label
    label-still = record {
      there = subst (λ (l : List NetLabel). Contains l label) (sym r.labels) there;
      wide = (at label.net).wide;
      sign = (at label.net).sign;
      multiplies = λ m. (let x = comb-still root (net_at old.nets label.net).kind (net_at new.nets label.net).kind (at label.net).kind Multiply m.args m.is in record { args = x.0; is = x.1 });
      takes = register-still;
    }

  pub refines : Refines old new
  refines = record {
    cycles = r.cycles;
    inputs = ap (map (face new)) r.inputs ∙ map-same (face new) (face old) face-in old.inputs;
    outputs = faces-out old.outputs new.outputs r.outputs;
    products = sym (zip-length (Pairs root (λ j k. ⊤) (λ k. tt) (λ k. tt)) (products_of old) (products_of new) (product-pairs root (λ j k. ⊤) (λ k. tt) (λ k. tt) old new r.nets));
    few = (let e = held-all root old.nets new.nets r.nets in omega (arith, e));
    place = λ k. k;
    labels = label-still;
    rows = λ n inputs rows are. record {
      before = rows;
      are = rows-back n inputs rows are;
      outputs = zip-weaker (IsReported root) (λ (was is : NetPort). Agree n rows rows was.net is.net)
          (λ was is p. subst (Agree n rows rows was.net) (sym p.net) ((r.roots was.net).same n inputs rows are))
          old.outputs new.outputs r.outputs;
      factors = product-pairs root (Agree n rows rows) (λ k c below. refl) (λ k. (r.roots k).same n inputs rows are) old new r.nets;
      labels = λ label there c below. refl;
    };
  }

pub redirects : RedirectsRefine
redirects old new root r = refines r
