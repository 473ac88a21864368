-- Net after net gets what stands for it.
use Rattle.std.proofs.Common.{◌≡◌, ◌≢◌, ℕ, zero, suc, ◌+◌, ◌<◌, ◌≤◌, inl, inr, Bool, true, false, List, [], ◌∷◌, map, length, All, Contains, set, slice_index, refl, ap, sym, ◌∙◌, subst, arith, ℤ}
use Rattle.std.proofs.Common.{length-set}
use Rattle.std.proofs.lemmas.Bool.{cases_eq}
use Rattle.std.proofs.lemmas.List.{get_or-set_same, get_or-set_other}
use Rattle.std.proofs.lemmas.Option.{get_or_from_slice_get, slice_get-get_or}
use Rattle.math_num.specs.Word.{InWord, IsWrapped}
use Rattle.hw_net.specs.declared.netlist.Net.{Net}
use Rattle.hw_net.specs.declared.netlist.NetKind.{NetKind}
use Rattle.hw_net.specs.declared.netlist.NetKind.TheVariants.{Comb, Reg, EnReg, Acc, Bridge, Unit, Counter}
use Rattle.hw_net.specs.declared.netlist.NetOp.TheVariants.{Const}
use Rattle.hw_net.specs.Netlist.{reads}
use Rattle.hw_net.specs.NetRows.{operands_at}
use Rattle.hw_net.specs.Operation.{Operands, given_by}
use Rattle.hw_net.specs.Products.{net_at, no_net, places}
use Rattle.hw_order.specs.Order.{IsOrder}
use Rattle.hw_refine.specs.Redirects.{redirected}
use Rattle.hw_renumber.specs.Renumbered.{place_in}
use Rattle.hw_renumber.proofs.Products.{further}
use Rattle.math_list.proofs.Elements.{all-at, all-in}
use Rattle.hw_fold.specs.inner.Pins.{is_marked}
use Rattle.hw_fold.specs.inner.Fold.{CanFold}
use Rattle.hw_fold.specs.inner.Roots.{ArePinned, CanShow, DoesSame, Fold, IsAlone, IsFolding, IsFound, IsPassed, StandsFor, fold_of}
use Rattle.hw_fold.proofs.Constants.{IsConst, const-same, operands-same}
use Rattle.hw_fold.proofs.Numbers.{places-at}

set-same : (xs : List ℕ) (k v : ℕ) → k < length xs → place_in xs k ≡ v → set xs k v ≡ xs
set-same [] k v below e = absurd (omega (arith, below))
set-same (x ∷ xs) zero v below e = ap (λ (y : ℕ). y ∷ xs) (sym e)
set-same (x ∷ xs) (suc k) v below e = ap (λ (rest : List ℕ). x ∷ rest) (set-same xs k v (omega (arith, below)) e)

map-over : (f g : ℕ → ℕ) (args : List ℕ) → ((read : ℕ) → Contains args read → f (g read) ≡ f read) → map f (map g args) ≡ map f args
map-over f g [] same = refl
map-over f g (x ∷ args) same = (let a = same x (0, omega arith, refl) in let b = map-over f g args (λ r c. same r (further x r args c)) in λ i. a i ∷ b i)

redirected-over : (f g : ℕ → ℕ) (kind : NetKind) → ((read : ℕ) → Contains (reads kind) read → f (g read) ≡ f read) → redirected f (redirected g kind) ≡ redirected f kind
redirected-over f g (Comb op args) same = ap (Comb op) (map-over f g args same)
redirected-over f g (Reg frame slot first from) same = ap (Reg frame slot first) (same from (0, omega arith, refl))
redirected-over f g (EnReg frame enable reset first from) same = (let a = same enable (0, omega arith, refl) in let b = same from (1, omega arith, refl) in λ i. EnReg frame (a i) reset first (b i))
redirected-over f g (Acc frame enable from) same = (let a = same enable (0, omega arith, refl) in let b = same from (1, omega arith, refl) in λ i. Acc frame (a i) (b i))
redirected-over f g (Bridge frame live from) same = ap (Bridge frame live) (same from (0, omega arith, refl))
redirected-over f g (Unit left right) same = (let a = same left (0, omega arith, refl) in let b = same right (1, omega arith, refl) in λ i. Unit (a i) (b i))
redirected-over f g (Counter frame) same = refl

not-both : (marks : List Bool) (j k : ℕ) → is_marked marks j ≡ true → is_marked marks k ≡ false → j ≢ k
not-both marks j k one none e = (let f : true ≡ false = sym one ∙ ap (is_marked marks) e ∙ none in cc f)

module _ (rank : ℕ → ℕ) (fold : Fold) (k : ℕ) (inside : k < length fold.nets) (folding : IsFolding rank (rank k) fold) (absent : is_marked fold.done k ≡ false) where
  abbrev done' : List Bool
  done' = set fold.done k true

  done-own : is_marked done' k ≡ true
  done-own = get_or-set_same fold.done k true false (let a = folding.sizes.done in omega (arith, inside, a))

  done-else : (j : ℕ) → j ≢ k → is_marked done' j ≡ is_marked fold.done j
  done-else j apart = get_or-set_other fold.done k j true false apart

  done-long : length done' ≡ length fold.nets
  done-long = (let a = folding.sizes.done in omega (arith, a, length-set fold.done k true))

  early' : (j : ℕ) → j < length fold.nets → is_marked done' j ≡ true → rank j < rank k + 1
  early' j below h = elim (cases_eq j k) [
    | inl same ↦ (let e = ap rank same in omega (arith, e))
    | inr apart ↦ (let a = folding.early j below (sym (done-else j apart) ∙ h) in omega (arith, a))
  ]

  undone-apart : (j : ℕ) → is_marked done' j ≡ false → j ≢ k
  undone-apart j h e = not-both done' k j done-own h (sym e)

  undone-before : (j : ℕ) → is_marked done' j ≡ false → is_marked fold.done j ≡ false
  undone-before j h = sym (done-else j (undone-apart j h)) ∙ h

  -- the net stands for itself
  pub stays : IsFolding rank (rank k + 1) (record fold { done = done' })
  stays = record {
    sizes = record { there = folding.sizes.there; alone = folding.sizes.alone; roots = folding.sizes.roots; done = done-long };
    inside = folding.inside;
    settled = folding.settled;
    wide = folding.wide;
    sign = folding.sign;
    same = folding.same;
    low = folding.low;
    early = early';
    undone = λ j below h. folding.undone j below (undone-before j h);
    alone = folding.alone;
  }

  -- another net stands for it
  module _ (other : ℕ) (is : IsFound fold k other) (free : is_marked fold.alone k ≡ false) where
    abbrev roots' : List ℕ
    roots' = set fold.roots k other

    abbrev root : ℕ → ℕ
    root j = place_in fold.roots j

    abbrev root' : ℕ → ℕ
    root' j = place_in roots' j

    abbrev at : ℕ → Net
    at j = net_at fold.nets j

    root-own : root' k ≡ other
    root-own = get_or-set_same fold.roots k other 0 (let a = folding.sizes.roots in omega (arith, inside, a))

    root-else : (j : ℕ) → j ≢ k → root' j ≡ root j
    root-else j apart = get_or-set_other fold.roots k j other 0 apart

    other-apart : other ≢ k
    other-apart = not-both fold.done other k is.root.settled absent

    self : IsAlone fold.roots (length fold.nets) k
    self = folding.undone k inside absent

    root-of-other : root' other ≡ other
    root-of-other = root-else other other-apart ∙ is.root.own

    over : (j : ℕ) → j < length fold.nets → root' (root j) ≡ root' j
    over j below = elim (cases_eq j k) [
      | inl same ↦ ap root' (ap root same ∙ self.own ∙ sym same)
      | inr apart ↦ root-else (root j) (λ e. apart (self.only j below e)) ∙ folding.settled j below ∙ sym (root-else j apart)
    ]

    reads-below : (j : ℕ) → j < length fold.nets → (read : ℕ) → Contains (reads (at j).kind) read → read < length fold.nets
    reads-below j below read c = all-in (λ (r : ℕ). r < length fold.nets) (reads (at j).kind)
        (all-at (λ (net : Net). All (λ (r : ℕ). r < length fold.nets) (reads net.kind)) fold.nets folding.sizes.there j (at j) (slice_get-get_or fold.nets j no_net below)) read c

    kind-over : (j : ℕ) → j < length fold.nets → redirected root' (redirected root (at j).kind) ≡ redirected root' (at j).kind
    kind-over j below = redirected-over root' root (at j).kind (λ read c. over read (reads-below j below read c))

    kinds-still : (i j : ℕ) → i < length fold.nets → j < length fold.nets → redirected root (at i).kind ≡ redirected root (at j).kind → redirected root' (at i).kind ≡ redirected root' (at j).kind
    kinds-still i j one two e = sym (kind-over i one) ∙ ap (redirected root') e ∙ kind-over j two

    -- what holds of the net and of the others holds of all
    each : (P : ℕ → ℕ → Type 0) → P k other → ((j : ℕ) → j ≢ k → j < length fold.nets → P j (root j)) → (j : ℕ) → j < length fold.nets → P j (root' j)
    each P own else j below = elim (cases_eq j k) [
      | inl same ↦ subst (λ (i : ℕ). P i (root' i)) (sym same) (subst (P k) (sym root-own) own)
      | inr apart ↦ subst (P j) (sym (root-else j apart)) (else j apart below)
    ]

    inside' : (j : ℕ) → j < length fold.nets → root' j < length fold.nets
    inside' = each (λ j o. o < length fold.nets) is.root.inside (λ j apart below. folding.inside j below)

    wide' : (j : ℕ) → j < length fold.nets → (at (root' j)).width ≡ (at j).width
    wide' = each (λ j o. (at o).width ≡ (at j).width) is.root.wide (λ j apart below. folding.wide j below)

    sign' : (j : ℕ) → j < length fold.nets → (at (root' j)).signed ≡ (at j).signed
    sign' = each (λ j o. (at o).signed ≡ (at j).signed) is.root.sign (λ j apart below. folding.sign j below)

    const' : (j : ℕ) → j < length fold.nets → (value : ℤ) (args : List ℕ) → (at j).kind ≡ Comb (Const value) args → IsConst (at (root' j)).kind value
    const' = each (λ j o. (value : ℤ) (args : List ℕ) → (at j).kind ≡ Comb (Const value) args → IsConst (at o).kind value)
        (const-same fold.nets root k other is.same) (λ j apart below. const-same fold.nets root j (root j) (folding.same j below))

    -- what stands for nets shows what they can show
    can-show : (shown : ℕ → ℤ) → CanShow fold.nets shown → CanShow fold.nets (λ j. shown (root' j))
    can-show shown can = record {
      words = can.words;
      in_word = λ j below. subst (λ (s : Bool). InWord (at j).width s (shown (root' j))) (sign' j below)
          (subst (λ (w : ℕ). InWord w (at (root' j)).signed (shown (root' j))) (wide' j below) (can.in_word (root' j) (inside' j below)));
      constants = λ j value args below is.
          let c = const' j below value args is in
          subst (λ (s : Bool). IsWrapped value (at j).width s (shown (root' j))) (sign' j below)
          (subst (λ (w : ℕ). IsWrapped value w (at (root' j)).signed (shown (root' j))) (wide' j below) (can.constants (root' j) value c.0 (inside' j below) c.1));
    }

    passed-still : (j o : ℕ) → j < length fold.nets → root' o ≡ o → IsPassed fold.nets root j o → IsPassed fold.nets root' j o
    passed-still j o below own p = record {
      op = p.op;
      args = p.args;
      is = p.is;
      reads = p.reads;
      gives = λ inputs shown can.
          let e : operands_at (λ i. shown (root' (root i))) p.args ≡ operands_at (λ i. shown (root' i)) p.args =
          operands-same (λ i. shown (root' (root i))) (λ i. shown (root' i)) p.args
          (λ read c. ap shown (over read (reads-below j below read (subst (λ (kind : NetKind). Contains (reads kind) read) (sym p.is) c)))) in
          subst (λ (v : ℕ). IsWrapped (given_by p.op inputs (operands_at (λ i. shown (root' i)) p.args)) (at j).width (at j).signed (shown v)) own
          (subst (λ (of : Operands). IsWrapped (given_by p.op inputs of) (at j).width (at j).signed (shown (root' o))) e (p.gives inputs (λ i. shown (root' i)) (can-show shown can)));
    }

    same-own : DoesSame fold.nets root' k other
    same-own = elim is.same [
      | inl e ↦ inl (kinds-still other k is.root.inside inside e)
      | inr p ↦ inr (passed-still k other inside root-of-other p)
    ]

    same-else : (j : ℕ) → j ≢ k → j < length fold.nets → DoesSame fold.nets root' j (root j)
    same-else j apart below = elim (folding.same j below) [
      | inl e ↦ inl (kinds-still (root j) j (folding.inside j below) below e)
      | inr p ↦ inr (passed-still j (root j) below (over j below ∙ root-else j apart) p)
    ]

    still-alone : (j : ℕ) → j ≢ k → other ≢ j → IsAlone fold.roots (length fold.nets) j → IsAlone roots' (length fold.nets) j
    still-alone j apart differs a = record {
      own = root-else j apart ∙ a.own;
      only = λ i below e. elim (cases_eq i k) [
        | inl same ↦ absurd (differs (sym root-own ∙ ap root' (sym same) ∙ e))
        | inr else ↦ a.only i below (sym (root-else i else) ∙ e)
      ];
    }

    pub goes : IsFolding rank (rank k + 1) (record fold { roots = roots'; done = done' })
    goes = record {
      sizes = record { there = folding.sizes.there; alone = folding.sizes.alone; roots = (let a = folding.sizes.roots in omega (arith, a, length-set fold.roots k other)); done = done-long };
      inside = inside';
      settled = each (λ j o. root' o ≡ o) root-of-other (λ j apart below. over j below ∙ root-else j apart);
      wide = wide';
      sign = sign';
      same = each (λ j o. DoesSame fold.nets root' j o) same-own same-else;
      low = each (λ j o. rank o ≤ rank j) (let a = folding.early other is.root.inside is.root.settled in omega (arith, a)) (λ j apart below. folding.low j below);
      early = early';
      undone = λ j below h. still-alone j (undone-apart j h) (not-both fold.done other j is.root.settled (undone-before j h)) (folding.undone j below (undone-before j h));
      alone = λ j below h. still-alone j (not-both fold.alone j k h free) (λ e. not-both fold.alone j other h is.root.free (sym e)) (folding.alone j below h);
    }

  -- one or the other
  pub settled : (own : List Bool) (other : ℕ) → StandsFor own fold k other → IsFolding rank (rank k + 1) (record fold { roots = set fold.roots k other; done = done' })
  settled own other (inl same) =
      let self = folding.undone k inside absent in
      let long = folding.sizes.roots in
      subst (λ (xs : List ℕ). IsFolding rank (rank k + 1) (record fold { roots = xs; done = done' })) (sym (set-same fold.roots k other (omega (arith, inside, long)) (self.own ∙ sym same))) stays
  settled own other (inr lent) = goes other lent.found lent.free

-- nets that are marked stand for themselves still
pub pinned-still : (own : List Bool) (fold : Fold) (k other : ℕ) → k < length fold.roots
    → StandsFor own fold k other → ArePinned own fold
    → ArePinned own (record fold { roots = set fold.roots k other; done = set fold.done k true })
pinned-still own fold k other inside stands pinned = record {
  size = pinned.size;
  each = λ j below marked. elim (cases_eq j k) [
    | inr apart ↦ get_or-set_other fold.roots k j other 0 apart ∙ pinned.each j below marked
    | inl same ↦ (let at = get_or-set_same fold.roots k other 0 inside in
        subst (λ (i : ℕ). place_in (set fold.roots k other) i ≡ i) (sym same)
        (at ∙ self stands (subst (λ (i : ℕ). is_marked own i ≡ true) same marked)))
  ];
}
  where
    self : StandsFor own fold k other → is_marked own k ≡ true → other ≡ k
    self (inl e) marked = e
    self (inr lent) marked = absurd (let e : true ≡ false = sym marked ∙ lent.own_free in cc e)

-- before the first net
module _ (nets : List Net) (own alone : List Bool) (roots : List ℕ) (done : List Bool) (can : CanFold nets own alone roots done) where
  itself : (k : ℕ) → k < length nets → place_in roots k ≡ k
  itself k below = ap (λ (xs : List ℕ). place_in xs k) can.numbers ∙ get_or_from_slice_get (places (length nets)) k k 0 (places-at (length nets) k below)

  by-itself : (k : ℕ) → k < length nets → IsAlone roots (length nets) k
  by-itself k below = record { own = itself k below; only = λ j inside e. sym (itself j inside) ∙ e }

  pub begun : (rank : ℕ → ℕ) → IsFolding rank 0 (fold_of nets alone roots done)
  begun rank = record {
    sizes = can.sizes;
    inside = λ k below. subst (λ (j : ℕ). j < length nets) (sym (itself k below)) below;
    settled = λ k below. ap (place_in roots) (itself k below);
    wide = λ k below. ap (λ (j : ℕ). (net_at nets j).width) (itself k below);
    sign = λ k below. ap (λ (j : ℕ). (net_at nets j).signed) (itself k below);
    same = λ k below. inl (ap (λ (j : ℕ). redirected (place_in roots) (net_at nets j).kind) (itself k below));
    low = λ k below. (let e = ap rank (itself k below) in omega (arith, e));
    early = λ k below marked. absurd (let e : true ≡ false = sym marked ∙ can.none k in cc e);
    undone = λ k below none. by-itself k below;
    alone = λ k below marked. by-itself k below;
  }

  pub pinned-first : ArePinned own (fold_of nets alone roots done)
  pinned-first = record { size = can.own_size; each = λ k below marked. itself k below }

-- a net of the order is not done before its turn
pub not-yet : (nets : List Net) (order : List ℕ) (ordered : IsOrder nets order) (i : ℕ) → i < length order
    → (fold : Fold) → slice_index order i < length fold.nets → IsFolding ordered.rank i fold
    → is_marked fold.done (slice_index order i) ≡ false
not-yet nets order ordered i below fold inside folding = by (is_marked fold.done (slice_index order i)) refl
  where
    by : (b : Bool) → is_marked fold.done (slice_index order i) ≡ b → is_marked fold.done (slice_index order i) ≡ false
    by true e = absurd (let a = folding.early (slice_index order i) inside e in let b = ordered.at i below in omega (arith, a, b))
    by false e = e
