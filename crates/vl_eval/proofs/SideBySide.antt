-- The operations of parts and of copies that stand side by side, added one behind another.
use Rattle.std.proofs.Common.{◌≡◌, ◌<◌, ◌≤◌, ◌+◌, ◌*◌, ◌-◌, ◌^◌, inl, inr, ℕ, zero, suc, max, sum, Bool, true, false, List, [], ◌∷◌, ◌++◌, length, map, flat_map, replicate, Contains, refl, sym, ap}
use Rattle.std.proofs.Common.{subst, ◌∙◌, arith, take, drop, slice_index_or}
use Rattle.std.proofs.lemmas.Bool.{false≢true}
use Rattle.std.proofs.Math.Nat.{mul-le-mul_right}
use Rattle.std.proofs.lemmas.List.{map-append, take-append-drop, take_all, take_more}
use Rattle.std.proofs.lemmas.List.Folds.{list_all_at}
use Rattle.std.specs.List.{list_all}
use Rattle.std.proofs.lemmas.List.Sums.{sum_by-append}
use Rattle.std.specs.Prelude.{fold}
use Rattle.math_list.proofs.Elements.{flat-in, map-in}
use Rattle.vl_ast.specs.declared.expressions.Expr.{Expr}
use Rattle.vl_ast.specs.declared.expressions.Expr.TheOpen.{Expr-F}
use Rattle.vl_ast.specs.declared.expressions.Expr.TheViews.{roll-Expr, size-Expr}
use Rattle.vl_ast.specs.declared.expressions.Expr.TheVariants.{Concat, Repeat, rolls-Concat, rolls-Repeat}
use Rattle.vl_ast.specs.Context.{Net, own_length, is_signed, alone}
use Rattle.vl_ast.specs.Conditions.{is_sound}
use Rattle.vl_ast.specs.Nets.{names_read}
use Rattle.vl_ast.specs.Value.{Bits, beside, bits_in, operand_of}
use Rattle.vl_ast.proofs.Agree.{ByLayer}
use Rattle.vl_check.specs.declared.scope.Scope.{Scope}
use Rattle.vl_check.specs.declared.shapes.Shape.{Shape}
use Rattle.vl_check.specs.Scope.{nets_in}
use Rattle.vl_eval.specs.declared.adding.Additions.{Additions}
use Rattle.vl_eval.specs.declared.ops.Op.{Op}
use Rattle.vl_eval.specs.declared.ops.Op.TheVariants.{Constant, One, Beside}
use Rattle.vl_eval.specs.declared.ops.OneOp.TheVariants.{Extended}
use Rattle.vl_eval.specs.inner.Ops.{IsSettled}
use Rattle.vl_eval.specs.inner.PlaceBits.{NamesFit, row_of, Grows, IfFine, Pushed, IsBeside, IsExtended}
use Rattle.vl_eval.specs.declared.site.Alone.{Alone}
use Rattle.vl_eval.specs.inner.Site.{ArePlaced, Built, BuiltAlone, slot_in}
use Rattle.vl_eval.proofs.Forms.{Value, shows-op, ShowsBeside, still-beside, shows-beside, shows-bit-copies, shows-first, shows-concat, shows-repeat}
use Rattle.vl_eval.proofs.Operands.{length-concat, sign-concat, sound-concat, sound-repeat}
use Rattle.vl_eval.proofs.Builds.{grows-more, grows-none, grows-push, shows-later, ends, value, stays, alone-of, settled-later}

-- none of some expressions is deeper than the deepest of them
pub part-size : (deepest : List Expr → ℕ)
    → ((x : Expr) (xs : List Expr) → deepest (x ∷ xs) ≡ max (size-Expr x) (deepest xs))
    → (xs : List Expr) (i : ℕ) (x : Expr) → i < length xs → x ≡ slice_index_or xs i x → size-Expr x ≤ deepest xs
part-size deepest next [] i x low is = absurd (omega (arith, low))
part-size deepest next (y ∷ ys) zero x low is = let e = next y ys in let s = ap size-Expr is in omega (arith, e, s)
part-size deepest next (y ∷ ys) (suc i) x low is = let e = next y ys in let r = part-size deepest next ys i x (omega (arith, low)) is in omega (arith, e, r)

module _ (by_layer : ByLayer) (base : ℕ) (scope : Scope) (slots : List ℕ) where
  abbrev nets : List ℕ → Net
  nets = nets_in scope

  abbrev at : List ℕ → ℕ
  at = slot_in scope slots

  abbrev Here : List Op → List Op → ℕ → ℕ → Bool → Expr → Type 0
  Here = Built base scope slots

  -- parts side by side
  abbrev pub bits-of : List Expr → (ℕ → ℕ) → List Bits
  bits-of parts values = map (alone nets) (map (operand_of nets (row_of at values)) parts)

  abbrev pub names-of : List Expr → List (List ℕ)
  names-of parts = flat_map (λ p. p) (map names_read parts)

  abbrev pub lengths : List Expr → ℕ
  lengths parts = sum (map (own_length nets) parts)

  bits-more : (done : List Expr) (part : Expr) → (λ values. bits-of done values ++ bits_in nets (row_of at values) (own_length nets part) (is_signed nets part) part ∷ []) ≡ bits-of (done ++ part ∷ [])
  bits-more done part = (λ i values. (sym
      (map-append (alone nets) (map (operand_of nets (row_of at values)) done)
      (operand_of nets (row_of at values) part ∷ []))
      ∙ ap (map (alone nets)) (sym (map-append (operand_of nets (row_of at values)) done (part ∷ [])))) i)

  pub lengths-more : (done : List Expr) (part : Expr) → lengths done + own_length nets part ≡ lengths (done ++ part ∷ [])
  lengths-more done part =
      let m = ap sum (map-append (own_length nets) done (part ∷ [])) in
      let a = sum_by-append (λ x. x) (map (own_length nets) done) (own_length nets part ∷ []) in
      omega (arith, m, a)

  abbrev Fit : (ℕ → ℕ) → List (List ℕ) → Type 0
  Fit values names = NamesFit nets (row_of at values) names

  -- so many bits of the parts so far, in a place where there are any
  pub record Joined (before now : List Op) (slot length' : ℕ) (done all : List Expr) : Type 0 where
    pub grows : Grows base before now
    pub long : length' ≡ lengths done
    pub fits : (values : ℕ → ℕ) → IsSettled base now values → Fit values (names-of all) → fold beside 0 (bits-of done values) < 2 ^ length'
    pub shows : 0 < length' → ShowsBeside by_layer base nets at now slot length' (bits-of done) (names-of all)

  part-fit : (all : List Expr) (part : Expr) → Contains all part → (values : ℕ → ℕ) → Fit values (names-of all) → Fit values (names_read part)
  part-fit all part c values f = record { at = λ name n. f.at name (flat-in (λ p. p) (map names_read all) (names_read part) name (map-in names_read all part c) n) }

  pub joined-more : (before now mid after : List Op) (slot slot' s length' : ℕ) (done all : List Expr) (part : Expr)
      (inner : Shape) → Contains all part → is_sound nets part ≡ true → lengths (done ++ part ∷ []) ≤ 128
      → inner.length ≡ own_length nets part → inner.signed ≡ is_signed nets part
      → Joined before now slot length' done all → Here now mid s inner.length inner.signed part → IsBeside base mid after slot' slot length' s inner.length
      → Joined before after slot' (length' + inner.length) (done ++ part ∷ []) all
  joined-more before now mid after slot slot' s length' done all part inner c ok few l g j b (inl (none, place, ops)) =
      let v = value by_layer base scope slots mid s (own_length nets part) (is_signed nets part) part ok (omega arith) (alone-of by_layer base scope slots mid s part inner l g b.shows) in
      let fits' = λ (values : ℕ → ℕ) (st : IsSettled base mid values) (f : Fit values (names-of all)). j.fits values (settled-later by_layer base scope slots now mid b.grows values st) f in
      let both : ShowsBeside by_layer base nets at mid s (length' + own_length nets part) (bits-of (done ++ part ∷ [])) (names-of all) =
      subst (λ bs. ShowsBeside by_layer base nets at mid s (length' + own_length nets part) bs (names-of all)) (bits-more done part)
      (shows-first by_layer base nets at mid s length' (own_length nets part) (is_signed nets part) (bits-of done) (names-of all) part none (part-fit all part c) fits' v) in
      subst (λ zs. Joined before zs slot' (length' + inner.length) (done ++ part ∷ []) all) (sym ops)
      (subst (λ k. Joined before mid k (length' + inner.length) (done ++ part ∷ []) all) (sym place)
      (subst (λ n. Joined before mid s (length' + n) (done ++ part ∷ []) all) (sym l)
      (record {
        grows = grows-more base before now mid j.grows b.grows;
        long = (let m = lengths-more done part in let k = j.long in omega (arith, m, k));
        fits = both.fits;
        shows = λ _. both;
      })))
  joined-more before now mid after slot slot' s length' done all part inner c ok few l g j b (inr (some, p)) =
      let own = own_length nets part in
      let v = value by_layer base scope slots mid s own (is_signed nets part) part ok (omega arith) (alone-of by_layer base scope slots mid s part inner l g b.shows) in
      let left = subst (λ ops. ShowsBeside by_layer base nets at ops slot length' (bits-of done) (names-of all))
      (sym b.grows.grown) (still-beside by_layer base nets at now b.grows.more slot length' (bits-of done)
      (names-of all) (j.shows some)) in
      let room : length' + own ≤ 128 = (let m = lengths-more done part in let k = j.long in omega (arith, m, k, few)) in
      let low : own < 128 = omega (arith, room, some) in
      let p' : Pushed base mid after slot' (Beside slot s own) = subst (λ n. Pushed base mid after slot' (Beside slot s n)) l p in
      let both' = shows-beside by_layer base nets at mid slot s length' own (is_signed nets part) (bits-of done) (names-of all) part room (part-fit all part c) left v in
      let both : ShowsBeside by_layer base nets at after slot' (length' + own) (bits-of (done ++ part ∷ [])) (names-of all) =
      subst (λ bs. ShowsBeside by_layer base nets at after slot' (length' + own) bs (names-of all)) (bits-more done part)
      (subst (λ k. ShowsBeside by_layer base nets at after k (length' + own)
      (λ values. bits-of done values ++ bits_in nets (row_of at values) own (is_signed nets part) part ∷ [])
      (names-of all)) (sym p'.place)
      (subst (λ ops. ShowsBeside by_layer base nets at ops (base + length mid) (length' + own)
      (λ values. bits-of done values ++ bits_in nets (row_of at values) own (is_signed nets part) part ∷ [])
      (names-of all)) (sym p'.grown) both')) in
      subst (λ n. Joined before after slot' (length' + n) (done ++ part ∷ []) all) (sym l)
      (record {
        grows = grows-more base before mid after (grows-more base before now mid j.grows b.grows) (grows-push base mid after slot' (Beside slot s own) (left.below, v.here.below, low) p');
        long = (let m = lengths-more done part in let k = j.long in omega (arith, m, k));
        fits = both.fits;
        shows = λ _. both;
      })

  pub joined-all : (before now : List Op) (slot length' i : ℕ) (parts : List Expr) → length parts ≤ i → Joined before now slot length' (take i parts) parts → Joined before now slot length' parts parts
  joined-all before now slot length' i parts past j = subst (λ done. Joined before now slot length' done parts) (take_all i parts past) j

  -- a part at its place
  pub part-in : (parts : List Expr) (i : ℕ) (part : Expr) → i < length parts → part ≡ slice_index_or parts i part → Contains parts part
  part-in parts i part below is = (i, below, sym is)

  pub part-sound : (parts : List Expr) (i : ℕ) (part : Expr) → list_all (is_sound nets) parts ≡ true → i < length parts → part ≡ slice_index_or parts i part → is_sound nets part ≡ true
  part-sound parts i part all below is = by (is_sound nets part) refl where
    by : (t : Bool) → is_sound nets part ≡ t → is_sound nets part ≡ true
    by true e = e
    by false e = absurd (false≢true (sym (list_all_at (is_sound nets) parts i part below (ap (is_sound nets) (sym is) ∙ e)) ∙ all))

  pub part-placed : (ops : List Op) (all : List Expr) (part : Expr) → Contains all part → ArePlaced base scope slots ops (names-of all) → ArePlaced base scope slots ops (names_read part)
  part-placed ops all part c p = record {
    below = λ name n. p.below name (flat-in (λ q. q) (map names_read all) (names_read part) name (map-in names_read all part c) n);
    few = λ name n. p.few name (flat-in (λ q. q) (map names_read all) (names_read part) name (map-in names_read all part c) n);
  }

  pub parts-more : (parts : List Expr) (i : ℕ) (part : Expr) → i < length parts → part ≡ slice_index_or parts i part → take (i + 1) parts ≡ take i parts ++ part ∷ []
  parts-more parts i part below is = take_more parts i part below ∙ ap (λ x. take i parts ++ x ∷ []) (sym is)

  pub parts-few : (parts : List Expr) (i : ℕ) (part : Expr) → lengths parts ≤ 128 → i < length parts → part ≡ slice_index_or parts i part → lengths (take i parts ++ part ∷ []) ≤ 128
  parts-few parts i part few below is =
      let front = take (i + 1) parts in
      let back = drop (i + 1) parts in
      let whole = ap lengths (take-append-drop (i + 1) parts) in
      let m = ap sum (map-append (own_length nets) front back) in
      let a = sum_by-append (λ x. x) (map (own_length nets) front) (map (own_length nets) back) in
      let e = ap lengths (parts-more parts i part below is) in
      omega (arith, whole, m, a, e, few)

  pub built-parts : (parts : List Expr) (before now : List Op) (slot length' width : ℕ) (signed : Bool)
      → Joined before now slot length' parts parts → 0 < length' → Here before now slot width signed (Concat parts)
  built-parts parts before now slot length' width signed j some =
      stays by_layer base scope slots before now slot width signed (Concat parts)
      (roll-Expr (Expr-F.Concat parts)) j.grows (rolls-Concat parts)
      (shows-concat by_layer base nets at now slot length' width signed parts (j.shows some))

  pub built-no-parts : (parts : List Expr) (before now after : List Op) (slot joined length' width : ℕ)
      (signed : Bool) → Joined before now joined length' parts parts → length' ≡ 0
      → Pushed base now after slot (Constant 0) → Here before after slot width signed (Concat parts)
  built-no-parts parts before now after slot joined length' width signed j none p =
      ends by_layer base scope slots before now after slot width signed (Concat parts) (roll-Expr (Expr-F.Concat parts)) (Constant 0) j.grows tt p (rolls-Concat parts)
      (shows-op by_layer base nets at now (Constant 0) width signed (Expr-F.Concat parts) (λ values s f. nothing (fold beside 0 (bits-of parts values)) (j.fits values s f)))
    where
      nothing : (n : ℕ) → n < 2 ^ length' → 0 ≡ n
      nothing n low = let e = ap (λ k. 2 ^ k) none in omega (arith, e, low)

  -- copies side by side
  abbrev pub one-bits : Expr → (ℕ → ℕ) → Bits
  one-bits part values = alone nets (operand_of nets (row_of at values) part)

  pub record Copied (before now : List Op) (slot length' count : ℕ) (part : Expr) : Type 0 where
    pub grows : Grows base before now
    pub long : length' ≡ count * own_length nets part
    pub shows : ShowsBeside by_layer base nets at now slot length' (λ values. replicate count (one-bits part values)) (names_read part)

  replicate-more : {X : Type 0} (n : ℕ) (x : X) → replicate n x ++ x ∷ [] ≡ replicate (n + 1) x
  replicate-more n x = front n ∙ ap (λ k. replicate k x) next where
    next : suc n ≡ n + 1
    next = omega arith

    front : (n : ℕ) → replicate n x ++ x ∷ [] ≡ replicate (suc n) x
    front zero = refl
    front (suc k) = ap (λ xs. x ∷ xs) (front k)

  pub copied-one : (before now : List Op) (s : ℕ) (part : Expr) (inner : Shape) → is_sound nets part ≡ true → inner.length ≡ own_length nets part → inner.signed ≡ is_signed nets part
      → Here before now s inner.length inner.signed part → Copied before now s inner.length 1 part
  copied-one before now s part inner ok l g b =
      let own = own_length nets part in
      let v = value by_layer base scope slots now s own (is_signed nets part) part ok (omega arith) (alone-of by_layer base scope slots now s part inner l g b.shows) in
      subst (λ n. Copied before now s n 1 part) (sym l)
      (record {
        grows = b.grows;
        long = omega arith;
        shows = subst (λ n. ShowsBeside by_layer base nets at now s n (λ values. replicate 1 (one-bits part values)) (names_read part)) (none-plus own)
            (shows-first by_layer base nets at now s 0 own (is_signed nets part) (λ _. []) (names_read part) part refl (λ values f. f) (λ values st f. omega arith) v);
      })
    where
      none-plus : (n : ℕ) → 0 + n ≡ n
      none-plus n = omega arith

  pub copied-more : (before now after : List Op) (slot slot' s length' count : ℕ) (part : Expr) (inner : Shape) → is_sound nets part ≡ true → (count + 1) * own_length nets part ≤ 128
      → inner.length ≡ own_length nets part → Value by_layer base nets at now s (own_length nets part) (is_signed nets part) part
      → Copied before now slot length' count part → IsBeside base now after slot' slot length' s inner.length → Copied before after slot' (length' + inner.length) (count + 1) part
  copied-more before now after slot slot' s length' count part inner ok few l v c (inl (none, place, ops)) =
      let own = own_length nets part in
      let more : length' + own ≡ (count + 1) * own = (let k = c.long in let m = one-more count own in omega (arith, k, m)) in
      subst (λ zs. Copied before zs slot' (length' + inner.length) (count + 1) part) (sym ops)
      (subst (λ k. Copied before now k (length' + inner.length) (count + 1) part) (sym place)
      (subst (λ n. Copied before now s (length' + n) (count + 1) part) (sym l)
      (record {
        grows = c.grows;
        long = more;
        shows = subst (λ bs. ShowsBeside by_layer base nets at now s (length' + own) bs (names_read part)) (λ i values. replicate-more count (one-bits part values) i)
            (shows-first by_layer base nets at now s length' own (is_signed nets part) (λ values. replicate count (one-bits part values)) (names_read part) part none (λ values f. f) c.shows.fits v);
      })))
    where
      one-more : (c w : ℕ) → c * w + w ≡ (c + 1) * w
      one-more c w = grind arith
  copied-more before now after slot slot' s length' count part inner ok few l v c (inr (some, p)) =
      let own = own_length nets part in
      let more : length' + own ≡ (count + 1) * own = (let k = c.long in let m = one-more count own in omega (arith, k, m)) in
      let room : length' + own ≤ 128 = omega (arith, more, few) in
      let low : own < 128 = omega (arith, room, some) in
      let p' : Pushed base now after slot' (Beside slot s own) = subst (λ n. Pushed base now after slot' (Beside slot s n)) l p in
      let both' = shows-beside by_layer base nets at now slot s length' own (is_signed nets part)
      (λ values. replicate count (one-bits part values)) (names_read part) part room
      (λ values f. f) c.shows v in
      subst (λ n. Copied before after slot' (length' + n) (count + 1) part) (sym l)
      (record {
        grows = grows-more base before now after c.grows (grows-push base now after slot' (Beside slot s own) (c.shows.below, v.here.below, low) p');
        long = more;
        shows = subst (λ bs. ShowsBeside by_layer base nets at after slot' (length' + own) bs (names_read part)) (λ i values. replicate-more count (one-bits part values) i)
            (subst (λ k. ShowsBeside by_layer base nets at after k (length' + own) (λ values. replicate count (one-bits part values) ++ one-bits part values ∷ []) (names_read part)) (sym p'.place)
            (subst (λ ops. ShowsBeside by_layer base nets at ops (base + length now) (length' + own)
            (λ values. replicate count (one-bits part values) ++ one-bits part values ∷ []) (names_read part))
            (sym p'.grown) both'));
      })
    where
      one-more : (c w : ℕ) → c * w + w ≡ (c + 1) * w
      one-more c w = grind arith

  -- copies of a bit at once
  pub copied-bit : (before mid after : List Op) (s slot count : ℕ) (part : Expr) (inner : Shape)
      → is_sound nets part ≡ true → inner.length ≡ own_length nets part → inner.signed ≡ is_signed nets part
      → inner.length ≡ 1 → 0 < count → count ≤ 128
      → Here before mid s inner.length inner.signed part → IsExtended base mid after slot s 1 count → Copied before after slot count count part
  copied-bit before mid after s slot count part inner ok l g one some most b (inl (same, place, ops)) =
      subst (λ zs. Copied before zs slot count count part) (sym ops)
      (subst (λ k. Copied before mid k count count part) (sym place)
      (subst (λ n. Copied before mid s n n part) same
      (subst (λ n. Copied before mid s n 1 part) one (copied-one before mid s part inner ok l g b))))
  copied-bit before mid after s slot count part inner ok l g one some most b (inr p) =
      let own = own_length nets part in
      let single : own ≡ 1 = sym l ∙ one in
      let v = value by_layer base scope slots mid s own (is_signed nets part) part ok (omega arith) (alone-of by_layer base scope slots mid s part inner l g b.shows) in
      record {
        grows = grows-more base before mid after b.grows (grows-push base mid after slot (One (Extended (2 ^ (1 - 1)) (2 ^ count - 2 ^ 1)) s) (v.here.below, tt) p);
        long = (let e = ap (λ n. count * n) single in omega (arith, e));
        shows = subst (λ k. ShowsBeside by_layer base nets at after k count (λ values. replicate count (one-bits part values)) (names_read part)) (sym p.place)
            (subst (λ ops. ShowsBeside by_layer base nets at ops (base + length mid) count (λ values. replicate count (one-bits part values)) (names_read part)) (sym p.grown)
            (shows-bit-copies by_layer base nets at mid s own count (is_signed nets part) part single some most v));
      }

  -- the operand of the copies, behind further operations
  pub value-at : (before mid now : List Op) (s : ℕ) (part : Expr) (inner : Shape) → is_sound nets part ≡ true → inner.length ≡ own_length nets part → inner.signed ≡ is_signed nets part
      → Here before mid s inner.length inner.signed part → Grows base mid now → Value by_layer base nets at now s (own_length nets part) (is_signed nets part) part
  value-at before mid now s part inner ok l g b later =
      value by_layer base scope slots now s (own_length nets part) (is_signed nets part) part ok (omega arith)
      (shows-later by_layer base scope slots mid now s (own_length nets part) (is_signed nets part) part later
      (alone-of by_layer base scope slots mid s part inner l g b.shows))

  pub beside-grows : (now after : List Op) (slot slot' s length' length'' : ℕ) → slot < base + length now
      → s < base + length now → length' + length'' ≤ 128 → IsBeside base now after slot' slot length' s length''
      → Grows base now after
  beside-grows now after slot slot' s length' length'' a b room (inl (none, place, ops)) = subst (λ zs. Grows base now zs) (sym ops) (grows-none base now)
  beside-grows now after slot slot' s length' length'' a b room (inr (some, p)) = grows-push base now after slot' (Beside slot s length'') (a, b, omega (arith, room, some)) p

  pub copies-few : (k n w : ℕ) → k < n → n * w ≤ 128 → (k + 1) * w ≤ 128
  copies-few k n w less few = let m : (k + 1) * w ≤ n * w = mul-le-mul_right w (omega arith) in omega (arith, m, few)

  pub one-copy : (k w : ℕ) → k * w + w ≡ (k + 1) * w
  one-copy k w = grind arith

  pub copied-room : (length' k count : ℕ) (part : Expr) → is_sound nets (Repeat count part) ≡ true → k < count → length' ≡ k * own_length nets part → length' + own_length nets part ≤ 128
  copied-room length' k count part ok less long =
      let few = copies-few k count (own_length nets part) less (sound-repeat nets count part ok).2 in
      let more = one-copy k (own_length nets part) in
      omega (arith, few, more, long)

  pub built-copies : (count : ℕ) (part : Expr) (before now : List Op) (slot length' width : ℕ) (signed : Bool)
      → Copied before now slot length' count part → Here before now slot width signed (Repeat count part)
  built-copies count part before now slot length' width signed c =
      stays by_layer base scope slots before now slot width signed (Repeat count part)
      (roll-Expr (Expr-F.Repeat count part)) c.grows (rolls-Repeat count part)
      (shows-repeat by_layer base nets at now slot length' width signed count part c.shows)

  -- a place that shows an expression in every context shows it in its own
  pub shows-alone-too : (before now : Additions) (e : Expr) (alone : Alone) → alone.shape.length ≡ own_length nets e → is_signed nets e ≡ false → own_length nets e ≤ 128 → alone.shape.signed ≡ false
      → ((context : Shape) → IfFine before now (Here before.code now.code alone.slot context.length context.signed e)) → BuiltAlone base scope slots before now alone e
  shows-alone-too before now e alone long plain few unsigned' built' = record {
    length = long;
    sign = unsigned' ∙ sym plain;
    few = omega (arith, long, few);
    built = built' alone.shape;
  }

  -- of all parts
  pub concat-alone : (before now : Additions) (parts : List Expr) (alone : Alone) → is_sound nets (Concat parts) ≡ true → alone.shape.length ≡ lengths parts → alone.shape.signed ≡ false
      → ((context : Shape) → IfFine before now (Here before.code now.code alone.slot context.length context.signed (Concat parts))) → BuiltAlone base scope slots before now alone (Concat parts)
  concat-alone before now parts alone ok long unsigned' built' =
      let l = length-concat nets parts in
      let few = (sound-concat nets parts ok).1 in
      shows-alone-too before now (Concat parts) alone (long ∙ sym l) (sign-concat nets parts) (omega (arith, l, few)) unsigned' built'
