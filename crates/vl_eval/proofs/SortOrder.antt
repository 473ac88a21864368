-- Operations that are sorted by level and then by kind are the same operations.
use Rattle.std.proofs.Common.{◌≡◌, ◌<◌, ◌≤◌, ◌+◌, ◌-◌, ◌*◌, ◌%◌, ◌^◌, ⊎_elim, ℕ, nat_lt, List, [], ◌∷◌, ◌++◌, length, map, set, slice_index, slice_index_or, refl, sym, ap, subst, ◌∙◌, arith}
use Rattle.std.specs.List.Sorted.{IsPermutation, IsNonDecreasing}
use Rattle.std.proofs.lemmas.Bool.{cases_eq, cases_lt, cond-false, cond-true, lt-ltb, le-ltb}
use Rattle.std.proofs.lemmas.List.{get_or-map, get_or_append_left, get_or_at, get_or_default, get_or-set_other, get_or-set_same, length-append, length-map, length-set}
use Rattle.std.proofs.lemmas.List.Sorted.{Contains-permutation, IsPermutation-sym, length_permutation}
use Rattle.std.proofs.Math.Nat.{mod-eq_of_lt, mul-add-mod_self_right, mul-le-mul_right}
use Rattle.vl_eval.specs.declared.ops.Op.{Op}
use Rattle.vl_eval.specs.declared.ops.Op.TheVariants.{Constant, One, Two, Beside, Choose, Next}
use Rattle.vl_eval.specs.inner.Order.{AreEntered, AreEntries, ArePlaces, IsAbove, IsEntry, each_of, moved, number_of, op_at, renamed}
use Rattle.vl_eval.specs.inner.Ops.{IsOrdered, IsSettled, op_value, reads_below}

pub reads-all : (op : Op) (end : ℕ) → reads_below op end → each_of (λ r. r < end) op
reads-all (Constant bits) end h = tt
reads-all (One op part) end h = h.0
reads-all (Beside left right places) end h = (h.0, h.1)
reads-all _ end h = h

pub still-reads : (f : ℕ → ℕ) (op : Op) (end end' : ℕ) → reads_below op end → each_of (λ r. f r < end') op → reads_below (renamed f op) end'
still-reads f (Constant bits) end end' h k = tt
still-reads f (One op part) end end' h k = (k, h.1)
still-reads f (Beside left right places) end end' h k = (k.0, k.1, h.2)
still-reads f _ end end' h k = k

pub same-value : (f : ℕ → ℕ) (op : Op) (values : ℕ → ℕ) → op_value (renamed f op) values ≡ op_value op (λ r. values (f r))
same-value f (Constant bits) values = refl
same-value f _ values = refl

pub each-both : {P Q R : ℕ → Type 0} (op : Op) → ((k : ℕ) → P k → Q k → R k) → each_of P op → each_of Q op → each_of R op
each-both (Constant bits) f p q = tt
each-both (One op a) f p q = f a p q
each-both (Two op a b) f p q = (f a p.0 q.0, f b p.1 q.1)
each-both (Beside a b places) f p q = (f a p.0 q.0, f b p.1 q.1)
each-both (Choose a b d) f p q = (f a p.0 q.0, f b p.1 q.1, f d p.2 q.2)
each-both (Next register) f p q = (f register.reset p.0 q.0, f register.test p.1 q.1, f register.value p.2 q.2, f register.kept p.3 q.3)

pub each-one : {P Q : ℕ → Type 0} (op : Op) → ((k : ℕ) → P k → Q k) → each_of P op → each_of Q op
each-one op f p = each-both op (λ k x y. f k x) p p

-- a higher level is above what a lower one is
pub still-above : (base : ℕ) (levels : List ℕ) (low high place : ℕ) → low ≤ high → IsAbove base levels low place → IsAbove base levels high place
still-above base levels low high place le a = λ j e. let r = a j e in (r.0, omega (arith, r.1, le))

later-above : (base : ℕ) (levels : List ℕ) (new level place : ℕ) → IsAbove base levels level place → IsAbove base (levels ++ new ∷ []) level place
later-above base levels new level place a = λ j e.
    let r = a j e in
    let l = length-append levels (new ∷ []) in
    let same = get_or_append_left levels (new ∷ []) 0 j r.0 in
    (omega (arith, r.0, l), omega (arith, r.1, same))

-- entries that are sorted are sorted by level
number-is : (level number entry : ℕ) → IsEntry level number entry → number < 2 ^ 29 → number_of entry ≡ number
number-is level number entry e few = ap (λ n. n % 2 ^ 29) e.is ∙ mul-add-mod_self_right (level * 32 + e.kind) (2 ^ 29) number ∙ mod-eq_of_lt few

in-order : (x y m n n' : ℕ) → n' < m → x * m + n ≤ y * m + n' → x ≤ y
in-order x y m n n' low le = ⊎_elim
    (λ (less : y < x).
    let p : (y + 1) * m ≤ x * m = mul-le-mul_right m (omega arith) in
    let q : (y + 1) * m ≡ y * m + m = one-more y m in
    absurd (omega (arith, p, q, low, le)))
    (λ (done : x ≤ y). done)
    (cases_lt y x)
  where
    one-more : (y m : ℕ) → (y + 1) * m ≡ y * m + m
    one-more y m = grind arith

levels-rise : (l l' n n' e e' : ℕ) → IsEntry l n e → IsEntry l' n' e' → n' < 2 ^ 29 → e ≤ e' → l ≤ l'
levels-rise l l' n n' e e' a b low le =
    let k : l * 32 + a.kind ≤ l' * 32 + b.kind =
    in-order (l * 32 + a.kind) (l' * 32 + b.kind) (2 ^ 29) n n' low
    (subst (λ x. x ≤ (l' * 32 + b.kind) * 2 ^ 29 + n') a.is (subst (λ x. e ≤ x) b.is le)) in
    let few = b.few in
    omega (arith, k, few)

pub moved-fixed : (base : ℕ) (places : List ℕ) (k : ℕ) → k < base → moved base places k ≡ k
moved-fixed base places k low = cond-true (nat_lt k base) k (slice_index places (k - base)) (lt-ltb k base low)

pub moved-op : (base : ℕ) (places : List ℕ) (k : ℕ) → base ≤ k → moved base places k ≡ slice_index places (k - base)
moved-op base places k high = cond-false (nat_lt k base) k (slice_index places (k - base)) (le-ltb k base high)

module _ (base : ℕ) (ops : List Op) (entries sorted places : List ℕ) (few : length ops ≤ 2 ^ 29) (ordered : IsOrdered base ops) (all : AreEntries base ops entries)
    (same : IsPermutation entries sorted) (rising : IsNonDecreasing sorted) where
  abbrev levels : List ℕ
  levels = all.levels

  abbrev number : ℕ → ℕ
  number i = number_of (slice_index sorted i)

  pub sorted-long : length sorted ≡ length ops
  sorted-long = length_permutation entries sorted same ∙ all.are.long

  record Numbered (i : ℕ) : Type 0 where
    low : number i < length ops
    entry : IsEntry (slice_index levels (number i)) (number i) (slice_index sorted i)

  numbered : (i : ℕ) → i < length sorted → Numbered i
  numbered i below =
      let c = Contains-permutation sorted entries (slice_index sorted i) (IsPermutation-sym entries sorted same) (i, below, get_or_default sorted i (slice_index sorted i) 0 below) in
      let long = all.are.long in
      let low : c.0 < length ops = omega (arith, c.1, long) in
      let is : slice_index entries c.0 ≡ slice_index sorted i = get_or_default entries c.0 0 (slice_index sorted i) c.1 ∙ c.2 in
      let e : IsEntry (slice_index levels c.0) c.0 (slice_index sorted i) = subst (λ x. IsEntry (slice_index levels c.0) c.0 x) is (all.are.each c.0 low) in
      let n : number i ≡ c.0 = number-is (slice_index levels c.0) c.0 (slice_index sorted i) e (omega (arith, low, few)) in
      record {
        low = omega (arith, n, low);
        entry = subst (λ k. IsEntry (slice_index levels k) k (slice_index sorted i)) (sym n) e;
      }

  pub numbers-low : (i : ℕ) → i < length sorted → number i < length ops
  numbers-low i below = (numbered i below).low

  record Found (k : ℕ) : Type 0 where
    i : ℕ
    below : i < length sorted
    is : number i ≡ k

  found : (k : ℕ) → k < length ops → Found k
  found k low =
      let long = all.are.long in
      let within : k < length entries = omega (arith, low, long) in
      let c = Contains-permutation entries sorted (slice_index entries k) same (k, within, get_or_default entries k (slice_index entries k) 0 within) in
      let is : slice_index sorted c.0 ≡ slice_index entries k = get_or_default sorted c.0 0 (slice_index entries k) c.1 ∙ c.2 in
      record { i = c.0; below = c.1; is = ap number_of is ∙ number-is (slice_index levels k) k (slice_index entries k) (all.are.each k low) (omega (arith, low, few)) }

  module _ (there : ArePlaces base sorted (length sorted) places) where
    abbrev move : ℕ → ℕ
    move = moved base places

    -- where an operation stands among the sorted
    record Spot (k : ℕ) : Type 0 where
      p : ℕ
      low : p < length sorted
      place : slice_index places k ≡ base + p
      is : number p ≡ k

    spot : (k : ℕ) → k < length ops → Spot k
    spot k low =
        let f = found k low in
        let a = there.at f.i f.below in
        record { p = a.0; low = a.1; place = ap (slice_index places) (sym f.is) ∙ a.2; is = a.3 ∙ f.is }

    -- of what an operation reads at a lower level, what stood at a place stands before it
    before : (i : ℕ) → i < length sorted → (r : ℕ) → r < base + number i → IsAbove base levels (slice_index levels (number i)) r → move r < base + i
    before i below r low above = ⊎_elim fixed later (cases_lt r base) where
      fixed : r < base → move r < base + i
      fixed less = let e = moved-fixed base places r less in omega (arith, e, less)

      later : base ≤ r → move r < base + i
      later high =
          let k = number i in
          let mine = numbered i below in
          let small = mine.low in
          let j = r - base in
          let jl : j < length ops = omega (arith, small, low, high) in
          let rise = (above j (omega (arith, high))).1 in
          let s = spot j jl in
          let e = moved-op base places r high in
          let place = s.place in
          ⊎_elim
          (λ (less : s.p < i). omega (arith, e, place, less))
          (λ (no' : i ≤ s.p).
          let le = rising i s.p 0 no' s.low in
          let other = subst (λ n. IsEntry (slice_index levels n) n (slice_index sorted s.p)) s.is (numbered s.p s.low).entry in
          let up = levels-rise (slice_index levels k) (slice_index levels j) k j (slice_index sorted i) (slice_index sorted s.p) mine.entry other (omega (arith, jl, few)) le in
          absurd (omega (arith, rise, up)))
          (cases_lt s.p i)

    abbrev arranged : List Op
    arranged = map (op_at base places ops) sorted

    pub arranged-long : length arranged ≡ length ops
    arranged-long = length-map sorted (op_at base places ops) ∙ sorted-long

    at-place : (i : ℕ) (d : Op) → i < length sorted → slice_index_or arranged i d ≡ renamed move (slice_index_or ops (number i) (Constant 0))
    at-place i d below = get_or-map (op_at base places ops) sorted i 0 d below

    pub arranged-ordered : IsOrdered base arranged
    arranged-ordered = record { at = λ i d low. one i d (let l = length-map sorted (op_at base places ops) in omega (arith, l, low)) } where
      one : (i : ℕ) (d : Op) → i < length sorted → reads_below (slice_index_or arranged i d) (base + i)
      one i d below =
          let k = number i in
          let mine = numbered i below in
          let op = slice_index_or ops k (Constant 0) in
          let reads : reads_below op (base + k) = ordered.at k (Constant 0) mine.low in
          let each = each-both op (before i below) (reads-all op (base + k) reads) (all.are.rises k (Constant 0) mine.low) in
          subst (λ o. reads_below o (base + i)) (sym (at-place i d below)) (still-reads move op (base + k) (base + i) reads each)

    pub arranged-settled : (values : ℕ → ℕ) → IsSettled base arranged values → IsSettled base ops (λ place. values (move place))
    arranged-settled values s = record { at = λ k d low. one k d low (spot k low) } where
      one : (k : ℕ) (d : Op) → k < length ops → Spot k → values (move (base + k)) ≡ op_value (slice_index_or ops k d) (λ place. values (move place))
      one k d low here =
          let long = length-map sorted (op_at base places ops) in
          let within : here.p < length arranged = (let b = here.low in omega (arith, long, b)) in
          let back : base + k - base ≡ k = omega arith in
          let to : move (base + k) ≡ base + here.p = moved-op base places (base + k) (omega arith) ∙ ap (slice_index places) back ∙ here.place in
          ap values to ∙ s.at here.p (Constant 0) within
          ∙ ap (λ o. op_value o values) (at-place here.p (Constant 0) here.low
          ∙ ap (λ n. renamed move (slice_index_or ops n (Constant 0))) here.is
          ∙ ap (renamed move) (get_or_default ops k (Constant 0) d low))
          ∙ same-value move (slice_index_or ops k d) values

    pub moved-within : (k : ℕ) → base ≤ k → k < base + length ops → (base ≤ move k) × (move k < base + length arranged)
    moved-within k high low =
        let s = spot (k - base) (omega (arith, high, low)) in
        let e = moved-op base places k high in
        let place = s.place in let b = s.low in let l = length-map sorted (op_at base places ops) in
        (omega (arith, e, place), omega (arith, e, place, b, l))

-- one more operation
pub entered-none : (base : ℕ) → AreEntered base [] [] []
entered-none base = record {
  levels_long = refl;
  long = refl;
  low = record { at = λ k low. absurd (omega (arith, low)) };
  each = λ k low. absurd (omega (arith, low));
  rises = λ k d low. absurd (omega (arith, low));
}

module _ (base : ℕ) (ops : List Op) (op : Op) (levels entries : List ℕ) (level kind entry : ℕ) (few : kind < 32)
    (is : entry ≡ (level * 32 + kind) * 2 ^ 29 + length ops) (small : level ≤ length levels)
    (above : each_of (IsAbove base levels level) op) (a : AreEntered base ops levels entries) where
  abbrev ops' : List Op
  ops' = ops ++ op ∷ []

  abbrev levels' : List ℕ
  levels' = levels ++ level ∷ []

  abbrev entries' : List ℕ
  entries' = entries ++ entry ∷ []

  last : (k : ℕ) → k < length ops' → length ops ≤ k → k ≡ length ops
  last k low new = let o = length-append ops (op ∷ []) in omega (arith, o, low, new)

  level-old : (k : ℕ) → k < length ops → slice_index levels' k ≡ slice_index levels k
  level-old k old = let e = a.levels_long in get_or_append_left levels (level ∷ []) 0 k (omega (arith, e, old))

  level-new : (k : ℕ) → k ≡ length ops → slice_index levels' k ≡ level
  level-new k here = let e = a.levels_long in get_or_at levels level [] 0 k (omega (arith, e, here))

  old-entry : (k : ℕ) → k < length ops → IsEntry (slice_index levels' k) k (slice_index entries' k)
  old-entry k old =
      let l = a.long in
      subst (λ n. IsEntry n k (slice_index entries' k)) (sym (level-old k old))
      (subst (λ n. IsEntry (slice_index levels k) k n) (sym (get_or_append_left entries (entry ∷ []) 0 k (omega (arith, l, old)))) (a.each k old))

  new-entry : (k : ℕ) → k < length ops' → length ops ≤ k → IsEntry (slice_index levels' k) k (slice_index entries' k)
  new-entry k low new =
      let l = a.long in
      let here = last k low new in
      record {
        kind = kind;
        few = few;
        is = get_or_at entries entry [] 0 k (omega (arith, l, here)) ∙ is ∙ (λ i. (sym (level-new k here) i * 32 + kind) * 2 ^ 29 + sym here i);
      }

  old-rise : (k : ℕ) (d : Op) → k < length ops → each_of (IsAbove base levels' (slice_index levels' k)) (slice_index_or ops' k d)
  old-rise k d old =
      subst (λ o. each_of (IsAbove base levels' (slice_index levels' k)) o) (sym (get_or_append_left ops (op ∷ []) d k old))
      (subst (λ n. each_of (IsAbove base levels' n) (slice_index_or ops k d)) (sym (level-old k old))
      (each-one (slice_index_or ops k d) (λ r x. later-above base levels level (slice_index levels k) r x) (a.rises k d old)))

  new-rise : (k : ℕ) (d : Op) → k < length ops' → length ops ≤ k → each_of (IsAbove base levels' (slice_index levels' k)) (slice_index_or ops' k d)
  new-rise k d low new =
      let here = last k low new in
      subst (λ o. each_of (IsAbove base levels' (slice_index levels' k)) o) (sym (get_or_at ops op [] d k (sym here)))
      (subst (λ n. each_of (IsAbove base levels' n) op) (sym (level-new k here))
      (each-one op (λ r x. later-above base levels level level r x) above))

  pub entered-more : AreEntered base ops' levels' entries'
  entered-more = record {
    levels_long = (let l = length-append levels (level ∷ []) in let o = length-append ops (op ∷ []) in let e = a.levels_long in omega (arith, l, o, e));
    long = (let l = length-append entries (entry ∷ []) in let o = length-append ops (op ∷ []) in let e = a.long in omega (arith, l, o, e));
    low = record {
      at = λ k low. ⊎_elim
          (λ (old : k < length levels). let e = get_or_append_left levels (level ∷ []) 0 k old in let b = a.low.at k old in omega (arith, e, b))
          (λ (new : length levels ≤ k). let l = length-append levels (level ∷ []) in
          let here : k ≡ length levels = omega (arith, l, low, new) in let e = get_or_at levels level [] 0 k (sym here) in omega (arith, e, here, small))
          (cases_lt k (length levels));
    };
    each = λ k low. ⊎_elim (old-entry k) (new-entry k low) (cases_lt k (length ops));
    rises = λ k d low. ⊎_elim (old-rise k d) (new-rise k d low) (cases_lt k (length ops));
  }

-- what an operation reads has its level
pub reads-levelled : (base : ℕ) (ops : List Op) (levels : List ℕ) (k : ℕ) (op : Op) → IsOrdered base ops
    → k < length ops → length levels ≡ k → op ≡ slice_index_or ops k op
    → each_of (λ place. place < base + length levels) op
reads-levelled base ops levels k op o low long is =
    each-one op (λ r less. omega (arith, less, long)) (reads-all op (base + k) (subst (λ x. reads_below x (base + k)) (sym is) (o.at k op low)))

-- one more entry at its place
pub places-none : (base : ℕ) (entries places : List ℕ) → length places ≡ length entries → ArePlaces base entries 0 places
places-none base entries places long = record { long = long; at = λ i less. absurd (omega (arith, less)) }

module _ (base : ℕ) (entries : List ℕ) (n : ℕ) (places : List ℕ) (low : number_of (slice_index entries n) < length entries) (a : ArePlaces base entries n places) where
  abbrev v : ℕ
  v = number_of (slice_index entries n)

  abbrev places' : List ℕ
  places' = set places v (base + n)

  pub places-more : ArePlaces base entries (n + 1) places'
  places-more = record { long = length-set places v (base + n) ∙ a.long; at = λ i less. ⊎_elim (here i) (there i less) (cases_eq (number_of (slice_index entries i)) v) } where
    here : (i : ℕ) → number_of (slice_index entries i) ≡ v
        → (p : ℕ) × (p < n + 1) × (slice_index places' (number_of (slice_index entries i)) ≡ base + p) × (number_of (slice_index entries p) ≡ number_of (slice_index entries i))
    here i same = let l = a.long in (n, omega arith, ap (slice_index places') same ∙ get_or-set_same places v (base + n) 0 (omega (arith, l, low)), sym same)

    there : (i : ℕ) → i < n + 1 → (number_of (slice_index entries i) ≡ v → ⊥)
        → (p : ℕ) × (p < n + 1) × (slice_index places' (number_of (slice_index entries i)) ≡ base + p) × (number_of (slice_index entries p) ≡ number_of (slice_index entries i))
    there i less other = ⊎_elim
        (λ (old : i < n). let r = a.at i old in (r.0, (let b = r.1 in omega (arith, b)), get_or-set_other places v (number_of (slice_index entries i)) (base + n) 0 other ∙ r.2, r.3))
        (λ (new : n ≤ i). let same : i ≡ n = omega (arith, less, new) in absurd (other (ap (λ k. number_of (slice_index entries k)) same)))
        (cases_lt i n)

pub map-same : {X : Type 0} (f : X → X) (xs : List X) → ((x : X) → f x ≡ x) → xs ≡ map f xs
map-same f [] same = refl
map-same f (x ∷ xs) same = λ i. sym (same x) i ∷ map-same f xs same i
