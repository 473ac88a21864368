-- Operations without those that do what an earlier one does are the same operations.
use mathlib.Core.List.{map-map}
use Rattle.std.proofs.Common.{◌≡◌, ◌<◌, ◌≤◌, ◌+◌, ◌-◌, ⊎_elim, ℕ, List, [], ◌∷◌, ◌++◌, length, map, slice_index, slice_index_or, refl, sym, ap, ◌∙◌, arith}
use Rattle.std.proofs.lemmas.Bool.{cases_lt}
use Rattle.std.proofs.lemmas.List.{get_or_append_left, get_or_at, get_or_default, length-append}
use Rattle.vl_eval.specs.declared.arranging.Arranged.{Arranged}
use Rattle.vl_eval.specs.declared.ops.Op.{Op}
use Rattle.vl_eval.specs.declared.ops.Op.TheVariants.{Constant, One, Two, Beside, Choose, Next}
use Rattle.vl_eval.specs.inner.Merge.{AreMerged, IsMerged, IsPutOnce}
use Rattle.vl_eval.specs.inner.Ops.{IsOrdered, IsSettled, op_value, reads_below}
use Rattle.vl_eval.specs.inner.Order.{IsArranged, each_of, moved, moved_capture, renamed}
use Rattle.vl_eval.proofs.Builds.{ordered-more}
use Rattle.vl_eval.proofs.SortOrder.{each-one, moved-fixed, moved-op, reads-all, same-value, still-reads}

renamed-same : (f g : ℕ → ℕ) (op : Op) → each_of (λ r. f r ≡ g r) op → renamed f op ≡ renamed g op
renamed-same f g (Constant bits) same = refl
renamed-same f g (One of part) same = ap (One of) same
renamed-same f g (Two of left right) same = λ i. Two of (same.0 i) (same.1 i)
renamed-same f g (Beside left right places) same = λ i. Beside (same.0 i) (same.1 i) places
renamed-same f g (Choose test chosen other) same = λ i. Choose (same.0 i) (same.1 i) (same.2 i)
renamed-same f g (Next register) same = λ i.
    Next (record {
      reset = same.0 i;
      first = register.first;
      test = same.1 i;
      value = same.2 i;
      kept = same.3 i;
    })

-- an operation that was there
pub put-earlier : (base number : ℕ) (ops : List Op) (op : Op) → number < length ops → slice_index_or ops number (Constant 0) ≡ op → IsPutOnce base ops ops op (base + number)
put-earlier base number ops op low is = record {
  above = omega arith;
  below = omega (arith, low);
  is = (let back : base + number - base ≡ number = omega arith in ap (λ k. slice_index_or ops k (Constant 0)) back ∙ is);
  longer = omega arith;
  few = omega arith;
  kept = λ k d less. refl;
  ordered = λ reads o. o;
}

-- an operation that is put behind the others
pub put-last : (base number : ℕ) (ops : List Op) (op : Op) → number ≡ length ops → IsPutOnce base ops (ops ++ op ∷ []) op (base + number)
put-last base number ops op here =
    let long = length-append ops (op ∷ []) in
    record {
      above = omega arith;
      below = omega (arith, long, here);
      is = get_or_at ops op [] (Constant 0) (base + number - base) (omega (arith, here));
      longer = omega (arith, long);
      few = omega (arith, long);
      kept = λ k d less. get_or_append_left ops (op ∷ []) d k less;
      ordered = ordered-more base ops op;
    }

pub merged-none : (base : ℕ) (ops : List Op) → AreMerged base 0 ops [] []
merged-none base ops = record {
  long = refl;
  few = omega arith;
  ordered = record { at = λ k d low. absurd (omega (arith, low)) };
  each = λ k low. absurd (omega (arith, low));
}

-- where what an operation reads stands
reads-merged : (base count : ℕ) (ops merged : List Op) (places : List ℕ) → AreMerged base count ops merged places
    → (r : ℕ) → r < base + count → moved base places r < base + length merged
reads-merged base count ops merged places a r low = ⊎_elim
    (λ (fixed : r < base). let e = moved-fixed base places r fixed in omega (arith, e, fixed))
    (λ (high : base ≤ r).
    let e = moved-op base places r high in
    let b = (a.each (r - base) (omega (arith, low, high))).below in
    omega (arith, e, b))
    (cases_lt r base)

pub reads-once : (base count : ℕ) (ops merged : List Op) (places : List ℕ) → AreMerged base count ops merged places → IsOrdered base ops → count < length ops
    → reads_below (renamed (moved base places) (slice_index_or ops count (Constant 0))) (base + length merged)
reads-once base count ops merged places a ordered low =
    let op = slice_index_or ops count (Constant 0) in
    let reads = ordered.at count (Constant 0) low in
    still-reads (moved base places) op (base + count) (base + length merged) reads
    (each-one op (reads-merged base count ops merged places a) (reads-all op (base + count) reads))

-- one more place
moved-longer : (base place : ℕ) (places : List ℕ) (r : ℕ) → r < base + length places → moved base places r ≡ moved base (places ++ place ∷ []) r
moved-longer base place places r low = ⊎_elim
    (λ (fixed : r < base). moved-fixed base places r fixed ∙ sym (moved-fixed base (places ++ place ∷ []) r fixed))
    (λ (high : base ≤ r).
    moved-op base places r high ∙ sym (get_or_append_left places (place ∷ []) 0 (r - base) (omega (arith, low, high)))
    ∙ sym (moved-op base (places ++ place ∷ []) r high))
    (cases_lt r base)

renamed-longer : (base place end : ℕ) (places : List ℕ) (op : Op) → reads_below op end → end ≤ base + length places
    → renamed (moved base places) op ≡ renamed (moved base (places ++ place ∷ [])) op
renamed-longer base place end places op reads le =
    renamed-same (moved base places) (moved base (places ++ place ∷ [])) op
    (each-one op (λ r less. moved-longer base place places r (omega (arith, less, le))) (reads-all op end reads))

module _ (base count place : ℕ) (ops merged after : List Op) (places : List ℕ) (a : AreMerged base count ops merged places) (ordered : IsOrdered base ops) (low : count < length ops)
    (p : IsPutOnce base merged after (renamed (moved base places) (slice_index_or ops count (Constant 0))) place) where
  abbrev places' : List ℕ
  places' = places ++ place ∷ []

  old-merged : (k : ℕ) → k < count → IsMerged base ops after places' k
  old-merged k less =
      let m = a.each k less in
      let long = a.long in
      let more = p.longer in
      let same : slice_index places' k ≡ slice_index places k = get_or_append_left places (place ∷ []) 0 k (omega (arith, long, less)) in
      let above = m.above in
      let below = m.below in
      record {
        above = omega (arith, same, above);
        below = omega (arith, same, below, more);
        is = ap (λ n. slice_index_or after (n - base) (Constant 0)) same
            ∙ p.kept (slice_index places k - base) (Constant 0) (omega (arith, above, below)) ∙ m.is
            ∙ renamed-longer base place (base + k) places (slice_index_or ops k (Constant 0)) (ordered.at k (Constant 0) (omega (arith, less, low))) (omega (arith, long, less));
      }

  new-merged : (k : ℕ) → k ≡ count → IsMerged base ops after places' k
  new-merged k here =
      let long = a.long in
      let same : slice_index places' k ≡ place = get_or_at places place [] 0 k (omega (arith, long, here)) in
      let above = p.above in
      let below = p.below in
      record {
        above = omega (arith, same, above);
        below = omega (arith, same, below);
        is = ap (λ n. slice_index_or after (n - base) (Constant 0)) same ∙ p.is
            ∙ renamed-longer base place (base + count) places (slice_index_or ops count (Constant 0)) (ordered.at count (Constant 0) low) (omega (arith, long))
            ∙ ap (λ n. renamed (moved base places') (slice_index_or ops n (Constant 0))) (sym here);
      }

  pub merged-more : AreMerged base (count + 1) ops after places'
  merged-more = record {
    long = (let e = length-append places (place ∷ []) in let long = a.long in omega (arith, e, long));
    few = (let few = a.few in let one = p.few in omega (arith, few, one));
    ordered = p.ordered (reads-once base count ops merged places a ordered low) a.ordered;
    each = λ k less. ⊎_elim (old-merged k) (λ (last : count ≤ k). new-merged k (omega (arith, less, last))) (cases_lt k count);
  }

module _ (base : ℕ) (ops merged : List Op) (places : List ℕ) (a : AreMerged base (length ops) ops merged places) where
  pub merged-within : (k : ℕ) → base ≤ k → k < base + length ops → (base ≤ moved base places k) × (moved base places k < base + length merged)
  merged-within k high low =
      let e = moved-op base places k high in
      let m = a.each (k - base) (omega (arith, high, low)) in
      let above = m.above in
      let below = m.below in
      (omega (arith, e, above), omega (arith, e, below))

  pub merged-settled : (values : ℕ → ℕ) → IsSettled base merged values → IsSettled base ops (λ place. values (moved base places place))
  merged-settled values s = record { at = λ k d low. one k d low (a.each k low) } where
    one : (k : ℕ) (d : Op) → k < length ops → IsMerged base ops merged places k → values (moved base places (base + k)) ≡ op_value (slice_index_or ops k d) (λ place. values (moved base places place))
    one k d low m =
        let above = m.above in
        let below = m.below in
        let back : base + k - base ≡ k = omega arith in
        let to : moved base places (base + k) ≡ slice_index places k = moved-op base places (base + k) (omega arith) ∙ ap (slice_index places) back in
        let there : moved base places (base + k) ≡ base + (slice_index places k - base) = omega (arith, to, above) in
        ap values there ∙ s.at (slice_index places k - base) (Constant 0) (omega (arith, above, below))
        ∙ ap (λ o. op_value o values) (m.is ∙ ap (renamed (moved base places)) (get_or_default ops k (Constant 0) d low))
        ∙ same-value (moved base places) (slice_index_or ops k d) values

-- one rearrangement after another
pub arranged-through : (base : ℕ) (x y z : Arranged) → IsArranged base x y → IsArranged base y z → IsArranged base x z
arranged-through base x y z a b = record {
  move = λ k. b.move (a.move k);
  fixed = λ k low. ap b.move (a.fixed k low) ∙ b.fixed k low;
  within = λ k high low. let w = a.within k high low in b.within (a.move k) w.0 w.1;
  few = (let f = a.few in let g = b.few in omega (arith, f, g));
  ordered = b.ordered;
  settled = λ values s. a.settled (λ place. values (b.move place)) (b.settled values s);
  slots_are = b.slots_are ∙ ap (map b.move) a.slots_are ∙ map-map b.move a.move x.slots.items;
  captures_are = b.captures_are ∙ ap (map (moved_capture b.move)) a.captures_are ∙ map-map (moved_capture b.move) (moved_capture a.move) x.captures.items;
}
