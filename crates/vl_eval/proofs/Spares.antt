-- Operations that read nothing that changed keep their values.
use Rattle.std.proofs.Common.{◌≡◌, ◌<◌, ◌≤◌, ◌+◌, ◌/◌, inl, inr, ◌⊎◌, ⊎_elim, ℕ, false, List, length, set, slice_index, slice_index_or, refl, sym, ap, subst, ◌∙◌, arith}
use Rattle.std.proofs.lemmas.Bool.{cases_eq}
use Rattle.std.proofs.lemmas.List.{get_or-set_other, get_or-set_same, get_or_default}
use Rattle.vl_eval.specs.declared.marks.Marks.{Marks}
use Rattle.vl_eval.specs.declared.ops.Op.{Op}
use Rattle.vl_eval.specs.declared.ops.Op.TheVariants.{Constant, One, Two, Beside, Choose, Next}
use Rattle.vl_eval.specs.declared.readers.Readers.{Readers}
use Rattle.vl_eval.specs.inner.Order.{each_of}
use Rattle.vl_eval.specs.inner.Ops.{IsOrdered, one_value, op_value, two_value}
use Rattle.vl_eval.specs.inner.Reading.{AreAdded, AreReaders, AreSpared, IsReader, IsUnmarked}
use Rattle.vl_eval.proofs.SortOrder.{each-one, reads-all}

-- an operation's value hangs on the places that it reads
agrees-where : (op : Op) (f g : ℕ → ℕ) → each_of (λ r. f r ≡ g r) op → op_value op f ≡ op_value op g
agrees-where (Constant bits) f g same = refl
agrees-where (One op part) f g same = ap (one_value op) same
agrees-where (Two op left right) f g same = λ i. two_value op (same.0 i) (same.1 i)
agrees-where (Beside left right places) f g same = rw (same.0, same.1) refl
agrees-where (Choose test chosen other) f g same = rw (same.0, same.1, same.2) refl
agrees-where (Next register) f g same = rw (same.0, same.1, same.2, same.3) refl

-- a place that isn't written, or written with what stands there
same-at : (values : List ℕ) (place value r : ℕ) → place < length values → (r ≡ place → slice_index values place ≡ value) → slice_index values r ≡ slice_index (set values place value) r
same-at values place value r within same = ⊎_elim
    (λ (here : r ≡ place).
    ap (slice_index values) here ∙ same here ∙ sym (get_or-set_same values place value 0 within) ∙ ap (slice_index (set values place value)) (sym here))
    (λ (other : r ≡ place → ⊥). sym (get_or-set_other values place r value 0 other))
    (cases_eq r place)

module _ (base : ℕ) (ops : List Op) (values : List ℕ) (place value : ℕ) (within : place < length values) where
  abbrev values' : List ℕ
  values' = set values place value

  -- an operation that reads none of what changed
  kept-one : (k : ℕ) (d : Op) → (base + k ≡ place → ⊥) → each_of (λ r. r ≡ place → slice_index values place ≡ value) (slice_index_or ops k d)
      → slice_index values (base + k) ≡ op_value (slice_index_or ops k d) (λ i. slice_index values i)
      → slice_index values' (base + k) ≡ op_value (slice_index_or ops k d) (λ i. slice_index values' i)
  kept-one k d apart reads is =
      get_or-set_other values place (base + k) value 0 apart ∙ is
      ∙ agrees-where (slice_index_or ops k d) (λ i. slice_index values i) (λ i. slice_index values' i)
      (each-one (slice_index_or ops k d) (λ r same. same-at values place value r within same) reads)

  -- a place before the operations is written
  pub spared-write : (marks marks' : Marks) (readers : Readers) → place < base → AreReaders base (length ops) ops readers → AreAdded marks marks'
      → ((k : ℕ) → IsReader readers place k → IsUnmarked marks' k → slice_index values place ≡ value)
      → AreSpared base 0 ops marks values → AreSpared base 0 ops marks' values'
  spared-write marks marks' readers low all added told s = record {
    at = λ k d less either. ⊎_elim
        (λ (none : k < 0). absurd (omega (arith, none)))
        (λ (un : IsUnmarked marks' k).
        kept-one k d (λ same. omega (arith, same, low))
        (each-one (slice_index_or ops k d) (λ r reader same. told k (subst (λ p. IsReader readers p k) same reader) un) (all.each k d less))
        (s.at k d less (inr (added.kept k un))))
        either;
  }

module _ (base number : ℕ) (ops : List Op) (values : List ℕ) (value : ℕ) (low : number < length ops) (room : length values ≡ base + length ops) (ordered : IsOrdered base ops)
    (is : value ≡ op_value (slice_index_or ops number (Constant 0)) (λ i. slice_index values i)) where
  abbrev new-values : List ℕ
  new-values = set values (base + number) value

  within : base + number < length values
  within = omega (arith, low, room)

  -- what stands before is read as it was
  before-same : (k : ℕ) → k ≤ number → (r : ℕ) → r < base + k → r ≡ base + number → slice_index values (base + number) ≡ value
  before-same k le r less same = absurd (omega (arith, le, less, same))

  renewed : (k : ℕ) (d : Op) → k ≡ number → slice_index new-values (base + k) ≡ op_value (slice_index_or ops k d) (λ i. slice_index new-values i)
  renewed k d here =
      ap (λ n. slice_index new-values (base + n)) here ∙ get_or-set_same values (base + number) value 0 within ∙ is
      ∙ ap (λ o. op_value o (λ i. slice_index values i)) (get_or_default ops number (Constant 0) d low ∙ ap (λ n. slice_index_or ops n d) (sym here))
      ∙ agrees-where (slice_index_or ops k d) (λ i. slice_index values i) (λ i. slice_index new-values i)
      (each-one (slice_index_or ops k d)
      (λ r less. same-at values (base + number) value r within (before-same k (omega (arith, here)) r less))
      (reads-all (slice_index_or ops k d) (base + k) (ordered.at k d (omega (arith, here, low)))))

  -- the operation of a number has its value, and its readers are marked where that is another
  pub spared-renew : (marks marks' marks'' : Marks) (readers : Readers) → AreReaders base (length ops) ops readers → marks'.each.items ≡ set marks.each.items number false
      → marks'.blocks.items ≡ marks.blocks.items → AreAdded marks' marks''
      → ((k : ℕ) → IsReader readers (base + number) k → IsUnmarked marks'' k → slice_index values (base + number) ≡ value)
      → AreSpared base number ops marks values → AreSpared base (number + 1) ops marks'' new-values
  spared-renew marks marks' marks'' readers all each blocks added told s = record { at = λ k d less either. ⊎_elim (renewed k d) (other k d less either) (cases_eq k number) } where
    unmarked : (k : ℕ) → (k ≡ number → ⊥) → IsUnmarked marks' k → IsUnmarked marks k
    unmarked k apart (inl clear) = inl (sym (get_or-set_other marks.each.items number k false false apart) ∙ ap (λ es. slice_index_or es k false) (sym each) ∙ clear)
    unmarked k apart (inr clear) = inr (ap (λ bs. slice_index_or bs (k / 64) false) (sym blocks) ∙ clear)

    other : (k : ℕ) (d : Op) → k < length ops → (k < number + 1) ⊎ IsUnmarked marks'' k → (k ≡ number → ⊥)
        → slice_index new-values (base + k) ≡ op_value (slice_index_or ops k d) (λ i. slice_index new-values i)
    other k d less (inl done) apart =
        let before : k < number = omega (arith, done, apart) in
        kept-one base ops values (base + number) value within k d (λ same. omega (arith, same, before))
        (each-one (slice_index_or ops k d) (before-same k (omega (arith, before))) (reads-all (slice_index_or ops k d) (base + k) (ordered.at k d less)))
        (s.at k d less (inl before))
    other k d less (inr un) apart =
        kept-one base ops values (base + number) value within k d (λ same. apart (omega (arith, same)))
        (each-one (slice_index_or ops k d) (λ r reader same. told k (subst (λ p. IsReader readers p k) same reader) un) (all.each k d less))
        (s.at k d less (inr (unmarked k apart (added.kept k un))))
