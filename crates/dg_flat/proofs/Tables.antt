-- What a table by place keeps as it is written and as it grows.
use Rattle.std.proofs.Common.{◌≡◌, ℕ, ◌<◌, ◌+◌, List, [], ◌∷◌, ◌++◌, set, get_or, replicate, sym, ap, subst, ◌∙◌, inl, inr, arith}
use Rattle.std.proofs.lemmas.Bool.{cases_eq}
use Rattle.std.proofs.lemmas.List.{length-replicate, get_or-replicate, length-set, get_or-set_same, get_or-set_other, get_or_append_left, get_or_push, length_push}
use Rattle.dg_flat.specs.inner.Tables.{IsTable}

-- a table of one value
pub table_filled : {X : Type 0} (count n : ℕ) (value : ℕ → X) (x : X) → n ≡ count → ((k : ℕ) → x ≡ value k) → IsTable count value (replicate n x)
table_filled count n value x all same = record {
  size = length-replicate n x ∙ all;
  at = λ k d below. get_or-replicate n k x d (omega (arith, below, all)) ∙ same k;
}

pub table_same : {X : Type 0} (count : ℕ) (value other : ℕ → X) (table : List X) → ((k : ℕ) → k < count → value k ≡ other k) → IsTable count value table → IsTable count other table
table_same count value other table same is = record {
  size = is.size;
  at = λ k d below. is.at k d below ∙ same k below;
}

pub table_set : {X : Type 0} (count : ℕ) (value other : ℕ → X) (table : List X) (place : ℕ) (x : X) → place < count → x ≡ other place →
    ((k : ℕ) → k < count → (k ≡ place → ⊥) → value k ≡ other k) → IsTable count value table → IsTable count other (set table place x)
table_set {X} count value other table place x below here apart is = record {
  size = length-set table place x ∙ is.size;
  at = λ k d inside.
      elim (cases_eq k place) [
        | inl e ↦
            let same : get_or (set table place x) place d ≡ other place = get_or-set_same table place x d (omega (arith, is.size)) ∙ here in
            subst (λ (j : ℕ). get_or (set table place x) j d ≡ other j) (sym e) same
        | inr n ↦ get_or-set_other table place k x d n ∙ is.at k d inside ∙ apart k inside n
      ];
}

pub table_push : {X : Type 0} (count : ℕ) (value : ℕ → X) (table : List X) (x : X) → x ≡ value count → IsTable count value table → IsTable (count + 1) value (table ++ x ∷ [])
table_push {X} count value table x here is = record {
  size = length_push table x ∙ ap (λ n. n + 1) is.size;
  at = λ k d inside.
      elim (cases_eq k count) [
        | inl e ↦
            let same : get_or (table ++ x ∷ []) count d ≡ value count = get_or_push table x d count is.size ∙ here in
            subst (λ (j : ℕ). get_or (table ++ x ∷ []) j d ≡ value j) (sym e) same
        | inr n ↦ get_or_append_left table (x ∷ []) d k (omega (arith, is.size, n)) ∙ is.at k d (omega (arith, n))
      ];
}
