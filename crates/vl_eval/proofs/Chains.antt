-- Chains of links that tell which operations read a place.
use Rattle.std.proofs.Common.{◌≡◌, ◌<◌, ◌≤◌, ◌+◌, inl, inr, ◌⊎◌, ⊎_elim, ℕ, List, [], ◌∷◌, ◌++◌, length, set, slice_index, refl, sym, ap, subst, ◌∙◌, arith}
use Rattle.std.proofs.lemmas.Bool.{cases_eq, cases_lt}
use Rattle.std.proofs.lemmas.List.{get_or-set_other, get_or-set_same, get_or_append_left, get_or_at, length-append, length-set}
use Rattle.vl_eval.specs.declared.readers.Link.{Link}
use Rattle.vl_eval.specs.declared.readers.Readers.{Readers}
use Rattle.vl_eval.specs.inner.Reading.{IsChained, IsChained.Here, IsChained.Behind, IsGrownBy, IsReader, link_at}

-- what a chain begins with
pub record Begins (links : List Link) (reader at : ℕ) : Type 0 where
  pub i : ℕ
  pub is : at ≡ i + 1
  pub low : i < length links
  pub either : ((link_at links i).reader ≡ reader) ⊎ IsChained links reader (link_at links i).rest

pub begins : (links : List Link) (reader at : ℕ) → IsChained links reader at → Begins links reader at
begins links reader _ (Here i low this) = record { i = i; is = refl; low = low; either = inl this }
begins links reader _ (Behind i low rest) = record { i = i; is = refl; low = low; either = inr rest }

link-old : (links : List Link) (link : Link) (i : ℕ) → i < length links → link_at (links ++ link ∷ []) i ≡ link_at links i
link-old links link i low = get_or_append_left links (link ∷ []) (record { reader = 0; rest = 0 }) i low

link-new : (links : List Link) (link : Link) (i : ℕ) → length links ≡ i → link_at (links ++ link ∷ []) i ≡ link
link-new links link i is = get_or_at links link [] (record { reader = 0; rest = 0 }) i is

chained-longer : (links : List Link) (link : Link) (reader at : ℕ) → IsChained links reader at → IsChained (links ++ link ∷ []) reader at
chained-longer links link reader _ (Here i low this) =
    let long = length-append links (link ∷ []) in
    Here i (omega (arith, long, low)) (ap (λ (l : Link). l.reader) (link-old links link i low) ∙ this)
chained-longer links link reader _ (Behind i low rest) =
    let long = length-append links (link ∷ []) in
    Behind i (omega (arith, long, low))
    (subst (λ (l : Link). IsChained (links ++ link ∷ []) reader l.rest) (sym (link-old links link i low)) (chained-longer links link reader (link_at links i).rest rest))

module _ (heads : List ℕ) (links : List Link) (place reader value : ℕ) (within : place < length heads) (is : value ≡ length links + 1) where
  abbrev link : Link
  link = record { reader = reader; rest = slice_index heads place }

  abbrev links' : List Link
  links' = links ++ link ∷ []

  abbrev heads' : List ℕ
  heads' = set heads place value

  long : length links' ≡ length links + 1
  long = length-append links (link ∷ [])

  last : length links < length links'
  last = omega (arith, long)

  head-new : (p : ℕ) → p ≡ place → slice_index heads' p ≡ length links + 1
  head-new p same = ap (slice_index heads') same ∙ get_or-set_same heads place value 0 within ∙ is

  head-old : (p : ℕ) → (p ≡ place → ⊥) → slice_index heads' p ≡ slice_index heads p
  head-old p other = get_or-set_other heads place p value 0 other

  kept-chain : (p k : ℕ) → IsChained links k (slice_index heads p) → IsChained links' k (slice_index heads' p)
  kept-chain p k chain = ⊎_elim
      (λ (same : p ≡ place).
      subst (λ n. IsChained links' k n) (sym (head-new p same))
      (Behind (length links) last
      (subst (λ (l : Link). IsChained links' k l.rest) (sym (link-new links link (length links) refl))
      (subst (λ n. IsChained links' k (slice_index heads n)) same (chained-longer links link k (slice_index heads p) chain)))))
      (λ (other : p ≡ place → ⊥).
      subst (λ n. IsChained links' k n) (sym (head-old p other)) (chained-longer links link k (slice_index heads p) chain))
      (cases_eq p place)

  new-chain : IsChained links' reader (slice_index heads' place)
  new-chain =
      subst (λ n. IsChained links' reader n) (sym (head-new place refl))
      (Here (length links) last (ap (λ (l : Link). l.reader) (link-new links link (length links) refl)))

  module _ (count : ℕ) (low : reader < count) (heads-low : (p : ℕ) → slice_index heads p ≤ length links) (rests : (i : ℕ) → i < length links → (link_at links i).rest ≤ i)
      (readers-low : (i : ℕ) → i < length links → (link_at links i).reader < count) where
    head-low : (p : ℕ) → slice_index heads' p ≤ length links'
    head-low p = ⊎_elim
        (λ (same : p ≡ place). let e = head-new p same in omega (arith, e, long))
        (λ (other : p ≡ place → ⊥). let e = head-old p other in let b = heads-low p in omega (arith, e, b, long))
        (cases_eq p place)

    rest-low : (i : ℕ) → i < length links' → (link_at links' i).rest ≤ i
    rest-low i less = ⊎_elim
        (λ (old : i < length links). subst (λ (l : Link). l.rest ≤ i) (sym (link-old links link i old)) (rests i old))
        (λ (new : length links ≤ i).
        let here : length links ≡ i = omega (arith, less, long, new) in
        subst (λ (l : Link). l.rest ≤ i) (sym (link-new links link i here)) (subst (λ n. slice_index heads place ≤ n) here (heads-low place)))
        (cases_lt i (length links))

    reader-low : (i : ℕ) → i < length links' → (link_at links' i).reader < count
    reader-low i less = ⊎_elim
        (λ (old : i < length links). subst (λ (l : Link). l.reader < count) (sym (link-old links link i old)) (readers-low i old))
        (λ (new : length links ≤ i).
        let here : length links ≡ i = omega (arith, less, long, new) in
        subst (λ (l : Link). l.reader < count) (sym (link-new links link i here)) low)
        (cases_lt i (length links))

-- a reader is put before the chain of its place
module _ (before after : Readers) (place reader value : ℕ) (within : place < length before.heads.items) (is : value ≡ length before.links.items + 1)
    (links : after.links.items ≡ before.links.items ++ record { reader = reader; rest = slice_index before.heads.items place } ∷ [])
    (heads : after.heads.items ≡ set before.heads.items place value) where
  abbrev heads-after : List ℕ
  heads-after = set before.heads.items place value

  abbrev links-after : List Link
  links-after = before.links.items ++ record { reader = reader; rest = slice_index before.heads.items place } ∷ []

  pub put-reads : IsReader after place reader
  put-reads =
      subst (λ (ls : List Link). IsChained ls reader (slice_index after.heads.items place)) (sym links)
      (subst (λ (hs : List ℕ). IsChained links-after reader (slice_index hs place)) (sym heads)
      (new-chain before.heads.items before.links.items place reader value within is))

  pub put-grown : IsGrownBy 1 reader before after
  put-grown = record {
    grown = record {
      longer = (let l = ap (λ (ls : List Link). length ls) links in let a = long before.heads.items before.links.items place reader value within is in omega (arith, l, a));
      wide = ap (λ (hs : List ℕ). length hs) heads ∙ length-set before.heads.items place value;
      kept = λ p k chain.
          subst (λ (ls : List Link). IsChained ls k (slice_index after.heads.items p)) (sym links)
          (subst (λ (hs : List ℕ). IsChained links-after k (slice_index hs p)) (sym heads)
          (kept-chain before.heads.items before.links.items place reader value within is p k chain));
    };
    chains = λ count low c. record {
      heads = λ p.
          subst (λ (ls : List Link). slice_index after.heads.items p ≤ length ls) (sym links)
          (subst (λ (hs : List ℕ). slice_index hs p ≤ length links-after) (sym heads)
          (head-low before.heads.items before.links.items place reader value within is count low c.heads c.rests c.low p));
      rests =
          subst (λ (ls : List Link). (i : ℕ) → i < length ls → (link_at ls i).rest ≤ i) (sym links)
          (rest-low before.heads.items before.links.items place reader value within is count low c.heads c.rests c.low);
      low =
          subst (λ (ls : List Link). (i : ℕ) → i < length ls → (link_at ls i).reader < count) (sym links)
          (reader-low before.heads.items before.links.items place reader value within is count low c.heads c.rests c.low);
    };
  }
