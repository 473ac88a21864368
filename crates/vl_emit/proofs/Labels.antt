-- For each net the place of its label.
use Rattle.std.proofs.Common.{◌≡◌, ℕ, zero, suc, ◌+◌, ◌<◌, ◌==◌, Bool, true, false, if◌then◌else◌, List, ◌∷◌, length, get_or, replicate, set, drop, Option, None, Some, refl, ap, sym, ◌∙◌, arith}
use Rattle.std.proofs.Common.{add-one}
use Rattle.std.proofs.lemmas.List.{drop_all, length-replicate, length-set, get_or-set_same, get_or-set_other}
use Rattle.std.proofs.Math.Seq.{drop-cons}
use Rattle.std.proofs.lemmas.Bool.{eqb-true, eqb-false}
use Rattle.hw_net.specs.declared.netlist.NetLabel.{NetLabel}
use Rattle.vl_emit.specs.Names.{name_by}
use Rattle.vl_emit.specs.inner.Ready.{label_at, label_text, IsIndexFrom}

same-there : {X : Type 0} (x : X) (count k : ℕ) → get_or (replicate count x) k x ≡ x
same-there x zero zero = refl
same-there x zero (suc k) = refl
same-there x (suc count) zero = refl
same-there x (suc count) (suc k) = same-there x count k

pub index-start : (labels : List NetLabel) (count : ℕ) (places : List (Option ℕ)) → places ≡ replicate count None → IsIndexFrom labels (drop (length labels) labels) count places
index-start labels count places is = record {
  size = ap (λ (os : List (Option ℕ)). length os) is ∙ length-replicate count None;
  there = λ k i f. (let g : None ≡ Some i = sym (none k) ∙ f in absurd (cc g));
  names = λ k h. ap (λ (o : Option ℕ). label_text labels o k) (none k) ∙ ap (λ (others : List NetLabel). name_by others k) (sym (drop_all (length labels) labels (omega arith)));
} where
  none : (k : ℕ) → get_or places k None ≡ None
  none k = ap (λ (os : List (Option ℕ)). get_or os k None) is ∙ same-there None count k

module _ (labels : List NetLabel) (n count : ℕ) (places : List (Option ℕ)) (h : n < length labels) (within : (label_at labels n).net < count)
    (is : IsIndexFrom labels (drop (n + 1) labels) count places) where
  abbrev at : ℕ
  at = (label_at labels n).net

  abbrev after : List (Option ℕ)
  after = set places at (Some n)

  room : (label_at labels n).net < length places
  room = omega (arith, within, is.size)

  cut : drop n labels ≡ label_at labels n ∷ drop (n + 1) labels
  cut = drop-cons labels n _ h ∙ ap (λ (i : ℕ). label_at labels n ∷ drop i labels) (sym (add-one n))

  got : (k : ℕ) → (label_at labels n).net ≡ k → get_or (set places (label_at labels n).net (Some n)) k None ≡ Some n
  got k same = ap (λ (j : ℕ). get_or (set places (label_at labels n).net (Some n)) j None) (sym same) ∙ get_or-set_same places (label_at labels n).net (Some n) None room

  kept : (k : ℕ) → ((label_at labels n).net == k) ≡ false → get_or (set places (label_at labels n).net (Some n)) k None ≡ get_or places k None
  kept k e = get_or-set_other places (label_at labels n).net k (Some n) None (λ s. eqb-false (label_at labels n).net k e (sym s))

  there-by : (k i : ℕ) (t : Bool) → ((label_at labels n).net == k) ≡ t → get_or (set places (label_at labels n).net (Some n)) k None ≡ Some i → i < length labels
  there-by k i true e f =
      let g : Some n ≡ Some i = sym (got k (eqb-true (label_at labels n).net k e)) ∙ f in
      let num : n ≡ i = cc g in omega (arith, num, h)
  there-by k i false e f = is.there k i (sym (kept k e) ∙ f)

  named-by : (k : ℕ) → k < count → (t : Bool) → ((label_at labels n).net == k) ≡ t
      → label_text labels (get_or (set places (label_at labels n).net (Some n)) k None) k ≡ (if t then (label_at labels n).name else name_by (drop (n + 1) labels) k)
  named-by k below true e = ap (λ (o : Option ℕ). label_text labels o k) (got k (eqb-true (label_at labels n).net k e))
  named-by k below false e = ap (λ (o : Option ℕ). label_text labels o k) (kept k e) ∙ is.names k below

  pub index-step : IsIndexFrom labels (drop n labels) count (set places (label_at labels n).net (Some n))
  index-step = record {
    size = length-set places (label_at labels n).net (Some n) ∙ is.size;
    there = λ k i. there-by k i ((label_at labels n).net == k) refl;
    names = λ k below. named-by k below ((label_at labels n).net == k) refl ∙ ap (λ (others : List NetLabel). name_by others k) (sym cut);
  }
