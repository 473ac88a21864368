-- Stages add up to no more than what the numbers read, and two for each.
use Rattle.std.proofs.Common.{◌≡◌, ◌<◌, ◌≤◌, ◌+◌, ◌-◌, ⊎_elim, replicate, ℕ, suc, List, [], ◌∷◌, length, slice_index, ap, ◌∙◌, arith}
use Rattle.std.specs.Prelude.{fold}
use Rattle.vl_check.specs.inner.Walks.{size, State, total, IsStep}
use Rattle.vl_check.specs.inner.Order.{IsOrder}
use Rattle.vl_check.proofs.DepthSearch.{begun, ordered}
use Rattle.math_list.proofs.Elements.{none-in}
use Rattle.std.proofs.lemmas.List.{length-replicate, get_or-replicate}

abbrev pub limit : List (List ℕ) → ℕ
limit reads = fold (λ a row. a + (length row + 2)) 0 reads

below : (reads : List (List ℕ)) (stage : List ℕ) → length stage ≡ length reads → ((v : ℕ) → v < length reads → slice_index stage v ≤ size reads v + 2)
    → (s t : ℕ) → s ≤ t → fold (λ a x. a + x) s stage ≤ fold (λ a row. a + (length row + 2)) t reads
below [] [] long each s t le = le
below [] (x ∷ stage) long each s t le = absurd (omega arith)
below (row ∷ reads) [] long each s t le = absurd (omega arith)
below (row ∷ reads) (x ∷ stage) long each s t le =
    let here = each 0 (omega arith) in
    below reads stage (omega arith) (λ v b. each (suc v) (omega arith)) (s + x) (t + (length row + 2)) (omega (arith, le, here))

pub total-below : (reads : List (List ℕ)) (stage stack order : List ℕ) → State reads stage stack order → total stage ≤ limit reads
total-below reads stage stack order s = below reads stage s.walk.long s.most 0 0 (omega arith)

pub nearer : (reads : List (List ℕ)) (before after stack order : List ℕ) → IsStep reads before after stack order → limit reads - total after < limit reads - total before
nearer reads before after stack order s =
    let under = total-below reads after stack order s.state in
    let more = s.more in
    omega (arith, under, more)

pub at-end : (reads : List (List ℕ)) (stage order : List ℕ) → State reads stage [] order → ((v : ℕ) → v < length reads → 1 ≤ slice_index stage v) → IsOrder reads order
at-end reads stage order s met = ordered reads stage order s.walk (λ v below. ⊎_elim (λ c. absurd (none-in v c)) (λ d. d) (s.met v below (met v below)))

pub all-white : (reads : List (List ℕ)) (stage : List ℕ) → stage ≡ replicate (length reads) 0 → State reads stage [] []
all-white reads stage e =
    let long : length stage ≡ length reads = ap length e ∙ length-replicate (length reads) 0 in
    let white : (v : ℕ) → v < length reads → slice_index stage v ≡ 0 = λ v below. ap (λ xs. slice_index xs v) e ∙ get_or-replicate (length reads) v 0 0 below in
    record {
      walk = begun reads stage long white;
      most = λ v below. let w = white v below in omega (arith, w);
      met = λ v below h. let w = white v below in absurd (omega (arith, w, h));
    }
