-- The way back grows by one block after another, and ends at one without latency.
use Rattle.std.proofs.Common.{◌≡◌, ℕ, zero, suc, ◌<◌, ◌≤◌, List, [], ◌∷◌, length, Some, ap, sym, ◌∙◌, subst, refl, arith}
use Rattle.std.specs.Prelude.{◌≢◌, slice_get, slice_index_or}
use Rattle.std.proofs.lemmas.Option.{none-some, same_Some, slice_get-get_or}
use Rattle.hw_arcs.specs.declared.arc.Arc.{Arc}
use Rattle.hw_arcs.specs.Latencies.{latency_at}
use Rattle.cmd_check.specs.Paths.{IsTightPath, LeadsTightly}
use Rattle.cmd_check.specs.inner.Way.{IsWay}
use Rattle.cmd_check.proofs.Fewer.{few_below}

module _ (arcs : List Arc) (lat : List ℕ) (count : ℕ) (rank : ℕ → ℕ) (end : ℕ) where
  pub way_begins : end < count → IsWay arcs lat count rank end end (end ∷ [])
  way_begins below = record {
    begins = refl;
    last = 0;
    ends = refl;
    whole = λ k block at. one k block at;
    leads = λ k from to one other. absurd (none-some to other);
    rises = λ i j block other less one there. absurd (none j other (omega (arith, less)) there);
    there = λ k block at. elsewhere k block at;
  } where
    one : (k block : ℕ) → slice_get (end ∷ []) k ≡ Some block → k < 1
    one zero block at = omega arith
    one (suc k) block at = absurd (none-some block at)

    none : (j other : ℕ) → 0 < j → slice_get (end ∷ []) j ≡ Some other → ⊥
    none zero other low at = absurd (omega (arith, low))
    none (suc j) other low at = none-some other at

    elsewhere : (k block : ℕ) → slice_get (end ∷ []) k ≡ Some block → block < count
    elsewhere zero block at = subst (λ (x : ℕ). x < count) (same_Some end block at) below
    elsewhere (suc k) block at = absurd (none-some block at)

  pub way_more : (first from : ℕ) (path : List ℕ) → IsWay arcs lat count rank first end path
      → 0 < latency_at lat first → LeadsTightly arcs lat from first → rank from < rank first → from < count
      → IsWay arcs lat count rank from end (from ∷ path)
  way_more first from path way late leads falls below = record {
    begins = refl;
    last = suc way.last;
    ends = way.ends;
    whole = λ k block at. whole k block at;
    leads = λ k one other one_at other_at. led k one other one_at other_at;
    rises = λ i j block other less one there. rises i j block other less one there;
    there = λ k block at. there k block at;
  } where
    whole : (k block : ℕ) → slice_get (from ∷ path) k ≡ Some block → k < suc (suc way.last)
    whole zero block at = omega arith
    whole (suc k) block at = let inner = way.whole k block at in omega (arith, inner)

    led : (k one other : ℕ) → slice_get (from ∷ path) k ≡ Some one → slice_get (from ∷ path) (suc k) ≡ Some other → (0 < latency_at lat other) × LeadsTightly arcs lat one other
    led zero one other one_at other_at =
        let source : from ≡ one = same_Some from one one_at in
        let target : first ≡ other = same_Some first other (sym way.begins ∙ other_at) in
        subst (λ (x : ℕ). (0 < latency_at lat other) × LeadsTightly arcs lat x other) source (subst (λ (x : ℕ). (0 < latency_at lat x) × LeadsTightly arcs lat from x) target (late, leads))
    led (suc k) one other one_at other_at = way.leads k one other one_at other_at

    above : (j other : ℕ) → slice_get path j ≡ Some other → rank from < rank other
    above zero other at = subst (λ (x : ℕ). rank from < rank x) (same_Some first other (sym way.begins ∙ at)) falls
    above (suc j) other at = let more = way.rises 0 (suc j) first other (omega arith) way.begins at in omega (arith, falls, more)

    rises : (i j block other : ℕ) → i < j → slice_get (from ∷ path) i ≡ Some block → slice_get (from ∷ path) j ≡ Some other → rank block < rank other
    rises i zero block other less one at = absurd (omega (arith, less))
    rises zero (suc j) block other less one at = subst (λ (x : ℕ). rank x < rank other) (same_Some from block one) (above j other at)
    rises (suc i) (suc j) block other less one at = way.rises i j block other (omega (arith, less)) one at

    there : (k block : ℕ) → slice_get (from ∷ path) k ≡ Some block → block < count
    there zero block at = subst (λ (x : ℕ). x < count) (same_Some from block at) below
    there (suc k) block at = way.there k block at

  apart : (first : ℕ) (path : List ℕ) → IsWay arcs lat count rank first end path → (i j block other : ℕ) → i < j → slice_get path i ≡ Some block → slice_get path j ≡ Some other → block ≢ other
  apart first path way i j block other less one at same =
      let more = way.rises i j block other less one at in
      let ranks = ap rank same in
      absurd (omega (arith, more, ranks))

  pub way_short : (first : ℕ) (path : List ℕ) → IsWay arcs lat count rank first end path → length path ≤ count
  way_short first path way = few_below path count way.there (apart first path way)

  pub way_ends : (first : ℕ) (path : List ℕ) → IsWay arcs lat count rank first end path → latency_at lat first ≡ 0 → length lat ≡ count → IsTightPath arcs lat end path
  way_ends first path way early size = record {
    first = first;
    begins = way.begins;
    early = early;
    last = way.last;
    ends = way.ends;
    whole = way.whole;
    there = λ k block at. subst (λ (n : ℕ). block < n) (sym size) (way.there k block at);
    leads = way.leads;
    different = λ i j d less low. apart first path way i j (slice_index_or path i d) (slice_index_or path j d) less
        (slice_get-get_or path i d (omega (arith, less, low))) (slice_get-get_or path j d low);
  }
