-- Where the blocks of a model as it is drawn, and those of its filters, stand where each filter is
-- taken apart.
use Rattle.std.proofs.Common.{◌≡◌, ℕ, zero, suc, ◌+◌, ◌<◌, ◌≤◌, inl, inr, List, [], ◌∷◌, ◌++◌, length, Option, Some, None, refl, sym, ◌∙◌, ap, subst, arith}
use Rattle.std.specs.Prelude.{◌⊎◌, zip, flat_map, slice_get}
use Rattle.std.proofs.lemmas.List.{length-append}
use Rattle.std.proofs.lemmas.Option.{same_Some}
use Rattle.fx_type.specs.declared.decimal.Decimal.{Decimal}
use Rattle.dg_model.specs.declared.nested.NestedBlock.{NestedBlock}
use Rattle.fir_block.specs.declared.filter.Fir.{Fir}
use Rattle.fir_block.specs.declared.filter.FirBlock.{FirBlock}
use Rattle.fir_block.specs.Expanded.{blocks_of, extent}
use Rattle.fir_block.specs.Laws.{BlocksAreCounted, IsReadableFir}
use Rattle.mdl_build.specs.declared.expanding.DrawnBlock.{DrawnBlock}
use Rattle.mdl_build.specs.Expanded.{inner_block, inner_blocks, filling, moved_block, with_filling}
use Rattle.mdl_build.specs.Extents.{total, starts}
use Rattle.mdl_build.proofs.FilterSketch.{extent_of, extents_of, AreFirs}
use Rattle.mdl_build.proofs.FilterLists.{none_some, get_left, get_right, get_split}

-- ---- the blocks of a filter

-- the block of a filter that stands at a number
pub record IsInner (place count number : ℕ) (list : List FirBlock) (k : ℕ) (block : NestedBlock) : Type 0 where
  pub inner : FirBlock
  pub there : slice_get list k ≡ Some inner
  pub is : block ≡ inner_block place count (number + k) inner

inner_from : (place count number : ℕ) (list : List FirBlock) (k : ℕ) (block : NestedBlock) → slice_get (inner_blocks place count number list) k ≡ Some block → IsInner place count number list k block
inner_from place count number [] k block at = absurd (none_some block at)
inner_from place count number (first ∷ list) zero block at =
    let same : number ≡ number + 0 = omega arith in
    record { inner = first; there = refl; is = sym (same_Some (inner_block place count number first) block at) ∙ ap (λ (n : ℕ). inner_block place count n first) same }
inner_from place count number (first ∷ list) (suc k) block at =
    let h = inner_from place count (number + 1) list k block at in
    let same : number + 1 + k ≡ number + suc k = omega arith in
    record { inner = h.inner; there = h.there; is = h.is ∙ ap (λ (n : ℕ). inner_block place count n h.inner) same }

inner_to : (place count number : ℕ) (list : List FirBlock) (k : ℕ) (inner : FirBlock)
    → slice_get list k ≡ Some inner → slice_get (inner_blocks place count number list) k
    ≡ Some (inner_block place count (number + k) inner)
inner_to place count number [] k inner at = absurd (none_some inner at)
inner_to place count number (first ∷ list) zero inner at =
    let same : number ≡ number + 0 = omega arith in
    ap (λ (f : FirBlock). Some (inner_block place count number f)) (same_Some first inner at) ∙ ap (λ (n : ℕ). Some (inner_block place count n inner)) same
inner_to place count number (first ∷ list) (suc k) inner at =
    let same : number + 1 + k ≡ number + suc k = omega arith in
    inner_to place count (number + 1) list k inner at ∙ ap (λ (n : ℕ). Some (inner_block place count n inner)) same

inner_long : (place count number : ℕ) (list : List FirBlock) → length (inner_blocks place count number list) ≡ length list
inner_long place count number [] = refl
inner_long place count number (first ∷ list) = ap suc (inner_long place count (number + 1) list)

-- ---- sizes and numbers

pub extent_some : (filter : Option Fir) → 1 ≤ extent_of filter
extent_some None = omega arith
extent_some (Some fir) = omega arith

-- the numbers of drawn blocks, from one on
abbrev pub numbers_from : ℕ → List DrawnBlock → List ℕ
numbers_from start drawn = starts start (extents_of drawn)

pub numbers_past : (start : ℕ) (drawn : List DrawnBlock) (k n : ℕ) → slice_get (numbers_from start drawn) k ≡ Some n → start ≤ n
numbers_past start [] k n at = absurd (none_some n at)
numbers_past start (first ∷ drawn) zero n at = omega (arith, same_Some start n at)
numbers_past start (first ∷ drawn) (suc k) n at =
    omega (arith, numbers_past (start + extent_of first.filter) drawn k n at)

-- they grow
pub numbers_grow : (start : ℕ) (drawn : List DrawnBlock) (j k m n : ℕ) → j < k → slice_get (numbers_from start drawn) j ≡ Some m → slice_get (numbers_from start drawn) k ≡ Some n → m < n
numbers_grow start [] j k m n less here there = absurd (none_some m here)
numbers_grow start (first ∷ drawn) j zero m n less here there = absurd (omega (arith, less))
numbers_grow start (first ∷ drawn) zero (suc k) m n less here there =
    omega (arith, same_Some start m here, extent_some first.filter, numbers_past (start + extent_of first.filter) drawn k n there)
numbers_grow start (first ∷ drawn) (suc j) (suc k) m n less here there =
    numbers_grow (start + extent_of first.filter) drawn j k m n (omega (arith, less)) here there

-- ---- where each block stands

-- the blocks of drawn ones, of which the first has this number
abbrev pub put_from : Decimal → List ℕ → ℕ → List DrawnBlock → List NestedBlock
put_from other numbers start drawn = flat_map (with_filling other numbers) (zip (numbers_from start drawn) drawn)

-- the block of a number is one that is drawn
pub record FromDrawn (numbers : List ℕ) (start : ℕ) (drawn : List DrawnBlock) (place : ℕ) (block : NestedBlock) : Type 0 where
  pub k : ℕ
  pub own : DrawnBlock
  pub there : slice_get drawn k ≡ Some own
  pub number : slice_get (numbers_from start drawn) k ≡ Some (start + place)
  pub is : block ≡ moved_block numbers own.block

-- the block of a number is one of a filter
pub record FromFilter (other : Decimal) (start : ℕ) (drawn : List DrawnBlock) (place : ℕ) (block : NestedBlock) : Type 0 where
  pub k : ℕ
  pub own : DrawnBlock
  pub there : slice_get drawn k ≡ Some own
  pub fir : Fir
  pub filter : own.filter ≡ Some fir
  pub n : ℕ
  pub number : slice_get (numbers_from start drawn) k ≡ Some n
  pub i : ℕ
  pub at : start + place ≡ suc (n + i)
  pub inner : FirBlock
  pub inner_there : slice_get (blocks_of other fir) i ≡ Some inner
  pub is : block ≡ inner_block n (length (blocks_of other fir)) i inner

-- where a drawn block and those that it stands for are
pub record Stands (other : Decimal) (numbers : List ℕ) (start : ℕ) (drawn : List DrawnBlock) (k : ℕ) (own : DrawnBlock) : Type 0 where
  pub place : ℕ
  pub number : slice_get (numbers_from start drawn) k ≡ Some (start + place)
  pub there : slice_get (put_from other numbers start drawn) place ≡ Some (moved_block numbers own.block)
  pub inners : (fir : Fir) (i : ℕ) (inner : FirBlock) → own.filter ≡ Some fir → slice_get (blocks_of other fir) i ≡ Some inner
      → slice_get (put_from other numbers start drawn) (suc (place + i)) ≡ Some (inner_block (start + place) (length (blocks_of other fir)) i inner)

module _ (counted : BlocksAreCounted) (other : Decimal) (numbers : List ℕ) where
  filling_long : (place : ℕ) (fir : Fir) → IsReadableFir fir → suc (length (filling other place (Some fir))) ≡ extent (length fir.coefficients)
  filling_long place fir is = ap suc (inner_long place (length (blocks_of other fir)) 0 (blocks_of other fir)) ∙ counted other fir is.is_fir

  extent_is : (place : ℕ) (filter : Option Fir) → ((fir : Fir) → filter ≡ Some fir → IsReadableFir fir) → extent_of filter ≡ suc (length (filling other place filter))
  extent_is place None firs = refl
  extent_is place (Some fir) firs = sym (filling_long place fir (firs fir refl))

  -- there are so many
  pub put_long : (start : ℕ) (drawn : List DrawnBlock) → AreFirs drawn → length (put_from other numbers start drawn) ≡ total (extents_of drawn)
  put_long start [] firs = refl
  put_long start (first ∷ drawn) firs =
      let own = extent_is start first.filter (λ fir is. firs 0 first fir refl is) in
      let both = length-append (filling other start first.filter) (put_from other numbers (start + extent_of first.filter) drawn) in
      let more = put_long (start + extent_of first.filter) drawn (λ k. firs (suc k)) in
      omega (arith, own, both, more)

  -- ---- from a number to a block

  later_drawn : (start : ℕ) (first : DrawnBlock) (drawn : List DrawnBlock) (place k : ℕ) (block : NestedBlock) → extent_of first.filter + k ≡ suc place
      → FromDrawn numbers (start + extent_of first.filter) drawn k block → FromDrawn numbers start (first ∷ drawn) (suc place) block
  later_drawn start first drawn place k block same h =
      let e : start + extent_of first.filter + k ≡ start + suc place = omega (arith, same) in
      record { k = suc h.k; own = h.own; there = h.there; number = h.number ∙ ap (λ (n : ℕ). Some n) e; is = h.is }

  later_inner : (start : ℕ) (first : DrawnBlock) (drawn : List DrawnBlock) (place k : ℕ) (block : NestedBlock) → extent_of first.filter + k ≡ suc place
      → FromFilter other (start + extent_of first.filter) drawn k block → FromFilter other start (first ∷ drawn) (suc place) block
  later_inner start first drawn place k block same h = record {
    k = suc h.k;
    own = h.own;
    there = h.there;
    fir = h.fir;
    filter = h.filter;
    n = h.n;
    number = h.number;
    i = h.i;
    at = omega (arith, same, h.at);
    inner = h.inner;
    inner_there = h.inner_there;
    is = h.is;
  }

  first_inner : (start : ℕ) (first : DrawnBlock) (drawn : List DrawnBlock) (fir : Fir) (place : ℕ) (block : NestedBlock) → first.filter ≡ Some fir
      → IsInner start (length (blocks_of other fir)) 0 (blocks_of other fir) place block → FromFilter other start (first ∷ drawn) (suc place) block
  first_inner start first drawn fir place block filter h =
      let e : 0 + place ≡ place = omega arith in
      record {
        k = 0;
        own = first;
        there = refl;
        fir = fir;
        filter = filter;
        n = start;
        number = refl;
        i = place;
        at = omega arith;
        inner = h.inner;
        inner_there = h.there;
        is = h.is ∙ ap (λ (n : ℕ). inner_block start (length (blocks_of other fir)) n h.inner) e;
      }

  abbrev Origin : ℕ → List DrawnBlock → ℕ → NestedBlock → Type 0
  Origin start drawn place block = FromDrawn numbers start drawn place block ⊎ FromFilter other start drawn place block

  behind : (start : ℕ) (first : DrawnBlock) (drawn : List DrawnBlock) (place : ℕ) (block : NestedBlock)
      → (filter : Option Fir) → first.filter ≡ filter → ((fir : Fir) → filter ≡ Some fir → IsReadableFir fir)
      → ((k : ℕ) → slice_get (put_from other numbers (start + extent_of first.filter) drawn) k ≡ Some block → Origin (start + extent_of first.filter) drawn k block)
      → slice_get (filling other start filter ++ put_from other numbers (start + extent_of first.filter) drawn) place ≡ Some block → Origin start (first ∷ drawn) (suc place) block
  behind start first drawn place block None is firs again there = elim (again place there) [
    | inl h ↦ inl (later_drawn start first drawn place place block (omega (arith, ap extent_of is)) h)
    | inr h ↦ inr (later_inner start first drawn place place block (omega (arith, ap extent_of is)) h)
  ]
  behind start first drawn place block (Some fir) is firs again there =
      elim (get_split (filling other start (Some fir))
      (put_from other numbers (start + extent_of first.filter) drawn) place block there) [
        | inl h ↦ inr (first_inner start first drawn fir place block is (inner_from start (length (blocks_of other fir)) 0 (blocks_of other fir) place block h))
        | inr h ↦
            let long = filling_long start fir (firs fir refl) in
            let same : extent_of first.filter + h.k ≡ suc place = omega (arith, ap extent_of is, long, h.at) in
            elim (again h.k h.there) [
              | inl own ↦ inl (later_drawn start first drawn place h.k block same own)
              | inr own ↦ inr (later_inner start first drawn place h.k block same own)
            ]
      ]

  -- each block is one that is drawn, or one of a filter
  pub origin : (start : ℕ) (drawn : List DrawnBlock) → AreFirs drawn → (place : ℕ) (block : NestedBlock)
      → slice_get (put_from other numbers start drawn) place ≡ Some block → Origin start drawn place block
  origin start [] firs place block at = absurd (none_some block at)
  origin start (first ∷ drawn) firs zero block at =
      let e : start ≡ start + 0 = omega arith in
      inl (record { k = 0; own = first; there = refl; number = ap (λ (n : ℕ). Some n) e; is = sym (same_Some (moved_block numbers first.block) block at) })
  origin start (first ∷ drawn) firs (suc place) block at =
      behind start first drawn place block first.filter refl (λ fir is. firs 0 first fir refl is)
      (λ k there. origin (start + extent_of first.filter) drawn (λ j. firs (suc j)) k block there) at

  -- ---- from a block to its number

  pub stands : (start : ℕ) (drawn : List DrawnBlock) → AreFirs drawn → (k : ℕ) (own : DrawnBlock) → slice_get drawn k ≡ Some own → Stands other numbers start drawn k own
  stands start [] firs k own at = absurd (none_some own at)
  stands start (first ∷ drawn) firs zero own at =
      let is : first ≡ own = same_Some first own at in
      subst (λ (block : DrawnBlock). Stands other numbers start (first ∷ drawn) 0 block) is (record {
        place = 0;
        number = (let e : start ≡ start + 0 = omega arith in ap (λ (n : ℕ). Some n) e);
        there = refl;
        inners = λ fir i inner filter there.
            let here : slice_get (filling other start (Some fir)) i
            ≡ Some (inner_block start (length (blocks_of other fir)) (0 + i) inner) =
            inner_to start (length (blocks_of other fir)) 0 (blocks_of other fir) i inner there in
            let own_filling : slice_get (filling other start first.filter) i
            ≡ Some (inner_block start (length (blocks_of other fir)) (0 + i) inner) =
            ap (λ (f : Option Fir). slice_get (filling other start f) i) filter ∙ here in
            let whole = get_left (filling other start first.filter)
            (put_from other numbers (start + extent_of first.filter) drawn) i
            (inner_block start (length (blocks_of other fir)) (0 + i) inner) own_filling in
            let e : 0 + i ≡ i = omega arith in
            let f : start ≡ start + 0 = omega arith in
            ap (λ (n : ℕ). slice_get (put_from other numbers start (first ∷ drawn)) (suc n)) e ∙ whole
            ∙ ap (λ (n : ℕ). Some (inner_block start (length (blocks_of other fir)) n inner)) e ∙ ap (λ (n : ℕ). Some (inner_block n (length (blocks_of other fir)) i inner)) f;
      })
  stands start (first ∷ drawn) firs (suc k) own at =
      let next : ℕ = start + extent_of first.filter in
      let h = stands (start + extent_of first.filter) drawn (λ j. firs (suc j)) k own at in
      let size = extent_is start first.filter (λ fir is. firs 0 first fir refl is) in
      let number : start + extent_of first.filter + h.place ≡ start + (extent_of first.filter + h.place) = omega arith in
      let past : (n : ℕ) → slice_get (put_from other numbers start (first ∷ drawn)) (extent_of first.filter + n) ≡ slice_get (put_from other numbers (start + extent_of first.filter) drawn) n =
      λ n. get_right (moved_block numbers first.block ∷ filling other start first.filter)
      (put_from other numbers (start + extent_of first.filter) drawn) n (extent_of first.filter + n)
      (omega (arith, size)) in
      record {
        place = extent_of first.filter + h.place;
        number = h.number ∙ ap (λ (n : ℕ). Some n) number;
        there = past h.place ∙ h.there;
        inners = λ fir i inner filter there.
            let e : suc (extent_of first.filter + h.place + i) ≡ extent_of first.filter + suc (h.place + i) = omega arith in
            ap (slice_get (put_from other numbers start (first ∷ drawn))) e ∙ past (suc (h.place + i)) ∙ h.inners fir i inner filter there
            ∙ ap (λ (n : ℕ). Some (inner_block n (length (blocks_of other fir)) i inner)) number;
      }
