-- The blocks and lines of a filter by their kinds.
use Rattle.std.proofs.Common.{◌≡◌, ℕ, zero, suc, ◌+◌, ◌-◌, ◌*◌, ◌<◌, ◌≤◌, List, [], ◌∷◌, ◌++◌, length, map, Some}
use Rattle.std.proofs.Common.{slice_get, codes, refl, ◌∙◌, ap, arith}
use Rattle.std.specs.List.{range_with_len}
use Rattle.std.proofs.lemmas.List.FromFn.{length-map-range_with_len}
use Rattle.std.proofs.lemmas.Option.{none-some, same_Some}
use Rattle.fx_type.specs.declared.decimal.Decimal.{Decimal}
use Rattle.math_list.proofs.Places.{get_left, get_right}
use Rattle.dg_model.specs.declared.diagram.Edge.{Edge}
use Rattle.fir_block.specs.declared.filter.Fir.{Fir}
use Rattle.fir_block.specs.declared.filter.FirBlock.{FirBlock}
use Rattle.fir_block.specs.Expanded.{blocks_of, delay_block, delay_blocks, gain_block, gain_blocks, sum_block}
use Rattle.fir_block.specs.Expanded.{port_block, line, chain_of, taps_of, terms_of, lines_of}

pub range_at : {A : Type 0} (f : ℕ → A) (from count k : ℕ) → k < count
    → slice_get (map f (range_with_len from count)) k ≡ Some (f (from + k))
range_at f from zero k below = absurd (omega (arith, below))
range_at f from (suc count) zero below = let same : from ≡ from + 0 = omega arith in ap (λ (n : ℕ). Some (f n)) same
range_at f from (suc count) (suc k) below = let same : from + 1 + k ≡ from + suc k =
    omega arith in range_at f (from + 1) count k (omega (arith, below)) ∙ ap (λ (n : ℕ). Some (f n)) same

-- ---- blocks

gains_long : (fir : Fir) (k : ℕ) (coefficients : List Decimal)
    → length (gain_blocks fir k coefficients) ≡ length coefficients
gains_long fir k [] = refl
gains_long fir k (coefficient ∷ coefficients) = ap suc (gains_long fir (k + 1) coefficients)

gains_at : (fir : Fir) (from : ℕ) (coefficients : List Decimal) (k : ℕ) (coefficient : Decimal)
    → slice_get coefficients k ≡ Some coefficient
    → slice_get (gain_blocks fir from coefficients) k ≡ Some (gain_block fir (from + k) coefficient)
gains_at fir from [] k coefficient at = absurd (none-some coefficient at)
gains_at fir from (first ∷ coefficients) zero coefficient at =
    let same : from ≡ from + 0 = omega arith in
    ap (λ (c : Decimal). Some (gain_block fir from c)) (same_Some first coefficient at)
    ∙ ap (λ (n : ℕ). Some (gain_block fir n coefficient)) same
gains_at fir from (first ∷ coefficients) (suc k) coefficient at =
    let same : from + 1 + k ≡ from + suc k = omega arith in
    gains_at fir (from + 1) coefficients k coefficient at ∙ ap (λ (n : ℕ). Some (gain_block fir n coefficient)) same

module _ (other : Decimal) (fir : Fir) (some : 2 ≤ length fir.coefficients) where
  abbrev count : ℕ
  count = length fir.coefficients

  abbrev ends : List FirBlock
  ends = sum_block fir ∷ port_block (codes "out") ∷ []

  abbrev after_delays : List FirBlock
  after_delays = gain_blocks fir 0 fir.coefficients ++ (sum_block fir ∷ port_block (codes "out") ∷ [])

  delays_long : length (delay_blocks other fir) ≡ length fir.coefficients - 1
  delays_long = length-map-range_with_len (delay_block other fir) 1 (count - 1)

  pub delay_at : (k : ℕ) → suc k < length fir.coefficients
      → slice_get (blocks_of other fir) (suc k) ≡ Some (delay_block other fir (suc k))
  delay_at k below =
      let same : 1 + k ≡ suc k = omega arith in
      get_left (delay_blocks other fir) after_delays k (delay_block other fir (suc k))
      (range_at (delay_block other fir) 1 (count - 1) k (omega (arith, below))
      ∙ ap (λ (n : ℕ). Some (delay_block other fir n)) same)

  pub gain_at : (k : ℕ) (coefficient : Decimal) → slice_get fir.coefficients k ≡ Some coefficient
      → slice_get (blocks_of other fir) (length fir.coefficients + k) ≡ Some (gain_block fir k coefficient)
  gain_at k coefficient at =
      let place : length fir.coefficients + k ≡ suc (length (delay_blocks other fir) + k) =
      omega (arith, delays_long, some) in
      let zero_on : 0 + k ≡ k = omega arith in
      ap (slice_get (blocks_of other fir)) place ∙ get_right (delay_blocks other fir) after_delays k
      ∙ get_left (gain_blocks fir 0 fir.coefficients) ends k (gain_block fir k coefficient)
      (gains_at fir 0 fir.coefficients k coefficient at
      ∙ ap (λ (n : ℕ). Some (gain_block fir n coefficient)) zero_on)

  pub sum_at : slice_get (blocks_of other fir) (2 * length fir.coefficients) ≡ Some (sum_block fir)
  sum_at =
      let gains = gains_long fir 0 fir.coefficients in
      let place : 2 * length fir.coefficients
      ≡ suc (length (delay_blocks other fir) + (length (gain_blocks fir 0 fir.coefficients) + 0)) =
      omega (arith, delays_long, gains, some) in
      ap (slice_get (blocks_of other fir)) place
      ∙ get_right (delay_blocks other fir) after_delays (length (gain_blocks fir 0 fir.coefficients) + 0)
      ∙ get_right (gain_blocks fir 0 fir.coefficients) ends 0

  pub out_at : slice_get (blocks_of other fir) (suc (2 * length fir.coefficients)) ≡ Some (port_block (codes "out"))
  out_at =
      let gains = gains_long fir 0 fir.coefficients in
      let place : suc (2 * length fir.coefficients)
      ≡ suc (length (delay_blocks other fir) + (length (gain_blocks fir 0 fir.coefficients) + 1)) =
      omega (arith, delays_long, gains, some) in
      ap (slice_get (blocks_of other fir)) place
      ∙ get_right (delay_blocks other fir) after_delays (length (gain_blocks fir 0 fir.coefficients) + 1)
      ∙ get_right (gain_blocks fir 0 fir.coefficients) ends 1

-- ---- lines

abbrev pub Among : List Edge → Edge → Type 0
Among edges edge = (k : ℕ) × (slice_get edges k ≡ Some edge)

behind : (xs ys : List Edge) (x : Edge) → Among ys x → Among (xs ++ ys) x
behind xs ys x is = (length xs + is.0, get_right xs ys is.0 ∙ is.1)

before : (xs ys : List Edge) (x : Edge) → Among xs x → Among (xs ++ ys) x
before xs ys x is = (is.0, get_left xs ys is.0 x is.1)

module _ (first count : ℕ) (some : 2 ≤ count) where
  abbrev last_line : List Edge
  last_line = line (first + 2 * count) (first + 2 * count + 1) 1 ∷ []

  pub chain_among : (k : ℕ) → suc k < count → Among (lines_of first count) (line (first + k) (first + suc k) 1)
  chain_among k below =
      let from : first + (1 + k - 1) ≡ first + k = omega arith in
      let to : first + (1 + k) ≡ first + suc k = omega arith in
      before (chain_of first count) (taps_of first count ++ (terms_of first count ++ last_line))
      (line (first + k) (first + suc k) 1) (
        k,
        range_at (λ n. line (first + (n - 1)) (first + n) 1) 1 (count - 1) k (omega (arith, below))
            ∙ ap (λ (n : ℕ). Some (line n (first + (1 + k)) 1)) from ∙ ap (λ (n : ℕ). Some (line (first + k) n 1)) to,
      )

  pub tap_among : (k : ℕ) → k < count → Among (lines_of first count) (line (first + k) (first + (count + k)) 1)
  tap_among k below =
      let same : 0 + k ≡ k = omega arith in
      behind (chain_of first count) (taps_of first count ++ (terms_of first count ++ last_line))
      (line (first + k) (first + (count + k)) 1)
      (before (taps_of first count) (terms_of first count ++ last_line) (line (first + k) (first + (count + k)) 1) (
        k,
        range_at (λ n. line (first + n) (first + (count + n)) 1) 0 count k below
            ∙ ap (λ (n : ℕ). Some (line (first + n) (first + (count + n)) 1)) same,
      ))

  pub term_among : (k : ℕ) → k < count
      → Among (lines_of first count) (line (first + (count + k)) (first + 2 * count) (suc k))
  term_among k below =
      let same : 0 + k ≡ k = omega arith in
      let port : k + 1 ≡ suc k = omega arith in
      behind (chain_of first count) (taps_of first count ++ (terms_of first count ++ last_line))
      (line (first + (count + k)) (first + 2 * count) (suc k))
      (behind (taps_of first count) (terms_of first count ++ last_line)
      (line (first + (count + k)) (first + 2 * count) (suc k))
      (before (terms_of first count) last_line (line (first + (count + k)) (first + 2 * count) (suc k)) (
        k,
        range_at (λ n. line (first + (count + n)) (first + 2 * count) (n + 1)) 0 count k below
            ∙ ap (λ (n : ℕ). Some (line (first + (count + n)) (first + 2 * count) (n + 1))) same
            ∙ ap (λ (n : ℕ). Some (line (first + (count + k)) (first + 2 * count) n)) port,
      )))

  pub last_among : Among (lines_of first count) (line (first + 2 * count) (first + suc (2 * count)) 1)
  last_among =
      let same : first + 2 * count + 1 ≡ first + suc (2 * count) = omega arith in
      behind (chain_of first count) (taps_of first count ++ (terms_of first count ++ last_line))
      (line (first + 2 * count) (first + suc (2 * count)) 1)
      (behind (taps_of first count) (terms_of first count ++ last_line)
      (line (first + 2 * count) (first + suc (2 * count)) 1)
      (behind (terms_of first count) last_line (line (first + 2 * count) (first + suc (2 * count)) 1)
      (0, ap (λ (n : ℕ). Some (line (first + 2 * count) n 1)) same)))
