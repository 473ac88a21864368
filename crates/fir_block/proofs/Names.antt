-- No two blocks of a filter have one name.
use Rattle.std.proofs.Common.{◌≡◌, ◌≢◌, ℕ, zero, suc, ◌+◌, ◌-◌, ◌<◌, ◌≤◌, ◌^◌, List, [], ◌∷◌, ◌++◌, length, map, get_or, refl, sym, ap, ◌∙◌, arith}
use Rattle.std.specs.Prelude.{All, AllPairs, codes, decimal}
use Rattle.std.specs.List.{range_with_len}
use Rattle.std.proofs.lemmas.Fmt.{decimal_injective}
use Rattle.std.proofs.lemmas.List.Elements.{All-append}
use Rattle.std.proofs.lemmas.List.Kept.{AllPairs-cons}
use Rattle.fx_type.specs.declared.decimal.Decimal.{Decimal}
use Rattle.fir_block.specs.declared.filter.Fir.{Fir}
use Rattle.fir_block.specs.declared.filter.FirBlock.{FirBlock}
use Rattle.fir_block.specs.Expanded.{IsFir, blocks_of, numbered, delay_block, delay_blocks, gain_block, gain_blocks, sum_block, port_block}
use Rattle.fir_block.proofs.Counts.{ends, gains_long}
use Rattle.fir_block.proofs.Readable.{one, none}

-- ---- names that begin with another letter

abbrev first : List ℕ → ℕ
first [] = 0
first (letter ∷ more) = letter

abbrev Begins : ℕ → FirBlock → Type 0
Begins letter inner = first inner.name ≡ letter

abbrev Differ : FirBlock → FirBlock → Type 0
Differ inner later = inner.name ≢ later.name

apart : (letter other : ℕ) (inner : FirBlock) (list : List FirBlock) → letter ≢ other → Begins letter inner → All (Begins other) list → All (Differ inner) list
apart letter other inner list differ begins all k d less e = differ (sym begins ∙ ap first e ∙ all k d less)

-- ---- names of one letter

same_number : (letter a b : ℕ) → a < 2 ^ 64 → b < 2 ^ 64 → numbered (letter ∷ []) a ≡ numbered (letter ∷ []) b → a ≡ b
same_number letter a b below below' e = decimal_injective a b below below' (tails (numbered (letter ∷ []) a) (numbered (letter ∷ []) b) e)
  where
    rest : List ℕ → List ℕ
    rest [] = []
    rest (x ∷ xs) = xs

    tails : (xs ys : List ℕ) → xs ≡ ys → rest xs ≡ rest ys
    tails xs ys e = ap rest e

module _ (other : Decimal) (fir : Fir) where
  delays_begin : (from count : ℕ) → All (Begins 100) (map (delay_block other fir) (range_with_len from count))
  delays_begin from zero = none (Begins 100)
  delays_begin from (suc count) = one (Begins 100) (delay_block other fir from) _ refl (delays_begin (from + 1) count)

  gains_begin : (k : ℕ) (coefficients : List Decimal) → All (Begins 99) (gain_blocks fir k coefficients)
  gains_begin k [] = none (Begins 99)
  gains_begin k (coefficient ∷ coefficients) = one (Begins 99) (gain_block fir k coefficient) _ refl (gains_begin (k + 1) coefficients)

  later_delays : (number from count : ℕ) → number < from → from + count < 2 ^ 64 → All (Differ (delay_block other fir number)) (map (delay_block other fir) (range_with_len from count))
  later_delays number from zero less few = none (Differ (delay_block other fir number))
  later_delays number from (suc count) less few =
      one (Differ (delay_block other fir number)) (delay_block other fir from) _
      (λ e. let same : number ≡ from = same_number 100 number from (omega (arith, less, few)) (omega (arith, few)) e in absurd (omega (arith, same, less)))
      (later_delays number (from + 1) count (omega (arith, less)) (omega (arith, few)))

  later_gains : (coefficient : Decimal) (number k : ℕ) (coefficients : List Decimal) → number < k
      → k + length coefficients < 2 ^ 64
      → All (Differ (gain_block fir number coefficient)) (gain_blocks fir k coefficients)
  later_gains coefficient number k [] less few = none (Differ (gain_block fir number coefficient))
  later_gains coefficient number k (next ∷ coefficients) less few =
      one (Differ (gain_block fir number coefficient)) (gain_block fir k next) _
      (λ e. let same : number ≡ k = same_number 99 number k (omega (arith, less, few)) (omega (arith, few)) e in absurd (omega (arith, same, less)))
      (later_gains coefficient number (k + 1) coefficients (omega (arith, less)) (omega (arith, few)))

  -- ---- all of them, from the last on

  last_two : AllPairs Differ (ends fir)
  last_two =
      AllPairs-cons Differ (sum_block fir) (port_block (codes "out") ∷ [])
      (apart 115 111 (sum_block fir) (port_block (codes "out") ∷ []) (λ e. absurd (omega (arith, e))) refl
      (one (Begins 111) (port_block (codes "out")) [] refl (none (Begins 111))))
      (AllPairs-cons Differ (port_block (codes "out")) [] (none (Differ (port_block (codes "out")))) (λ i j d less within. absurd (omega (arith, within))))

  ends_apart : (letter : ℕ) (inner : FirBlock) → letter ≢ 115 → letter ≢ 111 → Begins letter inner → All (Differ inner) (ends fir)
  ends_apart letter inner no_sum no_out begins =
      one (Differ inner) (sum_block fir) (port_block (codes "out") ∷ []) (λ e. no_sum (sym begins ∙ ap first e))
      (one (Differ inner) (port_block (codes "out")) [] (λ e. no_out (sym begins ∙ ap first e)) (none (Differ inner)))

  gains_differ : (k : ℕ) (coefficients : List Decimal) → k + length coefficients < 2 ^ 64 → AllPairs Differ (gain_blocks fir k coefficients ++ ends fir)
  gains_differ k [] few = last_two
  gains_differ k (coefficient ∷ coefficients) few =
      AllPairs-cons Differ (gain_block fir k coefficient) (gain_blocks fir (k + 1) coefficients ++ ends fir)
      (All-append (Differ (gain_block fir k coefficient)) (gain_blocks fir (k + 1) coefficients) (ends fir)
      (later_gains coefficient k (k + 1) coefficients (omega arith) (omega (arith, few)))
      (ends_apart 99 (gain_block fir k coefficient) (λ e. absurd (omega (arith, e))) (λ e. absurd (omega (arith, e))) refl))
      (gains_differ (k + 1) coefficients (omega (arith, few)))

  abbrev behind : List FirBlock
  behind = gain_blocks fir 0 fir.coefficients ++ ends fir

  delays_differ : (from count : ℕ) → from + count < 2 ^ 64 → AllPairs Differ behind → AllPairs Differ (map (delay_block other fir) (range_with_len from count) ++ behind)
  delays_differ from zero few all = all
  delays_differ from (suc count) few all =
      AllPairs-cons Differ (delay_block other fir from) (map (delay_block other fir) (range_with_len (from + 1) count) ++ behind)
      (All-append (Differ (delay_block other fir from)) (map (delay_block other fir) (range_with_len (from + 1) count)) behind
      (later_delays from (from + 1) count (omega arith) (omega (arith, few)))
      (All-append (Differ (delay_block other fir from)) (gain_blocks fir 0 fir.coefficients) (ends fir)
      (apart 100 99 (delay_block other fir from) (gain_blocks fir 0 fir.coefficients) (λ e. absurd (omega (arith, e))) refl (gains_begin 0 fir.coefficients))
      (ends_apart 100 (delay_block other fir from) (λ e. absurd (omega (arith, e))) (λ e. absurd (omega (arith, e))) refl)))
      (delays_differ (from + 1) count (omega (arith, few)) all)

  pub names_differ : IsFir fir → AllPairs (λ inner later. inner.name ≢ later.name) (blocks_of other fir)
  names_differ is =
      let few : 1 + (length fir.coefficients - 1) < 2 ^ 64 = omega (arith, is.coefficients.1) in
      AllPairs-cons Differ (port_block (codes "in")) (delay_blocks other fir ++ behind)
      (All-append (Differ (port_block (codes "in"))) (delay_blocks other fir) behind
      (apart 105 100 (port_block (codes "in")) (delay_blocks other fir) (λ e. absurd (omega (arith, e))) refl (delays_begin 1 (length fir.coefficients - 1)))
      (All-append (Differ (port_block (codes "in"))) (gain_blocks fir 0 fir.coefficients) (ends fir)
      (apart 105 99 (port_block (codes "in")) (gain_blocks fir 0 fir.coefficients) (λ e. absurd (omega (arith, e))) refl (gains_begin 0 fir.coefficients))
      (ends_apart 105 (port_block (codes "in")) (λ e. absurd (omega (arith, e))) (λ e. absurd (omega (arith, e))) refl)))
      (delays_differ 1 (length fir.coefficients - 1) few (gains_differ 0 fir.coefficients (omega (arith, is.coefficients.1))))
