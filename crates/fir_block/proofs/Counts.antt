-- How many blocks a filter has, and what each of them is.
use Rattle.std.proofs.Common.{◌≡◌, ℕ, zero, suc, ◌+◌, ◌-◌, ◌*◌, ◌<◌, ◌≤◌, List, [], ◌∷◌, ◌++◌, length, map, get_or, refl, sym, ap, ◌∙◌, arith}
use Rattle.std.specs.Prelude.{All, codes}
use Rattle.std.specs.List.{range_with_len}
use Rattle.std.proofs.lemmas.List.{length-append}
use Rattle.std.proofs.lemmas.List.FromFn.{length-map-range_with_len}
use Rattle.fx_type.specs.declared.decimal.Decimal.{Decimal}
use Rattle.fir_block.specs.declared.filter.Fir.{Fir}
use Rattle.fir_block.specs.declared.filter.FirBlock.{FirBlock}
use Rattle.fir_block.specs.Expanded.{IsFir, blocks_of, delay_block, delay_blocks, gain_blocks, sum_block, port_block, extent}

pub gains_long : (fir : Fir) (k : ℕ) (coefficients : List Decimal) → length (gain_blocks fir k coefficients) ≡ length coefficients
gains_long fir k [] = refl
gains_long fir k (coefficient ∷ coefficients) = ap suc (gains_long fir (k + 1) coefficients)

pub delays_long : (other : Decimal) (fir : Fir) → length (delay_blocks other fir) ≡ length fir.coefficients - 1
delays_long other fir = length-map-range_with_len (delay_block other fir) 1 (length fir.coefficients - 1)

-- the last two
abbrev pub ends : Fir → List FirBlock
ends fir = sum_block fir ∷ port_block (codes "out") ∷ []

pub counted : (other : Decimal) (fir : Fir) → IsFir fir → suc (length (blocks_of other fir)) ≡ extent (length fir.coefficients)
counted other fir is =
    let gains = gains_long fir 0 fir.coefficients in
    let delays = delays_long other fir in
    let behind = length-append (gain_blocks fir 0 fir.coefficients) (ends fir) in
    let all = length-append (delay_blocks other fir) (gain_blocks fir 0 fir.coefficients ++ ends fir) in
    omega (arith, gains, delays, behind, all, is.coefficients.0)
