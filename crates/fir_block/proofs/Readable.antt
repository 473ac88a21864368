-- The blocks of a filter are such as their text in a model could be.
use Rattle.std.proofs.Common.{◌≡◌, ℕ, zero, suc, ◌+◌, ◌-◌, ◌<◌, ◌≤◌, Bool, false, List, [], ◌∷◌, ◌++◌, length, map, get_or, refl, sym, ap, subst, ◌∙◌, arith, append_assoc}
use Rattle.std.specs.Prelude.{All, codes, replicate}
use Rattle.std.specs.List.{range_with_len}
use Rattle.std.proofs.lemmas.List.Elements.{All-append}
use Rattle.fx_type.specs.declared.decimal.Decimal.{Decimal}
use Rattle.dg_model.specs.declared.row.Role.{Role}
use Rattle.dg_model.specs.Library.{row_of}
use Rattle.dg_model.specs.Readable.{IsReadable}
use Rattle.fir_block.specs.declared.filter.Fir.{Fir}
use Rattle.fir_block.specs.declared.filter.FirBlock.{FirBlock}
use Rattle.fir_block.specs.Expanded.{blocks_of, delay_block, delay_blocks, gain_block, gain_blocks, sum_block, port_block}
use Rattle.fir_block.specs.Laws.{AreSound, IsReadableFir}
use Rattle.fir_block.proofs.Counts.{ends}

abbrev pub Reads : FirBlock → Type 0
Reads inner = IsReadable inner.block

pub one : (P : FirBlock → Type 0) (inner : FirBlock) (more : List FirBlock) → P inner → All P more → All P (inner ∷ more)
one P inner more is all zero d less = is
one P inner more is all (suc k) d less = all k d (omega (arith, less))

pub none : (P : FirBlock → Type 0) → All P []
none P k d less = absurd (omega (arith, less))

port_reads : (name : List ℕ) → Reads (port_block name)
port_reads name = record {
  ports = (refl, refl);
  parameters = (omega arith, omega arith);
  types = tt;
  result = tt;
  rounding = (refl, refl);
  period = tt;
}

delay_reads : (other : Decimal) (fir : Fir) (k : ℕ) → Reads (delay_block other fir k)
delay_reads other fir k = record {
  ports = (refl, refl);
  parameters = ((omega arith, omega arith), (omega arith, omega arith));
  types = tt;
  result = refl;
  rounding = (refl, refl);
  period = tt;
}

delays_read : (other : Decimal) (fir : Fir) (from count : ℕ) → All Reads (map (delay_block other fir) (range_with_len from count))
delays_read other fir from zero = none Reads
delays_read other fir from (suc count) = one Reads (delay_block other fir from) _ (delay_reads other fir from) (delays_read other fir (from + 1) count)

module _ (fir : Fir) (is : IsReadableFir fir) where
  gain_reads : (k : ℕ) (coefficient : Decimal) → Reads (gain_block fir k coefficient)
  gain_reads k coefficient = record {
    ports = (refl, refl);
    parameters = ((omega arith, omega arith), is.param.0, is.param.1);
    types = tt;
    result = tt;
    rounding = tt;
    period = tt;
  }

  gains_read : (k : ℕ) (coefficients : List Decimal) → All Reads (gain_blocks fir k coefficients)
  gains_read k [] = none Reads
  gains_read k (coefficient ∷ coefficients) = one Reads (gain_block fir k coefficient) _ (gain_reads k coefficient) (gains_read (k + 1) coefficients)

  signs_long : (n : ℕ) → length (replicate n false) ≡ n
  signs_long zero = refl
  signs_long (suc n) = ap suc (signs_long n)

  sum_reads : Reads (sum_block fir)
  sum_reads =
      let long = signs_long (length fir.coefficients) in
      record {
        ports = (sym long, refl);
        parameters = ((omega (arith, long, is.is_fir.coefficients.0), omega (arith, long, is.is_fir.coefficients.1)), tt, tt);
        types = is.result.1;
        result = is.result.0;
        rounding = tt;
        period = is.period;
      }

  pub all_read : (other : Decimal) → All Reads (blocks_of other fir)
  all_read other =
      one Reads (port_block (codes "in")) _ (port_reads (codes "in"))
      (All-append Reads (delay_blocks other fir) _ (delays_read other fir 1 (length fir.coefficients - 1))
      (All-append Reads (gain_blocks fir 0 fir.coefficients) (ends fir) (gains_read 0 fir.coefficients)
      (one Reads (sum_block fir) (port_block (codes "out") ∷ []) sum_reads (one Reads (port_block (codes "out")) [] (port_reads (codes "out")) (none Reads)))))

-- ---- those that are no ports

abbrev pub Plain : FirBlock → Type 0
Plain inner = (row_of inner.block.kind).place.role ≡ Role.Plain

delays_plain : (other : Decimal) (fir : Fir) (from count : ℕ) → All Plain (map (delay_block other fir) (range_with_len from count))
delays_plain other fir from zero = none Plain
delays_plain other fir from (suc count) = one Plain (delay_block other fir from) _ refl (delays_plain other fir (from + 1) count)

gains_plain : (fir : Fir) (k : ℕ) (coefficients : List Decimal) → All Plain (gain_blocks fir k coefficients)
gains_plain fir k [] = none Plain
gains_plain fir k (coefficient ∷ coefficients) = one Plain (gain_block fir k coefficient) _ refl (gains_plain fir (k + 1) coefficients)

pub sound : (other : Decimal) (fir : Fir) → IsReadableFir fir → AreSound other fir
sound other fir is =
    let delays = delay_blocks other fir in
    let gains = gain_blocks fir 0 fir.coefficients in
    let out : List FirBlock = port_block (codes "out") ∷ [] in
    record {
      readable = all_read fir is other;
      between = delays ++ (gains ++ (sum_block fir ∷ []));
      ends =
          ap (λ (more : List FirBlock). port_block (codes "in") ∷ more)
          (ap (λ (more : List FirBlock). delays ++ more) (sym (append_assoc gains (sum_block fir ∷ []) out))
          ∙ sym (append_assoc delays (gains ++ (sum_block fir ∷ [])) out));
      plain =
          All-append Plain delays _ (delays_plain other fir 1 (length fir.coefficients - 1))
          (All-append Plain gains (sum_block fir ∷ []) (gains_plain fir 0 fir.coefficients) (one Plain (sum_block fir) [] refl (none Plain)));
    }
