-- What a filter stands for doesn't hang on what a list gives past its end.
use Rattle.std.proofs.Common.{◌≡◌, ℕ, zero, suc, ◌+◌, ◌-◌, ◌<◌, ◌≤◌, Bool, true, false, cond, List, [], ◌∷◌, ◌++◌, length, map, get_or, Option, None, Some, inl, inr, refl, sym, ◌∙◌, ap, ap₂}
use Rattle.std.proofs.Common.{true≢false, eqb-true, eq-eqb, arith}
use Rattle.std.specs.Prelude.{◌==◌, All, codes, flat_map, zip}
use Rattle.std.specs.List.{range_with_len}
use Rattle.std.specs.Option.{ForSome}
use Rattle.std.proofs.lemmas.List.{get_or_default}
use Rattle.std.proofs.lemmas.List.Concat.{flat_map-cons}
use Rattle.std.proofs.lemmas.List.Elements.{All-head, All-tail}
use Rattle.std.proofs.lemmas.Option.{slice_get-get_or}
use Rattle.fx_type.specs.declared.decimal.Decimal.{Decimal}
use Rattle.fx_type.specs.declared.spec.TypeSpec.TheVariants.{Auto}
use Rattle.dg_model.specs.declared.kind.Kind.TheVariants.{Delay}
use Rattle.dg_model.specs.declared.nested.NestedBlock.{NestedBlock}
use Rattle.dg_model.specs.declared.nested.NestedLine.{NestedLine}
use Rattle.dg_model.specs.Wires.{repeated}
use Rattle.fir_block.specs.declared.filter.Fir.{Fir}
use Rattle.fir_block.specs.declared.filter.FirBlock.{FirBlock}
use Rattle.fir_block.specs.Expanded.{IsFir, blocks_of, delay_block, gain_blocks, sum_block, port_block, plain_block, numbered}
use Rattle.mdl_build.specs.declared.expanding.DrawnBlock.{DrawnBlock}
use Rattle.mdl_build.specs.Expanded.{inner_blocks, filling, with_filling, moved_block, expanded_blocks}
use Rattle.mdl_build.proofs.FilterSketch.{IsDrawnModel}

module _ (one other : Decimal) (fir : Fir) (is : IsFir fir) where
  within : (k : ℕ) → 1 ≤ k → k < length fir.coefficients → repeated (length fir.initial) (k - 1) < length fir.initial
  within k from to = by (length fir.initial == 1) refl
    where
      by : (b : Bool) → (length fir.initial == 1) ≡ b → cond b 0 (k - 1) < length fir.initial
      by true e = let single = eqb-true (length fir.initial) 1 e in omega (arith, single)
      by false e = elim is.initial [
        | inl single ↦ absurd (true≢false (sym (eq-eqb (length fir.initial) 1 single) ∙ e))
        | inr each ↦ omega (arith, from, to, each)
      ]

  abbrev delay_with : ℕ → Decimal → FirBlock
  delay_with k initial = record { name = numbered (codes "d") k; block = plain_block (Delay 1 (initial ∷ []) false) Auto 1 }

  delays_same : (from count : ℕ) → 1 ≤ from → from + count ≤ length fir.coefficients → map (delay_block one fir) (range_with_len from count) ≡ map (delay_block other fir) (range_with_len from count)
  delays_same from zero low high = refl
  delays_same from (suc count) low high =
      ap₂ (λ (block : FirBlock) (more : List FirBlock). block ∷ more)
      (ap (delay_with from) (get_or_default fir.initial (repeated (length fir.initial) (from - 1)) one other (within from low (omega (arith, high)))))
      (delays_same (from + 1) count (omega (arith, low)) (omega (arith, high)))

  blocks_same : blocks_of one fir ≡ blocks_of other fir
  blocks_same =
      ap (λ (delays : List FirBlock). port_block (codes "in") ∷ (delays ++ (gain_blocks fir 0 fir.coefficients ++ (sum_block fir ∷ port_block (codes "out") ∷ []))))
      (delays_same 1 (length fir.coefficients - 1) (omega arith) (omega (arith, is.coefficients.0)))

module _ (one other : Decimal) where
  filling_same : (place : ℕ) (filter : Option Fir) → ForSome filter IsFir → filling one place filter ≡ filling other place filter
  filling_same place None is = refl
  filling_same place (Some fir) is = ap (λ (blocks : List FirBlock). inner_blocks place (length blocks) 0 blocks) (blocks_same one other fir (is fir refl))

  all_same : (numbers places : List ℕ) (drawn : List DrawnBlock) → All (λ block. ForSome block.filter IsFir) drawn
      → flat_map (with_filling one numbers) (zip places drawn)
      ≡ flat_map (with_filling other numbers) (zip places drawn)
  all_same numbers [] [] are = refl
  all_same numbers [] (block ∷ drawn) are = refl
  all_same numbers (place ∷ places) [] are = refl
  all_same numbers (place ∷ places) (block ∷ drawn) are =
      flat_map-cons (with_filling one numbers) (place, block) (zip places drawn)
      ∙ ap₂ (λ (filled more : List NestedBlock). (moved_block numbers block.block ∷ filled) ++ more)
      (filling_same place block.filter (All-head (λ (b : DrawnBlock). ForSome b.filter IsFir) block drawn are))
      (all_same numbers places drawn (All-tail (λ (b : DrawnBlock). ForSome b.filter IsFir) block drawn are))
      ∙ sym (flat_map-cons (with_filling other numbers) (place, block) (zip places drawn))

  pub same_expanded : (numbers : List ℕ) (drawn : List DrawnBlock) → All (λ block. ForSome block.filter IsFir) drawn → expanded_blocks one numbers drawn ≡ expanded_blocks other numbers drawn
  same_expanded numbers drawn are = all_same numbers numbers drawn are

pub are_filters : (extents : List ℕ) (drawn : List DrawnBlock) (lines : List NestedLine) → IsDrawnModel extents drawn lines → All (λ block. ForSome block.filter IsFir) drawn
are_filters extents drawn lines model = λ k d below fir is. ((model.filters k (get_or drawn k d) fir (slice_get-get_or drawn k d below) is).1).is_fir
