-- What a piece of a net is written as, by where it lies.
use Rattle.std.proofs.Common.{◌≡◌, ◌∙◌, ℕ, ◌+◌, ◌-◌, ◌<◌, ◌≤◌, nat_le, [], ◌∷◌}
use Rattle.std.proofs.lemmas.Bool.{cond-false, cond-true, le-leb, lt-leb}
use Rattle.vl_ast.specs.declared.expressions.Expr.TheVariants.{Concat}
use Rattle.vl_emit.specs.Names.{Wire}
use Rattle.vl_emit.specs.inner.Operators.{slice_at}
use Rattle.vl_emit.specs.inner.Pieces.{fill, inside, piece, zeros}

module _ (wire : Wire) (low width : ℕ) where
  pub piece-past : wire.width ≤ low → piece wire low width ≡ fill wire width
  piece-past h = cond-true (nat_le wire.width low) (fill wire width) _ (le-leb wire.width low h)

  pub piece-inside : low < wire.width → low + width ≤ wire.width → piece wire low width ≡ inside wire low width
  piece-inside h k =
      cond-false (nat_le wire.width low) (fill wire width) _ (lt-leb wire.width low h)
      ∙ cond-true (nat_le (low + width) wire.width) (inside wire low width) _ (le-leb (low + width) wire.width k)

  pub piece-over : low < wire.width → wire.width < low + width
      → piece wire low width ≡ Concat (fill wire (low + width - wire.width) ∷ inside wire low (wire.width - low) ∷ [])
  piece-over h k =
      cond-false (nat_le wire.width low) (fill wire width) _ (lt-leb wire.width low h)
      ∙ cond-false (nat_le (low + width) wire.width) (inside wire low width) _ (lt-leb (low + width) wire.width k)

  pub slice-short : (count : ℕ) → width ≤ count → slice_at width wire low count ≡ piece wire low width
  slice-short count h = cond-true (nat_le width count) (piece wire low width) _ (le-leb width count h)

  pub slice-long : (count : ℕ) → count < width → slice_at width wire low count ≡ Concat (zeros (width - count) ∷ piece wire low count ∷ [])
  slice-long count h = cond-false (nat_le width count) (piece wire low width) _ (lt-leb width count h)
