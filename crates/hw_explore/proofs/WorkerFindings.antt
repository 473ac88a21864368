-- What workers found of numbers in order is found of each number.
use Rattle.std.proofs.Common.{◌≡◌, ℕ, ◌+◌, ◌<◌, List, [], ◌∷◌, length, map, Ok, Some, Option, ap, subst, ◌∙◌, arith}
use Rattle.std.specs.Prelude.{slice_get, IfOk, IsSomeAnd, MatchOption, Result}
use Rattle.std.specs.List.{AllZip, range_with_len}
use Rattle.std.proofs.lemmas.List.FromFn.{length-range_with_len, get_or-range_with_len}
use Rattle.std.proofs.lemmas.Option.{slice_get_within, slice_get-get_or}
use Rattle.std.proofs.lemmas.Slice.Zip.{AllZip-long, AllZip-right}
use Rattle.fx_io.specs.declared.fault.OutOfMemory.{OutOfMemory}
use Rattle.hw_explore.specs.declared.finding.Finding.{Finding}

module _ (P : ℕ → Finding → Type 0) (from count : ℕ) (rows : List Finding) (all : AllZip P (range_with_len from count) rows) where
  pub found_size : length rows ≡ count
  found_size = AllZip-long P (range_with_len from count) rows all ∙ length-range_with_len from count

  pub found_each : (place : ℕ) (row : Finding) → slice_get rows place ≡ Some row → P (from + place) row
  found_each place row at =
      let size = found_size in
      let within = slice_get_within rows place row at in
      let below : place < count = omega (arith, size, within) in
      let wide = length-range_with_len from count in
      let is : slice_get (range_with_len from count) place ≡ Some (from + place) =
      slice_get-get_or (range_with_len from count) place 0 (omega (arith, below, wide)) ∙ ap Some (get_or-range_with_len from count place 0 below) in
      let right = subst (λ (o : Option Finding). MatchOption o (Unit {0})
      (λ y. IsSomeAnd (slice_get (range_with_len from count) place) (λ x. P x y))) at
      (AllZip-right P (range_with_len from count) rows all place) in
      subst (λ (o : Option ℕ). IsSomeAnd o (λ x. P x row)) is right

-- and where no worker was without memory it is found so
pub found_all : (P : ℕ → Finding → Type 0) (numbers : List ℕ) (rows : List Finding)
    → AllZip (λ place (row : Result Finding OutOfMemory). IfOk row (P place)) numbers (map Ok rows)
    → AllZip P numbers rows
found_all P [] [] all = tt
found_all P [] (row ∷ rows) all = absurd all
found_all P (number ∷ numbers) [] all = absurd all
found_all P (number ∷ numbers) (row ∷ rows) all = (all.0, found_all P numbers rows all.1)
