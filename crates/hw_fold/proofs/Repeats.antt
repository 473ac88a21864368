-- Lists of nets whose roots are the same, one by one.
use Rattle.std.proofs.Common.{◌≡◌, ℕ, suc, ◌<◌, List, [], ◌∷◌, map, length, slice_index, refl, arith}

pub maps-same : (f : ℕ → ℕ) (xs ys : List ℕ) → length xs ≡ length ys → ((j : ℕ) → j < length xs → f (slice_index xs j) ≡ f (slice_index ys j)) → map f xs ≡ map f ys
maps-same f [] [] long each = refl
maps-same f [] (y ∷ ys) long each = absurd (omega (arith, long))
maps-same f (x ∷ xs) [] long each = absurd (omega (arith, long))
maps-same f (x ∷ xs) (y ∷ ys) long each =
    let a = each 0 (omega arith) in
    let b = maps-same f xs ys (omega (arith, long)) (λ j below. each (suc j) (omega (arith, below))) in
    λ i. a i ∷ b i
