-- Elements that were gathered, with those of the pieces that are left.
use Rattle.std.proofs.Common.{◌≡◌, ℕ, suc, List, [], ◌∷◌, length, Option, None, Some}
use Rattle.std.specs.Prelude.{MatchOption}
use Rattle.std.specs.Borrow.{Bor}
use Rattle.mdl_values.specs.Pieces.{pieces_at}

-- the pieces that are left
abbrev pub left : ℕ → Option (Bor (List ℕ)) → List (List ℕ)
left separator None = []
left separator (Some rest) = pieces_at separator rest.now

-- how much that is
abbrev pub left_size : Option (Bor (List ℕ)) → ℕ
left_size None = 0
left_size (Some rest) = suc (length rest.now)

-- a piece that was cut off, and what is left
pub cut_left : (separator : ℕ) (text piece : List ℕ) (after : Option (Bor (List ℕ)))
    → MatchOption after (pieces_at separator text ≡ piece ∷ []) (λ rest. pieces_at separator text ≡ piece ∷ pieces_at separator rest.now)
    → pieces_at separator text ≡ piece ∷ left separator after
cut_left separator text piece None h = h
cut_left separator text piece (Some rest) h = h
