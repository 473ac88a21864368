-- Numbers are written into a room from its end.
use Rattle.std.proofs.Common.{◌≡◌, ℕ, ◌+◌, ◌-◌, ◌<◌, List, [], ◌∷◌, length, drop, ap, ◌∙◌, arith}
use Rattle.std.specs.Prelude.{slice_set}
use Rattle.std.proofs.Math.ListN.{drop_of_length-le}
use Rattle.std.proofs.lemmas.List.{drop-set}

pub last_set : (room : List ℕ) (number : ℕ) → 0 < length room → drop (length room - 1) (slice_set room (length room - 1) number) ≡ number ∷ []
last_set room number some =
    drop-set room (length room - 1) number (omega (arith, some)) ∙ ap (λ (rest : List ℕ). number ∷ rest) (drop_of_length-le room (omega (arith, some)))

pub before_set : (room : List ℕ) (start number : ℕ) → 0 < start → start < length room → drop (start - 1) (slice_set room (start - 1) number) ≡ number ∷ drop start room
before_set room start number some within =
    let next : start - 1 + 1 ≡ start = omega (arith, some) in
    drop-set room (start - 1) number (omega (arith, within)) ∙ ap (λ (n : ℕ). number ∷ drop n room) next
