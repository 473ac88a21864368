-- One more byte of a name stands between quotes as it is.
use Rattle.std.proofs.Common.{◌≡◌, ℕ, suc, ◌+◌, ◌<◌, List, [], ◌∷◌, ◌++◌, length, take, ap, sym, ◌∙◌, arith}
use Rattle.std.specs.Prelude.{slice_index_or}
use Rattle.std.specs.List.{flat_map}
use Rattle.std.proofs.Math.Seq.{take-suc}
use Rattle.std.proofs.lemmas.List.{append_assoc, append-nil}
use Rattle.cmd_model.specs.RuleLine.{quoted_byte}

last : (xs : List ℕ) (x : ℕ) → flat_map quoted_byte (xs ++ x ∷ []) ≡ flat_map quoted_byte xs ++ quoted_byte x
last [] x = append-nil (quoted_byte x)
last (y ∷ xs) x = ap (λ (rest : List ℕ). quoted_byte y ++ rest) (last xs x) ∙ sym (append_assoc (quoted_byte y) (flat_map quoted_byte xs) (quoted_byte x))

pub plain_more : (name : List ℕ) (count d : ℕ) → count < length name
    → flat_map quoted_byte (take count name) ≡ take count name
    → quoted_byte (slice_index_or name count d) ≡ slice_index_or name count d ∷ []
    → flat_map quoted_byte (take (count + 1) name) ≡ take (count + 1) name
plain_more name count d below before one =
    let next : count + 1 ≡ suc count = omega arith in
    let cut = ap (λ (n : ℕ). take n name) next ∙ take-suc name count d below in
    ap (flat_map quoted_byte) cut ∙ last (take count name) (slice_index_or name count d)
    ∙ ap (λ (xs : List ℕ). xs ++ quoted_byte (slice_index_or name count d)) before
    ∙ ap (λ (xs : List ℕ). take count name ++ xs) one ∙ sym cut
