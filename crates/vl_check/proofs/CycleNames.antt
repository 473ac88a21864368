-- The names of a cycle from a place on.
use Rattle.std.proofs.Common.{◌≡◌, ◌<◌, ◌≤◌, ◌+◌, ⊎_elim, ℕ, List, [], ◌∷◌, ◌++◌, length, slice_index_or, sym, ap, ◌∙◌, arith}
use Rattle.std.proofs.lemmas.Bool.{cases_lt}
use Rattle.std.proofs.lemmas.List.{get_or_append_left, get_or_push}

-- one more name of a turned cycle
pub turned-more : (turned turned' : List (List ℕ)) (text : List ℕ) (of : ℕ → List ℕ) (n : ℕ) → turned' ≡ turned ++ text ∷ [] → text ≡ of n → length turned ≡ n
    → ((k : ℕ) (d : List ℕ) → k < n → slice_index_or turned k d ≡ of k) → (k : ℕ) (d : List ℕ) → k < n + 1 → slice_index_or turned' k d ≡ of k
turned-more turned turned' text of n grown is long each k d below = ap (λ xs. slice_index_or xs k d) grown ∙ ⊎_elim
    (λ (less : k < n). get_or_append_left turned (text ∷ []) d k (omega (arith, less, long)) ∙ each k d less)
    (λ (most : n ≤ k). let same : k ≡ n = omega (arith, most, below) in get_or_push turned text d k (long ∙ sym same) ∙ is ∙ ap of (sym same))
    (cases_lt k n)
