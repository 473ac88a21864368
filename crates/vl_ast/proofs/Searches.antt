-- A list that is searched from its front.
use Rattle.std.proofs.Common.{◌≡◌, ℕ, ◌+◌, ◌<◌, Bool, false, List, length, drop, get_or, find, Option, Some, sym, ◌∙◌}
use Rattle.std.proofs.lemmas.Bool.{cond-false}
use Rattle.std.proofs.lemmas.List.{at_drop_more}

-- behind one that doesn't pass the same is found
pub found_later : {A : Type 0} (test : A → Bool) (xs : List A) (i : ℕ) (sought : Option A)
    → find test (drop i xs) ≡ sought → (default : A) → i < length xs → test (get_or xs i default) ≡ false
    → find test (drop (i + 1) xs) ≡ sought
found_later test xs i sought is default below fails =
    sym (cond-false (test (get_or xs i default)) (Some (get_or xs i default)) (find test (drop (i + 1) xs)) fails) ∙ (sym (at_drop_more (find test) xs i default below) ∙ is)
