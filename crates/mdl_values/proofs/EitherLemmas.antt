-- A text that is read in one of two ways.
use Rattle.std.proofs.Common.{◌⊎◌, inl, inr, Option, None, Some, Result, Ok, Err}
use Rattle.std.specs.Prelude.{IfOk}
use Rattle.mdl_values.specs.Reads.{Finds}

neither : {A : Type 0} (R S : A → Type 0) (value : A) → ((v : A) → ¬ R v) → ((v : A) → ¬ S v) → R value ⊎ S value → ⊥
neither R S value first second (inl read) = first value read
neither R S value first second (inr read) = second value read

-- where it isn't read in the first way, the second is all that is left
pub other_found : {A E : Type 0} (R S : A → Type 0) (r : Result (Option A) E) → ((v : A) → ¬ R v) → IfOk r (λ found. Finds S found) → IfOk r (λ found. Finds (λ v. R v ⊎ S v) found)
other_found R S (Ok None) none h = λ value. neither R S value none h
other_found R S (Ok (Some value)) none h = inr h
other_found R S (Err e) none h = h
