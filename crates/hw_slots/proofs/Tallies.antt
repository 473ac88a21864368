-- A tally tells levels of owners apart as they are.
use Rattle.std.proofs.Common.{◌≡◌, ℕ, List, Option, Some, Bool, true, false, cond, ◌==◌, refl, sym, ap, ◌∙◌}
use Rattle.std.specs.Prelude.{◌&&◌}
use Rattle.std.specs.BTreeMap.{is_at}
use Rattle.std.specs.Map.{lookup}
use Rattle.std.specs.Option.{unwrap_or}
use Rattle.std.specs.Ordering.{nat_cmp, is_eq}
use Rattle.std.specs.Cmp.{tied_then}
use Rattle.std.proofs.lemmas.Bool.{false≢true}
use Rattle.hw_slots.specs.inner.Tally.{compare_rungs, tally_at}
use Rattle.math_list.proofs.Sums.{tied_number}

pub same-rung : (owner level other later : ℕ) → is_eq (compare_rungs (owner, level) (other, later)) ≡ ((owner == other) && (level == later))
same-rung owner level other later =
    let p = tied_number owner other in
    let q = tied_number level later in
    sym (tied_then (nat_cmp owner other) (nat_cmp level later)) ∙ rw (p, q) refl

-- what a tally has after a number was put
pub found_at : (owner level other later number : ℕ) (old new : List ((ℕ × ℕ) × ℕ))
    → lookup (is_at (compare_rungs (other, later))) new
    ≡ cond (is_eq (compare_rungs (owner, level) (other, later))) (Some number)
    (lookup (is_at (compare_rungs (other, later))) old)
    → tally_at new other later ≡ cond ((owner == other) && (level == later)) number (tally_at old other later)
found_at owner level other later number old new e =
    ap (λ (o : Option ℕ). unwrap_or o 0) e ∙ go (is_eq (compare_rungs (owner, level) (other, later))) ((owner == other) && (level == later)) (same-rung owner level other later)
  where
    go : (a b : Bool) → a ≡ b → unwrap_or (cond a (Some number) (lookup (is_at (compare_rungs (other, later))) old)) 0 ≡ cond b number (tally_at old other later)
    go true true e = refl
    go true false e = absurd (false≢true (sym e))
    go false true e = absurd (false≢true e)
    go false false e = refl
