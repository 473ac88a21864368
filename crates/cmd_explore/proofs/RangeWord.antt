-- A word cut at a mark.
use Prim.Native.Char.{code}
use Rattle.std.proofs.Common.{◌≡◌, ℕ, ◌+◌, Bool, true, false, cond, List, take, drop, Option, None, codes, sym, ap, ap₂, ◌∙◌}
use Rattle.std.specs.Prelude.{nat_eq}
use Rattle.std.specs.List.{starts_with}
use Rattle.hw_explore.specs.declared.range.Ends.{Ends}
use Rattle.cmd_explore.specs.RangeWord.{before, behind, first_of, plain_number, ends_by, ends_of, range_by, range_of}

-- at the first point, which these bytes begin with
module _ (word rest : List ℕ) (place : ℕ) (is : place ≡ first_of (code ".") word) (rest_is : rest ≡ drop place word) where
  ends_if : Bool → Option Ends
  ends_if b = cond b (ends_by (plain_number (before (code ".") word)) (plain_number (behind (code ".") 2 word))) None

  ends_are : (b : Bool) → starts_with nat_eq rest (codes "..") ≡ b → ends_of word ≡ ends_if b
  unfolding ends_if
  ends_are b dots =
      ap (λ (b : Bool). cond b (ends_by (plain_number (before (code ".") word)) (plain_number (behind (code ".") 2 word))) None)
      (ap (λ (n : ℕ). starts_with nat_eq (drop n word) (codes "..")) (sym is) ∙ ap (λ (bytes : List ℕ). starts_with nat_eq bytes (codes "..")) (sym rest_is) ∙ dots)

  pub no_points : starts_with nat_eq rest (codes "..") ≡ false → None ≡ ends_of word
  unfolding ends_if
  no_points none = sym (ends_are false none)

  pub ended : (low high : Option ℕ) → starts_with nat_eq rest (codes "..") ≡ true → low ≡ plain_number (take place word) → high ≡ plain_number (drop (place + 2) word) → ends_by low high ≡ ends_of word
  unfolding ends_if
  ended low high points low_is high_is =
      ap₂ ends_by (low_is ∙ ap (λ (n : ℕ). plain_number (take n word)) is) (high_is ∙ ap (λ (n : ℕ). plain_number (drop (n + 2) word)) is)
      ∙ sym (ends_are true points)

-- at the first comma
pub ranged : (word : List ℕ) (place : ℕ) (cycles multipliers : Option Ends) → place ≡ first_of (code ",") word → cycles ≡ ends_of (take place word) → multipliers ≡ ends_of (drop (place + 1) word)
    → range_by cycles multipliers ≡ range_of word
ranged word place cycles multipliers is cycles_is multipliers_is =
    ap₂ range_by (cycles_is ∙ ap (λ (n : ℕ). ends_of (take n word)) is) (multipliers_is ∙ ap (λ (n : ℕ). ends_of (drop (n + 1) word)) is)
