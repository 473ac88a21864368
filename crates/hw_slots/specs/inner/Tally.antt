-- A number at each level of some owners, 0 where none was put (own).
use Rattle.std.specs.Prelude.{ℕ, List}
use Rattle.std.specs.declared.cmp.Ordering.{Ordering}
use Rattle.std.specs.Ordering.{nat_cmp, then_cmp, on}
use Rattle.std.specs.BTreeMap.{is_at}
use Rattle.std.specs.Map.{lookup}
use Rattle.std.specs.Option.{unwrap_or}

-- the order in which a tally has levels of owners
abbrev pub compare_rungs : ℕ × ℕ → ℕ × ℕ → Ordering
compare_rungs =
    then_cmp (on (λ (rung : ℕ × ℕ). rung.0) nat_cmp)
    (on (λ (rung : ℕ × ℕ). rung.1) nat_cmp)

-- the number at a level of an owner
abbrev pub tally_at : List ((ℕ × ℕ) × ℕ) → ℕ → ℕ → ℕ
tally_at entries owner level = unwrap_or (lookup (is_at (compare_rungs (owner, level))) entries) 0
