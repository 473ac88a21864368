-- Ways back from a block over what blocks read (own).
use Rattle.std.specs.Prelude.{◌≡◌, ℕ, zero, suc, List}
use Rattle.dg_sort.specs.Rows.{Reads}

-- so many readings lead from a block back to another
abbrev pub LeadsBackIn : List (List ℕ) → ℕ → ℕ → ℕ → Type 0
LeadsBackIn rows zero block source = block ≡ source
LeadsBackIn rows (suc steps) block source =
    (next : ℕ) × Reads rows block next × LeadsBackIn rows steps next source

-- readings lead from a block back to another
pub record LeadsBack (rows : List (List ℕ)) (block source : ℕ) : Type 0 where
  pub steps : ℕ
  pub walk : LeadsBackIn rows steps block source

-- some readings lead from a block back to itself
pub record IsOnCycle (rows : List (List ℕ)) (block : ℕ) : Type 0 where
  pub next : ℕ
  pub reads : Reads rows block next
  pub back : LeadsBack rows next block
