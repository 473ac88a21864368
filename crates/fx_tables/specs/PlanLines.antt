-- The forms that a line of a plan may have, and what each says (own).
use Prim.Native.Char.{code}
use Rattle.std.specs.Prelude.{◌≡◌, ◌≢◌, ◌⊎◌, ◌≤◌, ℕ, true, List, [], ◌∷◌, ◌++◌, codes, IsTrue}
use Rattle.std.specs.List.{list_all}
use Rattle.std.specs.Str.Parse.{digits_value}
use Rattle.dg_model.specs.Limits.{most_cycles}
use Rattle.fx_text.specs.Digits.{is_number}
use Rattle.fx_text.specs.Strings.{IsString}
use Rattle.fx_tables.specs.Fields.{is_blank, fields_of}
use Rattle.fx_tables.specs.declared.entry.PlanEntry.{PlanEntry}
use Rattle.fx_tables.specs.declared.entry.PlanEntry.TheVariants.{Passed, Cycles, Multipliers, Pipelined}

-- blanks alone, or nothing
abbrev pub AreBlanks : List ℕ → Type 0
AreBlanks bytes = IsTrue (list_all is_blank bytes)

-- 1 to 9 digits of a number from `least` to `greatest`
pub record IsCount (least greatest : ℕ) (digits : List ℕ) (count : ℕ) : Type 0 where
  pub short : is_number 9 digits ≡ true
  pub value : digits_value 10 digits ≡ count
  pub low : least ≤ count
  pub high : count ≤ greatest

-- two fields: a word and a count
pub record IsSetting (word line : List ℕ) (least greatest count : ℕ) : Type 0 where
  pub digits : List ℕ
  pub fields : fields_of line ≡ word ∷ digits ∷ []
  pub is_count : IsCount least greatest digits count

-- blanks, `pipeline`, blanks, a quoted path, a blank, and a count as the only field behind it
pub record IsPipelineLine (line path : List ℕ) (count : ℕ) : Type 0 where
  pub before : List ℕ
  pub between : List ℕ
  pub text : List ℕ
  pub next : ℕ
  pub rest : List ℕ
  pub digits : List ℕ
  pub blanks : AreBlanks before
  pub blanks_between : AreBlanks between
  pub some_between : between ≢ []
  pub form : line ≡ before ++ (codes "pipeline" ++ (between ++ code "\"" ∷ text))
  pub is_path : IsString text path (next ∷ rest)
  pub blank_behind : is_blank next ≡ true
  pub one_field : fields_of (next ∷ rest) ≡ digits ∷ []
  pub is_count : IsCount 1 64 digits count

-- a line and what it says: nothing (a blank line or a comment), or one setting
abbrev pub Says : List ℕ → PlanEntry → Type 0
Says line Passed = (fields_of line ≡ []) ⊎ ((comment : List ℕ) × (line ≡ codes "#" ++ comment))
Says line (Cycles count) = IsSetting (codes "cycles") line 1 most_cycles count
Says line (Multipliers count) = IsSetting (codes "multipliers") line 0 64 count
Says line (Pipelined pipeline) = IsPipelineLine line pipeline.path pipeline.count
