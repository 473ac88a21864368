-- What the text of a plan says, and its first fault (own). What each line says: `PlanLines`.
use Rattle.std.specs.Prelude.{◌≡◌, ℕ, Bool, true, List, [], ◌∷◌, ◌++◌, Option, None, Some, false, ◌+◌, nat_lt, length, slice_index_or}
use Rattle.std.specs.List.{list_any, filter_map}
use Rattle.std.specs.Str.{bytes_eq}
use Rattle.std.specs.Str.Lines.{lines}
use Rattle.dg_model.specs.declared.plan.Plan.{Plan}
use Rattle.dg_model.specs.declared.plan.Pipeline.{Pipeline}
use Rattle.fx_tables.specs.PlanLines.{Says}
use Rattle.fx_tables.specs.declared.entry.PlanEntry.{PlanEntry}
use Rattle.fx_tables.specs.declared.entry.PlanEntry.TheVariants.{Passed, Cycles, Multipliers, Pipelined}
use Rattle.fx_tables.specs.declared.table.TableFault.{TableFault}
use Rattle.fx_tables.specs.declared.table.TableFault.TheVariants.{Bad}
use Rattle.fx_tables.specs.declared.table.TableCause.TheVariants.{PlanLine}

-- the clocks per base sample that an entry gives
abbrev pub cycles_of : PlanEntry → Option ℕ
cycles_of Passed = None
cycles_of (Cycles count) = Some count
cycles_of (Multipliers count) = None
cycles_of (Pipelined pipeline) = None

-- the shared multipliers that an entry gives
abbrev pub multipliers_of : PlanEntry → Option ℕ
multipliers_of Passed = None
multipliers_of (Cycles count) = None
multipliers_of (Multipliers count) = Some count
multipliers_of (Pipelined pipeline) = None

-- the pipeline that an entry gives
abbrev pub pipeline_of : PlanEntry → Option Pipeline
pipeline_of Passed = None
pipeline_of (Cycles count) = None
pipeline_of (Multipliers count) = None
pipeline_of (Pipelined pipeline) = Some pipeline

-- the entry says again what an earlier one says
abbrev pub is_repeated : List PlanEntry → PlanEntry → Bool
is_repeated earlier Passed = false
is_repeated earlier (Cycles count) = nat_lt 0 (length (filter_map cycles_of earlier))
is_repeated earlier (Multipliers count) = nat_lt 0 (length (filter_map multipliers_of earlier))
is_repeated earlier (Pipelined pipeline) =
    list_any (λ other. bytes_eq other.path pipeline.path) (filter_map pipeline_of earlier)

-- the lines say the entries, one each
abbrev pub SayEach : List (List ℕ) → List PlanEntry → Type 0
SayEach [] [] = Unit {0}
SayEach [] (entry ∷ entries) = ⊥
SayEach (line ∷ lines) [] = ⊥
SayEach (line ∷ lines) (entry ∷ entries) = Says line entry × SayEach lines entries

-- none of the entries says again what an earlier one says
abbrev pub AreOnce : List PlanEntry → List PlanEntry → Type 0
AreOnce earlier [] = Unit {0}
AreOnce earlier (entry ∷ later) =
    (is_repeated earlier entry ≡ false) × AreOnce (earlier ++ entry ∷ []) later

-- the text is that of the plan; where it does not say so, a base sample has one clock, and no
-- multiplier is shared
pub record IsPlan (text : List ℕ) (plan : Plan) : Type 0 where
  pub entries : List PlanEntry
  pub say : SayEach (lines text) entries
  pub once : AreOnce [] entries
  pub clocks : plan.cycles ≡ slice_index_or (filter_map cycles_of entries) 0 1
  pub shared : plan.multipliers ≡ slice_index_or (filter_map multipliers_of entries) 0 0
  pub registers : plan.pipelines ≡ filter_map pipeline_of entries

-- the fault names the first line that says nothing, or says again what an earlier one says
pub record IsPlanFault (text : List ℕ) (fault : TableFault) : Type 0 where
  pub before : List (List ℕ)
  pub bad : List ℕ
  pub after : List (List ℕ)
  pub entries : List PlanEntry
  pub whole : lines text ≡ before ++ bad ∷ after
  pub say : SayEach before entries
  pub once : AreOnce [] entries
  pub is_bad : (entry : PlanEntry) → Says bad entry → is_repeated entries entry ≡ true
  pub is : fault ≡ Bad (length before + 1) PlanLine
