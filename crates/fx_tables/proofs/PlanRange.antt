-- A plan that a text says is in range.
use Rattle.std.proofs.Common.{◌≡◌, ◌≢◌, ℕ, ◌≤◌, Bool, true, false, ◌||◌, List, [], ◌∷◌, ◌++◌, bytes_eq, refl, sym, ap, subst, ◌∙◌, arith}
use Rattle.std.specs.Prelude.{slice_index_or}
use Rattle.std.specs.List.{AllByRecursion, filter_map, list_any}
use Rattle.dg_model.specs.declared.plan.Pipeline.{Pipeline}
use Rattle.dg_model.specs.declared.plan.Plan.{Plan}
use Rattle.dg_model.specs.PlanRange.{AreDifferent, IsPlanInRange, IsRegisterCount}
use Rattle.fx_tables.specs.declared.entry.PlanEntry.{PlanEntry}
use Rattle.fx_tables.specs.declared.entry.PlanEntry.TheVariants.{Cycles, Multipliers, Passed, Pipelined}
use Rattle.fx_tables.specs.Plan.{AreOnce, IsPlan, SayEach, cycles_of, multipliers_of, pipeline_of}
use Rattle.std.specs.Str.Lines.{lines}
use Rattle.std.proofs.lemmas.Bool.{false≢true, or_right}
use Rattle.std.proofs.lemmas.List.Elements.{filter_map-append}
use Rattle.std.proofs.lemmas.List.Folds.{list_any-append}
use Rattle.std.proofs.lemmas.Slice.Eq.{bytes_eq-Decides}

-- ---- what the lines say

clocks-in : (said : List (List ℕ)) (entries : List PlanEntry) → SayEach said entries
    → (1 ≤ slice_index_or (filter_map cycles_of entries) 0 1)
    × (slice_index_or (filter_map cycles_of entries) 0 1 ≤ 1024)
clocks-in said [] say = (omega arith, omega arith)
clocks-in [] (entry ∷ entries) say = absurd say
clocks-in (line ∷ said) (Passed ∷ entries) say = clocks-in said entries say.1
clocks-in (line ∷ said) (Cycles count ∷ entries) say = (say.0.is_count.low, say.0.is_count.high)
clocks-in (line ∷ said) (Multipliers count ∷ entries) say = clocks-in said entries say.1
clocks-in (line ∷ said) (Pipelined pipeline ∷ entries) say = clocks-in said entries say.1

multipliers-in : (said : List (List ℕ)) (entries : List PlanEntry) → SayEach said entries → slice_index_or (filter_map multipliers_of entries) 0 0 ≤ 64
multipliers-in said [] say = omega arith
multipliers-in [] (entry ∷ entries) say = absurd say
multipliers-in (line ∷ said) (Passed ∷ entries) say = multipliers-in said entries say.1
multipliers-in (line ∷ said) (Cycles count ∷ entries) say = multipliers-in said entries say.1
multipliers-in (line ∷ said) (Multipliers count ∷ entries) say = say.0.is_count.high
multipliers-in (line ∷ said) (Pipelined pipeline ∷ entries) say = multipliers-in said entries say.1

counts-in : (said : List (List ℕ)) (entries : List PlanEntry) → SayEach said entries → AllByRecursion IsRegisterCount (filter_map pipeline_of entries)
counts-in said [] say = tt
counts-in [] (entry ∷ entries) say = absurd say
counts-in (line ∷ said) (Passed ∷ entries) say = counts-in said entries say.1
counts-in (line ∷ said) (Cycles count ∷ entries) say = counts-in said entries say.1
counts-in (line ∷ said) (Multipliers count ∷ entries) say = counts-in said entries say.1
counts-in (line ∷ said) (Pipelined pipeline ∷ entries) say = ((say.0.is_count.low, say.0.is_count.high), counts-in said entries say.1)

-- ---- no block is named twice

-- some entry is a pipeline behind this path
abbrev is-named : List ℕ → List PlanEntry → Bool
is-named path entries = list_any (λ other. bytes_eq other.path path) (filter_map pipeline_of entries)

named-more : (path : List ℕ) (earlier : List PlanEntry) (entry : PlanEntry) → is-named path earlier ≡ true → is-named path (earlier ++ entry ∷ []) ≡ true
named-more path earlier entry named =
    ap (list_any (λ other. bytes_eq other.path path)) (filter_map-append pipeline_of earlier (entry ∷ []))
    ∙ list_any-append (λ (other : Pipeline). bytes_eq other.path path) (filter_map pipeline_of earlier) (filter_map pipeline_of (entry ∷ []))
    ∙ ap (λ b. b || is-named path (entry ∷ [])) named

named-last : (earlier : List PlanEntry) (pipeline : Pipeline) → is-named pipeline.path (earlier ++ Pipelined pipeline ∷ []) ≡ true
named-last earlier pipeline =
    ap (list_any (λ other. bytes_eq other.path pipeline.path)) (filter_map-append pipeline_of earlier (Pipelined pipeline ∷ []))
    ∙ list_any-append (λ (other : Pipeline). bytes_eq other.path pipeline.path) (filter_map pipeline_of earlier) (pipeline ∷ [])
    ∙ or_right (is-named pipeline.path earlier) (bytes_eq pipeline.path pipeline.path || false) (ap (λ b. b || false) ((bytes_eq-Decides pipeline.path pipeline.path).1 refl))

apart-from : (path : List ℕ) (earlier entries : List PlanEntry) → AreOnce earlier entries
    → is-named path earlier ≡ true
    → AllByRecursion (λ (other : Pipeline). path ≢ other.path) (filter_map pipeline_of entries)
apart-from path earlier [] once named = tt
apart-from path earlier (Passed ∷ entries) once named = apart-from path (earlier ++ Passed ∷ []) entries once.1 (named-more path earlier Passed named)
apart-from path earlier (Cycles count ∷ entries) once named = apart-from path (earlier ++ Cycles count ∷ []) entries once.1 (named-more path earlier (Cycles count) named)
apart-from path earlier (Multipliers count ∷ entries) once named = apart-from path (earlier ++ Multipliers count ∷ []) entries once.1 (named-more path earlier (Multipliers count) named)
apart-from path earlier (Pipelined pipeline ∷ entries) once named = (
  λ same. false≢true (sym once.0 ∙ ap (λ p. is-named p earlier) (sym same) ∙ named),
  apart-from path (earlier ++ Pipelined pipeline ∷ []) entries once.1 (named-more path earlier (Pipelined pipeline) named),
)

all-apart : (earlier entries : List PlanEntry) → AreOnce earlier entries → AreDifferent (filter_map pipeline_of entries)
all-apart earlier [] once = tt
all-apart earlier (Passed ∷ entries) once = all-apart (earlier ++ Passed ∷ []) entries once.1
all-apart earlier (Cycles count ∷ entries) once = all-apart (earlier ++ Cycles count ∷ []) entries once.1
all-apart earlier (Multipliers count ∷ entries) once = all-apart (earlier ++ Multipliers count ∷ []) entries once.1
all-apart earlier (Pipelined pipeline ∷ entries) once = (
  apart-from pipeline.path (earlier ++ Pipelined pipeline ∷ []) entries once.1 (named-last earlier pipeline),
  all-apart (earlier ++ Pipelined pipeline ∷ []) entries once.1,
)

-- ---- the plan

pub in-range : (text : List ℕ) (plan : Plan) → IsPlan text plan → IsPlanInRange plan
in-range text plan is =
    let clocks = clocks-in (lines text) is.entries is.say in
    record {
      some_clocks = subst (λ n. 1 ≤ n) (sym is.clocks) clocks.0;
      few_clocks = subst (λ n. n ≤ 1024) (sym is.clocks) clocks.1;
      few_multipliers = subst (λ n. n ≤ 64) (sym is.shared) (multipliers-in (lines text) is.entries is.say);
      counts = subst (λ (pipelines : List Pipeline). AllByRecursion IsRegisterCount pipelines) (sym is.registers) (counts-in (lines text) is.entries is.say);
      different = subst AreDifferent (sym is.registers) (all-apart [] is.entries is.once);
    }
