-- What one more line leaves of a draft.
use Rattle.std.proofs.Common.{◌≡◌, ℕ, Bool, true, false, not, cond, None, Some, Option, Ordering, List, [], ◌∷◌, ◌++◌, length, refl, sym, ap, subst, ◌∙◌, append-nil}
use Rattle.std.specs.Prelude.{◌||◌, nat_lt, Vec}
use Rattle.std.specs.Global.{Global}
use Rattle.std.specs.Bool.{OnTrue}
use Rattle.std.specs.List.{list_any, filter_map, cons_option}
use Rattle.std.specs.Option.{is_none, option_to_list}
use Rattle.std.specs.Str.{bytes_eq}
use Rattle.std.specs.Cmp.Lexicographic.{slice_cmp}
use Rattle.std.specs.Ordering.{nat_cmp}
use Rattle.std.specs.BTreeSet.{BTreeSet, contains, Updates}
use Rattle.std.proofs.lemmas.Bool.{OnTrue_at, OnTrue_from, false≢true}
use Rattle.std.proofs.lemmas.List.Elements.{filter_map-append}
use Rattle.std.proofs.lemmas.List.Folds.{list_any-append}
use Rattle.std.proofs.lemmas.Map.Text.{is_eq-slice_cmp}
use Rattle.dg_model.specs.declared.plan.Pipeline.{Pipeline}
use Rattle.fx_tables.specs.Plan.{cycles_of, multipliers_of, pipeline_of, is_repeated}
use Rattle.fx_tables.specs.inner.Draft.{Describes}
use Rattle.fx_tables.specs.declared.entry.PlanEntry.{PlanEntry}
use Rattle.fx_tables.specs.declared.entry.PlanEntry.TheVariants.{Passed, Cycles, Multipliers, Pipelined}
use Rattle.fx_tables.specs.declared.draft.Draft.{Draft}

single : {X : Type 0} (o : Option X) → cons_option o [] ≡ option_to_list o
single None = refl
single (Some x) = refl

pub said : {X : Type 0} (says : PlanEntry → Option X) (earlier : List PlanEntry) (entry : PlanEntry) → filter_map says (earlier ++ entry ∷ []) ≡ filter_map says earlier ++ option_to_list (says entry)
said says earlier entry =
    filter_map-append says earlier (entry ∷ []) ∙ ap (λ l. filter_map says earlier ++ l) (single (says entry))

none_said : (old : Option ℕ) (numbers : List ℕ) → numbers ≡ option_to_list old → is_none old ≡ not (nat_lt 0 (length numbers))
none_said None numbers is = ap (λ l. not (nat_lt 0 (length l))) (sym is)
none_said (Some number) numbers is = ap (λ l. not (nat_lt 0 (length l))) (sym is)

none_from : (old : Option ℕ) → is_none old ≡ true → old ≡ None
none_from None is = refl
none_from (Some number) is = absurd (false≢true is)

pub add_passed : (draft : Draft) (earlier : List PlanEntry) → Describes draft earlier → Describes draft (earlier ++ Passed ∷ [])
add_passed draft earlier d = record {
  clocks = said cycles_of earlier Passed ∙ append-nil (filter_map cycles_of earlier) ∙ d.clocks;
  shared = said multipliers_of earlier Passed ∙ append-nil (filter_map multipliers_of earlier) ∙ d.shared;
  registers = said pipeline_of earlier Passed ∙ append-nil (filter_map pipeline_of earlier) ∙ d.registers;
  paths = d.paths;
}

one_number : (numbers : List ℕ) (old slot : Option ℕ) (count : ℕ) → numbers ≡ option_to_list old → is_none old ≡ true → slot ≡ Some count → numbers ++ count ∷ [] ≡ option_to_list slot
one_number numbers old slot count is none set =
    ap (λ l. l ++ count ∷ []) (is ∙ ap option_to_list (none_from old none)) ∙ ap option_to_list (sym set)

pub add_cycles : (draft : Draft) (earlier : List PlanEntry) (count : ℕ) (new : Bool) (slot : Option ℕ)
    → new ≡ is_none draft.cycles → OnTrue new (slot ≡ Some count) → Describes draft earlier
    → (new ≡ not (is_repeated earlier (Cycles count)))
    × OnTrue new (Describes (record draft { cycles = slot }) (earlier ++ Cycles count ∷ []))
add_cycles draft earlier count new slot fresh set d = (
  fresh ∙ none_said draft.cycles (filter_map cycles_of earlier) d.clocks,
  OnTrue_from new (Describes (record draft { cycles = slot }) (earlier ++ Cycles count ∷ [])) (λ yes. record {
    clocks = said cycles_of earlier (Cycles count) ∙ one_number (filter_map cycles_of earlier) draft.cycles slot count d.clocks (sym fresh ∙ yes) (OnTrue_at yes set);
    shared = said multipliers_of earlier (Cycles count) ∙ append-nil (filter_map multipliers_of earlier) ∙ d.shared;
    registers = said pipeline_of earlier (Cycles count) ∙ append-nil (filter_map pipeline_of earlier) ∙ d.registers;
    paths = d.paths;
  }),
)

pub add_multipliers : (draft : Draft) (earlier : List PlanEntry) (count : ℕ) (new : Bool) (slot : Option ℕ)
    → new ≡ is_none draft.multipliers → OnTrue new (slot ≡ Some count) → Describes draft earlier
    → (new ≡ not (is_repeated earlier (Multipliers count)))
    × OnTrue new (Describes (record draft { multipliers = slot }) (earlier ++ Multipliers count ∷ []))
add_multipliers draft earlier count new slot fresh set d = (
  fresh ∙ none_said draft.multipliers (filter_map multipliers_of earlier) d.shared,
  OnTrue_from new (Describes (record draft { multipliers = slot }) (earlier ++ Multipliers count ∷ [])) (λ yes. record {
    clocks = said cycles_of earlier (Multipliers count) ∙ append-nil (filter_map cycles_of earlier) ∙ d.clocks;
    shared = said multipliers_of earlier (Multipliers count) ∙ one_number (filter_map multipliers_of earlier) draft.multipliers slot count d.shared (sym fresh ∙ yes) (OnTrue_at yes set);
    registers = said pipeline_of earlier (Multipliers count) ∙ append-nil (filter_map pipeline_of earlier) ∙ d.registers;
    paths = d.paths;
  }),
)

-- the order of the paths
abbrev pub path_cmp : Vec ℕ Global → Vec ℕ Global → Ordering
path_cmp x y = slice_cmp nat_cmp x.items y.items

either : (a b : Bool) → cond a true b ≡ (b || (a || false))
either true true = refl
either true false = refl
either false true = refl
either false false = refl

pub more_paths : (old new : BTreeSet (Vec ℕ Global)) (pipelines : List Pipeline) (pipeline : Pipeline)
    (key path : Vec ℕ Global) → key.items ≡ pipeline.path
    → contains path_cmp old path ≡ list_any (λ other. bytes_eq other.path path.items) pipelines
    → Updates path_cmp old new key true
    → contains path_cmp new path
    ≡ list_any (λ other. bytes_eq other.path path.items) (pipelines ++ pipeline ∷ [])
more_paths old new pipelines pipeline key path is before updates =
    updates.0 path
    ∙ ap (λ found. cond found true (contains path_cmp old path)) (is_eq-slice_cmp key.items path.items ∙ ap (λ items. bytes_eq items path.items) is)
    ∙ ap (λ had. cond (bytes_eq pipeline.path path.items) true had) before
    ∙ either (bytes_eq pipeline.path path.items) (list_any (λ other. bytes_eq other.path path.items) pipelines)
    ∙ sym (list_any-append (λ other. bytes_eq other.path path.items) pipelines (pipeline ∷ []))

-- a path that was there already
pub path_repeated : (draft : Draft) (earlier : List PlanEntry) (pipeline : Pipeline) (key : Vec ℕ Global)
    → key.items ≡ pipeline.path → Describes draft earlier
    → contains path_cmp draft.paths key ≡ is_repeated earlier (Pipelined pipeline)
path_repeated draft earlier pipeline key is d =
    d.paths key
    ∙ ap (λ items. list_any (λ other. bytes_eq other.path items) draft.pipelines) is
    ∙ ap (list_any (λ other. bytes_eq other.path pipeline.path)) (sym d.registers)

pub add_path : (draft : Draft) (earlier : List PlanEntry) (pipeline : Pipeline) (key : Vec ℕ Global)
    (paths : BTreeSet (Vec ℕ Global)) (pipelines : List Pipeline) → key.items ≡ pipeline.path
    → Updates path_cmp draft.paths paths key true → pipelines ≡ draft.pipelines ++ pipeline ∷ []
    → Describes draft earlier → Describes (record draft { pipelines = pipelines; paths = paths })
    (earlier ++ Pipelined pipeline ∷ [])
add_path draft earlier pipeline key paths pipelines is updates pushed d = record {
  clocks = said cycles_of earlier (Pipelined pipeline) ∙ append-nil (filter_map cycles_of earlier) ∙ d.clocks;
  shared = said multipliers_of earlier (Pipelined pipeline) ∙ append-nil (filter_map multipliers_of earlier) ∙ d.shared;
  registers = said pipeline_of earlier (Pipelined pipeline) ∙ ap (λ l. l ++ pipeline ∷ []) d.registers ∙ sym pushed;
  paths = λ path.
      more_paths draft.paths paths draft.pipelines pipeline key path is (d.paths path) updates
      ∙ ap (list_any (λ other. bytes_eq other.path path.items)) (sym pushed);
}

-- what an entry leaves, where it is known which it is
abbrev pub Added : List PlanEntry → PlanEntry → Bool → Draft → Type 0
Added earlier entry new draft = (new ≡ not (is_repeated earlier entry)) × OnTrue new (Describes draft (earlier ++ entry ∷ []))

pub Added-as : (earlier : List PlanEntry) (entry other : PlanEntry) (new : Bool) (draft : Draft) → entry ≡ other → Added earlier other new draft → Added earlier entry new draft
Added-as earlier entry other new draft is added = subst (λ (e : PlanEntry). Added earlier e new draft) (sym is) added
