-- Modules and a plan that are one item wrong are not owed.
use Rattle.std.proofs.Common.{◌≡◌, ◌≢◌, ⊎_elim, ℕ, ◌+◌, ◌*◌, List, [], ◌∷◌, Some, length, Contains, refl, sym, ap, subst, ◌∙◌, arith, codes}
use Rattle.std.specs.Prelude.{slice_index, slice_index_or}
use Rattle.std.specs.Fmt.{digits}
use Rattle.std.proofs.Math.Dec.{lit<}
use Rattle.std.proofs.lemmas.Bool.{cases_eq}
use Rattle.std.proofs.lemmas.Option.{same_Some}
use Rattle.dg_model.specs.Attributes.{attributes_of}
use Rattle.cmd_check.specs.Paths.{IsTightPath}
use Rattle.dg_model.specs.Hits.{Hits}
use Rattle.dg_model.specs.Signals.{Attributes}
use Rattle.hw_arcs.specs.Latencies.{latency_at}
use Rattle.hw_build.specs.Multiplied.{multiplication_name}
use Rattle.hw_build.specs.Pipelined.{stage_name}
use Rattle.hw_build.specs.Serving.{clock_of}
use Rattle.hw_module.specs.Design.{IsModuleOf}
use Rattle.hw_names.specs.Names.{IsNumbered, numbered}
use Rattle.hw_sched.specs.Laws.{IsOperation}
use Rattle.hw_sched.specs.Slots.{operation, slot_of, unit_of}
use Rattle.hw_shows.proofs.RuleTests.{Columns, IsTried, attributes_in, attributes_tried}
use Rattle.vl_ast.specs.declared.expressions.Expr.TheOpen.{Expr-F}
use Rattle.vl_ast.specs.declared.expressions.Expr.TheFolds.{fold-roll-Expr}
use Rattle.vl_ast.specs.declared.expressions.Expr.TheVariants.{Name, rolls-Name}
use Rattle.vl_ast.specs.declared.modules.Module.{Module}
use Rattle.vl_ast.specs.declared.modules.ModItem.TheVariants.{Assign}
use Rattle.vl_ast.specs.Items.{IsWire, registers}
use Rattle.vl_ast.specs.Nets.{names_read, names_step}
use Rattle.tests_premises.specs.Neighbours.{AreNotOwed, crowded, crowded_diagram, crowded_timing}
use Rattle.tests_premises.specs.Owed.{plain, plain_timing, twice, twice_timing}
use Rattle.tests_premises.specs.Whole.{arcs, diagram, int8, int16, resolved, timing}
use Rattle.tests_premises.proofs.WholeOwed.{whole_modules_owe}

-- ---- the crowded plan
abbrev columns : Columns
columns = record { widths = (3 ∷ []) ∷ (3 ∷ []) ∷ (3 ∷ []) ∷ []; types = Some int8 ∷ Some int16 ∷ Some int16 ∷ []; periods = Some 1 ∷ Some 1 ∷ Some 1 ∷ [] }

abbrev attributes : Attributes
attributes = attributes_in crowded_diagram columns

tried : IsTried crowded_diagram columns
tried = record { widths = refl; types = refl; periods = refl; few = refl; edges = refl; ordered = refl; blocks = refl }

known : attributes_of crowded_diagram ≡ attributes
known = attributes_tried crowded_diagram columns tried

by_known : (P : Attributes → Type 0) → P attributes → P (attributes_of crowded_diagram)
by_known P holds = subst P (sym known) holds

first_is : IsOperation crowded_diagram (attributes_of crowded_diagram) crowded 0 (operation 1 0)
first_is = by_known (λ a. IsOperation crowded_diagram a crowded 0 (operation 1 0)) refl

third_is : IsOperation crowded_diagram (attributes_of crowded_diagram) crowded 2 (operation 1 2)
third_is = by_known (λ a. IsOperation crowded_diagram a crowded 2 (operation 1 2)) refl

hits : (t : ℕ) → Hits ((attributes_of crowded_diagram).period_at 1) t
hits t = by_known (λ a. Hits (a.period_at 1) t) (omega arith)

one_unit : unit_of crowded_diagram (attributes_of crowded_diagram) crowded crowded_timing 0 (operation 1 0)
    ≡ unit_of crowded_diagram (attributes_of crowded_diagram) crowded crowded_timing 2 (operation 1 2)
one_unit = by_known (λ a. unit_of crowded_diagram a crowded crowded_timing 0 (operation 1 0) ≡ unit_of crowded_diagram a crowded crowded_timing 2 (operation 1 2)) refl

one_clock : clock_of crowded_diagram crowded crowded_timing 0 (operation 1 0) 1 ≡ clock_of crowded_diagram crowded crowded_timing 2 (operation 1 2) 0
one_clock = by_known (λ a. (1 + latency_at crowded_timing.lat 1) * 2
    + slot_of crowded_diagram a crowded crowded_timing 0 (operation 1 0)
    ≡ (0 + latency_at crowded_timing.lat 1) * 2
    + slot_of crowded_diagram a crowded crowded_timing 2 (operation 1 2)) refl

not_crowded : (m : Module) → ¬ IsModuleOf m crowded_diagram crowded crowded_timing
not_crowded m owed =
    let same = (owed.serves.apart 0 2 (operation 1 0) (operation 1 2) 1 0 first_is third_is (hits 1) (hits 0) one_unit one_clock).0 in
    absurd (omega (arith, same))

-- ---- items
not_seventh : (m : Module) → length (registers m) ≡ 7 → ¬ IsModuleOf m diagram resolved timing
not_seventh m seven owed = let few = (whole_modules_owe.once m owed).few in absurd (omega (arith, seven, few))

read_name : (x : List ℕ) → names_read (Name x) ≡ x ∷ []
read_name x = ap names_read (sym (rolls-Name x)) ∙ fold-roll-Expr (List (List ℕ)) names_step (Expr-F.Name x)

not_read : (m : Module) (reader : List ℕ) → Contains m.items (Assign reader (Name (stage_name 1 0 1))) → reader ≢ stage_name 1 0 2 → ¬ IsModuleOf m diagram twice twice_timing
not_read m reader there other owed =
    let reads : Contains (names_read (Name (stage_name 1 0 1))) (stage_name 1 0 1) =
    subst (λ (names : List (List ℕ)). Contains names (stage_name 1 0 1)) (sym (read_name (stage_name 1 0 1)))
    (0, lit< tt, refl) in
    other (((whole_modules_owe.two m owed).held 0 (lit< tt)).between (Assign reader (Name (stage_name 1 0 1))) there reads)

not_unnamed : (m : Module) → ¬ IsWire m (multiplication_name 1 1) → ¬ IsModuleOf m diagram plain plain_timing
not_unnamed m lacks owed = lacks ((whole_modules_owe.unshared m owed).wires 1 (lit< tt))

not_late : ¬ IsTightPath arcs timing.lat 2 (2 ∷ [])
not_late path =
    let first : 2 ≡ path.first = same_Some 2 path.first path.begins in
    let late : latency_at timing.lat 2 ≡ 0 = subst (λ (block : ℕ). latency_at timing.lat block ≡ 0) (sym first) path.early in
    absurd (omega (arith, late))

only-one : (name : List ℕ) → Contains (codes "a" ∷ []) name → codes "a" ≡ name
only-one name (k, below, is) = ap (λ (place : ℕ). slice_index_or (codes "a" ∷ []) place name) (let first : 0 ≡ k = omega (arith, below) in first) ∙ is

second-name : numbered (codes "a") 2 ≡ codes "a_2"
unfolding digits
second-name = refl

not_greater : ¬ IsNumbered (codes "a" ∷ []) (codes "a") (codes "a_3")
not_greater given = ⊎_elim
    (λ (second : given.number ≡ 2).
    let same : codes "a_3" ≡ codes "a_2" = given.is ∙ ap (numbered (codes "a")) second ∙ second-name in
    let byte : 51 ≡ 50 = ap (λ (name : List ℕ). slice_index name 2) same in absurd (omega (arith, byte)))
    (λ (later : given.number ≡ 2 → ⊥).
    let low = given.above in
    let same : codes "a" ≡ codes "a_2" = only-one (numbered (codes "a") 2) (given.least 2 (omega arith) (omega (arith, low, later))) ∙ second-name in
    let byte : 0 ≡ 95 = ap (λ (name : List ℕ). slice_index name 1) same in absurd (omega (arith, byte)))
    (cases_eq given.number 2)

pub are_not_owed : AreNotOwed
are_not_owed = record { overfull = not_crowded; seventh = not_seventh; read_between = not_read; unnamed = not_unnamed; late = not_late; greater = not_greater }
