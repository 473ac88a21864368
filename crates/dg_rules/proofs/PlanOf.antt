-- A plan in range whose paths are found is one of the diagram.
use Rattle.std.proofs.Common.{◌≡◌, ℕ, zero, suc, ◌<◌, Bool, true, false, List, [], ◌∷◌, length, map, bytes_eq, refl, sym, ap, subst, ◌∙◌, arith}
use Rattle.std.specs.Prelude.{◌≤◌, All, Some, slice_get, slice_index}
use Rattle.std.specs.List.{AllByRecursion}
use Rattle.std.proofs.lemmas.List.{length-map}
use Rattle.std.proofs.lemmas.List.Elements.{All-nil, All-cons}
use Rattle.std.proofs.lemmas.Option.{none-some, same_Some}
use Rattle.std.proofs.lemmas.Slice.Eq.{bytes_eq-Decides}
use Rattle.dg_model.specs.declared.diagram.Block.{Block}
use Rattle.dg_model.specs.declared.diagram.Diagram.{Diagram}
use Rattle.dg_model.specs.declared.plan.Pipeline.{Pipeline}
use Rattle.dg_model.specs.declared.plan.Plan.{Plan}
use Rattle.dg_model.specs.declared.resolved.Resolved.{Resolved}
use Rattle.dg_model.specs.Attributes.{attributes_of}
use Rattle.dg_model.specs.PlanNames.{IsFound, KeepsPlan, IsResolved, count_of}
use Rattle.dg_model.specs.PlanOf.{IsPlanOf, StagesAreAllowed, stages_at}
use Rattle.dg_model.specs.PlanRange.{IsPlanInRange, IsRegisterCount}
use Rattle.math_list.proofs.Places.{held}

-- the plan of these lines
abbrev with_lines : Plan → List Pipeline → Plan
with_lines plan lines = record { cycles = plan.cycles; multipliers = plan.multipliers; pipelines = lines }

few_behind : (plan : Plan) (path : List ℕ) (lines : List Pipeline) → AllByRecursion IsRegisterCount lines → count_of (with_lines plan lines) path ≤ 64
few_behind plan path [] counts = omega arith
few_behind plan path (line ∷ lines) counts = by (bytes_eq line.path path) refl counts.0.1 (few_behind plan path lines counts.1) where
  by : (is : Bool) → bytes_eq line.path path ≡ is → line.count ≤ 64 → count_of (with_lines plan lines) path ≤ 64 → count_of (with_lines plan (line ∷ lines)) path ≤ 64
  by true is few rest = rw is few
  by false is few rest = rw is rest

few_at_each : (plan : Plan) (blocks : List Block) → AllByRecursion IsRegisterCount plan.pipelines → All (λ stages. stages ≤ 64) (map (λ (block : Block). count_of plan block.path) blocks)
few_at_each plan [] counts = All-nil (λ stages. stages ≤ 64)
few_at_each plan (block ∷ blocks) counts =
    All-cons (λ stages. stages ≤ 64) (count_of plan block.path) (map (λ (block : Block). count_of plan block.path) blocks)
    (few_behind plan block.path plan.pipelines counts) (few_at_each plan blocks counts)

pub record IsNamed (lines : List Pipeline) (path : List ℕ) : Type 0 where
  pub place : ℕ
  pub line : Pipeline
  pub at : slice_get lines place ≡ Some line
  pub is : bytes_eq line.path path ≡ true

named_behind : (plan : Plan) (path : List ℕ) (lines : List Pipeline) → 0 < count_of (with_lines plan lines) path → IsNamed lines path
named_behind plan path [] some = absurd (omega (arith, some))
named_behind plan path (line ∷ lines) some = by (bytes_eq line.path path) refl (named_behind plan path lines) some where
  by : (is : Bool) → bytes_eq line.path path ≡ is → (0 < count_of (with_lines plan lines) path → IsNamed lines path) → 0 < count_of (with_lines plan (line ∷ lines)) path → IsNamed (line ∷ lines) path
  by true is rest some = record { place = 0; line = line; at = refl; is = is }
  by false is rest some = let same : count_of (with_lines plan (line ∷ lines)) path
      ≡ count_of (with_lines plan lines) path = rw is refl in let found =
      rest (subst (λ (n : ℕ). 0 < n) same some) in
      record { place = suc found.place; line = found.line; at = found.at; is = found.is }

mapped_index : (f : Block → ℕ) (blocks : List Block) (k : ℕ) (b : Block) → slice_get blocks k ≡ Some b → slice_index (map f blocks) k ≡ f b
mapped_index f [] k b at = absurd (none-some b at)
mapped_index f (x ∷ blocks) zero b at = ap f (same_Some x b at)
mapped_index f (x ∷ blocks) (suc k) b at = mapped_index f blocks k b at

resolved_are_allowed : (diagram : Diagram) (plan : Plan) (resolved : Resolved) → KeepsPlan diagram (attributes_of diagram) plan → IsResolved diagram plan resolved → StagesAreAllowed diagram resolved
resolved_are_allowed diagram plan resolved keeps is = record {
  each = λ place b at some.
      let count : stages_at resolved place ≡ count_of plan b.path =
      ap (λ (stages : List ℕ). slice_index stages place) is.stages
      ∙ mapped_index (λ (block : Block). count_of plan block.path) diagram.blocks place b at in
      let named = named_behind plan b.path plan.pipelines (omega (arith, some, count)) in
      let found = held (IsFound diagram (attributes_of diagram)) plan.pipelines named.place named.line keeps named.at in
      found.each place b at (sym ((bytes_eq-Decides named.line.path b.path).0 named.is));
}

pub plan_of : (diagram : Diagram) (plan : Plan) (resolved : Resolved) → IsPlanInRange plan
    → KeepsPlan diagram (attributes_of diagram) plan → IsResolved diagram plan resolved → IsPlanOf diagram resolved
plan_of diagram plan resolved range keeps found = record {
  some_clocks = subst (λ n. 1 ≤ n) (sym found.cycles) range.some_clocks;
  few_clocks = subst (λ n. n ≤ 1024) (sym found.cycles) range.few_clocks;
  few_multipliers = subst (λ n. n ≤ 64) (sym found.multipliers) range.few_multipliers;
  size = ap (λ (stages : List ℕ). length stages) found.stages ∙ length-map diagram.blocks (λ (block : Block). count_of plan block.path);
  stages = subst (λ (stages : List ℕ). All (λ n. n ≤ 64) stages) (sym found.stages) (few_at_each plan diagram.blocks range.counts);
  allowed = resolved_are_allowed diagram plan resolved keeps found;
}
