-- Plans whose paths are found in a diagram, and plans that break the rule of plans, worked by hand.
use Rattle.fx_type.specs.declared.spec.TypeSpec.TheVariants.{Internal}
use Rattle.std.proofs.Common.{◌≡◌, ◌≢◌, ℕ, zero, suc, ◌<◌, List, [], ◌∷◌, codes, Some, false, refl, sym, subst, ap, ◌∙◌, arith, get_or}
use Rattle.std.specs.Prelude.{slice_get, slice_index_or}
use Rattle.std.proofs.lemmas.Bool.{false≢true}
use Rattle.dg_model.specs.declared.diagram.Diagram.{Diagram}
use Rattle.dg_model.specs.declared.diagram.Block.{Block}
use Rattle.dg_model.specs.declared.fault.Shown.TheVariants.{Nothing}
use Rattle.dg_model.specs.declared.kind.Kind.{Kind}
use Rattle.dg_model.specs.declared.kind.Kind.TheVariants.{Inport, Ground, Sum}
use Rattle.dg_model.specs.declared.plan.Plan.{Plan}
use Rattle.dg_model.specs.declared.plan.Pipeline.{Pipeline}
use Rattle.dg_model.specs.declared.rule.Rule.{Rule}
use Rattle.dg_model.specs.Attributes.{attributes_of}
use Rattle.dg_model.specs.Faults.{fault_of}
use Rattle.dg_model.specs.PlanNames.{MayBePipelined, IsFound, KeepsPlan, BreaksPlan, IsResolved}
use Rattle.dg_model.proofs.WidthRounds.{block_of, edge_of}
use Rattle.math_list.proofs.ByRecursion.{all_of, each_of}

abbrev named : List ℕ → Kind → ℕ → ℕ → Block
named path kind inputs outputs = record (block_of kind inputs outputs) { path = path }

abbrev input : Block
input = named (codes "m/u") (Inport 1 0) 0 1

abbrev ground : Block
ground = named (codes "m/g") Ground 0 1

abbrev moving : Block
moving = named (codes "m/s") (Sum (false ∷ false ∷ []) Internal) 2 1

abbrev still : Block
still = named (codes "m/t") (Sum (false ∷ false ∷ []) Internal) 2 1

-- a sum of an input and a Ground, and one of the Ground alone, whose value never changes
abbrev sums : Diagram
sums = record {
  blocks = input ∷ ground ∷ moving ∷ still ∷ [];
  edges = edge_of 0 1 2 1 ∷ edge_of 1 1 2 2 ∷ edge_of 1 1 3 1 ∷ edge_of 1 1 3 2 ∷ [];
}

abbrev line_of : List ℕ → ℕ → Pipeline
line_of path count = record { path = path; count = count }

abbrev plan_of : List Pipeline → Plan
plan_of lines = record { cycles = 4; multipliers = 1; pipelines = lines }

abbrev path : Block → List ℕ
path block = block.path

abbrev Found : Pipeline → Type 0
Found = IsFound sums (attributes_of sums)

other_letter : (a b : ℕ) → a ≢ b → 109 ∷ 47 ∷ a ∷ [] ≡ 109 ∷ 47 ∷ b ∷ [] → ⊥
other_letter a b differ same = differ (ap (λ (l : List ℕ). get_or l 2 0) same)

-- registers may stand behind the first sum
moving_found : (count : ℕ) → Found (line_of (codes "m/s") count)
moving_found count = record { some = (2, moving, omega arith, refl, refl); each = each } where
  each : (place : ℕ) (block : Block) → slice_get sums.blocks place ≡ Some block → block.path ≡ codes "m/s" → MayBePipelined (attributes_of sums) place block
  each = each_of (λ place block. block.path ≡ codes "m/s" → MayBePipelined (attributes_of sums) place block) sums.blocks (
    λ same. absurd (other_letter 117 115 (λ e. omega (arith, e)) same),
    (
      λ same. absurd (other_letter 103 115 (λ e. omega (arith, e)) same),
      (λ same. record { kind = refl; period = refl }, (λ same. absurd (other_letter 116 115 (λ e. omega (arith, e)) same), tt)),
    ),
  )

-- and behind no other block: an input has none, a sum that never changes has no period, and the last isn't there
input_missing : (count : ℕ) → Found (line_of (codes "m/u") count) → ⊥
input_missing count found = false≢true (found.each 0 input refl refl).kind

still_missing : (count : ℕ) → Found (line_of (codes "m/t") count) → ⊥
still_missing count found = false≢true (found.each 3 still refl refl).period

absent_missing : (count : ℕ) → Found (line_of (codes "m/x") count) → ⊥
absent_missing count found = at (found.some.0) (found.some.1) (found.some.2) (found.some.3) (found.some.4)
  where
    at : (k : ℕ) (block : Block) → k < 4 → slice_index_or sums.blocks k block ≡ block → block.path ≡ codes "m/x" → ⊥
    at zero block below is same = other_letter 117 120 (λ e. omega (arith, e)) (ap path is ∙ same)
    at (suc zero) block below is same = other_letter 103 120 (λ e. omega (arith, e)) (ap path is ∙ same)
    at (suc (suc zero)) block below is same = other_letter 115 120 (λ e. omega (arith, e)) (ap path is ∙ same)
    at (suc (suc (suc zero))) block below is same = other_letter 116 120 (λ e. omega (arith, e)) (ap path is ∙ same)
    at (suc (suc (suc (suc k)))) block below is same = absurd (omega (arith, below))

-- the first path that isn't found is told, behind one that is
input_breaks : BreaksPlan sums (attributes_of sums) (plan_of (line_of (codes "m/s") 3 ∷ line_of (codes "m/u") 1 ∷ line_of (codes "m/x") 1 ∷ [])) (fault_of Rule.Plan (codes "m/u") Nothing)
input_breaks = record { number = 1; line = line_of (codes "m/u") 1; line_is = refl; missing = input_missing 1; before = before; fault_is = refl } where
  before : (k : ℕ) (other : Pipeline) → k < 1 → slice_get (line_of (codes "m/s") 3 ∷ line_of (codes "m/u") 1 ∷ line_of (codes "m/x") 1 ∷ []) k ≡ Some other → Found other
  before zero other below is = let same : other ≡ line_of (codes "m/s") 3 = cc is in subst Found (sym same) (moving_found 3)
  before (suc k) other below is = absurd (omega (arith, below))

still_breaks : BreaksPlan sums (attributes_of sums) (plan_of (line_of (codes "m/t") 2 ∷ line_of (codes "m/s") 1 ∷ [])) (fault_of Rule.Plan (codes "m/t") Nothing)
still_breaks = record { number = 0; line = line_of (codes "m/t") 2; line_is = refl; missing = still_missing 2; before = λ k other below is. absurd (omega (arith, below)); fault_is = refl }

absent_breaks : BreaksPlan sums (attributes_of sums) (plan_of (line_of (codes "m/x") 64 ∷ [])) (fault_of Rule.Plan (codes "m/x") Nothing)
absent_breaks = record { number = 0; line = line_of (codes "m/x") 64; line_is = refl; missing = absent_missing 64; before = λ k other below is. absurd (omega (arith, below)); fault_is = refl }

-- a plan that is found, and what it gives each block
moving_keeps : KeepsPlan sums (attributes_of sums) (plan_of (line_of (codes "m/s") 3 ∷ []))
moving_keeps = all_of Found (line_of (codes "m/s") 3 ∷ []) (moving_found 3, tt)

moving_resolved : IsResolved sums (plan_of (line_of (codes "m/s") 3 ∷ [])) (record { cycles = 4; multipliers = 1; stages = 0 ∷ 0 ∷ 3 ∷ 0 ∷ [] })
moving_resolved = record { cycles = refl; multipliers = refl; stages = refl }
