-- How the lines of a plan stand with the blocks that were looked at (own).
use Rattle.std.specs.Prelude.{◌≡◌, ℕ, ◌<◌, Bool, true, false, List, length, map, Option, Some, None, slice_get, slice_set, slice_index_or}
use Rattle.dg_model.specs.declared.diagram.Diagram.{Diagram}
use Rattle.dg_model.specs.declared.diagram.Block.{Block}
use Rattle.dg_model.specs.declared.plan.Pipeline.{Pipeline}
use Rattle.dg_model.specs.declared.plan.Plan.{Plan}
use Rattle.dg_model.specs.Attributes.{attributes_of}
use Rattle.dg_model.specs.PlanNames.{MayBePipelined, count_of}
use Rattle.dg_model.specs.Signals.{Attributes}
use Rattle.dg_rules.specs.declared.resolving.Walk.{Walk}
use Rattle.dg_rules.specs.declared.standing.Standing.{Standing}
use Rattle.dg_rules.specs.declared.standing.Standing.TheVariants.{Unseen, Found, Refused}

-- a block stands at this place, before `count`, and has this path
pub record HasPath (diagram : Diagram) (count : ℕ) (path : List ℕ) (place : ℕ)
    (block : Block) : Type 0 where
  pub before : place < count
  pub there : slice_get diagram.blocks place ≡ Some block
  pub named : block.path ≡ path

-- every block of this path that stands before `count` may have registers behind it, and there is
-- one
pub record IsFoundBefore (diagram : Diagram) (attributes : Attributes) (count : ℕ)
    (path : List ℕ) : Type 0 where
  pub place : ℕ
  pub block : Block
  pub some : HasPath diagram count path place block
  pub each : (other : ℕ) (b : Block) → HasPath diagram count path other b
      → MayBePipelined attributes other b

-- one may not
pub record IsRefusedBefore (diagram : Diagram) (attributes : Attributes) (count : ℕ)
    (path : List ℕ) : Type 0 where
  pub place : ℕ
  pub block : Block
  pub some : HasPath diagram count path place block
  pub not : ¬ MayBePipelined attributes place block

-- how a path stands with the blocks before `count`
abbrev pub Stands : Diagram → Attributes → ℕ → List ℕ → Standing → Type 0
Stands diagram attributes count path Unseen =
    (place : ℕ) (block : Block) → ¬ HasPath diagram count path place block
Stands diagram attributes count path Found = IsFoundBefore diagram attributes count path
Stands diagram attributes count path Refused = IsRefusedBefore diagram attributes count path

-- how it stands with one more block of its path
abbrev pub next_standing : Bool → Standing → Standing
next_standing true Unseen = Found
next_standing true Found = Found
next_standing true Refused = Refused
next_standing false standing = Refused

-- how each line stands with the blocks before `count`
pub record AreStandings (diagram : Diagram) (attributes : Attributes) (count : ℕ)
    (lines : List Pipeline) (standings : List Standing) : Type 0 where
  pub long : length standings ≡ length lines
  pub each : (number : ℕ) (line : Pipeline) → slice_get lines number ≡ Some line
      → Stands diagram attributes count line.path (slice_index_or standings number Unseen)

-- the standings after one more block, whose path the line of this number has
abbrev pub looked_at : Option ℕ → Bool → List Standing → List Standing
looked_at None may standings = standings
looked_at (Some number) may standings =
    slice_set standings number (next_standing may (slice_index_or standings number Unseen))

-- the registers that the line of this number sets
abbrev pub count_in : Option ℕ → List Pipeline → ℕ
count_in None lines = 0
count_in (Some number) lines = count_if (slice_get lines number) where
  count_if : Option Pipeline → ℕ
  count_if None = 0
  count_if (Some line) = line.count

-- the lines before a number are found
abbrev pub AllFound : List Standing → ℕ → Type 0
AllFound standings count =
    (number : ℕ) → number < count → slice_index_or standings number Unseen ≡ Found

-- all blocks were looked at
pub record IsWalked (diagram : Diagram) (plan : Plan) (walk : Walk) : Type 0 where
  pub standings : AreStandings diagram (attributes_of diagram)
      (length diagram.blocks) plan.pipelines walk.standings.items
  pub stages : walk.stages ≡ map (λ block. count_of plan block.path) diagram.blocks
