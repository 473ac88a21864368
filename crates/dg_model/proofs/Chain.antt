-- The diagrams of an input, one block and an output, with what comes in and what the block gives written out.
use Rattle.std.proofs.Common.{◌≡◌, ℕ, zero, suc, ◌<◌, List, [], ◌∷◌, get_or, Option, Some, None, ℤ, pos, refl}
use Rattle.std.proofs.Math.Nat.{mod-one}
use Rattle.dg_model.specs.declared.diagram.Block.{Block}
use Rattle.dg_model.specs.declared.diagram.Diagram.{Diagram}
use Rattle.dg_model.specs.declared.kind.Kind.{Kind}
use Rattle.dg_model.specs.declared.kind.Kind.TheVariants.{Inport, Outport}
use Rattle.dg_model.specs.declared.op.Op.TheVariants.{Pass}
use Rattle.dg_model.specs.Equation.{Equation}
use Rattle.dg_model.specs.Hits.{Hits, last_hit}
use Rattle.dg_model.specs.Signals.{Attributes, Stimulus, Table}
use Rattle.dg_model.specs.Solves.{Solves, IsShown}
use Rattle.dg_model.proofs.Examples.{block_of, edge_of, table_of, scalars}

abbrev pub chain : Kind → Diagram
chain kind = record {
  blocks = block_of (Inport 1 0) 0 1 None ∷ block_of kind 1 1 None ∷ block_of (Outport 1) 1 0 None ∷ [];
  edges = edge_of 0 1 1 1 ∷ edge_of 1 1 2 1 ∷ [];
}

-- the periods of the input and of the block
abbrev pub chain_attributes : Option ℕ → Option ℕ → Attributes
chain_attributes into out = scalars [] (into ∷ out ∷ out ∷ [])

abbrev pub chain_stimulus : List ℤ → Stimulus
chain_stimulus input number element t = get_or input t (pos 0)

abbrev pub chain_table : List ℤ → List ℤ → Table
chain_table input given = table_of (input ∷ given ∷ given ∷ [])

-- the block's entry at a hit solves its equation
abbrev pub IsGiven : Kind → Option ℕ → Option ℕ → List ℤ → List ℤ → ℕ → ℕ → ℕ → Type 0
IsGiven kind into out input given port element t =
    Hits out t → Equation (chain kind) (chain_attributes into out) (chain_stimulus input) (chain_table input given) 1 port element t (chain_table input given 1 port element t)

-- between two hits the entry is that of the first
abbrev pub IsKept : Option ℕ → List ℤ → ℕ → Type 0
IsKept period row t = ¬ Hits period t → get_or row t (pos 0) ≡ get_or row (last_hit period t) (pos 0)

pub always_hits : (row : List ℤ) (t : ℕ) → IsKept (Some 1) row t
always_hits row t = λ miss. absurd (miss (mod-one t))

pub chain_solves : (kind : Kind) (into out : Option ℕ) (input given : List ℤ) (count : ℕ) → ((port element t : ℕ) → t < count → IsGiven kind into out input given port element t) →
    ((t : ℕ) → t < count → IsKept into input t) → ((t : ℕ) → t < count → IsKept out given t) → Solves (chain kind) (chain_attributes into out) (chain_stimulus input) count (chain_table input given)
chain_solves kind into out input given count gives kept_input kept_given = record { at_hits = at_hits; between_hits = between_hits } where
  at_hits : (block : ℕ) (b : Block) (port element t : ℕ) → IsShown (chain kind) (chain_attributes into out) block b port element → t < count → Hits ((chain_attributes into out).period_at block) t
      → Equation (chain kind) (chain_attributes into out) (chain_stimulus input) (chain_table input given) block port element t (chain_table input given block port element t)
  at_hits zero b port element t shown below hit = refl
  at_hits (suc zero) b port element t shown below hit = gives port element t below hit
  at_hits (suc (suc zero)) b port element t shown below hit = (Pass, refl, refl)
  at_hits (suc (suc (suc block))) b port element t shown below hit = let h = shown.block_is in cc

  between_hits : (block : ℕ) (b : Block) (port element t : ℕ)
      → IsShown (chain kind) (chain_attributes into out) block b port element → t < count
      → ¬ Hits ((chain_attributes into out).period_at block) t
      → chain_table input given block port element t ≡ chain_table input given block port element (last_hit ((chain_attributes into out).period_at block) t)
  between_hits zero b port element t shown below miss = kept_input t below miss
  between_hits (suc zero) b port element t shown below miss = kept_given t below miss
  between_hits (suc (suc zero)) b port element t shown below miss = kept_given t below miss
  between_hits (suc (suc (suc block))) b port element t shown below miss = let h = shown.block_is in cc
