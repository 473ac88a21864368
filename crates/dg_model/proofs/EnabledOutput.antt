-- A signal through an enabled subsystem whose initial output is 0: 5, 6, 7, 8 under the control 0, 0, 1, 0 gives 0, 0, 7, 7 with held output and 0, 0, 7, 0 with reset output.
use Rattle.std.proofs.Common.{◌≡◌, ℕ, zero, suc, ◌<◌, Bool, true, false, List, [], ◌∷◌, Some, None, ℤ, pos, refl}
use Rattle.std.proofs.Math.Dec.{lit<}
use Rattle.std.proofs.Math.Nat.{mod-one}
use Rattle.fx_type.specs.declared.kind.FxType.TheVariants.{Logical as Boolean}
use Rattle.dg_model.specs.declared.diagram.Block.{Block}
use Rattle.dg_model.specs.declared.diagram.Diagram.{Diagram}
use Rattle.dg_model.specs.declared.kind.Kind.TheVariants.{Inport, Outport, EnableTest, Pass, EnOut}
use Rattle.dg_model.specs.declared.op.Op.TheVariants.{Pass as OpPass}
use Rattle.dg_model.specs.Equation.{Equation}
use Rattle.dg_model.specs.Hits.{Hits, last_hit}
use Rattle.dg_model.specs.Signals.{Attributes, Stimulus, Table}
use Rattle.dg_model.specs.Solves.{Solves, IsShown}
use Rattle.dg_model.proofs.Examples.{int8, block_of, edge_of, decimal_of, table_of, scalars, stores_small}
use Rattle.math_list.proofs.ByRecursion.{below_of}

-- input u, control c, its test, the inner input, the port of the subsystem, and y
abbrev diagram : Bool → Diagram
diagram reset = record {
  blocks = block_of (Inport 1 0) 0 1 None ∷ block_of (Inport 2 0) 0 1 None ∷ block_of EnableTest 1 1 None ∷ block_of (Pass 0) 1 1 (Some 2)
      ∷ block_of (EnOut reset (decimal_of 0 (lit< tt) ∷ [])) 1 1 (Some 2) ∷ block_of (Outport 1) 1 0 None ∷ [];
  edges = edge_of 1 1 2 1 ∷ edge_of 0 1 3 1 ∷ edge_of 3 1 4 1 ∷ edge_of 4 1 5 1 ∷ [];
}

abbrev attributes : Attributes
attributes = scalars (int8 ∷ int8 ∷ Boolean ∷ []) (Some 1 ∷ Some 1 ∷ Some 1 ∷ Some 1 ∷ Some 1 ∷ Some 1 ∷ [])

abbrev input : List ℤ
input = pos 5 ∷ pos 6 ∷ pos 7 ∷ pos 8 ∷ []

abbrev control : List ℤ
control = pos 0 ∷ pos 0 ∷ pos 1 ∷ pos 0 ∷ []

-- the entries of the output
abbrev given : Bool → List ℤ
given false = pos 0 ∷ pos 0 ∷ pos 7 ∷ pos 7 ∷ []
given true = pos 0 ∷ pos 0 ∷ pos 7 ∷ pos 0 ∷ []

abbrev table : Bool → Table
table reset = table_of (input ∷ control ∷ control ∷ input ∷ given reset ∷ given reset ∷ [])

abbrev stimulus : Stimulus
stimulus (suc zero) element t = table false 0 1 element t
stimulus number element t = table false 1 1 element t

-- the entry of a block solves its equation
abbrev IsRight : Bool → ℕ → ℕ → ℕ → ℕ → Type 0
IsRight reset block port element t = Equation (diagram reset) attributes stimulus (table reset) block port element t (table reset block port element t)

enable : (reset : Bool) (port element t : ℕ) → t < 4 → IsRight reset 2 port element t
enable reset port element = below_of (IsRight reset 2 port element) 4 (refl, (refl, (refl, (refl, tt))))

output : (reset : Bool) (port element t : ℕ) → t < 4 → IsRight reset 4 port element t
output false port element = below_of (IsRight false 4 port element) 4 (stores_small 0 (lit< tt) (lit< tt), (stores_small 0 (lit< tt) (lit< tt), (refl, (refl, tt))))
output true port element = below_of (IsRight true 4 port element) 4 (stores_small 0 (lit< tt) (lit< tt), (stores_small 0 (lit< tt) (lit< tt), (refl, (stores_small 0 (lit< tt) (lit< tt), tt))))

at_hits : (reset : Bool) (block : ℕ) (b : Block) (port element t : ℕ)
    → IsShown (diagram reset) attributes block b port element → t < 4 → Hits (attributes.period_at block) t
    → IsRight reset block port element t
at_hits reset zero b port element t shown below hit = refl
at_hits reset (suc zero) b port element t shown below hit = refl
at_hits reset (suc (suc zero)) b port element t shown below hit = enable reset port element t below
at_hits reset (suc (suc (suc zero))) b port element t shown below hit = (OpPass, refl, refl)
at_hits reset (suc (suc (suc (suc zero)))) b port element t shown below hit = output reset port element t below
at_hits reset (suc (suc (suc (suc (suc zero))))) b port element t shown below hit = (OpPass, refl, refl)
at_hits reset (suc (suc (suc (suc (suc (suc block)))))) b port element t shown below hit = let h = shown.block_is in cc

between_hits : (reset : Bool) (block : ℕ) (b : Block) (port element t : ℕ) → IsShown (diagram reset) attributes block b port element → t < 4 → ¬ Hits (attributes.period_at block) t
    → table reset block port element t ≡ table reset block port element (last_hit (attributes.period_at block) t)
between_hits reset zero b port element t shown below miss = absurd (miss (mod-one t))
between_hits reset (suc zero) b port element t shown below miss = absurd (miss (mod-one t))
between_hits reset (suc (suc zero)) b port element t shown below miss = absurd (miss (mod-one t))
between_hits reset (suc (suc (suc zero))) b port element t shown below miss = absurd (miss (mod-one t))
between_hits reset (suc (suc (suc (suc zero)))) b port element t shown below miss = absurd (miss (mod-one t))
between_hits reset (suc (suc (suc (suc (suc zero))))) b port element t shown below miss = absurd (miss (mod-one t))
between_hits reset (suc (suc (suc (suc (suc (suc block)))))) b port element t shown below miss = let h = shown.block_is in cc

-- both tables solve
pub enabled_output : (reset : Bool) → Solves (diagram reset) attributes stimulus 4 (table reset)
enabled_output reset = record { at_hits = at_hits reset; between_hits = between_hits reset }
