-- An accumulator in an enabled subsystem, whose output is held: under the control 1, 1, 0, 1 it gives 0, 1, 1, 2 with held states and 0, 1, 1, 0 with reset states.
use Rattle.fx_type.specs.declared.spec.TypeSpec.TheVariants.{Internal}
use Rattle.std.proofs.Common.{◌≡◌, ℕ, zero, suc, ◌<◌, Bool, true, false, List, [], ◌∷◌, Some, None, ℤ, pos, refl, sym, ◌∙◌, arith}
use Rattle.std.proofs.Math.Dec.{lit<}
use Rattle.std.proofs.Math.Nat.{mod-one}
use Rattle.fx_type.specs.declared.kind.FxType.TheVariants.{Num, Logical as Boolean}
use Rattle.dg_model.specs.declared.diagram.Block.{Block}
use Rattle.dg_model.specs.declared.diagram.Diagram.{Diagram}
use Rattle.dg_model.specs.declared.kind.Kind.TheVariants.{Inport, Outport, EnableTest, Delay, Constant, Sum, EnOut}
use Rattle.dg_model.specs.declared.op.Op.TheVariants.{Sum as OpSum, Pass as OpPass}
use Rattle.dg_model.specs.Equation.{Equation}
use Rattle.dg_model.specs.Hits.{Hits, last_hit}
use Rattle.dg_model.specs.Signals.{Attributes, Stimulus, Table}
use Rattle.dg_model.specs.Solves.{Solves, IsShown}
use Rattle.dg_model.proofs.Examples.{int8, block_of, edge_of, decimal_of, table_of, scalars, stores_small, kept}
use Rattle.dg_model.proofs.SumTypes.{two_bytes_full}
use Rattle.math_list.proofs.ByRecursion.{below_of}

-- control u, its test, the delay D, the constant 1, the sum S of both, the port of the subsystem, and y
abbrev diagram : Bool → Diagram
diagram reset = record {
  blocks = block_of (Inport 1 0) 0 1 None ∷ block_of EnableTest 1 1 None ∷ block_of (Delay 1 (decimal_of 0 (lit< tt) ∷ []) reset) 1 1 (Some 1)
      ∷ block_of (Constant (decimal_of 1 (lit< tt) ∷ [])) 0 1 (Some 1) ∷ block_of (Sum (false ∷ false ∷ []) Internal) 2 1 (Some 1)
      ∷ block_of (EnOut false (decimal_of 0 (lit< tt) ∷ [])) 1 1 (Some 1) ∷ block_of (Outport 1) 1 0 None ∷ [];
  edges = edge_of 0 1 1 1 ∷ edge_of 4 1 2 1 ∷ edge_of 2 1 4 1 ∷ edge_of 3 1 4 2 ∷ edge_of 2 1 5 1 ∷ edge_of 5 1 6 1 ∷ [];
}

abbrev attributes : Attributes
attributes = scalars (int8 ∷ Boolean ∷ []) (Some 1 ∷ Some 1 ∷ Some 1 ∷ None ∷ Some 1 ∷ Some 1 ∷ Some 1 ∷ [])

abbrev control : List ℤ
control = pos 1 ∷ pos 1 ∷ pos 0 ∷ pos 1 ∷ []

abbrev ones : List ℤ
ones = pos 1 ∷ pos 1 ∷ pos 1 ∷ pos 1 ∷ []

-- the entries of the delay, the sum and the output
abbrev rows : Bool → List (List ℤ)
rows false = (pos 0 ∷ pos 1 ∷ pos 2 ∷ pos 2 ∷ []) ∷ (pos 1 ∷ pos 2 ∷ pos 3 ∷ pos 3 ∷ []) ∷ (pos 0 ∷ pos 1 ∷ pos 1 ∷ pos 2 ∷ []) ∷ []
rows true = (pos 0 ∷ pos 1 ∷ pos 2 ∷ pos 0 ∷ []) ∷ (pos 1 ∷ pos 2 ∷ pos 3 ∷ pos 1 ∷ []) ∷ (pos 0 ∷ pos 1 ∷ pos 1 ∷ pos 0 ∷ []) ∷ []

abbrev of_rows : List (List ℤ) → List (List ℤ)
of_rows (delay ∷ sum ∷ output ∷ []) = control ∷ control ∷ delay ∷ ones ∷ sum ∷ output ∷ output ∷ []
of_rows _ = []

abbrev table : Bool → Table
table reset = table_of (of_rows (rows reset))

abbrev stimulus : Stimulus
stimulus number element t = table false 0 1 element t

-- the entry of a block solves its equation
abbrev IsRight : Bool → ℕ → ℕ → ℕ → ℕ → Type 0
IsRight reset block port element t = Equation (diagram reset) attributes stimulus (table reset) block port element t (table reset block port element t)

inport : (reset : Bool) (port element t : ℕ) → IsRight reset 0 port element t
inport false port element t = refl
inport true port element t = refl

enable : (reset : Bool) (port element t : ℕ) → t < 4 → IsRight reset 1 port element t
enable false port element = below_of (IsRight false 1 port element) 4 (refl, (refl, (refl, (refl, tt))))
enable true port element = below_of (IsRight true 1 port element) 4 (refl, (refl, (refl, (refl, tt))))

delay : (reset : Bool) (port element t : ℕ) → t < 4 → IsRight reset 2 port element t
delay false port element = below_of (IsRight false 2 port element) 4 (stores_small 0 (lit< tt) (lit< tt), (refl, (refl, (refl, tt))))
delay true port element = below_of (IsRight true 2 port element) 4 (stores_small 0 (lit< tt) (lit< tt), (refl, (refl, (stores_small 0 (lit< tt) (lit< tt), tt))))

constant : (reset : Bool) (port element t : ℕ) → t ≡ 0 → IsRight reset 3 port element t
constant false port element zero hit = stores_small 1 (lit< tt) (lit< tt)
constant true port element zero hit = stores_small 1 (lit< tt) (lit< tt)
constant reset port element (suc t) hit = absurd (omega (arith, hit))

sum : (reset : Bool) (port element t : ℕ) → t < 4 → IsRight reset 4 port element t
sum false port element zero below = (OpSum None, refl, (Num true 9 (pos 0), two_bytes_full, kept (pos 1) tt tt))
sum false port element (suc zero) below = (OpSum None, refl, (Num true 9 (pos 0), two_bytes_full, kept (pos 2) tt tt))
sum false port element (suc (suc zero)) below = (OpSum None, refl, (Num true 9 (pos 0), two_bytes_full, kept (pos 3) tt tt))
sum false port element (suc (suc (suc zero))) below = (OpSum None, refl, (Num true 9 (pos 0), two_bytes_full, kept (pos 3) tt tt))
sum true port element zero below = (OpSum None, refl, (Num true 9 (pos 0), two_bytes_full, kept (pos 1) tt tt))
sum true port element (suc zero) below = (OpSum None, refl, (Num true 9 (pos 0), two_bytes_full, kept (pos 2) tt tt))
sum true port element (suc (suc zero)) below = (OpSum None, refl, (Num true 9 (pos 0), two_bytes_full, kept (pos 3) tt tt))
sum true port element (suc (suc (suc zero))) below = (OpSum None, refl, (Num true 9 (pos 0), two_bytes_full, kept (pos 1) tt tt))
sum reset port element (suc (suc (suc (suc t)))) below = absurd (omega arith)

output : (reset : Bool) (port element t : ℕ) → t < 4 → IsRight reset 5 port element t
output false port element = below_of (IsRight false 5 port element) 4 (refl, (refl, (refl, (refl, tt))))
output true port element = below_of (IsRight true 5 port element) 4 (refl, (refl, (refl, (refl, tt))))

outport : (reset : Bool) (port element t : ℕ) → IsRight reset 6 port element t
outport false port element t = (OpPass, refl, refl)
outport true port element t = (OpPass, refl, refl)

at_hits : (reset : Bool) (block : ℕ) (b : Block) (port element t : ℕ)
    → IsShown (diagram reset) attributes block b port element → t < 4 → Hits (attributes.period_at block) t
    → IsRight reset block port element t
at_hits reset zero b port element t shown below hit = inport reset port element t
at_hits reset (suc zero) b port element t shown below hit = enable reset port element t below
at_hits reset (suc (suc zero)) b port element t shown below hit = delay reset port element t below
at_hits reset (suc (suc (suc zero))) b port element t shown below hit = constant reset port element t hit
at_hits reset (suc (suc (suc (suc zero)))) b port element t shown below hit = sum reset port element t below
at_hits reset (suc (suc (suc (suc (suc zero))))) b port element t shown below hit = output reset port element t below
at_hits reset (suc (suc (suc (suc (suc (suc zero)))))) b port element t shown below hit = outport reset port element t
at_hits reset (suc (suc (suc (suc (suc (suc (suc block))))))) b port element t shown below hit = let h = shown.block_is in cc

-- the constant keeps its value
held : (reset : Bool) (port element t : ℕ) → t < 4 → table reset 3 port element t ≡ pos 1
held false port element = below_of (λ t. table false 3 port element t ≡ pos 1) 4 (refl, (refl, (refl, (refl, tt))))
held true port element = below_of (λ t. table true 3 port element t ≡ pos 1) 4 (refl, (refl, (refl, (refl, tt))))

between_hits : (reset : Bool) (block : ℕ) (b : Block) (port element t : ℕ) → IsShown (diagram reset) attributes block b port element → t < 4 → ¬ Hits (attributes.period_at block) t
    → table reset block port element t ≡ table reset block port element (last_hit (attributes.period_at block) t)
between_hits reset zero b port element t shown below miss = absurd (miss (mod-one t))
between_hits reset (suc zero) b port element t shown below miss = absurd (miss (mod-one t))
between_hits reset (suc (suc zero)) b port element t shown below miss = absurd (miss (mod-one t))
between_hits reset (suc (suc (suc zero))) b port element t shown below miss = held reset port element t below ∙ sym (held reset port element 0 (lit< tt))
between_hits reset (suc (suc (suc (suc zero)))) b port element t shown below miss = absurd (miss (mod-one t))
between_hits reset (suc (suc (suc (suc (suc zero))))) b port element t shown below miss = absurd (miss (mod-one t))
between_hits reset (suc (suc (suc (suc (suc (suc zero)))))) b port element t shown below miss = absurd (miss (mod-one t))
between_hits reset (suc (suc (suc (suc (suc (suc (suc block))))))) b port element t shown below miss = let h = shown.block_is in cc

-- both tables solve
pub enabled_accumulator : (reset : Bool) → Solves (diagram reset) attributes stimulus 4 (table reset)
enabled_accumulator reset = record { at_hits = at_hits reset; between_hits = between_hits reset }
