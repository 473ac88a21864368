-- Signals of several elements: a Mux of two and one elements into a Demux of one and two, a control of two elements, a Constant of two, a scalar that is repeated, and Ground.
use Rattle.fx_type.specs.declared.spec.TypeSpec.TheVariants.{Internal}
use Rattle.std.proofs.Common.{◌≡◌, ap, ℤ, zero, suc, ◌<◌, ◌≤◌, sym, subst, ◌∙◌, arith, ℕ, ◌-◌, List, [], ◌∷◌, Some, None, pos, negsuc, get_or, true, false, refl}
use Rattle.std.proofs.Math.Dec.{lit<, lit≤}
use Rattle.std.specs.Prelude.{slice_get}
use Rattle.std.proofs.Math.Nat.{mod-one}
use Rattle.std.proofs.lemmas.Option.{none-some, same_Some}
use Rattle.fx_type.specs.declared.kind.FxType.TheVariants.{Num}
use Rattle.dg_model.specs.declared.diagram.Block.{Block}
use Rattle.dg_model.specs.Hits.{Hits}
use Rattle.dg_model.specs.Solves.{Solves, IsShown, shown_ports, shown_width}
use Rattle.dg_model.specs.declared.diagram.Diagram.{Diagram}
use Rattle.dg_model.specs.declared.kind.Kind.TheVariants.{Inport, Outport, Constant, Ground, EnableTest, Mux, Demux, Sum}
use Rattle.dg_model.specs.declared.op.Op.TheVariants.{Sum as OpSum, Pass as OpPass}
use lib.Signed.{le_z_yes}
use Rattle.dg_model.specs.Wires.{value_into}
use Rattle.dg_model.specs.Equation.{Equation, IsPart}
use Rattle.dg_model.specs.Signals.{Attributes, Stimulus, Table}
use Rattle.dg_model.proofs.Examples.{int8, block_of, edge_of, decimal_of, stores_small, kept, stored_as}
use Rattle.dg_model.proofs.SumTypes.{two_bytes_full}

-- ---- u (11, 12) and v (13) into a Mux, its three elements into a Demux of one and two, and an Outport of the two

abbrev laid : Diagram
laid = record {
  blocks = block_of (Inport 1 2) 0 1 None ∷ block_of (Inport 2 0) 0 1 None ∷ block_of (Mux []) 2 1 None ∷ block_of (Demux (1 ∷ 2 ∷ [])) 1 2 None
      ∷ block_of (Outport 1) 1 0 None ∷ [];
  edges = edge_of 0 1 2 1 ∷ edge_of 1 1 2 2 ∷ edge_of 2 1 3 1 ∷ edge_of 3 2 4 1 ∷ [];
}

abbrev laid_widths : List (List ℕ)
laid_widths = (2 ∷ []) ∷ (1 ∷ []) ∷ (3 ∷ []) ∷ (1 ∷ 2 ∷ []) ∷ []

abbrev laid_attributes : Attributes
laid_attributes = record { width_at = λ block port. get_or (0 ∷ get_or laid_widths block []) port 0; type_at = λ block port. int8; param_at = λ block. int8; period_at = λ block. Some 1 }

-- by block, port and element
abbrev laid_table : Table
laid_table block port element t =
    get_or (get_or (get_or (((pos 11 ∷ pos 12 ∷ []) ∷ []) ∷ ((pos 13 ∷ []) ∷ [])
    ∷ ((pos 11 ∷ pos 12 ∷ pos 13 ∷ []) ∷ []) ∷ ((pos 11 ∷ []) ∷ (pos 12 ∷ pos 13 ∷ []) ∷ [])
    ∷ ((pos 12 ∷ pos 13 ∷ []) ∷ []) ∷ []) block []) (port - 1) []) element (pos 0)

abbrev laid_stimulus : Stimulus
laid_stimulus number element t = laid_table (number - 1) 1 element t

abbrev IsLaid : ℕ → ℕ → ℕ → Type 0
IsLaid block port element = Equation laid laid_attributes laid_stimulus laid_table block port element 0 (laid_table block port element 0)

inports : IsLaid 0 1 0 × IsLaid 0 1 1 × IsLaid 1 1 0
inports = (refl, refl, refl)

mux : IsLaid 2 1 0 × IsLaid 2 1 1 × IsLaid 2 1 2
mux = (
  (0, 0, record { signal_is = lit< tt; within = lit< tt; place = refl }, refl),
  (0, 1, record { signal_is = lit< tt; within = lit< tt; place = refl }, refl),
  (1, 0, record { signal_is = lit< tt; within = lit< tt; place = refl }, refl),
)

demux : IsLaid 3 1 0 × IsLaid 3 2 0 × IsLaid 3 2 1
demux = (refl, refl, refl)

-- what a place of a block that is there may be
places : (block : ℕ) (b known : Block) (port element : ℕ) → IsShown laid laid_attributes block b port element → slice_get laid.blocks block ≡ Some known →
    (1 ≤ port) × (port ≤ shown_ports known.kind known.outputs) × (element < shown_width laid laid_attributes known.kind block port)
places block b known port element shown at =
    let is : b ≡ known = same_Some b known (sym shown.block_is ∙ at) in
    subst (λ (o : Block). (1 ≤ port) × (port ≤ shown_ports o.kind o.outputs) × (element < shown_width laid laid_attributes o.kind block port)) is (shown.port_from, shown.port_to, shown.element_below)

at_hits : (block : ℕ) (b : Block) (port element t : ℕ) → IsShown laid laid_attributes block b port element → t < 1
    → Hits (laid_attributes.period_at block) t
    → Equation laid laid_attributes laid_stimulus laid_table block port element t
    (laid_table block port element t)
at_hits block b zero element t shown below hit = absurd (omega (arith, shown.port_from))
at_hits zero b (suc zero) element t shown below hit = refl
at_hits zero b (suc (suc port)) element t shown below hit = absurd (omega (arith, (places 0 b _ (suc (suc port)) element shown refl).1))
at_hits (suc zero) b (suc zero) element t shown below hit = refl
at_hits (suc zero) b (suc (suc port)) element t shown below hit = absurd (omega (arith, (places 1 b _ (suc (suc port)) element shown refl).1))
at_hits (suc (suc zero)) b (suc zero) zero t shown below hit = (0, 0, record { signal_is = lit< tt; within = lit< tt; place = refl }, refl)
at_hits (suc (suc zero)) b (suc zero) (suc zero) t shown below hit = (0, 1, record { signal_is = lit< tt; within = lit< tt; place = refl }, refl)
at_hits (suc (suc zero)) b (suc zero) (suc (suc zero)) t shown below hit = (1, 0, record { signal_is = lit< tt; within = lit< tt; place = refl }, refl)
at_hits (suc (suc zero)) b (suc zero) (suc (suc (suc element))) t shown below hit = absurd (omega (arith, (places 2 b _ 1 (suc (suc (suc element))) shown refl).2))
at_hits (suc (suc zero)) b (suc (suc port)) element t shown below hit = absurd (omega (arith, (places 2 b _ (suc (suc port)) element shown refl).1))
at_hits (suc (suc (suc zero))) b (suc zero) zero t shown below hit = refl
at_hits (suc (suc (suc zero))) b (suc zero) (suc element) t shown below hit = absurd (omega (arith, (places 3 b _ 1 (suc element) shown refl).2))
at_hits (suc (suc (suc zero))) b (suc (suc zero)) zero t shown below hit = refl
at_hits (suc (suc (suc zero))) b (suc (suc zero)) (suc zero) t shown below hit = refl
at_hits (suc (suc (suc zero))) b (suc (suc zero)) (suc (suc element)) t shown below hit = absurd (omega (arith, (places 3 b _ 2 (suc (suc element)) shown refl).2))
at_hits (suc (suc (suc zero))) b (suc (suc (suc port))) element t shown below hit = absurd (omega (arith, (places 3 b _ (suc (suc (suc port))) element shown refl).1))
at_hits (suc (suc (suc (suc zero)))) b (suc zero) element t shown below hit = (OpPass, refl, refl)
at_hits (suc (suc (suc (suc zero)))) b (suc (suc port)) element t shown below hit = absurd (omega (arith, (places 4 b _ (suc (suc port)) element shown refl).1))
at_hits (suc (suc (suc (suc (suc block))))) b (suc port) element t shown below hit = absurd (none-some b shown.block_is)

-- the Outport shows both elements of its input
shown_second : IsShown laid laid_attributes 4 (block_of (Outport 1) 1 0 None) 1 1
shown_second = record { block_is = refl; port_from = lit≤ tt; port_to = lit≤ tt; element_below = lit< tt }

-- the table solves for one sample
pub laid_solves : Solves laid laid_attributes laid_stimulus 1 laid_table
laid_solves = record { at_hits = at_hits; between_hits = λ block b port element t shown below miss. absurd (miss (mod-one t)) }

-- ---- a control of two elements enables where one of them is above 0

abbrev controlled : Diagram
controlled = record { blocks = block_of (Inport 1 2) 0 1 None ∷ block_of EnableTest 1 1 None ∷ []; edges = edge_of 0 1 1 1 ∷ [] }

abbrev controlled_attributes : Attributes
controlled_attributes = record { width_at = λ block port. get_or (2 ∷ 1 ∷ []) block 0; type_at = λ block port. int8; param_at = λ block. int8; period_at = λ block. Some 1 }

-- 0 and 1 at base sample 0, then -1 and 0
abbrev controlled_table : Table
controlled_table block port element t =
    get_or (get_or (get_or (((pos 0 ∷ pos 1 ∷ []) ∷ (negsuc 0 ∷ pos 0 ∷ []) ∷ []) ∷ ((pos 1 ∷ []) ∷ (pos 0 ∷ []) ∷ []) ∷ []) block []) t []) element (pos 0)

control_of_two : Equation controlled controlled_attributes laid_stimulus controlled_table 1 1 0 0 (pos 1) × Equation controlled controlled_attributes laid_stimulus controlled_table 1 1 0 1 (pos 0)
control_of_two = (refl, refl)

-- ---- a Constant of 4 and 5, to which a scalar 1 is added, and Ground

abbrev added : Diagram
added = record {
  blocks = block_of (Constant (decimal_of 4 (lit< tt) ∷ decimal_of 5 (lit< tt) ∷ [])) 0 1 None
      ∷ block_of (Constant (decimal_of 1 (lit< tt) ∷ [])) 0 1 None
      ∷ block_of (Sum (false ∷ false ∷ []) Internal) 2 1 None ∷ block_of Ground 0 1 None ∷ [];
  edges = edge_of 0 1 2 1 ∷ edge_of 1 1 2 2 ∷ [];
}

abbrev added_attributes : Attributes
added_attributes = record { width_at = λ block port. get_or (2 ∷ 1 ∷ 2 ∷ 1 ∷ []) block 0; type_at = λ block port. int8; param_at = λ block. int8; period_at = λ block. None }

abbrev added_table : Table
added_table block port element t = get_or (get_or ((pos 4 ∷ pos 5 ∷ []) ∷ (pos 1 ∷ []) ∷ (pos 5 ∷ pos 6 ∷ []) ∷ []) block []) element (pos 0)

abbrev IsAdded : ℕ → ℕ → Type 0
IsAdded block element = Equation added added_attributes laid_stimulus added_table block 1 element 0 (added_table block 1 element 0)

constant : IsAdded 0 0 × IsAdded 0 1 × IsAdded 1 0
constant = (stores_small 4 (lit< tt) (lit< tt), stores_small 5 (lit< tt) (lit< tt), stores_small 1 (lit< tt) (lit< tt))

sum : IsAdded 2 0 × IsAdded 2 1
sum = ((OpSum None, refl, (Num true 9 (pos 0), two_bytes_full, kept (pos 5) tt tt)), (OpSum None, refl, (Num true 9 (pos 0), two_bytes_full, kept (pos 6) tt tt)))

ground : IsAdded 3 0
ground = refl

-- ---- and no other numbers

not_of_the_second : (signal k : ℕ) → IsPart (2 ∷ 1 ∷ []) 1 signal k → value_into laid laid_attributes laid_table 2 (suc signal) k 0 ≡ pos 12
not_of_the_second zero k part = let e : k ≡ 1 = omega (arith, part.place) in ap (λ (k : ℕ). value_into laid laid_attributes laid_table 2 1 k 0) e
not_of_the_second (suc zero) k part = absurd (omega (arith, part.place))
not_of_the_second (suc (suc signal)) k part = absurd (omega (arith, part.signal_is))

mux_other : ¬ Equation laid laid_attributes laid_stimulus laid_table 2 1 1 0 (pos 13)
mux_other given = let e : ◌≡◌ {A = ℤ} (pos 13) (pos 12) = given.3 ∙ not_of_the_second (given.0) (given.1) (given.2) in cc

demux_other : ¬ Equation laid laid_attributes laid_stimulus laid_table 3 2 0 0 (pos 11)
demux_other given = let e : ◌≡◌ {A = ℤ} (pos 11) (pos 12) = given in cc

control_other : ¬ Equation controlled controlled_attributes laid_stimulus controlled_table 1 1 0 1 (pos 1)
control_other given = let e : ◌≡◌ {A = ℤ} (pos 1) (pos 0) = given in cc

constant_other : ¬ Equation added added_attributes laid_stimulus added_table 0 1 1 0 (pos 4)
constant_other given =
    let e : ◌≡◌ {A = ℤ} (pos 4) (pos 5) = stored_as (decimal_of 5 (lit< tt)) int8 (pos 4) (pos 5) ((lit≤ tt, lit≤ tt), le_z_yes tt, le_z_yes tt) refl given in
    cc

ground_other : ¬ Equation added added_attributes laid_stimulus added_table 3 1 0 0 (pos 1)
ground_other given = let e : ◌≡◌ {A = ℤ} (pos 1) (pos 0) = given in cc
