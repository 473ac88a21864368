-- Root outputs in the order of their columns.
use Rattle.std.proofs.Common.{◌≡◌, ℕ, ◌+◌, ◌-◌, ◌*◌, ◌^◌, ◌<◌, ◌≤◌, List, [], ◌∷◌, ◌++◌, length, Some, ap, sym, ◌∙◌, subst, refl, arith}
use Rattle.std.specs.Prelude.{slice_get, slice_index_or}
use Rattle.std.proofs.lemmas.Option.{get_or_from_slice_get, same_Some, slice_get-get_or}
use Rattle.dg_model.specs.declared.diagram.Block.{Block}
use Rattle.dg_model.specs.declared.diagram.Diagram.{Diagram}
use Rattle.dg_model.specs.Attributes.{attributes_of}
use Rattle.dg_model.specs.Checked.{IsChecked}
use Rattle.dg_model.specs.Laws.{OutputsAreListed}
use Rattle.dg_model.specs.RootElements.{RootElement, root_outputs}
use Rattle.hw_net.specs.declared.netlist.NetPort.{NetPort}
use Rattle.hw_net.specs.Circuit.{Circuit}
use Rattle.hw_build.specs.declared.design.Design.{Design}
use Rattle.hw_names.specs.declared.names.Names.{Names}
use Rattle.hw_build.specs.inner.DesignTimes.{times_for}
use Rattle.hw_names.specs.Columns.{AreColumnsFrom}
use Rattle.hw_build.specs.inner.Factors.{HasSlots}
use Rattle.hw_build.specs.inner.HubPlaces.{hub_at}
use Rattle.hw_build.specs.inner.RootOutputs.{IsSmall, clocks_to, AreOutputBlocks, IsOutputPort, AddsOutputs}
use Rattle.hw_build.specs.inner.PortSteps.{AreOutputFirsts}
use Rattle.hw_build.proofs.PortSteps.{output_of, output_column, output_ports_more}
use Rattle.math_list.proofs.Sums.{greatest_at}

-- what is read at a place that is there
pub read_at : (xs : List ℕ) (k x : ℕ) → k < length xs → x ≡ slice_index_or xs k x → x ≡ slice_index_or xs k 0
read_at xs k x below is = is ∙ same_Some _ _ (sym (slice_get-get_or xs k x below) ∙ slice_get-get_or xs k 0 below)

-- by block
pub below_columns : (block : ℕ) (columns : List ℕ) (blocks : List Block) (held diagram : Diagram)
    → block < length diagram.blocks → length columns ≡ length blocks → blocks ≡ held.blocks → held ≡ diagram
    → block < length columns
below_columns block columns blocks held diagram there size blocks_are is =
    let e : length blocks ≡ length held.blocks = ap (λ (bs : List Block). length bs) blocks_are in
    let f : length held.blocks ≡ length diagram.blocks = ap (λ (d : Diagram). length d.blocks) is in
    omega (arith, there, size, e, f)

-- the latency of a block, as it is read
pub clocks_are : (design : Design) (block cycles : ℕ) (lat ready : List ℕ) → HasSlots design
    → block < length design.checked.now.diagram.blocks → lat ≡ design.latencies.now.lat
    → ready ≡ design.slots.now.ready → cycles ≡ design.plan.now.cycles
    → slice_index_or lat block 0 * cycles + slice_index_or ready block 0 ≡ clocks_to design block
clocks_are design block cycles lat ready slots there lat_is ready_is cycles_is =
    ap (λ (xs : List ℕ). slice_index_or xs block 0 * cycles + slice_index_or ready block 0) lat_is
    ∙ ap (λ (n : ℕ). slice_index_or design.latencies.now.lat block 0 * n + slice_index_or ready block 0) cycles_is
    ∙ ap (λ (n : ℕ). slice_index_or design.latencies.now.lat block 0 * design.plan.now.cycles + n)
    (ap (λ (xs : List ℕ). slice_index_or xs block 0) ready_is
    ∙ get_or_from_slice_get design.slots.now.ready block _ 0 (slots.ready.are block there))

-- the element of a column, whose block begins at another one
pub record IsOutputHere (design : Design) (firsts : List (List ℕ)) (block column k : ℕ) : Type 0 where
  pub e : RootElement
  pub at : slice_get (root_outputs design.checked.now.diagram (attributes_of design.checked.now.diagram)) k ≡ Some e
  pub block_is : e.block ≡ block
  pub period_is : e.period ≡ (attributes_of design.checked.now.diagram).period_at e.block
  pub there : block < length design.checked.now.diagram.blocks
  pub column_is : column + e.element ≡ k
  pub short : clocks_to design block ≤ 16777216
  pub first : 0 < length (slice_index_or firsts block [])
  pub fits : hub_at firsts block 1 e.element < 2 ^ 32

pub output_here : (design : Design) (firsts : List (List ℕ)) (outputs columns : List ℕ) (k : ℕ)
    → IsChecked design.checked.now.diagram → OutputsAreListed → IsSmall design → AreOutputBlocks design outputs
    → AreOutputFirsts design.checked.now.diagram firsts → AreColumnsFrom outputs columns 0 → k < length outputs
    → IsOutputHere design firsts (slice_index_or outputs k 0) (slice_index_or columns (slice_index_or outputs k 0) 0) k
output_here design firsts outputs columns k checked listed small are of columns_are below =
    let found = output_of design.checked.now.diagram outputs k checked listed are below in
    let latest = greatest_at (λ (e : RootElement). clocks_to design e.block) (root_outputs design.checked.now.diagram (attributes_of design.checked.now.diagram)) k found.e found.at in
    let most = small.short in
    let short : clocks_to design found.e.block ≤ 16777216 = omega (arith, latest, most) in
    record {
      e = found.e;
      at = found.at;
      block_is = found.block_is;
      period_is = found.period_is;
      there = subst (λ (b : ℕ). b < length design.checked.now.diagram.blocks) found.block_is found.there;
      column_is = ap (λ (b : ℕ). slice_index_or columns b 0 + found.e.element) (sym found.block_is)
          ∙ output_column design.checked.now.diagram outputs columns k found.e checked listed are columns_are
          found.at;
      short = subst (λ (b : ℕ). clocks_to design b ≤ 16777216) found.block_is short;
      first = subst (λ (b : ℕ). 0 < length (slice_index_or firsts b [])) found.block_is (of.there k found.e found.at);
      fits = subst (λ (b : ℕ). hub_at firsts b 1 found.e.element < 2 ^ 32) found.block_is (of.small k found.e found.at);
    }

-- its place in the signal is how far it is behind the first
pub element_is : (design : Design) (firsts : List (List ℕ)) (block column k number first : ℕ)
    (here : IsOutputHere design firsts block column k) → number ≡ k → first ≡ column
    → number - first ≡ here.e.element
element_is design firsts block column k number first here number_is first_is = let e = here.column_is in omega (arith, e, number_is, first_is)

pub outputs_next : (design : Design) (firsts : List (List ℕ)) (old names new : Names) (earlier now later : Circuit)
    (block column k element : ℕ) (port : NetPort) (here : IsOutputHere design firsts block column k)
    → element ≡ here.e.element → AddsOutputs design firsts old names earlier now k
    → IsOutputPort design firsts names new block element port → later ≡ record now { outputs = now.outputs ++ port ∷ [] } → AddsOutputs design firsts old new earlier later (k + 1)
outputs_next design firsts old names new earlier now later block column k element port here element_is is of grown =
    output_ports_more design.checked.now.diagram design.plan.now (times_for design) firsts old names new earlier now later k here.e.element here.e port is here.at refl here.period_is
    (subst (λ (b : ℕ). IsOutputPort design firsts names new b here.e.element port) (sym here.block_is) (subst (λ (n : ℕ). IsOutputPort design firsts names new block n port) element_is of)) grown
