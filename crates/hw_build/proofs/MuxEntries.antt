-- Lists that are read number by number, and what the ends of a Mux offer to an element: the one in whose part it stands.
use Rattle.std.proofs.Common.{◌≡◌, ℕ, suc, ◌+◌, ◌<◌, ◌≤◌, List, [], ◌∷◌, map, sum, ap, sym, ◌∙◌, subst, arith}
use Rattle.math_list.specs.Numbers.{numbers_from}
use Rattle.dg_model.specs.declared.diagram.Diagram.{Diagram}
use Rattle.dg_model.specs.declared.diagram.Block.{Block}
use Rattle.dg_model.specs.declared.kind.Kind.{Kind}
use Rattle.dg_model.specs.declared.kind.Kind.TheVariants.{Mux}
use Rattle.dg_model.specs.Attributes.{attributes_of}
use Rattle.dg_model.specs.Readable.{HasPorts}
use Rattle.dg_model.specs.Solves.{IsShown, shown_ports, shown_width}
use Rattle.dg_model.specs.Wires.{width_into}
use Rattle.dg_tables.specs.Fit.{HasWidths}
use Rattle.hw_build.specs.Places.{Places}
use Rattle.hw_build.specs.inner.Entries.{AreOffered}
use Rattle.dg_tables.proofs.Lists.{part_here}

-- ---- numbers one after another

-- ---- a Mux

module _ (diagram : Diagram) (block : ℕ) (b : Block) (port element left : ℕ) (sizes : List ℕ) (is : b.kind ≡ Mux sizes) where
  abbrev pub widths : ℕ → ℕ
  widths = width_into diagram (attributes_of diagram) block

  pub mux_offered : (places : Places) (signal width : ℕ) (nets : List ℕ) → signal < b.inputs
      → width ≡ widths (signal + 1) → left < width → element ≡ sum (map widths (numbers_from 1 signal)) + left
      → nets ≡ places.offered block (signal + 1) left ∷ []
      → AreOffered diagram places block b port element b.kind nets
  mux_offered places signal width nets below width_is within at nets_are =
      let next : signal + 1 ≡ suc signal = omega arith in
      subst (λ (k : Kind). AreOffered diagram places block b port element k nets) (sym is)
      (record {
        signal = signal;
        place = left;
        part =
            part_here widths b.inputs signal left width element below width_is within at;
        is =
            nets_are ∙ ap (λ (p : ℕ). places.offered block p left ∷ []) next;
      })

  -- it stands in one
  pub mux_inside : HasPorts b.kind b.inputs b.outputs
      → HasWidths diagram (attributes_of diagram) block b.kind b.inputs b.outputs
      → IsShown diagram (attributes_of diagram) block b port element
      → (port ≡ 1) × (element < sum (map widths (numbers_from 1 b.inputs)))
  mux_inside ports fits shown =
      let one = (subst (λ (k : Kind). HasPorts k b.inputs b.outputs) is ports).1 in
      let to : port ≤ b.outputs = subst (λ (k : Kind). port ≤ shown_ports k b.outputs) is shown.port_to in
      let from = shown.port_from in
      let first : port ≡ 1 = omega (arith, one, to, from) in
      let whole : (attributes_of diagram).width_at block 1 ≡ sum (map widths (numbers_from 1 b.inputs)) =
      subst (λ (k : Kind). HasWidths diagram (attributes_of diagram) block k b.inputs b.outputs) is fits in
      let below : element < (attributes_of diagram).width_at block port = subst (λ (k : Kind). element < shown_width diagram (attributes_of diagram) k block port) is shown.element_below in
      let wide = ap ((attributes_of diagram).width_at block) first in
      (first, omega (arith, whole, below, wide))
