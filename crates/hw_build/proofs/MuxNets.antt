-- The nets that a Mux is offered, input port by input port.
use Rattle.std.proofs.Common.{◌≡◌, ℕ, ◌+◌, ◌<◌, List, [], ◌∷◌, ◌++◌, length, map, sum, inl, inr, ap, sym, ◌∙◌, subst, arith}
use Rattle.std.specs.Prelude.{slice_index_or}
use Rattle.std.proofs.lemmas.Bool.{cases_lt}
use Rattle.std.proofs.lemmas.List.{length-append}
use Rattle.math_list.specs.Numbers.{numbers_from}
use Rattle.dg_model.specs.declared.diagram.Block.{Block}
use Rattle.dg_model.specs.declared.diagram.Diagram.{Diagram}
use Rattle.dg_model.specs.declared.kind.Kind.TheVariants.{Mux}
use Rattle.dg_model.specs.Attributes.{attributes_of}
use Rattle.dg_model.specs.Solves.{shown_width}
use Rattle.dg_model.specs.Wires.{width_into}
use Rattle.hw_build.specs.declared.blocks.Setting.{Setting}
use Rattle.hw_build.specs.inner.ElementLoop.{diagram_of}
use Rattle.hw_build.specs.inner.Offers.{AreBegins, ArePartsTo, Offer}
use Rattle.hw_build.specs.inner.Operands.{offered_at}
use Rattle.math_list.proofs.Sums.{sum_last}
use Rattle.hw_build.proofs.MuxEntries.{mux_offered}
use Rattle.hw_build.proofs.HubSteps.{front_read}
use Rattle.hw_build.proofs.Tally.{at_last}

module _ (setting : Setting) (block : ℕ) (b : Block) where
  abbrev pub widths : ℕ → ℕ
  widths = width_into (diagram_of setting) (attributes_of (diagram_of setting)) block

  -- an element more
  pub parts_more : (sizes : List ℕ) → b.kind ≡ Mux sizes → (ports left width net : ℕ) (parts more : List ℕ) → ports < b.inputs → width ≡ widths (ports + 1) → left < width
      → net ≡ offered_at (diagram_of setting) setting.operands.now block (ports + 1) left → more ≡ parts ++ net ∷ []
      → ArePartsTo setting block b ports left parts → ArePartsTo setting block b ports (left + 1) more
  parts_more sizes is ports left width net parts more below wide within net_is more_is are =
      let long : length more ≡ length parts + 1 = ap length more_is ∙ length-append parts (net ∷ []) in
      let size = are.size in
      record {
        size = omega (arith, long, size);
        each = λ element inside. elim (cases_lt element (length parts)) [
          | inl less ↦
              let at : slice_index_or more element 0 ≡ slice_index_or parts element 0 = ap (λ (xs : List ℕ). slice_index_or xs element 0) more_is ∙ front_read parts net element less in
              subst (λ (n : ℕ). Offer setting block b 1 element (n ∷ [])) (sym at) (are.each element less)
          | inr past ↦
              let last : element ≡ length parts = omega (arith, inside, long, past) in
              let at : slice_index_or more element 0 ≡ net = ap (λ (xs : List ℕ). slice_index_or xs element 0) more_is ∙ at_last parts net element last in
              subst (λ (n : ℕ). Offer setting block b 1 element (n ∷ [])) (sym at)
              (λ places fits. mux_offered (diagram_of setting) block b 1 element left sizes is places ports width (net ∷ []) below wide within (last ∙ size)
              (ap (λ (n : ℕ). n ∷ []) (net_is ∙ sym (fits.lines.offered block (ports + 1) left))))
        ];
      }

  -- all elements of an input port more
  pub parts_next : (ports width : ℕ) (parts : List ℕ) → width ≡ widths (ports + 1) → ArePartsTo setting block b ports width parts → ArePartsTo setting block b (ports + 1) 0 parts
  parts_next ports width parts wide are =
      let size = are.size in
      let last = sum_last widths ports in
      record {
        size = omega (arith, size, last, wide);
        each = are.each;
      }

-- ---- a Demux

-- a port more
pub begins_more : (diagram : Diagram) (block : ℕ) (b : Block) (ports total : ℕ) (begins more : List ℕ)
    → total ≡ sum (map (shown_width diagram (attributes_of diagram) b.kind block) (numbers_from 1 ports))
    → more ≡ begins ++ total ∷ []
    → AreBegins diagram block b ports begins → AreBegins diagram block b (ports + 1) more
begins_more diagram block b ports total begins more total_is more_is are =
    let long : length more ≡ length begins + 1 = ap length more_is ∙ length-append begins (total ∷ []) in
    let size = are.size in
    record {
      size = omega (arith, long, size);
      each = λ k below. elim (cases_lt k ports) [
        | inl less ↦ ap (λ (xs : List ℕ). slice_index_or xs k 0) more_is ∙ front_read begins total k (omega (arith, less, size)) ∙ are.each k less
        | inr past ↦
            let last : k ≡ length begins = omega (arith, below, past, size) in
            let here : ports ≡ k = omega (arith, below, past) in
            ap (λ (xs : List ℕ). slice_index_or xs k 0) more_is ∙ at_last begins total k last ∙ total_is
            ∙ ap (λ (n : ℕ). sum (map (shown_width diagram (attributes_of diagram) b.kind block)
            (numbers_from 1 n))) here
      ];
    }
