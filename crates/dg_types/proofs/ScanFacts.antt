-- What the rounds of a wired diagram give is what is looked at.
use Rattle.std.proofs.Common.{◌≡◌, ℕ, suc, ◌<◌, List, [], length, map, get_or, sym, ap, subst, ◌∙◌, arith}
use Rattle.std.proofs.lemmas.Option.{get_or_from_slice_get, slice_get-get_or}
use Rattle.dg_model.specs.declared.diagram.Diagram.{Diagram}
use Rattle.dg_model.specs.declared.diagram.Edge.{Edge}
use Rattle.dg_model.specs.Widths.{Widths, next_widths, widths_of}
use Rattle.dg_model.specs.Wired.{IsWired}
use Rattle.dg_model.specs.Wires.{edges_into}
use Rattle.dg_waves.specs.Rounds.{round, after_rounds}
use Rattle.dg_waves.proofs.WaveRounds.{length_after, round_at}
use Rattle.dg_types.specs.declared.linked.Source.{Source}
use Rattle.dg_types.specs.declared.linked.Form.{Form}
use Rattle.dg_types.specs.declared.scanning.Scan.{Scan}
use Rattle.dg_types.specs.inner.Build.{Gathered}
use Rattle.dg_types.specs.inner.Widths.{next_held}
use Rattle.dg_types.specs.inner.Rows.{width_of_edge}
use Rattle.dg_types.specs.inner.WidthScan.{IsScan}
use Rattle.dg_types.specs.inner.WidthShapes.{shown, all_first, Mirrors}
use Rattle.dg_types.proofs.WidthRounds.{can_link, is_laid}
use Rattle.dg_types.proofs.WidthTables.{held_shows, length_first, length_shown}

pub is_scan : (diagram : Diagram) (scan : Scan) (forms : List Form) (sources : List (List Source)) (held later : List ℕ) → IsWired diagram → Mirrors diagram forms sources →
    held ≡ after_rounds (next_held forms sources) (length diagram.blocks) (all_first diagram.blocks) → later ≡ round (next_held forms sources) held →
    scan.widths ≡ shown diagram.blocks held → scan.again ≡ shown diagram.blocks later → Gathered (length scan.widths) (width_of_edge scan.widths) diagram.edges scan.inputs →
    IsScan diagram scan
is_scan diagram scan forms sources held later wired mirrors is_held is_later is_widths is_again gathered =
    let blocks = diagram.blocks in
    let next = next_held forms sources in
    let n = length blocks in
    let laid = is_laid diagram wired in
    let W = widths_of diagram in
    let held_size : length held ≡ n = ap length is_held ∙ length_after next n (all_first blocks) ∙ length_first blocks in
    let widths : scan.widths ≡ W = is_widths ∙ ap (shown blocks) is_held ∙ held_shows diagram forms sources n laid mirrors in
    let size : length scan.widths ≡ n = ap length is_widths ∙ length_shown blocks held held_size in
    let W_size : length W ≡ n = ap length (sym widths) ∙ size in
    let later_is : later ≡ after_rounds next (suc n) (all_first blocks) = is_later ∙ ap (round next) is_held in
    let later_size : length later ≡ n = ap length later_is ∙ length_after next (suc n) (all_first blocks) ∙ length_first blocks in
    let again : scan.again ≡ round (next_widths diagram) W = is_again ∙ ap (shown blocks) later_is ∙ held_shows diagram forms sources (suc n) laid mirrors in
    record {
      widths = widths;
      size = size;
      again_size = ap length is_again ∙ length_shown blocks later later_size;
      inputs_size = gathered.size ∙ size;
      again = λ place there. ap (λ (rows : Widths). get_or rows place []) again
          ∙ get_or_from_slice_get (round (next_widths diagram) W) place (next_widths diagram W place) []
          (round_at (next_widths diagram) W place (omega (arith, W_size)));
      inputs = λ place there. subst (λ (ws : Widths). get_or scan.inputs place [] ≡ map (width_of_edge ws) (edges_into diagram place)) widths (gathered.row place (omega (arith, size)));
    }

-- the ends of each edge are there
pub ends_there : (diagram : Diagram) (widths : Widths) → IsWired diagram → length widths ≡ length diagram.blocks → (k : ℕ) (edge : Edge) → k < length diagram.edges →
    ((get_or diagram.edges k edge).from < length widths) × ((get_or diagram.edges k edge).to < length widths)
ends_there diagram widths wired size k edge inside =
    let ends = (can_link diagram wired).ends k (get_or diagram.edges k edge) (slice_get-get_or diagram.edges k edge inside) in
    (omega (arith, ends.0), omega (arith, ends.1))
