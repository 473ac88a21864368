-- What is found of the arcs of a diagram, as its latencies.
use Rattle.std.proofs.Common.{◌≡◌, ℕ, ◌<◌, Bool, List, length, refl, sym, ap, subst, ◌∙◌}
use Rattle.std.specs.Prelude.{Some, Option}
use Rattle.std.proofs.lemmas.Option.{slice_get_within, slice_get-get_or, get_or_from_slice_get}
use Rattle.dg_model.specs.declared.diagram.Diagram.{Diagram}
use Rattle.dg_model.specs.declared.diagram.Block.{Block}
use Rattle.dg_model.specs.declared.resolved.Resolved.{Resolved}
use Rattle.dg_model.specs.Attributes.{attributes_of}
use Rattle.dg_model.specs.Loop.{IsOrder}
use Rattle.hw_arcs.specs.declared.arc.Arc.{Arc}
use Rattle.hw_arcs.specs.declared.found.Found.{Found}
use Rattle.hw_arcs.specs.declared.found.Found.TheVariants.{Gains, Least}
use Rattle.hw_arcs.specs.declared.found.Gaining.{Gaining}
use Rattle.hw_arcs.specs.Found.{AreLeast, IsFound, IsGaining, IsWhole}
use Rattle.hw_latency.specs.Cone.{AreFed}
use Rattle.hw_latency.specs.Latency.{AreLatencies}
use Rattle.hw_latency.specs.Weight.{latency_arcs}

-- an order of the blocks has each of them
pub whole_of : (diagram : Diagram) (order slice : List ℕ) → slice ≡ order → IsOrder diagram (attributes_of diagram) order → IsWhole slice (length diagram.blocks)
whole_of diagram order slice same ordered = subst (λ (o : List ℕ). IsWhole o (length diagram.blocks)) (back same) (record {
  there = λ place block at. subst (λ b. b < length diagram.blocks) (get_or_from_slice_get order place block block at) (ordered.there place block (slice_get_within order place block at));
  all = λ block below. let any = ordered.all block below in record { place = any.0; at = slice_get-get_or order any.0 any.1 any.2 ∙ ap Some (any.3 ∙ any.4) };
})
  where
    back : slice ≡ order → order ≡ slice
    back e = subst (λ (o : List ℕ). o ≡ slice) e refl

pub whole_among : (diagram : Diagram) (order slice : List ℕ) (blocks : List Block) → slice ≡ order
    → blocks ≡ diagram.blocks → IsOrder diagram (attributes_of diagram) order → IsWhole slice (length blocks)
whole_among diagram order slice blocks same are ordered = subst (λ (bs : List Block). IsWhole slice (length bs)) (sym are) (whole_of diagram order slice same ordered)

pub latencies_found : (diagram : Diagram) (plan : Resolved) (fed marks told : List Bool) (arcs slice : List Arc)
    (blocks : List Block) (lat : List ℕ) (tight : List (Option ℕ)) (found : Found)
    → AreFed diagram (attributes_of diagram) plan fed → marks ≡ fed → told ≡ fed
    → arcs ≡ latency_arcs diagram plan marks → slice ≡ arcs → blocks ≡ diagram.blocks → found ≡ Least lat tight
    → IsFound slice (length blocks) found
    → AreLatencies diagram plan (record { lat = lat; tight = tight; fed = told })
latencies_found diagram plan fed marks told arcs slice blocks lat tight found are marks_are told_is arcs_are same blocks_are found_is is =
    let all : slice ≡ latency_arcs diagram plan fed = same ∙ arcs_are ∙ ap (latency_arcs diagram plan) marks_are in
    let least : AreLeast slice (length blocks) lat tight = subst (λ (f : Found). IsFound slice (length blocks) f) found_is is in
    let there : AreLeast (latency_arcs diagram plan fed) (length diagram.blocks) lat tight =
    subst (λ (a : List Arc). AreLeast a (length diagram.blocks) lat tight) all
    (subst (λ (bs : List Block). AreLeast slice (length bs) lat tight) blocks_are least) in
    subst (λ (f : List Bool). AreLatencies diagram plan (record { lat = lat; tight = tight; fed = f }))
    (sym told_is) (record { fed = are; size = there.size; least = there.least; tight = there.asked })

pub gaining_found : (diagram : Diagram) (plan : Resolved) (fed marks : List Bool) (arcs slice : List Arc)
    (count : ℕ) (gaining : Gaining) (found : Found) → marks ≡ fed → arcs ≡ latency_arcs diagram plan marks
    → slice ≡ arcs
    → found ≡ Gains gaining → IsFound slice count found → IsGaining (latency_arcs diagram plan fed) gaining
gaining_found diagram plan fed marks arcs slice count gaining found marks_are arcs_are same found_is is =
    subst (λ (a : List Arc). IsGaining a gaining) (same ∙ arcs_are ∙ ap (latency_arcs diagram plan) marks_are) (subst (λ (f : Found). IsFound slice count f) found_is is)
