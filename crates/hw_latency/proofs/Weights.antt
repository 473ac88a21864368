-- What the code finds of a block and of an edge, as the definitions say it.
use Rattle.std.proofs.Common.{◌≡◌, ℕ, ◌<◌, Bool, true, false, List, length, get_or, sym, ap, ◌∙◌}
use Rattle.std.specs.Prelude.{slice_get, Some, None, Option, ◌&&◌}
use Rattle.std.proofs.lemmas.Option.{slice_get-get_or}
use Rattle.dg_model.specs.declared.diagram.Diagram.{Diagram}
use Rattle.dg_model.specs.declared.diagram.Block.{Block}
use Rattle.dg_model.specs.declared.resolved.Resolved.{Resolved}
use Rattle.dg_model.specs.Attributes.{attributes_of}
use Rattle.dg_model.specs.Library.{row_of}
use Rattle.hw_arcs.specs.declared.arc.Arc.{Arc}
use Rattle.hw_latency.specs.Cone.{is_marked}
use Rattle.hw_latency.specs.Shared.{is_shared, multiplies_if, shares}
use Rattle.hw_latency.specs.Weight.{arc_between, arc_from, arc_into, gain_into, idle_arc, is_registered, samples, slack_into}
use Rattle.dg_model.specs.PlanOf.{stages_at}

pub block_read : (blocks slice : List Block) (place : ℕ) (block : Block) → slice ≡ blocks → place < length slice → block ≡ get_or slice place block → slice_get blocks place ≡ Some block
block_read blocks slice place block same inside is = ap (λ (bs : List Block). slice_get bs place) (sym same) ∙ slice_get-get_or slice place block inside ∙ ap Some (sym is)

pub unshared_as : (diagram : Diagram) (plan : Resolved) (place : ℕ) (block : Block) (multiplies : Bool)
    → slice_get diagram.blocks place ≡ Some block → multiplies ≡ (row_of block.kind).hardware.multiplies
    → multiplies ≡ false
    → false ≡ is_shared diagram (attributes_of diagram) plan place
unshared_as diagram plan place block multiplies there is off =
    sym (ap (λ (b : Option Block). multiplies_if b && shares plan ((attributes_of diagram).period_at place)) there
    ∙ ap (λ b. b && shares plan ((attributes_of diagram).period_at place)) (sym is ∙ off))

pub shared_as : (diagram : Diagram) (plan : Resolved) (place : ℕ) (block : Block) (multiplies shared : Bool)
    → slice_get diagram.blocks place ≡ Some block → multiplies ≡ (row_of block.kind).hardware.multiplies
    → multiplies ≡ true
    → shared ≡ shares plan ((attributes_of diagram).period_at place) → shared ≡ is_shared diagram (attributes_of diagram) plan place
shared_as diagram plan place block multiplies shared there is on shared_is =
    shared_is ∙ sym (ap (λ (b : Option Block). multiplies_if b
    && shares plan ((attributes_of diagram).period_at place)) there
    ∙ ap (λ b. b && shares plan ((attributes_of diagram).period_at place)) (sym is ∙ on))

-- ---- arcs

pub idle_as : (diagram : Diagram) (plan : Resolved) (fed : List Bool) (from to : ℕ) (period : Option ℕ)
    → period ≡ (attributes_of diagram).period_at from → period ≡ None
    → idle_arc from to ≡ arc_between diagram (attributes_of diagram) plan fed from to
idle_as diagram plan fed from to period is none = sym (ap (arc_from diagram (attributes_of diagram) plan fed from to) (sym is ∙ none))

abbrev arc_with : ℕ → ℕ → ℕ → ℕ → Arc
arc_with from to gain slack = record { from = from; to = to; counts = true; gain = gain; slack = slack }

pub arc_as : (diagram : Diagram) (plan : Resolved) (fed : List Bool) (from to period own stages gain slack : ℕ)
    (found end : Option ℕ) (mark registered : Bool) (block : Block) → found ≡ (attributes_of diagram).period_at from
    → found ≡ Some period
    → end ≡ (attributes_of diagram).period_at to → own ≡ samples end → slice_get diagram.blocks to ≡ Some block
    → registered ≡ is_registered block own period → mark ≡ is_marked fed from → stages ≡ stages_at plan from
    → gain ≡ gain_into registered mark stages period → slack ≡ slack_into registered block own period → arc_with from to gain slack ≡ arc_between diagram (attributes_of diagram) plan fed from to
arc_as diagram plan fed from to period own stages gain slack found end mark registered block found_is some end_is own_is there registered_is mark_is stages_is gain_is slack_is =
    let o : own ≡ samples ((attributes_of diagram).period_at to) = own_is ∙ ap samples end_is in
    let r : registered ≡ is_registered block (samples ((attributes_of diagram).period_at to)) period = registered_is ∙ ap (λ n. is_registered block n period) o in
    let g : gain ≡ gain_into (is_registered block (samples ((attributes_of diagram).period_at to)) period) (is_marked fed from) (stages_at plan from) period =
    gain_is ∙ ap (λ b. gain_into b mark stages period) r ∙ ap (λ b. gain_into (is_registered block (samples ((attributes_of diagram).period_at to)) period) b stages period) mark_is
    ∙ ap (λ n. gain_into (is_registered block (samples ((attributes_of diagram).period_at to)) period) (is_marked fed from) n period) stages_is in
    let s : slack ≡ slack_into (is_registered block (samples ((attributes_of diagram).period_at to)) period) block (samples ((attributes_of diagram).period_at to)) period =
    slack_is ∙ ap (λ b. slack_into b block own period) r ∙ ap (λ n. slack_into (is_registered block (samples ((attributes_of diagram).period_at to)) period) block n period) o in
    ap (λ n. arc_with from to n slack) g ∙ ap
    (λ n. arc_with from to (gain_into (is_registered block
    (samples ((attributes_of diagram).period_at to)) period) (is_marked fed from)
    (stages_at plan from) period) n) s
    ∙ sym (ap (arc_from diagram (attributes_of diagram) plan fed from to) (sym found_is ∙ some)
    ∙ ap (arc_into from to (is_marked fed from) (stages_at plan from) period
    (samples ((attributes_of diagram).period_at to))) there)
