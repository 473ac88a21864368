-- A rank from an order of the blocks: the place of a block in it.
use Rattle.std.proofs.Common.{◌≡◌, ℕ, zero, suc, ◌+◌, ◌<◌, ◌≤◌, ◌==◌, ◌&&◌, Bool, true, false, true≢false, cond, List, [], ◌∷◌, ◌++◌, length, map, find, slice_get, Option, Some, ap, sym, ◌∙◌, subst}
use Rattle.std.proofs.Common.{refl, arith, eqb-true, eq-eqb}
use Rattle.std.proofs.lemmas.Option.{none-some, same_Some, slice_get_within, get_or_from_slice_get, slice_get-get_or}
use Rattle.dg_model.specs.declared.diagram.Diagram.{Diagram}
use Rattle.dg_model.specs.declared.diagram.Block.{Block}
use Rattle.dg_model.specs.declared.diagram.Edge.{Edge}
use Rattle.dg_model.specs.declared.nested.Target.TheVariants.{Enable}
use Rattle.dg_model.specs.declared.row.Asking.{Asking}
use Rattle.dg_model.specs.Library.{row_of}
use Rattle.dg_model.specs.Signals.{Attributes}
use Rattle.dg_model.specs.Wires.{enters, driver_of}
use Rattle.dg_model.specs.LatencyEdges.{LatencyEdge, signal_edge, asks_ever, enable_edge, enable_edges_from, latency_edges}
use Rattle.dg_model.specs.Instant.{reads_now, is_asked_now, asks_now, takes_now_at, is_instant}
use Rattle.dg_model.specs.Loop.{LeadsNow, IsOrder}
use Rattle.math_list.proofs.Places.{get_left, there_map}

pub there_right : {X : Type 0} (xs ys : List X) (k : ℕ) (x : X) → slice_get ys k ≡ Some x → (j : ℕ) × (slice_get (xs ++ ys) j ≡ Some x)
there_right [] ys k x e = (k, e)
there_right (y ∷ xs) ys k x e = let r = there_right xs ys k x e in (suc r.0, r.1)

pub found_at : {X : Type 0} (test : X → Bool) (xs : List X) (x : X) → find test xs ≡ Some x → (k : ℕ) × (slice_get xs k ≡ Some x) × (test x ≡ true)
found_at test [] x e = absurd (none-some x e)
found_at {X} test (y ∷ ys) x e = go (test y) refl (found_at test ys x) e
  where
    go : (b : Bool) → test y ≡ b → (find test ys ≡ Some x → (k : ℕ) × (slice_get ys k ≡ Some x) × (test x ≡ true))
        → cond b (Some y) (find test ys) ≡ Some x → (k : ℕ) × (slice_get (y ∷ ys) k ≡ Some x) × (test x ≡ true)
    go true t rest e = (0, e, subst (λ (z : X). test z ≡ true) (same_Some y x e) t)
    go false t rest e = let r = rest e in (suc r.0, r.1, r.2)

-- ---- the first place of a number
abbrev pub place_in : List ℕ → ℕ → ℕ
place_in [] place = 0
place_in (x ∷ xs) place = cond (x == place) 0 (suc (place_in xs place))

no_later : (order : List ℕ) (j place : ℕ) → slice_get order j ≡ Some place → place_in order place ≤ j
no_later [] j place at = absurd (none-some place at)
no_later (x ∷ xs) zero place at = subst (λ (b : Bool). cond b 0 (suc (place_in xs place)) ≤ 0) (sym (eq-eqb x place (same_Some x place at))) (omega arith)
no_later (x ∷ xs) (suc j) place at = go (x == place) (no_later xs j place at)
  where
    go : (b : Bool) → place_in xs place ≤ j → cond b 0 (suc (place_in xs place)) ≤ suc j
    go true rest = omega arith
    go false rest = omega (arith, rest)

stands_first : (order : List ℕ) (j place : ℕ) → slice_get order j ≡ Some place → slice_get order (place_in order place) ≡ Some place
stands_first [] j place at = absurd (none-some place at)
stands_first (x ∷ xs) zero place at =
    let e : x ≡ place = same_Some x place at in
    subst (λ (b : Bool). slice_get (x ∷ xs) (cond b 0 (suc (place_in xs place))) ≡ Some place) (sym (eq-eqb x place e)) at
stands_first (x ∷ xs) (suc j) place at = go (x == place) refl (stands_first xs j place at)
  where
    go : (b : Bool) → (x == place) ≡ b → slice_get xs (place_in xs place) ≡ Some place → slice_get (x ∷ xs) (cond b 0 (suc (place_in xs place))) ≡ Some place
    go true e rest = ap (λ (n : ℕ). Some n) (eqb-true x place e)
    go false e rest = rest

-- ---- the edges of a block
enters_block : (block port : ℕ) (edge : Edge) → enters block port edge ≡ true → edge.to ≡ block
enters_block block port edge e = go (edge.to == block) refl e
  where
    go : (b : Bool) → (edge.to == block) ≡ b → (b && (edge.to_port == port)) ≡ true → edge.to ≡ block
    go true t e = eqb-true edge.to block t
    go false t e = absurd (true≢false (sym e))

abbrev control_edge : ℕ → ℕ → LatencyEdge
control_edge control place = record { from = control; from_port = 1; to = place; target = Enable }

own_edge : (place : ℕ) (b : Block) (control : ℕ) → asks_now b.kind ≡ true → b.enable ≡ Some control
    → slice_get (enable_edge place (asks_ever (row_of b.kind).timing.asks) b.enable) 0 ≡ Some (control_edge control place)
own_edge place b control asks is = go (row_of b.kind).timing.asks asks
  where
    go : (asking : Asking) → is_asked_now asking ≡ true → slice_get (enable_edge place (asks_ever asking) b.enable) 0 ≡ Some (control_edge control place)
    go Asking.Never a = absurd (true≢false (sym a))
    go Asking.Before a = absurd (true≢false (sym a))
    go Asking.Now a = subst (λ (o : Option ℕ). slice_get (enable_edge place true o) 0 ≡ Some (control_edge control place)) (sym is) refl

enable_stands : (place k : ℕ) (blocks : List Block) (b : Block) (control at : ℕ) → at ≡ place + k → slice_get blocks k ≡ Some b → asks_now b.kind ≡ true → b.enable ≡ Some control
    → (j : ℕ) × (slice_get (enable_edges_from place blocks) j ≡ Some (control_edge control at))
enable_stands place k [] b control at same e asks is = absurd (none-some b e)
enable_stands place zero (x ∷ xs) b control at same e asks is =
    let here : place ≡ at = omega (arith, same) in
    subst (λ (n : ℕ). (j : ℕ) × (slice_get (enable_edges_from place (x ∷ xs)) j ≡ Some (control_edge control n))) here (
      0,
      get_left (enable_edge place (asks_ever (row_of x.kind).timing.asks) x.enable) (enable_edges_from (suc place) xs) 0 (control_edge control place)
          (subst (λ (z : Block). slice_get (enable_edge place (asks_ever (row_of z.kind).timing.asks) z.enable) 0
          ≡ Some (control_edge control place)) (sym (same_Some x b e)) (own_edge place b control asks is)),
    )
enable_stands place (suc k) (x ∷ xs) b control at same e asks is =
    let r = enable_stands (suc place) k xs b control at (omega (arith, same)) e asks is in
    there_right (enable_edge place (asks_ever (row_of x.kind).timing.asks) x.enable) (enable_edges_from (suc place) xs) r.0 (control_edge control at) r.1

-- ---- instant edges
module _ (diagram : Diagram) (attributes : Attributes) where
  leads : (k : ℕ) (edge : LatencyEdge) → slice_get (latency_edges diagram) k ≡ Some edge → is_instant diagram attributes edge ≡ true → LeadsNow diagram attributes edge.from edge.to
  leads k edge e instant = (k, edge, slice_get_within (latency_edges diagram) k edge e, get_or_from_slice_get (latency_edges diagram) k edge edge e, (refl, refl, instant))

  -- one leads from what drives a block that reads its inputs in the same sample
  pub driver_leads : (block : ℕ) (b : Block) (port : ℕ) (edge : Edge) → slice_get diagram.blocks block ≡ Some b
      → reads_now diagram attributes block b.kind ≡ true → driver_of diagram block port ≡ Some edge
      → LeadsNow diagram attributes edge.from block
  driver_leads block b port edge e now driver =
      let f = found_at (enters block port) diagram.edges edge driver in
      let to : edge.to ≡ block = enters_block block port edge f.2 in
      let at : slice_get diagram.blocks edge.to ≡ Some b = ap (slice_get diagram.blocks) to ∙ e in
      let instant : takes_now_at diagram attributes (signal_edge edge) (slice_get diagram.blocks edge.to) ≡ true =
      subst (λ (o : Option Block). takes_now_at diagram attributes (signal_edge edge) o ≡ true) (sym at) (subst (λ (n : ℕ). reads_now diagram attributes n b.kind ≡ true) (sym to) now) in
      let lead : LeadsNow diagram attributes edge.from edge.to =
      leads f.0 (signal_edge edge) (get_left (map signal_edge diagram.edges) (enable_edges_from 0 diagram.blocks) f.0 (signal_edge edge) (there_map signal_edge diagram.edges f.0 edge f.1)) instant in
      subst (λ (n : ℕ). LeadsNow diagram attributes edge.from n) to lead

  -- and from the control of a block that asks in the same sample whether it is enabled
  pub control_leads : (block : ℕ) (b : Block) (control : ℕ) → slice_get diagram.blocks block ≡ Some b → asks_now b.kind ≡ true → b.enable ≡ Some control → LeadsNow diagram attributes control block
  control_leads block b control e asks is =
      let own = enable_stands 0 block diagram.blocks b control block (omega arith) e asks is in
      let there = there_right (map signal_edge diagram.edges) (enable_edges_from 0 diagram.blocks) own.0 (control_edge control block) own.1 in
      let instant : takes_now_at diagram attributes (control_edge control block) (slice_get diagram.blocks block) ≡ true =
      subst (λ (o : Option Block). takes_now_at diagram attributes (control_edge control block) o ≡ true) (sym e) asks in
      leads there.0 (control_edge control block) there.1 instant

module _ (diagram : Diagram) (attributes : Attributes) (order : List ℕ) (is_order : IsOrder diagram attributes order) where
  abbrev pub rank : ℕ → ℕ
  rank place = place_in order place

  stands : (block : ℕ) (b : Block) → slice_get diagram.blocks block ≡ Some b → slice_get order (rank block) ≡ Some block
  stands block b e =
      let a = is_order.all block (slice_get_within diagram.blocks block b e) in
      stands_first order a.0 block (slice_get-get_or order a.0 a.1 a.2 ∙ ap (λ (n : ℕ). Some n) (a.3 ∙ a.4))

  lower : (source block : ℕ) (b : Block) → slice_get diagram.blocks block ≡ Some b → LeadsNow diagram attributes source block → rank source < rank block
  lower source block b e lead =
      let j = is_order.after (rank block) block source (stands block b e) lead in
      let first : place_in order source ≤ j.0 = no_later order j.0 source j.2 in
      omega (arith, j.1, first)

  pub driver_lower : (block : ℕ) (b : Block) (port : ℕ) (edge : Edge) → slice_get diagram.blocks block ≡ Some b
      → reads_now diagram attributes block b.kind ≡ true → driver_of diagram block port ≡ Some edge
      → rank edge.from < rank block
  driver_lower block b port edge e now driver = lower edge.from block b e (driver_leads diagram attributes block b port edge e now driver)

  pub control_lower : (block : ℕ) (b : Block) (control : ℕ) → slice_get diagram.blocks block ≡ Some b → asks_now b.kind ≡ true → b.enable ≡ Some control → rank control < rank block
  control_lower block b control e asks is = lower control block b e (control_leads diagram attributes block b control e asks is)

  pub rank_below : (block : ℕ) (b : Block) → slice_get diagram.blocks block ≡ Some b → rank block < length order
  rank_below block b e = slice_get_within order (rank block) block (stands block b e)
