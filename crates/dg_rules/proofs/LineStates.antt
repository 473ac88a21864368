-- How a plan's lines stand with one more block, and with all of them.
use Rattle.std.proofs.Common.{◌≡◌, ℕ, suc, ◌<◌, ◌≤◌, ◌⊎◌, ⊎_elim, Bool, true, false, List, length, Some, None, refl, sym, ap, subst, ◌∙◌, true≢false, inl, inr, arith}
use Rattle.dg_model.specs.Library.{row_of}
use Rattle.std.specs.Prelude.{◌↔◌, is_some, ◌&&◌, Option, position, replicate, slice_get, slice_set, slice_index_or}
use Rattle.std.proofs.lemmas.Bool.{cases_lt, cases_eq, and_parts}
use Rattle.std.proofs.lemmas.Grind.{get_or-set_at}
use Rattle.std.proofs.lemmas.List.{get_or-set_other, length-set, length-replicate}
use Rattle.std.proofs.lemmas.List.Elements.{All-replicate}
use Rattle.std.proofs.lemmas.Option.{same_Some, slice_get_within, slice_get-get_or, get_or_from_slice_get}
use Rattle.dg_model.specs.declared.diagram.Diagram.{Diagram}
use Rattle.dg_model.specs.declared.diagram.Block.{Block}
use Rattle.dg_model.specs.declared.plan.Pipeline.{Pipeline}
use Rattle.dg_model.specs.declared.plan.Plan.{Plan}
use Rattle.dg_model.specs.Faults.{fault_of}
use Rattle.dg_model.specs.declared.fault.Shown.TheVariants.{Nothing}
use Rattle.dg_model.specs.declared.fault.RuleFault.{RuleFault}
use Rattle.dg_model.specs.declared.rule.Rule.{Rule}
use Rattle.dg_model.specs.PlanNames.{MayBePipelined, IsFound, KeepsPlan, BreaksPlan}
use Rattle.dg_model.specs.PlanRange.{AreDifferent}
use Rattle.dg_model.specs.Signals.{Attributes}
use Rattle.dg_rules.specs.declared.standing.Standing.{Standing}
use Rattle.dg_rules.specs.declared.standing.Standing.TheVariants.{Unseen, Found, Refused}
use Rattle.dg_rules.specs.inner.Standings.{HasPath, IsFoundBefore, Stands, next_standing, AreStandings, looked_at}
use Rattle.dg_rules.proofs.PlanLines.{has, found, missing, within, one_line}

-- registers may stand behind a block exactly where its kind and its period allow it
pub may_decides : (attributes : Attributes) (place : ℕ) (block : Block) (kind hits : Bool)
    → kind ≡ (row_of block.kind).hardware.pipelines → hits ≡ is_some (attributes.period_at place)
    → ((kind && hits) ≡ true) ↔ MayBePipelined attributes place block
may_decides attributes place block kind hits kind_is hits_is = (
  λ e. let t = and_parts kind hits e in record { kind = sym kind_is ∙ t.0; period = sym hits_is ∙ t.1 },
  λ may. rw (kind_is, may.kind, hits_is, may.period) refl,
)

module _ (diagram : Diagram) (attributes : Attributes) where
  later : (count : ℕ) (path : List ℕ) (place : ℕ) (block : Block) → HasPath diagram count path place block → HasPath diagram (suc count) path place block
  later count path place block h = record { before = omega (arith, h.before); there = h.there; named = h.named }

  -- a block before the next place stands before this one, or is the block there
  split : (count : ℕ) (path : List ℕ) (here : Block) → slice_get diagram.blocks count ≡ Some here → (place : ℕ) (block : Block)
      → HasPath diagram (suc count) path place block → HasPath diagram count path place block ⊎ ((place ≡ count) × (block ≡ here))
  split count path here at place block h =
      ⊎_elim
      (λ (less : place < count). inl (record { before = less; there = h.there; named = h.named }))
      (λ (more : count ≤ place).
      let same : place ≡ count = omega (arith, more, h.before) in
      inr (same, same_Some block here (sym h.there ∙ ap (slice_get diagram.blocks) same ∙ at)))
      (cases_lt place count)

  past_block : (count : ℕ) (path : List ℕ) (here : Block) → slice_get diagram.blocks count ≡ Some here → (here.path ≡ path → ⊥)
      → (place : ℕ) (block : Block) → HasPath diagram (suc count) path place block → HasPath diagram count path place block
  past_block count path here at other place block h =
      ⊎_elim (λ old. old) (λ new. absurd (other (ap (λ (b : Block). b.path) (sym new.1) ∙ h.named))) (split count path here at place block h)

  -- a block of another path changes nothing
  pub stands_past : (count : ℕ) (path : List ℕ) (here : Block) → slice_get diagram.blocks count ≡ Some here → (here.path ≡ path → ⊥)
      → (standing : Standing) → Stands diagram attributes count path standing → Stands diagram attributes (suc count) path standing
  stands_past count path here at other Unseen none = λ place block h. none place block (past_block count path here at other place block h)
  stands_past count path here at other Found f = record {
    place = f.place;
    block = f.block;
    some = later count path f.place f.block f.some;
    each = λ o b h. f.each o b (past_block count path here at other o b h);
  }
  stands_past count path here at other Refused r = record { place = r.place; block = r.block; some = later count path r.place r.block r.some; not = r.not }

  each_more : (count : ℕ) (path : List ℕ) (here : Block) → slice_get diagram.blocks count ≡ Some here → MayBePipelined attributes count here
      → ((o : ℕ) (b : Block) → HasPath diagram count path o b → MayBePipelined attributes o b)
      → (o : ℕ) (b : Block) → HasPath diagram (suc count) path o b → MayBePipelined attributes o b
  each_more count path here at may before o b h =
      ⊎_elim (before o b)
      (λ new. subst (λ n. MayBePipelined attributes n b) (sym new.0) (subst (λ x. MayBePipelined attributes count x) (sym new.1) may))
      (split count path here at o b h)

  -- a block of this path is taken in
  pub stands_here : (count : ℕ) (path : List ℕ) (here : Block) → slice_get diagram.blocks count ≡ Some here → here.path ≡ path
      → (may : Bool) → ((may ≡ true) ↔ MayBePipelined attributes count here)
      → (standing : Standing) → Stands diagram attributes count path standing → Stands diagram attributes (suc count) path (next_standing may standing)
  stands_here count path here at named true decides Unseen none = record {
    place = count;
    block = here;
    some = record { before = omega arith; there = at; named = named };
    each = each_more count path here at (decides.0 refl) (λ o b h. absurd (none o b h));
  }
  stands_here count path here at named true decides Found f = record {
    place = f.place;
    block = f.block;
    some = later count path f.place f.block f.some;
    each = each_more count path here at (decides.0 refl) f.each;
  }
  stands_here count path here at named true decides Refused r = record { place = r.place; block = r.block; some = later count path r.place r.block r.some; not = r.not }
  stands_here count path here at named false decides standing s = record {
    place = count;
    block = here;
    some = record { before = omega arith; there = at; named = named };
    not = λ may. true≢false (sym (decides.1 may));
  }

  -- ---- all lines

  pub none_looked_at : (lines : List Pipeline) → AreStandings diagram attributes 0 lines (replicate (length lines) Unseen)
  none_looked_at lines = record {
    long = length-replicate (length lines) Unseen;
    each = λ number line at.
        let below = slice_get_within lines number line at in
        let is : slice_index_or (replicate (length lines) Unseen) number Unseen ≡ Unseen =
        All-replicate (λ (s : Standing). s ≡ Unseen) (length lines) Unseen refl number Unseen (omega (arith, below, length-replicate (length lines) Unseen)) in
        subst (λ s. Stands diagram attributes 0 line.path s) (sym is) (λ place block h. absurd (omega (arith, h.before)));
  }

  module _ (lines : List Pipeline) (count : ℕ) (here : Block) (may : Bool) (standings : List Standing)
      (apart : AreDifferent lines) (at : slice_get diagram.blocks count ≡ Some here) (decides : (may ≡ true) ↔ MayBePipelined attributes count here)
      (before : AreStandings diagram attributes count lines standings) where
    abbrev written : ℕ → List Standing
    written number = slice_set standings number (next_standing may (slice_index_or standings number Unseen))

    at_number : (number k : ℕ) (line : Pipeline) → position (has here.path) lines ≡ Some number → slice_get lines k ≡ Some line → k ≡ number
        → Stands diagram attributes (suc count) line.path (slice_index_or (written number) k Unseen)
    at_number number k line is there same =
        let below = slice_get_within lines k line there in
        let named : line.path ≡ here.path = found lines here.path number line is (ap (slice_get lines) (sym same) ∙ there) in
        let value : slice_index_or (written number) k Unseen ≡ next_standing may (slice_index_or standings k Unseen) =
        get_or-set_at standings number k (next_standing may (slice_index_or standings number Unseen)) Unseen same (omega (arith, below, same, before.long))
        ∙ ap (λ n. next_standing may (slice_index_or standings n Unseen)) (sym same) in
        subst (λ s. Stands diagram attributes (suc count) line.path s) (sym value)
        (stands_here count line.path here at (sym named) may decides (slice_index_or standings k Unseen) (before.each k line there))

    elsewhere : (number k : ℕ) (line : Pipeline) → position (has here.path) lines ≡ Some number → slice_get lines k ≡ Some line → (k ≡ number → ⊥)
        → Stands diagram attributes (suc count) line.path (slice_index_or (written number) k Unseen)
    elsewhere number k line is there other =
        let below = within lines here.path number is in
        let l = slice_index_or lines number line in
        let there' : slice_get lines number ≡ Some l = slice_get-get_or lines number line below in
        let named = found lines here.path number l is there' in
        subst (λ s. Stands diagram attributes (suc count) line.path s) (sym (get_or-set_other standings number k (next_standing may (slice_index_or standings number Unseen)) Unseen other))
        (stands_past count line.path here at (λ e. other (one_line lines k number line l apart there there' (sym e ∙ sym named))) (slice_index_or standings k Unseen) (before.each k line there))

    one_by : (number : Option ℕ) → position (has here.path) lines ≡ number → AreStandings diagram attributes (suc count) lines (looked_at number may standings)
    one_by None is = record {
      long = before.long;
      each = λ k line there. stands_past count line.path here at (λ e. missing lines here.path is k line there (sym e)) (slice_index_or standings k Unseen) (before.each k line there);
    }
    one_by (Some number) is = record {
      long = length-set standings number (next_standing may (slice_index_or standings number Unseen)) ∙ before.long;
      each = λ k line there. ⊎_elim (λ same. at_number number k line is there same) (λ other. elsewhere number k line is there other) (cases_eq k number);
    }

    pub one_looked_at : AreStandings diagram attributes (suc count) lines (looked_at (position (has here.path) lines) may standings)
    one_looked_at = one_by (position (has here.path) lines) refl

  -- ---- the verdict

  found_of : (line : Pipeline) → IsFoundBefore diagram attributes (length diagram.blocks) line.path → IsFound diagram attributes line
  found_of line f = record {
    some =
        let below = slice_get_within diagram.blocks f.place f.block f.some.there in
        (f.place, f.block, below, get_or_from_slice_get diagram.blocks f.place f.block f.block f.some.there, f.some.named);
    each = λ place block there named. f.each place block (record { before = slice_get_within diagram.blocks place block there; there = there; named = named });
  }

  not_found : (line : Pipeline) (standing : Standing) → (standing ≡ Found → ⊥) → Stands diagram attributes (length diagram.blocks) line.path standing → ¬ IsFound diagram attributes line
  not_found line Unseen ne none f =
      let s = f.some in
      none s.0 s.1 (record { before = s.2; there = slice_get-get_or diagram.blocks s.0 s.1 s.2 ∙ ap Some s.3; named = s.4 })
  not_found line Found ne h f = ne refl
  not_found line Refused ne r f = r.not (f.each r.place r.block r.some.there r.some.named)

  module _ (plan : Plan) (standings : List Standing) (all : AreStandings diagram attributes (length diagram.blocks) plan.pipelines standings) where
    at_found : (k : ℕ) (line : Pipeline) → slice_get plan.pipelines k ≡ Some line → slice_index_or standings k Unseen ≡ Found → IsFound diagram attributes line
    at_found k line there is = found_of line (subst (λ s. Stands diagram attributes (length diagram.blocks) line.path s) is (all.each k line there))

    pub plan_kept : ((k : ℕ) → k < length standings → slice_index_or standings k Unseen ≡ Found) → KeepsPlan diagram attributes plan
    plan_kept each = λ k d below.
        at_found k (slice_index_or plan.pipelines k d) (slice_get-get_or plan.pipelines k d below) (each k (omega (arith, below, all.long)))

    pub plan_broken : (number : ℕ) (line : Pipeline) (fault : RuleFault) → slice_get plan.pipelines number ≡ Some line
        → (slice_index_or standings number Unseen ≡ Found → ⊥) → ((k : ℕ) → k < number → slice_index_or standings k Unseen ≡ Found)
        → fault ≡ fault_of Rule.Plan line.path Nothing → BreaksPlan diagram attributes plan fault
    plan_broken number line fault there ne before is = record {
      number = number;
      line = line;
      line_is = there;
      missing = not_found line (slice_index_or standings number Unseen) ne (all.each number line there);
      before = λ k other below at. at_found k other at (before k below);
      fault_is = is;
    }
