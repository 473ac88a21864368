-- Rules that look back serve the equations of their blocks.
use Rattle.std.proofs.Common.{◌≡◌, ℕ, suc, ◌<◌, ◌≤◌, ◌-◌, ◌++◌, ◌&&◌, Bool, true, false, ℤ, pos, List, [], ◌∷◌, length, length-append, Option, Some, None, slice_get, MatchOption, MatchBool}
use Rattle.std.proofs.Common.{if◌then◌else◌, cond, filter, unwrap_or, sym, ◌∙◌, subst, ap, refl, arith, append-nil, ◌⊎◌, inl, inr}
use Rattle.std.proofs.lemmas.Option.{slice_get_within}
use Rattle.fx_type.specs.declared.decimal.Decimal.{Decimal}
use Rattle.dg_model.specs.declared.diagram.Diagram.{Diagram}
use Rattle.dg_model.specs.declared.diagram.Block.{Block}
use Rattle.dg_model.specs.declared.kind.Kind.{Kind}
use Rattle.dg_model.specs.declared.kind.Kind.TheVariants.{Delay, RateTransition, EnOut}
use Rattle.dg_model.specs.Signals.{Attributes, Stimulus, Table}
use Rattle.dg_model.specs.Hits.{Hits, is_hit, hits_before, is_slow_to_fast}
use Rattle.dg_model.specs.Wires.{value_into, period_into}
use Rattle.dg_model.specs.Equation.{StoresEntry, is_enabled, IsInputAt}
use Rattle.dg_tables.specs.declared.entries.Place.{Place}
use Rattle.dg_sim.specs.declared.program.Memory.{Memory}
use Rattle.dg_sim.specs.declared.program.Program.{Program}
use Rattle.dg_sim.specs.declared.program.Rule.TheVariants.{Past, Slower, Held, Reset}
use Rattle.dg_tables.specs.State.{count_if, count_or_forget, delay_move, move_at, kept_count, kept_values}
use Rattle.dg_tables.specs.Steps.{KeptIsRead}
use Rattle.dg_sim.specs.Program.{kept_or, is_on, move_of}
use Rattle.dg_sim.specs.Sim.{Agrees, Keep, IsMemory}
use Rattle.dg_sim.specs.inner.ProgramSteps.{IsControl, Moves, IsRemembered, IsMade, IsRule, IsControlCell, HandsOn, AreMemories}
use Rattle.dg_tables.specs.Entries.{Reads}
use Rattle.std.specs.Ordering.{int_eq}
use Rattle.dg_sim.proofs.Sweep.{hit_false}
use Rattle.dg_sim.proofs.ByKind.{of_kind}
use Rattle.math_list.proofs.Places.{last_at, push_cases}

-- what is kept, or the initial value, is what the equation asks for
pub kept_match : (o : Option ℤ) (initial v : ℤ) (P : ℤ → Type 0) → P initial → v ≡ unwrap_or o initial → MatchOption o (P v) (λ w. v ≡ w)
kept_match None initial v P h e = subst P (sym e) h
kept_match (Some w) initial v P h e = e

delay_moves : (table : Table) (enable : Option ℕ) (reset hit on : Bool) (t : ℕ) → on ≡ is_enabled table enable t → move_of hit on reset ≡ delay_move table enable reset hit t
delay_moves table None reset hit on t e = ap (λ (on : Bool). move_of hit on reset) e ∙ go hit
  where
    go : (hit : Bool) → move_of hit true reset ≡ count_if hit
    go true = refl
    go false = refl
delay_moves table (Some control) false hit on t e = ap (λ (on : Bool). move_of hit on false) e ∙ go hit (is_enabled table (Some control) t)
  where
    go : (hit enabled : Bool) → move_of hit enabled false ≡ count_if (hit && enabled)
    go true true = refl
    go true false = refl
    go false enabled = refl
delay_moves table (Some control) true hit on t e = ap (λ (on : Bool). move_of hit on true) e ∙ go hit (is_enabled table (Some control) t)
  where
    go : (hit enabled : Bool) → move_of hit enabled true ≡ count_or_forget hit enabled
    go true true = refl
    go true false = refl
    go false enabled = refl

module _ (diagram : Diagram) (attributes : Attributes) (old new : Program) (place : Place) (b : Block) (block_is : slice_get diagram.blocks place.block ≡ Some b) where
  pub remembered : (memory : Memory) → memory.place ≡ place → memory.room ≡ kept_count b.kind → 1 ≤ memory.room
      → Moves diagram attributes old.places place b memory.period memory.control memory.reset → Reads diagram attributes old.places place.block 1 place.element memory.from
      → new.places ≡ old.places → new.cells ≡ old.cells → new.args ≡ old.args → new.types ≡ old.types → new.signs ≡ old.signs → new.memories ≡ old.memories ++ memory ∷ []
      → (m : ℕ) → m ≡ length old.memories → IsRemembered diagram attributes old new place m
  remembered memory place_is room some moves reads places cells args types signs memories m at = record {
    grows = record {
      places = places;
      cells = cells;
      args = ([], args ∙ sym (append-nil old.args));
      types = ([], types ∙ sym (append-nil old.types));
      paired = λ same. ap length types ∙ same ∙ sym (ap length args);
      signs = ([], signs ∙ sym (append-nil old.signs));
      memories = (memory ∷ [], memories);
      few = omega (arith, ap length memories ∙ length-append old.memories (memory ∷ []));
    };
    memories = λ are n one at_n. go are n one (push_cases old.memories memory n one (ap (λ (xs : List Memory). slice_get xs n) (sym memories) ∙ at_n));
    memory = memory;
    there = ap (λ (xs : List Memory). slice_get xs m) memories ∙ ap (slice_get (old.memories ++ memory ∷ [])) at ∙ last_at old.memories memory;
    place_is = place_is;
  }
    where
      own : IsMemory diagram attributes new memory b
      own = record {
        block_is = ap (λ (p : Place). slice_get diagram.blocks p.block) place_is ∙ block_is;
        room = room;
        some = some;
        moves = λ table t look agrees.
            moves table t look (subst (λ (places : List Place). Agrees diagram attributes places (length places) look table t) places agrees)
            ∙ ap (λ (p : Place). move_at diagram attributes table p.block b.enable b.kind t) (sym place_is);
        from = λ table t look agrees.
            let agree = subst (λ (places : List Place). Agrees diagram attributes places (length places) look table t) places agrees in
            agree memory.from reads.place (slice_get_within old.places memory.from reads.place reads.there) reads.there ∙ sym (reads.is_source.value table t)
            ∙ ap (λ (p : Place). value_into diagram attributes table p.block 1 p.element t) (sym place_is);
      }

      go : AreMemories diagram attributes old → (n : ℕ) (one : Memory)
          → (slice_get old.memories n ≡ Some one) ⊎ ((n ≡ length old.memories) × (memory ≡ one))
          → (b : Block) × IsMemory diagram attributes new one b
      go are n one (inl h) =
          let is = are n one h in (
            is.0,
            record {
              block_is = is.1.block_is;
              room = is.1.room;
              some = is.1.some;
              moves = λ table t look agrees. is.1.moves table t look (subst (λ (places : List Place). Agrees diagram attributes places (length places) look table t) places agrees);
              from = λ table t look agrees. is.1.from table t look (subst (λ (places : List Place). Agrees diagram attributes places (length places) look table t) places agrees);
            },
          )
      go are n one (inr h) = (b, subst (λ (memory : Memory). IsMemory diagram attributes new memory b) h.1 own)

  -- a Delay
  pub delay_made : KeptIsRead → (k m delay : ℕ) (initial : List Decimal) (reset : Bool) (first : ℤ)
      → b.kind ≡ Delay delay initial reset → 1 ≤ delay
      → StoresEntry initial place.element (attributes.type_at place.block 1) first
      → IsRemembered diagram attributes old new place m → IsMade diagram attributes old new k place (Past m (delay - 1) first)
  delay_made read k m delay initial reset first kind some stores is = record {
    grows = is.grows;
    memories = is.memories;
    made = record {
      within = slice_get_within new.memories m is.memory is.there;
      serves = λ stimulus table t look kept row v agrees keep row_is hit gives.
          let here : slice_get diagram.blocks is.memory.place.block ≡ Some b = ap (λ (p : Place). slice_get diagram.blocks p.block) is.place_is ∙ block_is in
          let kept_is : kept m ≡ kept_values diagram attributes table place.block b.enable (Delay delay initial reset) place.element t =
          keep m is.memory b is.there here ∙ ap (λ (p : Place). kept_values diagram attributes table p.block b.enable b.kind p.element t) is.place_is
          ∙ ap (λ (kind : Kind). kept_values diagram attributes table place.block b.enable kind place.element t) kind in
          of_kind diagram attributes place b block_is (Delay delay initial reset) kind stimulus table t v
          (read diagram attributes stimulus table place.block b.enable (Delay delay initial reset) initial place.element t (delay - 1) v (omega arith)
          (kept_match (slice_get (kept_values diagram attributes table place.block b.enable
          (Delay delay initial reset) place.element t) (delay - 1)) first v
          (StoresEntry initial place.element (attributes.type_at place.block 1)) stores
          (gives ∙ ap (λ (kept : List ℤ). kept_or kept (delay - 1) first) kept_is)));
      can = λ table t look agrees in_range. tt;
    };
  }

  pub delay_move_is : (places : List Place) (period control : Option ℕ) (delay : ℕ) (initial : List Decimal)
      (reset : Bool) → b.kind ≡ Delay delay initial reset → period ≡ attributes.period_at place.block
      → IsControl diagram attributes places b.enable control → Moves diagram attributes places place b period control reset
  delay_move_is places period control delay initial reset kind period_is is_control table t look agrees =
      ap (λ (period : Option ℕ). move_of (is_hit period t) (is_on look control) reset) period_is
      ∙ delay_moves table b.enable reset (is_hit (attributes.period_at place.block) t) (is_on look control) t (is_control table t look agrees)
      ∙ ap (λ (kind : Kind). move_at diagram attributes table place.block b.enable kind t) (sym kind)

  -- what a memory of the block keeps
  own_kept : (table : Table) (t : ℕ) (kept : ℕ → List ℤ) (m : ℕ) (kind : Kind) → b.kind ≡ kind
      → (is : IsRemembered diagram attributes old new place m) → Keep diagram attributes new.memories kept table t
      → kept m ≡ kept_values diagram attributes table place.block b.enable kind place.element t
  own_kept table t kept m kind kind_is is keep =
      let here : slice_get diagram.blocks is.memory.place.block ≡ Some b = ap (λ (p : Place). slice_get diagram.blocks p.block) is.place_is ∙ block_is in
      keep m is.memory b is.there here ∙ ap (λ (p : Place). kept_values diagram attributes table p.block b.enable b.kind p.element t) is.place_is
      ∙ ap (λ (kind : Kind). kept_values diagram attributes table place.block b.enable kind place.element t) kind_is

  -- a transition from slow to fast
  pub slow_moves : (places : List Place) (slow : Option ℕ) (period : Decimal) (initial : List Decimal)
      → b.kind ≡ RateTransition period initial → slow ≡ period_into diagram attributes place.block 1
      → Moves diagram attributes places place b slow None false
  slow_moves places slow period initial kind slow_is table t look agrees =
      go (is_hit slow t) ∙ ap (λ (slow : Option ℕ). count_if (is_hit slow t)) slow_is ∙ ap (λ (kind : Kind). move_at diagram attributes table place.block b.enable kind t) (sym kind)
    where
      go : (hit : Bool) → move_of hit true false ≡ count_if hit
      go true = refl
      go false = refl

  pub slow_made : KeptIsRead → (k m : ℕ) (slow : Option ℕ) (period : Decimal) (initial : List Decimal) (first : ℤ)
      → b.kind ≡ RateTransition period initial → slow ≡ period_into diagram attributes place.block 1
      → is_slow_to_fast slow (attributes.period_at place.block) ≡ true → StoresEntry initial place.element (attributes.type_at place.block 1) first
      → IsRemembered diagram attributes old new place m → IsMade diagram attributes old new k place (Slower m slow first)
  slow_made read k m slow period initial first kind slow_is slower stores is = record {
    grows = is.grows;
    memories = is.memories;
    made = record {
      within = slice_get_within new.memories m is.memory is.there;
      serves = λ stimulus table t look kept row v agrees keep row_is hit gives.
          let driver = period_into diagram attributes place.block 1 in
          let match = kept_match (slice_get (kept_values diagram attributes table place.block b.enable
          (RateTransition period initial) place.element t) (if is_hit slow t then 0 else 1)) first v
          (StoresEntry initial place.element (attributes.type_at place.block 1)) stores
          (gives ∙ ap (λ (kept : List ℤ). kept_or kept (if is_hit slow t then 0 else 1) first) (own_kept table t kept m (RateTransition period initial) kind is keep)) in
          let at = read diagram attributes stimulus table place.block b.enable
          (RateTransition period initial) initial place.element t (if is_hit slow t then 0 else 1) v
          (age_below (is_hit slow t)) match in
          let second : slice_get (hits_before driver t) (if is_hit slow t then 0 else 1) ≡ slice_get (hits_before driver (suc t)) 1 =
          ap (λ (p : Option ℕ). slice_get (hits_before driver t) (if is_hit p t then 0 else 1)) slow_is ∙ second_before driver t in
          of_kind diagram attributes place b block_is (RateTransition period initial) kind stimulus table t v
          (subst (λ (slower : Bool). MatchBool slower
          (IsInputAt diagram attributes stimulus table place.block initial place.element
          (slice_get (hits_before driver (suc t)) 1) v)
          (v ≡ value_into diagram attributes table place.block 1 place.element t))
          (sym slower ∙ ap (λ (p : Option ℕ). is_slow_to_fast p (attributes.period_at place.block)) slow_is)
          (subst (λ (o : Option ℕ). IsInputAt diagram attributes stimulus table place.block initial place.element o v) second at));
      can = λ table t look agrees in_range. tt;
    };
  }
    where
      age_below : (hit : Bool) → (if hit then 0 else 1) < 2
      age_below true = omega arith
      age_below false = omega arith

      second_before : (period : Option ℕ) (t : ℕ) → slice_get (hits_before period t) (if is_hit period t then 0 else 1) ≡ slice_get (hits_before period (suc t)) 1
      second_before period t = go (is_hit period t)
        where
          go : (hit : Bool) → slice_get (hits_before period t) (if hit then 0 else 1) ≡ slice_get (if hit then t ∷ hits_before period t else hits_before period t) 1
          go true = refl
          go false = refl

  -- a transition that is not from slow to fast
  pub fast_hands : (driver : Option ℕ) (period : Decimal) (initial : List Decimal) → b.kind ≡ RateTransition period initial → driver ≡ period_into diagram attributes place.block 1
      → is_slow_to_fast driver (attributes.period_at place.block) ≡ false → HandsOn diagram attributes place 1 place.element
  fast_hands driver period initial kind driver_is fast stimulus table t =
      let v = value_into diagram attributes table place.block 1 place.element t in
      of_kind diagram attributes place b block_is (RateTransition period initial) kind stimulus table t v
      (subst (λ (slower : Bool). MatchBool slower
      (IsInputAt diagram attributes stimulus table place.block initial place.element
      (slice_get (hits_before (period_into diagram attributes place.block 1) (suc t)) 1) v) (v ≡ v))
      (sym fast ∙ ap (λ (p : Option ℕ). is_slow_to_fast p (attributes.period_at place.block)) driver_is) refl)

  -- a control that stands before is on where its subsystem is enabled
  control_on : (places : List Place) (cell k t : ℕ) (table : Table) (look : ℕ → ℤ)
      → IsControlCell places b.enable cell → cell < k → Agrees diagram attributes places k look table t
      → is_on look (Some cell) ≡ is_enabled table b.enable t
  control_on places cell k t table look is below agrees =
      ap (λ (v : ℤ). int_eq v (pos 1)) (agrees cell (record { block = is.0; port = 1; element = 0 }) below is.2) ∙ ap (λ (o : Option ℕ). is_enabled table o t) (sym is.1)

  pub gated_moves : (places : List Place) (period : Option ℕ) (cell : ℕ) (reset : Bool) (initial : List Decimal)
      → b.kind ≡ EnOut reset initial → period ≡ attributes.period_at place.block
      → IsControlCell places b.enable cell
      → Moves diagram attributes places place b period (Some cell) false
  gated_moves places period cell reset initial kind period_is is table t look agrees =
      go (is_hit period t) (is_on look (Some cell))
      ∙ ap (λ (on : Bool). count_if (is_hit period t && on))
      (control_on places cell (length places) t table look is
      (slice_get_within places cell (record { block = is.0; port = 1; element = 0 }) is.2) agrees)
      ∙ ap (λ (p : Option ℕ). count_if (is_hit p t && is_enabled table b.enable t)) period_is
      ∙ ap (λ (kind : Kind). move_at diagram attributes table place.block b.enable kind t) (sym kind)
    where
      go : (hit on : Bool) → move_of hit on false ≡ count_if (hit && on)
      go true true = refl
      go true false = refl
      go false on = refl

  module _ (k cell from : ℕ) (initial : List Decimal) (first : ℤ) (below : cell < k) (from_below : from < k)
      (control : IsControlCell new.places b.enable cell)
      (reads : Reads diagram attributes new.places place.block 1 place.element from)
      (stores : StoresEntry initial place.element (attributes.type_at place.block 1) first)
    where
      from_is : (table : Table) (t : ℕ) (look : ℕ → ℤ) → Agrees diagram attributes new.places k look table t → look from ≡ value_into diagram attributes table place.block 1 place.element t
      from_is table t look agrees = agrees from reads.place from_below reads.there ∙ sym (reads.is_source.value table t)

      pub reset_rule : b.kind ≡ EnOut true initial → IsRule diagram attributes new k place (Reset from cell first)
      reset_rule kind = record {
        within = tt;
        serves = λ stimulus table t look kept row v agrees keep row_is hit gives.
            of_kind diagram attributes place b block_is (EnOut true initial) kind stimulus table t v
            (subst (λ (on : Bool). MatchBool on (v ≡ value_into diagram attributes table place.block 1 place.element t) (StoresEntry initial place.element (attributes.type_at place.block 1) v))
            (control_on new.places cell k t table look control below agrees)
            (by_control (is_on look (Some cell)) v (look from)
            (value_into diagram attributes table place.block 1 place.element t)
            (from_is table t look agrees) gives));
        can = λ table t look agrees in_range. tt;
      }
        where
          by_control : (on : Bool) (v x y : ℤ) → x ≡ y → v ≡ (if on then x else first) → MatchBool on (v ≡ y) (StoresEntry initial place.element (attributes.type_at place.block 1) v)
          by_control true v x y e gives = gives ∙ e
          by_control false v x y e gives = subst (StoresEntry initial place.element (attributes.type_at place.block 1)) (sym gives) stores

      pub held_rule : KeptIsRead → (m : ℕ) → b.kind ≡ EnOut false initial → IsRemembered diagram attributes old new place m → IsRule diagram attributes new k place (Held m from cell first)
      held_rule read m kind is = record {
        within = slice_get_within new.memories m is.memory is.there;
        serves = λ stimulus table t look kept row v agrees keep row_is hit gives.
            of_kind diagram attributes place b block_is (EnOut false initial) kind stimulus table t v
            (subst (λ (hits : List ℕ). IsInputAt diagram attributes stimulus table place.block initial place.element
            (slice_get (filter (is_enabled table b.enable) hits) 0) v)
            (sym (now_first (attributes.period_at place.block) t hit))
            (by_control stimulus table t v (look from) kept keep (is_on look (Some cell)) (control_on new.places cell k t table look control below agrees) (from_is table t look agrees) gives));
        can = λ table t look agrees in_range. tt;
      }
        where
          now_first : (period : Option ℕ) (t : ℕ) → Hits period t → hits_before period (suc t) ≡ t ∷ hits_before period t
          now_first period t hit = go (is_hit period t) refl
            where
              go : (b : Bool) → is_hit period t ≡ b → (if b then t ∷ hits_before period t else hits_before period t) ≡ t ∷ hits_before period t
              go true e = refl
              go false e = absurd (hit_false period t e hit)

          by_control : (stimulus : Stimulus) (table : Table) (t : ℕ) (v x : ℤ) (kept : ℕ → List ℤ) → Keep diagram attributes new.memories kept table t → (on : Bool) → on ≡ is_enabled table b.enable t
              → x ≡ value_into diagram attributes table place.block 1 place.element t → v ≡ (if on then x else kept_or (kept m) 0 first)
              → IsInputAt diagram attributes stimulus table place.block initial place.element
              (slice_get (filter (is_enabled table b.enable)
              (t ∷ hits_before (attributes.period_at place.block) t)) 0) v
          by_control stimulus table t v x kept keep true e input gives =
              subst (λ (on : Bool). IsInputAt diagram attributes stimulus table place.block initial place.element
              (slice_get (cond on (t ∷ filter (is_enabled table b.enable)
              (hits_before (attributes.period_at place.block) t))
              (filter (is_enabled table b.enable) (hits_before (attributes.period_at place.block) t)))
              0) v) e (gives ∙ input)
          by_control stimulus table t v x kept keep false e input gives =
              subst (λ (on : Bool). IsInputAt diagram attributes stimulus table place.block initial place.element
              (slice_get (cond on (t ∷ filter (is_enabled table b.enable)
              (hits_before (attributes.period_at place.block) t))
              (filter (is_enabled table b.enable) (hits_before (attributes.period_at place.block) t)))
              0) v) e
              (read diagram attributes stimulus table place.block b.enable (EnOut false initial) initial place.element t 0 v (omega arith)
              (kept_match (slice_get (kept_values diagram attributes table place.block b.enable
              (EnOut false initial) place.element t) 0) first v
              (StoresEntry initial place.element (attributes.type_at place.block 1)) stores
              (gives ∙ ap (λ (kept : List ℤ). kept_or kept 0 first) (own_kept table t kept m (EnOut false initial) kind is keep))))
