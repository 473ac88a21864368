-- A simulator before its first sample.
use Rattle.std.proofs.Common.{◌≡◌, ℕ, zero, suc, ◌+◌, ◌<◌, ◌⊎◌, inl, inr, Bool, true, false, ℤ, List, [], ◌∷◌, ◌++◌, length, length-append, map, take, Option, Some, None, slice_get, ap, sym, ◌∙◌}
use Rattle.std.proofs.Common.{subst, refl, arith}
use Rattle.std.proofs.lemmas.Option.{same_Some, slice_get_within}
use Rattle.dg_model.specs.declared.diagram.Diagram.{Diagram}
use Rattle.dg_model.specs.declared.diagram.Block.{Block}
use Rattle.dg_model.specs.declared.kind.Kind.{Kind}
use Rattle.dg_model.specs.declared.kind.Kind.TheVariants.{Delay, RateTransition, EnOut}
use Rattle.dg_model.specs.Attributes.{attributes_of}
use Rattle.dg_model.specs.Checked.{CheckedDiagram}
use Rattle.dg_model.specs.Signals.{Attributes, Table}
use Rattle.dg_model.specs.Hits.{counted_hits}
use Rattle.dg_model.specs.Wires.{value_into}
use Rattle.dg_blocks.specs.declared.prepared.Prepared.{Prepared}
use Rattle.dg_sim.specs.declared.program.Memory.{Memory}
use Rattle.dg_sim.specs.declared.program.Program.{Program}
use Rattle.dg_sim.specs.Ready.{AreReady}
use Rattle.dg_sim.specs.Ring.{PastValues}
use Rattle.dg_tables.specs.State.{kept_count, kept_hits}
use Rattle.dg_sim.specs.Sim.{values_of, IsProgram, IsSimOf, Stands}
use Rattle.dg_sim.specs.inner.ProgramSteps.{AreRooms}
use Rattle.math_list.proofs.Places.{get_some, push_cases}

take_none : (n : ℕ) → let none : List ℤ = [] in take n none ≡ none
take_none zero = refl
take_none (suc n) = refl

no_counted : (table : Table) (enable : Option ℕ) (reset : Bool) (period : Option ℕ) → counted_hits table enable reset period 0 ≡ []
no_counted table None reset period = refl
no_counted table (Some control) false period = refl
no_counted table (Some control) true period = refl

no_hits : (diagram : Diagram) (attributes : Attributes) (table : Table) (block : ℕ) (enable : Option ℕ) (kind : Kind) → kept_hits diagram attributes table block enable kind 0 ≡ []
no_hits diagram attributes table block enable (Delay delay initial reset) = no_counted table enable reset (attributes.period_at block)
no_hits diagram attributes table block enable (RateTransition period initial) = refl
no_hits diagram attributes table block enable (EnOut reset initial) = refl
no_hits diagram attributes table block enable _ = refl

-- one more memory has its room
pub rooms_more : (memories : List Memory) (pasts : List PastValues) (n : ℕ) (memory : Memory) (past : PastValues)
    → slice_get memories n ≡ Some memory → past ≡ record { room = memory.room; values = [] }
    → AreRooms memories pasts n → AreRooms memories (pasts ++ past ∷ []) (n + 1)
rooms_more memories pasts n memory past here is rooms = record {
  size = length-append pasts (past ∷ []) ∙ omega (arith, rooms.size);
  each = λ m one other at_memory at_past. go m one other at_memory (push_cases pasts past m other at_past);
}
  where
    go : (m : ℕ) (one : Memory) (other : PastValues) → slice_get memories m ≡ Some one
        → (slice_get pasts m ≡ Some other) ⊎ ((m ≡ length pasts) × (past ≡ other))
        → other ≡ record { room = one.room; values = [] }
    go m one other at_memory (inl old) = rooms.each m one other at_memory old
    go m one other at_memory (inr new) =
        let same : memory ≡ one = same_Some memory one (sym here ∙ ap (slice_get memories) (sym (new.0 ∙ rooms.size)) ∙ at_memory) in
        sym new.1 ∙ is ∙ ap (λ (memory : Memory). record { room = memory.room; values = [] }) same

module _ (checked : CheckedDiagram) (program : Program) (row : List ℤ) (pasts : List PastValues) (prepared : List Prepared) (is : IsProgram checked.diagram (attributes_of checked.diagram) program)
    (rooms : AreRooms program.memories pasts (length program.memories))
  where
    past_of : (m : ℕ) (memory : Memory) → slice_get program.memories m ≡ Some memory → (past : PastValues) × (slice_get pasts m ≡ Some past) × (past ≡ record { room = memory.room; values = [] })
    past_of m memory at =
        let p = get_some pasts m (subst (λ (n : ℕ). m < n) (sym rooms.size) (slice_get_within program.memories m memory at)) in
        (p.0, p.1, rooms.each m memory p.0 at p.1)

    pub begun_sim : length row ≡ length program.places → AreReady program prepared (length program.cells)
        → IsSimOf checked (record { program = program; samples = 0; row = row; pasts = pasts; prepared = prepared })
    begun_sim size ready = record {
      program = is;
      row = size;
      pasts = rooms.size;
      rooms = λ m memory b at block_is.
          let p = past_of m memory at in
          let own = is.memories m memory at in
          (p.0, p.1, ap (λ (q : PastValues). q.room) p.2 ∙ own.1.room ∙ ap (λ (b : Block). kept_count b.kind) (same_Some own.0 b (sym own.1.block_is ∙ block_is)));
      ready = ready;
    }

    pub begun_stands : (table : Table) → Stands checked.diagram (attributes_of checked.diagram) (record { program = program; samples = 0; row = row; pasts = pasts; prepared = prepared }) table 0
    begun_stands table = record {
      samples = refl;
      row = λ k place s at e. absurd (omega (arith, e));
      kept = λ m memory b at block_is.
          let p = past_of m memory at in
          ap values_of p.1 ∙ ap (λ (q : PastValues). q.values) p.2
          ∙ sym (ap (λ (hits : List ℕ). take (kept_count b.kind)
          (map (value_into checked.diagram (attributes_of checked.diagram) table memory.place.block 1
          memory.place.element) hits)) (no_hits checked.diagram
          (attributes_of checked.diagram) table memory.place.block b.enable b.kind)
          ∙ take_none (kept_count b.kind));
    }
