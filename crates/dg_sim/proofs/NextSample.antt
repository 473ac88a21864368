-- A simulator after its passes stands at the next sample.
use Rattle.std.proofs.Common.{◌≡◌, ℕ, suc, ℤ, pos, List, map, length, Some, slice_get, ap, sym, ◌∙◌, arith}
use Rattle.std.proofs.lemmas.Option.{same_Some, slice_get_within, get_or_from_slice_get}
use Rattle.dg_model.specs.declared.diagram.Block.{Block}
use Rattle.dg_model.specs.Attributes.{attributes_of}
use Rattle.dg_model.specs.Checked.{CheckedDiagram}
use Rattle.dg_model.specs.Hits.{is_hit}
use Rattle.dg_model.specs.Signals.{Stimulus, Table}
use Rattle.dg_model.specs.Wires.{value_into}
use Rattle.dg_blocks.specs.declared.prepared.Prepared.{Prepared}
use Rattle.dg_sim.specs.declared.program.Memory.{Memory}
use Rattle.dg_sim.specs.declared.program.Program.{Program}
use Rattle.dg_sim.specs.Ring.{PastValues}
use Rattle.dg_tables.specs.State.{Move, moved, move_at, kept_count, kept_values}
use Rattle.dg_tables.specs.Steps.{KeptMoves}
use Rattle.dg_tables.specs.Entries.{entry}
use Rattle.dg_sim.specs.Program.{value_at, is_on, move_of}
use Rattle.dg_sim.specs.Sim.{values_of, kept_at, Agrees, IsSimOf, IsAt, IsStepped, Keep, Shows}
use Rattle.math_list.proofs.Places.{there_map}
use Rattle.dg_sim.proofs.Moves.{after}

module _ (checked : CheckedDiagram) (program : Program) (t : ℕ) (row later_row : List ℤ) (pasts later : List PastValues) (prepared : List Prepared)
    (is_sim : IsSimOf checked (record { program = program; samples = t; row = row; pasts = pasts; prepared = prepared }))
    (row_size : length later_row ≡ length row) (pasts_size : length later ≡ length pasts)
    (each : (m : ℕ) (memory : Memory) (past : PastValues) → slice_get program.memories m ≡ Some memory → slice_get pasts m ≡ Some past → slice_get later m ≡ Some (after memory t later_row past))
  where
    pub still_sim : (samples : ℕ) → IsSimOf checked (record { program = program; samples = samples; row = later_row; pasts = later; prepared = prepared })
    still_sim samples = record {
      program = is_sim.program;
      row = row_size ∙ is_sim.row;
      pasts = pasts_size ∙ is_sim.pasts;
      rooms = λ m memory b at block_is. let r = is_sim.rooms m memory b at block_is in (after memory t later_row r.0, each m memory r.0 at r.1, r.2);
      ready = is_sim.ready;
    }

    module _ (numbers out : List ℤ) (moves : KeptMoves)
        (agrees : (stimulus : Stimulus) (n : ℕ) (table : Table) → IsAt checked (record { program = program; samples = t; row = row; pasts = pasts; prepared = prepared }) numbers stimulus n table
        → Agrees checked.diagram (attributes_of checked.diagram) program.places (length program.places) (value_at later_row) table t)
        (out_is : out ≡ map (value_at later_row) program.outputs)
      where
        now_keeps : (stimulus : Stimulus) (n : ℕ) (table : Table) → IsAt checked (record { program = program; samples = t; row = row; pasts = pasts; prepared = prepared }) numbers stimulus n table
            → Keep checked.diagram (attributes_of checked.diagram) program.memories (kept_at later) table (suc t)
        now_keeps stimulus n table at m memory b here block_is =
            let agree = agrees stimulus n table at in
            let r = is_sim.rooms m memory b here block_is in
            let is = is_sim.program.memories m memory here in
            let same : is.0 ≡ b = same_Some is.0 b (sym is.1.block_is ∙ block_is) in
            let old : r.0.values ≡ kept_values checked.diagram (attributes_of checked.diagram) table memory.place.block b.enable b.kind memory.place.element t =
            ap values_of (sym r.1) ∙ at.stands.kept m memory b here block_is in
            let move : move_of (is_hit memory.period t) (is_on (value_at later_row) memory.control) memory.reset
            ≡ move_at checked.diagram
            (attributes_of checked.diagram) table memory.place.block b.enable b.kind t =
            is.1.moves table t (value_at later_row) agree ∙ ap (λ (b : Block). move_at checked.diagram (attributes_of checked.diagram) table memory.place.block b.enable b.kind t) same in
            ap values_of (each m memory r.0 here r.1)
            ∙ ap (λ (o : Move). moved o r.0.room (value_at later_row memory.from) r.0.values) move
            ∙ ap (λ (room : ℕ). moved (move_at checked.diagram (attributes_of checked.diagram) table memory.place.block b.enable b.kind t) room (value_at later_row memory.from) r.0.values) r.2
            ∙ ap (λ (v : ℤ). moved (move_at checked.diagram
            (attributes_of checked.diagram) table memory.place.block b.enable b.kind t)
            (kept_count b.kind) v r.0.values) (is.1.from table t (value_at later_row) agree)
            ∙ ap (λ (kept : List ℤ). moved (move_at checked.diagram
            (attributes_of checked.diagram) table memory.place.block b.enable b.kind t) (kept_count b.kind)
            (value_into checked.diagram (attributes_of checked.diagram) table memory.place.block 1
            memory.place.element t) kept) old
            ∙ sym (moves checked.diagram (attributes_of checked.diagram) table memory.place.block b.enable b.kind memory.place.element t)

        shows : (stimulus : Stimulus) (n : ℕ) (table : Table)
            → IsAt checked (record {
              program = program;
              samples = t;
              row = row;
              pasts = pasts;
              prepared =
                  prepared;
            }) numbers stimulus n table → Shows checked table t out
        shows stimulus n table at place e here =
            let s = is_sim.program.shows place e here in
            let agree : value_at later_row s.0 ≡ entry table (record { block = e.block; port = 1; element = e.element }) t =
            agrees stimulus n table at s.0 (record { block = e.block; port = 1; element = e.element })
            (slice_get_within program.places s.0
            (record { block = e.block; port = 1; element = e.element }) s.2) s.2 in
            ap (λ (out : List ℤ). value_at out place) out_is
            ∙ get_or_from_slice_get (map (value_at later_row) program.outputs) place (value_at later_row s.0) (pos 0) (there_map (value_at later_row) program.outputs place s.0 s.1)
            ∙ agree

        pub is_stepped : (samples : ℕ) → samples ≡ suc t
            → IsStepped checked (record {
              program = program;
              samples = t;
              row = row;
              pasts = pasts;
              prepared =
                  prepared;
            }) (record {
              program = program;
              samples = samples;
              row = later_row;
              pasts =
                  later;
              prepared = prepared;
            }) numbers out
        is_stepped samples next stimulus n table at = (
          record {
            samples = next;
            row = λ k place s here e.
                let same : t ≡ s = omega (arith, e) in
                agrees stimulus n table at k place (slice_get_within program.places k place here) here ∙ ap (λ (s : ℕ). entry table place s) same;
            kept = now_keeps stimulus n table at;
          },
          shows stimulus n table at,
        )
