-- One more cell.
use Rattle.std.proofs.Common.{arith, ◌≡◌, ℕ, ◌<◌, ◌+◌, ◌++◌, [], ◌∷◌, ◌⊎◌, inl, inr, Option, List, length, Some, slice_get, ap, sym, ◌∙◌, subst, subst₂, length-append}
use Rattle.std.proofs.lemmas.Option.{same_Some, slice_get_within}
use Rattle.dg_model.specs.declared.diagram.Diagram.{Diagram}
use Rattle.dg_model.specs.Signals.{Attributes}
use Rattle.dg_model.specs.Hits.{Hits}
use Rattle.dg_tables.specs.declared.entries.Place.{Place}
use Rattle.dg_sim.specs.declared.program.Cell.{Cell}
use Rattle.dg_sim.specs.declared.program.Program.{Program}
use Rattle.dg_sim.specs.declared.program.Rule.{Rule}
use Rattle.dg_sim.specs.declared.program.Rule.TheVariants.{Input}
use Rattle.dg_tables.specs.declared.roots.Root.{Root}
use Rattle.dg_model.specs.RootElements.{RootElement, root_outputs}
use Rattle.dg_sim.specs.Sim.{IsCell, IsProgram}
use Rattle.dg_tables.specs.Roots.{root_at, roots_of}
use Rattle.dg_sim.specs.inner.ProgramSteps.{IsMade, IsRule, IsFilled, AreShown}
use Rattle.dg_tables.specs.Entries.{IsEntry}
use Rattle.dg_sim.proofs.Growth.{rule_grows}
use Rattle.math_list.proofs.Places.{push_cases, get_some, there_map}
use Rattle.std.proofs.lemmas.List.{length-map}

cell_is : (diagram : Diagram) (attributes : Attributes) (program : Program) (k : ℕ) (place : Place) (cell : Cell)
    → IsEntry diagram attributes place → cell.period ≡ attributes.period_at place.block
    → IsRule diagram attributes program k place cell.rule → IsCell diagram attributes program k place cell
cell_is diagram attributes program k place cell entry period is = record {
  block = entry.0;
  shown = entry.1;
  period = period;
  within = is.within;
  serves = λ stimulus table t look kept row v agrees keep row_is hit gives. is.serves stimulus table t look kept row v agrees keep row_is (subst (λ (p : Option ℕ). Hits p t) period hit) gives;
  can = is.can;
}

rule_is : (diagram : Diagram) (attributes : Attributes) (program : Program) (k : ℕ) (place : Place) (cell : Cell)
    → IsCell diagram attributes program k place cell → IsRule diagram attributes program k place cell.rule
rule_is diagram attributes program k place cell is = record {
  within = is.within;
  serves = λ stimulus table t look kept row v agrees keep row_is hit gives. is.serves stimulus table t look kept row
      v agrees keep row_is (subst (λ (p : Option ℕ). Hits p t) (sym is.period) hit) gives;
  can = is.can;
}

module _ (diagram : Diagram) (attributes : Attributes) (old grown : Program) (k : ℕ) (place : Place) (rule : Rule) (period : Option ℕ) (cells : List Cell)
    (filled : IsFilled diagram attributes old k) (here : slice_get old.places k ≡ Some place)
    (made : IsMade diagram attributes old grown k place rule)
    (period_is : period ≡ attributes.period_at place.block)
    (cells_are : cells ≡ grown.cells ++ record { period = period; rule = rule } ∷ [])
  where
    abbrev new : Program
    new = record { places = grown.places; cells = cells; args = grown.args; types = grown.types; signs = grown.signs; memories = grown.memories; outputs = grown.outputs }

    same_parts : (j : ℕ) (place : Place) (rule : Rule) → IsRule diagram attributes grown j place rule → IsRule diagram attributes new j place rule
    same_parts j place (Input column) is = record { within = is.within; serves = is.serves; can = is.can }
    same_parts j place _ is = record { within = is.within; serves = is.serves; can = is.can }

    pub filled_more : IsFilled diagram attributes new (k + 1)
    filled_more = record {
      entries = λ j p at. filled.entries j p (ap (λ (xs : List Place). slice_get xs j) (sym made.grows.places) ∙ at);
      memories = λ m memory at. let is = made.memories filled.memories m memory at in (
        is.0,
        record {
          block_is = is.1.block_is;
          room = is.1.room;
          some = is.1.some;
          moves = is.1.moves;
          from =
              is.1.from;
        },
      );
      few = omega (arith, made.grows.few, filled.few);
      paired = made.grows.paired filled.paired;
      size = ap length cells_are ∙ length-append grown.cells (record { period = period; rule = rule } ∷ [])
          ∙ ap (λ (xs : List Cell). length xs + 1) made.grows.cells ∙ ap (λ (n : ℕ). n + 1) filled.size;
      cells = λ j p cell at_place at_cell.
          let old_place : slice_get old.places j ≡ Some p = ap (λ (xs : List Place). slice_get xs j) (sym made.grows.places) ∙ at_place in
          go j p cell old_place (push_cases grown.cells (record { period = period; rule = rule }) j cell (ap (λ (xs : List Cell). slice_get xs j) (sym cells_are) ∙ at_cell));
    }
      where
        go : (j : ℕ) (p : Place) (cell : Cell) → slice_get old.places j ≡ Some p
            → (slice_get grown.cells j ≡ Some cell)
            ⊎ ((j ≡ length grown.cells) × (record { period = period; rule = rule } ≡ cell))
            → IsCell diagram attributes new j p cell
        go j p cell at (inl h) =
            let was = filled.cells j p cell at (ap (λ (xs : List Cell). slice_get xs j) (sym made.grows.cells) ∙ h) in
            cell_is diagram attributes new j p cell (was.block, was.shown) was.period
            (same_parts j p cell.rule (rule_grows old grown made.grows diagram attributes j p cell.rule
            (rule_is diagram attributes old j p cell was)))
        go j p cell at (inr h) =
            let last : j ≡ k = h.0 ∙ ap length made.grows.cells ∙ filled.size in
            let same : place ≡ p = same_Some place p (sym here ∙ ap (slice_get old.places) (sym last) ∙ at) in
            let own : IsCell diagram attributes new k place (record { period = period; rule = rule }) =
            cell_is diagram attributes new k place (record { period = period; rule = rule })
            (filled.entries k place here) period_is (same_parts k place rule made.made) in
            subst (λ (cell : Cell). IsCell diagram attributes new j p cell) h.1
            (subst₂ (λ (j : ℕ) (p : Place). IsCell diagram attributes new j p
            (record { period = period; rule = rule })) (sym last) same own)

module _ (diagram : Diagram) (attributes : Attributes) (program : Program) (outputs : List ℕ) where
  abbrev whole : Program
  whole = record { places = program.places; cells = program.cells; args = program.args; types = program.types; signs = program.signs; memories = program.memories; outputs = outputs }

  same_rule : (j : ℕ) (place : Place) (rule : Rule) → IsRule diagram attributes program j place rule → IsRule diagram attributes whole j place rule
  same_rule j place (Input column) is = record { within = is.within; serves = is.serves; can = is.can }
  same_rule j place _ is = record { within = is.within; serves = is.serves; can = is.can }

  -- a program with all its cells and outputs
  pub finished : (roots : List Root) → IsFilled diagram attributes program (length program.places)
      → roots ≡ roots_of (root_outputs diagram attributes) → AreShown program.places roots outputs (length roots)
      → IsProgram diagram attributes whole
  finished roots filled e shown = record {
    size = filled.size;
    cells = λ k place cell at_place at_cell.
        let is = filled.cells k place cell at_place at_cell in
        cell_is diagram attributes whole k place cell (is.block, is.shown) is.period (same_rule k place cell.rule (rule_is diagram attributes program k place cell is));
    memories = λ m memory at. let is = filled.memories m memory at in (is.0, record { block_is = is.1.block_is; room = is.1.room; some = is.1.some; moves = is.1.moves; from = is.1.from });
    few = omega (arith, filled.few, filled.size);
    outputs = many;
    shows = λ place e here.
        let root = there_map (λ (e : RootElement). root_at e.number e.block e.element) (root_outputs diagram attributes) place e here in
        let within : place < length outputs = subst (λ (n : ℕ). place < n) (sym many) (slice_get_within (root_outputs diagram attributes) place e here) in
        let k = get_some outputs place within in
        (k.0, k.1, shown.each place k.0 (root_at e.number e.block e.element) k.1 (ap (λ (xs : List Root). slice_get xs place) e_roots ∙ root));
  }
    where
      e_roots : roots ≡ roots_of (root_outputs diagram attributes)
      e_roots = e

      many : length outputs ≡ length (root_outputs diagram attributes)
      many = shown.size ∙ ap length e ∙ length-map (root_outputs diagram attributes) (λ (e : RootElement). root_at e.number e.block e.element)
