-- The columns of root elements by their blocks.
use Rattle.std.proofs.Common.{◌≡◌, ◌<◌, ℕ, suc, Option, List, [], ◌∷◌, length, map, slice_get, Some, refl, ap, ap₂, sym, subst, ◌∙◌}
use Rattle.fx_tables.specs.declared.table.Column.{Column}
use Rattle.dg_model.specs.declared.diagram.Diagram.{Diagram}
use Rattle.dg_model.specs.Laws.{AreRootElements}
use Rattle.dg_model.specs.declared.row.Role.{Role}
use Rattle.dg_model.specs.RootElements.{RootElement, root_element}
use Rattle.dg_model.specs.Signals.{Attributes}
use Rattle.dg_response.specs.Response.{column_of}
use Rattle.dg_response.specs.inner.Columns.{column_at}
use Rattle.math_list.proofs.Places.{there_within}
use Rattle.math_list.proofs.Indices.{unmapped}
use Rattle.dg_tables.specs.Listing.{AreBlocksOf}

column-is : (attributes : Attributes) (e : RootElement) → e ≡ root_element attributes e.number e.block e.element → column_at attributes e.block ≡ column_of e
column-is attributes e is = sym (ap column_of is)

pub columns-are : (attributes : Attributes) (es : List RootElement) → ((place : ℕ) (e : RootElement) → slice_get es place ≡ Some e → e ≡ root_element attributes e.number e.block e.element)
    → map (column_at attributes) (map (λ (e : RootElement). e.block) es) ≡ map column_of es
columns-are attributes [] each = refl
columns-are attributes (e ∷ es) each =
    ap₂ (λ (c : Column) (cs : List Column). c ∷ cs) (column-is attributes e (each 0 e refl)) (columns-are attributes es (λ place other there. each (suc place) other there))

module _ (number_of : Role → Option ℕ) (width_of : ℕ → ℕ) (diagram : Diagram) (attributes : Attributes) (es : List RootElement) (are : AreRootElements number_of width_of diagram attributes es) where
  pub elements-columns : map (column_at attributes) (map (λ (e : RootElement). e.block) es) ≡ map column_of es
  elements-columns = columns-are attributes es (λ place e there. (are.elements_of place e there).4)

  pub blocks-there : (place block : ℕ) → slice_get (map (λ (e : RootElement). e.block) es) place ≡ Some block → block < length diagram.blocks
  blocks-there place block at =
      let e = unmapped (λ (e : RootElement). e.block) es place block at in
      let of = are.elements_of place e.0 e.1 in
      subst (λ (n : ℕ). n < length diagram.blocks) (sym e.2) (there_within diagram.blocks e.0.block of.0 of.1)

module _ (number_of : Role → Option ℕ) (width_of : ℕ → ℕ) (diagram : Diagram) (attributes : Attributes) (es : List RootElement) (are : AreRootElements number_of width_of diagram attributes es)
    (blocks : List ℕ) (of : AreBlocksOf es blocks) where
  pub blocks-within : (place block : ℕ) → slice_get blocks place ≡ Some block → block < length diagram.blocks
  blocks-within place block at = blocks-there number_of width_of diagram attributes es are place block (ap (λ (xs : List ℕ). slice_get xs place) (sym of) ∙ at)

  pub columns-of-blocks : (columns : List Column) → columns ≡ map (column_at attributes) blocks → columns ≡ map column_of es
  columns-of-blocks columns is = is ∙ ap (λ (xs : List ℕ). map (column_at attributes) xs) of ∙ elements-columns number_of width_of diagram attributes es are
