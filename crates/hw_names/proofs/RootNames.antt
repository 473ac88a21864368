-- Names are given to the elements of root ports one by one.
use Rattle.std.proofs.Common.{◌≡◌, ℕ, suc, false, ◌+◌, ◌<◌, List, [], ◌∷◌, ◌++◌, length, take, All, Some, ap, sym, ◌∙◌, subst, arith}
use Rattle.std.specs.Prelude.{slice_get, slice_index_or}
use Rattle.std.proofs.Math.Seq.{take-suc}
use Rattle.std.proofs.lemmas.List.{append_assoc, length-map, take_all}
use Rattle.std.proofs.lemmas.Option.{get_or_from_slice_get, slice_get_within, slice_get-get_or}
use Rattle.dg_model.specs.declared.diagram.Diagram.{Diagram}
use Rattle.dg_model.specs.Attributes.{attributes_of}
use Rattle.dg_model.specs.Checked.{IsChecked}
use Rattle.dg_model.specs.Faults.{path_of}
use Rattle.dg_model.specs.Laws.{AreRootElements, InputsAreListed, OutputsAreListed}
use Rattle.dg_model.specs.RootElements.{RootElement}
use Rattle.dg_tables.specs.Listing.{AreBlocksOf}
use Rattle.hw_names.specs.declared.giving.Side.{Side}
use Rattle.hw_names.specs.declared.giving.Side.TheVariants.{Inputs, Outputs}
use Rattle.hw_names.specs.declared.names.Names.{Names}
use Rattle.hw_names.specs.Columns.{AreColumnsFrom}
use Rattle.hw_names.specs.Names.{Given, IsGiven, element_name, port_name, undoubled, wanted_names, wanted_of}
use Rattle.hw_names.specs.Taken.{AreTaken, taken_by}
use Rattle.hw_names.specs.inner.Sides.{AddsNames, elements_on, number_on, wanted_on, width_on}
use Rattle.math_list.proofs.Places.{map_there, there_map}
use Rattle.hw_names.proofs.Places.{blocks_there, place_is}
use Rattle.hw_names.proofs.NameSets.{given_more, taken_more}

pub take_more : {A : Type 0} (xs : List A) (k : ℕ) (x : A) → slice_get xs k ≡ Some x → take (k + 1) xs ≡ take k xs ++ x ∷ []
take_more xs k x at =
    let one : k + 1 ≡ suc k = omega arith in
    let below = slice_get_within xs k x at in
    ap (λ (n : ℕ). take n xs) one ∙ take-suc xs k x below ∙ ap (λ (y : _). take k xs ++ y ∷ []) (get_or_from_slice_get xs k x x at)

-- ---- a name more

pub names_more : (diagram : Diagram) (side : Side) (old names new : Names) (earlier now : List (List ℕ)) (k : ℕ) (e : RootElement) (name : List ℕ) → AddsNames diagram side old names earlier now k
    → slice_get (elements_on side diagram) k ≡ Some e
    → ((list : List (List ℕ)) → AreTaken names list → IsGiven list (wanted_of diagram (width_on side diagram) e) name × AreTaken new (name ∷ list))
    → AddsNames diagram side old new earlier (now ++ name ∷ []) (k + 1)
names_more diagram side old names new earlier now k e name adds at given = record {
  added = λ list wanted taken before.
      let want : List ℕ = wanted_of diagram (width_on side diagram) e in
      let all : List (List ℕ) = wanted_on side diagram in
      let first = adds.added list wanted taken before in
      let one = given (taken_by list now) first.1 in
      let more : take (k + 1) all ≡ take k all ++ want ∷ [] = take_more all k want (there_map (wanted_of diagram (width_on side diagram)) (elements_on side diagram) k e at) in
      let wants : (wanted ++ take k all) ++ want ∷ [] ≡ wanted ++ take (k + 1) all = append_assoc wanted (take k all) (want ∷ []) ∙ ap (λ (ws : List (List ℕ)). wanted ++ ws) (sym more) in (
        subst (λ (ws : List (List ℕ)). Given list ws (now ++ name ∷ [])) wants (given_more list (wanted ++ take k all) now want name first.0 one.0),
        subst (λ (names : List (List ℕ)). AreTaken new names) (sym (taken_more list now name)) one.1,
      );
}

-- ---- the elements of columns

pub listed_on : (diagram : Diagram) (side : Side) → IsChecked diagram → InputsAreListed → OutputsAreListed
    → AreRootElements (number_on side) (width_on side diagram) diagram (attributes_of diagram)
    (elements_on side diagram)
listed_on diagram Inputs checked inputs outputs = inputs diagram (attributes_of diagram) checked.wired
listed_on diagram Outputs checked inputs outputs = outputs diagram (attributes_of diagram) checked.wired

-- the element of a column, by the blocks of all columns and by the first of each block
pub record AtColumn (diagram : Diagram) (side : Side) (blocks : List ℕ) (k : ℕ) : Type 0 where
  pub e : RootElement
  pub at : slice_get (elements_on side diagram) k ≡ Some e
  pub block_is : e.block ≡ slice_index_or blocks k 0
  pub there : e.block < length diagram.blocks
  pub place : (columns : List ℕ) → AreColumnsFrom blocks columns 0 → slice_index_or columns e.block 0 + e.element ≡ k

pub column_on : (diagram : Diagram) (side : Side) (blocks : List ℕ) (k : ℕ) → IsChecked diagram → InputsAreListed
    → OutputsAreListed → AreBlocksOf (elements_on side diagram) blocks → k < length blocks
    → AtColumn diagram side blocks k
column_on diagram side blocks k checked inputs outputs are below =
    let listed = listed_on diagram side checked inputs outputs in
    let found = map_there (λ (x : RootElement). x.block) (elements_on side diagram) k (slice_index_or blocks k 0)
    (sym (ap (λ (xs : List ℕ). slice_get xs k) are) ∙ slice_get-get_or blocks k 0 below) in
    let of = listed.elements_of k found.0 found.1 in
    record {
      e = found.0;
      at = found.1;
      block_is = found.2;
      there = slice_get_within diagram.blocks found.0.block of.0 of.1;
      place = λ columns first. place_is (number_on side) (width_on side diagram) diagram listed blocks columns k found.0 are first found.1;
    }

-- the place of its element is told by the first column of its block
pub element_on : (diagram : Diagram) (side : Side) (blocks columns firsts : List ℕ) (k : ℕ)
    (column : AtColumn diagram side blocks k) → AreColumnsFrom blocks columns 0 → firsts ≡ columns
    → slice_index_or firsts (slice_index_or blocks k 0) 0 + column.e.element ≡ k
element_on diagram side blocks columns firsts k column are same =
    subst (λ (block : ℕ). slice_index_or firsts block 0 + column.e.element ≡ k) column.block_is
    (subst (λ (xs : List ℕ). slice_index_or xs column.e.block 0 + column.e.element ≡ k) (sym same)
    (column.place columns are))

pub block_there : (diagram : Diagram) (side : Side) (blocks : List ℕ) (k : ℕ) (column : AtColumn diagram side blocks k) → slice_index_or blocks k 0 < length diagram.blocks
block_there diagram side blocks k column = subst (λ (block : ℕ). block < length diagram.blocks) column.block_is column.there

-- a name is given to what the element wants
pub given_to : (diagram : Diagram) (side : Side) (names new : Names) (e : RootElement) (block width element : ℕ)
    (path name : List ℕ) → e.block ≡ block → path ≡ path_of diagram block → width ≡ width_on side diagram block
    → element ≡ e.element
    → ((list : List (List ℕ)) → AreTaken names list → IsGiven list (port_name (element_name (undoubled false path) width element)) name × AreTaken new (name ∷ list))
    → (list : List (List ℕ)) → AreTaken names list → IsGiven list (wanted_of diagram (width_on side diagram) e) name × AreTaken new (name ∷ list)
given_to diagram side names new e block width element path name block_is path_is width_is element_is given = λ list are.
    let path_same : path ≡ path_of diagram e.block = path_is ∙ ap (path_of diagram) (sym block_is) in
    let width_same : width ≡ width_on side diagram e.block = width_is ∙ ap (width_on side diagram) (sym block_is) in
    let want : port_name (element_name (undoubled false path) width element) ≡ wanted_of diagram (width_on side diagram) e =
    ap (λ (p : List ℕ). port_name (element_name (undoubled false p) width element)) path_same
    ∙ ap (λ (w : ℕ). port_name (element_name (undoubled false (path_of diagram e.block)) w element)) width_same
    ∙ ap (λ (n : ℕ). port_name (element_name (undoubled false (path_of diagram e.block)) (width_on side diagram e.block) n)) element_is in
    subst (λ (w : List ℕ). IsGiven list w name × AreTaken new (name ∷ list)) want (given list are)

-- their blocks are there
pub there_on : (diagram : Diagram) (side : Side) (blocks : List ℕ) → IsChecked diagram → InputsAreListed
    → OutputsAreListed → AreBlocksOf (elements_on side diagram) blocks
    → All (λ block. block < length diagram.blocks) blocks
there_on diagram side blocks checked inputs outputs are = blocks_there (number_on side) (width_on side diagram) diagram (listed_on diagram side checked inputs outputs) blocks are

-- ---- all names

pub all_named : (diagram : Diagram) (list : List (List ℕ)) (old middle new : Names) (none one both : List (List ℕ))
    (inputs outputs : ℕ) → AreTaken old list → none ≡ [] → AddsNames diagram Inputs old middle none one inputs
    → AddsNames diagram Outputs middle new one both outputs
    → inputs ≡ length (elements_on Inputs diagram) → outputs ≡ length (elements_on Outputs diagram) → Given list (wanted_names diagram) both
all_named diagram list old middle new none one both inputs outputs taken empty first second all_in all_out =
    let ins : List (List ℕ) = wanted_on Inputs diagram in
    let outs : List (List ℕ) = wanted_on Outputs diagram in
    let in_size = length-map (elements_on Inputs diagram) (wanted_of diagram (width_on Inputs diagram)) in
    let out_size = length-map (elements_on Outputs diagram) (wanted_of diagram (width_on Outputs diagram)) in
    let begun = subst (λ (xs : List (List ℕ)). AddsNames diagram Inputs old middle xs one inputs) empty first in
    let front = begun.added list [] taken tt in
    let back = second.added list (take inputs ins) front.1 front.0 in
    let in_all : take inputs ins ≡ ins = take_all inputs ins (omega (arith, in_size, all_in)) in
    let out_all : take outputs outs ≡ outs = take_all outputs outs (omega (arith, out_size, all_out)) in
    subst (λ (ws : List (List ℕ)). Given list ws both) (ap (λ (ws : List (List ℕ)). ws ++ take outputs outs) in_all ∙ ap (λ (ws : List (List ℕ)). ins ++ ws) out_all) back.0

pub blocks_size : (diagram : Diagram) (side : Side) (blocks : List ℕ) → AreBlocksOf (elements_on side diagram) blocks → length blocks ≡ length (elements_on side diagram)
blocks_size diagram side blocks are = ap (λ (xs : List ℕ). length xs) are ∙ length-map (elements_on side diagram) (λ e. e.block)
