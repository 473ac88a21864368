-- The columns of a sample's diagram.
use Rattle.std.proofs.Common.{◌≡◌, ℕ, zero, suc, ◌+◌, ◌<◌, ◌≤◌, ◌-◌, ◌==◌, Bool, true, not, cond, nat_lt, List, [], ◌∷◌, ◌++◌, length, map, filter_map, Option, Some, None, pos, slice_get, ap, ◌∙◌, subst, refl, arith}
use Rattle.std.specs.Prelude.{slice_index_or, position}
use Rattle.std.specs.List.{cons_option, flat_map, prefix_len}
use Rattle.std.proofs.lemmas.List.{length-map}
use Rattle.std.proofs.lemmas.Option.{slice_get_within, get_or_from_slice_get}
use Rattle.fx_type.specs.declared.kind.FxType.{FxType}
use Rattle.fx_type.specs.declared.kind.FxType.TheVariants.{Num}
use Rattle.fx_tables.specs.declared.table.Column.{Column}
use Rattle.math_list.specs.Numbers.{numbers_from}
use Rattle.math_list.proofs.Places.{there_map, held}
use Rattle.dg_waves.specs.Rounds.{round}
use Rattle.dg_model.specs.declared.diagram.Block.{Block}
use Rattle.dg_model.specs.declared.diagram.Diagram.{Diagram}
use Rattle.dg_model.specs.declared.diagram.Edge.{Edge}
use Rattle.dg_model.specs.declared.kind.Kind.{Kind}
use Rattle.dg_model.specs.declared.kind.Kind.TheVariants.{Inport, Outport, RateTransition}
use Rattle.dg_model.specs.declared.row.Role.{Role}
use Rattle.dg_model.specs.Attributes.{attributes_of, or_logical}
use Rattle.dg_model.specs.Checked.{IsChecked}
use Rattle.dg_model.specs.Library.{row_of}
use Rattle.dg_model.specs.Periods.{known_or, known_at, periods_of, period_at}
use Rattle.dg_model.specs.Readable.{IsReadable}
use Rattle.dg_model.specs.RootElements.{RootElement, number_in, is_number, has_number, root_element, elements_of_port, root_inputs, root_outputs}
use Rattle.dg_model.specs.TypeRounds.{explicit_type, next_types, types_after, type_of_next, input_types}
use Rattle.dg_model.specs.Widths.{width_at, widths_of}
use Rattle.dg_model.specs.Wired.{root_input, root_output}
use Rattle.dg_model.specs.Wires.{at_source, width_into}
use Rattle.dg_response.specs.Response.{column_of}
use Rattle.laws_samples.specs.Columns.{HasSampleColumns, word_column}
use Rattle.laws_samples.specs.Shape.{IsLink, IsSampleDiagram}
use Rattle.laws_samples.proofs.Rounds.{round_at, length_after}
use Rattle.laws_samples.proofs.Blocks.{out_at, slow_at, which, single, none_mapped, none_before, input_there, out_there, slow_there}
use Rattle.laws_samples.proofs.Blocks.Which.{First, Link, Down, Out, Slow}
use Rattle.laws_samples.proofs.EdgeEnds.{driver_at, source_of}
use Rattle.laws_samples.proofs.Periods.{period_one, period_two}
use Rattle.laws_samples.proofs.Widths.{widths_are_one}

module _ {diagram : Diagram} (sample : IsSampleDiagram diagram) (checked : IsChecked diagram) where
  -- ---- which blocks are root ports

  abbrev ends : List Block
  ends = sample.down ∷ sample.out ∷ sample.slow ∷ []

  role : (kind : Kind) (b : Block) → b.kind ≡ kind → (row_of b.kind).place.role ≡ (row_of kind).place.role
  role kind b same = ap (λ (k : Kind). (row_of k).place.role) same

  -- the numbers of these ports
  module _ (number_of : Role → Option ℕ) (plain : number_of Role.Plain ≡ None) where
    abbrev numbers : List Block → List ℕ
    numbers blocks = filter_map (number_in number_of) blocks

    link_none : (b : Block) → IsLink b → number_in number_of b ≡ None
    link_none b link = ap number_of link.role ∙ plain

    numbers_are : numbers diagram.blocks ≡ cons_option (number_of (Role.RootInput 1)) (cons_option (number_of (Role.RootOutput 1)) (cons_option (number_of (Role.RootOutput 2)) []))
    numbers_are =
        ap numbers sample.blocks
        ∙ ap (λ (ns : List ℕ). cons_option (number_in number_of sample.input) ns) (none_mapped IsLink (number_in number_of) link_none sample.chain ends sample.links)
        ∙ ap (λ (k : Kind). cons_option (number_of (row_of k).place.role) (numbers ends)) sample.input_is.kind_is
        ∙ ap (λ (k : Kind). cons_option (number_of (Role.RootInput 1)) (cons_option (number_of (row_of k).place.role) (numbers (sample.out ∷ sample.slow ∷ [])))) sample.down_is.kind_is
        ∙ ap (λ (o : Option ℕ). cons_option (number_of (Role.RootInput 1)) (cons_option o (numbers (sample.out ∷ sample.slow ∷ [])))) plain
        ∙ ap (λ (k : Kind). cons_option (number_of (Role.RootInput 1)) (cons_option (number_of (row_of k).place.role) (numbers (sample.slow ∷ [])))) sample.out_is.kind_is
        ∙ ap (λ (k : Kind). cons_option (number_of (Role.RootInput 1)) (cons_option (number_of (Role.RootOutput 1)) (cons_option (number_of (row_of k).place.role) []))) sample.slow_is.kind_is

  in_numbers : filter_map (number_in root_input) diagram.blocks ≡ 1 ∷ []
  in_numbers = numbers_are root_input refl

  out_numbers : filter_map (number_in root_output) diagram.blocks ≡ 1 ∷ 2 ∷ []
  out_numbers = numbers_are root_output refl

  -- ---- where they stand

  long : length diagram.blocks ≡ suc (length sample.chain + 3)
  long = ap (λ (bs : List Block). length bs) sample.blocks ∙ ap suc (sizes sample.chain ends)
    where
      sizes : (xs ys : List Block) → length (xs ++ ys) ≡ length xs + length ys
      sizes [] ys = omega arith
      sizes (x ∷ xs) ys = let more = sizes xs ys in omega (arith, more)

  positioned : (test : Block → Bool) (place : ℕ) → place < length diagram.blocks → prefix_len (λ x. not (test x)) diagram.blocks ≡ place → position test diagram.blocks ≡ Some place
  positioned test place below is = ap (λ (n : ℕ). cond (nat_lt n (length diagram.blocks)) (Some n) None) is ∙ ap (λ (b : Bool). cond b (Some place) None) (lt_yes place (length diagram.blocks) below)
    where
      lt_yes : (a b : ℕ) → a < b → nat_lt a b ≡ true
      lt_yes a b below = grind arith

  passed : (number_of : Role → Option ℕ) (number : ℕ) → number_of Role.Plain ≡ None → (b : Block) → IsLink b → not (has_number number_of number b) ≡ true
  passed number_of number plain b link = ap (λ (o : Option ℕ). not (is_number number o)) (ap number_of link.role ∙ plain)

  -- how far a search for the root output of a number goes
  out_prefix : (number : ℕ) → prefix_len (λ x. not (has_number root_output number x)) diagram.blocks
      ≡ 1 + (length sample.chain + (1 + cond (not (1 == number)) (1 + cond (not (2 == number)) (1 + 0) 0) 0))
  out_prefix number =
      ap (prefix_len (λ x. not (has_number root_output number x))) sample.blocks
      ∙ ap (λ (k : Kind). cond (not (is_number number (root_output (row_of k).place.role))) (1 + prefix_len (λ x. not (has_number root_output number x)) (sample.chain ++ ends)) 0) sample.input_is.kind_is
      ∙ ap (λ (n : ℕ). 1 + n) (none_before IsLink (λ x. not (has_number root_output number x)) (passed root_output number refl) sample.chain ends sample.links)
      ∙ ap (λ (k : Kind). 1 + (length sample.chain + cond (not (is_number number (root_output (row_of k).place.role))) (1 + prefix_len (λ x. not (has_number root_output number x)) (sample.out ∷ sample.slow ∷ [])) 0)) sample.down_is.kind_is
      ∙ ap (λ (k : Kind). 1 + (length sample.chain + (1 + cond (not (is_number number (root_output (row_of k).place.role))) (1 + prefix_len (λ x. not (has_number root_output number x)) (sample.slow ∷ [])) 0))) sample.out_is.kind_is
      ∙ ap (λ (k : Kind). 1 + (length sample.chain + (1 + cond (not (1 == number)) (1 + cond (not (is_number number (root_output (row_of k).place.role))) (1 + 0) 0) 0))) sample.slow_is.kind_is

  in_place : position (has_number root_input 1) diagram.blocks ≡ Some 0
  in_place = positioned (has_number root_input 1) 0 (omega (arith, long))
      (ap (prefix_len (λ x. not (has_number root_input 1 x))) sample.blocks
      ∙ ap (λ (k : Kind). cond (not (is_number 1 (root_input (row_of k).place.role))) (1 + prefix_len (λ x. not (has_number root_input 1 x)) (sample.chain ++ ends)) 0) sample.input_is.kind_is)

  first_out : position (has_number root_output 1) diagram.blocks ≡ Some (out_at sample)
  first_out = let is = out_prefix 1 in positioned (has_number root_output 1) (out_at sample) (omega (arith, long)) (is ∙ omega arith)

  second_out : position (has_number root_output 2) diagram.blocks ≡ Some (slow_at sample)
  second_out = let is = out_prefix 2 in positioned (has_number root_output 2) (slow_at sample) (omega (arith, long)) (is ∙ omega arith)

  -- ---- their widths

  in_width : (attributes_of diagram).width_at 0 1 ≡ 1
  in_width = ap (λ (ws : List ℕ). slice_index_or ws 0 0) (widths_are_one diagram (single sample) 0 (omega (arith, long)))

  ports_of : (place : ℕ) (b : Block) (kind : Kind) → slice_get diagram.blocks place ≡ Some b → b.kind ≡ kind → (row_of kind).ports.inputs b.inputs × (row_of kind).ports.outputs b.outputs
  ports_of place b kind at is =
      let ports = (held IsReadable diagram.blocks place b checked.wired.blocks at).ports in
      (subst (λ (k : Kind). (row_of k).ports.inputs b.inputs) is ports.0, subst (λ (k : Kind). (row_of k).ports.outputs b.outputs) is ports.1)

  kind_of : (b end : Block) (kind : Kind) → b ≡ end → end.kind ≡ kind → b.kind ≡ kind
  kind_of b end kind same is = ap (λ (c : Block). c.kind) same ∙ is

  one_output : (place : ℕ) (b : Block) → slice_get diagram.blocks place ≡ Some b → b.outputs ≤ 1
  one_output place b at = elim (which sample place b at) [
    | First _ same ↦ let ports = (ports_of place b (Inport 1 0) at (kind_of b sample.input (Inport 1 0) same sample.input_is.kind_is)).1 in omega (arith, ports)
    | Link _ _ link ↦ link.outputs
    | Down _ same ↦ let ports = (ports_of place b (RateTransition sample.two (sample.held ∷ [])) at (kind_of b sample.down (RateTransition sample.two (sample.held ∷ [])) same sample.down_is.kind_is)).1 in omega (arith, ports)
    | Out _ same ↦ let ports = (ports_of place b (Outport 1) at (kind_of b sample.out (Outport 1) same sample.out_is.kind_is)).1 in omega (arith, ports)
    | Slow _ same ↦ let ports = (ports_of place b (Outport 2) at (kind_of b sample.slow (Outport 2) same sample.slow_is.kind_is)).1 in omega (arith, ports)
  ]

  out_width : (place number : ℕ) (b : Block) → slice_get diagram.blocks place ≡ Some b → b.kind ≡ Outport number → width_into diagram (attributes_of diagram) place 1 ≡ 1
  out_width place number b at kind =
      let inputs = (ports_of place b (Outport number) at kind).0 in
      let driver = driver_at diagram checked.wired place b at inputs in
      ap (λ (o : Option Edge). at_source o 0 (attributes_of diagram).width_at) driver.drives ∙ from_one driver.number driver.edge driver.there
    where
      from_one : (j : ℕ) (edge : Edge) → slice_get diagram.edges j ≡ Some edge → width_at (widths_of diagram) edge.from edge.from_port ≡ 1
      from_one j edge at =
          let source = source_of diagram checked.wired j edge at in
          let most = one_output edge.from source.block source.there in
          let above = source.above in
          let within = source.within in
          let port : edge.from_port - 1 ≡ 0 = omega (arith, above, within, most) in
          ap (λ (ws : List ℕ). slice_index_or ws (edge.from_port - 1) 0) (widths_are_one diagram (single sample) edge.from (slice_get_within diagram.blocks edge.from source.block source.there))
          ∙ ap (λ (k : ℕ). slice_index_or (1 ∷ []) k 0) port

  -- ---- the type of the input

  in_type : (attributes_of diagram).type_at 0 1 ≡ Num true 16 (pos 8)
  in_type = ap or_logical (rounds (length diagram.blocks))
    where
      sized : (n : ℕ) → length (types_after diagram n) ≡ length diagram.blocks
      sized n = length_after (next_types diagram) n (map (λ (block : Block). explicit_type block.result) diagram.blocks)
          ∙ length-map diagram.blocks (λ (block : Block). explicit_type block.result)

      rounds : (n : ℕ) → known_at (types_after diagram n) 0 ≡ Some (Num true 16 (pos 8))
      rounds zero =
          get_or_from_slice_get (map (λ (block : Block). explicit_type block.result) diagram.blocks) 0 (explicit_type sample.input.result) None
          (there_map (λ (block : Block). explicit_type block.result) diagram.blocks 0 sample.input (input_there sample))
          ∙ ap explicit_type sample.word
      rounds (suc n) =
          let types : List (Option FxType) = types_after diagram n in
          let size = sized n in
          get_or_from_slice_get (round (next_types diagram) types) 0 (next_types diagram types 0) None (round_at (next_types diagram) types 0 (omega (arith, size, long)))
          ∙ ap (λ (o : Option FxType). known_or o (type_of_next (slice_get diagram.blocks 0) (input_types diagram types 0))) (rounds n)

  -- ---- the columns

  elements_of : (number_of : Role → Option ℕ) (width_of : ℕ → ℕ) (number place : ℕ) → position (has_number number_of number) diagram.blocks ≡ Some place → width_of place ≡ 1
      → elements_of_port (attributes_of diagram) width_of number (position (has_number number_of number) diagram.blocks) ≡ root_element (attributes_of diagram) number place 0 ∷ []
  elements_of number_of width_of number place at one =
      ap (λ (o : Option ℕ). elements_of_port (attributes_of diagram) width_of number o) at
      ∙ ap (λ (n : ℕ). map (root_element (attributes_of diagram) number place) (numbers_from 0 n)) one

  inputs_are : root_inputs diagram (attributes_of diagram) ≡ root_element (attributes_of diagram) 1 0 0 ∷ []
  inputs_are =
      let width_of : ℕ → ℕ = λ block. (attributes_of diagram).width_at block 1 in
      ap (λ (ns : List ℕ). flat_map (λ number. elements_of_port (attributes_of diagram) width_of number (position (has_number root_input number) diagram.blocks)) (numbers_from 1 (length ns))) in_numbers
      ∙ ap (λ (es : List RootElement). es ++ []) (elements_of root_input width_of 1 0 in_place in_width)

  outputs_are : root_outputs diagram (attributes_of diagram) ≡ root_element (attributes_of diagram) 1 (out_at sample) 0 ∷ root_element (attributes_of diagram) 2 (slow_at sample) 0 ∷ []
  outputs_are =
      let width_of : ℕ → ℕ = λ block. width_into diagram (attributes_of diagram) block 1 in
      ap (λ (ns : List ℕ). flat_map (λ number. elements_of_port (attributes_of diagram) width_of number (position (has_number root_output number) diagram.blocks)) (numbers_from 1 (length ns))) out_numbers
      ∙ ap (λ (es : List RootElement). es ++ (elements_of_port (attributes_of diagram) width_of 2 (position (has_number root_output 2) diagram.blocks) ++ []))
      (elements_of root_output width_of 1 (out_at sample) first_out (out_width (out_at sample) 1 sample.out (out_there sample) sample.out_is.kind_is))
      ∙ ap (λ (es : List RootElement). root_element (attributes_of diagram) 1 (out_at sample) 0 ∷ (es ++ []))
      (elements_of root_output width_of 2 (slow_at sample) second_out (out_width (slow_at sample) 2 sample.slow (slow_there sample) sample.slow_is.kind_is))

  in_column : column_of (root_element (attributes_of diagram) 1 0 0) ≡ word_column
  in_column =
      ap (λ (t : FxType). column_of (record { number = 1; block = 0; element = 0; type = t; period = period_at (periods_of diagram) 0 })) in_type
      ∙ ap (λ (p : Option ℕ). column_of (record { number = 1; block = 0; element = 0; type = Num true 16 (pos 8); period = p }))
      (period_one sample checked.wired 0 sample.input (input_there sample) (λ same. absurd (omega (arith, same))) (λ same. absurd (omega (arith, same))))

  period_is : (number place n : ℕ) → period_at (periods_of diagram) place ≡ Some n → (column_of (root_element (attributes_of diagram) number place 0)).period ≡ n
  period_is number place n is = ap (λ (p : Option ℕ). (column_of (record { number = number; block = place; element = 0; type = (attributes_of diagram).type_at place 1; period = p })).period) is

  pub has_columns : HasSampleColumns diagram
  has_columns = record {
    inputs = ap (λ (es : List RootElement). map column_of es) inputs_are ∙ ap (λ (c : Column). c ∷ []) in_column;
    outputs = ap (λ (es : List RootElement). map (λ (column : Column). column.period) (map column_of es)) outputs_are
        ∙ ap (λ (n : ℕ). n ∷ (column_of (root_element (attributes_of diagram) 2 (slow_at sample) 0)).period ∷ [])
        (period_is 1 (out_at sample) 1 (period_one sample checked.wired (out_at sample) sample.out (out_there sample) (λ same. absurd (omega (arith, same))) (λ same. absurd (omega (arith, same)))))
        ∙ ap (λ (n : ℕ). 1 ∷ n ∷ []) (period_is 2 (slow_at sample) 2 (period_two sample checked.wired));
  }
