-- What the code holds shows the widths of the rounds.
use Rattle.std.proofs.Common.{◌≡◌, ℕ, zero, suc, ◌+◌, ◌-◌, ◌*◌, ◌/◌, ◌%◌, ◌<◌, ◌≤◌, Bool, true, false, List, [], ◌∷◌, length, map, filter, cond, Some, None, Option, get_or, min, refl, sym, ap, subst}
use Rattle.std.proofs.Common.{◌∙◌, inl, inr, arith}
use Rattle.std.specs.Prelude.{slice_get, unwrap_or, if◌then◌else◌, ◌==◌}
use Rattle.std.proofs.lemmas.Bool.{cases_lt}
use Rattle.std.proofs.lemmas.Bool.Decides.{nat_tests}
use Rattle.std.proofs.Math.Nat.{suc-mul}
use Rattle.std.proofs.lemmas.Option.{unwrap_or-slice_get, slice_get_past, slice_get_within, none-some, same_Some, get_or_from_slice_get}
use Rattle.dg_model.specs.declared.diagram.Diagram.{Diagram}
use Rattle.dg_model.specs.declared.diagram.Block.{Block}
use Rattle.dg_model.specs.declared.diagram.Edge.{Edge}
use Rattle.dg_waves.specs.Rounds.{round, after_rounds}
use Rattle.math_list.specs.Numbers.{numbers_from}
use Rattle.dg_waves.proofs.WaveRounds.{length_round, round_at}
use Rattle.math_list.proofs.Numbers.{mapped_at}
use Rattle.math_list.proofs.Places.{same_places, get_some}
use Rattle.dg_types.specs.declared.linked.Share.TheVariants.{Even, Fixed}
use Rattle.dg_types.specs.declared.linked.Source.{Source}
use Rattle.dg_types.specs.declared.linked.Form.{Form}
use Rattle.dg_types.specs.inner.Widths.{width_through, source_widths, taken_by, next_held}
use Rattle.dg_types.specs.inner.WidthShapes.{shape_of, declared_width, outputs_of, shown, first_held, all_first, form_of, share_at, source_of, IsPort, HasParts, IsLaid, Mirrors}
use Rattle.dg_model.specs.KindRow.{Shape}
use Rattle.dg_model.specs.Widths.{Widths, width_at, input_widths, are_open, share, taken, most_width, list_length, next_of, next_widths, first_of, widths_after}
use Rattle.dg_model.specs.Wires.{edges_into}

-- ---- one port

mapped_or : (f : ℕ → ℕ) (from n k : ℕ) → k < n → get_or (map f (numbers_from from n)) k 0 ≡ f (from + k)
mapped_or f from n k inside = get_or_from_slice_get (map f (numbers_from from n)) k (f (from + k)) 0 (mapped_at f from n k inside)

ones_at : (xs : List ℕ) (k : ℕ) → k < length xs → get_or (map {A = ℕ} {B = ℕ} (λ x. 1) xs) k 0 ≡ 1
ones_at [] k inside = absurd (omega arith)
ones_at (x ∷ xs) zero inside = refl
ones_at (x ∷ xs) (suc k) inside = ones_at xs k (omega arith)

through : (shape : Shape) (held port : ℕ) → IsPort shape port → width_through (share_at shape port) held ≡ get_or (outputs_of shape held) (port - 1) 0
through (Shape.Parted sizes) zero port is = go (are_open sizes) where
  go : (b : Bool) → width_through (if b then Even (length sizes) (port - 1) else Fixed (get_or sizes (port - 1) 0)) zero ≡ get_or (map {A = ℕ} {B = ℕ} (λ x. 1) sizes) (port - 1) 0
  go true = sym (ones_at sizes (port - 1) (omega arith))
  go false = sym (ones_at sizes (port - 1) (omega arith))
through (Shape.Parted sizes) (suc width) port is = go (are_open sizes) where
  go : (b : Bool) → width_through (if b then Even (length sizes) (port - 1) else Fixed (get_or sizes (port - 1) 0))
      (suc width) ≡ get_or (if b then map (share width (length sizes)) (numbers_from 0 (length sizes)) else sizes)
      (port - 1) 0
  go true = ap (share width (length sizes)) (omega arith) ∙ sym (mapped_or (share width (length sizes)) 0 (length sizes) (port - 1) (omega arith))
  go false = refl
through _ held port is = rw is refl

-- ---- the cut

cut_numbers : (f : ℕ → ℕ) (from n : ℕ) → ((k : ℕ) → f k ≤ 1025) → map (min most_width) (map f (numbers_from from n)) ≡ map f (numbers_from from n)
cut_numbers f from zero small = refl
cut_numbers f from (suc n) small =
    let head : min most_width (f from) ≡ f from = omega (arith, small from) in
    let tail = cut_numbers f (suc from) n small in cc

cut_small : (xs : List ℕ) → ((k : ℕ) → get_or xs k 0 ≤ 1025) → map (min most_width) xs ≡ xs
cut_small [] small = refl
cut_small (x ∷ xs) small =
    let head : min most_width x ≡ x = omega (arith, small 0) in
    let tail = cut_small xs (λ k. small (suc k)) in cc

share_small : (width n k : ℕ) → 0 < n → width ≤ 1025 → share width n k ≤ 1025
share_small width zero k some small = absurd (omega arith)
share_small width (suc n) k some small =
    let whole : suc n * (width / suc n) ≡ n * (width / suc n) + width / suc n = suc-mul n (width / suc n) in
    let parts : suc n * (width / suc n) + width % suc n ≡ width = omega arith in
    grind (arith, nat_tests)

cut : (xs : List ℕ) (k : ℕ) → get_or (map (min most_width) xs) k 0 ≤ 1025
cut [] k = omega arith
cut (x ∷ xs) zero = omega arith
cut (x ∷ xs) (suc k) = cut xs k

taken_shown : (shape : Shape) (lists held : ℕ) (inputs : List ℕ) → HasParts shape → ((k : ℕ) → get_or inputs k 0 ≤ 1025) →
    outputs_of shape (taken_by (form_of shape lists) held inputs) ≡ map (min most_width) (taken shape lists (get_or (outputs_of shape held) 0 0) inputs)
taken_shown (Shape.Parted sizes) lists held inputs parts small =
    let same : min most_width (get_or inputs 0 0) ≡ get_or inputs 0 0 = omega (arith, small 0) in
    ap (λ (w : ℕ). outputs_of (Shape.Parted sizes) (suc w)) same ∙ go (are_open sizes) where
      go : (b : Bool) → (if b then map (share (get_or inputs 0 0) (length sizes))
          (numbers_from 0 (length sizes)) else sizes)
          ≡ map (min most_width) (if b then map (share (get_or inputs 0 0) (length sizes))
          (numbers_from 0 (length sizes)) else sizes)
      go true = sym (cut_numbers (share (get_or inputs 0 0) (length sizes)) 0 (length sizes) (λ k. share_small (get_or inputs 0 0) (length sizes) k (omega (arith, parts.0)) (small 0)))
      go false = sym (cut_small sizes (parts.1))
taken_shown _ lists held inputs parts small = refl

-- ---- a round

-- no width is above the cut
record IsCut (widths : Widths) : Type 0 where
  cut : (block port : ℕ) → width_at widths block port ≤ 1025

row_at : (widths : Widths) (block : ℕ) (row : List ℕ) → slice_get widths block ≡ Some row → get_or widths block [] ≡ row
row_at widths block row at = get_or_from_slice_get widths block row [] at

row_past : (widths : Widths) (block : ℕ) → length widths ≤ block → get_or widths block [] ≡ []
row_past widths block past = sym (unwrap_or-slice_get widths block []) ∙ ap (λ (o : Option (List ℕ)). unwrap_or o []) (slice_get_past widths block past)

next_cut : (o : Option Block) (own : ℕ) (inputs : List ℕ) (k : ℕ) → get_or (next_of o own inputs) k 0 ≤ 1025
next_cut None own inputs k = omega arith
next_cut (Some block) own inputs k = cut (taken (shape_of block.kind) (list_length block.kind) own inputs) k

round_cut : (diagram : Diagram) (widths : Widths) → IsCut (round (next_widths diagram) widths)
round_cut diagram widths = record {
  cut = λ block port.
      elim (cases_lt block (length widths)) [
        | inl inside ↦
            rw (row_at (round (next_widths diagram) widths) block (next_widths diagram widths block) (round_at (next_widths diagram) widths block inside))
            (next_cut (slice_get diagram.blocks block) (width_at widths block 1) (input_widths diagram widths block) (port - 1))
        | inr past ↦
            rw (row_past (round (next_widths diagram) widths) block (omega (arith, length_round (next_widths diagram) widths))) (omega arith)
      ];
}

pub length_shown : (blocks : List Block) (held : List ℕ) → length held ≡ length blocks → length (shown blocks held) ≡ length blocks
length_shown [] [] size = refl
length_shown [] (x ∷ held) size = absurd (omega arith)
length_shown (block ∷ blocks) [] size = absurd (omega arith)
length_shown (block ∷ blocks) (x ∷ held) size = ap suc (length_shown blocks held (omega arith))

shown_at : (blocks : List Block) (held : List ℕ) (k : ℕ) (block : Block) → length held ≡ length blocks
    → slice_get blocks k ≡ Some block → slice_get (shown blocks held) k
    ≡ Some (outputs_of (shape_of block.kind) (get_or held k 0))
shown_at [] held k block size at = absurd (none-some block at)
shown_at (b ∷ blocks) [] k block size at = absurd (omega arith)
shown_at (b ∷ blocks) (x ∷ held) zero block size at = ap (λ (o : Block). Some (outputs_of (shape_of o.kind) x)) (same_Some b block at)
shown_at (b ∷ blocks) (x ∷ held) (suc k) block size at = shown_at blocks held k block (omega arith) at

mapped_into : (f g : Edge → ℕ) (to : ℕ) (edges : List Edge)
    → ((k : ℕ) (edge : Edge) → slice_get edges k ≡ Some edge → f edge ≡ g edge)
    → map f (filter (λ edge. edge.to == to) edges) ≡ map g (filter (λ edge. edge.to == to) edges)
mapped_into f g to [] same = refl
mapped_into f g to (x ∷ xs) same = go (x.to == to) (same 0 x refl) (mapped_into f g to xs (λ k edge at. same (suc k) edge at)) where
  go : (b : Bool) → f x ≡ g x → map f (filter (λ edge. edge.to == to) xs)
      ≡ map g (filter (λ edge. edge.to == to) xs)
      → map f (cond b (x ∷ filter (λ edge. edge.to == to) xs) (filter (λ edge. edge.to == to) xs))
      ≡ map g (cond b (x ∷ filter (λ edge. edge.to == to) xs) (filter (λ edge. edge.to == to) xs))
  go true head tail = cc
  go false head tail = tail

source_widths_map : (held : List ℕ) (blocks : List Block) (edges : List Edge)
    → source_widths held (map (source_of blocks) edges)
    ≡ map (λ (edge : Edge). width_through (source_of blocks edge).share (get_or held edge.from 0)) edges
source_widths_map held blocks [] = refl
source_widths_map held blocks (x ∷ xs) = ap (λ (ws : List ℕ). width_through (source_of blocks x).share (get_or held x.from 0) ∷ ws) (source_widths_map held blocks xs)

edge_width : (diagram : Diagram) (held : List ℕ) → IsLaid diagram → length held ≡ length diagram.blocks → (k : ℕ) (edge : Edge) → slice_get diagram.edges k ≡ Some edge →
    width_through (source_of diagram.blocks edge).share (get_or held edge.from 0) ≡ width_at (shown diagram.blocks held) edge.from edge.from_port
edge_width diagram held laid size k edge at =
    let port = laid.ports k edge at in
    let shape = shape_of port.0.kind in
    let value = get_or held edge.from 0 in
    rw (port.1, row_at (shown diagram.blocks held) edge.from (outputs_of shape value) (shown_at diagram.blocks held edge.from (port.0) size (port.1))) (through shape value edge.from_port (port.2))

inputs_shown : (diagram : Diagram) (held : List ℕ) (block : ℕ) → IsLaid diagram
    → length held ≡ length diagram.blocks
    → source_widths held (map (source_of diagram.blocks) (edges_into diagram block))
    ≡ input_widths diagram (shown diagram.blocks held) block
inputs_shown diagram held block laid size =
    source_widths_map held diagram.blocks (edges_into diagram block)
    ∙ mapped_into (λ edge. width_through (source_of diagram.blocks edge).share (get_or held edge.from 0))
    (λ edge. width_at (shown diagram.blocks held) edge.from edge.from_port) block diagram.edges
    (edge_width diagram held laid size)

inputs_cut : (diagram : Diagram) (widths : Widths) (edges : List Edge) → IsCut widths → (k : ℕ) → get_or (map (λ (edge : Edge). width_at widths edge.from edge.from_port) edges) k 0 ≤ 1025
inputs_cut diagram widths [] is k = omega arith
inputs_cut diagram widths (x ∷ xs) is zero = is.cut x.from x.from_port
inputs_cut diagram widths (x ∷ xs) is (suc k) = inputs_cut diagram widths xs is k

block_round : (diagram : Diagram) (forms : List Form) (sources : List (List Source)) (held : List ℕ) (k : ℕ)
    (block : Block) → IsLaid diagram → Mirrors diagram forms sources → length held ≡ length diagram.blocks
    → IsCut (shown diagram.blocks held) → slice_get diagram.blocks k ≡ Some block →
    outputs_of (shape_of block.kind) (next_held forms sources held k) ≡ next_widths diagram (shown diagram.blocks held) k
block_round diagram forms sources held k block laid mirrors size is at =
    let shape = shape_of block.kind in
    let own = get_or held k 0 in
    let inputs = input_widths diagram (shown diagram.blocks held) k in
    let read : source_widths held (get_or sources k []) ≡ inputs = ap (source_widths held) (mirrors.source k (slice_get_within diagram.blocks k block at)) ∙ inputs_shown diagram held k laid size in
    let row : get_or (shown diagram.blocks held) k [] ≡ outputs_of shape own = row_at (shown diagram.blocks held) k (outputs_of shape own) (shown_at diagram.blocks held k block size at) in
    let here = taken_shown shape (list_length block.kind) own inputs (laid.parts k block at) (inputs_cut diagram (shown diagram.blocks held) (edges_into diagram k) is) in
    rw (mirrors.form k block at, read, at, row) here

shown_round : (diagram : Diagram) (forms : List Form) (sources : List (List Source)) (held : List ℕ)
    → IsLaid diagram → Mirrors diagram forms sources → length held ≡ length diagram.blocks
    → IsCut (shown diagram.blocks held) →
    shown diagram.blocks (round (next_held forms sources) held) ≡ round (next_widths diagram) (shown diagram.blocks held)
shown_round diagram forms sources held laid mirrors size is =
    let next = next_held forms sources in
    let blocks = diagram.blocks in
    let round_size : length (round next held) ≡ length blocks = length_round next held ∙ size in
    let left_size = length_shown blocks (round next held) round_size in
    let right_size = length_round (next_widths diagram) (shown blocks held) ∙ length_shown blocks held size in
    same_places (shown blocks (round next held)) (round (next_widths diagram) (shown blocks held)) (left_size ∙ sym right_size) (λ k inside.
    let there : k < length blocks = omega (arith, left_size) in
    let block = get_some blocks k there in
    let value : get_or (round next held) k 0 ≡ next held k = get_or_from_slice_get (round next held) k (next held k) 0 (round_at next held k (omega (arith, size))) in
    shown_at blocks (round next held) k (block.0) round_size (block.1)
    ∙ ap (λ (v : ℕ). Some (outputs_of (shape_of block.0.kind) v)) value
    ∙ ap Some (block_round diagram forms sources held k (block.0) laid mirrors size is (block.1))
    ∙ sym (round_at (next_widths diagram) (shown blocks held) k (omega (arith, length_shown blocks held size))))

-- ---- before the first round

first_row : (shape : Shape) (width : ℕ) → outputs_of shape (first_held shape width) ≡ first_of shape width
first_row Shape.Elementwise width = refl
first_row _ width = refl

first_shown : (blocks : List Block) → shown blocks (all_first blocks) ≡ map (λ block. first_of (shape_of block.kind) (declared_width block.kind)) blocks
first_shown [] = refl
first_shown (block ∷ blocks) =
    let head = first_row (shape_of block.kind) (declared_width block.kind) in
    let tail = first_shown blocks in cc

first_row_cut : (shape : Shape) (width k : ℕ) → width ≤ 1025 → get_or (first_of shape width) k 0 ≤ 1025
first_row_cut Shape.Elementwise width zero small = omega arith
first_row_cut Shape.Elementwise width (suc k) small = omega arith
first_row_cut (Shape.Joined sizes) width zero small = omega arith
first_row_cut (Shape.Joined sizes) width (suc k) small = omega arith
first_row_cut (Shape.Parted sizes) width k small = ones sizes k where
  ones : (xs : List ℕ) (k : ℕ) → get_or (map {A = ℕ} {B = ℕ} (λ x. 1) xs) k 0 ≤ 1025
  ones [] k = omega arith
  ones (x ∷ xs) zero = omega arith
  ones (x ∷ xs) (suc k) = ones xs k
first_row_cut Shape.Single width zero small = omega arith
first_row_cut Shape.Single width (suc k) small = omega arith

first_cut : (blocks : List Block) (k port : ℕ)
    → ((j : ℕ) (block : Block) → slice_get blocks j ≡ Some block → declared_width block.kind ≤ 1025)
    → width_at (map (λ block. first_of (shape_of block.kind) (declared_width block.kind)) blocks) k port ≤ 1025
first_cut [] k port small = omega arith
first_cut (block ∷ blocks) zero port small = first_row_cut (shape_of block.kind) (declared_width block.kind) (port - 1) (small 0 block refl)
first_cut (block ∷ blocks) (suc k) port small = first_cut blocks k port (λ j b at. small (suc j) b at)

pub length_first : (blocks : List Block) → length (all_first blocks) ≡ length blocks
length_first [] = refl
length_first (block ∷ blocks) = ap suc (length_first blocks)

-- what is held after some rounds has the length of the diagram, shows the widths after as many, and these are cut
record Shows (diagram : Diagram) (forms : List Form) (sources : List (List Source)) (n : ℕ) : Type 0 where
  size : length (after_rounds (next_held forms sources) n (all_first diagram.blocks)) ≡ length diagram.blocks
  same : shown diagram.blocks (after_rounds (next_held forms sources) n (all_first diagram.blocks)) ≡ widths_after diagram n
  is_cut : IsCut (widths_after diagram n)

shows : (diagram : Diagram) (forms : List Form) (sources : List (List Source)) (n : ℕ) → IsLaid diagram → Mirrors diagram forms sources → Shows diagram forms sources n
shows diagram forms sources zero laid mirrors = record {
  size = length_first diagram.blocks;
  same = first_shown diagram.blocks;
  is_cut = record { cut = λ block port. first_cut diagram.blocks block port laid.declared };
}
shows diagram forms sources (suc n) laid mirrors =
    let before = shows diagram forms sources n laid mirrors in
    let held = after_rounds (next_held forms sources) n (all_first diagram.blocks) in
    record {
      size = length_round (next_held forms sources) held ∙ before.size;
      same = shown_round diagram forms sources held laid mirrors before.size (subst IsCut (sym before.same) before.is_cut) ∙ ap (round (next_widths diagram)) before.same;
      is_cut = round_cut diagram (widths_after diagram n);
    }

-- the code's rounds show the widths of the diagram's rounds
pub held_shows : (diagram : Diagram) (forms : List Form) (sources : List (List Source)) (n : ℕ) → IsLaid diagram
    → Mirrors diagram forms sources → shown diagram.blocks
    (after_rounds (next_held forms sources) n (all_first diagram.blocks)) ≡ widths_after diagram n
held_shows diagram forms sources n laid mirrors = (shows diagram forms sources n laid mirrors).same

first_held_fits : (shape : Shape) (width : ℕ) → width ≤ 1025 → first_held shape width ≤ 1026
first_held_fits Shape.Elementwise width small = omega arith
first_held_fits _ width small = omega arith

pub first_fits : (blocks : List Block) (k d : ℕ)
    → ((j : ℕ) (block : Block) → slice_get blocks j ≡ Some block → declared_width block.kind ≤ 1025)
    → k < length (all_first blocks) → get_or (all_first blocks) k d ≤ 1026
first_fits [] k d small inside = absurd (omega arith)
first_fits (block ∷ blocks) zero d small inside = first_held_fits (shape_of block.kind) (declared_width block.kind) (small 0 block refl)
first_fits (block ∷ blocks) (suc k) d small inside = first_fits blocks k d (λ j b at. small (suc j) b at) (omega arith)
