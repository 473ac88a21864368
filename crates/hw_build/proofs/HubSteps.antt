-- The nets that readers name are put in one by one.
use Rattle.std.proofs.Common.{◌≡◌, ℕ, suc, ◌+◌, ◌-◌, ◌^◌, ◌<◌, ◌≤◌, inl, inr, Bool, true, false, cond, List, [], ◌∷◌, ◌++◌, length, Some, ap, sym, ◌∙◌, subst, arith, refl, add-one, length-append}
use Rattle.std.specs.Prelude.{slice_get, slice_index_or}
use Rattle.std.proofs.lemmas.Bool.{cases_lt, false≢true}
use Rattle.std.proofs.lemmas.Option.{get_or_from_slice_get, slice_get-get_or, same_Some}
use Rattle.fx_type.specs.declared.kind.FxType.{FxType}
use Rattle.dg_model.specs.declared.diagram.Diagram.{Diagram}
use Rattle.dg_model.specs.declared.diagram.Block.{Block}
use Rattle.dg_model.specs.declared.row.Role.{Role}
use Rattle.dg_model.specs.Library.{row_of}
use Rattle.dg_model.specs.Attributes.{attributes_of}
use Rattle.dg_model.specs.Checked.{IsChecked}
use Rattle.dg_model.specs.Solves.{ports_of_role, shown_ports}
use Rattle.dg_model.specs.Widths.{widths_of}
use Rattle.hw_net.specs.declared.netlist.Net.{Net}
use Rattle.hw_net.specs.Circuit.{Circuit}
use Rattle.hw_net.specs.Growing.{Extends, with_net}
use Rattle.hw_net.proofs.Growth.{extends-self, extends-one, extends-trans, one-longer, still-there}
use Rattle.math_list.proofs.Places.{last_at, get_front}
use Rattle.hw_sched.proofs.Widths.{widths_at}
use Rattle.hw_build.specs.inner.HubPlaces.{before, hub_of, input_net, is_output_role, own_count, own_hubs, hub_start, IsFresh, AddsFresh, AddsPorts, AreFirsts, AddsBlock, AddsBlocks, AddsInputs}

-- ---- of a port

fresh_stays : (now later : Circuit) (k : ℕ) (type : FxType) → Extends now later → IsFresh now k type → IsFresh later k type
fresh_stays now later k type more is = (still-there now later k (hub_of type) more is.0, is.1)

pub fresh_then : (earlier now later : Circuit) (one two : ℕ) (type : FxType) → AddsFresh earlier now one type → AddsFresh now later two type → AddsFresh earlier later (one + two) type
fresh_then earlier now later one two type is more = record {
  extends = extends-trans earlier now later is.extends more.extends;
  size = omega (arith, is.size, more.size);
  each = λ k low high.
      elim (cases_lt k (length now.nets)) [
        | inl less ↦ fresh_stays now later k type more.extends (is.each k low less)
        | inr past ↦ more.each k (omega (arith, past)) high
      ];
}

pub fresh_none : (now : Circuit) (count : ℕ) (type : FxType) → count ≡ 0 → AddsFresh now now count type
fresh_none now count type none = record {
  extends = extends-self now;
  size = omega (arith, none);
  each = λ k past below. absurd (omega (arith, past, below));
}

pub fresh_one : (now later : Circuit) (number : ℕ) (type : FxType) → number ≡ length now.nets → number < 2 ^ 32 → later ≡ with_net now (hub_of type) → AddsFresh now later 1 type
fresh_one now later number type at fits grown = record {
  extends = extends-one now later (hub_of type) grown;
  size = omega (arith, one-longer now later (hub_of type) grown);
  each = λ k low high.
      let size = one-longer now later (hub_of type) grown in
      let same : k ≡ length now.nets = omega (arith, low, high, size) in
      (ap (slice_get later.nets) same ∙ ap (λ (x : Circuit). slice_get x.nets (length now.nets)) grown ∙ last_at now.nets (hub_of type), omega (arith, same, at, fits));
}

-- ---- of a block

-- what a list with one more has at its places
pub front_read : (firsts : List ℕ) (first port : ℕ) → port < length firsts → slice_index_or (firsts ++ first ∷ []) port 0 ≡ slice_index_or firsts port 0
front_read firsts first port below =
    get_or_from_slice_get (firsts ++ first ∷ []) port (slice_index_or firsts port 0) 0 (get_front firsts (first ∷ []) port below ∙ slice_get-get_or firsts port 0 below)

last_read : (firsts : List ℕ) (first : ℕ) → slice_index_or (firsts ++ first ∷ []) (length firsts) 0 ≡ first
last_read firsts first = get_or_from_slice_get (firsts ++ first ∷ []) (length firsts) first 0 (last_at firsts first)

pub ports_none : (now : Circuit) (type : FxType) (size : ℕ → ℕ) (firsts : List ℕ) → firsts ≡ [] → AddsPorts now now type size firsts 0
ports_none now type size firsts none = record {
  adds = fresh_none now 0 type refl;
  count = ap (λ (xs : List ℕ). length xs) none;
  places = λ port below. absurd (omega (arith, below));
}

pub ports_more : (earlier now later : Circuit) (type : FxType) (size : ℕ → ℕ) (firsts : List ℕ) (ports first : ℕ)
    → AddsPorts earlier now type size firsts ports → first ≡ length now.nets → AddsFresh now later (size ports) type
    → AddsPorts earlier later type size (firsts ++ first ∷ []) (ports + 1)
ports_more earlier now later type size firsts ports first is at more = record {
  adds = subst (λ (n : ℕ). AddsFresh earlier later (before size n) type) (sym (add-one ports)) (fresh_then earlier now later (before size ports) (size ports) type is.adds more);
  count = length-append firsts (first ∷ []) ∙ omega (arith, is.count);
  places = λ port below.
      elim (cases_lt port ports) [
        | inl less ↦ front_read firsts first port (omega (arith, less, is.count)) ∙ is.places port less
        | inr past ↦
            let here : port ≡ length firsts = omega (arith, past, below, is.count) in
            let same : length firsts ≡ ports = is.count in
            let size_is = is.adds.size in
            ap (λ (x : ℕ). slice_index_or (firsts ++ first ∷ []) x 0) here ∙ last_read firsts first ∙ at ∙ size_is ∙ ap (λ (x : ℕ). length earlier.nets + before size x) (sym (here ∙ same))
      ];
}

pub plain_ports : (role : Role) (outputs : ℕ) → is_output_role role ≡ false → ports_of_role role outputs ≡ outputs
plain_ports (Role.RootOutput number) outputs is = absurd (false≢true (sym is))
plain_ports _ outputs is = refl

-- a port of a block that is no root output has a width
pub width_there : (diagram : Diagram) (block port : ℕ) (b : Block) → IsChecked diagram
    → slice_get diagram.blocks block ≡ Some b → 1 ≤ port → port ≤ shown_ports b.kind b.outputs
    → is_output_role (row_of b.kind).place.role ≡ false
    → port - 1 < length (slice_index_or (widths_of diagram) block [])
width_there diagram block port b checked at from to plain =
    let wide = (widths_at diagram checked block b at).0 in
    let many = plain_ports (row_of b.kind).place.role b.outputs plain in
    omega (arith, wide, many, from, to)

pub own_other : (input : Bool) (count : ℕ) → input ≡ false → (cond input 0 count) ≡ count
own_other true count is = absurd (false≢true (sym is))
own_other false count is = refl

pub own_input : (input : Bool) (count : ℕ) → input ≡ true → (cond input 0 count) ≡ 0
own_input true count is = refl
own_input false count is = absurd (false≢true is)

-- ---- of all blocks

front_list : (lists : List (List ℕ)) (list : List ℕ) (place : ℕ) → place < length lists → slice_index_or (lists ++ list ∷ []) place [] ≡ slice_index_or lists place []
front_list lists list place below =
    get_or_from_slice_get (lists ++ list ∷ []) place (slice_index_or lists place []) [] (get_front lists (list ∷ []) place below ∙ slice_get-get_or lists place [] below)

last_list : (lists : List (List ℕ)) (list : List ℕ) → slice_index_or (lists ++ list ∷ []) (length lists) [] ≡ list
last_list lists list = get_or_from_slice_get (lists ++ list ∷ []) (length lists) list [] (last_at lists list)

pub blocks_none : (diagram : Diagram) (now : Circuit) (columns : List ℕ) (firsts : List (List ℕ)) → firsts ≡ [] → length now.nets ≡ hub_start diagram 0 → AddsBlocks diagram now now columns firsts 0
blocks_none diagram now columns firsts none size = record {
  count = ap (λ (xs : List (List ℕ)). length xs) none;
  extends = extends-self now;
  size = size;
  fresh = λ block b k below at low high. absurd (omega (arith, below));
  are = λ block b below at. absurd (omega (arith, below));
}

pub blocks_more : (diagram : Diagram) (earlier now later : Circuit) (columns : List ℕ) (firsts : List (List ℕ))
    (place : ℕ) (one : Block) (mine : List ℕ) → AddsBlocks diagram earlier now columns firsts place
    → slice_get diagram.blocks place ≡ Some one
    → AddsBlock diagram now later (slice_index_or columns place 0) place one mine → AddsBlocks diagram earlier later columns (firsts ++ mine ∷ []) (place + 1)
blocks_more diagram earlier now later columns firsts place one mine is one_at more = record {
  count = length-append firsts (mine ∷ []) ∙ omega (arith, is.count);
  extends = extends-trans earlier now later is.extends more.adds.extends;
  size = more_size ∙ ap (hub_start diagram) (sym (add-one place));
  fresh = λ block b k below at low high.
      elim (cases_lt block place) [
        | inl less ↦ fresh_stays now later k ((attributes_of diagram).type_at block 1) more.adds.extends (is.fresh block b k less at low high)
        | inr past ↦
            let same : block ≡ place = omega (arith, past, below) in
            let size = is.size in
            let start : hub_start diagram block ≡ hub_start diagram place = ap (hub_start diagram) same in
            let next : hub_start diagram (suc block) ≡ hub_start diagram (suc place) = ap (λ (x : ℕ). hub_start diagram (suc x)) same in
            subst (λ (x : ℕ). IsFresh later k ((attributes_of diagram).type_at x 1)) (sym same) (more.adds.each k (omega (arith, size, start, low)) (omega (arith, more_size, next, high)))
      ];
  are = λ block b below at.
      elim (cases_lt block place) [
        | inl less ↦
            subst (λ (xs : List ℕ). AreFirsts diagram (hub_start diagram block)
            (slice_index_or columns block 0) block b xs)
            (sym (front_list firsts mine block (omega (arith, less, is.count)))) (is.are block b less at)
        | inr past ↦ last block b (omega (arith, past, below)) at
      ];
}
  where
    own : own_hubs diagram place ≡ own_count diagram place (Some one)
    own = ap (own_count diagram place) one_at

    more_size : length later.nets ≡ hub_start diagram (suc place)
    more_size = let size = is.size in let grown = more.adds.size in omega (arith, size, grown, own)

    here : AreFirsts diagram (hub_start diagram place) (slice_index_or columns place 0) place one (slice_index_or (firsts ++ mine ∷ []) place [])
    here =
        subst (λ (xs : List ℕ). AreFirsts diagram (hub_start diagram place)
        (slice_index_or columns place 0) place one xs)
        (sym (ap (λ (x : ℕ). slice_index_or (firsts ++ mine ∷ []) x []) (sym is.count)
        ∙ last_list firsts mine))
        (subst (λ (n : ℕ). AreFirsts diagram n (slice_index_or columns place 0) place one mine) is.size more.are)

    last : (block : ℕ) (b : Block) → block ≡ place → slice_get diagram.blocks block ≡ Some b
        → AreFirsts diagram (hub_start diagram block) (slice_index_or columns block 0) block b
        (slice_index_or (firsts ++ mine ∷ []) block [])
    last block b same at =
        let b_is : one ≡ b = same_Some one b (sym one_at ∙ ap (slice_get diagram.blocks) (sym same) ∙ at) in
        subst (λ (x : ℕ). AreFirsts diagram (hub_start diagram x) (slice_index_or columns x 0) x b (slice_index_or (firsts ++ mine ∷ []) x [])) (sym same)
        (subst (λ (x : Block). AreFirsts diagram (hub_start diagram place) (slice_index_or columns place 0) place x (slice_index_or (firsts ++ mine ∷ []) place [])) b_is here)

-- ---- of the root inputs

pub inputs_begun : (diagram : Diagram) (net : Circuit) (inputs : List ℕ) → length net.nets ≡ 0 → AddsInputs diagram net net inputs 0
inputs_begun diagram net inputs none = record { extends = extends-self net; size = none; each = λ k block below at. absurd (omega (arith, below)) }

pub inputs_more : (diagram : Diagram) (earlier now later : Circuit) (inputs : List ℕ) (count column : ℕ)
    → AddsInputs diagram earlier now inputs count → slice_get inputs count ≡ Some column
    → later ≡ with_net now (input_net ((attributes_of diagram).type_at column 1) count)
    → AddsInputs diagram earlier later inputs (count + 1)
inputs_more diagram earlier now later inputs count column is at grown = record {
  extends = extends-trans earlier now later is.extends more;
  size = omega (arith, one-longer now later new grown, is.size);
  each = λ k block below block_at.
      elim (cases_lt k count) [
        | inl less ↦ still-there now later k (input_net ((attributes_of diagram).type_at block 1) k) more (is.each k block less block_at)
        | inr past ↦
            let same : k ≡ count = omega (arith, past, below) in
            let size = is.size in
            let there : count ≡ length now.nets = sym size in
            let block_is : column ≡ block = same_Some column block (sym at ∙ ap (slice_get inputs) (sym same) ∙ block_at) in
            ap (slice_get later.nets) (same ∙ there) ∙ ap (λ (x : Circuit). slice_get x.nets (length now.nets)) grown ∙ last_at now.nets new
            ∙ ap (λ (x : ℕ). Some (input_net ((attributes_of diagram).type_at x 1) count)) block_is ∙ ap (λ (x : ℕ). Some (input_net ((attributes_of diagram).type_at block 1) x)) (sym same)
      ];
}
  where
    new : Net
    new = input_net ((attributes_of diagram).type_at column 1) count

    more : Extends now later
    more = extends-one now later new grown
