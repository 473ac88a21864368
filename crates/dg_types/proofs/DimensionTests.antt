-- The tests of the rule of dimensions decide it.
use Rattle.std.proofs.Common.{◌≡◌, ℕ, zero, suc, ◌<◌, ◌≤◌, Bool, true, false, List, [], ◌∷◌, length, All, get_or, refl, inl, inr, arith}
use Rattle.std.specs.Prelude.{◌⊎◌, ◌==◌, ◌||◌, ◌&&◌, nat_le, sum, bytes_eq, MatchBool, ⊤}
use Rattle.std.specs.List.{list_all}
use Rattle.std.specs.Bool.{Decides}
use Rattle.std.proofs.lemmas.Bool.Decides.{Decides-eqb, Decides-and, Decides-or, Decides-like, Decides-by_and, nat_tests}
use Rattle.std.proofs.lemmas.Slice.Eq.{bytes_eq-Decides}
use Rattle.fx_type.specs.declared.decimal.Decimal.{Decimal}
use Rattle.dg_model.specs.declared.diagram.Diagram.{Diagram}
use Rattle.dg_model.specs.declared.diagram.Block.{Block}
use Rattle.dg_model.specs.KindRow.{Shape}
use Rattle.dg_model.specs.Library.{row_of}
use Rattle.dg_model.specs.Dimension.{IsRepeated, Agrees, KeepsDimension}
use Rattle.dg_model.specs.Widths.{Widths, width_at, input_widths, next_widths, widths_of, are_open}
use Rattle.dg_types.specs.declared.scanning.Scan.{Scan}
use Rattle.dg_types.specs.inner.WidthScan.{IsScan}
use Rattle.dg_types.specs.inner.Tests.{is_repeated, are_repeated, has_sizes, agrees, lists_fit, is_declared, are_small, is_within, fits, keeps}

repeated : (own width : ℕ) → Decides (is_repeated own width) (IsRepeated own width)
repeated own width = Decides-or (width == 1) (width == own) (Decides-eqb width 1) (Decides-eqb width own)

each_repeated : (own : ℕ) (widths : List ℕ) → Decides (are_repeated own widths) (All (IsRepeated own) widths)
each_repeated own widths = Decides-by_and (is_repeated own) (IsRepeated own) (list_all (is_repeated own)) (repeated own) refl (λ _ _. refl) widths

lists_decide : (own : ℕ) (lists : List (List Decimal)) → Decides (lists_fit own lists) (All (λ list. IsRepeated own (length list)) lists)
lists_decide own lists = Decides-by_and (λ list. is_repeated own (length list))
    (λ list. IsRepeated own (length list)) (list_all (λ list. is_repeated own (length list)))
    (λ list. repeated own (length list)) refl (λ _ _. refl) lists

is_small : (width : ℕ) → Decides (nat_le width 1024) (width ≤ 1024)
is_small width = (λ h. grind (arith, nat_tests), λ h. grind (arith, nat_tests))

all_small : (widths : List ℕ) → Decides (list_all (λ width. nat_le width 1024) widths) (All (λ width. width ≤ 1024) widths)
all_small widths = Decides-by_and (λ width. nat_le width 1024) (λ width. width ≤ 1024) (list_all (λ width. nat_le width 1024)) is_small refl (λ _ _. refl) widths

within_decides : (count : ℕ) (widths : List ℕ) → Decides (is_within count widths) ((1 ≤ count) → All (λ width. width ≤ 1024) widths)
within_decides count widths = Decides-like (is_within count widths) to (from count) (Decides-or (count == 0) (are_small widths) (Decides-eqb count 0) (all_small widths)) where
  to : (count ≡ 0) ⊎ All (λ width. width ≤ 1024) widths → (1 ≤ count) → All (λ width. width ≤ 1024) widths
  to (inl none) some = absurd (omega arith)
  to (inr small) some = small

  from : (n : ℕ) → ((1 ≤ n) → All (λ width. width ≤ 1024) widths) → (n ≡ 0) ⊎ All (λ width. width ≤ 1024) widths
  from zero small = inl refl
  from (suc n) small = inr (small (omega arith))

fixed : (is_open : Bool) (outputs sizes : List ℕ) → Decides (is_open || bytes_eq outputs sizes) (MatchBool is_open ⊤ (outputs ≡ sizes))
fixed true outputs sizes = (λ h. tt, λ h. refl)
fixed false outputs sizes = bytes_eq-Decides outputs sizes

agree_decides : (shape : Shape) (outputs inputs : List ℕ) → Decides (agrees shape outputs inputs) (Agrees shape outputs inputs)
agree_decides Shape.Elementwise outputs inputs = each_repeated (get_or outputs 0 0) inputs
agree_decides (Shape.Joined []) outputs inputs = (λ h. tt, λ h. refl)
agree_decides (Shape.Joined (size ∷ sizes)) outputs inputs =
    Decides-like (has_sizes (size ∷ sizes) inputs) to inr
    (Decides-or (length (size ∷ sizes) == 0) (bytes_eq inputs (size ∷ sizes))
    (Decides-eqb (length (size ∷ sizes)) 0) (bytes_eq-Decides inputs (size ∷ sizes))) where
      to : (length (size ∷ sizes) ≡ 0) ⊎ (inputs ≡ size ∷ sizes) → inputs ≡ size ∷ sizes
      to (inl none) = absurd (omega arith)
      to (inr same) = same
agree_decides (Shape.Parted sizes) outputs inputs =
    Decides-and (are_open sizes || bytes_eq outputs sizes) (get_or inputs 0 0 == sum outputs) (fixed (are_open sizes) outputs sizes) (Decides-eqb (get_or inputs 0 0) (sum outputs))
agree_decides Shape.Single outputs inputs = (λ h. tt, λ h. refl)

declared_decides : (declared own : ℕ) → Decides (is_declared declared own) ((declared ≡ 0) ⊎ (own ≡ declared))
declared_decides declared own = Decides-or (declared == 0) (own == declared) (Decides-eqb declared 0) (Decides-eqb own declared)

pub keeps_decides : (diagram : Diagram) (widths : Widths) (place : ℕ) (block : Block) →
    Decides (keeps block (get_or widths place []) (next_widths diagram widths place) (input_widths diagram widths place)) (KeepsDimension diagram widths place block)
keeps_decides diagram widths place block =
    let own = get_or widths place [] in
    let again = next_widths diagram widths place in
    let inputs = input_widths diagram widths place in
    let signal = (row_of block.kind).signal in
    let here = width_at widths place 1 in
    let lists = Decides-and (lists_fit here signal.lists) (is_declared signal.width here) (lists_decide here signal.lists) (declared_decides signal.width here) in
    let agreed = Decides-and (agrees signal.shape own inputs) (lists_fit here signal.lists && is_declared signal.width here) (agree_decides signal.shape own inputs) lists in
    let within = Decides-and (is_within block.outputs own) (fits block.kind own inputs) (within_decides block.outputs own) agreed in
    let all = Decides-and (bytes_eq again own) (is_within block.outputs own && fits block.kind own inputs) (bytes_eq-Decides again own) within in (
      λ h. let k = all.0 h in record { settled = k.0; within = k.1.0; agrees = k.1.1.0; lists = k.1.1.1.0; declared = k.1.1.1.1 },
      λ k. all.1 (k.settled, (k.within, (k.agrees, (k.lists, k.declared)))),
    )

-- a block that is looked at
pub looked_at_decides : (diagram : Diagram) (scan : Scan) (place : ℕ) (block : Block) → IsScan diagram scan → place < length diagram.blocks →
    Decides (keeps block (get_or scan.widths place []) (get_or scan.again place []) (get_or scan.inputs place [])) (KeepsDimension diagram (widths_of diagram) place block)
looked_at_decides diagram scan place block is there =
    rw (is.again place there, is.inputs place there, is.widths) (keeps_decides diagram (widths_of diagram) place block)
