-- The labels of one more element.
use Rattle.std.proofs.Common.{◌≡◌, ℕ, zero, suc, ◌+◌, ◌^◌, ◌<◌, ◌≤◌, ◌⊎◌, ◌++◌, inl, inr, List, [], ◌∷◌, Contains, Option, Some, None, ap, sym, ◌∙◌, subst, refl, append_assoc, append-nil, get_or}
use Rattle.std.proofs.Common.{arith}
use Rattle.std.specs.Prelude.{◌≢◌, AllPairs}
use Rattle.std.proofs.lemmas.List.Quantifiers.{all_pairs_push}
use Rattle.std.proofs.lemmas.List.Elements.{Contains-push_cases, Contains-get_or}
use Rattle.hw_net.specs.declared.netlist.NetLabel.{NetLabel}
use Rattle.hw_build.specs.Multiplied.{multiplication_name}
use Rattle.hw_build.specs.Pipelined.{stage_name}
use Rattle.hw_build.specs.inner.HubPlaces.{hub_at}
use Rattle.hw_build.specs.inner.PipelineNets.{stage_labels}
use Rattle.hw_build.specs.inner.Tally.{name_by, IsNameOf, AreLabelled, product_labels}
use Rattle.hw_build.proofs.NameForms.{stage_injective, multiplication_injective, labels_apart}

-- names differ by block, element and number
name_injective : (block element tag other member step : ℕ) → block < 2 ^ 64 → element < 2 ^ 64 → tag < 2 ^ 64
    → other < 2 ^ 64 → member < 2 ^ 64 → step < 2 ^ 64 → name_by block element tag ≡ name_by other member step
    → (block ≡ other) × (element ≡ member) × (tag ≡ step)
name_injective block element zero other member zero b e t o m s same = let h = multiplication_injective block element other member b e o m same in (h.0, h.1, refl)
name_injective block element zero other member (suc step) b e t o m s same = absurd (labels_apart _ _ same)
name_injective block element (suc tag) other member zero b e t o m s same = absurd (labels_apart _ _ (sym same))
name_injective block element (suc tag) other member (suc step) b e t o m s same = stage_injective block element (suc tag) other member (suc step) b e t o m s same

module _ (firsts : List (List ℕ)) (closed base block element begin : ℕ) (here : hub_at firsts block 1 element ≡ closed) (small_block : block < 2 ^ 64) (small_element : element < 2 ^ 64) where
  -- while an element's are put in: some of elements before, and so many of its registers
  pub record ArePushed (labels : List NetLabel) (count : ℕ) : Type 0 where
    pub nets : (label : NetLabel) → Contains labels label → (label.net < base) ⊎ ((begin < label.net) × (label.net ≤ begin + count))
    pub named : (label : NetLabel) → Contains labels label → IsNameOf firsts closed label.name ⊎ ((tag : ℕ) × (0 < tag) × (tag ≤ count) × (label.name ≡ name_by block element tag))
    pub nets_differ : AllPairs (λ one other. one.net ≢ other.net) labels
    pub names_differ : AllPairs (λ one other. one.name ≢ other.name) labels

  -- a name of this element is none of those before
  apart : (count tag : ℕ) (labels : List NetLabel) → ArePushed labels count → count ≤ 64 → tag < 2 ^ 64
      → (tag ≡ 0) ⊎ (count < tag) → (label : NetLabel) → Contains labels label
      → label.name ≢ name_by block element tag
  apart count tag labels are few small other label contained same = elim (are.named label contained) [
    | inl was ↦
        (let e = name_injective was.block was.element was.tag block element tag was.small_block was.small_element was.small_tag small_block small_element small (sym was.is ∙ same) in
        let hub : hub_at firsts was.block 1 was.element ≡ hub_at firsts block 1 element = ap (λ (x : ℕ). hub_at firsts x 1 was.element) e.0 ∙ ap (hub_at firsts block 1) e.1 in
        let early = was.early in
        absurd (omega (arith, hub, early, here)))
    | inr own ↦
        (let low = own.1 in
        let high = own.2 in
        let e = name_injective block element own.0 block element tag small_block small_element (omega (arith, high, few)) small_block small_element small (sym own.3 ∙ same) in
        let t = e.2 in
        elim other [ inl none ↦ absurd (omega (arith, t, none, low)) | inr above ↦ absurd (omega (arith, t, above, high)) ])
  ]

  pub push_stage : (count : ℕ) (labels : List NetLabel) → base ≤ begin → suc count ≤ 64 → ArePushed labels count
      → ArePushed (labels ++ record { net = begin + suc count; name = stage_name block element (suc count) } ∷ [])
      (suc count)
  push_stage count labels past few are = record {
    nets = λ label contained. elim (Contains-push_cases labels (record { net = begin + suc count; name = stage_name block element (suc count) }) label contained) [
      | inl was ↦ elim (are.nets label was) [
        | inl low ↦ inl low
        | inr own ↦ (let low = own.0 in let high = own.1 in inr (low, omega (arith, high)))
      ]
      | inr own ↦ (let e : label.net ≡ begin + suc count = ap (λ (l : NetLabel). l.net) (sym own) in inr (omega (arith, e), omega (arith, e)))
    ];
    named = λ label contained. elim (Contains-push_cases labels (record { net = begin + suc count; name = stage_name block element (suc count) }) label contained) [
      | inl was ↦ elim (are.named label was) [
        | inl old ↦ inl old
        | inr own ↦ (let high = own.2 in inr (own.0, own.1, omega (arith, high), own.3))
      ]
      | inr own ↦ inr (suc count, omega arith, omega arith, ap (λ (l : NetLabel). l.name) (sym own))
    ];
    nets_differ = all_pairs_push (λ one other. one.net ≢ other.net) labels (record { net = begin + suc count; name = stage_name block element (suc count) }) are.nets_differ
        (λ k d within e. elim (are.nets (get_or labels k d) (Contains-get_or labels k d within)) [
          | inl low ↦ absurd (omega (arith, low, past, e))
          | inr own ↦ (let high = own.1 in absurd (omega (arith, high, e)))
        ]);
    names_differ = all_pairs_push (λ one other. one.name ≢ other.name) labels (record { net = begin + suc count; name = stage_name block element (suc count) }) are.names_differ
        (λ k d within e. apart count (suc count) labels are (omega (arith, few)) (omega (arith, few)) (inr (omega arith)) (get_or labels k d) (Contains-get_or labels k d within) e);
  }

  push_stages : (count : ℕ) (labels : List NetLabel) → (0 < count → base ≤ begin) → count ≤ 64 → ArePushed labels 0 → ArePushed (labels ++ stage_labels begin block element count) count
  push_stages zero labels past few are = subst (λ (all : List NetLabel). ArePushed all 0) (sym (append-nil labels)) are
  push_stages (suc count) labels past few are =
      let rest = push_stages count labels (λ any. past (omega arith)) (omega (arith, few)) are in
      subst (λ (all : List NetLabel). ArePushed all (suc count))
      (append_assoc labels (stage_labels begin block element count)
      (record { net = begin + suc count; name = stage_name block element (suc count) } ∷ []))
      (push_stage count (labels ++ stage_labels begin block element count) (past (omega arith)) few rest)

  begin_labels : (labels : List NetLabel) → AreLabelled firsts labels base closed → ArePushed labels 0
  begin_labels labels are = record {
    nets = λ label contained. inl (are.low label contained);
    named =
        λ label contained. inl (are.named label contained);
    nets_differ =
        are.nets_differ;
    names_differ = are.names_differ;
  }

  wider : (name : List ℕ) → IsNameOf firsts closed name → IsNameOf firsts (suc closed) name
  wider name is = let early = is.early in
      record {
        block = is.block;
        element = is.element;
        tag = is.tag;
        small_block = is.small_block;
        small_element =
            is.small_element;
        small_tag = is.small_tag;
        is = is.is;
        early = omega (arith, early);
      }

  own_name : (tag : ℕ) (name : List ℕ) → tag < 2 ^ 64 → name ≡ name_by block element tag → IsNameOf firsts (suc closed) name
  own_name tag name small is = record {
    block = block;
    element = element;
    tag = tag;
    small_block =
        small_block;
    small_element = small_element;
    small_tag =
        small;
    is = is;
    early = let e = here in omega (arith, e);
  }

  named_all : (count : ℕ) (labels : List NetLabel) → count ≤ 64 → ArePushed labels count → (label : NetLabel) → Contains labels label → IsNameOf firsts (suc closed) label.name
  named_all count labels few are label contained = elim (are.named label contained) [
    | inl was ↦ wider label.name was
    | inr own ↦ (let high = own.2 in own_name own.0 label.name (omega (arith, high, few)) own.3)
  ]

  low_all : (count size : ℕ) (labels : List NetLabel) → base ≤ size → (0 < count → begin + count < size) → ArePushed labels count → (label : NetLabel) → Contains labels label → label.net < size
  low_all count size labels more inside are label contained = elim (are.nets label contained) [
    | inl low ↦ omega (arith, low, more)
    | inr own ↦ (let low = own.0 in let high = own.1 in let most = inside (omega (arith, low, high)) in omega (arith, high, most))
  ]

  end_labels : (count size : ℕ) (labels : List NetLabel) (multiply : Option ℕ) → count ≤ 64 → base ≤ size
      → (0 < count → begin + count < size)
      → ((k : ℕ) → multiply ≡ Some k → (base ≤ k) × (k < size) × (0 < count → k ≤ begin))
      → ArePushed labels count
      → AreLabelled firsts (labels ++ product_labels block element multiply) size (suc closed)
  end_labels count size labels None few more inside new are =
      subst (λ (all : List NetLabel). AreLabelled firsts all size (suc closed)) (sym (append-nil labels))
      (record { low = low_all count size labels more inside are; named = named_all count labels few are; nets_differ = are.nets_differ; names_differ = are.names_differ })
  end_labels count size labels (Some k) few more inside new are =
      let is = new k refl in
      let from = is.0 in
      let below = is.1 in
      record {
        low = λ label contained. elim (Contains-push_cases labels (record { net = k; name = multiplication_name block element }) label contained) [
          | inl was ↦ low_all count size labels more inside are label was
          | inr own ↦ (let e : label.net ≡ k = ap (λ (l : NetLabel). l.net) (sym own) in omega (arith, e, below))
        ];
        named = λ label contained. elim (Contains-push_cases labels (record { net = k; name = multiplication_name block element }) label contained) [
          | inl was ↦ named_all count labels few are label was
          | inr own ↦ own_name 0 label.name (omega arith) (ap (λ (l : NetLabel). l.name) (sym own))
        ];
        nets_differ = all_pairs_push (λ one other. one.net ≢ other.net) labels (record { net = k; name = multiplication_name block element }) are.nets_differ
            (λ i d within e. elim (are.nets (get_or labels i d) (Contains-get_or labels i d within)) [
              | inl low ↦ absurd (omega (arith, low, from, e))
              | inr own ↦ (let low = own.0 in let high = own.1 in let h = is.2 (omega (arith, low, high)) in absurd (omega (arith, low, h, e)))
            ]);
        names_differ = all_pairs_push (λ one other. one.name ≢ other.name) labels (record { net = k; name = multiplication_name block element }) are.names_differ
            (λ i d within e. apart count 0 labels are few (omega arith) (inl refl) (get_or labels i d) (Contains-get_or labels i d within) e);
      }

  -- an element's labels: of its registers, and of its multiplication
  pub labelled_next : (count size : ℕ) (labels : List NetLabel) (multiply : Option ℕ)
      → AreLabelled firsts labels base closed → (0 < count → base ≤ begin) → count ≤ 64 → base ≤ size
      → (0 < count → begin + count < size)
      → ((k : ℕ) → multiply ≡ Some k → (base ≤ k) × (k < size) × (0 < count → k ≤ begin))
      → AreLabelled firsts ((labels ++ stage_labels begin block element count) ++ product_labels block element multiply) size (suc closed)
  labelled_next count size labels multiply are past few more inside new =
      end_labels count size (labels ++ stage_labels begin block element count) multiply few more inside new
      (push_stages count labels past few (begin_labels labels are))

-- an element that has none
pub labelled_wider : (firsts : List (List ℕ)) (labels : List NetLabel) (base size closed : ℕ) → base ≤ size → AreLabelled firsts labels base closed → AreLabelled firsts labels size (suc closed)
labelled_wider firsts labels base size closed more are = record {
  low = λ label contained. let h = are.low label contained in omega (arith, h, more);
  named = λ label contained.
      let is = are.named label contained in
      let early = is.early in
      record {
        block = is.block;
        element = is.element;
        tag = is.tag;
        small_block = is.small_block;
        small_element =
            is.small_element;
        small_tag = is.small_tag;
        is = is.is;
        early = omega (arith, early);
      };
  nets_differ = are.nets_differ;
  names_differ = are.names_differ;
}
