-- Labels for different marks are such as emission asks for.
use Rattle.std.proofs.Common.{◌≡◌, ◌≢◌, ℕ, zero, suc, ◌+◌, ◌^◌, ◌<◌, ◌≤◌, inl, inr, List, [], ◌∷◌, ◌++◌, length, map, Contains, Option, None, Some, ap, sym, ◌∙◌, subst, refl, arith, append_assoc}
use Rattle.std.specs.Prelude.{slice_get, slice_index_or, get_or}
use Rattle.std.proofs.lemmas.List.{length-map, append-nil}
use Rattle.std.proofs.lemmas.Option.{none-some, slice_get_within, slice_get-get_or}
use Rattle.hw_net.specs.declared.netlist.NetLabel.{NetLabel}
use Rattle.math_list.proofs.Places.{split-last, map_there, there_map}
use Rattle.hw_net.specs.Emittable.{IsLabelName, AreLabels}
use Rattle.hw_build.specs.Multiplied.{multiplication_name}
use Rattle.hw_build.specs.Pipelined.{stage_name}
use Rattle.hw_build.specs.inner.NetNames.{Mark, mark_name, IsSmallMark}
use Rattle.hw_build.specs.inner.MarkNames.{IsMarkOf, AreApart}
use Rattle.hw_build.specs.inner.PipelineNets.{stage_labels}
use Rattle.hw_build.specs.inner.Tally.{product_labels}
use Rattle.hw_build.proofs.MarkNames.{name_labelled, name_injective, mark_same}
use Rattle.hw_build.proofs.PortSteps.{map_more}

pub apart_none : (hub_of : Mark → ℕ) (count hub begin stages : ℕ) → AreApart hub_of [] count hub begin stages
apart_none hub_of count hub begin stages = record {
  marks = [];
  named = refl;
  small = λ k mark at. absurd (none-some mark at);
  each = λ k mark label at there. absurd (none-some mark at);
  differ = λ i j one other less at there. absurd (none-some one at);
  nets_differ = λ i j one other less at there. absurd (none-some one at);
}

-- one more, whose mark and net are none that are there
with_one : (hub_of : Mark → ℕ) (labels : List NetLabel) (count hub begin stages more later first next : ℕ) (mark : Mark) (label : NetLabel) → AreApart hub_of labels count hub begin stages
    → ((one : Mark) (other : NetLabel) → IsMarkOf hub_of count hub begin stages one other
    → IsMarkOf hub_of more later first next one other) → IsMarkOf hub_of more later first next mark label
    → IsSmallMark mark → label.name ≡ mark_name mark
    → ((one : Mark) (other : NetLabel) → IsMarkOf hub_of count hub begin stages one other → (one ≢ mark) × (other.net ≢ label.net)) → AreApart hub_of (labels ++ label ∷ []) more later first next
with_one hub_of labels count hub begin stages more later first next mark label are keeps own small name apart = record {
  marks = are.marks ++ mark ∷ [];
  named = map_more (λ (l : NetLabel). l.name) labels label
      ∙ ap (λ (names : List (List ℕ)). names ++ label.name ∷ []) are.named
      ∙ ap (λ (n : List ℕ). map mark_name are.marks ++ n ∷ []) name ∙ sym (map_more mark_name are.marks mark);
  small = λ k one at. elim (split-last are.marks mark one k at) [
    | inl front ↦ are.small k one front.1
    | inr last ↦ subst IsSmallMark last.1 small
  ];
  each = λ k one other at there. elim (split-last are.marks mark one k at) [
    | inl front ↦ elim (split-last labels label other k there) [
      | inl also ↦ keeps one other (are.each k one other front.1 also.1)
      | inr last ↦ let a = front.0 in let b = last.0 in let c = same_length in absurd (omega (arith, a, b, c))
    ]
    | inr last ↦ elim (split-last labels label other k there) [
      | inl front ↦ let a = front.0 in let b = last.0 in let c = same_length in absurd (omega (arith, a, b, c))
      | inr also ↦ subst (λ (m : Mark). IsMarkOf hub_of more later first next m other) last.1 (subst (IsMarkOf hub_of more later first next mark) also.1 own)
    ]
  ];
  differ = λ i j one other less at there. elim (split-last are.marks mark other j there) [
    | inl back ↦ elim (split-last are.marks mark one i at) [
      | inl front ↦ are.differ i j one other less front.1 back.1
      | inr last ↦ let a = last.0 in let b = back.0 in absurd (omega (arith, a, b, less))
    ]
    | inr end ↦ elim (split-last are.marks mark one i at) [
      | inl front ↦ let l = label_at i one front.1 in subst (λ (m : Mark). one ≢ m) end.1 (apart one l.0 (are.each i one l.0 front.1 l.1)).0
      | inr last ↦ let a = last.0 in let b = end.0 in absurd (omega (arith, a, b, less))
    ]
  ];
  nets_differ = λ i j one other less at there. elim (split-last labels label other j there) [
    | inl back ↦ elim (split-last labels label one i at) [
      | inl front ↦ are.nets_differ i j one other less front.1 back.1
      | inr last ↦ let a = last.0 in let b = back.0 in absurd (omega (arith, a, b, less))
    ]
    | inr end ↦ elim (split-last labels label one i at) [
      | inl front ↦ let m = mark_at i one front.1 in subst (λ (l : NetLabel). one.net ≢ l.net) end.1 (apart m.0 one (are.each i m.0 one m.1 front.1)).1
      | inr last ↦ let a = last.0 in let b = end.0 in absurd (omega (arith, a, b, less))
    ]
  ];
}
  where
    same_length : length are.marks ≡ length labels
    same_length = sym (length-map are.marks mark_name) ∙ ap (λ (names : List (List ℕ)). length names) (sym are.named) ∙ length-map labels (λ (l : NetLabel). l.name)

    no_label : NetLabel
    no_label = record { net = 0; name = [] }

    no_mark : Mark
    no_mark = record { block = 0; element = 0; stage = 0 }

    label_at : (k : ℕ) (one : Mark) → slice_get are.marks k ≡ Some one → (l : NetLabel) × (slice_get labels k ≡ Some l)
    label_at k one at = let low = slice_get_within are.marks k one at in let e = same_length in (get_or labels k no_label, slice_get-get_or labels k no_label (omega (arith, low, e)))

    mark_at : (k : ℕ) (one : NetLabel) → slice_get labels k ≡ Some one → (m : Mark) × (slice_get are.marks k ≡ Some m)
    mark_at k one at = let low = slice_get_within labels k one at in let e = same_length in (get_or are.marks k no_mark, slice_get-get_or are.marks k no_mark (omega (arith, low, e)))

-- the next stage of a pipeline
apart_stage : (hub_of : Mark → ℕ) (labels : List NetLabel) (count hub begin stages block element : ℕ)
    → AreApart hub_of labels count hub begin stages
    → hub_of (record { block = block; element = element; stage = suc stages }) ≡ hub
    → IsSmallMark (record { block = block; element = element; stage = suc stages }) → count ≤ begin + 1
    → AreApart hub_of (labels ++ record { net = begin + suc stages; name = stage_name block element (suc stages) } ∷ []) count hub begin (suc stages)
apart_stage hub_of labels count hub begin stages block element are here small up =
    with_one hub_of labels count hub begin stages count hub begin (suc stages)
    (record { block = block; element = element; stage = suc stages })
    (record { net = begin + suc stages; name = stage_name block element (suc stages) }) are
    (λ one other is. elim is [
      | inl early ↦ inl early
      | inr own ↦ let most = own.2 in inr (own.0, own.1, omega (arith, most), own.3)
    ])
    (inr (here, omega arith, omega arith, refl)) small refl
    (λ one other is. elim is [
      | inl early ↦ (
        λ same. let a = early.0 in let e : hub_of one ≡ hub_of (record { block = block; element = element; stage = suc stages }) = ap hub_of same in omega (arith, a, e, here),
        λ same. let b = early.1 in omega (arith, b, same, up),
      )
      | inr own ↦ (
        λ same. let most = own.2 in let e : one.stage ≡ suc stages = ap (λ (m : Mark). m.stage) same in omega (arith, most, e),
        λ same. let most = own.2 in let net = own.3 in omega (arith, most, net, same),
      )
    ])

pub apart_stages : (hub_of : Mark → ℕ) (labels : List NetLabel) (count hub begin block element : ℕ)
    → AreApart hub_of labels count hub 0 0 → count ≤ begin + 1 → block < 2 ^ 64 → element < 2 ^ 64 → (stages : ℕ)
    → stages < 2 ^ 64
    → ((stage : ℕ) → stage ≤ stages → 1 ≤ stage
    → hub_of (record { block = block; element = element; stage = stage }) ≡ hub)
    → AreApart hub_of (labels ++ stage_labels begin block element stages) count hub begin stages
apart_stages hub_of labels count hub begin block element are up low mid zero high here = record {
  marks = are.marks;
  named = ap (map (λ (l : NetLabel). l.name)) (append-nil labels) ∙ are.named;
  small = are.small;
  each = λ k mark label at there. elim (are.each k mark label at (sym (ap (λ (ls : List NetLabel). slice_get ls k) (append-nil labels)) ∙ there)) [
    | inl early ↦ inl early
    | inr own ↦ let a = own.1 in let b = own.2 in absurd (omega (arith, a, b))
  ];
  differ = are.differ;
  nets_differ = λ i j one other less at there. are.nets_differ i j one other less
      (sym (ap (λ (ls : List NetLabel). slice_get ls i) (append-nil labels)) ∙ at)
      (sym (ap (λ (ls : List NetLabel). slice_get ls j) (append-nil labels)) ∙ there);
}
apart_stages hub_of labels count hub begin block element are up low mid (suc stages) high here =
    let rest = apart_stages hub_of labels count hub begin block element are up low mid stages (omega (arith, high)) (λ stage most some. here stage (omega (arith, most)) some) in
    let next = apart_stage hub_of (labels ++ stage_labels begin block element stages) count hub begin stages block element rest (here (suc stages) (omega arith) (omega arith)) (low, mid, high) up in
    subst (λ (ls : List NetLabel). AreApart hub_of ls count hub begin (suc stages))
    (append_assoc labels (stage_labels begin block element stages)
    (record { net = begin + suc stages; name = stage_name block element (suc stages) } ∷ [])) next

-- and then the multiplication, if there is one: the element is done
pub apart_product : (hub_of : Mark → ℕ) (labels : List NetLabel) (count hub begin stages total block element : ℕ)
    → AreApart hub_of labels count hub begin stages → count ≤ total → begin + stages < total → block < 2 ^ 64
    → element < 2 ^ 64 → (multiply : Option ℕ)
    → ((m : ℕ) → multiply ≡ Some m → (count ≤ m) × (m ≤ begin)
    × (hub_of (record { block = block; element = element; stage = 0 }) ≡ hub))
    → AreApart hub_of (labels ++ product_labels block element multiply) total (suc hub) 0 0
apart_product hub_of labels count hub begin stages total block element are up inside low mid None own = record {
  marks = are.marks;
  named = ap (map (λ (l : NetLabel). l.name)) (append-nil labels) ∙ are.named;
  small = are.small;
  each = λ k mark label at there. elim (are.each k mark label at (sym (ap (λ (ls : List NetLabel). slice_get ls k) (append-nil labels)) ∙ there)) [
    | inl early ↦ let a = early.0 in let b = early.1 in inl (omega (arith, a), omega (arith, b, up))
    | inr here ↦ let a = here.0 in let b = here.2 in let e = here.3 in inl (omega (arith, a), omega (arith, b, e, inside))
  ];
  differ = are.differ;
  nets_differ = λ i j one other less at there. are.nets_differ i j one other less
      (sym (ap (λ (ls : List NetLabel). slice_get ls i) (append-nil labels)) ∙ at)
      (sym (ap (λ (ls : List NetLabel). slice_get ls j) (append-nil labels)) ∙ there);
}
apart_product hub_of labels count hub begin stages total block element are up inside low mid (Some m) own =
    let is = own m refl in
    let from = is.0 in
    let to = is.1 in
    let here = is.2 in
    with_one hub_of labels count hub begin stages total (suc hub) 0 0 (record { block = block; element = element; stage = 0 }) (record { net = m; name = multiplication_name block element }) are
    (λ one other mark. elim mark [
      | inl early ↦ let a = early.0 in let b = early.1 in inl (omega (arith, a), omega (arith, b, up))
      | inr at ↦ let a = at.0 in let b = at.2 in let e = at.3 in inl (omega (arith, a), omega (arith, b, e, inside))
    ])
    (inl (omega (arith, here), omega (arith, to, inside))) (low, mid, omega arith) refl
    (λ one other mark. elim mark [
      | inl early ↦ (
        λ same. let a = early.0 in let e : hub_of one ≡ hub_of (record { block = block; element = element; stage = 0 }) = ap hub_of same in omega (arith, a, e, here),
        λ same. let b = early.1 in omega (arith, b, same, from),
      )
      | inr at ↦ (
        λ same. let some = at.1 in let e : one.stage ≡ 0 = ap (λ (k : Mark). k.stage) same in omega (arith, some, e),
        λ same. let some = at.1 in let net = at.3 in omega (arith, some, net, same, to),
      )
    ])

-- ---- all of them

pub apart_are : (hub_of : Mark → ℕ) (labels : List NetLabel) (count nets hub : ℕ) → AreApart hub_of labels count hub 0 0 → count ≤ nets → AreLabels nets labels
apart_are hub_of labels count nets hub are up = record {
  there = λ label has.
      let mark = mark_at has.0 label (place label has) in
      elim (are.each has.0 mark.0 label mark.1 (place label has)) [
        | inl early ↦ let low = early.1 in omega (arith, low, up)
        | inr own ↦ let a = own.1 in let b = own.2 in absurd (omega (arith, a, b))
      ];
  names = λ label has.
      let mark = mark_at has.0 label (place label has) in
      let small = are.small has.0 mark.0 mark.1 in
      subst IsLabelName mark.2 (name_labelled mark.0.block mark.0.element mark.0.stage small.0 small.1 small.2);
  nets_differ = λ i j d less low. are.nets_differ i j (slice_index_or labels i d) (slice_index_or labels j d) less (at i d (omega (arith, less, low))) (at j d low);
  names_differ = λ i j d less low.
      let one = mark_at i (slice_index_or labels i d) (at i d (omega (arith, less, low))) in
      let other = mark_at j (slice_index_or labels j d) (at j d low) in
      let a = are.small i one.0 one.1 in
      let b = are.small j other.0 other.1 in
      λ same. are.differ i j one.0 other.0 less one.1 other.1
      (mark_same one.0 other.0 (name_injective one.0.block one.0.element one.0.stage other.0.block other.0.element other.0.stage a.0 a.1 a.2 b.0 b.1 b.2 (one.2 ∙ same ∙ sym other.2)));
}
  where
    at : (k : ℕ) (d : NetLabel) → k < length labels → slice_get labels k ≡ Some (slice_index_or labels k d)
    at k d low = slice_get-get_or labels k d low

    place : (label : NetLabel) (has : Contains labels label) → slice_get labels has.0 ≡ Some label
    place label has = at has.0 label has.1 ∙ ap (λ (l : NetLabel). Some l) has.2

    mark_at : (k : ℕ) (label : NetLabel) → slice_get labels k ≡ Some label → (mark : Mark) × (slice_get are.marks k ≡ Some mark) × (mark_name mark ≡ label.name)
    mark_at k label is = map_there mark_name are.marks k label.name (ap (λ (names : List (List ℕ)). slice_get names k) (sym are.named) ∙ there_map (λ (l : NetLabel). l.name) labels k label is)
