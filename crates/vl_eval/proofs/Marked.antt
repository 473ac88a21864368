-- What marks an operation, and what goes along a chain of readers.
use Rattle.std.proofs.Common.{◌≡◌, ◌<◌, ◌≤◌, ◌+◌, ◌-◌, ◌/◌, inl, inr, ◌⊎◌, ⊎_elim, ℕ, true, false, length, set, slice_index_or, refl, sym, ap, subst, ◌∙◌, arith}
use Rattle.std.proofs.lemmas.Bool.{cases_eq, true≢false}
use Rattle.std.proofs.lemmas.Nat.{div-add-mod', mod_below}
use Rattle.std.proofs.lemmas.List.{get_or-set_other, get_or-set_same, length-set}
use Rattle.vl_eval.specs.declared.marks.Marks.{Marks}
use Rattle.vl_eval.specs.declared.readers.Link.{Link}
use Rattle.vl_eval.specs.declared.readers.Readers.{Readers}
use Rattle.vl_eval.specs.inner.Reading.{AreAdded, HaveMarks, IsChained, IsReader, IsUnmarked, link_at}
use Rattle.vl_eval.proofs.Chains.{begins}

in-blocks : (number count : ℕ) → number < count → number / 64 < count / 64 + 1
in-blocks number count low =
    let d = div-add-mod' number 64 in
    let m = mod_below number 64 (omega arith) in
    let d' = div-add-mod' count 64 in
    let m' = mod_below count 64 (omega arith) in
    omega (arith, d, m, d', m', low)

module _ (marks marks' : Marks) (number : ℕ) (have : HaveMarks (length marks.each.items) marks) (low : number < length marks.each.items)
    (each : marks'.each.items ≡ set marks.each.items number true) (blocks : marks'.blocks.items ≡ set marks.blocks.items (number / 64) true) where
  pub block-low : number / 64 < length marks.blocks.items
  block-low = let long = have.blocks in let le = in-blocks number (length marks.each.items) low in omega (arith, long, le)

  each-set : slice_index_or marks'.each.items number false ≡ true
  each-set = ap (λ es. slice_index_or es number false) each ∙ get_or-set_same marks.each.items number true false low

  block-set : slice_index_or marks'.blocks.items (number / 64) false ≡ true
  block-set = ap (λ bs. slice_index_or bs (number / 64) false) blocks ∙ get_or-set_same marks.blocks.items (number / 64) true false block-low

  pub mark-marked : IsUnmarked marks' number → ⊥
  mark-marked (inl clear) = true≢false (sym each-set ∙ clear)
  mark-marked (inr clear) = true≢false (sym block-set ∙ clear)

  still : (k : ℕ) → IsUnmarked marks' k → IsUnmarked marks k
  still k (inl clear) = ⊎_elim
      (λ (same : k ≡ number). absurd (true≢false (sym each-set ∙ ap (λ n. slice_index_or marks'.each.items n false) (sym same) ∙ clear)))
      (λ (other : k ≡ number → ⊥). inl (sym (get_or-set_other marks.each.items number k true false other) ∙ ap (λ es. slice_index_or es k false) (sym each) ∙ clear))
      (cases_eq k number)
  still k (inr clear) = ⊎_elim
      (λ (same : k / 64 ≡ number / 64). absurd (true≢false (sym block-set ∙ ap (λ n. slice_index_or marks'.blocks.items n false) (sym same) ∙ clear)))
      (λ (other : k / 64 ≡ number / 64 → ⊥). inr (sym (get_or-set_other marks.blocks.items (number / 64) (k / 64) true false other) ∙ ap (λ bs. slice_index_or bs (k / 64) false) (sym blocks) ∙ clear))
      (cases_eq (k / 64) (number / 64))

  pub mark-added : AreAdded marks marks'
  mark-added = record {
    each = ap (λ es. length es) each ∙ length-set marks.each.items number true;
    blocks = ap (λ bs. length bs) blocks ∙ length-set marks.blocks.items (number / 64) true;
    kept = still;
  }

pub added-none : (marks : Marks) → AreAdded marks marks
added-none marks = record { each = refl; blocks = refl; kept = λ k un. un }

pub added-then : (x y z : Marks) → AreAdded x y → AreAdded y z → AreAdded x z
added-then x y z a b = record { each = b.each ∙ a.each; blocks = b.blocks ∙ a.blocks; kept = λ k un. a.kept k (b.kept k un) }

-- the marks of so many operations, by their own length
pub own-marks : (count : ℕ) (marks : Marks) → HaveMarks count marks → HaveMarks (length marks.each.items) marks
own-marks count marks have = subst (λ n. HaveMarks n marks) (sym have.each) have

-- what is marked along a chain
module _ (readers : Readers) (before marks marks' : Marks) (place at : ℕ) (link : Link) (low : at ≤ length readers.links.items) (some : 0 < at)
    (is : link_at readers.links.items (at - 1) ≡ link) (added : AreAdded before marks) (more : AreAdded marks marks') (marked : IsUnmarked marks' link.reader → ⊥)
    (told : (reader : ℕ) → IsReader readers place reader → (IsUnmarked marks reader → ⊥) ⊎ IsChained readers.links.items reader at) where
  pub marked-along : (reader : ℕ) → IsReader readers place reader → (IsUnmarked marks' reader → ⊥) ⊎ IsChained readers.links.items reader link.rest
  marked-along reader there = ⊎_elim
      (λ (done : IsUnmarked marks reader → ⊥). inl (λ (un : IsUnmarked marks' reader). done (more.kept reader un)))
      (λ (chain : IsChained readers.links.items reader at).
      let b = begins readers.links.items reader at chain in
      let from = b.is in
      let here : b.i ≡ at - 1 = omega (arith, from) in
      let same : link_at readers.links.items b.i ≡ link = ap (link_at readers.links.items) here ∙ is in
      ⊎_elim
      (λ (this : (link_at readers.links.items b.i).reader ≡ reader).
      let e : link.reader ≡ reader = ap (λ (l : Link). l.reader) (sym same) ∙ this in
      inl (λ (un : IsUnmarked marks' reader). marked (subst (λ r. IsUnmarked marks' r) (sym e) un)))
      (λ (rest : IsChained readers.links.items reader (link_at readers.links.items b.i).rest).
      inr (subst (λ (l : Link). IsChained readers.links.items reader l.rest) same rest))
      b.either)
      (told reader there)
