use Rattle.std.proofs.Common.{◌≡◌, ℕ, List, [], length, get_or, sym, ◌∙◌, ap, arith}
use Rattle.std.proofs.lemmas.List.{get_or_default}
use Rattle.mdl_values.proofs.PeriodLemmas.{count_of, offset_found}
use Rattle.mdl_values.proofs.periods.with_offset.Goals as goal

pub returns : goal.returns
returns c =
    let texts = c.as_slice-elements.result.now in
    let sized = rw c.in_ok-bracket_elements.ensures at c.in-Some.ensures in
    let long : length texts ≡ 2 = ap length c.as_slice-elements.ensures ∙ count_of sized in
    let first : get_or c.in-Some.texts 0 [] ≡ c.bytes-2.result.now =
    ap (λ (xs : List (List ℕ)). get_or xs 0 []) (sym c.as_slice-elements.ensures)
    ∙ get_or_default texts 0 [] c.index-elements-0.result (omega (arith, long)) ∙ sym c.index-elements-0.is ∙ sym c.bytes-2.ensures in
    let second : get_or c.in-Some.texts 1 [] ≡ c.bytes.result.now =
    ap (λ (xs : List (List ℕ)). get_or xs 1 []) (sym c.as_slice-elements.ensures)
    ∙ get_or_default texts 1 [] c.index-elements-1.result (omega (arith, long)) ∙ sym c.index-elements-1.is ∙ sym c.bytes.ensures in
    offset_found c.args.text.now c.in-Some.texts c.bytes-2.result.now c.bytes.result.now c.above_zero-period.result
    sized first second (c.is_zero.ensures.0 c.if-not-is_zero.false) c.above_zero-period.ensures
