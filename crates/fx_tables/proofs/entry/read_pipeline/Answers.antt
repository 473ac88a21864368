use Rattle.std.proofs.Common.{◌≡◌, ℕ, ◌+◌, Bool, true, false, cond, eqb, ◌∙◌, refl, None, Some, List, get_or, drop, sym, ap, arith, rules}
use Rattle.std.proofs.lemmas.Bool.{cond-true}
use Rattle.std.proofs.lemmas.Bool.Decides.{nat_tests}
use Rattle.std.proofs.lemmas.List.{drop-drop, take_rest}
use Rattle.fx_text.specs.Strings.{string_behind}
use Rattle.fx_tables.specs.inner.PlainPlan.{counted_entry, pipeline_entry}
use Rattle.fx_tables.proofs.entry.read_pipeline.Goals as goal

entry_at : (quote inner rest content : List ℕ) (n : ℕ) → inner ≡ drop 1 quote → rest ≡ drop (1 + n) quote
    → get_or quote 0 0 ≡ 34 → string_behind inner ≡ Some (content, drop n inner)
    → counted_entry (Some (content, rest)) ≡ pipeline_entry quote
entry_at quote inner rest content n inside after opens reads =
    ap (λ tail. counted_entry (Some (content, tail))) (after ∙ sym (drop-drop n 1 quote) ∙ ap (drop n) (sym inside))
    ∙ ap counted_entry (sym reads ∙ ap string_behind inside)
    ∙ sym (cond-true (eqb (get_or quote 0 0) 34) (counted_entry (string_behind (drop 1 quote))) None (search (rules, nat_tests)))

pub returns-in-Some-clause-value : goal.returns-in-Some-clause-value
returns-in-Some-clause-value c =
    let quote = c.skip_blanks-quote.result.now in
    let piece = rw c.in-Some.is at c.in_ok-read_string.ensures in
    c.read_count_of.ensures.value
    ∙ entry_at quote _ _ c.in-Some.field-0.content c.in-Some.field-0.length (take_rest quote 1) (take_rest quote (1 + c.in-Some.field-0.length)) (omega (arith, c.if-quote-ne34.false)) piece.1
    ∙ ap pipeline_entry c.skip_blanks-quote.ensures.rest

entry_none : (quote : List ℕ) → string_behind (drop 1 quote) ≡ None → None ≡ pipeline_entry quote
entry_none quote none = sym (ap (λ found. cond (eqb (get_or quote 0 0) 34) (counted_entry found) None) none ∙ either (eqb (get_or quote 0 0) 34)) where
  either : (b : Bool) → cond b (counted_entry None) None ≡ None
  either true = refl
  either false = refl

pub returns-in-None-clause-value : goal.returns-in-None-clause-value
returns-in-None-clause-value c =
    let quote = c.skip_blanks-quote.result.now in
    let none = rw c.in-None.is at c.in_ok-read_string.ensures in
    entry_none quote (ap string_behind (sym (take_rest quote 1)) ∙ none) ∙ ap pipeline_entry c.skip_blanks-quote.ensures.rest

pub returns-in-Some-clause-in_range : goal.returns-in-Some-clause-in_range
returns-in-Some-clause-in_range c = c.read_count_of.ensures.in_range
