use Rattle.std.proofs.Common.{◌≡◌, ℕ, ◌+◌, ◌-◌, ◌<◌, ◌∙◌, Bool, List, ◌∷◌, ◌++◌, length, get_or, sym, ap, arith, rules}
use Rattle.std.specs.Prelude.{ℤ, pos}
use Rattle.std.proofs.lemmas.Bool.Decides.{nat_tests}
use Rattle.fx_tables.specs.Stimulus.{hits_at}
use Rattle.fx_tables.specs.Response.{text_of_field, response_fields}
use Rattle.fx_tables.proofs.ResponseLemmas.{rest_of_line, rest_of_line-none, rest_of_line-more, line_from}
use Rattle.fx_tables.proofs.row_text.write_line.Goals as goal

pub loop-k-init : goal.loop-k-init
loop-k-init c = record {
  few = search rules;
  room = omega arith;
  within = search rules;
  text = rest_of_line-none c.args.t c.args.periods.now c.args.values.now c.args.bytes.now c.requires.values (omega arith);
}

put_more : (t k next : ℕ) (periods : List ℕ) (values : List ℤ) (unused : ℤ) (hit : Bool) (value : ℤ)
    (rest whole : List ℕ) → length values ≡ length periods → next ≡ k + 1 → k < length periods
    → hit ≡ hits_at (get_or periods k 0) t → value ≡ get_or values k unused
    → rest ≡ rest_of_line next (response_fields t periods values)
    → whole ≡ 32 ∷ (text_of_field hit value ++ rest)
    → whole ≡ rest_of_line k (response_fields t periods values)
put_more t k next periods values unused hit value rest whole same is inside hits reads before after =
    after
    ∙ ap (λ r. 32 ∷ (text_of_field hit value ++ r)) before
    ∙ ap (λ h. 32 ∷ (text_of_field h value ++ rest_of_line next (response_fields t periods values))) hits
    ∙ ap (λ v. 32 ∷ (text_of_field (hits_at (get_or periods k 0) t) v ++ rest_of_line next (response_fields t periods values))) reads
    ∙ sym (rest_of_line-more t k next periods values unused same is inside)

pub loop-k-preserved : goal.loop-k-preserved
loop-k-preserved c = record {
  few = omega arith;
  room = omega arith;
  within = omega arith;
  text =
      put_more c.args.t (c.loop-k.k - 1) c.loop-k.k c.args.periods.now c.args.values.now (pos 0) c.hits.result _ _ _ c.requires.values (omega arith)
      (omega arith) c.hits.ensures (search rules) c.loop-k.invariant.text c.put_field-start.ensures.text;
}

pub returns-else-is_empty-clause-line : goal.returns-else-is_empty-clause-line
returns-else-is_empty-clause-line c =
    let some : 0 < length c.args.periods.now = grind (arith, nat_tests, c.if-is_empty.ensures) in
    let first : c.loop-k.k ≡ 0 = omega arith in
    line_from c.args.t c.loop-k.start c.args.periods.now c.args.values.now c.loop-k.bytes c.requires.values some
    (c.loop-k.invariant.text ∙ ap (λ k. rest_of_line k (response_fields c.args.t c.args.periods.now c.args.values.now)) first)
