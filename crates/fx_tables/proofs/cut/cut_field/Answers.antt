use Rattle.std.proofs.Common.{◌∙◌, ◌∷◌, sym, ap, take}
use Rattle.std.proofs.lemmas.List.{take_rest}
use Rattle.fx_tables.specs.Fields.{fields_of}
use Rattle.fx_tables.proofs.FieldsLemmas.{IsRunAt, no_field, first_field}
use Rattle.fx_tables.proofs.cut.cut_field.Goals as goal

run_at : (c : goal.After-result-1) → IsRunAt c.skip_blanks-rest.result.now c.field_end-end.result
run_at c = record {
  start = c.skip_blanks-rest.ensures.start;
  end_within = c.field_end-end.ensures.within;
  run = c.field_end-end.ensures.before;
  end = c.field_end-end.ensures.found;
}

pub returns-clause-none : goal.returns-clause-none
returns-clause-none c none = sym c.skip_blanks-rest.ensures.same_fields ∙ no_field _ _ (run_at c) none

pub returns-clause-field : goal.returns-clause-field
returns-clause-field c some =
    let rest = c.skip_blanks-rest.result.now in
    let end = c.field_end-end.result in
    sym c.skip_blanks-rest.ensures.same_fields
    ∙ first_field rest end (run_at c) some
    ∙ ap (λ tail. take end rest ∷ fields_of tail) (sym (take_rest rest end))
