use Rattle.std.proofs.Common.{◌∙◌, sym, ap}
use Rattle.std.proofs.lemmas.List.{take_rest}
use Rattle.fx_tables.specs.Fields.{fields_of}
use Rattle.fx_tables.proofs.FieldsLemmas.{after_blanks-drop, fields_of-drop_blanks}
use Rattle.fx_tables.proofs.cut.skip_blanks.Goals as goal

pub returns-clause-rest : goal.returns-clause-rest
returns-clause-rest c =
    let start = c.field_start in
    take_rest c.args.line.now start.result
    ∙ after_blanks-drop start.result c.args.line.now start.ensures.within start.ensures.before start.ensures.found

pub returns-clause-same_fields : goal.returns-clause-same_fields
returns-clause-same_fields c =
    let start = c.field_start in
    ap fields_of (take_rest c.args.line.now start.result)
    ∙ sym (fields_of-drop_blanks start.result c.args.line.now start.ensures.within start.ensures.before)
