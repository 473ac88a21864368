use Rattle.std.proofs.Common.{[], sym, ap, ◌∙◌, rules}
use Rattle.std.specs.BTreeMap.{is_at}
use Rattle.std.specs.Map.{lookup}
use Rattle.std.proofs.lemmas.Option.{none-some}
use Rattle.hw_names.proofs.NameSets.{name_cmp}
use Rattle.hw_names.proofs.names.Names.new.Goals as goal

pub returns : goal.returns
returns c =
    c.in_ok-take_all.ensures [] (record {
      each = λ name. search rules;
      tried = λ name number at. absurd (none-some number (sym (ap (lookup (is_at (name_cmp name))) c.new-2.ensures.empty) ∙ at));
    })
