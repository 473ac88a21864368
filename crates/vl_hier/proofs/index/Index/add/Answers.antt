use Rattle.std.proofs.Common.{◌++◌, ◌∷◌, [], Some, bytes_eq, cond, sym, ap, subst, ◌∙◌, Option}
use Rattle.std.proofs.lemmas.Map.Text.{btree_map_updates_str}
use Rattle.vl_hier.specs.declared.index.Found.{Found}
use Rattle.vl_hier.specs.inner.Index.{IsFound, found_in, with_place}
use Rattle.vl_hier.proofs.NamePlaces.{one-more}
use Rattle.vl_hier.proofs.index.Index.add.Goals as goal

pub returns : goal.returns
returns c = λ names long is name.
    let old = found_in c.args.self.now in
    let n = c.args.name.now in
    let found = c.with_place-found.ensures ∙ ap (λ (o : Option Found). with_place o c.args.place) c.find.ensures ∙ ap (with_place (old n)) (sym long) in
    subst (IsFound (names ++ n ∷ []) name)
    (sym (btree_map_updates_str n c.args.self.now.by_name c.insert.new.self _ c.in_ok-insert.ensures.updates name
    ∙ ap (λ (f : Found). cond (bytes_eq n name) (Some f) (old name)) found))
    (one-more names n old is name)
