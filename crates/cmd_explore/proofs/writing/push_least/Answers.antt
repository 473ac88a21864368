use Rattle.std.proofs.Common.{◌≡◌, ◌++◌, ℕ, List, refl, sym, ap, subst, ◌∙◌}
use Rattle.std.specs.Prelude.{OnOk}
use Rattle.std.proofs.lemmas.Option.{slice_get_past, slice_get_read}
use Rattle.cmd_explore.specs.FindingsText.{least_by, least_of}
use Rattle.cmd_explore.proofs.writing.push_least.Goals as goal

pub returns-in-Some-get : goal.returns-in-Some-get
returns-in-Some-get c =
    let rows = c.args.rows.now in
    let h = c.in-Some-get.ensures.lookup in
    let at = slice_get_read rows _ c.in-Some.place c.in-Some-get.finding.now refl h.3.0 h.1 in
    subst (λ (bytes : List ℕ). OnOk c.push_pair.result (c.push_pair.new.text.items ≡ c.args.text.now.items ++ bytes)) (sym (ap (least_of rows) c.in-Some.is ∙ ap least_by at)) c.push_pair.ensures

pub returns-in-None-get : goal.returns-in-None-get
returns-in-None-get c =
    let rows = c.args.rows.now in
    let none = slice_get_past rows c.in-Some.place c.in-None-get.ensures.lookup.3 in
    subst (λ (bytes : List ℕ). OnOk c.push.result (c.push.new.text.items ≡ c.args.text.now.items ++ bytes)) (sym (ap (least_of rows) c.in-Some.is ∙ ap least_by none)) c.push.ensures

pub returns-in-None : goal.returns-in-None
returns-in-None c =
    subst (λ (bytes : List ℕ). OnOk c.push-in-None.result (c.push-in-None.new.text.items ≡ c.args.text.now.items ++ bytes)) (sym (ap (least_of c.args.rows.now) c.in-None.is)) c.push-in-None.ensures
