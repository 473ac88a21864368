use Rattle.std.proofs.Common.{◌∙◌, sym, ap, not}
use Rattle.std.proofs.lemmas.Bool.{not-true}
use Rattle.fx_tables.proofs.DraftLemmas.{path_repeated, add_path}
use Rattle.fx_tables.proofs.RangeLemmas.{range_path}
use Rattle.fx_tables.proofs.draft.Draft.add_pipeline.Goals as goal

pub returns-then-not-branch-clause-describes : goal.returns-then-not-branch-clause-describes
returns-then-not-branch-clause-describes c earlier d =
    let same = c.in_ok-path.ensures.items ∙ c.bytes.ensures in (
      sym c.if-not-branch.true
          ∙ c.in_ok-insert.ensures.added
          ∙ ap not (path_repeated c.args.self.now earlier c.args.pipeline c.in_ok-path.path same d),
      tt,
    )

pub returns-clause-describes : goal.returns-clause-describes
returns-clause-describes c earlier d =
    let same = c.in_ok-path.ensures.items ∙ c.bytes.ensures in (
      sym c.if-not-branch.false
          ∙ c.in_ok-insert.ensures.added
          ∙ ap not (path_repeated c.args.self.now earlier c.args.pipeline c.in_ok-path.path same d),
      add_path c.args.self.now earlier c.args.pipeline c.in_ok-path.path c.insert.new.self c.push.new.self same
          c.in_ok-insert.ensures.updates c.in_ok-push.ensures.appended d,
    )

pub returns-clause-in_range : goal.returns-clause-in_range
returns-clause-in_range c fine range d =
    let key = c.in_ok-path.path in
    range_path c.args.self.now c.args.pipeline key c.insert.new.self c.push.new.self
    (c.in_ok-path.ensures.items ∙ c.bytes.ensures)
    (sym (d.known key) ∙ not-true _ (sym (sym c.if-not-branch.false ∙ c.in_ok-insert.ensures.added)))
    c.in_ok-insert.ensures.updates c.in_ok-push.ensures.appended range d
