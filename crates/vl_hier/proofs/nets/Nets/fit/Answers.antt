use Rattle.std.proofs.Common.{ℕ, ap, ◌∙◌}
use Rattle.std.specs.BTreeSet.{contains}
use Rattle.vl_hier.specs.inner.Names.{lent}
use Rattle.vl_hier.specs.inner.Nets.{Key, compare_keys}
use Rattle.vl_hier.proofs.nets.Nets.fit.Goals as goal

pub returns : goal.returns
returns c =
    let key : ℕ → Key = λ word. (word, lent c.args.net.now) in
    c.contains.ensures ∙ ap (λ (word : ℕ). contains compare_keys c.args.self.now.keys (key word)) c.word_of.ensures
