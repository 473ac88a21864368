use Rattle.std.proofs.Common.{true, cond, ap, sym, ◌∙◌}
use Rattle.std.specs.Ordering.{is_eq}
use Rattle.vl_hier.specs.inner.Names.{lent}
use Rattle.vl_hier.specs.inner.Nets.{Key, compare_keys, word_of}
use Rattle.vl_hier.proofs.NetKeys.{net-more}
use Rattle.vl_hier.proofs.nets.Nets.add.Goals as goal

pub returns : goal.returns
returns c = λ declared next named wide sign are port name.
    let own : Key = (c.word_of.result, c.args.name) in
    let key : Key = (word_of port.width port.signed, lent name) in
    c.in_ok-insert.ensures.updates.0 key
    ∙ ap (cond (is_eq (compare_keys own key)) true) (are port name)
    ∙ net-more declared next port name own (c.word_of.ensures ∙ (λ k. word_of (sym wide k) (sym sign k))) named
