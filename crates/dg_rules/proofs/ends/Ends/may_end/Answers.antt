use Rattle.std.proofs.Common.{◌≤◌, length, sym, ◌∙◌, arith}
use Rattle.dg_rules.proofs.PathEnds.{no_end}
use Rattle.dg_rules.proofs.ends.Ends.may_end.Goals as goal

pub returns : goal.returns
returns c = λ none lines have.
    let least = c.min.ensures in
    let behind = c.split_at.ensures.back_len in
    let short : length c.split_at.result.1.now ≤ 8 = omega (arith, least, behind) in
    no_end lines c.args.self.now.by_bytes.entries c.args.name.now c.split_at.result.0.now c.split_at.result.1.now c.split_at.ensures.by_index.0 short (sym c.contains_key.ensures ∙ none) have
