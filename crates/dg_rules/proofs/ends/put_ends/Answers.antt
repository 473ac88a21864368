use Rattle.std.proofs.Common.{◌≡◌, ◌+◌, Some, length, ap, ◌∙◌, arith}
use Rattle.std.specs.Prelude.{is_some}
use Rattle.std.proofs.lemmas.List.{length-append}
use Rattle.std.proofs.lemmas.Map.Text.{btree_map_updates_str}
use Rattle.dg_rules.proofs.PathEnds.{is_told, put_more}
use Rattle.dg_rules.proofs.ends.put_ends.Goals as goal

pub loop-size-init : goal.loop-size-init
loop-size-init c = record {
  ends = λ front end parts less. absurd (omega (arith, less));
  kept = λ end was. was;
}

pub loop-size-preserved : goal.loop-size-preserved
loop-size-preserved c =
    let end = c.split_at.result.1.now in
    put_more c.args.ends.now.entries c.loop-size.ends.entries c.insert.new.self.entries c.args.path.now end c.loop-size.size c.split_at.ensures.back
    (λ other. ap is_some (btree_map_updates_str end c.loop-size.ends c.insert.new.self (Some tt) c.in_ok-insert.ensures.updates other) ∙ is_told _ _)
    c.loop-size.invariant

pub returns : goal.returns
returns c = record {
  ends = λ front end parts short.
      let long : length c.args.path.now ≡ length front + length end = ap length parts ∙ length-append front end in
      let least = c.min-size-end.ensures in
      let past = c.loop-size-test.false in
      c.loop-size.invariant.ends front end parts (omega (arith, long, least, past, short));
  kept = c.loop-size.invariant.kept;
}
