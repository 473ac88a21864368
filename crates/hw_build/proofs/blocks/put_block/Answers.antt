use Rattle.std.proofs.Common.{ℕ, subst, sym, ◌∙◌}
use Rattle.hw_build.specs.inner.ElementLoop.{Reaches}
use Rattle.hw_build.proofs.HubNumbers.{block_skipped}
use Rattle.hw_build.proofs.blocks.put_block.Goals as goal

pub returns-then-is_input : goal.returns-then-is_input
returns-then-is_input c =
    subst (λ (n : ℕ). Reaches c.args.owner.setting c.args.net.now n)
    (block_skipped c.args.owner.setting.design.checked.now.diagram c.args.owner.block c.args.owner.one.now
    c.requires.is (sym c.is_input.ensures ∙ c.if-is_input.true)) c.requires.before

pub put_ports-put-requires-clause-other : goal.put_ports-put-requires-clause-other
put_ports-put-requires-clause-other c = sym c.is_input.ensures ∙ c.if-is_input.false

pub put_ports-put-requires-clause-is : goal.put_ports-put-requires-clause-is
put_ports-put-requires-clause-is c = c.requires.is

pub put_ports-put-requires-clause-before : goal.put_ports-put-requires-clause-before
put_ports-put-requires-clause-before c = c.requires.before

pub returns : goal.returns
returns c = c.put_ports-put.ensures
