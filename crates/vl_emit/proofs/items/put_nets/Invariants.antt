use Rattle.vl_ast.specs.Listing.{Lists}
use Rattle.vl_emit.specs.inner.Ready.{first_in}
use Rattle.vl_emit.proofs.items.put_nets.Given as goal

abbrev pub invariant-loop-own : goal.invariant-loop-own
invariant-loop-own l = Lists l.initial.out l.out (first_in l.source l.part l.own)
