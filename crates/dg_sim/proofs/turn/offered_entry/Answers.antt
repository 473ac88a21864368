use Rattle.std.proofs.Common.{List, sym, subst}
use Rattle.dg_model.specs.Attributes.{attributes_of}
use Rattle.dg_tables.specs.declared.entries.Place.{Place}
use Rattle.dg_tables.specs.Entries.{Reads}
use Rattle.dg_tables.specs.Finding.{ReadsNow}
use Rattle.dg_sim.proofs.turn.offered_entry.Goals as goal

pub input-requires-clause-finds : goal.input-requires-clause-finds
input-requires-clause-finds c = rw c.as_slice.ensures c.requires.finds

pub input-requires-clause-read : goal.input-requires-clause-read
input-requires-clause-read c = c.requires.read

pub returns-clause-reads : goal.returns-clause-reads
returns-clause-reads c =
    let diagram = c.args.turn.checked.now.diagram in
    subst (λ (places : List Place). Reads diagram (attributes_of diagram) places c.args.turn.place.block c.args.port c.args.element c.input.result) c.as_slice.ensures c.input.ensures.reads

pub returns-clause-before : goal.returns-clause-before
returns-clause-before c = λ k now.
    c.input.ensures.before k (subst (λ (places : List Place). ReadsNow c.args.turn.checked.now places k c.args.turn.place.block) (sym c.as_slice.ensures) now)
