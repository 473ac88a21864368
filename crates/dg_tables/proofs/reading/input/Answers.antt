use Rattle.std.proofs.Common.{Some, subst, ap, sym, ◌∙◌}
use Rattle.dg_model.specs.Attributes.{attributes_of}
use Rattle.dg_tables.specs.declared.entries.Place.{Place}
use Rattle.dg_tables.specs.Entries.{IsEntry}
use Rattle.dg_tables.specs.Finding.{source_of}
use Rattle.dg_tables.proofs.SourceEntries.{source_is, source_entry, source_before}
use Rattle.dg_tables.proofs.reading.input.Goals as goal

pub source-requires : goal.source-requires
source-requires c = (c.args.block, c.args.port, sym c.in-Some.ensures)

pub look_up-requires-clause-entry : goal.look_up-requires-clause-entry
look_up-requires-clause-entry c =
    let diagram = c.args.checked.now.diagram in
    subst (λ (place : Place). IsEntry diagram (attributes_of diagram) place) (sym c.source.ensures)
    (source_entry diagram (attributes_of diagram) c.args.block c.args.port c.args.element c.in-Some.edge c.keeps_rules.ensures.checked.wired (sym c.in-Some.ensures) c.requires.read)

pub returns-clause-reads : goal.returns-clause-reads
returns-clause-reads c =
    let diagram = c.args.checked.now.diagram in
    record {
      place = source_of (attributes_of diagram) c.in-Some.edge c.args.element;
      there = c.look_up.ensures ∙ ap (λ (place : Place). Some place) c.source.ensures;
      is_source = source_is diagram (attributes_of diagram) c.args.block c.args.port c.args.element c.in-Some.edge (sym c.in-Some.ensures);
    }

pub returns-clause-before : goal.returns-clause-before
returns-clause-before c =
    source_before c.args.checked.now c.args.starts.now c.args.places.now c.args.block c.args.port c.args.element c.look_up.result c.in-Some.edge c.requires.finds (sym c.in-Some.ensures)
    (c.look_up.ensures ∙ ap (λ (place : Place). Some place) c.source.ensures)
