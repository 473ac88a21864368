use Rattle.dg_sort.proofs.Lines.{from_there}
use Rattle.cmd_check.proofs.Sources.{control_found, line_found, line_source, no_line, none_found}
use Rattle.cmd_check.proofs.paths.source_of.Goals as goal

pub returns-in-Some-enable-clause-is : goal.returns-in-Some-enable-clause-is
returns-in-Some-enable-clause-is c =
    let none = no_line c.args.checked.now.diagram c.diagram.result.now c.as_slice.result.now c.args.number c.as_slice.ensures c.diagram.ensures c.in-None.ensures.lookup.3 in
    (control_found c.args.checked.now.diagram c.args.block c.args.number c.in-Some-enable.control c.block_at.result.now c.keeps_rules.ensures.checked c.block_at.ensures none c.in-Some-enable.is).0

pub returns-in-Some-enable-clause-there : goal.returns-in-Some-enable-clause-there
returns-in-Some-enable-clause-there c =
    let none = no_line c.args.checked.now.diagram c.diagram.result.now c.as_slice.result.now c.args.number c.as_slice.ensures c.diagram.ensures c.in-None.ensures.lookup.3 in
    (control_found c.args.checked.now.diagram c.args.block c.args.number c.in-Some-enable.control c.block_at.result.now c.keeps_rules.ensures.checked c.block_at.ensures none c.in-Some-enable.is).1

pub returns-in-None-enable-clause-is : goal.returns-in-None-enable-clause-is
returns-in-None-enable-clause-is c =
    let none = no_line c.args.checked.now.diagram c.diagram.result.now c.as_slice.result.now c.args.number c.as_slice.ensures c.diagram.ensures c.in-None.ensures.lookup.3 in
    none_found c.args.checked.now.diagram c.args.block c.args.number c.block_at.result.now c.block_at.ensures none c.in-None-enable.is

pub returns-in-None-enable-clause-there : goal.returns-in-None-enable-clause-there
returns-in-None-enable-clause-there c = c.requires

pub returns-in-Some-clause-is : goal.returns-in-Some-clause-is
returns-in-Some-clause-is c =
    let found = c.in-Some.ensures.lookup.3 in
    let edge = c.in-Some.edge.now in
    line_source c.args.checked.now.diagram c.args.block c.args.number edge
    (line_found c.args.checked.now.diagram c.diagram.result.now c.as_slice.result.now c.args.number edge
    c.as_slice.ensures c.diagram.ensures found.0 (found.1 edge))

pub returns-in-Some-clause-there : goal.returns-in-Some-clause-there
returns-in-Some-clause-there c =
    let found = c.in-Some.ensures.lookup.3 in
    let edge = c.in-Some.edge.now in
    from_there c.args.checked.now.diagram c.args.number edge c.keeps_rules.ensures.checked.wired
    (line_found c.args.checked.now.diagram c.diagram.result.now c.as_slice.result.now c.args.number edge c.as_slice.ensures c.diagram.ensures found.0 (found.1 edge))
