use Rattle.std.proofs.Common.{subst, sym}
use Rattle.std.proofs.lemmas.Result.{IfOk-weaker}
use Rattle.cmd_generate.proofs.Ports.{stalls}
use Rattle.cmd_generate.proofs.Streams.{Laws, column-names, is-core, stream-all}
use Rattle.cmd_generate.proofs.streamed.stream_of.Goals as goal
use Rattle.hw_names.specs.Names.{AreStreamNames}
use Rattle.vl_ast.specs.Spelling.{spelling}

pub wrap-made-requires-clause-sound : goal.wrap-made-requires-clause-sound
wrap-made-requires-clause-sound c = c.in-Ok.ensures.owed.carries.sound

pub wrap-made-requires-clause-stallable : goal.wrap-made-requires-clause-stallable
wrap-made-requires-clause-stallable c = stalls c.in-Ok.ensures.owed.carries

pub wrap-made-requires-clause-keeps : goal.wrap-made-requires-clause-keeps
wrap-made-requires-clause-keeps c = c.in-Ok.ensures.keeps

pub wrap-made-requires-clause-names : goal.wrap-made-requires-clause-names
wrap-made-requires-clause-names c =
    let laws : Laws = record { inputs = c.root_elements_are_listed.ensures.inputs; outputs = c.root_elements_are_listed.ensures.outputs; fits = c.ready_fits.ensures } in
    let core = is-core c.args.checked.now.diagram c.args.planned.now.resolved c.args.planned.now.times c.in-Ok.core c.as_slice.result.now c.slots_are_scheduled.ensures c.keeps_rules.ensures.checked
    c.requires.on.plan c.requires.on.times c.requires.steady c.in-Ok.ensures (subst (AreStreamNames c.args.checked.now.diagram) (sym c.as_slice.ensures) c.in_ok-names.ensures.names) in
    column-names laws core

pub returns-clause-streams : goal.returns-clause-streams
returns-clause-streams c =
    let laws : Laws = record { inputs = c.root_elements_are_listed.ensures.inputs; outputs = c.root_elements_are_listed.ensures.outputs; fits = c.ready_fits.ensures } in
    let core = is-core c.args.checked.now.diagram c.args.planned.now.resolved c.args.planned.now.times c.in-Ok.core c.as_slice.result.now c.slots_are_scheduled.ensures c.keeps_rules.ensures.checked
    c.requires.on.plan c.requires.on.times c.requires.steady c.in-Ok.ensures (subst (AreStreamNames c.args.checked.now.diagram) (sym c.as_slice.ensures) c.in_ok-names.ensures.names) in
    let e = c.wrap-made.ensures in
    stream-all laws core c.wrap-made.result e.header e.conditions e.products e.handshake e.transfers e.follows

pub returns-clause-spelled : goal.returns-clause-spelled
returns-clause-spelled c = IfOk-weaker c.wrap-made.result _ _ (λ m by. by (spelling c.in-Ok.core) c.in-Ok.ensures.spelled) c.wrap-made.ensures.spelled
