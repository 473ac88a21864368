use Rattle.dg_flat.proofs.systems.Systems.of.Goals as goal

pub returns : goal.returns
returns c = record { ins = c.in_ok-ins.ensures; outs = c.in_ok-outs.ensures; enables = c.in_ok-enables.ensures; controls = c.in_ok-controls.ensures }
