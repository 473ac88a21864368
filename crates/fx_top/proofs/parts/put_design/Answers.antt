use Rattle.std.proofs.Common.{refl, subst}
use Rattle.std.specs.List.{flat_map}
use Rattle.cmd_design.specs.Refused.{IsRefusedDesign}
use Rattle.fx_top.specs.Call.{stream_in}
use Rattle.cmd_generate.specs.Generated.{IsVerilogOf}
use Rattle.cmd_generate.specs.Streamed.{IsStreamedOf}
use Rattle.cmd_generate.specs.Generating.{IsModuleFor}
use Rattle.cmd_generate.specs.Streaming.{IsRefusedStream}
use Rattle.fx_top.proofs.Tasks.{put-module}
use Rattle.fx_top.proofs.parts.put_design.Goals as goal

pub returns-in-Ok-parts_of-clause-plain : goal.returns-in-Ok-parts_of-clause-plain
returns-in-Ok-parts_of-clause-plain g c = λ model plan.
    put-module (IsVerilogOf model plan) (IsRefusedDesign model plan)
    (stream_in g.K.Sink.taken g.K.Sink.faults c.args.out.now c.put_parts-put.new.out) c.args.made c.in-Ok.made
    (flat_map (λ part. part.items) c.in-Ok-parts_of.parts.items) c.in-Ok.is c.in-Ok-parts_of.ensures
    c.put_parts-put.result
    (rw c.as_slice.ensures.value at c.put_parts-put.ensures.whole) (rw c.as_slice.ensures.value at c.put_parts-put.ensures.cut) c.put_parts-put.ensures.cause

pub returns-in-Ok-parts_of-clause-streams : goal.returns-in-Ok-parts_of-clause-streams
returns-in-Ok-parts_of-clause-streams g c = λ model plan.
    put-module (IsStreamedOf model plan) (IsRefusedStream model plan)
    (stream_in g.K.Sink.taken g.K.Sink.faults c.args.out.now c.put_parts-put.new.out) c.args.made c.in-Ok.made
    (flat_map (λ part. part.items) c.in-Ok-parts_of.parts.items) c.in-Ok.is c.in-Ok-parts_of.ensures
    c.put_parts-put.result
    (rw c.as_slice.ensures.value at c.put_parts-put.ensures.whole) (rw c.as_slice.ensures.value at c.put_parts-put.ensures.cut) c.put_parts-put.ensures.cause

pub returns-in-Err-clause-plain : goal.returns-in-Err-clause-plain
returns-in-Err-clause-plain g c = λ model plan is. (c.of_design.ensures.design model plan (subst (λ own. IsModuleFor (IsVerilogOf model plan) (IsRefusedDesign model plan) own) c.in-Err.is is), refl)

pub returns-in-Err-clause-streams : goal.returns-in-Err-clause-streams
returns-in-Err-clause-streams g c = λ model plan is. (
  c.of_design.ensures.stream model plan
      (subst (λ own. IsModuleFor (IsStreamedOf model plan) (IsRefusedStream model plan) own) c.in-Err.is is),
  refl,
)
