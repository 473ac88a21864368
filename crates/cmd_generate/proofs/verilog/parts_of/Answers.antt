use Rattle.std.specs.List.{flat_map}
use Rattle.std.proofs.lemmas.Result.{IfOk-weaker}
use Rattle.cmd_generate.proofs.Verilogs.{written-of}
use Rattle.cmd_generate.proofs.verilog.parts_of.Goals as goal

pub returns : goal.returns
returns g c =
    IfOk-weaker c.spelling_parts-parts.result _ _ (λ parts is. written-of c.args.made (flat_map (λ part. part.items) parts.items) c.unique.ensures c.requires is) c.spelling_parts-parts.ensures.text
