use Rattle.std.proofs.Common.{◌∙◌, ap₂}
use Rattle.std.specs.Int.{w128}
use Rattle.std.proofs.lemmas.Int.{to_z-of_z}
use Rattle.math_num.specs.Word.{word_lowest}
use Rattle.fx_type.proofs.Ranges.{type-word, type-lowest}
use Rattle.fx_type.proofs.kind.FxType.lowest.Goals as goal

pub lowest-requires : goal.lowest-requires
lowest-requires c = rw (c.width.ensures, c.is_signed.ensures) (type-word c.args.self c.requires)

pub returns : goal.returns
returns c = to_z-of_z w128 c.lowest.result (record { sfits = c.lowest.type_inv }) ∙ c.lowest.ensures ∙ ap₂ word_lowest c.width.ensures c.is_signed.ensures ∙ type-lowest c.args.self
