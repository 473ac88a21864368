use Rattle.std.proofs.Common.{◌∙◌, ap₂}
use Rattle.std.specs.Int.{w128}
use Rattle.std.proofs.lemmas.Int.{to_z-of_z}
use Rattle.math_num.specs.Word.{word_highest}
use Rattle.fx_type.proofs.Ranges.{type-word, type-highest}
use Rattle.fx_type.proofs.kind.FxType.highest.Goals as goal

pub highest-requires : goal.highest-requires
highest-requires c = rw (c.width.ensures, c.is_signed.ensures) (type-word c.args.self c.requires)

pub returns : goal.returns
returns c = to_z-of_z w128 c.highest.result (record { sfits = c.highest.type_inv }) ∙ c.highest.ensures ∙ ap₂ word_highest c.width.ensures c.is_signed.ensures ∙ type-highest c.args.self
