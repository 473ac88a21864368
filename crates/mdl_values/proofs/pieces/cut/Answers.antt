use Rattle.std.proofs.Common.{◌∙◌, ◌+◌, ◌∷◌, take, drop, ap, sym, add-one, arith}
use Rattle.std.proofs.lemmas.List.{take_rest}
use Rattle.mdl_values.specs.Pieces.{pieces_at}
use Rattle.mdl_values.proofs.PieceLemmas.{one_piece, first_piece}
use Rattle.mdl_values.proofs.pieces.cut.Goals as goal

pub returns-then-end-text-clause-pieces : goal.returns-then-end-text-clause-pieces
returns-then-end-text-clause-pieces c =
    first_piece c.args.separator c.args.text.now c.piece_length-end.result c.piece_length-end.ensures.value (omega arith)
    ∙ ap (λ n. take c.piece_length-end.result c.args.text.now ∷ pieces_at c.args.separator (drop n c.args.text.now)) (sym (add-one c.piece_length-end.result))
    ∙ ap (λ rest. take c.piece_length-end.result c.args.text.now ∷ pieces_at c.args.separator rest) (sym (take_rest c.args.text.now (c.piece_length-end.result + 1)))

pub returns-else-end-text-clause-pieces : goal.returns-else-end-text-clause-pieces
returns-else-end-text-clause-pieces c = one_piece c.args.separator c.args.text.now (omega arith)
