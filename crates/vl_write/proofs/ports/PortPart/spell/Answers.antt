use Rattle.std.proofs.Common.{◌++◌, codes, if◌then◌else◌, ◌∙◌}
use Rattle.vl_ast.specs.Spelling.{attrs_text, range_text, signed_text}
use Rattle.vl_write.proofs.Puts.{both, left5, puts-as}
use Rattle.vl_write.proofs.ports.PortPart.spell.Goals as goal

pub returns : goal.returns
returns c =
    let port = c.args.self.now in
    puts-as ((λ i. attrs_text (codes "  ") (c.as_slice.ensures i) ++ (c.direction_words.ensures i ++ (signed_text port.signed ++ (range_text port.width ++ c.bytes.ensures i))))
    ∙ left5 (attrs_text (codes "  ") port.attrs) (if port.input then codes "  input wire " else codes "  output wire ") (signed_text port.signed) (range_text port.width) port.name)
    (both c.put_attrs.ensures c.put_net.ensures)
