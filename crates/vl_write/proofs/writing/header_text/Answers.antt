use Rattle.std.proofs.Common.{◌++◌, ◌∙◌, codes, map, ap, sym}
use Rattle.std.specs.List.{flat_map}
use Rattle.std.proofs.lemmas.Result.{IfOk-weaker}
use Rattle.vl_ast.specs.Spelling.{attrs_text, item_text, joined, port_text}
use Rattle.vl_write.proofs.Puts.{both, header-left, puts-as}
use Rattle.vl_write.proofs.writing.header_text.Goals as goal

pub returns : goal.returns
returns c =
    let m = c.args.module.now in
    let attrs = attrs_text (codes "") m.attrs in
    let ports = joined (codes ",\n") (map port_text m.ports) in
    let put = puts-as (λ i. attrs_text (codes "") (c.as_slice.ensures i)
    ++ (codes "module " ++ (c.bytes.ensures i
    ++ (codes " (\n"
    ++ (joined (codes ",\n") (map port_text (c.as_slice-2.ensures i)) ++ codes "\n);\n")))))
    (both c.put_attrs.ensures (both c.put.ensures (both c.put-2.ensures (both c.put-3.ensures (both c.put_list.ensures c.put-4.ensures))))) in
    IfOk-weaker c.finish.result _ _
    (λ text done.
    let all = done.1 ∙ (put.whole done.0).1 ∙ ap (λ xs. xs ++ (attrs ++ (codes "module " ++ (m.name ++ (codes " (\n" ++ (ports ++ codes "\n);\n")))))) c.new.ensures.items in
    sym (ap (λ xs. xs ++ flat_map item_text m.items ++ codes "endmodule\n") all
    ∙ header-left attrs (codes "module ") m.name (codes " (\n") ports (codes "\n);\n") (flat_map item_text m.items) (codes "endmodule\n")))
    c.finish.ensures
