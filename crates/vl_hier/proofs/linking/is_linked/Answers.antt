use Rattle.std.proofs.Common.{◌&&◌, ◌∙◌, ℕ, List, ap}
use Rattle.vl_hier.specs.inner.Tables.{module_by}
use Rattle.vl_hier.specs.inner.Tests.{are_names_apart, are_ports_linked, are_words, is_linked_to}
use Rattle.vl_hier.proofs.TableTests.{module-is}
use Rattle.vl_hier.proofs.linking.is_linked.Goals as goal

pub returns : goal.returns
returns c = λ below top instances are headed.
    let modules = c.args.tables.now.modules in
    let name = c.bytes-name.ensures in
    let ports = c.in_ok-ports.ensures top are.nets ∙ (λ i. are_ports_linked top (c.as_slice.ensures i) (c.as_slice-2.ensures i)) in
    let apart = c.are_names_apart-apart.ensures below top instances are ∙ (λ i. are_names_apart instances top (name i) (headed i)) in
    let words = c.in_ok-words.ensures ∙ ap (λ (n : List ℕ). are_words n c.in-Some.of.now) name in
    (λ i. ports i && apart i && words i)
    ∙ ap (is_linked_to instances top c.args.one.now) (c.in-Some.ensures ∙ ap (module_by modules) c.bytes.ensures ∙ module-is below modules are.modules c.args.one.now.of)

pub returns-in_default : goal.returns-in_default
returns-in_default c = λ below top instances are headed.
    let modules = c.args.tables.now.modules in
    ap (is_linked_to instances top c.args.one.now) (c.in_default.ensures ∙ ap (module_by modules) c.bytes.ensures ∙ module-is below modules are.modules c.args.one.now.of)
