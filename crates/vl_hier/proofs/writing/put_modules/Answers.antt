use Rattle.std.proofs.Common.{◌≡◌, ◌++◌, ◌∙◌, ℕ, List, append-nil, ap, flat_map, sym}
use Rattle.std.proofs.lemmas.List.{take_all}
use Rattle.vl_ast.specs.Spelling.{spelling}
use Rattle.vl_hier.proofs.NetKeys.{grown}
use Rattle.vl_hier.proofs.writing.put_modules.Goals as goal

pub loop-one-init : goal.loop-one-init
loop-one-init g c = sym (append-nil c.args.out.now.items)

pub loop-one-preserved : goal.loop-one-preserved
loop-one-preserved g c =
    let x = c.one-item.result in
    grown (λ (bytes : List ℕ). c.put_module.new.out.items ≡ bytes) spelling c.args.modules.now c.loop-one.one-index x c.loop-one-test.true c.one-item.is c.args.out.now.items
    (c.in_ok-put_module.ensures ∙ ap (λ (bytes : List ℕ). bytes ++ spelling x) c.loop-one.invariant)

pub returns : goal.returns
returns g c =
    c.loop-one.invariant
    ∙ ap (λ (xs : List _). c.args.out.now.items ++ flat_map spelling xs) (take_all c.loop-one.one-index c.args.modules.now c.loop-one-test.false)
