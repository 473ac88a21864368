use Rattle.std.proofs.Common.{◌≡◌, ◌++◌, ◌∙◌, ℕ, List, append-nil, ap, flat_map, sym}
use Rattle.std.proofs.lemmas.List.{take_all}
use Rattle.vl_hier.specs.Written.{instance_text}
use Rattle.vl_hier.proofs.NetKeys.{grown}
use Rattle.vl_hier.proofs.writing.put_instances.Goals as goal

pub loop-one-init : goal.loop-one-init
loop-one-init c = sym (append-nil c.args.out.now.items)

pub loop-one-preserved : goal.loop-one-preserved
loop-one-preserved c =
    let x = c.one-item.result in
    grown (λ (bytes : List ℕ). c.put_instance.new.out.items ≡ bytes) instance_text c.args.instances.now c.loop-one.one-index x c.loop-one-test.true c.one-item.is c.args.out.now.items
    (c.in_ok-put_instance.ensures ∙ ap (λ (bytes : List ℕ). bytes ++ instance_text x) c.loop-one.invariant)

pub returns : goal.returns
returns c =
    c.loop-one.invariant
    ∙ ap (λ (xs : List _). c.args.out.now.items ++ flat_map instance_text xs) (take_all c.loop-one.one-index c.args.instances.now c.loop-one-test.false)
