use Rattle.std.proofs.Common.{[], ◌∷◌, ◌++◌, ℕ, List, append-nil, flat_map, subst, sym, take}
use Rattle.std.proofs.lemmas.List.{take_all}
use Rattle.vl_ast.specs.declared.designs.Instance.{Instance}
use Rattle.vl_hier.specs.inner.Names.{AreNames, instance_names}
use Rattle.vl_hier.proofs.NetKeys.{grown}
use Rattle.vl_hier.proofs.names.Names.add_instances.Goals as goal

pub loop-one-init : goal.loop-one-init
loop-one-init c = λ names are. subst (λ (ns : List (List ℕ)). AreNames ns c.args.self.now) (sym (append-nil names)) are

pub loop-one-preserved : goal.loop-one-preserved
loop-one-preserved c = λ names are.
    let instances = c.args.instances.now in
    let i = c.loop-one.one-index in
    grown (λ (ns : List (List ℕ)). AreNames ns c.add.new.self) instance_names instances i c.one-item.result c.loop-one-test.true c.one-item.is names
    (subst (λ (n : List ℕ). AreNames ((names ++ flat_map instance_names (take i instances)) ++ n ∷ []) c.add.new.self) c.bytes.ensures
    (c.in_ok-add.ensures (names ++ flat_map instance_names (take i instances)) (c.loop-one.invariant names are)))

pub returns : goal.returns
returns c = λ names are.
    subst (λ (xs : List Instance). AreNames (names ++ flat_map instance_names xs) c.loop-one.self)
    (take_all c.loop-one.one-index c.args.instances.now c.loop-one-test.false)
    (c.loop-one.invariant names are)
