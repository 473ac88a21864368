use Rattle.std.proofs.Common.{◌≡◌, ◌∙◌, Bool, Some, if◌then◌else◌, sym, ap, arith}
use Rattle.std.specs.BTreeMap.{is_at}
use Rattle.std.specs.Map.{lookup}
use Rattle.std.specs.Ordering.{is_eq}
use Rattle.hw_sched.specs.declared.keys.KindKey.{KindKey}
use Rattle.hw_sched.specs.Slots.{OperationKind}
use Rattle.hw_sched.specs.inner.Keys.{key_of, compare_keys, number_at}
use Rattle.hw_sched.proofs.KindNumbers.{old_number, old_kinds, new_number, new_kinds}
use Rattle.hw_sched.proofs.Tied.{tied_kind}
use Rattle.hw_sched.proofs.numbers.KindNumbers.number.Goals as goal
use Rattle.hw_sched.proofs.numbers.KindNumbers.number.Goals.{After-copied}

found : (c : After-copied) (kind : OperationKind) → c.args.key ≡ key_of kind → number_at c.args.self.now.by_kind.entries kind ≡ c.copied.result
found c kind is = ap (λ (key : KindKey). lookup (is_at (compare_keys key)) c.args.self.now.by_kind.entries) (sym is) ∙ sym c.get.ensures.value ∙ sym c.copied.ensures

pub returns-in-Some-clause-is : goal.returns-in-Some-clause-is
returns-in-Some-clause-is c = λ kinds kind is are. old_number kinds kind c.args.self.now are c.in-Some.number (found (goal.at.returns-in-Some-clause-is c).After-copied kind is ∙ c.in-Some.is)

pub returns-in-Some-clause-kinds : goal.returns-in-Some-clause-kinds
returns-in-Some-clause-kinds c = λ kinds kind is are. old_kinds kinds kind c.args.self.now are c.in-Some.number (found (goal.at.returns-in-Some-clause-kinds c).After-copied kind is ∙ c.in-Some.is)

pub returns-clause-is : goal.returns-clause-is
returns-clause-is c = λ kinds kind is are. new_number kinds kind c.args.self.now are (found (goal.at.returns-clause-is c).After-copied kind is ∙ c.in_default.is)

pub returns-clause-kinds : goal.returns-clause-kinds
returns-clause-kinds c = λ kinds kind is are.
    new_kinds kinds kind c.args.self.now are (found (goal.at.returns-clause-kinds c).After-copied kind is ∙ c.in_default.is) c.insert.new.self c.in-Some-checked_add.count
    (let h = c.in-Some-checked_add.ensures in omega (arith, h))
    (λ other.
    c.in_ok-insert.ensures.updates.0 (key_of other)
    ∙ ap (λ (same : Bool). if same then Some c.args.self.now.count else number_at c.args.self.now.by_kind.entries
    other) (ap (λ (key : KindKey). is_eq (compare_keys key (key_of other))) is ∙ tied_kind kind other))
