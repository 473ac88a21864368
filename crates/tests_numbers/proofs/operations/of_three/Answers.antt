use Rattle.std.proofs.Common.{◌≡◌, ◌<◌, ℕ, zero, suc, [], ◌∷◌, ℤ, get_or, to_z, of_z, arith, refl, rules}
use Rattle.std.specs.Int.{w128}
use Rattle.std.proofs.lemmas.Int.{to_z-of_z}
use Rattle.fx_type.specs.declared.kind.FxType.{FxType}
use Rattle.fx_type.specs.FxType.{IsType, InRange}
use Rattle.dg_model.specs.Operation.{type_of, value_of}
use Rattle.tests_numbers.proofs.operations.of_three.Goals as goal

three_types : (p q r : FxType) → IsType p → IsType q → IsType r → (k : ℕ) (d : FxType) → k < 3 → IsType (get_or (p ∷ q ∷ r ∷ []) k d)
three_types p q r a b c zero d below = a
three_types p q r a b c (suc zero) d below = b
three_types p q r a b c (suc (suc zero)) d below = c
three_types p q r a b c (suc (suc (suc k))) d below = absurd (omega arith)

three_in_range : (p q r : FxType) (x y z : ℤ) → InRange p x → InRange q y → InRange r z → (input : ℕ) → input < 3 → InRange (type_of (p ∷ q ∷ r ∷ []) input) (value_of (x ∷ y ∷ z ∷ []) input)
three_in_range p q r x y z a b c zero below = a
three_in_range p q r x y z a b c (suc zero) below = b
three_in_range p q r x y z a b c (suc (suc zero)) below = c
three_in_range p q r x y z a b c (suc (suc (suc k))) below = absurd (omega arith)

pub operation_answer-requires : goal.operation_answer-requires
operation_answer-requires c =
    let need = c.requires in
    let x : to_z w128 (of_z w128 c.args.a.value) ≡ c.args.a.value = to_z-of_z w128 c.args.a.value (search rules) in
    let y : to_z w128 (of_z w128 c.args.b.value) ≡ c.args.b.value = to_z-of_z w128 c.args.b.value (search rules) in
    let z : to_z w128 (of_z w128 c.args.c.value) ≡ c.args.c.value = to_z-of_z w128 c.args.c.value (search rules) in
    rw (x, y, z) (record {
      prepared = record {
        arity = need.arity;
        signs = need.signs;
        types = three_types c.args.a.kind c.args.b.kind c.args.c.kind need.a.0 need.b.0 need.c.0;
        parameters = need.parameters;
        result = need.end_valid;
        result_type = need.result_type;
        full_type = need.full_type;
      };
      values = record {
        count = refl;
        in_range = three_in_range c.args.a.kind c.args.b.kind c.args.c.kind c.args.a.value c.args.b.value c.args.c.value need.a.1 need.b.1 need.c.1;
      };
    })
