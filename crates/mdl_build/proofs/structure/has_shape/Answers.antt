use Rattle.std.proofs.Common.{rules, ◌≡◌, ℕ, ◌+◌, ◌≤◌, ◌==◌, ◌&&◌, Bool, true, false, drop, refl, sym, ap, ◌∙◌, arith}
use Rattle.std.specs.Prelude.{count_by}
use Rattle.std.specs.List.{list_all}
use Rattle.std.proofs.lemmas.List.{at_drop_all, at_drop_more}
use Rattle.math_list.proofs.Tests.{and_false}
use Rattle.mdl_build.specs.declared.roles.Role.{Role}
use Rattle.mdl_build.specs.declared.roles.Role.TheVariants.{Other}
use Rattle.mdl_build.specs.Rules.{is_model, is_system, is_shallow, has_root, are_shallow}
use Rattle.mdl_build.proofs.CountLemmas.{counted, all_counted, few_more, and_true}
use Rattle.mdl_build.proofs.structure.has_shape.Goals as goal

abbrev first : Role → Bool
first = is_system (λ level. level == 1)

pub loop-role-init : goal.loop-role-init
loop-role-init c = record { models = omega arith; firsts = omega arith; shallow = refl; few_models = omega arith; few_firsts = omega arith }

pub overflow_add-models : goal.overflow_add-models
overflow_add-models c =
    let few : c.loop-role.models + c.from-models.result ≤ c.loop-role.role-index + 1 =
    few_more c.is_model.result c.from-models.result c.loop-role.models c.loop-role.role-index
    c.from-models.ensures c.loop-role.invariant.few_models in
    search rules

pub overflow_add-firsts : goal.overflow_add-firsts
overflow_add-firsts c =
    let few : c.loop-role.firsts + c.from-firsts.result ≤ c.loop-role.role-index + 1 =
    few_more c.is_first.result c.from-firsts.result c.loop-role.firsts c.loop-role.role-index
    c.from-firsts.ensures c.loop-role.invariant.few_firsts in
    search rules

pub returns-then-not-is_shallow : goal.returns-then-not-is_shallow
returns-then-not-is_shallow c =
    let roles = c.args.roles.now in
    let deep : are_shallow roles ≡ false =
    sym c.loop-role.invariant.shallow ∙ at_drop_more (list_all is_shallow) roles c.loop-role.role-index Other c.loop-role-test.true
    ∙ ap (λ (b : Bool). b && list_all is_shallow (drop (c.loop-role.role-index + 1) roles)) (sym c.is_shallow.ensures ∙ c.if-not-is_shallow.true) in
    sym (ap (λ (b : Bool). has_root roles && b) deep ∙ and_false (has_root roles))

pub loop-role-preserved : goal.loop-role-preserved
loop-role-preserved c =
    let roles = c.args.roles.now in
    let i = c.loop-role.role-index in
    record {
      models = counted is_model roles i Other c.is_model.result c.from-models.result c.loop-role.models
          (count_by is_model roles) c.loop-role-test.true c.is_model.ensures c.from-models.ensures
          c.loop-role.invariant.models;
      firsts = counted first roles i Other c.is_first.result c.from-firsts.result c.loop-role.firsts
          (count_by first roles) c.loop-role-test.true c.is_first.ensures c.from-firsts.ensures
          c.loop-role.invariant.firsts;
      shallow =
          sym (at_drop_more (list_all is_shallow) roles i Other c.loop-role-test.true
          ∙ ap (λ (b : Bool). b && list_all is_shallow (drop (i + 1) roles)) (sym c.is_shallow.ensures ∙ c.if-not-is_shallow.false))
          ∙ c.loop-role.invariant.shallow;
      few_models = few_more c.is_model.result c.from-models.result c.loop-role.models i c.from-models.ensures c.loop-role.invariant.few_models;
      few_firsts = few_more c.is_first.result c.from-firsts.result c.loop-role.firsts i c.from-firsts.ensures c.loop-role.invariant.few_firsts;
    }

pub returns : goal.returns
returns c =
    let roles = c.args.roles.now in
    let i = c.loop-role.role-index in
    let models = all_counted is_model roles i c.loop-role.models (count_by is_model roles) c.loop-role-test.false c.loop-role.invariant.models in
    let firsts = all_counted first roles i c.loop-role.firsts (count_by first roles) c.loop-role-test.false c.loop-role.invariant.firsts in
    let all : are_shallow roles ≡ true = sym c.loop-role.invariant.shallow ∙ at_drop_all (list_all is_shallow) roles i c.loop-role-test.false in
    c.is_root.ensures
    ∙ ap (λ (n : ℕ). (n == 1) && (c.loop-role.firsts == 1)) models
    ∙ ap (λ (n : ℕ). (count_by is_model roles == 1) && (n == 1)) firsts
    ∙ sym (ap (λ (b : Bool). has_root roles && b) all ∙ and_true (has_root roles))
