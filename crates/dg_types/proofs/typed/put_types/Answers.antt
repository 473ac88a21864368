use Rattle.std.proofs.Common.{◌≡◌, ◌<◌, ◌≤◌, ℕ, List, None, length, map, take, ◌++◌, ◌∷◌, [], ap, sym, ◌∙◌, arith}
use Rattle.std.proofs.lemmas.List.{map_more, take_all}
use Rattle.math_list.specs.Numbers.{numbers_from}
use Rattle.fx_type.specs.declared.kind.FxType.{FxType}
use Rattle.dg_model.specs.Attributes.{or_logical, param_type_at}
use Rattle.dg_model.specs.TypeRounds.{types_of}
use Rattle.math_list.proofs.Numbers.{numbers_more}
use Rattle.dg_types.proofs.typed.put_types.Goals as goal

pub loop-place-init : goal.loop-place-init
loop-place-init c = record { results = c.requires.results; params = c.requires.params }

pub loop-place-preserved : goal.loop-place-preserved
loop-place-preserved c =
    let diagram = c.args.typed.diagram.now in
    let types = c.args.typed.types.now in
    let i = c.loop-place.place in
    let inside : i < length types = omega (arith, c.loop-place-test.true, ap length c.as_slice-place-end.ensures, c.requires.typed.types_size) in
    let f : ℕ → FxType = λ place. or_logical (param_type_at diagram (types_of diagram) place) in
    record {
      results =
          c.in_ok-push.ensures.appended
          ∙ ap (λ (results : List FxType). results ++ c.kind_or_logical.result ∷ []) c.loop-place.invariant.results
          ∙ ap (λ (kind : FxType). map or_logical (take i types) ++ kind ∷ []) c.kind_or_logical.ensures
          ∙ sym (map_more or_logical types i None inside);
      params =
          c.in_ok-push-2.ensures.appended
          ∙ ap (λ (xs : List FxType). xs ++ c.param_at.result ∷ []) c.loop-place.invariant.params
          ∙ ap (λ (x : FxType). map f (numbers_from 0 i) ++ x ∷ []) c.param_at.ensures
          ∙ sym (numbers_more f i);
    }

pub returns-clause-results : goal.returns-clause-results
returns-clause-results c =
    let past : length c.args.typed.types.now ≤ c.loop-place.place = omega (arith, c.loop-place-test.false, ap length c.as_slice-place-end.ensures, c.requires.typed.types_size) in
    c.loop-place.invariant.results ∙ ap (map or_logical) (take_all c.loop-place.place c.args.typed.types.now past ∙ c.requires.typed.types_are)

pub returns-clause-params : goal.returns-clause-params
returns-clause-params c =
    let diagram = c.args.typed.diagram.now in
    let f : ℕ → FxType = λ place. or_logical (param_type_at diagram (types_of diagram) place) in
    let all : c.loop-place.place ≡ length diagram.blocks = omega (arith, c.loop-place-test.false, c.loop-place.auto.place-end, ap length c.as_slice-place-end.ensures) in
    c.loop-place.invariant.params ∙ ap (λ (n : ℕ). map f (numbers_from 0 n)) all
