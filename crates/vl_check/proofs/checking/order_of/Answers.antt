use Rattle.std.proofs.Common.{ℕ, List, Option, Bor, [], length, option_map, refl, ap, subst, sym, ◌∙◌}
use Rattle.vl_ast.specs.Nets.{Mention}
use Rattle.vl_ast.specs.Conditions.{first_fault, is_undriven}
use Rattle.vl_check.specs.inner.Marks.{AreNumbered}
use Rattle.vl_check.specs.inner.Rest.{IsFirstOfRest}
use Rattle.vl_check.proofs.checking.order_of.Goals as goal

abbrev names_of : Option (Bor (List ℕ)) → Option (List ℕ)
names_of found = option_map (λ (name : Bor (List ℕ)). name.now) found

pub returns-in-Some : goal.returns-in-Some
returns-in-Some c =
    c.fault_of.ensures c.args.source.now (sym (c.in_ok-name.ensures ∙ ap (λ (all : List Mention). first_fault (is_undriven all) [] all) c.requires.whole) ∙ ap names_of c.in-Some.is)

pub returns-in-Some-2 : goal.returns-in-Some-2
returns-in-Some-2 c = c.fault_of-in-Some-2.ensures c.args.source.now (
  sym (c.in_ok-name.ensures ∙ ap (λ (all : List Mention). first_fault (is_undriven all) [] all) c.requires.whole) ∙ ap names_of c.in_default.is,
  sym (c.in_ok-name-2.ensures c.args.source.now c.requires.whole) ∙ ap names_of c.in-Some-2.is,
)

pub first_double-requires-clause-numbers : goal.first_double-requires-clause-numbers
first_double-requires-clause-numbers c =
    subst (λ (numbers : List ℕ). AreNumbered c.args.text.now numbers (length c.as_slice.result.now)) (sym c.as_slice-numbers.ensures.value)
    (subst (λ (n : ℕ). AreNumbered c.args.text.now c.args.known.now.numbers.items n) (sym (ap length c.as_slice.ensures.value)) c.requires.numbers)

pub assignment_order-requires : goal.assignment_order-requires
assignment_order-requires c = (
  refl,
  record {
    whole = c.requires.whole;
    scope = c.requires.scope;
    driven = sym (c.in_ok-name.ensures ∙ ap (λ (all : List Mention). first_fault (is_undriven all) [] all) c.requires.whole) ∙ ap names_of c.in_default.is;
    once = sym (c.in_ok-name-2.ensures c.args.source.now c.requires.whole) ∙ ap names_of c.in_default-2.is;
  },
)

pub returns-in-Some-first_of_rest : goal.returns-in-Some-first_of_rest
returns-in-Some-first_of_rest c =
    let named = subst (IsFirstOfRest c.args.source.now) c.in-Some-first_of_rest.is c.first_of_rest.ensures in
    c.fault_of-in-Some-first_of_rest.ensures c.args.source.now (named c.in_ok-found.ensures.acyclic)

pub returns-in-None : goal.returns-in-None
returns-in-None c =
    let rest = subst (IsFirstOfRest c.args.source.now) c.in-None.is c.first_of_rest.ensures in
    record {
      sound = record {
        acyclic = c.in_ok-found.ensures.acyclic;
        narrow = rest.narrow;
        clocked = rest.clocked;
        attributed = rest.attributed;
      };
      order = c.in_ok-found.ensures.order;
    }
