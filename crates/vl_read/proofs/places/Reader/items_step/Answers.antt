use Rattle.std.proofs.Common.{◌≡◌, ◌<◌, ◌≤◌, ℕ, true, List, length, refl, sym, subst, ◌∙◌}
use Rattle.std.specs.Prelude.{nat_lt}
use Rattle.std.proofs.lemmas.Bool.{le-ltb, lt-ltb}
use Rattle.vl_ast.specs.declared.modules.ModItem.{ModItem}
use Rattle.vl_read.specs.inner.Plain.{item_step, step_at}
use Rattle.vl_read.proofs.places.Reader.items_step.Goals as goal

room : (items seen : List ModItem) (most : ℕ) → seen ≡ items → length seen < most → nat_lt (length items) most ≡ true
room items seen most is few = lt-ltb (length items) most (subst (λ (xs : List ModItem). length xs < most) is few)

pub returns-then-is : goal.returns-then-is
unfolding step_at
returns-then-is c = rw (sym c.is.ensures ∙ c.if-is.true) refl

pub returns-then-as_slice-self : goal.returns-then-as_slice-self
unfolding step_at
returns-then-as_slice-self c =
    let draft = c.args.self.now.draft in
    let full = le-ltb (length draft.items) draft.most (subst (λ (items : List ModItem). draft.most ≤ length items) c.as_slice.ensures c.if-as_slice-self.true) in
    rw (sym c.is.ensures ∙ c.if-is.false, full) refl

pub returns-then-is-2 : goal.returns-then-is-2
unfolding step_at item_step
returns-then-is-2 c =
    let draft = c.args.self.now.draft in
    rw (sym c.is.ensures ∙ c.if-is.false, room draft.items c.as_slice.result.now draft.most c.as_slice.ensures c.if-as_slice-self.false, sym c.is-else-as_slice-self.ensures ∙ c.if-is-2.true) refl

pub returns-then-is-3 : goal.returns-then-is-3
unfolding step_at item_step
returns-then-is-3 c =
    let draft = c.args.self.now.draft in
    rw (
      sym c.is.ensures ∙ c.if-is.false,
      room draft.items c.as_slice.result.now draft.most c.as_slice.ensures c.if-as_slice-self.false,
      sym c.is-else-as_slice-self.ensures ∙ c.if-is-2.false,
      sym c.is-else-is-2.ensures ∙ c.if-is-3.true,
    ) refl

pub returns-then-is-4 : goal.returns-then-is-4
unfolding step_at item_step
returns-then-is-4 c =
    let draft = c.args.self.now.draft in
    rw (
      sym c.is.ensures ∙ c.if-is.false,
      room draft.items c.as_slice.result.now draft.most c.as_slice.ensures c.if-as_slice-self.false,
      sym c.is-else-as_slice-self.ensures ∙ c.if-is-2.false,
      sym c.is-else-is-2.ensures ∙ c.if-is-3.false,
      sym c.is-else-is-3.ensures ∙ c.if-is-4.true,
    ) refl

pub returns-else-is-4 : goal.returns-else-is-4
unfolding step_at item_step
returns-else-is-4 c =
    let draft = c.args.self.now.draft in
    rw (
      sym c.is.ensures ∙ c.if-is.false,
      room draft.items c.as_slice.result.now draft.most c.as_slice.ensures c.if-as_slice-self.false,
      sym c.is-else-as_slice-self.ensures ∙ c.if-is-2.false,
      sym c.is-else-is-2.ensures ∙ c.if-is-3.false,
      sym c.is-else-is-3.ensures ∙ c.if-is-4.false,
    )
    (c.expected.ensures c.args.self.now.draft c.args.self.now.held)
