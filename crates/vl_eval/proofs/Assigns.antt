-- The operations of an assignment, of a condition and of a register's next bits.
use Rattle.std.proofs.Common.{◌≡◌, ◌<◌, ◌≤◌, ◌+◌, ◌-◌, ◌%◌, ◌^◌, ◌==◌, not, ℕ, max, Bool, true, false, if◌then◌else◌, List, [], ◌∷◌, ◌++◌, length, codes, Option, None, Some, sym, ap, subst, ◌∙◌}
use Rattle.std.proofs.Common.{arith}
use Rattle.std.proofs.Math.Nat.{max_comm, mod-eq_of_lt, div-one}
use Rattle.std.proofs.lemmas.List.{length-append}
use Rattle.vl_ast.specs.declared.expressions.Sized.{Sized}
use Rattle.vl_ast.specs.declared.expressions.Expr.{Expr}
use Rattle.vl_ast.specs.Context.{Net, own_length, is_signed}
use Rattle.vl_ast.specs.Conditions.{is_sound}
use Rattle.vl_ast.specs.Nets.{condition_names, names_read}
use Rattle.vl_ast.specs.Value.{assigned, assigned_number, value_in}
use Rattle.vl_ast.proofs.Agree.{ByLayer}
use Rattle.math_list.proofs.Elements.{head-in, tail-in}
use Rattle.vl_check.specs.declared.scope.Scope.{Scope}
use Rattle.vl_check.specs.declared.shapes.Shape.{Shape}
use Rattle.vl_check.specs.Scope.{nets_in}
use Rattle.vl_eval.specs.declared.ops.Op.{Op}
use Rattle.vl_eval.specs.declared.ops.Op.TheVariants.{Constant, One, Next}
use Rattle.vl_eval.specs.declared.ops.OneOp.TheVariants.{Select}
use Rattle.vl_eval.specs.inner.Ops.{IsSettled, op_value}
use Rattle.vl_eval.specs.inner.PlaceBits.{NamesFit, Pushed, row_of}
use Rattle.vl_eval.specs.inner.Site.{ArePlaced, Built, slot_in}
use Rattle.vl_eval.specs.inner.Assigns.{Assigns, Captures, Tests, next_names, takes_in}
use Rattle.vl_eval.proofs.Builds.{grows-length, grows-more, grows-push, settled-later}
use Rattle.vl_eval.proofs.Fits.{left-room, right-room, value-fits}
use Rattle.vl_eval.proofs.Forms.{last-value}
use Rattle.vl_eval.proofs.Operands.{steps-of}
use Rattle.vl_eval.proofs.Words.{select-gives}

module _ (by_layer : ByLayer) (base : ℕ) (scope : Scope) (slots : List ℕ) where
  abbrev nets : List ℕ → Net
  nets = nets_in scope

  abbrev row : (ℕ → ℕ) → List ℕ → ℕ
  row values = row_of (slot_in scope slots) values

  abbrev Fit : (ℕ → ℕ) → List (List ℕ) → Type 0
  Fit values names = NamesFit nets (row values) names

  -- what a pushed operation gives
  pushed-value : (before after : List Op) (slot : ℕ) (op : Op) → Pushed base before after slot op → (values : ℕ → ℕ) → IsSettled base after values → values slot ≡ op_value op values
  pushed-value before after slot op p values s =
      ap values p.place ∙ last-value base before op values (subst (λ ops. IsSettled base ops values) p.grown s)

  pushed-below : (before after : List Op) (slot : ℕ) (op : Op) → Pushed base before after slot op → slot < base + length after
  pushed-below before after slot op p = let l = ap length p.grown in let a = length-append before (op ∷ []) in let e = p.place in omega (arith, l, a, e)

  in-context : (e : Expr) (width : ℕ) (shape : Shape) → shape.length ≡ own_length nets e → shape.signed ≡ is_signed nets e → (values : ℕ → ℕ)
      → value_in nets (row values) (max shape.length width) shape.signed e ≡ value_in nets (row values) (max width (own_length nets e)) (is_signed nets e) e
  in-context e width shape l g values = (λ i. value_in nets (row values) (max (l i) width) (g i) e) ∙ ap (λ n. value_in nets (row values) n (is_signed nets e) e) (max_comm (own_length nets e) width)

  pub assigns-whole : (e : Expr) (before after : List Op) (slot width : ℕ) (shape : Shape) → is_sound nets e ≡ true
      → shape.length ≡ own_length nets e → shape.signed ≡ is_signed nets e → shape.length ≤ width
      → Built base scope slots before after slot (max shape.length width) shape.signed e → Assigns base scope slots before after slot width e
  assigns-whole e before after slot width shape ok l g short b = record {
    grows = b.grows;
    below = b.shows.below;
    is = λ values s fit.
        let value' = b.shows.is values s fit ∙ in-context e width shape l g values in
        let same : max width (own_length nets e) ≡ width = omega (arith, l, short) in
        let low : value_in nets (row values) (max width (own_length nets e)) (is_signed nets e) e < 2 ^ width =
        subst (λ w. value_in nets (row values) w (is_signed nets e) e < 2 ^ width) (sym same)
        (value-fits by_layer nets (row values) e (steps-of nets e ok) fit width (is_signed nets e)
        (omega (arith, l, short))) in
        value' ∙ sym (mod-eq_of_lt low);
  }

  pub assigns-cut : (e : Expr) (before mid after : List Op) (a slot width mask : ℕ) (shape : Shape) → shape.length ≡ own_length nets e → shape.signed ≡ is_signed nets e → mask ≡ 2 ^ width - 1
      → Built base scope slots before mid a (max shape.length width) shape.signed e → Pushed base mid after slot (One (Select 0 mask) a) → Assigns base scope slots before after slot width e
  assigns-cut e before mid after a slot width mask shape l g full b p =
      let p' : Pushed base mid after slot (One (Select 0 (2 ^ width - 1)) a) = subst (λ m. Pushed base mid after slot (One (Select 0 m) a)) full p in
      let last = grows-push base mid after slot (One (Select 0 (2 ^ width - 1)) a) (b.shows.below, omega arith) p' in
      record {
        grows = grows-more base before mid after b.grows last;
        below = pushed-below mid after slot (One (Select 0 (2 ^ width - 1)) a) p';
        is = λ values s fit.
            pushed-value mid after slot (One (Select 0 (2 ^ width - 1)) a) p' values s
            ∙ select-gives (values a) 0 width ∙ ap (λ n. n % 2 ^ width) (div-one (values a))
            ∙ ap (λ n. n % 2 ^ width) (b.shows.is values (settled-later by_layer base scope slots mid after last values s) fit ∙ in-context e width shape l g values);
      }

  pub tests-none : (before after : List Op) (slot : ℕ) → Pushed base before after slot (Constant 1) → Tests base scope slots before after slot None
  tests-none before after slot p = record {
    grows = grows-push base before after slot (Constant 1) tt p;
    below = pushed-below before after slot (Constant 1) p;
    is = λ values s fit. ap (λ n. not (n == 0)) (pushed-value before after slot (Constant 1) p values s);
  }

  pub tests-some : (e : Expr) (before after : List Op) (slot : ℕ) (shape : Shape) → shape.length ≡ own_length nets e → shape.signed ≡ is_signed nets e
      → Built base scope slots before after slot shape.length shape.signed e → Tests base scope slots before after slot (Some e)
  tests-some e before after slot shape l g b = record {
    grows = b.grows;
    below = b.shows.below;
    is = λ values s fit. ap (λ n. not (n == 0)) (b.shows.is values s fit ∙ (λ i. value_in nets (row values) (l i) (g i) e));
  }

  chosen : (t : ℕ) (takes : Bool) (a b : ℕ) → not (t == 0) ≡ takes → (if t == 0 then b else a) ≡ (if takes then a else b)
  chosen t takes a b e = by (t == 0) e where
    by : (z : Bool) → not z ≡ takes → (if z then b else a) ≡ (if takes then a else b)
    by true e = ap (λ z. if z then a else b) e
    by false e = ap (λ z. if z then a else b) e

  -- the names of a register's item but `reset` and its own
  pub placed-rest : (ops : List Op) (name : List ℕ) (condition : Option Expr) (value : Expr)
      → ArePlaced base scope slots ops (next_names name condition value)
      → ArePlaced base scope slots ops (condition_names condition ++ names_read value)
  placed-rest ops name condition value p =
      let names = condition_names condition ++ names_read value in
      record {
        below = λ n c. p.below n (tail-in (codes "reset") n (name ∷ names) (tail-in name n names c));
        few = λ n c. p.few n (tail-in (codes "reset") n (name ∷ names) (tail-in name n names c));
      }

  -- what a register takes, as an operation
  abbrev next : ℕ → ℕ → ℕ → ℕ → ℕ → Op
  next reset bits test taken kept = Next (record { reset = reset; first = bits; test = test; value = taken; kept = kept })

  pub captures-next : (name : List ℕ) (first : Sized) (condition : Option Expr) (value : Expr) (before one two after : List Op) (width test taken reset kept bits slot : ℕ) → width ≡ (nets name).width
      → bits ≡ assigned_number width first → reset ≡ slot_in scope slots (codes "reset") → kept ≡ slot_in scope slots name
      → ArePlaced base scope slots before (next_names name condition value)
      → Tests base scope slots before one test condition → Assigns base scope slots one two taken width value
      → Pushed base two after slot (next reset bits test taken kept) → Captures base scope slots before after slot name first condition value
  captures-next name first condition value before one two after width test taken reset kept bits slot net number isr isk placed t a p =
      let both = grows-more base before one two t.grows a.grows in
      let longer = grows-length base before two both in
      let rbelow : reset < base + length two =
      (let b = placed.below (codes "reset")
      (head-in (codes "reset") (name ∷ (condition_names condition ++ names_read value))) in
      omega (arith, isr, b, longer)) in
      let kbelow : kept < base + length two =
      (let b = placed.below name (tail-in (codes "reset") name
      (name ∷ (condition_names condition ++ names_read value))
      (head-in name (condition_names condition ++ names_read value))) in
      omega (arith, isk, b, longer)) in
      let tbelow : test < base + length two = (let b = t.below in let m = grows-length base one two a.grows in omega (arith, b, m)) in
      let last = grows-push base two after slot (next reset bits test taken kept) (rbelow, tbelow, a.below, kbelow) p in
      record {
        grows = grows-more base before two after both last;
        below = pushed-below two after slot (next reset bits test taken kept) p;
        above = (let e = p.place in omega (arith, e));
        is = λ values s fit.
            let st = settled-later by_layer base scope slots two after last values s in
            let names = condition_names condition ++ names_read value in
            let inner : Fit values names = record { at = λ n c. fit.at n (tail-in (codes "reset") n (name ∷ names) (tail-in name n names c)) } in
            let takes = t.is values (settled-later by_layer base scope slots one two a.grows values st) (left-room nets (row values) (condition_names condition) (names_read value) inner) in
            let gives = a.is values st (right-room nets (row values) (condition_names condition) (names_read value) inner) in
            pushed-value two after slot (next reset bits test taken kept) p values s
            ∙ (λ i. if values (isr i) == 1 then number i else (if values test == 0 then values (isk i) else gives i))
            ∙ ap (λ x. if row values (codes "reset") == 1 then assigned_number width first else x)
            (chosen (values test) (takes_in nets (row values) condition)
            (assigned nets (row values) width value) (row values name) takes)
            ∙ ap (λ w. if row values (codes "reset") == 1 then assigned_number w first else (if takes_in nets (row values) condition then assigned nets (row values) w value else row values name)) net;
      }
