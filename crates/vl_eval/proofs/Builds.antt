-- Operations added behind others: what was shown stays shown, and what the last one shows; then those of each form of
-- expression with a fixed number of operands.
use Rattle.std.proofs.Common.{◌≡◌, ◌<◌, ◌≤◌, ◌+◌, ◌-◌, ◌^◌, inl, inr, ℕ, max, Bool, true, false, ◌&&◌, List, [], ◌∷◌, ◌++◌, length, refl, sym, ap, subst, ◌∙◌, arith, ⊎_elim}
use Rattle.std.proofs.lemmas.Bool.{false≢true, cases_lt}
use Rattle.std.proofs.Math.Nat.{max_comm}
use Rattle.std.proofs.lemmas.List.{get_or_append_left, get_or_at, length-append, append_assoc, append-nil}
use Rattle.std.proofs.lemmas.List.Elements.{Contains-append_left, Contains-append_right}
use Rattle.vl_ast.specs.declared.expressions.UnOp.{UnOp}
use Rattle.vl_ast.specs.declared.expressions.UnOp.TheVariants.{Negate as NegateOf}
use Rattle.vl_ast.specs.declared.expressions.BinOp.{BinOp}
use Rattle.vl_ast.specs.declared.expressions.BinOp.TheVariants.{Greater as GreaterOf, GreaterEqual as GreaterEqualOf}
use Rattle.vl_ast.specs.declared.expressions.ShiftOp.{ShiftOp}
use Rattle.vl_ast.specs.declared.expressions.Sized.{Sized}
use Rattle.vl_ast.specs.declared.expressions.Expr.{Expr}
use Rattle.vl_ast.specs.declared.expressions.Expr.TheOpen.{Expr-F}
use Rattle.vl_ast.specs.declared.expressions.Expr.TheViews.{roll-Expr}
use Rattle.vl_ast.specs.declared.expressions.Expr.TheVariants.{Name, Bit, Part, Literal, AsSigned, AsUnsigned, Unary, Binary, Shift, Choose, rolls-Name, rolls-Bit, rolls-Part, rolls-Literal}
use Rattle.vl_ast.specs.declared.expressions.Expr.TheVariants.{rolls-AsSigned, rolls-AsUnsigned, rolls-Unary, rolls-Binary, rolls-Shift, rolls-Choose}
use Rattle.vl_ast.specs.Context.{Net, Place, InWhole, Together, Alone, own_length, is_signed, unary_place, binary_place, length_at}
use Rattle.vl_ast.specs.Conditions.{is_sound}
use Rattle.vl_ast.specs.Nets.{names_read}
use Rattle.vl_ast.specs.Value.{extended}
use Rattle.vl_ast.proofs.Agree.{ByLayer}
use Rattle.vl_check.specs.declared.scope.Scope.{Scope}
use Rattle.vl_check.specs.declared.shapes.Shape.{Shape}
use Rattle.vl_check.specs.Scope.{nets_in}
use Rattle.vl_check.specs.Shape.{shape_of}
use Rattle.vl_eval.specs.declared.ops.Op.{Op}
use Rattle.vl_eval.specs.declared.ops.Op.TheVariants.{Constant, One, Choose as ChooseOp}
use Rattle.vl_eval.specs.declared.ops.OneOp.TheVariants.{Extended, Select}
use Rattle.vl_eval.specs.inner.Ops.{reads_below, IsOrdered, IsSettled}
use Rattle.vl_eval.specs.inner.OperatorSteps.{unary_op, binary_op, shift_op}
use Rattle.vl_eval.specs.inner.Contexts.{context_at, context_of, unary_context, left_context, right_context, half_in}
use Rattle.vl_eval.specs.inner.PlaceBits.{Shows, Grows, Pushed, IsExtended}
use Rattle.vl_eval.specs.inner.Site.{Built, slot_in, ArePlaced}
use Rattle.vl_eval.proofs.Words.{shift-gives, shift-reads}
use Rattle.vl_eval.proofs.Forms.{and-turned, shows-unary-whole, shows-unary-alone, shows-whole, shows-together, shows-alone, shows-choice, shows-as-unsigned, shows-cast, shows-as-signed, shows-name}
use Rattle.vl_eval.proofs.Forms.{shows-signed-name, shows-bit, shows-part, shows-literal, shows-shift, Value, still-shows, settled-before}
use Rattle.vl_eval.proofs.Operands.{names-choose, sound-unary, length-unary, sound-binary, length-binary, sound-as-signed, length-as-signed, sound-shift, length-shift, steps-of}

-- what is done, then more behind it, and what both come to, unless something was wanting
pub behind : {was mid now : Bool} {Done More Both : Type 0} → (mid ≡ false → (was ≡ false) × Done) → (now ≡ false → (mid ≡ false) × More) → (Done → More → Both) → now ≡ false → (was ≡ false) × Both
behind done more both fine =
    let last = more fine in
    let first = done last.0 in
    (first.0, both first.1 last.1)

pub both-fine : {was mid now : Bool} {Done More : Type 0} → (mid ≡ false → (was ≡ false) × Done) → (now ≡ false → (mid ≡ false) × More) → now ≡ false → (was ≡ false) × (Done × More)
both-fine done more = behind done more (λ first last. (first, last))

pub fine-as : {was now : Bool} {Done Said : Type 0} → (now ≡ false → (was ≡ false) × Done) → (Done → Said) → now ≡ false → (was ≡ false) × Said
fine-as done said fine = let first = done fine in (first.0, said first.1)

-- operations added to operations
pub grows-more : (base : ℕ) (before mid after : List Op) → Grows base before mid → Grows base mid after → Grows base before after
grows-more base before mid after a b = record {
  more = a.more ++ b.more;
  grown = b.grown ∙ ap (λ ops. ops ++ b.more) a.grown ∙ append_assoc before a.more b.more;
  ordered = λ o. b.ordered (a.ordered o);
}

pub grows-none : (base : ℕ) (ops : List Op) → Grows base ops ops
grows-none base ops = record { more = []; grown = sym (append-nil ops); ordered = λ o. o }

pub ordered-more : (base : ℕ) (ops : List Op) (op : Op) → reads_below op (base + length ops) → IsOrdered base ops → IsOrdered base (ops ++ op ∷ [])
ordered-more base ops op r o = record {
  at = λ k d below.
      let longer = length-append ops (op ∷ []) in
      ⊎_elim
      (λ old. subst (λ o. reads_below o (base + k)) (sym (get_or_append_left ops (op ∷ []) d k old)) (o.at k d old))
      (λ new. let e : length ops ≡ k = omega (arith, longer) in
      subst (λ o. reads_below o (base + k)) (sym (get_or_at ops op [] d k e)) (subst (λ n. reads_below op (base + n)) e r))
      (cases_lt k (length ops));
}

pub grows-push : (base : ℕ) (before after : List Op) (slot : ℕ) (op : Op) → reads_below op (base + length before) → Pushed base before after slot op → Grows base before after
grows-push base before after slot op r p = record {
  more = op ∷ [];
  grown = p.grown;
  ordered = λ o. subst (λ ops. IsOrdered base ops) (sym p.grown) (ordered-more base before op r o);
}

pub grows-length : (base : ℕ) (before after : List Op) → Grows base before after → length before ≤ length after
grows-length base before after g = let l = ap length g.grown in let a = length-append before g.more in omega (arith, l, a)

unary-reads : (of : UnOp) (a mask end : ℕ) → a < end → reads_below (unary_op of a mask) end
unary-reads NegateOf a mask end below = (below, tt)
unary-reads _ a mask end below = (below, tt)

binary-reads : (of : BinOp) (a b mask half end : ℕ) → a < end → b < end → reads_below (binary_op of a b mask half) end
binary-reads GreaterOf a b mask half end l r = (r, l)
binary-reads GreaterEqualOf a b mask half end l r = (r, l)
binary-reads _ a b mask half end l r = (l, r)

never-together : (of : UnOp) → unary_place of ≡ Together → ⊥
never-together NegateOf e = absurd (cc e)
never-together _ e = absurd (cc e)

module _ (by_layer : ByLayer) (base : ℕ) (scope : Scope) (slots : List ℕ) where
  abbrev nets : List ℕ → Net
  nets = nets_in scope

  abbrev at : List ℕ → ℕ
  at = slot_in scope slots

  abbrev Now : List Op → ℕ → ℕ → Bool → Expr → Type 0
  Now = Shows base nets at

  abbrev Here : List Op → List Op → ℕ → ℕ → Bool → Expr → Type 0
  Here = Built base scope slots

  -- names stay placed, and so do those of an operand
  pub placed-later : (before after : List Op) (names : List (List ℕ)) → Grows base before after → ArePlaced base scope slots before names → ArePlaced base scope slots after names
  placed-later before after names g p = record {
    below = λ name c. let l = grows-length base before after g in let b = p.below name c in omega (arith, l, b);
    few = p.few;
  }

  pub placed-left : (ops : List Op) (xs ys : List (List ℕ)) → ArePlaced base scope slots ops (xs ++ ys) → ArePlaced base scope slots ops xs
  placed-left ops xs ys p = record { below = λ name c. p.below name (Contains-append_left xs ys name c); few = λ name c. p.few name (Contains-append_left xs ys name c) }

  pub placed-right : (ops : List Op) (xs ys : List (List ℕ)) → ArePlaced base scope slots ops (xs ++ ys) → ArePlaced base scope slots ops ys
  placed-right ops xs ys p = record { below = λ name c. p.below name (Contains-append_right xs ys name c); few = λ name c. p.few name (Contains-append_right xs ys name c) }

  pub placed-choose : (ops : List Op) (test chosen other : Expr) → ArePlaced base scope slots ops (names_read (Choose test chosen other))
      → ArePlaced base scope slots ops (names_read test) × ArePlaced base scope slots ops (names_read chosen) × ArePlaced base scope slots ops (names_read other)
  placed-choose ops test chosen other p =
      let all = subst (λ names. ArePlaced base scope slots ops names) (names-choose nets test chosen other) p in
      let rest = placed-right ops (names_read test) (names_read chosen ++ names_read other) all in (
        placed-left ops (names_read test) (names_read chosen ++ names_read other) all,
        placed-left ops (names_read chosen) (names_read other) rest,
        placed-right ops (names_read chosen) (names_read other) rest,
      )

  pub shows-later : (before after : List Op) (slot width : ℕ) (signed : Bool) (e : Expr) → Grows base before after → Now before slot width signed e → Now after slot width signed e
  shows-later before after slot width signed e g h =
      subst (λ ops. Now ops slot width signed e) (sym g.grown) (still-shows by_layer base nets at before g.more slot width signed e h)

  -- an operation at the end that shows the whole
  pub ends : (before mid after : List Op) (slot width : ℕ) (signed : Bool) (e x : Expr) (op : Op) → Grows base before mid → reads_below op (base + length mid) → Pushed base mid after slot op → x ≡ e
      → Now (mid ++ op ∷ []) (base + length mid) width signed x → Here before after slot width signed e
  ends before mid after slot width signed e x op g r p is h = record {
    grows = grows-more base before mid after g (grows-push base mid after slot op r p);
    shows = subst (λ z. Now after slot width signed z) is
        (subst (λ s. Now after s width signed x) (sym p.place) (subst (λ ops. Now ops (base + length mid) width signed x) (sym p.grown) h));
  }

  pub value : (ops : List Op) (slot width : ℕ) (signed : Bool) (e : Expr) → is_sound nets e ≡ true
      → own_length nets e ≤ width → Now ops slot width signed e
      → Value by_layer base nets at ops slot width signed e
  value ops slot width signed e ok le h = record { ok = steps-of nets e ok; longer = le; here = h }

  -- a place that was there shows the whole
  pub stays : (before mid : List Op) (slot width : ℕ) (signed : Bool) (e x : Expr) → Grows base before mid → x ≡ e → Now mid slot width signed x → Here before mid slot width signed e
  stays before mid slot width signed e x g is h = record { grows = g; shows = subst (λ z. Now mid slot width signed z) is h }

  pub alone-of : (ops : List Op) (slot : ℕ) (e : Expr) (inner : Shape) → inner.length ≡ own_length nets e
      → inner.signed ≡ is_signed nets e → Now ops slot inner.length inner.signed e
      → Now ops slot (own_length nets e) (is_signed nets e) e
  alone-of ops slot e inner l g h = subst (λ n. Now ops slot n (is_signed nets e) e) l (subst (λ t. Now ops slot inner.length t e) g h)

  pub settled-later : (before after : List Op) → Grows base before after → (values : ℕ → ℕ) → IsSettled base after values → IsSettled base before values
  settled-later before after g values s = settled-before base before g.more values (subst (λ ops. IsSettled base ops values) g.grown s)

  -- an operator before its operand
  pub built-unary : (of : UnOp) (part : Expr) (before mid after : List Op) (a slot width mask : ℕ) (signed : Bool)
      (inner : Shape) → is_sound nets (Unary of part) ≡ true → own_length nets (Unary of part) ≤ width → width ≤ 128
      → mask ≡ 2 ^ width - 1
      → inner ≡ unary_context nets of part width signed
      → Here before mid a inner.length inner.signed part → Pushed base mid after slot (unary_op of a mask) → Here before after slot width signed (Unary of part)
  built-unary of part before mid after a slot width mask signed inner ok le most full context b p = by (unary_place of) refl where
    ok' : is_sound nets part ≡ true
    ok' = sound-unary nets of part ok

    own : own_length nets (Unary of part) ≡ length_at (unary_place of) (own_length nets part)
    own = length-unary nets of part

    p' : Pushed base mid after slot (unary_op of a (2 ^ width - 1))
    p' = subst (λ m. Pushed base mid after slot (unary_op of a m)) full p

    reads : reads_below (unary_op of a (2 ^ width - 1)) (base + length mid)
    reads = unary-reads of a (2 ^ width - 1) (base + length mid) b.shows.below

    by : (place : Place) → unary_place of ≡ place → Here before after slot width signed (Unary of part)
    by InWhole e =
        let is : inner ≡ shape_of width signed = context ∙ ap (λ q. context_at q (shape_of width signed) (shape_of (own_length nets part) (is_signed nets part))) e in
        let shown : Now mid a width signed part = subst (λ (s : Shape). Now mid a s.length s.signed part) is b.shows in
        let le' : own_length nets part ≤ width = (let l = own ∙ ap (λ q. length_at q (own_length nets part)) e in omega (arith, l, le)) in
        ends before mid after slot width signed (Unary of part) _ (unary_op of a (2 ^ width - 1)) b.grows reads p' (rolls-Unary of part)
        (shows-unary-whole by_layer base nets at mid a width signed of part e most (value mid a width signed part ok' le' shown))
    by Alone e =
        let is : inner ≡ shape_of (own_length nets part) (is_signed nets part) = context ∙ ap (λ q. context_at q (shape_of width signed) (shape_of (own_length nets part) (is_signed nets part))) e in
        let shown : Now mid a (own_length nets part) (is_signed nets part) part = subst (λ (s : Shape). Now mid a s.length s.signed part) is b.shows in
        ends before mid after slot width signed (Unary of part) _ (unary_op of a (2 ^ width - 1)) b.grows reads p' (rolls-Unary of part)
        (shows-unary-alone by_layer base nets at mid a width signed of part e most (value mid a (own_length nets part) (is_signed nets part) part ok' (omega arith) shown))
    by Together e = absurd (never-together of e)

  -- one between its operands
  pub built-binary : (of : BinOp) (left right : Expr) (before one two after : List Op)
      (a b slot width mask half : ℕ) (signed : Bool) (lc rc : Shape) → is_sound nets (Binary of left right) ≡ true
      → own_length nets (Binary of left right) ≤ width → width ≤ 128 → mask ≡ 2 ^ width - 1
      → lc ≡ left_context nets of left right width signed → rc ≡ right_context nets of left right width signed → half ≡ half_in lc
      → Here before one a lc.length lc.signed left → Here one two b rc.length rc.signed right
      → Pushed base two after slot (binary_op of a b mask half)
      → Here before after slot width signed (Binary of left right)
  built-binary of left right before one two after a b slot width mask half signed lc rc ok le most full lcontext rcontext halves l r p = by (binary_place of) refl where
    oks : (is_sound nets left ≡ true) × (is_sound nets right ≡ true)
    oks = sound-binary nets of left right ok

    own : own_length nets (Binary of left right) ≡ length_at (binary_place of) (max (own_length nets left) (own_length nets right))
    own = length-binary nets of left right

    both : Grows base before two
    both = grows-more base before one two l.grows r.grows

    first : Now two a lc.length lc.signed left
    first = shows-later one two a lc.length lc.signed left r.grows l.shows

    reads : (m h : ℕ) → reads_below (binary_op of a b m h) (base + length two)
    reads m h = binary-reads of a b m h (base + length two) first.below r.shows.below

    p' : (h : ℕ) → half ≡ h → Pushed base two after slot (binary_op of a b (2 ^ width - 1) h)
    p' h e = subst (λ k. Pushed base two after slot (binary_op of a b (2 ^ width - 1) k)) e (subst (λ m. Pushed base two after slot (binary_op of a b m half)) full p)

    whole : Shape
    whole = shape_of width signed

    joint : Shape
    joint = shape_of (max (own_length nets left) (own_length nets right)) (is_signed nets left && is_signed nets right)

    finish : (h : ℕ) → half ≡ h → Now (two ++ binary_op of a b (2 ^ width - 1) h ∷ [])
        (base + length two) width signed (roll-Expr (Expr-F.Binary of left right))
        → Here before after slot width signed (Binary of left right)
    finish h e shown = ends before two after slot width signed (Binary of left right)
        (roll-Expr (Expr-F.Binary of left right)) (binary_op of a b (2 ^ width - 1) h) both
        (reads (2 ^ width - 1) h) (p' h e) (rolls-Binary of left right) shown

    by : (place : Place) → binary_place of ≡ place → Here before after slot width signed (Binary of left right)
    by InWhole e =
        let isl : lc ≡ shape_of width signed = lcontext ∙ ap (λ q. context_of q width signed (own_length nets left) (own_length nets right) (is_signed nets left) (is_signed nets right)) e in
        let isr : rc ≡ shape_of width signed = rcontext ∙ ap (λ q. context_of q width signed (own_length nets right) (own_length nets left) (is_signed nets right) (is_signed nets left)) e in
        let lenght' = own ∙ ap (λ q. length_at q (max (own_length nets left) (own_length nets right))) e in
        finish half refl (shows-whole by_layer base nets at two a b width half signed of left right e most
        (value two a width signed left oks.0 (omega (arith, lenght', le)) (subst (λ (s : Shape). Now two a s.length s.signed left) isl first))
        (value two b width signed right oks.1 (omega (arith, lenght', le)) (subst (λ (s : Shape). Now two b s.length s.signed right) isr r.shows)))
    by Together e =
        let isl : lc ≡ joint = lcontext ∙ ap (λ q. context_of q width signed (own_length nets left) (own_length nets right) (is_signed nets left) (is_signed nets right)) e in
        let isr : rc ≡ joint = rcontext ∙ ap (λ q. context_of q width signed (own_length nets right) (own_length nets left) (is_signed nets right) (is_signed nets left)) e
        ∙ (λ i. shape_of (max_comm (own_length nets right) (own_length nets left) i) (and-turned (is_signed nets right) (is_signed nets left) i)) in
        let h : half ≡ half_in joint = halves ∙ ap half_in isl in
        finish (half_in joint) h (shows-together by_layer base nets at two a b width (2 ^ width - 1) signed of left right e
        (value two a joint.length joint.signed left oks.0 (omega arith) (subst (λ (s : Shape). Now two a s.length s.signed left) isl first))
        (value two b joint.length joint.signed right oks.1 (omega arith) (subst (λ (s : Shape). Now two b s.length s.signed right) isr r.shows)))
    by Alone e =
        let isl : lc ≡ shape_of (own_length nets left) (is_signed nets left) =
        lcontext ∙ ap (λ q. context_of q width signed (own_length nets left) (own_length nets right)
        (is_signed nets left) (is_signed nets right)) e in
        let isr : rc ≡ shape_of (own_length nets right) (is_signed nets right) =
        rcontext ∙ ap (λ q. context_of q width signed (own_length nets right) (own_length nets left)
        (is_signed nets right) (is_signed nets left)) e in
        finish half refl (shows-alone by_layer base nets at two a b width (2 ^ width - 1) half signed of left right e
        (value two a (own_length nets left) (is_signed nets left) left oks.0 (omega arith) (subst (λ (s : Shape). Now two a s.length s.signed left) isl first))
        (value two b (own_length nets right) (is_signed nets right) right oks.1 (omega arith) (subst (λ (s : Shape). Now two b s.length s.signed right) isr r.shows)))

  -- a name
  pub built-name : (name : List ℕ) (ops : List Op) (slot width : ℕ) (signed : Bool) → slot ≡ at name → at name < base + length ops → signed ≡ false → Here ops ops slot width signed (Name name)
  built-name name ops slot width signed is below plain =
      stays ops ops slot width signed (Name name) (roll-Expr (Expr-F.Name name)) (grows-none base ops) (rolls-Name name)
      (subst (λ k. Now ops k width signed (roll-Expr (Expr-F.Name name))) (sym is) (shows-name by_layer base nets at ops width signed name below (λ s. absurd (false≢true (sym plain ∙ s)))))

  pub built-signed-name : (name : List ℕ) (before after : List Op) (part slot width from : ℕ) (signed : Bool)
      → part ≡ at name → from ≡ (nets name).width → at name < base + length before → from ≤ width → width ≤ 128
      → signed ≡ true
      → IsExtended base before after slot part from width → Here before after slot width signed (Name name)
  built-signed-name name before after part slot width from signed is net below le most sign (inl (same, place, ops)) =
      subst (λ zs. Here before zs slot width signed (Name name)) (sym ops)
      (stays before before slot width signed (Name name) (roll-Expr (Expr-F.Name name)) (grows-none base before) (rolls-Name name)
      (subst (λ k. Now before k width signed (roll-Expr (Expr-F.Name name))) (sym (place ∙ is)) (shows-name by_layer base nets at before width signed name below (λ _. sym net ∙ same))))
  built-signed-name name before after part slot width from signed is net below le most sign (inr p) =
      let op = One (Extended (2 ^ ((nets name).width - 1)) (2 ^ width - 2 ^ (nets name).width)) (at name) in
      let p' : Pushed base before after slot op = subst (λ o. Pushed base before after slot o) (λ i. One (Extended (2 ^ (net i - 1)) (2 ^ width - 2 ^ net i)) (is i)) p in
      subst (λ s. Here before after slot width s (Name name)) (sym sign)
      (ends before before after slot width true (Name name) (roll-Expr (Expr-F.Name name)) op (grows-none base before) (below, tt) p' (rolls-Name name)
      (shows-signed-name by_layer base nets at before width name (subst (λ n. n ≤ width) net le) most))

  pub built-bit : (name : List ℕ) (place : ℕ) (before after : List Op) (part slot width : ℕ) (signed : Bool) → part ≡ at name → at name < base + length before → place < 128
      → Pushed base before after slot (One (Select place 1) part) → Here before after slot width signed (Bit name place)
  built-bit name place before after part slot width signed is below low p =
      ends before before after slot width signed (Bit name place) (roll-Expr (Expr-F.Bit name place)) (One (Select place 1) (at name)) (grows-none base before) (below, low)
      (subst (λ k. Pushed base before after slot (One (Select place 1) k)) is p) (rolls-Bit name place) (shows-bit by_layer base nets at before width signed name place)

  pub built-part : (name : List ℕ) (high low : ℕ) (before after : List Op) (part slot width mask : ℕ)
      (signed : Bool) → part ≡ at name → at name < base + length before → low < 128
      → mask ≡ 2 ^ (high + 1 - low) - 1
      → Pushed base before after slot (One (Select low mask) part) → Here before after slot width signed (Part name high low)
  built-part name high low before after part slot width mask signed is below small full p =
      ends before before after slot width signed (Part name high low) (roll-Expr (Expr-F.Part name high low))
      (One (Select low (2 ^ (high + 1 - low) - 1)) (at name)) (grows-none base before) (below, small)
      (subst (λ k. Pushed base before after slot (One (Select low (2 ^ (high + 1 - low) - 1)) k)) is
      (subst (λ m. Pushed base before after slot (One (Select low m) part)) full p)) (rolls-Part name high low)
      (shows-part by_layer base nets at before width signed name high low)

  pub built-literal : (number : Sized) (before after : List Op) (bits slot width : ℕ) (signed : Bool) → bits ≡ extended (record { width = number.width; signed = signed; bits = number.bits }) width
      → Pushed base before after slot (Constant bits) → Here before after slot width signed (Literal number)
  built-literal number before after bits slot width signed is p =
      ends before before after slot width signed (Literal number) (roll-Expr (Expr-F.Literal number)) (Constant bits) (grows-none base before) tt p (rolls-Literal number)
      (shows-literal by_layer base nets at before bits width signed number is)

  -- casts
  pub built-as-unsigned : (part : Expr) (before after : List Op) (slot width : ℕ) (signed : Bool) (inner : Shape) → inner.length ≡ own_length nets part → inner.signed ≡ is_signed nets part
      → Here before after slot inner.length inner.signed part → Here before after slot width signed (AsUnsigned part)
  built-as-unsigned part before after slot width signed inner l g b =
      stays before after slot width signed (AsUnsigned part) (roll-Expr (Expr-F.AsUnsigned part)) b.grows (rolls-AsUnsigned part)
      (shows-as-unsigned by_layer base nets at after slot width signed part (alone-of after slot part inner l g b.shows))

  pub built-as-signed-plain : (part : Expr) (before after : List Op) (slot width : ℕ) (signed : Bool)
      (inner : Shape) → inner.length ≡ own_length nets part → inner.signed ≡ is_signed nets part → signed ≡ false
      → Here before after slot inner.length inner.signed part → Here before after slot width signed (AsSigned part)
  built-as-signed-plain part before after slot width signed inner l g plain b =
      stays before after slot width signed (AsSigned part) (roll-Expr (Expr-F.AsSigned part)) b.grows (rolls-AsSigned part)
      (shows-cast by_layer base nets at after slot width signed part (λ s. absurd (false≢true (sym plain ∙ s))) (alone-of after slot part inner l g b.shows))

  pub built-as-signed : (part : Expr) (before mid after : List Op) (a slot width : ℕ) (signed : Bool)
      (inner : Shape) → is_sound nets (AsSigned part) ≡ true → own_length nets (AsSigned part) ≤ width → width ≤ 128
      → inner.length ≡ own_length nets part → inner.signed ≡ is_signed nets part → signed ≡ true
      → Here before mid a inner.length inner.signed part → IsExtended base mid after slot a inner.length width → Here before after slot width signed (AsSigned part)
  built-as-signed part before mid after a slot width signed inner ok le most l g sign b (inl (same, place, ops)) =
      let h = alone-of mid a part inner l g b.shows in
      subst (λ zs. Here before zs slot width signed (AsSigned part)) (sym ops)
      (stays before mid slot width signed (AsSigned part) (roll-Expr (Expr-F.AsSigned part)) b.grows (rolls-AsSigned part)
      (subst (λ k. Now mid k width signed (roll-Expr (Expr-F.AsSigned part))) (sym place) (shows-cast by_layer base nets at mid a width signed part (λ _. sym l ∙ same) h)))
  built-as-signed part before mid after a slot width signed inner ok le most l g sign b (inr p) =
      let own = own_length nets part in
      let h = alone-of mid a part inner l g b.shows in
      let op = One (Extended (2 ^ (own - 1)) (2 ^ width - 2 ^ own)) a in
      let p' : Pushed base mid after slot op = subst (λ n. Pushed base mid after slot (One (Extended (2 ^ (n - 1)) (2 ^ width - 2 ^ n)) a)) l p in
      let le' : own ≤ width = (let k = length-as-signed nets part in omega (arith, k, le)) in
      subst (λ s. Here before after slot width s (AsSigned part)) (sym sign)
      (ends before mid after slot width true (AsSigned part) (roll-Expr (Expr-F.AsSigned part)) op b.grows (h.below, tt) p' (rolls-AsSigned part)
      (shows-as-signed by_layer base nets at mid a width part le' most (value mid a own (is_signed nets part) part (sound-as-signed nets part ok) (omega arith) h)))

  pub built-shift : (of : ShiftOp) (part : Expr) (amount : Sized) (before mid after : List Op) (a slot width : ℕ)
      (signed : Bool) → is_sound nets (Shift of part amount) ≡ true → own_length nets (Shift of part amount) ≤ width
      → width ≤ 128
      → Here before mid a width signed part → Pushed base mid after slot (shift_op of a amount.bits width signed) → Here before after slot width signed (Shift of part amount)
  built-shift of part amount before mid after a slot width signed ok le most b p =
      let k = length-shift nets of part amount in
      ends before mid after slot width signed (Shift of part amount) (roll-Expr (Expr-F.Shift of part amount)) (shift_op of a amount.bits width signed) b.grows
      (shift-reads of a amount.bits width signed (base + length mid) b.shows.below most) p (rolls-Shift of part amount)
      (shows-shift by_layer base nets at mid (shift_op of a amount.bits width signed) a width signed of part amount
      (value mid a width signed part (sound-shift nets of part amount ok).0 (omega (arith, k, le)) b.shows)
      (λ values low. shift-gives of a amount.bits width signed values most low))

  pub built-choice : (test chosen other : Expr) (before one two three after : List Op) (t c o slot width : ℕ)
      (signed : Bool) (inner : Shape) → inner.length ≡ own_length nets test → inner.signed ≡ is_signed nets test
      → Here before one t inner.length inner.signed test → Here one two c width signed chosen
      → Here two three o width signed other → Pushed base three after slot (ChooseOp t c o)
      → Here before after slot width signed (Choose test chosen other)
  built-choice test chosen other before one two three after t c o slot width signed inner l g bt bc bo p =
      let ht = shows-later two three t (own_length nets test) (is_signed nets test) test bo.grows
      (shows-later one two t (own_length nets test) (is_signed nets test) test bc.grows
      (alone-of one t test inner l g bt.shows)) in
      let hc = shows-later two three c width signed chosen bo.grows bc.shows in
      let ho = bo.shows in
      ends before three after slot width signed (Choose test chosen other) (roll-Expr (Expr-F.Choose test chosen other)) (ChooseOp t c o)
      (grows-more base before two three (grows-more base before one two bt.grows bc.grows) bo.grows) (ht.below, hc.below, ho.below) p (rolls-Choose test chosen other)
      (shows-choice by_layer base nets at three t c o width signed test chosen other ht hc ho)
