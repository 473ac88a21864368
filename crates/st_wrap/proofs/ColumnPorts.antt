-- What the wrapper has of each column, and which ports of the core are columns.
use Rattle.std.proofs.Common.{◌≡◌, ℕ, zero, suc, ◌+◌, ◌-◌, drop, ◌<◌, ◌≤◌, max, fold, ⊎_elim, Bool, true, false, not, ◌&&◌, ◌||◌, if◌then◌else◌, List, [], ◌∷◌, map, filter, length, Contains, bytes_eq}
use Rattle.std.proofs.Common.{codes, Some, refl, sym, ap, subst, ◌∙◌, arith}
use Rattle.std.specs.Prelude.{slice_get}
use Rattle.std.specs.List.{range_with_len, zip}
use Rattle.std.proofs.lemmas.Bool.{and_parts, not-true, or_parts}
use Rattle.std.proofs.lemmas.List.{drop_all}
use Rattle.std.proofs.lemmas.List.Elements.{Contains-append_left, Contains-append_right}
use Rattle.vl_ast.specs.declared.expressions.Expr.TheVariants.{Name}
use Rattle.vl_ast.specs.declared.modules.ModItem.TheVariants.{Assign, Wire}
use Rattle.vl_ast.specs.declared.modules.Port.{Port}
use Rattle.vl_ast.specs.declared.modules.Module.{Module}
use Rattle.vl_ast.specs.Control.{is_clock_or_reset, is_control_input, is_control_output, is_number_input, is_number_output, is_stallable}
use Rattle.math_list.proofs.Elements.{cons-cases, head-in, map-in, none-in, tail-in}
use Rattle.st_wrap.specs.declared.columns.Column.{Column}
use Rattle.st_wrap.specs.declared.pace.Counters.{Counters}
use Rattle.st_wrap.specs.Pace.{samples_late}
use Rattle.st_wrap.specs.inner.Columns.{column_of, input_column, output_column, stage_declared, stage_driven, stage_name}
use Rattle.st_wrap.specs.inner.Names.{inner_name}
use Rattle.st_wrap.specs.inner.CoreNames.{wires_of}
use Rattle.st_wrap.specs.inner.Wrapper.{made_of}
use Rattle.st_wrap.proofs.CoreInputs.{HasInput}
use Rattle.st_wrap.proofs.Late.{HasOutput}
use Rattle.st_wrap.proofs.Structure.{declared-there, driven-there, input-port, output-port, wire-there}
use Rattle.math_list.proofs.Places.{fold-start}

-- ---- lists

pub from-filter : {A : Type 0} (p : A → Bool) (xs : List A) (x : A) → Contains (filter p xs) x → Contains xs x × (p x ≡ true)
from-filter p [] x h = absurd (none-in x h)
from-filter p (y ∷ ys) x h = by (from-filter p ys x) (p y) refl h where
  by : (Contains (filter p ys) x → Contains ys x × (p x ≡ true)) → (b : Bool) → p y ≡ b → Contains (if b then y ∷ filter p ys else filter p ys) x → Contains (y ∷ ys) x × (p x ≡ true)
  by rest true e c = ⊎_elim (λ s. (subst (λ z. Contains (y ∷ ys) z) s (head-in y ys), subst (λ z. p z ≡ true) s e)) (λ t. let r = rest t in (tail-in y x ys r.0, r.1)) (cons-cases y x (filter p ys) c)
  by rest false e c = let r = rest c in (tail-in y x ys r.0, r.1)

pub to-filter : {A : Type 0} (p : A → Bool) (xs : List A) (x : A) → Contains xs x → p x ≡ true → Contains (filter p xs) x
to-filter p [] x h e = absurd (none-in x h)
to-filter p (y ∷ ys) x h e = by (λ c. to-filter p ys x c e) (p y) refl where
  by : (Contains ys x → Contains (filter p ys) x) → (b : Bool) → p y ≡ b → Contains (if b then y ∷ filter p ys else filter p ys) x
  by rest true f = ⊎_elim (λ s. subst (λ z. Contains (y ∷ filter p ys) z) s (head-in y (filter p ys))) (λ t. tail-in y x (filter p ys) (rest t)) (cons-cases y x ys h)
  by rest false f = ⊎_elim (λ s. absurd (let g : true ≡ false = sym e ∙ ap p (sym s) ∙ f in cc g)) (λ t. rest t) (cons-cases y x ys h)

-- an element that stands at a place of a list
pub got-in : {A : Type 0} (xs : List A) (k : ℕ) (x : A) → slice_get xs k ≡ Some x → Contains xs x
got-in [] k x e = absurd (cc e)
got-in (y ∷ ys) zero x e = let s : y ≡ x = cc e in subst (λ z. Contains (y ∷ ys) z) s (head-in y ys)
got-in (y ∷ ys) (suc k) x e = tail-in y x ys (got-in ys k x e)

pub zip-left : {A B : Type 0} (xs : List A) (ys : List B) (p : A × B) → Contains (zip xs ys) p → Contains xs p.0
zip-left [] ys p h = absurd (none-in p h)
zip-left (x ∷ xs) [] p h = absurd (none-in p h)
zip-left (x ∷ xs) (y ∷ ys) p h = ⊎_elim (λ s. subst (λ (q : _ × _). Contains (x ∷ xs) q.0) s (head-in x xs)) (λ t. tail-in x p.0 xs (zip-left xs ys p t)) (cons-cases (x, y) p (zip xs ys) h)

-- an element with its partner
pub record Paired {A B : Type 0} (xs : List A) (ys : List B) (x : A) : Type 0 where
  pub place : ℕ
  pub partner : B
  pub at : slice_get (zip xs ys) place ≡ Some (x, partner)

pub paired : {A B : Type 0} (xs : List A) (ys : List B) (x : A) → length xs ≤ length ys → Contains xs x → Paired xs ys x
paired [] ys x h c = absurd (none-in x c)
paired (z ∷ xs) [] x h c = absurd (omega (arith, h))
paired (z ∷ xs) (y ∷ ys) x h c = ⊎_elim
    (λ s. record { place = 0; partner = y; at = (λ i. Some (s i, y)) })
    (λ t. let r = paired xs ys x (omega (arith, h)) t in record { place = suc r.place; partner = r.partner; at = r.at })
    (cons-cases z x xs c)

pub fold-most : (ns : List ℕ) (a n : ℕ) → Contains ns n → n ≤ fold max a ns
fold-most [] a n c = absurd (none-in n c)
fold-most (m ∷ ns) a n c = ⊎_elim (λ s. let r = fold-start ns (max a m) in omega (arith, r, s)) (λ t. fold-most ns (max a m) n t) (cons-cases m n ns c)

pub range-in : (start count k : ℕ) → k < count → Contains (range_with_len start count) (start + k)
range-in start zero k h = absurd (omega (arith, h))
range-in start (suc count) zero h = let e : start ≡ start + 0 = omega arith in subst (λ n. Contains (range_with_len start (suc count)) n) e (head-in start _)
range-in start (suc count) (suc k) h =
    let e : start + 1 + k ≡ start + suc k = omega arith in
    subst (λ n. Contains (range_with_len start (suc count)) n) e (tail-in start (start + 1 + k) _ (range-in (start + 1) count k (omega (arith, h))))

-- ---- columns of the wrapper

module _ (core : Module) (counters : Counters) (inputs outputs : List Column) where
  abbrev m : Module
  m = made_of core counters inputs outputs

  pub has-input : (column : Column) → Contains inputs column
      → Contains (wires_of core) (Wire column.signed column.width (inner_name column.inner))
      → HasInput (made_of core counters inputs outputs) column
  has-input column c w = record {
    port = input-port core counters inputs outputs column c;
    wire = wire-there core counters inputs outputs _ w;
    held = (declared-there core counters inputs outputs).input column c _ (head-in _ []);
    assigned = (driven-there core counters inputs outputs).input column c _ (0, omega arith, refl);
    clocked = (driven-there core counters inputs outputs).input column c _ (1, omega arith, refl);
  }

  pub has-output : (column : Column) → Contains outputs column
      → Contains (wires_of core) (Wire column.signed column.width (inner_name column.inner))
      → HasOutput (made_of core counters inputs outputs) column
  has-output column c w = record {
    port = output-port core counters inputs outputs column c;
    wire = wire-there core counters inputs outputs _ w;
    stages = λ place low. (declared-there core counters inputs outputs).output column c _ (map-in (stage_declared column) (range_with_len 0 column.late) place (from-zero place low));
    steps = λ place low. (driven-there core counters inputs outputs).output column c _
        (Contains-append_left (map (stage_driven column) (range_with_len 0 column.late)) _ _ (map-in (stage_driven column) (range_with_len 0 column.late) place (from-zero place low)));
    shown = (driven-there core counters inputs outputs).output column c _
        (Contains-append_right (map (stage_driven column) (range_with_len 0 column.late)) (Assign column.name (Name (stage_name column column.late)) ∷ []) _ (head-in _ []));
  } where
    from-zero : (place : ℕ) → place < column.late → Contains (range_with_len 0 column.late) place
    from-zero place low = let e : 0 + place ≡ place = omega arith in subst (λ n. Contains (range_with_len 0 column.late) n) e (range-in 0 column.late place low)

-- ---- ports of the core

module _ (core : Module) where
  -- an input that carries numbers isn't shared
  pub number-input : (port : Port) → is_number_input (is_stallable core) port ≡ true → (port.input ≡ true) × (is_clock_or_reset port ≡ false)
  number-input port e =
      let p = and_parts port.input (not (is_control_input (is_stallable core) port)) e in
      let off = not-true (is_control_input (is_stallable core) port) p.1 in
      (p.0, (or_parts (is_stallable core && bytes_eq port.name (codes "clk_enable")) (is_clock_or_reset port) off).1)

  pub number-output : (port : Port) → is_number_output (is_stallable core) port ≡ true → port.input ≡ false
  number-output port e = (or_parts (is_control_output (is_stallable core) port) port.input (not-true (is_control_output (is_stallable core) port || port.input) e)).1

-- ---- the columns of the ports that have names

none-late : (n : ℕ) → 0 - n ≡ 0
none-late n = omega arith

pub input-columns : (cycles : ℕ) (named : List (Port × List ℕ)) → map (output_column cycles 0) named ≡ map input_column named
input-columns cycles named = λ i. map (λ (pair : Port × List ℕ). column_of (none-late (samples_late cycles pair.0) i) pair) named

-- the names behind those of the first ports
pub others-behind : {A B C : Type 0} (f : A × B → C) (xs : List A) (ys : List B) → drop (length (map f (zip xs ys))) ys ≡ drop (length xs) ys
others-behind f [] ys = refl
others-behind f (x ∷ xs) [] = sym (drop_all (length (x ∷ xs)) [] (omega arith))
others-behind f (x ∷ xs) (y ∷ ys) = others-behind f xs ys
