-- What the lines drive, as one more line comes.
use Rattle.std.proofs.Common.{◌≡◌, ℕ, ◌<◌, ◌+◌, Bool, true, false, cond, ◌&&◌, ◌||◌, eqb, List, [], ◌∷◌, ◌++◌, length, take, min, set, get_or, add-zero, refl, sym, ap, subst, ◌∙◌, inl, inr, arith}
use Rattle.std.proofs.lemmas.Bool.{cases_eq, eq-eqb, ne_eqb}
use Rattle.std.proofs.lemmas.List.{take_more}
use Rattle.std.proofs.lemmas.List.Folds.{list_any-append}
use Rattle.dg_model.specs.declared.nested.NestedBlock.{NestedBlock}
use Rattle.dg_model.specs.declared.nested.NestedLine.{NestedLine}
use Rattle.dg_model.specs.declared.nested.Target.{Target}
use Rattle.dg_model.specs.declared.nested.Target.TheVariants.{Port, Enable as ToEnable}
use Rattle.dg_flat.specs.Rules.{drivers, is_port, is_enable_end}
use Rattle.dg_flat.specs.inner.Ports.{one_more, port_drivers, control_drivers, is_lacking, lacks_output, lacks_input}
use Rattle.dg_flat.specs.inner.Tables.{HasCell, IsTable, IsRowTable, cell_at}
use Rattle.dg_flat.proofs.Tables.{table_set, table_same}
use Rattle.dg_flat.proofs.Cells.{rows_set, rows_same}
use Rattle.math_list.proofs.Tests.{and_false}
use Rattle.dg_flat.proofs.Firsts.{count_push}

-- what is read where no line stands
abbrev pub no_line : NestedLine
no_line = record { from = 0; from_port = 0; to = 0; target = Port 0 }

pub take_line : (lines : List NestedLine) (i : ℕ) → i < length lines → take (i + 1) lines ≡ take i lines ++ get_or lines i no_line ∷ []
take_line lines i inside = take_more lines i no_line inside

-- ---- drivers

more_two : (n : ℕ) → one_more (min 2 n) ≡ min 2 (n + 1)
more_two n = omega arith

abbrev ends_at : ℕ → (Target → Bool) → NestedLine → Bool
ends_at place is_end line = eqb line.to place && is_end line.target

pub driven_more : (done : List NestedLine) (line : NestedLine) (place : ℕ) (is_end : Target → Bool) → ends_at place is_end line ≡ true →
    one_more (min 2 (drivers done place is_end)) ≡ min 2 (drivers (done ++ line ∷ []) place is_end)
driven_more done line place is_end here =
    more_two (drivers done place is_end)
    ∙ sym (ap (min 2) (count_push (ends_at place is_end) done line ∙ ap (λ (b : Bool). drivers done place is_end + cond b 1 0) here))

pub driven_same : (done : List NestedLine) (line : NestedLine) (place : ℕ) (is_end : Target → Bool) → ends_at place is_end line ≡ false →
    min 2 (drivers done place is_end) ≡ min 2 (drivers (done ++ line ∷ []) place is_end)
driven_same done line place is_end other =
    sym (ap (min 2) (count_push (ends_at place is_end) done line ∙ ap (λ (b : Bool). drivers done place is_end + cond b 1 0) other ∙ add-zero (drivers done place is_end)))

here_ends : (line : NestedLine) (is_end : Target → Bool) → is_end line.target ≡ true → ends_at line.to is_end line ≡ true
here_ends line is_end is = ap (λ (b : Bool). b && is_end line.target) (eq-eqb line.to line.to refl) ∙ is

elsewhere : (line : NestedLine) (place : ℕ) (is_end : Target → Bool) → (place ≡ line.to → ⊥) → ends_at place is_end line ≡ false
elsewhere line place is_end apart = ap (λ (b : Bool). b && is_end line.target) (ne_eqb line.to place (λ e. apart (sym e)))

no_end : (line : NestedLine) (place : ℕ) (is_end : Target → Bool) → is_end line.target ≡ false → ends_at place is_end line ≡ false
no_end line place is_end not = ap (λ (b : Bool). eqb line.to place && b) not ∙ and_false (eqb line.to place)

pub control_more : (done : List NestedLine) (line : NestedLine) (count : ℕ) (table : List ℕ) → line.target ≡ ToEnable → line.to < count →
    IsTable count (control_drivers done) table → IsTable count (control_drivers (done ++ line ∷ [])) (set table line.to (one_more (get_or table line.to 0)))
control_more done line count table target inside is =
    table_set count (control_drivers done) (control_drivers (done ++ line ∷ [])) table line.to (one_more (get_or table line.to 0)) inside
    (ap one_more (is.at line.to 0 inside) ∙ driven_more done line line.to is_enable_end (here_ends line is_enable_end (ap is_enable_end target)))
    (λ k below apart. driven_same done line k is_enable_end (elsewhere line k is_enable_end apart))
    is

pub control_same : (done : List NestedLine) (line : NestedLine) (count : ℕ) (table : List ℕ) → is_enable_end line.target ≡ false →
    IsTable count (control_drivers done) table → IsTable count (control_drivers (done ++ line ∷ [])) table
control_same done line count table not is =
    table_same count (control_drivers done) (control_drivers (done ++ line ∷ [])) table (λ k below. driven_same done line k is_enable_end (no_end line k is_enable_end not)) is

pub port_more : (done : List NestedLine) (line : NestedLine) (port cell : ℕ) (lengths table : List ℕ) → line.target ≡ Port port → HasCell lengths line.to port → cell ≡ cell_at lengths line.to port →
    IsRowTable lengths (port_drivers done) table → IsRowTable lengths (port_drivers (done ++ line ∷ [])) (set table cell (one_more (get_or table cell 0)))
port_more done line port cell lengths table target has cell_is is =
    rw cell_is (
    rows_set lengths (port_drivers done) (port_drivers (done ++ line ∷ [])) table line.to port (one_more (get_or table (cell_at lengths line.to port) 0)) has
    (ap one_more (is.at line.to port 0 has) ∙ driven_more done line line.to (is_port port) (here_ends line (is_port port) (ap (is_port port) target ∙ eq-eqb port port refl)))
    (λ r n its apart. driven_same done line r (is_port n) (other r n apart))
    is) where
      other : (r n : ℕ) → ((r ≡ line.to) × (n ≡ port) → ⊥) → ends_at r (is_port n) line ≡ false
      other r n apart = elim (cases_eq r line.to) [
        | inl e ↦ no_end line r (is_port n) (ap (is_port n) target ∙ ne_eqb port n (λ same. apart (e, sym same)))
        | inr ne ↦ elsewhere line r (is_port n) ne
      ]

pub port_past : (done : List NestedLine) (line : NestedLine) (port : ℕ) (lengths table : List ℕ) → line.target ≡ Port port → ¬ HasCell lengths line.to port →
    IsRowTable lengths (port_drivers done) table → IsRowTable lengths (port_drivers (done ++ line ∷ [])) table
port_past done line port lengths table target past is =
    rows_same lengths (port_drivers done) (port_drivers (done ++ line ∷ [])) table (λ r n its. driven_same done line r (is_port n) (other r n its)) is where
      other : (r n : ℕ) → HasCell lengths r n → ends_at r (is_port n) line ≡ false
      other r n its = elim (cases_eq r line.to) [
        | inl e ↦ no_end line r (is_port n) (ap (is_port n) target ∙ ne_eqb port n (λ same. past (subst (λ (k : ℕ). HasCell lengths k port) e (subst (λ (k : ℕ). HasCell lengths r k) (sym same) its))))
        | inr ne ↦ elsewhere line r (is_port n) ne
      ]

pub port_none : (done : List NestedLine) (line : NestedLine) (lengths table : List ℕ) → ((n : ℕ) → is_port n line.target ≡ false) →
    IsRowTable lengths (port_drivers done) table → IsRowTable lengths (port_drivers (done ++ line ∷ [])) table
port_none done line lengths table not is =
    rows_same lengths (port_drivers done) (port_drivers (done ++ line ∷ [])) table (λ r n its. driven_same done line r (is_port n) (no_end line r (is_port n) (not n))) is

-- ---- marks

or_false : (b : Bool) → b ≡ (b || false)
or_false true = refl
or_false false = refl

or_three : (a b d : Bool) → ((a || b) || d) ≡ (a || ((b || d) || false))
or_three true b d = refl
or_three false true d = refl
or_three false false true = refl
or_three false false false = refl

mark_at : (count : ℕ) (value : ℕ → Bool) (table : List Bool) (place : ℕ) (lacks : Bool) → place < count → IsTable count value table →
    IsTable count (λ k. value k || (eqb place k && lacks)) (set table place (get_or table place false || lacks))
mark_at count value table place lacks inside is =
    table_set count value (λ k. value k || (eqb place k && lacks)) table place (get_or table place false || lacks) inside
    (ap (λ (b : Bool). b || lacks) (is.at place false inside) ∙ sym (ap (λ (b : Bool). value place || (b && lacks)) (eq-eqb place place refl)))
    (λ k below apart. or_false (value k) ∙ sym (ap (λ (b : Bool). value k || (b && lacks)) (ne_eqb place k (λ e. apart (sym e)))))
    is

pub marked_more : (blocks : List NestedBlock) (done : List NestedLine) (line : NestedLine) (count : ℕ) (table once : List Bool) → line.from < count → line.to < count →
    once ≡ set table line.from (get_or table line.from false || lacks_output blocks line) →
    IsTable count (is_lacking blocks done) table →
    IsTable count (is_lacking blocks (done ++ line ∷ [])) (set once line.to (get_or once line.to false || lacks_input blocks line))
marked_more blocks done line count table once from to once_is is =
    rw once_is (
    let before = mark_at count (is_lacking blocks done) table line.from (lacks_output blocks line) from is in
    let both = mark_at count (λ k. is_lacking blocks done k || (eqb line.from k && lacks_output blocks line))
    (set table line.from (get_or table line.from false || lacks_output blocks line)) line.to
    (lacks_input blocks line) to before in
    table_same count
    (λ k. (is_lacking blocks done k || (eqb line.from k && lacks_output blocks line)) || (eqb line.to k && lacks_input blocks line))
    (is_lacking blocks (done ++ line ∷ []))
    (set (set table line.from (get_or table line.from false || lacks_output blocks line)) line.to
    (get_or (set table line.from (get_or table line.from false || lacks_output blocks line)) line.to false
    || lacks_input blocks line))
    (λ k below. or_three (is_lacking blocks done k) (eqb line.from k && lacks_output blocks line) (eqb line.to k && lacks_input blocks line)
    ∙ sym (list_any-append (λ (l : NestedLine). (eqb l.from k && lacks_output blocks l) || (eqb l.to k && lacks_input blocks l)) done (line ∷ [])))
    both)
