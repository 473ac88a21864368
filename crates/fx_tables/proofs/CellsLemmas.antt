-- The numbers of a stimulus without a fault fit their columns.
use Rattle.std.proofs.Common.{◌≡◌, ℕ, zero, suc, ◌+◌, ◌*◌, ◌<◌, ◌≤◌, Bool, true, false, not, None, Some, Option, List, [], ◌∷◌, ◌++◌, length, map, eqb, refl, sym, ap, subst, ◌∙◌, arith, rules}
use Rattle.std.specs.Prelude.{ℤ, pos, slice_get, if◌then◌else◌}
use Rattle.std.specs.List.{flat_map}
use Rattle.std.specs.Option.{option_or}
use Rattle.std.specs.Str.Lines.{lines}
use Rattle.std.proofs.lemmas.Bool.{false≢true, cond-true, cond-false}
use Rattle.std.proofs.lemmas.Bool.Decides.{nat_tests}
use Rattle.std.proofs.lemmas.List.{length-map}
use Rattle.std.proofs.Math.Nat.{suc-mul}
use Rattle.std.proofs.lemmas.Nat.{mul-le}
use Rattle.std.proofs.lemmas.Option.{slice_get_within, none-some}
use Rattle.fx_tables.specs.Fields.{fields_of}
use Rattle.fx_tables.specs.Whole.{is_whole, whole_value}
use Rattle.fx_tables.specs.Stimulus.{hits_at, is_dash, is_in_range, field_fault, fields_fault, line_fault, lines_fault, fault_or, is_too_large, cell_of, cells_of, IsCell}
use Rattle.fx_tables.specs.declared.table.Column.{Column}
use Rattle.fx_tables.specs.declared.table.TableFault.{TableFault}
use Rattle.fx_tables.specs.declared.table.TableCause.{TableCause}
use Rattle.fx_tables.specs.declared.table.TableCause.TheVariants.{TooManyRows, FieldCount, NotWhole, OutOfRange, DashAtHit, NumberOffHit}
use Rattle.math_list.proofs.Places.{get_front}

-- what a field without a fault is
record IsGood (dash hit range : Bool) : Type 0 where
  number : hit ≡ true → (dash ≡ false) × (range ≡ true)
  none : hit ≡ false → dash ≡ true

good : (dash hit whole range : Bool) → (if dash then
    (if hit then Some DashAtHit else None) else if not whole then Some NotWhole else if not hit then Some
    NumberOffHit else if range then None else Some OutOfRange) ≡ None → IsGood dash hit range
good true true whole range is = absurd (none-some _ (sym is))
good true false whole range is = record { number = λ h. absurd (false≢true h); none = λ h. refl }
good false hit false range is = absurd (none-some _ (sym is))
good false false true range is = absurd (none-some _ (sym is))
good false true true true is = record { number = λ h. (refl, refl); none = λ h. absurd (false≢true (sym h)) }
good false true true false is = absurd (none-some _ (sym is))

IsCell-from : (sample : ℕ) (column : Column) (field : List ℕ) → field_fault sample column field ≡ None → IsCell column sample (cell_of field)
IsCell-from sample column field is =
    let g = good (is_dash field) (hits_at column.period sample) (is_whole field) (is_in_range column (whole_value field)) is in
    record {
      at_hit = λ h. ap (is_in_range column) (cond-false (is_dash field) (pos 0) (whole_value field) ((g.number h).0)) ∙ (g.number h).1;
      elsewhere = λ h. cond-true (is_dash field) (pos 0) (whole_value field) (g.none h);
    }

first_none : {A : Type 0} (a b : Option A) → option_or a b ≡ None → a ≡ None
first_none None b is = refl
first_none (Some x) b is = is

second_none : {A : Type 0} (a b : Option A) → option_or a b ≡ None → b ≡ None
second_none None b is = is
second_none (Some x) b is = absurd (none-some x (sym is))

line_cell : (sample k : ℕ) (columns : List Column) (fields : List (List ℕ)) (column : Column) (value : ℤ)
    → fields_fault sample columns fields ≡ None → slice_get columns k ≡ Some column
    → slice_get (map cell_of fields) k ≡ Some value → IsCell column sample value
line_cell sample k [] fields column value is at reads = absurd (none-some column at)
line_cell sample k (c ∷ columns) [] column value is at reads = absurd (none-some value reads)
line_cell sample zero (c ∷ columns) (field ∷ fields) column value is at reads =
    let cell = IsCell-from sample c field (first_none (field_fault sample c field) (fields_fault sample columns fields) is) in
    let same_column : c ≡ column = cc in
    let same_value : cell_of field ≡ value = cc in
    subst (λ (v : ℤ). IsCell column sample v) same_value (subst (λ (o : Column). IsCell o sample (cell_of field)) same_column cell)
line_cell sample (suc k) (c ∷ columns) (field ∷ fields) column value is at reads =
    line_cell sample k columns fields column value (second_none (field_fault sample c field) (fields_fault sample columns fields) is) at reads

get_right : {X : Type 0} (xs ys : List X) (k n : ℕ) → n ≡ length xs + k → slice_get (xs ++ ys) n ≡ slice_get ys k
get_right [] ys k n is = ap (slice_get ys) (omega arith)
get_right (x ∷ xs) ys k zero is = absurd (omega arith)
get_right (x ∷ xs) ys k (suc n) is = get_right xs ys k n (omega arith)

no_fault_here : (fault : Option TableCause) (line : ℕ) (later : Option TableFault) → fault_or fault line later ≡ None → (fault ≡ None) × (later ≡ None)
no_fault_here None line later is = (refl, is)
no_fault_here (Some cause) line later is = absurd (none-some _ (sym is))

whole_line : (large same : Bool) (fault : Option TableCause) → (if large then Some TooManyRows else if same then fault else Some FieldCount) ≡ None → (same ≡ true) × (fault ≡ None)
whole_line true same fault is = absurd (none-some _ (sym is))
whole_line false true fault is = (refl, is)
whole_line false false fault is = absurd (none-some _ (sym is))

lines_cell : (columns : List Column) (outputs first sample k : ℕ) (texts : List (List ℕ)) (column : Column)
    (value : ℤ) → lines_fault columns outputs first texts ≡ None → sample < length texts
    → slice_get columns k ≡ Some column → slice_get (flat_map cells_of texts) (sample * length columns + k)
    ≡ Some value → IsCell column (first + sample) value
lines_cell columns outputs first sample k [] column value is inside at reads = absurd (omega arith)
lines_cell columns outputs first zero k (text ∷ texts) column value is inside at reads =
    let here = no_fault_here (line_fault columns outputs first text) (first + 1) (lines_fault columns outputs (first + 1) texts) is in
    let fields = whole_line (is_too_large (length columns) outputs (first + 1)) (eqb (length (fields_of text)) (length columns)) (fields_fault first columns (fields_of text)) here.0 in
    let counted : length (fields_of text) ≡ length columns = search (rules, nat_tests, fields.0) in
    let cell_inside : k < length (cells_of text) = omega (arith, length-map (fields_of text) cell_of, slice_get_within columns k column at) in
    let place : 0 * length columns + k ≡ k = omega arith in
    let read : slice_get (cells_of text) k ≡ Some value =
    sym (get_front (cells_of text) (flat_map cells_of texts) k cell_inside)
    ∙ ap (slice_get (cells_of text ++ flat_map cells_of texts)) (sym place) ∙ reads in
    subst (λ (s : ℕ). IsCell column s value) (let same : first ≡ first + 0 = omega arith in same) (line_cell first k columns (fields_of text) column value fields.1 at read)
lines_cell columns outputs first (suc sample) k (text ∷ texts) column value is inside at reads =
    let here = no_fault_here (line_fault columns outputs first text) (first + 1) (lines_fault columns outputs (first + 1) texts) is in
    let fields = whole_line (is_too_large (length columns) outputs (first + 1)) (eqb (length (fields_of text)) (length columns)) (fields_fault first columns (fields_of text)) here.0 in
    let counted : length (fields_of text) ≡ length columns = search (rules, nat_tests, fields.0) in
    let place : suc sample * length columns + k ≡ length (cells_of text) + (sample * length columns + k) = omega (arith, length-map (fields_of text) cell_of, suc-mul sample (length columns)) in
    let read = sym (get_right (cells_of text) (flat_map cells_of texts) (sample * length columns + k) (suc sample * length columns + k) place) ∙ reads in
    subst (λ (s : ℕ). IsCell column s value) (let same : first + 1 + sample ≡ first + suc sample = omega arith in same)
    (lines_cell columns outputs (first + 1) sample k texts column value here.1 (omega arith) at read)

-- the numbers of a whole stimulus fit
pub stimulus_cell : (columns : List Column) (outputs count sample k : ℕ) (text : List ℕ) (cells : List ℤ)
    (column : Column) (value : ℤ) → lines_fault columns outputs 0 (lines text) ≡ None → count ≡ length (lines text)
    → cells ≡ flat_map cells_of (lines text) → sample < count → slice_get columns k ≡ Some column
    → slice_get cells (sample * length columns + k) ≡ Some value → IsCell column sample value
stimulus_cell columns outputs count sample k text cells column value is counted numbers inside at reads =
    subst (λ (s : ℕ). IsCell column s value) (let same : 0 + sample ≡ sample = omega arith in same)
    (lines_cell columns outputs 0 sample k (lines text) column value is (omega arith) at
    (ap (λ all. slice_get all (sample * length columns + k)) (sym numbers) ∙ reads))

-- where a cell stands
pub cell_within : (row column count columns : ℕ) → row < count → column < columns → row * columns + column < count * columns
cell_within row column count columns row_in column_in =
    let whole : suc row * columns ≤ count * columns = mul-le (suc row) columns count columns (omega (arith, row_in)) (omega arith) in
    omega (arith, whole, suc-mul row columns, column_in)

pub more_cells : (count columns : ℕ) → (count + 1) * columns ≡ count * columns + columns
more_cells count columns =
    let one : count + 1 ≡ suc count = omega arith in
    ap (λ (n : ℕ). n * columns) one ∙ omega (arith, suc-mul count columns)
