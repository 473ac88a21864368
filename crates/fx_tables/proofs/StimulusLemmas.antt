-- The faults of a stimulus, one field and one line on.
use Rattle.std.proofs.Common.{◌≡◌, ℕ, ◌+◌, ◌-◌, ◌<◌, ⊎_elim, true, false, None, Some, List, ◌∷◌, length, get_or, drop, cond, eqb, sym, ap, ◌∙◌, arith}
use Rattle.std.specs.Option.{option_or}
use Rattle.std.proofs.Math.Seq.{drop-length}
use Rattle.std.proofs.lemmas.List.{drop_more}
use Rattle.std.proofs.lemmas.Bool.{cases_eq, cond-true, cond-false, eq-eqb, ne_eqb}
use Rattle.fx_tables.specs.Fields.{fields_of}
use Rattle.fx_tables.specs.Stimulus.{count_or_fields_fault, field_fault, fields_fault, lines_fault, is_too_large, fault_or}
use Rattle.fx_tables.specs.declared.table.Column.{Column}
use Rattle.fx_tables.specs.declared.table.TableFault.{TableFault}
use Rattle.fx_tables.specs.declared.table.TableFault.TheVariants.{Bad}
use Rattle.fx_tables.specs.declared.table.TableCause.{TableCause}
use Rattle.fx_tables.specs.declared.table.TableCause.TheVariants.{FieldCount, TooManyRows}

-- a good field leaves the fault to those behind it
pub fields_fault-more : (sample k : ℕ) (columns : List Column) (unused : Column) (field : List ℕ)
    (fields all : List (List ℕ)) → k < length columns → all ≡ field ∷ fields
    → field_fault sample (get_or columns k unused) field ≡ None
    → fields_fault sample (drop (k + 1) columns) fields ≡ fields_fault sample (drop k columns) all
fields_fault-more sample k columns unused field fields all inside is good =
    sym (ap (λ fault. option_or fault (fields_fault sample (drop (k + 1) columns) fields)) good)
    ∙ ap (λ left. fields_fault sample left (field ∷ fields)) (sym (drop_more columns k unused inside))
    ∙ ap (fields_fault sample (drop k columns)) (sym is)

-- the line at the bound is the first bad one
pub lines_fault-too_many : (columns : List Column) (outputs sample : ℕ) (line : List ℕ) (later all : List (List ℕ))
    → all ≡ line ∷ later → is_too_large (length columns) outputs (sample + 1) ≡ true
    → lines_fault columns outputs sample all ≡ Some (Bad (sample + 1) TooManyRows)
lines_fault-too_many columns outputs sample line later all is large =
    ap (lines_fault columns outputs sample) is
    ∙ ap (λ fault. fault_or fault (sample + 1) (lines_fault columns outputs (sample + 1) later))
    (cond-true (is_too_large (length columns) outputs (sample + 1)) (Some TooManyRows) (count_or_fields_fault columns sample (fields_of line)) large)

-- a good line leaves it to the later ones
pub lines_fault-good : (columns : List Column) (outputs sample : ℕ) (line : List ℕ) (later all : List (List ℕ))
    → all ≡ line ∷ later → is_too_large (length columns) outputs (sample + 1) ≡ false
    → count_or_fields_fault columns sample (fields_of line) ≡ None
    → lines_fault columns outputs (sample + 1) later ≡ lines_fault columns outputs sample all
lines_fault-good columns outputs sample line later all is small good =
    sym (ap (lines_fault columns outputs sample) is
    ∙ ap (λ fault. fault_or fault (sample + 1) (lines_fault columns outputs (sample + 1) later))
    (cond-false (is_too_large (length columns) outputs (sample + 1)) (Some TooManyRows) (count_or_fields_fault columns sample (fields_of line)) small ∙ good))

-- a line with another count of fields
pub wrong_count : (columns : List Column) (sample : ℕ) (fields : List (List ℕ)) (fault : TableFault) → (length fields ≡ length columns → ⊥) → fault ≡ Bad (sample + 1) FieldCount
    → fault_or (count_or_fields_fault columns sample fields) (sample + 1) None ≡ Some fault
wrong_count columns sample fields fault other is =
    ap (λ cause. fault_or cause (sample + 1) None)
    (cond-false (eqb (length fields) (length columns)) (fields_fault sample columns fields) (Some FieldCount)
    (ne_eqb (length fields) (length columns) other))
    ∙ ap Some (sym is)

-- a line whose fields were all good
pub no_fault : (columns : List Column) (sample : ℕ) (fields left : List (List ℕ)) → length fields ≡ length columns
    → fields_fault sample (drop (length columns) columns) left ≡ fields_fault sample columns fields
    → count_or_fields_fault columns sample fields ≡ None
no_fault columns sample fields left same before =
    cond-true (eqb (length fields) (length columns)) (fields_fault sample columns fields) (Some FieldCount) (eq-eqb (length fields) (length columns) same)
    ∙ sym before ∙ ap (λ rest. fields_fault sample rest left) (drop-length columns)

-- a line with a bad field, and with its count of fields or another
pub bad_field : (columns : List Column) (sample k : ℕ) (unused : Column) (fields left rest : List (List ℕ)) (field : List ℕ) (cause : TableCause) (fault : TableFault) → k < length columns
    → k + length left ≡ length fields → fields_fault sample (drop k columns) left
    ≡ fields_fault sample columns fields → left ≡ field ∷ rest
    → field_fault sample (get_or columns k unused) field ≡ Some cause
    → fault ≡ Bad (sample + 1) (cond (eqb (length rest) (length columns - k - 1)) cause FieldCount) → fault_or (count_or_fields_fault columns sample fields) (sample + 1) None ≡ Some fault
bad_field columns sample k unused fields left rest field cause fault inside counted before first bad is =
    ⊎_elim
    (λ same.
    ap (λ c. fault_or c (sample + 1) None)
    (cond-true (eqb (length fields) (length columns)) (fields_fault sample columns fields) (Some FieldCount) (eq-eqb (length fields) (length columns) same) ∙ sym before ∙ here)
    ∙ ap Some (sym (is ∙ ap (Bad (sample + 1)) (cond-true (eqb (length rest) (length columns - k - 1)) cause FieldCount (eq-eqb (length rest) (length columns - k - 1) (left_over same))))))
    (λ other.
    wrong_count columns sample fields fault other
    (is ∙ ap (Bad (sample + 1)) (cond-false (eqb (length rest) (length columns - k - 1)) cause FieldCount
    (ne_eqb (length rest) (length columns - k - 1)
    (λ same. other (omega (arith, same, inside, counted, ap length first)))))))
    (cases_eq (length fields) (length columns))
  where
    here : fields_fault sample (drop k columns) left ≡ Some cause
    here =
        ap (fields_fault sample (drop k columns)) first
        ∙ ap (λ held. fields_fault sample held (field ∷ rest)) (drop_more columns k unused inside)
        ∙ ap (λ c. option_or c (fields_fault sample (drop (k + 1) columns) rest)) bad

    left_over : length fields ≡ length columns → length rest ≡ length columns - k - 1
    left_over same = omega (arith, same, inside, counted, ap length first)
