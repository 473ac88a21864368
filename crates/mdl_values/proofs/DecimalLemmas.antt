-- A text that is no decimal, and the one that it is.
use Rattle.std.proofs.Common.{◌≡◌, ℕ, inl, inr, List, get_or, ap, sym, ◌∙◌, refl, arith, Result, Ok, Err}
use Rattle.std.specs.Prelude.{codes, ◌↔◌, IfOk}
use Rattle.std.specs.Result.{result_ok}
use Rattle.fx_type.specs.declared.decimal.Decimal.{Decimal}
use Rattle.fx_round.specs.declared.decimal.DecimalFault.{DecimalFault}
use Rattle.fx_round.specs.declared.decimal.DecimalFault.TheVariants.{NotANumber, TooLong}
use Rattle.fx_round.specs.DecimalText.{IsLong, IsDecimalText, IsDecimal}
use Rattle.mdl_values.specs.Reads.{Finds}
use Rattle.mdl_values.proofs.DecimalForms.{one_numeral, true_is_none, false_is_none}

pub words_differ : (text : List ℕ) → text ≡ codes "true" → text ≡ codes "false" → ⊥
words_differ text e f =
    let h : ◌≡◌ {A = ℕ} 116 102 = ap (λ (t : List ℕ). get_or t 0 0) (sym e ∙ f) in
    absurd (omega arith)

decimal_text : (text : List ℕ) (d : Decimal) → IsDecimal text d → IsDecimalText text
decimal_text text d (inl (e, w)) = inl e
decimal_text text d (inr (inl (e, w))) = inr (inl e)
decimal_text text d (inr (inr read)) = inr (inr read.numeral)

not_long : (text : List ℕ) (d : Decimal) → IsDecimal text d → IsLong text → ⊥
not_long text d (inl (e, w)) long = true_is_none text e long.numeral
not_long text d (inr (inl (e, w))) long = false_is_none text e long.numeral
not_long text d (inr (inr read)) long =
    let same = one_numeral text read.numeral long.numeral in
    long.long (rw (sym same.digits, sym same.fraction, sym same.exponent) read.short)

-- what `read_decimal` promises, as one fact
pub decimal_found : (text : List ℕ) (r : Result Decimal DecimalFault) → IfOk r (IsDecimal text)
    → ((r ≡ Err NotANumber) ↔ (¬ IsDecimalText text)) → ((r ≡ Err TooLong) ↔ IsLong text)
    → Finds (IsDecimal text) (result_ok r)
decimal_found text (Ok d) ok none long = ok
decimal_found text (Err NotANumber) ok none long = λ d read. none.0 refl (decimal_text text d read)
decimal_found text (Err TooLong) ok none long = λ d read. not_long text d read (long.0 refl)

-- a text is one decimal
pub one_decimal : (text : List ℕ) (d e : Decimal) → IsDecimal text d → IsDecimal text e → (d.negative ≡ e.negative) × (d.digits ≡ e.digits)
one_decimal text d e (inl (t, v)) (inl (u, w)) = (v.negative ∙ sym w.negative, v.digits ∙ sym w.digits)
one_decimal text d e (inl (t, v)) (inr (inl (u, w))) = absurd (words_differ text t u)
one_decimal text d e (inl (t, v)) (inr (inr w)) = absurd (true_is_none text t w.numeral)
one_decimal text d e (inr (inl (t, v))) (inl (u, w)) = absurd (words_differ text u t)
one_decimal text d e (inr (inl (t, v))) (inr (inl (u, w))) = (v.negative ∙ sym w.negative, v.digits ∙ sym w.digits)
one_decimal text d e (inr (inl (t, v))) (inr (inr w)) = absurd (false_is_none text t w.numeral)
one_decimal text d e (inr (inr v)) (inl (u, w)) = absurd (true_is_none text u v.numeral)
one_decimal text d e (inr (inr v)) (inr (inl (u, w))) = absurd (false_is_none text u v.numeral)
one_decimal text d e (inr (inr v)) (inr (inr w)) =
    let same = one_numeral text v.numeral w.numeral in
    (v.negative ∙ same.negative ∙ sym w.negative, v.digits ∙ same.digits ∙ sym w.digits)
