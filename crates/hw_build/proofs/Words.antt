-- Numbers of words: what is cut to a word that has it stays, and the ranges of types are those of their words.
use Rattle.std.proofs.Common.{◌≡◌, ℕ, suc, ◌<◌, Bool, false, pos, List, [], ◌∷◌, length, Some, ap, ◌∙◌, subst, arith, refl}
use Rattle.std.specs.Prelude.{slice_get, slice_index_or}
use Rattle.std.proofs.lemmas.Option.{slice_get-get_or}
use Rattle.math_num.specs.Word.{InWord}
use Rattle.fx_type.specs.declared.kind.FxType.{FxType}
use Rattle.fx_type.specs.declared.kind.FxType.TheVariants.{Num}
use Rattle.fx_type.specs.FxType.{InRange, is_signed, width_of}
use Rattle.dg_model.specs.Operation.{AreInRange, type_of}
use Rattle.hw_net.specs.Circuit.{Circuit}
use Rattle.hw_net.specs.Netlist.{HasWord}
use Rattle.hw_net.specs.NetRows.{Inputs, Rows, NetRows}
use Rattle.hw_lower.specs.Lowered.{AreArgs, values_at}
use Rattle.hw_lower.proofs.Products.{word-range}
use Rattle.hw_lower.proofs.PlanWaves.{value-in}

-- ---- ranges

-- a net of a word shows numbers of it
pub shows_word : (netlist : Circuit) (n : ℕ) (inputs : Inputs) (rows : Rows) (number width : ℕ) (signed : Bool)
    → NetRows netlist n inputs rows → HasWord netlist.nets number width signed → (c : ℕ) → c < n
    → InWord width signed (rows number c)
shows_word netlist n inputs rows number width signed is word c below =
    subst (λ (w : ℕ). InWord w signed (rows number c)) word.wide (subst (λ (s : Bool). InWord word.net.width s (rows number c)) word.sign (is.in_word number word.net word.is c below))

counted_values : (rows : Rows) (clock : ℕ) (args : List ℕ) → length (values_at rows args clock) ≡ length args
counted_values rows clock [] = refl
counted_values rows clock (arg ∷ args) = ap suc (counted_values rows clock args)

-- so nets of the words of types show numbers in their ranges
pub in_ranges : (netlist : Circuit) (n : ℕ) (inputs : Inputs) (rows : Rows) (types : List FxType) (args : List ℕ)
    → NetRows netlist n inputs rows → AreArgs netlist types args → (c : ℕ) → c < n
    → AreInRange types (values_at rows args c)
in_ranges netlist n inputs rows types args is are c below = record {
  count = counted_values rows c args ∙ are.count;
  in_range = λ input inside.
      let count = are.count in
      let number : ℕ = slice_index_or args input 0 in
      let at : slice_get args input ≡ Some number = slice_get-get_or args input 0 (omega (arith, inside, count)) in
      let type_is : slice_get types input ≡ Some (type_of types input) = slice_get-get_or types input (Num false 0 (pos 0)) inside in
      let word = are.words input number (type_of types input) at type_is in
      subst (InRange (type_of types input)) (value-in rows c args input number at)
      (word-range (type_of types input) (rows number c) (shows_word netlist n inputs rows number (width_of (type_of types input)) (is_signed (type_of types input)) is word c below));
}
