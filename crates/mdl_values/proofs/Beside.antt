-- A text in a list of words.
use Rattle.std.proofs.Common.{◌≡◌, ℕ, ◌+◌, ◌<◌, Bool, true, false, cond, ◌||◌, List, [], ◌∷◌, Option, None, Some, length, get_or, drop, refl, sym, ap, ◌∙◌}
use Rattle.std.specs.Prelude.{bytes_eq, codes, pos}
use Rattle.std.specs.Borrow.{Bor}
use Rattle.std.proofs.lemmas.List.{drop_more}
use Rattle.fx_type.specs.declared.kind.FxType.{FxType}
use Rattle.fx_type.specs.declared.kind.FxType.TheVariants.{Num, Logical}
use Rattle.mdl_values.specs.Types.{named_type}
use Rattle.mdl_values.specs.Words.{value_beside, listed}

-- the word at a place says it, or one behind
module _ {A : Type 0} (table : List (Bor (List ℕ) × A)) (text : List ℕ) (i : ℕ) (entry : Bor (List ℕ) × A) (inside : i < length table) (is : entry ≡ get_or table i entry) where
  beside_here : value_beside (listed (drop i table)) text ≡ cond (bytes_eq text entry.0.now) (Some entry.1) (value_beside (listed (drop (i + 1) table)) text)
  beside_here =
      ap (λ (rest : List (Bor (List ℕ) × A)). value_beside (listed rest) text) (drop_more table i entry inside)
      ∙ ap (λ (e : Bor (List ℕ) × A). cond (bytes_eq text e.0.now) (Some e.1) (value_beside (listed (drop (i + 1) table)) text)) (sym is)

  pub beside_own : bytes_eq text entry.0.now ≡ true → Some entry.1 ≡ value_beside (listed (drop i table)) text
  beside_own e = sym (beside_here ∙ ap (λ (b : Bool). cond b (Some entry.1) (value_beside (listed (drop (i + 1) table)) text)) e)

  pub beside_other : bytes_eq text entry.0.now ≡ false → value_beside (listed (drop (i + 1) table)) text ≡ value_beside (listed (drop i table)) text
  beside_other e = sym (beside_here ∙ ap (λ (b : Bool). cond b (Some entry.1) (value_beside (listed (drop (i + 1) table)) text)) e)

-- two words that say the same
pub either : {A : Type 0} (one other : Bool) (said : A) (left : A) → cond one said (cond other said left) ≡ cond (one || other) said left
either true other said left = refl
either false other said left = refl

-- a value of each entry of a list, or another at the end of it
abbrev chosen : {A B : Type 0} → (A → B) → Option B → Option A → Option B
chosen f last None = last
chosen f last (Some x) = Some (f x)

abbrev chain : {A B : Type 0} → (A → B) → Option B → List (List ℕ × A) → List ℕ → Option B
chain f last [] text = last
chain f last (entry ∷ entries) text = cond (bytes_eq text entry.0) (Some (f entry.1)) (chain f last entries text)

chain_is : {A B : Type 0} (f : A → B) (last : Option B) (entries : List (List ℕ × A)) (text : List ℕ) → chain f last entries text ≡ chosen f last (value_beside entries text)
chain_is f last [] text = refl
chain_is {A} f last (entry ∷ entries) text = by (bytes_eq text entry.0) (chain_is f last entries text)
  where
    by : (b : Bool) → chain f last entries text ≡ chosen f last (value_beside entries text)
        → cond b (Some (f entry.1)) (chain f last entries text)
        ≡ chosen f last (cond b (Some entry.1) (value_beside entries text))
    by true rest = refl
    by false rest = rest

-- the types without bits behind the point that have a name
abbrev pub whole_types : List (List ℕ × (Bool × ℕ))
whole_types =
    (codes "int8", (true, 8)) ∷ (codes "int16", (true, 16)) ∷ (codes "int32", (true, 32))
    ∷ (codes "uint8", (false, 8)) ∷ (codes "uint16", (false, 16)) ∷ (codes "uint32", (false, 32)) ∷ []

module _ (text : List ℕ) (found : Option (Bool × ℕ)) (is : found ≡ value_beside whole_types text) where
  named_is : named_type text ≡ chosen (λ (word : Bool × ℕ). Num word.0 word.1 (pos 0)) (cond (bytes_eq text (codes "boolean")) (Some Logical) None) found
  named_is =
      chain_is (λ (word : Bool × ℕ). Num word.0 word.1 (pos 0)) (cond (bytes_eq text (codes "boolean")) (Some Logical) None) whole_types text
      ∙ ap (chosen (λ (word : Bool × ℕ). Num word.0 word.1 (pos 0)) (cond (bytes_eq text (codes "boolean")) (Some Logical) None)) (sym is)

  pub named_whole : (signed : Bool) (width : ℕ) (type : FxType) → found ≡ Some (signed, width) → type ≡ Num signed width (pos 0) → Some type ≡ named_type text
  named_whole signed width type there type_is =
      ap Some type_is
      ∙ sym (named_is ∙ ap (chosen (λ (word : Bool × ℕ). Num word.0 word.1 (pos 0)) (cond (bytes_eq text (codes "boolean")) (Some Logical) None)) there)

  pub named_other : (b : Bool) → found ≡ None → bytes_eq text (codes "boolean") ≡ b → cond b (Some Logical) None ≡ named_type text
  named_other b there e =
      sym (named_is ∙ ap (chosen (λ (word : Bool × ℕ). Num word.0 word.1 (pos 0)) (cond (bytes_eq text (codes "boolean")) (Some Logical) None)) there ∙ ap (λ (b : Bool). cond b (Some Logical) None) e)
