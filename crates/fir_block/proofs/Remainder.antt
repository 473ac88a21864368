-- A list to which what is left of another goes over, item by item.
use Rattle.std.proofs.Common.{◌≡◌, ℕ, suc, ◌+◌, ◌-◌, ◌<◌, ◌≤◌, List, [], ◌∷◌, ◌++◌, map, sym, ap, ◌∙◌, arith, append_assoc, append-nil}
use Rattle.std.specs.List.{range_with_len}

module _ {A : Type 0} (f : ℕ → A) (k n : ℕ) (one whole : List A) where
  pub one_over : (two : List A) (x : A) → k < n → one ++ map f (range_with_len k (n - k)) ≡ whole → two ≡ one ++ x ∷ [] → x ≡ f k
      → two ++ map f (range_with_len (k + 1) (n - (k + 1))) ≡ whole
  one_over two x below left put is =
      let rest : List A = map f (range_with_len (k + 1) (n - (k + 1))) in
      let e : n - k ≡ suc (n - (k + 1)) = omega (arith, below) in
      ap (λ (t : List A). t ++ rest) put ∙ append_assoc one (x ∷ []) rest ∙ ap (λ (y : A). one ++ y ∷ rest) is
      ∙ sym (ap (λ (m : ℕ). one ++ map f (range_with_len k m)) e) ∙ left

  pub all_over : n ≤ k → one ++ map f (range_with_len k (n - k)) ≡ whole → one ≡ whole
  all_over past left =
      let e : n - k ≡ 0 = omega (arith, past) in
      sym (append-nil one) ∙ sym (ap (λ (m : ℕ). one ++ map f (range_with_len k m)) e) ∙ left
