-- Conditions that look at what stands before a place: a list that is made place by place is without a
-- fault where each part is, after the parts before it.
use Rattle.std.proofs.Common.{◌≡◌, ℕ, zero, suc, ◌<◌, Bool, true, false, if◌then◌else◌, List, [], ◌∷◌, ◌++◌, flat_map, Contains, Some, None, refl, sym, ◌∙◌, subst, arith, append_assoc, append-nil}
use Rattle.vl_ast.specs.Nets.{Mention}
use Rattle.vl_ast.specs.Conditions.{first_fault, mentioned}
use Rattle.hw_net.specs.Products.{places}
use Rattle.vl_emit.proofs.ModuleNets.{here, later, one-more}

module _ (at_fault : List Mention → Mention → Bool) where
  pub fault-free : (before : List Mention) (x : Mention) (xs : List Mention) → at_fault before x ≡ false → first_fault at_fault before (x ∷ xs) ≡ first_fault at_fault (before ++ x ∷ []) xs
  fault-free before x xs e = (λ i. if e i then Some (mentioned x) else first_fault at_fault (before ++ x ∷ []) xs)

  -- a list in two parts
  pub in-parts : (before xs ys : List Mention) → first_fault at_fault before xs ≡ None → first_fault at_fault (before ++ xs) ys ≡ None → first_fault at_fault before (xs ++ ys) ≡ None
  in-parts before [] ys p q = subst (λ (b : List Mention). first_fault at_fault b ys ≡ None) (append-nil before) q
  in-parts before (x ∷ xs) ys p q = by (at_fault before x) p (λ p2. in-parts (before ++ x ∷ []) xs ys p2
      (subst (λ (b : List Mention). first_fault at_fault b ys ≡ None) (sym (append_assoc before (x ∷ []) xs)) q)) where
        by : (t : Bool) → (if t then Some (mentioned x) else first_fault at_fault (before ++ x ∷ []) xs) ≡ None
            → (first_fault at_fault (before ++ x ∷ []) xs ≡ None → first_fault at_fault (before ++ x ∷ []) (xs ++ ys) ≡ None)
            → (if t then Some (mentioned x) else first_fault at_fault (before ++ x ∷ []) (xs ++ ys)) ≡ None
        by true e f = absurd (cc e)
        by false e f = f e

  -- a list that is made place by place
  pub by-places : (f : ℕ → List Mention) (before : List Mention) (n : ℕ) → ((k : ℕ) → k < n → first_fault at_fault (before ++ flat_map f (places k)) (f k) ≡ None)
      → first_fault at_fault before (flat_map f (places n)) ≡ None
  by-places f before zero h = refl
  by-places f before (suc n) h =
      subst (λ (l : List Mention). first_fault at_fault before l ≡ None) (sym (one-more f n (suc n) (omega arith)))
      (in-parts before (flat_map f (places n)) (f n) (by-places f before n (λ k below. h k (omega (arith, below)))) (h n (omega arith)))

  -- a list of which no element is at fault after anything that holds of what stands before
  pub none-at-fault : (holds : List Mention → Type 0) → ((before : List Mention) (x : Mention) → holds before → holds (before ++ x ∷ [])) → (before xs : List Mention) → holds before
      → ((b : List Mention) (x : Mention) → holds b → Contains xs x → at_fault b x ≡ false) → first_fault at_fault before xs ≡ None
  none-at-fault holds keeps before [] h free = refl
  none-at-fault holds keeps before (x ∷ xs) h free =
      fault-free before x xs (free before x h (here x xs))
      ∙ none-at-fault holds keeps (before ++ x ∷ []) xs (keeps before x h) (λ b y g c. free b y g (later x y xs c))
