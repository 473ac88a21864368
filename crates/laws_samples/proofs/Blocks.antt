-- The blocks of a sample's diagram, one by one.
use Rattle.std.proofs.Common.{◌≡◌, ℕ, zero, suc, ◌+◌, ◌<◌, ◌-◌, ◌⊎◌, Bool, true, cond, List, [], ◌∷◌, ◌++◌, length, Option, Some, None, slice_get, ap, sym, ◌∙◌, subst, refl, inl, inr, arith}
use Rattle.std.specs.List.{AllByRecursion, filter_map, cons_option, prefix_len}
use Rattle.std.proofs.lemmas.Option.{none-some, same_Some, slice_get_within}
use Rattle.math_list.proofs.Places.{get_cases, get_right}
use Rattle.dg_model.specs.declared.diagram.Block.{Block}
use Rattle.dg_model.specs.declared.diagram.Diagram.{Diagram}
use Rattle.laws_samples.specs.Shape.{IsLink, IsSampleDiagram, IsSingle}

-- ---- lists with a part that is passed over

pub none_mapped : {A B : Type 0} (P : A → Type 0) (h : A → Option B) → ((x : A) → P x → h x ≡ None) → (xs ys : List A) → AllByRecursion P xs → filter_map h (xs ++ ys) ≡ filter_map h ys
none_mapped P h none [] ys all = refl
none_mapped P h none (x ∷ xs) ys all = ap (λ o. cons_option o (filter_map h (xs ++ ys))) (none x all.0) ∙ none_mapped P h none xs ys all.1

pub none_before : {A : Type 0} (P : A → Type 0) (p : A → Bool) → ((x : A) → P x → p x ≡ true) → (xs ys : List A) → AllByRecursion P xs → prefix_len p (xs ++ ys) ≡ length xs + prefix_len p ys
none_before P p passes [] ys all = omega arith
none_before P p passes (x ∷ xs) ys all =
    let more = none_before P p passes xs ys all.1 in
    ap (λ b. cond b (1 + prefix_len p (xs ++ ys)) 0) (passes x all.0) ∙ omega (arith, more)

each_at : {A : Type 0} (P : A → Type 0) (xs : List A) → AllByRecursion P xs → (k : ℕ) (x : A) → slice_get xs k ≡ Some x → P x
each_at P [] all k x at = absurd (none-some x at)
each_at P (y ∷ xs) all zero x at = subst P (same_Some y x at) all.0
each_at P (y ∷ xs) all (suc k) x at = each_at P xs all.1 k x at

module _ {diagram : Diagram} (sample : IsSampleDiagram diagram) where
  abbrev pub down_at : ℕ
  down_at = suc (length sample.chain)

  abbrev pub out_at : ℕ
  out_at = suc (suc (length sample.chain))

  abbrev pub slow_at : ℕ
  slow_at = suc (suc (suc (length sample.chain)))

  -- what the block at a place is
  pub data Which (place : ℕ) (b : Block) : Type 0 where
    First : place ≡ 0 → b ≡ sample.input → Which place b
    Link : 0 < place → place < down_at → IsLink b → Which place b
    Down : place ≡ down_at → b ≡ sample.down → Which place b
    Out : place ≡ out_at → b ≡ sample.out → Which place b
    Slow : place ≡ slow_at → b ≡ sample.slow → Which place b

  abbrev ends : List Block
  ends = sample.down ∷ sample.out ∷ sample.slow ∷ []

  behind : (k : ℕ) (b : Block) → slice_get ends k ≡ Some b → (k ≡ 0) × (b ≡ sample.down) ⊎ ((k ≡ 1) × (b ≡ sample.out) ⊎ (k ≡ 2) × (b ≡ sample.slow))
  behind zero b at = inl (refl, sym (same_Some sample.down b at))
  behind (suc zero) b at = inr (inl (refl, sym (same_Some sample.out b at)))
  behind (suc (suc zero)) b at = inr (inr (refl, sym (same_Some sample.slow b at)))
  behind (suc (suc (suc k))) b at = absurd (none-some b at)

  after_first : (place : ℕ) (b : Block) → slice_get (sample.chain ++ ends) place ≡ Some b → Which (suc place) b
  after_first place b at = elim (get_cases sample.chain ends place b at) [
    | inl here ↦ let below = slice_get_within sample.chain place b here in Link (omega arith) (omega (arith, below)) (each_at IsLink sample.chain sample.links place b here)
    | inr past ↦ elim (behind (place - length sample.chain) b past.1) [
      | inl is ↦ let long = past.0 in let k = is.0 in Down (omega (arith, long, k)) is.1
      | inr more ↦ elim more [
        | inl is ↦ let long = past.0 in let k = is.0 in Out (omega (arith, long, k)) is.1
        | inr is ↦ let long = past.0 in let k = is.0 in Slow (omega (arith, long, k)) is.1
      ]
    ]
  ]

  in_blocks : (place : ℕ) (b : Block) → slice_get (sample.input ∷ (sample.chain ++ ends)) place ≡ Some b → Which place b
  in_blocks zero b at = First refl (sym (same_Some sample.input b at))
  in_blocks (suc place) b at = after_first place b at

  pub which : (place : ℕ) (b : Block) → slice_get diagram.blocks place ≡ Some b → Which place b
  which place b at = in_blocks place b (ap (λ (bs : List Block). slice_get bs place) (sym sample.blocks) ∙ at)

  -- ---- where each stands

  stands : (place : ℕ) (b : Block) → slice_get (sample.input ∷ (sample.chain ++ ends)) place ≡ Some b → slice_get diagram.blocks place ≡ Some b
  stands place b at = ap (λ (bs : List Block). slice_get bs place) sample.blocks ∙ at

  ends_at : (k : ℕ) → slice_get (sample.input ∷ (sample.chain ++ ends)) (suc (length sample.chain + k)) ≡ slice_get ends k
  ends_at k = get_right sample.chain ends k

  pub input_there : slice_get diagram.blocks 0 ≡ Some sample.input
  input_there = stands 0 sample.input refl

  pub down_there : slice_get diagram.blocks down_at ≡ Some sample.down
  down_there = let place : suc (length sample.chain + 0) ≡ down_at = omega arith in subst (λ (p : ℕ). slice_get diagram.blocks p ≡ Some sample.down) place (stands (suc (length sample.chain + 0)) sample.down (ends_at 0))

  pub out_there : slice_get diagram.blocks out_at ≡ Some sample.out
  out_there = let place : suc (length sample.chain + 1) ≡ out_at = omega arith in subst (λ (p : ℕ). slice_get diagram.blocks p ≡ Some sample.out) place (stands (suc (length sample.chain + 1)) sample.out (ends_at 1))

  pub slow_there : slice_get diagram.blocks slow_at ≡ Some sample.slow
  slow_there = let place : suc (length sample.chain + 2) ≡ slow_at = omega arith in subst (λ (p : ℕ). slice_get diagram.blocks p ≡ Some sample.slow) place (stands (suc (length sample.chain + 2)) sample.slow (ends_at 2))

  -- ---- each works on one element, in no enabled subsystem

  pub single : (place : ℕ) (b : Block) → slice_get diagram.blocks place ≡ Some b → IsSingle b.kind
  single place b at = elim (which place b at) [
    | First _ same ↦ subst IsSingle (sym (ap (λ (c : Block). c.kind) same ∙ sample.input_is.kind_is)) (record { shape = refl; width = refl; lists = omega arith })
    | Link _ _ link ↦ link.single
    | Down _ same ↦ subst IsSingle (sym (ap (λ (c : Block). c.kind) same ∙ sample.down_is.kind_is)) (record { shape = refl; width = refl; lists = omega arith })
    | Out _ same ↦ subst IsSingle (sym (ap (λ (c : Block). c.kind) same ∙ sample.out_is.kind_is)) (record { shape = refl; width = refl; lists = omega arith })
    | Slow _ same ↦ subst IsSingle (sym (ap (λ (c : Block). c.kind) same ∙ sample.slow_is.kind_is)) (record { shape = refl; width = refl; lists = omega arith })
  ]

  pub free : (place : ℕ) (b : Block) → slice_get diagram.blocks place ≡ Some b → b.enable ≡ None
  free place b at = elim (which place b at) [
    | First _ same ↦ ap (λ (c : Block). c.enable) same ∙ sample.input_is.enable
    | Link _ _ link ↦ link.enable
    | Down _ same ↦ ap (λ (c : Block). c.enable) same ∙ sample.down_is.enable
    | Out _ same ↦ ap (λ (c : Block). c.enable) same ∙ sample.out_is.enable
    | Slow _ same ↦ ap (λ (c : Block). c.enable) same ∙ sample.slow_is.enable
  ]
