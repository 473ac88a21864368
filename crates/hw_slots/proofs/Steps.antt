-- One operation more, in counts and in greatest numbers.
use Rattle.std.proofs.Common.{◌≡◌, ℕ, zero, suc, ◌+◌, ◌-◌, ◌*◌, ◌/◌, ◌%◌, min, ◌<◌, ◌≤◌, Bool, true, false, cond, List, [], ◌∷◌, ◌++◌, length, map, take, refl, sym, ap, subst, ◌∙◌, inl, inr}
use Rattle.std.proofs.Common.{length-append, arith}
use Rattle.std.specs.Prelude.{slice_get, Option, Some, count_by, max, ◌&&◌, ◌==◌}
use Rattle.std.proofs.lemmas.Bool.{eqb-true, ne_eqb, false≢true, and_parts, cases_lt}
use Rattle.std.proofs.lemmas.List.{take_all}
use Rattle.std.proofs.lemmas.Nat.{div-add-mod', div-mul-add, mod_below}
use Rattle.std.proofs.Math.Nat.{suc-mul}
use Rattle.std.proofs.lemmas.Option.{none-some, same_Some}
use Rattle.math_list.specs.Numbers.{greatest}
use Rattle.hw_slots.specs.declared.operation.Operation.{Operation}
use Rattle.hw_slots.specs.Slots.{shared_out, needed, level_after, turn_of, beside}
use Rattle.hw_slots.specs.inner.Tally.{tally_at}
use Rattle.hw_slots.specs.inner.Counts.{AreCounts, AreTurns, AreWidths, AreLevels, AreMost}
use Rattle.math_list.proofs.Places.{count_cons, get_front, last_at}
use Rattle.math_list.proofs.Sums.{greatest_next}

-- ---- lists

count_next : {A : Type 0} (p : A → Bool) (xs : List A) (i : ℕ) (x : A) → slice_get xs i ≡ Some x → count_by p (take (suc i) xs) ≡ count_by p (take i xs) + cond (p x) 1 0
count_next p [] i x at = absurd (none-some x at)
count_next {A} p (y ∷ xs) zero x at = let e : cond {A = ℕ} (p y) 1 0 ≡ cond (p x) 1 0 = ap (λ (a : A). cond {A = ℕ} (p a) 1 0) (same_Some y x at) in omega (arith, count_cons p y [], e)
count_next p (y ∷ xs) (suc i) x at =
    let more = count_next p xs i x at in
    omega (arith, count_cons p y (take (suc i) xs), count_cons p y (take i xs), more)

next : (i : ℕ) → suc i ≡ i + 1
next i = omega arith

-- ---- what a tally says after one operation more

-- a number that was raised by one where the test holds
abbrev Puts : List ((ℕ × ℕ) × ℕ) → List ((ℕ × ℕ) × ℕ) → ℕ → ℕ → ℕ → Type 0
Puts old new owner level number = (other later : ℕ) → tally_at new other later ≡ cond ((owner == other) && (level == later)) number (tally_at old other later)

abbrev Raises : List ((ℕ × ℕ) × ℕ) → List ((ℕ × ℕ) × ℕ) → ℕ → ℕ → ℕ → Type 0
Raises old new owner level number = Puts old new owner level (max (tally_at old owner level) number)

put_one : (old : List ((ℕ × ℕ) × ℕ)) (owner level other later number : ℕ) (test : Bool)
    → ((owner == other) && (level == later)) ≡ test → number ≡ tally_at old owner level + 1
    → cond test number (tally_at old other later) ≡ tally_at old other later + cond test 1 0
put_one old owner level other later number true e is =
    let parts = and_parts (owner == other) (level == later) e in
    let a : owner ≡ other = eqb-true owner other parts.0 in
    let b : level ≡ later = eqb-true level later parts.1 in
    let same : tally_at old owner level ≡ tally_at old other later = ap (λ (n : ℕ). tally_at old n level) a ∙ ap (tally_at old other) b in
    omega (arith, is, same)
put_one old owner level other later number false e is = omega arith

raise_one : (old : List ((ℕ × ℕ) × ℕ)) (owner level other later number : ℕ) (test : Bool)
    → ((owner == other) && (level == later)) ≡ test
    → cond test (max (tally_at old owner level) number) (tally_at old other later)
    ≡ max (tally_at old other later) (cond test number 0)
raise_one old owner level other later number true e =
    let parts = and_parts (owner == other) (level == later) e in
    let a : owner ≡ other = eqb-true owner other parts.0 in
    let b : level ≡ later = eqb-true level later parts.1 in
    ap (λ (n : ℕ). max n number) (ap (λ (n : ℕ). tally_at old n level) a ∙ ap (tally_at old other) b)
raise_one old owner level other later number false e = omega arith

-- ---- counts and turns

pub counts_none : (operations : List Operation) (tally : List ((ℕ × ℕ) × ℕ)) → tally ≡ [] → AreCounts (take 0 operations) tally
counts_none operations tally none = subst (λ (entries : List ((ℕ × ℕ) × ℕ)). AreCounts (take 0 operations) entries) (sym none) (record { are = λ kind level. refl })

pub counts_more : (operations : List Operation) (i : ℕ) (o : Operation) (count : ℕ) (old new : List ((ℕ × ℕ) × ℕ))
    → slice_get operations i ≡ Some o → count ≡ tally_at old o.kind o.level + 1 → Puts old new o.kind o.level count
    → AreCounts (take i operations) old → AreCounts (take (i + 1) operations) new
counts_more operations i o count old new at is puts before = subst (λ (n : ℕ). AreCounts (take n operations) new) (next i) (record {
  are = λ kind level.
      let step = count_next (λ (q : Operation). (q.kind == kind) && (q.level == level)) operations i o at in
      puts kind level ∙ put_one old o.kind o.level kind level count ((o.kind == kind) && (o.level == level)) refl is
      ∙ ap (λ (n : ℕ). n + cond ((o.kind == kind) && (o.level == level)) 1 0) (before.are kind level) ∙ sym step;
})

pub counts_end : (operations : List Operation) (i : ℕ) (tally : List ((ℕ × ℕ) × ℕ)) → length operations ≤ i → AreCounts (take i operations) tally → AreCounts operations tally
counts_end operations i tally end counts = subst (λ (os : List Operation). AreCounts os tally) (take_all i operations end) counts

pub turns_none : (operations : List Operation) (turns : List ℕ) → turns ≡ [] → AreTurns operations 0 turns
turns_none operations turns none = subst (AreTurns operations 0) (sym none) (record { size = refl; are = λ number o below at. absurd (omega (arith, below)) })

-- a list that says something of each of the first operations, and of one more
pub grown : (Says : ℕ → Operation → Option ℕ → Type 0) (operations : List Operation) (i : ℕ) (o : Operation) (x : ℕ) (xs : List ℕ) → slice_get operations i ≡ Some o → length xs ≡ i
    → ((number : ℕ) (q : Operation) → number < i → slice_get operations number ≡ Some q → Says number q (slice_get xs number)) → Says i o (Some x)
    → (number : ℕ) (q : Operation) → number < i + 1 → slice_get operations number ≡ Some q → Says number q (slice_get (xs ++ x ∷ []) number)
grown Says operations i o x xs at size before last number q below is =
    elim (cases_lt number i) [
      | inl less ↦ subst (Says number q) (sym (get_front xs (x ∷ []) number (omega (arith, less, size)))) (before number q less is)
      | inr past ↦
          let e : i ≡ number = omega (arith, past, below) in
          let one : o ≡ q = same_Some o q (sym at ∙ ap (slice_get operations) e ∙ is) in
          let end : slice_get (xs ++ x ∷ []) i ≡ Some x = ap (slice_get (xs ++ x ∷ [])) (sym size) ∙ last_at xs x in
          let there : Says i o (slice_get (xs ++ x ∷ []) i) = subst (Says i o) (sym end) last in
          let moved : Says i q (slice_get (xs ++ x ∷ []) i) = subst (λ (p : Operation). Says i p (slice_get (xs ++ x ∷ []) i)) one there in
          subst (λ (n : ℕ). Says n q (slice_get (xs ++ x ∷ []) n)) e moved
    ]

pub grown_size : (xs : List ℕ) (x i : ℕ) → length xs ≡ i → length (xs ++ x ∷ []) ≡ i + 1
grown_size xs x i size = omega (arith, size, length-append xs (x ∷ []))

pub turns_more : (operations : List Operation) (i : ℕ) (o : Operation) (turn : ℕ) (counts : List ((ℕ × ℕ) × ℕ))
    (turns : List ℕ) → slice_get operations i ≡ Some o → turn ≡ tally_at counts o.kind o.level
    → AreCounts (take i operations) counts → AreTurns operations i turns
    → AreTurns operations (i + 1) (turns ++ turn ∷ [])
turns_more operations i o turn counts turns at is count_cons before = record {
  size = grown_size turns turn i before.size;
  are = λ number q below there. grown (λ n p r. r ≡ Some (turn_of operations n p)) operations i o turn turns at
      before.size (λ n p less is. before.are n p less is)
      (ap Some (is ∙ count_cons.are o.kind o.level)) number q below there;
}

pub turns_end : (operations : List Operation) (i : ℕ) (turns : List ℕ) → i ≡ length operations → AreTurns operations i turns → AreTurns operations (length operations) turns
turns_end operations i turns end made = subst (λ (n : ℕ). AreTurns operations n turns) end made

-- ---- greatest numbers

-- a tally has the greatest number of those that the first operations give, at each level of each owner
pub record AreGreatest (operations : List Operation) (f : ℕ → ℕ → Operation → ℕ) (tally : List ((ℕ × ℕ) × ℕ)) : Type 0 where
  pub are : (owner level : ℕ) → tally_at tally owner level ≡ greatest (map (f owner level) operations)

pub greatest_none : (operations : List Operation) (f : ℕ → ℕ → Operation → ℕ) (tally : List ((ℕ × ℕ) × ℕ)) → tally ≡ [] → AreGreatest (take 0 operations) f tally
greatest_none operations f tally none = subst (AreGreatest (take 0 operations) f) (sym none) (record { are = λ owner level. refl })

pub greatest_more : (operations : List Operation) (f : ℕ → ℕ → Operation → ℕ) (i : ℕ) (o : Operation) (owner level number : ℕ) (old new : List ((ℕ × ℕ) × ℕ)) → slice_get operations i ≡ Some o
    → ((other later : ℕ) → f other later o ≡ cond ((owner == other) && (level == later)) number 0)
    → Raises old new owner level number → AreGreatest (take i operations) f old
    → AreGreatest (take (i + 1) operations) f new
greatest_more operations f i o owner level number old new at gives raises before = record {
  are = λ other later.
      raises other later ∙ raise_one old owner level other later number ((owner == other) && (level == later)) refl
      ∙ ap (λ (n : ℕ). max n (cond ((owner == other) && (level == later)) number 0)) (before.are other later)
      ∙ ap (max (greatest (map (f other later) (take i operations)))) (sym (gives other later))
      ∙ sym (greatest_next (f other later) operations i o at);
}

pub greatest_end : (operations : List Operation) (f : ℕ → ℕ → Operation → ℕ) (i : ℕ) (tally : List ((ℕ × ℕ) × ℕ))
    → length operations ≤ i → AreGreatest (take i operations) f tally → AreGreatest operations f tally
greatest_end operations f i tally end made = subst (λ (os : List Operation). AreGreatest os f tally) (take_all i operations end) made

-- a number shared out is the quotient, and one more where something is left
pub shared_is : (count parts : ℕ) → 0 < parts → count / parts + min 1 (count % parts) ≡ shared_out count parts
shared_is count parts some = go (count % parts) refl
  where
    split : count / parts * parts + count % parts ≡ count
    split = div-add-mod' count parts

    go : (rest : ℕ) → count % parts ≡ rest → count / parts + min 1 rest ≡ shared_out count parts
    go zero e =
        let none : min 1 0 ≡ 0 = omega arith in
        let whole : count + (parts - 1) ≡ count / parts * parts + (parts - 1) = omega (arith, split, e) in
        let shared : (count + (parts - 1)) / parts ≡ count / parts = ap (λ (n : ℕ). n / parts) whole ∙ div-mul-add (count / parts) parts (parts - 1) (omega (arith, some)) in
        omega (arith, none, shared)
    go (suc rest) e =
        let one : min 1 (suc rest) ≡ 1 = omega arith in
        let below : count % parts < parts = mod_below count parts some in
        let next : suc (count / parts) * parts ≡ count / parts * parts + parts = suc-mul (count / parts) parts in
        let whole : count + (parts - 1) ≡ suc (count / parts) * parts + rest = omega (arith, split, e, next, some) in
        let shared : (count + (parts - 1)) / parts ≡ suc (count / parts) = ap (λ (n : ℕ). n / parts) whole ∙ div-mul-add (suc (count / parts)) parts rest (omega (arith, below, e)) in
        omega (arith, one, shared)

pub slots_given : (operations : List Operation) (multipliers : ℕ) (counts : List ((ℕ × ℕ) × ℕ)) (o : Operation)
    (count slots : ℕ) → AreCounts operations counts → count ≡ tally_at counts o.kind o.level
    → slots ≡ shared_out count multipliers
    → (other later : ℕ) → needed operations multipliers other later o ≡ cond ((o.period == other) && (o.level == later)) slots 0
slots_given operations multipliers counts o count slots count_cons is shared other later =
    ap (λ (n : ℕ). cond ((o.period == other) && (o.level == later)) n 0)
    (ap (λ (n : ℕ). shared_out n multipliers) (sym (count_cons.are o.kind o.level))
    ∙ ap (λ (n : ℕ). shared_out n multipliers) (sym is) ∙ sym shared)

-- what is told of owners alone stands at level 0
abbrev pub at_first : (ℕ → Operation → ℕ) → ℕ → ℕ → Operation → ℕ
at_first f owner zero o = f owner o
at_first f owner (suc level) o = 0

first_given : (owner other number value : ℕ) → value ≡ cond (owner == other) number 0 → value ≡ cond ((owner == other) && (0 == 0)) number 0
first_given owner other number value e = e ∙ go (owner == other)
  where
    go : (test : Bool) → cond test number 0 ≡ cond (test && (0 == 0)) number 0
    go true = refl
    go false = refl

later_given : (owner other number level : ℕ) → 0 ≡ cond ((owner == other) && (0 == suc level)) number 0
later_given owner other number level = go (owner == other) (0 == suc level) (ne_eqb 0 (suc level) (λ e. omega (arith, e)))
  where
    go : (test later : Bool) → later ≡ false → 0 ≡ cond (test && later) number 0
    go true true e = absurd (false≢true (sym e))
    go true false e = refl
    go false later e = refl

pub firsts_given : (f : ℕ → Operation → ℕ) (o : Operation) (owner number : ℕ)
    → ((other : ℕ) → f other o ≡ cond (owner == other) number 0) → (other later : ℕ)
    → at_first f other later o ≡ cond ((owner == other) && (0 == later)) number 0
firsts_given f o owner number gives other zero = first_given owner other number (f other o) (gives other)
firsts_given f o owner number gives other (suc later) = later_given owner other number later

pub levels_given : (o : Operation) (after : ℕ) → after ≡ o.level + 1 → (other : ℕ) → level_after other o ≡ cond (o.period == other) after 0
levels_given o after is other = ap (λ (n : ℕ). cond (o.period == other) n 0) (sym is)

pub most_given : (operations : List Operation) (counts : List ((ℕ × ℕ) × ℕ)) (o : Operation) (count : ℕ)
    → AreCounts operations counts → count ≡ tally_at counts o.kind o.level → (other : ℕ)
    → beside operations other o ≡ cond (o.kind == other) count 0
most_given operations counts o count count_cons is other = ap (λ (n : ℕ). cond (o.kind == other) n 0) (sym (count_cons.are o.kind o.level) ∙ sym is)

pub are_widths : (operations : List Operation) (multipliers : ℕ) (tally : List ((ℕ × ℕ) × ℕ)) → AreGreatest operations (needed operations multipliers) tally → AreWidths operations multipliers tally
are_widths operations multipliers tally made = record { are = made.are }

pub are_levels : (operations : List Operation) (tally : List ((ℕ × ℕ) × ℕ)) → AreGreatest operations (at_first level_after) tally → AreLevels operations tally
are_levels operations tally made = record { are = λ period. made.are period 0 }

pub are_most : (operations : List Operation) (tally : List ((ℕ × ℕ) × ℕ)) → AreGreatest operations (at_first (beside operations)) tally → AreMost operations tally
are_most operations tally made = record { are = λ kind. made.are kind 0 }
