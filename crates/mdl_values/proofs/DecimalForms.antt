-- A text is a number in one way.
use Rattle.std.proofs.Common.{◌≡◌, ℕ, ◌≤◌, ◌⊎◌, inl, inr, Bool, true, false, ◌&&◌, ◌||◌, ◌==◌, List, [], ◌∷◌, ◌++◌, length, subst, ap, ap₂, sym, ◌∙◌, refl, arith, true≢false, ℤ}
use Rattle.std.specs.Prelude.{codes, IsTrue, ⊤}
use Rattle.std.specs.List.{list_all}
use Rattle.std.specs.Char.{is_ascii_digit}
use Rattle.std.specs.Str.Parse.{digits_value}
use Rattle.fx_round.specs.DecimalText.{AreDigits, IsSign, signed, IsFraction, IsWrittenExponent, IsExponent, IsNumeral}

-- the first byte fails a test, or there is none
abbrev Stops : (ℕ → Bool) → List ℕ → Type 0
Stops P [] = ⊤
Stops P (byte ∷ bytes) = P byte ≡ false

-- the first byte passes it
abbrev Begins : (ℕ → Bool) → List ℕ → Type 0
Begins P [] = ⊥
Begins P (byte ∷ bytes) = P byte ≡ true

-- a digit or a point
abbrev is_body : ℕ → Bool
is_body byte = is_ascii_digit byte || (byte == 46)

not_stopped : (P : ℕ → Bool) (byte : ℕ) (bytes text : List ℕ) → text ≡ byte ∷ bytes → P byte ≡ true → ¬ Stops P text
not_stopped P byte bytes text e passes stops =
    let h : P byte ≡ false = subst (λ (t : List ℕ). Stops P t) e stops in
    true≢false (sym passes ∙ h)

not_begun : (P : ℕ → Bool) (byte : ℕ) (bytes text : List ℕ) → text ≡ byte ∷ bytes → P byte ≡ false → ¬ Begins P text
not_begun P byte bytes text e fails begins =
    let h : P byte ≡ true = subst (λ (t : List ℕ). Begins P t) e begins in
    true≢false (sym h ∙ fails)

and_left : (a b : Bool) → IsTrue (a && b) → a ≡ true
and_left true b h = refl
and_left false b h = absurd (true≢false (sym h))

and_right : (a b : Bool) → IsTrue (a && b) → IsTrue b
and_right true b h = h
and_right false b h = absurd (true≢false (sym h))

both : (a b : Bool) → a ≡ true → IsTrue b → IsTrue (a && b)
both true b e h = h
both false b e h = absurd (true≢false (sym e))

digits_front : (a b : List ℕ) → AreDigits (a ++ b) → AreDigits a
digits_front [] b h = refl
digits_front (c ∷ a) b h =
    both (is_ascii_digit c) (list_all is_ascii_digit a)
    (and_left (is_ascii_digit c) (list_all is_ascii_digit (a ++ b)) h)
    (digits_front a b (and_right (is_ascii_digit c) (list_all is_ascii_digit (a ++ b)) h))

digits_back : (a b : List ℕ) → AreDigits (a ++ b) → AreDigits b
digits_back [] b h = h
digits_back (c ∷ a) b h = digits_back a b (and_right (is_ascii_digit c) (list_all is_ascii_digit (a ++ b)) h)

-- two cuts behind the same digits are one
cut_same : (a b x y : List ℕ) → AreDigits a → AreDigits b → Stops is_ascii_digit x → Stops is_ascii_digit y → a ++ x ≡ b ++ y → (a ≡ b) × (x ≡ y)
cut_same [] [] x y da db sx sy e = (refl, e)
cut_same [] (c ∷ b) x y da db sx sy e =
    absurd (not_stopped is_ascii_digit c (b ++ y) x e (and_left (is_ascii_digit c) (list_all is_ascii_digit b) db) sx)
cut_same (c ∷ a) [] x y da db sx sy e =
    absurd (not_stopped is_ascii_digit c (a ++ x) y (sym e) (and_left (is_ascii_digit c) (list_all is_ascii_digit a) da) sy)
cut_same (c ∷ a) (d ∷ b) x y da db sx sy e =
    let first : c ≡ d = cc in
    let rest : a ++ x ≡ b ++ y = cc in
    let more = cut_same a b x y (and_right (is_ascii_digit c) (list_all is_ascii_digit a) da) (and_right (is_ascii_digit d) (list_all is_ascii_digit b) db) sx sy rest in
    (ap₂ (λ (z : ℕ) (zs : List ℕ). z ∷ zs) first more.0, more.1)

behind : (c : ℕ) (x y : List ℕ) → c ∷ x ≡ c ∷ y → x ≡ y
behind c x y e = cc

-- texts whose first bytes a test tells apart
apart : (c d : ℕ) (x y : List ℕ) → (c == d) ≡ false → (d == d) ≡ true → c ∷ x ≡ d ∷ y → ⊥
apart c d x y differ own e =
    let first : c ≡ d = cc in
    true≢false (sym own ∙ ap (λ (z : ℕ). z == d) (sym first) ∙ differ)

-- two signs before a digit or a point are one
sign_same : (s t : List ℕ) (m n : Bool) (x y : List ℕ) → IsSign s m → IsSign t n → Begins is_body x → Begins is_body y → s ++ x ≡ t ++ y → (m ≡ n) × (x ≡ y)
sign_same s t m n x y is_s is_t bx by e = cases m n is_s is_t
  where
    swapped : (a b : List ℕ) → s ≡ a → t ≡ b → a ++ x ≡ b ++ y
    swapped a b es et = sym (ap (λ (l : List ℕ). l ++ x) es) ∙ e ∙ ap (λ (l : List ℕ). l ++ y) et

    cases : (m n : Bool) → IsSign s m → IsSign t n → (m ≡ n) × (x ≡ y)
    cases true true es et = (refl, behind 45 x y (swapped (codes "-") (codes "-") es et))
    cases true false es (inl et) = absurd (not_begun is_body 45 x y (sym (swapped (codes "-") [] es et)) refl by)
    cases true false es (inr et) = absurd (apart 45 43 x y refl refl (swapped (codes "-") (codes "+") es et))
    cases false true (inl es) et = absurd (not_begun is_body 45 y x (swapped [] (codes "-") es et) refl bx)
    cases false true (inr es) et = absurd (apart 43 45 x y refl refl (swapped (codes "+") (codes "-") es et))
    cases false false (inl es) (inl et) = (refl, swapped [] [] es et)
    cases false false (inl es) (inr et) = absurd (not_begun is_body 43 y x (swapped [] (codes "+") es et) refl bx)
    cases false false (inr es) (inl et) = absurd (not_begun is_body 43 x y (sym (swapped (codes "+") [] es et)) refl by)
    cases false false (inr es) (inr et) = (refl, behind 43 x y (swapped (codes "+") (codes "+") es et))

digits_begin : (a x : List ℕ) → AreDigits a → 1 ≤ length a → Begins is_body (a ++ x)
digits_begin [] x all some = absurd (omega arith)
digits_begin (c ∷ a) x all some = ap (λ (b : Bool). b || (c == 46)) (and_left (is_ascii_digit c) (list_all is_ascii_digit a) all)

-- a digit or a point follows the sign
body_begins : (whole point fraction written : List ℕ) → AreDigits (whole ++ fraction) → 1 ≤ length (whole ++ fraction) → IsFraction point fraction → Begins is_body (whole ++ (point ++ written))
body_begins (c ∷ whole) point fraction written all some is_point =
    digits_begin (c ∷ whole) (point ++ written) (digits_front (c ∷ whole) fraction all) (omega arith)
body_begins [] point fraction written all some (inl e) = subst (λ (p : List ℕ). Begins is_body (p ++ written)) (sym e) refl
body_begins [] point fraction written all some (inr e) = let h : 1 ≤ length {A = ℕ} [] = subst (λ (f : List ℕ). 1 ≤ length f) e.1 some in absurd (omega arith)

-- what follows the mark of an exponent
marked : (text mark rest : List ℕ) → text ≡ mark ++ rest → (mark ≡ codes "e") ⊎ (mark ≡ codes "E") → (c : ℕ) × ((c ≡ 101) ⊎ (c ≡ 69)) × (text ≡ c ∷ rest)
marked text mark rest form (inl e) = (101, inl refl, form ∙ ap (λ (l : List ℕ). l ++ rest) e)
marked text mark rest form (inr e) = (69, inr refl, form ∙ ap (λ (l : List ℕ). l ++ rest) e)

-- no digit and no point stands before an exponent
written_stops : (P : ℕ → Bool) → P 101 ≡ false → P 69 ≡ false → (text : List ℕ) (x : ℤ) → IsExponent text x → Stops P text
written_stops P small large text x (inr e) = subst (λ (t : List ℕ). Stops P t) (sym e.0) tt
written_stops P small large text x (inl w) = by_mark (marked text w.mark (w.sign ++ w.digits) w.form w.is_mark)
  where
    by_mark : (c : ℕ) × ((c ≡ 101) ⊎ (c ≡ 69)) × (text ≡ c ∷ (w.sign ++ w.digits)) → Stops P text
    by_mark (c, inl e, form) = subst (λ (t : List ℕ). Stops P t) (sym form) (ap P e ∙ small)
    by_mark (c, inr e, form) = subst (λ (t : List ℕ). Stops P t) (sym form) (ap P e ∙ large)

tail_stops : (point fraction written : List ℕ) (x : ℤ) → IsFraction point fraction → IsExponent written x → Stops is_ascii_digit (point ++ written)
tail_stops point fraction written x (inl e) is_x = subst (λ (p : List ℕ). Stops is_ascii_digit (p ++ written)) (sym e) refl
tail_stops point fraction written x (inr e) is_x = subst (λ (p : List ℕ). Stops is_ascii_digit (p ++ written)) (sym e.0) (written_stops is_ascii_digit refl refl written x is_x)

-- two points with what follows them are one
point_same : (p f w q g v : List ℕ) (x y : ℤ) → IsFraction p f → IsFraction q g → AreDigits f → AreDigits g → IsExponent w x → IsExponent v y → p ++ w ≡ q ++ v → (f ≡ g) × (w ≡ v)
point_same p f w q g v x y (inl ep) (inl eq) df dg is_w is_v e =
    let h : 46 ∷ (f ++ w) ≡ 46 ∷ (g ++ v) = sym (ap (λ (l : List ℕ). l ++ w) ep) ∙ e ∙ ap (λ (l : List ℕ). l ++ v) eq in
    cut_same f g w v df dg (written_stops is_ascii_digit refl refl w x is_w) (written_stops is_ascii_digit refl refl v y is_v) (behind 46 (f ++ w) (g ++ v) h)
point_same p f w q g v x y (inl ep) (inr eq) df dg is_w is_v e =
    let h : 46 ∷ (f ++ w) ≡ v = sym (ap (λ (l : List ℕ). l ++ w) ep) ∙ e ∙ ap (λ (l : List ℕ). l ++ v) eq.0 in
    absurd (not_stopped (λ c. c == 46) 46 (f ++ w) v (sym h) refl (written_stops (λ c. c == 46) refl refl v y is_v))
point_same p f w q g v x y (inr ep) (inl eq) df dg is_w is_v e =
    let h : w ≡ 46 ∷ (g ++ v) = sym (ap (λ (l : List ℕ). l ++ w) ep.0) ∙ e ∙ ap (λ (l : List ℕ). l ++ v) eq in
    absurd (not_stopped (λ c. c == 46) 46 (g ++ v) w h refl (written_stops (λ c. c == 46) refl refl w x is_w))
point_same p f w q g v x y (inr ep) (inr eq) df dg is_w is_v e =
    (ep.1 ∙ sym eq.1, sym (ap (λ (l : List ℕ). l ++ w) ep.0) ∙ e ∙ ap (λ (l : List ℕ). l ++ v) eq.0)

digits_alone : (a : List ℕ) → AreDigits a → 1 ≤ length a → Begins is_body a
digits_alone [] all some = absurd (omega arith)
digits_alone (c ∷ a) all some = ap (λ (b : Bool). b || (c == 46)) (and_left (is_ascii_digit c) (list_all is_ascii_digit a) all)

written_same : (text : List ℕ) (x y : ℤ) → IsWrittenExponent text x → IsWrittenExponent text y → x ≡ y
written_same text x y a b =
    let first = marked text a.mark (a.sign ++ a.digits) a.form a.is_mark in
    let second = marked text b.mark (b.sign ++ b.digits) b.form b.is_mark in
    let heads : first.0 ∷ (a.sign ++ a.digits) ≡ second.0 ∷ (b.sign ++ b.digits) = sym first.2 ∙ second.2 in
    let rest : a.sign ++ a.digits ≡ b.sign ++ b.digits = cc in
    let same = sign_same a.sign b.sign a.negative b.negative a.digits b.digits a.is_sign b.is_sign
    (digits_alone a.digits a.are_digits a.some_digit) (digits_alone b.digits b.are_digits b.some_digit) rest in
    a.value ∙ ap₂ (λ (m : Bool) (d : List ℕ). signed m (digits_value 10 d)) same.0 same.1 ∙ sym b.value

not_empty : (text : List ℕ) (x : ℤ) → IsWrittenExponent text x → text ≡ [] → ⊥
not_empty text x w e =
    let m = marked text w.mark (w.sign ++ w.digits) w.form w.is_mark in
    let h : [] ≡ m.0 ∷ (w.sign ++ w.digits) = sym e ∙ m.2 in
    cc

exponent_same : (text : List ℕ) (x y : ℤ) → IsExponent text x → IsExponent text y → x ≡ y
exponent_same text x y (inl a) (inl b) = written_same text x y a b
exponent_same text x y (inl a) (inr b) = absurd (not_empty text x a b.0)
exponent_same text x y (inr a) (inl b) = absurd (not_empty text y b a.0)
exponent_same text x y (inr a) (inr b) = a.1 ∙ sym b.1

-- two readings of one text say the same
pub record AreOne (text : List ℕ) (a b : IsNumeral text) : Type 0 where
  pub negative : a.negative ≡ b.negative
  pub digits : a.digits ≡ b.digits
  pub fraction : length a.fraction ≡ length b.fraction
  pub exponent : a.exponent ≡ b.exponent

pub one_numeral : (text : List ℕ) (a b : IsNumeral text) → AreOne text a b
one_numeral text a b =
    let signs = sign_same a.sign b.sign a.negative b.negative (a.whole ++ (a.point ++ a.written)) (b.whole ++ (b.point ++ b.written)) a.is_sign b.is_sign
    (body_begins a.whole a.point a.fraction a.written a.are_digits a.some_digit a.is_fraction)
    (body_begins b.whole b.point b.fraction b.written b.are_digits b.some_digit b.is_fraction) (sym a.form ∙ b.form) in
    let wholes = cut_same a.whole b.whole (a.point ++ a.written) (b.point ++ b.written) (digits_front a.whole a.fraction a.are_digits) (digits_front b.whole b.fraction b.are_digits)
    (tail_stops a.point a.fraction a.written a.exponent a.is_fraction a.is_exponent) (tail_stops b.point b.fraction b.written b.exponent b.is_fraction b.is_exponent) signs.1 in
    let points = point_same a.point a.fraction a.written b.point b.fraction b.written a.exponent b.exponent a.is_fraction b.is_fraction
    (digits_back a.whole a.fraction a.are_digits) (digits_back b.whole b.fraction b.are_digits) a.is_exponent b.is_exponent wholes.1 in
    record {
      negative = signs.0;
      digits = a.value ∙ ap₂ (λ (x y : List ℕ). digits_value 10 (x ++ y)) wholes.0 points.0 ∙ sym b.value;
      fraction = ap length points.0;
      exponent = exponent_same b.written a.exponent b.exponent (subst (λ (w : List ℕ). IsExponent w a.exponent) points.1 a.is_exponent) b.is_exponent;
    }

-- the words are no numbers
pub word_is_none : (c : ℕ) (cs : List ℕ) → is_body c ≡ false → (c == 45) ≡ false → (c == 43) ≡ false → (text : List ℕ) → text ≡ c ∷ cs → ¬ IsNumeral text
word_is_none c cs no_body no_minus no_plus text e numeral = by_sign numeral.negative numeral.is_sign
  where
    begins : Begins is_body (numeral.whole ++ (numeral.point ++ numeral.written))
    begins = body_begins numeral.whole numeral.point numeral.fraction numeral.written numeral.are_digits numeral.some_digit numeral.is_fraction

    body : List ℕ
    body = numeral.whole ++ (numeral.point ++ numeral.written)

    signed_by : (d : ℕ) → numeral.sign ≡ d ∷ [] → (c == d) ≡ false → (d == d) ≡ true → ⊥
    signed_by d s no_d own =
        let h : c ∷ cs ≡ d ∷ (numeral.whole ++ (numeral.point ++ numeral.written)) = sym e ∙ numeral.form ∙ ap (λ (l : List ℕ). l ++ (numeral.whole ++ (numeral.point ++ numeral.written))) s in
        let first : c ≡ d = cc in
        true≢false (sym own ∙ ap (λ (x : ℕ). x == d) (sym first) ∙ no_d)

    by_sign : (negative : Bool) → IsSign numeral.sign negative → ⊥
    by_sign true s = signed_by 45 s no_minus refl
    by_sign false (inl s) =
        not_begun is_body c cs (numeral.whole ++ (numeral.point ++ numeral.written))
        (sym (sym e ∙ numeral.form ∙ ap (λ (l : List ℕ). l
        ++ (numeral.whole ++ (numeral.point ++ numeral.written))) s)) no_body begins
    by_sign false (inr s) = signed_by 43 s no_plus refl

pub true_is_none : (text : List ℕ) → text ≡ codes "true" → ¬ IsNumeral text
true_is_none text e = word_is_none 116 (codes "rue") refl refl refl text e

pub false_is_none : (text : List ℕ) → text ≡ codes "false" → ¬ IsNumeral text
false_is_none text e = word_is_none 102 (codes "alse") refl refl refl text e
