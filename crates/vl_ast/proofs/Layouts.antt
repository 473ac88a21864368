-- How a text is laid out token by token, from its end to its start.
use Rattle.std.proofs.Common.{◌≡◌, ◌≢◌, ℕ, Bool, true, false, ◌&&◌, List, [], ◌∷◌, ◌++◌, codes, refl, sym, ap, subst, arith}
use Rattle.std.proofs.lemmas.List.Concat.{flat_map-append}
use Rattle.std.proofs.lemmas.List.Elements.{All-cons, All-append}
use Rattle.vl_ast.specs.Tokens.{Token, Sign, is_word, IsWritten, IsLongest, is_longest, Blank, IsFiller, filler_text, IsGap, is_blank, Lays, AreWritable}
use Rattle.math_list.proofs.Tests.{left_true}

pub right_false : (a : Bool) → (a && false) ≡ true → ⊥
right_false true e = cc
right_false false e = cc

-- gaps

pub no_gap : IsGap []
no_gap = ([], (λ k d below. absurd (omega arith)), refl)

pub blank_gap : (byte : ℕ) → is_blank byte ≡ true → (gap : List ℕ) → IsGap gap → IsGap (byte ∷ gap)
blank_gap byte blank gap g = (Blank byte ∷ g.0, All-cons IsFiller (Blank byte) g.0 blank g.1, ap (λ rest. byte ∷ rest) g.2)

pub gap_append : (one two : List ℕ) → IsGap one → IsGap two → IsGap (one ++ two)
gap_append one two g h =
    (g.0 ++ h.0, All-append IsFiller g.0 h.0 g.1 h.1, rw (g.2, h.2) (sym (flat_map-append filler_text g.0 h.0)))

pub space_gap : IsGap (codes " ")
space_gap = blank_gap 32 refl [] no_gap

pub line_gap : IsGap (codes "\n")
line_gap = blank_gap 10 refl [] no_gap

-- one token before what follows it
pub laid : (after : Bool) (t : Token) (ts : List Token) (gap written rest bytes : List ℕ) → IsGap gap → (after ≡ true → gap ≢ []) → IsWritten t written →
    IsLongest t rest → Lays (is_word t) ts rest → bytes ≡ gap ++ written ++ rest → Lays after (t ∷ ts) bytes
laid after t ts gap written rest bytes g apart is longest next text =
    (gap, written, rest, g, (λ e. apart (left_true after (is_word t) e)), is, longest, next, text)

pub laid_sign : (after : Bool) (sign : List ℕ) (ts : List Token) (gap rest bytes : List ℕ) → IsGap gap →
    is_longest sign rest ≡ true → Lays false ts rest → bytes ≡ gap ++ sign ++ rest → Lays after (Sign sign ∷ ts) bytes
laid_sign after sign ts gap rest bytes g longest next text =
    (gap, sign, rest, g, (λ e. absurd (right_false after e)), refl, longest, next, text)

pub laid_same : (after : Bool) (ts us : List Token) (bytes : List ℕ) → ts ≡ us → Lays after us bytes → Lays after ts bytes
laid_same after ts us bytes e l = let P : List Token → Type 0 = λ vs. Lays after vs bytes in subst P (sym e) l

pub AllWritable-laid : (after : Bool) (ts : List Token) (bytes : List ℕ) → Lays after ts bytes → AreWritable ts
AllWritable-laid after [] bytes l = tt
AllWritable-laid after (t ∷ ts) bytes l = ((l.1, l.5), AllWritable-laid (is_word t) ts l.2 l.7)

pub AllWritable-front : (ts us : List Token) → AreWritable (ts ++ us) → AreWritable ts
AllWritable-front [] us w = tt
AllWritable-front (t ∷ ts) us w = (w.0, AllWritable-front ts us w.1)

pub AllWritable-back : (ts us : List Token) → AreWritable (ts ++ us) → AreWritable us
AllWritable-back [] us w = w
AllWritable-back (t ∷ ts) us w = AllWritable-back ts us w.1

pub AllWritable-append : (ts us : List Token) → AreWritable ts → AreWritable us → AreWritable (ts ++ us)
AllWritable-append [] us w v = v
AllWritable-append (t ∷ ts) us w v = (w.0, AllWritable-append ts us w.1 v)
