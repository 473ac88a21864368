-- The lexemes of a text are written for its tokens.
use Rattle.std.proofs.Common.{◌≡◌, ◌≢◌, ◌⊎◌, inl, inr, ⊎_elim, ℕ, ◌<◌, ◌≤◌, Bool, true, false, cond, List, [], ◌∷◌, ◌++◌, length, Some, None, refl, sym, ◌∙◌, ap, subst, arith, append_assoc}
use Rattle.std.proofs.Common.{append-nil, option_map}
use Rattle.std.specs.Prelude.{◌==◌, ◌&&◌, ◌||◌}
use Rattle.std.specs.List.{list_all, AllByRecursion}
use Rattle.std.specs.Char.{is_ascii_alphanumeric, is_ascii_alphabetic, digit_value}
use Rattle.std.specs.Str.Parse.{AllDigits}
use Rattle.std.specs.Int.{is_in_range}
use Rattle.std.proofs.lemmas.Bool.{false≢true, and_parts, and_from, or_cases, or_left, or_right, not-true, le-leb, eqb-true}
use Rattle.vl_ast.specs.declared.expressions.Sized.{Sized}
use Rattle.vl_ast.specs.Tokens.{Token, Key, Sign, Identifier, Number, Based, is_word, IsWritten, IsDec, IsBased, IsSignMark, base_of, IsGap, Lays}
use Rattle.vl_names.specs.Identifiers.{is_identifier}
use Rattle.vl_read.specs.declared.scan.ByteClass.{ByteClass}
use Rattle.vl_read.specs.declared.scan.ByteClass.TheVariants.{OfWord, OfBlank, OfComment, OfMark, OfNone}
use Rattle.vl_read.specs.declared.scan.Mode.{Mode}
use Rattle.vl_read.specs.declared.scan.Mode.TheVariants.{Between, Word, Mark}
use Rattle.vl_read.specs.inner.Lexemes.{is_word_byte, class_of, extends, continues, ended, moved, begin, outside, lexemes_from}
use Rattle.vl_read.proofs.TokenReader.{WritesEach}
use Rattle.vl_read.proofs.Safe.{is_word_class, is_mark_class, chain, is_mark, is_key, is_fine, follows, safe}
use Rattle.vl_read.proofs.GapScan.{silent, IsOutside, is_between, is_word as is_in_word, is_mark as is_in_mark, restart, between_no, gap_ends, last_gap}

-- bytes of a word
abbrev pub AllOfWord : List ℕ → Type 0
AllOfWord bytes = AllByRecursion (λ byte. class_of byte ≡ OfWord) bytes

pub record IsWordText (bytes : List ℕ) : Type 0 where
  pub some : bytes ≢ []
  pub all : AllOfWord bytes

word_class : (byte : ℕ) → is_word_byte byte ≡ true → class_of byte ≡ OfWord
unfolding class_of
word_class byte h = rw h

of_name : (byte : ℕ) → (is_ascii_alphanumeric byte || byte == 95) ≡ true → class_of byte ≡ OfWord
of_name byte h = word_class byte (or_left _ _ (or_left _ _ h))

letter_is : (byte : ℕ) → is_ascii_alphabetic byte ≡ true → is_ascii_alphanumeric byte ≡ true
letter_is byte h =
    let digit : Bool = is_in_range 48 57 byte in
    let capital : Bool = is_in_range 65 90 byte in
    let small : Bool = is_in_range 97 122 byte in
    ⊎_elim (λ (e : capital ≡ true). or_left (digit || capital) small (or_right digit capital e)) (λ (e : small ≡ true). or_right (digit || capital) small e) (or_cases capital small h)

of_letter : (byte : ℕ) → (is_ascii_alphabetic byte || byte == 95) ≡ true → class_of byte ≡ OfWord
of_letter byte h = of_name byte (⊎_elim (λ e. or_left _ _ (letter_is byte e)) (λ e. or_right _ _ e) (or_cases _ _ h))

all_names : (bytes : List ℕ) → list_all (λ byte. is_ascii_alphanumeric byte || byte == 95) bytes ≡ true → AllOfWord bytes
all_names [] h = tt
all_names (b ∷ bs) h = let parts = and_parts (is_ascii_alphanumeric b || b == 95) _ h in (of_name b parts.0, all_names bs parts.1)

pub identifier_text : (name : List ℕ) → is_identifier name ≡ true → IsWordText name
identifier_text [] h = absurd (false≢true h)
identifier_text (b ∷ bs) h =
    let parts = and_parts _ _ (and_parts _ _ h).0 in
    record { some = λ e. cc; all = (of_letter b parts.0, all_names bs parts.1) }

digit_alphanumeric : (d : ℕ) → digit_value d < 36 → is_ascii_alphanumeric d ≡ true
digit_alphanumeric d h = ⊎_elim
    (λ (r : (48 ≤ d) × (d ≤ 57)). or_left _ _ (or_left _ _ (and_from _ _ (le-leb _ _ r.0) (le-leb _ _ r.1))))
    (λ r. ⊎_elim (λ (r : (65 ≤ d) × (d ≤ 90)). or_left _ _ (or_right _ _ (and_from _ _ (le-leb _ _ r.0) (le-leb _ _ r.1))))
    (λ (r : (97 ≤ d) × (d ≤ 122)). or_right _ _ (and_from _ _ (le-leb _ _ r.0) (le-leb _ _ r.1))) r)
    (ranges d h)
  where
    ranges : (d : ℕ) → digit_value d < 36 → ((48 ≤ d) × (d ≤ 57)) ⊎ (((65 ≤ d) × (d ≤ 90)) ⊎ ((97 ≤ d) × (d ≤ 122)))
    ranges d h = grind arith

all_digits_text : (base : ℕ) (digits : List ℕ) → base ≤ 36 → AllDigits base digits → AllOfWord digits
all_digits_text base [] small h = tt
all_digits_text base (d ∷ ds) small h = (of_name d (or_left _ _ (digit_alphanumeric d (omega (arith, h.0)))), all_digits_text base ds small h.1)

not_empty : (bytes : List ℕ) → 0 < length bytes → bytes ≢ []
not_empty bytes h e = omega (arith, ap length e)

dec_text : (n : ℕ) (digits : List ℕ) → IsDec n digits → IsWordText digits
dec_text n digits is = record { some = not_empty digits is.numeral.0; all = all_digits_text 10 digits (omega arith) is.numeral.1 }

base_small : (a b c : Bool) (base : ℕ) → cond a (Some 2) (cond b (Some 10) (cond c (Some 16) None)) ≡ Some base → base ≤ 36
base_small true b c base h = let e : 2 ≡ base = cc in omega arith
base_small false true c base h = let e : 10 ≡ base = cc in omega arith
base_small false false true base h = let e : 16 ≡ base = cc in omega arith
base_small false false false base h = cc

all_join : (front rest : List ℕ) → AllOfWord front → AllOfWord rest → AllOfWord (front ++ rest)
all_join [] rest f r = r
all_join (b ∷ bs) rest f r = (f.0, all_join bs rest f.1 r)

mark_text : (signed : Bool) (mark : List ℕ) → IsSignMark signed mark → AllOfWord mark
unfolding class_of
mark_text true mark (inl e) = subst AllOfWord (sym e) (refl, tt)
mark_text true mark (inr e) = subst AllOfWord (sym e) (refl, tt)
mark_text false mark e = subst AllOfWord (sym e) tt

quote_class : class_of 39 ≡ OfWord
unfolding class_of
quote_class = refl

letter_class : (letter base : ℕ) → base_of letter ≡ Some base → class_of letter ≡ OfWord
unfolding class_of
letter_class letter base h = ⊎_elim
    (λ (e : (letter == 98 || letter == 66) ≡ true). either 98 66 refl refl e)
    (λ r. ⊎_elim (λ (e : (letter == 100 || letter == 68) ≡ true). either 100 68 refl refl e) (λ (e : (letter == 104 || letter == 72) ≡ true). either 104 72 refl refl e) r)
    (tests (letter == 98 || letter == 66) (letter == 100 || letter == 68) (letter == 104 || letter == 72) h)
  where
    tests : (a b c : Bool) → cond a (Some 2) (cond b (Some 10) (cond c (Some 16) None)) ≡ Some base → (a ≡ true) ⊎ ((b ≡ true) ⊎ (c ≡ true))
    tests true b c h = inl refl
    tests false true c h = inr (inl refl)
    tests false false true h = inr (inr refl)
    tests false false false h = cc

    is : (k : ℕ) → class_of k ≡ OfWord → letter ≡ k → class_of letter ≡ OfWord
    is k here e = ap class_of e ∙ here

    either : (j k : ℕ) → class_of j ≡ OfWord → class_of k ≡ OfWord → (letter == j || letter == k) ≡ true → class_of letter ≡ OfWord
    either j k at_j at_k e = ⊎_elim (λ t. is j at_j (eqb-true letter j t)) (λ t. is k at_k (eqb-true letter k t)) (or_cases (letter == j) (letter == k) e)

based_text : (n : Sized) (bytes : List ℕ) → IsBased n bytes → IsWordText bytes
based_text n bytes is =
    let tail : List ℕ = is.letter ∷ is.digits in
    let all : AllOfWord (((is.width ++ 39 ∷ []) ++ is.mark) ++ tail) =
    all_join ((is.width ++ 39 ∷ []) ++ is.mark) tail
    (all_join (is.width ++ 39 ∷ []) is.mark (all_join is.width (39 ∷ []) (dec_text n.width is.width is.width_is).all (quote_class, tt)) (mark_text n.signed is.mark is.mark_is))
    (letter_class is.letter is.base is.base_is, all_digits_text is.base is.digits (base_small _ _ _ is.base is.base_is) is.numeral.1) in
    record { some = λ e. (dec_text n.width is.width is.width_is).some (first is.width (39 ∷ []) (first _ is.mark (first _ tail (sym is.text ∙ e)))); all = subst AllOfWord (sym is.text) all }
  where
    first : (a b : List ℕ) → a ++ b ≡ [] → a ≡ []
    first [] b e = refl
    first (x ∷ xs) b e = cc

key_all : (word : List ℕ) → list_all (λ byte. is_word_class (class_of byte)) word ≡ true → AllOfWord word
key_all [] h = tt
key_all (b ∷ bs) h = let parts = and_parts (is_word_class (class_of b)) _ h in (is_class (class_of b) parts.0, key_all bs parts.1)
  where
    is_class : (class : ByteClass) → is_word_class class ≡ true → class ≡ OfWord
    is_class OfWord h = refl
    is_class OfBlank h = cc
    is_class OfComment h = cc
    is_class OfMark h = cc
    is_class OfNone h = cc

pub key_text : (word : List ℕ) → is_key word ≡ true → IsWordText word
key_text [] h = absurd (false≢true h)
key_text (b ∷ bs) h = record { some = λ e. cc; all = key_all (b ∷ bs) h }

-- what is written for a word
pub word_text : (token : Token) (written : List ℕ) → is_word token ≡ true → is_fine token ≡ true → IsWritten token written → IsWordText written
unfolding is_fine
word_text (Key word) written word_is fine e = subst IsWordText (sym e) (key_text word fine)
word_text (Sign mark) written word_is fine e = cc
word_text (Identifier name) written word_is fine w = subst IsWordText (sym w.0) (identifier_text name w.1)
word_text (Number n) written word_is fine is = dec_text n written is
word_text (Based n) written word_is fine is = based_text n written is

-- a word is read to its end
word_rest : (bytes rest lexeme : List ℕ) → AllOfWord bytes → lexemes_from Word lexeme (bytes ++ rest) ≡ lexemes_from Word (lexeme ++ bytes) rest
word_rest [] rest lexeme all = ap (λ l. lexemes_from Word l rest) (sym (append-nil lexeme))
word_rest (b ∷ bs) rest lexeme all =
    silent Word Word lexeme (lexeme ++ b ∷ []) b (bs ++ rest) (ap (λ class. outside Word lexeme class b) all.0)
    ∙ word_rest bs rest (lexeme ++ b ∷ []) all.1 ∙ ap (λ l. lexemes_from Word l rest) (append_assoc lexeme (b ∷ []) bs)

pub word_read : (bytes rest : List ℕ) → IsWordText bytes → lexemes_from Between [] (bytes ++ rest) ≡ lexemes_from Word bytes rest
word_read [] rest is = absurd (is.some refl)
word_read (b ∷ bs) rest is =
    silent Between Word [] (b ∷ []) b (bs ++ rest) (ap (λ class. outside Between [] class b) is.all.0) ∙ word_rest bs rest (b ∷ []) is.all.1

pub mark_class : (class : ByteClass) → is_mark_class class ≡ true → class ≡ OfMark
mark_class OfMark h = refl
mark_class _ h = cc

-- and so is a mark
chain_read : (bytes rest mark : List ℕ) → chain mark bytes ≡ true → lexemes_from Mark mark (bytes ++ rest) ≡ lexemes_from Mark (mark ++ bytes) rest
chain_read [] rest mark h = ap (λ l. lexemes_from Mark l rest) (sym (append-nil mark))
chain_read (b ∷ bs) rest mark h =
    let parts = and_parts (is_mark_class (class_of b) && extends mark b) _ h in
    let here = and_parts (is_mark_class (class_of b)) (extends mark b) parts.0 in
    silent Mark Mark mark (mark ++ b ∷ []) b (bs ++ rest)
    (ap (λ class. outside Mark mark class b) (mark_class (class_of b) here.0) ∙ ap (λ t. cond t (moved [] Mark (mark ++ b ∷ [])) (begin (ended Mark mark) OfMark b)) here.1)
    ∙ chain_read bs rest (mark ++ b ∷ []) parts.1 ∙ ap (λ l. lexemes_from Mark l rest) (append_assoc mark (b ∷ []) bs)

pub mark_read : (mark rest : List ℕ) → is_mark mark ≡ true → lexemes_from Between [] (mark ++ rest) ≡ lexemes_from Mark mark rest
mark_read [] rest h = absurd (false≢true h)
mark_read (b ∷ bs) rest h =
    let parts = and_parts (is_mark_class (class_of b)) _ h in
    silent Between Mark [] (b ∷ []) b (bs ++ rest) (ap (λ class. outside Between [] class b) (mark_class (class_of b) parts.0)) ∙ chain_read bs rest (b ∷ []) parts.1

-- where the reading is after a token
pub data After : Bool → Mode → List ℕ → Token → Type 0 where
  after_none : After false Between [] (Key [])
  after_word : (token : Token) (lexeme : List ℕ) → After true Word lexeme token
  after_mark : (mark : List ℕ) → After false Mark mark (Sign mark)

after_outside : (w : Bool) (mode : Mode) (lexeme : List ℕ) (token : Token) → After w mode lexeme token → IsOutside mode
after_outside w mode lexeme token after_none = is_between
after_outside w mode lexeme token (after_word _ _) = is_in_word
after_outside w mode lexeme token (after_mark _) = is_in_mark

-- the first byte of a token goes on with no lexeme before it,
word_first : (b : ℕ) (w : Bool) (mode : Mode) (lexeme : List ℕ) (token : Token) → After w mode lexeme token → class_of b ≡ OfWord → w ≡ false → continues mode (class_of b) lexeme b ≡ false
word_first b w mode lexeme token after_none class h = between_no (class_of b) [] b
word_first b w mode lexeme token (after_word _ _) class h = cc
word_first b w mode lexeme token (after_mark _) class h = ap (λ c. continues Mark c lexeme b) class

mark_first : (b : ℕ) (bs : List ℕ) (w : Bool) (mode : Mode) (lexeme : List ℕ) (token : Token)
    → After w mode lexeme token → class_of b ≡ OfMark → follows token (Sign (b ∷ bs)) ≡ true
    → continues mode (class_of b) lexeme b ≡ false
unfolding follows
mark_first b bs w mode lexeme token after_none class h = between_no (class_of b) [] b
mark_first b bs w mode lexeme token (after_word _ _) class h = ap (λ c. continues Word c lexeme b) class
mark_first b bs w mode lexeme token (after_mark _) class h = ap (λ c. continues Mark c lexeme b) class ∙ not-true (extends lexeme b) h

-- so a token with nothing before it ends that lexeme
word_ends : (written rest : List ℕ) (w : Bool) (mode : Mode) (lexeme : List ℕ) (token : Token) → After w mode lexeme token → IsWordText written → w ≡ false →
    lexemes_from mode lexeme (written ++ rest) ≡ option_map (λ more. ended mode lexeme ++ more) (lexemes_from Between [] (written ++ rest))
word_ends [] rest w mode lexeme token after is h = absurd (is.some refl)
word_ends (b ∷ bs) rest w mode lexeme token after is h =
    restart mode lexeme b (bs ++ rest) (after_outside w mode lexeme token after) (word_first b w mode lexeme token after is.all.0 h)

mark_ends : (mark rest : List ℕ) (w : Bool) (mode : Mode) (lexeme : List ℕ) (token : Token) → After w mode lexeme token → is_mark mark ≡ true → follows token (Sign mark) ≡ true →
    lexemes_from mode lexeme (mark ++ rest) ≡ option_map (λ more. ended mode lexeme ++ more) (lexemes_from Between [] (mark ++ rest))
mark_ends [] rest w mode lexeme token after is h = absurd (false≢true is)
mark_ends (b ∷ bs) rest w mode lexeme token after is h =
    restart mode lexeme b (bs ++ rest) (after_outside w mode lexeme token after)
    (mark_first b bs w mode lexeme token after (mark_class (class_of b) (and_parts (is_mark_class (class_of b)) _ is).0) h)

-- what is read of a token, whatever gap stands before it
pub record IsLexed (token : Token) (written : List ℕ) : Type 0 where
  pub mode : Mode
  pub after : After (is_word token) mode written token
  pub lexeme : ended mode written ≡ written ∷ []
  pub read : (rest : List ℕ) → lexemes_from Between [] (written ++ rest) ≡ lexemes_from mode written rest
  pub ends : (rest : List ℕ) (w : Bool) (before : Mode) (lexeme : List ℕ) (old : Token) → After w before lexeme old → (w && is_word token) ≡ false → follows old token ≡ true →
      lexemes_from before lexeme (written ++ rest) ≡ option_map (λ more. ended before lexeme ++ more) (lexemes_from Between [] (written ++ rest))

word_lexed : (token : Token) (written : List ℕ) → is_word token ≡ true → IsWordText written → IsLexed token written
word_lexed token written word_is is = record {
  mode = Word;
  after = subst (λ w. After w Word written token) (sym word_is) (after_word token written);
  lexeme = refl;
  read = λ rest. word_read written rest is;
  ends = λ rest w before lexeme old after both follow. word_ends written rest w before lexeme old after is (alone w (is_word token) word_is both);
}
  where
    alone : (a b : Bool) → b ≡ true → (a && b) ≡ false → a ≡ false
    alone true b e h = absurd (impossible (sym e ∙ h))
      where
        impossible : true ≡ false → ⊥
        impossible e = cc
    alone false b e h = refl

mark_lexed : (mark : List ℕ) → is_mark mark ≡ true → IsLexed (Sign mark) mark
mark_lexed mark is = record {
  mode = Mark;
  after = after_mark mark;
  lexeme = refl;
  read = λ rest. mark_read mark rest is;
  ends = λ rest w before lexeme old after both follow. mark_ends mark rest w before lexeme old after is follow;
}

lexed : (token : Token) (written : List ℕ) → is_fine token ≡ true → IsWritten token written → IsLexed token written
unfolding is_fine
lexed (Key word) written fine w = word_lexed (Key word) written refl (subst IsWordText (sym w) (key_text word fine))
lexed (Sign mark) written fine w = subst (IsLexed (Sign mark)) (sym w) (mark_lexed mark fine)
lexed (Identifier name) written fine w = word_lexed (Identifier name) written refl (subst IsWordText (sym w.0) (identifier_text name w.1))
lexed (Number n) written fine w = word_lexed (Number n) written refl (dec_text n written w)
lexed (Based n) written fine w = word_lexed (Based n) written refl (based_text n written w)

pub record AreLexemes (tokens : List Token) (bytes : List ℕ) (mode : Mode) (lexeme : List ℕ) : Type 0 where
  pub lexemes : List (List ℕ)
  pub writes : WritesEach tokens lexemes
  pub same : lexemes_from mode lexeme bytes ≡ Some (ended mode lexeme ++ lexemes)

-- a gap, and then what is written for a token
before_token : (gap written rest : List ℕ) (token : Token) → IsLexed token written → (w : Bool) (mode : Mode) (lexeme : List ℕ) (old : Token) → After w mode lexeme old → IsGap gap →
    ((w && is_word token) ≡ true → gap ≢ []) → follows old token ≡ true →
    lexemes_from mode lexeme (gap ++ (written ++ rest)) ≡ option_map (λ more. ended mode lexeme ++ more) (lexemes_from Between [] (written ++ rest))
before_token [] written rest token is w mode lexeme old after gap some follow =
    is.ends rest w mode lexeme old after (no (w && is_word token) (λ e. some e refl)) follow
  where
    no : (b : Bool) → (b ≡ true → ⊥) → b ≡ false
    no true h = absurd (h refl)
    no false h = refl
before_token (b ∷ bs) written rest token is w mode lexeme old after gap some follow =
    gap_ends (b ∷ bs) (written ++ rest) mode lexeme (after_outside w mode lexeme old after) gap (λ e. cc)

pub lays_read : (tokens : List Token) (bytes : List ℕ) (w : Bool) (mode : Mode) (lexeme : List ℕ) (old : Token) → After w mode lexeme old → Lays w tokens bytes → safe old tokens ≡ true →
    AreLexemes tokens bytes mode lexeme
lays_read [] bytes w mode lexeme old after lays fits =
    record { lexemes = []; writes = refl; same = last_gap bytes mode lexeme (after_outside w mode lexeme old after) lays ∙ ap Some (sym (append-nil (ended mode lexeme))) }
lays_read (token ∷ tokens) bytes w mode lexeme old after lays fits =
    let parts = and_parts (follows old token && is_fine token) (safe token tokens) fits in
    let here = and_parts (follows old token) (is_fine token) parts.0 in
    let is : IsLexed token lays.1 = lexed token lays.1 here.1 lays.5 in
    let more : AreLexemes tokens lays.2 is.mode lays.1 = lays_read tokens lays.2 (is_word token) is.mode lays.1 token is.after lays.7 parts.1 in
    record {
      lexemes = lays.1 ∷ more.lexemes;
      writes = (lays.1, more.lexemes, refl, lays.5, more.writes);
      same =
          ap (lexemes_from mode lexeme) (lays.8 ∙ append_assoc lays.0 lays.1 lays.2)
          ∙ before_token lays.0 lays.1 lays.2 token is w mode lexeme old after lays.3 lays.4 here.0
          ∙ ap (option_map (λ more. ended mode lexeme ++ more)) (is.read lays.2 ∙ more.same)
          ∙ ap (λ l. Some (ended mode lexeme ++ (l ++ more.lexemes))) is.lexeme;
    }
