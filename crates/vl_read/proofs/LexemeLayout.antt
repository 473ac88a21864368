-- What bytes are divided into is laid in them: the other direction of `Lexemes`.
use Rattle.std.proofs.Common.{◌≡◌, ◌≢◌, ⊎_elim, ℕ, Bool, true, false, cond, List, [], ◌∷◌, ◌++◌, Option, Some, None, refl, sym, ◌∙◌, ap, subst, inl, inr, append_assoc, option_map, option_and_then}
use Rattle.std.specs.Prelude.{⊤, ◌==◌, ◌&&◌}
use Rattle.std.proofs.lemmas.Bool.{and_parts, eqb-true, eqb-false, cases_Bool, false≢true}
use Rattle.std.proofs.lemmas.Option.{none-some, same_Some}
use Rattle.vl_ast.specs.Tokens.{Token, Sign, Blank, is_blank, is_word, is_longest, IsWritten, IsLongest, Lays}
use Rattle.vl_read.specs.declared.scan.ByteClass.{ByteClass}
use Rattle.vl_read.specs.declared.scan.ByteClass.TheVariants.{OfWord, OfBlank, OfComment, OfMark, OfNone}
use Rattle.vl_read.specs.declared.scan.Mode.{Mode}
use Rattle.vl_read.specs.declared.scan.Mode.TheVariants.{Between, Word, Mark, Slash, LineComment, BlockComment, Star}
use Rattle.vl_read.specs.inner.Lexemes.{is_word_byte, is_mark_byte, class_of, continues, ended, Move, moved, begin, outside, move, lexemes_from}
use Rattle.vl_read.proofs.TokenReader.{WritesEach, Writes}
use Rattle.vl_read.proofs.Safe.{is_mark_class, is_mark, is_fine, follows, safe}
use Rattle.vl_read.proofs.GapScan.{silent, IsOutside, is_word as is_in_word, is_mark as is_in_mark, restart}
use Rattle.vl_read.proofs.Lexemes.{IsWordText, word_text, mark_class}
use Rattle.vl_read.proofs.GapLayout.{empty_gap, filler_put, nothing_one_line, LineRest, line_more, line_laid, BlockRest, block_ends, block_more, block_laid}
use Rattle.vl_read.proofs.LongestMarks.{IsCut, longest_here}

-- what a class says of its byte

abbrev Says : ByteClass → Bool → Bool → Type 0
Says OfBlank blank comment = blank ≡ true
Says OfComment blank comment = comment ≡ true
Says class blank comment = ⊤

class_says : (word blank comment mark : Bool) → Says (cond word OfWord (cond blank OfBlank (cond comment OfComment (cond mark OfMark OfNone)))) blank comment
class_says true blank comment mark = tt
class_says false true comment mark = refl
class_says false false true mark = refl
class_says false false false true = tt
class_says false false false false = tt

byte_says : (byte : ℕ) (class : ByteClass) → class_of byte ≡ class → Says class (is_blank byte) (byte == 47)
unfolding class_of
byte_says byte class is = subst (λ class. Says class (is_blank byte) (byte == 47)) is (class_says (is_word_byte byte) (is_blank byte) (byte == 47) (is_mark_byte byte))

blank_byte : (byte : ℕ) → class_of byte ≡ OfBlank → is_blank byte ≡ true
blank_byte byte is = byte_says byte OfBlank is

slash_byte : (byte : ℕ) → class_of byte ≡ OfComment → byte ≡ 47
slash_byte byte is = eqb-true byte 47 (byte_says byte OfComment is)

-- the class of the first byte
abbrev Begins : ByteClass → List ℕ → Type 0
Begins class [] = ⊥
Begins class (byte ∷ bytes) = class_of byte ≡ class

begins_more : (class : ByteClass) (bytes rest : List ℕ) → Begins class bytes → Begins class (bytes ++ rest)
begins_more class [] rest h = absurd h
begins_more class (byte ∷ bytes) rest h = h

begins_some : (class : ByteClass) (bytes : List ℕ) → Begins class bytes → bytes ≢ []
begins_some class [] h e = h
begins_some class (byte ∷ bytes) h e = cc

no_word_is_mark : OfWord ≡ OfMark → ⊥
no_word_is_mark e = cc

begins_one : (bytes : List ℕ) → Begins OfWord bytes → Begins OfMark bytes → ⊥
begins_one [] word mark = word
begins_one (byte ∷ bytes) word mark = no_word_is_mark (sym word ∙ mark)

word_begins : (written : List ℕ) → IsWordText written → Begins OfWord written
word_begins [] is = is.some refl
word_begins (byte ∷ bytes) is = is.all.0

mark_begins : (mark : List ℕ) → is_mark mark ≡ true → Begins OfMark mark
mark_begins [] h = false≢true h
mark_begins (byte ∷ bytes) h = mark_class (class_of byte) (and_parts (is_mark_class (class_of byte)) _ h).0

-- what begins as a word is written for a word, and so with marks
word_token : (token : Token) (written : List ℕ) → is_fine token ≡ true → IsWritten token written → Begins OfWord written → is_word token ≡ true
unfolding is_fine
word_token (Sign mark) written fine w begins = absurd (begins_one written begins (subst (Begins OfMark) (sym w) (mark_begins mark fine)))
word_token _ written fine w begins = refl

mark_token : (token : Token) (written : List ℕ) → is_fine token ≡ true → IsWritten token written → Begins OfMark written → is_word token ≡ false
mark_token token written fine w begins =
    ⊎_elim (λ e. absurd (begins_one written (word_begins written (word_text token written e fine w)) begins)) (λ e. e) (cases_Bool (is_word token))

word_longest : (token : Token) (rest : List ℕ) → is_word token ≡ true → IsLongest token rest
word_longest (Sign mark) rest h = absurd (false≢true h)
word_longest _ rest h = tt

mark_longest : (token : Token) (written rest : List ℕ) → IsWritten token written → written ≢ [] → IsCut written rest → IsLongest token rest
mark_longest (Sign mark) written rest w some cut = subst (λ m. is_longest m rest ≡ true) w (longest_here written rest some cut)
mark_longest _ written rest w some cut = tt

-- the tokens that the lexemes are written for, the first after this one
pub record AreTokens (tokens : List Token) (lexemes : List (List ℕ)) : Type 0 where
  pub before : Token
  pub writes : WritesEach tokens lexemes
  pub fits : safe before tokens ≡ true

no_tokens : (tokens : List Token) → AreTokens tokens [] → tokens ≡ []
no_tokens [] are = refl
no_tokens (token ∷ tokens) are = absurd (no are.writes.0 are.writes.1 are.writes.2)
  where
    no : (lexeme : List ℕ) (more : List (List ℕ)) → [] ≡ lexeme ∷ more → ⊥
    no lexeme more e = cc

-- the token of the first lexeme, and the others
record FirstToken (tokens : List Token) (lexeme : List ℕ) (more : List (List ℕ)) : Type 0 where
  pub token : Token
  pub others : List Token
  pub split : tokens ≡ token ∷ others
  pub fine : is_fine token ≡ true
  pub written : IsWritten token lexeme
  pub rest : AreTokens others more

first_token : (tokens : List Token) (lexeme : List ℕ) (more : List (List ℕ)) → AreTokens tokens (lexeme ∷ more) → FirstToken tokens lexeme more
first_token [] lexeme more are = absurd (no are.writes)
  where
    no : lexeme ∷ more ≡ [] → ⊥
    no e = cc
first_token (token ∷ others) lexeme more are =
    let parts = and_parts (follows are.before token && is_fine token) (safe token others) are.fits in
    let split : lexeme ∷ more ≡ are.writes.0 ∷ are.writes.1 = are.writes.2 in
    let same : are.writes.0 ≡ lexeme = cc in
    let same_more : are.writes.1 ≡ more = cc in
    record {
      token = token;
      others = others;
      split = refl;
      fine = (and_parts (follows are.before token) (is_fine token) parts.0).1;
      written = subst (IsWritten token) same are.writes.3;
      rest = record { before = token; writes = subst (WritesEach others) same_more are.writes.4; fits = parts.1 };
    }

-- a lexeme with nothing before it, and then a layout of the other tokens
put_first : (tokens : List Token) (lexeme rest : List ℕ) (more : List (List ℕ)) (after word : Bool) (first : FirstToken tokens lexeme more) → is_word first.token ≡ word → (after && word) ≡ false →
    IsLongest first.token rest → ((others : List Token) → AreTokens others more → Lays word others rest) → Lays after tokens (lexeme ++ rest)
put_first tokens lexeme rest more after word first is apart longest laid =
    subst (λ t. Lays after t (lexeme ++ rest)) (sym first.split) (
      [],
      lexeme,
      rest,
      empty_gap,
      λ e. absurd (false≢true (sym apart ∙ ap (λ w. after && w) (sym is) ∙ e)),
      first.written,
      longest,
      subst (λ w. Lays w first.others rest) (sym is) (laid first.others first.rest),
      refl,
    )

put_word : (tokens : List Token) (lexeme rest : List ℕ) (more : List (List ℕ)) → AreTokens tokens (lexeme ∷ more) → Begins OfWord lexeme →
    ((others : List Token) → AreTokens others more → Lays true others rest) → Lays false tokens (lexeme ++ rest)
put_word tokens lexeme rest more are begins laid =
    let first = first_token tokens lexeme more are in
    let word : is_word first.token ≡ true = word_token first.token lexeme first.fine first.written begins in
    put_first tokens lexeme rest more false true first word refl (word_longest first.token rest word) laid

put_mark : (tokens : List Token) (lexeme rest : List ℕ) (more : List (List ℕ)) (after : Bool) → AreTokens tokens (lexeme ∷ more) → Begins OfMark lexeme → IsCut lexeme rest →
    ((others : List Token) → AreTokens others more → Lays false others rest) → Lays after tokens (lexeme ++ rest)
put_mark tokens lexeme rest more after are begins cut laid =
    let first = first_token tokens lexeme more are in
    let mark : is_word first.token ≡ false = mark_token first.token lexeme first.fine first.written begins in
    put_first tokens lexeme rest more after false first mark (apart after) (mark_longest first.token lexeme rest first.written (begins_some OfMark lexeme begins) cut) laid
  where
    apart : (after : Bool) → (after && false) ≡ false
    apart true = refl
    apart false = refl

-- from this mode and lexeme the bytes make the lexemes of the tokens
pub record AreDivided (mode : Mode) (lexeme bytes : List ℕ) (tokens : List Token) : Type 0 where
  pub lexemes : List (List ℕ)
  pub read : lexemes_from mode lexeme bytes ≡ Some lexemes
  pub are : AreTokens tokens lexemes

-- no byte of a word stands first
abbrev IsWordless : List ℕ → Type 0
IsWordless [] = ⊤
IsWordless (byte ∷ bytes) = class_of byte ≢ OfWord

-- where the tokens are laid then, with what the mode says of the bytes before
abbrev Ahead : Mode → List ℕ → List Token → List ℕ → Type 0
Ahead Between lexeme tokens bytes = (after : Bool) → (after ≡ true → IsWordless bytes) → Lays after tokens bytes
Ahead Word lexeme tokens bytes = Begins OfWord lexeme → Lays false tokens (lexeme ++ bytes)
Ahead Mark lexeme tokens bytes = Begins OfMark lexeme → (after : Bool) → Lays after tokens (lexeme ++ bytes)
Ahead Slash lexeme tokens bytes = (after : Bool) → Lays after tokens (47 ∷ bytes)
Ahead LineComment lexeme tokens bytes = LineRest tokens bytes
Ahead BlockComment lexeme tokens bytes = BlockRest tokens bytes
Ahead Star lexeme tokens bytes = BlockRest tokens (42 ∷ bytes)

-- what holds of the bytes that are left, whatever stands before them
abbrev AreLaid : List ℕ → Type 0
AreLaid bytes = (mode : Mode) (lexeme : List ℕ) (tokens : List Token) → AreDivided mode lexeme bytes tokens → Ahead mode lexeme tokens bytes

-- the end of the text

nothing_laid : (after : Bool) (tokens : List Token) → AreTokens tokens [] → Lays after tokens []
nothing_laid after tokens are = subst (λ t. Lays after t []) (sym (no_tokens tokens are)) (inl empty_gap)

tokens_of : (tokens : List Token) (last lexemes : List (List ℕ)) → Some last ≡ Some lexemes → AreTokens tokens lexemes → AreTokens tokens last
tokens_of tokens last lexemes e are = subst (AreTokens tokens) (sym (same_Some last lexemes e)) are

at_end : AreLaid []
at_end Between lexeme tokens d = λ after wordless. nothing_laid after tokens (tokens_of tokens _ d.lexemes d.read d.are)
at_end Word lexeme tokens d = λ begins. put_word tokens lexeme [] [] (tokens_of tokens _ d.lexemes d.read d.are) begins (λ others are. nothing_laid true others are)
at_end Mark lexeme tokens d = λ begins after. put_mark tokens lexeme [] [] after (tokens_of tokens _ d.lexemes d.read d.are) begins tt (λ others are. nothing_laid false others are)
at_end LineComment lexeme tokens d = inr (no_tokens tokens (tokens_of tokens _ d.lexemes d.read d.are), nothing_one_line)
at_end _ lexeme tokens d = absurd (none-some _ d.read)

-- a byte more

moved_on : (mode to : Mode) (lexeme then : List ℕ) (byte : ℕ) (bytes : List ℕ) (tokens : List Token) → AreDivided mode lexeme (byte ∷ bytes) tokens → move mode lexeme byte ≡ moved [] to then →
    AreDivided to then bytes tokens
moved_on mode to lexeme then byte bytes tokens d h = record { lexemes = d.lexemes; read = sym (silent mode to lexeme then byte bytes h) ∙ d.read; are = d.are }

stopped : (mode : Mode) (lexeme : List ℕ) (byte : ℕ) (bytes : List ℕ) (tokens : List Token) → AreDivided mode lexeme (byte ∷ bytes) tokens → move mode lexeme byte ≡ None → ⊥
stopped mode lexeme byte bytes tokens d h =
    none-some _ (sym (ap (λ o. option_and_then (λ (n : Move). option_map (λ more. n.lexemes ++ more) (lexemes_from n.mode n.lexeme bytes)) o) h) ∙ d.read)

-- the lexeme ends before the byte, where it doesn't go on with it
record Restarted (lexemes front : List (List ℕ)) (bytes : List ℕ) : Type 0 where
  pub more : List (List ℕ)
  pub read : lexemes_from Between [] bytes ≡ Some more
  pub same : lexemes ≡ front ++ more

mapped : (o : Option (List (List ℕ))) (front lexemes : List (List ℕ)) (bytes : List ℕ)
    → lexemes_from Between [] bytes ≡ o → option_map (λ more. front ++ more) o ≡ Some lexemes
    → Restarted lexemes front bytes
mapped None front lexemes bytes e h = absurd (none-some _ h)
mapped (Some more) front lexemes bytes e h = record { more = more; read = e; same = sym (same_Some _ _ h) }

restarted : (mode : Mode) (lexeme : List ℕ) (byte : ℕ) (bytes : List ℕ) (tokens : List Token) → IsOutside mode → continues mode (class_of byte) lexeme byte ≡ false →
    (d : AreDivided mode lexeme (byte ∷ bytes) tokens) → Restarted d.lexemes (ended mode lexeme) (byte ∷ bytes)
restarted mode lexeme byte bytes tokens out cut d =
    mapped (lexemes_from Between [] (byte ∷ bytes)) (ended mode lexeme) d.lexemes (byte ∷ bytes) refl (sym (restart mode lexeme byte bytes out cut) ∙ d.read)

-- the byte goes on with no lexeme
from_between : (lexeme : List ℕ) (byte : ℕ) (bytes : List ℕ) (tokens : List Token) → AreLaid bytes
    → AreDivided Between lexeme (byte ∷ bytes) tokens → (after : Bool) → (after ≡ true → class_of byte ≢ OfWord) →
    Lays after tokens (byte ∷ bytes)
from_between lexeme byte bytes tokens laid d after wordless = by_class (class_of byte) refl
  where
    goes : (class : ByteClass) → class_of byte ≡ class → move Between lexeme byte ≡ outside Between lexeme class byte
    goes class e = ap (λ class. outside Between lexeme class byte) e

    word_laid : (w : Bool) → (w ≡ true → class_of byte ≢ OfWord) → class_of byte ≡ OfWord → Lays w tokens (byte ∷ bytes)
    word_laid true wordless e = absurd (wordless refl e)
    word_laid false wordless e = laid Word (byte ∷ []) tokens (moved_on Between Word lexeme (byte ∷ []) byte bytes tokens d (goes OfWord e)) e

    by_class : (class : ByteClass) → class_of byte ≡ class → Lays after tokens (byte ∷ bytes)
    by_class OfWord e = word_laid after wordless e
    by_class OfBlank e =
        filler_put (Blank byte) tokens bytes after (blank_byte byte e)
        (laid Between [] tokens (moved_on Between Between lexeme [] byte bytes tokens d (goes OfBlank e)) false (λ h. absurd (false≢true h)))
    by_class OfComment e =
        subst (λ b. Lays after tokens (b ∷ bytes)) (sym (slash_byte byte e)) (laid Slash [] tokens (moved_on Between Slash lexeme [] byte bytes tokens d (goes OfComment e)) after)
    by_class OfMark e = laid Mark (byte ∷ []) tokens (moved_on Between Mark lexeme (byte ∷ []) byte bytes tokens d (goes OfMark e)) e after
    by_class OfNone e = absurd (stopped Between lexeme byte bytes tokens d (goes OfNone e))

from_word : (lexeme : List ℕ) (byte : ℕ) (bytes : List ℕ) (tokens : List Token) → AreLaid bytes
    → AreDivided Word lexeme (byte ∷ bytes) tokens → Begins OfWord lexeme
    → Lays false tokens (lexeme ++ byte ∷ bytes)
from_word lexeme byte bytes tokens laid d begins = by_class (class_of byte) refl
  where
    ends : (class : ByteClass) → class_of byte ≡ class → continues Word class lexeme byte ≡ false → class ≢ OfWord → Lays false tokens (lexeme ++ byte ∷ bytes)
    ends class e cut other =
        let is = restarted Word lexeme byte bytes tokens is_in_word (ap (λ c. continues Word c lexeme byte) e ∙ cut) d in
        put_word tokens lexeme (byte ∷ bytes) is.more (subst (AreTokens tokens) is.same d.are) begins
        (λ others are. from_between [] byte bytes others laid (record { lexemes = is.more; read = is.read; are = are }) true (λ _ h. other (sym e ∙ h)))

    by_class : (class : ByteClass) → class_of byte ≡ class → Lays false tokens (lexeme ++ byte ∷ bytes)
    by_class OfWord e =
        subst (Lays false tokens) (append_assoc lexeme (byte ∷ []) bytes)
        (laid Word (lexeme ++ byte ∷ []) tokens
        (moved_on Word Word lexeme (lexeme ++ byte ∷ []) byte bytes tokens d
        (ap (λ class. outside Word lexeme class byte) e)) (begins_more OfWord lexeme (byte ∷ []) begins))
    by_class OfBlank e = ends OfBlank e refl (λ h. cc)
    by_class OfComment e = ends OfComment e refl (λ h. cc)
    by_class OfMark e = ends OfMark e refl (λ h. cc)
    by_class OfNone e = ends OfNone e refl (λ h. cc)

from_mark : (lexeme : List ℕ) (byte : ℕ) (bytes : List ℕ) (tokens : List Token) → AreLaid bytes
    → AreDivided Mark lexeme (byte ∷ bytes) tokens → Begins OfMark lexeme → (after : Bool)
    → Lays after tokens (lexeme ++ byte ∷ bytes)
from_mark lexeme byte bytes tokens laid d begins after = ⊎_elim longer ends (cases_Bool (continues Mark (class_of byte) lexeme byte))
  where
    longer : continues Mark (class_of byte) lexeme byte ≡ true → Lays after tokens (lexeme ++ byte ∷ bytes)
    longer e =
        subst (Lays after tokens) (append_assoc lexeme (byte ∷ []) bytes)
        (laid Mark (lexeme ++ byte ∷ []) tokens
        (moved_on Mark Mark lexeme (lexeme ++ byte ∷ []) byte bytes tokens d (ap (λ t. cond t (moved [] Mark (lexeme ++ byte ∷ [])) (begin (ended Mark lexeme) (class_of byte) byte)) e))
        (begins_more OfMark lexeme (byte ∷ []) begins) after)

    ends : continues Mark (class_of byte) lexeme byte ≡ false → Lays after tokens (lexeme ++ byte ∷ bytes)
    ends cut =
        let is = restarted Mark lexeme byte bytes tokens is_in_mark cut d in
        put_mark tokens lexeme (byte ∷ bytes) is.more after (subst (AreTokens tokens) is.same d.are) begins cut
        (λ others are. from_between [] byte bytes others laid (record { lexemes = is.more; read = is.read; are = are }) false (λ h. absurd (false≢true h)))

-- and in comments

from_slash : (lexeme : List ℕ) (byte : ℕ) (bytes : List ℕ) (tokens : List Token) → AreLaid bytes
    → AreDivided Slash lexeme (byte ∷ bytes) tokens → (after : Bool) → Lays after tokens (47 ∷ byte ∷ bytes)
from_slash lexeme byte bytes tokens laid d after = ⊎_elim line other (cases_Bool (byte == 47))
  where
    step : (a b : Bool) → (byte == 47) ≡ a → (byte == 42) ≡ b → move Slash lexeme byte ≡ cond a (moved [] LineComment []) (cond b (moved [] BlockComment []) None)
    step a b first second = ap (λ t. cond t (moved [] LineComment [])
        (cond (byte == 42) (moved [] BlockComment []) None)) first
        ∙ ap (λ t. cond a (moved [] LineComment []) (cond t (moved [] BlockComment []) None)) second

    line : (byte == 47) ≡ true → Lays after tokens (47 ∷ byte ∷ bytes)
    line e =
        subst (λ b. Lays after tokens (47 ∷ b ∷ bytes)) (sym (eqb-true byte 47 e))
        (line_laid tokens bytes after (laid LineComment [] tokens (moved_on Slash LineComment lexeme [] byte bytes tokens d (step true (byte == 42) e refl))))

    other : (byte == 47) ≡ false → Lays after tokens (47 ∷ byte ∷ bytes)
    other unlike =
        ⊎_elim
        (λ e. subst (λ b. Lays after tokens (47 ∷ b ∷ bytes)) (sym (eqb-true byte 42 e))
        (block_laid tokens bytes after (laid BlockComment [] tokens (moved_on Slash BlockComment lexeme [] byte bytes tokens d (step false true unlike e)))))
        (λ e. absurd (stopped Slash lexeme byte bytes tokens d (step false false unlike e)))
        (cases_Bool (byte == 42))

from_line : (lexeme : List ℕ) (byte : ℕ) (bytes : List ℕ) (tokens : List Token) → AreLaid bytes → AreDivided LineComment lexeme (byte ∷ bytes) tokens → LineRest tokens (byte ∷ bytes)
from_line lexeme byte bytes tokens laid d = ⊎_elim
    (λ (e : (byte == 10) ≡ true). inl (
      [],
      bytes,
      nothing_one_line,
      ap (λ b. b ∷ bytes) (eqb-true byte 10 e),
      laid Between [] tokens (moved_on LineComment Between lexeme [] byte bytes tokens d (step true e)) false (λ h. absurd (false≢true h)),
    ))
    (λ e. line_more byte bytes tokens (eqb-false byte 10 e) (laid LineComment [] tokens (moved_on LineComment LineComment lexeme [] byte bytes tokens d (step false e))))
    (cases_Bool (byte == 10))
  where
    step : (a : Bool) → (byte == 10) ≡ a → move LineComment lexeme byte ≡ cond a (moved [] Between []) (moved [] LineComment [])
    step a e = ap (λ t. cond t (moved [] Between []) (moved [] LineComment [])) e

from_block : (lexeme : List ℕ) (byte : ℕ) (bytes : List ℕ) (tokens : List Token) → AreLaid bytes → AreDivided BlockComment lexeme (byte ∷ bytes) tokens → BlockRest tokens (byte ∷ bytes)
from_block lexeme byte bytes tokens laid d = ⊎_elim
    (λ e. subst (λ b. BlockRest tokens (b ∷ bytes)) (sym (eqb-true byte 42 e)) (laid Star [] tokens (moved_on BlockComment Star lexeme [] byte bytes tokens d (step true e))))
    (λ e. block_more byte bytes tokens (λ at. absurd (eqb-false byte 42 e at)) (laid BlockComment [] tokens (moved_on BlockComment BlockComment lexeme [] byte bytes tokens d (step false e))))
    (cases_Bool (byte == 42))
  where
    step : (a : Bool) → (byte == 42) ≡ a → move BlockComment lexeme byte ≡ cond a (moved [] Star []) (moved [] BlockComment [])
    step a e = ap (λ t. cond t (moved [] Star []) (moved [] BlockComment [])) e

from_star : (lexeme : List ℕ) (byte : ℕ) (bytes : List ℕ) (tokens : List Token) → AreLaid bytes → AreDivided Star lexeme (byte ∷ bytes) tokens → BlockRest tokens (42 ∷ byte ∷ bytes)
from_star lexeme byte bytes tokens laid d = ⊎_elim ends other (cases_Bool (byte == 47))
  where
    step : (a b : Bool) → (byte == 47) ≡ a → (byte == 42) ≡ b → move Star lexeme byte ≡ cond a (moved [] Between []) (cond b (moved [] Star []) (moved [] BlockComment []))
    step a b first second = ap (λ t. cond t (moved [] Between [])
        (cond (byte == 42) (moved [] Star []) (moved [] BlockComment []))) first
        ∙ ap (λ t. cond a (moved [] Between []) (cond t (moved [] Star []) (moved [] BlockComment []))) second

    ends : (byte == 47) ≡ true → BlockRest tokens (42 ∷ byte ∷ bytes)
    ends e =
        subst (λ b. BlockRest tokens (42 ∷ b ∷ bytes)) (sym (eqb-true byte 47 e))
        (block_ends bytes tokens (laid Between [] tokens (moved_on Star Between lexeme [] byte bytes tokens d (step true (byte == 42) e refl)) false (λ h. absurd (false≢true h))))

    inside : (byte == 47) ≡ false → BlockRest tokens (byte ∷ bytes)
    inside unlike = ⊎_elim
        (λ e. subst (λ b. BlockRest tokens (b ∷ bytes)) (sym (eqb-true byte 42 e)) (laid Star [] tokens (moved_on Star Star lexeme [] byte bytes tokens d (step false true unlike e))))
        (λ e. block_more byte bytes tokens (λ at. absurd (eqb-false byte 42 e at)) (laid BlockComment [] tokens (moved_on Star BlockComment lexeme [] byte bytes tokens d (step false false unlike e))))
        (cases_Bool (byte == 42))

    other : (byte == 47) ≡ false → BlockRest tokens (42 ∷ byte ∷ bytes)
    other unlike = block_more 42 (byte ∷ bytes) tokens (λ at more e. eqb-false byte 47 unlike (heads byte 47 bytes more e)) (inside unlike)
      where
        heads : (a b : ℕ) (front back : List ℕ) → a ∷ front ≡ b ∷ back → a ≡ b
        heads a b front back e = cc

laid_more : (mode : Mode) (lexeme : List ℕ) (byte : ℕ) (bytes : List ℕ) (tokens : List Token) → AreLaid bytes → AreDivided mode lexeme (byte ∷ bytes) tokens → Ahead mode lexeme tokens (byte ∷ bytes)
laid_more Between lexeme byte bytes tokens laid d = from_between lexeme byte bytes tokens laid d
laid_more Word lexeme byte bytes tokens laid d = from_word lexeme byte bytes tokens laid d
laid_more Mark lexeme byte bytes tokens laid d = from_mark lexeme byte bytes tokens laid d
laid_more Slash lexeme byte bytes tokens laid d = from_slash lexeme byte bytes tokens laid d
laid_more LineComment lexeme byte bytes tokens laid d = from_line lexeme byte bytes tokens laid d
laid_more BlockComment lexeme byte bytes tokens laid d = from_block lexeme byte bytes tokens laid d
laid_more Star lexeme byte bytes tokens laid d = from_star lexeme byte bytes tokens laid d

all_laid : (bytes : List ℕ) → AreLaid bytes
all_laid [] = at_end
all_laid (byte ∷ bytes) = λ mode lexeme tokens d. laid_more mode lexeme byte bytes tokens (all_laid bytes) d

-- the tokens that the lexemes of the bytes are written for
pub laid : (bytes : List ℕ) (lexemes : List (List ℕ)) (tokens : List Token) (before : Token)
    → lexemes_from Between [] bytes ≡ Some lexemes → Writes tokens lexemes → safe before tokens ≡ true
    → Lays false tokens bytes
laid bytes lexemes tokens before read writes fits =
    all_laid bytes Between [] tokens (record { lexemes = lexemes; read = read; are = record { before = before; writes = writes.each; fits = fits } }) false (λ h. absurd (false≢true h))
