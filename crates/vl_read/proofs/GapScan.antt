-- How the bytes of gaps and of tokens are divided into lexemes.
use Rattle.std.proofs.Common.{◌≡◌, ◌≢◌, inl, inr, ℕ, Bool, true, false, cond, List, [], ◌∷◌, ◌++◌, Option, Some, None, refl, sym, ◌∙◌, ap, subst, codes, arith, append_assoc, append-nil}
use Rattle.std.proofs.Common.{option_and_then, option_map, flat_map, ne_eqb, ⊎_elim}
use Rattle.std.specs.Prelude.{◌==◌}
use Rattle.std.specs.List.{AllByRecursion}
use Rattle.std.proofs.lemmas.List.Elements.{Contains-append_right, recursion_from_All}
use Rattle.std.proofs.lemmas.Bool.{or_cases, eqb-true}
use Rattle.vl_ast.specs.Tokens.{Filler, Blank, LineComment as LineFiller, BlockComment as BlockFiller, filler_text, is_blank, IsOneLine, IsFiller, IsGap, IsLastGap}
use Rattle.vl_read.specs.declared.scan.ByteClass.{ByteClass}
use Rattle.vl_read.specs.declared.scan.ByteClass.TheVariants.{OfWord, OfBlank, OfComment, OfMark, OfNone}
use Rattle.vl_read.specs.declared.scan.Mode.{Mode}
use Rattle.vl_read.specs.declared.scan.Mode.TheVariants.{Between, Word, Mark, Slash, LineComment, BlockComment, Star}
use Rattle.vl_read.specs.inner.Lexemes.{class_of, continues, ended, Move, moved, begin, outside, move, last_lexemes, lexemes_from}

-- a byte that ends no lexeme
plain_map : (o : Option (List (List ℕ))) → option_map (λ more. [] ++ more) o ≡ o
plain_map None = refl
plain_map (Some ls) = refl

pub silent : (mode to : Mode) (lexeme then : List ℕ) (byte : ℕ) (bytes : List ℕ) → move mode lexeme byte ≡ moved [] to then →
    lexemes_from mode lexeme (byte ∷ bytes) ≡ lexemes_from to then bytes
silent mode to lexeme then byte bytes h =
    ap (λ o. option_and_then (λ (n : Move). option_map (λ more. n.lexemes ++ more) (lexemes_from n.mode n.lexeme bytes)) o) h
    ∙ plain_map (lexemes_from to then bytes)

-- outside of comments
pub data IsOutside : Mode → Type 0 where
  is_between : IsOutside Between
  is_word : IsOutside Word
  is_mark : IsOutside Mark

outside_move : (mode : Mode) (lexeme : List ℕ) (byte : ℕ) → IsOutside mode → move mode lexeme byte ≡ outside mode lexeme (class_of byte) byte
outside_move mode lexeme byte is_between = refl
outside_move mode lexeme byte is_word = refl
outside_move mode lexeme byte is_mark = refl

begin_map : (lexemes : List (List ℕ)) (class : ByteClass) (byte : ℕ) (bytes : List ℕ) →
    option_and_then (λ (n : Move). option_map (λ more. n.lexemes ++ more) (lexemes_from n.mode n.lexeme bytes)) (begin lexemes class byte)
    ≡ option_map (λ more. lexemes ++ more) (option_and_then (λ (n : Move). option_map (λ more. n.lexemes ++ more) (lexemes_from n.mode n.lexeme bytes)) (begin [] class byte))
begin_map lexemes OfWord byte bytes = ap (option_map (λ more. lexemes ++ more)) (sym (plain_map (lexemes_from Word (byte ∷ []) bytes)))
begin_map lexemes OfBlank byte bytes = ap (option_map (λ more. lexemes ++ more)) (sym (plain_map (lexemes_from Between [] bytes)))
begin_map lexemes OfComment byte bytes = ap (option_map (λ more. lexemes ++ more)) (sym (plain_map (lexemes_from Slash [] bytes)))
begin_map lexemes OfMark byte bytes = ap (option_map (λ more. lexemes ++ more)) (sym (plain_map (lexemes_from Mark (byte ∷ []) bytes)))
begin_map lexemes OfNone byte bytes = refl

pub between_no : (class : ByteClass) (lexeme : List ℕ) (byte : ℕ) → continues Between class lexeme byte ≡ false
between_no OfWord lexeme byte = refl
between_no _ lexeme byte = refl

-- a byte that doesn't go on with the lexeme before it is read as between lexemes
pub restart : (mode : Mode) (lexeme : List ℕ) (byte : ℕ) (bytes : List ℕ) → IsOutside mode → continues mode (class_of byte) lexeme byte ≡ false →
    lexemes_from mode lexeme (byte ∷ bytes) ≡ option_map (λ more. ended mode lexeme ++ more) (lexemes_from Between [] (byte ∷ bytes))
restart mode lexeme byte bytes is h =
    let go : Option Move → Option (List (List ℕ)) = λ o. option_and_then (λ (n : Move). option_map (λ more. n.lexemes ++ more) (lexemes_from n.mode n.lexeme bytes)) o in
    ap go (outside_move mode lexeme byte is)
    ∙ ap (λ t. go (cond t (moved [] mode (lexeme ++ byte ∷ [])) (begin (ended mode lexeme) (class_of byte) byte))) h
    ∙ begin_map (ended mode lexeme) (class_of byte) byte bytes
    ∙ ap (λ t. option_map (λ more. ended mode lexeme ++ more) (go (cond t (moved [] Between ([] ++ byte ∷ [])) (begin [] (class_of byte) byte)))) (sym (between_no (class_of byte) [] byte))

-- blanks and comments end the lexeme before them

blank_class : (byte : ℕ) → is_blank byte ≡ true → class_of byte ≡ OfBlank
unfolding class_of
blank_class byte h = ⊎_elim
    (λ h. ⊎_elim (λ h. ⊎_elim (λ h. ⊎_elim (λ h. is 32 refl (eqb-true byte 32 h))
    (λ h. is 9 refl (eqb-true byte 9 h)) (or_cases _ _ h)) (λ h. is 10 refl (eqb-true byte 10 h))
    (or_cases _ _ h)) (λ h. is 12 refl (eqb-true byte 12 h)) (or_cases _ _ h))
    (λ h. is 13 refl (eqb-true byte 13 h)) (or_cases _ _ h)
  where
    is : (k : ℕ) → class_of k ≡ OfBlank → byte ≡ k → class_of byte ≡ OfBlank
    is k here e = ap class_of e ∙ here

comment_class : class_of 47 ≡ OfComment
unfolding class_of
comment_class = refl

from_blank : (byte : ℕ) (bytes : List ℕ) → class_of byte ≡ OfBlank → lexemes_from Between [] (byte ∷ bytes) ≡ lexemes_from Between [] bytes
from_blank byte bytes h = silent Between Between [] [] byte bytes (ap (λ class. outside Between [] class byte) h)

from_slash : (bytes : List ℕ) → lexemes_from Between [] (47 ∷ bytes) ≡ lexemes_from Slash [] bytes
from_slash bytes = silent Between Slash [] [] 47 bytes (ap (λ class. outside Between [] class 47) comment_class)

first_no : (b : ℕ) (bs : List ℕ) → IsOneLine (b ∷ bs) → b ≢ 10
first_no b bs h e = h (0, omega arith, e)

later_no : (b : ℕ) (bs : List ℕ) → IsOneLine (b ∷ bs) → IsOneLine bs
later_no b bs h c = h (Contains-append_right (b ∷ []) bs 10 c)

line_body : (body bytes : List ℕ) → IsOneLine body → lexemes_from LineComment [] (body ++ 10 ∷ bytes) ≡ lexemes_from Between [] bytes
line_body [] bytes h = silent LineComment Between [] [] 10 bytes refl
line_body (b ∷ bs) bytes h =
    silent LineComment LineComment [] [] b (bs ++ 10 ∷ bytes) (ap (λ t. cond t (moved [] Between []) (moved [] LineComment [])) (ne_eqb b 10 (first_no b bs h)))
    ∙ line_body bs bytes (later_no b bs h)

last_line_body : (body : List ℕ) → IsOneLine body → lexemes_from LineComment [] body ≡ Some []
last_line_body [] h = refl
last_line_body (b ∷ bs) h =
    silent LineComment LineComment [] [] b bs (ap (λ t. cond t (moved [] Between []) (moved [] LineComment [])) (ne_eqb b 10 (first_no b bs h)))
    ∙ last_line_body bs (later_no b bs h)

abbrev NoEnd : List ℕ → Type 0
NoEnd body = (before after : List ℕ) → body ≢ before ++ codes "*/" ++ after

tail_no_end : (b : ℕ) (bs : List ℕ) → NoEnd (b ∷ bs) → NoEnd bs
tail_no_end b bs h before after e = h (b ∷ before) after (ap (λ l. b ∷ l) e)

abbrev in_block : Bool → Mode
in_block true = Star
in_block false = BlockComment

abbrev after_star : Bool → List ℕ → List ℕ
after_star true body = 42 ∷ body
after_star false body = body

block_body : (star : Bool) (body bytes : List ℕ) → NoEnd (after_star star body) → lexemes_from (in_block star) [] (body ++ 42 ∷ 47 ∷ bytes) ≡ lexemes_from Between [] bytes
block_body true [] bytes h = silent Star Star [] [] 42 (47 ∷ bytes) refl ∙ silent Star Between [] [] 47 bytes refl
block_body false [] bytes h = silent BlockComment Star [] [] 42 (47 ∷ bytes) refl ∙ silent Star Between [] [] 47 bytes refl
block_body true (b ∷ bs) bytes h = elim (b == 42) as (λ t. (b == 42) ≡ t → lexemes_from Star [] ((b ∷ bs) ++ 42 ∷ 47 ∷ bytes) ≡ lexemes_from Between [] bytes) [
  | true ↦ λ e. silent Star Star [] [] b (bs ++ 42 ∷ 47 ∷ bytes)
      (ap (λ t. cond t (moved [] Between []) (cond (b == 42) (moved [] Star []) (moved [] BlockComment [])))
      no_slash ∙ ap (λ t. cond t (moved [] Star []) (moved [] BlockComment [])) e)
      ∙ block_body true bs bytes (subst (λ c. NoEnd (c ∷ bs)) (eqb-true b 42 e) (tail_no_end 42 (b ∷ bs) h))
  | false ↦ λ e. silent Star BlockComment [] [] b (bs ++ 42 ∷ 47 ∷ bytes)
      (ap (λ t. cond t (moved [] Between []) (cond (b == 42) (moved [] Star []) (moved [] BlockComment [])))
      no_slash ∙ ap (λ t. cond t (moved [] Star []) (moved [] BlockComment [])) e)
      ∙ block_body false bs bytes (tail_no_end b bs (tail_no_end 42 (b ∷ bs) h))
] refl
  where
    no_slash : (b == 47) ≡ false
    no_slash = ne_eqb b 47 (λ e. h [] bs (ap (λ c. 42 ∷ c ∷ bs) e))
block_body false (b ∷ bs) bytes h = elim (b == 42) as (λ t. (b == 42) ≡ t → lexemes_from BlockComment [] ((b ∷ bs) ++ 42 ∷ 47 ∷ bytes) ≡ lexemes_from Between [] bytes) [
  | true ↦ λ e. silent BlockComment Star [] [] b (bs ++ 42 ∷ 47 ∷ bytes) (ap (λ t. cond t (moved [] Star []) (moved [] BlockComment [])) e)
      ∙ block_body true bs bytes (subst (λ c. NoEnd (c ∷ bs)) (eqb-true b 42 e) h)
  | false ↦ λ e. silent BlockComment BlockComment [] [] b (bs ++ 42 ∷ 47 ∷ bytes) (ap (λ t. cond t (moved [] Star []) (moved [] BlockComment [])) e)
      ∙ block_body false bs bytes (tail_no_end b bs h)
] refl

filler_read : (filler : Filler) (bytes : List ℕ) → IsFiller filler → lexemes_from Between [] (filler_text filler ++ bytes) ≡ lexemes_from Between [] bytes
filler_read (Blank b) bytes is = from_blank b bytes (blank_class b is)
filler_read (LineFiller body) bytes is =
    from_slash (47 ∷ ((body ++ 10 ∷ []) ++ bytes)) ∙ silent Slash LineComment [] [] 47 ((body ++ 10 ∷ []) ++ bytes) refl
    ∙ ap (lexemes_from LineComment []) (append_assoc body (10 ∷ []) bytes) ∙ line_body body bytes is
filler_read (BlockFiller body) bytes is =
    from_slash (42 ∷ ((body ++ 42 ∷ 47 ∷ []) ++ bytes)) ∙ silent Slash BlockComment [] [] 42 ((body ++ 42 ∷ 47 ∷ []) ++ bytes) refl
    ∙ ap (lexemes_from BlockComment []) (append_assoc body (42 ∷ 47 ∷ []) bytes) ∙ block_body false body bytes is

fillers_read : (fillers : List Filler) (bytes : List ℕ) → AllByRecursion IsFiller fillers → lexemes_from Between [] (flat_map filler_text fillers ++ bytes) ≡ lexemes_from Between [] bytes
fillers_read [] bytes all = refl
fillers_read (f ∷ fs) bytes all =
    ap (lexemes_from Between []) (append_assoc (filler_text f) (flat_map filler_text fs) bytes) ∙ filler_read f (flat_map filler_text fs ++ bytes) all.0 ∙ fillers_read fs bytes all.1

-- the first byte of a gap goes on with no lexeme
pub data GapFirst : ByteClass → Type 0 where
  blank : GapFirst OfBlank
  comment : GapFirst OfComment

blank_no : (mode : Mode) (lexeme : List ℕ) (byte : ℕ) → IsOutside mode → continues mode OfBlank lexeme byte ≡ false
blank_no mode lexeme byte is_between = refl
blank_no mode lexeme byte is_word = refl
blank_no mode lexeme byte is_mark = refl

comment_no : (mode : Mode) (lexeme : List ℕ) (byte : ℕ) → IsOutside mode → continues mode OfComment lexeme byte ≡ false
comment_no mode lexeme byte is_between = refl
comment_no mode lexeme byte is_word = refl
comment_no mode lexeme byte is_mark = refl

filler_ends : (filler : Filler) (mode : Mode) (lexeme bytes : List ℕ) → IsOutside mode → IsFiller filler →
    lexemes_from mode lexeme (filler_text filler ++ bytes) ≡ option_map (λ more. ended mode lexeme ++ more) (lexemes_from Between [] (filler_text filler ++ bytes))
filler_ends (Blank b) mode lexeme bytes out is = restart mode lexeme b bytes out (ap (λ c. continues mode c lexeme b) (blank_class b is) ∙ blank_no mode lexeme b out)
filler_ends (LineFiller body) mode lexeme bytes out is =
    restart mode lexeme 47 (47 ∷ ((body ++ 10 ∷ []) ++ bytes)) out
    (ap (λ c. continues mode c lexeme 47) comment_class ∙ comment_no mode lexeme 47 out)
filler_ends (BlockFiller body) mode lexeme bytes out is =
    restart mode lexeme 47 (42 ∷ ((body ++ 42 ∷ 47 ∷ []) ++ bytes)) out
    (ap (λ c. continues mode c lexeme 47) comment_class ∙ comment_no mode lexeme 47 out)

fillers_end : (fillers : List Filler) (mode : Mode) (lexeme bytes : List ℕ) → IsOutside mode → AllByRecursion IsFiller fillers → flat_map filler_text fillers ≢ [] →
    lexemes_from mode lexeme (flat_map filler_text fillers ++ bytes) ≡ option_map (λ more. ended mode lexeme ++ more) (lexemes_from Between [] (flat_map filler_text fillers ++ bytes))
fillers_end [] mode lexeme bytes out all some = absurd (some refl)
fillers_end (f ∷ fs) mode lexeme bytes out all some =
    let same = append_assoc (filler_text f) (flat_map filler_text fs) bytes in
    ap (lexemes_from mode lexeme) same ∙ filler_ends f mode lexeme (flat_map filler_text fs ++ bytes) out all.0
    ∙ ap (λ b. option_map (λ more. ended mode lexeme ++ more) (lexemes_from Between [] b)) (sym same)

-- a gap that isn't empty ends the lexeme before it
pub gap_ends : (gap bytes : List ℕ) (mode : Mode) (lexeme : List ℕ) → IsOutside mode → IsGap gap → gap ≢ [] →
    lexemes_from mode lexeme (gap ++ bytes) ≡ option_map (λ more. ended mode lexeme ++ more) (lexemes_from Between [] bytes)
gap_ends gap bytes mode lexeme out is some =
    let same = ap (λ g. g ++ bytes) is.2 in
    ap (lexemes_from mode lexeme) same
    ∙ fillers_end is.0 mode lexeme bytes out (recursion_from_All IsFiller is.0 is.1) (λ e. some (is.2 ∙ e))
    ∙ ap (option_map (λ more. ended mode lexeme ++ more)) (fillers_read is.0 bytes (recursion_from_All IsFiller is.0 is.1))

-- what ends a text
ended_last : (mode : Mode) (lexeme : List ℕ) → IsOutside mode → last_lexemes mode lexeme ≡ Some (ended mode lexeme)
ended_last mode lexeme is_between = refl
ended_last mode lexeme is_word = refl
ended_last mode lexeme is_mark = refl

whole_gap : (gap : List ℕ) (mode : Mode) (lexeme : List ℕ) → IsOutside mode → IsGap gap → lexemes_from mode lexeme gap ≡ Some (ended mode lexeme)
whole_gap [] mode lexeme out is = ended_last mode lexeme out
whole_gap (b ∷ bs) mode lexeme out is =
    ap (lexemes_from mode lexeme) (sym (append-nil (b ∷ bs))) ∙ gap_ends (b ∷ bs) [] mode lexeme out is (λ e. cc)
    ∙ ap Some (append-nil (ended mode lexeme))

slashes : (body : List ℕ) → IsOneLine body → lexemes_from Between [] (47 ∷ 47 ∷ body) ≡ Some []
slashes body h = from_slash (47 ∷ body) ∙ silent Slash LineComment [] [] 47 body refl ∙ last_line_body body h

last_comment : (gap body : List ℕ) (mode : Mode) (lexeme : List ℕ) → IsOutside mode → IsGap gap → IsOneLine body → lexemes_from mode lexeme (gap ++ 47 ∷ 47 ∷ body) ≡ Some (ended mode lexeme)
last_comment [] body mode lexeme out is h =
    restart mode lexeme 47 (47 ∷ body) out (ap (λ c. continues mode c lexeme 47) comment_class ∙ comment_no mode lexeme 47 out)
    ∙ ap (option_map (λ more. ended mode lexeme ++ more)) (slashes body h) ∙ ap Some (append-nil (ended mode lexeme))
last_comment (b ∷ bs) body mode lexeme out is h =
    gap_ends (b ∷ bs) (47 ∷ 47 ∷ body) mode lexeme out is (λ e. cc)
    ∙ ap (option_map (λ more. ended mode lexeme ++ more)) (slashes body h) ∙ ap Some (append-nil (ended mode lexeme))

pub last_gap : (bytes : List ℕ) (mode : Mode) (lexeme : List ℕ) → IsOutside mode → IsLastGap bytes → lexemes_from mode lexeme bytes ≡ Some (ended mode lexeme)
last_gap bytes mode lexeme out (inl gap) = whole_gap bytes mode lexeme out gap
last_gap bytes mode lexeme out (inr h) = ap (lexemes_from mode lexeme) (h.4 ∙ append_assoc h.0 (47 ∷ 47 ∷ []) h.1) ∙ last_comment h.0 h.1 mode lexeme out h.2 h.3
