-- What is left of a text gives the module of the whole.
use Rattle.std.proofs.Common.{◌≡◌, ℕ, ◌+◌, ◌<◌, Bool, true, false, cond, List, [], ◌∷◌, ◌++◌, length, drop, get_or, drop-cons, add-one, Option, Some, None, refl, sym, ◌∙◌, ap, option_and_then}
use Rattle.std.proofs.Common.{option_map}
use Rattle.std.specs.Prelude.{⊤, ◌==◌}
use Rattle.vl_read.specs.declared.scan.ByteClass.{ByteClass}
use Rattle.vl_read.specs.declared.scan.ByteClass.TheVariants.{OfWord, OfBlank, OfComment, OfMark, OfNone}
use Rattle.vl_read.specs.declared.scan.Mode.{Mode}
use Rattle.vl_read.specs.declared.scan.Mode.TheVariants.{Between, Word, Mark, Slash, LineComment, BlockComment, Star}
use Rattle.vl_read.specs.inner.Designs.{Sketch, parse_design, sketch_step}
use Rattle.vl_read.specs.inner.Lexemes.{Move, class_of, continues, begin, outside, moved, move, lexemes_from}
use Rattle.vl_read.specs.inner.Turns.{IsBeyond, IsWithin, mode_by, mode_after, gather, ahead}
use Rattle.vl_read.proofs.Feeds.{fed_one, run_feed}
use Rattle.vl_read.proofs.GapScan.{silent, restart, is_word, is_mark}

parse_feed : (ls more : List (List ℕ)) (p : Sketch) → parse_design p (ls ++ more) ≡ option_and_then (λ q. parse_design q more) (gather p ls)
parse_feed ls more p = run_feed sketch_step parse_design (λ p l ls. refl) ls more p

none_then : (o : Option Sketch) → option_and_then (λ (q : Sketch). option_and_then (parse_design q) None) o ≡ None
none_then None = refl
none_then (Some q) = refl

ahead_feed : (ls : List (List ℕ)) (p : Sketch) (o : Option (List (List ℕ)))
    → option_and_then (parse_design p) (option_map (λ more. ls ++ more) o)
    ≡ option_and_then (λ q. option_and_then (parse_design q) o) (gather p ls)
ahead_feed ls p None = sym (none_then (gather p ls))
ahead_feed ls p (Some more) = parse_feed ls more p

-- the lexeme that a byte begins
abbrev pub begun_with : Mode → ℕ → List ℕ
begun_with Word byte = byte ∷ []
begun_with Mark byte = byte ∷ []
begun_with mode byte = []

-- a move that ends no lexeme
abbrev pub silently : Mode → List ℕ → Move
silently mode lexeme = record { lexemes = []; mode = mode; lexeme = lexeme }

abbrev turned : ℕ → Option Mode → Option Move
turned byte = option_map (λ to. silently to (begun_with to byte))

of_cond : {A B : Type 0} (f : A → B) (t : Bool) (x y : A) → f (cond t x y) ≡ cond t (f x) (f y)
of_cond f true x y = refl
of_cond f false x y = refl

-- a byte that goes on with no lexeme
pub turn_is : (mode : Mode) (byte : ℕ) → IsBeyond mode → turned byte (mode_after mode byte) ≡ move mode [] byte
turn_is Between byte h = of (class_of byte)
  where
    of : (class : ByteClass) → turned byte (mode_by class) ≡ outside Between [] class byte
    of OfWord = refl
    of OfBlank = refl
    of OfComment = refl
    of OfMark = refl
    of OfNone = refl
turn_is Word byte h = absurd h
turn_is Mark byte h = absurd h
turn_is Slash byte h =
    of_cond (turned byte) (byte == 47) (Some LineComment) (cond (byte == 42) (Some BlockComment) None)
    ∙ ap (λ o. cond (byte == 47) (moved [] LineComment []) o) (of_cond (turned byte) (byte == 42) (Some BlockComment) None)
turn_is LineComment byte h = of_cond (turned byte) (byte == 10) (Some Between) (Some LineComment)
turn_is BlockComment byte h = of_cond (turned byte) (byte == 42) (Some Star) (Some BlockComment)
turn_is Star byte h =
    of_cond (turned byte) (byte == 47) (Some Between) (cond (byte == 42) (Some Star) (Some BlockComment))
    ∙ ap (λ o. cond (byte == 47) (moved [] Between []) o) (of_cond (turned byte) (byte == 42) (Some Star) (Some BlockComment))

-- a byte that goes on with the lexeme
pub grows : (mode : Mode) (lexeme : List ℕ) (byte : ℕ) → IsWithin mode → continues mode (class_of byte) lexeme byte ≡ true →
    Some (silently mode (lexeme ++ byte ∷ [])) ≡ move mode lexeme byte
grows Word lexeme byte h e = ap (λ t. cond t (moved [] Word (lexeme ++ byte ∷ [])) (begin (lexeme ∷ []) (class_of byte) byte)) (sym e)
grows Mark lexeme byte h e = ap (λ t. cond t (moved [] Mark (lexeme ++ byte ∷ [])) (begin (lexeme ∷ []) (class_of byte) byte)) (sym e)
grows _ lexeme byte h e = absurd h

pub ahead_next : (p : Sketch) (mode to : Mode) (lexeme then rest : List ℕ) (byte : ℕ) → Some (silently to then) ≡ move mode lexeme byte →
    ahead p mode lexeme (byte ∷ rest) ≡ ahead p to then rest
ahead_next p mode to lexeme then rest byte e = ap (option_and_then (parse_design p)) (silent mode to lexeme then byte rest (sym e))

pub ahead_stopped : (p : Sketch) (mode : Mode) (lexeme rest : List ℕ) (byte : ℕ) → None ≡ move mode lexeme byte → ahead p mode lexeme (byte ∷ rest) ≡ None
ahead_stopped p mode lexeme rest byte e =
    ap (λ o. option_and_then (parse_design p) (option_and_then (λ (n : Move). option_map (λ more. n.lexemes ++ more) (lexemes_from n.mode n.lexeme rest)) o)) (sym e)

-- the lexeme ends where the bytes that are left begin
abbrev pub Quits : Mode → List ℕ → List ℕ → Type 0
Quits mode lexeme [] = ⊤
Quits mode lexeme (byte ∷ rest) = continues mode (class_of byte) lexeme byte ≡ false

-- then it is read
pub ahead_ended : (p : Sketch) (mode : Mode) (lexeme rest : List ℕ) → IsWithin mode → Quits mode lexeme rest →
    ahead p mode lexeme rest ≡ option_and_then (λ q. ahead q Between [] rest) (sketch_step p lexeme)
ahead_ended p Word lexeme [] h quits = refl
ahead_ended p Mark lexeme [] h quits = refl
ahead_ended p Word lexeme (byte ∷ rest) h quits =
    ap (option_and_then (parse_design p)) (restart Word lexeme byte rest is_word quits)
    ∙ ahead_feed (lexeme ∷ []) p (lexemes_from Between [] (byte ∷ rest))
    ∙ ap (option_and_then (λ q. ahead q Between [] (byte ∷ rest))) (fed_one sketch_step p lexeme)
ahead_ended p Mark lexeme (byte ∷ rest) h quits =
    ap (option_and_then (parse_design p)) (restart Mark lexeme byte rest is_mark quits)
    ∙ ahead_feed (lexeme ∷ []) p (lexemes_from Between [] (byte ∷ rest))
    ∙ ap (option_and_then (λ q. ahead q Between [] (byte ∷ rest))) (fed_one sketch_step p lexeme)
ahead_ended p _ lexeme rest h quits = absurd h

-- what is left of bytes at a place in them
pub drop_next : (bytes : List ℕ) (place : ℕ) → place < length bytes → drop place bytes ≡ get_or bytes place 0 ∷ drop (place + 1) bytes
drop_next bytes place h = drop-cons bytes place 0 h ∙ ap (λ n. get_or bytes place 0 ∷ drop n bytes) (sym (add-one place))
