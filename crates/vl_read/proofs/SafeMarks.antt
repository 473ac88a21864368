-- What may follow a mark, a word and a closing bracket.
use Rattle.std.proofs.Common.{◌≡◌, ℕ, Bool, true, false, cond, not, List, [], ◌∷◌, refl, ap, codes}
use Rattle.std.specs.Prelude.{◌==◌, ◌&&◌}
use Rattle.std.proofs.lemmas.Bool.{and_parts, and_from}
use Rattle.vl_ast.specs.declared.expressions.Sized.{Sized}
use Rattle.vl_ast.specs.Tokens.{Token, Key, Sign, Identifier, Number, Based}
use Rattle.vl_read.specs.inner.Lexemes.{class_of, extends}
use Rattle.vl_read.proofs.Safe.{is_mark, is_fine, joins, follows, safe}

-- every token may follow
abbrev pub fine_first : List Token → Bool
fine_first [] = true
fine_first (token ∷ tokens) = is_fine token && safe token tokens

-- an expression may follow
abbrev pub opens : Token → Bool
opens before = follows before (Sign (codes "(")) && follows before (Sign (codes "{"))

same_cond : (t x : Bool) → cond t x x ≡ x
same_cond true x = refl
same_cond false x = refl

-- a closing bracket goes on with no byte
abbrev pub Closes : Token → Type 0
Closes before = (next : Token) → follows before next ≡ true

pub after_closing : (before : Token) (tokens : List Token) → Closes before → fine_first tokens ≡ true → safe before tokens ≡ true
after_closing before [] closes h = refl
after_closing before (token ∷ tokens) closes h = let parts = and_parts (is_fine token) (safe token tokens) h in
    and_from (follows before token && is_fine token) (safe token tokens)
    (and_from _ _ (closes token) parts.0) parts.1

pub never : (byte : ℕ) → cond (byte == 42) false
    (cond (byte == 41) false (cond (byte == 61) false
    (cond (byte == 60) false
    (cond (byte == 62) false (cond (byte == 38) false (cond (byte == 124) false false)))))) ≡ false
never byte = simp same_cond

-- what no byte goes on with
closes_mark : (mark : List ℕ) → ((byte : ℕ) → extends mark byte ≡ false) → Closes (Sign mark)
unfolding follows
closes_mark mark ends (Sign (b ∷ bs)) = ap not (ends b)
closes_mark mark ends _ = refl

pub after_mark : (mark : List ℕ) (tokens : List Token) → ((byte : ℕ) → extends mark byte ≡ false) → fine_first tokens ≡ true → safe (Sign mark) tokens ≡ true
after_mark mark tokens ends h = after_closing (Sign mark) tokens (closes_mark mark ends) h

pub closes_identifier : (name : List ℕ) → Closes (Identifier name)
unfolding follows
closes_identifier name next = refl

pub closes_key : (name : List ℕ) → Closes (Key name)
unfolding follows
closes_key name next = refl

pub closes_number : (n : ℕ) → Closes (Number n)
unfolding follows
closes_number n next = refl

pub closes_based : (n : Sized) → Closes (Based n)
unfolding follows
closes_based n next = refl

-- the first token, and what follows it
pub begun : (before token : Token) (tokens : List Token) → follows before token ≡ true → is_fine token ≡ true → safe token tokens ≡ true → safe before (token ∷ tokens) ≡ true
begun before token tokens f fine h = and_from (follows before token && is_fine token) (safe token tokens) (and_from (follows before token) (is_fine token) f fine) h

pub opens_word : (before : Token) → opens before ≡ true → (follows before (Sign (codes "(")) ≡ true) × (follows before (Sign (codes "{")) ≡ true)
opens_word before h = and_parts _ _ h

pub follows_identifier : (before : Token) (name : List ℕ) → follows before (Identifier name) ≡ true
unfolding follows
follows_identifier (Key word) name = refl
follows_identifier _ name = refl

pub follows_key : (before : Token) (name : List ℕ) → follows before (Key name) ≡ true
unfolding follows
follows_key (Key word) name = refl
follows_key _ name = refl

pub follows_based : (before : Token) (n : Sized) → follows before (Based n) ≡ true
unfolding follows
follows_based (Key word) n = refl
follows_based _ n = refl

pub opens_open : opens (Sign (codes "(")) ≡ true
unfolding follows extends
opens_open = refl

pub opens_brace : opens (Sign (codes "{")) ≡ true
unfolding follows extends
opens_brace = refl

pub fine_open : is_fine (Sign (codes "(")) ≡ true
unfolding is_fine class_of extends
fine_open = refl

pub fine_brace : is_fine (Sign (codes "{")) ≡ true
unfolding is_fine class_of extends
fine_brace = refl

-- an expression may follow a mark that goes on with no bracket
pub mark_opens : (mark : List ℕ) → (is_mark mark && (joins mark (codes "(") && joins mark (codes "{"))) ≡ true → (is_fine (Sign mark) && opens (Sign mark)) ≡ true
unfolding follows is_fine
mark_opens mark h = h

-- what ends with a bracket
pub round_ends : (tokens : List Token) → fine_first tokens ≡ true → fine_first (Sign (codes ")") ∷ tokens) ≡ true
unfolding is_fine class_of extends
round_ends tokens after = after_mark (codes ")") tokens never after

pub brace_ends : (tokens : List Token) → fine_first tokens ≡ true → fine_first (Sign (codes "}") ∷ tokens) ≡ true
unfolding is_fine class_of extends
brace_ends tokens after = after_mark (codes "}") tokens never after
