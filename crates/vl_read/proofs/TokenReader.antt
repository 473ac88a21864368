-- How lexemes that are written for tokens are read.
use Rattle.std.proofs.Common.{◌≡◌, ℕ, List, [], ◌∷◌, ◌++◌, Option, Some, refl, sym, ◌∙◌, ap, append_assoc, option_and_then, subst}
use Rattle.vl_ast.specs.declared.expressions.Sized.{Sized}
use Rattle.vl_ast.specs.Tokens.{Token, Key, Sign, Identifier, Number, Based, IsWritten}
use Rattle.vl_read.specs.declared.scan.Kind.TheVariants.{Name, Count, Constant}
use Rattle.vl_read.specs.inner.Places.{Parser}
use Rattle.vl_read.specs.inner.Lexemes.{kind_of}
use Rattle.vl_read.specs.inner.Plain.{step}
use Rattle.vl_read.specs.inner.Turns.{feed_by}
use Rattle.vl_read.proofs.Feeds.{fed_more, fed_one}
use Rattle.vl_read.proofs.LexemeKinds.{name_kind, dec_kind, based_kind}

-- the lexemes are ways to write the tokens
abbrev pub WritesEach : List Token → List (List ℕ) → Type 0
WritesEach [] lexemes = lexemes ≡ []
WritesEach (token ∷ tokens) lexemes =
    (lexeme : List ℕ) × (more : List (List ℕ)) × (lexemes ≡ lexeme ∷ more) × IsWritten token lexeme × WritesEach tokens more

pub record Writes (tokens : List Token) (lexemes : List (List ℕ)) : Type 0 where
  pub each : WritesEach tokens lexemes

pub later : (tokens : List Token) (lexemes : List (List ℕ)) → WritesEach tokens lexemes → Writes tokens lexemes
later tokens lexemes w = record { each = w }

pub writes_as : (tokens other : List Token) (lexemes : List (List ℕ)) → tokens ≡ other → Writes tokens lexemes → Writes other lexemes
writes_as tokens other lexemes same w = subst (λ t. Writes t lexemes) same w

-- one state leads to another by these lexemes, of which those that write the tokens are left
pub record ReadsBy {S : Type 0} (step : S → List ℕ → Option S) (from : S) (lexemes : List (List ℕ)) (to : S) (tokens : List Token) : Type 0 where
  pub taken : List (List ℕ)
  pub more : List (List ℕ)
  pub writes : Writes tokens more
  pub whole : lexemes ≡ taken ++ more
  pub fed : feed_by step from taken ≡ Some to

-- one place of a module does
abbrev pub Reads : Parser → List (List ℕ) → Parser → List Token → Type 0
Reads from lexemes to tokens = ReadsBy step from lexemes to tokens

pub next_by : {S : Type 0} (step : S → List ℕ → Option S) (from middle to : S) (lexemes : List (List ℕ)) (between after : List Token) →
    ReadsBy step from lexemes middle between → ((more : List (List ℕ)) → Writes between more → ReadsBy step middle more to after) → ReadsBy step from lexemes to after
next_by step from middle to lexemes between after first second =
    let rest = second first.more first.writes in
    record {
      taken = first.taken ++ rest.taken;
      more = rest.more;
      writes = rest.writes;
      whole = first.whole ∙ ap (λ l. first.taken ++ l) rest.whole ∙ sym (append_assoc first.taken rest.taken rest.more);
      fed = fed_more step from middle to first.taken rest.taken first.fed rest.fed;
    }

pub next : (from middle to : Parser) (lexemes : List (List ℕ)) (between after : List Token) →
    Reads from lexemes middle between → ((more : List (List ℕ)) → Writes between more → Reads middle more to after) → Reads from lexemes to after
next from middle to lexemes between after first second = next_by step from middle to lexemes between after first second

-- a place whose first lexeme is read as that of another leads where this does
pub same_start : (from other to : Parser) (lexemes more : List (List ℕ)) (lexeme : List ℕ) (after : List Token) → lexemes ≡ lexeme ∷ more → step from lexeme ≡ step other lexeme → (other ≡ to → ⊥) →
    Reads other lexemes to after → Reads from lexemes to after
same_start from other to lexemes more lexeme after split e differ reads = of reads.taken refl
  where
    of : (taken : List (List ℕ)) → reads.taken ≡ taken → Reads from lexemes to after
    of [] none =
        let both : Some other ≡ Some to = ap (feed_by step other) (sym none) ∙ reads.fed in
        let same : other ≡ to = cc in
        absurd (differ same)
    of (first ∷ others) is =
        let whole : lexemes ≡ (first ∷ others) ++ reads.more = reads.whole ∙ ap (λ l. l ++ reads.more) is in
        let begins : lexeme ∷ more ≡ first ∷ (others ++ reads.more) = sym split ∙ whole in
        let same : lexeme ≡ first = cc in
        let goes : step from first ≡ step other first = subst (λ l. step from l ≡ step other l) same e in
        record {
          taken = first ∷ others;
          more = reads.more;
          writes = reads.writes;
          whole = whole;
          fed = ap (option_and_then (λ q. feed_by step q others)) goes ∙ (ap (feed_by step other) (sym is) ∙ reads.fed);
        }

pub by_step_of : {S : Type 0} (step : S → List ℕ → Option S) (from to : S) (lexemes more : List (List ℕ))
    (lexeme : List ℕ) (tokens : List Token) → lexemes ≡ lexeme ∷ more → step from lexeme ≡ Some to
    → Writes tokens more →
    ReadsBy step from lexemes to tokens
by_step_of step from to lexemes more lexeme tokens split goes writes =
    record { taken = lexeme ∷ []; more = more; writes = writes; whole = split; fed = fed_one step from lexeme ∙ goes }

by_step : (from to : Parser) (lexemes more : List (List ℕ)) (lexeme : List ℕ) (tokens : List Token)
    → lexemes ≡ lexeme ∷ more → step from lexeme ≡ Some to → Writes tokens more → Reads from lexemes to tokens
by_step from to lexemes more lexeme tokens split goes writes = by_step_of step from to lexemes more lexeme tokens split goes writes

pub sign : (from to : Parser) (lexemes : List (List ℕ)) (mark : List ℕ) (tokens : List Token) → step from mark ≡ Some to → Writes (Sign mark ∷ tokens) lexemes → Reads from lexemes to tokens
sign from to lexemes mark tokens goes w = by_step from to lexemes w.each.1 w.each.0 tokens w.each.2 (ap (step from) w.each.3 ∙ goes) (later _ _ w.each.4)

pub key : (from to : Parser) (lexemes : List (List ℕ)) (word : List ℕ) (tokens : List Token) → step from word ≡ Some to → Writes (Key word ∷ tokens) lexemes → Reads from lexemes to tokens
key from to lexemes word tokens goes w = by_step from to lexemes w.each.1 w.each.0 tokens w.each.2 (ap (step from) w.each.3 ∙ goes) (later _ _ w.each.4)

pub name : (from to : Parser) (lexemes : List (List ℕ)) (word : List ℕ) (tokens : List Token)
    → (kind_of word ≡ Name → step from word ≡ Some to) → Writes (Identifier word ∷ tokens) lexemes
    → Reads from lexemes to tokens
name from to lexemes word tokens goes w = by_step from to lexemes w.each.1 w.each.0 tokens w.each.2 (ap (step from) w.each.3.0 ∙ goes (name_kind word w.each.3.1)) (later _ _ w.each.4)

pub number : (from to : Parser) (lexemes : List (List ℕ)) (n : ℕ) (tokens : List Token)
    → ((lexeme : List ℕ) → kind_of lexeme ≡ Count n → step from lexeme ≡ Some to)
    → Writes (Number n ∷ tokens) lexemes → Reads from lexemes to tokens
number from to lexemes n tokens goes w = by_step from to lexemes w.each.1 w.each.0 tokens w.each.2 (goes w.each.0 (dec_kind n w.each.0 w.each.3)) (later _ _ w.each.4)

pub based : (from to : Parser) (lexemes : List (List ℕ)) (n : Sized) (tokens : List Token)
    → ((lexeme : List ℕ) → kind_of lexeme ≡ Constant n → step from lexeme ≡ Some to)
    → Writes (Based n ∷ tokens) lexemes → Reads from lexemes to tokens
based from to lexemes n tokens goes w = by_step from to lexemes w.each.1 w.each.0 tokens w.each.2 (goes w.each.0 (based_kind n w.each.0 w.each.3)) (later _ _ w.each.4)
