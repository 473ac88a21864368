-- Lexemes after lexemes, by what one does.
use Rattle.std.proofs.Common.{◌≡◌, ℕ, List, [], ◌∷◌, ◌++◌, Option, Some, None, refl, ◌∙◌, ap, option_and_then}
use Rattle.vl_read.specs.inner.Turns.{feed_by}

-- what goes on lexeme by lexeme goes on after some of them
pub run_feed : {S X : Type 0} (step : S → List ℕ → Option S) (run : S → List (List ℕ) → Option X)
    → ((p : S) (l : List ℕ) (ls : List (List ℕ)) → run p (l ∷ ls) ≡ option_and_then (λ q. run q ls) (step p l)) →
    (ls more : List (List ℕ)) (p : S) → run p (ls ++ more) ≡ option_and_then (λ q. run q more) (feed_by step p ls)
run_feed step run steps [] more p = refl
run_feed {S} {X} step run steps (l ∷ ls) more p = steps p l (ls ++ more) ∙ of (step p l) (run_feed step run steps ls more)
  where
    of : (o : Option S) → ((q : S) → run q (ls ++ more) ≡ option_and_then (λ q. run q more) (feed_by step q ls)) →
        option_and_then (λ q. run q (ls ++ more)) o ≡ option_and_then (λ q. run q more) (option_and_then (λ q. feed_by step q ls) o)
    of None later = refl
    of (Some q) later = later q

-- lexemes after lexemes
pub feed_append : {S : Type 0} (step : S → List ℕ → Option S) (ls more : List (List ℕ)) (p : S) → feed_by step p (ls ++ more) ≡ option_and_then (λ q. feed_by step q more) (feed_by step p ls)
feed_append step ls more p = run_feed step (feed_by step) (λ p l ls. refl) ls more p

-- one lexeme
pub fed_one : {S : Type 0} (step : S → List ℕ → Option S) (p : S) (lexeme : List ℕ) → feed_by step p (lexeme ∷ []) ≡ step p lexeme
fed_one {S} step p lexeme = of (step p lexeme)
  where
    of : (o : Option S) → option_and_then (λ next. feed_by step next []) o ≡ o
    of None = refl
    of (Some q) = refl

-- one place leads to another by these lexemes
pub fed_more : {S : Type 0} (step : S → List ℕ → Option S) (from middle to : S) (ls more : List (List ℕ))
    → feed_by step from ls ≡ Some middle → feed_by step middle more ≡ Some to
    → feed_by step from (ls ++ more) ≡ Some to
fed_more step from middle to ls more first second = feed_append step ls more from ∙ ap (option_and_then (λ q. feed_by step q more)) first ∙ second
