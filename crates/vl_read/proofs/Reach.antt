-- How far a text was read, what that says of it, and where it stops.
use Rattle.std.proofs.Common.{◌≡◌, ℕ, ◌+◌, ◌≤◌, Bool, true, false, cond, not, List, [], ◌∷◌, ◌++◌, ◌⊎◌, inl, inr, length, count_by, Some, None, refl, sym, ◌∙◌, ap, subst, append_assoc, append-nil}
use Rattle.std.proofs.Common.{arith, length-append, option_and_then}
use Rattle.std.specs.Prelude.{◌==◌}
use Rattle.std.specs.List.{list_all}
use Rattle.std.proofs.lemmas.Bool.{and_from, eqb-true}
use Rattle.std.proofs.lemmas.List.Sums.{count_by-le-length}
use Rattle.fx_io.specs.FaultLine.{IsOneLine, IsPrefix, AreWholeLines, Stops}
use Rattle.fx_io.proofs.FaultLines.{line_join, count_append, count_none}
use Rattle.vl_ast.specs.Grammar.{most_items}
use Rattle.vl_read.specs.declared.scan.Mode.{Mode}
use Rattle.vl_read.specs.declared.scan.Mode.TheVariants.{Between}
use Rattle.vl_read.specs.declared.designer.Scope.{Scope}
use Rattle.vl_read.specs.inner.Designs.{Sketch, design_reading, first_sketch, sketch_step}
use Rattle.vl_read.specs.inner.Lexemes.{move, lexemes_from}
use Rattle.vl_read.specs.inner.Scopes.{IsLineIn, IsNoText, IsTextIn}
use Rattle.vl_read.specs.inner.Turns.{IsBeyond, IsWithin, gather, ahead}
use Rattle.vl_read.proofs.Endings.{line_end}
use Rattle.vl_read.proofs.Feeds.{feed_append, fed_one}
use Rattle.vl_read.proofs.Scoped.{text_ends, text_found, text_read}
use Rattle.vl_read.proofs.Remainder.{silently, Quits, ahead_next, ahead_ended, ahead_stopped}

abbrev newline : ℕ → Bool
newline byte = byte == 10

-- bytes that begin as those that are left
abbrev pub Alike : List ℕ → List ℕ → Type 0
Alike [] more = more ≡ []
Alike (byte ∷ rest) more = (tail : List ℕ) × (more ≡ byte ∷ tail)

alike_itself : (rest : List ℕ) → Alike rest rest
alike_itself [] = refl
alike_itself (byte ∷ rest) = (rest, refl)

-- The bytes up to a place were read: whole lines, and the beginning of the next. What they make of more bytes is known
-- where these begin as those that are left.
pub record Reached (scope : Scope) (bytes rest : List ℕ) (parser : Sketch) (mode : Mode) (lexeme : List ℕ) (line : ℕ) : Type 0 where
  pub before : List ℕ
  pub here : List ℕ
  pub whole : bytes ≡ (before ++ here) ++ rest
  pub lines : AreWholeLines before
  pub one : IsOneLine here
  pub number : line ≡ 1 + count_by newline before
  pub begins : IsPrefix (IsTextIn scope) before
  pub lexemes : List (List ℕ)
  pub fed : gather (first_sketch scope most_items) lexemes ≡ Some parser
  pub reads : (more : List ℕ) → Alike rest more → design_reading scope most_items ((before ++ here) ++ more) ≡ ahead parser mode lexeme more

-- bytes that were read to the end of a line begin a text
begun : (scope : Scope) (bytes : List ℕ) (lexemes : List (List ℕ)) (parser : Sketch) (mode : Mode) → gather (first_sketch scope most_items) lexemes ≡ Some parser → IsBeyond mode →
    ((more : List ℕ) → design_reading scope most_items (bytes ++ more) ≡ ahead parser mode [] more) → IsPrefix (IsTextIn scope) bytes
begun scope bytes lexemes parser mode fed beyond reads =
    let end = text_ends scope lexemes parser mode fed beyond in
    record { rest = end.0; is_text = text_found scope (bytes ++ end.0) end.1 (reads end.0 ∙ end.2) }

pub reached_start : (scope : Scope) (bytes : List ℕ) (parser : Sketch) → parser ≡ first_sketch scope most_items → Reached scope bytes bytes parser Between [] 1
reached_start scope bytes parser is = record {
  before = [];
  here = [];
  whole = refl;
  lines = inl refl;
  one = refl;
  number = refl;
  begins = begun scope [] [] (first_sketch scope most_items) Between refl tt (λ more. refl);
  lexemes = [];
  fed = ap Some (sym is);
  reads = λ more alike. ap (λ p. ahead p Between [] more) (sym is);
}

-- bytes are one line, or one and a newline, and more
first_line : (bytes : List ℕ) → IsOneLine bytes ⊎ ((line more : List ℕ) × IsOneLine line × (bytes ≡ line ++ 10 ∷ more))
first_line [] = inl refl
first_line (b ∷ bs) = of (b == 10) refl (first_line bs)
  where
    of : (t : Bool) → (b == 10) ≡ t → IsOneLine bs ⊎ ((line more : List ℕ) × IsOneLine line × (bs ≡ line ++ 10 ∷ more)) →
        IsOneLine (b ∷ bs) ⊎ ((line more : List ℕ) × IsOneLine line × (b ∷ bs ≡ line ++ 10 ∷ more))
    of true e split = inr ([], bs, refl, ap (λ x. x ∷ bs) (eqb-true b 10 e))
    of false e (inl one) = inl (and_from (not (b == 10)) (list_all (λ byte. not (byte == 10)) bs) (ap not e) one)
    of false e (inr split) = inr (b ∷ split.0, split.1, and_from (not (b == 10)) (list_all (λ byte. not (byte == 10)) split.0) (ap not e) split.2, ap (λ l. b ∷ l) split.3)

module _ (scope : Scope) (bytes rest : List ℕ) (parser : Sketch) (mode : Mode) (lexeme : List ℕ) (line : ℕ) (reached : Reached scope bytes rest parser mode lexeme line) where
  -- the line is not past the bytes before it
  pub line_within : line + length rest ≤ 1 + length bytes
  line_within = omega (
    arith,
    reached.number,
    count_by-le-length newline reached.before,
    ap length reached.whole,
    length-append (reached.before ++ reached.here) rest,
    length-append reached.before reached.here,
  )

  pub reads_all : design_reading scope most_items bytes ≡ ahead parser mode lexeme rest
  reads_all = ap (design_reading scope most_items) reached.whole ∙ reached.reads rest (alike_itself rest)

  pub refused : ahead parser mode lexeme rest ≡ None → IsNoText scope bytes
  refused none text =
      let read = text_read scope bytes text in
      let both : None ≡ Some read.0 = sym (reads_all ∙ none) ∙ read.1 in
      absurd cc

  -- the last line has a fault
  pub fault_at_end : rest ≡ [] → IsLineIn scope bytes line
  fault_at_end e = record {
    before = reached.before;
    after = reached.here;
    whole = reached.whole ∙ ap (λ l. (reached.before ++ reached.here) ++ l) e ∙ append-nil (reached.before ++ reached.here);
    lines = reached.lines;
    number = reached.number;
    begins = reached.begins;
    stops = inl reached.one;
  }

  module _ (byte : ℕ) (after : List ℕ) (split : rest ≡ byte ∷ after) where
    -- bytes that begin with this one begin as those that are left
    alike : (more : List ℕ) → Alike rest (byte ∷ more)
    alike more = subst (λ l. Alike l (byte ∷ more)) (sym split) (more, refl)

    -- nothing that begins with the bytes and a refused one is a text
    no_text : ((more : List ℕ) → ahead parser mode lexeme (byte ∷ more) ≡ None) → (more : List ℕ) → IsTextIn scope ((reached.before ++ reached.here) ++ byte ∷ more) → ⊥
    no_text none more text =
        let read = text_read scope ((reached.before ++ reached.here) ++ byte ∷ more) text in
        let both : None ≡ Some read.0 = sym (reached.reads (byte ∷ more) (alike more) ∙ none more) ∙ read.1 in
        absurd cc

    line_stops : ((more : List ℕ) → ahead parser mode lexeme (byte ∷ more) ≡ None)
        → IsOneLine (byte ∷ after) ⊎ ((line more : List ℕ) × IsOneLine line × (byte ∷ after ≡ line ++ 10 ∷ more))
        → Stops (IsTextIn scope) reached.before (reached.here ++ byte ∷ after)
    line_stops none (inl one) = inl (line_join reached.here (byte ∷ after) reached.one one)
    line_stops none (inr ([], more, one, e)) = inr (
      reached.here,
      more,
      reached.one,
      ap (λ l. reached.here ++ l) e,
      λ prefix.
          no_text none prefix.rest (subst (IsTextIn scope) (at_newline prefix.rest) prefix.is_text),
    )
      where
        at_newline : (tail : List ℕ) → (reached.before ++ (reached.here ++ 10 ∷ [])) ++ tail ≡ (reached.before ++ reached.here) ++ byte ∷ tail
        at_newline tail = let same : byte ≡ 10 = cc in
            subst (λ b. (reached.before ++ (reached.here ++ 10 ∷ [])) ++ tail
            ≡ (reached.before ++ reached.here) ++ b ∷ tail) (sym same) (simp append_assoc refl)
    line_stops none (inr (b ∷ line, more, one, e)) = inr (
      reached.here ++ b ∷ line,
      more,
      line_join reached.here (b ∷ line) reached.one one,
      ap (λ l. reached.here ++ l) e ∙ sym (append_assoc reached.here (b ∷ line) (10 ∷ more)),
      λ prefix.
          no_text none ((line ++ 10 ∷ []) ++ prefix.rest) (subst (IsTextIn scope) (past_newline prefix.rest) prefix.is_text),
    )
      where
        past_newline : (tail : List ℕ) → (reached.before ++ ((reached.here ++ b ∷ line) ++ 10 ∷ [])) ++ tail ≡ (reached.before ++ reached.here) ++ byte ∷ ((line ++ 10 ∷ []) ++ tail)
        past_newline tail = let same : byte ≡ b = cc in
            subst (λ x. (reached.before ++ ((reached.here ++ b ∷ line) ++ 10 ∷ [])) ++ tail
            ≡ (reached.before ++ reached.here) ++ x ∷ ((line ++ 10 ∷ []) ++ tail)) (sym same)
            (simp append_assoc refl)

    -- the line has a fault, where nothing goes on with the byte
    fault_here : ((more : List ℕ) → ahead parser mode lexeme (byte ∷ more) ≡ None) → IsLineIn scope bytes line
    fault_here none = record {
      before = reached.before;
      after = reached.here ++ byte ∷ after;
      whole = reached.whole ∙ ap (λ l. (reached.before ++ reached.here) ++ l) split ∙ append_assoc reached.before reached.here (byte ∷ after);
      lines = reached.lines;
      number = reached.number;
      begins = reached.begins;
      stops = line_stops none (first_line (byte ∷ after));
    }

    -- a byte that may not stand there
    pub stopped_refused : None ≡ move mode lexeme byte → IsNoText scope bytes
    stopped_refused e = refused (ap (ahead parser mode lexeme) split ∙ ahead_stopped parser mode lexeme after byte e)

    pub stopped_line : None ≡ move mode lexeme byte → IsLineIn scope bytes line
    stopped_line e = fault_here (λ more. ahead_stopped parser mode lexeme more byte e)

    -- a byte that the reading goes on with
    module _ (to : Mode) (then : List ℕ) (moves : Some (silently to then) ≡ move mode lexeme byte) where
      reads_next : (more : List ℕ) → design_reading scope most_items ((reached.before ++ reached.here) ++ byte ∷ more) ≡ ahead parser to then more
      reads_next more = reached.reads (byte ∷ more) (alike more) ∙ ahead_next parser mode to lexeme then more byte moves

      -- in the line
      in_line : (byte == 10) ≡ false → Reached scope bytes after parser to then line
      in_line other = record {
        before = reached.before;
        here = reached.here ++ byte ∷ [];
        whole = reached.whole ∙ ap (λ l. (reached.before ++ reached.here) ++ l) split ∙ simp append_assoc refl;
        lines = reached.lines;
        one = line_join reached.here (byte ∷ []) reached.one (and_from (not (byte == 10)) true (ap not other) refl);
        number = reached.number;
        begins = reached.begins;
        lexemes = reached.lexemes;
        fed = reached.fed;
        reads = λ more like. ap (design_reading scope most_items) (one_more more) ∙ reads_next more;
      }
        where
          one_more : (more : List ℕ) → (reached.before ++ (reached.here ++ byte ∷ [])) ++ more ≡ (reached.before ++ reached.here) ++ byte ∷ more
          one_more more = simp append_assoc refl

      -- at its end
      at_line_end : (byte == 10) ≡ true → Reached scope bytes after parser to then (line + 1)
      at_line_end newline_is =
          let same : byte ≡ 10 = eqb-true byte 10 newline_is in
          let ends = line_end mode lexeme (silently to then) (ap (move mode lexeme) (sym same) ∙ sym moves) in
          let front : List ℕ = reached.before ++ reached.here in
          let goes_on : ((more : List ℕ) → design_reading scope most_items ((front ++ byte ∷ []) ++ more)
          ≡ ahead parser to then more) = λ more. ap (design_reading scope most_items)
          (append_assoc front (byte ∷ []) more) ∙ reads_next more in
          record {
            before = front ++ byte ∷ [];
            here = [];
            whole = reached.whole ∙ ap (λ l. front ++ l) split ∙ sym (append_assoc front (byte ∷ []) after) ∙ ap (λ l. l ++ after) (sym (append-nil (front ++ byte ∷ [])));
            lines = inr (front, ap (λ b. front ++ b ∷ []) same);
            one = refl;
            number = counted same;
            begins = begun scope (front ++ byte ∷ []) reached.lexemes parser to reached.fed ends.0 (λ more. goes_on more ∙ ap (λ l. ahead parser to l more) ends.1);
            lexemes = reached.lexemes;
            fed = reached.fed;
            reads = λ more like. ap (λ l. design_reading scope most_items (l ++ more)) (append-nil (front ++ byte ∷ [])) ∙ goes_on more;
          }
        where
          counted : byte ≡ 10 → line + 1 ≡ 1 + count_by newline ((reached.before ++ reached.here) ++ byte ∷ [])
          counted same =
              let last : count_by newline (byte ∷ []) ≡ 1 = ap (λ b. count_by newline (b ∷ [])) same in
              omega (arith, reached.number, count_append (reached.before ++ reached.here) (byte ∷ []), count_append reached.before reached.here, count_none reached.here reached.one, last)

      pub reached_next : (new_line : ℕ) → new_line ≡ line + cond (byte == 10) 1 0 → Reached scope bytes after parser to then new_line
      reached_next new_line counts = of (byte == 10) refl counts
        where
          of : (t : Bool) → (byte == 10) ≡ t → new_line ≡ line + cond t 1 0 → Reached scope bytes after parser to then new_line
          of true is counts = subst (λ n. Reached scope bytes after parser to then n) (sym counts) (at_line_end is)
          of false is counts = subst (λ n. Reached scope bytes after parser to then n) (sym counts) (subst (λ n. Reached scope bytes after parser to then n) (omega arith) (in_line is))

  -- where the lexeme ends before the bytes that are left
  module _ (within : IsWithin mode) (quits : Quits mode lexeme rest) where
    -- a lexeme that may not stand there
    pub unfed_refused : None ≡ sketch_step parser lexeme → IsNoText scope bytes
    unfed_refused e = refused (ahead_ended parser mode lexeme rest within quits ∙ ap (option_and_then (λ q. ahead q Between [] rest)) (sym e))

    pub unfed_line : None ≡ sketch_step parser lexeme → IsLineIn scope bytes line
    unfed_line e = of rest refl
      where
        of : (left : List ℕ) → rest ≡ left → IsLineIn scope bytes line
        of [] is = fault_at_end is
        of (byte ∷ after) is = fault_here byte after is
            (λ more. ahead_ended parser mode lexeme (byte ∷ more) within (subst (Quits mode lexeme) is quits)
            ∙ ap (option_and_then (λ q. ahead q Between [] (byte ∷ more))) (sym e))

    quits_alike : (left more : List ℕ) → Quits mode lexeme left → Alike left more → Quits mode lexeme more
    quits_alike [] more is like = subst (Quits mode lexeme) (sym like) tt
    quits_alike (byte ∷ left) more is like = subst (Quits mode lexeme) (sym like.1) is

    -- one that is read
    pub reached_fed : (next : Sketch) → Some next ≡ sketch_step parser lexeme → Reached scope bytes rest next Between [] line
    reached_fed next e = record {
      before = reached.before;
      here = reached.here;
      whole = reached.whole;
      lines = reached.lines;
      one = reached.one;
      number = reached.number;
      begins = reached.begins;
      lexemes = reached.lexemes ++ lexeme ∷ [];
      fed = feed_append sketch_step reached.lexemes (lexeme ∷ []) (first_sketch scope most_items)
          ∙ ap (option_and_then (λ p. gather p (lexeme ∷ []))) reached.fed ∙ fed_one sketch_step parser lexeme
          ∙ sym e;
      reads = λ more like.
          reached.reads more like
          ∙ ahead_ended parser mode lexeme more within (quits_alike rest more quits like)
          ∙ ap (option_and_then (λ q. ahead q Between [] more)) (sym e);
    }
