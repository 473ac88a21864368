-- The reading goes on by a byte of a gap, or by a lexeme.
use Rattle.std.proofs.Common.{◌≡◌, ℕ, ◌+◌, ◌-◌, ◌<◌, ◌≤◌, Bool, true, false, List, [], ◌∷◌, ◌++◌, length, take, drop, get_or, Some, None, refl, sym, ◌∙◌, ap, subst, arith, zero, suc, option_map}
use Rattle.std.specs.Prelude.{nat_lt}
use Rattle.std.proofs.lemmas.Bool.{ltb-true, ltb-false}
use Rattle.std.proofs.lemmas.List.{drop_all}
use Rattle.vl_read.specs.declared.scan.Mode.{Mode}
use Rattle.vl_read.specs.declared.scan.Mode.TheVariants.{Between, Word, Mark}
use Rattle.vl_read.specs.declared.designer.Scope.{Scope}
use Rattle.vl_read.specs.inner.Designs.{Sketch, sketch_step}
use Rattle.vl_read.specs.inner.Lexemes.{move}
use Rattle.vl_read.specs.inner.Turns.{IsBeyond, IsWithin, mode_after, between, goes_on_at, GoOn, line_at}
use Rattle.vl_read.specs.inner.Scopes.{IsLineIn, IsNoText}
use Rattle.vl_read.proofs.LineCounts.{line_next}
use Rattle.vl_read.proofs.LexemePlaces.{kept_first, kept_next}
use Rattle.vl_read.proofs.Reach.{Reached, reached_next, reached_fed, unfed_refused, unfed_line, stopped_refused, stopped_line}
use Rattle.vl_read.proofs.Remainder.{begun_with, silently, turn_is, grows, Quits, drop_next}

-- the bytes up to a place were read, and the lexeme before it is this one
abbrev pub ReachedAt : Scope → List ℕ → Sketch → Mode → List ℕ → ℕ → Type 0
ReachedAt scope bytes parser mode lexeme place = Reached scope bytes (drop place bytes) parser mode lexeme (line_at (take place bytes))

begun_none : (mode : Mode) (byte : ℕ) → IsBeyond mode → begun_with mode byte ≡ []
begun_none Word byte h = absurd h
begun_none Mark byte h = absurd h
begun_none _ byte h = refl

begun_one : (mode : Mode) (byte : ℕ) → IsWithin mode → begun_with mode byte ≡ byte ∷ []
begun_one Word byte h = refl
begun_one Mark byte h = refl
begun_one _ byte h = absurd h

module _ (scope : Scope) (bytes : List ℕ) (parser : Sketch) (mode : Mode) (start : ℕ)
    (reached : ReachedAt scope bytes parser mode [] start) (beyond : IsBeyond mode)
    (inside : start < length bytes) where
  -- a byte that may not stand there
  stops : None ≡ mode_after mode (get_or bytes start 0) → None ≡ move mode [] (get_or bytes start 0)
  stops e = ap (option_map (λ to. silently to (begun_with to (get_or bytes start 0)))) e ∙ turn_is mode (get_or bytes start 0) beyond

  pub byte_refused : None ≡ mode_after mode (get_or bytes start 0) → IsNoText scope bytes
  byte_refused e = stopped_refused _ _ _ _ _ _ _ reached _ _ (drop_next bytes start inside) (stops e)

  pub byte_line : None ≡ mode_after mode (get_or bytes start 0) → IsLineIn scope bytes (line_at (take start bytes))
  byte_line e = stopped_line _ _ _ _ _ _ _ reached _ _ (drop_next bytes start inside) (stops e)

  module _ (to : Mode) (leads : Some to ≡ mode_after mode (get_or bytes start 0)) where
    begun : ReachedAt scope bytes parser to (begun_with to (get_or bytes start 0)) (start + 1)
    begun =
        let moves : Some (silently to (begun_with to (get_or bytes start 0)))
        ≡ move mode [] (get_or bytes start 0) =
        ap (option_map (λ to. silently to (begun_with to (get_or bytes start 0)))) leads
        ∙ turn_is mode (get_or bytes start 0) beyond in
        reached_next _ _ _ _ _ _ _ reached _ _ (drop_next bytes start inside) to (begun_with to (get_or bytes start 0)) moves _ (line_next bytes start inside)

    -- a byte of a gap
    pub gap_read : IsBeyond to → ReachedAt scope bytes parser to [] (start + 1)
    gap_read h = subst (λ l. ReachedAt scope bytes parser to l (start + 1)) (begun_none to (get_or bytes start 0) h) begun

    module _ (within : IsWithin to) where
      -- a byte that goes on with the lexeme
      longer : (place end : ℕ) → place + 1 ≡ end → start < place → end ≤ length bytes → goes_on_at to bytes start place ≡ true → ReachedAt scope bytes parser to (between start place bytes) place →
          ReachedAt scope bytes parser to (between start end bytes) end
      longer place end next low past goes before =
          let here : place < length bytes = omega (arith, next, past) in
          let from : start ≤ place = omega (arith, low) in
          let moves : Some (silently to (between start place bytes ++ get_or bytes place 0 ∷ []))
          ≡ move to (between start place bytes) (get_or bytes place 0) =
          grows to (between start place bytes) (get_or bytes place 0) within goes in
          let after : ReachedAt scope bytes parser to (between start place bytes ++ get_or bytes place 0 ∷ [])
          (place + 1) = reached_next _ _ _ _ _ _ _ before _ _ (drop_next bytes place here) to _ moves _
          (line_next bytes place here) in
          subst (λ p. ReachedAt scope bytes parser to (between start p bytes) p) next
          (subst (λ l. ReachedAt scope bytes parser to l (place + 1)) (sym (kept_next bytes start place from here)) after)

      -- the lexeme so far
      grown : (more end : ℕ) → end ≡ (start + 1) + more → end ≤ length bytes → GoOn to bytes start end → ReachedAt scope bytes parser to (between start end bytes) end
      grown zero end is past go =
          let one : start + 1 ≡ end = omega (arith, is) in
          subst (λ place. ReachedAt scope bytes parser to (between start place bytes) place) one
          (subst (λ l. ReachedAt scope bytes parser to l (start + 1)) (begun_one to (get_or bytes start 0) within ∙ sym (kept_first bytes start inside)) begun)
      grown (suc more) end is past go =
          longer ((start + 1) + more) end (omega (arith, is)) (omega arith) past (go ((start + 1) + more) (omega arith) (omega (arith, is)))
          (grown more ((start + 1) + more) refl (omega (arith, is, past)) (λ k low high. go k low (omega (arith, high, is))))

      module _ (end : ℕ) (more : start < end) (past : end ≤ length bytes) (go : GoOn to bytes start end) (quits : end < length bytes → goes_on_at to bytes start end ≡ false) where
        whole : ReachedAt scope bytes parser to (between start end bytes) end
        whole = grown (end - (start + 1)) end (omega (arith, more)) past go

        ends : Quits to (between start end bytes) (drop end bytes)
        ends = of (nat_lt end (length bytes)) refl
          where
            of : (t : Bool) → nat_lt end (length bytes) ≡ t → Quits to (between start end bytes) (drop end bytes)
            of true e = let there = ltb-true end (length bytes) e in subst (Quits to (between start end bytes)) (sym (drop_next bytes end there)) (quits there)
            of false e = subst (Quits to (between start end bytes)) (sym (drop_all end bytes (ltb-false end (length bytes) e))) tt

        -- a lexeme that may not stand there
        pub lexeme_refused : None ≡ sketch_step parser (between start end bytes) → IsNoText scope bytes
        lexeme_refused e = unfed_refused _ _ _ _ _ _ _ whole within ends e

        pub lexeme_line : None ≡ sketch_step parser (between start end bytes) → IsLineIn scope bytes (line_at (take end bytes))
        lexeme_line e = unfed_line _ _ _ _ _ _ _ whole within ends e

        -- one that is read
        pub lexeme_read : (next : Sketch) → Some next ≡ sketch_step parser (between start end bytes) → ReachedAt scope bytes next Between [] end
        lexeme_read next e = reached_fed _ _ _ _ _ _ _ whole within ends next e
