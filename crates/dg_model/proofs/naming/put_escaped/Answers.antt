use Rattle.std.proofs.Common.{◌≡◌, ℕ, ◌+◌, Bool, true, false, List, [], ◌∷◌, ◌++◌, take, get_or, eqb, refl, sym, ap, ◌∙◌}
use Rattle.std.proofs.lemmas.Bool.{eqb-true}
use Rattle.std.proofs.lemmas.List.{append_assoc, take_all, take_more}
use Rattle.std.proofs.lemmas.List.Concat.{flat_map-append}
use Rattle.dg_model.specs.Naming.{escaped}
use Rattle.dg_model.proofs.naming.put_escaped.Goals as goal
use Rattle.dg_model.proofs.naming.put_escaped.Goals.{then-byte-eq47+in_ok-push-2, else-byte-eq47}

other_byte : (byte : ℕ) (b : Bool) → eqb byte 47 ≡ b → (byte ≡ 47 → ⊥) → escaped (byte ∷ []) ≡ byte ∷ []
other_byte byte true is differ = absurd (differ (eqb-true byte 47 is))
other_byte byte false is differ = rw is refl

pub loop-byte-preserved : goal.loop-byte-preserved
loop-byte-preserved c =
    let old = c.args.path.now.items in
    let name = c.args.name.now in
    let i = c.loop-byte.byte-index in
    let byte = get_or name i 0 in
    let more : old ++ escaped (take (i + 1) name) ≡ (old ++ escaped (take i name)) ++ escaped (byte ∷ []) =
    ap (λ (done : List ℕ). old ++ done) (ap escaped (take_more name i 0 c.loop-byte-test.true)
    ∙ flat_map-append _ (take i name) (byte ∷ []))
    ∙ sym (append_assoc old (escaped (take i name)) (escaped (byte ∷ []))) in
    let put = c.in_ok-push.ensures.items ∙ ap (λ (done : List ℕ). done ++ byte ∷ []) c.loop-byte.invariant in
    elim c.if-byte-eq47.branch [
      | then-byte-eq47+in_ok-push-2 w ↦
          let same = w.if-byte-eq47.true in
          rw w.path-is (w.in_ok-push-2.ensures.items ∙ ap (λ (done : List ℕ). done ++ 47 ∷ []) put ∙ append_assoc (old ++ escaped (take i name)) (byte ∷ []) (47 ∷ [])
          ∙ ap (λ (own : List ℕ). (old ++ escaped (take i name)) ++ own) (ap (λ (b : ℕ). b ∷ 47 ∷ []) same ∙ sym (ap (λ (b : ℕ). escaped (b ∷ [])) same)) ∙ sym more)
      | else-byte-eq47 w ↦
          rw w.path-is (put ∙ ap (λ (own : List ℕ). (old ++ escaped (take i name)) ++ own) (sym (other_byte byte (eqb byte 47) refl w.if-byte-eq47.false)) ∙ sym more)
    ]

pub returns : goal.returns
returns c = c.loop-byte.invariant ∙ ap (λ (name : List ℕ). c.args.path.now.items ++ escaped name) (take_all c.loop-byte.byte-index c.args.name.now c.loop-byte-test.false)
