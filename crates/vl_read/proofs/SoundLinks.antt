-- What each lexeme adds to an instance.
use Rattle.std.proofs.Common.{◌≡◌, ℕ, ◌+◌, ◌-◌, List, [], ◌∷◌, ◌++◌, map, Some, refl, sym, ◌∙◌, ap, codes, arith, append_assoc, append-nil, length-append}
use Rattle.std.specs.List.{flat_map}
use Rattle.vl_ast.specs.declared.designs.Instance.{Instance}
use Rattle.vl_ast.specs.declared.modules.Module.{Module}
use Rattle.vl_ast.specs.Instances.{link_tokens}
use Rattle.vl_ast.specs.Tokens.{Token, Sign, Identifier}
use Rattle.vl_read.specs.declared.places.Draft.{Draft}
use Rattle.vl_read.specs.declared.scan.Kind.{Kind}
use Rattle.vl_read.specs.declared.scan.Kind.TheVariants.{Name}
use Rattle.vl_read.specs.inner.Designs.{Joint, Sketch, inside_step, with_link}
use Rattle.vl_read.specs.inner.Designs.Joint.{Outside, Named, Opened, Dotted, Ported, Begun, Linked, Ended, More, Closed}
use Rattle.vl_read.specs.inner.LexemeSteps.{parser_at}
use Rattle.vl_read.specs.inner.Places.Place.{Items}
use Rattle.vl_read.proofs.ExpressionText.{before_next}
use Rattle.vl_read.proofs.KindSound.{IsOfKind}
use Rattle.vl_read.proofs.Sketches.{at_joint, together}
use Rattle.vl_read.proofs.SoundFrames.{either_word, expected, nowhere}
use Rattle.vl_read.proofs.ConsumedDesigns.{Further, Holds, closed_body, closed_text, linked_text, more_text, named_tokens, on_mark, on_to, on_word}

-- the joints of an instance
module _ (most : ℕ) (below : List Module) (instances : List Instance) (draft : Draft) (text : List Token) (lexeme : List ℕ) (q : Sketch) where
  abbrev HoldsHere : Joint → Type 0
  HoldsHere joint = Holds most below instances (parser_at draft Items) joint text

  abbrev inner : Joint → Sketch
  inner joint = at_joint below instances (parser_at draft Items) joint

  opened_sound : (i : Instance) → HoldsHere (Opened i) → inside_step (inner (Opened i)) (Opened i) Name lexeme ≡ Some q → Further most text lexeme q
  unfolding inside_step
  opened_sound i holds e =
      let begun = holds.has.1 in
      on_mark most below instances draft text lexeme q (Opened i) (Dotted i) (codes "(") holds begun refl refl (λ inside. (refl, inside))
      (ap (λ t. t ++ Sign (codes "(") ∷ []) begun.is.1 ∙ sym (append-nil (named_tokens i)) ∙ ap (λ ls. named_tokens i ++ before_next (map link_tokens ls)) (sym begun.is.0)) e

  more_sound : (i : Instance) → HoldsHere (More i) → inside_step (inner (More i)) (More i) Name lexeme ≡ Some q → Further most text lexeme q
  unfolding inside_step
  more_sound i holds e =
      let begun = holds.has.1 in
      either_word lexeme (codes ",") _ _ q
      (λ h e. on_to most below instances draft text lexeme q (More i) (Dotted i) (Sign (codes ",")) holds begun refl refl (λ inside. (refl, inside)) h begun.is.1 e)
      (λ e. on_mark most below instances draft text lexeme q (More i) (Closed i) (codes ")") holds begun refl refl
      (λ inside. (refl, inside)) (begun.is.0, ap (λ t. t ++ Sign (codes ")") ∷ []) begun.is.2) e) e

  closed_sound : (i : Instance) → HoldsHere (Closed i) → inside_step (inner (Closed i)) (Closed i) Name lexeme ≡ Some q → Further most text lexeme q
  unfolding inside_step
  closed_sound i holds e =
      let begun = holds.has.1 in
      let all : List Instance = instances ++ i ∷ [] in
      let r = expected lexeme (codes ";") (Some (together below all (parser_at draft Items))) q e in
      let same : together below all (parser_at draft Items) ≡ q = cc r.1 in
      record {
        token = Sign (codes ";");
        written = r.0;
        below = below;
        instances = all;
        parser = parser_at draft Items;
        joint = Outside;
        same = same;
        holds = record {
          texts = holds.texts;
          each_below = holds.each_below;
          own = holds.own ++ Sign (codes ";") ∷ [];
          room = holds.room;
          has = closed_body instances holds.room draft i begun.begun holds.own begun.body begun.is.0 (closed_text i begun.begun begun.is.1);
          live = tt;
          is = ap (λ t. t ++ Sign (codes ";") ∷ []) holds.is ∙ append_assoc (flat_map (λ text. text) holds.texts) holds.own (Sign (codes ";") ∷ []);
          count = omega (arith, holds.count, length-append instances (i ∷ []));
        };
      }

  pub inside_sound : (joint : Joint) (kind : Kind) → IsOfKind kind lexeme → HoldsHere joint → inside_step (inner joint) joint kind lexeme ≡ Some q → Further most text lexeme q
  unfolding inside_step
  inside_sound Outside kind named holds e = nowhere q e
  inside_sound (Named of) kind named holds e =
      on_word most below instances draft text lexeme q (Named of) (Opened (record { of = of; name = lexeme; links = [] })) kind named holds holds.has.1 refl refl (λ inside. (refl, inside))
      (refl, ap (λ t. t ++ Identifier lexeme ∷ []) holds.has.1.is) e
  inside_sound (Opened i) kind named holds e = opened_sound i holds e
  inside_sound (Dotted i) kind named holds e =
      on_mark most below instances draft text lexeme q (Dotted i) (Ported i) (codes ".") holds holds.has.1 refl refl (λ inside. (refl, inside)) (ap (λ t. t ++ Sign (codes ".") ∷ []) holds.has.1.is) e
  inside_sound (Ported i) kind named holds e =
      on_word most below instances draft text lexeme q (Ported i) (Begun i lexeme) kind named holds holds.has.1 refl refl (λ inside. (refl, inside))
      (more_text i holds.has.1.begun (Sign (codes ".") ∷ []) (Identifier lexeme) holds.has.1.is) e
  inside_sound (Begun i port) kind named holds e =
      on_mark most below instances draft text lexeme q (Begun i port) (Linked i port) (codes "(") holds holds.has.1 refl refl (λ inside. (refl, inside))
      (more_text i holds.has.1.begun (Sign (codes ".") ∷ Identifier port ∷ []) (Sign (codes "(")) holds.has.1.is) e
  inside_sound (Linked i port) kind named holds e =
      on_word most below instances draft text lexeme q (Linked i port) (Ended (with_link i port lexeme)) kind named holds holds.has.1 refl refl (λ inside. (refl, inside))
      (linked_text i port lexeme holds.has.1.begun holds.has.1.is) e
  inside_sound (Ended i) kind named holds e =
      on_mark most below instances draft text lexeme q (Ended i) (More i) (codes ")") holds holds.has.1 refl refl (λ inside. (refl, inside)) holds.has.1.is e
  inside_sound (More i) kind named holds e = more_sound i holds e
  inside_sound (Closed i) kind named holds e = closed_sound i holds e
