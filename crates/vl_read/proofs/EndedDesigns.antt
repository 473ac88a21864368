-- Each beginning of a design's text can be ended, so that the whole is one.
use Rattle.std.proofs.Common.{◌≡◌, ℕ, List, [], ◌∷◌, ◌++◌, Some, refl, sym, ◌∙◌, ap, subst, codes, option_and_then}
use Rattle.vl_ast.specs.declared.designs.Instance.{Instance}
use Rattle.vl_ast.specs.declared.modules.Module.{Module}
use Rattle.vl_ast.specs.Tokens.{Token}
use Rattle.vl_read.specs.declared.design.Design.{Design}
use Rattle.vl_read.specs.declared.designer.Scope.TheVariants.{Together}
use Rattle.vl_read.specs.declared.places.Draft.{Draft}
use Rattle.vl_read.specs.declared.scan.Kind.TheVariants.{Name}
use Rattle.vl_read.specs.inner.Designs.{Joint, Sketch, design_with, first_sketch, parse_design, sketch_step, with_link}
use Rattle.vl_read.specs.inner.Designs.Joint.{Outside, Named, Opened, Dotted, Ported, Begun, Linked, Ended, More, Closed}
use Rattle.vl_read.specs.inner.LexemeSteps.{parser_at}
use Rattle.vl_read.specs.inner.Lexemes.{class_of, extends, kind_of}
use Rattle.vl_read.specs.inner.Places.{Parser, Place}
use Rattle.vl_read.specs.inner.Places.Place.{Items}
use Rattle.vl_read.specs.inner.Turns.{gather}
use Rattle.vl_read.proofs.ExpressionEnds.{CanEnd}
use Rattle.vl_read.proofs.ConsumedDesigns.{Holds}
use Rattle.vl_read.proofs.Division.{IsLexeme, a_key, a_mark, AllLexemes}
use Rattle.vl_read.proofs.Endings.{items_end, place_ends}
use Rattle.vl_read.proofs.LinkReader.{begun_step, closed_step, dotted_step, ended_step, last_step, linked_step, named_step, opened_step, ported_step}
use Rattle.vl_read.proofs.Sketches.{at_joint, lift_parse, together}
use Rattle.vl_read.proofs.WrittenDesigns.{Held, held}

-- lexemes that make a design of what was read
pub record CanEndSo (s : Sketch) : Type 0 where
  pub more : List (List ℕ)
  pub whole : Design
  pub lexemes : AllLexemes more
  pub same : parse_design s more ≡ Some whole

-- one lexeme more
by_lexeme : (from to : Sketch) (lexeme : List ℕ) → IsLexeme lexeme → sketch_step from lexeme ≡ Some to → CanEndSo to → CanEndSo from
by_lexeme from to lexeme is goes end = record {
  more = lexeme ∷ end.more;
  whole = end.whole;
  lexemes = (is, end.lexemes);
  same = ap (λ o. option_and_then (λ next. parse_design next end.more) o) goes ∙ end.same;
}

-- outside of instances the module is ended
module_ends : (below : List Module) (instances : List Instance) (p : Parser) → CanEnd p → CanEndSo (together below instances p)
module_ends below instances p end =
    record { more = end.more; whole = design_with (together below instances p) end.whole; lexemes = end.lexemes; same = lift_parse below instances end.more p end.whole end.same }

a_name : kind_of (codes "a") ≡ Name
unfolding kind_of
a_name = refl

name_is : IsLexeme (codes "a")
unfolding class_of
name_is = a_key _ refl

open_is : IsLexeme (codes "(")
unfolding class_of extends
open_is = a_mark _ refl

close_is : IsLexeme (codes ")")
unfolding class_of extends
close_is = a_mark _ refl

dot_is : IsLexeme (codes ".")
unfolding class_of extends
dot_is = a_mark _ refl

semicolon_is : IsLexeme (codes ";")
unfolding class_of extends
semicolon_is = a_mark _ refl

module _ (below : List Module) (instances : List Instance) (draft : Draft) where
  abbrev p : Parser
  p = parser_at draft Items

  closed_ends : (i : Instance) → CanEndSo (at_joint below instances p (Closed i))
  closed_ends i = by_lexeme _ _ (codes ";") semicolon_is (closed_step below instances p i) (module_ends below (instances ++ i ∷ []) p (items_end draft))

  more_ends : (i : Instance) → CanEndSo (at_joint below instances p (More i))
  more_ends i = by_lexeme _ _ (codes ")") close_is (last_step below instances p i) (closed_ends i)

  ended_ends : (i : Instance) → CanEndSo (at_joint below instances p (Ended i))
  ended_ends i = by_lexeme _ _ (codes ")") close_is (ended_step below instances p i) (more_ends i)

  linked_ends : (i : Instance) (port : List ℕ) → CanEndSo (at_joint below instances p (Linked i port))
  linked_ends i port = by_lexeme _ _ (codes "a") name_is (linked_step below instances p i port (codes "a") a_name) (ended_ends (with_link i port (codes "a")))

  begun_ends : (i : Instance) (port : List ℕ) → CanEndSo (at_joint below instances p (Begun i port))
  begun_ends i port = by_lexeme _ _ (codes "(") open_is (begun_step below instances p i port) (linked_ends i port)

  ported_ends : (i : Instance) → CanEndSo (at_joint below instances p (Ported i))
  ported_ends i = by_lexeme _ _ (codes "a") name_is (ported_step below instances p i (codes "a") a_name) (begun_ends i (codes "a"))

  dotted_ends : (i : Instance) → CanEndSo (at_joint below instances p (Dotted i))
  dotted_ends i = by_lexeme _ _ (codes ".") dot_is (dotted_step below instances p i) (ported_ends i)

  opened_ends : (i : Instance) → CanEndSo (at_joint below instances p (Opened i))
  opened_ends i = by_lexeme _ _ (codes "(") open_is (opened_step below instances p i) (dotted_ends i)

  named_ends : (of : List ℕ) → CanEndSo (at_joint below instances p (Named of))
  named_ends of = by_lexeme _ _ (codes "a") name_is (named_step below instances p of (codes "a") a_name) (opened_ends (record { of = of; name = codes "a"; links = [] }))

  instance_ends : (joint : Joint) → CanEndSo (at_joint below instances p joint)
  instance_ends Outside = module_ends below instances p (items_end draft)
  instance_ends (Named of) = named_ends of
  instance_ends (Opened i) = opened_ends i
  instance_ends (Dotted i) = dotted_ends i
  instance_ends (Ported i) = ported_ends i
  instance_ends (Begun i port) = begun_ends i port
  instance_ends (Linked i port) = linked_ends i port
  instance_ends (Ended i) = ended_ends i
  instance_ends (More i) = more_ends i
  instance_ends (Closed i) = closed_ends i

-- within an instance the items are next
in_items : (below : List Module) (instances : List Instance) (draft : Draft) (place : Place) (joint : Joint) → place ≡ Items → CanEndSo (at_joint below instances (parser_at draft place) joint)
in_items below instances draft place joint is = subst (λ (at : Place). CanEndSo (at_joint below instances (parser_at draft at) joint)) (sym is) (instance_ends below instances draft joint)

joint_ends : (most : ℕ) (below : List Module) (instances : List Instance) (parser : Parser) (joint : Joint)
    (text : List Token) → Holds most below instances parser joint text
    → CanEndSo (at_joint below instances parser joint)
joint_ends most below instances parser Outside text holds = module_ends below instances parser (place_ends parser.draft parser.place holds.live)
joint_ends most below instances parser joint text holds = in_items below instances parser.draft parser.place joint holds.has.0

-- lexemes that were read go on to a design
pub design_ended : (most : ℕ) (lexemes : List (List ℕ)) (s : Sketch) → gather (first_sketch Together most) lexemes ≡ Some s → CanEndSo s
design_ended most lexemes s e =
    let last : Held most s = held most lexemes s e in
    subst CanEndSo last.same (joint_ends most last.below last.instances last.parser last.joint last.text last.holds)
