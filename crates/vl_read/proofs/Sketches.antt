-- What a lexeme of a module does where modules are read one after another, and where one is read alone.
use Rattle.std.proofs.Common.{◌≡◌, ℕ, Bool, true, false, cond, List, [], ◌∷◌, ◌++◌, Option, Some, None, refl, sym, ◌∙◌, ap, subst, codes, bytes_eq, option_and_then, option_map}
use Rattle.std.specs.Prelude.{nat_lt, length}
use Rattle.std.proofs.lemmas.Bool.{false≢true}
use Rattle.vl_ast.specs.declared.designs.Instance.{Instance}
use Rattle.vl_ast.specs.declared.modules.Module.{Module}
use Rattle.vl_names.specs.Identifiers.{is_identifier}
use Rattle.vl_read.specs.declared.design.Design.{Design}
use Rattle.vl_read.specs.declared.designer.Scope.TheVariants.{Alone, Together}
use Rattle.vl_read.specs.declared.places.Draft.{Draft}
use Rattle.vl_read.specs.declared.scan.Kind.{Kind}
use Rattle.vl_read.specs.declared.scan.Kind.TheVariants.{Name, Count, Constant, Fixed}
use Rattle.vl_read.specs.inner.Designs.{Joint, Sketch, begin_instance, design_with, module_step, outside_step, parse_design, sketch_step, with_parser}
use Rattle.vl_read.specs.inner.Designs.Joint.{Outside}
use Rattle.vl_read.specs.inner.LexemeSteps.{is_name, parser_at}
use Rattle.vl_read.specs.inner.Lexemes.{kind_of}
use Rattle.vl_read.specs.inner.Places.{Parser, Place}
use Rattle.vl_read.specs.inner.Places.Place.{Items, Done}
use Rattle.vl_read.specs.inner.Plain.{item_step, parse, step, step_at}
use Rattle.vl_read.specs.inner.Turns.{feed, gather}
use Rattle.vl_read.proofs.KindSound.{name_sound, then_some}
use Rattle.vl_read.proofs.SoundFrames.{either_way, either_word, nowhere}

-- modules are read one after another, and at a joint
abbrev pub at_joint : List Module → List Instance → Parser → Joint → Sketch
at_joint below instances parser joint = record { scope = Together; below = below; instances = instances; joint = joint; parser = parser }

-- outside of instances
abbrev pub together : List Module → List Instance → Parser → Sketch
together below instances parser = at_joint below instances parser Outside

-- a module is read alone
abbrev pub alone : Parser → Sketch
alone parser = record { scope = Alone; below = []; instances = []; joint = Outside; parser = parser }

-- a word is no name
no_name : (lexeme word : List ℕ) → lexeme ≡ word → is_identifier word ≡ false → is_identifier lexeme ≡ true → ⊥
no_name lexeme word same none is = false≢true (sym none ∙ ap is_identifier (sym same) ∙ is)

-- no item begins with a name
pub no_item : (draft : Draft) (lexeme : List ℕ) (q : Parser) → is_identifier lexeme ≡ true → step (parser_at draft Items) lexeme ≡ Some q → ⊥
unfolding step step_at item_step
no_item draft lexeme q is e =
    either_word lexeme (codes "endmodule") _ _ q (λ h e. no_name lexeme (codes "endmodule") h refl is)
    (either_way (nat_lt (length draft.items) draft.most) (item_step draft lexeme) None q
    (λ t e. either_word lexeme (codes "wire") _ _ q (λ h e. no_name lexeme (codes "wire") h refl is)
    (either_word lexeme (codes "reg") _ _ q (λ h e. no_name lexeme (codes "reg") h refl is)
    (either_word lexeme (codes "assign") _ _ q (λ h e. no_name lexeme (codes "assign") h refl is)
    (either_word lexeme (codes "always") _ None q (λ h e. no_name lexeme (codes "always") h refl is) (nowhere q)))) e)
    (nowhere q)) e

module _ (below : List Module) (instances : List Instance) where
  -- a lexeme of the module

  in_items : (draft : Draft) (kind : Kind) (lexeme : List ℕ) (q : Parser) → kind_of lexeme ≡ kind → step (parser_at draft Items) lexeme ≡ Some q →
      cond (is_name kind) (begin_instance (together below instances (parser_at draft Items)) draft lexeme)
      (module_step (together below instances (parser_at draft Items)) lexeme)
      ≡ Some (together below instances q)
  in_items draft Name lexeme q named e = absurd (no_item draft lexeme q (name_sound lexeme named) e)
  in_items draft kind lexeme q named e = ap (with_parser (together below instances (parser_at draft Items))) e

  nothing_behind : (draft : Draft) (lexeme : List ℕ) (q : Parser) → step (parser_at draft Done) lexeme ≡ Some q → ⊥
  unfolding step step_at
  nothing_behind draft lexeme q e = nowhere q e

  at_place : (draft : Draft) (place : Place) (lexeme : List ℕ) (q : Parser) → step (parser_at draft place) lexeme ≡ Some q →
      outside_step (together below instances (parser_at draft place)) place (kind_of lexeme) lexeme ≡ Some (together below instances q)
  unfolding outside_step
  at_place draft Items lexeme q e = in_items draft (kind_of lexeme) lexeme q refl e
  at_place draft Done lexeme q e = absurd (nothing_behind draft lexeme q e)
  at_place draft place lexeme q e = ap (with_parser (together below instances (parser_at draft place))) e

  pub lift_step : (p : Parser) (lexeme : List ℕ) (q : Parser) → step p lexeme ≡ Some q → sketch_step (together below instances p) lexeme ≡ Some (together below instances q)
  unfolding sketch_step
  lift_step p lexeme q e = at_place p.draft p.place lexeme q e

  -- lexemes of it
  pub lift_feed : (lexemes : List (List ℕ)) (p q : Parser) → feed p lexemes ≡ Some q → gather (together below instances p) lexemes ≡ Some (together below instances q)
  lift_feed [] p q e = let same : p ≡ q = cc in ap (λ r. Some (together below instances r)) same
  lift_feed (lexeme ∷ lexemes) p q e =
      let first = then_some (step p lexeme) (λ next. feed next lexemes) q e in
      ap (option_and_then (λ next. gather next lexemes)) (lift_step p lexeme first.0 first.1) ∙ lift_feed lexemes first.0 q first.2

  -- what ends the module ends the design
  pub lift_parse : (lexemes : List (List ℕ)) (p : Parser) (m : Module) → parse p lexemes ≡ Some m
      → parse_design (together below instances p) lexemes ≡ Some (design_with (together below instances p) m)
  lift_parse [] p m e = ap (option_map (design_with (together below instances p))) e
  lift_parse (lexeme ∷ lexemes) p m e =
      let first = then_some (step p lexeme) (λ next. parse next lexemes) m e in
      ap (option_and_then (λ next. parse_design next lexemes)) (lift_step p lexeme first.0 first.1) ∙ lift_parse lexemes first.0 m first.2

-- a module alone

pub alone_step : (p : Parser) (lexeme : List ℕ) → sketch_step (alone p) lexeme ≡ option_map alone (step p lexeme)
unfolding sketch_step
alone_step p lexeme = refl

pub alone_parse : (lexemes : List (List ℕ)) (p : Parser) → parse_design (alone p) lexemes ≡ option_map (design_with (alone p)) (parse p lexemes)
alone_parse [] p = refl
alone_parse (lexeme ∷ lexemes) p =
    ap (option_and_then (λ next. parse_design next lexemes)) (alone_step p lexeme) ∙ of (step p lexeme) (alone_parse lexemes)
  where
    of : (o : Option Parser) → ((q : Parser) → parse_design (alone q) lexemes ≡ option_map (design_with (alone q)) (parse q lexemes)) →
        option_and_then (λ next. parse_design next lexemes) (option_map alone o) ≡ option_map (design_with (alone p)) (option_and_then (λ next. parse next lexemes) o)
    of None later = refl
    of (Some q) later = later q

-- the state that lexemes lead to is one of a module alone
pub alone_gather : (lexemes : List (List ℕ)) (p : Parser) (s : Sketch) → gather (alone p) lexemes ≡ Some s → (q : Parser) × (s ≡ alone q) × (feed p lexemes ≡ Some q)
alone_gather [] p s e = let same : s ≡ alone p = cc in (p, same, refl)
alone_gather (lexeme ∷ lexemes) p s e = of (step p lexeme) refl (sym (ap (option_and_then (λ next. gather next lexemes)) (alone_step p lexeme)) ∙ e) (λ next. alone_gather lexemes next s)
  where
    of : (o : Option Parser) → step p lexeme ≡ o → option_and_then (λ next. gather next lexemes) (option_map alone o) ≡ Some s →
        ((next : Parser) → gather (alone next) lexemes ≡ Some s → (q : Parser) × (s ≡ alone q) × (feed next lexemes ≡ Some q)) → (q : Parser) × (s ≡ alone q) × (feed p (lexeme ∷ lexemes) ≡ Some q)
    of None is e later = let no : ⊥ = cc in absurd no
    of (Some next) is e later = let rest = later next e in (rest.0, rest.1, ap (option_and_then (λ next. feed next lexemes)) is ∙ rest.2)
