-- Where the plain reading gives a design, the lexemes are a text of it.
use Rattle.std.proofs.Common.{◌≡◌, ℕ, ◌+◌, ◌≤◌, List, [], ◌∷◌, ◌++◌, length, Option, Some, None, refl, sym, ◌∙◌, ap, subst, arith, append_assoc, append-nil, option_map}
use Rattle.vl_ast.specs.declared.designs.Instance.{Instance}
use Rattle.vl_ast.specs.declared.modules.Module.{Module}
use Rattle.vl_ast.specs.Tokens.{Token}
use Rattle.vl_read.specs.declared.design.Design.{Design}
use Rattle.vl_read.specs.declared.designer.Scope.TheVariants.{Together}
use Rattle.vl_read.specs.declared.places.Draft.{Draft}
use Rattle.vl_read.specs.Designs.{IsDesignText, items_in, items_of}
use Rattle.vl_read.specs.inner.Designs.{Joint, Sketch, design_with, finish_at, first_sketch, module_of, parse_design, sketch_step}
use Rattle.vl_read.specs.inner.Designs.Joint.{Outside}
use Rattle.vl_read.specs.inner.LexemeSteps.{parser_at}
use Rattle.vl_read.specs.inner.Places.{Parser, Place}
use Rattle.vl_read.specs.inner.Places.Place.{Done}
use Rattle.vl_read.specs.inner.Plain.{module_at, start}
use Rattle.vl_read.specs.inner.Turns.{gather}
use Rattle.vl_read.proofs.ConsumedDesigns.{Further, Holds, given_of}
use Rattle.vl_read.proofs.ModuleText.{Whole}
use Rattle.vl_read.proofs.KindSound.{then_some}
use Rattle.vl_read.proofs.DesignReader.{sum_behind}
use Rattle.vl_read.proofs.Sketches.{at_joint, together}
use Rattle.vl_read.proofs.Sound.{nothing_read}
use Rattle.vl_read.proofs.SoundDesigns.{sketch_sound}
use Rattle.vl_read.proofs.TokenReader.{WritesEach}

-- before the first lexeme
pub holds_first : (most : ℕ) → Holds most [] [] (start most) Outside []
holds_first most = record { texts = []; each_below = tt; own = []; room = most; has = nothing_read most; live = tt; is = refl; count = omega arith }

-- the text of a design that isn't too long
abbrev IsWhole : ℕ → Design → List Token → Type 0
IsWhole most design text = IsDesignText design text × (items_in design ≤ most)

at_end : (most : ℕ) (below : List Module) (instances : List Instance) (draft : Draft) (place : Place)
    (text : List Token) (design : Design) → Holds most below instances (parser_at draft place) Outside text →
    option_map (design_with (together below instances (parser_at draft place))) (module_at draft place) ≡ Some design → IsWhole most design text
at_end most below instances draft Done text design holds e =
    let m : Module = module_of draft in
    let whole : Whole (given_of instances holds.room) m holds.own = holds.has.1 in
    let made : Design = record { modules = below ++ m ∷ []; instances = instances } in
    let same : made ≡ design = cc in
    let few : length draft.items ≤ holds.room = whole.room in
    let summed : items_of (below ++ m ∷ []) ≡ items_of below + length draft.items = sum_behind below m in
    subst (λ (d : Design). IsWhole most d text) same (
      record { below = below; top = m; parted = refl; texts = holds.texts; each_below = holds.each_below; last = holds.own; top_text = whole.is; text = holds.is },
      omega (arith, holds.count, summed, few),
    )
at_end most below instances draft place text design holds e = let no : ⊥ = cc in absurd no

finished : (most : ℕ) (below : List Module) (instances : List Instance) (parser : Parser) (joint : Joint) (text : List Token) (design : Design) → Holds most below instances parser joint text →
    finish_at (at_joint below instances parser joint) joint ≡ Some design → IsWhole most design text
finished most below instances parser Outside text design holds e = at_end most below instances parser.draft parser.place text design holds e
finished most below instances parser joint text design holds e = let no : ⊥ = cc in absurd no

rest_written : (lexemes : List (List ℕ)) (most : ℕ) (below : List Module) (instances : List Instance)
    (parser : Parser) (joint : Joint) (text : List Token) (design : Design)
    → Holds most below instances parser joint text →
    parse_design (at_joint below instances parser joint) lexemes ≡ Some design → (tokens : List Token) × IsWhole most design (text ++ tokens) × WritesEach tokens lexemes
rest_written [] most below instances parser joint text design holds e =
    ([], subst (IsWhole most design) (sym (append-nil text)) (finished most below instances parser joint text design holds e), refl)
rest_written (lexeme ∷ lexemes) most below instances parser joint text design holds e =
    let first = then_some (sketch_step (at_joint below instances parser joint) lexeme) (λ next. parse_design next lexemes) design e in
    let onward : Further most text lexeme first.0 = sketch_sound most below instances text lexeme first.0 parser joint holds first.1 in
    let rest = rest_written lexemes most onward.below onward.instances onward.parser onward.joint
    (text ++ onward.token ∷ []) design onward.holds
    (ap (λ (s : Sketch). parse_design s lexemes) onward.same ∙ first.2) in (
      onward.token ∷ rest.0,
      subst (IsWhole most design) (append_assoc text (onward.token ∷ []) rest.0) rest.1,
      (lexeme, lexemes, refl, onward.written, rest.2),
    )

pub design_written : (most : ℕ) (lexemes : List (List ℕ)) (design : Design) → parse_design (first_sketch Together most) lexemes ≡ Some design →
    (tokens : List Token) × (IsDesignText design tokens × (items_in design ≤ most)) × WritesEach tokens lexemes
design_written most lexemes design e = rest_written lexemes most [] [] (start most) Outside [] design (holds_first most) e

-- the state that lexemes lead to
pub record Held (most : ℕ) (s : Sketch) : Type 0 where
  pub below : List Module
  pub instances : List Instance
  pub parser : Parser
  pub joint : Joint
  pub text : List Token
  pub same : at_joint below instances parser joint ≡ s
  pub holds : Holds most below instances parser joint text

rest_held : (lexemes : List (List ℕ)) (most : ℕ) (below : List Module) (instances : List Instance) (parser : Parser)
    (joint : Joint) (text : List Token) (s : Sketch) → Holds most below instances parser joint text →
    gather (at_joint below instances parser joint) lexemes ≡ Some s → Held most s
rest_held [] most below instances parser joint text s holds e =
    let same : at_joint below instances parser joint ≡ s = cc in
    record { below = below; instances = instances; parser = parser; joint = joint; text = text; same = same; holds = holds }
rest_held (lexeme ∷ lexemes) most below instances parser joint text s holds e =
    let first = then_some (sketch_step (at_joint below instances parser joint) lexeme) (λ next. gather next lexemes) s e in
    let onward : Further most text lexeme first.0 = sketch_sound most below instances text lexeme first.0 parser joint holds first.1 in
    rest_held lexemes most onward.below onward.instances onward.parser onward.joint (text ++ onward.token ∷ []) s onward.holds (ap (λ (s : Sketch). gather s lexemes) onward.same ∙ first.2)

pub held : (most : ℕ) (lexemes : List (List ℕ)) (s : Sketch) → gather (first_sketch Together most) lexemes ≡ Some s → Held most s
held most lexemes s e = rest_held lexemes most [] [] (start most) Outside [] s (holds_first most) e
