-- What is read of a design is written: each lexeme adds a token of the text.
use Rattle.std.proofs.Common.{◌≡◌, ℕ, ◌+◌, ◌-◌, ◌<◌, ◌≤◌, true, List, [], ◌∷◌, ◌++◌, length, Option, Some, None, refl, sym, ◌∙◌, ap, subst, arith, append_assoc, append-nil, option_map}
use Rattle.std.specs.Prelude.{nat_lt}
use Rattle.std.specs.List.{flat_map}
use Rattle.std.proofs.lemmas.Bool.{ltb-true}
use Rattle.std.proofs.lemmas.Grind.{flat_map-append}
use Rattle.math_list.proofs.Tests.{cond_some}
use Rattle.vl_ast.specs.declared.designs.Instance.{Instance}
use Rattle.vl_ast.specs.declared.modules.Module.{Module}
use Rattle.vl_ast.specs.Grammar.{IsModuleText}
use Rattle.vl_ast.specs.Tokens.{Token, Identifier}
use Rattle.vl_names.specs.Identifiers.{is_identifier}
use Rattle.vl_read.specs.declared.places.Draft.{Draft}
use Rattle.vl_read.specs.declared.scan.Kind.{Kind}
use Rattle.vl_read.specs.Designs.{items_of}
use Rattle.vl_read.specs.inner.Designs.{Joint, Sketch, begin_instance, has_no, inside_step, module_of, module_step, outside_step, over_next, sketch_step}
use Rattle.vl_read.specs.inner.Designs.Joint.{Outside, Named}
use Rattle.vl_read.specs.inner.LexemeSteps.{parser_at}
use Rattle.vl_read.specs.inner.Lexemes.{kind_of}
use Rattle.vl_read.specs.inner.Places.{Parser, Place}
use Rattle.vl_read.specs.inner.Places.Place.{Items, Done}
use Rattle.vl_read.specs.inner.Plain.{start, step}
use Rattle.vl_read.proofs.ModuleText.{BodyParts, InBody, Whole}
use Rattle.vl_read.proofs.Live.{step_lives}
use Rattle.vl_read.proofs.KindSound.{IsOfKind, kind_means}
use Rattle.vl_read.proofs.DesignReader.{sum_behind}
use Rattle.vl_read.proofs.LinkReader.{less}
use Rattle.vl_read.proofs.Sketches.{at_joint, together}
use Rattle.vl_read.proofs.Sound.{nothing_read, step_sound, top_alone}
use Rattle.vl_read.proofs.SoundNets.{Onward, grow_body, on_name_or, zip_push}
use Rattle.vl_read.proofs.ConsumedDesigns.{Further, Holds, given_of}
use Rattle.vl_read.proofs.SoundLinks.{inside_sound}

-- an instance begins, which takes the room of an item
lessened : (instances : List Instance) (room : ℕ) (draft : Draft) (begun text : List Token)
    → length draft.items < draft.most → InBody (given_of instances room) draft begun text
    → InBody (given_of instances (room - 1)) (less draft) begun text
lessened instances room draft begun text fits at =
    let parts : BodyParts (given_of instances room) draft = at.parts in
    record {
      parts = record {
        ports = parts.ports;
        parts = parts.parts;
        has_port = parts.has_port;
        has_link = parts.has_link;
        each_port = parts.each_port;
        each_item = parts.each_item;
        each_instance = parts.each_instance;
        kept = ap (λ n. n - 1) parts.kept;
        room = omega (arith, fits, parts.kept);
      };
      is = at.is;
    }

pub mapped : {A B : Type 0} (f : A → B) (o : Option A) (b : B) → option_map f o ≡ Some b → (a : A) × (o ≡ Some a) × (f a ≡ b)
mapped f None b e = let no : ⊥ = cc in absurd no
mapped f (Some a) b e = let same : f a ≡ b = cc in (a, refl, same)

none_there : (instances : List Instance) → has_no instances ≡ true → instances ≡ []
none_there [] e = refl
none_there (i ∷ instances) e = let no : ⊥ = cc in absurd no

-- outside of instances
module _ (most : ℕ) (below : List Module) (instances : List Instance) (text : List Token) (lexeme : List ℕ) (q : Sketch) where
  -- the module goes on
  module_sound : (parser : Parser) → Holds most below instances parser Outside text → module_step (together below instances parser) lexeme ≡ Some q → Further most text lexeme q
  module_sound parser holds e =
      let next = mapped (together below instances) (step parser lexeme) q e in
      let onward : Onward (given_of instances holds.room) holds.own lexeme next.0 = step_sound (given_of instances holds.room) parser lexeme holds.own next.0 holds.has next.1 in
      record {
        token = onward.token;
        written = onward.written;
        below = below;
        instances = instances;
        parser = next.0;
        joint = Outside;
        same = next.2;
        holds = record {
          texts = holds.texts;
          each_below = holds.each_below;
          own = holds.own ++ onward.token ∷ [];
          room = holds.room;
          has = onward.has;
          live = step_lives parser next.0 lexeme holds.live next.1;
          is = ap (λ t. t ++ onward.token ∷ []) holds.is ∙ append_assoc (flat_map (λ text. text) holds.texts) holds.own (onward.token ∷ []);
          count = holds.count;
        };
      }

  begin_sound : (draft : Draft) → is_identifier lexeme ≡ true
      → Holds most below instances (parser_at draft Items) Outside text
      → begin_instance (together below instances (parser_at draft Items)) draft lexeme ≡ Some q
      → Further most text lexeme q
  unfolding begin_instance
  begin_sound draft named holds e =
      let begun : Sketch = at_joint below instances (parser_at (less draft) Items) (Named lexeme) in
      let r = cond_some (nat_lt (length draft.items) draft.most) (Some begun) q e in
      let fits : length draft.items < draft.most = ltb-true (length draft.items) draft.most r.0 in
      let same : begun ≡ q = cc r.1 in
      let body : InBody (given_of instances holds.room) draft [] holds.own = holds.has in
      record {
        token = Identifier lexeme;
        written = (refl, named);
        below = below;
        instances = instances;
        parser = parser_at (less draft) Items;
        joint = Named lexeme;
        same = same;
        holds = record {
          texts = holds.texts;
          each_below = holds.each_below;
          own = holds.own ++ Identifier lexeme ∷ [];
          room = holds.room - 1;
          has = (
            refl,
            record {
              begun = Identifier lexeme ∷ [];
              body = lessened instances holds.room draft (Identifier lexeme ∷ [])
                  (holds.own ++ Identifier lexeme ∷ []) fits
                  (grow_body (given_of instances holds.room) draft [] holds.own (Identifier lexeme) body);
              is = refl;
            },
          );
          live = tt;
          is = ap (λ t. t ++ Identifier lexeme ∷ []) holds.is ∙ append_assoc (flat_map (λ text. text) holds.texts) holds.own (Identifier lexeme ∷ []);
          count = omega (arith, holds.count, fits, body.parts.kept);
        };
      }

  -- the next module begins
  next_sound : (draft : Draft) → Holds most below instances (parser_at draft Done) Outside text
      → has_no instances ≡ true → module_step
      (over_next (together below instances (parser_at draft Done)) draft) lexeme ≡ Some q
      → Further most text lexeme q
  next_sound draft holds none e =
      let m : Module = module_of draft in
      let left : ℕ = draft.most - length draft.items in
      let whole : Whole (given_of instances holds.room) m holds.own = holds.has.1 in
      let no_more : instances ≡ [] = none_there instances none in
      let none_left : length instances ≡ 0 = ap length no_more in
      let few : length draft.items ≤ holds.room = whole.room in
      let kept : draft.most ≡ holds.room = holds.has.0 in
      let summed : items_of (below ++ m ∷ []) ≡ items_of below + length draft.items = sum_behind below m in
      let alone : IsModuleText m holds.own = top_alone m instances holds.own whole.is no_more in
      let next = mapped (together (below ++ m ∷ []) instances) (step (start left) lexeme) q e in
      let onward : Onward (given_of [] left) [] lexeme next.0 = step_sound (given_of [] left) (start left) lexeme [] next.0 (nothing_read left) next.1 in
      record {
        token = onward.token;
        written = onward.written;
        below = below ++ m ∷ [];
        instances = [];
        parser = next.0;
        joint = Outside;
        same = ap (λ is. together (below ++ m ∷ []) is next.0) (sym no_more) ∙ next.2;
        holds = record {
          texts = holds.texts ++ holds.own ∷ [];
          each_below = zip_push IsModuleText below holds.texts m holds.own holds.each_below alone;
          own = onward.token ∷ [];
          room = left;
          has = onward.has;
          live = step_lives (start left) next.0 lexeme tt next.1;
          is = ap (λ t. t ++ onward.token ∷ [])
              (holds.is ∙ ap (λ t. flat_map (λ text. text) holds.texts ++ t) (sym (append-nil holds.own))
              ∙ sym (flat_map-append (λ text. text) holds.texts (holds.own ∷ [])));
          count = omega (arith, holds.count, summed, kept, few, none_left);
        };
      }

  outside_sound : (draft : Draft) (place : Place) (kind : Kind) → IsOfKind kind lexeme → Holds most below instances (parser_at draft place) Outside text →
      outside_step (together below instances (parser_at draft place)) place kind lexeme ≡ Some q → Further most text lexeme q
  unfolding outside_step
  outside_sound draft Items kind named holds e = on_name_or kind lexeme _ _ q named (λ name e. begin_sound draft name holds e) (λ e. module_sound (parser_at draft Items) holds e) e
  outside_sound draft Done kind named holds e = let r = cond_some (has_no instances) _ q e in next_sound draft holds r.0 r.1
  outside_sound draft place kind named holds e = module_sound (parser_at draft place) holds e

  in_instance : (draft : Draft) (place : Place) (joint : Joint) (kind : Kind) → IsOfKind kind lexeme → place ≡ Items → Holds most below instances (parser_at draft place) joint text →
      inside_step (at_joint below instances (parser_at draft place) joint) joint kind lexeme ≡ Some q → Further most text lexeme q
  in_instance draft place joint kind named there =
      subst (λ (p : Place). Holds most below instances (parser_at draft p) joint text
      → inside_step (at_joint below instances (parser_at draft p) joint) joint kind lexeme ≡ Some q
      → Further most text lexeme q) (sym there)
      (inside_sound most below instances draft text lexeme q joint kind named)

  pub sketch_sound : (parser : Parser) (joint : Joint) → Holds most below instances parser joint text → sketch_step (at_joint below instances parser joint) lexeme ≡ Some q → Further most text lexeme q
  unfolding sketch_step
  sketch_sound parser Outside holds e = outside_sound parser.draft parser.place (kind_of lexeme) (kind_means lexeme) holds e
  sketch_sound parser joint holds e = in_instance parser.draft parser.place joint (kind_of lexeme) (kind_means lexeme) holds.has.0 holds e
