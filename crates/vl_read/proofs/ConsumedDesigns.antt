-- What was read of a design, where its reading stands, and what a lexeme of an instance adds.
use Rattle.std.proofs.Common.{◌≡◌, ◌≢◌, ℕ, ◌+◌, ◌-◌, cond, List, [], ◌∷◌, ◌++◌, map, length, Contains, Some, None, ⊎_elim, refl, sym, ◌∙◌, ap, subst, codes, append_assoc, bytes_eq}
use Rattle.std.specs.List.{AllZip, flat_map}
use Rattle.std.proofs.lemmas.List.{map-append}
use Rattle.std.proofs.lemmas.List.Elements.{Contains-push_cases}
use Rattle.vl_ast.specs.declared.designs.Instance.{Instance}
use Rattle.vl_ast.specs.declared.designs.Link.{Link}
use Rattle.vl_ast.specs.declared.modules.Module.{Module}
use Rattle.vl_ast.specs.Grammar.{IsItemText, IsModuleText, comma}
use Rattle.vl_ast.specs.Instances.{BodyPart, OfItem, OfInstance, instance_parts, instance_tokens, item_parts, link_tokens}
use Rattle.vl_ast.specs.Spelling.{joined}
use Rattle.vl_ast.specs.Tokens.{Token, Sign, Identifier, IsWritten}
use Rattle.vl_read.specs.declared.places.Draft.{Draft}
use Rattle.vl_read.specs.declared.scan.Kind.{Kind}
use Rattle.vl_read.specs.Designs.{items_of}
use Rattle.vl_read.specs.inner.Designs.{Joint, Sketch, with_link}
use Rattle.vl_read.specs.inner.Designs.Joint.{Outside, Named, Opened, Dotted, Ported, Begun, Linked, Ended, More, Closed}
use Rattle.vl_read.specs.inner.LexemeSteps.{is_name, parser_at}
use Rattle.vl_read.specs.inner.Places.{Parser}
use Rattle.vl_read.specs.inner.Places.Place.{Items}
use Rattle.vl_read.proofs.ExpressionText.{before_next, before_push, joined_push}
use Rattle.vl_read.proofs.ModuleText.{BodyParts, Given, Has, InBody, opened_tokens}
use Rattle.vl_read.proofs.Live.{IsLive}
use Rattle.vl_read.proofs.KindSound.{IsOfKind}
use Rattle.vl_read.proofs.Sketches.{at_joint}
use Rattle.vl_read.proofs.SoundFrames.{expected, grow, nowhere}
use Rattle.vl_read.proofs.SoundItems.{last_part}
use Rattle.vl_read.proofs.SoundNets.{grow_body, grown_body, not_empty, on_name_or}

-- an instance before its links
abbrev pub named_tokens : Instance → List Token
named_tokens i = Identifier i.of ∷ Identifier i.name ∷ Sign (codes "(") ∷ []

-- with all its links, and the mark before a further one
abbrev pub further : Instance → List Token
further i = named_tokens i ++ before_next (map link_tokens i.links)

-- with all its links
abbrev pub whole_links : Instance → List Token
whole_links i = named_tokens i ++ joined comma (map link_tokens i.links)

-- the text before a joint. After a net, both ways to go on are told
abbrev pub IsBegun : Joint → List Token → Type 0
IsBegun Outside text = ⊥
IsBegun (Named of) text = text ≡ Identifier of ∷ []
IsBegun (Opened i) text = (i.links ≡ []) × (text ≡ Identifier i.of ∷ Identifier i.name ∷ [])
IsBegun (Dotted i) text = text ≡ further i
IsBegun (Ported i) text = text ≡ further i ++ Sign (codes ".") ∷ []
IsBegun (Begun i port) text = text ≡ further i ++ Sign (codes ".") ∷ Identifier port ∷ []
IsBegun (Linked i port) text = text ≡ further i ++ Sign (codes ".") ∷ Identifier port ∷ Sign (codes "(") ∷ []
IsBegun (Ended i) text = (i.links ≢ []) × ((text ++ Sign (codes ")") ∷ []) ++ comma ≡ further i) × (text ++ Sign (codes ")") ∷ [] ≡ whole_links i)
IsBegun (More i) text = (i.links ≢ []) × (text ++ comma ≡ further i) × (text ≡ whole_links i)
IsBegun (Closed i) text = (i.links ≢ []) × (text ≡ whole_links i ++ Sign (codes ")") ∷ [])

-- what is given of the module that is being read
abbrev pub given_of : List Instance → ℕ → Given
given_of instances room = record { most = room; instances = instances }

-- an instance is begun
pub record InInstance (instances : List Instance) (room : ℕ) (draft : Draft) (joint : Joint) (text : List Token) : Type 0 where
  pub begun : List Token
  pub body : InBody (given_of instances room) draft begun text
  pub is : IsBegun joint begun

-- the text of the module that is being read, up to a joint
abbrev pub HasJoint : List Instance → ℕ → Parser → Joint → List Token → Type 0
HasJoint instances room parser Outside text = Has (given_of instances room) parser.draft parser.place text
HasJoint instances room parser joint text = (parser.place ≡ Items) × InInstance instances room parser.draft joint text

-- how many instances are begun
abbrev pub started : Joint → ℕ
started Outside = 0
started joint = 1

-- the text before a state of the reading, of at most so many items
pub record Holds (most : ℕ) (below : List Module) (instances : List Instance) (parser : Parser) (joint : Joint) (text : List Token) : Type 0 where
  pub texts : List (List Token)
  pub each_below : AllZip IsModuleText below texts
  pub own : List Token
  pub room : ℕ
  pub has : HasJoint instances room parser joint own
  pub live : IsLive parser.place
  pub is : text ≡ flat_map (λ text. text) texts ++ own
  pub count : ((items_of below + length instances) + started joint) + room ≡ most

-- the reading goes on with the design
pub record Further (most : ℕ) (text : List Token) (lexeme : List ℕ) (q : Sketch) : Type 0 where
  pub token : Token
  pub written : IsWritten token lexeme
  pub below : List Module
  pub instances : List Instance
  pub parser : Parser
  pub joint : Joint
  pub same : at_joint below instances parser joint ≡ q
  pub holds : Holds most below instances parser joint (text ++ token ∷ [])

module _ (most : ℕ) (below : List Module) (instances : List Instance) (draft : Draft) (text : List Token) (lexeme : List ℕ) (q : Sketch) where
  abbrev items : Parser
  items = parser_at draft Items

  abbrev HoldsAt : Joint → Type 0
  HoldsAt joint = Holds most below instances items joint text

  -- one more token of an instance
  pub on_to : (from to : Joint) (token : Token) → (holds : HoldsAt from)
      → (inside : InInstance instances holds.room draft from holds.own) → started from ≡ 1 → started to ≡ 1
      → (InInstance instances holds.room draft to (holds.own ++ token ∷ [])
      → HasJoint instances holds.room items to (holds.own ++ token ∷ [])) →
      IsWritten token lexeme → IsBegun to (inside.begun ++ token ∷ []) → Some (at_joint below instances items to) ≡ Some q → Further most text lexeme q
  on_to from to token holds inside one other joins written is e =
      let same : at_joint below instances items to ≡ q = cc in
      record {
        token = token;
        written = written;
        below = below;
        instances = instances;
        parser = items;
        joint = to;
        same = same;
        holds = record {
          texts = holds.texts;
          each_below = holds.each_below;
          own = holds.own ++ token ∷ [];
          room = holds.room;
          has = joins (record { begun = inside.begun ++ token ∷ []; body = grow_body (given_of instances holds.room) draft inside.begun holds.own token inside.body; is = is });
          live = tt;
          is = ap (λ t. t ++ token ∷ []) holds.is ∙ append_assoc (flat_map (λ text. text) holds.texts) holds.own (token ∷ []);
          count = ap (λ n. ((items_of below + length instances) + n) + holds.room) (other ∙ sym one) ∙ holds.count;
        };
      }

  pub on_mark : (from to : Joint) (mark : List ℕ) → (holds : HoldsAt from)
      → (inside : InInstance instances holds.room draft from holds.own) → started from ≡ 1 → started to ≡ 1
      → (InInstance instances holds.room draft to (holds.own ++ Sign mark ∷ [])
      → HasJoint instances holds.room items to (holds.own ++ Sign mark ∷ [])) →
      IsBegun to (inside.begun ++ Sign mark ∷ []) → cond (bytes_eq lexeme mark) (Some (at_joint below instances items to)) None ≡ Some q → Further most text lexeme q
  on_mark from to mark holds inside one other joins is e =
      let r = expected lexeme mark (Some (at_joint below instances items to)) q e in on_to from to (Sign mark) holds inside one other joins r.0 is r.1

  pub on_word : (from to : Joint) (kind : Kind) → IsOfKind kind lexeme → (holds : HoldsAt from) → (inside : InInstance instances holds.room draft from holds.own) → started from ≡ 1 → started to ≡ 1 →
      (InInstance instances holds.room draft to (holds.own ++ Identifier lexeme ∷ []) → HasJoint instances holds.room items to (holds.own ++ Identifier lexeme ∷ [])) →
      IsBegun to (inside.begun ++ Identifier lexeme ∷ []) → cond (is_name kind) (Some (at_joint below instances items to)) None ≡ Some q → Further most text lexeme q
  on_word from to kind named holds inside one other joins is e =
      on_name_or kind lexeme _ None q named (λ name e. on_to from to (Identifier lexeme) holds inside one other joins (refl, name) is e) (nowhere q) e

-- the texts of links

pub more_text : (i : Instance) (own tokens : List Token) (token : Token) → own ≡ further i ++ tokens → own ++ token ∷ [] ≡ further i ++ (tokens ++ token ∷ [])
more_text i own tokens token is = grow (further i) tokens _ own token is refl

-- after the net of a link, whichever way it goes on
pub linked_text : (i : Instance) (port net : List ℕ) (own : List Token)
    → own ≡ further i ++ Sign (codes ".") ∷ Identifier port ∷ Sign (codes "(") ∷ []
    → IsBegun (Ended (with_link i port net)) (own ++ Identifier net ∷ [])
linked_text i port net own is =
    let link : Link = record { port = port; net = net } in
    let links : List (List Token) = map link_tokens i.links in
    let all : map link_tokens (i.links ++ link ∷ []) ≡ links ++ link_tokens link ∷ [] = map-append link_tokens i.links (link ∷ []) in
    let text : (own ++ Identifier net ∷ []) ++ Sign (codes ")") ∷ [] ≡ further i ++ link_tokens link =
    ap (λ t. (t ++ Identifier net ∷ []) ++ Sign (codes ")") ∷ []) is ∙ regroup (further i) (Sign (codes ".")) (Identifier port) (Sign (codes "(")) (Identifier net) (Sign (codes ")")) in (
      not_empty i.links link,
      ap (λ t. t ++ comma) text ∙ append_assoc (further i) (link_tokens link) comma ∙ append_assoc (named_tokens i) (before_next links) (link_tokens link ++ comma)
          ∙ ap (λ t. named_tokens i ++ t) (sym (before_push links (link_tokens link)) ∙ ap before_next (sym all)),
      text ∙ append_assoc (named_tokens i) (before_next links) (link_tokens link) ∙ ap (λ t. named_tokens i ++ t) (joined_push links (link_tokens link) ∙ ap (joined comma) (sym all)),
    )
  where
    regroup : (a : List Token) (s t u v w : Token) → ((a ++ s ∷ t ∷ u ∷ []) ++ v ∷ []) ++ w ∷ [] ≡ a ++ s ∷ t ∷ u ∷ v ∷ w ∷ []
    regroup a s t u v w = simp append_assoc

-- an instance is read with its last token
pub closed_text : (i : Instance) (own : List Token) → own ≡ whole_links i ++ Sign (codes ")") ∷ [] → own ++ Sign (codes ";") ∷ [] ≡ instance_tokens i
closed_text i own is = ap (λ t. t ++ Sign (codes ";") ∷ []) is
    ∙ regroup (joined comma (map link_tokens i.links)) (Identifier i.of) (Identifier i.name) (Sign (codes "("))
    (Sign (codes ")")) (Sign (codes ";"))
  where
    regroup : (a : List Token) (s t u v w : Token) → (((s ∷ t ∷ u ∷ []) ++ a) ++ v ∷ []) ++ w ∷ [] ≡ s ∷ t ∷ u ∷ (a ++ v ∷ w ∷ [])
    regroup a s t u v w = simp append_assoc

items_as : (parts : List BodyPart) (text : List Token) → item_parts (parts ++ OfInstance text ∷ []) ≡ item_parts parts
items_as [] text = refl
items_as (OfItem t ∷ parts) text = ap (λ ts. t ∷ ts) (items_as parts text)
items_as (OfInstance t ∷ parts) text = items_as parts text

instances_push : (parts : List BodyPart) (text : List Token) → instance_parts (parts ++ OfInstance text ∷ []) ≡ instance_parts parts ++ text ∷ []
instances_push [] text = refl
instances_push (OfItem t ∷ parts) text = instances_push parts text
instances_push (OfInstance t ∷ parts) text = ap (λ ts. t ∷ ts) (instances_push parts text)

links_push : (instances : List Instance) (i : Instance) → ((j : Instance) → Contains instances j → j.links ≢ []) → i.links ≢ [] → (j : Instance) → Contains (instances ++ i ∷ []) j → j.links ≢ []
links_push instances i all own j within = ⊎_elim (λ h. all j h) (λ (same : i ≡ j). subst (λ (k : Instance). k.links ≢ []) same own) (Contains-push_cases instances i j within)

-- the body with the instance
pub closed_body : (instances : List Instance) (room : ℕ) (draft : Draft) (i : Instance) (begun text : List Token)
    → InBody (given_of instances room) draft begun text → i.links ≢ []
    → begun ++ Sign (codes ";") ∷ [] ≡ instance_tokens i →
    InBody (given_of (instances ++ i ∷ []) room) draft [] (text ++ Sign (codes ";") ∷ [])
closed_body instances room draft i begun text at some is =
    let parts : BodyParts (given_of instances room) draft = at.parts in
    let whole : List Token = begun ++ Sign (codes ";") ∷ [] in
    let grown = grown_body (given_of instances room) draft begun text (Sign (codes ";")) at in
    record {
      parts = record {
        ports = parts.ports;
        parts = parts.parts ++ OfInstance whole ∷ [];
        has_port = parts.has_port;
        has_link = links_push instances i parts.has_link some;
        each_port = parts.each_port;
        each_item = subst (λ texts. AllZip IsItemText draft.items texts) (sym (items_as parts.parts whole)) parts.each_item;
        each_instance = instances_push parts.parts whole ∙ ap (λ ts. ts ++ whole ∷ []) parts.each_instance ∙ ap (λ t. map instance_tokens instances ++ t ∷ []) is
            ∙ sym (map-append instance_tokens instances (i ∷ []));
        kept = parts.kept;
        room = parts.room;
      };
      is = grown ∙ ap (λ t. opened_tokens draft ++ (joined comma parts.ports ++ (Sign (codes ")") ∷ Sign (codes ";") ∷ t))) (last_part parts.parts (OfInstance whole));
    }
