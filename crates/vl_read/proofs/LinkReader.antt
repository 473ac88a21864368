-- Instances are read from what is written for their tokens.
use Rattle.std.proofs.Common.{◌≡◌, ◌≢◌, ℕ, ◌-◌, ◌<◌, cond, List, [], ◌∷◌, ◌++◌, map, length, Some, None, refl, sym, ◌∙◌, ap, subst, codes, append_assoc, append-nil}
use Rattle.std.specs.List.{flat_map}
use Rattle.std.proofs.lemmas.Bool.{lt-ltb}
use Rattle.vl_ast.specs.declared.designs.Instance.{Instance}
use Rattle.vl_ast.specs.declared.designs.Link.{Link}
use Rattle.vl_ast.specs.declared.modules.Module.{Module}
use Rattle.vl_ast.specs.Grammar.{comma}
use Rattle.vl_ast.specs.Instances.{instance_tokens, link_tokens}
use Rattle.vl_ast.specs.Tokens.{Token, Sign, Identifier}
use Rattle.vl_read.specs.declared.places.Draft.{Draft}
use Rattle.vl_read.specs.declared.scan.Kind.TheVariants.{Name}
use Rattle.vl_read.specs.inner.Designs.{Joint, Sketch, begin_instance, inside_step, outside_step, sketch_step, with_link}
use Rattle.vl_read.specs.inner.Designs.Joint.{Outside, Named, Opened, Dotted, Ported, Begun, Linked, Ended, More, Closed}
use Rattle.vl_read.specs.inner.LexemeSteps.{parser_at}
use Rattle.vl_read.specs.inner.Lexemes.{kind_of}
use Rattle.vl_read.specs.inner.Places.{Parser}
use Rattle.vl_read.specs.inner.Places.Place.{Items}
use Rattle.vl_read.proofs.LexemeKinds.{name_kind}
use Rattle.vl_read.proofs.Sketches.{at_joint, together}
use Rattle.vl_read.proofs.TokenReader.{Writes, ReadsBy, by_step_of, later, next_by, writes_as}

-- one state of a design leads to another
abbrev pub Gathers : Sketch → List (List ℕ) → Sketch → List Token → Type 0
Gathers from lexemes to tokens = ReadsBy sketch_step from lexemes to tokens

pub next : (from middle to : Sketch) (lexemes : List (List ℕ)) (between after : List Token) →
    Gathers from lexemes middle between → ((more : List (List ℕ)) → Writes between more → Gathers middle more to after) → Gathers from lexemes to after
next from middle to lexemes between after first second = next_by sketch_step from middle to lexemes between after first second

mark : (from to : Sketch) (lexemes : List (List ℕ)) (sign : List ℕ) (tokens : List Token) → sketch_step from sign ≡ Some to → Writes (Sign sign ∷ tokens) lexemes → Gathers from lexemes to tokens
mark from to lexemes sign tokens goes w = by_step_of sketch_step from to lexemes w.each.1 w.each.0 tokens w.each.2 (ap (sketch_step from) w.each.3 ∙ goes) (later _ _ w.each.4)

word : (from to : Sketch) (lexemes : List (List ℕ)) (n : List ℕ) (tokens : List Token)
    → (kind_of n ≡ Name → sketch_step from n ≡ Some to) → Writes (Identifier n ∷ tokens) lexemes
    → Gathers from lexemes to tokens
word from to lexemes n tokens goes w =
    by_step_of sketch_step from to lexemes w.each.1 w.each.0 tokens w.each.2 (ap (sketch_step from) w.each.3.0 ∙ goes (name_kind n w.each.3.1)) (later _ _ w.each.4)

module _ (below : List Module) (instances : List Instance) (p : Parser) where
  abbrev at : Joint → Sketch
  at joint = at_joint below instances p joint

  pub named_step : (of n : List ℕ) → kind_of n ≡ Name → sketch_step (at (Named of)) n ≡ Some (at (Opened (record { of = of; name = n; links = [] })))
  unfolding sketch_step inside_step
  named_step of n h = rw h refl

  pub opened_step : (i : Instance) → sketch_step (at (Opened i)) (codes "(") ≡ Some (at (Dotted i))
  unfolding sketch_step inside_step
  opened_step i = refl

  pub dotted_step : (i : Instance) → sketch_step (at (Dotted i)) (codes ".") ≡ Some (at (Ported i))
  unfolding sketch_step inside_step
  dotted_step i = refl

  pub ported_step : (i : Instance) (n : List ℕ) → kind_of n ≡ Name → sketch_step (at (Ported i)) n ≡ Some (at (Begun i n))
  unfolding sketch_step inside_step
  ported_step i n h = rw h refl

  pub begun_step : (i : Instance) (port : List ℕ) → sketch_step (at (Begun i port)) (codes "(") ≡ Some (at (Linked i port))
  unfolding sketch_step inside_step
  begun_step i port = refl

  pub linked_step : (i : Instance) (port n : List ℕ) → kind_of n ≡ Name → sketch_step (at (Linked i port)) n ≡ Some (at (Ended (with_link i port n)))
  unfolding sketch_step inside_step
  linked_step i port n h = rw h refl

  pub ended_step : (i : Instance) → sketch_step (at (Ended i)) (codes ")") ≡ Some (at (More i))
  unfolding sketch_step inside_step
  ended_step i = refl

  comma_step : (i : Instance) → sketch_step (at (More i)) (codes ",") ≡ Some (at (Dotted i))
  unfolding sketch_step inside_step
  comma_step i = refl

  pub last_step : (i : Instance) → sketch_step (at (More i)) (codes ")") ≡ Some (at (Closed i))
  unfolding sketch_step inside_step
  last_step i = refl

  pub closed_step : (i : Instance) → sketch_step (at (Closed i)) (codes ";") ≡ Some (together below (instances ++ i ∷ []) p)
  unfolding sketch_step inside_step
  closed_step i = refl

  -- a link
  link_read : (i : Instance) (link : Link) (tokens : List Token) (lexemes : List (List ℕ))
      → Writes (link_tokens link ++ tokens) lexemes
      → Gathers (at (Dotted i)) lexemes (at (More (with_link i link.port link.net))) tokens
  link_read i link tokens l0 w0 =
      let linked : Instance = with_link i link.port link.net in
      next _ (at (Ported i)) _ l0 _ tokens (mark _ _ l0 (codes ".") _ (dotted_step i) w0)
      (λ l1 w1. next _ (at (Begun i link.port)) _ l1 _ tokens (word _ _ l1 link.port _ (ported_step i link.port) w1)
      (λ l2 w2. next _ (at (Linked i link.port)) _ l2 _ tokens (mark _ _ l2 (codes "(") _ (begun_step i link.port) w2)
      (λ l3 w3. next _ (at (Ended linked)) _ l3 _ tokens (word _ _ l3 link.net _ (linked_step i link.port link.net) w3)
      (λ l4 w4. mark _ _ l4 (codes ")") tokens (ended_step linked) w4))))

  abbrev with_links : Instance → List Link → Instance
  with_links i links = record i { links = i.links ++ links }

  -- further ones
  links_read : (links : List Link) (i : Instance) (tokens : List Token) (lexemes : List (List ℕ)) → Writes (flat_map (λ more. comma ++ more) (map link_tokens links) ++ tokens) lexemes →
      Gathers (at (More i)) lexemes (at (More (with_links i links))) tokens
  links_read [] i tokens lexemes w =
      record { taken = []; more = lexemes; writes = w; whole = refl; fed = ap (λ ls. Some (at (More (record i { links = ls })))) (sym (append-nil i.links)) }
  links_read (link ∷ links) i tokens lexemes w =
      let more : List Token = flat_map (λ more. comma ++ more) (map link_tokens links) ++ tokens in
      let linked : Instance = with_link i link.port link.net in
      next _ (at (Dotted i)) _ lexemes _ tokens (mark _ _ lexemes (codes ",") (link_tokens link ++ more) (comma_step i) w)
      (λ l1 w1. next _ (at (More linked)) _ l1 _ tokens (link_read i link more l1 w1)
      (λ l2 w2. subst (λ ls. Gathers (at (More linked)) l2 (at (More (record i { links = ls }))) tokens) (append_assoc i.links (link ∷ []) links)
      (links_read links linked tokens l2 w2)))

-- the draft with room for one item less
abbrev pub less : Draft → Draft
less draft = record draft { most = draft.most - 1 }

begin_step : (below : List Module) (instances : List Instance) (draft : Draft) (of : List ℕ) → length draft.items < draft.most → kind_of of ≡ Name →
    sketch_step (together below instances (parser_at draft Items)) of ≡ Some (at_joint below instances (parser_at (less draft) Items) (Named of))
unfolding sketch_step outside_step begin_instance
begin_step below instances draft of room h =
    rw h (ap (λ t. cond t (Some (at_joint below instances (parser_at (less draft) Items) (Named of))) None) (lt-ltb (length draft.items) draft.most room))

-- an instance with these links
abbrev linked : List ℕ → List ℕ → List Link → Instance
linked of n links = record { of = of; name = n; links = links }

module _ (below : List Module) (instances : List Instance) (draft : Draft) (room : length draft.items < draft.most) where
  linked_read : (of n : List ℕ) (link : Link) (links : List Link) (tokens : List Token) (lexemes : List (List ℕ)) → Writes (instance_tokens (linked of n (link ∷ links)) ++ tokens) lexemes →
      Gathers (together below instances (parser_at draft Items)) lexemes (together below (instances ++ linked of n (link ∷ links) ∷ []) (parser_at (less draft) Items)) tokens
  linked_read of n link links tokens l0 w0 =
      let p : Parser = parser_at (less draft) Items in
      let none : Instance = linked of n [] in
      let whole : Instance = linked of n (link ∷ links) in
      let more : List Token = flat_map (λ more. comma ++ more) (map link_tokens links) in
      let ends : List Token = Sign (codes ")") ∷ Sign (codes ";") ∷ [] in
      let text : instance_tokens whole ++ tokens ≡ Identifier of ∷ Identifier n ∷ Sign (codes "(") ∷ (link_tokens link ++ (more ++ (ends ++ tokens))) =
      ap (λ t. Identifier of ∷ Identifier n ∷ Sign (codes "(") ∷ (link_tokens link ++ t)) (append_assoc more ends tokens) in
      next _ (at_joint below instances p (Named of)) _ l0 _ tokens (word _ _ l0 of _ (begin_step below instances draft of room) (writes_as _ _ l0 text w0))
      (λ l1 w1. next _ (at_joint below instances p (Opened none)) _ l1 _ tokens (word _ _ l1 n _ (named_step below instances p of n) w1)
      (λ l2 w2. next _ (at_joint below instances p (Dotted none)) _ l2 _ tokens (mark _ _ l2 (codes "(") _ (opened_step below instances p none) w2)
      (λ l3 w3. next _ (at_joint below instances p (More (linked of n (link ∷ [])))) _ l3 _ tokens (link_read below instances p none link _ l3 w3)
      (λ l4 w4. next _ (at_joint below instances p (More whole)) _ l4 _ tokens (links_read below instances p links (linked of n (link ∷ [])) _ l4 w4)
      (λ l5 w5. next _ (at_joint below instances p (Closed whole)) _ l5 _ tokens (mark _ _ l5 (codes ")") _ (last_step below instances p whole) w5)
      (λ l6 w6. mark _ _ l6 (codes ";") tokens (closed_step below instances p whole) w6))))))

  by_links : (i : Instance) (links : List Link) → i.links ≡ links → i.links ≢ [] → (tokens : List Token) (lexemes : List (List ℕ)) → Writes (instance_tokens i ++ tokens) lexemes →
      Gathers (together below instances (parser_at draft Items)) lexemes (together below (instances ++ i ∷ []) (parser_at (less draft) Items)) tokens
  by_links i [] is some tokens lexemes w = absurd (some is)
  by_links i (link ∷ links) is some tokens lexemes w =
      let same : i ≡ linked i.of i.name (link ∷ links) = ap (λ ls. linked i.of i.name ls) is in
      subst (λ j. Gathers (together below instances (parser_at draft Items)) lexemes (together below (instances ++ j ∷ []) (parser_at (less draft) Items)) tokens) (sym same)
      (linked_read i.of i.name link links tokens lexemes (writes_as _ _ lexemes (ap (λ j. instance_tokens j ++ tokens) same) w))

  pub instance_read : (i : Instance) → i.links ≢ [] → (tokens : List Token) (lexemes : List (List ℕ)) → Writes (instance_tokens i ++ tokens) lexemes →
      Gathers (together below instances (parser_at draft Items)) lexemes (together below (instances ++ i ∷ []) (parser_at (less draft) Items)) tokens
  instance_read i some tokens lexemes w = by_links i i.links refl some tokens lexemes w
