-- A design is read from what is written for its tokens.
use Rattle.std.proofs.Common.{◌≡◌, ◌≢◌, ℕ, ◌+◌, ◌-◌, ◌<◌, ◌≤◌, List, [], ◌∷◌, ◌++◌, map, length, Contains, Some, None, refl, sym, ◌∙◌, ap, subst, codes, arith, append_assoc, append-nil, length-append}
use Rattle.std.proofs.Common.{option_and_then}
use Rattle.std.specs.List.{AllZip, flat_map}
use Rattle.std.proofs.lemmas.List.Elements.{Contains-append_right}
use Rattle.std.proofs.lemmas.List.Sums.{sum_by-cons, sum_by_push}
use Rattle.vl_ast.specs.declared.designs.Instance.{Instance}
use Rattle.vl_ast.specs.declared.modules.Module.{Module}
use Rattle.vl_ast.specs.declared.modules.ModItem.{ModItem}
use Rattle.vl_ast.specs.Grammar.{IsItemText, IsModuleText, attrs_tokens}
use Rattle.vl_ast.specs.Instances.{BodyPart, OfItem, OfInstance, IsTopText, instance_parts, instance_tokens, item_parts, part_tokens}
use Rattle.vl_ast.specs.Spelling.{joined}
use Rattle.vl_ast.specs.Tokens.{Token, Key, Sign, Identifier}
use Rattle.vl_ast.specs.Grammar.{comma}
use Rattle.vl_read.specs.declared.design.Design.{Design}
use Rattle.vl_read.specs.declared.designer.Scope.TheVariants.{Together}
use Rattle.vl_read.specs.declared.places.Draft.{Draft}
use Rattle.vl_read.specs.Designs.{IsDesignText, items_in, items_of}
use Rattle.vl_read.specs.inner.Designs.{Sketch, finish_design, first_sketch, outside_step, over_next, parse_design, sketch_step}
use Rattle.vl_read.specs.inner.LexemeSteps.{parser_at}
use Rattle.vl_read.specs.inner.Places.{Parser}
use Rattle.vl_read.specs.inner.Places.Place.{Items, Done}
use Rattle.vl_read.specs.inner.Plain.{start, step}
use Rattle.vl_read.specs.inner.Turns.{gather}
use Rattle.vl_read.proofs.Feeds.{run_feed}
use Rattle.vl_read.proofs.Modules.{header, header_read, headed, module_end_read, module_reads, whole_draft}
use Rattle.vl_read.proofs.ItemReader.{item_read}
use Rattle.vl_read.proofs.LinkReader.{Gathers, instance_read, less, next}
use Rattle.vl_read.proofs.Sketches.{lift_feed, together}
use Rattle.vl_read.proofs.TokenReader.{Reads, Writes, writes_as}

-- what is read of a module is read of it in a design
lift : (below : List Module) (instances : List Instance) (p q : Parser) (lexemes : List (List ℕ))
    (tokens : List Token) → Reads p lexemes q tokens
    → Gathers (together below instances p) lexemes (together below instances q) tokens
lift below instances p q lexemes tokens reads =
    record { taken = reads.taken; more = reads.more; writes = reads.writes; whole = reads.whole; fed = lift_feed below instances reads.taken p q reads.fed }

-- the draft with these items, and the room that so many instances leave
abbrev filled : Draft → List ModItem → ℕ → Draft
filled draft items taken = record draft { items = draft.items ++ items; most = draft.most - taken }

abbrev pub HaveLinks : List Instance → Type 0
HaveLinks instances = (i : Instance) → Contains instances i → i.links ≢ []

pub later_links : (i : Instance) (instances : List Instance) → HaveLinks (i ∷ instances) → HaveLinks instances
later_links i instances all j within = all j (Contains-append_right (i ∷ []) instances j within)

pub first_links : (i : Instance) (instances : List Instance) → HaveLinks (i ∷ instances) → i.links ≢ []
first_links i instances all = all i (0, omega arith, refl)

module _ (below : List Module) where
  parts_read : (parts : List BodyPart) (items : List ModItem) (own : List Instance) → AllZip IsItemText items (item_parts parts) → instance_parts parts ≡ map instance_tokens own → HaveLinks own →
      (before : List Instance) (draft : Draft) (tokens : List Token) (lexemes : List (List ℕ))
      → (length draft.items + length items) + length own ≤ draft.most
      → Writes (flat_map part_tokens parts ++ tokens) lexemes →
      Gathers (together below before (parser_at draft Items)) lexemes (together below (before ++ own) (parser_at (filled draft items (length own)) Items)) tokens
  parts_read [] [] [] each same all before draft tokens lexemes room w =
      let left : draft.most ≡ draft.most - 0 = omega arith in
      record {
        taken = [];
        more = lexemes;
        writes = w;
        whole = refl;
        fed = λ k. Some (together below (sym (append-nil before) k) (parser_at (record draft { items = sym (append-nil draft.items) k; most = left k }) Items));
      }
  parts_read [] [] (i ∷ own) each same all before draft tokens lexemes room w = let no : ⊥ = cc in absurd no
  parts_read [] (item ∷ items) own each same all before draft tokens lexemes room w = absurd each
  parts_read (OfItem text ∷ parts) [] own each same all before draft tokens lexemes room w = absurd each
  parts_read (OfItem text ∷ parts) (item ∷ items) own each same all before draft tokens lexemes room w =
      let longer : Draft = record draft { items = draft.items ++ item ∷ [] } in
      let rest : List Token = flat_map part_tokens parts ++ tokens in
      let here : Reads (parser_at draft Items) lexemes (parser_at longer Items) rest =
      item_read item text each.0 draft rest lexemes (omega (arith, room)) (writes_as _ _ lexemes (append_assoc text (flat_map part_tokens parts) tokens) w) in
      next _ (together below before (parser_at longer Items)) _ lexemes rest tokens (lift below before _ _ lexemes rest here)
      (λ l1 w1. subst (λ xs. Gathers (together below before (parser_at longer Items)) l1
      (together below (before ++ own)
      (parser_at (record draft { items = xs; most = draft.most - length own }) Items)) tokens)
      (append_assoc draft.items (item ∷ []) items)
      (parts_read parts items own each.1 same all before longer tokens l1 (omega (arith, room, length-append draft.items (item ∷ []))) w1))
  parts_read (OfInstance text ∷ parts) items [] each same all before draft tokens lexemes room w = let no : ⊥ = cc in absurd no
  parts_read (OfInstance text ∷ parts) items (i ∷ own) each same all before draft tokens lexemes room w =
      let rest : List Token = flat_map part_tokens parts ++ tokens in
      let is : text ≡ instance_tokens i = cc in
      let others : instance_parts parts ≡ map instance_tokens own = cc in
      let here = instance_read below before draft (omega (arith, room)) i (first_links i own all) rest lexemes
      (writes_as _ _ lexemes (append_assoc text (flat_map part_tokens parts) tokens ∙ ap (λ t. t ++ rest) is) w) in
      let left : (draft.most - 1) - length own ≡ draft.most - length (i ∷ own) = omega arith in
      next _ (together below (before ++ i ∷ []) (parser_at (less draft) Items)) _ lexemes rest tokens here
      (λ l1 w1. subst (λ (to : List Instance × ℕ). Gathers
      (together below (before ++ i ∷ []) (parser_at (less draft) Items)) l1
      (together below to.0 (parser_at (record draft { items = draft.items ++ items; most = to.1 }) Items))
      tokens)
      (λ k. (append_assoc before (i ∷ []) own k, left k))
      (parts_read parts items own each others (later_links i own all) (before ++ i ∷ []) (less draft) tokens l1 (omega (arith, room)) w1))

  -- the top, to its end
  top_read : (m : Module) (own : List Instance) (text : List Token) (most : ℕ) (lexemes : List (List ℕ)) → IsTopText m own text → length m.items + length own ≤ most → Writes text lexemes →
      Gathers (together below [] (start most)) lexemes (together below own (parser_at (whole_draft m (most - length own)) Done)) []
  top_read m own text most lexemes is room w =
      let d3 : Draft = headed m.attrs m.name m.ports most in
      let d4 : Draft = whole_draft m (most - length own) in
      let body : List Token = flat_map part_tokens is.parts ++ Key (codes "endmodule") ∷ [] in
      let fits : (0 + length m.items) + length own ≤ most = omega (arith, room) in
      next _ (together below [] (parser_at d3 Items)) _ lexemes body []
      (lift below [] _ _ lexemes body (header_read m.attrs m.name m.ports is.ports most body lexemes is.has_port is.each_port (writes_as _ _ lexemes is.text w)))
      (λ l1 w1. next _ (together below own (parser_at d4 Items)) _ l1 (Key (codes "endmodule") ∷ []) []
      (parts_read is.parts m.items own is.each_item is.each_instance is.has_link [] d3 (Key (codes "endmodule") ∷ []) l1 fits w1)
      (λ l2 w2. lift below own _ _ l2 [] (module_end_read d4 [] l2 w2)))

-- the lexemes of a state that leads to another make of it what those left make of this one
gathered_parse : (from to : Sketch) (lexemes : List (List ℕ)) (tokens : List Token) → (reads : Gathers from lexemes to tokens) → parse_design from lexemes ≡ parse_design to reads.more
gathered_parse from to lexemes tokens reads =
    ap (parse_design from) reads.whole ∙ run_feed sketch_step parse_design (λ p l ls. refl) reads.taken reads.more from ∙ ap (option_and_then (λ q. parse_design q reads.more)) reads.fed

-- behind a module the next begins
next_begins : (below : List Module) (m : Module) (most : ℕ) (lexeme : List ℕ) →
    sketch_step (together below [] (parser_at (whole_draft m most) Done)) lexeme ≡ sketch_step (together (below ++ m ∷ []) [] (start (most - length m.items))) lexeme
unfolding sketch_step outside_step
next_begins below m most lexeme = refl

goes_on : (below : List Module) (m : Module) (most : ℕ) (lexemes : List (List ℕ)) (design : Design)
    → parse_design (together (below ++ m ∷ []) [] (start (most - length m.items))) lexemes ≡ Some design →
    parse_design (together below [] (parser_at (whole_draft m most) Done)) lexemes ≡ Some design
goes_on below m most [] design e = let no : ⊥ = cc in absurd no
goes_on below m most (lexeme ∷ lexemes) design e = ap (option_and_then (λ next. parse_design next lexemes)) (next_begins below m most lexeme) ∙ e

-- how many items they have with one before them
pub items_before : (m : Module) (modules : List Module) → items_of (m ∷ modules) ≡ length m.items + items_of modules
items_before m modules = sum_by-cons (λ (m : Module). length m.items) m modules

modules_read : (modules : List Module) (texts : List (List Token)) → AllZip IsModuleText modules texts → (top : Module) (own : List Instance) (last : List Token) → IsTopText top own last →
    (below : List Module) (most : ℕ) (lexemes : List (List ℕ)) → (items_of modules + length top.items) + length own ≤ most → Writes (flat_map (λ text. text) texts ++ last) lexemes →
    parse_design (together below [] (start most)) lexemes ≡ Some (record { modules = below ++ (modules ++ top ∷ []); instances = own })
modules_read [] [] each top own last is below most lexemes room w =
    let reads = top_read below top own last most lexemes is (omega (arith, room)) w in
    gathered_parse _ _ lexemes [] reads ∙ ap (parse_design (together below own (parser_at (whole_draft top (most - length own)) Done))) reads.writes.each
modules_read [] (text ∷ texts) each top own last is below most lexemes room w = absurd each
modules_read (m ∷ modules) [] each top own last is below most lexemes room w = absurd each
modules_read (m ∷ modules) (text ∷ texts) each top own last is below most lexemes room w =
    let rest : List Token = flat_map (λ text. text) texts ++ last in
    let reads = lift below [] _ _ lexemes rest
    (module_reads m text rest most lexemes each.0 (omega (arith, room, items_before m modules))
    (writes_as _ _ lexemes (append_assoc text (flat_map (λ text. text) texts) last) w)) in
    let others = modules_read modules texts each.1 top own last is (below ++ m ∷ []) (most - length m.items) reads.more (omega (arith, room, items_before m modules)) reads.writes in
    gathered_parse _ _ lexemes rest reads
    ∙ goes_on below m most reads.more _ (others ∙ ap (λ ms. Some (record { modules = ms; instances = own })) (append_assoc below (m ∷ []) (modules ++ top ∷ [])))

-- and with one behind them
pub sum_behind : (modules : List Module) (top : Module) → items_of (modules ++ top ∷ []) ≡ items_of modules + length top.items
sum_behind modules top = sum_by_push (λ (m : Module). length m.items) modules top

pub design_read : (design : Design) (tokens : List Token) (most : ℕ) (lexemes : List (List ℕ))
    → IsDesignText design tokens → items_in design ≤ most → Writes tokens lexemes
    → parse_design (first_sketch Together most) lexemes ≡ Some design
design_read design tokens most lexemes is room w =
    modules_read is.below is.texts is.each_below is.top design.instances is.last is.top_text [] most lexemes
    (omega (arith, room, sum_behind is.below is.top, ap items_of is.parted)) (writes_as _ _ lexemes is.text w)
    ∙ ap (λ ms. Some (record { modules = ms; instances = design.instances })) (sym is.parted)
