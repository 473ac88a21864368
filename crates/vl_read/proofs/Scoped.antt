-- The texts of a scope are what is read by it.
use Rattle.std.proofs.Common.{◌≡◌, ℕ, ◌+◌, ◌≤◌, arith, List, [], ◌∷◌, ◌++◌, length, Option, Some, None, refl, sym, ◌∙◌, ap, subst, option_and_then, option_map}
use Rattle.std.specs.Prelude.{Err}
use Rattle.vl_ast.specs.declared.modules.Module.{Module}
use Rattle.vl_ast.specs.Grammar.{Spells, most_items}
use Rattle.vl_ast.specs.Tokens.{Key}
use Rattle.vl_read.specs.declared.design.Design.{Design}
use Rattle.vl_read.specs.declared.designer.Scope.{Scope}
use Rattle.vl_read.specs.declared.fault.VlSyntax.{VlSyntax}
use Rattle.vl_read.specs.declared.fault.VlSyntax.TheVariants.{Syntax, OutOfMemory}
use Rattle.vl_read.specs.Prefix.{IfSyntax}
use Rattle.vl_read.specs.declared.designer.Scope.TheVariants.{Alone, Together}
use Rattle.vl_read.specs.declared.scan.Mode.{Mode}
use Rattle.vl_read.specs.declared.scan.Mode.TheVariants.{Between}
use Rattle.vl_read.specs.Designs.{SpellsDesign, items_in}
use Rattle.vl_read.specs.inner.Designs.{Sketch, design_reading, design_with, first_sketch, parse_design}
use Rattle.vl_read.specs.inner.Lexemes.{last_lexemes, lexemes_from}
use Rattle.vl_read.specs.inner.Places.{Parser}
use Rattle.vl_read.specs.inner.Plain.{parse, start}
use Rattle.vl_read.specs.inner.Scopes.{IsNoText, IsTextIn}
use Rattle.vl_read.specs.inner.Turns.{IsBeyond, ahead, gather}
use Rattle.vl_read.proofs.Complete.{complete}
use Rattle.vl_read.proofs.Endings.{end_bytes, end_divided, ended}
use Rattle.vl_read.proofs.EndedDesigns.{CanEndSo, design_ended}
use Rattle.vl_read.proofs.KindSound.{then_some}
use Rattle.vl_read.proofs.LexemeLayout.{laid}
use Rattle.vl_read.proofs.Lexemes.{AreLexemes, after_none, lays_read}
use Rattle.vl_read.proofs.DesignReader.{design_read}
use Rattle.vl_read.proofs.SafeDesigns.{design_safe}
use Rattle.vl_read.proofs.Sketches.{alone, alone_gather, alone_parse}
use Rattle.vl_read.proofs.Sound.{sound}
use Rattle.vl_read.proofs.SoundDesigns.{mapped}
use Rattle.vl_read.proofs.Spells.{spelled}
use Rattle.vl_read.proofs.WrittenDesigns.{design_written}

-- ---- what is read is spelled

pub module_found : (bytes : List ℕ) (design : Design) → design_reading Alone most_items bytes ≡ Some design
    → (m : Module) × (design_with (alone (start most_items)) m ≡ design) × Spells bytes m
    × (length m.items ≤ most_items)
module_found bytes design e =
    let first = then_some (lexemes_from Between [] bytes) (parse_design (alone (start most_items))) design e in
    let found = mapped (design_with (alone (start most_items))) (parse (start most_items) first.0) design (sym (alone_parse first.0 (start most_items)) ∙ first.2) in
    let parsed = sound most_items first.0 found.0 found.1 in
    (found.0, found.2, spelled bytes first.0 parsed.0 found.0 first.1 (record { each = parsed.2 }) parsed.1, parsed.3)

pub design_found : (bytes : List ℕ) (design : Design) → design_reading Together most_items bytes ≡ Some design → SpellsDesign bytes design × (items_in design ≤ most_items)
design_found bytes design e =
    let first = then_some (lexemes_from Between [] bytes) (parse_design (first_sketch Together most_items)) design e in
    let written = design_written most_items first.0 design first.2 in (
      record {
        tokens = written.0;
        grammar = written.1.0;
        layout = laid bytes first.0 written.0 (Key []) first.1 (record { each = written.2 }) (design_safe design written.0 written.1.0);
      },
      written.1.1,
    )

pub text_found : (scope : Scope) (bytes : List ℕ) (design : Design) → design_reading scope most_items bytes ≡ Some design → IsTextIn scope bytes
text_found Alone bytes design e = let found = module_found bytes design e in (found.0, found.2, found.3)
text_found Together bytes design e = let found = design_found bytes design e in (design, found.0, found.1)

-- ---- what is spelled is read

alone_reading : (bytes : List ℕ) (m : Module)
    → option_and_then (parse (start most_items)) (lexemes_from Between [] bytes) ≡ Some m
    → design_reading Alone most_items bytes ≡ Some (design_with (alone (start most_items)) m)
alone_reading bytes m e =
    let first = then_some (lexemes_from Between [] bytes) (parse (start most_items)) m e in
    ap (option_and_then (parse_design (alone (start most_items)))) first.1 ∙ alone_parse first.0 (start most_items) ∙ ap (option_map (design_with (alone (start most_items)))) first.2

design_complete : (bytes : List ℕ) (design : Design) (most : ℕ) → SpellsDesign bytes design → items_in design ≤ most → design_reading Together most bytes ≡ Some design
design_complete bytes design most spells few =
    let lexed : AreLexemes spells.tokens bytes Between [] = lays_read spells.tokens bytes _ Between [] (Key []) after_none spells.layout (design_safe design spells.tokens spells.grammar) in
    ap (option_and_then (parse_design (first_sketch Together most))) lexed.same ∙ design_read design spells.tokens most lexed.lexemes spells.grammar few (record { each = lexed.writes })

pub one_design : (bytes : List ℕ) (one other : Design) → SpellsDesign bytes one → SpellsDesign bytes other → one ≡ other
one_design bytes one other first second =
    let most : ℕ = items_in one + items_in other in
    let e : Some one ≡ Some other = sym (design_complete bytes one most first (omega arith)) ∙ design_complete bytes other most second (omega arith) in
    cc

pub text_read : (scope : Scope) (bytes : List ℕ) → IsTextIn scope bytes → (design : Design) × (design_reading scope most_items bytes ≡ Some design)
text_read Alone bytes (m, spells, few) = (design_with (alone (start most_items)) m, alone_reading bytes m (complete bytes m most_items spells few))
text_read Together bytes (design, spells, few) = (design, design_complete bytes design most_items spells few)

-- ---- and what was read of a text can be ended

-- bytes that make a design of what was read
abbrev EndsBy : Sketch → Mode → Type 0
EndsBy s mode = (rest : List ℕ) × (design : Design) × (ahead s mode [] rest ≡ Some design)

alone_ends : (lexemes : List (List ℕ)) (q : Parser) (mode : Mode) → gather (alone (start most_items)) lexemes ≡ Some (alone q) → IsBeyond mode → EndsBy (alone q) mode
alone_ends lexemes q mode e beyond =
    let fed = alone_gather lexemes (start most_items) (alone q) e in
    let same : q ≡ fed.0 = ap (λ (r : Sketch). r.parser) fed.1 in
    let end = ended most_items lexemes fed.0 fed.2 in (
      end_bytes mode end.0,
      design_with (alone fed.0) end.1,
      ap (option_and_then (parse_design (alone q))) (end_divided mode end.0 beyond end.2) ∙ alone_parse end.0 q ∙ ap (λ (r : Parser). option_map (design_with (alone r)) (parse r end.0)) same
          ∙ ap (option_map (design_with (alone fed.0))) end.3,
    )

pub text_ends : (scope : Scope) (lexemes : List (List ℕ)) (s : Sketch) (mode : Mode) → gather (first_sketch scope most_items) lexemes ≡ Some s → IsBeyond mode → EndsBy s mode
text_ends Alone lexemes s mode e beyond =
    let fed = alone_gather lexemes (start most_items) s e in
    subst (λ (r : Sketch). EndsBy r mode) (sym fed.1) (alone_ends lexemes fed.0 mode (e ∙ ap Some fed.1) beyond)
text_ends Together lexemes s mode e beyond =
    let end : CanEndSo s = design_ended most_items lexemes s e in
    (end_bytes mode end.more, end.whole, ap (option_and_then (parse_design s)) (end_divided mode end.more beyond end.lexemes) ∙ end.same)

-- a module that is read alone stands in no design
pub alone_state : (scope : Scope) (lexemes : List (List ℕ)) (s : Sketch) → scope ≡ Alone → gather (first_sketch scope most_items) lexemes ≡ Some s → s ≡ alone s.parser
alone_state scope lexemes s is e =
    let fed = alone_gather lexemes (start most_items) s (subst (λ (r : Scope). gather (first_sketch r most_items) lexemes ≡ Some s) is e) in
    fed.1 ∙ ap alone (sym (ap (λ (r : Sketch). r.parser) fed.1))

-- ---- what the last lexemes make of a module that is read alone

alone_ahead : (s : Sketch) (p : Parser) (mode : Mode) → s ≡ alone p → ahead s mode [] [] ≡ option_map (design_with (alone p)) (option_and_then (parse p) (last_lexemes mode []))
alone_ahead s p mode is = ap (λ (r : Sketch). ahead r mode [] []) is ∙ of (last_lexemes mode [])
  where
    of : (o : Option (List (List ℕ))) → option_and_then (parse_design (alone p)) o ≡ option_map (design_with (alone p)) (option_and_then (parse p) o)
    of None = refl
    of (Some lexemes) = alone_parse lexemes p

pub alone_found : (bytes : List ℕ) (s : Sketch) (p : Parser) (mode : Mode) (m : Module)
    → design_reading Alone most_items bytes ≡ ahead s mode [] [] → s ≡ alone p
    → Some m ≡ option_and_then (parse p) (last_lexemes mode []) →
    Spells bytes m × (length m.items ≤ most_items)
alone_found bytes s p mode m reads is some =
    let found = module_found bytes (design_with (alone p) m) (reads ∙ alone_ahead s p mode is ∙ ap (option_map (design_with (alone p))) (sym some)) in
    let modules : found.0 ∷ [] ≡ m ∷ [] = ap (λ (d : Design). d.modules) found.1 in
    let same : found.0 ≡ m = cc in
    subst (λ n. Spells bytes n × (length n.items ≤ most_items)) same (found.2, found.3)

pub alone_none : (s : Sketch) (p : Parser) (mode : Mode) → s ≡ alone p → None ≡ option_and_then (parse p) (last_lexemes mode []) → ahead s mode [] [] ≡ None
alone_none s p mode is none = alone_ahead s p mode is ∙ ap (option_map (design_with (alone p))) (sym none)

-- where nothing is read, the bytes are no text
pub none_read : (scope : Scope) (bytes : List ℕ) → design_reading scope most_items bytes ≡ None → IsNoText scope bytes
none_read scope bytes none text =
    let read = text_read scope bytes text in
    let both : None ≡ Some read.0 = sym none ∙ read.1 in
    absurd cc

-- a fault in the text says of one answer what it says of another
pub syntax_mapped : (A B : Type 0) (P Q : ℕ → Type 0) (fault : VlSyntax) → ((line : ℕ) → P line → Q line) → IfSyntax {A = A} (Err fault) P → IfSyntax {A = B} (Err fault) Q
syntax_mapped A B P Q (Syntax line) says h = says line h
syntax_mapped A B P Q OutOfMemory says h = tt
