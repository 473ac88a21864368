-- Some text spells the wrapper, where some text spells the core.
use Rattle.std.proofs.Common.{◌≡◌, ℕ, ⊎_elim, true, List, [], ◌∷◌, ◌++◌, map, Contains, codes, None, refl, subst, arith}
use Rattle.vl_ast.specs.declared.modules.Attr.{Attr}
use Rattle.vl_ast.specs.declared.modules.Port.{Port}
use Rattle.vl_ast.specs.declared.modules.Module.{Module}
use Rattle.vl_ast.specs.Conditions.{BreaksNone, IsAcyclic, too_wide}
use Rattle.vl_ast.specs.Control.{is_stallable}
use Rattle.vl_ast.specs.Grammar.{Spells}
use Rattle.vl_ast.specs.Header.{attribute_of, input_port, output_port}
use Rattle.vl_ast.specs.Spellable.{IsShortAttr, IsSpellable}
use Rattle.vl_ast.specs.Spelling.{spelling}
use Rattle.math_list.proofs.Elements.{cons-cases, none-in}
use Rattle.st_wrap.specs.declared.columns.Column.{Column}
use Rattle.st_wrap.specs.declared.pace.Counters.{Counters}
use Rattle.st_wrap.specs.Header.{flag}
use Rattle.st_wrap.specs.Names.{AreColumnNames}
use Rattle.st_wrap.specs.inner.Columns.{column_port}
use Rattle.st_wrap.specs.inner.Wrapper.{inputs_of, outputs_of, ports_of, wrapped}
use Rattle.st_wrap.proofs.Shallow.{items-exprs}
use Rattle.st_wrap.proofs.TextFacts.{declared-name, item-exprs}
use Rattle.st_wrap.proofs.NameWords.{all-words}

-- what `sound_modules_spell` says
abbrev pub SoundSpell : Type 0
SoundSpell = (m : Module) → IsAcyclic m → too_wide m ≡ None → IsSpellable m → Spells (spelling m) m

abbrev AllShort : List Attr → Type 0
AllShort [] = Unit {0}
AllShort (attr ∷ attrs) = IsShortAttr attr × AllShort attrs

short-at : (attrs : List Attr) → AllShort attrs → (attr : Attr) → Contains attrs attr → IsShortAttr attr
short-at [] a attr h = absurd (none-in attr h)
short-at (first ∷ attrs) a attr h = ⊎_elim (λ e. subst IsShortAttr e a.0) (λ t. short-at attrs a.1 attr t) (cons-cases first attr attrs h)

abbrev PortsShort : List Port → Type 0
PortsShort [] = Unit {0}
PortsShort (port ∷ ports) = AllShort port.attrs × PortsShort ports

ports-at : (ports : List Port) → PortsShort ports → (port : Port) → Contains ports port → AllShort port.attrs
ports-at [] a port h = absurd (none-in port h)
ports-at (first ∷ ports) a port h = ⊎_elim (λ e. subst (λ (p : Port). AllShort p.attrs) e a.0) (λ t. ports-at ports a.1 port t) (cons-cases first port ports h)

ports-append : (xs ys : List Port) → PortsShort xs → PortsShort ys → PortsShort (xs ++ ys)
ports-append [] ys a b = b
ports-append (x ∷ xs) ys a b = (a.0, ports-append xs ys a.1 b)

cycles-short : IsShortAttr (attribute_of (codes "fx_cycles") 1)
cycles-short = record { name = refl; value = omega arith }

period-short : IsShortAttr (attribute_of (codes "fx_period") 1)
period-short = record { name = refl; value = omega arith }

latency-short : IsShortAttr (attribute_of (codes "fx_latency") 0)
latency-short = record { name = refl; value = omega arith }

inputs-short : (columns : List Column) → PortsShort (map (λ column. input_port (column_port column)) columns)
inputs-short [] = tt
inputs-short (column ∷ columns) = ((period-short, tt), inputs-short columns)

outputs-short : (columns : List Column) → PortsShort (map (λ column. output_port (column_port column)) columns)
outputs-short [] = tt
outputs-short (column ∷ columns) = ((period-short, (latency-short, tt)), outputs-short columns)

module _ (core : Module) (sound : BreaksNone core) (stallable : is_stallable core ≡ true) (names : List (List ℕ))
    (named : AreColumnNames core names) (counters : Counters) (bytes : List ℕ) (spells : Spells bytes core) where
  abbrev inputs : List Column
  inputs = inputs_of core names

  abbrev outputs : List Column
  outputs = outputs_of core names

  all-ports : PortsShort (ports_of (inputs_of core names) (outputs_of core names))
  all-ports = (
    tt,
    (
      tt,
      (
        (period-short, tt),
        ports-append (map (λ column. input_port (column_port column)) inputs)
            (input_port (flag (codes "out_ready")) ∷ output_port (flag (codes "in_ready")) ∷ output_port (flag (codes "out_valid")) ∷ map (λ column. output_port (column_port column)) outputs)
            (inputs-short inputs)
            ((period-short, tt), ((period-short, (latency-short, tt)), ((period-short, (latency-short, tt)), outputs-short outputs))),
      ),
    ),
  )

  spellable : IsSpellable (wrapped core names counters)
  spellable = record {
    name = refl;
    has_port = λ e. absurd (cc e);
    declared = λ d h. all-words core sound stallable names named counters (λ c k. declared-name bytes core spells sound.acyclic.driven sound.acyclic.once c k) d h;
    attrs = λ attr h. short-at (attribute_of (codes "fx_cycles") 1 ∷ []) (cycles-short, tt) attr h;
    port_attrs = λ port c attr h. short-at port.attrs (ports-at (ports_of (inputs_of core names) (outputs_of core names)) all-ports port c) attr h;
    items = λ i h. items-exprs core counters (inputs_of core names) (outputs_of core names) (λ j k. item-exprs bytes core spells j k) i h;
  }

  pub spelled : SoundSpell → BreaksNone (wrapped core names counters) → Spells (spelling (wrapped core names counters)) (wrapped core names counters)
  spelled spell made = spell (wrapped core names counters) made.acyclic made.narrow spellable
