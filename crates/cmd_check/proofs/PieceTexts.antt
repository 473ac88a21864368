-- The pieces of a line are the text that it has.
use Rattle.std.proofs.Common.{◌≡◌, ℕ, suc, ◌+◌, Bool, List, [], ◌∷◌, ◌++◌, codes, take, drop, Option, None, Some, ap, sym, ◌∙◌, refl, arith}
use Rattle.std.specs.Prelude.{ℤ, slice_get}
use Rattle.std.specs.Fmt.{decimal, signed_decimal}
use Rattle.std.specs.List.{flat_map}
use Rattle.std.proofs.Math.Seq.{take-add}
use Rattle.std.proofs.lemmas.List.{append_assoc}
use Rattle.math_list.specs.Numbers.{numbers_from}
use Rattle.fx_type.specs.declared.kind.FxType.{FxType}
use Rattle.dg_model.specs.declared.diagram.Block.{Block}
use Rattle.dg_model.specs.declared.diagram.Diagram.{Diagram}
use Rattle.dg_model.specs.declared.resolved.Resolved.{Resolved}
use Rattle.dg_model.specs.Attributes.{attributes_of}
use Rattle.dg_model.specs.Joined.{joined}
use Rattle.cmd_model.specs.RuleLine.{quoted_byte, quoted_path}
use Rattle.hw_arcs.specs.Latencies.{latency_at}
use Rattle.hw_sched.specs.Slots.{Timing}
use Rattle.cmd_check.specs.CheckText.{begun_block, block_line, front_text, head_text, line_if, named, num_front, num_text, period_text, port_text, ports_text, step_text, type_text}
use Rattle.cmd_check.proofs.Lines.{number_more}

pub named_is : (word digits : List ℕ) (number : ℕ) → digits ≡ decimal number → word ++ digits ≡ named word number
unfolding named
named_is word digits number is = ap (λ (ds : List ℕ). word ++ ds) is

pub some_period : (period : Option ℕ) (own shown : ℕ) → period ≡ Some own → shown ≡ own → named (codes " period ") shown ≡ period_text period
unfolding period_text
some_period period own shown is same = ap (λ (n : ℕ). named (codes " period ") n) same ∙ sym (ap period_text is)

pub no_period : (period : Option ℕ) → period ≡ None → codes " period inf" ≡ period_text period
unfolding period_text
no_period period is = sym (ap period_text is)

pub num_is : (signed : Bool) (width shown : ℕ) (frac : ℤ) (front digits : List ℕ) → front ≡ num_front signed → shown ≡ width → digits ≡ signed_decimal frac
    → ((named front shown ++ codes ",") ++ digits) ++ codes ")" ≡ num_text signed width frac
num_is signed width shown frac front digits front_is width_is digits_is =
    ap (λ (xs : List ℕ). ((named xs shown ++ codes ",") ++ digits) ++ codes ")") front_is
    ∙ ap (λ (n : ℕ). ((named (num_front signed) n ++ codes ",") ++ digits) ++ codes ")") width_is
    ∙ ap (λ (xs : List ℕ). ((named (num_front signed) width ++ codes ",") ++ xs) ++ codes ")") digits_is

pub port_is : (diagram : Diagram) (place port : ℕ) (own : FxType) (width shown : ℕ)
    → own ≡ (attributes_of diagram).type_at place port → width ≡ (attributes_of diagram).width_at place port
    → shown ≡ width
    → type_text own ++ named (codes " ") shown ≡ port_text diagram place port
unfolding port_text
port_is diagram place port own width shown own_is width_is same =
    ap (λ (t : FxType). type_text t ++ named (codes " ") shown) own_is
    ∙ ap (λ (w : ℕ). type_text ((attributes_of diagram).type_at place port) ++ named (codes " ") w) (same ∙ width_is)

-- the next of numbered pieces
pub next_number : (f : ℕ → List ℕ) (from n next : ℕ) → next ≡ from + n → flat_map f (numbers_from from n) ++ f next ≡ flat_map f (numbers_from from (n + 1))
next_number f from n next is =
    let one : n + 1 ≡ suc n = omega arith in
    ap (λ (k : ℕ). flat_map f (numbers_from from n) ++ f k) is ∙ sym (number_more f from n) ∙ sym (ap (λ (k : ℕ). flat_map f (numbers_from from k)) one)

pub begun_is : (path : List ℕ) (period : Option ℕ) (latency : ℕ) → ((codes "block " ++ quoted_path path) ++ period_text period) ++ named (codes " latency ") latency ≡ begun_block path period latency
unfolding begun_block
begun_is path period latency = refl

pub block_is : (diagram : Diagram) (timing : Timing) (place : ℕ) (block : Block) (period : Option ℕ) (latency : ℕ)
    → slice_get diagram.blocks place ≡ Some block → period ≡ (attributes_of diagram).period_at place
    → latency ≡ latency_at timing.lat place
    → (begun_block block.path period latency ++ ports_text diagram place block.outputs) ++ codes "\n" ≡ block_line diagram timing place
unfolding block_line
block_is diagram timing place block period latency at period_is latency_is =
    ap (λ (p : Option ℕ). (begun_block block.path p latency ++ ports_text diagram place block.outputs) ++ codes "\n") period_is
    ∙ ap (λ (l : ℕ). (begun_block block.path ((attributes_of diagram).period_at place) l ++ ports_text diagram place block.outputs) ++ codes "\n") latency_is
    ∙ sym (ap (line_if diagram timing place) at)

abbrev path_if : Option Block → List ℕ
path_if None = []
path_if (Some block) = block.path

pub step_is : (diagram : Diagram) (place : ℕ) (block : Block) → slice_get diagram.blocks place ≡ Some block → codes " " ++ quoted_path block.path ≡ step_text diagram place
unfolding step_text
step_is diagram place block at = ap (λ (path : List ℕ). codes " " ++ quoted_path path) (sym (ap path_if at))

pub head_is : (name : List ℕ) (clocks : ℕ) → ((codes "output " ++ name) ++ named (codes " clocks ") clocks) ++ codes " path" ≡ head_text name clocks
unfolding head_text
head_is name clocks = refl

pub front_is : (plan : Resolved) (cycles multipliers : ℕ) → cycles ≡ plan.cycles → multipliers ≡ plan.multipliers
    → (named (codes "accepted cycles ") cycles ++ named (codes " multipliers ") multipliers) ++ codes "\n" ≡ front_text plan
front_is plan cycles multipliers cycles_is multipliers_is =
    ap (λ (n : ℕ). (named (codes "accepted cycles ") n ++ named (codes " multipliers ") multipliers) ++ codes "\n") cycles_is
    ∙ ap (λ (n : ℕ). (named (codes "accepted cycles ") plan.cycles ++ named (codes " multipliers ") n) ++ codes "\n") multipliers_is

-- ---- paths

pub quoted_append : (xs ys : List ℕ) → flat_map quoted_byte (xs ++ ys) ≡ flat_map quoted_byte xs ++ flat_map quoted_byte ys
quoted_append [] ys = refl
quoted_append (x ∷ xs) ys = ap (λ (rest : List ℕ). quoted_byte x ++ rest) (quoted_append xs ys) ∙ sym (append_assoc (quoted_byte x) (flat_map quoted_byte xs) (flat_map quoted_byte ys))

-- a front of what is left
pub quoted_more : (name rest : List ℕ) (done count : ℕ) → rest ≡ drop done name
    → flat_map quoted_byte (take done name) ++ flat_map quoted_byte (take count rest)
    ≡ flat_map quoted_byte (take (done + count) name)
quoted_more name rest done count is =
    ap (λ (xs : List ℕ). flat_map quoted_byte (take done name) ++ flat_map quoted_byte (take count xs)) is
    ∙ sym (quoted_append (take done name) (take count (drop done name)))
    ∙ ap (flat_map quoted_byte) (sym (take-add done count name))

-- the path of the System around, a stroke and a name
pub quoted_within : (path around name : List ℕ) → path ≡ joined (Some around) name → (flat_map quoted_byte around ++ codes "/") ++ flat_map quoted_byte name ≡ flat_map quoted_byte path
quoted_within path around name is =
    sym (quoted_append (around ++ codes "/") name ∙ ap (λ (xs : List ℕ). xs ++ flat_map quoted_byte name) (quoted_append around (codes "/"))) ∙ ap (flat_map quoted_byte) (sym is)
