-- What the words of a command say, and what its causes say of the bytes of its first file.
use Rattle.std.proofs.Common.{◌≡◌, ◌⊎◌, ⊎_elim, inl, inr, ap, ◌∙◌, Bool, true, false, if◌then◌else◌, ◌==◌, ℕ, List, codes, [], ◌∷◌, length, map, Option, None, Some, refl, subst, sym, arith}
use Rattle.std.specs.Prelude.{IfSome, bytes_eq}
use Rattle.std.specs.Option.{option_map}
use Rattle.std.proofs.lemmas.Slice.Eq.{bytes_eq-Decides}
use Rattle.dg_model.specs.declared.diagram.Diagram.{Diagram}
use Rattle.dg_model.specs.declared.fault.RuleFault.{RuleFault}
use Rattle.mdl_text.specs.declared.tree.Tree.{Tree}
use Rattle.mdl_text.specs.Stands.{Stands}
use Rattle.fx_tables.specs.declared.table.TableCause.{TableCause}
use Rattle.vl_ast.specs.declared.modules.Module.{Module}
use Rattle.cmd_explore.specs.RangeWord.{range_of}
use Rattle.hw_explore.specs.declared.range.Range.{Range}
use Rattle.mdl_values.specs.Words.{value_beside}
use Rattle.fx_top.specs.declared.task.Task.{Task}
use Rattle.fx_top.specs.declared.task.Task.TheVariants as task
use Rattle.fx_top.specs.Command.{Asked, Command, OfFiles, Generate, Replay, Simulate, Explore, Check, Stream, asked_of, explored, model_of, plan_word, verilog_of, first_of}
use Rattle.fx_top.specs.inner.FileCommands.{over_files}
use Rattle.fx_top.specs.inner.Tasks.{IsTask}
use Rattle.cmd_model.specs.Model.{IsModelOf, IsBrokenModel, IsAccepted}
use Rattle.fx_top.specs.Outcome.{Yields, IsBadFor}
use Rattle.fx_top.specs.Output.{IsBadTable}
use Rattle.cmd_replay.specs.Replayed.{IsSoundText}

-- ---- tasks

-- the word of the task that hangs on a range asks for it
pub explored-asked : (verb first second : List ℕ) → bytes_eq verb (codes "explore") ≡ true → (range : Option Range)
    → range ≡ range_of second → explored first range ≡ asked_of (verb ∷ first ∷ second ∷ [])
explored-asked verb first second named range is =
    ap (explored first) is ∙ ap (λ (word : List ℕ). asked_of (word ∷ first ∷ second ∷ [])) (sym ((bytes_eq-Decides verb (codes "explore")).0 named))

-- the tasks that hang on none, by their words
abbrev pub plain_tasks : List (List ℕ × Task)
plain_tasks =
    (codes "generate", task.Generate) ∷ (codes "replay", task.Replay) ∷ (codes "simulate", task.Simulate)
    ∷ (codes "check", task.Check) ∷ (codes "stream", task.Stream) ∷ []

abbrev plain : Bool → Bool → Bool → Bool → Bool → Option Task
plain generate replay simulate check stream =
    if generate then Some task.Generate else (if replay then Some task.Replay else (if simulate then Some task.Simulate
    else (if check then Some task.Check else (if stream then Some task.Stream else None))))

abbrev asked : List ℕ → List ℕ → Bool → Bool → Bool → Bool → Bool → Bool → Option Asked
asked first second generate replay simulate explore check stream =
    if generate then Some (OfFiles (Generate first (plan_word second))) else (if replay then Some (OfFiles (Replay first second))
    else (if simulate then Some (OfFiles (Simulate first second)) else (if explore then explored first (range_of second)
    else (if check then Some (OfFiles (Check first (plan_word second))) else (if stream then Some (OfFiles (Stream first (plan_word second))) else None)))))

same-asked : (first second : List ℕ) (generate replay simulate check stream : Bool)
    → option_map (over_files first second) (plain generate replay simulate check stream) ≡ asked first second generate replay simulate false check stream
same-asked first second true replay simulate check stream = refl
same-asked first second false true simulate check stream = refl
same-asked first second false false true check stream = refl
same-asked first second false false false true stream = refl
same-asked first second false false false false true = refl
same-asked first second false false false false false = refl

pub plain-asked : (verb first second : List ℕ) → bytes_eq verb (codes "explore") ≡ false → (own : Option Task)
    → own ≡ value_beside plain_tasks verb → option_map (over_files first second) own
    ≡ asked_of (verb ∷ first ∷ second ∷ [])
plain-asked verb first second other own is =
    let named : List ℕ → Bool = λ word. bytes_eq verb word in
    ap (option_map (over_files first second)) is
    ∙ same-asked first second (named (codes "generate")) (named (codes "replay")) (named (codes "simulate")) (named (codes "check")) (named (codes "stream"))
    ∙ ap (λ (explore : Bool). asked first second (named (codes "generate")) (named (codes "replay")) (named (codes "simulate")) explore (named (codes "check")) (named (codes "stream"))) (sym other)

plain-is : (generate replay simulate check stream : Bool) → IfSome (plain generate replay simulate check stream) IsTask
plain-is true replay simulate check stream = tt
plain-is false true simulate check stream = tt
plain-is false false true check stream = tt
plain-is false false false true stream = tt
plain-is false false false false true = tt
plain-is false false false false false = tt

pub plain-task : (verb : List ℕ) (own : Option Task) → own ≡ value_beside plain_tasks verb → IfSome own IsTask
plain-task verb own is =
    let named : List ℕ → Bool = λ word. bytes_eq verb word in
    subst (λ (found : Option Task). IfSome found IsTask) (sym is)
    (plain-is (named (codes "generate")) (named (codes "replay")) (named (codes "simulate"))
    (named (codes "check")) (named (codes "stream")))

-- so many words ask for nothing
pub none_asked : {W : Type 0} (bytes : W → List ℕ) (words : List W) → (length words ≡ 2 → ⊥) → (length words ≡ 3 → ⊥) → None ≡ asked_of (map bytes words)
none_asked bytes [] two three = refl
none_asked bytes (one ∷ []) two three = refl
none_asked bytes (one ∷ other ∷ []) two three = absurd (two refl)
none_asked bytes (one ∷ other ∷ more ∷ []) two three = absurd (three refl)
none_asked bytes (one ∷ other ∷ more ∷ most ∷ words) two three = refl

-- two words, three and more
pub two_asked : {W : Type 0} (bytes : W → List ℕ) (words more others : List W) (verb first : W) (one other : List ℕ)
    → words ≡ verb ∷ more → more ≡ first ∷ others → length others ≡ 0 → one ≡ bytes verb → other ≡ bytes first
    → asked_of (one ∷ other ∷ []) ≡ asked_of (map bytes words)
two_asked {W} bytes words more [] verb first one other words_are more_are none one_is other_is =
    ap (λ (word : List ℕ). asked_of (word ∷ other ∷ [])) one_is ∙ ap (λ (word : List ℕ). asked_of (bytes verb ∷ word ∷ [])) other_is
    ∙ sym (ap (λ (own : List W). asked_of (map bytes own)) (words_are ∙ ap (λ (rest : List W). verb ∷ rest) more_are))
two_asked bytes words more (next ∷ others) verb first one other words_are more_are none one_is other_is = absurd (omega (arith, none))

pub three_asked : {W : Type 0} (bytes : W → List ℕ) (words more others rest : List W) (verb first second : W)
    (one other third : List ℕ) → words ≡ verb ∷ more → more ≡ first ∷ others → others ≡ second ∷ rest
    → length rest ≡ 0
    → one ≡ bytes verb → other ≡ bytes first → third ≡ bytes second → asked_of (one ∷ other ∷ third ∷ []) ≡ asked_of (map bytes words)
three_asked {W} bytes words more others [] verb first second one other third words_are more_are others_are none one_is other_is third_is =
    ap (λ (word : List ℕ). asked_of (word ∷ other ∷ third ∷ [])) one_is ∙ ap (λ (word : List ℕ). asked_of (bytes verb ∷ word ∷ third ∷ [])) other_is
    ∙ ap (λ (word : List ℕ). asked_of (bytes verb ∷ bytes first ∷ word ∷ [])) third_is
    ∙ sym (ap (λ (own : List W). asked_of (map bytes own)) (words_are ∙ ap (λ (left : List W). verb ∷ left) (more_are ∙ ap (λ (left : List W). first ∷ left) others_are)))
three_asked bytes words more others (next ∷ rest) verb first second one other third words_are more_are others_are none one_is other_is third_is = absurd (omega (arith, none))

pub more_asked : {W : Type 0} (bytes : W → List ℕ) (words more others rest : List W) (verb first second : W)
    → words ≡ verb ∷ more → more ≡ first ∷ others → others ≡ second ∷ rest → (length rest == 0) ≡ false
    → None ≡ asked_of (map bytes words)
more_asked bytes words more others [] verb first second words_are more_are others_are some = absurd (cc some)
more_asked {W} bytes words more others (next ∷ rest) verb first second words_are more_are others_are some =
    sym (ap (λ (own : List W). asked_of (map bytes own)) (words_are ∙ ap (λ (left : List W). verb ∷ left) (more_are ∙ ap (λ (left : List W). first ∷ left) others_are)))

-- the first file of a command is a model, or else a Verilog text
abbrev ReadsModel : Command → Type 0
ReadsModel command = (model_of command ≡ Some (first_of command)) × (verilog_of command ≡ None)

abbrev ReadsVerilog : Command → Type 0
ReadsVerilog command = (model_of command ≡ None) × (verilog_of command ≡ Some (first_of command))

reads-first : (command : Command) → ReadsModel command ⊎ ReadsVerilog command
reads-first (Generate model plan) = inl (refl, refl)
reads-first (Replay verilog stimulus) = inr (refl, refl)
reads-first (Simulate model stimulus) = inl (refl, refl)
reads-first (Explore model range) = inl (refl, refl)
reads-first (Check model plan) = inl (refl, refl)
reads-first (Stream model plan) = inl (refl, refl)

of-model : (command : Command) (file : List ℕ) → model_of command ≡ Some file → ReadsModel command
of-model command file is = ⊎_elim (λ (read : ReadsModel command). read) (λ (read : ReadsVerilog command). let none = read.0 in absurd (cc (is, none))) (reads-first command)

pub first-model : (command : Command) (file : List ℕ) → model_of command ≡ Some file → file ≡ first_of command
first-model command file is = let own = (of-model command file is).0 in cc (is, own)

pub first-verilog : (command : Command) (file : List ℕ) → verilog_of command ≡ Some file → file ≡ first_of command
first-verilog command file is = ⊎_elim (λ (read : ReadsModel command). let none = read.1 in absurd (cc (is, none)))
    (λ (read : ReadsVerilog command). let own = read.1 in cc (is, own)) (reads-first command)

-- a command that reads a model reads no Verilog text
no-verilog : (command : Command) (model : List ℕ) → model_of command ≡ Some model → verilog_of command ≡ None
no-verilog command model is = (of-model command model is).1

pub model-alone : (command : Command) (model verilog : List ℕ) → model_of command ≡ Some model → verilog_of command ≡ Some verilog → ⊥
model-alone command model verilog is other = let none = no-verilog command model is in absurd (cc (none, other))

-- what bytes are those of the first file, by the Verilog text that is read: of a sound module, or a model as this says
abbrev pub Serves : (List ℕ → Type 0) → Option (List ℕ) → List ℕ → Type 0
Serves OfModel None bytes = OfModel bytes
Serves OfModel (Some verilog) bytes = (made : Module) × IsSoundText bytes made

module _ (OfModel : List ℕ → Type 0) (command : Command) (bytes : List ℕ) where
  serves-model : (model : List ℕ) → model_of command ≡ Some model → Serves OfModel (verilog_of command) bytes → OfModel bytes
  serves-model model is = subst (λ (verilog : Option (List ℕ)). Serves OfModel verilog bytes → OfModel bytes) (sym (no-verilog command model is)) (λ served. served)

  model-serves : (model : List ℕ) → model_of command ≡ Some model → OfModel bytes → Serves OfModel (verilog_of command) bytes
  model-serves model is = subst (λ (verilog : Option (List ℕ)). OfModel bytes → Serves OfModel verilog bytes) (sym (no-verilog command model is)) (λ served. served)

  pub serves-sound : (verilog : List ℕ) → verilog_of command ≡ Some verilog → Serves OfModel (verilog_of command) bytes → (made : Module) × IsSoundText bytes made
  serves-sound verilog is = subst (λ (read : Option (List ℕ)). Serves OfModel read bytes → (made : Module) × IsSoundText bytes made) (sym is) (λ served. served)

abbrev pub HasModel : List ℕ → Type 0
HasModel bytes = (diagram : Diagram) × IsModelOf bytes diagram

-- the bytes of the first file are such that the command has an output
abbrev pub IsGood : Command → List ℕ → Type 0
IsGood command = Serves HasModel (verilog_of command)

-- so are they where the stimulus or the plan has a bad line
pub table-good : (command : Command) (first stimulus : List ℕ) (line : ℕ) (cause : TableCause) → IsBadTable command first stimulus line cause → IsGood command first
table-good (Generate model plan) first stimulus line cause bad = (bad.diagram, bad.accepted)
table-good (Replay verilog text) first stimulus line cause bad = (bad.made, bad.spelled)
table-good (Simulate model text) first stimulus line cause bad = (bad.diagram, bad.accepted)
table-good (Explore model range) first stimulus line cause bad = absurd bad
table-good (Check model plan) first stimulus line cause bad = (bad.diagram, bad.accepted)
table-good (Stream model plan) first stimulus line cause bad = (bad.diagram, bad.accepted)

-- and where those of a model
pub model-good : (command : Command) (model bytes : List ℕ) (diagram : Diagram) → model_of command ≡ Some model → IsModelOf bytes diagram → IsGood command bytes
model-good command model bytes diagram is accepted = model-serves HasModel command bytes model is (diagram, accepted)

pub good-diagram : (command : Command) (model bytes : List ℕ) → model_of command ≡ Some model → IsGood command bytes → (diagram : Diagram) × IsModelOf bytes diagram
good-diagram command model bytes is good = serves-model HasModel command bytes model is good

pub good-tree : (command : Command) (model bytes : List ℕ) → model_of command ≡ Some model → IsGood command bytes → (tree : Tree) × Stands bytes tree
good-tree command model bytes is good = let own = good-diagram command model bytes is good in (own.1.tree, own.1.stands)

pub good-sound : (command : Command) (verilog bytes : List ℕ) → verilog_of command ≡ Some verilog → IsGood command bytes → (made : Module) × IsSoundText bytes made
good-sound command verilog bytes is good = serves-sound HasModel command bytes verilog is good

-- they are such that it tells no fault of them
abbrev pub IsFit : Command → List ℕ → Type 0
IsFit command = Serves IsAccepted (verilog_of command)

pub fit-tree : (command : Command) (model bytes : List ℕ) → model_of command ≡ Some model → IsFit command bytes → (tree : Tree) × Stands bytes tree
fit-tree command model bytes is fit = let accepted = serves-model IsAccepted command bytes model is fit in (accepted.tree, accepted.stands)

pub fit-kept : (command : Command) (model bytes : List ℕ) (fault : RuleFault) (paths : List (List ℕ)) → model_of command ≡ Some model → IsFit command bytes → IsBrokenModel bytes fault paths → ⊥
fit-kept command model bytes fault paths is fit broken = let accepted = serves-model IsAccepted command bytes model is fit in accepted.kept fault paths broken

pub fit-sound : (command : Command) (verilog bytes : List ℕ) → verilog_of command ≡ Some verilog → IsFit command bytes → (made : Module) × IsSoundText bytes made
fit-sound command verilog bytes is fit = serves-sound IsAccepted command bytes verilog is fit

-- a model that keeps the rules is fit
pub accepted-fit : (command : Command) (model bytes : List ℕ) → model_of command ≡ Some model → IsAccepted bytes → IsFit command bytes
accepted-fit command model bytes is accepted = model-serves IsAccepted command bytes model is accepted

pub bad-fit : (command : Command) (bytes numbers : List ℕ) → IsBadFor command bytes numbers → IsFit command bytes
bad-fit (Generate model plan) bytes numbers bad = bad.accepted
bad-fit (Replay verilog stimulus) bytes numbers bad = (bad.1.1.made, bad.1.1.spelled)
bad-fit (Simulate model stimulus) bytes numbers bad = bad.accepted
bad-fit (Explore model range) bytes numbers bad = absurd bad
bad-fit (Check model plan) bytes numbers bad = bad.accepted
bad-fit (Stream model plan) bytes numbers bad = bad.accepted

pub own-first : (own : ℕ) → Yields own (3 ∷ 9 ∷ []) own
own-first own = (0, omega arith, refl)
