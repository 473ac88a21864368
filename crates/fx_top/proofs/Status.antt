-- What a command's cause says of its status.
use Rattle.std.proofs.Common.{◌≡◌, ⊎_elim, inl, inr, ℕ, List, [], ◌∷◌, Some, refl, ap, sym, ◌∙◌, subst, arith}
use Rattle.mdl_text.specs.declared.tree.Tree.{Tree}
use Rattle.mdl_text.specs.Stands.{Stands}
use Rattle.fx_tables.specs.declared.table.TableCause.{TableCause}
use Rattle.vl_ast.specs.declared.modules.Module.{Module}
use Rattle.vl_ast.specs.Conditions.{Fault, IsFirstFault}
use Rattle.vl_ast.specs.Grammar.{Spells}
use Rattle.vl_check.specs.declared.fault.VlFault.{VlFault}
use Rattle.fx_top.specs.declared.answer.Answer.{Answer}
use Rattle.fx_top.specs.declared.answer.Answer.TheVariants.{Done, OutOfMemory, Usage, CannotRead, CannotWrite, NotMdl, BadTable, BreaksRule, NotVerilog, Broken, BadInstance, TooLong}
use Rattle.fx_top.specs.Answer.{status_of}
use Rattle.fx_top.specs.Call.{Files, Stream, Trouble, Absent, Overlong, first_trouble}
use Rattle.fx_top.specs.Cause.{AreFetched, HasNoTree, HasBrokenRule, HasBrokenPlan, HasBrokenPorts, HasBadLine, HasNoVerilog, BreaksCondition}
use Rattle.fx_top.specs.Caused.{HasCause, HasWritten, IsCarriedOut}
use Rattle.fx_top.specs.Command.{Command, PlanWord, Generate, Replay, Simulate, Explore, Check, Stream as StreamOf, OfFiles, asked_of, model_of, verilog_of, plan_of, table_of, first_of, files_of}
use Rattle.cmd_design.specs.Design.{IsBadPlan, TellsPlanRule}
use Rattle.cmd_model.specs.Model.{IsNoText, IsModelOf, IsBrokenModel, IsWithoutDiagram}
use Rattle.cmd_generate.specs.Generated.{IsWithoutDesign}
use Rattle.fx_top.specs.Outcome.{Yields, Tells, TellsPlan, IfCommand, IsBadFor, IsDue, CanBeDone, IsComplete}
use Rattle.fx_top.specs.Output.{IsOutput}
use Rattle.cmd_replay.specs.Replayed.{HasFault, IsNoVerilog, IsSoundText, fault_for}
use Rattle.cmd_simulate.specs.Simulating.{fault_in}
use Rattle.cmd_generate.specs.Streamed.{IsWithoutStream}
use Rattle.cmd_replay.proofs.NoResponse.{sound-first}
use Rattle.fx_top.proofs.Commands.{IsFit, IsGood, accepted-fit, bad-fit, first-model, first-verilog, fit-kept, fit-sound, fit-tree, good-diagram, good-sound, good-tree, model-alone, model-good}
use Rattle.fx_top.proofs.CarriedOut.{carried}
use Rattle.fx_top.proofs.Commands.{own-first, table-good}
use Rattle.fx_top.proofs.ShelfFacts.{HasDesign, check-design, design-good, design-planned, design-told, fetched-told, lines-kept, no-trouble, none-broken, reads-plan, rules-kept, stream-design}
use Rattle.fx_top.proofs.ShelfFacts.{told-is, verilog-design}
use Rattle.fx_top.proofs.Unsteady.{designable, ports-good, ports-kept, ports-model, ports-planned, unstreamed}

module _ (files : Files) (out : Stream) (unique : (bytes : List ℕ) (one other : Tree) → Stands bytes one → Stands bytes other → one ≡ other)
    (one_module : (bytes : List ℕ) (one other : Module) → Spells bytes one → Spells bytes other → one ≡ other) where
  fetched-whole : (command : Command) (trouble : Trouble) → AreFetched files command → first_trouble files.held (files_of command) ≡ Some trouble → ⊥
  fetched-whole command trouble all is = let none = no-trouble files.held (files_of command) all in absurd (cc (none, is))

  -- ---- what an output says of the first file

  written-good : (command : Command) (text bytes : List ℕ) → IsOutput command files.held text → Tells files (first_of command) bytes → IsGood command bytes
  written-good (Generate model plan) text bytes output tells = design-good files model plan (verilog-design output) bytes tells
  written-good (Replay verilog stimulus) text bytes output tells =
      (output.made.made, subst (λ (b : List ℕ). IsSoundText b output.made.made) (sym (told-is files verilog bytes output.first_bytes output.fetched tells)) output.made.spelled)
  written-good (Simulate model stimulus) text bytes output tells =
      (output.made.diagram, subst (λ (b : List ℕ). IsModelOf b output.made.diagram) (sym (told-is files model bytes output.first_bytes output.fetched tells)) output.made.accepted)
  written-good (Explore model range) text bytes output tells =
      (output.1.1.diagram, subst (λ (b : List ℕ). IsModelOf b output.1.1.diagram) (sym (told-is files model bytes output.0 output.1.0 tells)) output.1.1.accepted)
  written-good (Check model plan) text bytes output tells = design-good files model plan (check-design output) bytes tells
  written-good (StreamOf model plan) text bytes output tells = design-good files model plan (stream-design output) bytes tells

  bad-good : (command : Command) (bytes file : List ℕ) (line : ℕ) (cause : TableCause) → Tells files (first_of command) bytes → HasBadLine files command file line cause → IsGood command bytes
  bad-good command bytes file line cause tells why =
      subst (IsGood command) (sym (told-is files (first_of command) bytes why.first why.first_fetched tells)) (table-good command why.first why.table line cause why.bad)

  -- no bytes spell a sound module and one that isn't
  not-sound : (bytes : List ℕ) (made : Module) (condition : Fault) → IsSoundText bytes made → HasFault bytes condition → ⊥
  not-sound bytes made condition sound has =
      sound-first made condition sound.sound (subst (λ (m : Module). IsFirstFault m condition) (one_module bytes has.made made has.spells sound.spells) has.first)

  -- ---- what a fault says of the told bytes of the first file

  -- they are no text of MDL
  told-none : (command : Command) (bytes file : List ℕ) (line : ℕ) → Tells files (first_of command) bytes → HasNoTree files command file line → IsNoText bytes
  told-none command bytes file line tells why =
      subst IsNoText (sym (fetched-told files (first_of command) file bytes why.bytes (sym (first-model command file why.is)) why.fetched tells)) why.so.no_tree

  told-rule : (command : Command) (bytes line : List ℕ) → Tells files (first_of command) bytes → (why : HasBrokenRule files command line) → IsBrokenModel bytes why.told.fault why.told.paths
  told-rule command bytes line tells why =
      let first = first-model command why.file why.is_model in
      subst (λ (b : List ℕ). IsBrokenModel b why.told.fault why.told.paths) (sym (fetched-told files (first_of command) why.file bytes why.bytes (sym first) why.fetched tells)) why.told.broken

  -- the plan breaks a rule on the diagram of the told bytes
  told-plan_rule : (command : Command) (bytes line : List ℕ) → Tells files (first_of command) bytes → (why : HasBrokenPlan files command line) → TellsPlanRule bytes why.text line
  told-plan_rule command bytes line tells why =
      let first = first-model command why.file why.is_model in
      subst (λ (b : List ℕ). TellsPlanRule b why.text line) (sym (fetched-told files (first_of command) why.file bytes why.bytes (sym first) why.fetched tells)) why.told

  plan_rule-good : (command : Command) (bytes line : List ℕ) → Tells files (first_of command) bytes → HasBrokenPlan files command line → IsGood command bytes
  plan_rule-good command bytes line tells why = let told = told-plan_rule command bytes line tells why in model-good command why.file bytes told.diagram why.is_model told.accepted

  told-no_verilog : (command : Command) (bytes file : List ℕ) (line : ℕ) → Tells files (first_of command) bytes → HasNoVerilog files command file line → IsNoVerilog bytes
  told-no_verilog command bytes file line tells why =
      subst IsNoVerilog (sym (fetched-told files (first_of command) file bytes why.bytes (sym (first-verilog command file why.is)) why.fetched tells)) why.so.refused

  told-fault : (command : Command) (bytes file : List ℕ) (fault : VlFault) → Tells files (first_of command) bytes → (why : BreaksCondition files command file fault) → HasFault bytes why.so.condition
  told-fault command bytes file fault tells why =
      subst (λ (b : List ℕ). HasFault b why.so.condition) (sym (fetched-told files (first_of command) file bytes why.bytes (sym (first-verilog command file why.is)) why.fetched tells)) why.so.has

  -- ---- such bytes exclude each fault

  module _ (command : Command) (bytes : List ℕ) (tells : Tells files (first_of command) bytes) (fit : IsFit command bytes) where
    not-none : (file : List ℕ) (line : ℕ) → HasNoTree files command file line → ⊥
    not-none file line why = let tree = fit-tree command file bytes why.is fit in told-none command bytes file line tells why tree.0 tree.1

    not-rule : (line : List ℕ) → HasBrokenRule files command line → ⊥
    not-rule line why = fit-kept command why.file bytes why.told.fault why.told.paths why.is_model fit (told-rule command bytes line tells why)

    not-no_verilog : (file : List ℕ) (line : ℕ) → HasNoVerilog files command file line → ⊥
    not-no_verilog file line why =
        let made = fit-sound command file bytes why.is fit in
        told-no_verilog command bytes file line tells why made.0 made.1.spells made.1.few

    not-fault : (file : List ℕ) (fault : VlFault) → BreaksCondition files command file fault → ⊥
    not-fault file fault why =
        let made = fit-sound command file bytes why.is fit in
        not-sound bytes made.0 why.so.condition made.1 (told-fault command bytes file fault tells why)

  -- ---- a stimulus

  -- a bad line, by what is told of the first file, excludes an output
  written-bad : (command : Command) (text bytes stimulus numbers : List ℕ) → IsOutput command files.held text
      → table_of command ≡ Some stimulus → Tells files (first_of command) bytes → Tells files stimulus numbers
      → IsBadFor command bytes numbers → ⊥
  written-bad (Generate model plan) text bytes stimulus numbers output is tells told bad = design-planned files model plan (verilog-design output) bytes tells stimulus numbers is told bad
  written-bad (Replay verilog rows) text bytes stimulus numbers output is tells told bad =
      let same : stimulus ≡ rows = sym (cc is) in
      let first = told-is files verilog bytes output.first_bytes output.fetched tells in
      let second = fetched-told files stimulus rows numbers output.second_bytes same output.says told in
      let sound = subst (λ (b : List ℕ). IsSoundText b output.made.made) (sym first) output.made.spelled in
      let fault = bad.1.1 in
      let one = one_module bytes output.made.made fault.made sound.spells fault.spelled.spells in
      let e = ap (λ (m : Module). fault_for m numbers) (sym one) ∙ ap (fault_for output.made.made) second ∙ output.made.rows_are.no_fault in
      let f = fault.bad in
      absurd (cc (e, f))
  written-bad (Simulate model rows) text bytes stimulus numbers output is tells told bad =
      let same : stimulus ≡ rows = sym (cc is) in
      let first = told-is files model bytes output.first_bytes output.fetched tells in
      let second = fetched-told files stimulus rows numbers output.second_bytes same output.says told in
      let fault = bad.bad output.made.diagram (subst (λ (b : List ℕ). IsModelOf b output.made.diagram) (sym first) output.made.accepted) in
      let e = ap (fault_in output.made.diagram) second ∙ output.made.rows_are.no_fault in
      let f = fault.1.1 in
      absurd (cc (e, f))
  written-bad (Explore model range) text bytes stimulus numbers output is tells told bad = bad
  written-bad (Check model plan) text bytes stimulus numbers output is tells told bad = design-planned files model plan (check-design output) bytes tells stimulus numbers is told bad
  written-bad (StreamOf model plan) text bytes stimulus numbers output is tells told bad = design-planned files model plan (stream-design output) bytes tells stimulus numbers is told bad

  -- ---- a plan

  -- what is written of a plan is of a design
  output-design : (command : Command) (own : List ℕ) (plan : PlanWord) → IsOutput command files.held own → plan_of command ≡ Some plan → HasDesign files.held (first_of command) plan
  output-design (Generate model word) own plan output is = let same : word ≡ plan = cc is in subst (λ (w : PlanWord). HasDesign files.held model w) same (verilog-design output)
  output-design (Replay verilog rows) own plan output is = absurd (cc is)
  output-design (Simulate model rows) own plan output is = absurd (cc is)
  output-design (Explore model range) own plan output is = absurd (cc is)
  output-design (Check model word) own plan output is = let same : word ≡ plan = cc is in subst (λ (w : PlanWord). HasDesign files.held model w) same (check-design output)
  output-design (StreamOf model word) own plan output is = let same : word ≡ plan = cc is in subst (λ (w : PlanWord). HasDesign files.held model w) same (stream-design output)

  undesigned : (command : Command) (own bytes text : List ℕ) (plan : PlanWord) → IsOutput command files.held own
      → plan_of command ≡ Some plan → Tells files (first_of command) bytes → TellsPlan files plan text
      → IsWithoutDesign bytes text → ⊥
  undesigned command own bytes text plan output is tells told refused = design-told files (first_of command) plan (output-design command own plan output is) bytes tells text told refused

  -- where no line of it is bad, none is told
  plan-lines : (command : Command) (plan : PlanWord) (bytes text : List ℕ) → plan_of command ≡ Some plan → Tells files (first_of command) bytes → TellsPlan files plan text
      → ((line : ℕ) (cause : TableCause) → IsBadPlan bytes text line cause → ⊥) → (file : List ℕ) (line : ℕ) (cause : TableCause) → HasBadLine files command file line cause → ⊥
  plan-lines command plan bytes text is tells told good = lines-kept files command plan (reads-plan command plan is) bytes text tells told good

  -- a text that is no plan breaks no rule
  plan-none : (command : Command) (file bytes numbers : List ℕ) → table_of command ≡ Some file
      → Tells files file numbers → IsBadFor command bytes numbers → (line : List ℕ)
      → HasBrokenPlan files command line → ⊥
  plan-none command file bytes numbers is told bad line why = none-broken files command why.plan (reads-plan command why.plan why.is_plan) file bytes numbers is told bad line why

  -- where a command can be done its plan breaks none
  plan-kept : (command : Command) → CanBeDone files command → (line : List ℕ) → HasBrokenPlan files command line → ⊥
  plan-kept (Generate model word) can = rules-kept files (Generate model word) word (reads-plan (Generate model word) word refl) can
  plan-kept (Replay verilog rows) can = λ line why. (let e = why.is_plan in absurd (cc e))
  plan-kept (Simulate model rows) can = λ line why. (let e = why.is_plan in absurd (cc e))
  plan-kept (Explore model range) can = λ line why. (let e = why.is_plan in absurd (cc e))
  plan-kept (Check model word) can = rules-kept files (Check model word) word (reads-plan (Check model word) word refl) can
  plan-kept (StreamOf model word) can = rules-kept files (StreamOf model word) word (reads-plan (StreamOf model word) word refl) (designable can)

  -- ---- a clause on the status, answer by answer

  by-answer : (own : ℕ) (command : Command) → ((text : List ℕ) → IsOutput command files.held text → ⊥)
      → ((file : List ℕ) (line : ℕ) → HasNoTree files command file line → Yields own (3 ∷ 9 ∷ []) 5)
      → ((file : List ℕ) (line : ℕ) (cause : TableCause) → HasBadLine files command file line cause → Yields own (3 ∷ 9 ∷ []) 6)
      → ((line : List ℕ) → HasBrokenRule files command line → Yields own (3 ∷ 9 ∷ []) 7)
      → ((file : List ℕ) (line : ℕ) → HasNoVerilog files command file line → Yields own (3 ∷ 9 ∷ []) 8)
      → ((file : List ℕ) (fault : VlFault) → BreaksCondition files command file fault → Yields own (3 ∷ 9 ∷ []) 8)
      → ((line : List ℕ) → HasBrokenPlan files command line → Yields own (3 ∷ 9 ∷ []) 7)
      → ((line : List ℕ) → HasBrokenPorts files command line → Yields own (3 ∷ 9 ∷ []) 7)
      → (answer : Answer) → HasCause files command answer → HasWritten files out command answer → Yields own (3 ∷ 9 ∷ []) (status_of answer)
  by-answer own command none not_mdl bad rule no_verilog fault plan ports Done why wrote = absurd (none wrote.text wrote.output)
  by-answer own command none not_mdl bad rule no_verilog fault plan ports OutOfMemory why wrote = (1, omega arith, refl)
  by-answer own command none not_mdl bad rule no_verilog fault plan ports Usage why wrote = absurd why
  by-answer own command none not_mdl bad rule no_verilog fault plan ports (CannotRead file) why wrote = (2, omega arith, refl)
  by-answer own command none not_mdl bad rule no_verilog fault plan ports CannotWrite why wrote = absurd (none wrote.text wrote.output)
  by-answer own command none not_mdl bad rule no_verilog fault plan ports (NotMdl file line) why wrote = not_mdl file.now line why.1
  by-answer own command none not_mdl bad rule no_verilog fault plan ports (BadTable file line cause) why wrote = bad file.now line cause why.1
  by-answer own command none not_mdl bad rule no_verilog fault plan ports (BreaksRule line) why wrote = ⊎_elim (rule line) (⊎_elim (plan line) (ports line)) why.1
  by-answer own command none not_mdl bad rule no_verilog fault plan ports (NotVerilog file line) why wrote = no_verilog file.now line why.1
  by-answer own command none not_mdl bad rule no_verilog fault plan ports (Broken file condition) why wrote = fault file.now condition why.1
  by-answer own command none not_mdl bad rule no_verilog fault plan ports (BadInstance file name) why wrote = absurd why
  by-answer own command none not_mdl bad rule no_verilog fault plan ports (TooLong file length) why wrote = (3, omega arith, refl)

  module _ (command : Command) where
    read_fault-due : (file : List ℕ) → first_trouble files.held (files_of command) ≡ Some (Absent file)
        → files.steady → (answer : Answer) → HasCause files command answer → Yields 3 [] (status_of answer)
    read_fault-due file is steady Done why = absurd (fetched-whole command (Absent file) why is)
    read_fault-due file is steady OutOfMemory why = (1, omega arith, refl)
    read_fault-due file is steady Usage why = absurd why
    read_fault-due file is steady (CannotRead answered) why = (0, omega arith, refl)
    read_fault-due file is steady CannotWrite why = absurd (fetched-whole command (Absent file) why is)
    read_fault-due file is steady (NotMdl answered line) why = absurd (fetched-whole command (Absent file) why.0 is)
    read_fault-due file is steady (BadTable answered line cause) why = absurd (fetched-whole command (Absent file) why.0 is)
    read_fault-due file is steady (BreaksRule line) why = absurd (fetched-whole command (Absent file) why.0 is)
    read_fault-due file is steady (NotVerilog answered line) why = absurd (fetched-whole command (Absent file) why.0 is)
    read_fault-due file is steady (Broken answered fault) why = absurd (fetched-whole command (Absent file) why.0 is)
    read_fault-due file is steady (BadInstance answered name) why = absurd why
    read_fault-due file is steady (TooLong answered reported) why = let first = why.first steady in absurd (cc (first, is))

    too_long-due : (file : List ℕ) (length : ℕ)
        → first_trouble files.held (files_of command) ≡ Some (Overlong file length) → files.steady
        → (answer : Answer) → HasCause files command answer → Yields 9 [] (status_of answer)
    too_long-due file length is steady Done why = absurd (fetched-whole command (Overlong file length) why is)
    too_long-due file length is steady OutOfMemory why = (1, omega arith, refl)
    too_long-due file length is steady Usage why = absurd why
    too_long-due file length is steady (CannotRead answered) why = let first = why.first steady in absurd (cc (first, is))
    too_long-due file length is steady CannotWrite why = absurd (fetched-whole command (Overlong file length) why is)
    too_long-due file length is steady (NotMdl answered line) why = absurd (fetched-whole command (Overlong file length) why.0 is)
    too_long-due file length is steady (BadTable answered line cause) why = absurd (fetched-whole command (Overlong file length) why.0 is)
    too_long-due file length is steady (BreaksRule line) why = absurd (fetched-whole command (Overlong file length) why.0 is)
    too_long-due file length is steady (NotVerilog answered line) why = absurd (fetched-whole command (Overlong file length) why.0 is)
    too_long-due file length is steady (Broken answered fault) why = absurd (fetched-whole command (Overlong file length) why.0 is)
    too_long-due file length is steady (BadInstance answered name) why = absurd why
    too_long-due file length is steady (TooLong answered reported) why = (0, omega arith, refl)

    -- a fault of the first file's told bytes, which excludes an output
    module _ (bytes : List ℕ) (tells : Tells files (first_of command) bytes) (spoilt : IsGood command bytes → ⊥) where
      no-output : (text : List ℕ) → IsOutput command files.held text → ⊥
      no-output text output = spoilt (written-good command text bytes output tells)

      no-bad : (own : ℕ) (file : List ℕ) (line : ℕ) (cause : TableCause) → HasBadLine files command file line cause → Yields own (3 ∷ 9 ∷ []) 6
      no-bad own file line cause why = absurd (spoilt (bad-good command bytes file line cause tells why))

    syntax-due : (model bytes : List ℕ) → model_of command ≡ Some model → Tells files (first_of command) bytes
        → IsNoText bytes → (answer : Answer) → HasCause files command answer → HasWritten files out command answer
        → Yields 5 (3 ∷ 9 ∷ []) (status_of answer)
    syntax-due model bytes is tells none =
        let spoilt : IsGood command bytes → ⊥ = λ good. (let tree = good-tree command model bytes is good in none tree.0 tree.1) in
        by-answer 5 command (no-output bytes tells spoilt) (λ file line why. own-first 5) (no-bad bytes tells spoilt 5)
        (λ line why. let broken = told-rule command bytes line tells why in absurd (none broken.tree broken.stands))
        (λ file line why. absurd (model-alone command model file is why.is)) (λ file fault why. absurd (model-alone command model file is why.is))
        (λ line why. absurd (spoilt (plan_rule-good command bytes line tells why)))
        (λ line why. absurd (spoilt (ports-good files command line why bytes tells)))

    broken_rule-due : (model bytes : List ℕ) → model_of command ≡ Some model → Tells files (first_of command) bytes → IsWithoutDiagram bytes
        → (answer : Answer) → HasCause files command answer → HasWritten files out command answer → Yields 7 (3 ∷ 9 ∷ []) (status_of answer)
    broken_rule-due model bytes is tells refused =
        let spoilt : IsGood command bytes → ⊥ = λ good. (let diagram = good-diagram command model bytes is good in refused.none diagram.0 diagram.1) in
        by-answer 7 command (no-output bytes tells spoilt) (λ file line why. absurd (told-none command bytes file line tells why refused.tree refused.stands)) (no-bad bytes tells spoilt 7)
        (λ line why. own-first 7)
        (λ file line why. absurd (model-alone command model file is why.is)) (λ file condition why. absurd (model-alone command model file is why.is))
        (λ line why. own-first 7)
        (λ line why. own-first 7)

    broken_plan-due : (model bytes text : List ℕ) (plan : PlanWord) → model_of command ≡ Some model
        → plan_of command ≡ Some plan → Tells files (first_of command) bytes → TellsPlan files plan text
        → IsWithoutDesign bytes text
        → (answer : Answer) → HasCause files command answer → HasWritten files out command answer → Yields 7 (3 ∷ 9 ∷ []) (status_of answer)
    broken_plan-due model bytes text plan is of tells told refused =
        let fit = accepted-fit command model bytes is refused.accepted in
        by-answer 7 command (λ own output. undesigned command own bytes text plan output of tells told refused)
        (λ file line why. absurd (not-none command bytes tells fit file line why)) (λ file line cause why. absurd (plan-lines command plan bytes text of tells told refused.good file line cause why))
        (λ line why. own-first 7)
        (λ file line why. absurd (model-alone command model file is why.is)) (λ file condition why. absurd (model-alone command model file is why.is))
        (λ line why. own-first 7)
        (λ line why. own-first 7)

    broken_ports-due : (model bytes text : List ℕ) (plan : PlanWord) → command ≡ StreamOf model plan → Tells files (first_of command) bytes → TellsPlan files plan text → IsWithoutStream bytes text
        → (answer : Answer) → HasCause files command answer → HasWritten files out command answer → Yields 7 (3 ∷ 9 ∷ []) (status_of answer)
    broken_ports-due model bytes text plan same tells told refused =
        let is = ap model_of same in
        let fit = accepted-fit command model bytes is refused.accepted in
        by-answer 7 command (λ own output. unstreamed files command own bytes text model plan same output tells told refused)
        (λ file line why. absurd (not-none command bytes tells fit file line why))
        (λ file line cause why. absurd
        (plan-lines command plan bytes text (ap plan_of same) tells told refused.good file line cause why))
        (λ line why. own-first 7)
        (λ file line why. absurd (model-alone command model file is why.is)) (λ file condition why. absurd (model-alone command model file is why.is))
        (λ line why. own-first 7)
        (λ line why. own-first 7)

    not_verilog-due : (verilog bytes : List ℕ) → verilog_of command ≡ Some verilog
        → Tells files (first_of command) bytes → IsNoVerilog bytes → (answer : Answer)
        → HasCause files command answer → HasWritten files out command answer
        → Yields 8 (3 ∷ 9 ∷ []) (status_of answer)
    not_verilog-due verilog bytes is tells none =
        let spoilt : IsGood command bytes → ⊥ = λ good. (let made = good-sound command verilog bytes is good in none made.0 made.1.spells made.1.few) in
        by-answer 8 command (no-output bytes tells spoilt) (λ file line why. absurd (model-alone command file verilog why.is is)) (no-bad bytes tells spoilt 8)
        (λ line why. absurd (model-alone command why.file verilog why.is_model is))
        (λ file line why. own-first 8) (λ file fault why. own-first 8)
        (λ line why. absurd (model-alone command why.file verilog why.is_model is))
        (λ line why. absurd (model-alone command why.model verilog (ports-model files command line why) is))

    broken-due : (verilog bytes : List ℕ) (condition : Fault) → verilog_of command ≡ Some verilog
        → Tells files (first_of command) bytes → HasFault bytes condition → (answer : Answer)
        → HasCause files command answer → HasWritten files out command answer
        → Yields 8 (3 ∷ 9 ∷ []) (status_of answer)
    broken-due verilog bytes condition is tells has =
        let spoilt : IsGood command bytes → ⊥ = λ good. (let made = good-sound command verilog bytes is good in not-sound bytes made.0 condition made.1 has) in
        by-answer 8 command (no-output bytes tells spoilt) (λ file line why. absurd (model-alone command file verilog why.is is)) (no-bad bytes tells spoilt 8)
        (λ line why. absurd (model-alone command why.file verilog why.is_model is))
        (λ file line why. own-first 8) (λ file fault why. own-first 8)
        (λ line why. absurd (model-alone command why.file verilog why.is_model is))
        (λ line why. absurd (model-alone command why.model verilog (ports-model files command line why) is))

    bad_table-due : (bytes stimulus numbers : List ℕ) → table_of command ≡ Some stimulus → Tells files (first_of command) bytes → Tells files stimulus numbers → IsBadFor command bytes numbers
        → (answer : Answer) → HasCause files command answer → HasWritten files out command answer → Yields 6 (3 ∷ 9 ∷ []) (status_of answer)
    bad_table-due bytes stimulus numbers is tells told bad =
        let fit = bad-fit command bytes numbers bad in
        by-answer 6 command (λ text output. written-bad command text bytes stimulus numbers output is tells told bad)
        (λ file at why. absurd (not-none command bytes tells fit file at why)) (λ file at of why. own-first 6)
        (λ at why. absurd (not-rule command bytes tells fit at why))
        (λ file at why. absurd (not-no_verilog command bytes tells fit file at why)) (λ file fault why. absurd (not-fault command bytes tells fit file fault why))
        (λ at why. absurd (plan-none command stimulus bytes numbers is told bad at why))
        (λ at why. absurd (ports-planned files command at why stimulus bytes numbers is tells told bad))

    -- told under the file's own name
    told-model : (model bytes : List ℕ) → model_of command ≡ Some model → Tells files model bytes → Tells files (first_of command) bytes
    told-model model bytes is tells = subst (λ (file : List ℕ). Tells files file bytes) (first-model command model is) tells

    told-verilog : (verilog bytes : List ℕ) → verilog_of command ≡ Some verilog → Tells files verilog bytes → Tells files (first_of command) bytes
    told-verilog verilog bytes is tells = subst (λ (file : List ℕ). Tells files file bytes) (first-verilog command verilog is) tells

    is-due : (answer : Answer) → HasCause files command answer → HasWritten files out command answer → IsDue files command (status_of answer)
    is-due answer why wrote = record {
      read_fault = λ steady file is. read_fault-due file is steady answer why;
      too_long = λ steady file length is. too_long-due file length is steady answer why;
      syntax = λ model bytes is tells none. syntax-due model bytes is (told-model model bytes is tells) none answer why wrote;
      broken_rule = λ model bytes is tells refused. broken_rule-due model bytes is (told-model model bytes is tells) refused answer why wrote;
      broken_plan = λ model bytes text plan is of tells told refused. broken_plan-due model bytes text plan is of (told-model model bytes is tells) told refused answer why wrote;
      broken_ports = λ model bytes text plan same tells told refused. broken_ports-due model bytes text plan same (told-model model bytes (ap model_of same) tells) told refused answer why wrote;
      not_verilog = λ verilog bytes is tells none. not_verilog-due verilog bytes is (told-verilog verilog bytes is tells) none answer why wrote;
      broken = λ verilog bytes condition is tells has. broken-due verilog bytes condition is (told-verilog verilog bytes is tells) has answer why wrote;
      bad_table = λ first stimulus bytes is tells told bad. bad_table-due first stimulus bytes is tells told bad answer why wrote;
    }

  -- ---- where the command can be done

  can-bytes : (command : Command) → CanBeDone files command → (bytes : List ℕ) × (Tells files (first_of command) bytes × IsFit command bytes)
  can-bytes (Generate model plan) can = (can.model_bytes, (can.model_told, can.can.accepted))
  can-bytes (Replay verilog stimulus) can = (can.verilog_bytes, (can.verilog_told, (can.can.made, can.can.spelled)))
  can-bytes (Simulate model stimulus) can = (can.model_bytes, (can.model_told, can.can.accepted))
  can-bytes (Explore model range) can = (can.0, (can.1.0, can.1.1))
  can-bytes (Check model plan) can = (can.model_bytes, (can.model_told, can.can.accepted))
  can-bytes (StreamOf model plan) can = (can.model_bytes, (can.model_told, can.can.designed.accepted))

  -- the stimulus is good
  stimulus-good : (command : Command) → CanBeDone files command → (file : List ℕ) (line : ℕ) (cause : TableCause) → HasBadLine files command file line cause → ⊥
  stimulus-good (Generate model plan) can file line cause why =
      lines-kept files (Generate model plan) plan (reads-plan (Generate model plan) plan refl) can.model_bytes can.plan_bytes can.model_told can.plan_told can.can.good file line cause why
  stimulus-good (Replay verilog stimulus) can file line cause why =
      let same : stimulus ≡ file = cc why.is_table in
      let first = told-is files verilog can.verilog_bytes why.first why.first_fetched can.verilog_told in
      let second = fetched-told files stimulus file can.stimulus_bytes why.table same why.table_fetched can.stimulus_told in
      let sound = subst (λ (b : List ℕ). IsSoundText b can.can.made) first can.can.spelled in
      let one = one_module why.first can.can.made why.bad.made sound.spells why.bad.spelled.spells in
      let e = ap (λ (m : Module). fault_for m why.table) (sym one) ∙ ap (fault_for can.can.made) (sym second) ∙ can.can.good in
      let f = why.bad.bad in
      absurd (cc (e, f))
  stimulus-good (Simulate model stimulus) can file line cause why =
      let same : stimulus ≡ file = cc why.is_table in
      let first = told-is files model can.model_bytes why.first why.first_fetched can.model_told in
      let second = fetched-told files stimulus file can.stimulus_bytes why.table same why.table_fetched can.stimulus_told in
      let e = ap (fault_in why.bad.diagram) (sym second) ∙ can.can.good why.bad.diagram (subst (λ (b : List ℕ). IsModelOf b why.bad.diagram) (sym first) why.bad.accepted) in
      let f = why.bad.bad in
      absurd (cc (e, f))
  stimulus-good (Explore model range) can file line cause why = why.bad
  stimulus-good (Check model plan) can file line cause why =
      lines-kept files (Check model plan) plan (reads-plan (Check model plan) plan refl) can.model_bytes can.plan_bytes can.model_told can.plan_told can.can.good file line cause why
  stimulus-good (StreamOf model plan) can file line cause why =
      lines-kept files (StreamOf model plan) plan (reads-plan (StreamOf model plan) plan refl) can.model_bytes can.plan_bytes can.model_told can.plan_told can.can.designed.good file line cause why

  is-complete : (command : Command) (answer : Answer) → HasCause files command answer → HasWritten files out command answer → IsComplete files out command (status_of answer)
  is-complete command Done why wrote can gives writes = (0, omega arith, refl)
  is-complete command OutOfMemory why wrote can gives writes = (1, omega arith, refl)
  is-complete command Usage why wrote can gives writes = absurd why
  is-complete command (CannotRead file) why wrote can (inl steady) writes = let first = why.first steady.0 in let none = steady.1 in absurd (cc (first, none))
  is-complete command (CannotRead file) why wrote can (inr quiet) writes = absurd (quiet.0 why.rise)
  is-complete command CannotWrite why wrote can gives writes = absurd (writes wrote.rise)
  is-complete command (NotMdl file line) why wrote can gives writes = let told = can-bytes command can in absurd (not-none command told.0 told.1.0 told.1.1 file.now line why.1)
  is-complete command (BadTable file line cause) why wrote can gives writes = absurd (stimulus-good command can file.now line cause why.1)
  is-complete command (BreaksRule line) why wrote can gives writes = let told = can-bytes command can in
      absurd (⊎_elim (not-rule command told.0 told.1.0 told.1.1 line)
      (⊎_elim (plan-kept command can line) (λ ports. ports-kept files command line ports can)) why.1)
  is-complete command (NotVerilog file line) why wrote can gives writes = let told = can-bytes command can in absurd (not-no_verilog command told.0 told.1.0 told.1.1 file.now line why.1)
  is-complete command (Broken file fault) why wrote can gives writes = let told = can-bytes command can in absurd (not-fault command told.0 told.1.0 told.1.1 file.now fault why.1)
  is-complete command (BadInstance file name) why wrote can gives writes = absurd why
  is-complete command (TooLong file length) why wrote can (inl steady) writes = let first = why.first steady.0 in let none = steady.1 in absurd (cc (first, none))
  is-complete command (TooLong file length) why wrote can (inr quiet) writes = absurd (quiet.1 why.rise)

  pub due-clause : (words : List (List ℕ)) (answer : Answer) → IsCarriedOut files out (asked_of words) answer → IfCommand words (λ command. IsDue files command (status_of answer))
  due-clause words answer why command shape = let own = carried files out words answer (OfFiles command) why shape in is-due command answer own.0 own.1

  pub complete-clause : (words : List (List ℕ)) (answer : Answer) → IsCarriedOut files out (asked_of words) answer → IfCommand words (λ command. IsComplete files out command (status_of answer))
  complete-clause words answer why command shape = let own = carried files out words answer (OfFiles command) why shape in is-complete command answer own.0 own.1
