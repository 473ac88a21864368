-- Why a Verilog text has no response to a stimulus: what each fault says excludes one.
use Rattle.std.proofs.Common.{◌≡◌, ℕ, List, [], ◌∷◌, None, ap, sym, subst, ◌∙◌}
use Rattle.fx_tables.specs.declared.table.TableCause.{TableCause}
use Rattle.vl_ast.specs.declared.modules.Module.{Module}
use Rattle.vl_ast.specs.Conditions.{BreaksNone, Fault, IsFirstFault}
use Rattle.vl_ast.specs.Grammar.{Spells}
use Rattle.vl_check.specs.declared.fault.VlFault.{VlFault}
use Rattle.cmd_replay.specs.Replayed.{CanBeReplayed, IsBadStimulus, IsBroken, IsNotVerilog, fault_for}

-- no module breaks a condition and breaks none
pub sound-first : (m : Module) (condition : Fault) → BreaksNone m → IsFirstFault m condition → ⊥
sound-first m (Fault.Undriven name) sound first = let e = sound.acyclic.driven in absurd (cc (e, first))
sound-first m (Fault.Doubly name) sound first = let e = sound.acyclic.once in let f = first.1 in absurd (cc (e, f))
sound-first m (Fault.CombLoop []) sound first = first.2
sound-first m (Fault.CombLoop (name ∷ names)) sound first = sound.acyclic.acyclic name names first.2
sound-first m (Fault.TooWide name) sound first = let e = sound.narrow in let f = first.1 in absurd (cc (e, f))
sound-first m (Fault.NoReset name) sound first = let e = sound.clocked in let f = first.2 in absurd (cc (e, f))
sound-first m (Fault.NoAttribute name) sound first = let e = sound.attributed in let f = first.3 in absurd (cc (e, f))

module _ (verilog stimulus : List ℕ) where
  pub no-module : (line : ℕ) → IsNotVerilog verilog line → CanBeReplayed verilog stimulus → ⊥
  no-module line not can = not.refused can.made can.spelled.spells can.spelled.few

  module _ (unique : (bytes : List ℕ) (one other : Module) → Spells bytes one → Spells bytes other → one ≡ other) where
    pub no-sound : (fault : VlFault) → IsBroken verilog fault → CanBeReplayed verilog stimulus → ⊥
    no-sound fault broken can =
        let has = broken.has in
        sound-first can.made broken.condition can.spelled.sound (subst (λ (m : Module). IsFirstFault m broken.condition) (unique verilog has.made can.made has.spells can.spelled.spells) has.first)

    pub no-rows : (line : ℕ) (cause : TableCause) → IsBadStimulus verilog stimulus line cause → CanBeReplayed verilog stimulus → ⊥
    no-rows line cause why can =
        let one = unique verilog can.made why.made can.spelled.spells why.spelled.spells in
        let good : fault_for why.made stimulus ≡ None = ap (λ (m : Module). fault_for m stimulus) (sym one) ∙ can.good in
        let bad = why.bad in
        absurd (cc (good, bad))
