-- What flattening makes of a Verilog text, why there is no such text, and how a call that asks for it
-- ends (own).
use Rattle.std.specs.Prelude.{◌≡◌, ⊤, ℕ, ◌<◌, ◌≤◌, List, [], ◌∷◌, length, Contains, Some, None}
use Rattle.fx_io.specs.Shelf.{IsOverlong}
use Rattle.fx_io.specs.Sink.{also_took, TookProperPrefix}
use Rattle.fx_top.specs.declared.answer.Answer.{Answer}
use Rattle.fx_top.specs.declared.answer.Answer.TheVariants.{Done, OutOfMemory, Usage, CannotRead, CannotWrite, NotMdl, BadTable, BreaksRule, NotVerilog, Broken, BadInstance, TooLong}
use Rattle.fx_top.specs.Call.{Files, Stream, IsUntouched, file_limit}
use Rattle.fx_top.specs.Cause.{IsFetched}
use Rattle.fx_top.specs.Command.{Flatten, asked_of}
use Rattle.fx_top.specs.Outcome.{GivesFiles, Tells, Yields}
use Rattle.vl_ast.specs.declared.modules.Module.{Module}
use Rattle.vl_ast.specs.Grammar.{most_items}
use Rattle.vl_ast.specs.Spelling.{spelling}
use Rattle.vl_hier.specs.declared.refusal.HierFault.{HierFault}
use Rattle.vl_hier.specs.declared.refusal.HierFault.TheVariants as fault
use Rattle.vl_hier.specs.Fault.{IsBadFirst}
use Rattle.vl_hier.specs.Flat.{IsFlatOf}
use Rattle.vl_hier.specs.Linked.{HasAllLinked}
use Rattle.vl_read.specs.declared.design.Design.{Design}
use Rattle.vl_read.specs.Designs.{IsDesignFaultLine, IsNoDesign, SpellsDesign, items_in}

-- the bytes spell the design, which isn't too long to be read
pub record IsDesignOf (verilog : List ℕ) (design : Design) : Type 0 where
  pub spelled : SpellsDesign verilog design
  pub few : items_in design ≤ most_items

-- the module is the flat one of their design, all of whose instances are linked
pub record IsFlatModuleOf (verilog : List ℕ) (flat : Module) : Type 0 where
  pub design : Design
  pub is : IsDesignOf verilog design
  pub linked : HasAllLinked design
  pub flat_is : IsFlatOf design flat

-- the text is its spelling
pub record IsFlatTextOf (verilog text : List ℕ) : Type 0 where
  pub flat : Module
  pub made : IsFlatModuleOf verilog flat
  pub text_is : text ≡ spelling flat

-- they spell no such design, and stop being the beginning of one at this line
pub record IsNotDesign (verilog : List ℕ) (line : ℕ) : Type 0 where
  pub refused : IsNoDesign verilog
  pub fault_line : IsDesignFaultLine verilog line

-- the first instance of their design that isn't linked as it must be has this name
pub record HasBadInstance (verilog name : List ℕ) : Type 0 where
  pub design : Design
  pub is : IsDesignOf verilog design
  pub bad : IsBadFirst design name

-- why they have no flat module
abbrev pub IsUnflattened : List ℕ → HierFault → Type 0
IsUnflattened verilog (fault.Syntax line) = IsNotDesign verilog line
IsUnflattened verilog (fault.Link name) = HasBadInstance verilog name
IsUnflattened verilog fault.OutOfMemory = ⊤

-- the file was not to be had; over a steady shelf it isn't held
pub record IsAbsent (files : Files) (file named : List ℕ) : Type 0 where
  pub same : named ≡ file
  pub rise : files.failed
  pub absent : files.steady → files.held file ≡ Some None

-- the file has this length, above the limit; over a steady shelf it is held
pub record IsOverLimit (files : Files) (file named : List ℕ) (reported : ℕ) : Type 0 where
  pub same : named ≡ file
  pub rise : files.met_overlong
  pub overlong : IsOverlong (files.held file) file_limit reported
  pub held : files.steady → (bytes : List ℕ)
      × (Tells files file bytes × (length bytes ≡ reported))

-- bytes that are so were fetched of the file
pub record HasFetched (files : Files) (file : List ℕ) (IsSo : List ℕ → Type 0) : Type 0 where
  pub bytes : List ℕ
  pub fetched : IsFetched files file bytes
  pub so : IsSo bytes

-- what an answer says of the file
abbrev pub HasFlatCause : Files → List ℕ → Answer → Type 0
HasFlatCause files file Done = ⊤
HasFlatCause files file OutOfMemory = ⊤
HasFlatCause files file Usage = ⊥
HasFlatCause files file (CannotRead named) = IsAbsent files file named.now
HasFlatCause files file CannotWrite = ⊤
HasFlatCause files file (NotMdl named line) = ⊥
HasFlatCause files file (BadTable named line cause) = ⊥
HasFlatCause files file (BreaksRule line) = ⊥
HasFlatCause files file (NotVerilog named line) =
    (named.now ≡ file) × HasFetched files file (λ bytes. IsNotDesign bytes line)
HasFlatCause files file (Broken named fault) = ⊥
HasFlatCause files file (BadInstance named name) =
    (named.now ≡ file) × HasFetched files file (λ bytes. HasBadInstance bytes name)
HasFlatCause files file (TooLong named length) = IsOverLimit files file named.now length

-- the text was taken whole
pub record TookFlat (files : Files) (file : List ℕ) (out : Stream) : Type 0 where
  pub text : List ℕ
  pub made : HasFetched files file (λ bytes. IsFlatTextOf bytes text)
  pub taken : out.now ≡ also_took out.before text

-- a proper prefix of it was taken, where the output failed
pub record TookPartOfFlat (files : Files) (file : List ℕ) (out : Stream) : Type 0 where
  pub rise : out.failed
  pub text : List ℕ
  pub made : HasFetched files file (λ bytes. IsFlatTextOf bytes text)
  pub taken : TookProperPrefix out.before out.now text

-- what an answer says of the output
abbrev pub HasFlatWritten : Files → List ℕ → Stream → Answer → Type 0
HasFlatWritten files file out Done = TookFlat files file out
HasFlatWritten files file out OutOfMemory = IsUntouched out
HasFlatWritten files file out Usage = IsUntouched out
HasFlatWritten files file out (CannotRead named) = IsUntouched out
HasFlatWritten files file out CannotWrite = TookPartOfFlat files file out
HasFlatWritten files file out (NotMdl named line) = IsUntouched out
HasFlatWritten files file out (BadTable named line cause) = IsUntouched out
HasFlatWritten files file out (BreaksRule line) = IsUntouched out
HasFlatWritten files file out (NotVerilog named line) = IsUntouched out
HasFlatWritten files file out (Broken named fault) = IsUntouched out
HasFlatWritten files file out (BadInstance named name) = IsUntouched out
HasFlatWritten files file out (TooLong named length) = IsUntouched out

-- P holds of the file that the words ask to flatten, where they do
abbrev pub IfFlatten : List (List ℕ) → (List ℕ → Type 0) → Type 0
IfFlatten words P = (file : List ℕ) → asked_of words ≡ Some (Flatten file) → P file

-- what the file asks of the status
pub record IsDueFlat (files : Files) (file : List ℕ) (status : ℕ) : Type 0 where
  -- over a steady shelf: 3 where it isn't held, and 9 where it is too long
  pub read_fault : files.steady → files.held file ≡ Some None → Yields 3 [] status
  pub too_long : files.steady → (bytes : List ℕ) → Tells files file bytes
      → file_limit < length bytes → Yields 9 [] status
  -- where its bytes are told: 8 where they spell no design that isn't too long
  pub no_design : (bytes : List ℕ) → Tells files file bytes → IsNoDesign bytes
      → Yields 8 (3 ∷ 9 ∷ []) status
  -- and 8 where an instance of their design isn't linked as it must be
  pub unlinked : (bytes : List ℕ) (design : Design) → Tells files file bytes
      → IsDesignOf bytes design → ¬ HasAllLinked design → Yields 8 (3 ∷ 9 ∷ []) status

-- the file's bytes are told, and spell a design all of whose instances are linked
pub record CanBeFlat (files : Files) (file : List ℕ) : Type 0 where
  pub bytes : List ℕ
  pub told : Tells files file bytes
  pub design : Design
  pub is : IsDesignOf bytes design
  pub linked : HasAllLinked design

-- then the status is 0 or want of memory, where no device fails
abbrev pub IsCompleteFlat : Files → List ℕ → Stream → ℕ → Type 0
IsCompleteFlat files file out status =
    CanBeFlat files file → GivesFiles files (file ∷ []) → (out.failed → ⊥)
    → Contains (0 ∷ 1 ∷ []) status
