-- The places of names as the code has them, and as `vl_ast` says them.
use Rattle.std.specs.Prelude.{◌≡◌, ℕ, Bool, false, List, ◌++◌, map}
use Rattle.std.specs.Borrow.{Bor}
use Rattle.vl_ast.specs.Nets.{Kind, InputPort, OutputPort, PlainWire, Register, Declared, Mention, Declares, Drives, Reads, Clocks}
use Rattle.vl_check.specs.declared.mentions.Kind.{Kind as KindHere}
use Rattle.vl_check.specs.declared.mentions.Kind.TheVariants.{InputPort as InputHere, OutputPort as OutputHere, PlainWire as WireHere, Register as RegisterHere}
use Rattle.vl_check.specs.declared.mentions.Declared.{Declared as DeclaredHere}
use Rattle.vl_check.specs.declared.mentions.Mention.{Mention as MentionHere}
use Rattle.vl_check.specs.declared.mentions.Mention.TheVariants.{Declares as DeclaresHere, Drives as DrivesHere, Reads as ReadsHere, Clocks as ClocksHere}
use Rattle.vl_check.specs.declared.mentions.Mentions.{Mentions}

abbrev pub kind_of : KindHere → Kind
kind_of InputHere = InputPort
kind_of OutputHere = OutputPort
kind_of WireHere = PlainWire
kind_of RegisterHere = Register

-- a net that an item declares
abbrev pub net_declared : Kind → List ℕ → ℕ → Bool → Declared
net_declared kind name width signed =
    record { name = name; kind = kind; net = record { width = width; signed = signed } }

abbrev pub declared_of : DeclaredHere → Declared
declared_of d =
    record {
      name = d.name.now;
      kind = kind_of d.kind;
      net = record { width = d.width; signed = d.signed };
    }

abbrev pub mention_of : MentionHere → Mention
mention_of (DeclaresHere d) = Declares (declared_of d)
mention_of (DrivesHere clocked name) = Drives clocked name.now
mention_of (ReadsHere name) = Reads name.now
mention_of ClocksHere = Clocks

abbrev pub shown : List MentionHere → List Mention
shown all = map mention_of all

-- the bytes of borrowed names
abbrev pub texts : List (Bor (List ℕ)) → List (List ℕ)
texts names = map (λ (name : Bor (List ℕ)). name.now) names

-- these places are put behind those that were there, unless memory was wanting
pub record Puts (before after : Mentions) (more : List Mention) : Type 0 where
  pub whole : after.wanting ≡ false → (before.wanting ≡ false)
      × (shown after.all.items ≡ shown before.all.items ++ more)
