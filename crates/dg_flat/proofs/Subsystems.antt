-- An enabled subsystem taken apart, worked by hand.
use Rattle.std.proofs.Common.{◌≡◌, ℕ, List, [], ◌∷◌, codes, Option, None, Some, true, false, refl}
use Rattle.std.specs.Prelude.{map}
use Rattle.fx_type.specs.declared.spec.TypeSpec.TheVariants.{Auto}
use Rattle.fx_type.specs.declared.rounding.Rounding.TheVariants.{Floor}
use Rattle.dg_model.specs.declared.diagram.Block.{Block}
use Rattle.dg_model.specs.declared.diagram.Edge.{Edge}
use Rattle.dg_model.specs.declared.diagram.PeriodSpec.TheVariants.{Inherit}
use Rattle.dg_model.specs.declared.kind.Kind.{Kind}
use Rattle.dg_model.specs.declared.kind.Kind.TheVariants.{Inport, Outport, Delay, Pass, EnableTest, EnOut}
use Rattle.dg_model.specs.declared.nested.NestedBlock.{NestedBlock}
use Rattle.dg_model.specs.declared.nested.NestedLine.{NestedLine}
use Rattle.dg_model.specs.declared.nested.Part.{Part}
use Rattle.dg_model.specs.declared.nested.Part.TheVariants.{Plain, In, Out, SubSystem, Enable}
use Rattle.dg_model.specs.declared.nested.Target.{Target}
use Rattle.dg_model.specs.declared.nested.Target.TheVariants.{Port, Enable as ToEnable}
use Rattle.dg_flat.specs.Flat.{flat_blocks, edge_of}

abbrev pub plain : Kind → ℕ → ℕ → Block
plain kind inputs outputs = record { path = []; kind = kind; inputs = inputs; outputs = outputs; result = Auto; rounding = Floor; saturate = false; period = Inherit; enable = None }

abbrev pub within : Option ℕ → List ℕ → Part → NestedBlock
within system name part = record { name = name; parent = system; part = part }

-- an input and a control into an enabled subsystem `s/t`, whose states begin anew, and its output: in it an Inport, a Delay and an Outport stand behind its EnablePort
abbrev blocks : List NestedBlock
blocks = within None (codes "u") (In (plain (Inport 1 0) 0 1) 1)
    ∷ within None (codes "c") (In (plain (Inport 2 0) 0 1) 2)
    ∷ within None (codes "s/t") SubSystem
    ∷ within (Some 2) (codes "e") (Enable true)
    ∷ within (Some 2) (codes "i") (In (plain (Pass 0) 1 1) 1)
    ∷ within (Some 2) (codes "d") (Plain (plain (Delay 1 [] false) 1 1))
    ∷ within (Some 2) (codes "o") (Out (plain (EnOut true []) 1 1) 1)
    ∷ within None (codes "y") (Out (plain (Outport 1) 1 0) 1)
    ∷ []

abbrev line_of : ℕ → ℕ → Target → NestedLine
line_of from to target = record { from = from; from_port = 1; to = to; target = target }

abbrev lines : List NestedLine
lines = line_of 0 2 (Port 1) ∷ line_of 1 2 ToEnable ∷ line_of 2 7 (Port 1) ∷ line_of 4 5 (Port 1) ∷ line_of 5 6 (Port 1) ∷ []

abbrev pub flat : List ℕ → Kind → ℕ → ℕ → Option ℕ → Block
flat path kind inputs outputs enable = record (plain kind inputs outputs) { path = path; enable = enable }

-- the subsystem is gone, and its blocks are enabled by block 2
flat_is : flat_blocks blocks ≡
    flat (codes "u") (Inport 1 0) 0 1 None
    ∷ flat (codes "c") (Inport 2 0) 0 1 None
    ∷ flat (codes "s//t/e") EnableTest 1 1 None
    ∷ flat (codes "s//t/i") (Pass 0) 1 1 (Some 2)
    ∷ flat (codes "s//t/d") (Delay 1 [] true) 1 1 (Some 2)
    ∷ flat (codes "s//t/o") (EnOut true []) 1 1 (Some 2)
    ∷ flat (codes "y") (Outport 1) 1 0 None
    ∷ []
flat_is = refl

abbrev edge : ℕ → ℕ → Option Edge
edge from to = Some (record { from = from; from_port = 1; to = to; to_port = 1 })

-- the lines into and out of the subsystem end at its ports, and the one to its enable at the control
edges_are : map (edge_of blocks) lines ≡ edge 0 3 ∷ edge 1 2 ∷ edge 5 6 ∷ edge 3 4 ∷ edge 4 5 ∷ []
edges_are = refl
