-- Widths of small diagrams, worked by hand.
use Rattle.std.proofs.Common.{◌≡◌, ℕ, zero, suc, ◌≤◌, List, [], ◌∷◌, All, None, inl, true, false, refl, arith}
use Rattle.dg_model.specs.declared.fault.Shown.TheVariants.{Nothing}
use Rattle.dg_model.specs.Faults.{fault_of}
use Rattle.dg_model.specs.Dimension.{KeepsDimension, IsBounded, BreaksDimension}
use Rattle.fx_type.specs.declared.spec.TypeSpec.TheVariants.{Internal, Auto}
use Rattle.fx_type.specs.declared.rounding.Rounding.TheVariants.{Floor}
use Rattle.dg_model.specs.declared.diagram.Diagram.{Diagram}
use Rattle.dg_model.specs.declared.diagram.Block.{Block}
use Rattle.dg_model.specs.declared.diagram.Edge.{Edge}
use Rattle.dg_model.specs.declared.diagram.PeriodSpec.TheVariants.{Inherit}
use Rattle.dg_model.specs.declared.kind.Kind.{Kind}
use Rattle.dg_model.specs.declared.kind.Kind.TheVariants.{Inport, Outport, Ground, Mux, Demux, Sum, Delay, Terminator}
use Rattle.dg_model.specs.declared.rule.Rule.{Rule}
use Rattle.dg_model.specs.Widths.{widths_of, widths_after}

abbrev pub block_of : Kind → ℕ → ℕ → Block
block_of kind inputs outputs = record { path = []; kind = kind; inputs = inputs; outputs = outputs; result = Auto; rounding = Floor; saturate = false; period = Inherit; enable = None }

abbrev pub edge_of : ℕ → ℕ → ℕ → ℕ → Edge
edge_of from from_port to to_port = record { from = from; from_port = from_port; to = to; to_port = to_port }

-- two and one elements into a Mux, its three into a Demux of one and two
abbrev laid : Diagram
laid = record {
  blocks = block_of (Inport 1 2) 0 1 ∷ block_of (Inport 2 0) 0 1 ∷ block_of (Mux []) 2 1 ∷ block_of (Demux (1 ∷ 2 ∷ [])) 1 2 ∷ block_of Terminator 1 0 ∷ block_of Terminator 1 0 ∷ [];
  edges = edge_of 0 1 2 1 ∷ edge_of 1 1 2 2 ∷ edge_of 2 1 3 1 ∷ edge_of 3 1 4 1 ∷ edge_of 3 2 5 1 ∷ [];
}

laid_widths : widths_of laid ≡ (2 ∷ []) ∷ (1 ∷ []) ∷ (3 ∷ []) ∷ (1 ∷ 2 ∷ []) ∷ (1 ∷ []) ∷ (2 ∷ []) ∷ []
laid_widths = refl

-- a Demux of three open parts of seven elements, in reverse order of the file
abbrev parted : Diagram
parted = record {
  blocks = block_of Terminator 1 0 ∷ block_of (Demux (0 ∷ 0 ∷ 0 ∷ [])) 1 3 ∷ block_of (Sum (false ∷ true ∷ []) Internal) 2 1 ∷ block_of (Inport 1 7) 0 1 ∷ [];
  edges = edge_of 1 2 0 1 ∷ edge_of 2 1 1 1 ∷ edge_of 3 1 2 1 ∷ edge_of 3 1 2 2 ∷ [];
}

parted_widths : widths_of parted ≡ (2 ∷ []) ∷ (3 ∷ 2 ∷ 2 ∷ []) ∷ (7 ∷ []) ∷ (7 ∷ []) ∷ []
parted_widths = refl

-- a Mux that reads itself grows in each round
abbrev growing : Diagram
growing = record {
  blocks = block_of (Mux []) 2 1 ∷ block_of Ground 0 1 ∷ [];
  edges = edge_of 0 1 0 1 ∷ edge_of 1 1 0 2 ∷ [];
}

growing_widths : widths_of growing ≡ (3 ∷ []) ∷ (1 ∷ []) ∷ []
growing_widths = refl

growing_once_more : widths_after growing 3 ≡ (4 ∷ []) ∷ (1 ∷ []) ∷ []
growing_once_more = refl

-- and is cut at last; doubling gets there in eleven rounds
abbrev doubling : Diagram
doubling = record {
  blocks = block_of (Mux []) 2 1 ∷ block_of (Delay 1 [] false) 1 1 ∷ [];
  edges = edge_of 0 1 0 1 ∷ edge_of 0 1 0 2 ∷ edge_of 0 1 1 1 ∷ [];
}

doubling_cut : widths_after doubling 12 ≡ (1025 ∷ []) ∷ (1025 ∷ []) ∷ []
doubling_cut = refl

-- ---- the rule

-- the Mux that grows breaks the rule: one more round changes it
growing_breaks : BreaksDimension growing (fault_of Rule.Dimension [] Nothing)
growing_breaks = inl (record {
  place = 0;
  block = block_of (Mux []) 2 1;
  first = record { there = refl; broken = λ keeps. absurd (four_three keeps.settled); before = λ other b below is. absurd (omega arith) };
  fault_is = refl;
}) where
  four_three : ◌≡◌ {A = List ℕ} (4 ∷ []) (3 ∷ []) → ⊥
  four_three same = let first : ◌≡◌ {A = ℕ} 4 3 = cc in omega arith

laid_demux : KeepsDimension laid (widths_of laid) 3 (block_of (Demux (1 ∷ 2 ∷ [])) 1 2)
laid_demux = record {
  settled = refl;
  within = λ some. fits;
  agrees = (refl, refl);
  lists = λ k d inside. absurd (omega arith);
  declared = inl refl;
} where
  fits : All (λ width. width ≤ 1024) (1 ∷ 2 ∷ [])
  fits zero d inside = omega arith
  fits (suc zero) d inside = omega arith
  fits (suc (suc k)) d inside = absurd (omega arith)

laid_bounded : IsBounded laid (widths_of laid)
laid_bounded = record { outputs = omega arith; inputs = omega arith; delays = omega arith }

-- ---- exactly as many rounds as blocks

-- an Outport before a Mux that reads itself: after three rounds the Outport would still change, so it is the first place
abbrev exit_first : Diagram
exit_first = record {
  blocks = block_of (Outport 1) 1 0 ∷ block_of (Mux []) 2 1 ∷ block_of Ground 0 1 ∷ [];
  edges = edge_of 1 1 0 1 ∷ edge_of 1 1 1 1 ∷ edge_of 2 1 1 2 ∷ [];
}

exit_widths : widths_of exit_first ≡ (3 ∷ []) ∷ (4 ∷ []) ∷ (1 ∷ []) ∷ []
exit_widths = refl

exit_breaks : BreaksDimension exit_first (fault_of Rule.Dimension [] Nothing)
exit_breaks = inl (record {
  place = 0;
  block = block_of (Outport 1) 1 0;
  first = record { there = refl; broken = λ keeps. absurd (four_three keeps.settled); before = λ other b below is. absurd (omega arith) };
  fault_is = refl;
}) where
  four_three : ◌≡◌ {A = List ℕ} (4 ∷ []) (3 ∷ []) → ⊥
  four_three same = let first : ◌≡◌ {A = ℕ} 4 3 = cc in omega arith
