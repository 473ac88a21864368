-- A diagram that keeps the rules, with an order of its blocks, is ranked and runnable.
use Rattle.std.proofs.Common.{ℕ, ℤ, length, List, arith, le_trans}
use Rattle.std.proofs.lemmas.Option.{MatchOption-at_some}
use Rattle.dg_model.specs.declared.diagram.Block.{Block}
use Rattle.dg_model.specs.Equation.{KindEquation, Equation}
use Rattle.dg_tables.proofs.Single.{kind_one}
use Rattle.dg_tables.proofs.Sources.{type_into_valid}
use Rattle.fx_type.specs.Laws.{FullSumIsOne, FullProductIsOne, UnionIsOne}
use Rattle.fx_round.specs.Laws.{StoringGivesOne}
use Rattle.dg_model.specs.declared.diagram.Diagram.{Diagram}
use Rattle.dg_model.specs.GainParam.{ParamTypeIsOne}
use Rattle.dg_model.specs.Attributes.{attributes_of}
use Rattle.dg_tables.specs.Laws.{IsOrdered, TablesAreOne, SomeTableSolves, SolvedIsInRange, EntryIsOne, OperationsPrepare, TypesAreValid, SignalsFit}
use Rattle.dg_tables.proofs.Ground.{IsRanked, IsRunnable}
use Rattle.dg_blocks.specs.Laws.{OperationGivesAtMostOne, OperationGivesOne}
use Rattle.dg_tables.proofs.Unique.{tables_one}
use Rattle.dg_tables.proofs.SomeTable.{table_solves, solved_in_range}
use Rattle.dg_tables.proofs.Ranks.{rank, driver_lower, control_lower, rank_below}
use Rattle.dg_tables.proofs.Widths.{widths_fit, lists_fit}
use Rattle.dg_tables.proofs.BlockTypes.{type_valid}
use Rattle.dg_tables.proofs.TypeFits.{type_kept, param_type_valid, operation_prepares}

module _ (storing : StoringGivesOne) (sums : FullSumIsOne) (products : FullProductIsOne) (unions : UnionIsOne) (params : ParamTypeIsOne)
    (diagram : Diagram) (order : List ℕ) (ordered : IsOrdered diagram order)
  where
    abbrev pub order_rank : ℕ → ℕ
    order_rank place = rank diagram (attributes_of diagram) order ordered.ordered place

    pub ranked : IsRanked diagram (attributes_of diagram) order_rank
    ranked = record {
      wired = ordered.checked.wired;
      widths = λ block b e. widths_fit diagram ordered.checked.wired ordered.checked.dimensions block b e;
      types = λ block b port e from to. type_valid sums products unions params diagram ordered.checked.wired block;
      params = λ block b e. param_type_valid storing sums products unions params diagram ordered.checked.wired ordered.checked.types block b e;
      drivers = λ block b port edge e now driver. driver_lower diagram (attributes_of diagram) order ordered.ordered block b port edge e now driver;
      controls = λ block b control e asks is. control_lower diagram (attributes_of diagram) order ordered.ordered block b control e asks is;
    }

    pub runnable : IsRunnable diagram (attributes_of diagram) order_rank
    runnable = record {
      lists = λ block b e. lists_fit diagram ordered.checked.wired ordered.checked.dimensions block b e;
      kept = λ block b e. type_kept storing sums products unions params diagram ordered.checked.wired ordered.checked.types block b e;
      operations = λ block b element op e is. operation_prepares storing sums products unions params diagram ordered.checked.wired ordered.checked.types block b e element op is;
      bound = length order;
      ranks = λ block b e. rank_below diagram (attributes_of diagram) order ordered.ordered block b e;
    }

module _ (storing : StoringGivesOne) (at_most : OperationGivesAtMostOne) (exactly : OperationGivesOne)
    (sums : FullSumIsOne) (products : FullProductIsOne) (unions : UnionIsOne) (params : ParamTypeIsOne)
  where
    pub checked_tables_one : TablesAreOne
    checked_tables_one diagram order stimulus n table other ordered solves solved =
        tables_one storing at_most diagram (attributes_of diagram) (order_rank storing sums products unions params diagram order ordered) stimulus n table other
        (ranked storing sums products unions params diagram order ordered) solves solved

    pub checked_table_solves : SomeTableSolves
    checked_table_solves diagram order stimulus n ordered is_stimulus =
        table_solves storing exactly diagram (attributes_of diagram) (order_rank storing sums products unions params diagram order ordered) stimulus n
        (ranked storing sums products unions params diagram order ordered) (runnable storing sums products unions params diagram order ordered) is_stimulus

    pub checked_in_range : SolvedIsInRange
    checked_in_range diagram order stimulus n table ordered is_stimulus solves =
        solved_in_range storing at_most exactly diagram (attributes_of diagram) (order_rank storing sums products unions params diagram order ordered) stimulus n table
        (ranked storing sums products unions params diagram order ordered) (runnable storing sums products unions params diagram order ordered) is_stimulus solves

    pub checked_entry_one : EntryIsOne
    checked_entry_one diagram order stimulus n table ordered solves block b port element t v shown below hit equation =
        let ground = ranked storing sums products unions params diagram order ordered in
        kind_one storing at_most diagram (attributes_of diagram) (order_rank storing sums products unions params diagram order ordered) ground stimulus table block b shown.block_is
        (ground.types block b 1 shown.block_is (omega arith) (le_trans shown.port_from shown.port_to)) t v (table block port element t) b.kind port element
        (of_kind v equation) (of_kind (table block port element t) (solves.at_hits block b port element t shown below hit))
      where
        of_kind : (w : ℤ) → Equation diagram (attributes_of diagram) stimulus table block port element t w → KindEquation diagram (attributes_of diagram) stimulus table b.kind b block port element t w
        of_kind w h = MatchOption-at_some ⊥ (λ (b : Block). KindEquation diagram (attributes_of diagram) stimulus table b.kind b block port element t w) b shown.block_is h

    pub checked_prepares : OperationsPrepare
    checked_prepares diagram order block b element op ordered block_is is =
        (runnable storing sums products unions params diagram order ordered).operations block b element op block_is is

    pub checked_valid : TypesAreValid
    checked_valid diagram order block b ordered block_is = (
      type_valid sums products unions params diagram ordered.checked.wired block,
      (ranked storing sums products unions params diagram order ordered).params block b block_is,
      type_into_valid diagram (attributes_of diagram) ordered.checked.wired (ranked storing sums products unions params diagram order ordered).types block,
    )

    pub checked_fit : SignalsFit
    checked_fit diagram order block b ordered block_is = (
      (ranked storing sums products unions params diagram order ordered).widths block b block_is,
      (runnable storing sums products unions params diagram order ordered).lists block b block_is,
      (runnable storing sums products unions params diagram order ordered).kept block b block_is,
    )
