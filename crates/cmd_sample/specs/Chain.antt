-- The blocks of a sample's chain: their kinds, and what stands for each kind in the text (own).
use Rattle.std.specs.Prelude.{ℕ, ◌/◌, ◌%◌, ◌^◌, ◌==◌, if◌then◌else◌, List, codes}
use Rattle.cmd_sample.specs.declared.chain.ChainKind.{ChainKind}
use Rattle.cmd_sample.specs.declared.chain.ChainKind.TheVariants.{Delay, Sum, Gain, Product, Switch}

-- the kind that a choice below 4 stands for
abbrev pub chosen_kind : ℕ → ChainKind
chosen_kind choice =
    if choice == 0 then Sum
    else (if choice == 1 then Gain else (if choice == 2 then Product else Switch))

-- the kind of the block at this place, from 1, with this number: each fourth is a delay
abbrev pub kind_of : ℕ → ℕ → ChainKind
kind_of place number = if place % 4 == 0 then Delay else chosen_kind (number / 2 ^ 33 % 4)

-- its BlockType, and how many inputs it has: the first is the block before, and each other the
-- input of the model
pub record ChainRow : Type 0 where
  pub word : List ℕ
  pub inputs : ℕ

abbrev pub chain_row : ChainKind → ChainRow
chain_row Delay = record { word = codes "UnitDelay"; inputs = 1 }
chain_row Sum = record { word = codes "Sum"; inputs = 2 }
chain_row Gain = record { word = codes "Gain"; inputs = 1 }
chain_row Product = record { word = codes "Product"; inputs = 2 }
chain_row Switch = record { word = codes "Switch"; inputs = 3 }

abbrev pub word_of : ChainKind → List ℕ
word_of kind = (chain_row kind).word

abbrev pub inputs_of : ChainKind → ℕ
inputs_of kind = (chain_row kind).inputs
