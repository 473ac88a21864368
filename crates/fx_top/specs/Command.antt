-- The words of a call, and the files that they name (own).
use Rattle.std.specs.Prelude.{ℕ, nat_le, ◌&&◌, if◌then◌else◌, List, [], ◌∷◌, bytes_eq, codes, Option, Some, None}
use Rattle.cmd_explore.specs.RangeWord.{plain_number, range_of}
use Rattle.cmd_sample.specs.Numbers.{greatest_sample}
use Rattle.hw_explore.specs.declared.range.Range.{Range}

-- a word for a plan: `-` for the empty one, which no file holds, or the name of a file
pub data PlanWord : Type 0 where
  EmptyPlan : PlanWord
  Named : (file : List ℕ) → PlanWord

-- the commands over files: `Generate` of a model and a plan, `Replay` of a Verilog text and a
-- stimulus, `Simulate` of a model and a stimulus, `Explore` of a model and a range of plans,
-- `Check` and `Stream` of a model and a plan
pub data Command : Type 0 where
  -- writes the Verilog text of a model under a plan
  Generate : (model : List ℕ) → (plan : PlanWord) → Command
  -- writes the response of a Verilog text to a stimulus
  Replay : (verilog stimulus : List ℕ) → Command
  -- writes the response of a model's diagram to a stimulus
  Simulate : (model stimulus : List ℕ) → Command
  -- writes what each plan of a range is worth on a model
  Explore : (model : List ℕ) → (range : Range) → Command
  -- writes what is worked out of a model by a plan
  Check : (model : List ℕ) → (plan : PlanWord) → Command
  -- writes the Verilog text of a model under a plan, with valid and ready on both sides
  Stream : (model : List ℕ) → (plan : PlanWord) → Command

-- the plan that a word names
abbrev pub plan_word : List ℕ → PlanWord
plan_word word = if bytes_eq word (codes "-") then EmptyPlan else Named word

-- what words ask for: a command over files, to write the flat module of the design in a file, or
-- the summary of the sample of a number
pub data Asked : Type 0 where
  OfFiles : (command : Command) → Asked
  Flatten : (file : List ℕ) → Asked
  Sample : (number : ℕ) → Asked

-- to explore a model by a range that is named
abbrev pub explored : List ℕ → Option Range → Option Asked
explored model None = None
explored model (Some range) = Some (OfFiles (Explore model range))

-- a number that samples have
abbrev pub within_samples : Option ℕ → Option ℕ
within_samples None = None
within_samples (Some number) =
    if nat_le 1 number && nat_le number greatest_sample then Some number else None

-- the number of a sample that a word names: 1 to 5000, without zeros in front
abbrev pub number_of : List ℕ → Option ℕ
number_of word = within_samples (plain_number word)

-- to make the sample of a number that is named
abbrev pub sampled : Option ℕ → Option Asked
sampled None = None
sampled (Some number) = Some (Sample number)

-- what the words ask for, where they have a listed shape
abbrev pub asked_of : List (List ℕ) → Option Asked
asked_of (verb ∷ first ∷ second ∷ []) =
    if bytes_eq verb (codes "generate") then Some (OfFiles (Generate first (plan_word second)))
    else (if bytes_eq verb (codes "replay") then Some (OfFiles (Replay first second))
    else (if bytes_eq verb (codes "simulate") then Some (OfFiles (Simulate first second))
    else (if bytes_eq verb (codes "explore") then explored first (range_of second)
    else (if bytes_eq verb (codes "check") then Some (OfFiles (Check first (plan_word second)))
    else (if bytes_eq verb (codes "stream") then Some (OfFiles (Stream first (plan_word second)))
    else None)))))
asked_of (verb ∷ word ∷ []) =
    if bytes_eq verb (codes "flatten") then Some (Flatten word)
    else (if bytes_eq verb (codes "sample") then sampled (number_of word) else None)
asked_of words = None

-- the word that names the model, of a command that reads one
abbrev pub model_of : Command → Option (List ℕ)
model_of (Generate model plan) = Some model
model_of (Replay verilog stimulus) = None
model_of (Simulate model stimulus) = Some model
model_of (Explore model range) = Some model
model_of (Check model plan) = Some model
model_of (Stream model plan) = Some model

-- the word that names the Verilog text, of a command that reads one
abbrev pub verilog_of : Command → Option (List ℕ)
verilog_of (Generate model plan) = None
verilog_of (Replay verilog stimulus) = Some verilog
verilog_of (Simulate model stimulus) = None
verilog_of (Explore model range) = None
verilog_of (Check model plan) = None
verilog_of (Stream model plan) = None

-- the word that names the plan, of a command that reads one
abbrev pub plan_of : Command → Option PlanWord
plan_of (Generate model plan) = Some plan
plan_of (Replay verilog stimulus) = None
plan_of (Simulate model stimulus) = None
plan_of (Explore model range) = None
plan_of (Check model plan) = Some plan
plan_of (Stream model plan) = Some plan

-- the file of a plan, where there is one
abbrev pub plan_file : PlanWord → Option (List ℕ)
plan_file EmptyPlan = None
plan_file (Named file) = Some file

-- the word that names the table that is read line by line, a stimulus or a plan
abbrev pub table_of : Command → Option (List ℕ)
table_of (Generate model plan) = plan_file plan
table_of (Replay verilog stimulus) = Some stimulus
table_of (Simulate model stimulus) = Some stimulus
table_of (Explore model range) = None
table_of (Check model plan) = plan_file plan
table_of (Stream model plan) = plan_file plan

-- the word that names the file that is fetched first
abbrev pub first_of : Command → List ℕ
first_of (Generate model plan) = model
first_of (Replay verilog stimulus) = verilog
first_of (Simulate model stimulus) = model
first_of (Explore model range) = model
first_of (Check model plan) = model
first_of (Stream model plan) = model

-- the word of a plan, where it names a file
abbrev pub plan_files : PlanWord → List (List ℕ)
plan_files EmptyPlan = []
plan_files (Named file) = file ∷ []

-- the words that name files, in the order in which these are fetched
abbrev pub files_of : Command → List (List ℕ)
files_of (Generate model plan) = model ∷ plan_files plan
files_of (Replay verilog stimulus) = verilog ∷ stimulus ∷ []
files_of (Simulate model stimulus) = model ∷ stimulus ∷ []
files_of (Explore model range) = model ∷ []
files_of (Check model plan) = model ∷ plan_files plan
files_of (Stream model plan) = model ∷ plan_files plan
