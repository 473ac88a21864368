-- The limits of diagrams and plans (own).
use Rattle.std.specs.Prelude.{ℕ}

-- the most blocks of a model, and the greatest number of a port
abbrev pub most_blocks : ℕ
most_blocks = 20000

-- the most levels of Systems
abbrev pub most_levels : ℕ
most_levels = 64

-- the most elements of a signal
abbrev pub widest_signal : ℕ
widest_signal = 1024

-- the most entries of a list parameter, and the most parts of a Mux and of a Demux
abbrev pub longest_list : ℕ
longest_list = 1024

-- the most samples that a Delay keeps of an element
abbrev pub longest_delay : ℕ
longest_delay = 1024

-- the most elements of all output ports
abbrev pub most_output_elements : ℕ
most_output_elements = 200000

-- the most elements of all input ports
abbrev pub most_input_elements : ℕ
most_input_elements = 400000

-- the most samples that all Delays keep of all of their elements
abbrev pub most_delay_elements : ℕ
most_delay_elements = 4000000

-- the most base periods in a declared period
abbrev pub most_times : ℕ
most_times = 4096

-- the most clocks in a base sample
abbrev pub most_cycles : ℕ
most_cycles = 1024

-- the most multipliers of a plan
abbrev pub most_multipliers : ℕ
most_multipliers = 64

-- the most registers that a plan sets behind a block
abbrev pub most_stages : ℕ
most_stages = 64
