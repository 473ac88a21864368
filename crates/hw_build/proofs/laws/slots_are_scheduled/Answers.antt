use Rattle.hw_build.proofs.laws.slots_are_scheduled.Goals as goal

pub returns : goal.returns
returns c = λ diagram plan latencies slots checked planned are. record { checked = checked; planned = planned; timed = are.timed; budget = are.budget }
