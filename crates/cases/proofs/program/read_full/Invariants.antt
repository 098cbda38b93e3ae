use Rattle.std.proofs.Common.{◌-◌, ◌≤◌, length, max}
use Rattle.cases.proofs.program.read_full.Given as goal

abbrev pub invariant-loop-done : goal.invariant-loop-done
invariant-loop-done g l = l.done ≤ length l.text.items

abbrev pub decreases-loop-done : goal.decreases-loop-done
decreases-loop-done g l = max l.room (length l.text.items) - l.done
