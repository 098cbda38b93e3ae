use Rattle.std.proofs.Common.{◌≡◌, ◌≤◌, ◌-◌, length, take}
use Rattle.cases.specs.Numbers.{more, numbers}
use Rattle.cases.proofs.reader.Reader.fill.Given as goal

abbrev pub invariant-loop-number : goal.invariant-loop-number
invariant-loop-number l =
    (length l.places ≡ length l.fn.places)
    × (length l.self ≤ length l.fn.self)
    × (more (length l.places - l.number-index) (take l.number-index l.places) l.self ≡ numbers (length l.fn.places) l.fn.self)
