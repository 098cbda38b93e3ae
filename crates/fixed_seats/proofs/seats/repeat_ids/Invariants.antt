use Rattle.fixed_seats.proofs.SeatLemmas.{SeatedTo}
use Rattle.fixed_seats.proofs.seats.repeat_ids.Given as goal

abbrev pub invariant-loop-i : goal.invariant-loop-i
invariant-loop-i l = SeatedTo (λ n. n) (λ n. n) l.numbers l.initial.seats l.seats l.numbers l.at l.at l.i
