use Rattle.std.proofs.Common.{◌≡◌, ◌-◌, length, take}
use Rattle.stake_weighted.specs.Seats.{iid_seats}
use Rattle.words.proofs.FrontLemmas.{with_front}
use Rattle.stake_weighted.proofs.quorum.draw_seats.Given as goal

abbrev pub invariant-loop-seat : goal.invariant-loop-seat
invariant-loop-seat g l =
    let words = g.W.WordSource.words in
    let i = l.seat-index in
    with_front (take i l.seats) (iid_seats (length l.seats - i) l.weights (words l.words)) ≡ iid_seats (length l.initial.seats) l.weights (words l.initial.words)
