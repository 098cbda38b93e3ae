use Rattle.std.proofs.Common.{◌<◌, arith}
use Rattle.std.specs.Prelude.{sum}
use Rattle.fixed_seats.proofs.SeatLemmas.{fixed_within}
use Rattle.fait_accompli.proofs.quorum.FaitAccompli1Sampler.draw_in.Goals as goal

pub seat_fixed-fixed-requires-clause-seats : goal.seat_fixed-fixed-requires-clause-seats
seat_fixed-fixed-requires-clause-seats g c =
    let some : 0 < sum c.args.stakes.now = omega (arith, c.requires.sum, c.args.division.divided.some) in
    omega (arith, fixed_within c.args.division.seats c.args.stakes.now some, c.requires.size, c.requires.space, c.split_at_mut-space.ensures.back_len, c.split_at_mut-kept.ensures.back_len)
