use Rattle.std.proofs.Common.{arith}
use Rattle.fixed_seats.proofs.SeatLemmas.{next_within, repeated_more}
use Rattle.fixed_seats.proofs.seats.repeat_ids.Goals as goal

pub loop-i-preserved : goal.loop-i-preserved
loop-i-preserved c =
    repeated_more _ _ _ _ _ c.loop-i.invariant _ c.loop-i-test.true (omega (arith, next_within _ _ _ _ _ c.loop-i.invariant c.loop-i-test.true, c.requires)) (c.fill.ensures.after (λ y e. e))
