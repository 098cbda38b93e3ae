-- A call that is accepted leaves a whole order.
use Rattle.std.proofs.Common.{◌≡◌, Option, Some, None, Result, Ok, Err, List, length, drop, refl, take_at, ℕ}
use Rattle.refusals.specs.declared.refusal.Refusal.{Refusal}
use Rattle.refusals.specs.Refusal.{first_of}
use Rattle.laws.proofs.Ids.{order_long}
use Rattle.draws.specs.Call.{after_checks, or_no_word}
use Rattle.weighted_shuffle.specs.Order.{order}
use Rattle.weighted_shuffle.specs.Entry.{shuffle_checks, answered, without_words}
use Rattle.shuffle_laws.specs.Laws.{Whole, Law, CallsGiveWholeOrders}
use Rattle.shuffle_laws.proofs.IdLemmas.{permutes}
use Rattle.shuffle_laws.proofs.WholeLemmas.{orders_whole}

pub call_law : CallsGiveWholeOrders
call_law weights held nodes ws = checked (first_of (shuffle_checks (length weights) (length held) (length nodes)))
  where
    drawn : (draw : Option (List ℕ) × List ℕ) → ((ps : List ℕ) → draw.0 ≡ Some ps → Whole weights ps) → Law weights (without_words (answered weights held nodes ws (or_no_word draw)))
    drawn (None, left) whole = tt
    drawn (Some ps, left) whole =
        let known = whole ps refl in
        let long = order_long (length weights) ps (permutes _ ps known.permutation) in
        rw (take_at ps (drop (length ps) held) (length weights) long) known

    checked : (r : Result (Unit {0}) Refusal) → Law weights (without_words (answered weights held nodes ws (after_checks r ws (or_no_word (order weights ws)))))
    checked (Err refusal) = tt
    checked (Ok passed) = drawn (order weights ws) (orders_whole weights ws)
