-- The words that an order leaves.
use Rattle.std.proofs.Common.{ℕ, zero, suc, ◌≤◌, Bool, true, false, if◌then◌else◌, Option, Some, Result, Ok, Err, List, length, sum, arith}
use Rattle.std.specs.Prelude.{nat_lt}
use Rattle.refusals.specs.declared.refusal.Refusal.{Refusal}
use Rattle.refusals.specs.Refusal.{first_of}
use Rattle.words.specs.Draw.{and_then}
use Rattle.draws.specs.Below.{below}
use Rattle.draws.specs.Weighted.{weighted}
use Rattle.draws.specs.Call.{after_checks, or_no_word}
use Rattle.draws.proofs.CallLemmas.{left_as_drawn}
use Rattle.draws.proofs.DrawLemmas.{after_leaves, draws_read_only}
use Rattle.weighted_shuffle.specs.Order.{Left, Step, take_weight, take_zero, step, steps, whole, order}
use Rattle.weighted_shuffle.specs.Entry.{shuffle_checks}
use Rattle.shuffle_laws.specs.Laws.{StepsReadOnly, OrdersReadOnly}

step_leaves : (left : Left) (ws : List ℕ) → length (step left ws).1 ≤ length ws
step_leaves left ws = go (nat_lt 0 (sum left.weights))
  where
    go : (by_weight : Bool) → length (if by_weight then and_then (weighted left.weights ws) (λ p rest. (Some (take_weight left p.at), rest)) else and_then (below (length left.zeros) ws) (λ i rest. (Some (take_zero left i), rest))).1 ≤ length ws
    go true = after_leaves (λ (r : Option Step × List ℕ). r.1) (length ws) (weighted left.weights ws) _ _ ((draws_read_only ws).of_weighted left.weights) (λ rest. omega arith) (λ p rest. omega arith)
    go false = after_leaves (λ (r : Option Step × List ℕ). r.1) (length ws) (below (length left.zeros) ws) _ _ ((draws_read_only ws).of_below (length left.zeros)) (λ rest. omega arith) (λ i rest. omega arith)

pub steps_read_only : StepsReadOnly
steps_read_only zero left ws = omega arith
steps_read_only (suc n) left ws =
    after_leaves (λ (r : Option (List ℕ) × List ℕ). r.1) (length ws) (step left ws) _ _ (step_leaves left ws) (λ rest. omega arith)
    (λ s rest. after_leaves (λ (r : Option (List ℕ) × List ℕ). r.1) (length rest) (steps n s.rest rest) _ _ (steps_read_only n s.rest rest) (λ last. omega arith) (λ ps last. omega arith))

pub orders_read_only : OrdersReadOnly
orders_read_only weights places nodes ws = checked (first_of (shuffle_checks (length weights) places nodes))
  where
    checked : (r : Result (Unit {0}) Refusal) → length (after_checks r ws (or_no_word (order weights ws))).1 ≤ length ws
    checked (Err refusal) = omega arith
    checked (Ok passed) = rw (left_as_drawn (order weights ws)) (steps_read_only (length weights) (whole weights) ws)
