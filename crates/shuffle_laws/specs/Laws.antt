-- What is promised of every step and of every order.
use Rattle.std.specs.Prelude.{ℕ, ◌<◌, ◌≤◌, ◌≡◌, Some, Result, OnOk, List, length, get_or, take, sum, AllPairs}
use Rattle.refusals.specs.declared.refusal.Refusal.{Refusal}
use Rattle.draws.specs.Weighted.{HasWeight}
use Rattle.tree.specs.declared.node.Node.{Node}
use Rattle.weighted_shuffle.specs.declared.entry.Order.{Order}
use Rattle.weighted_shuffle.specs.Entry.{shuffle, shuffled}
use Rattle.weighted_shuffle.specs.Order.{Left, Step, counted, step, steps, order}
use Rattle.shuffle_laws.specs.Orders.{count, IsOrder}

-- while weight is left, a step takes a position whose weight is above 0
abbrev pub StepsByWeight : Type 0
StepsByWeight = (left : Left) (ws : List ℕ) (s : Step) → 0 < sum left.weights → (step left ws).0 ≡ Some s → HasWeight left.weights s.position

-- after a position of weight zero come only such
abbrev pub ZerosLast : List ℕ → List ℕ → Type 0
ZerosLast weights ps = AllPairs (λ p q. get_or weights p 0 ≡ 0 → get_or weights q 0 ≡ 0) ps

-- the whole order of n weights is a permutation of 0 to n − 1, each position comes once, and the zeros stand last
pub record Whole (weights ps : List ℕ) : Type 0 where
  pub permutation : IsOrder (length weights) ps
  pub once : (p : ℕ) → p < length weights → count p ps ≡ 1
  pub zeros_last : ZerosLast (counted weights) ps

abbrev pub OrdersWhole : Type 0
OrdersWhole = (weights ws ps : List ℕ) → (order weights ws).0 ≡ Some ps → Whole weights ps

-- so where a call is accepted, a whole order stands at the front of what was lent
abbrev pub Law : List ℕ → Result Order Refusal × List ℕ × List Node → Type 0
Law weights call = OnOk call.0 (Whole weights (take (length weights) call.1))

abbrev pub CallsGiveWholeOrders : Type 0
CallsGiveWholeOrders = (weights held : List ℕ) (nodes : List Node) (ws : List ℕ) → Law weights (shuffle weights held nodes ws)

-- steps leave no more words than there were, so the words read are the difference
abbrev pub StepsReadOnly : Type 0
StepsReadOnly = (n : ℕ) (left : Left) (ws : List ℕ) → length (steps n left ws).1 ≤ length ws

-- nor does a call, accepted or not
abbrev pub OrdersReadOnly : Type 0
OrdersReadOnly = (weights : List ℕ) (places nodes : ℕ) (ws : List ℕ) → length (shuffled weights places nodes ws).1 ≤ length ws
