-- The lists of a case of a call over bins: seats, and the bins, validators and stakes of pieces.
use Rattle.std.specs.Prelude.{ℕ, ◌≡◌, ◌<◌, ◌-◌, Bool, Option, Some, List, length, min, slice_index, take}
use Rattle.words.specs.Draw.{and_then}
use Rattle.cases.specs.Numbers.{list_if}
use Rattle.cases.specs.Lent.{IsHeld}
use Rattle.bins_cases.specs.declared.lists.Lists.{Lists}

-- four lists of a call that is to be accepted; of another, none
abbrev pub four_if : Bool → ℕ → List ℕ → Option (List ℕ × List ℕ × List ℕ × List ℕ) × List ℕ
four_if accepted most text =
    and_then (list_if accepted most text) (λ a rest. and_then (list_if accepted most rest) (λ b rest. and_then (list_if accepted most rest) (λ c rest.
    and_then (list_if accepted most rest) (λ d rest. (Some (a, b, c, d), rest)))))

-- so many places, or the most
pub record AreLent (lent : Lists) (places : List ℕ) : Type 0 where
  pub seats : length lent.seats.items ≡ min (slice_index places 0) 1100
  pub bins : length lent.bins.items ≡ min (slice_index places 1) 5300
  pub validators : length lent.validators.items ≡ min (slice_index places 2) 5300
  pub stakes : length lent.stakes.items ≡ min (slice_index places 3) 5300

-- the number at place i is 2^64 − 1 − i
abbrev pub CountsDown : List ℕ → Type 0
CountsDown buffer = (i : ℕ) → i < length buffer → slice_index buffer i ≡ 18446744073709551615 - i

-- so it is in each
pub record AllCountDown (lent : Lists) : Type 0 where
  pub seats : CountsDown lent.seats.items
  pub bins : CountsDown lent.bins.items
  pub validators : CountsDown lent.validators.items
  pub stakes : CountsDown lent.stakes.items

-- these numbers stand at the front of each, and past them what it held before
pub record AreHeld (lent before fronts : Lists) : Type 0 where
  pub seats : IsHeld (λ n. n) lent.seats.items before.seats.items fronts.seats.items
  pub bins : IsHeld (λ n. n) lent.bins.items before.bins.items fronts.bins.items
  pub validators : IsHeld (λ n. n) lent.validators.items before.validators.items fronts.validators.items
  pub stakes : IsHeld (λ n. n) lent.stakes.items before.stakes.items fronts.stakes.items

-- the numbers of lists
abbrev pub numbers_of : Lists → List ℕ × List ℕ × List ℕ × List ℕ
numbers_of lists = (lists.seats.items, lists.bins.items, lists.validators.items, lists.stakes.items)

-- lists as far as lent ones have places for them
pub record AreCut (cut lists lent : Lists) : Type 0 where
  pub seats : cut.seats.items ≡ take (length lent.seats.items) lists.seats.items
  pub bins : cut.bins.items ≡ take (length lent.bins.items) lists.bins.items
  pub validators : cut.validators.items ≡ take (length lent.validators.items) lists.validators.items
  pub stakes : cut.stakes.items ≡ take (length lent.stakes.items) lists.stakes.items
