-- Bins, pieces and draw values: what is counted of every accepted partition.
use Rattle.std.specs.Prelude.{ℕ, ◌+◌, ◌-◌, ◌*◌, ◌≤◌, ◌<◌, min, ◌≡◌, List, [], Ok, length, slice_index, ◌==◌}
use Rattle.laws.specs.Sums.{total}
use Rattle.laws.specs.Counts.{count_below, those}
use Rattle.draws.specs.Weighted.{chosen}
use Rattle.fill.specs.declared.piece.Piece.{Piece}
use Rattle.fill.specs.Piece.{validators_of, stakes_of}
use Rattle.partition.specs.Partition.{capacity, Parted, seat_ids}
use Rattle.partition.specs.Calls.{Lent, quorum}

-- the pieces in bin j
abbrev pub in_bin : ℕ → List Piece → List Piece
in_bin j ps = those (λ p. p.bin == j) ps

-- the pieces of validator i
abbrev pub of : ℕ → List Piece → List Piece
of i ps = those (λ p. p.validator == i) ps

-- the sum of pieces: "A bin is empty if its pieces sum to 0", and its draw values are "the whole numbers below the sum of its pieces"
abbrev pub sum_of_pieces : List Piece → ℕ
sum_of_pieces ps = total (stakes_of ps)

-- "A value chooses the validator whose piece is the weighted draw's answer for it"
abbrev pub chooses : List Piece → ℕ → ℕ
chooses ps v = slice_index (validators_of ps) (chosen (stakes_of ps) v)

-- b bins that are filled to the capacity with weights, by validator
pub record Filled (weights : List ℕ) (cap b : ℕ) (ps : List Piece) : Type 0 where
  pub none_empty : (j : ℕ) → j < b → 0 < sum_of_pieces (in_bin j ps)
  pub none_beyond : (j : ℕ) → b ≤ j → in_bin j ps ≡ []
  pub holds : (j : ℕ) → j < b → sum_of_pieces (in_bin j ps) ≡ min cap (total weights - j * cap)
  pub add_up : (i : ℕ) → sum_of_pieces (of i ps) ≡ slice_index weights i
  pub one_in_a_bin : (i j : ℕ) → length (of i (in_bin j ps)) ≤ 1
  pub values_choose : (i j : ℕ) → count_below (sum_of_pieces (in_bin j ps)) (λ v. chooses (in_bin j ps) v == i) ≡ sum_of_pieces (of i (in_bin j ps))
  pub few : length ps ≤ length weights + b

-- every accepted partition into b bins: as many seats, and bins that are filled so
pub record Partitioned (stakes : List ℕ) (b : ℕ) (p : Parted) : Type 0 where
  pub seats : length (seat_ids p) ≡ b
  pub bins : 0 < b → Filled stakes (capacity (total stakes) b) b p.pieces

abbrev pub PartitionsFilled : Type 0
PartitionsFilled =
    (stakes : List ℕ) (b : ℕ) (lent : Lent) (first second : List ℕ) (p : Parted) → (quorum stakes b lent first second).0 ≡ Ok p → Partitioned stakes b p
