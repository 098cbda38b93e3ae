-- FA1 over bins: one statement about every accepted call.
--
-- It speaks of what such a call answers and of what it was lent then holds, by the definition that the call's contract equates them with,
-- whatever the stakes, the size, both lists of words and what the buffers held before.
use Rattle.std.specs.Prelude.{ℕ, ◌+◌, ◌*◌, ◌%◌, ◌≤◌, ◌<◌, ◌≡◌, Ok, List, [], ◌==◌, length, slice_index, take}
use Rattle.laws.specs.Sums.{total}
use Rattle.laws.specs.Counts.{count_below, count}
use Rattle.fill.specs.declared.piece.Piece.{Piece}
use Rattle.fill.specs.Piece.{pieces_in}
use Rattle.partition.specs.Pieces.{in_bin, of, sum_of_pieces, chooses}
use Rattle.fixed_seats.specs.Fixed.{fixed, kept, further}
use Rattle.fait_accompli.specs.declared.quorum.Fallback.TheVariants.{Bins}
use Rattle.fait_accompli.specs.declared.quorum.Committee.{Committee}
use Rattle.fait_accompli.specs.Calls.{sample_quorum}

-- The seats and pieces of a committee of size k from a list. i is a validator's id, so slice_index list i its stake s, and total list is T;
-- j is a bin's number; further k list is k', the number of bins.
pub record Fair (k : ℕ) (list seats : List ℕ) (k' : ℕ) (pieces : List Piece) : Type 0 where
  -- "positions among the k"
  pub size : length seats ≡ k
  -- k' is what the answer carries
  pub bins : k' ≡ further k list
  -- "A validator holds as many seats as there are positions among the k that name its id, fixed and drawn together": at least floor(s × k / T)
  pub at_least : (i : ℕ) → fixed k (total list) (slice_index list i) ≤ count i seats
  -- at most two more
  pub two_more : (i : ℕ) → count i seats ≤ fixed k (total list) (slice_index list i) + 2
  -- none more if T divides s × k
  pub none_more : (i : ℕ) → slice_index list i * k % total list ≡ 0 → count i seats ≡ fixed k (total list) (slice_index list i)
  -- "A bin is empty if its pieces sum to 0": none is
  pub none_empty : (j : ℕ) → j < k' → 0 < sum_of_pieces (in_bin j pieces)
  -- and there is no other bin: "With k' = 0 there is neither bin nor piece"
  pub none_beyond : (j : ℕ) → k' ≤ j → in_bin j pieces ≡ []
  -- "what the fill puts of a validator's kept stake": its pieces add up to the stake that its fixed seats left
  pub add_up : (i : ℕ) → sum_of_pieces (of i pieces) ≡ kept k (total list) (slice_index list i)
  -- "and nobody keeps anything" with k' = 0
  pub none_kept : k' ≡ 0 → (i : ℕ) → kept k (total list) (slice_index list i) ≡ 0
  -- "Draw values of a bin: the whole numbers below the sum of its pieces. A value chooses the validator whose piece is the weighted draw's
  -- answer for it": exactly as many choose a validator as its piece there counts
  pub values_choose : (i j : ℕ) →
      count_below (sum_of_pieces (in_bin j pieces)) (λ v. chooses (in_bin j pieces) v == i) ≡ sum_of_pieces (of i (in_bin j pieces))
  -- none where it has no piece
  pub none_without : (i j : ℕ) → of i (in_bin j pieces) ≡ [] →
      count_below (sum_of_pieces (in_bin j pieces)) (λ v. chooses (in_bin j pieces) v == i) ≡ 0
  -- "at most one for each bin"
  pub one_in_a_bin : (i j : ℕ) → length (of i (in_bin j pieces)) ≤ 1

-- every accepted call: r is its answer; the seats and the columns held anything before
abbrev pub CommitteesFair : Type 0
CommitteesFair =
    (k : ℕ) (list first second seats bins validators stakes : List ℕ) (r : Committee) →
    let call = sample_quorum (record { fallback = Bins k }) list (seats, (bins, validators, stakes)) first second in
    call.0 ≡ Ok r → Fair k list (take k call.1.0) r.further (pieces_in r.pieces call.1.1.0 call.1.1.1 call.1.1.2)
