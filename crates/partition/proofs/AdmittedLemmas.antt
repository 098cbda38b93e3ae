-- The capacity, the sizes of a call that is not turned down, and the words that it leaves.
use Rattle.std.proofs.Common.{◌≡◌, ℕ, ◌≤◌, ◌<◌, Bool, true, false, if◌then◌else◌, Option, Some, None, Ok, List, [], ◌∷◌, ◌++◌, length, sum, arith, ltb-false}
use Rattle.std.specs.Prelude.{◌==◌}
use Rattle.std.proofs.lemmas.Grind.{div_ceil_times}
use Rattle.laws.specs.Orders.{ids_from}
use Rattle.refusals.specs.Refusal.{Check, first_of, list_length, size, short_buffer, sum_checks}
use Rattle.refusals.proofs.CheckLemmas.{past, within_limit}
use Rattle.words.specs.Draw.{after}
use Rattle.draws.specs.declared.weighted.Place.{Place}
use Rattle.draws.specs.Weighted.{weighted}
use Rattle.draws.specs.Shuffle.{shuffle}
use Rattle.draws.proofs.CallLemmas.{passed, some_sum}
use Rattle.draws.proofs.DrawLemmas.{after_leaves, draws_read_only}
use Rattle.fill.specs.declared.piece.Piece.{Piece}
use Rattle.fill.specs.Columns.{Held, HaveRoom}
use Rattle.fill.specs.Fill.{Share, share_stakes, in_order, fill, pieces}
use Rattle.fill.specs.Values.{seat, seats}
use Rattle.partition.specs.Partition.{capacity, most_pieces, short_pieces, Parted, over_bins}
use Rattle.partition.specs.Calls.{bin_checks}
use Rattle.partition.specs.Laws.{CapacityLeast, ReadsOnly, BinsReadOnly, PartitionReadsOnly, PartitionAdmitted, PartitionSized}
use Rattle.partition.proofs.PieceLaws.{capacity_fits}
use native.Mathlib.Nat.{mul_comm}

pub capacity_least : CapacityLeast
capacity_least S b some = record { fits = capacity_fits S b some; least = omega (arith, (div_ceil_times S b some).1, mul_comm b (capacity S b)) }

-- one seat, and those of all bins
seat_leaves : (bin : List Share) (ws : List ℕ) → length (seat bin ws).1 ≤ length ws
seat_leaves bin ws =
    after_leaves (λ (r : Option Place × List ℕ). r.1) (length ws) (weighted (share_stakes bin) ws) _ _ ((draws_read_only ws).of_weighted (share_stakes bin)) (λ left. omega arith) (λ p left. omega arith)

seats_leave : (bins : List (List Share)) (ws : List ℕ) → length (seats bins ws).1 ≤ length ws
seats_leave [] ws = omega arith
seats_leave (bin ∷ bins) ws =
    after_leaves (λ (r : Option (List Place) × List ℕ). r.1) (length ws) (seat bin ws) _ _ (seat_leaves bin ws) (λ left. omega arith)
    (λ one left. after_leaves (λ (r : Option (List Place) × List ℕ). r.1) (length left) (seats bins left) _ _ (seats_leave bins left) (λ rest. omega arith) (λ others rest. omega arith))

pub bins_read_only : BinsReadOnly
bins_read_only weights cap b first second =
    let ids = ids_from 0 (length weights) in
    let order = shuffle ids first in
    let bins = fill cap b (in_order weights order.1) in
    both order.0 order.2 (seats bins second) (pieces 0 bins) ((draws_read_only first).of_shuffle ids) (seats_leave bins second)
  where
    both : (done : Option (Unit {0})) (left : List ℕ) (drawn : Option (List Place) × List ℕ) (ps : List Piece) → length left ≤ length first → length drawn.1 ≤ length second →
        ReadsOnly first second (after {R = Option Parted × (List ℕ × List ℕ)} (done, left) (λ left. (None, (left, second))) (λ done left. after drawn (λ rest. (None, (left, rest))) (λ places rest. (Some (record { drawn = places; pieces = ps }), (left, rest)))))
    both None left drawn ps few less = record { of_first = few; of_second = omega arith }
    both (Some done) left (None, rest) ps few less = record { of_first = few; of_second = less }
    both (Some done) left (Some places, rest) ps few less = record { of_first = few; of_second = less }

pub partition_reads_only : PartitionReadsOnly
partition_reads_only weights b first second = go (b == 0)
  where
    go : (none : Bool) → ReadsOnly first second (if none then (Some (record { drawn = []; pieces = [] }), (first, second)) else over_bins weights (capacity (sum weights) b) b first second)
    go true = record { of_first = omega arith; of_second = omega arith }
    go false = bins_read_only weights (capacity (sum weights) b) b first second

-- the stakes sum to something, where no check of the columns or of the sum applies, whatever checks follow
pub have_stake : (columns : List Check) (stakes : List ℕ) (checks : List Check) → first_of (columns ++ (sum_checks stakes ++ checks)) ≡ Ok tt → 0 < sum stakes
have_stake columns stakes checks e = some_sum stakes (passed (sum_checks stakes) checks (passed columns (sum_checks stakes ++ checks) e).1).0

-- a place for each piece in each column, where no check of them applies, whatever checks follow
pub have_places : (held : Held) (needed : ℕ) (checks : List Check) → first_of (short_pieces held needed ++ checks) ≡ Ok tt → HaveRoom held needed
have_places (bins, validators, stakes) needed checks e =
    let a = past (short_buffer (length bins) needed) (short_buffer (length validators) needed ∷ short_buffer (length stakes) needed ∷ checks) e in
    let b = past (short_buffer (length validators) needed) (short_buffer (length stakes) needed ∷ checks) a.others in
    let c = past (short_buffer (length stakes) needed) checks b.others in
    record { bins = ltb-false (length bins) needed a.not_first; validators = ltb-false (length validators) needed b.not_first; stakes = ltb-false (length stakes) needed c.not_first }

pub partition_sized : PartitionSized
partition_sized stakes b (places, held) others e =
    let n = length stakes in
    let last = sum_checks stakes ++ others in
    let columns = short_pieces held (most_pieces n b) ++ last in
    let a = past (list_length n) (size b ∷ short_buffer (length places) b ∷ columns) e in
    let c = past (size b) (short_buffer (length places) b ∷ columns) a.others in
    let d = past (short_buffer (length places) b) columns c.others in
    let list = within_limit 4096 n a.not_first in
    record {
      some = list.some;
      list = list.most;
      size = ltb-false 1024 b c.not_first;
      room = ltb-false (length places) b d.not_first;
      pieces = have_places held (most_pieces n b) last d.others;
      some_stake = have_stake (short_pieces held (most_pieces n b)) stakes others d.others;
    }

pub partition_admitted : PartitionAdmitted
partition_admitted stakes b lent e = partition_sized stakes b lent (bin_checks stakes b) e
