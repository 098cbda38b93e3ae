-- Bins over a shuffled list.
use Rattle.std.proofs.Common.{◌≡◌, ℕ, zero, suc, ◌+◌, ◌*◌, ◌<◌, ◌≤◌, Option, Some, None, List, [], ◌∷◌, ◌++◌, length, take, set, refl, sym, ap, ◌∙◌, arith, IsPermutation}
use Rattle.std.specs.Prelude.{sum, All}
use Rattle.std.proofs.lemmas.List.{take_more_set}
use Rattle.std.proofs.lemmas.List.Elements.{All-nil, All-cons}
use Rattle.std.proofs.lemmas.List.Sorted.{All-permutation}
use Rattle.laws.specs.Orders.{ids_from}
use Rattle.laws.proofs.Std.{total_is_sum, permutation_is}
use Rattle.draws.specs.declared.weighted.Place.{Place}
use Rattle.draws.specs.Weighted.{ids}
use Rattle.draws.specs.Shuffle.{shuffle}
use Rattle.fill.specs.declared.piece.Piece.{Piece}
use Rattle.fill.specs.declared.columns.Columns.{Columns}
use Rattle.fill.specs.Columns.{Held, held_of, columns_of}
use Rattle.fill.specs.Fill.{Share, in_order, share_stakes, bin_total, fill, pieces}
use Rattle.fill.specs.Values.{bin_sums, values_below, Low, choices}
use Rattle.fill.proofs.SeatLemmas.{seats_by_values, fill_totals}
use Rattle.partition.specs.declared.checks.Bins.{Bins}
use Rattle.partition.specs.Partition.{Parted, over_bins, placed}
use Rattle.partition.proofs.OrderLaws.{order_total}

ids-more : (i n : ℕ) → ids_from i (suc n) ≡ ids_from i n ++ (i + n) ∷ []
ids-more i zero = let same : i ≡ i + 0 = omega arith in ap (λ (k : ℕ). k ∷ []) same
ids-more i (suc n) =
    let next : suc i + n ≡ i + suc n = omega arith in
    ap (λ (ids : List ℕ). i ∷ ids) (ids-more (suc i) n ∙ ap (λ (k : ℕ). ids_from (suc i) n ++ k ∷ []) next)

-- one more id is written
pub count_more : (order : List ℕ) (i : ℕ) → i < length order → take i order ≡ ids_from 0 i → take (i + 1) (set order i i) ≡ ids_from 0 (i + 1)
count_more order i within to =
    let next : i + 1 ≡ suc i = omega arith in
    let here : 0 + i ≡ i = omega arith in
    take_more_set order i i within ∙ ap (λ (ids : List ℕ). ids ++ i ∷ []) to ∙ ap (λ (k : ℕ). ids_from 0 i ++ k ∷ []) (sym here) ∙ sym (ids-more 0 i) ∙ ap (ids_from 0) (sym next)

ids-low : (i n m : ℕ) → i + n ≤ m → All (λ j. j < m) (ids_from i n)
ids-low i zero m low = All-nil (λ j. j < m)
ids-low i (suc n) m low = All-cons (λ j. j < m) i (ids_from (suc i) n) (omega arith) (ids-low (suc i) n m (omega arith))

-- the columns hold the pieces
placed_pieces : (old new : Columns) (places : List Place) (ps : List Piece) (left rest : List ℕ) → held_of new ≡ columns_of ps (held_of old) →
    ◌≡◌ {A = Option (ℕ × List ℕ) × Held × List ℕ × List ℕ}
    (Some (length ps, ids places), held_of new, left, rest)
    (placed (held_of old) (Some (record { drawn = places; pieces = ps }), (left, rest)))
placed_pieces old new places ps left rest begin = ap (λ (held : Held). (Some (length ps, ids places), held, left, rest)) begin

pub ids_low : (weights order : List ℕ) → IsPermutation (ids_from 0 (length weights)) order → All (λ i. i < length weights) order
ids_low weights order permuted = All-permutation (λ i. i < length weights) (ids_from 0 (length weights)) order permuted (ids-low 0 (length weights) (length weights) (omega arith))

module _ (weights : List ℕ) (bins : Bins) (order : List ℕ) (summed : bins.sum ≡ sum weights) (permuted : IsPermutation (ids_from 0 (length weights)) order) where
  pub same_total : bin_total (in_order weights order) ≡ bins.sum
  same_total =
      sym (total_is_sum (share_stakes (in_order weights order)))
      ∙ order_total weights order (permutation_is (ids_from 0 (length weights)) order permuted)
      ∙ total_is_sum weights
      ∙ sym summed

  pub enough_room : bin_total (in_order weights order) ≤ bins.number * bins.capacity
  enough_room = omega (arith, same_total, bins.room)

  pub values_fit : (vs : List ℕ) → Low (bin_sums bins.capacity bins.number bins.sum) vs → Low (bin_sums bins.capacity bins.number (bin_total (in_order weights order))) vs
  values_fit vs low = rw same_total low

  module _ (first second left : List ℕ) (done : Unit {0}) (shuffled : ◌≡◌ {A = Option (Unit {0}) × List ℕ × List ℕ} (Some done, order, left) (shuffle (ids_from 0 (length weights)) first)) where
    abbrev filled : List (List Share)
    filled = fill bins.capacity bins.number (in_order weights order)

    -- the seats of the bins, by the values
    all_drawn : (vs rest : List ℕ) → ◌≡◌ {A = Option (List ℕ) × List ℕ} (Some vs, rest) (values_below (bin_sums bins.capacity bins.number bins.sum) second) →
        ◌≡◌ {A = Option Parted × (List ℕ × List ℕ)} (Some (record { drawn = choices filled vs; pieces = pieces 0 filled }), (left, rest)) (over_bins weights bins.capacity bins.number first second)
    all_drawn vs rest drawn = rw (← shuffled, seats_by_values filled second, fill_totals bins.capacity bins.number (in_order weights order), same_total, ← drawn) refl

    -- the second words run out
    pub none_drawn : (rest : List ℕ) → ◌≡◌ {A = Option (List ℕ) × List ℕ} (None, rest) (values_below (bin_sums bins.capacity bins.number bins.sum) second) →
        ◌≡◌ {A = Option Parted × (List ℕ × List ℕ)} (None, (left, rest)) (over_bins weights bins.capacity bins.number first second)
    none_drawn rest drawn = rw (← shuffled, seats_by_values filled second, fill_totals bins.capacity bins.number (in_order weights order), same_total, ← drawn) refl

    -- all that a call gives
    pub all_placed : (count : ℕ) (vs rest seats : List ℕ) (old new : Columns) → ◌≡◌ {A = Option (List ℕ) × List ℕ} (Some vs, rest) (values_below (bin_sums bins.capacity bins.number bins.sum) second) →
        count ≡ length (pieces 0 filled) → held_of new ≡ columns_of (pieces 0 filled) (held_of old) → seats ≡ ids (choices filled vs) →
        ◌≡◌ {A = Option (ℕ × List ℕ) × Held × List ℕ × List ℕ}
        (Some (count, seats), held_of new, left, rest)
        (placed (held_of old) (over_bins weights bins.capacity bins.number first second))
    all_placed count vs rest seats old new drawn count_is begin seats_are =
        rw (count_is, seats_are)
        (placed_pieces old new (choices filled vs) (pieces 0 filled) left rest begin
        ∙ ap (placed (held_of old)) (all_drawn vs rest drawn))
