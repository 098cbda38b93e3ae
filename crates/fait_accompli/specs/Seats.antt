-- "FA1": fixed seats, and further seats from the sampler's fallback. k is the committee's size.
use Rattle.std.specs.Prelude.{ℕ, ◌+◌, Option, Some, None, List, [], ◌++◌}
use Rattle.words.specs.Draw.{after}
use Rattle.stake_weighted.specs.Seats.{iid}
use Rattle.fill.specs.Columns.{Held, HaveRoom}
use Rattle.partition.specs.Partition.{Parted, parted, seat_ids}
use Rattle.fixed_seats.specs.Fixed.{fixed_of, kept_of, further, repeated}
use Rattle.fait_accompli.specs.declared.quorum.Fallback.{Fallback}
use Rattle.fait_accompli.specs.declared.quorum.Fallback.TheVariants.{Bins, Draws}

-- "the numbers that belong to it": the committee's size
abbrev pub size_of : Fallback → ℕ
size_of (Bins k) = k
size_of (Draws k) = k

-- b seats by plain draws: they make no piece, and leave the second words as they are
abbrev pub plain : List ℕ → ℕ → List ℕ → List ℕ → Option Parted × (List ℕ × List ℕ)
plain weights b first second =
    after (iid b weights first) (λ left. (None, (left, second)))
    (λ places left. (Some (record { drawn = places; pieces = [] }), (left, second)))

-- b seats over any weights: over bins they read both words, plain draws read the first
abbrev pub fallback : Fallback → List ℕ → ℕ → List ℕ → List ℕ → Option Parted × (List ℕ × List ℕ)
fallback (Bins k) weights b first second = parted weights b first second
fallback (Draws k) weights b first second = plain weights b first second

-- "The k' = k − (all fixed) further seats come from the fallback over what is kept"
abbrev pub committee : Fallback → List ℕ → List ℕ → List ℕ → Option Parted × (List ℕ × List ℕ)
committee f list first second = fallback f (kept_of (size_of f) list) (further (size_of f) list) first second

-- what stands in the lent seats: the fixed seats, "in list order, repeated", and then those drawn
abbrev pub seats_of : Fallback → List ℕ → Parted → List ℕ
seats_of f list p = repeated 0 (fixed_of (size_of f) list) ++ seat_ids p

-- over bins the columns have places for the pieces of n stakes and b seats
abbrev pub Roomy : Fallback → Held → ℕ → ℕ → Type 0
Roomy (Bins k) held n b = HaveRoom held (n + b)
Roomy (Draws k) held n b = Unit {0}
