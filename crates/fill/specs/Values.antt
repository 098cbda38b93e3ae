-- A seat from each bin. A value is drawn for it before anything is known of the bin's shares, and chooses one of them later.
use Rattle.std.specs.Prelude.{ℕ, zero, suc, ◌+◌, ◌-◌, ◌*◌, ◌<◌, min, ◌&&◌, if◌then◌else◌, Option, Some, List, [], ◌∷◌, map, length, slice_index, set, ◌==◌, nat_lt}
use Rattle.words.specs.Draw.{and_then}
use Rattle.draws.specs.declared.weighted.Place.{Place}
use Rattle.draws.specs.Below.{below}
use Rattle.draws.specs.Weighted.{chosen, place_of, weighted}
use Rattle.fill.specs.declared.piece.Piece.{Piece}
use Rattle.fill.specs.declared.columns.Columns.{Columns}
use Rattle.fill.specs.Piece.{pieces_in}
use Rattle.fill.specs.Fill.{Share, share_stakes}

-- the validator whose share stands at a place of a bin
abbrev pub holder : List Share → ℕ → ℕ
holder bin at = slice_index (map (λ x. x.validator) bin) at

-- the validator at a place of a bin, with the remainder of the draw
abbrev pub seat_of : List Share → Place → Place
seat_of bin p = record { at = holder bin p.at; remainder = p.remainder }

-- "One weighted draw from each bin"
abbrev pub seat : List Share → List ℕ → Option Place × List ℕ
seat bin ws = and_then (weighted (share_stakes bin) ws) (λ p left. (Some (seat_of bin p), left))

-- "in bin order"
abbrev pub seats : List (List Share) → List ℕ → Option (List Place) × List ℕ
seats [] ws = (Some [], ws)
seats (bin ∷ bins) ws = and_then (seat bin ws) (λ one left. and_then (seats bins left) (λ others rest. (Some (one ∷ others), rest)))

-- the sums of b bins: the capacity, or what is left of the sum S of all stakes
abbrev pub bin_sums : ℕ → ℕ → ℕ → List ℕ
bin_sums capacity zero S = []
bin_sums capacity (suc b) S = min capacity S ∷ bin_sums capacity b (S - capacity)

-- a value below each of the sums
abbrev pub values_below : List ℕ → List ℕ → Option (List ℕ) × List ℕ
values_below [] ws = (Some [], ws)
values_below (m ∷ sums) ws = and_then (below m ws) (λ v left. and_then (values_below sums left) (λ vs rest. (Some (v ∷ vs), rest)))

-- each value is below the sum of its bin
abbrev pub Low : List ℕ → List ℕ → Type 0
Low sums values = (j : ℕ) → j < length sums → slice_index values j < slice_index sums j

-- the seats that values choose, each in its bin
abbrev pub choices : List (List Share) → List ℕ → List Place
choices [] vs = []
choices (bin ∷ bins) [] = []
choices (bin ∷ bins) (v ∷ vs) = seat_of bin (place_of (share_stakes bin) v) ∷ choices bins vs

-- the validators that values choose among all pieces, where the values of bin j count from j times the capacity on
abbrev pub seats_at : ℕ → List ℕ → List ℕ → ℕ → List ℕ → List ℕ
seats_at capacity validators stakes j [] = []
seats_at capacity validators stakes j (v ∷ vs) = slice_index validators (chosen stakes (j * capacity + v)) ∷ seats_at capacity validators stakes (j + 1) vs

-- the first n of the pieces that stand in columns
abbrev pub rows_of : ℕ → Columns → List Piece
rows_of n columns = pieces_in n columns.bins.now columns.validators.now columns.stakes.now

-- values with validators in their places, from the next bin on, by one piece after another: a piece of that bin gives its validator where
-- the value is below its stake, and else leaves what the value exceeds it by
abbrev pub replaced : ℕ → List Piece → List ℕ → List ℕ
replaced next [] held = held
replaced next (piece ∷ ps) held =
    (if piece.bin == next && nat_lt next (length held)
    then (if nat_lt (slice_index held next) piece.stake then replaced (next + 1) ps (set held next piece.validator)
    else replaced next ps (set held next (slice_index held next - piece.stake)))
    else replaced next ps held)
