-- "Partition of total S into b bins", and one seat from each.
use Rattle.std.specs.Prelude.{ℕ, ◌+◌, if◌then◌else◌, Option, Some, None, Result, List, [], ◌∷◌, length, sum, ◌==◌}
use Rattle.std.specs.Int.{div_ceil}
use Rattle.laws.specs.Orders.{ids_from}
use Rattle.refusals.specs.declared.refusal.Refusal.{Refusal}
use Rattle.refusals.specs.Refusal.{Check, short_buffer}
use Rattle.words.specs.Draw.{after}
use Rattle.draws.specs.declared.weighted.Place.{Place}
use Rattle.draws.specs.Weighted.{ids}
use Rattle.draws.specs.Shuffle.{shuffle}
use Rattle.fill.specs.declared.piece.Piece.{Piece}
use Rattle.fill.specs.Columns.{Held, columns_of}
use Rattle.fill.specs.Fill.{in_order, fill, pieces}
use Rattle.fill.specs.Values.{seats}

-- "capacity ceil(S / b)"
abbrev pub capacity : ℕ → ℕ → ℕ
capacity S b = div_ceil S b

-- "n + b pieces, none for b = 0"
abbrev pub most_pieces : ℕ → ℕ → ℕ
most_pieces n b = (if b == 0 then 0 else (n + b))

-- the seats drawn, one from each bin, and the pieces in fill order
pub record Parted : Type 0 where
  pub drawn : List Place
  pub pieces : List Piece

-- the seats by their ids, as they stand in a lent buffer: what a draw has beside the id goes no further
abbrev pub seat_ids : Parted → List ℕ
seat_ids p = ids p.drawn

-- "the whole list is shuffled by the first, then the bins are made and the seats drawn by the second": or none where a word is missing;
-- and what is left of both
abbrev pub over_bins : List ℕ → ℕ → ℕ → List ℕ → List ℕ → Option Parted × (List ℕ × List ℕ)
over_bins weights capacity b first second =
    let order = shuffle (ids_from 0 (length weights)) first in
    let bins = fill capacity b (in_order weights order.1) in
    after (order.0, order.2) (λ left. (None, (left, second)))
    (λ done left. after (seats bins second) (λ rest. (None, (left, rest)))
    (λ drawn rest. (Some (record { drawn = drawn; pieces = pieces 0 bins }), (left, rest))))

-- the same where there may be no bin: "with 0 bins nothing is shuffled and no word read"
abbrev pub parted : List ℕ → ℕ → List ℕ → List ℕ → Option Parted × (List ℕ × List ℕ)
parted weights b first second =
    (if b == 0 then (Some (record { drawn = []; pieces = [] }), (first, second))
    else over_bins weights (capacity (sum weights) b) b first second)

-- seats and pieces, or why there are none; and what is left of both sources
abbrev pub Given : Type 0
Given = Result Parted Refusal × (List ℕ × List ℕ)

-- each column needs a place for each piece
abbrev pub short_pieces : Held → ℕ → List Check
short_pieces (bins, validators, stakes) needed =
    short_buffer (length bins) needed ∷ short_buffer (length validators) needed ∷ short_buffer (length stakes) needed ∷ []

-- the number of pieces and the seats, and what the columns hold
abbrev pub placed : Held → Option Parted × (List ℕ × List ℕ) → Option (ℕ × List ℕ) × Held × List ℕ × List ℕ
placed held (None, (first, second)) = (None, held, first, second)
placed held (Some p, (first, second)) = (Some (length p.pieces, seat_ids p), columns_of p.pieces held, first, second)
