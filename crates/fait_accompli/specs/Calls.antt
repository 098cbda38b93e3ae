-- What a call of the sampler gives: the first refusal from its input, else the committee.
use Rattle.std.specs.Prelude.{ℕ, ◌+◌, Result, Ok, Err, List, [], ◌∷◌, ◌++◌, length}
use Rattle.refusals.specs.declared.refusal.Refusal.{Refusal}
use Rattle.refusals.specs.Refusal.{Check, first_of, list_length, size_of_some, short_buffer, sum_checks}
use Rattle.laws.specs.Buffers.{written}
use Rattle.words.specs.Draw.{words_read}
use Rattle.draws.specs.Call.{after_checks, or_no_word}
use Rattle.fill.specs.Columns.{Held, columns_of}
use Rattle.partition.specs.Partition.{short_pieces, Given}
use Rattle.partition.specs.Calls.{Lent}
use Rattle.partition.specs.Calls as partition
use Rattle.fixed_seats.specs.Fixed.{kept_of, further}
use Rattle.fait_accompli.specs.declared.quorum.Fallback.{Fallback}
use Rattle.fait_accompli.specs.declared.quorum.Fallback.TheVariants.{Bins, Draws}
use Rattle.fait_accompli.specs.declared.quorum.Committee.{Committee}
use Rattle.fait_accompli.specs.declared.quorum.FaitAccompli1Sampler.{FaitAccompli1Sampler}
use Rattle.fait_accompli.specs.Seats.{size_of, fallback, committee, seats_of}

-- 7 for the pieces: "n + k for FA1 over bins"
abbrev pub piece_checks : Fallback → ℕ → Held → List Check
piece_checks (Bins k) n held = short_pieces held (n + k)
piece_checks (Draws k) n held = []

-- 1, 2 and 7: by the sizes alone
abbrev pub size_checks : Fallback → List ℕ → Lent → List Check
size_checks f list (seats, held) =
    list_length (length list) ∷ size_of_some (size_of f) ∷ short_buffer (length seats) (size_of f) ∷ piece_checks f (length list) held

-- 11, for b seats over any weights
abbrev pub bin_checks : Fallback → List ℕ → ℕ → List Check
bin_checks (Bins k) weights b = partition.bin_checks weights b
bin_checks (Draws k) weights b = []

-- 1, 2, 7, 8, 9, and 11 over bins: "k' in FA1"
abbrev pub quorum_checks : Fallback → List ℕ → Lent → List Check
quorum_checks f list lent = size_checks f list lent ++ (sum_checks list ++ bin_checks f (kept_of (size_of f) list) (further (size_of f) list))

-- then the committee, and 12
abbrev pub quorum : Fallback → List ℕ → Lent → List ℕ → List ℕ → Given
quorum f list lent first second =
    after_checks (first_of (quorum_checks f list lent)) (first, second) (or_no_word (committee f list first second))

-- the answer, with k' and the words read of each source, and what all that was lent then holds
abbrev pub told : Fallback → List ℕ → Lent → List ℕ → List ℕ → Given → Result Committee Refusal × Lent
told f list lent first second (Err refusal, (left, rest)) = (Err refusal, lent)
told f list (seats, held) first second (Ok p, (left, rest)) = (
  Ok (record {
    further = further (size_of f) list;
    pieces = length p.pieces;
    first_words_read = words_read first left;
    second_words_read = words_read second rest;
  }),
  (written (seats_of f list p) seats, columns_of p.pieces held),
)

abbrev pub sample_quorum : FaitAccompli1Sampler → List ℕ → Lent → List ℕ → List ℕ → Result Committee Refusal × Lent
sample_quorum sampler list lent first second =
    told sampler.fallback list lent first second (quorum sampler.fallback list lent first second)

-- b seats over any weights: 11 over bins, else what the fallback gives
abbrev pub others : Fallback → List ℕ → ℕ → List ℕ → List ℕ → Given
others f weights b first second =
    after_checks (first_of (bin_checks f weights b)) (first, second) (or_no_word (fallback f weights b first second))

-- the same over what a list keeps
abbrev pub committee_over : Fallback → List ℕ → List ℕ → List ℕ → Given
committee_over f list first second = others f (kept_of (size_of f) list) (further (size_of f) list) first second
