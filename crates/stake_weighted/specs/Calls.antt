-- What a call gives: the first refusal from its input, else the draws.
use Rattle.std.specs.Prelude.{ℕ, Result, Ok, Err, List, [], ◌∷◌, ◌++◌, length}
use Rattle.refusals.specs.declared.refusal.Refusal.{Refusal}
use Rattle.refusals.specs.Refusal.{Check, first_of, list_length, size, short_buffer, sum_checks}
use Rattle.laws.specs.Buffers.{written}
use Rattle.words.specs.Draw.{words_read}
use Rattle.draws.specs.declared.weighted.Place.{Place}
use Rattle.draws.specs.Weighted.{weighted, ids}
use Rattle.draws.specs.Call.{after_checks, or_no_word}
use Rattle.stake_weighted.specs.declared.sample.Sample.{Sample}
use Rattle.stake_weighted.specs.declared.quorum.Quorum.{Quorum}
use Rattle.stake_weighted.specs.Seats.{iid}

-- `StakeWeightedSampler::sample`: 1, 8, 9
abbrev pub sample_checks : List ℕ → List Check
sample_checks stakes = list_length (length stakes) ∷ sum_checks stakes

-- then one weighted draw, and 12
abbrev pub sampled : List ℕ → List ℕ → Result Place Refusal × List ℕ
sampled stakes ws = after_checks (first_of (sample_checks stakes)) ws (or_no_word (weighted stakes ws))

-- the answer: the validator and the words read
abbrev pub sample_answer : List ℕ → Result Place Refusal × List ℕ → Result Sample Refusal
sample_answer ws (Err refusal, left) = Err refusal
sample_answer ws (Ok p, left) = Ok (record { id = p.at; words_read = words_read ws left })

-- a call of `sample`
abbrev pub sample : List ℕ → List ℕ → Result Sample Refusal
sample stakes ws = sample_answer ws (sampled stakes ws)

-- 1, 2 and 7: by the sizes alone
abbrev pub size_checks : ℕ → ℕ → ℕ → List Check
size_checks n k room = list_length n ∷ size k ∷ short_buffer room k ∷ []

-- `IidQuorumSampler::sample_quorum`, with a lent buffer of `room` places for the seats: 1, 2, 7, 8, 9
abbrev pub quorum_checks : List ℕ → ℕ → ℕ → List Check
quorum_checks stakes k room = size_checks (length stakes) k room ++ sum_checks stakes

-- then k weighted draws, and 12
abbrev pub quorum : List ℕ → ℕ → ℕ → List ℕ → Result (List Place) Refusal × List ℕ
quorum stakes k room ws = after_checks (first_of (quorum_checks stakes k room)) ws (or_no_word (iid k stakes ws))

-- the answer, and what the lent seats hold after it: the ids, and past them what they held; all that they held where the call is
-- refused
abbrev pub quorum_answer : List ℕ → List ℕ → Result (List Place) Refusal × List ℕ → Result Quorum Refusal × List ℕ
quorum_answer held ws (Err refusal, left) = (Err refusal, held)
quorum_answer held ws (Ok places, left) =
    (Ok (record { words_read = words_read ws left }), written (ids places) held)

-- a call of `sample_quorum`
abbrev pub sample_quorum : ℕ → List ℕ → List ℕ → List ℕ → Result Quorum Refusal × List ℕ
sample_quorum k stakes held ws = quorum_answer held ws (quorum stakes k (length held) ws)
