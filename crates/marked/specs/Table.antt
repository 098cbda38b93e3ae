-- The marked cases of the scope, as one table: what the definitions give, and what the scope says.
use Rattle.std.specs.Prelude.{ℕ, ◌-◌, ◌^◌, ◌<◌, ◌≡◌, false, Option, Some, None, Result, Ok, Err, List, [], ◌∷◌, ◌++◌, pos, get_or, length, replicate, Float}
use Rattle.std.specs.Float.{fin}
use Rattle.laws.specs.Orders.{ids_from}
use Rattle.refusals.specs.declared.refusal.Refusal.{Refusal}
use Rattle.refusals.specs.Refusal.{number_of}
use Rattle.draws.specs.Below.{below}
use Rattle.draws.specs.Call.{or_no_word}
use Rattle.tries.specs.declared.seat.Seat.{Seat}
use Rattle.decaying_acceptance.specs.Calls.{one}
use Rattle.fill.specs.Piece.{bins_of, validators_of, stakes_of}
use Rattle.partition.specs.Partition.{seat_ids, Given}
use Rattle.partition.specs.Calls.{Lent}
use Rattle.partition.specs.Calls as bins
use Rattle.fixed_seats.specs.Fixed.{fixed_of, kept_of, further}
use Rattle.fait_accompli.specs.declared.quorum.Fallback.{Fallback}
use Rattle.fait_accompli.specs.declared.quorum.Fallback.TheVariants.{Bins}
use Rattle.fait_accompli.specs.Seats.{size_of, seats_of}
use Rattle.fait_accompli.specs.Calls as fa1
use Rattle.tree.specs.Sizes.{sizes}
use Rattle.tree.specs.Tree.{zero_node}
use Rattle.weighted_shuffle.specs.Entry.{shuffled}
use Rattle.turbine.specs.View.{Neighborhood}
use Rattle.turbine.specs.Calls.{view}

pub record Row : Type 0 where
  pub gives : List ℕ
  pub says : List ℕ

-- a value as numbers: 0, the value and the words that are left; or the refusal
abbrev pub told : Result ℕ Refusal × List ℕ → List ℕ
told (Ok v, left) = 0 ∷ v ∷ left
told (Err refusal, left) = number_of refusal ∷ []

-- a seat likewise: 0, the validator, the tries made and the words that are left; or the refusal
abbrev pub told_seat : Result Seat Refusal × List ℕ → List ℕ
told_seat (Ok s, left) = 0 ∷ s.place.at ∷ s.tries ∷ left
told_seat (Err refusal, left) = number_of refusal ∷ []

-- a partition: 0, the seats, then the bins, the validators and the stakes of the pieces; or the refusal
abbrev pub told_parted : Given → List ℕ
told_parted (Ok p, (left, rest)) = 0 ∷ (seat_ids p ++ (bins_of p.pieces ++ (validators_of p.pieces ++ stakes_of p.pieces)))
told_parted (Err refusal, (left, rest)) = number_of refusal ∷ []

-- a committee of a list: 0, how many seats are not fixed, then the same of all seats and the pieces; or the refusal
abbrev pub told_committee : Fallback → List ℕ → Given → List ℕ
told_committee f stakes (Ok p, (left, rest)) =
    0 ∷ further (size_of f) stakes
    ∷ (seats_of f stakes p ++ (bins_of p.pieces ++ (validators_of p.pieces ++ stakes_of p.pieces)))
told_committee f stakes (Err refusal, (left, rest)) = number_of refusal ∷ []

-- the sizes of a tree
abbrev pub told_sizes : ℕ → List ℕ
told_sizes n = (sizes n).num_nodes ∷ (sizes n).tree_size ∷ []

-- an order: 0 and the positions; or the refusal
abbrev pub told_order : Result (List ℕ) Refusal × List ℕ → List ℕ
told_order (Ok ps, left) = 0 ∷ ps
told_order (Err refusal, left) = number_of refusal ∷ []

-- a view: 0, the root, 0 for no parent or 1 and its id, then the children; or the refusal
abbrev pub told_parent : Option ℕ → List ℕ
told_parent None = 0 ∷ []
told_parent (Some id) = 1 ∷ id ∷ []

abbrev pub told_view : Result Neighborhood Refusal × List ℕ → List ℕ
told_view (Ok v, left) = 0 ∷ v.root ∷ (told_parent v.parent ++ v.children)
told_view (Err refusal, left) = number_of refusal ∷ []

-- buffers that are long enough
abbrev enough : Lent
enough = (replicate 64 0, (replicate 128 0, replicate 128 0, replicate 128 0))

-- a partition in so many bins, by words for the shuffle and for the seats
abbrev partition : List ℕ → ℕ → List ℕ → List ℕ → List ℕ
partition stakes b first second = told_parted (bins.quorum stakes b enough first second)

-- a committee of k seats over bins
abbrev committee : ℕ → List ℕ → List ℕ → List ℕ → List ℕ
committee k stakes first second = told_committee (Bins k) stakes (fa1.quorum (Bins k) stakes enough first second)

-- `max_samples` 2.0
abbrev two_f : Float
two_f = fin false 1 (pos 1)

-- one seat of a single validator with count 1, where one try is allowed: the word 0 draws the validator, the other the fraction
abbrev count_one : ℕ → List ℕ
count_one word = told_seat (one (record { limits = record { max_samples = two_f; tries_allowed = 1 }; k = 0 }) (1 ∷ []) (1 ∷ []) (0 ∷ word ∷ []))

abbrev pub table : List Row
table =
    -- draw below 10 of 13
    record { gives = told (or_no_word (below 10 (13 ∷ []))); says = 0 ∷ 3 ∷ [] }
    -- the same after a word that is skipped
    ∷ record { gives = told (or_no_word (below 10 (18446744073709551610 ∷ 13 ∷ []))); says = 0 ∷ 3 ∷ [] }
    -- k = 49: 49 stakes of 1 have one fixed seat each, and no word is read
    ∷ record { gives = committee 49 (replicate 49 1) [] []; says = 0 ∷ 0 ∷ ids_from 0 49 }
    -- total 5 in 4: the last bin would be empty
    ∷ record { gives = partition (5 ∷ []) 4 [] (0 ∷ 0 ∷ 0 ∷ 0 ∷ []); says = 11 ∷ [] }
    -- 5 in 3: bins of 2, 2 and 1
    ∷ record { gives = partition (5 ∷ []) 3 [] (0 ∷ 0 ∷ 0 ∷ []); says = 0 ∷ 0 ∷ 0 ∷ 0 ∷ 0 ∷ 1 ∷ 2 ∷ 0 ∷ 0 ∷ 0 ∷ 2 ∷ 2 ∷ 1 ∷ [] }
    -- 7 in 4: bins of 2, 2, 2 and 1
    ∷ record {
      gives = partition (7 ∷ []) 4 [] (0 ∷ 0 ∷ 0 ∷ 0 ∷ []);
      says = 0 ∷ 0 ∷ 0 ∷ 0 ∷ 0 ∷ 0 ∷ 1 ∷ 2 ∷ 3 ∷ 0 ∷ 0 ∷ 0 ∷ 0 ∷ 2 ∷ 2 ∷ 2 ∷ 1 ∷ [];
    }
    -- stakes 3, 0, 4 in 2 bins, unshuffled by the words 1 and 2: bin 0 holds 3 of validator 0 and 1 of 2, bin 1 holds 3 of 2
    ∷ record { gives = partition (3 ∷ 0 ∷ 4 ∷ []) 2 (1 ∷ 2 ∷ []) (3 ∷ 0 ∷ []); says = 0 ∷ 2 ∷ 2 ∷ 0 ∷ 0 ∷ 1 ∷ 0 ∷ 2 ∷ 2 ∷ 3 ∷ 1 ∷ 3 ∷ [] }
    -- stakes 5, 3, 2 with k = 4: fixed 2, 1, 0
    ∷ record { gives = fixed_of 4 (5 ∷ 3 ∷ 2 ∷ []); says = 2 ∷ 1 ∷ 0 ∷ [] }
    -- kept 0, 1, 2
    ∷ record { gives = kept_of 4 (5 ∷ 3 ∷ 2 ∷ []); says = 0 ∷ 1 ∷ 2 ∷ [] }
    -- one bin: with the order 0, 1, 2 it holds 1 of validator 1 and 2 of 2, and the value 1 chooses 2
    ∷ record { gives = committee 4 (5 ∷ 3 ∷ 2 ∷ []) (1 ∷ 2 ∷ []) (1 ∷ []); says = 0 ∷ 1 ∷ 0 ∷ 0 ∷ 1 ∷ 2 ∷ 0 ∷ 0 ∷ 1 ∷ 2 ∷ 1 ∷ 2 ∷ [] }
    -- count 1, `max_samples` 2.0: word 2^63 accepted
    ∷ record { gives = count_one (2 ^ 63); says = 0 ∷ 0 ∷ 1 ∷ [] }
    -- 2^63 − 1 rejected
    ∷ record { gives = count_one (2 ^ 63 - 1); says = 13 ∷ [] }
    -- sizes for 16: `num_nodes` 1, tree size 1
    ∷ record { gives = told_sizes 16; says = 1 ∷ 1 ∷ [] }
    -- for 17: 17 and 3
    ∷ record { gives = told_sizes 17; says = 17 ∷ 3 ∷ [] }
    -- shuffle of 2, 0, 3 with words 4, 1, 0: order 2, 0, 1
    ∷ record { gives = told_order (shuffled (2 ∷ 0 ∷ 3 ∷ []) 3 1 (4 ∷ 1 ∷ 0 ∷ [])); says = 0 ∷ 2 ∷ 0 ∷ 1 ∷ [] }
    -- on it fanout 2, own 2: the root, with children 0, 1
    ∷ record {
      gives = told_view (view (2 ∷ 0 ∷ 3 ∷ []) 2 2 (replicate 3 0, zero_node ∷ [], replicate 2 0) (4 ∷ 1 ∷ 0 ∷ []));
      says = 0 ∷ 2 ∷ 0 ∷ 0 ∷ 1 ∷ [];
    }
    ∷ []

-- the row at i; past the table's end, an empty one
abbrev pub row_of : List Row → ℕ → Row
row_of rows i = get_or rows i (record { gives = []; says = [] })

-- at each row of the table the definitions give what the scope says
abbrev pub CasesHold : Type 0
CasesHold = (i : ℕ) → i < length table → (row_of table i).gives ≡ (row_of table i).says
