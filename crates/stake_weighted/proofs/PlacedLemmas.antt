-- The places of an accepted call have stake.
use Rattle.std.proofs.Common.{◌≡◌, ℕ, zero, suc, ◌<◌, Some, Result, Ok, Err, List, [], ◌∷◌, length, take, drop, refl, ap, take_at}
use Rattle.std.specs.Prelude.{sum, All, OnOk}
use Rattle.std.proofs.lemmas.List.{length-map}
use Rattle.std.proofs.lemmas.List.Elements.{All-cons, All-nil, All-head, All-tail}
use Rattle.draws.proofs.WeightedLemmas.{placed_has_weight}
use Rattle.refusals.specs.declared.refusal.Refusal.{Refusal}
use Rattle.refusals.specs.Refusal.{first_of, list_length, sum_checks}
use Rattle.words.specs.Draw.{and_then}
use Rattle.draws.specs.declared.weighted.Place.{Place}
use Rattle.draws.specs.Weighted.{weighted, ids, Placed, HasWeight}
use Rattle.draws.specs.Call.{or_no_word}
use Rattle.draws.proofs.DrawLemmas.{went, weighted_placed}
use Rattle.draws.proofs.CallLemmas.{accepted, drawn, passed, some_sum}
use Rattle.stake_weighted.specs.Seats.{iid}
use Rattle.stake_weighted.specs.Calls.{sample_checks, size_checks, quorum_checks, quorum, quorum_answer}
use Rattle.stake_weighted.specs.Laws.{SamplePlaced, Committee, QuorumPlaced, IsCommittee, CallsGiveCommittees}

pub sample_placed : SamplePlaced
sample_placed stakes ws p left e =
    let call = accepted (first_of (sample_checks stakes)) ws (or_no_word (weighted stakes ws)) p (ap (λ r. r.0) e) in
    let some = some_sum stakes (passed (list_length (length stakes) ∷ []) (sum_checks stakes) call.passed).1 in
    weighted_placed stakes ws p some (drawn (weighted stakes ws) p call.is)

iid_placed : (k : ℕ) (stakes ws : List ℕ) (places : List Place) → 0 < sum stakes → (iid k stakes ws).0 ≡ Some places → Committee k stakes places
iid_placed zero stakes ws places some e =
    let none : ◌≡◌ {A = List Place} [] places = cc in
    rw (← none) (record { size = refl; placed = All-nil (Placed stakes) })
iid_placed (suc k) stakes ws places some e =
    let one = went (weighted stakes ws) (λ p left. and_then (iid k stakes left) (λ places rest. (Some (p ∷ places), rest))) places e in
    let others = went (iid k stakes one.rest) (λ places rest. (Some (one.value ∷ places), rest)) places one.second in
    let all : one.value ∷ others.value ≡ places = cc in
    let rest = iid_placed k stakes one.rest others.value some others.first in
    rw (← all) (record { size = ap suc rest.size; placed = All-cons (Placed stakes) _ _ (weighted_placed stakes ws one.value some one.first) rest.placed })

pub quorum_placed : QuorumPlaced
quorum_placed stakes k room ws places left e =
    let call = accepted (first_of (quorum_checks stakes k room)) ws (or_no_word (iid k stakes ws)) places (ap (λ r. r.0) e) in
    let some = some_sum stakes (passed (size_checks (length stakes) k room) (sum_checks stakes) call.passed).1 in
    iid_placed k stakes ws places some (drawn (iid k stakes ws) places call.is)

-- the ids of a committee
have_weight : (stakes : List ℕ) (places : List Place) → All (Placed stakes) places → All (HasWeight stakes) (ids places)
have_weight stakes [] are = All-nil (HasWeight stakes)
have_weight stakes (p ∷ places) are =
    All-cons (HasWeight stakes) p.at (ids places) (placed_has_weight stakes p (All-head (Placed stakes) p places are)) (have_weight stakes places (All-tail (Placed stakes) p places are))

ids_committee : (k : ℕ) (stakes : List ℕ) (places : List Place) → Committee k stakes places → IsCommittee k stakes (ids places)
ids_committee k stakes places are = record { size = rw length-map are.size; have_stake = have_weight stakes places are.placed }

pub calls_committee : CallsGiveCommittees
calls_committee k stakes held ws = answered (quorum stakes k (length held) ws) (quorum_placed stakes k (length held) ws)
  where
    answered : (call : Result (List Place) Refusal × List ℕ) → ((places : List Place) (left : List ℕ) → call ≡ (Ok places, left) → Committee k stakes places) →
        let answer = quorum_answer held ws call in OnOk answer.0 (IsCommittee k stakes (take k answer.1))
    answered (Err refusal, left) are = tt
    answered (Ok places, left) are =
        let known = ids_committee k stakes places (are places left refl) in
        rw (take_at (ids places) (drop (length (ids places)) held) k known.size) known
