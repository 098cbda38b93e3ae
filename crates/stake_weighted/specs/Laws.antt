-- What is promised of every accepted call.
use Rattle.std.specs.Prelude.{ℕ, ◌≤◌, ◌≡◌, Ok, List, length, take, All, OnOk}
use Rattle.refusals.specs.Refusal.{first_of}
use Rattle.draws.specs.declared.weighted.Place.{Place}
use Rattle.draws.specs.Weighted.{Placed, HasWeight}
use Rattle.stake_weighted.specs.Seats.{iid}
use Rattle.stake_weighted.specs.Calls.{sampled, size_checks, quorum, sample_quorum}

-- `sample` picks a validator of the list, with a stake above 0
abbrev pub SamplePlaced : Type 0
SamplePlaced = (stakes ws : List ℕ) (p : Place) (left : List ℕ) → sampled stakes ws ≡ (Ok p, left) → Placed stakes p

-- a committee has k seats, and each is such a validator
pub record Committee (k : ℕ) (stakes : List ℕ) (places : List Place) : Type 0 where
  pub size : length places ≡ k
  pub placed : All (Placed stakes) places

abbrev pub QuorumPlaced : Type 0
QuorumPlaced =
    (stakes : List ℕ) (k room : ℕ) (ws : List ℕ) (places : List Place) (left : List ℕ) → quorum stakes k room ws ≡ (Ok places, left) →
    Committee k stakes places

-- the ids of such a committee
pub record IsCommittee (k : ℕ) (stakes : List ℕ) (seats : List ℕ) : Type 0 where
  pub size : length seats ≡ k
  pub have_stake : All (HasWeight stakes) seats

-- where a call is accepted, whatever the words, they stand at the front of what was lent
abbrev pub CallsGiveCommittees : Type 0
CallsGiveCommittees =
    (k : ℕ) (stakes held ws : List ℕ) →
    let call = sample_quorum k stakes held ws in OnOk call.0 (IsCommittee k stakes (take k call.1))

-- k draws leave no more words than there were, so the words read are the difference
abbrev pub QuorumReadsOnly : Type 0
QuorumReadsOnly = (k : ℕ) (stakes ws : List ℕ) → length (iid k stakes ws).1 ≤ length ws

-- the sizes of a call that they do not turn down
pub record Admitted (n k places : ℕ) : Type 0 where
  pub some : 1 ≤ n
  pub list : n ≤ 4096
  pub size : k ≤ 1024
  pub room : k ≤ places

abbrev pub QuorumAdmitted : Type 0
QuorumAdmitted = (n k places : ℕ) → first_of (size_checks n k places) ≡ Ok tt → Admitted n k places
