-- What is promised of every accepted call, and of the words that it leaves.
use Rattle.std.specs.Prelude.{ℕ, ◌≤◌, ◌<◌, ◌≡◌, Ok, List, ◌++◌, length, sum}
use Rattle.refusals.specs.Refusal.{Check, first_of, sum_checks}
use Rattle.partition.specs.Calls.{Lent}
use Rattle.partition.specs.Laws.{ReadsOnly}
use Rattle.fait_accompli.specs.declared.quorum.Fallback.{Fallback}
use Rattle.fait_accompli.specs.Seats.{size_of, fallback, committee, Roomy}
use Rattle.fait_accompli.specs.Calls.{size_checks, quorum_checks}

-- further seats over any weights leave no more words of either source than there were, so the words read are the differences
abbrev pub FallbackReadsOnly : Type 0
FallbackReadsOnly = (f : Fallback) (weights : List ℕ) (b : ℕ) (first second : List ℕ) → ReadsOnly first second (fallback f weights b first second)

-- nor does a committee
abbrev pub CommitteeReadsOnly : Type 0
CommitteeReadsOnly = (f : Fallback) (list first second : List ℕ) → ReadsOnly first second (committee f list first second)

-- the sizes of a call that its checks do not turn down, and the sum of its stakes
pub record Admitted (f : Fallback) (stakes : List ℕ) (lent : Lent) : Type 0 where
  pub some : 1 ≤ length stakes
  pub list : length stakes ≤ 4096
  pub seat : 1 ≤ size_of f
  pub size : size_of f ≤ 1024
  pub room : size_of f ≤ length lent.0
  pub pieces : Roomy f lent.1 (length stakes) (size_of f)
  pub some_stake : 0 < sum stakes

abbrev pub CommitteeAdmitted : Type 0
CommitteeAdmitted = (f : Fallback) (list : List ℕ) (lent : Lent) → first_of (quorum_checks f list lent) ≡ Ok tt → Admitted f list lent

-- those of the sizes and of the sum are enough, whatever checks follow
abbrev pub CommitteeSized : Type 0
CommitteeSized =
    (f : Fallback) (list : List ℕ) (lent : Lent) (others : List Check) →
    first_of (size_checks f list lent ++ (sum_checks list ++ others)) ≡ Ok tt → Admitted f list lent
