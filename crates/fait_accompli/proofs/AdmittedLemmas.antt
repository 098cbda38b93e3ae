-- The sizes of a call that is not turned down, and the words that it leaves.
use Rattle.std.proofs.Common.{◌≡◌, ℕ, ◌+◌, ◌≤◌, Option, Some, None, Ok, List, [], ◌∷◌, ◌++◌, length, arith, ltb-false}
use Rattle.refusals.specs.Refusal.{Check, first_of, list_length, size_of_some, short_buffer, sum_checks}
use Rattle.refusals.proofs.CheckLemmas.{past, within_limit}
use Rattle.words.specs.Draw.{after}
use Rattle.draws.specs.declared.weighted.Place.{Place}
use Rattle.stake_weighted.specs.Seats.{iid}
use Rattle.stake_weighted.proofs.AdmittedLemmas.{quorum_reads_only}
use Rattle.fixed_seats.specs.Fixed.{kept_of, further}
use Rattle.fill.specs.Columns.{Held}
use Rattle.partition.specs.Partition.{Parted}
use Rattle.partition.specs.Laws.{ReadsOnly}
use Rattle.partition.proofs.AdmittedLemmas.{partition_reads_only, have_places, have_stake}
use Rattle.fait_accompli.specs.declared.quorum.Fallback.{Fallback}
use Rattle.fait_accompli.specs.declared.quorum.Fallback.TheVariants.{Bins, Draws}
use Rattle.fait_accompli.specs.Seats.{size_of, Roomy}
use Rattle.fait_accompli.specs.Calls.{piece_checks, bin_checks}
use Rattle.fait_accompli.specs.Laws.{FallbackReadsOnly, CommitteeReadsOnly, CommitteeAdmitted, CommitteeSized}

pub fallback_reads_only : FallbackReadsOnly
fallback_reads_only (Bins k) weights b first second = partition_reads_only weights b first second
fallback_reads_only (Draws k) weights b first second = plain (iid b weights first) (quorum_reads_only b weights first)
  where
    plain : (drawn : Option (List Place) × List ℕ) → length drawn.1 ≤ length first →
        ReadsOnly first second (after {R = Option Parted × (List ℕ × List ℕ)} drawn (λ left. (None, (left, second))) (λ places left. (Some (record { drawn = places; pieces = [] }), (left, second))))
    plain (None, left) few = record { of_first = few; of_second = omega arith }
    plain (Some places, left) few = record { of_first = few; of_second = omega arith }

pub committee_reads_only : CommitteeReadsOnly
committee_reads_only f list first second = fallback_reads_only f (kept_of (size_of f) list) (further (size_of f) list) first second

-- a place for each piece, where no check of the columns applies, whatever checks follow
have_pieces : (f : Fallback) (n : ℕ) (held : Held) (checks : List Check) → first_of (piece_checks f n held ++ checks) ≡ Ok tt → Roomy f held n (size_of f)
have_pieces (Bins k) n held checks e = have_places held (n + k) checks e
have_pieces (Draws k) n held checks e = tt

pub committee_sized : CommitteeSized
committee_sized f list (seats, held) others e =
    let n = length list in
    let last = sum_checks list ++ others in
    let columns = piece_checks f n held ++ last in
    let a = past (list_length n) (size_of_some (size_of f) ∷ short_buffer (length seats) (size_of f) ∷ columns) e in
    let b = past (size_of_some (size_of f)) (short_buffer (length seats) (size_of f) ∷ columns) a.others in
    let c = past (short_buffer (length seats) (size_of f)) columns b.others in
    let stakes = within_limit 4096 n a.not_first in
    let size = within_limit 1024 (size_of f) b.not_first in
    record {
      some = stakes.some;
      list = stakes.most;
      seat = size.some;
      size = size.most;
      room = ltb-false (length seats) (size_of f) c.not_first;
      pieces = have_pieces f n held last c.others;
      some_stake = have_stake (piece_checks f n held) list others c.others;
    }

pub committee_admitted : CommitteeAdmitted
committee_admitted f list lent e = committee_sized f list lent (bin_checks f (kept_of (size_of f) list) (further (size_of f) list)) e
