-- Laws of the pieces: what every accepted partition holds.
use Prim.Native.Nat.{ℕ, zero, suc, ◌+◌, ◌-◌, ◌*◌, ◌≤◌, ◌<◌, min}
use mathlib.Core.Path.{◌≡◌, refl, sym, ap, ◌∙◌}
use mathlib.Core.Bool.{Bool, true, false, cond}
use mathlib.Core.List.{List, [], ◌∷◌, ◌++◌, append-nil}
use native.Mathlib.Nat.{mul-le-mul_right, mul_comm}
use native.Mathlib.Omega.{arith}
use lib.Dec.{eqb}
use lib.ListN.{length, get_or, length-map, get_or-eq_default}
use borrow.Author.Tests.{eq-eqb, ne_eqb, leb-false, le-leb}
use Rattle.std.specs.Prelude.{Option, Some, None, Result, Ok, sum}
use Rattle.std.proofs.lemmas.Grind.{div_ceil_times}
use Rattle.laws.specs.Sums.{total, sum_of}
use Rattle.laws.specs.Counts.{count_below, count}
use Rattle.laws.specs.Orders.{Permutation, ids_from}
use Rattle.laws.proofs.Ids.{order_long}
use Rattle.laws.proofs.Lists.{those-append, those_sum, those-length}
use Rattle.laws.proofs.Std.{total_is_sum, permutation_is}
use Rattle.refusals.specs.declared.refusal.Refusal.{Refusal}
use Rattle.refusals.specs.Refusal.{Check, first_of, list_length, size, short_buffer, sum_checks, empty_bin}
use Rattle.words.specs.Draw.{after, and_then}
use Rattle.draws.specs.declared.weighted.Place.{Place}
use Rattle.draws.specs.Call.{after_checks, or_no_word}
use Rattle.draws.specs.Weighted.{weighted, weight_where, ids, Placed}
use Rattle.draws.specs.Shuffle.{shuffle}
use Rattle.draws.proofs.CallLemmas.{accepted, drawn}
use Rattle.draws.proofs.DrawLemmas.{went, weighted_placed}
use Rattle.draws.proofs.Fairness.{counting}
use Rattle.draws.proofs.ShuffleLemmas.{shuffle_permutes}
use Rattle.fill.specs.declared.piece.Piece.{Piece}
use Rattle.fill.specs.Piece.{validators_of, stakes_of}
use Rattle.fill.specs.Fill.{Share, in_order, share_stakes, bin_total, fill, numbered, pieces}
use Rattle.fill.specs.Values.{holder, seat_of, seat, seats}
use Rattle.fill.proofs.FillLaws.{numbered_sum, pieces_sum, Additive, measure, tally, fill_sums, fill_long, fill_adds, fill_single, fill_two, fill_positive, pieces_few, stakes_total}
use Rattle.partition.specs.Partition.{capacity, most_pieces, short_pieces, Parted, seat_ids, over_bins, parted}
use Rattle.partition.specs.Calls.{Lent, checks}
use Rattle.partition.specs.Pieces.{in_bin, of, sum_of_pieces, chooses, Filled, PartitionsFilled}
use Rattle.partition.proofs.OrderLaws.{order_total, order_weight, order_once, order_within}

-- ---- the pieces of a bin, and of a validator

-- 1 for a validator, 0 for the others; and the weight of that validator alone
abbrev pub one : ℕ → ℕ → ℕ
one i v = cond (eqb v i) 1 0

abbrev pub own : ℕ → ℕ → ℕ → ℕ
own i v a = cond (eqb v i) a 0

own_additive : (i : ℕ) → Additive (own i)
own_additive i = record { adds = λ v a b. go (eqb v i) a b; at_most = λ v a. less (eqb v i) a }
  where
    go : (t : Bool) (a b : ℕ) → cond t a 0 + cond t b 0 ≡ cond t (a + b) 0
    go true a b = refl
    go false a b = refl

    less : (t : Bool) (a : ℕ) → cond t a 0 ≤ a
    less true a = omega arith
    less false a = omega arith

numbered_all : (j : ℕ) (xs : List Share) → in_bin j (numbered j xs) ≡ numbered j xs
numbered_all j [] = refl
numbered_all j (x ∷ xs) = rw (eq-eqb j j refl) (ap (record { bin = j; validator = x.validator; stake = x.stake } ∷◌) (numbered_all j xs))

numbered_none : (i j : ℕ) (xs : List Share) → (j ≡ i → ⊥) → in_bin i (numbered j xs) ≡ []
numbered_none i j [] h = refl
numbered_none i j (x ∷ xs) h = rw (ne_eqb j i h) (numbered_none i j xs h)

before_none : (i j : ℕ) (bins : List (List Share)) → i < j → in_bin i (pieces j bins) ≡ []
before_none i j [] h = refl
before_none i j (xs ∷ bins) h =
    those-append (λ p. eqb p.bin i) (numbered j xs) (pieces (j + 1) bins)
    ∙ rw (numbered_none i j xs (λ e. omega arith)) (before_none i (j + 1) bins (omega arith))

-- the pieces with a bin's number are those of the bin
pub in_bin_lem : (i j t : ℕ) (bins : List (List Share)) → i ≡ j + t → in_bin i (pieces j bins) ≡ numbered i (get_or bins t [])
in_bin_lem i j t [] e = refl
in_bin_lem i j zero (xs ∷ bins) e =
    let q : i ≡ j = omega arith in
    those-append (λ p. eqb p.bin i) (numbered j xs) (pieces (j + 1) bins)
    ∙ rw (before_none i (j + 1) bins (omega arith), append-nil (in_bin i (numbered j xs)), q) (numbered_all j xs)
in_bin_lem i j (suc t) (xs ∷ bins) e =
    those-append (λ p. eqb p.bin i) (numbered j xs) (pieces (j + 1) bins)
    ∙ rw (numbered_none i j xs (λ q. omega arith)) (in_bin_lem i (j + 1) t bins (omega arith))

-- the stake of a validator's pieces, and their number
pub of_sum : (i : ℕ) (ps : List Piece) → sum_of_pieces (of i ps) ≡ sum_of (λ p. own i p.validator p.stake) ps
of_sum i ps = those_sum (λ p. eqb p.validator i) (λ p. p.stake) ps

pub of_number : (i : ℕ) (ps : List Piece) → length (of i ps) ≡ sum_of (λ p. one i p.validator) ps
of_number i ps = those-length (λ p. eqb p.validator i) ps

-- of the values below the sum of some pieces, exactly as many choose a validator as its pieces count
where_holder : (i : ℕ) (ps : List Piece) → weight_where (stakes_of ps) (λ p. eqb (get_or (validators_of ps) p 0) i) ≡ sum_of (λ p. own i p.validator p.stake) ps
where_holder i [] = refl
where_holder i (p ∷ ps) = ap (own i p.validator p.stake +◌) (where_holder i ps)

pub values_choose : (i : ℕ) (ps : List Piece) → count_below (sum_of_pieces ps) (λ v. eqb (chooses ps v) i) ≡ sum_of_pieces (of i ps)
values_choose i ps = counting (stakes_of ps) (λ p. eqb (get_or (validators_of ps) p 0) i) ∙ where_holder i ps ∙ sym (of_sum i ps)

-- ---- the seats drawn from bins

-- who is drawn from a bin has a share in it
holder_has : (i : ℕ) (xs : List Share) (at : ℕ) → at < length xs → one i (holder xs at) ≤ tally (one i) xs
holder_has i [] at h = absurd (omega arith)
holder_has i (x ∷ xs) zero h = omega arith
holder_has i (x ∷ xs) (suc at) h = omega (arith, holder_has i xs at (omega arith))

seat_has : (i : ℕ) (bin : List Share) (ws : List ℕ) (p : Place) → 0 < bin_total bin → (seat bin ws).0 ≡ Some p → one i p.at ≤ tally (one i) bin
seat_has i bin ws p h e =
    let g = went (weighted (share_stakes bin) ws) (λ q left. (Some (seat_of bin q), left)) p e in
    let w : Placed (share_stakes bin) g.value = weighted_placed (share_stakes bin) ws g.value h g.first in
    let q : seat_of bin g.value ≡ p = (let r = g.second in cc) in
    rw (← q) (holder_has i bin g.value.at (omega (arith, w.within, length-map bin (λ (x : Share). x.stake))))

-- a validator is drawn at most once for each bin that it has a share in
pub seats_have : (i : ℕ) (bins : List (List Share)) (ws : List ℕ) (ps : List Place) →
    ((j : ℕ) → j < length bins → 0 < bin_total (get_or bins j [])) → (seats bins ws).0 ≡ Some ps → (count i (ids ps) ≤ sum_of (tally (one i)) bins) × (length ps ≡ length bins)
seats_have i [] ws ps h e = let q : ◌≡◌ {A = List Place} [] ps = cc in rw (← q) (omega arith, refl)
seats_have i (bin ∷ bins) ws ps h e =
    let f = went (seat bin ws) (λ p left. and_then (seats bins left) (λ others rest. (Some (p ∷ others), rest))) ps e in
    let g = went (seats bins f.rest) (λ others rest. (Some (f.value ∷ others), rest)) ps f.second in
    let q : f.value ∷ g.value ≡ ps = (let r = g.second in cc) in
    let others = seats_have i bins f.rest g.value (λ j l. h (suc j) (omega arith)) g.first in
    rw (← q) (omega (arith, seat_has i bin ws f.value (h 0 (omega arith)) f.first, others.0), omega (arith, others.1))

-- ---- bins over any weights, capacity and number

-- what an accepted draw from b bins went through
pub record Over (weights : List ℕ) (cap b : ℕ) (second : List ℕ) (p : Parted) : Type 0 where
  pub order : List ℕ
  pub permutes : Permutation (ids_from 0 (length weights)) order
  pub pieces_are : p.pieces ≡ pieces 0 (fill cap b (in_order weights order))
  pub draws : (seats (fill cap b (in_order weights order)) second).0 ≡ Some p.drawn

pub over : (weights : List ℕ) (cap b : ℕ) (first second : List ℕ) (p : Parted) → (over_bins weights cap b first second).0 ≡ Some p → Over weights cap b second p
over weights cap b first second p e =
    let order = (shuffle (ids_from 0 (length weights)) first).1 in
    let bins = fill cap b (in_order weights order) in
    let g = parts (shuffle (ids_from 0 (length weights)) first).0 (shuffle (ids_from 0 (length weights)) first).2 (seats bins second) (pieces 0 bins) e in
    record {
      order = order;
      permutes = permutation_is (ids_from 0 (length weights)) order (shuffle_permutes (ids_from 0 (length weights)) first);
      pieces_are = g.0;
      draws = g.1;
    }
  where
    parts : (done : Option (Unit {0})) (left : List ℕ) (drawn : Option (List Place) × List ℕ) (ps : List Piece) →
        (after {R = Option Parted × (List ℕ × List ℕ)} (done, left) (λ left. (None, (left, second))) (λ done left. after drawn (λ rest. (None, (left, rest))) (λ places rest. (Some (record { drawn = places; pieces = ps }), (left, rest))))).0 ≡ Some p →
        (p.pieces ≡ ps) × (drawn.0 ≡ Some p.drawn)
    parts None left drawn ps e = cc
    parts (Some done) left (None, rest) ps e = cc
    parts (Some done) left (Some places, rest) ps e = let q : record { drawn = places; pieces = ps } ≡ p = cc in rw (← q) (refl, refl)

-- every bin gets something, where the last one does
bin_some : (S cap b j : ℕ) → j < b → (b - 1) * cap < S → S ≤ b * cap → 0 < min cap (S - j * cap)
bin_some S cap b j h l r = go (cap) refl
  where
    le : j ≤ b - 1
    le = omega arith

    go : (c : ℕ) → cap ≡ c → 0 < min cap (S - j * cap)
    go zero e = absurd (omega (arith, ap (b *◌) e))
    go (suc c) e = omega (arith, mul-le-mul_right cap le)

module _ (weights : List ℕ) (cap b : ℕ) (second : List ℕ) {p : Parted} (o : Over weights cap b second p) where
  abbrev shares : List Share
  shares = in_order weights o.order

  abbrev bins : List (List Share)
  bins = fill cap b shares

  whole : total (share_stakes shares) ≡ total weights
  whole = order_total weights o.order o.permutes

  here : (j : ℕ) → in_bin j p.pieces ≡ numbered j (get_or bins j [])
  here j = ap (in_bin j) o.pieces_are ∙ in_bin_lem j 0 j bins (omega arith)

  -- sums over all pieces, and over those of a bin
  all_sum : (f : ℕ → ℕ → ℕ) → sum_of (λ q. f q.validator q.stake) p.pieces ≡ sum_of (measure f) bins
  all_sum f = ap (sum_of (λ q. f q.validator q.stake)) o.pieces_are ∙ pieces_sum f 0 bins

  bin_sum : (f : ℕ → ℕ → ℕ) (j : ℕ) → sum_of (λ q. f q.validator q.stake) (in_bin j p.pieces) ≡ measure f (get_or bins j [])
  bin_sum f j = ap (sum_of (λ q. f q.validator q.stake)) (here j) ∙ numbered_sum f j (get_or bins j [])

  holds : (j : ℕ) → j < b → sum_of_pieces (in_bin j p.pieces) ≡ min cap (total weights - j * cap)
  holds j l = bin_sum (λ v a. a) j ∙ fill_sums cap b j shares l ∙ ap (λ (S : ℕ). min cap (S - j * cap)) whole

  once : (i j : ℕ) → length (of i (in_bin j p.pieces)) ≤ 1
  once i j = omega (arith, of_number i (in_bin j p.pieces), bin_sum (λ v a. one i v) j, fill_single (one i) cap b j shares, order_once weights o.order o.permutes i)

  pub number_le : length p.pieces ≤ length weights + b
  number_le = omega (arith, ap length o.pieces_are, pieces_few weights o.order cap b, order_long (length weights) o.order o.permutes)

  module _ (fits : total weights ≤ b * cap) (last : (b - 1) * cap < total weights) where
    adds : (i : ℕ) → sum_of (measure (own i)) bins ≡ get_or weights i 0
    adds i = fill_adds (own_additive i) cap b shares (omega (arith, whole)) ∙ order_weight weights o.order o.permutes i

    pub over_filled : Filled weights cap b p.pieces
    over_filled = record {
      none_empty = λ j l. omega (arith, holds j l, bin_some (total weights) cap b j l last fits);
      none_beyond = λ j l. here j ∙ ap (numbered j) (get_or-eq_default bins [] (omega (arith, fill_long cap b shares)));
      holds = holds;
      add_up = λ i. of_sum i p.pieces ∙ all_sum (own i) ∙ adds i;
      one_in_a_bin = once;
      values_choose = λ i j. values_choose i (in_bin j p.pieces);
      few = number_le;
    }

    bins_some : (j : ℕ) → j < length bins → 0 < bin_total (get_or bins j [])
    bins_some j l =
        let k : j < b = omega (arith, fill_long cap b shares) in
        omega (arith, stakes_total (get_or bins j []), fill_sums cap b j shares k, ap (λ (S : ℕ). min cap (S - j * cap)) whole, bin_some (total weights) cap b j k last fits)

    drawn_le : (i : ℕ) → count i (seat_ids p) ≤ sum_of (tally (one i)) bins
    drawn_le i = (seats_have i bins second p.drawn bins_some o.draws).0

    -- a validator without weight is not drawn
    pub over_none : (i : ℕ) → get_or weights i 0 ≡ 0 → count i (seat_ids p) ≡ 0
    over_none i z = omega (arith, drawn_le i, fill_positive (own i) (one i) (λ v x l. at_least (eqb v i) x l) cap b shares, adds i)
      where
        at_least : (t : Bool) (x : ℕ) → 0 < x → cond t 1 0 ≤ cond t x 0
        at_least true x l = l
        at_least false x l = omega arith

    -- one with a weight up to the capacity is drawn twice at the most
    pub over_two : ((i : ℕ) → get_or weights i 0 ≤ cap) → (i : ℕ) → count i (seat_ids p) ≤ 2
    over_two h i = omega (arith, drawn_le i, fill_two (one i) cap b shares (order_within cap weights o.order h), order_once weights o.order o.permutes i)

    -- as many seats as bins
    pub over_seats : length (seat_ids p) ≡ b
    over_seats = length-map p.drawn (λ (q : Place). q.at) ∙ (seats_have 0 bins second p.drawn bins_some o.draws).1 ∙ fill_long cap b shares

-- ---- every accepted partition

-- a check that stands among others which pass
pub passes_at : (before : List Check) (check : Check) (after : List Check) → first_of (before ++ check ∷ after) ≡ Ok tt → check.0 ≡ false
passes_at [] (true, refusal) after e = cc
passes_at [] (false, refusal) after e = refl
passes_at ((true, refusal) ∷ before) check after e = cc
passes_at ((false, refusal) ∷ before) check after e = passes_at before check after e

-- a call that is not refused has passed its checks
pub record Passed (checks : Result (Unit {0}) Refusal) (drawn : Option Parted × (List ℕ × List ℕ)) (p : Parted) : Type 0 where
  pub all : checks ≡ Ok tt
  pub is : drawn.0 ≡ Some p

pub passed : (checks : Result (Unit {0}) Refusal) (first second : List ℕ) (draw : Option Parted × (List ℕ × List ℕ)) (p : Parted) → (after_checks checks (first, second) (or_no_word draw)).0 ≡ Ok p → Passed checks draw p
passed checks first second draw p e = let u = accepted checks (first, second) (or_no_word draw) p e in record { all = u.passed; is = drawn draw p u.is }

none_empty : (stakes : List ℕ) (b : ℕ) (lent : Lent) → first_of (checks stakes b lent) ≡ Ok tt → (empty_bin (capacity (sum stakes) b) (sum stakes) b).0 ≡ false
none_empty stakes b (seats, (bins, validators, columns)) e =
    passes_at
    (list_length (length stakes) ∷ size b ∷ short_buffer (length seats) b ∷ (short_pieces (bins, validators, columns) (most_pieces (length stakes) b) ++ sum_checks stakes))
    (empty_bin (capacity (sum stakes) b) (sum stakes) b) [] e

-- b bins of the capacity have room for S
pub capacity_fits : (S b : ℕ) → 0 < b → S ≤ b * capacity S b
capacity_fits S b some = omega (arith, (div_ceil_times S b some).0, mul_comm b (capacity S b))

-- where no bin would be empty, the last gets something
pub last_some : (cap S b : ℕ) → 0 < b → (empty_bin cap S b).0 ≡ false → (b - 1) * cap < S
last_some cap S b some e = leb-false S ((b - 1) * cap) (rw (le-leb 1 b some) at e)

-- with a bin, something is drawn
pub parted_some : (weights : List ℕ) (b : ℕ) (first second : List ℕ) → 0 < b → parted weights b first second ≡ over_bins weights (capacity (sum weights) b) b first second
parted_some weights b first second some = rw (ne_eqb b 0 (λ e. omega arith)) refl

-- with none, no word is read; no proof cites it; docs/TRACE.md names it as a promise
pub parted_none : (weights : List ℕ) (b : ℕ) (first second : List ℕ) → b ≡ 0 → parted weights b first second ≡ (Some (record { drawn = []; pieces = [] }), (first, second))
parted_none weights b first second none = rw none refl

pub partitions_filled : PartitionsFilled
partitions_filled stakes zero lent first second p e =
    let u = passed (first_of (checks stakes 0 lent)) first second (parted stakes 0 first second) p e in
    let q : record { drawn = []; pieces = [] } ≡ p = (let is = u.is in cc) in
    rw (← q) (record { seats = refl; bins = λ h. absurd (omega arith) })
partitions_filled stakes (suc b) lent first second p e =
    let S = sum stakes in
    let cap = capacity S (suc b) in
    let u = passed (first_of (checks stakes (suc b) lent)) first second (parted stakes (suc b) first second) p e in
    let o = over stakes cap (suc b) first second p (rw (parted_some stakes (suc b) first second (omega arith)) at u.is) in
    let all : total stakes ≡ S = total_is_sum stakes in
    let fits : total stakes ≤ suc b * cap = omega (arith, all, capacity_fits S (suc b) (omega arith)) in
    let last : (suc b - 1) * cap < total stakes = omega (arith, all, last_some cap S (suc b) (omega arith) (none_empty stakes (suc b) lent u.all)) in
    record {
      seats = over_seats stakes cap (suc b) second o fits last;
      bins = λ h. rw all (over_filled stakes cap (suc b) second o fits last);
    }
