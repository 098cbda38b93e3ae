-- Every accepted call of FA1 over bins gives a fair committee.
use Prim.Native.Nat.{ℕ, zero, suc, ◌+◌, ◌-◌, ◌*◌, ◌≤◌, ◌<◌}
use mathlib.Core.Path.{◌≡◌, refl, sym, ap, ◌∙◌}
use mathlib.Core.Bool.{false, cond}
use mathlib.Core.List.{List, [], ◌∷◌, ◌++◌}
use native.Mathlib.Omega.{arith}
use lib.Dec.{eqb}
use lib.ListN.{length, get_or, take, drop, replicate, length-append, length-replicate}
use lib.Seq.{take_at}
use borrow.Author.Tests.{eq-eqb, ne_eqb}
use Rattle.std.proofs.lemmas.List.Folds.{sum_by-replicate}
use Rattle.std.specs.Prelude.{sum, Some, Ok, Err}
use Rattle.laws.specs.Sums.{total}
use Rattle.laws.specs.Counts.{count}
use Rattle.laws.proofs.Counts.{count_none}
use Rattle.laws.proofs.Lists.{sum_append}
use Rattle.laws.proofs.Std.{total_is_sum, sum_of_is_sum_by}
use Rattle.refusals.specs.Refusal.{first_of, list_length, size_of_some, is_over_or_zero, short_buffer, sum_past, total_zero, empty_bin}
use Rattle.fill.specs.Piece.{pieces_in}
use Rattle.fill.proofs.ChooseLemmas.{columns_hold}
use Rattle.fixed_seats.specs.Fixed.{fixed, fixed_of, kept_of, further, repeated}
use Rattle.fixed_seats.proofs.SeatLemmas.{sum-cons}
use Rattle.partition.specs.Partition.{capacity, Parted, parted, seat_ids, Given, short_pieces}
use Rattle.partition.specs.Pieces.{sum_of_pieces, Filled}
use Rattle.partition.proofs.PieceLaws.{over, over_filled, over_none, over_two, over_seats, capacity_fits, last_some, parted_some, passes_at, passed}
use Rattle.fait_accompli.specs.declared.quorum.Fallback.TheVariants.{Bins}
use Rattle.fait_accompli.specs.Seats.{committee, seats_of}
use Rattle.fait_accompli.specs.Calls.{quorum_checks, quorum, told}
use Rattle.together.specs.Committees.{Fair, CommitteesFair}
use Rattle.together.proofs.KeptLaws.{fixed_at, kept_at, fixed_le, kept_none, nobody, kept_le}

-- ---- how often an id stands among repeated ids

count-replicate : (i c x : ℕ) → count i (replicate c x) ≡ c * cond (eqb x i) 1 0
count-replicate i c x = sum_of_is_sum_by (λ y. cond (eqb y i) 1 0) (replicate c x) ∙ sum_by-replicate (λ y. cond (eqb y i) 1 0) c x

count-append : (i : ℕ) (xs ys : List ℕ) → count i (xs ++ ys) ≡ count i xs + count i ys
count-append i xs ys = sum_append (λ x. cond (eqb x i) 1 0) xs ys

repeated_none : (i j : ℕ) (cs : List ℕ) → i < j → count i (repeated j cs) ≡ 0
repeated_none i j [] h = refl
repeated_none i j (c ∷ cs) h =
    omega (arith, count-append i (replicate c j) (repeated (j + 1) cs), rw (ne_eqb j i (λ e. omega arith)) at (count-replicate i c j), repeated_none i (j + 1) cs (omega arith))

count-repeated : (i j p : ℕ) (cs : List ℕ) → i ≡ j + p → count i (repeated j cs) ≡ get_or cs p 0
count-repeated i j p [] e = refl
count-repeated i j zero (c ∷ cs) e =
    omega (arith, count-append i (replicate c j) (repeated (j + 1) cs), rw (eq-eqb j i (omega arith)) at (count-replicate i c j), repeated_none i (j + 1) cs (omega arith))
count-repeated i j (suc p) (c ∷ cs) e =
    omega (arith, count-append i (replicate c j) (repeated (j + 1) cs), rw (ne_eqb j i (λ q. omega arith)) at (count-replicate i c j), count-repeated i (j + 1) p cs (omega arith))

length-repeated : (j : ℕ) (cs : List ℕ) → length (repeated j cs) ≡ sum cs
length-repeated j [] = refl
length-repeated j (c ∷ cs) =
    omega (arith, length-append (replicate c j) (repeated (j + 1) cs), length-replicate c j, length-repeated (j + 1) cs, sum-cons c cs)

-- ---- a committee whose further seats are drawn

module _ (k : ℕ) (list : List ℕ) (seat : 0 < k) (some : 0 < total list) (p : Parted) where
  abbrev T : ℕ
  T = total list

  abbrev weights : List ℕ
  weights = kept_of k list

  abbrev b : ℕ
  b = further k list

  abbrev seats : List ℕ
  seats = seats_of (Bins k) list p

  counted : (i : ℕ) → count i seats ≡ fixed k T (get_or list i 0) + count i (seat_ids p)
  counted i =
      count-append i (repeated 0 (fixed_of k list)) (seat_ids p)
      ∙ ap (◌+ count i (seat_ids p)) (count-repeated i 0 i (fixed_of k list) (omega arith) ∙ fixed_at k list seat some i)

  long : length (seat_ids p) ≡ b → length seats ≡ k
  long l = length-append (repeated 0 (fixed_of k list)) (seat_ids p) ∙ omega (arith, length-repeated 0 (fixed_of k list), fixed_le k list seat some)

  -- with bins
  fair_drawn : 0 < b → length (seat_ids p) ≡ b → ((i : ℕ) → get_or weights i 0 ≡ 0 → count i (seat_ids p) ≡ 0) → ((i : ℕ) → count i (seat_ids p) ≤ 2) →
      Filled weights (capacity (sum weights) b) b p.pieces → Fair k list seats b p.pieces
  fair_drawn drawn l none two f =
      record {
        size = long l;
        bins = refl;
        at_least = λ i. omega (arith, counted i);
        two_more = λ i. omega (arith, counted i, two i);
        none_more = λ i h. omega (arith, counted i, none i (kept_at k list seat some i ∙ kept_none k T seat (get_or list i 0) h));
        none_empty = f.none_empty;
        none_beyond = f.none_beyond;
        add_up = λ i. f.add_up i ∙ kept_at k list seat some i;
        none_kept = λ z. absurd (omega arith);
        values_choose = f.values_choose;
        none_without = λ i j h. f.values_choose i j ∙ ap sum_of_pieces h;
        one_in_a_bin = f.one_in_a_bin;
      }

  -- without
  fair_fixed : b ≡ 0 → seat_ids p ≡ [] → p.pieces ≡ [] → Fair k list seats b p.pieces
  fair_fixed z e q =
      let none : (i : ℕ) → count i (seat_ids p) ≡ 0 = λ i. ap (count i) e in
      rw q (record {
        size = long (ap length e ∙ sym z);
        bins = refl;
        at_least = λ i. omega (arith, counted i);
        two_more = λ i. omega (arith, counted i, none i);
        none_more = λ i h. omega (arith, counted i, none i);
        none_empty = λ j l. absurd (omega arith);
        none_beyond = λ j l. refl;
        add_up = λ i. sym (nobody k list seat some z i);
        none_kept = λ y i. nobody k list seat some z i;
        values_choose = λ i j. count_none 0 _ (λ v l. absurd (omega arith));
        none_without = λ i j h. count_none 0 _ (λ v l. absurd (omega arith));
        one_in_a_bin = λ i j. omega arith;
      })

  -- what the fallback gives
  fair_parted : (first second : List ℕ) → (empty_bin (capacity (sum weights) b) (sum weights) b).0 ≡ false → (parted weights b first second).0 ≡ Some p → Fair k list seats b p.pieces
  fair_parted first second full e = go b refl e
    where
      cap : ℕ
      cap = capacity (sum weights) b

      go : (m : ℕ) → b ≡ m → (parted weights m first second).0 ≡ Some p → Fair k list seats b p.pieces
      go zero z t = let q : record { drawn = []; pieces = [] } ≡ p = cc in fair_fixed z (ap seat_ids (sym q)) (ap (λ (x : Parted). x.pieces) (sym q))
      go (suc m) z t =
          let drawn : 0 < b = omega arith in
          let o = over weights cap b first second p (rw (parted_some weights b first second drawn) at e) in
          let fits : total weights ≤ b * cap = omega (arith, total_is_sum weights, capacity_fits (sum weights) b drawn) in
          let last : (b - 1) * cap < total weights = omega (arith, total_is_sum weights, last_some cap (sum weights) b drawn full) in
          fair_drawn drawn (over_seats weights cap b second o fits last) (over_none weights cap b second o fits last)
          (over_two weights cap b second o fits last (λ i. omega (arith, kept_at k list seat some i, kept_le k list seat some drawn (get_or list i 0))))
          (over_filled weights cap b second o fits last)

-- ---- every accepted call

above_zero : (n : ℕ) → eqb n 0 ≡ false → 0 < n
above_zero zero e = cc
above_zero (suc n) e = omega arith

size_above_zero : (k : ℕ) → is_over_or_zero 1024 k ≡ false → 0 < k
size_above_zero zero e = cc
size_above_zero (suc k) e = omega arith

fair_call : (k : ℕ) (list first second seats bins validators stakes : List ℕ) (p : Parted) →
    (quorum (Bins k) list (seats, (bins, validators, stakes)) first second).0 ≡ Ok p → Fair k list (seats_of (Bins k) list p) (further k list) p.pieces
fair_call k list first second seats bins validators stakes p e =
    let u = passed (first_of (quorum_checks (Bins k) list (seats, (bins, validators, stakes)))) first second (committee (Bins k) list first second) p e in
    let room = short_buffer (length seats) k ∷ short_pieces (bins, validators, stakes) (length list + k) in
    let weights = kept_of k list in
    let bin = empty_bin (capacity (sum weights) (further k list)) (sum weights) (further k list) in
    let sums = sum_past list ∷ total_zero list ∷ bin ∷ [] in
    let seat : 0 < k = size_above_zero k (passes_at (list_length (length list) ∷ []) (size_of_some k) (room ++ sums) u.all) in
    let some : 0 < sum list = above_zero (sum list) (passes_at (list_length (length list) ∷ size_of_some k ∷ room ++ (sum_past list ∷ [])) (total_zero list) (bin ∷ []) u.all) in
    let full : bin.0 ≡ false = passes_at (list_length (length list) ∷ size_of_some k ∷ room ++ (sum_past list ∷ total_zero list ∷ [])) bin [] u.all in
    fair_parted k list seat (omega (arith, some, total_is_sum list)) p first second full u.is

pub committees_fair : CommitteesFair
committees_fair k list first second seats bins validators stakes r e =
    go (quorum (Bins k) list (seats, (bins, validators, stakes)) first second) (fair_call k list first second seats bins validators stakes) e
  where
    go : (o : Given) → ((p : Parted) → o.0 ≡ Ok p → Fair k list (seats_of (Bins k) list p) (further k list) p.pieces) →
        let call = told (Bins k) list (seats, (bins, validators, stakes)) first second o in
        call.0 ≡ Ok r → Fair k list (take k call.1.0) r.further (pieces_in r.pieces call.1.1.0 call.1.1.1 call.1.1.2)
    go (Err refusal, (left, rest)) fair t = cc
    go (Ok p, (left, rest)) fair t =
        let f = fair p refl in
        let same : record { further = further k list; pieces = length p.pieces; first_words_read = length first - length left; second_words_read = length second - length rest } ≡ r = cc in
        let front : take k (seats_of (Bins k) list p ++ drop (length (seats_of (Bins k) list p)) seats) ≡ seats_of (Bins k) list p = take_at (seats_of (Bins k) list p) _ k f.size in
        rw (← same, front, columns_hold p.pieces bins validators stakes) f
