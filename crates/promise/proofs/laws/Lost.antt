-- Bursts of one class hold at most one place of each pair, and at most four of a block's flags. So the law of the pairs finds the block, and the vote knows it.
use Rattle.std.specs.Prelude.{Bool, ◌⊎◌, ◌≡◌, refl, ltb, length, drop}
use Rattle.std.proofs.Math.Bool.{true, false}
use mathlib.Core.List.{List, []}
use Rattle.std.proofs.Math.Logic.{⊎_elim, inl, inr}
use Rattle.std.proofs.Math.Path.{sym, ap, ap₂, subst}
use Rattle.std.proofs.Common.{◌∙◌, lit≤, eqb-true}
use Prim.Native.Nat.{ℕ, ◌+◌, ◌*◌, ◌%◌, ◌≤◌, ◌<◌}
use native.Mathlib.Omega.{arith}
use Rattle.std.proofs.Math.ListN.{get_or}
use Rattle.bits.specs.Bits.{Bits, is_missing, lost, given_as, given_bits, differ, pick, tab, total, digits}
use Rattle.bits.proofs.laws.Cases.{lt_or_le, not_true}
use Rattle.bits.proofs.laws.Missing.{missing_agrees, missing_zero, present_bit, given_present, differ_itself}
use Rattle.bits.proofs.laws.Sum.{bits_append, bits_drop}
use Rattle.bits.proofs.laws.Tab.{at_tab, length_tab, tab_same}
use Rattle.bits.proofs.laws.Total.{total_zero, total_le}
use Rattle.bits.proofs.laws.Value.{length_digits, bits_digits}
use Rattle.burst.specs.Numbers.{first_burst}
use Rattle.places.specs.Places.{e_at, gathered_at, gathered, hl, hu}
use Rattle.places.proofs.laws.Places.{every_bit}
use Rattle.parity.specs.Division.{control_g}
use Rattle.parity.proofs.laws.Generators.{control_long}
use Rattle.convolution.specs.Pairs.{coded}
use Rattle.convolution.proofs.laws.Pairs.{bits_coded}
use Rattle.trellis.specs.Lost.{OneOfEach, MissingIn, without}
use Rattle.trellis.specs.Nearest.{disagreements, Candidate, Found}
use Rattle.trellis.proofs.laws.Lost.{told, is_without, without_take, rest_present, none_disagrees}
use Rattle.coder.specs.Blocks.{speech_u, speech_block, control_u, control_block, sacch_message}
use Rattle.coder.specs.Entries.{Given, sacch_sent}
use Rattle.coder.specs.Promises.{Back}
use Rattle.coder.specs.Received.{sacch_received}
use Rattle.coder.proofs.laws.Promises.{kept, sent_coded, message_codes}
use Rattle.coder.proofs.laws.Restored.{coloured, coloured_candidate}
use Rattle.chart.specs.Says.{said, together}
use Rattle.chart.specs.declared.Values.{Values}
use Rattle.stream.specs.Sending.{is_facch, block_of, flag_of}
use Rattle.promise.specs.Lost.{OneClass, Loses, lost_as_zero, LostByClass, alone, OneLostBurst, LessonLoses, EveryBlock, StreamPairs, BroughtIsGood, SacchLoses, SacchByClass}
use Rattle.promise.specs.Promise.{Valid, Lesson, made, taken_at, after, block_bits, block_flags, protected, pairs_of, bits_altered, flags_altered, flags_missing, kind_of, bits_out, Brings}
use Rattle.promise.proofs.laws.Promise.{u_of, pairs_short, candidate_of, protected_facch, protected_speech, valid, sent_own, sent_flags, flags_lost, sent_pairs, brought}
use Rattle.promise.proofs.laws.Sent.{flag_fits}
use Rattle.promise.proofs.laws.Taken.{flag_in_lem}
use Rattle.promise.proofs.laws.Totals.{take_adds}

-- ---- bursts of one class hold at most one place of each pair: bit k stands in burst k mod m, and m is even
class_leaves : (m : ℕ) → ((k : ℕ) → k % m < m) → ((k : ℕ) → k % m % 2 ≡ k % 2) → (away : ℕ → Bool) → OneClass m away → (n : ℕ) → OneOfEach n (λ k. away (k % m))
class_leaves m within parity away one n k h =
    ⊎_elim (λ even.
    inr (not_true (away ((2 * k + 1) % m)) (λ (t : away ((2 * k + 1) % m) ≡ true).
    let z : (2 * k + 1) % 2 ≡ 0 = sym (parity (2 * k + 1)) ∙ even ((2 * k + 1) % m) (within (2 * k + 1)) t in omega (arith, z))))
    (λ odd.
    inl (not_true (away (2 * k % m)) (λ (t : away (2 * k % m) ≡ true).
    let z : 2 * k % 2 ≡ 1 = sym (parity (2 * k)) ∙ odd (2 * k % m) (within (2 * k)) t in omega (arith, z))))
    one

-- ---- and at most four of eight
module _ (away : ℕ → Bool) where
  counted : ℕ → ℕ
  counted i = pick (away i) 1 0

  one_of_two : (i j : ℕ) → (away i ≡ false) ⊎ (away j ≡ false) → counted i + counted j ≤ 1
  unfolding counted
  one_of_two i j = ⊎_elim (λ (e : away i ≡ false). rw e (omega (arith, at_most_one (away j)))) (λ (e : away j ≡ false). rw e (omega (arith, at_most_one (away i))))
    where
      at_most_one : (b : Bool) → pick b 1 0 ≤ 1
      at_most_one true = omega arith
      at_most_one false = omega arith

  four_at_most : OneClass 8 away → total 8 counted ≤ 4
  unfolding total
  four_at_most one =
      let left = class_leaves 8 (λ k. omega arith) (λ k. omega arith) away one 4 in
      omega (arith, one_of_two 0 1 (left 0 (omega arith)), one_of_two 2 3 (left 1 (omega arith)), one_of_two 4 5 (left 2 (omega arith)), one_of_two 6 7 (left 3 (omega arith)))

-- ---- the stronger fact, by places
pub stream_pairs : StreamPairs
unfolding bits_altered
stream_pairs ds lesson lent ll rx out here n h gone each only none flags =
    let d : List ℕ = get_or ds n [] in
    let r : List ℕ = protected d (block_bits rx n) in
    let agrees : disagreements r (coded (u_of d)) ≡ 0 = ap (disagreements r) (sym (sent_pairs ds lesson lent ll n h rx)) ∙ none in
    let found = told (pairs_of d) gone each r only (u_of d) (candidate_of d (valid ds lesson lent ll n h)) agrees (pairs_short d) in
    subst (λ (k : ℕ). Brings (taken_at rx out (4 * n + 7)) (kind_of d) n k (bits_out d (given_bits (block_bits rx n)) (out (4 * n + 7)))) none
    (brought ds lesson lent ll rx out here n h found flags)

-- ---- what is sent is bits
bits_block : (d : List ℕ) → Valid d → Bits (block_of d)
unfolding block_of control_block speech_block
bits_block d v = by_kind_lem (is_facch (length d))
  where
    by_kind_lem : (b : Bool) → Bits (pick b (control_block d) (speech_block d))
    by_kind_lem true = bits_coded (control_u d)
    by_kind_lem false = bits_append (coded (speech_u d)) (drop 182 d) (bits_coded (speech_u d)) (bits_drop 182 d v.bits)

-- of what is protected the places of the set are missing where they are of the block
protected_without : (d c : List ℕ) (gone : ℕ → Bool) → length c ≡ 456 → protected d (without gone c) ≡ without gone (protected d c)
protected_without d c gone l = by_kind_lem (is_facch (length d)) refl
  where
    by_kind_lem : (b : Bool) → is_facch (length d) ≡ b → protected d (without gone c) ≡ without gone (protected d c)
    by_kind_lem true e = protected_facch d (without gone c) e ∙ ap (without gone) (sym (protected_facch d c e))
    by_kind_lem false e = protected_speech d (without gone c) e ∙ without_take gone 378 c (omega (arith, l)) ∙ ap (without gone) (sym (protected_speech d c e))

module _ (ds : List (List ℕ)) (lesson : Lesson ds) (lent : ℕ → List ℕ) (ll : (i : ℕ) → length (lent i) ≡ 464)
    (rx : List ℕ) (n : ℕ) (h : n < length ds) (away : ℕ → Bool) (one : OneClass 8 away) (loses : Loses away (made lent ds) rx n) where
  abbrev d : List ℕ
  d = get_or ds n []

  abbrev sent : List ℕ
  sent = made lent ds

  abbrev c : List ℕ
  c = block_bits rx n

  abbrev gone : ℕ → Bool
  gone k = away (k % 8)

  long : (w : List ℕ) → length (block_bits w n) ≡ 456
  unfolding block_bits
  long w = length_tab 456 (λ k. get_or w (116 * (first_burst n + k % 8) + e_at k) 0)

  sent_bit : (k : ℕ) → get_or (block_bits sent n) k 0 ≤ 1
  sent_bit k = subst (λ (w : List ℕ). get_or w k 0 ≤ 1) (sym (sent_own ds lesson lent ll n h)) (bits_block d (valid ds lesson lent ll n h) k)

  -- ---- its bits
  bit_gone : (k : ℕ) → k < 456 → gone k ≡ true → is_missing (get_or c k 0) ≡ true
  unfolding block_bits
  bit_gone k l e =
      ap is_missing (at_tab 456 (λ k. get_or rx (116 * (first_burst n + k % 8) + e_at k) 0) k l) ∙ loses.gone (k % 8) (omega arith) e (e_at k) (every_bit k l).within

  bit_here : (k : ℕ) → k < 456 → gone k ≡ false → is_missing (get_or c k 0) ≡ false
  bit_here k l e = ap is_missing (loses.bits k l e) ∙ present_bit (get_or (block_bits sent n) k 0) (sent_bit k)

  arrived : c ≡ without gone (block_bits sent n)
  arrived =
      is_without gone c (block_bits sent n) (long rx ∙ sym (long sent)) (λ k l e. bit_gone k (omega (arith, l, long sent)) e) (λ k l e. loses.bits k (omega (arith, l, long sent)) e)

  -- of its pairs the places of the class are missing, and the others are as sent
  pairs : protected d c ≡ without gone (coded (u_of d))
  pairs = ap (protected d) arrived ∙ protected_without d (block_bits sent n) gone (long sent) ∙ ap (without gone) (sent_pairs ds lesson lent ll n h rx)

  only : MissingIn (pairs_of d) gone (protected d c)
  only = subst (MissingIn (pairs_of d) gone) (sym pairs) (rest_present (pairs_of d) gone (u_of d) (candidate_of d (valid ds lesson lent ll n h)).long)

  none : bits_altered d sent rx n ≡ 0
  unfolding bits_altered
  none =
      ap₂ disagreements pairs (sent_pairs ds lesson lent ll n h rx)
      ∙ none_disagrees (pairs_of d) gone (u_of d) (candidate_of d (valid ds lesson lent ll n h)).long

  -- ---- its flags
  abbrev flag : List ℕ → ℕ → ℕ
  flag w i = get_or (block_flags w n) i 0

  flag_gone : (i : ℕ) → i < 8 → away i ≡ true → is_missing (flag rx i) ≡ true
  unfolding block_flags
  flag_gone i l e =
      ap is_missing (at_tab 8 (λ i. get_or rx (116 * (first_burst n + i) + pick (ltb i 4) hu hl) 0) i l) ∙ loses.gone i l e (pick (ltb i 4) hu hl) (flag_in_lem i)

  flag_here : (i : ℕ) → i < 8 → away i ≡ false → is_missing (flag rx i) ≡ false
  flag_here i l e =
      ap is_missing (loses.flags i l e ∙ sent_flags ds lesson lent ll n h i l) ∙ present_bit (flag_of (is_facch (length d))) (flag_fits (is_facch (length d)))

  none_flipped : flags_altered sent rx n ≡ 0
  unfolding flags_altered disagreements block_flags
  none_flipped =
      total_zero (length (block_flags sent n)) (λ i. differ (flag sent i) (flag rx i))
      (λ i l. by_test i (omega (arith, l, length_tab 8 (λ i. get_or sent (116 * (first_burst n + i) + pick (ltb i 4) hu hl) 0))) (away i) refl)
    where
      by_test : (i : ℕ) → i < 8 → (b : Bool) → away i ≡ b → differ (flag sent i) (flag rx i) ≡ 0
      by_test i l true e = missing_agrees (flag sent i) (flag rx i) (flag_gone i l e)
      by_test i l false e = ap (differ (flag sent i)) (loses.flags i l e) ∙ differ_itself (flag sent i)

  few_missing : flags_missing rx n ≤ 4
  unfolding counted
  few_missing =
      let some : total 8 (λ i. lost (flag rx i)) ≤ total 8 (counted away) = total_le 8 (λ i. lost (flag rx i)) (counted away) (λ i l. by_test i l (away i) refl) in
      omega (arith, flags_lost ds lesson lent ll n h rx, some, four_at_most away one)
    where
      by_test : (i : ℕ) → i < 8 → (b : Bool) → away i ≡ b → lost (flag rx i) ≤ counted away i
      by_test i l true e = rw (flag_gone i l e, e) (omega arith)
      by_test i l false e = rw (flag_here i l e) (omega arith)

  -- ---- what is handed over: missing bits as 0
  handed : given_bits c ≡ lost_as_zero away c
  unfolding given_bits lost_as_zero
  handed =
      ap (λ (m : ℕ). tab m (λ k. given_as (get_or c k 0))) (long rx)
      ∙ tab_same 456 (λ k. given_as (get_or c k 0)) (λ k. pick (gone k) 0 (get_or c k 0)) (λ k l. by_test k l (gone k) refl)
    where
      by_test : (k : ℕ) → k < 456 → (b : Bool) → gone k ≡ b → given_as (get_or c k 0) ≡ pick b 0 (get_or c k 0)
      by_test k l true e = missing_zero (get_or c k 0) (bit_gone k l e)
      by_test k l false e = given_present (get_or c k 0) (bit_here k l e)

-- ---- THE LAW, of streams
pub lost_by_class : LostByClass
lost_by_class ds lesson lent ll rx out here n h away one loses =
    let d : List ℕ = get_or ds n [] in
    subst (λ (w : List ℕ). Brings (taken_at rx out (4 * n + 7)) (kind_of d) n 0 (bits_out d w (out (4 * n + 7)))) (handed ds lesson lent ll rx n h away one loses)
    (stream_pairs ds lesson lent ll rx out here n h (λ k. away (k % 8))
    (class_leaves 8 (λ k. omega arith) (λ k. omega arith) away one (pairs_of d)) (only ds lesson lent ll rx n h away one loses) (none ds lesson lent ll rx n h away one loses)
    (omega (arith, none_flipped ds lesson lent ll rx n h away one loses, few_missing ds lesson lent ll rx n h away one loses)))

-- ---- one burst by itself is of one class
one_alone : (m i : ℕ) → OneClass m (alone i)
one_alone m i =
    ⊎_elim (λ (l : i % 2 < 1). inl (λ j hj t. ap (λ (k : ℕ). k % 2) (eqb-true j i t) ∙ omega (arith, l)))
    (λ (l : 1 ≤ i % 2). inr (λ j hj t. ap (λ (k : ℕ). k % 2) (eqb-true j i t) ∙ omega (arith, l)))
    (lt_or_le (i % 2) 1)

pub one_lost_burst : OneLostBurst
one_lost_burst ds lesson lent ll rx out here n h i hi loses = lost_by_class ds lesson lent ll rx out here n h (alone i) (one_alone 8 i) loses

-- ---- a whole lesson: burst 4n + i has i's class
module _ (ds : List (List ℕ)) (lent : ℕ → List ℕ) (rx : List ℕ) (away : ℕ → Bool) (n : ℕ) (h : n < length ds) where
  abbrev all : ℕ
  all = 4 * length ds + 4

  own_class : OneClass all away → OneClass 8 (λ i. away (first_burst n + i))
  unfolding first_burst
  own_class one =
      ⊎_elim (λ even.
      inl (λ i l t. let e : (4 * n + i) % 2 ≡ 0 = even (4 * n + i) (omega (arith, h, l)) t in omega (arith, e)))
      (λ odd.
      inr (λ i l t. let e : (4 * n + i) % 2 ≡ 1 = odd (4 * n + i) (omega (arith, h, l)) t in omega (arith, e)))
      one

  own_losses : LessonLoses away all (made lent ds) rx → Loses (λ i. away (first_burst n + i)) (made lent ds) rx n
  unfolding first_burst block_bits block_flags
  own_losses loses =
      let bit : List ℕ → ℕ → ℕ = λ w k. get_or w (116 * (4 * n + k % 8) + e_at k) 0 in
      let flag : List ℕ → ℕ → ℕ = λ w i. get_or w (116 * (4 * n + i) + pick (ltb i 4) hu hl) 0 in
      record {
        gone = λ i l e. loses.gone (4 * n + i) (omega (arith, h, l)) e;
        bits = λ k l e.
            at_tab 456 (bit rx) k l ∙ loses.others (4 * n + k % 8) (e_at k) (omega (arith, h)) (every_bit k l).within e ∙ sym (at_tab 456 (bit (made lent ds)) k l);
        flags = λ i l e.
            at_tab 8 (flag rx) i l ∙ loses.others (4 * n + i) (pick (ltb i 4) hu hl) (omega (arith, h, l)) (flag_in_lem i) e ∙ sym (at_tab 8 (flag (made lent ds)) i l);
      }

pub every_block : EveryBlock
every_block ds lesson lent ll rx out here away one loses n h =
    lost_by_class ds lesson lent ll rx out here n h (λ i. away (first_burst n + i)) (own_class ds lent rx away n h one) (own_losses ds lent rx away n h loses)

-- ---- the totals: what is said of a block that is brought is what a good one adds
pub brought_is_good : BroughtIsGood
unfolding said
brought_is_good rx out b k n count bytes back = take_adds rx out b ∙ ap (λ (v : Values). together (after rx out b).totals (said v)) back.told

-- ---- SACCH: bit k stands in burst k mod 4
module _ (d c e out : List ℕ) (gd : Given 1 184 464 d c) (ge : Given 2 464 184 e out) (away : ℕ → Bool) (one : OneClass 4 away) (loses : SacchLoses away (sacch_sent d c).left e) where
  abbrev message : List ℕ
  message = gathered (sacch_sent d c).left

  abbrev four : ℕ → Bool
  four k = away (k % 4)

  abbrev u : List ℕ
  u = coloured control_g (digits (length control_g) 0) d

  abbrev size : ℕ
  size = length d + length control_g + 4

  long_message : (w : List ℕ) → length (gathered w) ≡ 456
  unfolding gathered
  long_message w = length_tab 456 (gathered_at w)

  place_gone : (k : ℕ) → k < 456 → four k ≡ true → is_missing (get_or (gathered e) k 0) ≡ true
  unfolding gathered gathered_at
  place_gone k l t = ap is_missing (at_tab 456 (gathered_at e) k l) ∙ loses.gone (k % 4) (omega arith) t (e_at k) (every_bit k l).within

  message_coded : message ≡ coded u
  unfolding sacch_sent
  message_coded = sent_coded control_g 0 184 464 sacch_message gathered message_codes (lit≤ tt) d c e out gd ge

  message_arrived : gathered e ≡ without four (coded u)
  message_arrived =
      is_without four (gathered e) message (long_message e ∙ sym (long_message (sacch_sent d c).left))
      (λ k l t. place_gone k (omega (arith, l, long_message (sacch_sent d c).left)) t) (λ k l t. loses.bits k (omega (arith, l, long_message (sacch_sent d c).left)) t)
      ∙ ap (without four) message_coded

  u_candidate : Candidate size u
  u_candidate = coloured_candidate control_g (digits (length control_g) 0) d gd.bits (length_digits (length control_g) 0) (bits_digits (length control_g) 0)

  no_place : disagreements (gathered e) (coded u) ≡ 0
  no_place = ap (λ (w : List ℕ). disagreements w (coded u)) message_arrived ∙ none_disagrees size four u u_candidate.long

  message_found : Found (gathered e) size u
  message_found =
      told size four (class_leaves 4 (λ k. omega arith) (λ k. omega arith) away one size) (gathered e)
      (subst (MissingIn size four) (sym message_arrived) (rest_present size four u u_candidate.long)) u u_candidate no_place (omega (arith, gd.reads, control_long))

  message_back : Back (sacch_sent d c) (sacch_received e out) 0 d
  unfolding sacch_sent sacch_received
  message_back =
      subst (λ (k : ℕ). Back (sacch_sent d c) (sacch_received e out) k d) (ap (disagreements (gathered e)) message_coded ∙ no_place)
      (kept control_g 0 184 464 sacch_message gathered message_codes (lit≤ tt) d c e out gd ge message_found)

pub sacch_by_class : SacchByClass
sacch_by_class = message_back
