-- The promises are kept: what is sent comes back where t protected bits are altered and m missing, 2t + m at most 6; and the copies are ignored.
use Rattle.std.specs.Prelude.{Bool, true, false, ◌≡◌, refl, length, get_or, take, drop}
use mathlib.Core.List.{List, ◌++◌}
use Rattle.std.proofs.Math.Logic.{⊎_elim}
use Rattle.std.proofs.Math.Path.{sym, ap}
use Rattle.std.proofs.Common.{Err, Ok, ap₂, ◌∙◌, subst, lit≤, length-drop, length-take-le, get_or-take, get_or-drop, ext_get_or, lt-ltb, le-ltb}
use Prim.Native.Nat.{ℕ, suc, ◌+◌, ◌-◌, ◌*◌, ◌≤◌, ◌<◌}
use native.Mathlib.Omega.{arith}
use Rattle.std.proofs.Math.Dec.{eqb}
use Rattle.bits.specs.Bits.{Bits, given_as, given_bits, missing, pick, value}
use Rattle.bits.proofs.laws.Cases.{lt_or_le}
use Rattle.bits.proofs.laws.Missing.{given_at, given_same, missing_take}
use Rattle.bits.proofs.laws.Tab.{length_tab, at_tab, is_tab, tab_same, at_left, at_right}
use Rattle.order.specs.Order.{from1, place_in}
use Rattle.order.proofs.laws.Order.{from_suc}
use Rattle.parity.specs.Division.{remainder, speech_g, efr_g}
use Rattle.trellis.specs.Nearest.{disagreements, nearest, nearest_count}
use Rattle.answers.specs.Answers.{Answer, of_told, Told}
use Rattle.coder.specs.Blocks.{speech_block}
use Rattle.coder.specs.Entries.{Given, entry}
use Rattle.coder.specs.Promises.{altered}
use Rattle.coder.specs.Received.{Hearing, all_ones, speech_d_at, speech_heard}
use Rattle.coder.specs.Says.{speech_d, speech_word}
use Rattle.coder.proofs.laws.Entries.{done, sends}
use Rattle.coder.proofs.laws.Hearings.{speech_hearing}
use Rattle.efr.specs.Entries.{efr_block, efr_sent, efr_received}
use Rattle.efr.specs.Promises.{arrived, handed, Back, EfrBears, EfrPromise, CopiesIgnored}
use Rattle.preliminary.specs.Stage.{efr_d, w_of, s_of, crc_word, crc_good, in_w, copies, is_one_of, in_d, is_protected}
use Rattle.tables.specs.Tables.{ordering}
use Rattle.preliminary.proofs.laws.Protected.{at_k, below_260, same_word}
use Rattle.efr.proofs.laws.Says.{zeros_good, bad_parity, bad_crc, all_good, accepts_all}
use Rattle.preliminary.proofs.laws.Stage.{unrepeated, in_w_lem, length_d, bits_sent, length_s, w_restored, s_restored, crc_sent}
use Rattle.efr.specs.declared.Unchecked.TheVariants as checked

-- ---- s out of a block whose first 182 bits are those that were sent, and whose last 78 are what arrived
module _ (s e : List ℕ) (ls : length s ≡ 244) (le : length e ≡ 456) where
  abbrev d : List ℕ
  d = take 182 (efr_d s) ++ given_bits (drop 378 e)

  long : length (take 182 (efr_d s)) ≡ 182
  long = length-take-le 182 (efr_d s) (omega (arith, length_d s))

  first : (j : ℕ) → j < 182 → get_or d j 0 ≡ get_or (efr_d s) j 0
  first j h = at_left (take 182 (efr_d s)) (given_bits (drop 378 e)) j (rw long h) ∙ get_or-take 182 (efr_d s) j 0 h

  last : (j : ℕ) → 182 ≤ j → j < 260 → get_or d j 0 ≡ given_as (arrived e j)
  last j l h =
      at_right (take 182 (efr_d s)) (given_bits (drop 378 e)) 182 (j - 182) j long (omega arith)
      ∙ given_at (drop 378 e) (j - 182) (rw (length-drop 378 e) (omega (arith, le)))
      ∙ ap given_as (get_or-drop 378 e (j - 182) 0)

  -- what was sent for s(k) is s(k)
  sent_k : (k : ℕ) → 1 ≤ k → k ≤ 244 → get_or (efr_d s) (in_d k) 0 ≡ from1 s k
  sent_k k l h = sym (at_k (efr_d s) k l h) ∙ ap (λ (w : List ℕ). from1 (s_of w) k) (w_restored s) ∙ ap (λ (x : List ℕ). from1 x k) (s_restored s ls)

  pub handed_over : s_of (w_of d) ≡ handed given_as s e
  unfolding handed is_protected
  handed_over =
      is_tab 244 (λ i. pick (is_protected (suc i)) (from1 s (suc i)) (given_as (arrived e (in_d (suc i))))) (s_of (w_of d)) (length_s (w_of d))
      (λ i h. let k : ℕ = suc i in
      let l : 1 ≤ k = omega arith in
      sym (from_suc (s_of (w_of d)) i) ∙ at_k d k l h
      ∙ ⊎_elim (λ (m : in_d k < 182). first (in_d k) m ∙ sent_k k l h ∙ rw (lt-ltb (in_d k) 182 m) refl)
      (λ (m : 182 ≤ in_d k). last (in_d k) m (below_260 k l h) ∙ rw (le-ltb (in_d k) 182 m) refl)
      (lt_or_le (in_d k) 182))

  pub crc_kept : Bits s → crc_good (w_of d) ≡ true
  crc_kept bs = zeros_good (w_of d) (ap (remainder efr_g) (same_word d (efr_d s) first ∙ ap crc_word (w_restored s)) ∙ crc_sent s bs ls)

pub efr_bears : EfrBears
unfolding efr_sent efr_block
efr_bears s c e out gs ge few =
    let sent = sends 244 456 0 s c (lit≤ tt) gs (speech_block (efr_d s)) in
    let is = ap (λ (a : Answer Told). take 378 a.left) sent in
    let fewer = subst (λ (x : List ℕ). 2 * disagreements (take 378 e) x + missing (take 378 e) ≤ 6) is few in
    let heard = speech_hearing (efr_d s) e (length_d s) (bits_sent s gs.bits) ge.reads fewer in (
      ap (λ (a : Answer Told). of_told a.result) sent,
      accepts_all e out ge (altered (take 378) (entry 244 456 0 s (speech_block (efr_d s)) c).left e) (handed given_as s e)
          (ap (λ (h : Hearing). h.good) heard)
          (ap (λ (h : Hearing). h.count) heard ∙ ap (disagreements (take 378 e)) (sym is))
          (ap (λ (h : Hearing). crc_good (w_of h.bits)) heard ∙ crc_kept s e gs.reads ge.reads gs.bits)
          (ap (λ (h : Hearing). s_of (w_of h.bits)) heard ∙ handed_over s e gs.reads ge.reads),
    )

-- ---- demand 3 is the case of which nothing is missing: then all the others are as received
pub efr_promise : EfrPromise
unfolding handed
efr_promise s c e out gs ge none few =
    let protected : missing (take 378 e) ≡ 0 = omega (arith, missing_take 378 e, none) in
    let as-given : (j : ℕ) → j < 260 → given_as (arrived e j) ≡ arrived e j = λ (j : ℕ) (h : j < 260).
    let i : ℕ = 378 + (j - 182) in
    sym (given_at e i (rw ge.reads (omega arith))) ∙ ap (λ (w : List ℕ). get_or w i 0) (given_same e none) in
    let same : handed given_as s e ≡ handed (λ r. r) s e = tab_same 244
    (λ i. pick (is_protected (suc i)) (from1 s (suc i)) (given_as (arrived e (in_d (suc i))))) (λ i. pick (is_protected (suc i)) (from1 s (suc i)) (arrived e (in_d (suc i))))
    (λ i h. ap (pick (is_protected (suc i)) (from1 s (suc i))) (as-given (in_d (suc i)) (below_260 (suc i) (omega arith) h))) in
    subst (Back s c e out (altered (take 378) (efr_sent s c).left e)) same
    (efr_bears s c e out gs ge (omega (arith, few, protected)))

-- ---- the copies
module _ (e f out : List ℕ) (ge : Given 2 456 244 e out) (gf : Given 2 456 244 f out) (front : take 378 e ≡ take 378 f)
    (rest : (x : ℕ) → 1 ≤ x → x ≤ 260 → is_one_of copies x ≡ false → arrived e (place_in ordering x) ≡ arrived f (place_in ordering x)) where
  same_good : (speech_heard e).good ≡ (speech_heard f).good
  unfolding speech_heard
  same_good = ap (λ (c : List ℕ). all_ones speech_g (speech_word (nearest c 189))) front

  same_count : (speech_heard e).count ≡ (speech_heard f).count
  unfolding speech_heard
  same_count = ap (λ (c : List ℕ). nearest_count c 189) front

  -- the bits heard of such a block, by their index
  heard_first : (c : List ℕ) (j : ℕ) → j < 182 → get_or (speech_heard c).bits j 0 ≡ speech_d_at (nearest (take 378 c) 189) j
  unfolding speech_heard
  heard_first c j h =
      let u : List ℕ = nearest (take 378 c) 189 in
      at_left (speech_d u) (given_bits (drop 378 c)) j (rw (length_tab 182 (speech_d_at u)) h) ∙ at_tab 182 (speech_d_at u) j h

  heard_last : (c : List ℕ) → length c ≡ 456 → (j : ℕ) → 182 ≤ j → j < 260 → get_or (speech_heard c).bits j 0 ≡ given_as (arrived c j)
  unfolding speech_heard
  heard_last c lc j l h =
      let u : List ℕ = nearest (take 378 c) 189 in
      at_right (speech_d u) (given_bits (drop 378 c)) 182 (j - 182) j (length_tab 182 (speech_d_at u)) (omega arith)
      ∙ given_at (drop 378 c) (j - 182) (rw (length-drop 378 c) (omega (arith, lc)))
      ∙ ap given_as (get_or-drop 378 c (j - 182) 0)

  same_first : (j : ℕ) → j < 182 → get_or (speech_heard e).bits j 0 ≡ get_or (speech_heard f).bits j 0
  same_first j h = heard_first e j h ∙ ap (λ (c : List ℕ). speech_d_at (nearest c 189) j) front ∙ sym (heard_first f j h)

  same_crc : crc_good (w_of (speech_heard e).bits) ≡ crc_good (w_of (speech_heard f).bits)
  unfolding crc_good
  same_crc = ap (λ (w : List ℕ). eqb (value (remainder efr_g w)) 0) (same_word (speech_heard e).bits (speech_heard f).bits same_first)

  same_at : (k : ℕ) → 1 ≤ k → k ≤ 244 → get_or (speech_heard e).bits (in_d k) 0 ≡ get_or (speech_heard f).bits (in_d k) 0
  unfolding in_d
  same_at k l h =
      let within = in_w_lem k l h in
      let high : in_d k < 260 = below_260 k l h in
      ⊎_elim (λ (m : in_d k < 182). same_first (in_d k) m)
      (λ (m : 182 ≤ in_d k). heard_last e ge.reads (in_d k) m high
      ∙ ap given_as (rest (in_w k) within.0 (omega (arith, within.1)) (unrepeated k l h))
      ∙ sym (heard_last f gf.reads (in_d k) m high))
      (lt_or_le (in_d k) 182)

  same_s : s_of (w_of (speech_heard e).bits) ≡ s_of (w_of (speech_heard f).bits)
  same_s =
      let x : List ℕ = (speech_heard e).bits in
      let y : List ℕ = (speech_heard f).bits in
      ext_get_or 0 (s_of (w_of x)) (s_of (w_of y)) (length_s (w_of x) ∙ sym (length_s (w_of y)))
      (λ i h. let m : suc i ≤ 244 = omega (arith, h, length_s (w_of x)) in
      sym (from_suc (s_of (w_of x)) i) ∙ at_k x (suc i) (omega arith) m ∙ same_at (suc i) (omega arith) m ∙ sym (at_k y (suc i) (omega arith) m) ∙ from_suc (s_of (w_of y)) i)

  by_verdicts : (g k : Bool) → (speech_heard f).good ≡ g → crc_good (w_of (speech_heard f).bits) ≡ k → efr_received e out ≡ efr_received f out
  by_verdicts false k eg ek =
      bad_parity e out (done 2 456 244 0 e out (lit≤ tt) ge) (same_good ∙ eg)
      ∙ ap (λ (n : ℕ). record { result = Err (checked.BadParity n); left = out }) same_count
      ∙ sym (bad_parity f out (done 2 456 244 0 f out (lit≤ tt) gf) eg)
  by_verdicts true false eg ek =
      bad_crc e out (done 2 456 244 0 e out (lit≤ tt) ge) (same_good ∙ eg) (same_crc ∙ ek)
      ∙ ap (λ (n : ℕ). record { result = Err (checked.BadCrc n); left = out }) same_count
      ∙ sym (bad_crc f out (done 2 456 244 0 f out (lit≤ tt) gf) eg ek)
  by_verdicts true true eg ek =
      all_good e out (done 2 456 244 0 e out (lit≤ tt) ge) (same_good ∙ eg) (same_crc ∙ ek)
      ∙ ap₂ (λ (n : ℕ) (s : List ℕ). record { result = Ok n; left = s }) same_count same_s
      ∙ sym (all_good f out (done 2 456 244 0 f out (lit≤ tt) gf) eg ek)

pub copies_ignored : CopiesIgnored
copies_ignored e f out ge gf front rest = by_verdicts e f out ge gf front rest (speech_heard f).good (crc_good (w_of (speech_heard f).bits)) refl refl
