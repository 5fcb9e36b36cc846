-- What the two entries answer is what Says has; and 10 is given exactly where the three-bit parity is good and the CRC is not.
use Rattle.std.specs.Prelude.{Bool, true, false, List, ◌++◌, ◌≡◌, ℕ, ◌≤◌, leb, length, take, drop, Option, None, Some, Ok, Err}
use Rattle.std.proofs.Math.Path.{refl, ap}
use Rattle.std.proofs.Common.{sym, ◌∙◌, subst, arith, lit≤, length-drop, eq-eqb, eqb-true}
use Rattle.bits.specs.Bits.{Bits, given_bits, none_over, add, value, ones, zeros}
use Rattle.bits.proofs.laws.Cases.{not_true, false_true}
use Rattle.bits.proofs.laws.Sum.{length_zeros, bits_zeros, length_add, bits_add, bits_drop}
use Rattle.parity.specs.Division.{remainder, speech_g, efr_g}
use Rattle.parity.proofs.laws.Division.{remainder_after}
use Rattle.trellis.proofs.laws.Nearest.{nearest_once}
use Rattle.order.specs.Order.{fetched}
use Rattle.order.proofs.laws.Order.{over_fetched}
use Rattle.answers.specs.Answers.{Answer, number_of, Told}
use Rattle.answers.specs.declared.Refusal.{Refusal}
use Rattle.answers.specs.declared.Refusal.TheVariants.{Length, NotBits, Identity}
use Rattle.answers.specs.declared.Returned.{Returned}
use Rattle.coder.specs.Entries.{judged, lengths, Given}
use Rattle.coder.specs.Received.{Hearing, verdict, judged_hearing, speech_heard}
use Rattle.coder.specs.Says.{speech_d, speech_word}
use Rattle.coder.proofs.laws.Entries.{done, done_given}
use Rattle.coder.proofs.laws.Restored.{same_value}
use Rattle.coder.proofs.laws.Says.{refusing, sends_as, speech_decodes, speech_heard_lem}
use Rattle.efr.specs.Answers.{Checked, of_checked, checked_or, checks}
use Rattle.efr.specs.Entries.{efr_block, efr_sent, with_crc, efr_received}
use Rattle.efr.specs.Says.{EfrSends, Accepts, FindsBad, JudgesCrc, EfrReceives, CrcAlone, TenExactly}
use Rattle.preliminary.specs.Stage.{w_of, s_of, crc_word, crc_good}
use Rattle.tables.specs.Tables.{important}
use Rattle.efr.proofs.laws.Entries.{bits_heard}
use Rattle.preliminary.proofs.laws.Stage.{efr_long, length_of, bits_of, bits_s}
use Rattle.efr.specs.declared.Unchecked.TheVariants as checked

pub efr_sends : EfrSends
unfolding efr_sent
efr_sends s c = sends_as 244 456 0 s (efr_block s) c

-- ---- the CRC's number is 0 exactly where the remainder is 0
none : value (zeros (length efr_g)) ≡ 0
unfolding value zeros
none = ap (λ (n : ℕ). value (zeros n)) efr_long

pub zeros_good : (w : List ℕ) → remainder efr_g (crc_word w) ≡ zeros (length efr_g) → crc_good w ≡ true
unfolding crc_good
zeros_good w e = eq-eqb (value (remainder efr_g (crc_word w))) 0 (ap value e ∙ none)

pub good_zeros : (w : List ℕ) → length w ≡ 260 → Bits w → crc_good w ≡ true → remainder efr_g (crc_word w) ≡ zeros (length efr_g)
unfolding crc_good crc_word
good_zeros w lw bw e =
    let b : List ℕ = fetched important (s_of w) in
    let q : List ℕ = drop 252 w in
    let lq : length q ≡ length efr_g = length-drop 252 w ∙ omega (arith, lw, efr_long) in
    let bq : Bits q = bits_drop 252 w bw in
    let x : List ℕ = remainder efr_g (b ++ zeros (length efr_g)) in
    let r : remainder efr_g (b ++ q) ≡ add x q = remainder_after efr_g b q lq (over_fetched 1 important (s_of w) (bits_s w (s_of w) bw refl)) bq in
    same_value (remainder efr_g (b ++ q)) (zeros (length efr_g)) (ap length r ∙ length_add x q ∙ lq ∙ sym (length_zeros (length efr_g)))
    (subst Bits (sym r) (bits_add x q bq)) (bits_zeros (length efr_g)) (eqb-true (value (remainder efr_g (b ++ q))) 0 e ∙ sym none)

-- ---- a refusal before the block is heard is 1, 2 or 3, and has no count
early : (l b i : Bool) (x : Refusal) → judged l b i ≡ Err x → number_of x ≤ 3
unfolding judged
early false b i x e = let f : Length ≡ x = cc in subst (λ (y : Refusal). number_of y ≤ 3) f (lit≤ tt)
early true false i x e = let f : NotBits ≡ x = cc in subst (λ (y : Refusal). number_of y ≤ 3) f (lit≤ tt)
early true true false x e = let f : Identity ≡ x = cc in subst (λ (y : Refusal). number_of y ≤ 3) f (lit≤ tt)
early true true true x e = let z : ◌≡◌ {A = ℕ} 0 1 = cc in let w : ⊥ = omega arith in absurd w

-- ---- what is answered, by what speech hears of the block
module _ (c before : List ℕ) where
  abbrev a : Answer Checked
  a = efr_received c before

  abbrev h : Hearing
  h = speech_heard c

  abbrev d : List ℕ
  d = h.bits

  abbrev t : Told
  t = judged (lengths c 456 before 244) (none_over 2 c) (leb 0 63)

  by_told : (x : Told) → t ≡ x → a ≡ checks (with_crc (judged_hearing x h) d) (s_of (w_of d)) before
  unfolding efr_received
  by_told x e = ap (λ (y : Told). checks (with_crc (judged_hearing y h) d) (s_of (w_of d)) before) e

  refused_as : (x : Refusal) → t ≡ Err x → a ≡ record { result = Err (checked.Refused x); left = before }
  unfolding judged_hearing with_crc checks checked_or
  refused_as x e = by_told (Err x) e

  -- the three verdicts
  pub bad_parity : t ≡ (Ok tt) → h.good ≡ false → a ≡ record { result = Err (checked.BadParity h.count); left = before }
  unfolding judged_hearing verdict with_crc checks checked_or
  bad_parity e g = by_told (Ok tt) e ∙ rw g refl

  pub bad_crc : t ≡ (Ok tt) → h.good ≡ true → crc_good (w_of d) ≡ false → a ≡ record { result = Err (checked.BadCrc h.count); left = before }
  unfolding judged_hearing verdict with_crc checks checked_or
  bad_crc e g k = by_told (Ok tt) e ∙ rw (g, k) refl

  pub all_good : t ≡ (Ok tt) → h.good ≡ true → crc_good (w_of d) ≡ true → a ≡ record { result = Ok h.count; left = s_of (w_of d) }
  unfolding judged_hearing verdict with_crc checks checked_or
  all_good e g k = by_told (Ok tt) e ∙ rw (g, k) refl

  -- an answer in 01's number and count, and the buffer
  returns : (x : Answer Checked) → a ≡ x → (of_checked a.result ≡ of_checked x.result) × (a.left ≡ x.left)
  returns x e = (ap (λ (y : Answer Checked). of_checked y.result) e, ap (λ (y : Answer Checked). y.left) e)

  counted : (x : Told) → t ≡ x → (k : ℕ) → (of_checked a.result).count ≡ Some k → t ≡ (Ok tt)
  counted (Ok tt) e k f = e
  counted (Err y) e k f =
      let none : (of_checked a.result).count ≡ None = ap (λ (r : Returned). r.count) (returns _ (refused_as y e)).0 in
      let z : ◌≡◌ {A = ℕ} 0 1 = cc in let w : ⊥ = omega arith in absurd w

  pub efr_receives : EfrReceives c before
  efr_receives = record {
    refused = refusing 2 456 244 0 c before of_checked a (λ x e. returns _ (refused_as x e));
    heard = λ g.
        let e : t ≡ (Ok tt) = done 2 456 244 0 c before (lit≤ tt) g in
        let heard_as = bits_heard c g.reads g.bits in
        speech_decodes c (JudgesCrc a before) (λ k. FindsBad a 8 k before)
        (λ good. record {
          good = λ z. returns _ (all_good e good (zeros_good (w_of d) z));
          bad = λ n. returns _ (bad_crc e good (not_true (crc_good (w_of d)) (λ (k : crc_good (w_of d) ≡ true). n (good_zeros (w_of d) (length_of d) (bits_of d heard_as.0) k))));
        })
        (λ bad. returns _ (bad_parity e bad));
    only = λ k f. done_given 2 c before 456 244 0 t refl (counted t refl k f);
  }

  -- ---- 10
  then_ten : (x : CrcAlone c before) → FindsBad a 10 x.count before
  then_ten x =
      let y = efr_receives.heard x.given in
      let one = nearest_once (take 378 c) 189 y.u x.u y.count x.count y.nearest x.nearest in
      let parity = subst (λ (u : List ℕ). remainder speech_g (speech_word u) ≡ ones (length speech_g)) (sym one.0) x.parity in
      let crc = subst (λ (u : List ℕ). remainder efr_g (crc_word (w_of (speech_d u ++ given_bits (drop 378 c)))) ≡ zeros (length efr_g) → ⊥) (sym one.0) x.crc in
      subst (λ (k : ℕ). FindsBad a 10 k before) one.1 ((y.good parity).bad crc)

  -- any other answer has another number
  another : (n : Option ℕ) → (of_checked a.result).number ≡ n → (n ≡ Some 10 → ⊥) → (of_checked a.result).number ≡ Some 10 → ⊥
  another n e other f = other (sym e ∙ f)

  number : (x : Answer Checked) → a ≡ x → (of_checked a.result).number ≡ (of_checked x.result).number
  number x e = ap (λ (r : Returned). r.number) (returns x e).0

  only_ten : (x : Told) → t ≡ x → (g k : Bool) → h.good ≡ g → crc_good (w_of d) ≡ k → (of_checked a.result).number ≡ Some 10 → CrcAlone c before
  only_ten (Err y) e g k eg ek f =
      let small : number_of y ≤ 3 = early (lengths c 456 before 244) (none_over 2 c) (leb 0 63) y e in
      absurd (another (Some (number_of y)) (number _ (refused_as y e)) (λ (same : Some (number_of y) ≡ Some 10). let s : number_of y ≡ 10 = cc in omega (arith, small, s)) f)
  only_ten (Ok tt) e false k eg ek f = absurd (another (Some 8) (number _ (bad_parity e eg)) (λ (same : Some 8 ≡ Some 10). let s : ◌≡◌ {A = ℕ} 8 10 = cc in omega (arith, s)) f)
  only_ten (Ok tt) e true true eg ek f = absurd (another None (number _ (all_good e eg ek)) (λ (same : None ≡ Some 10). let s : ◌≡◌ {A = ℕ} 0 1 = cc in omega (arith, s)) f)
  only_ten (Ok tt) e true false eg ek f =
      let x = speech_heard_lem c in
      let same : d ≡ speech_d x.u ++ given_bits (drop 378 c) = x.bits in
      record {
        given = done_given 2 c before 456 244 0 t refl e;
        u = x.u;
        count = h.count;
        nearest = x.nearest;
        parity = x.only eg;
        crc = λ z. false_true (sym ek ∙ zeros_good (w_of d) (ap (λ (w : List ℕ). remainder efr_g (crc_word (w_of w))) same ∙ z));
      }

  pub ten_exactly : TenExactly c before
  ten_exactly = record { then = then_ten; only = λ f. only_ten t refl h.good (crc_good (w_of d)) refl refl f }

-- ---- a block that is good by both checks, in 01's words
pub accepts_all : (c before : List ℕ) → Given 2 456 244 c before → (count : ℕ) (bits : List ℕ) → (speech_heard c).good ≡ true → (speech_heard c).count ≡ count
    → crc_good (w_of (speech_heard c).bits) ≡ true → s_of (w_of (speech_heard c).bits) ≡ bits → Accepts (efr_received c before) count bits
accepts_all c before g count bits eg ec ek eb =
    let x = returns c before _ (all_good c before (done 2 456 244 0 c before (lit≤ tt) g) eg ek) in
    (x.0 ∙ ap (λ (k : ℕ). of_checked (Ok k)) ec, x.1 ∙ eb)

-- and one whose CRC alone is bad
pub finds_bad_crc : (c before : List ℕ) → Given 2 456 244 c before → (count : ℕ) → (speech_heard c).good ≡ true → (speech_heard c).count ≡ count
    → crc_good (w_of (speech_heard c).bits) ≡ false → FindsBad (efr_received c before) 10 count before
finds_bad_crc c before g count eg ec ek =
    let x = returns c before _ (bad_crc c before (done 2 456 244 0 c before (lit≤ tt) g) eg ek) in
    (x.0 ∙ ap (λ (k : ℕ). of_checked (Err (checked.BadCrc k))) ec, x.1)
