-- What coder's entries hand over as good, laid out as it is sent, is the nearest block: its parity bits can only be those that are there. And what they send
-- is the pairs of a candidate.
use Rattle.std.specs.Prelude.{Bool, true, false, ◌⊎◌, ◌≡◌, refl, ℕ, ◌+◌, ◌-◌, ◌*◌, ◌≤◌, length, drop}
use mathlib.Core.List.{List, ◌++◌}
use Rattle.std.proofs.Common.{⊎_elim, inl, inr, ◌∙◌, subst, subst₂, arith, take-append-drop, take_all, drop-drop}
use Rattle.std.proofs.Math.Path.{sym, ap, ap₂}
use Rattle.std.proofs.Math.ListN.{take}
use Rattle.bits.specs.Bits.{Bits, add, digits, zeros, ones}
use Rattle.bits.proofs.laws.Cases.{false_true}
use Rattle.bits.proofs.laws.Parts.{length_lent}
use Rattle.bits.proofs.laws.Sum.{length_add, bits_add, bits_take, bits_drop, add_assoc, add_self, add_nothing}
use Rattle.bits.proofs.laws.Value.{length_digits, bits_digits}
use Rattle.parity.specs.Division.{parity, remainder, control_g, access_g, sch_g}
use Rattle.parity.proofs.laws.Division.{parity_only}
use Rattle.parity.proofs.laws.Generators.{control_long}
use Rattle.trellis.specs.Nearest.{Candidate, Nearest}
use Rattle.answers.specs.Answers.{Answer, or_none, Heard}
use Rattle.answers.specs.declared.Returned.{Returned}
use Rattle.coder.specs.Blocks.{control_u, colour, access_u, sch_u}
use Rattle.coder.specs.Entries.{Given}
use Rattle.coder.specs.Received.{all_ones, control_received, access_received, sch_received}
use Rattle.coder.specs.Says.{Accepts, FindsBad, Receives, block_word, BlockDecodes}
use Rattle.coder.proofs.laws.Blocks.{access_long, sch_long}
use Rattle.coder.proofs.laws.Hearings.{plain, control_lays}
use Rattle.coder.proofs.laws.Restored.{coloured, ones_good, good_ones}
use Rattle.coder.proofs.laws.Says.{control_receives, access_receives, sch_receives}
use Rattle.marking.specs.Marks.{counting}
use Rattle.marking.specs.Fair.{GetsYes, ControlAccepted, AccessAccepted, SchAccepted}
use Rattle.marking.proofs.laws.Fair.{nearest_gets_yes}

-- ---- whether division leaves all ones is decided
pub by_verdict : (g d q : List ℕ) → length q ≡ length g → Bits d → Bits q → (remainder g (d ++ q) ≡ ones (length g)) ⊎ (remainder g (d ++ q) ≡ ones (length g) → ⊥)
by_verdict g d q lq bd bq = decide (all_ones g (d ++ q)) refl
  where
    decide : (b : Bool) → all_ones g (d ++ q) ≡ b → (remainder g (d ++ q) ≡ ones (length g)) ⊎ (remainder g (d ++ q) ≡ ones (length g) → ⊥)
    decide true e = inl (good_ones g d q lq bd bq e)
    decide false e = inr (λ (z : remainder g (d ++ q) ≡ ones (length g)). false_true (sym e ∙ ones_good g d q lq bd bq z))

-- ---- so what is accepted is what the nearest block hands over, with its count, and its verdict is good
pub record Taken (good : Type 0) (k l : ℕ) (handed bits : List ℕ) : Type 0 where
  pub verdict : good
  pub counts : k ≡ l
  pub hands : handed ≡ bits

pub taken : (a : Answer Heard) (good : Type 0) (k count : ℕ) (handed bits before : List ℕ) → Accepts a count bits
    → good ⊎ (good → ⊥) → (good → Accepts a k handed) → ((good → ⊥) → FindsBad a k before) → Taken good k count handed bits
taken a good k count handed bits before acc either if-good if-bad =
    ⊎_elim (λ (g : good).
    let got = if-good g in
    record {
      verdict = g;
      counts = ap (λ (y : Returned). or_none y.count) (sym got.0 ∙ acc.0);
      hands = sym got.1 ∙ acc.1;
    })
    (λ b. let eight : ◌≡◌ {A = ℕ} 8 0 = ap (λ (y : Returned). or_none y.number) (sym (if-bad b).0 ∙ acc.0) in let z : ⊥ = omega (arith, eight) in absurd z)
    either

-- ---- a block with its parity bits over g, to which the colour of i is added
module _ (g : List ℕ) (i n pairs : ℕ) (size : n + length g + 4 ≡ pairs) (u : List ℕ) (cu : Candidate pairs u) where
  abbrev d : List ℕ
  d = take n u

  abbrev q : List ℕ
  q = take (length g) (drop n u)

  abbrev b : List ℕ
  b = digits (length g) i

  q_long : length q ≡ length g
  q_long = length_lent u n (length g) (omega (arith, cu.long, size))

  q_bits : Bits q
  q_bits = bits_take (length g) (drop n u) (bits_drop n u cu.bits)

  b_bits : Bits b
  b_bits = bits_digits (length g) i

  word_long : length (add q b) ≡ length g
  word_long = length_add q b ∙ length_digits (length g) i

  decided : (remainder g (block_word g i n u) ≡ ones (length g)) ⊎ (remainder g (block_word g i n u) ≡ ones (length g) → ⊥)
  decided = by_verdict g d (add q b) word_long (bits_take n u cu.bits) (bits_add q b b_bits)

  -- its parity bits, the colour taken off twice
  checks_are : remainder g (block_word g i n u) ≡ ones (length g) → q ≡ add (parity g d) b
  checks_are good =
      sym (ap (λ (w : List ℕ). add w b) (sym (parity_only g d (bits_take n u cu.bits) (add q b) word_long (bits_add q b b_bits) good))
      ∙ sym (add_assoc q b b refl)
      ∙ ap (add q) (add_self b b_bits ∙ ap zeros (length_digits (length g) i))
      ∙ add_nothing (length g) q q_long q_bits)

  rest_is : drop (length g) (drop n u) ≡ zeros 4
  rest_is = let e : n + length g ≡ pairs - 4 = omega (arith, size) in drop-drop (length g) n u ∙ ap (λ (k : ℕ). drop k u) e ∙ cu.ends

  laid_out : remainder g (block_word g i n u) ≡ ones (length g) → u ≡ coloured g b d
  unfolding coloured
  laid_out good =
      sym (take-append-drop n u)
      ∙ ap (λ (w : List ℕ). d ++ w) (sym (take-append-drop (length g) (drop n u)) ∙ ap₂ (λ (x y : List ℕ). x ++ y) (checks_are good) rest_is)

-- the block that is accepted
module _ (g : List ℕ) (i n reads pairs : ℕ) (size : n + length g + 4 ≡ pairs) (r out : List ℕ) (a : Answer Heard)
    (says : Receives a reads n i r out (BlockDecodes g i n pairs r)) (count : ℕ) (d : List ℕ) (accepted : Accepts a count d) where
  given : Given 2 reads n r out × (i ≤ 63)
  given = says.only count (ap (λ (y : Returned). y.count) accepted.0)

  pub accepted_nearest : Nearest r pairs (coloured g (digits (length g) i) d) count × Bits d
  accepted_nearest =
      let x = says.heard given.0 given.1 in
      let cu = x.nearest.candidate in
      let t = taken a (remainder g (block_word g i n x.u) ≡ ones (length g)) x.count count (take n x.u) d out accepted (decided g i n pairs size x.u cu) x.good x.bad in
      let u-is : x.u ≡ coloured g (digits (length g) i) d = laid_out g i n pairs size x.u cu t.verdict ∙ ap (coloured g (digits (length g) i)) t.hands in
      (subst₂ (Nearest r pairs) u-is t.counts x.nearest, subst Bits t.hands (bits_take n x.u cu.bits))

  -- so it gets yes
  pub accepted_yes : reads ≡ 2 * pairs → (laid : List ℕ) → laid ≡ coloured g (digits (length g) i) d → GetsYes reads pairs r laid count
  unfolding counting
  accepted_yes even laid e =
      let long = given.0.reads in
      let all : r ≡ take (2 * pairs) r = sym (take_all (2 * pairs) r (omega (arith, long, even))) in
      nearest_gets_yes reads pairs r laid count long given.0.bits (subst₂ (λ (c v : List ℕ). Nearest c pairs v count) all (sym e) accepted_nearest.0)

-- ---- the three channels
pub control_accepted : ControlAccepted
control_accepted r out count d acc =
    let size : 184 + length control_g + 4 ≡ 228 = omega (arith, control_long) in
    let got = accepted_nearest control_g 0 184 456 228 size r out (control_received r out) (control_receives r out) count d acc in
    accepted_yes control_g 0 184 456 228 size r out (control_received r out) (control_receives r out) count d acc refl (control_u d) (control_lays d got.1)

pub access_lays : (i : ℕ) (d : List ℕ) → access_u i d ≡ coloured access_g (digits (length access_g) i) d
unfolding access_u colour coloured
access_lays i d = ap (λ (k : ℕ). d ++ (add (parity access_g d) (digits k i) ++ zeros 4)) (sym access_long)

pub access_accepted : AccessAccepted
access_accepted i r out count d acc =
    let size : 8 + length access_g + 4 ≡ 18 = omega (arith, access_long) in
    accepted_yes access_g i 8 36 18 size r out (access_received i r out) (access_receives i r out) count d acc refl (access_u i d) (access_lays i d)

pub sch_lays : (d : List ℕ) → Bits d → sch_u d ≡ coloured sch_g (digits (length sch_g) 0) d
unfolding sch_u
sch_lays d bd = plain sch_g d bd

pub sch_accepted : SchAccepted
sch_accepted r out count d acc =
    let size : 25 + length sch_g + 4 ≡ 39 = omega (arith, sch_long) in
    let got = accepted_nearest sch_g 0 25 78 39 size r out (sch_received r out) (sch_receives r out) count d acc in
    accepted_yes sch_g 0 25 78 39 size r out (sch_received r out) (sch_receives r out) count d acc refl (sch_u d) (sch_lays d got.1)
