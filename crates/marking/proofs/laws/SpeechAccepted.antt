-- A speech block that is accepted is laid out in one way: each bit of u is a bit of d, one of its three parity bits, or one of the four zeros.
use Rattle.std.specs.Prelude.{List, ◌++◌, ◌≡◌, ℕ, ◌+◌, ◌-◌, ◌*◌, ◌≤◌, ◌<◌, get_or, take, drop}
use Rattle.std.proofs.Common.{⊎_elim, ◌∙◌, subst₂, arith, get_or-take, get_or-drop}
use Rattle.std.proofs.Math.Path.{sym, ap}
use Rattle.std.proofs.Math.ListN.{length, get_or-append}
use Rattle.std.proofs.Math.Seq.{ext_get_or}
use Rattle.std.proofs.lemmas.List.{take-append-le}
use Rattle.bits.specs.Bits.{Bits, given_bits, ones}
use Rattle.bits.proofs.laws.Cases.{lt_or_le}
use Rattle.bits.proofs.laws.Parts.{length_lent}
use Rattle.bits.proofs.laws.Sum.{bits_take, bits_drop, at_zeros}
use Rattle.bits.proofs.laws.Tab.{at_tab, length_tab}
use Rattle.bits.proofs.laws.Value.{length_digits}
use Rattle.parity.specs.Division.{parity, remainder, speech_g}
use Rattle.parity.proofs.laws.Division.{parity_only}
use Rattle.parity.proofs.laws.Generators.{speech_number}
use Rattle.trellis.specs.Nearest.{Candidate, Nearest}
use Rattle.answers.specs.declared.Returned.{Returned}
use Rattle.coder.specs.Blocks.{speech_p, speech_u_at, speech_u}
use Rattle.coder.specs.Received.{speech_d_at, speech_received}
use Rattle.coder.specs.Says.{speech_d, speech_word}
use Rattle.coder.proofs.laws.Order.{even_bits, odd_bits, parity_bits, tail_bits}
use Rattle.coder.proofs.laws.Says.{speech_receives}
use Rattle.coder.proofs.laws.SpeechHeard.{d_even, d_odd, bits_d}
use Rattle.marking.specs.Marks.{counting}
use Rattle.marking.specs.Fair.{SpeechAccepted}
use Rattle.marking.proofs.laws.Accepted.{by_verdict, taken}
use Rattle.marking.proofs.laws.Fair.{nearest_gets_yes}

three_long : length speech_g ≡ 3
three_long = ap length (sym speech_number) ∙ length_digits 3 0b011

-- u is a candidate, and d is what it carries, whatever stands behind
module _ (u rest : List ℕ) (cu : Candidate 189 u) where
  abbrev d : List ℕ
  d = speech_d u ++ rest

  abbrev q : List ℕ
  q = take 3 (drop 91 u)

  q_long : length q ≡ 3
  q_long = length_lent u 91 3 (omega (arith, cu.long))

  q_bits : Bits q
  q_bits = bits_take 3 (drop 91 u) (bits_drop 91 u cu.bits)

  first_bits : Bits (take 50 (speech_d u))
  first_bits = bits_take 50 (speech_d u) (bits_d u cu.bits)

  pub d_at : (j : ℕ) → j < 182 → get_or d j 0 ≡ speech_d_at u j
  d_at j h =
      let l : length (speech_d u) ≡ 182 = length_tab 182 (speech_d_at u) in
      get_or-append (speech_d u) rest 0 j (omega (arith, h, l)) ∙ at_tab 182 (speech_d_at u) j h

  module _ (good : remainder speech_g (speech_word u) ≡ ones (length speech_g)) where
    parity_is : q ≡ speech_p d
    unfolding speech_p
    parity_is =
        let l : length (speech_d u) ≡ 182 = length_tab 182 (speech_d_at u) in
        parity_only speech_g (take 50 (speech_d u)) first_bits q (q_long ∙ sym three_long) q_bits good
        ∙ ap (parity speech_g) (sym (take-append-le 50 (speech_d u) rest (omega (arith, l))))

    front : (i : ℕ) → i ≤ 90 → get_or u i 0 ≡ get_or (speech_u d) i 0
    front i h = sym (even_bits d i h ∙ d_at (2 * i) (omega (arith, h)) ∙ d_even u i)

    middle : (k : ℕ) → k ≤ 2 → get_or u (91 + k) 0 ≡ get_or (speech_u d) (91 + k) 0
    middle k h =
        sym (get_or-take 3 (drop 91 u) k 0 (omega (arith, h)) ∙ get_or-drop 91 u k 0) ∙ ap (λ (w : List ℕ). get_or w k 0) parity_is ∙ sym (parity_bits d k h)

    back : (k : ℕ) → k ≤ 90 → get_or u (184 - k) 0 ≡ get_or (speech_u d) (184 - k) 0
    back k h = sym (odd_bits d k h ∙ d_at (2 * k + 1) (omega (arith, h)) ∙ d_odd u k)

    end : (k : ℕ) → k ≤ 3 → get_or u (185 + k) 0 ≡ get_or (speech_u d) (185 + k) 0
    end k h = sym (get_or-drop 185 u k 0) ∙ ap (λ (w : List ℕ). get_or w k 0) cu.ends ∙ at_zeros 4 k ∙ sym (tail_bits d k h)

    same : (i j : ℕ) → i ≡ j → get_or u j 0 ≡ get_or (speech_u d) j 0 → get_or u i 0 ≡ get_or (speech_u d) i 0
    same i j e h = ap (λ (k : ℕ). get_or u k 0) e ∙ h ∙ ap (λ (k : ℕ). get_or (speech_u d) k 0) (sym e)

    at : (i : ℕ) → i < 189 → get_or u i 0 ≡ get_or (speech_u d) i 0
    at i h =
        ⊎_elim (λ (l : i < 91). front i (omega (arith, l)))
        (λ (a : 91 ≤ i).
        ⊎_elim (λ (l : i < 94). same i (91 + (i - 91)) (omega (arith, a)) (middle (i - 91) (omega (arith, a, l))))
        (λ (b : 94 ≤ i).
        ⊎_elim (λ (l : i < 185). same i (184 - (184 - i)) (omega (arith, l)) (back (184 - i) (omega (arith, b))))
        (λ (e : 185 ≤ i). same i (185 + (i - 185)) (omega (arith, e)) (end (i - 185) (omega (arith, h))))
        (lt_or_le i 185))
        (lt_or_le i 94))
        (lt_or_le i 91)

    pub speech_laid_out : u ≡ speech_u d
    unfolding speech_u
    speech_laid_out =
        ext_get_or 0 u (speech_u d) (cu.long ∙ sym (length_tab 189 (speech_u_at d (speech_p d)))) (λ i h. at i (omega (arith, h, cu.long)))

pub speech_accepted : SpeechAccepted
unfolding counting
speech_accepted r out count d acc =
    let says = speech_receives r out in
    let given = says.only count (ap (λ (y : Returned). y.count) acc.0) in
    let x = says.heard given.0 given.1 in
    let u : List ℕ = x.u in
    let rest : List ℕ = given_bits (drop 378 r) in
    let cu = x.nearest.candidate in
    let decided = by_verdict speech_g (take 50 (speech_d u)) (q u rest cu) (q_long u rest cu ∙ sym three_long) (first_bits u rest cu) (q_bits u rest cu) in
    let t = taken (speech_received r out) (remainder speech_g (speech_word u) ≡ ones (length speech_g)) x.count count (speech_d u ++ rest) d out acc decided x.good x.bad in
    let u-is : u ≡ speech_u d = speech_laid_out u rest cu t.verdict ∙ ap speech_u t.hands in
    nearest_gets_yes 456 189 r (speech_u d) count given.0.reads given.0.bits (subst₂ (Nearest (take 378 r) 189) u-is t.counts x.nearest)
