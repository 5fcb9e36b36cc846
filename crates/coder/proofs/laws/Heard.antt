-- What `coder::block::receive` needs: the nearest block at the front of a buffer, the verdict by a number, and how a receiving entry ends.
use Rattle.std.specs.Prelude.{Bool, IsErrAnd, ◌≡◌, leb, drop, Ok, Err}
use Rattle.std.proofs.Math.Bool.{true, false}
use mathlib.Core.List.{List, ◌++◌}
use Rattle.std.proofs.Math.Path.{refl, sym, ap, ap₂, subst}
use Rattle.std.proofs.Common.{◌∙◌, arith, length-take-le, take-add, pow_pos}
use Prim.Native.Nat.{ℕ, zero, suc, ◌+◌, ◌-◌, ◌*◌, ◌%◌, ◌≤◌, ◌<◌, ◌^◌}
use Rattle.std.specs.Int.Bits.{bit_xor}
use Rattle.std.proofs.Math.Dec.{eqb}
use Rattle.std.proofs.Math.ListN.{length, take}
use Rattle.std.proofs.lemmas.List.{take-append-le}
use Rattle.std.proofs.lemmas.Result.{err_from_is_err_and}
use Rattle.std.proofs.Math.Nat.{pow-succ'}
use Rattle.bits.specs.Bits.{Bits, Symbols, none_over, pick, add, digits, value, ones, zeros}
use Rattle.bits.proofs.laws.Sum.{length_add, bits_add, add_assoc, bits_take, bits_drop, length_ones}
use Rattle.bits.proofs.laws.Value.{length_digits, bits_digits, value_digits, value_add}
use Rattle.parity.specs.Division.{remainder}
use Rattle.parity.proofs.laws.Division.{remainder_after}
use Rattle.bits.proofs.laws.Parts.{length_lent}
use Rattle.bits.proofs.laws.Tab.{over_tab, length_tab}
use Rattle.places.specs.Places.{e_at, gathered_at, gathered}
use Rattle.parity.specs.Asked.{Generates}
use Rattle.trellis.specs.Nearest.{Candidate, nearest, nearest_count}
use Rattle.trellis.proofs.laws.Nearest.{nearest_is}
use Rattle.answers.specs.Answers.{Meets, heard_or, hears, Told, Heard}
use Rattle.answers.specs.declared.Refusal.{Refusal}
use Rattle.coder.specs.Entries.{judged, lengths, Given}
use Rattle.coder.specs.Received.{Hearing, all_ones, block_heard, verdict, hands, judged_hearing, reception}
use Rattle.coder.specs.declared.format.Format.{Format}
use Rattle.coder.proofs.laws.Entries.{done}
use Rattle.coder.specs.laws.Format.{size, generator_of}
use Rattle.answers.specs.declared.Unheard.TheVariants as unheard

-- ---- a colour that is added to the parity bits is added to the remainder
module _ (g d p b : List ℕ) (lp : length p ≡ length g) (lb : length b ≡ length g) (bd : Bits d) (bp : Bits p) (bb : Bits b) where
  coloured : remainder g (d ++ add p b) ≡ add (remainder g (d ++ p)) b
  coloured =
      let x = remainder g (d ++ zeros (length g)) in
      remainder_after g d (add p b) (length_add p b ∙ lb) bd (bits_add p b bb)
      ∙ add_assoc x p b (lp ∙ sym lb)
      ∙ ap (λ (l : List ℕ). add l b) (sym (remainder_after g d p lp bd bp))

  pub value_coloured : value (remainder g (d ++ add p b)) ≡ bit_xor (value (remainder g (d ++ p))) (value b)
  value_coloured =
      let x = remainder g (d ++ zeros (length g)) in
      let e = remainder_after g d p lp bd bp in
      ap value coloured
      ∙ value_add (remainder g (d ++ p)) b (ap length e ∙ length_add x p ∙ lp ∙ sym lb) (rw e (bits_add x p bp)) bb

pub value_ones : (r : ℕ) → value (ones r) ≡ 2 ^ r - 1
unfolding value ones
value_ones zero = refl
value_ones (suc r) =
    let one : 0 < 2 ^ r = pow_pos r in
    let twice : 2 ^ suc r ≡ 2 * 2 ^ r = pow-succ' 2 r in
    let long : length (ones r) ≡ r = length_ones r in
    ap₂ (λ (k x : ℕ). 1 * 2 ^ k + x) long (value_ones r) ∙ omega (arith, one, twice)

-- ---- what is told of a block that is heard, by the verdict
module _ (h : Hearing) (d : List ℕ) (t : Bool) (e : t ≡ h.good) (k : ℕ) (ek : k ≡ h.count) where
  said : (b : Bool) → t ≡ b → pick b (Ok k) (Err (unheard.Bad k)) ≡ verdict h
  unfolding verdict
  said b f = ap₂ (λ (x : Bool) (n : ℕ). pick x (Ok n) (Err (unheard.Bad n))) (sym f ∙ e) ek

  pub handed_good : (after : List ℕ) → t ≡ true → after ≡ h.bits → Meets (hands h d) (Ok k) after
  unfolding hands hears heard_or
  handed_good after f ea = record { result = said true f; left = ea ∙ ap (λ (x : Heard). heard_or x h.bits d) (said true f) }

  pub handed_bad : t ≡ false → Meets (hands h d) (Err (unheard.Bad k)) d
  unfolding hands hears heard_or
  handed_bad f = record { result = said false f; left = ap (λ (x : Heard). heard_or x h.bits d) (said false f) }

-- ---- the nearest block u, which stands at the front of v, and what of it is divided
module _ (f : Format) (c rest v : List ℕ) (ev : v ≡ nearest c (size f) ++ rest) where
  pub found : Candidate (size f) (nearest c (size f))
  found = (nearest_is c (size f) (omega arith) f.short).candidate

  pub front : (k : ℕ) → k ≤ size f → take k v ≡ take k (nearest c (size f))
  front k h = ap (take k) ev ∙ take-append-le k (nearest c (size f)) rest (omega (arith, found.long, h))

  module _ (k : ℕ) (ek : k ≡ f.bits + f.degree) where
    pub divided : take k v ≡ take (f.bits + f.degree) (nearest c (size f))
    divided = ap (λ (j : ℕ). take j v) ek ∙ front (f.bits + f.degree) (omega arith)

    pub divisible : Generates f.generator f.degree × (f.degree ≤ length (take k v)) × Bits (take k v)
    divisible =
        let u : List ℕ = nearest c (size f) in
        let l : length (take (f.bits + f.degree) u) ≡ f.bits + f.degree = length-take-le (f.bits + f.degree) u (omega (arith, found.long)) in
        (f.generates, rw divided (omega (arith, l)), rw divided (bits_take (f.bits + f.degree) u found.bits))

pub same_size : (f : Format) → f.bits + length (generator_of f) + 4 ≡ size f
same_size f = omega (arith, length_digits f.degree f.generator)

-- ---- the bits, the count and the verdict
module _ (f : Format) (colour : ℕ) (c d rest v : List ℕ) (given : Given 2 f.coded f.bits c d) (ev : v ≡ nearest c (size f) ++ rest) where
  abbrev u : List ℕ
  u = nearest c (size f)

  abbrev g : List ℕ
  g = generator_of f

  abbrev n : ℕ
  n = length d

  long_g : length g ≡ f.degree
  long_g = length_digits f.degree f.generator

  candidate : Candidate (size f) u
  candidate = found f c rest v ev

  m_is : n + f.degree - 0 ≡ f.bits + f.degree
  m_is = omega (arith, given.lends)

  pub heard_divisible : Generates f.generator f.degree × (f.degree ≤ length (take (n + f.degree - 0) v)) × Bits (take (n + f.degree - 0) v)
  heard_divisible = divisible f c rest v ev (n + f.degree - 0) m_is

  pub heard_bits : take (n - 0) v ≡ (block_heard g colour f.bits c).bits
  unfolding block_heard
  heard_bits =
      let k : n - 0 ≡ f.bits = omega (arith, given.lends) in
      ap (λ (j : ℕ). take j v) k ∙ front f c rest v ev f.bits (omega arith) ∙ ap (λ (j : ℕ). take f.bits (nearest c j)) (sym (same_size f))

  pub heard_count : (k : ℕ) → k ≡ nearest_count c (size f) → k ≡ (block_heard g colour f.bits c).count
  unfolding block_heard
  heard_count k e = e ∙ ap (nearest_count c) (sym (same_size f))

  pub heard_good : colour < 2 ^ f.degree → (t : Bool) → t ≡ eqb (bit_xor (value (remainder g (take (n + f.degree - 0) v))) colour) (2 ^ f.degree - 1) → t ≡ (block_heard g colour f.bits c).good
  unfolding block_heard all_ones
  heard_good within t e =
      let m = f.bits in
      let p : List ℕ = take (length g) (drop m u) in
      let b : List ℕ = digits (length g) colour in
      let lp : length p ≡ length g = length_lent u m (length g) (omega (arith, candidate.long, long_g)) in
      let h : colour < 2 ^ length g = subst (λ (k : ℕ). colour < 2 ^ k) (sym long_g) within in
      let whole : take m u ++ p ≡ take (n + f.degree - 0) v = sym (take-add m (length g) u) ∙ ap (λ (k : ℕ). take (m + k) u) long_g ∙ sym (divided f c rest v ev (n + f.degree - 0) m_is) in
      let turned = value_coloured g (take m u) p b lp (length_digits (length g) colour) (bits_take m u candidate.bits) (bits_take (length g) (drop m u) (bits_drop m u candidate.bits)) (bits_digits (length g) colour) in
      e ∙ sym (ap₂ eqb
      (ap (λ (k : ℕ). value (remainder g (take m (nearest c k) ++ add (take (length g) (drop m (nearest c k))) b))) (same_size f)
      ∙ turned ∙ ap₂ bit_xor (ap (λ (w : List ℕ). value (remainder g w)) whole) (value_digits (length g) colour h))
      (value_ones (length g) ∙ ap (λ (k : ℕ). 2 ^ k - 1) long_g))

-- ---- the two ways in which a receiving entry ends
module _ (n m i : ℕ) (c d : List ℕ) (h : Hearing) (j : Told) (e : j ≡ judged (lengths c n d m) (none_over 2 c) (leb i 63)) where
  pub reception_done : (r : Heard) (after : List ℕ) → j ≡ (Ok tt) → Meets (hands h d) r after → Meets (reception n m i c h d) r after
  unfolding reception judged_hearing hands hears
  reception_done r after f o =
      let t : verdict h ≡ judged_hearing (judged (lengths c n d m) (none_over 2 c) (leb i 63)) h = ap (λ (x : Told). judged_hearing x h) (sym f ∙ e) in
      record { result = o.result ∙ t; left = o.left ∙ ap (λ (x : Heard). heard_or x h.bits d) t }

  pub reception_refused : (x : Refusal) → j ≡ Err x → Meets (reception n m i c h d) (Err (unheard.Refused x)) d
  unfolding reception judged_hearing hears heard_or
  reception_refused x f =
      let t : Err (unheard.Refused x) ≡ judged_hearing (judged (lengths c n d m) (none_over 2 c) (leb i 63)) h = ap (λ (y : Told). judged_hearing y h) (sym f ∙ e) in
      record { result = t; left = ap (λ (y : Heard). heard_or y h.bits d) t }

-- ---- the same, where it goes on with `?`
pub received_on : (n m i : ℕ) (c d : List ℕ) (h : Hearing) {after : List ℕ} {j : Told} {r : Heard} → j ≡ judged (lengths c n d m) (none_over 2 c) (leb i 63) → j ≡ Ok tt
    → Meets (hands h d) r after → Meets (reception n m i c h d) r after
received_on n m i c d h {after} {j} {r} e f o = reception_done n m i c d h j e r after f o

pub received_none : (n m i : ℕ) (c d : List ℕ) (h : Hearing) {j : Told} {out : Heard} {x : Refusal} → j ≡ judged (lengths c n d m) (none_over 2 c) (leb i 63) → j ≡ Err x
    → IsErrAnd out (λ y. y ≡ unheard.Refused x) → Meets (reception n m i c h d) out d
received_none n m i c d h {j} {out} {x} e f q =
    let p = err_from_is_err_and out q in
    rw (p.1, p.2) (reception_refused n m i c d h j e x f)

-- ---- an entry that is given what it should be hears the block
module _ (n m i : ℕ) (c d : List ℕ) (l : i ≤ 63) (g : Given 2 n m c d) (h : Hearing) (k : ℕ) (ek : h.count ≡ k) where
  pub hears_good : (bits : List ℕ) → h.good ≡ true → h.bits ≡ bits → reception n m i c h d ≡ record { result = Ok k; left = bits }
  unfolding reception judged_hearing verdict hears heard_or
  hears_good bits eg eb = rw (done 2 n m i c d l g, eg, ek, eb) refl

  pub hears_bad : h.good ≡ false → reception n m i c h d ≡ record { result = Err (unheard.Bad k); left = d }
  unfolding reception judged_hearing verdict hears heard_or
  hears_bad eg = rw (done 2 n m i c d l g, eg, ek) refl

-- a generator by its number and by its name
pub same_reception : {g G : List ℕ} → g ≡ G → (n m i : ℕ) (c d : List ℕ) (r : Heard) (after : List ℕ)
    → Meets (reception m n i c (block_heard g i n c) d) r after → Meets (reception m n i c (block_heard G i n c) d) r after
same_reception eg n m i c d r after = subst (λ (x : List ℕ). Meets (reception m n i c (block_heard x i n c) d) r after) eg

-- ---- a SACCH message's control block may be received
pub message_given : (e d c : List ℕ) → Symbols e → length d ≡ 184 → c ≡ gathered e → Given 2 456 184 c d
unfolding gathered gathered_at
message_given e d c be ld ec = record {
  reads = ap length ec ∙ length_tab 456 (gathered_at e);
  bits = subst Symbols (sym ec) (over_tab 2 456 (gathered_at e) (λ k. be (116 * (k % 4) + e_at k)));
  lends = ld;
}
