-- The map from bit k to its burst and e-index is one to one, misses exactly the flags, and takes the even places for k mod 8 < 4 and
-- the odd ones otherwise. Two computed tests carry it: one over the 456 bits, one over the 464 bytes of four bursts.
use Rattle.std.specs.Prelude.{Bool, true, false, not, ◌≡◌, ℕ, ◌+◌, ◌*◌, ◌/◌, ◌%◌, ◌<◌}
use Rattle.std.proofs.Common.{sym, ap, ap₂, ◌∙◌}
use Rattle.std.proofs.Math.Path.{subst₂}
use native.Mathlib.Omega.{arith}
use Rattle.std.proofs.Math.Dec.{T, ltb, eqb, ltb→lt, eqb→eq}
use Rattle.bits.specs.Bits.{pick, both}
use Rattle.bits.proofs.laws.Tab.{below, both_left, both_right}
use Rattle.places.specs.Places.{place_of, e_of, e_at, place_at, bit_at, hl, hu}

-- is e(x) a flag?
abbrev pub is_flag : ℕ → Bool
is_flag x = pick (eqb x hl) true (eqb x hu)

-- ---- over the bits
goes : ℕ → Bool
goes k =
    both (eqb (bit_at (k % 4) (place_of k)) k)
    (both (eqb (place_at (e_at k)) (place_of k)) (both (ltb (e_at k) 116) (both (not (is_flag (e_at k))) (eqb (place_of k % 2) (k % 8 / 4)))))

-- where bit k goes, and that it is found there again
pub record Goes (k : ℕ) : Type 0 where
  pub found : bit_at (k % 4) (place_of k) ≡ k
  pub place : place_at (e_at k) ≡ place_of k
  pub within : e_at k < 116
  pub free : T (not (is_flag (e_at k)))
  pub half : place_of k % 2 ≡ k % 8 / 4

pub every_bit : (k : ℕ) → k < 456 → Goes k
unfolding goes place_of e_of e_at place_at bit_at
every_bit k h =
    let t : T (goes k) = below goes 456 tt k h in
    let found = eqb (bit_at (k % 4) (place_of k)) k in
    let place = eqb (place_at (e_at k)) (place_of k) in
    let within = ltb (e_at k) 116 in
    let free = not (is_flag (e_at k)) in
    let half = eqb (place_of k % 2) (k % 8 / 4) in
    let t₁ = both_right found (both place (both within (both free half))) t in
    let t₂ = both_right place (both within (both free half)) t₁ in
    let t₃ = both_right within (both free half) t₂ in
    record {
      found = eqb→eq (bit_at (k % 4) (place_of k)) k (both_left found (both place (both within (both free half))) t);
      place = eqb→eq (place_at (e_at k)) (place_of k) (both_left place (both within (both free half)) t₁);
      within = ltb→lt (e_at k) 116 (both_left within (both free half) t₂);
      free = both_left free half t₃;
      half = eqb→eq (place_of k % 2) (k % 8 / 4) (both_right free half t₃);
    }

-- ---- over the places
holds : ℕ → ℕ → Bool
holds i x =
    pick (is_flag x) true
    (both (ltb (bit_at i (place_at x)) 456)
    (both (eqb (bit_at i (place_at x) % 4) i) (both (eqb (e_at (bit_at i (place_at x))) x) (eqb (bit_at i (place_at x) % 8 / 4) (place_at x % 2)))))

-- the bit that stands at e(x) of burst i goes there
pub record Holds (i x : ℕ) : Type 0 where
  pub within : bit_at i (place_at x) < 456
  pub burst : bit_at i (place_at x) % 4 ≡ i
  pub index : e_at (bit_at i (place_at x)) ≡ x
  pub half : bit_at i (place_at x) % 8 / 4 ≡ place_at x % 2

-- ---- SACCH: burst k mod 4
module _ (k m : ℕ) (hk : k < 456) (hm : m < 456) where
  pub sacch_once : k % 4 ≡ m % 4 → e_at k ≡ e_at m → k ≡ m
  sacch_once e f =
      let gk = every_bit k hk in
      let gm = every_bit m hm in
      sym gk.found ∙ ap₂ bit_at e (sym gk.place ∙ ap place_at f ∙ gm.place) ∙ gm.found

  -- ---- speech and FACCH: burst k mod 8
  pub stream_once : k % 8 ≡ m % 8 → e_at k ≡ e_at m → k ≡ m
  stream_once e f = sacch_once (omega (arith, e)) f

spread : ℕ → Bool
spread y = holds (y / 116) (y % 116)

unflagged : (b c : Bool) → T (not b) → T (pick b true c) → T c
unflagged true c n t = absurd n
unflagged false c n t = t

module _ (i x : ℕ) (hi : i < 4) (hx : x < 116) (free : T (not (is_flag x))) where
  pub every_place : Holds i x
  unfolding spread holds place_of e_of e_at place_at bit_at
  every_place =
      let q : (116 * i + x) / 116 ≡ i = omega arith in
      let r : (116 * i + x) % 116 ≡ x = omega arith in
      let k = bit_at i (place_at x) in
      let within = ltb k 456 in
      let burst = eqb (k % 4) i in
      let index = eqb (e_at k) x in
      let half = eqb (k % 8 / 4) (place_at x % 2) in
      let t₀ : T (holds i x) = subst₂ (λ (a b : ℕ). T (holds a b)) q r (below spread 464 tt (116 * i + x) (omega arith)) in
      let t = unflagged (is_flag x) (both within (both burst (both index half))) free t₀ in
      let t₁ = both_right within (both burst (both index half)) t in
      let t₂ = both_right burst (both index half) t₁ in
      record {
        within = ltb→lt k 456 (both_left within (both burst (both index half)) t);
        burst = eqb→eq (k % 4) i (both_left burst (both index half) t₁);
        index = eqb→eq (e_at k) x (both_left index half t₂);
        half = eqb→eq (k % 8 / 4) (place_at x % 2) (both_right index half t₂);
      }

-- in burst r of a block's eight, half of the places are the block's: the even ones of the first four, the odd ones of the last four
pub stream_place_lem : (r x : ℕ) → r < 8 → x < 116 → T (not (is_flag x)) → place_at x % 2 ≡ r / 4 → bit_at (r % 4) (place_at x) % 8 ≡ r
stream_place_lem r x hr hx free e =
    let h = every_place (r % 4) x (omega arith) hx free in
    omega (arith, h.burst, h.half, e)
