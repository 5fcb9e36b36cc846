-- What is put into the ring is found there, missing bits too; the other bursts stand, and in order they stand one after another.
use Rattle.std.specs.Prelude.{List, ◌++◌, ◌≡◌, take}
use Rattle.std.proofs.Common.{⊎_elim, ap₂, ◌∙◌, arith, take_all, get_or-drop, drop-drop}
use Rattle.std.proofs.Math.Path.{refl, ap}
use Prim.Native.Nat.{ℕ, ◌+◌, ◌-◌, ◌*◌, ◌%◌, ◌≤◌, ◌<◌}
use Rattle.std.proofs.Math.ListN.{length, get_or, drop, length-append, length-drop}
use Rattle.std.proofs.Math.Seq.{length-take-le, get_or-take}
use Rattle.bits.specs.Bits.{symbol}
use Rattle.bits.proofs.laws.Cases.{lt_or_le}
use Rattle.bits.proofs.laws.Missing.{symbol_same}
use Rattle.bits.proofs.laws.Parts.{put, put_two}
use Rattle.bits.proofs.laws.Tab.{at_left, at_right}
use Rattle.burst.specs.Ring.{held_bit, kept, in_order}

-- a part that is lent from a on and comes back as the burst
pub kept_is : (held e y : List ℕ) (B a : ℕ) → a ≡ 116 * (B % 8) → y ≡ e → put a (a + 116 - a) y held ≡ kept held B e
unfolding kept
kept_is held e y B a ea ey =
    let k : a + 116 - a ≡ 116 = omega arith in
    rw (k, drop-drop 116 a held, ey, ea)

-- ---- a burst that is put in its place is found there, and the others stand
module _ (held e : List ℕ) (B : ℕ) (lh : length held ≡ 928) (le : length e ≡ 116) where
  abbrev at : ℕ
  at = 116 * (B % 8)

  abbrev front : List ℕ
  front = take (116 * (B % 8)) held

  abbrev rest : List ℕ
  rest = drop (116 * (B % 8) + 116) held

  front_long : length front ≡ at
  front_long = length-take-le (116 * (B % 8)) held (omega (arith, lh))

  pub kept_long : length (kept held B e) ≡ 928
  unfolding kept
  kept_long =
      let a : ℕ = 116 * (B % 8) in
      let l : length (drop (a + 116) held) ≡ length held - (a + 116) = length-drop (a + 116) held in
      rw (length-append (take a held) (e ++ drop (a + 116) held), length-append e (drop (a + 116) held), length-take-le a held (omega (arith, lh)), le, l) (omega (arith, lh))

  pub kept_same : (x : ℕ) → x < 116 → get_or e x 0 ≤ 2 → held_bit (kept held B e) B x ≡ get_or e x 0
  unfolding kept held_bit
  kept_same x h l =
      ap symbol (at_right front (e ++ rest) at x (at + x) front_long refl ∙ at_left e rest x (omega (arith, le)))
      ∙ symbol_same (get_or e x 0) l

  pub kept_other : (b x : ℕ) → x < 116 → (b % 8 ≡ B % 8 → ⊥) → held_bit (kept held B e) b x ≡ held_bit held b x
  unfolding kept held_bit
  kept_other b x h other = ap symbol (⊎_elim before behind (lt_or_le (b % 8) (B % 8)))
    where
      before : b % 8 < B % 8 → get_or (front ++ (e ++ rest)) (116 * (b % 8) + x) 0 ≡ get_or held (116 * (b % 8) + x) 0
      before l =
          at_left front (e ++ rest) (116 * (b % 8) + x) (rw front_long (omega (arith, l)))
          ∙ get_or-take (116 * (B % 8)) held (116 * (b % 8) + x) 0 (omega (arith, l))

      behind : B % 8 ≤ b % 8 → get_or (front ++ (e ++ rest)) (116 * (b % 8) + x) 0 ≡ get_or held (116 * (b % 8) + x) 0
      behind l =
          let more : B % 8 < b % 8 = ⊎_elim (λ (m : B % 8 < b % 8). m) (λ (m : b % 8 ≤ B % 8). absurd (other (omega (arith, l, m)))) (lt_or_le (B % 8) (b % 8)) in
          let i : ℕ = 116 * (b % 8) + x in
          let j : ℕ = i - (at + 116) in
          let same : at + 116 + j ≡ i = omega (arith, more) in
          at_right front (e ++ rest) at (116 + j) i front_long (omega (arith, more))
          ∙ at_right e rest 116 j (116 + j) le refl
          ∙ get_or-drop (at + 116) held j 0
          ∙ ap (λ (k : ℕ). get_or held k 0) same

-- ---- the eight bursts in order: the part from a on, and then the part before it
pub in_order_is : (held bursts y z : List ℕ) (B a : ℕ) → a ≡ 116 * (B % 8) → length held ≡ 928 → length bursts ≡ 928
    → y ≡ take (928 - a) (drop a held) → z ≡ take (a - 0) held
    → put (928 - a) (928 - (928 - a)) z (put 0 (928 - a - 0) y bursts) ≡ in_order held B
unfolding in_order
in_order_is held bursts y z B a ea lh lb ey ez =
    let n : ℕ = 928 - a in
    let back : length (drop a held) ≡ n = length-drop a held ∙ omega (arith, lh) in
    let all : take n (drop a held) ≡ drop a held = take_all n (drop a held) (omega (arith, back)) in
    let none : a - 0 ≡ a = omega arith in
    put_two bursts y z (n - 0) (928 - n) n (ap length (ey ∙ all) ∙ back) (omega arith) (omega (arith, lb, ea))
    ∙ ap₂ (λ (v w : List ℕ). v ++ w) (ey ∙ all) (ez ∙ ap (λ (k : ℕ). take k held) none)
    ∙ ap (λ (k : ℕ). drop k held ++ take k held) ea

-- e(x) of the burst that is r after the first
pub in_order_at : (held : List ℕ) (B r x : ℕ) → length held ≡ 928 → r < 8 → x < 116 → symbol (get_or (in_order held B) (116 * r + x) 0) ≡ held_bit held (B + r) x
unfolding in_order held_bit
in_order_at held B r x lh hr hx = ap symbol (⊎_elim before behind (lt_or_le (B % 8 + r) 8))
  where
    before : B % 8 + r < 8 → get_or (drop (116 * (B % 8)) held ++ take (116 * (B % 8)) held) (116 * r + x) 0 ≡ get_or held (116 * ((B + r) % 8) + x) 0
    before l =
        let long : length (drop (116 * (B % 8)) held) ≡ length held - 116 * (B % 8) = length-drop (116 * (B % 8)) held in
        let e : (B + r) % 8 ≡ B % 8 + r = omega (arith, l) in
        let i : 116 * (B % 8) + (116 * r + x) ≡ 116 * ((B + r) % 8) + x = omega (arith, e) in
        at_left (drop (116 * (B % 8)) held) (take (116 * (B % 8)) held) (116 * r + x) (omega (arith, long, lh, l))
        ∙ get_or-drop (116 * (B % 8)) held (116 * r + x) 0
        ∙ ap (λ (k : ℕ). get_or held k 0) i

    behind : 8 ≤ B % 8 + r → get_or (drop (116 * (B % 8)) held ++ take (116 * (B % 8)) held) (116 * r + x) 0 ≡ get_or held (116 * ((B + r) % 8) + x) 0
    behind l =
        let long : length (drop (116 * (B % 8)) held) ≡ length held - 116 * (B % 8) = length-drop (116 * (B % 8)) held in
        let n : ℕ = 928 - 116 * (B % 8) in
        let j : ℕ = 116 * ((B + r) % 8) + x in
        let e : (B + r) % 8 + 8 ≡ B % 8 + r = omega (arith, l, hr) in
        at_right (drop (116 * (B % 8)) held) (take (116 * (B % 8)) held) n j (116 * r + x) (omega (arith, long, lh)) (omega (arith, e))
        ∙ get_or-take (116 * (B % 8)) held j 0 (omega (arith, e, hr, hx))
