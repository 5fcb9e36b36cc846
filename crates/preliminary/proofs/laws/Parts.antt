-- What the code of the preliminary stage needs: w and s written part by part, and the CRC by its number.
use Rattle.std.specs.Prelude.{Bool, ◌≡◌, eqb, length, get_or, replicate}
use mathlib.Core.List.{List, ◌++◌, append-nil}
use Rattle.std.proofs.Math.Path.{refl, sym, ap}
use Rattle.std.proofs.Common.{ap₂, ◌∙◌, subst, lit<, lit≤, length-append, drop_of_length-le, length-take-le, take_all, get_or-drop}
use Prim.Native.Nat.{ℕ, suc, ◌+◌, ◌-◌, ◌≤◌, ◌<◌}
use native.Mathlib.Omega.{arith}
use Rattle.std.proofs.Math.ListN.{take, drop, length-drop}
use Rattle.std.proofs.lemmas.List.{get_or-replicate, length-replicate}
use Rattle.std.proofs.Math.Seq.{get_or-take}
use Rattle.bits.specs.Bits.{Bits, tab, digits, value, zeros}
use Rattle.bits.proofs.laws.Parts.{put, put_next, put_two, length_lent, length_put}
use Rattle.bits.proofs.laws.Sum.{bits_append}
use Rattle.bits.proofs.laws.Tab.{length_tab, at_tab, is_tab, tab_then}
use Rattle.bits.proofs.laws.Value.{digits_value}
use Rattle.parity.specs.Asked.{Generates}
use Rattle.parity.specs.Division.{remainder, crc}
use Rattle.parity.proofs.laws.Generators.{efr_number}
use Rattle.order.specs.Order.{from1, fetched}
use Rattle.order.proofs.laws.Order.{from_suc, length_fetched, over_fetched}
use Rattle.tables.specs.Tables.{important}
use Rattle.preliminary.specs.Stage.{crc_p, w_at, efr_w, in_w, s_of, crc_word, crc_good}
use Rattle.tables.proofs.laws.Tables.{important_long}
use Rattle.preliminary.proofs.laws.Stage.{w_1, w_72, w_74, w_124, w_126, w_179, w_181, w_231, w_233, w_253, in_1, in_72, in_122, in_175, in_225, length_w, length_p, bits_p, efr_long}

-- ---- a buffer whose first a entries are f's: k more of them are written
pub put_more : (f : ℕ → ℕ) (a k n : ℕ) (e r y : List ℕ) → e ≡ tab a f ++ r → y ≡ tab k (λ i. f (a + i)) → n ≡ a + k → put a k y e ≡ tab n f ++ drop k r
put_more f a k n e r y ee ey en =
    ap (put a k y) ee ∙ put_next (tab a f) r y a k (length_tab a f) ∙ ap (λ (x : List ℕ). x ++ drop k r) (tab_then a k n f (tab a f) y refl ey en)

-- and where no more are left, that is all
pub put_last : (f : ℕ → ℕ) (a k n : ℕ) (e r y : List ℕ) → e ≡ tab a f ++ r → y ≡ tab k (λ i. f (a + i)) → n ≡ a + k → length r ≤ k → put a k y e ≡ tab n f
put_last f a k n e r y ee ey en short =
    put_more f a k n e r y ee ey en ∙ ap (λ (x : List ℕ). tab n f ++ x) (drop_of_length-le r {i = k} short) ∙ append-nil (tab n f)

-- a part, and a bit twice behind it
pub part_laid : (part w x y : List ℕ) (b : ℕ) → length w ≡ length part + 2 → x ≡ part
    → y ≡ replicate (length (take (length w - length part) (drop (length part) (put 0 (length part - 0) x w)))) b
    → put (length part) (length w - length part) y (put 0 (length part - 0) x w) ≡ part ++ replicate 2 b
part_laid part w x y b lw ex ey =
    let n = length part in
    let lx : length x ≡ n = ap length ex in
    let l : length (put 0 (n - 0) x w) ≡ length w = length_put w x 0 (n - 0) (omega (arith, lw)) (omega (arith, lx)) in
    let two : length (take (length w - n) (drop n (put 0 (n - 0) x w))) ≡ 2 = length_lent (put 0 (n - 0) x w) n (length w - n) (omega (arith, l, lw)) ∙ omega (arith, lw) in
    put_two w x y (n - 0) (length w - n) n lx (omega arith) (omega (arith, lw)) ∙ ap₂ ◌++◌ ex (ey ∙ ap (λ (k : ℕ). replicate k b) two)

-- the n entries of s from a on, by their index
pub part_of : (s : List ℕ) (f : ℕ → ℕ) (a n : ℕ) → a + n ≤ length s → ((i : ℕ) → i < n → get_or s (a + i) 0 ≡ f i) → take n (drop a s) ≡ tab n f
part_of s f a n l each =
    is_tab n f (take n (drop a s)) (length_lent s a n l) (λ i h. get_or-take n (drop a s) i 0 h ∙ get_or-drop a s i 0 ∙ each i h)

-- and one of them twice more
pub part_and_twice : (s : List ℕ) (f : ℕ → ℕ) (a n m b : ℕ) → a + n ≤ length s → m ≡ n + 2 → ((i : ℕ) → i < n → get_or s (a + i) 0 ≡ f i)
    → ((i : ℕ) → n ≤ i → i < m → b ≡ f i) → take n (drop a s) ++ replicate 2 b ≡ tab m f
part_and_twice s f a n m b l em each copies =
    tab_then n 2 m f (take n (drop a s)) (replicate 2 b) (part_of s f a n l each)
    (is_tab 2 (λ i. f (n + i)) (replicate 2 b) (length-replicate 2 b) (λ i h. get_or-replicate 2 i b 0 h ∙ copies (n + i) (omega arith) (omega (arith, em, h)))) em

-- ---- w
module _ (s : List ℕ) (ls : length s ≡ 244) where
  abbrev p : List ℕ
  p = crc_p s

  abbrev f : ℕ → ℕ
  f i = w_at s p (suc i)

  -- s(k) by its index from 0
  at : (k i : ℕ) → k ≡ suc i → get_or s i 0 ≡ from1 s k
  at k i e = sym (from_suc s i) ∙ ap (from1 s) (sym e)

  first : take 71 s ++ replicate 2 (get_or s 69 0) ≡ tab 73 f
  first =
      part_and_twice s f 0 71 73 (get_or s 69 0) (omega (arith, ls)) refl
      (λ i h. at (suc i) (0 + i) (omega arith) ∙ sym (w_1 s p (suc i) h))
      (λ i l h. at 70 69 refl ∙ sym (w_72 s p (suc i) (omega arith) h))

  second : take 50 (drop 71 s) ++ replicate 2 (get_or s 119 0) ≡ tab 52 (λ i. f (73 + i))
  second =
      part_and_twice s (λ i. f (73 + i)) 71 50 52 (get_or s 119 0) (omega (arith, ls)) refl
      (λ i h. at (suc (73 + i) - 2) (71 + i) (omega arith) ∙ sym (w_74 s p (suc (73 + i)) (omega arith) (omega (arith, h))))
      (λ i l h. at 120 119 refl ∙ sym (w_124 s p (suc (73 + i)) (omega (arith, l)) (omega (arith, h))))

  third : take 53 (drop 121 s) ++ replicate 2 (get_or s 172 0) ≡ tab 55 (λ i. f (125 + i))
  third =
      part_and_twice s (λ i. f (125 + i)) 121 53 55 (get_or s 172 0) (omega (arith, ls)) refl
      (λ i h. at (suc (125 + i) - 4) (121 + i) (omega arith) ∙ sym (w_126 s p (suc (125 + i)) (omega arith) (omega (arith, h))))
      (λ i l h. at 173 172 refl ∙ sym (w_179 s p (suc (125 + i)) (omega (arith, l)) (omega (arith, h))))

  fourth : take 50 (drop 174 s) ++ replicate 2 (get_or s 222 0) ≡ tab 52 (λ i. f (180 + i))
  fourth =
      part_and_twice s (λ i. f (180 + i)) 174 50 52 (get_or s 222 0) (omega (arith, ls)) refl
      (λ i h. at (suc (180 + i) - 6) (174 + i) (omega arith) ∙ sym (w_181 s p (suc (180 + i)) (omega arith) (omega (arith, h))))
      (λ i l h. at 223 222 refl ∙ sym (w_231 s p (suc (180 + i)) (omega (arith, l)) (omega (arith, h))))

  fifth : take 20 (drop 224 s) ≡ tab 20 (λ i. f (232 + i))
  fifth =
      part_of s (λ i. f (232 + i)) 224 20 (omega (arith, ls))
      (λ i h. at (suc (232 + i) - 8) (224 + i) (omega arith) ∙ sym (w_233 s p (suc (232 + i)) (omega arith) (omega (arith, h))))

  front : tab 232 f ≡ take 232 (efr_w s)
  unfolding efr_w
  front =
      sym (is_tab 232 f (take 232 (efr_w s)) (length-take-le 232 (efr_w s) (omega (arith, length_w s)))
      (λ i h. get_or-take 232 (efr_w s) i 0 h ∙ at_tab 260 f i (omega arith)))

  pub repeats_laid : (e y₁ y₂ y₃ y₄ : List ℕ) → length e ≡ 232
      → y₁ ≡ take 71 s ++ replicate 2 (get_or s 69 0) → y₂ ≡ take 50 (drop 71 s) ++ replicate 2 (get_or s 119 0)
      → y₃ ≡ take 53 (drop 121 s) ++ replicate 2 (get_or s 172 0) → y₄ ≡ take 50 (drop 174 s) ++ replicate 2 (get_or s 222 0)
      → put 180 52 y₄ (put 125 55 y₃ (put 73 52 y₂ (put 0 73 y₁ e))) ≡ take 232 (efr_w s)
  repeats_laid e y₁ y₂ y₃ y₄ le e₁ e₂ e₃ e₄ =
      let r₁ : List ℕ = drop 73 e in
      let r₂ : List ℕ = drop 52 r₁ in
      let r₃ : List ℕ = drop 55 r₂ in
      let w₁ : put 0 73 y₁ e ≡ tab 73 f ++ r₁ = ap (λ (x : List ℕ). x ++ r₁) (e₁ ∙ first) in
      let w₂ = put_more f 73 52 125 (put 0 73 y₁ e) r₁ y₂ w₁ (e₂ ∙ second) refl in
      let w₃ = put_more f 125 55 180 (put 73 52 y₂ (put 0 73 y₁ e)) r₂ y₃ w₂ (e₃ ∙ third) refl in
      put_last f 180 52 232 (put 125 55 y₃ (put 73 52 y₂ (put 0 73 y₁ e))) r₃ y₄ w₃ (e₄ ∙ fourth) refl (simp length-drop (omega (arith, le))) ∙ front

  pub w_laid : Bits s → (e y₁ y₂ y₃ : List ℕ) → length e ≡ 260 → y₁ ≡ take 232 (efr_w s) → y₂ ≡ take 20 (drop 224 s) → y₃ ≡ crc_p s
      → put 252 8 y₃ (put 232 20 y₂ (put 0 232 y₁ e)) ≡ efr_w s
  unfolding efr_w
  w_laid bs e y₁ y₂ y₃ le e₁ e₂ e₃ =
      let sixth : crc_p s ≡ tab 8 (λ i. f (252 + i)) = is_tab 8 (λ i. f (252 + i)) (crc_p s) (length_p s bs)
      (λ i h. let e : suc (252 + i) - 252 ≡ suc i = omega arith in sym (from_suc p i) ∙ ap (from1 p) (sym e) ∙ sym (w_253 s p (suc (252 + i)) (omega arith))) in
      let r₁ : List ℕ = drop 232 e in
      let w₁ : put 0 232 y₁ e ≡ tab 232 f ++ r₁ = ap (λ (x : List ℕ). x ++ r₁) (e₁ ∙ sym front) in
      let w₂ = put_more f 232 20 252 (put 0 232 y₁ e) r₁ y₂ w₁ (e₂ ∙ fifth) refl in
      put_last f 252 8 260 (put 232 20 y₂ (put 0 232 y₁ e)) (drop 20 r₁) y₃ w₂ (e₃ ∙ sixth) refl (simp length-drop (omega (arith, le)))

-- ---- s
module _ (w : List ℕ) (lw : length w ≡ 260) where
  abbrev g : ℕ → ℕ
  g i = from1 w (in_w (suc i))

  -- w(x), which is s(k), by its index from 0
  at_place : (k x i : ℕ) → in_w k ≡ x → x ≡ suc i → get_or w i 0 ≡ from1 w (in_w k)
  at_place k x i e f = sym (from_suc w i) ∙ ap (from1 w) (sym (e ∙ f))

  pub s_laid : (e y₁ y₂ y₃ y₄ y₅ : List ℕ) → length e ≡ 244
      → y₁ ≡ take 71 w → y₂ ≡ take 50 (drop 73 w) → y₃ ≡ take 53 (drop 125 w) → y₄ ≡ take 50 (drop 180 w) → y₅ ≡ take 20 (drop 232 w)
      → put 224 20 y₅ (put 174 50 y₄ (put 121 53 y₃ (put 71 50 y₂ (put 0 71 y₁ e)))) ≡ s_of w
  unfolding s_of
  s_laid e y₁ y₂ y₃ y₄ y₅ le e₁ e₂ e₃ e₄ e₅ =
      let r₁ : List ℕ = drop 71 e in
      let r₂ : List ℕ = drop 50 r₁ in
      let r₃ : List ℕ = drop 53 r₂ in
      let r₄ : List ℕ = drop 50 r₃ in
      let p₁ : take 71 w ≡ tab 71 g = part_of w g 0 71 (omega (arith, lw)) (λ i h. at_place (suc i) (suc i) (0 + i) (in_1 (suc i) h) (omega arith)) in
      let p₂ : take 50 (drop 73 w) ≡ tab 50 (λ i. g (71 + i)) = part_of w (λ i. g (71 + i)) 73 50 (omega (arith, lw))
      (λ i h. at_place (suc (71 + i)) (suc (71 + i) + 2) (73 + i) (in_72 (suc (71 + i)) (omega arith) (omega (arith, h))) (omega arith)) in
      let p₃ : take 53 (drop 125 w) ≡ tab 53 (λ i. g (121 + i)) = part_of w (λ i. g (121 + i)) 125 53 (omega (arith, lw))
      (λ i h. at_place (suc (121 + i)) (suc (121 + i) + 4) (125 + i) (in_122 (suc (121 + i)) (omega arith) (omega (arith, h))) (omega arith)) in
      let p₄ : take 50 (drop 180 w) ≡ tab 50 (λ i. g (174 + i)) = part_of w (λ i. g (174 + i)) 180 50 (omega (arith, lw))
      (λ i h. at_place (suc (174 + i)) (suc (174 + i) + 6) (180 + i) (in_175 (suc (174 + i)) (omega arith) (omega (arith, h))) (omega arith)) in
      let p₅ : take 20 (drop 232 w) ≡ tab 20 (λ i. g (224 + i)) = part_of w (λ i. g (224 + i)) 232 20 (omega (arith, lw))
      (λ i h. at_place (suc (224 + i)) (suc (224 + i) + 8) (232 + i) (in_225 (suc (224 + i)) (omega arith)) (omega arith)) in
      let w₁ : put 0 71 y₁ e ≡ tab 71 g ++ r₁ = ap (λ (x : List ℕ). x ++ r₁) (e₁ ∙ p₁) in
      let w₂ = put_more g 71 50 121 (put 0 71 y₁ e) r₁ y₂ w₁ (e₂ ∙ p₂) refl in
      let w₃ = put_more g 121 53 174 (put 71 50 y₂ (put 0 71 y₁ e)) r₂ y₃ w₂ (e₃ ∙ p₃) refl in
      let w₄ = put_more g 174 50 224 (put 121 53 y₃ (put 71 50 y₂ (put 0 71 y₁ e))) r₃ y₄ w₃ (e₄ ∙ p₄) refl in
      put_last g 224 20 244 (put 174 50 y₄ (put 121 53 y₃ (put 71 50 y₂ (put 0 71 y₁ e)))) r₄ y₅ w₄ (e₅ ∙ p₅) refl (simp length-drop (omega (arith, le)))

-- ---- what the CRC divides: b(1) to b(65), then eight bits
module _ (s b v : List ℕ) (bs : Bits s) (lv : length v ≡ 8) (bv : Bits v) (eb : b ≡ fetched important s ++ v) where
  length_b : length b ≡ 73
  length_b = ap length eb ∙ length-append (fetched important s) v ∙ omega (arith, length_fetched important s, important_long, lv)

  pub crc_divisible : Generates 0b00011101 8 × (8 ≤ length b) × Bits b
  crc_divisible = (
    record { some = lit< tt; narrow = lit≤ tt; below = lit< tt },
    omega (arith, length_b),
    subst Bits (sym eb) (bits_append (fetched important s) v (over_fetched 1 important s bs) bv),
  )

-- eight bits are laid behind them
pub word_laid : (s v e x y : List ℕ) → length e ≡ 73 → x ≡ fetched important s → y ≡ v → put 65 8 y (put 0 65 x e) ≡ fetched important s ++ v
word_laid s v e x y le ex ey =
    put_two e x y 65 8 65 (ap length ex ∙ length_fetched important s ∙ important_long) refl le ∙ ap₂ ◌++◌ ex ey

-- behind them eight zeros: what is left are p(1) to p(8)
pub crc_put : (s b p : List ℕ) (x n : ℕ) → Bits s → b ≡ fetched important s ++ zeros 8 → x ≡ value (remainder (digits 8 0b00011101) b) → n ≡ 8 → p ≡ digits n x → p ≡ crc_p s
unfolding crc_p crc
crc_put s b p x n bs eb ex en ep =
    let fx : x ≡ value (crc_p s) = ex ∙ ap₂ (λ (g w : List ℕ). value (remainder g w)) efr_number (eb ∙ ap (λ (k : ℕ). fetched important s ++ zeros k) (sym efr_long)) in
    ep ∙ ap₂ digits (en ∙ sym (length_p s bs)) fx ∙ digits_value (crc_p s) (bits_p s bs)

-- behind them w(253) to w(260): the verdict
pub crc_judged : (w s b : List ℕ) (t : Bool) → length w ≡ 260 → s ≡ s_of w → b ≡ fetched important s ++ take 8 (drop 252 w) → t ≡ eqb (value (remainder (digits 8 0b00011101) b)) 0 → t ≡ crc_good w
unfolding crc_good crc_word
crc_judged w s b t lw es eb et =
    let all : take 8 (drop 252 w) ≡ drop 252 w = take_all 8 (drop 252 w) (simp length-drop (omega (arith, lw))) in
    et ∙ ap₂ (λ (g x : List ℕ). eqb (value (remainder g x)) 0) efr_number (eb ∙ ap₂ (λ (x y : List ℕ). fetched important x ++ y) es all)
