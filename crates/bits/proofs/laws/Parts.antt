-- A buffer of which one part after another is written anew: the parts make the whole.
use Rattle.std.specs.Prelude.{List, [], ◌++◌, ◌≡◌, refl, ℕ, ◌+◌, ◌-◌, ◌*◌, ◌≤◌, ◌<◌, length, get_or, take, drop}
use Rattle.std.proofs.Common.{append_assoc, append-nil, ⊎_elim, sym, ap, ap₂, ◌∙◌, arith, length-append, length-drop, drop_of_length-le, take_at, drop_at, length-take-le, get_or-take, get_or-drop}
use Rattle.bits.proofs.laws.Cases.{lt_or_le}
use Rattle.bits.proofs.laws.Tab.{Filled, at_left, at_right}

-- what a lent part, the k bytes from a on, leaves when it comes back as y
abbrev pub put : ℕ → ℕ → List ℕ → List ℕ → List ℕ
put a k y e = take a e ++ (y ++ drop k (drop a e))

pub put_next : (p r y : List ℕ) (a k : ℕ) → length p ≡ a → put a k y (p ++ r) ≡ (p ++ y) ++ drop k r
put_next p r y a k l =
    ap₂ (λ (s t : List ℕ). s ++ (y ++ drop k t)) (take_at p r a l) (drop_at p r a l) ∙ sym (append_assoc p y (drop k r))

-- four parts of k bytes, from 0, k, 2k and 3k on
pub put_four : (k : ℕ) (e w x y z : List ℕ) → length e ≡ 4 * k → length w ≡ k → length x ≡ k → length y ≡ k
    → put (3 * k) k z (put (2 * k) k y (put k k x (put 0 k w e))) ≡ w ++ (x ++ (y ++ z))
put_four k e w x y z le lw lx ly =
    let wx : length (w ++ x) ≡ 2 * k = length-append w x ∙ omega (arith, lw, lx) in
    let wxy : length ((w ++ x) ++ y) ≡ 3 * k = length-append (w ++ x) y ∙ omega (arith, wx, ly) in
    let r₁ = drop k e in
    let r₂ = drop k r₁ in
    let r₃ = drop k r₂ in
    let n : drop k r₃ ≡ [] = drop_of_length-le r₃ {i = k} (simp length-drop (omega (arith, le))) in
    ap (λ (l : List ℕ). put (3 * k) k z (put (2 * k) k y l)) (put_next w r₁ x k k lw)
    ∙ ap (put (3 * k) k z) (put_next (w ++ x) r₂ y (2 * k) k wx)
    ∙ put_next ((w ++ x) ++ y) r₃ z (3 * k) k wxy
    ∙ ap (λ (l : List ℕ). (((w ++ x) ++ y) ++ z) ++ l) n
    ∙ append-nil (((w ++ x) ++ y) ++ z)
    ∙ simp append_assoc

-- two parts, up to a and up to the end, of i and k bytes
pub put_two : (e w x : List ℕ) (i k a : ℕ) → length w ≡ a → i ≡ a → length e ≡ a + k → put a k x (put 0 i w e) ≡ w ++ x
put_two e w x i k a lw ei le =
    let n : drop k (drop i e) ≡ [] = drop_of_length-le (drop i e) {i = k} (simp length-drop (omega (arith, le))) in
    put_next w (drop i e) x a k lw ∙ ap (λ (l : List ℕ). (w ++ x) ++ l) n ∙ append-nil (w ++ x)

-- three parts, up to a, up to b and up to the end, of i, j and k bytes
pub put_three : (e w x y : List ℕ) (i j k a b : ℕ) → length w ≡ a → i ≡ a → length x ≡ j → a + j ≡ b → length e ≡ b + k
    → put b k y (put a j x (put 0 i w e)) ≡ w ++ (x ++ y)
put_three e w x y i j k a b lw ei lx ej le =
    let wx : length (w ++ x) ≡ b = length-append w x ∙ omega (arith, lw, lx) in
    let n : drop k (drop j (drop i e)) ≡ [] = drop_of_length-le (drop j (drop i e)) {i = k} (simp length-drop (omega (arith, le))) in
    ap (put b k y) (put_next w (drop i e) x a j lw)
    ∙ put_next (w ++ x) (drop j (drop i e)) y b k wx
    ∙ ap (λ (l : List ℕ). ((w ++ x) ++ y) ++ l) n
    ∙ append-nil ((w ++ x) ++ y)
    ∙ append_assoc w x y

-- one part in the middle
pub put_middle : (p m r y : List ℕ) (a k : ℕ) → length p ≡ a → length m ≡ k → put a k y (p ++ (m ++ r)) ≡ p ++ (y ++ r)
put_middle p m r y a k lp lm =
    put_next p (m ++ r) y a k lp ∙ ap (λ (l : List ℕ). (p ++ y) ++ l) (drop_at m r k lm) ∙ append_assoc p y r

-- what is lent of a buffer is as long as was asked; and giving it back keeps the buffer's length
pub length_lent : (e : List ℕ) (a k : ℕ) → a + k ≤ length e → length (take k (drop a e)) ≡ k
length_lent e a k h = length-take-le k (drop a e) (simp length-drop (omega arith))

pub length_put : (e y : List ℕ) (a k : ℕ) → a + k ≤ length e → length y ≡ k → length (put a k y e) ≡ length e
length_put e y a k h l =
    length-append (take a e) (y ++ drop k (drop a e))
    ∙ rw (length-append y (drop k (drop a e)), length-drop k (drop a e), length-drop a e, length-take-le a e (omega arith)) (omega (arith, l))

-- ---- one place of what is left: before the part, in it, and behind it
module _ (e y : List ℕ) (a k : ℕ) (h : a + k ≤ length e) (l : length y ≡ k) where
  front : length (take a e) ≡ a
  front = length-take-le a e (omega arith)

  pub put_before : (i : ℕ) → i < a → get_or (put a k y e) i 0 ≡ get_or e i 0
  put_before i lt = at_left (take a e) (y ++ drop k (drop a e)) i (rw front lt) ∙ get_or-take a e i 0 lt

  pub put_within : (j i : ℕ) → j < k → i ≡ a + j → get_or (put a k y e) i 0 ≡ get_or y j 0
  put_within j i lt q = at_right (take a e) (y ++ drop k (drop a e)) a j i front q ∙ at_left y (drop k (drop a e)) j (rw l lt)

  pub put_behind : (i : ℕ) → a + k ≤ i → get_or (put a k y e) i 0 ≡ get_or e i 0
  put_behind i le =
      let j : ℕ = i - (a + k) in
      let q : a + (k + j) ≡ i = omega arith in
      at_right (take a e) (y ++ drop k (drop a e)) a (k + j) i front (sym q)
      ∙ at_right y (drop k (drop a e)) k j (k + j) l refl
      ∙ get_or-drop k (drop a e) j 0
      ∙ get_or-drop a e (k + j) 0
      ∙ ap (λ (x : ℕ). get_or e x 0) q

-- a loop that fills its places in turn (laws.Tab), those from a to b at once
pub filled_part : (f : ℕ → ℕ) (n a b : ℕ) (y out : List ℕ) → Filled f n a out → a ≤ b → b ≤ n → length y ≡ b - a → ((i : ℕ) → i < b - a → get_or y i 0 ≡ f (a + i))
    → Filled f n b (put a (b - a) y out)
filled_part f n a b y out inv ab bn l each =
    let fits : a + (b - a) ≤ length out = omega (arith, inv.1, ab, bn) in
    (bn, length_put out y a (b - a) fits l ∙ inv.1, at fits)
  where
    at : a + (b - a) ≤ length out → (i : ℕ) → i < b → get_or (put a (b - a) y out) i 0 ≡ f i
    at fits i lt =
        ⊎_elim (λ (c : i < a). put_before out y a (b - a) fits l i c ∙ inv.2 i c)
        (λ (c : a ≤ i). let e : a + (i - a) ≡ i = omega (arith, c) in
        put_within out y a (b - a) fits l (i - a) i (omega (arith, lt, c)) (sym e) ∙ each (i - a) (omega (arith, lt, c)) ∙ ap f e)
        (lt_or_le i a)
