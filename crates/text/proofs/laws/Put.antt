-- A word that is put into a buffer: byte by byte, and after another word.
use mathlib.Core.List.{List, [], ◌∷◌, ◌++◌, map, append_assoc, append-nil}
use Rattle.std.specs.Prelude.{◌≡◌, refl, ℕ, ◌+◌, ◌-◌, ◌*◌, ◌≤◌, ◌<◌, get_or, set}
use Rattle.std.proofs.Common.{sym, ap, ◌∙◌, subst, add-one, length-append, length-set, drop_of_length-le, take_all, take_at, drop_at, drop-drop, length-take-le}
use Rattle.std.proofs.Math.Path.{ap₂}
use native.Mathlib.Omega.{arith}
use Rattle.std.proofs.Math.ListN.{length, take, drop, length-map, get_or-map}
use Rattle.std.proofs.Math.Seq.{paste, paste-zero, paste-suc}
use Rattle.std.proofs.lemmas.List.{set_split}
use borrow.Rule.Slice.PartMut.{put_mid, Post-is}
use Rattle.text.specs.Text.{put_at, refused_as}

-- ---- a loop that puts the bytes of the word in turn: after i turns the first i of them stand in `out`, which was `before`
abbrev pub Putting : List ℕ → ℕ → List ℕ → ℕ → List ℕ → Type 0
Putting before n word i out = (i ≤ length word) × (length out ≡ length before) × (out ≡ paste before n word i)

module _ (before : List ℕ) (n : ℕ) (word : List ℕ) where
  pub putting_none : Putting before n word 0 before
  putting_none = (omega arith, refl, paste-zero before n word)

  pub putting_more : n + length word ≤ length before → (i m v z : ℕ) (out : List ℕ) → Putting before n word i out → i < length word → m ≡ n + i → v ≡ get_or word i z
      → Putting before n word (i + 1) (set out m v)
  putting_more room i m v z out inv l p e = (
    omega arith,
    length-set out m v ∙ inv.1,
    ap (λ (o : List ℕ). set o m v) inv.2
        ∙ ap₂ (λ (k b : ℕ). set (paste before n word i) k b) p e
        ∙ paste-suc before n word i z (omega arith) l
        ∙ ap (paste before n word) (sym (add-one i)),
  )

  pub putting_pair : n + length word ≤ length before → (i v w : ℕ) (out : List ℕ) → Putting before n word (2 * i) out → 2 * i + 1 < length word
      → v ≡ get_or word (2 * i) 0 → w ≡ get_or word (2 * i + 1) 0 → Putting before n word (2 * (i + 1)) (set (set out (n + 2 * i) v) (n + 2 * i + 1) w)
  putting_pair room i v w out inv l ev ew =
      let e : 2 * i + 1 + 1 ≡ 2 * (i + 1) = omega arith in
      let first : Putting before n word (2 * i + 1) (set out (n + 2 * i) v) = putting_more room (2 * i) (n + 2 * i) v 0 out inv (omega arith) refl ev in
      subst (λ (k : ℕ). Putting before n word k (set (set out (n + 2 * i) v) (n + 2 * i + 1) w)) e
      (putting_more room (2 * i + 1) (n + 2 * i + 1) w 0 (set out (n + 2 * i) v) first l (omega arith) ew)

  pub putting_all : (i : ℕ) (out : List ℕ) → Putting before n word i out → length word ≤ i → out ≡ put_at before n word
  unfolding put_at
  putting_all i out inv l =
      let e : i ≡ length word = omega arith in
      inv.2
      ∙ append_assoc (take n before) (take i word) (drop (n + i) before)
      ∙ ap₂ (λ (w : List ℕ) (k : ℕ). take n before ++ (w ++ drop (n + k) before)) (take_all i word l) e

-- the word is f of each entry of xs
module _ (before : List ℕ) (n : ℕ) (f : ℕ → ℕ) (xs : List ℕ) where
  pub each_more : n + length xs ≤ length before → (i m v : ℕ) (out : List ℕ) → Putting before n (map f xs) i out → i < length xs → m ≡ n + i → v ≡ f (get_or xs i 0)
      → Putting before n (map f xs) (i + 1) (set out m v)
  each_more room i m v out inv l p e =
      let long = length-map xs f in
      putting_more before n (map f xs) (omega arith) i m v (f 0) out inv (omega arith) p (e ∙ sym (get_or-map f xs i 0))

  pub each_all : (i : ℕ) (out : List ℕ) → Putting before n (map f xs) i out → length xs ≤ i → out ≡ put_at before n (map f xs)
  each_all i out inv l =
      let long = length-map xs f in
      putting_all before n (map f xs) i out inv (omega arith)

-- one byte is a word
pub put_one : (out : List ℕ) (n b : ℕ) → n < length out → set out n b ≡ put_at out n (b ∷ [])
unfolding put_at
put_one out n b l = set_split out n b l ∙ ap (λ (k : ℕ). take n out ++ (b ∷ drop k out)) (sym (add-one n))

-- a word that fills the part from n up to m is put there
pub put_part : (out word : List ℕ) (n m : ℕ) → m ≡ n + length word → put_mid n (m - n) out word ≡ put_at out n word
unfolding put_at
put_part out word n m e = rw (Post-is n m out (omega arith), e) refl

-- a word that is put right after another
pub put_then : (out v w : List ℕ) (n m : ℕ) → n ≤ length out → m ≡ n + length v → put_at (put_at out n v) m w ≡ put_at out n (v ++ w)
unfolding put_at
put_then out v w n m l e =
    let p = take n out in
    let r = drop (n + length v) out in
    let head : length (p ++ v) ≡ m = length-append p v ∙ omega (arith, length-take-le n out l) in
    let k : n + length v + length w ≡ n + length (v ++ w) = omega (arith, length-append v w) in
    let front : take m (p ++ (v ++ r)) ≡ p ++ v = ap (take m) (sym (append_assoc p v r)) ∙ take_at (p ++ v) r m head in
    let behind : drop m (p ++ (v ++ r)) ≡ r = ap (drop m) (sym (append_assoc p v r)) ∙ drop_at (p ++ v) r m head in
    let rest : drop (m + length w) (p ++ (v ++ r)) ≡ drop (n + length (v ++ w)) out =
    sym (drop-drop (length w) m (p ++ (v ++ r))) ∙ ap (drop (length w)) behind ∙ drop-drop (length w) (n + length v) out ∙ ap (λ (j : ℕ). drop j out) k in
    ap₂ (λ (x y : List ℕ). x ++ (w ++ y)) front rest
    ∙ append_assoc p v (w ++ drop (n + length (v ++ w)) out)
    ∙ ap (λ (x : List ℕ). p ++ x) (sym (append_assoc v w (drop (n + length (v ++ w)) out)))

-- a word that fills the buffer is all of it
pub put_whole : (out word : List ℕ) → length word ≡ length out → put_at out 0 word ≡ word
unfolding put_at
put_whole out word e =
    ap (λ (r : List ℕ). word ++ r) (drop_of_length-le out {i = 0 + length word} (omega arith)) ∙ append-nil word

pub length_refused : (number : ℕ) → length (refused_as number) ≡ 9
unfolding refused_as
length_refused number = refl
