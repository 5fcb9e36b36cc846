-- The disagreements so far, as a loop has them; and the received bytes that count.
use Rattle.std.specs.Prelude.{List, ◌≡◌, length, get_or}
use Rattle.std.proofs.Math.Path.{refl, ap, ap₂}
use Rattle.std.proofs.Common.{sym, ◌∙◌, add-one}
use Prim.Native.Nat.{ℕ, ◌+◌, ◌-◌, ◌*◌, ◌≤◌}
use native.Mathlib.Omega.{arith}
use Rattle.std.proofs.Math.ListN.{take}
use Rattle.std.proofs.Math.Seq.{length-take-le}
use Rattle.bits.specs.Bits.{Symbols, differ, total}
use Rattle.bits.proofs.laws.Sum.{over_take}
use Rattle.trellis.specs.Nearest.{disagreements}
use Rattle.marking.specs.Marks.{counting}

-- the disagreements in the first i places
abbrev pub apart_up_to : List ℕ → List ℕ → ℕ → ℕ
apart_up_to c x i = total i (λ j. differ (get_or x j 0) (get_or c j 0))

module _ (c x : List ℕ) where
  pub apart_none : 0 ≡ apart_up_to c x 0
  unfolding total
  apart_none = refl

  pub apart_more : (i sum more : ℕ) → sum ≡ apart_up_to c x i → more ≡ differ (get_or x i 0) (get_or c i 0) → sum + more ≡ apart_up_to c x (i + 1)
  unfolding total
  apart_more i sum more e f = ap₂ ◌+◌ e f ∙ ap (apart_up_to c x) (sym (add-one i))

  pub apart_all : (i sum : ℕ) → sum ≡ apart_up_to c x i → i ≡ length x → sum ≡ disagreements c x
  unfolding disagreements
  apart_all i sum e f = e ∙ ap (apart_up_to c x) f

-- ---- the part of the received bytes that is examined is what counts
module _ (n : ℕ) (r : List ℕ) where
  pub part_counts : take (2 * n - 0) r ≡ counting n r
  unfolding counting
  part_counts = let e : 2 * n - 0 ≡ 2 * n = omega arith in ap (λ (k : ℕ). take k r) e

  pub counting_long : (reads : ℕ) → length r ≡ reads → 2 * n ≤ reads → length (counting n r) ≡ 2 * n
  unfolding counting
  counting_long reads l room = length-take-le (2 * n) r (omega (arith, l, room))

  pub counting_symbols : Symbols r → Symbols (counting n r)
  unfolding counting
  counting_symbols s = over_take 2 (2 * n) r s
