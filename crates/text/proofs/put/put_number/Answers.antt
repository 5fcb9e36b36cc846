-- `put_number` is right: the digits fill the part that is as long as there are digits, at most twenty. Assumes nothing.
use Rattle.std.proofs.Common.{arith, ap, subst, ◌∙◌, ◌≡◌, ◌+◌, ◌-◌, ℕ}
use borrow.Rule.Slice.PartMut.{mid_len}
use Rattle.text.specs.Text.{put_at}
use Rattle.text.specs.Decimal.{last_digits, IsDigitCount}
use Rattle.text.proofs.laws.Put.{put_part}
use Rattle.text.proofs.put.put_number.Goals as goal

pub returns : goal.returns
returns c =
    let a = c.args in
    let k : ℕ = c.digit_count.result in
    let e : k ≡ a.n + k - a.n = omega arith in
    let long = mid_len a.n (a.n + k) a.out.now (omega arith) in
    let word = c.write_digits.new.out in
    record {
      short = omega arith;
      fewest = subst (λ (j : ℕ). IsDigitCount a.number j) e c.digit_count.ensures.fewest;
      put = put_part a.out.now word a.n (a.n + k) (omega arith) ∙ ap (put_at a.out.now a.n) (c.write_digits.ensures ∙ ap (λ (j : ℕ). last_digits j a.number) long);
    }
