-- `put_access` is right: the characters are read as bytes, the library answers, and its answer is said.
use Rattle.std.proofs.Common.{rules, arith, sym, ap, ◌∙◌, ◌≡◌, subst, ℕ, ◌+◌, List, map, length}
use Rattle.std.proofs.Math.ListN.{replicate, length-map}
use Rattle.bits.specs.Bits.{zeros}
use Rattle.text.specs.Text.{digit_of, bit_character, refused_as, put_at}
use Rattle.text.proofs.laws.Put.{put_whole, length_refused}
use Rattle.answers.specs.Answers.{Meets, number_of, Told}
use Rattle.coder.specs.Entries.{access_sent}
use Rattle.access_sheet.proofs.laws.Sheet.{one_digit, said_done, said_refused}
use Rattle.access_sheet.proofs.sheet.put_access.Goals as goal

-- the library is asked for the characters' bytes, with a buffer of zeros
met : (identity : ℕ) (characters d after : List ℕ) (r : Told) → length characters ≡ 8 → d ≡ put_at (replicate 8 0) 0 (map digit_of characters)
    → Meets (access_sent identity d (replicate 36 0)) r after → Meets (access_sent identity (map digit_of characters) (zeros 36)) r after
unfolding zeros
met identity characters d after r l e m =
    let whole = put_whole (replicate 8 0) (map digit_of characters) (length-map characters digit_of ∙ l) in
    subst (λ (b : List ℕ). Meets (access_sent identity b (zeros 36)) r after) (e ∙ whole) m

pub put_refused-requires : goal.put_refused-requires
put_refused-requires c =
    (search rules, omega (arith, c.from.ensures, one_digit _ _ _ _ _ c.in-Err.refusal c.send_access.ensures c.in-Err.is))

pub returns-in-Ok : goal.returns-in-Ok
returns-in-Ok c =
    let a = c.args in
    let after = c.send_access.new.e in
    let m = met a.identity a.characters.now c.read_bits.new.d after c.send_access.result c.requires.1 c.read_bits.ensures.1 c.send_access.ensures in
    let e = said_done a.identity a.characters.now c.send_access.result after m c.in-Ok.is in
    let put = c.put_bits.ensures in (
      search rules,
      put.0 ∙ ap (λ (k : ℕ). a.n + k) (sym (length-map after bit_character) ∙ ap length e),
      put.1 ∙ ap (put_at a.out.now a.n) e,
    )

pub returns-in-Err : goal.returns-in-Err
returns-in-Err c =
    let a = c.args in
    let after = c.send_access.new.e in
    let m = met a.identity a.characters.now c.read_bits.new.d after c.send_access.result c.requires.1 c.read_bits.ensures.1 c.send_access.ensures in
    let e = said_refused a.identity a.characters.now c.send_access.result after m c.in-Err.refusal c.in-Err.is in
    let n = ap refused_as c.from.ensures in
    let put = c.put_refused.ensures in (
      search rules,
      put.0 ∙ ap (λ (k : ℕ). a.n + k) (sym (length_refused (number_of c.in-Err.refusal)) ∙ ap length e),
      put.1 ∙ ap (put_at a.out.now a.n) (n ∙ e),
    )
