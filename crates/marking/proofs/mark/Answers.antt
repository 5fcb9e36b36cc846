-- `marking::mark` is right: where no refusal applies, what counts of the received bytes is examined.
use Rattle.std.proofs.Common.{ℕ, ◌≡◌, ◌≤◌, ◌*◌, sym, subst, length, take}
use Rattle.std.proofs.lemmas.Result.{err_from_is_err_and}
use Rattle.bits.specs.Bits.{Bits, Symbols}
use Rattle.trellis.specs.Nearest.{longest}
use Rattle.marking.specs.Marks.{Deserves, reads_of, bits_of, counting}
use Rattle.marking.proofs.laws.Channels.{channel}
use Rattle.marking.proofs.laws.Counted.{counting_long, counting_symbols}
use Rattle.marking.proofs.laws.Marks.{done_read, marks_deserved, marks_refused}
use Rattle.marking.proofs.mark.Goals as goal

pub slice_bounds-examine-end : goal.slice_bounds-examine-end
unfolding counting
slice_bounds-examine-end c =
    let s = c.args in
    let r = s.r.now in
    let n = bits_of s.block in
    let is = rw c.reads.ensures at c.judge.ensures in
    let read = done_read (reads_of s.block) n r s.u.now s.count c.judge.result is c.in_ok-judge.was in
    subst (λ (k : ℕ). 2 * k ≡ length (take (2 * k) r)) (sym c.bits-n.ensures) (sym (counting_long n r (reads_of s.block) read.0 (channel s.block).room))

pub examine-requires : goal.examine-requires
unfolding counting
examine-requires c =
    let s = c.args in
    let r = s.r.now in
    let u = s.u.now in
    let n = bits_of s.block in
    let is = rw c.reads.ensures at c.judge.ensures in
    let read = done_read (reads_of s.block) n r u s.count c.judge.result is c.in_ok-judge.was in
    let ch = channel s.block in
    subst (λ (k : ℕ). (4 ≤ k) × (k ≤ longest) × (length (take (2 * k) r) ≡ 2 * k) × (Symbols (take (2 * k) r)) × Bits u) (sym c.bits-n.ensures)
    (ch.tail, ch.short, counting_long n r (reads_of s.block) read.0 ch.room, counting_symbols n r read.1, read.2)

pub returns : goal.returns
unfolding counting
returns c =
    let s = c.args in
    let r = s.r.now in
    let u = s.u.now in
    let is = rw c.reads.ensures at c.judge.ensures in
    let read = done_read (reads_of s.block) (bits_of s.block) r u s.count c.judge.result is c.in_ok-judge.was in
    marks_deserved (reads_of s.block) (bits_of s.block) r u s.count c.examine.result read.0 read.1 read.2
    (subst (λ (k : ℕ). Deserves (take (2 * k) r) k u s.count c.examine.result) c.bits-n.ensures c.examine.ensures)

pub returns-in_err-judge : goal.returns-in_err-judge
returns-in_err-judge c =
    let s = c.args in
    let is = rw c.reads.ensures at c.judge.ensures in
    let p = err_from_is_err_and c.from_residual.result c.from_residual.ensures.1 in
    rw (p.1, p.2) (marks_refused (reads_of s.block) (bits_of s.block) s.r.now s.u.now s.count c.judge.result is c.in_err-judge.field-0.0 c.in_err-judge.was)
