-- `read_octets` is right: the characters 2i and 2i + 1 give octet i. Assumes nothing.
use Rattle.std.proofs.Common.{sym, ◌∙◌, arith}
use Rattle.text.specs.Hexadecimal.{octets_of}
use Rattle.text.proofs.laws.Hexadecimal.{length_octets, octet_at}
use Rattle.text.proofs.laws.Put.{putting_more}
use Rattle.text.proofs.hex.read_octets.Goals as goal

pub loop-i-preserved : goal.loop-i-preserved
loop-i-preserved c =
    let text = c.args.text.now in
    let long = length_octets text in
    putting_more c.args.octets.now 0 (octets_of text) (omega arith) c.loop-i.i c.loop-i.i c.octet.result 0 c.loop-i.octets c.loop-i.invariant (omega arith)
    (omega arith) (c.octet.ensures ∙ sym (octet_at text c.loop-i.i (omega arith)))
