-- `put_octets` is right: the digits of octet i go to the places n + 2i and n + 2i + 1. Assumes nothing.
use Rattle.std.proofs.Common.{sym, ◌∙◌, arith}
use Rattle.text.specs.Hexadecimal.{hex_of}
use Rattle.text.proofs.laws.Hexadecimal.{length_hex, hex_at}
use Rattle.text.proofs.laws.Put.{putting_pair}
use Rattle.text.proofs.hex.put_octets.Goals as goal

pub loop-i-preserved : goal.loop-i-preserved
loop-i-preserved c =
    let octets = c.args.octets.now in
    let long = length_hex octets in
    let both = hex_at octets c.loop-i.i (omega arith) in
    putting_pair c.args.out.now c.args.n (hex_of octets) (omega arith) c.loop-i.i c.hex_character.result c.hex_character-in-loop-i.result c.loop-i.out c.loop-i.invariant
    (omega arith) (c.hex_character.ensures ∙ sym both.0) (c.hex_character-in-loop-i.ensures ∙ sym both.1)
