-- `coder::block::code` is right: what `protect` lays out is bits, of half the length of c, and is coded.
use native.Mathlib.Omega.{arith}
use lib.ListN.{replicate}
use Rattle.trellis.specs.Nearest.{longest}
use Rattle.coder.proofs.laws.Protected.{coded_asked}
use Rattle.coder.proofs.block.code.Goals as goal

pub code-requires : goal.code-requires
code-requires c =
    let s = c.args in
    let laid = c.protect in
    coded_asked s.f.generator s.f.degree s.colour s.d.now c.requires.bits (replicate longest 0) laid.new.u laid.ensures s.c.now (omega (arith, c.requires.reads, c.requires.lends, s.f.long))
