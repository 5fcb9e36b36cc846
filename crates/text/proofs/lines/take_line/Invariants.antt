-- Each part that `take_line` takes stays within the line and the chunk. Assumes nothing.
use Rattle.std.proofs.Common.{◌≤◌, length}
use Rattle.text.specs.Within.{Within}
use Rattle.text.proofs.lines.take_line.Given as goal

abbrev pub invariant-loop : goal.invariant-loop
invariant-loop g l = (l.taken.kept ≤ length l.line) × Within l.taken.rest l.chunk
