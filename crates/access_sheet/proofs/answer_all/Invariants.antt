-- `answer_all` ends, since its turns are counted, and each line that it answers is within what was taken. Assumes nothing.
use Rattle.std.proofs.Common.{◌≡◌, length}
use Rattle.text.specs.Within.{Within}
use Rattle.access_sheet.proofs.answer_all.Given as goal

abbrev pub invariant-loop : goal.invariant-loop
invariant-loop l = Within l.rest l.chunk × (length l.chunk ≡ length l.initial.chunk) × (length l.line ≡ length l.initial.line)
