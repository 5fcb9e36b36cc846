-- An argument is a field of the line, so it is no longer. Without this answer the edit every_argument_is_one is refused, but not seen to be false.
use Rattle.std.proofs.Common.{arith}
use Rattle.words.proofs.verbs.Verb.argument.Goals as goal

pub returns : goal.returns
returns c = omega arith
