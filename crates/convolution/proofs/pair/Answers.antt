-- `convolution::pair` is right: its table is the printed one, whose rule is proved over the whole table.
use Rattle.convolution.proofs.laws.Table.{printed, printed_right}
use Rattle.convolution.proofs.pair.Goals as goal

pub returns : goal.returns
unfolding printed
returns c = let start = c in printed_right start.args.s start.args.b start.requires.0 start.requires.1
