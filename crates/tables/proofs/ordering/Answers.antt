-- `tables::ordering` is right: the table is the one that is tested.
use mathlib.Core.Path.{refl}
use Rattle.tables.specs.laws.Tables.{ordering_rows}
use Rattle.tables.proofs.ordering.Goals as goal

pub returns : goal.returns
unfolding ordering_rows
returns c = refl
