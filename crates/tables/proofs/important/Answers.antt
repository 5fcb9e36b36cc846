-- `tables::important` is right: the table is the one that is tested.
use mathlib.Core.Path.{refl}
use Rattle.tables.specs.laws.Tables.{important_rows}
use Rattle.tables.proofs.important.Goals as goal

pub returns : goal.returns
unfolding important_rows
returns c = refl
