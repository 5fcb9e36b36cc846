-- `tables::full_rate::importance` is right: the table is the one that is tested.
use mathlib.Core.Path.{refl}
use Rattle.tables.specs.laws.FullRate.{importance_rows}
use Rattle.tables.proofs.full_rate.importance.Goals as goal

pub returns : goal.returns
unfolding importance_rows
returns c = refl
