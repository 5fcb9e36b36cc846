-- `places::tables::bit_rows` is right: the table is the one that is tested.
use mathlib.Core.Path.{refl}
use Rattle.places.specs.laws.Table.{bit_table}
use Rattle.places.proofs.tables.bit_rows.Goals as goal

pub returns : goal.returns
unfolding bit_table
returns c = refl
