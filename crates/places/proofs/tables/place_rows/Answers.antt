-- `places::tables::place_rows` is right: the table is the one that is tested.
use mathlib.Core.Path.{refl}
use Rattle.places.specs.laws.Table.{places}
use Rattle.places.proofs.tables.place_rows.Goals as goal

pub returns : goal.returns
unfolding places
returns c = refl
