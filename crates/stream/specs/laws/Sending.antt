-- What holds where a send is done.
use Rattle.std.specs.Prelude.{List, ◌≡◌, ℕ}
use Rattle.std.proofs.Math.Bool.{true}
use Rattle.std.proofs.Math.ListN.{length}
use Rattle.bits.specs.Bits.{Bits}
use Rattle.stream.specs.Sending.{is_block}

-- ---- what `sender::begin` asks
pub record Codable (d last block e : List ℕ) : Type 0 where
  pub bits : Bits d
  pub reads : is_block (length d) ≡ true
  pub held : length last ≡ 456
  pub coded : length block ≡ 456
  pub writes : length e ≡ 464
