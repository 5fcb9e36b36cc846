-- The bits of the block that is nearest, whatever its parity says: those that go with the identity that it names.
use mathlib.Core.List.{List}
use Prim.Native.Nat.{ℕ, ◌+◌}
use Rattle.std.proofs.Math.ListN.{length, take}
use Rattle.trellis.specs.Nearest.{nearest}

-- the first n bits of the nearest block, which are handed over under every identity
unfoldable pub block_bits : List ℕ → ℕ → List ℕ → List ℕ
block_bits g n c = take n (nearest c (n + length g + 4))
