-- The format of a block whose parity stands at its end, as `coder::block` carries it.
use Rattle.std.specs.Prelude.{refl, ℕ, ◌≤◌, ◌<◌, ◌^◌}
use Rattle.std.proofs.Common.{arith, lit<, lit≤, pow_mono}
use Rattle.coder.specs.declared.format.Format.{Format}
use Rattle.coder.specs.laws.Format.{Fits}

pub fits : (f : Format) → Fits f
fits f = record { generates = f.generates; wide = f.wide; short = f.short; long = f.long }

pub identity_fits : {f : Format} {i : ℕ} → Fits f → i ≤ 63 → i < 2 ^ f.degree
identity_fits {f} held h = let l : 2 ^ 6 ≤ 2 ^ f.degree = pow_mono held.wide in omega (arith, l, h)

-- ---- the two
abbrev pub access_f : Format
access_f = record {
  generator = 0b101111;
  degree = 6;
  bits = 8;
  coded = 36;
  generates = record { some = lit< tt; narrow = lit≤ tt; below = lit< tt };
  wide = lit≤ tt;
  short = lit≤ tt;
  long = refl;
}

abbrev pub sch_f : Format
sch_f = record {
  generator = 0b0101110101;
  degree = 10;
  bits = 25;
  coded = 78;
  generates = record { some = lit< tt; narrow = lit≤ tt; below = lit< tt };
  wide = lit≤ tt;
  short = lit≤ tt;
  long = refl;
}

pub access_fits : Fits access_f
access_fits = fits access_f

pub sch_fits : Fits sch_f
sch_fits = fits sch_f
