-- `coder::control::lay_out` is right: its three parts make the whole.
use Rattle.coder.proofs.laws.Control.{laid_control}
use Rattle.coder.proofs.control.lay_out.Goals as goal

pub returns : goal.returns
returns c =
    let copied = c.copy_from_slice in
    let checks = c.put_control in
    let zeros = c.fill in
    laid_control c.args.d.now c.requires.0 c.requires.1 c.args.u.now copied.new.self checks.new.p zeros.new.self
    c.requires.2 copied.ensures.after checks.ensures (zeros.ensures.after (λ y e. e))
