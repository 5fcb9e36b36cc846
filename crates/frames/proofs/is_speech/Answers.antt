-- `frames::is_speech` is right: one type or the other.
use Rattle.std.proofs.Common.{Bool, true, false, ◌≡◌, refl, sym, ap, ◌∙◌}
use Rattle.bits.specs.Bits.{pick}
use Rattle.frames.specs.Frame.{uplink, downlink, begins, is_speech}
use Rattle.frames.proofs.laws.Speech.{starts_so}
use Rattle.frames.proofs.is_speech.Goals as goal

pub returns-then-starts_with : goal.returns-then-starts_with
unfolding is_speech
returns-then-starts_with c =
    let control = c.args.control.now in
    let up : begins control uplink ≡ true = sym (starts_so control uplink c.requires refl) ∙ sym c.starts_with.ensures.value ∙ c.if-starts_with.true in
    c.if-starts_with.true ∙ sym (ap (λ (b : Bool). pick b true (begins control downlink)) up)

pub returns-else-starts_with : goal.returns-else-starts_with
unfolding is_speech
returns-else-starts_with c =
    let control = c.args.control.now in
    let up : begins control uplink ≡ false = sym (starts_so control uplink c.requires refl) ∙ sym c.starts_with.ensures.value ∙ c.if-starts_with.false in
    c.starts_with-else-starts_with.ensures.value
    ∙ starts_so control downlink c.requires refl
    ∙ sym (ap (λ (b : Bool). pick b true (begins control downlink)) up)
