-- `hub::Hub::place_of` is right: at no place that was passed over the one that is sought stands.
use Rattle.std.proofs.Common.{◌≡◌, ◌≢◌, length, get_or, rules, tests}
use Rattle.std.proofs.lemmas.Iterator.{first_from_Range}
use Rattle.hub.specs.Hub.{standing, who_at}
use Rattle.hub.proofs.laws.Standing.{search_found}
use Rattle.hub.proofs.Hub.place_of.Goals as goal

pub returns : goal.returns
unfolding who_at
returns c =
    let h = c.args.self.now in
    let who = c.args.who in
    let thirty : length h.places ≡ 30 = search rules in
    search_found h who thirty c.find.result
    (first_from_Range _ _ _ _ (λ p. standing (get_or h.places p 0) ≡ who) (λ p. standing (get_or h.places p 0) ≢ who) c.find.ensures.ran (λ x q k. search (rules, tests)) (λ x q k. search (rules, tests)))
