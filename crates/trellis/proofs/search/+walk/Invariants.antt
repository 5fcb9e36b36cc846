use Rattle.trellis.proofs.search.+walk.Given as goal

-- the pair number falls
abbrev pub decreases-walk : goal.decreases-walk
decreases-walk l = l.t
