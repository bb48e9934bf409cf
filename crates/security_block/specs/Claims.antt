-- A claim that is lent from a certificate.
use Rattle.security_block.specs.declared.about.About.{About}
use Rattle.security_block.specs.declared.stand_in.Claim.{Claim}

-- of whom it speaks
abbrev pub who_claims : Claim → About
who_claims c = record { peer = c.peer; node = c.node; user = c.user.now }
