-- The nodes that a scenario declares.
use Rattle.std.specs.Prelude.{Bool, true, false}
use Rattle.request_words.specs.declared.node.Role.{Role}
use Rattle.request_words.specs.declared.node.Role.TheVariants.{Peer, Client, Hostile}

-- a role is this one
abbrev pub is_role : Role → Role → Bool
is_role Peer Peer = true
is_role Client Client = true
is_role Hostile Hostile = true
is_role role other = false
