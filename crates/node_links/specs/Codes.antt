-- The codes of links, for the type that contracts see as them.
use Rattle.std.specs.Prelude.{ℕ, refl}
use Rattle.std.specs.Ordering.{nat_cmp}
use Rattle.std.specs.FinMap as map
use Rattle.std.specs.FinSet as set
use Rattle.std.specs.Coded.{Coded, code_by, coded×, coded_ℕ}
use Rattle.node_model.specs.Links.{Links}

-- links as the pair of their maps
abbrev pub links_code : Coded Links
links_code = code_by (map.FinMap nat_cmp ℕ × map.FinMap nat_cmp (set.FinSet nat_cmp))
    (coded× (map.code coded_ℕ coded_ℕ) (map.code coded_ℕ (set.code coded_ℕ)))
    (λ l. (l.sent, l.heard)) (λ p. record { sent = p.0; heard = p.1 }) (λ _. refl)
