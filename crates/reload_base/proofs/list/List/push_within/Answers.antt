use Rattle.std.proofs.Common.{◌≡◌, ℕ, ◌-◌, ◌<◌, ◌≤◌, List, [], ◌∷◌, ◌++◌, length, take, drop, set, arith}
use Rattle.std.proofs.lemmas.List.{set_at}
use Rattle.std.proofs.lemmas.Bool.Decides.{nat_tests}
use Rattle.reload_base.specs.Lists.{pushed_within}
use Rattle.reload_base.proofs.list.List.push_within.Goals as goal

-- the first item, moved to the end, is written over
rotated : {X : Type 0} (items : List X) (item : X) (n : ℕ) → 0 < n → n ≡ length items → set (drop 1 items ++ take 1 items) (n - 1) item ≡ drop 1 items ++ item ∷ []
rotated [] item n some e = absurd (omega arith)
rotated (x ∷ items) item n some e = set_at items x [] item _ (omega arith)

wrapped : {X : Type 0} (most : ℕ) (items : List X) (item : X) (n : ℕ) → 0 < most → most ≤ n → n ≡ length items → set (drop 1 items ++ take 1 items) (n - 1) item ≡ pushed_within most items item
unfolding pushed_within
wrapped most items item n some full e = let r = rotated items item n (omega arith) e in grind (arith, nat_tests)

pub returns-clause-ok : goal.returns-clause-ok
returns-clause-ok g c =
    let inside = c.self.inside.items in
    rw (c.len-last.ensures, c.rotate_left.ensures.len, c.rotate_left.ensures.items, ← c.self.view_is) (wrapped c.args.most inside.items c.args.item _ c.requires (omega arith) inside.ok.0)
