-- Which body has which message code.
use Rattle.std.proofs.Common.{◌≡◌, ℕ, Bool, true, false, ◌||◌, cond, eqb, List, [], ◌∷◌, refl, sym, ◌∙◌}
use Rattle.std.specs.List.{list_any, AllByRecursion}
use Rattle.std.proofs.lemmas.Bool.{eqb-true, cond_both}
use Rattle.wire_core.specs.Reading.{Reader}
use Rattle.wire_core.specs.Laws.Forms.{Takes, HasCode}
use Rattle.data_models.specs.declared.config.Config.{Config}
use Rattle.message_bodies.specs.declared.body.Body.{Body}
use Rattle.message_bodies.specs.Bodies.{has_layout, bytes_of, code_of, IsSpelledBody, IsBodyInRange, IsBodyOf}

-- it has a spelling, each number fits its field, and its kinds are as the configuration says
abbrev pub BodyFits : Config → Body → Type 0
BodyFits config b = IsSpelledBody b × (IsBodyInRange b × IsBodyOf config b)

-- under a code that is a number, or another
pub takes_known : {n : ℕ} {Fits : Body → Type 0} {code : ℕ} {one other : Reader Body} → (k : ℕ)
    → Takes n (HasCode code_of k) Fits bytes_of one → (eqb code k ≡ false
    → Takes n (HasCode code_of code) Fits bytes_of other)
    → Takes n (HasCode code_of code) Fits bytes_of (cond (eqb code k) one other)
takes_known {n} {Fits} {code} {one} {other} k law others =
    cond_both (eqb code k) one other (Takes n (HasCode code_of code) Fits bytes_of) (λ is.
    let e = eqb-true code k is in record {
      takes = λ p y q bytes ends r. let t = law.takes p y q bytes ends r in (
        (t.0.0 ∙ sym e, tt),
        t.1,
        t.2,
      );
      within = law.within;
    }) others

-- what passes no test of a list
pub none_of : (p : ℕ → Bool) (xs : List ℕ) → list_any p xs ≡ false → AllByRecursion (λ x. p x
    ≡ false) xs
none_of p [] e = tt
none_of p (x ∷ xs) e = let h = or_false (p x) (list_any p xs) e in (h.0, none_of p xs h.1)
  where
    or_false : (a b : Bool) → (a || b) ≡ false → (a ≡ false) × (b ≡ false)
    or_false true b e = absurd cc
    or_false false b e = (refl, e)
