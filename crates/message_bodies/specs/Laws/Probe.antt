-- The types that a Probe asks for are read as they are spelled.
use Rattle.std.proofs.Common.{◌≡◌, ℕ, ◌^◌, ◌<◌, Bool, true, false, cond, eqb, length, Option, Some, None, refl, sym, ap, lit<, arith}
use Rattle.std.proofs.lemmas.Bool.{eqb-true}
use Rattle.wire_core.specs.Layout.{IsLayout}
use Rattle.wire_core.specs.Laws.Bytes.{length-number}
use Rattle.wire_core.specs.Laws.Steps.{laid, fits_as}
use Rattle.wire_core.specs.Laws.Words.{code_laid}
use Rattle.message_bodies.specs.declared.probe.ProbeInformationType.{ProbeInformationType}
use Rattle.message_bodies.specs.declared.probe.ProbeInformationType.TheVariants as asked
use Rattle.message_bodies.specs.Probe.{probe_type, probe_type_of, probe_question, probe_question_at}

there : (x : ProbeInformationType) → (probe_type x < 256 ^ 1) × (probe_type_of (probe_type x)
    ≡ Some x)
there asked.ResponsibleSet = (lit< tt, refl)
there asked.NumResources = (lit< tt, refl)
there asked.Uptime = (lit< tt, refl)

-- a type that a number stands for has this number
found : (b : Bool) (y x : ProbeInformationType) (code k : ℕ) (rest : Option ProbeInformationType)
    → b ≡ eqb code k → probe_type y ≡ k → cond b (Some y) rest ≡ Some x → (rest ≡ Some x
    → probe_type x ≡ code) → probe_type x ≡ code
found true y x code k rest is at e others = let same : y ≡ x = cc in let c = eqb-true code k
    (sym is) in let d : probe_type x ≡ probe_type y = ap probe_type (sym same) in cc
found false y x code k rest is at e others = others e

back : (code : ℕ) (x : ProbeInformationType) → probe_type_of code ≡ Some x → probe_type x ≡ code
back code x e =
    found (eqb code 1) asked.ResponsibleSet x code 1 _ refl refl e (λ f.
    found (eqb code 2) asked.NumResources x code 2 _ refl refl f (λ g.
    found (eqb code 3) asked.Uptime x code 3 _ refl refl g (λ h. absurd cc)))

pub probe_question_laid : IsLayout (λ (x : ProbeInformationType). Unit {0}
    × Unit {0}) probe_question probe_question_at
unfolding probe_question probe_question_at
probe_question_laid = laid (λ n. fits_as _ (code_laid {n = n} 1 probe_type probe_type_of there back)
    (λ x k f. (tt, tt)) (λ x k f. tt))

-- it has a byte at least
pub probe_question-some : (x : ProbeInformationType) → 0 < length (probe_question x)
unfolding probe_question
probe_question-some x = omega (arith, length-number 1 (probe_type x))
