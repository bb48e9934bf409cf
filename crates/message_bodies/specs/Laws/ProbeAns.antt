-- What a Probe is answered is read as it is spelled.
use Rattle.std.proofs.Common.{◌≡◌, ℕ, ◌^◌, ◌<◌, ◌≤◌, List, ◌++◌, length, refl, length-append, lit<, arith}
use Rattle.wire_core.specs.Layout.{IsLayout}
use Rattle.wire_core.specs.Spelling.{number}
use Rattle.wire_core.specs.Laws.Bytes.{length-number}
use Rattle.wire_core.specs.Laws.Steps.{Anything, Always, Lays, laid, seq, fits_as, spelled_as, at_end, placed}
use Rattle.wire_core.specs.Laws.Forms.{Takes, Again, HasCode, takes_made, takes_code, takes_none, again_made, forms_laid}
use Rattle.wire_core.specs.Laws.Words.{number_laid, sized_laid}
use Rattle.message_bodies.specs.declared.probe_ans.ProbeInformation.{ProbeInformation}
use Rattle.message_bodies.specs.declared.probe_ans.ProbeInformation.TheVariants.{ResponsiblePpb, NumResources, Uptime}
use Rattle.message_bodies.specs.ProbeAns.{told_number, probe_fact, IsProbeFactInRange, told_number_at, responsible_ppb_at, num_resources_at, uptime_at, probe_fact_of, probe_fact_at}

-- the first byte
code_of : ProbeInformation → ℕ
code_of x = elim x [ ResponsiblePpb k ↦ 1 | NumResources k ↦ 2 | Uptime k ↦ 3 ]

-- the number
number_of : ProbeInformation → ℕ
number_of x = elim x [ ResponsiblePpb k ↦ k | NumResources k ↦ k | Uptime k ↦ k ]

-- what is behind the first byte
body : ProbeInformation → List ℕ
body x = told_number (number_of x)

abbrev FactFits : ProbeInformation → Type 0
FactFits x = Unit {0} × IsProbeFactInRange x

body-code : (x : ProbeInformation) → number 1 (code_of x) ++ body x ≡ probe_fact x
unfolding probe_fact code_of number_of body
body-code (ResponsiblePpb k) = refl
body-code (NumResources k) = refl
body-code (Uptime k) = refl

code_of-lt : (x : ProbeInformation) → code_of x < 256
unfolding code_of
code_of-lt (ResponsiblePpb k) = lit< tt
code_of-lt (NumResources k) = lit< tt
code_of-lt (Uptime k) = lit< tt

module _ {n : ℕ} where
  told_laid : Lays n Anything Always (λ k. k < 256 ^ 4) told_number told_number_at
  unfolding told_number_at
  told_laid = sized_laid 1 4 (lit< tt) (λ k f. length-number 4 k) (at_end (number_laid 4))

  -- what is read under each code
  forms_take : (place : ℕ) → place ≤ n → (code : ℕ) → code < 256
      → Takes n (HasCode code_of code) FactFits body (probe_fact_of place code)
  unfolding probe_fact_of responsible_ppb_at num_resources_at uptime_at code_of number_of body
  forms_take place le code lt =
      takes_code 1 (takes_made ResponsiblePpb told_laid (λ k f. ((refl, tt), (tt, f), refl))) (
      takes_code 2 (takes_made NumResources told_laid (λ k f. ((refl, tt), (tt, f), refl))) (
      takes_code 3 (takes_made Uptime told_laid (λ k f. ((refl, tt), (tt, f), refl))) (
      takes_none le)))

  -- and what is spelled is read under its code
  forms_again : (place : ℕ) (x : ProbeInformation) → FactFits x
      → Again n Anything x (body x) (probe_fact_of place (code_of x))
  unfolding probe_fact_of responsible_ppb_at num_resources_at uptime_at code_of number_of body
  forms_again place (ResponsiblePpb k) f = again_made ResponsiblePpb told_laid k f.1
  forms_again place (NumResources k) f = again_made NumResources told_laid k f.1
  forms_again place (Uptime k) f = again_made Uptime told_laid k f.1

  probe_fact_lays : Lays n Anything Always FactFits probe_fact probe_fact_at
  unfolding probe_fact_at
  probe_fact_lays =
      let law = placed (λ place le. seq {Known = Always} code_of (number_laid 1)
      (λ code lt. forms_laid (forms_take place le) (forms_again place) code lt)) in
      spelled_as probe_fact (fits_as FactFits law (λ x k f. f.1) (λ x k f. (code_of-lt x, f)))
      (λ x k f. body-code x)

pub probe_fact_laid : IsLayout FactFits probe_fact probe_fact_at
probe_fact_laid = laid (λ n. probe_fact_lays {n = n})

-- it has a byte at least
pub probe_fact-some : (x : ProbeInformation) → 0 < length (probe_fact x)
probe_fact-some x = rw (← body-code x) (omega (
  arith,
  length-number 1 (code_of x),
  length-append
      (number 1 (code_of x)) (body x),
))
