-- Reading the entries of a list one after the other, as a loop does.
use Rattle.std.proofs.Common.{◌≡◌, ℕ, zero, suc, ◌-◌, ◌+◌, ◌≤◌, ◌<◌, true, false, eqb, List, [], ◌∷◌, ◌++◌, length, Result, Ok, Err, refl, sym, ap, ◌∙◌, append_assoc, arith}
use Rattle.std.proofs.lemmas.List.{append-nil}
use Rattle.wire_core.specs.declared.bad.Bad.{Bad}
use Rattle.wire_core.specs.declared.bad.DecodeFault.{DecodeFault}
use Rattle.wire_core.specs.declared.bad.DecodeFault.TheVariants as faults
use Rattle.wire_core.specs.Part.{Part}
use Rattle.wire_core.specs.Reading.{Reader, and_then, done, entries_at, Decodes}

-- what was read before, and what is still read
abbrev pub with_front : {A : Type 0} → List A → Result (List A × Part) Bad → Result (List A × Part) Bad
with_front front read = and_then read (λ xs. done (front ++ xs))

-- an entry more in front is an entry less to read
regroup : {A : Type 0} (front : List A) (x : A) (read : Result (List A × Part) Bad)
    → with_front front (and_then read (λ xs. done (x ∷ xs))) ≡ with_front (front ++ x ∷ []) read
regroup front x (Ok xs) = ap (λ ys. Ok (ys, xs.1)) (sym (append_assoc front (x ∷ []) xs.0))
regroup front x (Err bad) = refl

-- one step of the loop
pub goes_on : {A : Type 0} (read : Reader A) (front : List A) (count i : ℕ) (p : Part) (x : A) (q : Part) (total : Result (List A × Part) Bad)
    → i < count → eqb (length p.bytes) 0 ≡ false → read p ≡ Ok (x, q)
    → with_front front (entries_at read (count - i) p) ≡ total → with_front (front ++ x ∷ []) (entries_at read (count - (i + 1)) q) ≡ total
unfolding entries_at
goes_on read front count i p x q total lt some e so_far =
    let k : count - i ≡ suc (count - (i + 1)) = omega arith in
    let one : with_front front (entries_at read (count - i) p) ≡ with_front (front ++ x ∷ []) (entries_at read (count - (i + 1)) q) = rw (k, some, e) (regroup front x (entries_at read (count - (i + 1)) q)) in
    sym one ∙ so_far

-- an entry that can't be read
pub stops : {A : Type 0} (read : Reader A) (fault : DecodeFault) (front : List A) (count i : ℕ) (p q : Part) (total : Result (List A × Part) Bad)
    → i < count → eqb (length p.bytes) 0 ≡ false → Decodes (Err fault) q (read p)
    → with_front front (entries_at read (count - i) p) ≡ total → Decodes {A = List A} (Err fault) q total
unfolding entries_at
stops read faults.NoMemory front count i p q total lt some e so_far = tt
stops read (faults.Bad bad) front count i p q total lt some e so_far =
    let k : count - i ≡ suc (count - (i + 1)) = omega arith in
    let one : with_front front (entries_at read (count - i) p) ≡ Err bad = rw (k, some, e) refl in
    sym so_far ∙ one

-- the end of the part, and the end of the count
pub at_end : {A : Type 0} (read : Reader A) (front : List A) (n : ℕ) (p : Part) (total : Result (List A × Part) Bad)
    → eqb (length p.bytes) 0 ≡ true → with_front front (entries_at read n p) ≡ total → total ≡ Ok (front, p)
unfolding entries_at
at_end read front zero p total none so_far = sym so_far ∙ ap (λ xs. Ok (xs, p)) (append-nil front)
at_end read front (suc n) p total none so_far =
    let one : with_front front (entries_at read (suc n) p) ≡ Ok (front, p) = rw none (ap (λ xs. Ok (xs, p)) (append-nil front)) in
    sym so_far ∙ one

pub at_count : {A : Type 0} (read : Reader A) (front : List A) (count i : ℕ) (p : Part) (total : Result (List A × Part) Bad)
    → count ≤ i → with_front front (entries_at read (count - i) p) ≡ total → total ≡ Ok (front, p)
unfolding entries_at
at_count read front count i p total le so_far =
    let k : count - i ≡ 0 = omega arith in
    let one : with_front front (entries_at read (count - i) p) ≡ Ok (front, p) = rw k (ap (λ xs. Ok (xs, p)) (append-nil front)) in
    sym so_far ∙ one
