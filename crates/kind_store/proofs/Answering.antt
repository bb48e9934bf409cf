-- The answer to a Fetch: its first cause of a refusal, and what was gathered.
use Rattle.std.proofs.Common.{◌≡◌, ℕ, ◌+◌, ◌-◌, ◌<◌, ◌≤◌, min, Bool, true, false, cond, ◌||◌, List, [], ◌∷◌, ◌++◌, map, fold, find, Option, Some, None, option_map, is_none, is_some, nat_lt, sum_by, refl, sym, ap, ap₂, ◌∙◌, arith, append_assoc, append-nil, add_assoc, true≢false, le_of_lt, lt_of_le_of_lt}
use Rattle.std.proofs.lemmas.Bool.{cond-true, lt-ltb, ltb-false}
use Rattle.std.proofs.lemmas.Bool.Decides.{nat_tests}
use Rattle.std.proofs.lemmas.List.Sums.{sum_by-cons}
use Rattle.std.specs.List.{list_any}
use Rattle.data_models.specs.declared.config.Config.{Config}
use Rattle.data_models.specs.declared.stored_data.SlotKey.{SlotKey}
use Rattle.data_models.specs.declared.stored_data.StoredData.{StoredData}
use Rattle.data_models.specs.declared.fetched.KindValues.TheVariants.{Known}
use Rattle.data_models.specs.declared.fetched.Specifier.{Specifier}
use Rattle.data_models.specs.declared.fetched.StoreKind.{StoreKind}
use Rattle.data_models.specs.Configs.{kind_of}
use Rattle.storage_model.specs.declared.limits.TheConstants.{MAX_ANSWER}
use Rattle.storage_model.specs.declared.request.FetchAsked.{FetchAsked}
use Rattle.storage_model.specs.declared.refusal.Refusal.{Refusal}
use Rattle.storage_model.specs.declared.refusal.Refusal.TheVariants.{UnknownExtension, UnknownKind, ResponseTooLarge}
use Rattle.storage_model.specs.declared.verdict.FetchVerdict.TheVariants.{Values, Refused}
use Rattle.storage_model.specs.Records.{Slots, KindEntry, Kinds, kind_in}
use Rattle.storage_model.specs.Refusals.{Cause, first_cause, sequence_causes}
use Rattle.storage_model.specs.Fetches.{slots_given, values_for, kind_for, kind_size, answer_size, is_too_long, fetch_causes, fetch_verdict, answered}
use Rattle.kind_store.specs.declared.gathering.Gathering.{Gathering}
use Rattle.kind_store.specs.declared.gathering.TheConstants.{ENOUGH}
use Rattle.kind_store.specs.declared.fetch.Found.{Found}
use Rattle.kind_store.specs.Gathered.{given_at, size_at, with_key, with_keys, gathered, with_kind}
use Rattle.kind_store.proofs.Gives.{too_long_at_enough}

absurd_none : {X : Type 0} (cause : Refusal) → None ≡ Some cause → X
absurd_none cause e = absurd (true≢false (sym (ap is_some e)))

absurd_some : {X : Type 0} (cause : Refusal) → Some cause ≡ None → X
absurd_some cause e = absurd (true≢false (ap is_some e))

-- where a cause holds among the first, it decides
pub cause_first : (first second : List Cause) (cause : Refusal) → first_cause first ≡ Some cause → first_cause (first ++ second) ≡ Some cause
unfolding first_cause
cause_first [] second cause e = absurd_none cause e
cause_first (c ∷ cs) second cause e =
    (elim c.1 as (λ b. option_map (λ (d : Cause). d.0) (cond b (Some c) (find (λ (d : Cause). d.1) cs)) ≡ Some cause → option_map (λ (d : Cause). d.0) (cond b (Some c) (find (λ (d : Cause). d.1) (cs ++ second))) ≡ Some cause) [
      | true ↦ λ f. f
      | false ↦ λ f. cause_first cs second cause f
    ]) e

-- where none does, the others decide
pub cause_later : (first second : List Cause) → first_cause first ≡ None → first_cause (first ++ second) ≡ first_cause second
unfolding first_cause
cause_later [] second e = refl
cause_later (c ∷ cs) second e =
    (elim c.1 as (λ b. option_map (λ (d : Cause). d.0) (cond b (Some c) (find (λ (d : Cause). d.1) cs)) ≡ None → option_map (λ (d : Cause). d.0) (cond b (Some c) (find (λ (d : Cause). d.1) (cs ++ second))) ≡ option_map (λ (d : Cause). d.0) (find (λ (d : Cause). d.1) second)) [
      | true ↦ λ f. absurd_some c.0 f
      | false ↦ λ f. cause_later cs second f
    ]) e

-- sizes that are counted up to what is enough
no_more : (n : ℕ) → n ≡ n + 0
no_more n = omega arith

one_more : (m n k : ℕ) → m ≡ min n ENOUGH → min (m + k) ENOUGH ≡ min (n + k) ENOUGH
one_more m n k e = omega (arith, e)

is_capped : (n : ℕ) → n ≤ ENOUGH → n ≡ min n ENOUGH
is_capped n l = omega (arith, l)

at_most : (n : ℕ) → min n ENOUGH ≤ ENOUGH
at_most n = omega arith

not_less : (m n k l : ℕ) → m ≡ min n ENOUGH → l ≡ min (n + k) ENOUGH → m ≤ l
not_less m n k l e f = omega (arith, e, f)

neither : (b c : Bool) → (b || c) ≡ false → b ≡ false
neither true c e = e
neither false c e = refl

below : {n : ℕ} → n ≤ MAX_ANSWER → n < ENOUGH
below {n} l = omega (arith, l)

short_of : (n : ℕ) (b : Bool) → (nat_lt MAX_ANSWER n || b) ≡ false → n < ENOUGH
short_of n b e = below (ltb-false MAX_ANSWER n (neither (nat_lt MAX_ANSWER n) b e))

-- the size and the values of what was gathered
pub sizes_of : (now : ℕ) (slots : Slots) (list : List SlotKey) (g : Gathering) (n : ℕ) → g.size ≡ min n ENOUGH → (with_keys now slots g list).size ≡ min (n + sum_by (size_at now slots) list) ENOUGH
unfolding with_keys with_key
sizes_of now slots [] g n e = e ∙ ap (λ m. min m ENOUGH) (no_more n)
sizes_of now slots (key ∷ list) g n e =
    sizes_of now slots list (with_key now slots g key) (n + size_at now slots key) (one_more g.size n (size_at now slots key) e)
    ∙ ap (λ m. min m ENOUGH) (add_assoc n (size_at now slots key) (sum_by (size_at now slots) list) ∙ ap (λ m. n + m) (sym (sum_by-cons (size_at now slots) key list)))

-- a size doesn't fall with further values
capped : (now : ℕ) (slots : Slots) (g : Gathering) (key : SlotKey) → (with_key now slots g key).size ≡ min (g.size + size_at now slots key) ENOUGH
unfolding with_key
capped now slots g key = refl

grows : (now : ℕ) (slots : Slots) (list : List SlotKey) (g : Gathering) → g.size ≤ ENOUGH → g.size ≤ (with_keys now slots g list).size
grows now slots list g k = not_less g.size g.size (sum_by (size_at now slots) list) (with_keys now slots g list).size (is_capped g.size k) (sizes_of now slots list g g.size (is_capped g.size k))

-- where it isn't enough yet, all values are there
pub values_of_keys : (now : ℕ) (slots : Slots) (list : List SlotKey) (g : Gathering) → (with_keys now slots g list).size < ENOUGH → g.size ≤ ENOUGH → (with_keys now slots g list).values ≡ g.values ++ map (given_at now slots) list
unfolding with_keys with_key
values_of_keys now slots [] g l k = sym (append-nil g.values)
values_of_keys now slots (key ∷ list) g l k =
    let next : Gathering = with_key now slots g key in
    let small : min (g.size + size_at now slots key) ENOUGH < ENOUGH = lt_of_le_of_lt (grows now slots list next (at_most (g.size + size_at now slots key))) l in
    values_of_keys now slots list next l (le_of_lt small)
    ∙ ap (λ vs. vs ++ map (given_at now slots) list) (cond-true _ (g.values ++ given_at now slots key ∷ []) g.values (lt-ltb _ ENOUGH small))
    ∙ append_assoc g.values (given_at now slots key ∷ []) (map (given_at now slots) list)

-- the size of an answer with one more kind, and its kinds
size_with : (now : ℕ) (kinds : Kinds) (f : Found) (s : Specifier) (n : ℕ) → f.size ≡ min n ENOUGH → (with_kind now kinds f s).size ≡ min (n + kind_size now kinds s) ENOUGH
unfolding with_kind gathered kind_size
size_with now kinds f s n e =
    let k : KindEntry = kind_in kinds s.kind in
    sizes_of now k.slots (slots_given now k s) (record { values = []; size = min (f.size + 16) ENOUGH }) (n + 16) (one_more f.size n 16 e)
    ∙ ap (λ m. min m ENOUGH) (add_assoc n 16 (sum_by (size_at now k.slots) (slots_given now k s)))

kinds_with : (now : ℕ) (kinds : Kinds) (f : Found) (s : Specifier) → (with_kind now kinds f s).size < ENOUGH → (with_kind now kinds f s).kinds ≡ f.kinds ++ kind_for now kinds s ∷ []
unfolding with_kind gathered kind_for values_for
kinds_with now kinds f s l =
    let k : KindEntry = kind_in kinds s.kind in
    ap (λ (vs : List StoredData). f.kinds ++ (record { kind = s.kind; generation = k.generation; values = Known vs }) ∷ [])
    (values_of_keys now k.slots (slots_given now k s) (record { values = []; size = min (f.size + 16) ENOUGH }) l (at_most (f.size + 16)))

pub all_size : (now : ℕ) (kinds : Kinds) (specifiers : List Specifier) (f : Found) (n : ℕ) → f.size ≡ min n ENOUGH → (fold (with_kind now kinds) f specifiers).size ≡ min (n + sum_by (kind_size now kinds) specifiers) ENOUGH
all_size now kinds [] f n e = e ∙ ap (λ m. min m ENOUGH) (no_more n)
all_size now kinds (s ∷ specifiers) f n e =
    all_size now kinds specifiers (with_kind now kinds f s) (n + kind_size now kinds s) (size_with now kinds f s n e)
    ∙ ap (λ m. min m ENOUGH) (add_assoc n (kind_size now kinds s) (sum_by (kind_size now kinds) specifiers) ∙ ap (λ m. n + m) (sym (sum_by-cons (kind_size now kinds) s specifiers)))

-- a size doesn't fall with further kinds
kind_grows : (now : ℕ) (kinds : Kinds) (f : Found) (s : Specifier) (n : ℕ) → f.size ≡ min n ENOUGH → f.size ≤ (with_kind now kinds f s).size
kind_grows now kinds f s n e = not_less f.size n (kind_size now kinds s) (with_kind now kinds f s).size e (size_with now kinds f s n e)

all_grow : (now : ℕ) (kinds : Kinds) (specifiers : List Specifier) (f : Found) (n : ℕ) → f.size ≡ min n ENOUGH → f.size ≤ (fold (with_kind now kinds) f specifiers).size
all_grow now kinds specifiers f n e = not_less f.size n (sum_by (kind_size now kinds) specifiers) (fold (with_kind now kinds) f specifiers).size e (all_size now kinds specifiers f n e)

pub all_kinds : (now : ℕ) (kinds : Kinds) (specifiers : List Specifier) (f : Found) (n : ℕ) → f.size ≡ min n ENOUGH → (fold (with_kind now kinds) f specifiers).size < ENOUGH → (fold (with_kind now kinds) f specifiers).kinds ≡ f.kinds ++ map (kind_for now kinds) specifiers
all_kinds now kinds [] f n e l = sym (append-nil f.kinds)
all_kinds now kinds (s ∷ specifiers) f n e l =
    let next : Found = with_kind now kinds f s in
    let size = size_with now kinds f s n e in
    all_kinds now kinds specifiers next (n + kind_size now kinds s) size l
    ∙ ap (λ ks. ks ++ map (kind_for now kinds) specifiers) (kinds_with now kinds f s (lt_of_le_of_lt (all_grow now kinds specifiers next (n + kind_size now kinds s) size) l))
    ∙ append_assoc f.kinds (kind_for now kinds s ∷ []) (map (kind_for now kinds) specifiers)

-- what is found for a Fetch
abbrev pub all_found : ℕ → Kinds → List Specifier → Found
all_found now kinds specifiers = fold (with_kind now kinds) (record { kinds = []; size = 14 }) specifiers

-- the causes of a refusal that stand before the size of the answer
abbrev pub first_causes : Config → FetchAsked → List Cause
first_causes config request =
    sequence_causes config request.sequence ++ (UnknownExtension, request.strange) ∷ (UnknownKind, list_any (λ (s : Specifier). is_none (kind_of config s.kind)) request.specifiers) ∷ []

abbrev last_cause : ℕ → Kinds → FetchAsked → Cause
last_cause now kinds request = (ResponseTooLarge, is_too_long request.max (answer_size now kinds request.specifiers))

all_causes : (config : Config) (now : ℕ) (kinds : Kinds) (request : FetchAsked) → fetch_causes config now kinds request ≡ first_causes config request ++ last_cause now kinds request ∷ []
unfolding fetch_causes
all_causes config now kinds request = sym (append_assoc (sequence_causes config request.sequence) ((UnknownExtension, request.strange) ∷ (UnknownKind, list_any (λ (s : Specifier). is_none (kind_of config s.kind)) request.specifiers) ∷ []) (last_cause now kinds request ∷ []))

pub refused_early : (config : Config) (now : ℕ) (kinds : Kinds) (request : FetchAsked) (cause : Refusal) → first_cause (first_causes config request) ≡ Some cause → Refused cause ≡ fetch_verdict config now kinds request
unfolding fetch_verdict
refused_early config now kinds request cause e =
    sym (ap (λ o. answered o (map (kind_for now kinds) request.specifiers)) (ap first_cause (all_causes config now kinds request) ∙ cause_first (first_causes config request) (last_cause now kinds request ∷ []) cause e))

-- the answer where only its size may refuse it
by_size : (b : Bool) (found kinds : List StoreKind) → (b ≡ false → found ≡ kinds) → cond b (Refused ResponseTooLarge) (Values found) ≡ answered (option_map (λ (c : Cause). c.0) (cond b (Some (ResponseTooLarge, b)) None)) kinds
by_size true found kinds e = refl
by_size false found kinds e = ap Values (e refl)

short : (max n : ℕ) → is_too_long max n ≡ false → n < ENOUGH
unfolding is_too_long
short max n e = short_of n _ e

pub answered_with : (config : Config) (now : ℕ) (kinds : Kinds) (request : FetchAsked) → first_cause (first_causes config request) ≡ None
    → cond (is_too_long request.max (all_found now kinds request.specifiers).size) (Refused ResponseTooLarge) (Values (all_found now kinds request.specifiers).kinds) ≡ fetch_verdict config now kinds request
unfolding fetch_verdict first_cause answer_size
answered_with config now kinds request e =
    let found : Found = all_found now kinds request.specifiers in
    let size = all_size now kinds request.specifiers (record { kinds = []; size = 14 }) 14 refl in
    let same : is_too_long request.max found.size ≡ is_too_long request.max (answer_size now kinds request.specifiers) = ap (is_too_long request.max) size ∙ too_long_at_enough request.max (14 + sum_by (kind_size now kinds) request.specifiers) in
    ap (λ b. cond b (Refused ResponseTooLarge) (Values found.kinds)) same
    ∙ by_size (is_too_long request.max (answer_size now kinds request.specifiers)) found.kinds (map (kind_for now kinds) request.specifiers)
    (λ f. all_kinds now kinds request.specifiers (record { kinds = []; size = 14 }) 14 refl (short request.max found.size (same ∙ f)))
    ∙ sym (ap (λ o. answered o (map (kind_for now kinds) request.specifiers)) (ap first_cause (all_causes config now kinds request) ∙ cause_later (first_causes config request) (last_cause now kinds request ∷ []) e))
