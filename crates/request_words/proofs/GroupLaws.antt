-- The words of groups are read exactly where they are what they spell.
use Rattle.std.proofs.Common.{◌≡◌, ℕ, ◌-◌, ◌^◌, ◌<◌, ◌≤◌, Bool, true, false, cond, List, [], ◌∷◌, ◌++◌, length, Option, Some, None, Result, Ok, Err, refl, sym, ap, subst, ◌∙◌, append_assoc, append-nil, ne_eqb, suc, inl, inr, arith}
use Rattle.std.specs.Prelude.{codes, ◌==◌, map, not, IfOk}
use Rattle.std.specs.Fmt.{decimal}
use Rattle.std.specs.List.{AllByRecursion, flat_map}
use Rattle.std.proofs.lemmas.Bool.{cases_eq}
use Rattle.std.proofs.lemmas.Option.{same_Some, some_pair_parts}
use Rattle.text_words.specs.Codec.{IsCodec}
use Rattle.text_words.specs.Decimal.{decimal_of}
use Rattle.text_words.specs.Separator.{Lacks, behind, upto}
use Rattle.text_words.specs.Steps.{◌>>=◌, allowed, first_of}
use Rattle.text_words.proofs.CodecLaws.{behind_codec}
use Rattle.text_words.proofs.DecimalLaws.{decimal_of-takes, decimal_of-decimal}
use Rattle.text_words.proofs.Lacking.{decimal-has_no, Lacks-fixed}
use Rattle.text_words.proofs.PiecesLaws.{AllLack}
use Rattle.text_words.proofs.SeparatorLaws.{Lacks-append, behind-takes, behind-append, behind-other, upto-takes, upto-append}
use Rattle.text_words.proofs.StepsLaws.{bind_some, allowed_some, first_of-takes}
use Rattle.request_words.specs.declared.groups.GroupWords.{GroupWords}
use Rattle.request_words.specs.declared.value.ValueWord.{ValueWord}
use Rattle.request_words.specs.declared.groups.OpenGroups.{OpenGroups}
use Rattle.request_words.specs.Specifiers.{slashed}
use Rattle.request_words.specs.Values.{value_of, value_text, IsValue}
use Rattle.request_words.specs.Groups.{IsHead, head_text, head_word_of, head_of, group_words, IsGroup, AreGroups, opened, closed, with_head, with_value, with_head_or_value, with_word, with_words, first_group_of, groups_of}
use Rattle.request_words.proofs.SpecifierLaws.{slashed-is, slashed-lacks}
use Rattle.request_words.proofs.ValueLaws.{outside_k, outside_space, value_codec, value_text-lacks}

-- ---- heads

head_of-takes : (rest : List ℕ) (head : ℕ × ℕ) → head_of rest ≡ Some head → IsHead head × (rest ≡ slashed head.0 head.1)
unfolding head_of
head_of-takes rest head e =
    let a = bind_some (upto 47 rest) _ head e in
    let b = bind_some (decimal_of (2 ^ 32 - 1) a.0.0) _ head a.2 in
    let c = bind_some (decimal_of (2 ^ 64 - 1) a.0.1) _ head b.2 in
    let kind = decimal_of-takes (2 ^ 32 - 1) a.0.0 b.0 (omega arith) b.1 in
    let generation = decimal_of-takes (2 ^ 64 - 1) a.0.1 c.0 (omega arith) c.1 in
    subst (λ (h : ℕ × ℕ). IsHead h × (rest ≡ slashed h.0 h.1)) (same_Some (b.0, c.0) head c.2)
    ((kind.0, generation.0), (upto-takes 47 rest a.0.0 a.0.1 a.1).0 ∙ (λ i. kind.1 i ++ 47 ∷ generation.1 i) ∙ sym (slashed-is b.0 c.0))

head_of-again : (kind generation : ℕ) → kind ≤ 2 ^ 32 - 1 → generation ≤ 2 ^ 64 - 1 → head_of (slashed kind generation) ≡ Some (kind, generation)
unfolding head_of
head_of-again kind generation is_kind is_generation =
    rw (
      slashed-is kind generation,
      upto-append 47 (decimal kind) (decimal generation) (decimal-has_no 47 kind (omega (arith, is_kind)) refl),
      decimal_of-decimal (2 ^ 32 - 1) kind (omega arith) is_kind,
      decimal_of-decimal (2 ^ 64 - 1) generation (omega arith) is_generation,
    ) refl

pub head_codec : IsCodec head_word_of (λ head. head_text head.0 head.1) IsHead
unfolding head_word_of head_text
head_codec = behind_codec (codes "kind=") head_of (λ head. slashed head.0 head.1) IsHead (record { takes = head_of-takes; again = λ head is. head_of-again head.0 head.1 is.0 is.1 })

head_text-front : (kind generation : ℕ) → behind (codes "kind=") (head_text kind generation) ≡ Some (slashed kind generation)
unfolding head_text
head_text-front kind generation = behind-append (codes "kind=") (slashed kind generation)

-- a value has no head
value-other : (v : ValueWord) → IsValue v → behind (codes "kind=") (value_text v) ≡ None
value-other v is = behind-other 107 (codes "ind=") (value_text v) (value_text-lacks 107 v outside_k (Lacks-fixed 107 (codes ":") refl) is)

-- ---- what groups so far spell

-- the words of the groups so far
said_words : OpenGroups → List (List ℕ)
said_words so_far = flat_map group_words so_far.before ++ group_words so_far.last

-- groups so far that are within their limits
record IsOpen (so_far : OpenGroups) : Type 0 where
  before : AllByRecursion IsGroup so_far.before
  kind : so_far.last.kind ≤ 2 ^ 32 - 1
  generation : so_far.last.generation ≤ 2 ^ 64 - 1
  values : AllByRecursion IsValue so_far.last.values

-- one more at the end
pub all-snoc : {A : Type 0} (P : A → Type 0) (xs : List A) (x : A) → AllByRecursion P xs → P x → AllByRecursion P (xs ++ x ∷ [])
all-snoc P [] x all is = (is, tt)
all-snoc P (first ∷ xs) x all is = (all.0, all-snoc P xs x all.1 is)

pub map-snoc : {A B : Type 0} (f : A → B) (xs : List A) (x : A) → map f (xs ++ x ∷ []) ≡ map f xs ++ f x ∷ []
map-snoc f [] x = refl
map-snoc f (first ∷ xs) x = ap (λ (ys : List _). f first ∷ ys) (map-snoc f xs x)

pub flat_map-snoc : {A B : Type 0} (f : A → List B) (xs : List A) (x : A) → flat_map f (xs ++ x ∷ []) ≡ flat_map f xs ++ f x
flat_map-snoc f [] x = append-nil (f x)
flat_map-snoc f (first ∷ xs) x = ap (λ (ys : List _). f first ++ ys) (flat_map-snoc f xs x) ∙ sym (append_assoc (f first) (flat_map f xs) (f x))

not_none : (n : ℕ) → not (n == 0) ≡ true → 1 ≤ n
not_none n e = elim (cases_eq n 0) [ inl none ↦ (let no = rw none at e in absurd cc) | inr some ↦ omega (arith, some) ]

some_values : (n : ℕ) → 1 ≤ n → not (n == 0) ≡ true
some_values n some = rw (ne_eqb n 0 (omega (arith, some))) refl

-- groups that are closed
closed-takes : (so_far : OpenGroups) (groups : List GroupWords) → closed so_far ≡ Some groups → IsOpen so_far → AllByRecursion IsGroup groups × (groups ≡ so_far.before ++ so_far.last ∷ [])
unfolding closed
closed-takes so_far groups e is =
    let a = bind_some (allowed (not (length so_far.last.values == 0))) _ groups e in
    let some = not_none (length so_far.last.values) (allowed_some (not (length so_far.last.values == 0)) a.0 a.1) in
    let same = same_Some (so_far.before ++ so_far.last ∷ []) groups a.2 in
    let last : IsGroup so_far.last = record { kind = is.kind; generation = is.generation; some = some; values = is.values } in
    (subst (λ (gs : List GroupWords). AllByRecursion IsGroup gs) same (all-snoc IsGroup so_far.before so_far.last is.before last), sym same)

closed-again : (so_far : OpenGroups) → 1 ≤ length so_far.last.values → closed so_far ≡ Some (so_far.before ++ so_far.last ∷ [])
unfolding closed
closed-again so_far some = rw (some_values (length so_far.last.values) some) refl

closed-words : (so_far : OpenGroups) → flat_map group_words (so_far.before ++ so_far.last ∷ []) ≡ said_words so_far
unfolding said_words
closed-words so_far = flat_map-snoc group_words so_far.before so_far.last

-- ---- one more word

head-takes : (so_far next : OpenGroups) (word rest : List ℕ) → behind (codes "kind=") word ≡ Some rest → with_head so_far rest ≡ Some next → IsOpen so_far → IsOpen next × (said_words next ≡ said_words so_far ++ word ∷ [])
unfolding said_words head_text
head-takes so_far next word rest front e is =
    let a = bind_some (head_of rest) _ next e in
    let b = bind_some (closed so_far) _ next a.2 in
    let head = head_of-takes rest a.0 a.1 in
    let before = closed-takes so_far b.0 b.1 is in
    let text : word ≡ head_text a.0.0 a.0.1 = behind-takes (codes "kind=") word rest front ∙ ap (λ (r : List ℕ). codes "kind=" ++ r) head.1 in
    subst (λ (g : OpenGroups). IsOpen g × (said_words g ≡ said_words so_far ++ word ∷ [])) (same_Some (record { before = b.0; last = opened a.0 }) next b.2) (
      record { before = before.0; kind = head.0.0; generation = head.0.1; values = tt },
      ap (λ (gs : List GroupWords). flat_map group_words gs ++ head_text a.0.0 a.0.1 ∷ []) before.1
          ∙ (λ i. closed-words so_far i ++ sym text i ∷ []),
    )

value-takes : (so_far next : OpenGroups) (word : List ℕ) → with_value so_far word ≡ Some next → IsOpen so_far → IsOpen next × (said_words next ≡ said_words so_far ++ word ∷ [])
unfolding said_words
value-takes so_far next word e is =
    let a = bind_some (value_of word) _ next e in
    let value = value_codec.takes word a.0 a.1 in
    subst (λ (g : OpenGroups). IsOpen g × (said_words g ≡ said_words so_far ++ word ∷ []))
    (same_Some (record so_far { last = record so_far.last { values = so_far.last.values ++ a.0 ∷ [] } }) next a.2) (
      record { before = is.before; kind = is.kind; generation = is.generation; values = all-snoc IsValue so_far.last.values a.0 is.values value.0 },
      ap (λ (ws : List (List ℕ)). flat_map group_words so_far.before ++ (head_text so_far.last.kind so_far.last.generation ∷ ws))
          (map-snoc value_text so_far.last.values a.0 ∙ ap (λ (w : List ℕ). map value_text so_far.last.values ++ w ∷ []) (sym value.1))
          ∙ sym (append_assoc (flat_map group_words so_far.before) (head_text so_far.last.kind so_far.last.generation ∷ map value_text so_far.last.values) (word ∷ [])),
    )

with_word-takes : (so_far next : OpenGroups) (word : List ℕ) → with_word so_far word ≡ Some next → IsOpen so_far → IsOpen next × (said_words next ≡ said_words so_far ++ word ∷ [])
unfolding with_word
with_word-takes so_far next word e is = by_front (behind (codes "kind=") word) refl e
  where
    by_front : (found : Option (List ℕ)) → behind (codes "kind=") word ≡ found → with_head_or_value so_far word found ≡ Some next → IsOpen next × (said_words next ≡ said_words so_far ++ word ∷ [])
    by_front (Some rest) front e = head-takes so_far next word rest front e is
    by_front None front e = value-takes so_far next word e is

with_words-takes : (so_far : OpenGroups) (words : List (List ℕ)) (groups : List GroupWords) → with_words so_far words ≡ Some groups → IsOpen so_far → AllByRecursion IsGroup groups × (1 ≤ length groups) × (said_words so_far ++ words ≡ flat_map group_words groups)
unfolding with_words
with_words-takes so_far [] groups e is =
    let all = closed-takes so_far groups e is in
    (all.0, some_groups so_far.before so_far.last groups all.1, append-nil (said_words so_far) ∙ sym (closed-words so_far) ∙ ap (flat_map group_words) (sym all.1))
  where
    some_groups : (before : List GroupWords) (last : GroupWords) (groups : List GroupWords) → groups ≡ before ++ last ∷ [] → 1 ≤ length groups
    some_groups [] last [] e = absurd cc
    some_groups (first ∷ before) last [] e = absurd cc
    some_groups before last (group ∷ groups) e = omega arith
with_words-takes so_far (word ∷ words) groups e is =
    let a = bind_some (with_word so_far word) _ groups e in
    let next = with_word-takes so_far a.0 word a.1 is in
    let later = with_words-takes a.0 words groups a.2 next.0 in
    (later.0, later.1, sym (append_assoc (said_words so_far) (word ∷ []) words) ∙ ap (λ (ws : List (List ℕ)). ws ++ words) (sym next.1) ∙ later.2)

groups_of-takes : (words : List (List ℕ)) (groups : List GroupWords) → groups_of words ≡ Some groups → AreGroups groups × (words ≡ flat_map group_words groups)
unfolding groups_of first_group_of said_words
groups_of-takes words groups e =
    let a = bind_some (first_of words) _ groups e in
    let b = bind_some (first_group_of a.0.0) _ groups a.2 in
    let c = bind_some (head_word_of a.0.0) _ b.0 b.1 in
    let head = head_codec.takes a.0.0 c.0 c.1 in
    let first : OpenGroups = record { before = []; last = opened c.0 } in
    let same : first ≡ b.0 = same_Some first b.0 c.2 in
    let is : IsOpen first = record { before = tt; kind = head.0.0; generation = head.0.1; values = tt } in
    let later = with_words-takes first a.0.1 groups (ap (λ (g : OpenGroups). with_words g a.0.1) same ∙ b.2) is in
    ((later.1, later.0), first_of-takes words a.0.0 a.0.1 a.1 ∙ (λ i. head.1 i ∷ a.0.1) ∙ later.2)

-- ---- and backwards

with_word-head : (so_far : OpenGroups) (kind generation : ℕ) → kind ≤ 2 ^ 32 - 1 → generation ≤ 2 ^ 64 - 1 → 1 ≤ length so_far.last.values
    → with_word so_far (head_text kind generation) ≡ Some (record { before = so_far.before ++ so_far.last ∷ []; last = opened (kind, generation) })
unfolding with_word
with_word-head so_far kind generation is_kind is_generation some =
    rw (head_text-front kind generation, head_of-again kind generation is_kind is_generation, closed-again so_far some) refl

-- groups with more values of the last one
and_values : OpenGroups → List ValueWord → OpenGroups
and_values so_far values = record so_far { last = record so_far.last { values = so_far.last.values ++ values } }

with_word-value : (so_far : OpenGroups) (v : ValueWord) → IsValue v → with_word so_far (value_text v) ≡ Some (and_values so_far (v ∷ []))
unfolding with_word and_values
with_word-value so_far v is = rw (value-other v is, value_codec.again v is) refl

with_words-values : (so_far : OpenGroups) (values : List ValueWord) (words : List (List ℕ)) → AllByRecursion IsValue values → with_words so_far (map value_text values ++ words) ≡ with_words (and_values so_far values) words
unfolding with_words and_values
with_words-values so_far [] words all =
    ap (λ (vs : List ValueWord). with_words (record so_far { last = record so_far.last { values = vs } }) words) (sym (append-nil so_far.last.values))
with_words-values so_far (v ∷ values) words all =
    ap (λ (next : Option OpenGroups). next >>= λ g. with_words g (map value_text values ++ words)) (with_word-value so_far v all.0)
    ∙ with_words-values (and_values so_far (v ∷ [])) values words all.1
    ∙ ap (λ (vs : List ValueWord). with_words (record so_far { last = record so_far.last { values = vs } }) words) (append_assoc so_far.last.values (v ∷ []) values)

with_words-groups : (so_far : OpenGroups) (more : List GroupWords) → 1 ≤ length so_far.last.values → AllByRecursion IsGroup more → with_words so_far (flat_map group_words more) ≡ Some (so_far.before ++ so_far.last ∷ more)
unfolding with_words and_values
with_words-groups so_far [] some all = closed-again so_far some
with_words-groups so_far (group ∷ more) some all =
    let before : List GroupWords = so_far.before ++ so_far.last ∷ [] in
    let next : OpenGroups = record { before = before; last = opened (group.kind, group.generation) } in
    ap (λ (g : Option OpenGroups). g >>= λ h. with_words h (map value_text group.values ++ flat_map group_words more)) (with_word-head so_far group.kind group.generation all.0.kind all.0.generation some)
    ∙ with_words-values next group.values (flat_map group_words more) all.0.values
    ∙ with_words-groups (record { before = before; last = group }) more all.0.some all.1
    ∙ ap Some (append_assoc so_far.before (so_far.last ∷ []) (group ∷ more))

groups_of-again : (groups : List GroupWords) → AreGroups groups → groups_of (flat_map group_words groups) ≡ Some groups
unfolding groups_of first_group_of and_values
groups_of-again [] are = absurd (omega (arith, are.0))
groups_of-again (group ∷ more) are =
    let all = are.1 in
    let first : OpenGroups = record { before = []; last = opened (group.kind, group.generation) } in
    rw (head_codec.again (group.kind, group.generation) (all.0.kind, all.0.generation))
    (with_words-values first group.values (flat_map group_words more) all.0.values ∙ with_words-groups (record { before = []; last = group }) more all.0.some all.1)

pub groups_codec : IsCodec groups_of (flat_map group_words) AreGroups
groups_codec = record { takes = groups_of-takes; again = groups_of-again }

-- ---- no space

values-lack : (values : List ValueWord) (words : List (List ℕ)) → AllByRecursion IsValue values → AllLack 32 words → AllLack 32 (map value_text values ++ words)
values-lack [] words all lack = lack
values-lack (v ∷ values) words all lack = (value_text-lacks 32 v outside_space (Lacks-fixed 32 (codes ":") refl) all.0, values-lack values words all.1 lack)

head_text-lacks : (kind generation : ℕ) → kind ≤ 2 ^ 32 - 1 → generation ≤ 2 ^ 64 - 1 → Lacks 32 (head_text kind generation)
unfolding head_text
head_text-lacks kind generation is_kind is_generation =
    Lacks-append 32 (codes "kind=") (slashed kind generation) (Lacks-fixed 32 (codes "kind=") refl) (slashed-lacks 32 kind generation refl (Lacks-fixed 32 (codes "/") refl) is_kind is_generation)

pub groups-lack : (groups : List GroupWords) → AllByRecursion IsGroup groups → AllLack 32 (flat_map group_words groups)
groups-lack [] all = tt
groups-lack (group ∷ more) all =
    (head_text-lacks group.kind group.generation all.0.kind all.0.generation, values-lack group.values (flat_map group_words more) all.0.values (groups-lack more all.1))

-- ---- a loop over words

pub words_stop : (so_far : OpenGroups) (words : List (List ℕ)) (word : List ℕ) (rest : List (List ℕ)) (whole : Option (List GroupWords)) → with_words so_far words ≡ whole → Some (word, rest) ≡ first_of words → None ≡ with_word so_far word → None ≡ whole
unfolding with_words
words_stop so_far words word rest whole read first none =
    ap (λ (next : Option OpenGroups). next >>= λ g. with_words g rest) none ∙ ap (with_words so_far) (sym (first_of-takes words word rest (sym first))) ∙ read

pub words_go : (so_far next : OpenGroups) (words : List (List ℕ)) (word : List ℕ) (rest : List (List ℕ)) (whole : Option (List GroupWords)) → with_words so_far words ≡ whole → Some (word, rest) ≡ first_of words → Some next ≡ with_word so_far word → with_words next rest ≡ whole
unfolding with_words
words_go so_far next words word rest whole read first some =
    ap (λ (found : Option OpenGroups). found >>= λ g. with_words g rest) some ∙ ap (with_words so_far) (sym (first_of-takes words word rest (sym first))) ∙ read

pub words_end : {E : Type 0} (so_far : OpenGroups) (words : List (List ℕ)) (found : Result (Option (List GroupWords)) E) (whole : Option (List GroupWords)) → with_words so_far words ≡ whole → None ≡ first_of words → IfOk found (λ groups. groups ≡ closed so_far) → IfOk found (λ groups. groups ≡ whole)
unfolding with_words
words_end so_far [] (Ok groups) whole read none is = is ∙ read
words_end so_far [] (Err failed) whole read none is = tt
words_end so_far (word ∷ words) found whole read none is = absurd cc
