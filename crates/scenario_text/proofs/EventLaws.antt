-- The lines of events are read exactly where they are what they spell.
use Rattle.std.proofs.Common.{◌≡◌, ℕ, ◌-◌, ◌^◌, ◌<◌, ◌≤◌, Bool, true, false, List, [], ◌∷◌, ◌++◌, length, Option, Some, None, refl, sym, ap, subst, ◌∙◌, arith}
use Rattle.std.specs.Prelude.{codes, map, IfSome}
use Rattle.std.specs.Fmt.{decimal}
use Rattle.std.specs.List.{AllByRecursion, flat_map}
use Rattle.std.proofs.lemmas.Option.{same_Some, some_pair_parts}
use Rattle.text_words.specs.Codec.{IsCodec}
use Rattle.text_words.specs.Decimal.{decimal_of, number_of}
use Rattle.text_words.specs.Labelled.{labelled, labelled_words, first_behind, optional_of}
use Rattle.text_words.specs.Separator.{Lacks, behind}
use Rattle.text_words.specs.Steps.{◌>>=◌, allowed, part_of, each_of}
use Rattle.text_words.proofs.CodecLaws.{each_codec}
use Rattle.text_words.proofs.DecimalLaws.{decimal_codec, number_codec, decimal_of-decimal}
use Rattle.text_words.proofs.LabelledLaws.{IsLimited, IsUnlabelled, optional_of-takes, optional_of-again}
use Rattle.text_words.proofs.Lacking.{decimal-has_no, Lacks-fixed}
use Rattle.text_words.proofs.PiecesLaws.{AllLack}
use Rattle.text_words.proofs.SeparatorLaws.{Lacks-append, behind-other}
use Rattle.text_words.proofs.StepsLaws.{bind_some, allowed_some, part_of-takes, only_codec}
use Rattle.scenario_text.specs.declared.lines.clock.TheConstants.{MAX_CLOCK}
use Rattle.scenario_text.specs.declared.lines.drain.TheConstants.{MAX_DRAIN}
use Rattle.scenario_text.specs.declared.request.Address.{Address}
use Rattle.scenario_text.specs.declared.scenario.StoreEvent.{StoreEvent}
use Rattle.scenario_text.specs.declared.scenario.FetchEvent.{FetchEvent}
use Rattle.request_words.specs.declared.specifier.SpecifierWord.{SpecifierWord}
use Rattle.request_words.specs.Resources.{resource_of, resource_text, IsResource}
use Rattle.scenario_text.specs.Requests.{address_of, address_words, IsAddress}
use Rattle.request_words.specs.declared.groups.GroupWords.{GroupWords}
use Rattle.request_words.specs.Groups.{head_text, group_words, groups_of, AreGroups}
use Rattle.request_words.specs.Specifiers.{specifier_of, specifier_text, IsSpecifier}
use Rattle.scenario_text.specs.Lines.Clock.{clock_of, clock_words, IsClock}
use Rattle.scenario_text.specs.Lines.Deliver.{deliver_of, deliver_words, IsDeliver}
use Rattle.scenario_text.specs.Lines.Lose.{lose_of, lose_words, IsLose}
use Rattle.scenario_text.specs.Lines.Drain.{drain_of, drain_words, IsDrain}
use Rattle.scenario_text.specs.Lines.Store.{store_of, store_words, IsStore}
use Rattle.scenario_text.specs.Lines.Fetch.{are_asked, fetch_of, fetch_words, IsFetch}
use Rattle.request_words.proofs.GroupLaws.{groups_codec, groups-lack}
use Rattle.request_words.proofs.ResourceLaws.{resource_codec, resource_text-lacks}
use Rattle.request_words.proofs.SpecifierLaws.{specifier_codec, specifier_text-lacks, IsElsewhere, elsewhere_m, elsewhere_space}

-- ---- numbers

pub clock_codec : IsCodec clock_of clock_words IsClock
unfolding clock_of
clock_codec = only_codec (number_of 1 MAX_CLOCK) decimal IsClock (number_codec 1 MAX_CLOCK (omega arith))

pub deliver_codec : IsCodec deliver_of deliver_words IsDeliver
unfolding deliver_of
deliver_codec = only_codec (decimal_of (2 ^ 64 - 1)) decimal IsDeliver (decimal_codec (2 ^ 64 - 1) (omega arith))

pub lose_codec : IsCodec lose_of lose_words IsLose
unfolding lose_of
lose_codec = only_codec (decimal_of (2 ^ 64 - 1)) decimal IsLose (decimal_codec (2 ^ 64 - 1) (omega arith))

pub drain_codec : IsCodec drain_of drain_words IsDrain
unfolding drain_of
drain_codec = only_codec (number_of 1 MAX_DRAIN) decimal IsDrain (number_codec 1 MAX_DRAIN (omega arith))

-- ---- addresses

address_of-takes : (words : List (List ℕ)) (address : Address) (rest : List (List ℕ)) → address_of words ≡ Some (address, rest) → IsAddress address × (words ≡ address_words address rest)
unfolding address_of
address_of-takes words address rest e =
    let a = bind_some (part_of (decimal_of (2 ^ 32 - 1)) words) _ (address, rest) e in
    let b = bind_some (part_of (decimal_of (2 ^ 32 - 1)) a.0.1) _ (address, rest) a.2 in
    let c = bind_some (part_of resource_of b.0.1) _ (address, rest) b.2 in
    let number = decimal_codec (2 ^ 32 - 1) (omega arith) in
    let client = part_of-takes (decimal_of (2 ^ 32 - 1)) decimal (λ n. n ≤ 2 ^ 32 - 1) number words a.0.0 a.0.1 a.1 in
    let peer = part_of-takes (decimal_of (2 ^ 32 - 1)) decimal (λ n. n ≤ 2 ^ 32 - 1) number a.0.1 b.0.0 b.0.1 b.1 in
    let resource = part_of-takes resource_of resource_text IsResource resource_codec b.0.1 c.0.0 c.0.1 c.1 in
    let made : Address = record { client = a.0.0; peer = b.0.0; resource = c.0.0 } in
    let same : ◌≡◌ {A = Address × List (List ℕ)} (made, c.0.1) (address, rest) = same_Some (made, c.0.1) (address, rest) c.2 in
    subst (λ (r : Address × List (List ℕ)). IsAddress r.0 × (words ≡ address_words r.0 r.1)) same (
      record { client = client.0; peer = peer.0; resource = resource.0 },
      client.1 ∙ ap (λ (more : List (List ℕ)). decimal a.0.0 ∷ more) (peer.1 ∙ ap (λ (more : List (List ℕ)). decimal b.0.0 ∷ more) resource.1),
    )

address_of-again : (address : Address) (rest : List (List ℕ)) → IsAddress address → address_of (address_words address rest) ≡ Some (address, rest)
unfolding address_of
address_of-again address rest is =
    rw (
      decimal_of-decimal (2 ^ 32 - 1) address.client (omega arith) is.client,
      decimal_of-decimal (2 ^ 32 - 1) address.peer (omega arith) is.peer,
      resource_codec.again address.resource is.resource,
    ) refl

address-lacks : (address : Address) (rest : List (List ℕ)) → IsAddress address → AllLack 32 rest → AllLack 32 (address_words address rest)
address-lacks address rest is lack =
    (decimal-has_no 32 address.client (omega (arith, is.client)) refl, (decimal-has_no 32 address.peer (omega (arith, is.peer)) refl, (resource_text-lacks address.resource is.resource, lack)))

-- ---- numbers behind labels

-- a limit in both forms
limited_from : (most : ℕ) (found : Option ℕ) → IsLimited most found → IfSome found (λ n. n ≤ most)
limited_from most None is = tt
limited_from most (Some n) is = is

limited_to : (most : ℕ) (found : Option ℕ) → IfSome found (λ n. n ≤ most) → IsLimited most found
limited_to most None is = tt
limited_to most (Some n) is = is

-- the word of a number that may be left out
optional-lacks : (label : List ℕ) (most : ℕ) (found : Option ℕ) (words : List (List ℕ)) → most < 2 ^ 64 → Lacks 32 label → IfSome found (λ n. n ≤ most) → AllLack 32 words → AllLack 32 (labelled_words label found ++ words)
unfolding labelled
optional-lacks label most None words small lacks is lack = lack
optional-lacks label most (Some n) words small lacks is lack = (Lacks-append 32 label (decimal n) lacks (decimal-has_no 32 n (omega (arith, is, small)) refl), lack)

-- ---- Stores

-- the address of a Store
abbrev store_address : StoreEvent → Address
store_address e = record { client = e.client; peer = e.peer; resource = e.resource }

store_of-takes : (words : List (List ℕ)) (event : StoreEvent) → store_of words ≡ Some event → IsStore event × (words ≡ store_words event)
unfolding store_of
store_of-takes words event e =
    let a = bind_some (address_of words) _ event e in
    let t = bind_some (optional_of (codes "ttl=") 255 a.0.1) _ event a.2 in
    let b = bind_some (groups_of t.0.1) _ event t.2 in
    let address = address_of-takes words a.0.0 a.0.1 a.1 in
    let ttl = optional_of-takes (codes "ttl=") 255 a.0.1 t.0.0 t.0.1 (omega arith) t.1 in
    let groups = groups_codec.takes t.0.1 b.0 b.1 in
    subst (λ (s : StoreEvent). IsStore s × (words ≡ store_words s))
    (same_Some (record { client = a.0.0.client; peer = a.0.0.peer; resource = a.0.0.resource; ttl = t.0.0; seq = None; groups = b.0 }) event b.2) (
      record { address = address.0; ttl = limited_from 255 t.0.0 ttl.0; seq = refl; groups = groups.0 },
      address.1 ∙ ap (address_words a.0.0) (ttl.1 ∙ ap (λ (more : List (List ℕ)). labelled_words (codes "ttl=") t.0.0 ++ more) groups.1),
    )

-- the words behind the address of a Store
abbrev store_rest : StoreEvent → List (List ℕ)
store_rest e = labelled_words (codes "ttl=") e.ttl ++ flat_map group_words e.groups

-- no line says a configuration
store_words-is : (e : StoreEvent) → IsStore e → store_words e ≡ address_words (store_address e) (store_rest e)
store_words-is e is = rw is.seq refl

-- no group begins as a hop limit does
groups-unlabelled : (groups : List GroupWords) → IsUnlabelled (codes "ttl=") (flat_map group_words groups)
unfolding first_behind behind head_text
groups-unlabelled [] = refl
groups-unlabelled (group ∷ groups) = refl

store_of-again : (event : StoreEvent) → IsStore event → store_of (store_words event) ≡ Some event
unfolding store_of
store_of-again event is =
    rw (
      store_words-is event is,
      address_of-again (store_address event) (store_rest event) is.address,
      optional_of-again (codes "ttl=") 255 event.ttl (flat_map group_words event.groups) (omega arith) (limited_to 255 event.ttl is.ttl) (groups-unlabelled event.groups),
      groups_codec.again event.groups is.groups,
    ) (ap Some (λ i. record event { seq = sym is.seq i }))

pub store_codec : IsCodec store_of store_words IsStore
store_codec = record { takes = store_of-takes; again = store_of-again }

pub store-lacks : (e : StoreEvent) → IsStore e → AllLack 32 (store_words e)
store-lacks e is =
    let rest = optional-lacks (codes "ttl=") 255 e.ttl (flat_map group_words e.groups) (omega arith) (Lacks-fixed 32 (codes "ttl=") refl) is.ttl (groups-lack e.groups is.groups.1) in
    subst (AllLack 32) (sym (store_words-is e is)) (address-lacks (store_address e) (store_rest e) is.address rest)

-- ---- Fetches

abbrev fetch_address : FetchEvent → Address
fetch_address e = record { client = e.client; peer = e.peer; resource = e.resource }

fetch_of-takes : (words : List (List ℕ)) (event : FetchEvent) → fetch_of words ≡ Some event → IsFetch event × (words ≡ fetch_words event)
unfolding fetch_of
fetch_of-takes words event e =
    let a = bind_some (address_of words) _ event e in
    let t = bind_some (optional_of (codes "ttl=") 255 a.0.1) _ event a.2 in
    let b = bind_some (optional_of (codes "max=") (2 ^ 32 - 1) t.0.1) _ event t.2 in
    let c = bind_some (each_of specifier_of b.0.1) _ event b.2 in
    let d = bind_some (allowed (are_asked c.0)) _ event c.2 in
    let address = address_of-takes words a.0.0 a.0.1 a.1 in
    let ttl = optional_of-takes (codes "ttl=") 255 a.0.1 t.0.0 t.0.1 (omega arith) t.1 in
    let max = optional_of-takes (codes "max=") (2 ^ 32 - 1) t.0.1 b.0.0 b.0.1 (omega arith) b.1 in
    let specifiers = (each_codec specifier_of specifier_text IsSpecifier specifier_codec).takes b.0.1 c.0 c.1 in
    subst (λ (f : FetchEvent). IsFetch f × (words ≡ fetch_words f))
    (same_Some (record { client = a.0.0.client; peer = a.0.0.peer; resource = a.0.0.resource; ttl = t.0.0; seq = None; max = b.0.0; specifiers = c.0 }) event d.2) (
      record {
        address = address.0;
        ttl = limited_from 255 t.0.0 ttl.0;
        seq = refl;
        max = limited_from (2 ^ 32 - 1) b.0.0 max.0;
        asked = allowed_some (are_asked c.0) d.0 d.1;
        specifiers = specifiers.0;
      },
      address.1 ∙ ap (λ (more : List (List ℕ)). address_words a.0.0 more) (ttl.1 ∙ ap (λ (more : List (List ℕ)). labelled_words (codes "ttl=") t.0.0 ++ more) (max.1 ∙ ap (λ (more : List (List ℕ)). labelled_words (codes "max=") b.0.0 ++ more) specifiers.1)),
    )

-- the words behind the hop limit, and behind the address of a Fetch
abbrev limited_rest : FetchEvent → List (List ℕ)
limited_rest e = labelled_words (codes "max=") e.max ++ map specifier_text e.specifiers

abbrev fetch_rest : FetchEvent → List (List ℕ)
fetch_rest e = labelled_words (codes "ttl=") e.ttl ++ limited_rest e

fetch_words-is : (e : FetchEvent) → IsFetch e → fetch_words e ≡ address_words (fetch_address e) (fetch_rest e)
fetch_words-is e is = rw is.seq refl

-- the `t` of `ttl=`
elsewhere_t : IsElsewhere 116
elsewhere_t =
    record {
      digit = refl;
      hex = refl;
      slash = Lacks-fixed 116 (codes "/") refl;
      signs = (Lacks-fixed 116 (codes ":") refl, Lacks-fixed 116 (codes ":*") refl, Lacks-fixed 116 (codes ":?") refl);
      ranges = Lacks-fixed 116 (codes "-,") refl;
      names = Lacks-fixed 116 (codes "=,") refl;
    }

-- no kind of a Fetch begins as a label with a letter that it lacks
specifiers-unlabelled : (first : ℕ) (label : List ℕ) (specifiers : List SpecifierWord) → IsElsewhere first → AllByRecursion IsSpecifier specifiers → IsUnlabelled (first ∷ label) (map specifier_text specifiers)
unfolding first_behind
specifiers-unlabelled first label [] out all = refl
specifiers-unlabelled first label (specifier ∷ specifiers) out all = behind-other first label (specifier_text specifier) (specifier_text-lacks first specifier out all.0)

-- nor does the most bytes of an answer begin as a hop limit
max-unlabelled : (max : Option ℕ) (words : List (List ℕ)) → IsUnlabelled (codes "ttl=") words → IsUnlabelled (codes "ttl=") (labelled_words (codes "max=") max ++ words)
unfolding first_behind behind labelled
max-unlabelled None words other = other
max-unlabelled (Some most) words other = refl

fetch_of-again : (event : FetchEvent) → IsFetch event → fetch_of (fetch_words event) ≡ Some event
unfolding fetch_of
fetch_of-again event is =
    let no_ttl = max-unlabelled event.max (map specifier_text event.specifiers) (specifiers-unlabelled 116 (codes "tl=") event.specifiers elsewhere_t is.specifiers) in
    let no_max = specifiers-unlabelled 109 (codes "ax=") event.specifiers elsewhere_m is.specifiers in
    rw (
      fetch_words-is event is,
      address_of-again (fetch_address event) (fetch_rest event) is.address,
      optional_of-again (codes "ttl=") 255 event.ttl (limited_rest event) (omega arith) (limited_to 255 event.ttl is.ttl) no_ttl,
      optional_of-again (codes "max=") (2 ^ 32 - 1) event.max (map specifier_text event.specifiers) (omega arith) (limited_to (2 ^ 32 - 1) event.max is.max) no_max,
      (each_codec specifier_of specifier_text IsSpecifier specifier_codec).again event.specifiers is.specifiers,
      is.asked,
    ) (ap Some (λ i. record event { seq = sym is.seq i }))

pub fetch_codec : IsCodec fetch_of fetch_words IsFetch
fetch_codec = record { takes = fetch_of-takes; again = fetch_of-again }

specifiers-lack : (specifiers : List SpecifierWord) → AllByRecursion IsSpecifier specifiers → AllLack 32 (map specifier_text specifiers)
specifiers-lack [] all = tt
specifiers-lack (specifier ∷ specifiers) all = (specifier_text-lacks 32 specifier elsewhere_space all.0, specifiers-lack specifiers all.1)

pub fetch-lacks : (e : FetchEvent) → IsFetch e → AllLack 32 (fetch_words e)
fetch-lacks e is =
    let max = optional-lacks (codes "max=") (2 ^ 32 - 1) e.max (map specifier_text e.specifiers) (omega arith) (Lacks-fixed 32 (codes "max=") refl) is.max (specifiers-lack e.specifiers is.specifiers) in
    let rest = optional-lacks (codes "ttl=") 255 e.ttl (limited_rest e) (omega arith) (Lacks-fixed 32 (codes "ttl=") refl) is.ttl max in
    subst (AllLack 32) (sym (fetch_words-is e is)) (address-lacks (fetch_address e) (fetch_rest e) is.address rest)
