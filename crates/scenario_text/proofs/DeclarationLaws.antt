-- The lines of declarations are read exactly where they are what they spell.
use Rattle.std.proofs.Common.{◌≡◌, ◌≢◌, ℕ, zero, suc, ◌-◌, ◌^◌, ◌<◌, ◌≤◌, Bool, true, false, ◌&&◌, List, [], ◌∷◌, Option, Some, None, refl, sym, ap, subst, ◌∙◌, arith}
use Rattle.std.specs.Prelude.{codes, ◌==◌, nat_le, nat_lt}
use Rattle.std.specs.Fmt.{decimal}
use Rattle.std.proofs.lemmas.Bool.{and_parts, eqb-true, leb-true, le-leb, ltb-true, lt-ltb}
use Rattle.std.proofs.lemmas.Option.{same_Some, some_pair_parts}
use Rattle.text_words.specs.Codec.{IsCodec}
use Rattle.text_words.specs.Decimal.{decimal_of, number_of}
use Rattle.text_words.specs.Id.{id_of, id_text}
use Rattle.text_words.specs.Name.{is_name, IsName}
use Rattle.text_words.specs.Separator.{Lacks}
use Rattle.text_words.specs.Steps.{◌>>=◌, allowed, part_of, only_of, fixed_of}
use Rattle.text_words.proofs.CodecLaws.{fixed_codec, tested_codec}
use Rattle.text_words.proofs.DecimalLaws.{decimal_codec, number_codec}
use Rattle.text_words.proofs.IdLaws.{id_codec}
use Rattle.text_words.proofs.Lacking.{decimal-has_no, id_text-has_no, name-has_no, Lacks-fixed}
use Rattle.text_words.proofs.NameLaws.{is_name-IsName}
use Rattle.text_words.proofs.PiecesLaws.{AllLack}
use Rattle.text_words.proofs.StepsLaws.{bind_some, allowed_some, part_of-takes, only_of-takes, only_of-again, only_codec}
use Rattle.access_policy.specs.declared.Policy.{Policy}
use Rattle.access_policy.specs.declared.Policy.TheVariants.{UserMatch, NodeMatch, UserNodeMatch, NodeMultiple}
use Rattle.data_models.specs.declared.config.TheConstants.{MAX_COUNT, MAX_SIZE, MAX_MULTIPLE}
use Rattle.data_models.specs.declared.config.DataModel.{DataModel}
use Rattle.data_models.specs.declared.config.DataModel.TheVariants.{Single, Array, Dictionary}
use Rattle.data_models.specs.declared.config.KindDef.{KindDef}
use Rattle.data_models.specs.Configs.{IsKind, IsMultiple}
use Rattle.request_words.specs.declared.node.TheConstants.{MAX_NUMBER}
use Rattle.request_words.specs.declared.node.DeclaredNode.{DeclaredNode}
use Rattle.request_words.specs.declared.node.Role.{Role}
use Rattle.scenario_text.specs.Lines.Overlay.{name_of, overlay_of, overlay_words}
use Rattle.scenario_text.specs.Lines.Kind.{model_of, model_text, policy_of, policy_text, is_keyed, is_multiple, kind_of, kind_words, limits_in, IsKindLine}
use Rattle.scenario_text.specs.Lines.Node.{node_id_of, node_of, node_parts, node_words, IsNode}

-- ---- names

pub name_codec : IsCodec name_of (λ name. name) IsName
unfolding name_of
name_codec = tested_codec is_name IsName is_name-IsName

pub overlay_codec : IsCodec overlay_of overlay_words IsName
unfolding overlay_of
overlay_codec = only_codec name_of (λ name. name) IsName name_codec

-- ---- kinds

model-again : (model : DataModel) → fixed_of model_text (Single ∷ Array ∷ Dictionary ∷ []) (model_text model) ≡ Some model
unfolding model_text
model-again Single = refl
model-again Array = refl
model-again Dictionary = refl

model_codec : IsCodec model_of model_text (λ _. Unit {0})
unfolding model_of
model_codec = fixed_codec model_text (Single ∷ Array ∷ Dictionary ∷ []) model-again

policy-again : (policy : Policy) → fixed_of policy_text (UserMatch ∷ NodeMatch ∷ UserNodeMatch ∷ NodeMultiple ∷ []) (policy_text policy) ≡ Some policy
unfolding policy_text
policy-again UserMatch = refl
policy-again NodeMatch = refl
policy-again UserNodeMatch = refl
policy-again NodeMultiple = refl

policy_codec : IsCodec policy_of policy_text (λ _. Unit {0})
unfolding policy_of
policy_codec = fixed_codec policy_text (UserMatch ∷ NodeMatch ∷ UserNodeMatch ∷ NodeMultiple ∷ []) policy-again

-- the test of a number of resources
multiple-takes : (policy : Policy) (multiple : ℕ) → is_multiple policy multiple ≡ true → multiple ≤ MAX_MULTIPLE → IsMultiple policy multiple
multiple-takes NodeMultiple multiple e most = (leb-true 1 multiple e, most)
multiple-takes UserMatch multiple e most = eqb-true multiple 0 e
multiple-takes NodeMatch multiple e most = eqb-true multiple 0 e
multiple-takes UserNodeMatch multiple e most = eqb-true multiple 0 e

multiple-again : (policy : Policy) (multiple : ℕ) → IsMultiple policy multiple → (is_multiple policy multiple ≡ true) × (multiple ≤ MAX_MULTIPLE)
multiple-again NodeMultiple multiple is = (le-leb 1 multiple is.0, is.1)
multiple-again UserMatch multiple is = (rw is refl, omega (arith, is))
multiple-again NodeMatch multiple is = (rw is refl, omega (arith, is))
multiple-again UserNodeMatch multiple is = (rw is refl, omega (arith, is))

-- the test of a policy and a model
keyed-takes : (policy : Policy) (model : DataModel) → is_keyed policy model ≡ true → policy ≡ UserNodeMatch → model ≡ Dictionary
keyed-takes UserNodeMatch Single e same = absurd cc
keyed-takes UserNodeMatch Array e same = absurd cc
keyed-takes UserNodeMatch Dictionary e same = refl
keyed-takes UserMatch model e same = absurd cc
keyed-takes NodeMatch model e same = absurd cc
keyed-takes NodeMultiple model e same = absurd cc

keyed-again : (policy : Policy) (model : DataModel) → (policy ≡ UserNodeMatch → model ≡ Dictionary) → is_keyed policy model ≡ true
keyed-again UserNodeMatch Single keyed = let no : Single ≡ Dictionary = keyed refl in absurd cc
keyed-again UserNodeMatch Array keyed = let no : Array ≡ Dictionary = keyed refl in absurd cc
keyed-again UserNodeMatch Dictionary keyed = refl
keyed-again UserMatch Single keyed = refl
keyed-again UserMatch Array keyed = refl
keyed-again UserMatch Dictionary keyed = refl
keyed-again NodeMatch Single keyed = refl
keyed-again NodeMatch Array keyed = refl
keyed-again NodeMatch Dictionary keyed = refl
keyed-again NodeMultiple Single keyed = refl
keyed-again NodeMultiple Array keyed = refl
keyed-again NodeMultiple Dictionary keyed = refl

-- two tests that both hold
both : (a b : Bool) → a ≡ true → b ≡ true → (a && b) ≡ true
both a b is_a is_b = rw (is_a, is_b) refl

limits_in-takes : (words : List (List ℕ)) (limits : ℕ × ℕ × ℕ) → limits_in words ≡ Some limits
    → (((1 ≤ limits.0) × (limits.0 ≤ MAX_COUNT)) × (limits.1 ≤ MAX_SIZE) × (limits.2 ≤ MAX_MULTIPLE)) × (words ≡ decimal limits.0 ∷ decimal limits.1 ∷ decimal limits.2 ∷ [])
unfolding limits_in
limits_in-takes words limits e =
    let a = bind_some (part_of (number_of 1 MAX_COUNT) words) _ limits e in
    let b = bind_some (part_of (decimal_of MAX_SIZE) a.0.1) _ limits a.2 in
    let c = bind_some (only_of (decimal_of MAX_MULTIPLE) b.0.1) _ limits b.2 in
    let count = part_of-takes (number_of 1 MAX_COUNT) decimal (λ n. (1 ≤ n) × (n ≤ MAX_COUNT)) (number_codec 1 MAX_COUNT (omega arith)) words a.0.0 a.0.1 a.1 in
    let size = part_of-takes (decimal_of MAX_SIZE) decimal (λ n. n ≤ MAX_SIZE) (decimal_codec MAX_SIZE (omega arith)) a.0.1 b.0.0 b.0.1 b.1 in
    let multiple = only_of-takes (decimal_of MAX_MULTIPLE) decimal (λ n. n ≤ MAX_MULTIPLE) (decimal_codec MAX_MULTIPLE (omega arith)) b.0.1 c.0 c.1 in
    subst (λ (l : ℕ × ℕ × ℕ). (((1 ≤ l.0) × (l.0 ≤ MAX_COUNT)) × (l.1 ≤ MAX_SIZE) × (l.2 ≤ MAX_MULTIPLE)) × (words ≡ decimal l.0 ∷ decimal l.1 ∷ decimal l.2 ∷ []))
    (same_Some (a.0.0, b.0.0, c.0) limits c.2)
    ((count.0, size.0, multiple.0), count.1 ∙ ap (λ (more : List (List ℕ)). decimal a.0.0 ∷ more) (size.1 ∙ ap (λ (more : List (List ℕ)). decimal b.0.0 ∷ more) multiple.1))

limits_in-again : (count size multiple : ℕ) → (1 ≤ count) × (count ≤ MAX_COUNT) → size ≤ MAX_SIZE → multiple ≤ MAX_MULTIPLE → limits_in (decimal count ∷ decimal size ∷ decimal multiple ∷ []) ≡ Some (count, size, multiple)
unfolding limits_in
limits_in-again count size multiple is_count is_size is_multiple =
    rw (
      (number_codec 1 MAX_COUNT (omega arith)).again count is_count,
      (decimal_codec MAX_SIZE (omega arith)).again size is_size,
      only_of-again (decimal_of MAX_MULTIPLE) decimal (λ n. n ≤ MAX_MULTIPLE) (decimal_codec MAX_MULTIPLE (omega arith)) multiple is_multiple,
    ) refl

kind_of-takes : (words : List (List ℕ)) (kind : KindDef) → kind_of words ≡ Some kind → IsKindLine kind × (words ≡ kind_words kind)
unfolding kind_of
kind_of-takes words kind e =
    let a = bind_some (part_of (decimal_of (2 ^ 32 - 1)) words) _ kind e in
    let b = bind_some (part_of model_of a.0.1) _ kind a.2 in
    let c = bind_some (part_of policy_of b.0.1) _ kind b.2 in
    let d = bind_some (limits_in c.0.1) _ kind c.2 in
    let f = bind_some (allowed (is_multiple c.0.0 d.0.2 && is_keyed c.0.0 b.0.0)) _ kind d.2 in
    let id = part_of-takes (decimal_of (2 ^ 32 - 1)) decimal (λ n. n ≤ 2 ^ 32 - 1) (decimal_codec (2 ^ 32 - 1) (omega arith)) words a.0.0 a.0.1 a.1 in
    let model = part_of-takes model_of model_text (λ _. Unit {0}) model_codec a.0.1 b.0.0 b.0.1 b.1 in
    let policy = part_of-takes policy_of policy_text (λ _. Unit {0}) policy_codec b.0.1 c.0.0 c.0.1 c.1 in
    let limits = limits_in-takes c.0.1 d.0 d.1 in
    let tests = and_parts (is_multiple c.0.0 d.0.2) (is_keyed c.0.0 b.0.0) (allowed_some (is_multiple c.0.0 d.0.2 && is_keyed c.0.0 b.0.0) f.0 f.1) in
    subst (λ (k : KindDef). IsKindLine k × (words ≡ kind_words k))
    (same_Some (record { id = a.0.0; model = b.0.0; policy = c.0.0; max_count = d.0.0; max_size = d.0.1; multiple = d.0.2 }) kind f.2) (
      (
        id.0,
        record {
          count_from = limits.0.0.0;
          count_to = limits.0.0.1;
          size = limits.0.1;
          multiple = multiple-takes c.0.0 d.0.2 tests.0 limits.0.2;
          keyed = keyed-takes c.0.0 b.0.0 tests.1;
        },
      ),
      id.1 ∙ ap (λ (more : List (List ℕ)). decimal a.0.0 ∷ more) (model.1 ∙ ap (λ (more : List (List ℕ)). model_text b.0.0 ∷ more) (policy.1 ∙ ap (λ (more : List (List ℕ)). policy_text c.0.0 ∷ more) limits.1)),
    )

kind_of-again : (kind : KindDef) → IsKindLine kind → kind_of (kind_words kind) ≡ Some kind
unfolding kind_of
kind_of-again kind is =
    let multiple = multiple-again kind.policy kind.multiple is.1.multiple in
    rw (
      (decimal_codec (2 ^ 32 - 1) (omega arith)).again kind.id is.0,
      model_codec.again kind.model tt,
      policy_codec.again kind.policy tt,
      limits_in-again kind.max_count kind.max_size kind.multiple (is.1.count_from, is.1.count_to) is.1.size multiple.1,
      both (is_multiple kind.policy kind.multiple) (is_keyed kind.policy kind.model) multiple.0 (keyed-again kind.policy kind.model is.1.keyed),
    ) refl

pub kind_codec : IsCodec kind_of kind_words IsKindLine
kind_codec = record { takes = kind_of-takes; again = kind_of-again }

model_text-lacks : (model : DataModel) → Lacks 32 (model_text model)
unfolding model_text
model_text-lacks Single = Lacks-fixed 32 (codes "single") refl
model_text-lacks Array = Lacks-fixed 32 (codes "array") refl
model_text-lacks Dictionary = Lacks-fixed 32 (codes "dictionary") refl

policy_text-lacks : (policy : Policy) → Lacks 32 (policy_text policy)
unfolding policy_text
policy_text-lacks UserMatch = Lacks-fixed 32 (codes "user-match") refl
policy_text-lacks NodeMatch = Lacks-fixed 32 (codes "node-match") refl
policy_text-lacks UserNodeMatch = Lacks-fixed 32 (codes "user-node-match") refl
policy_text-lacks NodeMultiple = Lacks-fixed 32 (codes "node-multiple") refl

pub kind-lacks : (kind : KindDef) → IsKindLine kind → AllLack 32 (kind_words kind)
kind-lacks kind is =
    let multiple = decimal-has_no 32 kind.multiple (omega (arith, (multiple-again kind.policy kind.multiple is.1.multiple).1)) refl in
    let size = decimal-has_no 32 kind.max_size (omega (arith, is.1.size)) refl in
    let count = decimal-has_no 32 kind.max_count (omega (arith, is.1.count_to)) refl in
    (decimal-has_no 32 kind.id (omega (arith, is.0)) refl, (model_text-lacks kind.model, (policy_text-lacks kind.policy, (count, (size, (multiple, tt))))))

-- ---- nodes

abbrev IsNodeId : ℕ → Type 0
IsNodeId id = (0 < id) × (id < 2 ^ 128 - 1)

node_id_of-takes : (word : List ℕ) (id : ℕ) → node_id_of word ≡ Some id → IsNodeId id × (word ≡ id_text id)
unfolding node_id_of
node_id_of-takes word id e =
    let a = bind_some (id_of word) _ id e in
    let b = bind_some (allowed (nat_lt 0 a.0 && nat_lt a.0 (2 ^ 128 - 1))) _ id a.2 in
    let tests = and_parts (nat_lt 0 a.0) (nat_lt a.0 (2 ^ 128 - 1)) (allowed_some (nat_lt 0 a.0 && nat_lt a.0 (2 ^ 128 - 1)) b.0 b.1) in
    subst (λ (n : ℕ). IsNodeId n × (word ≡ id_text n)) (same_Some a.0 id b.2) ((ltb-true 0 a.0 tests.0, ltb-true a.0 (2 ^ 128 - 1) tests.1), (id_codec.takes word a.0 a.1).1)

node_id_of-again : (id : ℕ) → IsNodeId id → node_id_of (id_text id) ≡ Some id
unfolding node_id_of
node_id_of-again id is = rw (id_codec.again id (omega (arith, is.1)), lt-ltb 0 id is.0, lt-ltb id (2 ^ 128 - 1) is.1) refl

node_id_codec : IsCodec node_id_of id_text IsNodeId
node_id_codec = record { takes = node_id_of-takes; again = node_id_of-again }

-- the three words of a node
abbrev IsParts : ℕ × ℕ × List ℕ → Type 0
IsParts node = ((1 ≤ node.0) × (node.0 ≤ MAX_NUMBER)) × IsNodeId node.1 × IsName node.2

abbrev parts_words : ℕ × ℕ × List ℕ → List (List ℕ)
parts_words node = decimal node.0 ∷ id_text node.1 ∷ node.2 ∷ []

node_parts-takes : (words : List (List ℕ)) (node : ℕ × ℕ × List ℕ) → node_parts words ≡ Some node → IsParts node × (words ≡ parts_words node)
unfolding node_parts
node_parts-takes words node e =
    let a = bind_some (part_of (number_of 1 MAX_NUMBER) words) _ node e in
    let b = bind_some (part_of node_id_of a.0.1) _ node a.2 in
    let c = bind_some (only_of name_of b.0.1) _ node b.2 in
    let number = part_of-takes (number_of 1 MAX_NUMBER) decimal (λ n. (1 ≤ n) × (n ≤ MAX_NUMBER)) (number_codec 1 MAX_NUMBER (omega arith)) words a.0.0 a.0.1 a.1 in
    let id = part_of-takes node_id_of id_text IsNodeId node_id_codec a.0.1 b.0.0 b.0.1 b.1 in
    let user = only_of-takes name_of (λ name. name) IsName name_codec b.0.1 c.0 c.1 in
    subst (λ (n : ℕ × ℕ × List ℕ). IsParts n × (words ≡ parts_words n)) (same_Some (a.0.0, b.0.0, c.0) node c.2)
    ((number.0, id.0, user.0), number.1 ∙ ap (λ (more : List (List ℕ)). decimal a.0.0 ∷ more) (id.1 ∙ ap (λ (more : List (List ℕ)). id_text b.0.0 ∷ more) user.1))

node_parts-again : (node : ℕ × ℕ × List ℕ) → IsParts node → node_parts (parts_words node) ≡ Some node
unfolding node_parts
node_parts-again (number, id, user) is =
    rw (
      (number_codec 1 MAX_NUMBER (omega arith)).again number is.0,
      node_id_codec.again id is.1,
      only_of-again name_of (λ name. name) IsName name_codec user is.2,
    ) refl

pub node_of-takes : (role : Role) (words : List (List ℕ)) (node : DeclaredNode) → node_of role words ≡ Some node → (node.role ≡ role) × IsNode node × (words ≡ node_words node)
unfolding node_of
node_of-takes role words node e =
    let a = bind_some (node_parts words) _ node e in
    let read = node_parts-takes words a.0 a.1 in
    subst (λ (n : DeclaredNode). (n.role ≡ role) × IsNode n × (words ≡ node_words n)) (same_Some (record { number = a.0.0; role = role; node = record { 0 = a.0.1 }; user = a.0.2 }) node a.2)
    (refl, record { number = read.0.0; id = read.0.1; user = read.0.2 }, read.1)

pub node_of-again : (node : DeclaredNode) → IsNode node → node_of node.role (node_words node) ≡ Some node
unfolding node_of
node_of-again node is = rw (node_parts-again (node.number, node.node.0, node.user) (is.number, is.id, is.user)) refl

pub node-lacks : (node : DeclaredNode) → IsNode node → AllLack 32 (node_words node)
node-lacks node is = (decimal-has_no 32 node.number (omega (arith, is.number.1)) refl, (id_text-has_no 32 node.node.0 refl, (name-has_no 32 node.user is.user refl, tt)))
