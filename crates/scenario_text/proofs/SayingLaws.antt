-- A line says what its words spell, and nothing else.
use Rattle.std.proofs.Common.{◌≡◌, ℕ, List, [], ◌∷◌, Option, Some, None, refl, sym, ap, subst, ◌∙◌, arith}
use Rattle.std.specs.Prelude.{codes}
use Rattle.std.proofs.lemmas.Option.{same_Some}
use Rattle.text_words.specs.Codec.{IsCodec}
use Rattle.text_words.specs.Lines.{line_of, words_of}
use Rattle.text_words.specs.Name.{IsName}
use Rattle.text_words.specs.Separator.{Lacks}
use Rattle.text_words.specs.Steps.{◌>>=◌, first_of, fixed_of}
use Rattle.text_words.proofs.CodecLaws.{fixed_codec, pieced_codec}
use Rattle.text_words.proofs.Lacking.{decimal-has_no, name-has_no, Lacks-fixed}
use Rattle.text_words.proofs.PiecesLaws.{AreJoined}
use Rattle.text_words.proofs.StepsLaws.{bind_some, first_of-takes}
use Rattle.request_words.specs.declared.node.DeclaredNode.{DeclaredNode}
use Rattle.request_words.specs.declared.node.Role.{Role}
use Rattle.request_words.specs.declared.node.Role.TheVariants.{Peer, Client, Hostile}
use Rattle.scenario_text.specs.declared.scenario.EventKind.{EventKind}
use Rattle.scenario_text.specs.declared.scenario.EventKind.TheVariants.{Clock, Deliver, Lose, Drain, Store, Fetch}
use Rattle.scenario_text.specs.declared.saying.Declaration.{Declaration}
use Rattle.scenario_text.specs.declared.saying.Declaration.TheVariants.{Kind, Node}
use Rattle.scenario_text.specs.declared.saying.Saying.{Saying}
use Rattle.scenario_text.specs.declared.saying.Saying.TheVariants as said
use Rattle.scenario_text.specs.declared.form.Form.{Form}
use Rattle.scenario_text.specs.declared.form.Form.TheVariants as forms
use Rattle.scenario_text.specs.Forms.{form_of, form_text}
use Rattle.scenario_text.specs.Forms as all
use Rattle.scenario_text.specs.Lines.Node.{node_of, node_words, IsNode}
use Rattle.scenario_text.specs.Sayings.{role_text, declaration_words, event_words, saying_words, IsRole, IsDeclaration, IsEvent, IsSaying, said_node, saying_in, saying_of}
use Rattle.scenario_text.proofs.DeclarationLaws.{overlay_codec, kind_codec, kind-lacks, node_of-takes, node_of-again, node-lacks}
use Rattle.scenario_text.proofs.EventLaws.{clock_codec, deliver_codec, lose_codec, drain_codec, store_codec, store-lacks, fetch_codec, fetch-lacks}

-- ---- first words

form-again : (form : Form) → fixed_of form_text all.forms (form_text form) ≡ Some form
unfolding form_text
form-again forms.Overlay = refl
form-again forms.Kind = refl
form-again forms.Peer = refl
form-again forms.Client = refl
form-again forms.Clock = refl
form-again forms.Deliver = refl
form-again forms.Lose = refl
form-again forms.Drain = refl
form-again forms.Store = refl
form-again forms.Fetch = refl

form_codec : IsCodec form_of form_text (λ _. Unit {0})
unfolding form_of
form_codec = fixed_codec form_text all.forms form-again

-- ---- what each form says

-- words behind a first one spell what was said
abbrev SpellsSaying : Form → List (List ℕ) → Saying → Type 0
SpellsSaying form words saying = IsSaying saying × (form_text form ∷ words ≡ saying_words saying)

-- what a codec of a form's words says
said_by : {A : Type 0} (form : Form) (of : List (List ℕ) → Option A) (text : A → List (List ℕ)) (Fits : A → Type 0) (make : A → Saying) → IsCodec of text Fits
    → ((x : A) → Fits x → IsSaying (make x)) → ((x : A) → saying_words (make x) ≡ form_text form ∷ text x) → (words : List (List ℕ)) (saying : Saying) → (of words >>= λ x. Some (make x)) ≡ Some saying → SpellsSaying form words saying
said_by form of text Fits make codec fits spells words saying e =
    let a = bind_some (of words) _ saying e in
    let read = codec.takes words a.0 a.1 in
    subst (SpellsSaying form words) (same_Some (make a.0) saying a.2)
    (fits a.0 read.0, ap (λ (rest : List (List ℕ)). form_text form ∷ rest) read.1 ∙ sym (spells a.0))

-- the form of a declared role
role_form : Role → Form
role_form Peer = forms.Peer
role_form Client = forms.Client
role_form Hostile = forms.Peer

role_text-form : (role : Role) → IsRole role → role_text role ≡ form_text (role_form role)
unfolding role_text form_text role_form
role_text-form Peer is = refl
role_text-form Client is = refl
role_text-form Hostile is = absurd is

node-said : (role : Role) → IsRole role → (words : List (List ℕ)) (saying : Saying) → said_node role words ≡ Some saying → SpellsSaying (role_form role) words saying
node-said role is words saying e =
    let a = bind_some (node_of role words) _ saying e in
    let read = node_of-takes role words a.0 a.1 in
    let role_is : IsRole a.0.role = subst IsRole (sym read.0) is in
    subst (SpellsSaying (role_form role) words) (same_Some (said.Declaration (Node a.0)) saying a.2)
    ((role_is, read.1), (λ i. sym (role_text-form role is) i ∷ read.2 i) ∙ ap (λ (r : Role). role_text r ∷ node_words a.0) (sym read.0))

saying_in-takes : (form : Form) (words : List (List ℕ)) (saying : Saying) → saying_in form words ≡ Some saying → SpellsSaying form words saying
unfolding saying_in role_form
saying_in-takes forms.Overlay words saying e = said_by forms.Overlay _ _ IsName said.Overlay overlay_codec (λ x is. is) (λ x. refl) words saying e
saying_in-takes forms.Kind words saying e = said_by forms.Kind _ _ _ (λ kind. said.Declaration (Kind kind)) kind_codec (λ x is. is) (λ x. refl) words saying e
saying_in-takes forms.Peer words saying e = node-said Peer tt words saying e
saying_in-takes forms.Client words saying e = node-said Client tt words saying e
saying_in-takes forms.Clock words saying e = said_by forms.Clock _ _ _ (λ ms. said.Event (Clock ms)) clock_codec (λ x is. is) (λ x. refl) words saying e
saying_in-takes forms.Deliver words saying e = said_by forms.Deliver _ _ _ (λ k. said.Event (Deliver k)) deliver_codec (λ x is. is) (λ x. refl) words saying e
saying_in-takes forms.Lose words saying e = said_by forms.Lose _ _ _ (λ k. said.Event (Lose k)) lose_codec (λ x is. is) (λ x. refl) words saying e
saying_in-takes forms.Drain words saying e = said_by forms.Drain _ _ _ (λ n. said.Event (Drain n)) drain_codec (λ x is. is) (λ x. refl) words saying e
saying_in-takes forms.Store words saying e = said_by forms.Store _ _ _ (λ s. said.Event (Store s)) store_codec (λ x is. is) (λ x. refl) words saying e
saying_in-takes forms.Fetch words saying e = said_by forms.Fetch _ _ _ (λ f. said.Event (Fetch f)) fetch_codec (λ x is. is) (λ x. refl) words saying e

saying_of-takes : (words : List (List ℕ)) (saying : Saying) → saying_of words ≡ Some saying → IsSaying saying × (words ≡ saying_words saying)
unfolding saying_of
saying_of-takes words saying e =
    let a = bind_some (first_of words) _ saying e in
    let b = bind_some (form_of a.0.0) _ saying a.2 in
    let form = form_codec.takes a.0.0 b.0 b.1 in
    let read = saying_in-takes b.0 a.0.1 saying b.2 in
    (read.0, first_of-takes words a.0.0 a.0.1 a.1 ∙ ap (λ (first : List ℕ). first ∷ a.0.1) form.1 ∙ read.1)

-- ---- and backwards

-- the words of a form say what its codec reads
form-says : (form : Form) (words : List (List ℕ)) (saying : Saying) → saying_in form words ≡ Some saying → saying_of (form_text form ∷ words) ≡ Some saying
unfolding saying_of
form-says form words saying e = ap (λ (f : Option Form). f >>= λ g. saying_in g words) (form_codec.again form tt) ∙ e

node-again : (node : DeclaredNode) → IsRole node.role → IsNode node → saying_in (role_form node.role) (node_words node) ≡ Some (said.Declaration (Node node))
unfolding saying_in role_form
node-again node role is = by_role node.role role refl
  where
    by_role : (r : Role) → IsRole r → node.role ≡ r → saying_in (role_form r) (node_words node) ≡ Some (said.Declaration (Node node))
    by_role Peer role same = ap (λ (found : Option DeclaredNode). found >>= λ n. Some (said.Declaration (Node n))) (ap (λ (r : Role). node_of r (node_words node)) (sym same) ∙ node_of-again node is)
    by_role Client role same = ap (λ (found : Option DeclaredNode). found >>= λ n. Some (said.Declaration (Node n))) (ap (λ (r : Role). node_of r (node_words node)) (sym same) ∙ node_of-again node is)
    by_role Hostile role same = absurd role

in-again : (saying : Saying) → IsSaying saying → saying_of (saying_words saying) ≡ Some saying
unfolding saying_in
in-again (said.Overlay name) is = form-says forms.Overlay _ _ (rw (overlay_codec.again name is) refl)
in-again (said.Declaration (Kind kind)) is = form-says forms.Kind _ _ (rw (kind_codec.again kind is) refl)
in-again (said.Declaration (Node node)) is = ap (λ (first : List ℕ). saying_of (first ∷ node_words node)) (role_text-form node.role is.0) ∙ form-says (role_form node.role) (node_words node) (said.Declaration (Node node)) (node-again node is.0 is.1)
in-again (said.Event (Clock ms)) is = form-says forms.Clock _ _ (rw (clock_codec.again ms is) refl)
in-again (said.Event (Deliver k)) is = form-says forms.Deliver _ _ (rw (deliver_codec.again k is) refl)
in-again (said.Event (Lose k)) is = form-says forms.Lose _ _ (rw (lose_codec.again k is) refl)
in-again (said.Event (Drain n)) is = form-says forms.Drain _ _ (rw (drain_codec.again n is) refl)
in-again (said.Event (Store s)) is = form-says forms.Store _ _ (rw (store_codec.again s is) refl)
in-again (said.Event (Fetch f)) is = form-says forms.Fetch _ _ (rw (fetch_codec.again f is) refl)

words_codec : IsCodec saying_of saying_words IsSaying
words_codec = record { takes = saying_of-takes; again = in-again }

-- ---- whole lines

form_text-lacks : (form : Form) → Lacks 32 (form_text form)
unfolding form_text
form_text-lacks forms.Overlay = Lacks-fixed 32 (codes "overlay") refl
form_text-lacks forms.Kind = Lacks-fixed 32 (codes "kind") refl
form_text-lacks forms.Peer = Lacks-fixed 32 (codes "peer") refl
form_text-lacks forms.Client = Lacks-fixed 32 (codes "client") refl
form_text-lacks forms.Clock = Lacks-fixed 32 (codes "clock") refl
form_text-lacks forms.Deliver = Lacks-fixed 32 (codes "deliver") refl
form_text-lacks forms.Lose = Lacks-fixed 32 (codes "lose") refl
form_text-lacks forms.Drain = Lacks-fixed 32 (codes "drain") refl
form_text-lacks forms.Store = Lacks-fixed 32 (codes "store") refl
form_text-lacks forms.Fetch = Lacks-fixed 32 (codes "fetch") refl

role_text-lacks : (role : Role) → Lacks 32 (role_text role)
unfolding role_text
role_text-lacks Peer = Lacks-fixed 32 (codes "peer") refl
role_text-lacks Client = Lacks-fixed 32 (codes "client") refl
role_text-lacks Hostile = Lacks-fixed 32 (codes "hostile") refl

saying-joined : (saying : Saying) → IsSaying saying → AreJoined 32 (saying_words saying)
saying-joined (said.Overlay name) is = (form_text-lacks forms.Overlay, (name-has_no 32 name is refl, tt))
saying-joined (said.Declaration (Kind kind)) is = (form_text-lacks forms.Kind, kind-lacks kind is)
saying-joined (said.Declaration (Node node)) is = (role_text-lacks node.role, node-lacks node is.1)
saying-joined (said.Event (Clock ms)) is = (form_text-lacks forms.Clock, (decimal-has_no 32 ms (omega (arith, is.1)) refl, tt))
saying-joined (said.Event (Deliver k)) is = (form_text-lacks forms.Deliver, (decimal-has_no 32 k (omega (arith, is)) refl, tt))
saying-joined (said.Event (Lose k)) is = (form_text-lacks forms.Lose, (decimal-has_no 32 k (omega (arith, is)) refl, tt))
saying-joined (said.Event (Drain n)) is = (form_text-lacks forms.Drain, (decimal-has_no 32 n (omega (arith, is.1)) refl, tt))
saying-joined (said.Event (Store s)) is = (form_text-lacks forms.Store, store-lacks s is)
saying-joined (said.Event (Fetch f)) is = (form_text-lacks forms.Fetch, fetch-lacks f is)

-- a line says exactly what its words spell
pub saying_codec : IsCodec (λ line. saying_of (words_of line)) (λ saying. line_of (saying_words saying)) IsSaying
saying_codec = pieced_codec 32 saying_of saying_words IsSaying words_codec saying-joined
