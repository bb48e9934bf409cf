-- What one decision makes of a slot of the one map.
use Rattle.std.proofs.Common.{◌≡◌, ◌≢◌, ℕ, ◌⊎◌, inl, inr, Bool, true, false, cond, eqb, List, [], ◌∷◌, ◌++◌, flat_map, ◌&&◌, refl, sym, ap, ap₂, ◌∙◌, subst, ⊎_elim}
use Rattle.std.proofs.lemmas.Bool.{cond-false, cases_eq, ne_eqb}
use Rattle.std.specs.List.{list_any}
use Rattle.data_models.specs.declared.config.Config.{Config}
use Rattle.storage_model.specs.declared.request.AskedKind.{AskedKind}
use Rattle.storage_model.specs.declared.request.Asked.{Asked}
use Rattle.storage_model.specs.declared.request.Asked.TheVariants.{Store}
use Rattle.storage_model.specs.Records.{SlotEntry, Kinds, Record, Map, record_in, kind_in, slot_in, swept_slot}
use Rattle.storage_model.specs.Requests.{puts}
use Rattle.storage_model.specs.Puts.{kinds_after}
use Rattle.storage_model.specs.Decisions.{Decision, Put, effect_on, map_after, kinds_of, kind_puts, puts_of, puts_in}
use Rattle.storage_model.specs.Laws.{IsSoundAsked, kind_at}
use Rattle.storage_model.proofs.KindLaws.{AreApart}
use Rattle.storage_model.proofs.PutLaws.{slot_after, accepted_slot, no_puts, kind_puts-elsewhere, puts_in-append}
use Rattle.storage_model.proofs.Effects.{Stays, Accepts, effect_is, record_in-same, record_in-other}
use Rattle.storage_model.proofs.Causes.{sound_apart}

-- a slot after values were put, where its own may have left before because it was expired
abbrev pub SlotStep : ℕ → SlotEntry → List Put → SlotEntry → Type 0
SlotStep now s ps t = (t ≡ slot_after s ps) ⊎ (t ≡ slot_after (swept_slot now s) ps)

-- what is put is the values of the kinds, also where there are none
puts_of-acting : (b : Bool) (kinds : Kinds) (d : Decision) (asked : List AskedKind) → b ≡ list_any puts asked → cond b (flat_map (kind_puts kinds d) asked) [] ≡ flat_map (kind_puts kinds d) asked
puts_of-acting true kinds d asked e = refl
puts_of-acting false kinds d asked e = sym (no_puts kinds d asked (sym e))

-- a kind's puts stand at the decision's resource
elsewhere : (kinds : Kinds) (d : Decision) (r kind : ℕ) (key : List ℕ) (asked : List AskedKind) → d.resource ≢ r → puts_in r kind key (flat_map (kind_puts kinds d) asked) ≡ []
unfolding puts_in
elsewhere kinds d r kind key [] n = refl
elsewhere kinds d r kind key (a ∷ asked) n =
    puts_in-append r kind key (kind_puts kinds d a) (flat_map (kind_puts kinds d) asked)
    ∙ ap₂ (λ ps qs. ps ++ qs) (kind_puts-elsewhere kinds d r kind key a (ap (λ b. b && eqb a.kind kind) (ne_eqb d.resource r n))) (elsewhere kinds d r kind key asked n)

pub gated : (b : Bool) (r kind : ℕ) (key : List ℕ) (ps : List Put) → puts_in r kind key ps ≡ [] → puts_in r kind key (cond b ps []) ≡ []
unfolding puts_in
gated true r kind key ps e = e
gated false r kind key ps e = refl

pub puts_of-elsewhere : (m : Map) (d : Decision) (r kind : ℕ) (key : List ℕ) → d.resource ≢ r → puts_in r kind key (puts_of m d) ≡ []
unfolding puts_of
puts_of-elsewhere m d r kind key n = gated (effect_on m d).acted r kind key _ (elsewhere (record_in m d.resource).kinds d r kind key (kinds_of d.asked) n)

-- what acts puts something
pub puts_of-still : (m : Map) (d : Decision) → (effect_on m d).acted ≡ false → puts_of m d ≡ []
unfolding puts_of
puts_of-still m d e = cond-false _ (flat_map (kind_puts (record_in m d.resource).kinds d) (kinds_of d.asked)) [] e

pub puts_of-accepted : (m : Map) (d : Decision) → Accepts d.config d.time d.resource (record_in m d.resource) d.asked (effect_on m d) → puts_of m d ≡ flat_map (kind_puts (record_in m d.resource).kinds d) (kinds_of d.asked)
unfolding puts_of
puts_of-accepted m d a = puts_of-acting (effect_on m d).acted (record_in m d.resource).kinds d (kinds_of d.asked) (a.acts ∙ ap (λ asked. list_any puts (kinds_of asked)) (sym a.is_store))

-- a Store that makes sense names its kinds once
pub apart_at : (config : Config) (asked : Asked) → IsSoundAsked config asked → AreApart (kinds_of asked)
apart_at config (Store q) s = sound_apart config q s
apart_at config asked s = tt

here : (m : Map) (d : Decision) (kind : ℕ) (key : List ℕ) → IsSoundAsked d.config d.asked
    → SlotStep d.time (slot_in (kind_at m d.resource kind).slots key) (puts_in d.resource kind key (puts_of m d)) (slot_in (kind_at (map_after m d) d.resource kind).slots key)
unfolding puts_in
here m d kind key s =
    let x : Record = record_in m d.resource in
    let same = ap (λ (y : Record). slot_in (kind_in y.kinds kind).slots key) (record_in-same m d.resource (effect_on m d).next) in
    ⊎_elim
    (λ (h : Stays x (effect_on m d)).
    inl (same ∙ ap (λ kinds. slot_in (kind_in kinds kind).slots key) h.kinds
    ∙ sym (ap (λ ps. slot_after (slot_in (kind_in x.kinds kind).slots key) (puts_in d.resource kind key ps)) (puts_of-still m d h.still))))
    (λ (a : Accepts d.config d.time d.resource x d.asked (effect_on m d)).
    inr (same ∙ ap (λ kinds. slot_in (kind_in kinds kind).slots key) (a.kinds ∙ ap (λ asked. kinds_after d.time x.kinds (kinds_of asked)) (sym a.is_store))
    ∙ accepted_slot x.kinds d kind key (kinds_of d.asked) (apart_at d.config d.asked s)
    ∙ sym (ap (λ ps. slot_after (swept_slot d.time (slot_in (kind_in x.kinds kind).slots key)) (puts_in d.resource kind key ps)) (puts_of-accepted m d a))))
    (effect_is d.config d.time d.resource x d.origin d.id d.asked)

pub slot_step : (m : Map) (d : Decision) (r kind : ℕ) (key : List ℕ) → IsSoundAsked d.config d.asked
    → SlotStep d.time (slot_in (kind_at m r kind).slots key) (puts_in r kind key (puts_of m d)) (slot_in (kind_at (map_after m d) r kind).slots key)
slot_step m d r kind key s =
    ⊎_elim
    (λ (e : d.resource ≡ r). subst (λ i. SlotStep d.time (slot_in (kind_at m i kind).slots key) (puts_in i kind key (puts_of m d)) (slot_in (kind_at (map_after m d) i kind).slots key)) e (here m d kind key s))
    (λ (n : d.resource ≢ r).
    inl (ap (λ (y : Record). slot_in (kind_in y.kinds kind).slots key) (record_in-other m d.resource (effect_on m d).next r (λ e. n (sym e)))
    ∙ sym (ap (slot_after (slot_in (kind_at m r kind).slots key)) (puts_of-elsewhere m d r kind key n))))
    (cases_eq d.resource r)
