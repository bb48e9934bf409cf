-- What holds of a Store that no cause refuses, and of one that makes sense.
use Rattle.std.proofs.Common.{◌≡◌, ℕ, Bool, true, false, not, eqb, List, [], ◌∷◌, option_map, Some, None, nat_lt, is_some, refl, sym, ap, ◌∙◌, true≢false}
use Rattle.std.proofs.lemmas.Bool.{and_parts, eq-eqb}
use Rattle.std.specs.List.{list_any, list_all}
use Rattle.data_models.specs.declared.config.Config.{Config}
use Rattle.storage_model.specs.declared.limits.TheConstants.{MAX_WEIGHT}
use Rattle.storage_model.specs.declared.refusal.Refusal.{Refusal}
use Rattle.storage_model.specs.declared.refusal.Refusal.TheVariants.{Forbidden, GenerationCounterTooLow, DataTooLarge, DataTooOld, UnknownKind, UnknownExtension, ConfigTooOld, ConfigTooNew}
use Rattle.storage_model.specs.declared.request.AskedKind.{AskedKind}
use Rattle.storage_model.specs.declared.request.StoreAsked.{StoreAsked}
use Rattle.storage_model.specs.Records.{Kinds, weight}
use Rattle.storage_model.specs.Refusals.{Cause, first_cause, sequence_causes}
use Rattle.storage_model.specs.Requests.{is_sound, is_sound_kind, has_twice}
use Rattle.storage_model.specs.Puts.{kinds_after}
use Rattle.storage_model.specs.Verdict.{store_causes, record_causes, is_forbidden, is_unknown, is_too_old, is_too_large}
use Rattle.storage_model.proofs.KindLaws.{AreApart, NamesNot}
use Rattle.storage_model.proofs.Truths.{or_parts, not_true}

some_not_none : (c : Cause) → option_map (λ (d : Cause). d.0) (Some c) ≡ None → ⊥
some_not_none c e = true≢false (ap is_some e)

-- no cause holds: not the first, and none of the others
first_none : (refusal : Refusal) (holds : Bool) (cs : List Cause) → first_cause ((refusal, holds) ∷ cs) ≡ None → (holds ≡ false) × (first_cause cs ≡ None)
unfolding first_cause
first_none refusal true cs e = absurd (some_not_none (refusal, true) e)
first_none refusal false cs e = (refl, e)

-- what holds of a Store that isn't refused
pub record IsCauseless (config : Config) (now resource : ℕ) (kinds : Kinds) (q : StoreAsked) : Type 0 where
  pub known : list_any (is_unknown config) q.kinds ≡ false
  pub permitted : list_any (is_forbidden config resource) q.kinds ≡ false
  pub newer : list_any (is_too_old kinds) q.kinds ≡ false
  pub small : list_any (is_too_large config (kinds_after now kinds q.kinds)) q.kinds ≡ false
  pub light : nat_lt MAX_WEIGHT (weight (kinds_after now kinds q.kinds)) ≡ false

pub causeless : (config : Config) (now resource : ℕ) (kinds : Kinds) (q : StoreAsked) → first_cause (store_causes config now resource kinds q) ≡ None → IsCauseless config now resource kinds q
unfolding sequence_causes record_causes
causeless config now resource kinds q e =
    let a = first_none ConfigTooOld _ _ e in
    let b = first_none ConfigTooNew _ _ a.1 in
    let c = first_none UnknownExtension _ _ b.1 in
    let d = first_none UnknownKind _ _ c.1 in
    let f = first_none Forbidden _ _ d.1 in
    let g = first_none GenerationCounterTooLow _ _ f.1 in
    let h = first_none DataTooOld _ _ g.1 in
    let i = first_none DataTooLarge _ _ h.1 in
    let large = or_parts _ _ i.0 in
    record { known = d.0; permitted = f.0; newer = h.0; small = large.0; light = large.1 }

-- no later kind is this one
named_not : (a : AskedKind) (asked : List AskedKind) → list_any (λ (b : AskedKind). eqb a.kind b.kind) asked ≡ false → NamesNot a.kind asked
named_not a [] e = tt
named_not a (b ∷ asked) e =
    let parts = or_parts (eqb a.kind b.kind) _ e in
    (λ same. true≢false (sym (eq-eqb a.kind b.kind same) ∙ parts.0), named_not a asked parts.1)

apart_of : (asked : List AskedKind) → has_twice (λ (a b : AskedKind). eqb a.kind b.kind) asked ≡ false → AreApart asked
unfolding has_twice
apart_of [] e = tt
apart_of (a ∷ asked) e =
    let parts = or_parts (list_any (λ (b : AskedKind). eqb a.kind b.kind) asked) _ e in
    (named_not a asked parts.0, apart_of asked parts.1)

-- a Store that makes sense names its kinds once, and each soundly
pub sound_apart : (config : Config) (q : StoreAsked) → is_sound config q ≡ true → AreApart q.kinds
unfolding is_sound
sound_apart config q e = apart_of q.kinds (not_true _ (and_parts _ _ e).0)

pub sound_kinds : (config : Config) (q : StoreAsked) → is_sound config q ≡ true → list_all (is_sound_kind config) q.kinds ≡ true
unfolding is_sound
sound_kinds config q e = (and_parts (not (has_twice (λ (a b : AskedKind). eqb a.kind b.kind) q.kinds)) _ e).1
