-- What a Fetch is given is what was put last.
use Rattle.std.proofs.Common.{◌≡◌, ℕ, ◌≤◌, ⊎_elim, Bool, true, false, cond, List, [], ◌∷◌, fold, Option, Some, None, nat_le, refl, sym, ap, ◌∙◌, le_trans, nat_cmp, unwrap_or}
use Rattle.std.proofs.lemmas.List.Sums.{fold-append}
use Rattle.std.proofs.lemmas.Bool.{cond-true, le-leb, leb-true}
use Rattle.std.specs.Option.{option_map_or}
use Rattle.std.specs.List.{AllByRecursion}
use Rattle.std.specs.FinMap.{empty, get-empty}
use Rattle.std.specs.Cmp.Lexicographic.{slice_cmp}
use Rattle.data_models.specs.declared.config.DataModel.{DataModel}
use Rattle.data_models.specs.declared.stored_data.SlotKey.{SlotKey}
use Rattle.data_models.specs.Stored.{key_of, gap}
use Rattle.storage_model.specs.declared.record.Held.{Held}
use Rattle.storage_model.specs.Records.{SlotEntry, Map, kind_in, slot_in, unexpired, swept_slot, empty_slot, empty_kind, empty_record}
use Rattle.storage_model.specs.Fetches.{given_for, found_of}
use Rattle.storage_model.specs.Decisions.{Decision, Put, map_after, puts_of, puts_from, puts_in}
use Rattle.storage_model.specs.Laws.{AreSound, map_from, kind_at, last_put}
use Rattle.storage_model.proofs.PutLaws.{slot_with, slot_after, puts_in-append}
use Rattle.storage_model.proofs.Steps.{SlotStep, slot_step}

-- the value that was put last, or else the one before
abbrev pub last_held : Option Held → List Put → Option Held
last_held before ps = fold (λ o (p : Put). Some p.held) before ps

pub held_after : (s : SlotEntry) (ps : List Put) → (slot_after s ps).held ≡ last_held s.held ps
held_after s [] = refl
held_after s (p ∷ ps) = held_after (slot_with s p) ps

-- a value that expired before is expired later
expired_at : (now then : ℕ) (h : Held) → then ≤ now → (b : Bool) → nat_le h.expiry then ≡ b → unexpired now (cond b None (Some h)) ≡ unexpired now (Some h)
unfolding unexpired
expired_at now then h l true e = sym (cond-true (nat_le h.expiry now) None (Some h) (le-leb h.expiry now (le_trans (leb-true h.expiry then e) l)))
expired_at now then h l false e = refl

unexpired_twice : (now then : ℕ) (o : Option Held) → then ≤ now → unexpired now (unexpired then o) ≡ unexpired now o
unfolding unexpired
unexpired_twice now then None l = refl
unexpired_twice now then (Some h) l = expired_at now then h l (nat_le h.expiry then) refl

-- two values are given alike
abbrev pub AreGivenAlike : ℕ → Option Held → Option Held → Type 0
AreGivenAlike now o p = unexpired now o ≡ unexpired now p

-- what is put behind values that are given alike is given alike
alike_behind : (now : ℕ) (o p : Option Held) (ps : List Put) → AreGivenAlike now o p → AreGivenAlike now (last_held o ps) (last_held p ps)
alike_behind now o p [] e = e
alike_behind now o p (q ∷ ps) e = refl

alike_step : (now then : ℕ) (s t : SlotEntry) (ps : List Put) → then ≤ now → SlotStep then s ps t → AreGivenAlike now t.held (last_held s.held ps)
alike_step now then s t ps l h =
    ⊎_elim
    (λ (e : t ≡ slot_after s ps). ap (λ (u : SlotEntry). unexpired now u.held) e ∙ ap (unexpired now) (held_after s ps))
    (λ (e : t ≡ slot_after (swept_slot then s) ps).
    ap (λ (u : SlotEntry). unexpired now u.held) e ∙ ap (unexpired now) (held_after (swept_slot then s) ps)
    ∙ alike_behind now (unexpired then s.held) s.held ps (unexpired_twice now then s.held l))
    h

-- what a slot holds after a run is given as what was put last
pub alike_from : (models : ℕ → DataModel) (now : ℕ) (ds : List Decision) (m : Map) (r kind : ℕ) (key : List ℕ) → AreSound models ds → AllByRecursion (λ (d : Decision). d.time ≤ now) ds
    → AreGivenAlike now (slot_in (kind_at (map_from m ds) r kind).slots key).held (last_held (slot_in (kind_at m r kind).slots key).held (puts_in r kind key (puts_from m ds)))
unfolding map_from puts_from puts_in
alike_from models now [] m r kind key s t = refl
alike_from models now (d ∷ ds) m r kind key s t =
    alike_from models now ds (map_after m d) r kind key s.1 t.1
    ∙ alike_behind now _ _ (puts_in r kind key (puts_from (map_after m d) ds)) (alike_step now d.time _ _ (puts_in r kind key (puts_of m d)) t.0 (slot_step m d r kind key s.0.request))
    ∙ sym (ap (λ ps. unexpired now (last_held (slot_in (kind_at m r kind).slots key).held ps)) (puts_in-append r kind key (puts_of m d) (puts_from (map_after m d) ds))
    ∙ ap (unexpired now) (fold-append (λ o (p : Put). Some p.held) (slot_in (kind_at m r kind).slots key).held (puts_in r kind key (puts_of m d)) (puts_in r kind key (puts_from (map_after m d) ds))))

-- the slot of a resource that nobody wrote is empty
pub empty_at : (r kind : ℕ) (key : List ℕ) → slot_in (kind_at empty r kind).slots key ≡ empty_slot
empty_at r kind key =
    ap (λ o. slot_in (kind_in (unwrap_or o empty_record).kinds kind).slots key) (get-empty nat_cmp r)
    ∙ ap (λ o. slot_in (unwrap_or o empty_kind).slots key) (get-empty nat_cmp kind)
    ∙ ap (λ o. unwrap_or o empty_slot) (get-empty (slice_cmp nat_cmp) key)

pub given_alike : (now : ℕ) (key : SlotKey) (o p : Option Held) → AreGivenAlike now o p → given_for now key o ≡ given_for now key p
unfolding given_for
given_alike now key o p e = ap (λ q. option_map_or (found_of now key) q (gap key)) e

pub last_given : (models : ℕ → DataModel) (ds : List Decision) (now r kind : ℕ) (key : SlotKey) → AreSound models ds → AllByRecursion (λ (d : Decision). d.time ≤ now) ds
    → given_for now key (slot_in (kind_at (map_from empty ds) r kind).slots (key_of key)).held ≡ given_for now key (last_put (puts_in r kind (key_of key) (puts_from empty ds)))
last_given models ds now r kind key s t =
    given_alike now key _ _ (alike_from models now ds empty r kind (key_of key) s t
    ∙ ap (λ (u : SlotEntry). unexpired now (last_held u.held (puts_in r kind (key_of key) (puts_from empty ds)))) (empty_at r kind (key_of key)))
