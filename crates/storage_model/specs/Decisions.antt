-- Decisions taken in order: legal over one map, and each Store acting at most once.
use Rattle.std.specs.Prelude.{◌≡◌, ℕ, ◌+◌, ◌<◌, ◌==◌, ◌&&◌, List, [], ◌∷◌, ◌++◌, map, filter, Bool, true, false, Option, Some, None, if◌then◌else◌}
use Rattle.std.specs.List.{flat_map, AllByRecursion}
use Rattle.std.specs.FinMap.{empty, insert}
use Rattle.reload_ids.specs.declared.NodeId.{NodeId}
use Rattle.data_models.specs.declared.config.Config.{Config}
use Rattle.storage_model.specs.declared.answer.Answer.{Answer}
use Rattle.storage_model.specs.declared.answer.Answer.TheVariants.{Decided, Found, Joined}
use Rattle.storage_model.specs.declared.record.Held.{Held}
use Rattle.storage_model.specs.declared.request.AskedKind.{AskedKind}
use Rattle.storage_model.specs.declared.request.JoinAsked.{JoinAsked}
use Rattle.storage_model.specs.declared.request.Asked.{Asked}
use Rattle.storage_model.specs.declared.request.Asked.TheVariants.{Bad, Unsigned, Store, Fetch, Join}
use Rattle.storage_model.specs.declared.refusal.Refusal.{Refusal}
use Rattle.storage_model.specs.declared.refusal.Refusal.TheVariants.{InvalidMessage, Forbidden, UnknownExtension}
use Rattle.storage_model.specs.declared.verdict.FetchVerdict.{FetchVerdict}
use Rattle.storage_model.specs.declared.verdict.FetchVerdict.TheVariants.{Values, Refused}
use Rattle.storage_model.specs.Records.{Kinds, Record, Map, record_in, kind_in, next_index}
use Rattle.storage_model.specs.Refusals.{Cause, error_code, first_cause, sequence_causes}
use Rattle.storage_model.specs.Requests.{values_of, placed, appended, groups_of, is_same_key}
use Rattle.storage_model.specs.Puts.{ValuesAt, held_of, at_keys, at_end, put_all}
use Rattle.storage_model.specs.Verdict.{Outcome, outcome_of}
use Rattle.storage_model.specs.Fetches.{fetch_verdict}

-- a decision: which peer, at which clock in ms, under which configuration, on which resource, for
-- which origin and transaction id, on what, with what answer
pub record Decision : Type 0 where
  pub peer : ℕ
  pub time : ℕ
  pub config : Config
  pub resource : ℕ
  pub origin : NodeId
  pub id : ℕ
  pub asked : Asked
  pub answer : Answer

-- what is made of a request: the answer, whether a value is put, and the record afterwards, none
-- where it stays
pub record Effect : Type 0 where
  pub answer : Answer
  pub acted : Bool
  pub next : Option Record

-- an answer that leaves the record as it is
abbrev pub only : Answer → Effect
only answer = record { answer = answer; acted = false; next = None }

abbrev pub refusal : Refusal → Effect
refusal cause = only (Decided (error_code cause) [])

abbrev pub stored : Outcome → Effect
stored out = record {
  answer = Decided out.verdict.code out.verdict.counters;
  acted = out.verdict.acted;
  next = out.next;
}

abbrev pub found : FetchVerdict → Effect
found (Values kinds) = only (Found kinds)
found (Refused cause) = refusal cause

-- a record once a peer joined with its resource as Node-ID: the first time, its turn rises by 1
unfoldable pub with_joined : Record → Option Record
with_joined x = if x.joined then None else Some (record x { turn = x.turn + 1; joined = true })

-- why a Join is refused, in this order
unfoldable pub join_causes : Config → JoinAsked → List Cause
join_causes config request =
    sequence_causes config request.sequence ++ (UnknownExtension, request.strange) ∷ []

abbrev pub joined : Option Refusal → Record → Effect
joined (Some cause) x = refusal cause
joined None x = record { answer = Joined; acted = false; next = with_joined x }

-- what is made of a request for a resource with this record
abbrev pub effect_of : Config → ℕ → ℕ → Record → NodeId → ℕ → Asked → Effect
effect_of config now resource x origin id Bad = refusal InvalidMessage
effect_of config now resource x origin id Unsigned = refusal Forbidden
effect_of config now resource x origin id (Store q) =
    stored (outcome_of config now resource x origin id q)
effect_of config now resource x origin id (Fetch q) = found (fetch_verdict config now x.kinds q)
effect_of config now resource x origin id (Join q) = joined (first_cause (join_causes config q)) x

-- what the one map makes of a decision's request
abbrev pub effect_on : Map → Decision → Effect
effect_on m d = effect_of d.config d.time d.resource (record_in m d.resource) d.origin d.id d.asked

-- a map after the record of a resource changed, or stayed
abbrev pub changed : Map → ℕ → Option Record → Map
changed m resource None = m
changed m resource (Some next) = insert m resource next

-- the one map after a decision
abbrev pub map_after : Map → Decision → Map
map_after m d = changed m d.resource (effect_on m d).next

-- each answer is that of the one map as the decisions before it left it
unfoldable pub IsLegalFrom : Map → List Decision → Type 0
IsLegalFrom m [] = Unit {0}
IsLegalFrom m (d ∷ ds) = (d.answer ≡ (effect_on m d).answer) × IsLegalFrom (map_after m d) ds

-- decisions are legal where this holds from the map in which nobody wrote anything
abbrev pub IsLegal : List Decision → Type 0
IsLegal ds = IsLegalFrom empty ds

-- the decisions that put a value
unfoldable pub acting_from : Map → List Decision → List Decision
acting_from m [] = []
acting_from m (d ∷ ds) =
    (if (effect_on m d).acted then d ∷ [] else []) ++ acting_from (map_after m d) ds

-- the kinds that a request names to put values, none where it is no Store
abbrev pub kinds_of : Asked → List AskedKind
kinds_of (Store q) = q.kinds
kinds_of _ = []

-- a value that is put: in which slot of which kind and resource, by an append or not, and what the
-- slot then holds
pub record Put : Type 0 where
  pub resource : ℕ
  pub kind : ℕ
  pub key : List ℕ
  pub appended : Bool
  pub held : Held

abbrev pub puts_at : Decision → ℕ → Bool → ValuesAt → List Put
puts_at d kind appended values =
    map (λ v. record {
      resource = d.resource;
      kind = kind;
      key = v.0;
      appended = appended;
      held = held_of d.time v.1;
    }) values

-- what a decision that acts puts of one kind, in order
unfoldable pub kind_puts : Kinds → Decision → AskedKind → List Put
kind_puts kinds d a =
    let slots = (kind_in kinds a.kind).slots in
    let first = at_keys (placed (values_of a)) in
    let next = next_index (put_all d.time slots first) in
    puts_at d a.kind false first ++ puts_at d a.kind true (at_end next (appended (values_of a)))

-- what a decision puts, nothing unless it acts
unfoldable pub puts_of : Map → Decision → List Put
puts_of m d =
    if (effect_on m d).acted
    then flat_map (kind_puts (record_in m d.resource).kinds d) (kinds_of d.asked)
    else []

-- what decisions put, in order
unfoldable pub puts_from : Map → List Decision → List Put
puts_from m [] = []
puts_from m (d ∷ ds) = puts_of m d ++ puts_from (map_after m d) ds

-- what was put in one slot, and what was appended to one array
unfoldable pub puts_in : ℕ → ℕ → List ℕ → List Put → List Put
puts_in resource kind key puts =
    filter (λ p. (p.resource == resource) && (p.kind == kind) && is_same_key key p.key) puts

unfoldable pub appends_to : ℕ → ℕ → List Put → List Put
appends_to resource kind puts =
    filter (λ p. (p.resource == resource) && (p.kind == kind) && p.appended) puts

abbrev pub times_of : List Put → List ℕ
times_of puts = map (λ p. p.held.storage_time) puts

-- numbers that rise strictly
unfoldable pub Rises : List ℕ → Type 0
Rises [] = Unit {0}
Rises (n ∷ ns) = AllByRecursion (λ m. n < m) ns × Rises ns

-- two decisions are on the same Store: the same resource, origin, transaction id and groups
pub record IsSameStore (d e : Decision) : Type 0 where
  pub resource : e.resource ≡ d.resource
  pub origin : e.origin ≡ d.origin
  pub id : e.id ≡ d.id
  pub groups : groups_of (kinds_of e.asked) ≡ groups_of (kinds_of d.asked)

-- no decision is on the same Store as a later one
unfoldable pub NoneTwice : List Decision → Type 0
NoneTwice [] = Unit {0}
NoneTwice (d ∷ ds) = AllByRecursion (λ e. IsSameStore d e → ⊥) ds × NoneTwice ds

-- each Store acts at most once, and the storage times accepted in one slot rise strictly, as do
-- those appended to one array
pub record IsOnce (ds : List Decision) : Type 0 where
  pub stores : NoneTwice (acting_from empty ds)
  pub slots : (resource kind : ℕ) (key : List ℕ)
      → Rises (times_of (puts_in resource kind key (puts_from empty ds)))
  pub arrays : (resource kind : ℕ)
      → Rises (times_of (appends_to resource kind (puts_from empty ds)))
