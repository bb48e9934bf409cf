-- What calls of a source or a sink do together, one after the other.
use Rattle.std.proofs.Common.{◌≡◌, ℕ, List, [], ◌++◌, take, drop, Option, ap, sym, subst, ◌∙◌, append_assoc, append-nil, refl}
use Rattle.std.proofs.lemmas.List.{take-append-drop}
use Rattle.std.specs.Io.KnownBytes.{Appends, Consumes, Keeps}
use Rattle.std.proofs.KnownBytes.{Appends-kept, Appends-nil, Appends-trans, Consumes-kept, Consumes-nil, Consumes-trans}
use Rattle.reload_base.specs.Whole.{StopsWriting}
use Rattle.reload_base.specs.declared.writing.WriteError.{WriteError}
use Rattle.reload_base.specs.declared.writing.WriteError.TheVariants.{Failed, NoMemory}
use Rattle.reload_base.specs.Outside.{SourceView, SinkView, raised, Takes, TakesThenFails, Adds, AddsThenFails}

-- a call that leaves the known bytes as they were took none, and added none
pub Consumes-none : (old new : Option (List ℕ)) → Keeps old new → Consumes old new []
Consumes-none old new kept = Consumes-kept old old new [] (Consumes-nil old) kept

pub Appends-none : (old new : Option (List ℕ)) → Keeps old new → Appends old new []
Appends-none old new kept = Appends-kept old old new [] (Appends-nil old) kept

-- a source and a sink that aren't called
pub Takes-none : (a : SourceView) → Takes a a []
Takes-none a = (Consumes-nil a.left, refl)

pub Adds-none : (a : SinkView) → Adds a a []
Adds-none a = (Appends-nil a.written, refl)

-- what two reads took, one after the other, the second perhaps before a fault
pub Takes-then : (a b c : SourceView) (x y : List ℕ) → Takes a b x → Takes b c y → Takes a c (x ++ y)
Takes-then a b c x y first second = (Consumes-trans a.left b.left c.left x y first.0 second.0, second.1 ∙ first.1)

pub Takes-fails : (a b c : SourceView) (x : List ℕ) → Takes a b x → TakesThenFails b c [] → TakesThenFails a c x
Takes-fails a b c x first second =
    (subst (Consumes a.left c.left) (append-nil x) (Consumes-trans a.left b.left c.left x [] first.0 second.0), second.1 ∙ ap raised first.1)

-- what two writes added, one after the other, the second perhaps before a fault
pub Adds-then : (a b c : SinkView) (x y : List ℕ) → Adds a b x → Adds b c y → Adds a c (x ++ y)
Adds-then a b c x y first second = (Appends-trans a.written b.written c.written x y first.0 second.0, second.1 ∙ first.1)

pub Adds-then_fails : (a b c : SinkView) (x y : List ℕ) → Adds a b x → AddsThenFails b c y → AddsThenFails a c (x ++ y)
Adds-then_fails a b c x y first second = (Appends-trans a.written b.written c.written x y first.0 second.0, second.1 ∙ ap raised first.1)

-- a write that takes n bytes of the rest leaves the rest behind them
pub Adds-more : (a b c : SinkView) (front rest piece left : List ℕ) (n : ℕ) → front ++ rest ≡ piece → left ≡ drop n rest → Adds a b front → Adds b c (take n rest)
    → (written : List ℕ) × (written ++ left ≡ piece) × Adds a c written
Adds-more a b c front rest piece left n whole behind first second = (
  front ++ take n rest,
  append_assoc front (take n rest) left ∙ ap (λ (l : List ℕ). front ++ l) (ap (λ (l : List ℕ). take n rest ++ l) behind ∙ take-append-drop n rest) ∙ whole,
  Adds-then a b c front (take n rest) first second,
)

-- the front of a piece, behind what stands before it, is a front of the whole
front_behind : (so_far front left piece rest due : List ℕ) → front ++ left ≡ piece → so_far ++ (piece ++ rest) ≡ due → (so_far ++ front) ++ (left ++ rest) ≡ due
front_behind so_far front left piece rest due split whole =
    append_assoc so_far front (left ++ rest) ∙ ap (λ (l : List ℕ). so_far ++ l) (sym (append_assoc front left rest) ∙ ap (λ (l : List ℕ). l ++ rest) split) ∙ whole

-- where memory is missing before the first write
pub Stops-none : (a : SinkView) (text : List ℕ) → StopsWriting a a text NoMemory
Stops-none a text = ([], text, refl, Adds-none a)

-- writing stopped in a piece, behind what was written so far
pub Stops-behind : (a b c : SinkView) (so_far piece rest due : List ℕ) (e : WriteError) → so_far ++ (piece ++ rest) ≡ due → Adds a b so_far → StopsWriting b c piece e → StopsWriting a c due e
Stops-behind a b c so_far piece rest due Failed whole first stops = (so_far ++ stops.0, stops.1 ++ rest, front_behind so_far stops.0 stops.1 piece rest due stops.2 whole, Adds-then_fails a b c so_far stops.0 first stops.3)
Stops-behind a b c so_far piece rest due NoMemory whole first stops = (so_far ++ stops.0, stops.1 ++ rest, front_behind so_far stops.0 stops.1 piece rest due stops.2 whole, Adds-then a b c so_far stops.0 first stops.3)
