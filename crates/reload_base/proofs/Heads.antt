-- Frames whose bytes lie one behind the other: one more of them, and one that is read.
use Rattle.std.proofs.Common.{◌≡◌, ℕ, zero, suc, ◌+◌, ◌^◌, ◌<◌, ◌≤◌, List, [], ◌∷◌, ◌++◌, length, take, drop, slice_get, get_or, All, Some, refl, ap, ap₂, sym, ◌∙◌, arith}
use Rattle.std.specs.Prelude.{slice_index}
use Rattle.std.proofs.lemmas.List.{take-append-le, drop_at, take_all, length-append, length-take-le, length-drop}
use Rattle.std.proofs.lemmas.List.Elements.{All-nil, All-cons}
use Rattle.reload_base.specs.declared.air.AirFrame.{AirFrame}
use Rattle.reload_base.specs.declared.memory_air.Head.{Head}
use Rattle.reload_base.specs.Heads.{frames_from, frames_in, Rises, start_from}
use Rattle.reload_base.specs.Outside.{HoldBytes, size_of}
use Rattle.reload_base.proofs.Frames.{size_of_push, length_le_size_of}

-- no heads
pub none_in : (bytes : List ℕ) → frames_in [] bytes ≡ []
unfolding frames_from
none_in bytes = refl

pub none_rise : Rises 0 [] 0
unfolding Rises
none_rise = refl

-- the head of bytes that stand behind those of all
abbrev pub head_behind : ℕ → ℕ → List ℕ → List ℕ → Head
head_behind from to bytes more = record { from = from; to = to; end = length (bytes ++ more) }

-- bytes behind those of all leave what is cut from them as it is
cut_kept : (start end : ℕ) (bytes more : List ℕ) → end ≤ length bytes → drop start (take end (bytes ++ more)) ≡ drop start (take end bytes)
cut_kept start end bytes more within = ap (drop start) (take-append-le end bytes more within)

-- what is cut behind them is what stands there
cut_behind : (start : ℕ) (bytes more : List ℕ) → start ≡ length bytes → drop start (take (length (bytes ++ more)) (bytes ++ more)) ≡ more
cut_behind start bytes more ends =
    ap (drop start) (take_all (length (bytes ++ more)) (bytes ++ more) (omega arith)) ∙ drop_at bytes more start (sym ends)

-- a frame behind the others
pushed_from : (start : ℕ) (heads : List Head) (from to : ℕ) (bytes more : List ℕ) → Rises start heads (length bytes)
    → frames_from start (heads ++ head_behind from to bytes more ∷ []) (bytes ++ more) ≡ frames_from start heads bytes ++ record { from = from; to = to; bytes = more } ∷ []
unfolding frames_from Rises
pushed_from start [] from to bytes more rises =
    ap (λ bs. record { from = from; to = to; bytes = bs } ∷ []) (cut_behind start bytes more rises)
pushed_from start (h ∷ heads) from to bytes more rises =
    ap₂ (λ bs xs. record { from = h.from; to = h.to; bytes = bs } ∷ xs)
    (cut_kept start h.end bytes more rises.1) (pushed_from h.end heads from to bytes more rises.2)

pub pushed_in : (heads : List Head) (from to : ℕ) (bytes more : List ℕ) → Rises 0 heads (length bytes)
    → frames_in (heads ++ head_behind from to bytes more ∷ []) (bytes ++ more) ≡ frames_in heads bytes ++ record { from = from; to = to; bytes = more } ∷ []
pushed_in heads from to bytes more rises = pushed_from 0 heads from to bytes more rises

pub pushed_size : (heads : List Head) (from to : ℕ) (bytes more : List ℕ) → Rises 0 heads (length bytes) → size_of (frames_in heads bytes) ≡ length bytes
    → size_of (frames_in (heads ++ head_behind from to bytes more ∷ []) (bytes ++ more)) ≡ length (bytes ++ more)
pushed_size heads from to bytes more rises size =
    ap size_of (pushed_in heads from to bytes more rises)
    ∙ size_of_push (frames_in heads bytes) (record { from = from; to = to; bytes = more })
    ∙ ap (λ n. n + length more) size ∙ sym (length-append bytes more)

pub pushed_rise : (start : ℕ) (heads : List Head) (from to : ℕ) (bytes more : List ℕ) → Rises start heads (length bytes) → 0 < length more
    → Rises start (heads ++ head_behind from to bytes more ∷ []) (length (bytes ++ more))
unfolding Rises
pushed_rise start [] from to bytes more rises some = (omega (arith, rises, length-append bytes more), omega arith, refl)
pushed_rise start (h ∷ heads) from to bytes more rises some =
    (rises.0, omega (arith, rises.1, length-append bytes more), pushed_rise h.end heads from to bytes more rises.2 some)

-- a frame that isn't the first begins where the one before it ends
pub start_behind : (start : ℕ) (heads : List Head) (i : ℕ) (d : Head) → i < length heads → start_from start heads (suc i) ≡ (get_or heads i d).end
unfolding start_from
start_behind start [] i d within = absurd (omega arith)
start_behind start (h ∷ heads) zero d within = refl
start_behind start (h ∷ heads) (suc i) d within = start_behind h.end heads i d (omega arith)

-- each frame begins before it ends, and ends within the bytes of all
pub begins_from : (start : ℕ) (heads : List Head) (total i : ℕ) (d : Head) → Rises start heads total → i < length heads → start_from start heads i ≤ (get_or heads i d).end
unfolding start_from Rises
begins_from start [] total i d rises within = absurd (omega arith)
begins_from start (h ∷ heads) total zero d rises within = omega (arith, rises.0)
begins_from start (h ∷ heads) total (suc i) d rises within = begins_from h.end heads total i d rises.2 (omega arith)

pub ends_within : (start : ℕ) (heads : List Head) (total i : ℕ) (d : Head) → Rises start heads total → i < length heads → (get_or heads i d).end ≤ total
unfolding Rises
ends_within start [] total i d rises within = absurd (omega arith)
ends_within start (h ∷ heads) total zero d rises within = rises.1
ends_within start (h ∷ heads) total (suc i) d rises within = ends_within h.end heads total i d rises.2 (omega arith)

-- the frame of a head is the one at its place
pub copied_from : (start : ℕ) (heads : List Head) (bytes copy : List ℕ) (i : ℕ) (d : Head) → i < length heads
    → copy ≡ drop (start_from start heads i) (take (get_or heads i d).end bytes)
    → slice_get (frames_from start heads bytes) i ≡ Some (record { from = (get_or heads i d).from; to = (get_or heads i d).to; bytes = copy })
unfolding frames_from start_from
copied_from start [] bytes copy i d within e = absurd (omega arith)
copied_from start (h ∷ heads) bytes copy zero d within e =
    ap (λ bs. Some (record { from = h.from; to = h.to; bytes = bs })) (sym e)
copied_from start (h ∷ heads) bytes copy (suc i) d within e = copied_from h.end heads bytes copy i d (omega arith) e

-- there are as many frames as heads, and at most as many as bytes
pub counted_from : (start : ℕ) (heads : List Head) (bytes : List ℕ) → length (frames_from start heads bytes) ≡ length heads
unfolding frames_from
counted_from start [] bytes = refl
counted_from start (h ∷ heads) bytes = ap suc (counted_from h.end heads bytes)

filled : (start : ℕ) (heads : List Head) (bytes : List ℕ) → Rises start heads (length bytes) → All (λ f. 0 < length f.bytes) (frames_from start heads bytes)
unfolding frames_from Rises
filled start [] bytes rises = All-nil (λ (f : AirFrame). 0 < length f.bytes)
filled start (h ∷ heads) bytes rises =
    let long = length-take-le h.end bytes rises.1 in
    All-cons (λ (f : AirFrame). 0 < length f.bytes) (record { from = h.from; to = h.to; bytes = drop start (take h.end bytes) }) (frames_from h.end heads bytes)
    (omega (arith, rises.0, long, length-drop start (take h.end bytes))) (filled h.end heads bytes rises.2)

pub few_in : (heads : List Head) (bytes : List ℕ) → Rises 0 heads (length bytes) → length heads ≤ size_of (frames_in heads bytes)
few_in heads bytes rises =
    omega (arith, counted_from 0 heads bytes, length_le_size_of (frames_in heads bytes) (filled 0 heads bytes rises))

-- what is cut from bytes are bytes
drop_holds : (n : ℕ) (bytes : List ℕ) → ((i : ℕ) → slice_index bytes i < 2 ^ 8) → (i : ℕ) → slice_index (drop n bytes) i < 2 ^ 8
drop_holds zero bytes all i = all i
drop_holds (suc n) [] all i = all i
drop_holds (suc n) (b ∷ bytes) all i = drop_holds n bytes (λ j. all (suc j)) i

take_holds : (n : ℕ) (bytes : List ℕ) → ((i : ℕ) → slice_index bytes i < 2 ^ 8) → (i : ℕ) → slice_index (take n bytes) i < 2 ^ 8
take_holds zero bytes all i = omega arith
take_holds (suc n) [] all i = all i
take_holds (suc n) (b ∷ bytes) all zero = all zero
take_holds (suc n) (b ∷ bytes) all (suc i) = take_holds n bytes (λ j. all (suc j)) i

pub hold_bytes : (start : ℕ) (heads : List Head) (bytes : List ℕ) → ((i : ℕ) → slice_index bytes i < 2 ^ 8) → HoldBytes (frames_from start heads bytes)
unfolding frames_from
hold_bytes start [] bytes all = tt
hold_bytes start (h ∷ heads) bytes all = (drop_holds start (take h.end bytes) (take_holds h.end bytes all), hold_bytes h.end heads bytes all)
