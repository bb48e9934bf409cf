-- What the bytes of frames come to.
use Rattle.std.proofs.Common.{◌≡◌, suc, ◌+◌, ◌<◌, ◌≤◌, List, [], ◌∷◌, ◌++◌, length, All, refl, arith}
use Rattle.std.proofs.lemmas.List.Sums.{sum_by_push, sum_by-cons}
use Rattle.reload_base.specs.declared.air.AirFrame.{AirFrame}
use Rattle.reload_base.specs.Outside.{size_of}

-- no frames have no bytes
pub size_of_none : size_of [] ≡ 0
unfolding size_of
size_of_none = refl

-- a frame behind the others adds its bytes
pub size_of_push : (frames : List AirFrame) (frame : AirFrame) → size_of (frames ++ frame ∷ []) ≡ size_of frames + length frame.bytes
unfolding size_of
size_of_push frames frame = sum_by_push (λ (f : AirFrame). length f.bytes) frames frame

-- the first frame's bytes and those of the rest
size_of_cons : (frame : AirFrame) (frames : List AirFrame) → size_of (frame ∷ frames) ≡ length frame.bytes + size_of frames
unfolding size_of
size_of_cons frame frames = sum_by-cons (λ (f : AirFrame). length f.bytes) frame frames

-- where each frame has a byte, the frames are at most as many as their bytes
pub length_le_size_of : (frames : List AirFrame) → All (λ f. 0 < length f.bytes) frames → length frames ≤ size_of frames
length_le_size_of [] some = omega arith
length_le_size_of (frame ∷ frames) some =
    let first : 0 < length frame.bytes = some 0 frame (omega arith) in
    let rest : All (λ (f : AirFrame). 0 < length f.bytes) frames = λ k d l. some (suc k) d (omega arith) in
    omega (arith, size_of_cons frame frames, length_le_size_of frames rest)
