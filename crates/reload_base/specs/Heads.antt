-- Frames whose bytes lie one behind the other.
use Rattle.std.specs.Prelude.{ℕ, zero, suc, ◌≡◌, ◌<◌, ◌≤◌, List, [], ◌∷◌, take, drop}
use Rattle.reload_base.specs.declared.air.AirFrame.{AirFrame}
use Rattle.reload_base.specs.declared.memory_air.Head.{Head}

-- the frames of some heads, cut from the bytes of all; the first one's begin at `start`
unfoldable pub frames_from : ℕ → List Head → List ℕ → List AirFrame
frames_from start [] bytes = []
frames_from start (h ∷ heads) bytes =
    record { from = h.from; to = h.to; bytes = drop start (take h.end bytes) }
    ∷ frames_from h.end heads bytes

-- the frames of all heads
abbrev pub frames_in : List Head → List ℕ → List AirFrame
frames_in heads bytes = frames_from 0 heads bytes

-- no frame is empty, and the last one ends at `total`
unfoldable pub Rises : ℕ → List Head → ℕ → Type 0
Rises start [] total = start ≡ total
Rises start (h ∷ heads) total = (start < h.end) × (h.end ≤ total) × Rises h.end heads total

-- where the frame at a place begins: the first one at `start`, each other where the one before ends
unfoldable pub start_from : ℕ → List Head → ℕ → ℕ
start_from start heads zero = start
start_from start [] (suc i) = start
start_from start (h ∷ heads) (suc i) = start_from h.end heads i
