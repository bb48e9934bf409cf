-- The lines of frames, as far as they were appended.
use Rattle.std.proofs.Common.{◌≡◌, ℕ, zero, suc, ◌+◌, ◌≤◌, List, [], ◌∷◌, ◌++◌, length, take, drop, Err, refl, sym, ap, ◌∙◌, add-one, append_assoc, append-nil}
use Rattle.std.specs.Prelude.{slice_get}
use Rattle.std.specs.Option.{option_map_or}
use Rattle.std.proofs.lemmas.List.{drop_all}
use Rattle.reload_base.specs.declared.air.AirFrame.{AirFrame}
use Rattle.text_words.specs.Lines.{ended}
use Rattle.text_words.proofs.PutLaws.{appended_then}
use Rattle.run_text.specs.Lines.{frame_at, frame_line, frame_lines, frames_text}

-- the first of the frames from a place on, and the others
frame_lines-next : (k i : ℕ) (fs : List AirFrame) → frame_lines k (drop i fs) ≡ option_map_or (λ f. ended (frame_line k f)) (slice_get fs i) [] ++ frame_lines (k + 1) (drop (suc i) fs)
unfolding frame_lines
frame_lines-next k zero [] = refl
frame_lines-next k (suc i) [] = refl
frame_lines-next k zero (f ∷ fs) = refl
frame_lines-next k (suc i) (f ∷ fs) = frame_lines-next k i fs

frames_text-next : (at : ℕ) (frames : List AirFrame) → frames_text at frames ≡ frame_at at frames ++ frames_text (at + 1) frames
unfolding frames_text frame_at
frames_text-next at frames =
    frame_lines-next (at + 1) at frames
    ∙ ap (λ (n : ℕ). frame_at at frames ++ frame_lines (at + 1 + 1) (drop n frames)) (sym (add-one at))

-- behind the last frame there is none
frames_text-past : (at : ℕ) (frames : List AirFrame) → length frames ≤ at → frames_text at frames ≡ []
unfolding frames_text frame_lines
frames_text-past at frames past = ap (frame_lines (at + 1)) (drop_all at frames past)

-- of the lines of the frames from one place on, those up to another were appended
pub record AreBegun (old new : List ℕ) (from at : ℕ) (frames : List AirFrame) : Type 0 where
  pub so_far : List ℕ
  pub appended : new ≡ old ++ so_far
  pub rest : frames_text from frames ≡ so_far ++ frames_text at frames

pub AreBegun-start : (old : List ℕ) (from : ℕ) (frames : List AirFrame) → AreBegun old old from from frames
AreBegun-start old from frames = record { so_far = []; appended = sym (append-nil old); rest = refl }

-- one more line was appended
pub AreBegun-more : (old mid new : List ℕ) (from at : ℕ) (frames : List AirFrame) → AreBegun old mid from at frames → new ≡ mid ++ frame_at at frames → AreBegun old new from (at + 1) frames
AreBegun-more old mid new from at frames begun more =
    let line = frame_at at frames in
    record {
      so_far = begun.so_far ++ line;
      appended = more ∙ ap (λ (text : List ℕ). text ++ line) begun.appended ∙ append_assoc old begun.so_far line;
      rest = begun.rest ∙ ap (λ (text : List ℕ). begun.so_far ++ text) (frames_text-next at frames) ∙ sym (append_assoc begun.so_far line (frames_text (at + 1) frames));
    }

-- one more line failed
pub AreBegun-stop : {E : Type 0} (old mid new : List ℕ) (from at : ℕ) (frames : List AirFrame) (failed : E) → AreBegun old mid from at frames → take (length mid) new ≡ mid → take (length old) new ≡ old
AreBegun-stop {E} old mid new from at frames failed begun stopped = appended_then {T = Unit {0}} {E = E} old mid new begun.so_far [] (Err failed) begun.appended stopped

-- all lines were appended
pub AreBegun-end : (old new : List ℕ) (from at : ℕ) (frames : List AirFrame) → AreBegun old new from at frames → length frames ≤ at → new ≡ old ++ frames_text from frames
AreBegun-end old new from at frames begun past =
    begun.appended
    ∙ ap (λ (text : List ℕ). old ++ text) (sym (append-nil begun.so_far) ∙ ap (λ (text : List ℕ). begun.so_far ++ text) (sym (frames_text-past at frames past)) ∙ sym begun.rest)
