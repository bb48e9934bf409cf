-- A stream has one listing.
use Rattle.std.proofs.Common.{◌≡◌, ◌↔◌, ℕ, inl, inr, List, [], ◌++◌, length, Option, None, Some, refl, sym, ap, subst, ◌∙◌, append-nil}
use Rattle.std.specs.List.{flat_map}
use Rattle.text_words.specs.Lines.{ended}
use Rattle.wire_core.specs.declared.bad.Bad.{Bad}
use Rattle.link_framing.specs.declared.frame.Frame.{Frame}
use Rattle.link_framing.specs.Framing.{frame, IsFrame}
use Rattle.link_framing.specs.Streams.{IsPartial, IsBadType, IsTooLarge}
use Rattle.link_framing.proofs.Layouts.{frame_once}
use Rattle.link_framing.proofs.Runs.{Stops, readings}
use Rattle.link_framing.proofs.Cases.{empty_front, frame_not_bad, frame_not_large, frame_not_partial, partial_not_bad, partial_not_large, bad_not_large}
use Rattle.frame_listing.specs.Lines.{fault_line}
use Rattle.frame_listing.specs.Messages.{frame_listing}
use Rattle.frame_listing.specs.Listing.{IsWholeFrame, IsWhole, lines_of, IsBadFrame, IsNoFrame, IsFault, IsEnding, IsListing}
use Rattle.frame_listing.proofs.Wholes.{whole_frame, whole_fits}

-- ---- no whole frame stands in front of what ends a listing

no_frame_stops : (place : ℕ) (rest : List ℕ) (fault : Bad) → IsNoFrame place rest fault → (f : Frame) (more : List ℕ) → IsFrame f → rest ≡ frame f ++ more → ⊥
no_frame_stops place rest fault (inl is) f more fits e = frame_not_bad f more rest fits e is.0
no_frame_stops place rest fault (inr (inl is)) f more fits e = frame_not_large f more rest fits e is.0
no_frame_stops place rest fault (inr (inr is)) f more fits e = frame_not_partial f more rest fits e is.0

fault_stops : (place : ℕ) (rest text : List ℕ) (fault : Bad) → IsFault place rest text fault → Stops IsWholeFrame rest
fault_stops place rest text fault (inl is) f more whole e =
    let same = (frame_once f is.first more is.later (whole_fits f whole) is.fits (sym e ∙ is.spelled)).0 in
    absurd (let none = whole_frame place is.first (subst IsWholeFrame same whole) in let some = is.is in cc)
fault_stops place rest text fault (inr is) f more whole e = no_frame_stops place rest fault is.0 f more (whole_fits f whole) e

nothing_is_partial : IsPartial []
nothing_is_partial = inl empty_front

nothing_stops : (rest : List ℕ) → rest ≡ [] → Stops IsWholeFrame rest
nothing_stops rest none f more whole e = frame_not_partial f more [] (whole_fits f whole) (sym none ∙ e) nothing_is_partial

ending_stops : (frames : List Frame) (rest text : List ℕ) (fault : Option Bad) → IsEnding frames rest text fault → Stops IsWholeFrame rest
ending_stops frames rest text None is = nothing_stops rest is.0
ending_stops frames rest text (Some fault) is = fault_stops (length (flat_map frame frames)) rest is.0 fault is.1

-- ---- it ends in one way

same_no_frame : (place : ℕ) (rest : List ℕ) (a b : Bad) → IsNoFrame place rest a → IsNoFrame place rest b → a ≡ b
same_no_frame place rest a b (inl x) (inl y) = x.1 ∙ sym y.1
same_no_frame place rest a b (inl x) (inr (inl y)) = absurd (bad_not_large rest x.0 y.0)
same_no_frame place rest a b (inl x) (inr (inr y)) = absurd (partial_not_bad rest y.0 x.0)
same_no_frame place rest a b (inr (inl x)) (inl y) = absurd (bad_not_large rest y.0 x.0)
same_no_frame place rest a b (inr (inl x)) (inr (inl y)) = x.1 ∙ sym y.1
same_no_frame place rest a b (inr (inl x)) (inr (inr y)) = absurd (partial_not_large rest y.0 x.0)
same_no_frame place rest a b (inr (inr x)) (inl y) = absurd (partial_not_bad rest x.0 y.0)
same_no_frame place rest a b (inr (inr x)) (inr (inl y)) = absurd (partial_not_large rest x.0 y.0)
same_no_frame place rest a b (inr (inr x)) (inr (inr y)) = x.2 ∙ sym y.2

some_is : (a b : Bad) (x y : Option Bad) → x ≡ Some a → y ≡ Some b → x ≡ y → a ≡ b
some_is a b x y e f g = cc

same_bad_frame : (place : ℕ) (rest one other : List ℕ) (a b : Bad) → IsBadFrame place rest one a → IsBadFrame place rest other b → (one ≡ other) × (a ≡ b)
same_bad_frame place rest one other a b x y =
    let same = (frame_once x.first y.first x.later y.later x.fits y.fits (sym x.spelled ∙ y.spelled)).0 in (
      sym x.lines ∙ ap (λ (f : Frame). (frame_listing place f).text) same ∙ y.lines,
      some_is a b (frame_listing place x.first).fault (frame_listing place y.first).fault x.is y.is (ap (λ (f : Frame). (frame_listing place f).fault) same),
    )

same_fault : (place : ℕ) (rest one other : List ℕ) (a b : Bad) → IsFault place rest one a → IsFault place rest other b → (one ≡ other) × (a ≡ b)
same_fault place rest one other a b (inl x) (inl y) = same_bad_frame place rest one other a b x y
same_fault place rest one other a b (inl x) (inr y) = absurd (no_frame_stops place rest b y.0 x.first x.later x.fits x.spelled)
same_fault place rest one other a b (inr x) (inl y) = absurd (no_frame_stops place rest a x.0 y.first y.later y.fits y.spelled)
same_fault place rest one other a b (inr x) (inr y) = (x.1 ∙ sym y.1, same_no_frame place rest a b x.0 y.0)

-- where nothing is left there is no fault
no_fault : (place : ℕ) (rest text : List ℕ) (fault : Bad) → IsFault place rest text fault → rest ≡ [] → ⊥
no_fault place rest text fault (inl is) none = frame_not_partial is.first is.later [] is.fits (sym none ∙ is.spelled) nothing_is_partial
no_fault place rest text fault (inr (inl is, _)) none = subst IsBadType none is.0
no_fault place rest text fault (inr (inr (inl is), _)) none = (subst IsTooLarge none is.0).code
no_fault place rest text fault (inr (inr (inr is), _)) none = is.1 none

same_ending : (frames : List Frame) (rest one other : List ℕ) (a b : Option Bad) → IsEnding frames rest one a → IsEnding frames rest other b → (one ≡ other) × (a ≡ b)
same_ending frames rest one other None None x y = (x.1 ∙ sym y.1, refl)
same_ending frames rest one other None (Some b) x y = absurd (no_fault (length (flat_map frame frames)) rest y.0 b y.1 x.0)
same_ending frames rest one other (Some a) None x y = absurd (no_fault (length (flat_map frame frames)) rest x.0 a x.1 y.0)
same_ending frames rest one other (Some a) (Some b) x y =
    let same = same_fault (length (flat_map frame frames)) rest x.0 y.0 a b x.1 y.1 in
    (x.2 ∙ ap (λ (t : List ℕ). t ++ ended (fault_line a)) same.0 ∙ ap (λ (f : Bad). y.0 ++ ended (fault_line f)) same.1 ∙ sym y.2, ap (λ (f : Bad). Some f) same.1)

pub one_listing : (bytes one other : List ℕ) (fault last : Option Bad) → IsListing bytes one fault → IsListing bytes other last → (one ≡ other) × (fault ≡ last)
one_listing bytes one other fault last x y =
    let same = readings IsWholeFrame whole_fits x.frames y.frames x.rest y.rest x.each y.each
    (ending_stops x.frames x.rest x.ending fault x.ends) (ending_stops y.frames y.rest y.ending last y.ends) (sym x.spelled ∙ y.spelled) in
    let ending = same_ending y.frames y.rest x.ending y.ending fault last
    (subst (λ (r : List ℕ). IsEnding y.frames r x.ending fault) same.1 (subst (λ (fs : List Frame). IsEnding fs x.rest x.ending fault) same.0 x.ends)) y.ends in
    (x.whole ∙ ap (λ (fs : List Frame). lines_of 0 fs ++ x.ending) same.0 ∙ ap (λ (t : List ℕ). lines_of 0 y.frames ++ t) ending.0 ∙ sym y.whole, ending.1)

left_whole : (frames : List Frame) (rest text : List ℕ) (fault : Option Bad) → IsEnding frames rest text fault → rest ≡ [] → fault ≡ None
left_whole frames rest text None is none = refl
left_whole frames rest text (Some fault) is none = absurd (no_fault (length (flat_map frame frames)) rest is.0 fault is.1 none)

nothing_left : (frames : List Frame) (rest text : List ℕ) (fault : Option Bad) → IsEnding frames rest text fault → fault ≡ None → rest ≡ []
nothing_left frames rest text None is none = is.0
nothing_left frames rest text (Some fault) is none = absurd cc

-- it has no fault exactly where the stream is whole
pub listing_whole : (bytes text : List ℕ) (fault : Option Bad) → IsListing bytes text fault → (fault ≡ None) ↔ IsWhole bytes
listing_whole bytes text fault x = (
  λ none. (x.frames, x.each, x.spelled ∙ ap (λ (r : List ℕ). flat_map frame x.frames ++ r) (nothing_left x.frames x.rest x.ending fault x.ends none) ∙ append-nil (flat_map frame x.frames)),
  λ whole.
      let same = readings IsWholeFrame whole_fits x.frames whole.0 x.rest [] x.each whole.1 (ending_stops x.frames x.rest x.ending fault x.ends) (nothing_stops [] refl)
      (sym x.spelled ∙ whole.2 ∙ sym (append-nil (flat_map frame whole.0))) in
      left_whole x.frames x.rest x.ending fault x.ends same.1,
)
