-- A header is read as it is spelled.
use Rattle.std.proofs.Common.{◌≡◌, ℕ, ◌^◌, ◌<◌, ◌≤◌, leb, [], length, All, refl, sym, ap, lit<, arith}
use Rattle.std.proofs.lemmas.Bool.{leb-true, leb-false, le-leb}
use Rattle.std.proofs.lemmas.List.{append-nil}
use Rattle.wire_core.specs.declared.bad.Reason.TheVariants.{LengthPast, Trailing}
use Rattle.wire_core.specs.Spelling.{number}
use Rattle.wire_core.specs.Laws.Steps.{Anything, Always, Lays, known, seq, seq_fixed, done_laid, laid_as, fits_as, spelled_as, placed, tested}
use Rattle.wire_core.specs.Laws.Words.{number_laid, exact_laid, limited_laid, filled_laid}
use Rattle.wire_core.specs.Laws.Lists.{list_laid}
use Rattle.wire_core.specs.declared.limits.TheConstants.{MAX_MESSAGE}
use Rattle.forwarding_header.specs.declared.header.TheConstants.{TOKEN, VERSION, WHOLE, MAX_HEADER_LIST}
use Rattle.forwarding_header.specs.declared.header.Header.{Header}
use Rattle.forwarding_header.specs.Destinations.{destinations, IsDestinationInRange}
use Rattle.forwarding_header.specs.Options.{options, IsSpelledOption, IsOptionInRange}
use Rattle.forwarding_header.specs.Header.{fixed, lists, header, IsSpelledHeader, IsHeaderInRange, message_length_at, fixed_at, lists_at, header_at}
use Rattle.forwarding_header.specs.Laws.Destinations.{DestinationFits, destination_laid, destination-some}
use Rattle.forwarding_header.specs.Laws.Options.{option_laid, option-some}

-- a header without its lists
bare : Header → Header
bare h = record h { via = []; dest = []; options = [] }

same_header : (g h : Header) → g.overlay ≡ h.overlay → g.sequence ≡ h.sequence → g.ttl ≡ h.ttl → g.length ≡ h.length → g.id ≡ h.id → g.max_response ≡ h.max_response
    → g.via ≡ h.via → g.dest ≡ h.dest → g.options ≡ h.options → g ≡ h
same_header g h a b c d e f v w o = λ i. record { overlay = a i; sequence = b i; ttl = c i; length = d i; id = e i; max_response = f i; via = v i; dest = w i; options = o i }

-- its numbers fit their fields
record AreFixed (end : ℕ) (h : Header) : Type 0 where
  overlay : h.overlay < 2 ^ 32
  sequence : h.sequence < 2 ^ 16
  ttl : h.ttl < 2 ^ 8
  length_is : h.length ≡ end
  within : h.length ≤ MAX_MESSAGE
  id : h.id < 2 ^ 64
  max_response : h.max_response < 2 ^ 32

abbrev IsBare : Header → Type 0
IsBare h = (h.via ≡ []) × (h.dest ≡ []) × (h.options ≡ [])

-- each entry fits
record AreEntries (h : Header) : Type 0 where
  via : All DestinationFits h.via
  dest : All DestinationFits h.dest
  options : All (λ o. IsSpelledOption o × IsOptionInRange o) h.options

-- the lists fit
record AreLists (h : Header) : Type 0 where
  is_spelled : IsSpelledHeader h
  via : All IsDestinationInRange h.via
  dest : All IsDestinationInRange h.dest
  options : All IsOptionInRange h.options

AreLists-from_entries : (h : Header) → length (destinations h.via) ≤ MAX_HEADER_LIST → length (destinations h.dest) ≤ MAX_HEADER_LIST → length (options h.options) ≤ MAX_HEADER_LIST → AreEntries h → AreLists h
AreLists-from_entries h v d o e = record {
  is_spelled = record { each_via = λ k x lt. (e.via k x lt).0; each_dest = λ k x lt. (e.dest k x lt).0; each_option = λ k x lt. (e.options k x lt).0; via_length = v; dest_length = d; options_length = o };
  via = λ k x lt. (e.via k x lt).1;
  dest = λ k x lt. (e.dest k x lt).1;
  options = λ k x lt. (e.options k x lt).1;
}

AreEntries-from_lists : (h : Header) → AreLists h → AreEntries h
AreEntries-from_lists h l = record {
  via = λ k x lt. (l.is_spelled.each_via k x lt, l.via k x lt);
  dest = λ k x lt. (l.is_spelled.each_dest k x lt, l.dest k x lt);
  options = λ k x lt. (l.is_spelled.each_option k x lt, l.options k x lt);
}

-- what has a header in a message that ends at a place
pub record FitsBefore (end : ℕ) (h : Header) : Type 0 where
  pub is_spelled : IsSpelledHeader h
  pub in_range : IsHeaderInRange h
  pub length_is : h.length ≡ end
  pub within : h.length ≤ MAX_MESSAGE

module _ {n : ℕ} where
  -- the length of a message that ends at a place
  message_length_laid : (end : ℕ) → end ≤ n → Lays n Anything Always (λ len. (len ≡ end) × (len ≤ MAX_MESSAGE)) (number 4) (message_length_at end)
  unfolding message_length_at
  message_length_laid end in_part =
      let law = placed {n = n} (λ place le. seq {Known = Always} {Fits = λ len. len ≡ end} (λ len. len) (limited_laid 4 MAX_MESSAGE) (λ len f.
      tested (leb len end) place LengthPast (λ _. le) (λ y k e. le-leb len end (omega (arith, k.0, e))) (λ low.
      tested (leb end len) len Trailing (λ past. omega (arith, leb-false end len past, in_part)) (λ y k e. le-leb end len (omega (arith, k.0, e))) (λ high.
      fits_as _ (done_laid len (refl, tt) (λ z k. k.0)) (λ y k e. omega (arith, k.0, leb-true len end low, leb-true end len high)) (λ y k e. tt))))) in
      spelled_as (number 4) (fits_as _ law (λ len k f. (f.1, f.0.1)) (λ len k f. ((omega (arith, f.1), f.1), f.0))) (λ len k f. append-nil (number 4 len))

  fixed_laid : (end : ℕ) → end ≤ n → Lays n Anything Always (λ h. AreFixed end h × IsBare h) fixed (fixed_at end)
  unfolding fixed fixed_at
  fixed_laid end in_part =
      laid_as Always (λ h. AreFixed end h × IsBare h) (seq_fixed (exact_laid 4 TOKEN (lit< tt)) (
      seq (λ h. h.overlay) (number_laid 4) (λ overlay _. seq (λ h. h.sequence) (number_laid 2) (λ sequence _.
      seq_fixed (exact_laid 1 VERSION (lit< tt)) (seq (λ h. h.ttl) (number_laid 1) (λ ttl _.
      seq_fixed (exact_laid 4 WHOLE (lit< tt)) (seq (λ h. h.length) (message_length_laid end in_part) (λ len _.
      seq (λ h. h.id) (number_laid 8) (λ id _. seq {Known = λ h. (h.id ≡ id) × ((h.length ≡ len) × ((h.ttl ≡ ttl) × ((h.sequence ≡ sequence) × ((h.overlay ≡ overlay) × IsBare h))))} (λ h. h.max_response) (number_laid 4) (λ max _.
      done_laid (record { overlay = overlay; sequence = sequence; ttl = ttl; length = len; id = id; max_response = max; via = []; dest = []; options = [] })
      (refl, (refl, (refl, (refl, (refl, (refl, (refl, refl, refl)))))))
      (λ h k. same_header h _ k.1.1.1.1.1.0 k.1.1.1.1.0 k.1.1.1.0 k.1.1.0 k.1.0 k.0 k.1.1.1.1.1.1.0 k.1.1.1.1.1.1.1 k.1.1.1.1.1.1.2)))))))))))
      (λ h k f. (tt, (record { overlay = f.0; sequence = f.1.0; ttl = f.1.1.0; length_is = f.1.1.1.0.0; within = f.1.1.1.0.1; id = f.1.1.1.1.0; max_response = f.1.1.1.1.1.0 }, k)))
      (λ h k f. (f.1, (f.0.overlay, (f.0.sequence, (f.0.ttl, ((f.0.length_is, f.0.within), (f.0.id, (f.0.max_response, tt))))))))

  lists_laid : (x : Header) → IsBare x → Lays n Anything (λ h. (bare h ≡ x) × Unit {0}) AreLists lists (lists_at x)
  unfolding lists lists_at bare
  lists_laid x none =
      let list_of_destinations = list_laid {n = n} (known destination_laid) (λ d f. destination-some d) in
      let list_of_options = list_laid {n = n} (known option_laid) (λ o f. option-some o) in
      laid_as _ AreLists (placed (λ via_place via_le. seq {Known = λ h. (bare h ≡ x) × Unit {0}} (λ h. length (destinations h.via)) (limited_laid 2 MAX_HEADER_LIST) (λ via_length _.
      placed (λ dest_place dest_le. seq (λ h. length (destinations h.dest)) (limited_laid 2 MAX_HEADER_LIST) (λ dest_length _.
      placed (λ options_place options_le. seq (λ h. length (options h.options)) (limited_laid 2 MAX_HEADER_LIST) (λ options_length _.
      fits_as AreEntries (seq (λ h. h.via) (filled_laid via_place via_length via_le list_of_destinations) (λ via v.
      seq (λ h. h.dest) (filled_laid dest_place dest_length dest_le list_of_destinations) (λ dest d.
      seq (λ h. h.options) (filled_laid options_place options_length options_le list_of_options) (λ os o.
      done_laid (record x { via = via; dest = dest; options = os })
      (refl, (refl, (refl, (o.1, (d.1, (v.1, (same_header _ x refl refl refl refl refl refl (sym none.0) (sym none.1) (sym none.2), tt)))))))
      (λ h k. let e = k.1.1.1.1.1.1.0 in
      same_header h _ (ap (λ (y : Header). y.overlay) e) (ap (λ (y : Header). y.sequence) e) (ap (λ (y : Header). y.ttl) e) (ap (λ (y : Header). y.length) e) (ap (λ (y : Header). y.id) e) (ap (λ (y : Header). y.max_response) e)
      k.1.1.0 k.1.0 k.0)))))
      (λ h k f. record { via = f.0.0; dest = f.1.0.0; options = f.1.1.0.0 })
      (λ h k f. ((f.via, k.1.1.0), ((f.dest, k.1.0), ((f.options, k.0), tt)))))))))))
      (λ h k f. (k, AreLists-from_entries h f.0.1 f.1.0.1 f.1.1.0.1 f.1.1.1))
      (λ h k f. let s = f.is_spelled in
      (k, ((omega (arith, s.via_length), s.via_length), ((omega (arith, s.dest_length), s.dest_length), ((omega (arith, s.options_length), s.options_length), AreEntries-from_lists h f)))))

  pub header_laid : (end : ℕ) → end ≤ n → Lays n Anything Always (FitsBefore end) header (header_at end)
  unfolding header_at bare fixed
  header_laid end in_part =
      fits_as (FitsBefore end) (spelled_as header (seq {Known = Always} bare (fixed_laid end in_part) (λ x f. lists_laid x f.1)) (λ h k f. refl))
      (λ h k f. let n = f.0.0 in record {
        is_spelled = f.1.is_spelled;
        in_range = record { overlay = n.overlay; sequence = n.sequence; ttl = n.ttl; id = n.id; max_response = n.max_response; via = f.1.via; dest = f.1.dest; options = f.1.options };
        length_is = n.length_is;
        within = n.within;
      })
      (λ h k f. let r = f.in_range in (
        (record { overlay = r.overlay; sequence = r.sequence; ttl = r.ttl; length_is = f.length_is; within = f.within; id = r.id; max_response = r.max_response }, (refl, refl, refl)),
        record { is_spelled = f.is_spelled; via = r.via; dest = r.dest; options = r.options },
      ))
