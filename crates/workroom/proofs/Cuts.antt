-- Parts that were cut are joined again, and every list of parts is such a cutting. A line that one call takes whole
-- leaves the same in any cuts.
-- Assumes nothing.
use Rattle.std.proofs.Common.{ℕ, ◌<◌, ◌≡◌, sym, ap, ◌∙◌, true, false, List, [], ◌∷◌, ◌++◌, append-nil, arith, length}
use Rattle.std.proofs.Common.{drop, take-append-drop}
use Rattle.std.proofs.Math.Seq.{take-append_seam, drop-append_seam}
use Rattle.record.specs.Limits.{places_count}
use Rattle.record.specs.Legal.{is_legal}
use Rattle.record.specs.Places.{connection_at, is_closed}
use Rattle.record.specs.declared.types.Device.{Device}
use Rattle.stream.specs.Machine.{stream_of}
use Rattle.stream.proofs.WholeParts.{uncut_none, uncut_more, handed_parts-cons}
use Rattle.text.specs.Outcomes.{number_answered}
use Rattle.device.specs.Calls.{reply_room, received_at}
use Rattle.device.proofs.SameCuts.{receives, received_however_cut}
use Rattle.workroom.specs.Workroom.{cut_at, handed_there}

one_part : (l : List ℕ) → stream_of (l ∷ []) ≡ l
one_part l = uncut_more l [] ∙ ap (λ (r : List ℕ). l ++ r) uncut_none ∙ append-nil l

pub stream_of-cut_at : (ns l : List ℕ) → stream_of (cut_at ns l) ≡ l
stream_of-cut_at [] l = one_part l
stream_of-cut_at (n ∷ ns) l = grind (arith, uncut_more, take-append-drop, stream_of-cut_at ns (drop n l))

-- no cutting is left out
abbrev pub lengths_of : List ℕ → List (List ℕ) → List ℕ
lengths_of p [] = []
lengths_of p (q ∷ ps) = length p ∷ lengths_of q ps

pub list_all_cutting : (p : List ℕ) (ps : List (List ℕ)) → cut_at (lengths_of p ps) (stream_of (p ∷ ps)) ≡ p ∷ ps
list_all_cutting p [] = ap (λ (l : List ℕ). l ∷ []) (one_part p)
list_all_cutting p (q ∷ ps) = grind (arith, uncut_more, take-append_seam, drop-append_seam, list_all_cutting q ps)

pub handed_in_cuts : (d : Device) (p : ℕ) (there l : List ℕ) → p < places_count → is_legal d ≡ true
    → is_closed (connection_at d p) ≡ false
    → let r = received_at d p l reply_room in
    number_answered r ≡ length l → handed_there d p there l ≡ record { state = r.leaves; reply = r.bytes }
handed_in_cuts d p there l place legal live all =
    received_however_cut reply_room (omega arith) p place d legal live (cut_at there l) (l ∷ [])
    (stream_of-cut_at there l ∙ sym (one_part l))
    ∙ handed_parts-cons (receives reply_room p) d l all
