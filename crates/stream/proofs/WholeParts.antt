-- A stream part by part, and one that is handed on in one part which a single call takes whole: what it leaves is what
-- that call left.
-- Assumes nothing.
use Rattle.std.proofs.Common.{ℕ, ◌≤◌, ◌≡◌, refl, ap, ◌∙◌, List, [], ◌∷◌, ◌++◌, append-nil, arith, length}
use Rattle.std.proofs.Common.{drop_of_length-le}
use Rattle.stream.specs.Machine.{Out, Took, without_reply, reply_then, handed_rest, handed_part, handed_parts}
use Rattle.stream.specs.Machine.{stream_of}

pub uncut_none : stream_of [] ≡ []
unfolding stream_of
uncut_none = refl

pub uncut_more : (p : List ℕ) (ps : List (List ℕ)) → stream_of (p ∷ ps) ≡ p ++ stream_of ps
unfolding stream_of
uncut_more p ps = refl

module _ {D : Type 0} (f : D → List ℕ → Took D) where
  none_handed : (n : ℕ) (d : D) → handed_rest f n d [] ≡ without_reply d
  unfolding handed_rest
  none_handed n d = grind arith

  abbrev left : D → List ℕ → Out D
  left d p = record { state = (f d p).state; reply = (f d p).reply }

  module _ (d : D) (p : List ℕ) (all : (f d p).taken ≡ length p) where
    abbrev then_nothing : Out D → Out D
    then_nothing o = reply_then o.reply (without_reply o.state)

    nothing_then : (o : Out D) → then_nothing o ≡ o
    nothing_then o = ap {B = Out D} (λ (r : List ℕ). record { state = o.state; reply = r }) (append-nil o.reply)

    part_left : handed_part f d p ≡ left d p
    part_left =
        let past : length p ≤ (f d p).taken = omega (arith, all) in
        ap (λ (r : List ℕ). reply_then (f d p).reply (handed_rest f (length p) (f d p).state r))
        (drop_of_length-le p past)
        ∙ ap (reply_then (f d p).reply) (none_handed (length p) (f d p).state)
        ∙ nothing_then (left d p)

    pub handed_parts-cons : handed_parts f d (p ∷ []) ≡ left d p
    unfolding handed_parts
    handed_parts-cons = nothing_then (handed_part f d p) ∙ part_left
