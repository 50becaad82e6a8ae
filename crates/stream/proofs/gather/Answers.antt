-- The bytes before the first CR, collected all at once.
use Rattle.std.proofs.Common.{◌≡◌, ℕ, ◌-◌, ap, sym, ◌∙◌, length, take, List, nat_lt}
use Prim.Native.Char.{code}
use Rattle.std.proofs.Math.Nat.{sub-zero}
use Rattle.text.specs.Scans.{index_of}
use Rattle.record.specs.Legal.{held_most}
use Rattle.record.specs.Views.{phase_number}
use Rattle.record.proofs.ConnectionTold.{held_most_room}
use Rattle.record.specs.declared.types.CollectedLine.{CollectedLine}
use Rattle.stream.specs.Collecting.{Gathered}
use Rattle.stream.specs.Collecting.{line_after, collected_all, gathered_from}
use Rattle.stream.proofs.AllAtOnce.{all_at_once}
use Rattle.stream.proofs.gather.Goals as goal

pub collect-requires : goal.collect-requires
collect-requires c = rw c.held_most.ensures (held_most_room (phase_number c.args.phase))

all : (bs : List ℕ) (l : CollectedLine) (most : ℕ) → gathered_from most l bs ≡ record {
  line = collected_all most l (take (index_of (code "\r") bs) bs);
  before = index_of (code "\r") bs;
  ended = nat_lt (index_of (code "\r") bs) (length bs);
}
unfolding gathered_from
all bs l most = all_at_once (code "\r") (line_after most) l bs

pub returns-clause-line : goal.returns-clause-line
returns-clause-line c =
    let bs = c.args.bytes.now in
    let e = c.find-before.ensures.place in
    let until = ap (λ (n : ℕ). n - 0) e ∙ sub-zero (index_of (code "\r") bs) in
    c.collect.ensures ∙ (λ i. collected_all (c.held_most.ensures i) c.args.line.now (take (until i) bs))
    ∙ sym (ap (λ (g : Gathered). g.line) (all bs c.args.line.now (held_most (phase_number c.args.phase))))

pub returns-clause-before : goal.returns-clause-before
returns-clause-before c =
    c.find-before.ensures.place
    ∙ sym (ap (λ (g : Gathered). g.before) (all c.args.bytes.now c.args.line.now (held_most (phase_number
    c.args.phase))))

pub returns-clause-ended : goal.returns-clause-ended
returns-clause-ended c =
    ap (λ (n : ℕ). nat_lt n (length c.args.bytes.now)) c.find-before.ensures.place
    ∙ sym (ap (λ (g : Gathered). g.ended) (all c.args.bytes.now c.args.line.now (held_most (phase_number
    c.args.phase))))
