use Rattle.std.proofs.Common.{◌≡◌, ◌+◌, List, [], ◌∷◌, ◌++◌, length, take, drop, set, ap, sym, ◌∙◌, arith, w64}
use Rattle.std.proofs.Common.{slice_index_or, ℤ}
use Rattle.std.proofs.lemmas.Int.{to_z-of_z}
use Rattle.std.proofs.lemmas.List.{take_more, map-append, length-map, length-take-le}
use Rattle.service.specs.Differences.{difference_of, differences}
use Rattle.service.proofs.Filling.{set_next}
use Rattle.service.proofs.OneAnswer.{unread}
use Rattle.service.proofs.put_differences.Goals as goal

pub loop-i-preserved : goal.loop-i-preserved
loop-i-preserved c =
    let rs = c.args.readings.now in
    let out = c.args.out.now in
    let i = c.loop-i.i in
    let read = to_z-of_z w64 c.difference.result (record { sfits = c.difference.type_inv }) in
    let long : length (differences (take i rs)) ≡ i =
    length-map (take i rs) difference_of ∙ length-take-le i rs (omega arith) in
    (λ t. set (c.loop-i.invariant t) i ((read ∙ c.difference.ensures) t))
    ∙ set_next (differences (take i rs)) out i (difference_of (slice_index_or rs i unread)) long (omega arith)
    ∙ ap (λ (s : List ℤ). s ++ drop (i + 1) out)
    (sym (ap differences (take_more rs i unread c.loop-i-test.true)
    ∙ map-append difference_of (take i rs) (slice_index_or rs i unread ∷ [])))
