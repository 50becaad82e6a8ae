-- There are more than a table has, and so there are too many readings.
use Rattle.std.proofs.Common.{length, Err, refl, inl, arith}
use Rattle.std.proofs.lemmas.List.FromFn.{length-map-range_with_len}
use Rattle.service.specs.declared.CompareError.TheVariants.{TooMany}
use Rattle.board.specs.Lists.{reading_at}
use Rattle.board.proofs.lamps.pj_compare_lamps.Goals as goal

pub returns-then-earlier-gt-TABLE_MOST : goal.returns-then-earlier-gt-TABLE_MOST
returns-then-earlier-gt-TABLE_MOST c =
    let long = length-map-range_with_len (reading_at c.args.earlier.now c.args.later.now) 0
    (length c.args.earlier.now) in
    inl (
      c.if-later-earlier.false,
      (
        Err TooMany,
        record { told = omega (arith, long, c.if-earlier-gt-TABLE_MOST.true); written = tt; kept = refl },
        c.from.ensures,
      ),
    )
