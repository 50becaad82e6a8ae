-- There are more than a day has, and so the day is out of range too.
use Rattle.std.proofs.Common.{refl, inl}
use Rattle.board.specs.Lent.{day_lists}
use Rattle.board.proofs.FitsADay.{day_fits}
use Rattle.board.proofs.lists.DayLists.plan.Goals as goal

pub returns-then-not-can_be_a_day : goal.returns-then-not-can_be_a_day
returns-then-not-can_be_a_day c =
    let alike = c.if-not-have_one_length.ensures.0 refl in
    inl (
      (alike, c.if-room-self.false),
      λ w. cc (c.if-not-can_be_a_day.ensures.1 (day_fits (day_lists c.args.self.now) w)),
    )
