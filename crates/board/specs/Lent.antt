-- The lists that a day call is given, as the lists of numbers in them.
--   day_lists l
-- Assumes nothing.
use Rattle.board.specs.Lists.{Lists, lists}
use Rattle.board.specs.declared.lists.DayLists.{DayLists}

abbrev pub day_lists : DayLists → Lists
day_lists l = lists l.starts.now l.lengths.now l.allowed.now l.warm.now l.cool.now l.life.now
